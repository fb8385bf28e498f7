-- The record that reading gives.
use Rattle.std.specs.Prelude.{List, Some, None}
use Rattle.std.specs.Prelude.{Option as RustOption}
use Rattle.std.proofs.Math.Option.{Option, none, some}
use Rattle.paper.specs.declared.Entry.{Entry}
use Rattle.record.specs.declared.Record.{Record}
use Rattle.record.specs.Held.{record_of}

-- of the list that some bytes are the file of, none where there is none
abbrev pub record_in : Option (List Entry) → RustOption Record
record_in none = None
record_in (some es) = Some (record_of es)
