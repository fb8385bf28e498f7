-- A walk over a file's entries: what is known of it before each of them, and at its end.
use Rattle.std.specs.Prelude.{◌≡◌, true, List, [], ◌∷◌, ◌++◌, ℕ, ◌+◌, length, Some, None}
use Rattle.std.specs.Prelude.{Option as RustOption}
use Rattle.std.proofs.Math.Option
use Rattle.std.proofs.Math.Option.{none}
use Rattle.std.proofs.Math.Pow.{are_bytes}
use Rattle.paper.specs.declared.Entry.{Entry}
use Rattle.paper.specs.Numbers.{code_of}
use Rattle.paper.specs.File.{take_entries, kinds_to, only_kinds}
use Rattle.paper.specs.Refusals.{accepted, only_accepted, file_of}
use Rattle.judge.specs.declared.Standing.{Standing}
use Rattle.judge.specs.Standing.{Stands, stands_in, plainly}
use Rattle.reader.specs.declared.Reader.{Reader}
use Rattle.reader.specs.Reading.{unread, last_of}
use Rattle.stored.specs.Found.{bytes_in}

-- the list that a file of the version that has the kinds up to k comes to, where es are passed and n are to come, which ys are
abbrev pub list_behind : ℕ → List Entry → ℕ → List ℕ → Option.Option (List Entry)
list_behind k es n ys = only_accepted (only_kinds k (Option.map (λ (fs : List Entry). es ++ fs) (take_entries n ys)))

-- in xs, es are passed, in which o stands, and n are to come, which ys are
pub record WalkedTo (xs : List ℕ) (es : List Entry) (n k : ℕ) (ys : List ℕ) (o : Stands) : Type 0 where
  pub stands : o ≡ stands_in es
  pub fine : accepted es ≡ true
  pub kinds : kinds_to k es ≡ true
  pub list : file_of xs ≡ list_behind k es n ys
  pub bytes : are_bytes ys ≡ true
  pub place : 6 + length (bytes_in es) + length ys ≡ length xs

abbrev pub Walked : List ℕ → List Entry → ℕ → Reader → Standing → Type 0
Walked xs es n r t = WalkedTo xs es n (code_of (last_of r)) (unread r).now (plainly t)

-- behind one entry more, or xs are no file
abbrev pub Goes : List ℕ → List Entry → ℕ → RustOption Entry → Reader → Standing → Type 0
Goes xs es n None r t = file_of xs ≡ none
Goes xs es n (Some e) r t = Walked xs (es ++ e ∷ []) n r t
