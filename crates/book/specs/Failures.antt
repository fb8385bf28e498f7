-- What a program prints of a logbook that fails.
use Rattle.std.specs.Prelude.{List, ◌++◌, ℕ, codes}
use Rattle.std.specs.Fmt.{decimal}
use Rattle.paper.specs.Numbers.{refusal_text}
use Rattle.book.specs.declared.Failure.{Failure}
use Rattle.book.specs.declared.Failure.TheVariants as failure

-- the number of the line, and what is printed of the refusal
abbrev pub failure_text : Failure → List ℕ
failure_text (failure.Refused i f) = codes "line " ++ decimal i ++ codes ": " ++ refusal_text f
failure_text (failure.NotUnderstood i) = codes "line " ++ decimal i ++ codes ": not understood"
