-- A record lent as its file at the front of a buffer: the list that the buffer holds, and what the calls answer that ask for its
-- centre of gravity, its equipment and its placard. The numbers are the paper's, behind 12 where the buffer holds no record.
use Rattle.std.specs.Prelude.{◌≡◌, List, ℕ, ℤ, ◌+◌, take, Result, Ok, Err, Some, None}
use Rattle.std.specs.Prelude.{Option as RustOption}
use Rattle.std.specs.Borrow.{Bor}
use Rattle.std.proofs.Math.Option.{Option, none, some}
use Rattle.paper.specs.declared.Entry.{Entry}
use Rattle.paper.specs.declared.CentreOfGravity.{CentreOfGravity}
use Rattle.paper.specs.declared.Placard.{Placard}
use Rattle.paper.specs.declared.Refusal.{Refusal}
use Rattle.paper.specs.declared.Refusal.TheVariants as refusal
use Rattle.paper.specs.File.{number_of}
use Rattle.paper.specs.Refusals.{file_of, reading_number}
use Rattle.paper.specs.Answers.{centre_answer, equipment_answer, placard_answer}
use Rattle.stored.specs.declared.Contents.{Contents}
use Rattle.stored.specs.Found.{Finds}

-- the bytes of a buffer that its file takes: four, and as many as these say
unfoldable pub file_in : List ℕ → List ℕ
file_in xs = take (4 + number_of (take 4 xs)) xs

-- the list that a buffer holds, none where no file stands at its front; what stands behind the file is free
unfoldable pub held_in : List ℕ → Option (List Entry)
held_in xs = file_of (file_in xs)

-- the front of a buffer, or none where it is no file for want of bytes
abbrev pub FrontOf : List ℕ → RustOption (Bor (List ℕ)) → Type 0
FrontOf xs None = held_in xs ≡ none
FrontOf xs (Some s) = s.now ≡ file_in xs

-- what is found in the buffer, where o is that list
abbrev pub Holds : Option (List Entry) → Result Contents Refusal → Type 0
Holds o (Ok c) = Finds o (Some c)
Holds o (Err r) = (o ≡ none) × (r ≡ refusal.NoFile)

-- whether it holds one: 0, or 12
unfoldable pub check_number : List ℕ → ℕ
check_number xs = reading_number (file_in xs)

-- centre of gravity
unfoldable pub centre_for : Option (List Entry) → Result CentreOfGravity Refusal
centre_for none = Err refusal.NoFile
centre_for (some es) = centre_answer es

-- equipment by station into three columns: the answer, and the columns
unfoldable pub equipment_for : Option (List Entry) → List ℤ → List ℤ → List ℤ → Result ℕ Refusal × List ℤ × List ℤ × List ℤ
equipment_for none arms weights nonlifting = (Err refusal.NoFile, arms, weights, nonlifting)
equipment_for (some es) arms weights nonlifting = equipment_answer es arms weights nonlifting

-- placard into another buffer: the answer, and that buffer
unfoldable pub placard_for : Option (List Entry) → List ℕ → Result Placard Refusal × List ℕ
placard_for none out = (Err refusal.NoFile, out)
placard_for (some es) out = placard_answer es out
