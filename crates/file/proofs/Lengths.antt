-- The longest file is that of as many sheets as there may be entries: no entry takes more bytes than a sheet does.
-- Assumes nothing.
use mathlib.Core.Path.{◌≡◌, refl, ◌∙◌}
use mathlib.Core.Bool.{true}
use mathlib.Core.List.{List, [], ◌∷◌, ◌++◌}
use Prim.Native.Nat.{ℕ, zero, suc, ◌+◌, ◌*◌, ◌≤◌, ◌<◌}
use native.Mathlib.Omega.{arith}
use lib.IntN.{pos}
use lib.ListN.{length}
use borrow.Author.Tests.{lt-leb}
use Rattle.laws.specs.Lists.{length_more}
use Rattle.paper.specs.declared.Entry.{Entry}
use Rattle.paper.specs.declared.Entry.TheVariants as entry
use Rattle.paper.specs.Units.{is_weight, is_arm}
use Rattle.paper.specs.Rows.{row_count, joined}
use Rattle.paper.specs.File.{bytes_of, field_bytes, layout_of, fields_bytes, entry_bytes}
use Rattle.paper.specs.Refusals.{capacity, first_number, full, bad_arms, bad_ranges, bad_rows, sheet_faults, sheet_number, entry_number, accepted_after, accepted}
use Rattle.format.specs.Files.{file_length}
use Rattle.judge.proofs.Accepted.{accepted-more, at_most_64}
use Rattle.stored.specs.Found.{bytes_in}
use Rattle.stored.proofs.Parts.{file_size}
use Rattle.stored.proofs.Parts.{length_in}
use Rattle.file.specs.Longest.{IsLongest}

-- a sheet that is accepted wherever there is room
abbrev sheet : Entry
sheet =
    entry.Sheet
    (record {
      fwd = pos 0;
      aft = pos 1;
      dry = 1;
      wet = 1;
      nlp = 0;
      front = record { arm = pos 0; most = 0; step = 1 };
      least = 0;
      rear = record { arm = pos 0; most = 0; step = 1 };
      water = record { arm = pos 0; most = 0; step = 1 };
    })

taken : (es : List Entry) → length es < capacity → entry_number es sheet ≡ 0
unfolding entry_number sheet_number first_number full sheet_faults bad_arms bad_ranges bad_rows row_count is_arm is_weight
taken es h = rw (lt-leb capacity (length es) h)

size : length (entry_bytes sheet) ≡ 61
unfolding entry_bytes fields_bytes field_bytes bytes_of layout_of
size = refl

abbrev sheets : ℕ → List Entry
sheets zero = []
sheets (suc n) = sheets n ++ sheet ∷ []

many : (n : ℕ) → length (sheets n) ≡ n
many zero = refl
many (suc n) = length_more (sheets n) sheet ∙ omega (arith, many n)

all_taken : (n : ℕ) → n ≤ capacity → accepted (sheets n) ≡ true
unfolding accepted accepted_after
all_taken zero h = refl
all_taken (suc n) h = accepted-more (sheets n) sheet (all_taken n (omega arith)) (taken (sheets n) (omega (arith, many n)))

long : (n : ℕ) → length (bytes_in (sheets n)) ≡ 61 * n
unfolding joined
long zero = refl
long (suc n) = omega (arith, length_in (sheets n) sheet, size, long n)

pub longest_is : IsLongest (6 + 61 * capacity)
longest_is =
    record {
      most = λ es a. omega (arith, file_length es, at_most_64 es a);
      reached = (sheets capacity, all_taken capacity (omega arith), omega (arith, file_size (sheets capacity), long capacity));
    }
