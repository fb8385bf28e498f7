-- What bytes are laid out as, by whether their header is right: by the paper's tests, in its order. A walk begins behind a
-- right one. Assumes nothing.
use mathlib.Core.Path.{◌≡◌, refl, ap, ◌∙◌}
use mathlib.Core.Bool.{true, false, cond}
use mathlib.Core.List.{List, [], ◌∷◌}
use mathlib.Core.Option.{Option, none, some, bind}
use Rattle.std.specs.Prelude.{Some}
use Rattle.std.specs.Borrow.{Bor}
use Prim.Native.Nat.{ℕ, ◌-◌, ◌≤◌, ◌<◌}
use native.Mathlib.Decide.{dec_le}
use native.Mathlib.Omega.{arith}
use lib.Dec.{eqb}
use lib.ListN.{length, get_or, take, drop, length-drop}
use lib.Pow.{are_bytes}
use lib.Seq.{drop-drop, get_or-drop}
use borrow.Author.Tests.{le-leb, lt-leb}
use Rattle.laws.specs.Options.{none_either, tests_both}
use Rattle.laws.specs.Tests.{isnt}
use Rattle.paper.specs.declared.Entry.{Entry}
use Rattle.paper.specs.Numbers.{code_of}
use Rattle.paper.specs.Rows.{joined}
use Rattle.paper.specs.File.{number_of, take_number, take_entries, is_version, last_kind, kinds_to, only_kinds, take_body, laid_out}
use Rattle.paper.specs.Refusals.{accepted_after, accepted, only_accepted, file_of}
use Rattle.format.specs.Numbers.{bytes_drop}
use Rattle.format.specs.Entries.{entries_written}
use Rattle.format.specs.Files.{only_kinds_lem}
use Rattle.header.specs.declared.Header.{Header}
use Rattle.header.specs.Header.{headed, TakesHeader}
use Rattle.header.proofs.Judging.{too_few, enough_bytes}
use Rattle.header.specs.Versions as versions
use Rattle.judge.specs.Standing.{Stands, stands_in}
use Rattle.judge.proofs.Accepted.{at_most_64}
use Rattle.reader.specs.declared.Reader.{Reader}
use Rattle.reader.specs.Reading.{unread, last_of}
use Rattle.stored.specs.Walks.{WalkedTo}
use Rattle.stored.proofs.Reading.{none_passed}

-- entries of a version's kinds, by the version and the count that stand in front of them
abbrev listed : ℕ → ℕ → List ℕ → Option (List Entry)
listed v n xs = only_kinds (last_kind v) (take_entries n xs)

body_of : (xs : List ℕ) → 2 ≤ length xs → take_body xs ≡ cond (is_version (get_or xs 0 0)) (listed (get_or xs 0 0) (get_or xs 1 0) (drop 2 xs)) none
unfolding take_body
body_of [] h = absurd (omega arith)
body_of (v ∷ []) h = absurd (omega arith)
body_of (v ∷ n ∷ xs) h = refl

body_none : (xs : List ℕ) → length xs < 2 → take_body xs ≡ none
unfolding take_body
body_none [] h = refl
body_none (v ∷ []) h = refl
body_none (v ∷ n ∷ xs) h = absurd (omega arith)

-- bytes by their header, where there are enough for one, too few behind the length, and too few for that
module _ (xs : List ℕ) where
  behind : length (drop 4 xs) ≡ length xs - 4
  behind = length-drop 4 xs

  -- what stands behind the header
  abbrev entries_in : Option (List Entry)
  entries_in = listed (get_or xs 4 0) (get_or xs 5 0) (drop 6 xs)

  enough : 6 ≤ length xs → laid_out xs ≡ cond (are_bytes xs) (cond (headed xs) entries_in none) none
  unfolding laid_out take_number headed bind
  enough h =
      rw (
        le-leb 4 (length xs) (omega arith),
        le-leb 6 (length xs) h,
        body_of (drop 4 xs) (omega (arith, behind)),
        get_or-drop 4 xs 0 0,
        get_or-drop 4 xs 1 0,
        drop-drop 2 4 xs,
        behind,
        tests_both (eqb (number_of (take 4 xs)) (length xs - 4)) (is_version (get_or xs 4 0)) entries_in,
      )

  too_short : length xs < 6 → laid_out xs ≡ none
  unfolding laid_out take_number bind
  too_short h =
      elim (dec_le 4 (length xs)) as (λ d. laid_out xs ≡ none) [
        | yes k ↦ rw (le-leb 4 (length xs) k, body_none (drop 4 xs) (omega (arith, behind)), none_either (eqb (number_of (take 4 xs)) (length (drop 4 xs))), none_either (are_bytes xs))
        | no k ↦ rw (lt-leb 4 (length xs) (omega arith), none_either (are_bytes xs))
      ]

  by_header : are_bytes xs ≡ true → laid_out xs ≡ cond (headed xs) entries_in none
  by_header b =
      elim (dec_le 6 (length xs)) as (λ d. laid_out xs ≡ cond (headed xs) entries_in none) [
        | yes k ↦ rw b at (enough k)
        | no k ↦ too_short (omega arith) ∙ rw (too_few xs (omega arith))
      ]

  -- whether they are a file
  module _ (b : are_bytes xs ≡ true) where
    pub bad_header : headed xs ≡ false → file_of xs ≡ none
    unfolding file_of
    bad_header e = ap only_accepted (rw e at (by_header b))

    pub good_header : headed xs ≡ true → file_of xs ≡ only_accepted entries_in
    unfolding file_of
    good_header e = ap only_accepted (rw e at (by_header b))

    -- more entries than a record may have
    pub too_many : headed xs ≡ true → 64 < get_or xs 5 0 → file_of xs ≡ none
    too_many e h = more_than entries_in refl
      where
        more_than : (o : Option (List Entry)) → entries_in ≡ o → file_of xs ≡ none
        more_than none t = good_header e ∙ ap only_accepted t
        more_than (some es) t =
            let k = only_kinds_lem (last_kind (get_or xs 4 0)) (take_entries (get_or xs 5 0) (drop 6 xs)) es t in
            let n = (entries_written (get_or xs 5 0) (drop 6 xs) es (bytes_drop 6 xs b) k.1).1 in
            good_header e ∙ ap only_accepted t ∙ rw (isnt (accepted es) (λ a. omega (arith, at_most_64 es a)))

-- a walk begins behind a right header
pub begun : (xs : List ℕ) (header : Header) (rest : Bor (List ℕ)) (reader : Reader) (o : Stands) → are_bytes xs ≡ true → TakesHeader xs (Some (header, rest)) → unread reader ≡ rest → code_of (last_of reader) ≡ last_kind (versions.number_of header.version) → o ≡ stands_in [] → WalkedTo xs [] header.count (code_of (last_of reader)) (unread reader).now o
unfolding accepted accepted_after kinds_to joined
begun xs header rest reader o b h r v s =
    let k : code_of (last_of reader) ≡ last_kind (get_or xs 4 0) = v ∙ ap last_kind h.1 in
    let ys : (unread reader).now ≡ drop 6 xs = ap (λ (t : Bor (List ℕ)). t.now) r ∙ h.3 in
    record {
      stands = s;
      fine = refl;
      kinds = refl;
      list = good_header xs b h.0 ∙ rw (← k, ← h.2, ← ys) (none_passed (code_of (last_of reader)) header.count (unread reader).now);
      bytes = rw ys (bytes_drop 6 xs b);
      place = omega (arith, length-drop 6 xs, enough_bytes xs h.0, ap length ys);
    }
