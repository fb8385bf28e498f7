-- A buffer that holds a list: the list is one that calls give, and the buffer begins with its file in some version. Assumes nothing.
use mathlib.Core.Path.{◌≡◌, sym, ap, ◌∙◌}
use mathlib.Core.Bool.{true, false}
use mathlib.Core.List.{List, ◌++◌}
use mathlib.Core.Option.{none, some}
use mathlib.Core.Logic.{inl, inr}
use Rattle.std.specs.Prelude.{Option as RustOption, Some, None}
use Rattle.std.specs.Borrow.{Bor}
use Rattle.std.specs.Slice.{IsGetRangeResult}
use Prim.Native.Nat.{ℕ, ◌+◌, ◌-◌, ◌≤◌, ◌<◌}
use native.Mathlib.Decide.{dec_le}
use native.Mathlib.Omega.{arith}
use lib.ListN.{length, take, drop, take-append-drop}
use lib.Pow.{are_bytes}
use lib.Seq.{take_all, length-take-le}
use Rattle.paper.specs.declared.Entry.{Entry}
use Rattle.paper.specs.File.{number_of, file_as, version, file_bytes}
use Rattle.paper.specs.Refusals.{accepted, file_of}
use Rattle.format.specs.Files.{same_length, file_accepted}
use Rattle.header.specs.Header.{headed}
use Rattle.header.proofs.Judging.{too_few, wrong_length}
use Rattle.stored.specs.Found.{bytes_in}
use Rattle.stored.proofs.Parts.{entries_behind}
use Rattle.stored.proofs.Headers.{bad_header}
use Rattle.front.specs.Front.{file_in, held_in, FrontOf}

-- the first of a list, as many as were taken
taken_again : (k : ℕ) (s : List ℕ) → take (length (take k s)) s ≡ take k s
taken_again k s =
    elim (dec_le k (length s)) as (λ d. take (length (take k s)) s ≡ take k s) [
      | yes h ↦ rw (length-take-le k s h)
      | no h ↦ rw (take_all k s (omega arith), take_all (length s) s (omega arith))
    ]

taken_most : (k : ℕ) (s : List ℕ) → length (take k s) ≤ length s
taken_most k s =
    elim (dec_le k (length s)) as (λ d. length (take k s) ≤ length s) [
      | yes h ↦ rw (length-take-le k s h) h
      | no h ↦ rw (take_all k s (omega arith)) (omega arith)
    ]

-- the front, where the buffer has fewer bytes than its length says, and where it has them
short : (s : List ℕ) → length s < 4 + number_of (take 4 s) → headed s ≡ false
short s h =
    elim (dec_le 6 (length s)) as (λ d. headed s ≡ false) [
      | yes k ↦ wrong_length s (λ e. omega arith)
      | no k ↦ too_few s (omega arith)
    ]

pub all_of_it : (s : List ℕ) → length s ≤ 4 + number_of (take 4 s) → s ≡ file_in s
unfolding file_in
all_of_it s h = sym (take_all (4 + number_of (take 4 s)) s h)

pub no_front : (s : List ℕ) → are_bytes s ≡ true → length s < 4 + number_of (take 4 s) → held_in s ≡ none
unfolding held_in file_in
no_front s b h =
    ap file_of (sym (all_of_it s (omega arith))) ∙ bad_header s b (short s h)

-- as the code has it
pub front_got : (s : List ℕ) (n : ℕ) (r : RustOption (Bor (List ℕ))) → are_bytes s ≡ true → n ≡ number_of (take 4 s) → IsGetRangeResult s 0 (n + 4) r → FrontOf s r
unfolding file_in
front_got s n None b e h =
    no_front s b (elim h.0 as (λ _. length s < 4 + number_of (take 4 s)) [ inl l ↦ absurd (omega arith) | inr l ↦ omega arith ])
front_got s n (Some x) b e h =
    let k : n + 4 - 0 ≡ 4 + number_of (take 4 s) = omega arith in
    h.0.2 ∙ ap (λ (j : ℕ). take j s) k

module _ (s : List ℕ) (es : List Entry) (h : held_in s ≡ some es) where
  pub held_accepted : accepted es ≡ true
  unfolding held_in
  held_accepted = (file_accepted (file_in s) es h).0

  -- the front is its file, in some version
  file_there : (v : ℕ) × (file_in s ≡ file_as v es)
  unfolding held_in
  file_there = let f = (file_accepted (file_in s) es h).1 in (f.0, f.2)

  size_there : length (file_in s) ≡ length (file_bytes es)
  size_there = ap length file_there.1 ∙ same_length file_there.0 version es

  pub held_file : (v : ℕ) × (take (length (file_bytes es)) s ≡ file_as v es)
  unfolding file_in
  held_file = (
    file_there.0,
    ap (λ (n : ℕ). take n s) (sym size_there) ∙ taken_again (4 + number_of (take 4 s)) s ∙ file_there.1,
  )

  pub held_room : length (file_bytes es) ≤ length s
  unfolding file_in
  held_room = rw (← size_there) (taken_most (4 + number_of (take 4 s)) s)

-- a buffer that begins with a file, in whatever version, has the entries behind the header
pub behind_header : (s : List ℕ) (v : ℕ) (es : List Entry) → take (length (file_bytes es)) s ≡ file_as v es → drop 6 s ≡ bytes_in es ++ drop (length (file_bytes es)) s
behind_header s v es h =
    let n = length (file_bytes es) in
    ap (drop 6) (sym (take-append-drop n s) ∙ ap (λ (xs : List ℕ). xs ++ drop n s) h)
    ∙ entries_behind v es (drop n s)
