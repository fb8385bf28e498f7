-- Calls on a record that is lent as its file: what the buffer holds afterwards, and each call's number, by whether the list
-- gives it one and whether the buffer has room for the file; and the journal itself where there is room for every file.
-- Assumes nothing.
use Rattle.std.specs.Prelude.{◌≡◌, Bool, ℕ, ◌+◌, ◌≤◌, ◌<◌, eqb, get_or}
use Rattle.std.proofs.Math.Path.{refl, sym, ap}
use Rattle.std.proofs.Common.{◌∙◌, take_at}
use Rattle.std.proofs.Math.Bool.{true, false, cond}
use mathlib.Core.List.{List, [], ◌∷◌, ◌++◌, append_assoc}
use Rattle.std.proofs.Math.Option.{Option, none, some}
use Rattle.std.proofs.Math.Decide.{dec_le}
use native.Mathlib.Omega.{arith}
use Rattle.std.proofs.Math.ListN.{length, take, drop, length-append, length-drop}
use Rattle.std.proofs.Math.Seq.{take-append_seam}
use borrow.Author.Tests.{eqb-true, eqb-false, lt-ltb, le-ltb}
use Rattle.paper.specs.declared.Entry.{Entry}
use Rattle.paper.specs.File.{bytes_of, number_of, body_as, file_as, version, file_bytes}
use Rattle.paper.specs.Record.{is_none}
use Rattle.paper.specs.Refusals.{accepted_after, accepted, file_of, first_number, reading_number, writing_number}
use Rattle.paper.specs.Answers.{over}
use Rattle.paper.specs.Journal as journal
use Rattle.paper.specs.Journal.{Call, call_number, accepted_call, after_by, journal_by, numbers_by, numbers}
use Rattle.format.specs.Numbers.{length-bytes, number_back}
use Rattle.format.specs.Files.{allows_all, read_written}
use Rattle.judge.proofs.Accepted.{at_most_64}
use Rattle.record.proofs.Following.{call_accepted}
use Rattle.front.specs.Front.{file_in, held_in}
use Rattle.file.proofs.Lengths.{longest_is}
use Rattle.lent.specs.Lent.{lent_file, lent_by, lent_call, lent_read, number_in, journal_in, numbers_in}
use Rattle.front.proofs.Fronts.{held_accepted}
use Rattle.lent.proofs.Answers.{file_put, file_short}

-- ---- a file at the front

-- is what the buffer holds
module _ (es : List Entry) (s : List ℕ) (a : accepted es ≡ true) where
  -- the longest file has 3,910 bytes
  few : length (file_bytes es) ≤ 3910
  few = longest_is.most es a

  front_is : file_in (over (file_bytes es) s) ≡ file_bytes es
  unfolding file_in over file_as
  front_is =
      let body = body_as version es in
      let head = bytes_of 4 (length body) in
      let rest = drop (length (head ++ body)) s in
      let whole : length (head ++ body) ≡ 4 + length body = omega (arith, length-append head body, length-bytes 4 (length body)) in
      let first : take 4 ((head ++ body) ++ rest) ≡ head = rw (append_assoc head body rest) (take_at head (body ++ rest) 4 (length-bytes 4 (length body))) in
      let number : number_of (take 4 ((head ++ body) ++ rest)) ≡ length body = ap number_of first ∙ number_back 4 (length body) (omega (arith, few, whole)) in
      ap (λ (n : ℕ). take n ((head ++ body) ++ rest)) (ap (λ (n : ℕ). 4 + n) number ∙ sym whole) ∙ take-append_seam (head ++ body) rest

  put_held : held_in (over (file_bytes es) s) ≡ some es
  unfolding held_in
  put_held = ap file_of front_is ∙ read_written version es (allows_all es) a (at_most_64 es a)

  put-length : length (file_bytes es) ≤ length s → length (over (file_bytes es) s) ≡ length s
  unfolding over
  put-length h = omega (arith, length-append (file_bytes es) (drop (length (file_bytes es)) s), length-drop (length (file_bytes es)) s)

-- ---- one call

-- a buffer of n bytes holds a list
pub record Holds (n : ℕ) (es : List Entry) (s : List ℕ) : Type 0 where
  pub list : held_in s ≡ some es
  pub room : length s ≡ n

-- a call answers a number and leaves a buffer that holds a list
abbrev pub Leaves : ℕ → ℕ × List ℕ → ℕ → List Entry → Type 0
Leaves n p k es = (p.0 ≡ k) × Holds n es p.1

-- a fresh record
pub fresh_leaves : (s : List ℕ) → (lent_file [] s).0 ≡ 0 → Holds (length s) [] (lent_file [] s).1
unfolding accepted accepted_after
fresh_leaves s e =
    elim (dec_le (length (file_bytes [])) (length s)) as (λ d. Holds (length s) [] (lent_file [] s).1) [
      | yes h ↦ rw (file_put [] s h) (record { list = put_held [] s refl; room = put-length [] s refl h })
      | no h ↦ absurd (omega (arith, sym (ap (λ p. p.0) (file_short [] s (omega arith))) ∙ e))
    ]

module _ (n : ℕ) (es : List Entry) (s : List ℕ) (h : Holds n es s) (x : Call) where
  -- an accepted call, by whether there is room for the file
  by_margin : call_number es x ≡ 0 → Leaves n (lent_file (accepted_call es x) s) (writing_number (accepted_call es x) n) (cond (eqb (writing_number (accepted_call es x) n) 0) (accepted_call es x) es)
  unfolding writing_number first_number
  by_margin e =
      let fs = accepted_call es x in
      let a = call_accepted es x (held_accepted s es h.list) e in
      let m = length (file_bytes fs) in
      elim (dec_le m n) as (λ d. Leaves n (lent_file fs s) (writing_number fs n) (cond (eqb (writing_number fs n) 0) fs es)) [
        | yes k ↦
            let r : m ≤ length s = omega (arith, h.room) in
            rw (file_put fs s r, le-ltb n m k) (refl, record { list = put_held fs s a; room = put-length fs s a r ∙ h.room })
        | no k ↦
            let r : length s < m = omega (arith, h.room) in
            let l : n < m = omega arith in
            rw (file_short fs s r, lt-ltb n m l) (refl, h)
      ]

  by_number : (t : Bool) → eqb (call_number es x) 0 ≡ t
      → Leaves n (cond t (lent_file (accepted_call es x) s) (call_number es x, s)) (cond t (writing_number (accepted_call es x) n) (call_number es x)) (cond (eqb (cond t (writing_number (accepted_call es x) n) (call_number es x)) 0) (accepted_call es x) es)
  by_number true e = by_margin (eqb-true (call_number es x) 0 e)
  by_number false e = rw e (refl, h)

  by_list : Leaves n (lent_by (some es) x s) (number_in n es x) (after_by (number_in n) es x)
  unfolding lent_by number_in after_by
  by_list = by_number (eqb (call_number es x) 0) refl

  pub call_leaves : Leaves n (lent_call x s) (number_in n es x) (after_by (number_in n) es x)
  unfolding lent_call
  call_leaves = rw h.list by_list

-- reading back goes by the file alone
read_same : (es : List Entry) (xs s : List ℕ) → lent_read xs s ≡ lent_by (some es) (journal.read xs) s
unfolding lent_read lent_by call_number accepted_call reading_number first_number is_none
read_same es xs s = by (file_of xs) refl
  where
    by : (o : Option (List Entry)) → file_of xs ≡ o → lent_read xs s ≡ lent_by (some es) (journal.read xs) s
    by none e = rw e
    by (some fs) e = rw e

pub read_leaves : (n : ℕ) (es : List Entry) (s : List ℕ) → Holds n es s → (xs : List ℕ) → Leaves n (lent_read xs s) (number_in n es (journal.read xs)) (after_by (number_in n) es (journal.read xs))
read_leaves n es s h xs = rw (read_same es xs s) (by_list n es s h (journal.read xs))

-- ---- versions

-- a call on a lent record of whatever version: a refused one leaves every byte, and an accepted one leaves the version that is
-- written in the fifth place
abbrev pub Renewed : List ℕ → ℕ × List ℕ → Type 0
Renewed s p = (0 < p.0 → p.1 ≡ s) × (p.0 ≡ 0 → get_or p.1 4 0 ≡ version)

file_renewed : (es : List Entry) (s : List ℕ) → Renewed s (lent_file es s)
unfolding over file_as body_as bytes_of
file_renewed es s =
    elim (dec_le (length (file_bytes es)) (length s)) as (λ d. Renewed s (lent_file es s)) [
      | yes h ↦ rw (file_put es s h) (λ k. absurd (omega arith), λ e. refl)
      | no h ↦ rw (file_short es s (omega arith)) (λ k. refl, λ e. absurd (omega arith))
    ]

call_by : (o : Option (List Entry)) (x : Call) (s : List ℕ) → Renewed s (lent_by o x s)
unfolding lent_by
call_by none x s = (λ k. refl, λ e. absurd (omega arith))
call_by (some es) x s = by (eqb (call_number es x) 0) refl
  where
    by : (t : Bool) → eqb (call_number es x) 0 ≡ t → Renewed s (cond t (lent_file (accepted_call es x) s) (call_number es x, s))
    by true e = file_renewed (accepted_call es x) s
    by false e = (λ k. refl, λ z. absurd (eqb-false (call_number es x) 0 e z))

pub call_renewed : (x : Call) (s : List ℕ) → Renewed s (lent_call x s)
unfolding lent_call
call_renewed x s = call_by (held_in s) x s

pub read_renewed : (xs s : List ℕ) → Renewed s (lent_read xs s)
unfolding lent_read
read_renewed xs s = call_by (some []) (journal.read xs) s

-- ---- with room for every file

module _ (n : ℕ) (h : 3910 ≤ n) where
  room_by : (t : Bool) (es : List Entry) (x : Call) → accepted es ≡ true → eqb (call_number es x) 0 ≡ t → cond t (writing_number (accepted_call es x) n) (call_number es x) ≡ call_number es x
  unfolding writing_number first_number
  room_by true es x a e =
      let z = eqb-true (call_number es x) 0 e in
      let m = length (file_bytes (accepted_call es x)) in
      rw (le-ltb n m (omega (arith, few (accepted_call es x) [] (call_accepted es x a z)))) (sym z)
  room_by false es x a e = refl

  same_number : (es : List Entry) (x : Call) → accepted es ≡ true → number_in n es x ≡ call_number es x
  unfolding number_in
  same_number es x a = room_by (eqb (call_number es x) 0) es x a refl

  same_list : (es : List Entry) (x : Call) → accepted es ≡ true → after_by (number_in n) es x ≡ after_by call_number es x
  unfolding after_by
  same_list es x a = ap (λ (k : ℕ). cond (eqb k 0) (accepted_call es x) es) (same_number es x a)

  after_by_lem : (t : Bool) (es : List Entry) (x : Call) → accepted es ≡ true → eqb (call_number es x) 0 ≡ t → accepted (cond t (accepted_call es x) es) ≡ true
  after_by_lem true es x a e = call_accepted es x a (eqb-true (call_number es x) 0 e)
  after_by_lem false es x a e = a

  after-accepted : (es : List Entry) (x : Call) → accepted es ≡ true → accepted (after_by call_number es x) ≡ true
  unfolding after_by
  after-accepted es x a = after_by_lem (eqb (call_number es x) 0) es x a refl

  same_from : (xs : List Call) (es : List Entry) → accepted es ≡ true → (numbers_by (number_in n) es xs ≡ numbers_by call_number es xs) × (journal_by (number_in n) es xs ≡ journal_by call_number es xs)
  unfolding numbers_by journal_by
  same_from [] es a = (refl, refl)
  same_from (x ∷ xs) es a =
      let more = same_from xs (after_by call_number es x) (after-accepted es x a) in
      rw (same_number es x a, same_list es x a) (ap (λ (ns : List ℕ). call_number es x ∷ ns) more.0, more.1)

  -- the numbers and the list are those of the journal
  pub room_for_all : (xs : List Call) → (numbers_in n xs ≡ numbers xs) × (journal_in n xs ≡ journal.journal xs)
  unfolding numbers_in journal_in numbers journal.journal accepted accepted_after
  room_for_all xs = same_from xs [] refl
