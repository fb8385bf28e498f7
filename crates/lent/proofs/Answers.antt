-- What the calls answer, each definition computed on what settles it. Assumes nothing.
use mathlib.Core.Path.{◌≡◌, refl, sym, ap, ◌∙◌}
use mathlib.Core.List.{List, [], ◌∷◌, ◌++◌}
use mathlib.Core.Option.{none, some}
use Rattle.std.specs.Prelude.{Result, Ok, Err, Some, None}
use Rattle.std.specs.Prelude.{Option as RustOption}
use Rattle.std.specs.Option.{ok_or}
use Prim.Native.Nat.{ℕ, ◌+◌, ◌-◌, ◌≤◌, ◌<◌}
use native.Mathlib.Omega.{arith}
use lib.ListN.{length, take, drop, set}
use lib.Seq.{take_all, length-take-le}
use borrow.Author.Tests.{eq-eqb, ne_eqb}
use Rattle.laws.specs.Lists.{length_more}
use Rattle.laws.specs.Written.{written}
use Rattle.paper.specs.declared.Entry.{Entry}
use Rattle.paper.specs.declared.Refusal.{Refusal}
use Rattle.paper.specs.declared.Refusal.TheVariants as refusal
use Rattle.paper.specs.Numbers.{number_of, number_in}
use Rattle.paper.specs.Rows.{joined}
use Rattle.paper.specs.File.{bytes_of, entry_bytes, body_as, file_as, version, file_bytes}
use Rattle.paper.specs.Record.{is_none}
use Rattle.paper.specs.Refusals.{file_of, first_number, reading_number}
use Rattle.paper.specs.Answers.{over}
use Rattle.paper.specs.Journal.{Call, undo, read, call_number, accepted_call, without_last, entries_or}
use Rattle.paper.proofs.Lists.{last_apart}
use Rattle.format.specs.Files.{same_length, file_accepted}
use Rattle.record.proofs.Calls.{undo_bare, undo_some}
use Rattle.header.specs.Header.{header_of}
use Rattle.stored.specs.Found.{bytes_in, LastAt}
use Rattle.stored.proofs.Parts.{file_size, too_short, long_enough}
use Rattle.front.specs.Front.{held_in}
use Rattle.lent.specs.Lent.{lent_file, lent_by, lent_call, lent_read}
use Rattle.front.proofs.Fronts.{held_file, held_room}
use Rattle.lent.proofs.Changed.{file_more, put_again, entry_put, entry_left}

-- ---- a file at the front

-- number and buffer of what writing answers
abbrev numbered : Result ℕ Refusal × List ℕ → ℕ × List ℕ
numbered p = (number_in p.0, p.1)

pub file_short : (es : List Entry) (s : List ℕ) → length s < length (file_bytes es) → lent_file es s ≡ (11, s)
unfolding lent_file
file_short es s h = ap numbered (too_short es s h)

pub file_put : (es : List Entry) (s : List ℕ) → length (file_bytes es) ≤ length s → lent_file es s ≡ (0, over (file_bytes es) s)
unfolding lent_file
file_put es s h = ap numbered (long_enough es s h)

-- a fresh record's
fresh_length : length (file_bytes []) ≡ 6
unfolding joined
fresh_length = file_size []

pub fresh_short : (s : List ℕ) → length s < 6 → (11, s) ≡ lent_file [] s
fresh_short s h = sym (file_short [] s (omega (arith, fresh_length)))

pub fresh_put : (s last : List ℕ) → 6 ≤ length s → last ≡ written s 0 (header_of 2 0) → (0, last) ≡ lent_file [] s
unfolding joined
fresh_put s last h l =
    let there : drop 6 s ≡ bytes_in [] ++ drop (length (file_bytes [])) s = ap (λ (k : ℕ). drop k s) (sym fresh_length) in
    ap (λ (xs : List ℕ). (0, xs)) (put_again [] s s last 2 0 (omega (arith, fresh_length)) refl there l)
    ∙ sym (file_put [] s (omega (arith, fresh_length)))

-- ---- one entry more, as the code has it: there is room for it or not

module _ (s : List ℕ) (v : ℕ) (es : List Entry) (e : Entry) (end : ℕ) (h : end ≤ length s) (f : take end s ≡ file_as v es) where
  ends : end ≡ length (file_bytes es)
  ends = sym (length-take-le end s h) ∙ ap length f ∙ same_length v version es

  there : take (length (file_bytes es)) s ≡ file_as v es
  there = ap (λ (k : ℕ). take k s) (sym ends) ∙ f

  pub entry_short : length s - end < length (entry_bytes e) → (11, s) ≡ lent_file (es ++ e ∷ []) s
  entry_short k = sym (file_short (es ++ e ∷ []) s (omega (arith, ends, file_more es e)))

  pub entry_added : (t last : List ℕ) (behind count : ℕ) → end + length (entry_bytes e) ≤ length s → count ≡ length es + 1 → behind ≡ end + length (entry_bytes e) → t ≡ written s end (entry_bytes e) → last ≡ written t 0 (header_of (behind - 4) count) → (0, last) ≡ lent_file (es ++ e ∷ []) s
  entry_added t last behind count k c b m l =
      let fs = es ++ e ∷ [] in
      let put = m ∙ ap (λ (j : ℕ). written s j (entry_bytes e)) ends in
      let size : behind - 4 ≡ length (file_bytes fs) - 4 = omega (arith, ends, file_more es e) in
      let many : count ≡ length fs = omega (arith, length_more es e) in
      ap (λ (xs : List ℕ). (0, xs)) (put_again fs s t last (behind - 4) count size many (ap (drop 6) put ∙ entry_put s v es there e) l)
      ∙ sym (file_put fs s (omega (arith, ends, file_more es e)))

-- ---- a call

by_refused : (es : List Entry) (x : Call) (s : List ℕ) → 0 < call_number es x → lent_by (some es) x s ≡ (call_number es x, s)
unfolding lent_by
by_refused es x s h = rw (ne_eqb (call_number es x) 0 (λ e. omega arith))

by_accepted : (es : List Entry) (x : Call) (s : List ℕ) → call_number es x ≡ 0 → lent_by (some es) x s ≡ lent_file (accepted_call es x) s
unfolding lent_by
by_accepted es x s h = rw (eq-eqb (call_number es x) 0 h)

module _ (x : Call) (s : List ℕ) where
  pub none_held : (n : ℕ) (r : Refusal) → n ≡ number_of r → (held_in s ≡ none) × (r ≡ refusal.NoFile) → (n, s) ≡ lent_call x s
  unfolding lent_call lent_by
  none_held n r e h = rw (e, h.1, h.0)

  module _ (es : List Entry) (h : held_in s ≡ some es) where
    pub refused_held : (n : ℕ) → n ≡ call_number es x → 0 < n → (n, s) ≡ lent_call x s
    unfolding lent_call
    refused_held n e k = rw (h, e) (sym (by_refused es x s (omega arith)))

    pub accepted_held : call_number es x ≡ 0 → lent_call x s ≡ lent_file (accepted_call es x) s
    unfolding lent_call
    accepted_held k = ap (λ o. lent_by o x s) h ∙ by_accepted es x s k

-- taking back: where the last entry is, and where there is none
pub no_last : (es : List Entry) (o : RustOption ℕ) (r : Refusal) → LastAt es o → Err r ≡ ok_or o refusal.Empty → (es ≡ []) × (r ≡ refusal.Empty)
no_last es None r l e = (l, cc)
no_last es (Some n) r l e = cc

pub last_there : (es : List Entry) (o : RustOption ℕ) (n : ℕ) → LastAt es o → Ok n ≡ ok_or o refusal.Empty → (0 < length es) × (n ≡ 6 + length (bytes_in (without_last es)))
last_there es None n l e = cc
last_there es (Some m) n l e = let same : n ≡ m = cc in (l.0, same ∙ l.1)

-- nothing to take back, or the header of one entry less
module _ (s : List ℕ) (es : List Entry) (h : held_in s ≡ some es) where
  pub bare_held : (n : ℕ) → n ≡ 10 → es ≡ [] → (n, s) ≡ lent_call undo s
  unfolding call_number
  bare_held n e k = refused_held undo s es h n (e ∙ sym (undo_bare es (ap length k))) (omega arith)

  pub undone : (last : List ℕ) (n count : ℕ) → 0 < length es → n ≡ 6 + length (bytes_in (without_last es)) → count ≡ length es → last ≡ written s 0 (header_of (n - 4) (count - 1)) → (0, last) ≡ lent_call undo s
  unfolding call_number accepted_call
  undone last n count k e c l =
      let file = held_file s es h in
      let fs = without_last es in
      let r = last_apart es k in
      let many : length es ≡ length fs + 1 = ap length r.1 ∙ length_more fs r.0 in
      let less : length (file_bytes fs) ≤ length (file_bytes es) = omega (arith, ap (λ (l : List Entry). length (file_bytes l)) r.1, file_more fs r.0) in
      let size : n - 4 ≡ length (file_bytes fs) - 4 = omega (arith, file_size fs) in
      let one : count - 1 ≡ length fs = omega arith in
      ap (λ (xs : List ℕ). (0, xs)) (put_again fs s s last (n - 4) (count - 1) size one (entry_left s file.0 es file.1 k) l)
      ∙ sym (file_put fs s (omega (arith, held_room s es h)))
      ∙ sym (accepted_held undo s es h (undo_some es (λ z. omega arith)))

-- ---- reading back

-- a file that is copied and gets the version that is written is the one that writing gives
renewed : (v : ℕ) (es : List Entry) (r : List ℕ) → set (file_as v es ++ r) 4 version ≡ file_bytes es ++ r
unfolding file_as body_as bytes_of
renewed v es r = refl

copied : (xs s t : List ℕ) (v : ℕ) (es : List Entry) → xs ≡ file_as v es → t ≡ take (length xs) xs ++ drop (length xs) s → set t 4 version ≡ over (file_bytes es) s
unfolding over
copied xs s t v es f l =
    let n = length (file_bytes es) in
    let whole : t ≡ file_as v es ++ drop n s =
    l ∙ ap (λ (ys : List ℕ). ys ++ drop (length xs) s) (take_all (length xs) xs (omega arith)) ∙ rw (f, same_length v version es) in
    ap (λ (ys : List ℕ). set ys 4 version) whole ∙ renewed v es (drop n s)

module _ (xs s : List ℕ) where
  pub read_none : (n : ℕ) → n ≡ 12 → file_of xs ≡ none → (n, s) ≡ lent_read xs s
  unfolding lent_read call_number reading_number first_number is_none
  read_none n e h = rw e (sym (by_refused [] (read xs) s (rw h (omega arith)) ∙ rw h))

  read_some : (es : List Entry) → file_of xs ≡ some es → lent_read xs s ≡ lent_file es s
  unfolding lent_read call_number reading_number first_number is_none accepted_call
  read_some es h = by_accepted [] (read xs) s (rw h) ∙ ap (λ o. lent_file (entries_or [] o) s) h

  module _ (es : List Entry) (h : file_of xs ≡ some es) where
    -- the file is of some version
    file_is : (v : ℕ) × (xs ≡ file_as v es)
    file_is = let f = (file_accepted xs es h).1 in (f.0, f.2)

    size : length xs ≡ length (file_bytes es)
    size = ap length file_is.1 ∙ same_length file_is.0 version es

    -- it has a version in its fifth place
    pub read_long : 6 ≤ length xs
    read_long = omega (arith, size, file_size es)

    pub read_short : length s < length xs → (11, s) ≡ lent_read xs s
    read_short k = sym (read_some es h ∙ file_short es s (omega (arith, size)))

    pub read_put : (t : List ℕ) → length xs ≤ length s → t ≡ take (length xs) xs ++ drop (length xs) s → (0, set t 4 version) ≡ lent_read xs s
    read_put t k l =
        ap (λ (ys : List ℕ). (0, ys)) (copied xs s t file_is.0 es file_is.1 l)
        ∙ sym (read_some es h ∙ file_put es s (omega (arith, size)))
