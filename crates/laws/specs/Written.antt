-- Elements written into a list from a place on: those before and behind them stay. Assumes nothing.
use Rattle.std.specs.Prelude.{◌≡◌, List, [], ◌∷◌, ◌++◌, ℕ, suc, ◌+◌, ◌-◌, ◌≤◌, ◌<◌, length, get_or, take, drop, set}
use Rattle.std.proofs.Common.{ap, ◌∙◌, sym, append_assoc, append-nil, arith, length-set, length-append, length-drop, take-append-drop, length-take-le, take_all, take-suc, take_at, drop_at, drop-drop}
use Rattle.std.proofs.Math.Seq.{take-append_seam, drop-length, append_snoc}
use Rattle.std.proofs.lemmas.List.{length-take, set_at, set_split}

unfoldable pub written : {A : Type 0} → List A → ℕ → List A → List A
written s at xs = take at s ++ xs ++ drop (at + length xs) s

-- nothing changes nothing
pub written_none : {A : Type 0} (s : List A) (at : ℕ) → written s at [] ≡ s
unfolding written
written_none s at = let e : at + 0 ≡ at = omega arith in rw (e, append-nil (take at s), take-append-drop at s)

pub length-written : {A : Type 0} (s : List A) (at : ℕ) (xs : List A) → at + length xs ≤ length s → length (written s at xs) ≡ length s
unfolding written
length-written s at xs h =
    rw (length-append (take at s ++ xs) (drop (at + length xs) s), length-append (take at s) xs, length-take-le at s (omega arith), length-drop (at + length xs) s)
    (omega arith)

-- one element
pub written_one : {A : Type 0} (s : List A) (at : ℕ) (x : A) → at < length s → set s at x ≡ written s at (x ∷ [])
unfolding written
written_one s at x h =
    let e : at + 1 ≡ suc at = omega arith in
    rw (e, append_assoc (take at s) (x ∷ []) (drop (suc at) s)) (set_split s at x h)

-- one behind the other
pub written-more : {A : Type 0} (s : List A) (at : ℕ) (xs ys : List A) → at + length xs ≤ length s → written (written s at xs) (at + length xs) ys ≡ written s at (xs ++ ys)
unfolding written
written-more s at xs ys h =
    let n : length (take at s ++ xs) ≡ at + length xs = length-append (take at s) xs ∙ ap (λ (k : ℕ). k + length xs) (length-take-le at s (omega arith)) in
    let k : at + length (xs ++ ys) ≡ at + length xs + length ys = omega (arith, length-append xs ys) in
    rw (
      take_at (take at s ++ xs) (drop (at + length xs) s) (at + length xs) n,
      ← drop-drop (length ys) (at + length xs) (take at s ++ xs ++ drop (at + length xs) s),
      drop_at (take at s ++ xs) (drop (at + length xs) s) (at + length xs) n,
      drop-drop (length ys) (at + length xs) s,
      k,
      append_assoc (take at s) xs ys,
    )

-- one more in front
pub written_front : {A : Type 0} (s : List A) (at : ℕ) (x : A) (xs : List A) → at + suc (length xs) ≤ length s → set (written s (suc at) xs) at x ≡ written s at (x ∷ xs)
unfolding written
written_front s at x xs h =
    let e : suc at + length xs ≡ at + suc (length xs) = omega arith in
    let d = drop (at + suc (length xs)) s in
    rw (
      e,
      take-suc s at x (omega arith),
      append_snoc (take at s) (get_or s at x) xs,
      append_assoc (take at s) (get_or s at x ∷ xs) d,
      set_at (take at s) (get_or s at x) (xs ++ d) x at (length-take-le at s (omega arith)),
      append_assoc (take at s) (x ∷ xs) d,
    )

-- one, and the others behind it
pub written_behind : {A : Type 0} (s : List A) (at : ℕ) (x : A) (xs : List A) → at < length s → written (set s at x) (at + 1) xs ≡ written s at (x ∷ xs)
written_behind s at x xs h = rw (written_one s at x h) (written-more s at (x ∷ []) xs (omega arith))

-- from the first place on
pub written_first : {A : Type 0} (s : List A) (xs : List A) → written s 0 xs ≡ xs ++ drop (length xs) s
unfolding written
written_first s xs = let e : 0 + length xs ≡ length xs = omega arith in rw e

-- over the whole
pub whole-written : {A : Type 0} (s xs : List A) → length xs ≡ length s → written s 0 xs ≡ xs
whole-written s xs e = rw (written_first s xs, e, drop-length s, append-nil xs)

-- behind the first k
pub written_follows : {A : Type 0} (s xs ys : List A) (k : ℕ) → length xs ≡ k → k ≤ length s → written (written s 0 xs) k ys ≡ written s 0 (xs ++ ys)
written_follows s xs ys k e h =
    let f : 0 + length xs ≡ k = omega arith in
    ap (λ (j : ℕ). written (written s 0 xs) j ys) (sym f) ∙ written-more s 0 xs ys (omega arith)

-- ---- several writes, by how many elements are there

module _ {A : Type 0} (s xs : List A) (y : A) (at k : ℕ) (e : length xs ≡ k) (h : at + k < length s) where
  kept : length (written s at xs) ≡ length s
  kept = length-written s at xs (omega arith)

  more : (ys : List A) → written (written s at xs) (at + k) ys ≡ written s at (xs ++ ys)
  more ys = ap (λ (j : ℕ). written (written s at xs) (at + j) ys) (sym e) ∙ written-more s at xs ys (omega arith)

  -- one more
  pub written_then : set (written s at xs) (at + k) y ≡ written s at (xs ++ y ∷ [])
  written_then = written_one (written s at xs) (at + k) y (omega (arith, kept)) ∙ more (y ∷ [])

  -- one, and others behind it
  pub written-between : (zs : List A) → written (set (written s at xs) (at + k) y) (at + (k + 1)) zs ≡ written s at (xs ++ y ∷ zs)
  written-between zs =
      let f : at + (k + 1) ≡ at + k + 1 = omega arith in
      ap (λ (j : ℕ). written (set (written s at xs) (at + k) y) j zs) f
      ∙ written_behind (written s at xs) (at + k) y zs (omega (arith, kept))
      ∙ more (y ∷ zs)

-- as the code has it: some, then one, then the others
pub written_three : {A : Type 0} (s a b xs zs : List A) (y : A) (at k : ℕ) → length xs ≡ k → at + k < length s → a ≡ written s at xs → b ≡ written (set a (at + k) y) (at + (k + 1)) zs → b ≡ written s at (xs ++ y ∷ zs)
written_three s a b xs zs y at k e h m n = rw (n, m) (written-between s xs y at k e h zs)

-- ---- into the part from a place on

-- which has room for what the whole has room for
pub part_long : {A : Type 0} (xs : List A) (at n : ℕ) → at + n ≤ length xs → n ≤ length (take (length xs - at) (drop at xs))
part_long xs at n h = omega (arith, length-take (length xs - at) (drop at xs), length-drop at xs)

part-written : {A : Type 0} (xs ls : List A) (at : ℕ) → take at xs ++ (written (take (length xs - at) (drop at xs)) 0 ls ++ drop (length xs - at) (drop at xs)) ≡ written xs at ls
unfolding written
part-written xs ls at =
    let ys = drop at xs in
    let e : length xs - at ≡ length ys = sym (length-drop at xs) in
    let z : 0 + length ls ≡ length ls = omega arith in
    rw (
      e,
      take_all (length ys) ys (omega arith),
      drop-length ys,
      append-nil (ls ++ drop (0 + length ls) ys),
      z,
      drop-drop (length ls) at xs,
      append_assoc (take at xs) ls (drop (at + length ls) xs),
    )

-- what is written into the part is written into the whole
pub written-part : {A : Type 0} (xs last ls : List A) (at : ℕ) → last ≡ written (take (length xs - at) (drop at xs)) 0 ls → take at xs ++ (last ++ drop (length xs - at) (drop at xs)) ≡ written xs at ls
written-part xs last ls at e = rw e (part-written xs ls at)

-- and so is what is written over a part of k elements
pub middle-written : {A : Type 0} (s last xs : List A) (at k : ℕ) → length xs ≡ k → last ≡ xs → take at s ++ (last ++ drop k (drop at s)) ≡ written s at xs
unfolding written
middle-written s last xs at k e m = rw (m, ← e, drop-drop (length xs) at s, append_assoc (take at s) xs (drop (at + length xs) s))

-- one element set, and the list is as long
pub set-within : {A : Type 0} (s : List A) (i : ℕ) (x : A) (n : ℕ) → n ≤ length s → n ≤ length (set s i x)
set-within s i x n h = omega (arith, length-set s i x)

-- ---- copied, and taken again

-- a copy into the front of a list
pub written-copy : {A : Type 0} (s xs last : List A) → last ≡ take (length xs) xs ++ drop (length xs) s → last ≡ written s 0 xs
written-copy s xs last e = rw (written_first s xs) (rw (take_all (length xs) xs (omega arith)) at e)

-- what is written from the first place on stands there
pub written_taken : {A : Type 0} (s t xs : List A) (n : ℕ) → n ≡ length xs → t ≡ written s 0 xs → take n t ≡ xs
written_taken s t xs n e f = rw (f, e, written_first s xs) (take-append_seam xs (drop (length xs) s))

pub written_fits : {A : Type 0} (s t xs : List A) (n : ℕ) → n ≡ length xs → t ≡ written s 0 xs → n ≤ length t
written_fits s t xs n e f = rw (f, written_first s xs) (omega (arith, e, length-append xs (drop (length xs) s)))
