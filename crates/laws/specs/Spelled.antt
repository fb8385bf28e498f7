-- A number spelled in a base, the highest digit first, and written into a list from the last digit up: one turn of the loop
-- that does it. And read back. Assumes nothing.
use Rattle.std.specs.Prelude.{◌≡◌, ℕ, zero, suc, ◌+◌, ◌*◌, ◌-◌, ◌/◌, ◌%◌, ◌^◌, ◌≤◌, ◌<◌, length, set}
use Rattle.std.proofs.Common.{sym, ap, ◌∙◌, pow-suc, div-one, mod-lt, mul_assoc, add-mul, add_assoc, add-one, arith}
use mathlib.Core.List.{List, [], ◌∷◌, ◌++◌, head-eq_of_cons-eq, tail-eq_of_cons-eq}
use Rattle.std.proofs.Math.Nat.{pow-zero, pow-succ', one-le-pow, div-div-eq-div-mul, mod-one}
use Rattle.std.proofs.Math.Arith.{digits_lt, mod-mul}
use Rattle.laws.specs.Lists.{Each, length_more}
use Rattle.laws.specs.Written.{written, written_none, length-written, written_front}

-- what is left of a number when its last digits, those from l on of k, are written
pub rest_none : (base k n : ℕ) → n ≡ n / base ^ (k - k)
rest_none base k n = let e : k - k ≡ 0 = omega arith in rw (e, pow-zero base, div-one n)

pub rest_more : (base l k n r : ℕ) → 0 < l → l ≤ k → r ≡ n / base ^ (k - l) → r / base ≡ n / base ^ (k - (l - 1))
rest_more base l k n r h m q =
    let e : k - (l - 1) ≡ suc (k - l) = omega arith in
    rw (q, e, pow-suc base (k - l), div-div-eq-div-mul n (base ^ (k - l)) base)

-- the last k digits of n, each by a digit's own element
pub record Spelling (spell : ℕ → ℕ → List ℕ) (digit : ℕ → ℕ) (base : ℕ) : Type 0 where
  pub none : (n : ℕ) → spell 0 n ≡ []
  pub more : (k n : ℕ) → spell (suc k) n ≡ digit (n / base ^ k % base) ∷ spell k n

module _ {spell : ℕ → ℕ → List ℕ} {digit : ℕ → ℕ} {base : ℕ} (sp : Spelling spell digit base) where
  pub length_spelled : (k n : ℕ) → length (spell k n) ≡ k
  length_spelled zero n = ap length (sp.none n)
  length_spelled (suc k) n = ap length (sp.more k n) ∙ ap suc (length_spelled k n)

  -- where no two digits have the same element, what is spelled can be read back
  pub same_spelled : 0 < base → ((x y : ℕ) → digit x ≡ digit y → x ≡ y) → (k n m : ℕ) → spell k n ≡ spell k m → n % base ^ k ≡ m % base ^ k
  same_spelled pos apart zero n m e = rw (pow-zero base, mod-one n, mod-one m)
  same_spelled pos apart (suc k) n m e =
      let h = sym (sp.more k n) ∙ e ∙ sp.more k m in
      let first = apart (n / base ^ k % base) (m / base ^ k % base) (head-eq_of_cons-eq h) in
      let rest = same_spelled pos apart k n m (tail-eq_of_cons-eq h) in
      let power : 0 < base ^ k = one-le-pow k base pos in
      rw (pow-succ' base k, mod-mul n {m = base} {c = base ^ k} pos power, mod-mul m {m = base} {c = base ^ k} pos power, first, rest)

  module _ (s : List ℕ) (at k n : ℕ) where
    -- the digits from l on, written at their place
    abbrev pub put_from : ℕ → List ℕ
    put_from l = written s (at + l) (spell (k - l) n)

    pub put_none : s ≡ put_from k
    put_none = let e : k - k ≡ 0 = omega arith in rw (e, sp.none n, written_none s (at + k))

    pub put-length : (l : ℕ) → at + k ≤ length s → l ≤ k → length (put_from l) ≡ length s
    put-length l h m = length-written s (at + l) (spell (k - l) n) (rw (length_spelled (k - l) n) (omega arith))

    -- one more digit
    pub put-more : (l r : ℕ) (out : List ℕ) → at + k ≤ length s → 0 < l → l ≤ k → r ≡ n / base ^ (k - l) → out ≡ put_from l → set out (at + (l - 1)) (digit (r % base)) ≡ put_from (l - 1)
    put-more l r out h p m q o =
        let e : k - (l - 1) ≡ suc (k - l) = omega arith in
        let f : at + l ≡ suc (at + (l - 1)) = omega arith in
        rw (q, o, e, f, sp.more (k - l) n)
        (written_front s (at + (l - 1)) (digit (n / base ^ (k - l) % base)) (spell (k - l) n) (rw (length_spelled (k - l) n) (omega arith)))

    pub put_all : (l : ℕ) → l ≡ 0 → put_from l ≡ written s at (spell k n)
    put_all l e =
        let f : at + 0 ≡ at = omega arith in
        let g : k - 0 ≡ k = omega arith in
        rw (e, f, g)

-- ---- read back

-- the number of some elements, the highest first, each by its own value
pub record Reading (read : List ℕ → ℕ) (value : ℕ → ℕ) (base : ℕ) : Type 0 where
  pub none : read [] ≡ 0
  pub more : (x : ℕ) (xs : List ℕ) → read (x ∷ xs) ≡ value x * base ^ length xs + read xs

module _ {read : List ℕ → ℕ} {value : ℕ → ℕ} {base : ℕ} (rd : Reading read value base) where
  -- one more element
  pub read_more : (xs : List ℕ) (x : ℕ) → read (xs ++ x ∷ []) ≡ read xs * base + value x
  read_more [] x = rw (rd.more x [], rd.none, pow-zero base) (omega arith)
  read_more (y ∷ ys) x =
      rw (
        rd.more y (ys ++ x ∷ []),
        rd.more y ys,
        length_more ys x,
        add-one (length ys),
        pow-suc base (length ys),
        read_more ys x,
        ← mul_assoc (value y) (base ^ length ys) base,
        add-mul (value y * base ^ length ys) (read ys) base,
        add_assoc (value y * base ^ length ys * base) (read ys * base) (value x),
      )

  pub read_bound : 0 < base → (xs : List ℕ) → Each (λ (x : ℕ). value x < base) xs → read xs < base ^ length xs
  read_bound pos [] e = rw (rd.none, pow-zero base) (omega arith)
  read_bound pos (x ∷ xs) e = rw (rd.more x xs, pow-succ' base (length xs)) (digits_lt e.0 (read_bound pos xs e.1))

  -- what is spelled is read
  pub read_spelled : {spell : ℕ → ℕ → List ℕ} {digit : ℕ → ℕ} → Spelling spell digit base → ((x : ℕ) → x < base → value (digit x) ≡ x) → 0 < base → (k n : ℕ) → read (spell k n) ≡ n % base ^ k
  read_spelled sp back pos zero n = rw (sp.none n, rd.none, pow-zero base, mod-one n)
  read_spelled sp back pos (suc k) n =
      let power : 0 < base ^ k = one-le-pow k base pos in
      rw (
        sp.more k n,
        rd.more _ _,
        length_spelled sp k n,
        read_spelled sp back pos k n,
        back (n / base ^ k % base) (mod-lt (n / base ^ k) pos),
        pow-succ' base k,
        mod-mul n {m = base} {c = base ^ k} pos power,
      )
