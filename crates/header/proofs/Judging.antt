-- Which bytes have a right header: by its tests, in their order. Assumes nothing.
use mathlib.Core.Path.{◌≡◌, refl, sym, ap, ◌∙◌}
use mathlib.Core.Bool.{true, false, ◌&&◌, and-false}
use mathlib.Core.List.{List}
use Rattle.std.specs.Prelude.{Result, Ok, Err, Some, None}
use Rattle.std.specs.Result.{result_ok}
use Rattle.std.proofs.lemmas.List.{take_rest}
use Prim.Native.Nat.{ℕ, ◌-◌, ◌≤◌, ◌<◌}
use lib.Dec.{leb, eqb}
use lib.ListN.{length, get_or, take, drop}
use lib.Seq.{drop-drop, get_or-drop}
use borrow.Author.Tests.{le-leb, lt-leb, leb-true, eq-eqb, ne_eqb}
use Rattle.laws.specs.Tests.{left}
use Rattle.paper.specs.File.{number_of, is_version}
use Rattle.header.specs.declared.Version.{Version}
use Rattle.header.specs.declared.Version.TheVariants as version
use Rattle.paper.specs.declared.Unknown.{Unknown}
use Rattle.header.specs.Versions.{Decodes}
use Rattle.header.specs.Versions as versions
use Rattle.header.specs.Header.{headed}

pub too_few : (xs : List ℕ) → length xs < 6 → headed xs ≡ false
unfolding headed
too_few xs h = simp (lt-leb 6 (length xs) h)

pub enough_bytes : (xs : List ℕ) → headed xs ≡ true → 6 ≤ length xs
unfolding headed
enough_bytes xs h =
    let a = leb 6 (length xs) in
    let b = eqb (number_of (take 4 xs)) (length xs - 4) in
    leb-true 6 (length xs) (left a b (left (a && b) (is_version (get_or xs 4 0)) h))

pub wrong_length : (xs : List ℕ) → (number_of (take 4 xs) ≡ length xs - 4 → ⊥) → headed xs ≡ false
unfolding headed
wrong_length xs f = rw (ne_eqb (number_of (take 4 xs)) (length xs - 4) f, and-false (leb 6 (length xs)))

pub wrong_version : (xs : List ℕ) → ((v : Version) → versions.number_of v ≡ get_or xs 4 0 → ⊥) → headed xs ≡ false
unfolding headed is_version
wrong_version xs f =
    let n = get_or xs 4 0 in
    rw (ne_eqb n 1 (λ e. f version.First (sym e)), ne_eqb n 2 (λ e. f version.Second (sym e)), and-false (leb 6 (length xs) && eqb (number_of (take 4 xs)) (length xs - 4)))

is_one : (v : Version) → is_version (versions.number_of v) ≡ true
unfolding is_version
is_one version.First = refl
is_one version.Second = refl

pub right : (xs : List ℕ) → 6 ≤ length xs → number_of (take 4 xs) ≡ length xs - 4 → (v : Version) → versions.number_of v ≡ get_or xs 4 0 → headed xs ≡ true
unfolding headed
right xs h f v e =
    rw (le-leb 6 (length xs) h, eq-eqb (number_of (take 4 xs)) (length xs - 4) f, ← e, is_one v)

-- ---- as the code has it

pub decoded : (n : ℕ) (r : Result Version Unknown) (v : Version) → Decodes n r → Some v ≡ result_ok r → versions.number_of v ≡ n
decoded n (Ok w) v d e = let same : w ≡ v = cc in ap versions.number_of (sym same) ∙ d
decoded n (Err u) v d e = cc

pub not_decoded : (n : ℕ) (r : Result Version Unknown) → Decodes n r → None ≡ result_ok r → (v : Version) → versions.number_of v ≡ n → ⊥
not_decoded n (Ok w) d e = cc
not_decoded n (Err u) d e = d.1

-- what stands behind the length
module _ (xs ys : List ℕ) (e : ys ≡ drop 4 xs) where
  pub version_there : get_or ys 0 0 ≡ get_or xs 4 0
  version_there = ap (λ (zs : List ℕ). get_or zs 0 0) e ∙ get_or-drop 4 xs 0 0

  pub count_there : get_or ys 1 0 ≡ get_or xs 5 0
  count_there = ap (λ (zs : List ℕ). get_or zs 1 0) e ∙ get_or-drop 4 xs 1 0

  pub entries_there : take (length ys - 2) (drop 2 ys) ≡ drop 6 xs
  entries_there = take_rest ys 2 ∙ ap (drop 2) e ∙ drop-drop 2 4 xs
