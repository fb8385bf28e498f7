-- Options by a test, and what an answer of some says of where it came from, by cases. Assumes nothing.
use Rattle.std.specs.Prelude.{◌≡◌, refl, Bool, true, false, cond, ◌&&◌}
use Rattle.std.proofs.Math.Option.{Option, none, some, map, some-injective, or_else}

-- ---- by a test

pub map-cond : {A B : Type 0} (f : A → B) (t : Bool) (x : A) → map f (cond t (some x) none) ≡ cond t (some (f x)) none
map-cond f true x = refl
map-cond f false x = refl

pub none_either : {A : Type 0} (t : Bool) → cond {A = Option A} t none none ≡ none
none_either true = refl
none_either false = refl

pub tests_both : {A : Type 0} (a b : Bool) (o : Option A) → cond a (cond b o none) none ≡ cond (a && b) o none
tests_both true b o = refl
tests_both false b o = refl

-- an answer passed the test, and is what stood behind it
pub cond_passed : {A : Type 0} (t : Bool) (o : Option A) (x : A) → cond t o none ≡ some x → t ≡ true
cond_passed true o x e = refl
cond_passed false o x e = cc

pub cond-kept : {A : Type 0} (t : Bool) (o : Option A) (x : A) → cond t o none ≡ some x → o ≡ some x
cond-kept true o x e = e
cond-kept false o x e = cc

pub cond_other : {A : Type 0} (t : Bool) (o : Option A) (x : A) → cond t none o ≡ some x → o ≡ some x
cond_other true o x e = cc
cond_other false o x e = e

pub cond-found : {A : Type 0} (t : Bool) (x y : A) → cond t (some x) none ≡ some y → x ≡ y
cond-found t x y e = some-injective x y (cond-kept t (some x) y e)

-- ---- one or else another

pub or_none : {A : Type 0} (o : Option A) → or_else o none ≡ o
unfolding or_else
or_none none = refl
or_none (some x) = refl

pub or_assoc : {A : Type 0} (o p q : Option A) → or_else (or_else o p) q ≡ or_else o (or_else p q)
unfolding or_else
or_assoc none p q = refl
or_assoc (some x) p q = refl

-- what was found is of the one or of the other
pub or_either : {A : Type 0} (o p : Option A) (x : A) (B : Type 0) → or_else o p ≡ some x → (o ≡ some x → B) → (p ≡ some x → B) → B
unfolding or_else
or_either none p x B e f g = g e
or_either (some y) p x B e f g = f e
