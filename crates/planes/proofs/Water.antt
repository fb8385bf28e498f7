-- A half-plane that holds with no water and with all of it holds with every part of it, since both its sides grow evenly.
-- Assumes nothing.
use Prim.Native.Nat.{ℕ, ◌+◌, ◌*◌, ◌≤◌}
use mathlib.Core.Path.{◌≡◌, refl}
use mathlib.Core.Bool.{Bool, true, ◌&&◌}
use mathlib.Core.List.{List, [], ◌∷◌}
use native.Mathlib.Omega.{arith}
use borrow.Author.Tests.{leb-true, le-leb}
use Rattle.laws.specs.Tests.{same, both, left, right}
use Rattle.laws.specs.Slopes as slopes
use Rattle.paper.specs.Rows.{up_to}
use Rattle.planes.specs.Plane.{HalfPlane, holds, all_hold}
use Rattle.planes.proofs.Searches.{up_to_lem, up_to_at}

-- ---- two tests at once, and a test that always passes

pub up_to-both : (a b : ℕ → Bool) (w : ℕ) → up_to (λ (v : ℕ). a v && b v) w ≡ (up_to a w && up_to b w)
up_to-both a b w =
    let c : ℕ → Bool = λ (v : ℕ). a v && b v in
    same (up_to c w) (up_to a w && up_to b w)
    (λ e.
    both (up_to a w) (up_to b w) (up_to_lem a w (λ v h. left (a v) (b v) (up_to_at c w e v h))) (up_to_lem b w (λ v h. right (a v) (b v) (up_to_at c w e v h))))
    (λ e.
    up_to_lem c w
    (λ v h. both (a v) (b v) (up_to_at a w (left (up_to a w) (up_to b w) e) v h) (up_to_at b w (right (up_to a w) (up_to b w) e) v h)))

-- ---- a half-plane

-- in numbers
pub keeps_plane : (l : HalfPlane) (p v : ℕ) → l.gamma0 + v * l.gamma1 + l.delta * p ≤ l.alpha0 + v * l.alpha1 + l.beta * p → holds l p v ≡ true
unfolding holds
keeps_plane l p v h = le-leb _ _ h

pub plane_kept : (l : HalfPlane) (p v : ℕ) → holds l p v ≡ true → l.gamma0 + v * l.gamma1 + l.delta * p ≤ l.alpha0 + v * l.alpha1 + l.beta * p
unfolding holds
plane_kept l p v e = leb-true _ _ e

-- none of the water and all of it decide
pub ends_decide : (l : HalfPlane) (p w : ℕ) → up_to (holds l p) w ≡ (holds l p 0 && holds l p w)
ends_decide l p w =
    same (up_to (holds l p) w) (holds l p 0 && holds l p w)
    (λ e. both (holds l p 0) (holds l p w) (up_to_at (holds l p) w e 0 (omega arith)) (up_to_at (holds l p) w e w (omega arith)))
    (λ e.
    let g = l.gamma0 + l.delta * p in
    let a = l.alpha0 + l.beta * p in
    let dry : g ≤ a = omega (arith, plane_kept l p 0 (left (holds l p 0) (holds l p w) e)) in
    let full : g + w * l.gamma1 ≤ a + w * l.alpha1 = omega (arith, plane_kept l p w (right (holds l p 0) (holds l p w) e)) in
    up_to_lem (holds l p) w (λ v h. keeps_plane l p v (omega (arith, slopes.between a l.alpha1 g l.gamma1 w v h dry full))))

-- ---- some of them

-- one more
pub all_hold-more : (l : HalfPlane) (ls : List HalfPlane) (p w : ℕ) → up_to (all_hold (l ∷ ls) p) w ≡ (up_to (holds l p) w && up_to (all_hold ls p) w)
unfolding all_hold
all_hold-more l ls p w = up_to-both (holds l p) (all_hold ls p) w

pub all_hold_none : (p w : ℕ) → up_to (all_hold [] p) w ≡ true
unfolding all_hold
all_hold_none p w = up_to_lem (all_hold [] p) w (λ v h. refl)
