-- Limits that some half-planes say grow evenly: what holds with no water and with all of it holds with every part, and what holds
-- at two front loads holds at each between them. Which limits they are does not matter. Assumes nothing.
use mathlib.Core.Path.{◌≡◌, refl, sym, ap, ◌∙◌, fun_ext}
use mathlib.Core.Bool.{Bool, true, ◌&&◌}
use mathlib.Core.List.{List, [], ◌∷◌}
use Prim.Native.Nat.{ℕ, ◌+◌, ◌-◌, ◌*◌, ◌≤◌}
use native.Mathlib.Omega.{arith}
use Rattle.laws.specs.Tests.{both, left, right, and_swapped}
use Rattle.laws.specs.Slopes.{between}
use Rattle.paper.specs.Rows.{up_to}
use Rattle.planes.specs.Plane.{HalfPlane, holds, all_hold, Says}
use Rattle.planes.proofs.Water.{keeps_plane, plane_kept, ends_decide, all_hold-more, all_hold_none}

-- ---- the water

both_planes : (ls : List HalfPlane) (p w : ℕ) → up_to (all_hold ls p) w ≡ (all_hold ls p 0 && all_hold ls p w)
unfolding all_hold
both_planes [] p w = all_hold_none p w
both_planes (l ∷ ls) p w =
    all_hold-more l ls p w
    ∙ rw (ends_decide l p w, both_planes ls p w) (and_swapped (holds l p 0) (holds l p w) (all_hold ls p 0) (all_hold ls p w))

-- ---- the front load

plane_between : (l : HalfPlane) (v lo p hi : ℕ) → lo ≤ p → p ≤ hi → holds l lo v ≡ true → holds l hi v ≡ true → holds l p v ≡ true
plane_between l v lo p hi h k e f =
    let x = p - lo in
    let y = hi - lo in
    let a = l.alpha0 + v * l.alpha1 + l.beta * lo in
    let g = l.gamma0 + v * l.gamma1 + l.delta * lo in
    let ep : p ≡ lo + x = omega arith in
    let eh : hi ≡ lo + y = omega arith in
    let first : g ≤ a = plane_kept l lo v e in
    let last : g + y * l.delta ≤ a + y * l.beta = omega (arith, (rw eh at (plane_kept l hi v f))) in
    let mid = between a l.beta g l.delta y x (omega arith) first last in
    rw ep (keeps_plane l (lo + x) v (omega arith))

planes_between : (ls : List HalfPlane) (v lo p hi : ℕ) → lo ≤ p → p ≤ hi → all_hold ls lo v ≡ true → all_hold ls hi v ≡ true → all_hold ls p v ≡ true
unfolding all_hold
planes_between [] v lo p hi h k e f = refl
planes_between (l ∷ ls) v lo p hi h k e f =
    both (holds l p v) (all_hold ls p v)
    (plane_between l v lo p hi h k (left (holds l lo v) (all_hold ls lo v) e) (left (holds l hi v) (all_hold ls hi v) f))
    (planes_between ls v lo p hi h k (right (holds l lo v) (all_hold ls lo v) e) (right (holds l hi v) (all_hold ls hi v) f))

-- ---- limits that half-planes say

module _ (q : ℕ → ℕ → Bool) (ls : List HalfPlane) (says : Says ls q) where
  -- none of the water and all of it decide
  pub both_ends : (p w : ℕ) → up_to (q p) w ≡ (q p 0 && q p w)
  both_ends p w =
      ap (λ (t : ℕ → Bool). up_to t w) (fun_ext (λ v. says p v)) ∙ both_planes ls p w ∙ rw (says p 0, says p w)

  pub convex : (v lo p hi : ℕ) → lo ≤ p → p ≤ hi → q lo v ≡ true → q hi v ≡ true → q p v ≡ true
  convex v lo p hi h k e f =
      says p v ∙ planes_between ls v lo p hi h k (sym (says lo v) ∙ e) (sym (says hi v) ∙ f)
