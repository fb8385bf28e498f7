-- Where a binary search by the arm ends among the equipment of some changes, whose arms rise: at the arm, or between what is ahead
-- of it and what is behind it; and what is written there. Assumes nothing.
use Rattle.std.specs.Prelude.{◌≡◌, false, List, [], ◌∷◌, ℕ, zero, suc, ◌+◌, ◌≤◌, ◌<◌, length, get_or, set, take, ◌++◌, ℤ, Result, Ok, Err, IfOk, IfErr}
use Rattle.std.proofs.Common.{sym, ap, ◌∙◌, subst, arith, is_lt, length-take-le}
use Rattle.std.proofs.Math.Seq.{take-set-lt}
use Rattle.std.specs.List.{All, insert}
use Rattle.std.specs.List.Sorted.{IsStrictlySortedBy, IsSortedBy, IsSearchInRange, IsBinarySearchResult}
use Rattle.std.specs.declared.cmp.Ordering.TheVariants.{Less, Equal}
use Rattle.std.specs.Ordering.{int_cmp}
use Rattle.std.proofs.lemmas.Cmp.{int_cmp_total, int_ranked}
use Rattle.std.proofs.lemmas.Int.{ints}
use Rattle.std.proofs.lemmas.List.{length-map, get_or-take}
use Rattle.std.proofs.lemmas.List.Sorted.{searchable_from_sorted}
use Rattle.laws.specs.Rising.{Rising}
use Rattle.paper.specs.declared.Change.{Change}
use Rattle.paper.specs.declared.Equipment.{Equipment}
use Rattle.paper.specs.Equipment.{equipment_at, arms_of, equipment_of}
use Rattle.stations.proofs.Arms.{arms_are, no_more_stations}
use Rattle.stations.proofs.Added.{arm_at, more_there, more_between}
use Rattle.stations.specs.More.{alone, added}
use Rattle.fittings.specs.Fittings.{IsAt, IsGap}

-- an arm is ahead of the next
next_behind : (arms : List ℤ) → Rising arms → (k : ℕ) (d : ℤ) → suc k < length arms → int_cmp (get_or arms k d) (get_or arms (suc k) d) ≡ Less
unfolding IsStrictlySortedBy
next_behind [] h k d l = absurd (omega arith)
next_behind (a ∷ []) h k d l = absurd (omega arith)
next_behind (a ∷ b ∷ arms) h zero d l = h.0.0
next_behind (a ∷ b ∷ arms) h (suc k) d l = next_behind (b ∷ arms) h.1 k d (omega arith)

not_back : (a b : ℤ) → int_cmp a b ≡ Less → is_lt (int_cmp b a) ≡ false
not_back a b h = grind (arith, ints)

by_arm : (xs : List Change) → IsSortedBy (λ (e f : Equipment). is_lt (int_cmp e.arm f.arm)) (equipment_of xs)
unfolding equipment_of
by_arm xs k d h l =
    let n = length-map (arms_of xs) (equipment_at xs) in
    let e : k + 1 ≡ suc k = omega arith in
    rw (e, arm_at xs (arms_of xs) k d.arm d (omega arith), arm_at xs (arms_of xs) (suc k) d.arm d (omega arith))
    (not_back (get_or (arms_of xs) k d.arm) (get_or (arms_of xs) (suc k) d.arm) (next_behind (arms_of xs) (arms_are xs).rising k d.arm (omega arith)))

-- where the search for b ends among es
search_among : (xs : List Change) (a : ℤ) (r : Result ℕ ℕ) → IsSearchInRange r (length (equipment_of xs)) → IsBinarySearchResult (λ (e : Equipment). int_cmp e.arm a) (equipment_of xs) r
    → IfOk r (IsAt (equipment_of xs) a) × IfErr r (IsGap (equipment_of xs) a)
search_among xs a (Ok at) h e = (record { place = h; arm = λ d. int_ranked (get_or (equipment_of xs) at d).arm a Equal (sym (e d)) }, tt)
search_among xs a (Err at) h e =
    let parts = e (searchable_from_sorted int_cmp_total (λ (f : Equipment). f.arm) (equipment_of xs) a (by_arm xs)) in
    (tt, record { place = h; ahead = λ j d k. parts.0 j d (omega arith) k; behind = λ j d k l. parts.1 j d k l })

pub search_ends : (xs : List Change) (es : List Equipment) (a b : ℤ) (r : Result ℕ ℕ) → es ≡ equipment_of xs → b ≡ a
    → IsSearchInRange r (length es) → IsBinarySearchResult (λ (e : Equipment). int_cmp e.arm b) es r
    → IfOk r (IsAt es a) × IfErr r (IsGap es a)
search_ends xs es a b r f g h e =
    let h' : IsSearchInRange r (length (equipment_of xs)) = rw f at h in
    let e' : IsBinarySearchResult (λ (d : Equipment). int_cmp d.arm a) (equipment_of xs) r = subst (λ z. IsBinarySearchResult (λ (d : Equipment). int_cmp d.arm z) (equipment_of xs) r) g (subst (λ zs. IsBinarySearchResult (λ (d : Equipment). int_cmp d.arm b) zs r) f e) in
    rw f (search_among xs a r h' e')

-- ---- what is written there, in the first n of some places

module _ (places : List Equipment) (n at : ℕ) (xs : List Change) (x : Change) (e : take n places ≡ equipment_of xs) where
  pub written_there : (d : Equipment) → at < n → IsAt (take n places) x.arm at → take n (set places at (added (get_or places at d) x)) ≡ equipment_of (xs ++ x ∷ [])
  written_there d l h =
      let g : get_or places at d ≡ get_or (equipment_of xs) at d = sym (get_or-take n places at d l) ∙ ap (λ es. get_or es at d) e in
      let h' : IsAt (equipment_of xs) x.arm at = rw e at h in
      rw (take-set-lt n places at (added (get_or places at d) x) l, e, g) (more_there xs x at d h'.place (h'.arm d))

  pub put_there : IsGap (take n places) x.arm at → insert (take n places) at (alone x) ≡ equipment_of (xs ++ x ∷ [])
  put_there h = let h' : IsGap (equipment_of xs) x.arm at = rw e at h in rw e (more_between xs x at h'.place h'.ahead h'.behind)

  pub read_there : (P : Equipment → Type 0) (d : Equipment) → at < n → at < length (take n places) → All P (equipment_of xs) → P (get_or places at d)
  read_there P d l h w =
      let h' : at < length (equipment_of xs) = rw e at h in
      rw (sym (get_or-take n places at d l), e) (w at d h')

  -- there is room
  pub room : n ≤ length places → length (take n places) ≡ n × n ≤ length xs
  room l =
      let k : length (take n places) ≡ n = length-take-le n places l in
      let m : length (equipment_of xs) ≡ n = rw (sym e) k in
      (k, omega (arith, no_more_stations xs))
