-- Sums over the first elements of a list, one more of them, and that those of nets fit. Assumes nothing.
use Rattle.std.proofs.Common.{◌≡◌, refl, add-one, List, ℕ, ◌+◌, ◌*◌, ◌≤◌, ◌<◌, ℤ, pos, ◌+ℤ◌, length, get_or, take, take-suc, arith, SFits, w64}
use Rattle.std.proofs.lemmas.Int.{ints, to_z-of_z}
use Rattle.laws.specs.Z.{rd, Within}
use Rattle.paper.specs.declared.Equipment.{Equipment}
use Rattle.paper.specs.Equipment.{total}
use Rattle.stations.specs.More.{most_net}
use Rattle.stations.proofs.Totals.{total-last}

-- t is the sum over the first i, each of which is a net
pub record Summed (f : Equipment → ℤ) (es : List Equipment) (i : ℕ) (t : ℤ) : Type 0 where
  pub is : t ≡ total f (take i es)
  pub within : Within (most_net * i) t

pub summed_none : (f : Equipment → ℤ) (es : List Equipment) → Summed f es 0 (pos 0)
unfolding total
summed_none f es = record { is = refl; within = record { low = omega (arith, ints); high = omega (arith, ints) } }

net_fits : (x : ℤ) → Within most_net x → SFits w64 x
net_fits x n = omega (arith, ints, n.low, n.high)

-- there is room for one more
summed_fits : (f : Equipment → ℤ) (es : List Equipment) (i : ℕ) (t x : ℤ) → i < 64 → Summed f es i t → Within most_net x → SFits w64 (t +ℤ x)
summed_fits f es i t x h s n = omega (arith, ints, s.within.low, s.within.high, n.low, n.high)

summed_more : (f : Equipment → ℤ) (es : List Equipment) (i : ℕ) (d : Equipment) (t : ℤ) → i < length es → Summed f es i t → Within most_net (f (get_or es i d)) → Summed f es (i + 1) (t +ℤ f (get_or es i d))
summed_more f es i d t h s n =
    record {
      is = rw (add-one i, take-suc es i d h, total-last f (take i es) (get_or es i d), s.is);
      within = record { low = omega (arith, ints, s.within.low, n.low); high = omega (arith, ints, s.within.high, n.high) };
    }

-- as the code has it
pub summed_next : (f : Equipment → ℤ) (es : List Equipment) (i : ℕ) (d : Equipment) (t : ℤ) → i < length es → length es ≤ 64 → Summed f es i t → Within most_net (f (get_or es i d)) → Summed f es (i + 1) (rd (t +ℤ rd (f (get_or es i d))))
summed_next f es i d t h l s n =
    let x = f (get_or es i d) in
    rw (to_z-of_z w64 x (net_fits x n), to_z-of_z w64 (t +ℤ x) (summed_fits f es i t x (omega arith) s n)) (summed_more f es i d t h s n)
