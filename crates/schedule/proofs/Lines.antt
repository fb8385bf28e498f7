-- The lines of a list, one more of them, and how long they are; by recursion on the list. Assumes nothing.
use Rattle.std.proofs.Common.{◌≡◌, sym, ap, List, [], ◌∷◌, ◌++◌, map, ℕ, ℤ, ◌+◌, ◌*◌, ◌≤◌, ◌<◌, length, get_or, take, take_all, length-append, arith}
use Rattle.std.proofs.lemmas.List.{length-take}
use Rattle.laws.specs.Lists.{map-take-more}
use Rattle.paper.specs.declared.Equipment.{Equipment}
use Rattle.paper.specs.Rows.{joined}
use Rattle.paper.specs.Equipment.{total}
use Rattle.paper.proofs.Lists.{joined-last}
use Rattle.schedule.specs.Schedules.{fixed, nets, line_of, sums, schedule}
use Rattle.schedule.specs.declared.TheConstants.{LONGEST}
use Rattle.schedule.proofs.Fixed.{fixed_most}

-- ---- how long they are

pub length-nets : (w n : ℤ) → length (nets w n) ≡ length (fixed 3 w) + length (fixed 3 n) + 3
unfolding nets
length-nets w n = simp length-append (omega arith)

nets_most : (w n : ℤ) → length (nets w n) ≤ 53
nets_most w n = omega (arith, length-nets w n, fixed_most 3 w, fixed_most 3 n)

pub length-line : (e : Equipment) → length (line_of e) ≡ length (fixed 2 e.arm) + length (nets e.weight e.nonlifting)
unfolding line_of
length-line e = length-append (fixed 2 e.arm) (nets e.weight e.nonlifting)

line_most : (e : Equipment) → length (line_of e) ≤ 77
line_most e = omega (arith, length-line e, fixed_most 2 e.arm, nets_most e.weight e.nonlifting)

pub length-sums : (es : List Equipment) → length (sums es) ≡ 3 + length (nets (total (λ (x : Equipment). x.weight) es) (total (λ (x : Equipment). x.nonlifting) es))
unfolding sums
length-sums es = omega arith

sums_most : (es : List Equipment) → length (sums es) ≤ 56
sums_most es =
    omega (arith, length-sums es, nets_most (total (λ (x : Equipment). x.weight) es) (total (λ (x : Equipment). x.nonlifting) es))

-- ---- the first lines

abbrev pub lines_to : List Equipment → ℕ → List ℕ
lines_to es i = joined (map line_of (take i es))

pub lines_more : (es : List Equipment) (i : ℕ) (d : Equipment) (s t : List ℕ) → i < length es → s ≡ lines_to es i → t ≡ s ++ line_of (get_or es i d) → t ≡ lines_to es (i + 1)
lines_more es i d s t h e f =
    rw (f, e, map-take-more line_of es i d h) (sym (joined-last (map line_of (take i es)) (line_of (get_or es i d))))

lines_most : (es : List Equipment) → length (joined (map line_of es)) ≤ 77 * length es
unfolding joined
lines_most [] = omega arith
lines_most (e ∷ es) = omega (arith, length-append (line_of e) (joined (map line_of es)), line_most e, lines_most es)

lines_to_most : (es : List Equipment) (i : ℕ) → length (lines_to es i) ≤ 77 * i
lines_to_most es i = omega (arith, lines_most (take i es), length-take i es)

-- there is room for one more, and behind the last for the sums
pub line_room : (es : List Equipment) (i : ℕ) (e : Equipment) (text : List ℕ) → i < 64 → text ≡ lines_to es i → length text + length (line_of e) ≤ LONGEST
line_room es i e text h t = omega (arith, ap length t, lines_to_most es i, line_most e)

pub sums_room : (es : List Equipment) (i : ℕ) (text : List ℕ) → i ≤ 64 → text ≡ lines_to es i → length text + length (sums es) ≤ LONGEST
sums_room es i text h t = omega (arith, ap length t, lines_to_most es i, sums_most es)

-- all lines, and the sums behind them
pub lines_all : (es : List Equipment) (i : ℕ) → length es ≤ i → lines_to es i ++ sums es ≡ schedule es
unfolding schedule
lines_all es i h = rw (take_all i es h)
