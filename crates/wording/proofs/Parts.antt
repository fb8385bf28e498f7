-- Values put one behind the other, by recursion on them; and how many there are. Assumes nothing.
use mathlib.Core.Path.{◌≡◌, refl, sym, ◌∙◌, ap}
use mathlib.Core.List.{List, [], ◌∷◌, ◌++◌, append_assoc, append-nil}
use Prim.Native.Nat.{ℕ, ◌+◌, ◌^◌, ◌≤◌, ◌<◌}
use native.Mathlib.Omega.{arith}
use lib.IntN.{ℤ}
use lib.Signed.{mag}
use lib.ListN.{length, length-append}
use mir.Syntax.{w64}
use mir.Val.{hbits, to_z, of_z}
use mir.Facts.{to_z-of_z}
use Rattle.paper.specs.declared.Entry.{Entry}
use Rattle.paper.specs.declared.Entry.TheVariants as entry
use Rattle.paper.specs.File.{kind_of, values_of}
use Rattle.paper.specs.Rows.{joined}
use Rattle.wording.specs.Texts.{name_of, spaced, values_text, entry_text}

-- no kind has more than fifteen values
pub values_few : (e : Entry) → length (values_of e) ≤ 15
values_few (entry.Weighing w) = omega arith
values_few (entry.Sheet s) = omega arith
values_few (entry.Change x) = omega arith
values_few (entry.Paired x) = omega arith
values_few (entry.Seat f) = omega arith

-- an entry's text by its two parts
pub length-text : (e : Entry) → length (entry_text e) ≡ length (name_of (kind_of e)) + length (values_text (values_of e))
unfolding entry_text
length-text e = length-append (name_of (kind_of e)) (values_text (values_of e))

-- values put one by one, each behind a space
unfoldable pub put_all : List ℤ → List ℕ → List ℕ
put_all [] s = s
put_all (v ∷ vs) s = put_all vs (s ++ spaced v)

pub all_put : (vs : List ℤ) (s : List ℕ) → put_all vs s ≡ s ++ values_text vs
unfolding put_all joined
all_put [] s = sym (append-nil s)
all_put (v ∷ vs) s = all_put vs (s ++ spaced v) ∙ append_assoc s (spaced v) (values_text vs)

-- a value, and those behind it
pub then_put : (v : ℤ) (vs : List ℤ) (s text end : List ℕ) → text ≡ s ++ spaced v → end ≡ put_all vs text → end ≡ put_all (v ∷ vs) s
unfolding put_all
then_put v vs s text end e h = h ∙ ap (put_all vs) e

-- a signed one, as it is held
pub signed_put : (x : ℤ) (s text : List ℕ) → mag x < 2 ^ hbits w64 → text ≡ s ++ spaced (to_z w64 (of_z w64 x)) → text ≡ s ++ spaced x
signed_put x s text h p = rw (to_z-of_z {w = w64} {z = x} (record { sfits = h })) at p

-- none is left
pub none_put : (s : List ℕ) → s ≡ put_all [] s
unfolding put_all
none_put s = refl
