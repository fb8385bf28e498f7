-- A column is filled element by element from its front: one more of those written is the next of those to write, in the place of
-- what stood there. Assumes nothing.
use Rattle.std.specs.Prelude.{◌≡◌, List, [], ◌∷◌, map, ℕ, ◌+◌, ◌≤◌, ◌<◌, ℤ, pos, length, get_or, set, take, drop}
use Rattle.std.proofs.Common.{sym, ◌∙◌, arith, append_assoc, SFits, to_z, of_z}
use Rattle.std.specs.Int.{w64}
use Rattle.std.proofs.lemmas.Int.{to_z-of_z}
use Rattle.std.proofs.lemmas.List.{length-map, length-take-le, map_more, set_at, drop_more}
use Rattle.paper.specs.Answers.{over}

over_more : {A B : Type 0} (f : A → B) (xs : List A) (old : List B) (i : ℕ) (d : A) (e : B) → i < length xs → i < length old
    → set (over (map f (take i xs)) old) i (f (get_or xs i d)) ≡ over (map f (take (i + 1) xs)) old
unfolding over
over_more f xs old i d e h k =
    let n : length (map f (take i xs)) ≡ i = length-map (take i xs) f ∙ length-take-le i xs (omega arith) in
    let m : length (map f (take (i + 1) xs)) ≡ i + 1 = length-map (take (i + 1) xs) f ∙ length-take-le (i + 1) xs (omega arith) in
    rw (n, m, drop_more old i e k, set_at (map f (take i xs)) (get_or old i e) (drop (i + 1) old) (f (get_or xs i d)) i n, map_more f xs i d h)
    (sym (append_assoc (map f (take i xs)) (f (get_or xs i d) ∷ []) (drop (i + 1) old)))

-- of what is read as a register
pub put_more : {A : Type 0} (f : A → ℤ) (xs : List A) (old now : List ℤ) (i : ℕ) (d : A) → now ≡ over (map f (take i xs)) old → i < length xs → length xs ≤ length old → SFits w64 (f (get_or xs i d))
    → set now i (to_z w64 (of_z w64 (f (get_or xs i d)))) ≡ over (map f (take (i + 1) xs)) old
put_more f xs old now i d e h k s =
    rw (to_z-of_z w64 (f (get_or xs i d)) s, e) (over_more f xs old i d (pos 0) h (omega arith))
