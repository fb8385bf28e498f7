-- A file changed in place: where a list's entries stand behind the header's place, its header makes them its file; so with one
-- entry more behind them, and with one less. Assumes nothing.
use mathlib.Core.Path.{◌≡◌, refl, sym, ap, ◌∙◌}
use mathlib.Core.List.{List, [], ◌∷◌, ◌++◌, map, append_assoc}
use Prim.Native.Nat.{ℕ, ◌+◌, ◌-◌, ◌<◌}
use native.Mathlib.Omega.{arith}
use lib.ListN.{length, take, drop, length-append}
use lib.Seq.{drop_at, drop-drop}
use Rattle.laws.specs.Lists.{map-append}
use Rattle.laws.specs.Written.{written, written_first}
use Rattle.paper.specs.declared.Entry.{Entry}
use Rattle.paper.specs.Rows.{joined}
use Rattle.paper.specs.File.{entry_bytes, file_as, file_bytes}
use Rattle.paper.specs.Answers.{over}
use Rattle.paper.specs.Journal.{without_last}
use Rattle.paper.proofs.Lists.{joined-last, last_apart}
use Rattle.header.specs.Header.{header_of}
use Rattle.stored.specs.Found.{bytes_in}
use Rattle.header.proofs.Putting.{length_header}
use Rattle.stored.proofs.Parts.{file_parts, file_size, entries_behind}
use Rattle.front.proofs.Fronts.{behind_header}

-- the bytes of one entry more
bytes-more : (es : List Entry) (e : Entry) → bytes_in (es ++ e ∷ []) ≡ bytes_in es ++ entry_bytes e
bytes-more es e = ap joined (map-append entry_bytes es (e ∷ [])) ∙ joined-last (map entry_bytes es) (entry_bytes e)

pub file_more : (es : List Entry) (e : Entry) → length (file_bytes (es ++ e ∷ [])) ≡ length (file_bytes es) + length (entry_bytes e)
file_more es e =
    omega (arith, file_size es, file_size (es ++ e ∷ []), ap length (bytes-more es e), length-append (bytes_in es) (entry_bytes e))

-- the header in front of what stands there
header_again : (es : List Entry) (t r : List ℕ) → drop 6 t ≡ bytes_in es ++ r → written t 0 (header_of (length (file_bytes es) - 4) (length es)) ≡ file_bytes es ++ r
header_again es t r h =
    let n = length (file_bytes es) - 4 in
    written_first t (header_of n (length es))
    ∙ ap (λ (k : ℕ). header_of n (length es) ++ drop k t) (length_header n (length es))
    ∙ ap (λ (xs : List ℕ). header_of n (length es) ++ xs) h
    ∙ sym (append_assoc (header_of n (length es)) (bytes_in es) r)
    ∙ ap (λ (xs : List ℕ). xs ++ r) (sym (file_parts es))

-- as the code has it: the length and the count by equal numbers
pub put_again : (es : List Entry) (s t last : List ℕ) (n count : ℕ) → n ≡ length (file_bytes es) - 4 → count ≡ length es → drop 6 t ≡ bytes_in es ++ drop (length (file_bytes es)) s → last ≡ written t 0 (header_of n count) → last ≡ over (file_bytes es) s
unfolding over
put_again es s t last n count e c h l = rw (l, e, c) (header_again es t (drop (length (file_bytes es)) s) h)

-- the file may be of an older version
module _ (s : List ℕ) (v : ℕ) (es : List Entry) (h : take (length (file_bytes es)) s ≡ file_as v es) where
  -- one entry more, put behind it
  pub entry_put : (e : Entry) → drop 6 (written s (length (file_bytes es)) (entry_bytes e)) ≡ bytes_in (es ++ e ∷ []) ++ drop (length (file_bytes (es ++ e ∷ []))) s
  unfolding written
  entry_put e =
      let n = length (file_bytes es) in
      let x = entry_bytes e in
      let d = drop (n + length x) s in
      ap (λ (xs : List ℕ). drop 6 (xs ++ x ++ d)) h
      ∙ ap (drop 6) (append_assoc (file_as v es) x d)
      ∙ entries_behind v es (x ++ d)
      ∙ sym (append_assoc (bytes_in es) x d)
      ∙ ap (λ (xs : List ℕ). xs ++ d) (sym (bytes-more es e))
      ∙ ap (λ (k : ℕ). bytes_in (es ++ e ∷ []) ++ drop k s) (sym (file_more es e))

  -- one entry less: its bytes are behind the file
  pub entry_left : 0 < length es → drop 6 s ≡ bytes_in (without_last es) ++ drop (length (file_bytes (without_last es))) s
  entry_left k =
      let fs = without_last es in
      let r = last_apart es k in
      let x = entry_bytes r.0 in
      let rest = drop (length (file_bytes es)) s in
      let there : drop 6 s ≡ bytes_in fs ++ (x ++ rest) =
      behind_header s v es h
      ∙ ap (λ (l : List Entry). bytes_in l ++ rest) r.1
      ∙ ap (λ (xs : List ℕ). xs ++ rest) (bytes-more fs r.0)
      ∙ append_assoc (bytes_in fs) x rest in
      let gone : drop (length (file_bytes fs)) s ≡ x ++ rest =
      ap (λ (j : ℕ). drop j s) (file_size fs)
      ∙ sym (drop-drop (length (bytes_in fs)) 6 s)
      ∙ ap (drop (length (bytes_in fs))) there
      ∙ drop_at (bytes_in fs) (x ++ rest) (length (bytes_in fs)) refl in
      there ∙ ap (λ (xs : List ℕ). bytes_in fs ++ xs) (sym gone)
