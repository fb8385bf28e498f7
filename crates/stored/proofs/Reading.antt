-- Entries read in turn: those passed and those to come are the file's, and each step takes one from the latter to the former,
-- or shows that there is no file. Assumes nothing.
use mathlib.Core.Path.{◌≡◌, refl, sym, ap, ◌∙◌, subst}
use mathlib.Core.Bool.{Bool, true, false, cond, ◌&&◌, and_assoc, and-false}
use mathlib.Core.List.{List, [], ◌∷◌, ◌++◌, append_assoc, append-nil}
use mathlib.Core.Option.{Option, none, some, map, bind}
use Prim.Native.Nat.{ℕ, suc, ◌+◌, ◌-◌, ◌≤◌, ◌<◌}
use native.Mathlib.Omega.{arith}
use lib.Dec.{leb}
use lib.ListN.{length, length-append}
use Rattle.laws.specs.Tests.{isnt}
use Rattle.paper.specs.declared.Entry.{Entry}
use Rattle.paper.specs.File.{kind_of, entry_bytes, take_entry, take_entries, kinds_to, only_kinds}
use Rattle.paper.specs.Refusals.{entry_number, accepted, only_accepted, file_of}
use Rattle.format.specs.Entries.{entry_written}
use Rattle.format.specs.Values.{bytes-behind}
use Rattle.judge.specs.Standing.{Stands, stands_in}
use Rattle.judge.proofs.Accepted.{accepted-more, accepted_last, accepted_before}
use Rattle.reader.specs.Reading.{up_to, take_to}
use Rattle.judge.specs.declared.Standing.{Standing}
use Rattle.reader.specs.declared.Reader.{Reader}
use Rattle.stored.specs.Walks.{list_behind, WalkedTo, Walked}
use Rattle.stored.proofs.Parts.{length_in}

-- ---- what reading one entry says

-- one that was found is of a kind up to k
got_to : (k : ℕ) (o : Option (Entry × List ℕ)) (e : Entry) (zs : List ℕ) → up_to k o ≡ some (e, zs) → (o ≡ some (e, zs)) × (leb (kind_of e) k ≡ true)
got_to k none e zs h = (cc, cc)
got_to k (some q) e zs h = got_by (leb (kind_of q.0) k) refl h
  where
    got_by : (t : Bool) → leb (kind_of q.0) k ≡ t → cond t (some q) none ≡ some (e, zs) → (some q ≡ some (e, zs)) × (leb (kind_of e) k ≡ true)
    got_by true l g = let same : q ≡ (e, zs) = cc in (g, ap (λ (p : Entry × List ℕ). leb (kind_of p.0) k) (sym same) ∙ l)
    got_by false l g = (cc, cc)

not_got : (t : Bool) (q : Entry × List ℕ) → cond {A = Option (Entry × List ℕ)} t (some q) none ≡ none → t ≡ false
not_got true q h = cc
not_got false q h = refl

-- ---- a list by parts

map_same : (o : Option (List Entry)) → o ≡ map (λ (fs : List Entry). [] ++ fs) o
map_same none = refl
map_same (some fs) = refl

map_more : (es : List Entry) (e : Entry) (o : Option (List Entry)) → map (λ (fs : List Entry). es ++ fs) (map (λ (fs : List Entry). e ∷ fs) o) ≡ map (λ (fs : List Entry). (es ++ e ∷ []) ++ fs) o
map_more es e none = refl
map_more es e (some fs) = ap {B = Option (List Entry)} some (sym (append_assoc es (e ∷ []) fs))

-- kinds up to k, in two parts of a list
kinds_append : (k : ℕ) (es fs : List Entry) → kinds_to k (es ++ fs) ≡ (kinds_to k es && kinds_to k fs)
unfolding kinds_to
kinds_append k [] fs = refl
kinds_append k (e ∷ es) fs =
    ap (λ (b : Bool). leb (kind_of e) k && b) (kinds_append k es fs)
    ∙ sym (and_assoc (leb (kind_of e) k) (kinds_to k es) (kinds_to k fs))

kinds_more : (k : ℕ) (es : List Entry) (e : Entry) → kinds_to k es ≡ true → kinds_to k (es ++ e ∷ []) ≡ (leb (kind_of e) k && true)
unfolding kinds_to
kinds_more k es e h = kinds_append k es (e ∷ []) ∙ rw h

-- no file where an entry of the list is of a later kind
later_in : (k : ℕ) (es : List Entry) (e : Entry) (o : Option (List Entry)) → leb (kind_of e) k ≡ false → only_kinds k (map (λ (fs : List Entry). (es ++ e ∷ []) ++ fs) o) ≡ none
unfolding kinds_to
later_in k es e none h = refl
later_in k es e (some fs) h = rw (kinds_append k (es ++ e ∷ []) fs, kinds_append k es (e ∷ []), h, and-false (kinds_to k es))

-- nor where one is refused
refused_list : (t : Bool) (es : List Entry) → accepted es ≡ false → only_accepted (cond t (some es) none) ≡ none
refused_list true es h = rw h
refused_list false es h = refl

refused_in : (k : ℕ) (es : List Entry) (e : Entry) (o : Option (List Entry)) → 0 < entry_number es e → only_accepted (only_kinds k (map (λ (fs : List Entry). (es ++ e ∷ []) ++ fs) o)) ≡ none
refused_in k es e none h = refl
refused_in k es e (some fs) h =
    let all = (es ++ e ∷ []) ++ fs in
    refused_list (kinds_to k all) all (isnt (accepted all) (λ t. omega (arith, accepted_last es e (accepted_before (es ++ e ∷ []) fs t))))

-- ---- the entries passed, and those to come

pub none_passed : (k n : ℕ) (ys : List ℕ) → only_accepted (only_kinds k (take_entries n ys)) ≡ list_behind k [] n ys
none_passed k n ys = ap (λ (o : Option (List Entry)). only_accepted (only_kinds k o)) (map_same (take_entries n ys))

module _ (xs : List ℕ) (es : List Entry) (n k : ℕ) (ys : List ℕ) (o : Stands) where
  module _ (w : WalkedTo xs es (n + 1) k ys o) where
    -- the next of them
    next : take_entries (n + 1) ys ≡ bind (take_entry ys) (λ (y : Entry × List ℕ). map (λ (fs : List Entry). y.0 ∷ fs) (take_entries n y.1))
    unfolding take_entries
    next = let e : n + 1 ≡ suc n = omega arith in rw e

    one_read : (e : Entry) (zs : List ℕ) → take_entry ys ≡ some (e, zs) → map (λ (fs : List Entry). es ++ fs) (take_entries (n + 1) ys) ≡ map (λ (fs : List Entry). (es ++ e ∷ []) ++ fs) (take_entries n zs)
    unfolding bind
    one_read e zs h = rw (next, h) (map_more es e (take_entries n zs))

    -- there is none, or it is of a later kind
    pub no_entry : take_to k ys ≡ none → file_of xs ≡ none
    unfolding take_to bind
    no_entry h = w.list ∙ by (take_entry ys) refl h
      where
        by : (t : Option (Entry × List ℕ)) → take_entry ys ≡ t → up_to k t ≡ none → list_behind k es (n + 1) ys ≡ none
        by none g u = rw (next, g)
        by (some q) g u =
            ap only_accepted (ap (only_kinds k) (one_read q.0 q.1 g) ∙ later_in k es q.0 (take_entries n q.1) (not_got (leb (kind_of q.0) k) q u))

    module _ (e : Entry) (zs : List ℕ) (h : take_to k ys ≡ some (e, zs)) where
      taken : (take_entry ys ≡ some (e, zs)) × (leb (kind_of e) k ≡ true)
      unfolding take_to
      taken = got_to k (take_entry ys) e zs h

      pub refused_entry : 0 < entry_number es e → file_of xs ≡ none
      refused_entry r =
          w.list
          ∙ ap (λ (t : Option (List Entry)). only_accepted (only_kinds k t)) (one_read e zs taken.0)
          ∙ refused_in k es e (take_entries n zs) r

      pub one_passed : entry_number es e ≡ 0 → (p : Stands) → p ≡ stands_in (es ++ e ∷ []) → (j : ℕ) → j ≡ k → WalkedTo xs (es ++ e ∷ []) n j zs p
      one_passed r p s j i =
          let whole : ys ≡ entry_bytes e ++ zs = entry_written ys e zs w.bytes taken.0 in
          record {
            stands = s;
            fine = accepted-more es e w.fine r;
            kinds = rw (i, kinds_more k es e w.kinds, taken.1);
            list = rw i (w.list ∙ ap (λ (t : Option (List Entry)). only_accepted (only_kinds k t)) (one_read e zs taken.0));
            bytes = bytes-behind (entry_bytes e) zs (rw whole at w.bytes);
            place = omega (arith, w.place, length_in es e, ap length whole, length-append (entry_bytes e) zs);
          }

-- all are passed: a byte may be left over
module _ (xs : List ℕ) (es : List Entry) (k : ℕ) (ys : List ℕ) (o : Stands) (w : WalkedTo xs es 0 k ys o) where
  pub left_over : 0 < length ys → file_of xs ≡ none
  unfolding take_entries
  left_over h = w.list ∙ by ys h
    where
      by : (zs : List ℕ) → 0 < length zs → list_behind k es 0 zs ≡ none
      by [] l = absurd (omega arith)
      by (z ∷ zs) l = refl

  pub all_passed : length ys ≡ 0 → file_of xs ≡ some es
  unfolding take_entries
  all_passed h = w.list ∙ by ys h
    where
      by : (zs : List ℕ) → length zs ≡ 0 → list_behind k es 0 zs ≡ some es
      by [] l = rw (append-nil es, w.kinds, w.fine)
      by (z ∷ zs) l = absurd (omega arith)

-- ---- a walk of n turns, of which k are done

-- the next turn, and the end
pub coming : (xs : List ℕ) (es : List Entry) (n k : ℕ) (r : Reader) (t : Standing) → k < n → Walked xs es (n - k) r t → Walked xs es (n - (k + 1) + 1) r t
coming xs es n k r t h w = let e : n - k ≡ n - (k + 1) + 1 = omega arith in subst (λ (m : ℕ). Walked xs es m r t) e w

pub ended : (xs : List ℕ) (es : List Entry) (n k : ℕ) (r : Reader) (t : Standing) → n ≤ k → Walked xs es (n - k) r t → Walked xs es 0 r t
ended xs es n k r t h w = let e : n - k ≡ 0 = omega arith in subst (λ (m : ℕ). Walked xs es m r t) e w

pub begins : (xs : List ℕ) (n : ℕ) (r : Reader) (t : Standing) → Walked xs [] n r t → Walked xs [] (n - 0) r t
begins xs n r t w = let e : n ≡ n - 0 = omega arith in subst (λ (m : ℕ). Walked xs [] m r t) e w
