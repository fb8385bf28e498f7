-- What a line says, exactly: an entry where the line is the entry's text and can be read, undo where it is undo, nothing
-- where it is passed over. The text of an entry gives back its values word by word, by recursion on them. Assumes nothing.
use mathlib.Core.Path.{◌≡◌, refl, sym, ap, ◌∙◌}
use mathlib.Core.Bool.{Bool, true, false, cond, true≢false}
use mathlib.Core.List.{List, [], ◌∷◌, ◌++◌, append-nil}
use Prim.Native.Nat.{ℕ, zero, suc, ◌-◌, ◌^◌, ◌≤◌, ◌<◌}
use native.Mathlib.Omega.{arith}
use lib.Dec.{eqb}
use lib.IntN.{ℤ, pos, nat_abs}
use lib.ListN.{length, replicate, drop, get_or}
use lib.Seq.{take_at, take_all}
use borrow.Author.Tests.{eq-eqb, eqb-true}
use Rattle.laws.specs.Equal.{eq_list, same_list, list_same}
use Rattle.laws.specs.Lists.{Each, each_more}
use Rattle.laws.specs.Splits.{index_first, index_none, drop-part, drop_past}
use Rattle.paper.specs.declared.Entry.{Entry}
use Rattle.paper.specs.declared.Entry.TheVariants as entry
use Rattle.paper.specs.Placard.{space}
use Rattle.paper.specs.Rows.{joined}
use Rattle.paper.specs.File.{kind_of, values_of, entry_of}
use Rattle.numerals.specs.Numerals.{numeral, most_digits}
use Rattle.numerals.proofs.Words.{numeral_above, value_back}
use Rattle.wording.specs.Texts.{name_of, values_text, entry_text, Readable}
use Rattle.wording.proofs.Parts.{values_few}
use Rattle.language.specs.declared.Line.{Line}
use Rattle.language.specs.declared.Line.TheVariants as line
use Rattle.language.specs.Lines.{undo_text, passed_over, Means, kind_named, first_word, other_words, values_from, candidate, says}
use Rattle.language.proofs.Values.{no_values}
use Rattle.language.proofs.Candidates.{candidate_readable}
use Rattle.language.proofs.read_line.Reads as read-line

-- ---- words

-- no sign of a word is a space
abbrev Word : List ℕ → Type 0
Word ws = Each (λ (x : ℕ). space < x) ws

first_word_lem : (ws : List ℕ) (vs : List ℤ) → Word ws → first_word (ws ++ values_text vs) ≡ ws
unfolding first_word joined
first_word_lem ws [] h = rw (append-nil ws, index_none space ws h) (take_all (length ws) ws (omega arith))
first_word_lem ws (v ∷ vs) h = rw (index_first space ws (numeral v ++ values_text vs) h) (take_at ws (values_text (v ∷ vs)) (length ws) refl)

other_words_lem : (ws : List ℕ) (vs : List ℤ) → Word ws → other_words (ws ++ values_text vs) ≡ drop 1 (values_text vs)
unfolding other_words joined
other_words_lem ws [] h = rw (append-nil ws, index_none space ws h) (drop_past ws)
other_words_lem ws (v ∷ vs) h = rw (index_first space ws (numeral v ++ values_text vs) h) (drop-part ws space (numeral v ++ values_text vs))

-- ---- the text of an entry

-- its kind, by the first two letters of its name
kind_named_lem : (e : Entry) → kind_named (get_or (entry_text e) 0 0) (get_or (entry_text e) 1 0) ≡ kind_of e
unfolding kind_named entry_text name_of
kind_named_lem (entry.Weighing w) = refl
kind_named_lem (entry.Sheet s) = refl
kind_named_lem (entry.Change x) = refl
kind_named_lem (entry.Paired x) = refl
kind_named_lem (entry.Seat f) = refl

name_word : (e : Entry) → Word (name_of (kind_of e))
unfolding name_of
name_word (entry.Weighing w) = omega arith
name_word (entry.Sheet s) = omega arith
name_word (entry.Change x) = omega arith
name_word (entry.Paired x) = omega arith
name_word (entry.Seat f) = omega arith

others_text : (e : Entry) → other_words (entry_text e) ≡ drop 1 (values_text (values_of e))
unfolding entry_text
others_text e = other_words_lem (name_of (kind_of e)) (values_of e) (name_word e)

-- values in the first of fifteen places, 0 in the others
abbrev in_places : List ℤ → List ℤ
in_places vs = vs ++ replicate (15 - length vs) (pos 0)

in-places : (e : Entry) → entry_of (kind_of e) (in_places (values_of e)) ≡ e
unfolding entry_of
in-places (entry.Weighing w) = refl
in-places (entry.Sheet s) = refl
in-places (entry.Change x) = refl
in-places (entry.Paired x) = refl
in-places (entry.Seat f) = refl

text-kept : (e : Entry) → passed_over (entry_text e) ≡ false
unfolding passed_over entry_text name_of
text-kept (entry.Weighing w) = refl
text-kept (entry.Sheet s) = refl
text-kept (entry.Change x) = refl
text-kept (entry.Paired x) = refl
text-kept (entry.Seat f) = refl

text_no_undo : (e : Entry) → eq_list eqb (entry_text e) undo_text ≡ false
unfolding entry_text name_of
text_no_undo (entry.Weighing w) = refl
text_no_undo (entry.Sheet s) = refl
text_no_undo (entry.Change x) = refl
text_no_undo (entry.Paired x) = refl
text_no_undo (entry.Seat f) = refl

eq_texts : (xs : List ℕ) → eq_list eqb xs xs ≡ true
eq_texts xs = list_same eqb (λ x. eq-eqb x x refl) xs

-- ---- by the tests

abbrev said_by : Bool → Bool → Bool → Entry → Line
said_by a b c e = cond a line.Passed (cond b line.Undo (cond c (line.Entry e) line.NotUnderstood))

entry_by : (a b c : Bool) (d e : Entry) → said_by a b c d ≡ line.Entry e → c ≡ true
entry_by true b c d e h = cc
entry_by false true c d e h = cc
entry_by false false true d e h = refl
entry_by false false false d e h = cc

entry_is : (a b c : Bool) (d e : Entry) → said_by a b c d ≡ line.Entry e → d ≡ e
entry_is true b c d e h = cc
entry_is false true c d e h = cc
entry_is false false true d e h = cc
entry_is false false false d e h = cc

undo_by : (a b c : Bool) (d : Entry) → said_by a b c d ≡ line.Undo → b ≡ true
undo_by true b c d h = cc
undo_by false true c d h = refl
undo_by false false true d h = cc
undo_by false false false d h = cc

passed_by : (a b c : Bool) (d : Entry) → said_by a b c d ≡ line.Passed → a ≡ true
passed_by true b c d h = refl
passed_by false true c d h = cc
passed_by false false true d h = cc
passed_by false false false d h = cc

unknown_by : (a b c : Bool) (d : Entry) → said_by a b c d ≡ line.NotUnderstood → a ≡ false
unknown_by true b c d h = cc
unknown_by false b c d h = refl

pub says_undo : says undo_text ≡ line.Undo
unfolding says passed_over
says_undo = refl

pub undo_only : (xs : List ℕ) → says xs ≡ line.Undo → xs ≡ undo_text
unfolding says
undo_only xs h =
    same_list eqb eqb-true xs undo_text (undo_by (passed_over xs) (eq_list eqb xs undo_text) (eq_list eqb xs (entry_text (candidate xs))) (candidate xs) h)

pub passes : (xs : List ℕ) → passed_over xs ≡ true → says xs ≡ line.Passed
unfolding says
passes xs h = rw h

pub passed_only : (xs : List ℕ) → says xs ≡ line.Passed → passed_over xs ≡ true
unfolding says
passed_only xs h = passed_by (passed_over xs) (eq_list eqb xs undo_text) (eq_list eqb xs (entry_text (candidate xs))) (candidate xs) h

-- ---- an entry

numeral-word : (v : ℤ) → Word (numeral v)
numeral-word v = each_more (λ (x : ℕ). 44 < x) (λ (x : ℕ). space < x) (λ x h. omega arith) (numeral v) (numeral_above v)

-- the numbers of the words are the values, and 0 behind them
values_back : (n : ℕ) (vs : List ℤ) → length vs ≤ n → Each (λ (v : ℤ). nat_abs v < 10 ^ most_digits) vs → values_from n (drop 1 (values_text vs)) ≡ vs ++ replicate (n - length vs) (pos 0)
unfolding values_from joined
values_back n [] l h = let e : n - 0 ≡ n = omega arith in rw e (no_values n)
values_back zero (v ∷ vs) l h = absurd (omega arith)
values_back (suc n) (v ∷ vs) l h =
    let e : suc n - suc (length vs) ≡ n - length vs = omega arith in
    rw (first_word_lem (numeral v) vs (numeral-word v), other_words_lem (numeral v) vs (numeral-word v), value_back v h.0, values_back n vs (omega arith) h.1, e)

candidate-text : (e : Entry) → Readable e → candidate (entry_text e) ≡ e
unfolding candidate
candidate-text e h =
    rw (kind_named_lem e, others_text e, values_back 15 (values_of e) (values_few e) h) (in-places e)

pub says-text : (e : Entry) → Readable e → says (entry_text e) ≡ line.Entry e
unfolding says
says-text e h = rw (text-kept e, text_no_undo e, candidate-text e h, eq_texts (entry_text e))

pub not_understood_lem : (xs : List ℕ) → says xs ≡ line.NotUnderstood → (passed_over xs ≡ false) × (xs ≡ undo_text → ⊥) × ((e : Entry) → Readable e → xs ≡ entry_text e → ⊥)
unfolding says
not_understood_lem xs h = (
  unknown_by (passed_over xs) (eq_list eqb xs undo_text) (eq_list eqb xs (entry_text (candidate xs))) (candidate xs) h,
  (λ e. let u : says undo_text ≡ line.NotUnderstood = rw e at h in let v = says_undo in let w : true ≡ false = cc in true≢false w),
  (λ e r q. let u : says (entry_text e) ≡ line.NotUnderstood = rw q at h in let v = says-text e r in let w : true ≡ false = cc in true≢false w),
)

pub says_only : (xs : List ℕ) (e : Entry) → says xs ≡ line.Entry e → (xs ≡ entry_text e) × Readable e
unfolding says
says_only xs e h =
    let a = passed_over xs in
    let b = eq_list eqb xs undo_text in
    let d = candidate xs in
    let c = eq_list eqb xs (entry_text d) in
    rw (← entry_is a b c d e h) (same_list eqb eqb-true xs (entry_text d) (entry_by a b c d e h), candidate_readable xs)

-- ---- the language, both ways

pub said_is_meant : (xs : List ℕ) (l : Line) → says xs ≡ l → Means xs l
said_is_meant xs line.Passed e = passed_only xs e
said_is_meant xs line.Undo e = undo_only xs e
said_is_meant xs (line.Entry d) e = says_only xs d e
said_is_meant xs line.NotUnderstood e = not_understood_lem xs e

-- what has no meaning is not understood, whatever it says
unknown_said : (xs : List ℕ) (l : Line) → says xs ≡ l → Means xs line.NotUnderstood → says xs ≡ line.NotUnderstood
unknown_said xs line.Passed e m = absurd (true≢false (sym (passed_only xs e) ∙ m.0))
unknown_said xs line.Undo e m = absurd (m.1 (undo_only xs e))
unknown_said xs (line.Entry d) e m = let only = says_only xs d e in absurd (m.2 d only.1 only.0)
unknown_said xs line.NotUnderstood e m = e

pub meant_is_said : (xs : List ℕ) (l : Line) → Means xs l → says xs ≡ l
meant_is_said xs line.Passed m = passes xs m
meant_is_said xs line.Undo m = ap says m ∙ says_undo
meant_is_said xs (line.Entry e) m = ap says m.0 ∙ says-text e m.1
meant_is_said xs line.NotUnderstood m = unknown_said xs (says xs) refl m

-- What `language::read_line` answers is what the line means, and a line has no other meaning.
pub read_as_meant : (κs : _) (i i' : _) (l : Line) → read-line.Post κs (i, tt) l (i', tt) → Means i.now l × ((m : Line) → Means i.now m → m ≡ l)
read_as_meant κs i i' l h = (said_is_meant i.now l (sym h), λ m k. sym (meant_is_said i.now m k) ∙ sym h)
