-- A listing read again: each entry's line is the entry's call, which gets no number where the list is one that calls give, and
-- a comment's line is passed over; by recursion on the entries. The theorem about the calls follows from what their contracts
-- promise. Assumes nothing.
use mathlib.Core.Path.{◌≡◌, refl, sym, ap, ◌∙◌}
use mathlib.Core.Bool.{Bool, true, false}
use mathlib.Core.List.{List, [], ◌∷◌, ◌++◌, append_assoc, append-nil}
use Prim.Native.Nat.{ℕ, suc, ◌<◌}
use native.Mathlib.Omega.{arith}
use lib.Dec.{ltb, eqb}
use lib.ListN.{length, take, drop}
use lib.Seq.{take-append_seam}
use borrow.Author.Tests.{eqb-true}
use denote.Ref.{Bor}
use Rattle.std.specs.Prelude.{Result, Ok, Err}
use Rattle.laws.specs.Splits.{split, split-part}
use Rattle.laws.specs.Lists.{Each, each_more, each_append}
use Rattle.laws.specs.Tests.{left, right}
use Rattle.paper.specs.declared.Entry.{Entry}
use Rattle.paper.specs.declared.Entry.TheVariants as entry
use Rattle.paper.specs.declared.CentreOfGravity.{CentreOfGravity}
use Rattle.paper.specs.declared.Refusal.{Refusal}
use Rattle.paper.specs.Placard.{feed}
use Rattle.paper.specs.Refusals.{first_number, ◌when◌, entry_number, accepted_after, accepted}
use Rattle.paper.specs.Journal.{call_of}
use Rattle.paper.proofs.Calls.{entry_number_lem, entry_added}
use Rattle.paper.specs.Answers.{centre_answer, over, written_by}
use Rattle.numerals.specs.Numerals.{numeral}
use Rattle.numerals.proofs.Words.{numeral_above}
use Rattle.wording.specs.Texts.{entry_text}
use Rattle.wording.proofs.Plain.{text_above}
use Rattle.language.specs.declared.Line.TheVariants as line
use Rattle.language.specs.Lines.{passed_over, says}
use Rattle.language.proofs.Exactly.{says-text}
use Rattle.record.specs.declared.Record.{Record}
use Rattle.record.specs.Held.{held_by}
use Rattle.record.proofs.Replays.{held_accepted}
use Rattle.record.proofs.Following.{Made}
use Rattle.book.specs.declared.Failure.{Failure}
use Rattle.book.specs.Books.{Outcome, stands, called, after_line, after_lines, book_of, reading_of}
use Rattle.book.proofs.Turns.{called-accepted}
use Rattle.book.proofs.read.Reads as read
use Rattle.listing.specs.Listings.{total_text, moment_text, centre_text, halves, signed_halves, comment, comes_to, remark, lines_of, listed_after, listing, listed_answer}
use Rattle.listing.proofs.Halves.{halves_above, signed_above}
use Rattle.listing.proofs.Readables.{entry_readable}
use Rattle.listing.proofs.show.Reads as show

-- no byte is a line feed, or below it
abbrev Plain : List ℕ → Type 0
Plain xs = Each (λ (x : ℕ). feed < x) xs

-- ---- lines

-- a line that is passed over
passed_line : (i : ℕ) (es : List Entry) (l : List ℕ) (ls : List (List ℕ)) → passed_over l ≡ true → after_lines i (stands es) (l ∷ ls) ≡ after_lines (suc i) (stands es) ls
unfolding after_lines after_line says
passed_line i es l ls h = rw h

-- the last line, which is empty
last_line : (i : ℕ) (es : List Entry) → after_lines i (stands es) ([] ∷ []) ≡ stands es
unfolding after_lines after_line says passed_over
last_line i es = refl

-- an entry that gets no number, by its call
entry_called : (i : ℕ) (es : List Entry) (e : Entry) → entry_number es e ≡ 0 → called i es (call_of e) ≡ stands (es ++ e ∷ [])
entry_called i es e n = called-accepted i es (call_of e) (entry_number_lem es e ∙ n) ∙ ap stands (entry_added es e)

-- a line that says it
entry_line : (i : ℕ) (es : List Entry) (e : Entry) (l : List ℕ) (ls : List (List ℕ)) → says l ≡ line.Entry e → entry_number es e ≡ 0 → after_lines i (stands es) (l ∷ ls) ≡ after_lines (suc i) (stands (es ++ e ∷ [])) ls
unfolding after_lines after_line
entry_line i es e l ls h n = rw (h, entry_called (suc i) es e n)

-- ---- a comment

-- no byte of a number is below a hyphen
number_plain : (xs : List ℕ) → Each (λ (x : ℕ). 44 < x) xs → Plain xs
number_plain xs h = each_more (λ (x : ℕ). 44 < x) (λ (x : ℕ). feed < x) (λ x h. omega arith) xs h

-- its line without the line feed
abbrev said : CentreOfGravity → List ℕ
said c = total_text ++ halves c.total ++ moment_text ++ signed_halves c.moment ++ centre_text ++ numeral c.centre

and_plain : (xs ys : List ℕ) → Plain xs → Plain ys → Plain (xs ++ ys)
and_plain = each_append (λ (x : ℕ). feed < x)

said_plain : (c : CentreOfGravity) → Plain (said c)
said_plain c =
    let n = halves c.total in
    let m = signed_halves c.moment in
    let k = numeral c.centre in
    let a = total_text ++ n in
    let b = a ++ moment_text ++ m in
    let total : Plain total_text = omega arith in
    let moment : Plain moment_text = omega arith in
    let centre : Plain centre_text = omega arith in
    let first : Plain a = and_plain total_text n total (number_plain n (halves_above c.total)) in
    let second : Plain b = and_plain (a ++ moment_text) m (and_plain a moment_text first moment) (number_plain m (signed_above c.moment)) in
    and_plain (b ++ centre_text) k (and_plain b centre_text second centre) (number_plain k (numeral_above c.centre))

signed : (c : CentreOfGravity) → passed_over (said c) ≡ true
unfolding passed_over
signed c = refl

comment_passed : (i : ℕ) (es : List Entry) (c : CentreOfGravity) (rest : List ℕ) → after_lines i (stands es) (split feed (comment c ++ rest)) ≡ after_lines (suc i) (stands es) (split feed rest)
unfolding comment
comment_passed i es c rest =
    ap (λ (l : List ℕ). after_lines i (stands es) (split feed l)) (append_assoc (said c) (feed ∷ []) rest)
    ∙ ap (after_lines i (stands es)) (split-part feed (said c) rest (said_plain c))
    ∙ passed_line i es (said c) (split feed rest) (signed c)

-- what follows an entry's line changes nothing
comes_to_passed : (es : List Entry) (c : Result CentreOfGravity Refusal) (rest : List ℕ) (o : Outcome) → ((j : ℕ) → after_lines j (stands es) (split feed rest) ≡ o) → (i : ℕ) → after_lines i (stands es) (split feed (comes_to c ++ rest)) ≡ o
comes_to_passed es (Ok c) rest o h i = comment_passed i es c rest ∙ h (suc i)
comes_to_passed es (Err f) rest o h i = h i

remark_passed : (es : List Entry) (c : Result CentreOfGravity Refusal) (f : Entry) (rest : List ℕ) (o : Outcome) → ((j : ℕ) → after_lines j (stands es) (split feed rest) ≡ o) → (i : ℕ) → after_lines i (stands es) (split feed (remark c f ++ rest)) ≡ o
unfolding remark
remark_passed es c (entry.Weighing w) rest o h i = comes_to_passed es c rest o h i
remark_passed es c (entry.Sheet s) rest o h i = h i
remark_passed es c (entry.Change x) rest o h i = comes_to_passed es c rest o h i
remark_passed es c (entry.Paired x) rest o h i = comes_to_passed es c rest o h i
remark_passed es c (entry.Seat f) rest o h i = h i

-- ---- a listing

listed_after_lem : (es fs : List Entry) → accepted_after es fs ≡ true → (i : ℕ) → after_lines i (stands es) (split feed (listed_after es fs)) ≡ stands (es ++ fs)
unfolding accepted_after listed_after lines_of split
listed_after_lem es [] h i = last_line i es ∙ ap stands (sym (append-nil es))
listed_after_lem es (f ∷ fs) h i =
    let gs = es ++ f ∷ [] in
    let c = centre_answer gs in
    let rest = listed_after gs fs in
    let n = eqb-true (entry_number es f) 0 (left (eqb (entry_number es f) 0) (accepted_after gs fs) h) in
    let more = listed_after_lem gs fs (right (eqb (entry_number es f) 0) (accepted_after gs fs) h) in
    ap (λ (l : List ℕ). after_lines i (stands es) (split feed l)) (append_assoc (entry_text f) (feed ∷ remark c f) rest)
    ∙ ap (after_lines i (stands es)) (split-part feed (entry_text f) (remark c f ++ rest) (text_above f))
    ∙ entry_line i es f (entry_text f) (split feed (remark c f ++ rest)) (says-text f (entry_readable es f n)) n
    ∙ remark_passed gs c f rest (stands (gs ++ fs)) more (suc i)
    ∙ ap stands (append_assoc es (f ∷ []) fs)

-- The listing of a list that accepted calls give is a logbook that comes to that list.
pub listed_read : (es : List Entry) → accepted es ≡ true → book_of (listing es) ≡ stands es
unfolding accepted book_of listing
listed_read es h = listed_after_lem [] es h 0

-- ---- the calls

-- what is written where the answer is a length
written_by_lem : (t : Bool) (xs s out : List ℕ) (n : ℕ) → ◌≡◌ {A = Result ℕ Refusal × List ℕ} (Ok n, out) (written_by (first_number (11 when t ∷ [])) xs s) → (n ≡ length xs) × (out ≡ over xs s)
unfolding written_by first_number
written_by_lem true xs s out n e = let no = ap (λ (p : Result ℕ Refusal × List ℕ). p.0) e in cc
written_by_lem false xs s out n e =
    let size = ap (λ (p : Result ℕ Refusal × List ℕ). p.0) e in
    (cc, ap (λ (p : Result ℕ Refusal × List ℕ). p.1) e)

listed : (es : List Entry) (s t : List ℕ) (a : Result ℕ Refusal) (n : ℕ) → ◌≡◌ {A = Result ℕ Refusal × List ℕ} (a, t) (listed_answer es s) → a ≡ Ok n → take n t ≡ listing es
unfolding listed_answer over
listed es s t a n e k =
    let xs = listing es in
    let w = written_by_lem (ltb (length s) (length xs)) xs s t n (rw k at e) in
    rw (w.0, w.1) (take-append_seam xs (drop (length xs) s))

-- A record that calls give, shown into any buffer that holds its listing, and that listing read as a logbook, is the same record.
pub shown_then_read : (r : Record) → Made r
    → (κs : _) (q q' : Bor Record) (o o' : _) (a : Result ℕ Refusal) (n : ℕ) → q.now ≡ r → show.Post κs (q, (o, tt)) a (q', (o', tt)) → a ≡ Ok n
    → (λs : _) (i i' : _) (k : Result Record Failure) → read.Post λs (i, tt) k (i', tt) → i.now ≡ take n o'.now
    → k ≡ Ok r
shown_then_read r m κs q q' o o' a n s w l λs i i' k c e =
    let es = held_by r in
    let part : i.now ≡ listing es = e ∙ listed es o.now o'.now a n (rw s at w) l in
    let log : reading_of (stands es) ≡ Ok r = ap {B = Result Record Failure} (λ (x : Record). Ok x) (sym m) in
    c ∙ ap (λ (xs : List ℕ). reading_of (book_of xs)) part ∙ ap reading_of (listed_read es (held_accepted r)) ∙ log
