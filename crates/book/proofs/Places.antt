-- A logbook read up to a line: what the lines behind it make of the list so far is what the whole comes to. One line more, by
-- what it says, adds to the list or ends the logbook. Assumes nothing.
use mathlib.Core.Path.{◌≡◌, refl, sym, ap, ◌∙◌}
use mathlib.Core.Bool.{true}
use mathlib.Core.List.{List, [], ◌∷◌, ◌++◌}
use Prim.Native.Nat.{ℕ, ◌+◌, ◌≤◌, ◌<◌}
use borrow.Author.Tests.{eq-eqb}
use lib.ListN.{length, drop, get_or}
use Rattle.std.specs.Prelude.{Result, Ok, Err}
use Rattle.std.proofs.lemmas.List.{at_drop_more, at_drop_all}
use Rattle.laws.specs.Splits.{split}
use Rattle.paper.specs.declared.Entry.{Entry}
use Rattle.paper.specs.declared.Refusal.{Refusal}
use Rattle.paper.specs.Placard.{feed}
use Rattle.paper.specs.Numbers.{number_of, number_in}
use Rattle.paper.proofs.Numbers.{positive, number_back}
use Rattle.paper.specs.Refusals.{accepted, accepted_after}
use Rattle.paper.specs.Journal.{undo, call_of, call_number, accepted_call, after_by}
use Rattle.paper.proofs.Calls.{entry_number_lem, entry_added}
use Rattle.judge.specs.declared.Standing.{Standing}
use Rattle.judge.specs.Standing.{Stands, stands_in, plainly, judged}
use Rattle.judge.proofs.Accepted.{accepted-more}
use Rattle.judge.proofs.Following.{kept_added}
use Rattle.record.specs.declared.Record.{Record}
use Rattle.record.specs.declared.Replayed.{Replayed}
use Rattle.record.specs.Held.{record_of, held_by, answered, put, ReplayedAs}
use Rattle.record.proofs.Calls.{Answer}
use Rattle.record.proofs.Lists.{held_record}
use Rattle.record.proofs.Replays.{number_is, room, gone_on}
use Rattle.record.proofs.Following.{call_accepted, answered_list, answered_number, made_answered}
use Rattle.language.specs.declared.Line.TheVariants as line
use Rattle.language.specs.Lines.{says}
use Rattle.book.specs.declared.Failure.{Failure}
use Rattle.book.specs.declared.Failure.TheVariants as failure
use Rattle.book.specs.Books.{Outcome, stands, refused, not_understood, called, after_line, after_lines, book_of, reading_of}
use Rattle.book.proofs.Turns.{IsLine, refused_stays, not_understood_stays, after_more, after_none, called_refused, called-accepted}

-- the first i lines are read: they come to a list, which calls give, and the record is that of the list
pub record ReadTo (s : List ℕ) (log : Record) (standing : Standing) (i : ℕ) : Type 0 where
  pub entries : List Entry
  pub fine : accepted entries ≡ true
  pub is : ReplayedAs entries (record { log = log; standing = standing })
  pub rest : after_lines i (stands entries) (drop i (split feed s)) ≡ book_of s

pub none_read : (s : List ℕ) (log : Record) (standing : Standing) → log ≡ record_of [] → plainly standing ≡ stands_in [] → ReadTo s log standing 0
unfolding accepted accepted_after book_of
none_read s log standing e k = record { entries = []; fine = refl; is = record { log = e; stands = k }; rest = refl }

-- one line more
module _ {s xs : List ℕ} {log : Record} {standing : Standing} {i k : ℕ} (l : IsLine s i k xs) (r : ReadTo s log standing i) where
  abbrev es : List Entry
  es = r.entries

  abbrev left : List (List ℕ)
  left = drop (i + 1) (split feed s)

  comes_to : after_lines (i + 1) (after_line (i + 1) es (says xs)) left ≡ book_of s
  comes_to =
      ap (λ (x : List ℕ). after_lines (i + 1) (after_line (i + 1) es (says x)) left) l.2
      ∙ sym (after_more i es (get_or (split feed s) i xs) left)
      ∙ sym (at_drop_more (after_lines i (stands es)) (split feed s) i xs l.1)
      ∙ r.rest

  comes_by : (o : Outcome) → after_line (i + 1) es (says xs) ≡ o → after_lines (i + 1) o left ≡ book_of s
  comes_by o e = rw (← e) comes_to

  -- the list afterwards
  goes_on : (fs : List Entry) (next : Record) (t : Standing) → accepted fs ≡ true → ReplayedAs fs (record { log = next; standing = t }) → after_line (i + 1) es (says xs) ≡ stands fs → ReadTo s next t (i + 1)
  goes_on fs next t a p e = record { entries = fs; fine = a; is = p; rest = comes_by (stands fs) e }

  -- or why there is none
  ends_refused : (f : Refusal) → after_line (i + 1) es (says xs) ≡ refused (i + 1) (number_of f) → ◌≡◌ {A = Result Record Failure} (Err (failure.Refused (k + 1) f)) (reading_of (book_of s))
  ends_refused f e =
      let n = number_of f in
      rw l.0
      (ap {B = Result Record Failure} (λ (g : Refusal). Err (failure.Refused (i + 1) g)) (sym (number_back f)))
      ∙ ap reading_of (refused_stays (i + 1) (i + 1) n left ∙ comes_by (refused (i + 1) n) e)

  pub passed : says xs ≡ line.Passed → ReadTo s log standing (i + 1)
  unfolding after_line
  passed h = goes_on es log standing r.fine r.is (rw h)

  pub not_understood_lem : says xs ≡ line.NotUnderstood → ◌≡◌ {A = Result Record Failure} (Err (failure.NotUnderstood (k + 1))) (reading_of (book_of s))
  unfolding after_line
  not_understood_lem h =
      rw l.0 (ap reading_of (not_understood_stays (i + 1) (i + 1) left ∙ comes_by (not_understood (i + 1)) (rw h)))

  -- a call
  is_refused : (x : _) (f : Refusal) → after_line (i + 1) es (says xs) ≡ called (i + 1) es x → number_of f ≡ call_number es x → ◌≡◌ {A = Result Record Failure} (Err (failure.Refused (k + 1) f)) (reading_of (book_of s))
  is_refused x f e n =
      ends_refused f (e ∙ called_refused (i + 1) es x (rw (← n) (positive f)) ∙ ap (refused (i + 1)) (sym n))

  -- an entry, by its judgement
  module _ (e : Entry) (h : says xs ≡ line.Entry e) (p : Stands) (n : ℕ) (j : ◌≡◌ {A = ℕ × Stands} (n, p) (judged (plainly standing) e)) where
    says_call : after_line (i + 1) es (says xs) ≡ called (i + 1) es (call_of e)
    unfolding after_line
    says_call = rw h

    number : n ≡ call_number es (call_of e)
    number = number_is es (record { log = log; standing = standing }) r.is e p n j ∙ sym (entry_number_lem es e)

    pub refused_entry : (f : Refusal) → number_of f ≡ n → ◌≡◌ {A = Result Record Failure} (Err (failure.Refused (k + 1) f)) (reading_of (book_of s))
    refused_entry f m = is_refused (call_of e) f says_call (m ∙ number)

    pub entry_room : n ≡ 0 → log.count < 64
    entry_room z = room es (record { log = log; standing = standing }) r.is e p n j z

    pub added_entry : n ≡ 0 → (t : Standing) → plainly t ≡ p → ReadTo s (put log e) t (i + 1)
    added_entry z t u =
        let none = sym number ∙ z in
        let clear = sym (entry_number_lem es e) ∙ none in
        goes_on (es ++ e ∷ []) (put log e) t (accepted-more es e r.fine clear)
        (rw (kept_added es e clear) at (gone_on es (record { log = log; standing = standing }) r.is e p n j t u z))
        (says_call ∙ called-accepted (i + 1) es (call_of e) none ∙ ap stands (entry_added es e))

  -- taking back, by what its call answers and leaves
  module _ (h : says xs ≡ line.Undo) (g : Answer) (a : g ≡ answered log undo) where
    says_undo : after_line (i + 1) es (says xs) ≡ called (i + 1) es undo
    unfolding after_line
    says_undo = rw h

    held : held_by log ≡ es
    held = ap held_by r.is.log ∙ held_record es r.fine

    undo_number_is : number_in g.0 ≡ call_number es undo
    undo_number_is =
        ap (λ (x : Answer). number_in x.0) a ∙ answered_number log undo
        ∙ ap (λ (fs : List Entry). call_number fs undo) held

    pub refused_undo : (f : Refusal) → g.0 ≡ Err f → ◌≡◌ {A = Result Record Failure} (Err (failure.Refused (k + 1) f)) (reading_of (book_of s))
    refused_undo f e = is_refused undo f says_undo (sym (ap (λ (x : Result (Unit {0}) Refusal). number_in x) e) ∙ undo_number_is)

    pub undone : number_in g.0 ≡ 0 → (now : Replayed) → ReplayedAs (held_by g.1) now → ReadTo s g.1 now.standing (i + 1)
    unfolding after_by
    undone z now p =
        let none = sym undo_number_is ∙ z in
        let list : held_by g.1 ≡ accepted_call es undo = ap (λ (x : Answer). held_by x.1) a ∙ answered_list log undo ∙ rw (held, eq-eqb (call_number es undo) 0 none) in
        let made : log ≡ record_of (held_by log) = r.is.log ∙ ap record_of (sym held) in
        let left_made : g.1 ≡ record_of (held_by g.1) = rw a (made_answered log undo made) in
        goes_on (accepted_call es undo) g.1 now.standing (call_accepted es undo r.fine none)
        (record { log = left_made ∙ ap record_of list; stands = p.stands ∙ ap stands_in list })
        (says_undo ∙ called-accepted (i + 1) es undo none)

-- at the end no line is left
pub all_read : (s : List ℕ) (log : Record) (standing : Standing) (i : ℕ) → ReadTo s log standing i → length (split feed s) ≤ i → ◌≡◌ {A = Result Record Failure} (Ok log) (reading_of (book_of s))
all_read s log standing i r h =
    let whole : stands r.entries ≡ book_of s = sym (at_drop_all (after_lines i (stands r.entries)) (split feed s) i h ∙ after_none i (stands r.entries)) ∙ r.rest in
    ap {B = Result Record Failure} (λ (l : Record). Ok l) r.is.log ∙ ap reading_of whole
