-- Reading: the entries passed so far are in the record; one entry more; and what the call answers. Assumes nothing.
use mathlib.Core.Path.{◌≡◌, refl, sym, ap, ◌∙◌}
use mathlib.Core.List.{List, [], ◌∷◌, ◌++◌}
use mathlib.Core.Option.{Option, none, some}
use Prim.Native.Nat.{ℕ, ◌+◌, ◌<◌}
use native.Mathlib.Omega.{arith}
use lib.ListN.{length}
use Rattle.laws.specs.Lists.{length_more}
use Rattle.paper.specs.declared.Entry.{Entry}
use Rattle.paper.specs.Record.{is_none}
use Rattle.paper.specs.Refusals.{file_of, ◌when◌, first_number, reading_number}
use Rattle.paper.specs.Journal.{read, call_number, accepted_call, entries_or}
use Rattle.judge.proofs.Accepted.{at_most_64}
use Rattle.record.specs.declared.Record.{Record}
use Rattle.record.specs.Held.{record_of, held_by, kept_or, answered, put}
use Rattle.record.proofs.Lists.{put_is}
use Rattle.record.proofs.Calls.{Answer}
use Rattle.file.specs.Found.{record_in}
use Rattle.std.specs.Prelude.{Ok, Err, Some, None}
use Rattle.std.specs.Prelude.{Option as RustOption}
use Rattle.paper.specs.declared.Refusal.TheVariants.{NoFile}
use Rattle.paper.specs.Numbers.{refusal_of}
use Rattle.judge.specs.declared.Standing.{Standing}
use Rattle.reader.specs.declared.Reader.{Reader}
use Rattle.stored.specs.Walks.{Walked}

-- ---- a record read back

-- the entries that the walk has passed are in it, i of them, and n are to come
pub record ReadTo (xs : List ℕ) (i n : ℕ) (reader : Reader) (standing : Standing) (log : Record) : Type 0 where
  pub entries : List Entry
  pub walked : Walked xs entries n reader standing
  pub held : log ≡ record_of entries
  pub many : length entries ≡ i

pub begun : (xs : List ℕ) (n : ℕ) (reader : Reader) (standing : Standing) (log : Record) → Walked xs [] n reader standing → log ≡ record_of [] → ReadTo xs 0 n reader standing log
begun xs n reader standing log w e =
    record { entries = []; walked = w; held = e; many = refl }

-- one entry more is in the next slot
module _ (xs : List ℕ) (i n : ℕ) (es : List Entry) (e : Entry) (reader : Reader) (standing : Standing) (many : length es ≡ i) (w : Walked xs (es ++ e ∷ []) n reader standing) where
  room : length es < 64
  room = omega (arith, length_more es e, at_most_64 (es ++ e ∷ []) w.fine)

  pub slot_left : (log : Record) → log ≡ record_of es → log.count < 64
  unfolding record_of
  slot_left log h = rw h room

  pub one_more : (log more : Record) → log ≡ record_of es → more ≡ put log e → ReadTo xs (i + 1) n reader standing more
  one_more log more h m =
      record {
        entries = es ++ e ∷ [];
        walked = w;
        held = m ∙ ap (λ (r : Record). put r e) h ∙ put_is es e room;
        many = length_more es e ∙ ap (λ (k : ℕ). k + 1) many;
      }

-- ---- what reading answers

-- by what was found
abbrev pub answered_by : RustOption Record → Record → Answer
answered_by None r = (Err NoFile, r)
answered_by (Some log) r = (Ok tt, log)

-- the record of the list that was found, or 12 and the record as it was
unfoldable pub found_or : Record → Option (List Entry) → Answer
found_or r none = (Err NoFile, r)
found_or r (some es) = (Ok tt, record_of es)

found_by : (r : Record) (o : Option (List Entry)) → kept_or (first_number (12 when is_none o ∷ [])) r (entries_or (held_by r) o) ≡ found_or r o
unfolding kept_or first_number is_none found_or refusal_of
found_by r none = refl
found_by r (some es) = refl

pub reading_answer : (r : Record) (xs : List ℕ) → answered r (read xs) ≡ found_or r (file_of xs)
unfolding answered call_number accepted_call reading_number
reading_answer r xs = found_by r (file_of xs)

-- as the code has it
pub no_file : (o : Option (List Entry)) → o ≡ none → ◌≡◌ {A = RustOption Record} None (record_in o)
no_file o e = rw e refl

pub a_file : (log : Record) (o : Option (List Entry)) (es : List Entry) → o ≡ some es → log ≡ record_of es → ◌≡◌ {A = RustOption Record} (Some log) (record_in o)
a_file log o es e l = rw (e, l) refl

pub answers : (q : RustOption Record) (r : Record) (xs : List ℕ) → q ≡ record_in (file_of xs) → answered_by q r ≡ answered r (read xs)
unfolding found_or
answers q r xs e = ap (λ (p : RustOption Record). answered_by p r) e ∙ by (file_of xs) ∙ sym (reading_answer r xs)
  where
    by : (o : Option (List Entry)) → answered_by (record_in o) r ≡ found_or r o
    by none = refl
    by (some es) = refl
