-- Both round trips, as theorems about the published calls: a hypothesis `Post` of a function is what the function's own
-- contract promises of one call (its arguments, its answer, the arguments as it leaves them). They follow from the promises
-- and the laws of the format (crate `format`). Assumes nothing.
use mathlib.Core.Path.{◌≡◌, refl, sym, ap, ◌∙◌}
use mathlib.Core.Bool.{true}
use mathlib.Core.List.{List}
use mathlib.Core.Option.{Option, none, some}
use Prim.Native.Nat.{ℕ, ◌≤◌}
use lib.ListN.{length, get_or, take, drop, set, length-set}
use lib.Seq.{take-append_seam}
use Rattle.paper.specs.declared.Entry.{Entry}
use Rattle.std.specs.Prelude.{Result, Ok, Err}
use Rattle.std.specs.Borrow.{Bor, MutBor}
use Rattle.paper.specs.declared.Refusal.{Refusal}
use Rattle.paper.specs.declared.Refusal.TheVariants.{NoFile}
use Rattle.paper.specs.File.{bytes_of, body_as, file_as, version, file_bytes}
use Rattle.paper.specs.Refusals.{accepted, file_of}
use Rattle.paper.specs.Answers.{over, written_answer}
use Rattle.paper.specs.Journal as journal
use Rattle.format.specs.Files.{Allows, allows_all, version_alone, read_written, file_accepted}
use Rattle.record.specs.declared.Record.{Record}
use Rattle.record.specs.Held.{record_of, held_by, answered}
use Rattle.record.proofs.Lists.{held_record}
use Rattle.record.proofs.Replays.{held_accepted}
use Rattle.judge.proofs.Accepted.{at_most_64}
use Rattle.record.proofs.Calls.{Answer}
use Rattle.record.proofs.Following.{Made}
use Rattle.stored.proofs.Parts.{long_enough}
use Rattle.file.proofs.Reading.{found_or, reading_answer}
use Rattle.file.proofs.write.Reads as write
use Rattle.file.proofs.read.Reads as read

-- what writing answers, and what it leaves of the buffer
abbrev pub Written : Type 0
Written = Result ℕ Refusal × List ℕ

-- ---- one call

-- what reading answers of a list's file in a version, whatever the record was
read_file : (q t : Record) (xs : List ℕ) (k : Result (Unit {0}) Refusal) (v : ℕ) (es : List Entry) → Allows v es → accepted es ≡ true → xs ≡ file_as v es → ◌≡◌ {A = Answer} (k, t) (answered q (journal.read xs)) → ◌≡◌ {A = Answer} (k, t) (Ok tt, record_of es)
unfolding found_or
read_file q t xs k v es m a e h =
    h ∙ reading_answer q xs ∙ ap (found_or q) (ap file_of e ∙ read_written v es m a (at_most_64 es a))

-- what an accepted reading was of
accepted_by : (q t : Record) (o : Option (List Entry)) → ◌≡◌ {A = Answer} (Ok tt, t) (found_or q o) → (es : List Entry) × (o ≡ some es) × (t ≡ record_of es)
unfolding found_or
accepted_by q t none e = absurd (accepts_not (ap (λ (x : Answer). x.0) e))
  where
    accepts_not : ◌≡◌ {A = Result (Unit {0}) Refusal} (Ok tt) (Err NoFile) → ⊥
    accepts_not f = cc
accepted_by q t (some es) e = (es, refl, ap (λ (x : Answer). x.1) e)

-- what writing answers where the buffer holds the file
written_file : (r : Record) (s t : List ℕ) (a : Result ℕ Refusal) → length (file_bytes (held_by r)) ≤ length s → ◌≡◌ {A = Written} (a, t) (written_answer (held_by r) s) → (a ≡ Ok (length (file_bytes (held_by r)))) × (t ≡ over (file_bytes (held_by r)) s)
written_file r s t a h e =
    let w = e ∙ long_enough (held_by r) s h in
    (ap (λ (p : Written). p.0) w, ap (λ (p : Written). p.1) w)

-- a file of the version that is written has it in its fifth place
same_version : (xs : List ℕ) (v : ℕ) (es : List Entry) → xs ≡ file_as v es → get_or xs 4 0 ≡ version → set xs 4 version ≡ xs
unfolding file_as body_as bytes_of
same_version xs v es f e = rw f (ap (λ (u : ℕ). file_as u es) (sym (rw f at e)))

-- ---- the theorems

-- Reading accepts exactly the files of the lists that accepted calls give, in every version that has their kinds, and leaves the
-- record of that list.
module _ (κs : _) (q q' : MutBor Record) (i i' : _) (k : Result (Unit {0}) Refusal) (call : read.Post κs (q, (i, tt)) k (q', (i', tt))) where
  pub accepts_files : (v : ℕ) (es : List Entry) → Allows v es → accepted es ≡ true → i.now ≡ file_as v es → ◌≡◌ {A = Answer} (k, q'.now) (Ok tt, record_of es)
  accepts_files v es m a e = read_file q.now q'.now i.now k v es m a e call

  pub accepts_only_files : k ≡ Ok tt → (v : ℕ) × (es : List Entry) × Allows v es × (accepted es ≡ true) × (i.now ≡ file_as v es) × (q'.now ≡ record_of es)
  accepts_only_files n =
      let answer = rw n at (call ∙ reading_answer q.now i.now) in
      let found = accepted_by q.now q'.now (file_of i.now) answer in
      let file = file_accepted i.now found.0 found.1 in
      let told = file.1 in
      (told.0, found.0, told.1, file.0, told.2, found.2)

-- A record that calls give, written into any buffer that holds it and read back from those bytes, is the same record.
pub written_then_read : (r : Record) → Made r
    → (κs : _) (b b' : Bor Record) (o o' : _) (a : Result ℕ Refusal) → b.now ≡ r → write.Post κs (b, (o, tt)) a (b', (o', tt)) → length (file_bytes (held_by r)) ≤ length o.now
    → (λs : _) (q q' : MutBor Record) (i i' : _) (k : Result (Unit {0}) Refusal) → read.Post λs (q, (i, tt)) k (q', (i', tt)) → ((n : ℕ) → a ≡ Ok n → i.now ≡ take n o'.now)
    → ◌≡◌ {A = Answer} (k, q'.now) (Ok tt, r)
unfolding over
written_then_read r m κs b b' o o' a same w h λs q q' i i' k c e =
    let es = held_by r in
    let xs = file_bytes es in
    let f = written_file r o.now o'.now a h (rw same at w) in
    let part : take (length xs) o'.now ≡ xs = rw f.1 (take-append_seam xs (drop (length xs) o.now)) in
    accepts_files λs q q' i i' k c version es (allows_all es) (held_accepted r) (e (length xs) f.0 ∙ part) ∙ ap (λ (l : Record). (Ok tt, l)) (sym m)

-- Bytes that reading accepts, of whatever version, are written again from the record that it left, into any buffer that holds
-- them: with the version that is written in the fifth place, and every other byte as it was.
module _ (κs : _) (q q' : MutBor Record) (i i' : _) (k : Result (Unit {0}) Refusal) (call : read.Post κs (q, (i, tt)) k (q', (i', tt))) (n : k ≡ Ok tt)
    (λs : _) (b b' : Bor Record) (o o' : _) (a : Result ℕ Refusal) (same : b.now ≡ q'.now) (w : write.Post λs (b, (o, tt)) a (b', (o', tt))) (h : length i.now ≤ length o.now) where
  pub read_then_renewed : (a ≡ Ok (length i.now)) × (o'.now ≡ over (set i.now 4 version) o.now)
  read_then_renewed =
      let f = accepts_only_files κs q q' i i' k call n in
      let es = f.1 in
      let renewed : file_bytes (held_by q'.now) ≡ set i.now 4 version =
      ap (λ (r : Record). file_bytes (held_by r)) f.5
      ∙ ap (λ (l : List Entry). file_bytes l) (held_record es f.3)
      ∙ version_alone version f.0 es
      ∙ ap (λ (xs : List ℕ). set xs 4 version) (sym f.4) in
      let size : length (set i.now 4 version) ≡ length i.now = length-set i.now 4 version in
      let written = rw renewed at (written_file q'.now o.now o'.now a (rw (renewed, size) h) (rw same at w)) in
      (written.0 ∙ ap (λ (l : ℕ). Ok l) size, written.1)

  -- so those of the version that is written are written again as they were
  pub read_then_written : get_or i.now 4 0 ≡ version → (a ≡ Ok (length i.now)) × (o'.now ≡ over i.now o.now)
  read_then_written e =
      let f = accepts_only_files κs q q' i i' k call n in
      (read_then_renewed.0, read_then_renewed.1 ∙ ap (λ (xs : List ℕ). over xs o.now) (same_version i.now f.0 f.1 f.4 e))
