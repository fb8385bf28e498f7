-- A text put part by part: all of it but a rest is put; each part that is put next finds room, and leaves the rest behind it.
-- Assumes nothing.
use Rattle.std.specs.Prelude.{◌≡◌, List, [], ◌++◌, ℕ, ◌+◌, ◌≤◌, length}
use Rattle.std.proofs.Common.{sym, ap, ◌∙◌, append_assoc, append-nil, arith, length-append}
use Rattle.laws.specs.Puts.{Put, put_none, put_as, put-length, put_then}

-- all of a text but the rest is put into s from a place on, p is the place behind it, and t the list afterwards
pub record Begun (s : List ℕ) (at : ℕ) (text rest : List ℕ) (p : ℕ) (t : List ℕ) : Type 0 where
  pub done : List ℕ
  pub whole : done ++ rest ≡ text
  pub is : Put s at done p t
  pub room : at + length text ≤ length s

-- nothing of it
pub begun_none : (s : List ℕ) (at : ℕ) (text rest : List ℕ) → rest ≡ text → at + length text ≤ length s → Begun s at text rest at s
begun_none s at text rest e h = record { done = []; whole = e; is = put_none s at; room = h }

module _ {s : List ℕ} {at : ℕ} {text rest : List ℕ} {p : ℕ} {t : List ℕ} (b : Begun s at text rest p t) where
  parts : length b.done + length rest ≡ length text
  parts = sym (length-append b.done rest) ∙ ap length b.whole

  pub begun_kept : length t ≡ length s
  begun_kept = put-length _ _ _ _ _ b.is (omega (arith, parts, b.room))

-- one part more
module _ {s : List ℕ} {at : ℕ} {text : List ℕ} (ys rest : List ℕ) {p : ℕ} {t : List ℕ} (b : Begun s at text (ys ++ rest) p t) where
  pub begun-room : p + length ys ≤ length t
  begun-room = omega (arith, parts b, length-append ys rest, b.room, b.is.0, begun_kept b)

  pub begun_more : {q : ℕ} {u : List ℕ} → Put t p ys q u → Begun s at text rest q u
  begun_more m =
      record {
        done = b.done ++ ys;
        whole = append_assoc b.done ys rest ∙ b.whole;
        is = put_then _ _ _ _ _ b.is _ _ _ (omega (arith, parts b, b.room)) m;
        room = b.room;
      }

-- all of it
pub begun_all : {s : List ℕ} {at : ℕ} {text : List ℕ} {p : ℕ} {t : List ℕ} → Begun s at text [] p t → Put s at text p t
begun_all b = put_as _ _ _ _ _ b.is _ (sym (append-nil b.done) ∙ b.whole)
