-- "The file": the bytes of a list of entries, and the list of entries that some bytes are laid out as.
-- One table, `layout_of`, says how each kind of entry is laid out; writing and reading both go by it.
use Rattle.std.specs.Prelude.{Bool, true, false, cond, ◌&&◌, ◌||◌, List, [], ◌∷◌, ◌++◌, map, ℕ, zero, suc, ◌+◌, ◌*◌, ◌-◌, ◌/◌, ◌%◌, ◌^◌, leb, eqb, ℤ, pos, negsuc, nat_abs, length, get_or, take, drop}
use Rattle.std.proofs.Math.Option
use Rattle.std.proofs.Math.Option.{Option, none, some, bind}
use Rattle.std.proofs.Math.Pow.{are_bytes}
use Rattle.paper.specs.declared.Station.{Station}
use Rattle.paper.specs.declared.Entry.{Entry}
use Rattle.paper.specs.declared.Entry.TheVariants as entry
use Rattle.paper.specs.Rows.{joined}

-- ---- numbers as bytes

-- the last k bytes of n, the highest first
unfoldable pub bytes_of : ℕ → ℕ → List ℕ
bytes_of zero n = []
bytes_of (suc k) n = n / 256 ^ k % 256 ∷ bytes_of k n

-- the number that some bytes spell, the highest first
unfoldable pub number_of : List ℕ → ℕ
number_of [] = 0
number_of (x ∷ xs) = x * 256 ^ length xs + number_of xs

-- a field of the file: how many bytes, and whether they are in two's complement
pub record Field : Type 0 where
  pub width : ℕ
  pub signed : Bool

-- a number in two's complement at k bytes
abbrev pub complement : ℕ → ℤ → ℕ
complement k (pos n) = n
complement k (negsuc n) = 256 ^ k - suc n

-- a field's bytes
unfoldable pub field_bytes : Field → ℤ → List ℕ
field_bytes f z = bytes_of f.width (complement f.width z)

-- the value of a field that spells n
unfoldable pub field_value : Field → ℕ → ℤ
field_value f n = cond (f.signed && leb (256 ^ f.width) (2 * n)) (negsuc (256 ^ f.width - suc n)) (pos n)

-- ---- the kinds of entry

abbrev pub byte : Field
byte = record { width = 1; signed = false }

abbrev pub word : Field
word = record { width = 4; signed = false }

abbrev pub signed_word : Field
signed_word = record { width = 4; signed = true }

-- the table: 1 weighing (m; p, q, a, b, n), 2 sheet (FWD, AFT, DRY, WET, NLP; front arm, least, greatest, step; rear arm,
-- greatest, step; water arm, capacity, step), 3 change (c, arm; flag), 4 paired weighing (m; p, q, p', q', a, b, n), 5 seat (the
-- lower and the higher arm)
unfoldable pub layout_of : ℕ → Option (List Field)
layout_of k =
    cond (eqb k 1) (some (byte ∷ word ∷ word ∷ signed_word ∷ word ∷ word ∷ []))
    (cond (eqb k 2)
    (some (
    signed_word ∷ signed_word ∷ word ∷ word ∷ word ∷ signed_word ∷ word ∷ word ∷ word ∷ signed_word ∷ word ∷ word ∷ signed_word ∷ word ∷ word ∷ []
    ))
    (cond (eqb k 3) (some (signed_word ∷ signed_word ∷ byte ∷ []))
    (cond (eqb k 4) (some (byte ∷ word ∷ word ∷ word ∷ word ∷ signed_word ∷ word ∷ word ∷ []))
    (cond (eqb k 5) (some (signed_word ∷ signed_word ∷ [])) none))))

-- an entry's kind, and its values in the table's order
abbrev pub kind_of : Entry → ℕ
kind_of (entry.Weighing w) = 1
kind_of (entry.Sheet s) = 2
kind_of (entry.Change x) = 3
kind_of (entry.Paired x) = 4
kind_of (entry.Seat f) = 5

abbrev pub values_of : Entry → List ℤ
values_of (entry.Weighing w) =
    pos w.m ∷ pos w.p ∷ pos w.q ∷ w.a ∷ pos w.b ∷ pos w.n ∷ []
values_of (entry.Sheet s) =
    s.fwd ∷ s.aft ∷ pos s.dry ∷ pos s.wet ∷ pos s.nlp ∷ s.front.arm ∷ pos s.least ∷ pos s.front.most ∷ pos s.front.step ∷ s.rear.arm ∷ pos s.rear.most ∷ pos s.rear.step ∷ s.water.arm ∷ pos s.water.most ∷ pos s.water.step ∷ []
values_of (entry.Change x) = x.c ∷ x.arm ∷ pos x.flag ∷ []
values_of (entry.Paired x) =
    pos x.m ∷ pos x.p ∷ pos x.q ∷ pos x.p2 ∷ pos x.q2 ∷ x.a ∷ pos x.b ∷ pos x.n ∷ []
values_of (entry.Seat f) = f.lower ∷ f.higher ∷ []

-- the value at a place, signed and unsigned
abbrev pub signed_at : List ℤ → ℕ → ℤ
signed_at vs i = get_or vs i (pos 0)

abbrev pub plain_at : List ℤ → ℕ → ℕ
plain_at vs i = nat_abs (signed_at vs i)

-- a station whose arm, greatest load and step stand at these places
abbrev pub station_at : List ℤ → ℕ → ℕ → ℕ → Station
station_at vs i j k = record { arm = signed_at vs i; most = plain_at vs j; step = plain_at vs k }

-- the entry of a kind with these values
unfoldable pub entry_of : ℕ → List ℤ → Entry
entry_of k vs =
    cond (eqb k 1)
    (entry.Weighing (record { m = plain_at vs 0; p = plain_at vs 1; q = plain_at vs 2; a = signed_at vs 3; b = plain_at vs 4; n = plain_at vs 5 }))
    (cond (eqb k 2)
    (entry.Sheet
    (record {
      fwd = signed_at vs 0;
      aft = signed_at vs 1;
      dry = plain_at vs 2;
      wet = plain_at vs 3;
      nlp = plain_at vs 4;
      front = station_at vs 5 7 8;
      least = plain_at vs 6;
      rear = station_at vs 9 10 11;
      water = station_at vs 12 13 14;
    }))
    (cond (eqb k 3)
    (entry.Change (record { c = signed_at vs 0; arm = signed_at vs 1; flag = plain_at vs 2 }))
    (cond (eqb k 4)
    (entry.Paired
    (record {
      m = plain_at vs 0;
      p = plain_at vs 1;
      q = plain_at vs 2;
      p2 = plain_at vs 3;
      q2 = plain_at vs 4;
      a = signed_at vs 5;
      b = plain_at vs 6;
      n = plain_at vs 7;
    }))
    (entry.Seat (record { lower = signed_at vs 0; higher = signed_at vs 1 })))))

-- ---- writing

unfoldable pub fields_bytes : List Field → List ℤ → List ℕ
fields_bytes [] vs = []
fields_bytes (f ∷ fs) [] = []
fields_bytes (f ∷ fs) (v ∷ vs) = field_bytes f v ++ fields_bytes fs vs

-- fields that may be none
abbrev pub the_fields : Option (List Field) → List Field
the_fields none = []
the_fields (some fs) = fs

-- an entry's bytes: its kind, and its values by the table
unfoldable pub entry_bytes : Entry → List ℕ
entry_bytes e = kind_of e ∷ fields_bytes (the_fields (layout_of (kind_of e))) (values_of e)

-- what follows the length, in a version: the version, the count of entries, and the entries
unfoldable pub body_as : ℕ → List Entry → List ℕ
body_as v es = v ∷ bytes_of 1 (length es) ++ joined (map entry_bytes es)

-- the file of a list in a version: four bytes for the length of all that follows, and that
unfoldable pub file_as : ℕ → List Entry → List ℕ
file_as v es = bytes_of 4 (length (body_as v es)) ++ body_as v es

-- the version that is written
abbrev pub version : ℕ
version = 2

-- the file of a list
abbrev pub file_bytes : List Entry → List ℕ
file_bytes es = file_as version es

-- ---- reading

-- the first k bytes as a number, with the bytes behind them; none where there are fewer
unfoldable pub take_number : ℕ → List ℕ → Option (ℕ × List ℕ)
take_number k xs = cond (leb k (length xs)) (some (number_of (take k xs), drop k xs)) none

-- the values of some fields, with the bytes behind them
unfoldable pub take_fields : List Field → List ℕ → Option (List ℤ × List ℕ)
take_fields [] xs = some ([], xs)
take_fields (f ∷ fs) xs =
    bind (take_number f.width xs)
    (λ (y : ℕ × List ℕ).
    Option.map (λ (z : List ℤ × List ℕ). (field_value f y.0 ∷ z.0, z.1)) (take_fields fs y.1))

-- the entry that some bytes begin with, and the bytes behind it: a kind of the table, and its fields
unfoldable pub take_entry : List ℕ → Option (Entry × List ℕ)
take_entry [] = none
take_entry (k ∷ xs) =
    bind (layout_of k)
    (λ (fs : List Field).
    Option.map (λ (z : List ℤ × List ℕ). (entry_of k z.0, z.1)) (take_fields fs xs))

-- n entries that leave no byte over
unfoldable pub take_entries : ℕ → List ℕ → Option (List Entry)
take_entries zero [] = some []
take_entries zero (x ∷ xs) = none
take_entries (suc n) xs =
    bind (take_entry xs) (λ (y : Entry × List ℕ). Option.map (λ (es : List Entry). y.0 ∷ es) (take_entries n y.1))

-- the versions that are read
unfoldable pub is_version : ℕ → Bool
is_version v = eqb v 1 || eqb v 2

-- the last kind of entry that a version has: paired weighings and seats are of version 2
unfoldable pub last_kind : ℕ → ℕ
last_kind v = cond (eqb v 1) 3 5

-- each entry is of a kind up to k
unfoldable pub kinds_to : ℕ → List Entry → Bool
kinds_to k [] = true
kinds_to k (e ∷ es) = leb (kind_of e) k && kinds_to k es

abbrev pub only_kinds : ℕ → Option (List Entry) → Option (List Entry)
only_kinds k none = none
only_kinds k (some es) = cond (kinds_to k es) (some es) none

-- what follows the length: a version, and a count of just the entries that are there, of that version's kinds
unfoldable pub take_body : List ℕ → Option (List Entry)
take_body [] = none
take_body (v ∷ []) = none
take_body (v ∷ n ∷ xs) = cond (is_version v) (only_kinds (last_kind v) (take_entries n xs)) none

-- the list of entries that some numbers are laid out as: each is a byte, the first four spell the length of just what
-- follows, and that is a body
unfoldable pub laid_out : List ℕ → Option (List Entry)
laid_out xs =
    cond (are_bytes xs)
    (bind (take_number 4 xs) (λ (y : ℕ × List ℕ). cond (eqb y.0 (length y.1)) (take_body y.1) none))
    none
