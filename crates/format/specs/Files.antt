-- The whole file, both ways: the file of an accepted list, in every version that has its kinds, is read as that list, and what is
-- read as a list is such a file of it.
-- Assumes nothing.
use Rattle.std.specs.Prelude.{◌≡◌, refl, true, cond, ◌&&◌, List, [], ◌∷◌, ◌++◌, map, ℕ, ◌+◌, ◌*◌, ◌≤◌, ◌<◌, ltb, eqb, length, set}
use Rattle.std.proofs.Common.{sym, ◌∙◌, true≢false, div-one, mod-eq_of_lt, arith, length-append, lt-ltb, ltb-true, eqb-true, eq-eqb, ne_eqb}
use Rattle.std.proofs.Math.Option.{Option, none, some, bind, none-ne-some, bind-eq-some_iff}
use Rattle.std.proofs.Math.Decide.{dec_lt}
use Rattle.std.proofs.Math.Pow.{are_bytes}
use Rattle.laws.specs.Options.{cond_passed, cond-kept, cond-found}
use Rattle.laws.specs.Tests.{both, left, right}
use Rattle.paper.specs.declared.Entry.{Entry}
use Rattle.paper.specs.File.{bytes_of, entry_bytes, body_as, file_as, version, file_bytes, take_number, take_entries, is_version, last_kind, kinds_to, only_kinds, take_body, laid_out}
use Rattle.paper.specs.Refusals.{entry_number, accepted_after, accepted, only_accepted, file_of}
use Rattle.paper.specs.Rows.{joined}
use Rattle.format.specs.Numbers.{bytes-append, length-bytes, are_bytes_lem}
use Rattle.format.specs.Rows.{kinds_all}
use Rattle.format.specs.Fitting.{entry_fits}
use Rattle.format.specs.Values.{number_read, number_written, bytes-behind}
use Rattle.format.specs.Entries.{EachFits, none_left, ◌then◌, entries_are_bytes, entries_length, entries_read, entries_written}

-- ---- versions

-- a list in a version: there is such a version, and it has the kinds of the entries
pub record Allows (v : ℕ) (es : List Entry) : Type 0 where
  pub version : is_version v ≡ true
  pub kinds : kinds_to (last_kind v) es ≡ true

-- the version that is written has every list
pub allows_all : (es : List Entry) → Allows version es
unfolding is_version
allows_all es = record { version = refl; kinds = kinds_all es }

version-byte : (v : ℕ) → is_version v ≡ true → v < 256
unfolding is_version
version-byte v e =
    elim (dec_lt v 256) as (λ d. v < 256) [
      | yes h ↦ h
      | no h ↦ absurd (true≢false (sym e ∙ simp (ne_eqb v 1 (λ i. omega arith), ne_eqb v 2 (λ i. omega arith))))
    ]

-- ---- what follows the length

one_byte : (n : ℕ) → n < 256 → bytes_of 1 n ≡ n ∷ []
unfolding bytes_of
one_byte n h = rw (div-one n, mod-eq_of_lt h)

body_length : (v : ℕ) (es : List Entry) → length (body_as v es) ≤ 2 + 61 * length es
unfolding body_as
body_length v es = omega (arith, length-append (bytes_of 1 (length es)) (joined (map entry_bytes es)), length-bytes 1 (length es), entries_length es)

body_are_bytes : (v : ℕ) (es : List Entry) → v < 256 → are_bytes (body_as v es) ≡ true
unfolding body_as
body_are_bytes v es h =
    let rest = bytes_of 1 (length es) ++ joined (map entry_bytes es) in
    both (ltb v 256) (are_bytes rest) (lt-ltb v 256 h) (bytes-append (bytes_of 1 (length es)) (joined (map entry_bytes es)) (are_bytes_lem 1 (length es)) (entries_are_bytes es))

body_read : (v : ℕ) (es : List Entry) → Allows v es → EachFits es → length es ≤ 64 → take_body (body_as v es) ≡ some es
unfolding take_body body_as
body_read v es a h l = rw (one_byte (length es) (omega arith), a.version, entries_read es h, a.kinds)

-- entries of the kinds up to k
pub only_kinds_lem : (k : ℕ) (o : Option (List Entry)) (es : List Entry) → only_kinds k o ≡ some es → (kinds_to k es ≡ true) × (o ≡ some es)
only_kinds_lem k none es h = absurd (none-ne-some es h)
only_kinds_lem k (some fs) es h =
    (rw (cond-found (kinds_to k fs) fs es h) at (cond_passed (kinds_to k fs) (some fs) es h), cond-kept (kinds_to k fs) (some fs) es h)

-- what is laid out as a body is that of a version
body_written : (xs : List ℕ) (es : List Entry) → are_bytes xs ≡ true → take_body xs ≡ some es → (v : ℕ) × Allows v es × (xs ≡ body_as v es)
unfolding take_body body_as
body_written [] es b h = absurd (none-ne-some es h)
body_written (v ∷ []) es b h = absurd (none-ne-some es h)
body_written (v ∷ n ∷ xs) es b h =
    let k = right (ltb v 256) (ltb n 256 && are_bytes xs) b in
    let kept = only_kinds (last_kind v) (take_entries n xs) in
    let entries = only_kinds_lem (last_kind v) (take_entries n xs) es (cond-kept (is_version v) kept es h) in
    let found = entries_written n xs es (right (ltb n 256) (are_bytes xs) k) entries.1 in (
      v,
      record { version = cond_passed (is_version v) kept es h; kinds = entries.0 },
      rw (← found.1, one_byte n (ltb-true n 256 (left (ltb n 256) (are_bytes xs) k)), ← found.0),
    )

-- ---- the file

pub file_length : (es : List Entry) → length (file_bytes es) ≤ 6 + 61 * length es
unfolding file_as
file_length es = omega (arith, length-append (bytes_of 4 (length (body_as version es))) (body_as version es), length-bytes 4 (length (body_as version es)), body_length version es)

file_are_bytes : (v : ℕ) (es : List Entry) → v < 256 → are_bytes (file_as v es) ≡ true
unfolding file_as
file_are_bytes v es h = bytes-append (bytes_of 4 (length (body_as v es))) (body_as v es) (are_bytes_lem 4 (length (body_as v es))) (body_are_bytes v es h)

file_read : (v : ℕ) (es : List Entry) → Allows v es → EachFits es → length es ≤ 64 → laid_out (file_as v es) ≡ some es
unfolding laid_out file_as bind
file_read v es a h l =
    let n = length (body_as v es) in
    rw (file_are_bytes v es (version-byte v a.version), number_read 4 n (body_as v es) (omega (arith, body_length v es)), eq-eqb n n refl, body_read v es a h l)

-- a body of the length that stands in front of it
abbrev body_behind : ℕ × List ℕ → Option (List Entry)
body_behind y = cond (eqb y.0 (length y.1)) (take_body y.1) none

-- what is laid out as a list is its file in a version
pub written_read : (xs : List ℕ) (es : List Entry) → laid_out xs ≡ some es → (v : ℕ) × Allows v es × (xs ≡ file_as v es)
unfolding laid_out file_as
written_read xs es h =
    let b = cond_passed (are_bytes xs) (bind (take_number 4 xs) body_behind) es h in
    let found = (bind-eq-some_iff (take_number 4 xs) body_behind).0 (cond-kept (are_bytes xs) (bind (take_number 4 xs) body_behind) es h) in
    let n = found.0.0 in
    let ys = found.0.1 in
    let whole : xs ≡ bytes_of 4 n ++ ys = number_written 4 xs n ys b found.1 in
    let size = eqb-true n (length ys) (cond_passed (eqb n (length ys)) (take_body ys) es found.2) in
    let body = body_written ys es (bytes-behind (bytes_of 4 n) ys (rw whole at b)) (cond-kept (eqb n (length ys)) (take_body ys) es found.2) in
    (body.0, body.1, rw (← body.2, ← size) whole)

-- a list's files in two versions differ in the version byte alone, which is the fifth
pub version_alone : (v w : ℕ) (es : List Entry) → file_as v es ≡ set (file_as w es) 4 v
unfolding file_as body_as bytes_of
version_alone v w es = refl

pub same_length : (v w : ℕ) (es : List Entry) → length (file_as v es) ≡ length (file_as w es)
unfolding file_as body_as bytes_of
same_length v w es = refl

-- ---- accepted lists

each_fits : (es fs : List Entry) → accepted_after es fs ≡ true → EachFits fs
unfolding accepted_after
each_fits es [] h = none_left
each_fits es (f ∷ fs) h =
    let a = eqb (entry_number es f) 0 in
    let b = accepted_after (es ++ f ∷ []) fs in
    entry_fits es f (eqb-true (entry_number es f) 0 (left a b h)) then each_fits (es ++ f ∷ []) fs (right a b h)

-- the file of an accepted list, in every version that has its kinds, is read as that list
pub read_written : (v : ℕ) (es : List Entry) → Allows v es → accepted es ≡ true → length es ≤ 64 → file_of (file_as v es) ≡ some es
unfolding file_of accepted
read_written v es a h l = rw (file_read v es a (each_fits [] es h) l, h)

pub only_accepted_lem : (o : Option (List Entry)) (es : List Entry) → only_accepted o ≡ some es → (accepted es ≡ true) × (o ≡ some es)
only_accepted_lem none es h = absurd (none-ne-some es h)
only_accepted_lem (some fs) es h =
    (rw (cond-found (accepted fs) fs es h) at (cond_passed (accepted fs) (some fs) es h), cond-kept (accepted fs) (some fs) es h)

-- and what is read as a list is the file of that list in such a version, and it is accepted
pub file_accepted : (xs : List ℕ) (es : List Entry) → file_of xs ≡ some es → (accepted es ≡ true) × ((v : ℕ) × Allows v es × (xs ≡ file_as v es))
unfolding file_of
file_accepted xs es h =
    let k = only_accepted_lem (laid_out xs) es h in
    (k.0, written_read xs es k.1)
