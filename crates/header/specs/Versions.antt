-- The numbers that versions of the file have.
use Rattle.std.specs.Prelude.{◌≡◌, ℕ, Result, MatchResult}
use Rattle.header.specs.declared.Version.{Version}
use Rattle.header.specs.declared.Version.TheVariants as version
use Rattle.paper.specs.declared.Unknown.{Unknown}

abbrev pub number_of : Version → ℕ
number_of version.First = 1
number_of version.Second = 2

-- the version of a number, or that no version has it
abbrev pub Decodes : ℕ → Result Version Unknown → Type 0
Decodes n r = MatchResult r (λ v. number_of v ≡ n) (λ e. (e.0 ≡ n) × ((v : Version) → number_of v ≡ n → ⊥))
