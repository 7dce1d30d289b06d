-- Profiles by name.
--
--   name_of p    the name that the profile p goes by
--   Named t r    the text t read as a name gives r: the profile of that name, or a refusal where none has it
use Rattle.std.specs.Prelude.{◌≡◌, ◌≢◌, ℕ, List, Result, MatchResult, codes}
use Rattle.reports.specs.declared.options.BadOption.{BadOption}
use Rattle.reports.specs.declared.options.BadOption.TheVariants.{UnknownProfile}
use Rattle.reports.specs.declared.options.ProfileName.{ProfileName}
use Rattle.reports.specs.declared.options.ProfileName.TheVariants.{Strict, Jam21}

abbrev pub name_of : ProfileName → List ℕ
name_of Strict = codes "strict"
name_of Jam21 = codes "jam21"

abbrev pub Named : List ℕ → Result ProfileName BadOption → Type 0
Named text r = MatchResult r (λ p. text ≡ name_of p) (λ e. (e ≡ UnknownProfile) × ((p : ProfileName) → text ≢ name_of p))
