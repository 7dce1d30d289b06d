-- Options with another profile.
--
--   Renamed o t r    what `with_profile` answers for the options o and the text t: the same options with the profile of that name, or a
--                    refusal where no profile has it
--   SameBut o p t    the options p are o but for the profile, which goes by the name t
use Rattle.std.specs.Prelude.{◌≡◌, ◌≢◌, ℕ, List, Result, MatchResult}
use Rattle.reports.specs.declared.options.BadOption.{BadOption}
use Rattle.reports.specs.declared.options.BadOption.TheVariants.{UnknownProfile}
use Rattle.reports.specs.declared.options.Options.{Options}
use Rattle.reports.specs.declared.options.ProfileName.{ProfileName}
use Rattle.reports.specs.ProfileNames.{name_of}

pub record SameBut (o p : Options) (text : List ℕ) : Type 0 where
  pub profile : text ≡ name_of p.profile
  pub input : p.input ≡ o.input
  pub pairs : p.pairs ≡ o.pairs
  pub help : p.help ≡ o.help

abbrev pub Renamed : Options → List ℕ → Result Options BadOption → Type 0
Renamed o text r = MatchResult r (λ p. SameBut o p text) (λ e. (e ≡ UnknownProfile) × ((p : ProfileName) → text ≢ name_of p))
