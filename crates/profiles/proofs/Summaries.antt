-- What a summary says of the tests of JAM21.
use Rattle.std.proofs.Common.{◌≡◌, ℕ, Bool, false, ◌&&◌, ◌||◌, List, [], Option, Some, None, MatchOption, Decides, sym, ap, ◌∙◌, ap₂}
use mathlib.Core.Bool.{or_assoc}
use Rattle.std.proofs.lemmas.List.{append-nil}
use Rattle.std.proofs.lemmas.Bool.{false≢true}
use Rattle.std.proofs.lemmas.Bool.Decides.{Decides-at}
use Rattle.graph.specs.declared.event.Event.{Event}
use Rattle.graph.specs.Order.{Po}
use Rattle.profiles.specs.declared.jam21.Rules.{Rules}
use Rattle.profiles.specs.declared.scan.Stage.TheVariants.{Waiting}
use Rattle.profiles.specs.declared.scan.Summary.{Summary}
use Rattle.profiles.specs.Modes.{marks, is_sc_access}
use Rattle.profiles.specs.Patterns.{any}
use Rattle.profiles.specs.Segments.{Segment, segment, inner_codes}
use Rattle.profiles.specs.Rules.{Ra, Svo, Spush, Volint}
use Rattle.profiles.specs.Summed.{rules_of}
use Rattle.profiles.specs.Scans.{completes, Sums}
use Rattle.profiles.specs.Jam21.{ra, svo, spush, volint}
use Rattle.profiles.specs.Jam21Rules.{ra_decides, svo_decides, spush_decides, volint_decides}

module _ (r : Summary) (s : Segment) (h : Sums r s) where
  pub ra_is : ((marks r.first || marks r.last) || r.met.marked) ≡ ra s
  unfolding ra
  ra_is = rw (h.first, h.last, h.met.marked) (or_assoc (marks s.first.code) (marks s.last.code) (any marks (inner_codes s)))

  pub svo_is : completes r.met.stage [] ≡ svo s
  unfolding svo
  svo_is = h.met.stage [] ∙ ap (completes Waiting) (append-nil (inner_codes s))

  pub spush_is : r.met.fenced ≡ spush s
  unfolding spush
  spush_is = h.met.fenced

  pub volint_is : (is_sc_access r.first && is_sc_access r.last) ≡ volint s
  unfolding volint
  volint_is = ap₂ (λ c d. is_sc_access c && is_sc_access d) h.first h.last

-- a flag for each rule, true exactly if the rule holds
pub record Rule-by-rule (es : List Event) (a b : ℕ) (r : Rules) : Type 0 where
  pub ra : Decides r.ra (Ra es a b)
  pub svo : Decides r.svo (Svo es a b)
  pub spush : Decides r.spush (Spush es a b)
  pub volint : Decides r.volint (Volint es a b)

never : {P : Type 0} (r : Bool) → r ≡ false → (P → ⊥) → Decides r P
never r e none = (λ t. absurd (false≢true (sym e ∙ t)), λ p. absurd (none p))

-- the rules of a pair by its summary; where there is none, none holds
pub rule_by_rule : (es : List Event) (a b : ℕ) (o : Option Summary) (none r : Rules) → (none.ra ≡ false) × ((none.svo ≡ false) × ((none.spush ≡ false) × (none.volint ≡ false)))
    → MatchOption o (Po es a b → ⊥) (λ s. Po es a b × Sums s (segment es a b)) → MatchOption o (r ≡ none) (λ s. r ≡ rules_of s) → Rule-by-rule es a b r
rule_by_rule es a b None none r off apart e = record {
  ra = never r.ra (ap (λ x. x.ra) e ∙ off.0) (λ h. apart h.0);
  svo = never r.svo (ap (λ x. x.svo) e ∙ off.1.0) (λ h. apart h.ordered);
  spush = never r.spush (ap (λ x. x.spush) e ∙ off.1.1.0) (λ h. apart h.0);
  volint = never r.volint (ap (λ x. x.volint) e ∙ off.1.1.1) (λ h. apart h.0);
}
rule_by_rule es a b (Some s) none r off h e =
    let t = segment es a b in
    record {
      ra = Decides-at r.ra _ (ap (λ x. x.ra) e ∙ ra_is s t h.1) (ra_decides es a b h.0);
      svo = Decides-at r.svo _ (ap (λ x. x.svo) e ∙ svo_is s t h.1) (svo_decides es a b h.0);
      spush = Decides-at r.spush _ (ap (λ x. x.spush) e ∙ spush_is s t h.1) (spush_decides es a b h.0);
      volint = Decides-at r.volint _ (ap (λ x. x.volint) e ∙ volint_is s t h.1) (volint_decides es a b h.0);
    }
