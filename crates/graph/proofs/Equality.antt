-- `==` on slices of events decides whether they are equal.
use Rattle.std.proofs.Common.{◌≡◌, ℕ, Bool, List, Decides, ◌==◌, Option, ap, rules}
use Rattle.std.specs.Cmp.Lexicographic.{pointwise}
use Rattle.std.specs.Option.{option_eq}
use Rattle.std.proofs.lemmas.Bool.Decides.{Decides-like, Decides-and, Decides-eqb}
use Rattle.std.proofs.lemmas.Slice.Eq.{slice_eq-Decides}
use Rattle.graph.specs.declared.code.Code.{Code}
use Rattle.graph.specs.declared.code.ReadMode.{ReadMode}
use Rattle.graph.specs.declared.code.WriteMode.{WriteMode}
use Rattle.graph.specs.declared.code.FenceMode.{FenceMode}
use Rattle.graph.specs.declared.event.Event.{Event}
use Rattle.graph.specs.contracts.code.CodePartialEq.TheImpl as code_tests
use Rattle.graph.specs.contracts.code.ReadModePartialEq.TheImpl as read_modes
use Rattle.graph.specs.contracts.code.WriteModePartialEq.TheImpl as write_modes
use Rattle.graph.specs.contracts.code.FenceModePartialEq.TheImpl as fence_modes
use Rattle.graph.specs.contracts.event.EventPartialEq.TheImpl.{ghosts}

read_mode_decides : (x y : ReadMode) → Decides (read_modes.ghosts.eq x y) (x ≡ y)
read_mode_decides x y = search rules

write_mode_decides : (x y : WriteMode) → Decides (write_modes.ghosts.eq x y) (x ≡ y)
write_mode_decides x y = search rules

fence_mode_decides : (x y : FenceMode) → Decides (fence_modes.ghosts.eq x y) (x ≡ y)
fence_mode_decides x y = search rules

code_decides : (x y : Code) → Decides (code_tests.ghosts.eq x y) (x ≡ y)
code_decides x y = search rules

source_decides : (x y : Option ℕ) → Decides (option_eq ◌==◌ x y) (x ≡ y)
source_decides x y = search rules

same_fields : (x y : Event) → x.thread ≡ y.thread → x.code ≡ y.code → x.location ≡ y.location → x.value ≡ y.value → x.source ≡ y.source → x ≡ y
same_fields x y p q r s t = λ i. record { thread = p i; code = q i; location = r i; value = s i; source = t i }

pub equals_decides : (x y : Event) → Decides (ghosts.eq x y) (x ≡ y)
equals_decides x y =
    Decides-like _
    (λ h. same_fields x y h.0 h.1.0 h.1.1.0 h.1.1.1.0 h.1.1.1.1)
    (λ e. (ap (λ v. v.thread) e, (ap (λ v. v.code) e, (ap (λ v. v.location) e, (ap (λ v. v.value) e, ap (λ v. v.source) e)))))
    (Decides-and _ _ (Decides-eqb x.thread y.thread)
    (Decides-and _ _ (code_decides x.code y.code)
    (Decides-and _ _ (Decides-eqb x.location y.location) (Decides-and _ _ (Decides-eqb x.value y.value) (source_decides x.source y.source)))))

pub events_decide : (xs ys : List Event) (r : Bool) → (r ≡ pointwise ghosts.eq xs ys) → Decides r (xs ≡ ys)
events_decide = slice_eq-Decides equals_decides
