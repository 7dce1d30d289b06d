-- What a list of codes holds, in order.
--
--   followed p q cs   some code of cs passes p, and the codes after it pass q
--   any p cs          some code of cs passes p
use Rattle.std.specs.Prelude.{Bool, true, false, ◌&&◌, ◌||◌, List, [], ◌∷◌}
use Rattle.graph.specs.declared.code.Code.{Code}

abbrev pub followed : (Code → Bool) → (List Code → Bool) → List Code → Bool
followed p q [] = false
followed p q (c ∷ cs) = (p c && q cs) || followed p q cs

abbrev pub any : (Code → Bool) → List Code → Bool
any p cs = followed p (λ _. true) cs
