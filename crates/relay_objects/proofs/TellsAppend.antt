-- One list of tells after the other.
use Rattle.std.proofs.Common.{List, [], ◌∷◌, ◌++◌, subst}
use Rattle.relay_objects.specs.Reached.{Reached}

pub reached_append : {P E : Type 0} (R : P → E → P → Type 0) (xs ys : List E) (a b c : P) →
    Reached R a xs b → Reached R b ys c → Reached R a (xs ++ ys) c
reached_append R [] ys a b c e k = subst (λ z. Reached R z ys c) e k
reached_append R (x ∷ xs) ys a b c h k = (h.0, h.1, reached_append R xs ys h.0 b c h.2 k)
