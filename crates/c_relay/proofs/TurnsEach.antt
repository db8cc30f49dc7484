-- A loop that turns each popup and tells which are hidden.
use Rattle.std.proofs.Common.{◌≡◌, ℕ, zero, suc, ◌+◌, ◌<◌, List, [], ◌∷◌, ◌++◌, length, map, take, drop, get_or, refl, ap, sym, ◌∙◌, arith, append-nil}
use Rattle.std.specs.List.{flat_map}
use Rattle.std.proofs.lemmas.List.{append_assoc, map-append, take_more}
use Rattle.std.proofs.lemmas.Grind.{flat_map-append}

same_at : {X : Type 0} (f : X → X) (xs : List X) (i : ℕ) (d : X) → i < length xs →
    get_or (map f (take i xs) ++ drop i xs) i d ≡ get_or xs i d
same_at f [] i d h = absurd (omega arith)
same_at f (x ∷ xs) zero d h = refl
same_at f (x ∷ xs) (suc i) d h = same_at f xs i d (omega arith)

-- one more was turned, of which this is told
pub told_more : {X Y H : Type 0} (f : X → X) (g : X → List Y) (say : Y → H) (xs ys : List X) (i : ℕ) (d : X)
    (start mid last : List H) → ys ≡ map f (take i xs) ++ drop i xs → i < length xs →
    mid ≡ start ++ map say (flat_map g (take i xs)) → last ≡ mid ++ map say (g (get_or ys i d)) →
    last ≡ start ++ map say (flat_map g (take (i + 1) xs))
told_more f g say xs ys i d start mid last e l m h =
    let same : get_or ys i d ≡ get_or xs i d = ap (λ (zs : List _). get_or zs i d) e ∙ same_at f xs i d l in
    let first : List _ = flat_map g (take i xs) in
    h
    ∙ ap (λ x. mid ++ map say (g x)) same
    ∙ ap (λ (w : List _). w ++ map say (g (get_or xs i d))) m
    ∙ append_assoc start (map say (flat_map g (take i xs))) (map say (g (get_or xs i d)))
    ∙ ap (λ (w : List _). start ++ w)
    (sym (map-append say (flat_map g (take i xs)) (g (get_or xs i d)))
    ∙ ap (map say)
    (ap (λ (w : List _). flat_map g (take i xs) ++ w) (sym (append-nil (g (get_or xs i d))))
    ∙ sym (flat_map-append g (take i xs) (get_or xs i d ∷ []))
    ∙ ap (flat_map g) (sym (take_more xs i d l))))
