-- The law of a store over lists of calls.
use Rattle.std.proofs.Common.{◌≡◌, ◌+◌, Bool, true, false, nat_le, [], ◌∷◌, ◌++◌, length, take, drop, refl, sym, ap, ◌∙◌, append_assoc, take-append-drop}
use Rattle.out_store.specs.Runs.{Put, Take, stored, put, taken, NothingIsLost}

pub nothing_is_lost : NothingIsLost
nothing_is_lost capacity [] = refl
nothing_is_lost capacity (Put group ∷ older) =
    split (nat_le (length (stored capacity older) + length group) capacity) refl (nothing_is_lost capacity older)
  where
    split : (b : Bool) → nat_le (length (stored capacity older) + length group) capacity ≡ b →
        taken capacity older ++ stored capacity older ≡ put capacity older
        → taken capacity (Put group ∷ older) ++ stored capacity (Put group ∷ older) ≡ put capacity (Put group ∷ older)
    split true is before =
        rw is (sym (append_assoc (taken capacity older) (stored capacity older) group) ∙ ap (λ l. l ++ group) before)
    split false is before = rw is before
nothing_is_lost capacity (Take n ∷ older) =
    append_assoc (taken capacity older) (take n (stored capacity older)) (drop n (stored capacity older))
    ∙ ap (λ l. taken capacity older ++ l) (take-append-drop n (stored capacity older)) ∙ nothing_is_lost capacity older
