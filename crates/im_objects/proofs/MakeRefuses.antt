-- what the tests of `make` say
use Rattle.std.proofs.Common.{◌≡◌, ℕ, ◌≤◌, Bool, true, false, cond, Option, Some, None, is_some, refl, sym, ◌∙◌}
use Rattle.std.specs.Prelude.{nat_lt}
use Rattle.std.specs.FinMap as map
use Rattle.std.proofs.lemmas.Bool.{cond-true, cond-false, ltb-false, true≢false}
use Rattle.std.proofs.lemmas.Option.{none-some}
use Rattle.im_objects.specs.declared.refusal.MakeRefusal.TheVariants.{IdRange, IdTaken, TooMany}
use Rattle.im_objects.specs.Objects.{Objects, is_no_client_id, refusal_of}

pub taken : (objects : Objects) (id : ℕ) → is_no_client_id id ≡ false → is_some (map.get objects.under id) ≡ true →
    Some IdTaken ≡ refusal_of objects id
taken objects id client here =
    sym (cond-false (is_no_client_id id) _ _ client ∙ cond-true (is_some (map.get objects.under id)) _ _ here)

by_number : (objects : Objects) (id : ℕ) → is_no_client_id id ≡ false → is_some (map.get objects.under id) ≡ false
    → refusal_of objects id ≡ cond (nat_lt 256 (map.len objects.under)) (Some TooMany) None
by_number objects id client free =
    cond-false (is_no_client_id id) _ _ client ∙ cond-false (is_some (map.get objects.under id)) _ _ free

pub too_many : (objects : Objects) (id : ℕ) → is_no_client_id id ≡ false → is_some (map.get objects.under id) ≡ false
    → nat_lt 256 (map.len objects.under) ≡ true → Some TooMany ≡ refusal_of objects id
too_many objects id client free many =
    sym (by_number objects id client free ∙ cond-true (nat_lt 256 (map.len objects.under)) _ _ many)

pub none : (objects : Objects) (id : ℕ) → is_no_client_id id ≡ false → is_some (map.get objects.under id) ≡ false
    → nat_lt 256 (map.len objects.under) ≡ false → None ≡ refusal_of objects id
none objects id client free few =
    sym (by_number objects id client free ∙ cond-false (nat_lt 256 (map.len objects.under)) _ _ few)

no_object : {X : Type 0} (o : Option X) → is_some o ≡ false → o ≡ None
no_object None h = refl
no_object (Some x) h = absurd (true≢false h)

-- where nothing is refused the id is free and there is room
pub none_refused : (objects : Objects) (id : ℕ) → refusal_of objects id ≡ None →
    (map.get objects.under id ≡ None) × (map.len objects.under ≤ 256)
none_refused objects id is =
    at (is_no_client_id id) (is_some (map.get objects.under id)) refl (nat_lt 256 (map.len objects.under)) refl is
  where
    at : (a b : Bool) → is_some (map.get objects.under id) ≡ b → (d : Bool) → nat_lt 256 (map.len objects.under) ≡ d
        → cond a (Some IdRange) (cond b (Some IdTaken) (cond d (Some TooMany) None)) ≡ None
        → (map.get objects.under id ≡ None) × (map.len objects.under ≤ 256)
    at true b e d f h = absurd (none-some IdRange (sym h))
    at false true e d f h = absurd (none-some IdTaken (sym h))
    at false false e true f h = absurd (none-some TooMany (sym h))
    at false false e false f h = (no_object (map.get objects.under id) e, ltb-false 256 (map.len objects.under) f)
