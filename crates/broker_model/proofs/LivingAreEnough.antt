-- What living objects were made as is enough, and nothing that died comes back.
use Rattle.std.proofs.Common.{◌≡◌, ℕ, ◌+◌, ◌≤◌, List, [], ◌∷◌, ◌++◌, length, Bool, true, false, Option, Some, None, ap, refl, sym, ◌∙◌, arith, inl, inr}
use Rattle.std.specs.Prelude.{◌==◌, ◌&&◌, not, if◌then◌else◌, is_some, filter}
use Rattle.std.specs.List.{AllByRecursion}
use Rattle.std.proofs.lemmas.Bool.{eqb-true, ne_eqb, true≢false}
use Rattle.std.proofs.lemmas.List.Elements.{filter-append}
use Rattle.relay_model.specs.declared.act.Act.{Act}
use Rattle.relay_model.specs.declared.act.Act.TheVariants as acts
use Rattle.relay_model.specs.Objects.{Object, is_at, owner, remains, object, alive}
use Rattle.relay_model.proofs.ObjectLaws.{object_step}
use Rattle.broker_model.specs.declared.journal.Entry.{Entry}
use Rattle.broker_model.specs.Ids.{Made, log_of, made_as}
use Rattle.broker_model.specs.Resolve.{past_of}
use Rattle.broker_model.specs.Out.{act_now}
use Rattle.broker_model.proofs.EachElement.{all_then, all_filtered, filter_same, filter_twice}
use Rattle.broker_model.proofs.FieldsHaveIds.{other_entry}
use Rattle.broker_model.proofs.IdsAreNames.{IsIn, IsWith, made_with}
use Rattle.broker_model.proofs.LivePeersJoined.{length_log}
use Rattle.broker_model.proofs.MadeObjectsStand.{lived, sound}
use Rattle.broker_model.specs.Living.{IsLiving}
use Rattle.broker_model.specs.Enough.{IsEnough, made_at, living, living_of, ended_by, DeadCanGo}

-- ---- what a list finds

-- what stands before both lists
pub behind : (new kept made : List Made) (x : ℕ) → made_as kept x ≡ made_as made x →
    made_as (new ++ kept) x ≡ made_as (new ++ made) x
behind [] kept made x e = e
behind (m ∷ new) kept made x e = ap (λ (o : Option Made). if m.label == x then Some m else o) (behind new kept made x e)

-- a living one is found among the living
living_found : (log : List Act) (made : List Made) (x : ℕ) → alive log x ≡ true →
    made_as (living log made) x ≡ made_as made x
living_found log [] x l = refl
living_found log (m ∷ made) x l = by (alive log m.label) refl (living_found log made x l)
  where
    other : (b : Bool) → (m.label == x) ≡ b → alive log m.label ≡ false → made_as made x
        ≡ (if b then Some m else made_as made x)
    other true q e = absurd (true≢false (sym l ∙ ap (alive log) (sym (eqb-true m.label x q)) ∙ e))
    other false q e = refl

    by : (b : Bool) → alive log m.label ≡ b → made_as (living log made) x ≡ made_as made x →
        made_as (if b then m ∷ living log made else living log made) x
        ≡ (if m.label == x then Some m else made_as made x)
    by true e k = ap (λ (o : Option Made). if m.label == x then Some m else o) k
    by false e k = k ∙ other (m.label == x) refl e

-- what isn't among all isn't among the living
none_found : (log : List Act) (made : List Made) (x : ℕ) → made_as made x ≡ None → made_as (living log made) x ≡ None
none_found log [] x e = refl
none_found log (m ∷ made) x e = first (m.label == x) refl e (none_found log made x)
  where
    first : (c : Bool) → (m.label == x) ≡ c → (if c then Some m else made_as made x) ≡ None →
        (made_as made x ≡ None → made_as (living log made) x ≡ None) → made_as (living log (m ∷ made)) x ≡ None
    first true q e f = cc
    first false q e f = by (alive log m.label) (f e)
      where
        by : (b : Bool) → made_as (living log made) x ≡ None →
            made_as (if b then m ∷ living log made else living log made) x ≡ None
        by true k = ap (λ c. if c then Some m else made_as (living log made) x) q ∙ k
        by false k = k

-- ---- of a journal

-- the labels of what was made are among the numbers of its entries
pub beyond_none : (journal : List Entry) (x : ℕ) → x ≡ length journal + 1 → made_as (past_of journal).made x ≡ None
beyond_none journal x w = by (made_as (past_of journal).made x) refl
  where
    by : (o : Option Made) → made_as (past_of journal).made x ≡ o → o ≡ None
    by None e = refl
    by (Some m) e =
        let with : IsWith (past_of journal).made x m = made_with (past_of journal).made x m e in
        let within : m.label ≤ length journal = (sound journal m with.among).within in
        let same : m.label ≡ x = with.named in
        absurd (omega arith)

-- and none is the shell's
pub zero_none : (journal : List Entry) → made_as (past_of journal).made 0 ≡ None
zero_none [] = refl
zero_none (e ∷ older) =
    other_entry e (length older + 1) (past_of older) (past_of older).made 0
    (ne_eqb (length older + 1) 0 (λ d. absurd (omega arith)))
    ∙ zero_none older

living_enough : (e : Entry) (older : List Entry) →
    IsEnough (log_of (past_of older)) (past_of (e ∷ older)).made (made_at e older ++ living_of older)
living_enough e older = record {
  shell = same 0 (none_found log made 0 (zero_none older) ∙ sym (zero_none older));
  living = finds;
}
  where
    log : List Act
    log = log_of (past_of older)

    made : List Made
    made = (past_of older).made

    same : (x : ℕ) → made_as (living log made) x ≡ made_as made x →
        made_as (made_at e older ++ living log made) x ≡ made_as (made_at e older ++ made) x
    same x h = behind (made_at e older) (living log made) made x h

    finds : (x : ℕ) → IsLiving log x →
        made_as (made_at e older ++ living log made) x ≡ made_as (made_at e older ++ made) x
    finds x (inl l) = same x (living_found log made x l)
    finds x (inr n) =
        let none : made_as made x ≡ None = beyond_none older x (n ∙ ap (λ k. k + 1) (length_log older)) in
        same x (none_found log made x none ∙ sym none)

-- ---- what is dead stays dead

each_in : (P : Made → Type 0) (made : List Made) → ((m : Made) → IsIn made m → P m) → AllByRecursion P made
each_in P [] h = tt
each_in P (m ∷ made) h = (h m (inl refl), each_in P made (λ x i. h x (inr i)))

both_alive : (a b : Bool) → (b ≡ true → a ≡ true) → b ≡ (a && b)
both_alive true b h = refl
both_alive false true h = sym (h refl)
both_alive false false h = refl

living_twice : (e : Entry) (older : List Entry) →
    living (log_of (past_of (e ∷ older))) (past_of older).made
    ≡ living (log_of (past_of (e ∷ older))) (living_of older)
living_twice e older =
    filter_twice (λ (m : Made). alive now m.label) (λ (m : Made). alive log m.label) (λ (m : Made). alive now m.label)
    (past_of older).made
    (each_in (λ (m : Made). alive now m.label ≡ (alive log m.label && alive now m.label)) (past_of older).made stays)
  where
    log : List Act
    log = log_of (past_of older)

    now : List Act
    now = log_of (past_of (e ∷ older))

    stays : (m : Made) → IsIn (past_of older).made m → alive now m.label ≡ (alive log m.label && alive now m.label)
    stays m i =
        let within : m.label ≤ length older = (sound older m i).within in
        let long = length_log older in
        let w : m.label ≤ length log = omega arith in
        both_alive (alive log m.label) (alive now m.label) (lived (act_now e older) log m.label w)

living_later : (e : Entry) (older : List Entry) →
    living_of (e ∷ older) ≡ living (log_of (past_of (e ∷ older))) (made_at e older ++ living_of older)
living_later e older =
    filter-append test (made_at e older) (past_of older).made
    ∙ ap (λ (ms : List Made). living (log_of (past_of (e ∷ older))) (made_at e older) ++ ms) (living_twice e older)
    ∙ sym (filter-append test (made_at e older) (living_of older))
  where
    test : Made → Bool
    test m = alive (log_of (past_of (e ∷ older))) m.label

-- ---- what goes

gone_if : (b : Bool) (o : Option Object) → is_some o ≡ true → is_some (if b then None else o) ≡ not b
gone_if true o l = refl
gone_if false o l = l

stays_unless : (act : Act) (m : Made) (o : Option Object) → is_some o ≡ true → owner o ≡ Some m.peer →
    is_some (remains act m.label o) ≡ not (ended_by act m)
stays_unless (acts.Drop x) m o l w = gone_if (x == m.label) o l
stays_unless (acts.Gone p cause) m o l w =
    ap (λ (u : Option ℕ). is_some (if is_at u p then None else o)) w ∙ gone_if (m.peer == p) o l
stays_unless _ m o l w = l

living_goes : (e : Entry) (older : List Entry) →
    living (log_of (past_of (e ∷ older))) (living_of older)
    ≡ filter (λ (m : Made). not (ended_by (act_now e older) m)) (living_of older)
living_goes e older =
    filter_same (λ (m : Made). alive (act_now e older ∷ log) m.label) (λ (m : Made). not (ended_by (act_now e older) m))
    (living_of older)
    (all_then (λ (m : Made). IsIn made m × (alive log m.label ≡ true))
    (λ (m : Made). alive (act_now e older ∷ log) m.label ≡ not (ended_by (act_now e older) m)) (living_of older) stays
    (all_filtered (IsIn made) (λ (m : Made). alive log m.label) made (each_in (IsIn made) made (λ m i. i))))
  where
    log : List Act
    log = log_of (past_of older)

    made : List Made
    made = (past_of older).made

    stays : (m : Made) → IsIn made m × (alive log m.label ≡ true) →
        alive (act_now e older ∷ log) m.label ≡ not (ended_by (act_now e older) m)
    stays m h =
        let within : m.label ≤ length older = (sound older m h.0).within in
        let long = length_log older in
        ap is_some (object_step (act_now e older) log m.label (omega arith))
        ∙ stays_unless (act_now e older) m (object log m.label) h.1 ((sound older m h.0).own h.1)

pub can_go : DeadCanGo
can_go e older = record { enough = living_enough e older; later = living_later e older; goes = living_goes e older }
