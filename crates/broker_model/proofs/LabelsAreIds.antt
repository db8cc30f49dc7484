-- A peer's table has for each label the id of the peer's live object with it.
use Rattle.std.proofs.Common.{◌≡◌, ℕ, ◌+◌, ◌<◌, ◌≤◌, List, [], ◌∷◌, ◌++◌, length, Bool, true, false, Option, Some, None, ap, refl, sym, ◌∙◌, subst, arith, inl, inr, ◌⊎◌}
use Rattle.std.specs.Prelude.{◌==◌, ◌&&◌, if◌then◌else◌}
use Rattle.std.specs.Option.{option_map}
use Rattle.std.proofs.lemmas.Bool.{ne_eqb, eq-eqb, eqb-true, true≢false, cases_lt}
use Rattle.std.proofs.lemmas.Option.{same_Some}
use Rattle.im_objects.specs.Calls.{Call, object_under, id_of}
use Rattle.im_objects.specs.Calls.Call.{Make, Drop}
use Rattle.relay_model.specs.declared.act.Act.{Act}
use Rattle.relay_model.specs.declared.act.Act.TheVariants as acts
use Rattle.relay_model.specs.Objects.{is_peer, alive, peer_of}
use Rattle.broker_model.specs.declared.journal.Entry.{Entry}
use Rattle.broker_model.specs.Ids.{Made, log_of, named, made_as}
use Rattle.broker_model.specs.Resolve.{means, past_of}
use Rattle.broker_model.specs.Out.{act_now}
use Rattle.broker_model.specs.Tables.{make_calls, drop_call, drop_calls, calls_for, object_of, live_id, id_now, FoundByLabel}
use Rattle.broker_model.proofs.IdsAreNames.{IsIn, IsWith, made_with}
use Rattle.broker_model.proofs.MadeAtMostOne.{IsOne, one_entry}
use Rattle.broker_model.proofs.MadeObjectsStand.{sound}
use Rattle.broker_model.proofs.TablesNameObjects.{eq_flip, IsBefore, IsDropped, IsSpared, lasts, dropped, other_goes, dead_now, before, stranger, none_dropped, none_called, found_by_id}

-- what is new with labels

label_here : (log : List Act) (p : ℕ) (m : Made) (calls : List Call) → id_of calls m.label ≡ None →
    id_of (make_calls log p (m ∷ []) ++ calls) m.label ≡ live_id log p m.label (Some m)
label_here log p m calls h = by (m.peer == p) (alive log m.label)
  where
    by : (c a : Bool) →
        id_of ((if c && a then Make m.id m.interface m.label ∷ [] else []) ++ calls) m.label
        ≡ (if c && a then Some m.id else None)
    by true true = rw (eq-eqb m.label m.label refl) refl
    by true false = h
    by false a = h

label_there : (log : List Act) (p : ℕ) (m : Made) (calls : List Call) (label : ℕ) → (label == m.label) ≡ false →
    id_of (make_calls log p (m ∷ []) ++ calls) label ≡ id_of calls label
label_there log p m calls label q = by ((m.peer == p) && alive log m.label)
  where
    by : (c : Bool) → id_of ((if c then Make m.id m.interface m.label ∷ [] else []) ++ calls) label ≡ id_of calls label
    by true = rw q refl
    by false = refl

label_one : (log : List Act) (p : ℕ) (m : Made) (made : List Made) (calls : List Call) (label : ℕ) →
    made_as made m.label ≡ None →
    id_of calls label ≡ live_id log p label (made_as made label) → (b : Bool) → (label == m.label) ≡ b →
    id_of (make_calls log p (m ∷ []) ++ calls) label ≡ live_id log p label (made_as (m ∷ made) label)
label_one log p m made calls label none h true q =
    let s : label ≡ m.label = eqb-true label m.label q in
    let here : id_of calls m.label ≡ None =
    subst (λ (x : ℕ). id_of calls x ≡ live_id log p x (made_as made x)) s h ∙ ap (live_id log p m.label) none in
    let new : made_as (m ∷ made) m.label ≡ Some m = rw (eq-eqb m.label m.label refl) refl in
    subst (λ (x : ℕ). id_of (make_calls log p (m ∷ []) ++ calls) x ≡ live_id log p x (made_as (m ∷ made) x)) (sym s)
    (label_here log p m calls here ∙ ap (live_id log p m.label) (sym new))
label_one log p m made calls label none h false q =
    let far : (m.label == label) ≡ false = eq_flip m.label label ∙ q in
    rw far (label_there log p m calls label q ∙ h)

label_new : (log past : List Act) (p n : ℕ) (act : Act) (new made : List Made) (calls : List Call) (label : ℕ) →
    (new ≡ []) ⊎ IsOne past made n act new →
    made_as made n ≡ None → id_of calls label ≡ live_id log p label (made_as made label) →
    id_of (make_calls log p new ++ calls) label ≡ live_id log p label (made_as (new ++ made) label)
label_new log past p n act new made calls label (inl none) u h =
    subst (λ ms. id_of (make_calls log p ms ++ calls) label ≡ live_id log p label (made_as (ms ++ made) label))
    (sym none) h
label_new log past p n act new made calls label (inr o) u h =
    subst (λ ms. id_of (make_calls log p ms ++ calls) label ≡ live_id log p label (made_as (ms ++ made) label))
    (sym o.is)
    (label_one log p o.one made calls label (ap (made_as made) o.label ∙ u) h (label == o.one.label) refl)

-- what was made before an act

same_live : (log : List Act) (made : List Made) (act : Act) (p label : ℕ) (o : Option Made) → IsBefore log made act p →
    made_as made label ≡ o →
    ((m : Made) → o ≡ Some m → m.peer ≡ p → IsSpared p label act) →
    live_id (act ∷ log) p label o ≡ live_id log p label o
same_live log made act p label None b e s = refl
same_live log made act p label (Some m) b e s = by (m.peer == p) refl
  where
    by : (c : Bool) → (m.peer == p) ≡ c →
        (if c && alive (act ∷ log) label then Some m.id else None) ≡ (if c && alive log label then Some m.id else None)
    by true q =
        let w : IsWith made label m = made_with made label m e in
        let own : m.peer ≡ p = eqb-true m.peer p q in
        let within : label ≤ length log = subst (λ (x : ℕ). x ≤ length log) w.named (b.all m w.among).within in
        let owned : alive log label ≡ true → peer_of log label ≡ Some p =
        subst (λ (x : ℕ). alive log x ≡ true → peer_of log x ≡ Some p) w.named
        (λ l. (b.all m w.among).own l ∙ ap Some own) in
        ap (λ (c : Bool). if c then Some m.id else None) (lasts act log label p within owned (s m refl own))
    by false q = refl

live_gone : (log : List Act) (p label : ℕ) (o : Option Made) → alive log label ≡ false → live_id log p label o ≡ None
live_gone log p label None d = refl
live_gone log p label (Some m) d = rw d (by (m.peer == p))
  where
    by : (c : Bool) → (if c && false then Some m.id else None) ≡ None
    by true = refl
    by false = refl

label_dropped : (log : List Act) (made : List Made) (x p label : ℕ) (m : Made) (calls : List Call) →
    IsBefore log made (acts.Drop x) p → IsDropped log made x p m →
    object_under calls m.id ≡ option_map object_of (named log made p m.id) →
    id_of calls label ≡ live_id log p label (made_as made label) →
    (c : Bool) → (label == m.label) ≡ c →
    id_of (Drop m.id ∷ calls) label ≡ live_id (acts.Drop x ∷ log) p label (made_as made label)
label_dropped log made x p label m calls b d f h true q =
    let under : object_under calls m.id ≡ Some (object_of m) = f ∙ ap (option_map object_of) d.names in
    let s : label ≡ x = eqb-true label m.label q ∙ d.labelled in
    let w : x ≤ length log = subst (λ (y : ℕ). y ≤ length log) d.labelled (b.all m d.among).within in
    let gone : alive (acts.Drop x ∷ log) label ≡ false = ap (alive (acts.Drop x ∷ log)) s ∙ dead_now log x w in
    rw (d.not_first, under, q) (sym (live_gone (acts.Drop x ∷ log) p label (made_as made label) gone))
label_dropped log made x p label m calls b d f h false q =
    let under : object_under calls m.id ≡ Some (object_of m) = f ∙ ap (option_map object_of) d.names in
    let far : (x == label) ≡ false = ap (λ (y : ℕ). y == label) (sym d.labelled) ∙ eq_flip m.label label ∙ q in
    rw (d.not_first, under, q)
    (h ∙ sym (same_live log made (acts.Drop x) p label (made_as made label) b refl (λ n e o. far)))

label_drop : (log : List Act) (made : List Made) (x p label : ℕ) (calls : List Call) →
    IsBefore log made (acts.Drop x) p →
    ((id : ℕ) → object_under calls id ≡ option_map object_of (named log made p id)) →
    id_of calls label ≡ live_id log p label (made_as made label) →
    (o : Option Made) → made_as made x ≡ o →
    id_of (drop_call p o ++ calls) label ≡ live_id (acts.Drop x ∷ log) p label (made_as made label)
label_drop log made x p label calls b f h None e =
    h ∙ sym (same_live log made (acts.Drop x) p label (made_as made label) b refl
    (λ n u o. ne_eqb x label (λ t. (let s : Some n ≡ None = sym u ∙ ap (made_as made) (sym t) ∙ e in cc))))
label_drop log made x p label calls b f h (Some m) e = by (m.peer == p) refl
  where
    by : (c : Bool) → (m.peer == p) ≡ c →
        id_of ((if c then Drop m.id ∷ [] else []) ++ calls) label
        ≡ live_id (acts.Drop x ∷ log) p label (made_as made label)
    by true q =
        label_dropped log made x p label m calls b (dropped log made x p m b e (eqb-true m.peer p q)) (f m.id) h
        (label == m.label) refl
    by false q =
        h ∙ sym (same_live log made (acts.Drop x) p label (made_as made label) b refl
        (λ n u o. ne_eqb x label
        (λ t.
        (let s : n ≡ m = same_Some n m (sym u ∙ ap (made_as made) (sym t) ∙ e) in
        true≢false (sym (eq-eqb m.peer p (ap (λ (y : Made). y.peer) (sym s) ∙ o)) ∙ q)))))

label_old : (log : List Act) (made : List Made) (act : Act) (p label : ℕ) (calls : List Call) →
    IsBefore log made act p →
    ((id : ℕ) → object_under calls id ≡ option_map object_of (named log made p id)) →
    id_of calls label ≡ live_id log p label (made_as made label) →
    id_of (drop_calls made p act ++ calls) label ≡ live_id (act ∷ log) p label (made_as made label)
label_old log made (acts.Drop x) p label calls b f h = label_drop log made x p label calls b f h (made_as made x) refl
label_old log made (acts.Gone q cause) p label calls b f h =
    h ∙ sym (same_live log made (acts.Gone q cause) p label (made_as made label) b refl
    (λ m e o. other_goes log made q p cause b))
label_old log made act p label calls b f h =
    h ∙ sym (same_live log made act p label (made_as made label) b refl (λ m e o. tt))

-- nothing was made with the number of an entry to come

unmade_by : (older : List Entry) (n : ℕ) (o : Option Made) → length older < n → made_as (past_of older).made n ≡ o →
    o ≡ None
unmade_by older n None l e = refl
unmade_by older n (Some m) l e =
    let w : IsWith (past_of older).made n m = made_with (past_of older).made n m e in
    let within : m.label ≤ length older = (sound older m w.among).within in
    let is : m.label ≡ n = w.named in
    absurd (omega arith)

pub unmade : (older : List Entry) (n : ℕ) → length older < n → made_as (past_of older).made n ≡ None
unmade older n l = unmade_by older n (made_as (past_of older).made n) l refl

-- nothing of a peer that is yet to join is alive
live_stranger : (log : List Act) (made : List Made) (p label : ℕ) (o : Option Made) → made_as made label ≡ o →
    ((m : Made) → IsIn made m → m.peer ≡ p → ⊥) →
    live_id log p label o ≡ None
live_stranger log made p label None e h = refl
live_stranger log made p label (Some m) e h = rw (ne_eqb m.peer p (h m (made_with made label m e).among)) refl

label_entry : (e : Entry) (older : List Entry) (p label : ℕ) → is_peer (log_of (past_of (e ∷ older))) p ≡ true →
    (is_peer (log_of (past_of older)) p ≡ true → id_of (calls_for older p) label ≡ id_now (past_of older) p label) →
    id_of (drop_calls (past_of older).made p (act_now e older) ++ calls_for older p) label
    ≡ live_id (log_of (past_of (e ∷ older))) p label (made_as (past_of older).made label)
label_entry e older p label l h =
    elim (cases_lt (length older) p) [
      | inl new ↦
          rw (
            none_dropped (past_of older).made p (act_now e older) (stranger older p new),
            none_called older p new,
            live_stranger (log_of (past_of (e ∷ older))) (past_of older).made p label
                (made_as (past_of older).made label) refl (stranger older p new),
          )
          refl
      | inr old ↦
          (let b : IsBefore (log_of (past_of older)) (past_of older).made (act_now e older) p =
          before e older p l old in
          label_old (log_of (past_of older)) (past_of older).made (act_now e older) p label (calls_for older p) b
          (λ id. found_by_id older p id b.peer) (h b.peer))
    ]

pub found_by_label : FoundByLabel
found_by_label [] p label l = cc
found_by_label (e ∷ older) p label l =
    label_new (log_of (past_of (e ∷ older))) (log_of (past_of older)) p (length older + 1)
    (means e (length older + 1) (past_of older)).act
    (means e (length older + 1) (past_of older)).made (past_of older).made
    (drop_calls (past_of older).made p (act_now e older) ++ calls_for older p) label (one_entry e older (sound older))
    (unmade older (length older + 1) (omega arith))
    (label_entry e older p label l (found_by_label older p label))
