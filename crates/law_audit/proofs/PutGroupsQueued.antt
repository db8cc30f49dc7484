-- The groups that are put for a field's peer, as far as they are the field's, are those queued for it, and each is
-- whole.
use Rattle.std.proofs.Common.{◌≡◌, ℕ, ◌+◌, List, [], ◌∷◌, ◌++◌, length, Bool, true, false, ◌&&◌, Option, Some, None, refl, sym, ap, ◌∙◌, inr}
use Rattle.std.specs.Prelude.{◌==◌, if◌then◌else◌}
use Rattle.std.specs.List.{AllByRecursion}
use Rattle.std.proofs.lemmas.List.{append-nil, append_assoc}
use Rattle.std.proofs.lemmas.Bool.{eq-eqb, eqb-true}
use Rattle.relay_model.specs.declared.act.Act.{Act}
use Rattle.relay_model.specs.declared.act.Act.TheVariants as acts
use Rattle.relay_model.specs.declared.said.Said.{Said}
use Rattle.relay_model.specs.declared.said.Said.TheVariants as said
use Rattle.relay_model.specs.Objects.{is_at}
use Rattle.relay_model.specs.Hold.{holder}
use Rattle.relay_model.specs.Activation.{fresh}
use Rattle.relay_model.specs.Batch.{Batch, batch, commit_count, deletion_said, string_said, is_no_preedit, preedit_said, group_of}
use Rattle.broker_model.specs.declared.journal.Entry.{Entry}
use Rattle.broker_model.specs.Ids.{Made, log_of, made_as}
use Rattle.broker_model.specs.Law.{IsAlone}
use Rattle.broker_model.specs.Out.{act_now}
use Rattle.broker_model.specs.Queued.{relays, is_put_for, is_put, queued}
use Rattle.broker_model.specs.Resolve.{means, past_of}
use Rattle.broker_model.proofs.BatchGroupsWhole.{whole_groups}
use Rattle.broker_model.proofs.EachElement.{either_way, each_append}
use Rattle.broker_model.proofs.IdsAreNames.{IsIn, made_with}
use Rattle.broker_model.proofs.MadeObjectsStand.{sound}
use Rattle.law_audit.specs.OwedGroups.{IsFieldOf}
use Rattle.law_audit.specs.FieldGroups.{FieldGroup, group_to, group_now, groups_put, of_field, IsEdit, IsWhole}

-- ---- the groups of one field

pub field-append : (f : ℕ) (xs ys : List FieldGroup) → of_field f (xs ++ ys) ≡ of_field f xs ++ of_field f ys
field-append f [] ys = refl
field-append f (g ∷ xs) ys = by (g.field == f) (field-append f xs ys)
  where
    by : (b : Bool) → of_field f (xs ++ ys) ≡ of_field f xs ++ of_field f ys →
        (if b then g.group ∷ of_field f (xs ++ ys) else of_field f (xs ++ ys))
        ≡ (if b then g.group ∷ of_field f xs else of_field f xs) ++ of_field f ys
    by true k = ap (λ (l : List (List Said)). g.group ∷ l) k
    by false k = k

in_older : (new made : List Made) (m : Made) → IsIn made m → IsIn (new ++ made) m
in_older [] made m i = i
in_older (x ∷ new) made m i = inr (in_older new made m i)

own_before : (e : Entry) (older : List Entry) (p f : ℕ) → IsFieldOf (e ∷ older) p f → IsFieldOf older p f
own_before e older p f h m is =
    let w = made_with (past_of older).made f m is in
    let s = sound (e ∷ older) m
    (in_older (means e (length older + 1) (past_of older)).made (past_of older).made m w.among) in
    h m (ap (made_as (past_of (e ∷ older)).made) (sym w.named) ∙ s.known)

both : (a b : Bool) → (a && b) ≡ true → (a ≡ true) × (b ≡ true)
both true true h = (refl, refl)
both true false h = cc
both false b h = cc

at_is : (o : Option ℕ) (f : ℕ) → is_at o f ≡ true → o ≡ Some f
at_is None f e = cc
at_is (Some g) f e = ap Some (eqb-true g f e)

-- what the entry adds for the field
abbrev newest : ℕ → Entry → List Entry → ℕ → Bool → List (List Said)
newest capacity e older f b = if b then group_of (act_now e older) (log_of (past_of older)) f ∷ [] else []

one_found : (f : ℕ) (w x y z : Bool) (one : FieldGroup) → w ≡ true → x ≡ true → (one.field == f) ≡ z → z ≡ true →
    of_field f (if w && x && y then one ∷ [] else []) ≡ (if y then one.group ∷ [] else [])
one_found f true true true z one h k s t = ap (λ (b : Bool). if b then one.group ∷ [] else []) (s ∙ t)
one_found f true true false z one h k s t = refl
one_found f true false y z one h k s t = cc
one_found f false x y z one h k s t = cc

relayed_now : (capacity : ℕ) (e : Entry) (older : List Entry) (p f : ℕ) → IsFieldOf (e ∷ older) p f →
    relays e older f ≡ true →
    of_field f (group_now capacity e older p (holder (log_of (past_of older))))
    ≡ newest capacity e older f (is_put capacity e older f)
relayed_now capacity e older p f h r =
    let a : IsAlone e older f = whole_groups e older f r in
    let t = both (fresh (act_now e older) (log_of (past_of older))) (is_at (holder (log_of (past_of older))) f) r in
    let mine : a.field.peer ≡ p = h a.field a.made in
    let put : is_put capacity e older f ≡ is_put_for capacity e older (Some p) =
    ap (is_put_for capacity e older) (a.owner ∙ ap Some (sym a.own ∙ mine)) in
    ap (λ (o : Option ℕ). of_field f (group_now capacity e older p o)) (at_is (holder (log_of (past_of older))) f t.1)
    ∙ ap (λ (o : Option Made). of_field f (group_to capacity e older p f o)) a.made
    ∙ one_found f (fresh (act_now e older) (log_of (past_of older))) (a.field.peer == p)
    (is_put_for capacity e older (Some p)) (f == f) (record {
      field = f;
      id = a.field.id;
      group = group_of (act_now e older) (log_of (past_of older)) f;
    }) t.0 (eq-eqb a.field.peer p mine) refl (eq-eqb f f refl)
    ∙ ap (newest capacity e older f) (sym put)

other_now : (capacity : ℕ) (e : Entry) (older : List Entry) (p f : ℕ) (o : Option ℕ) →
    (fresh (act_now e older) (log_of (past_of older)) && is_at o f) ≡ false →
    of_field f (group_now capacity e older p o) ≡ []
other_now capacity e older p f None h = refl
other_now capacity e older p f (Some g) h = by (made_as (past_of (e ∷ older)).made g)
  where
    within : (w x y z : Bool) (one : FieldGroup) → (w && z) ≡ false → (one.field == f) ≡ z →
        of_field f (if w && x && y then one ∷ [] else []) ≡ []
    within true true true false one k s = ap (λ (b : Bool). if b then one.group ∷ [] else []) s
    within true true false z one k s = refl
    within true false y z one k s = refl
    within false x y z one k s = refl
    within true true true true one k s = cc

    by : (m : Option Made) → of_field f (group_to capacity e older p g m) ≡ []
    by None = refl
    by (Some m) =
        within (fresh (act_now e older) (log_of (past_of older))) (m.peer == p) (is_put_for capacity e older (Some p))
        (g == f) (record {
          field = g;
          id = m.id;
          group = group_of (act_now e older) (log_of (past_of older)) g;
        }) h refl

field_now : (capacity : ℕ) (e : Entry) (older : List Entry) (p f : ℕ) → IsFieldOf (e ∷ older) p f →
    of_field f (group_now capacity e older p (holder (log_of (past_of older))))
    ≡ newest capacity e older f (relays e older f && is_put capacity e older f)
field_now capacity e older p f h = by (relays e older f) refl
  where
    by : (b : Bool) → relays e older f ≡ b →
        of_field f (group_now capacity e older p (holder (log_of (past_of older))))
        ≡ newest capacity e older f (b && is_put capacity e older f)
    by true r = relayed_now capacity e older p f h r
    by false r = other_now capacity e older p f (holder (log_of (past_of older))) r

with_newest : (capacity : ℕ) (e : Entry) (older : List Entry) (f : ℕ) (b : Bool) (before : List (List Said)) →
    before ++ newest capacity e older f b
    ≡ (if b then before ++ group_of (act_now e older) (log_of (past_of older)) f ∷ [] else before)
with_newest capacity e older f true before = refl
with_newest capacity e older f false before = append-nil before

pub groups_queued : (capacity : ℕ) (journal : List Entry) (p f : ℕ) → IsFieldOf journal p f →
    of_field f (groups_put capacity journal p) ≡ queued capacity journal f
groups_queued capacity [] p f h = refl
groups_queued capacity (e ∷ older) p f h =
    field-append f (groups_put capacity older p) (group_now capacity e older p (holder (log_of (past_of older))))
    ∙ ap (λ (l : List (List Said)).
    l ++ of_field f (group_now capacity e older p (holder (log_of (past_of older)))))
    (groups_queued capacity older p f (own_before e older p f h))
    ∙ ap (λ (l : List (List Said)). queued capacity older f ++ l) (field_now capacity e older p f h)
    ∙ with_newest capacity e older f (relays e older f && is_put capacity e older f) (queued capacity older f)

-- ---- each group is whole

pub batch_whole : (act : Act) (log : List Act) (f id : ℕ) → fresh act log ≡ true →
    IsWhole (record { field = f; id = id; group = group_of act log f })
batch_whole (acts.MCommit m serial) log f id h =
    let b : Batch = batch log m in
    let n : ℕ = commit_count log f in
    record {
      edits = deletion_said b.deletion ++ (string_said b.string ++ preedit_said b.preedit);
      count = n;
      is =
          ap (λ (l : List Said). deletion_said b.deletion ++ l)
          (sym (append_assoc (string_said b.string) (preedit_said b.preedit) (said.FieldDone n ∷ [])))
          ∙ sym (append_assoc (deletion_said b.deletion) (string_said b.string ++ preedit_said b.preedit)
          (said.FieldDone n ∷ []));
      each =
          each_append IsEdit (deletion_said b.deletion) _
          (either_way (AllByRecursion IsEdit) ((b.deletion.before == 0) && (b.deletion.after == 0)) []
          (said.Delete b.deletion.before b.deletion.after ∷ []) tt (tt, tt))
          (each_append IsEdit (string_said b.string) _
          (either_way (AllByRecursion IsEdit) (length b.string == 0) [] (said.CommitString b.string ∷ []) tt (tt, tt))
          (either_way (AllByRecursion IsEdit) (is_no_preedit b.preedit) []
          (said.Preedit b.preedit.text b.preedit.begin b.preedit.end ∷ []) tt (tt, tt)));
    }
batch_whole _ log f id h = cc

now_whole : (capacity : ℕ) (e : Entry) (older : List Entry) (p : ℕ) (o : Option ℕ) →
    AllByRecursion IsWhole (group_now capacity e older p o)
now_whole capacity e older p None = tt
now_whole capacity e older p (Some f) = by (made_as (past_of (e ∷ older)).made f)
  where
    within : (w x y : Bool) (one : FieldGroup) → (w ≡ true → IsWhole one) →
        AllByRecursion IsWhole (if w && x && y then one ∷ [] else [])
    within true true true one h = (h refl, tt)
    within true true false one h = tt
    within true false y one h = tt
    within false x y one h = tt

    by : (o : Option Made) → AllByRecursion IsWhole (group_to capacity e older p f o)
    by None = tt
    by (Some m) =
        within (fresh (act_now e older) (log_of (past_of older))) (m.peer == p) (is_put_for capacity e older (Some p))
        (record {
          field = f;
          id = m.id;
          group = group_of (act_now e older) (log_of (past_of older)) f;
        }) (λ h. batch_whole (act_now e older) (log_of (past_of older)) f m.id h)

pub groups_whole : (capacity : ℕ) (journal : List Entry) (p : ℕ) →
    AllByRecursion IsWhole (groups_put capacity journal p)
groups_whole capacity [] p = tt
groups_whole capacity (e ∷ older) p =
    each_append IsWhole (groups_put capacity older p) _ (groups_whole capacity older p)
    (now_whole capacity e older p (holder (log_of (past_of older))))
