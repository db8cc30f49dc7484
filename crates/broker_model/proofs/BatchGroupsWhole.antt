-- The group of a batch is all that its entry tells the field's peer.
use Rattle.std.proofs.Common.{◌≡◌, ℕ, ◌+◌, ◌≤◌, List, [], ◌∷◌, length, map, Bool, true, false, Option, Some, None, ap, refl, ◌∙◌, arith}
use Rattle.std.specs.Prelude.{◌==◌, ◌&&◌, is_some, is_none}
use Rattle.std.proofs.lemmas.Bool.{ne_eqb, eq-eqb, eqb-true}
use Rattle.relay_model.specs.declared.act.Act.{Act}
use Rattle.relay_model.specs.declared.act.Act.TheVariants as acts
use Rattle.relay_model.specs.declared.said.Said.{Said}
use Rattle.relay_model.specs.Objects.{is_at, is_field_kind, owner, object}
use Rattle.relay_model.specs.Hold.{holder}
use Rattle.relay_model.specs.Activation.{serving, notice, deactivates, fresh}
use Rattle.relay_model.specs.Batch.{group_of}
use Rattle.relay_model.specs.Told.{to, to_method, told_by, told}
use Rattle.relay_model.proofs.ActsOrIdle.{IsHistory, history_is}
use Rattle.relay_model.proofs.ObjectLaws.{kind_within}
use Rattle.relay_model.proofs.FocusLaws.{IsSteady}
use Rattle.relay_model.proofs.HoldLaws.{kept_same}
use Rattle.broker_model.specs.Ids.{Made, log_of, made_as}
use Rattle.broker_model.specs.Resolve.{past_of, resolve}
use Rattle.broker_model.specs.Groups.{group_for, said_piece}
use Rattle.broker_model.specs.Out.{act_at, act_now}
use Rattle.broker_model.specs.Law.{WholeGroups}
use Rattle.broker_model.proofs.OwnersLive.{IsThere, holder_there}
use Rattle.broker_model.proofs.LivePeersJoined.{length_log}
use Rattle.broker_model.proofs.FieldsHaveIds.{IsMade, other_entry, field_made_as}

-- a commit of a method says nothing of the hold

commit_steady : (m serial : ℕ) → IsSteady (acts.MCommit m serial)
commit_steady m serial = record { keeps = λ x o. refl; last = λ log. refl; since = λ log. refl }

held_or_not : (o : Option ℕ) → (is_some o && is_none o) ≡ false
held_or_not None = refl
held_or_not (Some h) = refl

no_notice : (m serial : ℕ) (log : List Act) → IsHistory log → notice (acts.MCommit m serial) log ≡ None
no_notice m serial log i =
    let same : holder (acts.MCommit m serial ∷ log) ≡ holder log =
    kept_same (acts.MCommit m serial) log i (commit_steady m serial) in
    let no : deactivates (acts.MCommit m serial) log ≡ false =
    ap (λ o. is_some (holder log) && is_none o) same ∙ held_or_not (holder log) in
    rw no refl

no_method : (m serial : ℕ) (log : List Act) (o : Option ℕ) → IsHistory log →
    to_method (acts.MCommit m serial) log o ≡ []
no_method m serial log None i = refl
no_method m serial log (Some s) i = rw (no_notice m serial log i) refl

-- a fresh batch tells its group to the holder, and nothing else
pub fresh_told : (act : Act) (log : List Act) (f : ℕ) → IsHistory log → fresh act log ≡ true → holder log ≡ Some f →
    told_by act log ≡ map (to f) (group_of act log f)
fresh_told (acts.MCommit m serial) log f i h e =
    rw (no_method m serial log (serving (acts.MCommit m serial ∷ log)) i, h, e) refl
fresh_told _ log f i h e = cc

-- events that are told to one object of the peer
group_alone : (made : List Made) (p f : ℕ) (m : Made) (events : List Said) → made_as made f ≡ Some m → m.peer ≡ p →
    group_for made p (map (to f) events) ≡ said_piece made m.id events
group_alone made p f m [] e k = refl
group_alone made p f m (event ∷ rest) e k = rw (e, eq-eqb m.peer p k, group_alone made p f m rest e k) refl

pub both : (a b : Bool) → (a && b) ≡ true → (a ≡ true) × (b ≡ true)
both true true h = (refl, refl)
both true false h = cc
both false b h = cc

pub at_is : (o : Option ℕ) (f : ℕ) → is_at o f ≡ true → o ≡ Some f
at_is None f e = cc
at_is (Some g) f e = ap Some (eqb-true g f e)

pub whole_groups : WholeGroups
whole_groups e older f r =
    let log : List Act = log_of (past_of older) in
    let t : (fresh (act_now e older) log ≡ true) × (is_at (holder log) f ≡ true) = both _ _ r in
    let there : IsThere is_field_kind (object log f) = holder_there log f (history_is (resolve older)) t.1 in
    let within : f ≤ length log = kind_within is_field_kind log f (rw there.is there.passes) in
    let old : length log ≡ length older = length_log older in
    let other : (length older + 1 == f) ≡ false = ne_eqb (length older + 1) f (λ d. omega arith) in
    let m : IsMade (past_of older).made f there.found.peer = field_made_as older f there.found there.passes there.is in
    let made : List Made = (past_of (e ∷ older)).made in
    let is : made_as made f ≡ Some m.field =
    other_entry e (length older + 1) (past_of older) (past_of older).made f other ∙ m.is in
    let says : told (act_at e older) (resolve older) ≡ map (to f) (group_of (act_now e older) log f) =
    fresh_told (act_now e older) log f (history_is (resolve older)) t.0 (at_is (holder log) f t.1) in
    record {
      peer = there.found.peer;
      owner = ap owner there.is;
      field = m.field;
      made = is;
      own = m.own;
      alone = ap (group_for made there.found.peer) says
          ∙ group_alone made there.found.peer f m.field (group_of (act_now e older) log f) is m.own;
    }
