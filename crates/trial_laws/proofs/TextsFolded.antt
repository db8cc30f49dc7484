-- The text of each field is the fold of its own edits and of what its client heard.
use Rattle.std.proofs.Common.{◌≡◌, ℕ, zero, suc, ◌+◌, ◌-◌, ◌%◌, ◌^◌, ◌≤◌, ◌<◌, Bool, true, false, List, [], ◌∷◌, ◌++◌, length, Some, refl, sym, ap, subst, ◌∙◌, arith, inl, inr, ◌⊎◌}
use Rattle.std.specs.Prelude.{◌==◌, if◌then◌else◌}
use Rattle.std.specs.List.{slice_get}
use Rattle.std.proofs.lemmas.List.{append-nil, append_assoc}
use Rattle.std.proofs.lemmas.Bool.{eq-eqb, ne_eqb}
use Rattle.std.proofs.lemmas.Option.{same_Some}
use Rattle.broker_steps.specs.declared.limits.Limits.{Limits}
use Rattle.trial_field.specs.Log.{Entry, Batch}
use Rattle.trial_script.specs.declared.action.Action.{Action}
use Rattle.trial_script.specs.declared.action.Action.TheVariants as actions
use Rattle.trial_script.specs.declared.script.Script.{Script}
use Rattle.broker_core.specs.Broker.{Broker}
use Rattle.trial_run.specs.declared.whose.Whose.TheVariants as whose
use Rattle.trial_run.specs.Ran.{Ran, went, ◌>>=◌}
use Rattle.trial_run.specs.Play.{FieldPlay, TrialPlay, field_edits, edits, commits, pauses}
use Rattle.trial_run.specs.Rounds.{rounds}
use Rattle.trial_run.specs.Lines.{edit_of, batch_of, acted, line_played, actions_played}
use Rattle.trial_run.specs.Trial.{unplayed, typist_of, method_joined, fields_joined, played_with, trial_played}
use Rattle.trial_run.proofs.FieldsChanged.{changed_length}
use Rattle.trial_laws.specs.FieldLogs.{edits_by, own_edits, bytes_taken}
use Rattle.trial_laws.specs.TrialLaws.{IsFolded, TextsAreFolds}
use Rattle.trial_laws.proofs.PhasesKeep.{after, sends_keep, rounds_keep, shell_keeps, pressed_keeps, of_broker, trial_keeps}
use Rattle.trial_laws.proofs.TakesCount.{both_went}
use Rattle.trial_laws.proofs.HeardInPieces.{HasHeard}
use Rattle.trial_laws.proofs.FieldFollowed.{IsFollowed, same_or_not, other_changed, edit_followed, pause_followed}
use Rattle.trial_laws.proofs.FieldsJoin.{AreFollowed, all_followed, fields_followed, method_followed}

-- ---- one line

same_heard : (bytes : List ℕ) (c : _) (own other : List Entry) → own ≡ other → HasHeard bytes c own →
    HasHeard bytes c other
same_heard bytes c own other e h = subst (λ (l : List Entry). HasHeard bytes c l) e h

same_own : (k : ℕ) (own other : List Entry) (t : TrialPlay) → own ≡ other → IsFollowed k own t → IsFollowed k other t
same_own k own other t e h = subst (λ (l : List Entry). IsFollowed k l t) e h

all_same : (own other : ℕ → List Entry) (most : ℕ) (t : TrialPlay) → ((k : ℕ) → own k ≡ other k) →
    AreFollowed own most t →
    AreFollowed other most t
all_same own other most t e h = record {
  seated = h.seated;
  few = h.few;
  each = λ k l. same_own k (own k) (other k) t (e k) (h.each k l);
}

-- the own edits with those of one more action
abbrev with_edits : (ℕ → List Entry) → Action → ℕ → List Entry
with_edits own action k = own k ++ edits_by action k

no_edit : (own : ℕ → List Entry) (most : ℕ) (t : TrialPlay) → AreFollowed own most t →
    AreFollowed (λ k. own k ++ []) most t
no_edit own most t h = all_same own (λ k. own k ++ []) most t (λ k. sym (append-nil (own k))) h

edited_by : (f j : ℕ) (edit : Entry) (own : ℕ → List Entry) (most : ℕ) (t : TrialPlay) → f - 1 ≡ j →
    AreFollowed own most t →
    AreFollowed (λ k. own k ++ (if f - 1 == k then edit ∷ [] else [])) most (edits j edit t)
edited_by f j edit own most t s h =
    let len = changed_length j (field_edits edit) t.fields in
    record {
      seated = h.seated ∙ ap (λ n. n + 1) (sym len);
      few = (let few = h.few in omega arith);
      each = λ k l. each k (h.each k (omega arith)) (same_or_not j k);
    }
  where
    each : (k : ℕ) → IsFollowed k (own k) t → (j ≡ k) ⊎ (j ≡ k → ⊥) →
        IsFollowed k (own k ++ (if f - 1 == k then edit ∷ [] else [])) (edits j edit t)
    each k g (inl e) =
        let is : (f - 1 == k) ≡ true = eq-eqb (f - 1) k (s ∙ e) in
        same_own k (own k ++ edit ∷ []) (own k ++ (if f - 1 == k then edit ∷ [] else [])) (edits j edit t)
        (ap (λ (b : Bool). own k ++ (if b then edit ∷ [] else [])) (sym is))
        (subst (λ i. IsFollowed k (own k ++ edit ∷ []) (edits i edit t)) (sym e) (edit_followed k (own k) edit t g))
    each k g (inr d) =
        let is : (f - 1 == k) ≡ false = ne_eqb (f - 1) k (λ e. d (sym s ∙ e)) in
        same_own k (own k) (own k ++ (if f - 1 == k then edit ∷ [] else [])) (edits j edit t)
        (sym (append-nil (own k)) ∙ ap (λ (b : Bool). own k ++ (if b then edit ∷ [] else [])) (sym is))
        (other_changed j k (field_edits edit) (own k) t d g)

committed : (own : ℕ → List Entry) (most : ℕ) (batch : Batch) (t : TrialPlay) → AreFollowed own most t →
    AreFollowed own most (commits batch t)
committed own most batch t h = record {
  seated = h.seated;
  few = h.few;
  each = λ k l. (let g = h.each k l in
      record { field = g.field; is = g.is; peer = g.peer; joined = g.joined; within = g.within; heard = g.heard });
}

shows : (own : ℕ → List Entry) (most : ℕ) (lines : List ℕ) (t : TrialPlay) → AreFollowed own most t →
    AreFollowed own most (record t { shown = lines })
shows own most lines t h = record {
  seated = h.seated;
  few = h.few;
  each = λ k l. (let g = h.each k l in
      record { field = g.field; is = g.is; peer = g.peer; joined = g.joined; within = g.within; heard = g.heard });
}

paused : (own : ℕ → List Entry) (most j : ℕ) (stops : Bool) (t : TrialPlay) → AreFollowed own most t →
    AreFollowed own most (pauses j stops t)
paused own most j stops t h =
    let len = changed_length j (λ f. record f { is_paused = stops }) t.fields in
    record {
      seated = h.seated ∙ ap (λ n. n + 1) (sym len);
      few = (let few = h.few in omega arith);
      each = λ k l. pause_followed j k (own k) stops t (h.each k (omega arith));
    }

acted_followed : (own : ℕ → List Entry) (most time : ℕ) (action : Action) (t : TrialPlay) → AreFollowed own most t →
    AreFollowed (with_edits own action) most (acted time action t).now
unfolding acted
acted_followed own most time (actions.Use f) t h =
    let next = λ (k : ℕ). own k ++ [] in
    shell_keeps (AreFollowed next most) (all_followed next most) _ t (no_edit own most t h)
acted_followed own most time actions.Leave t h =
    let next = λ (k : ℕ). own k ++ [] in
    shell_keeps (AreFollowed next most) (all_followed next most) _ t (no_edit own most t h)
acted_followed own most time (actions.Press key) t h =
    let next = λ (k : ℕ). own k ++ [] in
    pressed_keeps (AreFollowed next most) (all_followed next most) time key t (no_edit own most t h)
acted_followed own most time (actions.Batch b) t h =
    let next = λ (k : ℕ). own k ++ [] in
    sends_keep (AreFollowed next most) (all_followed next most) whose.Method (commits (batch_of b) t)
    (committed next most (batch_of b) t (no_edit own most t h))
acted_followed own most time (actions.Edit f e) t h =
    let next = λ (k : ℕ). own k ++ (if f - 1 == k then edit_of e ∷ [] else []) in
    sends_keep (AreFollowed next most) (all_followed next most) (whose.Field (f - 1)) (edits (f - 1) (edit_of e) t)
    (edited_by f (f - 1) (edit_of e) own most t refl h)
acted_followed own most time (actions.Pause f) t h =
    paused (λ k. own k ++ []) most (f - 1) true t (no_edit own most t h)
acted_followed own most time (actions.Resume f) t h =
    paused (λ k. own k ++ []) most (f - 1) false t (no_edit own most t h)
acted_followed own most time (actions.Show f) t h = shows (λ k. own k ++ []) most _ t (no_edit own most t h)

line_followed : (own : ℕ → List Entry) (most time : ℕ) (action : Action) (t : TrialPlay) → AreFollowed own most t →
    AreFollowed (with_edits own action) most (line_played time action t).now
unfolding line_played
line_followed own most time action t h =
    let next = with_edits own action in
    after (AreFollowed next most) (acted time action t) (λ now. rounds now.most now)
    (acted_followed own most time action t h)
    (λ now k. rounds_keep (AreFollowed next most) (all_followed next most) now.most now k)

-- ---- the lines of a script

pub actions_followed : (own : ℕ → List Entry) (most time : ℕ) (all : List Action) (t end : TrialPlay) →
    AreFollowed own most t →
    actions_played time all t ≡ went end → AreFollowed (λ k. own k ++ own_edits all k) most end
unfolding actions_played
actions_followed own most time [] t end h e =
    subst (λ (r : Ran TrialPlay). AreFollowed (λ k. own k ++ []) most r.now) e (no_edit own most t h)
actions_followed own most time (action ∷ more) t end h e =
    let both = both_went (line_played time action t) (actions_played ((time + 1) % 2 ^ 32) more) end e in
    let mid : AreFollowed (with_edits own action) most both.mid =
    subst (λ (r : Ran TrialPlay). AreFollowed (with_edits own action) most r.now) both.first
    (line_followed own most time action t h) in
    all_same (λ k. with_edits own action k ++ own_edits more k) (λ k. own k ++ own_edits (action ∷ more) k) most end
    (λ k. append_assoc (own k) (edits_by action k) (own_edits more k))
    (actions_followed (with_edits own action) most ((time + 1) % 2 ^ 32) more both.mid end mid both.second)

pub trial_followed : (limits : Limits) (script : Script) (t : TrialPlay) → script.fields ≤ 16 →
    (script.fields == 0) ≡ false →
    trial_played limits script ≡ went t → AreFollowed (own_edits script.actions) (0 + script.fields) t
unfolding played_with
trial_followed limits script t few some e =
    let start : TrialPlay = unplayed limits (typist_of script) in
    let time : ℕ = script.first_line % 2 ^ 32 in
    let parts : ((method_joined start >>= fields_joined script.fields) >>= actions_played time script.actions)
    ≡ went t =
    ap (λ (none : Bool). if none then went start
    else (method_joined start >>= fields_joined script.fields) >>= actions_played time script.actions)
    (sym some) ∙ e in
    let both = both_went (method_joined start >>= fields_joined script.fields) (actions_played time script.actions)
    t parts in
    let joined = both_went (method_joined start) (fields_joined script.fields) both.mid both.first in
    let first = method_followed start joined.mid refl refl joined.first in
    let mid : AreFollowed (λ k. []) (0 + script.fields) both.mid =
    subst (λ (r : Ran TrialPlay). AreFollowed (λ k. []) (0 + script.fields) r.now) joined.second
    (fields_followed script.fields 0 joined.mid (omega arith) first) in
    actions_followed (λ k. []) (0 + script.fields) time script.actions both.mid t mid both.second

-- the limits stay
pub limits_same : (limits : Limits) (script : Script) → (trial_played limits script).now.broker.limits ≡ limits
limits_same limits script =
    trial_keeps (λ t. t.broker.limits ≡ limits)
    (of_broker (λ (b : Broker). b.limits ≡ limits) (λ e b o s f h. h)) limits script refl

pub within_list : (xs : List FieldPlay) (k : ℕ) (x : FieldPlay) → slice_get xs k ≡ Some x → k < length xs
within_list [] k x e = (let no : slice_get [] k ≡ Some x = e in cc)
within_list (y ∷ xs) zero x e = omega arith
within_list (y ∷ xs) (suc k) x e = (let l = within_list xs k x e in omega arith)

-- where there are no fields, nothing is played
pub none_played : (limits : Limits) (script : Script) (t : TrialPlay) (k : ℕ) (field : FieldPlay) →
    (script.fields == 0) ≡ true →
    trial_played limits script ≡ went t → slice_get t.fields k ≡ Some field → ⊥
unfolding played_with
none_played limits script t k field none e is =
    let start : TrialPlay = unplayed limits (typist_of script) in
    let time : ℕ = script.first_line % 2 ^ 32 in
    let same : went start ≡ went t =
    ap (λ (b : Bool). if b then went start
    else (method_joined start >>= fields_joined script.fields) >>= actions_played time script.actions)
    (sym none) ∙ e in
    let empty : [] ≡ t.fields = ap (λ (r : Ran TrialPlay). r.now.fields) same in
    let l = within_list t.fields k field is in
    (let n = ap length empty in omega arith)

folded : (limits : Limits) (script : Script) (t : TrialPlay) (k : ℕ) (field : FieldPlay) → t.broker.limits ≡ limits →
    slice_get t.fields k ≡ Some field → IsFollowed k (own_edits script.actions k) t →
    IsFolded limits script t.broker.journal k field
folded limits script t k field same is f =
    let here : f.field ≡ field = same_Some f.field field (sym f.is ∙ is) in
    let h : HasHeard (bytes_taken limits.store t.broker.journal f.peer.label)
    field.client (own_edits script.actions k) =
    subst (λ (x : FieldPlay). HasHeard (bytes_taken limits.store t.broker.journal f.peer.label) x.client
    (own_edits script.actions k)) here
    (subst (λ (l : Limits). HasHeard (bytes_taken l.store t.broker.journal f.peer.label) f.field.client
    (own_edits script.actions k)) same f.heard) in
    record { log = h.log; text = h.has.text; own = h.own-is; peer = f.peer; joined = f.joined; told = h.told }

pub texts_folded : TextsAreFolds
texts_folded limits script t k field few e is = by (script.fields == 0) refl
  where
    by : (none : Bool) → (script.fields == 0) ≡ none → IsFolded limits script t.broker.journal k field
    by true n = absurd (none_played limits script t k field n e is)
    by false n =
        let all = trial_followed limits script t few n e in
        folded limits script t k field
        (subst (λ (r : Ran TrialPlay). r.now.broker.limits ≡ limits) e (limits_same limits script)) is
        (all.each k (within_list t.fields k field is))
