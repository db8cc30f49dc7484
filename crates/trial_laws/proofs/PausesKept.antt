-- A field is there from its join on, and paused where the last action that pauses or resumes it pauses it.
use Rattle.std.proofs.Common.{◌≡◌, ℕ, zero, suc, ◌+◌, ◌-◌, ◌%◌, ◌^◌, ◌<◌, Bool, true, false, List, [], ◌∷◌, ◌++◌, length, Some, refl, sym, ap, subst, ◌∙◌, arith, inl, inr, ◌⊎◌, length-append}
use Rattle.std.specs.Prelude.{◌==◌, if◌then◌else◌}
use Rattle.std.specs.List.{AllByRecursion, slice_get}
use Rattle.std.proofs.lemmas.Bool.{eq-eqb, ne_eqb}
use Rattle.relay_model.specs.declared.role.Role.TheVariants.{App, Method}
use Rattle.broker_steps.specs.declared.limits.Limits.{Limits}
use Rattle.broker_model.proofs.EachElement.{each_append}
use Rattle.trial_script.specs.declared.action.Action.{Action}
use Rattle.trial_script.specs.declared.action.Action.TheVariants as actions
use Rattle.trial_script.specs.declared.script.Script.{Script}
use Rattle.trial_run.specs.declared.whose.Whose.{Whose}
use Rattle.trial_run.specs.declared.whose.Whose.TheVariants as whose
use Rattle.trial_run.specs.Ran.{Ran, went, ◌>>=◌}
use Rattle.trial_run.specs.Steps.{joined, next_bytes}
use Rattle.trial_run.specs.Play.{FieldPlay, TrialPlay, new_field, number_of, changed, hears, field_hears, field_sent, sent, field_edits, edits, commits, pauses}
use Rattle.trial_run.specs.Rounds.{with_broker, sends, rounds}
use Rattle.trial_run.specs.Lines.{edit_of, batch_of, acted, line_played, actions_played}
use Rattle.trial_run.specs.Trial.{unplayed, typist_of, method_joined, field_joined, fields_joined, played_with, trial_played}
use Rattle.trial_run.proofs.FieldsChanged.{changed_length}
use Rattle.trial_laws.specs.ShownTexts.{is_paused_by, is_paused_from, is_paused_behind}
use Rattle.trial_laws.proofs.PhasesKeep.{IsKept, after, take_entry, with_entry, sends_keep, rounds_keep, shell_keeps, pressed_keeps}
use Rattle.trial_laws.proofs.TakesCount.{both_went}
use Rattle.trial_laws.proofs.FieldFollowed.{same_or_not, changed_at, changed_other}

-- what is done with a field leaves it paused or not
abbrev Steady : (FieldPlay → FieldPlay) → Type 0
Steady f = (x : FieldPlay) → (f x).is_paused ≡ x.is_paused

-- what each steady change of a field keeps, phases keep
module _ (P : List FieldPlay → Type 0)
    (each : (j : ℕ) (f : FieldPlay → FieldPlay) (xs : List FieldPlay) → Steady f → P xs → P (changed j f xs)) where
  heard_still : (who : Whose) (piece : List ℕ) (t : TrialPlay) → P t.fields → P (hears who piece t).fields
  heard_still whose.Method piece t h = h
  heard_still (whose.Field j) piece t h = each j (field_hears piece) t.fields (λ x. refl) h

  sent_still : (who : Whose) (t : TrialPlay) → P t.fields → P (sent who t).fields
  sent_still whose.Method t h = h
  sent_still (whose.Field j) t h = each j field_sent t.fields (λ x. refl) h

  still_kept : IsKept (λ t. P t.fields)
  still_kept = record {
    saying = λ e t s f h. h;
    taking = λ who t f h. heard_still who (next_bytes (number_of who) t.broker) (with_entry (take_entry who t) t) h;
    sending = sent_still;
  }

-- ---- joins

-- so many fields joined, and none is paused
record AreGoing (n : ℕ) (fields : List FieldPlay) : Type 0 where
  count : length fields ≡ n
  going : AllByRecursion (λ x. x.is_paused ≡ false) fields

going_changed : (j : ℕ) (f : FieldPlay → FieldPlay) (xs : List FieldPlay) → Steady f →
    AllByRecursion (λ x. x.is_paused ≡ false) xs → AllByRecursion (λ x. x.is_paused ≡ false) (changed j f xs)
going_changed j f [] s h = tt
going_changed zero f (x ∷ xs) s h = (s x ∙ h.0, h.1)
going_changed (suc j) f (x ∷ xs) s h = (h.0, going_changed j f xs s h.1)

going_kept : (n : ℕ) → IsKept (λ t. AreGoing n t.fields)
going_kept n =
    still_kept (AreGoing n)
    (λ j f xs s h. record { count = changed_length j f xs ∙ h.count; going = going_changed j f xs s h.going })

one_more : (n : ℕ) (fields : List FieldPlay) → AreGoing n fields → AreGoing (n + 1) (fields ++ new_field ∷ [])
one_more n fields h = record {
  count = length-append fields (new_field ∷ []) ∙ ap (λ m. m + 1) h.count;
  going = each_append (λ (x : FieldPlay). x.is_paused ≡ false) fields (new_field ∷ []) h.going (refl, tt);
}

method_going : (t : TrialPlay) → t.fields ≡ [] → AreGoing 0 (method_joined t).now.fields
unfolding method_joined
method_going t none =
    after (λ u. AreGoing 0 u.fields) (with_broker t (joined Method t.broker)) (sends whose.Method)
    (subst (AreGoing 0) (sym none) (record { count = refl; going = tt }))
    (sends_keep (λ u. AreGoing 0 u.fields) (going_kept 0) whose.Method)

field_going : (n : ℕ) (t mid : TrialPlay) → AreGoing n t.fields → field_joined t ≡ went mid →
    AreGoing (n + 1) mid.fields
unfolding field_joined
field_going n t mid h e =
    let next : TrialPlay → Ran TrialPlay =
    λ now. sends (whose.Field (length t.fields)) (record now { fields = now.fields ++ new_field ∷ [] }) in
    let both = both_went (with_broker t (joined App t.broker)) next mid e in
    let same : AreGoing n both.mid.fields =
    subst (λ (r : Ran TrialPlay). AreGoing n r.now.fields) both.first h in
    subst (λ (r : Ran TrialPlay). AreGoing (n + 1) r.now.fields) both.second
    (sends_keep (λ u. AreGoing (n + 1) u.fields) (going_kept (n + 1)) (whose.Field (length t.fields))
    (record both.mid { fields = both.mid.fields ++ new_field ∷ [] }) (one_more n both.mid.fields same))

fields_going : (more n : ℕ) (t end : TrialPlay) → AreGoing n t.fields → fields_joined more t ≡ went end →
    AreGoing (n + more) end.fields
unfolding fields_joined
fields_going zero n t end h e =
    let same : n ≡ n + zero = omega arith in
    subst (λ m. AreGoing m end.fields) same (subst (λ (r : Ran TrialPlay). AreGoing n r.now.fields) e h)
fields_going (suc more) n t end h e =
    let both = both_went (field_joined t) (fields_joined more) end e in
    let same : (n + 1) + more ≡ n + suc more = omega arith in
    subst (λ m. AreGoing m end.fields) same
    (fields_going more (n + 1) both.mid end (field_going n t both.mid h both.first) both.second)

-- ---- the field with the index k

pub record IsPausedSo (k : ℕ) (b : Bool) (fields : List FieldPlay) : Type 0 where
  pub field : FieldPlay
  pub is : slice_get fields k ≡ Some field
  pub paused : field.is_paused ≡ b

so_first : (k n : ℕ) (fields : List FieldPlay) → k < n → AreGoing n fields → IsPausedSo k false fields
so_first k n fields l h = at k fields (let c = h.count in omega arith) h.going
  where
    at : (i : ℕ) (xs : List FieldPlay) → i < length xs → AllByRecursion (λ x. x.is_paused ≡ false) xs →
        IsPausedSo i false xs
    at i [] less all = absurd (omega arith)
    at zero (x ∷ xs) less all = record { field = x; is = refl; paused = all.0 }
    at (suc i) (x ∷ xs) less all =
        (let r : IsPausedSo i false xs = at i xs (omega arith) all.1 in
        record { field = r.field; is = r.is; paused = r.paused })

so_other : (j k : ℕ) (b : Bool) (f : FieldPlay → FieldPlay) (xs : List FieldPlay) → (j ≡ k → ⊥) →
    IsPausedSo k b xs → IsPausedSo k b (changed j f xs)
so_other j k b f xs d h = record { field = h.field; is = changed_other j k f xs d ∙ h.is; paused = h.paused }

so_changed : (k : ℕ) (b : Bool) (j : ℕ) (f : FieldPlay → FieldPlay) (xs : List FieldPlay) → Steady f →
    IsPausedSo k b xs → IsPausedSo k b (changed j f xs)
so_changed k b j f xs s h = by (same_or_not j k)
  where
    by : (j ≡ k) ⊎ (j ≡ k → ⊥) → IsPausedSo k b (changed j f xs)
    by (inl e) = subst (λ i. IsPausedSo k b (changed i f xs)) (sym e)
        (record { field = f h.field; is = changed_at k f xs h.field h.is; paused = s h.field ∙ h.paused })
    by (inr d) = so_other j k b f xs d h

so_kept : (k : ℕ) (b : Bool) → IsKept (λ t. IsPausedSo k b t.fields)
so_kept k b = still_kept (IsPausedSo k b) (so_changed k b)

-- it is paused or resumed, or another one is
so_paused : (j k : ℕ) (b stops : Bool) (t : TrialPlay) → IsPausedSo k b t.fields →
    IsPausedSo k (if j == k then stops else b) (pauses j stops t).fields
so_paused j k b stops t h = by (same_or_not j k)
  where
    by : (j ≡ k) ⊎ (j ≡ k → ⊥) → IsPausedSo k (if j == k then stops else b) (pauses j stops t).fields
    by (inl e) =
        subst (λ (is : Bool). IsPausedSo k (if is then stops else b) (pauses j stops t).fields)
        (sym (eq-eqb j k e))
        (subst (λ i. IsPausedSo k stops (pauses i stops t).fields) (sym e)
        (record {
          field = record h.field { is_paused = stops };
          is = changed_at k (λ f. record f { is_paused = stops }) t.fields h.field h.is;
          paused = refl;
        }))
    by (inr d) =
        subst (λ (is : Bool). IsPausedSo k (if is then stops else b) (pauses j stops t).fields)
        (sym (ne_eqb j k d))
        (so_other j k b (λ f. record f { is_paused = stops }) t.fields d h)

acted_so : (k : ℕ) (b : Bool) (time : ℕ) (action : Action) (t : TrialPlay) → IsPausedSo k b t.fields →
    IsPausedSo k (is_paused_by action k b) (acted time action t).now.fields
unfolding acted
acted_so k b time (actions.Use f) t h = shell_keeps (λ u. IsPausedSo k b u.fields) (so_kept k b) _ t h
acted_so k b time actions.Leave t h = shell_keeps (λ u. IsPausedSo k b u.fields) (so_kept k b) _ t h
acted_so k b time (actions.Press key) t h =
    pressed_keeps (λ u. IsPausedSo k b u.fields) (so_kept k b) time key t h
acted_so k b time (actions.Batch e) t h =
    sends_keep (λ u. IsPausedSo k b u.fields) (so_kept k b) whose.Method (commits (batch_of e) t) h
acted_so k b time (actions.Edit f e) t h =
    sends_keep (λ u. IsPausedSo k b u.fields) (so_kept k b) (whose.Field (f - 1)) (edits (f - 1) (edit_of e) t)
    (so_changed k b (f - 1) (field_edits (edit_of e)) t.fields (λ x. refl) h)
acted_so k b time (actions.Pause f) t h = so_paused (f - 1) k b true t h
acted_so k b time (actions.Resume f) t h = so_paused (f - 1) k b false t h
acted_so k b time (actions.Show f) t h = h

line_so : (k : ℕ) (b : Bool) (time : ℕ) (action : Action) (t : TrialPlay) → IsPausedSo k b t.fields →
    IsPausedSo k (is_paused_by action k b) (line_played time action t).now.fields
unfolding line_played
line_so k b time action t h =
    let b_after : Bool = is_paused_by action k b in
    after (λ u. IsPausedSo k b_after u.fields) (acted time action t) (λ now. rounds now.most now)
    (acted_so k b time action t h)
    (λ now g. rounds_keep (λ u. IsPausedSo k b_after u.fields) (so_kept k b_after) now.most now g)

actions_so : (k : ℕ) (b : Bool) (time : ℕ) (all : List Action) (t end : TrialPlay) → IsPausedSo k b t.fields →
    actions_played time all t ≡ went end → IsPausedSo k (is_paused_from all k b) end.fields
unfolding actions_played
actions_so k b time [] t end h e = subst (λ (r : Ran TrialPlay). IsPausedSo k b r.now.fields) e h
actions_so k b time (action ∷ more) t end h e =
    let both = both_went (line_played time action t) (actions_played ((time + 1) % 2 ^ 32) more) end e in
    actions_so k (is_paused_by action k b) ((time + 1) % 2 ^ 32) more both.mid end
    (subst (λ (r : Ran TrialPlay). IsPausedSo k (is_paused_by action k b) r.now.fields) both.first
    (line_so k b time action t h)) both.second

-- each field of a script that is played to its end
pub paused_so : (limits : Limits) (script : Script) (t : TrialPlay) (k : ℕ) → k < script.fields →
    trial_played limits script ≡ went t → IsPausedSo k (is_paused_behind script.actions k) t.fields
unfolding played_with
paused_so limits script t k l e =
    let start : TrialPlay = unplayed limits (typist_of script) in
    let time : ℕ = script.first_line % 2 ^ 32 in
    let parts : ((method_joined start >>= fields_joined script.fields) >>= actions_played time script.actions)
    ≡ went t =
    ap (λ (none : Bool). if none then went start
    else (method_joined start >>= fields_joined script.fields) >>= actions_played time script.actions)
    (sym (ne_eqb script.fields 0 (λ z. absurd (omega arith)))) ∙ e in
    let both = both_went (method_joined start >>= fields_joined script.fields) (actions_played time script.actions)
    t parts in
    let joins = both_went (method_joined start) (fields_joined script.fields) both.mid both.first in
    let none : AreGoing 0 joins.mid.fields =
    subst (λ (r : Ran TrialPlay). AreGoing 0 r.now.fields) joins.first (method_going start refl) in
    actions_so k false time script.actions both.mid t
    (so_first k (0 + script.fields) both.mid.fields (omega arith)
    (fields_going script.fields 0 joins.mid both.mid none joins.second)) both.second
