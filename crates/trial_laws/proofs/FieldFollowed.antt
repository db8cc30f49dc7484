-- A field is what its user did and what its client heard, whatever peers, shell and clients do next.
use Rattle.std.proofs.Common.{◌≡◌, ℕ, zero, suc, ◌+◌, Bool, true, false, List, [], ◌∷◌, ◌++◌, length, Option, Some, None, refl, sym, ap, subst, ◌∙◌, arith, inl, inr, ◌⊎◌}
use Rattle.std.specs.Prelude.{◌==◌}
use Rattle.std.specs.List.{slice_get}
use Rattle.std.proofs.lemmas.Bool.{eqb-true, eqb-false}
use Rattle.trial_field.specs.Log.{Entry}
use Rattle.broker_model.specs.declared.journal.Entry as journals
use Rattle.broker_model.specs.declared.journal.Entry.TheVariants as entries
use Rattle.broker_model.specs.Ids.{Joined, peer_at}
use Rattle.broker_model.specs.Out.{out_for, took_at}
use Rattle.broker_model.specs.Resolve.{past_of}
use Rattle.broker_model.specs.Settle.{settle}
use Rattle.trial_run.specs.declared.whose.Whose.{Whose}
use Rattle.trial_run.specs.declared.whose.Whose.TheVariants as whose
use Rattle.trial_run.specs.Steps.{next_bytes}
use Rattle.trial_run.specs.Play.{FieldPlay, TrialPlay, number_of, changed, with_field, hears, field_hears, field_sent, sent, field_edits, edits, pauses}
use Rattle.trial_laws.specs.FieldLogs.{bytes_taken}
use Rattle.trial_laws.proofs.PhasesKeep.{speaks_spoken, IsKept, take_entry, with_entry}
use Rattle.trial_laws.proofs.HeardInPieces.{HasHeard, hears_on, is_sent, is_edited}
use Rattle.trial_laws.proofs.BytesTaken.{Grows, step_grows, step_peer, spoken_takes, own_take, other_take, IsWithinPut, still_within, same_taken, next_is, more_taken}

-- ---- one field of a list

pub same_or_not : (j k : ℕ) → (j ≡ k) ⊎ (j ≡ k → ⊥)
same_or_not j k = by (j == k) refl
  where
    by : (b : Bool) → (j == k) ≡ b → (j ≡ k) ⊎ (j ≡ k → ⊥)
    by true e = inl (eqb-true j k e)
    by false e = inr (eqb-false j k e)

pub changed_at : (k : ℕ) (f : FieldPlay → FieldPlay) (xs : List FieldPlay) (x : FieldPlay) →
    slice_get xs k ≡ Some x → slice_get (changed k f xs) k ≡ Some (f x)
changed_at k f [] x e = (let no : slice_get [] k ≡ Some x = e in cc)
changed_at zero f (y ∷ xs) x e = ap (λ (o : Option FieldPlay). changed_in o) e
  where
    changed_in : Option FieldPlay → Option FieldPlay
    changed_in None = None
    changed_in (Some z) = Some (f z)
changed_at (suc k) f (y ∷ xs) x e = changed_at k f xs x e

pub changed_other : (j k : ℕ) (f : FieldPlay → FieldPlay) (xs : List FieldPlay) → (j ≡ k → ⊥) →
    slice_get (changed j f xs) k ≡ slice_get xs k
changed_other j k f [] d = refl
changed_other zero zero f (y ∷ xs) d = absurd (d refl)
changed_other zero (suc k) f (y ∷ xs) d = refl
changed_other (suc j) zero f (y ∷ xs) d = refl
changed_other (suc j) (suc k) f (y ∷ xs) d = changed_other j k f xs (λ e. d (ap suc e))

-- ---- the field with the index k

-- it is there, its peer joined, and its client heard what the peer took
pub record IsFollowed (k : ℕ) (own : List Entry) (t : TrialPlay) : Type 0 where
  pub field : FieldPlay
  pub is : slice_get t.fields k ≡ Some field
  pub peer : Joined
  pub joined : peer_at (past_of t.broker.journal) (k + 2) ≡ Some peer
  pub within : IsWithinPut (out_for t.broker.limits.store t.broker.journal peer.label)
  pub heard : HasHeard (bytes_taken t.broker.limits.store t.broker.journal peer.label) field.client own

-- another field is as it was
pub other_changed : (j k : ℕ) (f : FieldPlay → FieldPlay) (own : List Entry) (t : TrialPlay) → (j ≡ k → ⊥) →
    IsFollowed k own t → IsFollowed k own (with_field j f t)
other_changed j k f own t d h = record {
  field = h.field;
  is = changed_other j k f t.fields d ∙ h.is;
  peer = h.peer;
  joined = h.joined;
  within = h.within;
  heard = h.heard;
}

-- what is done with the field itself
pub own_changed : (k : ℕ) (f : FieldPlay → FieldPlay) (before after : List Entry) (t : TrialPlay)
    (h : IsFollowed k before t) →
    HasHeard (bytes_taken t.broker.limits.store t.broker.journal h.peer.label) (f h.field).client after →
    IsFollowed k after (with_field k f t)
own_changed k f before after t h heard = record {
  field = f h.field;
  is = changed_at k f t.fields h.field h.is;
  peer = h.peer;
  joined = h.joined;
  within = h.within;
  heard = heard;
}

-- a step that takes nothing of the peer
pub entry_followed : (k : ℕ) (own : List Entry) (e : journals.Entry) (t : TrialPlay) (h : IsFollowed k own t) →
    took_at e (past_of t.broker.journal) h.peer.label ≡ 0 → IsFollowed k own (with_entry e t)
entry_followed k own e t h none =
    let g : Grows 0 (out_for t.broker.limits.store t.broker.journal h.peer.label)
    (out_for t.broker.limits.store (settle t.broker.limits.store (e ∷ t.broker.journal)) h.peer.label) =
    subst (λ n. Grows n (out_for t.broker.limits.store t.broker.journal h.peer.label)
    (out_for t.broker.limits.store (settle t.broker.limits.store (e ∷ t.broker.journal)) h.peer.label)) none
    (step_grows t.broker.limits.store e t.broker.journal h.peer.label) in
    record {
      field = h.field;
      is = h.is;
      peer = h.peer;
      joined = step_peer t.broker.limits.store e t.broker.journal (k + 2) h.peer h.joined;
      within = still_within _ _ g h.within;
      heard = subst (λ (bytes : List ℕ). HasHeard bytes h.field.client own) (sym (same_taken _ _ g h.within)) h.heard;
    }

-- its own client takes what comes next, and hears it
own_taken : (k : ℕ) (own : List Entry) (t : TrialPlay) → IsFollowed k own t →
    IsFollowed k own (hears (whose.Field k) (next_bytes (k + 2) t.broker) (with_entry (take_entry (whose.Field k) t) t))
own_taken k own t h =
    let next : List ℕ = next_bytes (k + 2) t.broker in
    let e : journals.Entry = entries.Took (k + 2) (length next) in
    let g : Grows (length next) (out_for t.broker.limits.store t.broker.journal h.peer.label)
    (out_for t.broker.limits.store (settle t.broker.limits.store (e ∷ t.broker.journal)) h.peer.label) =
    subst (λ n. Grows n (out_for t.broker.limits.store t.broker.journal h.peer.label)
    (out_for t.broker.limits.store (settle t.broker.limits.store (e ∷ t.broker.journal)) h.peer.label))
    (own_take t.broker.journal (k + 2) (length next) h.peer h.joined)
    (step_grows t.broker.limits.store e t.broker.journal h.peer.label) in
    let more = more_taken (out_for t.broker.limits.store t.broker.journal h.peer.label)
    (out_for t.broker.limits.store (settle t.broker.limits.store (e ∷ t.broker.journal)) h.peer.label) next
    (next_is (k + 2) t.broker h.peer h.joined) g h.within in
    record {
      field = field_hears next h.field;
      is = changed_at k (field_hears next) t.fields h.field h.is;
      peer = h.peer;
      joined = step_peer t.broker.limits.store e t.broker.journal (k + 2) h.peer h.joined;
      within = more.0;
      heard =
          subst (λ (bytes : List ℕ). HasHeard bytes (field_hears next h.field).client own) (sym more.1)
          (hears_on (bytes_taken t.broker.limits.store t.broker.journal h.peer.label) next h.field.client own h.heard);
    }

taken_followed : (k : ℕ) (own : List Entry) (who : Whose) (t : TrialPlay) → IsFollowed k own t →
    IsFollowed k own (hears who (next_bytes (number_of who) t.broker) (with_entry (take_entry who t) t))
taken_followed k own whose.Method t h =
    let f = entry_followed k own (take_entry whose.Method t) t h
    (other_take t.broker.journal 1 (k + 2) (length (next_bytes 1 t.broker))
    h.peer h.joined (λ e. absurd (omega arith))) in
    record { field = f.field; is = f.is; peer = f.peer; joined = f.joined; within = f.within; heard = f.heard }
taken_followed k own (whose.Field j) t h = by (same_or_not j k)
  where
    by : (j ≡ k) ⊎ (j ≡ k → ⊥) →
        IsFollowed k own (hears (whose.Field j) (next_bytes (j + 2) t.broker)
        (with_entry (take_entry (whose.Field j) t) t))
    by (inl e) =
        subst (λ i. IsFollowed k own (hears (whose.Field i) (next_bytes (i + 2) t.broker)
        (with_entry (take_entry (whose.Field i) t) t))) (sym e) (own_taken k own t h)
    by (inr d) =
        other_changed j k (field_hears (next_bytes (j + 2) t.broker)) own (with_entry (take_entry (whose.Field j) t) t)
        d
        (entry_followed k own (take_entry (whose.Field j) t) t h
        (other_take t.broker.journal (j + 2) (k + 2) (length (next_bytes (j + 2) t.broker)) h.peer h.joined
        (λ e. d (omega arith))))

sent_followed : (k : ℕ) (own : List Entry) (who : Whose) (t : TrialPlay) → IsFollowed k own t →
    IsFollowed k own (sent who t)
sent_followed k own whose.Method t h =
    record { field = h.field; is = h.is; peer = h.peer; joined = h.joined; within = h.within; heard = h.heard }
sent_followed k own (whose.Field j) t h = by (same_or_not j k)
  where
    by : (j ≡ k) ⊎ (j ≡ k → ⊥) → IsFollowed k own (with_field j field_sent t)
    by (inl e) =
        subst (λ i. IsFollowed k own (with_field i field_sent t)) (sym e)
        (own_changed k field_sent own own t h
        (is_sent (bytes_taken t.broker.limits.store t.broker.journal h.peer.label) h.field.client own h.heard))
    by (inr d) = other_changed j k field_sent own t d h

pub followed : (k : ℕ) (own : List Entry) → IsKept (IsFollowed k own)
followed k own = record {
  saying = λ e t s f h. entry_followed k own e t h (spoken_takes e (speaks_spoken t e s) (past_of t.broker.journal)
      h.peer.label);
  taking = λ who t f h. taken_followed k own who t h;
  sending = λ who t h. sent_followed k own who t h;
}

-- ---- what users do

pub edit_followed : (k : ℕ) (own : List Entry) (edit : Entry) (t : TrialPlay) → IsFollowed k own t →
    IsFollowed k (own ++ edit ∷ []) (edits k edit t)
edit_followed k own edit t h =
    own_changed k (field_edits edit) own (own ++ edit ∷ []) t h
    (is_edited (bytes_taken t.broker.limits.store t.broker.journal h.peer.label) h.field.client own edit h.heard)

pub pause_followed : (j k : ℕ) (own : List Entry) (paused : Bool) (t : TrialPlay) → IsFollowed k own t →
    IsFollowed k own (pauses j paused t)
pause_followed j k own paused t h = by (same_or_not j k)
  where
    by : (j ≡ k) ⊎ (j ≡ k → ⊥) → IsFollowed k own (pauses j paused t)
    by (inl e) =
        subst (λ i. IsFollowed k own (pauses i paused t)) (sym e)
        (own_changed k (λ f. record f { is_paused = paused }) own own t h h.heard)
    by (inr d) = other_changed j k (λ f. record f { is_paused = paused }) own t d h
