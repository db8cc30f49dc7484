-- A field's job after one more of its own edits
use Rattle.std.proofs.Common.{◌≡◌, ℕ, ◌+◌, ◌<◌, Bool, true, false, List, [], ◌∷◌, ◌++◌, length, refl, sym, ap, subst, ◌∙◌}
use Rattle.std.specs.Prelude.{slice_index_or}
use Rattle.broker_steps.specs.declared.limits.Limits.{Limits}
use Rattle.trial_field.specs.Log.{Entry}
use Rattle.trial_script.specs.declared.action.FieldEdit.{FieldEdit}
use Rattle.client_side.specs.Client.{Client}
use Rattle.client_side.specs.FieldState.{State, happens, HasLog}
use Rattle.client_side.specs.Happenings.{Happening, edited}
use Rattle.client_side.specs.Messages.{Sent}
use Rattle.trial_client_logs.specs.declared.entry.FieldEntry.{FieldEntry}
use Rattle.trial_client_logs.specs.declared.entry.FieldEntry.TheVariants as entries
use Rattle.trial_client_logs.specs.Logs.{edit_of, happening_of, field_log}
use Rattle.trial_typing.specs.declared.field_job.FieldJob.{FieldJob}
use Rattle.trial_typing.specs.FieldGoing.{FieldKeeps, IsFieldGoing, IsFieldAt}
use Rattle.trial_typing.specs.FieldLaw.{first_edits, IsFieldCut}
use Rattle.trial_typing.specs.Sending.{IsOver}
use Rattle.trial_typing.proofs.FieldDone.{one_edit}
use Rattle.trial_typing.proofs.FieldGoesOn.{edits_more, edits_cut}
use Rattle.trial_typing.proofs.FieldKept.{heard_kept}

-- a log with one entry more
pushed : (log : List FieldEntry) (e : FieldEntry) → field_log (log ++ e ∷ []) ≡ happening_of e ∷ field_log log
pushed [] e = refl
pushed (x ∷ log) e = ap (λ (r : List Happening). r ++ happening_of x ∷ []) (pushed log e)

module _ (limits : Limits) (job : FieldJob) (i : ℕ) (x : FieldEdit) (lt : i < length job.edits)
    (is : x ≡ slice_index_or job.edits i x) (waits : List Sent)
    (h : IsFieldGoing limits job (first_edits job i) waits) where
  -- it isn't made, or not written down
  pub not_made : (client : Client State) → IsFieldCut limits (record job { client = client }) (first_edits job (i + 1))
  not_made client =
      subst (λ (own : List Entry). IsFieldCut limits (record job { client = client }) own)
      (one_edit job.edits i x lt is)
      (edits_cut limits job client (first_edits job i) waits (edit_of x) h)

  pub not_written : (client : Client State) (log : List FieldEntry) → log ≡ job.log →
      IsFieldCut limits (record job { client = client; log = log }) (first_edits job (i + 1))
  not_written client log same =
      subst (λ (l : List FieldEntry). IsFieldCut limits (record job { client = client; log = l })
      (first_edits job (i + 1)))
      (sym same) (not_made client)

  -- it is
  pub is_made : (client : Client State) (log : List FieldEntry) (copy : FieldEdit) (seen : Entry) → seen ≡ edit_of x →
      copy ≡ x → client ≡ record job.client { state = happens (edited seen) job.client.state } →
      log ≡ job.log ++ entries.Own copy ∷ [] →
      ((l : List Happening) (sent : List ℕ) → HasLog l sent job.client.state →
      HasLog (edited seen ∷ l) sent client.state) →
      (now : List Sent) × IsFieldGoing limits (record job { client = client; log = log }) (first_edits job (i + 1)) now
  is_made client log copy seen value same made to has =
      let k = edits_more limits job client log (first_edits job i) waits (edit_of x)
      (subst (λ (e : Entry). client ≡ record job.client { state = happens (edited e) job.client.state }) value made)
      (ap field_log to ∙ pushed job.log (entries.Own copy)
      ∙ ap (λ (e : FieldEdit). edited (edit_of e) ∷ field_log job.log) same)
      (λ l sent k. subst (λ (e : Entry). HasLog (edited e ∷ l) sent client.state) value (has l sent k)) h in (
        k.0,
        subst (λ (own : List Entry). IsFieldGoing limits (record job { client = client; log = log }) own k.0)
            (one_edit job.edits i x lt is) k.1,
      )

-- ---- and what follows it

pub going_at : (limits : Limits) (job : FieldJob) (own : List Entry) (goes_on : Bool) →
    IsFieldAt limits job own goes_on → (waits : List Sent) × IsFieldGoing limits job own waits
going_at limits job own true h = ([], h)
going_at limits job own false h = h.0

pub edited_kept : (limits : Limits) (job now : FieldJob) →
    now ≡ record job { client = now.client; log = now.log } → FieldKeeps limits job now
edited_kept limits job now is =
    subst (λ (j : FieldJob). FieldKeeps limits job j) (sym is) (heard_kept limits job now.client now.log)

pub edited_over : (limits : Limits) (job now : FieldJob) (own all : List Entry) (goes_on : Bool) →
    now ≡ record job { client = now.client; log = now.log } → goes_on ≡ false → IsFieldAt limits job own goes_on →
    ((waits : List Sent) × IsFieldGoing limits now all waits) → IsFieldAt limits now all false
edited_over limits job now own all true is over h k = absurd (let no : true ≡ false = over in cc)
edited_over limits job now own all false is over h k =
    (k, subst (λ (j : FieldJob). IsOver limits j.reader j.writer) (sym is) h.1)
