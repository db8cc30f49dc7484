-- The method's job after one more of its own batches
use Rattle.std.proofs.Common.{◌≡◌, ℕ, ◌+◌, ◌<◌, ◌≤◌, Bool, List, [], ◌∷◌, ◌++◌, length, map, take, sym, ap, subst, ◌∙◌, arith, append-nil}
use Rattle.std.specs.Prelude.{slice_index_or, All}
use Rattle.std.proofs.lemmas.List.{take_more, take_all, map-append}
use Rattle.std.proofs.lemmas.List.Elements.{All-get_or}
use Rattle.trial_script.specs.Grammar.{AreEdits}
use Rattle.broker_steps.specs.declared.limits.Limits.{Limits}
use Rattle.trial_field.specs.Log.{Batch}
use Rattle.trial_script.specs.declared.action.Edits.{Edits}
use Rattle.client_side.specs.Client.{Client}
use Rattle.client_side.specs.MethodLog.{Happening, committed, sent_for}
use Rattle.client_side.specs.MethodState.{State, happens}
use Rattle.client_side.specs.Messages.{Sent}
use Rattle.trial_client_logs.specs.declared.method_log.MethodEntry.{MethodEntry}
use Rattle.trial_client_logs.specs.declared.method_log.MethodEntry.TheVariants as entries
use Rattle.trial_client_logs.specs.Logs.{batch_of, FitsMessages}
use Rattle.trial_client_logs.specs.MethodLogs.{method_log}
use Rattle.hub_calls.specs.Taken.{HasTaken}
use Rattle.trial_run.specs.Typists.{meanings_of}
use Rattle.trial_run.specs.declared.typist.TrialTypist.{TrialTypist}
use Rattle.trial_jobs.specs.declared.method_job.MethodJob.{MethodJob}
use Rattle.trial_laws.specs.TypedLogs.{events_of, batches_of}
use Rattle.trial_jobs.specs.MethodAsked.{IsAsked}
use Rattle.trial_jobs.specs.MethodHearing.{HasShort}
use Rattle.trial_jobs.specs.MethodLaw.{first_batches, IsMethodCut}
use Rattle.trial_jobs.specs.MethodGoing.{IsMethodGoing}
use Rattle.trial_jobs.proofs.MethodAskedOn.{asked_one}
use Rattle.trial_jobs.proofs.MethodLogs.{pushed}
use Rattle.trial_jobs.proofs.MethodHeard.{all_first}
use Rattle.trial_jobs.proofs.MethodGoesOn.{asked_front}

-- one more batch
pub one_batch : (batches : List Edits) (i : ℕ) (x : Edits) → i < length batches → x ≡ slice_index_or batches i x →
    map batch_of (take i batches) ++ batch_of x ∷ [] ≡ map batch_of (take (i + 1) batches)
one_batch batches i x lt is =
    sym (ap (map batch_of) (take_more batches i x lt ∙ ap (λ (y : Edits). take i batches ++ y ∷ []) (sym is))
    ∙ map-append batch_of (take i batches) (x ∷ []))

-- its texts fit messages
pub fits_at : (batches : List Edits) (i : ℕ) (x : Edits) → All AreEdits batches → i < length batches →
    x ≡ slice_index_or batches i x → FitsMessages x
fits_at batches i x each lt is =
    let e = All-get_or AreEdits batches i x lt each in subst FitsMessages (sym is) (e.string.1, e.preedit.1)

-- there is none
pub none_more : (job : MethodJob) (i : ℕ) → length job.batches ≤ i → first_batches job i ≡ first_batches job (i + 1)
none_more job i le =
    ap (map batch_of) (take_all i job.batches le ∙ sym (take_all (i + 1) job.batches (omega (arith, le))))

module _ (limits : Limits) (typist : TrialTypist) (job : MethodJob) (i : ℕ) (x : Edits) (lt : i < length job.batches)
    (is : x ≡ slice_index_or job.batches i x) (waits : List Sent)
    (quiet : Bool) (h : IsMethodGoing limits typist job (first_batches job i) waits quiet) where
  abbrev past : List Happening
  past = method_log job.log

  -- it isn't committed, or not written down
  pub not_made : (client : Client (State TrialTypist)) →
      IsMethodCut limits typist (record job { client = client }) (first_batches job (i + 1))
  not_made client =
      let f = all_first h.taken job.client past (first_batches job i) h.heard in record {
        own-is = record {
          rest = batch_of x ∷ [];
          is = sym (one_batch job.batches i x lt is)
              ∙ ap (λ (l : List Batch). l ++ batch_of x ∷ []) (sym h.heard.own-is);
        };
        taken = h.taken;
        took = subst (λ (bytes : List ℕ). HasTaken limits job.writer bytes) (append-nil h.taken) h.took;
        events = f.events;
        read = f.begins;
        told = f.told;
        sent = asked_front limits typist job (first_batches job i) waits [] quiet h;
      }

  pub not_written : (client : Client (State TrialTypist)) (log : List MethodEntry) → log ≡ job.log →
      IsMethodCut limits typist (record job { client = client; log = log }) (first_batches job (i + 1))
  not_written client log same =
      subst
      (λ (l : List MethodEntry).
      IsMethodCut limits typist (record job { client = client; log = l }) (first_batches job (i + 1)))
      (sym same) (not_made client)

  -- it is
  pub is_made : (client : Client (State TrialTypist)) (log : List MethodEntry) (copy : Edits) (seen : Batch) →
      seen ≡ batch_of x → copy ≡ x → FitsMessages x →
      client ≡ record job.client { state = happens meanings_of (committed seen) job.client.state } →
      log ≡ job.log ++ entries.Batch copy ∷ [] →
      (now : List Sent)
      × IsMethodGoing limits typist (record job { client = client; log = log }) (first_batches job (i + 1)) now quiet
  is_made client log copy seen value same fits made to =
      let b : Batch = batch_of x in
      let is-log : method_log log ≡ committed b ∷ past =
      ap method_log to ∙ pushed job.log (entries.Batch copy)
      ∙ ap (λ (e : Edits). committed (batch_of e) ∷ past) same in
      let all = asked_one typist (committed b) job.client.state past h.sents waits h.asked in
      let more : List Sent = waits ++ sent_for meanings_of (committed b) job.client.state.typist in (
        more,
        subst
            (λ (c : Client (State TrialTypist)). IsMethodGoing limits typist (record job { client = c; log = log })
            (first_batches job (i + 1)) more quiet)
            (sym (subst
            (λ (e : Batch). client ≡ record job.client { state = happens meanings_of (committed e) job.client.state })
            value made))
            (record {
              taken = h.taken;
              took = h.took;
              heard = record {
                events = h.heard.events;
                messages = h.heard.messages;
                are = h.heard.are;
                front = h.heard.front;
                part = h.heard.part;
                good = h.heard.good;
                told = ap events_of is-log ∙ h.heard.told;
                own-is = ap batches_of is-log ∙ ap (λ (l : List Batch). l ++ b ∷ []) h.heard.own-is
                    ∙ one_batch job.batches i x lt is;
              };
              sents = h.sents;
              asked = subst
                  (λ (l : List Happening). IsAsked typist (happens meanings_of (committed b) job.client.state) l h.sents
                  more)
                  (sym is-log) all;
              made = h.made;
              short = subst HasShort (sym is-log) (fits, h.short);
              fresh = h.fresh;
              rests = h.rests;
            }),
      )
