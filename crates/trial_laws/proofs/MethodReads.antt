-- The method's client reads all that its peer is told.
use Rattle.std.proofs.Common.{◌≡◌, ℕ, ◌+◌, Bool, true, false, List, [], ◌∷◌, ◌++◌, length, take, drop, refl, sym, ap, subst, ◌∙◌, arith, append_assoc, length-append}
use Rattle.std.specs.List.{AllByRecursion}
use Rattle.std.proofs.lemmas.List.{append-nil, take-append-drop}
use Rattle.std.proofs.lemmas.Bool.{ne_eqb}
use Rattle.std.proofs.lemmas.Option.{same_Some}
use Rattle.broker_steps.specs.declared.limits.Limits.{Limits}
use Rattle.broker_steps.specs.Ranges.{IsLimits}
use Rattle.broker_steps.specs.declared.step.ShellStep.{ShellStep}
use Rattle.broker_steps.specs.declared.step.ShellStep.TheVariants as shell
use Rattle.wl_wire.specs.Messages.{messages, joined}
use Rattle.wl_proto.specs.declared.interface.Interface.TheVariants as interface
use Rattle.wl_proto.specs.declared.event.Event.{Event}
use Rattle.wl_proto.specs.declared.event.Event.TheVariants as events
use Rattle.wl_proto.specs.Rows.{Message, message}
use Rattle.wl_proto.specs.Spelling.{message_bytes}
use Rattle.trial_field.specs.Log.{Batch}
use Rattle.client_side.specs.Client.{Client}
use Rattle.client_side.specs.Messages.{Sent}
use Rattle.client_side.specs.MethodLog.{Happening}
use Rattle.client_side.specs.MethodState.{State}
use Rattle.trial_script.specs.declared.script.Script.{Script}
use Rattle.broker_model.specs.declared.journal.Entry.{Entry}
use Rattle.broker_model.specs.declared.journal.Entry.TheVariants as entries
use Rattle.broker_model.specs.Ids.{Made, Joined}
use Rattle.broker_model.specs.Out.{Outgoing, out_for}
use Rattle.broker_model.specs.Resolve.{past_of}
use Rattle.broker_core.proofs.ActTextsFit.{IsBodyShort}
use Rattle.trial_run.specs.declared.typist.TrialTypist.{TrialTypist}
use Rattle.trial_run.specs.Ran.{Ran, went}
use Rattle.trial_run.specs.Play.{TrialPlay}
use Rattle.trial_run.specs.Trial.{typist_of, trial_played}
use Rattle.trial_run.proofs.FirstMessages.{found_first}
use Rattle.broker_telling.specs.Sayable.{IsShellSayable, IsHeld, AreHeld, HasBytes, AreBytes}
use Rattle.broker_telling.proofs.WritableRead.{writable_read}
use Rattle.trial_laws.specs.FieldLogs.{bytes_taken}
use Rattle.trial_laws.specs.RelayedAsBatches.{IsOfBytes}
use Rattle.trial_laws.proofs.BatchesRelayed.{AreShortBodies}
use Rattle.trial_laws.proofs.BytesKept.{messages_are_bytes}
use Rattle.trial_laws.proofs.PhasesKeep.{trial_keeps}
use Rattle.trial_laws.proofs.TakesCount.{IsWithin, within}
use Rattle.trial_laws.proofs.TextsFolded.{limits_same}
use Rattle.trial_laws.proofs.TextsRelayed.{trial_short}
use Rattle.trial_laws.specs.TypedLogs.{own_batches, steps_of, requests_of, events_in}
use Rattle.trial_laws.specs.MethodLaws.{MethodHearsWhatIsTold}
use Rattle.trial_laws.specs.ToldEvents.{events_told}
use Rattle.trial_laws.proofs.MethodHears.{HasTyped}
use Rattle.trial_laws.proofs.MethodIds.{AreKnown, requests_safe, known_steps, all_known}
use Rattle.trial_laws.proofs.MethodLogged.{trial_typed}
use Rattle.trial_laws.proofs.ToldHeard.{object_hears, heard_whole, heard_then, IsSaid, SpellsAll, put_heard, spelled_events}
use Rattle.trial_laws.proofs.TrialSteps.{IsOfShell, HasShell, IsOfTrial}

-- ---- the journal

shell_sayable : (step : ShellStep) → IsOfShell step → IsShellSayable step
shell_sayable (shell.Focus q id) h = tt
shell_sayable shell.Unfocus h = tt
shell_sayable (shell.Key time key state) h = h
shell_sayable _ h = absurd h

entry_held : (e : Entry) → HasBytes e → IsBodyShort e → HasShell e → IsHeld e
entry_held (entries.Message q id opcode body) bytes short h = (bytes, short)
entry_held (entries.Shell step) bytes short h = shell_sayable step h
entry_held _ bytes short h = tt

all_held : (journal : List Entry) → AreBytes journal → AreShortBodies journal → AllByRecursion HasShell journal →
    AreHeld journal
all_held [] bytes short h = tt
all_held (e ∷ older) bytes short h =
    (entry_held e bytes.0 short.0 h.0, all_held older bytes.1 short.1 h.1)

-- ---- the client

-- a message that the client hears
abbrev activate : Message
activate = message interface.InputMethod 0 []

abbrev method_object : Made
method_object = record { peer = 0; id = 5; label = 0; interface = interface.InputMethod }

some_heard : SpellsAll (joined (message_bytes 5 activate ∷ [])) (events.Activate ∷ [])
some_heard = record {
  messages = message_bytes 5 activate ∷ [];
  is = refl;
  heard = object_hears method_object activate refl
      (writable_read method_object activate (omega arith)
      (record { row = []; is = refl; kinds = tt; opcode = omega arith; size = omega arith }) refl)
      (tt, tt);
}

-- who took a front of what is heard heard all of that
reads_all : (put : List ℕ) (n : ℕ) (all : List Event) (first : TrialTypist) (own : List Batch)
    (base : List Happening) (sent : List Sent) (c : Client (State TrialTypist)) → SpellsAll put all →
    HasTyped first own base (take n put) sent c → c.is_bad ≡ false
reads_all put n all first own base sent c r h = by c.is_bad refl
  where
    x : List ℕ
    x = joined (message_bytes 5 activate ∷ [])

    by : (b : Bool) → c.is_bad ≡ b → b ≡ false
    by false e = refl
    by true e =
        let told : events_in (messages put) ≡ events_in (messages (take n put)) =
        ap (λ (l : List ℕ). events_in (messages l)) (sym (take-append-drop n put)) ∙ h.stuck e (drop n put) in
        let more : events_in (messages (put ++ x)) ≡ events_in (messages (take n put)) =
        ap (λ (l : List ℕ). events_in (messages (l ++ x))) (sym (take-append-drop n put))
        ∙ ap (λ (l : List ℕ). events_in (messages l)) (append_assoc (take n put) (drop n put) x)
        ∙ h.stuck e (drop n put ++ x) in
        let parts : events_in (messages (put ++ x)) ≡ all ++ events_in (messages x) =
        ap (λ (l : List ℕ). events_in (messages (l ++ x))) r.is
        ∙ ap events_in (found_first r.messages x (heard_whole r.messages all r.heard))
        ∙ heard_then r.messages all (messages x) r.heard in
        let longer : length (all ++ events_in (messages x)) ≡ length all =
        ap length (sym parts ∙ more ∙ sym told ∙ spelled_events put all r) in
        let sum : length (all ++ events_in (messages x)) ≡ length all + length (events_in (messages x)) =
        length-append all (events_in (messages x)) in
        let some : length (events_in (messages x)) ≡ 1 =
        ap length (spelled_events x (events.Activate ∷ []) some_heard) in
        absurd (omega arith)

-- ---- the whole

-- the journal of a trial can be held
journal_said : (limits : Limits) (script : Script) (t : TrialPlay) → IsLimits limits → IsOfBytes script →
    trial_played limits script ≡ went t → IsOfTrial t.broker.journal → IsSaid t.broker.journal
journal_said limits script t lawful texts e h =
    let bytes : AreBytes t.broker.journal =
    subst (λ (r : Ran TrialPlay). AreBytes r.now.broker.journal) e (messages_are_bytes limits script texts) in
    let short : AreShortBodies t.broker.journal =
    subst (λ (r : Ran TrialPlay). AreShortBodies r.now.broker.journal) e (trial_short limits script) in
    let counted : IsWithin limits.entries t.broker =
    subst (λ (r : Ran TrialPlay). IsWithin limits.entries r.now.broker) e
    (trial_keeps (λ u. IsWithin limits.entries u.broker) (within limits.entries) limits script (refl, omega arith)) in
    record {
      held = all_held t.broker.journal bytes short h.shells;
      shells = h.shells;
      few =
          (let fewer = h.few in
          let count = counted.1 in
          let most = lawful.0.1 in
          omega arith);
    }

pub method_hears_what_is_told : MethodHearsWhatIsTold
method_hears_what_is_told limits script t peer lawful some w texts e joined =
    let first : TrialTypist = typist_of script in
    let own : List Batch = own_batches script.actions in
    let at = (trial_typed limits script t (ne_eqb script.fields 0 (λ z. absurd (omega arith))) w e).1 in
    let h = at.idle in
    let journal : List Entry = t.broker.journal in
    let limited : t.broker.limits ≡ limits =
    subst (λ (r : Ran TrialPlay). r.now.broker.limits ≡ limits) e (limits_same limits script) in
    let same : h.peer ≡ peer = same_Some h.peer peer (sym h.did.joined ∙ joined) in
    let sent : h.sent ≡ requests_of first h.typed.log =
    sym (h.typed.is.all ∙ ap (λ (l : List Sent). h.sent ++ l) h.none ∙ append-nil h.sent) in
    let front = h.did.said.front in
    let known : AreKnown (past_of journal).made peer.label =
    subst (λ (x : Joined). AreKnown (past_of journal).made x.label) same
    (all_known journal h.peer h.did.joined
    (known_steps journal front.rest (requests_of first h.typed.log) (front.is ∙ ap (steps_of 1) sent)
    (requests_safe first h.typed.log))) in
    let out : Outgoing = out_for limits.store journal peer.label in
    let put : SpellsAll out.put.bytes (events_told limits.store journal peer.label) =
    put_heard limits.store journal peer.label known (journal_said limits script t lawful texts e h.did.steps) in
    let took : h.bytes ≡ take out.taken out.put.bytes =
    sym h.did.taken ∙ ap (λ (l : Limits). bytes_taken l.store journal h.peer.label) limited
    ∙ ap (λ (x : Joined). bytes_taken limits.store journal x.label) same in
    let heard : HasTyped first own at.base (take out.taken out.put.bytes) h.sent t.method =
    subst (λ (b : List ℕ). HasTyped first own at.base b h.sent t.method) took h.typed in
    record {
      told = spelled_events out.put.bytes (events_told limits.store journal peer.label) put;
      read = reads_all out.put.bytes out.taken (events_told limits.store journal peer.label)
          first own at.base h.sent t.method put heard;
    }
