use Rattle.std.proofs.Common.{rules, ◌≡◌, ◌∙◌, [], Result, Err, Some, None, length, refl, sym, ap, subst}
use Rattle.std.specs.Prelude.{Option, IfOk}
use Rattle.std.proofs.lemmas.List.Elements.{recursion_from_All}
use Rattle.trial_script.specs.Grammar.{IsAction}
use Rattle.broker_model.specs.Settle.{outer}
use Rattle.hub_lock.specs.Passes.{PassSeat, total_steps}
use Rattle.hub_lock.specs.declared.session.NoSession.{NoSession}
use Rattle.hub_lock.specs.declared.session.NoSession.TheVariants as sessions
use Rattle.hub_lock.specs.declared.session.Session.{Session}
use Rattle.hub_lock.specs.Calls.{LegalCopy}
use Rattle.trial_threads.specs.declared.stop.Stop.{Stop}
use Rattle.trial_threads.specs.declared.trial.ThreadTrial.{ThreadTrial}
use Rattle.trial_threads.specs.Users.{parts_of}
use Rattle.trial_threads.specs.Peers.{HaveJoined}
use Rattle.trial_threads.specs.Whole.{HavePlayed}
use Rattle.trial_threads.proofs.PeersBegin.{none_joined}
use Rattle.trial_threads.proofs.TrialTold.{is_whole, is_cut, never_many, never_bad}
use Rattle.trial_threads.proofs.NoBadEvents.{trials_hear_no_bad_event}
use Rattle.trial_threads.proofs.run.run_users.Goals as goal

pub returns-in-None : goal.returns-in-None
returns-in-None g c =
    let hub = c.in_ok-hub.hub in
    let u = c.args.users.now in
    let parts = parts_of u.fields u.first u.actions.now in
    let root = c.play-stopped.new.root in
    let rs = c.play-stopped.new.jobs.items in
    let t : ThreadTrial = record {
      logs = c.in_ok-logs.logs.fields;
      method_log = c.in_ok-logs.logs.method;
      session = c.in-Ok.session;
    } in
    is_whole hub c.args.typist parts root c.collect.new.root c.session.new.root rs t
    (c.in_ok-hub.ensures.limits ∙ c.trial_limits.ensures.value) c.in_ok-logs.ensures.back c.session.ensures.settled
    (subst (λ (r : Result Session NoSession). LegalCopy hub.limits c.collect.new.root c.session.new.root.seen r)
    c.in-Ok.is c.session.ensures.legal)
    c.session.ensures.root
    (λ e. subst (λ (r : Result Session NoSession). IfOk r (λ s.
    length (outer s.journal.entries) ≡ total_steps c.session.new.root)) c.in-Ok.is (c.session.ensures.steps e))
    (subst (λ (s : Option Stop). HavePlayed hub c.args.typist parts root rs s) c.in-None.is
    (c.play-stopped.ensures.played (subst (λ (s : PassSeat). HaveJoined s 0 []) (sym c.in_ok-hub.ensures.root)
    (none_joined _ refl refl refl refl))))

pub returns-in-Full : goal.returns-in-Full
returns-in-Full g c =
    let hub = c.in_ok-hub.hub in
    let u = c.args.users.now in
    let parts = parts_of u.fields u.first u.actions.now in
    let root = c.play-stopped.new.root in
    let rs = c.play-stopped.new.jobs.items in
    let t : ThreadTrial = record {
      logs = c.in_ok-logs.logs.fields;
      method_log = c.in_ok-logs.logs.method;
      session = c.in-Ok.session;
    } in
    is_cut hub c.args.typist parts root c.collect.new.root c.session.new.root rs t
    (c.in_ok-hub.ensures.limits ∙ c.trial_limits.ensures.value) c.in_ok-logs.ensures.back c.session.ensures.settled
    (subst (λ (r : Result Session NoSession). LegalCopy hub.limits c.collect.new.root c.session.new.root.seen r)
    c.in-Ok.is c.session.ensures.legal)
    c.session.ensures.root
    (λ e. subst (λ (r : Result Session NoSession). IfOk r (λ s.
    length (outer s.journal.entries) ≡ total_steps c.session.new.root)) c.in-Ok.is (c.session.ensures.steps e))
    c.in-Full.kept
    (subst (λ (s : Option Stop). HavePlayed hub c.args.typist parts root rs s) (c.in-Some.is ∙ ap (λ (why : Stop). Some why) c.in-Full.is)
    (c.play-stopped.ensures.played (subst (λ (s : PassSeat). HaveJoined s 0 []) (sym c.in_ok-hub.ensures.root)
    (none_joined _ refl refl refl refl))))

pub unreachable-requires-in-TooManyPeers : goal.unreachable-requires-in-TooManyPeers
unreachable-requires-in-TooManyPeers g c =
    let hub = c.in_ok-hub.hub in
    let u = c.args.users.now in
    let parts = parts_of u.fields u.first u.actions.now in
    let root = c.play-stopped.new.root in
    let rs = c.play-stopped.new.jobs.items in
    let t : ThreadTrial = record {
      logs = c.in_ok-logs.logs.fields;
      method_log = c.in_ok-logs.logs.method;
      session = c.in-Ok.session;
    } in
    never_many hub c.args.typist parts root c.collect.new.root c.session.new.root rs t
    (c.in_ok-hub.ensures.limits ∙ c.trial_limits.ensures.value) c.in_ok-logs.ensures.back c.session.ensures.settled
    (subst (λ (r : Result Session NoSession). LegalCopy hub.limits c.collect.new.root c.session.new.root.seen r)
    c.in-Ok.is c.session.ensures.legal)
    c.session.ensures.root
    (λ e. subst (λ (r : Result Session NoSession). IfOk r (λ s.
    length (outer s.journal.entries) ≡ total_steps c.session.new.root)) c.in-Ok.is (c.session.ensures.steps e))
    c.in-TooManyPeers.field-0
    (subst (λ (s : Option Stop). HavePlayed hub c.args.typist parts root rs s) (c.in-Some.is ∙ ap (λ (why : Stop). Some why) c.in-TooManyPeers.is)
    (c.play-stopped.ensures.played (subst (λ (s : PassSeat). HaveJoined s 0 []) (sym c.in_ok-hub.ensures.root)
    (none_joined _ refl refl refl refl))))

pub unreachable-requires-in-BadEvent : goal.unreachable-requires-in-BadEvent
unreachable-requires-in-BadEvent g c =
    let hub = c.in_ok-hub.hub in
    let u = c.args.users.now in
    let parts = parts_of u.fields u.first u.actions.now in
    let root = c.play-stopped.new.root in
    let rs = c.play-stopped.new.jobs.items in
    let t : ThreadTrial = record {
      logs = c.in_ok-logs.logs.fields;
      method_log = c.in_ok-logs.logs.method;
      session = c.in-Ok.session;
    } in
    never_bad hub c.args.typist parts root c.collect.new.root c.session.new.root rs t
    (c.in_ok-hub.ensures.limits ∙ c.trial_limits.ensures.value) c.in_ok-logs.ensures.back c.session.ensures.settled
    (subst (λ (r : Result Session NoSession). LegalCopy hub.limits c.collect.new.root c.session.new.root.seen r)
    c.in-Ok.is c.session.ensures.legal)
    c.session.ensures.root
    (λ e. subst (λ (r : Result Session NoSession). IfOk r (λ s.
    length (outer s.journal.entries) ≡ total_steps c.session.new.root)) c.in-Ok.is (c.session.ensures.steps e))
    (trials_hear_no_bad_event c.args.typist u.fields u.first u.actions.now t c.requires.fresh
    (recursion_from_All IsAction u.actions.now c.requires.actions))
    (subst (λ (s : Option Stop). HavePlayed hub c.args.typist parts root rs s) (c.in-Some.is ∙ ap (λ (why : Stop). Some why) c.in-BadEvent.is)
    (c.play-stopped.ensures.played (subst (λ (s : PassSeat). HaveJoined s 0 []) (sym c.in_ok-hub.ensures.root)
    (none_joined _ refl refl refl refl))))

-- nobody was named to record
pub unreachable-requires : goal.unreachable-requires
unreachable-requires g c =
    let refused : c.session.result ≡ Err sessions.HandedOut = search rules in
    c.session.ensures.unhanded
    (c.in_ok-logs.ensures.back.sees.named ∙ c.play-stopped.ensures.named
    ∙ ap (λ (s : PassSeat). s.named) c.in_ok-hub.ensures.root) refused
