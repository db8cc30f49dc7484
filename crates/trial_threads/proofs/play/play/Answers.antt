use Rattle.std.proofs.Common.{◌≡◌, ◌∙◌, List, Some, length, subst, sym, ap}
use Rattle.trial_threads.specs.declared.running.Running.{Running}
use Rattle.trial_threads.specs.declared.stop.Stop.{Stop}
use Rattle.std.specs.Prelude.{Option}
use Rattle.trial_threads.specs.Users.{parts_of}
use Rattle.trial_threads.specs.Jobs.{AreJobsOf, TypeAs}
use Rattle.trial_threads.specs.BegunJobs.{HaveBegun}
use Rattle.trial_threads.specs.Stops.{first_stop_in}
use Rattle.trial_threads.specs.Peers.{AllJoined}
use Rattle.trial_threads.specs.Whole.{HavePlayed}
use Rattle.trial_threads.proofs.JobsListed as listed
use Rattle.trial_threads.proofs.JobsPlayed.{idle_of, played_first, played_all}
use Rattle.trial_threads.proofs.play.play.Goals as goal

pub returns-in-Err-clause-played : goal.returns-in-Err-clause-played
returns-in-Err-clause-played g c h =
    let u = c.args.users.now in
    let parts = parts_of u.fields u.first u.actions.now in
    subst (λ (s : Stop). HavePlayed c.args.hub.now c.args.typist parts c.begin_jobs.new.root
    c.begin_jobs.new.jobs.items (Some s)) (sym c.stop_of_begin.ensures)
    (played_first c.args.hub.now c.args.typist parts c.begin_jobs.new.root c.begin_jobs.new.jobs.items
    c.in-Err.why c.begin_jobs.ensures.idle (c.in-Err.ensures.unbegun h))

pub returns-in-Err-clause-of : goal.returns-in-Err-clause-of
returns-in-Err-clause-of g c = idle_of c.args.hub.now c.begin_jobs.new.jobs.items c.begin_jobs.ensures.idle

pub returns-clause-of : goal.returns-clause-of
returns-clause-of g c =
    let items = c.begin_jobs.new.jobs.items in
    let at : c.deref_mut.result.now ≡ items = c.deref_mut.ensures.value in
    let count : c.begin_jobs.new.jobs.len ≡ length items = sym c.deref_mut.ensures.len ∙ ap length at in
    let same = listed.written c.begin_jobs.new.jobs.len items c.run_all.new.jobs count
    (c.run_all.ensures.length ∙ ap length at) in
    let d = c.run_all.ensures.drained c.args.typist
    (subst (λ (l : List Running). TypeAs c.args.typist l) (sym at) c.in_default.ensures.all.types) in
    subst (λ (l : List Running). AreJobsOf c.args.hub.now l) (sym same)
    (listed.run_of c.args.hub.now c.args.typist c.run_all.new.jobs d.run)

pub returns-clause-played : goal.returns-clause-played
returns-clause-played g c h =
    let u = c.args.users.now in
    let parts = parts_of u.fields u.first u.actions.now in
    let items = c.begin_jobs.new.jobs.items in
    let root = c.begin_jobs.new.root in
    let at : c.deref_mut.result.now ≡ items = c.deref_mut.ensures.value in
    let count : c.begin_jobs.new.jobs.len ≡ length items = sym c.deref_mut.ensures.len ∙ ap length at in
    let same = listed.written c.begin_jobs.new.jobs.len items c.run_all.new.jobs count
    (c.run_all.ensures.length ∙ ap length at) in
    let have = subst (λ (l : List Running). HaveBegun c.args.hub.now c.args.typist parts l) (sym at)
    c.in_default.ensures.all in
    let joined = subst (λ (l : List Running). AllJoined root l) (sym at) (c.in_default.ensures.joined h) in
    let d = c.run_all.ensures.drained c.args.typist have.types in
    let stop : c.first_stop.result ≡ first_stop_in c.run_all.new.jobs =
    c.first_stop.ensures ∙ ap first_stop_in (c.deref.ensures.value ∙ same) in
    subst (λ (l : List Running). HavePlayed c.args.hub.now c.args.typist parts root l c.first_stop.result) (sym same)
    (subst (λ (s : Option Stop). HavePlayed c.args.hub.now c.args.typist parts root c.run_all.new.jobs s) (sym stop)
    (played_all c.args.hub.now c.args.typist parts root c.deref_mut.result.now c.run_all.new.jobs have d joined))
