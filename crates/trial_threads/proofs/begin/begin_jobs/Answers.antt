use Rattle.std.proofs.Common.{◌≡◌, ◌≤◌, ◌++◌, [], ◌∷◌, List, length, subst, sym, ap, ◌∙◌, arith, length-append}
use Rattle.std.proofs.lemmas.Result.{err_from_is_err_and}
use Rattle.hub_lock.specs.Passes.{HubId, PassSeat}
use Rattle.trial_run.specs.declared.typist.TrialTypist.{TrialTypist}
use Rattle.trial_threads.specs.declared.running.Running.{Running}
use Rattle.trial_threads.specs.Users.{Part, of_method, of_shell, batches_in, orders_in, fields_from, parts_of}
use Rattle.trial_threads.specs.Jobs.{AreIdle}
use Rattle.trial_threads.specs.BegunJobs.{HaveBegun, IsPut}
use Rattle.trial_threads.specs.Peers.{HaveJoined, AllJoined}
use Rattle.trial_threads.proofs.JobsBegun.{have_none, have_more}
use Rattle.trial_threads.proofs.begin.begin_jobs.Goals as goal

-- the method's job, which is the first
one : (hub : HubId) (typist : TrialTypist) (part : Part) (before after : List Running) → before ≡ [] →
    IsPut hub typist part before after → HaveBegun hub typist (part ∷ []) after
one hub typist part before after none put =
    have_more hub typist [] part before after
    (subst (λ (rs : List Running). HaveBegun hub typist [] rs) (sym none) (have_none hub typist)) put

-- the root has joined none, and there are no jobs
started : (root : PassSeat) (rs : List Running) → rs ≡ [] → HaveJoined root 0 [] → HaveJoined root (length rs) rs
started root rs none h = subst (λ (l : List Running). HaveJoined root (length l) l) (sym none) h

pub put_method-requires-clause-own : goal.put_method-requires-clause-own
put_method-requires-clause-own g c = c.requires.own

pub put_method-requires-clause-room : goal.put_method-requires-clause-room
put_method-requires-clause-room g c = omega (arith, c.requires.first)

pub put_method-requires-clause-fresh : goal.put_method-requires-clause-fresh
put_method-requires-clause-fresh g c = c.requires.fresh

pub put_method-requires-clause-actions : goal.put_method-requires-clause-actions
put_method-requires-clause-actions g c = c.requires.actions

pub returns-in_err-put_method-clause-own : goal.returns-in_err-put_method-clause-own
returns-in_err-put_method-clause-own g c = c.put_method.ensures.own

pub returns-in_err-put_method-clause-idle : goal.returns-in_err-put_method-clause-idle
returns-in_err-put_method-clause-idle g c =
    subst (λ (rs : List Running). AreIdle c.args.hub.now rs)
    (sym (c.in_err-put_method.ensures.err ∙ c.requires.none)) tt

pub returns-in_err-put_method-clause-unbegun : goal.returns-in_err-put_method-clause-unbegun
returns-in_err-put_method-clause-unbegun g c =
    let p = err_from_is_err_and c.from_residual.result c.from_residual.ensures.1 in
    let none = c.requires.none in
    rw (p.1, p.2)
    (λ h. c.in_err-put_method.ensures.unbegun (started c.args.root.now c.args.jobs.now.items none h)
    (let l = ap length none in omega arith))

pub put_fields-requires-clause-own : goal.put_fields-requires-clause-own
put_fields-requires-clause-own g c = c.put_method.ensures.own

pub put_fields-requires-clause-room : goal.put_fields-requires-clause-room
put_fields-requires-clause-room g c = omega (arith, c.requires.first, c.in_ok-put_method.ensures.next)

pub put_fields-requires-clause-few : goal.put_fields-requires-clause-few
put_fields-requires-clause-few g c = c.requires.few

pub put_fields-requires-clause-actions : goal.put_fields-requires-clause-actions
put_fields-requires-clause-actions g c = c.requires.actions

pub returns-in_err-put_fields-clause-own : goal.returns-in_err-put_fields-clause-own
returns-in_err-put_fields-clause-own g c = c.put_fields.ensures.own

pub returns-in_err-put_fields-clause-idle : goal.returns-in_err-put_fields-clause-idle
returns-in_err-put_fields-clause-idle g c =
    let method = of_method (batches_in c.args.users.now.actions.now) in
    c.put_fields.ensures.idle c.args.typist (method ∷ [])
    (one c.args.hub.now c.args.typist method c.args.jobs.now.items c.put_method.new.jobs.items c.requires.none
    c.in_ok-put_method.ensures.put)

pub returns-in_err-put_fields-clause-unbegun : goal.returns-in_err-put_fields-clause-unbegun
returns-in_err-put_fields-clause-unbegun g c =
    let p = err_from_is_err_and c.from_residual-in_err-put_fields.result c.from_residual-in_err-put_fields.ensures.1 in
    let none = c.requires.none in
    let m = c.in_ok-put_method.ensures in
    rw (p.1, p.2)
    (λ h. c.in_err-put_fields.ensures.unbegun
    (m.joined (started c.args.root.now c.args.jobs.now.items none h))
    (let l = ap length none in let one = m.one in omega arith))

pub returns-in_err-put_shell-clause-unbegun : goal.returns-in_err-put_shell-clause-unbegun
returns-in_err-put_shell-clause-unbegun g c =
    let p = err_from_is_err_and c.from_residual-in_err-put_shell.result c.from_residual-in_err-put_shell.ensures.1 in rw (p.1, p.2) (λ h. tt)

pub put_shell-requires-clause-own : goal.put_shell-requires-clause-own
put_shell-requires-clause-own g c = c.put_fields.ensures.own

pub put_shell-requires-clause-room : goal.put_shell-requires-clause-room
put_shell-requires-clause-room g c = omega (arith, c.in_ok-put_fields.ensures.next)

pub put_shell-requires-clause-actions : goal.put_shell-requires-clause-actions
put_shell-requires-clause-actions g c = c.requires.actions

pub returns-in_err-put_shell-clause-own : goal.returns-in_err-put_shell-clause-own
returns-in_err-put_shell-clause-own g c = c.put_shell.ensures.own

pub returns-in_err-put_shell-clause-idle : goal.returns-in_err-put_shell-clause-idle
returns-in_err-put_shell-clause-idle g c =
    let method = of_method (batches_in c.args.users.now.actions.now) in
    subst (λ (rs : List Running). AreIdle c.args.hub.now rs) (sym c.in_err-put_shell.ensures.err)
    (c.put_fields.ensures.idle c.args.typist (method ∷ [])
    (one c.args.hub.now c.args.typist method c.args.jobs.now.items c.put_method.new.jobs.items c.requires.none
    c.in_ok-put_method.ensures.put))

pub returns-clause-own : goal.returns-clause-own
returns-clause-own g c = c.put_shell.ensures.own

pub returns-clause-all : goal.returns-clause-all
returns-clause-all g c =
    let u = c.args.users.now in
    let method = of_method (batches_in u.actions.now) in
    let have = c.in_ok-put_fields.ensures.all c.args.typist (method ∷ [])
    (one c.args.hub.now c.args.typist method c.args.jobs.now.items c.put_method.new.jobs.items c.requires.none
    c.in_ok-put_method.ensures.put) in
    have_more c.args.hub.now c.args.typist (method ∷ fields_from 1 u.fields u.actions.now)
    (of_shell (orders_in u.first u.actions.now)) c.put_fields.new.jobs.items c.put_shell.new.jobs.items have
    (c.in_ok-put_shell.ensures.put c.args.typist)

pub returns-clause-idle : goal.returns-clause-idle
returns-clause-idle g c = (returns-clause-all g c).idle

pub returns-clause-joined : goal.returns-clause-joined
returns-clause-joined g c h =
    let start = started c.args.root.now c.args.jobs.now.items c.requires.none h in
    let n = length c.put_fields.new.jobs.items in record {
      count = n;
      joined = c.in_ok-put_shell.ensures.joined n
          (c.in_ok-put_fields.ensures.joined (c.in_ok-put_method.ensures.joined start));
      some = subst (λ (rs : List Running). 1 ≤ length rs)
          (sym (c.in_ok-put_shell.ensures.put c.args.typist).put)
          (let l = length-append c.put_fields.new.jobs.items
          ((c.in_ok-put_shell.ensures.put c.args.typist).job ∷ []) in omega (arith, l));
    }

pub returns-in_err-put_method-clause-named : goal.returns-in_err-put_method-clause-named
returns-in_err-put_method-clause-named g c = c.put_method.ensures.named

pub returns-in_err-put_fields-clause-named : goal.returns-in_err-put_fields-clause-named
returns-in_err-put_fields-clause-named g c = c.put_fields.ensures.named ∙ c.put_method.ensures.named

pub returns-in_err-put_shell-clause-named : goal.returns-in_err-put_shell-clause-named
returns-in_err-put_shell-clause-named g c =
    c.put_shell.ensures.named ∙ c.put_fields.ensures.named ∙ c.put_method.ensures.named

pub returns-clause-named : goal.returns-clause-named
returns-clause-named g c = c.put_shell.ensures.named ∙ c.put_fields.ensures.named ∙ c.put_method.ensures.named
