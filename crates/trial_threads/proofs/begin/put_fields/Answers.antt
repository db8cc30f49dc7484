use Rattle.std.proofs.Common.{◌≡◌, ◌≤◌, ◌++◌, ◌∙◌, ℕ, List, refl, subst, sym, arith, append-nil}
use Rattle.std.proofs.lemmas.Result.{err_from_is_err_and}
use Rattle.trial_threads.specs.declared.running.Running.{Running}
use Rattle.trial_threads.specs.Users.{Part, fields_from}
use Rattle.trial_threads.specs.Jobs.{AreIdle}
use Rattle.trial_threads.specs.BegunJobs.{HaveBegun}
use Rattle.trial_threads.proofs.JobsBegun.{one_field}
use Rattle.trial_threads.proofs.begin.put_fields.Goals as goal

pub loop-index-init : goal.loop-index-init
loop-index-init g c = record {
  own = c.requires.own;
  named = refl;
  next = c.requires.room;
  begun = λ typist parts h. subst (λ (ps : List Part). HaveBegun c.args.hub.now typist ps c.args.jobs.now.items)
      (sym (append-nil parts)) h;
  number = omega arith;
  joined = λ h. h;
}

pub overflow_add-index : goal.overflow_add-index
overflow_add-index g c = omega (arith, c.loop-index-test.true, c.requires.few)

pub put_field-requires-clause-own : goal.put_field-requires-clause-own
put_field-requires-clause-own g c = c.loop-index.invariant.own

pub put_field-requires-clause-room : goal.put_field-requires-clause-room
put_field-requires-clause-room g c =
    omega (arith, c.loop-index.invariant.next, c.loop-index-test.true, c.requires.few)

pub put_field-requires-clause-actions : goal.put_field-requires-clause-actions
put_field-requires-clause-actions g c = c.requires.actions

pub returns-in_err-put_field-clause-own : goal.returns-in_err-put_field-clause-own
returns-in_err-put_field-clause-own g c = c.put_field.ensures.own

pub returns-in_err-put_field-clause-idle : goal.returns-in_err-put_field-clause-idle
returns-in_err-put_field-clause-idle g c typist parts h =
    subst (λ (rs : List Running). AreIdle c.args.hub.now rs) (sym c.in_err-put_field.ensures.err)
    (c.loop-index.invariant.begun typist parts h).idle

pub returns-in_err-put_field-clause-unbegun : goal.returns-in_err-put_field-clause-unbegun
returns-in_err-put_field-clause-unbegun g c =
    let p = err_from_is_err_and c.from_residual.result c.from_residual.ensures.1 in
    let i = c.loop-index.invariant in
    rw (p.1, p.2)
    (λ h few. c.in_err-put_field.ensures.unbegun (i.joined h)
    (omega (arith, i.number, few, c.loop-index-test.true, c.requires.few)))

pub loop-index-preserved : goal.loop-index-preserved
loop-index-preserved g c =
    let e = c.in_ok-put_field.ensures in
    let i = c.loop-index.invariant in record {
      own = e.own;
      named = e.named ∙ i.named;
      next = omega (arith, e.next, i.next);
      begun = λ typist parts h. one_field c.args.hub.now typist parts c.loop-index.index c.args.users.now.actions.now
          c.loop-index.jobs.items c.put_field.new.jobs.items (i.begun typist parts h) (e.put typist);
      number = (let one = e.one in let before = i.number in omega arith);
      joined = λ h. e.joined (i.joined h);
    }

pub returns-clause-own : goal.returns-clause-own
returns-clause-own g c = c.loop-index.invariant.own

pub returns-in_err-put_field-clause-named : goal.returns-in_err-put_field-clause-named
returns-in_err-put_field-clause-named g c = c.put_field.ensures.named ∙ c.loop-index.invariant.named

pub returns-clause-named : goal.returns-clause-named
returns-clause-named g c = c.loop-index.invariant.named

pub returns-clause-next : goal.returns-clause-next
returns-clause-next g c = omega (arith, c.loop-index.invariant.next, c.loop-index.auto.index-end, c.requires.few)

pub returns-clause-all : goal.returns-clause-all
returns-clause-all g c typist parts h =
    let all : c.loop-index.index ≡ c.args.users.now.fields =
    omega (arith, c.loop-index.auto.index-end, c.loop-index-test.false) in
    subst (λ (k : ℕ). HaveBegun c.args.hub.now typist (parts ++ fields_from 1 k c.args.users.now.actions.now)
    c.loop-index.jobs.items) all (c.loop-index.invariant.begun typist parts h)

pub returns-clause-idle : goal.returns-clause-idle
returns-clause-idle g c typist parts h = (c.loop-index.invariant.begun typist parts h).idle

pub returns-clause-joined : goal.returns-clause-joined
returns-clause-joined g c h = c.loop-index.invariant.joined h
