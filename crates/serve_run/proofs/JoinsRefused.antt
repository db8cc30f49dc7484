-- Why a join was refused
use Rattle.std.proofs.Common.{◌≡◌, ◌++◌, [], ℕ, Option, Some, None, Result, Err, IfSome, sym, ◌∙◌, append-nil}
use Rattle.relay_model.specs.declared.role.Role.{Role}
use Rattle.broker_steps.specs.declared.limits.Limits.{Limits}
use Rattle.broker_core.specs.declared.answers.JoinRefusal.{JoinRefusal}
use Rattle.broker_core.specs.Broker.{join_refusal}
use Rattle.hub_lock.specs.Histories.{History, broker_of}
use Rattle.hub_lock.specs.Passes.{PassSeat}
use Rattle.hub_lock.specs.Calls.{LegalJoin}
use Rattle.serve_run.specs.declared.stop.Stop.{Stop}
use Rattle.serve_run.specs.Refused.{stopped, IsStoppedBy, WasRefused}

abbrev refused_as : JoinRefusal → Result ℕ JoinRefusal
refused_as why = Err why

same_why : (why rule : JoinRefusal) → refused_as why ≡ refused_as rule → why ≡ rule
same_why why rule e = cc

by_rule : (o : Option JoinRefusal) (why : JoinRefusal) → IfSome o (λ rule. refused_as why ≡ refused_as rule)
    → IfSome o (λ rule. why ≡ rule)
by_rule None why refused = tt
by_rule (Some rule) why refused = same_why why rule refused

pub was_refused : (limits : Limits) (root : PassSeat) (seen : History) (role : Role) (why : JoinRefusal) (stop : Stop)
    → IsStoppedBy why (stopped stop) → LegalJoin limits root seen role (Err why)
    → WasRefused limits seen (Some role) (stopped stop)
was_refused limits root seen role why stop is legal = (
  why,
  is,
  record {
    earlier = root.seen ++ legal.rest;
    later = [];
    is = legal.answer.same ∙ sym (append-nil (root.seen ++ legal.rest));
    by_rule = by_rule (join_refusal (broker_of limits (root.seen ++ legal.rest)) role) why legal.answer.refused;
    otherwise = legal.answer.accepted;
  },
)
