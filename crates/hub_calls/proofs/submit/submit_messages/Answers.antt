use Rattle.std.proofs.Common.{List, ℕ, Ok, [], ◌∷◌, take, refl, sym, ap, subst, ◌∙◌}
use Rattle.std.proofs.lemmas.Result.{err_from_is_err_and}
use Rattle.wl_wire.specs.Messages.{messages}
use Rattle.broker_model.specs.declared.journal.Entry.{Entry}
use Rattle.broker_model.specs.declared.journal.Entry.TheVariants as entries
use Rattle.hub_lock.specs.Passes.{IsOf, PeerPass}
use Rattle.hub_calls.specs.declared.submit.Sent.{Sent}
use Rattle.hub_calls.specs.Made.{entries_by, HasEnded}
use Rattle.hub_calls.proofs.PassesGrow.{saw_none, saw_both, pass_both, same_peer}
use Rattle.hub_calls.proofs.MessagesSubmitted.{first_entry, begins, goes_on, stops_at, ends_at, idle_at, idle_ended, is_all, each_made}
use Rattle.hub_calls.proofs.submit.submit_messages.Goals as goal

pub messages-init : goal.messages-init
messages-init g c = record {
  pass = refl;
  saw = saw_none c.args.hub.now.limits c.args.pass.now.seat.seen;
  idle = λ cause h. refl;
  way = begins c.args.pass.now.peer c.args.bytes.now c.args.pass.now;
}

pub submit_message-requires-clause-own : goal.submit_message-requires-clause-own
submit_message-requires-clause-own g c =
    subst (λ (p : PeerPass). IsOf c.args.hub.now p.seat) (sym c.messages.invariant.pass) c.requires.own

pub returns-in_err-sent-clause-made : goal.returns-in_err-sent-clause-made
returns-in_err-sent-clause-made g c =
    let p = err_from_is_err_and c.from_residual.result c.from_residual.ensures.1 in
    let i = c.messages.invariant in
    let q : ℕ = c.args.pass.now.peer in
    let rest : List ℕ = c.messages.rest.now in
    let used : ℕ = c.in-Whole.used in
    let m = c.in-Whole.message in
    rw (p.1, p.2)
    (stops_at c.args.hub.now.limits q c.args.bytes.now rest c.split_at.result.1.now (take used rest)
    (entries.Message c.messages.pass.peer m.id m.opcode m.body.now) c.args.pass.now c.messages.pass
    c.submit_message.new.pass c.in_err-sent.field-0.0 i.way
    (c.in-Whole.ensures.messages.0 ∙ ap (λ (b : List ℕ). take used rest ∷ messages b) (sym c.split_at.ensures.back))
    (ap (λ n. entries.Message n m.id m.opcode m.body.now) (same_peer c.args.pass.now c.messages.pass i.pass)
    ∙ first_entry q m.id m.opcode m.body.now rest used c.in-Whole.ensures.front)
    c.in_err-sent.ensures.made)

pub returns-in_err-sent-clause-ended : goal.returns-in_err-sent-clause-ended
returns-in_err-sent-clause-ended g c = λ cause h.
    let m = c.in-Whole.message in
    idle_at c.args.hub.now.limits c.messages.pass c.submit_message.new.pass
    (entries.Message c.messages.pass.peer m.id m.opcode m.body.now) c.in_err-sent.field-0.0 c.in_err-sent.ensures.made
    ∙ ap (λ (p : PeerPass). entries_by p.seat) (c.messages.invariant.idle cause h)

pub returns-in-Ended-clause-made : goal.returns-in-Ended-clause-made
returns-in-Ended-clause-made g c =
    let i = c.messages.invariant in
    let q : ℕ = c.args.pass.now.peer in
    let rest : List ℕ = c.messages.rest.now in
    let used : ℕ = c.in-Whole.used in
    let m = c.in-Whole.message in
    ends_at c.args.hub.now.limits q c.args.bytes.now rest c.split_at.result.1.now (take used rest)
    (entries.Message c.messages.pass.peer m.id m.opcode m.body.now) c.args.pass.now c.messages.pass
    c.submit_message.new.pass c.in_ok-sent.sent c.in-Ended.field-0 c.in-Ended.is i.way
    (c.in-Whole.ensures.messages.0 ∙ ap (λ (b : List ℕ). take used rest ∷ messages b) (sym c.split_at.ensures.back))
    (ap (λ n. entries.Message n m.id m.opcode m.body.now) (same_peer c.args.pass.now c.messages.pass i.pass)
    ∙ first_entry q m.id m.opcode m.body.now rest used c.in-Whole.ensures.front)
    c.in_ok-sent.ensures.made

pub returns-in-Ended-clause-ended : goal.returns-in-Ended-clause-ended
returns-in-Ended-clause-ended g c = λ cause h.
    let m = c.in-Whole.message in
    idle_ended c.args.hub.now.limits c.messages.pass c.submit_message.new.pass
    (entries.Message c.messages.pass.peer m.id m.opcode m.body.now) c.in_ok-sent.sent c.in-Ended.field-0 c.in-Ended.is
    c.in_ok-sent.ensures.made
    ∙ ap (λ (p : PeerPass). entries_by p.seat) (c.messages.invariant.idle cause h)

pub messages-preserved : goal.messages-preserved
messages-preserved g c =
    let i = c.messages.invariant in
    let e = c.in_ok-sent.ensures in
    let q : ℕ = c.args.pass.now.peer in
    let rest : List ℕ = c.messages.rest.now in
    let used : ℕ = c.in-Whole.used in
    let m = c.in-Whole.message in
    let entry : Entry = entries.Message c.messages.pass.peer m.id m.opcode m.body.now in
    record {
      pass = pass_both c.args.pass.now c.messages.pass c.submit_message.new.pass i.pass e.pass;
      saw = saw_both c.args.hub.now.limits c.args.pass.now.seat.seen c.messages.pass.seat.seen
          c.submit_message.new.pass.seat.seen i.saw e.saw;
      idle = λ cause h. absurd
          (e.ended cause (subst (λ (p : PeerPass). HasEnded c.args.hub.now.limits p cause) (sym (i.idle cause h)) h)
          (ap (λ (s : Sent). Ok s) (is_all c.in_ok-sent.sent c.in_default-sent.not-Ended)));
      way = goes_on q c.args.bytes.now rest c.split_at.result.1.now (take used rest) entry c.args.pass.now
          c.messages.pass c.submit_message.new.pass i.way
          (c.in-Whole.ensures.messages.0
          ∙ ap (λ (b : List ℕ). take used rest ∷ messages b) (sym c.split_at.ensures.back))
          (ap (λ n. entries.Message n m.id m.opcode m.body.now) (same_peer c.args.pass.now c.messages.pass i.pass)
          ∙ first_entry q m.id m.opcode m.body.now rest used c.in-Whole.ensures.front)
          (each_made c.args.hub.now.limits c.messages.pass c.submit_message.new.pass (entry ∷ []) c.in_ok-sent.sent
          c.in_default-sent.not-Ended e.made);
    }
