use Rattle.std.proofs.Common.{refl, arith}
use Rattle.client_side.specs.Events.{method_objects}
use Rattle.client_side.specs.MethodState.{after_event}
use Rattle.client_side.specs.Heard.{came}
use Rattle.client_side.proofs.HeardInTurn.{none_heard, next_heard, then_wrong}
use Rattle.client_side.proofs.EventsInTurn.{none_taken, next_front, front_wrong, front_short, none_spelled}
use Rattle.client_side.proofs.method_receiving.take_events.Goals as goal

pub events-init : goal.events-init
events-init g c = (
  omega arith,
  omega (arith, c.requires),
  none_taken method_objects (after_event g.T.Typist.meanings) _ _,
  none_heard method_objects (after_event g.T.Typist.meanings) came g.H.MethodHearer.may_follow _ _ _ _ refl,
)

pub take_message-requires-clause-short : goal.take_message-requires-clause-short
take_message-requires-clause-short g c = front_short _ _ _ _ _ c.in-Whole.ensures.front

pub returns-then-not-take_message-clause-wrong : goal.returns-then-not-take_message-clause-wrong
returns-then-not-take_message-clause-wrong g c =
    let told = c.if-not-take_message.ensures in
    front_wrong method_objects
    (after_event g.T.Typist.meanings) _ _ _ c.args.bytes.now _ c.events.at c.in-Whole.size _ _ _
    c.events.invariant.2 c.split_at.ensures.back c.in-Whole.ensures.front told.refused told.unchanged

pub events-preserved : goal.events-preserved
events-preserved g c =
    let front = c.in-Whole.ensures.front in
    let told = c.if-not-take_message.ensures in
    let room = c.take_message.ensures.room in
    let taken =
    next_front method_objects
    (after_event g.T.Typist.meanings) _ _ _ c.args.bytes.now _ c.events.at c.in-Whole.size _ _ _ _
    c.events.invariant.2 c.split_at.ensures.back front told.taken.1 told.taken.2 in
    let heard =
    next_heard method_objects
    (after_event g.T.Typist.meanings) came g.H.MethodHearer.may_follow _ _ _ c.args.bytes.now _ c.events.at
    c.in-Whole.size _ _ _ _ _ _ _ c.events.invariant.3 c.split_at.ensures.back front told.taken.1 told.taken.2
    told.taken.3 in (
      omega (arith, front.within, c.events.invariant.0, c.split_at.ensures.back_len),
      omega (arith, front.good.0, front.within, room, c.events.invariant.1, c.split_at.ensures.back_len),
      taken,
      heard,
    )

pub returns-then-not-take_message-clause-heard_wrong : goal.returns-then-not-take_message-clause-heard_wrong
returns-then-not-take_message-clause-heard_wrong g c =
    let told = c.if-not-take_message.ensures in
    then_wrong method_objects (after_event g.T.Typist.meanings) came g.H.MethodHearer.may_follow _ _ _ c.args.bytes.now
    _ _ _ _
    c.events.invariant.3 told.unchanged told.unheard
    (none_spelled method_objects c.args.bytes.now _ c.events.at c.in-Whole.size _ _ _ c.split_at.ensures.back
    c.in-Whole.ensures.front told.refused)
