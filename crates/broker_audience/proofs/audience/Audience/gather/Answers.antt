use Rattle.std.proofs.Common.{◌≡◌, ◌≤◌, Option, Some, IfSome, ap, sym, ◌∙◌, subst, arith}
use Rattle.wl_proto.specs.Rows.{Message, event_message}
use Rattle.wl_proto.specs.Spelling.{message_len}
use Rattle.broker_model.specs.Groups.{message_of}
use Rattle.broker_wire.specs.Events.{tokens_with}
use Rattle.broker_audience.proofs.ToldToAll.{unheard, silent, heard_by}
use Rattle.broker_audience.proofs.audience.Audience.gather.Goals as goal

pub returns-in_default-clause-live : goal.returns-in_default-clause-live
returns-in_default-clause-live c =
    λ _. unheard c.args.self.now.directory.made c.args.told.now c.args.self.now.live.items
    (sym c.in_default.ensures.value)

pub returns-in_default-event_of-clause-live : goal.returns-in_default-event_of-clause-live
returns-in_default-event_of-clause-live c =
    λ _.
    silent c.args.self.now.directory.made c.args.told.now c.args.self.now.live.items
    (sym (c.in_default-event_of.ensures c.args.self.now.directory.made c.id_named-id.ensures))

pub hear-requires-clause-token : goal.hear-requires-clause-token
hear-requires-clause-token c =
    let made = c.args.self.now.directory.made in
    let what : Some (event_message c.in-Some-event_of.event) ≡ message_of made c.args.told.now.event =
    c.in-Some-event_of.ensures made c.id_named-id.ensures in
    ap tokens_with what ∙ c.token_of.ensures made

pub returns-then-len-le-LONGEST-clause-live : goal.returns-then-len-le-LONGEST-clause-live
returns-then-len-le-LONGEST-clause-live c =
    let made = c.args.self.now.directory.made in
    let what : Some (event_message c.in-Some-event_of.event) ≡ message_of made c.args.told.now.event =
    c.in-Some-event_of.ensures made c.id_named-id.ensures in
    λ _. c.hear.ensures.items
    ∙ heard_by made c.args.told.now c.in-Some.to (event_message c.in-Some-event_of.event) c.args.self.now.live.items
    (sym c.in-Some.ensures.value) (sym what)

pub returns-else-len-le-LONGEST-clause-live : goal.returns-else-len-le-LONGEST-clause-live
returns-else-len-le-LONGEST-clause-live c =
    let made = c.args.self.now.directory.made in
    let what : Some (event_message c.in-Some-event_of.event) ≡ message_of made c.args.told.now.event =
    c.in-Some-event_of.ensures made c.id_named-id.ensures in
    λ short.
    let fits : message_len (event_message c.in-Some-event_of.event) ≤ 4096 =
    subst (λ (o : Option Message). IfSome o (λ m. message_len m ≤ 4096)) (sym what) (short made) in
    absurd (omega (arith, c.event_len-len.ensures.len))
