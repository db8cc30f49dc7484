use Rattle.std.proofs.Common.{◌≡◌, [], Some, subst}
use Rattle.c_relay.specs.Waiting.{Waiting, IsFirst}
use Rattle.c_relay.proofs.EventsWithTexts.{first_some, first_none}
use Rattle.c_relay.proofs.queue.Queue.first.Goals as goal

pub returns-in-Some : goal.returns-in-Some
returns-in-Some c =
    subst (λ (w : Waiting). IsFirst w.heard (Some c.in-Some.event.now)) c.self.view_is
    (first_some c.self.inside.events.items c.self.inside.texts.items c.in-Some.event.now c.self.invariant
    c.in-Some.ensures)

pub returns-in-None : goal.returns-in-None
returns-in-None c =
    subst (λ (w : Waiting). w.heard ≡ []) c.self.view_is
    (first_none c.self.inside.events.items c.self.inside.texts.items c.in-None.ensures)
