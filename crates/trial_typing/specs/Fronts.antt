-- Lists that begin other lists, and the events that bytes begin with
use Rattle.std.specs.Prelude.{◌≡◌, ◌⊎◌, ℕ, List, ◌++◌}
use Rattle.wl_wire.specs.Messages.{IsPartial, joined}
use Rattle.wl_proto.specs.declared.interface.Interface.{Interface}
use Rattle.wl_proto.specs.declared.event.Event.{Event}
use Rattle.client_side.specs.Client.{IsWrong}
use Rattle.client_side.specs.Events.{AreEvents}

-- the second list begins with the first
pub record IsFrontOf {A : Type 0} (front whole : List A) : Type 0 where
  pub rest : List A
  pub is : whole ≡ front ++ rest

-- bytes begin with these events to these objects
pub record BeginsWith (objects : List Interface) (bytes : List ℕ) (events : List Event)
    : Type 0 where
  pub messages : List (List ℕ)
  pub rest : List ℕ
  pub are : AreEvents objects messages events
  pub front : bytes ≡ joined messages ++ rest

-- and with no more: what is left is a part of one, or goes wrong
pub record AreEventsIn (objects : List Interface) (bytes : List ℕ) (events : List Event)
    : Type 0 where
  pub begins : BeginsWith objects bytes events
  pub left : IsPartial begins.rest ⊎ IsWrong objects begins.rest
