-- A client by what it received: the state after its events, the bytes of a message that isn't
-- whole, and whether an event was bad.
use Rattle.std.specs.Prelude.{◌≡◌, ℕ, Bool, true, false, List, [], ◌∷◌, ◌++◌, ◌⊎◌}
use Rattle.wl_proto.specs.declared.interface.Interface.{Interface}
use Rattle.wl_proto.specs.declared.event.Event.{Event}
use Rattle.wl_wire.specs.Messages.{IsMessage, IsPartial, IsBad, id_of, joined}
use Rattle.wl_wire.specs.Texts.{IsBytes}
use Rattle.client_side.specs.Events.{object_in, IsEventOf, AreEvents}

-- a client whose events change a state
pub record Client (S : Type 0) : Type 0 where
  pub state : S
  pub held : List ℕ
  pub is_bad : Bool

-- what an event does to a state
abbrev pub Step : Type 0 → Type 0
Step S = Event → S → S

-- the state after events, one step for each
abbrev pub after_all : {S : Type 0} → Step S → List Event → S → S
after_all step [] s = s
after_all step (event ∷ more) s = after_all step more (step event s)

-- no event of a live object stands at the front: the size is bad, or no event is spelled
abbrev pub IsWrong : List Interface → List ℕ → Type 0
IsWrong objects bytes =
    IsBad bytes
    ⊎ ((m : List ℕ) × (rest : List ℕ) × (bytes ≡ m ++ rest) × IsMessage m
    × ((event : Event) → IsEventOf (object_in objects (id_of m)) m event → ⊥))

-- the bytes begin with these events, which take the state from the old to the new
pub record Takes {S : Type 0} (objects : List Interface) (step : Step S) (old new : S)
    (bytes rest : List ℕ)
    : Type 0 where
  pub messages : List (List ℕ)
  pub events : List Event
  pub are : AreEvents objects messages events
  pub front : bytes ≡ joined messages ++ rest
  pub state-is : new ≡ after_all step events old

-- the bytes are events and a part of a message
pub record Accepts {S : Type 0} (objects : List Interface) (step : Step S) (old new : Client S)
    (piece : List ℕ)
    : Type 0 where
  pub takes : Takes objects step old.state new.state (old.held ++ piece) new.held
  pub partial : IsPartial new.held
  pub good : new.is_bad ≡ false

-- the bytes begin with events and then go wrong
pub record GoesWrong {S : Type 0} (objects : List Interface) (step : Step S) (old new : S)
    (bytes : List ℕ)
    : Type 0 where
  pub rest : List ℕ
  pub takes : Takes objects step old new bytes rest
  pub wrong : IsWrong objects rest

-- all bytes so far stay
pub record Refuses {S : Type 0} (objects : List Interface) (step : Step S) (old new : Client S)
    (piece : List ℕ)
    : Type 0 where
  pub was_good : old.is_bad ≡ false
  pub goes_wrong : GoesWrong objects step old.state new.state (old.held ++ piece)
  pub held : new.held ≡ old.held ++ piece
  pub bytes : IsBytes new.held
  pub bad : new.is_bad ≡ true
