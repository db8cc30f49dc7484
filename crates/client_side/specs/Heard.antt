-- What who hears a client is told: what its events make happen, in order.
use Rattle.std.specs.Prelude.{◌≡◌, ℕ, List, [], ◌∷◌, ◌++◌}
use Rattle.wl_proto.specs.declared.interface.Interface.{Interface}
use Rattle.wl_proto.specs.declared.event.Event.{Event}
use Rattle.client_side.specs.Client.{Step, Takes, IsWrong}
use Rattle.client_side.specs.Happenings.{Happening}
use Rattle.client_side.specs.FieldState as field
use Rattle.client_side.specs.MethodState as method

-- the hearer after is reached from the one before by one step for each thing of the list, in order,
-- and by no other
abbrev pub Reached : {H : Type 0} → {E : Type 0} → (H → E → H → Type 0) → H → List E → H → Type 0
Reached may_follow before [] after = after ≡ before
Reached {H} may_follow before (thing ∷ rest) after =
    (mid : H) × may_follow before thing mid × Reached may_follow mid rest after

-- what an event makes of a state, and of what was told before
abbrev pub telling : {S : Type 0} → {E : Type 0} → Step S → (Event → S → List E) → Step (S × List E)
telling step each event p = (step event p.0, p.1 ++ each event p.0)

-- the bytes begin with events that take the state from the old to the new, and the hearer was told
-- of what each of them makes happen, in order, and of nothing else
pub record Hears {S : Type 0} {H : Type 0} {E : Type 0} (objects : List Interface) (step : Step S)
    (each : Event → S → List E) (may_follow : H → E → H → Type 0) (old new : S)
    (bytes rest : List ℕ)
    (before after : H) : Type 0 where
  pub told : List E
  pub takes : Takes objects (telling step each) (old, []) (new, told) bytes rest
  pub reached : Reached may_follow before told after

-- the same of all events that stand before the place where the bytes go wrong
pub record HearsWrong {S : Type 0} {H : Type 0} {E : Type 0} (objects : List Interface)
    (step : Step S)
    (each : Event → S → List E) (may_follow : H → E → H → Type 0) (old new : S) (bytes : List ℕ)
    (before after : H) : Type 0 where
  pub rest : List ℕ
  pub heard : Hears objects step each may_follow old new bytes rest before after
  pub wrong : IsWrong objects rest

-- what an event makes happen to a field: an enter, a leave, or the batch of the edits that waited
abbrev pub happened : Event → field.State → List Happening
happened event s = field.logged event s.pending []

-- a method hears each event
abbrev pub came : {S : Type 0} → Event → method.State S → List Event
came event s = event ∷ []
