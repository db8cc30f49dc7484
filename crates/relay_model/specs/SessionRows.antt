-- Worked rows of the acts that only sessions have: what each act of a list tells, by the
-- definitions.
use Rattle.std.specs.Prelude.{◌≡◌, [], ◌∷◌}
use Rattle.wl_proto.specs.declared.interface.Interface.TheVariants as interfaces
use Rattle.relay_model.specs.declared.act.Act.TheVariants as acts
use Rattle.relay_model.specs.declared.act.EndCause.TheVariants as causes
use Rattle.relay_model.specs.declared.fault.Fault.TheVariants as faults
use Rattle.relay_model.specs.declared.role.Role.TheVariants as roles
use Rattle.relay_model.specs.declared.said.Said.TheVariants as said
use Rattle.relay_model.specs.Told.{to, told_each}

-- the registry of an application
abbrev pub GlobalsOfAnApp : Type 0
GlobalsOfAnApp =
    told_each [] (acts.Peer ∷ acts.Registry 1 roles.App ∷ [])
    ≡ ([]
    ∷ (to 2 (said.Global 1 interfaces.Compositor 1)
    ∷ to 2 (said.Global 2 interfaces.Seat 1)
    ∷ to 2 (said.Global 3 interfaces.TextInputManager 1)
    ∷ [])
    ∷ [])

-- the registry of an input method
abbrev pub GlobalsOfAMethod : Type 0
GlobalsOfAMethod =
    told_each [] (acts.Peer ∷ acts.Registry 1 roles.Method ∷ [])
    ≡ ([]
    ∷ (to 2 (said.Global 1 interfaces.Compositor 1)
    ∷ to 2 (said.Global 2 interfaces.Seat 1)
    ∷ to 2 (said.Global 4 interfaces.InputMethodManager 1)
    ∷ [])
    ∷ [])

-- the registry of an input method that has virtual keyboards
abbrev pub GlobalsOfAKeyed : Type 0
GlobalsOfAKeyed =
    told_each [] (acts.Peer ∷ acts.Registry 1 roles.Keyed ∷ [])
    ≡ ([]
    ∷ (to 2 (said.Global 1 interfaces.Compositor 1)
    ∷ to 2 (said.Global 2 interfaces.Seat 1)
    ∷ to 2 (said.Global 4 interfaces.InputMethodManager 1)
    ∷ to 2 (said.Global 5 interfaces.VirtualKeyboardManager 1)
    ∷ [])
    ∷ [])

-- a sync, whose callback can't be dropped any more
abbrev pub AnsweredSync : Type 0
AnsweredSync =
    told_each [] (acts.Peer ∷ acts.Sync 1 ∷ acts.Drop 2 ∷ [])
    ≡ ([] ∷ (to 2 (said.CallbackDone 0) ∷ to 1 (said.DeleteId 2) ∷ []) ∷ [] ∷ [])

-- a seat, which has no pointer, no keyboard and no touch
abbrev pub BoundSeat : Type 0
BoundSeat = told_each [] (acts.Peer ∷ acts.Seat 1 ∷ [])
    ≡ ([] ∷ (to 2 (said.Capabilities 0) ∷ []) ∷ [])

-- refused messages: one whose header has a bad size, and a pointer asked of a seat
abbrev pub RefusedMessages : Type 0
RefusedMessages =
    told_each []
    (acts.Peer ∷ acts.Seat 1 ∷ acts.Bad 1 faults.Size 1 ∷ acts.Bad 1 faults.Capability 2 ∷ [])
    ≡ ([]
    ∷ (to 2 (said.Capabilities 0) ∷ [])
    ∷ (to 1 (said.Error 1 faults.Size) ∷ [])
    ∷ (to 1 (said.Error 2 faults.Capability) ∷ [])
    ∷ [])

-- a bound global that is dropped, and dropped again
abbrev pub DroppedThing : Type 0
DroppedThing =
    told_each [] (acts.Peer ∷ acts.Thing 1 ∷ acts.Drop 2 ∷ acts.Drop 2 ∷ [])
    ≡ ([] ∷ [] ∷ (to 1 (said.DeleteId 2) ∷ []) ∷ [] ∷ [])

-- a peer that ended is told nothing, and bytes can still be taken from it
abbrev pub EndedPeer : Type 0
EndedPeer =
    told_each []
    (acts.Peer
    ∷ acts.Thing 1
    ∷ acts.Gone 1 causes.Bad
    ∷ acts.Drop 2
    ∷ acts.Registry 1 roles.App
    ∷ acts.Sync 1
    ∷ acts.Seat 1
    ∷ acts.Bad 1 faults.Object 1
    ∷ acts.Took 1 64
    ∷ [])
    ≡ ([] ∷ [] ∷ [] ∷ [] ∷ [] ∷ [] ∷ [] ∷ [] ∷ [] ∷ [])
