-- The first step that bytes give, as a step of the state.
use Rattle.std.proofs.Common.{◌≡◌, ℕ, List, refl, sym, subst, ◌∙◌}
use Rattle.wl_wire.specs.Messages.{id_of, opcode_of, body_of}
use Rattle.wl_wire.specs.Streams.{Assembly, begun, bytes_of}
use Rattle.broker_steps.specs.declared.step.PeerStep.{PeerStep}
use Rattle.broker_steps.specs.declared.step.PeerStep.TheVariants as peers
use Rattle.broker_cutter.specs.Cuts as cuts
use Rattle.seat_set.specs.Unread.{IsFirst, IsUnfinished, IsLast}

pub first_step : (q id opcode used : ℕ) (body bytes piece left : List ℕ) (step : PeerStep) →
    step ≡ peers.Message id opcode body → cuts.IsFirst id opcode body bytes piece used left →
    IsFirst q bytes piece step used left
first_step q id opcode used body bytes piece left step is f =
    subst (λ (s : PeerStep). IsFirst q bytes piece s used left) (sym is) (record {
      some = f.some;
      within = f.within;
      valid = f.valid;
      steps = f.steps q;
      behind_same = f.behind_same;
      none_left = f.none_left;
    })

-- the message that is held
pub held_step : (q id opcode used : ℕ) (body bytes piece : List ℕ) (new : Assembly) (step : PeerStep) →
    step ≡ peers.Message id opcode body → id ≡ id_of (bytes_of new) → opcode ≡ opcode_of (bytes_of new) →
    body ≡ body_of (bytes_of new) → cuts.IsHeld new bytes piece used → IsFirst q bytes piece step used (begun new)
held_step q id opcode used body bytes piece new step is i o b h =
    first_step q (id_of (bytes_of new)) (opcode_of (bytes_of new)) used (body_of (bytes_of new)) bytes piece (begun new)
    step (is ∙ rw (i, o, b) refl) h.1

pub nothing_yet : (q : ℕ) (bytes left : List ℕ) → cuts.IsUnfinished bytes left → IsUnfinished q bytes left
nothing_yet q bytes left f = record { steps = f.steps q; all_behind = f.all_behind; all_left = f.all_left }

pub last_step : {left : List ℕ} (q : ℕ) (head bytes : List ℕ) → cuts.IsLast head bytes left →
    IsLast q bytes (peers.BadSize head)
last_step q head bytes f = record { head = head; is = refl; valid = f.valid; steps = f.steps q }
