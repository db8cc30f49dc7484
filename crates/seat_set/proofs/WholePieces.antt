-- A piece that is one whole message, of a peer without unread bytes.
use Rattle.std.proofs.Common.{◌≡◌, ℕ, List, [], ◌++◌, length, map, drop, true, Ok, Err, refl, sym, subst, ◌∙◌}
use Rattle.std.specs.Prelude.{Result}
use Rattle.std.proofs.Math.Seq.{drop-length}
use Rattle.broker_steps.specs.declared.step.PeerStep.{PeerStep}
use Rattle.broker_steps.specs.declared.step.PeerStep.TheVariants as peers
use Rattle.broker_core.specs.Broker.{Broker, peer_entry}
use Rattle.broker_core.specs.Taking.{lives}
use Rattle.wl_wire.specs.Streams.{begun}
use Rattle.seat_set.specs.declared.session.Stop.{Stop}
use Rattle.seat_set.specs.declared.unread.Found.TheVariants.{Message}
use Rattle.seat_set.specs.declared.unread.Unread.{Unread}
use Rattle.seat_set.specs.Unread.{waiting}
use Rattle.seat_set.specs.Played.{unread_by, step_played, bytes_played}
use Rattle.seat_set.specs.Playing.{Ongoing, IsPlayed, IsRead}
use Rattle.broker_cutter.specs.Cuts as cuts
use Rattle.seat_set.proofs.FirstSteps.{first_step}
use Rattle.seat_set.proofs.SharedSteps.{view_of, IsHeld}
use Rattle.seat_set.proofs.BytesLoop.{nothing_left, message_stops, message_goes, message_last}

-- it is found, and nothing is left of it
pub whole_is : (s : Ongoing) (b : Broker) (was : List Unread) (q place : ℕ) (old : Unread) (piece raw : List ℕ)
    (id opcode used : ℕ) → view_of b was ≡ s → IsHeld was q place old →
    cuts.IsFirst id opcode raw (begun old.cutter ++ piece) piece used (begun old.cutter) → used ≡ length piece →
    IsRead s q piece (Message (peers.Message id opcode raw) (length piece)) s
whole_is s b was q place old piece raw id opcode used v h f all =
    let none : unread_by (map waiting was) q ≡ [] = h.bytes ∙ f.none_left in
    subst (λ (n : ℕ). IsRead s q piece (Message (peers.Message id opcode raw) n) s) all
    (subst (λ (y : Ongoing). IsRead y q piece (Message (peers.Message id opcode raw) used) y) v (record {
      left = [];
      finds = first_step q id opcode used raw (unread_by (map waiting was) q ++ piece) piece []
          (peers.Message id opcode raw) refl
          (subst (λ (x : List ℕ). cuts.IsFirst id opcode raw (x ++ piece) piece used []) (sym h.bytes)
          (subst (λ (x : List ℕ). cuts.IsFirst id opcode raw (begun old.cutter ++ piece) piece used x) f.none_left f));
      unread = sym (nothing_left q (map waiting was) none);
    }))

-- to play it is to play its step
pub whole_played : (s after : Ongoing) (q : ℕ) (piece : List ℕ) (step : PeerStep) (r : Result (Unit {0}) Stop) →
    lives s.play.journal q ≡ true → IsRead s q piece (Message step (length piece)) s →
    IsPlayed (step_played s.limits (peer_entry q step) s.play) r after.play →
    IsPlayed (bytes_played s.limits q piece s.play) r after.play
whole_played s after q piece step (Err stop) h r p =
    message_stops s s s q piece piece step (length piece) stop after.play refl refl refl h r refl p
whole_played s after q piece step (Ok done) h r p =
    let way = message_goes s s s after q piece piece (drop (length piece) piece) step
    (length piece) refl refl refl h r refl refl p in
    message_last s s s after q piece piece (drop (length piece) piece) step (length piece) way (drop-length piece) r p
