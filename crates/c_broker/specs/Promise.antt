-- What holds of a broker by its bytes, whatever was called.
use Rattle.std.specs.Prelude.{◌≡◌, ℕ, ◌≤◌, length, true, false, Some}
use Rattle.std.specs.List.{count_by}
use Rattle.relay_model.specs.Objects.{is_peer}
use Rattle.relay_model.specs.Keys.{number_down}
use Rattle.broker_model.specs.Ids.{Joined, log_of, number_live, peer_at}
use Rattle.broker_model.specs.Limits.{number_counted, weight}
use Rattle.broker_model.specs.Out.{out_for, stored}
use Rattle.broker_model.specs.Resolve.{past_of}
use Rattle.broker_model.specs.Settle.{history, is_due, number_alive, outer}
use Rattle.broker_core.specs.Broker.{Broker}
use Rattle.broker_core.specs.Ends.{is_end_of}

-- The journal is the history of its outer steps, within the limits: no live peer has a refused last
-- message or was left out of what it is told, at most 64 are alive, each with at most 256 live objects
-- besides its display, at most 64 keys are down, no store holds more than its capacity, and no peer
-- ends twice.
pub record Promise (b : Broker) : Type 0 where
  pub history : history b.limits.store (outer b.journal) ≡ b.journal
  pub nobody_is_due : (number : ℕ) (peer : Joined) → peer_at (past_of b.journal) number ≡ Some peer →
      is_due b.limits.store b.journal number peer ≡ false
  pub few_peers : number_alive b.journal ≤ 64
  pub few_objects : (number : ℕ) (peer : Joined) → peer_at (past_of b.journal) number ≡ Some peer →
      is_peer (log_of (past_of b.journal)) peer.label ≡ true →
      number_live (past_of b.journal) peer.label ≤ 256
  pub few_keys : number_down (log_of (past_of b.journal)) ≤ 64
  pub stores : (label : ℕ) →
      length (stored (out_for b.limits.store b.journal label)) ≤ b.limits.store
  pub counted : number_counted b.journal ≤ b.limits.entries
  pub light : weight b.journal ≤ b.limits.weight
  pub one_end : (number : ℕ) → count_by (is_end_of number) b.journal ≤ 1
