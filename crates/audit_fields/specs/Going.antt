-- What is gathered beside a journal.
use Rattle.std.specs.Prelude.{◌≡◌, ℕ, suc, ◌≤◌, List, [], length, true, false, Some}
use Rattle.std.specs.List.{slice_get}
use Rattle.broker_model.specs.declared.journal.Entry.{Entry}
use Rattle.broker_model.specs.Ids.{Joined, peer_at}
use Rattle.broker_model.specs.Resolve.{past_of}
use Rattle.broker_model.specs.Out.{stored, out_for}
use Rattle.audit_fields.specs.Comparing.{Follows}
use Rattle.audit_fields.specs.declared.side.Side.{Side}
use Rattle.audit_fields.specs.Gathering.{Gathering, is_app, is_gained}

-- a peer that joined, with all that it was told and all that was sent to it
pub record IsSide (capacity : ℕ) (journal : List Entry) (sent : List ℕ) (peer : Joined)
    (side : Side) : Type 0 where
  pub role : side.is_app ≡ is_app peer.role
  pub follows : side.is_app ≡ true →
      Follows (out_for capacity journal peer.label).put.bytes sent side.streams

-- each that joined is there, nothing is stored for who isn't among those who gained, and nothing
-- was sent to who didn't join
pub record IsGathered (capacity : ℕ) (sent : ℕ → List ℕ) (journal : List Entry)
    (g : Gathering) : Type 0 where
  pub number : length g.sides ≡ length (past_of journal).joined
  pub each : (k : ℕ) (side : Side) (peer : Joined) → slice_get g.sides k ≡ Some side →
      slice_get (past_of journal).joined k ≡ Some peer →
      IsSide capacity journal (sent (suc k)) peer side
  pub dry : (q : ℕ) (peer : Joined) → peer_at (past_of journal) q ≡ Some peer →
      is_gained q g.gained ≡ false →
      stored (out_for capacity journal peer.label) ≡ []
  pub silent : (k : ℕ) → length (past_of journal).joined ≤ k → sent (suc k) ≡ []
