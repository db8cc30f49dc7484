-- What each entry tells each peer, and what is out for a peer.
use Rattle.std.specs.Prelude.{ℕ, ◌+◌, ◌-◌, List, [], ◌∷◌, length, drop, filter, Bool, true, false, ◌&&◌, ◌==◌, nat_le, nat_lt, if◌then◌else◌, Option, Some, None}
use Rattle.relay_model.specs.declared.act.Act.{Act}
use Rattle.relay_model.specs.Idle.{cleaned}
use Rattle.relay_model.specs.Told.{told}
use Rattle.broker_model.specs.declared.journal.Entry.{Entry}
use Rattle.broker_model.specs.declared.journal.Entry.TheVariants as entries
use Rattle.broker_model.specs.Ids.{Joined, Past, log_of, peer_at}
use Rattle.broker_model.specs.Resolve.{past_of, resolve, means}
use Rattle.broker_model.specs.Groups.{Token, Piece, nothing, followed_by, group_for}

-- the act of the newest entry
abbrev pub act_at : Entry → List Entry → Act
act_at e older = (means e (length older + 1) (past_of older)).act

-- the same, or Idle in its place where it is idle
abbrev pub act_now : Entry → List Entry → Act
act_now e older = cleaned (act_at e older) (log_of (past_of older))

-- what the newest entry tells the peer with the label p
abbrev pub group_at : Entry → List Entry → ℕ → Piece
group_at e older p = group_for (past_of (e ∷ older)).made p (told (act_at e older) (resolve older))

-- of a peer: all that was put for it, how many bytes of that were taken, and whether a group was
-- left out
pub record Outgoing : Type 0 where
  pub put : Piece
  pub taken : ℕ
  pub choked : Bool

-- the bytes that are stored
abbrev pub stored : Outgoing → List ℕ
stored out = drop out.taken out.put.bytes

-- the tokens that go with the next n bytes: those whose message begins in them
abbrev pub tokens_taken : ℕ → Outgoing → List Token
tokens_taken n out =
    filter (λ t. nat_le out.taken t.offset && nat_lt t.offset (out.taken + n)) out.put.tokens

-- the bytes that are stored and the group are together at most the capacity
abbrev pub fits : ℕ → Piece → Outgoing → Bool
fits capacity group out = nat_le ((length out.put.bytes - out.taken) + length group.bytes) capacity

-- the group is put whole, or left out
abbrev pub with_group : ℕ → Piece → Outgoing → Outgoing
with_group capacity group out =
    (if fits capacity group out then record out { put = followed_by out.put group }
    else record out { choked = true })

-- the peer is there, and has the label
abbrev pub is_label : Option Joined → ℕ → Bool
is_label None p = false
is_label (Some peer) p = peer.label == p

-- how many bytes of the peer p the entry takes
abbrev pub took_at : Entry → Past → ℕ → ℕ
took_at (entries.Took q bytes) past p = (if is_label (peer_at past q) p then bytes else 0)
took_at _ past p = 0

-- what is out for the peer with the label p, before the group of the newest entry
abbrev pub before_group : Entry → List Entry → ℕ → Outgoing → Outgoing
before_group e older p out = record out { taken = out.taken + took_at e (past_of older) p }

-- what is out for the peer with the label p
abbrev pub out_for : ℕ → List Entry → ℕ → Outgoing
out_for capacity [] p = record { put = nothing; taken = 0; choked = false }
out_for capacity (e ∷ older) p =
    with_group capacity (group_at e older p) (before_group e older p (out_for capacity older p))
