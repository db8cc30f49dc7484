-- What who watches a journal is told of each entry: the entry, what the shell is told, and the
-- groups that were put.
use Rattle.std.specs.Prelude.{ℕ, ℤ, ◌+◌, List, [], ◌∷◌, ◌++◌, length, map, nat_le, ◌==◌, if◌then◌else◌, Option, Some, None}
use Rattle.std.specs.List.{flat_map}
use Rattle.relay_model.specs.declared.act.Act.{Act}
use Rattle.relay_model.specs.declared.said.Told.{Told}
use Rattle.relay_model.specs.declared.said.Said.{Said}
use Rattle.relay_model.specs.declared.said.Said.TheVariants as said
use Rattle.relay_model.specs.Keys.{Mods}
use Rattle.relay_model.specs.Told.{told}
use Rattle.broker_model.specs.declared.journal.Entry.{Entry}
use Rattle.broker_model.specs.Ids.{Made, made_as}
use Rattle.broker_model.specs.Resolve.{past_of, resolve}
use Rattle.broker_model.specs.Groups.{Piece, pair_of, id_of}
use Rattle.broker_model.specs.Out.{act_at, group_at, fits, before_group, out_for}
use Rattle.broker_audience.specs.declared.live.Live.{Live}
use Rattle.broker_audience.specs.Lives.{Numbered, who, cleared, has_heard, has_room}
use Rattle.broker_core.specs.Stands.{numbered}

-- one thing that is watched, with the number of its entry
pub data Watched : Type 0 where
  -- the entry itself, the act that it is, and the acts before it
  Entered : ℕ → Entry → Act → List Act → Watched
  -- where a popup is, in pixels of the screen: by the number of its peer, and its id there
  Placed : ℕ → (peer id : ℕ) → (x y : ℤ) → Watched
  -- a key that passes
  Passed : ℕ → (time key state : ℕ) → Watched
  -- modifiers of a board that pass
  Modified : ℕ → Mods → Watched
  -- the group that was put for a peer: its bytes, and its tokens, each with the offset of its
  -- message
  Put : ℕ → (peer : ℕ) → List ℕ → List (ℕ × ℕ) → Watched

-- the number of the peer with the label, or 0
abbrev pub number_at : List Numbered → ℕ → ℕ
number_at [] label = 0
number_at (p ∷ rest) label = (if p.peer.label == label then p.number else number_at rest label)

-- the label of the peer that made an object, or the shell's
abbrev pub maker : Option Made → ℕ
maker None = 0
maker (Some m) = m.peer

-- what is watched of an event, among these peers: what the shell is told
abbrev pub shown : ℕ → List Made → List Numbered → Said → List Watched
shown n made peers (said.Placed popup x y) =
    Placed n (number_at peers (maker (made_as made popup))) (id_of (made_as made popup)) x y ∷ []
shown n made peers (said.Pass time key state) = Passed n time key state ∷ []
shown n made peers (said.VMods mods) = Modified n mods ∷ []
shown n made peers _ = []

-- the same of each that is told
abbrev pub shown_by : ℕ → List Made → List Numbered → List Told → List Watched
shown_by n made peers ts = flat_map (λ (t : Told). shown n made peers t.event) ts

-- a group that was put for the peer q, unless it is empty
abbrev pub group_put : ℕ → ℕ → Piece → List Watched
group_put n q group =
    (if length group.bytes == 0 then [] else Put n q group.bytes (map pair_of group.tokens) ∷ [])

-- what is gathered for a live peer, if it will be put
abbrev pub gathered_put : ℕ → Live → List Watched
gathered_put n l = (if has_room l then group_put n l.number l.gathering.group else [])

-- what is watched while all this is told to the live peers: what the shell is told, and what will
-- be put
abbrev pub told_live : ℕ → List Made → List Live → List Told → List Watched
told_live n made live ts =
    shown_by n made (map who live) ts
    ++ flat_map (gathered_put n) (map (has_heard made ts) (map cleared live))

-- what the newest entry tells one peer, unless it was left out
abbrev pub out_put : ℕ → Entry → List Entry → Numbered → List Watched
out_put capacity e older p =
    let label = p.peer.label in
    let group = group_at e older label in
    (if fits capacity group (before_group e older label (out_for capacity older label))
    then group_put (length older + 1) p.number group
    else [])

-- what is watched behind the newest entry itself
abbrev pub told_of : ℕ → Entry → List Entry → List Watched
told_of capacity e older =
    let past = past_of (e ∷ older) in
    let peers = numbered 1 past.joined in
    shown_by (length older + 1) past.made peers (told (act_at e older) (resolve older))
    ++ flat_map (out_put capacity e older) peers

-- all that is watched of the newest entry
abbrev pub watched : ℕ → Entry → List Entry → List Watched
watched capacity e older =
    Entered (length older + 1) e (act_at e older) (resolve older) ∷ told_of capacity e older

-- of all entries behind the first k
abbrev pub watched_since : ℕ → ℕ → List Entry → List Watched
watched_since capacity k [] = []
watched_since capacity k (e ∷ older) =
    (if nat_le k (length older) then watched_since capacity k older ++ watched capacity e older
    else [])
