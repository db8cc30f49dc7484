-- What the lines of a session make of a journal and of the unread bytes of its live peers.
use Rattle.std.specs.Prelude.{ℕ, ◌+◌, List, [], ◌∷◌, ◌++◌, length, filter, min, Bool, true, false, ◌==◌, nat_le, if◌then◌else◌, Option, Some, None}
use Rattle.wl_wire.specs.Messages.{behind}
use Rattle.relay_model.specs.declared.act.EndCause.TheVariants.{Gone}
use Rattle.broker_steps.specs.declared.limits.Limits.{Limits}
use Rattle.session_text.specs.declared.line.SessionLine.{SessionLine}
use Rattle.session_text.specs.declared.line.SessionLine.TheVariants as lines
use Rattle.broker_model.specs.declared.journal.Entry.{Entry}
use Rattle.broker_model.specs.declared.journal.Entry.TheVariants as entries
use Rattle.broker_model.specs.Ids.{Joined, peer_at}
use Rattle.broker_model.specs.Resolve.{past_of}
use Rattle.broker_model.specs.Out.{stored, out_for}
use Rattle.broker_model.specs.Settle.{number_alive, settle}
use Rattle.broker_model.specs.Limits.{is_full}
use Rattle.broker_core.specs.Taking.{lives}
use Rattle.broker_cutter.specs.Steps.{steps_in}

-- the bytes of a peer that don't make a whole message yet
pub record Waiting : Type 0 where
  pub number : ℕ
  pub bytes : List ℕ

-- a journal, and of each live peer its unread bytes, in the order in which they joined
pub record Play : Type 0 where
  pub journal : List Entry
  pub unread : List Waiting

-- where a line leads, and whether a step of it met a journal that is full for it, before which it
-- stopped
pub record Played : Type 0 where
  pub play : Play
  pub is_full : Bool

abbrev pub went : Play → Played
went play = record { play = play; is_full = false }

-- the unread bytes of those who are alive
abbrev pub of_live : List Entry → List Waiting → List Waiting
of_live journal unread = filter (λ w. lives journal w.number) unread

-- after a step and the ends that follow from it
abbrev pub with_step : Limits → Entry → Play → Play
with_step limits e play =
    let journal = settle limits.store (e ∷ play.journal) in
    record { journal = journal; unread = of_live journal play.unread }

-- a step that is taken if the journal isn't full for it
abbrev pub step_played : Limits → Entry → Play → Played
step_played limits e play =
    (if is_full limits play.journal e then record { play = play; is_full = true } else went
    (with_step limits e play))

-- steps of the peer q, as long as it is alive and the journal isn't full
abbrev pub steps_played : Limits → ℕ → List Entry → Play → Played
steps_played limits q [] play = went play
steps_played limits q (e ∷ rest) play =
    (if lives play.journal q
    then (if is_full limits play.journal e
    then record { play = play; is_full = true }
    else steps_played limits q rest (with_step limits e play))
    else went play)

-- the unread bytes of the peer q; none where there is no such peer
abbrev pub unread_by : List Waiting → ℕ → List ℕ
unread_by [] q = []
unread_by (w ∷ rest) q = (if w.number == q then w.bytes else unread_by rest q)

abbrev pub unread_of : Play → ℕ → List ℕ
unread_of play q = unread_by play.unread q

-- those of the peer q are these now
abbrev pub with_unread : ℕ → List ℕ → List Waiting → List Waiting
with_unread q bytes [] = []
with_unread q bytes (w ∷ rest) =
    (if w.number == q then record w { bytes = bytes } ∷ rest else w ∷ with_unread q bytes rest)

-- bytes of the peer q: a step for each message that they complete; those of a peer that ended say
-- nothing
abbrev pub bytes_played : Limits → ℕ → List ℕ → Play → Played
bytes_played limits q piece play =
    (if lives play.journal q
    then (let bytes = unread_of play q ++ piece in
    steps_played limits q (steps_in q bytes)
    (record play { unread = with_unread q (behind bytes) play.unread }))
    else went play)

-- with one more peer, of which no bytes came yet
abbrev pub with_peer : Play → Play
with_peer play = record play {
  unread = play.unread
      ++ record { number = length (past_of play.journal).joined + 1; bytes = [] } ∷ [];
}

-- at most 64 peers are alive
abbrev pub join_played : Limits → Entry → Play → Played
join_played limits e play =
    (if nat_le 64 (number_alive play.journal) then went play else step_played limits e
    (with_peer play))

-- the end of the link of the peer q, if it is alive
abbrev pub gone_played : Limits → ℕ → Play → Played
gone_played limits q play =
    (if lives play.journal q then step_played limits (entries.End q Gone) play else went play)

-- tokens of the peer q, if it is alive
abbrev pub tokens_played : Limits → ℕ → List ℕ → Play → Played
tokens_played limits q tokens play =
    (if lives play.journal q then step_played limits (entries.Tokens q tokens) play else went play)

-- the first n bytes that are stored for the peer, or all where fewer are; nothing where none is
abbrev pub take_played : Limits → ℕ → ℕ → Play → Option Joined → Played
take_played limits q n play None = went play
take_played limits q n play (Some peer) =
    (let m = min n (length (stored (out_for limits.store play.journal peer.label))) in
    (if m == 0 then went play else step_played limits (entries.Took q m) play))

-- one line of a session
abbrev pub line_played : Limits → SessionLine → Play → Played
line_played limits (lines.Join role) play = join_played limits (entries.Join role) play
line_played limits (lines.Bytes q piece) play = bytes_played limits q piece play
line_played limits (lines.Gone q) play = gone_played limits q play
line_played limits (lines.Take q n) play =
    take_played limits q n play (peer_at (past_of play.journal) q)
line_played limits (lines.Tokens q tokens) play = tokens_played limits q tokens play
line_played limits (lines.Shell step) play = step_played limits (entries.Shell step) play
