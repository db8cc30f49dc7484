-- A session as far as it is played.
use Rattle.std.specs.Prelude.{◌≡◌, ℕ, ◌+◌, ◌<◌, ◌==◌, List, [], ◌++◌, length, replicate, min, nat_le, Bool, true, false, if◌then◌else◌, string_bytes, Option, Result, Ok, Err, String}
use Rattle.std.specs.List.{list_any}
use Rattle.std.specs.Global.{Global}
use Rattle.broker_steps.specs.declared.limits.Limits.{Limits}
use Rattle.broker_steps.specs.declared.stamp.Stamp.{Stamp}
use Rattle.broker_steps.specs.declared.step.Step.{Step}
use Rattle.broker_steps.specs.declared.step.Step.TheVariants as steps
use Rattle.broker_model.specs.declared.journal.Entry.{Entry}
use Rattle.broker_model.specs.Out.{Outgoing, stored}
use Rattle.broker_model.specs.Settle.{outer}
use Rattle.broker_model.specs.Stamps.{stamps}
use Rattle.broker_core.specs.Broker.{kept_in}
use Rattle.broker_core.specs.declared.taking.Standing.TheVariants.{Alive}
use Rattle.broker_core.specs.Taking.{standing_of}
use Rattle.broker_core.specs.Taking.{lives}
use Rattle.relay_objects.specs.Reached.{Reached}
use Rattle.broker_core.specs.Watched.{Watched, watched_since}
use Rattle.lines_transcript.specs.Transcribed.{journal_text}
use Rattle.seat_set.specs.declared.session.Stop.{Stop}
use Rattle.seat_set.specs.declared.session.Stop.TheVariants as stops
use Rattle.seat_set.specs.declared.player.PlayEnd.{PlayEnd}
use Rattle.seat_set.specs.declared.player.PlayEnd.TheVariants as ends
use Rattle.seat_set.specs.declared.unread.Found.{Found}
use Rattle.seat_set.specs.Played.{Waiting, Play, Played, unread_of, with_unread}
use Rattle.seat_set.specs.Unread.{Finds}
pub use Rattle.broker_model.specs.Growth.{IsMore}

-- a session that goes on: what was allowed, what was played so far, the stamps of its journal, the
-- newest first, and how many of the oldest entries were let go
pub record Ongoing : Type 0 where
  pub limits : Limits
  pub play : Play
  pub stamps : List Stamp
  pub kept_from : ℕ

-- what a player's callers see: what was allowed, what was played so far with its stamps, how many of
-- the oldest entries were let go, whether nothing more can be played, and why
pub record Playing : Type 0 where
  pub limits : Limits
  pub play : Play
  pub stamps : List Stamp
  pub kept_from : ℕ
  pub is_spent : Bool
  pub stopped : Option Stop

-- there are unread bytes of the peer q
abbrev pub is_waiting : ℕ → List Waiting → Bool
is_waiting q unread = list_any (λ w. w.number == q) unread

-- fewer than 256 entries of the journal are in memory
abbrev pub IsShort : (journal : List Entry) (kept_from : ℕ) → Type 0
IsShort journal kept_from = length journal < kept_from + 256

-- how many entries are gone of a journal with so many, of which so many were gone: where 256 or more
-- are in memory all are let go, else none
abbrev pub kept_from_after : (kept_from number : ℕ) → ℕ
kept_from_after kept_from number = (if nat_le (kept_from + 256) number then number else kept_from)

-- each live peer has its unread bytes
abbrev pub AreWaiting : List Entry → List Waiting → Type 0
AreWaiting journal unread = (q : ℕ) → lives journal q ≡ true → is_waiting q unread ≡ true

-- and nobody else has
abbrev pub AreLive : List Entry → List Waiting → Type 0
AreLive journal unread = (q : ℕ) → is_waiting q unread ≡ true → lives journal q ≡ true

-- a buffer has room for as many of the stored bytes as are asked for at most
abbrev pub IsEnough : (room most : ℕ) → Outgoing → Type 0
IsEnough room most out = min room (length (stored out)) ≡ min most (length (stored out))

-- the peer of the step is alive, if it is a peer's
abbrev pub IsThere : Step → List Entry → Type 0
IsThere (steps.Peer q step) journal = (standing_of journal q ≡ Alive) × (lives journal q ≡ true)
IsThere _ journal = Unit {0}

-- The stamp was given with each step that the journal has more, and with no other: whatever was
-- given with the steps before, the stamps are those for that and this.
pub record AreStamped (given : Stamp) (before : List Entry) (was : List Stamp) (after : List Entry)
    (now : List Stamp) :
    Type 0 where
  pub number : ℕ
  pub more : length (outer after) ≡ number + length (outer before)
  pub stamped : (gave : List Stamp) → stamps before gave ≡ was →
      stamps after (replicate number given ++ gave) ≡ now

-- who watched was told of each entry that the journal has more, and of nothing else
pub record IsWatched {W : Type 0} (may_follow : W → Watched → W → Type 0) (store : ℕ)
    (before : List Entry) (watch : W)
    (after : List Entry) (watch_after : W) : Type 0 where
  pub grew : IsMore before after
  pub told : Reached may_follow watch (watched_since store (length before) after) watch_after

-- It was played to where the lines lead. Where the journal was full, the journal is that before the
-- step that it was full for. Where memory was short, what was played is a front of it.
abbrev pub IsPlayed : Played → Result (Unit {0}) Stop → Play → Type 0
IsPlayed p (Ok done) after = (p.is_full ≡ false) × (after ≡ p.play)
IsPlayed p (Err (stops.Full kept)) after = (p.is_full ≡ true) × (kept ≡ kept_in p.play.journal) ×
    (after.journal ≡ p.play.journal)
IsPlayed p (Err stops.NoMemory) after = IsMore after.journal p.play.journal

-- what was found in a piece behind the unread bytes of the peer q, which are others from now on
pub record IsRead (before : Ongoing) (q : ℕ) (piece : List ℕ) (found : Found)
    (after : Ongoing) : Type 0 where
  pub left : List ℕ
  pub finds : Finds q (unread_of before.play q ++ piece) piece found left
  pub unread : after.play.unread ≡ with_unread q left before.play.unread

-- the text is what the transcript has more
abbrev pub IsWritten : ℕ → Play → Play → String Global → Type 0
IsWritten store before after text =
    journal_text store after.journal ≡ journal_text store before.journal ++ string_bytes
    text

-- the text is a front of what the transcript has more
pub record IsFront (store : ℕ) (before after : Play) (text : String Global) : Type 0 where
  pub rest : List ℕ
  pub is : journal_text store after.journal
      ≡ journal_text store before.journal ++ (string_bytes text ++ rest)

-- A line met a journal that was full for a step: how much it holds, and what was written before the
-- step. Where memory was short, a front of the line's steps was played, and a front of that is
-- written.
abbrev pub IsStopped : ℕ → Played → Play → Play → PlayEnd → Type 0
IsStopped store p before after (ends.JournalFull kept text) =
    (p.is_full ≡ true) × (kept ≡ kept_in p.play.journal) × IsWritten store before p.play text ×
    (after.journal ≡ p.play.journal)
IsStopped store p before after (ends.NoMemory text) =
    IsMore after.journal p.play.journal × IsFront store before after
    text

-- why nothing more is played
abbrev pub stop_of : PlayEnd → Stop
stop_of (ends.JournalFull kept text) = stops.Full kept
stop_of (ends.NoMemory text) = stops.NoMemory

-- how a line ends, with its text
abbrev pub end_with : Stop → String Global → PlayEnd
end_with (stops.Full kept) text = ends.JournalFull kept text
end_with stops.NoMemory text = ends.NoMemory text

-- the text that comes with an error
abbrev pub text_of : PlayEnd → List ℕ
text_of (ends.JournalFull kept text) = string_bytes text
text_of (ends.NoMemory text) = string_bytes text

-- the same answer again, with an empty text
abbrev pub IsAgain : Stop → Result (String Global) PlayEnd → Type 0
IsAgain stop (Ok text) = ⊥
IsAgain stop (Err e) = (stop_of e ≡ stop) × (text_of e ≡ [])
