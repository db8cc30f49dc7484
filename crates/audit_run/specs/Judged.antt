-- Which lines of an audit are as they should be.
use Rattle.std.specs.Prelude.{◌≡◌, ℕ, ◌+◌, ◌-◌, ◌==◌, true, false, if◌then◌else◌, List, [], ◌∷◌, ◌++◌, Option, Some, None, Result, Ok, Err}
use Rattle.broker_steps.specs.Ranges.{store_limit}
use Rattle.session_text.specs.Steps.{IsSessionLine}
use Rattle.broker_model.specs.declared.journal.Entry.{Entry}
use Rattle.broker_model.specs.Ids.{Joined, peer_at}
use Rattle.broker_model.specs.Out.{out_for}
use Rattle.broker_model.specs.Resolve.{past_of}
use Rattle.broker_core.specs.Broker.{kept_in}
use Rattle.seat_set.specs.Played.{Played, went}
use Rattle.seat_set.specs.Laws.{unplayed}
use Rattle.seat_set.specs.declared.session.Stop.{Stop}
use Rattle.seat_set.specs.declared.session.Stop.TheVariants as stops
use Rattle.audit_fields.specs.Heard.{dones, IsLike}
use Rattle.audit_fields.specs.Gathering.{is_app}
use Rattle.audit_run.specs.declared.audit_line.AuditLine.{AuditLine}
use Rattle.audit_run.specs.declared.audit_line.AuditLine.TheVariants.{Step, Out}
use Rattle.audit_run.specs.declared.audit.AuditEnd.{AuditEnd}
use Rattle.audit_run.specs.declared.audit.AuditEnd.TheVariants as ends
use Rattle.audit_run.specs.Taking.{step_judged}

-- where a line leads from what the lines before it played, if the journal wasn't full for them
abbrev pub line_judged : AuditLine → Played → Played
line_judged (Step stamp line) p = (if p.is_full then p else step_judged line p.play)
line_judged (Out q bytes) p = p

-- where the lines lead, the newest first
abbrev pub judged : List AuditLine → Played
judged [] = went unplayed
judged (line ∷ older) = line_judged line (judged older)

-- the journal of their steps and takes
abbrev pub journal_of : List AuditLine → List Entry
journal_of lines = (judged lines).play.journal

-- the peer with the number that joined by these lines
abbrev pub peer_of : List AuditLine → ℕ → Option Joined
peer_of lines q = peer_at (past_of (journal_of lines)) q

-- who joined has these bytes more, and who didn't has none
abbrev pub sent_more : Option Joined → (was more : List ℕ) → List ℕ
sent_more None was more = []
sent_more (Some peer) was more = was ++ more

-- what was sent to the peer q since it joined
abbrev pub sent : List AuditLine → ℕ → List ℕ
sent [] q = []
sent (Step stamp line ∷ older) q = sent older q
sent (Out p bytes ∷ older) q =
    sent_more (peer_of older q) (sent older q) (if p == q then bytes else [])

-- what an application that joined is to be told by a journal
abbrev pub owed : List Entry → Joined → List ℕ
owed journal peer = (out_for store_limit journal peer.label).put.bytes

-- All that was sent to an application is like what it is told: no size is bad, and its whole field
-- messages are, in ids and values, a front of those told.
abbrev pub IsGoodFor : List Entry → Option Joined → List ℕ → Type 0
IsGoodFor journal None all = Unit {0}
IsGoodFor journal (Some peer) all = is_app peer.role ≡ true → IsLike (owed journal peer) all

-- the bytes are what the peer q is owed after these lines; any are, where it is no application that
-- joined
abbrev pub IsGood : ℕ → List ℕ → List AuditLine → Type 0
IsGood q bytes lines = IsGoodFor (journal_of lines) (peer_of lines q) (sent lines q ++ bytes)

-- the line is as it should be after these
abbrev pub IsFair : AuditLine → List AuditLine → Type 0
IsFair (Step stamp line) lines = (judged (Step stamp line ∷ lines)).is_full ≡ false
IsFair (Out q bytes) lines = IsGood q bytes lines

-- the dones that bytes complete, if they are sent to an application that joined
abbrev pub new_dones : Option Joined → (was more : List ℕ) → ℕ
new_dones None was more = 0
new_dones (Some peer) was more =
    (if is_app peer.role then dones (was ++ more) - dones was else 0)

-- how many dones were sent to applications since they joined
abbrev pub dones_of : List AuditLine → ℕ
dones_of [] = 0
dones_of (Step stamp line ∷ older) = dones_of older
dones_of (Out q bytes ∷ older) =
    dones_of older + new_dones (peer_of older q) (sent older q) bytes

-- a count of 64 bits stands still there
abbrev pub most_dones : ℕ
most_dones = 18446744073709551615

-- the line holds only what a line of an audit can give
abbrev pub IsAuditLine : AuditLine → Type 0
IsAuditLine (Step stamp line) = IsSessionLine line
IsAuditLine (Out q bytes) = Unit {0}

-- Why the audit ends with a line after these: the journal is full for a step or a take, or what was
-- sent is no good.
abbrev pub IsEnd : AuditLine → List AuditLine → AuditEnd → Type 0
IsEnd line lines ends.NoMemory = Unit {0}
IsEnd (Step stamp line) lines (ends.JournalFull kept) =
    ((judged (Step stamp line ∷ lines)).is_full ≡ true)
    × (kept ≡ kept_in (journal_of (Step stamp line ∷ lines)))
IsEnd (Out q bytes) lines ends.No = IsGood q bytes lines → ⊥
IsEnd _ lines _ = ⊥

-- why a step that isn't played to its end ends the audit
abbrev pub of_stop : Stop → AuditEnd
of_stop (stops.Full kept) = ends.JournalFull kept
of_stop stops.NoMemory = ends.NoMemory

-- what a step that was played, or wasn't, is for the audit
abbrev pub answer_of : Result (Unit {0}) Stop → Result (Unit {0}) AuditEnd
answer_of (Ok done) = Ok done
answer_of (Err stop) = Err (of_stop stop)
