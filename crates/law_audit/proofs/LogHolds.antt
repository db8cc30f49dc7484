-- What the lines of an audit play can be held, since each was read.
use Rattle.std.proofs.Common.{ℕ, zero, suc, ◌+◌, Bool, true, false, List, [], ◌∷◌, length, arith}
use Rattle.std.specs.Prelude.{if◌then◌else◌, replicate}
use Rattle.std.specs.List.{AllByRecursion}
use Rattle.broker_steps.specs.Ranges.{IsLimits}
use Rattle.session_text.specs.declared.line.SessionLine.{SessionLine}
use Rattle.session_text.specs.declared.line.SessionLine.TheVariants as sessions
use Rattle.broker_model.specs.Resolve.{past_of}
use Rattle.broker_model.proofs.EachElement.{each_append}
use Rattle.seat_set.specs.Laws.{lines_played}
use Rattle.seat_set.specs.Played.{Played, line_played}
use Rattle.audit_run.specs.declared.audit_line.AuditLine.{AuditLine}
use Rattle.audit_run.specs.declared.audit_line.AuditLine.TheVariants.{Step, Out}
use Rattle.audit_run.specs.Grammar.{HasAuditLine}
use Rattle.audit_run.specs.Judged.{judged, journal_of}
use Rattle.audit_run.specs.Taking.{audit_limits, emptied, step_judged, takes_from, takes_of}
use Rattle.law_held.specs.Held.{IsHeldJournal}
use Rattle.law_held.proofs.SessionsHeld.{line_gives}
use Rattle.law_held.proofs.LinesHold.{GivesHeld, HoldsPlay, nothing_holds, line_holds, lines_hold, is_held}

-- ---- takes give nothing

takes_give : (n q : ℕ) → AllByRecursion GivesHeld (replicate n (sessions.Take q 4096))
takes_give zero q = tt
takes_give (suc n) q = (tt, takes_give n q)

all_takes_give : (q n : ℕ) → AllByRecursion GivesHeld (takes_from q n)
unfolding takes_of
all_takes_give q zero = tt
all_takes_give q (suc n) =
    each_append GivesHeld (replicate 256 (sessions.Take q 4096)) (takes_from (q + 1) n) (takes_give 256 q)
    (all_takes_give (q + 1) n)

-- ---- the lines of an audit

abbrev pub Holds : Played → Type 0
Holds p = HoldsPlay audit_limits p.play

emptied_holds : (p : Played) → Holds p → Holds (emptied p)
emptied_holds p h = by p.is_full
  where
    number : ℕ
    number = length (past_of p.play.journal).joined

    by : (b : Bool) → Holds (if b then p else lines_played audit_limits (takes_from 1 number) p.play)
    by true = h
    by false = lines_hold audit_limits (takes_from 1 number) p.play (all_takes_give 1 number) h

step_holds : (line : SessionLine) (p : Played) → GivesHeld line → Holds p →
    Holds (if p.is_full then p else step_judged line p.play)
step_holds line p g h = by p.is_full
  where
    by : (b : Bool) → Holds (if b then p else step_judged line p.play)
    by true = h
    by false = emptied_holds (line_played audit_limits line p.play) (line_holds audit_limits line p.play g h)

pub log_holds : (line : AuditLine) (log : List AuditLine) → HasAuditLine line → Holds (judged log) →
    Holds (judged (line ∷ log))
log_holds (Step stamp line) log has h = step_holds line (judged log) (line_gives line has.1) h
log_holds (Out q bytes) log has h = h

pub none_holds : Holds (judged [])
none_holds = nothing_holds audit_limits

audit_limited : IsLimits audit_limits
audit_limited = ((omega arith, omega arith), (omega arith, omega arith), (omega arith, omega arith))

pub log_held : (log : List AuditLine) → Holds (judged log) → IsHeldJournal (journal_of log)
log_held log h = is_held audit_limits (judged log).play audit_limited h
