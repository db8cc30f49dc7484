-- An audit as far as its lines came.
use Rattle.std.specs.Prelude.{◌≡◌, ℕ, Bool, true, false, List, ◌∷◌, [], min, Option, Some, None, Result, Ok, Err}
use Rattle.broker_steps.specs.Ranges.{store_limit}
use Rattle.session_text.specs.declared.line.SessionLine.{SessionLine}
use Rattle.broker_model.specs.declared.journal.Entry.{Entry}
use Rattle.broker_model.specs.Ids.{Joined, peer_at}
use Rattle.broker_model.specs.Out.{stored, out_for}
use Rattle.broker_model.specs.Resolve.{past_of}
use Rattle.broker_core.specs.Broker.{kept_in}
use Rattle.seat_set.specs.declared.session.Stop.{Stop}
use Rattle.seat_set.specs.declared.session.Stop.TheVariants as stops
use Rattle.seat_set.specs.Played.{Played, went}
use Rattle.seat_set.specs.Playing.{Playing}
use Rattle.seat_set.specs.Laws.{lines_played}
use Rattle.audit_fields.specs.Gathering.{Gathering}
use Rattle.audit_fields.specs.Going.{IsGathered}
use Rattle.audit_run.specs.declared.audit_line.AuditLine.{AuditLine}
use Rattle.audit_run.specs.declared.audit.AuditEnd.{AuditEnd}
use Rattle.audit_run.specs.Taking.{audit_limits}
use Rattle.audit_run.specs.Judged.{judged, sent, dones_of, most_dones, IsFair}

-- what an audit's callers see: what was played, what was gathered of it, how many dones were
-- counted, and why it ended
pub record Auditing : Type 0 where
  pub player : Playing
  pub gathering : Gathering
  pub dones : ℕ
  pub ended : Option AuditEnd

-- it goes on, and all that it played was gathered, beside what was sent
pub record GoesOn (all : ℕ → List ℕ) (player : Playing) (g : Gathering) : Type 0 where
  pub unspent : player.is_spent ≡ false
  pub limits : player.limits ≡ audit_limits
  pub whole : g.is_short ≡ false
  pub gathered : IsGathered store_limit all player.play.journal g

-- each line is as it should be after those before it
abbrev pub AreFair : List AuditLine → Type 0
AreFair [] = Unit {0}
AreFair (line ∷ older) = IsFair line older × AreFair older

-- it is the audit of these lines, the newest first: all of them are as they should be
pub record Stands (lines : List AuditLine) (a : Auditing) : Type 0 where
  pub unended : a.ended ≡ None
  pub fair : AreFair lines
  pub played : judged lines ≡ went a.player.play
  pub goes : GoesOn (λ q. sent lines q) a.player a.gathering
  pub counted : a.dones ≡ min (dones_of lines) most_dones

-- Where lines that lead there were played: to their end, or up to a full journal.
abbrev pub Leads : Played → (ℕ → List ℕ) → Result (Unit {0}) Stop → Playing → Gathering → Type 0
Leads p all (Ok done) player g =
    (p.is_full ≡ false) × (player.play ≡ p.play) × GoesOn all player g
Leads p all (Err (stops.Full kept)) player g =
    (p.is_full ≡ true) × (kept ≡ kept_in p.play.journal) × (player.play.journal ≡ p.play.journal)
Leads p all (Err stops.NoMemory) player g = Unit {0}

-- these lines are still to be played, and lead to where the whole leads
pub record IsOnWay (whole : Played) (all : ℕ → List ℕ) (left : List SessionLine)
    (player : Playing) (g : Gathering) : Type 0 where
  pub goes : GoesOn all player g
  pub leads : lines_played audit_limits left player.play ≡ whole

-- nothing is stored for the peer with the number, if it joined
abbrev pub IsDry : ℕ → List Entry → Type 0
IsDry q journal =
    (peer : Joined) → peer_at (past_of journal) q ≡ Some peer →
    stored (out_for store_limit journal peer.label) ≡ []

-- where one take led, and whether nothing was stored
abbrev pub LeadsOnce : ℕ → Played → (ℕ → List ℕ) → Result Bool Stop → Playing → Gathering → Type 0
LeadsOnce q p all (Ok none) player g =
    Leads p all (Ok tt) player g × (none ≡ true → IsDry q player.play.journal)
LeadsOnce q p all (Err why) player g = Leads p all (Err why) player g
