-- A line that was played was gathered, or it was stopped.
use Rattle.std.proofs.Common.{◌≡◌, ℕ, false, List, length, Ok, Err, ap, subst, ◌∙◌}
use Rattle.broker_steps.specs.declared.limits.Limits.{Limits}
use Rattle.broker_steps.specs.Ranges.{store_limit}
use Rattle.session_text.specs.declared.line.SessionLine.{SessionLine}
use Rattle.broker_core.specs.Reached.{Reached}
use Rattle.broker_core.specs.Watched.{watched_since}
use Rattle.seat_set.specs.declared.session.Stop.{Stop}
use Rattle.seat_set.specs.declared.session.Stop.TheVariants as stops
use Rattle.seat_set.specs.Played.{line_played}
use Rattle.seat_set.specs.Playing.{Playing, IsPlayed, IsWatched}
use Rattle.audit_fields.specs.Gathering.{Gathering, MayGather}
use Rattle.audit_fields.proofs.GatheredBeside.{stays_beside}
use Rattle.audit_run.specs.Taking.{audit_limits}
use Rattle.audit_run.specs.Standing.{GoesOn, Leads}

pub leads_on : (all : ℕ → List ℕ) (line : SessionLine) (before after : Playing) (g h : Gathering) →
    GoesOn all before g → IsPlayed (line_played before.limits line before.play) (Ok tt) after.play →
    after ≡ record before { play = after.play; stamps = after.stamps; kept_from = after.kept_from } →
    IsWatched MayGather before.limits.store before.play.journal g after.play.journal h → h.is_short ≡ false →
    Leads (line_played audit_limits line before.play) all (Ok tt) after h
leads_on all line before after g h o p same w whole =
    let at = subst (λ (l : Limits). IsPlayed (line_played l line before.play) (Ok tt) after.play) o.limits p in
    let told = subst
    (λ (l : Limits). Reached MayGather g (watched_since l.store (length before.play.journal) after.play.journal) h)
    o.limits w.told in (
      at.0,
      at.1,
      record {
        unspent = ap (λ (x : Playing). x.is_spent) same ∙ o.unspent;
        limits = ap (λ (x : Playing). x.limits) same ∙ o.limits;
        whole = whole;
        gathered = stays_beside store_limit all w.grew.more before.play.journal after.play.journal g h w.grew.is
            o.gathered told whole;
      },
    )

pub leads_not : (all : ℕ → List ℕ) (line : SessionLine) (why : Stop) (before after : Playing) (g h : Gathering) →
    GoesOn all before g → IsPlayed (line_played before.limits line before.play) (Err why) after.play →
    Leads (line_played audit_limits line before.play) all (Err why) after h
leads_not all line (stops.Full kept) before after g h o p =
    let at = subst (λ (l : Limits). IsPlayed (line_played l line before.play) (Err (stops.Full kept)) after.play)
    o.limits p in
    (at.0, at.1, at.2)
leads_not all line stops.NoMemory before after g h o p = tt
