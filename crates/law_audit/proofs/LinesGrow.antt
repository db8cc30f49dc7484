-- Lines of an audit only add to the journal: who joined stays, and the groups that were put stay in front.
use Rattle.std.proofs.Common.{◌≡◌, ℕ, ◌+◌, Bool, true, false, List, [], ◌∷◌, ◌++◌, length, Option, Some, None, refl, sym, ap, ◌∙◌, append_assoc}
use Rattle.std.specs.Prelude.{if◌then◌else◌}
use Rattle.std.proofs.lemmas.List.{append-nil}
use Rattle.broker_steps.specs.declared.limits.Limits.{Limits}
use Rattle.broker_steps.specs.declared.stamp.Stamp.{Stamp}
use Rattle.session_text.specs.declared.line.SessionLine.{SessionLine}
use Rattle.session_text.specs.declared.line.SessionLine.TheVariants as sessions
use Rattle.relay_model.specs.declared.act.EndCause.TheVariants.{Gone}
use Rattle.relay_model.specs.Hold.{holder}
use Rattle.broker_model.specs.declared.journal.Entry.{Entry}
use Rattle.broker_model.specs.declared.journal.Entry.TheVariants as entries
use Rattle.broker_model.specs.Ids.{Joined, log_of, peer_at}
use Rattle.broker_model.specs.Resolve.{past_of}
use Rattle.broker_model.proofs.LivePeersJoined.{joined_stays}
use Rattle.law_held.specs.Taking.{lives}
use Rattle.seat_set.specs.Played.{Play, Played, went, step_played, line_played}
use Rattle.seat_set.specs.Playing.{IsMore}
use Rattle.seat_set.specs.Laws.{lines_played}
use Rattle.seat_set.proofs.JournalGrows.{no_more, more_both, step_grows, bytes_grow, join_grows, take_grows, tokens_grow}
use Rattle.audit_run.specs.declared.audit_line.AuditLine.{AuditLine}
use Rattle.audit_run.specs.declared.audit_line.AuditLine.TheVariants.{Step}
use Rattle.audit_run.specs.Judged.{line_judged, judged, journal_of}
use Rattle.audit_run.specs.Taking.{audit_limits, takes_from, emptied, step_judged}
use Rattle.law_audit.specs.FieldGroups.{FieldGroup, group_now, groups_put}

-- ---- what lines play

line_grows : (limits : Limits) (line : SessionLine) (play : Play) →
    IsMore play.journal (line_played limits line play).play.journal
line_grows limits (sessions.Join role) play = join_grows limits (entries.Join role) play
line_grows limits (sessions.Bytes q piece) play = bytes_grow limits q piece play
line_grows limits (sessions.Gone q) play = by (lives play.journal q)
  where
    by : (b : Bool) → IsMore play.journal
        (if b then step_played limits (entries.End q Gone) play else went play).play.journal
    by true = step_grows limits (entries.End q Gone) play
    by false = no_more play.journal
line_grows limits (sessions.Take q n) play = take_grows limits q n play (peer_at (past_of play.journal) q)
line_grows limits (sessions.Tokens q tokens) play = tokens_grow limits q tokens play
line_grows limits (sessions.Shell step) play = step_grows limits (entries.Shell step) play

lines_grow : (limits : Limits) (lines : List SessionLine) (play : Play) →
    IsMore play.journal (lines_played limits lines play).play.journal
lines_grow limits [] play = no_more play.journal
lines_grow limits (line ∷ rest) play =
    by p.is_full (line_grows limits line play) (lines_grow limits rest p.play)
  where
    p : Played
    p = line_played limits line play

    by : (b : Bool) → IsMore play.journal p.play.journal →
        IsMore p.play.journal (lines_played limits rest p.play).play.journal →
        IsMore play.journal (if b then p else lines_played limits rest p.play).play.journal
    by true h k = h
    by false h k = more_both play.journal p.play.journal (lines_played limits rest p.play).play.journal h k

emptied_grows : (p : Played) → IsMore p.play.journal (emptied p).play.journal
emptied_grows p = by p.is_full
  where
    takes : List SessionLine
    takes = takes_from 1 (length (past_of p.play.journal).joined)

    by : (b : Bool) → IsMore p.play.journal (if b then p else lines_played audit_limits takes p.play).play.journal
    by true = no_more p.play.journal
    by false = lines_grow audit_limits takes p.play

judged_grows : (stamp : Stamp) (line : SessionLine) (p : Played) →
    IsMore p.play.journal (line_judged (Step stamp line) p).play.journal
judged_grows stamp line p = by p.is_full
  where
    next : Played
    next = line_played audit_limits line p.play

    by : (b : Bool) → IsMore p.play.journal (if b then p else step_judged line p.play).play.journal
    by true = no_more p.play.journal
    by false =
        more_both p.play.journal next.play.journal (emptied next).play.journal (line_grows audit_limits line p.play)
        (emptied_grows next)

-- a step adds to the journal of the lines before it
pub step_adds : (stamp : Stamp) (line : SessionLine) (older : List AuditLine) →
    IsMore (journal_of older) (journal_of (Step stamp line ∷ older))
step_adds stamp line older = judged_grows stamp line (judged older)

-- ---- who joined

stays_in : (more older : List Entry) (q : ℕ) (peer : Joined) → peer_at (past_of older) q ≡ Some peer →
    peer_at (past_of (more ++ older)) q ≡ Some peer
stays_in [] older q peer e = e
stays_in (x ∷ more) older q peer e =
    joined_stays x (length (more ++ older) + 1) (past_of (more ++ older)).joined q peer (stays_in more older q peer e)

pub peer_stays : (before after : List Entry) (q : ℕ) (peer : Joined) → IsMore before after →
    peer_at (past_of before) q ≡ Some peer → peer_at (past_of after) q ≡ Some peer
peer_stays before after q peer m e =
    ap (λ (j : List Entry). peer_at (past_of j) q) m.is ∙ stays_in m.more before q peer e

-- so who isn't there wasn't before
pub nobody_before : (before after : List Entry) (q : ℕ) → IsMore before after → peer_at (past_of after) q ≡ None →
    peer_at (past_of before) q ≡ None
nobody_before before after q m none = by (peer_at (past_of before) q) refl
  where
    by : (o : Option Joined) → peer_at (past_of before) q ≡ o → o ≡ None
    by None e = refl
    by (Some peer) e = (let there = sym none ∙ peer_stays before after q peer m e in cc)

-- ---- what was put

pub record HasBehind (all front : List FieldGroup) : Type 0 where
  pub later : List FieldGroup
  pub is : all ≡ front ++ later

groups_behind : (capacity : ℕ) (more older : List Entry) (p : ℕ) →
    HasBehind (groups_put capacity (more ++ older) p) (groups_put capacity older p)
groups_behind capacity [] older p = record { later = []; is = sym (append-nil (groups_put capacity older p)) }
groups_behind capacity (e ∷ more) older p =
    let b = groups_behind capacity more older p in
    let now = group_now capacity e (more ++ older) p (holder (log_of (past_of (more ++ older)))) in
    record {
      later = b.later ++ now;
      is =
          ap (λ (l : List FieldGroup). l ++ now) b.is
          ∙ append_assoc (groups_put capacity older p) b.later now;
    }

pub groups_grow : (capacity : ℕ) (before after : List Entry) (p : ℕ) → IsMore before after →
    HasBehind (groups_put capacity after p) (groups_put capacity before p)
groups_grow capacity before after p m =
    let b = groups_behind capacity m.more before p in
    record { later = b.later; is = ap (λ (j : List Entry). groups_put capacity j p) m.is ∙ b.is }
