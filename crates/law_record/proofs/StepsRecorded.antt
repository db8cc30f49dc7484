-- What one more step adds to the lines of a recorded session: its own line. The ends that follow have none.
use Rattle.std.proofs.Common.{◌≡◌, ℕ, zero, suc, List, [], ◌∷◌, ◌++◌, drop, map, max, Bool, true, false, Option, Some, None, refl, ap, ◌∙◌, append-nil}
use Rattle.std.specs.Prelude.{if◌then◌else◌}
use Rattle.relay_model.specs.declared.act.EndCause.TheVariants.{Bad, Full}
use Rattle.broker_steps.specs.declared.stamp.Stamp.{Stamp}
use Rattle.broker_steps.specs.declared.step.Step.{Step}
use Rattle.broker_steps.specs.declared.step.Step.TheVariants as steps
use Rattle.broker_steps.specs.declared.step.PeerStep.TheVariants as peers
use Rattle.session_text.specs.declared.line.SessionLine.{SessionLine}
use Rattle.session_text.specs.Steps.{step_line}
use Rattle.broker_model.specs.declared.journal.Entry.{Entry}
use Rattle.broker_model.specs.declared.journal.Entry.TheVariants as entries
use Rattle.broker_model.specs.Settle.{refused, due, cause_of, with_end, settled, number_alive, settle}
use Rattle.broker_model.specs.Stamps.{latest, said_moment, follows, no_stamp, newest, stamp_of, stamps, step_stamps}
use Rattle.broker_model.proofs.StampsAgain.{end_stamped}
use Rattle.broker_core.specs.Broker.{entry_of}
use Rattle.serve_record.specs.Recorded.{entry_lines}
use Rattle.law_record.specs.RecordedLines.{lines_in}

-- the entry of a step has its line, and does not follow

pub line_of_entry : (step : Step) → entry_lines (entry_of step) ≡ step_line step ∷ []
line_of_entry (steps.Join role) = refl
line_of_entry (steps.Peer q (peers.Message id opcode body)) = refl
line_of_entry (steps.Peer q (peers.BadSize head)) = refl
line_of_entry (steps.Peer q (peers.Tokens tokens)) = refl
line_of_entry (steps.Peer q peers.Gone) = refl
line_of_entry (steps.Shell step) = refl
line_of_entry (steps.Take q n) = refl

pub goes_first : (step : Step) → follows (entry_of step) ≡ false
goes_first (steps.Join role) = refl
goes_first (steps.Peer q (peers.Message id opcode body)) = refl
goes_first (steps.Peer q (peers.BadSize head)) = refl
goes_first (steps.Peer q (peers.Tokens tokens)) = refl
goes_first (steps.Peer q peers.Gone) = refl
goes_first (steps.Shell step) = refl
goes_first (steps.Take q n) = refl

-- An end that follows: it has no line, it is no step, and it comes at the moment of the entry before.

record IsQuiet (e : Entry) : Type 0 where
  follows : follows e ≡ true
  lines : entry_lines e ≡ []

ends_quietly : (journal : List Entry) (q : ℕ) → IsQuiet (entries.End q (cause_of journal q))
ends_quietly journal q = by (refused journal q)
  where
    by : (b : Bool) → IsQuiet (entries.End q (if b then Bad else Full))
    by true = record { follows = refl; lines = refl }
    by false = record { follows = refl; lines = refl }

-- what stamps and lines are the same with the ends that follow
record IsSameSession (longer journal : List Entry) (given : List Stamp) : Type 0 where
  lines : lines_in longer (stamps longer given) ≡ lines_in journal (stamps journal given)
  steps : step_stamps longer (stamps longer given) ≡ step_stamps journal (stamps journal given)
  moment : latest (stamps longer given) ≡ latest (stamps journal given)

same_session : (journal : List Entry) (given : List Stamp) → IsSameSession journal journal given
same_session journal given = record { lines = refl; steps = refl; moment = refl }

one_end : (e : Entry) (journal : List Entry) (given : List Stamp) → IsQuiet e →
    IsSameSession (e ∷ journal) journal given
one_end e journal given h =
    let before : List Stamp = stamps journal given in
    let s : Stamp = stamp_of e no_stamp before in
    let is : stamps (e ∷ journal) given ≡ s ∷ before = end_stamped e journal no_stamp given h.follows in
    let by_kind : Bool → Stamp = λ b. (if b then record { moment = latest before; author = 0 } else record {
      moment = max no_stamp.moment (max (said_moment e) (latest before));
      author = no_stamp.author;
    }) in
    record {
      lines = ap (lines_in (e ∷ journal)) is
          ∙ ap (λ (ls : List SessionLine). lines_in journal before ++ map (λ (line : SessionLine). (s, line)) ls)
          h.lines
          ∙ append-nil (lines_in journal before);
      steps = ap (step_stamps (e ∷ journal)) is
          ∙ ap (λ (b : Bool). if b then step_stamps journal before else s ∷ step_stamps journal before) h.follows;
      moment = ap latest is ∙ ap (λ (b : Bool). (by_kind b).moment) h.follows;
    }

with_one_end : (journal : List Entry) (given : List Stamp) (o : Option ℕ) →
    IsSameSession (with_end journal o) journal given
with_one_end journal given None = same_session journal given
with_one_end journal given (Some q) =
    one_end (entries.End q (cause_of journal q)) journal given (ends_quietly journal q)

both_same : (longest longer journal : List Entry) (given : List Stamp) → IsSameSession longest longer given →
    IsSameSession longer journal given → IsSameSession longest journal given
both_same longest longer journal given a b = record {
  lines = a.lines ∙ b.lines;
  steps = a.steps ∙ b.steps;
  moment = a.moment ∙ b.moment;
}

settled_same : (capacity fuel : ℕ) (journal : List Entry) (given : List Stamp) →
    IsSameSession (settled capacity fuel journal) journal given
settled_same capacity zero journal given = same_session journal given
settled_same capacity (suc fuel) journal given =
    let next : List Entry = with_end journal (due capacity journal) in
    both_same (settled capacity fuel next) next journal given (settled_same capacity fuel next given)
    (with_one_end journal given (due capacity journal))

-- the stamp of a step that is taken behind a journal
abbrev pub stamp_at : Step → List Entry → List Stamp → Stamp
stamp_at step journal given = stamp_of (entry_of step) (newest given) (stamps journal (drop 1 given))

step_stamped : (e : Entry) (journal : List Entry) (given : List Stamp) → follows e ≡ false →
    stamps (e ∷ journal) given
    ≡ stamp_of e (newest given) (stamps journal (drop 1 given)) ∷ stamps journal (drop 1 given)
step_stamped e journal given h =
    ap (λ (b : Bool). (let before : List Stamp = stamps journal (if b then given else drop 1 given) in
    stamp_of e (newest given) before ∷ before)) h

-- one more step
pub record IsOneMore (step : Step) (capacity : ℕ) (older : List Entry) (given : List Stamp)
    (journal : List Entry) : Type 0 where
  pub lines : lines_in journal (stamps journal given)
      ≡ lines_in older (stamps older (drop 1 given)) ++ (stamp_at step older given, step_line step) ∷ []
  pub steps : step_stamps journal (stamps journal given)
      ≡ stamp_at step older given ∷ step_stamps older (stamps older (drop 1 given))
  pub moment : latest (stamps journal given) ≡ (stamp_at step older given).moment

pub one_more_step : (step : Step) (capacity : ℕ) (older : List Entry) (given : List Stamp) →
    IsOneMore step capacity older given (settle capacity (entry_of step ∷ older))
one_more_step step capacity older given =
    let e : Entry = entry_of step in
    let s : Stamp = stamp_at step older given in
    let before : List Stamp = stamps older (drop 1 given) in
    let first = goes_first step in
    let is : stamps (e ∷ older) given ≡ s ∷ before = step_stamped e older given first in
    let same = settled_same capacity (number_alive (e ∷ older)) (e ∷ older) given in
    record {
      lines = same.lines ∙ ap (lines_in (e ∷ older)) is
          ∙ ap (λ (ls : List SessionLine). lines_in older before ++ map (λ (line : SessionLine). (s, line)) ls)
          (line_of_entry step);
      steps = same.steps ∙ ap (step_stamps (e ∷ older)) is
          ∙ ap (λ (b : Bool). if b then step_stamps older before else s ∷ step_stamps older before) first;
      moment = same.moment ∙ ap latest is;
    }
