-- A generated session that is run step by step stands after each.
use Rattle.std.proofs.Common.{◌≡◌, ℕ, suc, ◌+◌, ◌-◌, ◌^◌, ◌<◌, ◌≤◌, List, [], ◌++◌, length, refl, sym, ap, subst, ◌∙◌, arith, add-one}
use Rattle.std.specs.List.{count_by}
use Rattle.broker_steps.specs.declared.step.Step.{Step}
use Rattle.broker_model.specs.declared.journal.Entry.{Entry}
use Rattle.broker_model.specs.Limits.{is_end, number_counted}
use Rattle.broker_core.specs.Reached.{Reached}
use Rattle.broker_core.specs.Broker.{Broker, begun, IsWatched}
use Rattle.broker_core.specs.Watched.{watched_since}
use Rattle.seat_set.specs.Playing.{IsShort}
use Rattle.session_gen.specs.Generated.{Progress, step_of, step_count}
use Rattle.program_gen.specs.declared.counts.Counts.{Counts}
use Rattle.program_gen.specs.declared.tally.Tally.{Tally}
use Rattle.program_gen.specs.declared.running.Run.{Run}
use Rattle.program_gen.specs.Steps.{after_step}
use Rattle.program_gen.specs.Room.{HasRoom}
use Rattle.program_gen.specs.Journals.{limits, put_sum, method_dones, journal_of, step_at}
use Rattle.program_gen.specs.Counts.{counts_in, counts_of}
use Rattle.program_gen.specs.Tallies.{MayTally, tally_of}
use Rattle.program_gen.specs.Runs.{Stands}
use Rattle.program_gen.proofs.LongerJournals.{grows, ends_and_counted}
use Rattle.program_gen.proofs.RoomLeft.{journal_next, has_room, within}
use Rattle.program_gen.proofs.TalliedSums.{tallied_more}
use Rattle.program_gen.proofs.GeneratedSteps.{IsGenerated, step_sent}
use Rattle.program_gen.proofs.StepsTaken.{same_broker}

abbrev journal_in : Run → List Entry
journal_in run = journal_of run.session.number run.session.made

-- before the first step

journal_first : (n : ℕ) → journal_of n 0 ≡ []
unfolding journal_of
journal_first n = refl

-- the state of all peers before the first step
abbrev empty : Broker
empty = begun limits

pub first_stands : (run : Run) (n : ℕ) → run.session ≡ record { number = n; made = 0 } →
    run.shared ≡ begun limits →
    run.tally ≡ record { dones = 0; activates = 0; method_dones = 0; queued = 0 } → Stands run
first_stands run n e s t =
    let made : run.session.made ≡ 0 = ap (λ (p : Progress). p.made) e in
    let at : journal_in run ≡ [] = ap (λ (p : Progress). journal_of p.number p.made) e ∙ journal_first n in
    record {
      few = omega arith;
      played = same_broker run.shared empty (journal_in run) (ap (λ (b : Broker). b.limits) s)
          (ap (λ (b : Broker). b.journal) s ∙ sym at);
      short = subst (λ (b : Broker). IsShort b.journal b.kept_from) (sym s) (omega arith);
      counted = t ∙ ap tally_of (sym at);
    }

-- the done events that a step may name are within 32 bits, and there is room for the step

pub dones_fit : (run : Run) → Stands run → run.tally.method_dones < 2 ^ 32
dones_fit run s =
    let is : run.tally.method_dones ≡ put_sum method_dones (journal_in run) =
    ap (λ (t : Tally). t.method_dones) s.counted in
    let few = (within run.session.number run.session.made s.few).method_dones in
    omega arith

pub room_for : (run : Run) → Stands run → run.session.made < step_count → HasRoom run.shared.limits run.shared.journal
room_for run s few =
    subst (λ (b : Broker). HasRoom b.limits b.journal) (sym s.played) (has_room run.session.number run.session.made few)

-- the step is that of the session

step_is : (n made : ℕ) → step_at n made ≡ step_of n made (put_sum method_dones (journal_of n made))
unfolding step_at
step_is n made = refl

pub made_step : (run : Run) (step : Step) → Stands run →
    step ≡ step_of run.session.number run.session.made run.tally.method_dones →
    step ≡ step_at run.session.number run.session.made
made_step run step s e =
    e ∙ ap (λ (t : Tally). step_of run.session.number run.session.made t.method_dones) s.counted
    ∙ sym (step_is run.session.number run.session.made)

generated : (n made : ℕ) → IsGenerated (step_at n made)
unfolding step_at
generated n made = step_sent n made (put_sum method_dones (journal_of n made))

-- after a step that was made, played and counted

pub next_stands : (before after : Run) (step : Step) → Stands before → before.session.made < step_count →
    after.session ≡ record before.session { made = before.session.made + 1 } →
    step ≡ step_of before.session.number before.session.made before.tally.method_dones →
    after.shared ≡ record after.shared {
      limits = before.shared.limits;
      journal = after_step before.shared.limits.store step before.shared.journal;
    } → IsWatched MayTally before.shared before.tally after.shared after.tally →
    IsShort after.shared.journal after.shared.kept_from → Stands after
next_stands before after step s few e made p w short =
    let n : ℕ = before.session.number in
    let k : ℕ = before.session.made in
    let journal : List Entry = journal_of n k in
    let later : List Entry = journal_of n (suc k) in
    let step_same : step ≡ step_at n k = made_step before step s made in
    let one : k + 1 ≡ suc k = add-one k in
    let at : journal_in after ≡ later =
    ap (λ (x : Progress). journal_of x.number x.made) e ∙ ap (journal_of n) one in
    let allowed : after.shared.limits ≡ limits =
    ap (λ (b : Broker). b.limits) p ∙ ap (λ (b : Broker). b.limits) s.played in
    let played : after.shared.journal ≡ later =
    ap (λ (b : Broker). b.journal) p ∙ ap (λ (b : Broker). after_step b.limits.store step b.journal) s.played
    ∙ ap (λ (x : Step). after_step limits.store x journal) step_same ∙ sym (journal_next n k) in
    let more = grows limits.store (step_at n k) journal (generated n k) in
    let longer : later ≡ more.more ++ journal = journal_next n k ∙ more.is in
    let told : Reached MayTally before.tally (watched_since limits.store (length journal) later) after.tally =
    subst (λ (j : List Entry). Reached MayTally before.tally
    (watched_since limits.store (length journal) j) after.tally)
    played
    (subst (λ (b : Broker). Reached MayTally before.tally
    (watched_since b.limits.store (length b.journal) after.shared.journal) after.tally) s.played w) in
    let counted = tallied_more journal more.more later before.tally after.tally longer s.counted
    (within n k s.few) told (within n (suc k) (omega arith)) in
    let made_is : after.session.made ≡ k + 1 = ap (λ (x : Progress). x.made) e in
    record {
      few = omega arith;
      played = same_broker after.shared empty (journal_in after) allowed (played ∙ sym at);
      short = short;
      counted = counted ∙ ap tally_of (sym at);
    }

-- what is counted at the end

same_counts : (a b : Counts) → a.entries ≡ b.entries → a.dones ≡ b.dones → a.activates ≡ b.activates →
    a.ends ≡ b.ends → a.queued ≡ b.queued → a ≡ b
same_counts a b e d v n q =
    ap (λ (x : ℕ). record { entries = x; dones = a.dones; activates = a.activates; ends = a.ends; queued = a.queued }) e
    ∙ ap (λ (x : ℕ). record {
      entries = b.entries;
      dones = x;
      activates = a.activates;
      ends = a.ends;
      queued = a.queued;
    }) d
    ∙ ap (λ (x : ℕ). record { entries = b.entries; dones = b.dones; activates = x; ends = a.ends; queued = a.queued }) v
    ∙ ap (λ (x : ℕ). record {
      entries = b.entries;
      dones = b.dones;
      activates = b.activates;
      ends = x;
      queued = a.queued;
    }) n
    ∙ ap (λ (x : ℕ). record {
      entries = b.entries;
      dones = b.dones;
      activates = b.activates;
      ends = b.ends;
      queued = x;
    }) q

pub counted_is : (run : Run) (counts : Counts) (entries : List Entry) → Stands run → entries ≡ run.shared.journal →
    counts.entries ≡ length entries → counts.dones ≡ run.tally.dones → counts.activates ≡ run.tally.activates →
    counts.ends ≡ length entries - number_counted entries → counts.queued ≡ run.tally.queued →
    counts ≡ counts_in (journal_in run)
counted_is run counts entries s j e d v n q =
    let journal : List Entry = journal_in run in
    let is : entries ≡ journal = j ∙ ap (λ (b : Broker). b.journal) s.played in
    let all = ends_and_counted journal in
    let ends : length journal - number_counted journal ≡ count_by is_end journal = omega arith in
    same_counts counts (counts_in journal)
    (e ∙ ap length is)
    (d ∙ ap (λ (t : Tally). t.dones) s.counted)
    (v ∙ ap (λ (t : Tally). t.activates) s.counted)
    (n ∙ ap (λ (x : List Entry). length x - number_counted x) is ∙ ends)
    (q ∙ ap (λ (t : Tally). t.queued) s.counted)

-- a run of the session of n
pub record IsRunOf (n : ℕ) (run : Run) : Type 0 where
  pub stands : Stands run
  pub number : run.session.number ≡ n

pub begins : (n : ℕ) (run : Run) → Stands run → run.session ≡ record { number = n; made = 0 } → IsRunOf n run
begins n run s e = record { stands = s; number = ap (λ (x : Progress). x.number) e }

pub goes_on : (n : ℕ) (before after : Run) → IsRunOf n before → Stands after →
    after.session ≡ record before.session { made = before.session.made + 1 } → IsRunOf n after
goes_on n before after h s e = record { stands = s; number = ap (λ (x : Progress). x.number) e ∙ h.number }

-- at the end all steps are made
pub all_made : (n : ℕ) (run : Run) → IsRunOf n run → step_count - run.session.made ≤ 0 →
    journal_in run ≡ journal_of n step_count
all_made n run h l =
    let few = h.stands.few in
    let all : run.session.made ≡ step_count = omega arith in
    ap (journal_of run.session.number) all ∙ ap (λ (k : ℕ). journal_of k step_count) h.number

-- so their counts are those of the session
pub counted_all : (n : ℕ) (run : Run) (counts : Counts) → IsRunOf n run → step_count - run.session.made ≤ 0 →
    counts ≡ counts_in (journal_in run) → counts ≡ counts_of n
unfolding counts_of
counted_all n run counts h l e = e ∙ ap counts_in (all_made n run h l)
