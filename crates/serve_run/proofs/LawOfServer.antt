-- The server law, from what each part of a run tells
use Rattle.std.proofs.Common.{◌≡◌, ◌≢◌, ◌⊎◌, inl, inr, ⊎_elim, ◌+◌, ◌≤◌, ◌++◌, ◌∷◌, [], ℕ, zero, suc, true, List, length, map, take, drop, Option, Some, None, Result, Ok, Err, OnOk, refl, sym, ap, ◌∙◌, subst, arith, length-append}
use Rattle.std.proofs.lemmas.List.{append_assoc, take_all}
use Rattle.relay_model.specs.declared.role.Role.{Role}
use Rattle.broker_steps.specs.declared.limits.Limits.{Limits}
use Rattle.turn_lock.specs.Pairs.{own, HasSeen, IsIn, IsDistinct, total}
use Rattle.hub_lock.specs.Seats.{fresh_seat}
use Rattle.turn_lock.proofs.PairsOfNumbers.{own-seen}
use Rattle.hub_lock.specs.Histories.{History, broker_of}
use Rattle.hub_lock.specs.Lawful.{IsLawful}
use Rattle.hub_lock.specs.Passes.{HubId, PassSeat}
use Rattle.wio_core.specs.Io.{Rose}
use Rattle.serve_net.specs.declared.door.Door.{Door}
use Rattle.serve_jobs.specs.Tags.{Tag, Report}
use Rattle.serve_words.specs.Words.{Serving, doors_of}
use Rattle.serve_record.specs.declared.record.RecordStop.{RecordStop}
use Rattle.serve_record.specs.declared.record.RecordStop.TheVariants as record_stops
use Rattle.serve_record.specs.Recorded.{recorded}
use Rattle.serve_run.specs.declared.status.ServeStatus.{ServeStatus}
use Rattle.serve_run.specs.declared.status.ServeStatus.TheVariants as statuses
use Rattle.serve_run.specs.declared.stop.Stop.{Stop}
use Rattle.serve_run.specs.declared.stop.Stop.TheVariants as stops
use Rattle.serve_run.specs.LinkJobs.{LinkedJob, role_at, job_reported, job_tagged, jobs_of, joins_of, passes_of}
use Rattle.serve_run.specs.Opened.{AreOpened}
use Rattle.serve_run.specs.Reported.{HaveLaws, AreTaken}
use Rattle.serve_run.specs.Started.{LinksStarted}
use Rattle.serve_run.specs.Refused.{WasRefused, IsRefusedAt, JoinedUnless}
use Rattle.serve_run.specs.Unserved.{AreUnserved, pushed}
use Rattle.peer_link.specs.Made.{journal_of, IsAtLimit}
use Rattle.serve_run.specs.Statuses.{status_by, status_with, worst}
use Rattle.serve_run.specs.Written.{IsRecorded}
use Rattle.serve_run.specs.ServerLaw.{Sides, ServerLaw, IsWritten, text_of}
use Rattle.serve_run.proofs.LawsKept.{seen_through, laws_kept}
use Rattle.serve_run.proofs.FullJournals.{status_full}
use Rattle.serve_run.proofs.StatusWritten.{written_with, fault_with, status_is}
use Rattle.serve_run.proofs.PassesBack.{unserved_stay}
use Rattle.serve_run.proofs.NumbersTaken.{AllIn, jobs_from, once_both, all_in, of_jobs}
use Rattle.serve_run.proofs.OnlyRootJoins.{plain_reports, plain_unserved, plain_pushed, only_root}

drop_front : {A : Type 0} (xs ys : List A) (n : ℕ) → n ≡ length xs → drop n (xs ++ ys) ≡ ys
drop_front [] ys zero is = refl
drop_front [] ys (suc n) is = absurd (omega arith)
drop_front (x ∷ xs) ys zero is = absurd (omega arith)
drop_front (x ∷ xs) ys (suc n) is = drop_front xs ys n (omega arith)

-- what was refused stays refused

refused_stays : (limits : Limits) (a b more : History) (role : Option Role) (stop : Result (Unit {0}) Stop) →
    b ≡ a ++ more
    → WasRefused limits a role stop → WasRefused limits b role stop
refused_stays limits a b more None stop is was = absurd was
refused_stays limits a b more (Some role) stop is was = (
  was.0,
  was.1,
  record {
    earlier = was.2.earlier;
    later = was.2.later ++ more;
    is = is ∙ (ap (λ h. h ++ more) was.2.is ∙ append_assoc was.2.earlier was.2.later more);
    by_rule = was.2.by_rule;
    otherwise = was.2.otherwise;
  },
)

unless_stays : (limits : Limits) (a b : History) (letters : List ℕ) (joined accepted : ℕ)
    (stop : Result (Unit {0}) Stop)
    (more : History) → b ≡ a ++ more → JoinedUnless limits a letters joined accepted stop
    → JoinedUnless limits b letters joined accepted stop
unless_stays limits a b letters joined accepted stop more is unless =
    ⊎_elim (λ all. inl all)
    (λ (at : IsRefusedAt limits a letters joined accepted stop).
    inr (at.0, at.1, at.2, refused_stays limits a b more (role_at at.1) stop is at.3)) unless

-- what the accepting, the collecting, the copying and the writing tell of a run
pub record Run (asked : Serving) (before after : Sides) (status : ServeStatus) : Type 0 where
  pub hub : HubId
  pub limits : hub.limits ≡ asked.limits
  pub first : PassSeat
  pub new : first ≡ fresh_seat hub.turn 0 (Some hub.limits) []
  pub idle : length before.reports ≡ length before.started
  -- links
  pub linked : PassSeat
  pub count : ℕ
  pub within : count ≤ length asked.order
  pub doors : after.links ≡ before.links ++ take count (doors_of asked.order)
  pub hung_up : after.hung_up ≡ length after.links
  pub accepted : Result (Unit {0}) Stop
  pub links : LinksStarted hub first linked before.started after.started asked.order
      (length before.links + 1) count accepted
  pub all : OnOk accepted (count ≡ length asked.order)
  pub opened : AreOpened before.links after.links before.listens after.listens accepted
  pub doors_open : OnOk accepted ((d : Door) → after.opened d ≡ true)
  pub starts : (after.before_start ≡ before.before_start) ⊎ (after.before_start ≡ length before.reports)
  pub net : accepted ≡ Err stops.NetFault → Rose before.net_faults after.net_faults
  pub threads : accepted ≡ Err stops.NoThread → Rose before.refusals after.refusals
  pub no_net : accepted ≢ Err stops.NetFault → after.net_faults ≡ before.net_faults
  pub no_thread : accepted ≢ Err stops.NoThread → after.refusals ≡ before.refusals
  -- results
  pub collected : PassSeat
  pub mine : HasSeen collected.seen 0 linked.seen
  pub kept : (n : ℕ) → IsIn n linked.taken → IsIn n collected.taken × HasSeen collected.seen n linked.seen
  pub given : List Report
  pub reports : after.reports ≡ before.reports ++ given
  pub laws : HaveLaws hub.limits collected.seen given
  pub in_taken : AreTaken collected.taken given
  pub taken : collected.taken ≡ pushed (map job_reported given) linked.taken
  pub keyed : map job_reported given ≡ map job_tagged (take (length given) (drop (length before.reports) after.started))
  pub all_given : length after.reports ≡ length after.started
  -- the copy
  pub history : History
  pub copied : HasSeen history 0 collected.seen
  pub settled : (n : ℕ) → IsIn n collected.taken → HasSeen history n collected.seen
  pub lawful : IsLawful hub.limits history
  pub owned : total (0 ∷ collected.taken) history ≡ length history
  -- the text
  pub written : Result (Unit {0}) RecordStop
  pub recorded : IsRecorded hub.limits before.held after.held history written
  pub fault : written ≡ Err record_stops.WriteFault → Rose before.output_faults after.output_faults
  pub no_fault : written ≢ Err record_stops.WriteFault → after.output_faults ≡ before.output_faults
  pub status_is : status ≡ status_with written accepted (worst given)

-- it keeps the server law
pub law_of : (asked : Serving) (before after : Sides) (status : ServeStatus) → Run asked before after status
    → ServerLaw asked before after status
law_of asked before after status run =
    let links = run.links in
    let next_is : run.first.next ≡ 1 = ap (λ (s : PassSeat). s.next) run.new in
    let no_joins : own 0 run.first.seen ≡ [] = ap (λ (s : PassSeat). own 0 s.seen) run.new in
    let long = ap length run.reports ∙ length-append before.reports run.given in
    let many = ap length links.jobs.are ∙ length-append before.started tags in
    let same = run.idle in
    let all = run.all_given in
    let behind : drop (length before.reports) after.started ≡ tags =
    ap (drop (length before.reports)) links.jobs.are ∙ drop_front before.started tags (length before.reports) same in
    let few : length tags ≤ length run.given = omega arith in
    let are = are_served behind few next_is in
    let laws = kept_laws in
    let unserved = kept_unserved next_is in
    record {
      history = run.history;
      lawful = subst (λ l. IsLawful l run.history) run.limits run.lawful;
      written = written_is;
      accepted = run.count;
      within = run.within;
      doors = run.doors;
      hung_up = run.hung_up;
      joined = links.joined;
      none_more = links.none_more;
      near = links.near;
      refused = refused_is;
      joins = own-seen run.history run.collected.seen 0 run.copied
          ∙ (own-seen run.collected.seen run.linked.seen 0 run.mine
          ∙ (links.joins ∙ (ap (λ o. o ++ joins_of run.first.next (take links.joined asked.order)) no_joins
          ∙ ap (λ n. joins_of n (take links.joined asked.order)) next_is)));
      given = run.given;
      reports = run.reports;
      served = links.count;
      of_links = of_jobs run.links.count jobs run.history
          (subst (λ taken. AllIn (0 ∷ taken) run.history) (taken_is are next_is) (each_in are next_is));
      only_root = only_root run.collected.taken run.history (each_in are next_is)
          (λ n out. plain_pushed run.history (map job_reported run.given) (pushed (drop links.count jobs) [])
          (plain_reports asked.limits run.history run.given laws)
          (plain_pushed run.history (drop links.count jobs) [] (plain_unserved asked.limits run.history _ unserved)
          (λ m i. absurd i))
          n (subst (IsIn n) (back_is next_is) out));
      are = are;
      before_last = links.before_last;
      laws = laws;
      lacks = links.lacks;
      unserved = unserved;
      as_many = omega arith;
      starts = run.starts;
      stop = run.accepted;
      all_accepted = run.all;
      all_joined = links.all_joined;
      all_served = whole run.accepted links.all_started links.all_joined run.all;
      opened = run.opened;
      all_open = run.doors_open;
      net = run.net;
      threads = run.threads;
      no_net = run.no_net;
      no_thread = run.no_thread;
      write = λ is. run.fault (fault_with run.written run.accepted (worst run.given) (sym run.status_is ∙ is));
      no_write = λ other. run.no_fault
          (λ is. other (run.status_is ∙ ap (λ r. status_with r run.accepted (worst run.given)) is));
      full = λ is. full_by laws is cases;
      status_is = cases;
    }
  where
    first_link : ℕ
    first_link = length before.links + 1

    jobs : List LinkedJob
    jobs = jobs_of 1 first_link (take run.links.joined asked.order)

    tags : List Tag
    tags = run.links.jobs.tags

    cases : (status ≡ status_by run.accepted (worst run.given))
        ⊎ ((status ≡ statuses.WriteFault) ⊎ (status ≡ statuses.NoMemory))
    cases = status_is status run.written run.accepted (worst run.given) run.status_is

    written_is : IsWritten status before.held after.held (text_of asked run.history)
    written_is =
        subst (λ l. IsWritten status before.held after.held
        (recorded l (broker_of l run.history).journal (broker_of l run.history).stamps)) run.limits
        (subst (λ s. IsWritten s before.held after.held
        (recorded run.hub.limits (broker_of run.hub.limits run.history).journal
        (broker_of run.hub.limits run.history).stamps)) (sym run.status_is)
        (written_with run.hub.limits before.held after.held run.history run.written run.accepted (worst run.given)
        run.recorded))

    refused_is : JoinedUnless asked.limits run.history asked.order run.links.joined run.count run.accepted
    refused_is =
        subst (λ l. JoinedUnless l run.history asked.order run.links.joined run.count run.accepted) run.limits
        (unless_stays run.hub.limits run.linked.seen run.history asked.order run.links.joined run.count run.accepted
        (seen_through run.history run.collected.seen run.linked.seen 0 run.copied run.mine).0
        (seen_through run.history run.collected.seen run.linked.seen 0 run.copied run.mine).1 run.links.refused)

    are_served : drop (length before.reports) after.started ≡ tags → length tags ≤ length run.given → run.first.next ≡ 1
        → map job_reported run.given ≡ take run.links.count jobs
    are_served behind few next_is =
        run.keyed ∙ (ap (λ t. map job_tagged (take (length run.given) t)) behind
        ∙ (ap (map job_tagged) (take_all (length run.given) tags few)
        ∙ (run.links.jobs.jobs_are
        ∙ ap (λ n. take run.links.count (jobs_of n first_link (take run.links.joined asked.order))) next_is)))

    kept_laws : HaveLaws asked.limits run.history run.given
    kept_laws =
        subst (λ l. HaveLaws l run.history run.given) run.limits
        (laws_kept run.hub.limits run.collected.seen run.history run.collected.taken run.given run.settled run.in_taken
        run.laws)

    kept_unserved : run.first.next ≡ 1 → AreUnserved asked.limits run.history (drop run.links.count jobs)
    kept_unserved next_is =
        subst (λ n. AreUnserved asked.limits run.history
        (drop run.links.count (jobs_of n first_link (take run.links.joined asked.order)))) next_is
        (subst (λ l. AreUnserved l run.history
        (drop run.links.count (jobs_of run.first.next first_link (take run.links.joined asked.order)))) run.limits
        (unserved_stay run.hub.limits run.linked.seen run.history run.first.taken _
        (λ n out. let back = subst (IsIn n) (sym run.links.others.taken) out in
        seen_through run.history run.collected.seen run.linked.seen n (run.settled n (run.kept n back).0)
        (run.kept n back).1)
        run.links.others.made))

    back_is : run.first.next ≡ 1 →
        run.collected.taken ≡ pushed (map job_reported run.given) (pushed (drop run.links.count jobs) [])
    back_is next_is =
        run.taken ∙ ap (pushed (map job_reported run.given))
        (run.links.others.taken
        ∙ (ap (λ (s : PassSeat). pushed
        (drop run.links.count (jobs_of run.first.next first_link (take run.links.joined asked.order))) s.taken) run.new
        ∙ ap (λ n. pushed (drop run.links.count (jobs_of n first_link (take run.links.joined asked.order))) [])
        next_is))

    taken_is : map job_reported run.given ≡ take run.links.count jobs → run.first.next ≡ 1
        → run.collected.taken ≡ pushed (take run.links.count jobs) (pushed (drop run.links.count jobs) [])
    taken_is are next_is = back_is next_is ∙ ap (λ js. pushed js (pushed (drop run.links.count jobs) [])) are

    each_in : map job_reported run.given ≡ take run.links.count jobs → run.first.next ≡ 1
        → AllIn (0 ∷ run.collected.taken) run.history
    each_in are next_is =
        all_in (0 ∷ run.collected.taken) run.history
        (subst (λ taken. IsDistinct (0 ∷ taken)) (sym (taken_is are next_is))
        (once_both run.links.count jobs (jobs_from 1 first_link (take run.links.joined asked.order))))
        run.owned

    full_by : HaveLaws asked.limits run.history run.given → status ≡ statuses.JournalFull
        → (status ≡ status_by run.accepted (worst run.given))
        ⊎ ((status ≡ statuses.WriteFault) ⊎ (status ≡ statuses.NoMemory))
        → IsAtLimit asked.limits (journal_of asked.limits run.history)
    full_by laws is (inl by) =
        status_full asked.limits run.history asked.order run.links.joined run.count run.accepted run.given refused_is laws
        (sym by ∙ is)
    full_by laws is (inr (inl fault)) = absurd (let no : statuses.WriteFault ≡ statuses.JournalFull = sym fault ∙ is in cc)
    full_by laws is (inr (inr none)) = absurd (let no : statuses.NoMemory ≡ statuses.JournalFull = sym none ∙ is in cc)

    whole : (r : Result (Unit {0}) Stop) → OnOk r (run.links.count ≡ passes_of (take run.links.joined asked.order))
        → OnOk r (run.links.joined ≡ run.count) → OnOk r (run.count ≡ length asked.order)
        → OnOk r (run.links.count ≡ passes_of asked.order)
    whole (Ok done) one two three = one ∙ ap passes_of (take_all run.links.joined asked.order (omega arith))
    whole (Err stop) one two three = tt
