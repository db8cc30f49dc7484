-- The journal isn't full before all users' peers have joined
use Rattle.std.proofs.Common.{◌≡◌, ◌≤◌, ◌<◌, ℕ, ◌+◌, ◌*◌, List, [], ◌∷◌, ◌++◌, length, Ok, refl, sym, ap, subst, ◌∙◌, inl, inr, arith, append_assoc}
use Rattle.std.specs.List.{AllByRecursion}
use Rattle.broker_steps.specs.declared.limits.Limits.{Limits}
use Rattle.broker_model.specs.declared.journal.Kept.{Kept}
use Rattle.broker_model.specs.Settle.{outer}
use Rattle.trial_client_logs.specs.declared.entry.FieldEntry.{FieldEntry}
use Rattle.trial_client_logs.specs.declared.method_log.MethodEntry.{MethodEntry}
use Rattle.client_side.specs.Messages.{field_setup, method_setup}
use Rattle.turn_lock.specs.Pairs.{own, total, HasSeen, IsIn}
use Rattle.hub_lock.specs.Seats.{having_seen}
use Rattle.turn_lock.proofs.PairsOfNumbers.{own-seen}
use Rattle.hub_lock.specs.declared.session.Session.{Session}
use Rattle.hub_lock.specs.Histories.{History}
use Rattle.hub_lock.specs.Passes.{HubId, PassSeat, steps_of, total_steps}
use Rattle.hub_lock.specs.Calls.{LegalCopy}
use Rattle.hub_calls.proofs.PassesCounted.{seen_stays}
use Rattle.trial_run.specs.Trial.{trial_limits}
use Rattle.trial_threads.specs.NoJobs.{WasFull, count_of}
use Rattle.trial_threads.specs.declared.running.Running.{Running}
use Rattle.trial_threads.specs.Jobs.{AreIdle}
use Rattle.trial_threads.specs.Back.{numbers_after, numbers_in, TookAllBack}
use Rattle.trial_threads.specs.BegunJobs.{WasFullEarly}
use Rattle.trial_threads.specs.Whole.{ArePasses}
use Rattle.trial_threads.proofs.FullEarly.{never_full}
use Rattle.trial_threads.proofs.PassesAll.{as_long, seen_since}
use Rattle.trial_threads.proofs.SetupsCounted.{field_few, method_few, all_few}

entries_are : trial_limits.entries ≡ 1000000
unfolding trial_limits
entries_are = refl

weight_is : trial_limits.weight ≡ 134217728
unfolding trial_limits
weight_is = refl

-- what numbers made of two histories
same_total : (ns : List ℕ) (a b : History) → ((n : ℕ) → IsIn n ns → own n a ≡ own n b) → total ns a ≡ total ns b
same_total [] a b f = refl
same_total (n ∷ ns) a b f =
    let one = ap length (f n (inl refl)) in
    let more = same_total ns a b (λ m i. f m (inr i)) in omega (arith, one, more)

full_on : (limits : Limits) (a h rest : History) (kept : Kept) → h ≡ a ++ rest → WasFull limits a kept →
    WasFull limits h kept
full_on limits a h rest kept is w = record {
  front = w.front;
  more = w.more ++ rest;
  is = is ∙ ap (λ (x : History). x ++ rest) w.is ∙ append_assoc w.front w.more rest;
  entry = w.entry;
  light = w.light;
  full = w.full;
}

few_steps : (all mine others back jobs long cf cm : ℕ) → all ≡ mine + others → others ≤ back + 20 * jobs →
    mine ≤ jobs + 1 → jobs ≤ 17 → back ≤ cf + cm → cf ≤ 20 → cm ≤ 20 → long ≡ all → long ≤ 1000
few_steps all mine others back jobs long cf cm one two three four five six seven eight =
    omega (arith, one, two, three, four, five, six, seven, eight)

pub never_early : (hub : HubId) (root root' root'' : PassSeat) (rs : List Running) (fields : List (List FieldEntry))
    (method : List MethodEntry) (s : Session) (kept : Kept) → WasFullEarly hub.limits root rs kept → AreIdle hub rs →
    AllByRecursion (λ (r : Running). ArePasses root''.seen r.job) rs → TookAllBack root root' rs fields method →
    ((n : ℕ) → IsIn n root'.taken → HasSeen root''.seen n root'.seen) →
    LegalCopy hub.limits root' root''.seen (Ok s) → root'' ≡ having_seen root' root''.seen →
    (root'.out ≡ 0 → length (outer s.journal.entries) ≡ total_steps root'') → hub.limits ≡ trial_limits → ⊥
never_early hub root root' root'' rs fields method s kept w idle seen took settled legal is steps limits =
    let h : History = root''.seen in
    let out : root'.out ≡ 0 = (let a = took.out in let b = w.out in omega (arith, a, b)) in
    let mine : HasSeen h 0 root.seen = seen_since hub.limits root root' rs fields method h s w.number took legal in
    let taken : root''.taken ≡ numbers_after root.taken rs = ap (λ (x : PassSeat). x.taken) is ∙ took.numbers in
    let long : length h ≡ total (0 ∷ root''.taken) h = sym (as_long hub.limits root' root'' s legal) ∙ steps out in
    let all : total (0 ∷ root''.taken) h ≡ length (own 0 h) + total (numbers_after root.taken rs) h =
    ap (λ (ns : List ℕ). total (0 ∷ ns) h) taken in
    let made : length (own 0 h) ≤ length rs + 1 =
    subst (λ (n : ℕ). n ≤ length rs + 1)
    (ap (λ (n : ℕ). length (own n root.seen)) w.number ∙ ap length (sym (own-seen h root.seen 0 mine))) w.made in
    let back : total root.taken h ≡ total root.taken root.seen =
    same_total root.taken h root.seen (λ n i. own-seen h root.seen n
    (seen_stays h root'.seen root.seen n (settled n (took.sees.taken n i)) (took.sees.settled n i))) in
    let few = few_steps (total (0 ∷ root''.taken) h) (length (own 0 h)) (total (numbers_after root.taken rs) h)
    (total root.taken h) (length rs) (length h) (count_of field_setup) (count_of method_setup) all (all_few hub h root.taken rs idle seen) made w.jobs
    (subst (λ (n : ℕ). n ≤ count_of field_setup + count_of method_setup) (sym back) w.few) field_few method_few long in
    let entries : hub.limits.entries ≡ 1000000 = ap (λ (l : Limits). l.entries) limits ∙ entries_are in
    let weight : hub.limits.weight ≡ 134217728 = ap (λ (l : Limits). l.weight) limits ∙ weight_is in
    never_full hub.limits h kept 1000 (full_on hub.limits root.seen h mine.0 kept mine.1 w.full) legal.lawful_after few
    (omega (arith, entries)) (omega (arith, weight))
