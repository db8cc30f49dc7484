-- A set-up has few messages, and so many steps has a job whose user didn't begin
use Rattle.std.proofs.Common.{◌≡◌, ◌≤◌, ℕ, ◌+◌, ◌*◌, List, [], ◌∷◌, ◌++◌, map, length, inl, inr, ap, ◌∙◌, arith, length-append}
use Rattle.std.specs.Prelude.{◌⊎◌}
use Rattle.std.specs.List.{AllByRecursion}
use Rattle.std.proofs.lemmas.List.{length-map}
use Rattle.wl_wire.specs.Spelling.{word_bytes}
use Rattle.wl_wire.specs.Messages.{messages, joined, AreMessages}
use Rattle.wl_wire.proofs.MessagesHoweverCut.{longest}
use Rattle.trial_job_laws.specs.Grammar.{Value}
use Rattle.trial_job_laws.specs.Spelling.{values_len, spelling, row_bytes, message_len}
use Rattle.trial_job_laws.proofs.WrittenIsWhole.{spelling_length}
use Rattle.client_side.specs.Messages.{Sent, spelled, field_setup, method_setup}
use Rattle.broker_steps.specs.declared.limits.Limits.{Limits}
use Rattle.broker_model.specs.declared.journal.Entry.{Entry}
use Rattle.turn_lock.specs.Pairs.{own, total, NoneOf}
use Rattle.turn_lock.proofs.PairsOfNumbers.{own-seen}
use Rattle.hub_lock.specs.declared.step.OuterStep.{OuterStep}
use Rattle.hub_lock.specs.Histories.{History}
use Rattle.hub_lock.specs.Passes.{HubId, PassSeat, PeerPass, steps_of}
use Rattle.hub_calls.specs.Made.{entries_by}
use Rattle.hub_calls.specs.Submitted.{message_entry, entries_in}
use Rattle.trial_typing.specs.Fronts.{IsFrontOf}
use Rattle.trial_typing.specs.Sending.{HasMade}
use Rattle.trial_jobs.specs.declared.job.TrialJob.{TrialJob}
use Rattle.trial_jobs.specs.declared.job.TrialJob.TheVariants as jobs
use Rattle.trial_jobs.specs.JobLaw.{IsReady}
use Rattle.trial_threads.specs.NoJobs.{count_in, count_of}
use Rattle.trial_threads.specs.declared.running.Running.{Running}
use Rattle.trial_threads.specs.Back.{numbers_of, numbers_after}
use Rattle.trial_threads.specs.Jobs.{IsIdle, AreIdle}
use Rattle.trial_threads.specs.Whole.{IsSeenBy, ArePasses}

-- ---- messages by the bytes that they take

joined_long : (ms : List (List ℕ)) → AreMessages ms → 8 * length ms ≤ length (joined ms)
joined_long [] each = omega arith
joined_long (m ∷ ms) each =
    let more = joined_long ms each.1 in
    let least = each.0.0.0 in
    let size = each.0.1 in
    let both = length-append m (joined ms) in omega arith

count_short : (bytes : List ℕ) → 8 * count_in bytes ≤ length bytes
count_short bytes =
    let k = longest bytes in
    let long = joined_long (messages bytes) k.each in
    let whole = ap length k.front ∙ length-append (joined (messages bytes)) k.rest in omega arith

-- as long as a message is written
row_long : (id opcode : ℕ) (vs : List Value) → length (row_bytes id opcode vs) ≡ 8 + values_len vs
unfolding row_bytes
row_long id opcode vs =
    let head : List ℕ = word_bytes id ++ word_bytes (65536 * (8 + values_len vs) + opcode) in
    omega (arith, length-append head (spelling vs), spelling_length vs)

abbrev sent_len : List Sent → ℕ
sent_len [] = 0
sent_len (s ∷ more) = message_len s.message + sent_len more

spelled_long : (ss : List Sent) → length (spelled ss) ≡ sent_len ss
spelled_long [] = omega arith
spelled_long (s ∷ more) =
    let rest = spelled_long more in
    let one = row_long s.object s.message.opcode s.message.values in
    let both = length-append (row_bytes s.object s.message.opcode s.message.values) (spelled more) in omega arith

count_within : (ss : List Sent) (n : ℕ) → sent_len ss ≤ n → 8 * count_of ss ≤ n
count_within ss n le =
    let short = count_short (spelled ss) in
    let long = spelled_long ss in omega (arith, short, long, le)

eighth : (count n : ℕ) → 8 * count ≤ n → n ≤ 167 → count ≤ 20
eighth count n le few = omega (arith, le, few)

pub field_few : count_of field_setup ≤ 20
field_few = eighth (count_of field_setup) 164 (count_within field_setup 164 (omega arith)) (omega arith)

pub method_few : count_of method_setup ≤ 20
method_few = eighth (count_of method_setup) 164 (count_within method_setup 164 (omega arith)) (omega arith)

-- ---- a reader that has submitted a set-up alone

abbrev entry_in : OuterStep → Entry
entry_in step = step.entry

entries_many : (q : ℕ) (ss : List Sent) → length (entries_in q (spelled ss)) ≡ count_of ss
entries_many q ss = length-map (messages (spelled ss)) (message_entry q)

made_few : (limits : Limits) (reader : PeerPass) (ss : List Sent) → HasMade limits reader ss →
    steps_of reader.seat ≤ count_of ss
made_few limits reader ss (inl e) =
    let all = ap length e ∙ entries_many reader.peer ss in
    let steps = length-map (own reader.seat.number reader.seat.seen) entry_in in omega (arith, all, steps)
made_few limits reader ss (inr k) =
    let whole = ap length k.0.is ∙ length-append (entries_by reader.seat) k.0.rest in
    let all = entries_many reader.peer ss in
    let steps = length-map (own reader.seat.number reader.seat.seen) entry_in in omega (arith, all, steps, whole)

peer_few : (limits : Limits) (h : History) (reader writer : PeerPass) (ss : List Sent) (most : ℕ) →
    count_of ss ≤ most → IsSeenBy h reader.seat → IsSeenBy h writer.seat →
    NoneOf writer.seat.number writer.seat.seen → HasMade limits reader ss →
    total (writer.seat.number ∷ reader.seat.number ∷ []) h ≤ most
peer_few limits h reader writer ss most le reads writes fresh made =
    let w = ap length (own-seen h writer.seat.seen writer.seat.number writes ∙ fresh) in
    let r = ap length (own-seen h reader.seat.seen reader.seat.number reads) in
    let few = made_few limits reader ss made in omega (arith, w, r, few, le)

none_made : (h : History) (pass : PassSeat) → IsSeenBy h pass → entries_by pass ≡ [] →
    total (pass.number ∷ []) h ≤ 20
none_made h pass seen none =
    let p = ap length (own-seen h pass.seen pass.number seen) in
    let steps = length-map (own pass.number pass.seen) entry_in in
    let zero = ap length none in omega (arith, p, steps, zero)

job_few : (hub : HubId) (h : History) (job : TrialJob) → IsReady hub job → ArePasses h job →
    total (numbers_of job) h ≤ 20
job_few hub h (jobs.Field job) r s =
    peer_few hub.limits h job.reader job.writer field_setup 20 field_few s.0 s.1 r.begun.fresh r.begun.sent
job_few hub h (jobs.Method job) r s =
    peer_few hub.limits h job.reader job.writer method_setup 20 method_few s.0 s.1 r.begun.fresh r.begun.sent
job_few hub h (jobs.Shell job) r s = none_made h job.pass s r.none

-- ---- all of them

total_append : (a b : List ℕ) (h : History) → total (a ++ b) h ≡ total a h + total b h
total_append [] b h = omega arith
total_append (n ∷ a) b h = let more = total_append a b h in omega arith

pub all_few : (hub : HubId) (h : History) (ns : List ℕ) (rs : List Running) → AreIdle hub rs →
    AllByRecursion (λ (r : Running). ArePasses h r.job) rs →
    total (numbers_after ns rs) h ≤ total ns h + 20 * length rs
all_few hub h ns [] idle seen = omega arith
all_few hub h ns (r ∷ rs) idle seen =
    let rest = all_few hub h (numbers_of r.job ++ ns) rs idle.1 seen.1 in
    let both = total_append (numbers_of r.job) ns h in
    let one = job_few hub h r.job idle.0.ready seen.0 in omega arith
