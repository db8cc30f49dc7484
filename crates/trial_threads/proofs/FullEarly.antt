-- A journal of few steps isn't full
use Rattle.std.proofs.Common.{◌≡◌, ◌≤◌, ◌<◌, ℕ, ◌+◌, ◌*◌, Bool, true, false, cond, List, [], ◌∷◌, ◌++◌, length, Option, Some, None, refl, sym, ap, subst, ◌∙◌, arith, length-append}
use Rattle.std.specs.Prelude.{◌&&◌, ◌||◌, not, nat_le, nat_lt, if◌then◌else◌}
use Rattle.std.proofs.lemmas.Bool.{le-ltb, lt-leb}
use Rattle.broker_steps.specs.declared.limits.Limits.{Limits}
use Rattle.broker_model.specs.declared.journal.Entry.{Entry}
use Rattle.broker_model.specs.declared.journal.Entry.TheVariants as entries
use Rattle.broker_model.specs.declared.journal.Kept.{Kept}
use Rattle.broker_model.specs.Limits.{is_end, is_counted, number_counted, weight_of, weight}
use Rattle.broker_model.specs.Settle.{history}
use Rattle.broker_core.specs.Broker.{kept_in, full_in}
use Rattle.broker_core.proofs.AliveAfterEntry.{counted_cons, weight_cons, same_settled}
use Rattle.hub_lock.specs.Histories.{History, entries_of}
use Rattle.hub_lock.specs.Lawful.{IsLawful}
use Rattle.hub_lock.specs.Steps.{IsGiven, AreLegalEntries}
use Rattle.hub_lock.proofs.JournalOfSteps.{length-entries}
use Rattle.hub_calls.specs.Made.{journal_of}
use Rattle.hub_calls.proofs.OthersTakeNothing.{entries-append}
use Rattle.trial_threads.specs.NoJobs.{WasFull}

-- each entry counts as one at most, and is no heavier than a message may be

counts_one : (b : Bool) → cond b 1 0 ≤ 1
counts_one true = omega arith
counts_one false = omega arith

weighs_few : (e : Entry) → IsGiven e → weight_of e ≤ 4104
weighs_few (entries.Join role) g = omega arith
weighs_few (entries.Message q id opcode body) g = let most = g.4.0 in omega arith
weighs_few (entries.Tokens q tokens) g = let most = g.1.1 in omega arith
weighs_few (entries.BadSize q head) g = omega arith
weighs_few (entries.End q cause) g = omega arith
weighs_few (entries.Shell step) g = omega arith
weighs_few (entries.Took q bytes) g = omega arith

-- the journal of so many steps
record IsSmall (journal : List Entry) (n : ℕ) : Type 0 where
  counted : number_counted journal ≤ n
  light : weight journal ≤ 4104 * n

small : (limits : Limits) (es : List Entry) → AreLegalEntries limits es →
    IsSmall (history limits.store es) (length es)
small limits [] legal = record { counted = omega arith; light = omega arith }
small limits (e ∷ older) legal =
    let before : List Entry = history limits.store older in
    let rest = small limits older legal.1 in
    let same = same_settled limits.store (e ∷ before) in
    record {
      counted = (let a = rest.counted in let s = same.counted in let c = counted_cons e before in
          let one = counts_one (is_counted e) in omega arith);
      light = (let a = rest.light in let s = same.weighs in let w = weight_cons e before in
          let few = weighs_few e legal.0.given in omega arith);
    }

legal_older : (limits : Limits) (newer older : List Entry) → AreLegalEntries limits (newer ++ older) →
    AreLegalEntries limits older
legal_older limits [] older k = k
legal_older limits (e ∷ newer) older k = legal_older limits newer older k.1

front_small : (limits : Limits) (h front more : History) → h ≡ front ++ more → IsLawful limits h →
    IsSmall (journal_of limits front) (length front)
front_small limits h front more is lawful =
    let legal : AreLegalEntries limits (entries_of more ++ entries_of front) =
    subst (AreLegalEntries limits) (ap entries_of is ∙ entries-append front more) lawful.legal.entries in
    subst (IsSmall (journal_of limits front)) (length-entries front)
    (small limits (entries_of front) (legal_older limits (entries_of more) (entries_of front) legal))

not_full : (a b c : Bool) (k kept : Kept) → b ≡ false → c ≡ false →
    (if a && (b || c) then Some k else None) ≡ Some kept → ⊥
not_full true true c k kept l w e = absurd (cc)
not_full true false true k kept l w e = absurd (cc)
not_full true false false k kept l w e = absurd (cc)
not_full false b c k kept l w e = absurd (cc)

pub never_full : (limits : Limits) (h : History) (kept : Kept) (n : ℕ) → WasFull limits h kept → IsLawful limits h →
    length h ≤ n → n < limits.entries → 4104 * (n + 1) ≤ limits.weight → ⊥
never_full limits h kept n w lawful long entries weighs =
    let J : List Entry = journal_of limits w.front in
    let s = front_small limits h w.front w.more w.is lawful in
    let counted = s.counted in
    let light = s.light in
    let one = w.light in
    let parts = ap length w.is ∙ length-append w.front w.more in
    let few : number_counted J < limits.entries = omega (arith, counted, parts, long, entries) in
    let less : weight J + weight_of w.entry ≤ limits.weight = omega (arith, light, one, parts, long, weighs) in
    not_full (not (is_end w.entry)) (nat_le limits.entries (number_counted J))
    (nat_lt limits.weight (weight J + weight_of w.entry)) (kept_in J) kept
    (lt-leb limits.entries (number_counted J) few) (le-ltb limits.weight (weight J + weight_of w.entry) less) w.full
