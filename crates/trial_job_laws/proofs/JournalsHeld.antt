-- What holds of each entry of a lawful journal
use Rattle.std.proofs.Common.{ℕ, zero, suc, ◌≤◌, List, [], ◌∷◌, Option, Some, None, arith}
use Rattle.std.specs.List.{AllByRecursion}
use Rattle.relay_model.specs.declared.act.EndCause.{EndCause}
use Rattle.broker_steps.specs.declared.limits.Limits.{Limits}
use Rattle.broker_steps.specs.declared.step.ShellStep.{ShellStep}
use Rattle.broker_steps.specs.declared.step.ShellStep.TheVariants as shells
use Rattle.broker_model.specs.declared.journal.Entry.{Entry}
use Rattle.broker_model.specs.declared.journal.Entry.TheVariants as entries
use Rattle.broker_model.specs.Settle.{due, cause_of, with_end, settled, number_alive, history}
use Rattle.broker_core.proofs.ActTextsFit.{IsBodyShort}
use Rattle.hub_lock.specs.Histories.{History, entries_of}
use Rattle.hub_lock.specs.Lawful.{IsLawful}
use Rattle.hub_lock.specs.Steps.{IsGiven, AreLegalEntries}
use Rattle.hub_calls.specs.Made.{journal_of}
use Rattle.broker_telling.specs.Sayable.{HasBytes, AreBytes, IsHeld, AreHeld}
use Rattle.trial_laws.proofs.BatchesRelayed.{AreShortBodies}

-- ---- what holds of each step and of ends

abbrev pub HoldsOfEnds : (Entry → Type 0) → Type 0
HoldsOfEnds P = (q : ℕ) (cause : EndCause) → P (entries.End q cause)

ends_by : (P : Entry → Type 0) → HoldsOfEnds P → (capacity fuel : ℕ) (journal : List Entry) (o : Option ℕ) →
    AllByRecursion P journal →
    ((later : List Entry) → AllByRecursion P later → AllByRecursion P (settled capacity fuel later)) →
    AllByRecursion P (settled capacity fuel (with_end journal o))
ends_by P end capacity fuel journal None all k = k journal all
ends_by P end capacity fuel journal (Some q) all k =
    k (entries.End q (cause_of journal q) ∷ journal) (end q (cause_of journal q), all)

ends_too : (P : Entry → Type 0) → HoldsOfEnds P → (capacity fuel : ℕ) (journal : List Entry) →
    AllByRecursion P journal → AllByRecursion P (settled capacity fuel journal)
ends_too P end capacity zero journal all = all
ends_too P end capacity (suc fuel) journal all =
    ends_by P end capacity fuel journal (due capacity journal) all (ends_too P end capacity fuel)

-- it holds of each entry
pub each_entry : (P : Entry → Type 0) → HoldsOfEnds P → (capacity : ℕ) (es : List Entry) →
    AllByRecursion P es → AllByRecursion P (history capacity es)
each_entry P end capacity [] all = all
each_entry P end capacity (e ∷ es) all =
    let journal : List Entry = e ∷ history capacity es in
    ends_too P end capacity (number_alive journal) journal (all.0, each_entry P end capacity es all.1)

-- ---- lawful journals

given_each : (P : Entry → Type 0) → ((e : Entry) → IsGiven e → P e) → (limits : Limits) (es : List Entry) →
    AreLegalEntries limits es → AllByRecursion P es
given_each P by limits [] legal = tt
given_each P by limits (e ∷ es) legal = (by e legal.0.given, given_each P by limits es legal.1)

pub lawful_each : (P : Entry → Type 0) → HoldsOfEnds P → ((e : Entry) → IsGiven e → P e) → (limits : Limits)
    (h : History) → IsLawful limits h → AllByRecursion P (journal_of limits h)
lawful_each P end by limits h lawful =
    each_entry P end limits.store (entries_of h) (given_each P by limits (entries_of h) lawful.legal.entries)

given_bytes : (e : Entry) → IsGiven e → HasBytes e
given_bytes (entries.Message q id opcode body) given = given.3
given_bytes (entries.Join role) given = tt
given_bytes (entries.Tokens q tokens) given = tt
given_bytes (entries.BadSize q head) given = tt
given_bytes (entries.End q cause) given = tt
given_bytes (entries.Shell step) given = tt
given_bytes (entries.Took q bytes) given = tt

given_short : (e : Entry) → IsGiven e → IsBodyShort e
given_short (entries.Message q id opcode body) given = given.4.0
given_short (entries.Join role) given = tt
given_short (entries.Tokens q tokens) given = tt
given_short (entries.BadSize q head) given = tt
given_short (entries.End q cause) given = tt
given_short (entries.Shell step) given = tt
given_short (entries.Took q bytes) given = tt

pub lawful_bytes : (limits : Limits) (h : History) → IsLawful limits h → AreBytes (journal_of limits h)
lawful_bytes limits h lawful = lawful_each HasBytes (λ q cause. tt) given_bytes limits h lawful

pub lawful_short : (limits : Limits) (h : History) → IsLawful limits h → AreShortBodies (journal_of limits h)
lawful_short limits h lawful = lawful_each IsBodyShort (λ q cause. tt) given_short limits h lawful

shell_held : (step : ShellStep) → IsGiven (entries.Shell step) → IsHeld (entries.Shell step)
shell_held (shells.Focus q id) given = tt
shell_held shells.Unfocus given = tt
shell_held (shells.Area q id rect) given = tt
shell_held (shells.Screen size) given = tt
shell_held (shells.Key time key state) given =
    (given.0.0, given.0.1, (let few : state ≤ 1 = given.1 in omega arith))
shell_held (shells.Mods mods) given = given.0
shell_held (shells.Keymap keymap) given = (given.0.0, given.0.2)
shell_held (shells.Repeat repeat) given = given.0
shell_held (shells.At moment) given = tt

given_held : (e : Entry) → IsGiven e → IsHeld e
given_held (entries.Message q id opcode body) given = (given.3, given.4.0)
given_held (entries.Shell step) given = shell_held step given
given_held (entries.Join role) given = tt
given_held (entries.Tokens q tokens) given = tt
given_held (entries.BadSize q head) given = tt
given_held (entries.End q cause) given = tt
given_held (entries.Took q bytes) given = tt

pub lawful_held : (limits : Limits) (h : History) → IsLawful limits h → AreHeld (journal_of limits h)
lawful_held limits h lawful = lawful_each IsHeld (λ q cause. tt) given_held limits h lawful
