-- Each entry of a lawful journal is such that its line can give it
use Rattle.std.proofs.Common.{◌≡◌, ℕ, zero, suc, ◌+◌, List, [], ◌∷◌, ◌++◌, length, Bool, true, false, Option, Some, None, Result, Ok, Err, IfOk, ap, sym, subst}
use Rattle.std.specs.Prelude.{◌==◌, if◌then◌else◌}
use mathlib.Core.Logic.{∥∥₁_elim}
use Rattle.broker_steps.specs.declared.limits.Limits.{Limits}
use Rattle.broker_model.specs.declared.journal.Entry.{Entry}
use Rattle.broker_model.specs.declared.journal.Entry.TheVariants as entries
use Rattle.broker_model.specs.Recorded.{entry_at}
use Rattle.broker_model.specs.Settle.{due, cause_of, with_end, settled, number_alive, history}
use Rattle.broker_core.specs.Broker.{Broker}
use Rattle.broker_core.specs.declared.letting_go.LetGo.{LetGo}
use Rattle.hub_lock.specs.Histories.{History, entries_of, broker_of}
use Rattle.hub_lock.specs.Lawful.{IsKept, history_of}
use Rattle.hub_lock.specs.declared.session.Session.{Session}
use Rattle.hub_lock.specs.declared.session.NoSession.{NoSession}
use Rattle.hub_lock.specs.Passes.{PassSeat, Recorder}
use Rattle.hub_lock.specs.Calls.{LegalCopy}
use Rattle.hub_lock.specs.Recording.{LegalHandOut}
use Rattle.hub_lock.proofs.LinesAreFacts.{fits-fact}
use Rattle.hub_lock.specs.Steps.{IsGiven, FitsLine, HaveLines, AreLegalEntries, HasLegalSteps}

-- the ends that follow need nothing

ends-by : (capacity fuel : ℕ) (journal : List Entry) (o : Option ℕ) → HaveLines journal
    → ((later : List Entry) → HaveLines later → HaveLines (settled capacity fuel later))
    → HaveLines (settled capacity fuel (with_end journal o))
ends-by capacity fuel journal None lines k = k journal lines
ends-by capacity fuel journal (Some q) lines k = k (entries.End q (cause_of journal q) ∷ journal) (tt, lines)

ends-fit : (capacity fuel : ℕ) (journal : List Entry) → HaveLines journal → HaveLines (settled capacity fuel journal)
ends-fit capacity zero journal lines = lines
ends-fit capacity (suc fuel) journal lines =
    ends-by capacity fuel journal (due capacity journal) lines (ends-fit capacity fuel)

given-fits : (e : Entry) → IsGiven e → FitsLine e
given-fits (entries.Join role) given = tt
given-fits (entries.Message q id opcode body) given = given.4
given-fits (entries.Tokens q tokens) given = given.1
given-fits (entries.BadSize q head) given = given.2
given-fits (entries.End q cause) given = tt
given-fits (entries.Shell step) given = given.1
given-fits (entries.Took q bytes) given = given.1

entries-fit : (limits : Limits) (es : List Entry) → AreLegalEntries limits es → HaveLines (history limits.store es)
entries-fit limits [] legal = tt
entries-fit limits (e ∷ older) legal =
    let journal : List Entry = history limits.store older in
    ends-fit limits.store (number_alive (e ∷ journal)) (e ∷ journal)
    (given-fits e legal.0.given, entries-fit limits older legal.1)

pub journal-fits : (limits : Limits) (h : History) → HasLegalSteps limits h → HaveLines (broker_of limits h).journal
journal-fits limits h legal = entries-fit limits (entries_of h) legal.entries

-- so it is with what is kept behind the lock
pub kept-fits : (b : Broker) (readers : List ℕ) → IsKept b readers → HaveLines b.journal
kept-fits b readers kept =
    subst HaveLines (ap (λ (x : Broker). x.journal) kept.is)
    (journal-fits b.limits (history_of b readers) kept.legal)

-- and with each entry, and with what is handed out

at-by : (here : Bool) (e x : Entry) (o : Option Entry) → FitsLine x → (o ≡ Some e → FitsLine e)
    → (if here then Some x else o) ≡ Some e → FitsLine e
at-by true e x o fits rest is = let same : x ≡ e = cc in subst FitsLine same fits
at-by false e x o fits rest is = rest is

pub entry-fits : (journal : List Entry) (number : ℕ) (e : Entry) → HaveLines journal → entry_at journal number ≡ Some e
    → FitsLine e
entry-fits [] number e lines is = absurd (cc)
entry-fits (x ∷ older) number e lines is =
    at-by (number == length older + 1) e x (entry_at older number) lines.0 (entry-fits older number e lines.1) is

-- so it is where only that they have them is known
pub any-fits : (journal : List Entry) (number : ℕ) (e : Entry) → ∥ HaveLines journal ∥₁ →
    entry_at journal number ≡ Some e → FitsLine e
any-fits journal number e lines is =
    ∥∥₁_elim lines (fits-fact e) (λ (l : HaveLines journal). entry-fits journal number e l is)

pub handed-fits : (limits : Limits) (p : Recorder) (after : History) (it : LetGo) →
    LegalHandOut limits p after (Some it)
    → FitsLine it.entry
handed-fits limits p after it k =
    let before : History = p.seat.seen ++ k.rest in
    entry-fits (broker_of limits before).journal it.number it.entry (journal-fits limits before k.lawful.legal)
    k.answer.out.next.entry

pub session-fits : (limits : Limits) (root : PassSeat) (after : History) (r : Result Session NoSession)
    → LegalCopy limits root after r → IfOk r (λ s. HaveLines s.journal.entries)
session-fits limits root after (Ok s) k =
    subst HaveLines (sym k.answer.copied.journal) (journal-fits limits (root.seen ++ k.rest) k.lawful.legal)
session-fits limits root after (Err why) k = tt
