-- The answers to a shell's orders, as its pass makes one more
use Rattle.std.proofs.Common.{◌≡◌, ℕ, List, [], ◌∷◌, ◌++◌, length, Bool, true, false, refl, sym, ap, ap₂, ◌∙◌, arith, append_assoc, append-nil}
use Rattle.std.specs.Prelude.{if◌then◌else◌, ◌==◌, Ok, Err}
use Rattle.std.proofs.lemmas.Bool.{eq-eqb}
use Rattle.broker_steps.specs.declared.limits.Limits.{Limits}
use Rattle.broker_steps.specs.declared.step.Step.TheVariants as steps
use Rattle.broker_steps.specs.declared.step.ShellStep.{ShellStep}
use Rattle.broker_model.specs.declared.journal.Entry.{Entry}
use Rattle.broker_model.specs.declared.journal.Entry.TheVariants as entries
use Rattle.broker_model.specs.declared.journal.Kept.{Kept}
use Rattle.broker_core.specs.declared.answers.Applied.{Applied}
use Rattle.broker_core.specs.declared.answers.Refused.{Refused}
use Rattle.broker_core.specs.declared.answers.Refused.TheVariants as refusals
use Rattle.broker_core.specs.Broker.{full_in}
use Rattle.turn_lock.specs.Pairs.{own, NoneOf}
use Rattle.hub_lock.specs.Seats.{having_seen}
use Rattle.hub_lock.specs.declared.step.OuterStep.{OuterStep}
use Rattle.hub_lock.specs.Histories.{History, only}
use Rattle.hub_lock.specs.Passes.{PassSeat, steps_of}
use Rattle.hub_lock.specs.Calls.{LegalStep}
use Rattle.peer_link.specs.declared.ends.ShellEnd.{ShellEnd}
use Rattle.peer_link.specs.declared.ends.ShellEnd.TheVariants as ends
use Rattle.peer_link.specs.Made.{entries_by, journal_of}
use Rattle.peer_link.specs.ShellAnswers.{answer, answer_after, answers_from, answers_to}
use Rattle.peer_link.specs.Ordering.{IsOrdered, WhyNoOrder, NotOrdered}
use Rattle.peer_link.proofs.StepsMade.{own-same, entries-same, entries-one, steps-one, few-steps}
use Rattle.peer_link.proofs.StepsRefused.{shell-full}

abbrev answer_by : Limits → History → (ℕ × OuterStep) → Bool → List (List ℕ)
answer_by limits before s t = (if t then answer_after limits before s.1.entry ∷ [] else [])

answers-append : (limits : Limits) (n : ℕ) (b xs ys : History)
    → answers_from limits n b (xs ++ ys) ≡ answers_from limits n b xs ++ answers_from limits n (b ++ xs) ys
answers-append limits n b [] ys = ap (λ h. answers_from limits n h ys) (sym (append-nil b))
answers-append limits n b (x ∷ xs) ys =
    let first : List (List ℕ) = answer_by limits b x (x.0 == n) in
    let later : List (List ℕ) = answers_from limits n (b ++ x ∷ []) xs in
    ap (λ z. first ++ z) (answers-append limits n (b ++ x ∷ []) xs ys)
    ∙ ap (λ h. first ++ (later ++ answers_from limits n h ys)) (append_assoc b (x ∷ []) xs)
    ∙ sym (append_assoc first later (answers_from limits n (b ++ x ∷ xs) ys))

pub answers-none : (limits : Limits) (n : ℕ) (b ys : History) → NoneOf n ys → answers_from limits n b ys ≡ []
answers-none limits n b [] free = refl
answers-none limits n b (x ∷ xs) free = by (x.0 == n) free (answers-none limits n (b ++ x ∷ []) xs)
  where
    by : (t : Bool) → (if t then x.1 ∷ own n xs else own n xs) ≡ []
        → (NoneOf n xs → answers_from limits n (b ++ x ∷ []) xs ≡ [])
        → answer_by limits b x t ++ answers_from limits n (b ++ x ∷ []) xs ≡ []
    by true e later = absurd (cc)
    by false e later = later e

answers-here : (limits : Limits) (n : ℕ) (b : History) (e : Entry)
    → answers_from limits n b ((n, only e) ∷ []) ≡ answer_after limits b e ∷ []
answers-here limits n b e = ap (λ t. answer_by limits b (n, only e) t ++ []) (eq-eqb n n refl)

pub answers-same : (limits : Limits) (seat : PassSeat) (rest after : History) → NoneOf seat.number rest →
    after ≡ seat.seen ++ rest
    → answers_to limits (having_seen seat after) ≡ answers_to limits seat
answers-same limits seat rest after free is =
    ap (answers_from limits seat.number []) is ∙ answers-append limits seat.number [] seat.seen rest
    ∙ ap (λ z. answers_to limits seat ++ z) (answers-none limits seat.number seat.seen rest free)
    ∙ append-nil (answers_to limits seat)

answers-one : (limits : Limits) (seat : PassSeat) (rest after : History) (e : Entry) → NoneOf seat.number rest
    → after ≡ (seat.seen ++ rest) ++ (seat.number, only e) ∷ []
    → answers_to limits (having_seen seat after)
    ≡ answers_to limits seat ++ answer_after limits (seat.seen ++ rest) e ∷ []
answers-one limits seat rest after e free is =
    ap (answers_from limits seat.number []) is
    ∙ answers-append limits seat.number [] (seat.seen ++ rest) ((seat.number, only e) ∷ [])
    ∙ ap₂ (λ (a b : List (List ℕ)). a ++ b) (answers-same limits seat rest (seat.seen ++ rest) free refl)
    (answers-here limits seat.number (seat.seen ++ rest) e)

pub ordered : (limits : Limits) (before after : PassSeat) (step : ShellStep) (applied : Applied)
    → after ≡ having_seen before after.seen → LegalStep limits before after.seen (steps.Shell step) (Ok applied)
    → IsOrdered limits before after step applied
ordered limits before after step applied is k =
    let e : Entry = entries.Shell step in
    let turn : History = before.seen ++ k.rest in record {
      entries = ap entries_by is ∙ entries-one before k.rest after.seen e k.apart k.answer.applied;
      answers = ap (answers_to limits) is ∙ answers-one limits before k.rest after.seen e k.apart k.answer.applied
          ∙ ap (λ l. answers_to limits before ++ l ∷ []) (sym (ap₂ (λ a b. answer a b) k.answer.entry k.answer.route));
      few =
          let a = ap steps_of is in
          let b = steps-one before k.rest after.seen e k.apart k.answer.applied in
          let c = ap length (own-same before.number before.seen k.rest k.apart) in
          let d = few-steps limits before.number turn in
          let n = k.answer.entry in omega (arith, a, b, c, d, n);
    }

-- an order that isn't taken

pub not-taken : (limits : Limits) (before after : PassSeat) (step : ShellStep) (why : Refused) (end : ShellEnd)
    → after ≡ having_seen before after.seen → LegalStep limits before after.seen (steps.Shell step) (Err why)
    → WhyNoOrder limits after step end → NotOrdered limits before after step end
not-taken limits before after step why end is k w = record {
  entries = ap entries_by is ∙ entries-same before k.rest after.seen k.apart k.answer.same;
  answers = ap (answers_to limits) is ∙ answers-same limits before k.rest after.seen k.apart k.answer.same;
  why = w;
}

pub not-taken-full : (limits : Limits) (before after : PassSeat) (step : ShellStep) (kept : Kept)
    → after ≡ having_seen before after.seen →
    LegalStep limits before after.seen (steps.Shell step) (Err (refusals.JournalFull kept))
    → NotOrdered limits before after step (ends.JournalFull kept)
not-taken-full limits before after step kept is k =
    not-taken limits before after step (refusals.JournalFull kept) (ends.JournalFull kept) is k
    (ap (λ h. full_in limits (journal_of limits h) (entries.Shell step)) k.answer.same
    ∙ shell-full limits (before.seen ++ k.rest) before.number step after.seen kept k.answer)
