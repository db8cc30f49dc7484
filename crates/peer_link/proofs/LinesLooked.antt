-- What the reader of lines answers to a shell's link
use Rattle.std.proofs.Common.{◌≡◌, ℕ, ◌-◌, List, [], ◌++◌, length, Option, Some, None, refl, sym, ap, ◌∙◌, subst, ◌⊎◌, inl, inr, arith, length-append}
use Rattle.std.specs.Prelude.{Result, Ok, Err, IfOk, IfErr, MatchOption}
use Rattle.std.specs.Option.{option_map}
use Rattle.std.proofs.KnownBytes.{Appends-nil, Consumes-nil}
use Rattle.wio_core.specs.Lines.{TookFrom}
use Rattle.wio_core.specs.LineAnswers.{LinesAhead, GoesOn, stop_of, Answers}
use Rattle.wio_core.specs.declared.line_reader.LineStop.{LineStop}
use Rattle.wio_core.specs.declared.line_reader.LineStop.TheVariants as stop
use Rattle.wio_core.specs.declared.line_reader.NextLine.{NextLine}
use Rattle.wio_core.specs.declared.line_reader.NextLine.TheVariants as came
use Rattle.broker_steps.specs.declared.step.ShellStep.{ShellStep}
use Rattle.peer_link.specs.declared.ends.ShellEnd.{ShellEnd}
use Rattle.peer_link.specs.declared.ends.ShellEnd.TheVariants as ends
use Rattle.peer_link.specs.ShellLines.{IsOrder}
use Rattle.peer_link.specs.Ordering.{CanGoOn, NoOrder, GiveLine, LooksAt, StopsReading, ReadsOrder}

no-room : (before after : Option ℕ) (n k : ℕ) → before ≡ None → after ≡ option_map (λ m. m - k) before →
    after ≡ Some n → ⊥
no-room None after n k e f g = absurd (cc)
no-room (Some m) after n k e f g = absurd (cc)

pub if-ok : (r : Result ShellStep ShellEnd) (P : Type 0) → P → IfOk r (λ step. P)
if-ok (Ok step) P p = p
if-ok (Err end) P p = tt

module _ (g0 g1 l0 l1 : Option (List ℕ)) (before after : LinesAhead) (result : NextLine) (number : ℕ) where
  abbrev Reads : Result ShellStep ShellEnd → Type 0
  Reads r = (more : List ℕ) × TookFrom g0 g1 l0 l1 more × ReadsOrder before (before.held ++ more) after l1 number r

  abbrev Looked : Type 0
  Looked = (read : List ℕ) × GoesOn before after g0 g1 l0 l1 result read

  looked : before.settled ≡ None → Answers before after g0 g1 l0 l1 result → Looked
  looked e a = subst (λ o. MatchOption o Looked (λ why. (stop_of result ≡ Some why) × (after ≡ before))) e a

  again : before.settled ≡ Some stop.End → Answers before after g0 g1 l0 l1 result → stop_of result ≡ Some stop.End
  again e a = (subst (λ o. MatchOption o Looked (λ why. (stop_of result ≡ Some why) × (after ≡ before))) e a).0

  looks-at : before.settled ≡ None → (k : Looked) → LooksAt before (before.held ++ k.0)
  looks-at e k =
      let near = k.1.near in record { unsettled = e; near = omega (arith, near, length-append before.held k.0) }

  room-none : (k : Looked) → before.room ≡ None → after.room ≡ None
  room-none k e = k.1.gathers.room ∙ ap (option_map (λ n. n - length k.0)) e

  -- a line came

  line-reads : (line : List ℕ) (r : Result ShellStep ShellEnd) → before.settled ≡ None → (k : Looked) →
      GiveLine (before.held ++ k.0) line after l1
      → IfOk r (IsOrder line) → IfErr r (NoOrder line number) → Reads r
  line-reads line (Ok step) e k gives order none = (k.0, k.1.took, (looks-at e k, line, gives, order))
  line-reads line (Err (ends.BadLine n)) e k gives order none =
      (k.0, k.1.took, (looks-at e k, none.0, inr (line, gives, none.1)))
  line-reads line (Err ends.NoMemory) e k gives order none = (k.0, k.1.took, looks-at e k)
  line-reads line (Err ends.Closed) e k gives order none = absurd none
  line-reads line (Err ends.ReadFault) e k gives order none = absurd none
  line-reads line (Err ends.WriteFault) e k gives order none = absurd none
  line-reads line (Err (ends.JournalFull kept)) e k gives order none = absurd none

  pub line-came : (line : List ℕ) (r : Result ShellStep ShellEnd) → CanGoOn before
      → (stop_of result ≡ None) → ((k : Looked) → GiveLine (before.held ++ k.0) line after l1)
      → Answers before after g0 g1 l0 l1 result → IfOk r (IsOrder line) → IfErr r (NoOrder line number) → Reads r
  line-came line r goes none gives a order why = by goes.1
    where
      by : (before.settled ≡ None) ⊎ (before.settled ≡ Some stop.End) → Reads r
      by (inl e) = let k = looked e a in line-reads line r e k (gives k) order why
      by (inr e) = let end = again e a in absurd (cc)

  -- it may be asked again

  on-by : (bytes line : List ℕ) → GiveLine bytes line after l1 →
      (after.settled ≡ None) ⊎ (after.settled ≡ Some stop.End)
  on-by bytes line (inl w) = inl w.goes_on
  on-by bytes line (inr l) = inr l.settled

  pub line-goes-on : (line : List ℕ) → CanGoOn before → (stop_of result ≡ None) →
      ((k : Looked) → GiveLine (before.held ++ k.0) line after l1)
      → Answers before after g0 g1 l0 l1 result → CanGoOn after
  line-goes-on line goes none gives a = by goes.1
    where
      by : (before.settled ≡ None) ⊎ (before.settled ≡ Some stop.End) → CanGoOn after
      by (inl e) = let k = looked e a in (room-none k goes.0, on-by (before.held ++ k.0) line (gives k))
      by (inr e) = let end = again e a in absurd (cc)

  -- no line came

  nothing-taken : (g1 ≡ g0) × (l1 ≡ l0) → TookFrom g0 g1 l0 l1 []
  nothing-taken same =
      subst (λ g. TookFrom g0 g l0 l1 []) (sym same.0) (subst (λ l. TookFrom g0 g0 l0 l []) (sym same.1)
      (record { given = Appends-nil g0; left = Consumes-nil l0 }))

module _ (g0 g1 l0 l1 : Option (List ℕ)) (before after : LinesAhead) (number : ℕ) (goes : CanGoOn before) where
  abbrev Stops : ShellEnd → Type 0
  Stops end = (more : List ℕ) × TookFrom g0 g1 l0 l1 more
      × StopsReading before (before.held ++ more) after l1 number end

  pub end-came : ((why : LineStop) → before.settled ≡ Some why → (g1 ≡ g0) × (l1 ≡ l0)) →
      Answers before after g0 g1 l0 l1 came.End
      → Stops ends.Closed
  end-came same a = by goes.1
    where
      by : (before.settled ≡ None) ⊎ (before.settled ≡ Some stop.End) → Stops ends.Closed
      by (inl e) =
          let k = looked g0 g1 l0 l1 before after came.End number e a in
          (k.0, k.1.took, inr (looks-at g0 g1 l0 l1 before after came.End number e k, k.1.tells.1, k.1.tells.0.cause.1))
      by (inr e) = ([], nothing-taken g0 g1 l0 l1 before after came.End number (same stop.End e), inl e)

  pub long-came : Answers before after g0 g1 l0 l1 came.Long → Stops (ends.BadLine number)
  long-came a = by goes.1
    where
      by : (before.settled ≡ None) ⊎ (before.settled ≡ Some stop.End) → Stops (ends.BadLine number)
      by (inl e) =
          let k = looked g0 g1 l0 l1 before after came.Long number e a in
          (k.0, k.1.took, (looks-at g0 g1 l0 l1 before after came.Long number e k, refl, inl k.1.tells.cause))
      by (inr e) = let end = again g0 g1 l0 l1 before after came.Long number e a in absurd (cc)

  pub fault-came : Answers before after g0 g1 l0 l1 came.ReadFault → Stops ends.ReadFault
  fault-came a = by goes.1
    where
      by : (before.settled ≡ None) ⊎ (before.settled ≡ Some stop.End) → Stops ends.ReadFault
      by (inl e) =
          let k = looked g0 g1 l0 l1 before after came.ReadFault number e a in
          (k.0, k.1.took, (looks-at g0 g1 l0 l1 before after came.ReadFault number e k, k.1.tells.cause))
      by (inr e) = let end = again g0 g1 l0 l1 before after came.ReadFault number e a in absurd (cc)

  pub limit-never : Answers before after g0 g1 l0 l1 came.Limit → ⊥
  limit-never a = by goes.1
    where
      by : (before.settled ≡ None) ⊎ (before.settled ≡ Some stop.End) → ⊥
      by (inl e) =
          let k = looked g0 g1 l0 l1 before after came.Limit number e a in
          no-room before.room after.room 0 (length k.0) goes.0 k.1.gathers.room k.1.tells.cause.1
      by (inr e) = let end = again g0 g1 l0 l1 before after came.Limit number e a in absurd (cc)
