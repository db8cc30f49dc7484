-- What a shell's link comes to by one more line
use Rattle.std.proofs.Common.{◌≡◌, ℕ, ◌+◌, ◌^◌, ◌<◌, ◌≤◌, List, [], ◌∷◌, ◌++◌, length, map, take, false, Option, Some, None, refl, sym, ap, ◌∙◌, subst, ◌⊎◌, inl, inr, ⊎_elim, arith, append_assoc, append-nil}
use Rattle.std.specs.Prelude.{Result, Ok, Err}
use Rattle.std.specs.Io.KnownBytes.{Appends, IsAtEnd}
use Rattle.std.proofs.KnownBytes.{Appends-trans, Appends-nil, Consumes-nil}
use Rattle.std.proofs.lemmas.List.{map-append, length-map}
use Rattle.wio_core.specs.Lines.{LacksFeed, TookFrom}
use Rattle.wio_core.specs.LineAnswers.{LinesAhead}
use Rattle.wio_core.specs.declared.line_reader.LineStop.{LineStop}
use Rattle.wio_core.specs.declared.line_reader.LineStop.TheVariants as stop
use Rattle.wio_core.proofs.ReadsTogether.{TookFrom-both}
use Rattle.broker_steps.specs.declared.limits.Limits.{Limits}
use Rattle.broker_steps.specs.declared.step.ShellStep.{ShellStep}
use Rattle.session_text.specs.declared.line.Form.TheVariants.{Shell}
use Rattle.session_text.specs.Reading.{line_of}
use Rattle.wl_wire.specs.Messages.{joined}
use Rattle.broker_model.specs.declared.journal.Entry.{Entry}
use Rattle.broker_model.specs.declared.journal.Entry.TheVariants as entries
use Rattle.broker_core.specs.declared.answers.Applied.{Applied}
use Rattle.turn_lock.specs.Pairs.{own, NoneOf}
use Rattle.hub_lock.specs.declared.step.OuterStep.{OuterStep}
use Rattle.hub_lock.specs.Passes.{PassSeat, steps_of}
use Rattle.peer_link.specs.declared.ends.ShellEnd.{ShellEnd}
use Rattle.peer_link.specs.declared.ends.ShellEnd.TheVariants as ends
use Rattle.peer_link.specs.Made.{entries_by}
use Rattle.peer_link.specs.Gains.{Gains}
use Rattle.peer_link.specs.ShellLines.{bytes_of, LackFeeds, HoldLines, BeginWith, AreLines, IsOrder, AreOrders}
use Rattle.peer_link.specs.ShellAnswers.{answer, answers_to}
use Rattle.peer_link.specs.ReadsShell.{ReadsNear, BeginBad, EndsAs, is_cut, ReadsShell}
use Rattle.peer_link.proofs.AnswersGrow.{answers-none}
use Rattle.peer_link.specs.Ordering.{CanGoOn, GiveLine, LooksAt, StopsReading, ReadsOrder, IsOrdered, WhyNoOrder, NotOrdered, IsHeld, Serving, ServesOn}

-- lists of lines, orders and pieces, with one more

bytes-more : (lines : List (List ℕ)) (line rest : List ℕ) →
    bytes_of (lines ++ line ∷ []) ++ rest ≡ bytes_of lines ++ (line ++ 10 ∷ rest)
bytes-more [] line rest = append_assoc line (10 ∷ []) rest
bytes-more (l ∷ lines) line rest =
    append_assoc l (10 ∷ bytes_of (lines ++ line ∷ [])) rest
    ∙ ap (λ z. l ++ 10 ∷ z) (bytes-more lines line rest)
    ∙ sym (append_assoc l (10 ∷ bytes_of lines) (line ++ 10 ∷ rest))

lack-more : (lines : List (List ℕ)) (line : List ℕ) → LackFeeds lines → LacksFeed line → LackFeeds (lines ++ line ∷ [])
lack-more [] line k l = (l, tt)
lack-more (x ∷ lines) line k l = (k.0, lack-more lines line k.1 l)

orders-more : (lines : List (List ℕ)) (orders : List ShellStep) (line : List ℕ) (step : ShellStep)
    → AreOrders lines orders → IsOrder line step → AreOrders (lines ++ line ∷ []) (orders ++ step ∷ [])
orders-more [] [] line step k o = (o, tt)
orders-more [] (s ∷ orders) line step k o = absurd k
orders-more (l ∷ lines) [] line step k o = absurd k
orders-more (l ∷ lines) (s ∷ orders) line step k o = (k.0, orders-more lines orders line step k.1 o)

pub joined-more : (pieces : List (List ℕ)) (piece : List ℕ) → joined (pieces ++ piece ∷ []) ≡ joined pieces ++ piece
joined-more [] piece = append-nil piece
joined-more (p ∷ pieces) piece =
    ap (λ z. p ++ z) (joined-more pieces piece) ∙ sym (append_assoc p (joined pieces) piece)

-- the line at which the reader looked

begins : (bytes line : List ℕ) (after : LinesAhead) (left : Option (List ℕ)) → GiveLine bytes line after left →
    BeginWith bytes line left
begins bytes line after left (inl w) = inl (after.held, w.begins)
begins bytes line after left (inr l) =
    inr (record { is = l.all; some = l.some; lacks = subst LacksFeed l.all l.cause.0.lacks; ended = l.cause.1 })

near : (lines : List (List ℕ)) (held read more : List ℕ) → HoldLines read lines held → length (held ++ more) ≤ 16384
    → ReadsNear (read ++ more) lines (held ++ more)
near lines held read more h n = record {
  holds = record { is = ap (λ l. l ++ more) h.is ∙ append_assoc (bytes_of lines) held more; lack = h.lack };
  near = n;
}

unsettled : (o : Option LineStop) (held read : List ℕ) (lines : List (List ℕ)) (left : Option (List ℕ)) → o ≡ None
    → IsHeld o held read lines left → HoldLines read lines held
unsettled o held read lines left e h = subst (λ x. IsHeld x held read lines left) e h

ended : (o : Option LineStop) (held read : List ℕ) (lines : List (List ℕ)) (left : Option (List ℕ)) → o ≡ Some stop.End
    → IsHeld o held read lines left → AreLines read lines left × IsAtEnd left
ended o held read lines left e h = subst (λ x. IsHeld x held read lines left) e h

-- the line was given, and is one of them from now on
held-on : (bytes line read : List ℕ) (lines : List (List ℕ)) (after : LinesAhead) (left : Option (List ℕ)) →
    ReadsNear read lines bytes
    → GiveLine bytes line after left → IsHeld after.settled after.held read (lines ++ line ∷ []) left
held-on bytes line read lines after left n (inl w) =
    subst (λ x. IsHeld x after.held read (lines ++ line ∷ []) left) (sym w.goes_on) (record {
      is = n.holds.is ∙ ap (λ z. bytes_of lines ++ z) w.begins.split ∙ sym (bytes-more lines line after.held);
      lack = lack-more lines line n.holds.lack w.begins.lacks;
    })
held-on bytes line read lines after left n (inr l) =
    let lacks : LacksFeed line = subst LacksFeed l.all l.cause.0.lacks in
    subst (λ x. IsHeld x after.held read (lines ++ line ∷ []) left) (sym l.settled) (
      inr (
        lines,
        line,
        refl,
        record { is = n.holds.is ∙ ap (λ z. bytes_of lines ++ z) l.all; lack = n.holds.lack },
        record { is = refl; some = l.some; lacks = lacks; ended = l.cause.1 },
      ),
      l.cause.1,
    )

-- as many lines as orders, and as many orders as steps

orders-long : (lines : List (List ℕ)) (orders : List ShellStep) → AreOrders lines orders → length lines ≡ length orders
orders-long [] [] k = refl
orders-long [] (s ∷ orders) k = absurd k
orders-long (l ∷ lines) [] k = absurd k
orders-long (l ∷ lines) (s ∷ orders) k = let more = orders-long lines orders k.1 in omega (arith, more)

pub counted : (limits : Limits) (seat : PassSeat) (reader : LinesAhead) (read : List ℕ)
    (left held now : Option (List ℕ))
    → (s : Serving limits seat reader read left held now) → steps_of seat + 1 ≡ length s.lines + 1
counted limits seat reader read left held now s =
    let a = ap length s.entries in
    let b = length-map s.steps (λ (step : ShellStep). entries.Shell step) in
    let c = length-map (own seat.number seat.seen) (λ (step : OuterStep). step.entry) in
    let d = orders-long s.lines s.steps s.orders in omega (arith, a, b, c, d)

-- at the beginning

pub entries-none : (seat : PassSeat) → NoneOf seat.number seat.seen → entries_by seat ≡ []
entries-none seat fresh = ap (map (λ (step : OuterStep). step.entry)) fresh

pub took-none : (given left : Option (List ℕ)) → TookFrom given given left left []
took-none given left = record { given = Appends-nil given; left = Consumes-nil left }

gained-none : (limits : Limits) (seat : PassSeat) (held : Option (List ℕ)) → NoneOf seat.number seat.seen
    → Appends held held (joined (answers_to limits seat))
gained-none limits seat held fresh =
    subst (λ (a : List (List ℕ)). Appends held held (joined a))
    (sym (answers-none limits seat.number [] seat.seen fresh)) (Appends-nil held)

pub nothing-read : (limits : Limits) (seat : PassSeat) (left held : Option (List ℕ)) → NoneOf seat.number seat.seen
    → ReadsShell limits seat [] left held held ends.NoMemory
nothing-read limits seat left held fresh = record {
  lines = [];
  steps = [];
  orders = tt;
  entries = entries-none seat fresh;
  ends = ([], record { holds = record { is = refl; lack = tt }; near = omega arith });
  gained = gained-none limits seat held fresh;
}

pub serving-begins : (limits : Limits) (seat : PassSeat) (reader : LinesAhead) (left held : Option (List ℕ)) →
    NoneOf seat.number seat.seen
    → reader ≡ record { held = []; room = None; settled = None } → Serving limits seat reader [] left held held
serving-begins limits seat reader left held fresh is = record {
  lines = [];
  steps = [];
  orders = tt;
  entries = entries-none seat fresh;
  stands = subst (λ (r : LinesAhead). IsHeld r.settled r.held [] [] left) (sym is) (record { is = refl; lack = tt });
  gained = gained-none limits seat held fresh;
}

pub can-begin : (reader : LinesAhead) → reader ≡ record { held = []; room = None; settled = None } → CanGoOn reader
can-begin reader is = (ap (λ (r : LinesAhead). r.room) is, inl (ap (λ (r : LinesAhead). r.settled) is))

pub few-begun : (seat : PassSeat) → NoneOf seat.number seat.seen → steps_of seat < 2 ^ 32
few-begun seat fresh = let none = ap length fresh in omega (arith, none)

-- what one call of the reader, one order and one answer come to

module _ (limits : Limits) (given given₀ given₁ left left₀ left₁ held held₀ : Option (List ℕ)) (s₀ : PassSeat)
    (r₀ r₁ : LinesAhead)
    (read more : List ℕ) (number : ℕ)
    (took : TookFrom given given₀ left left₀ read) (took_more : TookFrom given₀ given₁ left₀ left₁ more)
    (s : Serving limits s₀ r₀ read left₀ held held₀) where
  abbrev Comes : PassSeat → Option (List ℕ) → Result (Unit {0}) ShellEnd → Type 0
  Comes seat now result = (later : List ℕ) × TookFrom given given₁ left left₁ later
      × ServesOn limits seat r₁ later left₁ held now result

  took-all : TookFrom given given₁ left left₁ (read ++ more)
  took-all = TookFrom-both given given₀ given₁ left left₀ left₁ read more took took_more

  near-all : LooksAt r₀ (r₀.held ++ more) → ReadsNear (read ++ more) s.lines (r₀.held ++ more)
  near-all l =
      near s.lines r₀.held read more (unsettled r₀.settled r₀.held read s.lines left₀ l.unsettled s.stands) l.near

  -- the orders and answers are those from before
  stays : (end : ShellEnd) (later : List ℕ) → is_cut end ≡ false → EndsAs limits s₀ later left₁ s.lines end
      → ReadsShell limits s₀ later left₁ held held₀ end
  stays end later uncut k = record {
    lines = s.lines;
    steps = s.steps;
    orders = s.orders;
    entries = s.entries;
    ends = k;
    gained = subst (λ b. Gains b held held₀ (answers_to limits s₀)) (sym uncut) s.gained;
  }

  bad-of : (bytes : List ℕ) → (line : List ℕ) × GiveLine bytes line r₁ left₁ × (line_of Shell line ≡ None)
      → (line : List ℕ) × BeginWith bytes line left₁ × (line_of Shell line ≡ None)
  bad-of bytes k = (k.0, begins bytes k.0 r₁ left₁ k.1, k.2)

  closed-by : (r₀.settled ≡ Some stop.End → (given₁ ≡ given₀) × (left₁ ≡ left₀))
      → (r₀.settled ≡ Some stop.End) ⊎ (LooksAt r₀ (r₀.held ++ more) × (r₀.held ++ more ≡ []) × IsAtEnd left₁)
      → Comes s₀ held₀ (Err ends.Closed)
  closed-by same (inl e) =
      let now = same e in
      let k = ended r₀.settled r₀.held read s.lines left₀ e s.stands in (
        read,
        subst (λ g. TookFrom given g left left₁ read) (sym now.0)
            (subst (λ l. TookFrom given given₀ left l read) (sym now.1) took),
        stays ends.Closed read refl (subst (λ l. AreLines read s.lines l × IsAtEnd l) (sym now.1) k),
      )
  closed-by same (inr k) =
      let n : ReadsNear (read ++ more) s.lines (r₀.held ++ more) = near-all k.0 in (
        read ++ more,
        took-all,
        stays ends.Closed (read ++ more) refl
            (inl (subst (λ rest. HoldLines (read ++ more) s.lines rest) k.1 n.holds), k.2),
      )

  bad-by : (bytes : List ℕ) → (number ≡ length s.lines + 1)
      → ReadsNear (read ++ more) s.lines bytes → (n : ℕ) → n ≡ number
      → BeginBad bytes left₁ → Comes s₀ held₀ (Err (ends.BadLine n))
  bad-by bytes count near n is k = (
    read ++ more,
    took-all,
    stays (ends.BadLine n) (read ++ more) refl (is ∙ count, bytes, near, k),
  )

  -- no order came
  pub not-read : (end : ShellEnd) → (number ≡ length s.lines + 1)
      → (r₀.settled ≡ Some stop.End → (given₁ ≡ given₀) × (left₁ ≡ left₀))
      → StopsReading r₀ (r₀.held ++ more) r₁ left₁ number end → Comes s₀ held₀ (Err end)
  not-read ends.Closed count same k = closed-by same k
  not-read (ends.BadLine n) count same k =
      bad-by (r₀.held ++ more) count (near-all k.0) n k.1
      (⊎_elim (λ t. inl t) (λ b. inr (bad-of (r₀.held ++ more) b)) k.2)
  not-read ends.ReadFault count same k =
      (read ++ more, took-all, stays ends.ReadFault (read ++ more) refl (r₀.held ++ more, near-all k.0, k.1))
  not-read ends.NoMemory count same k =
      (read ++ more, took-all, stays ends.NoMemory (read ++ more) refl (r₀.held ++ more, near-all k))
  not-read ends.WriteFault count same k = absurd k
  not-read (ends.JournalFull kept) count same k = absurd k

  -- an order came, and wasn't taken

  no-order-ends : (s₁ : PassSeat) (step : ShellStep) (end : ShellEnd) →
      ReadsOrder r₀ (r₀.held ++ more) r₁ left₁ number (Ok step)
      → WhyNoOrder limits s₁ step end → (is_cut end ≡ false) × EndsAs limits s₁ (read ++ more) left₁ s.lines end
  no-order-ends s₁ step (ends.JournalFull kept) o w = (
    refl,
    (r₀.held ++ more, near-all o.0, (o.1, step, begins (r₀.held ++ more) o.1 r₁ left₁ o.2, o.3, w)),
  )
  no-order-ends s₁ step ends.NoMemory o w = (refl, (r₀.held ++ more, near-all o.0))
  no-order-ends s₁ step ends.Closed o w = absurd w
  no-order-ends s₁ step (ends.BadLine n) o w = absurd w
  no-order-ends s₁ step ends.ReadFault o w = absurd w
  no-order-ends s₁ step ends.WriteFault o w = absurd w

  pub not-ordered : (s₁ : PassSeat) (step : ShellStep) (end : ShellEnd) →
      ReadsOrder r₀ (r₀.held ++ more) r₁ left₁ number (Ok step)
      → NotOrdered limits s₀ s₁ step end → Comes s₁ held₀ (Err end)
  not-ordered s₁ step end o n =
      let k = no-order-ends s₁ step end o n.why in (
        read ++ more,
        took-all,
        record {
          lines = s.lines;
          steps = s.steps;
          orders = s.orders;
          entries = n.entries ∙ s.entries;
          ends = k.1;
          gained = subst (λ b. Gains b held held₀ (answers_to limits s₁)) (sym k.0)
              (subst (λ (a : List (List ℕ)). Appends held held₀ (joined a)) (sym n.answers) s.gained);
        },
      )

  -- an order was made

  entries-now : (s₁ : PassSeat) (step : ShellStep) (applied : Applied) → IsOrdered limits s₀ s₁ step applied
      → entries_by s₁ ≡ map (λ step. entries.Shell step) (s.steps ++ step ∷ [])
  entries-now s₁ step applied i =
      i.entries ∙ ap (λ (l : List Entry). l ++ entries.Shell step ∷ []) s.entries
      ∙ sym (map-append (λ (step : ShellStep). entries.Shell step) s.steps (step ∷ []))

  pub answered : (s₁ : PassSeat) (step : ShellStep) (applied : Applied) (held₁ : Option (List ℕ))
      → ReadsOrder r₀ (r₀.held ++ more) r₁ left₁ number (Ok step) → IsOrdered limits s₀ s₁ step applied
      → Appends held₀ held₁ (answer applied.entry applied.route) → Comes s₁ held₁ (Ok tt)
  answered s₁ step applied held₁ o i w = (
    read ++ more,
    took-all,
    record {
      lines = s.lines ++ o.1 ∷ [];
      steps = s.steps ++ step ∷ [];
      orders = orders-more s.lines s.steps o.1 step s.orders o.3;
      entries = entries-now s₁ step applied i;
      stands = held-on (r₀.held ++ more) o.1 (read ++ more) s.lines r₁ left₁ (near-all o.0) o.2;
      gained = subst (Appends held held₁)
          (sym (joined-more (answers_to limits s₀) (answer applied.entry applied.route)) ∙ ap joined (sym i.answers))
          (Appends-trans held held₀ held₁ (joined (answers_to limits s₀))
          (answer applied.entry applied.route) s.gained w);
    },
  )

  pub not-answered : (s₁ : PassSeat) (step : ShellStep) (applied : Applied) (held₁ : Option (List ℕ)) (n : ℕ)
      → ReadsOrder r₀ (r₀.held ++ more) r₁ left₁ number (Ok step) → IsOrdered limits s₀ s₁ step applied
      → n < length (answer applied.entry applied.route) →
      Appends held₀ held₁ (take n (answer applied.entry applied.route))
      → Comes s₁ held₁ (Err ends.WriteFault)
  not-answered s₁ step applied held₁ n o i short w = (
    read ++ more,
    took-all,
    record {
      lines = s.lines ++ o.1 ∷ [];
      steps = s.steps ++ step ∷ [];
      orders = orders-more s.lines s.steps o.1 step s.orders o.3;
      entries = entries-now s₁ step applied i;
      ends = (
        s.lines,
        o.1,
        refl,
        r₀.held ++ more,
        near-all o.0,
        begins (r₀.held ++ more) o.1 r₁ left₁ o.2,
      );
      gained = record {
        before = answers_to limits s₀;
        last = answer applied.entry applied.route;
        pieces_are = i.answers;
        count = n;
        short = short;
        gained = Appends-trans held held₀ held₁ (joined (answers_to limits s₀))
            (take n (answer applied.entry applied.route)) s.gained w;
      };
    },
  )
