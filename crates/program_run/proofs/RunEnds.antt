-- How a run ends, and what it owes then.
use Rattle.std.proofs.Common.{◌≡◌, ℕ, ◌+◌, ◌≤◌, Bool, true, false, List, [], ◌++◌, length, take, Option, Some, None, Ok, Err, refl, sym, ap, ◌∙◌, ◌⊎◌, subst, inl, inr, arith, append_assoc, append-nil, length-append}
use Rattle.std.specs.Prelude.{IfSome}
use Rattle.std.specs.Io.KnownBytes.{Appends, IsAtEnd}
use Rattle.std.proofs.KnownBytes.{Appends-trans, Appends-nil, Consumes-nil}
use Rattle.std.proofs.Math.Seq.{take-append-add}
use Rattle.std.proofs.lemmas.List.{take_all, take-append-le}
use Rattle.wio_core.specs.Io.{Rose}
use Rattle.wio_core.specs.Lines.{IsOpen, TookFrom}
use Rattle.wio_core.specs.LineAnswers.{LinesAhead}
use Rattle.program_run.specs.declared.last_line.LastLine.{LastLine}
use Rattle.program_run.specs.declared.last_line.LastLine.TheVariants as last
use Rattle.program_run.specs.declared.status.Status.{Status}
use Rattle.program_run.specs.declared.status.Status.TheVariants as status
use Rattle.program_run.specs.Endings.{Answer, with_front, ending, is_long, shown, IsDecided}
use Rattle.program_run.specs.Lines.{lines_of, lines_read, is_cut, size_of}
use Rattle.program_run.specs.Scripts.{Follows}
use Rattle.program_run.specs.Reading.{LeadsOff, ComesTo}
use Rattle.program_run.specs.Writing.{WritesPart, WritesEnd, IsCutShort}
use Rattle.program_run.specs.LineByLine.{IsDecidedBy, LineByLine}
use Rattle.program_run.specs.Ran.{GrowsByFront, Ran, answer_read}
use Rattle.program_run.proofs.LinesWithin.{IsNear, is_near, shown_of, within_none}
use Rattle.program_run.proofs.RunOnItsWay.{Going, Ready, if_near, leads_done, leads_first, stays_near}

-- a count that stood and then rose rose
pub rose_later : (before middle after : ℕ) → middle ≡ before → Rose middle after → Rose before after
rose_later before middle after same rose = subst (λ n. Rose n after) same rose

-- a status that isn't decided

cut_short : (P : Status → Type 0) (s : Status) → IsCutShort s → P status.WriteFault → P status.NoMemory → P s
cut_short P s (inl e) fault memory = subst P (sym e) fault
cut_short P s (inr e) fault memory = subst P (sym e) memory

undecided : (s : Status) → IsCutShort s → IsDecided s → ⊥
undecided s short = cut_short (λ x. IsDecided x → ⊥) s short (λ h. h) (λ h. h)

no_read_fault : (s : Status) → IsCutShort s → s ≡ status.ReadFault → ⊥
no_read_fault s short = cut_short (λ x. x ≡ status.ReadFault → ⊥) s short (λ e. cc e) (λ e. cc e)

no_bad_words : (s : Status) → IsCutShort s → s ≡ status.BadWords → ⊥
no_bad_words s short = cut_short (λ x. x ≡ status.BadWords → ⊥) s short (λ e. cc e) (λ e. cc e)

ran_short : (limit : ℕ) (answer : Bool → List (List ℕ) → Answer) (lf held0 held : Option (List ℕ))
    (reads reads' writes writes' : ℕ)
    (s : Status) → IsCutShort s → IfSome lf (λ bytes. GrowsByFront held0 held (answer_read limit answer bytes).0)
    → (s ≡ status.WriteFault → Rose writes writes')
    → Ran (answer_read limit answer) lf reads reads' held0 held writes writes' s
ran_short limit answer lf held0 held reads reads' writes writes' s short front cause = record {
  front = front;
  decided = λ h. absurd (undecided s short h);
  read_fault = λ e. absurd (no_read_fault s short e);
  write_fault = cause;
  good_words = λ e. no_bad_words s short e;
}

law_short : {limit : ℕ} (answer : Bool → List (List ℕ) → Answer) (lf l held0 held : Option (List ℕ)) (s : Status)
    (read : List ℕ)
    → IsCutShort s → length read ≤ limit → IsNear limit answer lf held0 held read
    → LineByLine limit answer lf l held0 held s read
law_short {limit} answer lf l held0 held s read short within near = record {
  within = within;
  read_failed = λ e. absurd (no_read_fault s short e);
  decided = λ h. absurd (undecided s short h);
  near_deciding = near.deciding;
  near_unwritten = near.unwritten;
}

-- a front of the output of the lines that were played is one of the whole output

take_front : (a b c : List ℕ) (n : ℕ) → n ≤ length b → take (length a + n) ((a ++ b) ++ c) ≡ a ++ take n b
take_front a b c n le =
    ap (take (length a + n)) (append_assoc a b c) ∙ take-append-add a (b ++ c) n ∙ ap (λ t. a ++ t) (rw take-append-le)

front_written : (limit : ℕ) (answer : Bool → List (List ℕ) → Answer) (lf held0 held held' : Option (List ℕ))
    (done : List (List ℕ))
    (written ready : List ℕ) (n : ℕ) → n ≤ length ready → Appends held0 held written
    → Appends held held' (take n ready) → Follows answer done (written ++ ready) → LeadsOff limit lf done
    → IfSome lf (λ bytes. GrowsByFront held0 held' (answer_read limit answer bytes).0)
front_written limit answer None held0 held held' done written ready n le wrote part follows ahead = tt
front_written limit answer (Some bytes) held0 held held' done written ready n le wrote part follows ahead =
    let b = follows.begins (is_cut limit bytes) ahead.0 in
    let text : (answer_read limit answer bytes).0 ≡ (written ++ ready) ++ b.0.0 =
    ap (λ a. a.0) (ap (answer (is_cut limit bytes)) ahead.1 ∙ b.1) in
    let front : take (length written + n) (answer_read limit answer bytes).0 ≡ written ++ take n ready =
    ap (take (length written + n)) text ∙ take_front written ready b.0.0 n le in
    let len = ap length text in (
      length written + n,
      omega (arith, len, length-append (written ++ ready) b.0.0, length-append written ready),
      subst (Appends held0 held') (sym front) (Appends-trans held0 held held' written (take n ready) wrote part),
    )

-- the run ends where what is ready is cut short

pub short_ran : {limit : ℕ} {answer : Bool → List (List ℕ) → Answer} {stands : List (List ℕ) → List ℕ → Type 0}
    {holds : List ℕ → Type 0} {gf lf g l held0 held : Option (List ℕ)} {reader : LinesAhead}
    (held' : Option (List ℕ)) (reads reads' writes writes' : ℕ) (s : Status)
    → (at : Going limit answer stands holds gf lf g l held0 held reader) → WritesPart held held' at.ready s
    → (s ≡ status.WriteFault → Rose writes writes')
    → Ran (answer_read limit answer) lf reads reads' held0 held' writes writes' s
short_ran {limit} {answer} {lf} {held0} {held} held' reads reads' writes writes' s at part cause =
    ran_short limit answer lf held0 held' reads reads' writes writes' s part.3
    (front_written limit answer lf held0 held held' at.done at.written at.ready part.0 part.1 at.gained part.2
    at.follows
    (leads_done at)) cause

pub short_law : {limit : ℕ} {answer : Bool → List (List ℕ) → Answer} {stands : List (List ℕ) → List ℕ → Type 0}
    {holds : List ℕ → Type 0} {gf lf g l held0 held : Option (List ℕ)} {reader : LinesAhead}
    (held' : Option (List ℕ)) (s : Status)
    → (at : Going limit answer stands holds gf lf g l held0 held reader) → WritesPart held held' at.ready s
    → LineByLine limit answer lf l held0 held' s at.read
short_law {limit} {answer} {lf} {l} {held0} {held} held' s at part =
    law_short answer lf l held0 held' s at.read part.3 at.up_to.within
    (is_near answer lf held0 held' at.first at.read (at.written ++ take part.0 at.ready) (length at.written)
    (leads_first at) at.near at.first_within
    (Appends-trans held0 held held' at.written (take part.0 at.ready) at.gained part.2)
    (omega (arith, length-append at.written (take part.0 at.ready))))

-- it ends where the answer is told: its output is what was written and what is still to be written

front_told : (limit : ℕ) (answer : Bool → List (List ℕ) → Answer) (lf held0 held held' : Option (List ℕ))
    (written : List ℕ)
    (end : Answer) (n : ℕ) → n ≤ length end.0 → Appends held0 held written → Appends held held' (take n end.0)
    → IfSome lf (λ bytes. answer_read limit answer bytes ≡ with_front written end)
    → IfSome lf (λ bytes. GrowsByFront held0 held' (answer_read limit answer bytes).0)
front_told limit answer None held0 held held' written end n le wrote part is = tt
front_told limit answer (Some bytes) held0 held held' written end n le wrote part is =
    let text : (answer_read limit answer bytes).0 ≡ written ++ end.0 = ap (λ a. a.0) is in
    let front : take (length written + n) (answer_read limit answer bytes).0 ≡ written ++ take n end.0 =
    ap (take (length written + n)) text ∙ take-append-add written end.0 n in
    let len = ap length text in (
      length written + n,
      omega (arith, len, length-append written end.0),
      subst (Appends held0 held') (sym front) (Appends-trans held0 held held' written (take n end.0) wrote part),
    )

decided_told : (limit : ℕ) (answer : Bool → List (List ℕ) → Answer) (lf held0 held : Option (List ℕ)) (whole : Answer)
    (result : Status) → result ≡ whole.1 → Appends held0 held whole.0
    → IfSome lf (λ bytes. answer_read limit answer bytes ≡ whole)
    → IfSome lf (λ bytes. ((answer_read limit answer bytes).1 ≡ result)
    × Appends held0 held (answer_read limit answer bytes).0)
decided_told limit answer None held0 held whole result e wrote is = tt
decided_told limit answer (Some bytes) held0 held whole result e wrote is =
    (ap (λ a. a.1) is ∙ sym e, subst (Appends held0 held) (sym (ap (λ a. a.0) is)) wrote)

ran_end : (limit : ℕ) (answer : Bool → List (List ℕ) → Answer) (lf held0 held held' : Option (List ℕ))
    (reads reads' writes writes' : ℕ) (written : List ℕ) (end : Answer) (result : Status)
    → Appends held0 held written → WritesEnd held held' end result
    → IfSome lf (λ bytes. answer_read limit answer bytes ≡ with_front written end)
    → (result ≡ status.WriteFault → Rose writes writes')
    → Ran (answer_read limit answer) lf reads reads' held0 held' writes writes' result
ran_end limit answer lf held0 held held' reads reads' writes writes' written end result before (inl wrote) is cause =
    let both = Appends-trans held0 held held' written end.0 before wrote.0 in
    let all : take (length end.0) end.0 ≡ end.0 = take_all (length end.0) end.0 (omega arith) in
    let rest = subst (Appends held held') (sym all) wrote.0 in
    record {
      front = front_told limit answer lf held0 held held' written end (length end.0) (omega arith) before rest is;
      decided = λ h. decided_told limit answer lf held0 held' (with_front written end) result wrote.1 both is;
      read_fault = λ e. absurd (subst IsDecided e wrote.2);
      write_fault = λ e. absurd (subst IsDecided e wrote.2);
      good_words = λ e. subst IsDecided e wrote.2;
    }
ran_end limit answer lf held0 held held' reads reads' writes writes' written end result before (inr part) is cause =
    ran_short limit answer lf held0 held' reads reads' writes writes' result part.3
    (front_told limit answer lf held0 held held' written end part.0 part.1 before part.2 is) cause

-- by the lines of the bytes read
decided_by : (answer : Bool → List (List ℕ) → Answer) (cut : Bool) (held0 held : Option (List ℕ)) (read : List ℕ)
    (whole : Answer) (result : Status) → answer cut (lines_of cut read) ≡ whole → result ≡ whole.1
    → Appends held0 held whole.0 → IsDecidedBy answer cut read held0 held result
decided_by answer cut held0 held read whole result is e wrote =
    (ap (λ a. a.1) is ∙ sym e, subst (Appends held0 held) (sym (ap (λ a. a.0) is)) wrote)

law_end : {limit : ℕ} (answer : Bool → List (List ℕ) → Answer) (lf l held0 held held' : Option (List ℕ))
    (read written : List ℕ)
    (end : Answer) (result : Status) → Appends held0 held written → WritesEnd held held' end result
    → (answer true (lines_of true read) ≡ with_front written end)
    ⊎ (IsAtEnd l × (answer false (lines_of false read) ≡ with_front written end))
    → length read ≤ limit
    → ((gained : List ℕ) → Appends held0 held' gained → length written ≤ length gained
    → IsNear limit answer lf held0 held' read)
    → LineByLine limit answer lf l held0 held' result read
law_end {limit} answer lf l held0 held held' read written end result before (inl wrote) early within near =
    let both = Appends-trans held0 held held' written end.0 before wrote.0 in
    let here = near (written ++ end.0) both (omega (arith, length-append written end.0)) in
    let by = λ (cut : Bool) (is : answer cut (lines_of cut read) ≡ with_front written end).
    decided_by answer cut held0 held' read (with_front written end) result is wrote.1 both in
    record {
      within = within;
      read_failed = λ e. absurd (subst IsDecided e wrote.2);
      decided = λ h. elim early [ inl is ↦ inl (by true is) | inr is ↦ inr (is.0, by false is.1) ];
      near_deciding = here.deciding;
      near_unwritten = here.unwritten;
    }
law_end {limit} answer lf l held0 held held' read written end result before (inr part) early within near =
    law_short answer lf l held0 held' result read part.3 within
    (near (written ++ take part.0 end.0)
    (Appends-trans held0 held held' written (take part.0 end.0) before part.2)
    (omega (arith, length-append written (take part.0 end.0))))

-- the lines near to which it was read
near_first : {limit : ℕ} {answer : Bool → List (List ℕ) → Answer} {stands : List (List ℕ) → List ℕ → Type 0}
    {holds : List ℕ → Type 0} {gf lf g l held0 held : Option (List ℕ)} {reader : LinesAhead} (held' : Option (List ℕ))
    → (at : Going limit answer stands holds gf lf g l held0 held reader) (read : List ℕ)
    → IfSome lf (λ bytes. length read ≤ size_of at.first + 16384)
    → (gained : List ℕ) → Appends held0 held' gained → length at.written ≤ length gained
    → IsNear limit answer lf held0 held' read
near_first {limit} {answer} {lf} {held0} held' at read near gained grew enough =
    is_near answer lf held0 held' at.first read gained (length at.written) (leads_first at) near at.first_within grew
    enough

whole_text : (written ready more : List ℕ) (end : Answer)
    → with_front ((written ++ ready) ++ more) end ≡ with_front written (with_front (ready ++ more) end)
whole_text written ready more end =
    ap (λ t. (t, end.1))
    (ap (λ t. t ++ end.0) (append_assoc written ready more) ∙ append_assoc written (ready ++ more) end.0)

pub told_ran : {limit : ℕ} {answer : Bool → List (List ℕ) → Answer} {stands : List (List ℕ) → List ℕ → Type 0}
    {holds : List ℕ → Type 0} {gf lf g l held0 held : Option (List ℕ)} {reader : LinesAhead}
    (stands_after : List (List ℕ) → List ℕ → Type 0) (holds_after : List ℕ → Type 0)
    (g' l' held' : Option (List ℕ)) (after : LinesAhead) (reads reads' writes writes' : ℕ) (end : LastLine)
    (result : Status)
    → (r : Ready limit answer stands holds gf lf g l held0 held reader)
    → (come : ComesTo limit answer stands_after holds_after gf lf g' l' reader after
    r.going.done r.going.read (r.going.written ++ r.going.ready) r.going.ready (Ok (Some end)))
    → WritesEnd held held' (with_front (r.going.ready ++ come.0) (ending end)) result
    → (result ≡ status.WriteFault → Rose writes writes')
    → Ran (answer_read limit answer) lf reads reads' held0 held' writes writes' result
told_ran {limit} {answer} {lf} {held0} {held} stands_after holds_after g' l' held' after reads reads' writes writes' end
    result
    r come wrote cause =
    let at = r.going in
    let rest : Answer = with_front (at.ready ++ come.0) (ending end) in
    ran_end limit answer lf held0 held held' reads reads' writes writes' at.written rest result at.gained wrote
    (subst (λ a. IfSome lf (λ bytes. answer_read limit answer bytes ≡ a))
    (whole_text at.written at.ready come.0 (ending end)) come.4.all)
    cause

pub told_law : {limit : ℕ} {answer : Bool → List (List ℕ) → Answer} {stands : List (List ℕ) → List ℕ → Type 0}
    {holds : List ℕ → Type 0} {gf lf g l held0 held : Option (List ℕ)} {reader : LinesAhead}
    (stands_after : List (List ℕ) → List ℕ → Type 0) (holds_after : List ℕ → Type 0)
    (g' l' held' : Option (List ℕ)) (after : LinesAhead) (end : LastLine) (result : Status)
    → (r : Ready limit answer stands holds gf lf g l held0 held reader)
    → (come : ComesTo limit answer stands_after holds_after gf lf g' l' reader after
    r.going.done r.going.read (r.going.written ++ r.going.ready) r.going.ready (Ok (Some end)))
    → WritesEnd held held' (with_front (r.going.ready ++ come.0) (ending end)) result
    → (read : List ℕ) × TookFrom gf g' lf l' read × LineByLine limit answer lf l' held0 held' result read
told_law {limit} {answer} {lf} {held0} {held} stands_after holds_after g' l' held' after end result r come wrote =
    let at = r.going in
    let rest : Answer = with_front (at.ready ++ come.0) (ending end) in
    let text = whole_text at.written at.ready come.0 (ending end) in (
      come.1,
      come.2,
      law_end answer lf l' held0 held held' come.1 at.written rest result at.gained wrote
          (subst (λ a. (answer true (lines_of true come.1) ≡ a)
          ⊎ (IsAtEnd l' × (answer false (lines_of false come.1) ≡ a))) text come.4.early)
          come.5.within (near_first held' at come.1 (stays_near r come.1 come.5)),
    )

-- it ends where a read failed, or there was no memory

-- what happens there, by the status: nothing else is an error of the next line
by_error : (limit : ℕ) (answer : Bool → List (List ℕ) → Answer) (stands : List (List ℕ) → List ℕ → Type 0)
    (holds : List ℕ → Type 0) (gf lf g l : Option (List ℕ)) (before after : LinesAhead) (done : List (List ℕ))
    (read output gathered : List ℕ) (P : Status → Type 0) (s : Status)
    → ComesTo limit answer stands holds gf lf g l before after done read output gathered (Err s)
    → (ComesTo limit answer stands holds gf lf g l before after done read output gathered (Err status.ReadFault)
    → P status.ReadFault)
    → (ComesTo limit answer stands holds gf lf g l before after done read output gathered (Err status.NoMemory)
    → P status.NoMemory)
    → P s
by_error limit answer stands holds gf lf g l before after done read output gathered P s come fault memory = by s come
  where
    by : (s : Status) → ComesTo limit answer stands holds gf lf g l before after done read output gathered (Err s) → P s
    by status.ReadFault come = fault come
    by status.Ok come = (let e = come.2 in absurd (cc e))
    by status.BadWords come = (let e = come.2 in absurd (cc e))
    by status.BadSession come = (let e = come.2 in absurd (cc e))
    by status.WriteFault come = (let e = come.2 in absurd (cc e))
    by status.NoMemory come = memory come
    by status.JournalFull come = (let e = come.2 in absurd (cc e))
    by status.InputLong come = (let e = come.2 in absurd (cc e))
    by status.AuditNo come = (let e = come.2 in absurd (cc e))

pub failed_ran : {limit : ℕ} {answer : Bool → List (List ℕ) → Answer} {stands : List (List ℕ) → List ℕ → Type 0}
    {holds : List ℕ → Type 0} {gf lf g l held0 held : Option (List ℕ)} {reader : LinesAhead}
    (stands_after : List (List ℕ) → List ℕ → Type 0) (holds_after : List ℕ → Type 0)
    (g' l' : Option (List ℕ)) (after : LinesAhead) (reads reads' writes writes' : ℕ) (s : Status)
    → (r : Ready limit answer stands holds gf lf g l held0 held reader)
    → ComesTo limit answer stands_after holds_after gf lf g' l' reader after
    r.going.done r.going.read (r.going.written ++ r.going.ready) r.going.ready (Err s)
    → (s ≡ status.ReadFault → Rose reads reads')
    → Ran (answer_read limit answer) lf reads reads' held0 held writes writes' s
failed_ran {limit} {answer} {gf} {lf} {held0} {held} {reader} stands_after holds_after g' l' after reads reads' writes
    writes' s
    r come rose =
    by_error limit answer stands_after holds_after gf lf g' l' reader after r.going.done r.going.read
    (r.going.written ++ r.going.ready) r.going.ready
    (λ x. (x ≡ status.ReadFault → Rose reads reads')
    → Ran (answer_read limit answer) lf reads reads' held0 held writes writes' x)
    s come
    (λ come rose. record {
      front = front;
      decided = λ h. absurd h;
      read_fault = λ e. rose refl;
      write_fault = λ e. absurd (cc e);
      good_words = λ e. cc e;
    })
    (λ come rose. ran_short limit answer lf held0 held reads reads' writes writes' status.NoMemory (inr refl) front
    (λ e. absurd (cc e)))
    rose
  where
    front : IfSome lf (λ bytes. GrowsByFront held0 held (answer_read limit answer bytes).0)
    front =
        front_written limit answer lf held0 held held r.going.done r.going.written r.going.ready 0 (omega arith)
        r.going.gained (Appends-nil held) r.going.follows (leads_done r.going)

fault_law : {limit : ℕ} (answer : Bool → List (List ℕ) → Answer) (lf l held0 held : Option (List ℕ))
    (done : List (List ℕ))
    (read output : List ℕ) → lines_of true read ≡ done → Follows answer done output → Appends held0 held output
    → length read ≤ limit → IsNear limit answer lf held0 held read
    → LineByLine limit answer lf l held0 held status.ReadFault read
fault_law {limit} answer lf l held0 held done read output lines follows wrote within near =
    let is : answer true (lines_of true read) ≡ with_front output (ending last.Long) =
    ap (answer true) lines ∙ follows.undecided in
    record {
      within = within;
      read_failed = λ e.
          (ap (λ a. is_long a.1) is, subst (Appends held0 held) (sym (ap shown is ∙ shown_of output)) wrote);
      decided = λ h. absurd h;
      near_deciding = near.deciding;
      near_unwritten = near.unwritten;
    }

-- what was ready had been written
nothing_ready : {limit : ℕ} {answer : Bool → List (List ℕ) → Answer} {stands : List (List ℕ) → List ℕ → Type 0}
    {holds : List ℕ → Type 0} {gf lf g l held0 held : Option (List ℕ)} {reader : LinesAhead}
    → (r : Ready limit answer stands holds gf lf g l held0 held reader) → IsOpen reader.held
    → Appends held0 held (r.going.written ++ r.going.ready)
nothing_ready {limit} {held0} {held} r open_line =
    let at = r.going in
    let none : at.ready ≡ [] = elim r.waits [ inl n ↦ n.0 | inr h ↦ absurd (h open_line) ] in
    subst (Appends held0 held) (sym (ap (λ t. at.written ++ t) none ∙ append-nil at.written)) at.gained

pub failed_law : {limit : ℕ} {answer : Bool → List (List ℕ) → Answer} {stands : List (List ℕ) → List ℕ → Type 0}
    {holds : List ℕ → Type 0} {gf lf g l held0 held : Option (List ℕ)} {reader : LinesAhead}
    (stands_after : List (List ℕ) → List ℕ → Type 0) (holds_after : List ℕ → Type 0)
    (g' l' : Option (List ℕ)) (after : LinesAhead) (s : Status)
    → (r : Ready limit answer stands holds gf lf g l held0 held reader)
    → ComesTo limit answer stands_after holds_after gf lf g' l' reader after
    r.going.done r.going.read (r.going.written ++ r.going.ready) r.going.ready (Err s)
    → (read : List ℕ) × TookFrom gf g' lf l' read × LineByLine limit answer lf l' held0 held s read
failed_law {limit} {answer} {gf} {lf} {held0} {held} {reader} stands_after holds_after g' l' after s r come =
    let at = r.going in
    by_error limit answer stands_after holds_after gf lf g' l' reader after at.done at.read
    (at.written ++ at.ready) at.ready
    (λ x. (read : List ℕ) × TookFrom gf g' lf l' read × LineByLine limit answer lf l' held0 held x read)
    s come
    (λ come. (
      come.0,
      come.1,
      fault_law answer lf l' held0 held at.done come.0 (at.written ++ at.ready) come.2 at.follows
          (nothing_ready r come.4) come.5.within
          (near_first held at come.0 (stays_near r come.0 come.5) at.written at.gained (omega arith)),
    ))
    (λ come. (
      come.0,
      come.1,
      law_short answer lf l' held0 held status.NoMemory come.0 (inr refl) come.3.within
          (near_first held at come.0 (stays_near r come.0 come.3) at.written at.gained (omega arith)),
    ))

-- nothing was read or written

pub none_ran : (limit : ℕ) (answer : Bool → List (List ℕ) → Answer) (lf held0 : Option (List ℕ))
    (reads reads' writes writes' : ℕ)
    → Ran (answer_read limit answer) lf reads reads' held0 held0 writes writes' status.NoMemory
none_ran limit answer lf held0 reads reads' writes writes' =
    ran_short limit answer lf held0 held0 reads reads' writes writes' status.NoMemory (inr refl) (front lf)
    (λ e. absurd (cc e))
  where
    front : (o : Option (List ℕ)) → IfSome o (λ bytes. GrowsByFront held0 held0 (answer_read limit answer bytes).0)
    front None = tt
    front (Some bytes) = (0, omega arith, Appends-nil held0)

pub none_law : {limit : ℕ} (answer : Bool → List (List ℕ) → Answer) (g l held : Option (List ℕ))
    → (read : List ℕ) × TookFrom g g l l read × LineByLine limit answer l l held held status.NoMemory read
none_law {limit} answer g l held = (
  [],
  record { given = Appends-nil g; left = Consumes-nil l },
  law_short answer l l held held status.NoMemory [] (inr refl) (omega arith)
      (is_near answer l held held [] [] [] 0 (ahead l) (if_near l 0 16384 (omega arith)) (within_none answer)
      (Appends-nil held) (omega arith)),
)
  where
    ahead : (o : Option (List ℕ)) → LeadsOff limit o []
    ahead None = tt
    ahead (Some bytes) = (lines_read limit bytes, refl)
