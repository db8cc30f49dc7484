-- What the reader answers, and the answer for the whole input that follows from it.
use Rattle.std.proofs.Common.{◌≡◌, ◌≢◌, ℕ, ◌+◌, ◌-◌, ◌<◌, ◌≤◌, Bool, true, false, List, [], ◌∷◌, ◌++◌, length, take, Option, Some, None, refl, sym, ap, ◌∙◌, subst, inl, inr, ◌⊎◌, arith, append_assoc, append-nil, length-append, get_or, Bor}
use Rattle.std.specs.Prelude.{IfSome, MatchOption, unwrap_or}
use Rattle.std.specs.Io.KnownBytes.{Consumes, IsAtEnd}
use Rattle.std.proofs.lemmas.Grind.{common_steps}
use Rattle.wio_core.specs.Lines.{IsOpen, IsTooLong, TookFrom}
use Rattle.wio_core.specs.LineAnswers.{LinesAhead, GoesOn, Answers, stop_of}
use Rattle.wio_core.specs.declared.line_reader.LineStop.{LineStop}
use Rattle.wio_core.specs.declared.line_reader.LineStop.TheVariants as stop
use Rattle.wio_core.specs.declared.line_reader.NextLine.{NextLine}
use Rattle.wio_core.specs.declared.line_reader.NextLine.TheVariants as answers
use Rattle.program_run.specs.declared.last_line.LastLine.{LastLine as End}
use Rattle.program_run.specs.declared.last_line.LastLine.TheVariants as last
use Rattle.program_run.specs.Endings.{Answer, with_front, ending}
use Rattle.program_run.specs.Lines.{lines_of, lines_read, is_cut, bytes_of}
use Rattle.program_run.specs.Scripts.{Follows, Settles, NamesNext}
use Rattle.program_run.specs.Reading.{LackFeeds, IsDivided, IsReadTo, LeadsOff, StaysNear, IsTold, bytes_ahead}
use Rattle.program_run.proofs.InputSplits.{lines_front, lines_nil, lines_open, lines_long}
use Rattle.program_run.proofs.ReadLines.{ReadBytes, went_on, input_lines, input_ended, input_cut, leads, none_came, whole_line, last_line_read}

-- the reader went on, or its answer was settled

by_settled : (o : Option LineStop) (before after : LinesAhead) (g0 g1 l0 l1 : Option (List ℕ)) (result : NextLine)
    → before.settled ≡ o
    → Answers before after g0 g1 l0 l1 result
    → MatchOption o ((more : List ℕ) × GoesOn before after g0 g1 l0 l1 result more)
    (λ why. (stop_of result ≡ Some why) × (after ≡ before))
by_settled o before after g0 g1 l0 l1 result e h =
    subst (λ s. MatchOption s ((more : List ℕ) × GoesOn before after g0 g1 l0 l1 result more)
    (λ why. (stop_of result ≡ Some why) × (after ≡ before))) e h

-- a reader that reads up to a line is settled at the end alone
pub open_or_ended : {limit : ℕ} (gf lf g l : Option (List ℕ)) (reader : LinesAhead) (done : List (List ℕ))
    (read : List ℕ)
    → IsReadTo limit gf lf g l reader done read
    → (reader.settled ≡ None) ⊎ (reader.settled ≡ Some stop.End)
open_or_ended {limit} gf lf g l reader done read r = by reader.settled refl r.divided
  where
    by : (o : Option LineStop) → reader.settled ≡ o → IsDivided limit o reader.held l done read
        → (reader.settled ≡ None) ⊎ (reader.settled ≡ Some stop.End)
    by None e d = inl e
    by (Some stop.End) e d = inr e
    by (Some stop.Long) e d = absurd d
    by (Some stop.Limit) e d = absurd d
    by (Some stop.ReadFault) e d = absurd d

-- where it answers anything but the end, it went on
pub goes : {limit : ℕ} (gf lf g0 l0 g1 l1 : Option (List ℕ)) (before after : LinesAhead) (result : NextLine)
    (done : List (List ℕ))
    (read : List ℕ)
    → IsReadTo limit gf lf g0 l0 before done read → Answers before after g0 g1 l0 l1 result →
    stop_of result ≢ Some stop.End
    → (before.settled ≡ None) × ((more : List ℕ) × GoesOn before after g0 g1 l0 l1 result more)
goes {limit} gf lf g0 l0 g1 l1 before after result done read r h other =
    elim (open_or_ended gf lf g0 l0 before done read r) [
      | inl e ↦ (e, by_settled None before after g0 g1 l0 l1 result e h)
      | inr e ↦ absurd (other (by_settled (Some stop.End) before after g0 g1 l0 l1 result e h).0)
    ]

near_of : {limit : ℕ} (gf lf g0 l0 g1 l1 : Option (List ℕ)) (before after : LinesAhead) (done : List (List ℕ))
    (read more bytes : List ℕ)
    → IsReadTo limit gf lf g0 l0 before done read → TookFrom g0 g1 l0 l1 more
    → ReadBytes limit gf lf g1 l1 after done bytes (read ++ more)
    → (¬ IsOpen before.held → l1 ≡ l0) → StaysNear limit lf before done read (read ++ more)
near_of {limit} gf lf g0 l0 g1 l1 before after done read more bytes r took b waits = record {
  within = b.within;
  near = b.near;
  waits = λ held. none_came lf l0 l1 read more r.took.left took.left (waits held);
}

-- a line came
pub record LineCame (limit : ℕ) (gf lf g l : Option (List ℕ)) (before after : LinesAhead) (done : List (List ℕ))
    (raw read : List ℕ) : Type 0 where
  pub read_after : List ℕ
  pub up_to : IsReadTo limit gf lf g l after (done ++ raw ∷ []) read_after
  pub near : StaysNear limit lf before done read read_after
  pub fewer : bytes_ahead after < bytes_ahead before
  pub whole : ((rest : List (List ℕ)) × (lines_of true read_after ≡ (done ++ raw ∷ []) ++ rest))
      ⊎ (IsAtEnd l × (lines_of false read_after ≡ done ++ raw ∷ []))

fewer_ahead : {limit : ℕ} (before after : LinesAhead) (read more raw : List ℕ) (k : ℕ)
    → before.room ≡ Some (limit - length read) → after.room ≡ Some (limit - length (read ++ more))
    → length (read ++ more) ≤ limit → length before.held + length more ≡ k + length after.held → 0 < k
    → bytes_ahead after < bytes_ahead before
fewer_ahead {limit} before after read more raw k room room_after within count some =
    let a : unwrap_or before.room 0 ≡ limit - length read = ap (λ o. unwrap_or o 0) room in
    let b : unwrap_or after.room 0 ≡ limit - length (read ++ more) = ap (λ o. unwrap_or o 0) room_after in
    omega (arith, a, b, length-append read more)

pub line_came : {limit : ℕ} (gf lf g0 l0 g1 l1 : Option (List ℕ)) (before after : LinesAhead) (raw : Bor (List ℕ))
    (done : List (List ℕ)) (read : List ℕ)
    → IsReadTo limit gf lf g0 l0 before done read → Answers before after g0 g1 l0 l1 (answers.Line raw)
    → (¬ IsOpen before.held → l1 ≡ l0)
    → LineCame limit gf lf g1 l1 before after done raw.now read
line_came {limit} gf lf g0 l0 g1 l1 before after raw done read r h waits =
    let w = goes gf lf g0 l0 g1 l1 before after (answers.Line raw) done read r h (λ e. cc e) in
    let more = w.1.0 in
    let b = went_on gf lf g0 l0 g1 l1 before after (answers.Line raw) done read more r w.0 w.1.1 in
    let near = near_of gf lf g0 l0 g1 l1 before after done read more (before.held ++ more) r w.1.1.took b waits in
    let both = length-append before.held more in
    elim (w.1.1.tells) [
      | inl whole ↦
          let up_to = whole_line gf lf g1 l1 after done raw.now (before.held ++ more) (read ++ more) b whole in
          let count : length before.held + length more ≡ (length raw.now + 1) + length after.held =
          omega (arith, ap length whole.begins.split, length-append raw.now (10 ∷ after.held), both) in
          record {
            read_after = read ++ more;
            up_to = up_to;
            near = near;
            fewer = fewer_ahead before after read more raw.now (length raw.now + 1) r.room b.room b.within count
                (omega arith);
            whole = inl (whole_lines after done raw.now (read ++ more) up_to whole.goes_on);
          }
      | inr ended ↦
          let count : length before.held + length more ≡ length raw.now + length after.held =
          omega (arith, ap length ended.all, ap length ended.none_held, both) in
          let up_to = last_line_read gf lf g1 l1 after done raw.now (before.held ++ more) (read ++ more) b ended in
          record {
            read_after = read ++ more;
            up_to = up_to;
            near = near;
            fewer = fewer_ahead before after read more raw.now (length raw.now) r.room b.room b.within count ended.some;
            whole = inr (all_lines after done raw.now (read ++ more) up_to ended.settled);
          }
    ]
  where
    whole_lines : (after : LinesAhead) (done : List (List ℕ)) (line read : List ℕ)
        → IsReadTo limit gf lf g1 l1 after (done ++ line ∷ []) read → after.settled ≡ None
        → (rest : List (List ℕ)) × (lines_of true read ≡ (done ++ line ∷ []) ++ rest)
    whole_lines after done line read up_to e =
        let d = subst (λ o. IsDivided limit o after.held l1 (done ++ line ∷ []) read) e up_to.divided in
        (lines_of true after.held, ap (lines_of true) d.0 ∙ lines_front true (done ++ line ∷ []) after.held d.1)

    all_lines : (after : LinesAhead) (done : List (List ℕ)) (line read : List ℕ)
        → IsReadTo limit gf lf g1 l1 after (done ++ line ∷ []) read → after.settled ≡ Some stop.End
        → IsAtEnd l1 × (lines_of false read ≡ done ++ line ∷ [])
    all_lines after done line read up_to e =
        let d = subst (λ o. IsDivided limit o after.held l1 (done ++ line ∷ []) read) e up_to.divided in (d.0, d.2)

-- the line decided
pub told_by_line : {limit : ℕ} (answer : Bool → List (List ℕ) → Answer) (gf lf g l : Option (List ℕ))
    (before after : LinesAhead)
    (done : List (List ℕ)) (raw read : List ℕ) (whole : Answer)
    → (came : LineCame limit gf lf g l before after done raw read) → Settles answer (done ++ raw ∷ []) whole
    → IsTold limit answer lf l done came.read_after whole
told_by_line {limit} answer gf lf g l before after done raw read whole came s =
    let ahead = leads gf lf g l after (done ++ raw ∷ []) came.read_after came.up_to in
    record {
      all = all lf ahead;
      leads = front lf ahead;
      early = early came.whole;
    }
  where
    all : (o : Option (List ℕ)) → LeadsOff limit o (done ++ raw ∷ [])
        → IfSome o (λ bytes. answer (is_cut limit bytes) (lines_read limit bytes) ≡ whole)
    all None ahead = tt
    all (Some bytes) ahead = ap (answer (is_cut limit bytes)) ahead.1 ∙ s.same (is_cut limit bytes) ahead.0

    front : (o : Option (List ℕ)) → LeadsOff limit o (done ++ raw ∷ []) → LeadsOff limit o done
    front None ahead = tt
    front (Some bytes) ahead = (raw ∷ ahead.0, ahead.1 ∙ append_assoc done (raw ∷ []) ahead.0)

    early : ((rest : List (List ℕ)) × (lines_of true came.read_after ≡ (done ++ raw ∷ []) ++ rest))
        ⊎ (IsAtEnd l × (lines_of false came.read_after ≡ done ++ raw ∷ []))
        → (answer true (lines_of true came.read_after) ≡ whole)
        ⊎ (IsAtEnd l × (answer false (lines_of false came.read_after) ≡ whole))
    early (inl lines) = inl (ap (answer true) lines.1 ∙ s.same true lines.0)
    early (inr end) =
        inr (end.0, ap (answer false) (end.1 ∙ sym (append-nil (done ++ raw ∷ []))) ∙ s.same false [])

-- the source ended
told_end : {limit : ℕ} (answer : Bool → List (List ℕ) → Answer) (lf l : Option (List ℕ)) (done : List (List ℕ))
    (read : List ℕ)
    (whole : Answer)
    → Consumes lf l read → IsAtEnd l → length read < limit → lines_of false read ≡ done
    → answer false done ≡ whole → IsTold limit answer lf l done read whole
told_end {limit} answer lf l done read whole took end short lines is = record {
  all = all lf l took end;
  leads = front lf l took end;
  early = inr (end, ap (answer false) lines ∙ is);
}
  where
    same : (bytes rest : List ℕ) → bytes ≡ read ++ rest → rest ≡ [] → bytes ≡ read
    same bytes rest e none = e ∙ ap (λ t. read ++ t) none ∙ append-nil read

    all : (o p : Option (List ℕ)) → Consumes o p read → IsAtEnd p
        → IfSome o (λ bytes. answer (is_cut limit bytes) (lines_read limit bytes) ≡ whole)
    all None p took end = tt
    all (Some bytes) None took end = absurd took
    all (Some bytes) (Some rest) took end =
        let e = input_ended done read bytes (same bytes rest took end) short lines in
        ap (λ c. answer c (lines_read limit bytes)) e.0 ∙ ap (answer false) e.1 ∙ is

    front : (o p : Option (List ℕ)) → Consumes o p read → IsAtEnd p → LeadsOff limit o done
    front None p took end = tt
    front (Some bytes) None took end = absurd took
    front (Some bytes) (Some rest) took end =
        ([], (input_ended done read bytes (same bytes rest took end) short lines).1 ∙ sym (append-nil done))

-- what was told, and the bytes read
pub record Came (limit : ℕ) (answer : Bool → List (List ℕ) → Answer) (gf lf g l : Option (List ℕ)) (before : LinesAhead)
    (done : List (List ℕ)) (read : List ℕ) (whole : Answer) : Type 0 where
  pub read_after : List ℕ
  pub took : TookFrom gf g lf l read_after
  pub told : IsTold limit answer lf l done read_after whole
  pub near : StaysNear limit lf before done read read_after

pub end_came : {limit : ℕ} (answer : Bool → List (List ℕ) → Answer) (gf lf g0 l0 g1 l1 : Option (List ℕ))
    (before after : LinesAhead) (done : List (List ℕ)) (read output : List ℕ) (end : End)
    → IsReadTo limit gf lf g0 l0 before done read → Answers before after g0 g1 l0 l1 answers.End
    → (¬ IsOpen before.held → l1 ≡ l0)
    → (before.settled ≡ Some stop.End → (g1 ≡ g0) × (l1 ≡ l0)) → NamesNext answer done output end
    → Came limit answer gf lf g1 l1 before done read (with_front output (ending end))
end_came {limit} answer gf lf g0 l0 g1 l1 before after done read output end r h waits still names =
    elim (open_or_ended gf lf g0 l0 before done read r) [
      | inl e ↦ went e (by_settled None before after g0 g1 l0 l1 answers.End e h)
      | inr e ↦ stayed e (still e)
    ]
  where
    went : before.settled ≡ None → (more : List ℕ) × GoesOn before after g0 g1 l0 l1 answers.End more
        → Came limit answer gf lf g1 l1 before done read (with_front output (ending end))
    went e (more, on) =
        let b = went_on gf lf g0 l0 g1 l1 before after answers.End done read more r e on in
        let cause = on.tells.0.cause in
        let lines : lines_of false (read ++ more) ≡ done =
        ap (lines_of false) (b.split ∙ ap (λ t. bytes_of done ++ t) on.tells.1) ∙ lines_front false done [] b.lack
        ∙ ap (λ t. done ++ t) (lines_nil false) ∙ append-nil done in
        let other : length (read ++ more) ≢ limit = λ full. cause.2 (b.room ∙ ap (λ n. Some n) (omega arith)) in
        let within = b.within in
        record {
          read_after = read ++ more;
          took = b.took;
          told = told_end answer lf l1 done (read ++ more) (with_front output (ending end)) b.took.left cause.1
              (omega arith) lines names.missing;
          near = near_of gf lf g0 l0 g1 l1 before after done read more (before.held ++ more) r on.took b waits;
        }

    stayed : before.settled ≡ Some stop.End → (g1 ≡ g0) × (l1 ≡ l0)
        → Came limit answer gf lf g1 l1 before done read (with_front output (ending end))
    stayed e same =
        let d = subst (λ o. IsDivided limit o before.held l0 done read) e r.divided in
        let took : TookFrom gf g1 lf l1 read = subst (λ (o : Option (List ℕ)). TookFrom gf o lf l1 read) (sym same.0)
        (subst (λ (o : Option (List ℕ)). TookFrom gf g0 lf o read) (sym same.1) r.took) in
        let long = d.3 in
        record {
          read_after = read;
          took = took;
          told = told_end answer lf l1 done read (with_front output (ending end)) took.left
              (subst IsAtEnd (sym same.1) d.0) d.1 d.2 names.missing;
          near = record { within = r.within; near = omega arith; waits = λ held. unread lf };
        }
      where
        unread : (o : Option (List ℕ)) → IfSome o (λ bytes. read ≡ read)
        unread None = tt
        unread (Some bytes) = refl

-- the limit was reached
pub limit_came : {limit : ℕ} (answer : Bool → List (List ℕ) → Answer) (gf lf g0 l0 g1 l1 : Option (List ℕ))
    (before after : LinesAhead) (done : List (List ℕ)) (read output : List ℕ)
    → IsReadTo limit gf lf g0 l0 before done read → Answers before after g0 g1 l0 l1 answers.Limit
    → (¬ IsOpen before.held → l1 ≡ l0) → Follows answer done output
    → Came limit answer gf lf g1 l1 before done read (with_front output (ending last.Long))
limit_came {limit} answer gf lf g0 l0 g1 l1 before after done read output r h waits follows =
    let w = goes gf lf g0 l0 g1 l1 before after answers.Limit done read r h (λ e. cc e) in
    let more = w.1.0 in
    let b = went_on gf lf g0 l0 g1 l1 before after answers.Limit done read more r w.0 w.1.1 in
    let cause = w.1.1.tells.cause in
    let none : Some (limit - length (read ++ more)) ≡ Some 0 = sym b.room ∙ cause.1 in
    let left : limit - length (read ++ more) ≡ 0 = cc in
    let within = b.within in
    let full : length (read ++ more) ≡ limit = omega arith in
    let lines : lines_of true (read ++ more) ≡ done =
    ap (lines_of true) b.split ∙ lines_front true done (before.held ++ more) b.lack
    ∙ ap (λ t. done ++ t) (lines_open (before.held ++ more) cause.0) ∙ append-nil done in
    let is : answer true (lines_of true (read ++ more)) ≡ with_front output (ending last.Long) = ap (answer true) lines
    ∙ follows.undecided in
    record {
      read_after = read ++ more;
      took = b.took;
      told = record {
        all = all (read ++ more) lf l1 b.took.left full is;
        leads =
            front (read ++ more) lf l1 b.took.left full lines;
        early = inl is;
      };
      near = near_of gf lf g0 l0 g1 l1 before after done read more (before.held ++ more) r w.1.1.took b waits;
    }
  where
    all : (now : List ℕ) (o p : Option (List ℕ)) → Consumes o p now → length now ≡ limit
        → answer true (lines_of true now) ≡ with_front output (ending last.Long)
        → IfSome o (λ bytes. answer (is_cut limit bytes) (lines_read limit bytes)
        ≡ with_front output (ending last.Long))
    all now None p took full is = tt
    all now (Some bytes) None took full is = absurd took
    all now (Some bytes) (Some rest) took full is =
        let e = input_cut now rest bytes took full in
        ap (λ c. answer c (lines_read limit bytes)) e.0 ∙ ap (answer true) e.1 ∙ is

    front : (now : List ℕ) (o p : Option (List ℕ)) → Consumes o p now → length now ≡ limit
        → lines_of true now ≡ done → LeadsOff limit o done
    front now None p took full lines = tt
    front now (Some bytes) None took full lines = absurd took
    front now (Some bytes) (Some rest) took full lines =
        ([], (input_cut now rest bytes took full).1 ∙ lines ∙ sym (append-nil done))

-- the next line has too many bytes
pub long_came : {limit : ℕ} (answer : Bool → List (List ℕ) → Answer) (gf lf g0 l0 g1 l1 : Option (List ℕ))
    (before after : LinesAhead) (done : List (List ℕ)) (read output : List ℕ) (end : End)
    → IsReadTo limit gf lf g0 l0 before done read → Answers before after g0 g1 l0 l1 answers.Long
    → (¬ IsOpen before.held → l1 ≡ l0) → NamesNext answer done output end
    → Came limit answer gf lf g1 l1 before done read (with_front output (ending end))
long_came {limit} answer gf lf g0 l0 g1 l1 before after done read output end r h waits names =
    let w = goes gf lf g0 l0 g1 l1 before after answers.Long done read r h (λ e. cc e) in
    let more = w.1.0 in
    let b = went_on gf lf g0 l0 g1 l1 before after answers.Long done read more r w.0 w.1.1 in
    let bytes : List ℕ = before.held ++ more in
    let long : IsTooLong bytes = w.1.1.tells.cause in
    let lines : lines_of true (read ++ more) ≡ done ++ lines_of true (bytes ++ []) =
    ap (lines_of true) b.split ∙ lines_front true done bytes b.lack
    ∙ ap (λ t. done ++ lines_of true t) (sym (append-nil bytes)) in
    record {
      read_after = read ++ more;
      took = b.took;
      told = record {
        all = all bytes (read ++ more) long b.within b.split lf l1 b.took.left;
        leads = front bytes (read ++ more) long b.within b.split lf l1 b.took.left;
        early = inl (ap (answer true) lines ∙ by_long true bytes [] long);
      };
      near = near_of gf lf g0 l0 g1 l1 before after done read more bytes r w.1.1.took b waits;
    }
  where
    whole : Answer
    whole = with_front output (ending end)

    by_long : (cut : Bool) (bytes rest : List ℕ) → IsTooLong bytes
        → answer cut (done ++ lines_of cut (bytes ++ rest)) ≡ whole
    by_long cut bytes rest long =
        let f = lines_long cut bytes rest long in
        let s = names.long f.0 f.3 in
        ap (λ t. answer cut (done ++ t)) f.2 ∙ ap (answer cut) (sym (append_assoc done (f.0 ∷ []) f.1)) ∙ s.same cut f.1

    lack : LackFeeds done
    lack = (went_lack (goes gf lf g0 l0 g1 l1 before after answers.Long done read r h (λ e. cc e)).0)
      where
        went_lack : before.settled ≡ None → LackFeeds done
        went_lack e = (subst (λ o. IsDivided limit o before.held l0 done read) e r.divided).1

    all : (bytes now : List ℕ) → IsTooLong bytes → length now ≤ limit → now ≡ bytes_of done ++ bytes
        → (o p : Option (List ℕ)) → Consumes o p now
        → IfSome o (λ input. answer (is_cut limit input) (lines_read limit input) ≡ whole)
    all bytes now long within split None p took = tt
    all bytes now long within split (Some input) None took = absurd took
    all bytes now long within split (Some input) (Some rest) took =
        ap (answer (is_cut limit input)) (input_lines done bytes now rest input took within split lack)
        ∙ by_long (is_cut limit input) bytes (take (limit - length now) rest) long

    front : (bytes now : List ℕ) → IsTooLong bytes → length now ≤ limit → now ≡ bytes_of done ++ bytes
        → (o p : Option (List ℕ)) → Consumes o p now → LeadsOff limit o done
    front bytes now long within split None p took = tt
    front bytes now long within split (Some input) None took = absurd took
    front bytes now long within split (Some input) (Some rest) took = (
      lines_of (is_cut limit input) (bytes ++ take (limit - length now) rest),
      input_lines done bytes now rest input
          took within split lack,
    )

-- the front of the beginning of a line is one
open_front : (held more : List ℕ) → IsOpen (held ++ more) → IsOpen held
open_front held more h = record {
  few = let few = h.few in omega (arith, length-append held more);
  lacks = λ k d lt.
      let inside : k < length (held ++ more) = omega (arith, length-append held more) in
      let same : get_or (held ++ more) k d ≡ get_or held k d = grind (arith, common_steps) in
      λ e. h.lacks k d inside (same ∙ e);
}

-- a read failed
pub record FaultCame (limit : ℕ) (gf lf g l : Option (List ℕ)) (before : LinesAhead) (done : List (List ℕ))
    (read : List ℕ) : Type 0 where
  pub read_after : List ℕ
  pub took : TookFrom gf g lf l read_after
  pub lines : lines_of true read_after ≡ done
  pub begun : IsOpen before.held
  pub near : StaysNear limit lf before done read read_after

pub fault_came : {limit : ℕ} (gf lf g0 l0 g1 l1 : Option (List ℕ)) (before after : LinesAhead) (done : List (List ℕ))
    (read : List ℕ)
    → IsReadTo limit gf lf g0 l0 before done read → Answers before after g0 g1 l0 l1 answers.ReadFault
    → (¬ IsOpen before.held → l1 ≡ l0) → FaultCame limit gf lf g1 l1 before done read
fault_came {limit} gf lf g0 l0 g1 l1 before after done read r h waits =
    let w = goes gf lf g0 l0 g1 l1 before after answers.ReadFault done read r h (λ e. cc e) in
    let more = w.1.0 in
    let b = went_on gf lf g0 l0 g1 l1 before after answers.ReadFault done read more r w.0 w.1.1 in
    record {
      read_after = read ++ more;
      took = b.took;
      lines = ap (lines_of true) b.split ∙ lines_front true done (before.held ++ more) b.lack
          ∙ ap (λ t. done ++ t) (lines_open (before.held ++ more) w.1.1.tells.cause) ∙ append-nil done;
      begun = open_front before.held more w.1.1.tells.cause;
      near = near_of gf lf g0 l0 g1 l1 before after done read more (before.held ++ more) r w.1.1.took b waits;
    }

-- the source ended, or the next line has too many bytes
pub end_or_long_came : {limit : ℕ} (answer : Bool → List (List ℕ) → Answer) (gf lf g0 l0 g1 l1 : Option (List ℕ))
    (before after : LinesAhead) (result : NextLine) (done : List (List ℕ)) (read output : List ℕ) (end : End)
    → (result ≡ answers.End) ⊎ (result ≡ answers.Long)
    → IsReadTo limit gf lf g0 l0 before done read → Answers before after g0 g1 l0 l1 result →
    (¬ IsOpen before.held → l1 ≡ l0)
    → (before.settled ≡ Some stop.End → (g1 ≡ g0) × (l1 ≡ l0)) → NamesNext answer done output end
    → Came limit answer gf lf g1 l1 before done read (with_front output (ending end))
end_or_long_came {limit} answer gf lf g0 l0 g1 l1 before after result done read output end
    (inl e) r h waits still names =
    end_came answer gf lf g0 l0 g1 l1 before after done read output end r
    (subst (Answers before after g0 g1 l0 l1) e h) waits still names
end_or_long_came {limit} answer gf lf g0 l0 g1 l1 before after result done read output end
    (inr e) r h waits still names =
    long_came answer gf lf g0 l0 g1 l1 before after done read output end r
    (subst (Answers before after g0 g1 l0 l1) e h) waits names
