-- A run on its way: what it read, played and wrote.
use Rattle.std.proofs.Common.{◌≡◌, ℕ, ◌+◌, ◌≤◌, Bool, List, [], ◌∷◌, ◌++◌, length, Option, Some, None, Ok, refl, sym, ap, ◌∙◌, subst, inl, inr, ◌⊎◌, arith, append_assoc, append-nil, length-append}
use Rattle.std.specs.Prelude.{IfSome}
use Rattle.std.specs.Io.KnownBytes.{Appends}
use Rattle.std.proofs.KnownBytes.{Appends-trans, Appends-nil}
use Rattle.wio_core.specs.Lines.{IsOpen}
use Rattle.wio_core.specs.LineAnswers.{LinesAhead}
use Rattle.wio_core.specs.declared.line_reader.LineStop.TheVariants.{ReadFault}
use Rattle.program_run.specs.Endings.{Answer}
use Rattle.program_run.specs.Lines.{size_of}
use Rattle.program_run.specs.Scripts.{Follows}
use Rattle.program_run.specs.Reading.{IsReadTo, LeadsOff, StaysNear, ComesTo}
use Rattle.program_run.specs.Writing.{WritesDue}
use Rattle.program_run.proofs.InputSplits.{size_both}
use Rattle.program_run.proofs.ReadLines.{leads}
use Rattle.program_run.proofs.LinesTold.{open_or_ended}
use Rattle.program_run.proofs.LinesWithin.{Within, within_none, within_more}

-- A run at the head of its loop. These lines were played; the output of the first of them was written, and that of
-- the others is ready.
pub record Going (limit : ℕ)
    (answer : Bool → List (List ℕ) → Answer)
    (stands : List (List ℕ) → List ℕ → Type 0)
    (holds : List ℕ → Type 0)
    (given_first left_first given left held_first held : Option (List ℕ))
    (reader : LinesAhead) : Type 0 where
  pub done : List (List ℕ)
  pub first : List (List ℕ)
  pub others : List (List ℕ)
  pub read : List ℕ
  pub written : List ℕ
  pub ready : List ℕ
  pub up_to : IsReadTo limit given_first left_first given left reader done read
  pub parts : done ≡ first ++ others
  pub said : stands done (written ++ ready)
  pub kept : holds ready
  pub gained : Appends held_first held written
  pub follows : Follows answer done (written ++ ready)
  pub all_within : Within answer done (length (written ++ ready))
  pub first_within : Within answer first (length written)
  pub near : IfSome left_first (λ bytes. length read ≤ size_of first + 16384)

-- The same before the next line is read: nothing is ready, or the reader holds that line.
pub record Ready (limit : ℕ)
    (answer : Bool → List (List ℕ) → Answer)
    (stands : List (List ℕ) → List ℕ → Type 0)
    (holds : List ℕ → Type 0)
    (given_first left_first given left held_first held : Option (List ℕ))
    (reader : LinesAhead) : Type 0 where
  pub going : Going limit answer stands holds given_first left_first given left held_first held reader
  pub waits : ((going.ready ≡ []) × (going.first ≡ going.done)) ⊎ (¬ IsOpen reader.held)

pub if_near : (lf : Option (List ℕ)) (read n : ℕ) → read ≤ n → IfSome lf (λ bytes. read ≤ n)
if_near None read n h = tt
if_near (Some bytes) read n h = h

near_more : (lf : Option (List ℕ)) (done first others : List (List ℕ)) (read : List ℕ) → done ≡ first ++ others
    → IfSome lf (λ bytes. length read ≤ size_of first + 16384) → IfSome lf (λ bytes. length read ≤ size_of done + 16384)
near_more None done first others read parts h = tt
near_more (Some bytes) done first others read parts h =
    let more = ap size_of parts ∙ size_both first others in omega (arith, more, h)

near_as_before : (lf : Option (List ℕ)) (read read_after : List ℕ) (n : ℕ) → IfSome lf (λ bytes. length read ≤ n)
    → IfSome lf (λ bytes. read_after ≡ read) → IfSome lf (λ bytes. length read_after ≤ n)
near_as_before None read read_after n h e = tt
near_as_before (Some bytes) read read_after n h e = let len = ap length e in omega (arith, len)

-- nothing was read, played or written yet
pub at_first : {limit : ℕ} (answer : Bool → List (List ℕ) → Answer) (stands : List (List ℕ) → List ℕ → Type 0)
    (holds : List ℕ → Type 0) (given left held : Option (List ℕ)) (reader : LinesAhead)
    → IsReadTo limit given left given left reader [] [] → stands [] [] → holds [] → Follows answer [] []
    → Going limit answer stands holds given left given left held held reader
at_first {limit} answer stands holds given left held reader up_to said kept follows = record {
  done = [];
  first = [];
  others = [];
  read = [];
  written = [];
  ready = [];
  up_to = up_to;
  parts = refl;
  said = said;
  kept = kept;
  gained = Appends-nil held;
  follows = follows;
  all_within = within_none answer;
  first_within = within_none answer;
  near = if_near left 0 16384 (omega arith);
}

-- the reader may be called
pub may_read : {limit : ℕ} {answer : Bool → List (List ℕ) → Answer} {stands : List (List ℕ) → List ℕ → Type 0}
    {holds : List ℕ → Type 0} {gf lf g l held0 held : Option (List ℕ)} {reader : LinesAhead}
    → Going limit answer stands holds gf lf g l held0 held reader → reader.settled ≡ Some ReadFault → ⊥
may_read {limit} {gf} {lf} {g} {l} {reader} at e =
    elim (open_or_ended gf lf g l reader at.done at.read at.up_to) [ inl n ↦ cc | inr n ↦ cc ]

-- what is ready was written, or the next line is held
pub was_due : {limit : ℕ} {answer : Bool → List (List ℕ) → Answer} {stands : List (List ℕ) → List ℕ → Type 0}
    {holds : List ℕ → Type 0} {gf lf g l held0 held : Option (List ℕ)} {reader : LinesAhead}
    (stands_after : List (List ℕ) → List ℕ → Type 0) (holds_after : List ℕ → Type 0) (held_after : Option (List ℕ))
    → (at : Going limit answer stands holds gf lf g l held0 held reader)
    → stands_after at.done (at.written ++ at.ready) → WritesDue holds_after reader held held_after at.ready
    → Ready limit answer stands_after holds_after gf lf g l held0 held_after reader
was_due {limit} {answer} {lf} {held0} {held} stands_after holds_after held_after at said (inl wrote) =
    let output : List ℕ = at.written ++ at.ready in
    let same : output ≡ output ++ [] = sym (append-nil output) in
    record {
      going = record {
        done = at.done;
        first = at.done;
        others = [];
        read = at.read;
        written = output;
        ready = [];
        up_to = at.up_to;
        parts = sym (append-nil at.done);
        said = subst (stands_after at.done) same said;
        kept = wrote.0;
        gained = Appends-trans held0 held held_after at.written at.ready at.gained wrote.1;
        follows = subst (Follows answer at.done) same at.follows;
        all_within = subst (λ t. Within answer at.done (length t)) same at.all_within;
        first_within = at.all_within;
        near = near_more lf at.done at.first at.others at.read at.parts at.near;
      };
      waits = inl (refl, refl);
    }
was_due {limit} {lf} {held0} {held} stands_after holds_after held_after at said (inr holding) =
    record {
      going = record {
        done = at.done;
        first = at.first;
        others = at.others;
        read = at.read;
        written = at.written;
        ready = at.ready;
        up_to = at.up_to;
        parts = at.parts;
        said = said;
        kept = holding.0;
        gained = subst (Appends held0 held_after) (append-nil at.written)
            (Appends-trans held0 held held_after at.written [] at.gained holding.1);
        follows = at.follows;
        all_within = at.all_within;
        first_within = at.first_within;
        near = at.near;
      };
      waits = inr holding.2;
    }

-- however the next line is read, it stays near to the lines whose output was written
pub stays_near : {limit : ℕ} {answer : Bool → List (List ℕ) → Answer} {stands : List (List ℕ) → List ℕ → Type 0}
    {holds : List ℕ → Type 0} {gf lf g l held0 held : Option (List ℕ)} {reader : LinesAhead}
    → (r : Ready limit answer stands holds gf lf g l held0 held reader) (read_after : List ℕ)
    → StaysNear limit lf reader r.going.done r.going.read read_after
    → IfSome lf (λ bytes. length read_after ≤ size_of r.going.first + 16384)
stays_near {limit} {lf} r read_after stays =
    elim r.waits [
      | inl none ↦
          subst (λ lines. IfSome lf (λ bytes. length read_after ≤ size_of lines + 16384)) (sym none.1)
          (if_near lf (length read_after) (size_of r.going.done + 16384) stays.near)
      | inr held ↦
          near_as_before lf r.going.read read_after (size_of r.going.first + 16384) r.going.near (stays.waits held)
    ]

-- one line more was played
pub went_on : {limit : ℕ} {answer : Bool → List (List ℕ) → Answer} {stands : List (List ℕ) → List ℕ → Type 0}
    {holds : List ℕ → Type 0} {gf lf g l held0 held : Option (List ℕ)} {reader : LinesAhead}
    (stands_after : List (List ℕ) → List ℕ → Type 0) (holds_after : List ℕ → Type 0)
    (g_after l_after : Option (List ℕ)) (after : LinesAhead)
    → (r : Ready limit answer stands holds gf lf g l held0 held reader)
    → ComesTo limit answer stands_after holds_after gf lf g_after l_after reader after
    r.going.done r.going.read (r.going.written ++ r.going.ready) r.going.ready (Ok None)
    → Going limit answer stands_after holds_after gf lf g_after l_after held0 held after
went_on {limit} {answer} stands_after holds_after g_after l_after after r come =
    let at = r.going in
    let raw : List ℕ = come.0 in
    let played = come.3 in
    let lines : List (List ℕ) = at.done ++ raw ∷ [] in
    let output : List ℕ = at.written ++ at.ready in
    let longer : length output ≤ length (output ++ played.0) = omega (arith, length-append output played.0) in
    let same : output ++ played.0 ≡ at.written ++ (at.ready ++ played.0) =
    append_assoc at.written at.ready played.0 in
    let within = within_more answer at.done raw (output ++ played.0) (length output) at.all_within longer played.3 in
    record {
      done = lines;
      first = at.first;
      others = at.others ++ raw ∷ [];
      read = come.1;
      written = at.written;
      ready = at.ready ++ played.0;
      up_to = come.2;
      parts = ap (λ l. l ++ raw ∷ []) at.parts ∙ append_assoc at.first at.others (raw ∷ []);
      said = subst (stands_after lines) same played.1;
      kept = played.2;
      gained = at.gained;
      follows = subst (Follows answer lines) same played.3;
      all_within = subst (λ t. Within answer lines (length t)) same within;
      first_within = at.first_within;
      near = stays_near r come.1 come.4;
    }

-- what the lines of the input begin with

pub leads_done : {limit : ℕ} {answer : Bool → List (List ℕ) → Answer} {stands : List (List ℕ) → List ℕ → Type 0}
    {holds : List ℕ → Type 0} {gf lf g l held0 held : Option (List ℕ)} {reader : LinesAhead}
    → (at : Going limit answer stands holds gf lf g l held0 held reader) → LeadsOff limit lf at.done
leads_done {limit} {gf} {lf} {g} {l} {reader} at = leads gf lf g l reader at.done at.read at.up_to

leads_front : (limit : ℕ) (lf : Option (List ℕ)) (done first others : List (List ℕ)) → done ≡ first ++ others →
    LeadsOff limit lf done
    → LeadsOff limit lf first
leads_front limit None done first others e h = tt
leads_front limit (Some bytes) done first others e h =
    (others ++ h.0, h.1 ∙ ap (λ l. l ++ h.0) e ∙ append_assoc first others h.0)

pub leads_first : {limit : ℕ} {answer : Bool → List (List ℕ) → Answer} {stands : List (List ℕ) → List ℕ → Type 0}
    {holds : List ℕ → Type 0} {gf lf g l held0 held : Option (List ℕ)} {reader : LinesAhead}
    → (at : Going limit answer stands holds gf lf g l held0 held reader) → LeadsOff limit lf at.first
leads_first {limit} {lf} at = leads_front limit lf at.done at.first at.others at.parts (leads_done at)
