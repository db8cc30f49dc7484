-- What one line more makes of an act list.
use Rattle.std.proofs.Common.{◌≡◌, ℕ, ◌+◌, ◌<◌, Bool, true, false, leb, List, [], ◌∷◌, ◌++◌, length, Some, None, refl, sym, ap, subst, ◌∙◌, append_assoc, append-nil}
use Rattle.std.proofs.lemmas.Bool.{lt-leb}
use Rattle.relay_model.specs.declared.act.Act.{Act}
use Rattle.relay_model.specs.Told.{told}
use Rattle.relay_core.specs.Stands.{StandsFor}
use Rattle.session_text.specs.Reading.{line_of, line_limit}
use Rattle.program_run.specs.declared.act_list.ActList.{ActList}
use Rattle.program_run.specs.declared.act_list.Verdict.{Verdict}
use Rattle.program_run.specs.declared.act_list.Verdict.TheVariants as verdict
use Rattle.program_run.specs.declared.last_line.LastLine.{LastLine}
use Rattle.program_run.specs.declared.last_line.LastLine.TheVariants as last
use Rattle.program_run.specs.Endings.{with_front, ending, is_long}
use Rattle.program_run.specs.Transcript.{answer_from, verdict_of, act_text}
use Rattle.program_run.specs.Scripts.{Follows, Settles, NamesNext, Played}
use Rattle.program_run.specs.ActScript.{ActsStand, acts_text}
use Rattle.program_run.proofs.ActListAnswers.{by_line, answer_cons, answer_nil, front_of_front}

by_verdict_of : (done : List (List ℕ)) (output : List ℕ) (log : List Act) (raw : List ℕ) (n : ℕ) (v : Verdict)
    → ((cut : Bool) (more : List (List ℕ)) → answer_from cut [] (done ++ more) ≡ with_front output
    (answer_from cut log more)) → n ≡ length log → v ≡ verdict_of n raw
    → (cut : Bool) (more : List (List ℕ)) → answer_from cut [] ((done ++ raw ∷ []) ++ more) ≡ with_front output
    (by_line cut log n v more)
by_verdict_of done output log raw n v goes count is cut more =
    ap (answer_from cut []) (append_assoc done (raw ∷ []) more) ∙ goes cut (raw ∷ more) ∙ ap (with_front output)
    (answer_cons cut log raw more)
    ∙ sym (ap (λ w. with_front output (by_line cut log n w more)) is
    ∙ ap (λ m. with_front output (by_line cut log m (verdict_of m raw) more)) count)

-- a line that ends the list
pub settles : (done : List (List ℕ)) (output : List ℕ) (log : List Act) (raw : List ℕ) (n : ℕ) (v : Verdict)
    (end : LastLine)
    → ((cut : Bool) (more : List (List ℕ)) → answer_from cut [] (done ++ more) ≡ with_front output
    (answer_from cut log more)) → n ≡ length log → v ≡ verdict_of n raw
    → ((cut : Bool) (more : List (List ℕ)) → by_line cut log n v more ≡ ending end) → is_long (ending end).1 ≡ false
    → Settles (λ cut lines. answer_from cut [] lines) (done ++ raw ∷ []) (with_front output (ending end))
settles done output log raw n v end goes count is ends other = record {
  same = λ cut more. by_verdict_of done output log raw n v goes count is cut more ∙ ap (with_front output)
      (ends cut more);
  decides = other;
}

-- an act
pub goes_further : (done : List (List ℕ)) (output : List ℕ) (log : List Act) (raw : List ℕ) (n : ℕ) (act : Act)
    → ((cut : Bool) (more : List (List ℕ)) → answer_from cut [] (done ++ more) ≡ with_front output
    (answer_from cut log more)) → n ≡ length log → verdict.Play act ≡ verdict_of n raw
    → (cut : Bool) (more : List (List ℕ)) → answer_from cut [] ((done ++ raw ∷ []) ++ more) ≡ with_front
    (output ++ act_text (length log + 1) (told act log)) (answer_from cut (act ∷ log) more)
goes_further done output log raw n act goes count is cut more =
    by_verdict_of done output log raw n (verdict.Play act) goes count is cut more
    ∙ front_of_front output (act_text (length log + 1) (told act log)) (answer_from cut (act ∷ log) more)

pub follows : (done : List (List ℕ)) (output : List ℕ) (log : List Act)
    → ((cut : Bool) (more : List (List ℕ)) → answer_from cut [] (done ++ more) ≡ with_front output
    (answer_from cut log more))
    → Follows (λ cut lines. answer_from cut [] lines) done output
follows done output log goes = record {
  begins = λ cut more. (answer_from cut log more, goes cut more);
  undecided = ap (answer_from true []) (sym (append-nil done)) ∙ goes true [] ∙ ap (with_front output)
      (answer_nil true log);
}

-- no line of more bytes than a line may have is in the grammar
too_long : (n : ℕ) (raw : List ℕ) → line_limit < length raw → verdict.Bad ≡ verdict_of n raw
unfolding verdict_of line_of
too_long n raw long =
    let test : leb (length raw) 8400 ≡ false = lt-leb (length raw) 8400 long in
    rw test refl

pub names_next : (list : ActList) (done : List (List ℕ)) (output : List ℕ) (n m : ℕ) → (s : ActsStand list done output)
    → n ≡ length s.log → m ≡ n + 1
    → NamesNext (λ cut lines. answer_from cut [] lines) done output (last.Bad m)
names_next list done output n m s count next = record {
  missing = ap (answer_from false []) (sym (append-nil done)) ∙ s.goes_on false [] ∙ ap (with_front output)
      (answer_nil false s.log)
      ∙ ap (λ k. with_front output (ending (last.Bad k))) (ap (λ k. k + 1) (sym count) ∙ sym next);
  long = λ raw wide. settles done output s.log raw n verdict.Bad (last.Bad m) s.goes_on count (too_long n raw wide)
      (λ cut more. ap (λ k. ending (last.Bad k)) (sym next)) refl;
}

-- a line that ends the list tells nothing before the last line
pub ended : (stands : List (List ℕ) → List ℕ → Type 0) (text : List ℕ) (done : List (List ℕ))
    (raw output gathered : List ℕ) (end : LastLine) → text ≡ gathered
    → Settles (λ cut lines. answer_from cut [] lines) (done ++ raw ∷ []) (with_front output (ending end))
    → Played (λ cut lines. answer_from cut [] lines) stands (λ g. text ≡ g) done raw output gathered (Some end)
ended stands text done raw output gathered end held s = (
  [],
  held ∙ sym (append-nil gathered),
  subst (λ t. Settles (λ cut lines. answer_from cut [] lines) (done ++ raw ∷ []) (with_front t (ending end)))
      (sym (append-nil output)) s,
)

-- an act tells its lines
pub played_act : (before after : ActList) (done : List (List ℕ)) (raw output gathered : List ℕ) (n : ℕ) (act : Act)
    → (s : ActsStand before done output) → n ≡ length s.log
    → verdict.Play act ≡ verdict_of n raw → StandsFor after.relay (act ∷ s.log)
    → acts_text after ≡ acts_text before ++ act_text (length s.log + 1) (told act s.log)
    → acts_text before ≡ gathered
    → Played (λ cut lines. answer_from cut [] lines) (ActsStand after)
    (λ g. acts_text after ≡ g) done raw output gathered None
played_act before after done raw output gathered n act s count is stands printed held =
    let more : List ℕ = act_text (length s.log + 1) (told act s.log) in
    let goes = goes_further done output s.log raw n act s.goes_on count is in (
      more,
      record { log = act ∷ s.log; stands = stands; goes_on = goes },
      printed ∙ ap (λ t. t ++ more) held,
      follows (done ++ raw ∷ []) (output ++ more) (act ∷ s.log) goes,
    )

-- before any line
pub acts_begin : Follows (λ cut lines. answer_from cut [] lines) [] []
acts_begin = follows [] [] [] (λ cut more. refl)
