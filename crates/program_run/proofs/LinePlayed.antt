-- What a line that came and was played comes to.
use Rattle.std.proofs.Common.{ℕ, ◌^◌, ◌<◌, Bool, List, ◌++◌, length, Option, Some, None, Ok, ap, subst, inl, inr, arith, length-append}
use Rattle.wio_core.specs.LineAnswers.{LinesAhead}
use Rattle.program_run.specs.declared.last_line.LastLine.{LastLine}
use Rattle.program_run.specs.Endings.{Answer, with_front, ending}
use Rattle.program_run.specs.Lines.{bytes_of}
use Rattle.program_run.specs.Scripts.{Played}
use Rattle.program_run.specs.Reading.{IsDivided, IsReadTo, ComesTo}
use Rattle.program_run.proofs.InputSplits.{length_of, few_lines}
use Rattle.program_run.proofs.LinesTold.{open_or_ended, LineCame, told_by_line}

pub line_played : {limit : ℕ} (answer : Bool → List (List ℕ) → Answer) (stands : List (List ℕ) → List ℕ → Type 0)
    (holds : List ℕ
    → Type 0) (gf lf g l : Option (List ℕ))
    (before after : LinesAhead) (done : List (List ℕ)) (raw read output gathered : List ℕ) (end : Option LastLine)
    → LineCame limit gf lf g l before after done raw read → Played answer stands holds done raw output gathered end
    → ComesTo limit answer stands holds gf lf g l before after done read output gathered (Ok end)
line_played {limit} answer stands holds gf lf g l before after done raw read output gathered None came played =
    (raw, came.read_after, came.up_to, played, came.near, came.fewer)
line_played {limit} answer stands holds gf lf g l before after done raw read output gathered (Some end) came played = (
  played.0,
  came.read_after,
  came.up_to.took,
  played.1,
  told_by_line answer gf lf g l before after done raw read (with_front (output ++ played.0) (ending end)) came played.2,
  came.near,
)

-- there are fewer lines than a number can count
pub few_done : {limit : ℕ} (gf lf g l : Option (List ℕ)) (reader : LinesAhead) (done : List (List ℕ)) (read : List ℕ)
    → IsReadTo limit gf lf g l reader done read → length done < 2 ^ 33
few_done {limit} gf lf g l reader done read r =
    elim (open_or_ended gf lf g l reader done read r) [
      | inl e ↦
          let d = subst (λ o. IsDivided limit o reader.held l done read) e r.divided in
          let within = r.within in
          let small = r.small in
          omega (arith, ap length d.0, length-append (bytes_of done) reader.held, length_of done, few_lines done)
      | inr e ↦ let d =
          subst (λ o. IsDivided limit o reader.held l done read) e r.divided in omega (arith, d.4, r.small)
    ]
