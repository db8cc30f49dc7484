-- A printer that puts a line behind its text, or behind what the shell was told, or finds no memory for it, may follow.
use Rattle.std.proofs.Common.{◌≡◌, List, ℕ, ◌++◌, Bool, false, ap, refl, sym, subst, ◌∙◌}
use Rattle.std.specs.Prelude.{Result, Ok, Err, is_err, OnOk, OnErr}
use Rattle.broker_core.specs.Watched.{Watched}
use Rattle.lines_transcript.specs.Printed.{Printing, printed, MayPrint}

abbrev pub printing : List ℕ → List ℕ → Bool → Printing
printing text shell is_short = record { text = text; shell = shell; is_short = is_short }

-- behind what the shell was told
pub shell_printed : {T E : Type 0} (event : Watched) (line text shell after : List ℕ) (was short : Bool)
    (r : Result T E) →
    was ≡ false → short ≡ is_err r → printed event (printing text shell false) ≡ printing text (shell ++ line) false →
    OnOk r (after ≡ shell ++ line) → MayPrint (printing text shell was) event (printing text after short)
shell_printed {T} {E} event line text shell after was short r w s is ok =
    subst (λ (b : Bool). MayPrint (printing text shell b) event (printing text after short)) (sym w)
    (subst (λ (b : Bool). MayPrint (printing text shell false) event (printing text after b)) (sym s) (by_answer r ok))
  where
    by_answer : (x : Result T E) → OnOk x (after ≡ shell ++ line) →
        MayPrint (printing text shell false) event (printing text after (is_err x))
    by_answer (Ok x) k = ap (λ (l : List ℕ). printing text l false) k ∙ sym is
    by_answer (Err x) k = refl

-- behind the text
pub text_printed : {T E : Type 0} (event : Watched) (line text after shell : List ℕ) (was short : Bool)
    (r : Result T E) →
    was ≡ false → short ≡ is_err r → printed event (printing text shell false) ≡ printing (text ++ line) shell false →
    OnOk r (after ≡ text ++ line) → OnErr r (after ≡ text) →
    MayPrint (printing text shell was) event (printing after shell short)
text_printed {T} {E} event line text after shell was short r w s is ok err =
    subst (λ (b : Bool). MayPrint (printing text shell b) event (printing after shell short)) (sym w)
    (subst (λ (b : Bool). MayPrint (printing text shell false) event (printing after shell b)) (sym s)
    (by_answer r ok err))
  where
    by_answer : (x : Result T E) → OnOk x (after ≡ text ++ line) → OnErr x (after ≡ text) →
        MayPrint (printing text shell false) event (printing after shell (is_err x))
    by_answer (Ok x) k e = ap (λ (l : List ℕ). printing l shell false) k ∙ sym is
    by_answer (Err x) k e = e
