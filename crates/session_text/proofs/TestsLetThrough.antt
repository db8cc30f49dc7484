-- What a test or a word let through.
use Rattle.std.proofs.Common.{◌≡◌, ℕ, Bool, true, false, cond, List, Option, Some, None, refl, sym, ap, ◌∙◌}
use Rattle.std.specs.Str.{bytes_eq}
use Rattle.std.proofs.lemmas.Option.{cond_some}
use Rattle.std.proofs.lemmas.Slice.Eq.{bytes_eq-Decides}
use Rattle.session_text.specs.Words.{kept}

-- where the test of a name was taken, and where it wasn't
pub arm : {A : Type 0} (k name : List ℕ) (x rest : Option A) (y : A) {P : Type 0} →
    cond (bytes_eq k name) x rest ≡ Some y → (k ≡ name → x ≡ Some y → P) → (rest ≡ Some y → P) → P
arm k name x rest y {P} e taken passed =
    elim (bytes_eq k name) as
    (λ b. bytes_eq k name ≡ b → cond b x rest ≡ Some y → P)
    [ true ↦ λ t f. taken ((bytes_eq-Decides k name).0 t) f | false ↦ λ t f. passed f ] refl e

-- what a test let through
pub let_through : {A : Type 0} (b : Bool) (o : Option A) (x : A) → cond b o None ≡ Some x → o ≡ Some x
let_through true o x e = e
let_through false o x e = absurd (cc e)

-- a value that was kept was there, and passed the test
pub kept_some : {A : Type 0} (test : A → Bool) (o : Option A) (x : A) → kept test o ≡ Some x →
    (o ≡ Some x) × (test x ≡ true)
kept_some test None x e = cc
kept_some test (Some y) x e = let (passes, same) =
    cond_some (test y) y x e in (ap Some same, ap test (sym same) ∙ passes)
