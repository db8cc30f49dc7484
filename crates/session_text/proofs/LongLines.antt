-- A line of more than eight words is in no form without stamps.
use Rattle.std.proofs.Common.{◌≡◌, ◌≢◌, ℕ, ◌<◌, List, [], ◌∷◌, length, codes, cond, true, false, Option, Some, None, refl, ap, arith}
use Rattle.session_text.specs.declared.line.Form.{Form}
use Rattle.session_text.specs.declared.line.Form.TheVariants.{Acts, Session, Session2, Shell}
use Rattle.std.specs.Str.{bytes_eq}
use Rattle.session_text.specs.declared.line.Line.{Line}
use Rattle.session_text.specs.declared.line.Line.TheVariants as lines
use Rattle.broker_steps.specs.declared.step.ShellStep.{ShellStep}
use Rattle.session_text.specs.Words.{◌>>=◌}
use Rattle.session_text.specs.StampedReading.{link_of}
use Rattle.session_text.specs.Reading.{line_of_words}

-- a moment has one word behind its name, and the other lines of a shell link have eight words at most
no_link : (a b c d e f g h : List ℕ) (ws : List (List ℕ)) → link_of (a ∷ b ∷ c ∷ d ∷ e ∷ f ∷ g ∷ h ∷ ws) ≡ None
unfolding link_of
no_link a b c d e f g h ws = elim (bytes_eq a (codes "at")) as
    (λ b. cond {A = Option ShellStep} b None None ≡ None) [ true ↦ refl | false ↦ refl ]

none_of : (form : Form) → form ≢ Session2 → (a b c d e f g h : List ℕ) (ws : List (List ℕ)) →
    line_of_words form (a ∷ b ∷ c ∷ d ∷ e ∷ f ∷ g ∷ h ∷ ws) ≡ None
none_of Acts other a b c d e f g h ws = refl
none_of Session other a b c d e f g h ws = refl
none_of Session2 other a b c d e f g h ws = absurd (other refl)
none_of Shell other a b c d e f g h ws =
    ap (λ (step : Option ShellStep). step >>= (λ s. Some (lines.Shell s))) (no_link a b c d e f g h ws)

pub many_words : (form : Form) → form ≢ Session2 → (ws : List (List ℕ)) → 8 < length ws → line_of_words form ws ≡ None
many_words form other [] l = absurd (omega arith)
many_words form other (a ∷ []) l = absurd (omega arith)
many_words form other (a ∷ b ∷ []) l = absurd (omega arith)
many_words form other (a ∷ b ∷ c ∷ []) l = absurd (omega arith)
many_words form other (a ∷ b ∷ c ∷ d ∷ []) l = absurd (omega arith)
many_words form other (a ∷ b ∷ c ∷ d ∷ e ∷ []) l = absurd (omega arith)
many_words form other (a ∷ b ∷ c ∷ d ∷ e ∷ f ∷ []) l = absurd (omega arith)
many_words form other (a ∷ b ∷ c ∷ d ∷ e ∷ f ∷ g ∷ []) l = absurd (omega arith)
many_words form other (a ∷ b ∷ c ∷ d ∷ e ∷ f ∷ g ∷ h ∷ ws) l = none_of form other a b c d e f g h ws
