-- Two words, by the name of what they say.
use Rattle.std.proofs.Common.{◌≡◌, ℕ, List, Option, Some, None, refl}
use Rattle.std.specs.Prelude.{Bool, true, false, if◌then◌else◌, codes}
use Rattle.std.specs.Str.{bytes_eq}
use Rattle.std.proofs.lemmas.Slice.Eq.{bytes_eq-Decides}
use Rattle.session_text.specs.Words.{◌>>=◌, number_of}
use Rattle.trial_script.specs.declared.action.Action.TheVariants as actions
use Rattle.trial_script.specs.declared.line.Line.{Line}
use Rattle.trial_script.specs.declared.line.Line.TheVariants as lines
use Rattle.trial_script.specs.Words.{field_of}
use Rattle.trial_script.specs.Reading.{two_words, header_of}

same : (b : Bool) (o : Option Line) → (if b then o else o) ≡ o
same true o = refl
same false o = refl

-- a line about a field needs its number
pub field_refused : (key a : List ℕ) → bytes_eq key (codes "trial") ≡ false → bytes_eq key (codes "press") ≡ false →
    bytes_eq key (codes "erase") ≡ false → field_of a ≡ None → two_words key a ≡ None
unfolding two_words
field_refused key a header press erase none = rw (header, press, erase, none) (simp same)

-- what stands behind `press` is a number
pub pressed : (key a : List ℕ) → bytes_eq key (codes "press") ≡ true →
    two_words key a ≡ (number_of a >>= (λ n. Some (lines.Act (actions.Press n))))
unfolding two_words
pressed key a is = rw ((bytes_eq-Decides key (codes "press")).0 is) refl

-- what stands behind `erase` too
pub erasing : (key a : List ℕ) → bytes_eq key (codes "erase") ≡ true →
    two_words key a ≡ (number_of a >>= (λ n. Some (lines.Erase n)))
unfolding two_words
erasing key a is = rw ((bytes_eq-Decides key (codes "erase")).0 is) refl

-- what stands behind `trial`
pub header : (key a : List ℕ) → bytes_eq key (codes "trial") ≡ true → two_words key a ≡ header_of a
unfolding two_words
header key a is = rw is refl

pub ruleset by_name = (field_refused, header)
