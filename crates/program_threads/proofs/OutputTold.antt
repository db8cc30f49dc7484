-- What is told of an output, where words ask for a number.
use Rattle.std.proofs.Common.{◌≡◌, ℕ, ◌<◌, List, length, take, Option, Some, sym, ap, ◌∙◌, subst, arith}
use Rattle.std.specs.Prelude.{IfSome}
use Rattle.std.specs.Io.KnownBytes.{Appends}
use Rattle.trial_threads.specs.declared.trial.ThreadTrial.{ThreadTrial}
use Rattle.program_threads.specs.Output.{output_of, GrowsByPart}
use Rattle.program_threads.specs.Played.{IsPlayed}

-- the text is the output of a trial of the number
abbrev pub IsOutputOf : ℕ → List ℕ → Type 0
IsOutputOf n text = (t : ThreadTrial) × IsPlayed n t × (text ≡ output_of t)

-- it went out whole
pub asked_whole : (held held' : Option (List ℕ)) (asked : Option ℕ) (n : ℕ) (text bytes : List ℕ) → asked ≡ Some n
    → IsOutputOf n text → bytes ≡ text → Appends held held' bytes
    → IfSome asked (λ n. (t : ThreadTrial) × IsPlayed n t × Appends held held' (output_of t))
asked_whole held held' asked n text bytes is told same appends =
    subst (λ a. IfSome a (λ n. (t : ThreadTrial) × IsPlayed n t × Appends held held' (output_of t))) (sym is)
    (told.0, told.1, subst (Appends held held') (same ∙ told.2) appends)

-- a front of it did, and not the whole
pub asked_front : (held held' : Option (List ℕ)) (asked : Option ℕ) (n : ℕ) (text bytes : List ℕ) → asked ≡ Some n
    → IsOutputOf n text → bytes ≡ text → ((m : ℕ) × (m < length bytes) × Appends held held' (take m bytes))
    → IfSome asked (λ n. (t : ThreadTrial) × IsPlayed n t × GrowsByPart held held' (output_of t))
asked_front held held' asked n text bytes is told same front =
    let whole : bytes ≡ output_of told.0 = same ∙ told.2 in
    let lt = front.1 in
    let len = ap length whole in
    let within : front.0 < length (output_of told.0) = omega (arith, lt, len) in
    subst (λ a. IfSome a (λ n. (t : ThreadTrial) × IsPlayed n t × GrowsByPart held held' (output_of t))) (sym is)
    (told.0, told.1, (front.0, within, subst (λ b. Appends held held' (take front.0 b)) whole front.2))
