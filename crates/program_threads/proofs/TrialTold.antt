-- What is told of a drawn script's trial in threads: none of its lines is outside the grammar.
use Rattle.std.proofs.Common.{◌≡◌, ℕ, ◌+◌, ◌%◌, ◌/◌, false, List, [], ◌∷◌, map, Option, Some, None, Result, Ok, Err, refl, sym, ap, ◌∙◌, subst}
use Rattle.std.specs.List.{range_with_len}
use Rattle.broker_model.specs.declared.journal.Kept.{Kept}
use Rattle.trial_gen.specs.Generated.{word_after}
use Rattle.trial_run.specs.Ending.TheVariants as endings
use Rattle.trial_run.specs.Scripts.{script_of}
use Rattle.trial_gen.specs.Drawn.{drawn, action_count, action_at, first_actions, script_text, drawn_script}
use Rattle.trial_gen.proofs.LinesDrawn.{by_kind}
use Rattle.trial_gen.proofs.ScriptsDrawn.{reads}
use Rattle.trial_threads.specs.declared.trial.ThreadTrial.{ThreadTrial}
use Rattle.trial_threads.specs.declared.trial.ThreadTrialEnd.{ThreadTrialEnd}
use Rattle.trial_threads.specs.declared.trial.ThreadTrialEnd.TheVariants as ends
use Rattle.trial_threads.specs.Users.{is_foreign, bad_line_from}
use Rattle.trial_threads.specs.Whole.{bad_line_of, Tells}
use Rattle.program_threads.specs.Played.{IsPlayed, IsCutOff}

never_foreign : (word : ℕ) → is_foreign (drawn word) ≡ false
unfolding drawn
never_foreign word =
    by_kind (λ a. is_foreign a ≡ false) (word % 4) (1 + (word / 256) % 4) ((word / 65536) % 26) refl refl refl refl

none_from : (n : ℕ) (ks : List ℕ) (number : ℕ) → bad_line_from number (map (action_at n) ks) endings.End ≡ None
unfolding action_at
none_from n [] number = refl
none_from n (k ∷ ks) number = rw (never_foreign (word_after n k)) (none_from n ks (number + 1))

none_drawn : (n made number : ℕ) → bad_line_from number (first_actions n made) endings.End ≡ None
unfolding first_actions
none_drawn n made number = none_from n (range_with_len 0 made) number

pub never_bad : (n : ℕ) → bad_line_of (drawn_script n) ≡ None
unfolding drawn_script
never_bad n = none_drawn n action_count 29

-- what is told of the text is told of what was drawn
pub told : (n : ℕ) (text : List ℕ) (r : Result ThreadTrial ThreadTrialEnd) → text ≡ script_text n → Tells (script_of text) r
    → Tells (drawn_script n) r
told n text r is tells = subst (λ s. Tells s r) (ap script_of is ∙ reads n) tells

-- the trial was played to its end
pub whole_told : (n : ℕ) (text : List ℕ) (r : Result ThreadTrial ThreadTrialEnd) (t : ThreadTrial) → text ≡ script_text n
    → Tells (script_of text) r → r ≡ Ok t → IsPlayed n t
whole_told n text r t is tells ok = (subst (λ x. Tells (drawn_script n) x) ok (told n text r is tells)).1

-- it was cut off
pub cut_told : (n : ℕ) (text : List ℕ) (r : Result ThreadTrial ThreadTrialEnd) (e : ThreadTrialEnd) (kept : Kept) (t : ThreadTrial)
    → text ≡ script_text n → Tells (script_of text) r → r ≡ Err e → e ≡ ends.JournalFull kept t → IsCutOff n kept t
cut_told n text r e kept t is tells err end =
    (subst (λ x. Tells (drawn_script n) x) (err ∙ ap Err end) (told n text r is tells)).1

-- no line was bad
pub not_bad : (n : ℕ) (text : List ℕ) (r : Result ThreadTrial ThreadTrialEnd) (e : ThreadTrialEnd) (number : ℕ)
    → text ≡ script_text n → Tells (script_of text) r → r ≡ Err e → e ≡ ends.BadLine number → ⊥
not_bad n text r e number is tells err end =
    let bad : bad_line_of (drawn_script n) ≡ Some number =
    subst (λ x. Tells (drawn_script n) x) (err ∙ ap Err end) (told n text r is tells) in
    let none : ◌≡◌ {A = Option ℕ} None (Some number) = sym (never_bad n) ∙ bad in cc
