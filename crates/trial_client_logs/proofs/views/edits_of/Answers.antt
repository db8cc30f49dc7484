use Rattle.std.proofs.Common.{◌≡◌, ℕ, ◌<◌, true, List, ap, arith, ne_eqb}
use Rattle.std.specs.Prelude.{not, ◌==◌}
use Rattle.std.specs.List.{list_all}
use Rattle.std.proofs.lemmas.List.Sums.{list_all-from_AllPass}
use Rattle.trial_field.specs.Log.{HasNoZero}
use Rattle.trial_client_logs.proofs.views.edits_of.Goals as goal

not_zero : (b : ℕ) → 0 < b → not (b == 0) ≡ true
not_zero b l = ap not (ne_eqb b 0 (λ e. absurd (omega (arith, l, e))))

clean : (text : List ℕ) → HasNoZero text → list_all (λ b. not (b == 0)) text ≡ true
clean text h = list_all-from_AllPass (λ b. not (b == 0)) text (λ k d lt. not_zero _ (h k d lt))

pub of-requires : goal.of-requires
of-requires c = clean c.args.batch.now.string.now c.requires.string_clean

pub of-requires-2 : goal.of-requires-2
of-requires-2 c = clean c.args.batch.now.preedit.now c.requires.preedit_clean
