-- How counts and pending edits move at one act.
use Rattle.std.proofs.Common.{◌≡◌, ℕ, ◌+◌, ◌<◌, ◌≤◌, List, [], ◌∷◌, length, true, refl, arith}
use Rattle.std.proofs.lemmas.Bool.{ne_eqb, lt-leb, le-leb}
use Rattle.relay_model.specs.declared.act.Act.{Act}
use Rattle.relay_model.specs.declared.act.Act.TheVariants.{Commit, Idle}
use Rattle.relay_model.specs.Objects.{is_field, is_field_kind}
use Rattle.relay_model.specs.Batch.{commits, commit_count, no_batch, edits_by, edits_past}
use Rattle.relay_model.proofs.ActsOrIdle.{IsHistory, live}
use Rattle.relay_model.proofs.ObjectLaws.{kind_within}

-- a field that isn't made yet didn't commit
pub commits_beyond : (log : List Act) (f : ℕ) → IsHistory log → length log < f → commits log f ≡ 0
commits_beyond [] f h l = refl
commits_beyond (Commit g ∷ older) f h l =
    let there : is_field older g ≡ true = live (Commit g) older h.0 (λ (d : Commit g ≡ Idle). cc) in
    let w : g ≤ length older = kind_within is_field_kind older g there in
    rw (ne_eqb g f (λ e. omega arith)) (commits_beyond older f h.1 (omega arith))
commits_beyond (_ ∷ older) f h l = commits_beyond older f h.1 (omega arith)

pub count_new : (log : List Act) (f : ℕ) → IsHistory log → length log < f → commit_count log f ≡ 0
count_new log f h l = rw (commits_beyond log f h l) refl

-- the pending edits after an act, counted from an earlier one
pub edits_step : (act : Act) (log : List Act) (b m : ℕ) → b ≤ length log →
    edits_past b (act ∷ log) m ≡ edits_by act m (edits_past b log m)
edits_step act log b m h = rw (lt-leb (length log + 1) b (omega arith)) refl

-- no pending edit is older than the act itself
pub edits_new : (act : Act) (log : List Act) (m : ℕ) → edits_past (length log + 1) (act ∷ log) m ≡ no_batch
edits_new act log m = rw (le-leb (length log + 1) (length log + 1) (omega arith)) refl
