-- What a field has pending: what its next commit applies.
use Rattle.std.specs.Prelude.{ℕ, List, [], ◌∷◌, Bool, false, ◌&&◌, ◌==◌, if◌then◌else◌, Some}
use Rattle.relay_model.specs.declared.act.Act.{Act}
use Rattle.relay_model.specs.declared.act.Act.TheVariants.{Enable, Surround, Cause, Content, Cursor, Commit}
use Rattle.relay_model.specs.Focus.{entered, entered_since}
use Rattle.relay_model.specs.Current.{State, initial}

-- what a request of a field makes of the pending state of f, where rest is what the acts before it
-- say
abbrev pub pending_by : Act → ℕ → State → State
pending_by (Enable g) f rest = (if g == f then initial else rest)
pending_by (Surround g text cursor anchor) f rest =
    (if g == f then record
    rest { surrounding = Some (record { text = text; cursor = cursor; anchor = anchor }) }
    else rest)
pending_by (Cause g cause) f rest = (if g == f then record rest { cause = cause } else rest)
pending_by (Content g hint purpose) f rest =
    (if g == f then record rest { content = record { hint = hint; purpose = purpose } } else rest)
pending_by (Cursor g rect) f rest = (if g == f then record rest { rect = Some rect } else rest)
pending_by (Commit g) f rest = (if g == f then record rest { cause = 0 } else rest)
pending_by _ f rest = rest

-- f is entered after the act as it was before it, by the same focus
abbrev pub stays_entered : Act → List Act → ℕ → Bool
stays_entered act older f =
    entered (act ∷ older) f && (entered_since (act ∷ older) f == entered_since older f)

-- what f set since it was entered, since its last enable, and of the cause since its last commit
abbrev pub pending : List Act → ℕ → State
pending [] f = initial
pending (act ∷ older) f =
    (if stays_entered act older f then pending_by act f (pending older f) else initial)

-- a commit of f
abbrev pub is_commit_of : Act → ℕ → Bool
is_commit_of (Commit g) f = g == f
is_commit_of _ f = false
