-- The hold of the seat.
use Rattle.std.specs.Prelude.{ℕ, List, [], ◌∷◌, Bool, true, false, ◌&&◌, ◌==◌, nat_le, if◌then◌else◌, Option, Some, None}
use Rattle.relay_model.specs.declared.act.Act.{Act}
use Rattle.relay_model.specs.declared.act.Act.TheVariants.{Enable, Disable, Commit}
use Rattle.relay_model.specs.declared.act.Word.{Word}
use Rattle.relay_model.specs.declared.act.Word.TheVariants.{Enabled, Disabled}
use Rattle.relay_model.specs.Objects.{next, is_at}
use Rattle.relay_model.specs.Focus.{entered, entered_since}

-- what an act makes of the word of f, where rest is what the acts before it say
abbrev pub word_by : Act → ℕ → Option Word → Option Word
word_by (Enable g) f rest = (if g == f then Some Enabled else rest)
word_by (Disable g) f rest = (if g == f then Some Disabled else rest)
word_by (Commit g) f rest = (if g == f then None else rest)
word_by _ f rest = rest

-- the last enable or disable of f past the act `from`, and past the last commit of f
abbrev pub word_past : ℕ → List Act → ℕ → Option Word
word_past from [] f = None
word_past from (act ∷ older) f =
    (if nat_le (next older) from then None else word_by act f (word_past from older f))

-- the word of a commit of f: the last enable or disable since f's previous commit and since it was
-- entered (zwp_text_input_v3.commit)
abbrev pub word : List Act → ℕ → Option Word
word log f = (if entered log f then word_past (entered_since log f) log f else None)

-- the word is enable
abbrev pub is_enabled : Option Word → Bool
is_enabled (Some Enabled) = true
is_enabled _ = false

-- the word is disable
abbrev pub is_disabled : Option Word → Bool
is_disabled (Some Disabled) = true
is_disabled _ = false

-- the act begins a hold: a commit with the word enable of an entered field, whoever held before
abbrev pub begins_hold : Act → List Act → Bool
begins_hold (Commit f) older = entered older f && is_enabled (word older f)
begins_hold _ older = false

-- a commit of the holder with the word disable
abbrev pub ends : Act → List Act → Option ℕ → Bool
ends (Commit f) older held = is_at held f && is_disabled (word older f)
ends _ older held = false

-- the field that the act commits
abbrev pub committed : Act → Option ℕ
committed (Commit f) = Some f
committed _ = None

-- the holder that no commit moves: it keeps the seat while it is entered, by the same focus
abbrev pub kept : Act → List Act → Option ℕ → Option ℕ
kept act older None = None
kept act older (Some h) =
    (if entered (act ∷ older) h && (entered_since (act ∷ older) h == entered_since older h)
    then Some h else None)

-- the holder after an act, where `held` held before it
abbrev pub holder_after : Act → List Act → Option ℕ → Option ℕ
holder_after act older held =
    (if begins_hold act older then committed act
    else (if ends act older held then None else kept act older held))

-- the field that holds the seat: the last that committed an enable, while no commit of its own and
-- no focus ended its hold
abbrev pub holder : List Act → Option ℕ
holder [] = None
holder (act ∷ older) = holder_after act older (holder older)

-- the last act that began a hold
abbrev pub hold_begun : List Act → ℕ
hold_begun [] = 0
hold_begun (act ∷ older) = (if begins_hold act older then next older else hold_begun older)
