-- What is kept of all that was made where each entry lets objects go.
use Rattle.std.specs.Prelude.{ℕ, ◌+◌, List, [], ◌∷◌, ◌++◌, length, filter, Bool, false, not, ◌&&◌, ◌==◌}
use Rattle.relay_model.specs.declared.act.Act.{Act}
use Rattle.relay_model.specs.declared.act.Act.TheVariants as acts
use Rattle.broker_model.specs.declared.journal.Entry.{Entry}
use Rattle.broker_model.specs.Ids.{Made, log_of}
use Rattle.broker_model.specs.Resolve.{past_of}
use Rattle.broker_model.specs.Out.{act_at}
use Rattle.broker_model.specs.Enough.{IsEnough, made_at}

-- it is the object with the label, and no display: a display goes with its peer alone
abbrev pub is_object : ℕ → Made → Bool
is_object label m = label == m.label && not (m.peer == m.label)

-- the act with the number n lets it go: it drops it, ends its peer, or is the sync that made it
abbrev pub lets_go : Act → (n : ℕ) → Made → Bool
lets_go (acts.Drop x) n m = is_object x m
lets_go (acts.Gone p cause) n m = m.peer == p
lets_go (acts.Sync p) n m = is_object n m
lets_go _ n m = false

-- what the act with the number n leaves of these
abbrev pub kept_by : Act → (n : ℕ) → List Made → List Made
kept_by act n made = filter (λ (m : Made). not (lets_go act n m)) made

-- what the entries of a journal made and none of them let go
abbrev pub kept_of : List Entry → List Made
kept_of [] = []
kept_of (e ∷ older) =
    kept_by (act_at e older) (length older + 1) (made_at e older ++ kept_of older)

-- that and what an entry makes is enough to tell it
abbrev pub KeptIsEnough : Type 0
KeptIsEnough =
    (e : Entry) (older : List Entry) →
    IsEnough (log_of (past_of older)) (past_of (e ∷ older)).made (made_at e older ++ kept_of older)
