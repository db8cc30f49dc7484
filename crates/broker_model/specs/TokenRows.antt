-- Worked rows of tokens and stamps: what waits, what it weighs, and when each entry came.
use Rattle.std.specs.Prelude.{◌≡◌, ℕ, List, [], ◌∷◌, replicate, true, false, Some, None, codes}
use Rattle.wl_proto.specs.declared.table.Kind.TheVariants.{Uint, Descriptor}
use Rattle.wl_proto.specs.Grammar.{token}
use Rattle.wl_proto.specs.Reading.{values_at}
use Rattle.relay_model.specs.declared.act.Act.TheVariants as acts
use Rattle.relay_model.specs.declared.role.Role.TheVariants as roles
use Rattle.broker_steps.specs.declared.limits.Limits.{Limits}
use Rattle.broker_steps.specs.declared.step.ShellStep.TheVariants as shell
use Rattle.broker_model.specs.declared.journal.Entry.{Entry}
use Rattle.broker_model.specs.declared.journal.Entry.TheVariants.{Join, Tokens, Shell}
use Rattle.broker_model.specs.Resolve.{past_of, resolve}
use Rattle.broker_model.specs.Waiting.{has_descriptor, without_taken, with_tokens}
use Rattle.broker_model.specs.Limits.{is_full}
use Rattle.broker_model.specs.Settle.{history}
use Rattle.broker_model.specs.Stamps.{stamps}
use Rattle.broker_model.specs.Rows.{sent, after, asked}
pub use Rattle.broker_steps.specs.StampRows.{stamp}

-- an application sends two tokens
abbrev pub with_two : List Entry
with_two = after [] (Join roles.App ∷ Tokens 1 (7 ∷ 8 ∷ []) ∷ [])

-- which tell nothing, and wait
abbrev pub TokensWait : Type 0
TokensWait =
    (resolve with_two ≡ (acts.Idle ∷ acts.Peer ∷ []))
    × ((past_of with_two).waiting 1 ≡ (7 ∷ 8 ∷ []))

-- and weigh 24, so that with the join's 16 a limit of 40 is reached, and not one of 56
abbrev pub of_weight : ℕ → Limits
of_weight weight = record { entries = 8; store = 100; weight = weight }

abbrev pub TokensWeigh : Type 0
TokensWeigh =
    (is_full (of_weight 40) with_two (Shell shell.Unfocus) ≡ true)
    × (is_full (of_weight 56) with_two (Shell shell.Unfocus) ≡ false)

-- one more while 256 wait is dropped
abbrev pub LastTokenIsDropped : Type 0
LastTokenIsDropped =
    with_tokens (replicate 255 7) (8 ∷ 9 ∷ []) ≡ with_tokens (replicate 255 7) (8 ∷ [])

-- a message whose row has a descriptor is read with the first that waits, which waits no more; it
-- is malformed where none waits
abbrev pub FirstIsTaken : Type 0
FirstIsTaken =
    (values_at (7 ∷ 8 ∷ []) (Descriptor ∷ []) [] ≡ Some (token 7 ∷ []))
    × (values_at [] (Descriptor ∷ []) [] ≡ None)
    × (without_taken (has_descriptor (Some (Uint ∷ Descriptor ∷ Uint ∷ []))) (7 ∷ 8 ∷ [])
    ≡ (8 ∷ []))

-- a moment that the shell says is that of its entry, and none falls
abbrev pub MomentsAreSaid : Type 0
MomentsAreSaid =
    stamps (after [] (Join roles.App ∷ Shell (shell.At 9) ∷ Shell shell.Unfocus ∷ []))
    (stamp 3 2 ∷ stamp 6 0 ∷ stamp 5 1 ∷ [])
    ≡ stamp 9 2 ∷ stamp 9 0 ∷ stamp 5 1 ∷ []

-- an end that follows has no author, and the moment of what it follows from
abbrev pub EndsHaveNoAuthor : Type 0
EndsHaveNoAuthor =
    stamps (history 65536 (sent 1 (codes "0900000000000800") ∷ asked)) (stamp 7 3 ∷ stamp 6 3 ∷ stamp 5 1 ∷ [])
    ≡ stamp 7 0 ∷ stamp 7 3 ∷ stamp 6 3 ∷ stamp 5 1 ∷ []
