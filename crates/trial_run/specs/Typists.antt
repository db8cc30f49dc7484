-- What types in a trial, whichever method its script has.
use Rattle.std.specs.Prelude.{ℕ, Bool, true, false, List, [], Option}
use Rattle.wl_proto.specs.declared.event.Event.{Event}
use Rattle.wl_proto.specs.declared.event.Event.TheVariants as events
use Rattle.compose_method.specs.Typing as typing
use Rattle.compose_method.specs.Typists.{Meanings, composed}
use Rattle.dict_method.specs.Spelling as spelling
use Rattle.trial_run.specs.declared.typist.TrialTypist.{TrialTypist}
use Rattle.trial_run.specs.declared.typist.TrialTypist.TheVariants.{Compose, Dict}

abbrev pub gives : ℕ → TrialTypist → Option (List ℕ × List ℕ)
gives key (Compose m) = composed key m
gives key (Dict m) = spelling.gives key m

abbrev pub pressed : ℕ → TrialTypist → TrialTypist
pressed key (Compose m) = Compose (typing.pressed key m)
pressed key (Dict m) = Dict (spelling.pressed key m)

-- it is active or no longer, and nothing of what was pressed before waits
abbrev pub begun : Bool → TrialTypist → TrialTypist
begun active (Compose m) = Compose (record m { active = active; rest = [] })
begun active (Dict m) = Dict (record m { active = active; code = [] })

abbrev pub after_event : Event → TrialTypist → TrialTypist
after_event events.Activate t = begun true t
after_event events.Deactivate t = begun false t
after_event _ t = t

abbrev pub meanings_of : Meanings TrialTypist
meanings_of = record { gives = gives; pressed = pressed; after_event = after_event }
