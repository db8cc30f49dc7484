-- A worked row: a small session that is legal.
use Rattle.std.specs.Prelude.{List, [], ◌∷◌}
use Rattle.relay_model.specs.declared.role.Role.TheVariants.{App}
use Rattle.broker_steps.specs.declared.limits.Limits.{Limits}
use Rattle.broker_steps.specs.declared.step.PeerStep.TheVariants as peers
use Rattle.broker_steps.specs.declared.step.ShellStep.TheVariants as shells
use Rattle.broker_steps.specs.declared.step.Step.{Step}
use Rattle.broker_steps.specs.declared.step.Step.TheVariants as steps
use Rattle.law_record.specs.Legal.{IsLegalSession}

-- what it allows
abbrev pub few_limits : Limits
few_limits = record { entries = 8; store = 200; weight = 1000 }

-- an application joins, two tokens come, a key passes, it asks for the registry, takes a part of
-- what it is told, and its link ends
abbrev pub few_steps : List Step
few_steps =
    steps.Peer 1 peers.Gone ∷ steps.Take 1 100
    ∷ steps.Peer 1 (peers.Message 1 1 (2 ∷ 0 ∷ 0 ∷ 0 ∷ []))
    ∷ steps.Shell (shells.Key 5 30 1) ∷ steps.Peer 1 (peers.Tokens (7 ∷ 8 ∷ []))
    ∷ steps.Join App ∷ []

-- behind stamps of which the newest is given
abbrev pub FewAreLegal : Type 0
FewAreLegal = IsLegalSession few_limits few_steps (record { moment = 9; author = 4 } ∷ [])
