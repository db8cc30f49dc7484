-- A small session is legal.
use Rattle.std.proofs.Common.{ℕ, ◌^◌, ◌<◌, List, [], ◌∷◌, refl, arith}
use Rattle.std.proofs.lemmas.List.Elements.{All-nil, All-cons}
use Rattle.relay_model.specs.declared.role.Role.TheVariants.{App}
use Rattle.broker_steps.specs.declared.step.PeerStep.TheVariants as peers
use Rattle.broker_steps.specs.declared.step.ShellStep.TheVariants as shells
use Rattle.broker_steps.specs.declared.step.Step.{Step}
use Rattle.broker_steps.specs.declared.step.Step.TheVariants as steps
use Rattle.session_text.specs.Steps.{message_bytes}
use Rattle.wl_wire.specs.Reading.{word_at}
use Rattle.wl_wire.specs.Spelling.{text_bytes}
use Rattle.wl_proto.specs.Reading.{request_reading}
use Rattle.wl_proto.specs.Spelling.{row_bytes}
use Rattle.law_record.specs.Legal.{journal_of, IsLegal}
use Rattle.law_record.specs.Rows.{few_limits, FewAreLegal}
use Rattle.law_record.proofs.GeneratedLines.{bytes_are, bytes_tested}

abbrev joined : List Step
joined = steps.Join App ∷ []

abbrev tokens : List Step
tokens = steps.Peer 1 (peers.Tokens (7 ∷ 8 ∷ [])) ∷ joined

abbrev key : List Step
key = steps.Shell (shells.Key 5 30 1) ∷ tokens

abbrev asked : List Step
asked = steps.Peer 1 (peers.Message 1 1 (2 ∷ 0 ∷ 0 ∷ 0 ∷ [])) ∷ key

abbrev took : List Step
took = steps.Take 1 100 ∷ asked

joins : IsLegal few_limits [] (steps.Join App)
joins = record { line = tt; can = omega arith; fits = refl }

tokens_come : IsLegal few_limits (journal_of few_limits joined) (steps.Peer 1 (peers.Tokens (7 ∷ 8 ∷ [])))
tokens_come = record {
  line = (
    omega arith,
    (
      (omega arith, omega arith),
      All-cons (λ token. token < 2 ^ 32) 7 (8 ∷ []) (omega arith)
          (All-cons (λ token. token < 2 ^ 32) 8 [] (omega arith) (All-nil (λ token. token < 2 ^ 32))),
    ),
  );
  can = (record { live = refl; read = refl }, tt);
  fits = refl;
}

key_passes : IsLegal few_limits (journal_of few_limits tokens) (steps.Shell (shells.Key 5 30 1))
key_passes = record { line = (omega arith, omega arith, omega arith); can = tt; fits = refl }

is_asked : IsLegal few_limits (journal_of few_limits key) (steps.Peer 1 (peers.Message 1 1 (2 ∷ 0 ∷ 0 ∷ 0 ∷ [])))
is_asked =
    let bytes : List ℕ = message_bytes 1 1 (2 ∷ 0 ∷ 0 ∷ 0 ∷ []) in
    record {
      line = (omega arith, (bytes_are bytes (bytes_tested bytes refl), omega arith, omega arith));
      can = (record { live = refl; read = refl }, (omega arith, omega arith, (omega arith, refl)));
      fits = refl;
    }

takes : IsLegal few_limits (journal_of few_limits asked) (steps.Take 1 100)
unfolding request_reading word_at row_bytes text_bytes
takes = record {
  line = (omega arith, (omega arith, omega arith));
  can = record { peer = record { label = 1; role = App }; joined = refl; some = omega arith; enough = omega arith };
  fits = refl;
}

ends : IsLegal few_limits (journal_of few_limits took) (steps.Peer 1 peers.Gone)
unfolding request_reading word_at row_bytes text_bytes
ends = record { line = omega arith; can = (record { live = refl; read = refl }, tt); fits = refl }

pub few_are_legal : FewAreLegal
few_are_legal = record {
  limited = ((omega arith, omega arith), (omega arith, omega arith), (omega arith, omega arith));
  legal = (ends, (takes, (is_asked, (key_passes, (tokens_come, (joins, tt))))));
  stamped = ((omega arith, omega arith), tt);
}
