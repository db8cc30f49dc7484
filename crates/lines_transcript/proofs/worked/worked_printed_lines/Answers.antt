use Rattle.std.proofs.Common.{refl}
use Rattle.std.specs.Fmt.{digits}
use Rattle.hex.specs.Hex.{encode_with}
use Rattle.lines_transcript.proofs.worked.worked_printed_lines.Goals as goal

pub returns-clause-steps : goal.returns-clause-steps
unfolding digits encode_with
returns-clause-steps c =
    record { commit_string = refl; commit = refl; bad_size = refl; join = refl; tokens = refl; at = refl }

pub returns-clause-events : goal.returns-clause-events
unfolding digits encode_with
returns-clause-events c = record {
  enter = refl;
  leave = refl;
  preedit = refl;
  commit_string = refl;
  delete = refl;
  field_done = refl;
  activate = refl;
  deactivate = refl;
  surrounding = refl;
  change_cause = refl;
  content_type = refl;
  method_done = refl;
  unavailable = refl;
  popup = refl;
  keymap = refl;
  key = refl;
  modifiers = refl;
  repeat = refl;
  global = refl;
  callback_done = refl;
  delete_id = refl;
  capabilities = refl;
  error = refl;
  pass = refl;
  vmods = refl;
  placed = refl;
}
