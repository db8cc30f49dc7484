use Rattle.std.proofs.Common.{◌≡◌, [], ◌∷◌, ◌++◌, subst, rules}
use Rattle.std.specs.Prelude.{ℤ, codes, OnOk}
use Rattle.std.specs.Fmt.{signed_decimal}
use Rattle.std.specs.String.{string_bytes}
use Rattle.std.proofs.lemmas.Int.{to_z-of_z}
use mir.Syntax.{w32}
use mir.Val.{to_z, of_z}
use Rattle.lines_transcript.specs.Told.{spaced}
use Rattle.lines_transcript.proofs.told_line.add_said.Goals as goal

pub returns-in-Delete-clause-added : goal.returns-in-Delete-clause-added
returns-in-Delete-clause-added c = rw c.in-Delete.is c.add_numbers-in-Delete.ensures.added

pub returns-in-ChangeCause-clause-added : goal.returns-in-ChangeCause-clause-added
returns-in-ChangeCause-clause-added c = rw c.in-ChangeCause.is c.add_numbers-in-ChangeCause.ensures.added

pub returns-in-ContentType-clause-added : goal.returns-in-ContentType-clause-added
returns-in-ContentType-clause-added c = rw c.in-ContentType.is c.add_numbers-in-ContentType.ensures.added

pub returns-in-Repeat-clause-added : goal.returns-in-Repeat-clause-added
returns-in-Repeat-clause-added c =
    let rate = to_z-of_z w32 c.in-Repeat.repeat.rate (search rules) in
    let delay = to_z-of_z w32 c.in-Repeat.repeat.delay (search rules) in
    let Added : ℤ → ℤ → Type 0 = λ r d. OnOk c.add_signed-in-Repeat.result
    (string_bytes c.add_signed-in-Repeat.new.line ≡ string_bytes c.args.line.now ++
    spaced (codes "repeat_info" ∷ signed_decimal r ∷ signed_decimal d ∷ [])) in
    let first = subst
    (λ r. Added r (to_z w32 (of_z w32 c.in-Repeat.repeat.delay))) rate c.add_signed-in-Repeat.ensures.added in
    rw c.in-Repeat.is (subst (λ d. Added c.in-Repeat.repeat.rate d) delay first)

pub returns-in-Enter-clause-added : goal.returns-in-Enter-clause-added
returns-in-Enter-clause-added c = rw c.in-Enter.is c.add_numbers.ensures.added

pub returns-in-Leave-clause-added : goal.returns-in-Leave-clause-added
returns-in-Leave-clause-added c = rw c.in-Leave.is c.add_numbers-in-Leave.ensures.added

pub returns-in-FieldDone-clause-added : goal.returns-in-FieldDone-clause-added
returns-in-FieldDone-clause-added c = rw c.in-FieldDone.is c.add_numbers-in-FieldDone.ensures.added

pub returns-in-Activate-clause-added : goal.returns-in-Activate-clause-added
returns-in-Activate-clause-added c = rw c.in-Activate.is c.add_numbers-in-Activate.ensures.added

pub returns-in-Deactivate-clause-added : goal.returns-in-Deactivate-clause-added
returns-in-Deactivate-clause-added c = rw c.in-Deactivate.is c.add_numbers-in-Deactivate.ensures.added

pub returns-in-MethodDone-clause-added : goal.returns-in-MethodDone-clause-added
returns-in-MethodDone-clause-added c = rw c.in-MethodDone.is c.add_numbers-in-MethodDone.ensures.added

pub returns-in-Unavailable-clause-added : goal.returns-in-Unavailable-clause-added
returns-in-Unavailable-clause-added c = rw c.in-Unavailable.is c.add_numbers-in-Unavailable.ensures.added

pub returns-in-Keymap-clause-added : goal.returns-in-Keymap-clause-added
returns-in-Keymap-clause-added c = rw c.in-Keymap.is c.add_numbers-in-Keymap.ensures.added

pub returns-in-Key-clause-added : goal.returns-in-Key-clause-added
returns-in-Key-clause-added c = rw c.in-Key.is c.add_numbers-in-Key.ensures.added

pub returns-in-Mods-clause-added : goal.returns-in-Mods-clause-added
returns-in-Mods-clause-added c = rw c.in-Mods.is c.add_numbers-in-Mods.ensures.added

pub returns-in-CallbackDone-clause-added : goal.returns-in-CallbackDone-clause-added
returns-in-CallbackDone-clause-added c = rw c.in-CallbackDone.is c.add_numbers-in-CallbackDone.ensures.added

pub returns-in-DeleteId-clause-added : goal.returns-in-DeleteId-clause-added
returns-in-DeleteId-clause-added c = rw c.in-DeleteId.is c.add_numbers-in-DeleteId.ensures.added

pub returns-in-Capabilities-clause-added : goal.returns-in-Capabilities-clause-added
returns-in-Capabilities-clause-added c = rw c.in-Capabilities.is c.add_numbers-in-Capabilities.ensures.added

pub returns-in-Pass-clause-added : goal.returns-in-Pass-clause-added
returns-in-Pass-clause-added c = rw c.in-Pass.is c.add_numbers-in-Pass.ensures.added

pub returns-in-Surrounding-clause-added : goal.returns-in-Surrounding-clause-added
returns-in-Surrounding-clause-added c = rw c.in-Surrounding.is c.add_around.ensures.added

pub returns-in-Global-clause-added : goal.returns-in-Global-clause-added
returns-in-Global-clause-added c = rw c.in-Global.is c.add_global.ensures.added

pub returns-in-Error-clause-added : goal.returns-in-Error-clause-added
returns-in-Error-clause-added c = rw c.in-Error.is c.add_error.ensures.added

pub returns-in-CommitString-clause-added : goal.returns-in-CommitString-clause-added
returns-in-CommitString-clause-added c = rw c.in-CommitString.is c.add_text-in-CommitString.ensures.added
