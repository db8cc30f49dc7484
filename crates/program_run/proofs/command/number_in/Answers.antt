use Rattle.std.proofs.Common.{◌∙◌, sym}
use Rattle.program_run.proofs.NumberWords.{unread_word, read_word}
use Rattle.program_run.proofs.command.number_in.Goals as goal

pub returns-in-Ok : goal.returns-in-Ok
returns-in-Ok c =
    c.written_so.ensures ∙ read_word c.args.word.now c.parse.result c.in-Ok.number c.parse.ensures.value.0 c.in-Ok.is

pub returns-in-Err : goal.returns-in-Err
returns-in-Err c = sym (unread_word c.args.word.now c.parse.result c.in-Err.field-0 c.parse.ensures.value.0 c.in-Err.is)
