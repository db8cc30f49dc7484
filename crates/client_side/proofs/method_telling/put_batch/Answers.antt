use Rattle.client_side.proofs.SpelledInTurn.{batch_spelled}
use Rattle.client_side.specs.MethodSends.{deletion_sent, string_sent, preedit_sent}
use Rattle.client_side.proofs.method_telling.put_batch.Goals as goal

pub returns-clause-bytes : goal.returns-clause-bytes
returns-clause-bytes c =
    let b = c.args.batch.now in
    batch_spelled _ _ _ _ _ (deletion_sent b.before b.after) (string_sent b.string.now)
    (preedit_sent b.preedit.now b.begin b.end) _
    c.put_deletion.ensures.bytes c.put_string.ensures.bytes c.put_preedit.ensures.bytes c.put.ensures.bytes
