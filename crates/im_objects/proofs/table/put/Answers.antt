use Rattle.im_objects.proofs.TreeIsMap.{inserted, put_back}
use Rattle.im_objects.proofs.table.put.Goals as goal

pub returns-in-Err-clause-err : goal.returns-in-Err-clause-err
returns-in-Err-clause-err c =
    put_back c.args.objects.now c.insert.new.self c.remove.new.self c.args.id (c.args.interface, c.args.label)
    c.requires.free c.in_ok-insert.ensures.updates c.remove.ensures.updates

pub returns-in-Ok-clause-under : goal.returns-in-Ok-clause-under
returns-in-Ok-clause-under c =
    inserted c.args.objects.now c.insert.new.self c.args.id
    (c.args.interface, c.args.label) c.in_ok-insert.ensures.updates

pub returns-in-Ok-clause-labelled : goal.returns-in-Ok-clause-labelled
returns-in-Ok-clause-labelled c =
    inserted c.args.ids.now c.insert-2.new.self c.args.label c.args.id c.in-Ok.ensures.updates
