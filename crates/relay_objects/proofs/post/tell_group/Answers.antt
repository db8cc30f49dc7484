use Rattle.relay_objects.proofs.TellsAppend.{reached_append}
use Rattle.relay_objects.proofs.post.tell_group.Goals as goal

pub returns : goal.returns
returns g c =
    reached_append _ _ _ _ _ _ c.tell_deletion.ensures
    (reached_append _ _ _ _ _ _ c.tell_string.ensures
    (reached_append _ _ _ _ _ _ c.tell_preedit.ensures c.tell_done.ensures))
