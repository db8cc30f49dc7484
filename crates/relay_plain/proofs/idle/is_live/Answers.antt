use Rattle.std.proofs.Common.{ap, sym, ◌∙◌}
use Rattle.relay_model.specs.Idle.{is_live}
use Rattle.relay_plain.proofs.idle.is_live.Goals as goal

pub returns-in_ok-live-in-VKey : goal.returns-in_ok-live-in-VKey
returns-in_ok-live-in-VKey c =
    c.in_ok-live-in-VKey.ensures ∙ ap (λ act. is_live act c.args.older.now) (sym c.in-VKey.is)
