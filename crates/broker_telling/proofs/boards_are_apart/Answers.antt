use Rattle.broker_model.specs.Resolve.{resolve}
use Rattle.broker_telling.proofs.BoardsTold.{boards_tell}
use Rattle.broker_telling.proofs.boards_are_apart.Goals as goal

pub returns : goal.returns
returns c = λ journal. record {
  tell = boards_tell
      (record {
        made = c.board_law.ensures.made;
        keymap = c.board_law.ensures.keymap;
        key = c.board_law.ensures.key;
        mods = c.board_law.ensures.mods;
      })
      c.board_law-2.ensures journal;
  relay = c.boards_relay_nothing.ensures (resolve journal);
}
