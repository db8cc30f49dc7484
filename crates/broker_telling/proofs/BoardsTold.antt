-- What boards tell in a journal.
use Rattle.std.proofs.Common.{◌≡◌, ℕ, ◌+◌, List, [], ◌∷◌, length, Bool, true, false, if◌then◌else◌, ap, refl, ◌∙◌}
use Rattle.relay_model.specs.declared.act.Act.{Act}
use Rattle.relay_model.specs.declared.act.Act.TheVariants as acts
use Rattle.relay_model.specs.declared.said.Told.{Told}
use Rattle.relay_model.specs.Boards.{sends, board_route, grab_for}
use Rattle.relay_model.specs.Idle.{history}
use Rattle.relay_model.specs.Keys.{Keymap, Mods}
use Rattle.relay_model.specs.Told.{told, key_told, board_mods_told}
use Rattle.broker_model.specs.declared.journal.Entry.{Entry}
use Rattle.broker_model.specs.Ids.{log_of}
use Rattle.broker_model.specs.Law.{MaySay, BoardsMaySay}
use Rattle.broker_model.specs.Out.{act_at}
use Rattle.broker_model.specs.Resolve.{past_of, resolve}
use Rattle.broker_model.proofs.LivePeersJoined.{length_resolve}
use Rattle.broker_telling.specs.BoardsApart.{is_of_board, board_told, TellsBoard, BoardsTell}

-- what acts of boards tell after any acts
pub record ActsTell : Type 0 where
  pub made : (log : List Act) (p : ℕ) → told (acts.VBoard p) log ≡ []
  pub keymap : (log : List Act) (v : ℕ) (keymap : Keymap) → told (acts.VKeymap v keymap) log ≡ []
  pub key : (log : List Act) (v time key state : ℕ) → told (acts.VKey v time key state) log
      ≡ (if sends (history log) v then key_told (length log + 1) time key state (board_route (history log) v key state)
      else [])
  pub mods : (log : List Act) (v : ℕ) (mods : Mods) → told (acts.VMods v mods) log
      ≡ (if sends (history log) v then board_mods_told (length log + 1) mods (grab_for (history log) v) else [])

chosen : (b : Bool) (ts : List Told) → b ≡ true → (if b then ts else []) ≡ ts
chosen true ts e = refl
chosen false ts e = cc

-- what an act of a board tells that it may say
act_tells : (law : ActsTell) (act : Act) (log : List Act) → MaySay (history log) act → is_of_board act ≡ true →
    told act log ≡ board_told act (length log + 1) (history log)
act_tells law (acts.VBoard p) log may is = law.made log p
act_tells law (acts.VKeymap v keymap) log may is = law.keymap log v keymap
act_tells law (acts.VKey v time key state) log may is =
    law.key log v time key state
    ∙ chosen (sends (history log) v)
    (key_told (length log + 1) time key state (board_route (history log) v key state)) may.0
act_tells law (acts.VMods v mods) log may is =
    law.mods log v mods
    ∙ chosen (sends (history log) v) (board_mods_told (length log + 1) mods (grab_for (history log) v)) may
act_tells law _ log may is = cc

entry_tells : (law : ActsTell) → BoardsMaySay → (e : Entry) (older : List Entry) → TellsBoard e older
entry_tells law may e older is =
    act_tells law (act_at e older) (resolve older) (may e older) is
    ∙ ap (λ n. board_told (act_at e older) (n + 1) (log_of (past_of older))) (length_resolve older)

pub boards_tell : (law : ActsTell) → BoardsMaySay → (journal : List Entry) → BoardsTell journal
boards_tell law may [] = tt
boards_tell law may (e ∷ older) = (entry_tells law may e older, boards_tell law may older)
