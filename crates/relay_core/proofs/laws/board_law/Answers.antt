use Rattle.std.proofs.Common.{◌≡◌, ℕ, ◌+◌, List, [], length, Bool, true, false, ap, refl, sym, ◌∙◌}
use Rattle.std.specs.Prelude.{◌&&◌, not, if◌then◌else◌}
use Rattle.relay_model.specs.declared.act.Act.{Act}
use Rattle.relay_model.specs.declared.act.Act.TheVariants as acts
use Rattle.relay_model.specs.Objects.{is_board, is_peer}
use Rattle.relay_model.specs.Boards.{sends, board_route, board_refused, grab_for}
use Rattle.relay_model.specs.Idle.{history}
use Rattle.relay_model.specs.Keys.{Keymap, Mods}
use Rattle.relay_model.specs.Told.{key_told, board_mods_told, told_by}
use Rattle.relay_model.proofs.ActsOrIdle.{IsHistory, history_is, length_history}
use Rattle.relay_core.proofs.SessionActsStand.{says_aside, vboard_aside, vkeymap_aside, vkey_aside, vmods_aside}
use Rattle.relay_core.proofs.BoardCalls.{refused_route}
use Rattle.relay_core.proofs.ActsTell.{says_idle}
use Rattle.relay_core.proofs.laws.board_law.Goals as goal

made_by : (log : List Act) (p : ℕ) (c : Bool) → IsHistory log →
    told_by (if c then acts.VBoard p else acts.Idle) log ≡ []
made_by log p true i = sym (says_aside (acts.VBoard p) log i (vboard_aside p))
made_by log p false i = sym (says_idle log i)

keymap_by : (log : List Act) (v : ℕ) (keymap : Keymap) (c : Bool) → IsHistory log →
    told_by (if c then acts.VKeymap v keymap else acts.Idle) log ≡ []
keymap_by log v keymap true i = sym (says_aside (acts.VKeymap v keymap) log i (vkeymap_aside v keymap))
keymap_by log v keymap false i = sym (says_idle log i)

key_by : (log : List Act) (v time key state : ℕ) (a b : Bool) → IsHistory log → board_refused log v key state ≡ b →
    told_by (if a && not b then acts.VKey v time key state else acts.Idle) log
    ≡ (if a then key_told (length log + 1) time key state (board_route log v key state) else [])
key_by log v time key state true false i e =
    sym (says_aside (acts.VKey v time key state) log i (vkey_aside v time key state))
key_by log v time key state true true i e =
    sym (says_idle log i) ∙ ap (key_told (length log + 1) time key state) (sym (refused_route log v key state e))
key_by log v time key state false b i e = sym (says_idle log i)

mods_by : (log : List Act) (v : ℕ) (mods : Mods) (a : Bool) → IsHistory log →
    told_by (if a then acts.VMods v mods else acts.Idle) log
    ≡ (if a then board_mods_told (length log + 1) mods (grab_for log v) else [])
mods_by log v mods true i = sym (says_aside (acts.VMods v mods) log i (vmods_aside v mods))
mods_by log v mods false i = sym (says_idle log i)

pub returns-clause-made : goal.returns-clause-made
returns-clause-made c log p = made_by (history log) p (is_peer (history log) p) (history_is log)

pub returns-clause-keymap : goal.returns-clause-keymap
returns-clause-keymap c log v keymap = keymap_by (history log) v keymap (is_board (history log) v) (history_is log)

pub returns-clause-key : goal.returns-clause-key
returns-clause-key c log v time key state =
    key_by (history log) v time key state (sends (history log) v) (board_refused (history log) v key state)
    (history_is log) refl
    ∙ ap (λ n. if sends (history log) v then key_told (n + 1) time key state (board_route (history log) v key state)
    else []) (length_history log)

pub returns-clause-mods : goal.returns-clause-mods
returns-clause-mods c log v mods =
    mods_by (history log) v mods (sends (history log) v) (history_is log)
    ∙ ap (λ n. if sends (history log) v then board_mods_told (n + 1) mods (grab_for (history log) v) else [])
    (length_history log)
