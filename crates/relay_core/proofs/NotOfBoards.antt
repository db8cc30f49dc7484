-- Acts that boards have nothing to do with, and where a key act goes.
use Rattle.std.proofs.Common.{◌≡◌, ℕ, ◌+◌, List, [], ◌++◌, append-nil, false, Some, ap, refl, sym, ◌∙◌}
use Rattle.relay_model.specs.declared.act.Act.{Act}
use Rattle.relay_model.specs.declared.act.Act.TheVariants as acts
use Rattle.relay_model.specs.declared.said.Told.{Told}
use Rattle.relay_model.specs.Idle.{history}
use Rattle.relay_model.proofs.ActsOrIdle.{history_is}
use Rattle.relay_core.specs.BoardKeys.{Boards, live_board, board_after, sent_by, sent_told, is_for_boards}
use Rattle.relay_core.specs.Machine.{State, tells, route_of}
use Rattle.relay_core.specs.Stands.{Stands, route_told}
use Rattle.relay_core.proofs.KeyboardAfterActs.{route_is}

-- such an act changes no board
pub boards_stay : (act : Act) (s : State) (b : Boards) (v : ℕ) → is_for_boards act ≡ false →
    live_board b v ≡ board_after act s b v
boards_stay (acts.VBoard p) s b v e = cc
boards_stay (acts.VKeymap x keymap) s b v e = cc
boards_stay (acts.VKey x time key state) s b v e = cc
boards_stay (acts.VMods x mods) s b v e = cc
boards_stay (acts.Drop x) s b v e = cc
boards_stay (acts.Gone p cause) s b v e = cc
boards_stay act s b v e = refl

-- and tells nothing of them
pub nothing_sent : (act : Act) (n : ℕ) (s : State) (b : Boards) → is_for_boards act ≡ false →
    sent_told act n (sent_by act s b) ≡ []
nothing_sent (acts.VBoard p) n s b e = cc
nothing_sent (acts.VKeymap x keymap) n s b e = cc
nothing_sent (acts.VKey x time key state) n s b e = cc
nothing_sent (acts.VMods x mods) n s b e = cc
nothing_sent (acts.Drop x) n s b e = cc
nothing_sent (acts.Gone p cause) n s b e = cc
nothing_sent act n s b e = refl

-- so it tells what the machine does
pub machine_tells : (act : Act) (s : State) (b : Boards) (all : List Told) → is_for_boards act ≡ false →
    tells act s ++ sent_told act (s.acts + 1) (sent_by act s b) ≡ all → tells act s ≡ all
machine_tells act s b all e h =
    sym (append-nil (tells act s)) ∙ ap (λ more. tells act s ++ more) (sym (nothing_sent act (s.acts + 1) s b e)) ∙ h

-- where the machine lets a key act go is where the definitions do
pub route_is_told : (s : State) (log : List Act) (act : Act) → Stands s (history log) →
    route_of act s ≡ route_told act log
route_is_told s log (acts.Key time key state) h =
    ap (λ r. Some r) (route_is s (history log) key state (history_is log) h)
route_is_told s log acts.Peer h = refl
route_is_told s log (acts.Gone p cause) h = refl
route_is_told s log (acts.Surface p) h = refl
route_is_told s log (acts.Field p) h = refl
route_is_told s log (acts.Method p) h = refl
route_is_told s log (acts.Popup m t) h = refl
route_is_told s log (acts.Grab m) h = refl
route_is_told s log (acts.Drop x) h = refl
route_is_told s log (acts.Focus t) h = refl
route_is_told s log acts.Unfocus h = refl
route_is_told s log (acts.Area t rect) h = refl
route_is_told s log (acts.Screen size) h = refl
route_is_told s log (acts.Enable f) h = refl
route_is_told s log (acts.Disable f) h = refl
route_is_told s log (acts.Surround f text cursor anchor) h = refl
route_is_told s log (acts.Cause f cause) h = refl
route_is_told s log (acts.Content f hint purpose) h = refl
route_is_told s log (acts.Cursor f rect) h = refl
route_is_told s log (acts.Commit f) h = refl
route_is_told s log (acts.MString m text) h = refl
route_is_told s log (acts.MPreedit m text begin end) h = refl
route_is_told s log (acts.MDelete m before after) h = refl
route_is_told s log (acts.MCommit m serial) h = refl
route_is_told s log (acts.Mods mods) h = refl
route_is_told s log (acts.Keymap keymap) h = refl
route_is_told s log (acts.Repeat repeat) h = refl
route_is_told s log (acts.Registry p role) h = refl
route_is_told s log (acts.Sync p) h = refl
route_is_told s log (acts.Seat p) h = refl
route_is_told s log (acts.Thing p) h = refl
route_is_told s log (acts.Bad p fault x) h = refl
route_is_told s log (acts.VBoard p) h = refl
route_is_told s log (acts.VKeymap v keymap) h = refl
route_is_told s log (acts.VKey v time key state) h = refl
route_is_told s log (acts.VMods v mods) h = refl
route_is_told s log (acts.Took p bytes) h = refl
route_is_told s log acts.Idle h = refl
