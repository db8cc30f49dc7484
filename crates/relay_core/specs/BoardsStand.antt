-- What the boards that a relay keeps stand for.
use Rattle.std.specs.Prelude.{◌≡◌, ℕ, List, [], ◌∷◌, true, false, ◌==◌, if◌then◌else◌, Option, Some, None}
use Rattle.relay_model.specs.declared.act.Act.{Act}
use Rattle.relay_model.specs.declared.act.Act.TheVariants as acts
use Rattle.relay_model.specs.Objects.{is_board, peer_of}
use Rattle.relay_model.specs.Keys.{is_press}
use Rattle.relay_model.specs.Boards.{had_keymap, grab_for}
use Rattle.kbd_grab.specs.Keys.{Call}
use Rattle.kbd_grab.specs.Keys.Call.{Key}
use Rattle.virt_keys.specs.Routes.{standing_call}
use Rattle.virt_keys.specs.Boards.{Board, AreDown}
use Rattle.relay_core.specs.BoardKeys.{Boards, live_board}

-- the board v as a keyboard by itself: what the acts of a history call on it, the newest first;
-- before each press or release stands the grab that the board's keys may go to
abbrev pub calls_on : List Act → ℕ → List Call
calls_on [] v = []
calls_on (acts.VKey x time key state ∷ older) v =
    (if x == v then Key key (is_press state) ∷ standing_call (grab_for older v) ∷ calls_on older v
    else calls_on older v)
calls_on (_ ∷ older) v = calls_on older v

-- what is kept of the board v is what a history says
pub record IsKept (log : List Act) (v : ℕ) (o : Board) : Type 0 where
  pub there : is_board log v ≡ true
  pub peer : peer_of log v ≡ Some o.peer
  pub keymap : o.has_keymap ≡ had_keymap log v
  pub down : AreDown (calls_on log v) o.down

-- and what isn't kept is no board
abbrev pub KeptAt : List Act → ℕ → Option Board → Type 0
KeptAt log v None = is_board log v ≡ false
KeptAt log v (Some o) = IsKept log v o

-- the boards are those of a history
pub record BoardsStand (boards : Boards) (log : List Act) : Type 0 where
  pub each : (v : ℕ) → KeptAt log v (live_board boards v)
