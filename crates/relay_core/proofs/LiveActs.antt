-- The relay knows which keys, and which acts of boards, do something.
use Rattle.std.proofs.Common.{◌≡◌, ℕ, List, false, Option, Some, None, ap, refl, sym, ◌∙◌}
use Rattle.std.specs.Prelude.{◌&&◌, not, is_some}
use Rattle.std.specs.FinMap as map
use Rattle.relay_model.specs.declared.act.Act.{Act}
use Rattle.relay_model.specs.Objects.{is_board}
use Rattle.relay_model.specs.declared.act.Act.TheVariants as acts
use Rattle.relay_model.specs.Keys.{Keymap, Mods, is_press, is_refused}
use Rattle.relay_model.specs.Boards.{had_keymap, sends, board_refused}
use Rattle.relay_model.proofs.ActsOrIdle.{IsHistory}
use Rattle.kbd_grab.specs.Keyboard.{Keyboard, StandsFor, refused_at}
use Rattle.virt_keys.specs.Boards.{Board, takes_at}
use Rattle.virt_keys.proofs.TurnedKeys as turned
use Rattle.relay_core.specs.KeyCalls.{key_calls}
use Rattle.relay_core.specs.BoardsStand.{IsKept, KeptAt, calls_on}
use Rattle.relay_core.proofs.LookUpsFind.{is_key}
use Rattle.relay_core.proofs.KeyCalls.{calls_down, calls_number}
use Rattle.relay_core.proofs.BoardCalls.{down_on, number_on}

-- the seat's keyboard refuses the presses that the definitions say
pub refused_is : (keys : Keyboard) (log : List Act) (key state : ℕ) → IsHistory log → StandsFor (key_calls log) keys →
    refused_at (map.get keys.down key) (map.len keys.down) (is_press state) ≡ is_refused log key state
refused_is keys log key state i h =
    turned.refused_down (key_calls log) keys.down key (is_press state) (record { keys = h.keys; number = h.number })
    ∙ rw (calls_down log i key, calls_number log i) refl

-- and so does a board
refused_on : (log : List Act) (v key state : ℕ) (o : Board) → IsHistory log → IsKept log v o →
    refused_at (map.get o.down key) (map.len o.down) (is_press state) ≡ board_refused log v key state
refused_on log v key state o i k =
    turned.refused_down (calls_on log v) o.down key (is_press state) k.down
    ∙ rw (down_on log i v key, number_on log i v) refl

-- the relay knows which boards live
pub lives_by : (log : List Act) (v : ℕ) (o : Option Board) → KeptAt log v o → is_some o ≡ is_board log v
lives_by log v None k = sym k
lives_by log v (Some o) k = sym k.there

-- and which take a press or a release
pub takes_by : (log : List Act) (v key state : ℕ) (o : Option Board) → IsHistory log → KeptAt log v o →
    takes_at o key (is_press state) ≡ (sends log v && not (board_refused log v key state))
takes_by log v key state None i k = sym (ap (λ b. (b && had_keymap log v) && not (board_refused log v key state)) k)
takes_by log v key state (Some o) i k =
    ap (λ b. b && not (refused_at (map.get o.down key) (map.len o.down) (is_press state)))
    (k.keymap ∙ ap (λ b. b && had_keymap log v) (sym k.there))
    ∙ ap (λ r. sends log v && not r) (refused_on log v key state o i k)

-- any other act is the machine's alone
pub is_other : (act : Act) → ((time key state : ℕ) → act ≡ acts.Key time key state → ⊥) →
    ((v : ℕ) (keymap : Keymap) → act ≡ acts.VKeymap v keymap → ⊥) →
    ((v time key state : ℕ) → act ≡ acts.VKey v time key state → ⊥) →
    ((v : ℕ) (mods : Mods) → act ≡ acts.VMods v mods → ⊥) → is_key act ≡ false
is_other (acts.Key time key state) a b c d = absurd (a time key state refl)
is_other (acts.VKeymap v keymap) a b c d = absurd (b v keymap refl)
is_other (acts.VKey v time key state) a b c d = absurd (c v time key state refl)
is_other (acts.VMods v mods) a b c d = absurd (d v mods refl)
is_other act a b c d = refl
