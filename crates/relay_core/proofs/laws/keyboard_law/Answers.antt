use Rattle.std.proofs.Common.{ℕ, List, Bool, Option, Some, None, ap, ◌∙◌}
use Rattle.std.specs.Prelude.{if◌then◌else◌}
use Rattle.relay_model.specs.declared.act.Act.{Act}
use Rattle.relay_model.specs.Keys.{is_down}
use Rattle.relay_model.specs.Idle.{history}
use Rattle.relay_model.proofs.ActsOrIdle.{IsHistory, history_is}
use Rattle.kbd_grab.specs.Keys as board
use Rattle.kbd_grab.specs.Keyboard.{Keyboard, StandsFor}
use Rattle.relay_core.specs.KeyCalls.{key_calls}
use Rattle.relay_core.specs.KeyboardKept.{KeepsKeyboard}
use Rattle.relay_core.proofs.KeyCalls.{calls_standing, calls_down, calls_number, calls_went, calls_keymap, calls_repeat, calls_mods}
use Rattle.relay_core.proofs.laws.keyboard_law.Goals as goal

keyboard_kept : (keyboard : Keyboard) (log : List Act) → IsHistory log → StandsFor (key_calls log) keyboard →
    KeepsKeyboard keyboard log
keyboard_kept keyboard log i h = record {
  grab = h.grab ∙ calls_standing log;
  down = λ key. h.keys key
      ∙ ap (λ (b : Bool). if b then Some (board.first_went (key_calls log) key) else None) (calls_down log i key) ∙
      ap (λ (o : Option ℕ). if is_down log key then Some o else None) (calls_went log i key);
  number = h.number ∙ calls_number log i;
  keymap = h.last_keymap ∙ calls_keymap log;
  repeat = h.last_repeat ∙ calls_repeat log;
  mods = h.last_mods ∙ calls_mods log;
}

pub returns : goal.returns
returns c = λ relay log h. keyboard_kept relay.state.keys (history log) (history_is log) h.state.keys_now
