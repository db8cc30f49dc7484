-- the list in which a grab keeps the keys that are down
use Rattle.std.specs.Prelude.{◌≡◌, ℕ, ◌≤◌, List, map, length}
use Rattle.std.specs.FinMap.{from_entries, len}
use Rattle.kbd_grab.specs.declared.down.Down.{Down}
use Rattle.kbd_grab.specs.Keyboard.{DownKeys}

abbrev pub keys_of : List Down → DownKeys
keys_of items = from_entries (map (λ d. (d.key, d.went)) items)

-- no key stands twice, there are at most 64, and room for 64
pub record IsTidy (items : List Down) (capacity : ℕ) : Type 0 where
  pub each_once : len (keys_of items) ≡ length items
  pub few : length items ≤ 64
  pub room : 64 ≤ capacity
