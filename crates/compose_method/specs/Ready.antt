-- What a method keeps: the room for a press, and a batch that fits a message.
use Rattle.std.specs.Prelude.{◌<◌, ◌≤◌, string_bytes, string_len, string_capacity, vec_len, vec_capacity, IsTrue}
use Rattle.wl_wire.specs.Texts.{has_no_zero}
use Rattle.compose_method.specs.Typing.{Typing}
use Rattle.compose_method.specs.declared.typing.TheConstants.{MAX_TYPED}
use Rattle.compose_method.specs.declared.table.TheConstants.{MAX_KEYS}
use Rattle.compose_method.specs.declared.method.Method.TheInside.{Inside}

abbrev pub typing_of : Inside → Typing
typing_of m =
    record {
      table = m.table;
      active = m.active;
      rest = m.waiting.items;
      string = string_bytes m.string;
      preedit = string_bytes m.preedit;
    }

pub record IsReady (m : Inside) : Type 0 where
  pub few : vec_len m.waiting < MAX_KEYS
  pub room : MAX_KEYS ≤ vec_capacity m.waiting
  pub string_room : MAX_TYPED ≤ string_capacity m.string
  pub preedit_room : MAX_TYPED ≤ string_capacity m.preedit
  pub string_fits : string_len m.string ≤ MAX_TYPED
  pub preedit_fits : string_len m.preedit ≤ MAX_TYPED
  pub string_clean : IsTrue (has_no_zero (string_bytes m.string))
  pub preedit_clean : IsTrue (has_no_zero (string_bytes m.preedit))
