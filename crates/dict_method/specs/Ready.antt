-- What a dictionary method keeps: the room for a press, and a batch that fits a message.
use Rattle.std.specs.Prelude.{◌≤◌, ◌+◌, string_bytes, string_len, string_capacity, vec_len, vec_capacity, IsTrue}
use Rattle.compose_method.specs.declared.table.TheConstants.{MAX_KEY_TEXT}
use Rattle.wl_wire.specs.Texts.{has_no_zero}
use Rattle.dict_method.specs.Spelling.{Spelling}
use Rattle.dict_method.specs.declared.dict.TheConstants.{MAX_WORD_KEYS}
use Rattle.dict_method.specs.declared.method.TheConstants.{MAX_CODE_TEXT}
use Rattle.dict_method.specs.declared.method.DictMethod.TheInside.{Inside}

abbrev pub spelling_of : Inside → Spelling
spelling_of m = record {
  table = m.table;
  dict = m.dict;
  active = m.active;
  code = m.code.items;
  string = string_bytes m.string;
  preedit = string_bytes m.preedit;
}

pub record IsReady (m : Inside) : Type 0 where
  pub few : vec_len m.code ≤ MAX_WORD_KEYS
  pub room : MAX_WORD_KEYS + 1 ≤ vec_capacity m.code
  pub string_room : MAX_KEY_TEXT ≤ string_capacity m.string
  pub preedit_room : MAX_CODE_TEXT ≤ string_capacity m.preedit
  pub string_fits : string_len m.string ≤ MAX_KEY_TEXT
  pub preedit_fits : string_len m.preedit ≤ MAX_CODE_TEXT
  pub string_clean : IsTrue (has_no_zero (string_bytes m.string))
  pub preedit_clean : IsTrue (has_no_zero (string_bytes m.preedit))
