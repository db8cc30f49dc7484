-- Each act that has a line: its words are words of a line, and they are read as that act.
use Rattle.std.proofs.Common.{◌≡◌, false, [], Some, refl}
use Rattle.std.specs.Prelude.{codes}
use Rattle.relay_model.specs.declared.act.Act.{Act}
use Rattle.relay_model.specs.declared.act.Act.TheVariants as acts
use Rattle.relay_model.specs.declared.act.EndCause.TheVariants as causes
use Rattle.session_text.specs.Words.{text_limit, cursor_text_limit}
use Rattle.session_text.specs.Grammar.{act_words, HasLine}
use Rattle.session_text.specs.Reading.{one_word, two_words, three_words, four_words, five_words, six_words, act_of, is_end}
use Rattle.session_text.proofs.WordsByKind.{Parts, none, more, named, with_one, with_two}
use Rattle.session_text.proofs.WordKinds.{numbers, signeds, sizes, states, texts}

-- ---- the words of an act are words of a line

pub parts : (act : Act) → HasLine act → Parts (act_words act)
parts acts.Peer h = named (codes "peer") [] 0 none refl
parts (acts.Gone p causes.Gone) h = with_one numbers (codes "gone") p h refl
parts (acts.Surface p) h = with_one numbers (codes "surface") p h refl
parts (acts.Field p) h = with_one numbers (codes "field") p h refl
parts (acts.Method p) h = with_one numbers (codes "method") p h refl
parts (acts.Popup m s) h = with_two numbers numbers (codes "popup") m s h.0 h.1 refl
parts (acts.Grab m) h = with_one numbers (codes "grab") m h refl
parts (acts.Drop x) h = with_one numbers (codes "drop") x h refl
parts (acts.Focus s) h = with_one numbers (codes "focus") s h refl
parts acts.Unfocus h = named (codes "unfocus") [] 0 none refl
parts (acts.Area s r) h = named (codes "area") _ _
    (more numbers s h.0 _ _ (more signeds r.x h.1.0 _ _
    (more signeds r.y h.1.1 _ _ (more sizes r.width h.1.2 _ _ (more sizes r.height h.1.3 _ _ none))))) refl
parts (acts.Screen z) h = with_two sizes sizes (codes "screen") z.width z.height h.0 h.1 refl
parts (acts.Enable f) h = with_one numbers (codes "enable") f h refl
parts (acts.Disable f) h = with_one numbers (codes "disable") f h refl
parts (acts.Surround f text cursor anchor) h =
    named (codes "surround") _ _ (more numbers f h.0 _ _
    (more (texts cursor_text_limit) text h.1 _ _ (more signeds cursor h.2 _ _ (more signeds anchor h.3 _ _ none)))) refl
parts (acts.Cause f cause) h = with_two numbers numbers (codes "cause") f cause h.0 h.1 refl
parts (acts.Content f hint purpose) h = named (codes "content") _ _
    (more numbers f h.0 _ _ (more numbers hint h.1 _ _ (more numbers purpose h.2 _ _ none))) refl
parts (acts.Cursor f r) h = named (codes "rect") _ _
    (more numbers f h.0 _ _ (more signeds r.x h.1.0 _ _
    (more signeds r.y h.1.1 _ _ (more signeds r.width h.1.2 _ _ (more signeds r.height h.1.3 _ _ none))))) refl
parts (acts.Commit f) h = with_one numbers (codes "commit") f h refl
parts (acts.MString m text) h = with_two numbers (texts text_limit) (codes "mstring") m text h.0 h.1 refl
parts (acts.MPreedit m text begin end) h = named (codes "mpreedit") _ _
    (more numbers m h.0 _ _ (more (texts cursor_text_limit) text h.1 _ _
    (more signeds begin h.2 _ _ (more signeds end h.3 _ _ none)))) refl
parts (acts.MDelete m before after) h = named (codes "mdelete") _ _
    (more numbers m h.0 _ _ (more numbers before h.1 _ _ (more numbers after h.2 _ _ none))) refl
parts (acts.MCommit m serial) h = with_two numbers numbers (codes "mcommit") m serial h.0 h.1 refl
parts (acts.Key time key state) h =
    named (codes "key") _ _ (more numbers time h.0 _ _ (more numbers key h.1 _ _ (more states state h.2 _ _ none))) refl
parts (acts.Mods mods) h = named (codes "mods") _ _
    (more numbers mods.depressed h.0 _ _ (more numbers mods.latched h.1 _ _
    (more numbers mods.locked h.2 _ _ (more numbers mods.group h.3 _ _ none)))) refl
parts (acts.Keymap keymap) h = named (codes "keymap") _ _
    (more numbers keymap.format h.0 _ _ (more numbers keymap.token h.1 _ _
    (more numbers keymap.size h.2 _ _ none))) refl
parts (acts.Repeat repeat) h = with_two signeds signeds (codes "repeat") repeat.rate repeat.delay h.0 h.1 refl
parts (acts.VBoard p) h = with_one numbers (codes "vboard") p h refl
parts (acts.VKeymap v keymap) h = named (codes "vkeymap") _ _
    (more numbers v h.0 _ _ (more numbers keymap.format h.1 _ _
    (more numbers keymap.token h.2 _ _ (more numbers keymap.size h.3 _ _ none)))) refl
parts (acts.VKey v time key state) h = named (codes "vkey") _ _
    (more numbers v h.0 _ _ (more numbers time h.1 _ _
    (more numbers key h.2 _ _ (more states state h.3 _ _ none)))) refl
parts (acts.VMods v mods) h = named (codes "vmods") _ _
    (more numbers v h.0 _ _ (more numbers mods.depressed h.1 _ _
    (more numbers mods.latched h.2 _ _ (more numbers mods.locked h.3 _ _ (more numbers mods.group h.4 _ _ none))))) refl
parts _ h = absurd h

-- ---- the words of an act are read as that act

pub act_complete : (act : Act) → HasLine act → (is_end (act_words act) ≡ false) × (act_of (act_words act) ≡ Some act)
unfolding one_word two_words three_words four_words five_words six_words
act_complete acts.Peer h = (refl, refl)
act_complete (acts.Gone p causes.Gone) h = (refl, rw (numbers.complete p h) refl)
act_complete (acts.Surface p) h = (refl, rw (numbers.complete p h) refl)
act_complete (acts.Field p) h = (refl, rw (numbers.complete p h) refl)
act_complete (acts.Method p) h = (refl, rw (numbers.complete p h) refl)
act_complete (acts.Popup m s) h = (refl, rw (numbers.complete m h.0) (rw (numbers.complete s h.1) refl))
act_complete (acts.Grab m) h = (refl, rw (numbers.complete m h) refl)
act_complete (acts.Drop x) h = (refl, rw (numbers.complete x h) refl)
act_complete (acts.Focus s) h = (refl, rw (numbers.complete s h) refl)
act_complete acts.Unfocus h = (refl, refl)
act_complete (acts.Area s r) h = (
  refl,
  rw (numbers.complete s h.0)
      (rw (signeds.complete r.x h.1.0)
      (rw (signeds.complete r.y h.1.1) (rw (sizes.complete r.width h.1.2) (rw (sizes.complete r.height h.1.3) refl)))),
)
act_complete (acts.Screen z) h = (refl, rw (sizes.complete z.width h.0) (rw (sizes.complete z.height h.1) refl))
act_complete (acts.Enable f) h = (refl, rw (numbers.complete f h) refl)
act_complete (acts.Disable f) h = (refl, rw (numbers.complete f h) refl)
act_complete (acts.Surround f text cursor anchor) h = (
  refl,
  rw (numbers.complete f h.0, (texts cursor_text_limit).complete text h.1)
      (rw (signeds.complete cursor h.2) (rw (signeds.complete anchor h.3) refl)),
)
act_complete (acts.Cause f cause) h = (refl, rw (numbers.complete f h.0) (rw (numbers.complete cause h.1) refl))
act_complete (acts.Content f hint purpose) h =
    (refl, rw (numbers.complete f h.0) (rw (numbers.complete hint h.1) (rw (numbers.complete purpose h.2) refl)))
act_complete (acts.Cursor f r) h = (
  refl,
  rw (numbers.complete f h.0)
      (rw (signeds.complete r.x h.1.0)
      (rw (signeds.complete r.y h.1.1)
      (rw (signeds.complete r.width h.1.2) (rw (signeds.complete r.height h.1.3) refl)))),
)
act_complete (acts.Commit f) h = (refl, rw (numbers.complete f h) refl)
act_complete (acts.MString m text) h = (refl, rw (numbers.complete m h.0, (texts text_limit).complete text h.1) refl)
act_complete (acts.MPreedit m text begin end) h = (
  refl,
  rw (numbers.complete m h.0, (texts cursor_text_limit).complete text h.1)
      (rw (signeds.complete begin h.2) (rw (signeds.complete end h.3) refl)),
)
act_complete (acts.MDelete m before after) h =
    (refl, rw (numbers.complete m h.0) (rw (numbers.complete before h.1) (rw (numbers.complete after h.2) refl)))
act_complete (acts.MCommit m serial) h = (refl, rw (numbers.complete m h.0) (rw (numbers.complete serial h.1) refl))
act_complete (acts.Key time key state) h =
    (refl, rw (numbers.complete time h.0) (rw (numbers.complete key h.1) (rw (states.complete state h.2) refl)))
act_complete (acts.Mods mods) h = (
  refl,
  rw (numbers.complete mods.depressed h.0)
      (rw (numbers.complete mods.latched h.1)
      (rw (numbers.complete mods.locked h.2) (rw (numbers.complete mods.group h.3) refl))),
)
act_complete (acts.Keymap keymap) h = (
  refl,
  rw (numbers.complete keymap.format h.0)
      (rw (numbers.complete keymap.token h.1) (rw (numbers.complete keymap.size h.2) refl)),
)
act_complete (acts.Repeat repeat) h =
    (refl, rw (signeds.complete repeat.rate h.0) (rw (signeds.complete repeat.delay h.1) refl))
act_complete (acts.VBoard p) h = (refl, rw (numbers.complete p h) refl)
act_complete (acts.VKeymap v keymap) h = (
  refl,
  rw (numbers.complete v h.0)
      (rw (numbers.complete keymap.format h.1)
      (rw (numbers.complete keymap.token h.2) (rw (numbers.complete keymap.size h.3) refl))),
)
act_complete (acts.VKey v time key state) h = (
  refl,
  rw (numbers.complete v h.0)
      (rw (numbers.complete time h.1) (rw (numbers.complete key h.2) (rw (states.complete state h.3) refl))),
)
act_complete (acts.VMods v mods) h = (
  refl,
  rw (numbers.complete v h.0)
      (rw (numbers.complete mods.depressed h.1)
      (rw (numbers.complete mods.latched h.2)
      (rw (numbers.complete mods.locked h.3) (rw (numbers.complete mods.group h.4) refl)))),
)
act_complete _ h = absurd h
