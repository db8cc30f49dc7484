-- The grammar of act lists, and of every form: the one spelling of each line, and which lines there
-- are.
use Rattle.std.specs.Prelude.{ℕ, ◌^◌, ◌<◌, ◌≤◌, List, [], ◌∷◌, codes, IsTrue}
use Rattle.std.specs.List.{join_with_byte}
use Rattle.std.specs.Fmt.{decimal, signed_decimal}
use Rattle.relay_model.specs.declared.act.Act.{Act}
use Rattle.relay_model.specs.declared.act.Act.TheVariants as acts
use Rattle.relay_model.specs.declared.act.EndCause.TheVariants as causes
use Rattle.session_text.specs.declared.line.Form.{Form}
use Rattle.session_text.specs.declared.line.Form.TheVariants.{Acts, Session, Session2, Shell}
use Rattle.session_text.specs.declared.line.Line.{Line}
use Rattle.session_text.specs.declared.line.Line.TheVariants as lines
use Rattle.broker_steps.specs.Ranges.{is_size}
use Rattle.session_text.specs.Words.{text_limit, cursor_text_limit, IsTextWithin, IsRect, IsArea, fits_i32, rect_words, hex_word}
use Rattle.broker_steps.specs.Ranges.{IsLimits}
use Rattle.broker_steps.specs.declared.limits.Limits.{Limits}
use Rattle.session_text.specs.SessionGrammar.{shell_words, session_words, header_words, long_header_words, stamped_words, AreOldLimits, HasLinkLine, HasSessionLine, HasStampedLine, IsStamp}

-- the words of an act's line; an act that no line gives has none
abbrev pub act_words : Act → List (List ℕ)
act_words acts.Peer = codes "peer" ∷ []
act_words (acts.Gone p cause) = codes "gone" ∷ decimal p ∷ []
act_words (acts.Surface p) = codes "surface" ∷ decimal p ∷ []
act_words (acts.Field p) = codes "field" ∷ decimal p ∷ []
act_words (acts.Method p) = codes "method" ∷ decimal p ∷ []
act_words (acts.Popup m s) = codes "popup" ∷ decimal m ∷ decimal s ∷ []
act_words (acts.Grab m) = codes "grab" ∷ decimal m ∷ []
act_words (acts.Drop x) = codes "drop" ∷ decimal x ∷ []
act_words (acts.Focus s) = codes "focus" ∷ decimal s ∷ []
act_words acts.Unfocus = codes "unfocus" ∷ []
act_words (acts.Area s rect) = codes "area" ∷ decimal s ∷ rect_words rect
act_words (acts.Screen size) =
    codes "screen" ∷ signed_decimal size.width ∷ signed_decimal size.height ∷ []
act_words (acts.Enable f) = codes "enable" ∷ decimal f ∷ []
act_words (acts.Disable f) = codes "disable" ∷ decimal f ∷ []
act_words (acts.Surround f text cursor anchor) =
    codes "surround" ∷ decimal f ∷ hex_word text ∷ signed_decimal cursor ∷
    signed_decimal anchor ∷ []
act_words (acts.Cause f cause) = codes "cause" ∷ decimal f ∷ decimal cause ∷ []
act_words (acts.Content f hint purpose) =
    codes "content" ∷ decimal f ∷ decimal hint ∷ decimal purpose ∷ []
act_words (acts.Cursor f rect) = codes "rect" ∷ decimal f ∷ rect_words rect
act_words (acts.Commit f) = codes "commit" ∷ decimal f ∷ []
act_words (acts.MString m text) = codes "mstring" ∷ decimal m ∷ hex_word text ∷ []
act_words (acts.MPreedit m text begin end) =
    codes "mpreedit" ∷ decimal m ∷ hex_word text ∷ signed_decimal begin ∷ signed_decimal end ∷ []
act_words (acts.MDelete m before after) =
    codes "mdelete" ∷ decimal m ∷ decimal before ∷ decimal after ∷ []
act_words (acts.MCommit m serial) = codes "mcommit" ∷ decimal m ∷ decimal serial ∷ []
act_words (acts.Key time key state) = codes "key" ∷ decimal time ∷ decimal key ∷ decimal state ∷ []
act_words (acts.Mods mods) =
    codes "mods" ∷ decimal mods.depressed ∷ decimal mods.latched ∷ decimal mods.locked ∷
    decimal mods.group ∷ []
act_words (acts.Keymap keymap) =
    codes "keymap" ∷ decimal keymap.format ∷ decimal keymap.token ∷ decimal keymap.size ∷ []
act_words (acts.Repeat repeat) =
    codes "repeat" ∷ signed_decimal repeat.rate ∷ signed_decimal repeat.delay ∷ []
act_words (acts.VBoard p) = codes "vboard" ∷ decimal p ∷ []
act_words (acts.VKeymap v keymap) =
    codes "vkeymap" ∷ decimal v ∷ decimal keymap.format ∷ decimal keymap.token ∷
    decimal keymap.size ∷ []
act_words (acts.VKey v time key state) =
    codes "vkey" ∷ decimal v ∷ decimal time ∷ decimal key ∷ decimal state ∷ []
act_words (acts.VMods v mods) =
    codes "vmods" ∷ decimal v ∷ decimal mods.depressed ∷ decimal mods.latched ∷
    decimal mods.locked ∷ decimal mods.group ∷ []
act_words _ = []

-- the header of each form
abbrev pub form_header : Form → Limits → List (List ℕ)
form_header Session2 limits = long_header_words limits
form_header _ limits = header_words limits

-- the words of a line; those of a header are its form's
abbrev pub line_words : Form → Line → List (List ℕ)
line_words form (lines.Header limits) = form_header form limits
line_words form (lines.Act act) = act_words act
line_words form (lines.Session line) = session_words line
line_words form (lines.Stamped stamp line) = stamped_words stamp (session_words line)
line_words form (lines.Shell step) = shell_words step
line_words form lines.End = codes "end" ∷ []

-- the words of a line, separated by one space
abbrev pub spelling : Form → Line → List ℕ
spelling form line = join_with_byte 32 (line_words form line)

-- The act holds only what a line can give: each number is in its range, each text is one within its
-- limit, and a peer that ends is gone.
abbrev pub HasLine : Act → Type 0
HasLine acts.Peer = Unit {0}
HasLine (acts.Gone p causes.Gone) = p < 2 ^ 32
HasLine (acts.Surface p) = p < 2 ^ 32
HasLine (acts.Field p) = p < 2 ^ 32
HasLine (acts.Method p) = p < 2 ^ 32
HasLine (acts.Popup m s) = (m < 2 ^ 32) × (s < 2 ^ 32)
HasLine (acts.Grab m) = m < 2 ^ 32
HasLine (acts.Drop x) = x < 2 ^ 32
HasLine (acts.Focus s) = s < 2 ^ 32
HasLine acts.Unfocus = Unit {0}
HasLine (acts.Area s rect) = (s < 2 ^ 32) × IsArea rect
HasLine (acts.Screen size) = IsTrue (is_size size.width) × IsTrue (is_size size.height)
HasLine (acts.Enable f) = f < 2 ^ 32
HasLine (acts.Disable f) = f < 2 ^ 32
HasLine (acts.Surround f text cursor anchor) =
    (f < 2 ^ 32) × IsTextWithin cursor_text_limit text × IsTrue (fits_i32 cursor)
    × IsTrue (fits_i32 anchor)
HasLine (acts.Cause f cause) = (f < 2 ^ 32) × (cause < 2 ^ 32)
HasLine (acts.Content f hint purpose) = (f < 2 ^ 32) × (hint < 2 ^ 32) × (purpose < 2 ^ 32)
HasLine (acts.Cursor f rect) = (f < 2 ^ 32) × IsRect rect
HasLine (acts.Commit f) = f < 2 ^ 32
HasLine (acts.MString m text) = (m < 2 ^ 32) × IsTextWithin text_limit text
HasLine (acts.MPreedit m text begin end) =
    (m < 2 ^ 32) × IsTextWithin cursor_text_limit text × IsTrue (fits_i32 begin)
    × IsTrue (fits_i32 end)
HasLine (acts.MDelete m before after) = (m < 2 ^ 32) × (before < 2 ^ 32) × (after < 2 ^ 32)
HasLine (acts.MCommit m serial) = (m < 2 ^ 32) × (serial < 2 ^ 32)
HasLine (acts.Key time key state) = (time < 2 ^ 32) × (key < 2 ^ 32) × (state ≤ 1)
HasLine (acts.Mods mods) =
    (mods.depressed < 2 ^ 32) × (mods.latched < 2 ^ 32) × (mods.locked < 2 ^ 32)
    × (mods.group < 2 ^ 32)
HasLine (acts.Keymap keymap) =
    (keymap.format < 2 ^ 32) × (keymap.token < 2 ^ 32) × (keymap.size < 2 ^ 32)
HasLine (acts.Repeat repeat) = IsTrue (fits_i32 repeat.rate) × IsTrue (fits_i32 repeat.delay)
HasLine (acts.VBoard p) = p < 2 ^ 32
HasLine (acts.VKeymap v keymap) =
    (v < 2 ^ 32) × (keymap.format < 2 ^ 32) × (keymap.token < 2 ^ 32) × (keymap.size < 2 ^ 32)
HasLine (acts.VKey v time key state) = (v < 2 ^ 32) × (time < 2 ^ 32) × (key < 2 ^ 32) × (state ≤ 1)
HasLine (acts.VMods v mods) =
    (v < 2 ^ 32) × (mods.depressed < 2 ^ 32) × (mods.latched < 2 ^ 32) × (mods.locked < 2 ^ 32)
    × (mods.group < 2 ^ 32)
HasLine _ = ⊥

-- the line is one of the form
abbrev pub IsLine : Form → Line → Type 0
IsLine Acts (lines.Act act) = HasLine act
IsLine Acts lines.End = Unit {0}
IsLine Session (lines.Header limits) = AreOldLimits limits
IsLine Session (lines.Session line) = HasSessionLine line
IsLine Session lines.End = Unit {0}
IsLine Session2 (lines.Header limits) = IsLimits limits
IsLine Session2 (lines.Stamped stamp line) = IsStamp stamp × HasStampedLine line
IsLine Session2 lines.End = Unit {0}
IsLine Shell (lines.Shell step) = HasLinkLine step
IsLine _ _ = ⊥
