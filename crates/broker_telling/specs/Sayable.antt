-- Entries and acts whose numbers have the ranges of their types, and whose texts are texts.
use Rattle.std.specs.Prelude.{ℕ, ◌≤◌, List, length, IsTrue}
use Rattle.std.specs.List.{AllByRecursion}
use Rattle.wl_wire.specs.Texts.{is_text, IsBytes}
use Rattle.relay_model.specs.Rect.{Rect}
use Rattle.relay_model.specs.Keys.{Keymap, Repeat, Mods}
use Rattle.relay_model.specs.declared.act.Act.{Act}
use Rattle.relay_model.specs.declared.act.Act.TheVariants as acts
use Rattle.broker_steps.specs.declared.step.ShellStep.{ShellStep}
use Rattle.broker_steps.specs.declared.step.ShellStep.TheVariants as shell
use Rattle.broker_model.specs.declared.journal.Entry.{Entry}
use Rattle.broker_model.specs.declared.journal.Entry.TheVariants as entries
pub use Rattle.broker_steps.specs.Numbers.{IsWord, IsInt}

-- a text of the protocol
abbrev pub IsText : List ℕ → Type 0
IsText text = IsTrue (is_text text)

abbrev pub HasInts : Rect → Type 0
HasInts rect = IsInt rect.x × IsInt rect.y × IsInt rect.width × IsInt rect.height

abbrev pub HasWords : Mods → Type 0
HasWords mods = IsWord mods.depressed × IsWord mods.latched × IsWord mods.locked × IsWord mods.group

abbrev pub IsKeymap : Keymap → Type 0
IsKeymap keymap = IsWord keymap.format × IsWord keymap.size

abbrev pub IsRepeat : Repeat → Type 0
IsRepeat repeat = IsInt repeat.rate × IsInt repeat.delay

-- what the act may tell can be said: its numbers have 32 bits, and its texts are texts of the
-- protocol
abbrev pub IsSayable : Act → Type 0
IsSayable (acts.Surround f text cursor anchor) = IsText text × IsInt cursor × IsInt anchor
IsSayable (acts.Cause f cause) = IsWord cause
IsSayable (acts.Content f hint purpose) = IsWord hint × IsWord purpose
IsSayable (acts.Cursor f rect) = HasInts rect
IsSayable (acts.MString m text) = IsText text
IsSayable (acts.MPreedit m text begin end) = IsText text × IsInt begin × IsInt end
IsSayable (acts.MDelete m before after) = IsWord before × IsWord after
IsSayable (acts.Key time key state) = IsWord time × IsWord key × IsWord state
IsSayable (acts.Mods mods) = HasWords mods
IsSayable (acts.Keymap keymap) = IsKeymap keymap
IsSayable (acts.Repeat repeat) = IsRepeat repeat
IsSayable (acts.VKey v time key state) = IsWord time × IsWord key × IsWord state
IsSayable (acts.VMods v mods) = HasWords mods
IsSayable _ = Unit {0}

-- what the shell says of the keyboard has numbers of 32 bits
abbrev pub IsShellSayable : ShellStep → Type 0
IsShellSayable (shell.Key time key state) = IsWord time × IsWord key × IsWord state
IsShellSayable (shell.Mods mods) = HasWords mods
IsShellSayable (shell.Keymap keymap) = IsKeymap keymap
IsShellSayable (shell.Repeat repeat) = IsRepeat repeat
IsShellSayable _ = Unit {0}

-- The entry is one that a program can hold: its numbers have 32 bits, and the body of a message is
-- one of bytes, at most as many as a message has beside its header.
abbrev pub IsHeld : Entry → Type 0
IsHeld (entries.Message q id opcode body) = IsBytes body × (length body ≤ 4088)
IsHeld (entries.Shell step) = IsShellSayable step
IsHeld _ = Unit {0}

abbrev pub AreHeld : List Entry → Type 0
AreHeld journal = AllByRecursion IsHeld journal

-- the body of a message is one of bytes
abbrev pub HasBytes : Entry → Type 0
HasBytes (entries.Message q id opcode body) = IsBytes body
HasBytes _ = Unit {0}

abbrev pub AreBytes : List Entry → Type 0
AreBytes journal = AllByRecursion HasBytes journal
