-- Which entries the steps of a hub put behind a journal: each is one that a line can give, and finds
-- what it needs
use Rattle.std.specs.Prelude.{◌≡◌, ℕ, ◌<◌, ◌≤◌, ◌^◌, List, [], ◌∷◌, length, true, Some, All}
use Rattle.std.specs.List.{AllByRecursion}
use Rattle.broker_steps.specs.Messages.{IsBad}
use Rattle.broker_steps.specs.Texts.{IsBytes}
use Rattle.broker_steps.specs.declared.limits.Limits.{Limits}
use Rattle.broker_steps.specs.declared.step.ShellStep.{ShellStep}
use Rattle.broker_steps.specs.declared.step.ShellStep.TheVariants as shells
use Rattle.broker_steps.specs.Ranges.{piece_limit, token_limit, IsWithin, IsBody, IsShellStep}
use Rattle.broker_model.specs.declared.journal.Entry.{Entry}
use Rattle.broker_model.specs.declared.journal.Entry.TheVariants as entries
use Rattle.broker_model.specs.Out.{Outgoing, stored}
use Rattle.broker_model.specs.Settle.{history, number_alive}
use Rattle.broker_core.specs.Taking.{out_at, lives}
use Rattle.hub_lock.specs.declared.step.OuterStep.{OuterStep}
use Rattle.hub_lock.specs.Histories.{History, entries_of}
pub use Rattle.broker_steps.specs.Numbers.{IsWord, IsInt}

-- what the shell says has numbers of 32 bits, and a moment one of 64
abbrev pub HasWidths : ShellStep → Type 0
HasWidths (shells.Focus p i) = IsWord p × IsWord i
HasWidths shells.Unfocus = Unit {0}
HasWidths (shells.Area p i rect) =
    IsWord p × IsWord i × IsInt rect.x × IsInt rect.y × IsInt rect.width × IsInt rect.height
HasWidths (shells.Screen size) = IsInt size.width × IsInt size.height
HasWidths (shells.Key time key state) = IsWord time × IsWord key
HasWidths (shells.Mods mods) =
    IsWord mods.depressed × IsWord mods.latched × IsWord mods.locked × IsWord mods.group
HasWidths (shells.Keymap keymap) = IsWord keymap.format × IsWord keymap.token × IsWord keymap.size
HasWidths (shells.Repeat repeat) = IsInt repeat.rate × IsInt repeat.delay
HasWidths (shells.At moment) = moment < 2 ^ 64

-- The entry is one that a line can give: its numbers have their widths, a message is whole, a bad
-- header is 8 bytes with a bad size, tokens are 1 to 256, and a take takes 1 to 4,096 bytes.
abbrev pub IsGiven : Entry → Type 0
IsGiven (entries.Join role) = Unit {0}
IsGiven (entries.Message q id opcode body) =
    IsWord q × IsWord id × (opcode < 2 ^ 16) × IsBytes body × IsBody body
IsGiven (entries.Tokens q tokens) =
    IsWord q × IsWithin token_limit (length tokens) × All (λ token. token < 2 ^ 32) tokens
IsGiven (entries.BadSize q head) = IsWord q × IsBytes head × IsBad head × (length head ≡ 8)
IsGiven (entries.End q cause) = IsWord q
IsGiven (entries.Shell step) = HasWidths step × IsShellStep step
IsGiven (entries.Took q bytes) = IsWord q × IsWithin piece_limit bytes

-- what a line needs of an entry beside the widths of its numbers, which are those of their types; a
-- join and an end need nothing
abbrev pub FitsLine : Entry → Type 0
FitsLine (entries.Message q id opcode body) = IsBody body
FitsLine (entries.Tokens q tokens) = IsWithin token_limit (length tokens)
FitsLine (entries.BadSize q head) = IsBad head
FitsLine (entries.Shell step) = IsShellStep step
FitsLine (entries.Took q bytes) = IsWithin piece_limit bytes
FitsLine _ = Unit {0}

-- so it is with each of these
abbrev pub HaveLines : List Entry → Type 0
HaveLines es = AllByRecursion FitsLine es

-- as many bytes are stored for the peer
pub record IsStored (limits : Limits) (journal : List Entry) (q bytes : ℕ) : Type 0 where
  pub out : Outgoing
  pub is : out_at limits.store journal q ≡ Some out
  pub enough : bytes ≤ length (stored out)

-- who joins finds fewer than 64 alive; who says something, or whose link ends, is alive; and who
-- takes finds as many bytes stored
abbrev pub Finds : Limits → List Entry → Entry → Type 0
Finds limits journal (entries.Join role) = number_alive journal < 64
Finds limits journal (entries.Message q id opcode body) = lives journal q ≡ true
Finds limits journal (entries.Tokens q tokens) = lives journal q ≡ true
Finds limits journal (entries.BadSize q head) = lives journal q ≡ true
Finds limits journal (entries.End q cause) = lives journal q ≡ true
Finds limits journal (entries.Shell step) = Unit {0}
Finds limits journal (entries.Took q bytes) = IsStored limits journal q bytes

-- the entry is that of a legal step behind this journal
pub record IsLegalEntry (limits : Limits) (journal : List Entry) (e : Entry) : Type 0 where
  pub given : IsGiven e
  pub finds : Finds limits journal e

-- each of these, the newest first, is legal behind the journal that those before it make
abbrev pub AreLegalEntries : Limits → List Entry → Type 0
AreLegalEntries limits [] = Unit {0}
AreLegalEntries limits (e ∷ older) =
    IsLegalEntry limits (history limits.store older) e × AreLegalEntries limits older

-- the number of each step's pass has 64 bits
abbrev pub HaveAuthors : History → Type 0
HaveAuthors h = AllByRecursion (λ (s : ℕ × OuterStep). s.0 < 2 ^ 64) h

-- the steps of a history are legal, each behind those before it
pub record HasLegalSteps (limits : Limits) (h : History) : Type 0 where
  pub entries : AreLegalEntries limits (entries_of h)
  pub authors : HaveAuthors h
