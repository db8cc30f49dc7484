-- The grammar of sessions and shell links: the one spelling of each line, and which lines there
-- are.
use Rattle.std.specs.Prelude.{ℕ, ◌≡◌, ◌^◌, ◌<◌, ◌≤◌, List, [], ◌∷◌, length, map, All, codes, IsTrue}
use Rattle.std.specs.Fmt.{decimal, signed_decimal}
use Rattle.broker_steps.specs.declared.limits.Limits.{Limits}
use Rattle.broker_steps.specs.declared.stamp.Stamp.{Stamp}
use Rattle.broker_steps.specs.declared.step.ShellStep.{ShellStep}
use Rattle.broker_steps.specs.declared.step.ShellStep.TheVariants as shells
use Rattle.session_text.specs.declared.line.SessionLine.{SessionLine}
use Rattle.session_text.specs.declared.line.SessionLine.TheVariants as sessions
use Rattle.broker_steps.specs.Ranges.{piece_limit, token_limit, store_limit, form_1_entry_limit, form_1_weight, is_size}
use Rattle.session_text.specs.Words.{rect_words, hex_word, role_word, fits_i32, IsArea, IsBytesWithin}
use Rattle.broker_steps.specs.Ranges.{IsWithin}

abbrev pub shell_words : ShellStep → List (List ℕ)
shell_words (shells.Focus p i) = codes "focus" ∷ decimal p ∷ decimal i ∷ []
shell_words shells.Unfocus = codes "unfocus" ∷ []
shell_words (shells.Area p i rect) = codes "area" ∷ decimal p ∷ decimal i ∷ rect_words rect
shell_words (shells.Screen size) =
    codes "screen" ∷ signed_decimal size.width ∷ signed_decimal size.height ∷ []
shell_words (shells.Key time key state) =
    codes "key" ∷ decimal time ∷ decimal key ∷ decimal state ∷ []
shell_words (shells.Mods mods) =
    codes "mods" ∷ decimal mods.depressed ∷ decimal mods.latched ∷ decimal mods.locked ∷
    decimal mods.group ∷ []
shell_words (shells.Keymap keymap) =
    codes "keymap" ∷ decimal keymap.format ∷ decimal keymap.token ∷ decimal keymap.size ∷ []
shell_words (shells.Repeat repeat) =
    codes "repeat" ∷ signed_decimal repeat.rate ∷ signed_decimal repeat.delay ∷ []
shell_words (shells.At moment) = codes "at" ∷ decimal moment ∷ []

abbrev pub session_words : SessionLine → List (List ℕ)
session_words (sessions.Join role) = codes "join" ∷ role_word role ∷ []
session_words (sessions.Bytes p bytes) = codes "bytes" ∷ decimal p ∷ hex_word bytes ∷ []
session_words (sessions.Gone p) = codes "gone" ∷ decimal p ∷ []
session_words (sessions.Take p n) = codes "take" ∷ decimal p ∷ decimal n ∷ []
session_words (sessions.Tokens p tokens) = codes "tokens" ∷ decimal p ∷ map decimal tokens
session_words (sessions.Shell step) = shell_words step

-- the header of form 1, which doesn't say what the journal may weigh
abbrev pub header_words : Limits → List (List ℕ)
header_words limits =
    codes "session" ∷ codes "1" ∷ decimal limits.entries ∷ decimal limits.store ∷ []

-- the header of form 2
abbrev pub long_header_words : Limits → List (List ℕ)
long_header_words limits =
    codes "session" ∷ codes "2" ∷ decimal limits.entries ∷ decimal limits.store ∷
    decimal limits.weight ∷ []

-- a stamp before the words of a line
abbrev pub stamped_words : Stamp → List (List ℕ) → List (List ℕ)
stamped_words stamp words = decimal stamp.moment ∷ decimal stamp.author ∷ words

-- the limits of a session of form 1 are in their ranges
abbrev pub AreOldLimits : Limits → Type 0
AreOldLimits limits =
    IsWithin form_1_entry_limit limits.entries
    × IsWithin store_limit limits.store
    × (limits.weight ≡ form_1_weight)

-- The step holds only what a line of form 1 can give: each number is in its range, and it is no
-- moment.
abbrev pub HasShellLine : ShellStep → Type 0
HasShellLine (shells.Focus p i) = (p < 2 ^ 32) × (i < 2 ^ 32)
HasShellLine shells.Unfocus = Unit {0}
HasShellLine (shells.Area p i rect) = (p < 2 ^ 32) × (i < 2 ^ 32) × IsArea rect
HasShellLine (shells.Screen size) = IsTrue (is_size size.width) × IsTrue (is_size size.height)
HasShellLine (shells.Key time key state) = (time < 2 ^ 32) × (key < 2 ^ 32) × (state ≤ 1)
HasShellLine (shells.Mods mods) =
    (mods.depressed < 2 ^ 32) × (mods.latched < 2 ^ 32) × (mods.locked < 2 ^ 32)
    × (mods.group < 2 ^ 32)
HasShellLine (shells.Keymap keymap) =
    (keymap.format < 2 ^ 32) × (keymap.token < 2 ^ 32) × (keymap.size < 2 ^ 32)
HasShellLine (shells.Repeat repeat) = IsTrue (fits_i32 repeat.rate) × IsTrue (fits_i32 repeat.delay)
HasShellLine (shells.At moment) = ⊥

-- a line of a shell link is one of form 1, or a moment
abbrev pub HasLinkLine : ShellStep → Type 0
HasLinkLine (shells.At moment) = moment < 2 ^ 64
HasLinkLine step = HasShellLine step

-- The line holds only what a line of form 1 can give: each number is in its range, there are from
-- one to 4,096 bytes, and it has neither tokens nor a moment.
abbrev pub HasSessionLine : SessionLine → Type 0
HasSessionLine (sessions.Join role) = Unit {0}
HasSessionLine (sessions.Bytes p bytes) = (p < 2 ^ 32) × IsBytesWithin piece_limit bytes
HasSessionLine (sessions.Gone p) = p < 2 ^ 32
HasSessionLine (sessions.Take p n) = (p < 2 ^ 32) × IsWithin piece_limit n
HasSessionLine (sessions.Tokens p tokens) = ⊥
HasSessionLine (sessions.Shell step) = HasShellLine step

-- from one to 256 tokens of 32 bits
abbrev pub AreTokens : List ℕ → Type 0
AreTokens tokens = IsWithin token_limit (length tokens) × All (λ token. token < 2 ^ 32) tokens

-- behind a stamp stands a line of form 1, or tokens, or a moment
abbrev pub HasStampedLine : SessionLine → Type 0
HasStampedLine (sessions.Tokens p tokens) = (p < 2 ^ 32) × AreTokens tokens
HasStampedLine (sessions.Shell step) = HasLinkLine step
HasStampedLine line = HasSessionLine line

abbrev pub IsStamp : Stamp → Type 0
IsStamp stamp = (stamp.moment < 2 ^ 64) × (stamp.author < 2 ^ 64)
