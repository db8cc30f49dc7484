-- Each line of a session or a shell link: its words are words of a line, and they are read as that line.
use Rattle.std.proofs.Common.{◌≡◌, ℕ, ◌+◌, ◌*◌, ◌^◌, ◌<◌, ◌≤◌, true, ◌&&◌, List, [], ◌∷◌, length, Option, Some, refl, sym, ap, arith}
use Rattle.std.specs.Prelude.{codes, map, nat_le, All}
use Rattle.std.proofs.lemmas.List.Elements.{All-head, All-tail}
use Rattle.std.specs.Fmt.{decimal}
use Rattle.broker_steps.specs.declared.limits.Limits.{Limits}
use Rattle.broker_steps.specs.declared.step.ShellStep.{ShellStep}
use Rattle.broker_steps.specs.declared.step.ShellStep.TheVariants as shells
use Rattle.session_text.specs.declared.line.Line.TheVariants as lines
use Rattle.session_text.specs.declared.line.SessionLine.{SessionLine}
use Rattle.session_text.specs.declared.line.SessionLine.TheVariants as sessions
use Rattle.broker_steps.specs.Ranges.{piece_limit, form_1_entry_limit, store_limit, IsWithin}
use Rattle.session_text.specs.Words.{count_of}
use Rattle.session_text.specs.SessionGrammar.{shell_words, session_words, header_words, AreOldLimits, HasShellLine, HasLinkLine, HasSessionLine, HasStampedLine, AreTokens}
use Rattle.session_text.specs.SessionReading.{one_shell_word, three_shell_words, four_shell_words, five_shell_words, seven_shell_words, shell_of, in_session, one_session_word, two_session_words, three_session_words, four_session_words, header_of, session_of}
use Rattle.session_text.proofs.LinesSplit.{lacks}
use Rattle.session_text.proofs.WordsByKind.{Parts, Fits, none, more, named, behind_name, whole}
use Rattle.session_text.proofs.WordKinds.{Kind, numbers, long_numbers, signeds, sizes, states, pieces, counts, roles}

-- the kinds of numbers with a limit of their own
pub piece_counts : Kind (count_of piece_limit) decimal (IsWithin piece_limit) 10
piece_counts = counts piece_limit (omega arith)

pub old_entry_counts : Kind (count_of form_1_entry_limit) decimal (IsWithin form_1_entry_limit) 10
old_entry_counts = counts form_1_entry_limit (omega arith)

pub store_counts : Kind (count_of store_limit) decimal (IsWithin store_limit) 10
store_counts = counts store_limit (omega arith)

-- ---- the words of a line

-- a line of form 1 may stand behind a stamp
pub old_shell : (step : ShellStep) → HasShellLine step → HasLinkLine step
old_shell (shells.Focus p i) h = h
old_shell shells.Unfocus h = h
old_shell (shells.Area p i r) h = h
old_shell (shells.Screen z) h = h
old_shell (shells.Key time key state) h = h
old_shell (shells.Mods mods) h = h
old_shell (shells.Keymap keymap) h = h
old_shell (shells.Repeat repeat) h = h
old_shell (shells.At moment) h = absurd h

pub old_line : (line : SessionLine) → HasSessionLine line → HasStampedLine line
old_line (sessions.Join role) h = h
old_line (sessions.Bytes p bytes) h = h
old_line (sessions.Gone p) h = h
old_line (sessions.Take p n) h = h
old_line (sessions.Tokens p tokens) h = absurd h
old_line (sessions.Shell step) h = old_shell step h

-- the most bytes behind a stamp
abbrev pub behind_limit : ℕ
behind_limit = 8300

fits_one : {A : Type 0} {read : List ℕ → Option A} {spell : A → List ℕ} {Is : A → Type 0} {most : ℕ} →
    Kind read spell Is most
    → (name : List ℕ) (x : A) → Is x →
    (lacks 32 name && lacks 0 name && nat_le (length name + 1 + (most + 1 + 0)) behind_limit) ≡ true →
    Fits (name ∷ spell x ∷ []) behind_limit
fits_one kind name x h test = behind_name behind_limit name _ _ (more kind x h _ _ none) test

fits_two : {A B : Type 0} {read : List ℕ → Option A} {spell : A → List ℕ} {Is : A → Type 0} {most : ℕ} {read' : List ℕ →
    Option B} {spell' : B → List ℕ} {Is' : B → Type 0} {most' : ℕ}
    → Kind read spell Is most → Kind read' spell' Is' most' → (name : List ℕ) (x : A) (y : B) → Is x → Is' y
    → (lacks 32 name && lacks 0 name && nat_le (length name + 1 + (most + 1 + (most' + 1 + 0))) behind_limit) ≡ true →
    Fits (name ∷ spell x ∷ spell' y ∷ []) behind_limit
fits_two kind kind' name x y h h' test =
    behind_name behind_limit name _ _ (more kind x h _ _ (more kind' y h' _ _ none)) test

pub shell_fits : (step : ShellStep) → HasLinkLine step → Fits (shell_words step) behind_limit
shell_fits (shells.Focus p i) h = fits_two numbers numbers (codes "focus") p i h.0 h.1 refl
shell_fits shells.Unfocus h = behind_name behind_limit (codes "unfocus") [] 0 none refl
shell_fits (shells.Area p i r) h = behind_name behind_limit (codes "area") _ _
    (more numbers p h.0 _ _ (more numbers i h.1 _ _
    (more signeds r.x h.2.0 _ _ (more signeds r.y h.2.1 _ _
    (more sizes r.width h.2.2 _ _ (more sizes r.height h.2.3 _ _ none)))))) refl
shell_fits (shells.Screen z) h = fits_two sizes sizes (codes "screen") z.width z.height h.0 h.1 refl
shell_fits (shells.Key time key state) h = behind_name behind_limit (codes "key") _ _
    (more numbers time h.0 _ _ (more numbers key h.1 _ _ (more states state h.2 _ _ none))) refl
shell_fits (shells.Mods mods) h = behind_name behind_limit (codes "mods") _ _
    (more numbers mods.depressed h.0 _ _ (more numbers mods.latched h.1 _ _
    (more numbers mods.locked h.2 _ _ (more numbers mods.group h.3 _ _ none)))) refl
shell_fits (shells.Keymap keymap) h = behind_name behind_limit (codes "keymap") _ _
    (more numbers keymap.format h.0 _ _ (more numbers keymap.token h.1 _ _
    (more numbers keymap.size h.2 _ _ none))) refl
shell_fits (shells.Repeat repeat) h = fits_two signeds signeds (codes "repeat") repeat.rate repeat.delay h.0 h.1 refl
shell_fits (shells.At moment) h = fits_one long_numbers (codes "at") moment h refl

tokens_fit : (tokens : List ℕ) → All (λ token. token < 2 ^ 32) tokens → Fits (map decimal tokens) (11 * length tokens)
tokens_fit [] h = none
tokens_fit (t ∷ tokens) h =
    let first = more numbers t (All-head (λ token. token < 2 ^ 32) t tokens h) _ _
    (tokens_fit tokens (All-tail (λ token. token < 2 ^ 32) t tokens h)) in
    record { spaceless = first.spaceless; zeroless = first.zeroless; within = omega (arith, first.within) }

tokens_line_fits : (p : ℕ) (tokens : List ℕ) → p < 2 ^ 32 → AreTokens tokens →
    Fits (session_words (sessions.Tokens p tokens)) behind_limit
tokens_line_fits p tokens small h =
    let behind = more numbers p small _ _ (tokens_fit tokens h.1) in
    record {
      spaceless = (refl, behind.spaceless);
      zeroless = (refl, behind.zeroless);
      within = omega (arith, behind.within, h.0.1);
    }

pub line_fits : (line : SessionLine) → HasStampedLine line → Fits (session_words line) behind_limit
line_fits (sessions.Join role) h = fits_one roles (codes "join") role tt refl
line_fits (sessions.Bytes p bytes) h = fits_two numbers (pieces piece_limit) (codes "bytes") p bytes h.0 h.1 refl
line_fits (sessions.Gone p) h = fits_one numbers (codes "gone") p h refl
line_fits (sessions.Take p n) h = fits_two numbers piece_counts (codes "take") p n h.0 h.1 refl
line_fits (sessions.Tokens p tokens) h = tokens_line_fits p tokens h.0 h.1
line_fits (sessions.Shell step) h = shell_fits step h

shell_some : (step : ShellStep) → 1 ≤ length (shell_words step)
shell_some (shells.Focus p i) = omega arith
shell_some shells.Unfocus = omega arith
shell_some (shells.Area p i r) = omega arith
shell_some (shells.Screen z) = omega arith
shell_some (shells.Key time key state) = omega arith
shell_some (shells.Mods mods) = omega arith
shell_some (shells.Keymap keymap) = omega arith
shell_some (shells.Repeat repeat) = omega arith
shell_some (shells.At moment) = omega arith

pub line_some : (line : SessionLine) → 1 ≤ length (session_words line)
line_some (sessions.Join role) = omega arith
line_some (sessions.Bytes p bytes) = omega arith
line_some (sessions.Gone p) = omega arith
line_some (sessions.Take p n) = omega arith
line_some (sessions.Tokens p tokens) = omega arith
line_some (sessions.Shell step) = shell_some step

pub link_parts : (step : ShellStep) → HasLinkLine step → Parts (shell_words step)
link_parts step h = whole (shell_words step) behind_limit (shell_fits step h) (shell_some step) (omega arith)

pub session_parts : (line : SessionLine) → HasStampedLine line → Parts (session_words line)
session_parts line h = whole (session_words line) behind_limit (line_fits line h) (line_some line) (omega arith)

pub header_parts : (limits : Limits) → AreOldLimits limits → Parts (header_words limits)
header_parts limits h =
    let counted = more old_entry_counts limits.entries h.0 _ _ (more store_counts limits.store h.1 _ _ none) in
    named (codes "session") (codes "1" ∷ _) 24
    (record {
      spaceless = (refl, counted.spaceless);
      zeroless = (refl, counted.zeroless);
      within =
          omega (arith, counted.within);
    }) refl

-- ---- the words of a line are read as that line

pub shell_complete : (step : ShellStep) → HasShellLine step → shell_of (shell_words step) ≡ Some step
unfolding one_shell_word three_shell_words four_shell_words five_shell_words seven_shell_words
shell_complete (shells.Focus p i) h = rw (numbers.complete p h.0) (rw (numbers.complete i h.1) refl)
shell_complete shells.Unfocus h = refl
shell_complete (shells.Area p i r) h =
    rw (numbers.complete p h.0)
    (rw (numbers.complete i h.1)
    (rw (signeds.complete r.x h.2.0)
    (rw (signeds.complete r.y h.2.1) (rw (sizes.complete r.width h.2.2) (rw (sizes.complete r.height h.2.3) refl)))))
shell_complete (shells.Screen z) h = rw (sizes.complete z.width h.0) (rw (sizes.complete z.height h.1) refl)
shell_complete (shells.Key time key state) h =
    rw (numbers.complete time h.0) (rw (numbers.complete key h.1) (rw (states.complete state h.2) refl))
shell_complete (shells.Mods mods) h =
    rw (numbers.complete mods.depressed h.0)
    (rw (numbers.complete mods.latched h.1)
    (rw (numbers.complete mods.locked h.2) (rw (numbers.complete mods.group h.3) refl)))
shell_complete (shells.Keymap keymap) h =
    rw (numbers.complete keymap.format h.0)
    (rw (numbers.complete keymap.token h.1) (rw (numbers.complete keymap.size h.2) refl))
shell_complete (shells.Repeat repeat) h =
    rw (signeds.complete repeat.rate h.0) (rw (signeds.complete repeat.delay h.1) refl)
shell_complete (shells.At moment) h = absurd h

pub session_complete : (line : SessionLine) → HasSessionLine line →
    session_of (session_words line) ≡ Some (lines.Session line)
unfolding one_session_word two_session_words three_session_words four_session_words
session_complete (sessions.Join role) h = rw (roles.complete role tt) refl
session_complete (sessions.Bytes p bytes) h = rw (numbers.complete p h.0, (pieces piece_limit).complete bytes h.1) refl
session_complete (sessions.Gone p) h = rw (numbers.complete p h) refl
session_complete (sessions.Take p n) h = rw (numbers.complete p h.0) (rw (piece_counts.complete n h.1) refl)
session_complete (sessions.Tokens p tokens) h = absurd h
session_complete (sessions.Shell (shells.Focus p i)) h = ap in_session (shell_complete (shells.Focus p i) h)
session_complete (sessions.Shell shells.Unfocus) h = ap in_session (shell_complete shells.Unfocus h)
session_complete (sessions.Shell (shells.Area p i r)) h = ap in_session (shell_complete (shells.Area p i r) h)
session_complete (sessions.Shell (shells.Screen z)) h = ap in_session (shell_complete (shells.Screen z) h)
session_complete (sessions.Shell (shells.Key time key state)) h =
    ap in_session (shell_complete (shells.Key time key state) h)
session_complete (sessions.Shell (shells.Mods mods)) h = ap in_session (shell_complete (shells.Mods mods) h)
session_complete (sessions.Shell (shells.Keymap keymap)) h = ap in_session (shell_complete (shells.Keymap keymap) h)
session_complete (sessions.Shell (shells.Repeat repeat)) h = ap in_session (shell_complete (shells.Repeat repeat) h)
session_complete (sessions.Shell (shells.At moment)) h = absurd h

pub header_complete : (limits : Limits) → AreOldLimits limits →
    session_of (header_words limits) ≡ Some (lines.Header limits)
unfolding four_session_words header_of
header_complete limits h =
    rw (old_entry_counts.complete limits.entries h.0) (rw (store_counts.complete limits.store h.1)
    (ap (λ weight. Some (lines.Header (record { entries = limits.entries; store = limits.store; weight = weight })))
    (sym h.2)))

pub end_complete : session_of (codes "end" ∷ []) ≡ Some lines.End
unfolding one_session_word
end_complete = refl
