-- What the words of a line read as in a session of form 1.
use Rattle.std.specs.Prelude.{ℕ, if◌then◌else◌, List, [], ◌∷◌, codes, Option, Some, None}
use Rattle.std.specs.Str.{bytes_eq}
use Rattle.broker_steps.specs.declared.step.ShellStep.{ShellStep}
use Rattle.broker_steps.specs.declared.step.ShellStep.TheVariants as shells
use Rattle.session_text.specs.declared.line.Line.{Line}
use Rattle.session_text.specs.declared.line.Line.TheVariants as lines
use Rattle.session_text.specs.declared.line.SessionLine.TheVariants as sessions
use Rattle.broker_steps.specs.Ranges.{piece_limit, form_1_entry_limit, store_limit, form_1_weight}
use Rattle.session_text.specs.Words.{◌>>=◌, rect, size, number_of, signed_of, size_of, state_of, count_of, role_of, bytes_of}

unfoldable pub one_shell_word : List ℕ → Option ShellStep
one_shell_word k = if bytes_eq k (codes "unfocus") then Some shells.Unfocus else None

unfoldable pub three_shell_words : List ℕ → List ℕ → List ℕ → Option ShellStep
three_shell_words k a b =
    if bytes_eq k (codes "focus")
    then number_of a >>= (λ p. number_of b >>= (λ i. Some (shells.Focus p i)))
    else if bytes_eq k (codes "screen")
    then size_of a >>= (λ w. size_of b >>= (λ h. Some (shells.Screen (size w h))))
    else if bytes_eq k (codes "repeat")
    then signed_of a >>= (λ rate. signed_of b >>=
    (λ delay. Some (shells.Repeat (record { rate = rate; delay = delay }))))
    else None

unfoldable pub four_shell_words : List ℕ → List ℕ → List ℕ → List ℕ → Option ShellStep
four_shell_words k a b c =
    if bytes_eq k (codes "key") then
    number_of a >>= (λ time. number_of b >>= (λ key. state_of c >>= (λ state.
    Some (shells.Key time key state))))
    else if bytes_eq k (codes "keymap") then
    number_of a >>= (λ format. number_of b >>= (λ token. number_of c >>= (λ size.
    Some (shells.Keymap (record { format = format; token = token; size = size })))))
    else None

unfoldable pub five_shell_words : List ℕ → List ℕ → List ℕ → List ℕ → List ℕ → Option ShellStep
five_shell_words k a b c d =
    if bytes_eq k (codes "mods") then
    number_of a >>=
    (λ depressed. number_of b >>=
    (λ latched. number_of c >>= (λ locked. number_of d >>= (λ group.
    Some (shells.Mods
    (record { depressed = depressed; latched = latched; locked = locked; group = group }))))))
    else None

unfoldable pub seven_shell_words : List ℕ → List ℕ → List ℕ → List ℕ → List ℕ → List ℕ → List ℕ →
    Option ShellStep
seven_shell_words k a b c d e f =
    if bytes_eq k (codes "area") then
    number_of a >>=
    (λ p. number_of b >>=
    (λ i. signed_of c >>= (λ x. signed_of d >>= (λ y. size_of e >>= (λ w. size_of f >>= (λ h.
    Some (shells.Area p i (rect x y w h))))))))
    else None

-- the shell's step of the words, the first of which names it
abbrev pub shell_of : List (List ℕ) → Option ShellStep
shell_of (k ∷ []) = one_shell_word k
shell_of (k ∷ a ∷ b ∷ []) = three_shell_words k a b
shell_of (k ∷ a ∷ b ∷ c ∷ []) = four_shell_words k a b c
shell_of (k ∷ a ∷ b ∷ c ∷ d ∷ []) = five_shell_words k a b c d
shell_of (k ∷ a ∷ b ∷ c ∷ d ∷ e ∷ f ∷ []) = seven_shell_words k a b c d e f
shell_of _ = None

-- the shell's step as a line of a session
abbrev pub in_session : Option ShellStep → Option Line
in_session step = step >>= (λ s. Some (lines.Session (sessions.Shell s)))

unfoldable pub one_session_word : List ℕ → Option Line
one_session_word k =
    if bytes_eq k (codes "end") then Some lines.End else in_session (one_shell_word k)

unfoldable pub two_session_words : List ℕ → List ℕ → Option Line
two_session_words k a =
    if bytes_eq k (codes "join")
    then role_of a >>= (λ role. Some (lines.Session (sessions.Join role)))
    else if bytes_eq k (codes "gone")
    then number_of a >>= (λ p. Some (lines.Session (sessions.Gone p)))
    else None

unfoldable pub three_session_words : List ℕ → List ℕ → List ℕ → Option Line
three_session_words k a b =
    if bytes_eq k (codes "bytes") then
    number_of a >>=
    (λ p. bytes_of piece_limit b >>= (λ bytes. Some (lines.Session (sessions.Bytes p bytes))))
    else if bytes_eq k (codes "take") then
    number_of a >>=
    (λ p. count_of piece_limit b >>= (λ n. Some (lines.Session (sessions.Take p n))))
    else in_session (three_shell_words k a b)

-- what follows the name of a header: the form, and the limits
unfoldable pub header_of : List ℕ → List ℕ → List ℕ → Option Line
header_of form a b =
    if bytes_eq form (codes "1") then
    count_of form_1_entry_limit a >>= (λ entries. count_of store_limit b >>= (λ store.
    Some (lines.Header (record { entries = entries; store = store; weight = form_1_weight }))))
    else None

unfoldable pub four_session_words : List ℕ → List ℕ → List ℕ → List ℕ → Option Line
four_session_words k a b c =
    if bytes_eq k (codes "session") then header_of a b c else in_session (four_shell_words k a b c)

-- the line of the words in a session, the first of which names it
abbrev pub session_of : List (List ℕ) → Option Line
session_of (k ∷ []) = one_session_word k
session_of (k ∷ a ∷ []) = two_session_words k a
session_of (k ∷ a ∷ b ∷ []) = three_session_words k a b
session_of (k ∷ a ∷ b ∷ c ∷ []) = four_session_words k a b c
session_of words = in_session (shell_of words)
