-- What the words of a line read as in a session of form 2, and on a shell link.
use Rattle.std.specs.Prelude.{ℕ, ◌&&◌, nat_le, if◌then◌else◌, List, [], ◌∷◌, length, codes, Option, Some, None}
use Rattle.std.specs.Str.{bytes_eq}
use Rattle.broker_steps.specs.declared.step.ShellStep.{ShellStep}
use Rattle.broker_steps.specs.declared.step.ShellStep.TheVariants as shells
use Rattle.session_text.specs.declared.line.Line.{Line}
use Rattle.session_text.specs.declared.line.Line.TheVariants as lines
use Rattle.session_text.specs.declared.line.SessionLine.{SessionLine}
use Rattle.session_text.specs.declared.line.SessionLine.TheVariants as sessions
use Rattle.broker_steps.specs.Ranges.{token_limit, entry_limit, store_limit, weight_limit}
use Rattle.session_text.specs.Words.{◌>>=◌, kept, number_of, numbers_of, long_number_of, count_of}
use Rattle.session_text.specs.SessionReading.{shell_of, session_of}

-- a moment, behind the word that names it
abbrev pub moment_of : List (List ℕ) → Option ShellStep
moment_of (t ∷ []) = long_number_of t >>= (λ moment. Some (shells.At moment))
moment_of _ = None

-- the step of a shell link's line: a moment, or what a session has of the shell
unfoldable pub link_of : List (List ℕ) → Option ShellStep
link_of [] = None
link_of (k ∷ words) = if bytes_eq k (codes "at") then moment_of words else shell_of (k ∷ words)

-- from one to 256 tokens
unfoldable pub tokens_of : List (List ℕ) → Option (List ℕ)
tokens_of words =
    kept (λ tokens. nat_le 1 (length tokens) && nat_le (length tokens) token_limit)
    (numbers_of words)

-- a peer's tokens, behind the word that names them
abbrev pub tokens_line_of : List (List ℕ) → Option SessionLine
tokens_line_of [] = None
tokens_line_of (p ∷ words) =
    number_of p >>= (λ peer. tokens_of words >>= (λ tokens. Some (sessions.Tokens peer tokens)))

-- a line of form 1 that is neither the header nor the end
abbrev pub plain_line : Option Line → Option SessionLine
plain_line (Some (lines.Session line)) = Some line
plain_line _ = None

abbrev pub shell_line : Option ShellStep → Option SessionLine
shell_line step = step >>= (λ s. Some (sessions.Shell s))

-- what stands behind a stamp
unfoldable pub behind_stamp : List (List ℕ) → Option SessionLine
behind_stamp [] = None
behind_stamp (k ∷ words) =
    if bytes_eq k (codes "tokens") then tokens_line_of words
    else if bytes_eq k (codes "at") then shell_line (moment_of words)
    else plain_line (session_of (k ∷ words))

-- a stamp, and what stands behind it
abbrev pub stamped_of : List (List ℕ) → Option Line
stamped_of (m ∷ a ∷ words) =
    long_number_of m >>= (λ moment. long_number_of a >>= (λ author. behind_stamp words >>= (λ line.
    Some (lines.Stamped (record { moment = moment; author = author }) line))))
stamped_of _ = None

-- what follows the name of a header: the form, and the limits
unfoldable pub long_header_of : List ℕ → List ℕ → List ℕ → List ℕ → Option Line
long_header_of form a b c =
    if bytes_eq form (codes "2") then
    count_of entry_limit a >>=
    (λ entries. count_of store_limit b >>= (λ store. count_of weight_limit c >>= (λ weight.
    Some (lines.Header (record { entries = entries; store = store; weight = weight })))))
    else None

abbrev pub header_words_of : List (List ℕ) → Option Line
header_words_of (form ∷ a ∷ b ∷ c ∷ []) = long_header_of form a b c
header_words_of _ = None

abbrev pub end_of : List (List ℕ) → Option Line
end_of [] = Some lines.End
end_of _ = None

-- the line of the words in a session of form 2
unfoldable pub session_2_of : List (List ℕ) → Option Line
session_2_of [] = None
session_2_of (k ∷ words) =
    if bytes_eq k (codes "end") then end_of words
    else if bytes_eq k (codes "session") then header_words_of words
    else stamped_of (k ∷ words)
