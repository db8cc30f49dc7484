-- No line of a session has a line feed.
use Rattle.std.proofs.Common.{◌≡◌, ◌≢◌, ℕ, ◌^◌, ◌<◌, true, eqb, not, List, [], ◌∷◌, map, refl, arith}
use Rattle.std.specs.Prelude.{All, IsTrue}
use Rattle.std.specs.Fmt.{decimal, signed_decimal}
use Rattle.std.proofs.lemmas.Bool.{and_parts}
use Rattle.std.proofs.lemmas.List.Elements.{All-nil, All-cons, All-head, All-tail}
use lib.IntN.{ℤ, pos, negsuc}
use Rattle.wl_wire.specs.Lines.{LacksFeed}
use Rattle.relay_model.specs.declared.role.Role.{Role}
use Rattle.relay_model.specs.declared.role.Role.TheVariants.{App, Method, Keyed}
use Rattle.broker_steps.specs.declared.limits.Limits.{Limits}
use Rattle.broker_steps.specs.declared.step.ShellStep.{ShellStep}
use Rattle.broker_steps.specs.declared.step.ShellStep.TheVariants as shells
use Rattle.broker_steps.specs.Ranges.{is_size, IsLimits}
use Rattle.session_text.specs.declared.line.Form.TheVariants.{Session}
use Rattle.session_text.specs.declared.line.Line.TheVariants as forms
use Rattle.session_text.specs.declared.line.SessionLine.{SessionLine}
use Rattle.session_text.specs.declared.line.SessionLine.TheVariants as lines
use Rattle.session_text.specs.Grammar.{spelling}
use Rattle.session_text.specs.SessionGrammar.{shell_words, session_words, long_header_words, HasLinkLine, HasSessionLine, HasStampedLine, IsStamp}
use Rattle.session_text.specs.Words.{fits_i32, role_word}
use Rattle.session_text.proofs.LinesSplit.{lacks, AllLack, IsOutside, decimal_lacks, signed_lacks, hex_lacks, join_lacks}
use Rattle.session_text.proofs.SpelledSteps.{old_line}
use Rattle.session_text.proofs.WrittenNumbers.{mag_i32}
use Rattle.law_record.specs.RecordedLines.{StampedLine, spelled, header}

feed : IsOutside 10
feed = record { no_digit = λ h. omega arith; no_hex = refl; no_dash = refl }

-- the words of a line

number : (n : ℕ) → n < 2 ^ 32 → lacks 10 (decimal n) ≡ true
number n h = decimal_lacks 10 feed n (omega arith)

signed : (z : ℤ) → IsTrue (fits_i32 z) → lacks 10 (signed_decimal z) ≡ true
signed z h = let small = mag_i32 z h in signed_lacks 10 feed z (omega (arith, small))

size_fits : (z : ℤ) → IsTrue (is_size z) → IsTrue (fits_i32 z)
size_fits (pos n) h = h
size_fits (negsuc n) h = cc

size : (z : ℤ) → IsTrue (is_size z) → lacks 10 (signed_decimal z) ≡ true
size z h = signed z (size_fits z h)

shell_lacks : (step : ShellStep) → HasLinkLine step → AllLack 10 (shell_words step)
shell_lacks (shells.Focus p i) h = (refl, (number p h.0, (number i h.1, tt)))
shell_lacks shells.Unfocus h = (refl, tt)
shell_lacks (shells.Area p i r) h = (
  refl,
  (
    number p h.0,
    (
      number i h.1,
      (
        signed r.x h.2.0,
        (
          signed r.y h.2.1,
          (size r.width h.2.2, (size r.height h.2.3, tt)),
        ),
      ),
    ),
  ),
)
shell_lacks (shells.Screen z) h = (refl, (size z.width h.0, (size z.height h.1, tt)))
shell_lacks (shells.Key time key state) h =
    let small = h.2 in (refl, (number time h.0, (number key h.1, (number state (omega (arith, small)), tt))))
shell_lacks (shells.Mods mods) h = (
  refl,
  (
    number mods.depressed h.0,
    (number mods.latched h.1, (number mods.locked h.2, (number mods.group h.3, tt))),
  ),
)
shell_lacks (shells.Keymap keymap) h =
    (refl, (number keymap.format h.0, (number keymap.token h.1, (number keymap.size h.2, tt))))
shell_lacks (shells.Repeat repeat) h = (refl, (signed repeat.rate h.0, (signed repeat.delay h.1, tt)))
shell_lacks (shells.At moment) h = (refl, (decimal_lacks 10 feed moment h, tt))

tokens_lack : (tokens : List ℕ) → All (λ token. token < 2 ^ 32) tokens → AllLack 10 (map decimal tokens)
tokens_lack [] h = tt
tokens_lack (t ∷ tokens) h = (
  number t (All-head (λ token. token < 2 ^ 32) t tokens h),
  tokens_lack tokens (All-tail (λ token. token < 2 ^ 32) t tokens h),
)

role_lacks : (role : Role) → lacks 10 (role_word role) ≡ true
role_lacks App = refl
role_lacks Method = refl
role_lacks Keyed = refl

line_lacks : (line : SessionLine) → HasStampedLine line → AllLack 10 (session_words line)
line_lacks (lines.Join role) h = (refl, (role_lacks role, tt))
line_lacks (lines.Bytes p bytes) h = (refl, (number p h.0, (hex_lacks 10 feed bytes h.1.0, tt)))
line_lacks (lines.Gone p) h = (refl, (number p h, tt))
line_lacks (lines.Take p n) h =
    let few = h.1.1 in (refl, (number p h.0, (number n (omega (arith, few)), tt)))
line_lacks (lines.Tokens p tokens) h = (refl, (number p h.0, tokens_lack tokens h.1.1))
line_lacks (lines.Shell step) h = shell_lacks step h

-- the lines

pub lacks_feed : (w : List ℕ) → lacks 10 w ≡ true → LacksFeed w
lacks_feed [] h = All-nil (λ b. b ≢ 10)
lacks_feed (x ∷ w) h =
    let (first, others) = and_parts (not (eqb x 10)) (lacks 10 w) h in
    All-cons (λ b. b ≢ 10) x w (λ e. let same : eqb x 10 ≡ true = rw e refl in cc) (lacks_feed w others)

pub spelled_lacks : (l : StampedLine) → IsStamp l.0 → HasStampedLine l.1 → LacksFeed (spelled l)
spelled_lacks l s h =
    lacks_feed (spelled l)
    (join_lacks 10 (decimal l.0.moment ∷ decimal l.0.author ∷ session_words l.1) refl
    (decimal_lacks 10 feed l.0.moment s.0, (decimal_lacks 10 feed l.0.author s.1, line_lacks l.1 h)))

pub old_lacks : (line : SessionLine) → HasSessionLine line → LacksFeed (spelling Session (forms.Session line))
old_lacks line h =
    lacks_feed (spelling Session (forms.Session line))
    (join_lacks 10 (session_words line) refl (line_lacks line (old_line line h)))

pub header_lacks : (limits : Limits) → IsLimits limits → LacksFeed (header limits)
header_lacks limits h =
    let entries = h.0.1 in
    let store = h.1.1 in
    let weight = h.2.1 in
    lacks_feed (header limits)
    (join_lacks 10 (long_header_words limits) refl (
      refl,
      (
        refl,
        (
          number limits.entries (omega (arith, entries)),
          (number limits.store (omega (arith, store)), (number limits.weight (omega (arith, weight)), tt)),
        ),
      ),
    ))
