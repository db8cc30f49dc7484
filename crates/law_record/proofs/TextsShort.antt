-- A recorded session has no more bytes than `replay` reads, whatever its limits.
use Rattle.std.proofs.Common.{◌≡◌, ℕ, ◌+◌, ◌*◌, ◌^◌, ◌<◌, ◌≤◌, List, [], ◌∷◌, drop, length, map, ap, ◌∙◌, arith}
use Rattle.std.specs.Prelude.{All, codes}
use Rattle.std.specs.List.{AllByRecursion}
use Rattle.std.specs.Fmt.{decimal}
use Rattle.std.proofs.lemmas.List.{map-append}
use Rattle.std.proofs.lemmas.List.Elements.{All-head, All-tail}
use Rattle.broker_steps.specs.declared.limits.Limits.{Limits}
use Rattle.broker_steps.specs.declared.stamp.Stamp.{Stamp}
use Rattle.broker_steps.specs.declared.step.PeerStep.TheVariants as peers
use Rattle.broker_steps.specs.declared.step.ShellStep.{ShellStep}
use Rattle.broker_steps.specs.declared.step.ShellStep.TheVariants as shells
use Rattle.broker_steps.specs.declared.step.Step.{Step}
use Rattle.broker_steps.specs.declared.step.Step.TheVariants as steps
use Rattle.session_text.specs.SessionGrammar.{shell_words, session_words, stamped_words, HasLinkLine, IsStamp}
use Rattle.session_text.specs.Steps.{message_bytes, step_line}
use Rattle.session_text.proofs.LinesSplit.{total, length-join}
use Rattle.session_text.proofs.SpelledStamps.{long_header_parts}
use Rattle.session_text.proofs.WordKinds.{numbers, long_numbers, signeds, sizes, states, roles}
use Rattle.session_text.proofs.WordsAreTexts.{length-hex_word}
use Rattle.broker_model.specs.declared.journal.Entry.{Entry}
use Rattle.broker_model.specs.Limits.{weight_of, weight}
use Rattle.broker_core.specs.Broker.{entry_of}
use Rattle.broker_core.proofs.AliveAfterEntry.{weight_cons, same_settled}
use Rattle.program_run.specs.declared.reading.TheConstants.{INPUT_LIMIT}
use Rattle.program_run.specs.Lines.{size_of}
use Rattle.program_run.proofs.InputSplits.{length_of, size_both}
use Rattle.law_record.specs.Legal.{journal_of, IsLegal, AreLegal, IsLegalSession}
use Rattle.law_record.specs.RecordedLines.{StampedLine, spelled}
use Rattle.law_record.specs.RecordLaws.{lines_of_steps, stamps_of, text_of_steps}
use Rattle.law_record.proofs.JournalsWithin.{are_within}
use Rattle.law_record.proofs.LinesRead.{all_lines, text_is, other_stamps, last_line_is}
use Rattle.law_record.proofs.StepsRecorded.{stamp_at, one_more_step}

-- the words of a line

shell_short : (step : ShellStep) → HasLinkLine step → total (shell_words step) ≤ 80
shell_short (shells.Focus p i) h = (let a = numbers.short p h.0 in let b = numbers.short i h.1 in omega (arith, a, b))
shell_short shells.Unfocus h = omega arith
shell_short (shells.Area p i r) h =
    let a = numbers.short p h.0 in
    let b = numbers.short i h.1 in
    let x = signeds.short r.x h.2.0 in
    let y = signeds.short r.y h.2.1 in
    let w = sizes.short r.width h.2.2 in
    let t = sizes.short r.height h.2.3 in
    omega (arith, a, b, x, y, w, t)
shell_short (shells.Screen z) h =
    (let w = sizes.short z.width h.0 in let t = sizes.short z.height h.1 in omega (arith, w, t))
shell_short (shells.Key time key state) h =
    let a = numbers.short time h.0 in
    let b = numbers.short key h.1 in
    let c = states.short state h.2 in
    omega (arith, a, b, c)
shell_short (shells.Mods mods) h =
    let a = numbers.short mods.depressed h.0 in
    let b = numbers.short mods.latched h.1 in
    let c = numbers.short mods.locked h.2 in
    let d = numbers.short mods.group h.3 in
    omega (arith, a, b, c, d)
shell_short (shells.Keymap keymap) h =
    let a = numbers.short keymap.format h.0 in
    let b = numbers.short keymap.token h.1 in
    let c = numbers.short keymap.size h.2 in
    omega (arith, a, b, c)
shell_short (shells.Repeat repeat) h =
    (let a = signeds.short repeat.rate h.0 in let b = signeds.short repeat.delay h.1 in omega (arith, a, b))
shell_short (shells.At moment) h = (let a = long_numbers.short moment h in omega (arith, a))

tokens_short : (tokens : List ℕ) → All (λ token. token < 2 ^ 32) tokens →
    total (map decimal tokens) ≤ 11 * length tokens
tokens_short [] h = omega arith
tokens_short (t ∷ tokens) h =
    let one = numbers.short t (All-head (λ token. token < 2 ^ 32) t tokens h) in
    let rest = tokens_short tokens (All-tail (λ token. token < 2 ^ 32) t tokens h) in
    omega (arith, one, rest)

line_short : (limits : Limits) (step : Step) (older : List Entry) → IsLegal limits older step →
    total (session_words (step_line step)) ≤ 100 + 3 * weight_of (entry_of step)
line_short limits (steps.Join role) older h = (let a = roles.short role tt in omega (arith, a))
line_short limits (steps.Peer q (peers.Message id opcode body)) older h =
    let bytes : List ℕ = message_bytes id opcode body in
    let long : length bytes ≡ 8 + length body = omega arith in
    let a = numbers.short q h.line.0 in
    let b = length-hex_word (length bytes) bytes (omega arith) in
    omega (arith, a, b, long)
line_short limits (steps.Peer q (peers.BadSize head)) older h =
    let a = numbers.short q h.line.0 in
    let b = length-hex_word 8 head (let eight = h.can.1.1 in omega (arith, eight)) in
    omega (arith, a, b)
line_short limits (steps.Peer q (peers.Tokens tokens)) older h =
    let a = numbers.short q h.line.0 in
    let b = tokens_short tokens h.line.1.1 in
    omega (arith, a, b)
line_short limits (steps.Peer q peers.Gone) older h = (let a = numbers.short q h.line in omega (arith, a))
line_short limits (steps.Shell step) older h = (let a = shell_short step h.line in omega (arith, a))
line_short limits (steps.Take q n) older h =
    let a = numbers.short q h.line.0 in
    let b = numbers.short n (let few = h.line.1.1 in omega (arith, few)) in
    omega (arith, a, b)

-- the lines

spelled_short : (l : StampedLine) → IsStamp l.0 → length (spelled l) ≤ 42 + total (session_words l.1)
spelled_short l s =
    let joined = length-join (stamped_words l.0 (session_words l.1)) in
    let a = long_numbers.short l.0.moment s.0 in
    let b = long_numbers.short l.0.author s.1 in
    omega (arith, joined, a, b)

lines_short : (limits : Limits) (steps : List Step) (given : List Stamp) → AreLegal limits steps →
    AllByRecursion IsStamp given →
    size_of (map spelled (lines_of_steps limits steps given))
    ≤ 143 * length steps + 3 * weight (journal_of limits steps)
lines_short limits [] given legal stamped = omega arith
lines_short limits (step ∷ older) given legal stamped =
    let journal : List Entry = journal_of limits older in
    let all : List StampedLine = lines_of_steps limits older (drop 1 given) in
    let l : StampedLine = (stamp_at step journal given, step_line step) in
    let before = lines_short limits older (drop 1 given) legal.1 (other_stamps given stamped) in
    let line = last_line_is limits step older given legal stamped in
    let one = spelled_short l line.stamp in
    let words = line_short limits step journal legal.0 in
    let is : size_of (map spelled (lines_of_steps limits (step ∷ older) given))
    ≡ size_of (map spelled all) + size_of (spelled l ∷ []) =
    ap (λ (ls : List StampedLine). size_of (map spelled ls)) (one_more_step step limits.store journal given).lines
    ∙ ap size_of (map-append spelled all (l ∷ []))
    ∙ size_both (map spelled all) (spelled l ∷ []) in
    let weighs = (same_settled limits.store (entry_of step ∷ journal)).weighs ∙ weight_cons (entry_of step) journal in
    omega (arith, before, one, words, is, weighs)

-- all of it

pub text_short : (limits : Limits) (steps : List Step) (given : List Stamp) → IsLegalSession limits steps given →
    length (text_of_steps limits steps given) ≤ INPUT_LIMIT
text_short limits steps given h =
    let all : List StampedLine = lines_of_steps limits steps given in
    let within = are_within limits steps h.legal in
    let counted = within.counted in
    let light = within.light in
    let few = within.few in
    let most = h.limited.0.1 in
    let heaviest = h.limited.2.1 in
    let first = (long_header_parts limits h.limited).within in
    let body = lines_short limits steps given h.legal h.stamped in
    let both = size_both (map spelled all) (codes "end" ∷ []) in
    let is = ap length (text_is limits (journal_of limits steps) (stamps_of limits steps given))
    ∙ length_of (all_lines limits all) in
    omega (arith, counted, light, few, most, heaviest, first, body, both, is)
