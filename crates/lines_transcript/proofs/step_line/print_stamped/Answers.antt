use Rattle.std.proofs.Common.{◌≡◌, ◌∷◌, ◌++◌, ◌∙◌, sym, ap, rules}
use Rattle.std.specs.String.{string_bytes}
use Rattle.std.specs.Fmt.{decimal}
use Rattle.session_text.specs.declared.line.Form.TheVariants.{Session2}
use Rattle.session_text.specs.declared.line.Line.TheVariants as lines
use Rattle.session_text.specs.Grammar.{spelling}
use Rattle.session_text.specs.SessionGrammar.{IsStamp}
use Rattle.session_text.specs.Steps.{step_line}
use Rattle.session_text.proofs.SpelledStamps.{stamped_parts}
use Rattle.lines_transcript.proofs.StampedSteps.{stamped_spelling, stamped_read}
use Rattle.lines_transcript.proofs.step_line.print_stamped.Goals as goal

pub finished-requires : goal.finished-requires
finished-requires c =
    let stamp = c.args.stamp in
    let line = step_line c.args.step.now in
    let is : string_bytes c.in_ok-stamped.stamped
    ≡ decimal stamp.moment ++ 32 ∷ (decimal stamp.author ++ 32 ∷ string_bytes c.in_ok-line.line) = search rules in
    let text : string_bytes c.in_ok-stamped.stamped ≡ spelling Session2 (lines.Stamped stamp line) =
    is ∙ ap (λ l. decimal stamp.moment ++ 32 ∷ (decimal stamp.author ++ 32 ∷ l)) c.in_ok-line.ensures.0
    ∙ sym (stamped_spelling stamp line) in
    let parts = stamped_parts stamp line (search rules, search rules) c.in_ok-line.ensures.1 in
    rw text parts.clean

pub returns-clause-value : goal.returns-clause-value
returns-clause-value c =
    let stamp = c.args.stamp in
    let line = step_line c.args.step.now in
    let is : string_bytes c.in_ok-stamped.stamped
    ≡ decimal stamp.moment ++ 32 ∷ (decimal stamp.author ++ 32 ∷ string_bytes c.in_ok-line.line) = search rules in
    c.finished.ensures ∙ is
    ∙ ap (λ l. decimal stamp.moment ++ 32 ∷ (decimal stamp.author ++ 32 ∷ l)) c.in_ok-line.ensures.0
    ∙ sym (stamped_spelling stamp line)

pub returns-clause-read : goal.returns-clause-read
returns-clause-read c =
    let stamp = c.args.stamp in
    let line = step_line c.args.step.now in
    let is : string_bytes c.in_ok-stamped.stamped
    ≡ decimal stamp.moment ++ 32 ∷ (decimal stamp.author ++ 32 ∷ string_bytes c.in_ok-line.line) = search rules in
    let s : IsStamp stamp = (search rules, search rules) in
    stamped_read stamp line c.finished.result s c.in_ok-line.ensures.1
    (c.finished.ensures ∙ is
    ∙ ap (λ l. decimal stamp.moment ++ 32 ∷ (decimal stamp.author ++ 32 ∷ l)) c.in_ok-line.ensures.0)
