-- A printed step behind a stamp, and in form 1.
use Rattle.std.proofs.Common.{◌≡◌, ℕ, ◌≤◌, List, [], ◌∷◌, ◌++◌, length, Some, refl, sym, ap, ◌∙◌, arith}
use Rattle.std.specs.Prelude.{codes}
use Rattle.std.specs.List.{join_with_byte}
use Rattle.std.specs.Fmt.{decimal, digits}
use Rattle.broker_steps.specs.declared.stamp.Stamp.{Stamp}
use Rattle.broker_steps.specs.declared.step.Step.{Step}
use Rattle.broker_steps.specs.declared.step.Step.TheVariants as steps
use Rattle.broker_steps.specs.declared.step.PeerStep.TheVariants as peers
use Rattle.broker_steps.specs.declared.step.ShellStep.TheVariants as shells
use Rattle.session_text.specs.declared.line.Form.TheVariants.{Session, Session2}
use Rattle.session_text.specs.declared.line.Line.TheVariants as lines
use Rattle.session_text.specs.declared.line.SessionLine.{SessionLine}
use Rattle.session_text.specs.Grammar.{spelling}
use Rattle.session_text.specs.Reading.{line_of}
use Rattle.session_text.specs.SessionGrammar.{session_words, HasSessionLine, HasStampedLine, IsStamp}
use Rattle.session_text.specs.Steps.{step_line}
use Rattle.lines_transcript.specs.Printing.{Prints, IsOldStep, IsReadAgain, unstamped}
use Rattle.session_text.proofs.LinesReadBack.{reads_each, reads_only}
use Rattle.session_text.proofs.SpelledSteps.{line_some, old_line}

-- words with one more before them
join_more : (w : List ℕ) (ws : List (List ℕ)) → 1 ≤ length ws →
    join_with_byte 32 (w ∷ ws) ≡ w ++ 32 ∷ join_with_byte 32 ws
join_more w [] some = absurd (omega (arith, some))
join_more w (v ∷ ws) some = refl

-- a stamp before the bytes of a line
pub stamped_spelling : (stamp : Stamp) (line : SessionLine) →
    spelling Session2 (lines.Stamped stamp line)
    ≡ decimal stamp.moment ++ 32 ∷ (decimal stamp.author ++ 32 ∷ spelling Session (lines.Session line))
stamped_spelling stamp line =
    ap (λ l. decimal stamp.moment ++ 32 ∷ l) (join_more (decimal stamp.author) (session_words line) (line_some line))

pub stamped_read : (stamp : Stamp) (line : SessionLine) (bytes : List ℕ) → IsStamp stamp → HasStampedLine line
    → bytes ≡ decimal stamp.moment ++ 32 ∷ (decimal stamp.author ++ 32 ∷ spelling Session (lines.Session line))
    → line_of Session2 bytes ≡ Some (lines.Stamped stamp line)
stamped_read stamp line bytes s h is =
    ap (line_of Session2) (is ∙ sym (stamped_spelling stamp line))
    ∙ reads_each Session2 (lines.Stamped stamp line) (s, h)

-- the stamp of nothing known
front_zero : (bytes : List ℕ) → codes "0 0 " ++ bytes ≡ decimal 0 ++ 32 ∷ (decimal 0 ++ 32 ∷ bytes)
unfolding digits
front_zero bytes = refl

pub unstamped_read : (line : SessionLine) (bytes : List ℕ) → HasStampedLine line →
    bytes ≡ spelling Session (lines.Session line)
    → line_of Session2 (codes "0 0 " ++ bytes) ≡ Some (lines.Stamped unstamped line)
unstamped_read line bytes h is =
    stamped_read unstamped line (codes "0 0 " ++ bytes) (omega arith, omega arith) h
    (ap (λ b. codes "0 0 " ++ b) is ∙ front_zero (spelling Session (lines.Session line)))

-- each line of form 1 is one of form 2 behind the stamp of nothing known
pub migrated_read : (line : SessionLine) (bytes : List ℕ) → line_of Session bytes ≡ Some (lines.Session line)
    → line_of Session2 (codes "0 0 " ++ bytes) ≡ Some (lines.Stamped unstamped line)
migrated_read line bytes e =
    let known = reads_only Session bytes (lines.Session line) e in
    unstamped_read line bytes (old_line line known.1) known.0

-- a printed step that form 1 has is a line of it
old_step : (step : Step) → IsOldStep step → HasStampedLine (step_line step) → HasSessionLine (step_line step)
old_step (steps.Join role) o h = h
old_step (steps.Peer p (peers.Message id opcode body)) o h = h
old_step (steps.Peer p (peers.BadSize head)) o h = h
old_step (steps.Peer p (peers.Tokens tokens)) o h = absurd o
old_step (steps.Peer p peers.Gone) o h = h
old_step (steps.Shell (shells.Focus p i)) o h = h
old_step (steps.Shell shells.Unfocus) o h = h
old_step (steps.Shell (shells.Area p i r)) o h = h
old_step (steps.Shell (shells.Screen z)) o h = h
old_step (steps.Shell (shells.Key time key state)) o h = h
old_step (steps.Shell (shells.Mods mods)) o h = h
old_step (steps.Shell (shells.Keymap keymap)) o h = h
old_step (steps.Shell (shells.Repeat repeat)) o h = h
old_step (steps.Shell (shells.At moment)) o h = absurd o
old_step (steps.Take p n) o h = h

pub printed_again : (step : Step) (bytes : List ℕ) → Prints bytes (step_line step) → IsReadAgain step bytes
printed_again step bytes h = record {
  old = λ o. ap (line_of Session) h.0 ∙ reads_each Session (lines.Session (step_line step)) (old_step step o h.1);
  stamped = unstamped_read (step_line step) bytes h.1 h.0;
}
