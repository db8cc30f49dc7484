-- The grammar of an audit: the one spelling of each line, and which lines there are.
use Rattle.std.specs.Prelude.{ℕ, ◌^◌, ◌<◌, List, [], ◌∷◌, codes}
use Rattle.std.specs.List.{join_with_byte}
use Rattle.std.specs.Fmt.{decimal}
use Rattle.broker_steps.specs.Ranges.{piece_limit}
use Rattle.session_text.specs.declared.line.SessionLine.{SessionLine}
use Rattle.session_text.specs.declared.line.SessionLine.TheVariants as sessions
use Rattle.session_text.specs.SessionGrammar.{session_words, stamped_words, HasStampedLine, IsStamp}
use Rattle.session_text.specs.Words.{hex_word, IsBytesWithin}
use Rattle.audit_run.specs.declared.audit_line.AuditLine.{AuditLine}
use Rattle.audit_run.specs.declared.audit_line.AuditLine.TheVariants.{Step, Out}
use Rattle.audit_run.specs.declared.audit_line.AuditText.{AuditText}
use Rattle.audit_run.specs.declared.audit_line.AuditText.TheVariants as texts

-- the words of a line
abbrev pub audit_words : AuditText → List (List ℕ)
audit_words (texts.Line (Step stamp line)) = stamped_words stamp (session_words line)
audit_words (texts.Line (Out q bytes)) = codes "out" ∷ decimal q ∷ hex_word bytes ∷ []
audit_words texts.End = codes "end" ∷ []

-- the words, separated by one space
abbrev pub audit_spelling : AuditText → List ℕ
audit_spelling line = join_with_byte 32 (audit_words line)

-- the line is no take
abbrev pub IsNoTake : SessionLine → Type 0
IsNoTake (sessions.Take q n) = ⊥
IsNoTake _ = Unit {0}

-- The line holds only what a line of an audit can give.
abbrev pub HasAuditLine : AuditLine → Type 0
HasAuditLine (Step stamp line) = IsStamp stamp × HasStampedLine line × IsNoTake line
HasAuditLine (Out q bytes) = (q < 2 ^ 32) × IsBytesWithin piece_limit bytes

-- so does what is a line, and the end holds nothing
abbrev pub IsAuditText : AuditText → Type 0
IsAuditText (texts.Line line) = HasAuditLine line
IsAuditText texts.End = Unit {0}
