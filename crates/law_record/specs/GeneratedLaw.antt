-- The law of a generated session: it replays to the journal that is counted of it.
use Rattle.std.specs.Prelude.{◌≡◌, ℕ, length}
use Rattle.session_gen.specs.Generated.{step_count}
use Rattle.program_gen.specs.Counts.{counts_of}
use Rattle.program_gen.specs.Journals.{limits, journal_of}
use Rattle.program_gen.specs.Texts.{text_of}
use Rattle.law_record.specs.RecordLaws.{ReplaysTo}

-- `replay` of the session of each n, as `gen n text` writes it, writes the transcript of its
-- journal and `end N`, where N is the number of entries that `gen n` tells
abbrev pub GeneratedReplays : Type 0
GeneratedReplays =
    (n : ℕ) →
    ReplaysTo limits (text_of n) (journal_of n step_count)
    × ((counts_of n).entries ≡ length (journal_of n step_count))
