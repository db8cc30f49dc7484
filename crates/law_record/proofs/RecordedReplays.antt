-- A replay of a recorded session writes the transcript of its journal.
use Rattle.std.proofs.Common.{List}
use Rattle.session_text.specs.declared.line.Form.TheVariants.{Session2}
use Rattle.law_record.specs.Legal.{journal_of}
use Rattle.law_record.specs.RecordedLines.{StampedLine, spelled, header}
use Rattle.law_record.specs.RecordLaws.{lines_of_steps, stamps_of, text_of_steps, RecordedReplays}
use Rattle.law_record.proofs.LinesAnswered.{replays_to}
use Rattle.law_record.proofs.LinesLead.{lead}
use Rattle.law_record.proofs.TextsShort.{text_short}
use Rattle.law_record.proofs.LinesRead.{lines_mean, opens, text_lines, lines_recorded}

pub recorded_replays : RecordedReplays
recorded_replays limits steps given h =
    let all : List StampedLine = lines_of_steps limits steps given in
    let leads = lead limits steps given h.legal in
    let lines = lines_recorded limits steps given h in
    replays_to Session2 limits (text_of_steps limits steps given) (header limits) spelled all (journal_of limits steps)
    (record {
      few = text_short limits steps given h;
      lines = λ cut. text_lines cut limits (journal_of limits steps) (stamps_of limits steps given) h.limited lines;
      opening = opens limits h.limited;
      meant = lines_mean 0 all lines;
      goes = leads.goes;
      leads = leads.is;
    })
