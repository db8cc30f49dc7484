use Rattle.std.proofs.Common.{◌≡◌, ◌++◌, map}
use Rattle.std.specs.Prelude.{IsTrue, string_bytes, take}
use Rattle.wl_wire.specs.Texts.{has_no_zero}
use Rattle.lines_transcript.specs.Told.{spaced}
use Rattle.lines_transcript.specs.Transcript.{token_word}
use Rattle.lines_transcript.proofs.transcript_line.write_words.Given as goal

-- the words before the tokens, and the tokens so far
abbrev pub invariant-loop-offset : goal.invariant-loop-offset
invariant-loop-offset l = record {
  added : string_bytes l.line ≡ string_bytes l.initial.line ++ spaced (map token_word (take l.offset-index l.tokens));
  clean : IsTrue (has_no_zero (string_bytes l.line));
}
