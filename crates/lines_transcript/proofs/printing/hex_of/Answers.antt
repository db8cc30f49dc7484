use Rattle.std.proofs.Common.{rules}
use Rattle.session_text.proofs.LinesSplit.{zero, encoded_lacks}
use Rattle.lines_transcript.proofs.printing.hex_of.Goals as goal

pub returns-in_ok-encode-clause-clean : goal.returns-in_ok-encode-clause-clean
returns-in_ok-encode-clause-clean c = rw c.in_ok-encode.ensures (encoded_lacks 0 zero c.args.bytes.now (search rules))
