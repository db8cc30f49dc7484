use Rattle.std.proofs.Common.{◌∙◌, ap, rules}
use Rattle.std.specs.List.{list_all}
use Rattle.std.specs.Char.{is_ascii}
use Rattle.wl_wire.specs.Texts.{has_no_zero}
use Rattle.session_text.specs.Words.{hex_word}
use Rattle.lines_transcript.proofs.ShortLines.{word_plain, hex_plain, none_plain}
use Rattle.lines_transcript.proofs.short_line.write_group.Goals as goal

pub number_before-at-requires-clause-ascii : goal.number_before-at-requires-clause-ascii
number_before-at-requires-clause-ascii c =
    let plain = word_plain (hex_word c.args.group.now) _
    (hex_plain c.args.group.now c.requires.some (search rules)) none_plain in
    ap (list_all is_ascii) c.hex_before-at.ensures.written ∙ plain.ascii

pub number_before-at-requires-clause-clean : goal.number_before-at-requires-clause-clean
number_before-at-requires-clause-clean c =
    let plain = word_plain (hex_word c.args.group.now) _
    (hex_plain c.args.group.now c.requires.some (search rules)) none_plain in
    ap has_no_zero c.hex_before-at.ensures.written ∙ plain.clean
