use Rattle.std.proofs.Common.{◌++◌, length, ap, ◌∙◌, rules, arith}
use Rattle.std.specs.Prelude.{drop}
use Rattle.std.specs.List.{list_all}
use Rattle.std.specs.Char.{is_ascii}
use Rattle.std.specs.Fmt.{decimal}
use Rattle.wl_wire.specs.Texts.{has_no_zero}
use Rattle.lines_transcript.proofs.ShortLines.{number_short, number_is_plain, word_plain, spaced_set}
use Rattle.lines_transcript.proofs.short_line.number_before.Goals as goal

pub write_digits-at-requires : goal.write_digits-at-requires
write_digits-at-requires c =
    let short = number_short c.args.number (search rules) in
    (omega (arith, ap (λ n. length (decimal n)) c.from.ensures, short, c.requires.place), c.requires.within)

pub overflow_sub-at : goal.overflow_sub-at
overflow_sub-at c =
    let short = number_short c.args.number (search rules) in
    omega (arith, ap (λ n. length (decimal n)) c.from.ensures, short, c.requires.place, c.write_digits-at.ensures.start)

pub returns-clause-near : goal.returns-clause-near
returns-clause-near c =
    let short = number_short c.args.number (search rules) in
    omega (arith, ap (λ n. length (decimal n)) c.from.ensures, short, c.requires.place, c.write_digits-at.ensures.start)

pub returns-clause-written : goal.returns-clause-written
returns-clause-written c =
    let short = number_short c.args.number (search rules) in
    let long = ap (λ n. length (decimal n)) c.from.ensures in
    spaced_set c.write_digits-at.result c.write_digits-at.new.buf
    (decimal c.args.number ++ drop c.args.end c.args.room.now)
    (omega (arith, long, short, c.requires.place, c.write_digits-at.ensures.start))
    (omega (arith, c.write_digits-at.ensures.start, c.requires.within, c.write_digits-at.auto.buf))
    (c.write_digits-at.ensures.written ∙ ap (λ n. decimal n ++ drop c.args.end c.args.room.now) c.from.ensures)

pub returns-clause-ascii : goal.returns-clause-ascii
returns-clause-ascii c =
    let plain = word_plain (decimal c.args.number) (drop c.args.end c.args.room.now)
    (number_is_plain c.args.number (search rules))
    (record { ascii = c.requires.ascii; clean = c.requires.clean }) in
    ap (list_all is_ascii) (returns-clause-written c) ∙ plain.ascii

pub returns-clause-clean : goal.returns-clause-clean
returns-clause-clean c =
    let plain = word_plain (decimal c.args.number) (drop c.args.end c.args.room.now)
    (number_is_plain c.args.number (search rules))
    (record { ascii = c.requires.ascii; clean = c.requires.clean }) in
    ap has_no_zero (returns-clause-written c) ∙ plain.clean
