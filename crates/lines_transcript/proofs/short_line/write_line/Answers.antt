use Rattle.std.proofs.Common.{◌≡◌, ◌++◌, ◌-◌, length, ap, sym, subst, ◌∙◌, take_all, length-drop, rules, arith}
use Rattle.std.specs.Prelude.{IsTrue, drop}
use Rattle.std.specs.Fmt.{decimal}
use Rattle.std.specs.String.{string_bytes}
use Rattle.std.proofs.lemmas.Str.{IsUtf8-from_ascii}
use Rattle.std.proofs.lemmas.Grind.{common_steps}
use Rattle.wl_wire.specs.Texts.{has_no_zero}
use Rattle.lines_transcript.proofs.ShortLines.{ascii_is, before_plain, number_short, number_is_plain}
use Rattle.lines_transcript.proofs.short_line.write_line.Goals as goal

pub write_digits-begin-requires : goal.write_digits-begin-requires
write_digits-begin-requires c =
    let short = number_short c.args.number (search rules) in
    (omega (arith, ap (λ n. length (decimal n)) c.from.ensures, short, c.requires.place), c.requires.within)

pub from_utf8_unchecked-requires : goal.from_utf8_unchecked-requires
from_utf8_unchecked-requires c =
    let plain = before_plain (decimal c.args.number) (drop c.args.at c.args.room.now)
    (number_is_plain c.args.number (search rules))
    (record { ascii = c.requires.ascii; clean = c.requires.clean }) in
    let stands =
    c.write_digits-begin.ensures.written ∙ ap (λ n. decimal n ++ drop c.args.at c.args.room.now) c.from.ensures in
    let w = c.write_digits-begin in
    IsUtf8-from_ascii _
    (rw (
      take_all (length w.new.buf - w.result) (drop w.result w.new.buf)
          (omega (arith, length-drop w.result w.new.buf)),
      stands,
    ) (ascii_is _ plain.ascii))

pub returns-clause-clean : goal.returns-clause-clean
returns-clause-clean c =
    let plain = before_plain (decimal c.args.number) (drop c.args.at c.args.room.now)
    (number_is_plain c.args.number (search rules))
    (record { ascii = c.requires.ascii; clean = c.requires.clean }) in
    let is : string_bytes c.push_str.new.self ≡ decimal c.args.number ++ drop c.args.at c.args.room.now =
    grind (arith, common_steps) in
    subst (λ b. IsTrue (has_no_zero b)) (sym is) plain.clean
