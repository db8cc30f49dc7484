use Rattle.std.proofs.Common.{◌≡◌, ◌+◌, ◌*◌, ◌%◌, ◌<◌, length, take, get_or, slice_set, arith, refl, ap, ◌∙◌}
use Rattle.std.proofs.lemmas.List.{length-set}
use Rattle.std.proofs.lemmas.Nat.{le_or_l, le_or_r}
use Rattle.hex.specs.Hex.{encode_lower}
use Rattle.session_text.specs.Words.{value_of}
use Rattle.session_text.proofs.LowerDigits.{bytes_set, read_more}
use Rattle.session_text.proofs.hex_digits.decode_at.Goals as goal

pub returns : goal.returns
returns c =
    let word = c.args.word.now in
    let bytes = c.args.bytes.now in
    let at = c.args.at in
    let value = c.high_value_of.result + c.value_of.result in
    record {
      long = length-set bytes at (value % 256);
      read = λ small before.
          let two : value < 256 = omega (arith, le_or_r c.args.all value) in
          let same : value ≡ value % 256 = omega arith in
          read_more word bytes at value c.requires.pairs c.requires.place
          (ap (λ x. x + c.value_of.result) c.high_value_of.ensures
          ∙ ap (λ x. 16 * value_of (get_or word (2 * at) 0) + x) c.value_of.ensures) two before
          ∙ ap (λ x. encode_lower (take (at + 1) (slice_set bytes at x))) same;
      more = le_or_l c.args.all value;
      bytes = bytes_set bytes at (value % 256) c.requires.place (omega arith) c.requires.bytes;
    }
