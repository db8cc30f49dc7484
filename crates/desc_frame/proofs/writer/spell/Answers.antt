use Rattle.std.proofs.Common.{◌≡◌, ◌≤◌, ◌++◌, length, ap, ◌∙◌, arith, rules}
use Rattle.std.proofs.lemmas.List.{append_assoc}
use Rattle.std.proofs.lemmas.Slice.{take-put_mid}
use Rattle.desc_frame.specs.Frames.{header, spelled_tokens}
use Rattle.desc_frame.proofs.writer.spell.Goals as goal

pub returns-clause-spelled : goal.returns-clause-spelled
returns-clause-spelled c =
    let head = c.spell_head-head.result in
    let bytes = c.args.bytes.now in
    let whole = c.spell_head-head.new.head in
    let same : c.copy_from_slice.new.self ≡ bytes = search rules in
    let room : head ≤ length whole = search rules in
    take-put_mid head _ whole c.copy_from_slice.new.self _ (omega (arith, ap length same)) room
    ∙ ap (λ l. l ++ c.copy_from_slice.new.self) c.spell_head-head.ensures.spelled
    ∙ ap (λ l. (header (length bytes) (length c.args.tokens.now) ++ spelled_tokens c.args.tokens.now) ++ l) same
    ∙ append_assoc (header (length bytes) (length c.args.tokens.now)) (spelled_tokens c.args.tokens.now) bytes
