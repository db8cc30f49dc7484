use Rattle.std.proofs.Common.{rules, subst}
use Rattle.desc_frame.specs.Answers.{Gave}
use Rattle.desc_frame.proofs.FrameParts.{spelled_tokens-read}
use Rattle.desc_frame.proofs.parts.read_tokens.Goals as goal

pub returns-clause-whole : goal.returns-clause-whole
returns-clause-whole g c =
    subst (Gave _ _ _ _)
    (spelled_tokens-read c.read_u32_into.new.dst c.fill.new.part
    (search rules) c.fill.ensures.bytes c.read_u32_into.ensures) c.in_ok-fill.ensures.whole
