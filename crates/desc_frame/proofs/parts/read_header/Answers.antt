use Rattle.std.proofs.Common.{◌≡◌, rules, subst}
use Rattle.desc_frame.specs.Answers.{Gave}
use Rattle.desc_frame.specs.Frames.{header}
use Rattle.desc_frame.proofs.FrameParts.{header-read}
use Rattle.desc_frame.proofs.parts.read_header.Goals as goal

pub returns-then-is_within_limits-clause-whole : goal.returns-then-is_within_limits-clause-whole
returns-then-is_within_limits-clause-whole g c =
    let spelled : c.fill.new.part ≡ header c.read_u16-n.result c.read_u16-t.result =
    rw (c.read_u16-n.ensures, c.read_u16-t.ensures)
    (header-read c.fill.new.part c.fill.auto.part c.fill.ensures.bytes) in
    subst (Gave _ _ _ _) spelled c.in_ok-fill.ensures.whole

pub returns-else-is_within_limits-clause-ended : goal.returns-else-is_within_limits-clause-ended
returns-else-is_within_limits-clause-ended g c = (
  c.fill.new.part,
  c.in_ok-fill.ensures.whole,
  record {
    words = (search rules, search rules);
    bad = λ limits. let yes = c.is_within_limits.ensures.1 limits in let no = c.if-is_within_limits.false in cc;
    bytes = rw (c.read_u16-n.ensures, c.read_u16-t.ensures)
        (header-read c.fill.new.part c.fill.auto.part c.fill.ensures.bytes);
  },
)
