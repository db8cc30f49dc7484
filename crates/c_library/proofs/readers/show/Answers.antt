use Rattle.std.proofs.Common.{ap, ◌∙◌}
use Rattle.c_library.specs.Shown.{label_or_0}
use Rattle.c_library.proofs.readers.show.Goals as goal

pub returns : goal.returns
returns c log waits s i = record {
  acts = c.acts.ensures log waits s i;
  focus = (c.label_or_0.ensures ∙ ap label_or_0 (c.focus.ensures log waits s)) i;
  holder = (c.label_or_0-2.ensures ∙ ap label_or_0 (c.holder.ensures log waits s)) i;
  serving = (c.label_or_0-3.ensures ∙ ap label_or_0 (c.serving.ensures log waits s)) i;
  standing = (c.label_or_0-4.ensures ∙ ap label_or_0 (c.standing.ensures log waits s)) i;
}
