use Rattle.std.proofs.Common.{◌≡◌, sym, ◌∙◌, subst}
use Rattle.std.specs.FinMap as map
use Rattle.im_objects.specs.Objects.{Objects}
use Rattle.im_objects.proofs.TreeIsMap.{len_tree}
use Rattle.im_objects.proofs.table.Table.len.Goals as goal

pub returns : goal.returns
returns c =
    subst (λ (o : Objects). c.len.result ≡ map.len o.under) c.self.view_is
    (c.len.ensures.len ∙ sym (len_tree c.self.inside.objects c.len.ensures.ordered))
