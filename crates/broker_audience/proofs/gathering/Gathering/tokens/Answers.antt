use Rattle.std.proofs.Common.{◌≡◌, ℕ, List, map, length, sym, ap, ◌∙◌, subst}
use Rattle.out_store.specs.Spacing.{IsSpaced}
use Rattle.broker_model.specs.Groups.{pair_of}
use Rattle.broker_model.specs.Stored.{AreSpaced}
use Rattle.broker_audience.specs.Gathered.{Gathered}
use Rattle.broker_audience.proofs.GatheredTokens.{pairs_stay}
use Rattle.broker_audience.proofs.gathering.Gathering.tokens.Goals as goal

pub returns : goal.returns
returns c =
    let tokens : c.deref.result.now ≡ map pair_of c.args.self.now.group.tokens =
    c.deref.ensures.value ∙ sym (pairs_stay c.self.inside.tokens.items)
    ∙ ap (λ (g : Gathered). map pair_of g.group.tokens) c.self.view_is in
    let spaced : AreSpaced c.args.self.now.group =
    subst (λ (g : Gathered). AreSpaced g.group) c.self.view_is c.self.invariant.3 in
    record {
      tokens = tokens;
      spaced = subst (λ (l : List (ℕ × ℕ)). IsSpaced 0 l (length c.args.self.now.group.bytes)) (sym tokens) spaced;
    }
