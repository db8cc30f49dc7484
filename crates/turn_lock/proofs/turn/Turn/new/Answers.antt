use Rattle.std.proofs.Common.{rules, ◌≡◌, ◌∷◌, [], Some, refl}
use Rattle.turn_lock.proofs.StepsKeepRule.{opens}
use Rattle.turn_lock.proofs.turn.Turn.new.Goals as goal

pub new-requires : goal.new-requires
new-requires g c = let e : c.push.new.self.items ≡ Some c.args.story ∷ [] = search rules in
    rw (e, c.of-about.ensures) (opens g.S.Story.constant g.S.Story.history _ c.args.story refl c.requires)
