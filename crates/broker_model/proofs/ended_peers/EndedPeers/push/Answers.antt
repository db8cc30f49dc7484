use Rattle.std.proofs.Common.{◌+◌, ◌-◌, ◌++◌, ◌∷◌, [], List, Option, None, ap, sym, subst, ◌∙◌, arith}
use Rattle.std.specs.Vec.{vec_len, vec_capacity}
use Rattle.relay_model.specs.declared.act.EndCause.{EndCause}
use Rattle.broker_model.specs.Ends.{Ends, IsTidy, ended_from}
use Rattle.broker_model.proofs.PeersLeft.{one_more, tidy_more}
use Rattle.broker_model.proofs.ended_peers.EndedPeers.push.Goals as goal

pub push_reserved-requires : goal.push_reserved-requires
push_reserved-requires c =
    let room = ap (λ (e : Ends). e.room) c.self.view_is in
    omega (arith, c.requires, room)

pub invariant_of-self : goal.invariant_of-self
invariant_of-self c =
    let room = ap (λ (e : Ends). e.room) c.self.view_is in
    let places = vec_capacity c.self.inside.left - vec_len c.self.inside.left in
    subst
    (λ (causes : List (Option EndCause)). IsTidy (c.self.inside.alive + 1) causes c.self.inside.left.items places)
    (sym c.push_reserved.ensures.items)
    (tidy_more c.self.inside.alive places c.self.inside.causes.items c.self.inside.left.items c.self.invariant
    (omega (arith, c.requires, room)))

pub returns : goal.returns
returns c = record {
  put = ap (λ (causes : List (Option EndCause)). ended_from 1 causes c.self.inside.left.items)
      c.push_reserved.ensures.items
      ∙ one_more 1 c.self.inside.causes.items c.self.inside.left.items
      ∙ ap (λ (e : Ends). e.items ++ None ∷ []) c.self.view_is;
}
