use Rattle.std.proofs.Common.{rules, ◌≡◌, ◌+◌, sym, subst, Err}
use Rattle.broker_core.specs.declared.answers.JoinRefusal.TheVariants as join_refusals
use Rattle.turn_lock.specs.Pairs.{HasSeen}
use Rattle.hub_lock.specs.Passes.{PassSeat}
use Rattle.hub_lock.proofs.RootJoins.{never-many}
use Rattle.hub_lock.proofs.hub.Hub.join.Goals as goal

pub returns-clause-settled : goal.returns-clause-settled
returns-clause-settled g c n i =
    subst (λ (s : PassSeat). HasSeen s.seen n c.args.root.now.seen) (sym c.split-writer.ensures.left)
    (subst (λ (s : PassSeat). HasSeen s.seen n c.args.root.now.seen) (sym c.split-reader.ensures.left)
    (c.play_root.ensures.settled n i))

pub returns-in_err-peer-clause-few : goal.returns-in_err-peer-clause-few
returns-in_err-peer-clause-few g c small n is =
    let many : c.in-Joined.joined ≡ Err (join_refusals.TooManyPeers n) = search rules in
    never-many c.args.self.now.limits c.args.root.now c.play_root.new.root.seen c.args.role (c.made.result + 1)
    c.in-Joined.joined n c.play_root.ensures.first c.in-Joined.ensures.legal small many
