use Rattle.std.proofs.Common.{List, refl, inl, inr, sym, subst, ◌∙◌, ◌+◌, length, append-nil, arith}
use Rattle.std.specs.Arc.{arc_value}
use Rattle.serve_net.specs.declared.door.Door.{Door}
use Rattle.serve_run.specs.Started.{AreAccepted}
use Rattle.serve_run.proofs.LinksInOrder.{none_yet, none_came}
use Rattle.serve_run.proofs.StartsCounted.{no_starts}
use Rattle.serve_run.proofs.serve.serve_links.Goals as goal

pub returns-in-Err-clause-accepted : goal.returns-in-Err-clause-accepted
returns-in-Err-clause-accepted g c =
    let letters = c.args.asked.now.order.now in
    let base = length (g.N.Net.links c.args.net.now) + 1 in
    let started = g.W.Spawner.started c.args.spawner.now in record {
      count = 0;
      within = omega arith;
      doors = c.open_all.ensures.links ∙ sym (append-nil (g.N.Net.links c.args.net.now));
      started_are = none_came (arc_value c.args.hub.now) c.args.root.now c.args.root.now started started letters base 0
          (none_yet (arc_value c.args.hub.now) c.args.root.now started letters base c.requires.root);
      all = tt;
    }

pub returns-in-Err-clause-jobs : goal.returns-in-Err-clause-jobs
returns-in-Err-clause-jobs g c = no_starts c.args.spawner.now _ (λ is. absurd (cc))

pub returns-in-Ok-clause-accepted : goal.returns-in-Ok-clause-accepted
returns-in-Ok-clause-accepted g c =
    subst (λ (links : List Door). AreAccepted (arc_value c.args.hub.now) c.args.root.now c.accept_all.new.root
    (g.W.Spawner.started c.args.spawner.now) (g.W.Spawner.started c.accept_all.new.spawner) links
    (g.N.Net.links c.accept_all.new.net) c.args.asked.now.order.now c.accept_all.result)
    c.open_all.ensures.links c.accept_all.ensures.accepted

pub returns-in-Err-clause-opened : goal.returns-in-Err-clause-opened
returns-in-Err-clause-opened g c = record {
  count = c.in-Err.ensures.front.0;
  are = c.in-Err.ensures.front.1;
  all = inr (refl, c.open_all.ensures.links);
}

pub returns-in-Ok-clause-opened : goal.returns-in-Ok-clause-opened
returns-in-Ok-clause-opened g c = record {
  count = 3;
  are = c.accept_all.ensures.listens ∙ c.in-Ok.ensures.all;
  all = inl refl;
}
