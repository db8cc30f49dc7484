use Rattle.std.proofs.Common.{sym, ap, subst, inl, inr, ⊎_elim, ◌∙◌, ◌+◌, ◌++◌, length, map, take, drop, arith}
use Rattle.std.specs.Arc.{arc_value}
use Rattle.turn_lock.specs.Pairs.{own}
use Rattle.hub_lock.specs.Passes.{HubId, PassSeat}
use Rattle.serve_words.specs.Asked.{asked as asked'}
use Rattle.serve_run.specs.LinkJobs.{AreOnHub, job_tagged}
use Rattle.serve_run.specs.Ended.{IsEnded}
use Rattle.serve_run.specs.Opened.{AreOpened}
use Rattle.serve_run.specs.Started.{IsRootOf, LinksStarted}
use Rattle.serve_run.proofs.StartsCounted.{rose_until, stay_open}
use Rattle.serve_run.proofs.HistoryCopied.{fresh_root, ours_of}
use Rattle.serve_run.proofs.LinksInOrder.{passes_few}
use Rattle.serve_run.proofs.LawOfServer.{law_of}
use Rattle.serve_run.proofs.serve.serve_by.Goals as goal

pub serve_links-accepted-requires-clause-root : goal.serve_links-accepted-requires-clause-root
serve_links-accepted-requires-clause-root g c = fresh_root (arc_value c.args.hub.now) c.args.root.now c.requires.new

pub serve_links-accepted-requires-clause-room : goal.serve_links-accepted-requires-clause-room
serve_links-accepted-requires-clause-room g c =
    let next = ap (λ (s : PassSeat). s.next) c.requires.new in let few = c.requires.order in omega arith

pub serve_links-accepted-requires-clause-few : goal.serve_links-accepted-requires-clause-few
serve_links-accepted-requires-clause-few g c =
    let none = ap (λ (s : PassSeat). length (own 0 s.seen)) c.requires.new in
    let few = c.requires.order in omega arith

pub finish_run-requires-clause-root : goal.finish_run-requires-clause-root
finish_run-requires-clause-root g c =
    subst (λ (h : HubId). IsRootOf h c.serve_links-accepted.new.root) (sym c.deref.ensures)
    c.serve_links-accepted.ensures.accepted.started_are.root_is

pub finish_run-requires-clause-ours : goal.finish_run-requires-clause-ours
finish_run-requires-clause-ours g c =
    let e = c.serve_links-accepted.ensures in
    let started = g.W.Spawner.started c.serve_links-accepted.new.spawner in
    let before = length (g.W.Spawner.reports c.serve_links-accepted.new.spawner) in
    subst (λ (h : HubId). AreOnHub h before started) (sym c.deref.ensures)
    (ours_of (arc_value c.args.hub.now) before (g.W.Spawner.started c.args.spawner.now) started _
    (ap length e.jobs.none_came ∙ c.requires.idle) e.accepted.started_are.jobs)

pub finish_run-requires-clause-balance : goal.finish_run-requires-clause-balance
finish_run-requires-clause-balance g c =
    let e = c.serve_links-accepted.ensures in
    let out = ap (λ (s : PassSeat). s.out) c.requires.new in
    let balance = e.accepted.started_are.balance in
    let same = ap length e.jobs.none_came in
    let idle = c.requires.idle in omega arith

pub finish_run-requires-clause-room : goal.finish_run-requires-clause-room
finish_run-requires-clause-room g c =
    let e = c.serve_links-accepted.ensures in
    let next = ap (λ (s : PassSeat). s.next) c.requires.new in
    let more = e.accepted.started_are.next in
    let few = passes_few c.args.asked.now.order.now e.accepted.started_are.joined in
    let near = e.accepted.started_are.none_more in
    let within = e.accepted.within in
    let short = c.requires.order in omega arith

pub returns : goal.returns
returns g c =
    let hub = arc_value c.args.hub.now in
    let e = c.serve_links-accepted.ensures in
    let f = c.finish_run.ensures in
    let started = f.started in
    let d : IsEnded hub c.serve_links-accepted.new.root (g.W.Spawner.started c.serve_links-accepted.new.spawner)
    (g.W.Spawner.reports c.serve_links-accepted.new.spawner) (g.W.Spawner.reports c.finish_run.new.spawner)
    (g.K.Sink.held c.args.output.now) (g.K.Sink.held c.finish_run.new.output)
    (g.K.Sink.fault_count c.args.output.now) (g.K.Sink.fault_count c.finish_run.new.output)
    c.serve_links-accepted.result c.finish_run.result =
    subst (λ (h : HubId). IsEnded h c.serve_links-accepted.new.root
    (g.W.Spawner.started c.serve_links-accepted.new.spawner)
    (g.W.Spawner.reports c.serve_links-accepted.new.spawner) (g.W.Spawner.reports c.finish_run.new.spawner)
    (g.K.Sink.held c.args.output.now) (g.K.Sink.held c.finish_run.new.output)
    (g.K.Sink.fault_count c.args.output.now) (g.K.Sink.fault_count c.finish_run.new.output)
    c.serve_links-accepted.result c.finish_run.result) c.deref.ensures f.ended in record {
      law = law_of (asked' c.args.asked.now) _ _ c.finish_run.result (record {
        hub = hub;
        limits = c.requires.limits;
        first = c.args.root.now;
        new = c.requires.new;
        idle = c.requires.idle;
        linked = c.serve_links-accepted.new.root;
        count = e.accepted.count;
        within = e.accepted.within;
        doors = f.links ∙ e.accepted.doors;
        hung_up = f.hung_up;
        accepted = c.serve_links-accepted.result;
        links = subst
            (λ tags. LinksStarted hub c.args.root.now c.serve_links-accepted.new.root
            (g.W.Spawner.started c.args.spawner.now) tags
            c.args.asked.now.order.now (length (g.N.Net.links c.args.net.now) + 1) e.accepted.count
            c.serve_links-accepted.result) (sym started) e.accepted.started_are;
        all = e.accepted.all;
        opened = subst
            (λ links. AreOpened (g.N.Net.links c.args.net.now) links (g.N.Net.listens c.args.net.now)
            (g.N.Net.listens c.finish_run.new.net) c.serve_links-accepted.result) (sym f.links)
            (subst
            (λ listens. AreOpened (g.N.Net.links c.args.net.now) (g.N.Net.links c.serve_links-accepted.new.net)
            (g.N.Net.listens c.args.net.now) listens c.serve_links-accepted.result) (sym f.listens) e.opened);
        doors_open = stay_open c.serve_links-accepted.result f.doors e.open;
        starts = ⊎_elim (λ l. inl (f.before ∙ l)) (λ r. inr (f.before ∙ r)) e.jobs.last;
        net = λ why. rose_until _ _ _ (e.net why) f.faults;
        threads = λ why. rose_until _ _ _ (e.jobs.threads why) f.no_refusal;
        no_net = λ other. f.faults ∙ e.no_net other;
        no_thread = λ other. f.no_refusal ∙ e.jobs.no_refusal other;
        collected = d.collected;
        mine = d.mine;
        kept = d.kept;
        given = d.given;
        reports = d.came ∙ ap (λ rs. rs ++ d.given) e.jobs.none_came;
        laws = d.laws;
        in_taken = d.in_taken;
        taken = d.taken;
        keyed = d.keyed
            ∙ (ap (λ rs. map job_tagged
            (take (length d.given) (drop (length rs) (g.W.Spawner.started c.serve_links-accepted.new.spawner))))
            e.jobs.none_came
            ∙ ap (λ tags. map job_tagged
            (take (length d.given) (drop (length (g.W.Spawner.reports c.args.spawner.now)) tags)))
            (sym started));
        all_given = f.all ∙ ap length (sym started);
        history = d.history;
        copied = d.copied;
        settled = d.settled;
        lawful = d.lawful;
        owned = d.owned;
        written = d.written;
        recorded = d.recorded;
        fault = d.fault;
        no_fault = d.no_fault;
        status_is = d.status_is;
      });
    }
