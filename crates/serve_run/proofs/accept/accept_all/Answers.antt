use Rattle.std.proofs.Common.{refl, sym, ap, ◌≡◌, ◌+◌, ◌<◌, ◌∙◌, length, get_or, append-nil, length-append, take, Ok, Err, arith}
use Rattle.std.specs.Arc.{arc_value}
use Rattle.turn_lock.specs.Pairs.{own}
use Rattle.serve_run.specs.LinkJobs.{joins_of}
use Rattle.serve_net.specs.declared.door.Door.TheVariants.{App}
use Rattle.serve_words.specs.Words.{doors_of}
use Rattle.serve_run.proofs.LinksInOrder.{none_yet, none_came, all_came, last_came, one_link_more, by_letter, doors_counted, door_at, doors_more, joins_few, next_number, passes_few}
use Rattle.serve_run.proofs.StartsCounted.{no_starts, starts_more, starts_done, link_has_net}
use Rattle.serve_run.proofs.accept.accept_all.Goals as goal

pub loop-letter-init : goal.loop-letter-init
loop-letter-init g c = record {
  started = none_yet (arc_value c.args.hub.now) c.args.root.now (g.W.Spawner.started c.args.spawner.now)
      c.args.letters.now (length (g.N.Net.links c.args.net.now) + 1) c.requires.root;
  links = sym (append-nil (g.N.Net.links c.args.net.now));
  jobs = no_starts c.args.spawner.now (Ok tt) (λ is. absurd (cc));
  listens = refl;
  opened = c.requires.open;
  never_falls = omega arith;
  none_failed = refl;
}

pub returns-in-Err-clause-accepted : goal.returns-in-Err-clause-accepted
returns-in-Err-clause-accepted g c =
    let i = c.loop-letter.invariant in record {
      count = c.loop-letter.letter-index;
      within = omega arith;
      doors = c.in-Err.ensures.none ∙ i.links;
      started_are = none_came (arc_value c.args.hub.now) c.args.root.now c.loop-letter.root (g.W.Spawner.started c.args.spawner.now)
          (g.W.Spawner.started c.loop-letter.spawner) c.args.letters.now (length (g.N.Net.links c.args.net.now) + 1)
          c.loop-letter.letter-index i.started;
      all = tt;
    }

pub returns-in-Err-clause-jobs : goal.returns-in-Err-clause-jobs
returns-in-Err-clause-jobs g c =
    starts_done c.args.spawner.now c.loop-letter.spawner _ (λ is. absurd (cc)) c.loop-letter.invariant.jobs

pub returns-in-Err-start_link-clause-accepted : goal.returns-in-Err-start_link-clause-accepted
returns-in-Err-start_link-clause-accepted g c =
    let i = c.loop-letter.invariant in
    let letters = c.args.letters.now in
    let within : c.loop-letter.letter-index < length letters = c.loop-letter-test.true in
    let many = doors_counted letters in
    let base = length (g.N.Net.links c.args.net.now) + 1 in
    let same =
    c.in-Ok.ensures.number_in
    ∙ next_number (g.N.Net.links c.args.net.now) (g.N.Net.links c.loop-letter.net) (g.N.Net.links c.accept.new.self)
    (doors_of letters) c.loop-letter.letter-index c.door_of.result (omega arith) i.links c.in-Ok.ensures.link in
    let is : c.door_of.result ≡ get_or (doors_of letters) c.loop-letter.letter-index App =
    c.door_of.ensures ∙ door_at letters c.loop-letter.letter-index 0 within in record {
      count = c.loop-letter.letter-index + 1;
      within = omega arith;
      doors = doors_more (g.N.Net.links c.args.net.now) (g.N.Net.links c.loop-letter.net) (g.N.Net.links c.accept.new.self)
          (doors_of letters) c.loop-letter.letter-index c.door_of.result
          (omega arith) is i.links c.in-Ok.ensures.link;
      started_are = last_came (arc_value c.args.hub.now) c.args.root.now c.loop-letter.root c.start_link.new.root
          (g.W.Spawner.started c.args.spawner.now) (g.W.Spawner.started c.loop-letter.spawner)
          (g.W.Spawner.started c.start_link.new.spawner) letters base c.loop-letter.letter-index
          (get_or letters c.loop-letter.letter-index 0) c.in-Err-start_link.stop within refl i.started
          (by_letter (arc_value c.args.hub.now) c.loop-letter.root c.start_link.new.root
          (g.W.Spawner.started c.loop-letter.spawner) (g.W.Spawner.started c.start_link.new.spawner)
          _ (base + c.loop-letter.letter-index) c.role_of-role.result (get_or letters c.loop-letter.letter-index 0)
          (Err c.in-Err-start_link.stop) same c.role_of-role.ensures
          c.in-Err-start_link.ensures.started);
      all = tt;
    }

pub returns-in-Err-start_link-clause-jobs : goal.returns-in-Err-start_link-clause-jobs
returns-in-Err-start_link-clause-jobs g c =
    starts_more c.args.spawner.now c.loop-letter.spawner c.start_link.new.spawner (Err c.in-Err-start_link.stop)
    c.loop-letter.invariant.jobs c.in-Err-start_link.ensures.jobs

pub returns-in-Err-start_link-clause-net : goal.returns-in-Err-start_link-clause-net
returns-in-Err-start_link-clause-net g c is =
    absurd (link_has_net _ _ _ _ _ _ _ c.in-Err-start_link.stop c.in-Err-start_link.ensures.started is)

pub returns-in-Err-clause-no_net : goal.returns-in-Err-clause-no_net
returns-in-Err-clause-no_net g c other = absurd (other refl)

pub returns-in-Err-start_link-clause-no_net : goal.returns-in-Err-start_link-clause-no_net
returns-in-Err-start_link-clause-no_net g c other = c.in-Ok.ensures.no_fault ∙ c.loop-letter.invariant.none_failed

pub invariant_of-link : goal.invariant_of-link
invariant_of-link g c = record {
  link_in = c.in-Ok.ensures.source;
  link_out = c.in-Ok.ensures.sink;
  live = c.in-Ok.ensures.live;
  one = c.in-Ok.ensures.number_in ∙ sym c.in-Ok.ensures.number_out;
}

pub start_link-requires-clause-root : goal.start_link-requires-clause-root
start_link-requires-clause-root g c =
    let next = c.loop-letter.invariant.started.next in
    let passes = passes_few c.args.letters.now c.loop-letter.letter-index in
    let room = c.requires.room in
    let joins = ap length c.loop-letter.invariant.started.joins
    ∙ length-append (own 0 c.args.root.now.seen)
    (joins_of c.args.root.now.next (take c.loop-letter.letter-index c.args.letters.now)) in
    let more = joins_few c.args.root.now.next c.args.letters.now c.loop-letter.letter-index in
    let within : c.loop-letter.letter-index < length c.args.letters.now = c.loop-letter-test.true in
    let few = c.requires.few in record {
      root_is = c.loop-letter.invariant.started.root_is;
      room = omega arith;
      few = omega arith;
    }

pub loop-letter-preserved : goal.loop-letter-preserved
loop-letter-preserved g c =
    let i = c.loop-letter.invariant in
    let letters = c.args.letters.now in
    let within : c.loop-letter.letter-index < length letters = c.loop-letter-test.true in
    let many = doors_counted letters in
    let base = length (g.N.Net.links c.args.net.now) + 1 in
    let same =
    c.in-Ok.ensures.number_in
    ∙ next_number (g.N.Net.links c.args.net.now) (g.N.Net.links c.loop-letter.net) (g.N.Net.links c.accept.new.self)
    (doors_of letters) c.loop-letter.letter-index c.door_of.result (omega arith) i.links c.in-Ok.ensures.link in
    let is : c.door_of.result ≡ get_or (doors_of letters) c.loop-letter.letter-index App =
    c.door_of.ensures ∙ door_at letters c.loop-letter.letter-index 0 within in record {
      started = one_link_more (arc_value c.args.hub.now) c.args.root.now c.loop-letter.root c.start_link.new.root
          (g.W.Spawner.started c.args.spawner.now) (g.W.Spawner.started c.loop-letter.spawner)
          (g.W.Spawner.started c.start_link.new.spawner) letters base c.loop-letter.letter-index
          (get_or letters c.loop-letter.letter-index 0) within refl i.started
          (by_letter (arc_value c.args.hub.now) c.loop-letter.root c.start_link.new.root
          (g.W.Spawner.started c.loop-letter.spawner) (g.W.Spawner.started c.start_link.new.spawner)
          _ (base + c.loop-letter.letter-index) c.role_of-role.result (get_or letters c.loop-letter.letter-index 0)
          (Ok tt) same c.role_of-role.ensures
          c.in_default.ensures.started);
      links = doors_more (g.N.Net.links c.args.net.now) (g.N.Net.links c.loop-letter.net)
          (g.N.Net.links c.accept.new.self)
          (doors_of letters) c.loop-letter.letter-index c.door_of.result
          (omega arith) is i.links c.in-Ok.ensures.link;
      jobs = starts_more c.args.spawner.now c.loop-letter.spawner c.start_link.new.spawner (Ok tt) i.jobs
          c.in_default.ensures.jobs;
      listens = c.accept.ensures.listens ∙ i.listens;
      opened = λ d. c.accept.ensures.doors d ∙ i.opened d;
      never_falls = (let a = i.never_falls in let b = c.accept.ensures.never_falls in omega arith);
      none_failed = c.in-Ok.ensures.no_fault ∙ i.none_failed;
    }

pub returns-clause-accepted : goal.returns-clause-accepted
returns-clause-accepted g c =
    let i = c.loop-letter.invariant in
    let letters = c.args.letters.now in record {
      count = c.loop-letter.letter-index;
      within = omega arith;
      doors = i.links;
      started_are = all_came (arc_value c.args.hub.now) c.args.root.now c.loop-letter.root (g.W.Spawner.started c.args.spawner.now)
          (g.W.Spawner.started c.loop-letter.spawner) letters (length (g.N.Net.links c.args.net.now) + 1)
          c.loop-letter.letter-index i.started;
      all = omega arith;
    }

pub returns-clause-jobs : goal.returns-clause-jobs
returns-clause-jobs g c = c.loop-letter.invariant.jobs
