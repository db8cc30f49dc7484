use Rattle.std.proofs.Common.{◌≡◌, ◌<◌, ◌≤◌, List, length, get_or, set, map, refl, sym, ap, ◌∙◌, subst, arith}
use Rattle.std.proofs.lemmas.List.{length-set}
use Rattle.std.proofs.lemmas.Option.{get_or_from_slice_get}
use Rattle.wl_proto.specs.Rows.{event_message}
use Rattle.broker_audience.specs.declared.live.Live.{Live}
use Rattle.broker_audience.specs.Gathered.{Gathered}
use Rattle.broker_audience.specs.Lives.{hears_message}
use Rattle.broker_audience.specs.Visits.{Peers, changed_at, HasNone, AreListening}
use Rattle.broker_audience.proofs.NamesStay.{named_written, named_order, label_at, no_label}
use Rattle.broker_audience.proofs.VisitIsPass.{written_at}
use Rattle.broker_audience.proofs.UnmarkedAreQuiet.{listening_changed, is_here, or_right, heard_there, heard_nowhere, hears_own, hears_store, hears_calm}
use Rattle.broker_audience.proofs.listeners.Listeners.hear.Goals as goal

pub place_with-requires : goal.place_with-requires
place_with-requires c = record { rising = c.self.invariant.3.labels_rise }

pub at_mut-requires : goal.at_mut-requires
at_mut-requires c = record {
  place = (label_at c.self.inside.peers c.args.to.now.peer c.in-Some.place c.self.invariant.3
      c.in-Some.ensures.found).within;
}

written : (c : goal.After-mark) →
    set c.self.inside.peers.items c.in-Some.place (record c.at_mut.result.now { gathering = c.put_measured.new.self })
    ≡ changed_at c.in-Some.place (hears_message c.args.to.now (event_message c.args.event.now))
    c.self.inside.peers.items
written c =
    let live = c.self.inside.peers.items in
    let peer : Live = c.at_mut.result.now in
    let at = label_at c.self.inside.peers c.args.to.now.peer c.in-Some.place c.self.invariant.3
    c.in-Some.ensures.found in
    let label : peer.label ≡ c.args.to.now.peer =
    ap (λ (l : Live). l.label) (sym (get_or_from_slice_get live c.in-Some.place peer peer c.at_mut.ensures.value))
    ∙ at.has peer in
    written_at (hears_message c.args.to.now (event_message c.args.event.now)) c.in-Some.place live peer
    (record peer { gathering = c.put_measured.new.self }) at.within c.at_mut.ensures.value
    (ap (λ (g : Gathered). record peer { gathering = g }) c.put_measured.ensures.put
    ∙ hears_own c.args.to.now (event_message c.args.event.now) peer label)

pub invariant_of-self : goal.invariant_of-self
invariant_of-self c =
    let live = c.self.inside.peers.items in
    let l = c.self.invariant.0 in
    let place = c.in-Some.place in
    let at = label_at c.self.inside.peers c.args.to.now.peer place c.self.invariant.3 c.in-Some.ensures.found in
    let within : place < length live = at.within in
    let f : Live → Live = hears_message c.args.to.now (event_message c.args.event.now) in
    let new : Live = record c.at_mut.result.now { gathering = c.put_measured.new.self } in
    let same = length-set live place new in
    let listening : AreListening (changed_at place f live) c.mark.new.self.places c.self.inside.due.places =
    listening_changed f place live c.self.inside.told.places c.self.inside.due.places c.mark.new.self.places
    c.self.inside.due.places within l
    (record {
      told_within = c.mark.ensures.within (length live) l.told_within within;
      due_within = l.due_within;
      told_before = λ k off. or_right _ _ (sym (c.mark.ensures.marked k) ∙ off);
      due_before = λ k off. off;
      quiet = λ l off quiet. absurd (is_here _ place (sym (c.mark.ensures.marked place) ∙ off));
      calm = λ d off calm. hears_calm c.args.to.now (event_message c.args.event.now) (get_or live place d) calm;
      bounded = λ l bounded. subst (λ q. length q.cells ≤ q.capacity)
          (sym (hears_store c.args.to.now (event_message c.args.event.now) l)) bounded;
    }) in (
      subst (λ (ls : List Live). AreListening ls c.mark.new.self.places c.self.inside.due.places) (sym (written c))
          listening,
      omega (arith, same, c.self.invariant.1, c.mark.ensures.bound),
      omega (arith, same, c.self.invariant.2),
      named_written c.self.inside.peers place c.at_mut.result.now new c.self.invariant.3 c.at_mut.ensures.value refl
          refl,
    )

pub returns-in-Some : goal.returns-in-Some
returns-in-Some c =
    let f : Live → Live = hears_message c.args.to.now (event_message c.args.event.now) in
    record {
      items = written c
          ∙ heard_there c.args.to.now
          (event_message c.args.event.now) c.in-Some.place c.self.inside.peers.items
          (named_order c.self.inside.peers c.self.invariant.3)
          (label_at c.self.inside.peers c.args.to.now.peer c.in-Some.place c.self.invariant.3 c.in-Some.ensures.found)
          ∙ ap (λ (v : Peers). map f v.items) c.self.view_is;
    }

pub returns-in_default : goal.returns-in_default
returns-in_default c =
    record {
      items = heard_nowhere c.args.to.now (event_message c.args.event.now) c.args.self.now.items
          (subst (λ (v : Peers). HasNone (λ l. l.label) c.args.to.now.peer v.items) c.self.view_is
          (no_label c.self.inside.peers c.args.to.now.peer c.self.invariant.3 c.in_default.ensures.none));
    }
