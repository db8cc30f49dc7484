use Rattle.std.proofs.Common.{◌≡◌, ℕ, false, List, length, get_or, map, sym, ap, ◌∙◌, subst, arith}
use Rattle.broker_audience.specs.Visits.{Peers, map_at, at_marked, AreListening}
use Rattle.std.proofs.lemmas.List.{length-map}
use Rattle.broker_audience.specs.declared.live.Live.{Live}
use Rattle.broker_audience.specs.Lives.{delivered}
use Rattle.broker_audience.specs.Marks.{is_marked, AreWithin}
use Rattle.broker_audience.proofs.NamesStay.{named_mapped}
use Rattle.broker_audience.proofs.PeersInOrder.{delivered_number, delivered_label}
use Rattle.broker_audience.proofs.VisitIsPass.{map_at_length, all_visited}
use Rattle.broker_audience.proofs.UnmarkedAreQuiet.{listening_delivered, unmarked_stays}
use Rattle.broker_audience.proofs.listeners.Listeners.deliver.Goals as goal

long : (c : goal.After-note_choked-arg-2-1) → length c.deliver_each.new.peers.items ≡ length c.self.inside.peers.items
long c = ap length c.deliver_each.ensures.items
    ∙ map_at_length (at_marked c.places.result.now delivered) 0 c.self.inside.peers.items

pub note_choked-requires-clause-within : goal.note_choked-requires-clause-within
note_choked-requires-clause-within c = rw (long c, c.places-2.ensures.places) c.self.invariant.0.told_within

pub note_choked-requires-clause-room : goal.note_choked-requires-clause-room
note_choked-requires-clause-room c = rw (long c) c.self.invariant.2

all : (c : goal.After-note_choked) → c.deliver_each.new.peers.items ≡ map delivered c.self.inside.peers.items
all c =
    let live = c.self.inside.peers.items in
    c.deliver_each.ensures.items
    ∙ ap (λ (ms : List ℕ). map_at (at_marked ms delivered) 0 live) c.places.ensures.places
    ∙ all_visited delivered c.self.inside.told.places live
    (unmarked_stays live c.self.inside.told.places c.self.inside.due.places c.self.invariant.0)

pub invariant_of-self : goal.invariant_of-self
invariant_of-self c =
    let live = c.self.inside.peers.items in
    let told = c.self.inside.told.places in
    let same = length-map live delivered in
    let items = all c in
    let there : length c.deliver_each.new.peers.items ≡ length live = ap length items ∙ same in
    let listening : AreListening (map delivered live) told c.note_choked.new.due.places =
    listening_delivered live told c.self.inside.due.places c.note_choked.new.due.places c.self.invariant.0
    (subst (λ n. AreWithin 0 n c.note_choked.new.due.places) there
    (c.note_choked.ensures.within
    (subst (λ n. AreWithin 0 n c.self.inside.due.places) (sym there) c.self.invariant.0.due_within)))
    c.note_choked.ensures.kept
    (λ k d on off. subst (λ (ls : List Live). (get_or ls k d).is_choked ≡ false) items
    (c.note_choked.ensures.choked k d (ap (is_marked k) c.places-2.ensures.places ∙ on) off)) in (
      rw items listening,
      omega (arith, there, c.self.invariant.1),
      omega (arith, there, c.self.invariant.2, c.note_choked.ensures.bound),
      named_mapped c.self.inside.peers c.deliver_each.new.peers delivered delivered_number delivered_label
          c.self.invariant.3 c.deliver_each.ensures.rest items,
    )

pub returns : goal.returns
returns c = record { items = all c ∙ ap (λ (v : Peers). map delivered v.items) c.self.view_is }
