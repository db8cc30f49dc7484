use Rattle.std.proofs.Common.{rules, ◌≡◌, ◌≤◌, ◌∙◌, ℕ, ap, sym, subst, arith, length, Some}
use Rattle.hub_lock.specs.declared.call.Taking.{Taking}
use Rattle.hub_lock.specs.declared.room.Places.{Places}
use Rattle.hub_lock.specs.Histories.{writer_of}
use Rattle.hub_lock.specs.Passes.{PassSeat, PeerPass}
use Rattle.hub_lock.specs.Plays.{counts_of}
use Rattle.hub_lock.specs.Rooms.{Taken, room_of}
use Rattle.hub_lock.specs.Calls.{IsTakeOut}
use Rattle.hub_lock.proofs.JournalOfSteps.{own-few-bytes}
use Rattle.hub_lock.proofs.LegalCalls.{writer-after}
use Rattle.hub_lock.proofs.TakesCopied.{IsLeft, take-left, take-fits, take-few, take-lends, take-asked-finds, made-counts}
use Rattle.hub_lock.proofs.hub.Hub.take_most.Goals as goal
use Rattle.hub_lock.proofs.hub.Hub.take_most.Goals.{After-into_places-2}
use Rattle.hub_lock.proofs.hub.Hub.take_most.Goals.at

module _ (g : _) (c : After-into_places-2 g) where
  abbrev was : PeerPass
  was = record { seat = c.pass.inside.member; peer = c.pass.inside.peer }

  abbrev now : PeerPass
  now = record { seat = c.play_by.new.member; peer = c.pass.inside.peer }

  abbrev places : Places
  places = c.into_places-2.result

  abbrev asked : Taking
  asked = record {
    peer = c.pass-inside.inside.0.1.0;
    most = c.new.result;
    places = c.with_memory-places.result;
  }

  left : IsLeft c.args.self.now.limits was now c.args.most places c.in-Took.took
  left = take-left c.args.self.now.limits was now c.args.most asked c.play_by.new.call.ask places c.in-Took.took
      (search rules) c.new.ensures c.into_places-2.ensures c.in-Took.ensures.legal

pub overflow_add-pass : goal.overflow_add-pass
overflow_add-pass g c =
    let made = made-counts c.in-Took.took in
    let counts = ap (λ (p : ℕ × ℕ). p.0) c.counts_of-bytes.ensures in
    let b = c.in-Took.ensures.bytes in
    let was = c.pass.invariant.1 in
    let few = own-few-bytes c.args.self.now.limits c.play_by.new.member.number c.play_by.new.member.seen
    c.play_by.ensures.legal.lawful_after in
    omega arith

pub of-requires-clause-bytes : goal.of-requires-clause-bytes
of-requires-clause-bytes g c =
    let a = (at.of-requires-clause-bytes g c).After-into_places-2 in
    let f = take-fits c.args.self.now.limits (was g a) (now g a) c.args.most (places g a) c.in-Took.took (left g a) in
    subst (λ (p : ℕ × ℕ). p.0 ≤ length (places g a).bytes.items) (sym c.counts_of-bytes.ensures) f.in_bytes

pub of-requires-clause-tokens : goal.of-requires-clause-tokens
of-requires-clause-tokens g c =
    let a = (at.of-requires-clause-tokens g c).After-into_places-2 in
    let f = take-fits c.args.self.now.limits (was g a) (now g a) c.args.most (places g a) c.in-Took.took (left g a) in
    subst (λ (p : ℕ × ℕ). p.1 ≤ length (places g a).tokens.items) (sym c.counts_of-bytes.ensures) f.in_tokens

pub invariant_of-pass : goal.invariant_of-pass
invariant_of-pass g c =
    let number = ap (λ (s : PassSeat). s.number) c.play_by.ensures.member in
    let made = made-counts c.in-Took.took in
    let counts = ap (λ (p : ℕ × ℕ). p.0) c.counts_of-bytes.ensures in
    let b = c.in-Took.ensures.bytes in
    let was = c.pass.invariant.1 in (
      writer-after c.args.self.now.limits c.pass.inside.member c.play_by.new.member.seen _ c.play_by.ensures.legal
          c.pass.inside.peer c.pass.inside.member.number c.pass.invariant.0 ∙ ap Some (sym number),
      omega arith,
    )

pub returns-clause-legal : goal.returns-clause-legal
returns-clause-legal g c =
    let a = (at.returns-clause-legal g c).After-into_places-2 in
    let room : c.of.result ≡ room_of (places g a) (counts_of c.in-Took.took) =
    c.of.ensures ∙ ap (room_of (places g a)) c.counts_of-bytes.ensures in
    subst (λ (p : PeerPass). IsTakeOut c.args.self.now.limits p (now g a) c.args.most c.of.result c.in-Took.took)
    c.pass.view_is
    (subst (λ (t : Taken). IsTakeOut c.args.self.now.limits (was g a) (now g a) c.args.most t c.in-Took.took)
    (sym room) (take-lends c.args.self.now.limits (was g a) (now g a) c.args.most (places g a) c.in-Took.took
    (left g a)))

pub returns-clause-few : goal.returns-clause-few
returns-clause-few g c =
    let a = (at.returns-clause-few g c).After-into_places-2 in
    let room : c.of.result ≡ room_of (places g a) (counts_of c.in-Took.took) =
    c.of.ensures ∙ ap (room_of (places g a)) c.counts_of-bytes.ensures in
    subst (λ (t : Taken). (length t.bytes ≤ c.args.most) × (length t.tokens ≤ 256)) (sym room)
    (take-few c.args.self.now.limits (was g a) (now g a) c.args.most (places g a) c.in-Took.took (left g a))

pub returns-clause-joined : goal.returns-clause-joined
returns-clause-joined g c =
    let a = (at.returns-clause-joined g c).After-into_places-2 in
    let same : (asked g a).peer ≡ c.pass.inside.peer = search rules in
    take-asked-finds c.args.self.now.limits c.pass.inside.member c.play_by.new.member.seen (asked g a)
    c.play_by.new.call.ask c.in-Took.took c.in-Took.ensures.legal
    (ap (writer_of c.pass.inside.member.seen) same ∙ c.pass.invariant.0)
