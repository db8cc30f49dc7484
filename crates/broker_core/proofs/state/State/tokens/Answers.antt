use Rattle.std.proofs.Common.{◌≡◌, ◌≤◌, ◌<◌, ◌+◌, ℕ, List, length, set, slice_get, Some, IsSome, ap, refl, sym, subst, ◌∙◌}
use Rattle.std.proofs.lemmas.Option.{get_or_from_slice_get}
use Rattle.broker_model.specs.declared.journal.Entry.TheVariants as entries
use Rattle.broker_model.specs.Waiting.{with_tokens}
use Rattle.broker_audience.specs.declared.live.Live.{Live}
use Rattle.broker_audience.specs.Lives.{number_of}
use Rattle.broker_audience.specs.Visits.{waits}
use Rattle.broker_audience.proofs.VisitIsPass.{changed_set}
use Rattle.broker_core.specs.declared.state.State.{State}
use Rattle.broker_core.specs.Stands.{CanTake, Ready}
use Rattle.broker_core.proofs.SenderFound.{IsSender, sender, of_found, not_nobody}
use Rattle.broker_core.proofs.ReadyForMessage.{ready_tokens}
use Rattle.broker_core.proofs.state.State.tokens.Given.{Over}
use Rattle.broker_core.proofs.state.State.tokens.Goals as goal

-- the sender, after room was made
it : (g : Over) (c : goal.After-enter-arg-3-1 g) →
    IsSender c.args.number c.in-Some.place c.make_room.new.self.audience.live.items
it g c =
    let items = ap (λ l. l.items) (sym c.make_room.ensures.live) in
    sender c.args.number c.in-Some.place c.args.self.now.audience.live.items c.make_room.new.self.audience.live.items
    items c.in-Some.ensures.first
    (subst (λ (ls : List Live). IsSome (number_of c.args.number ls)) items c.requires.live)

-- what waits for it from now on
waits_now : (g : Over) (c : goal.After-enter-arg-3-1 g) →
    c.in_ok-waiting.waiting ≡ with_tokens (it g c).peer.waiting c.args.tokens.now
waits_now g c =
    let before = ap (λ l. l.items) c.make_room.ensures.live in
    of_found (λ (l : Live). c.in_ok-waiting.waiting ≡ with_tokens l.waiting c.args.tokens.now)
    (slice_get c.args.self.now.audience.live.items c.in-Some.place) (it g c).peer
    (subst (λ (ls : List Live). slice_get ls c.in-Some.place ≡ Some (it g c).peer) before (it g c).at.here)
    c.in_ok-waiting.ensures

-- it alone is changed
changed : (g : Over) (c : goal.After-enter-arg-3-1 g) →
    c.wait.new.self.items
    ≡ set c.make_room.new.self.audience.live.items c.in-Some.place
    (record (it g c).peer { waiting = with_tokens (it g c).peer.waiting c.args.tokens.now })
changed g c =
    let live = c.make_room.new.self.audience.live.items in
    let l : Live = (it g c).peer in
    let within : c.in-Some.place < length live =
    subst (λ v. c.in-Some.place < length v.items) (sym c.make_room.ensures.live) c.in-Some.ensures.within in
    c.wait.ensures.items
    ∙ sym (changed_set (waits c.in_ok-waiting.waiting) c.in-Some.place live l within
    (sym (get_or_from_slice_get live c.in-Some.place l l (it g c).at.here)))
    ∙ ap (λ (tokens : List ℕ). set live c.in-Some.place (record l { waiting = tokens })) (waits_now g c)

pub enter-requires-clause-ready : goal.enter-requires-clause-ready
enter-requires-clause-ready g c =
    let s : State = c.make_room.new.self in
    let t : State = record s { audience = record s.audience { live = c.wait.new.self } } in
    let e = entries.Tokens c.args.number c.args.tokens.now in
    subst (λ (tokens : List ℕ). Ready s.capacity (entries.Tokens c.args.number tokens) s.journal.entries t)
    (sym c.in_ok-copy.ensures.value)
    (ready_tokens c.args.number c.args.tokens.now c.in-Some.place (it g c).peer s t c.make_room.ensures.stands
    (subst (CanTake e) (sym c.make_room.ensures.journal) c.requires.place) (it g c).at.numbered (it g c).at.here
    (record {
      relayed = c.make_room.ensures.stands.relayed;
      reserved = c.in_ok-make_room.ensures.reserved;
      recorded = refl;
      room = subst (λ l. length l.items + 2 ≤ s.journal.room)
          (sym c.make_room.ensures.live) c.in_ok-make_room.ensures.room;
      stamp_room =
          subst (λ l. length l.items + 2 ≤ s.stamps.room)
          (sym c.make_room.ensures.live) c.in_ok-make_room.ensures.stamp_room;
      stamps = refl;
      labels = refl;
      ended = refl;
      capacity = refl;
    })
    refl (changed g c))

pub unreachable-requires : goal.unreachable-requires
unreachable-requires g c =
    not_nobody c.args.number c.args.self.now.audience.live.items c.args.self.now.audience.live.items refl
    c.in_default.ensures.none c.requires.live
