use Rattle.std.proofs.Common.{◌≡◌, ◌≤◌, ◌+◌, ◌++◌, ◌∷◌, [], ℕ, length, None, ap, refl, sym, subst, ◌∙◌, arith}
use Rattle.std.proofs.lemmas.Grind.{common_steps}
use Rattle.std.proofs.lemmas.List.{length-map}
use Rattle.wl_proto.specs.declared.interface.Interface.TheVariants.{Display}
use Rattle.broker_model.specs.declared.journal.Entry.TheVariants as entries
use Rattle.broker_model.specs.Ids.{Joined}
use Rattle.broker_model.specs.Resolve.{past_of}
use Rattle.broker_core.specs.declared.state.State.{State}
use Rattle.broker_audience.specs.Changes.{IsNewcomer}
use Rattle.broker_audience.specs.Directed.{IsNewest}
use Rattle.broker_audience.specs.Visits.{IsAboveAll}
use Rattle.broker_core.specs.Stands.{CanTake}
use Rattle.broker_core.proofs.NewestPeer.{above_all, newcomer_number, newcomer_label}
use Rattle.broker_core.proofs.ReadyForJoin.{ready_join, still_stands}
use Rattle.broker_core.proofs.NewLabels.{newest}
use Rattle.broker_core.proofs.state.State.join.Goals as goal

pub push-requires-clause-newest : goal.push-requires-clause-newest
push-requires-clause-newest g c =
    let s : State = c.make_room.new.self in
    let number : length s.journal.entries ≡ c.len-label.result =
    ap length c.make_room.ensures.journal ∙ sym c.len-label.ensures.number in
    subst (λ (n : ℕ). IsNewest (n + 1) s.audience.directory.made) number
    (subst (IsNewest (length s.journal.entries + 1)) (sym c.make_room.ensures.stands.made) (newest s.journal.entries))

pub push-requires-2-clause-above : goal.push-requires-2-clause-above
push-requires-2-clause-above g c =
    let s : State = c.make_room.new.self in
    let J = s.journal.entries in
    let label : c.len-label.result + 1 ≡ length J + 1 =
    ap (λ (n : ℕ). n + 1) (c.len-label.ensures.number ∙ ap length (sym c.make_room.ensures.journal)) in
    let joined : length s.labels.items ≡ length (past_of J).joined =
    ap length c.make_room.ensures.stands.labels ∙ length-map (past_of J).joined (λ (peer : Joined). peer.label) in
    let was : s.labels ≡ c.args.self.now.labels = c.make_room.ensures.labels in
    let number : c.len.result + 1 ≡ length (past_of J).joined + 1 =
    grind (arith, common_steps, c.len.ensures, was, joined) in
    subst (IsAboveAll c.in_ok-live.live) (sym c.reserve.ensures.same)
    (above_all J s.audience.live.items c.make_room.ensures.stands.who c.in_ok-live.live
    (newcomer_number s.capacity (c.len.result + 1)
    (c.len-label.result + 1) c.args.role c.in_ok-live.live c.in_ok-live.ensures.new ∙ number)
    (newcomer_label s.capacity (c.len.result + 1)
    (c.len-label.result + 1) c.args.role c.in_ok-live.live c.in_ok-live.ensures.new ∙ label))

pub enter-requires-clause-ready : goal.enter-requires-clause-ready
enter-requires-clause-ready g c =
    let s : State = c.make_room.new.self in
    let J = s.journal.entries in
    let label : c.len-label.result + 1 ≡ length J + 1 =
    ap (λ (n : ℕ). n + 1) (c.len-label.ensures.number ∙ ap length (sym c.make_room.ensures.journal)) in
    let joined : length s.labels.items ≡ length (past_of J).joined =
    ap length c.make_room.ensures.stands.labels ∙ length-map (past_of J).joined (λ (peer : Joined). peer.label) in
    let was : s.labels ≡ c.args.self.now.labels = c.make_room.ensures.labels in
    let number : c.len.result + 1 ≡ length (past_of J).joined + 1 =
    grind (arith, common_steps, c.len.ensures, was, joined) in
    let live : c.push-2.new.self.items ≡ s.audience.live.items ++ c.in_ok-live.live ∷ [] =
    c.push-2.ensures.put ∙ ap (λ ls. ls ++ c.in_ok-live.live ∷ []) c.reserve.ensures.same in
    let labels : c.push-3.new.self.items ≡ s.labels.items ++ (c.len-label.result + 1) ∷ [] =
    grind (arith, common_steps, c.push-3.ensures.items, c.push-3.ensures.full, c.in_ok-reserve-2.ensures) in
    let ended : c.push-4.new.self.items ≡ s.ended.items ++ None ∷ [] =
    c.push-4.ensures.put ∙ ap (λ es. es ++ None ∷ []) c.reserve-3.ensures.same in
    let t : State = record s {
      audience = record { live = c.push-2.new.self; directory = c.push.new.self };
      labels = c.push-3.new.self;
      ended = c.push-4.new.self;
    } in
    ready_join c.args.role c.in_ok-live.live s t c.make_room.ensures.stands
    (subst (CanTake (entries.Join c.args.role)) (sym c.make_room.ensures.journal) c.requires.place)
    (record {
      new = subst (λ (q : ℕ). IsNewcomer s.capacity q (length J + 1) c.args.role c.in_ok-live.live) number
          (subst (λ (n : ℕ). IsNewcomer s.capacity (c.len.result + 1) n c.args.role c.in_ok-live.live) label
          c.in_ok-live.ensures.new);
      live = live;
      made = c.push.ensures.put
          ∙ ap (λ (n : ℕ). record { peer = n; id = 1; label = n; interface = Display } ∷ s.audience.directory.made)
          label;
      relayed = c.make_room.ensures.stands.relayed;
      reserved = c.in_ok-make_room.ensures.reserved;
      recorded = refl;
      room = subst (λ l. length l.items + 2 ≤ s.journal.room)
          (sym c.make_room.ensures.live) c.in_ok-make_room.ensures.room;
      stamp_room =
          subst (λ l. length l.items + 2 ≤ s.stamps.room)
          (sym c.make_room.ensures.live) c.in_ok-make_room.ensures.stamp_room;
      stamps = refl;
      labels = labels ∙ ap (λ (n : ℕ). s.labels.items ++ n ∷ []) label;
      ended = ended;
      capacity = refl;
    })

pub returns-in_err-reserve-clause-stands : goal.returns-in_err-reserve-clause-stands
returns-in_err-reserve-clause-stands g c =
    still_stands c.make_room.new.self _ c.make_room.ensures.stands refl refl refl refl refl c.reserve.ensures.same refl
    refl

pub returns-in_err-reserve-2-clause-stands : goal.returns-in_err-reserve-2-clause-stands
returns-in_err-reserve-2-clause-stands g c =
    still_stands c.make_room.new.self _ c.make_room.ensures.stands refl refl refl refl refl c.reserve.ensures.same
    c.reserve-2.ensures.items refl

pub returns-in_err-reserve-3-clause-stands : goal.returns-in_err-reserve-3-clause-stands
returns-in_err-reserve-3-clause-stands g c =
    still_stands c.make_room.new.self _ c.make_room.ensures.stands refl refl refl refl refl c.reserve.ensures.same
    c.reserve-2.ensures.items c.reserve-3.ensures.same

pub returns-in_err-live-clause-stands : goal.returns-in_err-live-clause-stands
returns-in_err-live-clause-stands g c =
    still_stands c.make_room.new.self _ c.make_room.ensures.stands refl refl refl refl refl c.reserve.ensures.same
    c.reserve-2.ensures.items c.reserve-3.ensures.same
