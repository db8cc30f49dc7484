use Rattle.std.proofs.Common.{◌≡◌, ◌<◌, List, Option, Some, None, IfSome, Result, Ok, Err, OnErr, length, slice_get, get_or, set, sym, ap, ◌∙◌, subst, arith}
use Rattle.std.specs.Prelude.{option_map}
use Rattle.std.specs.FinMap as finite
use Rattle.std.proofs.lemmas.List.{length-set, set-get_or}
use Rattle.std.proofs.lemmas.Option.{get_or_from_slice_get}
use Rattle.im_objects.specs.Objects.{refusal_of}
use Rattle.broker_wire.specs.Asked.{asked}
use Rattle.broker_audience.specs.declared.live.Live.{Live}
use Rattle.broker_audience.specs.Changes.{IsChangedAt}
use Rattle.broker_audience.specs.Visits.{Peers, changed_at, rewritten, AreListening}
use Rattle.broker_audience.proofs.NamesStay.{named_written}
use Rattle.broker_audience.proofs.OneOfPeersChanges as changing
use Rattle.broker_audience.proofs.VisitIsPass.{written_at}
use Rattle.broker_audience.proofs.UnmarkedAreQuiet.{listening_changed, not_here, or_right}
use Rattle.broker_audience.proofs.listeners.Listeners.change.Goals as goal

pub at_mut-peer-requires : goal.at_mut-peer-requires
at_mut-peer-requires c =
    record { place = subst (λ (v : Peers). c.args.place < length v.items) (sym c.self.view_is) c.requires.place }

pub change-requires : goal.change-requires
change-requires c =
    let here =
    subst (λ (v : Peers). slice_get v.items c.args.place ≡ Some c.at_mut-peer.result.now) c.self.view_is
    c.at_mut-peer.ensures.value in
    record {
      unused = subst
          (λ (o : Option Live). IfSome o (λ l. finite.get l.table.ids c.args.label ≡ None)) here c.requires.unused;
      accepted = subst
          (λ (o : Option Live). IfSome o
          (λ l. IfSome c.args.meaning.now.made (λ new. refusal_of l.table new.id ≡ None))) here c.requires.accepted;
    }

on_any : {A E P : Type 0} (r : Result A E) → P → OnErr r P
on_any (Ok a) p = tt
on_any (Err e) p = p

-- nothing was made: the peer is as before
stays : (c : goal.After-from_residual) →
    set c.self.inside.peers.items c.args.place c.change.new.self ≡ c.self.inside.peers.items
stays c =
    let live = c.self.inside.peers.items in
    let peer : Live = c.at_mut-peer.result.now in
    ap (set live c.args.place)
    (c.in_err-change.ensures.err
    ∙ sym (get_or_from_slice_get live c.args.place peer peer c.at_mut-peer.ensures.value))
    ∙ set-get_or live c.args.place peer

pub invariant_of-self : goal.invariant_of-self
invariant_of-self c =
    let live = c.self.inside.peers.items in
    let new : Live = c.change.new.self in
    let same = length-set live c.args.place new in (
      subst (λ (ls : List Live). AreListening ls c.self.inside.told.places c.self.inside.due.places) (sym (stays c))
          c.self.invariant.0,
      omega (arith, same, c.self.invariant.1),
      omega (arith, same, c.self.invariant.2),
      named_written c.self.inside.peers c.args.place c.at_mut-peer.result.now new c.self.invariant.3
          c.at_mut-peer.ensures.value (ap (λ (l : Live). l.number) c.change.ensures.kept)
          (ap (λ (l : Live). l.label) c.change.ensures.kept),
    )

pub returns-in_err-change-clause-err : goal.returns-in_err-change-clause-err
returns-in_err-change-clause-err c =
    let all = stays c ∙ ap (λ (v : Peers). v.items) c.self.view_is in
    on_any c.from_residual.result all

written : (c : goal.After-mark_if) → set c.self.inside.peers.items c.args.place c.change.new.self
    ≡ changed_at c.args.place (rewritten c.change.new.self) c.self.inside.peers.items
written c =
    written_at (rewritten c.change.new.self) c.args.place c.self.inside.peers.items c.at_mut-peer.result.now
    c.change.new.self
    (subst (λ (v : Peers). c.args.place < length v.items) (sym c.self.view_is) c.requires.place)
    c.at_mut-peer.ensures.value c.change.ensures.kept

pub invariant_of-self-2 : goal.invariant_of-self-2
invariant_of-self-2 c =
    let live = c.self.inside.peers.items in
    let l = c.self.invariant.0 in
    let within : c.args.place < length live =
    subst (λ (v : Peers). c.args.place < length v.items) (sym c.self.view_is) c.requires.place in
    let after : Live = c.change.new.self in
    let same = length-set live c.args.place after in
    let listening : AreListening
    (changed_at c.args.place (rewritten after) live) c.self.inside.told.places c.mark_if.new.self.places =
    listening_changed
    (rewritten after) c.args.place live c.self.inside.told.places c.self.inside.due.places c.self.inside.told.places
    c.mark_if.new.self.places within l
    (record {
      told_within = l.told_within;
      due_within = c.mark_if.ensures.within (length live) l.due_within within;
      told_before = λ k off. off;
      due_before = λ k off. or_right _ _ (sym (c.mark_if.ensures.marked k) ∙ off);
      quiet = λ l off quiet. quiet;
      calm = λ d off
          calm. record {
            choked = calm.choked;
            refused = not_here _ _ c.args.place (sym (c.mark_if.ensures.marked c.args.place) ∙ off);
          };
      bounded = λ l bounded. bounded;
    }) in (
      subst (λ (ls : List Live). AreListening ls c.self.inside.told.places c.mark_if.new.self.places)
          (sym (written c)) listening,
      omega (arith, same, c.self.invariant.1),
      omega (arith, same, c.self.invariant.2, c.mark_if.ensures.bound),
      named_written c.self.inside.peers c.args.place c.at_mut-peer.result.now after c.self.invariant.3
          c.at_mut-peer.ensures.value (ap (λ (l : Live). l.number) c.change.ensures.kept)
          (ap (λ (l : Live). l.label) c.change.ensures.kept),
    )

pub returns-clause-changed : goal.returns-clause-changed
returns-clause-changed c =
    let live : List Live = c.self.inside.peers.items in
    let place = c.args.place in
    let peer : Live = c.at_mut-peer.result.now in
    let within : place < length live =
    subst (λ (v : Peers). place < length v.items) (sym c.self.view_is) c.requires.place in
    let read : peer ≡ get_or live place peer =
    sym (get_or_from_slice_get live place peer peer c.at_mut-peer.ensures.value) in
    let Changed : List Live → Type 0 =
    λ ls. IsChangedAt place c.args.id c.args.label c.args.meaning.now.takes_token c.args.meaning.now.act
    (option_map asked c.args.meaning.now.made) ls (set live place c.change.new.self) in
    subst Changed (ap (λ (v : Peers). v.items) c.self.view_is)
    (changing.changed_at place c.args.id c.args.label c.args.meaning.now.takes_token c.args.meaning.now.act
    (option_map asked c.args.meaning.now.made) live peer c.change.new.self within read c.in_ok-change.ensures.changed)
