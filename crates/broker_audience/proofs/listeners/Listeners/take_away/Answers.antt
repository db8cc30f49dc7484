use Rattle.std.proofs.Common.{◌≡◌, suc, ◌+◌, ◌<◌, not, [], length, filter, sym, ap, ◌∙◌, subst, arith}
use Rattle.std.specs.List.{remove}
use Rattle.std.proofs.lemmas.List.Edits.{length-remove}
use Rattle.std.proofs.lemmas.Option.{get_or_from_slice_get}
use Rattle.broker_audience.specs.declared.live.Live.{Live}
use Rattle.broker_audience.specs.Lives.{is_number, number_of}
use Rattle.broker_audience.specs.Marks.{AreWithin}
use Rattle.broker_audience.specs.Visits.{Peers}
use Rattle.broker_audience.proofs.NamesStay.{named_removed, named_order, number_at, no_number}
use Rattle.broker_audience.proofs.UnmarkedAreQuiet.{listening_removed, number_there, number_nowhere}
use Rattle.broker_audience.proofs.PlaceByNumber.{nobody_found, nobody_left_out, removed}
use Rattle.broker_audience.proofs.listeners.Listeners.take_away.Goals as goal

pub place_of-requires : goal.place_of-requires
place_of-requires c = record { rising = c.self.invariant.3.numbers_rise }

nobody : (c : goal.After-from_residual) → filter (is_number c.args.number) c.args.self.now.items ≡ []
nobody c = subst (λ (v : Peers). filter (is_number c.args.number) v.items ≡ []) c.self.view_is
    (number_nowhere c.args.number c.self.inside.peers.items
    (no_number c.self.inside.peers c.args.number c.self.invariant.3 c.in_err-place.ensures.none))

pub returns-in_err-place-clause-taken : goal.returns-in_err-place-clause-taken
returns-in_err-place-clause-taken c =
    c.from_residual.ensures ∙ sym (nobody_found c.args.number c.args.self.now.items (nobody c))

pub returns-in_err-place-clause-left : goal.returns-in_err-place-clause-left
returns-in_err-place-clause-left c = nobody_left_out c.args.number c.args.self.now.items (nobody c)

pub invariant_of-self : goal.invariant_of-self
invariant_of-self c =
    let live = c.self.inside.peers.items in
    let l = c.self.invariant.0 in
    let place = c.in_ok-place.place in
    let at = number_at c.self.inside.peers c.args.number place c.self.invariant.3 c.in_ok-place.ensures.found in
    let within : place < length live = at.within in
    let shorter : length (remove live place) + 1 ≡ length live = length-remove live place within in
    let longer : length live ≡ suc (length (remove live place)) = omega arith in
    let told : AreWithin 0 (length (remove live place)) c.leave_out.new.self.places =
    c.leave_out.ensures.within (length (remove live place))
    (subst (λ n. AreWithin 0 n c.self.inside.told.places) longer l.told_within) (omega arith) in
    let due : AreWithin 0 (length (remove live place)) c.leave_out-2.new.self.places =
    c.leave_out-2.ensures.within (length (remove live place))
    (subst (λ n. AreWithin 0 n c.self.inside.due.places) longer l.due_within) (omega arith) in
    let here : length c.remove.new.self.items ≡ length (remove live place) = ap length c.remove.ensures.items in (
      rw c.remove.ensures.items
          (listening_removed place live c.self.inside.told.places c.self.inside.due.places c.leave_out.new.self.places
          c.leave_out-2.new.self.places within l told due
          c.leave_out.ensures.marked c.leave_out-2.ensures.marked),
      omega (arith, here, shorter, c.self.invariant.1, c.leave_out.ensures.bound),
      omega (arith, here, shorter, c.self.invariant.2, c.leave_out-2.ensures.bound),
      named_removed c.self.inside.peers c.remove.new.self place c.self.invariant.3 c.remove.ensures.numbers
          c.remove.ensures.labels c.remove.ensures.items,
    )

pub returns-clause-taken : goal.returns-clause-taken
returns-clause-taken c =
    sym c.remove.ensures.left
    ∙ number_there c.args.number 0 c.in_ok-place.place c.self.inside.peers.items
    (named_order c.self.inside.peers c.self.invariant.3).numbers
    (number_at c.self.inside.peers c.args.number c.in_ok-place.place c.self.invariant.3 c.in_ok-place.ensures.found)
    ∙ ap (λ (v : Peers). number_of c.args.number v.items) c.self.view_is

pub returns-clause-left : goal.returns-clause-left
returns-clause-left c =
    let live = c.self.inside.peers.items in
    let number : c.remove.result.number ≡ c.args.number =
    ap (λ (l : Live). l.number)
    (sym (get_or_from_slice_get live c.in_ok-place.place c.remove.result c.remove.result c.remove.ensures.left))
    ∙ (number_at c.self.inside.peers c.args.number c.in_ok-place.place c.self.invariant.3
    c.in_ok-place.ensures.found).has c.remove.result in
    c.remove.ensures.items
    ∙ removed c.args.number c.in_ok-place.place live c.remove.result
    (named_order c.self.inside.peers c.self.invariant.3).numbers
    c.remove.ensures.left number
    ∙ ap (λ (v : Peers). filter (λ l. not (is_number c.args.number l)) v.items) c.self.view_is
