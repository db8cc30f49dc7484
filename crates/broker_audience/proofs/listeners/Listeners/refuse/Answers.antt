use Rattle.std.proofs.Common.{◌≡◌, ◌<◌, List, length, set, refl, sym, ap, ◌∙◌, subst, arith}
use Rattle.std.proofs.lemmas.List.{length-set}
use Rattle.broker_audience.specs.declared.live.Live.{Live}
use Rattle.broker_audience.specs.Visits.{Peers, changed_at, refusing, AreListening}
use Rattle.broker_audience.proofs.NamesStay.{named_written}
use Rattle.broker_audience.proofs.VisitIsPass.{written_at}
use Rattle.broker_audience.proofs.UnmarkedAreQuiet.{listening_changed, is_here, or_right}
use Rattle.broker_audience.proofs.listeners.Listeners.refuse.Goals as goal

pub at_mut-requires : goal.at_mut-requires
at_mut-requires c =
    record { place = subst (λ (v : Peers). c.args.place < length v.items) (sym c.self.view_is) c.requires.place }

pub mark-requires : goal.mark-requires
mark-requires c =
    let within : c.args.place < length c.self.inside.peers.items =
    subst (λ (v : Peers). c.args.place < length v.items) (sym c.self.view_is) c.requires.place in
    record { place = omega (arith, within, c.self.invariant.2) }

written : (c : goal.After-mark) → set c.self.inside.peers.items c.args.place (refusing c.at_mut.result.now)
    ≡ changed_at c.args.place refusing c.self.inside.peers.items
written c =
    written_at refusing c.args.place c.self.inside.peers.items c.at_mut.result.now (refusing c.at_mut.result.now)
    (subst (λ (v : Peers). c.args.place < length v.items) (sym c.self.view_is) c.requires.place)
    c.at_mut.ensures.value refl

pub invariant_of-self : goal.invariant_of-self
invariant_of-self c =
    let live = c.self.inside.peers.items in
    let l = c.self.invariant.0 in
    let within : c.args.place < length live =
    subst (λ (v : Peers). c.args.place < length v.items) (sym c.self.view_is) c.requires.place in
    let same = length-set live c.args.place (refusing c.at_mut.result.now) in
    let listening : AreListening
    (changed_at c.args.place refusing live) c.self.inside.told.places c.mark.new.self.places =
    listening_changed refusing c.args.place live c.self.inside.told.places c.self.inside.due.places
    c.self.inside.told.places c.mark.new.self.places within l
    (record {
      told_within = l.told_within;
      due_within = c.mark.ensures.within (length live) l.due_within within;
      told_before = λ k off. off;
      due_before = λ k off. or_right _ _ (sym (c.mark.ensures.marked k) ∙ off);
      quiet = λ l off quiet. quiet;
      calm = λ d off calm. absurd (is_here _ c.args.place (sym (c.mark.ensures.marked c.args.place) ∙ off));
      bounded = λ l bounded. bounded;
    }) in (
      subst (λ (ls : List Live). AreListening ls c.self.inside.told.places c.mark.new.self.places) (sym (written c))
          listening,
      omega (arith, same, c.self.invariant.1),
      omega (arith, same, c.self.invariant.2, c.mark.ensures.bound),
      named_written c.self.inside.peers c.args.place c.at_mut.result.now (refusing c.at_mut.result.now)
          c.self.invariant.3 c.at_mut.ensures.value refl refl,
    )

pub returns : goal.returns
returns c = record { items = written c ∙ ap (λ (v : Peers). changed_at c.args.place refusing v.items) c.self.view_is }
