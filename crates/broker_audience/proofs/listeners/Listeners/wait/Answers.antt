use Rattle.std.proofs.Common.{◌≡◌, ◌<◌, List, length, set, refl, sym, ap, ◌∙◌, subst, arith}
use Rattle.std.proofs.lemmas.List.{length-set}
use Rattle.broker_audience.specs.declared.live.Live.{Live}
use Rattle.broker_audience.specs.Visits.{Peers, changed_at, waits, AreListening}
use Rattle.broker_audience.proofs.NamesStay.{named_written}
use Rattle.broker_audience.proofs.VisitIsPass.{written_at}
use Rattle.broker_audience.proofs.UnmarkedAreQuiet.{listening_changed}
use Rattle.broker_audience.proofs.listeners.Listeners.wait.Goals as goal

pub at_mut-requires : goal.at_mut-requires
at_mut-requires c =
    record { place = subst (λ (v : Peers). c.args.place < length v.items) (sym c.self.view_is) c.requires.place }

pub invariant_of-self : goal.invariant_of-self
invariant_of-self c =
    let live = c.self.inside.peers.items in
    let l = c.self.invariant.0 in
    let within : c.args.place < length live =
    subst (λ (v : Peers). c.args.place < length v.items) (sym c.self.view_is) c.requires.place in
    let f = waits c.args.tokens in
    let peer : Live = c.at_mut.result.now in
    let same = length-set live c.args.place (f peer) in
    let written : set live c.args.place (f peer) ≡ changed_at c.args.place f live =
    written_at f c.args.place live peer (f peer) within c.at_mut.ensures.value refl in
    let listening : AreListening (changed_at c.args.place f live) c.self.inside.told.places c.self.inside.due.places =
    listening_changed f c.args.place live c.self.inside.told.places c.self.inside.due.places c.self.inside.told.places
    c.self.inside.due.places within l
    (record {
      told_within = l.told_within;
      due_within = l.due_within;
      told_before = λ k off. off;
      due_before = λ k off. off;
      quiet = λ l off quiet. quiet;
      calm = λ d off calm. record { choked = calm.choked; refused = calm.refused };
      bounded = λ l bounded. bounded;
    }) in (
      subst (λ (ls : List Live). AreListening ls c.self.inside.told.places c.self.inside.due.places) (sym written)
          listening,
      omega (arith, same, c.self.invariant.1),
      omega (arith, same, c.self.invariant.2),
      named_written c.self.inside.peers c.args.place peer (f peer) c.self.invariant.3 c.at_mut.ensures.value refl refl,
    )

pub returns : goal.returns
returns c =
    let live = c.self.inside.peers.items in
    let within : c.args.place < length live =
    subst (λ (v : Peers). c.args.place < length v.items) (sym c.self.view_is) c.requires.place in
    let f = waits c.args.tokens in
    record {
      items = written_at f c.args.place live c.at_mut.result.now (f c.at_mut.result.now) within
          c.at_mut.ensures.value refl
          ∙ ap (λ (v : Peers). changed_at c.args.place f v.items) c.self.view_is;
    }
