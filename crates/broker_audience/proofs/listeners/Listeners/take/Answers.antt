use Rattle.std.proofs.Common.{◌≡◌, ◌<◌, ◌++◌, List, Option, Some, IfSome, length, slice_get, set, min, take, drop, refl, sym, ap, ◌∙◌, subst, arith}
use Rattle.std.proofs.lemmas.List.{length-set, length-drop}
use Rattle.out_store.specs.Queue.{Queue, bytes_of, tokens_of}
use Rattle.broker_audience.specs.declared.live.Live.{Live}
use Rattle.broker_audience.specs.Visits.{Peers, changed_at, taken, AreListening}
use Rattle.broker_audience.proofs.NamesStay.{named_written}
use Rattle.broker_audience.proofs.VisitIsPass.{written_at}
use Rattle.broker_audience.proofs.UnmarkedAreQuiet.{listening_changed}
use Rattle.broker_audience.proofs.listeners.Listeners.take.Goals as goal

pub at_mut-requires : goal.at_mut-requires
at_mut-requires c =
    record { place = subst (λ (v : Peers). c.args.place < length v.items) (sym c.self.view_is) c.requires.place }

written : (c : goal.After-slice_known-4-1) →
    set c.self.inside.peers.items c.args.place (record c.at_mut.result.now { store = c.take.new.self })
    ≡ changed_at c.args.place (taken c.take.result.0) c.self.inside.peers.items
written c =
    written_at (taken c.take.result.0) c.args.place c.self.inside.peers.items c.at_mut.result.now
    (record c.at_mut.result.now { store = c.take.new.self })
    (subst (λ (v : Peers). c.args.place < length v.items) (sym c.self.view_is) c.requires.place)
    c.at_mut.ensures.value (ap (λ (q : Queue). record c.at_mut.result.now { store = q }) c.take.ensures.rest)

pub invariant_of-self : goal.invariant_of-self
invariant_of-self c =
    let live = c.self.inside.peers.items in
    let l = c.self.invariant.0 in
    let within : c.args.place < length live =
    subst (λ (v : Peers). c.args.place < length v.items) (sym c.self.view_is) c.requires.place in
    let f = taken c.take.result.0 in
    let same = length-set live c.args.place (record c.at_mut.result.now { store = c.take.new.self }) in
    let listening : AreListening (changed_at c.args.place f live) c.self.inside.told.places c.self.inside.due.places =
    listening_changed f c.args.place live c.self.inside.told.places c.self.inside.due.places c.self.inside.told.places
    c.self.inside.due.places within l
    (record {
      told_within = l.told_within;
      due_within = l.due_within;
      told_before = λ k off. off;
      due_before = λ k off. off;
      quiet = λ l off quiet. quiet;
      calm = λ d off calm. record { choked = calm.choked; refused = calm.refused };
      bounded = λ l bounded. let fewer = length-drop c.take.result.0 l.store.cells in omega (arith, bounded, fewer);
    }) in (
      subst (λ (ls : List Live). AreListening ls c.self.inside.told.places c.self.inside.due.places) (sym (written c))
          listening,
      omega (arith, same, c.self.invariant.1),
      omega (arith, same, c.self.invariant.2),
      named_written c.self.inside.peers c.args.place c.at_mut.result.now
          (record c.at_mut.result.now { store = c.take.new.self }) c.self.invariant.3 c.at_mut.ensures.value refl refl,
    )

pub returns-clause-rest : goal.returns-clause-rest
returns-clause-rest c =
    written c ∙ ap (λ (v : Peers). changed_at c.args.place (taken c.take.result.0) v.items) c.self.view_is

-- the one at the place
there : (c : goal.After-slice_known-4-1) → slice_get c.args.self.now.items c.args.place ≡ Some c.at_mut.result.now
there c =
    subst (λ (v : Peers). slice_get v.items c.args.place ≡ Some c.at_mut.result.now) c.self.view_is
    c.at_mut.ensures.value

pub returns-clause-count : goal.returns-clause-count
returns-clause-count c =
    subst (λ (o : Option Live). IfSome o (λ l. c.take.result.0 ≡ min (length c.args.buf.now) (length l.store.cells)))
    (sym (there c)) c.take.ensures.count

pub returns-clause-bytes : goal.returns-clause-bytes
returns-clause-bytes c =
    subst (λ (o : Option Live). IfSome o
    (λ l. c.take.new.buf ≡ bytes_of (take c.take.result.0 l.store.cells) ++ drop c.take.result.0 c.args.buf.now))
    (sym (there c)) c.take.ensures.bytes

pub returns-clause-token_count : goal.returns-clause-token_count
returns-clause-token_count c =
    subst (λ (o : Option Live). IfSome o
    (λ l. c.take.result.1 ≡ length (tokens_of (take c.take.result.0 l.store.cells))))
    (sym (there c)) c.take.ensures.token_count

pub returns-clause-tokens : goal.returns-clause-tokens
returns-clause-tokens c =
    subst (λ (o : Option Live). IfSome o
    (λ l. c.take.new.tokens ≡ tokens_of (take c.take.result.0 l.store.cells) ++ drop c.take.result.1 c.args.tokens.now))
    (sym (there c)) c.take.ensures.tokens
