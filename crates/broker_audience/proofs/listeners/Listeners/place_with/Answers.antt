use Rattle.std.proofs.Common.{ℕ, Option, Some, None, IfSome, IfNone, subst}
use Rattle.broker_audience.specs.declared.live.Live.{Live}
use Rattle.broker_audience.specs.Seated.{Roster, AreNamed}
use Rattle.broker_audience.specs.Visits.{Peers, IsAt, HasNone, AreInOrder}
use Rattle.broker_audience.proofs.NamesStay.{named_order, label_at, no_label}
use Rattle.broker_audience.proofs.listeners.Listeners.place_with.Goals as goal

found : (r : Roster) (q : ℕ) (o : Option ℕ) → AreNamed r → IfSome o (IsAt (λ n. n) q r.labels) →
    IfSome o (IsAt (λ (l : Live). l.label) q r.items)
found r q None named at = tt
found r q (Some place) named at = label_at r q place named at

nowhere : (r : Roster) (q : ℕ) (o : Option ℕ) → AreNamed r → IfNone o (HasNone (λ n. n) q r.labels) →
    IfNone o (HasNone (λ (l : Live). l.label) q r.items)
nowhere r q None named none = no_label r q named none
nowhere r q (Some place) named none = tt

pub place_with-requires : goal.place_with-requires
place_with-requires c = record { rising = c.self.invariant.3.labels_rise }

pub returns-clause-found : goal.returns-clause-found
returns-clause-found c =
    subst (λ (v : Peers). IfSome c.place_with.result (IsAt (λ l. l.label) c.args.label v.items)) c.self.view_is
    (found c.self.inside.peers c.args.label c.place_with.result c.self.invariant.3 c.place_with.ensures.found)

pub returns-clause-none : goal.returns-clause-none
returns-clause-none c =
    subst (λ (v : Peers). IfNone c.place_with.result (HasNone (λ l. l.label) c.args.label v.items)) c.self.view_is
    (nowhere c.self.inside.peers c.args.label c.place_with.result c.self.invariant.3 c.place_with.ensures.none)

pub returns-clause-order : goal.returns-clause-order
returns-clause-order c =
    subst (λ (v : Peers). AreInOrder v.items) c.self.view_is (named_order c.self.inside.peers c.self.invariant.3)
