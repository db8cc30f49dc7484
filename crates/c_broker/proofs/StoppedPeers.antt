-- What becomes of a peer whose bytes aren't read on.
use Rattle.std.proofs.Common.{◌≡◌, ℕ, List, [], Bool, true, false, Option, Some, None, Ok, Err, refl, ap, sym, subst, ◌∙◌}
use Rattle.std.specs.Prelude.{Result, cond, nat_eq, IfSome, IfNone, OnOk, OnErr, IsOk}
use Rattle.broker_steps.specs.declared.stamp.Stamp.{Stamp}
use Rattle.broker_model.specs.declared.journal.Entry.{Entry}
use Rattle.broker_core.specs.declared.answers.Refused.{Refused}
use Rattle.broker_core.specs.declared.answers.Refused.TheVariants as refused
use Rattle.broker_core.specs.Broker.{Broker}
use Rattle.c_broker.specs.Steps.{Plays, not_done}
use Rattle.c_broker.specs.Seated.{Held, waiting, WaitsAt, Keeps, HoldsOn, IfStopped, PlaysOrStops, Received, all_gone, ending_from, stopping}

-- a peer's end is taken unless it is refused
pub ends_by : (o : Option Refused) (r : Result (Unit {0}) Refused) (ended b after : Broker) →
    IfSome o (λ why. r ≡ Err why) → IfNone o (IsOk r) → OnOk r (after ≡ ended) → OnErr r (after ≡ b) →
    after ≡ ending_from o ended b
ends_by None (Ok done) ended b after refused accepted ok err = ok
ends_by None (Err why) ended b after refused accepted ok err = let none : ⊥ = cc in absurd none
ends_by (Some why) (Err other) ended b after refused accepted ok err = err
ends_by (Some why) (Ok done) ended b after refused accepted ok err = let none : ⊥ = cc in absurd none

-- the peer's bytes are these from now on, whatever they were before
cond_twice : (b : Bool) (l m rest : List ℕ) → cond b m (cond b l rest) ≡ cond b m rest
cond_twice true l m rest = refl
cond_twice false l m rest = refl

waits_twice : (old mid new : Held) (q : ℕ) (l m : List ℕ) → WaitsAt old mid q l → WaitsAt mid new q m →
    WaitsAt old new q m
waits_twice old mid new q l m h k =
    λ other. k other ∙ ap (cond (nat_eq q other) m) (h other)
    ∙ cond_twice (nat_eq q other) l m (waiting old other)

pub stops_plays : (q : ℕ) (given : Stamp) (steps : List Entry) (b mid after : Broker) (why : Refused)
    (r : Result (Unit {0}) Refused) → r ≡ not_done why → Plays q given steps b (not_done why) mid →
    after ≡ stopping q given r mid → PlaysOrStops q given steps b r after
stops_plays q given steps b mid after why r is p e = record {
  broker = mid;
  plays = subst (λ (x : Result (Unit {0}) Refused). Plays q given steps b x mid) (sym is) p;
  ended = e;
}

keeps_on : (old mid new : Held) (q : ℕ) (bytes : List ℕ) (why : Refused) → Keeps old mid q bytes (not_done why) →
    HoldsOn mid new q (not_done why) → Keeps old new q bytes (not_done why)
keeps_on old mid new q bytes refused.NoPeer k h =
    subst (λ (x : Held). Keeps old x q bytes (not_done refused.NoPeer)) (sym h) k
keeps_on old mid new q bytes (refused.Ended cause) k h =
    subst (λ (x : Held). Keeps old x q bytes (not_done (refused.Ended cause))) (sym h) k
keeps_on old mid new q bytes (refused.JournalFull kept) k h = record {
  left = [];
  held = waits_twice old mid new q k.left [] k.held h;
  reads = tt;
}
keeps_on old mid new q bytes refused.NoMemory k h = record {
  left = [];
  held = waits_twice old mid new q k.left [] k.held h;
  reads = tt;
}

pub stops_keeps : (old mid new : Held) (q : ℕ) (bytes : List ℕ) (why : Refused) (r : Result (Unit {0}) Refused) →
    r ≡ not_done why → Keeps old mid q bytes (not_done why) → HoldsOn mid new q r → Keeps old new q bytes r
stops_keeps old mid new q bytes why r is k h =
    subst (λ (x : Result (Unit {0}) Refused). Keeps old new q bytes x) (sym is)
    (keeps_on old mid new q bytes why k
    (subst (λ (x : Result (Unit {0}) Refused). HoldsOn mid new q x) is h))

none_left : (old mid new : Held) (q : ℕ) (bytes : List ℕ) (why : Refused) → Keeps old mid q bytes (not_done why) →
    HoldsOn mid new q (not_done why) → IfStopped (not_done why) (WaitsAt old new q [])
none_left old mid new q bytes refused.NoPeer k h = tt
none_left old mid new q bytes (refused.Ended cause) k h = tt
none_left old mid new q bytes (refused.JournalFull kept) k h = waits_twice old mid new q k.left [] k.held h
none_left old mid new q bytes refused.NoMemory k h = waits_twice old mid new q k.left [] k.held h

pub stops_held : (old mid new : Held) (q : ℕ) (bytes : List ℕ) (why : Refused) (r : Result (Unit {0}) Refused) →
    r ≡ not_done why → Keeps old mid q bytes (not_done why) → HoldsOn mid new q r →
    IfStopped r (WaitsAt old new q [])
stops_held old mid new q bytes why r is k h =
    subst (λ (x : Result (Unit {0}) Refused). IfStopped x (WaitsAt old new q [])) (sym is)
    (none_left old mid new q bytes why k
    (subst (λ (x : Result (Unit {0}) Refused). HoldsOn mid new q x) is h))

pub received_by : (o : Option Refused) (q : ℕ) (given : Stamp) (steps : List Entry) (b mid after : Broker)
    (r : Result (Unit {0}) Refused) → PlaysOrStops q given steps b r mid → after ≡ all_gone mid →
    IfNone o (Received q given steps b r after)
received_by None q given steps b mid after r p is = record {
  broker = p.broker;
  plays = p.plays;
  gone = is ∙ ap all_gone p.ended;
}
received_by (Some why) q given steps b mid after r p is = tt
