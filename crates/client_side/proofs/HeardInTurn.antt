-- What is heard goes on by what one event more makes happen.
use Rattle.std.proofs.Common.{◌≡◌, ℕ, ◌+◌, List, [], ◌∷◌, ◌++◌, drop, refl, sym, ap, subst}
use Rattle.wl_proto.specs.declared.interface.Interface.{Interface}
use Rattle.wl_proto.specs.declared.event.Event.{Event}
use Rattle.wl_wire.specs.Fronts.{IsFrontMessage}
use Rattle.client_side.specs.Events.{object_in, IsEventTo}
use Rattle.client_side.specs.Client.{Step, Takes, IsWrong}
use Rattle.client_side.specs.Heard.{Reached, telling, Hears, HearsWrong}
use Rattle.client_side.proofs.EventsInTurn.{none_taken, next_front}

pub reached_append : {H : Type 0} {E : Type 0} (may_follow : H → E → H → Type 0) (before mid after : H) (xs ys : List E)
    → Reached may_follow before xs mid → Reached may_follow mid ys after → Reached may_follow before (xs ++ ys) after
reached_append {H} {E} may_follow before mid after [] ys first then =
    subst (λ (h : H). Reached may_follow h ys after) first then
reached_append may_follow before mid after (x ∷ xs) ys first then =
    (first.0, first.1, reached_append may_follow first.0 mid after xs ys first.2 then)

-- nothing is heard, and the state stays
pub none_heard : {S : Type 0} {H : Type 0} {E : Type 0} (objects : List Interface) (step : Step S)
    (each : Event → S → List E) (may_follow : H → E → H → Type 0) (old new : S) (bytes : List ℕ) (h : H) → new ≡ old
    → Hears objects step each may_follow old new bytes bytes h h
none_heard {S} {H} {E} objects step each may_follow old new bytes h is = record {
  told = [];
  takes =
      subst (λ (s : S). Takes objects (telling step each) (old, []) (s, []) bytes bytes) (sym is)
      (none_taken objects (telling step each) (old, []) bytes);
  reached = refl;
}

-- one more event
pub next_heard : {S : Type 0} {H : Type 0} {E : Type 0} (objects : List Interface) (step : Step S)
    (each : Event → S → List E) (may_follow : H → E → H → Type 0) (old now new : S) (bytes rest : List ℕ)
    (at n id opcode : ℕ) (body : List ℕ) (event : Event) (before mid after : H)
    → Hears objects step each may_follow old now bytes (drop at bytes) before mid
    → rest ≡ drop at bytes → IsFrontMessage id opcode body rest n
    → IsEventTo (object_in objects id) opcode body event → new ≡ step event now
    → Reached may_follow mid (each event now) after
    → Hears objects step each may_follow old new bytes (drop (at + n) bytes) before after
next_heard {S} {H} {E} objects step each may_follow old now new bytes rest at n id opcode body event before mid after
    heard rest-is f is then goes =
    let told : List E = heard.told ++ each event now in
    record {
      told = told;
      takes =
          next_front objects (telling step each) (old, []) (now, heard.told)
          (new, told) bytes rest at n id opcode body event
          heard.takes rest-is f is (ap (λ (s : S). (s, told)) then);
      reached = reached_append may_follow before mid after heard.told (each event now) heard.reached goes;
    }

-- what is heard of bytes that were held and of a piece behind them
pub heard_of : {S : Type 0} {H : Type 0} {E : Type 0} (objects : List Interface) (step : Step S)
    (each : Event → S → List E) (may_follow : H → E → H → Type 0) (was old new : S) (bytes all rest : List ℕ)
    (before after : H) → was ≡ old → bytes ≡ all
    → Hears objects step each may_follow was new bytes rest before after
    → Hears objects step each may_follow old new all rest before after
heard_of {S} {H} {E} objects step each may_follow was old new bytes all rest before after state held heard =
    subst (λ (b : List ℕ). Hears objects step each may_follow old new b rest before after) held
    (subst (λ (s : S). Hears objects step each may_follow s new bytes rest before after) state heard)

-- what is left goes wrong, and neither the state nor the hearer changes by it
pub then_wrong : {S : Type 0} {H : Type 0} {E : Type 0} (objects : List Interface) (step : Step S)
    (each : Event → S → List E) (may_follow : H → E → H → Type 0) (old now new : S) (bytes rest : List ℕ)
    (before mid after : H)
    → Hears objects step each may_follow old now bytes rest before mid → new ≡ now → after ≡ mid → IsWrong objects rest
    → HearsWrong objects step each may_follow old new bytes before after
then_wrong {S} {H} {E} objects step each may_follow old now new bytes rest before mid after heard state hearer wrong =
    record {
      rest = rest;
      heard =
          subst (λ (h : H). Hears objects step each may_follow old new bytes rest before h) (sym hearer)
          (subst (λ (s : S). Hears objects step each may_follow old s bytes rest before mid) (sym state) heard);
      wrong = wrong;
    }
