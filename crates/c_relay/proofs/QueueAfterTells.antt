-- What a queue has after several tells.
use Rattle.std.proofs.Common.{◌≡◌, ℕ, ◌+◌, ◌≤◌, List, [], ◌∷◌, ◌++◌, length, Bool, true, false, ap, refl, sym, ◌∙◌, arith}
use Rattle.std.specs.Prelude.{◌||◌}
use Rattle.std.specs.List.{flat_map, list_any}
use Rattle.std.proofs.lemmas.List.{append-nil, append_assoc}
use Rattle.relay_model.specs.declared.said.Told.{Told}
use Rattle.relay_objects.specs.Reached.{Reached}
use Rattle.c_relay.specs.Events.{heard_of}
use Rattle.c_relay.specs.KeptPopups.{tells_place}
use Rattle.c_relay.specs.Waiting.{Waiting, Queues, HasRoomFor}

or_false : (a : Bool) → (a || false) ≡ a
or_false true = refl
or_false false = refl

or_assoc : (a b c : Bool) → ((a || b) || c) ≡ (a || (b || c))
or_assoc true b c = refl
or_assoc false b c = refl

-- the queue has gained all that it was told, where there was room for all, and has room for the rest
pub reached_heard : (ts : List Told) (more : ℕ) (a b : Waiting) → Reached Queues a ts b → HasRoomFor a ts more →
    b.heard ≡ a.heard ++ flat_map heard_of ts
reached_heard [] more a b h r = ap (λ (q : Waiting). q.heard) h ∙ sym (append-nil a.heard)
reached_heard (t ∷ ts) more a b h r =
    let m : Waiting = h.0 in
    let first : m.heard ≡ a.heard ++ heard_of t = h.1.gained (omega (arith, r.0), omega (arith, r.1)) in
    let rest : b.heard ≡ m.heard ++ flat_map heard_of ts =
    reached_heard ts more m b h.2 (omega (arith, r.0, h.1.places), omega (arith, r.1, h.1.bytes)) in
    let group : a.heard ++ heard_of t ++ flat_map heard_of ts ≡ a.heard ++ (heard_of t ++ flat_map heard_of ts) =
    append_assoc a.heard (heard_of t) (flat_map heard_of ts) in
    cc

pub reached_places : (ts : List Told) (a b : Waiting) → Reached Queues a ts b → a.places ≤ b.places + length ts
reached_places [] a b h = let same : b.places ≡ a.places = ap (λ (q : Waiting). q.places) h in omega arith
reached_places (t ∷ ts) a b h =
    let m : Waiting = h.0 in
    let rest : m.places ≤ b.places + length ts = reached_places ts m b h.2 in
    omega (arith, h.1.places)

-- a place was told where one was, or is now
pub reached_placed : (ts : List Told) (a b : Waiting) → Reached Queues a ts b →
    b.has_placed ≡ (a.has_placed || list_any tells_place ts)
reached_placed [] a b h = ap (λ (q : Waiting). q.has_placed) h ∙ sym (or_false a.has_placed)
reached_placed (t ∷ ts) a b h =
    let m : Waiting = h.0 in
    reached_placed ts m b h.2
    ∙ ap (λ v. v || list_any tells_place ts) h.1.placed
    ∙ or_assoc a.has_placed (tells_place t) (list_any tells_place ts)
