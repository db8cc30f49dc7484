-- What is gathered for a peer is the group of the definitions.
use Rattle.std.proofs.Common.{◌≡◌, ℕ, ◌+◌, ◌<◌, ◌≤◌, List, [], ◌∷◌, ◌++◌, length, Bool, true, false, not, nat_le, ◌==◌, if◌then◌else◌, Option, Some, None, refl, sym, ap, ◌∙◌, subst, arith, length-append}
use Rattle.std.proofs.lemmas.Bool.{not-true, leb-true, leb-false, le-leb, lt-leb, true≢false}
use Rattle.wl_proto.specs.Rows.{Message}
use Rattle.wl_proto.specs.Spelling.{message_len, message_bytes}
use Rattle.relay_model.specs.declared.said.Told.{Told}
use Rattle.relay_model.specs.declared.said.Said.{Said}
use Rattle.broker_model.specs.Ids.{Made, made_as}
use Rattle.broker_model.specs.Groups.{Piece, nothing, followed_by, message_of, message_piece, event_piece, group_for}
use Rattle.broker_audience.specs.Gathered.{Gathered, empty, with_message}
use Rattle.broker_audience.specs.Heard.{with_event, hears_at, hears, heard}
use Rattle.broker_core.proofs.BodyLengths.{message_length, behind_nothing, before_nothing, followed_twice}

-- what is gathered where all of this was told: all of it, or it is known that it passes the capacity
pub record IsGathered (capacity : ℕ) (all : Piece) (g : Gathered) : Type 0 where
  pub room : g.capacity ≡ capacity
  pub over : g.is_over ≡ not (nat_le (length all.bytes) capacity)
  pub whole : g.is_over ≡ false → g.group ≡ all

-- from the first message on that does not fit, all of it passes the capacity

still_over : (capacity : ℕ) (all more : Piece) → not (nat_le (length all.bytes) capacity) ≡ true →
    not (nat_le (length (followed_by all more).bytes) capacity) ≡ true
still_over capacity all more h =
    let past : capacity < length all.bytes = leb-false _ _ (not-true _ h) in
    let longer : capacity < length (all.bytes ++ more.bytes) = omega (arith, length-append all.bytes more.bytes) in
    ap not (lt-leb (length (all.bytes ++ more.bytes)) capacity longer)

-- one more message

long_with : (id : ℕ) (m : Message) (all : Piece) →
    length (followed_by all (message_piece id (Some m))).bytes ≡ length all.bytes + message_len m
long_with id m all =
    length-append all.bytes (message_bytes id m) ∙ ap (λ (n : ℕ). length all.bytes + n) (message_length id m)

long_now : (capacity : ℕ) (all : Piece) (g : Gathered) → g.is_over ≡ false → IsGathered capacity all g →
    length g.group.bytes ≡ length all.bytes
long_now capacity all g e h = ap (λ (a : Piece). length a.bytes) (h.whole e)

after_over : (capacity id : ℕ) (m : Message) (all : Piece) (g : Gathered) → g.is_over ≡ true →
    IsGathered capacity all g →
    IsGathered capacity (followed_by all (message_piece id (Some m))) (with_message id m g)
after_over capacity id m all g e h =
    let over = still_over capacity all (message_piece id (Some m)) (sym h.over ∙ e) in
    rw e (record { room = h.room; over = sym over; whole = λ f. absurd (true≢false f) })

where_it_fits : (capacity id : ℕ) (m : Message) (all : Piece) (g : Gathered) → g.is_over ≡ false →
    nat_le (length g.group.bytes + message_len m) g.capacity ≡ true → IsGathered capacity all g →
    IsGathered capacity (followed_by all (message_piece id (Some m))) (with_message id m g)
where_it_fits capacity id m all g e f h =
    let new : Piece = message_piece id (Some m) in
    let long : length g.group.bytes ≡ length all.bytes = long_now capacity all g e h in
    let room : g.capacity ≡ capacity = h.room in
    let fits : length g.group.bytes + message_len m ≤ g.capacity = leb-true _ _ f in
    let within : length (followed_by all new).bytes ≤ capacity = omega (arith, long_with id m all) in
    let over = le-leb (length (followed_by all new).bytes) capacity within in
    rw (e, f) (record {
      room = h.room;
      over = ap not (sym over);
      whole = λ _. ap (λ (a : Piece). followed_by a new) (h.whole e);
    })

where_it_does_not : (capacity id : ℕ) (m : Message) (all : Piece) (g : Gathered) → g.is_over ≡ false →
    nat_le (length g.group.bytes + message_len m) g.capacity ≡ false → IsGathered capacity all g →
    IsGathered capacity (followed_by all (message_piece id (Some m))) (with_message id m g)
where_it_does_not capacity id m all g e f h =
    let new : Piece = message_piece id (Some m) in
    let long : length g.group.bytes ≡ length all.bytes = long_now capacity all g e h in
    let room : g.capacity ≡ capacity = h.room in
    let past : g.capacity < length g.group.bytes + message_len m = leb-false _ _ f in
    let beyond : capacity < length (followed_by all new).bytes = omega (arith, long_with id m all) in
    let over = lt-leb (length (followed_by all new).bytes) capacity beyond in
    rw (e, f) (record { room = h.room; over = ap not (sym over); whole = λ k. absurd (true≢false k) })

message_step : (capacity id : ℕ) (m : Message) (all : Piece) (g : Gathered) → IsGathered capacity all g →
    IsGathered capacity (followed_by all (message_piece id (Some m))) (with_message id m g)
message_step capacity id m all g h = by g.is_over (nat_le (length g.group.bytes + message_len m) g.capacity) refl refl
  where
    by : (b c : Bool) → g.is_over ≡ b → nat_le (length g.group.bytes + message_len m) g.capacity ≡ c →
        IsGathered capacity (followed_by all (message_piece id (Some m))) (with_message id m g)
    by true c e f = after_over capacity id m all g e h
    by false true e f = where_it_fits capacity id m all g e f h
    by false false e f = where_it_does_not capacity id m all g e f h

-- one more thing told

nothing_more : (capacity : ℕ) (all : Piece) (g : Gathered) → IsGathered capacity all g →
    IsGathered capacity (followed_by all nothing) g
nothing_more capacity all g h = subst (λ (a : Piece). IsGathered capacity a g) (sym (before_nothing all)) h

event_step : (capacity id : ℕ) (m : Option Message) (all : Piece) (g : Gathered) → IsGathered capacity all g →
    IsGathered capacity (followed_by all (message_piece id m)) (with_event id m g)
event_step capacity id None all g h = nothing_more capacity all g h
event_step capacity id (Some m) all g h = message_step capacity id m all g h

object_step : (capacity : ℕ) (made : List Made) (p : ℕ) (event : Said) (m : Option Made) (all : Piece) (g : Gathered) →
    IsGathered capacity all g →
    IsGathered capacity (followed_by all (event_piece made p event m)) (hears_at made p event m g)
object_step capacity made p event None all g h = nothing_more capacity all g h
object_step capacity made p event (Some m) all g h = by (m.peer == p)
  where
    by : (b : Bool) →
        IsGathered capacity (followed_by all (if b then message_piece m.id (message_of made event) else nothing))
        (if b then with_event m.id (message_of made event) g else g)
    by true = event_step capacity m.id (message_of made event) all g h
    by false = nothing_more capacity all g h

-- all that is told, behind what was gathered before
gathered_behind : (made : List Made) (p : ℕ) (told : List Told) (capacity : ℕ) (all : Piece) (g : Gathered) →
    IsGathered capacity all g →
    IsGathered capacity (followed_by all (group_for made p told)) (heard made p told g)
gathered_behind made p [] capacity all g h = nothing_more capacity all g h
gathered_behind made p (t ∷ rest) capacity all g h =
    let new : Piece = event_piece made p t.event (made_as made t.to) in
    subst (λ (a : Piece). IsGathered capacity a (heard made p rest (hears made p t g)))
    (followed_twice all new (group_for made p rest))
    (gathered_behind made p rest capacity (followed_by all new) (hears made p t g)
    (object_step capacity made p t.event (made_as made t.to) all g h))

none_gathered : (capacity : ℕ) → IsGathered capacity nothing (empty capacity)
none_gathered capacity =
    record { room = refl; over = ap not (sym (le-leb 0 capacity (omega arith))); whole = λ _. refl }

-- so a whole group is gathered, or it is known that it passes the capacity
pub gathered_all : (made : List Made) (p : ℕ) (told : List Told) (capacity : ℕ) →
    IsGathered capacity (group_for made p told) (heard made p told (empty capacity))
gathered_all made p told capacity =
    subst (λ (a : Piece). IsGathered capacity a (heard made p told (empty capacity)))
    (behind_nothing (group_for made p told))
    (gathered_behind made p told capacity nothing (empty capacity) (none_gathered capacity))
