-- What telling makes of a live peer is what the definitions say.
use Rattle.std.proofs.Common.{◌≡◌, ℕ, ◌+◌, ◌-◌, ◌<◌, ◌≤◌, List, [], ◌∷◌, ◌++◌, length, map, Bool, true, false, not, nat_le, refl, sym, ap, ap₂, ◌∙◌, subst, arith, length-append}
use Rattle.std.specs.List.{AllByRecursion}
use Rattle.std.proofs.lemmas.Bool.{not-true, leb-false, lt-leb, true≢false}
use Rattle.out_store.specs.Queue.{Cell, Queue, queue, cells_of}
use Rattle.relay_model.specs.declared.said.Told.{Told}
use Rattle.relay_model.specs.Told.{told}
use Rattle.broker_model.specs.declared.journal.Entry.{Entry}
use Rattle.broker_model.specs.Ids.{Made}
use Rattle.broker_model.specs.Resolve.{past_of, resolve}
use Rattle.broker_model.specs.Groups.{Piece, pair_of, group_for}
use Rattle.broker_model.specs.Out.{Outgoing, fits, with_group, act_at, before_group, out_for}
use Rattle.broker_model.specs.Stored.{cells_out, AreSpaced}
use Rattle.broker_model.specs.Settle.{refused}
use Rattle.broker_model.specs.Tables.{calls_for}
use Rattle.broker_model.proofs.StoresAreOut.{fits_stored, put_cells, spaced_out}
use Rattle.im_objects.specs.Objects as table
use Rattle.broker_audience.specs.declared.live.Live.{Live}
use Rattle.broker_audience.specs.Gathered.{empty}
use Rattle.broker_audience.specs.Heard.{heard}
use Rattle.broker_audience.specs.Lives.{Numbered, who, cleared, has_heard, has_room, delivered, told_all}
use Rattle.broker_core.specs.Stands.{Holds, IsLive, IsReady}
use Rattle.broker_core.proofs.GatheredGroup.{IsGathered, gathered_all}

-- what telling leaves as it was
pub record IsSame (before after : Live) : Type 0 where
  pub number : after.number ≡ before.number
  pub label : after.label ≡ before.label
  pub role : after.role ≡ before.role
  pub table : after.table ≡ before.table
  pub refused : after.is_refused ≡ before.is_refused
  pub waiting : after.waiting ≡ before.waiting
  pub who : who after ≡ who before

-- a live peer that was told a group, after which this is out for it
pub record IsPut (capacity : ℕ) (next : Outgoing) (before after : Live) : Type 0 where
  pub holds : Holds capacity next after.store
  pub choked : after.is_choked ≡ next.choked
  pub room : after.gathering.capacity ≡ capacity
  pub same : IsSame before after

-- a store's own test says what fits of what is gathered

too_long : (capacity : ℕ) (group : Piece) (out : Outgoing) → not (nat_le (length group.bytes) capacity) ≡ true →
    fits capacity group out ≡ false
too_long capacity group out h =
    let past : capacity < length group.bytes = leb-false _ _ (not-true _ h) in
    lt-leb ((length out.put.bytes - out.taken) + length group.bytes) capacity (omega arith)

-- what the live peer heard is what is gathered, and its store is as it was
record IsHeard (capacity : ℕ) (group : Piece) (out : Outgoing) (l : Live) : Type 0 where
  gathered : IsGathered capacity group l.gathering
  holds : Holds capacity out l.store
  choked : l.is_choked ≡ out.choked

room_is : (capacity : ℕ) (group : Piece) (out : Outgoing) (l : Live) → IsHeard capacity group out l →
    has_room l ≡ fits capacity group out
room_is capacity group out l h = by l.gathering.is_over refl
  where
    by : (b : Bool) → l.gathering.is_over ≡ b → has_room l ≡ fits capacity group out
    by true e = rw (e, too_long capacity group out (sym h.gathered.over ∙ e)) refl
    by false e =
        rw e
        (ap (λ (store : Queue). nat_le (length store.cells + length l.gathering.group.bytes) store.capacity)
        h.holds.cells
        ∙ ap (λ (a : Piece). nat_le (length (cells_out out) + length a.bytes) capacity) (h.gathered.whole e)
        ∙ fits_stored capacity group out)

-- there is room only for a whole group
whole_is : (capacity : ℕ) (group : Piece) (out : Outgoing) (l : Live) → IsHeard capacity group out l →
    has_room l ≡ true → l.gathering.group ≡ group
whole_is capacity group out l h r = by l.gathering.is_over refl
  where
    by : (b : Bool) → l.gathering.is_over ≡ b → l.gathering.group ≡ group
    by true e = absurd (true≢false (sym r ∙ rw e refl))
    by false e = h.gathered.whole e

put_whole : (capacity : ℕ) (group : Piece) (out : Outgoing) (l : Live) → AreSpaced out.put →
    IsHeard capacity group out l → has_room l ≡ true →
    fits capacity group out ≡ true → IsPut capacity (with_group capacity group out) l (delivered l)
put_whole capacity group out l spaced h r f =
    let put : Queue =
    queue (l.store.cells ++ cells_of l.gathering.group.bytes (map pair_of l.gathering.group.tokens))
    l.store.capacity in
    let is : put ≡ queue (cells_out (with_group capacity group out)) capacity =
    ap (λ (store : Queue). queue
    (store.cells ++ cells_of l.gathering.group.bytes (map pair_of l.gathering.group.tokens)) store.capacity)
    h.holds.cells
    ∙ ap (λ (a : Piece). queue (cells_out out ++ cells_of a.bytes (map pair_of a.tokens)) capacity)
    (whole_is capacity group out l h r)
    ∙ ap (λ (cells : List Cell). queue cells capacity) (sym (put_cells capacity group out spaced h.holds.within f)) in
    let within : out.taken ≤ length out.put.bytes = h.holds.within in
    let longer : out.taken ≤ length (out.put.bytes ++ group.bytes) =
    omega (arith, length-append out.put.bytes group.bytes) in
    let next : Holds capacity (with_group capacity group out) put = record { cells = is; within = rw f longer } in
    let choked : l.is_choked ≡ (with_group capacity group out).choked = rw f h.choked in
    rw r (record {
      holds = next;
      choked = choked;
      room = h.gathered.room;
      same = record {
        number = refl;
        label = refl;
        role = refl;
        table = refl;
        refused = refl;
        waiting = refl;
        who = refl;
      };
    })

left_out : (capacity : ℕ) (group : Piece) (out : Outgoing) (l : Live) → IsHeard capacity group out l →
    has_room l ≡ false →
    fits capacity group out ≡ false → IsPut capacity (with_group capacity group out) l (delivered l)
left_out capacity group out l h r f =
    let next : Holds capacity (with_group capacity group out) l.store =
    rw f (record { cells = h.holds.cells; within = h.holds.within }) in
    let choked : true ≡ (with_group capacity group out).choked = rw f refl in
    rw r (record {
      holds = next;
      choked = choked;
      room = h.gathered.room;
      same = record {
        number = refl;
        label = refl;
        role = refl;
        table = refl;
        refused = refl;
        waiting = refl;
        who = refl;
      };
    })

put_heard : (capacity : ℕ) (group : Piece) (out : Outgoing) (l : Live) → AreSpaced out.put →
    IsHeard capacity group out l →
    IsPut capacity (with_group capacity group out) l (delivered l)
put_heard capacity group out l spaced h = by (has_room l) refl
  where
    by : (b : Bool) → has_room l ≡ b → IsPut capacity (with_group capacity group out) l (delivered l)
    by true r = put_whole capacity group out l spaced h r (sym (room_is capacity group out l h) ∙ r)
    by false r = left_out capacity group out l h r (sym (room_is capacity group out l h) ∙ r)

-- all that is told

is_heard : (capacity : ℕ) (made : List Made) (told : List Told) (out : Outgoing) (l : Live) →
    Holds capacity out l.store →
    l.is_choked ≡ out.choked → l.gathering.capacity ≡ capacity →
    IsHeard capacity (group_for made l.label told) out (has_heard made told (cleared l))
is_heard capacity made told out l holds choked room = record {
  gathered =
      subst (λ (n : ℕ). IsGathered capacity (group_for made l.label told) (heard made l.label told (empty n)))
      (sym room)
      (gathered_all made l.label told capacity);
  holds = holds;
  choked = choked;
}

since_before : (capacity : ℕ) (made : List Made) (told : List Told) (next : Outgoing) (l after : Live) →
    IsPut capacity next (has_heard made told (cleared l)) after → IsPut capacity next l after
since_before capacity made told next l after p = record {
  holds = p.holds;
  choked = p.choked;
  room = p.room;
  same = record {
    number = p.same.number;
    label = p.same.label;
    role = p.same.role;
    table = p.same.table;
    refused = p.same.refused;
    waiting = p.same.waiting;
    who = p.same.who;
  };
}

-- its store, and whether a group was left out, are as the group's bytes and tokens make what is out for it
pub put_all : (capacity : ℕ) (made : List Made) (told : List Told) (out : Outgoing) (l : Live) → AreSpaced out.put →
    Holds capacity out l.store →
    l.is_choked ≡ out.choked → l.gathering.capacity ≡ capacity →
    IsPut capacity (with_group capacity (group_for made l.label told) out) l (told_all made told l)
put_all capacity made told out l spaced holds choked room =
    since_before capacity made told (with_group capacity (group_for made l.label told) out) l (told_all made told l)
    (put_heard capacity (group_for made l.label told) out (has_heard made told (cleared l)) spaced
    (is_heard capacity made told out l holds choked room))

-- the newest entry's act

live_after : (capacity : ℕ) (e : Entry) (older : List Entry) (l after : Live) → IsReady capacity e older l →
    IsPut capacity (out_for capacity (e ∷ older) l.label) l after → IsLive capacity (e ∷ older) after
live_after capacity e older l after r p = record {
  holds = subst (λ (q : ℕ). Holds capacity (out_for capacity (e ∷ older) q) after.store) (sym p.same.label) p.holds;
  choked = p.choked ∙ ap (λ (q : ℕ). (out_for capacity (e ∷ older) q).choked) (sym p.same.label);
  room = p.room;
  table =
      subst (λ (q : ℕ). table.Stands (calls_for (e ∷ older) q) after.table) (sym p.same.label)
      (subst (λ (t : table.Objects). table.Stands (calls_for (e ∷ older) l.label) t) (sym p.same.table) r.table);
  refused = p.same.refused ∙ r.refused ∙ ap (refused (e ∷ older)) (sym p.same.number);
  waiting = p.same.waiting ∙ r.waiting ∙ ap (past_of (e ∷ older)).waiting (sym p.same.label);
}

-- a live peer that was as the definitions say is so after the newest entry's act is told
pub played : (capacity : ℕ) (e : Entry) (older : List Entry) (l : Live) → IsReady capacity e older l →
    IsLive capacity (e ∷ older) (told_all (past_of (e ∷ older)).made (told (act_at e older) (resolve older)) l)
played capacity e older l r =
    live_after capacity e older l (told_all (past_of (e ∷ older)).made (told (act_at e older) (resolve older)) l) r
    (put_all capacity (past_of (e ∷ older)).made (told (act_at e older) (resolve older))
    (before_group e older l.label (out_for capacity older l.label)) l
    (spaced_out capacity older l.label) r.holds r.choked r.room)

-- so is each
pub all_played : (capacity : ℕ) (e : Entry) (older : List Entry) (live : List Live) →
    AllByRecursion (IsReady capacity e older) live →
    AllByRecursion (IsLive capacity (e ∷ older))
    (map (told_all (past_of (e ∷ older)).made (told (act_at e older) (resolve older))) live)
all_played capacity e older [] r = tt
all_played capacity e older (l ∷ rest) r = (played capacity e older l r.0, all_played capacity e older rest r.1)

-- the same peers are alive

who_delivered : (l : Live) → who (delivered l) ≡ who l
who_delivered l = by (has_room l) refl
  where
    by : (b : Bool) → has_room l ≡ b → who (delivered l) ≡ who l
    by true r = rw r refl
    by false r = rw r refl

pub same_who : (made : List Made) (told : List Told) (live : List Live) →
    map who (map (told_all made told) live) ≡ map who live
same_who made told [] = refl
same_who made told (l ∷ rest) =
    ap₂ (λ (n : Numbered) (ns : List Numbered). n ∷ ns) (who_delivered (has_heard made told (cleared l)))
    (same_who made told rest)
