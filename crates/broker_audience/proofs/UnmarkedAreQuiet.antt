-- Who isn't marked is quiet and calm: each change keeps that.
use Rattle.std.proofs.Common.{◌≡◌, ℕ, zero, suc, ◌+◌, ◌<◌, Bool, true, false, ◌||◌, ◌&&◌, not, eqb, ltb, leb, List, [], ◌∷◌, ◌++◌, length, get_or, take, map, filter, Some, None, slice_get, if◌then◌else◌, refl, sym, ap, ◌∙◌, arith, inl, inr}
use Rattle.std.specs.Prelude.{◌==◌}
use Rattle.std.specs.List.{remove}
use Rattle.std.proofs.lemmas.Bool.{cases_eq, cases_lt, eq-eqb, ne_eqb, lt-ltb, le-ltb, le-leb, leb-true, eqb-true, and_parts}
use Rattle.std.proofs.lemmas.Option.{get_or_from_slice_get}
use Rattle.std.proofs.lemmas.List.{get_or-map, length-map, length-append, get_or_append_left, get_or_push, take_more, append-nil}
use Rattle.std.proofs.lemmas.List.Edits.{length-remove, get_or-remove_below, get_or-remove_above}
use Rattle.relay_model.specs.declared.act.EndCause.TheVariants.{Bad, Full}
use Rattle.out_store.specs.Queue.{queue, cells_of}
use Rattle.out_store.proofs.CellsMove.{length-cells_from}
use Rattle.wl_proto.specs.Rows.{Message}
use Rattle.broker_model.specs.Groups.{pair_of}
use Rattle.broker_audience.specs.declared.directory.Named.{Named}
use Rattle.broker_audience.specs.declared.live.Live.{Live}
use Rattle.broker_audience.specs.Gathered.{with_message}
use Rattle.broker_audience.specs.Changes.{first_due}
use Rattle.broker_audience.specs.Lives.{AreOver, cleared, hears_message, delivered, has_room, is_number, number_of}
use Rattle.broker_audience.specs.Marks.{is_marked, AreWithin}
use Rattle.broker_audience.specs.Visits.{changed_at, rewritten, cause_of, IsAt, HasNone, AreInOrder, IsQuiet, IsCalm, IsBounded, IsNew, AreListening}
use Rattle.broker_audience.proofs.MarkedPlaces.{within_later, below, marked_before, marked_more}
use Rattle.broker_audience.proofs.VisitIsPass.{one_changed, changed_length, changed_here, changed_others}
use Rattle.broker_audience.proofs.PeersInOrder.{key_over, keys_apart}

-- nothing is gathered any more
pub listening_cleared : (live : List Live) (told due : List ℕ) → AreListening live told due →
    AreListening (map cleared live) [] due
listening_cleared live told due l =
    let same : length (map cleared live) ≡ length live = length-map live cleared in
    record {
      told_within = tt;
      due_within = rw same l.due_within;
      quiet = λ k d lt off. rw (get_or-map cleared live k d d (rw same at lt)) refl;
      calm = λ k d lt off.
          let was = l.calm k d (rw same at lt) off in
          rw (get_or-map cleared live k d d (rw same at lt)) (record { choked = was.choked; refused = was.refused });
      bounded = λ k d lt. rw (get_or-map cleared live k d d (rw same at lt)) (l.bounded k d (rw same at lt));
    }

-- what one change leaves as it was, and what it may change where the peer is marked
pub record IsMarked (f : Live → Live) (place : ℕ) (live : List Live) (told due told_now due_now : List ℕ) : Type 0 where
  pub told_within : AreWithin 0 (length live) told_now
  pub due_within : AreWithin 0 (length live) due_now
  pub told_before : (k : ℕ) → is_marked k told_now ≡ false → is_marked k told ≡ false
  pub due_before : (k : ℕ) → is_marked k due_now ≡ false → is_marked k due ≡ false
  pub quiet : (l : Live) → is_marked place told_now ≡ false → IsQuiet l → IsQuiet (f l)
  pub calm : (d : Live) → is_marked place due_now ≡ false → IsCalm (get_or live place d) →
      IsCalm (f (get_or live place d))
  pub bounded : (l : Live) → IsBounded l → IsBounded (f l)

pub listening_changed : (f : Live → Live) (place : ℕ) (live : List Live) (told due told_now due_now : List ℕ) →
    place < length live → AreListening live told due →
    IsMarked f place live told due told_now due_now → AreListening (changed_at place f live) told_now due_now
listening_changed f place live told due told_now due_now within l m =
    let same : length (changed_at place f live) ≡ length live = changed_length f place live in
    record {
      told_within = rw same m.told_within;
      due_within = rw same m.due_within;
      quiet = λ k d lt off. elim (cases_eq place k) [
        | inl is ↦ rw (← is, changed_here f place live d within)
            (m.quiet (get_or live place d) (rw is off) (l.quiet place d within (m.told_before place (rw is off))))
        | inr other ↦ rw (changed_others f place live k d other) (l.quiet k d (rw same at lt) (m.told_before k off))
      ];
      calm = λ k d lt off. elim (cases_eq place k) [
        | inl is ↦ rw (← is, changed_here f place live d within)
            (m.calm d (rw is off) (l.calm place d within (m.due_before place (rw is off))))
        | inr other ↦ rw (changed_others f place live k d other) (l.calm k d (rw same at lt) (m.due_before k off))
      ];
      bounded = λ k d lt. elim (cases_eq place k) [
        | inl is ↦ rw (← is, changed_here f place live d within)
            (m.bounded (get_or live place d) (l.bounded place d within))
        | inr other ↦ rw (changed_others f place live k d other) (l.bounded k d (rw same at lt))
      ];
    }

-- one more
pub listening_pushed : (x : Live) (live : List Live) (told due : List ℕ) → AreListening live told due → IsNew x →
    AreListening (live ++ x ∷ []) told due
listening_pushed x live told due l new =
    let longer : length (live ++ x ∷ []) ≡ length live + 1 = length-append live (x ∷ []) in
    record {
      told_within = within_later told 0 (length live) (length (live ++ x ∷ [])) l.told_within (omega arith);
      due_within = within_later due 0 (length live) (length (live ++ x ∷ [])) l.due_within (omega arith);
      quiet = λ k d lt off. at_both IsQuiet k d new.quiet (λ in_old. l.quiet k d in_old off) (omega arith);
      calm = λ k d lt off. at_both IsCalm k d new.calm (λ in_old. l.calm k d in_old off) (omega arith);
      bounded = λ k d lt. at_both IsBounded k d new.bounded (λ in_old. l.bounded k d in_old) (omega arith);
    }
  where
    at_both : (P : Live → Type 0) (k : ℕ) (d : Live) → P x → (k < length live → P (get_or live k d)) →
        k < length live + 1 → P (get_or (live ++ x ∷ []) k d)
    at_both P k d here there lt = elim (cases_lt k (length live)) [
      | inl old ↦ rw (get_or_append_left live (x ∷ []) d k old) (there old)
      | inr last ↦ rw (get_or_push live x d k (omega arith)) here
    ]

-- one leaves
pub listening_removed : (place : ℕ) (live : List Live) (told due told_now due_now : List ℕ) → place < length live →
    AreListening live told due →
    AreWithin 0 (length (remove live place)) told_now → AreWithin 0 (length (remove live place)) due_now →
    ((k : ℕ) → is_marked k told_now ≡ is_marked (if ltb k place then k else suc k) told) →
    ((k : ℕ) → is_marked k due_now ≡ is_marked (if ltb k place then k else suc k) due) →
    AreListening (remove live place) told_now due_now
listening_removed place live told due told_now due_now within l told_within due_within told_is due_is =
    let shorter = length-remove live place within in
    record {
      told_within = told_within;
      due_within = due_within;
      quiet = λ k d lt off. moved IsQuiet told k d (rw (← told_is k) off) (λ j lt off. l.quiet j d lt off)
          (omega arith);
      calm = λ k d lt off. moved IsCalm due k d (rw (← due_is k) off) (λ j lt off. l.calm j d lt off) (omega arith);
      bounded = λ k d lt. moved IsBounded [] k d refl (λ j lt off. l.bounded j d lt) (omega arith);
    }
  where
    moved : (P : Live → Type 0) (ms : List ℕ) (k : ℕ) (d : Live) →
        is_marked (if ltb k place then k else suc k) ms ≡ false →
        ((j : ℕ) → j < length live → is_marked j ms ≡ false → P (get_or live j d)) → k + 1 < length live →
        P (get_or (remove live place) k d)
    moved P ms k d off all lt = elim (cases_lt k place) [
      | inl less ↦ rw (get_or-remove_below live place d k less within)
          (all k (omega arith) (rw (lt-ltb k place less) at off))
      | inr more ↦
          let next : suc k ≡ k + 1 = omega arith in
          rw (get_or-remove_above live place d k more within)
          (all (k + 1) (omega arith) (rw (le-ltb k place more, next) at off))
    ]

-- delivering nothing changes nothing
pub quiet_stays : (l : Live) → IsQuiet l → IsBounded l → delivered l ≡ l
quiet_stays l quiet bounded =
    let over : l.gathering.is_over ≡ false = ap (λ g. g.is_over) quiet in
    let bytes : l.gathering.group.bytes ≡ [] = ap (λ g. g.group.bytes) quiet in
    let fits : leb (length l.store.cells + length l.gathering.group.bytes) l.store.capacity ≡ true =
    rw bytes (le-leb (length l.store.cells + 0) l.store.capacity (omega (arith, bounded))) in
    let room : has_room l ≡ true = rw (over, fits) refl in
    rw room
    (ap (λ bs. record
    l { store = queue (l.store.cells ++ cells_of bs (map pair_of l.gathering.group.tokens)) l.store.capacity }) bytes
    ∙ ap (λ cells. record l { store = queue cells l.store.capacity }) (append-nil l.store.cells))

-- what is gathered stays, and whether it was refused
delivered_gathering : (l : Live) → (delivered l).gathering ≡ l.gathering
delivered_gathering l = step (has_room l)
  where
    step : (b : Bool) →
        (if b then record
        l {
          store = queue
              (l.store.cells ++ cells_of l.gathering.group.bytes (map pair_of l.gathering.group.tokens))
              l.store.capacity;
        }
        else record l { is_choked = true }).gathering ≡ l.gathering
    step true = refl
    step false = refl

delivered_refused : (l : Live) → (delivered l).is_refused ≡ l.is_refused
delivered_refused l = step (has_room l)
  where
    step : (b : Bool) →
        (if b then record
        l {
          store = queue
              (l.store.cells ++ cells_of l.gathering.group.bytes (map pair_of l.gathering.group.tokens))
              l.store.capacity;
        }
        else record l { is_choked = true }).is_refused ≡ l.is_refused
    step true = refl
    step false = refl

delivered_bounded : (l : Live) → IsBounded l → IsBounded (delivered l)
delivered_bounded l bounded = step (has_room l) refl
  where
    step : (b : Bool) → has_room l ≡ b →
        IsBounded (if b
        then record l {
          store =
              queue (l.store.cells ++ cells_of l.gathering.group.bytes (map pair_of l.gathering.group.tokens))
              l.store.capacity;
        } else record l { is_choked = true })
    step true room =
        let fits = leb-true _ _
        (and_parts (not l.gathering.is_over)
        (leb (length l.store.cells + length l.gathering.group.bytes) l.store.capacity) room).1 in
        let more = length-cells_from 0 l.gathering.group.bytes (map pair_of l.gathering.group.tokens) in
        let all = length-append l.store.cells
        (cells_of l.gathering.group.bytes (map pair_of l.gathering.group.tokens)) in
        omega arith
    step false room = bounded

-- all is delivered, and who is choked by it is marked
pub listening_delivered : (live : List Live) (told due due_now : List ℕ) → AreListening live told due →
    AreWithin 0 (length live) due_now →
    ((k : ℕ) → is_marked k due_now ≡ false → is_marked k due ≡ false) →
    ((k : ℕ) (d : Live) → is_marked k told ≡ true → is_marked k due_now ≡ false →
    (get_or (map delivered live) k d).is_choked ≡ false) →
    AreListening (map delivered live) told due_now
listening_delivered live told due due_now l within kept choked =
    let same : length (map delivered live) ≡ length live = length-map live delivered in
    record {
      told_within = rw same l.told_within;
      due_within = rw same within;
      quiet = λ k d lt off.
          let was : IsQuiet (get_or live k d) = l.quiet k d (rw same at lt) off in
          rw (get_or-map delivered live k d d (rw same at lt), delivered_gathering (get_or live k d)) was;
      calm = λ k d lt off. at k d (rw same at lt) off (is_marked k told) refl;
      bounded = λ k d lt. rw (get_or-map delivered live k d d (rw same at lt))
          (delivered_bounded (get_or live k d) (l.bounded k d (rw same at lt)));
    }
  where
    at : (k : ℕ) (d : Live) → k < length live → is_marked k due_now ≡ false → (b : Bool) → is_marked k told ≡ b →
        IsCalm (get_or (map delivered live) k d)
    at k d lt off true on =
        record {
          choked = choked k d on off;
          refused = rw (get_or-map delivered live k d d lt, delivered_refused (get_or live k d))
              (l.calm k d lt (kept k off)).refused;
        }
    at k d lt off false un =
        rw (get_or-map delivered live k d d lt, quiet_stays (get_or live k d) (l.quiet k d lt un) (l.bounded k d lt))
        (l.calm k d lt (kept k off))

-- who isn't marked needs no visit
pub unmarked_stays : (live : List Live) (told due : List ℕ) → AreListening live told due → (k : ℕ) (d : Live) →
    k < length live → is_marked k told ≡ false →
    delivered (get_or live k d) ≡ get_or live k d
unmarked_stays live told due l k d lt off = quiet_stays (get_or live k d) (l.quiet k d lt off) (l.bounded k d lt)

pub unmarked_cleared : (live : List Live) (told due : List ℕ) → AreListening live told due → (k : ℕ) (d : Live) →
    k < length live → is_marked k told ≡ false →
    cleared (get_or live k d) ≡ get_or live k d
unmarked_cleared live told due l k d lt off =
    ap (λ g. record (get_or live k d) { gathering = g }) (sym (l.quiet k d lt off))

-- the first who has to be ended is the first for whom there is a cause
pub first_at : (live : List Live) (place : ℕ) (d : Live) → place < length live →
    ((k : ℕ) → k < place → cause_of (get_or live k d) ≡ None) →
    (cause_of (get_or live place d) ≡ None → ⊥) → cause_of (get_or live place d) ≡ first_due live
first_at [] place d lt before here = absurd (omega arith)
first_at (l ∷ live) zero d lt before here = step l.is_refused l.is_choked refl refl
  where
    step : (r c : Bool) → l.is_refused ≡ r → l.is_choked ≡ c → cause_of l ≡ first_due (l ∷ live)
    step true c is_r is_c = rw is_r refl
    step false true is_r is_c = rw (is_r, is_c) refl
    step false false is_r is_c = absurd (here (rw (is_r, is_c) refl))
first_at (l ∷ live) (suc place) d lt before here =
    step l.is_refused l.is_choked refl refl (before 0 (omega arith))
    (first_at live place d (omega arith) (λ k less. before (suc k) (omega arith)) here)
  where
    step : (r c : Bool) → l.is_refused ≡ r → l.is_choked ≡ c → cause_of l ≡ None →
        cause_of (get_or live place d) ≡ first_due live →
        cause_of (get_or live place d) ≡ first_due (l ∷ live)
    step true c is_r is_c none rest = let no : Some (l.number, Bad) ≡ None = rw is_r at none in absurd (cc)
    step false true is_r is_c none rest = let no : Some (l.number, Full) ≡ None = rw (is_r, is_c) at none in absurd (cc)
    step false false is_r is_c none rest = rw (is_r, is_c) rest

pub none_due : (live : List Live) → ((k : ℕ) (d : Live) → k < length live → cause_of (get_or live k d) ≡ None) →
    None ≡ first_due live
none_due [] none = refl
none_due (l ∷ live) none =
    step l.is_refused l.is_choked refl refl (none 0 l (omega arith))
    (none_due live (λ k d lt. none (suc k) d (omega arith)))
  where
    step : (r c : Bool) → l.is_refused ≡ r → l.is_choked ≡ c → cause_of l ≡ None → None ≡ first_due live →
        None ≡ first_due (l ∷ live)
    step true c is_r is_c none rest = let no : Some (l.number, Bad) ≡ None = rw is_r at none in absurd (cc)
    step false true is_r is_c none rest = let no : Some (l.number, Full) ≡ None = rw (is_r, is_c) at none in absurd (cc)
    step false false is_r is_c none rest = rw (is_r, is_c) rest

pub calm_cause : (l : Live) → IsCalm l → cause_of l ≡ None
calm_cause l calm = rw (calm.refused, calm.choked) refl

-- an event to an object of another peer
pub unheard_by : (to : Named) (m : Message) (l : Live) → (l.label ≡ to.peer → ⊥) → hears_message to m l ≡ l
unheard_by to m l other = rw (ne_eqb l.label to.peer other) refl

pub or_right : (a b : Bool) → (a || b) ≡ false → b ≡ false
or_right true b off = absurd (cc)
or_right false b off = off

-- of one more place it is noted whether the peer there is choked
pub noted : (live : List Live) (told due : List ℕ) (i p k : ℕ) (d l : Live) → slice_get live p ≡ Some l →
    (is_marked k (take i told) || eqb p k) ≡ true →
    ((l.is_choked && eqb p k) || is_marked k due) ≡ false →
    (is_marked k (take i told) ≡ true → is_marked k due ≡ false → (get_or live k d).is_choked ≡ false) →
    (get_or live k d).is_choked ≡ false
noted live told due i p k d l is on off before = elim (cases_eq p k) [
  | inl same ↦
      let test : eqb p k ≡ true = eq-eqb p k same in
      let here : get_or live k d ≡ l = rw (← same) (get_or_from_slice_get live p l d is) in
      rw here (unchoked l.is_choked (is_marked k due) (rw test at off))
  | inr other ↦
      let test : eqb p k ≡ false = ne_eqb p k other in
      before (sooner (is_marked k (take i told)) (rw test at on))
      (or_right (l.is_choked && eqb p k) (is_marked k due) off)
]
  where
    unchoked : (a b : Bool) → ((a && true) || b) ≡ false → a ≡ false
    unchoked true b off = absurd (cc)
    unchoked false b off = refl

    sooner : (a : Bool) → (a || false) ≡ true → a ≡ true
    sooner true on = refl
    sooner false on = on

pub refused_at : (after x : Live) (place : ℕ) (live : List Live) → place < length live →
    slice_get (changed_at place (rewritten after) live) place ≡ Some x →
    after.is_refused ≡ x.is_refused
refused_at after x place live lt is =
    ap (λ (l : Live). l.is_refused)
    (sym (changed_here (rewritten after) place live x lt)
    ∙ get_or_from_slice_get (changed_at place (rewritten after) live) place x x is)

pub not_here : (b c : Bool) (place : ℕ) → ((b && eqb place place) || c) ≡ false → b ≡ false
not_here true c place off = absurd (no (rw (eq-eqb place place refl) at off))
  where
    no : true ≡ false → ⊥
    no e = absurd (cc)
not_here false c place off = refl

pub is_here : (c : Bool) (place : ℕ) → (eqb place place || c) ≡ false → ⊥
is_here c place off = no (rw (eq-eqb place place refl) at off)
  where
    no : true ≡ false → ⊥
    no e = absurd (cc)

-- of those in order the one at the place is the one with the number
pub number_there : (q base place : ℕ) (live : List Live) → AreOver (λ l. l.number) base live →
    IsAt (λ l. l.number) q live place → slice_get live place ≡ number_of q live
number_there q base place [] over at = absurd (omega (arith, at.within))
number_there q base zero (l ∷ live) over at = rw (eq-eqb l.number q (at.has l)) refl
number_there q base (suc place) (l ∷ live) over at =
    let later : IsAt (λ l. l.number) q live place = record { within = omega (arith, at.within); has = at.has } in
    let above : l.number < (get_or live place l).number =
    key_over (λ l. l.number) live l.number place l over.1 later.within in
    let has = at.has l in
    rw (ne_eqb l.number q (λ e. absurd (omega (arith, above, has)))) (number_there q l.number place live over.1 later)

pub number_nowhere : (q : ℕ) (live : List Live) → HasNone (λ l. l.number) q live → filter (is_number q) live ≡ []
number_nowhere q [] none = refl
number_nowhere q (l ∷ live) none =
    rw (ne_eqb l.number q (none 0 l (omega arith))) (number_nowhere q live (λ k d lt. none (suc k) d (omega arith)))

-- an event to an object of this peer
pub hears_own : (to : Named) (m : Message) (l : Live) → l.label ≡ to.peer →
    record l { gathering = with_message to.id m l.gathering } ≡ hears_message to m l
hears_own to m l same = rw (eq-eqb l.label to.peer same) refl

-- an event that no other hears
pub heard_there : (to : Named) (m : Message) (place : ℕ) (live : List Live) → AreInOrder live →
    IsAt (λ l. l.label) to.peer live place →
    changed_at place (hears_message to m) live ≡ map (hears_message to m) live
heard_there to m place live order at =
    one_changed (hears_message to m) place live
    (λ j d lt other. unheard_by to m (get_or live j d) (λ same.
    keys_apart (λ l. l.label) live 0 place j d order.labels at.within lt other (at.has d ∙ sym same)))

pub heard_nowhere : (to : Named) (m : Message) (live : List Live) → HasNone (λ l. l.label) to.peer live →
    live ≡ map (hears_message to m) live
heard_nowhere to m [] none = refl
heard_nowhere to m (l ∷ live) none =
    rw (unheard_by to m l (none 0 l (omega arith)))
    (ap (λ ls. l ∷ ls) (heard_nowhere to m live (λ k d lt. none (suc k) d (omega arith))))

-- an event leaves what is stored, and whether the peer has to be ended
pub hears_store : (to : Named) (m : Message) (l : Live) → (hears_message to m l).store ≡ l.store
hears_store to m l = step (l.label == to.peer)
  where
    step : (b : Bool) → (if b then record l { gathering = with_message to.id m l.gathering } else l).store ≡ l.store
    step true = refl
    step false = refl

pub hears_calm : (to : Named) (m : Message) (l : Live) → IsCalm l → IsCalm (hears_message to m l)
hears_calm to m l calm = step (l.label == to.peer)
  where
    step : (b : Bool) → IsCalm (if b then record l { gathering = with_message to.id m l.gathering } else l)
    step true = record { choked = calm.choked; refused = calm.refused }
    step false = calm

-- the first marked place for which there is a cause is that of the first who has to be ended
pub due_there : (live : List Live) (told due : List ℕ) → AreListening live told due → (i : ℕ) → i < length due →
    ((k : ℕ) (d : Live) → is_marked k (take i due) ≡ true → cause_of (get_or live k d) ≡ None) → (x : Live) →
    slice_get live (get_or due i 0) ≡ Some x →
    (cause_of x ≡ None → ⊥) → cause_of x ≡ first_due live
due_there live told due l i lt before x is not_none =
    let p = get_or due i 0 in
    let within : p < length live = below due 0 (length live) i 0 l.due_within lt in
    let here : get_or live p x ≡ x = get_or_from_slice_get live p x x is in
    ap cause_of (sym here)
    ∙ first_at live p x within (λ k less. at k less (is_marked k due) refl)
    (λ none. not_none (ap cause_of (sym here) ∙ none))
  where
    at : (k : ℕ) → k < get_or due i 0 → (b : Bool) → is_marked k due ≡ b → cause_of (get_or live k x) ≡ None
    at k less true on = before k x (marked_before due 0 (length live) i 0 k l.due_within lt less on)
    at k less false off =
        calm_cause (get_or live k x) (l.calm k x (omega (arith, below due 0 (length live) i 0 l.due_within lt)) off)

-- at one more place there is no cause
pub due_more : (live : List Live) (due : List ℕ) (i k : ℕ) (d x : Live) → i < length due →
    slice_get live (get_or due i 0) ≡ Some x → cause_of x ≡ None →
    (is_marked k (take i due) ≡ true → cause_of (get_or live k d) ≡ None) → is_marked k (take (i + 1) due) ≡ true →
    cause_of (get_or live k d) ≡ None
due_more live due i k d x lt is none before on =
    by (is_marked k (take i due)) refl
    (sym (marked_more (take i due) (get_or due i 0) k) ∙ ap (is_marked k) (sym (take_more due i 0 lt)) ∙ on)
  where
    by : (b : Bool) → is_marked k (take i due) ≡ b → (is_marked k (take i due) || eqb (get_or due i 0) k) ≡ true →
        cause_of (get_or live k d) ≡ None
    by true in_front on = before in_front
    by false new on =
        let same : get_or due i 0 ≡ k = eqb-true _ _ (rw new at on) in
        let here : get_or live k d ≡ x = rw (← same) (get_or_from_slice_get live (get_or due i 0) x d is) in
        ap cause_of here ∙ none

-- where no marked place has a cause, nobody has
pub due_none : (live : List Live) (told due : List ℕ) → AreListening live told due →
    ((k : ℕ) (d : Live) → is_marked k due ≡ true → cause_of (get_or live k d) ≡ None) →
    None ≡ first_due live
due_none live told due l all = none_due live (λ k d lt. at k d lt (is_marked k due) refl)
  where
    at : (k : ℕ) (d : Live) → k < length live → (b : Bool) → is_marked k due ≡ b → cause_of (get_or live k d) ≡ None
    at k d lt true on = all k d on
    at k d lt false off = calm_cause (get_or live k d) (l.calm k d lt off)
