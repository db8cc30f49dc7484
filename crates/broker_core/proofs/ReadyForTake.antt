-- A state that is ready for a take of what is stored for a peer.
use Rattle.std.proofs.Common.{◌≡◌, ℕ, zero, suc, ◌+◌, ◌-◌, ◌<◌, ◌≤◌, List, [], ◌∷◌, ◌++◌, length, map, drop, set, Bool, true, false, Option, Some, ap, refl, sym, subst, ◌∙◌, arith, length-drop}
use Rattle.std.specs.Prelude.{if◌then◌else◌, ◌==◌}
use Rattle.std.specs.List.{AllByRecursion, slice_get}
use Rattle.std.proofs.lemmas.Bool.{ne_eqb, eq-eqb, true≢false}
use Rattle.std.proofs.lemmas.List.{length-map}
use Rattle.std.proofs.lemmas.Option.{same_Some}
use Rattle.im_objects.specs.Calls.{Call}
use Rattle.im_objects.specs.Objects as table
use Rattle.out_store.specs.Queue.{Cell, Queue, queue, bytes_of}
use Rattle.relay_model.specs.declared.act.Act.{Act}
use Rattle.relay_model.specs.declared.act.Act.TheVariants as acts
use Rattle.relay_model.specs.Objects.{is_peer}
use Rattle.relay_objects.specs.Fits.{FitsMessage}
use Rattle.relay_core.specs.Kept.{IsReserved}
use Rattle.relay_core.specs.Stands as relay
use Rattle.broker_model.specs.declared.journal.Entry.{Entry}
use Rattle.broker_model.specs.declared.journal.Entry.TheVariants as entries
use Rattle.broker_model.specs.Ids.{Joined, log_of, peer_at}
use Rattle.broker_model.specs.Enough.{made_at}
use Rattle.broker_model.specs.Kept.{kept_of}
use Rattle.broker_model.specs.Resolve.{of_peer, only, past_of, resolve}
use Rattle.broker_model.specs.Out.{Outgoing, act_at, stored, is_label, took_at, out_for}
use Rattle.broker_model.specs.Stored.{cells_out}
use Rattle.broker_model.specs.Limits.{number_counted}
use Rattle.broker_model.proofs.LabelsRiseByNumber.{label_within}
use Rattle.broker_model.proofs.StoresAreOut.{length_out, take_cells}
use Rattle.broker_model.proofs.TakenCells.{bytes_out}
use Rattle.broker_audience.specs.declared.live.Live.{Live}
use Rattle.broker_core.specs.declared.state.State.{State}
use Rattle.broker_model.specs.Ends.{Ended}
use Rattle.broker_audience.specs.Lives.{number_of, who, AreAbove}
use Rattle.broker_core.specs.Stands.{Holds, IsKept, Stands, AreLeft, IsLive, IsReady, IsLeft, CanTake, Ready, IsReadyFor, store_of}
use Rattle.broker_core.proofs.TableAfterAct.{calls_other}
use Rattle.broker_core.proofs.DeadPeersToldNothing.{quiet}
use Rattle.broker_core.proofs.EndedPeersKept.{left_took_live, left_took_ended}
use Rattle.broker_core.proofs.ReadyForEnd.{of_number}
use Rattle.broker_core.proofs.ReadyForJoin.{few_entries, counted_one}
use Rattle.broker_core.proofs.LivePeersKept.{IsItself, both, ready_still, all_ready}
use Rattle.broker_core.proofs.RosterAfterEntry.{each_alive, at_number, label_number, rising, roster_plain}

-- what becomes of the state before a take is told, but for whose store it is from
pub record IsTaking (act : Act) (s t : State) : Type 0 where
  pub made : t.audience.directory.made ≡ s.audience.directory.made
  pub relayed : relay.StandsFor t.relay (resolve s.journal.entries)
  pub reserved : IsReserved t.relay act
  pub recorded : t.journal.entries ≡ s.journal.entries
  pub room : length s.audience.live.items + 1 ≤ t.journal.room
  pub stamp_room : length s.audience.live.items + 1 ≤ t.stamps.room
  pub stamps : t.stamps.stamps ≡ s.stamps.stamps
  pub labels : t.labels.items ≡ s.labels.items
  pub capacity : t.capacity ≡ s.capacity

-- a live peer without its next n bytes
abbrev pub taken_from : ℕ → Live → Live
taken_from n l = record l { store = queue (drop n l.store.cells) l.store.capacity }

-- what a store holds

length_stored : (out : Outgoing) → length (cells_out out) ≡ length (stored out)
length_stored out = length_out out ∙ sym (length-drop out.taken out.put.bytes)

-- a live peer's holds what is out for it
pub live_cells : (s : State) → Stands s → (q : ℕ) (l : Live) → number_of q s.audience.live.items ≡ Some l →
    l.store ≡ queue (cells_out (out_for s.capacity s.journal.entries l.label)) s.capacity
live_cells s v q l e =
    let is : IsLive s.capacity s.journal.entries l =
    of_number (IsLive s.capacity s.journal.entries) q l s.audience.live.items v.live e in
    is.holds.cells

pub live_store : (s : State) → Stands s → (q : ℕ) (l : Live) → number_of q s.audience.live.items ≡ Some l →
    (bytes_of l.store.cells ≡ stored (out_for s.capacity s.journal.entries l.label))
    × (length l.store.cells ≡ length (stored (out_for s.capacity s.journal.entries l.label)))
live_store s v q l e =
    let out : Outgoing = out_for s.capacity s.journal.entries l.label in
    let same : l.store.cells ≡ cells_out out = ap (λ (w : Queue). w.cells) (live_cells s v q l e) in
    (ap bytes_of same ∙ bytes_out out, ap length same ∙ length_stored out)

-- what stays of an ended one is left as the state says
pub ended_left : (s : State) → Stands s → (q : ℕ) (peer : Joined) (o : Option Ended) →
    peer_at (past_of s.journal.entries) q ≡ Some peer →
    slice_get s.ended.items (q - 1) ≡ Some o → IsLeft s.capacity s.journal.entries q peer o
ended_left s v zero peer o e f = cc
ended_left s v (suc k) peer o e f =
    let same : k ≡ suc k - 1 = omega arith in
    v.left.each k peer o e (ap (λ (m : ℕ). slice_get s.ended.items m) same ∙ f)

-- so does an ended one's, where an empty one is given back
pub ended_cells : (s : State) → Stands s → (q : ℕ) (peer : Joined) (was : Ended) →
    peer_at (past_of s.journal.entries) q ≡ Some peer →
    slice_get s.ended.items (q - 1) ≡ Some (Some was) →
    store_of s.capacity was.store ≡ queue (cells_out (out_for s.capacity s.journal.entries peer.label)) s.capacity
ended_cells s v q peer was e f =
    let left : IsLeft s.capacity s.journal.entries q peer (Some was) = ended_left s v q peer (Some was) e f in
    left.2.cells

pub ended_store : (s : State) → Stands s → (q : ℕ) (peer : Joined) (was : Ended) →
    peer_at (past_of s.journal.entries) q ≡ Some peer →
    slice_get s.ended.items (q - 1) ≡ Some (Some was) →
    (bytes_of (store_of s.capacity was.store).cells ≡ stored (out_for s.capacity s.journal.entries peer.label))
    × (length (store_of s.capacity was.store).cells ≡ length (stored (out_for s.capacity s.journal.entries peer.label)))
ended_store s v q peer was e f =
    let out : Outgoing = out_for s.capacity s.journal.entries peer.label in
    let same : (store_of s.capacity was.store).cells ≡ cells_out out =
    ap (λ (w : Queue). w.cells) (ended_cells s v q peer was e f) in
    (ap bytes_of same ∙ bytes_out out, ap length same ∙ length_stored out)

-- no more is taken than was put
taken_within : (n : ℕ) (out : Outgoing) → out.taken ≤ length out.put.bytes → n ≤ length (cells_out out) →
    out.taken + n ≤ length out.put.bytes
taken_within n out w h = let a = length_out out in omega arith

-- whose bytes are taken

took_of : (q n : ℕ) (older : List Entry) (peer : Joined) (p : ℕ) → peer_at (past_of older) q ≡ Some peer →
    took_at (entries.Took q n) (past_of older) p ≡ (if peer.label == p then n else 0)
took_of q n older peer p e = ap (λ o. if is_label o p then n else 0) e

took_own : (q n : ℕ) (older : List Entry) (peer : Joined) → peer_at (past_of older) q ≡ Some peer →
    took_at (entries.Took q n) (past_of older) peer.label ≡ n
took_own q n older peer e =
    took_of q n older peer peer.label e ∙ ap (λ (b : Bool). if b then n else 0) (eq-eqb peer.label peer.label refl)

took_other : (q n : ℕ) (older : List Entry) (peer : Joined) (p : ℕ) → peer_at (past_of older) q ≡ Some peer →
    (peer.label == p) ≡ false →
    took_at (entries.Took q n) (past_of older) p ≡ 0
took_other q n older peer p e d = took_of q n older peer p e ∙ ap (λ (b : Bool). if b then n else 0) d

-- a live peer that isn't the one
other_ready : (capacity q n : ℕ) (older : List Entry) (peer : Joined) (x : Live) →
    peer_at (past_of older) q ≡ Some peer → (peer.label == x.label) ≡ false →
    IsLive capacity older x → IsItself older x → IsReady capacity (entries.Took q n) older x
other_ready capacity q n older peer x e d is it =
    ready_still capacity (entries.Took q n) older x is
    (calls_other (entries.Took q n) older x.label (label_within older x.number _ it.0) tt) refl
    (took_other q n older peer x.label e d) refl

-- the live peer whose bytes they are
own_ready : (capacity q n : ℕ) (older : List Entry) (l : Live) →
    peer_at (past_of older) q ≡ Some (record { label = l.label; role = l.role }) →
    n ≤ length l.store.cells → IsLive capacity older l → IsReady capacity (entries.Took q n) older (taken_from n l)
own_ready capacity q n older l e h is =
    let out : Outgoing = out_for capacity older l.label in
    let peer : Joined = record { label = l.label; role = l.role } in
    let same : l.store.cells ≡ cells_out out = ap (λ (w : Queue). w.cells) is.holds.cells in
    let fewer : n ≤ length (cells_out out) = subst (λ (cells : List Cell). n ≤ length cells) same h in
    let rest : Holds capacity (record out { taken = out.taken + n }) (taken_from n l).store =
    record {
      cells = ap (λ (w : Queue). queue (drop n w.cells) w.capacity) is.holds.cells
          ∙ ap (λ (cells : List Cell). queue cells capacity) (sym (take_cells n out));
      within = taken_within n out is.holds.within fewer;
    } in
    record {
      holds = subst (λ (m : ℕ). Holds capacity (record out { taken = out.taken + m }) (taken_from n l).store)
          (sym (took_own q n older peer e)) rest;
      choked = is.choked;
      room = is.room;
      table = subst (λ (calls : List Call). table.Stands calls l.table)
          (sym (calls_other (entries.Took q n) older l.label (label_within older q peer e) tt)) is.table;
      refused = is.refused;
      waiting = is.waiting;
    }

-- one of those that rise is changed

others_above : (P Q : Live → Type 0) (q k : ℕ) (live : List Live) → ((x : Live) → P x → (q ≡ x.number → ⊥) → Q x) →
    q ≤ k → AreAbove k live →
    AllByRecursion P live → AllByRecursion Q live
others_above P Q q k [] f w above all = tt
others_above P Q q k (x ∷ live) f w above all =
    let here = above.0 in
    (f x all.0 (λ d. omega arith), others_above P Q q x.number live f (omega arith) above.1 all.1)

place_above : (k : ℕ) (live : List Live) (place : ℕ) (l : Live) → AreAbove k live → slice_get live place ≡ Some l →
    k < l.number
place_above k [] place l above e = cc
place_above k (x ∷ live) zero l above e = subst (λ (y : Live). k < y.number) (same_Some x l e) above.0
place_above k (x ∷ live) (suc place) l above e =
    let here = above.0 in
    let there : x.number < l.number = place_above x.number live place l above.1 e in
    omega arith

changed_at : (P Q : Live → Type 0) (q k : ℕ) (live : List Live) (place : ℕ) (l new : Live) →
    ((x : Live) → P x → (q ≡ x.number → ⊥) → Q x) → AreAbove k live →
    slice_get live place ≡ Some l → l.number ≡ q → Q new → AllByRecursion P live → AllByRecursion Q (set live place new)
changed_at P Q q k [] place l new f above e n here all = cc
changed_at P Q q k (x ∷ live) zero l new f above e n here all =
    let same : x.number ≡ l.number = ap (λ (y : Live). y.number) (same_Some x l e) in
    (here, others_above P Q q x.number live f (omega arith) above.1 all.1)
changed_at P Q q k (x ∷ live) (suc place) l new f above e n here all =
    let later : x.number < l.number = place_above x.number live place l above.1 e in
    (f x all.0 (λ d. omega arith), changed_at P Q q x.number live place l new f above.1 e n here all.1)

same_whos : (live : List Live) (place : ℕ) (l new : Live) → slice_get live place ≡ Some l → who new ≡ who l →
    map who (set live place new) ≡ map who live
same_whos [] place l new e s = refl
same_whos (x ∷ live) zero l new e s = ap (λ w. w ∷ map who live) (s ∙ ap who (sym (same_Some x l e)))
same_whos (x ∷ live) (suc place) l new e s = ap (λ ws. who x ∷ ws) (same_whos live place l new e s)

-- all but the stores
ready_took : (q n : ℕ) (peer : Joined) (s t : State) → Stands s → CanTake (entries.Took q n) s.journal.entries →
    peer_at (past_of s.journal.entries) q ≡ Some peer → map who t.audience.live.items ≡ map who s.audience.live.items →
    AllByRecursion (IsReady s.capacity (entries.Took q n) s.journal.entries) t.audience.live.items →
    AreLeft s.capacity (entries.Took q n ∷ s.journal.entries) t.ended.items → IsTaking (acts.Took peer.label n) s t →
    IsReadyFor (entries.Took q n) t
ready_took q n peer s t v k joined whos live left it =
    let J : List Entry = s.journal.entries in
    let c : ℕ = s.capacity in
    let now : Entry = entries.Took q n in
    let act : act_at now J ≡ acts.Took peer.label n =
    ap (λ o. (of_peer o (λ p. only (acts.Took p.label n))).act) joined in
    let makes : made_at now J ++ kept_of J ≡ kept_of J =
    ap (λ o. (of_peer o (λ p. only (acts.Took p.label n))).made ++ kept_of J) joined in
    let short : length J < 8000000 = few_entries s v k.few in
    let many : length t.audience.live.items ≡ length s.audience.live.items =
    sym (length-map t.audience.live.items who) ∙ ap length whos ∙ length-map s.audience.live.items who in
    let counted : number_counted (now ∷ J) ≡ 1 + number_counted J = counted_one now J refl in
    let it_is : Ready c now J t = record {
      recorded = it.recorded;
      relayed = it.relayed;
      reserved = subst (λ a. IsReserved t.relay a) (sym act) it.reserved;
      made = it.made ∙ v.made ∙ sym makes;
      who = whos ∙ v.who ∙ sym (roster_plain now J tt);
      live = live;
      labels = it.labels ∙ v.labels;
      left = left;
      fit = (subst FitsMessage (sym act) tt, v.fit);
      store = it.capacity;
      room = (let a = it.room in omega arith);
      stamp_room = (let a = it.stamp_room in omega arith);
      stamped = ap length it.stamps ∙ v.stamped;
      ends = (let a = v.ends in omega arith);
      joins = (let a = v.joins in omega arith);
      few = omega arith;
      light = λ d. k.light;
    } in
    subst (λ (i : ℕ). Ready i now t.journal.entries t) (sym it.capacity)
    (subst (λ (journal : List Entry). Ready c now journal t) (sym it.recorded) it_is)

-- from the store of a live peer, which stands at the place
pub ready_took_live : (q n : ℕ) (l : Live) (place : ℕ) (s t : State) → Stands s →
    CanTake (entries.Took q n) s.journal.entries →
    number_of q s.audience.live.items ≡ Some l → slice_get s.audience.live.items place ≡ Some l →
    n ≤ length l.store.cells →
    t.audience.live.items
    ≡ set s.audience.live.items place (record l { store = queue (drop n l.store.cells) l.store.capacity }) →
    t.ended.items ≡ s.ended.items → IsTaking (acts.Took l.label n) s t → IsReadyFor (entries.Took q n) t
ready_took_live q n l place s t v k e at h live ended it =
    let J : List Entry = s.journal.entries in
    let c : ℕ = s.capacity in
    let now : Entry = entries.Took q n in
    let peer : Joined = record { label = l.label; role = l.role } in
    let own = at_number J s.audience.live.items v.who q l e in
    let joined : peer_at (past_of J) q ≡ Some peer = own.0 in
    let lives : is_peer (log_of (past_of J)) l.label ≡ true = own.1 in
    let is : IsLive c J l = of_number (IsLive c J) q l s.audience.live.items v.live e in
    let each : AllByRecursion (λ x. IsLive c J x × IsItself J x) s.audience.live.items =
    both (IsLive c J) (IsItself J) (λ x. IsLive c J x × IsItself J x) s.audience.live.items (λ x a b. (a, b)) v.live
    (each_alive J s.audience.live.items v.who) in
    let ready : AllByRecursion (IsReady c now J) (set s.audience.live.items place (taken_from n l)) =
    changed_at (λ x. IsLive c J x × IsItself J x) (IsReady c now J) q 0 s.audience.live.items place l (taken_from n l)
    (λ x both d.
    other_ready c q n J peer x joined
    (label_number J q x.number peer (record { label = x.label; role = x.role }) joined both.1.0
    ∙ ne_eqb q x.number d) both.0 both.1)
    (rising J s.audience.live.items v.who) at own.2 (own_ready c q n J l joined h is) each in
    ready_took q n peer s t v k joined
    (ap (map who) live ∙ same_whos s.audience.live.items place l (taken_from n l) at refl)
    (subst (λ (ls : List Live). AllByRecursion (IsReady c now J) ls) (sym live) ready)
    (subst (λ (ends : List (Option Ended)). AreLeft c (now ∷ J) ends) (sym ended)
    (left_took_live quiet c q n J peer s.ended.items joined lives v.left)) it

-- from what stays of the store of a peer that ended
pub ready_took_ended : (q n : ℕ) (peer : Joined) (was : Ended) (rest : Option Queue) (s t : State) → Stands s →
    CanTake (entries.Took q n) s.journal.entries →
    peer_at (past_of s.journal.entries) q ≡ Some peer → slice_get s.ended.items (q - 1) ≡ Some (Some was) →
    n ≤ length (store_of s.capacity was.store).cells →
    store_of s.capacity rest ≡ queue (drop n (store_of s.capacity was.store).cells) s.capacity →
    t.ended.items ≡ set s.ended.items (q - 1) (Some (record { cause = was.cause; store = rest })) →
    t.audience.live.items ≡ s.audience.live.items → IsTaking (acts.Took peer.label n) s t →
    IsReadyFor (entries.Took q n) t
ready_took_ended q n peer was rest s t v k joined entry h stays ended live it =
    let J : List Entry = s.journal.entries in
    let c : ℕ = s.capacity in
    let now : Entry = entries.Took q n in
    let out : Outgoing = out_for c J peer.label in
    let before : IsLeft c J q peer (Some was) = ended_left s v q peer (Some was) joined entry in
    let dead : is_peer (log_of (past_of J)) peer.label ≡ false = before.0 in
    let was_kept : IsKept c out was.store = before.2 in
    let fewer : n ≤ length (cells_out out) = subst (λ (w : Queue). n ≤ length w.cells) was_kept.cells h in
    let kept : IsKept c (record out { taken = out.taken + n }) rest = record {
      cells = stays ∙ ap (λ (w : Queue). queue (drop n w.cells) c) was_kept.cells
          ∙ ap (λ (cells : List Cell). queue cells c) (sym (take_cells n out));
      within = taken_within n out was_kept.within fewer;
    } in
    ready_took q n peer s t v k joined (ap (map who) live)
    (subst (λ (ls : List Live). AllByRecursion (IsReady c now J) ls) (sym live)
    (all_ready c now J s.audience.live.items v.who
    (λ x is own.
    other_ready c q n J peer x joined
    (ne_eqb peer.label x.label (λ d. true≢false (sym own.1 ∙ ap (is_peer (log_of (past_of J))) (sym d) ∙ dead))) is own)
    v.live))
    (subst (λ (ends : List (Option Ended)). AreLeft c (now ∷ J) ends) (sym ended)
    (left_took_ended quiet c q n J peer was rest s.ended.items joined entry kept v.left)) it
