-- A state that is ready for the end of a peer.
use Rattle.std.proofs.Common.{◌≡◌, ℕ, zero, suc, ◌-◌, ◌<◌, ◌≤◌, List, [], ◌∷◌, ◌++◌, length, map, Bool, true, false, cond, Option, Some, ap, refl, sym, subst, ◌∙◌, arith}
use Rattle.std.specs.Prelude.{filter, not, set, if◌then◌else◌, ◌==◌}
use Rattle.std.specs.List.{AllByRecursion}
use Rattle.std.proofs.lemmas.Bool.{true≢false}
use Rattle.std.proofs.lemmas.Option.{same_Some, slice_get_within}
use Rattle.out_store.specs.Queue.{Queue}
use Rattle.relay_model.specs.declared.act.Act.TheVariants as acts
use Rattle.relay_model.specs.declared.act.EndCause.{EndCause}
use Rattle.relay_model.specs.Objects.{is_peer}
use Rattle.relay_objects.specs.Fits.{FitsMessage}
use Rattle.relay_core.specs.Kept.{Shown, IsReserved}
use Rattle.relay_core.specs.Stands as relay
use Rattle.broker_model.specs.declared.journal.Entry.{Entry}
use Rattle.broker_model.specs.declared.journal.Entry.TheVariants as entries
use Rattle.broker_model.specs.Ids.{Joined, log_of, peer_in, peer_at}
use Rattle.broker_model.specs.Enough.{made_at}
use Rattle.broker_model.specs.Kept.{kept_of}
use Rattle.broker_model.specs.Resolve.{of_peer, only, past_of, resolve}
use Rattle.broker_model.specs.Out.{act_at, out_for}
use Rattle.broker_model.proofs.SettlingEnds.{end_act}
use Rattle.broker_model.proofs.LabelsRiseByNumber.{label_within}
use Rattle.broker_audience.specs.declared.live.Live.{Live}
use Rattle.broker_core.specs.declared.state.State.{State}
use Rattle.broker_model.specs.Ends.{Ended}
use Rattle.broker_audience.specs.Lives.{Numbered, is_number, number_of, who}
use Rattle.broker_core.specs.Stands.{Holds, IsKept, Stands, AreLeft, IsLive, IsReady, Ready, IsReadyFor, store_of}
use Rattle.broker_core.proofs.TableAfterAct.{calls_other}
use Rattle.broker_core.proofs.DeadPeersToldNothing.{quiet, last_told}
use Rattle.broker_core.proofs.EndedPeersKept.{left_end}
use Rattle.broker_core.proofs.LivePeersKept.{ready_still, all_ready, all_kept}
use Rattle.broker_core.proofs.RosterAfterEntry.{roster_end, at_number, without}

-- what becomes of the state before the end of a live peer is told
pub record IsEnding (q : ℕ) (why : EndCause) (l : Live) (s t : State) : Type 0 where
  pub live : t.audience.live.items ≡ filter (λ x. not (is_number q x)) s.audience.live.items
  pub directory : t.audience.directory ≡ s.audience.directory
  pub relay : t.relay ≡ s.relay
  pub journal : t.journal ≡ s.journal
  pub stamps : t.stamps ≡ s.stamps
  pub capacity : t.capacity ≡ s.capacity
  pub labels : t.labels ≡ s.labels
  pub store : Option Queue
  pub kept : store_of l.store.capacity store ≡ l.store
  pub ended : t.ended.items ≡ set s.ended.items (q - 1) (Some (record { cause = why; store = store }))

-- one fewer is alive

fewer_by : (b : Bool) (x : Live) (ys zs : List Live) → length ys ≤ length zs →
    length (cond b (x ∷ ys) ys) ≤ length (x ∷ zs)
fewer_by true x ys zs h = omega (arith, h)
fewer_by false x ys zs h = omega (arith, h)

few : (test : Live → Bool) (xs : List Live) → length (filter test xs) ≤ length xs
few test [] = omega arith
few test (x ∷ xs) = fewer_by (test x) x (filter test xs) xs (few test xs)

fewer_here : (q : ℕ) (l x : Live) (rest : List Live) (b : Bool) → (if b then Some x else number_of q rest) ≡ Some l →
    (number_of q rest ≡ Some l → length (filter (λ y. not (is_number q y)) rest) < length rest) →
    length (cond (not b) (x ∷ filter (λ y. not (is_number q y)) rest) (filter (λ y. not (is_number q y)) rest))
    < length (x ∷ rest)
fewer_here q l x rest true e more = (let n = few (λ y. not (is_number q y)) rest in omega (arith, n))
fewer_here q l x rest false e more = (let n = more e in omega (arith, n))

pub fewer : (q : ℕ) (l : Live) (live : List Live) → number_of q live ≡ Some l →
    length (filter (λ y. not (is_number q y)) live) < length live
fewer q l [] e = cc
fewer q l (x ∷ rest) e = fewer_here q l x rest (is_number q x) e (fewer q l rest)

-- what holds of each live peer holds of the one with the number

of_here : (P : Live → Type 0) (q : ℕ) (l x : Live) (rest : List Live) (b : Bool) → P x →
    (number_of q rest ≡ Some l → P l) →
    (if b then Some x else number_of q rest) ≡ Some l → P l
of_here P q l x rest true p more e = subst P (same_Some x l e) p
of_here P q l x rest false p more e = more e

pub of_number : (P : Live → Type 0) (q : ℕ) (l : Live) (live : List Live) → AllByRecursion P live →
    number_of q live ≡ Some l → P l
of_number P q l [] p e = cc
of_number P q l (x ∷ rest) p e = of_here P q l x rest (is_number q x) p.0 (of_number P q l rest p.1) e

-- what its end makes is nothing
end_makes : (q : ℕ) (why : EndCause) (older : List Entry) (peer : Joined) → peer_at (past_of older) q ≡ Some peer →
    made_at (entries.End q why) older ++ kept_of older ≡ kept_of older
end_makes q why older peer e = ap (λ o. (of_peer o (λ p. only (acts.Gone p.label why))).made ++ kept_of older) e

gone_reserved : (relay : Shown) (p : ℕ) (why : EndCause) → IsReserved relay (acts.Gone p why)
gone_reserved relay p why = record { room = tt; spare = tt; board = tt; fits = tt }

kept_store : (capacity : ℕ) (out : _) (store : Option Queue) (was : Queue) → Holds capacity out was →
    store_of was.capacity store ≡ was → IsKept capacity out store
kept_store capacity out store was h e = record {
  cells = ap (λ (c : ℕ). store_of c store) (sym (ap (λ (w : Queue). w.capacity) h.cells)) ∙ e ∙ h.cells;
  within = h.within;
}

pub ready_end : (q : ℕ) (why : EndCause) (l : Live) (s t : State) → Stands s →
    number_of q s.audience.live.items ≡ Some l →
    length s.journal.entries < 4294967295 → IsEnding q why l s t → IsReadyFor (entries.End q why) t
ready_end q why l s t v e small n =
    let J : List Entry = s.journal.entries in
    let c : ℕ = s.capacity in
    let now : Entry = entries.End q why in
    let peer : Joined = record { label = l.label; role = l.role } in
    let it = at_number J s.audience.live.items v.who q l e in
    let joined : peer_at (past_of J) q ≡ Some peer = it.0 in
    let lives : is_peer (log_of (past_of J)) l.label ≡ true = it.1 in
    let is : IsLive c J l = of_number (IsLive c J) q l s.audience.live.items v.live e in
    let act : act_at now J ≡ acts.Gone l.label why = end_act J q why peer joined in
    let fewer_now : length (filter (λ x. not (is_number q x)) s.audience.live.items) < length s.audience.live.items =
    fewer q l s.audience.live.items e in
    let many : length t.audience.live.items ≡ length (filter (λ x. not (is_number q x)) s.audience.live.items) =
    ap length n.live in
    let room : s.journal.room ≡ t.journal.room = ap (λ j. j.room) (sym n.journal) in
    let stamp_room : s.stamps.room ≡ t.stamps.room = ap (λ l. l.room) (sym n.stamps) in
    let it_is : Ready c now J t = record {
      recorded = ap (λ j. j.entries) n.journal;
      relayed = subst (λ r. relay.StandsFor r (resolve J)) (sym n.relay) v.relayed;
      reserved = subst (λ a. IsReserved t.relay a) (sym act) (gone_reserved t.relay l.label why);
      made = ap (λ d. d.made) n.directory ∙ v.made ∙ sym (end_makes q why J peer joined);
      who = ap (map who) n.live ∙ without s.audience.live.items q
          ∙ ap (filter (λ (m : Numbered). not (m.number == q))) v.who
          ∙ sym (roster_end q why J peer joined lives);
      live = subst (λ (ls : List Live). AllByRecursion (IsReady c now J) ls) (sym n.live)
          (all_kept (IsReady c now J) (λ x. not (is_number q x)) s.audience.live.items
          (all_ready c now J s.audience.live.items v.who
          (λ x k i. ready_still c now J x k
          (calls_other now J x.label (label_within J x.number _ i.0) tt) refl refl refl) v.live));
      labels = ap (λ ls. ls.items) n.labels ∙ v.labels;
      left = subst (λ (ends : List (Option Ended)). AreLeft c (now ∷ J) ends) (sym n.ended)
          (left_end quiet last_told c q why J peer n.store s.ended.items joined lives
          (kept_store c (out_for c J l.label) n.store l.store is.holds n.kept) v.left);
      fit = (subst FitsMessage (sym act) tt, v.fit);
      store = n.capacity;
      room = (let a = v.room in omega arith);
      stamp_room = (let a = v.stamp_room in omega arith);
      stamped = ap (λ l. length l.stamps) n.stamps ∙ v.stamped;
      ends = (let a = v.ends in omega arith);
      joins = v.joins;
      few = small;
      light = λ d. absurd (true≢false d);
    } in
    subst (λ (k : ℕ). Ready k now t.journal.entries t) (sym n.capacity)
    (subst (λ (journal : List Entry). Ready c now journal t) (sym it_is.recorded) it_is)

-- who joined has a number from 1 on, up to how many joined
pub place_in_joined : (joined : List Joined) (q : ℕ) (peer : Joined) → peer_in joined q ≡ Some peer →
    (1 ≤ q) × (q ≤ length joined)
place_in_joined joined zero peer e = cc
place_in_joined joined (suc q) peer e =
    (omega arith, (let w : q < length joined = slice_get_within joined q peer e in omega (arith, w)))
