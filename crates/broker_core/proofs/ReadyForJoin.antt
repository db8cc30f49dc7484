-- A state that is ready for a peer that joins.
use Rattle.std.proofs.Common.{◌≡◌, ℕ, zero, suc, ◌+◌, ◌<◌, ◌≤◌, List, [], ◌∷◌, ◌++◌, length, map, Bool, true, false, cond, Option, None, ap, refl, sym, subst, ◌∙◌, arith, length-append}
use Rattle.std.specs.Prelude.{if◌then◌else◌, ◌==◌}
use Rattle.std.specs.List.{AllByRecursion}
use Rattle.std.proofs.lemmas.Bool.{eqb-true}
use Rattle.std.proofs.lemmas.List.{map-append}
use Rattle.std.proofs.lemmas.List.Sums.{sum_by-cons}
use Rattle.std.proofs.lemmas.Option.{slice_get_past}
use Rattle.wl_proto.specs.declared.interface.Interface.TheVariants as interface
use Rattle.im_objects.specs.Calls.{Call}
use Rattle.im_objects.specs.Objects as table
use Rattle.relay_model.specs.declared.act.Act.TheVariants.{Peer}
use Rattle.relay_model.specs.declared.role.Role.{Role}
use Rattle.relay_core.specs.Kept.{IsReserved}
use Rattle.relay_core.specs.Stands as relay
use Rattle.broker_model.specs.declared.journal.Entry.{Entry}
use Rattle.broker_model.specs.declared.journal.Entry.TheVariants as entries
use Rattle.broker_model.specs.Ids.{Made, Joined, peer_in, peer_at}
use Rattle.broker_model.specs.Resolve.{Meaning, of_peer, with_joined, past_of, resolve}
use Rattle.broker_model.specs.Groups.{nothing}
use Rattle.broker_model.specs.Out.{Outgoing, before_group, out_for}
use Rattle.broker_model.specs.Settle.{is_bad, refused}
use Rattle.broker_model.specs.Tables.{calls_for}
use Rattle.broker_model.specs.Limits.{is_counted, number_counted}
use Rattle.broker_model.proofs.LabelsRiseByNumber.{label_within}
use Rattle.broker_audience.specs.declared.live.Live.{Live}
use Rattle.broker_core.specs.declared.state.State.{State}
use Rattle.broker_model.specs.Ends.{Ended}
use Rattle.broker_audience.specs.Changes.{IsNewcomer}
use Rattle.broker_audience.specs.Lives.{Numbered, who}
use Rattle.broker_core.specs.Stands.{Holds, Stands, StandsFor, AreLeft, IsLive, IsReady, CanTake, Ready, IsReadyFor, roster}
use Rattle.broker_core.proofs.TableAfterAct.{calls_joined, calls_other}
use Rattle.broker_core.proofs.DeadPeersToldNothing.{quiet}
use Rattle.broker_core.proofs.EndedPeersKept.{left_join}
use Rattle.broker_core.proofs.TokensThatWait.{none_waits}
use Rattle.broker_core.proofs.LivePeersKept.{ready_still, all_ready, all_more}
use Rattle.broker_core.proofs.RosterAfterEntry.{roster_join}
use Rattle.broker_core.proofs.NewLabels.{unborn}

-- what becomes of the state before the join of a peer is told
pub record IsJoining (role : Role) (l : Live) (s t : State) : Type 0 where
  pub new : IsNewcomer s.capacity (length (past_of s.journal.entries).joined + 1) (length s.journal.entries + 1) role l
  pub live : t.audience.live.items ≡ s.audience.live.items ++ l ∷ []
  pub made :
      t.audience.directory.made
      ≡ record {
        peer = length s.journal.entries + 1;
        id = 1;
        label = length s.journal.entries + 1;
        interface = interface.Display;
      } ∷ s.audience.directory.made
  pub relayed : relay.StandsFor t.relay (resolve s.journal.entries)
  pub reserved : IsReserved t.relay Peer
  pub recorded : t.journal.entries ≡ s.journal.entries
  pub room : length s.audience.live.items + 2 ≤ t.journal.room
  pub stamp_room : length s.audience.live.items + 2 ≤ t.stamps.room
  pub stamps : t.stamps.stamps ≡ s.stamps.stamps
  pub labels : t.labels.items ≡ s.labels.items ++ (length s.journal.entries + 1) ∷ []
  pub ended : t.ended.items ≡ s.ended.items ++ None ∷ []
  pub capacity : t.capacity ≡ s.capacity

-- a state stands while no more than room is made, and after a change that failed
pub still_stands : (s t : State) → Stands s → t.journal ≡ s.journal → t.stamps ≡ s.stamps → t.relay ≡ s.relay →
    t.capacity ≡ s.capacity →
    t.audience.directory.made ≡ s.audience.directory.made → t.audience.live.items ≡ s.audience.live.items →
    t.labels.items ≡ s.labels.items →
    t.ended.items ≡ s.ended.items → Stands t
still_stands s t v journal stamped relayed capacity made live labels ended =
    let J : List Entry = s.journal.entries in
    let c : ℕ = s.capacity in
    let many : length t.audience.live.items ≡ length s.audience.live.items = ap length live in
    let room : t.journal.room ≡ s.journal.room = ap (λ j. j.room) journal in
    let stamp_room : t.stamps.room ≡ s.stamps.room = ap (λ l. l.room) stamped in
    let it : StandsFor c J t = record {
      recorded = ap (λ j. j.entries) journal;
      relayed = subst (λ r. relay.StandsFor r (resolve J)) (sym relayed) v.relayed;
      made = made ∙ v.made;
      who = ap (map who) live ∙ v.who;
      live = subst (λ (ls : List Live). AllByRecursion (IsLive c J) ls) (sym live) v.live;
      labels = labels ∙ v.labels;
      left = subst (λ (ends : List (Option Ended)). AreLeft c J ends) (sym ended) v.left;
      fit = v.fit;
      store = capacity;
      room = (let a = v.room in omega arith);
      stamp_room = (let a = v.stamp_room in omega arith);
      stamped = ap (λ l. length l.stamps) stamped ∙ v.stamped;
      ends = (let a = v.ends in omega arith);
      joins = v.joins;
    } in
    subst (λ (i : ℕ). StandsFor i t.journal.entries t) (sym capacity)
    (subst (λ (j : List Entry). StandsFor c j t) (sym it.recorded) it)

-- how long a journal is

-- there are at most as many ends as other entries
pub few_entries : (s : State) → Stands s → number_counted s.journal.entries < 4000000 →
    length s.journal.entries < 8000000
few_entries s v h = let a = v.ends in let b = v.joins in omega arith

-- one more entry that is no end
pub counted_one : (e : Entry) (older : List Entry) → is_counted e ≡ true →
    number_counted (e ∷ older) ≡ 1 + number_counted older
counted_one e older h =
    sum_by-cons (λ x. cond (is_counted x) 1 0) e older ∙ ap (λ (b : Bool). cond b 1 0 + number_counted older) h

-- no message of a peer that is yet to join was refused

none_bad : (o : Option Joined) (f : Joined → Meaning) → o ≡ None → is_bad (of_peer o f).act ≡ false
none_bad o f e = ap (λ (p : Option Joined). is_bad (of_peer p f).act) e

later_none : (xs : List Joined) (q : ℕ) → length xs < q → peer_in xs q ≡ None
later_none xs zero l = absurd (omega arith)
later_none xs (suc q) l = slice_get_past xs q (omega arith)

refused_by : (b c r : Bool) (n q : ℕ) → (n == q) ≡ b → (n ≡ q → c ≡ false) → r ≡ false → (if b then c else r) ≡ false
refused_by true c r n q e h k = h (eqb-true n q e)
refused_by false c r n q e h k = k

fewer_joined : (e : Entry) (n : ℕ) (joined : List Joined) → length joined ≤ length (with_joined e n joined)
fewer_joined (entries.Join role) n joined =
    (let a = length-append joined (record { label = n; role = role } ∷ []) in omega arith)
fewer_joined _ n joined = omega arith

pub refused_none : (journal : List Entry) (q : ℕ) → length (past_of journal).joined < q → refused journal q ≡ false
refused_none [] q l = refl
refused_none (entries.Join role ∷ older) q l =
    let a : length (past_of older).joined ≤ length (past_of (entries.Join role ∷ older)).joined =
    fewer_joined (entries.Join role) (length older + 1) (past_of older).joined in
    refused_none older q (omega arith)
refused_none (entries.Message n id opcode body ∷ older) q l =
    refused_by (n == q) _ (refused older q) n q refl
    (λ d. none_bad (peer_at (past_of older) n) _
    (ap (peer_at (past_of older)) d ∙ later_none (past_of older).joined q l)) (refused_none older q l)
refused_none (entries.Tokens n tokens ∷ older) q l = refused_none older q l
refused_none (entries.BadSize n head ∷ older) q l =
    refused_by (n == q) _ (refused older q) n q refl
    (λ d. none_bad (peer_at (past_of older) n) _
    (ap (peer_at (past_of older)) d ∙ later_none (past_of older).joined q l)) (refused_none older q l)
refused_none (entries.End n why ∷ older) q l = refused_none older q l
refused_none (entries.Shell step ∷ older) q l = refused_none older q l
refused_none (entries.Took n bytes ∷ older) q l = refused_none older q l

-- the peer that joins

new_ready : (capacity number : ℕ) (role : Role) (older : List Entry) (l : Live) →
    length (past_of older).joined < number →
    IsNewcomer capacity number (length older + 1) role l → IsReady capacity (entries.Join role) older l
new_ready capacity number role older l w n =
    let label : l.label ≡ length older + 1 = ap (λ (m : Numbered). m.peer.label) n.is in
    let none : out_for capacity older l.label ≡ record { put = nothing; taken = 0; choked = false } =
    unborn quiet capacity older l.label (omega arith) in
    let empty : Holds capacity
    (before_group (entries.Join role) older l.label (record { put = nothing; taken = 0; choked = false })) l.store =
    record { cells = n.store; within = omega arith } in
    record {
      holds = subst (λ (o : Outgoing). Holds capacity (before_group (entries.Join role) older l.label o) l.store)
          (sym none) empty;
      choked = n.choked ∙ sym (ap (λ (o : Outgoing). o.choked) none);
      room = ap (λ g. g.capacity) n.gathering;
      table = subst (λ (calls : List Call). table.Stands calls l.table)
          (sym (calls_joined role older) ∙ ap (calls_for (entries.Join role ∷ older)) (sym label)) n.table;
      refused = n.refused
          ∙ sym (ap (refused older) (ap (λ (m : Numbered). m.number) n.is) ∙ refused_none older number w);
      waiting = n.waiting ∙ sym (none_waits older l.label (omega arith));
    }

pub ready_join : (role : Role) (l : Live) (s t : State) → Stands s → CanTake (entries.Join role) s.journal.entries →
    IsJoining role l s t →
    IsReadyFor (entries.Join role) t
ready_join role l s t v k n =
    let J : List Entry = s.journal.entries in
    let c : ℕ = s.capacity in
    let now : Entry = entries.Join role in
    let peer : Joined = record { label = length J + 1; role = role } in
    let label_of : Joined → ℕ = (λ p. p.label) in
    let new : IsReady c now J l = new_ready c (length (past_of J).joined + 1) role J l (omega arith) n.new in
    let short : length J < 8000000 = few_entries s v k.few in
    let many : length t.audience.live.items ≡ length s.audience.live.items + 1 =
    ap length n.live ∙ length-append s.audience.live.items (l ∷ []) in
    let longer : length (past_of (now ∷ J)).joined ≡ length (past_of J).joined + 1 =
    length-append (past_of J).joined (peer ∷ []) in
    let counted : number_counted (now ∷ J) ≡ 1 + number_counted J = counted_one now J refl in
    let it_is : Ready c now J t = record {
      recorded = n.recorded;
      relayed = n.relayed;
      reserved = n.reserved;
      made = n.made
          ∙ ap (λ (ms : List Made). record {
            peer = length J + 1;
            id = 1;
            label = length J + 1;
            interface = interface.Display;
          } ∷ ms) v.made;
      who = ap (map who) n.live ∙ map-append who s.audience.live.items (l ∷ [])
          ∙ ap (λ (ns : List Numbered). ns ++ who l ∷ []) v.who
          ∙ ap (λ (m : Numbered). roster J ++ m ∷ []) n.new.is ∙ sym (roster_join role J);
      live = subst (λ (ls : List Live). AllByRecursion (IsReady c now J) ls) (sym n.live)
          (all_more (IsReady c now J) s.audience.live.items l
          (all_ready c now J s.audience.live.items v.who
          (λ x i it. ready_still c now J x i
          (calls_other now J x.label (label_within J x.number _ it.0) tt) refl refl refl) v.live) new);
      labels = n.labels ∙ ap (λ (ls : List ℕ). ls ++ (length J + 1) ∷ []) v.labels
          ∙ sym (map-append label_of (past_of J).joined (peer ∷ []));
      left = subst (λ (ends : List (Option Ended)). AreLeft c (now ∷ J) ends) (sym n.ended)
          (left_join quiet c role J s.ended.items v.left);
      fit = (tt, v.fit);
      store = n.capacity;
      room = (let a = n.room in omega arith);
      stamp_room = (let a = n.stamp_room in omega arith);
      stamped = ap length n.stamps ∙ v.stamped;
      ends = (let a = v.ends in omega arith);
      joins = (let a = v.joins in omega arith);
      few = omega arith;
      light = λ d. k.light;
    } in
    subst (λ (i : ℕ). Ready i now t.journal.entries t) (sym n.capacity)
    (subst (λ (journal : List Entry). Ready c now journal t) (sym n.recorded) it_is)
