-- A state that is ready for what a peer or the shell said.
use Rattle.std.proofs.Common.{◌≡◌, ℕ, ◌+◌, ◌≤◌, List, ◌∷◌, length, map, Option, Bool, true, cond, ap, refl, sym, subst, ◌∙◌, arith, zero, suc, ◌<◌, [], ◌++◌, Some, false}
use Rattle.std.specs.List.{AllByRecursion, slice_get}
use Rattle.std.proofs.lemmas.List.{length-map}
use Rattle.std.proofs.lemmas.List.Sums.{sum_by-cons}
use Rattle.relay_model.specs.declared.act.Act.{Act}
use Rattle.relay_objects.specs.Fits.{FitsMessage}
use Rattle.relay_core.specs.Kept.{IsReserved}
use Rattle.relay_core.specs.Stands as relay
use Rattle.broker_model.specs.declared.journal.Entry.{Entry}
use Rattle.broker_model.specs.declared.journal.Entry.TheVariants as entries
use Rattle.broker_model.specs.Ids.{object_at, Joined, Made, peer_at}
use Rattle.broker_model.specs.Enough.{made_at}
use Rattle.broker_model.specs.Kept.{kept_of}
use Rattle.broker_model.specs.Resolve.{past_of, resolve, Meaning, of_peer, refused_for, means, made_new}
use Rattle.broker_model.specs.Out.{act_at, is_label}
use Rattle.broker_model.specs.Limits.{is_counted, number_counted}
use Rattle.broker_model.specs.Ends.{Ended}
use Rattle.broker_core.specs.declared.state.State.{State}
use Rattle.broker_audience.specs.Lives.{who, number_of, AreAbove}
use Rattle.broker_core.specs.Stands.{CanTake, Stands, AreLeft, IsReady, Ready, IsReadyFor, IsLive}
use Rattle.broker_core.proofs.DeadPeersToldNothing.{quiet}
use Rattle.broker_core.proofs.EndedPeersKept.{IsSpoken, left_plain}
use Rattle.broker_core.proofs.RosterAfterEntry.{IsPlain, roster_plain, label_number, at_number, each_alive, rising}
use Rattle.std.specs.Prelude.{set, ◌==◌, option_map}
use Rattle.std.proofs.lemmas.Bool.{eq-eqb, ne_eqb, true≢false}
use Rattle.std.proofs.lemmas.Option.{same_Some}
use Rattle.im_objects.specs.Calls.{Call}
use Rattle.im_objects.specs.Objects as table
use Rattle.relay_model.specs.declared.act.Act.TheVariants as acts
use Rattle.relay_model.specs.declared.fault.Fault.TheVariants as faults
use Rattle.broker_steps.specs.declared.step.ShellStep.{ShellStep}
use Rattle.broker_wire.specs.declared.meaning.Meaning as declared
use Rattle.broker_wire.specs.Asked.{asked}
use Rattle.broker_wire.specs.Meant.{meant}
use Rattle.broker_model.specs.Settle.{is_bad, refused}
use Rattle.broker_model.specs.Tables.{calls_for}
use Rattle.broker_model.specs.Waiting.{with_tokens, without_taken, takes_token}
use Rattle.broker_model.proofs.LabelsRiseByNumber.{label_within}
use Rattle.broker_audience.specs.declared.live.Live.{Live}
use Rattle.broker_audience.specs.Changes.{own_calls, IsChanged}
use Rattle.broker_core.proofs.MessageCalls.{calls_own}
use Rattle.broker_core.proofs.TableAfterAct.{IsNotFrom, calls_other}
use Rattle.broker_core.proofs.ActTextsFit.{act_fits}
use Rattle.broker_core.proofs.ReadyForEnd.{of_number}
use Rattle.broker_core.proofs.TokensThatWait.{message_own, message_other, tokens_own, tokens_other}
use Rattle.broker_core.proofs.LivePeersKept.{IsItself, ready_holds, ready_still, all_ready, both}

-- what is prepared beside live peers and what is made
pub record IsPrepared (act : Act) (s t : State) : Type 0 where
  pub relayed : relay.StandsFor t.relay (resolve s.journal.entries)
  pub reserved : IsReserved t.relay act
  pub recorded : t.journal.entries ≡ s.journal.entries
  pub room : length s.audience.live.items + 2 ≤ t.journal.room
  pub stamp_room : length s.audience.live.items + 2 ≤ t.stamps.room
  pub stamps : t.stamps.stamps ≡ s.stamps.stamps
  pub labels : t.labels ≡ s.labels
  pub ended : t.ended ≡ s.ended
  pub capacity : t.capacity ≡ s.capacity

spoken_joined : (e : Entry) (older : List Entry) → IsSpoken e → (past_of (e ∷ older)).joined ≡ (past_of older).joined
spoken_joined (entries.Message q id opcode body) older h = refl
spoken_joined (entries.Tokens q tokens) older h = refl
spoken_joined (entries.BadSize q head) older h = refl
spoken_joined (entries.Shell step) older h = refl
spoken_joined (entries.Join role) older h = absurd h
spoken_joined (entries.End q why) older h = absurd h
spoken_joined (entries.Took q n) older h = absurd h

pub plain_spoken : (e : Entry) → IsSpoken e → IsPlain e
plain_spoken (entries.Message q id opcode body) h = tt
plain_spoken (entries.Tokens q tokens) h = tt
plain_spoken (entries.BadSize q head) h = tt
plain_spoken (entries.Shell step) h = tt
plain_spoken (entries.Join role) h = absurd h
plain_spoken (entries.End q why) h = absurd h
plain_spoken (entries.Took q n) h = absurd h

one_more_by : (e : Entry) (older : List Entry) → is_counted e ≡ true →
    number_counted (e ∷ older) ≡ 1 + number_counted older
one_more_by e older h =
    sum_by-cons (λ (x : Entry). cond (is_counted x) 1 0) e older
    ∙ ap (λ (b : Bool). cond b 1 0 + number_counted older) h

one_more : (e : Entry) (older : List Entry) → IsSpoken e → number_counted (e ∷ older) ≡ 1 + number_counted older
one_more (entries.Message q id opcode body) older h = one_more_by (entries.Message q id opcode body) older refl
one_more (entries.Tokens q tokens) older h = one_more_by (entries.Tokens q tokens) older refl
one_more (entries.BadSize q head) older h = one_more_by (entries.BadSize q head) older refl
one_more (entries.Shell step) older h = one_more_by (entries.Shell step) older refl
one_more (entries.Join role) older h = absurd h
one_more (entries.End q why) older h = absurd h
one_more (entries.Took q n) older h = absurd h

pub ready_spoken : (e : Entry) (s t : State) → Stands s → IsSpoken e → CanTake e s.journal.entries →
    IsPrepared (act_at e s.journal.entries) s t →
    FitsMessage (act_at e s.journal.entries) →
    t.audience.directory.made ≡ made_at e s.journal.entries ++ kept_of s.journal.entries →
    map who t.audience.live.items ≡ map who s.audience.live.items →
    AllByRecursion (IsReady s.capacity e s.journal.entries) t.audience.live.items →
    IsReadyFor e t
ready_spoken e s t v spoken can n fits made same live =
    let J : List Entry = s.journal.entries in
    let c : ℕ = s.capacity in
    let joins : (past_of (e ∷ J)).joined ≡ (past_of J).joined = spoken_joined e J spoken in
    let joined : length (past_of (e ∷ J)).joined ≡ length (past_of J).joined = ap length joins in
    let counted : number_counted (e ∷ J) ≡ 1 + number_counted J = one_more e J spoken in
    let many : length t.audience.live.items ≡ length s.audience.live.items =
    sym (length-map t.audience.live.items who) ∙ ap length same ∙ length-map s.audience.live.items who in
    let it : Ready c e J t = record {
      recorded = n.recorded;
      relayed = n.relayed;
      reserved = n.reserved;
      made = made;
      who = same ∙ v.who ∙ sym (roster_plain e J (plain_spoken e spoken));
      live = live;
      labels = ap (λ l. l.items) n.labels ∙ v.labels ∙ ap (map (λ (peer : Joined). peer.label)) (sym joins);
      left = subst (λ (ends : List (Option Ended)). AreLeft c (e ∷ J) ends) (ap (λ l. l.items) (sym n.ended))
          (left_plain quiet c e J s.ended.items spoken v.left);
      fit = (fits, v.fit);
      store = n.capacity;
      room = (let a = n.room in omega arith);
      stamp_room = (let a = n.stamp_room in omega arith);
      stamped = ap length n.stamps ∙ v.stamped;
      ends = (let a = v.ends in omega arith);
      joins = (let a = v.joins in omega arith);
      few = (let a = v.ends in let b = v.joins in let d = can.few in omega arith);
      light = λ d. can.light;
    } in
    subst (λ (k : ℕ). Ready k e t.journal.entries t) (sym n.capacity)
    (subst (λ (journal : List Entry). Ready c e journal t) (sym n.recorded) it)

-- A state that is ready for the header of a bad size, for a step of the shell, and for a message.

-- the shell says something: every live peer stays as it was

pub ready_shell : (step : ShellStep) (s t : State) → Stands s → CanTake (entries.Shell step) s.journal.entries →
    IsPrepared (act_at (entries.Shell step) s.journal.entries) s t →
    t.audience.directory.made ≡ s.audience.directory.made → t.audience.live ≡ s.audience.live →
    IsReadyFor (entries.Shell step) t
ready_shell step s t v can n made live =
    let J : List Entry = s.journal.entries in
    let e : Entry = entries.Shell step in
    let same : t.audience.live.items ≡ s.audience.live.items = ap (λ l. l.items) live in
    ready_spoken e s t v tt can n (act_fits e J tt) (made ∙ v.made) (ap (map who) same)
    (subst (λ (ls : List Live). AllByRecursion (IsReady s.capacity e J) ls) (sym same)
    (all_ready s.capacity e J s.audience.live.items v.who
    (λ l k i. ready_still s.capacity e J l k
    (calls_other e J l.label (label_within J l.number _ i.0) tt) refl refl refl) v.live))

-- one live peer is another, and keeps its number: what holds then of the one and of all others

change_all : (P : Live → Type 0) (place : ℕ) (l after : Live) (live : List Live) → slice_get live place ≡ Some l →
    P after →
    AllByRecursion (λ x. (x.number == l.number) ≡ false → P x) live → (q : ℕ) → AreAbove q live →
    AllByRecursion P (set live place after)
change_all P place l after [] e p h q above = cc
change_all P zero l after (x ∷ rest) e p h q above =
    let it : x ≡ l = same_Some x l e in
    (p, later rest x.number above.1 h.1 (subst (λ (y : Live). y.number ≤ x.number) it (omega arith)))
  where
    later : (ls : List Live) (k : ℕ) → AreAbove k ls → AllByRecursion (λ y. (y.number == l.number) ≡ false → P y) ls →
        l.number ≤ k → AllByRecursion P ls
    later [] k a g w = tt
    later (y ∷ ys) k a g w =
        let b : k < y.number = a.0 in
        (g.0 (ne_eqb y.number l.number (λ d. omega (arith, d, b, w))), later ys y.number a.1 g.1 (omega (arith, b, w)))
change_all P (suc place) l after (x ∷ rest) e p h q above = (
  h.0 (ne_eqb x.number l.number
      (λ d. (let b : x.number < l.number = beyond rest x.number place above.1 e in omega (arith, d, b)))),
  change_all P place l after rest e p h.1 x.number above.1,
)
  where
    beyond : (ls : List Live) (k at : ℕ) → AreAbove k ls → slice_get ls at ≡ Some l → k < l.number
    beyond [] k at a g = cc
    beyond (y ∷ ys) k zero a g = subst (λ (z : Live). k < z.number) (same_Some y l g) a.0
    beyond (y ∷ ys) k (suc at) a g =
        (let b = a.0 in let d : y.number < l.number = beyond ys y.number at a.1 g in omega (arith, b, d))

-- the others don't have the number
other : (q : ℕ) (l x : Live) → l.number ≡ q → (x.number == l.number) ≡ false → (q == x.number) ≡ false
other q l x n d = ne_eqb q x.number (λ e. true≢false (sym (eq-eqb x.number l.number (sym e ∙ sym n)) ∙ d))

-- each live peer is itself and stays as it was, where an entry of the peer q doesn't touch it
others_ready : (e : Entry) (q : ℕ) (l : Live) (s : State) → Stands s → number_of q s.audience.live.items ≡ Some l →
    ((x : Live) → IsLive s.capacity s.journal.entries x → IsItself s.journal.entries x → (q == x.number) ≡ false →
    IsReady s.capacity e s.journal.entries x) →
    AllByRecursion
    (λ (x : Live). (x.number == l.number) ≡ false → IsReady s.capacity e s.journal.entries x) s.audience.live.items
others_ready e q l s v f h =
    let it = at_number s.journal.entries s.audience.live.items v.who q l f in
    both (IsLive s.capacity s.journal.entries) (IsItself s.journal.entries)
    (λ (x : Live). (x.number == l.number) ≡ false → IsReady s.capacity e s.journal.entries x) s.audience.live.items
    (λ x k i d. h x k i (other q l x it.2 d)) v.live (each_alive s.journal.entries s.audience.live.items v.who)

set_who : (place : ℕ) (l after : Live) (live : List Live) → slice_get live place ≡ Some l → who after ≡ who l →
    map who (set live place after) ≡ map who live
set_who place l after [] e w = cc
set_who zero l after (x ∷ rest) e w = ap (λ (n : _). n ∷ map who rest) (w ∙ ap who (sym (same_Some x l e)))
set_who (suc place) l after (x ∷ rest) e w = ap (λ (ns : List _). who x ∷ ns) (set_who place l after rest e w)

-- the act of a header of a bad size

pub bad_act : (q : ℕ) (head : List ℕ) (older : List Entry) (peer : Joined) → peer_at (past_of older) q ≡ Some peer →
    act_at (entries.BadSize q head) older ≡ acts.Bad peer.label faults.Size peer.label
bad_act q head older peer e = ap (λ o. (of_peer o (λ (p : Joined). refused_for p.label p.label faults.Size)).act) e

bad_makes : (q : ℕ) (head : List ℕ) (older : List Entry) (peer : Joined) → peer_at (past_of older) q ≡ Some peer →
    made_at (entries.BadSize q head) older ++ kept_of older ≡ kept_of older
bad_makes q head older peer e =
    ap (λ o. (of_peer o (λ (p : Joined). refused_for p.label p.label faults.Size)).made ++ kept_of older) e

bad_refused : (q : ℕ) (head : List ℕ) (older : List Entry) (peer : Joined) (k : ℕ) →
    peer_at (past_of older) q ≡ Some peer → k ≡ q →
    refused (entries.BadSize q head ∷ older) k ≡ true
bad_refused q head older peer k e n = rw (eq-eqb q k (sym n)) (ap is_bad (bad_act q head older peer e))

bad_others : (q : ℕ) (head : List ℕ) (older : List Entry) (k : ℕ) → (q == k) ≡ false →
    refused (entries.BadSize q head ∷ older) k ≡ refused older k
bad_others q head older k d = rw d refl

pub ready_bad : (q : ℕ) (head : List ℕ) (place : ℕ) (l : Live) (s t : State) → Stands s →
    CanTake (entries.BadSize q head) s.journal.entries →
    number_of q s.audience.live.items ≡ Some l → slice_get s.audience.live.items place ≡ Some l →
    IsPrepared (act_at (entries.BadSize q head) s.journal.entries) s t →
    t.audience.directory.made ≡ s.audience.directory.made →
    t.audience.live.items ≡ set s.audience.live.items place (record l { is_refused = true }) →
    IsReadyFor (entries.BadSize q head) t
ready_bad q head place l s t v can f at n made live =
    let J : List Entry = s.journal.entries in
    let e : Entry = entries.BadSize q head in
    let after : Live = record l { is_refused = true } in
    let peer : Joined = record { label = l.label; role = l.role } in
    let it = at_number J s.audience.live.items v.who q l f in
    let joined : peer_at (past_of J) q ≡ Some peer = it.0 in
    let is : IsLive s.capacity J l = of_number (IsLive s.capacity J) q l s.audience.live.items v.live f in
    let still : table.Stands (calls_for (e ∷ J) l.label) l.table =
    subst (λ (calls : List Call). table.Stands calls l.table)
    (sym (calls_other e J l.label (label_within J q peer joined) tt)) is.table in
    let here : IsReady s.capacity e J after = record {
      holds = (ready_holds s.capacity e J l is refl).holds;
      choked = is.choked;
      room = is.room;
      table = still;
      refused = sym (bad_refused q head J peer l.number joined it.2);
      waiting = is.waiting;
    } in
    ready_spoken e s t v tt can n (act_fits e J tt) (made ∙ v.made ∙ sym (bad_makes q head J peer joined))
    (ap (map who) live ∙ set_who place l after s.audience.live.items at refl)
    (subst (λ (ls : List Live). AllByRecursion (IsReady s.capacity e J) ls) (sym live)
    (change_all (IsReady s.capacity e J) place l after s.audience.live.items at here
    (others_ready e q l s v f
    (λ x k i d. ready_still s.capacity e J x k (calls_other e J x.label (label_within J x.number _ i.0) tt)
    (bad_others q head J x.number d) refl refl))
    0 (rising J s.audience.live.items v.who)))

-- the act of a message

pub message_act : (q id opcode : ℕ) (body : List ℕ) (older : List Entry) (p : ℕ) (m : declared.Meaning) →
    meant p (length older + 1) m ≡ means (entries.Message q id opcode body) (length older + 1) (past_of older) →
    act_at (entries.Message q id opcode body) older ≡ m.act
message_act q id opcode body older p m e = ap (λ (k : Meaning). k.act) (sym e)

message_refused : (q id opcode : ℕ) (body : List ℕ) (older : List Entry) (p : ℕ) (m : declared.Meaning) (k : ℕ) →
    meant p (length older + 1) m ≡ means (entries.Message q id opcode body) (length older + 1) (past_of older) → k ≡ q →
    refused (entries.Message q id opcode body ∷ older) k ≡ is_bad m.act
message_refused q id opcode body older p m k e n =
    rw (eq-eqb q k (sym n)) (ap is_bad (message_act q id opcode body older p m e))

message_others : (q id opcode : ℕ) (body : List ℕ) (older : List Entry) (k : ℕ) → (q == k) ≡ false →
    refused (entries.Message q id opcode body ∷ older) k ≡ refused older k
message_others q id opcode body older k d = rw d refl

message_makes : (q id opcode : ℕ) (body : List ℕ) (older : List Entry) (p : ℕ) (m : declared.Meaning) →
    meant p (length older + 1) m ≡ means (entries.Message q id opcode body) (length older + 1) (past_of older) →
    made_at (entries.Message q id opcode body) older ++ kept_of older
    ≡ made_new p (length older + 1) (option_map asked m.made) ++ kept_of older
message_makes q id opcode body older p m e = ap (λ (k : Meaning). k.made ++ kept_of older) (sym e)

-- it isn't from any other live peer
not_from : (q id opcode : ℕ) (body : List ℕ) (older : List Entry) (peer : Joined) (x : Live) →
    peer_at (past_of older) q ≡ Some peer → IsItself older x →
    (q == x.number) ≡ false → IsNotFrom (entries.Message q id opcode body) older x.label
not_from q id opcode body older peer x e i d =
    ap (λ o. is_label o x.label) e
    ∙ label_number older q x.number peer (record { label = x.label; role = x.role }) e i.0 ∙ d

pub ready_message : (q id opcode : ℕ) (body : List ℕ) (place : ℕ) (l after : Live) (m : declared.Meaning)
    (s t : State) → Stands s →
    CanTake (entries.Message q id opcode body) s.journal.entries → length body ≤ 4088 →
    number_of q s.audience.live.items ≡ Some l → slice_get s.audience.live.items place ≡ Some l →
    meant l.label (length s.journal.entries + 1) m
    ≡ means (entries.Message q id opcode body) (length s.journal.entries + 1) (past_of s.journal.entries) →
    IsPrepared m.act s t →
    t.audience.directory.made
    ≡ made_new l.label (length s.journal.entries + 1) (option_map asked m.made) ++ s.audience.directory.made →
    m.takes_token ≡ takes_token (object_at (past_of s.journal.entries) l.label id) opcode →
    IsChanged id (length s.journal.entries + 1) m.takes_token m.act (option_map asked m.made) l after →
    t.audience.live.items ≡ set s.audience.live.items place after →
    IsReadyFor (entries.Message q id opcode body) t
ready_message q id opcode body place l after m s t v can short f at meaning n made takes change live =
    let J : List Entry = s.journal.entries in
    let e : Entry = entries.Message q id opcode body in
    let peer : Joined = record { label = l.label; role = l.role } in
    let it = at_number J s.audience.live.items v.who q l f in
    let joined : peer_at (past_of J) q ≡ Some peer = it.0 in
    let is : IsLive s.capacity J l = of_number (IsLive s.capacity J) q l s.audience.live.items v.live f in
    let act : act_at e J ≡ m.act = message_act q id opcode body J l.label m meaning in
    let calls : calls_for (e ∷ J) l.label
    ≡ own_calls id (length J + 1) m.act (option_map asked m.made) ++ calls_for J l.label =
    calls_own q id opcode body J peer m joined it.1 meaning in
    let changed : Live = record l {
      table = after.table;
      is_refused = is_bad m.act;
      waiting = without_taken m.takes_token l.waiting;
    } in
    let here : IsReady s.capacity e J changed = record {
      holds = (ready_holds s.capacity e J l is refl).holds;
      choked = is.choked;
      room = is.room;
      table = subst (λ (cs : List Call). table.Stands cs after.table) (sym calls)
          (change.table (calls_for J l.label) is.table);
      refused = sym (message_refused q id opcode body J l.label m l.number meaning it.2);
      waiting = ap (without_taken m.takes_token) is.waiting
          ∙ ap (λ (b : Bool). without_taken b ((past_of J).waiting l.label)) takes
          ∙ sym (message_own q id opcode body (past_of J) peer joined);
    } in
    ready_spoken e s t v tt can (subst (λ a. IsPrepared a s t) (sym act) n) (act_fits e J short)
    (made ∙ ap (λ (ms : List Made). made_new l.label (length J + 1) (option_map asked m.made) ++ ms) v.made
    ∙ sym (message_makes q id opcode body J l.label m meaning))
    (ap (map who) live ∙ set_who place l after s.audience.live.items at (ap who change.same))
    (subst (λ (ls : List Live). AllByRecursion (IsReady s.capacity e J) ls) (sym live)
    (change_all (IsReady s.capacity e J) place l after s.audience.live.items at
    (subst (IsReady s.capacity e J) (sym change.same) here)
    (others_ready e q l s v f
    (λ x k i d. ready_still s.capacity e J x k
    (calls_other e J x.label (label_within J x.number _ i.0) (not_from q id opcode body J peer x joined i d))
    (message_others q id opcode body J x.number d) refl
    (message_other q id opcode body (past_of J) peer x.label joined
    (label_number J q x.number peer (record { label = x.label; role = x.role }) joined i.0 ∙ d))))
    0 (rising J s.audience.live.items v.who)))

-- tokens of a live peer: they wait for it

pub ready_tokens : (q : ℕ) (tokens : List ℕ) (place : ℕ) (l : Live) (s t : State) → Stands s →
    CanTake (entries.Tokens q tokens) s.journal.entries →
    number_of q s.audience.live.items ≡ Some l → slice_get s.audience.live.items place ≡ Some l →
    IsPrepared acts.Idle s t →
    t.audience.directory.made ≡ s.audience.directory.made →
    t.audience.live.items ≡ set s.audience.live.items place (record l { waiting = with_tokens l.waiting tokens }) →
    IsReadyFor (entries.Tokens q tokens) t
ready_tokens q tokens place l s t v can f at n made live =
    let J : List Entry = s.journal.entries in
    let e : Entry = entries.Tokens q tokens in
    let after : Live = record l { waiting = with_tokens l.waiting tokens } in
    let peer : Joined = record { label = l.label; role = l.role } in
    let it = at_number J s.audience.live.items v.who q l f in
    let joined : peer_at (past_of J) q ≡ Some peer = it.0 in
    let is : IsLive s.capacity J l = of_number (IsLive s.capacity J) q l s.audience.live.items v.live f in
    let still : table.Stands (calls_for (e ∷ J) l.label) l.table =
    subst (λ (calls : List Call). table.Stands calls l.table)
    (sym (calls_other e J l.label (label_within J q peer joined) tt)) is.table in
    let here : IsReady s.capacity e J after = record {
      holds = (ready_holds s.capacity e J l is refl).holds;
      choked = is.choked;
      room = is.room;
      table = still;
      refused = is.refused;
      waiting = ap (λ (w : List ℕ). with_tokens w tokens) is.waiting
          ∙ sym (tokens_own q tokens (past_of J) peer joined);
    } in
    ready_spoken e s t v tt can n (act_fits e J tt) (made ∙ v.made)
    (ap (map who) live ∙ set_who place l after s.audience.live.items at refl)
    (subst (λ (ls : List Live). AllByRecursion (IsReady s.capacity e J) ls) (sym live)
    (change_all (IsReady s.capacity e J) place l after s.audience.live.items at here
    (others_ready e q l s v f
    (λ x k i d. ready_still s.capacity e J x k (calls_other e J x.label (label_within J x.number _ i.0) tt) refl refl
    (tokens_other q tokens (past_of J) peer x.label joined
    (label_number J q x.number peer (record { label = x.label; role = x.role }) joined i.0 ∙ d))))
    0 (rising J s.audience.live.items v.who)))
