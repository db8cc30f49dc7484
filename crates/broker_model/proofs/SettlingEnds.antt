-- Settling ends one peer after the other, and leaves none that is due.
use Rattle.std.proofs.Common.{◌≡◌, ℕ, zero, suc, ◌+◌, ◌<◌, ◌≤◌, List, [], ◌∷◌, ◌++◌, length, Bool, true, false, cond, Option, Some, None, ap, refl, sym, ◌∙◌, arith}
use Rattle.std.specs.Prelude.{◌==◌, ◌&&◌, filter, if◌then◌else◌}
use Rattle.std.specs.List.{count_by, slice_get}
use Rattle.std.proofs.lemmas.Bool.{eq-eqb, true≢false}
use Rattle.std.proofs.lemmas.List.Sums.{length-filter}
use Rattle.relay_model.specs.declared.act.Act.{Act}
use Rattle.relay_model.specs.declared.act.Act.TheVariants as acts
use Rattle.relay_model.specs.declared.act.EndCause.{EndCause}
use Rattle.relay_model.specs.declared.act.EndCause.TheVariants.{Bad, Full}
use Rattle.relay_model.specs.Objects.{is_peer_kind, is_kind, owner, remains, object, is_peer}
use Rattle.relay_model.specs.Idle.{cleaned, history as log_history}
use Rattle.relay_model.proofs.ActsOrIdle.{history_is}
use Rattle.relay_model.proofs.ObjectLaws.{object_step, kind_within}
use Rattle.broker_model.specs.declared.journal.Entry.{Entry}
use Rattle.broker_model.specs.declared.journal.Entry.TheVariants as entries
use Rattle.broker_model.specs.Ids.{Joined, log_of, peer_in, peer_at}
use Rattle.broker_model.specs.Resolve.{only, of_peer, past_of, resolve}
use Rattle.broker_model.specs.Out.{act_at}
use Rattle.broker_model.specs.Settle.{refused, is_due, due_from, due, cause_of, with_end, settled, number_alive, settle, history, step_of, outer}
use Rattle.broker_model.proofs.OwnersLive.{own_peer}
use Rattle.broker_model.proofs.LivePeersJoined.{still_peer}

-- the lowest number that is due

pub record IsFound (capacity : ℕ) (journal : List Entry) (k : ℕ) (ps : List Joined) (q : ℕ) : Type 0 where
  pub place : ℕ
  pub peer : Joined
  pub number : q ≡ k + place
  pub found : slice_get ps place ≡ Some peer
  pub is : is_due capacity journal q peer ≡ true

found_by : (capacity : ℕ) (journal : List Entry) (k : ℕ) (p : Joined) (ps : List Joined) (q : ℕ) (b : Bool) →
    is_due capacity journal k p ≡ b →
    (due_from capacity journal (suc k) ps ≡ Some q → IsFound capacity journal (suc k) ps q) →
    (if b then Some k else due_from capacity journal (suc k) ps) ≡ Some q → IsFound capacity journal k (p ∷ ps) q
found_by capacity journal k p ps q true d f e =
    let s : k ≡ q = cc in
    record {
      place = 0;
      peer = p;
      number = omega arith;
      found = refl;
      is = ap (λ n. is_due capacity journal n p) (sym s)
          ∙ d;
    }
found_by capacity journal k p ps q false d f e =
    let i : IsFound capacity journal (suc k) ps q = f e in
    record {
      place = suc i.place;
      peer = i.peer;
      number = (let n = i.number in omega arith);
      found = i.found;
      is = i.is;
    }

found : (capacity : ℕ) (journal : List Entry) (k : ℕ) (ps : List Joined) (q : ℕ) →
    due_from capacity journal k ps ≡ Some q →
    IsFound capacity journal k ps q
found capacity journal k [] q e = cc
found capacity journal k (p ∷ ps) q e =
    found_by capacity journal k p ps q (is_due capacity journal k p) refl (found capacity journal (suc k) ps q) e

none_by : (capacity : ℕ) (journal : List Entry) (k : ℕ) (p : Joined) (ps : List Joined) (b : Bool) →
    is_due capacity journal k p ≡ b →
    (if b then Some k else due_from capacity journal (suc k) ps) ≡ None →
    (is_due capacity journal k p ≡ false) × (due_from capacity journal (suc k) ps ≡ None)
none_by capacity journal k p ps true d e = cc
none_by capacity journal k p ps false d e = (d, e)

not_found : (capacity : ℕ) (journal : List Entry) (k : ℕ) (ps : List Joined) (place : ℕ) (peer : Joined) →
    due_from capacity journal k ps ≡ None → slice_get ps place ≡ Some peer →
    is_due capacity journal (k + place) peer ≡ false
not_found capacity journal k [] place peer e g = cc
not_found capacity journal k (p ∷ ps) zero peer e g =
    let n : (is_due capacity journal k p ≡ false) × (due_from capacity journal (suc k) ps ≡ None) =
    none_by capacity journal k p ps (is_due capacity journal k p) refl e in
    let s : p ≡ peer = cc in
    let z : k + 0 ≡ k = omega arith in
    ap (λ m. is_due capacity journal m peer) z ∙ ap (is_due capacity journal k) (sym s) ∙ n.0
not_found capacity journal k (p ∷ ps) (suc place) peer e g =
    let n : (is_due capacity journal k p ≡ false) × (due_from capacity journal (suc k) ps ≡ None) =
    none_by capacity journal k p ps (is_due capacity journal k p) refl e in
    let z : k + suc place ≡ suc k + place = omega arith in
    ap (λ m. is_due capacity journal m peer) z ∙ not_found capacity journal (suc k) ps place peer n.1 g

-- the peer with the number is due
pub record IsDue (capacity : ℕ) (journal : List Entry) (q : ℕ) : Type 0 where
  pub peer : Joined
  pub joined : peer_at (past_of journal) q ≡ Some peer
  pub is : is_due capacity journal q peer ≡ true

pub due_is : (capacity : ℕ) (journal : List Entry) (q : ℕ) → due capacity journal ≡ Some q → IsDue capacity journal q
due_is capacity journal q e =
    let f : IsFound capacity journal 1 (past_of journal).joined q =
    found capacity journal 1 (past_of journal).joined q e in
    let s : q ≡ suc f.place = (let n = f.number in omega arith) in
    record { peer = f.peer; joined = ap (peer_in (past_of journal).joined) s ∙ f.found; is = f.is }

-- nobody is due
pub record IsSettled (capacity : ℕ) (journal : List Entry) : Type 0 where
  pub nobody : (q : ℕ) (peer : Joined) → peer_at (past_of journal) q ≡ Some peer →
      is_due capacity journal q peer ≡ false

pub settled_none : (capacity : ℕ) (journal : List Entry) → due capacity journal ≡ None → IsSettled capacity journal
settled_none capacity journal e = record { nobody = nobody }
  where
    nobody : (q : ℕ) (peer : Joined) → peer_at (past_of journal) q ≡ Some peer → is_due capacity journal q peer ≡ false
    nobody zero peer g = cc
    nobody (suc q) peer g =
        let z : suc q ≡ 1 + q = omega arith in
        ap (λ m. is_due capacity journal m peer) z ∙ not_found capacity journal 1 (past_of journal).joined q peer e g

-- how many pass a test

few_by : (b c : Bool) (x : Joined) (ys zs : List Joined) → (b ≡ true → c ≡ true) → length ys ≤ length zs →
    length (cond b (x ∷ ys) ys) ≤ length (cond c (x ∷ zs) zs)
few_by true true x ys zs h l = omega arith
few_by true false x ys zs h l = absurd (true≢false (sym (h refl)))
few_by false true x ys zs h l = omega arith
few_by false false x ys zs h l = l

few : (less test : Joined → Bool) (ps : List Joined) → ((p : Joined) → less p ≡ true → test p ≡ true) →
    length (filter less ps) ≤ length (filter test ps)
few less test [] h = omega arith
few less test (p ∷ ps) h = few_by (less p) (test p) p (filter less ps) (filter test ps) (h p) (few less test ps h)

fewer_here : (b c : Bool) (x : Joined) (ys zs : List Joined) → b ≡ false → c ≡ true → length ys ≤ length zs →
    length (cond b (x ∷ ys) ys) < length (cond c (x ∷ zs) zs)
fewer_here true c x ys zs e d l = cc
fewer_here false true x ys zs e d l = omega arith
fewer_here false false x ys zs e d l = cc

fewer_there : (b c : Bool) (x : Joined) (ys zs : List Joined) → (b ≡ true → c ≡ true) → length ys < length zs →
    length (cond b (x ∷ ys) ys) < length (cond c (x ∷ zs) zs)
fewer_there true true x ys zs h l = omega arith
fewer_there true false x ys zs h l = absurd (true≢false (sym (h refl)))
fewer_there false true x ys zs h l = omega arith
fewer_there false false x ys zs h l = l

fewer : (less test : Joined → Bool) (ps : List Joined) (place : ℕ) (peer : Joined) →
    ((p : Joined) → less p ≡ true → test p ≡ true) →
    slice_get ps place ≡ Some peer → less peer ≡ false → test peer ≡ true →
    length (filter less ps) < length (filter test ps)
fewer less test [] place peer h g e d = cc
fewer less test (p ∷ ps) zero peer h g e d =
    let s : p ≡ peer = cc in
    fewer_here (less p) (test p) p (filter less ps) (filter test ps) (ap less s ∙ e) (ap test s ∙ d)
    (few less test ps h)
fewer less test (p ∷ ps) (suc place) peer h g e d =
    fewer_there (less p) (test p) p (filter less ps) (filter test ps) (h p) (fewer less test ps place peer h g e d)

none_here : (b : Bool) (x : Joined) (ys : List Joined) → length (cond b (x ∷ ys) ys) ≤ 0 → (b ≡ false) × (length ys ≤ 0)
none_here true x ys l = absurd (omega arith)
none_here false x ys l = (refl, l)

none_passes : (test : Joined → Bool) (ps : List Joined) (place : ℕ) (peer : Joined) → length (filter test ps) ≤ 0 →
    slice_get ps place ≡ Some peer → test peer ≡ false
none_passes test [] place peer l g = cc
none_passes test (p ∷ ps) zero peer l g =
    let s : p ≡ peer = cc in
    ap test (sym s) ∙ (none_here (test p) p (filter test ps) l).0
none_passes test (p ∷ ps) (suc place) peer l g =
    none_passes test ps place peer (none_here (test p) p (filter test ps) l).1 g

-- an end of a live peer

pub end_act : (journal : List Entry) (q : ℕ) (why : EndCause) (peer : Joined) →
    peer_at (past_of journal) q ≡ Some peer →
    act_at (entries.End q why) journal ≡ acts.Gone peer.label why
end_act journal q why peer e = ap (λ o. (of_peer o (λ p. only (acts.Gone p.label why))).act) e

gone_lives : (log : List Act) (p : ℕ) (why : EndCause) → is_peer log p ≡ true →
    cleaned (acts.Gone p why) log ≡ acts.Gone p why
gone_lives log p why h = rw h refl

pub end_cleaned : (journal : List Entry) (q : ℕ) (why : EndCause) (peer : Joined) →
    peer_at (past_of journal) q ≡ Some peer →
    is_peer (log_of (past_of journal)) peer.label ≡ true →
    cleaned (act_at (entries.End q why) journal) (log_of (past_of journal)) ≡ acts.Gone peer.label why
end_cleaned journal q why peer e h =
    ap (λ act. cleaned act (log_of (past_of journal))) (end_act journal q why peer e)
    ∙ gone_lives (log_of (past_of journal)) peer.label why h

pub end_log : (journal : List Entry) (q : ℕ) (why : EndCause) (peer : Joined) →
    peer_at (past_of journal) q ≡ Some peer →
    is_peer (log_of (past_of journal)) peer.label ≡ true →
    log_of (past_of (entries.End q why ∷ journal)) ≡ acts.Gone peer.label why ∷ log_of (past_of journal)
end_log journal q why peer e h = ap (λ act. act ∷ log_of (past_of journal)) (end_cleaned journal q why peer e h)

fewer_gone_by : (log : List Act) (p x : ℕ) (why : EndCause) (b : Bool) →
    is_kind is_peer_kind (if b then None else remains (acts.Gone p why) x (object log x)) ≡ true → is_peer log x ≡ true
fewer_gone_by log p x why true h = cc
fewer_gone_by log p x why false h = still_peer (acts.Gone p why) x (object log x) h

fewer_gone : (log : List Act) (p x : ℕ) (why : EndCause) → is_peer (acts.Gone p why ∷ log) x ≡ true →
    is_peer log x ≡ true
fewer_gone log p x why h = fewer_gone_by log p x why (x == length log + 1) h

gone_ends : (raw : List Act) (p : ℕ) (why : EndCause) → is_peer (log_history raw) p ≡ true →
    is_peer (acts.Gone p why ∷ log_history raw) p ≡ false
gone_ends raw p why h =
    let w : p ≤ length (log_history raw) = kind_within is_peer_kind (log_history raw) p h in
    let own : owner (object (log_history raw) p) ≡ Some p = own_peer (log_history raw) p (history_is raw) h in
    rw (object_step (acts.Gone p why) (log_history raw) p w, own, eq-eqb p p refl) refl

and_left : (a b : Bool) → (a && b) ≡ true → a ≡ true
and_left true b h = refl
and_left false b h = cc

pub and_false_left : (a b : Bool) → a ≡ false → (a && b) ≡ false
and_false_left true b h = cc
and_false_left false b h = refl

-- who is due is alive
pub due_lives : (capacity : ℕ) (journal : List Entry) (q : ℕ) (d : IsDue capacity journal q) →
    is_peer (log_of (past_of journal)) d.peer.label ≡ true
due_lives capacity journal q d = and_left _ _ d.is

place_of : (joined : List Joined) (q : ℕ) (peer : Joined) → peer_in joined q ≡ Some peer →
    (place : ℕ) × (slice_get joined place ≡ Some peer)
place_of joined zero peer e = cc
place_of joined (suc q) peer e = (q, e)

abbrev is_alive : List Act → Joined → Bool
is_alive log peer = is_peer log peer.label

pub ends_fewer : (capacity : ℕ) (journal : List Entry) (q : ℕ) (why : EndCause) → due capacity journal ≡ Some q →
    number_alive (entries.End q why ∷ journal) < number_alive journal
ends_fewer capacity journal q why e =
    let d : IsDue capacity journal q = due_is capacity journal q e in
    let log : List Act = log_of (past_of journal) in
    let ps : List Joined = (past_of journal).joined in
    let lives : is_peer log d.peer.label ≡ true = due_lives capacity journal q d in
    let place : (place : ℕ) × (slice_get ps place ≡ Some d.peer) = place_of ps q d.peer d.joined in
    let gone : is_peer (acts.Gone d.peer.label why ∷ log) d.peer.label ≡ false =
    gone_ends (resolve journal) d.peer.label why lives in
    let less : length (filter (is_alive (acts.Gone d.peer.label why ∷ log)) ps) < length (filter (is_alive log) ps) =
    fewer (is_alive (acts.Gone d.peer.label why ∷ log)) (is_alive log) ps place.0 d.peer
    (λ p h. fewer_gone log d.peer.label p.label why h)
    place.1 gone lives in
    let new : number_alive (entries.End q why ∷ journal)
    ≡ length (filter (is_alive (acts.Gone d.peer.label why ∷ log)) ps) =
    ap (λ log. count_by (is_alive log) ps) (end_log journal q why d.peer d.joined lives)
    ∙ sym (length-filter (is_alive (acts.Gone d.peer.label why ∷ log)) ps) in
    let old : number_alive journal ≡ length (filter (is_alive log) ps) = sym (length-filter (is_alive log) ps) in
    omega arith

-- ends by fuel

pub settled_done : (capacity fuel : ℕ) (journal : List Entry) → due capacity journal ≡ None →
    settled capacity fuel journal ≡ journal
settled_done capacity zero journal e = refl
settled_done capacity (suc fuel) journal e =
    ap (λ o. settled capacity fuel (with_end journal o)) e ∙ settled_done capacity fuel journal e

none_alive : (capacity : ℕ) (journal : List Entry) → number_alive journal ≤ 0 → IsSettled capacity journal
none_alive capacity journal l = record { nobody = nobody }
  where
    nobody : (q : ℕ) (peer : Joined) → peer_at (past_of journal) q ≡ Some peer → is_due capacity journal q peer ≡ false
    nobody q peer e =
        let log : List Act = log_of (past_of journal) in
        let ps : List Joined = (past_of journal).joined in
        let place : (place : ℕ) × (slice_get ps place ≡ Some peer) = place_of ps q peer e in
        let old : number_alive journal ≡ length (filter (is_alive log) ps) = sym (length-filter (is_alive log) ps) in
        and_false_left _ _ (none_passes (is_alive log) ps place.0 peer (omega arith) place.1)

settles_by : (capacity fuel : ℕ) (journal : List Entry) (o : Option ℕ) → due capacity journal ≡ o →
    number_alive journal ≤ suc fuel →
    ((later : List Entry) → number_alive later ≤ fuel → IsSettled capacity (settled capacity fuel later)) →
    IsSettled capacity (settled capacity fuel (with_end journal o))
settles_by capacity fuel journal None e l k =
    rw (settled_done capacity fuel journal e) (settled_none capacity journal e)
settles_by capacity fuel journal (Some q) e l k =
    let less : number_alive (entries.End q (cause_of journal q) ∷ journal) < number_alive journal =
    ends_fewer capacity journal q (cause_of journal q) e in
    k (entries.End q (cause_of journal q) ∷ journal) (omega arith)

pub settles : (capacity fuel : ℕ) (journal : List Entry) → number_alive journal ≤ fuel →
    IsSettled capacity (settled capacity fuel journal)
settles capacity zero journal l = none_alive capacity journal l
settles capacity (suc fuel) journal l =
    settles_by capacity fuel journal (due capacity journal) refl l (settles capacity fuel)

-- in a history nobody is due
pub history_settled : (capacity : ℕ) (steps : List Entry) → IsSettled capacity (history capacity steps)
history_settled capacity [] = settled_none capacity [] refl
history_settled capacity (step ∷ older) =
    settles capacity (number_alive (step ∷ history capacity older)) (step ∷ history capacity older) (omega arith)

-- more fuel changes nothing

none_due : (capacity : ℕ) (journal : List Entry) (o : Option ℕ) → due capacity journal ≡ o → number_alive journal ≤ 0 →
    o ≡ None
none_due capacity journal None e l = refl
none_due capacity journal (Some q) e l =
    let less : number_alive (entries.End q (cause_of journal q) ∷ journal) < number_alive journal =
    ends_fewer capacity journal q (cause_of journal q) e in
    absurd (omega arith)

enough_by : (capacity f g : ℕ) (journal : List Entry) (o : Option ℕ) → due capacity journal ≡ o →
    number_alive journal ≤ suc f →
    number_alive journal ≤ suc g →
    ((later : List Entry) → number_alive later ≤ f → number_alive later ≤ g →
    settled capacity f later ≡ settled capacity g later) →
    settled capacity f (with_end journal o) ≡ settled capacity g (with_end journal o)
enough_by capacity f g journal None e l m k =
    settled_done capacity f journal e ∙ sym (settled_done capacity g journal e)
enough_by capacity f g journal (Some q) e l m k =
    let less : number_alive (entries.End q (cause_of journal q) ∷ journal) < number_alive journal =
    ends_fewer capacity journal q (cause_of journal q) e in
    k (entries.End q (cause_of journal q) ∷ journal) (omega arith) (omega arith)

pub enough : (capacity f g : ℕ) (journal : List Entry) → number_alive journal ≤ f → number_alive journal ≤ g →
    settled capacity f journal ≡ settled capacity g journal
enough capacity zero g journal l m =
    sym (settled_done capacity g journal (none_due capacity journal (due capacity journal) refl l))
enough capacity (suc f) zero journal l m =
    settled_done capacity (suc f) journal (none_due capacity journal (due capacity journal) refl m)
enough capacity (suc f) (suc g) journal l m =
    enough_by capacity f g journal (due capacity journal) refl l m (enough capacity f g)

-- the next end of a settling, and its last
pub settle_done : (capacity : ℕ) (journal : List Entry) → due capacity journal ≡ None →
    settle capacity journal ≡ journal
settle_done capacity journal e = settled_done capacity (number_alive journal) journal e

pub settle_next : (capacity : ℕ) (journal : List Entry) (q : ℕ) → due capacity journal ≡ Some q →
    settle capacity journal ≡ settle capacity (entries.End q (cause_of journal q) ∷ journal)
settle_next capacity journal q e =
    let later : List Entry = entries.End q (cause_of journal q) ∷ journal in
    let less : number_alive (entries.End q (cause_of journal q) ∷ journal) < number_alive journal =
    ends_fewer capacity journal q (cause_of journal q) e in
    enough capacity (number_alive journal) (suc (number_alive journal)) journal (omega arith) (omega arith)
    ∙ ap (λ o. settled capacity (number_alive journal) (with_end journal o)) e
    ∙ enough capacity (number_alive journal) (number_alive later) later (omega arith) (omega arith)

-- settling adds no outer step

end_no_step : (q : ℕ) (b : Bool) → step_of (entries.End q (if b then Bad else Full)) ≡ []
end_no_step q true = refl
end_no_step q false = refl

outer_end : (journal : List Entry) (o : Option ℕ) → outer (with_end journal o) ≡ outer journal
outer_end journal None = refl
outer_end journal (Some q) = ap (λ steps. steps ++ outer journal) (end_no_step q (refused journal q))

pub outer_settled : (capacity fuel : ℕ) (journal : List Entry) → outer (settled capacity fuel journal) ≡ outer journal
outer_settled capacity zero journal = refl
outer_settled capacity (suc fuel) journal =
    outer_settled capacity fuel (with_end journal (due capacity journal)) ∙ outer_end journal (due capacity journal)

-- a journal that is the history of its outer steps stays one
pub history_stays : (capacity : ℕ) (e : Entry) (journal : List Entry) → step_of e ≡ e ∷ [] →
    history capacity (outer journal) ≡ journal →
    history capacity (outer (settle capacity (e ∷ journal))) ≡ settle capacity (e ∷ journal)
history_stays capacity e journal s h =
    ap (history capacity)
    (outer_settled capacity (number_alive (e ∷ journal)) (e ∷ journal) ∙ ap (λ steps. steps ++ outer journal) s)
    ∙ ap (λ j. settle capacity (e ∷ j)) h
