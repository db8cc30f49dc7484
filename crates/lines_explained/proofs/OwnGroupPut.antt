-- A relayed batch tells its group to its field's peer alone, so a group was put exactly where that one was.
use Rattle.std.proofs.Common.{◌≡◌, ◌↔◌, ℕ, zero, suc, ◌+◌, ◌<◌, List, [], ◌∷◌, ◌++◌, length, map, Bool, true, false, not, Option, Some, None, ap, refl, sym, ◌∙◌, arith}
use Rattle.std.specs.Prelude.{◌==◌, ◌&&◌, ◌||◌, if◌then◌else◌, is_some, is_none}
use Rattle.std.specs.List.{slice_get}
use Rattle.std.proofs.lemmas.Bool.{eq-eqb, eqb-true, ne_eqb, true≢false}
use Rattle.std.proofs.lemmas.List.{append-nil, append_assoc, length-append}
use Rattle.relay_model.specs.declared.act.Act.{Act}
use Rattle.relay_model.specs.declared.act.Act.TheVariants as acts
use Rattle.relay_model.specs.declared.said.Said.{Said}
use Rattle.relay_model.specs.declared.said.Said.TheVariants as said
use Rattle.relay_model.specs.Objects.{Object, is_at, is_kind, is_method_kind, is_field_kind, is_method, owner, next, remains, object, alive}
use Rattle.relay_model.specs.Focus.{where_alive}
use Rattle.relay_model.specs.Hold.{holder}
use Rattle.relay_model.specs.Activation.{serving, begun, named, is_from, fresh}
use Rattle.relay_model.specs.Batch.{batch, deletion_said, string_said, preedit_said, group, group_of, commit_count}
use Rattle.relay_model.specs.Idle.{is_live, cleaned, history}
use Rattle.relay_model.specs.Told.{to, told}
use Rattle.relay_model.proofs.ActsOrIdle.{history_is}
use Rattle.relay_model.proofs.ObjectLaws.{object_step, object_new, kind_within}
use Rattle.relay_reasons.specs.declared.fate.BatchFate.{BatchFate}
use Rattle.relay_reasons.specs.declared.fate.BatchFate.TheVariants as fates
use Rattle.relay_reasons.specs.Fate.{fate}
use Rattle.relay_reasons.specs.Laws.{IsRelayed}
use Rattle.relay_reasons.proofs.FateLaws.{relayed_fresh}
use Rattle.lines_explained.specs.declared.outcome.Outcome.{Outcome}
use Rattle.lines_explained.specs.Outcome.{outcome_of}
use Rattle.broker_model.specs.declared.journal.Entry.{Entry}
use Rattle.broker_model.specs.Ids.{Made, Joined, peer_in, made_as}
use Rattle.broker_model.specs.Resolve.{past_of, resolve}
use Rattle.broker_model.specs.Groups.{message_of, message_piece, event_piece, nothing, group_for, said_piece}
use Rattle.broker_model.specs.Out.{act_at, act_now, group_at, fits, before_group, out_for}
use Rattle.broker_model.specs.Queued as queue
use Rattle.broker_model.specs.Queued.{relays, is_put, queued}
use Rattle.broker_model.specs.Law.{IsAlone}
use Rattle.broker_model.proofs.OwnersLive.{IsThere, IsOwned, owned, remains_some, holder_there}
use Rattle.broker_model.proofs.LivePeersJoined.{IsNumbered, numbered as number_of, joined_stays}
use Rattle.broker_model.proofs.BatchGroupsWhole.{both, at_is, fresh_told, whole_groups}
use Rattle.broker_core.specs.Lives.{Numbered}
use Rattle.broker_core.specs.Stands.{numbered}
use Rattle.broker_core.proofs.BodyLengths.{message_length}
use Rattle.lines_explained.specs.Journals.{is_put_for, is_put_among, was_put, outcome_at}
use Rattle.lines_explained.specs.ReasonLaws.{Commits, PutIsOwn, SaidIsQueued, queued_by}
use Rattle.lines_explained.proofs.OutcomesGiven.{given}

-- ---- the method that serves is a live method

there_both : (log : List Act) (o : Option ℕ) (m : ℕ) → where_alive log o ≡ Some m →
    (o ≡ Some m) × (alive log m ≡ true)
there_both log None m e = cc
there_both log (Some t) m e = at (alive log t) refl e
  where
    at : (b : Bool) → alive log t ≡ b → (if b then Some t else None) ≡ Some m →
        (Some t ≡ Some m) × (alive log m ≡ true)
    at true k d = let same : t ≡ m = cc in (ap Some same, ap (alive log) (sym same) ∙ k)
    at false k d = cc

still_method : (act : Act) (m : ℕ) (o r : Option Object) → remains act m o ≡ r → is_some r ≡ true →
    is_kind is_method_kind o ≡ true → is_kind is_method_kind r ≡ true
still_method act m o None e s k = cc
still_method act m o (Some u) e s k = ap (is_kind is_method_kind) (sym (remains_some act m o u e)) ∙ k

serves_on : (act : Act) (older : List Act) (m : ℕ) → where_alive (act ∷ older) (serving older) ≡ Some m →
    (serving older ≡ Some m → is_method older m ≡ true) → is_method (act ∷ older) m ≡ true
serves_on act older m e before =
    let t = there_both (act ∷ older) (serving older) m e in
    let k : is_method older m ≡ true = before t.0 in
    let step : object (act ∷ older) m ≡ remains act m (object older m) =
    object_step act older m (kind_within is_method_kind older m k) in
    ap (is_kind is_method_kind) step
    ∙ still_method act m (object older m) (remains act m (object older m)) refl (ap is_some (sym step) ∙ t.1) k

serves_new : (p : ℕ) (older : List Act) (o : Option ℕ) (m : ℕ) → serving older ≡ o →
    (serving older ≡ Some m → is_method older m ≡ true) →
    (if is_none o then Some (next older) else o) ≡ Some m → is_method (acts.Method p ∷ older) m ≡ true
serves_new p older None m d k e =
    let q : length older + 1 ≡ m = cc in
    rw (← q) (ap (is_kind is_method_kind) (object_new (acts.Method p) older))
serves_new p older (Some n) m d k e =
    let there : is_method older m ≡ true = k (d ∙ e) in
    ap (is_kind is_method_kind) (object_step (acts.Method p) older m (kind_within is_method_kind older m there)) ∙ there

serving_method : (log : List Act) (m : ℕ) → serving log ≡ Some m → is_method log m ≡ true
serving_method [] m e = cc
serving_method (acts.Method p ∷ older) m e = serves_new p older (serving older) m refl (serving_method older m) e
serving_method (act ∷ older) m e = serves_on act older m e (serving_method older m)

-- ---- the entry of a relayed batch

and_both : (a b : Bool) → a ≡ true → b ≡ true → (a && b) ≡ true
and_both a b h k = rw (h, k) refl

live_now : (log : List Act) (m serial : ℕ) → fresh (acts.MCommit m serial) log ≡ true →
    is_live (acts.MCommit m serial) log ≡ true
live_now log m serial h =
    serving_method log m (at_is (serving log) m
    (both (is_at (serving log) m) (is_from (begun log) (named log m serial)) h).0)

now_is : (e : Entry) (older : List Entry) (m serial : ℕ) → Commits e older m serial →
    fresh (acts.MCommit m serial) (history (resolve older)) ≡ true → act_now e older ≡ acts.MCommit m serial
now_is e older m serial c h =
    ap (λ (a : Act). cleaned a (history (resolve older))) c
    ∙ ap (λ (b : Bool). if b then acts.MCommit m serial else acts.Idle) (live_now (history (resolve older)) m serial h)

relays_then : (e : Entry) (older : List Entry) (m serial f count : ℕ) → Commits e older m serial →
    IsRelayed (history (resolve older)) m serial f count → relays e older f ≡ true
relays_then e older m serial f count c r =
    let log : List Act = history (resolve older) in
    ap (λ (a : Act). fresh a log && is_at (holder log) f) (now_is e older m serial c r.fresh)
    ∙ and_both (fresh (acts.MCommit m serial) log) (is_at (holder log) f) r.fresh
    (ap (λ (o : Option ℕ). is_at o f) r.holds ∙ eq-eqb f f refl)

fresh_cleaned : (b : Bool) (act : Act) (log : List Act) → fresh (if b then act else acts.Idle) log ≡ true →
    fresh act log ≡ true
fresh_cleaned true act log h = h
fresh_cleaned false act log h = cc

relayed_then : (e : Entry) (older : List Entry) (m serial f : ℕ) → Commits e older m serial →
    relays e older f ≡ true →
    IsRelayed (history (resolve older)) m serial f (commit_count (history (resolve older)) f)
relayed_then e older m serial f c r =
    let log : List Act = history (resolve older) in
    let t = both (fresh (act_now e older) log) (is_at (holder log) f) r in
    let f1 : fresh (act_at e older) log ≡ true =
    fresh_cleaned (is_live (act_at e older) log) (act_at e older) log t.0 in
    record {
      fresh = ap (λ (a : Act). fresh a log) (sym c) ∙ f1;
      holds = at_is (holder log) f t.1;
      counts = refl;
    }

-- ---- its group isn't empty

piece_filled : (id : ℕ) (o : Option _) → is_some o ≡ true → 0 < length (message_piece id o).bytes
piece_filled id None h = cc
piece_filled id (Some m) h = let is = message_length id m in omega arith

done_filled : (made : List Made) (id : ℕ) (before : List Said) (n : ℕ) →
    0 < length (said_piece made id (before ++ said.FieldDone n ∷ [])).bytes
done_filled made id [] n =
    let some = piece_filled id (message_of made (said.FieldDone n)) refl in
    let all = length-append (message_piece id (message_of made (said.FieldDone n))).bytes [] in
    omega arith
done_filled made id (s ∷ before) n =
    let more = done_filled made id before n in
    let all = length-append (message_piece id (message_of made s)).bytes
    (said_piece made id (before ++ said.FieldDone n ∷ [])).bytes in
    omega arith

group_filled : (made : List Made) (id : ℕ) (log : List Act) (m serial f : ℕ) →
    (length (said_piece made id (group_of (acts.MCommit m serial) log f)).bytes == 0) ≡ false
group_filled made id log m serial f =
    let b = batch log m in
    let n : ℕ = commit_count log f in
    let edits : List Said = deletion_said b.deletion ++ (string_said b.string ++ preedit_said b.preedit) in
    let is : group b n ≡ edits ++ said.FieldDone n ∷ [] =
    ap (λ (l : List Said). deletion_said b.deletion ++ l)
    (sym (append_assoc (string_said b.string) (preedit_said b.preedit) (said.FieldDone n ∷ [])))
    ∙ sym (append_assoc (deletion_said b.deletion) (string_said b.string ++ preedit_said b.preedit)
    (said.FieldDone n ∷ [])) in
    let filled = done_filled made id edits n in
    ap (λ (l : List Said). length (said_piece made id l).bytes == 0) is
    ∙ ne_eqb (length (said_piece made id (edits ++ said.FieldDone n ∷ [])).bytes) 0 (λ d. omega arith)

-- ---- no other peer is told anything

other_group : (made : List Made) (p f : ℕ) (m : Made) (events : List Said) → made_as made f ≡ Some m →
    (m.peer == p) ≡ false → (group_for made p (map (to f) events)).bytes ≡ []
other_group made p f m [] e k = refl
other_group made p f m (event ∷ rest) e k =
    ap (λ (o : Option Made). (event_piece made p event o).bytes ++ (group_for made p (map (to f) rest)).bytes) e
    ∙ ap (λ (b : Bool). (if b then message_piece m.id (message_of made event) else nothing).bytes
    ++ (group_for made p (map (to f) rest)).bytes) k
    ∙ other_group made p f m rest e k

none_put : (b : Bool) (bytes : List ℕ) → bytes ≡ [] → (b && not (length bytes == 0)) ≡ false
none_put true bytes h = rw h refl
none_put false bytes h = refl

some_put : (b : Bool) (n : ℕ) → (n == 0) ≡ false → (b && not (n == 0)) ≡ b
some_put true n h = rw h refl
some_put false n h = refl

-- the entry of a relayed batch, the peer of whose field made it so
record IsOne (e : Entry) (older : List Entry) (m serial f : ℕ) : Type 0 where
  pub fresh : fresh (acts.MCommit m serial) (history (resolve older)) ≡ true
  pub now : act_now e older ≡ acts.MCommit m serial
  pub holds : holder (history (resolve older)) ≡ Some f
  pub alone : IsAlone e older f

one : (e : Entry) (older : List Entry) (m serial f count : ℕ) → Commits e older m serial →
    IsRelayed (history (resolve older)) m serial f count → IsOne e older m serial f
one e older m serial f count c r = record {
  fresh = r.fresh;
  now = now_is e older m serial c r.fresh;
  holds = r.holds;
  alone = whole_groups e older f (relays_then e older m serial f count c r);
}

other_put : (capacity : ℕ) (e : Entry) (older : List Entry) (m serial f : ℕ) (i : IsOne e older m serial f)
    (p : Numbered) → (i.alone.field.peer == p.peer.label) ≡ false → is_put_for capacity e older p ≡ false
other_put capacity e older m serial f i p k =
    let log : List Act = history (resolve older) in
    let made : List Made = (past_of (e ∷ older)).made in
    let x : ℕ = p.peer.label in
    let says : told (act_at e older) (resolve older) ≡ map (to f) (group_of (act_now e older) log f) =
    fresh_told (act_now e older) log f (history_is (resolve older))
    (ap (λ (a : Act). fresh a log) i.now ∙ i.fresh) i.holds in
    none_put (fits capacity (group_at e older x) (before_group e older x (out_for capacity older x)))
    (group_at e older x).bytes
    (ap (λ ts. (group_for made x ts).bytes) says
    ∙ other_group made x f i.alone.field (group_of (act_now e older) log f) i.alone.made k)

own_put : (capacity : ℕ) (e : Entry) (older : List Entry) (m serial f : ℕ) (i : IsOne e older m serial f)
    (p : Numbered) → (i.alone.field.peer == p.peer.label) ≡ true →
    is_put_for capacity e older p ≡ is_put capacity e older f
own_put capacity e older m serial f i p k =
    let log : List Act = history (resolve older) in
    let made : List Made = (past_of (e ∷ older)).made in
    let x : ℕ = p.peer.label in
    let same : i.alone.peer ≡ x = sym i.alone.own ∙ eqb-true i.alone.field.peer x k in
    let filled : (length (group_at e older x).bytes == 0) ≡ false =
    ap (λ (y : ℕ). length (group_at e older y).bytes == 0) (sym same)
    ∙ ap (λ piece. length piece.bytes == 0) i.alone.alone
    ∙ ap (λ (a : Act). length (said_piece made i.alone.field.id (group_of a log f)).bytes == 0) i.now
    ∙ group_filled made i.alone.field.id log m serial f in
    some_put (fits capacity (group_at e older x) (before_group e older x (out_for capacity older x)))
    (length (group_at e older x).bytes) filled
    ∙ ap (λ (y : ℕ). queue.is_put_for capacity e older (Some y)) (sym same)
    ∙ ap (queue.is_put_for capacity e older) (sym i.alone.owner)

-- ---- so one was put among those that joined exactly where that one was

or_left : (a b : Bool) → a ≡ true → (a || b) ≡ true
or_left a b h = rw h refl

or_right : (a b : Bool) → b ≡ true → (a || b) ≡ true
or_right true b h = refl
or_right false b h = h

among_own : (capacity : ℕ) (e : Entry) (older : List Entry) (m serial f : ℕ) (i : IsOne e older m serial f)
    (ps : List Numbered) → is_put_among capacity e older ps ≡ true → is_put capacity e older f ≡ true
among_own capacity e older m serial f i [] h = cc
among_own capacity e older m serial f i (p ∷ ps) h =
    by (is_put_for capacity e older p) refl h (among_own capacity e older m serial f i ps)
  where
    mine : (b : Bool) → (i.alone.field.peer == p.peer.label) ≡ b → is_put_for capacity e older p ≡ true →
        is_put capacity e older f ≡ true
    mine true k t = sym (own_put capacity e older m serial f i p k) ∙ t
    mine false k t = absurd (true≢false (sym t ∙ other_put capacity e older m serial f i p k))

    by : (b : Bool) → is_put_for capacity e older p ≡ b → (b || is_put_among capacity e older ps) ≡ true →
        (is_put_among capacity e older ps ≡ true → is_put capacity e older f ≡ true) →
        is_put capacity e older f ≡ true
    by true t k rest = mine (i.alone.field.peer == p.peer.label) refl t
    by false t k rest = rest k

own_among : (capacity : ℕ) (e : Entry) (older : List Entry) (m serial f : ℕ) (i : IsOne e older m serial f)
    (q k : ℕ) (joined : List Joined) (peer : Joined) → slice_get joined k ≡ Some peer →
    i.alone.field.peer ≡ peer.label → is_put capacity e older f ≡ true →
    is_put_among capacity e older (numbered q joined) ≡ true
own_among capacity e older m serial f i q k [] peer g l h = cc
own_among capacity e older m serial f i q zero (x ∷ joined) peer g l h =
    let same : x ≡ peer = cc in
    let is : i.alone.field.peer ≡ x.label = l ∙ ap (λ (j : Joined). j.label) (sym same) in
    or_left (is_put_for capacity e older (record { number = q; peer = x })) _
    (own_put capacity e older m serial f i (record { number = q; peer = x })
    (eq-eqb i.alone.field.peer x.label is) ∙ h)
own_among capacity e older m serial f i q (suc k) (x ∷ joined) peer g l h =
    or_right (is_put_for capacity e older (record { number = q; peer = x })) _
    (own_among capacity e older m serial f i (suc q) k joined peer g l h)

among_joined : (capacity : ℕ) (e : Entry) (older : List Entry) (m serial f : ℕ) (i : IsOne e older m serial f)
    (n : ℕ) (joined : List Joined) (peer : Joined) → peer_in joined n ≡ Some peer →
    i.alone.field.peer ≡ peer.label → is_put capacity e older f ≡ true →
    is_put_among capacity e older (numbered 1 joined) ≡ true
among_joined capacity e older m serial f i zero joined peer g l h = cc
among_joined capacity e older m serial f i (suc k) joined peer g l h =
    own_among capacity e older m serial f i 1 k joined peer g l h

some_owner : (o : Option Object) (p : ℕ) (u : Object) → owner o ≡ Some p → o ≡ Some u → u.peer ≡ p
some_owner None p u h k = cc
some_owner (Some v) p u h k =
    let same : v ≡ u = cc in let mine : v.peer ≡ p = cc in ap (λ (o : Object). o.peer) (sym same) ∙ mine

own_then : (capacity : ℕ) (e : Entry) (older : List Entry) (m serial f : ℕ) → IsOne e older m serial f →
    is_put capacity e older f ≡ true → was_put capacity e older ≡ true
own_then capacity e older m serial f i h =
    let log : List Act = history (resolve older) in
    let there : IsThere is_field_kind (object log f) =
    holder_there log f (history_is (resolve older))
    (ap (λ (o : Option ℕ). is_at o f) i.holds ∙ eq-eqb f f refl) in
    let own : IsOwned log f there.found = owned log f there.found (history_is (resolve older)) there.is in
    let k : IsNumbered (past_of older).joined there.found.peer = number_of older there.found.peer own.lives in
    let mine : there.found.peer ≡ i.alone.peer =
    some_owner (object log f) i.alone.peer there.found i.alone.owner there.is in
    among_joined capacity e older m serial f i k.number (past_of (e ∷ older)).joined k.peer
    (joined_stays e (length older + 1) (past_of older).joined k.number k.peer k.found)
    (i.alone.own ∙ sym mine ∙ sym k.labelled) h

pub put_is_own : PutIsOwn
put_is_own capacity e older m serial f count c r =
    let i : IsOne e older m serial f = one e older m serial f count c r in (
      λ h. among_own capacity e older m serial f i (numbered 1 (past_of (e ∷ older)).joined) h,
      λ h. own_then capacity e older m serial f i h,
    )

-- ---- and what is queued grows by what is said

same_bool : (a b : Bool) → (a ≡ true) ↔ (b ≡ true) → a ≡ b
same_bool true b h = sym (h.0 refl)
same_bool false true h = h.1 refl
same_bool false false h = refl

grows : (capacity : ℕ) (e : Entry) (older : List Entry) (f : ℕ) (r put : Bool) → relays e older f ≡ r →
    (r ≡ true → is_put capacity e older f ≡ put) →
    queued capacity (e ∷ older) f
    ≡ queued capacity older f
    ++ (if r && put then group_of (act_now e older) (history (resolve older)) f ∷ [] else [])
grows capacity e older f false put h k = rw h (sym (append-nil (queued capacity older f)))
grows capacity e older f true true h k = rw (h, k refl) refl
grows capacity e older f true false h k = rw (h, k refl) (sym (append-nil (queued capacity older f)))

quiet : (capacity : ℕ) (e : Entry) (older : List Entry) (f : ℕ) → relays e older f ≡ false →
    queued capacity (e ∷ older) f ≡ queued capacity older f ++ []
quiet capacity e older f h = grows capacity e older f false true h (λ d. cc)

relays_not : (e : Entry) (older : List Entry) (m serial f : ℕ) → Commits e older m serial →
    ((fate (history (resolve older)) m serial
    ≡ fates.Relayed f (commit_count (history (resolve older)) f)) → ⊥) → relays e older f ≡ false
relays_not e older m serial f c unsaid = by (relays e older f) refl
  where
    by : (b : Bool) → relays e older f ≡ b → b ≡ false
    by false h = refl
    by true h =
        absurd (unsaid ((relayed_fresh (resolve older) m serial f (commit_count (history (resolve older)) f)).1
        (relayed_then e older m serial f c h)))

said_by : (put b : Bool) (g count f : ℕ) (log : List Act) (m : ℕ) → (g == f) ≡ b →
    queued_by (Some (outcome_of (fates.Relayed g count) put)) log m f
    ≡ (if b && put then group (batch log m) count ∷ [] else [])
said_by true true g count f log m s = ap (λ (b : Bool). if b then group (batch log m) count ∷ [] else []) s
said_by true false g count f log m s = ap (λ (b : Bool). if b then group (batch log m) count ∷ [] else []) s
said_by false true g count f log m s = refl
said_by false false g count f log m s = refl

relayed_grows : (capacity : ℕ) (e : Entry) (older : List Entry) (m serial g count f : ℕ) →
    Commits e older m serial → fate (history (resolve older)) m serial ≡ fates.Relayed g count →
    queued capacity (e ∷ older) f
    ≡ queued capacity older f
    ++ queued_by (Some (outcome_of (fates.Relayed g count) (was_put capacity e older)))
    (history (resolve older)) m f
relayed_grows capacity e older m serial g count f c k = by (g == f) refl
  where
    is : IsRelayed (history (resolve older)) m serial g count
    is = (relayed_fresh (resolve older) m serial g count).0 k

    same_group : g ≡ f → group_of (act_now e older) (history (resolve older)) f
        ≡ group (batch (history (resolve older)) m) count
    same_group d =
        ap (λ (a : Act). group_of a (history (resolve older)) f) (now_is e older m serial c is.fresh)
        ∙ ap (group (batch (history (resolve older)) m))
        (ap (commit_count (history (resolve older))) (sym d) ∙ sym is.counts)

    by : (b : Bool) → (g == f) ≡ b →
        queued capacity (e ∷ older) f
        ≡ queued capacity older f
        ++ queued_by (Some (outcome_of (fates.Relayed g count) (was_put capacity e older)))
        (history (resolve older)) m f
    by true s =
        let d : g ≡ f = eqb-true g f s in
        grows capacity e older f true (was_put capacity e older)
        (ap (relays e older) (sym d) ∙ relays_then e older m serial g count c is)
        (λ h. ap (is_put capacity e older) (sym d)
        ∙ sym (same_bool (was_put capacity e older) (is_put capacity e older g)
        (put_is_own capacity e older m serial g count c is)))
        ∙ ap (λ (l : List Said).
        queued capacity older f ++ (if was_put capacity e older then l ∷ [] else [])) (same_group d)
        ∙ ap (λ (l : List (List Said)). queued capacity older f ++ l)
        (sym (said_by (was_put capacity e older) true g count f (history (resolve older)) m s))
    by false s =
        quiet capacity e older f
        (relays_not e older m serial f c (λ d.
        let both : fates.Relayed g count ≡ fates.Relayed f (commit_count (history (resolve older)) f) = sym k ∙ d in
        let one : g ≡ f = cc in
        true≢false (sym (eq-eqb g f one) ∙ s)))
        ∙ ap (λ (l : List (List Said)). queued capacity older f ++ l)
        (sym (said_by (was_put capacity e older) false g count f (history (resolve older)) m s))

pub said_is_queued : SaidIsQueued
said_is_queued capacity e older m serial f c = by (fate (history (resolve older)) m serial) refl
  where
    by : (x : BatchFate) → fate (history (resolve older)) m serial ≡ x →
        queued capacity (e ∷ older) f
        ≡ queued capacity older f ++ queued_by (outcome_at capacity e older) (history (resolve older)) m f
    by (fates.Relayed g count) k =
        relayed_grows capacity e older m serial g count f c k
        ∙ ap (λ (o : Option Outcome). queued capacity older f ++ queued_by o (history (resolve older)) m f)
        (sym (given capacity e older m serial c
        ∙ ap (λ (x : BatchFate). Some (outcome_of x (was_put capacity e older))) k))
    by (fates.Unrelayed why) k =
        quiet capacity e older f (relays_not e older m serial f c (λ d. cc))
        ∙ ap (λ (o : Option Outcome). queued capacity older f ++ queued_by o (history (resolve older)) m f)
        (sym (given capacity e older m serial c
        ∙ ap (λ (x : BatchFate). Some (outcome_of x (was_put capacity e older))) k))
