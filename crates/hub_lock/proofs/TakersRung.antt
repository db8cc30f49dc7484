-- Where a take finds something that found nothing before, its peer was told of something, or ended
use Rattle.std.proofs.Common.{◌≡◌, ◌⊎◌, ℕ, zero, suc, ◌+◌, List, [], ◌∷◌, ◌++◌, length, drop, map, Bool, true, false, Option, Some, None, refl, ap, sym, subst, ◌∙◌, inl, inr, ⊎_elim, arith, append-nil, length-append}
use Rattle.std.specs.Prelude.{◌==◌, option_map, if◌then◌else◌}
use Rattle.std.specs.Int.{bit_at}
use Rattle.std.specs.List.{slice_get, flat_map}
use Rattle.std.proofs.lemmas.Bool.{le-leb, eqb-true, ne_eqb}
use Rattle.std.proofs.lemmas.Option.{same_Some}
use Rattle.relay_model.specs.declared.act.EndCause.{EndCause}
use Rattle.relay_model.specs.Told.{told}
use Rattle.broker_steps.specs.declared.limits.Limits.{Limits}
use Rattle.broker_model.specs.declared.journal.Entry.{Entry}
use Rattle.broker_model.specs.declared.journal.Entry.TheVariants as entries
use Rattle.broker_model.specs.declared.journal.Kept.{Kept}
use Rattle.broker_model.specs.Groups.{Piece, pair_of, followed_by}
use Rattle.broker_model.specs.Ids.{Joined, peer_in, peer_at}
use Rattle.broker_model.specs.Out.{Outgoing, act_at, group_at, stored, took_at, fits, before_group, out_for}
use Rattle.broker_model.specs.Resolve.{past_of, resolve}
use Rattle.broker_model.proofs.LivePeersJoined.{joined_stays}
use Rattle.broker_core.specs.declared.answers.Took.TheVariants as took
use Rattle.broker_core.specs.Broker.{Broker, full_for, nothing_left, take_refusal_from, take_refusal}
use Rattle.broker_core.specs.Stands.{end_of, numbered}
use Rattle.broker_core.specs.Watched.{Watched, shown_by, group_put, out_put, watched, watched_since}
use Rattle.broker_core.specs.Watched.Watched.{Put}
use Rattle.hub_lock.specs.declared.step.OuterStep.{OuterStep}
use Rattle.hub_lock.specs.Histories.{History, broker_of}
use Rattle.hub_lock.specs.Lawful.{IsLawful}
use Rattle.hub_lock.specs.Bells.{bell, IsFor, AreRung}
use Rattle.hub_lock.specs.BellLaw.{TakersAreRung}
use Rattle.hub_lock.proofs.OldestStay.{before-lawful}

-- what is among some things is among more

for-left : (k : ℕ) (xs ys : List Watched) → IsFor k xs → IsFor k (xs ++ ys)
for-left k [] ys f = absurd f
for-left k (w ∷ xs) ys f = ⊎_elim (λ e. inl e) (λ g. inr (for-left k xs ys g)) f

for-right : (k : ℕ) (xs ys : List Watched) → IsFor k ys → IsFor k (xs ++ ys)
for-right k [] ys f = f
for-right k (w ∷ xs) ys f = inr (for-right k xs ys f)

drop-none : (m : ℕ) (xs : List ℕ) → xs ≡ [] → drop m xs ≡ []
drop-none zero xs e = e
drop-none (suc m) [] e = refl
drop-none (suc m) (x ∷ xs) e = cc

drop-more : (n m : ℕ) (xs : List ℕ) → drop n xs ≡ [] → drop (n + m) xs ≡ []
drop-more zero m xs e = let k : 0 + m ≡ m = omega arith in ap (λ i. drop i xs) k ∙ drop-none m xs e
drop-more (suc n) m [] e = drop-none (suc n + m) [] refl
drop-more (suc n) m (x ∷ xs) e =
    let k : suc n + m ≡ suc (n + m) = omega arith in ap (λ i. drop i (x ∷ xs)) k ∙ drop-more n m xs e

-- nothing is stored for the peer, and it hasn't ended
record IsEmpty (capacity : ℕ) (journal : List Entry) (q : ℕ) : Type 0 where
  peer : Joined
  joined : peer_at (past_of journal) q ≡ Some peer
  none : stored (out_for capacity journal peer.label) ≡ []
  lasts : end_of journal q ≡ None

-- so it is where a take answers that

no-end : (o : Option EndCause) → nothing_left o ≡ took.Empty → o ≡ None
no-end None e = refl
no-end (Some cause) e = cc

-- nothing is stored, and no end came
abbrev IsWaited : List ℕ → Option EndCause → Type 0
IsWaited bytes o = (bytes ≡ []) × (o ≡ None)

nothing-in : (bytes : List ℕ) → length bytes ≡ 0 → bytes ≡ []
nothing-in [] e = refl
nothing-in (x ∷ xs) e = absurd (omega arith)

no-bytes : (bytes : List ℕ) (o : Option EndCause) (full : Option Kept) (none : Bool) → (length bytes == 0) ≡ none
    → (if none then Some (nothing_left o) else option_map (λ kept. took.JournalFull kept) full) ≡ Some took.Empty
    → IsWaited bytes o
no-bytes bytes o full true is e =
    (nothing-in bytes (eqb-true (length bytes) 0 is), no-end o (same_Some (nothing_left o) took.Empty e))
no-bytes bytes o None false is e = cc
no-bytes bytes o (Some kept) false is e = cc

empty-by : (b : Broker) (q : ℕ) (o : Option Joined) → peer_at (past_of b.journal) q ≡ o
    → take_refusal_from b q (option_map (λ (peer : Joined). out_for b.limits.store b.journal peer.label) o)
    ≡ Some took.Empty → IsEmpty b.limits.store b.journal q
empty-by b q None joined e = cc
empty-by b q (Some peer) joined e =
    let bytes : List ℕ = stored (out_for b.limits.store b.journal peer.label) in
    let w = no-bytes bytes (end_of b.journal q) (full_for b (entries.Took q 0)) (length bytes == 0) refl e in
    record { peer = peer; joined = joined; none = w.0; lasts = w.1 }

is-empty : (b : Broker) (q : ℕ) → take_refusal b q ≡ Some took.Empty → IsEmpty b.limits.store b.journal q
is-empty b q e = empty-by b q (peer_at (past_of b.journal) q) refl e

answers-empty : (b : Broker) (q : ℕ) → IsEmpty b.limits.store b.journal q → take_refusal b q ≡ Some took.Empty
answers-empty b q w =
    let full = option_map (λ kept. took.JournalFull kept) (full_for b (entries.Took q 0)) in
    ap (λ (o : Option Joined).
    take_refusal_from b q (option_map (λ (peer : Joined). out_for b.limits.store b.journal peer.label) o)) w.joined
    ∙ ap (λ (bytes : List ℕ). if length bytes == 0 then Some (nothing_left (end_of b.journal q)) else full) w.none
    ∙ ap (λ (o : Option EndCause). Some (nothing_left o)) w.lasts

-- one entry more: there is still nothing, or it is for the peer

module _ (capacity : ℕ) (e : Entry) (older : List Entry) (q : ℕ) where
  -- of the entry itself
  abbrev IsTold : Type 0
  IsTold = IsFor (bell q) (watched capacity e older)

ended-by : (capacity n : ℕ) (cause : EndCause) (older : List Entry) (q : ℕ) (same : Bool) → (n == q) ≡ same
    → end_of older q ≡ None
    → (end_of (entries.End n cause ∷ older) q ≡ None) ⊎ IsTold capacity (entries.End n cause) older q
ended-by capacity n cause older q true is lasts = inr (inl (ap (λ k. Some (bell k)) (eqb-true n q is)))
ended-by capacity n cause older q false is lasts =
    inl (ap (λ (b : Bool). if b then Some cause else end_of older q) is ∙ lasts)

ended : (capacity : ℕ) (e : Entry) (older : List Entry) (q : ℕ) → end_of older q ≡ None
    → (end_of (e ∷ older) q ≡ None) ⊎ IsTold capacity e older q
ended capacity (entries.End n cause) older q lasts = ended-by capacity n cause older q (n == q) refl lasts
ended capacity (entries.Join role) older q lasts = inl lasts
ended capacity (entries.Message n id opcode body) older q lasts = inl lasts
ended capacity (entries.Tokens n tokens) older q lasts = inl lasts
ended capacity (entries.BadSize n head) older q lasts = inl lasts
ended capacity (entries.Shell step) older q lasts = inl lasts
ended capacity (entries.Took n bytes) older q lasts = inl lasts

-- among what is put for all peers is what is put for each
among : (k capacity : ℕ) (e : Entry) (older : List Entry) (joined : List Joined) (from i : ℕ) (peer : Joined)
    → slice_get joined i ≡ Some peer
    → IsFor k (out_put capacity e older (record { number = from + i; peer = peer }))
    → IsFor k (flat_map (out_put capacity e older) (numbered from joined))
among k capacity e older [] from i peer at f = cc
among k capacity e older (p ∷ joined) from zero peer at f =
    let same : p ≡ peer = same_Some p peer at in
    let here : from + 0 ≡ from = omega arith in
    for-left k (out_put capacity e older (record { number = from; peer = p }))
    (flat_map (out_put capacity e older) (numbered (suc from) joined))
    (subst (λ (x : Joined). IsFor k (out_put capacity e older (record { number = from; peer = x }))) (sym same)
    (subst (λ n. IsFor k (out_put capacity e older (record { number = n; peer = peer }))) here f))
among k capacity e older (p ∷ joined) from (suc i) peer at f =
    let there : from + suc i ≡ suc from + i = omega arith in
    for-right k (out_put capacity e older (record { number = from; peer = p }))
    (flat_map (out_put capacity e older) (numbered (suc from) joined))
    (among k capacity e older joined (suc from) i peer at
    (subst (λ n. IsFor k (out_put capacity e older (record { number = n; peer = peer }))) there f))

put-for : (capacity : ℕ) (e : Entry) (older : List Entry) (q : ℕ) (joined : List Joined) (peer : Joined)
    → peer_in joined q ≡ Some peer
    → IsFor (bell q) (out_put capacity e older (record { number = q; peer = peer }))
    → IsFor (bell q) (flat_map (out_put capacity e older) (numbered 1 joined))
put-for capacity e older zero joined peer at f = cc
put-for capacity e older (suc i) joined peer at f =
    let n : suc i ≡ 1 + i = omega arith in
    among (bell (suc i)) capacity e older joined 1 i peer at
    (subst (λ k. IsFor (bell (suc i)) (out_put capacity e older (record { number = k; peer = peer }))) n f)

-- of the group that it puts

module _ (capacity : ℕ) (e : Entry) (older : List Entry) (q : ℕ) (peer : Joined)
    (joined : peer_at (past_of (e ∷ older)) q ≡ Some peer) where
  abbrev group : Piece
  group = group_at e older peer.label

  abbrev out : Outgoing
  out = before_group e older peer.label (out_for capacity older peer.label)

  abbrev after : Outgoing
  after = out_for capacity (e ∷ older) peer.label

  put-told : fits capacity group out ≡ true → (length group.bytes == 0) ≡ false → IsTold capacity e older q
  put-told fit some =
      let n = length older + 1 in
      inr (for-right (bell q)
      (shown_by n (past_of (e ∷ older)).made (numbered 1 (past_of (e ∷ older)).joined)
      (told (act_at e older) (resolve older)))
      (flat_map (out_put capacity e older) (numbered 1 (past_of (e ∷ older)).joined))
      (put-for capacity e older q (past_of (e ∷ older)).joined peer joined
      (subst (λ b. IsFor (bell q) (if b then group_put n q group else [])) (sym fit)
      (subst (λ b. IsFor (bell q) (if b then [] else Put n q group.bytes (map pair_of group.tokens) ∷ [])) (sym some)
      (inl refl)))))

  grown-by : (fit : Bool) → fits capacity group out ≡ fit → (bytes : List ℕ) → group.bytes ≡ bytes → stored out ≡ []
      → (stored after ≡ []) ⊎ IsTold capacity e older q
  grown-by false is bytes b none =
      inl (ap (λ (f : Bool). stored (if f then record out { put = followed_by out.put group }
      else record out { choked = true })) is ∙ none)
  grown-by true is [] b none =
      inl (ap (λ (f : Bool). stored (if f then record out { put = followed_by out.put group }
      else record out { choked = true })) is
      ∙ ap (λ (x : List ℕ). drop out.taken (out.put.bytes ++ x)) b
      ∙ ap (drop out.taken) (append-nil out.put.bytes) ∙ none)
  grown-by true is (x ∷ xs) b none =
      let l = ap length b in
      let some : (length group.bytes == 0) ≡ false =
      ne_eqb (length group.bytes) 0 (λ z. absurd (omega (arith, l, z))) in
      inr (put-told is some)

  grown : stored (out_for capacity older peer.label) ≡ [] → (stored after ≡ []) ⊎ IsTold capacity e older q
  grown none =
      let was : Outgoing = out_for capacity older peer.label in
      grown-by (fits capacity group out) refl group.bytes refl
      (drop-more was.taken (took_at e (past_of older) peer.label) was.put.bytes none)

one-more : (capacity : ℕ) (e : Entry) (older : List Entry) (q : ℕ) → IsEmpty capacity older q
    → IsEmpty capacity (e ∷ older) q ⊎ IsTold capacity e older q
one-more capacity e older q w =
    let joined : peer_at (past_of (e ∷ older)) q ≡ Some w.peer =
    joined_stays e (length older + 1) (past_of older).joined q w.peer w.joined in
    ⊎_elim
    (λ (lasts : end_of (e ∷ older) q ≡ None). ⊎_elim
    (λ (none : stored (out_for capacity (e ∷ older) w.peer.label) ≡ []).
    inl (record { peer = w.peer; joined = joined; none = none; lasts = lasts }))
    (λ (t : IsTold capacity e older q). inr t)
    (grown capacity e older q w.peer joined w.none))
    (λ (t : IsTold capacity e older q). inr t) (ended capacity e older q w.lasts)

-- all that came since

since-more : (capacity : ℕ) (e : Entry) (newer base : List Entry)
    → watched_since capacity (length base) (e ∷ newer ++ base)
    ≡ watched_since capacity (length base) (newer ++ base) ++ watched capacity e (newer ++ base)
since-more capacity e newer base =
    let all = length-append newer base in
    ap (λ (b : Bool). if b
    then watched_since capacity (length base) (newer ++ base) ++ watched capacity e (newer ++ base)
    else []) (le-leb (length base) (length (newer ++ base)) (omega arith))

since : (capacity q : ℕ) (newer base : List Entry) → IsEmpty capacity base q
    → IsEmpty capacity (newer ++ base) q ⊎ IsFor (bell q) (watched_since capacity (length base) (newer ++ base))
since capacity q [] base w = inl w
since capacity q (e ∷ newer) base w =
    let is = sym (since-more capacity e newer base) in
    let before : List Watched = watched_since capacity (length base) (newer ++ base) in
    let here : List Watched = watched capacity e (newer ++ base) in
    ⊎_elim
    (λ (still : IsEmpty capacity (newer ++ base) q). ⊎_elim
    (λ (x : IsEmpty capacity (e ∷ newer ++ base) q). inl x)
    (λ (t : IsTold capacity e (newer ++ base) q). inr (subst (IsFor (bell q)) is (for-right (bell q) before here t)))
    (one-more capacity e (newer ++ base) q still))
    (λ (f : IsFor (bell q) before). inr (subst (IsFor (bell q)) is (for-left (bell q) before here f)))
    (since capacity q newer base w)

-- the law

rung-more : (limits : Limits) (before more : History) (q rings : ℕ) → IsLawful limits (before ++ more)
    → AreRung rings (watched_since limits.store (length (broker_of limits before).journal)
    (broker_of limits (before ++ more)).journal)
    → take_refusal (broker_of limits before) q ≡ Some took.Empty
    → (take_refusal (broker_of limits (before ++ more)) q ≡ Some took.Empty → ⊥) → bit_at rings (bell q) ≡ 1
rung-more limits before more q rings l rung empty other =
    let b : Broker = broker_of limits before in
    let b' : Broker = broker_of limits (before ++ more) in
    let longer = (before-lawful limits before more l).journal in
    let newer : List Entry = longer.0 in
    let is : b'.journal ≡ newer ++ b.journal = longer.1 in
    let told : IsFor (bell q) (watched_since limits.store (length b.journal) (newer ++ b.journal)) = ⊎_elim
    (λ (w : IsEmpty limits.store (newer ++ b.journal) q).
    absurd (other (answers-empty b' q (subst (λ (j : List Entry). IsEmpty limits.store j q) (sym is) w))))
    (λ (f : IsFor (bell q) (watched_since limits.store (length b.journal) (newer ++ b.journal))). f)
    (since limits.store q newer b.journal (is-empty b q empty)) in
    (rung (bell q) (omega arith)).1
    (subst (λ (j : List Entry). IsFor (bell q) (watched_since limits.store (length b.journal) j)) (sym is) told)

pub takers_rung : TakersAreRung
takers_rung limits before call after call' reply q plays grown empty other = ⊎_elim
    (λ (e : after ≡ before).
    absurd (other (ap (λ (h : History). take_refusal (broker_of limits h) q) e ∙ empty)))
    (λ (t : (step : OuterStep) × (after ≡ before ++ (call.number, step) ∷ [])).
    let more : History = (call.number, t.0) ∷ [] in
    rung-more limits before more q reply.rings (subst (IsLawful limits) t.1 plays.lawful_after)
    (subst (λ (h : History). AreRung reply.rings
    (watched_since limits.store (length (broker_of limits before).journal) (broker_of limits h).journal)) t.1
    plays.rings)
    empty
    (λ e. other (ap (λ (h : History). take_refusal (broker_of limits h) q) t.1 ∙ e)))
    grown
