-- What stays of ended peers, after one entry more.
use Rattle.std.proofs.Common.{◌≡◌, ℕ, zero, suc, ◌+◌, ◌-◌, ◌≤◌, ◌<◌, List, [], ◌∷◌, ◌++◌, length, set, Bool, true, false, not, Option, Some, None, ap, refl, sym, ◌∙◌, subst, arith, inl, inr, ◌⊎◌, length-append, length-set}
use Rattle.std.specs.Prelude.{◌==◌, ◌&&◌, if◌then◌else◌}
use Rattle.std.specs.List.{slice_get}
use Rattle.std.proofs.lemmas.Bool.{ne_eqb, eq-eqb, true≢false}
use Rattle.std.proofs.lemmas.Option.{same_Some, slice_get_within}
use Rattle.out_store.specs.Queue.{Queue}
use Rattle.relay_model.specs.declared.act.EndCause.{EndCause}
use Rattle.relay_model.specs.declared.role.Role.{Role}
use Rattle.relay_model.specs.Objects.{is_peer}
use Rattle.broker_model.specs.declared.journal.Entry.{Entry}
use Rattle.broker_model.specs.declared.journal.Entry.TheVariants as entries
use Rattle.broker_model.specs.Ids.{Joined, log_of, peer_in, peer_at}
use Rattle.broker_model.specs.Resolve.{past_of}
use Rattle.broker_model.specs.Groups.{nothing}
use Rattle.broker_model.specs.Out.{Outgoing, group_at, is_label, took_at, out_for}
use Rattle.broker_model.specs.Limits.{is_end}
use Rattle.broker_model.proofs.LabelsRiseByNumber.{label_within, one_number}
use Rattle.broker_model.proofs.QuietStoresStay.{quiet_out}
use Rattle.broker_model.specs.Ends.{Ended}
use Rattle.broker_core.specs.Stands.{end_of, IsKept, IsLeft, AreLeft}
use Rattle.broker_core.proofs.OnlyEndsTakePeers.{peer_kept, peer_new, peer_ended, gone_now}

-- a peer that is dead, and doesn't join now, is told nothing
abbrev pub AreQuiet : Type 0
AreQuiet =
    (e : Entry) (older : List Entry) (p : ℕ) → is_peer (log_of (past_of older)) p ≡ false → (p ≡ length older + 1 → ⊥) →
    group_at e older p ≡ nothing

-- nor is a peer by its own end
abbrev pub IsLast : Type 0
IsLast =
    (q : ℕ) (why : EndCause) (older : List Entry) (peer : Joined) → peer_at (past_of older) q ≡ Some peer →
    is_peer (log_of (past_of older)) peer.label ≡ true → group_at (entries.End q why) older peer.label ≡ nothing

-- places of a list

get_behind : {X : Type 0} (xs : List X) (y : X) (i : ℕ) (x : X) → slice_get (xs ++ y ∷ []) i ≡ Some x →
    (slice_get xs i ≡ Some x) ⊎ ((i ≡ length xs) × (y ≡ x))
get_behind [] y zero x e = inr (refl, same_Some y x e)
get_behind [] y (suc i) x e = cc
get_behind (z ∷ xs) y zero x e = inl e
get_behind (z ∷ xs) y (suc i) x e =
    elim (get_behind xs y i x e) [
      | inl h ↦ inl h
      | inr h ↦ inr (ap suc h.0, h.1)
    ]

get_set : {X : Type 0} (xs : List X) (i : ℕ) (y : X) (k : ℕ) (x : X) → slice_get (set xs i y) k ≡ Some x →
    ((k ≡ i) × (y ≡ x)) ⊎ ((k ≡ i → ⊥) × (slice_get xs k ≡ Some x))
get_set [] i y k x e = cc
get_set (z ∷ xs) zero y zero x e = inl (refl, same_Some y x e)
get_set (z ∷ xs) zero y (suc k) x e = inr (λ d. omega arith, e)
get_set (z ∷ xs) (suc i) y zero x e = inr (λ d. omega arith, e)
get_set (z ∷ xs) (suc i) y (suc k) x e =
    elim (get_set xs i y k x e) [
      | inl h ↦ inl (ap suc h.0, h.1)
      | inr h ↦ inr (λ d. h.0 (omega arith), h.1)
    ]

-- what is out for a peer that is told nothing and of whose bytes none are taken

out_stays : (capacity : ℕ) (e : Entry) (older : List Entry) (p n : ℕ) → group_at e older p ≡ nothing →
    took_at e (past_of older) p ≡ n →
    out_for capacity (e ∷ older) p ≡ record (out_for capacity older p) { taken = (out_for capacity older p).taken + n }
out_stays capacity e older p n g t =
    quiet_out capacity e older p g
    ∙ ap (λ (m : ℕ). record (out_for capacity older p) { taken = (out_for capacity older p).taken + m }) t

out_same : (capacity : ℕ) (e : Entry) (older : List Entry) (p : ℕ) → group_at e older p ≡ nothing →
    took_at e (past_of older) p ≡ 0 →
    out_for capacity (e ∷ older) p ≡ out_for capacity older p
out_same capacity e older p g t =
    let none : (out_for capacity older p).taken + 0 ≡ (out_for capacity older p).taken = omega arith in
    out_stays capacity e older p 0 g t
    ∙ ap (λ (m : ℕ). record (out_for capacity older p) { taken = m }) none

-- one peer, whose life and end the entry leaves, and of whose bytes it takes none if it is dead

left_same : AreQuiet → (capacity : ℕ) (e : Entry) (older : List Entry) (q : ℕ) (peer : Joined) (left : Option Ended) →
    peer.label ≤ length older →
    is_peer (log_of (past_of (e ∷ older))) peer.label ≡ is_peer (log_of (past_of older)) peer.label →
    end_of (e ∷ older) q ≡ end_of older q →
    (is_peer (log_of (past_of older)) peer.label ≡ false → took_at e (past_of older) peer.label ≡ 0) →
    IsLeft capacity older q peer left → IsLeft capacity (e ∷ older) q peer left
left_same quiet capacity e older q peer None w life end none h = (life ∙ h.0, end ∙ h.1)
left_same quiet capacity e older q peer (Some ended) w life end none h =
    let same : out_for capacity older peer.label ≡ out_for capacity (e ∷ older) peer.label =
    sym (out_same capacity e older peer.label (quiet e older peer.label h.0 (λ d. omega arith)) (none h.0)) in
    (life ∙ h.0, end ∙ h.1, subst (λ (out : Outgoing). IsKept capacity out ended.store) same h.2)

-- a journal whose entry neither takes bytes nor makes or ends a peer

left_still : AreQuiet → (capacity : ℕ) (e : Entry) (older : List Entry) (ended : List (Option Ended)) →
    is_end e ≡ false →
    (past_of (e ∷ older)).joined ≡ (past_of older).joined → ((q : ℕ) → end_of (e ∷ older) q ≡ end_of older q) →
    ((p : ℕ) → is_peer (log_of (past_of older)) p ≡ false → took_at e (past_of older) p ≡ 0) →
    AreLeft capacity older ended → AreLeft capacity (e ∷ older) ended
left_still quiet capacity e older ended b joined ends none left = record {
  number = left.number ∙ ap length (sym joined);
  each = λ k peer o at is.
      (let was : slice_get (past_of older).joined k ≡ Some peer = ap (λ ps. slice_get ps k) (sym joined) ∙ at in
      let w : peer.label ≤ length older = label_within older (suc k) peer was in
      left_same quiet capacity e older (suc k) peer o w (peer_kept e older peer.label b w) (ends (suc k))
      (none peer.label) (left.each k peer o was is));
  later = λ q l. ends q ∙ left.later q (subst (λ ps. length ps < q) joined l);
}

-- the entry is a message, a bad header, or what the shell says
abbrev pub IsSpoken : Entry → Type 0
IsSpoken (entries.Message q id opcode body) = Unit {0}
IsSpoken (entries.Tokens q tokens) = Unit {0}
IsSpoken (entries.BadSize q head) = Unit {0}
IsSpoken (entries.Shell step) = Unit {0}
IsSpoken _ = ⊥

pub left_plain : AreQuiet → (capacity : ℕ) (e : Entry) (older : List Entry) (ended : List (Option Ended)) → IsSpoken e →
    AreLeft capacity older ended → AreLeft capacity (e ∷ older) ended
left_plain quiet capacity (entries.Join role) older ended s left = absurd s
left_plain quiet capacity (entries.Message q id opcode body) older ended s left =
    left_still quiet capacity (entries.Message q id opcode body) older ended refl refl (λ q. refl) (λ p d. refl) left
left_plain quiet capacity (entries.Tokens q tokens) older ended s left =
    left_still quiet capacity (entries.Tokens q tokens) older ended refl refl (λ q. refl) (λ p d. refl) left
left_plain quiet capacity (entries.BadSize q head) older ended s left =
    left_still quiet capacity (entries.BadSize q head) older ended refl refl (λ q. refl) (λ p d. refl) left
left_plain quiet capacity (entries.End q why) older ended s left = absurd s
left_plain quiet capacity (entries.Shell step) older ended s left =
    left_still quiet capacity (entries.Shell step) older ended refl refl (λ q. refl) (λ p d. refl) left
left_plain quiet capacity (entries.Took q bytes) older ended s left = absurd s

-- a peer that joins

pub left_join : AreQuiet → (capacity : ℕ) (role : Role) (older : List Entry) (ended : List (Option Ended)) →
    AreLeft capacity older ended →
    AreLeft capacity (entries.Join role ∷ older) (ended ++ None ∷ [])
left_join quiet capacity role older ended left = record { number = number; each = each; later = later }
  where
    new : Joined
    new = record { label = length older + 1; role = role }

    longer : length ((past_of older).joined ++ new ∷ []) ≡ length (past_of older).joined + 1
    longer = length-append (past_of older).joined (new ∷ [])

    number : length (ended ++ None ∷ []) ≡ length ((past_of older).joined ++ new ∷ [])
    number =
        let more : length (ended ++ None ∷ []) ≡ length ended + 1 = length-append ended (None ∷ []) in
        let same : length ended ≡ length (past_of older).joined = left.number in
        let long : length ((past_of older).joined ++ new ∷ []) ≡ length (past_of older).joined + 1 = longer in
        omega arith

    by : (k : ℕ) (peer : Joined) (o : Option Ended) →
        (slice_get (past_of older).joined k ≡ Some peer) ⊎ ((k ≡ length (past_of older).joined) × (new ≡ peer)) →
        (slice_get ended k ≡ Some o) ⊎ ((k ≡ length ended) × (None ≡ o)) →
        IsLeft capacity (entries.Join role ∷ older) (suc k) peer o
    by k peer o (inl a) (inl b) =
        let w : peer.label ≤ length older = label_within older (suc k) peer a in
        left_same quiet capacity (entries.Join role) older (suc k) peer o w
        (peer_kept (entries.Join role) older peer.label refl w) refl (λ d. refl)
        (left.each k peer o a b)
    by k peer o (inl a) (inr b) =
        let w : k < length (past_of older).joined = slice_get_within (past_of older).joined k peer a in
        let same : length ended ≡ length (past_of older).joined = left.number in
        let at : k ≡ length ended = b.0 in
        absurd (omega arith)
    by k peer o (inr a) (inl b) =
        let w : k < length ended = slice_get_within ended k o b in
        let same : length ended ≡ length (past_of older).joined = left.number in
        let at : k ≡ length (past_of older).joined = a.0 in
        absurd (omega arith)
    by k peer o (inr a) (inr b) =
        let at : k ≡ length (past_of older).joined = a.0 in
        subst (λ (u : Option Ended). IsLeft capacity (entries.Join role ∷ older) (suc k) peer u) b.1
        (subst (λ (p : Joined). IsLeft capacity (entries.Join role ∷ older) (suc k) p None) a.1
        (peer_new role older, left.later (suc k) (omega arith)))

    each : (k : ℕ) (peer : Joined) (o : Option Ended) → slice_get ((past_of older).joined ++ new ∷ []) k ≡ Some peer →
        slice_get (ended ++ None ∷ []) k ≡ Some o → IsLeft capacity (entries.Join role ∷ older) (suc k) peer o
    each k peer o at is = by k peer o (get_behind (past_of older).joined new k peer at) (get_behind ended None k o is)

    later : (q : ℕ) → length ((past_of older).joined ++ new ∷ []) < q → end_of older q ≡ None
    later q l =
        let long : length ((past_of older).joined ++ new ∷ []) ≡ length (past_of older).joined + 1 = longer in
        left.later q (omega arith)

-- the place of a number

record IsPlaced (joined : List Joined) (q : ℕ) (peer : Joined) : Type 0 where
  from_one : q - 1 + 1 ≡ q
  within : q ≤ length joined
  at : slice_get joined (q - 1) ≡ Some peer

placed : (joined : List Joined) (q : ℕ) (peer : Joined) → peer_in joined q ≡ Some peer → IsPlaced joined q peer
placed joined zero peer e = cc
placed joined (suc q) peer e =
    let w : q < length joined = slice_get_within joined q peer e in
    let same : q ≡ suc q - 1 = omega arith in
    record { from_one = omega arith; within = omega arith; at = ap (λ (n : ℕ). slice_get joined n) (sym same) ∙ e }

-- the peer at the place
same_peer : (joined : List Joined) (q k : ℕ) (a b : Joined) → peer_in joined q ≡ Some a → slice_get joined k ≡ Some b →
    k ≡ q - 1 → a ≡ b
same_peer joined q k a b e f d =
    let p : IsPlaced joined q a = placed joined q a e in
    same_Some a b (sym p.at ∙ ap (λ (n : ℕ). slice_get joined n) (sym d) ∙ f)

-- a peer that ends

and_true : (b : Bool) → (b && true) ≡ b
and_true true = refl
and_true false = refl

-- another peer's life stays
other_stays : (q : ℕ) (why : EndCause) (older : List Entry) (peer : Joined) (r : ℕ) (x : Joined) →
    peer_at (past_of older) q ≡ Some peer →
    is_peer (log_of (past_of older)) peer.label ≡ true → peer_at (past_of older) r ≡ Some x → (r ≡ q → ⊥) →
    is_peer (log_of (past_of (entries.End q why ∷ older))) x.label ≡ is_peer (log_of (past_of older)) x.label
other_stays q why older peer r x e l f d =
    peer_ended q why older peer x.label e l (label_within older r x f)
    ∙ ap (λ (b : Bool). is_peer (log_of (past_of older)) x.label && not b)
    (ne_eqb x.label peer.label (λ s. d (one_number older r q x peer f e s)))
    ∙ and_true (is_peer (log_of (past_of older)) x.label)

pub left_end : AreQuiet → IsLast →
    (capacity q : ℕ) (why : EndCause) (older : List Entry) (peer : Joined) (store : Option Queue)
    (ended : List (Option Ended)) →
    peer_at (past_of older) q ≡ Some peer → is_peer (log_of (past_of older)) peer.label ≡ true →
    IsKept capacity (out_for capacity older peer.label) store → AreLeft capacity older ended →
    AreLeft capacity (entries.End q why ∷ older) (set ended (q - 1) (Some (record { cause = why; store = store })))
left_end quiet last capacity q why older peer store ended e l kept left =
    record { number = length-set ended (q - 1) (Some one) ∙ left.number; each = each; later = later }
  where
    one : Ended
    one = record { cause = why; store = store }

    place : IsPlaced (past_of older).joined q peer
    place = placed (past_of older).joined q peer e

    by : (k : ℕ) (x : Joined) (o : Option Ended) → slice_get (past_of older).joined k ≡ Some x →
        ((k ≡ q - 1) × (Some one ≡ o)) ⊎ ((k ≡ q - 1 → ⊥) × (slice_get ended k ≡ Some o)) →
        IsLeft capacity (entries.End q why ∷ older) (suc k) x o
    by k x o at (inl h) =
        let first : q - 1 + 1 ≡ q = place.from_one in
        let there : k ≡ q - 1 = h.0 in
        let number : (q == suc k) ≡ true = eq-eqb q (suc k) (omega arith) in
        let same : peer ≡ x = same_peer (past_of older).joined q k peer x e at there in
        let out : out_for capacity older peer.label ≡ out_for capacity (entries.End q why ∷ older) peer.label =
        sym (out_same capacity (entries.End q why) older peer.label (last q why older peer e l) refl) in
        subst (λ (u : Option Ended). IsLeft capacity (entries.End q why ∷ older) (suc k) x u) h.1
        (subst (λ (p : Joined). IsLeft capacity (entries.End q why ∷ older) (suc k) p (Some one)) same (
          gone_now q why older peer e l,
          ap (λ (b : Bool). if b then Some why else end_of older (suc k)) number,
          subst (λ (u : Outgoing). IsKept capacity u store) out kept,
        ))
    by k x o at (inr h) =
        let first : q - 1 + 1 ≡ q = place.from_one in
        let apart : suc k ≡ q → ⊥ = λ d. h.0 (omega arith) in
        let number : (q == suc k) ≡ false = ne_eqb q (suc k) (λ d. apart (sym d)) in
        left_same quiet capacity (entries.End q why) older (suc k) x o (label_within older (suc k) x at)
        (other_stays q why older peer (suc k) x e l at apart)
        (ap (λ (b : Bool). if b then Some why else end_of older (suc k)) number) (λ d. refl) (left.each k x o at h.1)

    each : (k : ℕ) (x : Joined) (o : Option Ended) → slice_get (past_of older).joined k ≡ Some x →
        slice_get (set ended (q - 1) (Some one)) k ≡ Some o → IsLeft capacity (entries.End q why ∷ older) (suc k) x o
    each k x o at is = by k x o at (get_set ended (q - 1) (Some one) k o is)

    later : (r : ℕ) → length (past_of older).joined < r → end_of (entries.End q why ∷ older) r ≡ None
    later r w =
        let within : q ≤ length (past_of older).joined = place.within in
        ap (λ (b : Bool). if b then Some why else end_of older r) (ne_eqb q r (λ d. omega arith)) ∙ left.later r w

-- bytes that are taken

taken_of : (q n : ℕ) (older : List Entry) (peer : Joined) (p : ℕ) → peer_at (past_of older) q ≡ Some peer →
    took_at (entries.Took q n) (past_of older) p ≡ (if peer.label == p then n else 0)
taken_of q n older peer p e = ap (λ o. if is_label o p then n else 0) e

pub left_took_live : AreQuiet → (capacity q n : ℕ) (older : List Entry) (peer : Joined) (ended : List (Option Ended)) →
    peer_at (past_of older) q ≡ Some peer → is_peer (log_of (past_of older)) peer.label ≡ true →
    AreLeft capacity older ended →
    AreLeft capacity (entries.Took q n ∷ older) ended
left_took_live quiet capacity q n older peer ended e l left =
    left_still quiet capacity (entries.Took q n) older ended refl refl (λ r. refl)
    (λ p d.
    taken_of q n older peer p e
    ∙ ap (λ (b : Bool). if b then n else 0)
    (ne_eqb peer.label p (λ s. true≢false (sym l ∙ ap (is_peer (log_of (past_of older))) s ∙ d)))) left

pub left_took_ended : AreQuiet →
    (capacity q n : ℕ) (older : List Entry) (peer : Joined) (was : Ended) (store : Option Queue)
    (ended : List (Option Ended)) →
    peer_at (past_of older) q ≡ Some peer → slice_get ended (q - 1) ≡ Some (Some was) →
    IsKept capacity
    (record (out_for capacity older peer.label) { taken = (out_for capacity older peer.label).taken + n }) store →
    AreLeft capacity older ended →
    AreLeft capacity (entries.Took q n ∷ older) (set ended (q - 1) (Some (record { cause = was.cause; store = store })))
left_took_ended quiet capacity q n older peer was store ended e entry kept left =
    record { number = length-set ended (q - 1) (Some one) ∙ left.number; each = each; later = left.later }
  where
    one : Ended
    one = record { cause = was.cause; store = store }

    place : IsPlaced (past_of older).joined q peer
    place = placed (past_of older).joined q peer e

    by : (k : ℕ) (x : Joined) (o : Option Ended) → slice_get (past_of older).joined k ≡ Some x →
        ((k ≡ q - 1) × (Some one ≡ o)) ⊎ ((k ≡ q - 1 → ⊥) × (slice_get ended k ≡ Some o)) →
        IsLeft capacity (entries.Took q n ∷ older) (suc k) x o
    by k x o at (inl h) =
        let first : q - 1 + 1 ≡ q = place.from_one in
        let there : k ≡ q - 1 = h.0 in
        let same : peer ≡ x = same_peer (past_of older).joined q k peer x e at there in
        let here : slice_get (past_of older).joined k ≡ Some peer = at ∙ ap Some (sym same) in
        let before : IsLeft capacity older (suc k) peer (Some was) =
        left.each k peer (Some was) here (ap (λ (m : ℕ). slice_get ended m) there ∙ entry) in
        let w : peer.label ≤ length older = label_within older q peer e in
        let out : record (out_for capacity older peer.label) { taken = (out_for capacity older peer.label).taken + n }
        ≡ out_for capacity (entries.Took q n ∷ older) peer.label =
        sym (out_stays capacity (entries.Took q n) older peer.label n
        (quiet (entries.Took q n) older peer.label before.0 (λ d. omega arith))
        (taken_of q n older peer peer.label e
        ∙ ap (λ (b : Bool). if b then n else 0) (eq-eqb peer.label peer.label refl))) in
        subst (λ (u : Option Ended). IsLeft capacity (entries.Took q n ∷ older) (suc k) x u) h.1
        (subst (λ (p : Joined). IsLeft capacity (entries.Took q n ∷ older) (suc k) p (Some one)) same (
          peer_kept (entries.Took q n) older peer.label refl w
              ∙ before.0,
          before.1,
          subst (λ (u : Outgoing). IsKept capacity u store) out kept,
        ))
    by k x o at (inr h) =
        let first : q - 1 + 1 ≡ q = place.from_one in
        let apart : q ≡ suc k → ⊥ = λ d. h.0 (omega arith) in
        let w : x.label ≤ length older = label_within older (suc k) x at in
        left_same quiet capacity (entries.Took q n) older (suc k) x o w
        (peer_kept (entries.Took q n) older x.label refl w) refl
        (λ d.
        taken_of q n older peer x.label e
        ∙ ap (λ (b : Bool). if b then n else 0)
        (ne_eqb peer.label x.label (λ s. apart (one_number older q (suc k) peer x e at s)))) (left.each k x o at h.1)

    each : (k : ℕ) (x : Joined) (o : Option Ended) → slice_get (past_of older).joined k ≡ Some x →
        slice_get (set ended (q - 1) (Some one)) k ≡ Some o → IsLeft capacity (entries.Took q n ∷ older) (suc k) x o
    each k x o at is = by k x o at (get_set ended (q - 1) (Some one) k o is)
