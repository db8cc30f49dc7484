-- How the roster of live peers changes by one entry, and whose the live states are.
use Rattle.std.proofs.Common.{◌≡◌, ℕ, zero, suc, ◌+◌, ◌<◌, List, [], ◌∷◌, ◌++◌, length, map, Bool, true, false, cond, not, Option, Some, None, ap, refl, sym, ◌∙◌, subst, arith}
use Rattle.std.specs.Prelude.{◌==◌, ◌&&◌, filter, if◌then◌else◌}
use Rattle.std.specs.List.{AllByRecursion, slice_get}
use Rattle.std.proofs.lemmas.Bool.{ne_eqb, eq-eqb, eqb-true}
use Rattle.std.proofs.lemmas.Option.{same_Some}
use Rattle.std.proofs.lemmas.List.Elements.{filter-append}
use Rattle.std.proofs.lemmas.List.Sums.{length-filter}
use Rattle.relay_model.specs.declared.act.Act.{Act}
use Rattle.relay_model.specs.declared.act.EndCause.{EndCause}
use Rattle.relay_model.specs.declared.role.Role.{Role}
use Rattle.relay_model.specs.Objects.{is_peer}
use Rattle.broker_model.specs.declared.journal.Entry.{Entry}
use Rattle.broker_model.specs.declared.journal.Entry.TheVariants as entries
use Rattle.broker_model.specs.Ids.{Joined, log_of, peer_in, peer_at}
use Rattle.broker_model.specs.Resolve.{past_of}
use Rattle.broker_model.specs.Limits.{is_end}
use Rattle.broker_model.specs.Settle.{number_alive}
use Rattle.broker_model.proofs.LabelsRiseByNumber.{label_within, one_number}
use Rattle.broker_audience.specs.declared.live.Live.{Live}
use Rattle.broker_audience.specs.Lives.{Numbered, who, is_number, number_of, AreAbove, AreRising}
use Rattle.broker_core.specs.Stands.{numbered, is_alive, roster}
use Rattle.broker_model.proofs.EachElement.{all_then, all_of_map, all_filtered, filter_same, filter_twice, map_filter}
use Rattle.broker_core.proofs.OnlyEndsTakePeers.{peer_kept, peer_new, peer_ended}

-- the entry neither makes a peer nor ends one
abbrev pub IsPlain : Entry → Type 0
IsPlain (entries.Join role) = ⊥
IsPlain (entries.End q why) = ⊥
IsPlain _ = Unit {0}

-- each number is that of its peer

numbered_each : (P : Numbered → Type 0) (k : ℕ) (joined : List Joined) →
    ((i : ℕ) (peer : Joined) → slice_get joined i ≡ Some peer → P (record { number = k + i; peer = peer })) →
    AllByRecursion P (numbered k joined)
numbered_each P k [] f = tt
numbered_each P k (peer ∷ rest) f =
    let here : k + 0 ≡ k = omega arith in (
      subst (λ (n : ℕ). P (record { number = n; peer = peer })) here (f 0 peer refl),
      numbered_each P (suc k) rest
          (λ i p e.
          (let there : k + suc i ≡ suc k + i = omega arith in
          subst (λ (n : ℕ). P (record { number = n; peer = p })) there (f (suc i) p e))),
    )

abbrev pub IsAt : List Joined → Numbered → Type 0
IsAt joined n = peer_in joined n.number ≡ Some n.peer

pub numbered_at : (joined : List Joined) → AllByRecursion (IsAt joined) (numbered 1 joined)
numbered_at joined =
    numbered_each (IsAt joined) 1 joined
    (λ i peer e. (let place : 1 + i ≡ suc i = omega arith in ap (peer_in joined) place ∙ e))

-- so is each in the roster, and it is alive
pub roster_at : (journal : List Entry) →
    AllByRecursion (λ n. IsAt (past_of journal).joined n × (is_alive (log_of (past_of journal)) n ≡ true))
    (roster journal)
roster_at journal =
    all_filtered (IsAt (past_of journal).joined) (is_alive (log_of (past_of journal)))
    (numbered 1 (past_of journal).joined)
    (numbered_at (past_of journal).joined)

-- an entry that ends nobody

roster_kept : (e : Entry) (older : List Entry) → is_end e ≡ false →
    filter (is_alive (log_of (past_of (e ∷ older)))) (numbered 1 (past_of older).joined) ≡ roster older
roster_kept e older h =
    let joined : List Joined = (past_of older).joined in
    filter_same (is_alive (log_of (past_of (e ∷ older)))) (is_alive (log_of (past_of older))) (numbered 1 joined)
    (all_then (IsAt joined) _ (numbered 1 joined)
    (λ n at. peer_kept e older n.peer.label h (label_within older n.number n.peer at)) (numbered_at joined))

pub roster_plain : (e : Entry) (older : List Entry) → IsPlain e → roster (e ∷ older) ≡ roster older
roster_plain (entries.Join role) older p = absurd p
roster_plain (entries.Message q id opcode body) older p = roster_kept (entries.Message q id opcode body) older refl
roster_plain (entries.Tokens q tokens) older p = roster_kept (entries.Tokens q tokens) older refl
roster_plain (entries.BadSize q head) older p = roster_kept (entries.BadSize q head) older refl
roster_plain (entries.End q why) older p = absurd p
roster_plain (entries.Shell step) older p = roster_kept (entries.Shell step) older refl
roster_plain (entries.Took q bytes) older p = roster_kept (entries.Took q bytes) older refl

-- a peer that joins comes last

numbered_more : (k : ℕ) (joined : List Joined) (peer : Joined) →
    numbered k (joined ++ peer ∷ []) ≡ numbered k joined ++ record { number = length joined + k; peer = peer } ∷ []
numbered_more k [] peer =
    let same : k ≡ 0 + k = omega arith in
    ap (λ (n : ℕ). record { number = n; peer = peer } ∷ []) same
numbered_more k (x ∷ joined) peer =
    let same : length joined + suc k ≡ suc (length joined) + k = omega arith in
    ap (λ (ns : List Numbered). record { number = k; peer = x } ∷ ns)
    (numbered_more (suc k) joined peer
    ∙ ap (λ (n : ℕ). numbered (suc k) joined ++ record { number = n; peer = peer } ∷ []) same)

pub roster_join : (role : Role) (older : List Entry) →
    roster (entries.Join role ∷ older)
    ≡ roster older
    ++ record { number = length (past_of older).joined + 1; peer = record { label = length older + 1; role = role } }
    ∷ []
roster_join role older =
    let test : Numbered → Bool = is_alive (log_of (past_of (entries.Join role ∷ older))) in
    let joined : List Joined = (past_of older).joined in
    let one : Numbered =
    record { number = length joined + 1; peer = record { label = length older + 1; role = role } } in
    ap (filter test) (numbered_more 1 joined (record { label = length older + 1; role = role }))
    ∙ filter-append test (numbered 1 joined) (one ∷ [])
    ∙ ap (λ (b : Bool). filter test (numbered 1 joined) ++ cond b (one ∷ []) []) (peer_new role older)
    ∙ ap (λ (ns : List Numbered). ns ++ one ∷ []) (roster_kept (entries.Join role) older refl)

-- a peer that ends is gone from it

same_test : (b c : Bool) → (b ≡ true → c ≡ true) → (c ≡ true → b ≡ true) → b ≡ c
same_test true c f g = sym (f refl)
same_test false true f g = g refl
same_test false false f g = refl

-- a label has one number, and a number one label
pub label_number : (journal : List Entry) (a b : ℕ) (x y : Joined) → peer_at (past_of journal) a ≡ Some x →
    peer_at (past_of journal) b ≡ Some y →
    (x.label == y.label) ≡ (a == b)
label_number journal a b x y e f =
    same_test (x.label == y.label) (a == b)
    (λ t. eq-eqb a b (one_number journal a b x y e f (eqb-true x.label y.label t)))
    (λ t.
    (let same : x ≡ y = same_Some x y (sym e ∙ ap (peer_at (past_of journal)) (eqb-true a b t) ∙ f) in
    eq-eqb x.label y.label (ap (λ (p : Joined). p.label) same)))

pub roster_end : (q : ℕ) (why : EndCause) (older : List Entry) (peer : Joined) → peer_at (past_of older) q ≡ Some peer →
    is_peer (log_of (past_of older)) peer.label ≡ true →
    roster (entries.End q why ∷ older) ≡ filter (λ n. not (n.number == q)) (roster older)
roster_end q why older peer e l =
    let joined : List Joined = (past_of older).joined in
    filter_twice (is_alive (log_of (past_of (entries.End q why ∷ older)))) (is_alive (log_of (past_of older)))
    (λ n. not (n.number == q)) (numbered 1 joined)
    (all_then (IsAt joined) _ (numbered 1 joined)
    (λ n at.
    peer_ended q why older peer n.peer.label e l (label_within older n.number n.peer at)
    ∙ ap (λ (b : Bool). is_peer (log_of (past_of older)) n.peer.label && not b)
    (label_number older n.number q n.peer peer at e))
    (numbered_at joined))

-- as many as are alive

abbrev lives : List Act → Joined → Bool
lives log peer = is_peer log peer.label

count_numbered : (log : List Act) (k : ℕ) (joined : List Joined) →
    length (filter (is_alive log) (numbered k joined)) ≡ length (filter (lives log) joined)
count_numbered log k [] = refl
count_numbered log k (x ∷ joined) = by (is_peer log x.label) (count_numbered log (suc k) joined)
  where
    by : (b : Bool) → length (filter (is_alive log) (numbered (suc k) joined)) ≡ length (filter (lives log) joined) →
        length (cond b (record { number = k; peer = x } ∷ filter (is_alive log) (numbered (suc k) joined))
        (filter (is_alive log) (numbered (suc k) joined)))
        ≡ length (cond b (x ∷ filter (lives log) joined) (filter (lives log) joined))
    by true e = ap suc e
    by false e = e

pub roster_count : (journal : List Entry) → length (roster journal) ≡ number_alive journal
roster_count journal =
    let log : List Act = log_of (past_of journal) in
    count_numbered log 1 (past_of journal).joined ∙ length-filter (lives log) (past_of journal).joined

-- the numbers rise

abbrev AreOver : ℕ → List Numbered → Type 0
AreOver q [] = Unit {0}
AreOver q (n ∷ rest) = (q < n.number) × AreOver n.number rest

over_numbered : (test : Numbered → Bool) (q k : ℕ) (joined : List Joined) → q < k →
    AreOver q (filter test (numbered k joined))
over_numbered test q k [] l = tt
over_numbered test q k (x ∷ joined) l =
    by (test (record { number = k; peer = x })) (over_numbered test k (suc k) joined (omega arith))
    (over_numbered test q (suc k) joined (omega arith))
  where
    by : (b : Bool) → AreOver k (filter test (numbered (suc k) joined)) →
        AreOver q (filter test (numbered (suc k) joined)) →
        AreOver q (cond b (record { number = k; peer = x } ∷ filter test (numbered (suc k) joined))
        (filter test (numbered (suc k) joined)))
    by true here there = (l, here)
    by false here there = there

above_of : (q : ℕ) (live : List Live) → AreOver q (map who live) → AreAbove q live
above_of q [] h = tt
above_of q (l ∷ live) h = (h.0, above_of l.number live h.1)

pub rising : (journal : List Entry) (live : List Live) → map who live ≡ roster journal → AreRising live
rising journal live e =
    above_of 0 live
    (subst (λ (ns : List Numbered). AreOver 0 ns) (sym e)
    (over_numbered (is_alive (log_of (past_of journal))) 0 1 (past_of journal).joined (omega arith)))

-- each live state is that of a live peer

pub each_alive : (journal : List Entry) (live : List Live) → map who live ≡ roster journal →
    AllByRecursion
    (λ l.
    (peer_at (past_of journal) l.number ≡ Some (record { label = l.label; role = l.role }))
    × (is_peer (log_of (past_of journal)) l.label ≡ true)) live
each_alive journal live e =
    all_of_map who (λ n. IsAt (past_of journal).joined n × (is_alive (log_of (past_of journal)) n ≡ true)) live
    (subst (λ (ns : List Numbered). AllByRecursion
    (λ n. IsAt (past_of journal).joined n × (is_alive (log_of (past_of journal)) n ≡ true)) ns) (sym e)
    (roster_at journal))

number_passes : (P : Live → Type 0) (live : List Live) (q : ℕ) (l : Live) → AllByRecursion P live →
    number_of q live ≡ Some l → P l × (l.number ≡ q)
number_passes P [] q l h e = cc
number_passes P (x ∷ live) q l h e = by (is_number q x) refl (number_passes P live q l h.1) e
  where
    by : (b : Bool) → is_number q x ≡ b → (number_of q live ≡ Some l → P l × (l.number ≡ q)) →
        (if b then Some x else number_of q live) ≡ Some l →
        P l × (l.number ≡ q)
    by true t f d =
        let same : x ≡ l = same_Some x l d in
        subst (λ (y : Live). P y × (y.number ≡ q)) same (h.0, eqb-true x.number q t)
    by false t f d = f d

pub at_number : (journal : List Entry) (live : List Live) → map who live ≡ roster journal → (q : ℕ) (l : Live) →
    number_of q live ≡ Some l →
    (peer_at (past_of journal) q ≡ Some (record { label = l.label; role = l.role }))
    × (is_peer (log_of (past_of journal)) l.label ≡ true) × (l.number ≡ q)
at_number journal live e q l n =
    let found = number_passes _ live q l (each_alive journal live e) n in
    (ap (peer_at (past_of journal)) (sym found.1) ∙ found.0.0, found.0.1, found.1)

-- and each live peer has its state

abbrev number_in : ℕ → List Numbered → Option Numbered
number_in q [] = None
number_in q (n ∷ rest) = (if n.number == q then Some n else number_in q rest)

-- a peer and its number
abbrev pub peer_with : ℕ → Joined → Numbered
peer_with q peer = record { number = q; peer = peer }

in_numbered : (test : Numbered → Bool) (q k i : ℕ) (joined : List Joined) (peer : Joined) →
    slice_get joined i ≡ Some peer → q ≡ k + i →
    test (peer_with q peer) ≡ true → number_in q (filter test (numbered k joined)) ≡ Some (peer_with q peer)
in_numbered test q k i [] peer e n t = cc
in_numbered test q k zero (x ∷ joined) peer e n t =
    let same : x ≡ peer = same_Some x peer e in
    let here : peer_with k x ≡ peer_with q peer =
    ap (λ (y : Joined). peer_with k y) same ∙ ap (λ (m : ℕ). peer_with m peer) (omega arith) in
    let passes : test (peer_with k x) ≡ true = ap test here ∙ t in
    let number : (k == q) ≡ true = eq-eqb k q (omega arith) in
    ap (λ (b : Bool). number_in q
    (cond b (peer_with k x ∷ filter test (numbered (suc k) joined)) (filter test (numbered (suc k) joined)))) passes
    ∙ ap (λ (b : Bool). (if b then Some (peer_with k x) else number_in q (filter test (numbered (suc k) joined))))
    number
    ∙ ap Some here
in_numbered test q k (suc i) (x ∷ joined) peer e n t =
    by (test (peer_with k x)) (ne_eqb k q (λ d. omega arith))
    (in_numbered test q (suc k) i joined peer e (omega arith) t)
  where
    by : (b : Bool) → (k == q) ≡ false → number_in q (filter test (numbered (suc k) joined)) ≡ Some (peer_with q peer) →
        number_in q (cond b (peer_with k x ∷ filter test (numbered (suc k) joined))
        (filter test (numbered (suc k) joined))) ≡ Some (peer_with q peer)
    by true d f =
        ap (λ (c : Bool). (if c then Some (peer_with k x) else number_in q (filter test (numbered (suc k) joined)))) d
        ∙ f
    by false d f = f

in_roster : (journal : List Entry) (q : ℕ) (peer : Joined) → peer_at (past_of journal) q ≡ Some peer →
    is_peer (log_of (past_of journal)) peer.label ≡ true → number_in q (roster journal) ≡ Some (peer_with q peer)
in_roster journal zero peer e l = cc
in_roster journal (suc q) peer e l =
    in_numbered (is_alive (log_of (past_of journal))) (suc q) 1 q (past_of journal).joined peer e (omega arith) l

-- the live state with a number that a peer has
abbrev pub IsThere : ℕ → Joined → List Live → Type 0
IsThere q peer live = (l : Live) × (number_of q live ≡ Some l) × (who l ≡ record { number = q; peer = peer })

there_of : (q : ℕ) (peer : Joined) (live : List Live) → number_in q (map who live) ≡ Some (peer_with q peer) →
    IsThere q peer live
there_of q peer [] e = cc
there_of q peer (x ∷ live) e = by (is_number q x) refl (there_of q peer live) e
  where
    by : (b : Bool) → is_number q x ≡ b → (number_in q (map who live) ≡ Some (peer_with q peer) → IsThere q peer live) →
        (if b then Some (who x) else number_in q (map who live)) ≡ Some (peer_with q peer) → IsThere q peer (x ∷ live)
    by true t f d =
        (x, ap (λ (c : Bool). (if c then Some x else number_of q live)) t, same_Some (who x) (peer_with q peer) d)
    by false t f d =
        let r : IsThere q peer live = f d in
        (r.0, ap (λ (c : Bool). (if c then Some x else number_of q live)) t ∙ r.1, r.2)

pub is_there : (journal : List Entry) (live : List Live) → map who live ≡ roster journal → (q : ℕ) (peer : Joined) →
    peer_at (past_of journal) q ≡ Some peer → is_peer (log_of (past_of journal)) peer.label ≡ true →
    (l : Live) × (number_of q live ≡ Some l) × (who l ≡ record { number = q; peer = peer })
is_there journal live e q peer at l = there_of q peer live (ap (number_in q) e ∙ in_roster journal q peer at l)

-- all but the peer with a number
pub without : (live : List Live) (q : ℕ) →
    map who (filter (λ l. not (is_number q l)) live) ≡ filter (λ n. not (n.number == q)) (map who live)
without live q = map_filter who (λ n. not (n.number == q)) live
