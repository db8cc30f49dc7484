-- What is put for a peer goes on from what was put, whatever steps follow
use Rattle.std.proofs.Common.{◌≡◌, ℕ, zero, suc, ◌+◌, ◌≤◌, Bool, true, false, List, [], ◌∷◌, ◌++◌, length, take, Option, Some, None, refl, sym, ap, subst, ◌∙◌, arith, append_assoc, append-nil, length-append, take-add}
use Rattle.std.specs.Prelude.{if◌then◌else◌, ◌==◌}
use Rattle.std.specs.List.{sum_by}
use Rattle.std.proofs.lemmas.Bool.{eq-eqb, eqb-true}
use Rattle.std.proofs.lemmas.List.{take-append-le}
use Rattle.std.proofs.lemmas.List.Sums.{sum_by-cons}
use Rattle.broker_model.specs.declared.journal.Entry.{Entry}
use Rattle.broker_model.specs.declared.journal.Entry.TheVariants as entries
use Rattle.broker_model.specs.Groups.{Piece, followed_by}
use Rattle.broker_model.specs.Ids.{Joined, Past, peer_in, peer_at}
use Rattle.broker_model.specs.Resolve.{past_of}
use Rattle.broker_model.specs.Out.{Outgoing, group_at, fits, with_group, is_label, took_at, before_group, out_for, stored}
use Rattle.broker_model.specs.Settle.{due, cause_of, with_end, settled, settle, number_alive, history}
use Rattle.broker_model.proofs.LivePeersJoined.{joined_stays}
use Rattle.broker_model.proofs.LabelsRiseByNumber.{one_number}

-- n more bytes were taken, and more may have been put
pub record Grows (n : ℕ) (old new : Outgoing) : Type 0 where
  pub taken : new.taken ≡ old.taken + n
  pub more : List ℕ
  pub put : new.put.bytes ≡ old.put.bytes ++ more

pub grows_none : (out : Outgoing) → Grows 0 out out
grows_none out = record { taken = omega arith; more = []; put = sym (append-nil out.put.bytes) }

grows_both : (m n : ℕ) (a b c : Outgoing) → Grows m a b → Grows n b c → Grows (m + n) a c
grows_both m n a b c g h =
    let f = g.taken in
    let k = h.taken in record {
      taken = omega (arith, f, k);
      more = g.more ++ h.more;
      put = h.put ∙ ap (λ (l : List ℕ). l ++ h.more) g.put ∙ append_assoc a.put.bytes g.more h.more;
    }

grows_as : (m n : ℕ) (a b : Outgoing) → m ≡ n → Grows m a b → Grows n a b
grows_as m n a b e = subst (λ k. Grows k a b) e

grows_group : (capacity : ℕ) (g : Piece) (o : Outgoing) (fit : Bool) → fits capacity g o ≡ fit →
    Grows 0 o (with_group capacity g o)
grows_group capacity g o true e =
    subst (λ t. Grows 0 o (if t then record o { put = followed_by o.put g } else record o { choked = true })) (sym e)
    (record { taken = omega arith; more = g.bytes; put = refl })
grows_group capacity g o false e =
    subst (λ t. Grows 0 o (if t then record o { put = followed_by o.put g } else record o { choked = true })) (sym e)
    (record { taken = omega arith; more = []; put = sym (append-nil o.put.bytes) })

entry_grows : (capacity : ℕ) (e : Entry) (older : List Entry) (p n : ℕ) → took_at e (past_of older) p ≡ n
    → Grows n (out_for capacity older p) (out_for capacity (e ∷ older) p)
entry_grows capacity e older p n is =
    let old : Outgoing = out_for capacity older p in
    let mid : Outgoing = before_group e older p old in
    grows_as (n + 0) n old (out_for capacity (e ∷ older) p) (omega arith)
    (grows_both n 0 old mid (out_for capacity (e ∷ older) p)
    (record { taken = ap (λ k. old.taken + k) is; more = []; put = sym (append-nil old.put.bytes) })
    (grows_group capacity (group_at e older p) mid (fits capacity (group_at e older p) mid) refl))

-- the ends that follow take nothing, and nobody joins by them

ended_grows : (capacity fuel : ℕ) (journal : List Entry) (p : ℕ) (o : Option ℕ)
    → ((later : List Entry) → Grows 0 (out_for capacity later p) (out_for capacity (settled capacity fuel later) p))
    → Grows 0 (out_for capacity journal p) (out_for capacity (settled capacity fuel (with_end journal o)) p)
ended_grows capacity fuel journal p None k = k journal
ended_grows capacity fuel journal p (Some q) k =
    let e : Entry = entries.End q (cause_of journal q) in
    grows_both 0 0 (out_for capacity journal p) (out_for capacity (e ∷ journal) p)
    (out_for capacity (settled capacity fuel (e ∷ journal)) p)
    (entry_grows capacity e journal p 0 refl) (k (e ∷ journal))

settled_grows : (capacity fuel : ℕ) (journal : List Entry) (p : ℕ)
    → Grows 0 (out_for capacity journal p) (out_for capacity (settled capacity fuel journal) p)
settled_grows capacity zero journal p = grows_none (out_for capacity journal p)
settled_grows capacity (suc fuel) journal p =
    ended_grows capacity fuel journal p (due capacity journal) (λ later. settled_grows capacity fuel later p)

pub step_grows : (capacity : ℕ) (e : Entry) (older : List Entry) (p n : ℕ) → took_at e (past_of older) p ≡ n
    → Grows n (out_for capacity older p) (out_for capacity (settle capacity (e ∷ older)) p)
step_grows capacity e older p n is =
    let J : List Entry = e ∷ older in
    grows_as (n + 0) n (out_for capacity older p) (out_for capacity (settle capacity J) p) (omega arith)
    (grows_both n 0 (out_for capacity older p) (out_for capacity J p) (out_for capacity (settle capacity J) p)
    (entry_grows capacity e older p n is) (settled_grows capacity (number_alive J) J p))

ended_joined : (capacity fuel : ℕ) (journal : List Entry) (o : Option ℕ)
    → ((later : List Entry) → (past_of (settled capacity fuel later)).joined ≡ (past_of later).joined)
    → (past_of (settled capacity fuel (with_end journal o))).joined ≡ (past_of journal).joined
ended_joined capacity fuel journal None k = k journal
ended_joined capacity fuel journal (Some q) k = k (entries.End q (cause_of journal q) ∷ journal)

settled_joined : (capacity fuel : ℕ) (journal : List Entry) →
    (past_of (settled capacity fuel journal)).joined ≡ (past_of journal).joined
settled_joined capacity zero journal = refl
settled_joined capacity (suc fuel) journal =
    ended_joined capacity fuel journal (due capacity journal) (settled_joined capacity fuel)

-- who joined keeps the number
pub step_keeps : (capacity : ℕ) (e : Entry) (older : List Entry) (q : ℕ) (peer : Joined) →
    peer_at (past_of older) q ≡ Some peer
    → peer_at (past_of (settle capacity (e ∷ older))) q ≡ Some peer
step_keeps capacity e older q peer is =
    let J : List Entry = e ∷ older in
    ap (λ joined. peer_in joined q) (settled_joined capacity (number_alive J) J)
    ∙ joined_stays e (length older + 1) (past_of older).joined q peer is

pub history_keeps : (capacity : ℕ) (es base : List Entry) (q : ℕ) (peer : Joined) →
    peer_at (past_of (history capacity base)) q ≡ Some peer
    → peer_at (past_of (history capacity (es ++ base))) q ≡ Some peer
history_keeps capacity [] base q peer is = is
history_keeps capacity (e ∷ es) base q peer is =
    step_keeps capacity e (history capacity (es ++ base)) q peer (history_keeps capacity es base q peer is)

-- how many bytes an entry takes for the peer q

abbrev pub took_of : ℕ → Entry → ℕ
took_of q (entries.Took k n) = (if k == q then n else 0)
took_of q _ = 0

-- the label is that of the peer q alone
abbrev pub IsOnly : List Entry → ℕ → ℕ → Type 0
IsOnly journal q p = (k : ℕ) (peer : Joined) → peer_at (past_of journal) k ≡ Some peer → peer.label ≡ p → k ≡ q

pub only_one : (journal : List Entry) (q : ℕ) (peer : Joined) → peer_at (past_of journal) q ≡ Some peer →
    IsOnly journal q peer.label
only_one journal q peer is = λ k other e l. one_number journal k q other peer e is l

took_zero : (q k n : ℕ) (past : Past) (p : ℕ) (o : Option Joined) (b : Bool) → peer_at past k ≡ o
    → ((peer : Joined) → peer_at past k ≡ Some peer → peer.label ≡ p → k ≡ q) → (k == q) ≡ b
    → (if b then n else 0) ≡ 0 → (if is_label o p then n else 0) ≡ 0
took_zero q k n past p None b e only is none = refl
took_zero q k n past p (Some peer) true e only is none = by (peer.label == p)
  where
    by : (t : Bool) → (if t then n else 0) ≡ 0
    by true = none
    by false = refl
took_zero q k n past p (Some peer) false e only is none = by (peer.label == p) refl
  where
    by : (t : Bool) → (peer.label == p) ≡ t → (if t then n else 0) ≡ 0
    by true same = let at : k ≡ q = only peer e (eqb-true peer.label p same) in let yes = eq-eqb k q at in cc
    by false same = refl

nothing_took : (q : ℕ) (e : Entry) (older : List Entry) (p : ℕ) → IsOnly older q p → took_of q e ≡ 0 →
    took_at e (past_of older) p ≡ 0
nothing_took q (entries.Took k n) older p only none =
    took_zero q k n (past_of older) p (peer_at (past_of older) k) (k == q) refl (λ peer e l. only k peer e l) refl none
nothing_took q (entries.Join role) older p only none = refl
nothing_took q (entries.Message k id opcode body) older p only none = refl
nothing_took q (entries.Tokens k tokens) older p only none = refl
nothing_took q (entries.BadSize k head) older p only none = refl
nothing_took q (entries.End k cause) older p only none = refl
nothing_took q (entries.Shell step) older p only none = refl

-- steps that take nothing for the peer leave what was taken, and put more
pub history_grows : (capacity : ℕ) (es base : List Entry) (q p : ℕ) → IsOnly (history capacity (es ++ base)) q p →
    sum_by (took_of q) es ≡ 0
    → Grows 0 (out_for capacity (history capacity base) p) (out_for capacity (history capacity (es ++ base)) p)
history_grows capacity [] base q p only none = grows_none (out_for capacity (history capacity base) p)
history_grows capacity (e ∷ es) base q p only none =
    let mid : List Entry = history capacity (es ++ base) in
    let split = sum_by-cons (took_of q) e es in
    let before : IsOnly mid q p = λ k peer is l. only k peer (step_keeps capacity e mid k peer is) l in
    grows_both 0 0 (out_for capacity (history capacity base) p) (out_for capacity mid p)
    (out_for capacity (settle capacity (e ∷ mid)) p)
    (history_grows capacity es base q p before (omega (arith, none, split)))
    (step_grows capacity e mid p 0 (nothing_took q e mid p before (omega (arith, none, split))))

-- a take of the peer
pub own_took : (q n : ℕ) (older : List Entry) (peer : Joined) → peer_at (past_of older) q ≡ Some peer
    → took_at (entries.Took q n) (past_of older) peer.label ≡ n
own_took q n older peer is =
    ap (λ (o : Option Joined). (if is_label o peer.label then n else 0)) is
    ∙ ap (λ (t : Bool). (if t then n else 0)) (eq-eqb peer.label peer.label refl)

-- the front that was taken

pub still_within : (n : ℕ) (old new : Outgoing) → Grows n old new → old.taken + n ≤ length old.put.bytes →
    new.taken ≤ length new.put.bytes
still_within n old new g w =
    let t = g.taken in
    let l = ap length g.put in
    let s = length-append old.put.bytes g.more in omega (arith, t, l, s, w)

-- a take of the first of what is stored adds it
pub front_more : (n : ℕ) (old new : Outgoing) → Grows n old new → old.taken + n ≤ length old.put.bytes →
    take new.taken new.put.bytes ≡ take old.taken old.put.bytes ++ take n (stored old)
front_more n old new g w =
    ap (λ k. take k new.put.bytes) g.taken ∙ ap (take (old.taken + n)) g.put
    ∙ take-append-le (old.taken + n) old.put.bytes g.more w ∙ take-add old.taken n old.put.bytes

-- and without a take it stays
pub front_same : (old new : Outgoing) → Grows 0 old new → old.taken ≤ length old.put.bytes →
    take new.taken new.put.bytes ≡ take old.taken old.put.bytes
front_same old new g w =
    ap (λ k. take k new.put.bytes) (g.taken ∙ (let z : old.taken + 0 ≡ old.taken = omega arith in z))
    ∙ ap (take old.taken) g.put ∙ take-append-le old.taken old.put.bytes g.more w
