-- What is out for a peer, as the journal grows
use Rattle.std.proofs.Common.{◌≡◌, ℕ, zero, suc, ◌+◌, ◌≤◌, Bool, true, false, List, [], ◌∷◌, ◌++◌, length, map, take, drop, filter, Option, Some, None, refl, sym, ap, ap₂, ◌∙◌, subst, arith, append_assoc, append-nil, length-append, length-drop}
use Rattle.std.specs.Prelude.{if◌then◌else◌, ◌==◌, ◌&&◌, nat_le, nat_lt, sum}
use Rattle.std.specs.List.{sum_by}
use Rattle.std.proofs.lemmas.Bool.{eq-eqb, eqb-true, ltb-true}
use Rattle.std.proofs.lemmas.List.{take-append-le, drop-append-le}
use Rattle.std.proofs.lemmas.List.Sums.{sum_by-cons}
use Rattle.broker_model.specs.declared.journal.Entry.{Entry}
use Rattle.broker_model.specs.declared.journal.Entry.TheVariants as entries
use Rattle.broker_model.specs.Groups.{Token, Piece, later, followed_by}
use Rattle.broker_model.specs.Ids.{Joined, Past, peer_in, peer_at}
use Rattle.broker_model.specs.Resolve.{past_of}
use Rattle.broker_model.specs.Out.{Outgoing, fits, with_group, is_label, took_at, before_group, group_at, out_for}
use Rattle.broker_model.specs.Settle.{due, cause_of, with_end, settled, settle, number_alive, history}
use Rattle.broker_model.proofs.LivePeersJoined.{joined_stays}
use Rattle.broker_model.proofs.LabelsRiseByNumber.{one_number}
use Rattle.desc_frame.specs.Frames.{Frame, frame}
use Rattle.peer_link.specs.WritesPeer.{tokens_within, frame_at, frames_from}

-- pieces that go on

-- the tokens stand behind so many bytes
abbrev pub AreBehind : ℕ → List Token → Type 0
AreBehind n [] = Unit {0}
AreBehind n (t ∷ ts) = (n ≤ t.offset) × AreBehind n ts

-- the one piece begins the other
pub record Begins (a b : Piece) : Type 0 where
  pub bytes : List ℕ
  pub tokens : List Token
  pub bytes_are : b.bytes ≡ a.bytes ++ bytes
  pub tokens_are : b.tokens ≡ a.tokens ++ tokens
  pub behind : AreBehind (length a.bytes) tokens

behind-less : (m n : ℕ) (ts : List Token) → m ≤ n → AreBehind n ts → AreBehind m ts
behind-less m n [] le k = tt
behind-less m n (t ∷ ts) le k = (let far = k.0 in omega arith, behind-less m n ts le k.1)

behind-both : (n : ℕ) (a b : List Token) → AreBehind n a → AreBehind n b → AreBehind n (a ++ b)
behind-both n [] b k l = l
behind-both n (t ∷ a) b k l = (k.0, behind-both n a b k.1 l)

behind-later : (n : ℕ) (ts : List Token) → AreBehind n (map (later n) ts)
behind-later n [] = tt
behind-later n (t ∷ ts) = (omega arith, behind-later n ts)

pub begins-itself : (a : Piece) → Begins a a
begins-itself a = record {
  bytes = [];
  tokens = [];
  bytes_are = sym (append-nil a.bytes);
  tokens_are = sym (append-nil a.tokens);
  behind = tt;
}

pub begins-both : (a b c : Piece) → Begins a b → Begins b c → Begins a c
begins-both a b c first next =
    let long = ap length first.bytes_are in
    let sum = length-append a.bytes first.bytes in record {
      bytes = first.bytes ++ next.bytes;
      tokens = first.tokens ++ next.tokens;
      bytes_are = next.bytes_are ∙ ap (λ l. l ++ next.bytes) first.bytes_are
          ∙ append_assoc a.bytes first.bytes next.bytes;
      tokens_are = next.tokens_are ∙ ap (λ (l : List Token). l ++ next.tokens) first.tokens_are
          ∙ append_assoc a.tokens first.tokens next.tokens;
      behind = behind-both (length a.bytes) first.tokens next.tokens first.behind
          (behind-less (length a.bytes) (length b.bytes) next.tokens (omega (arith, long, sum)) next.behind);
    }

begins-followed : (a g : Piece) → Begins a (followed_by a g)
begins-followed a g = record {
  bytes = g.bytes;
  tokens = map (later (length a.bytes)) g.tokens;
  bytes_are = refl;
  tokens_are = refl;
  behind = behind-later (length a.bytes) g.tokens;
}

-- an outgoing that goes on, of which as much was taken, or so much more

pub record GoesOn (n : ℕ) (a b : Outgoing) : Type 0 where
  pub put : Begins a.put b.put
  pub taken : b.taken ≡ a.taken + n

goes-itself : (a : Outgoing) → GoesOn 0 a a
goes-itself a = record { put = begins-itself a.put; taken = omega arith }

goes-both : (m n : ℕ) (a b c : Outgoing) → GoesOn m a b → GoesOn n b c → GoesOn (m + n) a c
goes-both m n a b c first next =
    let f = first.taken in
    let g = next.taken in record { put = begins-both a.put b.put c.put first.put next.put; taken = omega (arith, f, g) }

goes-as : (m n : ℕ) (a b : Outgoing) → m ≡ n → GoesOn m a b → GoesOn n a b
goes-as m n a b e = subst (λ k. GoesOn k a b) e

with-group-goes : (capacity : ℕ) (g : Piece) (o : Outgoing) (b : Bool) → fits capacity g o ≡ b →
    GoesOn 0 o (with_group capacity g o)
with-group-goes capacity g o true e =
    subst (λ t. GoesOn 0 o (if t then record o { put = followed_by o.put g } else record o { choked = true })) (sym e)
    (record { put = begins-followed o.put g; taken = omega arith })
with-group-goes capacity g o false e =
    subst (λ t. GoesOn 0 o (if t then record o { put = followed_by o.put g } else record o { choked = true })) (sym e)
    (record { put = begins-itself o.put; taken = omega arith })

entry-goes : (capacity : ℕ) (e : Entry) (older : List Entry) (p n : ℕ) → took_at e (past_of older) p ≡ n
    → GoesOn n (out_for capacity older p) (out_for capacity (e ∷ older) p)
entry-goes capacity e older p n is =
    let old : Outgoing = out_for capacity older p in
    let mid : Outgoing = before_group e older p old in
    goes-as (n + 0) n old (out_for capacity (e ∷ older) p) (omega arith)
    (goes-both n 0 old mid (out_for capacity (e ∷ older) p)
    (record { put = begins-itself old.put; taken = ap (λ k. old.taken + k) is })
    (with-group-goes capacity (group_at e older p) mid (fits capacity (group_at e older p) mid) refl))

-- ends take nothing, and nobody joins by them

settled-goes_by : (capacity fuel : ℕ) (journal : List Entry) (p : ℕ) (o : Option ℕ)
    → ((later : List Entry) → GoesOn 0 (out_for capacity later p) (out_for capacity (settled capacity fuel later) p))
    → GoesOn 0 (out_for capacity journal p) (out_for capacity (settled capacity fuel (with_end journal o)) p)
settled-goes_by capacity fuel journal p None k = k journal
settled-goes_by capacity fuel journal p (Some q) k =
    let e : Entry = entries.End q (cause_of journal q) in
    goes-both 0 0 (out_for capacity journal p) (out_for capacity (e ∷ journal) p)
    (out_for capacity (settled capacity fuel (e ∷ journal)) p)
    (entry-goes capacity e journal p 0 refl) (k (e ∷ journal))

settled-goes : (capacity fuel : ℕ) (journal : List Entry) (p : ℕ)
    → GoesOn 0 (out_for capacity journal p) (out_for capacity (settled capacity fuel journal) p)
settled-goes capacity zero journal p = goes-itself (out_for capacity journal p)
settled-goes capacity (suc fuel) journal p =
    settled-goes_by capacity fuel journal p (due capacity journal) (λ later. settled-goes capacity fuel later p)

pub settle-goes : (capacity : ℕ) (e : Entry) (older : List Entry) (p n : ℕ) → took_at e (past_of older) p ≡ n
    → GoesOn n (out_for capacity older p) (out_for capacity (settle capacity (e ∷ older)) p)
settle-goes capacity e older p n is =
    let J : List Entry = e ∷ older in
    goes-as (n + 0) n (out_for capacity older p) (out_for capacity (settle capacity J) p) (omega arith)
    (goes-both n 0 (out_for capacity older p) (out_for capacity J p) (out_for capacity (settle capacity J) p)
    (entry-goes capacity e older p n is) (settled-goes capacity (number_alive J) J p))

settled-joined_by : (capacity fuel : ℕ) (journal : List Entry) (o : Option ℕ)
    → ((later : List Entry) → (past_of (settled capacity fuel later)).joined ≡ (past_of later).joined)
    → (past_of (settled capacity fuel (with_end journal o))).joined ≡ (past_of journal).joined
settled-joined_by capacity fuel journal None k = k journal
settled-joined_by capacity fuel journal (Some q) k = k (entries.End q (cause_of journal q) ∷ journal)

settled-joined : (capacity fuel : ℕ) (journal : List Entry) →
    (past_of (settled capacity fuel journal)).joined ≡ (past_of journal).joined
settled-joined capacity zero journal = refl
settled-joined capacity (suc fuel) journal =
    settled-joined_by capacity fuel journal (due capacity journal) (settled-joined capacity fuel)

-- who joined keeps the number
pub settle-keeps : (capacity : ℕ) (e : Entry) (older : List Entry) (q : ℕ) (peer : Joined) →
    peer_at (past_of older) q ≡ Some peer
    → peer_at (past_of (settle capacity (e ∷ older))) q ≡ Some peer
settle-keeps capacity e older q peer is =
    let J : List Entry = e ∷ older in
    ap (λ joined. peer_in joined q) (settled-joined capacity (number_alive J) J)
    ∙ joined_stays e (length older + 1) (past_of older).joined q peer is

pub history-keeps : (capacity : ℕ) (es base : List Entry) (q : ℕ) (peer : Joined) →
    peer_at (past_of (history capacity base)) q ≡ Some peer
    → peer_at (past_of (history capacity (es ++ base))) q ≡ Some peer
history-keeps capacity [] base q peer is = is
history-keeps capacity (e ∷ es) base q peer is =
    settle-keeps capacity e (history capacity (es ++ base)) q peer (history-keeps capacity es base q peer is)

-- how many bytes an entry takes for the peer q

abbrev pub took_of : ℕ → Entry → ℕ
took_of q (entries.Took k n) = (if k == q then n else 0)
took_of q _ = 0

-- the label is that of the peer q alone
abbrev pub IsOnly : List Entry → ℕ → ℕ → Type 0
IsOnly journal q p = (k : ℕ) (peer : Joined) → peer_at (past_of journal) k ≡ Some peer → peer.label ≡ p → k ≡ q

pub only-one : (journal : List Entry) (q : ℕ) (peer : Joined) → peer_at (past_of journal) q ≡ Some peer →
    IsOnly journal q peer.label
only-one journal q peer is = λ k other e l. one_number journal k q other peer e is l

took_zero : (q k n : ℕ) (past : Past) (p : ℕ) (o : Option Joined) (b : Bool) → peer_at past k ≡ o
    → ((peer : Joined) → peer_at past k ≡ Some peer → peer.label ≡ p → k ≡ q) → (k == q) ≡ b
    → (if b then n else 0) ≡ 0 → (if is_label o p then n else 0) ≡ 0
took_zero q k n past p None b e only is none = refl
took_zero q k n past p (Some peer) true e only is none = by (peer.label == p)
  where
    by : (t : Bool) → (if t then n else 0) ≡ 0
    by true = none
    by false = refl
took_zero q k n past p (Some peer) false e only is none = by (peer.label == p) refl
  where
    by : (t : Bool) → (peer.label == p) ≡ t → (if t then n else 0) ≡ 0
    by true same = let at : k ≡ q = only peer e (eqb-true peer.label p same) in let yes = eq-eqb k q at in cc
    by false same = refl

nothing_took : (q : ℕ) (e : Entry) (older : List Entry) (p : ℕ) → IsOnly older q p → took_of q e ≡ 0 →
    took_at e (past_of older) p ≡ 0
nothing_took q (entries.Took k n) older p only none =
    took_zero q k n (past_of older) p (peer_at (past_of older) k) (k == q) refl (λ peer e l. only k peer e l) refl none
nothing_took q (entries.Join role) older p only none = refl
nothing_took q (entries.Message k id opcode body) older p only none = refl
nothing_took q (entries.Tokens k tokens) older p only none = refl
nothing_took q (entries.BadSize k head) older p only none = refl
nothing_took q (entries.End k cause) older p only none = refl
nothing_took q (entries.Shell step) older p only none = refl

-- steps that take nothing for the peer leave what is out, or put more
pub history-goes : (capacity : ℕ) (es base : List Entry) (q p : ℕ) → IsOnly (history capacity (es ++ base)) q p →
    sum_by (took_of q) es ≡ 0
    → GoesOn 0 (out_for capacity (history capacity base) p) (out_for capacity (history capacity (es ++ base)) p)
history-goes capacity [] base q p only none = goes-itself (out_for capacity (history capacity base) p)
history-goes capacity (e ∷ es) base q p only none =
    let mid : List Entry = history capacity (es ++ base) in
    let split = sum_by-cons (took_of q) e es in
    let before : IsOnly mid q p = λ k peer is l. only k peer (settle-keeps capacity e mid k peer is) l in
    goes-both 0 0 (out_for capacity (history capacity base) p) (out_for capacity mid p)
    (out_for capacity (settle capacity (e ∷ mid)) p)
    (history-goes capacity es base q p before (omega (arith, none, split)))
    (settle-goes capacity e mid p 0 (nothing_took q e mid p before (omega (arith, none, split))))

-- a take of the peer
pub own-took : (q n : ℕ) (older : List Entry) (peer : Joined) → peer_at (past_of older) q ≡ Some peer
    → took_at (entries.Took q n) (past_of older) peer.label ≡ n
own-took q n older peer is =
    ap (λ (o : Option Joined). (if is_label o peer.label then n else 0)) is
    ∙ ap (λ (t : Bool). (if t then n else 0)) (eq-eqb peer.label peer.label refl)

-- frames of a piece are those of one that goes on

abbrev is_within : ℕ → ℕ → Token → Bool
is_within at n t = nat_le at t.offset && nat_lt t.offset (at + n)

none-within : (at n long : ℕ) (ts : List Token) → at + n ≤ long → AreBehind long ts → filter (is_within at n) ts ≡ []
none-within at n long [] le k = refl
none-within at n long (t ∷ ts) le k =
    let far = k.0 in
    let past : nat_lt t.offset (at + n) ≡ false = by (nat_lt t.offset (at + n)) refl in
    ap (λ (b : Bool). (if b then t ∷ filter (is_within at n) ts else filter (is_within at n) ts))
    (ap (λ (b : Bool). nat_le at t.offset && b) past ∙ and-false (nat_le at t.offset))
    ∙ none-within at n long ts le k.1
  where
    and-false : (b : Bool) → (b && false) ≡ false
    and-false true = refl
    and-false false = refl

    by : (b : Bool) → nat_lt t.offset (at + n) ≡ b → nat_lt t.offset (at + n) ≡ false
    by true e = let less = ltb-true t.offset (at + n) e in let far = k.0 in absurd (omega (arith, less, far, le))
    by false e = e

filter-append : (f : Token → Bool) (xs ys : List Token) → filter f (xs ++ ys) ≡ filter f xs ++ filter f ys
filter-append f [] ys = refl
filter-append f (x ∷ xs) ys = by (f x) (filter-append f xs ys)
  where
    by : (b : Bool) → filter f (xs ++ ys) ≡ filter f xs ++ filter f ys
        → (if b then x ∷ filter f (xs ++ ys) else filter f (xs ++ ys))
        ≡ (if b then x ∷ filter f xs else filter f xs) ++ filter f ys
    by true later = ap (λ (l : List Token). x ∷ l) later
    by false later = later

pub frame-stays : (a b : Piece) (at n : ℕ) → Begins a b → at + n ≤ length a.bytes → frame_at b at n ≡ frame_at a at n
frame-stays a b at n g le =
    ap₂ (λ (bs : List ℕ) (ts : List ℕ). frame bs ts) bytes tokens
  where
    bytes : take n (drop at b.bytes) ≡ take n (drop at a.bytes)
    bytes = ap (λ l. take n (drop at l)) g.bytes_are
        ∙ ap (take n) (drop-append-le at a.bytes g.bytes (omega (arith, le)))
        ∙ take-append-le n (drop at a.bytes) g.bytes (let d = length-drop at a.bytes in omega (arith, d, le))

    tokens : tokens_within b at n ≡ tokens_within a at n
    tokens = ap (map (λ (t : Token). t.token))
        (ap (filter (is_within at n)) g.tokens_are ∙ filter-append (is_within at n) a.tokens g.tokens
        ∙ ap (λ l. filter (is_within at n) a.tokens ++ l) (none-within at n (length a.bytes) g.tokens le g.behind)
        ∙ append-nil (filter (is_within at n) a.tokens))

pub frames-stay : (a b : Piece) (at : ℕ) (sizes : List ℕ) → Begins a b → at + sum sizes ≤ length a.bytes
    → frames_from b at sizes ≡ frames_from a at sizes
frames-stay a b at [] g le = refl
frames-stay a b at (n ∷ sizes) g le =
    let total = sum_by-cons (λ (x : ℕ). x) n sizes in
    ap₂ (λ (f : Frame) (fs : List Frame). f ∷ fs) (frame-stays a b at n g (omega (arith, le, total)))
    (frames-stay a b (at + n) sizes g (omega (arith, le, total)))

pub frames-more : (put : Piece) (at : ℕ) (sizes : List ℕ) (n : ℕ)
    → frames_from put at (sizes ++ n ∷ []) ≡ frames_from put at sizes ++ frame_at put (at + sum sizes) n ∷ []
frames-more put at [] n = ap (λ k. frame_at put k n ∷ []) {x = at} {y = at + 0} (omega arith)
frames-more put at (m ∷ sizes) n =
    let total = sum_by-cons (λ (x : ℕ). x) m sizes in
    ap (λ fs. frame_at put at m ∷ fs) (frames-more put (at + m) sizes n)
    ∙ ap (λ k. frame_at put at m ∷ (frames_from put (at + m) sizes ++ frame_at put k n ∷ []))
    {x = at + m + sum sizes} {y = at + sum (m ∷ sizes)} (omega (arith, total))

pub begins-long : (a b : Piece) → Begins a b → length a.bytes ≤ length b.bytes
begins-long a b g = let e = ap length g.bytes_are in let s = length-append a.bytes g.bytes in omega (arith, e, s)
