-- What a step puts for a peer and takes of it.
use Rattle.std.proofs.Common.{◌≡◌, ℕ, zero, suc, ◌+◌, ◌-◌, ◌≤◌, ◌<◌, Bool, true, false, List, [], ◌∷◌, ◌++◌, length, take, min, Option, Some, None, refl, sym, ap, subst, ◌∙◌, arith, append_assoc, length-append}
use Rattle.std.specs.Prelude.{if◌then◌else◌, option_map}
use Rattle.std.proofs.Math.Seq.{take-add}
use Rattle.std.proofs.lemmas.List.{append-nil, take-append-le, length-take, length-drop, take_min}
use Rattle.std.proofs.lemmas.Bool.{eq-eqb, ne_eqb}
use Rattle.broker_model.specs.declared.journal.Entry.{Entry}
use Rattle.broker_model.specs.declared.journal.Entry.TheVariants as entries
use Rattle.broker_model.specs.Ids.{Joined, Past, peer_in, peer_at}
use Rattle.broker_model.specs.Resolve.{past_of, with_joined}
use Rattle.broker_model.specs.Groups.{Piece, followed_by}
use Rattle.broker_model.specs.Out.{Outgoing, group_at, stored, fits, with_group, is_label, took_at, before_group, out_for}
use Rattle.broker_model.specs.Settle.{due, cause_of, with_end, settled, settle, number_alive}
use Rattle.broker_model.proofs.LabelsRiseByNumber.{label_within, one_number}
use Rattle.broker_model.proofs.LivePeersJoined.{joined_stays}
use Rattle.broker_core.specs.Broker.{Broker}
use Rattle.trial_run.specs.Steps.{bytes_in, next_bytes}
use Rattle.trial_laws.proofs.PhasesKeep.{IsSpoken}

-- ---- what is out, after more entries

-- n more bytes were taken, and more may have been put
pub record Grows (n : ℕ) (old new : Outgoing) : Type 0 where
  pub taken : new.taken ≡ old.taken + n
  pub more : List ℕ
  pub put : new.put.bytes ≡ old.put.bytes ++ more

grows_group : (capacity n : ℕ) (group : Piece) (out : Outgoing) (fit : Bool) →
    fits capacity group (record out { taken = out.taken + n }) ≡ fit →
    Grows n out (with_group capacity group (record out { taken = out.taken + n }))
grows_group capacity n group out true e =
    subst (λ (b : Bool). Grows n out (if b then record out { taken = out.taken + n; put = followed_by out.put group }
    else record out { taken = out.taken + n; choked = true })) (sym e)
    (record { taken = refl; more = group.bytes; put = refl })
grows_group capacity n group out false e =
    subst (λ (b : Bool). Grows n out (if b then record out { taken = out.taken + n; put = followed_by out.put group }
    else record out { taken = out.taken + n; choked = true })) (sym e)
    (record { taken = refl; more = []; put = sym (append-nil out.put.bytes) })

pub entry_grows : (capacity : ℕ) (e : Entry) (older : List Entry) (p : ℕ) →
    Grows (took_at e (past_of older) p) (out_for capacity older p) (out_for capacity (e ∷ older) p)
entry_grows capacity e older p =
    grows_group capacity (took_at e (past_of older) p) (group_at e older p) (out_for capacity older p)
    (fits capacity (group_at e older p) (before_group e older p (out_for capacity older p))) refl

grows_on : (n : ℕ) (a b c : Outgoing) → Grows n a b → Grows 0 b c → Grows n a c
grows_on n a b c g h = record {
  taken = h.taken ∙ ap (λ k. k + 0) g.taken ∙ (let e : (a.taken + n) + 0 ≡ a.taken + n = omega arith in e);
  more = g.more ++ h.more;
  put = h.put ∙ ap (λ (l : List ℕ). l ++ h.more) g.put ∙ append_assoc a.put.bytes g.more h.more;
}

grows_none : (out : Outgoing) → Grows 0 out out
grows_none out = record { taken = omega arith; more = []; put = sym (append-nil out.put.bytes) }

end_grows : (capacity : ℕ) (journal : List Entry) (p : ℕ) (o : Option ℕ) →
    Grows 0 (out_for capacity journal p) (out_for capacity (with_end journal o) p)
end_grows capacity journal p None = grows_none (out_for capacity journal p)
end_grows capacity journal p (Some q) = entry_grows capacity (entries.End q (cause_of journal q)) journal p

settled_grows : (capacity fuel : ℕ) (journal : List Entry) (p : ℕ) →
    Grows 0 (out_for capacity journal p) (out_for capacity (settled capacity fuel journal) p)
settled_grows capacity zero journal p = grows_none (out_for capacity journal p)
settled_grows capacity (suc n) journal p =
    grows_on 0 (out_for capacity journal p) (out_for capacity (with_end journal (due capacity journal)) p)
    (out_for capacity (settled capacity n (with_end journal (due capacity journal))) p)
    (end_grows capacity journal p (due capacity journal))
    (settled_grows capacity n (with_end journal (due capacity journal)) p)

pub step_grows : (capacity : ℕ) (e : Entry) (journal : List Entry) (p : ℕ) →
    Grows (took_at e (past_of journal) p) (out_for capacity journal p)
    (out_for capacity (settle capacity (e ∷ journal)) p)
step_grows capacity e journal p =
    grows_on (took_at e (past_of journal) p) (out_for capacity journal p) (out_for capacity (e ∷ journal) p)
    (out_for capacity (settle capacity (e ∷ journal)) p) (entry_grows capacity e journal p)
    (settled_grows capacity (number_alive (e ∷ journal)) (e ∷ journal) p)

-- ---- who joined

pub end_joined : (P : List Joined → Type 0) (journal : List Entry) (o : Option ℕ) → P (past_of journal).joined →
    P (past_of (with_end journal o)).joined
end_joined P journal None h = h
end_joined P journal (Some q) h = h

pub settled_joined : (P : List Joined → Type 0) (capacity fuel : ℕ) (journal : List Entry) →
    P (past_of journal).joined →
    P (past_of (settled capacity fuel journal)).joined
settled_joined P capacity zero journal h = h
settled_joined P capacity (suc n) journal h =
    settled_joined P capacity n (with_end journal (due capacity journal))
    (end_joined P journal (due capacity journal) h)

-- what holds of who joined holds of them after the ends that follow
pub step_joined : (P : List Joined → Type 0) (capacity : ℕ) (e : Entry) (journal : List Entry) →
    P (with_joined e (length journal + 1) (past_of journal).joined) → P (past_of (settle capacity (e ∷ journal))).joined
step_joined P capacity e journal h = settled_joined P capacity (number_alive (e ∷ journal)) (e ∷ journal) h

pub step_peer : (capacity : ℕ) (e : Entry) (journal : List Entry) (q : ℕ) (peer : Joined) →
    peer_at (past_of journal) q ≡ Some peer → peer_at (past_of (settle capacity (e ∷ journal))) q ≡ Some peer
step_peer capacity e journal q peer h =
    step_joined (λ joined. peer_in joined q ≡ Some peer) capacity e journal
    (joined_stays e (length journal + 1) (past_of journal).joined q peer h)

-- ---- what an entry takes

pub spoken_takes : (e : Entry) → IsSpoken e → (past : Past) (p : ℕ) → took_at e past p ≡ 0
spoken_takes (entries.Message q id opcode body) s past p = refl
spoken_takes (entries.Shell step) s past p = refl
spoken_takes _ s past p = absurd s

-- a take of the peer itself
pub own_take : (journal : List Entry) (q n : ℕ) (peer : Joined) → peer_at (past_of journal) q ≡ Some peer →
    took_at (entries.Took q n) (past_of journal) peer.label ≡ n
own_take journal q n peer e =
    ap (λ (o : Option Joined). if is_label o peer.label then n else 0) e
    ∙ ap (λ (b : Bool). if b then n else 0) (eq-eqb peer.label peer.label refl)

-- a take of another
pub other_take : (journal : List Entry) (q r n : ℕ) (peer : Joined) → peer_at (past_of journal) r ≡ Some peer →
    (q ≡ r → ⊥) → took_at (entries.Took q n) (past_of journal) peer.label ≡ 0
other_take journal q r n peer e d = by (peer_at (past_of journal) q) refl
  where
    by : (o : Option Joined) → peer_at (past_of journal) q ≡ o → (if is_label o peer.label then n else 0) ≡ 0
    by None f = refl
    by (Some other) f =
        ap (λ (b : Bool). if b then n else 0)
        (ne_eqb other.label peer.label (λ same. d (one_number journal q r other peer f e same)))

-- of a label that is yet to come nothing is taken
pub none_taken_yet : (capacity : ℕ) (journal : List Entry) (p : ℕ) → length journal < p →
    (out_for capacity journal p).taken ≡ 0
none_taken_yet capacity [] p l = refl
none_taken_yet capacity (e ∷ older) p l =
    let g = entry_grows capacity e older p in
    g.taken ∙ ap (λ k. k + took_at e (past_of older) p) (none_taken_yet capacity older p (omega arith))
    ∙ ap (λ k. 0 + k) (takes_none e) ∙ (let z : 0 + 0 ≡ 0 = omega arith in z)
  where
    by : (q n : ℕ) (o : Option Joined) → peer_at (past_of older) q ≡ o → (if is_label o p then n else 0) ≡ 0
    by q n None f = refl
    by q n (Some other) f =
        ap (λ (b : Bool). if b then n else 0)
        (ne_eqb other.label p (λ same. (let w = label_within older q other f in absurd (omega arith))))

    takes_none : (x : Entry) → took_at x (past_of older) p ≡ 0
    takes_none (entries.Took q n) = by q n (peer_at (past_of older) q) refl
    takes_none _ = refl

-- ---- the bytes that were taken

abbrev pub IsWithinPut : Outgoing → Type 0
IsWithinPut out = out.taken ≤ length out.put.bytes

pub still_within : (old new : Outgoing) → Grows 0 old new → IsWithinPut old → IsWithinPut new
still_within old new g w =
    let t = g.taken in
    let l : length new.put.bytes ≡ length old.put.bytes + length g.more = ap length g.put
    ∙ length-append old.put.bytes g.more in
    omega arith

-- what is put leaves them
pub same_taken : (old new : Outgoing) → Grows 0 old new → IsWithinPut old →
    take new.taken new.put.bytes ≡ take old.taken old.put.bytes
same_taken old new g w =
    ap (λ n. take n new.put.bytes) (g.taken ∙ (let z : old.taken + 0 ≡ old.taken = omega arith in z))
    ∙ ap (take old.taken) g.put ∙ take-append-le old.taken old.put.bytes g.more w

pub next_is : (q : ℕ) (b : Broker) (peer : Joined) → peer_at (past_of b.journal) q ≡ Some peer →
    next_bytes q b ≡ take 4096 (stored (out_for b.limits.store b.journal peer.label))
unfolding next_bytes
next_is q b peer e =
    ap (λ (o : Option Joined). take 4096
    (bytes_in (option_map (λ (p : Joined). out_for b.limits.store b.journal p.label) o))) e

-- a take adds the first of what is stored
pub more_taken : (old new : Outgoing) (next : List ℕ) → next ≡ take 4096 (stored old) → Grows (length next) old new →
    IsWithinPut old → IsWithinPut new × (take new.taken new.put.bytes ≡ take old.taken old.put.bytes ++ next)
more_taken old new next e g w =
    let t = g.taken in
    let few : length next ≡ min 4096 (length (stored old)) = ap length e ∙ length-take 4096 (stored old) in
    let rest : length (stored old) ≡ length old.put.bytes - old.taken = length-drop old.taken old.put.bytes in
    let all : length new.put.bytes ≡ length old.put.bytes + length g.more = ap length g.put
    ∙ length-append old.put.bytes g.more in
    let within : old.taken + length next ≤ length old.put.bytes = omega arith in
    let same : take (length next) (stored old) ≡ next =
    ap (λ n. take n (stored old)) few ∙ take_min 4096 (stored old) ∙ sym e in (
      omega arith,
      ap (λ n. take n new.put.bytes) t ∙ ap (take (old.taken + length next)) g.put
          ∙ take-append-le (old.taken + length next) old.put.bytes g.more within
          ∙ take-add old.taken (length next) old.put.bytes
          ∙ ap (λ (l : List ℕ). take old.taken old.put.bytes ++ l) same,
    )
