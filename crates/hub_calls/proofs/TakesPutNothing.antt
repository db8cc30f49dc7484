-- A take puts nothing for anybody, and nobody has to be ended for it
use Rattle.std.proofs.Common.{◌≡◌, ℕ, ◌+◌, ◌-◌, ◌≤◌, Bool, true, List, ◌∷◌, [], length, Option, Some, None, refl, sym, ap, ap₂, ◌∙◌, subst, arith, append-nil, length-drop}
use Rattle.std.specs.Prelude.{◌&&◌, ◌||◌, if◌then◌else◌}
use Rattle.std.proofs.lemmas.Bool.{le-leb, true≢false}
use Rattle.relay_model.specs.declared.act.Act.TheVariants as acts
use Rattle.relay_model.specs.Told.{told}
use Rattle.relay_model.proofs.ActsOrIdle.{history_is}
use Rattle.broker_core.proofs.ActsTell.{says_idle}
use Rattle.broker_model.specs.declared.journal.Entry.{Entry}
use Rattle.broker_model.specs.declared.journal.Entry.TheVariants as entries
use Rattle.broker_model.specs.Groups.{Piece, nothing, followed_by, group_for}
use Rattle.broker_model.specs.Ids.{Joined, log_of, peer_at}
use Rattle.broker_model.specs.Resolve.{only, of_peer, past_of, resolve}
use Rattle.broker_model.specs.Out.{Outgoing, stored, act_at, group_at, with_group, before_group, out_for}
use Rattle.broker_model.specs.Settle.{refused, is_due, due, settle}
use Rattle.broker_model.proofs.LabelsRiseByNumber.{label_within}
use Rattle.broker_model.proofs.SettlingEnds.{due_is, IsSettled, settle_done}
use Rattle.broker_core.proofs.OnlyEndsTakePeers.{peer_kept}

told_none : (q n : ℕ) (older : List Entry) (peer : Joined) → peer_at (past_of older) q ≡ Some peer →
    told (act_at (entries.Took q n) older) (resolve older) ≡ []
told_none q n older peer at =
    ap (λ (o : Option Joined). told (of_peer o (λ p. only (acts.Took p.label n))).act (resolve older)) at
    ∙ sym (says_idle (log_of (past_of older)) (history_is (resolve older)))

group_none : (q n : ℕ) (older : List Entry) (peer : Joined) → peer_at (past_of older) q ≡ Some peer → (p : ℕ) →
    group_at (entries.Took q n) older p ≡ nothing
group_none q n older peer at p =
    ap (group_for (past_of (entries.Took q n ∷ older)).made p) (told_none q n older peer at)

-- the same was put, and the same was left out
record IsSame (old new : Outgoing) : Type 0 where
  put : new.put.bytes ≡ old.put.bytes
  choked : new.choked ≡ old.choked

with_nothing : (capacity : ℕ) (o : Outgoing) → (length o.put.bytes - o.taken) + 0 ≤ capacity →
    IsSame o (with_group capacity nothing o)
with_nothing capacity o few =
    subst (λ (t : Bool). IsSame o (if t then record o { put = followed_by o.put nothing }
    else record o { choked = true })) (sym (le-leb ((length o.put.bytes - o.taken) + 0) capacity few))
    (record { put = append-nil o.put.bytes; choked = refl })

same_out : (capacity q n : ℕ) (older : List Entry) (peer : Joined) → peer_at (past_of older) q ≡ Some peer → (p : ℕ) →
    length (stored (out_for capacity older p)) ≤ capacity →
    IsSame (out_for capacity older p) (out_for capacity (entries.Took q n ∷ older) p)
same_out capacity q n older peer at p few =
    let e : Entry = entries.Took q n in
    let old : Outgoing = out_for capacity older p in
    let mid : Outgoing = before_group e older p old in
    let left = length-drop old.taken old.put.bytes in
    let s = with_nothing capacity mid (omega (arith, few, left)) in
    subst (λ (g : Piece). IsSame old (with_group capacity g mid)) (sym (group_none q n older peer at p))
    (record { put = s.put; choked = s.choked })

-- who isn't due before a take isn't due after it
still_not_due : (capacity q n : ℕ) (older : List Entry) (peer : Joined) → peer_at (past_of older) q ≡ Some peer →
    ((label : ℕ) → length (stored (out_for capacity older label)) ≤ capacity) → (k : ℕ) (x : Joined) →
    peer_at (past_of older) k ≡ Some x →
    is_due capacity (entries.Took q n ∷ older) k x ≡ is_due capacity older k x
still_not_due capacity q n older peer at few k x there =
    let same = same_out capacity q n older peer at x.label (few x.label) in
    ap₂ (λ (a b : Bool). a && (refused older k || b))
    (peer_kept (entries.Took q n) older x.label refl (label_within older k x there)) same.choked

none_due : (capacity q n : ℕ) (older : List Entry) (peer : Joined) → peer_at (past_of older) q ≡ Some peer →
    ((label : ℕ) → length (stored (out_for capacity older label)) ≤ capacity) → IsSettled capacity older →
    (o : Option ℕ) → due capacity (entries.Took q n ∷ older) ≡ o → o ≡ None
none_due capacity q n older peer at few nobody None e = refl
none_due capacity q n older peer at few nobody (Some k) e =
    let d = due_is capacity (entries.Took q n ∷ older) k e in
    absurd (true≢false (sym d.is ∙ still_not_due capacity q n older peer at few k d.peer d.joined
    ∙ nobody.nobody k d.peer d.joined))

-- what was put stays, where as much is stored as stores have room for, and nobody was due
pub puts_nothing : (capacity q n : ℕ) (older : List Entry) (peer : Joined) → peer_at (past_of older) q ≡ Some peer →
    ((label : ℕ) → length (stored (out_for capacity older label)) ≤ capacity) → IsSettled capacity older → (p : ℕ) →
    (out_for capacity (settle capacity (entries.Took q n ∷ older)) p).put.bytes ≡ (out_for capacity older p).put.bytes
puts_nothing capacity q n older peer at few nobody p =
    let J : List Entry = entries.Took q n ∷ older in
    let same = same_out capacity q n older peer at p (few p) in
    ap (λ (journal : List Entry). (out_for capacity journal p).put.bytes)
    (settle_done capacity J (none_due capacity q n older peer at few nobody (due capacity J) refl))
    ∙ same.put
