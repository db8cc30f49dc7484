-- A peer that sent a header with a bad size is not alive once the ends that follow have come.
use Rattle.std.proofs.Common.{◌≡◌, ℕ, zero, suc, List, ◌∷◌, Bool, true, false, Option, Some, None, refl, ap, ◌∙◌, arith}
use Rattle.std.specs.Prelude.{◌&&◌, ◌||◌, if◌then◌else◌}
use Rattle.std.proofs.lemmas.Bool.{eq-eqb}
use Rattle.relay_model.specs.Objects.{is_peer}
use Rattle.broker_model.specs.declared.journal.Entry.{Entry}
use Rattle.broker_model.specs.declared.journal.Entry.TheVariants as entries
use Rattle.broker_model.specs.Ids.{Joined, log_of, peer_at}
use Rattle.relay_model.specs.declared.fault.Fault.TheVariants as fault
use Rattle.broker_model.specs.Resolve.{of_peer, refused_for, past_of}
use Rattle.broker_model.specs.Out.{act_at, out_for}
use Rattle.broker_model.specs.Settle.{is_bad, refused, due, cause_of, with_end, settled, number_alive, settle}
use Rattle.broker_model.proofs.SettlingEnds.{IsSettled, settles}
use Rattle.broker_core.specs.Taking.{lives_in, lives}
use Rattle.seat_set.proofs.LivesBefore.{IsAlive, is_alive}

refused_by : (capacity fuel : ℕ) (journal : List Entry) (q : ℕ) (o : Option ℕ) →
    ((later : List Entry) → refused (settled capacity fuel later) q ≡ refused later q) →
    refused (settled capacity fuel (with_end journal o)) q ≡ refused journal q
refused_by capacity fuel journal q None f = f journal
refused_by capacity fuel journal q (Some k) f = f (entries.End k (cause_of journal k) ∷ journal)

-- ends say nothing of messages
refused_settled : (capacity fuel : ℕ) (journal : List Entry) (q : ℕ) →
    refused (settled capacity fuel journal) q ≡ refused journal q
refused_settled capacity zero journal q = refl
refused_settled capacity (suc fuel) journal q =
    refused_by capacity fuel journal q (due capacity journal) (λ later. refused_settled capacity fuel later q)

bad_by : (q : ℕ) (head : List ℕ) (older : List Entry) (peer : Joined) → peer_at (past_of older) q ≡ Some peer →
    is_bad (act_at (entries.BadSize q head) older) ≡ true
bad_by q head older peer e =
    ap (λ (o : Option Joined). is_bad (of_peer o (λ p. refused_for p.label p.label fault.Size)).act) e

bad_size_refused : (q : ℕ) (head : List ℕ) (older : List Entry) → lives older q ≡ true →
    refused (entries.BadSize q head ∷ older) q ≡ true
bad_size_refused q head older h =
    let a : IsAlive older q = is_alive older q h in
    ap (λ (b : Bool). (if b then is_bad (act_at (entries.BadSize q head) older) else refused older q)) (eq-eqb q q refl)
    ∙ bad_by q head older a.peer a.joined

left_false : (a b c : Bool) → b ≡ true → (a && (b || c)) ≡ false → a ≡ false
left_false a true c e h = by a h
  where
    by : (d : Bool) → (d && true) ≡ false → d ≡ false
    by true k = k
    by false k = refl
left_false a false c e h = cc

dead_by : (capacity : ℕ) (journal : List Entry) (q : ℕ) (o : Option Joined) → IsSettled capacity journal →
    peer_at (past_of journal) q ≡ o →
    refused journal q ≡ true → lives_in journal o ≡ false
dead_by capacity journal q None s e r = refl
dead_by capacity journal q (Some peer) s e r =
    left_false (is_peer (log_of (past_of journal)) peer.label) (refused journal q)
    (out_for capacity journal peer.label).choked r (s.nobody q peer e)

pub dead_after : (capacity q : ℕ) (head : List ℕ) (older : List Entry) → lives older q ≡ true →
    lives (settle capacity (entries.BadSize q head ∷ older)) q ≡ false
dead_after capacity q head older h =
    let journal : List Entry = entries.BadSize q head ∷ older in
    let after : List Entry = settle capacity journal in
    dead_by capacity after q (peer_at (past_of after) q) (settles capacity (number_alive journal) journal (omega arith))
    refl
    (refused_settled capacity (number_alive journal) journal q ∙ bad_size_refused q head older h)
