-- What a step that was taken, or refused, makes of a journal.
use Rattle.std.proofs.Common.{◌≡◌, ℕ, ◌+◌, ◌≤◌, List, ◌∷◌, length, min, Bool, true, false, not, ◌&&◌, ◌||◌, Option, Some, None, refl, sym, ap, subst, ◌∙◌, arith}
use Rattle.std.specs.Prelude.{if◌then◌else◌, option_map, nat_le, nat_lt, ◌==◌, IfSome, IfNone}
use Rattle.std.proofs.lemmas.Bool.{eqb-true, eqb-false, eq-eqb, ne_eqb, lt-leb, le-ltb}
use Rattle.relay_model.specs.declared.act.EndCause.{EndCause}
use Rattle.broker_steps.specs.declared.limits.Limits.{Limits}
use Rattle.broker_steps.specs.declared.stamp.Stamp.{Stamp}
use Rattle.broker_model.specs.declared.journal.Entry.{Entry}
use Rattle.broker_model.specs.declared.journal.Entry.TheVariants as entries
use Rattle.broker_model.specs.Ids.{Joined, peer_at}
use Rattle.broker_model.specs.Limits.{is_end, number_counted, weight_of, weight, is_full}
use Rattle.broker_model.specs.Out.{Outgoing, stored, out_for}
use Rattle.broker_model.specs.Resolve.{past_of}
use Rattle.broker_core.specs.declared.answers.Took.{Took}
use Rattle.broker_core.specs.declared.answers.Took.TheVariants as took
use Rattle.broker_core.specs.Broker as broker
use Rattle.broker_core.specs.Broker.{Broker, kept_in, join_refusal, entry_of, refusal, refusal_if_full, take_refusal, take_refusal_from, nothing_left, IsSaid, IsAccepted, IsBytesUnlessMemory}
use Rattle.broker_core.specs.Stands.{end_of}
use Rattle.broker_core.specs.Taking.{out_at, IsTaken}
use Rattle.broker_core.specs.Reached.{Reached}
use Rattle.broker_core.specs.Broker.{IsWatched}
use Rattle.broker_core.specs.Watched.{Watched}
use Rattle.broker_core.proofs.WatchedSince.{since_none}
use Rattle.program_gen.specs.Room.{HasRoom}
use Rattle.program_gen.specs.Steps.{entered, after_take}

-- a journal with room isn't full

full_by : (ended many heavy : Bool) → many ≡ false → heavy ≡ false → (not ended && (many || heavy)) ≡ false
full_by true many heavy m h = refl
full_by false many heavy m h = (ap (λ (b : Bool). b || heavy) m) ∙ h

pub not_full : (limits : Limits) (journal : List Entry) (e : Entry) → HasRoom limits journal → weight_of e ≤ 4104 →
    is_full limits journal e ≡ false
not_full limits journal e room w =
    let counted = room.counted in
    let light = room.light in
    full_by (is_end e) (nat_le limits.entries (number_counted journal))
    (nat_lt limits.weight (weight journal + weight_of e))
    (lt-leb limits.entries (number_counted journal) (omega arith))
    (le-ltb limits.weight (weight journal + weight_of e) (omega arith))

-- a take

abbrev out_of : Broker → Option Joined → Option Outgoing
out_of b o = option_map (λ (peer : Joined). out_for b.limits.store b.journal peer.label) o

abbrev left_by : Broker → ℕ → ℕ → Bool → List Entry
left_by b q m t = (if t then b.journal else entered b.limits.store (entries.Took q m) b.journal)

-- nothing was taken, and the journal isn't full for it
abbrev pub IsNothing : Took → Type 0
IsNothing took.NoPeer = Unit {0}
IsNothing took.Closed = Unit {0}
IsNothing took.Empty = Unit {0}
IsNothing _ = ⊥

-- nothing is there to be taken, or something is and it was taken unless memory was short
pub data TakeCase (b : Broker) (q n : ℕ) (o : Option Joined) (r : Took) : Type 0 where
  nothing : IsNothing r → after_take b.limits.store q n b.journal o ≡ b.journal → TakeCase b q n o r
  something : IsBytesUnlessMemory r → (peer : Joined) → o ≡ Some peer →
      (length (stored (out_for b.limits.store b.journal peer.label)) == 0) ≡ false → TakeCase b q n o r

left_is : (o : Option EndCause) → IsNothing (nothing_left o)
left_is None = tt
left_is (Some cause) = tt

abbrev refusal_by : Broker → ℕ → Bool → Bool → Option Took
refusal_by b q none full = (if none then Some (nothing_left (end_of b.journal q)) else option_map
    (λ k. took.JournalFull k) (if full then Some (kept_in b.journal) else None))

case_by : (b : Broker) (q n : ℕ) (peer : Joined) (r : Took) (none full : Bool) →
    (length (stored (out_for b.limits.store b.journal peer.label)) == 0) ≡ none → full ≡ false →
    IfSome (refusal_by b q none full) (λ why. r ≡ why) →
    IfNone (refusal_by b q none full) (IsBytesUnlessMemory r) → TakeCase b q n (Some peer) r
case_by b q n peer r true full e f s a =
    let empty : length (stored (out_for b.limits.store b.journal peer.label)) ≡ 0 = eqb-true _ 0 e in
    let few : min n (length (stored (out_for b.limits.store b.journal peer.label))) ≡ 0 = omega arith in
    nothing (subst IsNothing (sym s) (left_is (end_of b.journal q)))
    (ap (left_by b q (min n (length (stored (out_for b.limits.store b.journal peer.label))))) (eq-eqb _ 0 few))
case_by b q n peer r false true e f s a = (let no = f in cc)
case_by b q n peer r false false e f s a = something a peer refl e

case_of : (b : Broker) (q n : ℕ) (o : Option Joined) (r : Took) → HasRoom b.limits b.journal →
    IfSome (take_refusal_from b q (out_of b o)) (λ why. r ≡ why) →
    IfNone (take_refusal_from b q (out_of b o)) (IsBytesUnlessMemory r) → TakeCase b q n o r
case_of b q n None r room s a = nothing (subst IsNothing (sym s) tt) refl
case_of b q n (Some peer) r room s a =
    case_by b q n peer r (length (stored (out_for b.limits.store b.journal peer.label)) == 0)
    (is_full b.limits b.journal (entries.Took q 0)) refl
    (not_full b.limits b.journal (entries.Took q 0) room (omega arith)) s a

pub take_case : (b : Broker) (q n : ℕ) (r : Took) → HasRoom b.limits b.journal →
    IfSome (take_refusal b q) (λ why. r ≡ why) →
    IfNone (take_refusal b q) (IsBytesUnlessMemory r) → TakeCase b q n (peer_at (past_of b.journal) q) r
take_case b q n r room s a = case_of b q n (peer_at (past_of b.journal) q) r room s a

-- a state with the limits of another and this journal
pub same_broker : (after b : Broker) (journal : List Entry) → after.limits ≡ b.limits → after.journal ≡ journal →
    after ≡ record after { limits = b.limits; journal = journal }
same_broker after b journal l j =
    ap (λ (x : Limits). record after { limits = x }) l
    ∙ ap (λ (x : List Entry). record after { limits = b.limits; journal = x }) j

-- bytes were taken

bytes_by : (stamp : Stamp) (b after : Broker) (q n k t : ℕ) (buf places buf_after places_after : List ℕ)
    (o : Option Joined) (r : Took) →
    1 ≤ n → length buf ≡ n → r ≡ took.Bytes k t → TakeCase b q n o r →
    IfSome (out_of b o) (λ out. IsTaken out b.journal q buf places (k, t) buf_after places_after
    (entries.Took q k ∷ b.journal)) → after ≡ broker.with_step (entries.Took q k) stamp b →
    after ≡ record after { limits = b.limits; journal = after_take b.limits.store q n b.journal o }
bytes_by stamp b after q n k t buf places buf_after places_after o r l len e (nothing i same) h a =
    absurd (subst IsNothing e i)
bytes_by stamp b after q n k t buf places buf_after places_after None r l len e (something i peer p none) h a = cc
bytes_by stamp b after q n k t buf places buf_after places_after (Some other) r l len e (something i peer p none) h a =
    let all : ℕ = length (stored (out_for b.limits.store b.journal other.label)) in
    let some : (all == 0) ≡ false =
    subst (λ (x : Option Joined). IfSome x
    (λ (y : Joined). (length (stored (out_for b.limits.store b.journal y.label)) == 0) ≡ false)) (sym p) none in
    let there : all ≡ 0 → ⊥ = eqb-false all 0 some in
    let count : k ≡ min n all = h.count ∙ ap (λ m. min m all) len in
    let few : (min n all == 0) ≡ false = ne_eqb (min n all) 0 (λ z. there (omega arith)) in
    same_broker after b (after_take b.limits.store q n b.journal (Some other)) (ap (λ (x : Broker). x.limits) a)
    (ap (λ (x : Broker). x.journal) a ∙ ap (λ m. entered b.limits.store (entries.Took q m) b.journal) count
    ∙ sym (ap (left_by b q (min n all)) few))

pub bytes_taken : (stamp : Stamp) (b after : Broker) (q n k t : ℕ) (buf places buf_after places_after : List ℕ)
    (r : Took) →
    1 ≤ n → length buf ≡ n → r ≡ took.Bytes k t → HasRoom b.limits b.journal →
    IfSome (take_refusal b q) (λ why. r ≡ why) →
    IfNone (take_refusal b q) (IsBytesUnlessMemory r) →
    IfSome (out_at b.limits.store b.journal q) (λ out. IsTaken out b.journal q buf places (k, t) buf_after places_after
    (entries.Took q k ∷ b.journal)) → after ≡ broker.with_step (entries.Took q k) stamp b →
    after ≡ record after {
      limits = b.limits;
      journal = after_take b.limits.store q n b.journal (peer_at (past_of b.journal) q);
    }
bytes_taken stamp b after q n k t buf places buf_after places_after r l len e room s a h is =
    bytes_by stamp b after q n k t buf places buf_after places_after (peer_at (past_of b.journal) q) r l len e
    (take_case b q n r room s a) h is

-- who watched nothing is as before
pub none_watched : {W : Type 0} (R : W → Watched → W → Type 0) (b : Broker) (w : W) → IsWatched R b w b w
none_watched R b w =
    subst (λ (events : List Watched). Reached R w events w) (sym (since_none b.limits.store b.journal)) refl
