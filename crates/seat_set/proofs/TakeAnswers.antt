-- What a take that was taken, or refused, makes of what is played.
use Rattle.std.proofs.Common.{◌≡◌, ℕ, ◌≤◌, List, ◌∷◌, length, min, Bool, true, false, Option, Some, None, Ok, refl, sym, ap, subst, ◌∙◌, arith}
use Rattle.std.specs.Prelude.{if◌then◌else◌, option_map, ◌==◌, IfSome}
use Rattle.std.proofs.lemmas.Bool.{eq-eqb, ne_eqb}
use Rattle.relay_model.specs.declared.act.EndCause.{EndCause}
use Rattle.broker_steps.specs.declared.limits.Limits.{Limits}
use Rattle.broker_model.specs.declared.journal.Entry.TheVariants as entries
use Rattle.broker_model.specs.Ids.{Joined, peer_at}
use Rattle.broker_model.specs.Limits.{is_full}
use Rattle.broker_model.specs.Out.{Outgoing, stored, out_for}
use Rattle.broker_model.specs.Resolve.{past_of}
use Rattle.broker_core.specs.declared.answers.Took.{Took}
use Rattle.broker_core.specs.declared.answers.Took.TheVariants as took
use Rattle.broker_core.specs.Broker.{Broker, kept_in, nothing_left, take_refusal_from, take_refusal}
use Rattle.broker_core.specs.Stands.{end_of}
use Rattle.broker_core.specs.Taking.{out_at, IsTaken}
use Rattle.seat_set.specs.Played.{Play, Played, Waiting, went, with_step, step_played, take_played}
use Rattle.seat_set.specs.Playing.{IsPlayed, IsEnough}
use Rattle.seat_set.proofs.StepAnswers.{played_ok}

-- what the session has played, beside the unread bytes
abbrev play_in : Broker → List Waiting → Play
play_in b unread = record { journal = b.journal; unread = unread }

abbrev out_of : Broker → Option Joined → Option Outgoing
out_of b o = option_map (λ (peer : Joined). out_for b.limits.store b.journal peer.label) o

-- nothing was taken, and the journal wasn't full for it
abbrev pub IsNothing : Took → Type 0
IsNothing took.NoPeer = Unit {0}
IsNothing took.Closed = Unit {0}
IsNothing took.Empty = Unit {0}
IsNothing _ = ⊥

abbrev nothing_by : Limits → ℕ → Play → ℕ → Bool → Played
nothing_by limits q play m t = (if t then went play else step_played limits (entries.Took q m) play)

-- by whether something is stored, and whether the journal is full
abbrev refusal_by : Broker → ℕ → Bool → Bool → Option Took
refusal_by b q none full = (if none then Some (nothing_left (end_of b.journal q)) else option_map
    (λ k. took.JournalFull k) (if full then Some (kept_in b.journal) else None))

left_is : (o : Option EndCause) → IsNothing (nothing_left o)
left_is None = tt
left_is (Some cause) = tt

-- where something is stored and at least one byte is asked for, an entry says how much was taken

some_peer : (b : Broker) (unread : List Waiting) (q n : ℕ) (peer : Joined) → 1 ≤ n →
    (length (stored (out_for b.limits.store b.journal peer.label)) == 0) ≡ false →
    take_played b.limits q n (play_in b unread) (Some peer)
    ≡ step_played b.limits (entries.Took q (min n (length (stored (out_for b.limits.store b.journal peer.label)))))
    (play_in b unread)
some_peer b unread q n peer l e =
    let all : ℕ = length (stored (out_for b.limits.store b.journal peer.label)) in
    let some : all ≡ 0 → ⊥ = λ z. (let no = sym (eq-eqb all 0 z) ∙ e in cc) in
    ap (nothing_by b.limits q (play_in b unread) (min n all)) (ne_eqb (min n all) 0 (λ z. some (omega arith)))

-- bytes were taken

bytes_peer : (b : Broker) (unread : List Waiting) (q n k t : ℕ) (peer : Joined) (r : Took) (after : Play)
    (none full : Bool) → 1 ≤ n → r ≡ took.Bytes k t →
    (length (stored (out_for b.limits.store b.journal peer.label)) == 0) ≡ none →
    is_full b.limits b.journal (entries.Took q 0) ≡ full →
    IfSome (refusal_by b q none full) (λ why. r ≡ why) → k ≡ min n
    (length (stored (out_for b.limits.store b.journal peer.label))) →
    after ≡ with_step b.limits (entries.Took q k) (play_in b unread) →
    IsPlayed (take_played b.limits q n (play_in b unread) (Some peer)) (Ok tt) after
bytes_peer b unread q n k t peer r after true full l j e f s c h = absurd
    (subst IsNothing (sym s ∙ j) (left_is (end_of b.journal q)))
bytes_peer b unread q n k t peer r after false true l j e f s c h = (let no = sym j ∙ s in cc)
bytes_peer b unread q n k t peer r after false false l j e f s c h =
    let m : ℕ = min n (length (stored (out_for b.limits.store b.journal peer.label))) in
    subst (λ (p : Played). IsPlayed p (Ok tt) after) (sym (some_peer b unread q n peer l e))
    (played_ok b.limits (entries.Took q m) (play_in b unread) after f
    (h ∙ ap (λ i. with_step b.limits (entries.Took q i) (play_in b unread)) c))

bytes_by_peer : (b : Broker) (unread : List Waiting) (q n k t : ℕ) (buf places buf_after places_after : List ℕ)
    (o : Option Joined) (r : Took) (after : Play) →
    1 ≤ n → IfSome (out_of b o) (IsEnough (length buf) n) → r ≡ took.Bytes k t →
    IfSome (take_refusal_from b q (out_of b o)) (λ why. r ≡ why) →
    IfSome (out_of b o) (λ out. IsTaken out b.journal q buf places (k, t) buf_after places_after
    (entries.Took q k ∷ b.journal)) →
    after ≡ with_step b.limits (entries.Took q k) (play_in b unread) →
    IsPlayed (take_played b.limits q n (play_in b unread) o) (Ok tt) after
bytes_by_peer b unread q n k t buf places buf_after places_after None r after l len j s i h = (let no = sym j ∙ s in cc)
bytes_by_peer b unread q n k t buf places buf_after places_after (Some peer) r after l len j s i h =
    bytes_peer b unread q n k t peer r after (length (stored (out_for b.limits.store b.journal peer.label)) == 0)
    (is_full b.limits b.journal (entries.Took q 0)) l j refl refl s
    (i.count ∙ len) h

pub bytes_taken : (b : Broker) (unread : List Waiting) (q n k t : ℕ) (buf places buf_after places_after : List ℕ)
    (r : Took) (after : Play) →
    1 ≤ n → IfSome (out_at b.limits.store b.journal q) (IsEnough (length buf) n) → r ≡ took.Bytes k t →
    IfSome (take_refusal b q) (λ why. r ≡ why) →
    IfSome (out_at b.limits.store b.journal q) (λ out. IsTaken out b.journal q buf places (k, t) buf_after places_after
    (entries.Took q k ∷ b.journal)) →
    after ≡ with_step b.limits (entries.Took q k) (play_in b unread) →
    IsPlayed (take_played b.limits q n (play_in b unread) (peer_at (past_of b.journal) q)) (Ok tt) after
bytes_taken b unread q n k t buf places buf_after places_after r after l len j s i h =
    bytes_by_peer b unread q n k t buf places buf_after places_after (peer_at (past_of b.journal) q) r after l len j s i
    h
