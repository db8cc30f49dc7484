-- Each live peer has its unread bytes after a step, too.
use Rattle.std.proofs.Common.{◌≡◌, ℕ, ◌+◌, ◌<◌, ◌≤◌, List, [], ◌∷◌, ◌++◌, length, map, true, Result, Ok, Err, refl, sym, ap, subst, ◌∙◌, arith, length-append, inl, inr, ◌⊎◌}
use Rattle.std.specs.Prelude.{filter, OnErr, is_ok}
use Rattle.std.proofs.lemmas.Bool.{eq-eqb}
use Rattle.std.proofs.lemmas.List.{map-append}
use Rattle.relay_model.specs.declared.role.Role.{Role}
use Rattle.broker_steps.specs.declared.step.Step.{Step}
use Rattle.broker_steps.specs.declared.step.Step.TheVariants as steps
use Rattle.broker_steps.specs.declared.step.PeerStep.TheVariants as peers
use Rattle.relay_model.specs.declared.act.EndCause.TheVariants.{Gone}
use Rattle.broker_model.specs.declared.journal.Entry.{Entry}
use Rattle.broker_model.specs.declared.journal.Entry.TheVariants as entries
use Rattle.broker_model.specs.Resolve.{past_of}
use Rattle.broker_model.specs.Settle.{settle}
use Rattle.broker_core.specs.Broker.{entry_of, IsSaid}
use Rattle.broker_core.specs.Taking.{lives}
use Rattle.broker_core.proofs.AliveAfterEntry.{same_settled}
use Rattle.seat_set.specs.declared.unread.Unread.{Unread}
use Rattle.seat_set.specs.Played.{Waiting}
use Rattle.seat_set.specs.Playing.{IsThere, is_waiting, AreWaiting}
use Rattle.seat_set.specs.Unread.{waiting}
use Rattle.seat_set.proofs.LivesBefore.{lives_same, lives_end, lives_settle, lives_join}
use Rattle.seat_set.proofs.UnreadLists.{waiting_kept, waiting_more, waiting_last}
use Rattle.seat_set.proofs.UnreadPlaces.{given_back}

-- who is alive afterwards was alive before
abbrev pub NoMoreLive : List Entry → List Entry → Type 0
NoMoreLive before after = (q : ℕ) → lives after q ≡ true → lives before q ≡ true

pub said_before : (capacity : ℕ) (step : Step) (journal : List Entry) → IsSaid step → IsThere step journal →
    NoMoreLive journal (settle capacity (entry_of step ∷ journal))
said_before capacity (steps.Join role) journal s t q h = absurd s
said_before capacity (steps.Peer k (peers.Message id opcode body)) journal s t q h =
    lives_same (entries.Message k id opcode body) journal q refl refl
    (lives_settle capacity (entries.Message k id opcode body ∷ journal) q h)
said_before capacity (steps.Peer k (peers.BadSize head)) journal s t q h =
    lives_same (entries.BadSize k head) journal q refl refl (lives_settle capacity (entries.BadSize k head ∷ journal) q
    h)
said_before capacity (steps.Peer k (peers.Tokens tokens)) journal s t q h =
    lives_same (entries.Tokens k tokens) journal q refl refl
    (lives_settle capacity (entries.Tokens k tokens ∷ journal) q h)
said_before capacity (steps.Peer k peers.Gone) journal s t q h =
    lives_end k Gone journal q t.1 (lives_settle capacity (entries.End k Gone ∷ journal) q h)
said_before capacity (steps.Shell step) journal s t q h =
    lives_same (entries.Shell step) journal q refl refl (lives_settle capacity (entries.Shell step ∷ journal) q h)
said_before capacity (steps.Take k n) journal s t q h = absurd s

pub took_before : (capacity k n : ℕ) (journal : List Entry) →
    NoMoreLive journal (settle capacity (entries.Took k n ∷ journal))
took_before capacity k n journal q h =
    lives_same (entries.Took k n) journal q refl refl (lives_settle capacity (entries.Took k n ∷ journal) q h)

pub stays_waiting : (before after : List Entry) (was now : List Unread) → AreWaiting before (map waiting was) →
    NoMoreLive before after →
    now ≡ filter (λ u. lives after u.number) was → AreWaiting after (map waiting now)
stays_waiting before after was now w n f q h =
    subst (λ (ws : List Waiting). is_waiting q ws ≡ true) (sym (given_back after was now f))
    (waiting_kept after q (map waiting was) h (w q (n q h)))

-- one more joined

pub joined_more : (capacity : ℕ) (role : Role) (journal : List Entry) →
    length (past_of (settle capacity (entries.Join role ∷ journal))).joined ≡ length (past_of journal).joined + 1
joined_more capacity role journal =
    ap length (same_settled capacity (entries.Join role ∷ journal)).joined
    ∙ length-append (past_of journal).joined (record { label = length journal + 1; role = role } ∷ [])

join_has : (journal : List Entry) (unread : List Waiting) (w : Waiting) (q : ℕ) →
    w.number ≡ length (past_of journal).joined + 1 → AreWaiting journal unread →
    (lives journal q ≡ true) ⊎ (q ≡ length (past_of journal).joined + 1) → is_waiting q (unread ++ w ∷ []) ≡ true
join_has journal unread w q n a (inl l) = waiting_more q unread (w ∷ []) (a q l)
join_has journal unread w q n a (inr e) = waiting_last w q unread (eq-eqb w.number q (n ∙ sym e))

pub join_waiting : (capacity : ℕ) (role : Role) (journal after : List Entry) (was now : List Unread) (u : Unread) →
    AreWaiting journal (map waiting was) →
    after ≡ settle capacity (entries.Join role ∷ journal) → u.number ≡ length (past_of after).joined →
    now ≡ filter (λ x. lives after x.number) (was ++ u ∷ []) → AreWaiting after (map waiting now)
join_waiting capacity role journal after was now u a e n f q h =
    let number : u.number ≡ length (past_of journal).joined + 1 =
    n ∙ ap (λ (l : List Entry). length (past_of l).joined) e ∙ joined_more capacity role journal in
    let old = lives_join role journal q (lives_settle capacity (entries.Join role ∷ journal) q
    (ap (λ (l : List Entry). lives l q) (sym e) ∙ h)) in
    let has : is_waiting q (map waiting (was ++ u ∷ [])) ≡ true =
    ap (is_waiting q) (map-append waiting was (u ∷ [])) ∙ join_has journal (map waiting was) (waiting u) q number a old
    in
    subst (λ (ws : List Waiting). is_waiting q ws ≡ true) (sym (given_back after (was ++ u ∷ []) now f))
    (waiting_kept after q (map waiting (was ++ u ∷ [])) h has)

-- room was made, so it was put
pub is_put : {T : Type 0} {E : Type 0} (r : Result T E) (most there : ℕ) → OnErr r (most ≤ there) → there < most →
    is_ok r ≡ true
is_put (Ok x) most there h l = refl
is_put (Err e) most there h l = absurd (omega arith)
