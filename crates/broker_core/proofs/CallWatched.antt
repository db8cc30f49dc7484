-- Who watches a call is told of the entries that the journal has since: of the step's, and of the ends that follow from
-- it.
use Rattle.std.proofs.Common.{◌≡◌, ℕ, ◌≤◌, List, ◌∷◌, length, ap, refl, sym, subst, arith}
use Rattle.broker_steps.specs.declared.limits.Limits.{Limits}
use Rattle.relay_objects.specs.Reached.{Reached}
use Rattle.broker_model.specs.declared.journal.Entry.{Entry}
use Rattle.broker_core.specs.declared.state.State.{State}
use Rattle.broker_core.specs.Broker.{Broker, IsBroker, IsWatched, gone}
use Rattle.broker_core.specs.Watched.{Watched, watched, watched_since}
use Rattle.broker_core.proofs.SharedAfterStep.{shown, shows_as}
use Rattle.broker_core.proofs.WatchedSince.{since_none, reached_more}

-- nothing is watched where the journal has no entry more

pub nothing_watched : {W : Type 0} (R : W → Watched → W → Type 0) (b : Broker) (w : W) → IsWatched R b w b w
nothing_watched R b w =
    subst (λ (events : List Watched). Reached R w events w) (sym (since_none b.limits.store b.journal)) refl

pub refused_watched : {W : Type 0} (R : W → Watched → W → Type 0) (limits : Limits) (b : Broker) (s t : State)
    (w after : W) →
    shown limits s ≡ b → t.journal.entries ≡ s.journal.entries → t.stamps.stamps ≡ s.stamps.stamps → gone t ≡ gone s →
    after ≡ w →
    IsWatched R b w (shown limits t) after
refused_watched R limits b s t w after v j k g stays =
    subst (λ (x : _). IsWatched R b w (shown limits t) x) (sym stays)
    (subst (λ (x : Broker). IsWatched R b w x w) (sym (shows_as limits b s t v j k g)) (nothing_watched R b w))

-- a step, and the ends that follow

-- who watched up to this state watches up to that one
abbrev pub WatchesOn : {W : Type 0} → (W → Watched → W → Type 0) → (s t : State) → (before after : W) → Type 0
WatchesOn {W} R s t before after =
    (k : ℕ) (from : W) → k ≤ length s.journal.entries →
    Reached R from (watched_since s.capacity k s.journal.entries) before →
    Reached R from (watched_since s.capacity k t.journal.entries) after

step_watched : {W : Type 0} (R : W → Watched → W → Type 0) (e : Entry) (s m t : State) (w mid after : W) →
    m.capacity ≡ s.capacity →
    m.journal.entries ≡ e ∷ s.journal.entries → Reached R w (watched s.capacity e s.journal.entries) mid →
    WatchesOn R m t mid after →
    Reached R w (watched_since s.capacity (length s.journal.entries) t.journal.entries) after
step_watched R e s m t w mid after c j entered on =
    let k = length s.journal.entries in
    let long : length m.journal.entries ≡ length (e ∷ s.journal.entries) = ap length j in
    let begun : Reached R w (watched_since s.capacity k s.journal.entries) w =
    subst (λ (events : List Watched). Reached R w events w) (sym (since_none s.capacity s.journal.entries)) refl in
    let one : Reached R w (watched_since s.capacity k (e ∷ s.journal.entries)) mid =
    reached_more R s.capacity k e s.journal.entries w w mid (omega arith) begun entered in
    let here : Reached R w (watched_since m.capacity k m.journal.entries) mid =
    subst (λ (n : ℕ). Reached R w (watched_since n k m.journal.entries) mid) (sym c)
    (subst (λ (journal : List Entry). Reached R w (watched_since s.capacity k journal) mid) (sym j) one) in
    subst (λ (n : ℕ). Reached R w (watched_since n k t.journal.entries) after) c (on k w (omega arith) here)

pub call_watched : {W : Type 0} (R : W → Watched → W → Type 0) (limits : Limits) (e : Entry) (b : Broker)
    (s m t : State) (w mid after : W) →
    shown limits s ≡ b → IsBroker limits s → m.capacity ≡ s.capacity → m.journal.entries ≡ e ∷ s.journal.entries →
    Reached R w (watched s.capacity e s.journal.entries) mid → WatchesOn R m t mid after →
    IsWatched R b w (shown limits t) after
call_watched R limits e b s m t w mid after v i c j entered on =
    subst (λ (x : Broker). IsWatched R x w (shown limits t) after) v
    (subst (λ (n : ℕ). Reached R w (watched_since n (length s.journal.entries) t.journal.entries) after) i.capacity
    (step_watched R e s m t w mid after c j entered on))
