-- While a method serves, an activation stands exactly while a field holds the seat.
use Rattle.std.proofs.Common.{◌≡◌, ℕ, ◌+◌, List, [], ◌∷◌, length, Bool, true, false, Option, Some, None, ap, refl, sym, ◌∙◌, arith}
use Rattle.std.specs.Prelude.{if◌then◌else◌, ◌&&◌, ◌||◌, is_some, is_none}
use Rattle.std.proofs.lemmas.Bool.{true≢false}
use Rattle.relay_model.specs.declared.act.Act.{Act}
use Rattle.relay_model.specs.declared.act.Act.TheVariants.{Method, Commit}
use Rattle.relay_model.specs.declared.act.Word.{Word}
use Rattle.relay_model.specs.Objects.{next, is_at}
use Rattle.relay_model.specs.Focus.{where_alive}
use Rattle.relay_model.specs.Hold.{word, begins_hold, ends, holder}
use Rattle.relay_model.specs.Activation.{Notice, Activates, Updates, Deactivates, serving, makes_serving, updates, notice, begun_by, begun_for, begun_of, begun}
use Rattle.relay_model.specs.Idle.{history}
use Rattle.relay_model.proofs.ActsOrIdle.{IsHistory, history_is}
use Rattle.relay_model.proofs.FocusLaws.{IsSteady}
use Rattle.relay_model.proofs.HoldLaws.{kept_same, holder_committed}
use Rattle.relay_model.proofs.ActivationLaws.{begun_step, begun_beyond}

method_steady : (p : ℕ) → IsSteady (Method p)
method_steady p = record { keeps = λ x o. refl; last = λ log. refl; since = λ log. refl }

left_alive : (log : List Act) (o : Option ℕ) (m : ℕ) → where_alive log o ≡ Some m → o ≡ Some m
left_alive log None m e = cc
left_alive log (Some t) m e = at _ t m e
  where
    at : (b : Bool) (t m : ℕ) → (if b then Some t else None) ≡ Some m → Some t ≡ Some m
    at true t m e = e
    at false t m e = cc

-- after an act that says this of the hold
abbrev Agree : Option Notice → ℕ → Option ℕ → Option ℕ → Type 0
Agree o n begun held = is_some (begun_by n o begun) ≡ is_some held

-- the holder after an act that begins a hold
begins_holds : (act : Act) (older : List Act) → begins_hold act older ≡ true → is_some (holder (act ∷ older)) ≡ true
begins_holds (Commit f) older e = rw e refl
begins_holds _ older e = cc

-- an update leaves the holder
updates_holds : (act : Act) (older : List Act) → IsHistory older → updates act older ≡ true →
    holder (act ∷ older) ≡ holder older
updates_holds (Commit f) older i e = by (word older f) refl e
  where
    and_false : (b : Bool) → (b && false) ≡ true → true ≡ false
    and_false true e = sym e
    and_false false e = sym e

    by : (w : Option Word) → word older f ≡ w → (is_at (holder older) f && is_none w) ≡ true →
        holder (Commit f ∷ older) ≡ holder older
    by None k e = holder_committed older f i ∙ rw k refl
    by (Some w) k e = absurd (true≢false (and_false (is_at (holder older) f) e))
updates_holds _ older i e = cc

-- nobody holds after an act that begins no hold, where nobody held
ends_none : (act : Act) (older : List Act) → ends act older None ≡ false
ends_none (Commit f) older = refl
ends_none _ older = refl

none_holds : (act : Act) (older : List Act) → begins_hold act older ≡ false → holder older ≡ None →
    holder (act ∷ older) ≡ None
none_holds act older b e = rw (e, b, ends_none act older) refl

-- what the act says of the hold, by what it does
said : (act : Act) (older : List Act) (n : ℕ) (begun : Option ℕ) (b u : Bool) (held now : Option ℕ) →
    is_some begun ≡ is_some held →
    (b ≡ true → is_some now ≡ true) → (u ≡ true → is_some now ≡ is_some held) →
    (b ≡ false → held ≡ None → now ≡ None) →
    Agree (if b then Some Activates else (if u then Some Updates
    else (if is_some held && is_none now then Some Deactivates else None))) n begun now
said act older n begun true u held now k p q r = sym (p refl)
said act older n begun false true held now k p q r = k ∙ sym (q refl)
said act older n begun false false None now k p q r = k ∙ ap is_some (sym (r refl refl))
said act older n begun false false (Some h) None k p q r = refl
said act older n begun false false (Some h) (Some g) k p q r = k

or_left : (b : Bool) → (b || false) ≡ b
or_left true = refl
or_left false = refl

-- what holds after an act whose method served before
kept_step : (act : Act) (older : List Act) (m : ℕ) → IsHistory older → makes_serving act older ≡ false →
    is_some (begun_for older m) ≡ is_some (holder older) →
    Agree (notice act older) (length older + 1) (begun_for older m) (holder (act ∷ older))
kept_step act older m i f k =
    rw (f, or_left (begins_hold act older))
    (said act older (length older + 1) (begun_for older m) (begins_hold act older) (updates act older) (holder older)
    (holder (act ∷ older)) k (begins_holds act older) (λ u. ap is_some (updates_holds act older i u))
    (none_holds act older))

-- a method that comes while none serves
made_step : (p : ℕ) (older : List Act) (m : ℕ) (b : Bool) → IsHistory older → serving older ≡ None →
    length older + 1 ≡ m → is_some (holder older) ≡ b →
    Agree (notice (Method p) older) (length older + 1) (begun_for older m) (holder (Method p ∷ older))
made_step p older m true i s l h =
    let same : holder (Method p ∷ older) ≡ holder older = kept_same (Method p) older i (method_steady p) in
    rw (same, s, h) refl
made_step p older m false i s l h =
    let same : holder (Method p ∷ older) ≡ holder older = kept_same (Method p) older i (method_steady p) in
    let none : begun_for older m ≡ None = begun_beyond older m (omega arith) in
    rw (same, s, h, none) refl

method_step : (p : ℕ) (older : List Act) (m : ℕ) (o : Option ℕ) → serving older ≡ o → IsHistory older →
    (if is_none o then Some (next older) else o) ≡ Some m →
    (serving older ≡ Some m → is_some (begun_for older m) ≡ is_some (holder older)) →
    Agree (notice (Method p) older) (length older + 1) (begun_for older m) (holder (Method p ∷ older))
method_step p older m None s i e k =
    let new : length older + 1 ≡ m = cc in made_step p older m (is_some (holder older)) i s new refl
method_step p older m (Some n) s i e k = kept_step (Method p) older m i (ap is_none s) (k (s ∙ e))

step : (act : Act) (older : List Act) (m : ℕ) → IsHistory older → serving (act ∷ older) ≡ Some m →
    (serving older ≡ Some m → is_some (begun_for older m) ≡ is_some (holder older)) →
    Agree (notice act older) (length older + 1) (begun_for older m) (holder (act ∷ older))
step (Method p) older m i e k = method_step p older m (serving older) refl i e k
step act older m i e k =
    kept_step act older m i refl (k (left_alive (act ∷ older) (serving older) m e))

pub activation_held : (log : List Act) (m : ℕ) → IsHistory log → serving log ≡ Some m →
    is_some (begun_for log m) ≡ is_some (holder log)
activation_held [] m i e = cc
activation_held (act ∷ older) m i e =
    ap is_some (begun_step act older m e) ∙ step act older m i.1 e (activation_held older m i.1)

held_by : (log : List Act) (o : Option ℕ) → IsHistory log → serving log ≡ o → is_some o ≡ true →
    is_some (begun log) ≡ is_some (holder log)
held_by log None i e k = absurd (true≢false (sym k))
held_by log (Some m) i e k = ap (λ o. is_some (begun_of log o)) e ∙ activation_held log m i e

pub activation_law : (acts : List Act) → is_some (serving (history acts)) ≡ true →
    is_some (begun (history acts)) ≡ is_some (holder (history acts))
activation_law acts k = held_by (history acts) (serving (history acts)) (history_is acts) refl k
