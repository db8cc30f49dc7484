-- How the current state of a field moves at one act.
use Rattle.std.proofs.Common.{◌≡◌, ℕ, ◌+◌, ◌<◌, ◌≤◌, max, List, [], ◌∷◌, length, Bool, true, false, Option, Some, None, ap, refl, sym, ◌∙◌, arith}
use Rattle.std.specs.Prelude.{◌==◌, ◌&&◌, nat_le, if◌then◌else◌}
use Rattle.std.proofs.lemmas.Bool.{ne_eqb, eq-eqb, eqb-true, true≢false, lt-ltb, lt-leb}
use Rattle.relay_model.specs.declared.act.Act.{Act}
use Rattle.relay_model.specs.declared.act.Act.TheVariants.{Commit}
use Rattle.relay_model.specs.declared.act.Word.{Word}
use Rattle.relay_model.specs.declared.act.Word.TheVariants.{Enabled, Disabled}
use Rattle.relay_model.specs.Objects.{is_at}
use Rattle.relay_model.specs.Focus.{entered, entered_since}
use Rattle.relay_model.specs.Hold.{word_by, word_past, word, is_enabled, begins_hold, kept, holder, hold_begun}
use Rattle.relay_model.specs.Current.{last_enable, last_commit, current}
use Rattle.relay_model.specs.Pending.{pending, is_commit_of}
use Rattle.relay_model.proofs.ActsOrIdle.{IsHistory}
use Rattle.relay_model.proofs.ObjectLaws.{if_same}
use Rattle.relay_model.proofs.FocusLaws.{entered_since_same, entered_since_within, and_false}
use Rattle.relay_model.proofs.HoldLaws.{commit_steady, holder_entered, holder_within, held_after, holder_committed, word_entered}
use Rattle.relay_model.proofs.LookingBack.{set_between, set_above, enable_above, commit_above, commit_within, enable_any, commit_any, commit_other, enabled_past, unsaid, unsaid_enable, hold_begun_within}
use Rattle.relay_model.proofs.PendingLaws.{applies_from, pending_is}

-- The hold: what its holder last enabled before it began is since it was entered, and is its last enable where it said
-- no word since.

pub record Holding (log : List Act) (f : ℕ) : Type 0 where
  pub low : entered_since log f ≤ last_enable (hold_begun log) log f
  pub last : word_past (entered_since log f) log f ≡ None →
      last_enable (length log + 1) log f ≡ last_enable (hold_begun log) log f

word_by_past : (from : ℕ) (act : Act) (older : List Act) (f : ℕ) → from ≤ length older →
    word_past from (act ∷ older) f ≡ None →
    word_by act f (word_past from older f) ≡ None
word_by_past from act older f l e = rw (lt-leb (length older + 1) from (omega arith)) at e

holding_on : (act : Act) (older : List Act) (f : ℕ) → f ≤ length older →
    entered_since (act ∷ older) f ≡ entered_since older f →
    hold_begun (act ∷ older) ≡ hold_begun older → is_commit_of act f ≡ false → Holding older f → Holding (act ∷ older) f
holding_on act older f w s b c h =
    let begun : hold_begun older ≤ length older = hold_begun_within older in
    let since : entered_since older f ≤ length older = entered_since_within older f w in
    let same : last_enable (hold_begun (act ∷ older)) (act ∷ older) f ≡ last_enable (hold_begun older) older f =
    ap (λ n. last_enable n (act ∷ older) f) b ∙ enable_above (hold_begun older) act older f (omega arith) in
    record {
      low = rw (s, same) h.low;
      last = λ e.
          let said : word_by act f (word_past (entered_since older f) older f) ≡ None =
          word_by_past _ act older f since (ap (λ n. word_past n (act ∷ older) f) (sym s) ∙ e) in
          unsaid_enable act older f (length (act ∷ older) + 1) _ said
          ∙ enable_any (length (act ∷ older) + 1) (length older + 1) older f (omega arith) (omega arith)
          ∙ h.last (unsaid act f _ c said) ∙ sym same;
    }

-- a commit of the holder with no word
holding_committed : (older : List Act) (f : ℕ) → hold_begun (Commit f ∷ older) ≡ hold_begun older →
    word_past (entered_since older f) older f ≡ None → Holding older f → Holding (Commit f ∷ older) f
holding_committed older f b n h =
    let same : last_enable (hold_begun (Commit f ∷ older)) older f ≡ last_enable (hold_begun older) older f =
    ap (λ n. last_enable n older f) b in
    record {
      low = rw same h.low;
      last = λ e. enable_any (length (Commit f ∷ older) + 1) (length older + 1) older f (omega arith) (omega arith)
          ∙ h.last n ∙ sym same;
    }

-- a commit that begins the hold
holding_begun : (older : List Act) (f : ℕ) → hold_begun (Commit f ∷ older) ≡ length older + 1 →
    word_past (entered_since older f) older f ≡ Some Enabled → Holding (Commit f ∷ older) f
holding_begun older f b n =
    let same : last_enable (hold_begun (Commit f ∷ older)) older f ≡ last_enable (length older + 1) older f =
    ap (λ n. last_enable n older f) b in
    let past : entered_since older f < last_enable (length older + 1) older f =
    enabled_past _ (length older + 1) older f (omega arith) n in
    record {
      low = rw same (omega arith);
      last = λ e. enable_any (length (Commit f ∷ older) + 1) (length older + 1) older f (omega arith) (omega arith)
          ∙ sym same;
    }

unbegun : (g : ℕ) (older : List Act) → begins_hold (Commit g) older ≡ false →
    hold_begun (Commit g ∷ older) ≡ hold_begun older
unbegun g older e = rw e refl

-- a commit without the word enable begins no hold
silent_begins_not : (g : ℕ) (older : List Act) → is_enabled (word older g) ≡ false →
    begins_hold (Commit g) older ≡ false
silent_begins_not g older e = rw e (and_false (entered older g))

-- a commit of another field, which begins no hold
holding_beside : (g : ℕ) (older : List Act) (f : ℕ) → IsHistory older → begins_hold (Commit g) older ≡ false →
    (g == f) ≡ false → holder older ≡ Some f → Holding older f → Holding (Commit g ∷ older) f
holding_beside g older f i u n k h =
    let s : entered_since (Commit g ∷ older) f ≡ entered_since older f =
    entered_since_same (Commit g) older f (commit_steady g) in
    holding_on (Commit g) older f (holder_within older f i k) s (unbegun g older u) n h

word_is : (log : List Act) (f : ℕ) (o : Option Word) → entered log f ≡ true → word log f ≡ o →
    word_past (entered_since log f) log f ≡ o
word_is log f o h e = rw h at e

at_is : (o : Option ℕ) (f : ℕ) → is_at o f ≡ true → o ≡ Some f
at_is None f e = cc
at_is (Some g) f e = ap Some (eqb-true g f e)

other_way : (f g : ℕ) → (f == g) ≡ false → (g == f) ≡ false
other_way f g e = ne_eqb g f (λ k. true≢false (sym (eq-eqb f g (sym k)) ∙ e))

at_none : (older : List Act) (g f : ℕ) (b : Bool) → (g == f) ≡ b → IsHistory older → word older g ≡ None →
    holder older ≡ Some f →
    Holding older f → Holding (Commit g ∷ older) f
at_none older g f true q i w k h =
    let same : g ≡ f = eqb-true g f q in
    let silent : word older f ≡ None = rw same at w in
    let none : word_past (entered_since older f) older f ≡ None =
    word_is older f None (holder_entered older f i k) silent in
    rw same (holding_committed older f (unbegun f older (silent_begins_not f older (ap is_enabled silent))) none h)
at_none older g f false q i w k h = holding_beside g older f i (silent_begins_not g older (ap is_enabled w)) q k h

at_enabled : (older : List Act) (g f : ℕ) → word older g ≡ Some Enabled → Some g ≡ Some f → Holding (Commit g ∷ older) f
at_enabled older g f w e =
    let same : g ≡ f = cc in
    let here : entered older g ≡ true = word_entered older g Enabled w in
    rw (← same) (holding_begun older g (rw (w, here) refl) (word_is older g (Some Enabled) here w))

at_disabled : (older : List Act) (g f : ℕ) (b : Bool) → is_at (holder older) g ≡ b → IsHistory older →
    word older g ≡ Some Disabled →
    (holder older ≡ Some f → Holding older f) → (if b then None else holder older) ≡ Some f →
    Holding (Commit g ∷ older) f
at_disabled older g f true q i w h e = cc
at_disabled older g f false q i w h e =
    let other : (f == g) ≡ false = rw e at q in
    holding_beside g older f i (silent_begins_not g older (ap is_enabled w)) (other_way f g other) e (h e)

holding_after : (older : List Act) (g f : ℕ) (w : Option Word) → word older g ≡ w → IsHistory older →
    (holder older ≡ Some f → Holding older f) → held_after g w (holder older) ≡ Some f → Holding (Commit g ∷ older) f
holding_after older g f None w i h e = at_none older g f (g == f) refl i w e (h e)
holding_after older g f (Some Enabled) w i h e = at_enabled older g f w e
holding_after older g f (Some Disabled) w i h e = at_disabled older g f (is_at (holder older) g) refl i w h e

holding_commit : (older : List Act) (g f : ℕ) → IsHistory older → (holder older ≡ Some f → Holding older f) →
    holder (Commit g ∷ older) ≡ Some f → Holding (Commit g ∷ older) f
holding_commit older g f i h e = holding_after older g f (word older g) refl i h (sym (holder_committed older g i) ∙ e)

kept_if : (a b : Bool) (g h : ℕ) → (if a && b then Some g else None) ≡ Some h → (b ≡ true) × (g ≡ h)
kept_if true true g h e = (refl, cc)
kept_if true false g h e = cc
kept_if false b g h e = cc

-- a holder that no commit moves held before, and was entered by the same focus
kept_from : (act : Act) (older : List Act) (o : Option ℕ) (f : ℕ) → kept act older o ≡ Some f →
    (o ≡ Some f) × (entered_since (act ∷ older) f ≡ entered_since older f)
kept_from act older None f e = cc
kept_from act older (Some g) f e =
    let p : ((entered_since (act ∷ older) g == entered_since older g) ≡ true) × (g ≡ f) =
    kept_if (entered (act ∷ older) g) _ g f e in
    (ap Some p.1, rw p.1 at (eqb-true (entered_since (act ∷ older) g) (entered_since older g) p.0))

holding_kept : (act : Act) (older : List Act) (f : ℕ) → IsHistory older → (holder older ≡ Some f → Holding older f) →
    hold_begun (act ∷ older) ≡ hold_begun older → is_commit_of act f ≡ false → kept act older (holder older) ≡ Some f →
    Holding (act ∷ older) f
holding_kept act older f i h b c e =
    let p : (holder older ≡ Some f) × (entered_since (act ∷ older) f ≡ entered_since older f) =
    kept_from act older (holder older) f e in
    holding_on act older f (holder_within older f i p.0) p.1 b c (h p.0)

holding : (log : List Act) (f : ℕ) → IsHistory log → holder log ≡ Some f → Holding log f
holding [] f i e = cc
holding (Commit g ∷ older) f i e = holding_commit older g f i.1 (holding older f i.1) e
holding (act ∷ older) f i e = holding_kept act older f i.1 (holding older f i.1) refl refl e

-- the current state

entered_after : (log : List Act) (f : ℕ) (w : Option Word) → IsHistory log → word log f ≡ w →
    held_after f w (holder log) ≡ Some f →
    entered log f ≡ true
entered_after log f None i w e = holder_entered log f i e
entered_after log f (Some said) i w e = word_entered log f said w

-- a commit after which its field holds makes current what was pending
pub current_committed : (log : List Act) (f : ℕ) → IsHistory log → is_at (holder (Commit f ∷ log)) f ≡ true →
    current (Commit f ∷ log) f ≡ pending log f
current_committed log f i e =
    let held : holder (Commit f ∷ log) ≡ Some f = at_is (holder (Commit f ∷ log)) f e in
    let here : entered log f ≡ true = entered_after log f (word log f) i refl (sym (holder_committed log f i) ∙ held) in
    let h : Holding (Commit f ∷ log) f = holding_commit log f f i (holding log f i) held in
    let reset = last_enable (hold_begun (Commit f ∷ log)) log f in
    let silent : word_past (entered_since log f) (Commit f ∷ log) f ≡ None =
    rw (eq-eqb f f refl) (if_same (nat_le (length log + 1) _) None) in
    let whole : last_enable (length log + 1) log f ≡ reset =
    enable_any (length log + 1) (length (Commit f ∷ log) + 1) log f (omega arith) (omega arith) ∙ h.last silent in
    let low : entered_since log f ≤ reset = h.low in
    let from : reset ≡ applies_from (length log + 1) log f = omega arith in
    let applied : last_commit (length (Commit f ∷ log) + 1) (Commit f ∷ log) f ≡ length log + 1 =
    rw (lt-ltb (length log + 1) (length (Commit f ∷ log) + 1) (omega arith), eq-eqb f f refl) refl in
    ap (λ n. set_between reset (max reset (last_commit n (Commit f ∷ log) f)) n log f) applied
    ∙ ap (λ n. set_between reset (max reset n) (length log + 1) log f)
    (commit_above (length log + 1) (Commit f) log f (omega arith))
    ∙ ap (λ n. set_between n (max n (last_commit (length log + 1) log f)) (length log + 1) log f) from
    ∙ sym (pending_is log f (length log + 1) i (omega arith) here)

-- any other act leaves what is current of a field
pub current_kept : (act : Act) (log : List Act) (h : ℕ) → is_commit_of act h ≡ false → begins_hold act log ≡ false →
    current (act ∷ log) h ≡ current log h
current_kept act log h c b =
    let begun : hold_begun (act ∷ log) ≡ hold_begun log = rw b refl in
    let early : hold_begun log ≤ length log = hold_begun_within log in
    let reset : last_enable (hold_begun (act ∷ log)) (act ∷ log) h ≡ last_enable (hold_begun log) log h =
    ap (λ n. last_enable n (act ∷ log) h) begun ∙ enable_above (hold_begun log) act log h (omega arith) in
    let last : ℕ = last_commit (length log + 1) log h in
    let old : last ≤ length log = commit_within (length log + 1) log h in
    let applied : last_commit (length (act ∷ log) + 1) (act ∷ log) h ≡ last =
    commit_other (length (act ∷ log) + 1) act log h c
    ∙ commit_any (length (act ∷ log) + 1) (length log + 1) log h (omega arith) (omega arith) in
    let from : ℕ = last_enable (hold_begun log) log h in
    ap (λ r. set_between r (max r (last_commit (last_commit (length (act ∷ log) + 1) (act ∷ log) h) (act ∷ log) h))
    (last_commit (length (act ∷ log) + 1) (act ∷ log) h) (act ∷ log) h) reset
    ∙ ap (λ n. set_between from (max from (last_commit n (act ∷ log) h)) n (act ∷ log) h) applied
    ∙ ap (λ n. set_between from (max from n) last (act ∷ log) h) (commit_above last act log h (omega arith))
    ∙ set_above from (max from (last_commit last log h)) last act log h (omega arith)
