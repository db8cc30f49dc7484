-- A field's commit keeps that the relay stands for the history.
use Rattle.std.proofs.Common.{◌≡◌, ℕ, ◌+◌, ◌%◌, ◌^◌, ◌≤◌, List, ◌∷◌, length, map, Bool, true, false, Option, Some, None, ap, refl, sym, subst, ◌∙◌, arith}
use Rattle.std.specs.Prelude.{◌==◌, ◌&&◌, if◌then◌else◌, is_some, is_none}
use Rattle.std.proofs.lemmas.Bool.{eq-eqb, eqb-true, true≢false}
use Rattle.relay_model.specs.declared.act.Act.{Act}
use Rattle.relay_model.specs.declared.act.Act.TheVariants as acts
use Rattle.relay_model.specs.declared.act.Word.{Word}
use Rattle.relay_model.specs.declared.act.Word.TheVariants.{Enabled, Disabled}
use Rattle.relay_model.specs.Objects.{is_at, is_field}
use Rattle.relay_model.specs.Focus.{entered, entered_since}
use Rattle.relay_model.specs.Hold.{word, word_past, holder, begins_hold}
use Rattle.relay_model.specs.Pending.{pending}
use Rattle.relay_model.specs.Activation.{Notice, Activates, Updates, Deactivates, serving, notice}
use Rattle.relay_model.specs.Batch.{commits, commit_count}
use Rattle.relay_model.proofs.ActsOrIdle.{IsHistory}
use Rattle.relay_model.proofs.FocusLaws.{object_same, focus_same, entered_same, entered_since_same, and_false}
use Rattle.relay_model.proofs.HoldLaws.{word_step, commit_steady, holder_committed, held_after, word_entered}
use Rattle.relay_model.proofs.ActivationLaws.{serving_same}
use Rattle.relay_model.proofs.PendingLaws.{pending_step, pending_out}
use Rattle.relay_model.proofs.StateLaws.{current_committed}
use Rattle.field_state.specs.Calls as field
use Rattle.field_state.specs.Hold.{answer, holds_after}
use Rattle.field_state.specs.Changes as change
use Rattle.field_state.specs.declared.commit.Taken.{Taken}
use Rattle.field_state.specs.declared.commit.Taken.TheVariants.{Begun, Updated, Ended, Nothing}
use Rattle.kbd_grab.specs.Keyboard as keyboard
use Rattle.relay_core.specs.KeyCalls.{key_calls}
use Rattle.relay_objects.specs.Objects.{committed}
use Rattle.relay_core.specs.Machine.{State, counted, taken_in, taken_by, displaced_by, held, field_committed}
use Rattle.relay_core.specs.Stands.{Stands, word_kept as kept_word, state_kept, current_where, field_kept}
use Rattle.relay_core.proofs.ActsLeaveScreen.{keys_same, commit_calm}
use Rattle.relay_core.proofs.HistoryEntries.{AllMove, eqb_sym}
use Rattle.relay_core.proofs.KeptFields.{same_parts, pending_same, current_same}
use Rattle.relay_core.proofs.EntriesMove.{stays, touch_both, entries_touched}
use Rattle.relay_core.proofs.LookUpsFind.{finds_kept}
use Rattle.relay_core.proofs.ServiceIsKept.{ServedIn, served_notified}
use Rattle.relay_core.proofs.HoldEndsKeep.{released_acts, released_objects, released_focus, released_holder, released_screen, released_keys, served_released}
use Rattle.relay_core.proofs.SteadyActs.{ended}
use Rattle.relay_core.proofs.SteadyActsStand.{one_more}

-- a commit with a word leaves the rest

acts_of : (b : Bool) (x y : State) → x.acts ≡ y.acts → (if b then x else y).acts ≡ y.acts
acts_of true x y e = e
acts_of false x y e = refl

objects_of : (b : Bool) (x y : State) → x.objects ≡ y.objects → (if b then x else y).objects ≡ y.objects
objects_of true x y e = e
objects_of false x y e = refl

focus_of : (b : Bool) (x y : State) → x.focus ≡ y.focus → (if b then x else y).focus ≡ y.focus
focus_of true x y e = e
focus_of false x y e = refl

holder_of : (b : Bool) (x y : State) (o : Option ℕ) → x.holder ≡ o →
    (if b then x else y).holder ≡ (if b then o else y.holder)
holder_of true x y o e = e
holder_of false x y o e = refl

holder_kept : (b : Bool) (x y : State) → x.holder ≡ y.holder → (if b then x else y).holder ≡ y.holder
holder_kept true x y e = e
holder_kept false x y e = refl

holder_if : (b : Bool) (x y : State) (o : Option ℕ) → x.holder ≡ o → y.holder ≡ o → (if b then x else y).holder ≡ o
holder_if true x y o p q = p
holder_if false x y o p q = q

held_acts : (f : ℕ) (t : Taken) (s : State) → (held f t s).acts ≡ s.acts
held_acts f Begun s = acts_of (is_some s.serving) _ (record s { holder = Some f }) refl
held_acts f Updated s = acts_of (is_some s.serving) _ s refl
held_acts f Ended s = released_acts s
held_acts f Nothing s = refl

held_objects : (f : ℕ) (t : Taken) (s : State) → (held f t s).objects ≡ s.objects
held_objects f Begun s = objects_of (is_some s.serving) _ (record s { holder = Some f }) refl
held_objects f Updated s = objects_of (is_some s.serving) _ s refl
held_objects f Ended s = released_objects s
held_objects f Nothing s = refl

held_focus : (f : ℕ) (t : Taken) (s : State) → (held f t s).focus ≡ s.focus
held_focus f Begun s = focus_of (is_some s.serving) _ (record s { holder = Some f }) refl
held_focus f Updated s = focus_of (is_some s.serving) _ s refl
held_focus f Ended s = released_focus s
held_focus f Nothing s = refl

screen_of : (b : Bool) (x y : State) → x.screen ≡ y.screen → (if b then x else y).screen ≡ y.screen
screen_of true x y e = e
screen_of false x y e = refl

held_screen : (f : ℕ) (t : Taken) (s : State) → (held f t s).screen ≡ s.screen
held_screen f Begun s = screen_of (is_some s.serving) _ (record s { holder = Some f }) refl
held_screen f Updated s = screen_of (is_some s.serving) _ s refl
held_screen f Ended s = released_screen s
held_screen f Nothing s = refl

keys_of : (b : Bool) (x y : State) → x.keys ≡ y.keys → (if b then x else y).keys ≡ y.keys
keys_of true x y e = e
keys_of false x y e = refl

held_keys : (f : ℕ) (t : Taken) (s : State) → (held f t s).keys ≡ s.keys
held_keys f Begun s = keys_of (is_some s.serving) _ (record s { holder = Some f }) refl
held_keys f Updated s = keys_of (is_some s.serving) _ s refl
held_keys f Ended s = released_keys s
held_keys f Nothing s = refl

-- the holder after a commit of f that does this
abbrev holder_by : ℕ → Taken → Option ℕ → Option ℕ
holder_by f Begun held = Some f
holder_by f Updated held = held
holder_by f Ended held = None
holder_by f Nothing held = held

held_holder : (f : ℕ) (t : Taken) (s : State) → (held f t s).holder ≡ holder_by f t s.holder
held_holder f Begun s = holder_if (is_some s.serving) _ (record s { holder = Some f }) (Some f) refl refl
held_holder f Updated s = holder_kept (is_some s.serving) _ s refl
held_holder f Ended s = released_holder s
held_holder f Nothing s = refl

-- what the commit of a field with this word does
abbrev pub does : ℕ → Option Word → Option ℕ → Taken
does f w held = answer (kept_word w) (is_at held f)

holder_does_by : (f : ℕ) (w : Option Word) (held : Option ℕ) (b : Bool) → is_at held f ≡ b →
    holder_by f (does f w held) held ≡ held_after f w held
holder_does_by f None held true e = rw e refl
holder_does_by f None held false e = rw e refl
holder_does_by f (Some Enabled) held b e = refl
holder_does_by f (Some Disabled) held true e = rw e refl
holder_does_by f (Some Disabled) held false e = rw e refl

holder_does : (f : ℕ) (w : Option Word) (held : Option ℕ) → holder_by f (does f w held) held ≡ held_after f w held
holder_does f w held = holder_does_by f w held (is_at held f) refl

-- whether f holds after its commit
holds_does_by : (f : ℕ) (w : Option Word) (held : Option ℕ) (b : Bool) → is_at held f ≡ b →
    holds_after (does f w held) ≡ is_at (held_after f w held) f
holds_does_by f None held true e = rw e refl
holds_does_by f None held false e = rw e refl
holds_does_by f (Some Enabled) held b e = sym (eq-eqb f f refl)
holds_does_by f (Some Disabled) held true e = rw e refl
holds_does_by f (Some Disabled) held false e =
    ap (λ b. holds_after (if b then Ended else Nothing)) e ∙ sym (ap (λ b. is_at (if b then None else held) f) e ∙ e)

holds_does : (f : ℕ) (w : Option Word) (held : Option ℕ) → holds_after (does f w held) ≡ is_at (held_after f w held) f
holds_does f w held = holds_does_by f w held (is_at held f) refl

-- what is said of the hold at a commit with this word
abbrev pub notice_by : ℕ → Option Word → Option ℕ → Option Notice
notice_by f None held = (if is_at held f then Some Updates else None)
notice_by f (Some Enabled) held = Some Activates
notice_by f (Some Disabled) held = (if is_at held f then Some Deactivates else None)

no_end : (x : Option ℕ) → (is_some x && is_none x) ≡ false
no_end None = refl
no_end (Some y) = refl

commit_noticed_by : (log : List Act) (f : ℕ) (w : Option Word) (b : Bool) → IsHistory log → word log f ≡ w →
    is_at (holder log) f ≡ b →
    notice (acts.Commit f) log ≡ notice_by f w (holder log)
commit_noticed_by log f None true i e k = rw (e, k, and_false (entered log f)) refl
commit_noticed_by log f None false i e k =
    let later : holder (acts.Commit f ∷ log) ≡ holder log =
    holder_committed log f i ∙ ap (λ w. held_after f w (holder log)) e in
    rw (later, e, k, and_false (entered log f), no_end (holder log)) refl
commit_noticed_by log f (Some Enabled) b i e k =
    let here : entered log f ≡ true = word_entered log f Enabled e in
    rw (e, here) refl
commit_noticed_by log f (Some Disabled) true i e k =
    let fall : held_after f (Some Disabled) (holder log) ≡ None = rw k refl in
    let later : holder (acts.Commit f ∷ log) ≡ None =
    holder_committed log f i ∙ ap (λ w. held_after f w (holder log)) e ∙ fall in
    rw (later, e, k, and_false (entered log f)) (held_some (holder log) f k)
  where
    held_some : (h : Option ℕ) (f : ℕ) → is_at h f ≡ true →
        (if is_some h && true then Some Deactivates else None) ≡ Some Deactivates
    held_some None f k = cc
    held_some (Some x) f k = refl
commit_noticed_by log f (Some Disabled) false i e k =
    let stay : held_after f (Some Disabled) (holder log) ≡ holder log = rw k refl in
    let later : holder (acts.Commit f ∷ log) ≡ holder log =
    holder_committed log f i ∙ ap (λ w. held_after f w (holder log)) e ∙ stay in
    rw (later, e, k, and_false (entered log f), no_end (holder log)) refl

pub commit_noticed : (log : List Act) (f : ℕ) → IsHistory log →
    notice (acts.Commit f) log ≡ notice_by f (word log f) (holder log)
commit_noticed log f i = commit_noticed_by log f (word log f) (is_at (holder log) f) i refl refl

-- what is said of the hold is what the commit does
abbrev pub noticed : Taken → Option Notice
noticed Begun = Some Activates
noticed Updated = Some Updates
noticed Ended = Some Deactivates
noticed Nothing = None

noticed_by : (f : ℕ) (w : Option Word) (held : Option ℕ) (b : Bool) → is_at held f ≡ b →
    notice_by f w held ≡ noticed (does f w held)
noticed_by f None held true e = rw e refl
noticed_by f None held false e = rw e refl
noticed_by f (Some Enabled) held b e = refl
noticed_by f (Some Disabled) held true e = rw e refl
noticed_by f (Some Disabled) held false e = rw e refl

pub commit_said : (log : List Act) (f : ℕ) → IsHistory log →
    notice (acts.Commit f) log ≡ noticed (does f (word log f) (holder log))
commit_said log f i = commit_noticed log f i ∙ noticed_by f (word log f) (holder log) (is_at (holder log) f) refl

-- a hold is there to end
pub ends_held : (f : ℕ) (w : Option Word) (held : Option ℕ) → does f w held ≡ Ended → ended held ≡ Some Deactivates
ends_held f w None d = absurd (free f w (sym d))
  where
    free : (f : ℕ) (w : Option Word) → Ended ≡ does f w None → ⊥
    free f None d = cc
    free f (Some Enabled) d = cc
    free f (Some Disabled) d = cc
ends_held f w (Some h) d = refl

held_served : (f : ℕ) (t : Taken) (s : State) (log : List Act) → s.holder ≡ holder log → ServedIn s log →
    serving (acts.Commit f ∷ log) ≡ serving log →
    notice (acts.Commit f) log ≡ noticed t → (t ≡ Ended → ended (holder log) ≡ Some Deactivates) →
    ServedIn (held f t s) (acts.Commit f ∷ log)
held_served f Begun s log d h l q k =
    served_notified (record s { holder = Some f }) (acts.Commit f) log (Some Activates) h l q (λ m rest. refl)
held_served f Updated s log d h l q k = served_notified s (acts.Commit f) log (Some Updates) h l q (λ m rest. refl)
held_served f Ended s log d h l q k = served_released s (acts.Commit f) log h d l (q ∙ sym (k refl)) (λ m rest. refl)
held_served f Nothing s log d h l q k = served_notified s (acts.Commit f) log None h l q (λ m rest. refl)

-- the entries at a commit

if_if : (b c : Bool) (x : Option Word) →
    (if b then (if c then None else x) else None) ≡ (if c then None else (if b then x else None))
if_if true c x = refl
if_if false true x = refl
if_if false false x = refl

commit_word : (log : List Act) (f x : ℕ) → IsHistory log → x ≤ length log →
    word (acts.Commit f ∷ log) x ≡ (if x == f then None else word log x)
commit_word log f x i l =
    word_step (acts.Commit f) log x l (entered_same (acts.Commit f) log x i (commit_steady f) l)
    (entered_since_same (acts.Commit f) log x (commit_steady f)) ∙
    if_if (entered log x) (f == x) (word_past (entered_since log x) log x)
    ∙ ap (λ b. if b then None else word log x) (eqb_sym f x)

count_if : (b : Bool) (n : ℕ) →
    (if b then n + 1 else n) % 2 ^ 32 ≡ (if b then (n % 2 ^ 32 + 1) % 2 ^ 32 else n % 2 ^ 32)
count_if true n = omega arith
count_if false n = refl

commit_counts : (log : List Act) (f x : ℕ) →
    commit_count (acts.Commit f ∷ log) x ≡ (if x == f then (commit_count log x + 1) % 2 ^ 32 else commit_count log x)
commit_counts log f x =
    count_if (f == x) (commits log x)
    ∙ ap (λ b. if b then (commit_count log x + 1) % 2 ^ 32 else commit_count log x) (eqb_sym f x)

-- whether it holds then
pub commit_holds : (log : List Act) (f : ℕ) → IsHistory log →
    is_at (holder (acts.Commit f ∷ log)) f ≡ holds_after (does f (word log f) (holder log))
commit_holds log f i = ap (λ o. is_at o f) (holder_committed log f i) ∙ sym (holds_does f (word log f) (holder log))

-- the field that commits
pub commit_kept : (log : List Act) (f : ℕ) → IsHistory log → f ≤ length log →
    change.committed (field_kept log f) ≡ field_kept (acts.Commit f ∷ log) f
commit_kept log f i l =
    let there : entered (acts.Commit f ∷ log) f ≡ entered log f =
    entered_same (acts.Commit f) log f i (commit_steady f) l in
    let after : is_at (holder (acts.Commit f ∷ log)) f ≡ holds_after (does f (word log f) (holder log)) =
    commit_holds log f i in
    sym (same_parts there
    (ap kept_word (commit_word log f f i l ∙ ap (λ b. if b then None else word log f) (eq-eqb f f refl))) after
    (commit_counts log f f
    ∙ ap (λ b. if b then (commit_count log f + 1) % 2 ^ 32 else commit_count log f) (eq-eqb f f refl))
    (commit_pending log f i l (entered log f) refl)
    (commit_current log f i (holds_after (does f (word log f) (holder log))) after))
  where
    commit_pending : (log : List Act) (f : ℕ) → IsHistory log → f ≤ length log → (b : Bool) → entered log f ≡ b →
        state_kept (pending (acts.Commit f ∷ log) f) ≡ record (state_kept (pending log f)) { cause = 0 }
    commit_pending log f i l true e =
        ap state_kept
        (pending_step (acts.Commit f) log f (entered_same (acts.Commit f) log f i (commit_steady f) l)
        (entered_since_same (acts.Commit f) log f (commit_steady f)) e) ∙
        ap (λ b. state_kept (if b then record (pending log f) { cause = 0 } else pending log f)) (eq-eqb f f refl)
    commit_pending log f i l false e =
        ap state_kept
        (pending_out (acts.Commit f ∷ log) f (entered_same (acts.Commit f) log f i (commit_steady f) l ∙ e)) ∙
        sym (ap (λ p. record (state_kept p) { cause = 0 }) (pending_out log f e))

    commit_current : (log : List Act) (f : ℕ) → IsHistory log → (b : Bool) →
        is_at (holder (acts.Commit f ∷ log)) f ≡ b →
        current_where (is_at (holder (acts.Commit f ∷ log)) f) (acts.Commit f ∷ log) f
        ≡ (if b then state_kept (pending log f) else field.initial)
    commit_current log f i true e =
        ap (λ b. current_where b (acts.Commit f ∷ log) f) e ∙ ap state_kept (current_committed log f i e)
    commit_current log f i false e = ap (λ b. current_where b (acts.Commit f ∷ log) f) e

-- another field

-- the field that the commit takes the seat from
abbrev pub loses : ℕ → Option Word → Option ℕ → Option ℕ
loses f w held = displaced_by (does f w held) held

loses_by : (w : Option Word) (held : Option ℕ) (f : ℕ) (b : Bool) → is_at held f ≡ b → (w ≡ Some Enabled → ⊥) →
    loses f w held ≡ None
loses_by None held f true e n = rw e refl
loses_by None held f false e n = rw e refl
loses_by (Some Enabled) held f b e n = absurd (n refl)
loses_by (Some Disabled) held f true e n = rw e refl
loses_by (Some Disabled) held f false e n = rw e refl

disabled_holds : (f x : ℕ) (held : Option ℕ) (b : Bool) → is_at held f ≡ b → (x == f) ≡ false →
    is_at (held_after f (Some Disabled) held) x ≡ is_at held x
disabled_holds f x None b e d = refl
disabled_holds f x (Some h) true e d = rw e (sym (ap (λ v. v == x) (eqb-true h f e) ∙ eqb_sym f x ∙ d))
disabled_holds f x (Some h) false e d = rw e refl

-- it keeps what it had of the seat
other_holds : (f x : ℕ) (w : Option Word) (held : Option ℕ) → (x == f) ≡ false → is_at (loses f w held) x ≡ false →
    is_at (held_after f w held) x ≡ is_at held x
other_holds f x None held d k = refl
other_holds f x (Some Enabled) held d k = eqb_sym f x ∙ d ∙ sym k
other_holds f x (Some Disabled) held d k = disabled_holds f x held (is_at held f) refl d

-- or the commit takes the seat from it
other_loses : (f x : ℕ) (w : Option Word) (held : Option ℕ) → (x == f) ≡ false → is_at (loses f w held) x ≡ true →
    is_at (held_after f w held) x ≡ false
other_loses f x None held d k =
    absurd (true≢false (sym k ∙ ap (λ o. is_at o x) (loses_by None held f (is_at held f) refl (λ e. cc))))
other_loses f x (Some Enabled) held d k = eqb_sym f x ∙ d
other_loses f x (Some Disabled) held d k =
    absurd (true≢false (sym k ∙ ap (λ o. is_at o x) (loses_by (Some Disabled) held f (is_at held f) refl (λ e. cc))))

-- what is current of another field that holds
other_current : (log : List Act) (f x : ℕ) → IsHistory log → (x == f) ≡ false → (b : Bool) →
    begins_hold (acts.Commit f) log ≡ b →
    is_at (holder (acts.Commit f ∷ log)) x ≡ is_at (holder log) x →
    current_where (is_at (holder (acts.Commit f ∷ log)) x) (acts.Commit f ∷ log) x
    ≡ current_where (is_at (holder log) x) log x
other_current log f x i d true e h =
    let new : holder (acts.Commit f ∷ log) ≡ Some f = rw e refl in
    let out : is_at (holder (acts.Commit f ∷ log)) x ≡ false = ap (λ o. is_at o x) new ∙ eqb_sym f x ∙ d in
    ap (λ b. current_where b (acts.Commit f ∷ log) x) out ∙ sym (ap (λ b. current_where b log x) (sym h ∙ out))
other_current log f x i d false e h = current_same (acts.Commit f) log x h (eqb_sym f x ∙ d) e

-- of another field only the seat moves
other_by : (log : List Act) (f x : ℕ) (held : Bool) (c : field.State) → IsHistory log → (x == f) ≡ false →
    x ≤ length log →
    is_at (holder (acts.Commit f ∷ log)) x ≡ held →
    current_where (is_at (holder (acts.Commit f ∷ log)) x) (acts.Commit f ∷ log) x ≡ c →
    record (field_kept log x) { holds = held; current = c } ≡ field_kept (acts.Commit f ∷ log) x
other_by log f x held c i d l holds k =
    let there : entered (acts.Commit f ∷ log) x ≡ entered log x =
    entered_same (acts.Commit f) log x i (commit_steady f) l in
    let since : entered_since (acts.Commit f ∷ log) x ≡ entered_since log x =
    entered_since_same (acts.Commit f) log x (commit_steady f) in
    sym (same_parts there
    (ap kept_word (commit_word log f x i l ∙ ap (λ b. if b then None else word log x) d)) holds
    (commit_counts log f x ∙ ap (λ b. if b then (commit_count log x + 1) % 2 ^ 32 else commit_count log x) d)
    (ap state_kept
    (pending_same (acts.Commit f) log x there since
    (λ rest. ap (λ b. if b then record rest { cause = 0 } else rest) (eqb_sym f x ∙ d))))
    k)

other_kept : (log : List Act) (f x : ℕ) → IsHistory log → (x == f) ≡ false → x ≤ length log →
    is_at (loses f (word log f) (holder log)) x ≡ false →
    field_kept log x ≡ field_kept (acts.Commit f ∷ log) x
other_kept log f x i d l k =
    let holds : is_at (holder (acts.Commit f ∷ log)) x ≡ is_at (holder log) x =
    ap (λ o. is_at o x) (holder_committed log f i) ∙ other_holds f x (word log f) (holder log) d k in
    other_by log f x (is_at (holder log) x) (current_where (is_at (holder log) x) log x) i d l holds
    (other_current log f x i d (begins_hold (acts.Commit f) log) refl holds)

other_displaced : (log : List Act) (f x : ℕ) → IsHistory log → (x == f) ≡ false → x ≤ length log →
    is_at (loses f (word log f) (holder log)) x ≡ true →
    change.displaced (field_kept log x) ≡ field_kept (acts.Commit f ∷ log) x
other_displaced log f x i d l k =
    let out : is_at (holder (acts.Commit f ∷ log)) x ≡ false =
    ap (λ o. is_at o x) (holder_committed log f i) ∙ other_loses f x (word log f) (holder log) d k in
    other_by log f x false field.initial i d l out (ap (λ b. current_where b (acts.Commit f ∷ log) x) out)

commit_moves : (log : List Act) (f : ℕ) → IsHistory log →
    AllMove (acts.Commit f) log (committed f (loses f (word log f) (holder log))) (λ _. true)
commit_moves log f i =
    λ x l. stays (committed f (loses f (word log f) (holder log))) (acts.Commit f) log x
    (object_same (acts.Commit f) log x (commit_steady f) l)
    (touch_both f (loses f (word log f) (holder log)) change.committed change.displaced (acts.Commit f) log x refl
    (λ d. let P : ℕ → Type 0 = λ y. change.committed (field_kept log y) ≡ field_kept (acts.Commit f ∷ log) y in
    subst P (sym (eqb-true x f d)) (commit_kept log f i (let e = eqb-true x f d in omega arith)))
    (λ d k. other_displaced log f x i d l k) (λ d k. other_kept log f x i d l k))

commit_of : (s : State) (log : List Act) (f : ℕ) → IsHistory log → Stands s log →
    Stands (held f (does f (word log f) (holder log))
    (record (counted s) { objects = map (committed f (loses f (word log f) (holder log))) s.objects }))
    (acts.Commit f ∷ log)
commit_of s log f i h =
    let t : Taken = does f (word log f) (holder log) in
    let r : State = record (counted s) { objects = map (committed f (loses f (word log f) (holder log))) s.objects } in
    record {
      acts_now = held_acts f t r ∙ one_more s (acts.Commit f) log h;
      objects_now = held_objects f t r ∙ ap (map (committed f (loses f (word log f) (holder log)))) h.objects_now ∙
          sym (entries_touched (acts.Commit f) log (committed f (loses f (word log f) (holder log)))
          (commit_moves log f i) refl);
      focus_now = held_focus f t r ∙ h.focus_now ∙ sym (focus_same (acts.Commit f) log i (commit_steady f));
      holder_now =
          held_holder f t r ∙ ap (holder_by f t) h.holder_now ∙ holder_does f (word log f) (holder log)
          ∙ sym (holder_committed log f i);
      served_now =
          held_served f t r log h.holder_now h.served_now (serving_same (acts.Commit f) log refl (commit_steady f))
          (commit_said log f i) (ends_held f (word log f) (holder log));
      screen_now = held_screen f t r ∙ h.screen_now;
      keys_now = subst (λ k. keyboard.StandsFor (key_calls (acts.Commit f ∷ log)) k) (sym (held_keys f t r))
          (keys_same (acts.Commit f) log s.keys (commit_calm f) refl (λ x o. refl) h.keys_now);
    }

-- what the commit does is what the machine says
pub taken_is : (s : State) (log : List Act) (f : ℕ) → is_field log f ≡ true → Stands s log →
    taken_by f s ≡ does f (word log f) (holder log)
taken_is s log f e h = ap taken_in (finds_kept s log f h e)

pub stands_commit : (s : State) (log : List Act) (f : ℕ) → IsHistory log → is_field log f ≡ true → Stands s log →
    Stands (field_committed f (counted s)) (acts.Commit f ∷ log)
stands_commit s log f i e h =
    let M : Option ℕ → Taken → Type 0 =
    λ o t. Stands (held f t (record (counted s) { objects = map (committed f (displaced_by t o)) s.objects }))
    (acts.Commit f ∷ log) in
    subst (λ o. M o (taken_by f s)) (sym h.holder_now)
    (subst (M (holder log)) (sym (taken_is s log f e h)) (commit_of s log f i h))
