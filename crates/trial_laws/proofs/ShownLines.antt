-- What is shown is a line for each `show` in turn.
use Rattle.std.proofs.Common.{◌≡◌, ℕ, zero, suc, ◌+◌, ◌-◌, ◌%◌, ◌^◌, ◌≤◌, ◌<◌, Bool, true, false, List, [], ◌∷◌, ◌++◌, length, take, Option, Some, refl, sym, ap, ◌∙◌, arith}
use Rattle.std.specs.Prelude.{if◌then◌else◌}
use Rattle.std.specs.List.{slice_get}
use Rattle.std.proofs.Math.Seq.{take-length}
use Rattle.std.proofs.lemmas.List.{append-nil}
use Rattle.std.proofs.lemmas.Bool.{ne_eqb}
use Rattle.broker_steps.specs.declared.limits.Limits.{Limits}
use Rattle.trial_script.specs.declared.action.Action.{Action}
use Rattle.trial_script.specs.declared.action.Action.TheVariants as actions
use Rattle.trial_script.specs.declared.script.Script.{Script}
use Rattle.trial_run.specs.declared.whose.Whose.{Whose}
use Rattle.trial_run.specs.declared.whose.Whose.TheVariants as whose
use Rattle.trial_run.specs.Ran.{Ran, went, ◌>>=◌}
use Rattle.trial_run.specs.Steps.{next_bytes}
use Rattle.trial_run.specs.Play.{TrialPlay, number_of, hears, sent, edits, commits}
use Rattle.trial_run.specs.Rounds.{rounds}
use Rattle.trial_run.specs.Lines.{edit_of, batch_of, acted, line_played, actions_played}
use Rattle.trial_run.specs.Trial.{unplayed, typist_of, method_joined, fields_joined, played_with, trial_played}
use Rattle.trial_laws.specs.FieldLogs.{trial_to, line_of, line_at, lines_to}
use Rattle.trial_laws.specs.TrialLaws.{ShownInTurn}
use Rattle.trial_laws.proofs.PhasesKeep.{IsKept, IsSeated, take_entry, with_entry, after, sends_keep, rounds_keep, shell_keeps, pressed_keeps, method_keeps, fields_keep}

-- ---- phases show nothing

abbrev Shows : List ℕ → TrialPlay → Type 0
Shows lines t = t.shown ≡ lines

shown_kept : (lines : List ℕ) → IsKept (Shows lines)
shown_kept lines = record {
  saying = λ e t s f h. h;
  taking = λ who t f h. heard who (next_bytes (number_of who) t.broker) (with_entry (take_entry who t) t) h;
  sending = was_sent;
}
  where
    heard : (who : Whose) (piece : List ℕ) (t : TrialPlay) → Shows lines t → Shows lines (hears who piece t)
    heard whose.Method piece t h = h
    heard (whose.Field k) piece t h = h

    was_sent : (who : Whose) (t : TrialPlay) → Shows lines t → Shows lines (sent who t)
    was_sent whose.Method t h = h
    was_sent (whose.Field k) t h = h

-- ---- what a line shows

acted_shows : (time : ℕ) (action : Action) (t : TrialPlay) →
    Shows (t.shown ++ line_of action (went t)) (acted time action t).now
unfolding acted
acted_shows time (actions.Use f) t =
    shell_keeps (Shows (t.shown ++ [])) (shown_kept (t.shown ++ [])) _ t (sym (append-nil t.shown))
acted_shows time actions.Leave t =
    shell_keeps (Shows (t.shown ++ [])) (shown_kept (t.shown ++ [])) _ t (sym (append-nil t.shown))
acted_shows time (actions.Press key) t =
    pressed_keeps (Shows (t.shown ++ [])) (shown_kept (t.shown ++ [])) time key t (sym (append-nil t.shown))
acted_shows time (actions.Batch b) t =
    sends_keep (Shows (t.shown ++ [])) (shown_kept (t.shown ++ [])) whose.Method (commits (batch_of b) t)
    (sym (append-nil t.shown))
acted_shows time (actions.Edit f e) t =
    sends_keep (Shows (t.shown ++ [])) (shown_kept (t.shown ++ [])) (whose.Field (f - 1)) (edits (f - 1) (edit_of e) t)
    (sym (append-nil t.shown))
acted_shows time (actions.Pause f) t = sym (append-nil t.shown)
acted_shows time (actions.Resume f) t = sym (append-nil t.shown)
acted_shows time (actions.Show f) t = refl

line_shows : (time : ℕ) (action : Action) (t : TrialPlay) →
    Shows (t.shown ++ line_of action (went t)) (line_played time action t).now
unfolding line_played
line_shows time action t =
    let lines : List ℕ = t.shown ++ line_of action (went t) in
    after (Shows lines) (acted time action t) (λ now. rounds now.most now) (acted_shows time action t)
    (λ now k. rounds_keep (Shows lines) (shown_kept lines) now.most now k)

-- ---- one line more

bind_went : (r : Ran TrialPlay) → (r >>= (λ t. went t)) ≡ r
bind_went r = by r.now r.is_full
  where
    by : (now : TrialPlay) (full : Bool) →
        (let x : Ran TrialPlay = record { now = now; is_full = full } in if full then x else went now)
        ≡ record { now = now; is_full = full }
    by now true = refl
    by now false = refl

bind_twice : (r : Ran TrialPlay) (f g : TrialPlay → Ran TrialPlay) → ((r >>= f) >>= g) ≡ (r >>= (λ t. f t >>= g))
bind_twice r f g = by r.now r.is_full
  where
    by : (now : TrialPlay) (full : Bool) →
        (let x : Ran TrialPlay = record { now = now; is_full = full } in
        (if (if full then x else f now).is_full then (if full then x else f now)
        else g (if full then x else f now).now))
        ≡ (let x : Ran TrialPlay = record { now = now; is_full = full } in (if full then x else (f now >>= g)))
    by now true = refl
    by now false = refl

bind_same : (r : Ran TrialPlay) (f g : TrialPlay → Ran TrialPlay) → ((t : TrialPlay) → f t ≡ g t) →
    (r >>= f) ≡ (r >>= g)
bind_same r f g e = by r.is_full
  where
    by : (full : Bool) → (if full then r else f r.now) ≡ (if full then r else g r.now)
    by true = refl
    by false = e r.now

-- the time behind lines
abbrev time_behind : ℕ → List Action → ℕ
time_behind time [] = time
time_behind time (action ∷ more) = time_behind ((time + 1) % 2 ^ 32) more

one_more : (time : ℕ) (all : List Action) (action : Action) (t : TrialPlay) →
    actions_played time (all ++ action ∷ []) t ≡ (actions_played time all t >>= line_played (time_behind time all)
    action)
unfolding actions_played
one_more time [] action t = bind_went (line_played time action t)
one_more time (first ∷ more) action t =
    bind_same (line_played time first t) (actions_played ((time + 1) % 2 ^ 32) (more ++ action ∷ []))
    (λ u. actions_played ((time + 1) % 2 ^ 32) more u >>= line_played (time_behind ((time + 1) % 2 ^ 32) more) action)
    (λ u. one_more ((time + 1) % 2 ^ 32) more action u)
    ∙ sym (bind_twice (line_played time first t) (actions_played ((time + 1) % 2 ^ 32) more)
    (line_played (time_behind ((time + 1) % 2 ^ 32) more) action))

take_next : (n : ℕ) (all : List Action) (action : Action) → slice_get all n ≡ Some action →
    take (suc n) all ≡ take n all ++ action ∷ []
take_next n [] action e = (let no : slice_get [] n ≡ Some action = e in cc)
take_next zero (x ∷ xs) action e =
    (let same : x ≡ action = cc in ap (λ (y : Action). y ∷ []) same)
take_next (suc n) (x ∷ xs) action e = ap (λ (l : List Action). x ∷ l) (take_next n xs action e)

-- ---- a trial

abbrev joined_all : Limits → Script → Ran TrialPlay
joined_all limits script = method_joined (unplayed limits (typist_of script)) >>= fields_joined script.fields

trial_is : (n : ℕ) (limits : Limits) (script : Script) → 1 ≤ script.fields →
    trial_to n limits script
    ≡ (joined_all limits script >>= actions_played (script.first_line % 2 ^ 32) (take n script.actions))
unfolding played_with
trial_is n limits script some =
    ap (λ (none : Bool). if none then went (unplayed limits (typist_of script))
    else joined_all limits script >>= actions_played (script.first_line % 2 ^ 32) (take n script.actions))
    (ne_eqb script.fields 0 (λ z. absurd (omega arith)))

next_trial : (n : ℕ) (limits : Limits) (script : Script) (action : Action) → 1 ≤ script.fields →
    slice_get script.actions n ≡ Some action →
    trial_to (suc n) limits script
    ≡ (trial_to n limits script
    >>= line_played (time_behind (script.first_line % 2 ^ 32) (take n script.actions)) action)
next_trial n limits script action some e =
    let time : ℕ = script.first_line % 2 ^ 32 in
    let front : List Action = take n script.actions in
    trial_is (suc n) limits script some
    ∙ ap (λ (l : List Action). joined_all limits script >>= actions_played time l) (take_next n script.actions action e)
    ∙ bind_same (joined_all limits script) (actions_played time (front ++ action ∷ []))
    (λ t. actions_played time front t >>= line_played (time_behind time front) action)
    (λ t. one_more time front action t)
    ∙ sym (bind_twice (joined_all limits script) (actions_played time front)
    (line_played (time_behind time front) action))
    ∙ ap (λ (r : Ran TrialPlay). r >>= line_played (time_behind time front) action)
    (sym (trial_is n limits script some))

then_shows : (r : Ran TrialPlay) (time : ℕ) (action : Action) →
    (r >>= line_played time action).now.shown ≡ r.now.shown ++ line_of action r
then_shows r time action = by r.now r.is_full
  where
    stopped : (now : TrialPlay) (a : Action) →
        (let x : Ran TrialPlay = record { now = now; is_full = true } in line_of a x ≡ [])
    stopped now (actions.Show f) = refl
    stopped now _ = refl

    by : (now : TrialPlay) (full : Bool) →
        (let x : Ran TrialPlay = record { now = now; is_full = full } in
        (if full then x else line_played time action now).now.shown ≡ now.shown ++ line_of action x)
    by now true = sym (ap (λ (l : List ℕ). now.shown ++ l) (stopped now action) ∙ append-nil now.shown)
    by now false = line_shows time action now

-- ---- the beginning

shown_seated : (lines : List ℕ) → IsSeated (Shows lines)
shown_seated lines = record { phases = shown_kept lines; joining = λ role t f h. h; adding = λ t h. h }

nothing_first : (limits : Limits) (script : Script) → (joined_all limits script).now.shown ≡ []
nothing_first limits script =
    after (Shows []) (method_joined (unplayed limits (typist_of script))) (fields_joined script.fields)
    (method_keeps (Shows []) (shown_seated []) (unplayed limits (typist_of script)) refl)
    (fields_keep (Shows []) (shown_seated []) script.fields)

there : (all : List Action) (n : ℕ) → n < length all → (action : Action) × (slice_get all n ≡ Some action)
there [] n l = absurd (omega arith)
there (x ∷ xs) zero l = (x, refl)
there (x ∷ xs) (suc n) l = there xs n (omega arith)

shown_to : (n : ℕ) (limits : Limits) (script : Script) → 1 ≤ script.fields → n ≤ length script.actions →
    (trial_to n limits script).now.shown ≡ lines_to n limits script
unfolding actions_played
shown_to zero limits script some l =
    ap (λ (r : Ran TrialPlay). r.now.shown) (trial_is zero limits script some ∙ bind_went (joined_all limits script))
    ∙ nothing_first limits script
shown_to (suc n) limits script some l =
    let next = there script.actions n (omega arith) in
    let action : Action = next.0 in
    ap (λ (r : Ran TrialPlay). r.now.shown) (next_trial n limits script action some next.1)
    ∙ then_shows (trial_to n limits script) (time_behind (script.first_line % 2 ^ 32) (take n script.actions)) action
    ∙ ap (λ (lines : List ℕ). lines ++ line_of action (trial_to n limits script))
    (shown_to n limits script some (omega arith))
    ∙ ap (λ (o : Option Action). lines_to n limits script ++ line_at o (trial_to n limits script)) (sym next.1)

pub shown_in_turn : ShownInTurn
shown_in_turn limits script some =
    ap (λ (l : List Action). (trial_played limits (record script { actions = l })).now.shown)
    (sym (take-length script.actions))
    ∙ shown_to (length script.actions) limits script some (omega arith)
