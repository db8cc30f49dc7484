-- Rounds end where nothing is stored for a client that isn't paused.
use Rattle.std.proofs.Common.{◌≡◌, ℕ, zero, suc, ◌+◌, ◌%◌, ◌^◌, ◌≤◌, Bool, true, false, not, List, [], ◌∷◌, length, refl, sym, ap, subst, ◌∙◌, arith, inl, inr, ◌⊎◌}
use Rattle.std.specs.Prelude.{if◌then◌else◌, ◌&&◌}
use Rattle.std.proofs.lemmas.Bool.{ne_eqb}
use Rattle.trial_script.specs.declared.action.Action.{Action}
use Rattle.trial_run.specs.declared.whose.Whose.{Whose}
use Rattle.trial_run.specs.declared.whose.Whose.TheVariants as whose
use Rattle.trial_run.specs.Ran.{Ran, went, ◌>>=◌}
use Rattle.trial_run.specs.Steps.{has_stored, next_bytes}
use Rattle.trial_run.specs.Play.{TrialPlay, number_of, is_paused, hears, sent}
use Rattle.trial_run.specs.Rounds.{takes, turn, field_turns, round, is_due, fields_quiet, is_quiet, rounds}
use Rattle.trial_run.specs.Lines.{acted, line_played, actions_played}
use Rattle.trial_run.specs.Trial.{unplayed, typist_of, method_joined, fields_joined, played_with}
use Rattle.trial_laws.specs.TrialLaws.{RoundsEndQuiet}
use Rattle.trial_laws.proofs.PhasesKeep.{IsPlayed, take_entry, with_entry, field_turns_keep, round_keeps, line_keeps, acted_keeps, method_keeps, fields_keep}
use Rattle.trial_laws.proofs.TakesCount.{counted, IsWithin, IsBoth, both_went, same_went, at_least, within, takes_move}

-- ---- one round

-- nothing is done, where nothing is due, or the trial has more entries
abbrev Moves : TrialPlay → TrialPlay → Bool → Type 0
Moves t after due = ((t ≡ after) × (due ≡ false)) ⊎ (1 + counted t ≤ counted after)

turn_moves : (most : ℕ) (who : Whose) (t after : TrialPlay) → t.most ≡ suc most → turn who t ≡ went after →
    Moves t after (is_due who t)
unfolding turn is_due
turn_moves most who t after m e = by (is_paused who t) e
  where
    by : (paused : Bool) → (if paused then went t else takes t.most who t) ≡ went after →
        Moves t after (not paused && has_stored (number_of who) t.broker)
    by true h = inl (same_went t after h, refl)
    by false h = takes_move most who t after (ap (λ n. takes n who t) (sym m) ∙ h)

fields_move : (most n k : ℕ) (t after : TrialPlay) → t.most ≡ suc most → field_turns n k t ≡ went after →
    ((t ≡ after) × (fields_quiet n k t ≡ true)) ⊎ (1 + counted t ≤ counted after)
unfolding field_turns fields_quiet
fields_move most zero k t after m e = inl (same_went t after e, refl)
fields_move most (suc n) k t after m e =
    let both = both_went (turn (whose.Field k) t) (field_turns n (k + 1)) after e in
    by both (turn_moves most (whose.Field k) t both.mid m both.first)
    (λ s. fields_move most n (k + 1) t after m (ap (field_turns n (k + 1)) s ∙ both.second))
  where
    by : (both : IsBoth (turn (whose.Field k) t) (field_turns n (k + 1)) after) →
        Moves t both.mid (is_due (whose.Field k) t) →
        (t ≡ both.mid → ((t ≡ after) × (fields_quiet n (k + 1) t ≡ true)) ⊎ (1 + counted t ≤ counted after)) →
        ((t ≡ after) × ((not (is_due (whose.Field k) t) && fields_quiet n (k + 1) t) ≡ true))
        ⊎ (1 + counted t ≤ counted after)
    by both (inl s) later = quiet (later s.0)
      where
        quiet : ((t ≡ after) × (fields_quiet n (k + 1) t ≡ true)) ⊎ (1 + counted t ≤ counted after) →
            ((t ≡ after) × ((not (is_due (whose.Field k) t) && fields_quiet n (k + 1) t) ≡ true))
            ⊎ (1 + counted t ≤ counted after)
        quiet (inl q) = inl (q.0, ap (λ (due : Bool). not due && fields_quiet n (k + 1) t) s.1 ∙ q.1)
        quiet (inr more) = inr more
    by both (inr more) later =
        let least : ℕ = 1 + counted t in
        let kept = field_turns_keep (λ u. least ≤ counted u) (at_least least).seats.phases n (k + 1) both.mid more in
        inr (subst (λ (r : Ran TrialPlay). least ≤ counted r.now) both.second kept)

round_moves : (most : ℕ) (t after : TrialPlay) → t.most ≡ suc most → is_quiet t ≡ false → round t ≡ went after →
    1 + counted t ≤ counted after
unfolding round is_quiet
round_moves most t after m q e =
    let both = both_went (turn whose.Method t) (field_turns (length t.fields) 0) after e in
    by both (turn_moves most whose.Method t both.mid m both.first)
    (λ s. fields_move most (length t.fields) 0 t after m (ap (field_turns (length t.fields) 0) s ∙ both.second))
  where
    by : (both : IsBoth (turn whose.Method t) (field_turns (length t.fields) 0) after) →
        Moves t both.mid (is_due whose.Method t) →
        (t ≡ both.mid →
        ((t ≡ after) × (fields_quiet (length t.fields) 0 t ≡ true)) ⊎ (1 + counted t ≤ counted after)) →
        1 + counted t ≤ counted after
    by both (inl s) later = quiet (later s.0)
      where
        quiet : ((t ≡ after) × (fields_quiet (length t.fields) 0 t ≡ true)) ⊎ (1 + counted t ≤ counted after) →
            1 + counted t ≤ counted after
        quiet (inl r) =
            absurd (let is : (not (is_due whose.Method t) && fields_quiet (length t.fields) 0 t) ≡ true =
            ap (λ (due : Bool). not due && fields_quiet (length t.fields) 0 t) s.1 ∙ r.1 in
            let no : true ≡ false = sym is ∙ q in cc)
        quiet (inr more) = more
    by both (inr more) later =
        let least : ℕ = 1 + counted t in
        let kept = field_turns_keep (λ u. least ≤ counted u) (at_least least).seats.phases (length t.fields)
        0 both.mid more in
        subst (λ (r : Ran TrialPlay). least ≤ counted r.now) both.second kept

-- ---- rounds

most_kept : (n : ℕ) → IsPlayed (λ t. t.most ≡ n)
most_kept n = record {
  seats = record {
    phases = record {
      saying = λ e t s f h. h;
      taking = λ who t f h. heard who (next_bytes (number_of who) t.broker) (with_entry (take_entry who t) t) h;
      sending = was_sent;
    };
    joining = λ role t f h. h;
    adding = λ t h. h;
  };
  editing = λ k edit t h. h;
  committing = λ batch t h. h;
  pausing = λ k is_paused t h. h;
  showing = λ lines t h. h;
}
  where
    heard : (who : Whose) (piece : List ℕ) (t : TrialPlay) → t.most ≡ n → (hears who piece t).most ≡ n
    heard whose.Method piece t h = h
    heard (whose.Field k) piece t h = h

    was_sent : (who : Whose) (t : TrialPlay) → t.most ≡ n → (sent who t).most ≡ n
    was_sent whose.Method t h = h
    was_sent (whose.Field k) t h = h

rounds_quiet : (most n : ℕ) (t after : TrialPlay) → t.most ≡ suc most → rounds n t ≡ went after →
    (is_quiet after ≡ true) ⊎ (n + counted t ≤ counted after)
unfolding rounds
rounds_quiet most zero t after m e =
    inr (let same : counted t ≡ counted after = ap counted (same_went t after e) in omega arith)
rounds_quiet most (suc n) t after m e =
    by (is_quiet t) refl e (λ mid w s. rounds_quiet most n mid after w s)
  where
    by : (quiet : Bool) → is_quiet t ≡ quiet → (if quiet then went t else round t >>= rounds n) ≡ went after →
        ((mid : TrialPlay) → mid.most ≡ suc most → rounds n mid ≡ went after →
        (is_quiet after ≡ true) ⊎ (n + counted mid ≤ counted after)) →
        (is_quiet after ≡ true) ⊎ (suc n + counted t ≤ counted after)
    by true q h later = inl (subst (λ (u : TrialPlay). is_quiet u ≡ true) (same_went t after h) q)
    by false q h later = last (later both.mid kept both.second)
      where
        both : IsBoth (round t) (rounds n) after
        both = both_went (round t) (rounds n) after h

        kept : both.mid.most ≡ suc most
        kept =
            subst (λ (r : Ran TrialPlay). r.now.most ≡ suc most) both.first
            (round_keeps (λ u. u.most ≡ suc most) (most_kept (suc most)).seats.phases t m)

        more : 1 + counted t ≤ counted both.mid
        more = round_moves most t both.mid m q both.first

        last : (is_quiet after ≡ true) ⊎ (n + counted both.mid ≤ counted after) →
            (is_quiet after ≡ true) ⊎ (suc n + counted t ≤ counted after)
        last (inl is) = inl is
        last (inr most-more) = inr (let k = more in omega arith)

-- ---- lines

record IsGoing (limit : ℕ) (t : TrialPlay) : Type 0 where
  limited : IsWithin limit t.broker
  rounds-are : t.most ≡ limit + 1

line_quiet : (limit time : ℕ) (action : Action) (t after : TrialPlay) → IsGoing limit t →
    line_played time action t ≡ went after → is_quiet after ≡ true
unfolding line_played
line_quiet limit time action t after g e =
    let both = both_went (acted time action t) (λ now. rounds now.most now) after e in
    let most : both.mid.most ≡ limit + 1 =
    subst (λ (r : Ran TrialPlay). r.now.most ≡ limit + 1) both.first
    (acted_keeps (λ u. u.most ≡ limit + 1) (most_kept (limit + 1)) time action t g.rounds-are) in
    let last : IsWithin limit after.broker =
    subst (λ (r : Ran TrialPlay). IsWithin limit r.now.broker) e
    (line_keeps (λ u. IsWithin limit u.broker) (within limit) time action t g.limited) in
    by both most last.1
    (rounds_quiet limit both.mid.most both.mid after (most ∙ (let s : limit + 1 ≡ suc limit = omega arith in s))
    both.second)
  where
    by : (both : IsBoth (acted time action t) (λ now. rounds now.most now) after) → both.mid.most ≡ limit + 1 →
        counted after ≤ limit → (is_quiet after ≡ true) ⊎ (both.mid.most + counted both.mid ≤ counted after) →
        is_quiet after ≡ true
    by both m l (inl is) = is
    by both m l (inr more) = absurd (omega arith)

-- the last of actions
actions_quiet : (limit time : ℕ) (first : Action) (more : List Action) (t after : TrialPlay) → IsGoing limit t →
    actions_played time (first ∷ more) t ≡ went after → is_quiet after ≡ true
unfolding actions_played
actions_quiet limit time first [] t after g e =
    let both = both_went (line_played time first t) (actions_played ((time + 1) % 2 ^ 32) []) after e in
    subst (λ (u : TrialPlay). is_quiet u ≡ true) (same_went both.mid after both.second)
    (line_quiet limit time first t both.mid g both.first)
actions_quiet limit time first (second ∷ more) t after g e =
    let both = both_went (line_played time first t) (actions_played ((time + 1) % 2 ^ 32) (second ∷ more)) after e in
    let still : IsGoing limit both.mid = record {
      limited =
          subst (λ (r : Ran TrialPlay). IsWithin limit r.now.broker) both.first
          (line_keeps (λ u. IsWithin limit u.broker) (within limit) time first t
          g.limited);
      rounds-are =
          subst (λ (r : Ran TrialPlay). r.now.most ≡ limit + 1) both.first
          (line_keeps (λ u. u.most ≡ limit + 1) (most_kept (limit + 1)) time first t g.rounds-are);
    } in
    actions_quiet limit ((time + 1) % 2 ^ 32) second more both.mid after still both.second

-- ---- the whole

pub rounds_end_quiet : RoundsEndQuiet
unfolding played_with
rounds_end_quiet limits script first more t a some e =
    let start : TrialPlay = unplayed limits (typist_of script) in
    let time : ℕ = script.first_line % 2 ^ 32 in
    let parts : ((method_joined start >>= fields_joined script.fields) >>= actions_played time script.actions)
    ≡ went t =
    ap (λ (none : Bool). if none then went start
    else (method_joined start >>= fields_joined script.fields) >>= actions_played time script.actions)
    (sym (ne_eqb script.fields 0 (λ z. omega arith))) ∙ e in
    let both = both_went (method_joined start >>= fields_joined script.fields) (actions_played time script.actions)
    t parts in
    let joined = both_went (method_joined start) (fields_joined script.fields) both.mid both.first in
    let limit : ℕ = limits.entries in
    let going : IsGoing limit both.mid = record {
      limited =
          subst (λ (r : Ran TrialPlay). IsWithin limit r.now.broker) joined.second
          (fields_keep (λ u. IsWithin limit u.broker) (within limit).seats script.fields
          joined.mid
          (subst (λ (r : Ran TrialPlay). IsWithin limit r.now.broker) joined.first
          (method_keeps (λ u. IsWithin limit u.broker) (within limit).seats start
          (refl, omega arith))));
      rounds-are =
          subst (λ (r : Ran TrialPlay). r.now.most ≡ limit + 1) joined.second
          (fields_keep (λ u. u.most ≡ limit + 1) (most_kept (limit + 1)).seats script.fields joined.mid
          (subst (λ (r : Ran TrialPlay). r.now.most ≡ limit + 1) joined.first
          (method_keeps (λ u. u.most ≡ limit + 1) (most_kept (limit + 1)).seats start refl)));
    } in
    actions_quiet limit time first more both.mid t going
    (ap (λ (l : List Action). actions_played time l both.mid) (sym a) ∙ both.second)
