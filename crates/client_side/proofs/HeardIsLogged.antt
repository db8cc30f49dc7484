-- A client's log goes on by what a hearer of its events is told.
use Rattle.std.proofs.Common.{◌≡◌, ℕ, List, [], ◌∷◌, ◌++◌, map, reverse, sym, ◌∙◌, ap, subst}
use Rattle.std.proofs.lemmas.List.{append-nil, map_push, reverse-append}
use Rattle.wl_proto.specs.declared.event.Event.{Event}
use Rattle.wl_proto.specs.declared.event.Event.TheVariants as events
use Rattle.trial_field.specs.Log.{Batch}
use Rattle.compose_method.specs.Typists.{Meanings}
use Rattle.client_side.specs.Client.{after_all}
use Rattle.client_side.specs.Happenings.{Happening, batch, entered, left}
use Rattle.client_side.specs.FieldState as field
use Rattle.client_side.specs.MethodLog as typist
use Rattle.client_side.specs.MethodState as method
use Rattle.client_side.specs.Heard.{telling, happened, came}
use Rattle.client_side.specs.Laws.{FieldLogGoesOn, FieldLogIsHeard, MethodLogGoesOn, MethodLogIsHeard}
use Rattle.client_side.proofs.LogGoesOn.{one_event, all_events}
use Rattle.client_side.proofs.MethodLogGoesOn.{method_happened, all_came}

-- the newest of what was told stands before the rest of it
newest_first : {E : Type 0} (told : List E) (thing : E) (log : List E) →
    thing ∷ (reverse told ++ log) ≡ reverse (told ++ thing ∷ []) ++ log
newest_first told thing log = ap (λ l. l ++ log) (sym (reverse-append told (thing ∷ [])))

-- where nothing more is told
none_told : {E : Type 0} (told log : List E) → reverse told ++ log ≡ reverse (told ++ []) ++ log
none_told told log = ap (λ l. reverse l ++ log) (sym (append-nil told))

-- what an event makes happen is what is told of it
logged_is_told : (event : Event) (pending : Batch) (told log : List Happening) →
    field.logged event pending (reverse told ++ log) ≡ reverse (told ++ field.logged event pending []) ++ log
logged_is_told (events.Enter surface) pending told log = newest_first told entered log
logged_is_told (events.Leave surface) pending told log = newest_first told left log
logged_is_told (events.TextInputDone serial) pending told log = newest_first told (batch pending serial) log
logged_is_told _ pending told log = none_told told log

-- behind what was told before
field_told : (events : List Event) (s : field.State) (told log : List Happening) (sent : List ℕ) →
    field.HasLog (reverse told ++ log) sent s →
    let end = after_all (telling field.after_event happened) events (s, told) in
    field.HasLog (reverse end.1 ++ log) sent end.0
field_told [] s told log sent has = has
field_told (event ∷ more) s told log sent has =
    field_told more (field.after_event event s) (told ++ happened event s) log sent
    (subst (λ (l : List Happening). field.HasLog l sent (field.after_event event s))
    (logged_is_told event s.pending told log) (one_event event (reverse told ++ log) sent s has))

pub field_log_goes_on : FieldLogGoesOn
field_log_goes_on old events log sent has = all_events events log sent old has

pub field_log_is_heard : FieldLogIsHeard
field_log_is_heard old new events told log sent is has =
    subst (λ (p : field.State × List Happening). field.HasLog (reverse p.1 ++ log) sent p.0) (sym is)
    (field_told events old [] log sent has)

module _ {S : Type 0} (means : Meanings S) where
  -- of the method each event is told
  came_told : (told : List Event) (event : Event) (log : List typist.Happening) →
      typist.came event ∷ (reverse (map typist.came told) ++ log)
      ≡ reverse (map typist.came (told ++ event ∷ [])) ++ log
  came_told told event log =
      newest_first (map typist.came told) (typist.came event) log
      ∙ ap (λ (l : List typist.Happening). reverse l ++ log) (sym (map_push typist.came told event))

  method_told : (events : List Event) (first : S) (s : method.State S) (told : List Event)
      (log : List typist.Happening) (sent : List ℕ) →
      method.HasLog means first (reverse (map typist.came told) ++ log) sent s →
      let end = after_all (telling (method.after_event means) came) events (s, told) in
      method.HasLog means first (reverse (map typist.came end.1) ++ log) sent end.0
  method_told [] first s told log sent has = has
  method_told (event ∷ more) first s told log sent has =
      method_told more first (method.after_event means event s) (told ++ event ∷ []) log sent
      (subst (λ (l : List typist.Happening). method.HasLog means first l sent (method.after_event means event s))
      (came_told told event log)
      (method_happened means (typist.came event) first (reverse (map typist.came told) ++ log) sent s has))

  pub method_log_goes_on : MethodLogGoesOn means
  method_log_goes_on first old events log sent has = all_came means events first log sent old has

  pub method_log_is_heard : MethodLogIsHeard means
  method_log_is_heard first old new events told log sent is has =
      subst (λ (p : method.State S × List Event).
      method.HasLog means first (reverse (map typist.came p.1) ++ log) sent p.0) (sym is)
      (method_told events first old [] log sent has)
