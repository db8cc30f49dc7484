-- The method's client's log goes on with what happens.
use Rattle.std.proofs.Common.{◌≡◌, ℕ, List, [], ◌∷◌, ◌++◌, sym, ◌∙◌, ap, subst}
use Rattle.std.proofs.lemmas.List.{append_assoc}
use Rattle.wl_proto.specs.declared.event.Event.{Event}
use Rattle.compose_method.specs.Typists.{Meanings}
use Rattle.client_side.specs.Messages.{spelled, method_setup}
use Rattle.client_side.specs.Client.{after_all}
use Rattle.client_side.specs.MethodLog.{Happening, came, typist_after, sent_for, typist_of, sends_of}
use Rattle.client_side.specs.MethodState.{State, happens, after_event, log_after, HasLog, GoesOn}
use Rattle.client_side.proofs.SpelledInTurn.{spelled-append}

module _ {S : Type 0} (means : Meanings S) where
  -- one thing more happened
  pub method_happened : (h : Happening) (first : S) (log : List Happening) (sent : List ℕ) (s : State S)
      → HasLog means first log sent s
      → HasLog means first (h ∷ log) sent (happens means h s)
  method_happened h first log sent s has =
      let now = typist_of means first log in
      let more = ap (sent_for means h) has.typist in
      record {
        typist = ap (typist_after means h) has.typist;
        bytes =
            sym (append_assoc sent s.to_send (spelled (sent_for means h s.typist)))
            ∙ ap (λ b. b ++ spelled (sent_for means h s.typist)) has.bytes
            ∙ ap (λ m. (spelled method_setup ++ spelled (sends_of means first log)) ++ spelled m) more
            ∙ append_assoc (spelled method_setup) (spelled (sends_of means first log)) (spelled (sent_for means h now))
            ∙ ap (λ b. spelled method_setup ++ b)
            (sym (spelled-append (sends_of means first log) (sent_for means h now)));
      }

  -- however many events came
  pub all_came : (events : List Event) (first : S) (log : List Happening) (sent : List ℕ) (s : State S)
      → HasLog means first log sent s
      → HasLog means first (log_after events log) sent (after_all (after_event means) events s)
  all_came [] first log sent s has = has
  all_came (event ∷ more) first log sent s has =
      all_came more first (came event ∷ log) sent (after_event means event s)
      (method_happened (came event) first log sent s has)

  -- whatever events came
  pub method_goes_on : (old new : State S) (events : List Event) (first : S) (log : List Happening) (sent : List ℕ)
      → new ≡ after_all (after_event means) events old → HasLog means first log sent old →
      GoesOn means first old new log sent
  method_goes_on old new events first log sent is has =
      let then = all_came events first log sent old has in
      let at-new = subst (λ s. HasLog means first (log_after events log) sent s) (sym is) then in
      record { events = events; state-is = is; has = at-new }
