-- What a broker's calls lead to is where calls of the shared state lead.
use Rattle.std.proofs.Common.{◌≡◌, ℕ, List, [], ◌∷◌, ◌++◌, map, false, Option, Some, None, Ok, Err, ap, refl, subst, sym, ◌∙◌}
use Rattle.std.specs.Prelude.{Result}
use Rattle.std.specs.List.{AllByRecursion}
use Rattle.wl_wire.specs.Messages.{messages, behind, bad_size}
use Rattle.broker_steps.specs.declared.limits.Limits.{Limits}
use Rattle.broker_steps.specs.declared.stamp.Stamp.{Stamp}
use Rattle.broker_steps.specs.declared.step.Step.TheVariants as steps
use Rattle.broker_steps.specs.declared.step.PeerStep.TheVariants as peers
use Rattle.relay_model.specs.declared.act.EndCause.TheVariants.{Gone}
use Rattle.broker_model.specs.declared.journal.Entry.{Entry}
use Rattle.broker_model.specs.declared.journal.Entry.TheVariants as entries
use Rattle.broker_model.specs.Stamps.{follows}
use Rattle.broker_model.proofs.EachElement.{each_append}
use Rattle.broker_core.specs.declared.answers.Refused.{Refused}
use Rattle.broker_core.specs.declared.answers.Refused.TheVariants as refused
use Rattle.broker_core.specs.Broker.{Broker, begun, letting_go, peer_refusal, refusal, with_step}
use Rattle.broker_core.specs.Calls.{after_calls, steps_of as steps_put, IsOfCalls}
use Rattle.broker_core.specs.Calls.Call.{Put, LettingGo}
use Rattle.broker_core.specs.Taking.{standing_of}
use Rattle.broker_core.proofs.StampsOfCalls.{call_law}
use Rattle.broker_cutter.specs.Steps.{message_entry, bad_entries, steps_in}
use Rattle.c_broker.specs.Called.{IsLedTo, IsOfSteps}
use Rattle.c_broker.specs.Steps.{Led, unless_refused, led, Plays}
use Rattle.c_broker.specs.Seated.{all_gone, ending, ending_from, stopping, token_steps, steps_of, Received}

abbrev AreOwn : List Entry → Type 0
AreOwn es = AllByRecursion (λ e. follows e ≡ false) es

module _ (limits : Limits) where
  pub begins : IsLedTo limits (begun limits)
  begins = record { calls = []; own = tt; leads = refl }

  put : (e : Entry) (given : Stamp) (b : Broker) → follows e ≡ false → IsLedTo limits b →
      IsLedTo limits (with_step e given b)
  put e given b f h = record {
    calls = Put e given ∷ h.calls;
    own = (f, h.own);
    leads = ap (with_step e given) h.leads;
  }

  gone : (n : ℕ) (b : Broker) → IsLedTo limits b → IsLedTo limits (letting_go n b)
  gone n b h = record { calls = LettingGo n ∷ h.calls; own = (tt, h.own); leads = ap (letting_go n) h.leads }

  pub stepped : (e : Entry) (given : Stamp) (b : Broker) → follows e ≡ false → IsLedTo limits b →
      IsLedTo limits (all_gone (with_step e given b))
  stepped e given b f h = gone _ (with_step e given b) (put e given b f h)

  -- steps of a peer

  unless : (o : Option Refused) (b : Broker) (next : Led) → IsLedTo limits b → IsLedTo limits next.broker →
      IsLedTo limits (unless_refused o b next).broker
  unless None b next h k = k
  unless (Some why) b next h k = h

  led_to : (q : ℕ) (given : Stamp) (es : List Entry) (b : Broker) → AreOwn es → IsLedTo limits b →
      IsLedTo limits (led q given es b).broker
  led_to q given [] b own h = h
  led_to q given (e ∷ rest) b own h =
      unless (peer_refusal b e (standing_of b.journal q)) b (led q given rest (with_step e given b)) h
      (led_to q given rest (with_step e given b) own.1 (put e given b own.0 h))

  led_as : (q : ℕ) (given : Stamp) (es : List Entry) (b after : Broker) (o : Option Refused) → AreOwn es →
      led q given es b ≡ record { broker = after; refused = o } → IsLedTo limits b → IsLedTo limits after
  led_as q given es b after o own e h =
      subst (λ (x : Broker). IsLedTo limits x) (ap (λ (l : Led). l.broker) e) (led_to q given es b own h)

  first_own : (xs ys : List Entry) → AreOwn (xs ++ ys) → AreOwn xs
  first_own [] ys h = tt
  first_own (x ∷ xs) ys h = (h.0, first_own xs ys h.1)

  plays_to : {T : Type 0} (q : ℕ) (given : Stamp) (es : List Entry) (b after : Broker) (r : Result T Refused) →
      AreOwn es → Plays q given es b r after → IsLedTo limits b → IsLedTo limits after
  plays_to q given es b after (Ok done) own p h = led_as q given es b after None own p h
  plays_to q given es b after (Err refused.NoMemory) own p h =
      led_as q given p.0 b after None (first_own p.0 p.1 (subst AreOwn p.2 own)) p.3 h
  plays_to q given es b after (Err refused.NoPeer) own p h = led_as q given es b after _ own p h
  plays_to q given es b after (Err (refused.Ended cause)) own p h = led_as q given es b after _ own p h
  plays_to q given es b after (Err (refused.JournalFull kept)) own p h = led_as q given es b after _ own p h

  -- and a peer that ends where its bytes can't be read on

  ends_from : (q : ℕ) (given : Stamp) (b : Broker) (o : Option Refused) → IsLedTo limits b →
      IsLedTo limits (ending_from o (with_step (entries.End q Gone) given b) b)
  ends_from q given b None h = put (entries.End q Gone) given b refl h
  ends_from q given b (Some why) h = h

  ends : (q : ℕ) (given : Stamp) (b : Broker) → IsLedTo limits b → IsLedTo limits (ending q given b)
  ends q given b h = ends_from q given b (refusal b (steps.Peer q peers.Gone)) h

  stops : (q : ℕ) (given : Stamp) (r : Result (Unit {0}) Refused) (b : Broker) → IsLedTo limits b →
      IsLedTo limits (stopping q given r b)
  stops q given (Ok done) b h = h
  stops q given (Err refused.NoPeer) b h = h
  stops q given (Err (refused.Ended cause)) b h = h
  stops q given (Err (refused.JournalFull kept)) b h = ends q given b h
  stops q given (Err refused.NoMemory) b h = ends q given b h

  -- what a peer sent

  own_tokens : (q : ℕ) (tokens : List ℕ) → AreOwn (token_steps q tokens)
  own_tokens q [] = tt
  own_tokens q (token ∷ rest) = (refl, tt)

  own_messages : (q : ℕ) (ms : List (List ℕ)) → AreOwn (map (message_entry q) ms)
  own_messages q [] = tt
  own_messages q (m ∷ ms) = (refl, own_messages q ms)

  own_bad : (q : ℕ) (rest : List ℕ) (o : Option ℕ) → AreOwn (bad_entries q rest o)
  own_bad q rest None = tt
  own_bad q rest (Some size) = (refl, tt)

  own_steps : (q : ℕ) (waits bytes tokens : List ℕ) → AreOwn (steps_of q waits bytes tokens)
  own_steps q waits bytes tokens =
      each_append (λ e. follows e ≡ false) (token_steps q tokens) (steps_in q (waits ++ bytes)) (own_tokens q tokens)
      (each_append (λ e. follows e ≡ false) (map (message_entry q) (messages (waits ++ bytes)))
      (bad_entries q (behind (waits ++ bytes)) (bad_size (waits ++ bytes)))
      (own_messages q (messages (waits ++ bytes)))
      (own_bad q (behind (waits ++ bytes)) (bad_size (waits ++ bytes))))

  pub received : (q : ℕ) (given : Stamp) (waits bytes tokens : List ℕ) (b after : Broker)
      (r : Result (Unit {0}) Refused) → Received q given (steps_of q waits bytes tokens) b r after →
      IsLedTo limits b → IsLedTo limits after
  received q given waits bytes tokens b after r p h =
      let mid : IsLedTo limits p.broker =
      plays_to q given (steps_of q waits bytes tokens) b p.broker r (own_steps q waits bytes tokens) p.plays h in
      subst (λ (x : Broker). IsLedTo limits x) (sym p.gone)
      (gone _ (stopping q given r p.broker) (stops q given r p.broker mid))

  pub of_steps : (b : Broker) → IsLedTo limits b → IsOfSteps limits b
  of_steps b h =
      let o : IsOfCalls limits h.calls (after_calls limits h.calls) = call_law limits h.calls h.own in
      record {
        steps = steps_put h.calls;
        allowed = ap (λ (x : Broker). x.limits) h.leads ∙ o.allowed;
        is = ap (λ (x : Broker). x.journal) h.leads ∙ o.steps;
      }
