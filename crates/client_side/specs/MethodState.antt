-- The method's client between two calls, and what its events do.
use Rattle.std.specs.Prelude.{◌≡◌, ℕ, List, [], ◌∷◌, ◌++◌}
use Rattle.wl_proto.specs.declared.event.Event.{Event}
use Rattle.compose_method.specs.Typists.{Meanings}
use Rattle.client_side.specs.Messages.{spelled, method_setup}
use Rattle.client_side.specs.Client.{after_all}
use Rattle.client_side.specs.MethodLog.{Happening, came, Typist, new_typist, typist_after, sent_for, typist_of, sends_of}

-- what is typed, and the bytes to send
pub record State (S : Type 0) : Type 0 where
  pub typist : Typist S
  pub to_send : List ℕ

-- a new client has its set-up to send
abbrev pub new_state : {S : Type 0} → S → State S
new_state first = record { typist = new_typist first; to_send = spelled method_setup }

abbrev pub happens : {S : Type 0} → Meanings S → Happening → State S → State S
happens means h s = record {
  typist = typist_after means h s.typist;
  to_send = s.to_send ++ spelled (sent_for means h s.typist);
}

abbrev pub after_event : {S : Type 0} → Meanings S → Event → State S → State S
after_event means event s = happens means (came event) s

-- the events came, the last of them the newest
abbrev pub log_after : List Event → List Happening → List Happening
log_after [] log = log
log_after (event ∷ more) log = log_after more (came event ∷ log)

-- the client is as this log made it from its typist's first state, and sent these bytes before
-- those that it has to send
pub record HasLog {S : Type 0} (means : Meanings S) (first : S) (log : List Happening)
    (sent : List ℕ) (s : State S)
    : Type 0 where
  pub typist : s.typist ≡ typist_of means first log
  pub bytes : sent ++ s.to_send ≡ spelled method_setup ++ spelled (sends_of means first log)

-- events came, and the log goes on by them
pub record GoesOn {S : Type 0} (means : Meanings S) (first : S) (old new : State S)
    (log : List Happening)
    (sent : List ℕ) : Type 0 where
  pub events : List Event
  pub state-is : new ≡ after_all (after_event means) events old
  pub has : HasLog means first (log_after events log) sent new
