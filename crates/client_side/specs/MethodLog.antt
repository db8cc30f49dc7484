-- The method's client by its log: what it typed, the dones that came, and what it sent. The newest
-- comes first.
use Rattle.std.specs.Prelude.{ℕ, pos, ◌+◌, ◌%◌, ◌^◌, ◌==◌, List, [], ◌∷◌, ◌++◌, length, Option, Some, None, if◌then◌else◌}
use Rattle.wl_proto.specs.declared.event.Event.{Event}
use Rattle.wl_proto.specs.declared.event.Event.TheVariants as events
use Rattle.trial_field.specs.Log.{Batch}
use Rattle.compose_method.specs.Typists.{Meanings}
use Rattle.client_side.specs.Messages.{Sent}
use Rattle.client_side.specs.MethodSends.{batch_sent}

-- an event, or a batch that its user commits
pub data Happening : Type 0 where
  came : Event → Happening
  committed : Batch → Happening

-- the state of what types, and how many dones came, modulo 2^32
pub record Typist (S : Type 0) : Type 0 where
  pub typing : S
  pub dones : ℕ

-- a batch of a string and a preedit, with both cursors at its end
abbrev pub batch_with : List ℕ → List ℕ → Batch
batch_with string preedit = record {
  before = 0;
  after = 0;
  string = string;
  preedit = preedit;
  begin = pos (length preedit);
  end = pos (length preedit);
}

-- what is sent of what a press gives
abbrev pub given_sent : Option (List ℕ × List ℕ) → ℕ → List Sent
given_sent None dones = []
given_sent (Some batch) dones = batch_sent (batch_with batch.0 batch.1) dones

-- what a press sends; nothing where it gives no batch
abbrev pub press_sent : {S : Type 0} → Meanings S → ℕ → Typist S → List Sent
press_sent means key t = given_sent (means.gives key t.typing) t.dones

-- a key counts when it is pressed; a done is counted, and what types takes it, as any other event
abbrev pub typist_after : {S : Type 0} → Meanings S → Happening → Typist S → Typist S
typist_after means (came (events.Key serial time key state)) t =
    if state == 1 then record t { typing = means.pressed key t.typing } else t
typist_after means (came events.InputMethodDone) t = record {
  typing = means.after_event events.InputMethodDone t.typing;
  dones = (t.dones + 1) % 2 ^ 32;
}
typist_after means (came event) t = record t { typing = means.after_event event t.typing }
typist_after means (committed edits) t = t

-- a press and a batch are sent, with the number of dones as the serial
abbrev pub sent_for : {S : Type 0} → Meanings S → Happening → Typist S → List Sent
sent_for means (came (events.Key serial time key state)) t =
    if state == 1 then press_sent means key t else []
sent_for means (came event) t = []
sent_for means (committed edits) t = batch_sent edits t.dones

-- a client that nothing happened to, whose typist has this state
abbrev pub new_typist : {S : Type 0} → S → Typist S
new_typist first = record { typing = first; dones = 0 }

-- the typist after all that happened
abbrev pub typist_of : {S : Type 0} → Meanings S → S → List Happening → Typist S
typist_of means first [] = new_typist first
typist_of means first (h ∷ older) = typist_after means h (typist_of means first older)

-- all that the client sent behind its set-up
abbrev pub sends_of : {S : Type 0} → Meanings S → S → List Happening → List Sent
sends_of means first [] = []
sends_of means first (h ∷ older) =
    sends_of means first older ++ sent_for means h (typist_of means first older)
