-- A trial as far as it is played: the shared state, the clients of its peers, and what was shown.
use Rattle.std.specs.Prelude.{ℕ, zero, suc, ◌+◌, List, [], ◌∷◌, Bool, false, Option, Some, None}
use Rattle.std.specs.List.{slice_get}
use Rattle.trial_field.specs.Log.{Entry, Batch}
use Rattle.trial_field.specs.FieldText as texts
use Rattle.trial_field.specs.FieldText.{FieldText}
use Rattle.client_side.specs.Client.{Client}
use Rattle.client_side.specs.Events.{field_objects, method_objects}
use Rattle.client_side.specs.Happenings.{edited}
use Rattle.client_side.specs.FieldState as field
use Rattle.client_side.specs.MethodLog.{committed}
use Rattle.client_side.specs.MethodState as method
use Rattle.broker_core.specs.Broker.{Broker}
use Rattle.trial_run.specs.declared.whose.Whose.{Whose}
use Rattle.trial_run.specs.declared.whose.Whose.TheVariants as whose
use Rattle.trial_run.specs.Hearing.{received}
use Rattle.trial_run.specs.Typists.{meanings_of}
use Rattle.trial_run.specs.declared.typist.TrialTypist.{TrialTypist}

-- a field's client, and whether it stopped reading
pub record FieldPlay : Type 0 where
  pub client : Client field.State
  pub is_paused : Bool

-- The most takes of a turn, and rounds after an action, are one more than the entries that a
-- journal can have, so that they never run out.
pub record TrialPlay : Type 0 where
  pub most : ℕ
  pub broker : Broker
  pub method : Client (method.State TrialTypist)
  pub fields : List FieldPlay
  pub shown : List ℕ

-- ---- clients that were just made

abbrev pub new_field : FieldPlay
new_field = record {
  client = record { state = field.new_state; held = []; is_bad = false };
  is_paused = false;
}

abbrev pub new_method : TrialTypist → Client (method.State TrialTypist)
new_method typist = record { state = method.new_state typist; held = []; is_bad = false }

-- ---- one client

-- the method's peer has the number 1, and the field with the index k the number k + 2
abbrev pub number_of : Whose → ℕ
number_of whose.Method = 1
number_of (whose.Field k) = k + 2

abbrev pub changed : ℕ → (FieldPlay → FieldPlay) → List FieldPlay → List FieldPlay
changed k f [] = []
changed zero f (x ∷ xs) = f x ∷ xs
changed (suc k) f (x ∷ xs) = x ∷ changed k f xs

-- the field with the index k is another
abbrev pub with_field : ℕ → (FieldPlay → FieldPlay) → TrialPlay → TrialPlay
with_field k f t = record t { fields = changed k f t.fields }

abbrev pub sends_in : Option FieldPlay → List ℕ
sends_in None = []
sends_in (Some f) = f.client.state.to_send

-- the bytes that wait to be sent
abbrev pub to_send : Whose → TrialPlay → List ℕ
to_send whose.Method t = t.method.state.to_send
to_send (whose.Field k) t = sends_in (slice_get t.fields k)

abbrev pub pause_in : Option FieldPlay → Bool
pause_in None = false
pause_in (Some f) = f.is_paused

-- it stopped reading, as only fields do
abbrev pub is_paused : Whose → TrialPlay → Bool
is_paused whose.Method t = false
is_paused (whose.Field k) t = pause_in (slice_get t.fields k)

abbrev pub field_hears : List ℕ → FieldPlay → FieldPlay
field_hears piece f = record f { client = received field.after_event field_objects piece f.client }

-- it received a piece
abbrev pub hears : Whose → List ℕ → TrialPlay → TrialPlay
hears whose.Method piece t =
    record t { method = received (method.after_event meanings_of) method_objects piece t.method }
hears (whose.Field k) piece t = with_field k (field_hears piece) t

abbrev pub field_sent : FieldPlay → FieldPlay
field_sent f =
    record f { client = record f.client { state = record f.client.state { to_send = [] } } }

-- what waited was sent, or is dropped where its peer ended
abbrev pub sent : Whose → TrialPlay → TrialPlay
sent whose.Method t =
    record t { method = record t.method { state = record t.method.state { to_send = [] } } }
sent (whose.Field k) t = with_field k field_sent t

-- ---- what a user does

abbrev pub field_edits : Entry → FieldPlay → FieldPlay
field_edits edit f =
    record f { client = record f.client { state = field.happens (edited edit) f.client.state } }

-- the field's own user edits it
abbrev pub edits : ℕ → Entry → TrialPlay → TrialPlay
edits k edit t = with_field k (field_edits edit) t

-- the method's user commits edits
abbrev pub commits : Batch → TrialPlay → TrialPlay
commits batch t =
    record t {
      method =
          record t.method { state = method.happens meanings_of (committed batch) t.method.state };
    }

-- the field stops reading, or goes on
abbrev pub pauses : ℕ → Bool → TrialPlay → TrialPlay
pauses k is_paused t = with_field k (λ f. record f { is_paused = is_paused }) t

-- ---- what is shown of a field

abbrev pub text_in : Option FieldPlay → FieldText
text_in None = texts.text_of []
text_in (Some f) = f.client.state.field.text

abbrev pub text_at : ℕ → TrialPlay → FieldText
text_at k t = text_in (slice_get t.fields k)
