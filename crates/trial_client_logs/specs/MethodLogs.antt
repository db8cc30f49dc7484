-- The log of the method as it is written down, and as the definitions of clients have it
use Rattle.std.specs.Prelude.{◌≡◌, ℕ, List, [], ◌∷◌, ◌++◌, map, option_map, string_bytes}
use Rattle.std.specs.Borrow.{Bor}
use Rattle.wl_proto.specs.declared.event.Event.{Event}
use Rattle.wl_proto.specs.declared.event.Event.TheVariants as events
use Rattle.client_side.specs.MethodLog.{Happening, came, committed}
use Rattle.client_side.specs.MethodState as method
use Rattle.trial_client_logs.specs.declared.heard_event.HeardEvent.{HeardEvent}
use Rattle.trial_client_logs.specs.declared.heard_event.HeardEvent.TheVariants as heard
use Rattle.trial_client_logs.specs.declared.method_log.MethodEntry.{MethodEntry}
use Rattle.trial_client_logs.specs.declared.method_log.MethodEntry.TheVariants as entries
use Rattle.trial_client_logs.specs.Logs.{batch_of}

-- a text, wherever it lies
abbrev pub anywhere : List ℕ → Bor (List ℕ)
anywhere t = record { ref_ptr = (0, 0); now = t }

abbrev pub lent_anywhere : Bor (List ℕ) → Bor (List ℕ)
lent_anywhere t = anywhere t.now

-- the event, wherever its text lies
abbrev pub settled : Event → Event
settled (events.Error object code message) = events.Error object code (anywhere message.now)
settled (events.Global name interface version) =
    events.Global name (anywhere interface.now) version
settled (events.PreeditString t begin end) =
    events.PreeditString (option_map lent_anywhere t) begin end
settled (events.CommitString t) = events.CommitString (option_map lent_anywhere t)
settled (events.SurroundingText text cursor anchor) =
    events.SurroundingText (anywhere text.now) cursor anchor
settled event = event

-- the event that was heard
abbrev pub event_of : HeardEvent → Event
event_of (heard.Error object code message) =
    events.Error object code (anywhere (string_bytes message))
event_of (heard.DeleteId id) = events.DeleteId id
event_of (heard.Global name interface version) =
    events.Global name (anywhere (string_bytes interface)) version
event_of (heard.GlobalRemove name) = events.GlobalRemove name
event_of (heard.CallbackDone value) = events.CallbackDone value
event_of (heard.Capabilities value) = events.Capabilities value
event_of (heard.Enter surface) = events.Enter surface
event_of (heard.Leave surface) = events.Leave surface
event_of (heard.PreeditString t begin end) =
    events.PreeditString (option_map (λ t. anywhere (string_bytes t)) t) begin end
event_of (heard.CommitString t) =
    events.CommitString (option_map (λ t. anywhere (string_bytes t)) t)
event_of (heard.DeleteSurroundingText before behind) = events.DeleteSurroundingText before behind
event_of (heard.TextInputDone serial) = events.TextInputDone serial
event_of heard.Activate = events.Activate
event_of heard.Deactivate = events.Deactivate
event_of (heard.SurroundingText text cursor anchor) =
    events.SurroundingText (anywhere (string_bytes text)) cursor anchor
event_of (heard.TextChangeCause cause) = events.TextChangeCause cause
event_of (heard.ContentType hint purpose) = events.ContentType hint purpose
event_of heard.InputMethodDone = events.InputMethodDone
event_of heard.Unavailable = events.Unavailable
event_of (heard.TextInputRectangle x y width height) =
    events.TextInputRectangle x y width height
event_of (heard.Keymap format token size) = events.Keymap format token size
event_of (heard.Key serial time key state) = events.Key serial time key state
event_of (heard.Modifiers serial depressed latched locked group) =
    events.Modifiers serial depressed latched locked group
event_of (heard.RepeatInfo rate delay) = events.RepeatInfo rate delay

-- the event was heard so
abbrev pub IsHeard : Event → HeardEvent → Type 0
IsHeard event h = event_of h ≡ settled event

-- what an entry says
abbrev pub happening_of : MethodEntry → Happening
happening_of (entries.Event h) = came (event_of h)
happening_of (entries.Batch edits) = committed (batch_of edits)

-- the log, the newest first
abbrev pub method_log : List MethodEntry → List Happening
method_log [] = []
method_log (entry ∷ later) = method_log later ++ happening_of entry ∷ []

-- the log of a client to which these events came
abbrev pub log_after : {S : Type 0} → List Event → S → List Happening → List Happening
log_after events s log = method.log_after (map settled events) log
