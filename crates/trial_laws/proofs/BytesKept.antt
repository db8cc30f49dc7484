-- In a trial of a script whose texts are of bytes each message has a body of bytes.
use Rattle.std.proofs.Common.{◌≡◌, ℕ, zero, suc, ◌+◌, ◌-◌, ◌%◌, ◌^◌, Bool, true, false, List, [], ◌∷◌, ◌++◌, Option, Some, None, refl, sym, subst, inl, inr}
use Rattle.std.specs.Prelude.{◌==◌, if◌then◌else◌}
use Rattle.std.specs.List.{AllByRecursion, slice_get}
use Rattle.wl_wire.specs.Texts.{IsBytes}
use Rattle.wl_wire.specs.Messages.{body_of, messages}
use Rattle.wl_wire.proofs.TextsKnown.{is_text-plain}
use Rattle.wl_proto.specs.declared.interface.Interface.{Interface}
use Rattle.wl_proto.specs.declared.interface.Interface.TheVariants as interface
use Rattle.wl_proto.specs.declared.event.Event.{Event}
use Rattle.wl_proto.specs.Names.{name_of}
use Rattle.broker_steps.specs.declared.step.ShellStep.TheVariants as shell
use Rattle.broker_model.specs.declared.journal.Entry.{Entry}
use Rattle.broker_model.specs.declared.journal.Entry.TheVariants as entries
use Rattle.broker_model.specs.Settle.{due, with_end, settled, number_alive}
use Rattle.broker_model.proofs.EachElement.{each_append}
use Rattle.trial_field.specs.Log as logs
use Rattle.client_side.specs.Client.{Client}
use Rattle.client_side.specs.Events.{field_objects, method_objects}
use Rattle.client_side.specs.Messages.{field_setup, method_setup}
use Rattle.client_side.specs.Happenings.{edited}
use Rattle.client_side.specs.FieldState as field_state
use Rattle.client_side.specs.MethodLog.{came, committed}
use Rattle.client_side.specs.MethodState as method_state
use Rattle.trial_script.specs.declared.action.Action.{Action}
use Rattle.trial_script.specs.declared.action.Action.TheVariants as actions
use Rattle.trial_script.specs.declared.action.FieldEdit.{FieldEdit}
use Rattle.trial_script.specs.declared.action.FieldEdit.TheVariants as edit
use Rattle.trial_run.specs.declared.whose.Whose.{Whose}
use Rattle.trial_run.specs.declared.whose.Whose.TheVariants as whose
use Rattle.trial_run.specs.Hearing.{event_in, heard_next, heard, bytes_heard, received}
use Rattle.trial_run.specs.Ran.{went, ◌>>=◌}
use Rattle.trial_run.specs.Steps.{next_bytes}
use Rattle.trial_run.specs.Play.{FieldPlay, TrialPlay, new_field, number_of, changed, with_field, sends_in, to_send, field_hears, hears, field_sent, sent, field_edits, edits, commits}
use Rattle.trial_run.specs.Rounds.{rounds}
use Rattle.trial_run.specs.Typists.{meanings_of}
use Rattle.trial_run.specs.declared.typist.TrialTypist.{TrialTypist}
use Rattle.trial_run.specs.Lines.{surface_id, edit_of, batch_of, acted, line_played, actions_played}
use Rattle.trial_run.specs.Trial.{unplayed, typist_of, method_joined, fields_joined, played_with}
use Rattle.broker_telling.specs.Sayable.{AreBytes, HasBytes}
use Rattle.trial_laws.specs.RelayedAsBatches.{HasByteTexts, MessagesAreBytes}
use Rattle.trial_laws.proofs.PhasesKeep.{IsAmong, Speaks, IsKept, IsSeated, after, take_entry, with_entry, sends_keep, rounds_keep, shell_keeps, pressed_keeps, method_keeps, fields_keep}
use Rattle.trial_laws.proofs.EachByte.{EachByte, AllBytes, is_bytes, each_byte, drop_bytes, messages_bytes, text_of_bytes}
use Rattle.trial_laws.proofs.FieldBytes.{AreByteSent, spelled_bytes, AreFieldBytes, happens_bytes, event_bytes}
use Rattle.trial_laws.proofs.MethodBytes.{AreMethodBytes, method_happens}
use Rattle.trial_laws.proofs.TextsRead.{heard_event}

-- ---- the journal

end_bytes : (journal : List Entry) (o : Option ℕ) → AreBytes journal → AreBytes (with_end journal o)
end_bytes journal None h = h
end_bytes journal (Some q) h = (tt, h)

settled_bytes : (capacity n : ℕ) (journal : List Entry) → AreBytes journal → AreBytes (settled capacity n journal)
settled_bytes capacity zero journal h = h
settled_bytes capacity (suc n) journal h =
    settled_bytes capacity n (with_end journal (due capacity journal)) (end_bytes journal (due capacity journal) h)

-- ---- clients that hear

next_field : (m : List ℕ) (ms : List (List ℕ)) (o : Option Event) (s : field_state.State) →
    event_in field_objects m ≡ o →
    ((u : field_state.State) → AreFieldBytes u →
    AreFieldBytes (heard field_state.after_event field_objects ms u).state) → AreFieldBytes s →
    AreFieldBytes (heard_next field_state.after_event o s (heard field_state.after_event field_objects ms)).state
next_field m ms None s e k h = h
next_field m ms (Some event) s e k h = k (field_state.after_event event s)
    (event_bytes event s (heard_event field_objects m event e) h)

field_heard : (ms : List (List ℕ)) (s : field_state.State) → AreFieldBytes s →
    AreFieldBytes (heard field_state.after_event field_objects ms s).state
field_heard [] s h = h
field_heard (m ∷ ms) s h = next_field m ms (event_in field_objects m) s refl (λ u k. field_heard ms u k) h

field_received : (piece : List ℕ) (c : Client field_state.State) → AreFieldBytes c.state →
    AreFieldBytes (received field_state.after_event field_objects piece c).state
unfolding received
field_received piece c h = by c.is_bad
  where
    by : (b : Bool) →
        AreFieldBytes
        (if b then c else bytes_heard field_state.after_event field_objects (c.held ++ piece) c.state).state
    by true = h
    by false = field_heard (messages (c.held ++ piece)) c.state h

next_method : (ms : List (List ℕ)) (o : Option Event) (s : method_state.State TrialTypist) →
    ((u : method_state.State TrialTypist) → AreMethodBytes u →
    AreMethodBytes (heard (method_state.after_event meanings_of) method_objects ms u).state) → AreMethodBytes s →
    AreMethodBytes
    (heard_next (method_state.after_event meanings_of) o s
    (heard (method_state.after_event meanings_of) method_objects ms)).state
next_method ms None s k h = h
next_method ms (Some event) s k h =
    k (method_state.after_event meanings_of event s) (method_happens (came event) s tt h)

method_heard : (ms : List (List ℕ)) (s : method_state.State TrialTypist) → AreMethodBytes s →
    AreMethodBytes (heard (method_state.after_event meanings_of) method_objects ms s).state
method_heard [] s h = h
method_heard (m ∷ ms) s h = next_method ms (event_in method_objects m) s (λ u k. method_heard ms u k) h

method_received : (piece : List ℕ) (c : Client (method_state.State TrialTypist)) → AreMethodBytes c.state →
    AreMethodBytes (received (method_state.after_event meanings_of) method_objects piece c).state
unfolding received
method_received piece c h = by c.is_bad
  where
    by : (b : Bool) →
        AreMethodBytes
        (if b then c
        else bytes_heard (method_state.after_event meanings_of) method_objects (c.held ++ piece) c.state).state
    by true = h
    by false = method_heard (messages (c.held ++ piece)) c.state h

-- ---- the trial

abbrev IsByteField : FieldPlay → Type 0
IsByteField f = AreFieldBytes f.client.state

record AreTrialBytes (t : TrialPlay) : Type 0 where
  journal : AreBytes t.broker.journal
  method : AreMethodBytes t.method.state
  fields : AllByRecursion IsByteField t.fields

changed_bytes : (k : ℕ) (f : FieldPlay → FieldPlay) (xs : List FieldPlay) →
    ((x : FieldPlay) → IsByteField x → IsByteField (f x)) →
    AllByRecursion IsByteField xs → AllByRecursion IsByteField (changed k f xs)
changed_bytes k f [] h all = tt
changed_bytes zero f (x ∷ xs) h all = (h x all.0, all.1)
changed_bytes (suc k) f (x ∷ xs) h all = (all.0, changed_bytes k f xs h all.1)

field_changed : (k : ℕ) (f : FieldPlay → FieldPlay) (t : TrialPlay) →
    ((x : FieldPlay) → IsByteField x → IsByteField (f x)) → AreTrialBytes t →
    AreTrialBytes (with_field k f t)
field_changed k f t h a =
    record { journal = a.journal; method = a.method; fields = changed_bytes k f t.fields h a.fields }

field_sends : (xs : List FieldPlay) (k : ℕ) → AllByRecursion IsByteField xs → EachByte (sends_in (slice_get xs k))
field_sends [] k h = tt
field_sends (x ∷ xs) zero h = (let f : AreFieldBytes x.client.state = h.0 in f.out)
field_sends (x ∷ xs) (suc k) h = field_sends xs k h.1

sends_bytes : (who : Whose) (t : TrialPlay) → AreTrialBytes t → EachByte (to_send who t)
sends_bytes whose.Method t a = (let m = a.method in m.out)
sends_bytes (whose.Field k) t a = field_sends t.fields k a.fields

among_bytes : (ms : List (List ℕ)) (m : List ℕ) → AllBytes ms → IsAmong ms m → EachByte m
among_bytes [] m h i = absurd i
among_bytes (x ∷ xs) m h (inl e) = subst EachByte e h.0
among_bytes (x ∷ xs) m h (inr i) = among_bytes xs m h.1 i

-- one more entry
entry_bytes : (e : Entry) (t : TrialPlay) → HasBytes e → AreTrialBytes t → AreTrialBytes (with_entry e t)
entry_bytes e t h a = record {
  journal = settled_bytes t.broker.limits.store (number_alive (e ∷ t.broker.journal)) (e ∷ t.broker.journal)
      (h, a.journal);
  method = a.method;
  fields = a.fields;
}

said_bytes : (e : Entry) (t : TrialPlay) → Speaks t e → AreTrialBytes t → HasBytes e
said_bytes (entries.Message q id opcode body) t s a =
    subst IsBytes (sym s.body-is)
    (is_bytes (body_of s.message)
    (drop_bytes 8 s.message
    (among_bytes (messages (to_send s.who t)) s.message
    (messages_bytes (to_send s.who t) (sends_bytes s.who t a)) s.among)))
said_bytes (entries.Shell step) t s a = tt
said_bytes _ t s a = absurd s

hears_bytes : (who : Whose) (piece : List ℕ) (t : TrialPlay) → AreTrialBytes t → AreTrialBytes (hears who piece t)
hears_bytes whose.Method piece t a =
    record { journal = a.journal; method = method_received piece t.method a.method; fields = a.fields }
hears_bytes (whose.Field k) piece t a = field_changed k (field_hears piece) t (λ x h. field_received piece x.client h) a

sent_bytes : (who : Whose) (t : TrialPlay) → AreTrialBytes t → AreTrialBytes (sent who t)
sent_bytes whose.Method t a =
    (let m = a.method in
    record { journal = a.journal; method = record { typist = m.typist; out = tt }; fields = a.fields })
sent_bytes (whose.Field k) t a =
    field_changed k field_sent t
    (λ x h. (let f : AreFieldBytes x.client.state = h in record { text = f.text; pending = f.pending; out = tt })) a

bytes_kept : IsKept AreTrialBytes
bytes_kept = record {
  saying = λ e t s f a. entry_bytes e t (said_bytes e t s a) a;
  taking = λ who t f a. hears_bytes who (next_bytes (number_of who) t.broker) (with_entry (take_entry who t) t)
      (entry_bytes (take_entry who t) t tt a);
  sending = sent_bytes;
}

-- ---- new clients

name_bytes : (i : Interface) → EachByte (name_of i)
name_bytes interface.Compositor = text_of_bytes (name_of interface.Compositor)
    (is_text-plain (name_of interface.Compositor) refl)
name_bytes interface.Seat = text_of_bytes (name_of interface.Seat) (is_text-plain (name_of interface.Seat) refl)
name_bytes interface.TextInputManager = text_of_bytes (name_of interface.TextInputManager)
    (is_text-plain (name_of interface.TextInputManager) refl)
name_bytes interface.InputMethodManager = text_of_bytes (name_of interface.InputMethodManager)
    (is_text-plain (name_of interface.InputMethodManager) refl)
name_bytes interface.Display = text_of_bytes (name_of interface.Display)
    (is_text-plain (name_of interface.Display) refl)
name_bytes interface.Registry = text_of_bytes (name_of interface.Registry)
    (is_text-plain (name_of interface.Registry) refl)
name_bytes interface.Callback = text_of_bytes (name_of interface.Callback)
    (is_text-plain (name_of interface.Callback) refl)
name_bytes interface.Surface = text_of_bytes (name_of interface.Surface)
    (is_text-plain (name_of interface.Surface) refl)
name_bytes interface.TextInput = text_of_bytes (name_of interface.TextInput)
    (is_text-plain (name_of interface.TextInput) refl)
name_bytes interface.InputMethod = text_of_bytes (name_of interface.InputMethod)
    (is_text-plain (name_of interface.InputMethod) refl)
name_bytes interface.InputPopupSurface = text_of_bytes (name_of interface.InputPopupSurface)
    (is_text-plain (name_of interface.InputPopupSurface) refl)
name_bytes interface.KeyboardGrab = text_of_bytes (name_of interface.KeyboardGrab)
    (is_text-plain (name_of interface.KeyboardGrab) refl)
name_bytes interface.VirtualKeyboardManager = text_of_bytes (name_of interface.VirtualKeyboardManager)
    (is_text-plain (name_of interface.VirtualKeyboardManager) refl)
name_bytes interface.VirtualKeyboard = text_of_bytes (name_of interface.VirtualKeyboard)
    (is_text-plain (name_of interface.VirtualKeyboard) refl)

field_setup_bytes : AreByteSent field_setup
field_setup_bytes = (
  (tt, tt),
  (
    (tt, (name_bytes interface.Compositor, (tt, (tt, tt)))),
    (
      (tt, (name_bytes interface.Seat, (tt, (tt, tt)))),
      ((tt, (name_bytes interface.TextInputManager, (tt, (tt, tt)))), ((tt, tt), ((tt, (tt, tt)), tt))),
    ),
  ),
)

method_setup_bytes : AreByteSent method_setup
method_setup_bytes = (
  (tt, tt),
  (
    (tt, (name_bytes interface.Seat, (tt, (tt, tt)))),
    ((tt, (name_bytes interface.InputMethodManager, (tt, (tt, tt)))), ((tt, (tt, tt)), ((tt, tt), tt))),
  ),
)

new_bytes : IsByteField new_field
new_bytes = record { text = (tt, tt); pending = tt; out = spelled_bytes field_setup field_setup_bytes }

bytes_seated : IsSeated AreTrialBytes
bytes_seated = record {
  phases = bytes_kept;
  joining = λ role t f a. entry_bytes (entries.Join role) t tt a;
  adding = λ t a. record {
    journal = a.journal;
    method = a.method;
    fields = each_append IsByteField t.fields (new_field ∷ []) a.fields (new_bytes, tt);
  };
}

-- ---- lines

edit_is : (e : FieldEdit) (f : ℕ) → HasByteTexts (actions.Edit f e) → (k : ℕ) (t : TrialPlay) → AreTrialBytes t →
    AreTrialBytes (edits k (edit_of e) t)
edit_is (edit.Insert text) f h k t a =
    field_changed k (field_edits (logs.inserted text)) t
    (λ x b. happens_bytes (edited (logs.inserted text)) x.client.state (each_byte text h) b) a
edit_is edit.Left f h k t a = field_changed k (field_edits logs.went_left) t
    (λ x b. happens_bytes (edited logs.went_left) x.client.state tt b) a
edit_is edit.Right f h k t a = field_changed k (field_edits logs.went_right) t
    (λ x b. happens_bytes (edited logs.went_right) x.client.state tt b) a
edit_is edit.Rub f h k t a = field_changed k (field_edits logs.rubbed) t
    (λ x b. happens_bytes (edited logs.rubbed) x.client.state tt b) a

committed_bytes : (b : logs.Batch) (t : TrialPlay) → EachByte b.string × EachByte b.preedit → AreTrialBytes t →
    AreTrialBytes (commits b t)
committed_bytes b t h a =
    record { journal = a.journal; method = method_happens (committed b) t.method.state h a.method; fields = a.fields }

acted_bytes : (time : ℕ) (action : Action) (t : TrialPlay) → HasByteTexts action → AreTrialBytes t →
    AreTrialBytes (acted time action t).now
unfolding acted
acted_bytes time (actions.Use f) t h a = shell_keeps AreTrialBytes bytes_kept (shell.Focus (f + 1) surface_id) t a
acted_bytes time actions.Leave t h a = shell_keeps AreTrialBytes bytes_kept shell.Unfocus t a
acted_bytes time (actions.Press key) t h a = pressed_keeps AreTrialBytes bytes_kept time key t a
acted_bytes time (actions.Batch b) t h a =
    sends_keep AreTrialBytes bytes_kept whose.Method (commits (batch_of b) t)
    (committed_bytes (batch_of b) t (each_byte b.string h.0, each_byte b.preedit h.1) a)
acted_bytes time (actions.Edit f e) t h a =
    sends_keep AreTrialBytes bytes_kept (whose.Field (f - 1)) (edits (f - 1) (edit_of e) t) (edit_is e f h (f - 1) t a)
acted_bytes time (actions.Pause f) t h a = field_changed (f - 1) (λ x. record x { is_paused = true }) t (λ x b. b) a
acted_bytes time (actions.Resume f) t h a = field_changed (f - 1) (λ x. record x { is_paused = false }) t (λ x b. b) a
acted_bytes time (actions.Show f) t h a = record { journal = a.journal; method = a.method; fields = a.fields }

line_bytes : (time : ℕ) (action : Action) (t : TrialPlay) → HasByteTexts action → AreTrialBytes t →
    AreTrialBytes (line_played time action t).now
unfolding line_played
line_bytes time action t h a =
    after AreTrialBytes (acted time action t) (λ now. rounds now.most now) (acted_bytes time action t h a)
    (λ now k. rounds_keep AreTrialBytes bytes_kept now.most now k)

actions_bytes : (time : ℕ) (all : List Action) (t : TrialPlay) → AllByRecursion HasByteTexts all → AreTrialBytes t →
    AreTrialBytes (actions_played time all t).now
unfolding actions_played
actions_bytes time [] t h a = a
actions_bytes time (action ∷ more) t h a =
    after AreTrialBytes (line_played time action t) (actions_played ((time + 1) % 2 ^ 32) more)
    (line_bytes time action t h.0 a)
    (λ now k. actions_bytes ((time + 1) % 2 ^ 32) more now h.1 k)

pub messages_are_bytes : MessagesAreBytes
unfolding played_with
messages_are_bytes limits script texts = (let a = by (script.fields == 0) in a.journal)
  where
    start : TrialPlay
    start = unplayed limits (typist_of script)

    time : ℕ
    time = script.first_line % 2 ^ 32

    begins : AreTrialBytes start
    begins = record {
      journal = tt;
      method = record { typist = texts.typist; out = spelled_bytes method_setup method_setup_bytes };
      fields = tt;
    }

    by : (none : Bool) → AreTrialBytes (if none then went start
        else (method_joined start >>= fields_joined script.fields) >>= actions_played time script.actions).now
    by true = begins
    by false =
        after AreTrialBytes (method_joined start >>= fields_joined script.fields) (actions_played time script.actions)
        (after AreTrialBytes (method_joined start) (fields_joined script.fields)
        (method_keeps AreTrialBytes bytes_seated start begins)
        (fields_keep AreTrialBytes bytes_seated script.fields))
        (λ now k. actions_bytes time script.actions now texts.actions k)
