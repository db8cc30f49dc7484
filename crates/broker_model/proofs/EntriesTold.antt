-- What an entry tells goes to living and new objects: an error that it tells is of the display or of what an id names.
use Rattle.std.proofs.Common.{◌≡◌, ℕ, zero, suc, ◌+◌, List, [], ◌∷◌, length, true, Option, Some, None, Result, Ok, Err, refl, inl, inr, ◌⊎◌}
use Rattle.std.specs.Prelude.{◌==◌, unwrap_or}
use Rattle.std.specs.List.{slice_get, AllByRecursion}
use Rattle.wl_proto.specs.declared.interface.Interface.{Interface}
use Rattle.wl_proto.specs.declared.interface.Interface.TheVariants as interface
use Rattle.wl_proto.specs.declared.refuse.Refuse.{Refuse}
use Rattle.wl_proto.specs.Grammar.{Value, word, signed, text, token}
use Rattle.wl_proto.specs.Reading.{request_reading}
use Rattle.wl_proto.specs.Rows.{Message}
use Rattle.relay_model.specs.declared.act.Act.{Act}
use Rattle.relay_model.specs.declared.act.Act.TheVariants as acts
use Rattle.relay_model.specs.declared.fault.Fault.{Fault}
use Rattle.relay_model.specs.declared.fault.Fault.TheVariants as fault
use Rattle.relay_model.specs.declared.role.Role.{Role}
use Rattle.relay_model.specs.Objects.{alive}
use Rattle.broker_steps.specs.declared.step.ShellStep.{ShellStep}
use Rattle.broker_steps.specs.declared.step.ShellStep.TheVariants as shell
use Rattle.broker_model.specs.declared.journal.Entry.{Entry}
use Rattle.broker_model.specs.declared.journal.Entry.TheVariants as entries
use Rattle.broker_model.specs.Ids.{Made, Joined, Past, log_of, peer_at, object_at}
use Rattle.broker_model.specs.Requests.{surround, cause, content, cursor, string, preedit, delete, commit, keymap, key, modifiers, popup, bind, rows, act_of}
use Rattle.broker_model.specs.Refusals.{is_of_addressed, request_fault, refuse_fault}
use Rattle.broker_model.specs.Resolve.{Meaning, only, label_at, refused_for, of_request, of_reading, of_message, of_peer, surface_at, on_surface, shell_act, means, past_of, resolve}
use Rattle.broker_model.specs.Out.{act_at}
use Rattle.broker_model.proofs.EachElement.{either_way}
use Rattle.broker_model.proofs.IdsAreNames.{IsFound, found}
use Rattle.broker_model.specs.Living.{ErrsOnLiving, EntriesTellLiving}
use Rattle.broker_model.proofs.ToldAreLiving.{told_living}

-- ---- the act of a request is no error

abbrev IsNoError : Act → Type 0
IsNoError (acts.Bad p fault x) = ⊥
IsNoError _ = Unit {0}

errs_not : (log : List Act) (act : Act) → IsNoError act → ErrsOnLiving log act
errs_not log (acts.Bad p fault x) h = absurd h
errs_not log _ h = tt

no_surround : (x : ℕ) (vs : List Value) → IsNoError (surround x vs)
no_surround x (text t ∷ signed a ∷ signed b ∷ []) = tt
no_surround x _ = tt

no_cause : (x : ℕ) (vs : List Value) → IsNoError (cause x vs)
no_cause x (word n ∷ []) = tt
no_cause x _ = tt

no_content : (x : ℕ) (vs : List Value) → IsNoError (content x vs)
no_content x (word a ∷ word b ∷ []) = tt
no_content x _ = tt

no_cursor : (x : ℕ) (vs : List Value) → IsNoError (cursor x vs)
no_cursor x (signed a ∷ signed b ∷ signed c ∷ signed d ∷ []) = tt
no_cursor x _ = tt

no_string : (x : ℕ) (vs : List Value) → IsNoError (string x vs)
no_string x (text t ∷ []) = tt
no_string x _ = tt

no_preedit : (x : ℕ) (vs : List Value) → IsNoError (preedit x vs)
no_preedit x (text t ∷ signed a ∷ signed b ∷ []) = tt
no_preedit x _ = tt

no_delete : (x : ℕ) (vs : List Value) → IsNoError (delete x vs)
no_delete x (word a ∷ word b ∷ []) = tt
no_delete x _ = tt

no_commit : (x : ℕ) (vs : List Value) → IsNoError (commit x vs)
no_commit x (word n ∷ []) = tt
no_commit x _ = tt

no_keymap : (x : ℕ) (vs : List Value) → IsNoError (keymap x vs)
no_keymap x (word a ∷ token t ∷ word b ∷ []) = tt
no_keymap x _ = tt

no_key : (x : ℕ) (vs : List Value) → IsNoError (key x vs)
no_key x (word a ∷ word b ∷ word c ∷ []) = tt
no_key x _ = tt

no_modifiers : (x : ℕ) (vs : List Value) → IsNoError (modifiers x vs)
no_modifiers x (word a ∷ word b ∷ word c ∷ word d ∷ []) = tt
no_modifiers x _ = tt

no_popup : (at : ℕ → ℕ) (x : ℕ) (vs : List Value) → IsNoError (popup at x vs)
no_popup at x (word a ∷ word b ∷ []) = tt
no_popup at x _ = tt

no_bind : (p : ℕ) (vs : List Value) → IsNoError (bind p vs)
no_bind p (word n ∷ vs) = either_way IsNoError (n == 2) (acts.Seat p) (acts.Thing p) tt tt
no_bind p _ = tt

no_rows : (p x : ℕ) (role : Role) (at : ℕ → ℕ) (i : Interface) (vs : List Value) →
    AllByRecursion IsNoError (rows p x role at i vs)
no_rows p x role at interface.Display vs = (tt, (tt, tt))
no_rows p x role at interface.Registry vs = (no_bind p vs, tt)
no_rows p x role at interface.Compositor vs = (tt, tt)
no_rows p x role at interface.Surface vs = (tt, tt)
no_rows p x role at interface.TextInputManager vs = (tt, (tt, tt))
no_rows p x role at interface.TextInput vs =
    (tt, (tt, (tt, (no_surround x vs, (no_cause x vs, (no_content x vs, (no_cursor x vs, (tt, tt))))))))
no_rows p x role at interface.InputMethodManager vs = (tt, (tt, tt))
no_rows p x role at interface.InputMethod vs = (
  no_string x vs,
  (no_preedit x vs, (no_delete x vs, (no_commit x vs, (no_popup at x vs, (tt, (tt, tt)))))),
)
no_rows p x role at interface.InputPopupSurface vs = (tt, tt)
no_rows p x role at interface.KeyboardGrab vs = (tt, tt)
no_rows p x role at interface.VirtualKeyboardManager vs = (tt, tt)
no_rows p x role at interface.VirtualKeyboard vs = (no_keymap x vs, (no_key x vs, (no_modifiers x vs, (tt, tt))))
no_rows p x role at _ vs = tt

no_row : (xs : List Act) (n : ℕ) → AllByRecursion IsNoError xs → IsNoError (unwrap_or (slice_get xs n) acts.Idle)
no_row [] n h = tt
no_row (act ∷ xs) zero h = h.0
no_row (act ∷ xs) (suc n) h = no_row xs n h.1

-- ---- the act of an entry

-- a refused message is told as an error of the display, or of the object that it went to
refused_errs : (log : List Act) (p x : ℕ) (f : Fault) → (x ≡ p) ⊎ (alive log x ≡ true) →
    ErrsOnLiving log (refused_for p x f).act
refused_errs log p x f h = either_way (λ y. (y ≡ p) ⊎ (alive log y ≡ true)) (is_of_addressed f) x p h (inl refl)

request_errs : (past : Past) (n : ℕ) (peer : Joined) (x : ℕ) (m : Message) (o : Option Fault) →
    alive (log_of past) x ≡ true → ErrsOnLiving (log_of past) (of_request past n peer x m o).act
request_errs past n peer x m (Some f) l = refused_errs (log_of past) peer.label x f (inr l)
request_errs past n peer x m None l =
    errs_not (log_of past) (act_of peer.label x peer.role (label_at past peer.label) m.interface m.opcode m.values)
    (no_row (rows peer.label x peer.role (label_at past peer.label) m.interface m.values) m.opcode
    (no_rows peer.label x peer.role (label_at past peer.label) m.interface m.values))

reading_errs : (past : Past) (n : ℕ) (peer : Joined) (x : ℕ) (r : Result Message Refuse) →
    alive (log_of past) x ≡ true → ErrsOnLiving (log_of past) (of_reading past n peer x r).act
reading_errs past n peer x (Err f) l = refused_errs (log_of past) peer.label x (refuse_fault f) (inr l)
reading_errs past n peer x (Ok m) l =
    request_errs past n peer x m (request_fault past peer.label x peer.role (label_at past peer.label) m) l

message_errs : (past : Past) (n : ℕ) (peer : Joined) (id opcode : ℕ) (body : List ℕ) (o : Option Made) →
    object_at past peer.label id ≡ o → ErrsOnLiving (log_of past) (of_message past n peer opcode body o).act
message_errs past n peer id opcode body None e =
    refused_errs (log_of past) peer.label peer.label fault.Object (inl refl)
message_errs past n peer id opcode body (Some m) e =
    let f : IsFound (log_of past) past.made peer.label id m = found (log_of past) past.made peer.label id m e in
    reading_errs past n peer m.label (request_reading m.interface opcode (past.waiting peer.label) body) f.lives

peer_errs : (log : List Act) (o : Option Joined) (f : Joined → Meaning) →
    ((peer : Joined) → ErrsOnLiving log (f peer).act) → ErrsOnLiving log (of_peer o f).act
peer_errs log None f h = tt
peer_errs log (Some peer) f h = h peer

surface_errs : (log : List Act) (o : Option ℕ) (f : ℕ → Act) → ((s : ℕ) → ErrsOnLiving log (f s)) →
    ErrsOnLiving log (on_surface o f)
surface_errs log None f h = tt
surface_errs log (Some s) f h = h s

shell_errs : (past : Past) (step : ShellStep) → ErrsOnLiving (log_of past) (shell_act past step)
shell_errs past (shell.Focus q id) =
    surface_errs (log_of past) (surface_at past (peer_at past q) id) (λ s. acts.Focus s) (λ s. tt)
shell_errs past (shell.Area q id rect) =
    surface_errs (log_of past) (surface_at past (peer_at past q) id) (λ s. acts.Area s rect) (λ s. tt)
shell_errs past _ = tt

entry_errs : (e : Entry) (n : ℕ) (past : Past) → ErrsOnLiving (log_of past) (means e n past).act
entry_errs (entries.Join role) n past = tt
entry_errs (entries.Message q id opcode body) n past =
    peer_errs (log_of past) (peer_at past q)
    (λ peer. of_message past n peer opcode body (object_at past peer.label id))
    (λ peer. message_errs past n peer id opcode body (object_at past peer.label id) refl)
entry_errs (entries.Tokens q tokens) n past = tt
entry_errs (entries.BadSize q head) n past =
    peer_errs (log_of past) (peer_at past q) (λ peer. refused_for peer.label peer.label fault.Size)
    (λ peer. refused_errs (log_of past) peer.label peer.label fault.Size (inl refl))
entry_errs (entries.End q cause) n past =
    peer_errs (log_of past) (peer_at past q) (λ peer. only (acts.Gone peer.label cause)) (λ peer. tt)
entry_errs (entries.Shell step) n past = shell_errs past step
entry_errs (entries.Took q bytes) n past =
    peer_errs (log_of past) (peer_at past q) (λ peer. only (acts.Took peer.label bytes)) (λ peer. tt)

pub entries_living : EntriesTellLiving
entries_living e older =
    told_living (act_at e older) (resolve older) (entry_errs e (length older + 1) (past_of older))
