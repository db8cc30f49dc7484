-- The texts of a message's act fit a message, if the message's body isn't longer than a body may be.
use Rattle.std.proofs.Common.{ℕ, zero, suc, ◌+◌, ◌≤◌, List, [], ◌∷◌, length, Option, Some, None, arith}
use Rattle.std.specs.Prelude.{◌==◌, Result, Ok, Err, unwrap_or}
use Rattle.std.specs.List.{slice_get, AllByRecursion}
use Rattle.wl_proto.specs.declared.interface.Interface.{Interface}
use Rattle.wl_proto.specs.declared.interface.Interface.TheVariants as interface
use Rattle.wl_proto.specs.declared.refuse.Refuse.{Refuse}
use Rattle.wl_proto.specs.Grammar.{Value, word, signed, text, token}
use Rattle.wl_proto.specs.Reading.{request_reading}
use Rattle.wl_proto.specs.Rows.{Message}
use Rattle.wl_proto.specs.Spelling.{values_len}
use Rattle.relay_model.specs.declared.act.Act.{Act}
use Rattle.relay_model.specs.declared.act.Act.TheVariants as acts
use Rattle.relay_model.specs.declared.fault.Fault.{Fault}
use Rattle.relay_model.specs.declared.role.Role.{Role}
use Rattle.relay_objects.specs.Fits.{FitsMessage}
use Rattle.broker_steps.specs.declared.step.ShellStep.{ShellStep}
use Rattle.broker_steps.specs.declared.step.ShellStep.TheVariants as shell
use Rattle.broker_model.specs.declared.journal.Entry.{Entry}
use Rattle.broker_model.specs.declared.journal.Entry.TheVariants as entries
use Rattle.broker_model.specs.Ids.{Made, Joined, Past, peer_at, object_at}
use Rattle.broker_model.specs.Requests.{surround, cause, content, cursor, string, preedit, delete, commit, keymap, key, modifiers, popup, bind, rows}
use Rattle.broker_model.specs.Refusals.{request_fault}
use Rattle.broker_model.specs.Resolve.{Meaning, label_at, of_request, of_reading, of_message, of_peer, surface_at, on_surface, shell_act, past_of}
use Rattle.broker_model.specs.Out.{act_at}
use Rattle.broker_model.proofs.EachElement.{either_way}
use Rattle.broker_core.proofs.BodyLengths.{IsReadWithin, request_within}

-- the body of a message has at most as many bytes as a message has beside its header
abbrev pub IsBodyShort : Entry → Type 0
IsBodyShort (entries.Message q id opcode body) = length body ≤ 4088
IsBodyShort _ = Unit {0}

-- the act of each request

fits_surround : (x : ℕ) (vs : List Value) → values_len vs ≤ 4088 → FitsMessage (surround x vs)
fits_surround x (text t ∷ signed a ∷ signed b ∷ []) h = omega arith
fits_surround x _ h = tt

fits_cause : (x : ℕ) (vs : List Value) → FitsMessage (cause x vs)
fits_cause x (word n ∷ []) = tt
fits_cause x _ = tt

fits_content : (x : ℕ) (vs : List Value) → FitsMessage (content x vs)
fits_content x (word a ∷ word b ∷ []) = tt
fits_content x _ = tt

fits_cursor : (x : ℕ) (vs : List Value) → FitsMessage (cursor x vs)
fits_cursor x (signed a ∷ signed b ∷ signed c ∷ signed d ∷ []) = tt
fits_cursor x _ = tt

fits_string : (x : ℕ) (vs : List Value) → values_len vs ≤ 4088 → FitsMessage (string x vs)
fits_string x (text t ∷ []) h = omega arith
fits_string x _ h = tt

fits_preedit : (x : ℕ) (vs : List Value) → values_len vs ≤ 4088 → FitsMessage (preedit x vs)
fits_preedit x (text t ∷ signed a ∷ signed b ∷ []) h = omega arith
fits_preedit x _ h = tt

fits_delete : (x : ℕ) (vs : List Value) → FitsMessage (delete x vs)
fits_delete x (word a ∷ word b ∷ []) = tt
fits_delete x _ = tt

fits_commit : (x : ℕ) (vs : List Value) → FitsMessage (commit x vs)
fits_commit x (word n ∷ []) = tt
fits_commit x _ = tt

fits_keymap : (x : ℕ) (vs : List Value) → FitsMessage (keymap x vs)
fits_keymap x (word a ∷ token t ∷ word b ∷ []) = tt
fits_keymap x _ = tt

fits_key : (x : ℕ) (vs : List Value) → FitsMessage (key x vs)
fits_key x (word a ∷ word b ∷ word c ∷ []) = tt
fits_key x _ = tt

fits_modifiers : (x : ℕ) (vs : List Value) → FitsMessage (modifiers x vs)
fits_modifiers x (word a ∷ word b ∷ word c ∷ word d ∷ []) = tt
fits_modifiers x _ = tt

fits_popup : (at : ℕ → ℕ) (x : ℕ) (vs : List Value) → FitsMessage (popup at x vs)
fits_popup at x (word a ∷ word b ∷ []) = tt
fits_popup at x _ = tt

fits_bind : (p : ℕ) (vs : List Value) → FitsMessage (bind p vs)
fits_bind p (word n ∷ vs) = either_way FitsMessage (n == 2) (acts.Seat p) (acts.Thing p) tt tt
fits_bind p _ = tt

fits_rows : (p x : ℕ) (role : Role) (at : ℕ → ℕ) (i : Interface) (vs : List Value) → values_len vs ≤ 4088 →
    AllByRecursion FitsMessage (rows p x role at i vs)
fits_rows p x role at interface.Display vs h = (tt, (tt, tt))
fits_rows p x role at interface.Registry vs h = (fits_bind p vs, tt)
fits_rows p x role at interface.Compositor vs h = (tt, tt)
fits_rows p x role at interface.Surface vs h = (tt, tt)
fits_rows p x role at interface.TextInputManager vs h = (tt, (tt, tt))
fits_rows p x role at interface.TextInput vs h =
    (tt, (tt, (tt, (fits_surround x vs h, (fits_cause x vs, (fits_content x vs, (fits_cursor x vs, (tt, tt))))))))
fits_rows p x role at interface.InputMethodManager vs h = (tt, (tt, tt))
fits_rows p x role at interface.InputMethod vs h = (
  fits_string x vs h,
  (fits_preedit x vs h, (fits_delete x vs, (fits_commit x vs, (fits_popup at x vs, (tt, (tt, tt)))))),
)
fits_rows p x role at interface.InputPopupSurface vs h = (tt, tt)
fits_rows p x role at interface.KeyboardGrab vs h = (tt, tt)
fits_rows p x role at interface.VirtualKeyboardManager vs h = (tt, tt)
fits_rows p x role at interface.VirtualKeyboard vs h =
    (fits_keymap x vs, (fits_key x vs, (fits_modifiers x vs, (tt, tt))))
fits_rows p x role at _ vs h = tt

fits_row : (xs : List Act) (n : ℕ) → AllByRecursion FitsMessage xs → FitsMessage (unwrap_or (slice_get xs n) acts.Idle)
fits_row [] n h = tt
fits_row (act ∷ xs) zero h = h.0
fits_row (act ∷ xs) (suc n) h = fits_row xs n h.1

-- the act of each entry

fits_request : (past : Past) (n : ℕ) (peer : Joined) (x : ℕ) (m : Message) (o : Option Fault) →
    values_len m.values ≤ 4088 →
    FitsMessage (of_request past n peer x m o).act
fits_request past n peer x m (Some f) h = tt
fits_request past n peer x m None h =
    fits_row (rows peer.label x peer.role (label_at past peer.label) m.interface m.values) m.opcode
    (fits_rows peer.label x peer.role (label_at past peer.label) m.interface m.values h)

fits_reading : (past : Past) (n : ℕ) (peer : Joined) (x size : ℕ) (r : Result Message Refuse) → size ≤ 4088 →
    IsReadWithin size r →
    FitsMessage (of_reading past n peer x r).act
fits_reading past n peer x size (Err e) h k = tt
fits_reading past n peer x size (Ok m) h k =
    fits_request past n peer x m (request_fault past peer.label x peer.role (label_at past peer.label) m) (omega arith)

fits_message : (past : Past) (n : ℕ) (peer : Joined) (opcode : ℕ) (body : List ℕ) (o : Option Made) →
    length body ≤ 4088 →
    FitsMessage (of_message past n peer opcode body o).act
fits_message past n peer opcode body None h = tt
fits_message past n peer opcode body (Some x) h =
    fits_reading past n peer x.label (length body) (request_reading x.interface opcode (past.waiting peer.label) body) h
    (request_within x.interface opcode (past.waiting peer.label) body)

fits_peer : (o : Option Joined) (f : Joined → Meaning) → ((peer : Joined) → FitsMessage (f peer).act) →
    FitsMessage (of_peer o f).act
fits_peer None f h = tt
fits_peer (Some peer) f h = h peer

fits_surface : (o : Option ℕ) (f : ℕ → Act) → ((s : ℕ) → FitsMessage (f s)) → FitsMessage (on_surface o f)
fits_surface None f h = tt
fits_surface (Some s) f h = h s

fits_shell : (past : Past) (step : ShellStep) → FitsMessage (shell_act past step)
fits_shell past (shell.Focus q id) = fits_surface (surface_at past (peer_at past q) id) (λ s. acts.Focus s) (λ s. tt)
fits_shell past (shell.Area q id rect) =
    fits_surface (surface_at past (peer_at past q) id) (λ s. acts.Area s rect) (λ s. tt)
fits_shell past _ = tt

-- the texts of an entry's act fit
pub act_fits : (e : Entry) (older : List Entry) → IsBodyShort e → FitsMessage (act_at e older)
act_fits (entries.Join role) older h = tt
act_fits (entries.Message q id opcode body) older h =
    fits_peer (peer_at (past_of older) q)
    (λ peer. of_message (past_of older) (length older + 1) peer opcode body (object_at (past_of older) peer.label id))
    (λ peer. fits_message (past_of older) (length older + 1) peer opcode body
    (object_at (past_of older) peer.label id) h)
act_fits (entries.Tokens q tokens) older h = tt
act_fits (entries.BadSize q head) older h = fits_peer (peer_at (past_of older) q) _ (λ peer. tt)
act_fits (entries.End q why) older h = fits_peer (peer_at (past_of older) q) _ (λ peer. tt)
act_fits (entries.Shell step) older h = fits_shell (past_of older) step
act_fits (entries.Took q bytes) older h = fits_peer (peer_at (past_of older) q) _ (λ peer. tt)
