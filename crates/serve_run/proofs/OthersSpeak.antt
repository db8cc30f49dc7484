-- The acts of other peers' entries aren't a peer's own.
use Rattle.std.proofs.Common.{◌≡◌, ℕ, zero, suc, ◌+◌, List, [], ◌∷◌, length, Bool, true, false, Option, Some, None, Result, Ok, Err, refl, sym, ◌∙◌}
use Rattle.std.specs.Prelude.{◌==◌, if◌then◌else◌, unwrap_or}
use Rattle.std.specs.List.{slice_get}
use Rattle.std.proofs.lemmas.Option.{same_Some}
use Rattle.wl_proto.specs.declared.interface.Interface.{Interface}
use Rattle.wl_proto.specs.declared.interface.Interface.TheVariants as interface
use Rattle.wl_proto.specs.declared.refuse.Refuse.{Refuse}
use Rattle.wl_proto.specs.Grammar.{Value, word, signed, text, token}
use Rattle.wl_proto.specs.Reading.{request_reading}
use Rattle.wl_proto.specs.Rows.{Message}
use Rattle.relay_model.specs.declared.act.Act.{Act}
use Rattle.relay_model.specs.declared.act.Act.TheVariants as acts
use Rattle.relay_model.specs.declared.fault.Fault.{Fault}
use Rattle.relay_model.specs.declared.role.Role.{Role}
use Rattle.relay_model.specs.Objects.{peer_of}
use Rattle.broker_steps.specs.declared.step.ShellStep.{ShellStep}
use Rattle.broker_steps.specs.declared.step.ShellStep.TheVariants as shells
use Rattle.broker_model.specs.declared.journal.Entry.{Entry}
use Rattle.broker_model.specs.declared.journal.Entry.TheVariants as entries
use Rattle.broker_model.specs.Ids.{Made, Joined, Past, log_of, peer_at, object_at}
use Rattle.broker_model.specs.Requests.{rows, surround, cause, content, cursor, string, preedit, delete, commit, keymap, key, modifiers, popup, bind}
use Rattle.broker_model.specs.Refusals.{request_fault}
use Rattle.broker_model.specs.Resolve.{Meaning, label_at, of_request, of_reading, of_message, of_peer, on_surface, surface_at, shell_act, past_of}
use Rattle.broker_model.specs.Out.{act_at}
use Rattle.broker_model.proofs.IdsAreNames.{IsFound, found}
use Rattle.broker_model.proofs.MadeObjectsStand.{sound}
use Rattle.serve_run.proofs.DisplaysTold.{IsNotOf}

-- ---- of a request

abbrev AreNotOf : ℕ → List Act → List Act → Type 0
AreNotOf p log [] = Unit {0}
AreNotOf p log (act ∷ rest) = IsNotOf p log act × AreNotOf p log rest

surround_not : (p : ℕ) (log : List Act) (x : ℕ) (vs : List Value) → IsNotOf p log (surround x vs)
surround_not p log x (text t ∷ signed a ∷ signed b ∷ []) = tt
surround_not p log x _ = tt

cause_not : (p : ℕ) (log : List Act) (x : ℕ) (vs : List Value) → IsNotOf p log (cause x vs)
cause_not p log x (word n ∷ []) = tt
cause_not p log x _ = tt

content_not : (p : ℕ) (log : List Act) (x : ℕ) (vs : List Value) → IsNotOf p log (content x vs)
content_not p log x (word a ∷ word b ∷ []) = tt
content_not p log x _ = tt

cursor_not : (p : ℕ) (log : List Act) (x : ℕ) (vs : List Value) → IsNotOf p log (cursor x vs)
cursor_not p log x (signed a ∷ signed b ∷ signed c ∷ signed d ∷ []) = tt
cursor_not p log x _ = tt

string_not : (p : ℕ) (log : List Act) (x : ℕ) (vs : List Value) → IsNotOf p log (string x vs)
string_not p log x (text t ∷ []) = tt
string_not p log x _ = tt

preedit_not : (p : ℕ) (log : List Act) (x : ℕ) (vs : List Value) → IsNotOf p log (preedit x vs)
preedit_not p log x (text t ∷ signed a ∷ signed b ∷ []) = tt
preedit_not p log x _ = tt

delete_not : (p : ℕ) (log : List Act) (x : ℕ) (vs : List Value) → IsNotOf p log (delete x vs)
delete_not p log x (word a ∷ word b ∷ []) = tt
delete_not p log x _ = tt

commit_not : (p : ℕ) (log : List Act) (x : ℕ) (vs : List Value) → IsNotOf p log (commit x vs)
commit_not p log x (word n ∷ []) = tt
commit_not p log x _ = tt

keymap_not : (p : ℕ) (log : List Act) (x : ℕ) (vs : List Value) → IsNotOf p log (keymap x vs)
keymap_not p log x (word a ∷ token t ∷ word b ∷ []) = tt
keymap_not p log x _ = tt

key_not : (p : ℕ) (log : List Act) (x : ℕ) (vs : List Value) → IsNotOf p log (key x vs)
key_not p log x (word a ∷ word b ∷ word c ∷ []) = tt
key_not p log x _ = tt

modifiers_not : (p : ℕ) (log : List Act) (x : ℕ) (vs : List Value) → IsNotOf p log (modifiers x vs)
modifiers_not p log x (word a ∷ word b ∷ word c ∷ word d ∷ []) = tt
modifiers_not p log x _ = tt

popup_not : (p : ℕ) (log : List Act) (at : ℕ → ℕ) (x : ℕ) (vs : List Value) → IsNotOf p log (popup at x vs)
popup_not p log at x (word a ∷ word b ∷ []) = tt
popup_not p log at x _ = tt

either_not : (p : ℕ) (log : List Act) (q : ℕ) (b : Bool) → IsNotOf p log (if b then acts.Seat q else acts.Thing q)
either_not p log q true = tt
either_not p log q false = tt

bind_not : (p : ℕ) (log : List Act) (q : ℕ) (vs : List Value) → IsNotOf p log (bind q vs)
bind_not p log q (word n ∷ vs) = either_not p log q (n == 2)
bind_not p log q _ = tt

-- the request is of the peer q, to its object x
rows_not : (p : ℕ) (log : List Act) (q x : ℕ) (role : Role) (at : ℕ → ℕ) (i : Interface) (vs : List Value) →
    (q ≡ p → ⊥) → (peer_of log x ≡ Some p → ⊥) → AreNotOf p log (rows q x role at i vs)
rows_not p log q x role at interface.Display vs h k = (h, (tt, tt))
rows_not p log q x role at interface.Registry vs h k = (bind_not p log q vs, tt)
rows_not p log q x role at interface.Compositor vs h k = (tt, tt)
rows_not p log q x role at interface.Surface vs h k = (k, tt)
rows_not p log q x role at interface.TextInputManager vs h k = (k, (tt, tt))
rows_not p log q x role at interface.TextInput vs h k = (
  k,
  (
    tt,
    (
      tt,
      (
        surround_not p log x vs,
        (cause_not p log x vs, (content_not p log x vs, (cursor_not p log x vs, (tt, tt)))),
      ),
    ),
  ),
)
rows_not p log q x role at interface.InputMethodManager vs h k = (tt, (k, tt))
rows_not p log q x role at interface.InputMethod vs h k = (
  string_not p log x vs,
  (
    preedit_not p log x vs,
    (delete_not p log x vs, (commit_not p log x vs, (popup_not p log at x vs, (tt, (k, tt))))),
  ),
)
rows_not p log q x role at interface.InputPopupSurface vs h k = (k, tt)
rows_not p log q x role at interface.KeyboardGrab vs h k = (k, tt)
rows_not p log q x role at interface.VirtualKeyboardManager vs h k = (tt, tt)
rows_not p log q x role at interface.VirtualKeyboard vs h k =
    (keymap_not p log x vs, (key_not p log x vs, (modifiers_not p log x vs, (k, tt))))
rows_not p log q x role at _ vs h k = tt

row_not : (p : ℕ) (log xs : List Act) (n : ℕ) → AreNotOf p log xs →
    IsNotOf p log (unwrap_or (slice_get xs n) acts.Idle)
row_not p log [] n a = tt
row_not p log (act ∷ xs) zero a = a.0
row_not p log (act ∷ xs) (suc n) a = row_not p log xs n a.1

-- ---- of an entry

-- it is no message of a peer with the label p
abbrev pub IsByOther : ℕ → Past → Entry → Type 0
IsByOther p past (entries.Message q id opcode body) =
    (peer : Joined) → peer_at past q ≡ Some peer → peer.label ≡ p → ⊥
IsByOther p past (entries.BadSize q head) =
    (peer : Joined) → peer_at past q ≡ Some peer → peer.label ≡ p → ⊥
IsByOther p past _ = Unit {0}

peer_not : (p : ℕ) (log : List Act) (o : Option Joined) (f : Joined → Meaning) →
    ((peer : Joined) → o ≡ Some peer → IsNotOf p log (f peer).act) → IsNotOf p log (of_peer o f).act
peer_not p log None f h = tt
peer_not p log (Some peer) f h = h peer refl

surface_not : (p : ℕ) (log : List Act) (o : Option ℕ) (f : ℕ → Act) → ((s : ℕ) → IsNotOf p log (f s)) →
    IsNotOf p log (on_surface o f)
surface_not p log None f h = tt
surface_not p log (Some s) f h = h s

shell_not : (p : ℕ) (past : Past) (step : ShellStep) → IsNotOf p (log_of past) (shell_act past step)
shell_not p past (shells.Focus q id) =
    surface_not p (log_of past) (surface_at past (peer_at past q) id) (λ s. acts.Focus s) (λ s. tt)
shell_not p past (shells.Area q id rect) =
    surface_not p (log_of past) (surface_at past (peer_at past q) id) (λ s. acts.Area s rect) (λ s. tt)
shell_not p past _ = tt

request_not : (older : List Entry) (p n : ℕ) (peer : Joined) (x : ℕ) (m : Message) (o : Option Fault) →
    (peer.label ≡ p → ⊥) → (peer_of (log_of (past_of older)) x ≡ Some p → ⊥) →
    IsNotOf p (log_of (past_of older)) (of_request (past_of older) n peer x m o).act
request_not older p n peer x m (Some f) h k = h
request_not older p n peer x m None h k =
    let past : Past = past_of older in
    let at : ℕ → ℕ = label_at past peer.label in
    row_not p (log_of past) (rows peer.label x peer.role at m.interface m.values) m.opcode
    (rows_not p (log_of past) peer.label x peer.role at m.interface m.values h k)

reading_not : (older : List Entry) (p n : ℕ) (peer : Joined) (x : ℕ) (r : Result Message Refuse) →
    (peer.label ≡ p → ⊥) → (peer_of (log_of (past_of older)) x ≡ Some p → ⊥) →
    IsNotOf p (log_of (past_of older)) (of_reading (past_of older) n peer x r).act
reading_not older p n peer x (Err r) h k = h
reading_not older p n peer x (Ok m) h k =
    request_not older p n peer x m
    (request_fault (past_of older) peer.label x peer.role (label_at (past_of older) peer.label) m) h k

message_not : (older : List Entry) (p n : ℕ) (peer : Joined) (id opcode : ℕ) (body : List ℕ) (o : Option Made) →
    (peer.label ≡ p → ⊥) → object_at (past_of older) peer.label id ≡ o →
    IsNotOf p (log_of (past_of older)) (of_message (past_of older) n peer opcode body o).act
message_not older p n peer id opcode body None h e = h
message_not older p n peer id opcode body (Some x) h e =
    reading_not older p n peer x.label
    (request_reading x.interface opcode ((past_of older).waiting peer.label) body) h theirs
  where
    theirs : peer_of (log_of (past_of older)) x.label ≡ Some p → ⊥
    theirs k =
        let f : IsFound (log_of (past_of older)) (past_of older).made peer.label id x =
        found (log_of (past_of older)) (past_of older).made peer.label id x e in
        let own : peer_of (log_of (past_of older)) x.label ≡ Some x.peer = (sound older x f.among).own f.lives in
        h (sym f.peer ∙ same_Some x.peer p (sym own ∙ k))

-- the act of another's entry isn't of p
pub entry_not : (e : Entry) (older : List Entry) (p : ℕ) → IsByOther p (past_of older) e →
    IsNotOf p (log_of (past_of older)) (act_at e older)
entry_not (entries.Join role) older p h = tt
entry_not (entries.Message q id opcode body) older p h =
    peer_not p (log_of (past_of older)) (peer_at (past_of older) q)
    (λ peer. of_message (past_of older) (length older + 1) peer opcode body (object_at (past_of older) peer.label id))
    (λ peer at. message_not older p (length older + 1) peer id opcode body
    (object_at (past_of older) peer.label id) (h peer at) refl)
entry_not (entries.Tokens q tokens) older p h = tt
entry_not (entries.BadSize q head) older p h =
    peer_not p (log_of (past_of older)) (peer_at (past_of older) q) _ (λ peer at. h peer at)
entry_not (entries.End q why) older p h =
    peer_not p (log_of (past_of older)) (peer_at (past_of older) q) _ (λ peer at. tt)
entry_not (entries.Shell step) older p h = shell_not p (past_of older) step
entry_not (entries.Took q bytes) older p h =
    peer_not p (log_of (past_of older)) (peer_at (past_of older) q) _ (λ peer at. tt)
