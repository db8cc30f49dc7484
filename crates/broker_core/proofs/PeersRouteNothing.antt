-- No act of a peer is a key of the shell, so none has a route.
use Rattle.std.proofs.Common.{◌≡◌, ℕ, zero, suc, ◌+◌, List, [], ◌∷◌, length, Option, Some, None, refl, sym}
use Rattle.std.specs.Prelude.{◌==◌, unwrap_or, Result, Ok, Err}
use Rattle.std.specs.List.{slice_get, AllByRecursion}
use Rattle.wl_proto.specs.declared.interface.Interface.{Interface}
use Rattle.wl_proto.specs.declared.interface.Interface.TheVariants as interface
use Rattle.wl_proto.specs.declared.refuse.Refuse.{Refuse}
use Rattle.wl_proto.specs.Grammar.{Value, word, signed, text, token}
use Rattle.wl_proto.specs.Reading.{request_reading}
use Rattle.wl_proto.specs.Rows.{Message}
use Rattle.relay_model.specs.declared.act.Act.{Act}
use Rattle.relay_model.specs.declared.act.Act.TheVariants as acts
use Rattle.relay_model.specs.declared.fault.Fault.{Fault}
use Rattle.relay_model.specs.declared.role.Role.{Role}
use Rattle.relay_core.specs.Stands.{route_told}
use Rattle.broker_steps.specs.declared.step.PeerStep.{PeerStep}
use Rattle.broker_steps.specs.declared.step.PeerStep.TheVariants as peers
use Rattle.broker_model.specs.declared.journal.Entry.{Entry}
use Rattle.broker_model.specs.Ids.{Made, Joined, Past, peer_at, object_at}
use Rattle.broker_model.specs.Requests.{rows, surround, cause, content, cursor, string, preedit, delete, commit, keymap, key, modifiers, popup, bind}
use Rattle.broker_model.specs.Refusals.{request_fault}
use Rattle.broker_model.specs.Resolve.{Meaning, label_at, of_request, of_reading, of_message, of_peer, past_of}
use Rattle.broker_model.specs.Out.{act_at}
use Rattle.broker_core.specs.Broker.{peer_entry}
use Rattle.broker_model.proofs.EachElement.{either_way}

-- the act is no key
abbrev IsOther : Act → Type 0
IsOther (acts.Key time key state) = ⊥
IsOther _ = Unit {0}

no_route : (act : Act) (log : List Act) → IsOther act → route_told act log ≡ None
no_route (acts.Key time key state) log h = absurd h
no_route _ log h = refl

-- the acts of requests

other_surround : (x : ℕ) (vs : List Value) → IsOther (surround x vs)
other_surround x (text t ∷ signed a ∷ signed b ∷ []) = tt
other_surround x _ = tt

other_cause : (x : ℕ) (vs : List Value) → IsOther (cause x vs)
other_cause x (word n ∷ []) = tt
other_cause x _ = tt

other_content : (x : ℕ) (vs : List Value) → IsOther (content x vs)
other_content x (word a ∷ word b ∷ []) = tt
other_content x _ = tt

other_cursor : (x : ℕ) (vs : List Value) → IsOther (cursor x vs)
other_cursor x (signed a ∷ signed b ∷ signed c ∷ signed d ∷ []) = tt
other_cursor x _ = tt

other_string : (x : ℕ) (vs : List Value) → IsOther (string x vs)
other_string x (text t ∷ []) = tt
other_string x _ = tt

other_preedit : (x : ℕ) (vs : List Value) → IsOther (preedit x vs)
other_preedit x (text t ∷ signed a ∷ signed b ∷ []) = tt
other_preedit x _ = tt

other_delete : (x : ℕ) (vs : List Value) → IsOther (delete x vs)
other_delete x (word a ∷ word b ∷ []) = tt
other_delete x _ = tt

other_commit : (x : ℕ) (vs : List Value) → IsOther (commit x vs)
other_commit x (word n ∷ []) = tt
other_commit x _ = tt

other_keymap : (x : ℕ) (vs : List Value) → IsOther (keymap x vs)
other_keymap x (word a ∷ token t ∷ word b ∷ []) = tt
other_keymap x _ = tt

other_key : (x : ℕ) (vs : List Value) → IsOther (key x vs)
other_key x (word a ∷ word b ∷ word c ∷ []) = tt
other_key x _ = tt

other_modifiers : (x : ℕ) (vs : List Value) → IsOther (modifiers x vs)
other_modifiers x (word a ∷ word b ∷ word c ∷ word d ∷ []) = tt
other_modifiers x _ = tt

other_popup : (at : ℕ → ℕ) (x : ℕ) (vs : List Value) → IsOther (popup at x vs)
other_popup at x (word a ∷ word b ∷ []) = tt
other_popup at x _ = tt

other_bind : (p : ℕ) (vs : List Value) → IsOther (bind p vs)
other_bind p (word n ∷ vs) = either_way IsOther (n == 2) (acts.Seat p) (acts.Thing p) tt tt
other_bind p _ = tt

other_rows : (p x : ℕ) (role : Role) (at : ℕ → ℕ) (i : Interface) (vs : List Value) →
    AllByRecursion IsOther (rows p x role at i vs)
other_rows p x role at interface.Display vs = (tt, (tt, tt))
other_rows p x role at interface.Registry vs = (other_bind p vs, tt)
other_rows p x role at interface.Compositor vs = (tt, tt)
other_rows p x role at interface.Surface vs = (tt, tt)
other_rows p x role at interface.TextInputManager vs = (tt, (tt, tt))
other_rows p x role at interface.TextInput vs =
    (tt, (tt, (tt, (other_surround x vs, (other_cause x vs, (other_content x vs, (other_cursor x vs, (tt, tt))))))))
other_rows p x role at interface.InputMethodManager vs = (tt, (tt, tt))
other_rows p x role at interface.InputMethod vs = (
  other_string x vs,
  (other_preedit x vs, (other_delete x vs, (other_commit x vs, (other_popup at x vs, (tt, (tt, tt)))))),
)
other_rows p x role at interface.InputPopupSurface vs = (tt, tt)
other_rows p x role at interface.KeyboardGrab vs = (tt, tt)
other_rows p x role at interface.VirtualKeyboardManager vs = (tt, tt)
other_rows p x role at interface.VirtualKeyboard vs =
    (other_keymap x vs, (other_key x vs, (other_modifiers x vs, (tt, tt))))
other_rows p x role at _ vs = tt

other_row : (xs : List Act) (n : ℕ) → AllByRecursion IsOther xs → IsOther (unwrap_or (slice_get xs n) acts.Idle)
other_row [] n h = tt
other_row (act ∷ xs) zero h = h.0
other_row (act ∷ xs) (suc n) h = other_row xs n h.1

-- the act of each entry of a peer

other_request : (past : Past) (n : ℕ) (peer : Joined) (x : ℕ) (m : Message) (o : Option Fault) →
    IsOther (of_request past n peer x m o).act
other_request past n peer x m (Some f) = tt
other_request past n peer x m None =
    other_row (rows peer.label x peer.role (label_at past peer.label) m.interface m.values) m.opcode
    (other_rows peer.label x peer.role (label_at past peer.label) m.interface m.values)

other_reading : (past : Past) (n : ℕ) (peer : Joined) (x : ℕ) (r : Result Message Refuse) →
    IsOther (of_reading past n peer x r).act
other_reading past n peer x (Err e) = tt
other_reading past n peer x (Ok m) =
    other_request past n peer x m (request_fault past peer.label x peer.role (label_at past peer.label) m)

other_message : (past : Past) (n : ℕ) (peer : Joined) (opcode : ℕ) (body : List ℕ) (o : Option Made) →
    IsOther (of_message past n peer opcode body o).act
other_message past n peer opcode body None = tt
other_message past n peer opcode body (Some x) =
    other_reading past n peer x.label (request_reading x.interface opcode (past.waiting peer.label) body)

other_peer : (o : Option Joined) (f : Joined → Meaning) → ((peer : Joined) → IsOther (f peer).act) →
    IsOther (of_peer o f).act
other_peer None f h = tt
other_peer (Some peer) f h = h peer

other_act : (q : ℕ) (step : PeerStep) (older : List Entry) → IsOther (act_at (peer_entry q step) older)
other_act q (peers.Message id opcode body) older =
    other_peer (peer_at (past_of older) q)
    (λ peer. of_message (past_of older) (length older + 1) peer opcode body (object_at (past_of older) peer.label id))
    (λ peer. other_message (past_of older) (length older + 1) peer opcode body
    (object_at (past_of older) peer.label id))
other_act q (peers.Tokens tokens) older = tt
other_act q (peers.BadSize head) older = other_peer (peer_at (past_of older) q) _ (λ peer. tt)
other_act q peers.Gone older = other_peer (peer_at (past_of older) q) _ (λ peer. tt)

pub peer_no_route : (q : ℕ) (step : PeerStep) (older : List Entry) (log : List Act) →
    None ≡ route_told (act_at (peer_entry q step) older) log
peer_no_route q step older log = sym (no_route (act_at (peer_entry q step) older) log (other_act q step older))
