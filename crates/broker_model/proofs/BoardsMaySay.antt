-- What a board says, it may say.
use Rattle.std.proofs.Common.{◌≡◌, ℕ, zero, suc, ◌+◌, ◌≤◌, List, [], ◌∷◌, length, Bool, true, false, Option, Some, None, refl}
use Rattle.std.specs.Prelude.{◌==◌, nat_lt, unwrap_or, Result, Ok, Err}
use Rattle.std.specs.List.{slice_get, AllByRecursion}
use Rattle.std.proofs.lemmas.Bool.{ltb-false}
use Rattle.wl_proto.specs.declared.interface.Interface.{Interface}
use Rattle.wl_proto.specs.declared.interface.Interface.TheVariants as interface
use Rattle.wl_proto.specs.declared.refuse.Refuse.{Refuse}
use Rattle.wl_proto.specs.Grammar.{Value, word, signed, text, token}
use Rattle.wl_proto.specs.Reading.{request_reading}
use Rattle.wl_proto.specs.Rows.{Message}
use Rattle.relay_model.specs.declared.act.Act.{Act}
use Rattle.relay_model.specs.declared.act.Act.TheVariants as acts
use Rattle.relay_model.specs.declared.fault.Fault.{Fault}
use Rattle.relay_model.specs.declared.role.Role.{Role}
use Rattle.relay_model.specs.Boards.{sends}
use Rattle.broker_steps.specs.declared.step.ShellStep.{ShellStep}
use Rattle.broker_steps.specs.declared.step.ShellStep.TheVariants as shell
use Rattle.broker_model.specs.declared.journal.Entry.{Entry}
use Rattle.broker_model.specs.declared.journal.Entry.TheVariants as entries
use Rattle.broker_model.specs.Ids.{Made, Joined, Past, log_of, peer_at, object_at}
use Rattle.broker_model.specs.Requests.{arguments_of, new_of, act_of, rows, surround, cause, content, cursor, string, preedit, delete, commit, keymap, key, modifiers, popup, bind}
use Rattle.broker_model.specs.Refusals.{argument_fault, new_fault, state_fault, keymap_fault, own_fault, request_fault}
use Rattle.broker_model.specs.Resolve.{Meaning, label_at, of_request, of_reading, of_message, of_peer, surface_at, on_surface, shell_act, past_of}
use Rattle.broker_model.specs.Out.{act_at}
use Rattle.broker_model.specs.Law.{MaySay}
use Rattle.broker_model.proofs.EachElement.{either_way}
use Rattle.broker_model.proofs.MadeAtMostOne.{or_none}

-- ---- acts that say nothing of a board

-- the act is no key and no modifiers of a board
abbrev IsOther : Act → Type 0
IsOther (acts.VKey v time key state) = ⊥
IsOther (acts.VMods v mods) = ⊥
IsOther _ = Unit {0}

other_may : (log : List Act) (act : Act) → IsOther act → MaySay log act
other_may log (acts.VKey v time key state) h = absurd h
other_may log (acts.VMods v mods) h = absurd h
other_may log _ h = tt

other_surround : (x : ℕ) (vs : List Value) → IsOther (surround x vs)
other_surround x (text t ∷ signed a ∷ signed b ∷ []) = tt
other_surround x _ = tt

other_cause : (x : ℕ) (vs : List Value) → IsOther (cause x vs)
other_cause x (word n ∷ []) = tt
other_cause x _ = tt

other_content : (x : ℕ) (vs : List Value) → IsOther (content x vs)
other_content x (word a ∷ word b ∷ []) = tt
other_content x _ = tt

other_cursor : (x : ℕ) (vs : List Value) → IsOther (cursor x vs)
other_cursor x (signed a ∷ signed b ∷ signed c ∷ signed d ∷ []) = tt
other_cursor x _ = tt

other_string : (x : ℕ) (vs : List Value) → IsOther (string x vs)
other_string x (text t ∷ []) = tt
other_string x _ = tt

other_preedit : (x : ℕ) (vs : List Value) → IsOther (preedit x vs)
other_preedit x (text t ∷ signed a ∷ signed b ∷ []) = tt
other_preedit x _ = tt

other_delete : (x : ℕ) (vs : List Value) → IsOther (delete x vs)
other_delete x (word a ∷ word b ∷ []) = tt
other_delete x _ = tt

other_commit : (x : ℕ) (vs : List Value) → IsOther (commit x vs)
other_commit x (word n ∷ []) = tt
other_commit x _ = tt

other_keymap : (x : ℕ) (vs : List Value) → IsOther (keymap x vs)
other_keymap x (word a ∷ token t ∷ word b ∷ []) = tt
other_keymap x _ = tt

other_popup : (at : ℕ → ℕ) (x : ℕ) (vs : List Value) → IsOther (popup at x vs)
other_popup at x (word a ∷ word b ∷ []) = tt
other_popup at x _ = tt

other_bind : (p : ℕ) (vs : List Value) → IsOther (bind p vs)
other_bind p (word n ∷ vs) = either_way IsOther (n == 2) (acts.Seat p) (acts.Thing p) tt tt
other_bind p _ = tt

other_row : (xs : List Act) (n : ℕ) → AllByRecursion IsOther xs → IsOther (unwrap_or (slice_get xs n) acts.Idle)
other_row [] n h = tt
other_row (act ∷ xs) zero h = h.0
other_row (act ∷ xs) (suc n) h = other_row xs n h.1

others_may : (log : List Act) (xs : List Act) (n : ℕ) → AllByRecursion IsOther xs →
    MaySay log (unwrap_or (slice_get xs n) acts.Idle)
others_may log xs n h = other_may log (unwrap_or (slice_get xs n) acts.Idle) (other_row xs n h)

-- ---- what a board says

none_state : (state : ℕ) → state_fault state ≡ None → state ≤ 1
none_state state h = by (nat_lt 1 state) refl h
  where
    by : (b : Bool) → nat_lt 1 state ≡ b → state_fault state ≡ None → state ≤ 1
    by true e k = cc
    by false e k = ltb-false 1 state e

none_keymap : (past : Past) (x : ℕ) → keymap_fault past x ≡ None → sends (log_of past) x ≡ true
none_keymap past x h = by (sends (log_of past) x) refl h
  where
    by : (b : Bool) → sends (log_of past) x ≡ b → keymap_fault past x ≡ None → sends (log_of past) x ≡ true
    by true e k = e
    by false e k = cc

key_may : (past : Past) (x : ℕ) (role : Role) (at : ℕ → ℕ) (vs : List Value) →
    own_fault past x role at interface.VirtualKeyboard 1 vs ≡ None → MaySay (log_of past) (key x vs)
key_may past x role at (word time ∷ word code ∷ word state ∷ []) h =
    let each = or_none (state_fault state) (keymap_fault past x) h in
    (none_keymap past x each.1, none_state state each.0)
key_may past x role at _ h = tt

modifiers_may : (past : Past) (x : ℕ) (role : Role) (at : ℕ → ℕ) (vs : List Value) →
    own_fault past x role at interface.VirtualKeyboard 2 vs ≡ None → MaySay (log_of past) (modifiers x vs)
modifiers_may past x role at (word a ∷ word b ∷ word c ∷ word d ∷ []) h = none_keymap past x h
modifiers_may past x role at _ h = tt

-- ---- the act of each request

row_may : (past : Past) (p x : ℕ) (role : Role) (at : ℕ → ℕ) (i : Interface) (opcode : ℕ) (vs : List Value) →
    own_fault past x role at i opcode vs ≡ None → MaySay (log_of past) (act_of p x role at i opcode vs)
row_may past p x role at interface.VirtualKeyboard zero vs h = other_may (log_of past) (keymap x vs) (other_keymap x vs)
row_may past p x role at interface.VirtualKeyboard (suc zero) vs h = key_may past x role at vs h
row_may past p x role at interface.VirtualKeyboard (suc (suc zero)) vs h = modifiers_may past x role at vs h
row_may past p x role at interface.VirtualKeyboard (suc (suc (suc n))) vs h =
    others_may (log_of past) (acts.Drop x ∷ []) n (tt, tt)
row_may past p x role at interface.Registry opcode vs h =
    others_may (log_of past) (rows p x role at interface.Registry vs) opcode (other_bind p vs, tt)
row_may past p x role at interface.TextInput opcode vs h =
    others_may (log_of past) (rows p x role at interface.TextInput vs) opcode
    (tt, (tt, (tt, (other_surround x vs, (other_cause x vs, (other_content x vs, (other_cursor x vs, (tt, tt))))))))
row_may past p x role at interface.InputMethod opcode vs h =
    others_may (log_of past) (rows p x role at interface.InputMethod vs) opcode (
      other_string x vs,
      (other_preedit x vs, (other_delete x vs, (other_commit x vs, (other_popup at x vs, (tt, (tt, tt)))))),
    )
row_may past p x role at interface.Display opcode vs h =
    others_may (log_of past) (rows p x role at interface.Display vs) opcode (tt, (tt, tt))
row_may past p x role at interface.Compositor opcode vs h =
    others_may (log_of past) (rows p x role at interface.Compositor vs) opcode (tt, tt)
row_may past p x role at interface.Surface opcode vs h =
    others_may (log_of past) (rows p x role at interface.Surface vs) opcode (tt, tt)
row_may past p x role at interface.TextInputManager opcode vs h =
    others_may (log_of past) (rows p x role at interface.TextInputManager vs) opcode (tt, (tt, tt))
row_may past p x role at interface.InputMethodManager opcode vs h =
    others_may (log_of past) (rows p x role at interface.InputMethodManager vs) opcode (tt, (tt, tt))
row_may past p x role at interface.InputPopupSurface opcode vs h =
    others_may (log_of past) (rows p x role at interface.InputPopupSurface vs) opcode (tt, tt)
row_may past p x role at interface.KeyboardGrab opcode vs h =
    others_may (log_of past) (rows p x role at interface.KeyboardGrab vs) opcode (tt, tt)
row_may past p x role at interface.VirtualKeyboardManager opcode vs h =
    others_may (log_of past) (rows p x role at interface.VirtualKeyboardManager vs) opcode (tt, tt)
row_may past p x role at interface.Callback opcode vs h =
    others_may (log_of past) (rows p x role at interface.Callback vs) opcode tt
row_may past p x role at interface.Seat opcode vs h =
    others_may (log_of past) (rows p x role at interface.Seat vs) opcode tt

-- ---- the act of each entry

own_none : (past : Past) (p x : ℕ) (role : Role) (at : ℕ → ℕ) (m : Message) → request_fault past p x role at m ≡ None →
    own_fault past x role at m.interface m.opcode m.values ≡ None
own_none past p x role at m h =
    (or_none (new_fault past p (new_of m.interface m.opcode m.values)) _
    (or_none (argument_fault past p (arguments_of m.interface m.opcode m.values)) _ h).1).1

request_may : (past : Past) (n : ℕ) (peer : Joined) (x : ℕ) (m : Message) (o : Option Fault) →
    request_fault past peer.label x peer.role (label_at past peer.label) m ≡ o →
    MaySay (log_of past) (of_request past n peer x m o).act
request_may past n peer x m (Some f) e = tt
request_may past n peer x m None e =
    row_may past peer.label x peer.role (label_at past peer.label) m.interface m.opcode m.values
    (own_none past peer.label x peer.role (label_at past peer.label) m e)

reading_may : (past : Past) (n : ℕ) (peer : Joined) (x : ℕ) (r : Result Message Refuse) →
    MaySay (log_of past) (of_reading past n peer x r).act
reading_may past n peer x (Err e) = tt
reading_may past n peer x (Ok m) =
    request_may past n peer x m (request_fault past peer.label x peer.role (label_at past peer.label) m) refl

message_may : (past : Past) (n : ℕ) (peer : Joined) (opcode : ℕ) (body : List ℕ) (o : Option Made) →
    MaySay (log_of past) (of_message past n peer opcode body o).act
message_may past n peer opcode body None = tt
message_may past n peer opcode body (Some x) =
    reading_may past n peer x.label (request_reading x.interface opcode (past.waiting peer.label) body)

peer_may : (log : List Act) (o : Option Joined) (f : Joined → Meaning) → ((peer : Joined) → MaySay log (f peer).act) →
    MaySay log (of_peer o f).act
peer_may log None f h = tt
peer_may log (Some peer) f h = h peer

surface_may : (log : List Act) (o : Option ℕ) (f : ℕ → Act) → ((s : ℕ) → MaySay log (f s)) → MaySay log (on_surface o f)
surface_may log None f h = tt
surface_may log (Some s) f h = h s

shell_may : (past : Past) (step : ShellStep) → MaySay (log_of past) (shell_act past step)
shell_may past (shell.Focus q id) =
    surface_may (log_of past) (surface_at past (peer_at past q) id) (λ s. acts.Focus s) (λ s. tt)
shell_may past (shell.Area q id rect) =
    surface_may (log_of past) (surface_at past (peer_at past q) id) (λ s. acts.Area s rect) (λ s. tt)
shell_may past _ = tt

pub boards_may_say : (e : Entry) (older : List Entry) → MaySay (log_of (past_of older)) (act_at e older)
boards_may_say (entries.Join role) older = tt
boards_may_say (entries.Message q id opcode body) older =
    peer_may (log_of (past_of older)) (peer_at (past_of older) q)
    (λ peer. of_message (past_of older) (length older + 1) peer opcode body (object_at (past_of older) peer.label id))
    (λ peer. message_may (past_of older) (length older + 1) peer opcode body (object_at (past_of older) peer.label id))
boards_may_say (entries.Tokens q tokens) older = tt
boards_may_say (entries.BadSize q head) older =
    peer_may (log_of (past_of older)) (peer_at (past_of older) q) _ (λ peer. tt)
boards_may_say (entries.End q cause) older =
    peer_may (log_of (past_of older)) (peer_at (past_of older) q) _ (λ peer. tt)
boards_may_say (entries.Shell step) older = shell_may (past_of older) step
boards_may_say (entries.Took q bytes) older =
    peer_may (log_of (past_of older)) (peer_at (past_of older) q) _ (λ peer. tt)
