-- The acts of entries can be said: all of them where the entries are held, and those of batches where a method's
-- messages are read so.
use Rattle.std.proofs.Common.{◌≡◌, ℕ, zero, suc, ◌+◌, Bool, true, List, [], ◌∷◌, length, Option, Some, None, refl}
use Rattle.std.specs.Prelude.{◌==◌, Result, Ok, Err, unwrap_or}
use Rattle.std.specs.List.{slice_get, AllByRecursion}
use Rattle.wl_proto.specs.declared.interface.Interface.{Interface}
use Rattle.wl_proto.specs.declared.interface.Interface.TheVariants as interface
use Rattle.wl_proto.specs.declared.refuse.Refuse.{Refuse}
use Rattle.wl_proto.specs.Grammar.{Value, word, signed, text, token}
use Rattle.wl_proto.specs.Reading.{request_reading}
use Rattle.wl_proto.specs.Rows.{Message}
use Rattle.relay_model.specs.declared.act.Act.{Act}
use Rattle.relay_model.specs.declared.act.Act.TheVariants as acts
use Rattle.relay_model.specs.declared.fault.Fault.{Fault}
use Rattle.relay_model.specs.declared.role.Role.{Role}
use Rattle.broker_steps.specs.declared.step.ShellStep.{ShellStep}
use Rattle.broker_steps.specs.declared.step.ShellStep.TheVariants as shell
use Rattle.broker_model.specs.declared.journal.Entry.{Entry}
use Rattle.broker_model.specs.declared.journal.Entry.TheVariants as entries
use Rattle.broker_model.specs.Ids.{Made, Joined, Past, peer_at, object_at}
use Rattle.broker_model.specs.Requests.{surround, cause, content, cursor, string, preedit, delete, commit, keymap, key, modifiers, popup, bind, rows, act_of}
use Rattle.broker_model.specs.Refusals.{request_fault}
use Rattle.broker_model.specs.Resolve.{Meaning, label_at, of_request, of_reading, of_message, of_peer, surface_at, on_surface, shell_act, past_of}
use Rattle.broker_model.specs.Out.{act_at}
use Rattle.broker_model.proofs.EachElement.{either_way}
use Rattle.broker_telling.specs.Sayable.{IsWord, IsInt, IsText, IsShellSayable, IsHeld}
use Rattle.broker_telling.specs.ToldRead.{ActsAreSayable}
use Rattle.broker_telling.proofs.ValuesSound.{AreSound, request_sound}
use Rattle.broker_telling.proofs.ActsCanBeSaid.{When, when, Says, says_all}

-- ---- the act of each request

says_surround : (all : Bool) (x : ℕ) (vs : List Value) → AreSound vs → Says all (surround x vs)
says_surround all x (text t ∷ signed a ∷ signed b ∷ []) h = when all (IsText t × IsInt a × IsInt b)
    (h.0, h.1.0, h.1.1.0)
says_surround all x _ h = tt

says_cause : (all : Bool) (x : ℕ) (vs : List Value) → AreSound vs → Says all (cause x vs)
says_cause all x (word n ∷ []) h = when all (IsWord n) h.0
says_cause all x _ h = tt

says_content : (all : Bool) (x : ℕ) (vs : List Value) → AreSound vs → Says all (content x vs)
says_content all x (word a ∷ word b ∷ []) h = when all (IsWord a × IsWord b) (h.0, h.1.0)
says_content all x _ h = tt

says_cursor : (all : Bool) (x : ℕ) (vs : List Value) → AreSound vs → Says all (cursor x vs)
says_cursor all x (signed a ∷ signed b ∷ signed c ∷ signed d ∷ []) h =
    when all (IsInt a × IsInt b × IsInt c × IsInt d) (h.0, h.1.0, h.1.1.0, h.1.1.1.0)
says_cursor all x _ h = tt

says_string : (all : Bool) (x : ℕ) (vs : List Value) → AreSound vs → Says all (string x vs)
says_string all x (text t ∷ []) h = h.0
says_string all x _ h = tt

says_preedit : (all : Bool) (x : ℕ) (vs : List Value) → AreSound vs → Says all (preedit x vs)
says_preedit all x (text t ∷ signed a ∷ signed b ∷ []) h = (h.0, h.1.0, h.1.1.0)
says_preedit all x _ h = tt

says_delete : (all : Bool) (x : ℕ) (vs : List Value) → AreSound vs → Says all (delete x vs)
says_delete all x (word a ∷ word b ∷ []) h = (h.0, h.1.0)
says_delete all x _ h = tt

says_commit : (all : Bool) (x : ℕ) (vs : List Value) → Says all (commit x vs)
says_commit all x (word n ∷ []) = tt
says_commit all x _ = tt

says_keymap : (all : Bool) (x : ℕ) (vs : List Value) → Says all (keymap x vs)
says_keymap all x (word a ∷ token t ∷ word b ∷ []) = tt
says_keymap all x _ = tt

says_key : (all : Bool) (x : ℕ) (vs : List Value) → AreSound vs → Says all (key x vs)
says_key all x (word a ∷ word b ∷ word c ∷ []) h = when all (IsWord a × IsWord b × IsWord c) (h.0, h.1.0, h.1.1.0)
says_key all x _ h = tt

says_modifiers : (all : Bool) (x : ℕ) (vs : List Value) → AreSound vs → Says all (modifiers x vs)
says_modifiers all x (word a ∷ word b ∷ word c ∷ word d ∷ []) h =
    when all (IsWord a × IsWord b × IsWord c × IsWord d) (h.0, h.1.0, h.1.1.0, h.1.1.1.0)
says_modifiers all x _ h = tt

says_popup : (all : Bool) (at : ℕ → ℕ) (x : ℕ) (vs : List Value) → Says all (popup at x vs)
says_popup all at x (word a ∷ word b ∷ []) = tt
says_popup all at x _ = tt

says_bind : (all : Bool) (p : ℕ) (vs : List Value) → Says all (bind p vs)
says_bind all p (word n ∷ vs) = either_way (Says all) (n == 2) (acts.Seat p) (acts.Thing p) tt tt
says_bind all p _ = tt

says_rows : (all : Bool) (p x : ℕ) (role : Role) (at : ℕ → ℕ) (i : Interface) (vs : List Value) → AreSound vs →
    AllByRecursion (Says all) (rows p x role at i vs)
says_rows all p x role at interface.Display vs h = (tt, (tt, tt))
says_rows all p x role at interface.Registry vs h = (says_bind all p vs, tt)
says_rows all p x role at interface.Compositor vs h = (tt, tt)
says_rows all p x role at interface.Surface vs h = (tt, tt)
says_rows all p x role at interface.TextInputManager vs h = (tt, (tt, tt))
says_rows all p x role at interface.TextInput vs h = (
  tt,
  (
    tt,
    (
      tt,
      (
        says_surround all x vs h,
        (says_cause all x vs h, (says_content all x vs h, (says_cursor all x vs h, (tt, tt)))),
      ),
    ),
  ),
)
says_rows all p x role at interface.InputMethodManager vs h = (tt, (tt, tt))
says_rows all p x role at interface.InputMethod vs h = (
  says_string all x vs h,
  (
    says_preedit all x vs h,
    (says_delete all x vs h, (says_commit all x vs, (says_popup all at x vs, (tt, (tt, tt))))),
  ),
)
says_rows all p x role at interface.InputPopupSurface vs h = (tt, tt)
says_rows all p x role at interface.KeyboardGrab vs h = (tt, tt)
says_rows all p x role at interface.VirtualKeyboardManager vs h = (tt, tt)
says_rows all p x role at interface.VirtualKeyboard vs h =
    (says_keymap all x vs, (says_key all x vs h, (says_modifiers all x vs h, (tt, tt))))
says_rows all p x role at _ vs h = tt

says_row : (all : Bool) (xs : List Act) (n : ℕ) → AllByRecursion (Says all) xs →
    Says all (unwrap_or (slice_get xs n) acts.Idle)
says_row all [] n h = tt
says_row all (act ∷ xs) zero h = h.0
says_row all (act ∷ xs) (suc n) h = says_row all xs n h.1

-- the act of a request can be said, whoever sends it
abbrev pub SaysSo : Bool → Message → Type 0
SaysSo all m = (p x : ℕ) (role : Role) (at : ℕ → ℕ) → Says all (act_of p x role at m.interface m.opcode m.values)

pub sound_says : (all : Bool) (m : Message) → AreSound m.values → SaysSo all m
sound_says all m h p x role at = says_row all (rows p x role at m.interface m.values) m.opcode
    (says_rows all p x role at m.interface m.values h)

-- ---- the act of each entry

says_request : (all : Bool) (past : Past) (n : ℕ) (peer : Joined) (x : ℕ) (m : Message) (o : Option Fault) →
    SaysSo all m →
    Says all (of_request past n peer x m o).act
says_request all past n peer x m (Some f) h = tt
says_request all past n peer x m None h = h peer.label x peer.role (label_at past peer.label)

says_reading : (all : Bool) (past : Past) (n : ℕ) (peer : Joined) (x : ℕ) (r : Result Message Refuse) →
    ((m : Message) → r ≡ Ok m → SaysSo all m) → Says all (of_reading past n peer x r).act
says_reading all past n peer x (Err e) h = tt
says_reading all past n peer x (Ok m) h =
    says_request all past n peer x m (request_fault past peer.label x peer.role (label_at past peer.label) m) (h m refl)

-- what a message to the object is read as can be said
abbrev pub ReadsSo : Bool → Past → Joined → ℕ → List ℕ → Made → Type 0
ReadsSo all past peer opcode body x =
    (m : Message) → request_reading x.interface opcode (past.waiting peer.label) body ≡ Ok m → SaysSo all m

says_message : (all : Bool) (past : Past) (n : ℕ) (peer : Joined) (opcode : ℕ) (body : List ℕ) (o : Option Made) →
    ((x : Made) → o ≡ Some x → ReadsSo all past peer opcode body x) →
    Says all (of_message past n peer opcode body o).act
says_message all past n peer opcode body None h = tt
says_message all past n peer opcode body (Some x) h =
    says_reading all past n peer x.label (request_reading x.interface opcode (past.waiting peer.label) body) (h x refl)

says_peer : (all : Bool) (o : Option Joined) (f : Joined → Meaning) →
    ((peer : Joined) → o ≡ Some peer → Says all (f peer).act) →
    Says all (of_peer o f).act
says_peer all None f h = tt
says_peer all (Some peer) f h = h peer refl

says_surface : (all : Bool) (o : Option ℕ) (f : ℕ → Act) → ((s : ℕ) → Says all (f s)) → Says all (on_surface o f)
says_surface all None f h = tt
says_surface all (Some s) f h = h s

says_shell : (all : Bool) (past : Past) (step : ShellStep) → When all (IsShellSayable step) →
    Says all (shell_act past step)
says_shell all past (shell.Focus q id) h = says_surface all (surface_at past (peer_at past q) id) (λ s. acts.Focus s)
    (λ s. tt)
says_shell all past (shell.Area q id rect) h = says_surface all (surface_at past (peer_at past q) id)
    (λ s. acts.Area s rect) (λ s. tt)
says_shell all past (shell.Key time key state) h = h
says_shell all past (shell.Mods mods) h = h
says_shell all past (shell.Keymap keymap) h = h
says_shell all past (shell.Repeat repeat) h = h
says_shell all past _ h = tt

-- what the entry says can be said: its message is read so, or its numbers have 32 bits where all are asked
abbrev pub EntrySays : Bool → Entry → List Entry → Type 0
EntrySays all (entries.Message q id opcode body) older =
    (peer : Joined) (x : Made) → peer_at (past_of older) q ≡ Some peer →
    object_at (past_of older) peer.label id ≡ Some x →
    ReadsSo all (past_of older) peer opcode body x
EntrySays all (entries.Shell step) older = When all (IsShellSayable step)
EntrySays all _ older = Unit {0}

pub act_says : (all : Bool) (e : Entry) (older : List Entry) → EntrySays all e older → Says all (act_at e older)
act_says all (entries.Join role) older h = tt
act_says all (entries.Message q id opcode body) older h =
    says_peer all (peer_at (past_of older) q)
    (λ peer. of_message (past_of older) (length older + 1) peer opcode body (object_at (past_of older) peer.label id))
    (λ peer joined. says_message all (past_of older) (length older + 1) peer opcode body
    (object_at (past_of older) peer.label id)
    (λ x there. h peer x joined there))
act_says all (entries.Tokens q tokens) older h = tt
act_says all (entries.BadSize q head) older h = says_peer all (peer_at (past_of older) q) _ (λ peer joined. tt)
act_says all (entries.End q why) older h = says_peer all (peer_at (past_of older) q) _ (λ peer joined. tt)
act_says all (entries.Shell step) older h = says_shell all (past_of older) step h
act_says all (entries.Took q bytes) older h = says_peer all (peer_at (past_of older) q) _ (λ peer joined. tt)

-- an entry that is held says so
pub held_says : (e : Entry) (older : List Entry) → IsHeld e → EntrySays true e older
held_says (entries.Message q id opcode body) older h =
    λ peer x joined there m e. sound_says true m
    (request_sound x.interface opcode ((past_of older).waiting peer.label) body m h.0 e)
held_says (entries.Shell step) older h = h
held_says _ older h = tt

pub acts_sayable : ActsAreSayable
acts_sayable e older h = says_all (act_at e older) (act_says true e older (held_says e older h))
