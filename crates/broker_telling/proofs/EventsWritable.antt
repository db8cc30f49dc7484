-- The message of an event that can be said can be written.
use Rattle.std.proofs.Common.{◌≡◌, ℕ, ◌^◌, ◌<◌, ◌≤◌, Bool, true, false, List, [], ◌∷◌, Option, Some, refl, subst, arith}
use Rattle.std.specs.Prelude.{IfSome}
use Rattle.wl_wire.proofs.TextsKnown.{is_text-plain}
use Rattle.wl_proto.specs.declared.interface.Interface.{Interface}
use Rattle.wl_proto.specs.declared.interface.Interface.TheVariants as interface
use Rattle.wl_proto.specs.declared.table.Kind.{Kind}
use Rattle.wl_proto.specs.declared.table.Kind.TheVariants.{Uint, Int, Object, Text, TextOrNull, Descriptor}
use Rattle.wl_proto.specs.Names.{name_of}
use Rattle.wl_proto.specs.Rows.{Message, event_kinds}
use Rattle.wl_proto.specs.Spelling.{message_len}
use Rattle.wl_proto.specs.Spelled.{AreOfKinds}
use Rattle.relay_model.specs.declared.fault.Fault.{Fault}
use Rattle.relay_model.specs.declared.fault.Fault.TheVariants as faults
use Rattle.relay_model.specs.declared.said.Said.{Said}
use Rattle.relay_model.specs.declared.said.Said.TheVariants as said
use Rattle.relay_model.specs.Faults.{code_of, text_of}
use Rattle.broker_model.specs.Ids.{Made, made_as}
use Rattle.broker_model.specs.Groups.{id_of, message_of}
use Rattle.broker_telling.specs.Sayable.{IsWord, IsInt, IsText, HasWords, IsKeymap, IsRepeat}
use Rattle.broker_telling.specs.ToldRead.{IsWritable}
use Rattle.broker_telling.proofs.ActsCanBeSaid.{When}
use Rattle.broker_telling.proofs.ToldSayable.{CanSay}
use Rattle.broker_telling.proofs.ToldKinds.{event_kind}

name_text : (i : Interface) → IsText (name_of i)
name_text interface.Display = is_text-plain (name_of interface.Display) refl
name_text interface.Registry = is_text-plain (name_of interface.Registry) refl
name_text interface.Callback = is_text-plain (name_of interface.Callback) refl
name_text interface.Compositor = is_text-plain (name_of interface.Compositor) refl
name_text interface.Surface = is_text-plain (name_of interface.Surface) refl
name_text interface.Seat = is_text-plain (name_of interface.Seat) refl
name_text interface.TextInputManager = is_text-plain (name_of interface.TextInputManager) refl
name_text interface.TextInput = is_text-plain (name_of interface.TextInput) refl
name_text interface.InputMethodManager = is_text-plain (name_of interface.InputMethodManager) refl
name_text interface.InputMethod = is_text-plain (name_of interface.InputMethod) refl
name_text interface.InputPopupSurface = is_text-plain (name_of interface.InputPopupSurface) refl
name_text interface.KeyboardGrab = is_text-plain (name_of interface.KeyboardGrab) refl
name_text interface.VirtualKeyboardManager = is_text-plain (name_of interface.VirtualKeyboardManager) refl
name_text interface.VirtualKeyboard = is_text-plain (name_of interface.VirtualKeyboard) refl

fault_text : (fault : Fault) → IsText (text_of fault)
fault_text faults.Size = is_text-plain (text_of faults.Size) refl
fault_text faults.Object = is_text-plain (text_of faults.Object) refl
fault_text faults.Opcode = is_text-plain (text_of faults.Opcode) refl
fault_text faults.Malformed = is_text-plain (text_of faults.Malformed) refl
fault_text faults.Argument = is_text-plain (text_of faults.Argument) refl
fault_text faults.NewId = is_text-plain (text_of faults.NewId) refl
fault_text faults.TooMany = is_text-plain (text_of faults.TooMany) refl
fault_text faults.Bind = is_text-plain (text_of faults.Bind) refl
fault_text faults.Capability = is_text-plain (text_of faults.Capability) refl
fault_text faults.Role = is_text-plain (text_of faults.Role) refl
fault_text faults.NoKeymap = is_text-plain (text_of faults.NoKeymap) refl

fault_word : (fault : Fault) → IsWord (code_of fault)
fault_word faults.Size = omega arith
fault_word faults.Object = omega arith
fault_word faults.Opcode = omega arith
fault_word faults.Malformed = omega arith
fault_word faults.Argument = omega arith
fault_word faults.NewId = omega arith
fault_word faults.TooMany = omega arith
fault_word faults.Bind = omega arith
fault_word faults.Capability = omega arith
fault_word faults.Role = omega arith
fault_word faults.NoKeymap = omega arith

-- the event is one whose numbers are asked only where all acts are
abbrev pub IsAsked : Bool → Said → Type 0
IsAsked all (said.Surrounding text cursor anchor) = all ≡ true
IsAsked all (said.ChangeCause cause) = all ≡ true
IsAsked all (said.ContentType hint purpose) = all ≡ true
IsAsked all (said.PopupRect x y width height) = all ≡ true
IsAsked all (said.Keymap keymap) = all ≡ true
IsAsked all (said.Key serial time key state) = all ≡ true
IsAsked all (said.Mods serial mods) = all ≡ true
IsAsked all (said.Repeat repeat) = all ≡ true
IsAsked all _ = Unit {0}

pub all_asked : (event : Said) → IsAsked true event
all_asked (said.Surrounding text cursor anchor) = refl
all_asked (said.ChangeCause cause) = refl
all_asked (said.ContentType hint purpose) = refl
all_asked (said.PopupRect x y width height) = refl
all_asked (said.Keymap keymap) = refl
all_asked (said.Key serial time key state) = refl
all_asked (said.Mods serial mods) = refl
all_asked (said.Repeat repeat) = refl
all_asked _ = tt

asked : (all : Bool) (A : Type 0) → all ≡ true → When all A → A
asked true A e h = h
asked false A e h = cc

writes : (m : Message) (row : List Kind) → event_kinds m.interface m.opcode ≡ Some row → AreOfKinds row m.values →
    m.opcode < 2 ^ 16 →
    message_len m ≤ 4096 → IsWritable m
writes m row is kinds small size = record { row = row; is = is; kinds = kinds; opcode = small; size = size }

pub writable : (all : Bool) (made : List Made) (event : Said) → ((label : ℕ) → IsWord (id_of (made_as made label))) →
    CanSay all event → IsAsked all event →
    IfSome (message_of made event) (λ m. message_len m ≤ 4096) → IfSome (message_of made event) IsWritable
writable all made (said.Enter surface) ids c a s = writes _ (Object ∷ []) refl (ids surface, tt) (omega arith) s
writable all made (said.Leave surface) ids c a s = writes _ (Object ∷ []) refl (ids surface, tt) (omega arith) s
writable all made (said.Preedit t begin end) ids c a s =
    writes _ (TextOrNull ∷ Int ∷ Int ∷ []) refl (c.0, (c.1, (c.2, tt))) (omega arith) s
writable all made (said.CommitString t) ids c a s = writes _ (TextOrNull ∷ []) refl (c, tt) (omega arith) s
writable all made (said.Delete before after) ids c a s = writes _ (Uint ∷ Uint ∷ []) refl (c.0, (c.1, tt))
    (omega arith) s
writable all made (said.FieldDone serial) ids c a s = writes _ (Uint ∷ []) refl (c, tt) (omega arith) s
writable all made said.Activate ids c a s = writes _ [] refl tt (omega arith) s
writable all made said.Deactivate ids c a s = writes _ [] refl tt (omega arith) s
writable all made (said.Surrounding t cursor anchor) ids c a s =
    let k = asked all (IsText t × IsWord cursor × IsWord anchor) a c in
    writes _ (Text ∷ Uint ∷ Uint ∷ []) refl (k.0, (k.1, (k.2, tt))) (omega arith) s
writable all made (said.ChangeCause cause) ids c a s = writes _ (Uint ∷ []) refl (asked all (IsWord cause) a c, tt)
    (omega arith) s
writable all made (said.ContentType hint purpose) ids c a s =
    let k = asked all (IsWord hint × IsWord purpose) a c in
    writes _ (Uint ∷ Uint ∷ []) refl (k.0, (k.1, tt)) (omega arith) s
writable all made said.MethodDone ids c a s = writes _ [] refl tt (omega arith) s
writable all made said.Unavailable ids c a s = writes _ [] refl tt (omega arith) s
writable all made (said.PopupRect x y width height) ids c a s =
    let k = asked all (IsInt x × IsInt y × IsInt width × IsInt height) a c in
    writes _ (Int ∷ Int ∷ Int ∷ Int ∷ []) refl (k.0, (k.1, (k.2, (k.3, tt)))) (omega arith) s
writable all made (said.Keymap keymap) ids c a s =
    let k = asked all (IsKeymap keymap) a c in
    writes _ (Uint ∷ Descriptor ∷ Uint ∷ []) refl (k.0, (tt, (k.1, tt))) (omega arith) s
writable all made (said.Key serial time key state) ids c a s =
    let k = asked all (IsWord serial × IsWord time × IsWord key × IsWord state) a c in
    writes _ (Uint ∷ Uint ∷ Uint ∷ Uint ∷ []) refl (k.0, (k.1, (k.2, (k.3, tt)))) (omega arith) s
writable all made (said.Mods serial mods) ids c a s =
    let k = asked all (IsWord serial × HasWords mods) a c in
    writes _ (Uint ∷ Uint ∷ Uint ∷ Uint ∷ Uint ∷ []) refl (k.0, (k.1.0, (k.1.1, (k.1.2, (k.1.3, tt))))) (omega arith) s
writable all made (said.Repeat repeat) ids c a s =
    let k = asked all (IsRepeat repeat) a c in
    writes _ (Int ∷ Int ∷ []) refl (k.0, (k.1, tt)) (omega arith) s
writable all made (said.Global name i version) ids c a s =
    writes _ (Uint ∷ Text ∷ Uint ∷ []) refl (c.0, (name_text i, (c.1, tt))) (omega arith) s
writable all made (said.CallbackDone value) ids c a s = writes _ (Uint ∷ []) refl (c, tt) (omega arith) s
writable all made (said.DeleteId label) ids c a s = writes _ (Uint ∷ []) refl (ids label, tt) (omega arith) s
writable all made (said.Capabilities value) ids c a s = writes _ (Uint ∷ []) refl (c, tt) (omega arith) s
writable all made (said.Error object fault) ids c a s =
    writes _ (Object ∷ Uint ∷ Text ∷ []) refl (ids object, (fault_word fault, (fault_text fault, tt))) (omega arith) s
writable all made (said.Pass time key state) ids c a s = tt
writable all made (said.VMods mods) ids c a s = tt
writable all made (said.Placed popup x y) ids c a s = tt

-- ---- what fields are told

-- the interfaces of a field's client
abbrev pub IsFieldKind : Interface → Type 0
IsFieldKind interface.InputMethod = ⊥
IsFieldKind interface.InputPopupSurface = ⊥
IsFieldKind interface.KeyboardGrab = ⊥
IsFieldKind _ = Unit {0}

not_field : (all : Bool) (i j : Interface) → (let o : Option Interface = Some j in o ≡ Some i) → IsFieldKind i →
    (IsFieldKind j → ⊥) → all ≡ true
not_field all i j e f n = absurd (n (subst IsFieldKind (let s : i ≡ j = cc in s) f))

-- no number is asked of an event of such an interface
pub fields_asked : (all : Bool) (event : Said) (i : Interface) → event_kind event ≡ Some i → IsFieldKind i →
    IsAsked all event
fields_asked all (said.Surrounding text cursor anchor) i e f = not_field all i interface.InputMethod e f (λ n. n)
fields_asked all (said.ChangeCause cause) i e f = not_field all i interface.InputMethod e f (λ n. n)
fields_asked all (said.ContentType hint purpose) i e f = not_field all i interface.InputMethod e f (λ n. n)
fields_asked all (said.PopupRect x y width height) i e f = not_field all i interface.InputPopupSurface e f (λ n. n)
fields_asked all (said.Keymap keymap) i e f = not_field all i interface.KeyboardGrab e f (λ n. n)
fields_asked all (said.Key serial time key state) i e f = not_field all i interface.KeyboardGrab e f (λ n. n)
fields_asked all (said.Mods serial mods) i e f = not_field all i interface.KeyboardGrab e f (λ n. n)
fields_asked all (said.Repeat repeat) i e f = not_field all i interface.KeyboardGrab e f (λ n. n)
fields_asked all _ i e f = tt
