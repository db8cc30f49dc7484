-- The interface of what has a label: as its act made it, and as it was made under an id.
use Rattle.std.proofs.Common.{◌≡◌, ℕ, zero, suc, ◌+◌, ◌≤◌, Bool, true, false, List, [], ◌∷◌, ◌++◌, length, Option, Some, None, Result, Ok, Err, refl, sym, ap, subst, ◌∙◌, arith, inl, inr, ◌⊎◌}
use Rattle.std.specs.Prelude.{◌==◌, if◌then◌else◌, IfSome}
use Rattle.std.proofs.lemmas.Bool.{ne_eqb, eq-eqb, eqb-true}
use Rattle.std.proofs.lemmas.Option.{same_Some}
use Rattle.wl_proto.specs.declared.interface.Interface.{Interface}
use Rattle.wl_proto.specs.declared.interface.Interface.TheVariants as interface
use Rattle.wl_proto.specs.declared.refuse.Refuse.{Refuse}
use Rattle.wl_proto.specs.Grammar.{Value, word, text}
use Rattle.wl_proto.specs.Reading.{request_reading}
use Rattle.wl_proto.specs.Rows.{Message}
use Rattle.relay_model.specs.declared.act.Act.{Act}
use Rattle.relay_model.specs.declared.act.Act.TheVariants as acts
use Rattle.relay_model.specs.declared.fault.Fault.{Fault}
use Rattle.relay_model.specs.declared.role.Role.{Role}
use Rattle.relay_model.specs.Objects.{Kind, PeerKind, SurfaceKind, FieldKind, MethodKind, ThingKind, BoardKind, PopupKind, GrabKind, Object, next, is_kind, owner, made_for, made, maker, remains, object}
use Rattle.relay_model.specs.Idle.{is_live}
use Rattle.broker_model.specs.declared.journal.Entry.{Entry}
use Rattle.broker_model.specs.declared.journal.Entry.TheVariants as entries
use Rattle.broker_model.specs.Ids.{Made, Joined, Past, log_of, peer_at, object_at}
use Rattle.broker_model.specs.Requests.{Argument, global_at, new_of, act_of}
use Rattle.broker_model.specs.Refusals.{request_fault}
use Rattle.broker_model.specs.Resolve.{Meaning, label_at, made_new, of_request, of_reading, of_message, of_peer, means, past_of}
use Rattle.broker_model.specs.Out.{act_now}
use Rattle.broker_model.proofs.EachElement.{either_way}
use Rattle.broker_model.proofs.IdsAreNames.{IsIn}
use Rattle.broker_model.proofs.OwnersLive.{remains_some}
use Rattle.broker_model.proofs.LivePeersJoined.{length_log}
use Rattle.broker_model.proofs.MadeObjectsStand.{sound}

-- ---- by acts

-- the interface of what the act makes and something may be told to
abbrev pub made_by : Act → Option Interface
made_by acts.Peer = Some interface.Display
made_by (acts.Surface p) = Some interface.Surface
made_by (acts.Field p) = Some interface.TextInput
made_by (acts.Method p) = Some interface.InputMethod
made_by (acts.Popup m s) = Some interface.InputPopupSurface
made_by (acts.Grab m) = Some interface.KeyboardGrab
made_by (acts.Registry p role) = Some interface.Registry
made_by (acts.Sync p) = Some interface.Callback
made_by (acts.Seat p) = Some interface.Seat
made_by (acts.VBoard p) = Some interface.VirtualKeyboard
made_by _ = None

-- the interface of what the act with the label made
abbrev pub kind_at : List Act → ℕ → Option Interface
kind_at [] x = None
kind_at (act ∷ older) x = (if x == next older then made_by act else kind_at older x)

pub kind_new : (act : Act) (log : List Act) → kind_at (act ∷ log) (next log) ≡ made_by act
kind_new act log =
    ap (λ (b : Bool). if b then made_by act else kind_at log (next log)) (eq-eqb (next log) (next log) refl)

pub kind_stays : (act : Act) (log : List Act) (x : ℕ) → x ≤ length log → kind_at (act ∷ log) x ≡ kind_at log x
kind_stays act log x w =
    ap (λ (b : Bool). if b then made_by act else kind_at log x) (ne_eqb x (next log) (λ e. absurd (omega arith)))

-- the interface that a kind of object has, where it says one
abbrev pub interface_of : Kind → Option Interface
interface_of PeerKind = Some interface.Display
interface_of SurfaceKind = Some interface.Surface
interface_of FieldKind = Some interface.TextInput
interface_of MethodKind = Some interface.InputMethod
interface_of ThingKind = None
interface_of BoardKind = Some interface.VirtualKeyboard
interface_of (PopupKind m s) = Some interface.InputPopupSurface
interface_of (GrabKind m) = Some interface.KeyboardGrab

-- it is the one of its label
abbrev Agrees : Option Interface → Option Interface → Type 0
Agrees at o = IfSome o (λ i. at ≡ Some i)

agrees_as : (at : Option Interface) (kind : Kind) (p : ℕ) (o : Object) →
    (let u : Object = record { kind = kind; peer = p } in Some u ≡ Some o) →
    Agrees at (interface_of kind) → Agrees at (interface_of o.kind)
agrees_as at kind p o e h =
    let u : Object = record { kind = kind; peer = p } in
    subst (λ (x : Object). Agrees at (interface_of x.kind)) (same_Some u o e) h

agrees_for : (at : Option Interface) (kind : Kind) (whose : Option ℕ) (o : Object) → made_for kind whose ≡ Some o →
    Agrees at (interface_of kind) → Agrees at (interface_of o.kind)
agrees_for at kind None o e h = cc
agrees_for at kind (Some p) o e h = agrees_as at kind p o e h

agrees_new : (act : Act) (n : ℕ) (whose : Option ℕ) (o : Object) → made act n whose ≡ Some o →
    Agrees (made_by act) (interface_of o.kind)
agrees_new acts.Peer n whose o e = agrees_as (Some interface.Display) PeerKind n o e refl
agrees_new (acts.Surface p) n whose o e = agrees_as (Some interface.Surface) SurfaceKind p o e refl
agrees_new (acts.Field p) n whose o e = agrees_as (Some interface.TextInput) FieldKind p o e refl
agrees_new (acts.Method p) n whose o e = agrees_as (Some interface.InputMethod) MethodKind p o e refl
agrees_new (acts.Popup m s) n whose o e = agrees_for (Some interface.InputPopupSurface) (PopupKind m s) whose o e refl
agrees_new (acts.Grab m) n whose o e = agrees_for (Some interface.KeyboardGrab) (GrabKind m) whose o e refl
agrees_new (acts.Registry p role) n whose o e = agrees_as (Some interface.Registry) ThingKind p o e tt
agrees_new (acts.Seat p) n whose o e = agrees_as (Some interface.Seat) ThingKind p o e tt
agrees_new (acts.Thing p) n whose o e = agrees_as None ThingKind p o e tt
agrees_new (acts.VBoard p) n whose o e = agrees_as (Some interface.VirtualKeyboard) BoardKind p o e refl
agrees_new _ n whose o e = cc

-- a live object has the interface of its act
pub object_kind : (log : List Act) (x : ℕ) (o : Object) → object log x ≡ Some o →
    Agrees (kind_at log x) (interface_of o.kind)
object_kind [] x o e = cc
object_kind (act ∷ older) x o e = by (x == next older) e (λ k. object_kind older x o k)
  where
    by : (b : Bool) →
        (if b then made act x (owner (object older (maker act))) else remains act x (object older x)) ≡ Some o →
        (object older x ≡ Some o → Agrees (kind_at older x) (interface_of o.kind)) →
        Agrees (if b then made_by act else kind_at older x) (interface_of o.kind)
    by true k f = agrees_new act x (owner (object older (maker act))) o k
    by false k f = f (remains_some act x (object older x) o k)

-- of an object that passes a test of one kind
pub kind_of : (test : Kind → Bool) (i : Interface) (log : List Act) (x : ℕ) →
    ((kind : Kind) → test kind ≡ true → interface_of kind ≡ Some i) → is_kind test (object log x) ≡ true →
    kind_at log x ≡ Some i
kind_of test i log x only h = by (object log x) refl h
  where
    by : (o : Option Object) → object log x ≡ o → is_kind test o ≡ true → kind_at log x ≡ Some i
    by None q k = cc
    by (Some o) q k =
        subst (λ (u : Option Interface). Agrees (kind_at log x) u) (only o.kind k) (object_kind log x o q)

-- ---- by what was made under ids

-- the act makes what has this interface, if it makes something to which something may be told
abbrev Makes : Act → Interface → Type 0
Makes act i = IfSome (made_by act) (λ j. i ≡ j)

named_by : (act : Act) (i : Interface) (id : ℕ) (new : Argument) →
    (let o : Option Argument = Some (record { id = id; interface = i }) in o ≡ Some new) → Makes act i →
    Makes act new.interface
named_by act i id new e h =
    let a : Argument = record { id = id; interface = i } in
    subst (λ (x : Argument). Makes act x.interface) (same_Some a new e) h

chosen : (b : Bool) (act : Act) (i : Interface) (id : ℕ) (new : Argument) →
    (if b then Some (record { id = id; interface = i }) else None) ≡ Some new →
    (b ≡ true → Makes act i) → Makes act new.interface
chosen true act i id new e h = named_by act i id new e (h refl)
chosen false act i id new e h = cc

bind_makes : (p name : ℕ) (vs : List Value) → Makes (if name == 2 then acts.Seat p else acts.Thing p) (global_at name)
bind_makes p name vs = by (name == 2) refl
  where
    by : (b : Bool) → (name == 2) ≡ b → Makes (if b then acts.Seat p else acts.Thing p) (global_at name)
    by true e = ap global_at (eqb-true name 2 e)
    by false e = tt

-- what a request makes has the interface of its act
request_makes : (p x : ℕ) (role : Role) (at : ℕ → ℕ) (i : Interface) (opcode : ℕ) (vs : List Value) (new : Argument) →
    new_of i opcode vs ≡ Some new → Makes (act_of p x role at i opcode vs) new.interface
request_makes p x role at interface.Display zero (word id ∷ []) new e = named_by
    (acts.Sync p) interface.Callback id new e refl
request_makes p x role at interface.Display (suc zero) (word id ∷ []) new e =
    named_by (acts.Registry p role) interface.Registry id new e refl
request_makes p x role at interface.Display (suc (suc n)) (word id ∷ []) new e = tt
request_makes p x role at interface.Registry zero (word name ∷ text t ∷ word version ∷ word id ∷ []) new e =
    named_by (if name == 2 then acts.Seat p else acts.Thing p) (global_at name) id new e (bind_makes p name [])
request_makes p x role at interface.Registry (suc n) (word name ∷ text t ∷ word version ∷ word id ∷ []) new e = tt
request_makes p x role at interface.Compositor zero (word id ∷ []) new e = named_by
    (acts.Surface p) interface.Surface id new e refl
request_makes p x role at interface.Compositor (suc n) (word id ∷ []) new e = tt
request_makes p x role at interface.Seat n (word id ∷ []) new e = tt
request_makes p x role at interface.TextInputManager zero (word id ∷ word seat ∷ []) new e = tt
request_makes p x role at interface.TextInputManager (suc zero) (word id ∷ word seat ∷ []) new e =
    named_by (acts.Field p) interface.TextInput id new e refl
request_makes p x role at interface.TextInputManager (suc (suc n)) (word id ∷ word seat ∷ []) new e = tt
request_makes p x role at interface.InputMethodManager zero (word seat ∷ word id ∷ []) new e =
    named_by (acts.Method p) interface.InputMethod id new e refl
request_makes p x role at interface.InputMethodManager (suc zero) (word seat ∷ word id ∷ []) new e = tt
request_makes p x role at interface.InputMethodManager (suc (suc n)) (word seat ∷ word id ∷ []) new e = tt
request_makes p x role at interface.VirtualKeyboardManager zero (word seat ∷ word id ∷ []) new e =
    named_by (acts.VBoard p) interface.VirtualKeyboard id new e refl
request_makes p x role at interface.VirtualKeyboardManager (suc n) (word seat ∷ word id ∷ []) new e = tt
request_makes p x role at interface.InputMethod opcode (word id ∷ word surface ∷ []) new e =
    chosen (opcode == 4)
    (act_of p x role at interface.InputMethod opcode (word id ∷ word surface ∷ [])) interface.InputPopupSurface id new e
    (λ q. subst (λ n. Makes
    (act_of p x role at interface.InputMethod n (word id ∷ word surface ∷ [])) interface.InputPopupSurface)
    (sym (eqb-true opcode 4 q)) refl)
request_makes p x role at interface.InputMethod opcode (word id ∷ []) new e =
    chosen (opcode == 5)
    (act_of p x role at interface.InputMethod opcode (word id ∷ [])) interface.KeyboardGrab id new e
    (λ q. subst (λ n. Makes (act_of p x role at interface.InputMethod n (word id ∷ [])) interface.KeyboardGrab)
    (sym (eqb-true opcode 5 q)) refl)
request_makes p x role at _ opcode vs new e = cc

-- what an entry makes has the interface of its act
abbrev MadeWell : Act → Made → Type 0
MadeWell act m = Makes act m.interface

new_well : (act : Act) (p n : ℕ) (o : Option Argument) (m : Made) →
    ((new : Argument) → o ≡ Some new → Makes act new.interface) →
    IsIn (made_new p n o) m → MadeWell act m × (m.label ≡ n)
new_well act p n None m h i = absurd i
new_well act p n (Some new) m h (inl e) =
    (subst (λ (y : Made). Makes act y.interface) e (h new refl), ap (λ (y : Made). y.label) (sym e))
new_well act p n (Some new) m h (inr i) = absurd i

-- it makes what it makes with its own number
abbrev AreWell : Meaning → ℕ → Type 0
AreWell meaning n = (m : Made) → IsIn meaning.made m → MadeWell meaning.act m × (m.label ≡ n)

request_well : (past : Past) (n : ℕ) (peer : Joined) (x : ℕ) (r : Message) (o : Option Fault) →
    AreWell (of_request past n peer x r o) n
request_well past n peer x r (Some f) m i = absurd i
request_well past n peer x r None m i =
    new_well (act_of peer.label x peer.role (label_at past peer.label) r.interface r.opcode r.values) peer.label n
    (new_of r.interface r.opcode r.values) m
    (λ new e. request_makes peer.label x peer.role (label_at past peer.label) r.interface r.opcode r.values new e) i

reading_well : (past : Past) (n : ℕ) (peer : Joined) (x : ℕ) (r : Result Message Refuse) →
    AreWell (of_reading past n peer x r) n
reading_well past n peer x (Err f) m i = absurd i
reading_well past n peer x (Ok r) m i =
    request_well past n peer x r (request_fault past peer.label x peer.role (label_at past peer.label) r) m i

message_well : (past : Past) (n : ℕ) (peer : Joined) (opcode : ℕ) (body : List ℕ) (o : Option Made) →
    AreWell (of_message past n peer opcode body o) n
message_well past n peer opcode body None m i = absurd i
message_well past n peer opcode body (Some x) m i =
    reading_well past n peer x.label (request_reading x.interface opcode (past.waiting peer.label) body) m i

peer_well : (o : Option Joined) (f : Joined → Meaning) (n : ℕ) → ((peer : Joined) → AreWell (f peer) n) →
    AreWell (of_peer o f) n
peer_well None f n h m i = absurd i
peer_well (Some peer) f n h m i = h peer m i

entry_well : (e : Entry) (n : ℕ) (past : Past) → AreWell (means e n past) n
entry_well (entries.Join role) n past m (inl e) =
    (ap (λ (y : Made). y.interface) (sym e), ap (λ (y : Made). y.label) (sym e))
entry_well (entries.Join role) n past m (inr i) = absurd i
entry_well (entries.Message q id opcode body) n past m i =
    peer_well (peer_at past q) (λ peer. of_message past n peer opcode body (object_at past peer.label id)) n
    (λ peer. message_well past n peer opcode body (object_at past peer.label id)) m i
entry_well (entries.Tokens q tokens) n past m i = absurd i
entry_well (entries.BadSize q head) n past m i = peer_well (peer_at past q) _ n (λ peer x j. absurd j) m i
entry_well (entries.End q why) n past m i = peer_well (peer_at past q) _ n (λ peer x j. absurd j) m i
entry_well (entries.Shell step) n past m i = absurd i
entry_well (entries.Took q bytes) n past m i = peer_well (peer_at past q) _ n (λ peer x j. absurd j) m i

either_in : (xs ys : List Made) (m : Made) → IsIn (xs ++ ys) m → IsIn xs m ⊎ IsIn ys m
either_in [] ys m i = inr i
either_in (x ∷ xs) ys m (inl e) = inl (inl e)
either_in (x ∷ xs) ys m (inr i) = more (either_in xs ys m i)
  where
    more : IsIn xs m ⊎ IsIn ys m → IsIn (x ∷ xs) m ⊎ IsIn ys m
    more (inl j) = inl (inr j)
    more (inr j) = inr j

-- what was made has the interface of its act, if its act makes something to which something may be told
abbrev pub MadeAs : List Act → Made → Type 0
MadeAs log m = IfSome (kind_at log m.label) (λ i. m.interface ≡ i)

pub made_as_acts : (journal : List Entry) (m : Made) → IsIn (past_of journal).made m →
    MadeAs (log_of (past_of journal)) m
made_as_acts [] m i = absurd i
made_as_acts (e ∷ older) m i =
    by (either_in (means e (length older + 1) (past_of older)).made (past_of older).made m i)
    (λ j. made_as_acts older m j)
  where
    log : List Act
    log = log_of (past_of older)

    act : Act
    act = (means e (length older + 1) (past_of older)).act

    by : IsIn (means e (length older + 1) (past_of older)).made m ⊎ IsIn (past_of older).made m →
        (IsIn (past_of older).made m → MadeAs log m) → MadeAs (log_of (past_of (e ∷ older))) m
    by (inl j) k =
        let w = entry_well e (length older + 1) (past_of older) m j in
        let same : next log ≡ m.label = ap (λ l. l + 1) (length_log older) ∙ sym w.1 in
        subst (λ (o : Option Interface). IfSome o (λ i. m.interface ≡ i))
        (sym (kind_new (act_now e older) log) ∙ ap (kind_at (act_now e older ∷ log)) same)
        (either_way (λ (a : Act). MadeWell a m) (is_live act log) act acts.Idle w.0 tt)
    by (inr j) k =
        let within = (sound older m j).within in
        let long = length_log older in
        subst (λ (o : Option Interface). IfSome o (λ i. m.interface ≡ i))
        (sym (kind_stays (act_now e older) log m.label (omega arith))) (k j)
