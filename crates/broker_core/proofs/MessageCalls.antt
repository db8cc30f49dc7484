-- The calls on its sender's table that a message comes to.
use Rattle.std.proofs.Common.{◌≡◌, ℕ, zero, suc, ◌+◌, ◌<◌, List, [], ◌∷◌, ◌++◌, length, Bool, true, false, Option, Some, None, ap, refl, sym, ◌∙◌, subst, arith, append_assoc}
use Rattle.std.specs.Prelude.{◌==◌, ◌&&◌, ◌||◌, not, if◌then◌else◌, is_some, Result, Ok, Err}
use Rattle.std.specs.Option.{option_map, option_or}
use Rattle.std.proofs.lemmas.Bool.{ne_eqb, eqb-true}
use Rattle.std.proofs.lemmas.Option.{same_Some}
use Rattle.wl_proto.specs.declared.interface.Interface.{Interface}
use Rattle.wl_proto.specs.declared.interface.Interface.TheVariants as interface
use Rattle.wl_proto.specs.declared.table.Kind.{Kind}
use Rattle.wl_proto.specs.declared.refuse.Refuse.{Refuse}
use Rattle.wl_proto.specs.Grammar.{Value, word}
use Rattle.wl_proto.specs.Reading.{all_read, by_row, values_at, request_reading}
use Rattle.wl_proto.specs.Rows.{Message, message, request_kinds}
use Rattle.im_objects.specs.Calls.{Call}
use Rattle.relay_model.specs.declared.act.Act.{Act}
use Rattle.relay_model.specs.declared.act.Act.TheVariants as acts
use Rattle.relay_model.specs.declared.fault.Fault.{Fault}
use Rattle.relay_model.specs.declared.fault.Fault.TheVariants as fault
use Rattle.relay_model.specs.declared.role.Role.{Role}
use Rattle.relay_model.specs.Objects as objects
use Rattle.relay_model.specs.Objects.{Object, PopupKind, GrabKind, is_kind, made_for, owner, object, is_peer, is_method, is_surface, has_popup}
use Rattle.relay_model.specs.Idle.{is_live, cleaned}
use Rattle.broker_model.specs.declared.journal.Entry.{Entry}
use Rattle.broker_model.specs.declared.journal.Entry.TheVariants as entries
use Rattle.broker_model.specs.Ids.{Made, Joined, Past, log_of, peer_at, object_at, made_as}
use Rattle.broker_model.specs.Requests.{Argument, argument, arguments_of, new_of, act_of}
use Rattle.broker_model.specs.Refusals.{is_interface, is_of, is_of_addressed, fault_if, argument_fault, new_fault, own_fault, request_fault, refuse_fault}
use Rattle.broker_model.specs.Resolve.{Meaning, label_of, label_at, made_new, refused_for, of_request, of_reading, of_message, of_peer, means, past_of}
use Rattle.broker_model.specs.Tables.{make_calls, drop_calls, calls_for}
use Rattle.broker_model.proofs.LivePeersJoined.{length_log}
use Rattle.broker_model.proofs.IdsAreNames.{IsFound, found}
use Rattle.broker_model.proofs.MadeObjectsStand.{display_of, sound, displayed}
use Rattle.broker_wire.specs.declared.meaning.Meaning as declared
use Rattle.broker_wire.specs.Asked.{asked}
use Rattle.broker_wire.specs.Meant.{meant}
use Rattle.broker_audience.specs.Changes.{own_calls}
use Rattle.broker_core.proofs.OwnObjectDropped.{drops_only}
use Rattle.broker_core.proofs.TableAfterAct.{drops_cleaned, IsAddressed, Comes, comes_created, comes_sync, comes_drop, comes_none}
use Rattle.broker_core.proofs.LiveObjectKinds.{fits, AreFit, fit}

-- no request of a display drops anything

display_keeps : (p x : ℕ) (role : Role) (at : ℕ → ℕ) (opcode : ℕ) (vs : List Value) (y : ℕ) →
    act_of p x role at interface.Display opcode vs ≡ acts.Drop y → ⊥
display_keeps p x role at zero vs y e = cc
display_keeps p x role at (suc zero) vs y e = cc
display_keeps p x role at (suc (suc k)) vs y e = cc

not_peer_by : (past : Past) (p id n : ℕ) (x : Made) (role : Role) (i : Interface) (opcode : ℕ) (vs : List Value)
    (y : ℕ) → IsAddressed past p id n x → x.interface ≡ i →
    act_of p x.label role (label_at past p) i opcode vs ≡ acts.Drop y → (b : Bool) → is_peer (log_of past) x.label ≡ b →
    b ≡ false
not_peer_by past p id n x role i opcode vs y a s e true q =
    let d : i ≡ interface.Display = sym s ∙ a.shown q in
    absurd (display_keeps p x.label role (label_at past p) opcode vs y
    (ap (λ (j : Interface). act_of p x.label role (label_at past p) j opcode vs) (sym d) ∙ e))
not_peer_by past p id n x role i opcode vs y a s e false q = refl

not_peer : (past : Past) (p id n : ℕ) (x : Made) (role : Role) (i : Interface) (opcode : ℕ) (vs : List Value) (y : ℕ) →
    IsAddressed past p id n x → x.interface ≡ i →
    act_of p x.label role (label_at past p) i opcode vs ≡ acts.Drop y → is_peer (log_of past) x.label ≡ false
not_peer past p id n x role i opcode vs y a s e =
    not_peer_by past p id n x role i opcode vs y a s e (is_peer (log_of past) x.label) refl

-- what a request that isn't refused has

or_none : {A : Type 0} (a b : Option A) → option_or a b ≡ None → (a ≡ None) × (b ≡ None)
or_none None b h = (refl, h)
or_none (Some x) b h = cc

none_if : (b : Bool) (f : Fault) → fault_if b f ≡ None → b ≡ false
none_if true f h = cc
none_if false f h = refl

own_none : (past : Past) (p x : ℕ) (role : Role) (at : ℕ → ℕ) (m : Message) → request_fault past p x role at m ≡ None →
    own_fault past x role at m.interface m.opcode m.values ≡ None
own_none past p x role at m h =
    (or_none (new_fault past p (new_of m.interface m.opcode m.values)) _
    (or_none (argument_fault past p (arguments_of m.interface m.opcode m.values)) _ h).1).1

argument_none : (past : Past) (p x : ℕ) (role : Role) (at : ℕ → ℕ) (m : Message) →
    request_fault past p x role at m ≡ None →
    argument_fault past p (arguments_of m.interface m.opcode m.values) ≡ None
argument_none past p x role at m h =
    (or_none (argument_fault past p (arguments_of m.interface m.opcode m.values)) _ h).0

-- a popup's surface is one, and has no popup

surface_name : (i : Interface) → is_interface i interface.Surface ≡ true → i ≡ interface.Surface
surface_name interface.Surface h = refl
surface_name _ h = cc

surface_of : (past : Past) (p id : ℕ) (o : Option Made) → AreFit (log_of past) past.made → object_at past p id ≡ o →
    is_of interface.Surface o ≡ true →
    is_surface (log_of past) (label_of o) ≡ true
surface_of past p id None a e h = cc
surface_of past p id (Some m) a e h =
    let f : IsFound (log_of past) past.made p id m = found (log_of past) past.made p id m e in
    let s : m.interface ≡ interface.Surface = surface_name m.interface h in
    subst (λ (i : Interface). is_kind (fits i) (object (log_of past) m.label) ≡ true) s (a m f.among f.lives)

not_wrong : (b : Bool) → (not b || false) ≡ false → b ≡ true
not_wrong true h = refl
not_wrong false h = cc

all_live : (a b c : Bool) → a ≡ true → b ≡ true → c ≡ false → (a && (b && not c)) ≡ true
all_live a b c q r s = rw (q, r, s) refl

method_is : (past : Past) (p id n : ℕ) (x : Made) → IsAddressed past p id n x → x.interface ≡ interface.InputMethod →
    is_method (log_of past) x.label ≡ true
method_is past p id n x a s =
    subst (λ (i : Interface). is_kind (fits i) (object (log_of past) x.label) ≡ true) s
    (a.fit x a.named.among a.named.lives)

-- what a live method makes has a peer
owned_there : (kind : objects.Kind) (o : Option Object) → is_some o ≡ true → is_some (made_for kind (owner o)) ≡ true
owned_there kind None l = cc
owned_there kind (Some o) l = refl

new_popup : (past : Past) (p id n : ℕ) (x : Made) (role : Role) (vs : List Value) (new : Argument) →
    IsAddressed past p id n x → x.interface ≡ interface.InputMethod →
    request_fault past p x.label role (label_at past p) (message interface.InputMethod 4 vs) ≡ None →
    new_of interface.InputMethod 4 vs ≡ Some new →
    Comes past p id n (act_of p x.label role (label_at past p) interface.InputMethod 4 vs) (Some new)
new_popup past p id n x role (word made ∷ word surface ∷ []) new a s f e =
    let log = log_of past in
    let m : Message = message interface.InputMethod 4 (word made ∷ word surface ∷ []) in
    let wrong : is_of interface.Surface (object_at past p surface) ≡ true =
    not_wrong _ (none_if _ _ (argument_none past p x.label role (label_at past p) m f)) in
    let free : has_popup log (label_at past p surface) ≡ false =
    none_if _ _ (own_none past p x.label role (label_at past p) m f) in
    comes_created past p id n (acts.Popup x.label (label_at past p surface)) (Some new) a.next refl
    (all_live (is_method log x.label) (is_surface log (label_at past p surface))
    (has_popup log (label_at past p surface)) (method_is past p id n x a s)
    (surface_of past p surface (object_at past p surface) a.fit refl wrong) free)
    (owned_there (PopupKind x.label (label_at past p surface)) (object log x.label) a.named.lives)
new_popup past p id n x role vs new a s f e = cc

no_new : (opcode : ℕ) (vs : List Value) → (opcode == 4) ≡ false → (opcode == 5) ≡ false →
    new_of interface.InputMethod opcode vs ≡ None
no_new opcode (word made ∷ word surface ∷ []) a b = rw a refl
no_new opcode (word made ∷ []) a b = rw b refl
no_new opcode _ a b = refl

new_method : (past : Past) (p id n : ℕ) (x : Made) (role : Role) (opcode : ℕ) (vs : List Value) (new : Argument) →
    IsAddressed past p id n x →
    x.interface ≡ interface.InputMethod →
    request_fault past p x.label role (label_at past p) (message interface.InputMethod opcode vs) ≡ None →
    new_of interface.InputMethod opcode vs ≡ Some new → (b c : Bool) → (opcode == 4) ≡ b → (opcode == 5) ≡ c →
    Comes past p id n (act_of p x.label role (label_at past p) interface.InputMethod opcode vs) (Some new)
new_method past p id n x role opcode vs new a s f e true c q r =
    let d : opcode ≡ 4 = eqb-true opcode 4 q in
    subst (λ (k : ℕ). Comes past p id n (act_of p x.label role (label_at past p) interface.InputMethod k vs) (Some new))
    (sym d)
    (new_popup past p id n x role vs new a s
    (subst (λ (k : ℕ). request_fault past p x.label role (label_at past p) (message interface.InputMethod k vs) ≡ None)
    d f)
    (subst (λ (k : ℕ). new_of interface.InputMethod k vs ≡ Some new) d e))
new_method past p id n x role opcode vs new a s f e false true q r =
    let d : opcode ≡ 5 = eqb-true opcode 5 r in
    subst (λ (k : ℕ). Comes past p id n (act_of p x.label role (label_at past p) interface.InputMethod k vs) (Some new))
    (sym d)
    (comes_created past p id n (acts.Grab x.label) (Some new) a.next refl (method_is past p id n x a s)
    (owned_there (GrabKind x.label) (object (log_of past) x.label) a.named.lives))
new_method past p id n x role opcode vs new a s f e false false q r = let none = no_new opcode vs q r in cc

new_bound : (past : Past) (p id n : ℕ) (x : Made) (new : Argument) (b : Bool) → IsAddressed past p id n x →
    Comes past p id n (if b then acts.Seat p else acts.Thing p) (Some new)
new_bound past p id n x new true a = comes_created past p id n (acts.Seat p) (Some new) a.next refl a.peer refl
new_bound past p id n x new false a = comes_created past p id n (acts.Thing p) (Some new) a.next refl a.peer refl

-- no other opcode has a row

some_none : {A : Type 0} {x : A} → Some x ≡ None → ⊥
some_none e = cc

other : (n k : ℕ) → n < k → (n == k) ≡ false
other n k l = ne_eqb n k (λ d. omega arith)

no_display : (opcode : ℕ) → 1 < opcode → request_kinds interface.Display opcode ≡ None
no_display opcode l = rw (other 0 opcode (omega arith), other 1 opcode l) refl

no_registry : (opcode : ℕ) → 0 < opcode → request_kinds interface.Registry opcode ≡ None
no_registry opcode l = rw (other 0 opcode l) refl

no_compositor : (opcode : ℕ) → 0 < opcode → request_kinds interface.Compositor opcode ≡ None
no_compositor opcode l = rw (other 0 opcode l) refl

no_fields : (opcode : ℕ) → 1 < opcode → request_kinds interface.TextInputManager opcode ≡ None
no_fields opcode l = rw (other 0 opcode (omega arith), other 1 opcode l) refl

no_methods : (opcode : ℕ) → 1 < opcode → request_kinds interface.InputMethodManager opcode ≡ None
no_methods opcode l = rw (other 0 opcode (omega arith), other 1 opcode l) refl

no_boards : (opcode : ℕ) → 0 < opcode → request_kinds interface.VirtualKeyboardManager opcode ≡ None
no_boards opcode l = rw (other 0 opcode l) refl

-- where something is new
comes_new : (past : Past) (p id n : ℕ) (x : Made) (role : Role) (i : Interface) (opcode : ℕ) (vs : List Value)
    (new : Argument) (kinds : List Kind) →
    IsAddressed past p id n x → x.interface ≡ i → request_kinds i opcode ≡ Some kinds →
    request_fault past p x.label role (label_at past p) (message i opcode vs) ≡ None →
    new_of i opcode vs ≡ Some new → Comes past p id n (act_of p x.label role (label_at past p) i opcode vs) (Some new)
comes_new past p id n x role interface.Display zero vs new kinds a s r f e = comes_sync past p id n p (Some new) a.next
comes_new past p id n x role interface.Display (suc zero) vs new kinds a s r f e =
    comes_created past p id n (acts.Registry p role) (Some new) a.next refl a.peer refl
comes_new past p id n x role interface.Display (suc (suc k)) vs new kinds a s r f e =
    absurd (some_none (sym r ∙ no_display (suc (suc k)) (omega arith)))
comes_new past p id n x role interface.Registry zero (word name ∷ vs) new kinds a s r f e =
    new_bound past p id n x new (name == 2) a
comes_new past p id n x role interface.Registry (suc k) vs new kinds a s r f e =
    absurd (some_none (sym r ∙ no_registry (suc k) (omega arith)))
comes_new past p id n x role interface.Compositor zero vs new kinds a s r f e =
    comes_created past p id n (acts.Surface p) (Some new) a.next refl a.peer refl
comes_new past p id n x role interface.Compositor (suc k) vs new kinds a s r f e =
    absurd (some_none (sym r ∙ no_compositor (suc k) (omega arith)))
comes_new past p id n x role interface.Seat opcode vs new kinds a s r f e =
    absurd (some_none (own_none past p x.label role (label_at past p) (message interface.Seat opcode vs) f))
comes_new past p id n x role interface.TextInputManager zero vs new kinds a s r f e =
    comes_drop past p id n x x.label (Some new) a
    (not_peer past p id n x role interface.TextInputManager zero vs x.label a s refl) refl
comes_new past p id n x role interface.TextInputManager (suc zero) vs new kinds a s r f e =
    comes_created past p id n (acts.Field p) (Some new) a.next refl a.peer refl
comes_new past p id n x role interface.TextInputManager (suc (suc k)) vs new kinds a s r f e =
    absurd (some_none (sym r ∙ no_fields (suc (suc k)) (omega arith)))
comes_new past p id n x role interface.InputMethodManager zero vs new kinds a s r f e =
    comes_created past p id n (acts.Method p) (Some new) a.next refl a.peer refl
comes_new past p id n x role interface.InputMethodManager (suc zero) vs new kinds a s r f e =
    comes_drop past p id n x x.label (Some new) a
    (not_peer past p id n x role interface.InputMethodManager (suc zero) vs x.label a s refl) refl
comes_new past p id n x role interface.InputMethodManager (suc (suc k)) vs new kinds a s r f e =
    absurd (some_none (sym r ∙ no_methods (suc (suc k)) (omega arith)))
comes_new past p id n x role interface.VirtualKeyboardManager zero vs new kinds a s r f e =
    comes_created past p id n (acts.VBoard p) (Some new) a.next refl a.peer refl
comes_new past p id n x role interface.VirtualKeyboardManager (suc k) vs new kinds a s r f e =
    absurd (some_none (sym r ∙ no_boards (suc k) (omega arith)))
comes_new past p id n x role interface.InputMethod opcode vs new kinds a s r f e =
    new_method past p id n x role opcode vs new a s f e (opcode == 4) (opcode == 5) refl refl
comes_new past p id n x role i opcode vs new kinds a s r f e = absurd (some_none (sym e))

-- a request that isn't refused, by what is new
comes_by : (past : Past) (p id n : ℕ) (x : Made) (role : Role) (i : Interface) (opcode : ℕ) (vs : List Value)
    (o : Option Argument) (kinds : List Kind) →
    IsAddressed past p id n x → x.interface ≡ i → request_kinds i opcode ≡ Some kinds →
    request_fault past p x.label role (label_at past p) (message i opcode vs) ≡ None →
    new_of i opcode vs ≡ o → Comes past p id n (act_of p x.label role (label_at past p) i opcode vs) o
comes_by past p id n x role i opcode vs None kinds a s r f e =
    comes_none past p id n x (act_of p x.label role (label_at past p) i opcode vs) a
    (drops_only p x.label role (label_at past p) i opcode vs)
    (λ y d. not_peer past p id n x role i opcode vs y a s d)
comes_by past p id n x role i opcode vs (Some new) kinds a s r f e =
    comes_new past p id n x role i opcode vs new kinds a s r f e

-- what was read is of the object's interface, and has a row

record IsRow (i : Interface) (m : Message) : Type 0 where
  interface-is : m.interface ≡ i
  kinds : List Kind
  row : request_kinds m.interface m.opcode ≡ Some kinds

row_values : (i : Interface) (n : ℕ) (kinds : List Kind) (vs : Option (List Value)) (m : Message) →
    request_kinds i n ≡ Some kinds → all_read i n vs ≡ Ok m → IsRow i m
row_values i n kinds None m q e = cc
row_values i n kinds (Some vs) m q e =
    let d : message i n vs ≡ m = cc in
    subst (λ (u : Message). IsRow i u) d (record { interface-is = refl; kinds = kinds; row = q })

row_kinds : (tokens : List ℕ) (i : Interface) (n : ℕ) (body : List ℕ) (o : Option (List Kind)) (m : Message) →
    request_kinds i n ≡ o → by_row i n tokens body o ≡ Ok m → IsRow i m
row_kinds tokens i n body None m q e = cc
row_kinds tokens i n body (Some kinds) m q e = row_values i n kinds (values_at tokens kinds body) m q e

row_of : (tokens : List ℕ) (i : Interface) (n : ℕ) (body : List ℕ) (m : Message) →
    request_reading i n tokens body ≡ Ok m → IsRow i m
unfolding request_reading
row_of tokens i n body m e = row_kinds tokens i n body (request_kinds i n) m refl e

-- all that a meaning can be as an act and what is new

abbrev IsOwn : Past → (p id n : ℕ) → Meaning → Type 0
IsOwn past p id n m =
    (act : Act) (new : Option Argument) → record { act = act; made = made_new p n new } ≡ m → Comes past p id n act new

-- what is made of what is new
abbrev one_new : (p n : ℕ) → Argument → Made
one_new p n new = record { peer = p; id = new.id; label = n; interface = new.interface }

made_same : (p n : ℕ) (a b : Option Argument) → made_new p n a ≡ made_new p n b → a ≡ b
made_same p n None None e = refl
made_same p n None (Some b) e = cc
made_same p n (Some a) None e = cc
made_same p n (Some a) (Some b) e =
    let d : one_new p n a ≡ one_new p n b = cc in
    ap (λ (m : Made). Some (argument m.interface m.id)) d

own_by : (past : Past) (p id n : ℕ) (act : Act) (new : Option Argument) → Comes past p id n act new →
    IsOwn past p id n (record { act = act; made = made_new p n new })
own_by past p id n act new c other o e =
    let same : other ≡ act = ap (λ (m : Meaning). m.act) e in
    let new-is : o ≡ new = made_same p n o new (ap (λ (m : Meaning). m.made) e) in
    subst (λ (u : Act). Comes past p id n u o) (sym same)
    (subst (λ (u : Option Argument). Comes past p id n act u) (sym new-is) c)

own_refused : (past : Past) (p id n y : ℕ) (f : Fault) → IsOwn past p id n (refused_for p y f)
own_refused past p id n y f =
    let act : Act = acts.Bad p f (if is_of_addressed f then y else p) in
    own_by past p id n act None (drops_cleaned (is_live act (log_of past)) past.made p act refl)

own_request : (past : Past) (n id : ℕ) (peer : Joined) (x : Made) (m : Message) (o : Option Fault) →
    IsAddressed past peer.label id n x → IsRow x.interface m →
    request_fault past peer.label x.label peer.role (label_at past peer.label) m ≡ o →
    IsOwn past peer.label id n (of_request past n peer x.label m o)
own_request past n id peer x m (Some f) a r e = own_refused past peer.label id n x.label f
own_request past n id peer x m None a r e =
    own_by past peer.label id n _ (new_of m.interface m.opcode m.values)
    (comes_by past peer.label id n x peer.role m.interface m.opcode m.values
    (new_of m.interface m.opcode m.values) r.kinds a (sym r.interface-is) r.row e refl)

own_reading : (past : Past) (n id : ℕ) (peer : Joined) (x : Made) (r : Result Message Refuse) →
    IsAddressed past peer.label id n x →
    ((m : Message) → r ≡ Ok m → IsRow x.interface m) → IsOwn past peer.label id n (of_reading past n peer x.label r)
own_reading past n id peer x (Err r) a h = own_refused past peer.label id n x.label (refuse_fault r)
own_reading past n id peer x (Ok m) a h =
    own_request past n id peer x m (request_fault past peer.label x.label peer.role (label_at past peer.label) m) a
    (h m refl) refl

own_message : (past : Past) (n id : ℕ) (peer : Joined) (opcode : ℕ) (body : List ℕ) (o : Option Made) →
    ((x : Made) → o ≡ Some x → IsAddressed past peer.label id n x) →
    IsOwn past peer.label id n (of_message past n peer opcode body o)
own_message past n id peer opcode body None h = own_refused past peer.label id n peer.label fault.Object
own_message past n id peer opcode body (Some x) h =
    own_reading past n id peer x (request_reading x.interface opcode (past.waiting peer.label) body) (h x refl)
    (λ m e. row_of (past.waiting peer.label) x.interface opcode body m e)

-- what an id of a live peer names

shown_display : (older : List Entry) (x : Made) → made_as (past_of older).made x.label ≡ Some x →
    is_peer (log_of (past_of older)) x.label ≡ true →
    x.interface ≡ interface.Display
shown_display older x k l =
    let i = displayed older x.label l in
    let d : x ≡ display_of x.label =
    same_Some x (display_of x.label) (sym k ∙ (sound older (display_of x.label) i).known) in
    ap (λ (u : Made). u.interface) d

addressed : (older : List Entry) (p id : ℕ) (x : Made) → is_peer (log_of (past_of older)) p ≡ true →
    object_at (past_of older) p id ≡ Some x →
    IsAddressed (past_of older) p id (length older + 1) x
addressed older p id x l e =
    let f : IsFound (log_of (past_of older)) (past_of older).made p id x =
    found (log_of (past_of older)) (past_of older).made p id x e in
    let k : made_as (past_of older).made x.label ≡ Some x = (sound older x f.among).known in
    record {
      next = ap (λ (n : ℕ). n + 1) (length_log older);
      peer = l;
      named = f;
      known = k;
      shown = shown_display older x k;
      fit = fit older;
    }

-- all of a meaning's calls before those of a journal
abbrev with_calls : Past → (p : ℕ) → List Call → Meaning → List Call
with_calls past p calls m =
    make_calls (cleaned m.act (log_of past) ∷ log_of past) p m.made
    ++ (drop_calls past.made p (cleaned m.act (log_of past)) ++ calls)

-- a message adds to the calls of the peer that sent it what it comes to
pub calls_own : (q id opcode : ℕ) (body : List ℕ) (older : List Entry) (peer : Joined) (meaning : declared.Meaning) →
    peer_at (past_of older) q ≡ Some peer →
    is_peer (log_of (past_of older)) peer.label ≡ true →
    meant peer.label (length older + 1) meaning
    ≡ means (entries.Message q id opcode body) (length older + 1) (past_of older) →
    calls_for (entries.Message q id opcode body ∷ older) peer.label
    ≡ own_calls id (length older + 1) meaning.act (option_map asked meaning.made) ++ calls_for older peer.label
calls_own q id opcode body older peer meaning e l s =
    let past : Past = past_of older in
    let n : ℕ = length older + 1 in
    let is : means (entries.Message q id opcode body) n past
    ≡ of_message past n peer opcode body (object_at past peer.label id) =
    ap (λ (o : Option Joined). of_peer o (λ (u : Joined). of_message past n u opcode body (object_at past u.label id)))
    e in
    let own : Comes past peer.label id n meaning.act (option_map asked meaning.made) =
    own_message past n id peer opcode body (object_at past peer.label id)
    (λ x h. addressed older peer.label id x l h) meaning.act (option_map asked meaning.made)
    (s ∙ is) in
    ap (with_calls past peer.label (calls_for older peer.label)) (sym s)
    ∙ sym (append_assoc _ _ (calls_for older peer.label))
    ∙ ap (λ cs. cs ++ calls_for older peer.label) own
