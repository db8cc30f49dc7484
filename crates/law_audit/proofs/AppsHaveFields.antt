-- An application has no objects but those of applications.
use Rattle.std.proofs.Common.{◌≡◌, ℕ, zero, suc, ◌+◌, ◌≤◌, Bool, true, false, not, List, [], ◌∷◌, ◌++◌, length, Option, Some, None, Result, Ok, Err, refl, sym, ap, subst, ◌∙◌, arith, inl, inr, ◌⊎◌}
use Rattle.std.specs.Prelude.{◌==◌, ◌&&◌, if◌then◌else◌}
use Rattle.std.specs.List.{slice_get}
use Rattle.std.specs.Option.{option_or}
use Rattle.std.proofs.lemmas.Bool.{ne_eqb}
use Rattle.std.proofs.lemmas.Option.{same_Some}
use Rattle.wl_proto.specs.declared.interface.Interface.{Interface}
use Rattle.wl_proto.specs.declared.interface.Interface.TheVariants as interface
use Rattle.wl_proto.specs.declared.refuse.Refuse.{Refuse}
use Rattle.wl_proto.specs.Grammar.{Value, word, text}
use Rattle.wl_proto.specs.Reading.{values_at, all_read, by_row, request_reading}
use Rattle.wl_proto.specs.Rows.{Message, message, request_kinds}
use Rattle.wl_proto.specs.declared.table.Kind.{Kind}
use Rattle.relay_model.specs.declared.fault.Fault.{Fault}
use Rattle.relay_model.specs.declared.role.Role.{Role}
use Rattle.relay_model.specs.declared.role.Role.TheVariants as roles
use Rattle.broker_model.specs.declared.journal.Entry.{Entry}
use Rattle.broker_model.specs.declared.journal.Entry.TheVariants as entries
use Rattle.broker_model.specs.Ids.{Made, Joined, Past, log_of, peer_in, peer_at, object_at}
use Rattle.broker_model.specs.Requests.{Argument, argument, global_at, new_of}
use Rattle.broker_model.specs.Refusals.{fault_if, is_offered, own_fault, request_fault}
use Rattle.broker_model.specs.Resolve.{Meaning, label_at, made_new, of_request, of_reading, of_message, of_peer, means, with_joined, past_of}
use Rattle.broker_model.proofs.IdsAreNames.{IsIn, found}
use Rattle.broker_model.proofs.MadeObjectsStand.{sound}
use Rattle.law_audit.specs.AppObjects.{IsAppKind}

-- ---- each label is that of one peer

-- it is one of these
abbrev pub HasJoined : List Joined → Joined → Type 0
HasJoined [] j = ⊥
HasJoined (x ∷ xs) j = (x ≡ j) ⊎ HasJoined xs j

has_got : (xs : List Joined) (k : ℕ) (j : Joined) → slice_get xs k ≡ Some j → HasJoined xs j
has_got [] k j e = cc
has_got (x ∷ xs) zero j e = inl (same_Some x j e)
has_got (x ∷ xs) (suc k) j e = inr (has_got xs k j e)

pub has_peer : (xs : List Joined) (q : ℕ) (j : Joined) → peer_in xs q ≡ Some j → HasJoined xs j
has_peer xs zero j e = cc
has_peer xs (suc q) j e = has_got xs q j e

has_split : (xs : List Joined) (y j : Joined) → HasJoined (xs ++ y ∷ []) j → HasJoined xs j ⊎ (y ≡ j)
has_split [] y j (inl e) = inr e
has_split [] y j (inr e) = absurd e
has_split (x ∷ xs) y j (inl e) = inl (inl e)
has_split (x ∷ xs) y j (inr h) =
    elim (has_split xs y j h) [
      | inl k ↦ inl (inr k)
      | inr e ↦ inr e
    ]

-- who is there after an entry was there before, or is who joins with it
record IsNew (e : Entry) (n : ℕ) (j : Joined) : Type 0 where
  role : Role
  entry : e ≡ entries.Join role
  label : j.label ≡ n

old_or_new : (e : Entry) (n : ℕ) (joined : List Joined) (j : Joined) → HasJoined (with_joined e n joined) j →
    HasJoined joined j ⊎ IsNew e n j
old_or_new (entries.Join role) n joined j h =
    elim (has_split joined (record { label = n; role = role }) j h) [
      | inl k ↦ inl k
      | inr s ↦ inr (record { role = role; entry = refl; label = ap (λ (u : Joined). u.label) (sym s) })
    ]
old_or_new (entries.Message q id opcode body) n joined j h = inl h
old_or_new (entries.Tokens q tokens) n joined j h = inl h
old_or_new (entries.BadSize q head) n joined j h = inl h
old_or_new (entries.End q cause) n joined j h = inl h
old_or_new (entries.Shell step) n joined j h = inl h
old_or_new (entries.Took q bytes) n joined j h = inl h

label_within : (journal : List Entry) (j : Joined) → HasJoined (past_of journal).joined j → j.label ≤ length journal
label_within [] j h = absurd h
label_within (e ∷ older) j h =
    by (old_or_new e (length older + 1) (past_of older).joined j h) (λ k. label_within older j k)
  where
    by : HasJoined (past_of older).joined j ⊎ IsNew e (length older + 1) j →
        (HasJoined (past_of older).joined j → j.label ≤ length older) → j.label ≤ suc (length older)
    by (inl k) f = (let w = f k in omega (arith, w))
    by (inr s) f = (let l = s.label in omega (arith, l))

-- those with one label have one role
role_once : (journal : List Entry) (i j : Joined) → HasJoined (past_of journal).joined i →
    HasJoined (past_of journal).joined j → i.label ≡ j.label → i.role ≡ j.role
role_once [] i j h k s = absurd h
role_once (entries.Join role ∷ older) i j h k s =
    by (has_split (past_of older).joined new i h) (has_split (past_of older).joined new j k)
    (λ a b. role_once older i j a b s)
  where
    new : Joined
    new = record { label = length older + 1; role = role }

    by : HasJoined (past_of older).joined i ⊎ (new ≡ i) → HasJoined (past_of older).joined j ⊎ (new ≡ j) →
        (HasJoined (past_of older).joined i → HasJoined (past_of older).joined j → i.role ≡ j.role) →
        i.role ≡ j.role
    by (inl a) (inl b) f = f a b
    by (inl a) (inr b) f =
        (let w = label_within older i a in
        let l : length older + 1 ≡ j.label = ap (λ (u : Joined). u.label) b in
        absurd (omega (arith, w, l, s)))
    by (inr a) (inl b) f =
        (let w = label_within older j b in
        let l : length older + 1 ≡ i.label = ap (λ (u : Joined). u.label) a in
        absurd (omega (arith, w, l, s)))
    by (inr a) (inr b) f = ap (λ (u : Joined). u.role) (sym a ∙ b)
role_once (entries.Message q id opcode body ∷ older) i j h k s = role_once older i j h k s
role_once (entries.Tokens q tokens ∷ older) i j h k s = role_once older i j h k s
role_once (entries.BadSize q head ∷ older) i j h k s = role_once older i j h k s
role_once (entries.End q cause ∷ older) i j h k s = role_once older i j h k s
role_once (entries.Shell step ∷ older) i j h k s = role_once older i j h k s
role_once (entries.Took q bytes ∷ older) i j h k s = role_once older i j h k s

-- ---- what a request of an application makes

named_kind : (i : Interface) (id : ℕ) (new : Argument) → Some (argument i id) ≡ Some new → IsAppKind i →
    IsAppKind new.interface
named_kind i id new e h =
    subst (λ (x : Argument). IsAppKind x.interface) (same_Some (argument i id) new e) h

-- what is offered to an application is a global of applications
offered_kind : (name : ℕ) (t : List ℕ) → is_offered roles.App name t ≡ true → IsAppKind (global_at name)
offered_kind zero t e = cc
offered_kind (suc zero) t e = tt
offered_kind (suc (suc zero)) t e = tt
offered_kind (suc (suc (suc zero))) t e = tt
offered_kind (suc (suc (suc (suc n)))) t e =
    let name : ℕ = suc (suc (suc (suc n))) in
    let one = ne_eqb 1 name (λ d. omega (arith, d)) in
    let two = ne_eqb 2 name (λ d. omega (arith, d)) in
    let three = ne_eqb 3 name (λ d. omega (arith, d)) in
    let no : false ≡ true = rw (one, two, three) at e in
    absurd (cc no)

or_none : {A : Type 0} (a b : Option A) → option_or a b ≡ None → (a ≡ None) × (b ≡ None)
or_none None b e = (refl, e)
or_none (Some x) b e = cc

not_faulty : (b : Bool) (f : Fault) → fault_if (not b) f ≡ None → b ≡ true
not_faulty true f e = refl
not_faulty false f e = cc

first_true : (a b : Bool) → (a && b) ≡ true → a ≡ true
first_true true b e = refl
first_true false b e = cc

chosen_kind : (b : Bool) (i j : Interface) (id : ℕ) (new : Argument) →
    Some (argument (if b then i else j) id) ≡ Some new → IsAppKind i → IsAppKind j → IsAppKind new.interface
chosen_kind true i j id new e h k = named_kind i id new e h
chosen_kind false i j id new e h k = named_kind j id new e k

new_kind : (past : Past) (x : ℕ) (at : ℕ → ℕ) (i : Interface) (opcode : ℕ) (vs : List Value) (new : Argument) →
    IsAppKind i → own_fault past x roles.App at i opcode vs ≡ None → new_of i opcode vs ≡ Some new →
    IsAppKind new.interface
new_kind past x at interface.Display opcode (word id ∷ []) new k f e =
    chosen_kind (opcode == 0) interface.Callback interface.Registry id new e tt tt
new_kind past x at interface.Registry opcode (word name ∷ text t ∷ word version ∷ word id ∷ []) new k f e =
    named_kind (global_at name) id new e
    (offered_kind name t (first_true (is_offered roles.App name t) (version == 1) (not_faulty _ _ f)))
new_kind past x at interface.Compositor opcode (word id ∷ []) new k f e = named_kind interface.Surface id new e tt
new_kind past x at interface.Seat opcode (word id ∷ []) new k f e = named_kind interface.Seat id new e tt
new_kind past x at interface.TextInputManager opcode (word id ∷ word seat ∷ []) new k f e =
    named_kind interface.TextInput id new e tt
new_kind past x at interface.InputMethodManager opcode vs new k f e = absurd k
new_kind past x at interface.InputMethod opcode vs new k f e = absurd k
new_kind past x at interface.VirtualKeyboardManager opcode vs new k f e = absurd k
new_kind past x at _ opcode vs new k f e = cc

-- ---- what an entry makes

-- it is one of the peer, and of an application's kind
abbrev IsKind : (p : ℕ) → Made → Type 0
IsKind p m = m.peer ≡ p → IsAppKind m.interface

made_kind : (p l n : ℕ) (o : Option Argument) (m : Made) →
    ((new : Argument) → o ≡ Some new → IsAppKind new.interface) → IsIn (made_new l n o) m → IsAppKind m.interface
made_kind p l n None m h i = absurd i
made_kind p l n (Some new) m h (inl e) = subst (λ (y : Made). IsAppKind y.interface) e (h new refl)
made_kind p l n (Some new) m h (inr i) = absurd i

read_interface : (i : Interface) (n : ℕ) (o : Option (List Value)) (m : Message) → all_read i n o ≡ Ok m →
    m.interface ≡ i
read_interface i n None m e = cc
read_interface i n (Some vs) m e = (let d : message i n vs ≡ m = cc in ap (λ (y : Message). y.interface) (sym d))

row_interface : (tokens : List ℕ) (i : Interface) (n : ℕ) (body : List ℕ) (o : Option (List Kind)) (m : Message) →
    by_row i n tokens body o ≡ Ok m → m.interface ≡ i
row_interface tokens i n body None m e = cc
row_interface tokens i n body (Some kinds) m e = read_interface i n (values_at tokens kinds body) m e

reading_interface : (tokens : List ℕ) (i : Interface) (n : ℕ) (body : List ℕ) (m : Message) →
    request_reading i n tokens body ≡ Ok m → m.interface ≡ i
unfolding request_reading
reading_interface tokens i n body m e = row_interface tokens i n body (request_kinds i n) m e

request_kind : (past : Past) (n : ℕ) (peer : Joined) (x : ℕ) (r : Message) (o : Option Fault) (m : Made) →
    peer.role ≡ roles.App → IsAppKind r.interface →
    request_fault past peer.label x peer.role (label_at past peer.label) r ≡ o →
    IsIn (of_request past n peer x r o).made m → IsAppKind m.interface
request_kind past n peer x r (Some f) m app k e i = absurd i
request_kind past n peer x r None m app k e i =
    made_kind 0 peer.label n (new_of r.interface r.opcode r.values) m
    (λ new s. new_kind past x (label_at past peer.label) r.interface r.opcode r.values new k
    (subst (λ (role : Role). own_fault past x role (label_at past peer.label) r.interface r.opcode r.values ≡ None) app
    (or_none _ _ (or_none _ _ e).1).1) s) i

reading_kind : (past : Past) (n : ℕ) (peer : Joined) (x : Made) (opcode : ℕ) (body : List ℕ)
    (o : Result Message Refuse) (m : Made) → peer.role ≡ roles.App → IsAppKind x.interface →
    request_reading x.interface opcode (past.waiting peer.label) body ≡ o →
    IsIn (of_reading past n peer x.label o).made m → IsAppKind m.interface
reading_kind past n peer x opcode body (Err f) m app k e i = absurd i
reading_kind past n peer x opcode body (Ok r) m app k e i =
    let same : r.interface ≡ x.interface = reading_interface (past.waiting peer.label) x.interface opcode body r e in
    request_kind past n peer x.label r (request_fault past peer.label x.label peer.role (label_at past peer.label) r) m
    app (subst IsAppKind (sym same) k) refl i

message_kind : (past : Past) (n : ℕ) (peer : Joined) (opcode : ℕ) (body : List ℕ) (o : Option Made) (m : Made) →
    peer.role ≡ roles.App → ((x : Made) → o ≡ Some x → IsAppKind x.interface) →
    IsIn (of_message past n peer opcode body o).made m → IsAppKind m.interface
message_kind past n peer opcode body None m app k i = absurd i
message_kind past n peer opcode body (Some x) m app k i =
    reading_kind past n peer x opcode body (request_reading x.interface opcode (past.waiting peer.label) body) m app
    (k x refl) refl i

-- what a message makes is of its peer
new_peer : (past : Past) (n : ℕ) (peer : Joined) (opcode : ℕ) (body : List ℕ) (o : Option Made) (m : Made) →
    IsIn (of_message past n peer opcode body o).made m → m.peer ≡ peer.label
new_peer past n peer opcode body None m i = absurd i
new_peer past n peer opcode body (Some x) m i =
    read (request_reading x.interface opcode (past.waiting peer.label) body) i
  where
    new : (o : Option Argument) → IsIn (made_new peer.label n o) m → m.peer ≡ peer.label
    new None j = absurd j
    new (Some a) (inl e) = ap (λ (y : Made). y.peer) (sym e)
    new (Some a) (inr j) = absurd j

    asked : (r : Message) (o : Option Fault) → IsIn (of_request past n peer x.label r o).made m → m.peer ≡ peer.label
    asked r (Some f) j = absurd j
    asked r None j = new (new_of r.interface r.opcode r.values) j

    read : (o : Result Message Refuse) → IsIn (of_reading past n peer x.label o).made m → m.peer ≡ peer.label
    read (Err f) j = absurd j
    read (Ok r) j = asked r (request_fault past peer.label x.label peer.role (label_at past peer.label) r) j

-- ---- what was made

-- so is each object of an application with this label
abbrev AreKinds : List Entry → ℕ → Type 0
AreKinds journal p = (m : Made) → IsIn (past_of journal).made m → m.peer ≡ p → IsAppKind m.interface

of_peer_kind : (past : Past) (o : Option Joined) (f : Joined → Meaning) (m : Made) →
    ((peer : Joined) → o ≡ Some peer → IsIn (f peer).made m → IsAppKind m.interface) → IsIn (of_peer o f).made m →
    IsAppKind m.interface
of_peer_kind past None f m h i = absurd i
of_peer_kind past (Some peer) f m h i = h peer refl i

no_more : (o : Option Joined) (f : Joined → Meaning) (m : Made) → ((peer : Joined) → (f peer).made ≡ []) →
    IsIn (of_peer o f).made m → ⊥
no_more None f m h i = i
no_more (Some peer) f m h i = subst (λ (xs : List Made). IsIn xs m) (h peer) i

is_either : (xs ys : List Made) (m : Made) → IsIn (xs ++ ys) m → IsIn xs m ⊎ IsIn ys m
is_either [] ys m i = inr i
is_either (x ∷ xs) ys m (inl e) = inl (inl e)
is_either (x ∷ xs) ys m (inr i) =
    elim (is_either xs ys m i) [
      | inl k ↦ inl (inr k)
      | inr k ↦ inr k
    ]

new_kinds : (e : Entry) (older : List Entry) (j : Joined) (m : Made) → HasJoined (past_of older).joined j →
    j.role ≡ roles.App → AreKinds older j.label → IsIn (means e (length older + 1) (past_of older)).made m →
    m.peer ≡ j.label → IsAppKind m.interface
new_kinds (entries.Join role) older j m h app k (inl e) own =
    subst (λ (y : Made). IsAppKind y.interface) e tt
new_kinds (entries.Join role) older j m h app k (inr i) own = absurd i
new_kinds (entries.Message q id opcode body) older j m h app k i own =
    of_peer_kind (past_of older) (peer_at (past_of older) q)
    (λ peer. of_message (past_of older) (length older + 1) peer opcode body (object_at (past_of older) peer.label id)) m
    (λ peer e n.
    let label : peer.label ≡ j.label =
    sym (new_peer (past_of older) (length older + 1) peer opcode body (object_at (past_of older) peer.label id) m n)
    ∙ own in
    let role : peer.role ≡ j.role =
    role_once older peer j (has_peer (past_of older).joined q peer e) h label in
    message_kind (past_of older) (length older + 1) peer opcode body (object_at (past_of older) peer.label id) m
    (role ∙ app)
    (λ x s. let f = found (log_of (past_of older)) (past_of older).made peer.label id x s in
    k x f.among (f.peer ∙ label)) n) i
new_kinds (entries.Tokens q tokens) older j m h app k i own = absurd i
new_kinds (entries.BadSize q head) older j m h app k i own =
    absurd (no_more (peer_at (past_of older) q) _ m (λ peer. refl) i)
new_kinds (entries.End q cause) older j m h app k i own =
    absurd (no_more (peer_at (past_of older) q) _ m (λ peer. refl) i)
new_kinds (entries.Shell step) older j m h app k i own = absurd i
new_kinds (entries.Took q bytes) older j m h app k i own =
    absurd (no_more (peer_at (past_of older) q) _ m (λ peer. refl) i)

pub app_kinds : (journal : List Entry) (j : Joined) → HasJoined (past_of journal).joined j → j.role ≡ roles.App →
    AreKinds journal j.label
app_kinds [] j h app m i own = absurd i
app_kinds (e ∷ older) j h app m i own =
    by (old_or_new e (length older + 1) (past_of older).joined j h)
    (is_either (means e (length older + 1) (past_of older)).made (past_of older).made m i)
    (λ k. app_kinds older j k app)
  where
    by : HasJoined (past_of older).joined j ⊎ IsNew e (length older + 1) j →
        IsIn (means e (length older + 1) (past_of older)).made m ⊎ IsIn (past_of older).made m →
        (HasJoined (past_of older).joined j → AreKinds older j.label) → IsAppKind m.interface
    by (inl k) (inl n) f = new_kinds e older j m k app (f k) n own
    by (inl k) (inr o) f = f k m o own
    by (inr s) (inl n) f =
        display (subst (λ (x : Entry). IsIn (means x (length older + 1) (past_of older)).made m) s.entry n)
      where
        display : IsIn (means (entries.Join s.role) (length older + 1) (past_of older)).made m → IsAppKind m.interface
        display (inl e) = subst (λ (y : Made). IsAppKind y.interface) e tt
        display (inr n) = absurd n
    by (inr s) (inr o) f =
        (let joined = (sound older m o).joined in
        let l = s.label in
        absurd (omega (arith, joined, l, own)))
