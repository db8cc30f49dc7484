-- Live fields have ids.
use Rattle.std.proofs.Common.{◌≡◌, ℕ, zero, suc, ◌+◌, ◌≤◌, List, [], ◌∷◌, ◌++◌, length, Bool, true, false, Option, Some, None, ap, refl, sym, ◌∙◌, subst, ap₂, arith}
use Rattle.std.specs.Prelude.{◌==◌, if◌then◌else◌, Result, Ok, Err}
use Rattle.std.proofs.lemmas.Bool.{ne_eqb, eq-eqb, eqb-true, true≢false}
use Rattle.std.specs.Option.{option_map}
use Rattle.std.proofs.lemmas.Option.{same_Some}
use Rattle.wl_wire.specs.Reading.{◌>>=◌, word_at}
use Rattle.wl_proto.specs.declared.interface.Interface.{Interface}
use Rattle.wl_proto.specs.declared.interface.Interface.TheVariants as interface
use Rattle.wl_proto.specs.declared.table.Kind.{Kind}
use Rattle.wl_proto.specs.declared.table.Kind.TheVariants.{Object as ObjectKind, NewId}
use Rattle.wl_proto.specs.declared.refuse.Refuse.{Refuse}
use Rattle.wl_proto.specs.Grammar.{Value, word}
use Rattle.wl_proto.specs.Reading.{value_at, values_at, all_read, by_row, request_reading}
use Rattle.wl_proto.specs.Rows.{Message, message, request_kinds}
use Rattle.relay_model.specs.declared.act.Act.{Act}
use Rattle.relay_model.specs.declared.act.Act.TheVariants as acts
use Rattle.relay_model.specs.declared.fault.Fault.{Fault}
use Rattle.relay_model.specs.declared.role.Role.{Role}
use Rattle.relay_model.specs.Objects.{Object, is_field_kind, owner, made, maker, remains, object}
use Rattle.relay_model.specs.Idle.{is_live, cleaned}
use Rattle.relay_model.proofs.ObjectLaws.{kind_within}
use Rattle.broker_steps.specs.declared.step.ShellStep.{ShellStep}
use Rattle.broker_steps.specs.declared.step.ShellStep.TheVariants as shell
use Rattle.broker_model.specs.declared.journal.Entry.{Entry}
use Rattle.broker_model.specs.declared.journal.Entry.TheVariants as entries
use Rattle.broker_model.specs.Ids.{Made, Joined, Past, log_of, peer_at, object_at, made_as}
use Rattle.broker_model.specs.Requests.{Argument, new_of, rows, act_of}
use Rattle.broker_model.specs.Refusals.{request_fault}
use Rattle.broker_model.specs.Resolve.{Meaning, label_at, made_new, of_request, of_reading, of_message, of_peer, surface_at, on_surface, shell_act, means, past_of}
use Rattle.broker_model.specs.Law.{field_peer}
use Rattle.broker_model.proofs.OwnersLive.{remains_some, field_made}
use Rattle.broker_model.proofs.LivePeersJoined.{makes, makes_rows, plain_row, length_log}

-- a request for a field is read as two words

bind_some : {A B : Type 0} (o : Option A) (f : A → Option B) (y : B) → (o >>= f) ≡ Some y →
    (x : A) × (o ≡ Some x) × (f x ≡ Some y)
bind_some None f y e = cc
bind_some (Some x) f y e = (x, refl, e)

word_value : (o : Option (ℕ × List ℕ)) (v : Value × List ℕ) → (o >>= (λ w. Some (word w.0, w.1))) ≡ Some v →
    (n : ℕ) × (v.0 ≡ word n)
word_value None v e = cc
word_value (Some w) v e =
    let d : Some (word w.0) ≡ Some v.0 = ap (option_map (λ (u : Value × List ℕ). u.0)) e in
    (w.0, (let s : word w.0 ≡ v.0 = cc in sym s))

no_values : (b : Bool) (vs : List Value) → (if b then Some [] else None) ≡ Some vs → vs ≡ []
no_values true vs e = cc
no_values false vs e = cc

abbrev AreTwoWords : List Value → Type 0
AreTwoWords vs = (id : ℕ) × (seat : ℕ) × (vs ≡ word id ∷ word seat ∷ [])

two_are : (a c : Value) (bs ds vs : List Value) (id seat : ℕ) → a ∷ bs ≡ vs → c ∷ ds ≡ bs → ds ≡ [] → a ≡ word id →
    c ≡ word seat →
    vs ≡ word id ∷ word seat ∷ []
two_are a c bs ds vs id seat whole last none is_id is_seat = cc

two_words : (tokens : List ℕ) (body : List ℕ) (vs : List Value) →
    values_at tokens (NewId ∷ ObjectKind ∷ []) body ≡ Some vs → AreTwoWords vs
two_words tokens body vs e =
    let a = bind_some (value_at tokens NewId body)
    (λ v. values_at tokens (ObjectKind ∷ []) v.1 >>= (λ ws. Some (v.0 ∷ ws))) vs e in
    let b = bind_some (values_at tokens (ObjectKind ∷ []) a.0.1) (λ ws. Some (a.0.0 ∷ ws)) vs a.2 in
    let c = bind_some (value_at tokens ObjectKind a.0.1)
    (λ v. values_at tokens [] v.1 >>= (λ ws. Some (v.0 ∷ ws))) b.0 b.1 in
    let d = bind_some (values_at tokens [] c.0.1) (λ ws. Some (c.0.0 ∷ ws)) b.0 c.2 in
    let id : (n : ℕ) × (a.0.0 ≡ word n) = word_value (word_at body) a.0 a.1 in
    let seat : (n : ℕ) × (c.0.0 ≡ word n) = word_value (word_at a.0.1) c.0 c.1 in (
      id.0,
      seat.0,
      two_are a.0.0 c.0.0 b.0 d.0 vs id.0 seat.0 (same_Some (a.0.0 ∷ b.0) vs b.2) (same_Some (c.0.0 ∷ d.0) b.0 d.2)
          (no_values (length c.0.1 == 0) d.0 d.1) id.1 seat.1,
    )

-- the values of the message, if it asks for a field
abbrev IsAsked : Message → Type 0
IsAsked m = m.interface ≡ interface.TextInputManager → m.opcode ≡ 1 → AreTwoWords m.values

asked_values : (tokens : List ℕ) (i : Interface) (n : ℕ) (body : List ℕ) (m : Message) (ks : List Kind)
    (o : Option (List Value)) → values_at tokens ks body ≡ o →
    request_kinds i n ≡ Some ks → all_read i n o ≡ Ok m → IsAsked m
asked_values tokens i n body m ks None v q e = cc
asked_values tokens i n body m ks (Some vs) v q e =
    let d : message i n vs ≡ m = cc in
    λ is_i is_n.
    let same_i : i ≡ interface.TextInputManager = ap (λ (u : Message). u.interface) d ∙ is_i in
    let same_n : n ≡ 1 = ap (λ (u : Message). u.opcode) d ∙ is_n in
    let kinds : Some (NewId ∷ ObjectKind ∷ []) ≡ Some ks = ap₂ request_kinds (sym same_i) (sym same_n) ∙ q in
    let k : NewId ∷ ObjectKind ∷ [] ≡ ks = same_Some (NewId ∷ ObjectKind ∷ []) ks kinds in
    let read : AreTwoWords vs = two_words tokens body vs (ap (λ x. values_at tokens x body) k ∙ v) in
    subst (λ (u : Message). AreTwoWords u.values) d read

asked_kinds : (tokens : List ℕ) (i : Interface) (n : ℕ) (body : List ℕ) (m : Message) (o : Option (List Kind)) →
    request_kinds i n ≡ o →
    by_row i n tokens body o ≡ Ok m → IsAsked m
asked_kinds tokens i n body m None q e = cc
asked_kinds tokens i n body m (Some ks) q e = asked_values tokens i n body m ks (values_at tokens ks body) refl q e

asked : (tokens : List ℕ) (i : Interface) (n : ℕ) (body : List ℕ) (m : Message) →
    request_reading i n tokens body ≡ Ok m → IsAsked m
unfolding request_reading
asked tokens i n body m e = asked_kinds tokens i n body m (request_kinds i n) refl e

-- what was made with a label of a peer
pub record IsMade (made : List Made) (x p : ℕ) : Type 0 where
  pub field : Made
  pub is : made_as made x ≡ Some field
  pub own : field.peer ≡ p

made_here : (x n p id : ℕ) (i : Interface) (rest : List Made) → x ≡ n →
    IsMade (record { peer = p; id = id; label = n; interface = i } ∷ rest) x p
made_here x n p id i rest e =
    record {
      field = record { peer = p; id = id; label = n; interface = i };
      is = rw (eq-eqb n x (sym e)) refl;
      own = refl;
    }

-- a new field is made under its id

no_field : (act : Act) (p : ℕ) → makes act ≡ false → field_peer act ≡ Some p → ⊥
no_field (acts.Field q) p h e = true≢false h
no_field _ p h e = cc

field_request : (q x : ℕ) (role : Role) (at : ℕ → ℕ) (i : Interface) (opcode : ℕ) (vs : List Value) (n p : ℕ)
    (rest : List Made) →
    (i ≡ interface.TextInputManager → opcode ≡ 1 → AreTwoWords vs) →
    field_peer (act_of q x role at i opcode vs) ≡ Some p →
    IsMade (made_new q n (new_of i opcode vs) ++ rest) n p
field_request q x role at interface.TextInputManager zero vs n p rest a e = cc
field_request q x role at interface.TextInputManager (suc zero) vs n p rest a e =
    let w : AreTwoWords vs = a refl refl in
    let same : q ≡ p = cc in
    let here : IsMade (record { peer = q; id = w.0; label = n; interface = interface.TextInput } ∷ rest) n q =
    made_here n n q w.0 interface.TextInput rest refl in
    rw w.2 (record { field = here.field; is = here.is; own = here.own ∙ same })
field_request q x role at interface.TextInputManager (suc (suc k)) vs n p rest a e = cc
field_request q x role at i opcode vs n p rest a e =
    absurd (no_field (act_of q x role at i opcode vs) p
    (plain_row makes (rows q x role at i vs) opcode refl (makes_rows q x role at i vs)) e)

field_of_request : (past : Past) (n : ℕ) (peer : Joined) (x : ℕ) (m : Message) (o : Option Fault) (p : ℕ)
    (rest : List Made) → IsAsked m →
    field_peer (of_request past n peer x m o).act ≡ Some p → IsMade ((of_request past n peer x m o).made ++ rest) n p
field_of_request past n peer x m (Some f) p rest a e = cc
field_of_request past n peer x m None p rest a e =
    field_request peer.label x peer.role (label_at past peer.label) m.interface m.opcode m.values n p rest a e

field_of_reading : (past : Past) (n : ℕ) (peer : Joined) (x : ℕ) (r : Result Message Refuse) (p : ℕ)
    (rest : List Made) →
    ((m : Message) → r ≡ Ok m → IsAsked m) →
    field_peer (of_reading past n peer x r).act ≡ Some p → IsMade ((of_reading past n peer x r).made ++ rest) n p
field_of_reading past n peer x (Err r) p rest a e = cc
field_of_reading past n peer x (Ok m) p rest a e =
    field_of_request past n peer x m (request_fault past peer.label x peer.role (label_at past peer.label) m) p rest
    (a m refl) e

field_of_message : (past : Past) (n : ℕ) (peer : Joined) (opcode : ℕ) (body : List ℕ) (o : Option Made) (p : ℕ)
    (rest : List Made) →
    field_peer (of_message past n peer opcode body o).act ≡ Some p →
    IsMade ((of_message past n peer opcode body o).made ++ rest) n p
field_of_message past n peer opcode body None p rest e = cc
field_of_message past n peer opcode body (Some x) p rest e =
    field_of_reading past n peer x.label (request_reading x.interface opcode (past.waiting peer.label) body) p rest
    (λ m q. asked (past.waiting peer.label) x.interface opcode body m q) e

field_of_peer : (o : Option Joined) (f : Joined → Meaning) (n p : ℕ) (rest : List Made) →
    ((peer : Joined) → field_peer (f peer).act ≡ Some p → IsMade ((f peer).made ++ rest) n p) →
    field_peer (of_peer o f).act ≡ Some p → IsMade ((of_peer o f).made ++ rest) n p
field_of_peer None f n p rest h e = cc
field_of_peer (Some peer) f n p rest h e = h peer e

field_of_surface : (o : Option ℕ) (f : ℕ → Act) (p : ℕ) → ((s : ℕ) → field_peer (f s) ≡ None) →
    field_peer (on_surface o f) ≡ Some p → ⊥
field_of_surface None f p h e = cc
field_of_surface (Some s) f p h e = let n : field_peer (f s) ≡ None = h s in cc

field_of_shell : (past : Past) (step : ShellStep) (p : ℕ) → field_peer (shell_act past step) ≡ Some p → ⊥
field_of_shell past (shell.Focus q id) p e =
    field_of_surface (surface_at past (peer_at past q) id) (λ s. acts.Focus s) p (λ s. refl) e
field_of_shell past (shell.Area q id rect) p e =
    field_of_surface (surface_at past (peer_at past q) id) (λ s. acts.Area s rect) p (λ s. refl) e
field_of_shell past _ p e = cc

field_of_entry : (e : Entry) (n : ℕ) (past : Past) (p : ℕ) (rest : List Made) →
    field_peer (means e n past).act ≡ Some p →
    IsMade ((means e n past).made ++ rest) n p
field_of_entry (entries.Join role) n past p rest e = cc
field_of_entry (entries.Message q id opcode body) n past p rest e =
    field_of_peer (peer_at past q) (λ peer. of_message past n peer opcode body (object_at past peer.label id)) n p rest
    (λ peer h. field_of_message past n peer opcode body (object_at past peer.label id) p rest h) e
field_of_entry (entries.Tokens q tokens) n past p rest e = cc
field_of_entry (entries.BadSize q head) n past p rest e = field_of_peer (peer_at past q) _ n p rest (λ peer h. cc) e
field_of_entry (entries.End q why) n past p rest e = field_of_peer (peer_at past q) _ n p rest (λ peer h. cc) e
field_of_entry (entries.Shell step) n past p rest e = absurd (field_of_shell past step p e)
field_of_entry (entries.Took q bytes) n past p rest e = field_of_peer (peer_at past q) _ n p rest (λ peer h. cc) e

-- an entry makes things with its own label alone

other_new : (q n : ℕ) (o : Option Argument) (rest : List Made) (x : ℕ) → (n == x) ≡ false →
    made_as (made_new q n o ++ rest) x ≡ made_as rest x
other_new q n None rest x h = refl
other_new q n (Some new) rest x h = rw h refl

other_request : (past : Past) (n : ℕ) (peer : Joined) (y : ℕ) (m : Message) (o : Option Fault) (rest : List Made)
    (x : ℕ) → (n == x) ≡ false →
    made_as ((of_request past n peer y m o).made ++ rest) x ≡ made_as rest x
other_request past n peer y m (Some f) rest x h = refl
other_request past n peer y m None rest x h = other_new peer.label n (new_of m.interface m.opcode m.values) rest x h

other_reading : (past : Past) (n : ℕ) (peer : Joined) (y : ℕ) (r : Result Message Refuse) (rest : List Made) (x : ℕ) →
    (n == x) ≡ false →
    made_as ((of_reading past n peer y r).made ++ rest) x ≡ made_as rest x
other_reading past n peer y (Err r) rest x h = refl
other_reading past n peer y (Ok m) rest x h =
    other_request past n peer y m (request_fault past peer.label y peer.role (label_at past peer.label) m) rest x h

other_message : (past : Past) (n : ℕ) (peer : Joined) (opcode : ℕ) (body : List ℕ) (o : Option Made) (rest : List Made)
    (x : ℕ) → (n == x) ≡ false →
    made_as ((of_message past n peer opcode body o).made ++ rest) x ≡ made_as rest x
other_message past n peer opcode body None rest x h = refl
other_message past n peer opcode body (Some y) rest x h =
    other_reading past n peer y.label (request_reading y.interface opcode (past.waiting peer.label) body) rest x h

other_peer : (o : Option Joined) (f : Joined → Meaning) (rest : List Made) (x : ℕ) →
    ((peer : Joined) → made_as ((f peer).made ++ rest) x ≡ made_as rest x) →
    made_as ((of_peer o f).made ++ rest) x ≡ made_as rest x
other_peer None f rest x h = refl
other_peer (Some peer) f rest x h = h peer

pub other_entry : (e : Entry) (n : ℕ) (past : Past) (rest : List Made) (x : ℕ) → (n == x) ≡ false →
    made_as ((means e n past).made ++ rest) x ≡ made_as rest x
other_entry (entries.Join role) n past rest x h = rw h refl
other_entry (entries.Message q id opcode body) n past rest x h =
    other_peer (peer_at past q) (λ peer. of_message past n peer opcode body (object_at past peer.label id)) rest x
    (λ peer. other_message past n peer opcode body (object_at past peer.label id) rest x h)
other_entry (entries.Tokens q tokens) n past rest x h = refl
other_entry (entries.BadSize q head) n past rest x h = other_peer (peer_at past q) _ rest x (λ peer. refl)
other_entry (entries.End q why) n past rest x h = other_peer (peer_at past q) _ rest x (λ peer. refl)
other_entry (entries.Shell step) n past rest x h = refl
other_entry (entries.Took q bytes) n past rest x h = other_peer (peer_at past q) _ rest x (λ peer. refl)

-- a live field was made under an id by its peer

field_cleaned : (b : Bool) (act : Act) (p : ℕ) → field_peer (if b then act else acts.Idle) ≡ Some p →
    field_peer act ≡ Some p
field_cleaned true act p e = e
field_cleaned false act p e = cc

field_by : (e : Entry) (older : List Entry) (f : ℕ) (o : Object) (b : Bool) →
    (f == length (log_of (past_of older)) + 1) ≡ b →
    is_field_kind o.kind ≡ true → (object (log_of (past_of older)) f ≡ Some o → IsMade (past_of older).made f o.peer) →
    (if b then made (cleaned (means e (length older + 1) (past_of older)).act (log_of (past_of older))) f
    (owner (object (log_of (past_of older))
    (maker (cleaned (means e (length older + 1) (past_of older)).act (log_of (past_of older))))))
    else remains (cleaned (means e (length older + 1) (past_of older)).act (log_of (past_of older))) f
    (object (log_of (past_of older)) f)) ≡ Some o →
    IsMade ((means e (length older + 1) (past_of older)).made ++ (past_of older).made) f o.peer
field_by e older f o true q t k h =
    let past : Past = past_of older in
    let act : Act = (means e (length older + 1) past).act in
    let s : f ≡ length older + 1 = eqb-true f _ q ∙ ap (λ n. n + 1) (length_log older) in
    let p : field_peer act ≡ Some o.peer =
    field_cleaned (is_live act (log_of past)) act o.peer (field_made (cleaned act (log_of past)) f _ o h t) in
    rw s (field_of_entry e (length older + 1) past o.peer past.made p)
field_by e older f o false q t k h =
    let past : Past = past_of older in
    let was : object (log_of past) f ≡ Some o = remains_some _ f (object (log_of past) f) o h in
    let m : IsMade past.made f o.peer = k was in
    let within : f ≤ length (log_of past) = kind_within is_field_kind (log_of past) f (rw was t) in
    let old : length (log_of past) ≡ length older = length_log older in
    let other : (length older + 1 == f) ≡ false = ne_eqb (length older + 1) f (λ d. omega arith) in
    record { field = m.field; is = other_entry e (length older + 1) past past.made f other ∙ m.is; own = m.own }

pub field_made_as : (journal : List Entry) (f : ℕ) (o : Object) → is_field_kind o.kind ≡ true →
    object (log_of (past_of journal)) f ≡ Some o →
    IsMade (past_of journal).made f o.peer
field_made_as [] f o t h = cc
field_made_as (e ∷ older) f o t h =
    field_by e older f o (f == length (log_of (past_of older)) + 1) refl t (field_made_as older f o t) h
