-- What was made as a text input is a field of its peer.
use Rattle.std.proofs.Common.{◌≡◌, ℕ, zero, suc, ◌+◌, List, [], ◌∷◌, length, Bool, true, false, Option, Some, None, Result, Ok, Err, refl, sym, ap, subst, ◌∙◌, arith, inl, inr, ◌⊎◌}
use Rattle.std.specs.Prelude.{if◌then◌else◌, ◌==◌}
use Rattle.std.proofs.lemmas.Bool.{eq-eqb, ne_eqb}
use Rattle.std.proofs.lemmas.Option.{same_Some}
use Rattle.wl_proto.specs.declared.interface.Interface.{Interface}
use Rattle.wl_proto.specs.declared.interface.Interface.TheVariants as interface
use Rattle.wl_proto.specs.declared.refuse.Refuse.{Refuse}
use Rattle.wl_proto.specs.declared.table.Kind.{Kind}
use Rattle.wl_proto.specs.Grammar.{Value, word, text}
use Rattle.wl_proto.specs.Rows.{Message, message, request_kinds}
use Rattle.wl_proto.specs.Reading.{values_at, all_read, by_row, request_reading}
use Rattle.relay_model.specs.declared.act.Act.{Act}
use Rattle.relay_model.specs.declared.act.Act.TheVariants as acts
use Rattle.relay_model.specs.declared.role.Role.{Role}
use Rattle.relay_model.specs.declared.fault.Fault.{Fault}
use Rattle.relay_model.specs.Objects.{next, is_peer, peer_of}
use Rattle.relay_model.specs.Idle.{cleaned}
use Rattle.relay_model.proofs.ActsOrIdle.{history_is}
use Rattle.broker_model.specs.declared.journal.Entry.{Entry}
use Rattle.broker_model.specs.declared.journal.Entry.TheVariants as entries
use Rattle.broker_model.specs.Ids.{Made, Joined, Past, log_of, peer_at, object_at}
use Rattle.broker_model.specs.Law.{field_peer, maker_of}
use Rattle.broker_model.specs.Requests.{Argument, global_at, new_of, act_of}
use Rattle.broker_model.specs.Refusals.{request_fault}
use Rattle.broker_model.specs.Resolve.{Meaning, label_at, made_new, of_request, of_reading, of_message, of_peer, means, past_of, resolve}
use Rattle.broker_model.proofs.IdsAreNames.{IsIn, found}
use Rattle.broker_model.proofs.OwnersLive.{maker_stays, owner_lives}
use Rattle.broker_model.proofs.LivePeersJoined.{length_log}
use Rattle.broker_model.proofs.MadeObjectsStand.{sound}
use Rattle.trial_laws.proofs.ClientIds.{either, reading_interface}

-- ---- which request makes a text input

global_other : (a b c d : Bool) →
    (if a then interface.Compositor else (if b then interface.Seat else (if c then interface.TextInputManager
    else (if d then interface.InputMethodManager else interface.VirtualKeyboardManager))))
    ≡ interface.TextInput → ⊥
global_other true b c d e = cc
global_other false true c d e = cc
global_other false false true d e = cc
global_other false false false true e = cc
global_other false false false false e = cc

display_other : (b : Bool) → (if b then interface.Callback else interface.Registry) ≡ interface.TextInput → ⊥
display_other true e = cc
display_other false e = cc

named_by : (i : Interface) (id : ℕ) (new : Argument) →
    (let o : Option Argument = Some (record { id = id; interface = i }) in o ≡ Some new) → i ≡ new.interface
named_by i id new e = ap (λ (a : Argument). a.interface) (same_Some (record { id = id; interface = i }) new e)

chosen : (b : Bool) (i : Interface) (id : ℕ) (new : Argument) →
    (if b then Some (record { id = id; interface = i }) else None) ≡ Some new → i ≡ new.interface
chosen true i id new e = named_by i id new e
chosen false i id new e = cc

only_manager : (i : Interface) (opcode : ℕ) (vs : List Value) (new : Argument) → new_of i opcode vs ≡ Some new →
    new.interface ≡ interface.TextInput → i ≡ interface.TextInputManager
only_manager interface.TextInputManager opcode vs new e h = refl
only_manager interface.Display opcode (word id ∷ []) new e h =
    absurd (display_other (opcode == 0) (named_by _ id new e ∙ h))
only_manager interface.Registry opcode (word name ∷ text t ∷ word version ∷ word id ∷ []) new e h =
    absurd (global_other (name == 1) (name == 2) (name == 3) (name == 4) (named_by (global_at name) id new e ∙ h))
only_manager interface.Compositor opcode (word id ∷ []) new e h = (let s = named_by interface.Surface id new e
    ∙ h in cc)
only_manager interface.Seat opcode (word id ∷ []) new e h = (let s = named_by interface.Seat id new e ∙ h in cc)
only_manager interface.InputMethodManager opcode (word seat ∷ word id ∷ []) new e h =
    (let s = named_by interface.InputMethod id new e ∙ h in cc)
only_manager interface.VirtualKeyboardManager opcode (word seat ∷ word id ∷ []) new e h =
    (let s = named_by interface.VirtualKeyboard id new e ∙ h in cc)
only_manager interface.InputMethod opcode (word id ∷ word surface ∷ []) new e h =
    (let s = chosen (opcode == 4) interface.InputPopupSurface id new e ∙ h in cc)
only_manager interface.InputMethod opcode (word id ∷ []) new e h =
    (let s = chosen (opcode == 5) interface.KeyboardGrab id new e ∙ h in cc)
only_manager _ opcode vs new e h = cc

no_row : (n : ℕ) → request_kinds interface.TextInputManager (suc (suc n)) ≡ None
no_row n = rw (ne_eqb 0 (suc (suc n)) (λ e. absurd (omega arith)), ne_eqb 1 (suc (suc n)) (λ e. absurd (omega arith)))
    refl

-- the request of a manager that names something new makes a field
manager_field : (p x : ℕ) (role : Role) (at : ℕ → ℕ) (opcode : ℕ) (tokens body : List ℕ) (m : Message)
    (new : Argument) →
    request_reading interface.TextInputManager opcode tokens body ≡ Ok m →
    new_of m.interface m.opcode m.values ≡ Some new → act_of p x role at m.interface m.opcode m.values ≡ acts.Field p
unfolding request_reading
manager_field p x role at zero tokens body m new e h = by (values_at tokens [] body) refl e
  where
    empty : (b : Bool) → all_read interface.TextInputManager 0 (if b then Some [] else None) ≡ Ok m →
        act_of p x role at m.interface m.opcode m.values ≡ acts.Field p
    empty true k =
        (let same : message interface.TextInputManager 0 [] ≡ m = cc in
        let none : (let o : Option Argument = None in o ≡ Some new) =
        ap (λ (y : Message). new_of y.interface y.opcode y.values) same ∙ h in cc)
    empty false k = cc

    by : (o : Option (List Value)) → values_at tokens [] body ≡ o →
        all_read interface.TextInputManager 0 (values_at tokens [] body) ≡ Ok m →
        act_of p x role at m.interface m.opcode m.values ≡ acts.Field p
    by o q k = empty (length body == 0) k
manager_field p x role at (suc zero) tokens body m new e h = by (request_kinds interface.TextInputManager 1) e
  where
    read : (o : Option (List Value)) → all_read interface.TextInputManager 1 o ≡ Ok m →
        act_of p x role at m.interface m.opcode m.values ≡ acts.Field p
    read None k = cc
    read (Some vs) k =
        (let same : message interface.TextInputManager 1 vs ≡ m = cc in
        ap (λ (y : Message). act_of p x role at y.interface y.opcode y.values) (sym same))

    by : (o : Option (List Kind)) → by_row interface.TextInputManager 1 tokens body o ≡ Ok m →
        act_of p x role at m.interface m.opcode m.values ≡ acts.Field p
    by None k = cc
    by (Some ks) k = read (values_at tokens ks body) k
manager_field p x role at (suc (suc n)) tokens body m new e h =
    (let no : (let r : Result Message Refuse = by_row interface.TextInputManager (suc (suc n)) tokens body None in r
    ≡ Ok m) =
    ap (by_row interface.TextInputManager (suc (suc n)) tokens body) (sym (no_row n)) ∙ e in cc)

-- ---- entries

-- the act of the newest entry makes a field of the peer
abbrev Makes : Meaning → ℕ → Type 0
Makes meaning p = meaning.act ≡ acts.Field p

new_input : (q n : ℕ) (o : Option Argument) (m : Made) → IsIn (made_new q n o) m → m.interface ≡ interface.TextInput →
    (new : Argument) × (o ≡ Some new) × (new.interface ≡ interface.TextInput) × (m.label ≡ n) × (m.peer ≡ q)
new_input q n None m i h = absurd i
new_input q n (Some a) m (inl e) h = (
  a,
  refl,
  ap (λ (y : Made). y.interface) e ∙ h,
  ap (λ (y : Made). y.label) (sym e),
  ap (λ (y : Made). y.peer)
      (sym e),
)
new_input q n (Some a) m (inr i) h = absurd i

-- of a request that was read and isn't refused
request_input : (past : Past) (n : ℕ) (peer : Joined) (x : ℕ) (i : Interface) (opcode : ℕ) (body : List ℕ) (r : Message)
    (o : Option Fault) (m : Made) → request_reading i opcode (past.waiting peer.label) body ≡ Ok r →
    IsIn (of_request past n peer x r o).made m → m.interface ≡ interface.TextInput →
    Makes (of_request past n peer x r o) peer.label × (m.label ≡ n) × (m.peer ≡ peer.label)
request_input past n peer x i opcode body r (Some f) m e j h = absurd j
request_input past n peer x i opcode body r None m e j h =
    let w = new_input peer.label n (new_of r.interface r.opcode r.values) m j h in
    let manager : r.interface ≡ interface.TextInputManager =
    only_manager r.interface r.opcode r.values w.0 w.1 w.2 in
    let from : i ≡ interface.TextInputManager =
    sym (reading_interface i opcode (past.waiting peer.label) body r e) ∙ manager in
    let reads : request_reading interface.TextInputManager opcode (past.waiting peer.label) body ≡ Ok r =
    subst (λ (k : Interface). request_reading k opcode (past.waiting peer.label) body ≡ Ok r) from e in (
      manager_field peer.label x peer.role (label_at past peer.label) opcode (past.waiting peer.label)
          body r w.0 reads w.1,
      w.3,
      w.4,
    )

reading_input : (past : Past) (n : ℕ) (peer : Joined) (x : ℕ) (i : Interface) (opcode : ℕ) (body : List ℕ)
    (r : Result Message Refuse) (m : Made) → request_reading i opcode (past.waiting peer.label) body ≡ r →
    IsIn (of_reading past n peer x r).made m → m.interface ≡ interface.TextInput →
    Makes (of_reading past n peer x r) peer.label × (m.label ≡ n) × (m.peer ≡ peer.label)
reading_input past n peer x i opcode body (Err f) m e j h = absurd j
reading_input past n peer x i opcode body (Ok r) m e j h =
    request_input past n peer x i opcode body r
    (request_fault past peer.label x peer.role (label_at past peer.label) r) m e j h

-- the act that makes it is one of a live peer
live_field : (older : List Entry) (n : ℕ) (act : Act) (p x : ℕ) → n ≡ length older + 1 → act ≡ acts.Field p →
    peer_of (log_of (past_of older)) x ≡ Some p →
    maker_of (cleaned act (log_of (past_of older)) ∷ log_of (past_of older)) n ≡ Some p
live_field older n act p x k e owner =
    let log : List Act = log_of (past_of older) in
    let lives : is_peer log p ≡ true = owner_lives log x p (history_is (resolve older)) owner in
    let same : cleaned act log ≡ acts.Field p =
    ap (λ (a : Act). cleaned a log) e ∙ ap (λ (b : Bool). if b then acts.Field p else acts.Idle) lives in
    let now : (n == next log) ≡ true = eq-eqb n (next log) (k ∙ ap (λ l. l + 1) (sym (length_log older))) in
    ap (λ (a : Act). maker_of (a ∷ log) n) same
    ∙ ap (λ (b : Bool). if b then field_peer (acts.Field p) else maker_of log n) now

message_input : (older : List Entry) (peer : Joined) (id opcode : ℕ) (body : List ℕ) (o : Option Made) (m : Made) →
    object_at (past_of older) peer.label id ≡ o →
    IsIn (of_message (past_of older) (length older + 1) peer opcode body o).made m → m.interface ≡ interface.TextInput →
    maker_of (cleaned (of_message (past_of older) (length older + 1) peer opcode body o).act (log_of (past_of older))
    ∷ log_of (past_of older)) m.label ≡ Some m.peer
message_input older peer id opcode body None m e j h = absurd j
message_input older peer id opcode body (Some x) m e j h =
    let past : Past = past_of older in
    let f = found (log_of past) past.made peer.label id x e in
    let r = reading_input past (length older + 1) peer x.label x.interface opcode body
    (request_reading x.interface opcode (past.waiting peer.label) body) m refl j h in
    let owner : peer_of (log_of past) x.label ≡ Some peer.label = (sound older x f.among).own f.lives
    ∙ ap Some f.peer in
    subst (λ p. maker_of (cleaned (of_message past (length older + 1) peer opcode body (Some x)).act (log_of past)
    ∷ log_of past) m.label ≡ Some p) (sym r.2)
    (live_field older m.label (of_message past (length older + 1)
    peer opcode body (Some x)).act peer.label x.label r.1 r.0
    owner)

peer_input : (older : List Entry) (o : Option Joined) (id opcode : ℕ) (body : List ℕ) (m : Made) →
    IsIn (of_peer o (λ peer. of_message (past_of older) (length older + 1) peer opcode body
    (object_at (past_of older) peer.label id))).made m → m.interface ≡ interface.TextInput →
    maker_of (cleaned (of_peer o (λ peer. of_message (past_of older) (length older + 1) peer opcode body
    (object_at (past_of older) peer.label id))).act (log_of (past_of older)) ∷ log_of (past_of older)) m.label
    ≡ Some m.peer
peer_input older None id opcode body m j h = absurd j
peer_input older (Some peer) id opcode body m j h =
    message_input older peer id opcode body (object_at (past_of older) peer.label id) m refl j h

none_in : (o : Option Joined) (f : Joined → Meaning) (m : Made) → ((peer : Joined) → (f peer).made ≡ []) →
    IsIn (of_peer o f).made m → ⊥
none_in None f m h i = absurd i
none_in (Some peer) f m h i = subst (λ (l : List Made). IsIn l m) (h peer) i

entry_input : (e : Entry) (older : List Entry) (m : Made) → IsIn (means e (length older + 1) (past_of older)).made m →
    m.interface ≡ interface.TextInput → maker_of (log_of (past_of (e ∷ older))) m.label ≡ Some m.peer
entry_input (entries.Join role) older m j h = absurd (by j)
  where
    by : IsIn (record { peer = length older + 1; id = 1; label = length older + 1; interface = interface.Display } ∷ [])
        m → ⊥
    by (inl e) = (let s : interface.Display ≡ interface.TextInput = ap (λ (y : Made). y.interface) e ∙ h in cc)
    by (inr i) = absurd i
entry_input (entries.Message q id opcode body) older m j h = peer_input older (peer_at (past_of older)
    q) id opcode body m j h
entry_input (entries.Tokens q tokens) older m j h = absurd j
entry_input (entries.BadSize q head) older m j h = absurd (none_in (peer_at (past_of older) q) _ m (λ peer. refl) j)
entry_input (entries.End q why) older m j h = absurd (none_in (peer_at (past_of older) q) _ m (λ peer. refl) j)
entry_input (entries.Shell step) older m j h = absurd j
entry_input (entries.Took q bytes) older m j h = absurd (none_in (peer_at (past_of older) q) _ m (λ peer. refl) j)

pub input_made : (journal : List Entry) (m : Made) → IsIn (past_of journal).made m → m.interface ≡ interface.TextInput →
    maker_of (log_of (past_of journal)) m.label ≡ Some m.peer
input_made [] m i h = absurd i
input_made (e ∷ older) m i h =
    by (either (means e (length older + 1) (past_of older)).made (past_of older).made m i) (λ j. input_made older m j h)
  where
    by : IsIn (means e (length older + 1) (past_of older)).made m ⊎ IsIn (past_of older).made m →
        (IsIn (past_of older).made m → maker_of (log_of (past_of older)) m.label ≡ Some m.peer) →
        maker_of (log_of (past_of (e ∷ older))) m.label ≡ Some m.peer
    by (inl j) k = entry_input e older m j h
    by (inr j) k =
        (let within = (sound older m j).within in
        let long = length_log older in maker_stays _ (log_of (past_of older)) m.label (omega arith) ∙ k j)
