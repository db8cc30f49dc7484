-- What an entry makes under an id: at most one object, under an id that is free.
use Rattle.std.proofs.Common.{◌≡◌, ℕ, zero, suc, ◌+◌, ◌≤◌, List, [], ◌∷◌, length, Bool, true, false, Option, Some, None, ap, refl, sym, ◌∙◌, arith, inl, inr, ◌⊎◌}
use Rattle.std.specs.Prelude.{◌==◌, ◌||◌, nat_lt, if◌then◌else◌, is_some, Result, Ok, Err, unwrap_or}
use Rattle.std.specs.List.{slice_get}
use Rattle.std.specs.Option.{option_or}
use Rattle.std.proofs.lemmas.Bool.{ne_eqb}
use Rattle.wl_proto.specs.declared.interface.Interface.{Interface}
use Rattle.wl_proto.specs.declared.interface.Interface.TheVariants as interface
use Rattle.wl_proto.specs.declared.refuse.Refuse.{Refuse}
use Rattle.wl_proto.specs.Grammar.{Value, word, signed, text, token}
use Rattle.wl_proto.specs.Reading.{request_reading}
use Rattle.wl_proto.specs.Rows.{Message}
use Rattle.relay_model.specs.declared.act.Act.{Act}
use Rattle.relay_model.specs.declared.act.Act.TheVariants as acts
use Rattle.relay_model.specs.declared.fault.Fault.{Fault}
use Rattle.relay_model.specs.declared.fault.Fault.TheVariants as fault
use Rattle.relay_model.specs.declared.role.Role.{Role}
use Rattle.relay_model.specs.Objects.{Kind, PopupKind, GrabKind, owner, made_for, made, maker, object, alive, peer_of}
use Rattle.relay_model.specs.Idle.{is_live, cleaned}
use Rattle.relay_model.proofs.ObjectLaws.{object_new}
use Rattle.broker_model.specs.declared.journal.Entry.{Entry}
use Rattle.broker_model.specs.declared.journal.Entry.TheVariants as entries
use Rattle.broker_model.specs.Ids.{Made, Joined, Past, log_of, peer_at, named, object_at, made_as}
use Rattle.broker_model.specs.Requests.{Argument, arguments_of, new_of, act_of, rows, surround, cause, content, cursor, string, preedit, delete, commit, keymap, key, modifiers, popup, bind}
use Rattle.broker_model.specs.Refusals.{is_bad_id, fault_if, argument_fault, new_fault, request_fault}
use Rattle.broker_model.specs.Resolve.{Meaning, label_at, made_new, of_request, of_reading, of_message, of_peer, means, past_of}
use Rattle.broker_model.proofs.LivePeersJoined.{length_log}
use Rattle.broker_model.proofs.LabelsRiseByNumber.{label_within}
use Rattle.broker_model.proofs.IdsAreNames.{IsIn, IsFound, found}

-- an act of the peer p's object x makes what is of the peer, or of x's own
abbrev IsFor : (p x : ℕ) → Act → Type 0
IsFor p x acts.Peer = ⊥
IsFor p x (acts.Surface q) = q ≡ p
IsFor p x (acts.Field q) = q ≡ p
IsFor p x (acts.Method q) = q ≡ p
IsFor p x (acts.Registry q role) = q ≡ p
IsFor p x (acts.Seat q) = q ≡ p
IsFor p x (acts.Thing q) = q ≡ p
IsFor p x (acts.VBoard q) = q ≡ p
IsFor p x (acts.Popup m s) = m ≡ x
IsFor p x (acts.Grab m) = m ≡ x
IsFor p x _ = Unit {0}

for_surround : (p x : ℕ) (vs : List Value) → IsFor p x (surround x vs)
for_surround p x (text t ∷ signed a ∷ signed b ∷ []) = tt
for_surround p x _ = tt

for_cause : (p x : ℕ) (vs : List Value) → IsFor p x (cause x vs)
for_cause p x (word n ∷ []) = tt
for_cause p x _ = tt

for_content : (p x : ℕ) (vs : List Value) → IsFor p x (content x vs)
for_content p x (word a ∷ word b ∷ []) = tt
for_content p x _ = tt

for_cursor : (p x : ℕ) (vs : List Value) → IsFor p x (cursor x vs)
for_cursor p x (signed a ∷ signed b ∷ signed c ∷ signed d ∷ []) = tt
for_cursor p x _ = tt

for_string : (p x : ℕ) (vs : List Value) → IsFor p x (string x vs)
for_string p x (text t ∷ []) = tt
for_string p x _ = tt

for_preedit : (p x : ℕ) (vs : List Value) → IsFor p x (preedit x vs)
for_preedit p x (text t ∷ signed a ∷ signed b ∷ []) = tt
for_preedit p x _ = tt

for_delete : (p x : ℕ) (vs : List Value) → IsFor p x (delete x vs)
for_delete p x (word a ∷ word b ∷ []) = tt
for_delete p x _ = tt

for_commit : (p x : ℕ) (vs : List Value) → IsFor p x (commit x vs)
for_commit p x (word n ∷ []) = tt
for_commit p x _ = tt

for_keymap : (p x : ℕ) (vs : List Value) → IsFor p x (keymap x vs)
for_keymap p x (word a ∷ token t ∷ word b ∷ []) = tt
for_keymap p x _ = tt

for_key : (p x : ℕ) (vs : List Value) → IsFor p x (key x vs)
for_key p x (word a ∷ word b ∷ word c ∷ []) = tt
for_key p x _ = tt

for_modifiers : (p x : ℕ) (vs : List Value) → IsFor p x (modifiers x vs)
for_modifiers p x (word a ∷ word b ∷ word c ∷ word d ∷ []) = tt
for_modifiers p x _ = tt

for_popup : (p : ℕ) (at : ℕ → ℕ) (x : ℕ) (vs : List Value) → IsFor p x (popup at x vs)
for_popup p at x (word a ∷ word b ∷ []) = refl
for_popup p at x _ = tt

for_if : (p x : ℕ) (b : Bool) → IsFor p x (if b then acts.Seat p else acts.Thing p)
for_if p x true = refl
for_if p x false = refl

for_bind : (p x : ℕ) (vs : List Value) → IsFor p x (bind p vs)
for_bind p x (word n ∷ vs) = for_if p x (n == 2)
for_bind p x _ = tt

abbrev AreFor : (p x : ℕ) → List Act → Type 0
AreFor p x [] = Unit {0}
AreFor p x (act ∷ rest) = IsFor p x act × AreFor p x rest

for_rows : (p x : ℕ) (role : Role) (at : ℕ → ℕ) (i : Interface) (vs : List Value) → AreFor p x (rows p x role at i vs)
for_rows p x role at interface.Display vs = (tt, (refl, tt))
for_rows p x role at interface.Registry vs = (for_bind p x vs, tt)
for_rows p x role at interface.Compositor vs = (refl, tt)
for_rows p x role at interface.Surface vs = (tt, tt)
for_rows p x role at interface.TextInputManager vs = (tt, (refl, tt))
for_rows p x role at interface.TextInput vs =
    (tt, (tt, (tt, (for_surround p x vs, (for_cause p x vs, (for_content p x vs, (for_cursor p x vs, (tt, tt))))))))
for_rows p x role at interface.InputMethodManager vs = (refl, (tt, tt))
for_rows p x role at interface.InputMethod vs = (
  for_string p x vs,
  (for_preedit p x vs, (for_delete p x vs, (for_commit p x vs, (for_popup p at x vs, (refl, (tt, tt)))))),
)
for_rows p x role at interface.InputPopupSurface vs = (tt, tt)
for_rows p x role at interface.KeyboardGrab vs = (tt, tt)
for_rows p x role at interface.VirtualKeyboardManager vs = (refl, tt)
for_rows p x role at interface.VirtualKeyboard vs =
    (for_keymap p x vs, (for_key p x vs, (for_modifiers p x vs, (tt, tt))))
for_rows p x role at _ vs = tt

for_row : (p x : ℕ) (xs : List Act) (n : ℕ) → AreFor p x xs → IsFor p x (unwrap_or (slice_get xs n) acts.Idle)
for_row p x [] n a = tt
for_row p x (act ∷ xs) zero a = a.0
for_row p x (act ∷ xs) (suc n) a = for_row p x xs n a.1

for_cleaned : (p x : ℕ) (b : Bool) (act : Act) → IsFor p x act → IsFor p x (if b then act else acts.Idle)
for_cleaned p x true act h = h
for_cleaned p x false act h = tt

-- what such an act makes is of the peer
owner_for : (p : ℕ) (kind : Kind) (whose : Option ℕ) → whose ≡ Some p → owner (made_for kind whose) ≡ Some p
owner_for p kind whose e = rw e refl

made_own : (log : List Act) (p x n : ℕ) (act : Act) → IsFor p x act → peer_of log x ≡ Some p →
    is_some (made act n (owner (object log (maker act)))) ≡ true →
    owner (made act n (owner (object log (maker act)))) ≡ Some p
made_own log p x n acts.Peer f o l = absurd f
made_own log p x n (acts.Surface q) f o l = ap Some f
made_own log p x n (acts.Field q) f o l = ap Some f
made_own log p x n (acts.Method q) f o l = ap Some f
made_own log p x n (acts.Registry q role) f o l = ap Some f
made_own log p x n (acts.Seat q) f o l = ap Some f
made_own log p x n (acts.Thing q) f o l = ap Some f
made_own log p x n (acts.VBoard q) f o l = ap Some f
made_own log p x n (acts.Popup m s) f o l =
    owner_for p (PopupKind m s) (owner (object log m)) (ap (λ (y : ℕ). owner (object log y)) f ∙ o)
made_own log p x n (acts.Grab m) f o l =
    owner_for p (GrabKind m) (owner (object log m)) (ap (λ (y : ℕ). owner (object log y)) f ∙ o)
made_own log p x n _ f o l = cc

new_own : (log : List Act) (p x : ℕ) (act : Act) → IsFor p x act → peer_of log x ≡ Some p →
    alive (act ∷ log) (length log + 1) ≡ true → peer_of (act ∷ log) (length log + 1) ≡ Some p
new_own log p x act f o l =
    let s : object (act ∷ log) (length log + 1) ≡ made act (length log + 1) (owner (object log (maker act))) =
    object_new act log in
    ap owner s ∙ made_own log p x (length log + 1) act f o (sym (ap is_some s) ∙ l)

-- what an entry makes: nothing, or one object with the entry's number as its label, under an id under which its peer
-- has nothing live, and that peer's own
pub record IsOne (log : List Act) (made : List Made) (n : ℕ) (act : Act) (new : List Made) : Type 0 where
  pub one : Made
  pub is : new ≡ one ∷ []
  pub label : one.label ≡ n
  pub peer : one.peer ≤ n
  pub free : named log made one.peer one.id ≡ None
  pub own : alive (cleaned act log ∷ log) (length log + 1) ≡ true →
      peer_of (cleaned act log ∷ log) (length log + 1) ≡ Some one.peer

abbrev pub AtMostOne : List Act → List Made → ℕ → Meaning → Type 0
AtMostOne log made n meaning = (meaning.made ≡ []) ⊎ IsOne log made n meaning.act meaning.made

no_some : {A : Type 0} (o : Option A) → is_some o ≡ false → o ≡ None
no_some None h = refl
no_some (Some x) h = cc

third : (a b c : Bool) → (a || b || c) ≡ false → c ≡ false
third false false c h = h
third true b c h = cc
third false true c h = cc

-- a request that isn't refused has an id that is free
abbrev IsFree : Past → ℕ → Option Argument → Type 0
IsFree past p None = Unit {0}
IsFree past p (Some new) = object_at past p new.id ≡ None

pub or_none : {A : Type 0} (a b : Option A) → option_or a b ≡ None → (a ≡ None) × (b ≡ None)
or_none None b h = (refl, h)
or_none (Some x) b h = cc

free_by : (b : Bool) (f g : Option Fault) → option_or (fault_if b fault.NewId) f ≡ None → b ≡ false
free_by true f g h = cc
free_by false f g h = refl

free_new : (past : Past) (p : ℕ) (o : Option Argument) → new_fault past p o ≡ None → IsFree past p o
free_new past p None h = tt
free_new past p (Some new) h =
    no_some (object_at past p new.id)
    (third (new.id == 0) (nat_lt 4278190079 new.id) (is_some (object_at past p new.id))
    (free_by (is_bad_id past p new.id) _ None h))

free_request : (past : Past) (p x : ℕ) (role : Role) (at : ℕ → ℕ) (m : Message) →
    request_fault past p x role at m ≡ None →
    IsFree past p (new_of m.interface m.opcode m.values)
free_request past p x role at m h =
    free_new past p (new_of m.interface m.opcode m.values)
    (or_none (new_fault past p (new_of m.interface m.opcode m.values)) _
    (or_none (argument_fault past p (arguments_of m.interface m.opcode m.values)) _ h).1).0

one_new : (past : Past) (n p x : ℕ) (act : Act) (o : Option Argument) → IsFree past p o → p ≤ n → IsFor p x act →
    peer_of (log_of past) x ≡ Some p →
    AtMostOne (log_of past) past.made n (record { act = act; made = made_new p n o })
one_new past n p x act None f w g k = inl refl
one_new past n p x act (Some new) f w g k =
    inr
    (record {
      one = record { peer = p; id = new.id; label = n; interface = new.interface };
      is = refl;
      label = refl;
      peer = w;
      free = f;
      own = new_own (log_of past) p x (cleaned act (log_of past)) (for_cleaned p x (is_live act (log_of past)) act g) k;
    })

one_request : (past : Past) (n : ℕ) (peer : Joined) (x : ℕ) (m : Message) (o : Option Fault) →
    request_fault past peer.label x peer.role (label_at past peer.label) m ≡ o → peer.label ≤ n →
    peer_of (log_of past) x ≡ Some peer.label →
    AtMostOne (log_of past) past.made n (of_request past n peer x m o)
one_request past n peer x m (Some f) e w k = inl refl
one_request past n peer x m None e w k =
    one_new past n peer.label x (act_of peer.label x peer.role (label_at past peer.label) m.interface m.opcode m.values)
    (new_of m.interface m.opcode m.values) (free_request past peer.label x peer.role (label_at past peer.label) m e) w
    (for_row peer.label x (rows peer.label x peer.role (label_at past peer.label) m.interface m.values) m.opcode
    (for_rows peer.label x peer.role (label_at past peer.label) m.interface m.values)) k

one_reading : (past : Past) (n : ℕ) (peer : Joined) (x : ℕ) (r : Result Message Refuse) → peer.label ≤ n →
    peer_of (log_of past) x ≡ Some peer.label →
    AtMostOne (log_of past) past.made n (of_reading past n peer x r)
one_reading past n peer x (Err r) w k = inl refl
one_reading past n peer x (Ok m) w k =
    one_request past n peer x m (request_fault past peer.label x peer.role (label_at past peer.label) m) refl w k

-- what stands of each object that was made, after a journal of a length
pub record IsSound (log : List Act) (made : List Made) (bound : ℕ) (m : Made) : Type 0 where
  pub within : m.label ≤ bound
  pub joined : m.peer ≤ bound
  pub known : made_as made m.label ≡ Some m
  pub own : alive log m.label ≡ true → peer_of log m.label ≡ Some m.peer
  pub names : alive log m.label ≡ true → named log made m.peer m.id ≡ Some m

abbrev pub AreSound : List Act → List Made → ℕ → Type 0
AreSound log made bound = (m : Made) → IsIn made m → IsSound log made bound m

one_message : (past : Past) (n bound : ℕ) (peer : Joined) (opcode : ℕ) (body : List ℕ) (id : ℕ) (o : Option Made) →
    AreSound (log_of past) past.made bound →
    object_at past peer.label id ≡ o → peer.label ≤ n →
    AtMostOne (log_of past) past.made n (of_message past n peer opcode body o)
one_message past n bound peer opcode body id None s e w = inl refl
one_message past n bound peer opcode body id (Some x) s e w =
    let f : IsFound (log_of past) past.made peer.label id x = found (log_of past) past.made peer.label id x e in
    one_reading past n peer x.label (request_reading x.interface opcode (past.waiting peer.label) body) w
    ((s x f.among).own f.lives ∙ ap Some f.peer)

one_peer : (log : List Act) (made : List Made) (n : ℕ) (o : Option Joined) (f : Joined → Meaning) →
    ((peer : Joined) → o ≡ Some peer → AtMostOne log made n (f peer)) → AtMostOne log made n (of_peer o f)
one_peer log made n None f h = inl refl
one_peer log made n (Some peer) f h = h peer refl

-- nothing was made by a peer that is yet to join
pub nothing_yet : (log : List Act) (made : List Made) (p id : ℕ) → ((m : Made) → IsIn made m → m.peer ≡ p → ⊥) →
    named log made p id ≡ None
nothing_yet log [] p id h = refl
nothing_yet log (x ∷ made) p id h =
    rw (ne_eqb x.peer p (h x (inl refl)), nothing_yet log made p id (λ m i. h m (inr i))) refl

one_join : (older : List Entry) (role : Role) → AreSound (log_of (past_of older)) (past_of older).made (length older) →
    AtMostOne (log_of (past_of older)) (past_of older).made (length older + 1)
    (means (entries.Join role) (length older + 1) (past_of older))
one_join older role s =
    inr
    (record {
      one = record { peer = length older + 1; id = 1; label = length older + 1; interface = interface.Display };
      is = refl;
      label = refl;
      peer = omega arith;
      free = nothing_yet (log_of (past_of older)) (past_of older).made (length older + 1) 1
          (λ m i e. (let w : m.peer ≤ length older = (s m i).joined in omega arith));
      own = λ l. ap owner (object_new acts.Peer (log_of (past_of older))) ∙ ap (λ n. Some (n + 1)) (length_log older);
    })

pub one_entry : (e : Entry) (older : List Entry) →
    AreSound (log_of (past_of older)) (past_of older).made (length older) →
    AtMostOne (log_of (past_of older)) (past_of older).made (length older + 1)
    (means e (length older + 1) (past_of older))
one_entry (entries.Join role) older s = one_join older role s
one_entry (entries.Message q id opcode body) older s =
    one_peer (log_of (past_of older)) (past_of older).made (length older + 1) (peer_at (past_of older) q)
    (λ peer. of_message (past_of older) (length older + 1) peer opcode body (object_at (past_of older) peer.label id))
    (λ peer e. one_message (past_of older) (length older + 1) (length older) peer opcode body id
    (object_at (past_of older) peer.label id) s refl
    (let w : peer.label ≤ length older = label_within older q peer e in omega arith))
one_entry (entries.Tokens q tokens) older s = inl refl
one_entry (entries.BadSize q head) older s =
    one_peer _ _ (length older + 1) (peer_at (past_of older) q) _ (λ peer e. inl refl)
one_entry (entries.End q why) older s =
    one_peer _ _ (length older + 1) (peer_at (past_of older) q) _ (λ peer e. inl refl)
one_entry (entries.Shell step) older s = inl refl
one_entry (entries.Took q bytes) older s =
    one_peer _ _ (length older + 1) (peer_at (past_of older) q) _ (λ peer e. inl refl)
