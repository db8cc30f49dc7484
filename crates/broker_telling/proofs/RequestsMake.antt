-- What an entry makes lives after it, but a callback, whose sync frees its id.
use Rattle.std.proofs.Common.{◌≡◌, ℕ, zero, suc, ◌+◌, List, [], ◌∷◌, ◌++◌, length, Bool, true, false, Option, Some, None, Result, Ok, Err, refl, sym, ap, subst, ◌∙◌, arith, inl, inr, ◌⊎◌}
use Rattle.std.specs.Prelude.{◌==◌, ◌&&◌, if◌then◌else◌}
use Rattle.std.specs.List.{list_any}
use Rattle.std.proofs.lemmas.Bool.{eq-eqb, eqb-true, true≢false}
use Rattle.std.proofs.lemmas.Option.{same_Some}
use Rattle.wl_wire.specs.Reading.{◌>>=◌, word_at}
use Rattle.wl_proto.specs.declared.interface.Interface.{Interface}
use Rattle.wl_proto.specs.declared.interface.Interface.TheVariants as interface
use Rattle.wl_proto.specs.declared.table.Kind.{Kind}
use Rattle.wl_proto.specs.declared.table.Kind.TheVariants.{NewId}
use Rattle.wl_proto.specs.declared.refuse.Refuse.{Refuse}
use Rattle.wl_proto.specs.Grammar.{Value, word, signed, text, token}
use Rattle.wl_proto.specs.Rows.{Message, message, request_kinds}
use Rattle.wl_proto.specs.Reading.{values_at, all_read, by_row, request_reading}
use Rattle.relay_model.specs.declared.act.Act.{Act}
use Rattle.relay_model.specs.declared.act.Act.TheVariants as acts
use Rattle.relay_model.specs.declared.fault.Fault.{Fault}
use Rattle.relay_model.specs.declared.role.Role.{Role}
use Rattle.relay_model.specs.Objects.{alive, is_peer}
use Rattle.relay_model.specs.Idle.{is_live}
use Rattle.relay_model.proofs.ActsOrIdle.{history_is}
use Rattle.broker_steps.specs.declared.step.ShellStep.{ShellStep}
use Rattle.broker_steps.specs.declared.step.ShellStep.TheVariants as shell
use Rattle.broker_audience.specs.Calls.{Call}
use Rattle.broker_audience.specs.Calls.Call.{Make}
use Rattle.broker_model.specs.declared.journal.Entry.{Entry}
use Rattle.broker_model.specs.declared.journal.Entry.TheVariants as entries
use Rattle.broker_model.specs.Ids.{Made, Joined, Past, log_of, peer_at, object_at}
use Rattle.broker_model.specs.Out.{act_at, act_now}
use Rattle.broker_model.specs.Refusals.{request_fault}
use Rattle.broker_model.specs.Requests.{Argument, argument, new_of, act_of, rows, surround, cause, content, cursor, string, preedit, delete, commit, keymap, key, modifiers, popup, bind}
use Rattle.broker_model.specs.Resolve.{Meaning, label_at, made_new, of_request, of_reading, of_message, of_peer, surface_at, on_surface, shell_act, means, past_of, resolve}
use Rattle.broker_model.specs.Tables.{make_calls, drop_calls, calls_for}
use Rattle.broker_model.proofs.EachElement.{either_way}
use Rattle.broker_model.proofs.IdsAreNames.{IsFound, found}
use Rattle.broker_model.proofs.LivePeersJoined.{plain_row}
use Rattle.broker_model.proofs.MadeObjectsStand.{sound}
use Rattle.broker_model.proofs.OwnersLive.{owner_lives}
use Rattle.broker_audience.specs.Meaning as declared
use Rattle.broker_audience.specs.Changes.{own_calls}
use Rattle.broker_core.proofs.MessageCalls.{calls_own}
use Rattle.broker_core.proofs.OwnObjectDropped.{DropsOnly, drops_only}
use Rattle.broker_telling.proofs.DeletesLast.{is_freeing}

-- ---- a sync is the first request of a display

abbrev is_sync : Act → Bool
is_sync (acts.Sync p) = true
is_sync _ = false

abbrev IsNoSync : Act → Type 0
IsNoSync act = is_sync act ≡ false

no_surround : (x : ℕ) (vs : List Value) → IsNoSync (surround x vs)
no_surround x (text t ∷ signed a ∷ signed b ∷ []) = refl
no_surround x _ = refl

no_cause : (x : ℕ) (vs : List Value) → IsNoSync (cause x vs)
no_cause x (word n ∷ []) = refl
no_cause x _ = refl

no_content : (x : ℕ) (vs : List Value) → IsNoSync (content x vs)
no_content x (word a ∷ word b ∷ []) = refl
no_content x _ = refl

no_cursor : (x : ℕ) (vs : List Value) → IsNoSync (cursor x vs)
no_cursor x (signed a ∷ signed b ∷ signed c ∷ signed d ∷ []) = refl
no_cursor x _ = refl

no_string : (x : ℕ) (vs : List Value) → IsNoSync (string x vs)
no_string x (text t ∷ []) = refl
no_string x _ = refl

no_preedit : (x : ℕ) (vs : List Value) → IsNoSync (preedit x vs)
no_preedit x (text t ∷ signed a ∷ signed b ∷ []) = refl
no_preedit x _ = refl

no_delete : (x : ℕ) (vs : List Value) → IsNoSync (delete x vs)
no_delete x (word a ∷ word b ∷ []) = refl
no_delete x _ = refl

no_commit : (x : ℕ) (vs : List Value) → IsNoSync (commit x vs)
no_commit x (word n ∷ []) = refl
no_commit x _ = refl

no_keymap : (x : ℕ) (vs : List Value) → IsNoSync (keymap x vs)
no_keymap x (word a ∷ token t ∷ word b ∷ []) = refl
no_keymap x _ = refl

no_key : (x : ℕ) (vs : List Value) → IsNoSync (key x vs)
no_key x (word a ∷ word b ∷ word c ∷ []) = refl
no_key x _ = refl

no_modifiers : (x : ℕ) (vs : List Value) → IsNoSync (modifiers x vs)
no_modifiers x (word a ∷ word b ∷ word c ∷ word d ∷ []) = refl
no_modifiers x _ = refl

no_popup : (at : ℕ → ℕ) (x : ℕ) (vs : List Value) → IsNoSync (popup at x vs)
no_popup at x (word a ∷ word b ∷ []) = refl
no_popup at x _ = refl

no_bind : (p : ℕ) (vs : List Value) → IsNoSync (bind p vs)
no_bind p (word n ∷ vs) = either_way IsNoSync (n == 2) (acts.Seat p) (acts.Thing p) refl refl
no_bind p _ = refl

abbrev shows : Interface → Bool
shows interface.Display = true
shows _ = false

sync_rows : (p x : ℕ) (role : Role) (at : ℕ → ℕ) (i : Interface) (vs : List Value) →
    list_any is_sync (rows p x role at i vs) ≡ shows i
sync_rows p x role at interface.Registry vs = rw (no_bind p vs) refl
sync_rows p x role at interface.TextInput vs =
    rw (no_surround x vs, no_cause x vs, no_content x vs, no_cursor x vs) refl
sync_rows p x role at interface.InputMethod vs =
    rw (no_string x vs, no_preedit x vs, no_delete x vs, no_commit x vs, no_popup at x vs) refl
sync_rows p x role at interface.VirtualKeyboard vs = rw (no_keymap x vs, no_key x vs, no_modifiers x vs) refl
sync_rows p x role at _ vs = refl

-- ---- what is read has the values of its row

record IsOfRow (i : Interface) (opcode : ℕ) (tokens body : List ℕ) (m : Message) : Type 0 where
  kinds : List Kind
  row : request_kinds i opcode ≡ Some kinds
  values : List Value
  read : values_at tokens kinds body ≡ Some values
  is : m ≡ message i opcode values

of_row : (i : Interface) (opcode : ℕ) (tokens body : List ℕ) (m : Message) →
    request_reading i opcode tokens body ≡ Ok m → IsOfRow i opcode tokens body m
unfolding request_reading
of_row i opcode tokens body m e = by (request_kinds i opcode) refl e
  where
    values : (ks : List Kind) (o : Option (List Value)) → request_kinds i opcode ≡ Some ks →
        values_at tokens ks body ≡ o → all_read i opcode o ≡ Ok m → IsOfRow i opcode tokens body m
    values ks None k r h = cc
    values ks (Some vs) k r h =
        let same : message i opcode vs ≡ m = cc in
        record { kinds = ks; row = k; values = vs; read = r; is = sym same }

    by : (o : Option (List Kind)) → request_kinds i opcode ≡ o → by_row i opcode tokens body o ≡ Ok m →
        IsOfRow i opcode tokens body m
    by None k h = cc
    by (Some ks) k h = values ks (values_at tokens ks body) k refl h

none_read : (tokens body : List ℕ) (ks : List Kind) (vs : List Value) → (let o : Option (List Kind) = Some [] in
    o ≡ Some ks) → values_at tokens ks body ≡ Some vs → vs ≡ []
none_read tokens body ks vs k r =
    by (length body == 0) (ap (λ (l : List Kind). values_at tokens l body) (same_Some [] ks k) ∙ r)
  where
    by : (b : Bool) → (let o : Option (List Value) = if b then Some [] else None in o ≡ Some vs) → vs ≡ []
    by true h = sym (same_Some [] vs h)
    by false h = cc

-- ---- a drop makes nothing

bind_drops : (p y : ℕ) (vs : List Value) → bind p vs ≡ acts.Drop y → ⊥
bind_drops p y (word n ∷ vs) e = by (n == 2) e
  where
    by : (b : Bool) → (if b then acts.Seat p else acts.Thing p) ≡ acts.Drop y → ⊥
    by true h = cc
    by false h = cc
bind_drops p y _ e = cc

popup_drops : (at : ℕ → ℕ) (x y : ℕ) (vs : List Value) → popup at x vs ≡ acts.Drop y → ⊥
popup_drops at x y (word a ∷ word b ∷ []) e = cc
popup_drops at x y _ e = cc

method_new : (opcode : ℕ) (vs : List Value) → (opcode == 4) ≡ false → (opcode == 5) ≡ false →
    new_of interface.InputMethod opcode vs ≡ None
method_new opcode (word made ∷ word surface ∷ []) a b = rw a refl
method_new opcode (word made ∷ []) a b = rw b refl
method_new opcode _ a b = refl

method_drops : (p x : ℕ) (role : Role) (at : ℕ → ℕ) (opcode y : ℕ) (vs : List Value) →
    act_of p x role at interface.InputMethod opcode vs ≡ acts.Drop y → new_of interface.InputMethod opcode vs ≡ None
method_drops p x role at opcode y vs e = by (opcode == 4) (opcode == 5) refl refl
  where
    by : (a b : Bool) → (opcode == 4) ≡ a → (opcode == 5) ≡ b → new_of interface.InputMethod opcode vs ≡ None
    by true b h k =
        absurd (popup_drops at x y vs
        (ap (λ n. act_of p x role at interface.InputMethod n vs) (sym (eqb-true opcode 4 h)) ∙ e))
    by false true h k =
        (let no : acts.Grab x ≡ acts.Drop y =
        ap (λ n. act_of p x role at interface.InputMethod n vs) (sym (eqb-true opcode 5 k)) ∙ e in cc)
    by false false h k = method_new opcode vs h k

drop_new : (p x : ℕ) (role : Role) (at : ℕ → ℕ) (i : Interface) (opcode y : ℕ) (tokens body : List ℕ)
    (ks : List Kind) (vs : List Value) → request_kinds i opcode ≡ Some ks → values_at tokens ks body ≡ Some vs →
    act_of p x role at i opcode vs ≡ acts.Drop y → new_of i opcode vs ≡ None
drop_new p x role at interface.Display zero y tokens body ks vs k r e = cc
drop_new p x role at interface.Display (suc zero) y tokens body ks vs k r e = cc
drop_new p x role at interface.Display (suc (suc n)) y tokens body ks vs k r e = cc
drop_new p x role at interface.Registry zero y tokens body ks vs k r e = absurd (bind_drops p y vs e)
drop_new p x role at interface.Registry (suc n) y tokens body ks vs k r e = cc
drop_new p x role at interface.Compositor zero y tokens body ks vs k r e = cc
drop_new p x role at interface.Compositor (suc n) y tokens body ks vs k r e = cc
drop_new p x role at interface.Seat opcode y tokens body ks vs k r e = cc
drop_new p x role at interface.TextInputManager zero y tokens body ks vs k r e =
    ap (new_of interface.TextInputManager 0) (none_read tokens body ks vs k r)
drop_new p x role at interface.TextInputManager (suc zero) y tokens body ks vs k r e = cc
drop_new p x role at interface.TextInputManager (suc (suc n)) y tokens body ks vs k r e = cc
drop_new p x role at interface.InputMethodManager zero y tokens body ks vs k r e = cc
drop_new p x role at interface.InputMethodManager (suc zero) y tokens body ks vs k r e =
    ap (new_of interface.InputMethodManager 1) (none_read tokens body ks vs k r)
drop_new p x role at interface.InputMethodManager (suc (suc n)) y tokens body ks vs k r e = cc
drop_new p x role at interface.InputMethod opcode y tokens body ks vs k r e =
    method_drops p x role at opcode y vs e
drop_new p x role at interface.VirtualKeyboardManager zero y tokens body ks vs k r e = cc
drop_new p x role at interface.VirtualKeyboardManager (suc n) y tokens body ks vs k r e = cc
drop_new p x role at _ opcode y tokens body ks vs k r e = refl

-- ---- a sync makes its callback

sync_value : (tokens body : List ℕ) (ks : List Kind) (vs : List Value) → (let o : Option (List Kind) = Some (NewId ∷ [])
    in o ≡ Some ks) → values_at tokens ks body ≡ Some vs → (n : ℕ) × (vs ≡ word n ∷ [])
sync_value tokens body ks vs k r =
    by (word_at body) (ap (λ (l : List Kind). values_at tokens l body) (same_Some (NewId ∷ []) ks k) ∙ r)
  where
    last : (b : Bool) (n : ℕ) → ((if b then Some [] else None) >>= (λ (l : List Value). Some (word n ∷ l))) ≡ Some vs →
        (n : ℕ) × (vs ≡ word n ∷ [])
    last true n h = (n, sym (same_Some (word n ∷ []) vs h))
    last false n h = cc

    by : (o : Option (ℕ × List ℕ)) →
        ((o >>= (λ (w : ℕ × List ℕ). Some (word w.0, w.1)))
        >>= (λ (v : Value × List ℕ). (if length v.1 == 0 then Some [] else None)
        >>= (λ (l : List Value). Some (v.0 ∷ l)))) ≡ Some vs → (n : ℕ) × (vs ≡ word n ∷ [])
    by None h = cc
    by (Some w) h = last (length w.1 == 0) w.0 h

sync_new : (p x : ℕ) (role : Role) (at : ℕ → ℕ) (i : Interface) (opcode q : ℕ) (tokens body : List ℕ)
    (ks : List Kind) (vs : List Value) → request_kinds i opcode ≡ Some ks → values_at tokens ks body ≡ Some vs →
    act_of p x role at i opcode vs ≡ acts.Sync q → (a : Argument) × (new_of i opcode vs ≡ Some a) × (q ≡ p)
sync_new p x role at interface.Display zero q tokens body ks vs k r e =
    let v = sync_value tokens body ks vs k r in
    let same : p ≡ q = cc in
    (argument interface.Callback v.0, ap (new_of interface.Display 0) v.1, sym same)
sync_new p x role at interface.Display (suc zero) q tokens body ks vs k r e = cc
sync_new p x role at interface.Display (suc (suc n)) q tokens body ks vs k r e = cc
sync_new p x role at i opcode q tokens body ks vs k r e =
    absurd (true≢false (ap is_sync (sym e)
    ∙ plain_row is_sync (rows p x role at i vs) opcode refl (sync_rows p x role at i vs)))

-- ---- what an entry is

-- it makes nothing, and is neither a drop nor a sync
abbrev pub IsPlain : Meaning → Type 0
IsPlain meaning = (meaning.made ≡ []) × (is_freeing meaning.act ≡ false)

-- it is a request that was read and isn't refused
pub record IsAsked (older : List Entry) (q id : ℕ) (body : List ℕ) (opcode : ℕ) (meaning : Meaning) : Type 0 where
  pub peer : Joined
  pub joined : peer_at (past_of older) q ≡ Some peer
  pub x : Made
  pub named : object_at (past_of older) peer.label id ≡ Some x
  pub m : Message
  pub reads : request_reading x.interface opcode ((past_of older).waiting peer.label) body ≡ Ok m
  pub is : meaning
      ≡ record {
        act = act_of peer.label x.label peer.role (label_at (past_of older) peer.label) m.interface m.opcode m.values;
        made = made_new peer.label (length older + 1) (new_of m.interface m.opcode m.values);
      }

pub data EntryKind (e : Entry) (older : List Entry) : Type 0 where
  Plain : IsPlain (means e (length older + 1) (past_of older)) → EntryKind e older
  Joins : (role : Role) → e ≡ entries.Join role → EntryKind e older
  Asks : (q id opcode : ℕ) (body : List ℕ) → e ≡ entries.Message q id opcode body →
      IsAsked older q id body opcode (means e (length older + 1) (past_of older)) → EntryKind e older

plain_peer : (o : Option Joined) (f : Joined → Meaning) → ((peer : Joined) → IsPlain (f peer)) → IsPlain (of_peer o f)
plain_peer None f h = (refl, refl)
plain_peer (Some peer) f h = h peer

plain_surface : (o : Option ℕ) (f : ℕ → Act) → ((s : ℕ) → is_freeing (f s) ≡ false) →
    is_freeing (on_surface o f) ≡ false
plain_surface None f h = refl
plain_surface (Some s) f h = h s

plain_shell : (past : Past) (step : ShellStep) → is_freeing (shell_act past step) ≡ false
plain_shell past (shell.Focus q id) = plain_surface (surface_at past (peer_at past q) id) _ (λ s. refl)
plain_shell past (shell.Area q id rect) = plain_surface (surface_at past (peer_at past q) id) _ (λ s. refl)
plain_shell past _ = refl

module _ (older : List Entry) (q id opcode : ℕ) (body : List ℕ) where
  abbrev Either : Meaning → Type 0
  Either meaning = IsPlain meaning ⊎ IsAsked older q id body opcode meaning

  request_kind : (peer : Joined) (x : Made) (m : Message) (o : Option Fault) →
      peer_at (past_of older) q ≡ Some peer → object_at (past_of older) peer.label id ≡ Some x →
      request_reading x.interface opcode ((past_of older).waiting peer.label) body ≡ Ok m →
      Either (of_request (past_of older) (length older + 1) peer x.label m o)
  request_kind peer x m (Some f) j k r = inl (refl, refl)
  request_kind peer x m None j k r =
      inr (record { peer = peer; joined = j; x = x; named = k; m = m; reads = r; is = refl })

  reading_kind : (peer : Joined) (x : Made) (r : Result Message Refuse) → peer_at (past_of older) q ≡ Some peer →
      object_at (past_of older) peer.label id ≡ Some x →
      request_reading x.interface opcode ((past_of older).waiting peer.label) body ≡ r →
      Either (of_reading (past_of older) (length older + 1) peer x.label r)
  reading_kind peer x (Err r) j k h = inl (refl, refl)
  reading_kind peer x (Ok m) j k h =
      request_kind peer x m
      (request_fault (past_of older) peer.label x.label peer.role (label_at (past_of older) peer.label) m) j k h

  object_kind : (peer : Joined) (o : Option Made) → peer_at (past_of older) q ≡ Some peer →
      object_at (past_of older) peer.label id ≡ o →
      Either (of_message (past_of older) (length older + 1) peer opcode body o)
  object_kind peer None j k = inl (refl, refl)
  object_kind peer (Some x) j k =
      reading_kind peer x (request_reading x.interface opcode ((past_of older).waiting peer.label) body) j k refl

  message_kind : (o : Option Joined) → peer_at (past_of older) q ≡ o →
      Either (of_peer o (λ peer. of_message (past_of older) (length older + 1) peer opcode body
      (object_at (past_of older) peer.label id)))
  message_kind None j = inl (refl, refl)
  message_kind (Some peer) j = object_kind peer (object_at (past_of older) peer.label id) j refl

pub kind_of : (e : Entry) (older : List Entry) → EntryKind e older
kind_of (entries.Join role) older = Joins role refl
kind_of (entries.Message q id opcode body) older =
    by (message_kind older q id opcode body (peer_at (past_of older) q) refl)
  where
    by : IsPlain (means (entries.Message q id opcode body) (length older + 1) (past_of older))
        ⊎ IsAsked older q id body opcode (means (entries.Message q id opcode body) (length older + 1) (past_of older)) →
        EntryKind (entries.Message q id opcode body) older
    by (inl h) = Plain h
    by (inr h) = Asks q id opcode body refl h
kind_of (entries.Tokens q tokens) older = Plain (refl, refl)
kind_of (entries.BadSize q head) older = Plain (plain_peer (peer_at (past_of older) q) _ (λ peer. (refl, refl)))
kind_of (entries.End q why) older = Plain (plain_peer (peer_at (past_of older) q) _ (λ peer. (refl, refl)))
kind_of (entries.Shell step) older = Plain (refl, plain_shell (past_of older) step)
kind_of (entries.Took q bytes) older = Plain (plain_peer (peer_at (past_of older) q) _ (λ peer. (refl, refl)))

-- ---- what a request comes to

module _ (older : List Entry) (q id opcode : ℕ) (body : List ℕ)
    (a : IsAsked older q id body opcode
    (means (entries.Message q id opcode body) (length older + 1) (past_of older))) where
  abbrev e : Entry
  e = entries.Message q id opcode body

  abbrev log : List Act
  log = log_of (past_of older)

  abbrev p : ℕ
  p = a.peer.label

  abbrev act : Act
  act =
      act_of p a.x.label a.peer.role (label_at (past_of older) p) a.m.interface a.m.opcode a.m.values

  pub asked_found : IsFound (log_of (past_of older)) (past_of older).made a.peer.label id a.x
  asked_found = found (log_of (past_of older)) (past_of older).made a.peer.label id a.x a.named

  pub sender_lives : is_peer (log_of (past_of older)) a.peer.label ≡ true
  sender_lives =
      let f = asked_found in
      owner_lives (log_of (past_of older)) a.x.label a.peer.label (history_is (resolve older))
      ((sound older a.x f.among).own f.lives ∙ ap Some f.peer)

  pub asked_act : act_at (entries.Message q id opcode body) older
      ≡ act_of a.peer.label a.x.label a.peer.role (label_at (past_of older) a.peer.label) a.m.interface a.m.opcode
      a.m.values
  asked_act = ap (λ (m : Meaning). m.act) a.is

  row_is : IsOfRow a.x.interface opcode ((past_of older).waiting a.peer.label) body a.m
  row_is = of_row a.x.interface opcode ((past_of older).waiting a.peer.label) body a.m a.reads

  -- what a drop is of, and that it makes nothing
  pub asked_drop : (y : ℕ) → act_at (entries.Message q id opcode body) older ≡ acts.Drop y →
      (a.x.label ≡ y) × (new_of a.m.interface a.m.opcode a.m.values ≡ None)
  asked_drop y d =
      let r = row_is in
      let is : act ≡ acts.Drop y = sym asked_act ∙ d in
      let only = drops_only p a.x.label a.peer.role (label_at (past_of older) p) a.m.interface a.m.opcode a.m.values in (
        sym (subst (DropsOnly a.x.label) is only),
        ap (λ (m : Message). new_of m.interface m.opcode m.values) r.is
            ∙ drop_new p a.x.label a.peer.role (label_at (past_of older) p) a.x.interface opcode y
            ((past_of older).waiting p) body r.kinds r.values r.row r.read
            (ap (λ (m : Message). act_of p a.x.label a.peer.role (label_at (past_of older) p) m.interface m.opcode
            m.values) (sym r.is) ∙ is),
      )

  pub asked_sync : (k : ℕ) → act_at (entries.Message q id opcode body) older ≡ acts.Sync k →
      (n : Argument) × (new_of a.m.interface a.m.opcode a.m.values ≡ Some n) × (k ≡ a.peer.label)
  asked_sync k d =
      let r = row_is in
      let s = sync_new p a.x.label a.peer.role (label_at (past_of older) p) a.x.interface opcode k
      ((past_of older).waiting p) body r.kinds r.values r.row r.read
      (ap (λ (m : Message). act_of p a.x.label a.peer.role (label_at (past_of older) p) m.interface m.opcode
      m.values) (sym r.is) ∙ sym asked_act ∙ d) in
      (s.0, ap (λ (m : Message). new_of m.interface m.opcode m.values) r.is ∙ s.1, s.2)

  own_make : (k n : ℕ) (x : Act) (new : Argument) → is_freeing x ≡ false →
      own_calls k n x (Some new) ≡ Make new.id new.interface n ∷ []
  own_make k n (acts.Drop y) new h = cc
  own_make k n (acts.Sync y) new h = cc
  own_make k n _ new h = refl

  no_drop : (made : List Made) (b : Bool) (x : Act) → is_freeing x ≡ false →
      drop_calls made p (if b then x else acts.Idle) ≡ []
  no_drop made false x h = refl
  no_drop made true (acts.Drop y) h = cc
  no_drop made true _ h = refl

  -- what it makes lives, if it is neither a drop nor a sync
  pub asked_lives : (new : Argument) → new_of a.m.interface a.m.opcode a.m.values ≡ Some new →
      is_freeing (act_at (entries.Message q id opcode body) older) ≡ false →
      alive (log_of (past_of (entries.Message q id opcode body ∷ older))) (length older + 1) ≡ true
  asked_lives new made none = by (alive (log_of (past_of (e ∷ older))) (length older + 1)) refl
    where
      calls : List Call
      calls = calls_for older a.peer.label

      one : Made
      one = record { peer = a.peer.label; id = new.id; label = length older + 1; interface = new.interface }

      plain : is_freeing act ≡ false
      plain = ap is_freeing (sym asked_act) ∙ none

      meaning : declared.Meaning
      meaning = record {
        act = act;
        made = Some (record { id = new.id; interface = new.interface });
        takes_token = false;
      }

      all : calls_for (entries.Message q id opcode body ∷ older) a.peer.label
          ≡ Make new.id new.interface (length older + 1) ∷ calls_for older a.peer.label
      all =
          calls_own q id opcode body older a.peer meaning a.joined sender_lives
          (sym (a.is ∙ ap (λ (o : Option Argument). let m : Meaning = record {
            act = act;
            made = made_new p (length older + 1) o;
          } in m) made))
          ∙ ap (λ (l : List Call). l ++ calls_for older a.peer.label) (own_make id (length older + 1) act new plain)

      made-is : (means (entries.Message q id opcode body) (length older + 1) (past_of older)).made ≡ one ∷ []
      made-is = ap (λ (m : Meaning). m.made) a.is ∙ ap (made_new p (length older + 1)) made

      dead : alive (log_of (past_of (entries.Message q id opcode body ∷ older))) (length older + 1) ≡ false →
          calls_for (entries.Message q id opcode body ∷ older) a.peer.label ≡ calls_for older a.peer.label
      dead h =
          ap (λ (l : List Made). make_calls (log_of (past_of (e ∷ older))) p l
          ++ (drop_calls (past_of older).made p (act_now e older) ++ calls_for older p)) made-is
          ∙ ap (λ (b : Bool). (if (p == p) && b
          then Make new.id new.interface (length older + 1) ∷ [] else [])
          ++ (drop_calls (past_of older).made p (act_now e older) ++ calls_for older p)) h
          ∙ ap (λ (b : Bool). (if b && false
          then Make new.id new.interface (length older + 1) ∷ [] else [])
          ++ (drop_calls (past_of older).made p (act_now e older) ++ calls_for older p)) (eq-eqb p p refl)
          ∙ ap (λ (l : List Call). l ++ calls_for older p)
          (no_drop (past_of older).made (is_live (act_at e older) log) (act_at e older) none)

      by : (b : Bool) → alive (log_of (past_of (entries.Message q id opcode body ∷ older))) (length older + 1) ≡ b →
          b ≡ true
      by true h = refl
      by false h =
          absurd (let same = ap length (sym (dead h) ∙ all) in
          let no : length (calls_for older p) ≡ suc (length (calls_for older p)) = same in omega arith)
