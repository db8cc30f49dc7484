-- Live peers joined.
use Rattle.std.proofs.Common.{◌≡◌, ℕ, zero, suc, ◌+◌, List, [], ◌∷◌, ◌++◌, length, Bool, true, false, Option, Some, None, ap, refl, sym, ◌∙◌}
use Rattle.std.specs.Prelude.{◌==◌, ◌||◌, if◌then◌else◌, Result, Ok, Err, unwrap_or}
use Rattle.std.specs.List.{list_any, slice_get}
use Rattle.std.proofs.lemmas.Bool.{eqb-true, true≢false}
use Rattle.wl_proto.specs.declared.interface.Interface.{Interface}
use Rattle.wl_proto.specs.declared.interface.Interface.TheVariants as interface
use Rattle.wl_proto.specs.declared.refuse.Refuse.{Refuse}
use Rattle.wl_proto.specs.Grammar.{Value, word, signed, text, token}
use Rattle.wl_proto.specs.Reading.{request_reading}
use Rattle.wl_proto.specs.Rows.{Message}
use Rattle.relay_model.specs.declared.act.Act.{Act}
use Rattle.relay_model.specs.declared.act.Act.TheVariants as acts
use Rattle.relay_model.specs.declared.fault.Fault.{Fault}
use Rattle.relay_model.specs.declared.role.Role.{Role}
use Rattle.relay_model.specs.Objects.{Object, is_peer_kind, is_kind, owner, made_for, PopupKind, GrabKind, Kind, made, maker, remains, object, is_peer}
use Rattle.relay_model.specs.Idle.{is_live, cleaned}
use Rattle.relay_model.proofs.ActsOrIdle.{length_history}
use Rattle.broker_steps.specs.declared.step.ShellStep.{ShellStep}
use Rattle.broker_steps.specs.declared.step.ShellStep.TheVariants as shell
use Rattle.broker_model.specs.declared.journal.Entry.{Entry}
use Rattle.broker_model.specs.declared.journal.Entry.TheVariants as entries
use Rattle.broker_model.specs.Ids.{Made, Joined, Past, log_of, peer_in, peer_at, object_at}
use Rattle.broker_model.specs.Requests.{act_of, surround, cause, content, cursor, string, preedit, delete, commit, keymap, key, modifiers, popup, bind, rows}
use Rattle.broker_model.specs.Refusals.{request_fault}
use Rattle.broker_model.specs.Resolve.{Meaning, label_at, of_request, of_reading, of_message, of_peer, surface_at, on_surface, shell_act, means, with_joined, past_of, resolve}
use Rattle.broker_model.proofs.OwnersLive.{IsThere, there, remains_some}

-- only a join is the act of a peer that joins, and only a request of one interface makes fields

abbrev pub is_join : Act → Bool
is_join acts.Peer = true
is_join _ = false

abbrev pub makes : Act → Bool
makes acts.Peer = true
makes (acts.Field p) = true
makes _ = false

join_makes : (act : Act) → makes act ≡ false → is_join act ≡ false
join_makes acts.Peer h = cc
join_makes _ h = refl

plain_surround : (x : ℕ) (vs : List Value) → makes (surround x vs) ≡ false
plain_surround x (text t ∷ signed a ∷ signed b ∷ []) = refl
plain_surround x _ = refl

plain_cause : (x : ℕ) (vs : List Value) → makes (cause x vs) ≡ false
plain_cause x (word n ∷ []) = refl
plain_cause x _ = refl

plain_content : (x : ℕ) (vs : List Value) → makes (content x vs) ≡ false
plain_content x (word a ∷ word b ∷ []) = refl
plain_content x _ = refl

plain_cursor : (x : ℕ) (vs : List Value) → makes (cursor x vs) ≡ false
plain_cursor x (signed a ∷ signed b ∷ signed c ∷ signed d ∷ []) = refl
plain_cursor x _ = refl

plain_string : (x : ℕ) (vs : List Value) → makes (string x vs) ≡ false
plain_string x (text t ∷ []) = refl
plain_string x _ = refl

plain_preedit : (x : ℕ) (vs : List Value) → makes (preedit x vs) ≡ false
plain_preedit x (text t ∷ signed a ∷ signed b ∷ []) = refl
plain_preedit x _ = refl

plain_delete : (x : ℕ) (vs : List Value) → makes (delete x vs) ≡ false
plain_delete x (word a ∷ word b ∷ []) = refl
plain_delete x _ = refl

plain_commit : (x : ℕ) (vs : List Value) → makes (commit x vs) ≡ false
plain_commit x (word n ∷ []) = refl
plain_commit x _ = refl

plain_keymap : (x : ℕ) (vs : List Value) → makes (keymap x vs) ≡ false
plain_keymap x (word a ∷ token t ∷ word b ∷ []) = refl
plain_keymap x _ = refl

plain_key : (x : ℕ) (vs : List Value) → makes (key x vs) ≡ false
plain_key x (word a ∷ word b ∷ word c ∷ []) = refl
plain_key x _ = refl

plain_modifiers : (x : ℕ) (vs : List Value) → makes (modifiers x vs) ≡ false
plain_modifiers x (word a ∷ word b ∷ word c ∷ word d ∷ []) = refl
plain_modifiers x _ = refl

plain_popup : (at : ℕ → ℕ) (x : ℕ) (vs : List Value) → makes (popup at x vs) ≡ false
plain_popup at x (word a ∷ word b ∷ []) = refl
plain_popup at x _ = refl

plain_if : (b : Bool) (p : ℕ) → makes (if b then acts.Seat p else acts.Thing p) ≡ false
plain_if true p = refl
plain_if false p = refl

plain_bind : (p : ℕ) (vs : List Value) → makes (bind p vs) ≡ false
plain_bind p (word n ∷ vs) = plain_if (n == 2) p
plain_bind p _ = refl

-- the interface whose requests make fields
abbrev is_manager : Interface → Bool
is_manager interface.TextInputManager = true
is_manager _ = false

pub makes_rows : (p x : ℕ) (role : Role) (at : ℕ → ℕ) (i : Interface) (vs : List Value) →
    list_any makes (rows p x role at i vs) ≡ is_manager i
makes_rows p x role at interface.Registry vs = rw (plain_bind p vs) refl
makes_rows p x role at interface.TextInput vs =
    rw (plain_surround x vs, plain_cause x vs, plain_content x vs, plain_cursor x vs) refl
makes_rows p x role at interface.InputMethod vs =
    rw (plain_string x vs, plain_preedit x vs, plain_delete x vs, plain_commit x vs, plain_popup at x vs) refl
makes_rows p x role at interface.VirtualKeyboard vs = rw (plain_keymap x vs, plain_key x vs, plain_modifiers x vs) refl
makes_rows p x role at _ vs = refl

plain_first : (a b : Bool) → (a || b) ≡ false → (a ≡ false) × (b ≡ false)
plain_first true b e = cc
plain_first false b e = (refl, e)

pub plain_row : (test : Act → Bool) (xs : List Act) (n : ℕ) → test acts.Idle ≡ false → list_any test xs ≡ false →
    test (unwrap_or (slice_get xs n) acts.Idle) ≡ false
plain_row test [] n i e = i
plain_row test (act ∷ xs) zero i e = (plain_first _ _ e).0
plain_row test (act ∷ xs) (suc n) i e = plain_row test xs n i (plain_first (test act) _ e).1

plain_act : (p x : ℕ) (role : Role) (at : ℕ → ℕ) (i : Interface) (opcode : ℕ) (vs : List Value) →
    is_join (act_of p x role at i opcode vs) ≡ false
plain_act p x role at interface.TextInputManager opcode vs =
    plain_row is_join (acts.Drop x ∷ acts.Field p ∷ []) opcode refl refl
plain_act p x role at i opcode vs =
    join_makes (act_of p x role at i opcode vs)
    (plain_row makes (rows p x role at i vs) opcode refl (makes_rows p x role at i vs))

plain_request : (past : Past) (n : ℕ) (peer : Joined) (x : ℕ) (m : Message) (o : Option Fault) →
    is_join (of_request past n peer x m o).act ≡ false
plain_request past n peer x m (Some f) = refl
plain_request past n peer x m None =
    plain_act peer.label x peer.role (label_at past peer.label) m.interface m.opcode m.values

plain_reading : (past : Past) (n : ℕ) (peer : Joined) (x : ℕ) (r : Result Message Refuse) →
    is_join (of_reading past n peer x r).act ≡ false
plain_reading past n peer x (Err e) = refl
plain_reading past n peer x (Ok m) =
    plain_request past n peer x m (request_fault past peer.label x peer.role (label_at past peer.label) m)

plain_message : (past : Past) (n : ℕ) (peer : Joined) (opcode : ℕ) (body : List ℕ) (o : Option Made) →
    is_join (of_message past n peer opcode body o).act ≡ false
plain_message past n peer opcode body None = refl
plain_message past n peer opcode body (Some x) =
    plain_reading past n peer x.label (request_reading x.interface opcode (past.waiting peer.label) body)

plain_peer : (o : Option Joined) (f : Joined → Meaning) → ((peer : Joined) → is_join (f peer).act ≡ false) →
    is_join (of_peer o f).act ≡ false
plain_peer None f h = refl
plain_peer (Some peer) f h = h peer

plain_surface : (o : Option ℕ) (f : ℕ → Act) → ((s : ℕ) → is_join (f s) ≡ false) → is_join (on_surface o f) ≡ false
plain_surface None f h = refl
plain_surface (Some s) f h = h s

plain_shell : (past : Past) (step : ShellStep) → is_join (shell_act past step) ≡ false
plain_shell past (shell.Focus q id) =
    plain_surface (surface_at past (peer_at past q) id) (λ s. acts.Focus s) (λ s. refl)
plain_shell past (shell.Area q id rect) =
    plain_surface (surface_at past (peer_at past q) id) (λ s. acts.Area s rect) (λ s. refl)
plain_shell past _ = refl

-- what a journal has as many of as it has entries

pub length_resolve : (journal : List Entry) → length (resolve journal) ≡ length journal
length_resolve [] = refl
length_resolve (e ∷ older) = ap suc (length_resolve older)

pub length_log : (journal : List Entry) → length (log_of (past_of journal)) ≡ length journal
length_log journal = length_history (resolve journal) ∙ length_resolve journal

-- a peer that joined, by its label

pub record IsNumbered (joined : List Joined) (x : ℕ) : Type 0 where
  pub number : ℕ
  pub peer : Joined
  pub found : peer_in joined number ≡ Some peer
  pub labelled : peer.label ≡ x

get_left : (xs ys : List Joined) (q : ℕ) (peer : Joined) → slice_get xs q ≡ Some peer →
    slice_get (xs ++ ys) q ≡ Some peer
get_left [] ys q peer e = cc
get_left (x ∷ xs) ys zero peer e = e
get_left (x ∷ xs) ys (suc q) peer e = get_left xs ys q peer e

get_last : (xs : List Joined) (y : Joined) → slice_get (xs ++ y ∷ []) (length xs) ≡ Some y
get_last [] y = refl
get_last (x ∷ xs) y = get_last xs y

peer_left : (xs ys : List Joined) (q : ℕ) (peer : Joined) → peer_in xs q ≡ Some peer → peer_in (xs ++ ys) q ≡ Some peer
peer_left xs ys zero peer e = cc
peer_left xs ys (suc q) peer e = get_left xs ys q peer e

-- who joined keeps the number
pub joined_stays : (e : Entry) (n : ℕ) (joined : List Joined) (q : ℕ) (peer : Joined) → peer_in joined q ≡ Some peer →
    peer_in (with_joined e n joined) q ≡ Some peer
joined_stays (entries.Join role) n joined q peer e = peer_left joined _ q peer e
joined_stays _ n joined q peer e = e

stays_numbered : (e : Entry) (n : ℕ) (joined : List Joined) (x : ℕ) → IsNumbered joined x →
    IsNumbered (with_joined e n joined) x
stays_numbered e n joined x k =
    record {
      number = k.number;
      peer = k.peer;
      found = joined_stays e n joined k.number k.peer k.found;
      labelled = k.labelled;
    }

-- a peer is made by its join alone

join_for : (kind : Kind) (whose : Option ℕ) → is_peer_kind kind ≡ false →
    is_kind is_peer_kind (made_for kind whose) ≡ true → ⊥
join_for kind None k h = cc
join_for kind (Some p) k h = true≢false (sym h ∙ k)

join_made : (act : Act) (n : ℕ) (whose : Option ℕ) → is_kind is_peer_kind (made act n whose) ≡ true → is_join act ≡ true
join_made acts.Peer n whose h = refl
join_made (acts.Popup m s) n whose h = absurd (join_for (PopupKind m s) whose refl h)
join_made (acts.Grab m) n whose h = absurd (join_for (GrabKind m) whose refl h)
join_made _ n whose h = cc

join_cleaned : (b : Bool) (act : Act) → is_join (if b then act else acts.Idle) ≡ true → is_join act ≡ true
join_cleaned true act h = h
join_cleaned false act h = cc

join_entry : (e : Entry) (n : ℕ) (past : Past) → is_join (means e n past).act ≡ true →
    IsNumbered (with_joined e n past.joined) n
join_entry (entries.Join role) n past h =
    record {
      number = suc (length past.joined);
      peer = record { label = n; role = role };
      found = get_last past.joined _;
      labelled = refl;
    }
join_entry (entries.Message q id opcode body) n past h =
    absurd (true≢false (sym h
    ∙ plain_peer (peer_at past q) (λ peer. of_message past n peer opcode body (object_at past peer.label id))
    (λ peer. plain_message past n peer opcode body (object_at past peer.label id))))
join_entry (entries.Tokens q tokens) n past h = cc
join_entry (entries.BadSize q head) n past h =
    absurd (true≢false (sym h ∙ plain_peer (peer_at past q) _ (λ peer. refl)))
join_entry (entries.End q why) n past h = absurd (true≢false (sym h ∙ plain_peer (peer_at past q) _ (λ peer. refl)))
join_entry (entries.Shell step) n past h = absurd (true≢false (sym h ∙ plain_shell past step))
join_entry (entries.Took q bytes) n past h = absurd (true≢false (sym h ∙ plain_peer (peer_at past q) _ (λ peer. refl)))

pub still_peer : (act : Act) (x : ℕ) (o : Option Object) → is_kind is_peer_kind (remains act x o) ≡ true →
    is_kind is_peer_kind o ≡ true
still_peer act x o h =
    let t : IsThere is_peer_kind (remains act x o) = there is_peer_kind (remains act x o) h in
    rw (remains_some act x o t.found t.is) t.passes

numbered_by : (e : Entry) (older : List Entry) (x : ℕ) (b : Bool) → (x == length (log_of (past_of older)) + 1) ≡ b →
    (is_peer (log_of (past_of older)) x ≡ true → IsNumbered (past_of older).joined x) →
    is_kind is_peer_kind
    (if b then made (cleaned (means e (length older + 1) (past_of older)).act (log_of (past_of older))) x
    (owner (object (log_of (past_of older))
    (maker (cleaned (means e (length older + 1) (past_of older)).act (log_of (past_of older))))))
    else remains (cleaned (means e (length older + 1) (past_of older)).act (log_of (past_of older))) x
    (object (log_of (past_of older)) x)) ≡ true →
    IsNumbered (with_joined e (length older + 1) (past_of older).joined) x
numbered_by e older x true q k h =
    let act : Act = (means e (length older + 1) (past_of older)).act in
    let log : List Act = log_of (past_of older) in
    let j : is_join act ≡ true = join_cleaned (is_live act log) act (join_made (cleaned act log) x _ h) in
    let s : x ≡ length older + 1 = eqb-true x _ q ∙ ap (λ n. n + 1) (length_log older) in
    rw s (join_entry e (length older + 1) (past_of older) j)
numbered_by e older x false q k h =
    stays_numbered e (length older + 1) (past_of older).joined x
    (k (still_peer _ x (object (log_of (past_of older)) x) h))

-- a live peer joined, under a number
pub numbered : (journal : List Entry) (x : ℕ) → is_peer (log_of (past_of journal)) x ≡ true →
    IsNumbered (past_of journal).joined x
numbered [] x h = cc
numbered (e ∷ older) x h = numbered_by e older x (x == length (log_of (past_of older)) + 1) refl (numbered older x) h
