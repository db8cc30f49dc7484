-- What is put for a field's peer by entries of other fields and by ends makes nothing happen to it
use Rattle.std.proofs.Common.{◌≡◌, ℕ, zero, suc, ◌+◌, ◌≤◌, Bool, true, false, List, [], ◌∷◌, ◌++◌, length, Option, Some, None, Result, Ok, Err, refl, sym, ap, subst, ◌∙◌, arith, inl, inr}
use Rattle.std.specs.Prelude.{◌⊎◌, if◌then◌else◌}
use Rattle.std.specs.List.{AllByRecursion}
use Rattle.std.proofs.lemmas.List.{append-nil, append_assoc}
use Rattle.std.proofs.lemmas.Option.{same_Some}
use Rattle.wl_wire.specs.Messages.{IsMessage, AreMessages, id_of, opcode_of, body_of, joined}
use Rattle.wl_proto.specs.declared.interface.Interface.{Interface}
use Rattle.wl_proto.specs.declared.interface.Interface.TheVariants as interface
use Rattle.wl_proto.specs.declared.refuse.Refuse.{Refuse}
use Rattle.wl_proto.specs.declared.event.Event.{Event}
use Rattle.wl_proto.specs.declared.event.Event.TheVariants as events
use Rattle.wl_proto.specs.Grammar.{Value}
use Rattle.wl_proto.specs.Rows.{Message, message, event_kinds, event_message}
use Rattle.wl_proto.specs.Reading.{values_at, all_read, by_row, event_reading, request_reading}
use Rattle.relay_model.specs.declared.fault.Fault.{Fault}
use Rattle.relay_model.specs.declared.said.Told.{Told}
use Rattle.relay_model.specs.declared.said.Said.{Said}
use Rattle.relay_model.specs.declared.said.Said.TheVariants as said
use Rattle.relay_model.specs.Objects.{next}
use Rattle.relay_model.specs.Told.{told}
use Rattle.broker_model.specs.declared.journal.Entry.{Entry}
use Rattle.broker_model.specs.declared.journal.Entry.TheVariants as entries
use Rattle.broker_model.specs.Groups.{message_of, followed_by}
use Rattle.broker_model.specs.Ids.{Made, Joined, Past, log_of, peer_at, object_at}
use Rattle.broker_model.specs.Out.{Outgoing, act_at, group_at, fits, before_group, out_for}
use Rattle.broker_model.specs.Refusals.{request_fault}
use Rattle.broker_model.specs.Requests.{rows}
use Rattle.broker_model.specs.Resolve.{Meaning, label_at, of_request, of_reading, of_message, of_peer, means, past_of, resolve}
use Rattle.broker_model.proofs.IdsAreNames.{IsIn, found, made_with}
use Rattle.broker_model.proofs.LivePeersJoined.{joined_stays, length_log, plain_row}
use Rattle.broker_model.proofs.MadeObjectsStand.{sound}
use Rattle.broker_telling.specs.Tells.{IsShort}
use Rattle.broker_core.proofs.ActTextsFit.{act_fits}
use Rattle.broker_core.proofs.ToldMessagesFit.{all_short}
use Rattle.trial_field.specs.Log.{Batch}
use Rattle.client_side.specs.Events.{object_in, field_objects}
use Rattle.client_side.specs.FieldState.{logged}
use Rattle.client_side.specs.Happenings.{Happening}
use Rattle.trial_run.specs.Hearing.{event_read, event_to, event_in}
use Rattle.trial_run.proofs.EventsBack.{event_back}
use Rattle.broker_telling.specs.ToldRead.{IsForIts}
use Rattle.broker_telling.proofs.MessagesPut.{entry_messages, entry_bytes}
use Rattle.broker_telling.proofs.MessagesTold.{TellsSo, told_each, joined_both}
use Rattle.broker_telling.proofs.ToldIsRead.{each_two}
use Rattle.broker_telling.proofs.ToldKinds.{told_to_its_kind}
use Rattle.trial_laws.specs.FieldLogs.{then_events, events_in, waiting_after, happenings}
use Rattle.trial_laws.proofs.BatchesRelayed.{AreShortBodies, all_fit}
use Rattle.trial_laws.proofs.ClientIds.{AreOwn, IsOfOther, entry_others, either, reading_interface}
use Rattle.trial_laws.proofs.FieldsReadAll.{in_older, own_before}
use Rattle.trial_laws.proofs.GroupsHeard.{IsHeaded, headed, input_id, where_some}
use Rattle.trial_job_laws.specs.FieldTold.{IsQuiet}
use Rattle.trial_job_laws.proofs.CalmActs.{is_wild, IsCalm, rows_calm, IsCalmSaid, IsCalmTold, told_calm}

-- ---- messages that make nothing happen

-- the bytes are a message to another object than the text input
abbrev pub IsElse : List ℕ → Type 0
IsElse m = IsMessage m × (id_of m ≡ 7 → ⊥)

pub else_whole : (ms : List (List ℕ)) → AllByRecursion IsElse ms → AreMessages ms
else_whole [] h = tt
else_whole (m ∷ ms) h = (h.0.0, else_whole ms h.1)

-- the event makes nothing happen, and leaves the edits that wait
abbrev IsSilent : Event → Type 0
IsSilent e = (w : Batch) → (logged e w [] ≡ []) × (waiting_after e w ≡ w)

silent_event : (e : Event) → ((event_message e).interface ≡ interface.TextInput → ⊥) → IsSilent e
silent_event (events.PreeditString t begin end) other = absurd (other refl)
silent_event (events.CommitString t) other = absurd (other refl)
silent_event (events.DeleteSurroundingText before behind) other = absurd (other refl)
silent_event (events.TextInputDone serial) other = absurd (other refl)
silent_event (events.Enter surface) other = absurd (other refl)
silent_event (events.Leave surface) other = absurd (other refl)
silent_event _ other = λ w. (refl, refl)

read_interface : (i : Interface) (n : ℕ) (body : List ℕ) (x : Message) → event_reading i n [] body ≡ Ok x →
    x.interface ≡ i
unfolding event_reading
read_interface i n body x e = by (event_kinds i n) e
  where
    read : (o : Option (List Value)) → all_read i n o ≡ Ok x → x.interface ≡ i
    read None h = cc
    read (Some vs) h =
        (let same : message i n vs ≡ x = cc in ap (λ (y : Message). y.interface) (sym same))

    by : (o : Option (List _)) → by_row i n [] body o ≡ Ok x → x.interface ≡ i
    by None h = cc
    by (Some ks) h = read (values_at [] ks body) h

silent_message : (m : List ℕ) (e : Event) → IsElse m → event_in field_objects m ≡ Some e → IsSilent e
silent_message m e other h = by (object_in field_objects (id_of m)) refl h
  where
    read : (i : Interface) (r : Result Message Refuse) → object_in field_objects (id_of m) ≡ Some i →
        event_reading i (opcode_of m) [] (body_of m) ≡ r → event_read r ≡ Some e → IsSilent e
    read i (Err f) o q k = cc
    read i (Ok x) o q k =
        let is : (event_message e).interface ≡ i =
        ap (λ (y : Message). y.interface) (event_back x e k) ∙ read_interface i (opcode_of m) (body_of m) x q in
        silent_event e (λ input. other.1 (input_id (id_of m) i (sym is ∙ input) o))

    by : (o : Option Interface) → object_in field_objects (id_of m) ≡ o → event_to o m ≡ Some e → IsSilent e
    by None o k = cc
    by (Some i) o k = read i (event_reading i (opcode_of m) [] (body_of m)) o refl k

pub silent_all : (ms : List (List ℕ)) (w : Batch) → AllByRecursion IsElse ms → happenings (events_in ms) w ≡ []
silent_all [] w h = refl
silent_all (m ∷ ms) w h =
    by (event_in field_objects m) (λ e q. silent_message m e h.0 q) (silent_all ms w h.1)
  where
    by : (o : Option Event) → ((e : Event) → o ≡ Some e → IsSilent e) → happenings (events_in ms) w ≡ [] →
        happenings (then_events o (events_in ms)) w ≡ []
    by None k none = refl
    by (Some e) k none =
        let s = k e refl w in
        ap (λ (l : List Happening). l ++ happenings (events_in ms) (waiting_after e w)) s.0
        ∙ ap (λ (v : Batch). happenings (events_in ms) v) s.1 ∙ none

-- ---- entries that are calm

-- no object of the peer is an input method
abbrev pub HasNoMethod : List Made → ℕ → Type 0
HasNoMethod made p = (m : Made) → IsIn made m → m.peer ≡ p → m.interface ≡ interface.InputMethod → ⊥

known_else : (id : ℕ) (i : Interface) → object_in field_objects id ≡ Some i → i ≡ interface.InputMethod → ⊥
known_else zero i e = λ s. (let no : None ≡ Some i = e in cc)
known_else (suc zero) i e = λ s. cc
known_else (suc (suc zero)) i e = λ s. cc
known_else (suc (suc (suc zero))) i e = λ s. cc
known_else (suc (suc (suc (suc zero)))) i e = λ s. cc
known_else (suc (suc (suc (suc (suc zero))))) i e = λ s. cc
known_else (suc (suc (suc (suc (suc (suc zero)))))) i e = λ s. cc
known_else (suc (suc (suc (suc (suc (suc (suc zero))))))) i e = λ s. cc
known_else (suc (suc (suc (suc (suc (suc (suc (suc n)))))))) i e = λ s. cc

pub own_else : (made : List Made) (p n : ℕ) → AreOwn made p n → HasNoMethod made p
own_else made p n own m i peer = known_else m.id m.interface (own.known m i peer)

quiet_other : (q : ℕ) (e : Entry) → IsQuiet q e → IsOfOther q e
quiet_other q (entries.Message k id opcode body) quiet = quiet.0
quiet_other q (entries.Join role) quiet = tt
quiet_other q (entries.Tokens k tokens) quiet = tt
quiet_other q (entries.BadSize k head) quiet = tt
quiet_other q (entries.End k cause) quiet = tt
quiet_other q (entries.Shell step) quiet = tt
quiet_other q (entries.Took k bytes) quiet = tt

request_calm : (past : Past) (n : ℕ) (peer : Joined) (x : ℕ) (m : Message) (o : Option Fault) →
    (m.interface ≡ interface.InputMethod → ⊥) → IsCalm (of_request past n peer x m o).act
request_calm past n peer x m (Some f) other = refl
request_calm past n peer x m None other =
    plain_row is_wild (rows peer.label x peer.role (label_at past peer.label) m.interface m.values) m.opcode refl
    (rows_calm peer.label x peer.role (label_at past peer.label) m.interface m.values other)

reading_calm : (past : Past) (n : ℕ) (peer : Joined) (x : Made) (opcode : ℕ) (body : List ℕ)
    (r : Result Message Refuse) → (x.interface ≡ interface.InputMethod → ⊥) →
    request_reading x.interface opcode (past.waiting peer.label) body ≡ r →
    IsCalm (of_reading past n peer x.label r).act
reading_calm past n peer x opcode body (Err f) other e = refl
reading_calm past n peer x opcode body (Ok m) other e =
    request_calm past n peer x.label m (request_fault past peer.label x.label peer.role (label_at past peer.label) m)
    (λ s. other (sym (reading_interface x.interface opcode (past.waiting peer.label) body m e) ∙ s))

message_calm : (past : Past) (n : ℕ) (peer : Joined) (id opcode : ℕ) (body : List ℕ) (o : Option Made) →
    HasNoMethod past.made peer.label → object_at past peer.label id ≡ o →
    IsCalm (of_message past n peer opcode body o).act
message_calm past n peer id opcode body None none e = refl
message_calm past n peer id opcode body (Some x) none e =
    let f = found (log_of past) past.made peer.label id x e in
    reading_calm past n peer x opcode body _ (none x f.among f.peer) refl

peer_calm : (o : Option Joined) (f : Joined → Meaning) → ((peer : Joined) → o ≡ Some peer → IsCalm (f peer).act) →
    IsCalm (of_peer o f).act
peer_calm None f h = refl
peer_calm (Some peer) f h = h peer refl

-- whoever else joined has no input method, but the first
abbrev pub HaveNoMethod : List Entry → Type 0
HaveNoMethod journal =
    (k : ℕ) (peer : Joined) → (k ≡ 1 → ⊥) → peer_at (past_of journal) k ≡ Some peer →
    HasNoMethod (past_of journal).made peer.label

calm_entry : (q : ℕ) (e : Entry) (older : List Entry) → IsQuiet q e → HaveNoMethod older → IsCalm (act_at e older)
calm_entry q (entries.Join role) older quiet none = refl
calm_entry q (entries.Message k id opcode body) older quiet none =
    peer_calm (peer_at (past_of older) k)
    (λ peer. of_message (past_of older) (length older + 1) peer opcode body (object_at (past_of older) peer.label id))
    (λ peer joined. message_calm (past_of older) (length older + 1) peer id opcode body
    (object_at (past_of older) peer.label id) (none k peer quiet.1 joined) refl)
calm_entry q (entries.Tokens k tokens) older quiet none = refl
calm_entry q (entries.BadSize k head) older quiet none = peer_calm (peer_at (past_of older) k) _ (λ peer j. refl)
calm_entry q (entries.End k cause) older quiet none = peer_calm (peer_at (past_of older) k) _ (λ peer j. refl)
calm_entry q (entries.Shell step) older quiet none = absurd quiet
calm_entry q (entries.Took k bytes) older quiet none = peer_calm (peer_at (past_of older) k) _ (λ peer j. refl)

-- ---- what such an entry puts

-- an event to a text input that is told so is an enter to the object n
calm_input : (n x : ℕ) (event : Said) (made : List Made) (m : Message) → message_of made event ≡ Some m →
    m.interface ≡ interface.TextInput → IsCalmSaid n x event → x ≡ n
calm_input n x (said.Enter surface) made m is input calm = calm
calm_input n x (said.Leave surface) made m is input calm = absurd calm
calm_input n x (said.Preedit t begin end) made m is input calm = absurd calm
calm_input n x (said.CommitString t) made m is input calm = absurd calm
calm_input n x (said.Delete before after) made m is input calm = absurd calm
calm_input n x (said.FieldDone count) made m is input calm = absurd calm
calm_input n x said.Activate made m is input calm = cc
calm_input n x said.Deactivate made m is input calm = cc
calm_input n x (said.Surrounding t cursor anchor) made m is input calm = cc
calm_input n x (said.ChangeCause cause) made m is input calm = cc
calm_input n x (said.ContentType hint purpose) made m is input calm = cc
calm_input n x said.MethodDone made m is input calm = cc
calm_input n x said.Unavailable made m is input calm = cc
calm_input n x (said.PopupRect a b width height) made m is input calm = cc
calm_input n x (said.Keymap keymap) made m is input calm = cc
calm_input n x (said.Key serial time key state) made m is input calm = cc
calm_input n x (said.Mods serial mods) made m is input calm = cc
calm_input n x (said.Repeat repeat) made m is input calm = cc
calm_input n x (said.Global name i version) made m is input calm = cc
calm_input n x (said.CallbackDone value) made m is input calm = cc
calm_input n x (said.DeleteId label) made m is input calm = cc
calm_input n x (said.Capabilities value) made m is input calm = cc
calm_input n x (said.Error object fault) made m is input calm = cc
calm_input n x (said.Pass time key state) made m is input calm = cc
calm_input n x (said.VMods mods) made m is input calm = cc
calm_input n x (said.Placed popup a b) made m is input calm = cc

-- what the induction over the later entries keeps
pub record Stays (q : ℕ) (peer : Joined) (journal : List Entry) : Type 0 where
  pub joined : peer_at (past_of journal) q ≡ Some peer
  pub own : AreOwn (past_of journal).made peer.label 7
  pub none : HaveNoMethod journal
  pub short : AreShortBodies journal

told_else : (q : ℕ) (peer : Joined) (e : Entry) (older : List Entry) → IsQuiet q e →
    peer_at (past_of older) q ≡ Some peer → Stays q peer (e ∷ older) → (t : Told) →
    IsCalmTold (length older + 1) t → IsShort t → IsForIts (past_of (e ∷ older)).made t →
    TellsSo (past_of (e ∷ older)).made peer.label IsElse t
told_else q peer e older quiet before s t calm short its m is mine x msg =
    let made : List Made = (past_of (e ∷ older)).made in
    let new : List Made = (means e (length older + 1) (past_of older)).made in
    let with = made_with made t.to m is in
    let low : m.id ≤ 7 = s.own.within m with.among mine in
    let h : IsHeaded m.id x = headed made m.id t x low short msg in (
      h.whole,
      λ seven.
          (let id : m.id ≡ 7 = sym h.id-is ∙ seven in
          let known : object_in field_objects 7 ≡ Some m.interface =
          subst (λ k. object_in field_objects k ≡ Some m.interface) id (s.own.known m with.among mine) in
          let input : m.interface ≡ interface.TextInput = sym (same_Some interface.TextInput m.interface known) in
          let kind : x.interface ≡ m.interface =
          where_some (λ (y : Message). y.interface ≡ m.interface) (message_of made t.event) x msg (its m is) in
          let label : m.label ≡ length older + 1 =
          with.named ∙ calm_input (length older + 1) t.to t.event made x msg (kind ∙ input) calm in
          by label (either new (past_of older).made m with.among)),
    )
  where
    by : m.label ≡ length older + 1 →
        IsIn (means e (length older + 1) (past_of older)).made m ⊎ IsIn (past_of older).made m → ⊥
    by label (inl i) = entry_others e older q peer before (quiet_other q e quiet) m i mine
    by label (inr i) = (let within = (sound older m i).within in absurd (omega arith))

entry_else : (q : ℕ) (peer : Joined) (e : Entry) (older : List Entry) → IsQuiet q e →
    peer_at (past_of older) q ≡ Some peer → HaveNoMethod older → Stays q peer (e ∷ older) →
    AllByRecursion IsElse (entry_messages e older peer.label)
entry_else q peer e older quiet before none s =
    let made : List Made = (past_of (e ∷ older)).made in
    let ts : List Told = told (act_at e older) (resolve older) in
    let number : next (log_of (past_of older)) ≡ length older + 1 = ap (λ n. n + 1) (length_log older) in
    let calm : AllByRecursion (IsCalmTold (length older + 1)) ts =
    subst (λ n. AllByRecursion (IsCalmTold n) ts) number
    (told_calm (act_at e older) (resolve older) (calm_entry q e older quiet none)) in
    told_each made peer.label IsElse ts
    (each_two (λ t. IsCalmTold (length older + 1) t × IsShort t) (IsForIts made) (TellsSo made peer.label IsElse) ts
    (λ t k its. told_else q peer e older quiet before s t k.0 k.1 its)
    (each_two (IsCalmTold (length older + 1)) IsShort (λ t. IsCalmTold (length older + 1) t × IsShort t) ts
    (λ t c d. (c, d)) calm
    (all_short (act_at e older) (resolve older) (act_fits e older s.short.0) (all_fit older s.short.1)))
    (told_to_its_kind e older))

-- ---- what later entries put

-- what is put behind what was put are such messages
pub record PutElse (old new : List ℕ) : Type 0 where
  pub messages : List (List ℕ)
  pub is : new ≡ old ++ joined messages
  pub each : AllByRecursion IsElse messages

each_else : (xs ys : List (List ℕ)) → AllByRecursion IsElse xs → AllByRecursion IsElse ys →
    AllByRecursion IsElse (xs ++ ys)
each_else [] ys h k = k
each_else (x ∷ xs) ys h k = (h.0, each_else xs ys h.1 k)

entry_puts : (capacity q : ℕ) (peer : Joined) (e : Entry) (older : List Entry) (old : List ℕ) → IsQuiet q e →
    peer_at (past_of older) q ≡ Some peer → HaveNoMethod older → Stays q peer (e ∷ older) →
    PutElse old (out_for capacity older peer.label).put.bytes →
    PutElse old (out_for capacity (e ∷ older) peer.label).put.bytes
entry_puts capacity q peer e older old quiet before none s k =
    by (fits capacity (group_at e older peer.label) out)
  where
    out : Outgoing
    out = before_group e older peer.label (out_for capacity older peer.label)

    by : (b : Bool) →
        PutElse old (if b then record out { put = followed_by out.put (group_at e older peer.label) }
        else record out { choked = true }).put.bytes
    by false = k
    by true = record {
      messages = k.messages ++ entry_messages e older peer.label;
      is = ap (λ (l : List ℕ). l ++ (group_at e older peer.label).bytes) k.is
          ∙ append_assoc old (joined k.messages) (group_at e older peer.label).bytes
          ∙ ap (λ (l : List ℕ). old ++ (joined k.messages ++ l)) (entry_bytes e older peer.label)
          ∙ ap (λ (l : List ℕ). old ++ l) (sym (joined_both k.messages (entry_messages e older peer.label)));
      each = each_else k.messages (entry_messages e older peer.label) k.each
          (entry_else q peer e older quiet before none s);
    }

none_before : (e : Entry) (older : List Entry) → HaveNoMethod (e ∷ older) → HaveNoMethod older
none_before e older none k peer other joined m i =
    none k peer other (joined_stays e (length older + 1) (past_of older).joined k peer joined) m
    (in_older (means e (length older + 1) (past_of older)).made (past_of older).made m i)

stays_before : (q : ℕ) (peer : Joined) (e : Entry) (older : List Entry) → peer_at (past_of older) q ≡ Some peer →
    Stays q peer (e ∷ older) → Stays q peer older
stays_before q peer e older before s = record {
  joined = before;
  own = own_before (means e (length older + 1) (past_of older)).made (past_of older).made peer.label 7 s.own;
  none = none_before e older s.none;
  short = s.short.1;
}

-- who joined before stays joined
pub joined_later : (newer base : List Entry) (q : ℕ) (peer : Joined) → peer_at (past_of base) q ≡ Some peer →
    peer_at (past_of (newer ++ base)) q ≡ Some peer
joined_later [] base q peer e = e
joined_later (x ∷ newer) base q peer e =
    joined_stays x (length (newer ++ base) + 1) (past_of (newer ++ base)).joined q peer
    (joined_later newer base q peer e)

pub later_puts : (capacity q : ℕ) (peer : Joined) (newer base : List Entry) → AllByRecursion (IsQuiet q) newer →
    peer_at (past_of base) q ≡ Some peer → Stays q peer (newer ++ base) →
    PutElse (out_for capacity base peer.label).put.bytes (out_for capacity (newer ++ base) peer.label).put.bytes
later_puts capacity q peer [] base quiet joined s =
    record { messages = []; is = sym (append-nil _); each = tt }
later_puts capacity q peer (e ∷ newer) base quiet joined s =
    let before : peer_at (past_of (newer ++ base)) q ≡ Some peer = joined_later newer base q peer joined in
    entry_puts capacity q peer e (newer ++ base) (out_for capacity base peer.label).put.bytes quiet.0 before
    (none_before e (newer ++ base) s.none) s
    (later_puts capacity q peer newer base quiet.1 joined (stays_before q peer e (newer ++ base) before s))

-- and at the first of them all that was so, too
pub stays_base : (q : ℕ) (peer : Joined) (newer base : List Entry) → peer_at (past_of base) q ≡ Some peer →
    Stays q peer (newer ++ base) → Stays q peer base
stays_base q peer [] base joined s = s
stays_base q peer (e ∷ newer) base joined s =
    stays_base q peer newer base joined
    (stays_before q peer e (newer ++ base) (joined_later newer base q peer joined) s)
