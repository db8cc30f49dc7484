-- A field's set-up gives its peer the objects that its client knows.
use Rattle.std.proofs.Common.{◌≡◌, ℕ, ◌+◌, ◌≤◌, Bool, true, false, List, [], ◌∷◌, ◌++◌, length, Option, Some, None, Result, Ok, refl, sym, ap, subst, ◌∙◌, arith}
use Rattle.std.specs.Prelude.{if◌then◌else◌}
use Rattle.std.specs.Str.{is_utf8, chars}
use lib.Utf8.{encode}
use Rattle.std.proofs.lemmas.Option.{same_Some}
use Rattle.wl_wire.specs.Messages.{opcode_of, body_of}
use Rattle.wl_proto.specs.declared.interface.Interface.{Interface}
use Rattle.wl_proto.specs.declared.interface.Interface.TheVariants.{Registry, Compositor, Seat, TextInputManager, Surface, TextInput}
use Rattle.wl_proto.specs.declared.table.Kind.{Kind}
use Rattle.wl_proto.specs.declared.table.Kind.TheVariants.{Uint, Object, NewId, Text}
use Rattle.wl_proto.specs.declared.refuse.Refuse.{Refuse}
use Rattle.wl_proto.specs.Rows.{Message, request_kinds}
use Rattle.wl_proto.specs.Reading.{all_read, by_row, request_reading}
use Rattle.wl_proto.specs.Spelling.{spelling}
use Rattle.wl_proto.specs.Spelled.{AreTokens, AreOfKinds}
use Rattle.wl_proto.proofs.ValuesReadBack.{values_complete, spelled_once}
use Rattle.wl_proto.proofs.WrittenIsWhole.{written_whole}
use Rattle.relay_model.specs.declared.fault.Fault.{Fault}
use Rattle.broker_model.specs.declared.journal.Entry.{Entry}
use Rattle.broker_model.specs.declared.journal.Entry.TheVariants as entries
use Rattle.broker_model.specs.Ids.{Made, Joined, Past, log_of, peer_at, object_at}
use Rattle.broker_model.specs.Limits.{is_full}
use Rattle.broker_model.specs.Requests.{Argument, new_of}
use Rattle.broker_model.specs.Refusals.{request_fault}
use Rattle.broker_model.specs.Resolve.{label_at, made_new, of_request, of_reading, of_message, of_peer, means, past_of}
use Rattle.broker_model.specs.Settle.{settle}
use Rattle.broker_model.specs.Stamps.{no_stamp}
use Rattle.broker_model.proofs.IdsAreNames.{found}
use Rattle.broker_core.specs.Broker.{Broker, with_step}
use Rattle.broker_core.specs.Taking.{lives}
use Rattle.client_side.specs.Messages.{Sent, field_setup}
use Rattle.client_side.specs.Events.{object_in, field_objects}
use Rattle.trial_run.specs.Ran.{went, halted, ◌>>=◌}
use Rattle.trial_run.specs.Steps.{stepped, message_entry, messages_sent}
use Rattle.trial_laws.proofs.BytesTaken.{step_peer}
use Rattle.trial_laws.proofs.ClientIds.{AreOwn, next_made, step_made}
use Rattle.trial_laws.proofs.RequestsWait.{IsShortSent, AreShortSent, bytes_of, bytes_each}

-- the request makes an object under the id n + 1, of an interface that the client knows it by
pub record IsMaking (n : ℕ) (s : Sent) : Type 0 where
  pub short : IsShortSent s
  pub object : object_in field_objects s.object ≡ Some s.message.interface
  pub interface : Interface
  pub new : new_of s.message.interface s.message.opcode s.message.values
      ≡ Some (record { id = n + 1; interface = interface })
  pub there : object_in field_objects (n + 1) ≡ Some interface
  pub kinds : List Kind
  pub row : request_kinds s.message.interface s.message.opcode ≡ Some kinds
  pub fit : AreOfKinds kinds s.message.values
  pub plain : (tokens : List ℕ) → AreTokens tokens s.message.values

pub more_ids : (made : List Made) (p n k : ℕ) → n ≤ k → AreOwn made p n → AreOwn made p k
more_ids made p n k l own = record {
  within = λ m i e. (let w = own.within m i e in omega arith);
  known = own.known;
  once = own.once;
}

-- it is read as what it is
reads_back : (n : ℕ) (s : Sent) (tokens : List ℕ) → IsMaking n s →
    request_reading s.message.interface s.message.opcode tokens (spelling s.message.values) ≡ Ok s.message
unfolding request_reading
reads_back n s tokens h =
    ap (by_row s.message.interface s.message.opcode tokens (spelling s.message.values)) h.row
    ∙ ap (all_read s.message.interface s.message.opcode)
    (values_complete tokens h.kinds s.message.values (spelling s.message.values)
    (spelled_once h.kinds s.message.values h.fit (let size = h.short.size in omega arith)) (h.plain tokens))

request_makes : (past : Past) (k n : ℕ) (peer : Joined) (x : ℕ) (s : Sent) (o : Option Fault) → IsMaking n s →
    AreOwn past.made peer.label n → AreOwn ((of_request past k peer x s.message o).made ++ past.made) peer.label (n + 1)
request_makes past k n peer x s (Some f) h own = more_ids past.made peer.label n (n + 1) (omega arith) own
request_makes past k n peer x s None h own =
    subst (λ (a : Option Argument). AreOwn (made_new peer.label k a ++ past.made) peer.label (n + 1)) (sym h.new)
    (next_made (record { peer = peer.label; id = n + 1; label = k; interface = h.interface })
    past.made peer.label n refl
    h.there own)

-- it is read so, whichever object of the peer has the id that it goes to
pub read_as : (past : Past) (n bound : ℕ) (peer : Joined) (s : Sent) (x : Made) → IsMaking n s →
    AreOwn past.made peer.label bound → object_at past peer.label s.object ≡ Some x →
    request_reading x.interface s.message.opcode (past.waiting peer.label) (spelling s.message.values) ≡ Ok s.message
read_as past n bound peer s x h own e =
    let f = found (log_of past) past.made peer.label s.object x e in
    let there : object_in field_objects s.object ≡ Some x.interface =
    subst (λ id. object_in field_objects id ≡ Some x.interface) f.under (own.known x f.among f.peer) in
    let same : s.message.interface ≡ x.interface = same_Some s.message.interface x.interface (sym h.object ∙ there) in
    let tokens : List ℕ = past.waiting peer.label in
    subst (λ (i : Interface). request_reading i s.message.opcode tokens (spelling s.message.values) ≡ Ok s.message) same
    (reads_back n s tokens h)

pub message_makes : (past : Past) (k n : ℕ) (peer : Joined) (s : Sent) (o : Option Made) → IsMaking n s →
    AreOwn past.made peer.label n → object_at past peer.label s.object ≡ o →
    AreOwn ((of_message past k peer s.message.opcode (spelling s.message.values) o).made ++ past.made)
    peer.label (n + 1)
message_makes past k n peer s None h own e = more_ids past.made peer.label n (n + 1) (omega arith) own
message_makes past k n peer s (Some x) h own e =
    subst (λ (r : Result Message Refuse). AreOwn ((of_reading past k peer x.label r).made ++ past.made)
    peer.label (n + 1))
    (sym (read_as past n n peer s x h own e))
    (request_makes past k n peer x.label s
    (request_fault past peer.label x.label peer.role (label_at past peer.label) s.message) h own)

pub entry_is : (q n : ℕ) (s : Sent) → IsMaking n s →
    message_entry q (bytes_of s) ≡ entries.Message q s.object s.message.opcode (spelling s.message.values)
entry_is q n s h =
    let w = written_whole s.object s.message h.short.object h.short.opcode h.short.size in
    ap (λ id. entries.Message q id (opcode_of (bytes_of s)) (body_of (bytes_of s))) w.1
    ∙ ap (λ opcode. entries.Message q s.object opcode (body_of (bytes_of s))) w.2
    ∙ ap (λ (body : List ℕ). entries.Message q s.object s.message.opcode body) w.3

pub makes_step : (capacity q n : ℕ) (s : Sent) (journal : List Entry) (peer : Joined) →
    peer_at (past_of journal) q ≡ Some peer →
    IsMaking n s → AreOwn (past_of journal).made peer.label n →
    AreOwn (past_of (settle capacity (message_entry q (bytes_of s) ∷ journal))).made peer.label (n + 1)
makes_step capacity q n s journal peer e h own =
    let past : Past = past_of journal in
    let k : ℕ = length journal + 1 in
    let body : List ℕ = spelling s.message.values in
    let entry : Entry = entries.Message q s.object s.message.opcode body in
    let made : AreOwn ((means entry k past).made ++ past.made) peer.label (n + 1) =
    subst (λ (o : Option Joined). AreOwn ((of_peer o
    (λ other. of_message past k other s.message.opcode body (object_at past other.label s.object))).made ++ past.made)
    peer.label (n + 1)) (sym e)
    (message_makes past k n peer s (object_at past peer.label s.object) h own refl) in
    subst (λ (x : Entry). AreOwn (past_of (settle capacity (x ∷ journal))).made peer.label (n + 1))
    (sym (entry_is q n s h))
    (subst (λ (l : List Made). AreOwn l peer.label (n + 1)) (sym (step_made capacity entry journal)) made)

-- requests one after the other
abbrev pub AreMaking : ℕ → List Sent → Type 0
AreMaking n [] = Unit {0}
AreMaking n (s ∷ more) = IsMaking n s × AreMaking (n + 1) more

abbrev pub OwnTo : Joined → ℕ → Broker → Type 0
OwnTo peer n b = AreOwn (past_of b.journal).made peer.label n

all_make : (q n : ℕ) (ss : List Sent) (b : Broker) (peer : Joined) → peer_at (past_of b.journal) q ≡ Some peer →
    AreMaking n ss → OwnTo peer n b → OwnTo peer (n + length ss) (messages_sent q (bytes_each ss) b).now
unfolding messages_sent stepped
all_make q n [] b peer e h own = more_ids (past_of b.journal).made peer.label n (n + 0) (omega arith) own
all_make q n (s ∷ more) b peer e h own =
    let entry : Entry = message_entry q (bytes_of s) in
    by (lives b.journal q) (is_full b.limits b.journal entry)
    (all_make q (n + 1) more (with_step entry no_stamp b) peer
    (step_peer b.limits.store entry b.journal q peer e) h.1 (makes_step b.limits.store q n s b.journal peer e h.0 own))
  where
    stays : OwnTo peer (n + length (s ∷ more)) b
    stays = more_ids (past_of b.journal).made peer.label n (n + length (s ∷ more)) (omega arith) own

    by : (live full : Bool) →
        OwnTo peer ((n + 1) + length more)
        (messages_sent q (bytes_each more) (with_step (message_entry q (bytes_of s)) no_stamp b)).now →
        OwnTo peer (n + length (s ∷ more))
        (if live then (if full then halted b else went (with_step (message_entry q (bytes_of s)) no_stamp b))
        >>= messages_sent q (bytes_each more) else went b).now
    by false full k = stays
    by true true k = stays
    by true false k =
        more_ids _ peer.label ((n + 1) + length more) (n + length (s ∷ more)) (omega arith) k

-- the set-up
pub setup_makes : AreMaking 1 field_setup
unfolding is_utf8 chars encode
setup_makes = (
  record {
    short = record { object = omega arith; opcode = omega arith; size = omega arith };
    object = refl;
    interface = Registry;
    new = refl;
    there = refl;
    kinds = NewId ∷ [];
    row = refl;
    fit = (omega arith, tt);
    plain = λ tokens. (tt, tt);
  },
  (
    record {
      short = record { object = omega arith; opcode = omega arith; size = omega arith };
      object = refl;
      interface = Compositor;
      new = refl;
      there = refl;
      kinds = Uint ∷ Text ∷ Uint ∷ NewId ∷ [];
      row = refl;
      fit = (omega arith, (refl, (omega arith, (omega arith, tt))));
      plain = λ tokens. (tt, (tt, (tt, (tt, tt))));
    },
    (
      record {
        short = record { object = omega arith; opcode = omega arith; size = omega arith };
        object = refl;
        interface = Seat;
        new = refl;
        there = refl;
        kinds = Uint ∷ Text ∷ Uint ∷ NewId ∷ [];
        row = refl;
        fit = (omega arith, (refl, (omega arith, (omega arith, tt))));
        plain = λ tokens. (tt, (tt, (tt, (tt, tt))));
      },
      (
        record {
          short = record { object = omega arith; opcode = omega arith; size = omega arith };
          object = refl;
          interface = TextInputManager;
          new = refl;
          there = refl;
          kinds = Uint ∷ Text ∷ Uint ∷ NewId ∷ [];
          row = refl;
          fit = (omega arith, (refl, (omega arith, (omega arith, tt))));
          plain = λ tokens. (tt, (tt, (tt, (tt, tt))));
        },
        (
          record {
            short = record { object = omega arith; opcode = omega arith; size = omega arith };
            object = refl;
            interface = Surface;
            new = refl;
            there = refl;
            kinds = NewId ∷ [];
            row = refl;
            fit = (omega arith, tt);
            plain = λ tokens. (tt, tt);
          },
          (
            record {
              short = record { object = omega arith; opcode = omega arith; size = omega arith };
              object = refl;
              interface = TextInput;
              new = refl;
              there = refl;
              kinds = NewId ∷ Object ∷ [];
              row = refl;
              fit = (omega arith, (omega arith, tt));
              plain = λ tokens. (tt, (tt, tt));
            },
            tt,
          ),
        ),
      ),
    ),
  ),
)

pub setup_short : AreShortSent field_setup
setup_short = short_each 1 field_setup setup_makes
  where
    short_each : (n : ℕ) (ss : List Sent) → AreMaking n ss → AreShortSent ss
    short_each n [] h = tt
    short_each n (s ∷ more) h = (h.0.short, short_each (n + 1) more h.1)

-- after it the peer has the objects of its client, each once
pub setup_own : (q : ℕ) (b : Broker) (peer : Joined) → peer_at (past_of b.journal) q ≡ Some peer → OwnTo peer 1 b →
    OwnTo peer 7 (messages_sent q (bytes_each field_setup) b).now
setup_own q b peer e own = all_make q 1 field_setup b peer e setup_makes own
