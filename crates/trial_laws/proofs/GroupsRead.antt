-- What a client reads in the spelling of a group is its batch.
use Rattle.std.proofs.Common.{◌≡◌, ℕ, ◌^◌, ◌≤◌, ◌<◌, Bool, true, false, ◌&&◌, List, [], ◌∷◌, ◌++◌, length, Option, Some, ℤ, pos, negsuc, refl, sym, ap, ◌∙◌, arith}
use Rattle.std.specs.Prelude.{◌==◌, if◌then◌else◌, FitsSigned}
use Rattle.std.specs.Int.{w32}
use Rattle.wl_wire.specs.Texts.{is_text}
use Rattle.std.proofs.lemmas.List.{append-nil, append_assoc}
use Rattle.std.proofs.lemmas.Bool.{and_parts, eqb-true}
use Rattle.wl_wire.specs.Messages.{IsMessage, body_of, messages}
use Rattle.wl_proto.specs.declared.interface.Interface.TheVariants.{TextInput}
use Rattle.wl_proto.specs.declared.table.Kind.{Kind}
use Rattle.wl_proto.specs.declared.table.Kind.TheVariants.{Uint, Int, TextOrNull}
use Rattle.wl_proto.specs.declared.event.Event.{Event}
use Rattle.wl_proto.specs.declared.event.Event.TheVariants as events
use Rattle.wl_proto.specs.Grammar.{Value, word, signed, text}
use Rattle.wl_proto.specs.Rows.{Message, message, event_kinds}
use Rattle.wl_proto.specs.Reading.{all_read, by_row, event_reading}
use Rattle.wl_proto.specs.Spelling.{spelling, values_len, message_bytes}
use Rattle.wl_proto.specs.Spelled.{AreTokens, AreOfKinds}
use Rattle.wl_proto.proofs.ValuesReadBack.{values_complete, spelled_once}
use Rattle.wl_proto.proofs.WrittenIsWhole.{written_whole}
use Rattle.relay_model.specs.declared.said.Said.{Said}
use Rattle.relay_model.specs.declared.said.Said.TheVariants as said
use Rattle.relay_model.specs.Batch.{Deletion, Preedit, deletion_said, string_said, is_zero, is_no_preedit, preedit_said, group}
use Rattle.trial_field.specs.Log.{Batch, no_edits}
use Rattle.client_side.specs.Events.{object_in, field_objects}
use Rattle.broker_model.specs.Groups.{message_of, message_piece, said_piece}
use Rattle.trial_run.specs.Events.{event_of, lent}
use Rattle.trial_run.specs.Hearing.{event_read, event_to, event_in}
use Rattle.trial_run.proofs.FirstMessages.{first_is}
use Rattle.trial_laws.specs.FieldLogs.{then_events, events_in, happenings}
use Rattle.trial_laws.specs.RelayedBatches.{batches_in}
use Rattle.trial_laws.specs.TrialLaws.{GroupsAreRead}
use Rattle.trial_laws.proofs.RequestsWait.{no_messages}

-- ---- one event

-- the event that a part of a group is, where its values can be said
record IsSaid (s : Said) (e : Event) : Type 0 where
  opcode : ℕ
  values : List Value
  is : message_of [] s ≡ Some (message TextInput opcode values)
  kinds : List Kind
  row : event_kinds TextInput opcode ≡ Some kinds
  fit : AreOfKinds kinds values
  plain : AreTokens [] values
  size : values_len values ≤ 4088
  small : opcode < 2 ^ 16
  event : event_of (message TextInput opcode values) ≡ Some e

said_bytes : (s : Said) (e : Event) → IsSaid s e → List ℕ
said_bytes s e h = message_bytes 7 (message TextInput h.opcode h.values)

-- it is read as that event
reads : (opcode : ℕ) (values : List Value) (kinds : List Kind) (e : Event) → event_kinds TextInput opcode ≡ Some kinds →
    AreOfKinds kinds values → AreTokens [] values → values_len values ≤ 4088 → opcode < 2 ^ 16 →
    event_of (message TextInput opcode values) ≡ Some e →
    event_in field_objects (message_bytes 7 (message TextInput opcode values)) ≡ Some e
unfolding event_reading
reads opcode values kinds e row fit plain size small is =
    let m : List ℕ = message_bytes 7 (message TextInput opcode values) in
    let w = written_whole 7 (message TextInput opcode values) (omega arith) small (omega arith) in
    ap (λ id. event_to (object_in field_objects id) m) w.1
    ∙ ap (λ n. event_read (by_row TextInput n [] (body_of m) (event_kinds TextInput n))) w.2
    ∙ ap (λ (body : List ℕ). event_read (by_row TextInput opcode [] body (event_kinds TextInput opcode))) w.3
    ∙ ap (λ (o : Option (List Kind)). event_read (by_row TextInput opcode [] (spelling values) o)) row
    ∙ ap (λ (o : Option (List Value)). event_read (all_read TextInput opcode o))
    (values_complete [] kinds values (spelling values) (spelled_once kinds values fit (omega arith)) plain)
    ∙ is

-- ---- events in turn

-- the bytes are the messages of these events
record AreSaid (ss : List Said) (es : List Event) : Type 0 where
  heard : (more : List ℕ) → events_in (messages ((said_piece [] 7 ss).bytes ++ more)) ≡ es ++ events_in (messages more)

none_said : AreSaid [] []
none_said = record { heard = λ more. refl }

one_said : (s : Said) (e : Event) (ss : List Said) (es : List Event) → IsSaid s e → AreSaid ss es →
    AreSaid (s ∷ ss) (e ∷ es)
one_said s e ss es h k = record {
  heard = λ more.
      let x : Message = message TextInput h.opcode h.values in
      let m : List ℕ = message_bytes 7 x in
      let whole : IsMessage m = (written_whole 7 x (omega arith) h.small (let size = h.size in omega arith)).0 in
      let is : (said_piece [] 7 (s ∷ ss)).bytes ≡ m ++ (said_piece [] 7 ss).bytes =
      ap (λ (o : Option Message). (message_piece 7 o).bytes ++ (said_piece [] 7 ss).bytes) h.is in
      let one : event_in field_objects m ≡ Some e =
      reads h.opcode h.values h.kinds e h.row h.fit h.plain h.size h.small h.event in
      ap (λ (b : List ℕ). events_in (messages (b ++ more))) is
      ∙ ap (λ (b : List ℕ). events_in (messages b)) (append_assoc m (said_piece [] 7 ss).bytes more)
      ∙ ap events_in (first_is m ((said_piece [] 7 ss).bytes ++ more) whole)
      ∙ ap (λ (o : Option Event). then_events o (events_in (messages ((said_piece [] 7 ss).bytes ++ more)))) one
      ∙ ap (λ (l : List Event). e ∷ l) (k.heard more);
}

-- ---- the parts of a group

abbrev deletion_events : Deletion → List Event
deletion_events d = if (d.before == 0) && (d.after == 0) then [] else events.DeleteSurroundingText d.before d.after ∷ []

abbrev string_events : List ℕ → List Event
string_events t = if length t == 0 then [] else events.CommitString (Some (lent t)) ∷ []

abbrev preedit_events : Preedit → List Event
preedit_events p = if is_no_preedit p then [] else events.PreeditString (Some (lent p.text)) p.begin p.end ∷ []

done_said : (n : ℕ) → n < 2 ^ 32 → AreSaid (said.FieldDone n ∷ []) (events.TextInputDone n ∷ [])
done_said n l =
    one_said (said.FieldDone n) (events.TextInputDone n) [] []
    (record {
      opcode = 5;
      values = word n ∷ [];
      is = refl;
      kinds = Uint ∷ [];
      row = refl;
      fit = (l, tt);
      plain = (tt, tt);
      size = omega arith;
      small = omega arith;
      event = refl;
    }) none_said

-- so there are messages that spell an event
pub some_event : (ms : List (List ℕ)) × (e : Event) × (rest : List Event) × (events_in ms ≡ e ∷ rest)
some_event = (
  messages ((said_piece [] 7 (said.FieldDone 0 ∷ [])).bytes ++ []),
  events.TextInputDone 0,
  events_in (messages []),
  (done_said 0 (omega arith)).heard [],
)

-- and bytes that do
pub some_bytes : (bytes : List ℕ) × (e : Event) × (rest : List Event) × (events_in (messages bytes) ≡ e ∷ rest)
some_bytes = (
  (said_piece [] 7 (said.FieldDone 0 ∷ [])).bytes ++ [],
  events.TextInputDone 0,
  events_in (messages []),
  (done_said 0 (omega arith)).heard [],
)

preedit_first : (p : Preedit) (ss : List Said) (es : List Event) → is_text p.text ≡ true → length p.text ≤ 4075 →
    FitsSigned w32 p.begin → FitsSigned w32 p.end → AreSaid ss es →
    AreSaid (preedit_said p ++ ss) (preedit_events p ++ es)
preedit_first p ss es t l b e k = by (is_no_preedit p)
  where
    by : (none : Bool) → AreSaid ((if none then [] else said.Preedit p.text p.begin p.end ∷ []) ++ ss)
        ((if none then [] else events.PreeditString (Some (lent p.text)) p.begin p.end ∷ []) ++ es)
    by true = k
    by false =
        one_said (said.Preedit p.text p.begin p.end) (events.PreeditString (Some (lent p.text)) p.begin p.end) ss es
        (record {
          opcode = 2;
          values = text p.text ∷ signed p.begin ∷ signed p.end ∷ [];
          is = refl;
          kinds = TextOrNull ∷ Int ∷ Int ∷ [];
          row = refl;
          fit = (t, (b, (e, tt)));
          plain = (tt, (tt, (tt, tt)));
          size = omega arith;
          small = omega arith;
          event = refl;
        }) k

string_first : (t : List ℕ) (ss : List Said) (es : List Event) → is_text t ≡ true → length t ≤ 4083 → AreSaid ss es →
    AreSaid (string_said t ++ ss) (string_events t ++ es)
string_first t ss es is l k = by (length t == 0)
  where
    by : (none : Bool) → AreSaid ((if none then [] else said.CommitString t ∷ []) ++ ss)
        ((if none then [] else events.CommitString (Some (lent t)) ∷ []) ++ es)
    by true = k
    by false =
        one_said (said.CommitString t) (events.CommitString (Some (lent t))) ss es
        (record {
          opcode = 3;
          values = text t ∷ [];
          is = refl;
          kinds = TextOrNull ∷ [];
          row = refl;
          fit = (is, tt);
          plain = (tt, tt);
          size = omega arith;
          small = omega arith;
          event = refl;
        }) k

deletion_first : (d : Deletion) (ss : List Said) (es : List Event) → d.before < 2 ^ 32 → d.after < 2 ^ 32 →
    AreSaid ss es →
    AreSaid (deletion_said d ++ ss) (deletion_events d ++ es)
deletion_first d ss es a b k = by ((d.before == 0) && (d.after == 0))
  where
    by : (none : Bool) → AreSaid ((if none then [] else said.Delete d.before d.after ∷ []) ++ ss)
        ((if none then [] else events.DeleteSurroundingText d.before d.after ∷ []) ++ es)
    by true = k
    by false =
        one_said (said.Delete d.before d.after) (events.DeleteSurroundingText d.before d.after) ss es
        (record {
          opcode = 4;
          values = word d.before ∷ word d.after ∷ [];
          is = refl;
          kinds = Uint ∷ Uint ∷ [];
          row = refl;
          fit = (a, (b, tt));
          plain = (tt, (tt, tt));
          size = omega arith;
          small = omega arith;
          event = refl;
        }) k

-- ---- the edits that wait

abbrev with_deletion : Deletion → Batch
with_deletion d = record no_edits { before = d.before; after = d.after }

deletion_waits : (d : Deletion) (es : List Event) →
    happenings (deletion_events d ++ es) no_edits ≡ happenings es (with_deletion d)
deletion_waits d es = by ((d.before == 0) && (d.after == 0)) refl
  where
    by : (none : Bool) → ((d.before == 0) && (d.after == 0)) ≡ none →
        happenings ((if none then [] else events.DeleteSurroundingText d.before d.after ∷ []) ++ es) no_edits
        ≡ happenings es (with_deletion d)
    by true e =
        (let parts = and_parts (d.before == 0) (d.after == 0) e in
        ap (λ n. happenings es (record no_edits { before = n; after = 0 })) (sym (eqb-true d.before 0 parts.0))
        ∙ ap (λ n. happenings es (record no_edits { before = d.before; after = n })) (sym (eqb-true d.after 0 parts.1)))
    by false e = refl

empty_text : (t : List ℕ) → length t ≡ 0 → t ≡ []
empty_text [] e = refl
empty_text (x ∷ t) e = absurd (omega arith)

string_waits : (d : Deletion) (t : List ℕ) (es : List Event) →
    happenings (string_events t ++ es) (with_deletion d) ≡ happenings es (record (with_deletion d) { string = t })
string_waits d t es = by (length t == 0) refl
  where
    by : (none : Bool) → (length t == 0) ≡ none →
        happenings ((if none then [] else events.CommitString (Some (lent t)) ∷ []) ++ es) (with_deletion d)
        ≡ happenings es (record (with_deletion d) { string = t })
    by true e =
        ap (λ (s : List ℕ). happenings es (record (with_deletion d) { string = s }))
        (sym (empty_text t (eqb-true (length t) 0 e)))
    by false e = refl

zero_is : (z : ℤ) → is_zero z ≡ true → z ≡ pos 0
zero_is (pos n) e = ap pos (eqb-true n 0 e)
zero_is (negsuc n) e = cc

preedit_waits : (d : Deletion) (t : List ℕ) (p : Preedit) (es : List Event) →
    happenings (preedit_events p ++ es) (record (with_deletion d) { string = t })
    ≡ happenings es (record (with_deletion d) { string = t; preedit = p.text; begin = p.begin; end = p.end })
preedit_waits d t p es = by (is_no_preedit p) refl
  where
    by : (none : Bool) → is_no_preedit p ≡ none →
        happenings ((if none then [] else events.PreeditString (Some (lent p.text)) p.begin p.end ∷ []) ++ es)
        (record (with_deletion d) { string = t })
        ≡ happenings es (record (with_deletion d) { string = t; preedit = p.text; begin = p.begin; end = p.end })
    by true e =
        (let outer = and_parts ((length p.text == 0) && is_zero p.begin) (is_zero p.end) e in
        let inner = and_parts (length p.text == 0) (is_zero p.begin) outer.0 in
        ap (λ (x : List ℕ). happenings es (record (with_deletion d)
        { string = t; preedit = x; begin = pos 0; end = pos 0 }))
        (sym (empty_text p.text (eqb-true (length p.text) 0 inner.0)))
        ∙ ap (λ (x : ℤ). happenings es (record (with_deletion d)
        { string = t; preedit = p.text; begin = x; end = pos 0 }))
        (sym (zero_is p.begin inner.1))
        ∙ ap (λ (x : ℤ). happenings es (record (with_deletion d)
        { string = t; preedit = p.text; begin = p.begin; end = x }))
        (sym (zero_is p.end outer.1)))
    by false e = refl

-- ---- the whole

no_events : events_in (messages []) ≡ []
no_events = ap events_in no_messages

pub groups_read : GroupsAreRead
groups_read b n h =
    let d : Deletion = b.deletion in
    let p : Preedit = b.preedit in
    let done : List Event = events.TextInputDone n ∷ [] in
    let all : AreSaid (group b n) (deletion_events d ++ (string_events b.string ++ (preedit_events p ++ done))) =
    deletion_first d _ _ h.before h.after
    (string_first b.string _ _ h.string h.string_fits
    (preedit_first p _ _ h.preedit h.preedit_fits h.begin h.end (done_said n h.serial))) in
    let bytes : List ℕ = (said_piece [] 7 (group b n)).bytes in
    let es : List Event = deletion_events d ++ (string_events b.string ++ (preedit_events p ++ done)) in
    let heard : events_in (messages bytes) ≡ es =
    ap (λ (l : List ℕ). events_in (messages l)) (sym (append-nil bytes)) ∙ all.heard []
    ∙ ap (λ (l : List Event). es ++ l) no_events ∙ append-nil es in
    ap (λ (l : List Event). batches_in (happenings l no_edits)) heard
    ∙ ap batches_in (deletion_waits d (string_events b.string ++ (preedit_events p ++ done)))
    ∙ ap batches_in (string_waits d b.string (preedit_events p ++ done))
    ∙ ap batches_in (preedit_waits d b.string p done)
