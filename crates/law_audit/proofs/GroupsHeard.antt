-- What an application hears of its fields in all that is put for it are the groups that are put for them.
use Rattle.std.proofs.Common.{◌≡◌, ℕ, ◌+◌, ◌^◌, ◌<◌, ◌≤◌, Bool, true, false, ◌&&◌, List, [], ◌∷◌, ◌++◌, length, map, Option, Some, None, Ok, refl, sym, ap, ap₂, subst, ◌∙◌, arith, inr, length-append}
use Rattle.std.specs.Prelude.{◌==◌, if◌then◌else◌, IfSome}
use Rattle.std.specs.List.{AllByRecursion}
use Rattle.std.proofs.lemmas.List.{append-nil, append_assoc, take_at, drop_at}
use Rattle.std.proofs.lemmas.Bool.{eqb-true}
use Rattle.wl_wire.specs.Messages.{size_of, id_of, opcode_of, body_of, IsMessage, AreMessages, messages, joined}
use Rattle.wl_wire.proofs.SizeInHeader.{size_stays}
use Rattle.wl_wire.proofs.FirstMessages.{whole_tells}
use Rattle.wl_proto.specs.declared.interface.Interface.{Interface}
use Rattle.wl_proto.specs.declared.interface.Interface.TheVariants as interface
use Rattle.wl_proto.specs.Rows.{Message}
use Rattle.wl_proto.specs.Reading.{event_reading}
use Rattle.wl_proto.specs.Spelling.{message_bytes}
use Rattle.wl_proto.specs.Spelled.{AreTokens}
use Rattle.relay_model.specs.declared.said.Told.{Told}
use Rattle.relay_model.specs.declared.said.Said.{Said}
use Rattle.relay_model.specs.declared.said.Said.TheVariants as said
use Rattle.relay_model.specs.Hold.{holder}
use Rattle.relay_model.specs.Activation.{fresh}
use Rattle.relay_model.specs.Batch.{group_of}
use Rattle.relay_model.specs.Told.{to, to_holder, told}
use Rattle.broker_model.specs.declared.journal.Entry.{Entry}
use Rattle.broker_model.specs.Ids.{Made, log_of, made_as}
use Rattle.broker_model.specs.Groups.{message_of, followed_by}
use Rattle.broker_model.specs.Out.{Outgoing, act_at, act_now, group_at, before_group, out_for}
use Rattle.broker_model.specs.Queued.{is_put_for}
use Rattle.broker_model.specs.Resolve.{means, past_of, resolve}
use Rattle.broker_model.proofs.EachElement.{each_weaker, each_append}
use Rattle.broker_model.proofs.IdsAreNames.{IsIn, made_with}
use Rattle.audit_fields.specs.Heard.{Heard, heard_by, heard_in, heard, is_field_opcode}
use Rattle.audit_fields.proofs.MessagesPassed.{heard_is}
use Rattle.broker_telling.proofs.MessagesTold.{piece_messages, told_messages, joined_both, TellsSo, told_each, all_messages, are_both}
use Rattle.broker_telling.proofs.MessagesPut.{entry_messages, entry_bytes}
use Rattle.broker_telling.specs.Sayable.{AreHeld}
use Rattle.broker_telling.specs.ToldRead.{IsReadAs, IsToldRead}
use Rattle.broker_telling.proofs.ToldIsRead.{told_read}
use Rattle.law_audit.specs.AppObjects.{IsAppKind}
use Rattle.law_audit.specs.OwedGroups.{OwedAreGroups}
use Rattle.law_audit.specs.FieldGroups.{FieldGroup, group_to, group_now, groups_put, said_heard, group_heard, groups_heard, IsEdit, IsWhole}
use Rattle.law_audit.proofs.AppsHaveFields.{has_peer, app_kinds}
use Rattle.law_audit.proofs.OthersSayNothing.{field_heard, event_heard, told_heard, batch_told, batch_heard}
use Rattle.law_audit.proofs.PutGroupsQueued.{batch_whole}

-- ---- lists of messages

first_message : (m more : List ℕ) → IsMessage m → messages (m ++ more) ≡ m ∷ messages more
first_message m more is =
    let long : 8 ≤ length m = omega (arith, is.0.0, is.1) in
    let same : size_of (m ++ more) ≡ size_of m = size_stays m more long in
    let tells =
    whole_tells (m ++ more) (size_of m) (sym same) is.0 (omega (arith, is.1, length-append m more)) in
    tells.0
    ∙ ap₂ (λ (a b : List ℕ). a ∷ messages b) (take_at m more (size_of m) is.1) (drop_at m more (size_of m) is.1)

pub no_messages : messages [] ≡ []
unfolding messages
no_messages = refl

messages_joined : (ms : List (List ℕ)) → AreMessages ms → messages (joined ms) ≡ ms
messages_joined [] h = no_messages
messages_joined (m ∷ ms) h =
    first_message m (joined ms) h.0 ∙ ap (λ (r : List (List ℕ)). m ∷ r) (messages_joined ms h.1)

heard-append : (xs ys : List (List ℕ)) → heard_in (xs ++ ys) ≡ heard_in xs ++ heard_in ys
heard-append [] ys = refl
heard-append (x ∷ xs) ys =
    ap (λ (r : List Heard). heard_by (id_of x) (opcode_of x) (body_of x) ++ r) (heard-append xs ys)
    ∙ sym (append_assoc (heard_by (id_of x) (opcode_of x) (body_of x)) (heard_in xs) (heard_in ys))

-- ---- one event

-- a message with another opcode
says_nothing : (object : Made) (m : Message) → IsReadAs object m → is_field_opcode m.opcode ≡ false →
    heard_in (message_bytes object.id m ∷ []) ≡ []
says_nothing object m r e =
    let bytes : List ℕ = message_bytes object.id m in
    ap (λ (t : Bool). (if t then record {
      id = id_of bytes;
      reading = event_reading interface.TextInput (opcode_of bytes) [] (body_of bytes);
    } ∷ [] else []) ++ []) (ap is_field_opcode r.opcode ∙ e)

-- a message of a field
says_itself : (object : Made) (m : Message) → IsReadAs object m → m.interface ≡ interface.TextInput →
    AreTokens [] m.values → is_field_opcode m.opcode ≡ true →
    heard_in (message_bytes object.id m ∷ []) ≡ record { id = object.id; reading = Ok m } ∷ []
says_itself object m r i plain e =
    let bytes : List ℕ = message_bytes object.id m in
    let reads : event_reading interface.TextInput (opcode_of bytes) [] (body_of bytes) ≡ Ok m =
    subst (λ (x : Interface). event_reading x (opcode_of bytes) [] (body_of bytes) ≡ Ok m) (sym r.interface ∙ i)
    (r.reads [] plain) in
    ap (λ (t : Bool). (if t then record {
      id = id_of bytes;
      reading = event_reading interface.TextInput (opcode_of bytes) [] (body_of bytes);
    } ∷ [] else []) ++ []) (ap is_field_opcode r.opcode ∙ e)
    ∙ ap₂ (λ n x. record { id = n; reading = x } ∷ []) r.to reads

-- no object of an application has the message's interface
no_object : {A : Type 0} (object : Made) (m : Message) → IsReadAs object m → IsAppKind object.interface →
    (IsAppKind m.interface → ⊥) → A
no_object object m r k never = absurd (never (subst IsAppKind (sym r.interface) k))

abbrev message_list : ℕ → Option Message → List (List ℕ)
message_list id None = []
message_list id (Some m) = message_bytes id m ∷ []

event_said : (made : List Made) (object : Made) (event : Said) → IsAppKind object.interface →
    IfSome (message_of made event) (IsReadAs object) →
    heard_in (message_list object.id (message_of made event)) ≡ field_heard object.id event
event_said made object (said.Preedit text begin end) k r =
    says_itself object _ r refl (tt, (tt, (tt, tt))) refl
event_said made object (said.CommitString text) k r = says_itself object _ r refl (tt, tt) refl
event_said made object (said.Delete before after) k r = says_itself object _ r refl (tt, (tt, tt)) refl
event_said made object (said.FieldDone serial) k r = says_itself object _ r refl (tt, tt) refl
event_said made object (said.Surrounding text cursor anchor) k r = no_object object _ r k (λ h. h)
event_said made object (said.ChangeCause cause) k r = no_object object _ r k (λ h. h)
event_said made object (said.ContentType hint purpose) k r = no_object object _ r k (λ h. h)
event_said made object said.MethodDone k r = no_object object _ r k (λ h. h)
event_said made object (said.Mods serial mods) k r = no_object object _ r k (λ h. h)
event_said made object (said.Repeat repeat) k r = no_object object _ r k (λ h. h)
event_said made object (said.Pass time key state) k r = refl
event_said made object (said.VMods mods) k r = refl
event_said made object (said.Placed popup x y) k r = refl
event_said made object _ k r = says_nothing object _ r refl

-- ---- what an entry tells

-- the objects of the peer are those of applications
abbrev pub AreAppKinds : List Made → ℕ → Type 0
AreAppKinds made p = (m : Made) → IsIn made m → m.peer ≡ p → IsAppKind m.interface

piece_said : (made : List Made) (p : ℕ) (t : Told) (o : Option Made) → made_as made t.to ≡ o →
    AreAppKinds made p → IsToldRead made t → heard_in (piece_messages made p t.event o) ≡ event_heard p t.event o
piece_said made p t None e k h = refl
piece_said made p t (Some m) e k h = by (m.peer == p) refl
  where
    by : (b : Bool) → (m.peer == p) ≡ b →
        heard_in (if b then message_list m.id (message_of made t.event) else [])
        ≡ (if b then field_heard m.id t.event else [])
    by true q = event_said made m t.event (k m (made_with made t.to m e).among (eqb-true m.peer p q)) (h m e)
    by false q = refl

told_said : (made : List Made) (p : ℕ) (ts : List Told) → AreAppKinds made p → AllByRecursion (IsToldRead made) ts →
    heard_in (told_messages made p ts) ≡ told_heard made p ts
told_said made p [] k h = refl
told_said made p (t ∷ ts) k h =
    heard-append (piece_messages made p t.event (made_as made t.to)) (told_messages made p ts)
    ∙ ap₂ (λ (a b : List Heard). a ++ b) (piece_said made p t (made_as made t.to) refl k h.0)
    (told_said made p ts k h.1)

-- ---- the batch of an entry

abbrev IsPart : Said → Type 0
IsPart (said.Preedit text begin end) = Unit {0}
IsPart (said.CommitString text) = Unit {0}
IsPart (said.Delete before after) = Unit {0}
IsPart (said.FieldDone serial) = Unit {0}
IsPart _ = ⊥

edit_part : (s : Said) → IsEdit s → IsPart s
edit_part (said.Preedit text begin end) h = tt
edit_part (said.CommitString text) h = tt
edit_part (said.Delete before after) h = tt
edit_part _ h = absurd h

whole_parts : (g : FieldGroup) → IsWhole g → AllByRecursion IsPart g.group
whole_parts g w =
    subst (λ (l : List Said). AllByRecursion IsPart l) (sym w.is)
    (each_append IsPart w.edits (said.FieldDone w.count ∷ []) (each_weaker IsEdit IsPart w.edits edit_part w.each)
    (tt, tt))

part_heard : (id : ℕ) (s : Said) → IsPart s → field_heard id s ≡ said_heard id (message_of [] s)
part_heard id (said.Preedit text begin end) h = refl
part_heard id (said.CommitString text) h = refl
part_heard id (said.Delete before after) h = refl
part_heard id (said.FieldDone serial) h = refl
part_heard id _ h = absurd h

-- a group to an object
abbrev heard_at : ℕ → List Said → Option Made → List Heard
heard_at p group None = []
heard_at p group (Some m) = if m.peer == p then group_heard m.id group else []

one_more : (p : ℕ) (s : Said) (more : List Said) (o : Option Made) → IsPart s →
    event_heard p s o ++ heard_at p more o ≡ heard_at p (s ∷ more) o
one_more p s more None h = refl
one_more p s more (Some m) h = by (m.peer == p)
  where
    by : (b : Bool) → (if b then field_heard m.id s else []) ++ (if b then group_heard m.id more else [])
        ≡ (if b then said_heard m.id (message_of [] s) ++ group_heard m.id more else [])
    by true = ap (λ (l : List Heard). l ++ group_heard m.id more) (part_heard m.id s h)
    by false = refl

none_at : (p : ℕ) (o : Option Made) → heard_at p [] o ≡ []
none_at p None = refl
none_at p (Some m) = by (m.peer == p)
  where
    by : (b : Bool) → (if b then group_heard m.id [] else []) ≡ []
    by true = refl
    by false = refl

map_heard : (made : List Made) (p f : ℕ) (group : List Said) → AllByRecursion IsPart group →
    told_heard made p (map (to f) group) ≡ heard_at p group (made_as made f)
map_heard made p f [] h = sym (none_at p (made_as made f))
map_heard made p f (s ∷ more) h =
    ap (λ (l : List Heard). event_heard p s (made_as made f) ++ l) (map_heard made p f more h.1)
    ∙ one_more p s more (made_as made f) h.0

found : (w x y : Bool) (one : FieldGroup) → w ≡ true → y ≡ true →
    (if x then group_heard one.id one.group else []) ≡ groups_heard (if w && x && y then one ∷ [] else [])
found true true true one q r = sym (append-nil (group_heard one.id one.group))
found true false y one q r = refl
found true true false one q r = cc
found false x y one q r = cc

stale : (w x y : Bool) (one : FieldGroup) → w ≡ false → groups_heard (if w && x && y then one ∷ [] else []) ≡ []
stale false x y one q = refl
stale true x y one q = cc

to_found : (capacity : ℕ) (e : Entry) (older : List Entry) (p f : ℕ) (o : Option Made) →
    fresh (act_now e older) (log_of (past_of older)) ≡ true → is_put_for capacity e older (Some p) ≡ true →
    heard_at p (group_of (act_now e older) (log_of (past_of older)) f) o
    ≡ groups_heard (group_to capacity e older p f o)
to_found capacity e older p f None q put = refl
to_found capacity e older p f (Some m) q put =
    found (fresh (act_now e older) (log_of (past_of older))) (m.peer == p) (is_put_for capacity e older (Some p))
    (record {
      field = f;
      id = m.id;
      group = group_of (act_now e older) (log_of (past_of older)) f;
    }) q put

to_stale : (capacity : ℕ) (e : Entry) (older : List Entry) (p f : ℕ) (o : Option Made) →
    fresh (act_now e older) (log_of (past_of older)) ≡ false → groups_heard (group_to capacity e older p f o) ≡ []
to_stale capacity e older p f None q = refl
to_stale capacity e older p f (Some m) q =
    stale (fresh (act_now e older) (log_of (past_of older))) (m.peer == p) (is_put_for capacity e older (Some p))
    (record {
      field = f;
      id = m.id;
      group = group_of (act_now e older) (log_of (past_of older)) f;
    }) q

-- where what the peer is told is put, it hears in the batch the group of its field
batch_said : (capacity : ℕ) (e : Entry) (older : List Entry) (p : ℕ) → is_put_for capacity e older (Some p) ≡ true →
    told_heard (past_of (e ∷ older)).made p (batch_told (act_now e older) (log_of (past_of older)))
    ≡ groups_heard (group_now capacity e older p (holder (log_of (past_of older))))
batch_said capacity e older p put =
    by (fresh (act_now e older) (log_of (past_of older))) refl (holder (log_of (past_of older)))
  where
    by : (b : Bool) → fresh (act_now e older) (log_of (past_of older)) ≡ b → (o : Option ℕ) →
        told_heard (past_of (e ∷ older)).made p
        (if b then to_holder (act_now e older) (log_of (past_of older)) o else [])
        ≡ groups_heard (group_now capacity e older p o)
    by true q None = refl
    by false q None = refl
    by true q (Some f) =
        map_heard (past_of (e ∷ older)).made p f (group_of (act_now e older) (log_of (past_of older)) f)
        (whole_parts (record {
          field = f;
          id = 0;
          group = group_of (act_now e older) (log_of (past_of older)) f;
        }) (batch_whole (act_now e older) (log_of (past_of older)) f 0 q))
        ∙ to_found capacity e older p f (made_as (past_of (e ∷ older)).made f) q put
    by false q (Some f) = sym (to_stale capacity e older p f (made_as (past_of (e ∷ older)).made f) q)

-- and where it isn't, no group was put
nothing_put : (capacity : ℕ) (e : Entry) (older : List Entry) (p : ℕ) (o : Option ℕ) →
    is_put_for capacity e older (Some p) ≡ false → groups_heard (group_now capacity e older p o) ≡ []
nothing_put capacity e older p None q = refl
nothing_put capacity e older p (Some f) q = by (made_as (past_of (e ∷ older)).made f)
  where
    within : (w x y : Bool) (one : FieldGroup) → y ≡ false → groups_heard (if w && x && y then one ∷ [] else []) ≡ []
    within true true false one r = refl
    within true false y one r = refl
    within false x y one r = refl
    within true true true one r = cc

    by : (o : Option Made) → groups_heard (group_to capacity e older p f o) ≡ []
    by None = refl
    by (Some m) =
        within (fresh (act_now e older) (log_of (past_of older))) (m.peer == p) (is_put_for capacity e older (Some p))
        (record {
          field = f;
          id = m.id;
          group = group_of (act_now e older) (log_of (past_of older)) f;
        }) q

-- ---- all entries

pub groups-append : (xs ys : List FieldGroup) → groups_heard (xs ++ ys) ≡ groups_heard xs ++ groups_heard ys
groups-append [] ys = refl
groups-append (g ∷ xs) ys =
    ap (λ (l : List Heard). group_heard g.id g.group ++ l) (groups-append xs ys)
    ∙ sym (append_assoc (group_heard g.id g.group) (groups_heard xs) (groups_heard ys))

-- what is asked of a journal, and of those before
record Asks (p : ℕ) (journal : List Entry) : Type 0 where
  held : AreHeld journal
  few : length journal < 2 ^ 32
  kinds : AreAppKinds (past_of journal).made p

in_older : (new made : List Made) (m : Made) → IsIn made m → IsIn (new ++ made) m
in_older [] made m i = i
in_older (x ∷ new) made m i = inr (in_older new made m i)

asks_before : (p : ℕ) (e : Entry) (older : List Entry) → Asks p (e ∷ older) → Asks p older
asks_before p e older a = record {
  held = a.held.1;
  few = (let few = a.few in omega arith);
  kinds = λ m i own. a.kinds m
      (in_older (means e (length older + 1) (past_of older)).made (past_of older).made m i) own;
}

-- messages that say this
record Spell (bytes : List ℕ) (hs : List Heard) : Type 0 where
  list : List (List ℕ)
  is : bytes ≡ joined list
  whole : AreMessages list
  says : heard_in list ≡ hs

entry_spells : (capacity : ℕ) (e : Entry) (older : List Entry) (p : ℕ) → Asks p (e ∷ older) →
    is_put_for capacity e older (Some p) ≡ true →
    Spell (group_at e older p).bytes (groups_heard (group_now capacity e older p (holder (log_of (past_of older)))))
entry_spells capacity e older p a put =
    let made : List Made = (past_of (e ∷ older)).made in
    let ts : List Told = told (act_at e older) (resolve older) in
    let read : AllByRecursion (IsToldRead made) ts = told_read e older a.held a.few in
    record {
      list = entry_messages e older p;
      is = entry_bytes e older p;
      whole = all_messages (entry_messages e older p)
          (told_each made p IsMessage ts (each_weaker (IsToldRead made) (TellsSo made p IsMessage) ts
          (λ t r m is own x q. whole_one m x (message_of made t.event) q (r m is)) read));
      says =
          told_said made p ts a.kinds read ∙ batch_heard made p (act_now e older) (log_of (past_of older))
          ∙ batch_said capacity e older p put;
    }
  where
    whole_one : (m : Made) (x : Message) (o : Option Message) → o ≡ Some x → IfSome o (IsReadAs m) →
        IsMessage (message_bytes m.id x)
    whole_one m x o q h =
        (let r = subst (λ (u : Option Message). IfSome u (IsReadAs m)) q h in r.whole)

spell_both : (a b : List ℕ) (xs ys : List FieldGroup) → Spell a (groups_heard xs) → Spell b (groups_heard ys) →
    Spell (a ++ b) (groups_heard (xs ++ ys))
spell_both a b xs ys h k = record {
  list = h.list ++ k.list;
  is = ap₂ (λ (x y : List ℕ). x ++ y) h.is k.is ∙ sym (joined_both h.list k.list);
  whole = are_both h.list k.list h.whole k.whole;
  says =
      heard-append h.list k.list ∙ ap₂ (λ (x y : List Heard). x ++ y) h.says k.says ∙ sym (groups-append xs ys);
}

all_spell : (capacity : ℕ) (journal : List Entry) (p : ℕ) → Asks p journal →
    Spell (out_for capacity journal p).put.bytes (groups_heard (groups_put capacity journal p))
all_spell capacity [] p a = record { list = []; is = refl; whole = tt; says = refl }
all_spell capacity (e ∷ older) p a =
    by (is_put_for capacity e older (Some p)) refl (all_spell capacity older p (asks_before p e older a))
  where
    now : List FieldGroup
    now = group_now capacity e older p (holder (log_of (past_of older)))

    out : Outgoing
    out = before_group e older p (out_for capacity older p)

    by : (b : Bool) → is_put_for capacity e older (Some p) ≡ b →
        Spell (out_for capacity older p).put.bytes (groups_heard (groups_put capacity older p)) →
        Spell (if b then record out { put = followed_by out.put (group_at e older p) }
        else record out { choked = true }).put.bytes
        (groups_heard (groups_put capacity older p ++ now))
    by true q h =
        spell_both (out_for capacity older p).put.bytes (group_at e older p).bytes (groups_put capacity older p) now h
        (entry_spells capacity e older p a q)
    by false q h = record {
      list = h.list;
      is = h.is;
      whole = h.whole;
      says =
          h.says
          ∙ sym (groups-append (groups_put capacity older p) now
          ∙ ap (λ (l : List Heard). groups_heard (groups_put capacity older p) ++ l)
          (nothing_put capacity e older p (holder (log_of (past_of older))) q)
          ∙ append-nil (groups_heard (groups_put capacity older p)));
    }

-- what a peer with an application's objects hears in all that is put for it
put_heard : (capacity : ℕ) (journal : List Entry) (p : ℕ) → AreHeld journal → length journal < 2 ^ 32 →
    AreAppKinds (past_of journal).made p →
    heard (out_for capacity journal p).put.bytes ≡ groups_heard (groups_put capacity journal p)
put_heard capacity journal p held few kinds =
    let s = all_spell capacity journal p (record { held = held; few = few; kinds = kinds }) in
    heard_is (out_for capacity journal p).put.bytes
    ∙ ap (λ (l : List ℕ). heard_in (messages l)) s.is
    ∙ ap heard_in (messages_joined s.list s.whole)
    ∙ s.says

pub owed_groups : OwedAreGroups
owed_groups capacity journal q peer held few joined app =
    put_heard capacity journal peer.label held few
    (app_kinds journal peer (has_peer (past_of journal).joined q peer joined) app)
