-- The batches that the bytes for a field's peer tell its client are those that were queued for the field.
use Rattle.std.proofs.Common.{◌≡◌, ℕ, ◌+◌, ◌≤◌, List, [], ◌∷◌, ◌++◌, length, map, Bool, true, false, ◌&&◌, Option, Some, None, ap, refl, sym, ◌∙◌, subst, arith, inr}
use Rattle.std.specs.Prelude.{if◌then◌else◌, ◌==◌, is_some, is_none}
use Rattle.std.specs.List.{AllByRecursion}
use Rattle.std.proofs.lemmas.List.{append-nil, append_assoc}
use Rattle.std.proofs.lemmas.Bool.{eq-eqb, eqb-true}
use Rattle.std.proofs.lemmas.Option.{same_Some}
use Rattle.wl_wire.specs.Messages.{IsMessage, AreMessages, messages, joined}
use Rattle.wl_proto.specs.declared.interface.Interface.TheVariants as interface
use Rattle.wl_proto.specs.Grammar.{word}
use Rattle.wl_proto.specs.Rows.{Message, message}
use Rattle.wl_proto.specs.Spelling.{message_bytes}
use Rattle.relay_model.specs.declared.act.Act.{Act}
use Rattle.relay_model.specs.declared.act.Act.TheVariants as acts
use Rattle.relay_model.specs.declared.said.Told.{Told}
use Rattle.relay_model.specs.declared.said.Said.{Said}
use Rattle.relay_model.specs.declared.said.Said.TheVariants as said
use Rattle.relay_model.specs.Objects.{is_at, peer_of}
use Rattle.relay_model.specs.Hold.{holder}
use Rattle.relay_model.specs.Activation.{serving, notice, deactivates, fresh}
use Rattle.relay_model.specs.Batch.{Batch, batch, commit_count, deletion_said, string_said, is_no_preedit, preedit_said, group_of}
use Rattle.relay_model.specs.Told.{to, to_method, told_by, told}
use Rattle.relay_model.proofs.ActsOrIdle.{IsHistory, history_is}
use Rattle.relay_model.proofs.FocusLaws.{IsSteady}
use Rattle.relay_model.proofs.HoldLaws.{kept_same}
use Rattle.client_side.specs.Happenings.{Happening}
use Rattle.broker_model.specs.declared.journal.Entry.{Entry}
use Rattle.broker_model.specs.Ids.{Made, log_of, made_as}
use Rattle.broker_model.specs.Law.{maker_of, IsAlone, is_entering}
use Rattle.broker_model.specs.Groups.{message_of, said_piece, message_piece, followed_by}
use Rattle.broker_model.specs.Out.{act_at, act_now, group_at, fits, before_group, out_for}
use Rattle.broker_model.specs.Queued.{relays, is_put_for, is_put, queued}
use Rattle.broker_model.specs.Resolve.{past_of, resolve, means}
use Rattle.broker_model.proofs.IdsAreNames.{IsIn, made_with}
use Rattle.broker_model.proofs.OwnersLive.{maker_stays}
use Rattle.broker_model.proofs.LivePeersJoined.{length_log}
use Rattle.broker_model.proofs.MadeObjectsStand.{sound}
use Rattle.broker_model.proofs.BatchGroupsWhole.{whole_groups}
use Rattle.relay_objects.specs.Fits.{FitsMessage}
use Rattle.broker_telling.specs.Tells.{IsShort}
use Rattle.broker_core.proofs.ActTextsFit.{IsBodyShort, act_fits}
use Rattle.broker_core.proofs.ToldMessagesFit.{all_short}
use Rattle.broker_model.proofs.EachElement.{either_way, each_append}
use Rattle.trial_run.proofs.FirstMessages.{found_first}
use Rattle.trial_laws.specs.RelayedBatches.{batches_in, group_told, groups_told}
use Rattle.trial_laws.specs.FieldLogs.{events_in, happenings}
use Rattle.trial_field.specs.Log.{no_edits}
use Rattle.trial_laws.proofs.HeardInPieces.{waiting}
use Rattle.trial_laws.proofs.ClientIds.{AreOwn}
use Rattle.trial_laws.proofs.RequestsWait.{no_messages}
use Rattle.trial_laws.proofs.GroupsHeard.{IsSpelled, Tells, tells_nothing, GroupOf, tells_more, IsStillMessage, still_group, done_waits, IsHeaded, headed}
use Rattle.broker_telling.proofs.MessagesTold.{piece_messages, told_messages, joined_both, TellsSo, told_each, all_messages, are_both}
use Rattle.broker_telling.proofs.MessagesPut.{entry_messages, entry_bytes}
use Rattle.broker_model.proofs.ToldToFields.{IsWell, told_entering}

-- ---- what a fresh batch tells

commit_steady : (m serial : ℕ) → IsSteady (acts.MCommit m serial)
commit_steady m serial = record { keeps = λ x o. refl; last = λ log. refl; since = λ log. refl }

held_or_not : (o : Option ℕ) → (is_some o && is_none o) ≡ false
held_or_not None = refl
held_or_not (Some h) = refl

no_notice : (m serial : ℕ) (log : List Act) → IsHistory log → notice (acts.MCommit m serial) log ≡ None
no_notice m serial log i =
    let same : holder (acts.MCommit m serial ∷ log) ≡ holder log =
    kept_same (acts.MCommit m serial) log i (commit_steady m serial) in
    let no : deactivates (acts.MCommit m serial) log ≡ false =
    ap (λ o. is_some (holder log) && is_none o) same ∙ held_or_not (holder log) in
    rw no refl

no_method : (m serial : ℕ) (log : List Act) (o : Option ℕ) → IsHistory log →
    to_method (acts.MCommit m serial) log o ≡ []
no_method m serial log None i = refl
no_method m serial log (Some s) i = rw (no_notice m serial log i) refl

fresh_told : (act : Act) (log : List Act) (f : ℕ) → IsHistory log → fresh act log ≡ true → holder log ≡ Some f →
    told_by act log ≡ map (to f) (group_of act log f)
fresh_told (acts.MCommit m serial) log f i h e =
    rw (no_method m serial log (serving (acts.MCommit m serial ∷ log)) i, h, e) refl
fresh_told _ log f i h e = cc

both : (a b : Bool) → (a && b) ≡ true → (a ≡ true) × (b ≡ true)
both true true h = (refl, refl)
both true false h = cc
both false b h = cc

at_is : (o : Option ℕ) (f : ℕ) → is_at o f ≡ true → o ≡ Some f
at_is None f e = cc
at_is (Some g) f e = ap Some (eqb-true g f e)

-- the group of a batch: edits, and then its done
record IsGroup (group : List Said) : Type 0 where
  edits : List Said
  count : ℕ
  is : group ≡ edits ++ said.FieldDone count ∷ []

batch_group : (act : Act) (log : List Act) (f : ℕ) → fresh act log ≡ true → IsGroup (group_of act log f)
batch_group (acts.MCommit m serial) log f h =
    let b : Batch = batch log m in
    let n : ℕ = commit_count log f in
    record {
      edits = deletion_said b.deletion ++ (string_said b.string ++ preedit_said b.preedit);
      count = n;
      is =
          ap (λ (l : List Said). deletion_said b.deletion ++ l)
          (sym (append_assoc (string_said b.string) (preedit_said b.preedit) (said.FieldDone n ∷ [])))
          ∙ sym (append_assoc (deletion_said b.deletion) (string_said b.string ++ preedit_said b.preedit)
          (said.FieldDone n ∷ []));
    }
batch_group _ log f h = cc

-- its messages are the same whatever was made

abbrev IsPart : Said → Type 0
IsPart (said.Preedit text begin end) = Unit {0}
IsPart (said.CommitString text) = Unit {0}
IsPart (said.Delete before after) = Unit {0}
IsPart (said.FieldDone serial) = Unit {0}
IsPart _ = ⊥

same_message : (made : List Made) (s : Said) → IsPart s → message_of made s ≡ message_of [] s
same_message made (said.Preedit text begin end) h = refl
same_message made (said.CommitString text) h = refl
same_message made (said.Delete before after) h = refl
same_message made (said.FieldDone serial) h = refl
same_message made _ h = absurd h

same_piece : (made : List Made) (id : ℕ) (ss : List Said) → AllByRecursion IsPart ss →
    said_piece made id ss ≡ said_piece [] id ss
same_piece made id [] h = refl
same_piece made id (s ∷ ss) h =
    ap (λ o. followed_by (message_piece id o) (said_piece made id ss)) (same_message made s h.0)
    ∙ ap (followed_by (message_piece id (message_of [] s))) (same_piece made id ss h.1)

group_parts : (act : Act) (log : List Act) (f : ℕ) → fresh act log ≡ true → AllByRecursion IsPart (group_of act log f)
group_parts (acts.MCommit m serial) log f h =
    let b : Batch = batch log m in
    each_append IsPart (deletion_said b.deletion) _
    (either_way (AllByRecursion IsPart) ((b.deletion.before == 0) && (b.deletion.after == 0)) []
    (said.Delete b.deletion.before b.deletion.after ∷ []) tt (tt, tt))
    (each_append IsPart (string_said b.string) _
    (either_way (AllByRecursion IsPart) (length b.string == 0) [] (said.CommitString b.string ∷ []) tt (tt, tt))
    (each_append IsPart (preedit_said b.preedit) (said.FieldDone (commit_count log f) ∷ [])
    (either_way (AllByRecursion IsPart) (is_no_preedit b.preedit) []
    (said.Preedit b.preedit.text b.preedit.begin b.preedit.end ∷ []) tt (tt, tt)) (tt, tt)))
group_parts _ log f h = cc

-- ---- the messages of one entry

-- all entries are as short as messages are
abbrev pub AreShortBodies : List Entry → Type 0
AreShortBodies journal = AllByRecursion IsBodyShort journal

pub all_fit : (journal : List Entry) → AreShortBodies journal → AllByRecursion FitsMessage (resolve journal)
all_fit [] h = tt
all_fit (e ∷ older) h = (act_fits e older h.0, all_fit older h.1)

-- the field f is the peer's one text input, if it was made
pub record IsInput (journal : List Entry) (p f : ℕ) : Type 0 where
  pub own : AreOwn (past_of journal).made p 7
  pub mine : (m : Made) → IsIn (past_of journal).made m → m.label ≡ f → (m.peer ≡ p) × (m.id ≡ 7)
  pub only : (m : Made) → IsIn (past_of journal).made m → m.peer ≡ p → m.id ≡ 7 → m.label ≡ f
  pub maker : f ≤ length journal → maker_of (log_of (past_of journal)) f ≡ Some p

in_older : (new made : List Made) (m : Made) → IsIn made m → IsIn (new ++ made) m
in_older [] made m i = i
in_older (x ∷ new) made m i = inr (in_older new made m i)

-- so it was before
input_before : (e : Entry) (older : List Entry) (p f : ℕ) → IsInput (e ∷ older) p f → IsInput older p f
input_before e older p f h =
    let new : List Made = (means e (length older + 1) (past_of older)).made in
    let made : List Made = (past_of older).made in
    record {
      own = record {
        within = λ m i s. h.own.within m (in_older new made m i) s;
        known = λ m i s. h.own.known m (in_older new made m i) s;
        once = λ a b i j s t q. h.own.once a b (in_older new made a i) (in_older new made b j) s t q;
      };
      mine = λ m i s. h.mine m (in_older new made m i) s;
      only = λ m i s t. h.only m (in_older new made m i) s t;
      maker = λ l.
          sym (maker_stays (act_now e older) (log_of (past_of older)) f
          (let n = length_log older in omega arith)) ∙ h.maker (omega arith);
    }

each_also : {A : Type 0} (P Q : A → Type 0) (xs : List A) → ((x : A) → P x → Q x) → AllByRecursion P xs →
    AllByRecursion Q xs
each_also P Q [] f h = tt
each_also P Q (x ∷ xs) f h = (f x h.0, each_also P Q xs f h.1)

-- each is a message to an object of the peer
told_headed : (e : Entry) (older : List Entry) (p f : ℕ) → IsInput (e ∷ older) p f → (t : Told) → IsShort t →
    (m : Made) → made_as (past_of (e ∷ older)).made t.to ≡ Some m → m.peer ≡ p → (x : Message) →
    message_of (past_of (e ∷ older)).made t.event ≡ Some x → IsHeaded m.id x
told_headed e older p f h t s m is own x q =
    headed (past_of (e ∷ older)).made m.id t x
    (h.own.within m (made_with (past_of (e ∷ older)).made t.to m is).among own) s q

entry_whole : (e : Entry) (older : List Entry) (p f : ℕ) → IsInput (e ∷ older) p f → AreShortBodies (e ∷ older) →
    AreMessages (entry_messages e older p)
entry_whole e older p f h short =
    let made : List Made = (past_of (e ∷ older)).made in
    let ts : List Told = told (act_at e older) (resolve older) in
    all_messages (told_messages made p ts)
    (told_each made p IsMessage ts
    (each_also IsShort (TellsSo made p IsMessage) ts
    (λ t s m is own x q. (told_headed e older p f h t s m is own x q).whole)
    (all_short (act_at e older) (resolve older) (act_fits e older short.0) (all_fit older short.1))))

-- ---- an entry that relays nothing to the field

lazily : {A : Type 0} (H : Type 0) (P : A → Type 0) (xs : List A) → (H → AllByRecursion P xs) →
    AllByRecursion (λ x. H → P x) xs
lazily H P [] k = tt
lazily H P (x ∷ xs) k = ((λ h. (k h).0), lazily H P xs (λ h. (k h).1))

each_pair : {A : Type 0} (P Q R : A → Type 0) (xs : List A) → ((x : A) → P x → Q x → R x) → AllByRecursion P xs →
    AllByRecursion Q xs → AllByRecursion R xs
each_pair P Q R [] f h k = tt
each_pair P Q R (x ∷ xs) f h k = (f x h.0 k.0, each_pair P Q R xs f h.1 k.1)

entering_opcode : (made : List Made) (s : Said) (x : Message) → is_entering s ≡ true → message_of made s ≡ Some x →
    x.opcode ≤ 1
entering_opcode made (said.Enter surface) x h e =
    (let same = ap (λ (m : Message). m.opcode) (same_Some _ x e) in omega arith)
entering_opcode made (said.Leave surface) x h e =
    (let same = ap (λ (m : Message). m.opcode) (same_Some _ x e) in omega arith)
entering_opcode made _ x h e = cc

still_entry : (e : Entry) (older : List Entry) (p f : ℕ) → IsInput (e ∷ older) p f → AreShortBodies (e ∷ older) →
    relays e older f ≡ false → GroupOf (entry_messages e older p) []
still_entry e older p f h short r =
    let made : List Made = (past_of (e ∷ older)).made in
    let ts : List Told = told (act_at e older) (resolve older) in
    let Mine : Type 0 = maker_of (log_of (past_of (e ∷ older))) f ≡ Some p in
    still_group (told_messages made p ts)
    (told_each made p IsStillMessage ts
    (each_pair IsShort (λ t. maker_of (log_of (past_of (e ∷ older))) f ≡ Some p → IsWell f t)
    (TellsSo made p IsStillMessage) ts
    (λ t s w m is own x q.
    let head = told_headed e older p f h t s m is own x q in
    λ seven.
    let with = made_with made t.to m is in
    let label : m.label ≡ f = h.only m with.among own (sym head.id-is ∙ seven) in
    let low : m.label ≤ length (e ∷ older) = (sound (e ∷ older) m with.among).within in
    let enters : is_entering t.event ≡ true =
    w (h.maker (subst (λ n. n ≤ length (e ∷ older)) label low)) (sym with.named ∙ label) in
    subst (λ n. n ≤ 1) (sym head.opcode-is) (entering_opcode made t.event x enters q))
    (all_short (act_at e older) (resolve older) (act_fits e older short.0) (all_fit older short.1))
    (lazily (maker_of (log_of (past_of (e ∷ older))) f ≡ Some p) (IsWell f) ts
    (λ maker. told_entering (act_at e older) (resolve older) f p maker r))))

-- ---- an entry that relays a batch to it

pub messages_joined : (ms : List (List ℕ)) → AreMessages ms → messages (joined ms) ≡ ms
messages_joined ms each =
    ap messages (sym (append-nil (joined ms))) ∙ found_first ms [] each
    ∙ ap (λ (r : List (List ℕ)). ms ++ r) no_messages ∙ append-nil ms

told_both : (made : List Made) (p : ℕ) (xs ys : List Told) →
    told_messages made p (xs ++ ys) ≡ told_messages made p xs ++ told_messages made p ys
told_both made p [] ys = refl
told_both made p (t ∷ xs) ys =
    ap (λ (l : List (List ℕ)). piece_messages made p t.event (made_as made t.to) ++ l) (told_both made p xs ys)
    ∙ sym (append_assoc (piece_messages made p t.event (made_as made t.to)) (told_messages made p xs)
    (told_messages made p ys))

map_both : (f : ℕ) (xs ys : List Said) → map (to f) (xs ++ ys) ≡ map (to f) xs ++ map (to f) ys
map_both f [] ys = refl
map_both f (x ∷ xs) ys = ap (λ (l : List Told). to f x ∷ l) (map_both f xs ys)

-- the field as it was made
record IsMadeSo (made : List Made) (p f : ℕ) : Type 0 where
  object : Made
  is : made_as made f ≡ Some object
  own : object.peer ≡ p
  seven : object.id ≡ 7

done_message : (made : List Made) (p f n : ℕ) → IsMadeSo made p f →
    told_messages made p (to f (said.FieldDone n) ∷ [])
    ≡ message_bytes 7 (message interface.TextInput 5 (word n ∷ [])) ∷ []
done_message made p f n h =
    rw (h.is, eq-eqb h.object.peer p h.own, h.seven) refl

relayed_entry : (e : Entry) (older : List Entry) (p f : ℕ) → IsInput (e ∷ older) p f → AreShortBodies (e ∷ older) →
    relays e older f ≡ true →
    (group_at e older p).bytes ≡ (said_piece [] 7 (group_of (act_now e older) (log_of (past_of older)) f)).bytes
    × GroupOf (entry_messages e older p) (group_told (group_of (act_now e older) (log_of (past_of older)) f))
    × (peer_of (log_of (past_of older)) f ≡ Some p)
relayed_entry e older p f h short r =
    let log : List Act = log_of (past_of older) in
    let act : Act = act_now e older in
    let made : List Made = (past_of (e ∷ older)).made in
    let gr : List Said = group_of act log f in
    let alone : IsAlone e older f = whole_groups e older f r in
    let t : (fresh act log ≡ true) × (is_at (holder log) f ≡ true) = both _ _ r in
    let with = made_with made f alone.field alone.made in
    let mine = h.mine alone.field with.among with.named in
    let same : alone.peer ≡ p = sym alone.own ∙ mine.0 in
    let here : IsMadeSo made p f = record { object = alone.field; is = alone.made; own = mine.0; seven = mine.1 } in
    let bytes : (group_at e older p).bytes ≡ (said_piece [] 7 gr).bytes =
    ap (λ q. (group_at e older q).bytes) (sym same) ∙ ap (λ g. g.bytes) alone.alone
    ∙ ap (λ id. (said_piece made id gr).bytes) mine.1
    ∙ ap (λ g. g.bytes) (same_piece made 7 gr (group_parts act log f t.0)) in
    let whole : AreMessages (entry_messages e older p) = entry_whole e older p f h short in
    let found : messages (said_piece [] 7 gr).bytes ≡ entry_messages e older p =
    ap messages (sym bytes ∙ entry_bytes e older p) ∙ messages_joined (entry_messages e older p) whole in
    let says : told (act_at e older) (resolve older) ≡ map (to f) gr =
    fresh_told act log f (history_is (resolve older)) t.0 (at_is (holder log) f t.1) in
    let g : IsGroup gr = batch_group act log f t.0 in
    let d : List ℕ = message_bytes 7 (message interface.TextInput 5 (word g.count ∷ [])) in
    let front : List (List ℕ) = told_messages made p (map (to f) g.edits) in
    let split : entry_messages e older p ≡ front ++ d ∷ [] =
    ap (told_messages made p) (says ∙ ap (map (to f)) g.is ∙ map_both f g.edits (said.FieldDone g.count ∷ []))
    ∙ told_both made p (map (to f) g.edits) (to f (said.FieldDone g.count) ∷ [])
    ∙ ap (λ (l : List (List ℕ)). front ++ l) (done_message made p f g.count here) in
    let head = headed [] 7 (to f (said.FieldDone g.count)) (message interface.TextInput 5 (word g.count ∷ []))
    (omega arith)
    (λ some. omega arith) refl in (
      bytes,
      (
        ap (λ (ms : List (List ℕ)). batches_in (happenings (events_in ms) no_edits)) (sym found),
        λ s. ap (λ (ms : List (List ℕ)). waiting (events_in ms) no_edits) split
            ∙ done_waits front d head.id-is head.opcode-is (subst IsSpelled split s),
      ),
      alone.owner ∙ ap Some same,
    )

-- ---- all entries

-- what is put for the peer are messages, which tell the batches that are queued for the field
pub record IsTold (capacity : ℕ) (journal : List Entry) (p f : ℕ) : Type 0 where
  pub messages : List (List ℕ)
  pub bytes : (out_for capacity journal p).put.bytes ≡ joined messages
  pub each : AreMessages messages
  pub tells : Tells messages (groups_told (queued capacity journal f))

pub groups-append : (xs : List (List Said)) (g : List Said) →
    groups_told (xs ++ g ∷ []) ≡ groups_told xs ++ group_told g
groups-append [] g = append-nil (group_told g)
groups-append (x ∷ xs) g =
    ap (λ (l : List Happening). group_told x ++ l) (groups-append xs g)
    ∙ sym (append_assoc (group_told x) (groups_told xs) (group_told g))

-- what the group leaves of what is queued
abbrev queued_by : Bool → Bool → List (List Said) → List Said → List (List Said)
queued_by r put older g = if r && put then older ++ g ∷ [] else older

one_told : (capacity : ℕ) (e : Entry) (older : List Entry) (p f : ℕ) → IsInput (e ∷ older) p f →
    AreShortBodies (e ∷ older) →
    IsTold capacity older p f → IsTold capacity (e ∷ older) p f
one_told capacity e older p f h short k =
    by (relays e older f) (fits capacity (group_at e older p) (before_group e older p (out_for capacity older p)))
    refl refl
  where
    gs : List (List ℕ)
    gs = entry_messages e older p

    gr : List Said
    gr = group_of (act_now e older) (log_of (past_of older)) f

    put_is : (b : Bool) → fits capacity (group_at e older p) (before_group e older p (out_for capacity older p)) ≡ b →
        (out_for capacity (e ∷ older) p).put.bytes
        ≡ (if b then (out_for capacity older p).put.bytes ++ (group_at e older p).bytes
        else (out_for capacity older p).put.bytes)
    put_is true q = rw q refl
    put_is false q = rw q refl

    queue_is : (r put : Bool) → relays e older f ≡ r → (r ≡ true → is_put capacity e older f ≡ put) →
        queued capacity (e ∷ older) f ≡ queued_by r put (queued capacity older f) gr
    queue_is true put q i = rw (q, i refl) refl
    queue_is false put q i = rw q refl

    put_for : (b : Bool) → fits capacity (group_at e older p) (before_group e older p (out_for capacity older p)) ≡ b →
        relays e older f ≡ true → is_put capacity e older f ≡ b
    put_for b q r =
        ap (is_put_for capacity e older) (relayed_entry e older p f h short r).2 ∙ q

    by : (r b : Bool) → relays e older f ≡ r →
        fits capacity (group_at e older p) (before_group e older p (out_for capacity older p)) ≡ b →
        IsTold capacity (e ∷ older) p f
    by r false q s = record {
      messages = k.messages;
      bytes = put_is false s ∙ k.bytes;
      each = k.each;
      tells =
          subst (λ (l : List (List Said)). Tells k.messages (groups_told l))
          (sym (queue_is r false q (λ t. put_for false s (q ∙ t)) ∙ none r)) k.tells;
    }
      where
        none : (r : Bool) → queued_by r false (queued capacity older f) gr ≡ queued capacity older f
        none true = refl
        none false = refl
    by true true q s = record {
      messages = k.messages ++ gs;
      bytes =
          put_is true s ∙ ap (λ (l : List ℕ). l ++ (group_at e older p).bytes) k.bytes
          ∙ ap (λ (l : List ℕ). joined k.messages ++ l) (entry_bytes e older p) ∙ sym (joined_both k.messages gs);
      each = are_both k.messages gs k.each (entry_whole e older p f h short);
      tells =
          subst (λ (l : List Happening). Tells (k.messages ++ gs) l)
          (sym (ap groups_told (queue_is true true q (λ t. put_for true s q))
          ∙ groups-append (queued capacity older f) gr))
          (tells_more k.messages gs (groups_told (queued capacity older f)) (group_told gr) k.tells
          (relayed_entry e older p f h short q).1);
    }
    by false true q s = record {
      messages = k.messages ++ gs;
      bytes =
          put_is true s ∙ ap (λ (l : List ℕ). l ++ (group_at e older p).bytes) k.bytes
          ∙ ap (λ (l : List ℕ). joined k.messages ++ l) (entry_bytes e older p) ∙ sym (joined_both k.messages gs);
      each = are_both k.messages gs k.each (entry_whole e older p f h short);
      tells =
          subst (λ (l : List Happening). Tells (k.messages ++ gs) l)
          (append-nil (groups_told (queued capacity older f))
          ∙ ap groups_told (sym (queue_is false true q (λ t. absurd (let no : true ≡ false = sym t in cc)))))
          (tells_more k.messages gs (groups_told (queued capacity older f)) [] k.tells
          (still_entry e older p f h short q));
    }

pub all_told : (capacity : ℕ) (journal : List Entry) (p f : ℕ) → IsInput journal p f → AreShortBodies journal →
    IsTold capacity journal p f
all_told capacity [] p f h short = record { messages = []; bytes = refl; each = tt; tells = tells_nothing }
all_told capacity (e ∷ older) p f h short =
    one_told capacity e older p f h short (all_told capacity older p f (input_before e older p f h) short.1)
