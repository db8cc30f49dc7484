-- What an entry tells a peer is read in turn, where each object is the first under its id that wasn't freed.
use Rattle.std.proofs.Common.{◌≡◌, ℕ, ◌+◌, List, [], ◌∷◌, ◌++◌, map, Bool, true, false, Option, Some, None, refl, sym, ap, subst, ◌∙◌, arith}
use Rattle.std.specs.Prelude.{◌==◌, if◌then◌else◌}
use Rattle.std.specs.List.{slice_get, AllByRecursion}
use Rattle.std.proofs.lemmas.Bool.{eqb-true}
use Rattle.std.proofs.lemmas.List.{append-nil, append_assoc, map-append}
use Rattle.std.proofs.lemmas.List.Sums.{sum_by-cons, sum_by-append}
use Rattle.std.proofs.lemmas.Option.{same_Some}
use Rattle.wl_wire.specs.Messages.{id_of}
use Rattle.wl_proto.specs.Rows.{Message}
use Rattle.wl_proto.specs.Spelling.{message_bytes}
use Rattle.relay_model.specs.declared.said.Told.{Told}
use Rattle.relay_model.specs.declared.said.Said.{Said}
use Rattle.relay_model.specs.declared.said.Said.TheVariants as said
use Rattle.broker_model.specs.Ids.{Made, made_as}
use Rattle.broker_model.specs.Groups.{message_of}
use Rattle.broker_telling.specs.Streams.{Heard, heard_by, heard_to, heard_of, made_under, frees, times_freed, AreRead}
use Rattle.broker_telling.specs.ToldRead.{IsReadAs}
use Rattle.broker_telling.proofs.DeletesLast.{is_delete, Keeps, AllKeep}
use Rattle.broker_telling.proofs.IdsInOrder.{under_more}
use Rattle.broker_telling.proofs.MessagesTold.{said_messages, piece_messages, told_messages}

abbrev pub event_of : Heard → Message
event_of x = x.message

abbrev pub events_of : List Heard → List Message
events_of xs = map event_of xs

-- ---- how often an id is freed

pub freed-append : (id : ℕ) (xs ys : List Message) →
    times_freed id (xs ++ ys) ≡ times_freed id xs + times_freed id ys
freed-append id xs ys = sum_by-append (λ m. if frees id m then 1 else 0) xs ys

freed_cons : (id : ℕ) (m : Message) (xs : List Message) →
    times_freed id (m ∷ xs) ≡ (if frees id m then 1 else 0) + times_freed id xs
freed_cons id m xs = sum_by-cons (λ x. if frees id x then 1 else 0) m xs

as_other : (id : ℕ) (x m : Message) → frees id x ≡ false → Some x ≡ Some m → frees id m ≡ false
as_other id x m h e = ap (frees id) (sym (same_Some x m e)) ∙ h

other_message : (made : List Made) (s : Said) (id : ℕ) (m : Message) → is_delete s ≡ false →
    message_of made s ≡ Some m → frees id m ≡ false
other_message made (said.DeleteId label) id m h e = cc
other_message made (said.Enter surface) id m h e = as_other id _ m refl e
other_message made (said.Leave surface) id m h e = as_other id _ m refl e
other_message made (said.Preedit t begin end) id m h e = as_other id _ m refl e
other_message made (said.CommitString t) id m h e = as_other id _ m refl e
other_message made (said.Delete before after) id m h e = as_other id _ m refl e
other_message made (said.FieldDone serial) id m h e = as_other id _ m refl e
other_message made said.Activate id m h e = as_other id _ m refl e
other_message made said.Deactivate id m h e = as_other id _ m refl e
other_message made (said.Surrounding t cursor anchor) id m h e = as_other id _ m refl e
other_message made (said.ChangeCause cause) id m h e = as_other id _ m refl e
other_message made (said.ContentType hint purpose) id m h e = as_other id _ m refl e
other_message made said.MethodDone id m h e = as_other id _ m refl e
other_message made said.Unavailable id m h e = as_other id _ m refl e
other_message made (said.PopupRect x y width height) id m h e = as_other id _ m refl e
other_message made (said.Keymap keymap) id m h e = as_other id _ m refl e
other_message made (said.Key serial time key state) id m h e = as_other id _ m refl e
other_message made (said.Mods serial mods) id m h e = as_other id _ m refl e
other_message made (said.Repeat repeat) id m h e = as_other id _ m refl e
other_message made (said.Global name i version) id m h e = as_other id _ m refl e
other_message made (said.CallbackDone value) id m h e = as_other id _ m refl e
other_message made (said.Capabilities value) id m h e = as_other id _ m refl e
other_message made (said.Error object fault) id m h e = as_other id _ m refl e
other_message made (said.Pass time key state) id m h e = cc
other_message made (said.VMods mods) id m h e = cc
other_message made (said.Placed popup x y) id m h e = cc

-- what is told but the freeing of ids frees none

said_none : (made : List Made) (t : Told) (object : Made) (id : ℕ) (o : Option Message) → Keeps t →
    message_of made t.event ≡ o → times_freed id (events_of (heard_by t object o)) ≡ 0
said_none made t object id None k e = refl
said_none made t object id (Some m) k e =
    freed_cons id m []
    ∙ ap (λ (b : Bool). (if b then 1 else 0) + times_freed id []) (other_message made t.event id m k e)

to_none : (made : List Made) (p : ℕ) (t : Told) (id : ℕ) (o : Option Made) → Keeps t →
    times_freed id (events_of (heard_to made p t o)) ≡ 0
to_none made p t id None k = refl
to_none made p t id (Some object) k = by (object.peer == p)
  where
    by : (b : Bool) →
        times_freed id (events_of (if b then heard_by t object (message_of made t.event) else [])) ≡ 0
    by true = said_none made t object id (message_of made t.event) k refl
    by false = refl

pub keep_none : (made : List Made) (p : ℕ) (id : ℕ) (ts : List Told) → AllKeep ts →
    times_freed id (events_of (heard_of made p ts)) ≡ 0
keep_none made p id [] h = refl
keep_none made p id (t ∷ ts) h =
    let both = ap (times_freed id)
    (map-append event_of (heard_to made p t (made_as made t.to)) (heard_of made p ts))
    ∙ freed-append id (events_of (heard_to made p t (made_as made t.to))) (events_of (heard_of made p ts)) in
    let one = to_none made p t id (made_as made t.to) h.0 in
    let more = keep_none made p id ts h.1 in
    omega arith

-- ---- what is read, in turn

pub read_more : (new made : List Made) (p : ℕ) (read : List Message) (ms : List (List ℕ)) (xs : List Heard) →
    AreRead made p read ms xs → AreRead (new ++ made) p read ms xs
read_more new made p read [] [] h = tt
read_more new made p read (b ∷ ms) (x ∷ xs) h = (
  record {
    whole = h.0.whole;
    object = under_more new made p (id_of b) (times_freed (id_of b) read) x.object h.0.object;
    reads = h.0.reads;
  },
  read_more new made p (read ++ x.message ∷ []) ms xs h.1,
)
read_more new made p read [] (x ∷ xs) h = absurd h
read_more new made p read (b ∷ ms) [] h = absurd h

pub read_then : (made : List Made) (p : ℕ) (read : List Message) (ms ns : List (List ℕ)) (xs ys : List Heard) →
    AreRead made p read ms xs → AreRead made p (read ++ events_of xs) ns ys →
    AreRead made p read (ms ++ ns) (xs ++ ys)
read_then made p read [] ns [] ys h k =
    subst (λ (r : List Message). AreRead made p r ns ys) (append-nil read) k
read_then made p read (b ∷ ms) ns (x ∷ xs) ys h k = (
  h.0,
  read_then made p (read ++ x.message ∷ []) ms ns xs ys h.1
      (subst (λ (r : List Message). AreRead made p r ns ys) (sym (append_assoc read (x.message ∷ []) (events_of xs))) k),
)
read_then made p read [] ns (x ∷ xs) ys h k = absurd h
read_then made p read (b ∷ ms) ns [] ys h k = absurd h

-- each thing told but the last frees no id
abbrev pub OnlyLast : List Told → Type 0
OnlyLast [] = Unit {0}
OnlyLast (t ∷ []) = Unit {0}
OnlyLast (t ∷ u ∷ ts) = Keeps t × OnlyLast (u ∷ ts)

-- to an object of the peer p it is read, and that is the first under its id of which so many were freed
abbrev pub IsNextRead : (made all : List Made) → (p : ℕ) → (freed : ℕ → ℕ) → Told → Type 0
IsNextRead made all p freed t =
    (object : Made) → made_as made t.to ≡ Some object → object.peer ≡ p → (m : Message) →
    message_of made t.event ≡ Some m →
    IsReadAs object m × (slice_get (made_under all p object.id) (freed object.id) ≡ Some object)

module _ (made all : List Made) (p : ℕ) (freed : ℕ → ℕ) where
  said_read : (t : Told) (object : Made) (read : List Message) (o : Option Message) →
      ((id : ℕ) → times_freed id read ≡ freed id) → made_as made t.to ≡ Some object → object.peer ≡ p →
      message_of made t.event ≡ o → IsNextRead made all p freed t →
      AreRead all p read (said_messages object.id o) (heard_by t object o)
  said_read t object read None same is own e h = tt
  said_read t object read (Some m) same is own e h =
      let r = h object is own m e in
      let b : List ℕ = message_bytes object.id m in (
        record {
          whole = r.0.whole;
          object = ap (λ id. slice_get (made_under all p id) (times_freed id read)) r.0.to
              ∙ ap (slice_get (made_under all p object.id)) (same object.id) ∙ r.1;
          reads = r.0.reads;
        },
        tt,
      )

  one_read : (t : Told) (read : List Message) (o : Option Made) → ((id : ℕ) → times_freed id read ≡ freed id) →
      made_as made t.to ≡ o → IsNextRead made all p freed t →
      AreRead all p read (piece_messages made p t.event o) (heard_to made p t o)
  one_read t read None same e h = tt
  one_read t read (Some object) same e h = by (object.peer == p) refl
    where
      by : (b : Bool) → (object.peer == p) ≡ b →
          AreRead all p read (if b then said_messages object.id (message_of made t.event) else [])
          (if b then heard_by t object (message_of made t.event) else [])
      by true own =
          said_read t object read (message_of made t.event) same e (eqb-true object.peer p own) refl h
      by false own = tt

  pub group_read : (read : List Message) (ts : List Told) → OnlyLast ts →
      ((id : ℕ) → times_freed id read ≡ freed id) → AllByRecursion (IsNextRead made all p freed) ts →
      AreRead all p read (told_messages made p ts) (heard_of made p ts)
  group_read read [] last same h = tt
  group_read read (t ∷ []) last same h =
      read_then all p read (piece_messages made p t.event (made_as made t.to)) []
      (heard_to made p t (made_as made t.to)) [] (one_read t read (made_as made t.to) same refl h.0) tt
  group_read read (t ∷ u ∷ ts) last same h =
      read_then all p read (piece_messages made p t.event (made_as made t.to)) (told_messages made p (u ∷ ts))
      (heard_to made p t (made_as made t.to)) (heard_of made p (u ∷ ts))
      (one_read t read (made_as made t.to) same refl h.0)
      (group_read (read ++ events_of (heard_to made p t (made_as made t.to))) (u ∷ ts) last.1
      (λ id.
      let both = freed-append id read (events_of (heard_to made p t (made_as made t.to))) in
      let none = to_none made p t id (made_as made t.to) last.0 in
      let old = same id in omega arith) h.1)
