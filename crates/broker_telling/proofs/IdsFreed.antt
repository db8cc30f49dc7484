-- What an entry tells a peer frees the ids of what no more lives, and of nothing else.
use Rattle.std.proofs.Common.{◌≡◌, ℕ, ◌+◌, List, [], ◌∷◌, ◌++◌, length, Bool, true, false, Option, Some, None, refl, sym, ap, subst, ◌∙◌, arith, inr}
use Rattle.std.specs.Prelude.{◌==◌, ◌&&◌, if◌then◌else◌}
use Rattle.std.proofs.lemmas.List.{append_assoc, map-append}
use Rattle.relay_model.specs.declared.act.Act.{Act}
use Rattle.relay_model.specs.declared.act.Act.TheVariants as acts
use Rattle.relay_model.specs.declared.said.Told.{Told}
use Rattle.relay_model.specs.declared.said.Said.TheVariants as said
use Rattle.relay_model.specs.Objects.{next, is_peer, peer_of}
use Rattle.relay_model.specs.Activation.{serving}
use Rattle.relay_model.specs.Told.{to, leaves, to_method, enters, deleted, synced, own, told_by, told}
use Rattle.broker_model.specs.declared.journal.Entry.{Entry}
use Rattle.broker_model.specs.Ids.{Made, log_of, made_as}
use Rattle.broker_model.specs.Groups.{message_of, followed_by, id_of}
use Rattle.broker_model.specs.Out.{act_at, act_now, group_at, fits, before_group, out_for}
use Rattle.broker_model.specs.Resolve.{means, past_of, resolve}
use Rattle.broker_model.proofs.IdsAreNames.{IsIn}
use Rattle.broker_model.proofs.MadeObjectsStand.{sound, displayed, display_of}
use Rattle.broker_telling.specs.Streams.{Heard, heard_by, heard_to, heard_of, heard_at, heard_put, times_freed}
use Rattle.broker_telling.proofs.DeletesLast.{AllKeep, is_freeing, before_own, before_keeps, told_keeps}
use Rattle.broker_telling.proofs.HeardInTurn.{event_of, events_of, freed-append, keep_none, OnlyLast}

-- ---- how often ids were freed

-- how often the id was freed of what a journal puts for the peer
abbrev pub freed_in : (capacity : ℕ) → List Entry → (p : ℕ) → ℕ → ℕ
freed_in capacity journal p id = times_freed id (events_of (heard_put capacity journal p))

-- and of what the newest entry tells it
abbrev pub freed_at : Entry → List Entry → (p : ℕ) → ℕ → ℕ
freed_at e older p id = times_freed id (events_of (heard_at e older p))

abbrev pub is_there : ℕ → Entry → List Entry → (p : ℕ) → Bool
is_there capacity e older p = fits capacity (group_at e older p) (before_group e older p (out_for capacity older p))

more_freed : (b : Bool) (before now : List Heard) (id : ℕ) →
    times_freed id (events_of (before ++ (if b then now else [])))
    ≡ times_freed id (events_of before) + (if b then times_freed id (events_of now) else 0)
more_freed true before now id =
    ap (times_freed id) (map-append event_of before now) ∙ freed-append id (events_of before) (events_of now)
more_freed false before now id =
    ap (times_freed id) (map-append event_of before []) ∙ freed-append id (events_of before) []

pub freed_put : (capacity : ℕ) (e : Entry) (older : List Entry) (p id : ℕ) → is_there capacity e older p ≡ true →
    freed_in capacity (e ∷ older) p id ≡ freed_in capacity older p id + freed_at e older p id
freed_put capacity e older p id h =
    more_freed (is_there capacity e older p) (heard_put capacity older p) (heard_at e older p) id
    ∙ ap (λ (b : Bool). freed_in capacity older p id + (if b then freed_at e older p id else 0)) h

pub freed_quiet : (capacity : ℕ) (e : Entry) (older : List Entry) (p id : ℕ) → freed_at e older p id ≡ 0 →
    freed_in capacity (e ∷ older) p id ≡ freed_in capacity older p id
freed_quiet capacity e older p id h =
    more_freed (is_there capacity e older p) (heard_put capacity older p) (heard_at e older p) id
    ∙ ap (λ n. freed_in capacity older p id + (if is_there capacity e older p then n else 0)) h
    ∙ by (is_there capacity e older p)
  where
    by : (b : Bool) → freed_in capacity older p id + (if b then 0 else 0) ≡ freed_in capacity older p id
    by true = omega arith
    by false = omega arith

-- the peer is alive, and nothing was left out for it
abbrev pub IsCalm : (capacity : ℕ) → List Entry → (p : ℕ) → Type 0
IsCalm capacity journal p =
    (is_peer (log_of (past_of journal)) p ≡ true) × ((out_for capacity journal p).choked ≡ false)

-- where nothing is left out, this entry's group was put too
pub calm_put : (capacity : ℕ) (e : Entry) (older : List Entry) (p : ℕ) →
    (out_for capacity (e ∷ older) p).choked ≡ false →
    (is_there capacity e older p ≡ true) × ((out_for capacity older p).choked ≡ false)
calm_put capacity e older p h = by (is_there capacity e older p) refl h
  where
    by : (b : Bool) → is_there capacity e older p ≡ b →
        (if b then record (before_group e older p (out_for capacity older p)) {
          put = followed_by (out_for capacity older p).put (group_at e older p);
        } else record (before_group e older p (out_for capacity older p)) { choked = true }).choked ≡ false →
        (is_there capacity e older p ≡ true) × ((out_for capacity older p).choked ≡ false)
    by true t k = (t, k)
    by false t k = cc

-- ---- what is told, by its last

abbrev pub told_at : Entry → List Entry → List Told
told_at e older = told (act_at e older) (resolve older)

heard-append : (made : List Made) (p : ℕ) (xs ys : List Told) →
    heard_of made p (xs ++ ys) ≡ heard_of made p xs ++ heard_of made p ys
heard-append made p [] ys = refl
heard-append made p (t ∷ xs) ys =
    ap (λ (l : List Heard). heard_to made p t (made_as made t.to) ++ l) (heard-append made p xs ys)
    ∙ sym (append_assoc (heard_to made p t (made_as made t.to)) (heard_of made p xs) (heard_of made p ys))

pub last_freed : (made : List Made) (p id : ℕ) (xs ys : List Told) → AllKeep xs →
    times_freed id (events_of (heard_of made p (xs ++ ys))) ≡ times_freed id (events_of (heard_of made p ys))
last_freed made p id xs ys h =
    ap (λ (l : List Heard). times_freed id (events_of l)) (heard-append made p xs ys)
    ∙ ap (times_freed id) (map-append event_of (heard_of made p xs) (heard_of made p ys))
    ∙ freed-append id (events_of (heard_of made p xs)) (events_of (heard_of made p ys))
    ∙ ap (λ n. n + times_freed id (events_of (heard_of made p ys))) (keep_none made p id xs h)
    ∙ (let e : 0 + times_freed id (events_of (heard_of made p ys))
    ≡ times_freed id (events_of (heard_of made p ys)) = omega arith in e)

pub told_parts : (act : Act) (log : List Act) → told_by act log ≡ before_own act log ++ own act log
told_parts act log =
    ap (λ (l : List Told). leaves act log ++ l)
    (sym (append_assoc (to_method act log (serving (act ∷ log))) (enters act log) (own act log)))
    ∙ sym (append_assoc (leaves act log) (to_method act log (serving (act ∷ log)) ++ enters act log) (own act log))

-- of an act only its own events free
pub own_freed : (made : List Made) (p id : ℕ) (act : Act) (log : List Act) →
    times_freed id (events_of (heard_of made p (told_by act log)))
    ≡ times_freed id (events_of (heard_of made p (own act log)))
own_freed made p id act log =
    ap (λ (l : List Told). times_freed id (events_of (heard_of made p l))) (told_parts act log)
    ∙ last_freed made p id (before_own act log) (own act log) (before_keeps act log)

pub none_freed : (e : Entry) (older : List Entry) (p id : ℕ) → is_freeing (act_now e older) ≡ false →
    freed_at e older p id ≡ 0
none_freed e older p id h =
    keep_none (past_of (e ∷ older)).made p id (told_by (act_now e older) (log_of (past_of older)))
    (told_keeps (act_now e older) (log_of (past_of older)) h)

in_older : (new made : List Made) (m : Made) → IsIn made m → IsIn (new ++ made) m
in_older [] made m i = i
in_older (x ∷ new) made m i = inr (in_older new made m i)

-- the display of a live peer
pub display_made : (e : Entry) (older : List Entry) (k : ℕ) → is_peer (log_of (past_of older)) k ≡ true →
    made_as (past_of (e ∷ older)).made k ≡ Some (display_of k)
display_made e older k l =
    (sound (e ∷ older) (display_of k)
    (in_older (means e (length older + 1) (past_of older)).made (past_of older).made (display_of k)
    (displayed older k l))).known

-- the one event that frees, told to the peer k: of its own ids the one of the object with the label
pub delete_freed : (e : Entry) (older : List Entry) (p id k label : ℕ) (m : Made) →
    is_peer (log_of (past_of older)) k ≡ true → made_as (past_of (e ∷ older)).made label ≡ Some m →
    times_freed id (events_of (heard_of (past_of (e ∷ older)).made p (to k (said.DeleteId label) ∷ [])))
    ≡ (if (k == p) && (m.id == id) then 1 else 0)
delete_freed e older p id k label m l is =
    ap (λ (o : Option Made). times_freed id (events_of (heard_to (past_of (e ∷ older)).made p
    (to k (said.DeleteId label)) o ++ []))) (display_made e older k l)
    ∙ by (k == p)
  where
    plain : (b : Bool) → 0 + (if b then 1 else 0) ≡ (if b then 1 else 0)
    plain true = omega arith
    plain false = omega arith

    by : (b : Bool) →
        times_freed id (events_of ((if b then heard_by (to k (said.DeleteId label)) (display_of k)
        (message_of (past_of (e ∷ older)).made (said.DeleteId label)) else []) ++ []))
        ≡ (if b && (m.id == id) then 1 else 0)
    by false = refl
    by true =
        ap (λ (o : Option Made). 0 + (if id_of o == id then 1 else 0)) is ∙ plain (m.id == id)

-- ---- each thing told but the last frees none

all_last : (ts : List Told) → AllKeep ts → OnlyLast ts
all_last [] h = tt
all_last (t ∷ []) h = tt
all_last (t ∷ u ∷ ts) h = (h.0, all_last (u ∷ ts) h.1)

then_last : (xs ys : List Told) → AllKeep xs → OnlyLast ys → OnlyLast (xs ++ ys)
then_last [] ys h k = k
then_last (x ∷ []) [] h k = tt
then_last (x ∷ []) (y ∷ ys) h k = (h.0, k)
then_last (x ∷ z ∷ xs) ys h k = (h.0, then_last (z ∷ xs) ys h.1 k)

deleted_last : (x : ℕ) (o : Option ℕ) → OnlyLast (deleted x o)
deleted_last x None = tt
deleted_last x (Some k) = tt

pub told_last : (act : Act) (log : List Act) → OnlyLast (told_by act log)
told_last (acts.Drop x) log =
    subst OnlyLast (sym (told_parts (acts.Drop x) log))
    (then_last (before_own (acts.Drop x) log) (deleted x (peer_of log x)) (before_keeps (acts.Drop x) log)
    (deleted_last x (peer_of log x)))
told_last (acts.Sync k) log =
    subst OnlyLast (sym (told_parts (acts.Sync k) log))
    (then_last (before_own (acts.Sync k) log) (synced (next log) k) (before_keeps (acts.Sync k) log) (refl, tt))
told_last act log = all_last (told_by act log) (told_keeps act log refl)
