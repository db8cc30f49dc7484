-- What an entry tells can be written, and is read.
use Rattle.std.proofs.Common.{◌≡◌, true, List, [], ◌∷◌, length, Option, Some, None, arith}
use Rattle.std.specs.Prelude.{IfSome}
use Rattle.std.specs.List.{AllByRecursion}
use Rattle.wl_proto.specs.Rows.{Message}
use Rattle.relay_model.specs.declared.said.Told.{Told}
use Rattle.relay_model.specs.Told.{told}
use Rattle.broker_model.specs.declared.journal.Entry.{Entry}
use Rattle.broker_model.specs.declared.journal.Entry.TheVariants as entries
use Rattle.broker_model.specs.Ids.{Made, log_of}
use Rattle.broker_model.specs.Groups.{message_of}
use Rattle.broker_model.specs.Resolve.{past_of, resolve}
use Rattle.broker_model.specs.Out.{act_at}
use Rattle.broker_model.proofs.EachElement.{each_weaker}
use Rattle.broker_model.proofs.IdsAreNames.{made_with}
use Rattle.broker_model.proofs.LivePeersJoined.{length_log}
use Rattle.broker_audience.specs.Fits.{FitsMessage}
use Rattle.broker_audience.specs.Tells.{IsShort}
use Rattle.broker_core.proofs.ActTextsFit.{IsBodyShort, act_fits}
use Rattle.broker_core.proofs.ToldMessagesFit.{all_short}
use Rattle.broker_telling.specs.Sayable.{IsHeld, AreHeld, HasBytes, AreBytes}
use Rattle.broker_telling.specs.ToldRead.{IsWritable, IsForIts, ToldIsWritable, IsReadAs, IsToldRead, ToldIsRead}
use Rattle.broker_telling.proofs.ActsCanBeSaid.{Says}
use Rattle.broker_telling.proofs.ActsSayable.{act_says, held_says}
use Rattle.broker_telling.proofs.ToldSayable.{CanSayEvent, told_says}
use Rattle.broker_telling.proofs.ToldKinds.{told_to_its_kind}
use Rattle.broker_telling.proofs.IdsSmall.{AreSmall, all_small, id_small}
use Rattle.broker_telling.proofs.EventsWritable.{all_asked, writable}
use Rattle.broker_telling.proofs.WritableRead.{writable_read}

-- two things that hold of each
pub each_two : {A : Type 0} (P Q R : A → Type 0) (xs : List A) → ((x : A) → P x → Q x → R x) → AllByRecursion P xs →
    AllByRecursion Q xs →
    AllByRecursion R xs
each_two P Q R [] f h k = tt
each_two P Q R (x ∷ xs) f h k = (f x h.0 k.0, each_two P Q R xs f h.1 k.1)

held_short : (e : Entry) → IsHeld e → IsBodyShort e
held_short (entries.Message q id opcode body) h = h.1
held_short _ h = tt

all_fit : (journal : List Entry) → AreHeld journal → AllByRecursion FitsMessage (resolve journal)
all_fit [] h = tt
all_fit (e ∷ older) h = (act_fits e older (held_short e h.0), all_fit older h.1)

all_say : (journal : List Entry) → AreHeld journal → AllByRecursion (Says true) (resolve journal)
all_say [] h = tt
all_say (e ∷ older) h = (act_says true e older (held_says e older h.0), all_say older h.1)

held_bytes : (e : Entry) → IsHeld e → HasBytes e
held_bytes (entries.Message q id opcode body) h = h.0
held_bytes _ h = tt

pub all_bytes : (journal : List Entry) → AreHeld journal → AreBytes journal
all_bytes journal h = each_weaker IsHeld HasBytes journal held_bytes h

pub told_writable : ToldIsWritable
told_writable e older h few =
    let made : List Made = (past_of (e ∷ older)).made in
    let ts : List Told = told (act_at e older) (resolve older) in
    let long : length (log_of (past_of older)) ≡ length older = length_log older in
    each_two (CanSayEvent true) IsShort (λ t. IfSome (message_of made t.event) IsWritable) ts
    (λ t c s. writable true made t.event
    (λ label. id_small made label (all_small (e ∷ older) (all_bytes (e ∷ older) h))) c (all_asked t.event) (s made))
    (told_says true (act_at e older) (resolve older) (omega arith) (all_say (e ∷ older) h))
    (all_short (act_at e older) (resolve older) (act_fits e older (held_short e h.0)) (all_fit older h.1))

-- a message that can be written to its object is read
pub reads_to : (made : List Made) (t : Told) → AreSmall made → IfSome (message_of made t.event) IsWritable →
    IsForIts made t → IsToldRead made t
reads_to made t small w f object is = by (message_of made t.event) w (f object is)
  where
    by : (o : Option Message) → IfSome o IsWritable → IfSome o (λ m. m.interface ≡ object.interface) →
        IfSome o (IsReadAs object)
    by None k i = tt
    by (Some m) k i = writable_read object m (small object (made_with made t.to object is).among) k i

pub told_read : ToldIsRead
told_read e older h few =
    let made : List Made = (past_of (e ∷ older)).made in
    each_two (λ t. IfSome (message_of made t.event) IsWritable) (IsForIts made) (IsToldRead made)
    (told (act_at e older) (resolve older))
    (λ t w f. reads_to made t (all_small (e ∷ older) (all_bytes (e ∷ older) h)) w f) (told_writable e older h few)
    (told_to_its_kind e older)
