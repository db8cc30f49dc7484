-- What the method's client sends is of bytes, where the texts that it types and of its user's batches are.
use Rattle.std.proofs.Common.{ℕ, Bool, true, false, ◌&&◌, List, [], ◌∷◌, ◌++◌, length, Option, Some, None}
use Rattle.std.specs.Prelude.{◌==◌, if◌then◌else◌}
use Rattle.wl_proto.specs.declared.event.Event.TheVariants as events
use Rattle.trial_field.specs.Log.{Batch}
use Rattle.client_side.specs.Messages.{Sent, spelled}
use Rattle.client_side.specs.MethodSends.{is_zero, deletion_sent, string_sent, preedit_sent, batch_sent}
use Rattle.client_side.specs.MethodLog.{Happening, came, committed, Typist, batch_with, given_sent, press_sent, typist_after, sent_for}
use Rattle.client_side.specs.MethodState.{State, happens}
use Rattle.trial_run.specs.Typists.{gives, pressed, meanings_of}
use Rattle.trial_run.specs.declared.typist.TrialTypist.{TrialTypist}
use Rattle.trial_laws.specs.RelayedAsBatches.{TypesBytes}
use Rattle.trial_laws.proofs.EachByte.{EachByte, both_bytes}
use Rattle.trial_laws.proofs.FieldBytes.{AreByteSent, spelled_bytes}
use Rattle.trial_laws.proofs.TypistBytes.{AreByteGiven, gives_bytes, pressed_types, event_types}

-- ---- batches

where_sent : (b : Bool) (ss : List Sent) → AreByteSent ss → AreByteSent (if b then [] else ss)
where_sent true ss h = tt
where_sent false ss h = h

both_sent : (xs ys : List Sent) → AreByteSent xs → AreByteSent ys → AreByteSent (xs ++ ys)
both_sent [] ys h k = k
both_sent (x ∷ xs) ys h k = (h.0, both_sent xs ys h.1 k)

-- the texts of the edits are of bytes
abbrev pub IsByteBatch : Batch → Type 0
IsByteBatch b = EachByte b.string × EachByte b.preedit

batch_bytes : (b : Batch) (serial : ℕ) → IsByteBatch b → AreByteSent (batch_sent b serial)
batch_bytes b serial h =
    both_sent (deletion_sent b.before b.after) _
    (where_sent ((b.before == 0) && (b.after == 0)) (_ ∷ []) ((tt, (tt, tt)), tt))
    (both_sent (string_sent b.string) _ (where_sent (length b.string == 0) (_ ∷ []) ((h.0, tt), tt))
    (both_sent (preedit_sent b.preedit b.begin b.end) _
    (where_sent ((length b.preedit == 0) && (is_zero b.begin && is_zero b.end)) (_ ∷ []) ((h.1, (tt, (tt, tt))), tt))
    ((tt, tt), tt)))

-- ---- the client

given_bytes : (o : Option (List ℕ × List ℕ)) (dones : ℕ) → AreByteGiven o → AreByteSent (given_sent o dones)
given_bytes None dones h = tt
given_bytes (Some batch) dones h = batch_bytes (batch_with batch.0 batch.1) dones h

press_bytes : (key : ℕ) (t : Typist TrialTypist) → TypesBytes t.typing → AreByteSent (press_sent meanings_of key t)
press_bytes key t h = given_bytes (gives key t.typing) t.dones (gives_bytes key t.typing h)

-- what happens to the method has texts of bytes
abbrev pub IsByteHappening : Happening → Type 0
IsByteHappening (came event) = Unit {0}
IsByteHappening (committed b) = IsByteBatch b

for_bytes : (h : Happening) (t : Typist TrialTypist) → IsByteHappening h → TypesBytes t.typing →
    AreByteSent (sent_for meanings_of h t)
for_bytes (came (events.Key serial time key state)) t e k = by (state == 1)
  where
    by : (b : Bool) → AreByteSent (if b then press_sent meanings_of key t else [])
    by true = press_bytes key t k
    by false = tt
for_bytes (came event) t e k = tt
for_bytes (committed b) t e k = batch_bytes b t.dones e

typist_types : (h : Happening) (t : Typist TrialTypist) → TypesBytes t.typing →
    TypesBytes (typist_after meanings_of h t).typing
typist_types (came (events.Key serial time key state)) t k = by (state == 1)
  where
    by : (b : Bool) → TypesBytes (if b then record t { typing = pressed key t.typing } else t).typing
    by true = pressed_types key t.typing k
    by false = k
typist_types (came events.InputMethodDone) t k = event_types events.InputMethodDone t.typing k
typist_types (came event) t k = event_types event t.typing k
typist_types (committed b) t k = k

pub record AreMethodBytes (s : State TrialTypist) : Type 0 where
  pub typist : TypesBytes s.typist.typing
  pub out : EachByte s.to_send

pub method_happens : (h : Happening) (s : State TrialTypist) → IsByteHappening h → AreMethodBytes s →
    AreMethodBytes (happens meanings_of h s)
method_happens h s e k = record {
  typist = typist_types h s.typist k.typist;
  out = both_bytes s.to_send (spelled (sent_for meanings_of h s.typist)) k.out
      (spelled_bytes (sent_for meanings_of h s.typist) (for_bytes h s.typist e k.typist));
}
