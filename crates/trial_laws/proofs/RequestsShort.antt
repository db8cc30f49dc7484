-- Each request of the method's client is a message that isn't longer than one may be.
use Rattle.std.proofs.Common.{ℕ, ◌≤◌, Bool, true, false, ◌&&◌, List, [], ◌∷◌, ◌++◌, length, Option, Some, None, arith}
use Rattle.std.specs.Prelude.{◌==◌, if◌then◌else◌}
use Rattle.wl_proto.specs.declared.event.Event.TheVariants as events
use Rattle.trial_field.specs.Log.{Batch}
use Rattle.client_side.specs.Messages.{Sent, method_setup}
use Rattle.client_side.specs.MethodSends.{is_zero, deletion_sent, string_sent, preedit_sent, batch_sent}
use Rattle.client_side.specs.MethodLog.{Happening, came, committed, Typist, batch_with, given_sent, press_sent, typist_after, sent_for}
use Rattle.trial_run.specs.Typists.{gives, pressed, meanings_of}
use Rattle.trial_run.specs.declared.typist.TrialTypist.{TrialTypist}
use Rattle.trial_laws.proofs.RequestsWait.{AreShortSent}
use Rattle.trial_laws.proofs.KeysShort.{KeysWait, IsShortGiven, gives_short, pressed_waits, event_waits}

-- ---- batches

where_short : (b : Bool) (ss : List Sent) → AreShortSent ss → AreShortSent (if b then [] else ss)
where_short true ss h = tt
where_short false ss h = h

pub both_short : (xs ys : List Sent) → AreShortSent xs → AreShortSent ys → AreShortSent (xs ++ ys)
both_short [] ys h k = k
both_short (x ∷ xs) ys h k = (h.0, both_short xs ys h.1 k)

-- the texts of the edits fit the requests that send them
abbrev pub IsShortBatch : Batch → Type 0
IsShortBatch b = (length b.string ≤ 4083) × (length b.preedit ≤ 4075)

batch_short : (b : Batch) (serial : ℕ) → IsShortBatch b → AreShortSent (batch_sent b serial)
batch_short b serial h =
    let string = h.0 in
    let preedit = h.1 in
    both_short (deletion_sent b.before b.after) _
    (where_short ((b.before == 0) && (b.after == 0)) (_ ∷ [])
    (record { object = omega arith; opcode = omega arith; size = omega arith }, tt))
    (both_short (string_sent b.string) _
    (where_short (length b.string == 0) (_ ∷ [])
    (record { object = omega arith; opcode = omega arith; size = omega arith }, tt))
    (both_short (preedit_sent b.preedit b.begin b.end) _
    (where_short ((length b.preedit == 0) && (is_zero b.begin && is_zero b.end)) (_ ∷ [])
    (record { object = omega arith; opcode = omega arith; size = omega arith }, tt))
    (record { object = omega arith; opcode = omega arith; size = omega arith }, tt)))

-- ---- whatever happens

given_short : (o : Option (List ℕ × List ℕ)) (dones : ℕ) → IsShortGiven o → AreShortSent (given_sent o dones)
given_short None dones h = tt
given_short (Some batch) dones h = batch_short (batch_with batch.0 batch.1) dones h

press_short : (key : ℕ) (t : Typist TrialTypist) → KeysWait t.typing → AreShortSent (press_sent meanings_of key t)
press_short key t h = given_short (gives key t.typing) t.dones (gives_short key t.typing h)

-- what happens to the method has texts that fit
abbrev pub IsShortHappening : Happening → Type 0
IsShortHappening (came event) = Unit {0}
IsShortHappening (committed b) = IsShortBatch b

pub for_short : (h : Happening) (t : Typist TrialTypist) → IsShortHappening h → KeysWait t.typing →
    AreShortSent (sent_for meanings_of h t)
for_short (came (events.Key serial time key state)) t e k = by (state == 1)
  where
    by : (b : Bool) → AreShortSent (if b then press_sent meanings_of key t else [])
    by true = press_short key t k
    by false = tt
for_short (came event) t e k = tt
for_short (committed b) t e k = batch_short b t.dones e

pub typist_waits : (h : Happening) (t : Typist TrialTypist) → KeysWait t.typing →
    KeysWait (typist_after meanings_of h t).typing
typist_waits (came (events.Key serial time key state)) t k = by (state == 1)
  where
    by : (b : Bool) → KeysWait (if b then record t { typing = pressed key t.typing } else t).typing
    by true = pressed_waits key t.typing k
    by false = k
typist_waits (came events.InputMethodDone) t k = event_waits events.InputMethodDone t.typing k
typist_waits (came event) t k = event_waits event t.typing k
typist_waits (committed b) t k = k

-- the set-up
pub setup_short : AreShortSent method_setup
setup_short = (
  record { object = omega arith; opcode = omega arith; size = omega arith },
  (
    record { object = omega arith; opcode = omega arith; size = omega arith },
    (
      record { object = omega arith; opcode = omega arith; size = omega arith },
      (
        record { object = omega arith; opcode = omega arith; size = omega arith },
        (record { object = omega arith; opcode = omega arith; size = omega arith }, tt),
      ),
    ),
  ),
)
