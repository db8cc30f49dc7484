-- What the method's log asks for are whole messages
use Rattle.std.proofs.Common.{◌≤◌, List, [], ◌∷◌, ◌++◌, length, sym, subst, ap, ◌∙◌, arith, append_assoc, ◌≡◌, append-nil, ℕ}
use Rattle.client_side.specs.Messages.{Sent, method_setup}
use Rattle.client_side.specs.MethodLog.{Happening, came, committed, sent_for, typist_of, sends_of}
use Rattle.trial_run.specs.Typists.{meanings_of}
use Rattle.trial_run.specs.declared.typist.TrialTypist.{TrialTypist}
use Rattle.trial_run.specs.declared.typist.TrialTypist.TheVariants as typists
use Rattle.trial_laws.proofs.RequestsWait.{AreShortSent}
use Rattle.trial_laws.specs.TypedLogs.{requests_of}
use Rattle.trial_laws.proofs.KeysShort.{KeysWait}
use Rattle.trial_laws.proofs.RequestsShort.{both_short, for_short, typist_waits, setup_short}
use Rattle.trial_typing.proofs.RequestsWhole.{AreShort}
use Rattle.trial_jobs.specs.MethodHearing.{HasShort}
use Rattle.trial_jobs.specs.MethodLaw.{IsFresh}

-- no key waits
fresh_waits : (typist : TrialTypist) → IsFresh typist → KeysWait typist
fresh_waits (typists.Compose m) h =
    (h.0, subst (λ (keys : List ℕ). length keys ≤ 7) (sym h.1) (omega arith))
fresh_waits (typists.Dict m) h =
    (h.0, h.1, subst (λ (keys : List ℕ). length keys ≤ 16) (sym h.2) (omega arith))

keys_wait : (typist : TrialTypist) → IsFresh typist → (log : List Happening) →
    KeysWait (typist_of meanings_of typist log).typing
keys_wait typist f [] = fresh_waits typist f
keys_wait typist f (h ∷ older) = typist_waits h (typist_of meanings_of typist older) (keys_wait typist f older)

sends_short : (typist : TrialTypist) → IsFresh typist → (log : List Happening) → HasShort log →
    AreShortSent (sends_of meanings_of typist log)
sends_short typist f [] short = tt
sends_short typist f (came event ∷ older) short =
    both_short (sends_of meanings_of typist older)
    (sent_for meanings_of (came event) (typist_of meanings_of typist older))
    (sends_short typist f older short)
    (for_short (came event) (typist_of meanings_of typist older) tt (keys_wait typist f older))
sends_short typist f (committed b ∷ older) short =
    both_short (sends_of meanings_of typist older)
    (sent_for meanings_of (committed b) (typist_of meanings_of typist older))
    (sends_short typist f older short.1)
    (for_short (committed b) (typist_of meanings_of typist older) short.0 (keys_wait typist f older))

all_short : (ss : List Sent) → AreShortSent ss → AreShort ss
all_short [] h = tt
all_short (s ∷ more) h =
    (record { object = h.0.object; opcode = h.0.opcode; size = h.0.size }, all_short more h.1)

pub requests_short : (typist : TrialTypist) → IsFresh typist → (log : List Happening) → HasShort log →
    AreShort (requests_of typist log)
requests_short typist f log short =
    all_short (requests_of typist log)
    (both_short method_setup (sends_of meanings_of typist log) setup_short (sends_short typist f log short))

pub short-front : (a b : List Sent) → AreShort (a ++ b) → AreShort a
short-front [] b h = tt
short-front (s ∷ a) b h = (h.0, short-front a b h.1)

-- what a longer log asks for goes on
pub record AsksMore (typist : TrialTypist) (log after : List Happening) : Type 0 where
  pub more : List Sent
  pub is : requests_of typist after ≡ requests_of typist log ++ more

asks_by : (typist : TrialTypist) (more log : List Happening) → AsksMore typist log (more ++ log)
asks_by typist [] log = record { more = []; is = sym (append-nil (requests_of typist log)) }
asks_by typist (h ∷ more) log =
    let k = asks_by typist more log in
    let last : List Sent = sent_for meanings_of h (typist_of meanings_of typist (more ++ log)) in record {
      more = k.more ++ last;
      is = sym (append_assoc method_setup (sends_of meanings_of typist (more ++ log)) last)
          ∙ ap (λ (l : List Sent). l ++ last) k.is ∙ append_assoc (requests_of typist log) k.more last;
    }

pub asks_more : (typist : TrialTypist) (more log after : List Happening) → after ≡ more ++ log →
    AsksMore typist log after
asks_more typist more log after is =
    subst (λ (x : List Happening). AsksMore typist log x) (sym is) (asks_by typist more log)
