-- What a field's reader made of what its log asks for
use Rattle.std.proofs.Common.{◌≡◌, ℕ, List, [], ◌∷◌, ◌++◌, sym, ap, ap₂, subst, ◌∙◌, inl, inr, append_assoc, append-nil}
use Rattle.std.specs.Prelude.{◌⊎◌}
use Rattle.relay_model.specs.declared.act.EndCause.{EndCause}
use Rattle.broker_steps.specs.declared.limits.Limits.{Limits}
use Rattle.broker_model.specs.declared.journal.Entry.{Entry}
use Rattle.broker_model.specs.declared.journal.Kept.{Kept}
use Rattle.hub_calls.specs.Stands.{end_of}
use Rattle.client_side.specs.FieldLog.{sends_of}
use Rattle.client_side.specs.Happenings.{Happening}
use Rattle.client_side.specs.Messages.{Sent, spelled, field_setup}
use Rattle.hub_lock.specs.Histories.{History}
use Rattle.hub_lock.specs.Passes.{PeerPass}
use Rattle.hub_calls.specs.Made.{entries_by, journal_of, SawMore, HasEnded, IsFullFor}
use Rattle.hub_calls.specs.Submitted.{entries_in, MadeFirst}
use Rattle.hub_calls.proofs.EndsStay.{ends_stay}
use Rattle.hub_calls.proofs.PassesGrow.{same_peer}
use Rattle.trial_typing.specs.Fronts.{IsFrontOf}
use Rattle.trial_typing.specs.Sending.{HasSentFront, HasMade, IsOver, HaveSeenMore, IsFullForMessage}
use Rattle.trial_typing.proofs.RequestsWhole.{AreShort, short-append, sends_short, setup_short, entries_both}
use Rattle.trial_typing.proofs.FieldSent.{Longer, sends_on}

-- ---- an end that was seen

pub ended_stays : (limits : Limits) (before after : PeerPass) (cause : EndCause) → after.peer ≡ before.peer →
    SawMore limits before.seat.seen after.seat.seen → HasEnded limits before cause →
    (now : EndCause) × HasEnded limits after now
ended_stays limits before after cause peer saw h =
    let k = ends_stay limits before.seat.seen saw.more before.peer (cause, h) in
    (k.0, ap₂ (λ (h : History) q. end_of (journal_of limits h) q) saw.grew peer ∙ k.1)

pub over_stays : (limits : Limits) (r w r' w' : PeerPass) → HaveSeenMore limits r w r' w' → IsOver limits r w →
    IsOver limits r' w'
over_stays limits r w r' w' saw over = by over.1
  where
    by : (HasEnded limits r over.0 ⊎ HasEnded limits w over.0) → IsOver limits r' w'
    by (inl h) =
        let k = ended_stays limits r r' over.0 (same_peer r r' saw.same_reader) saw.reader_saw h in (k.0, inl k.1)
    by (inr h) =
        let k = ended_stays limits w w' over.0 (same_peer w w' saw.same_writer) saw.writer_saw h in (k.0, inr k.1)

-- ---- fronts of what was asked for

pub front_more : {A : Type 0} (es xs more : List A) → IsFrontOf es xs → IsFrontOf es (xs ++ more)
front_more es xs more f = record {
  rest = f.rest ++ more;
  is = ap (λ (l : List _). l ++ more) f.is ∙ append_assoc es f.rest more;
}

pub front_sents : (reader : PeerPass) (sents waits : List Sent) → AreShort sents → HasSentFront reader sents →
    HasSentFront reader (sents ++ waits)
front_sents reader sents waits short f =
    subst (λ (es : List Entry). IsFrontOf (entries_by reader.seat) es)
    (sym (entries_both reader.peer sents waits short))
    (front_more (entries_by reader.seat) (entries_in reader.peer (spelled sents))
    (entries_in reader.peer (spelled waits)) f)

pub front_moved : (reader reader' : PeerPass) (sents : List Sent) → reader'.peer ≡ reader.peer →
    entries_by reader'.seat ≡ entries_by reader.seat → HasSentFront reader sents → HasSentFront reader' sents
front_moved reader reader' sents peer same f = record {
  rest = f.rest;
  is = ap (λ q. entries_in q (spelled sents)) peer ∙ f.is ∙ ap (λ (es : List Entry). es ++ f.rest) (sym same);
}

pub made_front : (limits : Limits) (reader : PeerPass) (sents : List Sent) → HasMade limits reader sents →
    HasSentFront reader sents
made_front limits reader sents (inl e) =
    record { rest = []; is = sym e ∙ sym (append-nil (entries_by reader.seat)) }
made_front limits reader sents (inr k) = k.0

-- what a longer log asks for goes on
pub front_log : (reader : PeerPass) (log after : List Happening) → Longer log after →
    HasSentFront reader (field_setup ++ sends_of log) → HasSentFront reader (field_setup ++ sends_of after)
front_log reader log after longer f =
    let k = sends_on log after longer in
    subst (λ (ss : List Sent). HasSentFront reader ss)
    (append_assoc field_setup (sends_of log) k.more ∙ ap (λ (ss : List Sent). field_setup ++ ss) (sym k.is))
    (front_sents reader (field_setup ++ sends_of log) k.more
    (short-append field_setup (sends_of log) setup_short (sends_short log)) f)

-- ---- what waited is submitted

module _ (limits : Limits) (reader reader' : PeerPass) (sents waits : List Sent) (bytes : List ℕ)
    (short : AreShort sents) (waits-is : bytes ≡ spelled waits) (peer : reader'.peer ≡ reader.peer)
    (saw : SawMore limits reader.seat.seen reader'.seat.seen)
    (idle : (cause : EndCause) → HasEnded limits reader cause → entries_by reader'.seat ≡ entries_by reader.seat) where
  all-is : entries_in reader.peer (spelled (sents ++ waits))
      ≡ entries_in reader.peer (spelled sents) ++ entries_in reader.peer bytes
  all-is = entries_both reader.peer sents waits short
      ∙ ap (λ (b : List ℕ). entries_in reader.peer (spelled sents) ++ entries_in reader.peer b) (sym waits-is)

  stays : HasSentFront reader sents × ((cause : EndCause) × HasEnded limits reader cause) →
      HasSentFront reader' (sents ++ waits)
  stays k = front_sents reader' sents waits short
      (front_moved reader reader' sents peer (idle k.1.0 k.1.1) k.0)

  -- all of it
  pub all_made : entries_by reader'.seat ≡ entries_by reader.seat ++ entries_in reader.peer bytes →
      HasMade limits reader sents → HasMade limits reader' (sents ++ waits)
  all_made made (inl e) =
      inl (made ∙ ap (λ (es : List Entry). es ++ entries_in reader.peer bytes) e ∙ sym all-is
      ∙ ap (λ q. entries_in q (spelled (sents ++ waits))) (sym peer))
  all_made made (inr k) = inr (stays k, ended_stays limits reader reader' k.1.0 peer saw k.1.1)

  -- it made so much of it, unless the peer ended
  made_next : (made : List Entry) → entries_by reader'.seat ≡ entries_by reader.seat ++ made → HasMade limits reader
      sents →
      (entries_by reader'.seat ≡ entries_in reader.peer (spelled sents) ++ made)
      ⊎ ((cause : EndCause) × HasEnded limits reader' cause)
  made_next made is (inl e) = inl (is ∙ ap (λ (es : List Entry). es ++ made) e)
  made_next made is (inr k) = inr (ended_stays limits reader reader' k.1.0 peer saw k.1.1)

  -- the journal is full for the next of it
  pub full_for_next : (kept : Kept) →
      MadeFirst reader reader' (entries_in reader.peer bytes) (λ next. IsFullFor limits reader'.seat.seen next kept) →
      HasMade limits reader sents → IsFullForMessage limits reader' (sents ++ waits) kept
  full_for_next kept f made = record {
    made = entries_in reader.peer (spelled sents) ++ f.made;
    next = f.next;
    later = f.left;
    all_are = ap (λ q. entries_in q (spelled (sents ++ waits))) peer ∙ all-is
        ∙ ap (λ (es : List Entry). entries_in reader.peer (spelled sents) ++ es) f.all_are
        ∙ sym (append_assoc (entries_in reader.peer (spelled sents)) f.made (f.next ∷ f.left));
    is_next = made_next f.made f.entries made;
    full = f.why;
  }

  -- the first of it
  pub first_made : (Why : Entry → Type 0) → MadeFirst reader reader' (entries_in reader.peer bytes) Why →
      HasMade limits reader sents → HasSentFront reader' (sents ++ waits)
  first_made Why f (inl e) = record {
    rest = f.next ∷ f.left;
    is = ap (λ q. entries_in q (spelled (sents ++ waits))) peer ∙ all-is
        ∙ ap (λ (es : List Entry). entries_in reader.peer (spelled sents) ++ es) f.all_are
        ∙ sym (append_assoc (entries_in reader.peer (spelled sents)) f.made (f.next ∷ f.left))
        ∙ ap (λ (es : List Entry). (es ++ f.made) ++ (f.next ∷ f.left)) (sym e)
        ∙ ap (λ (es : List Entry). es ++ (f.next ∷ f.left)) (sym f.entries);
  }
  first_made Why f (inr k) = stays k
