-- The entries that a reader makes of requests are the steps that they ask for
use Rattle.std.proofs.Common.{◌≡◌, ℕ, List, [], ◌∷◌, ◌++◌, map, refl, sym, ap, subst, ◌∙◌, append-nil, inl, inr}
use Rattle.std.proofs.lemmas.Bool.{eq-eqb}
use Rattle.broker_steps.specs.declared.limits.Limits.{Limits}
use Rattle.wl_wire.specs.Messages.{opcode_of, body_of, messages}
use Rattle.wl_proto.specs.Spelling.{message_bytes}
use Rattle.wl_proto.proofs.WrittenIsWhole.{written_whole}
use Rattle.client_side.specs.Messages.{Sent, spelled}
use Rattle.broker_model.specs.declared.journal.Entry.{Entry}
use Rattle.broker_model.specs.declared.journal.Entry.TheVariants as entries
use Rattle.hub_lock.specs.Histories.{History}
use Rattle.hub_lock.specs.Lawful.{IsLawful}
use Rattle.hub_lock.specs.Passes.{PeerPass}
use Rattle.hub_calls.specs.Made.{entries_by, journal_of}
use Rattle.hub_calls.specs.Counted.{entries_of_pass}
use Rattle.hub_calls.specs.Submitted.{message_entry, entries_in}
use Rattle.hub_calls.proofs.PassesCounted.{steps_stay}
use Rattle.trial_laws.specs.RelayedBatches.{IsFrontOf}
use Rattle.trial_run.proofs.FirstMessages.{first_is}
use Rattle.trial_laws.proofs.RequestsWait.{no_messages}
use Rattle.trial_laws.specs.TypedLogs.{steps_by, step_of_request, steps_of}
use Rattle.trial_typing.specs.Sending.{HasSent, HasSentFront}
use Rattle.trial_typing.proofs.RequestsWhole.{IsShort, AreShort}
use Rattle.trial_job_laws.specs.Passes.{ArePassesOf, HasSentIn}
use Rattle.trial_job_laws.proofs.StepsOfPeers.{AreStepsOf, steps_of_reader}
use Rattle.trial_job_laws.proofs.PassesSeen.{over_in}

-- ---- requests

one_step : (q : ℕ) (s : Sent) → IsShort s → message_entry q (message_bytes s.object s.message) ≡ step_of_request q s
one_step q s h =
    let w = written_whole s.object s.message h.object h.opcode h.size in
    let bytes : List ℕ = message_bytes s.object s.message in
    ap (λ id. entries.Message q id (opcode_of bytes) (body_of bytes)) w.1
    ∙ ap (λ opcode. entries.Message q s.object opcode (body_of bytes)) w.2
    ∙ ap (λ (body : List ℕ). entries.Message q s.object s.message.opcode body) w.3

pub in_order : (q : ℕ) (ss : List Sent) → AreShort ss → entries_in q (spelled ss) ≡ steps_of q ss
in_order q [] h = ap (map (message_entry q)) no_messages
in_order q (s ∷ more) h =
    ap (map (message_entry q)) (first_is (message_bytes s.object s.message) (spelled more)
    (written_whole s.object s.message h.0.object h.0.opcode h.0.size).0)
    ∙ ap (λ (e : Entry). e ∷ entries_in q (spelled more)) (one_step q s h.0)
    ∙ ap (λ (l : List Entry). step_of_request q s ∷ l) (in_order q more h.1)

-- ---- what a reader made

messages_steps : (q : ℕ) (ms : List (List ℕ)) → AreStepsOf q (map (message_entry q) ms)
messages_steps q [] = tt
messages_steps q (m ∷ ms) = (eq-eqb q q refl, messages_steps q ms)

front_steps : (q : ℕ) (xs ys : List Entry) → AreStepsOf q (xs ++ ys) → AreStepsOf q xs
front_steps q [] ys h = tt
front_steps q (x ∷ xs) ys h = (h.0, front_steps q xs ys h.1)

pub front_by : (limits : Limits) (reader writer : PeerPass) (ss : List Sent) → HasSent limits reader writer ss →
    HasSentFront reader ss
front_by limits reader writer ss (inl all) = record {
  rest = [];
  is = sym all ∙ sym (append-nil (entries_by reader.seat));
}
front_by limits reader writer ss (inr f) = f.0

-- the peer's steps in the journal are those of its reader
made_in : (limits : Limits) (h : History) (q : ℕ) (reader writer : PeerPass) (ss : List Sent) → IsLawful limits h →
    ArePassesOf h q reader writer → HasSentFront reader ss →
    steps_by (journal_of limits h) q ≡ entries_by reader.seat
made_in limits h q reader writer ss lawful p f =
    let stays : entries_of_pass reader.seat.number h ≡ entries_by reader.seat =
    steps_stay reader.seat h p.reader_seen in
    let all : AreStepsOf q (entries_by reader.seat ++ f.rest) =
    subst (AreStepsOf q) f.is (subst (λ k. AreStepsOf q (entries_in k (spelled ss))) (sym p.reads_for)
    (messages_steps q (messages (spelled ss)))) in
    steps_of_reader limits h q reader.seat.number lawful p.reads
    (subst (AreStepsOf q) (sym stays) (front_steps q (entries_by reader.seat) f.rest all)) ∙ stays

pub front_sent : (limits : Limits) (h : History) (q : ℕ) (reader writer : PeerPass) (ss : List Sent) →
    IsLawful limits h → ArePassesOf h q reader writer → AreShort ss → HasSentFront reader ss →
    IsFrontOf (steps_by (journal_of limits h) q) (steps_of q ss)
front_sent limits h q reader writer ss lawful p short f = record {
  rest = f.rest;
  is = ap (λ (l : List Entry). l ++ f.rest) (made_in limits h q reader writer ss lawful p f)
      ∙ sym f.is ∙ ap (λ k. entries_in k (spelled ss)) p.reads_for ∙ in_order q ss short;
}

pub all_sent : (limits : Limits) (h : History) (q : ℕ) (reader writer : PeerPass) (ss : List Sent) →
    IsLawful limits h → ArePassesOf h q reader writer → AreShort ss → HasSent limits reader writer ss →
    HasSentIn (journal_of limits h) q ss
all_sent limits h q reader writer ss lawful p short (inl all) =
    inl (made_in limits h q reader writer ss lawful p (front_by limits reader writer ss (inl all))
    ∙ all ∙ ap (λ k. entries_in k (spelled ss)) p.reads_for ∙ in_order q ss short)
all_sent limits h q reader writer ss lawful p short (inr f) =
    inr (front_sent limits h q reader writer ss lawful p short f.0, over_in limits h q reader writer p f.1)
