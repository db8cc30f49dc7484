-- What a peer's passes have seen stays so in the whole history
use Rattle.std.proofs.Common.{◌≡◌, ℕ, ◌≤◌, List, [], ◌∷◌, ◌++◌, length, map, take, Some, refl, sym, ap, subst, ◌∙◌, inl, inr, append-nil}
use Rattle.std.specs.Prelude.{◌⊎◌}
use Rattle.broker_steps.specs.declared.limits.Limits.{Limits}
use Rattle.broker_model.specs.declared.journal.Entry.{Entry}
use Rattle.broker_model.specs.Ids.{Joined, peer_at}
use Rattle.broker_model.specs.Resolve.{past_of}
use Rattle.broker_model.specs.Out.{Outgoing, out_for}
use Rattle.broker_model.specs.Settle.{history}
use Rattle.broker_core.specs.Stands.{end_of}
use Rattle.turn_lock.specs.Pairs.{own, NoneOf, HasSeen}
use Rattle.turn_lock.proofs.PairsOfNumbers.{none-append}
use Rattle.hub_lock.specs.declared.step.OuterStep.{OuterStep}
use Rattle.hub_lock.specs.Histories.{History, entries_of, writer_of}
use Rattle.hub_lock.specs.Lawful.{IsLawful}
use Rattle.hub_lock.specs.Passes.{PeerPass}
use Rattle.hub_lock.proofs.LegalCalls.{writer-joined}
use Rattle.hub_calls.specs.Made.{journal_of, journal_by, HasEnded}
use Rattle.hub_calls.specs.Taken.{HasFront, HasTaken}
use Rattle.hub_calls.proofs.OthersTakeNothing.{entries-append, made-back, took-none}
use Rattle.hub_calls.proofs.FrontsGrow.{Grows, history_keeps, IsOnly, only_one, history_grows, front_same}
use Rattle.hub_calls.proofs.EndsStay.{ends_stay}
use Rattle.trial_laws.specs.FieldLogs.{bytes_taken}
use Rattle.trial_typing.specs.Sending.{IsOver}
use Rattle.trial_job_laws.specs.Passes.{ArePassesOf, HasEndIn}

-- ---- what was taken

-- the bytes are what the journal says was taken for the peer q
pub record TookIn (limits : Limits) (journal : List Entry) (q : ℕ) (bytes : List ℕ) : Type 0 where
  pub peer : Joined
  pub joined : peer_at (past_of journal) q ≡ Some peer
  pub is : bytes ≡ bytes_taken limits.store journal peer.label

none_of : (xs : List OuterStep) → map (λ (s : OuterStep). s.entry) xs ≡ [] → xs ≡ []
none_of [] e = refl
none_of (x ∷ xs) e = absurd (cc)

-- nothing, where its writer made no step
took_nothing : (limits : Limits) (h : History) (q n : ℕ) → IsLawful limits h → writer_of h q ≡ Some n →
    NoneOf n h → TookIn limits (journal_of limits h) q []
took_nothing limits h q n lawful writes free =
    let p = writer-joined limits h q n lawful writes in
    let J : List Entry = journal_of limits h in
    let all : J ≡ history limits.store (entries_of h ++ []) =
    ap (history limits.store) (sym (append-nil (entries_of h))) in
    let only : IsOnly (history limits.store (entries_of h ++ [])) q p.0.label =
    subst (λ (j : List Entry). IsOnly j q p.0.label) all (only_one J q p.0 p.1) in
    let grows : Grows 0 (out_for limits.store [] p.0.label) (out_for limits.store J p.0.label) =
    subst (λ (j : List Entry). Grows 0 (out_for limits.store [] p.0.label) (out_for limits.store j p.0.label))
    (sym all) (history_grows limits.store (entries_of h) [] q p.0.label only
    (took-none h h q n lawful.made_by writes free)) in
    let none : (out_for limits.store J p.0.label).taken ≡ 0 = grows.taken in
    record {
      peer = p.0;
      joined = p.1;
      is = ap (λ k. take k (out_for limits.store J p.0.label).put.bytes) (sym none);
    }

-- all that had been taken, where it made no step since
took_before : (limits : Limits) (seen rest : History) (q n : ℕ) (pass : PeerPass) (bytes : List ℕ) →
    IsLawful limits (seen ++ rest) → writer_of (seen ++ rest) q ≡ Some n → NoneOf n rest →
    pass.peer ≡ q → pass.seat.seen ≡ seen → HasFront limits pass bytes →
    TookIn limits (journal_of limits (seen ++ rest)) q bytes
took_before limits seen rest q n pass bytes lawful writes free for-is seen-is f =
    let es : List Entry = entries_of rest in
    let base : List Entry = entries_of seen in
    let both : journal_of limits (seen ++ rest) ≡ history limits.store (es ++ base) =
    ap (history limits.store) (entries-append seen rest) in
    let before : journal_by limits pass ≡ history limits.store base = ap (journal_of limits) seen-is in
    let old : peer_at (past_of (history limits.store base)) q ≡ Some f.peer =
    subst (λ (j : List Entry). peer_at (past_of j) q ≡ Some f.peer) before
    (subst (λ k. peer_at (past_of (journal_by limits pass)) k ≡ Some f.peer) for-is f.there) in
    let there : peer_at (past_of (history limits.store (es ++ base))) q ≡ Some f.peer =
    history_keeps limits.store es base q f.peer old in
    let a : Outgoing = out_for limits.store (history limits.store base) f.peer.label in
    let b : Outgoing = out_for limits.store (history limits.store (es ++ base)) f.peer.label in
    let out : f.out ≡ a =
    f.out_is ∙ ap (λ (j : List Entry). out_for limits.store j f.peer.label) before in
    let grows : Grows 0 a b =
    history_grows limits.store es base q f.peer.label (only_one (history limits.store (es ++ base)) q f.peer there)
    (took-none (seen ++ rest) rest q n (made-back (seen ++ rest) seen rest lawful.made_by) writes free) in
    let within : a.taken ≤ length a.put.bytes =
    subst (λ (o : Outgoing). o.taken ≤ length o.put.bytes) out f.within in
    record {
      peer = f.peer;
      joined = ap (λ (j : List Entry). peer_at (past_of j) q) both ∙ there;
      is = f.front ∙ ap (λ (o : Outgoing). take o.taken o.put.bytes) out ∙ sym (front_same a b grows within)
          ∙ ap (λ (j : List Entry). bytes_taken limits.store j f.peer.label) (sym both);
    }

pub took_in : (limits : Limits) (h : History) (q : ℕ) (reader writer : PeerPass) (bytes : List ℕ) →
    IsLawful limits h → ArePassesOf h q reader writer → HasTaken limits writer bytes →
    TookIn limits (journal_of limits h) q bytes
took_in limits h q reader writer bytes lawful p (inl none) =
    let s = p.writer_seen in
    let mine : NoneOf writer.seat.number writer.seat.seen =
    none_of (own writer.seat.number writer.seat.seen) none.0 in
    let free : NoneOf writer.seat.number h =
    subst (λ (l : History). NoneOf writer.seat.number l) (sym s.1)
    (none-append writer.seat.number writer.seat.seen s.0 mine s.2) in
    subst (TookIn limits (journal_of limits h) q) (sym none.1)
    (took_nothing limits h q writer.seat.number lawful p.writes free)
took_in limits h q reader writer bytes lawful p (inr f) =
    let s = p.writer_seen in
    subst (λ (l : History). TookIn limits (journal_of limits l) q bytes) (sym s.1)
    (took_before limits writer.seat.seen s.0 q writer.seat.number writer bytes
    (subst (IsLawful limits) s.1 lawful) (subst (λ (l : History). writer_of l q ≡ Some writer.seat.number) s.1 p.writes)
    s.2 p.writes_for refl f)

-- ---- the peer's end

ended_in : (limits : Limits) (h seen : History) (n q : ℕ) → HasSeen h n seen →
    HasEndIn (journal_of limits seen) q → HasEndIn (journal_of limits h) q
ended_in limits h seen n q s end =
    subst (λ (l : History). HasEndIn (journal_of limits l) q) (sym s.1) (ends_stay limits seen s.0 q end)

pub over_in : (limits : Limits) (h : History) (q : ℕ) (reader writer : PeerPass) →
    ArePassesOf h q reader writer → IsOver limits reader writer → HasEndIn (journal_of limits h) q
over_in limits h q reader writer p over = by over.1
  where
    by : HasEnded limits reader over.0 ⊎ HasEnded limits writer over.0 → HasEndIn (journal_of limits h) q
    by (inl e) =
        ended_in limits h reader.seat.seen reader.seat.number q p.reader_seen
        (over.0, subst (λ k. end_of (journal_by limits reader) k ≡ Some over.0) p.reads_for e)
    by (inr e) =
        ended_in limits h writer.seat.seen writer.seat.number q p.writer_seen
        (over.0, subst (λ k. end_of (journal_by limits writer) k ≡ Some over.0) p.writes_for e)
