-- What a field's job keeps from part to part
use Rattle.std.proofs.Common.{◌≡◌, ℕ, List, [], ◌∷◌, ◌++◌, map, Result, Ok, Err, refl, sym, ap, subst, ◌∙◌, append_assoc, append-nil}
use Rattle.std.proofs.lemmas.List.{map-append}
use Rattle.broker_steps.specs.declared.limits.Limits.{Limits}
use Rattle.broker_model.specs.declared.journal.Entry.{Entry}
use Rattle.broker_model.specs.declared.journal.Entry.TheVariants as entries
use Rattle.client_side.specs.Client.{Client}
use Rattle.client_side.specs.FieldState.{State}
use Rattle.trial_client_logs.specs.declared.entry.FieldEntry.{FieldEntry}
use Rattle.hub_lock.specs.Passes.{HubId, PeerPass, IsOf}
use Rattle.hub_lock.specs.Calls.{pass_having_seen}
use Rattle.hub_calls.specs.declared.stop.PassStop.{PassStop}
use Rattle.hub_calls.specs.declared.stop.PassStop.TheVariants as stops
use Rattle.hub_calls.specs.declared.take.Piece.{Piece}
use Rattle.hub_calls.specs.declared.take.Piece.TheVariants as pieces
use Rattle.hub_calls.specs.Made.{entries_by, SawMore}
use Rattle.hub_calls.specs.Taken.{TakesPiece}
use Rattle.hub_calls.proofs.PassesGrow.{saw_none, saw_both, pass_both, same_peer}
use Rattle.trial_typing.specs.declared.field_job.FieldJob.{FieldJob}
use Rattle.trial_typing.specs.FieldGoing.{IsFieldOf, FieldKeeps}
use Rattle.trial_typing.specs.Sending.{MadeTakes, HaveSeenMore}

-- a writer's takes

no_takes : (w : PeerPass) → MadeTakes w w
no_takes w = record { counts = []; made = sym (append-nil (entries_by w.seat)) }

both_takes : (a b c : PeerPass) → b.peer ≡ a.peer → MadeTakes a b → MadeTakes b c → MadeTakes a c
both_takes a b c peer one two = record {
  counts = one.counts ++ two.counts;
  made = two.made
      ∙ ap (λ (q : ℕ). entries_by b.seat ++ map (λ n. entries.Took q n) two.counts) peer
      ∙ ap (λ (l : List Entry). l ++ map (λ n. entries.Took a.peer n) two.counts) one.made
      ∙ append_assoc (entries_by a.seat) (map (λ n. entries.Took a.peer n) one.counts)
      (map (λ n. entries.Took a.peer n) two.counts)
      ∙ ap (λ (l : List Entry). entries_by a.seat ++ l)
      (sym (map-append (λ n. entries.Took a.peer n) one.counts two.counts));
}

nothing_more : (w w' : PeerPass) → entries_by w'.seat ≡ entries_by w.seat → MadeTakes w w'
nothing_more w w' same = record { counts = []; made = same ∙ sym (append-nil (entries_by w.seat)) }

pub made_takes : (limits : Limits) (w w' : PeerPass) (buf : List ℕ) (r : Result Piece PassStop) →
    TakesPiece limits w w' buf r → MadeTakes w w'
made_takes limits w w' buf (Ok (pieces.Bytes count)) t = record { counts = count ∷ []; made = t.entries }
made_takes limits w w' buf (Ok pieces.Empty) t = nothing_more w w' t.0.entries
made_takes limits w w' buf (Ok pieces.Closed) t = nothing_more w w' t.0.entries
made_takes limits w w' buf (Err (stops.JournalFull kept)) t = nothing_more w w' t.0.entries
made_takes limits w w' buf (Err stops.NoMemory) t = nothing_more w w' t.entries

-- passes that did nothing, or one thing after the other

pub saw_nothing : (limits : Limits) (r w : PeerPass) → HaveSeenMore limits r w r w
saw_nothing limits r w = record {
  same_reader = refl;
  same_writer = refl;
  reader_saw = saw_none limits r.seat.seen;
  writer_saw = saw_none limits w.seat.seen;
  takes = no_takes w;
}

pub saw_all : (limits : Limits) (r w r₁ w₁ r₂ w₂ : PeerPass) → HaveSeenMore limits r w r₁ w₁ →
    HaveSeenMore limits r₁ w₁ r₂ w₂ → HaveSeenMore limits r w r₂ w₂
saw_all limits r w r₁ w₁ r₂ w₂ one two = record {
  same_reader = pass_both r r₁ r₂ one.same_reader two.same_reader;
  same_writer = pass_both w w₁ w₂ one.same_writer two.same_writer;
  reader_saw = saw_both limits r.seat.seen r₁.seat.seen r₂.seat.seen one.reader_saw two.reader_saw;
  writer_saw = saw_both limits w.seat.seen w₁.seat.seen w₂.seat.seen one.writer_saw two.writer_saw;
  takes = both_takes w w₁ w₂ (same_peer w w₁ one.same_writer) one.takes two.takes;
}

pub saw_reader : (limits : Limits) (r w r' : PeerPass) → r' ≡ pass_having_seen r r'.seat.seen →
    SawMore limits r.seat.seen r'.seat.seen → HaveSeenMore limits r w r' w
saw_reader limits r w r' is saw = record {
  same_reader = is;
  same_writer = refl;
  reader_saw = saw;
  writer_saw = saw_none limits w.seat.seen;
  takes = no_takes w;
}

pub saw_writer : (limits : Limits) (r w w' : PeerPass) → w' ≡ pass_having_seen w w'.seat.seen →
    SawMore limits w.seat.seen w'.seat.seen → MadeTakes w w' → HaveSeenMore limits r w r w'
saw_writer limits r w w' is saw takes = record {
  same_reader = refl;
  same_writer = is;
  reader_saw = saw_none limits r.seat.seen;
  writer_saw = saw;
  takes = takes;
}

-- and jobs

pub keeps_none : (limits : Limits) (job : FieldJob) → FieldKeeps limits job job
keeps_none limits job = record { saw = saw_nothing limits job.reader job.writer; same = refl }

pub keeps_both : (limits : Limits) (a b c : FieldJob) → FieldKeeps limits a b → FieldKeeps limits b c →
    FieldKeeps limits a c
keeps_both limits a b c one two = record {
  saw = saw_all limits a.reader a.writer b.reader b.writer c.reader c.writer one.saw two.saw;
  same = two.same ∙ one.same;
}

pub of_kept : (hub : HubId) (a b : FieldJob) → IsFieldOf hub a → FieldKeeps hub.limits a b → IsFieldOf hub b
of_kept hub a b of k = record {
  reads = subst (λ (p : PeerPass). IsOf hub p.seat) (sym k.saw.same_reader) of.reads;
  writes = subst (λ (p : PeerPass). IsOf hub p.seat) (sym k.saw.same_writer) of.writes;
  one_peer = same_peer a.writer b.writer k.saw.same_writer ∙ of.one_peer ∙ sym
      (same_peer a.reader b.reader k.saw.same_reader);
}

-- a job whose client heard, or whose writer saw more
pub heard_kept : (limits : Limits) (job : FieldJob) (client : Client State) (log : List FieldEntry) →
    FieldKeeps limits job (record job { client = client; log = log })
heard_kept limits job client log = record { saw = saw_nothing limits job.reader job.writer; same = refl }

pub took_kept : (limits : Limits) (job : FieldJob) (writer' : PeerPass) →
    writer' ≡ pass_having_seen job.writer writer'.seat.seen → SawMore limits job.writer.seat.seen writer'.seat.seen →
    MadeTakes job.writer writer' → FieldKeeps limits job (record job { writer = writer' })
took_kept limits job writer' is saw takes =
    record { saw = saw_writer limits job.reader job.writer writer' is saw takes; same = refl }
