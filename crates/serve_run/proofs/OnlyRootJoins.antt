-- No pass but the root joins peers
use Rattle.std.proofs.Common.{◌≡◌, inl, inr, ⊎_elim, ◌++◌, ◌∷◌, [], ℕ, Bool, true, false, List, map, Option, Some, None, refl, sym, ap, ◌∙◌, subst}
use Rattle.std.specs.Prelude.{◌&&◌}
use mathlib.Core.Logic.{dite, ∥∥₁_elim}
use mathlib.Core.Bool.{Bool-set}
use native.Mathlib.Decide.{ℕ_discrete}
use Rattle.broker_steps.specs.declared.limits.Limits.{Limits}
use Rattle.broker_steps.specs.Messages.{messages, bad_size, bad_size_at, behind}
use Rattle.broker_model.specs.declared.journal.Entry.{Entry}
use Rattle.broker_model.specs.declared.journal.Entry.TheVariants as entries
use Rattle.peer_link.specs.Got.{Got}
use Rattle.peer_link.specs.Frames.{Frame}
use Rattle.peer_link.specs.Steps.{message_entry, bad_entries, steps_in}
use Rattle.turn_lock.specs.Pairs.{own, HasSeen, IsIn}
use Rattle.turn_lock.proofs.PairsOfNumbers.{own-here, own-else, own-seen}
use Rattle.hub_lock.specs.declared.step.OuterStep.{OuterStep}
use Rattle.hub_lock.specs.Histories.{History}
use Rattle.hub_lock.specs.Passes.{PassSeat, PeerPass}
use Rattle.peer_link.specs.declared.ends.ReadEnd.{ReadEnd}
use Rattle.peer_link.specs.declared.ends.ReadEnd.TheVariants as ends
use Rattle.peer_link.specs.Made.{entries_by}
use Rattle.peer_link.specs.LinkSteps.{token_steps, steps_unless_bad, byte_steps, steps_behind}
use Rattle.peer_link.specs.ReadsPeer.{ReadsPeer, StopsAt, StopsBy, MadeAll, MadeBefore, EndsAs, gone_after}
use Rattle.serve_jobs.specs.Tags.{Report, End, Part}
use Rattle.serve_jobs.specs.Tags.End.{read, wrote, ordered}
use Rattle.serve_jobs.specs.Tags.Part.{reader, writer, shell}
use Rattle.serve_run.specs.LinkJobs.{LinkedJob, job_reported}
use Rattle.serve_run.specs.Reported.{LawOf, HaveLaws}
use Rattle.serve_run.specs.ServerLaw.{IsRootIfJoin, OnlyRootJoins}
use Rattle.serve_run.specs.Unserved.{IsGoneAlone, MadeBy, AreUnserved, pushed}
use Rattle.serve_run.proofs.NumbersTaken.{AllIn}

-- entries that aren't joins

abbrev plain : Entry → Bool
plain (entries.Join role) = false
plain _ = true

abbrev all_plain : List Entry → Bool
all_plain [] = true
all_plain (e ∷ es) = plain e && all_plain es

and_both : (a b : Bool) → a ≡ true → b ≡ true → (a && b) ≡ true
and_both true b one two = two
and_both false b one two = absurd cc

and_left : (a b : Bool) → (a && b) ≡ true → a ≡ true
and_left true b both = refl
and_left false b both = absurd cc

and_right : (a b : Bool) → (a && b) ≡ true → b ≡ true
and_right true b both = both
and_right false b both = absurd cc

plain_both : (xs ys : List Entry) → all_plain xs ≡ true → all_plain ys ≡ true → all_plain (xs ++ ys) ≡ true
plain_both [] ys one two = two
plain_both (x ∷ xs) ys one two =
    and_both (plain x) (all_plain (xs ++ ys)) (and_left (plain x) (all_plain xs) one)
    (plain_both xs ys (and_right (plain x) (all_plain xs) one) two)

plain_front : (xs ys : List Entry) → all_plain (xs ++ ys) ≡ true → all_plain xs ≡ true
plain_front [] ys both = refl
plain_front (x ∷ xs) ys both =
    and_both (plain x) (all_plain xs) (and_left (plain x) (all_plain (xs ++ ys)) both)
    (plain_front xs ys (and_right (plain x) (all_plain (xs ++ ys)) both))

plain_mapped : {A : Type 0} (f : A → Entry) (xs : List A) → ((x : A) → plain (f x) ≡ true) → all_plain (map f xs) ≡ true
plain_mapped f [] each = refl
plain_mapped f (x ∷ xs) each = and_both (plain (f x)) (all_plain (map f xs)) (each x) (plain_mapped f xs each)

-- of a reader

plain_bad : (q : ℕ) (rest : List ℕ) (size : Option ℕ) → all_plain (bad_entries q rest size) ≡ true
plain_bad q rest None = refl
plain_bad q rest (Some size) = refl

plain_steps : (q : ℕ) (bytes : List ℕ) → all_plain (steps_in q bytes) ≡ true
plain_steps q bytes =
    plain_both (map (message_entry q) (messages bytes)) (bad_entries q (behind bytes) (bad_size bytes))
    (plain_mapped (message_entry q) (messages bytes) (λ m. refl)) (plain_bad q (behind bytes) (bad_size bytes))

plain_unless : (q : ℕ) (bad : Option ℕ) (bytes : List ℕ) → all_plain (steps_unless_bad q bad bytes) ≡ true
plain_unless q None bytes = plain_steps q bytes
plain_unless q (Some size) bytes = refl

plain_tokens : (q : ℕ) (tokens : List ℕ) → all_plain (token_steps q tokens) ≡ true
plain_tokens q [] = refl
plain_tokens q (t ∷ tokens) = refl

plain_link : (q : ℕ) (waiting : List ℕ) (frames : List Frame) → all_plain (steps_behind q waiting frames) ≡ true
plain_link q waiting [] = refl
plain_link q waiting (f ∷ frames) =
    plain_both (token_steps q f.tokens ++ byte_steps q waiting f.bytes)
    (steps_behind q (behind (waiting ++ f.bytes)) frames)
    (plain_both (token_steps q f.tokens) (byte_steps q waiting f.bytes) (plain_tokens q f.tokens)
    (plain_unless q (bad_size_at waiting) (waiting ++ f.bytes)))
    (plain_link q (behind (waiting ++ f.bytes)) frames)

plain_stopped : (q : ℕ) (frames : List Frame) (rest : List ℕ) (made : List Entry) (e : Entry) →
    StopsAt q frames rest made e
    → all_plain made ≡ true
plain_stopped q frames rest made e at =
    plain_front made (e ∷ at.more) (ap all_plain (sym at.given) ∙ plain_link q [] frames)

plain_before : (q : ℕ) (frames : List Frame) (rest : List ℕ) (left : Option (List ℕ)) (faults : ℕ) (made : List Entry)
    → MadeBefore q frames rest left faults made → all_plain made ≡ true
plain_before q frames rest left faults made (inl quiet) =
    ⊎_elim (λ (m : MadeAll q frames rest made). ap all_plain m.all ∙ plain_link q [] frames)
    (λ others. ⊎_elim
    (λ (by : (why : Got) × StopsBy q frames rest left made why). ap all_plain by.1.all ∙ plain_link q [] frames)
    (λ (some : (e : Entry) × StopsAt q frames rest made e). plain_stopped q frames rest made some.0 some.1) others)
    quiet.1
plain_before q frames rest left faults made (inr one) = ap all_plain one.1.all ∙ plain_link q [] frames

plain_made : (limits : Limits) (p : PeerPass) (frames : List Frame) (rest : List ℕ) (left : Option (List ℕ))
    (faults : ℕ) (made : List Entry)
    (end : ReadEnd) → EndsAs limits p frames rest left faults made end → all_plain made ≡ true
plain_made limits p frames rest left faults made ends.Closed is = ap all_plain is.all ∙ plain_link p.peer [] frames
plain_made limits p frames rest left faults made (ends.Torn n) is = ap all_plain is.all ∙ plain_link p.peer [] frames
plain_made limits p frames rest left faults made (ends.BadFrame n t) is =
    ap all_plain is.all ∙ plain_link p.peer [] frames
plain_made limits p frames rest left faults made ends.ReadFault is = ap all_plain is.all ∙ plain_link p.peer [] frames
plain_made limits p frames rest left faults made (ends.Ended cause) is =
    plain_before p.peer frames rest left faults made is.1
plain_made limits p frames rest left faults made (ends.JournalFull kept) is =
    plain_stopped p.peer frames rest made is.0 is.1
plain_made limits p frames rest left faults made ends.NoMemory (inl none) = ap all_plain none.made_none
plain_made limits p frames rest left faults made ends.NoMemory (inr some) =
    plain_stopped p.peer frames rest made some.0 some.1

plain_gone : (q : ℕ) (end : ReadEnd) → all_plain (gone_after q end) ≡ true
plain_gone q ends.Closed = refl
plain_gone q (ends.Torn n) = refl
plain_gone q (ends.BadFrame n t) = refl
plain_gone q ends.ReadFault = refl
plain_gone q (ends.Ended cause) = refl
plain_gone q (ends.JournalFull kept) = refl
plain_gone q ends.NoMemory = refl

plain_read : (limits : Limits) (p : PeerPass) (bytes : List ℕ) (left : Option (List ℕ)) (faults : ℕ) (end : ReadEnd)
    → ReadsPeer limits p bytes left faults end → all_plain (entries_by p.seat) ≡ true
plain_read limits p bytes left faults end law =
    ap all_plain law.entries
    ∙ plain_both law.made (gone_after p.peer end)
    (plain_made limits p law.frames law.rest left faults law.made end law.ends) (plain_gone p.peer end)

-- of any pass in the history

abbrev PlainAt : History → ℕ → Type 0
PlainAt h n = all_plain (map (λ (s : OuterStep). s.entry) (own n h)) ≡ true

plain_at : (h : History) (n : ℕ) (seat : PassSeat) → seat.number ≡ n → HasSeen h n seat.seen
    → all_plain (entries_by seat) ≡ true → PlainAt h n
plain_at h n seat is seen plain =
    ap (λ steps. all_plain (map (λ (s : OuterStep). s.entry) steps))
    (own-seen h seat.seen n seen ∙ ap (λ m. own m seat.seen) (sym is)) ∙ plain

plain_law : (limits : Limits) (h : History) (r : Report) (end : End) → LawOf limits h r end → PlainAt h r.number
plain_law limits h r (read end) law =
    plain_at h r.number law.pass.seat law.seat.number
    (subst (λ n. HasSeen h n law.pass.seat.seen) law.seat.number law.seat.seen)
    (plain_read law.law.limits law.pass law.law.read r.left r.source_faults end law.law.law)
plain_law limits h r (wrote end) law =
    plain_at h r.number law.pass.seat law.seat.number
    (subst (λ n. HasSeen h n law.pass.seat.seen) law.seat.number law.seat.seen)
    (ap all_plain law.law.law.takes ∙ plain_mapped (λ n. entries.Took law.pass.peer n) law.law.law.sizes (λ n. refl))
plain_law limits h r (ordered end) law =
    plain_at h r.number law.shell law.seat.number
    (subst (λ n. HasSeen h n law.shell.seen) law.seat.number law.seat.seen)
    (ap all_plain law.law.law.entries ∙ plain_mapped (λ step. entries.Shell step) law.law.law.steps (λ step. refl))

-- the jobs' passes joined nobody
abbrev ArePlain : History → List LinkedJob → Type 0
ArePlain h [] = Unit {0}
ArePlain h (j ∷ jobs) = PlainAt h j.number × ArePlain h jobs

pub plain_reports : (limits : Limits) (h : History) (given : List Report) → HaveLaws limits h given
    → ArePlain h (map job_reported given)
plain_reports limits h [] laws = tt
plain_reports limits h (r ∷ given) laws = (
  ∥∥₁_elim laws.0 (Bool-set _ _) (plain_law limits h r r.end),
  plain_reports limits h given laws.1,
)

plain_alone : (limits : Limits) (h : History) (n : ℕ) → IsGoneAlone limits h n → PlainAt h n
plain_alone limits h n gone =
    plain_at h n gone.pass.seat gone.number gone.seen (ap all_plain gone.says)

plain_unserved_by : (limits : Limits) (h : History) (n : ℕ) (part : Part) → MadeBy limits h n part → PlainAt h n
plain_unserved_by limits h n reader made = plain_alone limits h n made
plain_unserved_by limits h n writer made = ap (λ steps. all_plain (map (λ (s : OuterStep). s.entry) steps)) made
plain_unserved_by limits h n shell made = ap (λ steps. all_plain (map (λ (s : OuterStep). s.entry) steps)) made

pub plain_unserved : (limits : Limits) (h : History) (jobs : List LinkedJob) → AreUnserved limits h jobs →
    ArePlain h jobs
plain_unserved limits h [] made = tt
plain_unserved limits h (j ∷ jobs) made =
    (plain_unserved_by limits h j.number j.part made.0, plain_unserved limits h jobs made.1)

pub plain_pushed : (h : History) (jobs : List LinkedJob) (taken : List ℕ) → ArePlain h jobs
    → ((n : ℕ) → IsIn n taken → PlainAt h n) → (n : ℕ) → IsIn n (pushed jobs taken) → PlainAt h n
plain_pushed h [] taken each before n is = before n is
plain_pushed h (j ∷ jobs) taken each before n is =
    plain_pushed h jobs (j.number ∷ taken) each.1
    (λ m. ⊎_elim (λ (e : j.number ≡ m). subst (PlainAt h) e each.0) (λ (i : IsIn m taken). before m i)) n is

-- so each join is the root's

root_may : (n : ℕ) (e : Entry) → n ≡ 0 → IsRootIfJoin n e
root_may n (entries.Join role) zero = zero
root_may n (entries.Message q id opcode body) zero = tt
root_may n (entries.Tokens q tokens) zero = tt
root_may n (entries.BadSize q head) zero = tt
root_may n (entries.End q cause) zero = tt
root_may n (entries.Shell step) zero = tt
root_may n (entries.Took q bytes) zero = tt

plain_may : (n : ℕ) (e : Entry) → plain e ≡ true → IsRootIfJoin n e
plain_may n (entries.Join role) is = absurd cc
plain_may n (entries.Message q id opcode body) is = tt
plain_may n (entries.Tokens q tokens) is = tt
plain_may n (entries.BadSize q head) is = tt
plain_may n (entries.End q cause) is = tt
plain_may n (entries.Shell step) is = tt
plain_may n (entries.Took q bytes) is = tt

plain_rest : (x : ℕ × OuterStep) (h : History) (n : ℕ) → PlainAt (x ∷ h) n → PlainAt h n
plain_rest x h n plain = dite (ℕ_discrete x.0 n)
    (λ e. and_right _ _
    (ap (λ steps. all_plain (map (λ (s : OuterStep). s.entry) steps)) (sym (own-here n x h e)) ∙ plain))
    (λ e. ap (λ steps. all_plain (map (λ (s : OuterStep). s.entry) steps)) (sym (own-else n x h e)) ∙ plain)

pub only_root : (taken : List ℕ) (h : History) → AllIn (0 ∷ taken) h → ((n : ℕ) → IsIn n taken → PlainAt h n)
    → OnlyRootJoins h
only_root taken [] all each = tt
only_root taken (x ∷ h) all each = (
  ⊎_elim (λ (e : 0 ≡ x.0). root_may x.0 x.1.entry (sym e))
      (λ (i : IsIn x.0 taken). plain_may x.0 x.1.entry (and_left _ _
      (ap (λ steps. all_plain (map (λ (s : OuterStep). s.entry) steps)) (sym (own-here x.0 x h refl)) ∙ each x.0 i)))
      all.0,
  only_root taken h all.1 (λ n i. plain_rest x h n (each n i)),
)
