-- How many steps a call makes, and how many bytes it takes, as its answer says
use Rattle.std.proofs.Common.{◌≡◌, ℕ, suc, ◌+◌, ◌≤◌, List, [], ◌∷◌, ◌++◌, length, cond, eqb, Bool, true, false, Option, Some, None, Ok, Err, refl, ap, ◌∙◌, inl, inr, arith, append-nil, length-append}
use Rattle.std.specs.Prelude.{option_map}
use Rattle.std.proofs.lemmas.List.Sums.{sum_by-cons, sum_by-append}
use Rattle.broker_steps.specs.declared.limits.Limits.{Limits}
use Rattle.broker_steps.specs.declared.step.Step.{Step}
use Rattle.broker_steps.specs.declared.step.Step.TheVariants as steps
use Rattle.broker_steps.specs.declared.step.PeerStep.{PeerStep}
use Rattle.broker_steps.specs.declared.step.PeerStep.TheVariants as peers
use Rattle.broker_model.specs.declared.journal.Entry.TheVariants as entries
use Rattle.broker_core.specs.declared.answers.Took.TheVariants as took
use Rattle.broker_core.specs.Broker.{entry_of}
use Rattle.turn_lock.specs.Pairs.{own, NoneOf, IsIn}
use Rattle.turn_lock.specs.Rule.{bit}
use Rattle.turn_lock.proofs.PairsOfNumbers.{own-append, own-here}
use Rattle.hub_lock.specs.declared.step.OuterStep.{OuterStep}
use Rattle.hub_lock.specs.declared.call.Ask.{Ask}
use Rattle.hub_lock.specs.declared.call.Ask.TheVariants as asks
use Rattle.hub_lock.specs.declared.call.Taking.{Taking}
use Rattle.hub_lock.specs.declared.call.Answer.{Answer}
use Rattle.hub_lock.specs.declared.call.Answer.TheVariants as answers
use Rattle.hub_lock.specs.Histories.{History, bytes_by, bytes_taken, total_taken, reader_of, only, joining}
use Rattle.hub_lock.specs.Plays.{IsLonger, IsOwn, MayAsk, Answers, is_made, bytes_made}

-- the history is longer by one step of the pass that takes so many bytes, or it is the same and nothing was taken
abbrev pub MadeIf : Bool → ℕ → ℕ → History → History → Type 0
MadeIf true n bytes before after = (s : OuterStep) × IsLonger n s before after × (bytes_by s.entry ≡ bytes)
MadeIf false n bytes before after = (after ≡ before) × (bytes ≡ 0)

peer-takes-none : (q : ℕ) (step : PeerStep) → bytes_by (entry_of (steps.Peer q step)) ≡ 0
peer-takes-none q (peers.Message id opcode body) = refl
peer-takes-none q (peers.Tokens tokens) = refl
peer-takes-none q (peers.BadSize head) = refl
peer-takes-none q peers.Gone = refl

takes-none : (h : History) (n : ℕ) (step : Step) → IsOwn h n step → bytes_by (entry_of step) ≡ 0
takes-none h n (steps.Join role) own = absurd own
takes-none h n (steps.Peer q step) own = peer-takes-none q step
takes-none h n (steps.Shell step) own = refl
takes-none h n (steps.Take q count) own = absurd own

made-take : (limits : Limits) (before : History) (n : ℕ) (t : Taking) (after : History) (ask : Ask) (a : Answer)
    → Answers limits before n (asks.Take t) after ask a → MadeIf (is_made a) n (bytes_made a) before after
made-take limits before n t after (asks.Take u) (answers.Took (took.Bytes count places)) p =
    (only (entries.Took t.peer count), p.taken, refl)
made-take limits before n t after (asks.Take u) (answers.Took took.NoPeer) p = (p.same, refl)
made-take limits before n t after (asks.Take u) (answers.Took took.Closed) p = (p.same, refl)
made-take limits before n t after (asks.Take u) (answers.Took took.Empty) p = (p.same, refl)
made-take limits before n t after (asks.Take u) (answers.Took (took.JournalFull kept)) p = (p.same, refl)
made-take limits before n t after (asks.Take u) (answers.Took took.NoMemory) p = (p.same, refl)
made-take limits before n t after (asks.Take u) (answers.Joined r) p = absurd p
made-take limits before n t after (asks.Take u) (answers.Applied r) p = absurd p
made-take limits before n t after (asks.Take u) (answers.Copied r) p = absurd p
made-take limits before n t after (asks.Take u) (answers.HandedOut r) p = absurd p
made-take limits before n t after (asks.Take u) (answers.Named r) p = absurd p
made-take limits before n t after (asks.Join role reader) a p = absurd p
made-take limits before n t after (asks.Apply step) a p = absurd p
made-take limits before n t after asks.Copy a p = absurd p
made-take limits before n t after asks.HandOut a p = absurd p
made-take limits before n t after (asks.Name m) a p = absurd p

pub made : (limits : Limits) (before : History) (n : ℕ) (ask : Ask) (after : History) (ask' : Ask) (a : Answer) →
    MayAsk before n ask
    → Answers limits before n ask after ask' a → MadeIf (is_made a) n (bytes_made a) before after
made limits before n (asks.Join role reader) after ask' (answers.Joined (Ok q)) may p =
    (joining (entries.Join role) reader, p.joined, refl)
made limits before n (asks.Join role reader) after ask' (answers.Joined (Err why)) may p = (p.same, refl)
made limits before n (asks.Join role reader) after ask' (answers.Applied r) may p = absurd p
made limits before n (asks.Join role reader) after ask' (answers.Took r) may p = absurd p
made limits before n (asks.Join role reader) after ask' (answers.Copied r) may p = absurd p
made limits before n (asks.Join role reader) after ask' (answers.HandedOut r) may p = absurd p
made limits before n (asks.Join role reader) after ask' (answers.Named r) may p = absurd p
made limits before n (asks.Apply step) after ask' (answers.Joined r) may p = absurd p
made limits before n (asks.Apply step) after ask' (answers.Applied (Ok x)) may p =
    (only (entry_of step), p.applied, takes-none before n step may)
made limits before n (asks.Apply step) after ask' (answers.Applied (Err why)) may p = (p.same, refl)
made limits before n (asks.Apply step) after ask' (answers.Took r) may p = absurd p
made limits before n (asks.Apply step) after ask' (answers.Copied r) may p = absurd p
made limits before n (asks.Apply step) after ask' (answers.HandedOut r) may p = absurd p
made limits before n (asks.Apply step) after ask' (answers.Named r) may p = absurd p
made limits before n (asks.Take t) after ask' a may p = made-take limits before n t after ask' a p
made limits before n asks.Copy after ask' (answers.Joined r) may p = absurd p
made limits before n asks.Copy after ask' (answers.Applied r) may p = absurd p
made limits before n asks.Copy after ask' (answers.Took r) may p = absurd p
made limits before n asks.Copy after ask' (answers.Copied r) may p = (p.same, refl)
made limits before n asks.Copy after ask' (answers.HandedOut r) may p = absurd p
made limits before n asks.Copy after ask' (answers.Named r) may p = absurd p
made limits before n asks.HandOut after ask' (answers.Joined r) may p = absurd p
made limits before n (asks.Name m) after ask' (answers.Joined r) may p = absurd p
made limits before n asks.HandOut after ask' (answers.Applied r) may p = absurd p
made limits before n (asks.Name m) after ask' (answers.Applied r) may p = absurd p
made limits before n asks.HandOut after ask' (answers.Took r) may p = absurd p
made limits before n (asks.Name m) after ask' (answers.Took r) may p = absurd p
made limits before n asks.HandOut after ask' (answers.Copied r) may p = absurd p
made limits before n (asks.Name m) after ask' (answers.Copied r) may p = absurd p
made limits before n asks.HandOut after ask' (answers.HandedOut r) may p = (p, refl)
made limits before n asks.HandOut after ask' (answers.Named r) may p = absurd p
made limits before n (asks.Name m) after ask' (answers.Named r) may p = (p, refl)
made limits before n (asks.Name m) after ask' (answers.HandedOut r) may p = absurd p

-- the pass's own steps are one more, or as many as before

own-before : (n : ℕ) (seen rest : History) → NoneOf n rest → own n (seen ++ rest) ≡ own n seen
own-before n seen rest free = own-append n seen rest ∙ (ap (λ z. own n seen ++ z) free ∙ append-nil (own n seen))

own-longer : (n : ℕ) (s : OuterStep) (before after : History) → IsLonger n s before after →
    own n after ≡ own n before ++ s ∷ []
own-longer n s before after e =
    ap (own n) e ∙ own-append n before ((n, s) ∷ []) ∙ ap (λ z. own n before ++ z) (own-here n (n, s) [] refl)

pub record IsCounted (n bytes : ℕ) (made : Bool) (seen after : History) : Type 0 where
  pub steps : length (own n after) ≡ length (own n seen) + bit made
  pub taken : bytes_taken (own n after) ≡ bytes_taken (own n seen) + bytes

pub counted : (n bytes : ℕ) (made : Bool) (seen rest after : History) → NoneOf n rest →
    MadeIf made n bytes (seen ++ rest) after
    → IsCounted n bytes made seen after
counted n bytes true seen rest after free m =
    let all : own n after ≡ own n seen ++ m.0 ∷ [] =
    own-longer n m.0 (seen ++ rest) after m.1 ∙ ap (λ z. z ++ m.0 ∷ []) (own-before n seen rest free) in
    let l = ap length all in
    let a = length-append (own n seen) (m.0 ∷ []) in
    let t = ap bytes_taken all in
    let b = sum_by-append (λ (s : OuterStep). bytes_by s.entry) (own n seen) (m.0 ∷ []) in
    let c = sum_by-cons (λ (s : OuterStep). bytes_by s.entry) m.0 [] in
    let z : bytes_taken [] ≡ 0 = refl in
    let is = m.2 in
    record { steps = omega arith; taken = omega arith }
counted n bytes false seen rest after free m =
    let all : own n after ≡ own n seen = ap (own n) m.0 ∙ own-before n seen rest free in
    let l = ap length all in
    let t = ap bytes_taken all in
    let z = m.1 in
    record { steps = omega arith; taken = omega arith }

pub bit-few : (b : Bool) → bit b ≤ 1
bit-few true = omega arith
bit-few false = omega arith

pub own-few : (n : ℕ) (h : History) → length (own n h) ≤ length h
own-few n [] = omega arith
own-few n (x ∷ xs) = few (eqb x.0 n) x.1 (own n xs) (length xs) (own-few n xs) where
  few : (t : Bool) (s : OuterStep) (ss : List OuterStep) (k : ℕ) → length ss ≤ k → length (cond t (s ∷ ss) ss) ≤ suc k
  few true s ss k l = omega arith
  few false s ss k l = omega arith

-- the root may ask for no take

no-writer : (o : Option ℕ) → option_map (λ r. r + 1) o ≡ Some 0 → ⊥
no-writer None e = absurd (cc)
no-writer (Some r) e = let f : Some (r + 1) ≡ Some 0 = e in let g : r + 1 ≡ 0 = cc in absurd (omega arith)

abbrev pub NoTake : Ask → Type 0
NoTake (asks.Take t) = ⊥
NoTake _ = Unit {0}

pub root-takes-none : (h : History) (ask : Ask) → MayAsk h 0 ask → NoTake ask
root-takes-none h (asks.Join role reader) may = tt
root-takes-none h (asks.Apply step) may = tt
root-takes-none h (asks.Take t) may = no-writer (reader_of h t.peer) may
root-takes-none h asks.Copy may = tt
root-takes-none h asks.HandOut may = tt
root-takes-none h (asks.Name m) may = tt

pub no-bytes : (limits : Limits) (before : History) (n : ℕ) (ask : Ask) (after : History) (ask' : Ask) (a : Answer) →
    NoTake ask
    → Answers limits before n ask after ask' a → bytes_made a ≡ 0
no-bytes limits before n (asks.Join role reader) after ask' (answers.Joined r) plain p = refl
no-bytes limits before n (asks.Join role reader) after ask' (answers.Applied r) plain p = absurd p
no-bytes limits before n (asks.Join role reader) after ask' (answers.Took r) plain p = absurd p
no-bytes limits before n (asks.Join role reader) after ask' (answers.Copied r) plain p = absurd p
no-bytes limits before n (asks.Join role reader) after ask' (answers.HandedOut r) plain p = absurd p
no-bytes limits before n (asks.Join role reader) after ask' (answers.Named r) plain p = absurd p
no-bytes limits before n (asks.Apply step) after ask' (answers.Joined r) plain p = absurd p
no-bytes limits before n (asks.Apply step) after ask' (answers.Applied r) plain p = refl
no-bytes limits before n (asks.Apply step) after ask' (answers.Took r) plain p = absurd p
no-bytes limits before n (asks.Apply step) after ask' (answers.Copied r) plain p = absurd p
no-bytes limits before n (asks.Apply step) after ask' (answers.HandedOut r) plain p = absurd p
no-bytes limits before n (asks.Apply step) after ask' (answers.Named r) plain p = absurd p
no-bytes limits before n (asks.Take t) after ask' a plain p = absurd plain
no-bytes limits before n asks.Copy after ask' (answers.Joined r) plain p = absurd p
no-bytes limits before n asks.Copy after ask' (answers.Applied r) plain p = absurd p
no-bytes limits before n asks.Copy after ask' (answers.Took r) plain p = absurd p
no-bytes limits before n asks.Copy after ask' (answers.Copied r) plain p = refl
no-bytes limits before n asks.Copy after ask' (answers.HandedOut r) plain p = absurd p
no-bytes limits before n asks.Copy after ask' (answers.Named r) plain p = absurd p
no-bytes limits before n asks.HandOut after ask' (answers.Joined r) plain p = absurd p
no-bytes limits before n (asks.Name m) after ask' (answers.Joined r) plain p = absurd p
no-bytes limits before n asks.HandOut after ask' (answers.Applied r) plain p = absurd p
no-bytes limits before n (asks.Name m) after ask' (answers.Applied r) plain p = absurd p
no-bytes limits before n asks.HandOut after ask' (answers.Took r) plain p = absurd p
no-bytes limits before n (asks.Name m) after ask' (answers.Took r) plain p = absurd p
no-bytes limits before n asks.HandOut after ask' (answers.Copied r) plain p = absurd p
no-bytes limits before n (asks.Name m) after ask' (answers.Copied r) plain p = absurd p
no-bytes limits before n asks.HandOut after ask' (answers.HandedOut r) plain p = refl
no-bytes limits before n asks.HandOut after ask' (answers.Named r) plain p = absurd p
no-bytes limits before n (asks.Name m) after ask' (answers.Named r) plain p = refl
no-bytes limits before n (asks.Name m) after ask' (answers.HandedOut r) plain p = absurd p

-- the totals of numbers whose own steps stay

pub taken-same : (ns : List ℕ) (a b : History) → ((n : ℕ) → IsIn n ns → own n b ≡ own n a) →
    total_taken ns b ≡ total_taken ns a
taken-same [] a b f = refl
taken-same (n ∷ ns) a b f =
    let t = taken-same ns a b (λ m i. f m (inr i)) in
    let l = ap bytes_taken (f n (inl refl)) in omega arith
