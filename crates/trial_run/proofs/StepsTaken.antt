-- What the answers of the shared state say of a step, a join and a take.
use Rattle.std.proofs.Common.{◌≡◌, ℕ, Bool, true, false, not, List, ◌∷◌, ◌++◌, length, take, drop, min, Option, Some, None, Result, Ok, Err, refl, sym, ap, subst, ◌∙◌, arith, inl, inr}
use Rattle.std.specs.Prelude.{if◌then◌else◌, ◌==◌, ◌⊎◌, option_map, nat_le, IfSome, IfNone, IsOkUnless}
use Rattle.std.proofs.lemmas.List.{length-take, take_at, take_min}
use Rattle.relay_model.specs.declared.role.Role.{Role}
use Rattle.broker_steps.specs.declared.step.Step.{Step}
use Rattle.broker_steps.specs.declared.step.Step.TheVariants as steps
use Rattle.broker_steps.specs.declared.step.PeerStep.TheVariants as peers
use Rattle.broker_model.specs.declared.journal.Entry.{Entry}
use Rattle.broker_model.specs.declared.journal.Entry.TheVariants as entries
use Rattle.broker_model.specs.declared.journal.Kept.{Kept}
use Rattle.broker_model.specs.Limits.{is_full}
use Rattle.broker_model.specs.Out.{Outgoing, stored}
use Rattle.broker_model.specs.Settle.{number_alive}
use Rattle.broker_core.specs.declared.answers.JoinRefusal.{JoinRefusal}
use Rattle.broker_core.specs.declared.answers.JoinRefusal.TheVariants as join
use Rattle.broker_core.specs.declared.answers.Refused.{Refused}
use Rattle.broker_core.specs.declared.answers.Refused.TheVariants as refused
use Rattle.broker_core.specs.declared.answers.Took.{Took}
use Rattle.broker_core.specs.declared.answers.Took.TheVariants as took
use Rattle.broker_model.specs.Stamps.{no_stamp}
use Rattle.broker_core.specs.Broker.{Broker, with_step, kept_in, join_refusal, entry_of, peer_entry, peer_refusal, refusal_if_full, refusal, IsSaid, IsAccepted, nothing_left, take_refusal_from, take_refusal, IsBytesUnlessMemory}
use Rattle.broker_core.specs.Stands.{end_of}
use Rattle.broker_core.specs.Taking.{out_at, IsTaken}
use Rattle.trial_run.specs.declared.stop.Stop.TheVariants as stops
use Rattle.trial_run.specs.Ran.{Ran, went, halted}
use Rattle.trial_run.specs.Steps.{stepped, joined, bytes_in, has_stored, next_bytes}
use Rattle.trial_run.specs.Working.{IsThere, IsStop}

-- ---- whether the journal is full

pub stepped_goes : (e : Entry) (b after : Broker) → is_full b.limits b.journal e ≡ false →
    after ≡ with_step e no_stamp b → stepped e b ≡ went after
unfolding stepped
stepped_goes e b after f a =
    ap (λ (full : Bool). if full then halted b else went (with_step e no_stamp b)) f
    ∙ ap (λ (x : Broker). went x) (sym a)

pub stepped_halts : (e : Entry) (b : Broker) (kept : Kept) → is_full b.limits b.journal e ≡ true →
    kept ≡ kept_in b.journal → IsStop (stepped e b) (stops.Full kept)
unfolding stepped
stepped_halts e b kept f k =
    let is = ap (λ (full : Bool). if full then halted b else went (with_step e no_stamp b)) f in
    subst (λ (r : Ran Broker). IsStop r (stops.Full kept)) (sym is) (refl, k)

-- ---- a step

abbrev refusal_by : Bool → Kept → Option Refused
refusal_by full kept = option_map (λ k. refused.JournalFull k) (if full then Some kept else None)

refusal_is : (b : Broker) (step : Step) → IsSaid step → IsThere step b.journal →
    refusal b step ≡ refusal_if_full b (entry_of step)
refusal_is b (steps.Join role) s t = absurd s
refusal_is b (steps.Peer q step) s t = ap (peer_refusal b (peer_entry q step)) t
refusal_is b (steps.Shell step) s t = refl
refusal_is b (steps.Take q n) s t = absurd s

taken_by : {T : Type 0} (full : Bool) (kept : Kept) (x : T) →
    IfSome (refusal_by full kept) (λ w. let r : Result T Refused = Ok x in r ≡ Err w) → full ≡ false
taken_by true kept x s = cc
taken_by false kept x s = refl

pub step_went : {T : Type 0} (b after : Broker) (step : Step) (x : T) → IsSaid step → IsThere step b.journal →
    IfSome (refusal b step) (λ w. let r : Result T Refused = Ok x in r ≡ Err w) →
    after ≡ with_step (entry_of step) no_stamp b →
    stepped (entry_of step) b ≡ went after
step_went {T} b after step x said there s a =
    stepped_goes (entry_of step) b after
    (taken_by (is_full b.limits b.journal (entry_of step)) (kept_in b.journal) x
    (subst (λ (o : Option Refused). IfSome o (λ w. let r : Result T Refused = Ok x in r ≡ Err w))
    (refusal_is b step said there) s)) a

short_is : (T : Type 0) (step : Step) (w : Refused) →
    IsAccepted refused.NoMemory step (let r : Result T Refused = Err w in r) → w ≡ refused.NoMemory
short_is T (steps.Join role) w h = h
short_is T (steps.Peer q (peers.Message id opcode body)) w h = h
short_is T (steps.Peer q (peers.BadSize head)) w h = h
short_is T (steps.Peer q (peers.Tokens tokens)) w h = h
short_is T (steps.Peer q peers.Gone) w h = (let no : (let b : Bool = false in b ≡ true) = h in cc)
short_is T (steps.Shell step) w h = h
short_is T (steps.Take q n) w h = h

-- the journal is full, or memory was short
abbrev pub IsWhy : Broker → Step → Refused → Type 0
IsWhy b step why =
    ((is_full b.limits b.journal (entry_of step) ≡ true) × (why ≡ refused.JournalFull (kept_in b.journal)))
    ⊎ (why ≡ refused.NoMemory)

why_by : (T : Type 0) (full : Bool) (b : Broker) (step : Step) (w : Refused) →
    is_full b.limits b.journal (entry_of step) ≡ full →
    IfSome (refusal_by full (kept_in b.journal)) (λ v. let r : Result T Refused = Err w in r ≡ Err v) →
    IfNone (refusal_by full (kept_in b.journal))
    (IsAccepted refused.NoMemory step (let r : Result T Refused = Err w in r)) →
    IsWhy b step w
why_by T true b step w e s n = inl (e, (let same : w ≡ refused.JournalFull (kept_in b.journal) = cc in same))
why_by T false b step w e s n = inr (short_is T step w n)

pub step_why : (T : Type 0) (b : Broker) (step : Step) (w : Refused) → IsSaid step → IsThere step b.journal →
    IfSome (refusal b step) (λ v. let r : Result T Refused = Err w in r ≡ Err v) →
    IfNone (refusal b step) (IsAccepted refused.NoMemory step (let r : Result T Refused = Err w in r)) →
    IsWhy b step w
step_why T b step w said there s n =
    let is = refusal_is b step said there in
    why_by T (is_full b.limits b.journal (entry_of step)) b step w refl
    (subst (λ (o : Option Refused). IfSome o (λ v. let r : Result T Refused = Err w in r ≡ Err v)) is s)
    (subst (λ (o : Option Refused).
    IfNone o (IsAccepted refused.NoMemory step (let r : Result T Refused = Err w in r))) is n)

pub step_full : (b : Broker) (step : Step) (why : Refused) (kept : Kept) → why ≡ refused.JournalFull kept →
    IsWhy b step why → IsStop (stepped (entry_of step) b) (stops.Full kept)
step_full b step why kept e (inl w) =
    stepped_halts (entry_of step) b kept w.0
    (let is = w.1 in let same : kept ≡ kept_in b.journal = cc in same)
step_full b step why kept e (inr w) = cc

-- ---- a join

abbrev join_by : Bool → Bool → Kept → Option JoinRefusal
join_by many full kept =
    if many then Some (join.TooManyPeers 64)
    else option_map (λ k. join.JournalFull k) (if full then Some kept else None)

join_at : (role : Role) (b : Broker) (many : Bool) → nat_le 64 (number_alive b.journal) ≡ many →
    joined role b ≡ (if many then went b else stepped (entries.Join role) b)
unfolding joined
join_at role b many e = ap (λ (x : Bool). if x then went b else stepped (entries.Join role) b) e

join_taken : {T : Type 0} (many full : Bool) (kept : Kept) (x : T) →
    IfSome (join_by many full kept) (λ w. let r : Result T JoinRefusal = Ok x in r ≡ Err w) →
    (many ≡ false) × (full ≡ false)
join_taken true full kept x s = cc
join_taken false true kept x s = cc
join_taken false false kept x s = (refl, refl)

pub join_went : {T : Type 0} (role : Role) (b after : Broker) (x : T) →
    IfSome (join_refusal b role) (λ w. let r : Result T JoinRefusal = Ok x in r ≡ Err w) →
    after ≡ with_step (entries.Join role) no_stamp b → joined role b ≡ went after
join_went role b after x s a =
    let can = join_taken (nat_le 64 (number_alive b.journal)) (is_full b.limits b.journal (entries.Join role))
    (kept_in b.journal) x s in
    join_at role b false can.0 ∙ stepped_goes (entries.Join role) b after can.1 a

many_by : (T : Type 0) (many full : Bool) (kept : Kept) (n : ℕ) →
    IfSome (join_by many full kept) (λ v. let r : Result T JoinRefusal = Err (join.TooManyPeers n) in r ≡ Err v) →
    IfNone (join_by many full kept)
    (IsOkUnless (let r : Result T JoinRefusal = Err (join.TooManyPeers n) in r) join.NoMemory) →
    many ≡ true
many_by T true full kept n s h = refl
many_by T false true kept n s h = cc
many_by T false false kept n s h = cc

many_joined : (T : Type 0) (role : Role) (b after : Broker) (n : ℕ) →
    IfSome (join_refusal b role) (λ v. let r : Result T JoinRefusal = Err (join.TooManyPeers n) in r ≡ Err v) →
    IfNone (join_refusal b role)
    (IsOkUnless (let r : Result T JoinRefusal = Err (join.TooManyPeers n) in r) join.NoMemory) →
    after ≡ b → joined role b ≡ went after
many_joined T role b after n s h a =
    join_at role b true (many_by T (nat_le 64 (number_alive b.journal))
    (is_full b.limits b.journal (entries.Join role)) (kept_in b.journal) n s h)
    ∙ ap (λ (x : Broker). went x) (sym a)

full_by : (T : Type 0) (many full : Bool) (is kept : Kept) →
    IfSome (join_by many full is) (λ v. let r : Result T JoinRefusal = Err (join.JournalFull kept) in r ≡ Err v) →
    IfNone (join_by many full is)
    (IsOkUnless (let r : Result T JoinRefusal = Err (join.JournalFull kept) in r) join.NoMemory) →
    (many ≡ false) × (full ≡ true) × (kept ≡ is)
full_by T true full is kept s h = cc
full_by T false true is kept s h = (refl, refl, (let same : kept ≡ is = cc in same))
full_by T false false is kept s h = cc

full_joined : (T : Type 0) (role : Role) (b : Broker) (kept : Kept) →
    IfSome (join_refusal b role) (λ v. let r : Result T JoinRefusal = Err (join.JournalFull kept) in r ≡ Err v) →
    IfNone (join_refusal b role)
    (IsOkUnless (let r : Result T JoinRefusal = Err (join.JournalFull kept) in r) join.NoMemory) →
    IsStop (joined role b) (stops.Full kept)
full_joined T role b kept s h =
    let why = full_by T (nat_le 64 (number_alive b.journal))
    (is_full b.limits b.journal (entries.Join role)) (kept_in b.journal) kept s h in
    subst (λ (r : Ran Broker). IsStop r (stops.Full kept)) (sym (join_at role b false why.0))
    (stepped_halts (entries.Join role) b kept why.1 why.2)

-- with the answer as it came

pub join_many : (T : Type 0) (role : Role) (b after : Broker) (why : JoinRefusal) (n : ℕ) → why ≡ join.TooManyPeers n →
    IfSome (join_refusal b role) (λ v. let r : Result T JoinRefusal = Err why in r ≡ Err v) →
    IfNone (join_refusal b role) (IsOkUnless (let r : Result T JoinRefusal = Err why in r) join.NoMemory) →
    after ≡ b → joined role b ≡ went after
join_many T role b after why n e s h a =
    many_joined T role b after n
    (subst (λ (x : JoinRefusal). IfSome (join_refusal b role) (λ v. let r : Result T JoinRefusal = Err x in r ≡ Err v))
    e s)
    (subst (λ (x : JoinRefusal).
    IfNone (join_refusal b role) (IsOkUnless (let r : Result T JoinRefusal = Err x in r) join.NoMemory)) e h) a

pub join_full : (T : Type 0) (role : Role) (b : Broker) (why : JoinRefusal) (kept : Kept) →
    why ≡ join.JournalFull kept →
    IfSome (join_refusal b role) (λ v. let r : Result T JoinRefusal = Err why in r ≡ Err v) →
    IfNone (join_refusal b role) (IsOkUnless (let r : Result T JoinRefusal = Err why in r) join.NoMemory) →
    IsStop (joined role b) (stops.Full kept)
join_full T role b why kept e s h =
    full_joined T role b kept
    (subst (λ (x : JoinRefusal). IfSome (join_refusal b role) (λ v. let r : Result T JoinRefusal = Err x in r ≡ Err v))
    e s)
    (subst (λ (x : JoinRefusal).
    IfNone (join_refusal b role) (IsOkUnless (let r : Result T JoinRefusal = Err x in r) join.NoMemory)) e h)

-- ---- a take

pub record IsStored (q : ℕ) (b : Broker) : Type 0 where
  pub out : Outgoing
  pub is : out_at b.limits.store b.journal q ≡ Some out
  pub some : (length (stored out) == 0) ≡ false

stored_by : (q : ℕ) (b : Broker) (o : Option Outgoing) → out_at b.limits.store b.journal q ≡ o →
    not (length (bytes_in o) == 0) ≡ true → IsStored q b
stored_by q b None e h = cc
stored_by q b (Some out) e h = record { out = out; is = e; some = by (length (stored out) == 0) h }
  where
    by : (none : Bool) → not none ≡ true → none ≡ false
    by true n = cc
    by false n = refl

pub is_stored : (q : ℕ) (b : Broker) → has_stored q b ≡ true → IsStored q b
unfolding has_stored
is_stored q b h = stored_by q b (out_at b.limits.store b.journal q) refl h

-- why nothing is taken, where something is stored
abbrev take_by : Bool → Kept → Option Took
take_by full kept = option_map (λ k. took.JournalFull k) (if full then Some kept else None)

take_refusal_is : (q : ℕ) (b : Broker) → IsStored q b →
    take_refusal b q ≡ take_by (is_full b.limits b.journal (entries.Took q 0)) (kept_in b.journal)
take_refusal_is q b s =
    ap (take_refusal_from b q) s.is
    ∙ ap (λ (none : Bool). if none then Some (nothing_left (end_of b.journal q))
    else take_by (is_full b.limits b.journal (entries.Took q 0)) (kept_in b.journal)) s.some

free_by : (full : Bool) (kept : Kept) (n m : ℕ) → IfSome (take_by full kept) (λ w. took.Bytes n m ≡ w) → full ≡ false
free_by true kept n m s = cc
free_by false kept n m s = refl

-- the bytes that were taken
pub record IsNext (q : ℕ) (b after : Broker) (n : ℕ) (buffer : List ℕ) : Type 0 where
  pub count : n ≡ length (next_bytes q b)
  pub bytes : take n buffer ≡ next_bytes q b
  pub went : stepped (entries.Took q (length (next_bytes q b))) b ≡ went after

next_is : (q : ℕ) (b : Broker) (s : IsStored q b) → next_bytes q b ≡ take 4096 (stored s.out)
unfolding next_bytes
next_is q b s = ap (λ (o : Option Outgoing). take 4096 (bytes_in o)) s.is

front_of : (n : ℕ) (room all rest : List ℕ) → length room ≡ 4096 → n ≡ min (length room) (length all) →
    (n ≡ length (take 4096 all)) × (take n (take n all ++ rest) ≡ take 4096 all)
front_of n room all rest r c =
    let count : n ≡ length (take 4096 all) = omega (arith, length-take 4096 all) in
    let short : length (take n all) ≡ n = omega (arith, length-take n all, length-take 4096 all) in
    (count, take_at (take n all) rest n short ∙ by)
  where
    by : take n all ≡ take 4096 all
    by = ap (λ k. take k all) (c ∙ ap (λ k. min k (length all)) r) ∙ take_min 4096 all

pub take_went : (q : ℕ) (b after : Broker) (n m : ℕ) (buf places buf_after places_after : List ℕ) →
    has_stored q b ≡ true → length buf ≡ 4096 → IfSome (take_refusal b q) (λ w. took.Bytes n m ≡ w) →
    IfSome (out_at b.limits.store b.journal q) (λ out. IsTaken out b.journal q buf places (n, m) buf_after places_after
    (entries.Took q n ∷ b.journal)) →
    after ≡ with_step (entries.Took q n) no_stamp b → IsNext q b after n buf_after
take_went q b after n m buf places buf_after places_after h room refusal taken a =
    let s = is_stored q b h in
    let t : IsTaken s.out b.journal q buf places (n, m) buf_after places_after (entries.Took q n ∷ b.journal) =
    subst (λ (o : Option Outgoing). IfSome o (λ out. IsTaken out b.journal q buf places (n, m) buf_after places_after
    (entries.Took q n ∷ b.journal))) s.is taken in
    let free = free_by (is_full b.limits b.journal (entries.Took q 0)) (kept_in b.journal) n m
    (subst (λ (o : Option Took). IfSome o (λ w. took.Bytes n m ≡ w)) (take_refusal_is q b s) refusal) in
    let front = front_of n buf (stored s.out) (drop n buf) room t.count in
    let count : n ≡ length (next_bytes q b) = front.0 ∙ ap length (sym (next_is q b s)) in
    record {
      count = count;
      bytes = ap (take n) t.bytes ∙ front.1 ∙ sym (next_is q b s);
      went =
          ap (λ k. stepped (entries.Took q k) b) (sym count) ∙ stepped_goes (entries.Took q n) b after free a;
    }

kept_by : (full : Bool) (is kept : Kept) → IfSome (take_by full is) (λ w. took.JournalFull kept ≡ w) →
    IfNone (take_by full is) (IsBytesUnlessMemory (took.JournalFull kept)) → (full ≡ true) × (kept ≡ is)
kept_by true is kept s n = (refl, (let same : kept ≡ is = cc in same))
kept_by false is kept s n = absurd n

pub take_full : (q : ℕ) (b : Broker) (kept : Kept) → has_stored q b ≡ true →
    IfSome (take_refusal b q) (λ w. took.JournalFull kept ≡ w) →
    IfNone (take_refusal b q) (IsBytesUnlessMemory (took.JournalFull kept)) →
    IsStop (stepped (entries.Took q (length (next_bytes q b))) b) (stops.Full kept)
take_full q b kept h s n =
    let is = take_refusal_is q b (is_stored q b h) in
    let why = kept_by (is_full b.limits b.journal (entries.Took q 0)) (kept_in b.journal) kept
    (subst (λ (o : Option Took). IfSome o (λ w. took.JournalFull kept ≡ w)) is s)
    (subst (λ (o : Option Took). IfNone o (IsBytesUnlessMemory (took.JournalFull kept))) is n) in
    stepped_halts (entries.Took q (length (next_bytes q b))) b kept why.0 why.1

-- nothing else is answered
abbrev pub IsNothing : Took → Type 0
IsNothing took.NoPeer = Unit {0}
IsNothing took.Closed = Unit {0}
IsNothing took.Empty = Unit {0}
IsNothing _ = ⊥

not_nothing : (full : Bool) (kept : Kept) (w : Took) → IsNothing w → IfSome (take_by full kept) (λ v. w ≡ v) →
    IfNone (take_by full kept) (IsBytesUnlessMemory w) → ⊥
not_nothing true kept took.NoPeer i s n = cc
not_nothing true kept took.Closed i s n = cc
not_nothing true kept took.Empty i s n = cc
not_nothing false kept took.NoPeer i s n = n
not_nothing false kept took.Closed i s n = n
not_nothing false kept took.Empty i s n = n
not_nothing full kept (took.Bytes a c) i s n = i
not_nothing full kept (took.JournalFull k) i s n = i
not_nothing full kept took.NoMemory i s n = i

pub take_there : (q : ℕ) (b : Broker) (w : Took) → IsNothing w → has_stored q b ≡ true →
    IfSome (take_refusal b q) (λ v. w ≡ v) → IfNone (take_refusal b q) (IsBytesUnlessMemory w) → ⊥
take_there q b w i h s n =
    let is = take_refusal_is q b (is_stored q b h) in
    not_nothing (is_full b.limits b.journal (entries.Took q 0)) (kept_in b.journal) w i
    (subst (λ (o : Option Took). IfSome o (λ v. w ≡ v)) is s)
    (subst (λ (o : Option Took). IfNone o (IsBytesUnlessMemory w)) is n)
