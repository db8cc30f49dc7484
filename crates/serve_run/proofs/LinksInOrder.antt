-- Links that are joined and started one after the other
use Rattle.std.proofs.Common.{◌≡◌, ◌+◌, ◌-◌, ◌*◌, ◌<◌, ◌≤◌, ◌++◌, ◌∷◌, [], ℕ, zero, suc, Bool, true, false, if◌then◌else◌, List, length, take, drop, get_or, inl, inr, Option, Some, None, Result, Ok, Err, refl, sym, ap, ◌∙◌, subst, arith, append-nil, add-one, length-append}
use Rattle.std.proofs.lemmas.List.{append_assoc, take_all, length-take-le}
use Rattle.std.proofs.Math.Seq.{take-suc}
use Rattle.relay_model.specs.declared.role.Role.{Role}
use Rattle.turn_lock.specs.Pairs.{own}
use Rattle.hub_lock.specs.Passes.{HubId, PassSeat}
use Rattle.serve_net.specs.declared.door.Door.{Door}
use Rattle.serve_net.specs.declared.door.Door.TheVariants.{App}
use Rattle.serve_words.specs.Words.{door_of, doors_of}
use Rattle.serve_jobs.specs.Tags.{Tag}
use Rattle.std.specs.List.{slice_get}
use Rattle.serve_run.specs.declared.stop.Stop.{Stop}
use Rattle.serve_run.specs.declared.stop.Stop.TheVariants as stops
use Rattle.serve_run.specs.LinkJobs.{role_at, jobs_by, joins_by, passes_by, jobs_of, joins_of, passes_of}
use Rattle.serve_run.specs.Started.{IsRootOf, MayLack, AreStarted, AreGivenBack, LinkStarted, LinksStarted, AllStarted}
use Rattle.serve_run.proofs.JobsInOrder.{jobs_counted, all_jobs_counted, passes_more, passes_front, jobs_more, joins_more, take_past, none_started, started_both}
use Rattle.serve_run.proofs.PassesBack.{none_back, back_since, drop_past, drop_whole}
use Rattle.serve_run.specs.Refused.{stopped}
use Rattle.serve_run.specs.Unserved.{pushed}

-- no link came yet
pub none_yet : (hub : HubId) (root : PassSeat) (started : List Tag) (letters : List ℕ) (base : ℕ) → IsRootOf hub root
    → AllStarted hub root root started started letters base 0
none_yet hub root started letters base is = record {
  root_is = is;
  next = omega arith;
  joins = sym (append-nil (own 0 root.seen));
  jobs = none_started hub started;
  taken = refl;
  balance = refl;
}

-- the front of a list with one more of it
one_more : {A : Type 0} (default : A) (xs : List A) (i : ℕ) (x : A) → i < length xs → x ≡ get_or xs i default
    → take (i + 1) xs ≡ take i xs ++ x ∷ []
one_more default xs i x within is = rw add-one (take-suc xs i default within) ∙ ap (λ y. take i xs ++ y ∷ []) (sym is)

-- the letters of one link more
one_letter : (letters : List ℕ) (i : ℕ) (d : ℕ) → i < length letters → d ≡ get_or letters i 0
    → take (i + 1) letters ≡ take i letters ++ d ∷ []
one_letter letters i d within is = one_more 0 letters i d within is

-- what a link more makes of the root's next number and of its joins
next_more : (hub : HubId) (first before after : PassSeat) (a b c : List Tag) (letters : List ℕ) (base i : ℕ) (d : ℕ)
    (r : Result (Unit {0}) Stop) → i < length letters → d ≡ get_or letters i 0 →
    AllStarted hub first before a b letters base i
    → (link : LinkStarted hub before after b c (base + i) (role_at d) r) → link.is_joined ≡ true
    → after.next ≡ first.next + passes_of (take (i + 1) letters)
next_more hub first before after a b c letters base i d r within is all link joined =
    let doors_are = ap passes_of (one_letter letters i d within is) ∙ passes_more (take i letters) d in
    let one = link.next ∙ ap (λ j. before.next + (if j then passes_by (role_at d) else 0)) joined in
    let two = all.next in omega arith

joins_then : (hub : HubId) (first before after : PassSeat) (a b c : List Tag) (letters : List ℕ) (base i : ℕ) (d : ℕ)
    (r : Result (Unit {0}) Stop) → i < length letters → d ≡ get_or letters i 0 →
    AllStarted hub first before a b letters base i
    → (link : LinkStarted hub before after b c (base + i) (role_at d) r) → link.is_joined ≡ true
    → own 0 after.seen ≡ own 0 first.seen ++ joins_of first.next (take (i + 1) letters)
joins_then hub first before after a b c letters base i d r within is all link joined =
    link.joins ∙ (ap (λ j. own 0 before.seen ++ (if j then joins_by before.next (role_at d) else [])) joined
    ∙ (ap (λ s. s ++ joins_by before.next (role_at d)) all.joins
    ∙ (append_assoc (own 0 first.seen) (joins_of first.next (take i letters)) (joins_by before.next (role_at d))
    ∙ ap (λ s. own 0 first.seen ++ s) (ap (λ n. joins_of first.next (take i letters) ++ joins_by n (role_at d)) all.next
    ∙ (sym (joins_more first.next (take i letters) d)
    ∙ ap (joins_of first.next) (sym (one_letter letters i d within is)))))))

-- the jobs of the links so far, and those of the next link

jobs_behind : (next base : ℕ) (letters : List ℕ) (i d : ℕ) → i < length letters
    → jobs_of next base (take i letters ++ d ∷ [])
    ≡ jobs_of next base (take i letters) ++ jobs_by (next + passes_of (take i letters)) (base + i) (role_at d)
jobs_behind next base letters i d within =
    jobs_more next base (take i letters) d
    ∙ ap (λ k. jobs_of next base (take i letters)
    ++ jobs_by (next + passes_of (take i letters)) (base + k) (role_at d)) (length-take-le i letters (omega arith))

-- or some of them
jobs_then : (hub : HubId) (first before after : PassSeat) (a b c : List Tag) (letters : List ℕ) (base i : ℕ) (d : ℕ)
    (r : Result (Unit {0}) Stop) → i < length letters → d ≡ get_or letters i 0 →
    AllStarted hub first before a b letters base i
    → (link : LinkStarted hub before after b c (base + i) (role_at d) r)
    → AreStarted hub a c
    (take (passes_of (take i letters) + link.count) (jobs_of first.next base (take (i + 1) letters)))
jobs_then hub first before after a b c letters base i d r within is all link =
    let so_far = jobs_of first.next base (take i letters) in
    let following = jobs_by (first.next + passes_of (take i letters)) (base + i) (role_at d) in
    let long = all_jobs_counted first.next base (take i letters) in
    subst (AreStarted hub a c)
    (ap (λ n. so_far ++ take link.count (jobs_by n (base + i) (role_at d))) all.next
    ∙ (sym (take_past so_far following link.count)
    ∙ (ap (λ n. take (n + link.count) (so_far ++ following)) long
    ∙ ap (λ jobs. take (passes_of (take i letters) + link.count) jobs)
    (sym (jobs_behind first.next base letters i d within)
    ∙ ap (jobs_of first.next base) (sym (one_letter letters i d within is))))))
    (started_both hub a b c _ _ all.jobs link.jobs)

-- those of its jobs that weren't
others_then : (hub : HubId) (first before after : PassSeat) (a b c : List Tag) (letters : List ℕ) (base i : ℕ) (d : ℕ)
    (r : Result (Unit {0}) Stop) → i < length letters → d ≡ get_or letters i 0 →
    AllStarted hub first before a b letters base i
    → (link : LinkStarted hub before after b c (base + i) (role_at d) r) → link.is_joined ≡ true
    → AreGivenBack hub.limits first after
    (drop (passes_of (take i letters) + link.count) (jobs_of first.next base (take (i + 1) letters)))
others_then hub first before after a b c letters base i d r within is all link joined =
    let so_far = jobs_of first.next base (take i letters) in
    let following = jobs_by (first.next + passes_of (take i letters)) (base + i) (role_at d) in
    let long = all_jobs_counted first.next base (take i letters) in
    subst (AreGivenBack hub.limits first after)
    (ap (λ n. drop link.count (jobs_by n (base + i) (role_at d))) all.next
    ∙ (sym (drop_past so_far following link.count)
    ∙ (ap (λ n. drop (n + link.count) (so_far ++ following)) long
    ∙ ap (λ jobs. drop (passes_of (take i letters) + link.count) jobs)
    (sym (jobs_behind first.next base letters i d within)
    ∙ ap (jobs_of first.next base) (sym (one_letter letters i d within is))))))
    (back_since hub.limits first before after _ all.taken (link.others joined))

-- a link that lacks jobs was joined
never_full : (stop : Stop) → MayLack stop → stopped stop ≡ stopped stops.JournalFull → ⊥
never_full stop may e = let same : stop ≡ stops.JournalFull = cc in subst MayLack same may

found : (letters : List ℕ) (i : ℕ) (d : ℕ) → i < length letters → d ≡ get_or letters i 0 → slice_get letters i ≡ Some d
found [] i d within is = absurd (omega arith)
found (e ∷ letters) zero d within is = ap (λ f. Some f) (sym is)
found (e ∷ letters) (suc i) d within is = found letters i d (omega arith) is

-- a link of the role that its letter lets in, with the next number
pub by_letter : (hub : HubId) (before after : PassSeat) (b c : List Tag) (number next : ℕ) (role : Option Role) (d : ℕ)
    (r : Result (Unit {0}) Stop) → number ≡ next → role ≡ role_at d → LinkStarted hub before after b c number role r
    → LinkStarted hub before after b c next (role_at d) r
by_letter hub before after b c number next role d r same is link =
    subst (λ n. LinkStarted hub before after b c n (role_at d) r) same
    (subst (λ o. LinkStarted hub before after b c number o r) is link)

-- a link more, with all its jobs
pub one_link_more : (hub : HubId) (first before after : PassSeat) (a b c : List Tag) (letters : List ℕ) (base i d : ℕ)
    → i < length letters → d ≡ get_or letters i 0 → AllStarted hub first before a b letters base i
    → LinkStarted hub before after b c (base + i) (role_at d) (Ok tt)
    → AllStarted hub first after a c letters base (i + 1)
one_link_more hub first before after a b c letters base i d within is all link =
    let more = ap passes_of (one_letter letters i d within is) ∙ passes_more (take i letters) d in
    let long = all_jobs_counted first.next base (take (i + 1) letters) in
    let started = link.all_started in
    let few = jobs_counted before.next (base + i) (role_at d) in
    record {
      root_is = link.root_is;
      next = next_more hub first before after a b c letters base i d (Ok tt) within is all link link.all_joined;
      joins = joins_then hub first before after a b c letters base i d (Ok tt) within is all link link.all_joined;
      jobs = subst (AreStarted hub a c)
          (take_all (passes_of (take i letters) + link.count) (jobs_of first.next base (take (i + 1) letters))
          (omega arith))
          (jobs_then hub first before after a b c letters base i d (Ok tt) within is all link);
      taken = (link.others link.all_joined).taken
          ∙ (ap (λ jobs. pushed jobs before.taken)
          (drop_whole (jobs_by before.next (base + i) (role_at d)) link.count (omega arith))
          ∙ all.taken);
      balance = let x = all.balance in let y = link.balance in omega arith;
    }

-- no link came
pub none_came : (hub : HubId) (first after : PassSeat) (a b : List Tag) (letters : List ℕ) (base i : ℕ)
    → AllStarted hub first after a b letters base i
    → LinksStarted hub first after a b letters base i (Err stops.NetFault)
none_came hub first after a b letters base i all =
    let long = all_jobs_counted first.next base (take i letters) in
    record {
      root_is = all.root_is;
      joined = i;
      none_more = omega arith;
      near = omega arith;
      next = all.next;
      joins = all.joins;
      count = passes_of (take i letters);
      jobs = subst (AreStarted hub a b)
          (sym (take_all (passes_of (take i letters)) (jobs_of first.next base (take i letters)) (omega arith)))
          all.jobs;
      before_last = passes_front letters (i - 1) i (omega arith);
      others = none_back hub.limits first after _
          (drop_whole (jobs_of first.next base (take i letters)) (passes_of (take i letters)) (omega arith)) all.taken;
      balance = all.balance;
      all_joined = tt;
      all_started = tt;
      refused = inl (refl, λ e. absurd cc);
      lacks = inl refl;
    }

-- all came
pub all_came : (hub : HubId) (first after : PassSeat) (a b : List Tag) (letters : List ℕ) (base i : ℕ)
    → AllStarted hub first after a b letters base i → LinksStarted hub first after a b letters base i (Ok tt)
all_came hub first after a b letters base i all =
    let long = all_jobs_counted first.next base (take i letters) in
    record {
      root_is = all.root_is;
      joined = i;
      none_more = omega arith;
      near = omega arith;
      next = all.next;
      joins = all.joins;
      count = passes_of (take i letters);
      jobs = subst (AreStarted hub a b)
          (sym (take_all (passes_of (take i letters)) (jobs_of first.next base (take i letters)) (omega arith)))
          all.jobs;
      before_last = passes_front letters (i - 1) i (omega arith);
      others = none_back hub.limits first after _
          (drop_whole (jobs_of first.next base (take i letters)) (passes_of (take i letters)) (omega arith)) all.taken;
      balance = all.balance;
      all_joined = refl;
      all_started = refl;
      refused = inl (refl, λ e. absurd cc);
      lacks = inl refl;
    }

-- a link came, and was refused, or not all of its jobs were started
pub last_came : (hub : HubId) (first before after : PassSeat) (a b c : List Tag) (letters : List ℕ) (base i : ℕ) (d : ℕ)
    (stop : Stop) → i < length letters → d ≡ get_or letters i 0 → AllStarted hub first before a b letters base i
    → LinkStarted hub before after b c (base + i) (role_at d) (Err stop) →
    LinksStarted hub first after a c letters base (i + 1) (Err stop)
last_came hub first before after a b c letters base i d stop within is all link = at link.is_joined refl
  where
    at : (joined : Bool) → link.is_joined ≡ joined → LinksStarted hub first after a c letters base (i + 1) (Err stop)
    at true joined = record {
      root_is = link.root_is;
      joined = i + 1;
      none_more = omega arith;
      near = omega arith;
      next = next_more hub first before after a b c letters base i d (Err stop) within is all link joined;
      joins = joins_then hub first before after a b c letters base i d (Err stop) within is all link joined;
      count = passes_of (take i letters) + link.count;
      jobs = jobs_then hub first before after a b c letters base i d (Err stop) within is all link;
      before_last =
          let one : i + 1 - 1 ≡ i = omega arith in
          let two = ap (λ n. passes_of (take n letters)) one in omega arith;
      others = others_then hub first before after a b c letters base i d (Err stop) within is all link joined;
      balance = let x = all.balance in let y = link.balance in omega arith;
      all_joined = tt;
      all_started = tt;
      refused = inl (refl, never_full stop (link.lacks joined));
      lacks = inr (link.lacks joined, refl);
    }
    at false joined =
        let none = link.none_else joined in
        let long = all_jobs_counted first.next base (take i letters) in
        let one = link.next ∙ ap (λ j. before.next + (if j then passes_by (role_at d) else 0)) joined in
        let so_far = jobs_of first.next base (take i letters) in
        record {
          root_is = link.root_is;
          joined = i;
          none_more = omega arith;
          near = omega arith;
          next = let two = all.next in omega arith;
          joins = link.joins
              ∙ (ap (λ j. own 0 before.seen ++ (if j then joins_by before.next (role_at d) else [])) joined
              ∙ (append-nil (own 0 before.seen) ∙ all.joins));
          count = passes_of (take i letters);
          jobs = subst (AreStarted hub a c)
              (ap (λ n. so_far ++ take n (jobs_by before.next (base + i) (role_at d))) none
              ∙ (append-nil so_far ∙ sym (take_all (passes_of (take i letters)) so_far (omega arith))))
              (started_both hub a b c _ _ all.jobs link.jobs);
          before_last = passes_front letters (i - 1) i (omega arith);
          others = none_back hub.limits first after _ (drop_whole so_far (passes_of (take i letters)) (omega arith))
              (link.same joined ∙ all.taken);
          balance = let x = all.balance in let y = link.balance in omega arith;
          all_joined = tt;
          all_started = tt;
          refused = inr (refl, d, found letters i d within is, link.refused joined);
          lacks = inl refl;
        }

-- the doors of letters
pub doors_counted : (letters : List ℕ) → length (doors_of letters) ≡ length letters
doors_counted [] = refl
doors_counted (c ∷ letters) = ap suc (doors_counted letters)

pub door_at : (letters : List ℕ) (i d : ℕ) → i < length letters
    → door_of (get_or letters i d) ≡ get_or (doors_of letters) i App
door_at [] i d within = absurd (omega arith)
door_at (l ∷ letters) zero d within = refl
door_at (l ∷ letters) (suc i) d within = door_at letters i d (omega arith)

-- they bring few joins
joins_one : (next : ℕ) (role : Option Role) → length (joins_by next role) ≤ 1
joins_one next None = omega arith
joins_one next (Some role) = omega arith

pub joins_few : (next : ℕ) (letters : List ℕ) (n : ℕ) → length (joins_of next (take n letters)) ≤ n
joins_few next letters zero = omega arith
joins_few next [] (suc n) = omega arith
joins_few next (d ∷ letters) (suc n) =
    let rest = joins_few (next + passes_by (role_at d)) letters n in
    let one = joins_one next (role_at d) in
    let both = length-append (joins_by next (role_at d)) (joins_of (next + passes_by (role_at d)) (take n letters)) in
    omega arith

-- the number of the next link
pub next_number : (first before after : List Door) (doors : List Door) (i : ℕ) (d : Door) → i ≤ length doors
    → before ≡ first ++ take i doors → after ≡ before ++ d ∷ [] → length after ≡ length first + 1 + i
next_number first before after doors i d within so_far more =
    let one = ap length more ∙ length-append before (d ∷ []) in
    let two = ap length so_far ∙ length-append first (take i doors) in
    let few = length-take-le i doors within in omega arith

-- they bring few passes
passes_two : (role : Option Role) → passes_by role ≤ 2
passes_two None = omega arith
passes_two (Some role) = omega arith

pub passes_few : (letters : List ℕ) (n : ℕ) → passes_of (take n letters) ≤ 2 * n
passes_few letters zero = omega arith
passes_few [] (suc n) = omega arith
passes_few (d ∷ letters) (suc n) = let rest = passes_few letters n in let two = passes_two (role_at d) in omega arith

-- one link more
pub doors_more : (first before after doors : List Door) (i : ℕ) (d : Door) → i < length doors → d ≡ get_or doors i App
    → before ≡ first ++ take i doors → after ≡ before ++ d ∷ [] → after ≡ first ++ take (i + 1) doors
doors_more first before after doors i d within is so_far more =
    more ∙ (ap (λ links. links ++ d ∷ []) so_far ∙ (append_assoc first (take i doors) (d ∷ [])
    ∙ ap (λ links. first ++ links) (sym (one_more App doors i d within is))))
