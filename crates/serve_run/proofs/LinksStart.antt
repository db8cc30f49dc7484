-- The jobs of one link start, or its passes come back
use Rattle.std.proofs.Common.{◌≡◌, ◌+◌, ◌≤◌, ◌++◌, ◌∷◌, [], ℕ, zero, suc, true, false, List, length, take, Some, None, drop, Result, Ok, Err, OnOk, OnErr, IfErr, refl, sym, ap, ◌∙◌, subst, arith, append-nil, length-append, All}
use Rattle.relay_model.specs.declared.role.Role.{Role}
use Rattle.turn_lock.specs.Pairs.{own, NoneOf}
use Rattle.turn_lock.proofs.PairsOfNumbers.{own-seen}
use Rattle.hub_lock.specs.Seats.{after_split}
use Rattle.hub_lock.specs.Passes.{HubId, PassSeat, PeerPass}
use Rattle.serve_jobs.specs.Tags.{Tag}
use Rattle.serve_jobs.specs.Tags.Part.{reader, writer, shell}
use Rattle.serve_run.specs.declared.stop.Stop.{Stop}
use Rattle.serve_run.specs.Refused.{stopped, WasRefused}
use Rattle.serve_run.specs.Unserved.{IsGoneAlone}
use Rattle.serve_run.specs.LinkJobs.{LinkedJob, IsOnHub, job, job_tagged}
use Rattle.serve_run.specs.Started.{IsRootOf, IsGivenBack, IsJoinedBy, IsNotJoined, MayLack, AreStarted, AreGivenBack, BothStarted, LinkStarted}
use Rattle.serve_run.proofs.JobsInOrder.{none_started, started_both}
use Rattle.serve_run.proofs.PassesBack.{none_back, one_back, two_back, back_since}

on_ok : {T E : Type 0} (r : Result T E) (P : Type 0) → P → OnOk r P
on_ok (Ok x) P p = p
on_ok (Err e) P p = tt

all_one : {A : Type 0} (P : A → Type 0) (x : A) → P x → All P (x ∷ [])
all_one P x p zero d within = p
all_one P x p (suc k) d within = absurd (omega arith)

-- one job was started
pub one_started : (hub : HubId) (started after : List Tag) (t : Tag) (j : LinkedJob) → after ≡ started ++ t ∷ []
    → job_tagged t ≡ j → IsOnHub hub t → AreStarted hub started after (j ∷ [])
one_started hub started after t j are is on = record {
  tags = t ∷ [];
  are = are;
  jobs_are = ap (λ k. k ∷ []) is;
  on_hub = all_one (IsOnHub hub) t on;
}

module _ (hub : HubId) (root : PassSeat) (started : List Tag) (reads writes link : ℕ) where
  -- neither of two jobs was started
  pub none_of_two : (middle after : PassSeat) (stop : Stop) → 2 ≤ root.out → MayLack stop
      → IsGivenBack hub root middle reads → IsGoneAlone hub.limits middle.seen reads
      → IsGivenBack hub middle after writes → NoneOf writes after.seen
      → BothStarted hub root after started started reads writes link (Err stop)
  none_of_two middle after stop two may one gone other none = record {
    root_is = other.root_is;
    next = other.next ∙ one.next;
    joins = own-seen after.seen middle.seen 0 other.mine ∙ own-seen middle.seen root.seen 0 one.mine;
    count = 0;
    jobs = none_started hub started;
    others = two_back hub root middle after (job reads link reader) (job writes link writer) one gone other none;
    balance = let x = one.out in let y = other.out in omega arith;
    all_started = tt;
    why = may;
  }

  -- the first was
  pub one_of_two : (after : PassSeat) (more : List Tag) (t : Tag) (stop : Stop) → 2 ≤ root.out
      → MayLack stop → more ≡ started ++ t ∷ [] → job_tagged t ≡ job reads link reader → IsOnHub hub t
      → IsGivenBack hub root after writes → NoneOf writes after.seen
      → BothStarted hub root after started more reads writes link (Err stop)
  one_of_two after more t stop two may are is on back none = record {
    root_is = back.root_is;
    next = back.next;
    joins = own-seen after.seen root.seen 0 back.mine;
    count = 1;
    jobs = one_started hub started more t (job reads link reader) are is on;
    others = one_back hub root after (job writes link writer) back none;
    balance = let x = back.out in let y = ap length are ∙ length-append started (t ∷ []) in omega arith;
    all_started = tt;
    why = may;
  }

  -- both were
  pub two_of_two : (after : PassSeat) (more most : List Tag) (t u : Tag) → IsRootOf hub root → after ≡ root
      → more ≡ started ++ t ∷ [] → job_tagged t ≡ job reads link reader → IsOnHub hub t
      → most ≡ more ++ u ∷ [] → job_tagged u ≡ job writes link writer → IsOnHub hub u
      → BothStarted hub root after started most reads writes link (Ok tt)
  two_of_two after more most t u root_is same are is on are2 is2 on2 = record {
    root_is = subst (IsRootOf hub) (sym same) root_is;
    next = ap (λ (s : PassSeat). s.next) same;
    joins = ap (λ (s : PassSeat). own 0 s.seen) same;
    count = 2;
    jobs = started_both hub started more most (job reads link reader ∷ []) (job writes link writer ∷ [])
        (one_started hub started more t (job reads link reader) are is on)
        (one_started hub more most u (job writes link writer) are2 is2 on2);
    others = none_back hub.limits root after [] refl (ap (λ (s : PassSeat). s.taken) same);
    balance =
        let x = ap (λ (s : PassSeat). s.out) same in
        let y = ap length are ∙ length-append started (t ∷ []) in
        let z = ap length are2 ∙ length-append more (u ∷ []) in omega arith;
    all_started = refl;
    why = tt;
  }

module _ (hub : HubId) (root : PassSeat) (started : List Tag) (reads writes link : ℕ) where
  -- the first was started, and the second, or its pass is back
  pub first_of_two : (middle after : PassSeat) (more most : List Tag) (t u : Tag) (r : Result (Unit {0}) Stop)
      → 2 ≤ root.out → IsRootOf hub root → middle ≡ root → more ≡ started ++ t ∷ []
      → job_tagged t ≡ job reads link reader
      → IsOnHub hub t → job_tagged u ≡ job writes link writer → IsOnHub hub u → OnOk r (after ≡ middle)
      → OnOk r (most ≡ more ++ u ∷ []) → OnErr r (IsGivenBack hub middle after writes) →
      OnErr r (NoneOf writes after.seen)
      → OnErr r (most ≡ more) → IfErr r MayLack → BothStarted hub root after started most reads writes link r
  first_of_two middle after more most t u (Ok done) two is same are of on of2 on2 kept are2 back made none may =
      two_of_two hub root started reads writes link after more most t u is (kept ∙ same) are of on are2 of2 on2
  first_of_two middle after more most t u (Err stop) two is same are of on of2 on2 kept are2 back made none may =
      subst (λ tags. BothStarted hub root after started tags reads writes link (Err stop)) (sym none)
      (one_of_two hub root started reads writes link after more t stop two may are of on
      (subst (λ m. IsGivenBack hub m after writes) same back) made)

module _ (hub : HubId) (root : PassSeat) (started : List Tag) (link : ℕ) where
  -- a peer's join was refused
  pub link_refused : (after : PassSeat) (role : Role) (stop : Stop) → IsNotJoined hub root after
      → WasRefused hub.limits after.seen (Some role) (stopped stop)
      → LinkStarted hub root after started started link (Some role) (Err stop)
  link_refused after role stop not was = record {
    root_is = not.root_is;
    is_joined = false;
    next = not.next ∙ (omega arith);
    joins = not.joins ∙ sym (append-nil (own 0 root.seen));
    count = 0;
    jobs = none_started hub started;
    none_else = λ e. refl;
    others = λ e. absurd cc;
    same = λ e. not.taken;
    balance = ap (λ n. n + length started) not.out;
    all_joined = tt;
    all_started = tt;
    refused = λ e. was;
    lacks = λ e. absurd cc;
  }

  -- it joined, and its jobs were started, or the first of them
  pub link_of_both : (joined after : PassSeat) (more : List Tag) (role : Role) (one other : PeerPass)
      (r : Result (Unit {0}) Stop) → IsJoinedBy hub root joined role one other
      → BothStarted hub joined after started more one.seat.number other.seat.number link r
      → LinkStarted hub root after started more link (Some role) r
  link_of_both joined after more role one other r is both = record {
    root_is = both.root_is;
    is_joined = true;
    next = both.next ∙ is.next;
    joins = both.joins ∙ is.joins;
    count = both.count;
    jobs = subst
        (λ n. AreStarted hub started more (take both.count (job n link reader ∷ job (root.next + 1) link writer ∷ [])))
        is.reader_number
        (subst (λ n. AreStarted hub started more
        (take both.count (job one.seat.number link reader ∷ job n link writer ∷ [])))
        is.writer_number both.jobs);
    none_else = λ e. absurd cc;
    others = λ e. subst
        (λ n. AreGivenBack hub.limits root after
        (drop both.count (job n link reader ∷ job (root.next + 1) link writer ∷ [])))
        is.reader_number
        (subst (λ n. AreGivenBack hub.limits root after
        (drop both.count (job one.seat.number link reader ∷ job n link writer ∷ []))) is.writer_number
        (back_since hub.limits root joined after _ is.taken both.others));
    same = λ e. absurd cc;
    balance = let x = is.out in let y = both.balance in omega arith;
    all_joined = on_ok r (true ≡ true) refl;
    all_started = both.all_started;
    refused = λ e. absurd cc;
    lacks = λ e. both.why;
  }

  -- a shell's job was started
  pub shell_started : (split after : PassSeat) (more : List Tag) (t : Tag) → IsRootOf hub split
      → split ≡ after_split root → after ≡ split → more ≡ started ++ t ∷ [] → job_tagged t ≡ job root.next link shell
      → IsOnHub hub t → LinkStarted hub root after started more link None (Ok tt)
  shell_started split after more t is same kept are tagged on = record {
    root_is = subst (IsRootOf hub) (sym kept) is;
    is_joined = true;
    next = ap (λ (s : PassSeat). s.next) (kept ∙ same);
    joins = ap (λ (s : PassSeat). own 0 s.seen) (kept ∙ same) ∙ sym (append-nil (own 0 root.seen));
    count = 1;
    jobs = one_started hub started more t (job root.next link shell) are tagged on;
    none_else = λ e. absurd cc;
    balance =
        let x = ap (λ (s : PassSeat). s.out) (kept ∙ same) in
        let y = ap length are ∙ length-append started (t ∷ []) in omega arith;
    others = λ e. none_back hub.limits root after [] refl (ap (λ (s : PassSeat). s.taken) (kept ∙ same));
    same = λ e. absurd cc;
    all_joined = refl;
    all_started = refl;
    refused = λ e. absurd cc;
    lacks = λ e. tt;
  }

  -- a shell's pass is back
  pub shell_given_back : (split after : PassSeat) (stop : Stop) → split ≡ after_split root → MayLack stop
      → IsGivenBack hub split after root.next → NoneOf root.next after.seen
      → LinkStarted hub root after started started link None (Err stop)
  shell_given_back split after stop same may back none = record {
    root_is = back.root_is;
    is_joined = true;
    next = back.next ∙ ap (λ (s : PassSeat). s.next) same;
    joins = own-seen after.seen split.seen 0 back.mine
        ∙ (ap (λ (s : PassSeat). own 0 s.seen) same ∙ sym (append-nil (own 0 root.seen)));
    count = 0;
    jobs = none_started hub started;
    none_else = λ e. absurd cc;
    others = λ e. back_since hub.limits root split after _ (ap (λ (s : PassSeat). s.taken) same)
        (one_back hub split after (job root.next link shell) back none);
    same = λ e. absurd cc;
    balance = let x = ap (λ (s : PassSeat). s.out) same in let y = back.out in omega arith;
    all_joined = tt;
    all_started = tt;
    refused = λ e. absurd cc;
    lacks = λ e. may;
  }

  -- a shell's job was started, or its pass is back
  pub shell_by : (split after : PassSeat) (more : List Tag) (t : Tag) (r : Result (Unit {0}) Stop) → IsRootOf hub split
      → split ≡ after_split root → job_tagged t ≡ job root.next link shell → IsOnHub hub t → OnOk r (after ≡ split)
      → OnOk r (more ≡ started ++ t ∷ []) → OnErr r (IsGivenBack hub split after root.next)
      → OnErr r (NoneOf root.next after.seen) → OnErr r (more ≡ started) → IfErr r MayLack
      → LinkStarted hub root after started more link None r
  shell_by split after more t (Ok done) is same of on kept are back made none may =
      shell_started split after more t is same kept are of on
  shell_by split after more t (Err stop) is same of on kept are back made none may =
      subst (λ tags. LinkStarted hub root after started tags link None (Err stop)) (sym none)
      (shell_given_back split after stop same may back made)
