-- How often starts were refused, and how many reports had come at the last
use Rattle.std.proofs.Common.{◌≡◌, ◌≤◌, inl, inr, ⊎_elim, ℕ, true, false, Bool, List, length, Option, Some, None, Result, Ok, Err, OnOk, OnErr, IfErr, refl, ap, sym, subst, ◌∙◌, arith}
use Rattle.relay_model.specs.declared.role.Role.{Role}
use Rattle.broker_core.specs.declared.answers.JoinRefusal.{JoinRefusal}
use Rattle.broker_core.specs.declared.answers.JoinRefusal.TheVariants as refusals
use Rattle.hub_lock.specs.Histories.{History}
use Rattle.hub_lock.specs.Passes.{HubId, PassSeat}
use Rattle.broker_steps.specs.declared.limits.Limits.{Limits}
use Rattle.serve_jobs.specs.Tags.{Tag, Report}
use Rattle.wio_core.specs.Io.{Rose}
use Rattle.serve_run.specs.declared.stop.Stop.{Stop}
use Rattle.serve_run.specs.declared.stop.Stop.TheVariants as stops
use Rattle.serve_run.specs.Started.{MayLack, IsRefusal, LinkStarted, Starts}
use Rattle.serve_run.specs.Refused.{stopped, IsStoppedBy, WasRefused}

-- a count that stood before or after it rose

pub rose_since : (a b c : ℕ) → b ≡ a → Rose b c → Rose a c
rose_since a b c same rose = subst (λ n. Rose n c) same rose

pub rose_until : (a b c : ℕ) → Rose a b → c ≡ b → Rose a c
rose_until a b c rose same = same ∙ rose

-- doors that were open stay so where none was shut since

pub stay_open : {D : Type 0} {before after : D → Bool} (r : Result (Unit {0}) Stop) →
    ((d : D) → after d ≡ before d) → OnOk r ((d : D) → before d ≡ true) → OnOk r ((d : D) → after d ≡ true)
stay_open (Ok done) same stood = λ d. same d ∙ stood d
stay_open (Err stop) same stood = tt

-- why a job lacks

pub may_lack : (stop : Stop) → stopped stop ≡ stopped stops.NoThread → MayLack stop
may_lack stop e = let same : stops.NoThread ≡ stop = cc in subst MayLack same tt

pub may_lack_memory : (stop : Stop) → stop ≡ stops.NoMemory → MayLack stop
may_lack_memory stop e = subst MayLack (sym e) tt

pub lacks_thread : (r : Result (Unit {0}) Stop) → OnErr r (r ≡ Err stops.NoThread) → IfErr r MayLack
lacks_thread (Ok done) why = tt
lacks_thread (Err stop) why = may_lack stop why

-- a spawner that starts jobs
module _ {W : Type 0} {reports : W → List Report} {before_start refusals : W → ℕ} where
  pub no_starts : (w : W) (r : Result (Unit {0}) Stop) → (r ≡ Err stops.NoThread → ⊥)
      → Starts reports before_start refusals w w r
  no_starts w r not = record {
    last = inl refl;
    none_came = refl;
    never_falls = omega arith;
    threads = λ is. absurd (not is);
    no_refusal = λ other. refl;
  }

  pub starts_one : (a b : W) (r : Result (Unit {0}) Stop) → OnOk r (before_start b ≡ length (reports a))
      → OnErr r (before_start b ≡ before_start a) → reports b ≡ reports a → refusals a ≤ refusals b
      → OnErr r (Rose (refusals a) (refusals b)) → OnOk r (refusals b ≡ refusals a)
      → OnErr r (r ≡ Err stops.NoThread) → Starts reports before_start refusals a b r
  starts_one a b (Ok done) last stays none falls rose same why = record {
    last = inr last;
    none_came = none;
    never_falls = falls;
    threads = λ is. absurd (cc);
    no_refusal = λ other. same;
  }
  starts_one a b (Err stop) last stays none falls rose same why = record {
    last = inl stays;
    none_came = none;
    never_falls = falls;
    threads = λ is. rose;
    no_refusal = λ other. absurd (other why);
  }

  -- more starts, after some that weren't refused
  pub starts_more : (a b c : W) (r : Result (Unit {0}) Stop) → Starts reports before_start refusals a b (Ok tt)
      → Starts reports before_start refusals b c r → Starts reports before_start refusals a c r
  starts_more a b c r one two = record {
    last = ⊎_elim (λ l. ⊎_elim (λ m. inl (l ∙ m)) (λ m. inr (l ∙ m)) one.last)
        (λ m. inr (m ∙ ap length one.none_came)) two.last;
    none_came = two.none_came ∙ one.none_came;
    never_falls = let x = one.never_falls in let y = two.never_falls in omega arith;
    threads = λ is. rose_since _ _ _ (one.no_refusal (λ not. cc)) (two.threads is);
    no_refusal = λ other. two.no_refusal other ∙ one.no_refusal (λ is. cc);
  }

  -- the same where none was refused, whatever stopped it
  pub starts_done : (a b : W) (r : Result (Unit {0}) Stop) → (r ≡ Err stops.NoThread → ⊥)
      → Starts reports before_start refusals a b (Ok tt) → Starts reports before_start refusals a b r
  starts_done a b r not one = record {
    last = one.last;
    none_came = one.none_came;
    never_falls = one.never_falls;
    threads = λ is. absurd (not is);
    no_refusal = λ other. one.no_refusal (λ is. cc);
  }

-- what a start is never refused for

pub join_has_threads : (stop : Stop) → IsRefusal stop → stopped stop ≡ stopped stops.NoThread → ⊥
join_has_threads stops.NoMemory is e = cc
join_has_threads stops.JournalFull is e = cc
join_has_threads stops.NetFault is e = absurd is
join_has_threads stops.NoThread is e = absurd is

refused_has_net : (limits : Limits) (h : History) (role : Option Role) → WasRefused limits h role (Err stops.NetFault) → ⊥
refused_has_net limits h None was = was
refused_has_net limits h (Some role) was = by was.0 was.1 where
  by : (why : JoinRefusal) → IsStoppedBy why (stopped stops.NetFault) → ⊥
  by (refusals.JournalFull kept) e = cc
  by refusals.NoMemory e = cc
  by (refusals.TooManyPeers n) e = e

-- a link's start is no fault of a net

is_net : (stop : Stop) → stopped stop ≡ stopped stops.NetFault → stop ≡ stops.NetFault
is_net stop e = cc

module _ (hub : HubId) (root root' : PassSeat) (started started' : List Tag) (link : ℕ) (role : Option Role) (stop : Stop)
    (l : LinkStarted hub root root' started started' link role (Err stop)) (same : stop ≡ stops.NetFault) where
  by_joined : (b : Bool) → l.is_joined ≡ b → ⊥
  by_joined true is = subst MayLack same (l.lacks is)
  by_joined false is =
      refused_has_net hub.limits root'.seen role
      (subst (λ s. WasRefused hub.limits root'.seen role (stopped s)) same (l.refused is))

pub link_has_net : (hub : HubId) (root root' : PassSeat) (started started' : List Tag) (link : ℕ) (role : Option Role)
    (stop : Stop) → LinkStarted hub root root' started started' link role (Err stop)
    → stopped stop ≡ stopped stops.NetFault → ⊥
link_has_net hub root root' started started' link role stop l e =
    by_joined hub root root' started started' link role stop l (is_net stop e) l.is_joined refl
