-- The root while the pass of who records is out, and once it is back
use Rattle.std.proofs.Common.{◌≡◌, ◌⊎◌, inl, inr, ◌∷◌, [], ℕ, Bool, true, false, length, refl, ap, sym, subst, ◌∙◌, arith}
use Rattle.std.specs.Prelude.{nat_lt, if◌then◌else◌}
use Rattle.broker_steps.specs.declared.limits.Limits.{Limits}
use Rattle.turn_lock.specs.Pairs.{NoneOf, HasSeen, IsIn, longer, total}
use Rattle.hub_lock.specs.Seats.{IsTallied, IsMeeting, after_split, split_off, having_seen, naming, met_with}
use Rattle.turn_lock.proofs.PairsOfNumbers.{own-seen}
use Rattle.hub_lock.specs.Histories.{History}
use Rattle.hub_lock.specs.Passes.{HubId, PassSeat, Recorder, IsOf}
use Rattle.hub_lock.specs.Recording.{LegalLook, recorder}
use Rattle.serve_run.specs.Started.{IsRootOf}

-- the root has seen more, named a pass, and split it off

pub root_seen : (hub : HubId) (root root' : PassSeat) → IsRootOf hub root → root' ≡ having_seen root root'.seen
    → IsRootOf hub root'
root_seen hub root root' r e = record {
  of = (ap (λ (s : PassSeat). s.turn) e ∙ r.of.0, ap (λ (s : PassSeat). s.constant) e ∙ r.of.1);
  zero = ap (λ (s : PassSeat). s.number) e ∙ r.zero;
}

pub root_split : (hub : HubId) (root root' : PassSeat) → IsRootOf hub root
    → root' ≡ after_split (naming (having_seen root root'.seen)) → IsRootOf hub root'
root_split hub root root' r e = record {
  of = (ap (λ (s : PassSeat). s.turn) e ∙ r.of.0, ap (λ (s : PassSeat). s.constant) e ∙ r.of.1);
  zero = ap (λ (s : PassSeat). s.number) e ∙ r.zero;
}

-- the root made no step
pub look_mine : (limits : Limits) (root : PassSeat) (h : History) → root.number ≡ 0 → LegalLook limits root h
    → HasSeen h 0 root.seen
look_mine limits root h zero look = (look.rest, look.answer, subst (λ n. NoneOf n look.rest) zero look.apart)

-- a pass that made no step has none later
pub none_later : (h seen : History) (n : ℕ) → HasSeen h n seen → NoneOf n seen → NoneOf n h
none_later h seen n s free = own-seen h seen n s ∙ free

-- with the pass of who records back, all steps are the root's and of those that were back before
pub all_owned : (root pass root' : PassSeat) → root' ≡ met_with root pass → IsTallied root'
    → IsMeeting root pass root'.seen → root.out ≡ 1 → NoneOf pass.number pass.seen
    → total (0 ∷ root.taken) root'.seen ≡ length root'.seen
all_owned root pass root' e t both out free =
    let none : root'.out ≡ 0 = (let o = ap (λ (s : PassSeat). s.out) e in omega arith) in
    let all : total (0 ∷ pass.number ∷ root.taken) root'.seen ≡ length root'.seen =
    subst (λ ns. total (0 ∷ ns) root'.seen ≡ length root'.seen) (ap (λ (s : PassSeat). s.taken) e) (t.all none) in
    let nothing = ap length (none_later root'.seen pass.seen pass.number both.theirs free) in omega arith

-- what both have seen is what one of them has
pub either_seen : (xs ys : History) → (longer xs ys ≡ ys) ⊎ (longer xs ys ≡ xs)
either_seen xs ys = by (nat_lt (length xs) (length ys)) where
  by : (b : Bool) → ((if b then ys else xs) ≡ ys) ⊎ ((if b then ys else xs) ≡ xs)
  by true = inl refl
  by false = inr refl

-- the pass of who records is the hub's, and stays so

pub pass_of : (hub : HubId) (root : PassSeat) (h : History) (p : Recorder) → IsOf hub root
    → p ≡ recorder (split_off (having_seen root h)) [] → IsOf hub p.seat
pass_of hub root h p of e =
    (ap (λ (x : Recorder). x.seat.turn) e ∙ of.0, ap (λ (x : Recorder). x.seat.constant) e ∙ of.1)

pub of_on : (hub : HubId) (seat seat' : PassSeat) → IsOf hub seat → seat' ≡ having_seen seat seat'.seen
    → IsOf hub seat'
of_on hub seat seat' of e = (ap (λ (s : PassSeat). s.turn) e ∙ of.0, ap (λ (s : PassSeat). s.constant) e ∙ of.1)

pub free_on : (seat seat' : PassSeat) → seat' ≡ having_seen seat seat'.seen → HasSeen seat'.seen seat.number seat.seen
    → NoneOf seat.number seat.seen → NoneOf seat'.number seat'.seen
free_on seat seat' e s free =
    subst (λ n. NoneOf n seat'.seen) (sym (ap (λ (x : PassSeat). x.number) e))
    (none_later seat'.seen seat.seen seat.number s free)

-- all that came back before is back
pub in_split : (root root' : PassSeat) (n : ℕ) → root' ≡ after_split (naming (having_seen root root'.seen))
    → IsIn n root.taken → IsIn n root'.taken
in_split root root' n e out = subst (IsIn n) (sym (ap (λ (s : PassSeat). s.taken) e)) out

pub in_seen : (root root' : PassSeat) (n : ℕ) → root' ≡ having_seen root root'.seen → IsIn n root.taken
    → IsIn n root'.taken
in_seen root root' n e out = subst (IsIn n) (sym (ap (λ (s : PassSeat). s.taken) e)) out
