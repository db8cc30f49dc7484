-- What the calls of who records tell of its pass
use Rattle.std.proofs.Common.{◌≡◌, List, ◌∷◌, ◌++◌, length, Option, Some, None, refl, sym, subst, arith}
use Rattle.broker_steps.specs.declared.limits.Limits.{Limits}
use Rattle.broker_core.specs.declared.letting_go.LetGo.{LetGo}
use Rattle.turn_lock.specs.Pairs.{NoneOf}
use Rattle.hub_lock.specs.Histories.{History, broker_of}
use Rattle.hub_lock.specs.Lawful.{IsLawful}
use Rattle.hub_lock.specs.Passes.{PassSeat, Recorder}
use Rattle.hub_lock.specs.Plays.{IsNext}
use Rattle.hub_lock.specs.Calls.{Legal}
use Rattle.hub_lock.specs.Recording.{AreOldest, HasFront, after_handing, HandsNext, LegalHandOut}
use Rattle.hub_lock.proofs.LegalCalls.{seen-more, waited-legal}
use Rattle.hub_lock.proofs.OldestStay.{oldest-stay}

-- what was seen more leaves the front of the journal
pub front-stays : (limits : Limits) (seat : PassSeat) (after : History) (Told : History → Type 0) (all : List LetGo)
    → Legal limits seat after Told → AreOldest (broker_of limits seat.seen) all
    → AreOldest (broker_of limits after) all
front-stays limits seat after Told all k a =
    let more = seen-more limits seat after Told k in
    subst (λ h. AreOldest (broker_of limits h) all) (sym more.1)
    (oldest-stay limits seat.seen more.0 all (subst (IsLawful limits) more.1 k.lawful_after) a)

-- the front of what a pass has seen, where the limits are those
pub has-front : (limits : Limits) (p : Recorder) → p.seat.constant ≡ Some limits
    → AreOldest (broker_of limits p.seat.seen) p.handed → HasFront p
has-front limits p of a other of' =
    let same : limits ≡ other = cc in subst (λ x. AreOldest (broker_of x p.seat.seen) p.handed) same a

-- with the next entry the front is longer
pub front-next : (limits : Limits) (p : Recorder) (after : History) (it : LetGo)
    → LegalHandOut limits p after (Some it) → p.seat.constant ≡ Some limits → HasFront p
    → HasFront (after_handing p after (Some it))
front-next limits p after it k of front =
    has-front limits (after_handing p after (Some it)) of (
      subst (λ h. IsNext (broker_of limits h) (length p.handed) it) (sym k.answer.same) k.answer.out.next,
      front-stays limits p.seat after _ p.handed k (front limits of),
    )

pub number-next : (limits : Limits) (p : Recorder) (after : History) (it : LetGo)
    → LegalHandOut limits p after (Some it) → it.number ≡ length (it ∷ p.handed)
number-next limits p after it k = let n = k.answer.out.next.number in omega arith

-- where nothing was handed out the front is what it was
pub front-same : (limits : Limits) (p : Recorder) (after : History) (Told : History → Type 0)
    → Legal limits p.seat after Told → p.seat.constant ≡ Some limits → HasFront p
    → HasFront (after_handing p after None)
front-same limits p after Told k of front =
    has-front limits (after_handing p after None) of
    (front-stays limits p.seat after Told p.handed k (front limits of))

-- after waiting, in which nothing was handed out, a hand-out is legal as one of the pass before
pub waited-out : (limits : Limits) (first p : Recorder) (after : History) (r : Option LetGo) (more : History)
    → NoneOf first.seat.number more → p ≡ after_handing first (first.seat.seen ++ more) None
    → LegalHandOut limits p after r → LegalHandOut limits first after r
waited-out limits first p after r more free e k =
    let at : Recorder = after_handing first (first.seat.seen ++ more) None in
    let now : LegalHandOut limits at after r = subst (λ (x : Recorder). LegalHandOut limits x after r) e k in
    waited-legal limits at.seat after (λ before. HandsNext limits before (length first.handed) after r) now
    first.seat more free refl
