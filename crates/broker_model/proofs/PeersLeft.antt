-- What stays of peers, as one more joins, ends, or has bytes taken.
use Rattle.std.proofs.Common.{◌≡◌, ℕ, zero, suc, ◌+◌, ◌-◌, ◌<◌, ◌≤◌, List, [], ◌∷◌, ◌++◌, length, set, Option, Some, None, IsSome, option_map, ap, refl, sym, subst, ◌∙◌, arith}
use Rattle.std.specs.List.{slice_get}
use Rattle.std.proofs.lemmas.Option.{slice_get_within}
use Rattle.out_store.specs.Queue.{Queue}
use Rattle.relay_model.specs.declared.act.EndCause.{EndCause}
use Rattle.broker_model.specs.declared.left.Left.{Left}
use Rattle.broker_model.specs.Ends.{Ended, ended_in, ended_with, store_at, ended_at, ended_from, number_alive, cause_in, cause_at, IsTidy}

-- one for each that joined
pub as_many : (q : ℕ) (causes : List (Option EndCause)) (left : List Left) →
    length (ended_from q causes left) ≡ length causes
as_many q [] left = refl
as_many q (cause ∷ causes) left = ap suc (as_many (suc q) causes left)

-- one more that is alive
pub one_more : (q : ℕ) (causes : List (Option EndCause)) (left : List Left) →
    ended_from q (causes ++ None ∷ []) left ≡ ended_from q causes left ++ None ∷ []
one_more q [] left = refl
one_more q (cause ∷ causes) left =
    ap (λ (es : List (Option Ended)). ended_at q cause left ∷ es) (one_more (suc q) causes left)

-- what is stored for a peer is all that is read of what is stored
at_same : (q : ℕ) (cause : Option EndCause) (left later : List Left) → store_at q later ≡ store_at q left →
    ended_at q cause later ≡ ended_at q cause left
at_same q None left later e = refl
at_same q (Some cause) left later e = ap (λ (s : Option Queue). Some (record { cause = cause; store = s })) e

from_same : (q : ℕ) (causes : List (Option EndCause)) (left later : List Left) →
    ((r : ℕ) → q ≤ r → store_at r later ≡ store_at r left) → ended_from q causes later ≡ ended_from q causes left
from_same q [] left later h = refl
from_same q (cause ∷ causes) left later h =
    ap (λ (e : Option Ended). e ∷ ended_from (suc q) causes later) (at_same q cause left later (h q (omega arith)))
    ∙ ap (λ (es : List (Option Ended)). ended_at q cause left ∷ es)
    (from_same (suc q) causes left later (λ r w. h r (omega arith)))

-- one ends, and what is stored for it alone changes
pub one_ended : (q : ℕ) (causes : List (Option EndCause)) (left later : List Left) (i n : ℕ) (cause : EndCause) →
    n ≡ q + i → ((r : ℕ) → (r ≡ n → ⊥) → store_at r later ≡ store_at r left) →
    ended_from q (set causes i (Some cause)) later
    ≡ set (ended_from q causes left) i (Some (record { cause = cause; store = store_at n later }))
one_ended q [] left later i n cause e h = refl
one_ended q (c ∷ causes) left later zero n cause e h =
    let same : q ≡ n = omega arith in
    ap (λ (m : ℕ). Some (record { cause = cause; store = store_at m later }) ∷ ended_from (suc q) causes later) same
    ∙ ap (λ (es : List (Option Ended)). Some (record { cause = cause; store = store_at n later }) ∷ es)
    (from_same (suc q) causes left later (λ r w. h r (λ f. absurd (omega arith))))
one_ended q (c ∷ causes) left later (suc i) n cause e h =
    ap (λ (x : Option Ended). x ∷ ended_from (suc q) (set causes i (Some cause)) later)
    (at_same q c left later (h q (λ f. absurd (omega arith))))
    ∙ ap (λ (es : List (Option Ended)). ended_at q c left ∷ es)
    (one_ended (suc q) causes left later i n cause (omega arith) h)

-- what stands at a place
got : (q : ℕ) (causes : List (Option EndCause)) (left : List Left) (i n : ℕ) → n ≡ q + i →
    slice_get (ended_from q causes left) i ≡ option_map (λ c. ended_at n c left) (slice_get causes i)
got q [] left i n e = refl
got q (c ∷ causes) left zero n e =
    let same : q ≡ n = omega arith in ap (λ (m : ℕ). Some (ended_at m c left)) same
got q (c ∷ causes) left (suc i) n e = got (suc q) causes left i n (omega arith)

pub read_at : (causes : List (Option EndCause)) (left : List Left) (n : ℕ) (c : Option EndCause) → 0 < n →
    slice_get causes (n - 1) ≡ Some c →
    slice_get (ended_from 1 causes left) (n - 1) ≡ Some (ended_at n c left)
read_at causes left n c w at =
    got 1 causes left (n - 1) n (omega arith) ∙ ap (option_map (λ c. ended_at n c left)) at

-- who is alive has no cause
pub alive_only : (causes : List (Option EndCause)) (left : List Left) (n : ℕ) → 0 < n →
    slice_get (ended_from 1 causes left) (n - 1) ≡ Some None → slice_get causes (n - 1) ≡ Some None
alive_only causes left n w at =
    by (slice_get causes (n - 1)) refl (sym (got 1 causes left (n - 1) n (omega arith)) ∙ at)
  where
    by : (o : Option (Option EndCause)) → slice_get causes (n - 1) ≡ o →
        option_map (λ c. ended_at n c left) o ≡ Some None → slice_get causes (n - 1) ≡ Some None
    by None e f = cc
    by (Some None) e f = e
    by (Some (Some cause)) e f = cc

-- who ended has one
pub ended_only : (causes : List (Option EndCause)) (left : List Left) (n : ℕ) → 0 < n →
    IsSome (ended_with n (ended_from 1 causes left)) →
    (cause : EndCause) × (slice_get causes (n - 1) ≡ Some (Some cause))
ended_only causes left n w h =
    by (slice_get causes (n - 1)) refl
    (subst (λ (o : Option (Option Ended)). IsSome (ended_in o)) (got 1 causes left (n - 1) n (omega arith)) h)
  where
    by : (o : Option (Option EndCause)) → slice_get causes (n - 1) ≡ o →
        IsSome (ended_in (option_map (λ c. ended_at n c left) o)) →
        (cause : EndCause) × (slice_get causes (n - 1) ≡ Some (Some cause))
    by None e i = absurd (cc)
    by (Some None) e i = absurd (cc)
    by (Some (Some cause)) e i = (cause, e)

-- what is set as it was
set_back : {A : Type 0} → (xs : List A) (i : ℕ) (x : A) → slice_get xs i ≡ Some x → set xs i x ≡ xs
set_back [] i x e = refl
set_back (y ∷ xs) zero x e = let same : x ≡ y = cc in ap (λ z. z ∷ xs) same
set_back (y ∷ xs) (suc i) x e = ap (λ zs. y ∷ zs) (set_back xs i x e)

-- what is stored for one that ended alone changes
pub one_taken : (causes : List (Option EndCause)) (left later : List Left) (n : ℕ) (cause : EndCause) → 0 < n →
    slice_get causes (n - 1) ≡ Some (Some cause) →
    ((r : ℕ) → (r ≡ n → ⊥) → store_at r later ≡ store_at r left) →
    ended_from 1 causes later
    ≡ set (ended_from 1 causes left) (n - 1) (Some (record { cause = cause; store = store_at n later }))
one_taken causes left later n cause w at h =
    ap (λ (cs : List (Option EndCause)). ended_from 1 cs later) (sym (set_back causes (n - 1) (Some cause) at))
    ∙ one_ended 1 causes left later (n - 1) n cause (omega arith) h

-- the number of those alive

pub alive_more : (causes : List (Option EndCause)) → number_alive (causes ++ None ∷ []) ≡ number_alive causes + 1
alive_more [] = refl
alive_more (None ∷ causes) = ap (λ (k : ℕ). k + 1) (alive_more causes)
alive_more (Some cause ∷ causes) = alive_more causes

pub alive_less : (causes : List (Option EndCause)) (i : ℕ) (cause : EndCause) → slice_get causes i ≡ Some None →
    number_alive (set causes i (Some cause)) + 1 ≡ number_alive causes
alive_less [] i cause e = cc
alive_less (None ∷ causes) zero cause e = refl
alive_less (Some other ∷ causes) zero cause e = cc
alive_less (None ∷ causes) (suc i) cause e = ap (λ (k : ℕ). k + 1) (alive_less causes i cause e)
alive_less (Some other ∷ causes) (suc i) cause e = alive_less causes i cause e

-- why each ended

-- it is read at the peer's place
pub cause_read : (causes : List (Option EndCause)) (left : List Left) (n : ℕ) (c : Option EndCause) → 0 < n →
    slice_get causes (n - 1) ≡ Some c → c ≡ option_map (λ e. e.cause) (ended_with n (ended_from 1 causes left))
cause_read causes left n c w at =
    by c ∙ sym (ap (λ (o : Option (Option Ended)). option_map (λ e. e.cause) (ended_in o))
    (read_at causes left n c w at))
  where
    by : (c : Option EndCause) → c ≡ option_map (λ e. e.cause) (ended_at n c left)
    by None = refl
    by (Some cause) = refl

-- who joins has none, nor has who ends after it
none_before : (causes : List (Option EndCause)) (k : ℕ) →
    cause_in (slice_get (causes ++ None ∷ []) k) ≡ None → cause_in (slice_get causes k) ≡ None
none_before [] k e = refl
none_before (c ∷ causes) zero e = e
none_before (c ∷ causes) (suc k) e = none_before causes k e

none_set : (causes : List (Option EndCause)) (i k : ℕ) (cause : EndCause) →
    cause_in (slice_get (set causes i (Some cause)) k) ≡ None → cause_in (slice_get causes k) ≡ None
none_set [] i k cause e = refl
none_set (c ∷ causes) zero zero cause e = cc
none_set (c ∷ causes) zero (suc k) cause e = e
none_set (c ∷ causes) (suc i) zero cause e = e
none_set (c ∷ causes) (suc i) (suc k) cause e = none_set causes i k cause e

-- who ended has one
one_set : (causes : List (Option EndCause)) (i : ℕ) (cause : EndCause) → i < length causes →
    cause_in (slice_get (set causes i (Some cause)) i) ≡ Some cause
one_set [] i cause w = absurd (omega arith)
one_set (c ∷ causes) zero cause w = refl
one_set (c ∷ causes) (suc i) cause w = one_set causes i cause (omega arith)

-- all stays tidy

pub tidy_more : (alive places : ℕ) (causes : List (Option EndCause)) (left : List Left) →
    IsTidy alive causes left places → alive + 1 ≤ places → IsTidy (alive + 1) (causes ++ None ∷ []) left places
tidy_more alive places causes left t w = record {
  number = ap (λ (k : ℕ). k + 1) t.number ∙ sym (alive_more causes);
  enough = w;
  none = λ n e. t.none n (none_before causes (n - 1) e);
}

pub tidy_ended : (alive places places_after : ℕ) (causes : List (Option EndCause)) (left later : List Left) (n : ℕ)
    (cause : EndCause) →
    IsTidy alive causes left places → slice_get causes (n - 1) ≡ Some None → places ≤ places_after + 1 →
    ((r : ℕ) → (r ≡ n → ⊥) → store_at r later ≡ store_at r left) →
    IsTidy (alive - 1) (set causes (n - 1) (Some cause)) later places_after
tidy_ended alive places places_after causes left later n cause t at room same =
    let less : number_alive (set causes (n - 1) (Some cause)) + 1 ≡ number_alive causes =
    alive_less causes (n - 1) cause at in
    let number : alive ≡ number_alive causes = t.number in
    let enough : alive ≤ places = t.enough in
    record {
      number = omega arith;
      enough = omega arith;
      none = λ r e. same r (λ f. is_other r f e) ∙ t.none r (none_set causes (n - 1) (r - 1) cause e);
    }
  where
    is_other : (r : ℕ) → r ≡ n → cause_at r (set causes (n - 1) (Some cause)) ≡ None → ⊥
    is_other r f e =
        let here : cause_at n (set causes (n - 1) (Some cause)) ≡ Some cause =
        one_set causes (n - 1) cause (slice_get_within causes (n - 1) None at) in
        let there : cause_at n (set causes (n - 1) (Some cause)) ≡ None =
        ap (λ (m : ℕ). cause_at m (set causes (n - 1) (Some cause))) (sym f) ∙ e in
        cc

pub tidy_taken : (alive places places_after : ℕ) (causes : List (Option EndCause)) (left later : List Left) (n : ℕ)
    (cause : EndCause) →
    IsTidy alive causes left places → slice_get causes (n - 1) ≡ Some (Some cause) → places ≤ places_after →
    ((r : ℕ) → (r ≡ n → ⊥) → store_at r later ≡ store_at r left) → IsTidy alive causes later places_after
tidy_taken alive places places_after causes left later n cause t at room same =
    let enough : alive ≤ places = t.enough in
    record {
      number = t.number;
      enough = omega arith;
      none = λ r e. same r (λ f. is_other r f e) ∙ t.none r e;
    }
  where
    is_other : (r : ℕ) → r ≡ n → cause_at r causes ≡ None → ⊥
    is_other r f e =
        let here : cause_at n causes ≡ Some cause = ap cause_in at in
        let there : cause_at n causes ≡ None = ap (λ (m : ℕ). cause_at m causes) (sym f) ∙ e in
        cc

-- who ended, as it is read

pub within : (causes : List (Option EndCause)) (left : List Left) (n : ℕ) (items : List (Option Ended)) →
    ended_from 1 causes left ≡ items → 0 < n → n ≤ length items → n - 1 < length causes
within causes left n items is w many =
    let same : length causes ≡ length items = sym (as_many 1 causes left) ∙ ap length is in
    omega arith

pub record IsOver (causes : List (Option EndCause)) (left : List Left) (n : ℕ)
    (items : List (Option Ended)) : Type 0 where
  pub cause : EndCause
  pub at : slice_get causes (n - 1) ≡ Some (Some cause)
  pub is : ended_with n items ≡ Some (record { cause = cause; store = store_at n left })

pub who_ended : (causes : List (Option EndCause)) (left : List Left) (n : ℕ) (items : List (Option Ended)) →
    ended_from 1 causes left ≡ items → 0 < n → IsSome (ended_with n items) → IsOver causes left n items
who_ended causes left n items is w some =
    let one = ended_only causes left n w
    (subst (λ (es : List (Option Ended)). IsSome (ended_with n es)) (sym is) some) in
    record {
      cause = one.0;
      at = one.1;
      is = ap (ended_with n) (sym is) ∙ ap ended_in (read_at causes left n (Some one.0) w one.1);
    }
