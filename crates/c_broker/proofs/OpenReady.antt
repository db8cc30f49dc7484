-- The way through the numbers of open peers to the first with something stored.
use Rattle.std.proofs.Common.{◌≡◌, ℕ, zero, suc, ◌+◌, ◌<◌, ◌≤◌, List, [], ◌∷◌, length, drop, get_or, false, Option, Some, None, refl, ap, sym, subst, ◌∙◌, arith, ⊎_elim, inl, inr}
use Rattle.std.specs.Prelude.{option_map, unwrap_or}
use Rattle.std.proofs.lemmas.Bool.{cases_lt, cases_eq}
use Rattle.std.proofs.lemmas.List.{drop_more}
use Rattle.std.proofs.lemmas.Option.{slice_get_within}
use Rattle.broker_model.specs.Ids.{Joined, peer_at}
use Rattle.broker_model.specs.Out.{Outgoing, out_for, stored}
use Rattle.broker_model.specs.Resolve.{past_of}
use Rattle.broker_core.specs.Broker.{Broker}
use Rattle.broker_core.specs.Taking.{out_at}
use Rattle.c_broker.specs.Open.{IsDone, IsOpen, Rise, has}
use Rattle.c_broker.specs.Seated.{IsReady, NothingFor, count_in, stored_for}
use Rattle.c_broker.proofs.OpenNumbers.{rise_low, none_below, none_first}

-- who is done has nothing stored
done_none : (b : Broker) (q : ℕ) → IsDone b q → stored_for b q ≡ 0
done_none b q d =
    ap (λ (p : Option Joined). count_in (option_map (λ (peer : Joined). out_for b.limits.store b.journal peer.label) p))
    d.at
    ∙ d.none

-- as calls count it
pub counted_for : (b : Broker) (q : ℕ) (o : Option ℕ) (n : ℕ) →
    o ≡ option_map (λ (out : Outgoing). length (stored out)) (out_at b.limits.store b.journal q) →
    n ≡ unwrap_or o 0 → n ≡ stored_for b q
counted_for b q o n is counts =
    counts ∙ ap (λ (x : Option ℕ). unwrap_or x 0) is ∙ by (out_at b.limits.store b.journal q)
  where
    by : (o : Option Outgoing) → unwrap_or (option_map (λ (out : Outgoing). length (stored out)) o) 0 ≡ count_in o
    by None = refl
    by (Some out) = refl

-- for those of the numbers that aren't ahead, nothing is stored
abbrev pub NoneBut : Broker → (after high : ℕ) → List ℕ → Type 0
NoneBut b after high ahead = (q : ℕ) → after < q → q ≤ high → has q ahead ≡ false → stored_for b q ≡ 0

pub none_before : (b : Broker) (numbers : List ℕ) (seen after place : ℕ) → IsOpen b numbers seen →
    ((q : ℕ) → after < q → has q (drop place numbers) ≡ false → has q numbers ≡ false) →
    NoneBut b after seen (drop place numbers)
none_before b numbers seen after place o passed q above upto none =
    done_none b q (o.others q (omega arith) upto (passed q above none))

pub rise_next : (xs : List ℕ) (place after high : ℕ) → place < length xs → Rise after (drop place xs) high →
    Rise after (drop (place + 1) xs) high
rise_next xs place after high within r =
    let now = subst (λ (l : List ℕ). Rise after l high) (drop_more xs place 0 within) r in
    rise_low (get_or xs place 0) after (drop (place + 1) xs) high (omega (arith, now.0)) now.2

pub none_next : (b : Broker) (xs : List ℕ) (place after high x : ℕ) → place < length xs → x ≡ get_or xs place x →
    stored_for b x ≡ 0 → NoneBut b after high (drop place xs) → NoneBut b after high (drop (place + 1) xs)
none_next b xs place after high x within read nothing h q above upto none =
    ⊎_elim (λ (e : x ≡ q). subst (λ (n : ℕ). stored_for b n ≡ 0) e nothing)
    (λ (other : x ≡ q → ⊥).
    h q above upto
    (ap (has q) (drop_more xs place x within)
    ∙ none_first (get_or xs place x) (drop (place + 1) xs) q (λ e. other (read ∙ e)) none))
    (cases_eq x q)

pub ready_here : (b : Broker) (xs : List ℕ) (place after high x : ℕ) → place < length xs → x ≡ get_or xs place x →
    0 < stored_for b x → Rise after (drop place xs) high → NoneBut b after high (drop place xs) →
    IsReady b after high x
ready_here b xs place after high x within read some r h =
    let ahead : drop place xs ≡ x ∷ drop (place + 1) xs =
    drop_more xs place x within ∙ ap (λ (n : ℕ). n ∷ drop (place + 1) xs) (sym read) in
    let now = subst (λ (l : List ℕ). Rise after l high) ahead r in
    inr (
      now.0,
      now.1,
      some,
      λ q above below. h q above (omega (arith, now.1))
          (ap (has q) ahead
          ∙ none_first x (drop (place + 1) xs) q (λ e. absurd (omega arith))
          (none_below x (drop (place + 1) xs) high q now.2 (omega arith))),
    )

none_past : (q : ℕ) (xs : List ℕ) (place : ℕ) → length xs ≤ place → has q (drop place xs) ≡ false
none_past q [] zero past = refl
none_past q [] (suc place) past = refl
none_past q (x ∷ xs) zero past = absurd (omega arith)
none_past q (x ∷ xs) (suc place) past = none_past q xs place (omega arith)

pub ready_none : (b : Broker) (xs : List ℕ) (place after high : ℕ) → length xs ≤ place →
    NoneBut b after high (drop place xs) → IsReady b after high 0
ready_none b xs place after high past h = inl (refl, λ q above upto. h q above upto (none_past q xs place past))

-- who has something stored joined

joined_at : (b : Broker) (q : ℕ) (o : Option Joined) → peer_at (past_of b.journal) q ≡ o →
    0 < count_in (option_map (λ (peer : Joined). out_for b.limits.store b.journal peer.label) o) →
    q ≤ length (past_of b.journal).joined
joined_at b q None e some = absurd (omega arith)
joined_at b zero (Some peer) e some = omega arith
joined_at b (suc q) (Some peer) e some =
    let within : q < length (past_of b.journal).joined = slice_get_within (past_of b.journal).joined q peer e in
    omega arith

-- the first of those that are noted is the first of all

pub ready_noted : (b : Broker) (after seen result : ℕ) → IsReady b after seen result → 0 < result →
    IsReady b after (length (past_of b.journal).joined) result
ready_noted b after seen result (inl none) some =
    let zero : result ≡ 0 = none.0 in absurd (omega arith)
ready_noted b after seen result (inr found) some =
    inr (found.0, joined_at b result (peer_at (past_of b.journal) result) refl found.2, found.2, found.3)

nothing_noted : (b : Broker) (after seen result : ℕ) → IsReady b after seen result → result ≤ 0 →
    NothingFor b after seen
nothing_noted b after seen result (inl none) z = none.1
nothing_noted b after seen result (inr found) z =
    let above : after < result = found.0 in absurd (omega arith)

pub ready_rest : (b : Broker) (after seen noted from count result : ℕ) → IsReady b after seen noted → noted ≤ 0 →
    after ≤ from → ((q : ℕ) → after < q → q ≤ from → q ≤ seen) → IsReady b from count result →
    IsReady b after count result
ready_rest b after seen noted from count result r z up upto (inl none) =
    inl (
      none.0,
      λ q above within.
          ⊎_elim (λ (l : from < q). none.1 q l within)
          (λ (g : q ≤ from). nothing_noted b after seen noted r z q above (upto q above g)) (cases_lt from q),
    )
ready_rest b after seen noted from count result r z up upto (inr found) =
    inr (
      omega (arith, found.0),
      found.1,
      found.2,
      λ q above below.
          ⊎_elim (λ (l : from < q). found.3 q l below)
          (λ (g : q ≤ from). nothing_noted b after seen noted r z q above (upto q above g)) (cases_lt from q),
    )
