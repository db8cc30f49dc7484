-- Each reason is given where its condition holds, and none where the batch is relayed.
use Rattle.std.proofs.Common.{◌≡◌, ℕ, List, [], ◌∷◌, ◌++◌, Bool, true, false, not, Option, Some, None, ap, refl, sym, ◌∙◌, inl, inr}
use Rattle.std.specs.Prelude.{if◌then◌else◌, ◌&&◌, ◌==◌, ◌↔◌, nat_le, nat_lt, is_some, is_none}
use Rattle.std.proofs.lemmas.Bool.{true≢false, le-leb, lt-ltb, le-ltb, lt-leb, cases_lt, eqb-true}
use Rattle.std.proofs.lemmas.List.{append-nil}
use Rattle.relay_model.specs.declared.act.Act.{Act}
use Rattle.relay_model.specs.declared.said.Said.{Said}
use Rattle.relay_model.specs.Objects.{is_at}
use Rattle.relay_model.specs.Hold.{holder}
use Rattle.relay_model.specs.Activation.{serving, begun, named, is_from}
use Rattle.relay_model.specs.Batch.{batch, group, commit_count, relayed}
use Rattle.relay_model.specs.Idle.{history}
use Rattle.relay_reasons.specs.declared.fate.Reason.{Reason}
use Rattle.relay_reasons.specs.declared.fate.Reason.TheVariants.{NotServing, NoActivation, NamesNoDone, EarlierActivation}
use Rattle.relay_reasons.specs.declared.fate.BatchFate.{BatchFate}
use Rattle.relay_reasons.specs.declared.fate.BatchFate.TheVariants.{Relayed, Unrelayed}
use Rattle.relay_reasons.specs.Fate.{serving_fate, began_after, reason_holds}
use Rattle.relay_reasons.specs.Laws.{ReasonsHold, RelayedFresh, BatchesRelayed, added}
use Rattle.relay_reasons.proofs.ActivationHeld.{activation_law}

-- what a batch comes to, by whether its method serves, the activation, the holder, and the done that is named
abbrev fate_at : List Act → Bool → Option ℕ → Option ℕ → Option ℕ → BatchFate
fate_at log c b held n = (if c then serving_fate log b held n else Unrelayed NotServing)

-- the condition of each reason, by the same
abbrev holds_at : Reason → Bool → Option ℕ → Option ℕ → Bool
holds_at NotServing c b n = not c
holds_at NoActivation c b n = c && is_none b
holds_at NamesNoDone c b n = c && (is_some b && is_none n)
holds_at EarlierActivation c b n = c && began_after b n

condition : (why : Reason) (log : List Act) (m s : ℕ) →
    reason_holds why log m s ≡ holds_at why (is_at (serving log) m) (begun log) (named log m s)
condition NotServing log m s = refl
condition NoActivation log m s = refl
condition NamesNoDone log m s = refl
condition EarlierActivation log m s = refl

-- while the method serves there are an activation and a holder, or none of both
served : (acts : List Act) (m : ℕ) → is_at (serving (history acts)) m ≡ true →
    is_some (begun (history acts)) ≡ is_some (holder (history acts))
served acts m e = activation_law acts (at_some (serving (history acts)) m e)
  where
    at_some : (o : Option ℕ) (m : ℕ) → is_at o m ≡ true → is_some o ≡ true
    at_some None m e = e
    at_some (Some n) m e = refl

-- the done of the present activation, or one before it
judged : (x k : ℕ) → nat_lt k x ≡ not (nat_le x k)
judged x k =
    elim (cases_lt k x) [
      | inl l ↦ rw (lt-ltb k x l, lt-leb x k l) refl
      | inr g ↦ rw (le-ltb k x g, le-leb x k g) refl
    ]

-- each reason is given where its condition holds

not_serving : (log : List Act) (b held n : Option ℕ) (why : Reason) →
    (fate_at log false b held n ≡ Unrelayed why) ↔ (holds_at why false b n ≡ true)
not_serving log b held n NotServing = (λ e. refl, λ e. refl)
not_serving log b held n NoActivation = (λ e. cc, λ e. cc)
not_serving log b held n NamesNoDone = (λ e. cc, λ e. cc)
not_serving log b held n EarlierActivation = (λ e. cc, λ e. cc)

no_activation : (log : List Act) (held n : Option ℕ) (why : Reason) →
    (fate_at log true None held n ≡ Unrelayed why) ↔ (holds_at why true None n ≡ true)
no_activation log held n NotServing = (λ e. cc, λ e. cc)
no_activation log held n NoActivation = (λ e. refl, λ e. refl)
no_activation log held n NamesNoDone = (λ e. cc, λ e. cc)
no_activation log held n EarlierActivation = (λ e. cc, λ e. cc)

names_none : (log : List Act) (x f : ℕ) (why : Reason) →
    (fate_at log true (Some x) (Some f) None ≡ Unrelayed why) ↔ (holds_at why true (Some x) None ≡ true)
names_none log x f NotServing = (λ e. cc, λ e. cc)
names_none log x f NoActivation = (λ e. cc, λ e. cc)
names_none log x f NamesNoDone = (λ e. refl, λ e. refl)
names_none log x f EarlierActivation = (λ e. cc, λ e. cc)

-- the condition where a done is named, by whether it is one of the present activation
abbrev holds_one : Reason → Bool → Bool
holds_one NotServing q = false
holds_one NoActivation q = false
holds_one NamesNoDone q = false
holds_one EarlierActivation q = not q

names_one : (q : Bool) (count f : ℕ) (why : Reason) →
    ((if q then Relayed f count else Unrelayed EarlierActivation) ≡ Unrelayed why)
    ↔ (holds_one why q ≡ true)
names_one true count f NotServing = (λ e. cc, λ e. cc)
names_one true count f NoActivation = (λ e. cc, λ e. cc)
names_one true count f NamesNoDone = (λ e. cc, λ e. cc)
names_one true count f EarlierActivation = (λ e. cc, λ e. cc)
names_one false count f NotServing = (λ e. cc, λ e. cc)
names_one false count f NoActivation = (λ e. cc, λ e. cc)
names_one false count f NamesNoDone = (λ e. cc, λ e. cc)
names_one false count f EarlierActivation = (λ e. refl, λ e. refl)

one : (x k : ℕ) (why : Reason) → holds_at why true (Some x) (Some k) ≡ holds_one why (nat_le x k)
one x k NotServing = refl
one x k NoActivation = refl
one x k NamesNoDone = refl
one x k EarlierActivation = judged x k

reason_at : (log : List Act) (c : Bool) (b held n : Option ℕ) (why : Reason) →
    (c ≡ true → is_some b ≡ is_some held) →
    (fate_at log c b held n ≡ Unrelayed why) ↔ (holds_at why c b n ≡ true)
reason_at log false b held n why k = not_serving log b held n why
reason_at log true None held n why k = no_activation log held n why
reason_at log true (Some x) None n why k = absurd (true≢false (k refl))
reason_at log true (Some x) (Some f) None why k = names_none log x f why
reason_at log true (Some x) (Some f) (Some j) why k =
    rw (one x j why) (names_one (nat_le x j) (commit_count log f) f why)

pub reasons_hold : ReasonsHold
reasons_hold acts m s why =
    let log = history acts in
    rw (condition why log m s)
    (reason_at log (is_at (serving log) m) (begun log) (holder log) (named log m s) why (served acts m))

-- none is given where the batch is fresh

relayed_at : (log : List Act) (c : Bool) (b held n : Option ℕ) (f count : ℕ) →
    (c ≡ true → is_some b ≡ is_some held) →
    (fate_at log c b held n ≡ Relayed f count)
    ↔ ((c && is_from b n) ≡ true) × (held ≡ Some f) × (count ≡ commit_count log f)
relayed_at log false b held n f count k = (λ e. cc, λ e. absurd (true≢false (sym e.0)))
relayed_at log true None held n f count k = (λ e. cc, λ e. absurd (true≢false (sym e.0)))
relayed_at log true (Some x) None n f count k = absurd (true≢false (k refl))
relayed_at log true (Some x) (Some g) None f count k = (λ e. cc, λ e. absurd (true≢false (sym e.0)))
relayed_at log true (Some x) (Some g) (Some j) f count k = at (nat_le x j) log g f count
  where
    at : (q : Bool) (log : List Act) (g f count : ℕ) →
        ((if q then Relayed g (commit_count log g) else Unrelayed EarlierActivation) ≡ Relayed f count)
        ↔ (q ≡ true) × (Some g ≡ Some f) × (count ≡ commit_count log f)
    at true log g f count = (
      λ e. let d : g ≡ f = cc in let n : commit_count log g ≡ count = cc in
          (refl, ap (λ v. Some v) d, sym n ∙ ap (commit_count log) d),
      λ e. let d : g ≡ f = cc in rw d (ap (λ v. Relayed f v) (sym e.2)),
    )
    at false log g f count = (λ e. cc, λ e. absurd (true≢false (sym e.0)))

pub relayed_fresh : RelayedFresh
relayed_fresh acts m s f count =
    let log = history acts in
    let both = relayed_at log (is_at (serving log) m) (begun log) (holder log) (named log m s) f count
    (served acts m) in (
      λ e. let p = both.0 e in record { fresh = p.0; holds = p.1; counts = p.2 },
      λ r. both.1 (r.fresh, r.holds, r.counts),
    )

-- what is relayed grows by the batches that are said to be

grows_at : (log : List Act) (m f : ℕ) (xs : List (List Said)) (c : Bool) (b held n : Option ℕ) →
    (c ≡ true → is_some b ≡ is_some held) →
    (if (c && is_from b n) && is_at held f then xs ++ group (batch log m) (commit_count log f) ∷ [] else xs)
    ≡ xs ++ added (fate_at log c b held n) log m f
grows_at log m f xs false b held n k = sym (append-nil xs)
grows_at log m f xs true None held n k = sym (append-nil xs)
grows_at log m f xs true (Some x) None n k = absurd (true≢false (k refl))
grows_at log m f xs true (Some x) (Some g) None k = sym (append-nil xs)
grows_at log m f xs true (Some x) (Some g) (Some j) k = at (nat_le x j) (g == f) log m g f xs refl
  where
    at : (q e : Bool) (log : List Act) (m g f : ℕ) (xs : List (List Said)) → (g == f) ≡ e →
        (if q && e then xs ++ group (batch log m) (commit_count log f) ∷ [] else xs)
        ≡ xs ++ added (if q then Relayed g (commit_count log g) else Unrelayed EarlierActivation) log m f
    at false e log m g f xs k = sym (append-nil xs)
    at true false log m g f xs k = rw k (sym (append-nil xs))
    at true true log m g f xs k =
        rw k (ap (λ v. xs ++ group (batch log m) (commit_count log v) ∷ []) (sym (eqb-true g f k)))

pub batches_relayed : BatchesRelayed
batches_relayed acts m s f =
    let log = history acts in
    grows_at log m f (relayed log f) (is_at (serving log) m) (begun log) (holder log) (named log m s) (served acts m)
