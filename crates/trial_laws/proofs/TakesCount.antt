-- How many entries a trial has that aren't ends of peers: each take adds one, and none is taken back.
use Rattle.std.proofs.Common.{◌≡◌, ℕ, suc, ◌+◌, ◌≤◌, ◌<◌, Bool, true, false, not, cond, List, ◌∷◌, length, refl, sym, ap, subst, ◌∙◌, arith, inl, inr, ◌⊎◌}
use Rattle.std.specs.Prelude.{if◌then◌else◌, ◌&&◌, ◌||◌, nat_le, nat_lt}
use Rattle.std.proofs.lemmas.Bool.{leb-false}
use Rattle.broker_model.specs.declared.journal.Entry.{Entry}
use Rattle.broker_model.specs.declared.journal.Entry.TheVariants as entries
use Rattle.broker_model.specs.Limits.{is_end, is_counted, number_counted, weight, weight_of, is_full}
use Rattle.broker_model.specs.Stamps.{no_stamp}
use Rattle.broker_core.specs.Broker.{Broker, with_step}
use Rattle.broker_core.proofs.AliveAfterEntry.{counted_cons, same_settled}
use Rattle.trial_run.specs.declared.whose.Whose.{Whose}
use Rattle.trial_run.specs.declared.whose.Whose.TheVariants as whose
use Rattle.trial_run.specs.Ran.{Ran, went, halted, ◌>>=◌}
use Rattle.trial_run.specs.Steps.{stepped, has_stored, next_bytes}
use Rattle.trial_run.specs.Play.{TrialPlay, number_of, hears}
use Rattle.trial_run.specs.Rounds.{with_broker, sends, took, one_take, takes}
use Rattle.trial_laws.proofs.PhasesKeep.{IsOuter, IsPlayed, of_broker, sends_keep, takes_keep}
use Rattle.broker_core.proofs.ActTextsFit.{IsBodyShort}

abbrev pub counted : TrialPlay → ℕ
counted t = number_counted t.broker.journal

-- ---- what comes after what went

pub record IsBoth {S : Type 0} (r : Ran S) (next : S → Ran S) (s : S) : Type 0 where
  pub mid : S
  pub first : r ≡ went mid
  pub second : next mid ≡ went s

pub both_went : {S : Type 0} (r : Ran S) (next : S → Ran S) (s : S) → (r >>= next) ≡ went s → IsBoth r next s
both_went {S} r next s e = by r.is_full refl e
  where
    by : (full : Bool) → r.is_full ≡ full → (if full then r else next r.now) ≡ went s → IsBoth r next s
    by true f h = absurd (let no : true ≡ false = sym f ∙ ap (λ (x : Ran S). x.is_full) h in cc)
    by false f h = record {
      mid = r.now;
      first = ap (λ (b : Bool). let x : Ran S = record { now = r.now; is_full = b } in x) f;
      second = h;
    }

pub same_went : {S : Type 0} (a b : S) → went a ≡ went b → a ≡ b
same_went {S} a b e = ap (λ (x : Ran S). x.now) e

-- ---- one step

step_counts : (e : Entry) (b : Broker) →
    number_counted (with_step e no_stamp b).journal ≡ cond (is_counted e) 1 0 + number_counted b.journal
step_counts e b = (same_settled b.limits.store (e ∷ b.journal)).counted ∙ counted_cons e b.journal

-- never fewer
pub at_least : (n : ℕ) → IsPlayed (λ t. n ≤ counted t)
at_least n = of_broker (λ b. n ≤ number_counted b.journal) step
  where
    by : (c : Bool) (x : ℕ) → n ≤ x → n ≤ cond c 1 0 + x
    by true x h = omega arith
    by false x h = omega arith

    step : (e : Entry) (b : Broker) → IsOuter e → IsBodyShort e → is_full b.limits b.journal e ≡ false →
        n ≤ number_counted b.journal → n ≤ number_counted (with_step e no_stamp b).journal
    step e b o s f h =
        subst (λ x. n ≤ x) (sym (step_counts e b)) (by (is_counted e) (number_counted b.journal) h)

fewer : (most n : ℕ) (many heavy : Bool) → nat_le most n ≡ many → (many || heavy) ≡ false → n < most
fewer most n true heavy e f = cc
fewer most n false heavy e f = leb-false most n e

bounded : (end : Bool) (most n : ℕ) (heavy : Bool) → (not end && (nat_le most n || heavy)) ≡ false → n ≤ most →
    cond (not end) 1 0 + n ≤ most
bounded true most n heavy f h = omega arith
bounded false most n heavy f h = (let few = fewer most n (nat_le most n) heavy refl f in omega arith)

abbrev pub IsWithin : ℕ → Broker → Type 0
IsWithin limit b = (b.limits.entries ≡ limit) × (number_counted b.journal ≤ limit)

within_step : (limit : ℕ) (e : Entry) (b : Broker) → IsOuter e → IsBodyShort e →
    is_full b.limits b.journal e ≡ false → IsWithin limit b → IsWithin limit (with_step e no_stamp b)
within_step limit e b o s f h =
    let heavy : Bool = nat_lt b.limits.weight (weight b.journal + weight_of e) in
    let held = bounded (is_end e) b.limits.entries (number_counted b.journal) heavy f
    (subst (λ l. number_counted b.journal ≤ l) (sym h.0) h.1) in (
      h.0,
      subst (λ x. x ≤ limit) (sym (step_counts e b))
          (subst (λ l. cond (is_counted e) 1 0 + number_counted b.journal ≤ l) h.0 held),
    )

-- never more than the limit
pub within : (limit : ℕ) → IsPlayed (λ t. IsWithin limit t.broker)
within limit = of_broker (IsWithin limit) (within_step limit)

-- ---- takes

took_counts : (who : Whose) (t mid : TrialPlay) → took who t ≡ went mid → counted mid ≡ 1 + counted t
unfolding took stepped
took_counts who t mid e =
    by (is_full t.broker.limits t.broker.journal
    (entries.Took (number_of who) (length (next_bytes (number_of who) t.broker)))) e
  where
    by : (full : Bool) → with_broker t (if full then halted t.broker else went (with_step
        (entries.Took (number_of who) (length (next_bytes (number_of who) t.broker))) no_stamp t.broker)) ≡ went mid →
        counted mid ≡ 1 + counted t
    by true h = absurd (let no : true ≡ false = ap (λ (x : Ran TrialPlay). x.is_full) h in cc)
    by false h =
        ap counted (sym (ap (λ (x : Ran TrialPlay). x.now) h))
        ∙ step_counts (entries.Took (number_of who) (length (next_bytes (number_of who) t.broker))) t.broker

same_broker : (who : Whose) (piece : List ℕ) (t : TrialPlay) → (hears who piece t).broker ≡ t.broker
same_broker whose.Method piece t = refl
same_broker (whose.Field k) piece t = refl

pub one_take_counts : (who : Whose) (t mid : TrialPlay) → one_take who t ≡ went mid → 1 + counted t ≤ counted mid
unfolding one_take
one_take_counts who t mid e =
    let bytes : List ℕ = next_bytes (number_of who) t.broker in
    let both = both_went (took who t) (λ now. sends who (hears who bytes now)) mid e in
    let least : ℕ = 1 + counted t in
    let more : least ≤ counted both.mid = subst (λ x. least ≤ x) (sym (took_counts who t both.mid both.first))
    (omega arith) in
    let same = ap (λ (b : Broker). number_counted b.journal) (same_broker who bytes both.mid) in
    let kept = sends_keep (λ u. least ≤ counted u) (at_least least).seats.phases who (hears who bytes both.mid)
    (subst (λ x. least ≤ x) (sym same) more) in
    subst (λ (r : Ran TrialPlay). least ≤ counted r.now) both.second kept

-- a client takes nothing, where nothing is stored for it, or the trial has more entries
pub takes_move : (n : ℕ) (who : Whose) (t after : TrialPlay) → takes (suc n) who t ≡ went after →
    ((t ≡ after) × (has_stored (number_of who) t.broker ≡ false)) ⊎ (1 + counted t ≤ counted after)
unfolding takes
takes_move n who t after e = by (has_stored (number_of who) t.broker) refl e
  where
    by : (some : Bool) → has_stored (number_of who) t.broker ≡ some →
        (if some then one_take who t >>= takes n who else went t) ≡ went after →
        ((t ≡ after) × (has_stored (number_of who) t.broker ≡ false)) ⊎ (1 + counted t ≤ counted after)
    by true s h =
        let both = both_went (one_take who t) (takes n who) after h in
        let least : ℕ = 1 + counted t in
        let kept = takes_keep (λ u. least ≤ counted u) (at_least least).seats.phases n who both.mid
        (one_take_counts who t both.mid both.first) in
        inr (subst (λ (r : Ran TrialPlay). least ≤ counted r.now) both.second kept)
    by false s h = inl (same_went t after h, s)
