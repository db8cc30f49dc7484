-- When steps are refused, as it is tested.
use Rattle.std.proofs.Common.{◌≡◌, ℕ, ◌<◌, ◌≤◌, List, length, Bool, true, false, Option, Some, None, ap, refl, sym, ◌∙◌, arith, ◌⊎◌, inl, inr}
use Rattle.std.specs.Prelude.{◌==◌, nat_le, if◌then◌else◌, option_map}
use Rattle.std.proofs.lemmas.Bool.{le-leb, lt-leb, leb-false, ne_eqb}
use Rattle.std.proofs.lemmas.List.{length-map}
use Rattle.std.proofs.lemmas.Option.{same_Some}
use Rattle.relay_model.specs.declared.role.Role.{Role}
use Rattle.broker_steps.specs.declared.limits.Limits.{Limits}
use Rattle.broker_steps.specs.declared.step.Step.{Step}
use Rattle.broker_steps.specs.declared.step.Step.TheVariants as steps
use Rattle.broker_steps.specs.declared.step.ShellStep.{ShellStep}
use Rattle.broker_model.specs.declared.journal.Entry.{Entry}
use Rattle.broker_model.specs.declared.journal.Entry.TheVariants as entries
use Rattle.broker_model.specs.declared.journal.Kept.{Kept}
use Rattle.broker_model.specs.Out.{Outgoing, stored}
use Rattle.broker_model.specs.Limits.{is_end, weight_of}
use Rattle.broker_model.specs.Settle.{number_alive}
use Rattle.broker_core.specs.declared.answers.JoinRefusal.{JoinRefusal}
use Rattle.broker_core.specs.declared.answers.JoinRefusal.TheVariants as join
use Rattle.broker_core.specs.declared.answers.Refused.{Refused}
use Rattle.broker_core.specs.declared.answers.Took.{Took}
use Rattle.broker_core.specs.declared.answers.Took.TheVariants as took
use Rattle.broker_core.specs.declared.state.State.{State}
use Rattle.broker_audience.specs.Lives.{who}
use Rattle.broker_core.specs.Stands.{Stands, end_of}
use Rattle.broker_core.specs.Taking.{out_at}
use Rattle.broker_core.specs.Broker.{Broker, full_for, refusal_if_full, refusal, join_refusal, nothing_left, take_refusal_from, take_refusal}
use Rattle.broker_core.proofs.RosterAfterEntry.{roster_count}
use Rattle.broker_core.proofs.SharedAfterStep.{shown}

-- as many live states as peers are alive
pub alive_count : (s : State) → Stands s → length s.audience.live.items ≡ number_alive s.journal.entries
alive_count s v = sym (length-map s.audience.live.items who) ∙ ap length v.who ∙ roster_count s.journal.entries

-- a join

abbrev if_many : Broker → Role → Bool → Option JoinRefusal
if_many b role t =
    (if t then Some (join.TooManyPeers 64)
    else option_map (λ kept. join.JournalFull kept) (full_for b (entries.Join role)))

too_many : (b : Broker) (role : Role) → 64 ≤ number_alive b.journal → join_refusal b role ≡ Some (join.TooManyPeers 64)
too_many b role h = ap (if_many b role) (le-leb 64 (number_alive b.journal) h)

not_many : (b : Broker) (role : Role) → number_alive b.journal < 64 →
    join_refusal b role ≡ option_map (λ kept. join.JournalFull kept) (full_for b (entries.Join role))
not_many b role h = ap (if_many b role) (lt-leb 64 (number_alive b.journal) h)

-- what was found of the journal, where fewer are alive
pub join_found : (limits : Limits) (s : State) (b : Broker) (role : Role) (o : Option Kept) → shown limits s ≡ b →
    Stands s → length s.audience.live.items < 64 →
    ((e : Entry) → is_end e ≡ false → weight_of e ≡ 16 → o ≡ full_for b e) →
    join_refusal b role ≡ option_map (λ kept. join.JournalFull kept) o
join_found limits s b role o v t few f =
    let alive = alive_count s t in
    ap (λ (x : Broker). join_refusal x role) (sym v) ∙ not_many (shown limits s) role (omega arith)
    ∙ ap (λ (x : Broker). option_map (λ (kept : Kept). join.JournalFull kept) (full_for x (entries.Join role))) v
    ∙ ap (option_map (λ (kept : Kept). join.JournalFull kept)) (sym (f (entries.Join role) refl refl))

pub join_many : (limits : Limits) (s : State) (b : Broker) (role : Role) → shown limits s ≡ b → Stands s →
    64 ≤ length s.audience.live.items →
    Some (join.TooManyPeers 64) ≡ join_refusal b role
join_many limits s b role v t many =
    let alive = alive_count s t in
    sym (too_many (shown limits s) role (omega arith)) ∙ ap (λ (x : Broker). join_refusal x role) v

-- a step that is no peer's

pub other_refusal : (b : Broker) (step : Step) (o : Option Refused) →
    ((e : Entry) → is_end e ≡ false → weight_of e ≡ 16 → o ≡ refusal_if_full b e) →
    ((role : Role) × (step ≡ steps.Join role))
    ⊎ (((said : ShellStep) × (step ≡ steps.Shell said)) ⊎ ((q : ℕ) × (n : ℕ) × (step ≡ steps.Take q n))) →
    o ≡ refusal b step
other_refusal b step o f (inl j) = f (entries.Join j.0) refl refl ∙ ap (refusal b) (sym j.1)
other_refusal b step o f (inr (inl s)) = f (entries.Shell s.0) refl refl ∙ ap (refusal b) (sym s.1)
other_refusal b step o f (inr (inr t)) = f (entries.Took t.0 t.1) refl refl ∙ ap (refusal b) (sym t.2)

-- a take

abbrev if_nothing : Broker → ℕ → Bool → Option Took
if_nothing b q t =
    (if t then Some (nothing_left (end_of b.journal q))
    else option_map (λ kept. took.JournalFull kept) (full_for b (entries.Took q 0)))

some_out : (o : Option Outgoing) (n : ℕ) → Some n ≡ option_map (λ out. length (stored out)) o →
    (out : Outgoing) × (o ≡ Some out) × (length (stored out) ≡ n)
some_out None n h = cc
some_out (Some out) n h = (out, refl, sym (same_Some n (length (stored out)) h))

something : (b : Broker) (q n : ℕ) →
    Some n ≡ option_map (λ (out : Outgoing). length (stored out)) (out_at b.limits.store b.journal q) → (n ≡ 0 → ⊥) →
    take_refusal b q ≡ option_map (λ kept. took.JournalFull kept) (full_for b (entries.Took q 0))
something b q n h d =
    let o = some_out (out_at b.limits.store b.journal q) n h in
    ap (take_refusal_from b q) o.1 ∙ ap (if_nothing b q) (ne_eqb (length (stored o.0)) 0 (λ z. d (sym o.2 ∙ z)))

-- what was found of the journal, where something is stored
pub take_found : (limits : Limits) (s : State) (b : Broker) (q n : ℕ) (r : Option ℕ) (o : Option Kept) →
    shown limits s ≡ b → s.capacity ≡ limits.store →
    r ≡ option_map (λ (out : Outgoing). length (stored out)) (out_at s.capacity s.journal.entries q) → r ≡ Some n →
    (n ≡ 0 → ⊥) →
    ((e : Entry) → is_end e ≡ false → weight_of e ≡ 16 → o ≡ full_for b e) →
    take_refusal b q ≡ option_map (λ kept. took.JournalFull kept) o
take_found limits s b q n r o v c h e d f =
    let of : List Entry → ℕ → Option ℕ =
    λ journal store. option_map (λ (out : Outgoing). length (stored out)) (out_at store journal q) in
    something b q n (sym e ∙ h ∙ ap (of s.journal.entries) c ∙ ap (λ (x : Broker). of x.journal x.limits.store) v) d
    ∙ ap (option_map (λ (kept : Kept). took.JournalFull kept)) (sym (f (entries.Took q 0) refl refl))

-- there is place for a take that isn't refused

none_mapped : (o : Option Kept) → option_map (λ kept. took.JournalFull kept) o ≡ None → o ≡ None
none_mapped None h = refl
none_mapped (Some kept) h = cc

place_by : (b : Broker) (q : ℕ) (t : Bool) → if_nothing b q t ≡ None → full_for b (entries.Took q 0) ≡ None
place_by b q true h = cc
place_by b q false h = none_mapped (full_for b (entries.Took q 0)) h

place_from : (b : Broker) (q : ℕ) (o : Option Outgoing) → take_refusal_from b q o ≡ None →
    full_for b (entries.Took q 0) ≡ None
place_from b q None h = cc
place_from b q (Some out) h = place_by b q (length (stored out) == 0) h

pub take_place : (b : Broker) (q : ℕ) → take_refusal b q ≡ None → full_for b (entries.Took q 0) ≡ None
take_place b q h = place_from b q (out_at b.limits.store b.journal q) h

-- and for a join

none_joined : (o : Option Kept) → option_map (λ kept. join.JournalFull kept) o ≡ None → o ≡ None
none_joined None h = refl
none_joined (Some kept) h = cc

join_by : (b : Broker) (role : Role) (t : Bool) → nat_le 64 (number_alive b.journal) ≡ t → if_many b role t ≡ None →
    (number_alive b.journal < 64) × (full_for b (entries.Join role) ≡ None)
join_by b role true e h = cc
join_by b role false e h = (leb-false 64 (number_alive b.journal) e, none_joined (full_for b (entries.Join role)) h)

pub join_place : (b : Broker) (role : Role) → join_refusal b role ≡ None →
    (number_alive b.journal < 64) × (full_for b (entries.Join role) ≡ None)
join_place b role h = join_by b role (nat_le 64 (number_alive b.journal)) refl h
