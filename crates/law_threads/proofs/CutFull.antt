-- Where the journal was full for a step, a front of it is at its limit
use Rattle.std.proofs.Common.{◌≡◌, ◌+◌, ◌≤◌, ◌<◌, Bool, true, false, List, Some, None, refl, sym, subst, ◌∙◌, inl, inr, arith}
use Rattle.std.specs.Prelude.{◌⊎◌, ◌&&◌, ◌||◌, not, nat_le, nat_lt, if◌then◌else◌}
use Rattle.std.proofs.lemmas.Bool.{leb-true, ltb-true}
use Rattle.broker_steps.specs.declared.limits.Limits.{Limits}
use Rattle.broker_model.specs.declared.journal.Entry.{Entry}
use Rattle.broker_model.specs.declared.journal.Kept.{Kept}
use Rattle.broker_model.specs.Limits.{is_end, number_counted, weight_of, weight}
use Rattle.broker_core.specs.Broker.{kept_in, full_in}
use Rattle.hub_lock.specs.Passes.{HubId}
use Rattle.hub_calls.specs.Made.{journal_of}
use Rattle.law_threads.specs.Told.{IsFullFront, CutsAreFull}
use Rattle.law_threads.proofs.JournalSeen.{newer_front}

abbrev IsAtLimit : Limits → Kept → Type 0
IsAtLimit limits kept = (limits.entries ≤ kept.entries) ⊎ (limits.weight < kept.weight + 4104)

-- what is answered of a journal that is full for an entry that is as light as any may be
at_limit : (limits : Limits) (journal : List Entry) (e : Entry) (kept : Kept) → full_in limits journal e ≡ Some kept →
    weight_of e ≤ 4104 → (kept ≡ kept_in journal) × IsAtLimit limits kept
at_limit limits journal e kept full few =
    by (not (is_end e)) (nat_le limits.entries (number_counted journal))
    (nat_lt limits.weight (weight journal + weight_of e)) refl refl full
  where
    told : Some (kept_in journal) ≡ Some kept → IsAtLimit limits (kept_in journal) →
        (kept ≡ kept_in journal) × IsAtLimit limits kept
    told e k = let same : kept_in journal ≡ kept = cc in (sym same, subst (IsAtLimit limits) same k)

    by : (a b c : Bool) → nat_le limits.entries (number_counted journal) ≡ b →
        nat_lt limits.weight (weight journal + weight_of e) ≡ c →
        (if a && (b || c) then Some (kept_in journal) else None) ≡ Some kept →
        (kept ≡ kept_in journal) × IsAtLimit limits kept
    by true true c l w f = told f (inl (leb-true limits.entries (number_counted journal) l))
    by true false true l w f =
        let more = ltb-true limits.weight (weight journal + weight_of e) w in
        told f (inr (omega (arith, more, few)))
    by true false false l w f = absurd (cc)
    by false b c l w f = absurd (cc)

pub cuts_are_full : CutsAreFull
cuts_are_full bytes kept t c =
    let w = c.trial in
    let hub : HubId = w.hub in
    let f = c.full in
    let k = at_limit hub.limits (journal_of hub.limits f.front) f.entry kept f.full f.light in
    let n = newer_front hub.limits w.h f.front f.more f.is in
    subst (λ (l : Limits). IsFullFront l t.session.journal.entries kept) w.limits
    (record {
      newer = n.0;
      seen = journal_of hub.limits f.front;
      is = w.session.journal ∙ n.1;
      holds = k.0;
      full = k.1;
    })
