-- Which outcome is given of a batch, by the laws of what batches come to.
use Rattle.std.proofs.Common.{◌≡◌, ◌↔◌, ℕ, List, Bool, true, false, Some, ap, refl, sym, ◌∙◌}
use Rattle.std.specs.Option.{option_map}
use Rattle.std.proofs.lemmas.Bool.{true≢false}
use Rattle.relay_model.specs.declared.act.Act.{Act}
use Rattle.relay_model.specs.Idle.{history}
use Rattle.relay_reasons.specs.declared.fate.Reason.{Reason}
use Rattle.relay_reasons.specs.declared.fate.BatchFate.{BatchFate}
use Rattle.relay_reasons.specs.declared.fate.BatchFate.TheVariants as fates
use Rattle.relay_reasons.specs.Fate.{fate}
use Rattle.relay_reasons.proofs.FateLaws.{reasons_hold, relayed_fresh}
use Rattle.lines_explained.specs.declared.outcome.Outcome.TheVariants.{Queued, ReachedNobody}
use Rattle.lines_explained.specs.declared.outcome.WhyNobody.TheVariants.{Unrelayed, NoRoom}
use Rattle.lines_explained.specs.Outcome.{outcome_of}
use Rattle.broker_model.specs.declared.journal.Entry.{Entry}
use Rattle.broker_model.specs.Resolve.{resolve}
use Rattle.lines_explained.specs.Explained.{fate_before}
use Rattle.lines_explained.specs.Journals.{was_put, outcome_at}
use Rattle.lines_explained.specs.ReasonLaws.{Commits, ReasonsGiven, QueuedRelayed, NoRoomGiven}

-- by what the batch comes to, and whether a group was put

unrelayed : (x : BatchFate) (b : Bool) (why : Reason) →
    (Some (outcome_of x b) ≡ Some (ReachedNobody (Unrelayed why))) ↔ (x ≡ fates.Unrelayed why)
unrelayed (fates.Relayed f count) true why = (λ e. cc, λ e. cc)
unrelayed (fates.Relayed f count) false why = (λ e. cc, λ e. cc)
unrelayed (fates.Unrelayed other) b why = (λ e. cc, λ e. cc)

queued : (x : BatchFate) (b : Bool) (f count : ℕ) →
    (Some (outcome_of x b) ≡ Some (Queued f count)) ↔ ((x ≡ fates.Relayed f count) × (b ≡ true))
queued (fates.Relayed g other) true f count = (
  λ e. (cc, refl),
  λ e. let same : fates.Relayed g other ≡ fates.Relayed f count = e.0 in cc,
)
queued (fates.Relayed g other) false f count = (λ e. cc, λ e. absurd (true≢false (sym e.1)))
queued (fates.Unrelayed why) b f count = (
  λ e. cc,
  λ e. let same : fates.Unrelayed why ≡ fates.Relayed f count = e.0 in cc,
)

unroomed : (x : BatchFate) (b : Bool) →
    (Some (outcome_of x b) ≡ Some (ReachedNobody NoRoom))
    ↔ ((f : ℕ) × (count : ℕ) × (x ≡ fates.Relayed f count) × (b ≡ false))
unroomed (fates.Relayed f count) true = (λ e. cc, λ e. absurd (true≢false e.3))
unroomed (fates.Relayed f count) false = (λ e. (f, count, refl, refl), λ e. refl)
unroomed (fates.Unrelayed why) b = (
  λ e. cc,
  λ e. let same : fates.Unrelayed why ≡ fates.Relayed e.0 e.1 = e.2 in cc,
)

-- of the newest entry

pub given : (capacity : ℕ) (e : Entry) (older : List Entry) (m serial : ℕ) → Commits e older m serial →
    outcome_at capacity e older
    ≡ Some (outcome_of (fate (history (resolve older)) m serial) (was_put capacity e older))
given capacity e older m serial c =
    ap (λ (a : Act). option_map (λ (f : BatchFate). outcome_of f (was_put capacity e older))
    (fate_before a (resolve older))) c

pub reasons_given : ReasonsGiven
reasons_given capacity e older m serial why c =
    let is = given capacity e older m serial c in
    let by = unrelayed (fate (history (resolve older)) m serial) (was_put capacity e older) why in
    let law = reasons_hold (resolve older) m serial why in (
      λ k. law.0 (by.0 (sym is ∙ k)),
      λ k. is ∙ by.1 (law.1 k),
    )

pub queued_relayed : QueuedRelayed
queued_relayed capacity e older m serial f count c =
    let is = given capacity e older m serial c in
    let by = queued (fate (history (resolve older)) m serial) (was_put capacity e older) f count in
    let law = relayed_fresh (resolve older) m serial f count in (
      λ k. let both = by.0 (sym is ∙ k) in (law.0 both.0, both.1),
      λ k. is ∙ by.1 (law.1 k.0, k.1),
    )

pub no_room_given : NoRoomGiven
no_room_given capacity e older m serial c =
    let is = given capacity e older m serial c in
    let by = unroomed (fate (history (resolve older)) m serial) (was_put capacity e older) in (
      λ k. let found = by.0 (sym is ∙ k) in
          (found.0, found.1, (relayed_fresh (resolve older) m serial found.0 found.1).0 found.2, found.3),
      λ k. is ∙ by.1 (k.0, k.1, (relayed_fresh (resolve older) m serial k.0 k.1).1 k.2, k.3),
    )
