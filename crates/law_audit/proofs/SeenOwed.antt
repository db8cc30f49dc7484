-- What was sent to an application ends, at each done, a whole group that was queued for a field.
use Rattle.std.proofs.Common.{ℕ, List, take, drop, sym, ap, ◌∙◌}
use Rattle.std.proofs.lemmas.List.{take-append-drop}
use Rattle.broker_steps.specs.Ranges.{store_limit}
use Rattle.broker_model.specs.declared.journal.Entry.{Entry}
use Rattle.audit_fields.specs.Heard.{heard, dones}
use Rattle.audit_run.specs.Judged.{journal_of, sent}
use Rattle.law_audit.specs.FieldGroups.{FieldGroup, groups_put, of_field}
use Rattle.law_audit.specs.SeenOwed.{AreFirstOfFields, EndsGroups, SeenIsOwed}
use Rattle.law_audit.proofs.DonesEndGroups.{EndsAt, dones_end}
use Rattle.law_audit.proofs.PutGroupsQueued.{field-append, groups_queued, groups_whole}
use Rattle.law_audit.proofs.SentIsFront.{IsFront, sent_is_front}

-- the first so many groups are, field by field, the first that were queued
first_queued : (journal : List Entry) (p k : ℕ) →
    AreFirstOfFields journal p (take k (groups_put store_limit journal p))
first_queued journal p k = λ f own.
    let groups : List FieldGroup = groups_put store_limit journal p in
    record {
      later = of_field f (drop k groups);
      are =
          sym (groups_queued store_limit journal p f own)
          ∙ ap (λ (l : List FieldGroup). of_field f l) (sym (take-append-drop k groups))
          ∙ field-append f (take k groups) (drop k groups);
    }

ends_groups : (bytes : List ℕ) (groups : List FieldGroup) → EndsAt (dones bytes) (heard bytes) groups →
    EndsGroups bytes groups
ends_groups bytes groups at =
    record { enough = at.enough; part = at.part; whole = at.whole; rest = at.rest; next = at.next }

pub seen_owed : SeenIsOwed
seen_owed lines q peer fair held few joined app =
    let all : List ℕ = sent lines q in
    let groups : List FieldGroup = groups_put store_limit (journal_of lines) peer.label in
    let front : IsFront groups all = sent_is_front lines q peer fair held few joined app in
    record {
      ends = ends_groups all groups
          (dones_end groups all front.rest (groups_whole store_limit (journal_of lines) peer.label) front.is);
      first = first_queued (journal_of lines) peer.label (dones all);
    }
