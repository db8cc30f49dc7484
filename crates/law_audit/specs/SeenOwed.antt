-- What was sent to an application is a front of what it is owed.
use Rattle.std.specs.Prelude.{◌≡◌, ℕ, ◌^◌, ◌<◌, ◌≤◌, List, ◌++◌, length, take, drop, Some}
use Rattle.broker_steps.specs.Ranges.{store_limit}
use Rattle.relay_model.specs.declared.role.Role.TheVariants.{App}
use Rattle.relay_model.specs.declared.said.Said.{Said}
use Rattle.broker_model.specs.declared.journal.Entry.{Entry}
use Rattle.broker_model.specs.Ids.{Joined}
use Rattle.broker_model.specs.Queued.{queued}
use Rattle.audit_fields.specs.Heard.{Heard, heard, dones}
use Rattle.broker_telling.specs.Sayable.{AreHeld}
use Rattle.audit_run.specs.declared.audit_line.AuditLine.{AuditLine}
use Rattle.audit_run.specs.Judged.{journal_of, peer_of, sent}
use Rattle.audit_run.specs.Standing.{AreFair}
use Rattle.law_audit.specs.FieldGroups.{FieldGroup, groups_put, groups_heard, of_field}
use Rattle.law_audit.specs.OwedGroups.{IsFieldOf}

-- The bytes say the first of these groups, each with the done at its end, as many as the bytes have
-- dones, and then a part of those behind them.
pub record EndsGroups (bytes : List ℕ) (groups : List FieldGroup) : Type 0 where
  pub enough : dones bytes ≤ length groups
  pub part : List Heard
  pub whole : heard bytes ≡ groups_heard (take (dones bytes) groups) ++ part
  pub rest : List Heard
  pub next : groups_heard (drop (dones bytes) groups) ≡ part ++ rest

-- of the peer with the label p, those of each field are the first that were queued for it
pub record AreFirst (groups : List (List Said)) (all : List (List Said)) : Type 0 where
  pub later : List (List Said)
  pub are : all ≡ groups ++ later

abbrev pub AreFirstOfFields : List Entry → (p : ℕ) → List FieldGroup → Type 0
AreFirstOfFields journal p groups =
    (f : ℕ) → IsFieldOf journal p f →
    AreFirst (of_field f groups) (queued store_limit journal f)

-- what was sent to an application ends, at each done, a whole group that was queued for a field
pub record IsOwed (journal : List Entry) (bytes : List ℕ) (p : ℕ) : Type 0 where
  pub ends : EndsGroups bytes (groups_put store_limit journal p)
  pub first : AreFirstOfFields journal p (take (dones bytes) (groups_put store_limit journal p))

-- where each line is as it should be, so is all that was sent to an application since it joined
abbrev pub SeenIsOwed : Type 0
SeenIsOwed =
    (lines : List AuditLine) (q : ℕ) (peer : Joined) → AreFair lines →
    AreHeld (journal_of lines) → length (journal_of lines) < 2 ^ 32 →
    peer_of lines q ≡ Some peer → peer.role ≡ App →
    IsOwed (journal_of lines) (sent lines q) peer.label
