-- What follows where `audit` says yes.
use Rattle.std.specs.Prelude.{◌≡◌, ℕ, List, [], ◌∷◌, codes, Some}
use Rattle.relay_model.specs.declared.role.Role.TheVariants.{App}
use Rattle.broker_model.specs.Ids.{Joined}
use Rattle.audit_run.specs.declared.audit_line.AuditLine.{AuditLine}
use Rattle.audit_run.specs.Judged.{journal_of, peer_of, sent}
use Rattle.audit_run.specs.Standing.{AreFair}
use Rattle.program_run.specs.declared.status.Status.TheVariants as status
use Rattle.program_run.specs.Audit.{counted}
use Rattle.program_run.specs.Endings.{yes_line}
use Rattle.program_run.specs.Run.{output_of, status_of}
use Rattle.law_audit.specs.Lines.{audit_log}
use Rattle.law_audit.specs.SeenOwed.{IsOwed}

-- Each of these lines is as it should be, what is written is how many dones they have, and what was
-- sent to each application is what it is owed.
pub record IsYes (lines : List AuditLine) (output : List ℕ) : Type 0 where
  pub fair : AreFair lines
  pub output_is : output ≡ yes_line (counted lines)
  pub owed : (q : ℕ) (peer : Joined) → peer_of lines q ≡ Some peer → peer.role ≡ App →
      IsOwed (journal_of lines) (sent lines q) peer.label

-- so it is where the status of `audit` is Ok
abbrev pub YesIsOwed : Type 0
YesIsOwed =
    (input : List ℕ) → status_of (codes "audit" ∷ []) input ≡ status.Ok →
    IsYes (audit_log input) (output_of (codes "audit" ∷ []) input)
