-- A session's steps and bytes are the root's, where no pass is out
use Rattle.std.proofs.Common.{◌≡◌, List, ◌∷◌, length, Result, Ok, Err, IfOk, ap, sym, ◌∙◌}
use Rattle.broker_steps.specs.declared.limits.Limits.{Limits}
use Rattle.broker_model.specs.declared.journal.Entry.{Entry}
use Rattle.broker_model.specs.Settle.{outer}
use Rattle.hub_lock.specs.declared.session.Session.{Session}
use Rattle.hub_lock.specs.declared.session.NoSession.{NoSession}
use Rattle.hub_lock.specs.Histories.{History, broker_of, taken_in}
use Rattle.hub_lock.specs.Passes.{PassSeat, total_steps, total_bytes}
use Rattle.hub_lock.specs.Seats.{IsTallied}
use Rattle.hub_lock.specs.Calls.{LegalCopy}
use Rattle.hub_lock.proofs.JournalOfSteps.{length-entries, outer-journal, taken-journal, taken-all}

pub session-steps : (limits : Limits) (seat seat' : PassSeat) (r : Result Session NoSession) →
    LegalCopy limits seat seat'.seen r → IsTallied seat' → seat'.out ≡ 0
    → IfOk r (λ s. length (outer s.journal.entries) ≡ total_steps seat')
session-steps limits seat seat' (Err e) k t none = tt
session-steps limits seat seat' (Ok s) k t none =
    ap (λ (j : List Entry). length (outer j))
    (k.answer.copied.journal ∙ ap (λ (h : History). (broker_of limits h).journal) (sym k.answer.same))
    ∙ ap length (outer-journal limits seat'.seen k.lawful_after) ∙ length-entries seat'.seen ∙ sym (t.all none)

pub session-bytes : (limits : Limits) (seat seat' : PassSeat) (r : Result Session NoSession) →
    LegalCopy limits seat seat'.seen r → IsTallied seat' → seat'.out ≡ 0
    → IfOk r (λ s. taken_in s.journal.entries ≡ total_bytes seat')
session-bytes limits seat seat' (Err e) k t none = tt
session-bytes limits seat seat' (Ok s) k t none =
    ap taken_in (k.answer.copied.journal ∙ ap (λ (h : History). (broker_of limits h).journal) (sym k.answer.same))
    ∙ taken-journal limits seat'.seen ∙ sym (taken-all (0 ∷ seat'.taken) seat'.seen (t.apart, t.once) (t.all none))
