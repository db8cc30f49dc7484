use Rattle.std.proofs.Common.{◌∙◌, ap, sym, refl}
use Rattle.trial_field.specs.Log.{entry_of}
use Rattle.client_side.specs.Happenings.{edited}
use Rattle.client_side.specs.FieldLog.{changes}
use Rattle.client_side.specs.FieldState.{happens}
use Rattle.client_side.specs.Working.{Working}
use Rattle.client_side.proofs.EditSends.{edit_is_sent, edit_is_not_sent, none_entered, none_changed}
use Rattle.client_side.proofs.field_state.FieldState.edit.Goals as goal
use Rattle.client_side.proofs.field_state.FieldState.edit.Goals.{else-changes-via-then-changes+else-self, else-changes-via-else-changes}

pub returns-then-self-clause-state : goal.returns-then-self-clause-state
returns-then-self-clause-state c =
    let g = c.self.inside in
    edit_is_sent (entry_of c.args.edit.now) g.field _ g.is_entered g.commits _ _ g.out.bytes _
    c.if-self.true (sym c.if-changes.ensures.answer) c.change-changes.ensures.text refl c.put_change.ensures.bytes
    ∙ ap (λ (w : Working). happens (edited (entry_of c.args.edit.now)) w.state) c.self.view_is

pub returns-else-changes-clause-state : goal.returns-else-changes-clause-state
returns-else-changes-clause-state c =
    let e = entry_of c.args.edit.now in
    let g = c.self.inside in
    let seen = ap (λ (w : Working). happens (edited e) w.state) c.self.view_is in
    elim c.else-changes.branch [
      | else-changes-via-then-changes+else-self w ↦
          ap (λ (x : Working). x.state) w.self-is
          ∙ edit_is_not_sent e g.field _ g.is_entered g.commits _ g.out.bytes
          (none_entered g.is_entered (changes e g.field) w.if-self.false)
          c.change-changes.ensures.text ∙ seen
      | else-changes-via-else-changes w ↦
          ap (λ (x : Working). x.state) w.self-is
          ∙ edit_is_not_sent e g.field _ g.is_entered g.commits _ g.out.bytes
          (none_changed g.is_entered (changes e g.field) (sym c.change-changes.ensures.answer ∙ w.if-changes.false))
          c.change-changes.ensures.text ∙ seen
    ]
