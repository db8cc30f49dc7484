use Rattle.std.proofs.Common.{◌≡◌, ap, sym, ◌∙◌}
use Rattle.field_state.specs.Hold.{holds_after}
use Rattle.relay_objects.specs.Objects.{find, field_in}
use Rattle.relay_core.specs.Machine.{State, taken_in, displaced_by, state_of, text_around}
use Rattle.relay_core.proofs.FoundAfterCommit.{text_committed}
use Rattle.relay_core.proofs.machine.Machine.commit.Goals as goal

pub hold-requires : goal.hold-requires
hold-requires g c = λ e.
    let same : c.taken-taken.result ≡ taken_in (field_in (find c.args.self.now.objects.items c.args.field)) =
    c.taken-taken.ensures in
    ap (λ spare. spare.text) c.commit_field.ensures.spare ∙ c.requires ∙
    text_committed c.args.field (displaced_by c.taken-taken.result c.args.self.now.holder) c.args.self.now.objects.items
    (sym (ap holds_after same) ∙ e) ∙
    ap (λ (s : State). text_around (state_of s c.args.field).surrounding) (sym c.commit_field.ensures.state)
