use Rattle.std.proofs.Common.{◌≡◌, false, sym, ap, ◌∙◌}
use Rattle.broker_model.specs.Limits.{ends_in_end}
use Rattle.seat_set.proofs.NobodyEnded.{all_kept}
use Rattle.seat_set.proofs.ending.forget_ended.Goals as goal

pub returns-else-ends_in_end : goal.returns-else-ends_in_end
returns-else-ends_in_end c =
    let quiet : ends_in_end c.args.shared.now.journal ≡ false =
    sym (c.ends_in_end.ensures ∙ ap ends_in_end c.journal.ensures.entries) ∙ c.if-ends_in_end.false in
    sym (all_kept c.args.shared.now.journal c.args.unread.now.items (c.requires quiet))
