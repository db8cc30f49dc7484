use Rattle.std.proofs.Common.{◌≡◌, ℕ, ◌+◌, List, [], ◌∷◌, ◌++◌, take, sym, ap, ◌∙◌}
use Rattle.std.proofs.lemmas.List.{take_more}
use Rattle.client_side.specs.FieldLog.{text_after, text_of}
use Rattle.trial_client_logs.specs.declared.entry.FieldEntry.{FieldEntry}
use Rattle.trial_client_logs.specs.Logs.{happening_of, field_log}
use Rattle.trial_client_logs.proofs.FieldsWritten.{one_more}
use Rattle.trial_client_logs.proofs.replay.field_of.Goals as goal

pub loop-entry-preserved : goal.loop-entry-preserved
loop-entry-preserved c =
    let items : List FieldEntry = c.as_slice-entry-items.result.now in
    let i : ℕ = c.loop-entry.entry-index in
    let x : FieldEntry = c.entry-item.result in
    let longer : take (i + 1) items ≡ take i items ++ x ∷ [] =
    take_more items i x c.loop-entry-test.true
    ∙ ap (λ (y : FieldEntry). take i items ++ y ∷ []) (sym c.entry-item.is) in
    c.follow.ensures ∙ ap (text_after (happening_of x)) c.loop-entry.invariant
    ∙ ap text_of (sym (one_more (take i items) x))
    ∙ ap (λ (l : List FieldEntry). text_of (field_log l)) (sym longer)
