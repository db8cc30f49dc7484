use Rattle.std.proofs.Common.{◌≡◌, rules, true, not, eqb, filter, sym, ◌∙◌}
use Rattle.std.proofs.lemmas.Fn.{filter_same}
use Rattle.relay_objects.specs.Listed.{is_popup_kind}
use Rattle.relay_objects.proofs.listed.unlist_popup.Goals as goal

pub returns-then-is_popup-clause-items : goal.returns-then-is_popup-clause-items
returns-then-is_popup-clause-items c =
    let left : c.retain.new.self.items
    ≡ filter (λ w. not (eqb w.label c.args.object.now.label)) c.args.popups.now.items =
    filter_same _ _ _ (λ x b f' k. search rules) _ _ c.retain.ensures.filtered in
    let popup : is_popup_kind c.args.object.now.kind ≡ true = sym c.is_popup.ensures ∙ c.if-is_popup.true in
    rw popup left
