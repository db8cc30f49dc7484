use Rattle.std.proofs.Common.{◌≡◌, ◌≤◌, ◌++◌, List, length, map, filter, take, drop, ap, sym, subst, ◌∙◌, rules, arith}
use Rattle.std.specs.List.{flat_map}
use Rattle.std.proofs.lemmas.Grind.{common_steps}
use Rattle.std.proofs.lemmas.Fn.{filter_same}
use Rattle.relay_model.specs.Idle.{history}
use Rattle.c_relay.specs.declared.popups.KeptPopup.{KeptPopup}
use Rattle.c_relay.specs.Events.{hidden_heard}
use Rattle.c_relay.specs.KeptPopups.{turned, hides}
use Rattle.c_relay.proofs.popups.turn_all.Goals as goal

pub returns-clause-turned : goal.returns-clause-turned
returns-clause-turned c = λ log h.
    let whole : take c.args.kept.now.len
    (c.turn_each.new.popups ++ drop (length c.turn_each.new.popups) c.args.kept.now.items)
    ≡ c.turn_each.new.popups = grind (arith, common_steps) in
    filter_same _ (λ (w : KeptPopup). w.is_alive) _ (λ x b f' k. search rules) _ _ c.retain.ensures.filtered
    ∙ ap (filter (λ (w : KeptPopup). w.is_alive))
    (whole ∙ c.turn_each.ensures.turned log h
    ∙ ap (map (turned (history log) c.args.turn)) c.deref_mut.ensures.value)

pub returns-clause-told : goal.returns-clause-told
returns-clause-told c = λ log h room.
    c.turn_each.ensures.told log h
    (subst (λ (ps : List KeptPopup). length ps ≤ c.args.queue.now.places) (sym c.deref_mut.ensures.value) room)
    ∙ ap (λ (ps : List KeptPopup). c.args.queue.now.heard
    ++ map hidden_heard (flat_map (hides (history log) c.args.turn) ps)) c.deref_mut.ensures.value
