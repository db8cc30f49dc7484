use Rattle.std.proofs.Common.{◌≡◌, ◌≤◌, ◌++◌, ◌∷◌, [], ℕ, List, Bool, Option, length, map, filter, ap, sym, subst, ◌∙◌, append-nil}
use Rattle.std.specs.Prelude.{is_some}
use Rattle.std.specs.List.{flat_map}
use Rattle.relay_model.specs.declared.act.Act.{Act}
use Rattle.relay_model.specs.Hold.{holder}
use Rattle.relay_model.specs.Idle.{history}
use Rattle.relay_core.specs.Kept.{Shown}
use Rattle.c_relay.specs.declared.popups.KeptPopup.{KeptPopup}
use Rattle.c_relay.specs.declared.popups.Turn.{Turn}
use Rattle.c_relay.specs.Events.{Heard, hidden_heard}
use Rattle.c_relay.specs.Hidden.{hidden}
use Rattle.c_relay.specs.KeptPopups.{Tracked, kept_popups, is_holders, turn_of, turned, hides, made_popup, Taken}
use Rattle.c_relay.proofs.ActEntered.{kept_still, hidden_none, kept_moved, hidden_moved}
use Rattle.c_relay.proofs.popups.Popups.enter.Goals as goal

pub returns-then-not-moves-clause-kept : goal.returns-then-not-moves-clause-kept
returns-then-not-moves-clause-kept c = λ log t.
    kept_still c.args.self.now.kept c.args.act.now c.args.number c.args.queue.now.has_placed c.args.relay.now log t
    (sym c.moves.ensures ∙ c.if-not-moves.true)

pub returns-then-not-moves-clause-told : goal.returns-then-not-moves-clause-told
returns-then-not-moves-clause-told c = λ log t room.
    sym (ap (λ xs. c.args.queue.now.heard ++ map hidden_heard xs)
    (hidden_none c.args.self.now.kept c.args.act.now c.args.number c.args.queue.now.has_placed c.args.relay.now log t
    (sym c.moves.ensures ∙ c.if-not-moves.true))
    ∙ append-nil c.args.queue.now.heard)

-- what the act means, by what was asked
turn_is : (act : Act) (log : List Act) (told v : Bool) (o : Option ℕ) (turn : Turn) →
    turn ≡ turn_of (is_holders act o) v (is_some o) → o ≡ holder (history (act ∷ log)) → v ≡ told →
    turn
    ≡ turn_of (is_holders act (holder (history (act ∷ log)))) told (is_some (holder (history (act ∷ log))))
turn_is act log told v o turn e h k =
    e ∙ ap (λ o. turn_of (is_holders act o) v (is_some o)) h
    ∙ ap (λ v. turn_of (is_holders act (holder (history (act ∷ log)))) v (is_some (holder (history (act ∷ log))))) k

-- what is kept, with what the act made
keeps : (kept items left last : List KeptPopup) (act : Act) (number : ℕ) (told v : Bool) (relay : Shown)
    (log : List Act) (turn : Turn) (made : List KeptPopup) → Taken kept act number told relay log →
    items ≡ kept →
    turn ≡ turn_of (is_holders act (holder (history (act ∷ log)))) told (is_some (holder (history (act ∷ log)))) →
    left ≡ filter (λ (w : KeptPopup). w.is_alive) (map (turned (history (act ∷ log)) turn) items) →
    made ≡ made_popup act number v → v ≡ told → last ≡ left ++ made → last ≡ kept_popups (history (act ∷ log))
keeps kept items left last act number told v relay log turn made t i e l m k is =
    is
    ∙ ap (λ (ps : List KeptPopup). ps ++ made) l
    ∙ ap (λ (ps : List KeptPopup). filter (λ (w : KeptPopup). w.is_alive)
    (map (turned (history (act ∷ log)) turn) ps) ++ made) i
    ∙ ap (λ (ps : List KeptPopup). filter (λ (w : KeptPopup). w.is_alive)
    (map (turned (history (act ∷ log)) turn) kept) ++ ps) (m ∙ ap (made_popup act number) k)
    ∙ kept_moved kept act number told relay log t turn e

tells : (kept items : List KeptPopup) (act : Act) (number : ℕ) (told : Bool) (relay : Shown) (log : List Act)
    (turn : Turn) (places : ℕ) (before after : List Heard) → Taken kept act number told relay log → items ≡ kept →
    turn ≡ turn_of (is_holders act (holder (history (act ∷ log)))) told (is_some (holder (history (act ∷ log)))) →
    (length items ≤ places →
    after ≡ before ++ map hidden_heard (flat_map (hides (history (act ∷ log)) turn) items)) →
    length kept ≤ places → after ≡ before ++ map hidden_heard (hidden act log)
tells kept items act number told relay log turn places before after t i e h room =
    h (subst (λ (ps : List KeptPopup). length ps ≤ places) (sym i) room)
    ∙ ap (λ (ps : List KeptPopup). before ++ map hidden_heard (flat_map (hides (history (act ∷ log)) turn) ps)) i
    ∙ ap (λ xs. before ++ map hidden_heard xs) (hidden_moved kept act number told relay log t turn e)

pub returns-in-Some-clause-kept : goal.returns-in-Some-clause-kept
returns-in-Some-clause-kept c = λ log t.
    keeps c.args.self.now.kept c.self.inside.kept.items c.turn_all.new.kept.items c.push_reserved.new.self.items
    c.args.act.now c.args.number c.args.queue.now.has_placed c.has_placed-has_told.result c.args.relay.now log
    c.turn_of-turn.result (c.in-Some.popup ∷ []) t (ap (λ (v : Tracked). v.kept) c.self.view_is)
    (turn_is c.args.act.now log c.args.queue.now.has_placed c.has_placed-has_told.result c.holder.result
    c.turn_of-turn.result c.turn_of-turn.ensures (c.holder.ensures (c.args.act.now ∷ log) t.stands)
    c.has_placed-has_told.ensures)
    (c.turn_all.ensures.turned (c.args.act.now ∷ log) t.stands) c.in-Some.ensures c.has_placed-has_told.ensures
    c.push_reserved.ensures.items

pub returns-in-Some-clause-told : goal.returns-in-Some-clause-told
returns-in-Some-clause-told c = λ log t room.
    tells c.args.self.now.kept c.self.inside.kept.items c.args.act.now c.args.number c.args.queue.now.has_placed
    c.args.relay.now log c.turn_of-turn.result c.args.queue.now.places c.args.queue.now.heard
    c.turn_all.new.queue.heard t (ap (λ (v : Tracked). v.kept) c.self.view_is)
    (turn_is c.args.act.now log c.args.queue.now.has_placed c.has_placed-has_told.result c.holder.result
    c.turn_of-turn.result c.turn_of-turn.ensures (c.holder.ensures (c.args.act.now ∷ log) t.stands)
    c.has_placed-has_told.ensures)
    (c.turn_all.ensures.told (c.args.act.now ∷ log) t.stands) room

pub returns-in_default-clause-kept : goal.returns-in_default-clause-kept
returns-in_default-clause-kept c = λ log t.
    keeps c.args.self.now.kept c.self.inside.kept.items c.turn_all.new.kept.items c.turn_all.new.kept.items
    c.args.act.now c.args.number c.args.queue.now.has_placed c.has_placed-has_told.result c.args.relay.now log
    c.turn_of-turn.result [] t (ap (λ (v : Tracked). v.kept) c.self.view_is)
    (turn_is c.args.act.now log c.args.queue.now.has_placed c.has_placed-has_told.result c.holder.result
    c.turn_of-turn.result c.turn_of-turn.ensures (c.holder.ensures (c.args.act.now ∷ log) t.stands)
    c.has_placed-has_told.ensures)
    (c.turn_all.ensures.turned (c.args.act.now ∷ log) t.stands) c.in_default.ensures c.has_placed-has_told.ensures
    (sym (append-nil c.turn_all.new.kept.items))

pub returns-in_default-clause-told : goal.returns-in_default-clause-told
returns-in_default-clause-told c = λ log t room.
    tells c.args.self.now.kept c.self.inside.kept.items c.args.act.now c.args.number c.args.queue.now.has_placed
    c.args.relay.now log c.turn_of-turn.result c.args.queue.now.places c.args.queue.now.heard
    c.turn_all.new.queue.heard t (ap (λ (v : Tracked). v.kept) c.self.view_is)
    (turn_is c.args.act.now log c.args.queue.now.has_placed c.has_placed-has_told.result c.holder.result
    c.turn_of-turn.result c.turn_of-turn.ensures (c.holder.ensures (c.args.act.now ∷ log) t.stands)
    c.has_placed-has_told.ensures)
    (c.turn_all.ensures.told (c.args.act.now ∷ log) t.stands) room
