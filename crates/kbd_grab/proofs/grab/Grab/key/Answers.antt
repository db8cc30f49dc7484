use Rattle.std.proofs.Common.{◌≡◌, ◌↔◌, IsTrue, None, ◌∷◌, List, subst, sym, ◌∙◌}
use Rattle.std.specs.FinMap as map
use Rattle.std.proofs.lemmas.Bool.{cond-true}
use Rattle.kbd_grab.specs.declared.keyboard.Route.TheVariants.{TooMany}
use Rattle.kbd_grab.specs.Keys.{Call, is_down, first_went, fell_since, stood, grab_standing}
use Rattle.kbd_grab.specs.Keys.Call.{Key}
use Rattle.kbd_grab.specs.Keyboard.{Keyboard, DownKeys, StandsFor, answer_at}
use Rattle.kbd_grab.specs.contracts.grab.Grab.{the_view}
use Rattle.kbd_grab.proofs.KeyTurns.{turned_stands, answer_is, same_answer}
use Rattle.kbd_grab.proofs.GrabsStand.{fate_of, as_first_is}
use Rattle.kbd_grab.proofs.grab.Grab.key.Goals as goal

before : (c : goal.After-turn) (calls : List Call) → StandsFor calls c.args.self.now →
    StandsFor calls (the_view c.self.inside)
before c calls s = let Stands : Keyboard → Type 0 = λ k. StandsFor calls k in subst Stands (sym c.self.view_is) s

answered : (c : goal.After-turn) →
    c.turn.result
    ≡ answer_at (map.get (the_view c.self.inside).down c.args.key) (the_view c.self.inside).standing
    (map.len (the_view c.self.inside).down) c.args.pressed
answered c =
    c.turn.ensures.route
    ∙ same_answer (map.get (the_view c.self.inside).down c.args.key) (the_view c.self.inside).standing
    (map.len (the_view c.self.inside).down) c.args.pressed

pub returns-clause-history : goal.returns-clause-history
returns-clause-history c calls s =
    let Stands : DownKeys → Type 0 =
    λ keys. StandsFor (Key c.args.key c.args.pressed ∷ calls) (record (the_view c.self.inside) { down = keys }) in
    subst Stands (sym c.turn.ensures.keys)
    (turned_stands calls (the_view c.self.inside) c.args.key c.args.pressed (before c calls s))

pub returns-clause-follows_its_press : goal.returns-clause-follows_its_press
returns-clause-follows_its_press c calls s once down =
    answered c
    ∙ answer_is calls (the_view c.self.inside) c.args.key c.args.pressed (before c calls s)
    ∙ cond-true (is_down calls c.args.key) _ _ down
    ∙ as_first_is (grab_standing calls) (stood calls) (fell_since calls c.args.key) (first_went calls c.args.key)
    (fate_of calls c.args.key once down)

pub returns-clause-too_many : goal.returns-clause-too_many
returns-clause-too_many c =
    let Told : Keyboard → Type 0 =
    λ k. (c.turn.result ≡ TooMany)
    ↔ (IsTrue c.args.pressed × (map.len k.down ≡ 64) × (map.get k.down c.args.key ≡ None)) in
    subst Told c.self.view_is c.turn.ensures.too_many
