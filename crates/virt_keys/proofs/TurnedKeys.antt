-- a press or a release on one board, as a call on a keyboard
use Rattle.std.proofs.Common.{◌≡◌, ℕ, List, ◌∷◌, Bool, true, false, not, rules, Option, Some, None, refl, ◌∙◌, ap}
use Rattle.std.specs.Prelude.{nat_lt, ◌==◌, ◌&&◌, ◌↔◌, ◌≢◌, if◌then◌else◌}
use Rattle.std.specs.FinMap as map
use Rattle.std.proofs.lemmas.Bool.{eqb-true, eqb-false}
use Rattle.std.proofs.lemmas.Option.{same_Some}
use Rattle.kbd_grab.specs.declared.keyboard.Route.TheVariants.{ToGrab, Pass, Nowhere, TooMany}
use Rattle.kbd_grab.specs.Keys.{Call, is_refused, is_down, first_went, number_down, as_first, to_standing, told_keymap, told_repeat, told_mods}
use Rattle.kbd_grab.specs.Keys.Call.{Key}
use Rattle.kbd_grab.specs.Keyboard.{Keyboard, DownKeys, StandsFor, turned_at, routed_at, refused_at}
use Rattle.kbd_grab.proofs.KeyTurns.{turned_stands}
use Rattle.virt_keys.specs.Routes.{standing_call}
use Rattle.virt_keys.specs.Boards.{AreDown, IsElsewhere}

-- a keyboard with these keys down, on which this grab stands
abbrev board_with : List Call → Option ℕ → DownKeys → Keyboard
board_with calls opens down = record {
  standing = opens;
  down = down;
  keymap = told_keymap calls;
  repeat = told_repeat calls;
  mods = told_mods calls;
}

stands_with : (calls : List Call) (opens : Option ℕ) (down : DownKeys) → AreDown calls down
    → StandsFor (standing_call opens ∷ calls) (board_with calls opens down)
stands_with calls None down a =
    record { grab = refl; keys = a.keys; number = a.number; last_keymap = refl; last_repeat = refl; last_mods = refl }
stands_with calls (Some label) down a =
    record { grab = refl; keys = a.keys; number = a.number; last_keymap = refl; last_repeat = refl; last_mods = refl }

-- the keys that are down after it
pub turned_down : (calls : List Call) (opens : Option ℕ) (down : DownKeys) (key : ℕ) (pressed : Bool)
    → AreDown calls down
    → AreDown (Key key pressed ∷ standing_call opens ∷ calls) (turned_at (map.get down key) opens down key pressed)
turned_down calls opens down key pressed a =
    let s = turned_stands (standing_call opens ∷ calls) (board_with calls opens down) key pressed
    (stands_with calls opens down a) in
    record { keys = s.keys; number = s.number }

-- where it goes
pub route_down : (calls : List Call) (down : DownKeys) (opens standing : Option ℕ) (key : ℕ) (pressed : Bool)
    → AreDown calls down
    → routed_at (map.get down key) opens standing (map.len down) pressed
    ≡ (if is_down calls key then as_first standing (first_went calls key)
    else (if not pressed then Pass
    else (if nat_lt (number_down calls) 64 then to_standing opens else TooMany)))
route_down calls down opens standing key pressed a =
    ap (λ here. routed_at here opens standing (map.len down) pressed) (a.keys key)
    ∙ ap (λ n. routed_at (if is_down calls key then Some (first_went calls key) else None) opens standing n pressed)
    a.number
    ∙ at (is_down calls key) pressed
  where
    at : (there pressed : Bool)
        → routed_at (if there then Some (first_went calls key) else None) opens standing (number_down calls) pressed
        ≡ (if there then as_first standing (first_went calls key)
        else (if not pressed then Pass
        else (if nat_lt (number_down calls) 64 then to_standing opens else TooMany)))
    at true pressed = refl
    at false true = refl
    at false false = refl

-- whether it is refused
pub refused_down : (calls : List Call) (down : DownKeys) (key : ℕ) (pressed : Bool) → AreDown calls down
    → refused_at (map.get down key) (map.len down) pressed ≡ is_refused calls key pressed
refused_down calls down key pressed a =
    ap (λ here. refused_at here (map.len down) pressed) (a.keys key)
    ∙ ap (λ n. refused_at (if is_down calls key then Some (first_went calls key) else None) n pressed) a.number
    ∙ at (is_down calls key)
  where
    at : (there : Bool) → refused_at (if there then Some (first_went calls key) else None) (number_down calls) pressed
        ≡ ((pressed && not there) && not (nat_lt (number_down calls) 64))
    at true = refl
    at false = refl

-- it goes nowhere exactly where its first press went to a grab that doesn't stand
pub nowhere_where : (here : Option (Option ℕ)) (opens standing : Option ℕ) (number : ℕ) (pressed : Bool)
    → (routed_at here opens standing number pressed ≡ Nowhere) ↔ IsElsewhere here standing
nowhere_where None opens standing number false = search rules
nowhere_where None opens standing number true = refused opens (nat_lt number 64)
  where
    refused : (opens : Option ℕ) (room : Bool) → ((if room then to_standing opens else TooMany) ≡ Nowhere) ↔ ⊥
    refused None true = search rules
    refused (Some label) true = search rules
    refused opens false = search rules
nowhere_where (Some None) opens standing number pressed = search rules
nowhere_where (Some (Some label)) opens None number pressed = search rules
nowhere_where (Some (Some label)) opens (Some standing) number pressed = at (standing == label) refl
  where
    at : (same : Bool) → (standing == label) ≡ same
        → ((if same then ToGrab label else Nowhere) ≡ Nowhere) ↔ (Some standing ≢ Some label)
    at true e = (λ h. search rules, λ h. absurd (h (ap (λ (n : ℕ). Some n) (eqb-true standing label e))))
    at false e = (λ h s. eqb-false standing label e (same_Some standing label s), λ h. refl)
