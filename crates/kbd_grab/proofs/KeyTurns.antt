-- a keyboard stands for its calls, turn by turn of a key
use Rattle.std.proofs.Common.{◌≡◌, ℕ, ◌+◌, ◌-◌, List, ◌∷◌, Bool, true, false, cond, ◌||◌, not, ◌&&◌, Option, Some, None, is_some, refl, sym, ◌∙◌, ap, arith, ◌⊎◌, inl, inr}
use Rattle.std.specs.Prelude.{◌==◌, nat_lt, if◌then◌else◌}
use Rattle.std.specs.Cmp.{nat_cmp_total, unsigned_tied}
use Rattle.std.specs.FinMap as map
use Rattle.std.proofs.lemmas.Bool.{eqb-true, cond-true, cond-false, or_right, and_right}
use Rattle.kbd_grab.specs.Keys.{Call, as_first, to_standing, grab_standing, is_down, number_down, first_went, key_route}
use Rattle.kbd_grab.specs.declared.keyboard.Route.TheVariants.{Pass, TooMany}
use Rattle.kbd_grab.specs.Keys.Call.{Key}
use Rattle.std.proofs.lemmas.Option.{none-some}
use Rattle.kbd_grab.specs.Keyboard.{Keyboard, StandsFor, turned, turned_at, answer_at, routed_at}
use Rattle.kbd_grab.proofs.KeysByCalls.{down_kept, number_kept, number_taken, number_released, up_kept, number_up}

-- what a map has at a key, by whether the key is down
abbrev pub kept : (down : Bool) (went : Option ℕ) → Option (Option ℕ)
kept down went = (if down then Some went else None)

-- a press of a key that is down, or that is refused, changes nothing
pub press_kept : (calls : List Call) (keyboard : Keyboard) (key : ℕ) → StandsFor calls keyboard →
    (is_down calls key ≡ true) ⊎ (nat_lt (number_down calls) 64 ≡ false) → StandsFor (Key key true ∷ calls) keyboard
press_kept calls keyboard key s known = record {
  grab = s.grab;
  keys = λ x. s.keys x ∙ at x (is_down calls x) refl (is_down (Key key true ∷ calls) x) (down_kept calls key known x);
  number = s.number ∙ sym (number_kept calls key known);
  last_keymap = s.last_keymap;
  last_repeat = s.last_repeat;
  last_mods = s.last_mods;
}
  where
    at : (x : ℕ) (b : Bool) → is_down calls x ≡ b → (b' : Bool) → b' ≡ is_down calls x →
        kept (is_down calls x) (first_went calls x) ≡ kept b' (first_went (Key key true ∷ calls) x)
    at x true e b' e' =
        let same : first_went (Key key true ∷ calls) x ≡ first_went calls x =
        cond-false ((x == key) && not (is_down calls x)) _ _ (and_right (x == key) _ (ap not e)) in
        ap (λ b. kept b (first_went calls x)) (sym e') ∙ ap (kept b') (sym same)
    at x false e b' e' =
        cond-false (is_down calls x) _ _ e ∙ sym (cond-false b' _ _ (e' ∙ e))

-- a press of a key that is up, with room, takes it down with the grab that stands
pub press_taken : (calls : List Call) (keyboard : Keyboard) (key : ℕ) → StandsFor calls keyboard →
    is_down calls key ≡ false → nat_lt (number_down calls) 64 ≡ true →
    StandsFor (Key key true ∷ calls) (record keyboard { down = map.insert keyboard.down key keyboard.standing })
press_taken calls keyboard key s low room = record {
  grab = s.grab;
  keys = λ x. map.get-insert nat_cmp_total keyboard.down key keyboard.standing x
      ∙ ap (λ b. cond b (Some keyboard.standing) (map.get keyboard.down x)) (unsigned_tied x key)
      ∙ at x (x == key) refl;
  number = map.len-insert nat_cmp_total keyboard.down key keyboard.standing
      ∙ cond-false (is_some (map.get keyboard.down key)) _ _
      (ap is_some (s.keys key ∙ cond-false (is_down calls key) _ _ low))
      ∙ ap (λ n. n + 1) s.number
      ∙ sym (number_taken calls key low room);
  last_keymap = s.last_keymap;
  last_repeat = s.last_repeat;
  last_mods = s.last_mods;
}
  where
    at : (x : ℕ) (here : Bool) → (x == key) ≡ here → cond here (Some keyboard.standing) (map.get keyboard.down x)
        ≡ kept (if here then is_down calls x || nat_lt (number_down calls) 64 else is_down calls x)
        (if here && not (is_down calls x) then grab_standing calls else first_went calls x)
    at x true e =
        let up : is_down calls x ≡ false = ap (is_down calls) (eqb-true x key e) ∙ low in
        ap (λ g. Some g) s.grab
        ∙ ap (λ g. Some g)
        (sym (cond-true (not (is_down calls x)) (grab_standing calls) (first_went calls x) (ap not up)))
        ∙ sym (cond-true (is_down calls x || nat_lt (number_down calls) 64) _ _ (or_right (is_down calls x) _ room))
    at x false e = s.keys x

-- a release of a key that is down lets it up
pub release_taken : (calls : List Call) (keyboard : Keyboard) (key : ℕ) → StandsFor calls keyboard →
    is_down calls key ≡ true →
    StandsFor (Key key false ∷ calls) (record keyboard { down = map.remove keyboard.down key })
release_taken calls keyboard key s down = record {
  grab = s.grab;
  keys = λ x. map.get-remove nat_cmp_total keyboard.down key x
      ∙ ap (λ b. cond b None (map.get keyboard.down x)) (unsigned_tied x key)
      ∙ at x (x == key);
  number = map.len-remove nat_cmp_total keyboard.down key
      ∙ cond-true (is_some (map.get keyboard.down key)) _ _
      (ap is_some (s.keys key ∙ cond-true (is_down calls key) _ _ down))
      ∙ one_less _ _ _ s.number (number_released calls key down);
  last_keymap = s.last_keymap;
  last_repeat = s.last_repeat;
  last_mods = s.last_mods;
}
  where
    at : (x : ℕ) (here : Bool) →
        cond here None (map.get keyboard.down x) ≡ kept (if here then false else is_down calls x) (first_went calls x)
    at x true = refl
    at x false = s.keys x

    one_less : (a m n : ℕ) → a ≡ m → m ≡ n + 1 → a - 1 ≡ n
    one_less a m n e f = omega arith

-- a release of a key that is up changes nothing
pub release_kept : (calls : List Call) (keyboard : Keyboard) (key : ℕ) → StandsFor calls keyboard →
    is_down calls key ≡ false → StandsFor (Key key false ∷ calls) keyboard
release_kept calls keyboard key s up = record {
  grab = s.grab;
  keys = λ x. s.keys x ∙ ap (λ b. kept b (first_went calls x)) (sym (up_kept calls key up x));
  number = s.number ∙ sym (number_up calls key up);
  last_keymap = s.last_keymap;
  last_repeat = s.last_repeat;
  last_mods = s.last_mods;
}

-- after a press or a release the keys are those that stand for it
pub turned_stands : (calls : List Call) (keyboard : Keyboard) (key : ℕ) (pressed : Bool) → StandsFor calls keyboard →
    StandsFor (Key key pressed ∷ calls) (record keyboard { down = turned keyboard key pressed })
turned_stands calls keyboard key pressed s =
    at (map.get keyboard.down key) (is_down calls key) refl (s.keys key) pressed
  where
    with_room : is_down calls key ≡ false → (room : Bool) → nat_lt (map.len keyboard.down) 64 ≡ room →
        StandsFor (Key key true ∷ calls)
        (record keyboard { down = (if room then map.insert keyboard.down key keyboard.standing else keyboard.down) })
    with_room up true e = press_taken calls keyboard key s up (ap (λ n. nat_lt n 64) (sym s.number) ∙ e)
    with_room up false e = press_kept calls keyboard key s (inr (ap (λ n. nat_lt n 64) (sym s.number) ∙ e))

    at : (here : Option (Option ℕ)) (down : Bool) → is_down calls key ≡ down → here ≡ kept down (first_went calls key) →
        (pressed : Bool) →
        StandsFor (Key key pressed ∷ calls)
        (record keyboard { down = turned_at here keyboard.standing keyboard.down key pressed })
    at (Some went) true e f true = press_kept calls keyboard key s (inl e)
    at (Some went) true e f false = release_taken calls keyboard key s e
    at (Some went) false e f pressed = absurd (none-some went (sym f))
    at None true e f pressed = absurd (none-some (first_went calls key) f)
    at None false e f true = with_room e (nat_lt (map.len keyboard.down) 64) refl
    at None false e f false = release_kept calls keyboard key s e

-- and the answer is the key's route
pub answer_is : (calls : List Call) (keyboard : Keyboard) (key : ℕ) (pressed : Bool) → StandsFor calls keyboard →
    answer_at (map.get keyboard.down key) keyboard.standing (map.len keyboard.down) pressed
    ≡ key_route calls key pressed
answer_is calls keyboard key pressed s =
    ap (λ here. answer_at here keyboard.standing (map.len keyboard.down) pressed) (s.keys key)
    ∙ ap (λ g. answer_at (kept (is_down calls key) (first_went calls key)) g (map.len keyboard.down) pressed) s.grab
    ∙ ap (λ n. answer_at (kept (is_down calls key) (first_went calls key)) (grab_standing calls) n pressed) s.number
    ∙ at (is_down calls key) pressed
  where
    at : (down pressed : Bool) →
        answer_at (kept down (first_went calls key)) (grab_standing calls) (number_down calls) pressed
        ≡ (if down then as_first (grab_standing calls) (first_went calls key)
        else (if not pressed then Pass
        else (if nat_lt (number_down calls) 64 then to_standing (grab_standing calls) else TooMany)))
    at true pressed = refl
    at false true = refl
    at false false = refl

-- a keyboard's own first presses go to the grab that stands
pub same_answer : (here : Option (Option ℕ)) (standing : Option ℕ) (number : ℕ) (pressed : Bool) →
    routed_at here standing standing number pressed ≡ answer_at here standing number pressed
same_answer (Some went) standing number pressed = refl
same_answer None standing number true = refl
same_answer None standing number false = refl
