-- which keys are down, and how many, call by call
use Rattle.std.proofs.Common.{◌≡◌, ℕ, ◌+◌, List, [], ◌∷◌, Bool, true, false, ◌||◌, refl, sym, ◌∙◌, ap, ◌⊎◌, inl, inr}
use Rattle.std.specs.Prelude.{◌==◌, nat_lt, if◌then◌else◌}
use Rattle.std.proofs.lemmas.Bool.{eq-eqb, eqb-true, false≢true, true≢false, or_right, cond-true, cond-false, or_left}
use Rattle.kbd_grab.specs.Keys.{Call, pressed_keys, is_down, number_down}
use Rattle.kbd_grab.specs.Keys.Call.{Key}
use Rattle.kbd_grab.proofs.KeysCounted.{among, Once, count_added, count_kept, count_raised, count_everywhere}

itself : (k : ℕ) → (k == k) ≡ true
itself k = eq-eqb k k refl

-- pressed keys stand once in their list
pub once_pressed : (calls : List Call) → Once (pressed_keys calls)
once_pressed [] = tt
once_pressed (Key k true ∷ older) =
    added k (pressed_keys older) (once_pressed older) (among k (pressed_keys older)) refl
  where
    added : (k : ℕ) (ks : List ℕ) → Once ks → (b : Bool) → among k ks ≡ b → Once (if b then ks else k ∷ ks)
    added k ks once true e = once
    added k ks once false e = (e, once)
once_pressed (_ ∷ older) = once_pressed older

-- a key that is down was pressed
pub down_pressed : (calls : List Call) (key : ℕ) → is_down calls key ≡ true → among key (pressed_keys calls) ≡ true
down_pressed [] key down = absurd (false≢true down)
down_pressed (Key k true ∷ older) key down =
    at k key (pressed_keys older) (key == k) refl (among k (pressed_keys older)) refl _ _ down
    (λ h. down_pressed older key h)
  where
    at : (k key : ℕ) (ks : List ℕ) (here : Bool) → (key == k) ≡ here → (b : Bool) → among k ks ≡ b → (p q : Bool) →
        (if here then p else q) ≡ true → (q ≡ true → among key ks ≡ true) → among key (if b then ks else k ∷ ks) ≡ true
    at k key ks true e true f p q down later = ap (λ x. among x ks) (eqb-true key k e) ∙ f
    at k key ks true e false f p q down later = ap (λ x. x || among key ks) e
    at k key ks false e true f p q down later = later down
    at k key ks false e false f p q down later = or_right (key == k) (among key ks) (later down)
down_pressed (Key k false ∷ older) key down =
    at (key == k) (is_down older key) (among key (pressed_keys older) ≡ true) down (λ h. down_pressed older key h)
  where
    at : (here q : Bool) (P : Type 0) → (if here then false else q) ≡ true → (q ≡ true → P) → P
    at true q P down later = absurd (false≢true down)
    at false q P down later = later down
down_pressed (_ ∷ older) key down = down_pressed older key down

or_none : (b : Bool) → (b || false) ≡ b
or_none true = refl
or_none false = refl

-- a press of a key that is down, or that is refused, leaves down what is down
pub down_kept : (calls : List Call) (key : ℕ) → (is_down calls key ≡ true) ⊎ (nat_lt (number_down calls) 64 ≡ false) →
    (x : ℕ) → is_down (Key key true ∷ calls) x ≡ is_down calls x
down_kept calls key known x = at (x == key) refl known
  where
    at : (here : Bool) → (x == key) ≡ here → (is_down calls key ≡ true) ⊎ (nat_lt (number_down calls) 64 ≡ false) →
        (if here then is_down calls x || nat_lt (number_down calls) 64 else is_down calls x) ≡ is_down calls x
    at true e (inl down) =
        let down' : is_down calls x ≡ true = ap (is_down calls) (eqb-true x key e) ∙ down in
        or_left (is_down calls x) _ down' ∙ sym down'
    at true e (inr full) = ap (λ b. is_down calls x || b) full ∙ or_none (is_down calls x)
    at false e known = refl

-- and so many keys
pub number_kept : (calls : List Call) (key : ℕ) → (is_down calls key ≡ true) ⊎ (nat_lt (number_down calls) 64 ≡ false) →
    number_down (Key key true ∷ calls) ≡ number_down calls
number_kept calls key known =
    count_kept key (is_down calls) (is_down (Key key true ∷ calls)) (down_kept calls key known) (pressed_keys calls)
    (among key (pressed_keys calls)) refl
    (λ apart. up (is_down calls key) refl apart)
  where
    up : (b : Bool) → is_down calls key ≡ b → among key (pressed_keys calls) ≡ false → is_down calls key ≡ false
    up true down apart = absurd (true≢false (sym (down_pressed calls key down) ∙ apart))
    up false e apart = e

pub number_taken : (calls : List Call) (key : ℕ) → is_down calls key ≡ false → nat_lt (number_down calls) 64 ≡ true →
    number_down (Key key true ∷ calls) ≡ number_down calls + 1
number_taken calls key low room =
    count_added key (is_down calls) (is_down (Key key true ∷ calls)) (λ x e. cond-false (x == key) _ _ e) low
    (cond-true (key == key) _ _ (itself key) ∙ or_right (is_down calls key) _ room)
    (pressed_keys calls) (once_pressed calls) (among key (pressed_keys calls)) refl

pub number_released : (calls : List Call) (key : ℕ) → is_down calls key ≡ true →
    number_down calls ≡ number_down (Key key false ∷ calls) + 1
number_released calls key down =
    count_raised key (is_down (Key key false ∷ calls)) (is_down calls) (λ x e. sym (cond-false (x == key) _ _ e))
    (cond-true (key == key) _ _ (itself key)) down
    (pressed_keys calls) (once_pressed calls) (down_pressed calls key down)

pub up_kept : (calls : List Call) (key : ℕ) → is_down calls key ≡ false → (x : ℕ) →
    is_down (Key key false ∷ calls) x ≡ is_down calls x
up_kept calls key up x = at (x == key) refl
  where
    at : (here : Bool) → (x == key) ≡ here → (if here then false else is_down calls x) ≡ is_down calls x
    at true e = sym (ap (is_down calls) (eqb-true x key e) ∙ up)
    at false e = refl

pub number_up : (calls : List Call) (key : ℕ) → is_down calls key ≡ false →
    number_down (Key key false ∷ calls) ≡ number_down calls
number_up calls key up =
    count_everywhere (is_down calls) (is_down (Key key false ∷ calls)) (up_kept calls key up) (pressed_keys calls)
