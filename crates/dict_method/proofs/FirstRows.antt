-- Which row decides a press, by what the key does.
use Rattle.std.proofs.Common.{◌≡◌, ℕ, Bool, true, false, List, [], ◌∷◌, ◌++◌, Option, Some, None, refl, sym, ◌∙◌, ap}
use Rattle.std.specs.Prelude.{is_some}
use Rattle.compose_method.specs.Table.{Table, own_text}
use Rattle.dict_method.specs.Dictionary.{Dictionary, IsDictionary, control_of, is_control}
use Rattle.dict_method.specs.Candidates.{has_candidate}
use Rattle.dict_method.specs.Presses.{Made, first_of, chosen, erased, longer, own, press_made, is_empty}
use Rattle.dict_method.specs.Spelling.{Spelling, makes}
use Rattle.dict_method.specs.declared.control.Control.{Control}
use Rattle.dict_method.specs.declared.control.Control.TheVariants.{Choose, Erase}
use Rattle.dict_method.proofs.ControlKeys.{some_control, no_longer}

only_first : (row : Option Made) → first_of row None ≡ row
only_first None = refl
only_first (Some m) = refl

controls_is : (d : Dictionary) (key : ℕ) (what : Control) → control_of d.controls key ≡ Some what →
    is_control d.controls key ≡ true
controls_is d key what is = sym (some_control d.controls key) ∙ ap (λ (o : Option Control). is_some o) is

-- of a key that chooses, only the first row applies
pub choose_row : (t : Table) (d : Dictionary) (code : List ℕ) (key n : ℕ) → IsDictionary d →
    control_of d.controls key ≡ Some (Choose n) → press_made t d code key ≡ chosen d.words code n
choose_row t d code key n h is =
    let control = controls_is d key (Choose n) is in
    let none = no_longer d code key h control in
    rw (is, none, control) (only_first (chosen d.words code n))

-- of a key that erases, only the second
pub erase_row : (t : Table) (d : Dictionary) (code : List ℕ) (key : ℕ) → IsDictionary d →
    control_of d.controls key ≡ Some Erase → press_made t d code key ≡ erased code true
erase_row t d code key h is =
    let control = controls_is d key Erase is in
    by (is_empty code) refl is (no_longer d code key h control) control
  where
    by : (b : Bool) → is_empty code ≡ b → control_of d.controls key ≡ Some Erase →
        has_candidate d.words (code ++ key ∷ []) ≡ false
        → is_control d.controls key ≡ true → press_made t d code key ≡ erased code true
    by true empty is later control = rw (is, later, control, empty) refl
    by false empty is later control = rw (is, empty) refl

-- of another key, the third and the fourth
pub spell_row : (t : Table) (d : Dictionary) (code : List ℕ) (key : ℕ) → control_of d.controls key ≡ None
    → press_made t d code key ≡ first_of (longer d.words (code ++ key ∷ [])) (own (own_text t key) false code)
spell_row t d code key is =
    by (is_empty code) refl is (sym (some_control d.controls key) ∙ ap (λ (o : Option Control). is_some o) is)
  where
    by : (b : Bool) → is_empty code ≡ b → control_of d.controls key ≡ None → is_control d.controls key ≡ false
        → press_made t d code key ≡ first_of (longer d.words (code ++ key ∷ [])) (own (own_text t key) false code)
    by true empty is other = rw (is, other, empty) refl
    by false empty is other = rw (is, other, empty) refl

-- what a press makes while the method is active
pub makes_row : (m : Spelling) (key : ℕ) (row : Option Made) → m.active ≡ true →
    press_made m.table m.dict m.code key ≡ row → makes key m ≡ row
makes_row m key row active h = rw active h
