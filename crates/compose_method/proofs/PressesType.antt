-- A list of presses types what all its keys type.
use Rattle.std.proofs.Common.{◌≡◌, ◌≢◌, ℕ, true, Bool, List, [], ◌∷◌, ◌++◌, ⊎_elim, inr, refl, sym, ap, subst, ◌∙◌}
use Rattle.std.specs.Prelude.{if◌then◌else◌}
use Rattle.std.proofs.lemmas.List.{append-nil, append_assoc}
use Rattle.compose_method.specs.Table.{IsTable, own_texts}
use Rattle.compose_method.specs.Segments.{typed, rest_of}
use Rattle.compose_method.specs.Typing.{Typing, pressed, IsAfter}
use Rattle.compose_method.specs.Presses.{after_presses, strings_of, GoOn, PressesGoOn}
use Rattle.compose_method.proofs.ReadingFronts.{pressed_once}

-- a press of an active method
abbrev press_of : ℕ → Typing → Typing
press_of key m = record m {
  rest = rest_of m.table (m.rest ++ key ∷ []);
  string = typed m.table (m.rest ++ key ∷ []);
  preedit = own_texts m.table (rest_of m.table (m.rest ++ key ∷ []));
}

active_press : (key : ℕ) (m : Typing) → m.active ≡ true → pressed key m ≡ press_of key m
active_press key m e = ap (λ (b : Bool). if b then press_of key m else m) e

none_pressed : (m : Typing) (presses : List ℕ) → IsAfter m presses → GoOn m presses []
none_pressed m presses a = record {
  after = record { active = a.active; rest = a.rest ∙ ap (rest_of m.table) (sym (append-nil presses)) };
  table = refl;
  strings = append-nil (typed m.table presses) ∙ ap (typed m.table) (sym (append-nil presses));
  preedit =
      ⊎_elim (λ (some : [] ≢ []). absurd (some refl))
      (λ (p : m.preedit ≡ own_texts m.table m.rest).
      p ∙ ap (own_texts m.table) (a.rest ∙ ap (rest_of m.table) (sym (append-nil presses))));
}

-- one more in front, where the others go on
one_more : (m : Typing) (presses : List ℕ) (key : ℕ) (keys : List ℕ) → IsTable m.table → IsAfter m presses →
    ((n : Typing) → IsTable n.table → IsAfter n (presses ++ key ∷ []) → GoOn n (presses ++ key ∷ []) keys) →
    GoOn m presses (key ∷ keys)
one_more m presses key keys t a more =
    let law = pressed_once m.table presses m.rest key t a.rest in
    let n : Typing = press_of key m in
    let is : pressed key m ≡ n = active_press key m a.active in
    let after : IsAfter n (presses ++ key ∷ []) = record { active = a.active; rest = law.1 } in
    let g : GoOn n (presses ++ key ∷ []) keys = more n t after in
    let all : (presses ++ key ∷ []) ++ keys ≡ presses ++ (key ∷ keys) = append_assoc presses (key ∷ []) keys in
    record {
      after = subst (λ (x : Typing). IsAfter (after_presses keys x) (presses ++ (key ∷ keys))) (sym is)
          (subst (λ (l : List ℕ). IsAfter (after_presses keys n) l) all g.after);
      table = ap (λ (x : Typing). (after_presses keys x).table) is ∙ g.table;
      strings =
          ap (λ (x : Typing). typed m.table presses ++ (x.string ++ strings_of keys x)) is
          ∙ sym (append_assoc (typed m.table presses) n.string (strings_of keys n))
          ∙ ap (λ (l : List ℕ). l ++ strings_of keys n) law.0 ∙ g.strings ∙ ap (typed m.table) all;
      preedit = λ p.
          ap (λ (x : Typing). (after_presses keys x).preedit) is ∙ g.preedit (inr refl)
          ∙ ap (λ (l : List ℕ). own_texts m.table (rest_of m.table l)) all;
    }

pub presses_go_on : PressesGoOn
presses_go_on m presses [] t a = none_pressed m presses a
presses_go_on m presses (key ∷ keys) t a =
    one_more m presses key keys t a (λ n u b. presses_go_on n (presses ++ key ∷ []) keys u b)
