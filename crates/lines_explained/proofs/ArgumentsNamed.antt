-- Which argument of a request is an object.
use Rattle.std.proofs.Common.{◌≡◌, ℕ, [], ◌∷◌, Bool, true, false, ap, refl, sym, ◌∙◌}
use Rattle.std.specs.Prelude.{◌==◌, if◌then◌else◌, is_some}
use Rattle.std.proofs.lemmas.Bool.{eqb-true, true≢false}
use Rattle.wl_proto.specs.declared.interface.Interface.{Interface}
use Rattle.wl_proto.specs.declared.interface.Interface.TheVariants as interface
use Rattle.wl_proto.specs.Grammar.{word}
use Rattle.wl_proto.specs.Rows.{request_kinds}
use Rattle.broker_model.specs.Requests.{argument}
use Rattle.lines_explained.specs.KeyLaws.{interface_named, AllNamed, ArgumentsNamed}

-- a seat, where there is no request of the opcode 4
seat_named : (i : Interface) (n : ℕ) → is_some (request_kinds i 4) ≡ false → is_some (request_kinds i n) ≡ true →
    interface.Seat ≡ interface_named n
seat_named i n none there = by (n == 4) refl
  where
    by : (b : Bool) → (n == 4) ≡ b → interface.Seat ≡ (if b then interface.Surface else interface.Seat)
    by true e =
        absurd (true≢false (sym there ∙ ap (λ (k : ℕ). is_some (request_kinds i k)) (eqb-true n 4 e) ∙ none))
    by false e = refl

surface_named : (n id : ℕ) (b : Bool) → (n == 4) ≡ b →
    AllNamed n (if b then argument interface.Surface id ∷ [] else [])
surface_named n id true e =
    (sym (ap (λ (c : Bool). if c then interface.Surface else interface.Seat) e), tt)
surface_named n id false e = tt

pub arguments_named : ArgumentsNamed
arguments_named interface.TextInputManager n (word id ∷ word seat ∷ []) there =
    (seat_named interface.TextInputManager n refl there, tt)
arguments_named interface.InputMethodManager n (word seat ∷ word id ∷ []) there =
    (seat_named interface.InputMethodManager n refl there, tt)
arguments_named interface.VirtualKeyboardManager n (word seat ∷ word id ∷ []) there =
    (seat_named interface.VirtualKeyboardManager n refl there, tt)
arguments_named interface.InputMethod n (word id ∷ word surface ∷ []) there = surface_named n surface (n == 4) refl
arguments_named _ n vs there = tt
