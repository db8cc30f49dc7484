-- How the objects move at one act.
use Rattle.std.proofs.Common.{◌≡◌, ℕ, ◌+◌, ◌<◌, ◌≤◌, List, [], ◌∷◌, length, Bool, true, false, Option, Some, None, ap, refl, sym, ◌∙◌, arith, inl, inr}
use Rattle.std.specs.Prelude.{◌==◌, if◌then◌else◌, is_some}
use Rattle.std.proofs.lemmas.Bool.{ne_eqb, eq-eqb, cases_lt, true≢false}
use Rattle.relay_model.specs.declared.act.Act.{Act}
use Rattle.relay_model.specs.declared.act.Act.TheVariants.{Drop, Gone}
use Rattle.relay_model.specs.Objects.{Object, is_kind, Kind, owner, made, maker, remains, object, alive}

pub if_same : {A : Type 0} (b : Bool) (x : A) → (if b then x else x) ≡ x
if_same true x = refl
if_same false x = refl

pub none_of : {A : Type 0} (o : Option A) → is_some o ≡ false → o ≡ None
none_of None e = refl
none_of (Some x) e = cc

-- what isn't there doesn't come back
pub remains_none : (act : Act) (x : ℕ) → remains act x None ≡ None
remains_none (Drop y) x = if_same (y == x) None
remains_none (Gone p cause) x = refl
remains_none _ x = refl

pub object_beyond : (log : List Act) (x : ℕ) → length log < x → object log x ≡ None
object_beyond [] x h = refl
object_beyond (act ∷ older) x h =
    rw (ne_eqb x (length older + 1) (λ e. omega arith), object_beyond older x (omega arith)) (remains_none act x)

-- an object that was made before the act
pub object_step : (act : Act) (log : List Act) (x : ℕ) → x ≤ length log →
    object (act ∷ log) x ≡ remains act x (object log x)
object_step act log x h = rw (ne_eqb x (length log + 1) (λ e. omega arith)) refl

-- the object of the act itself
pub object_new : (act : Act) (log : List Act) →
    object (act ∷ log) (length log + 1) ≡ made act (length log + 1) (owner (object log (maker act)))
object_new act log = rw (eq-eqb (length log + 1) (length log + 1) refl) refl

pub alive_within : (log : List Act) (x : ℕ) → alive log x ≡ true → x ≤ length log
alive_within log x h =
    elim (cases_lt (length log) x) [
      | inl l ↦ absurd (true≢false (sym h ∙ ap is_some (object_beyond log x l)))
      | inr g ↦ g
    ]

kind_there : (test : Kind → Bool) (o : Option Object) → is_kind test o ≡ true → is_some o ≡ true
kind_there test None h = cc
kind_there test (Some object) h = refl

-- an object of a kind is alive
pub kind_alive : (test : Kind → Bool) (log : List Act) (x : ℕ) → is_kind test (object log x) ≡ true → alive log x ≡ true
kind_alive test log x h = kind_there test (object log x) h

pub kind_within : (test : Kind → Bool) (log : List Act) (x : ℕ) → is_kind test (object log x) ≡ true → x ≤ length log
kind_within test log x h = alive_within log x (kind_alive test log x h)

owner_there : (o : Option Object) → is_some (owner o) ≡ true → is_some o ≡ true
owner_there None h = cc
owner_there (Some object) h = refl
