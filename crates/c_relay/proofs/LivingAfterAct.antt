-- The live objects after one more act, and whose an object is.
use Rattle.std.proofs.Common.{◌≡◌, ℕ, ◌+◌, ◌≤◌, List, [], ◌∷◌, ◌++◌, length, Bool, true, false, Option, Some, None, refl, ap, sym, ◌∙◌, arith, inl, inr, append-nil}
use Rattle.std.proofs.lemmas.Bool.{eqb-true, ne_eqb, eq-eqb, cases_eq}
use Rattle.std.specs.Prelude.{◌==◌, if◌then◌else◌, filter, not, option_map}
use Rattle.relay_model.specs.declared.act.Act.{Act}
use Rattle.relay_model.specs.declared.act.Act.TheVariants as acts
use Rattle.relay_model.specs.Objects.{Object, is_at, labels, made, maker, next, object, owner, remains}
use Rattle.relay_model.proofs.ObjectLaws.{remains_none, object_step, object_new}
use Rattle.relay_model.proofs.ActivationLaws.{Each, each_append, each_map}
use Rattle.c_relay.specs.declared.census.Living.{Living}
use Rattle.c_relay.specs.Living.{living_of, in_front, living_at, living, left, owner_in}

labels_within : (log : List Act) → Each (λ x. x ≤ length log) (labels log)
labels_within [] = tt
labels_within (act ∷ older) =
    each_append (λ x. x ≤ length (act ∷ older)) (labels older) (length older + 1)
    (each_map (λ x. x ≤ length older) (λ x. x ≤ length (act ∷ older)) (labels older) (labels_within older)
    (λ x k. omega arith)) (omega arith)

pub eqb_sym : (x y : ℕ) → (x == y) ≡ (y == x)
eqb_sym x y =
    elim (cases_eq x y) [
      | inl e ↦ eq-eqb x y e ∙ sym (eq-eqb y x (sym e))
      | inr n ↦ ne_eqb x y n ∙ sym (ne_eqb y x (λ e. n (sym e)))
    ]

left_dropped : (b : Bool) (y x : ℕ) (o : Object) (rest more : List Living) → (y == x) ≡ b → more ≡
    left (acts.Drop y) rest →
    in_front x (if b then None else Some o) more ≡ left (acts.Drop y) (living_of x o ∷ rest)
left_dropped true y x o rest more e h = rw (eqb_sym x y, e) h
left_dropped false y x o rest more e h = rw (eqb_sym x y, e) (ap (λ ls. living_of x o ∷ ls) h)

left_gone : (b : Bool) (p x : ℕ) (o : Object) (rest more : List Living) → (o.peer == p) ≡ b →
    more ≡ filter (λ (l : Living). not (l.peer == p)) rest →
    in_front x (if b then None else Some o) more ≡ filter (λ (l : Living). not (l.peer == p)) (living_of x o ∷ rest)
left_gone true p x o rest more e h = rw e h
left_gone false p x o rest more e h = rw e (ap (λ ls. living_of x o ∷ ls) h)

left_one : (act : Act) (x : ℕ) (o : Object) (rest more : List Living) → more ≡ left act rest →
    in_front x (remains act x (Some o)) more ≡ left act (living_of x o ∷ rest)
left_one (acts.Drop y) x o rest more h = left_dropped (y == x) y x o rest more refl h
left_one (acts.Gone p cause) x o rest more h = left_gone (o.peer == p) p x o rest more refl h
left_one _ x o rest more h = ap (λ ls. living_of x o ∷ ls) h

left_at : (act : Act) (x : ℕ) (o : Option Object) (rest more : List Living) → more ≡ left act rest →
    in_front x (remains act x o) more ≡ left act (in_front x o rest)
left_at act x None rest more h = ap (λ o. in_front x o more) (remains_none act x) ∙ h
left_at act x (Some o) rest more h = left_one act x o rest more h

left_all : (act : Act) (log : List Act) (xs : List ℕ) → Each (λ x. x ≤ length log) xs →
    living_at (object (act ∷ log)) xs ≡ left act (living_at (object log) xs)
left_all (acts.Drop y) log [] w = refl
left_all (acts.Gone p cause) log [] w = refl
left_all _ log [] w = refl
left_all act log (x ∷ xs) w =
    ap (λ o. in_front x o (living_at (object (act ∷ log)) xs)) (object_step act log x w.0)
    ∙ left_at act x (object log x) (living_at (object log) xs) (living_at (object (act ∷ log)) xs)
    (left_all act log xs w.1)

append_front : (x : ℕ) (o : Option Object) (rest more end : List Living) → more ≡ rest ++ end →
    in_front x o more ≡ in_front x o rest ++ end
append_front x None rest more end h = h
append_front x (Some o) rest more end h = ap (λ ls. living_of x o ∷ ls) h

living_append : (at : ℕ → Option Object) (xs : List ℕ) (y : ℕ) →
    living_at at (xs ++ y ∷ []) ≡ living_at at xs ++ in_front y (at y) []
living_append at [] y = refl
living_append at (x ∷ xs) y =
    append_front x (at x) (living_at at xs) (living_at at (xs ++ y ∷ [])) (in_front y (at y) [])
    (living_append at xs y)

-- whose an object is

abbrev has : List ℕ → ℕ → Bool
has [] x = false
has (y ∷ ys) x = (if y == x then true else has ys x)

abbrev Unlike : (has_it : Bool) → (x y : ℕ) → Type 0
Unlike has_it x y = (has_it ≡ false) × ((x == y) ≡ false)

push_first : (b : Bool) (x y : ℕ) → (y == x) ≡ b → (if b then true else false) ≡ false → Unlike false x y
push_first true x y e k = cc
push_first false x y e k = (refl, eqb_sym x y ∙ e)

push_next : (b had has_it : Bool) (x y : ℕ) → (had ≡ false → Unlike has_it x y) → (if b then true else had) ≡ false →
    Unlike (if b then true else has_it) x y
push_next true had has_it x y f k = cc
push_next false had has_it x y f k = f k

has_push : (xs : List ℕ) (y x : ℕ) → has (xs ++ y ∷ []) x ≡ false → Unlike (has xs x) x y
has_push [] y x h = push_first (y == x) x y refl h
has_push (z ∷ zs) y x h = push_next (z == x) (has (zs ++ y ∷ []) x) (has zs x) x y (has_push zs y x) h

unlisted : (log : List Act) (x : ℕ) → has (labels log) x ≡ false → object log x ≡ None
unlisted [] x h = refl
unlisted (act ∷ older) x h =
    let k = has_push (labels older) (length older + 1) x h in
    rw k.1 (ap (remains act x) (unlisted older x k.0) ∙ remains_none act x)

none_if : (b : Bool) (o : Option Object) → o ≡ None → (if b then owner o else None) ≡ None
none_if true o e = ap owner e
none_if false o e = refl

owner_front : (at : ℕ → Option Object) (ls : List Living) (x y : ℕ) (had : Bool) (o : Option Object) (b : Bool) →
    at y ≡ o → (y == x) ≡ b → owner_in ls x ≡ (if had then owner (at x) else None) →
    owner_in (in_front y o ls) x ≡ (if (if b then true else had) then owner (at x) else None)
owner_front at ls x y had None true n e h =
    let none : at x ≡ None = ap at (sym (eqb-true y x e)) ∙ n in
    h ∙ none_if had (at x) none ∙ sym (ap owner none)
owner_front at ls x y had None false n e h = h
owner_front at ls x y had (Some o) true n e h = rw e (ap owner (sym n ∙ ap at (eqb-true y x e)))
owner_front at ls x y had (Some o) false n e h = rw e h

owner_at : (at : ℕ → Option Object) (xs : List ℕ) (x : ℕ) →
    owner_in (living_at at xs) x ≡ (if has xs x then owner (at x) else None)
owner_at at [] x = refl
owner_at at (y ∷ ys) x = owner_front at (living_at at ys) x y (has ys x) (at y) (y == x) refl refl (owner_at at ys x)

pub owner_is : (log : List Act) (x : ℕ) → owner_in (living log) x ≡ owner (object log x)
owner_is log x = owner_at (object log) (labels log) x ∙ by (has (labels log) x) refl
  where
    by : (b : Bool) → has (labels log) x ≡ b → (if b then owner (object log x) else None) ≡ owner (object log x)
    by true e = refl
    by false e = sym (ap owner (unlisted log x e))

-- after one more act

pub living_after : (act : Act) (log : List Act) →
    living (act ∷ log) ≡ left act (living log)
    ++ in_front (next log) (made act (next log) (owner (object log (maker act)))) []
living_after act log =
    living_append (object (act ∷ log)) (labels log) (next log)
    ∙ ap (λ ls. ls ++ in_front (next log) (object (act ∷ log) (next log)) [])
    (left_all act log (labels log) (labels_within log))
    ∙ ap (λ o. left act (living log) ++ in_front (next log) o []) (object_new act log)

-- an act that makes something leaves all that were alive
pub left_made : (act : Act) (n : ℕ) (whose : Option ℕ) (o : Object) (ls : List Living) → made act n whose ≡ Some o →
    left act ls ≡ ls
left_made (acts.Drop y) n whose o ls h = cc
left_made (acts.Gone p cause) n whose o ls h = cc
left_made _ n whose o ls h = refl

-- what is counted where something is made, and where nothing is
pub entered_one : (act : Act) (log : List Act) (one : Living) (before after : List Living) →
    Some one ≡ option_map (living_of (next log)) (made act (next log) (owner_in before (maker act))) →
    before ≡ living log → after ≡ before ++ one ∷ [] → after ≡ living (act ∷ log)
entered_one act log one before after h same is =
    by (made act (next log) (owner (object log (maker act)))) refl
    (h ∙ ap (λ ls. option_map (living_of (next log)) (made act (next log) (owner_in ls (maker act)))) same
    ∙ ap (λ w. option_map (living_of (next log)) (made act (next log) w)) (owner_is log (maker act)))
  where
    by : (o : Option Object) → made act (next log) (owner (object log (maker act))) ≡ o →
        Some one ≡ option_map (living_of (next log)) o → after ≡ living (act ∷ log)
    by None e k = cc
    by (Some o) e k =
        let it : one ≡ living_of (next log) o = cc in
        is ∙ ap (λ ls. ls ++ one ∷ []) (same ∙ sym
        (left_made act (next log) (owner (object log (maker act))) o (living log) e))
        ∙ ap (λ l. left act (living log) ++ l ∷ []) it
        ∙ ap (λ p. left act (living log) ++ in_front (next log) p []) (sym e)
        ∙ sym (living_after act log)

pub entered_none : (act : Act) (log : List Act) (before after : List Living) →
    ◌≡◌ {A = Option Living} None (option_map (living_of (next log))
    (made act (next log) (owner_in before (maker act)))) →
    before ≡ living log → after ≡ left act before → after ≡ living (act ∷ log)
entered_none act log before after h same is =
    by (made act (next log) (owner (object log (maker act)))) refl
    (h ∙ ap (λ ls. option_map (living_of (next log)) (made act (next log) (owner_in ls (maker act)))) same
    ∙ ap (λ w. option_map (living_of (next log)) (made act (next log) w)) (owner_is log (maker act)))
  where
    by : (o : Option Object) → made act (next log) (owner (object log (maker act))) ≡ o →
        ◌≡◌ {A = Option Living} None (option_map (living_of (next log)) o) → after ≡ living (act ∷ log)
    by None e k =
        is ∙ ap (left act) same ∙ sym (append-nil (left act (living log)))
        ∙ ap (λ p. left act (living log) ++ in_front (next log) p []) (sym e)
        ∙ sym (living_after act log)
    by (Some o) e k = cc
