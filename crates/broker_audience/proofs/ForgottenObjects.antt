-- What stays where an object, or all of a peer, is let go.
use Rattle.std.proofs.Common.{◌≡◌, ℕ, zero, suc, ◌<◌, ◌≤◌, Bool, true, false, List, [], ◌∷◌, ◌++◌, length, get_or, refl, sym, ap, ◌∙◌, arith}
use Rattle.std.specs.Prelude.{◌==◌, ◌&&◌, not, filter, if◌then◌else◌}
use Rattle.std.specs.List.{AllByRecursion, remove}
use Rattle.std.proofs.lemmas.Bool.{ne_eqb}
use Rattle.std.proofs.lemmas.List.{append-nil}
use Rattle.std.proofs.lemmas.List.Elements.{filter-append}
use Rattle.relay_model.specs.declared.act.Act.{Act}
use Rattle.relay_model.specs.declared.act.Act.TheVariants as acts
use Rattle.relay_model.specs.declared.act.EndCause.{EndCause}
use Rattle.broker_model.specs.Ids.{Made}
use Rattle.broker_model.specs.Kept.{is_object, kept_by}
use Rattle.broker_audience.specs.declared.directory.Named.{Named}
use Rattle.broker_audience.specs.Directed.{made_of, made_from, IsNewest, AreFalling}
use Rattle.broker_audience.proofs.SearchByLabel.{AreOrdered, IsPlace, front, ordered}

-- a test leaves the same of the oldest first and of the newest first
pub filter_from : (test : Made → Bool) (objects : List Named) →
    filter test (made_from objects) ≡ made_from (filter (λ o. test (made_of o)) objects)
filter_from test [] = refl
filter_from test (o ∷ objects) =
    ap (filter test) (front o objects)
    ∙ filter-append test (made_from objects) (made_of o ∷ [])
    ∙ by (test (made_of o)) (filter_from test objects)
  where
    rest : List Named
    rest = filter (λ o. test (made_of o)) objects

    by : (b : Bool) → filter test (made_from objects) ≡ made_from rest →
        filter test (made_from objects) ++ (if b then made_of o ∷ [] else []) ≡ made_from (if b then o ∷ rest else rest)
    by true k = ap (λ ms. ms ++ made_of o ∷ []) k ∙ sym (front o rest)
    by false k = append-nil (filter test (made_from objects)) ∙ k

-- what stays of falling labels falls
newest_left : (test : Made → Bool) (n : ℕ) (ms : List Made) → IsNewest n ms → AreFalling ms →
    IsNewest n (filter test ms)
newest_left test n [] h f = tt
newest_left test n (m ∷ older) h f = by (test m) (newest_left test n older (passed older f.0) f.1)
  where
    passed : (ms : List Made) → IsNewest m.label ms → IsNewest n ms
    passed [] k = tt
    passed (o ∷ rest) k = omega (arith, h, k)

    by : (b : Bool) → IsNewest n (filter test older) →
        IsNewest n (if b then m ∷ filter test older else filter test older)
    by true k = h
    by false k = k

pub falling_left : (test : Made → Bool) (ms : List Made) → AreFalling ms → AreFalling (filter test ms)
falling_left test [] f = tt
falling_left test (m ∷ older) f = by (test m) (newest_left test m.label older f.0 f.1) (falling_left test older f.1)
  where
    by : (b : Bool) → IsNewest m.label (filter test older) → AreFalling (filter test older) →
        AreFalling (if b then m ∷ filter test older else filter test older)
    by true n k = (n, k)
    by false n k = k

-- ---- the object with a label

abbrev without : ℕ → List Named → List Named
without label objects = filter (λ (o : Named). not (is_object label (made_of o))) objects

not_object : (label : ℕ) (o : Named) → (label ≡ o.label → ⊥) → is_object label (made_of o) ≡ false
not_object label o n = ap (λ b. b && not (o.peer == o.label)) (ne_eqb label o.label n)

first_stays : (label : ℕ) (o : Named) (objects : List Named) → is_object label (made_of o) ≡ false →
    without label (o ∷ objects) ≡ o ∷ without label objects
first_stays label o objects e =
    ap (λ b. if not b then o ∷ without label objects else without label objects) e

-- none of these has it
none_leaves : (label : ℕ) (objects : List Named) → AllByRecursion (λ (o : Named). label ≡ o.label → ⊥) objects →
    without label objects ≡ objects
none_leaves label [] h = refl
none_leaves label (o ∷ objects) h =
    first_stays label o objects (not_object label o h.0) ∙ ap (λ os. o ∷ os) (none_leaves label objects h.1)

above_all : (n label : ℕ) (objects : List Named) → label ≤ n → AllByRecursion (λ (o : Named). n < o.label) objects →
    AllByRecursion (λ (o : Named). label ≡ o.label → ⊥) objects
above_all n label [] w h = tt
above_all n label (o ∷ objects) w h = (λ e. omega (arith, w, h.0, e), above_all n label objects w h.1)

-- the place is that of the one that leaves, or none leaves
leaves_at : (label : ℕ) (objects : List Named) (place : ℕ) (d : Named) → AreOrdered objects →
    IsPlace objects label place → place < length objects →
    without label objects
    ≡ (if is_object label (made_of (get_or objects place d)) then remove objects place else objects)
leaves_at label [] place d h at w = absurd (omega arith)
leaves_at label (o ∷ objects) zero d h at w =
    by (is_object label (made_of o))
    (none_leaves label objects (above_all o.label label objects (at.behind 0 d (omega arith) (omega arith)) h.0))
  where
    by : (b : Bool) → without label objects ≡ objects →
        (if not b then o ∷ without label objects else without label objects)
        ≡ (if b then remove (o ∷ objects) 0 else o ∷ objects)
    by true k = k
    by false k = ap (λ os. o ∷ os) k
leaves_at label (o ∷ objects) (suc place) d h at w =
    first_stays label o objects
    (not_object label o (λ e. (let b : o.label < label = at.before 0 d (omega arith) in omega (arith, b, e))))
    ∙ ap (λ os. o ∷ os) (leaves_at label objects place d h.1 rest (omega arith))
    ∙ by (is_object label (made_of (get_or objects place d)))
  where
    rest : IsPlace objects label place
    rest = record {
      before = λ k e l. at.before (suc k) e (omega arith);
      behind = λ k e g l. at.behind (suc k) e (omega arith) (omega arith);
    }

    by : (b : Bool) → o ∷ (if b then remove objects place else objects)
        ≡ (if b then remove (o ∷ objects) (suc place) else o ∷ objects)
    by true = refl
    by false = refl

pub left_at : (label : ℕ) (objects : List Named) (place : ℕ) (d : Named) → AreFalling (made_from objects) →
    IsPlace objects label place → place < length objects → is_object label (made_of (get_or objects place d)) ≡ true →
    made_from (remove objects place) ≡ filter (λ (m : Made). not (is_object label m)) (made_from objects)
left_at label objects place d f at w e =
    ap made_from
    (ap (λ b. if b then remove objects place else objects) (sym e)
    ∙ sym (leaves_at label objects place d (ordered objects f) at w))
    ∙ sym (filter_from (λ (m : Made). not (is_object label m)) objects)

pub none_at : (label : ℕ) (objects : List Named) (place : ℕ) (d : Named) → AreFalling (made_from objects) →
    IsPlace objects label place → place < length objects → is_object label (made_of (get_or objects place d)) ≡ false →
    made_from objects ≡ filter (λ (m : Made). not (is_object label m)) (made_from objects)
none_at label objects place d f at w e =
    ap made_from
    (ap (λ b. if b then remove objects place else objects) (sym e)
    ∙ sym (leaves_at label objects place d (ordered objects f) at w))
    ∙ sym (filter_from (λ (m : Made). not (is_object label m)) objects)

-- all are below it
all_below : (label : ℕ) (objects : List Named) → ((k : ℕ) (d : Named) → k < length objects →
    (get_or objects k d).label < label) → AllByRecursion (λ (o : Named). label ≡ o.label → ⊥) objects
all_below label [] h = tt
all_below label (o ∷ objects) h = (
  λ e. (let b : o.label < label = h 0 o (omega arith) in omega (arith, b, e)),
  all_below label objects (λ k d l. h (suc k) d (omega arith)),
)

pub none_past : (label : ℕ) (objects : List Named) (place : ℕ) → IsPlace objects label place →
    length objects ≤ place →
    made_from objects ≡ filter (λ (m : Made). not (is_object label m)) (made_from objects)
none_past label objects place at w =
    ap made_from (sym (none_leaves label objects (all_below label objects (λ k d l. at.before k d (omega arith)))))
    ∙ sym (filter_from (λ (m : Made). not (is_object label m)) objects)

-- ---- any other act

all_pass : (ms : List Made) → ms ≡ filter (λ (m : Made). not false) ms
all_pass [] = refl
all_pass (m ∷ ms) = ap (λ (more : List Made). m ∷ more) (all_pass ms)

pub other_keeps : (act : Act) (n : ℕ) (ms : List Made) → ((x : ℕ) → act ≡ acts.Drop x → ⊥) →
    ((p : ℕ) (why : EndCause) → act ≡ acts.Gone p why → ⊥) → ((p : ℕ) → act ≡ acts.Sync p → ⊥) →
    ms ≡ kept_by act n ms
other_keeps (acts.Drop x) n ms d g s = absurd (d x refl)
other_keeps (acts.Gone p why) n ms d g s = absurd (g p why refl)
other_keeps (acts.Sync p) n ms d g s = absurd (s p refl)
other_keeps _ n ms d g s = all_pass ms
