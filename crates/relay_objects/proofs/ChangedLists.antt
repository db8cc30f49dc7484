-- A change of one object keeps the lists beside.
use Rattle.std.proofs.Common.{◌≡◌, ◌≢◌, ℕ, List, map, Bool, true, false, if◌then◌else◌, eqb, Some, refl, arith, inl, inr}
use Rattle.std.proofs.lemmas.Bool.{cases_eq}
use Rattle.std.proofs.lemmas.Bool.Decides.{nat_tests}
use Rattle.relay_objects.specs.declared.change.Change.{Change}
use Rattle.relay_objects.specs.declared.change.Change.TheVariants.{Commit, Displace}
use Rattle.relay_objects.specs.declared.object.Object.{Object}
use Rattle.relay_objects.specs.declared.listed.LiveField.{LiveField}
use Rattle.relay_objects.specs.declared.listed.LivePopup.{LivePopup}
use Rattle.relay_objects.specs.declared.entered.Entered.{Entered}
use Rattle.relay_objects.specs.Objects.{committed}
use Rattle.relay_objects.specs.Changes.{kind_after, changed_at}
use Rattle.relay_objects.specs.Labels.{IsNew}
use Rattle.relay_objects.specs.Listed.{Lists}
use Rattle.relay_objects.proofs.NewObject.{new_mapped}
use Rattle.relay_objects.proofs.SiftedLists.{map_map}
use Rattle.relay_objects.proofs.ListedObjects.{lists_changed}
use Rattle.relay_objects.proofs.LeftFields.{IsFirm, keeps_at, label_kept, calm_kept}

pub still_listed : (os : List Object) (fields : List LiveField) (popups : List LivePopup) (entered : Entered)
    (bound x : ℕ) (c : Change) → IsFirm c →
    (Lists os fields popups entered × IsNew os bound) →
    (Lists (map (changed_at x c) os) fields popups entered × IsNew (map (changed_at x c) os) bound)
still_listed os fields popups entered bound x c firm kept = (
  lists_changed (changed_at x c) (keeps_at x c) os fields popups entered kept.0 (calm_kept x c firm entered),
  new_mapped (changed_at x c) (label_kept x c) os bound kept.1,
)

-- a commit and a displacement are of two objects

both_changed : (f other : ℕ) (o : Object) → other ≢ f →
    changed_at f Commit (changed_at other Displace o) ≡ committed f (Some other) o
both_changed f other o differs = elim (cases_eq o.label f) [
  | inl same ↦
      let test : eqb o.label f ≡ true = grind (arith, nat_tests) in
      let apart : eqb o.label other ≡ false = grind (arith, nat_tests, differs) in
      rw (apart, test) refl
  | inr not_field ↦
      let test : eqb o.label f ≡ false = grind (arith, nat_tests) in
      by_other test (eqb o.label other) (grind (arith, nat_tests))
]
  where
    by_other : eqb o.label f ≡ false → (b : Bool) → eqb other o.label ≡ b →
        changed_at f Commit (if b then record o { kind = kind_after Displace o.peer o.kind } else o)
        ≡ committed f (Some other) o
    by_other test true is = rw (test, is) refl
    by_other test false is = rw (test, is) refl

pub commit_over : (f other : ℕ) (os : List Object) → other ≢ f →
    map (changed_at f Commit) (map (changed_at other Displace) os) ≡ map (committed f (Some other)) os
commit_over f other os differs =
    map_map (changed_at f Commit) (changed_at other Displace) (committed f (Some other)) os
    (λ o. both_changed f other o differs)
