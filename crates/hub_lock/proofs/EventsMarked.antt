-- What one more mark makes of the lock's history
use Rattle.std.proofs.Common.{◌≡◌, ℕ, ◌+◌, ◌<◌, ◌≤◌, List, [], ◌∷◌, ◌++◌, length, reverse, Bool, true, false, Option, Some, None, refl, ap, sym, ◌∙◌, inl, inr, ⊎_elim, arith, length-append}
use Rattle.std.specs.Prelude.{IsSome}
use Rattle.std.proofs.lemmas.List.{reverse-append, reverse-reverse}
use Rattle.turn_lock.specs.Pairs.{IsGrown}
use Rattle.hub_lock.specs.declared.step.OuterStep.{OuterStep}
use Rattle.hub_lock.specs.declared.event.Event.{Event}
use Rattle.hub_lock.specs.declared.event.Event.TheVariants as events
use Rattle.hub_lock.specs.declared.event.Note.{Note}
use Rattle.hub_lock.specs.declared.event.Mark.{Mark}
use Rattle.hub_lock.specs.declared.event.Mark.TheVariants as marks
use Rattle.hub_lock.specs.Histories.{History}
use Rattle.hub_lock.specs.Shown.{shown}
use Rattle.hub_lock.specs.Events.{Events, Tally, step_of, steps_of_events, tally_of, tally_by, tally_noted, tally_after, notes_in, count_of, mark_by, with_mark, woven, events_with}
use Rattle.hub_lock.proofs.PairsLeftOut.{shown-append}
use Rattle.hub_lock.proofs.TalliesStay.{tally-one}

-- the steps of a history with marks are those that it was made of

reverse-more : {A : Type 0} (x : A) (xs : List A) → reverse (x ∷ xs) ≡ reverse xs ++ x ∷ []
reverse-more x xs = reverse-append (x ∷ []) xs

shown-reverse : (h : Events) → shown step_of (reverse h) ≡ reverse (shown step_of h)
shown-reverse [] = refl
shown-reverse (x ∷ h) =
    ap (shown step_of) (reverse-more x h) ∙ shown-append step_of (reverse h) (x ∷ [])
    ∙ ap (λ z. z ++ shown step_of (x ∷ [])) (shown-reverse h) ∙ by x.1 where
      by : (e : Event) → reverse (shown step_of h) ++ shown step_of ((x.0, e) ∷ [])
          ≡ reverse (shown step_of ((x.0, e) ∷ h))
      by (events.Step s) = sym (reverse-more (x.0, s) (shown step_of h))
      by (events.Noted note) = append_nil_of (reverse (shown step_of h)) where
        append_nil_of : (xs : History) → xs ++ [] ≡ xs
        append_nil_of [] = refl
        append_nil_of (y ∷ ys) = ap (λ z. y ∷ z) (append_nil_of ys)

shown-woven : (ms : List Mark) (steps : History) → shown step_of (woven ms steps) ≡ steps
shown-woven [] [] = refl
shown-woven [] (s ∷ steps) = ap (λ z. s ∷ z) (shown-woven [] steps)
shown-woven (marks.Step ∷ ms) [] = shown-woven ms []
shown-woven (marks.Step ∷ ms) (s ∷ steps) = ap (λ z. s ∷ z) (shown-woven ms steps)
shown-woven (marks.Noted n note ∷ ms) steps = shown-woven ms steps

pub steps-with : (ms : List Mark) (h : History) → steps_of_events (events_with ms h) ≡ h
steps-with ms h =
    shown-reverse (woven ms (reverse h)) ∙ ap reverse (shown-woven ms (reverse h)) ∙ reverse-reverse h

with-step : (ms : List Mark) (h : History) (n : ℕ) (s : OuterStep)
    → events_with (marks.Step ∷ ms) (h ++ (n, s) ∷ []) ≡ events_with ms h ++ (n, events.Step s) ∷ []
with-step ms h n s =
    ap (λ z. reverse (woven (marks.Step ∷ ms) z)) (reverse-append h ((n, s) ∷ []))
    ∙ reverse-more (n, events.Step s) (woven ms (reverse h))

with-note : (ms : List Mark) (h : History) (n : ℕ) (note : Note)
    → events_with (marks.Noted n note ∷ ms) h ≡ events_with ms h ++ (n, events.Noted note) ∷ []
with-note ms h n note = reverse-more (n, events.Noted note) (woven ms (reverse h))

-- what a play makes of the history, of its tally and of its length

pub record IsMarked (n : ℕ) (ms : List Mark) (h : History) (mark : Option Mark) (h' : History)
    (t' : Tally) : Type 0 where
  pub grows : IsGrown n (events_with ms h) (events_with (with_mark mark ms) h')
  pub tally : tally_of (events_with (with_mark mark ms) h') ≡ t'
  pub count : length (events_with (with_mark mark ms) h') ≡ length h' + notes_in t'

module _ (n : ℕ) (ms : List Mark) (h h' : History) (t t' : Tally)
    (tally : tally_of (events_with ms h) ≡ t) (count : length (events_with ms h) ≡ length h + notes_in t) where
  one-more : (e : Event) (ms' : List Mark) → events_with ms' h' ≡ events_with ms h ++ (n, e) ∷ []
      → (tally_of (events_with ms' h') ≡ tally_by n e t)
      × (length (events_with ms' h') ≡ length h + notes_in t + 1)
  one-more e ms' is = (
    ap tally_of is ∙ tally-one (events_with ms h) n e ∙ ap (tally_by n e) tally,
    let l = ap length is in let a = length-append (events_with ms h) ((n, e) ∷ []) in omega arith,
  )

  noted-by : (note : Note) (b : Bool) → h' ≡ h → t' ≡ tally_noted n note t → notes_in t' ≡ notes_in t + 1
      → IsMarked n ms h (mark_by n (Some note) b) h' t'
  noted-by note b same is more =
      let longer : events_with (marks.Noted n note ∷ ms) h' ≡ events_with ms h ++ (n, events.Noted note) ∷ [] =
      ap (events_with (marks.Noted n note ∷ ms)) same ∙ with-note ms h n note in
      let one = one-more (events.Noted note) (marks.Noted n note ∷ ms) longer in
      let l = ap length same in record {
        grows = inr (events.Noted note, longer);
        tally = one.0 ∙ sym is;
        count = let c = one.1 in omega arith;
      }

  step-by : (s : OuterStep) → h' ≡ h ++ (n, s) ∷ [] → t' ≡ t → IsMarked n ms h (Some marks.Step) h' t'
  step-by s longer same =
      let is : events_with (marks.Step ∷ ms) h' ≡ events_with ms h ++ (n, events.Step s) ∷ [] =
      ap (events_with (marks.Step ∷ ms)) longer ∙ with-step ms h n s in
      let one = one-more (events.Step s) (marks.Step ∷ ms) is in
      let l = ap length longer in
      let a = length-append h ((n, s) ∷ []) in
      let k = ap notes_in same in record {
        grows = inr (events.Step s, is);
        tally = one.0 ∙ sym same;
        count = let c = one.1 in omega arith;
      }

  none-by : h' ≡ h → t' ≡ t → IsMarked n ms h None h' t'
  none-by same same' =
      let is : events_with ms h' ≡ events_with ms h = ap (events_with ms) same in
      let l = ap length same in
      let k = ap notes_in same' in
      let m = ap length is in record {
        grows = inl is;
        tally = ap tally_of is ∙ tally ∙ sym same';
        count = omega arith;
      }

  step-or-none : (b : Bool) → (b ≡ true → length h < length h') → (b ≡ false → length h' ≤ length h)
      → IsGrown n h h' → t' ≡ t → IsMarked n ms h (mark_by n None b) h' t'
  step-or-none true more few g same = ⊎_elim
      (λ (e : h' ≡ h). let l = ap length e in let m = more refl in absurd (omega arith))
      (λ (x : (s : OuterStep) × (h' ≡ h ++ (n, s) ∷ [])). step-by x.0 x.1 same) g
  step-or-none false more few g same = ⊎_elim
      (λ (e : h' ≡ h). none-by e same)
      (λ (x : (s : OuterStep) × (h' ≡ h ++ (n, s) ∷ [])).
      let l = ap length x.1 in let a = length-append h ((n, x.0) ∷ []) in let m = few refl in absurd (omega arith)) g

  pub marked : (o : Option Note) (b : Bool) → (b ≡ true → length h < length h')
      → (b ≡ false → length h' ≤ length h) → IsGrown n h h' → (IsSome o → h' ≡ h)
      → t' ≡ tally_after n o t → notes_in t' ≡ notes_in t + count_of o
      → IsMarked n ms h (mark_by n o b) h' t'
  marked None b more few g same is k = step-or-none b more few g is
  marked (Some note) b more few g same is k = noted-by note b (same refl) is k
