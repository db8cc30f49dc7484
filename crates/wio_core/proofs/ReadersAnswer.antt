-- What a reader of lines answers whose answer wasn't settled.
use Rattle.std.proofs.Common.{◌≡◌, ℕ, ◌≤◌, List, length, Option, Some, None, MatchOption, refl, ap, subst, arith, length-append}
use Rattle.std.specs.Option.{OnSome}
use Rattle.wio_core.specs.Lines.{TookFrom, Gathers}
use Rattle.wio_core.specs.LineAnswers.{LinesAhead, Tells, Answers}
use Rattle.wio_core.specs.declared.line_reader.LineStop.{LineStop}
use Rattle.wio_core.specs.declared.line_reader.NextLine.{NextLine}

unsettled : (settled : Option LineStop) (A : Type 0) (B : LineStop → Type 0) →
    ((why : LineStop) → settled ≡ Some why → ⊥)
    → A → MatchOption settled A B
unsettled None A B free goes_on = goes_on
unsettled (Some why) A B free goes_on = absurd (free why refl)

-- what is said of a settled answer says nothing then
pub never_settled : (settled now : Option LineStop) (P : Type 0) → settled ≡ now
    → ((why : LineStop) → settled ≡ Some why → ⊥) → OnSome now P
never_settled settled None P same free = tt
never_settled settled (Some why) P same free = absurd (free why same)

-- the bytes that a turn gathered, and the answer for them
pub answered : (view before after : LinesAhead) (given₀ given₁ left₀ left₁ : Option (List ℕ)) (result : NextLine)
    (held : List ℕ)
    → view ≡ before → ((why : LineStop) → view.settled ≡ Some why → ⊥)
    → (read : List ℕ) × TookFrom given₀ given₁ left₀ left₁ read × Gathers view.held held view.room after.room read
    → length held ≤ 16384 → Tells result held after left₁
    → Answers before after given₀ given₁ left₀ left₁ result
answered view before after given₀ given₁ left₀ left₁ result held is free took near tells =
    let read = took.0 in
    let gathers = took.2 in
    let long = ap length gathers.held in
    subst (λ b. Answers b after given₀ given₁ left₀ left₁ result) is (unsettled view.settled _ _ free (
      read,
      record {
        took = took.1;
        gathers = record { held = refl; room = gathers.room; within = gathers.within };
        near = omega (arith, near, long, length-append view.held read);
        tells = subst (λ h. Tells result h after left₁) gathers.held tells;
      },
    ))
