-- What one line more makes of a session that is migrated.
use Rattle.std.proofs.Common.{◌≡◌, ℕ, ◌+◌, ◌^◌, ◌<◌, Bool, true, false, List, [], ◌∷◌, ◌++◌, length, Option, Some, None, Result, Ok, Err, refl, sym, ap, subst, ◌∙◌, append_assoc, append-nil, length-append}
use Rattle.std.specs.Prelude.{IfOk}
use Rattle.broker_steps.specs.declared.limits.Limits.{Limits}
use Rattle.session_text.specs.declared.line.Form.TheVariants.{Session}
use Rattle.program_run.specs.declared.last_line.LastLine.{LastLine}
use Rattle.program_run.specs.declared.last_line.LastLine.TheVariants as last
use Rattle.program_run.specs.declared.migration.Migration.{Migration}
use Rattle.program_run.specs.declared.session_line.Meaning.{Meaning}
use Rattle.program_run.specs.declared.session_line.Meaning.TheVariants as meaning
use Rattle.program_run.specs.Endings.{with_front, ending, is_long}
use Rattle.program_run.specs.Scripts.{Follows, Settles, NamesNext, Played}
use Rattle.program_run.specs.Session.{meaning_of, first_stage, header_of}
use Rattle.program_run.specs.Migrating.{line_text, migrated_end, migrated_line, migrated_header, by_migrated, migrated_from, by_old_header, migrated_lines}
use Rattle.program_run.specs.MigrationScript.{left_by, MigrationStands, migration_text}
use Rattle.program_run.proofs.ActListAnswers.{front_of_front}
use Rattle.program_run.proofs.SessionLines.{long_is_bad, long_is_no_header}

pub from_cons : (cut : Bool) (n : ℕ) (raw : List ℕ) (lines : List (List ℕ))
    → migrated_from cut n (raw ∷ lines)
    ≡ by_migrated raw (migrated_end n (meaning_of (first_stage Session) raw)) (migrated_from cut (n + 1) lines)
unfolding migrated_from
from_cons cut n raw lines = refl

-- a line behind the header
went : (m : Migration) (done : List (List ℕ)) (output raw : List ℕ) (k : Option LastLine) →
    MigrationStands m done output
    → m.is_begun ≡ true → k ≡ migrated_end m.before (meaning_of (first_stage Session) raw) →
    (cut : Bool) (more : List (List ℕ))
    → migrated_lines cut ((done ++ raw ∷ []) ++ more)
    ≡ with_front output (by_migrated raw k (migrated_from cut (m.before + 1) more))
went m done output raw k s begun is cut more =
    ap (migrated_lines cut) (append_assoc done (raw ∷ []) more) ∙ s.goes_on cut (raw ∷ more)
    ∙ ap (λ b. with_front output (left_by b cut m.before (raw ∷ more))) begun
    ∙ ap (with_front output) (from_cons cut m.before raw more
    ∙ ap (λ w. by_migrated raw w (migrated_from cut (m.before + 1) more)) (sym is))

-- a line that decides
settles : (m : Migration) (done : List (List ℕ)) (output raw : List ℕ) (end : LastLine) → MigrationStands m done output
    → m.is_begun ≡ true → Some end ≡ migrated_end m.before (meaning_of (first_stage Session) raw) →
    is_long (ending end).1 ≡ false
    → Settles migrated_lines (done ++ raw ∷ []) (with_front output (ending end))
settles m done output raw end s begun is other =
    record { same = λ cut more. went m done output raw (Some end) s begun is cut more; decides = other }

decides : (n : ℕ) (k : Meaning) (end : LastLine) → Some end ≡ migrated_end n k → is_long (ending end).1 ≡ false
decides n (meaning.Play stamp found) end is = absurd (cc is)
decides n meaning.End end is = let same : last.Over ≡ end = cc in subst (λ e. is_long (ending e).1 ≡ false) same refl
decides n meaning.Bad end is = let same : last.Bad (n + 1) ≡ end =
    cc in subst (λ e. is_long (ending e).1 ≡ false) same refl

follows : (n : ℕ) (done : List (List ℕ)) (output : List ℕ)
    → ((cut : Bool) (more : List (List ℕ)) →
    migrated_lines cut (done ++ more) ≡ with_front output (migrated_from cut n more))
    → Follows migrated_lines done output
unfolding migrated_from
follows n done output goes = record {
  begins = λ cut more. (migrated_from cut n more, goes cut more);
  undecided = ap (migrated_lines true) (sym (append-nil done)) ∙ goes true [];
}

-- the output goes on behind these lines
Goes : ℕ → List (List ℕ) → List ℕ → Type 0
Goes n done output =
    (cut : Bool) (more : List (List ℕ)) →
    migrated_lines cut (done ++ more) ≡ with_front output (migrated_from cut n more)

-- one line more was written
written : (after : Migration) (done : List (List ℕ)) (raw output gathered more : List ℕ) → after.is_begun ≡ true
    → after.before ≡ length done + 1 → migration_text after ≡ gathered ++ more
    → Goes after.before (done ++ raw ∷ []) (output ++ more)
    → Played migrated_lines (MigrationStands after) (λ g. migration_text after ≡ g) done raw output gathered None
unfolding Goes
written after done raw output gathered more begun count text goes = (
  more,
  record {
    count = count ∙ sym (length-append done (raw ∷ []));
    first = λ e. absurd (cc (begun, e));
    goes_on = λ cut lines.
        goes cut lines ∙ ap (λ b. with_front (output ++ more) (left_by b cut after.before lines)) (sym begun);
  },
  text,
  follows after.before (done ++ raw ∷ []) (output ++ more) goes,
)

line_goes : (m : Migration) (n : ℕ) (done : List (List ℕ)) (output raw : List ℕ) → MigrationStands m done output
    → m.is_begun ≡ true → None ≡ migrated_end m.before (meaning_of (first_stage Session) raw)
    → n ≡ m.before + 1 → Goes n (done ++ raw ∷ []) (output ++ migrated_line raw)
unfolding Goes
line_goes m n done output raw s begun is next cut more =
    went m done output raw None s begun is cut more
    ∙ front_of_front output (migrated_line raw) (migrated_from cut (m.before + 1) more)
    ∙ ap (λ k. with_front (output ++ migrated_line raw) (migrated_from cut k more)) (sym next)

-- a line that decides writes nothing before the last line
ended : (stands : List (List ℕ) → List ℕ → Type 0) (text : List ℕ) (done : List (List ℕ))
    (raw output gathered : List ℕ) (end : LastLine) → text ≡ gathered
    → Settles migrated_lines (done ++ raw ∷ []) (with_front output (ending end))
    → Played migrated_lines stands (λ g. text ≡ g) done raw output gathered (Some end)
ended stands text done raw output gathered end held s = (
  [],
  held ∙ sym (append-nil gathered),
  subst (λ t. Settles migrated_lines (done ++ raw ∷ []) (with_front t (ending end))) (sym (append-nil output)) s,
)

pub line_told : (m after : Migration) (done : List (List ℕ)) (raw output gathered : List ℕ) (k : Option LastLine)
    → MigrationStands m done output → m.is_begun ≡ true →
    k ≡ migrated_end m.before (meaning_of (first_stage Session) raw)
    → after.is_begun ≡ true → after.before ≡ m.before + 1 → migration_text after ≡ migration_text m ++ line_text raw k
    → migration_text m ≡ gathered
    → Played migrated_lines (MigrationStands after) (λ g. migration_text after ≡ g) done raw output gathered k
line_told m after done raw output gathered None s begun is still next text held =
    written after done raw output gathered (migrated_line raw) still (next ∙ ap (λ k. k + 1) s.count)
    (text ∙ ap (λ t. t ++ migrated_line raw) held) (line_goes m after.before done output raw s begun is next)
line_told m after done raw output gathered (Some end) s begun is still next text held =
    ended (MigrationStands after) (migration_text after) done raw output gathered end
    (text ∙ append-nil (migration_text m) ∙ held)
    (settles m done output raw end s begun is (decides m.before (meaning_of (first_stage Session) raw) end is))

-- the same of a call that may have found no memory
pub line_told_if : {E : Type 0} (m after : Migration) (done : List (List ℕ)) (raw output gathered : List ℕ)
    (r : Result (Option LastLine) E)
    → MigrationStands m done output → m.is_begun ≡ true → m.before < 2 ^ 63
    → IfOk r (λ k. m.before < 2 ^ 63 → k ≡ migrated_end m.before (meaning_of (first_stage Session) raw))
    → after.is_begun ≡ true → after.before ≡ m.before + 1 →
    IfOk r (λ k. migration_text after ≡ migration_text m ++ line_text raw k)
    → migration_text m ≡ gathered
    → IfOk r (Played migrated_lines (MigrationStands after) (λ g. migration_text after ≡ g) done raw output gathered)
line_told_if m after done raw output gathered (Ok k) s begun few is still next text held =
    line_told m after done raw output gathered k s begun (is few) still next text held
line_told_if m after done raw output gathered (Err e) s begun few is still next text held = tt

-- the first line

first_goes : (m : Migration) (done : List (List ℕ)) (output raw : List ℕ) (o : Option Limits) →
    MigrationStands m done output
    → m.is_begun ≡ false → o ≡ header_of Session raw → (cut : Bool) (more : List (List ℕ))
    → migrated_lines cut ((done ++ raw ∷ []) ++ more) ≡ with_front output (by_old_header cut o more)
first_goes m done output raw o s none is cut more =
    ap (migrated_lines cut) (append_assoc done (raw ∷ []) more) ∙ s.goes_on cut (raw ∷ more)
    ∙ ap (λ b. with_front output (left_by b cut m.before (raw ∷ more))) none
    ∙ ap (λ w. with_front output (by_old_header cut w more)) (sym is)

header_goes : (m : Migration) (n : ℕ) (done : List (List ℕ)) (output raw : List ℕ) (limits : Limits)
    → MigrationStands m done output → m.is_begun ≡ false → Some limits ≡ header_of Session raw → n ≡ 1
    → Goes n (done ++ raw ∷ []) (output ++ migrated_header limits)
unfolding Goes
header_goes m n done output raw limits s none is one cut more =
    first_goes m done output raw (Some limits) s none is cut more
    ∙ front_of_front output (migrated_header limits) (migrated_from cut 1 more)
    ∙ ap (λ k. with_front (output ++ migrated_header limits) (migrated_from cut k more)) (sym one)

pub header_written : (m after : Migration) (done : List (List ℕ)) (raw output gathered : List ℕ) (limits : Limits)
    → MigrationStands m done output → m.is_begun ≡ false → Some limits ≡ header_of Session raw
    → after.is_begun ≡ true → after.before ≡ m.before + 1 →
    migration_text after ≡ migration_text m ++ migrated_header limits
    → migration_text m ≡ gathered
    → Played migrated_lines (MigrationStands after) (λ g. migration_text after ≡ g) done raw output gathered None
header_written m after done raw output gathered limits s none is still next text held =
    written after done raw output gathered (migrated_header limits) still (next ∙ ap (λ k. k + 1) s.count)
    (text ∙ ap (λ t. t ++ migrated_header limits) held)
    (header_goes m after.before done output raw limits s none is (next ∙ ap (λ k. k + 1) (s.first none)))

pub no_header : (m : Migration) (done : List (List ℕ)) (output raw : List ℕ) → MigrationStands m done output
    → m.is_begun ≡ false → None ≡ header_of Session raw
    → Settles migrated_lines (done ++ raw ∷ []) (with_front output (ending (last.Bad 1)))
no_header m done output raw s none is =
    record { same = λ cut more. first_goes m done output raw None s none is cut more; decides = refl }

-- how the output ends behind these lines
pub names_next : (m : Migration) (done : List (List ℕ)) (output : List ℕ) (next : ℕ) → MigrationStands m done output
    → next ≡ m.before + 1 → NamesNext migrated_lines done output (last.Bad next)
unfolding migrated_from
names_next m done output next s is =
    elim m.is_begun as (λ b. m.is_begun ≡ b → NamesNext migrated_lines done output (last.Bad next)) [
      | true ↦ λ begun. record {
        missing = ap (migrated_lines false) (sym (append-nil done)) ∙ s.goes_on false []
            ∙ ap (λ b. with_front output (left_by b false m.before [])) begun
            ∙ ap (λ n. with_front output (ending (last.Bad n))) (sym is);
        long = λ raw wide. settles m done output raw (last.Bad next) s begun
            (ap (λ n. Some (last.Bad n)) is
            ∙ ap (migrated_end m.before) (sym (long_is_bad (first_stage Session) raw wide))) refl;
      }
      | false ↦ λ none.
          let one : 1 ≡ next = sym (is ∙ ap (λ n. n + 1) (s.first none)) in
          record {
            missing = ap (migrated_lines false) (sym (append-nil done)) ∙ s.goes_on false []
                ∙ ap (λ b. with_front output (left_by b false m.before [])) none
                ∙ ap (λ n. with_front output (ending (last.Bad n))) one;
            long = λ raw wide. subst
                (λ n. Settles migrated_lines (done ++ raw ∷ []) (with_front output (ending (last.Bad n)))) one
                (no_header m done output raw s none (sym (long_is_no_header Session raw wide)));
          }
    ] refl

-- before any line
pub migration_begins : Follows migrated_lines [] []
migration_begins = record { begins = λ cut more. (migrated_lines cut more, refl); undecided = refl }
