-- A session that is migrated, as far as it is written.
use Rattle.std.specs.Prelude.{◌≡◌, ℕ, Bool, true, false, List, ◌++◌, length}
use Rattle.program_run.specs.declared.migration.Migration.{Migration}
use Rattle.program_run.specs.Endings.{Answer, with_front}
use Rattle.program_run.specs.Migrating.{migrated_from, migrated_lines}

-- the answer for the lines that are left, before the header and behind it
abbrev pub left_by : Bool → Bool → ℕ → List (List ℕ) → Answer
left_by false cut n lines = migrated_lines cut lines
left_by true cut n lines = migrated_from cut n lines

-- the output of these lines stands before every answer for them and others
pub record MigrationStands (migration : Migration) (done : List (List ℕ))
    (output : List ℕ) : Type 0 where
  pub count : migration.before ≡ length done
  pub first : migration.is_begun ≡ false → migration.before ≡ 0
  pub goes_on : (cut : Bool) (more : List (List ℕ))
      → migrated_lines cut (done ++ more)
      ≡ with_front output (left_by migration.is_begun cut migration.before more)

-- the lines that were gathered since the buffer was cleared
abbrev pub migration_text : Migration → List ℕ
migration_text migration = migration.text.items
