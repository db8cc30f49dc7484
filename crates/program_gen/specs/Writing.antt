-- A generated session as far as its text is written.
use Rattle.std.specs.Prelude.{◌≡◌, ℕ, List, ◌++◌, Option}
use Rattle.std.specs.Io.KnownBytes.{Appends}
use Rattle.program_gen.specs.declared.running.Run.{Run}
use Rattle.program_gen.specs.Texts.{text_up_to}

-- what was written, and behind it the page, is the text of the steps so far
pub record Writes (run : Run) (page : List ℕ) (held now : Option (List ℕ)) : Type 0 where
  pub done : List ℕ
  pub written : Appends held now done
  pub text : text_up_to run.session.number run.session.made ≡ done ++ page
