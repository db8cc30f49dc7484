-- An act list as far as it is played.
use Rattle.std.specs.Prelude.{◌≡◌, ℕ, Bool, List, [], ◌++◌, string_bytes}
use Rattle.relay_model.specs.declared.act.Act.{Act}
use Rattle.relay_core.specs.Stands.{StandsFor}
use Rattle.program_run.specs.declared.act_list.ActList.{ActList}
use Rattle.program_run.specs.Endings.{with_front}
use Rattle.program_run.specs.Transcript.{answer_from}

-- the relay stands for the acts of these lines, and their output stands before every answer for
-- them and others
pub record ActsStand (list : ActList) (done : List (List ℕ)) (output : List ℕ) : Type 0 where
  pub log : List Act
  pub stands : StandsFor list.relay log
  pub goes_on : (cut : Bool) (more : List (List ℕ)) →
      answer_from cut [] (done ++ more) ≡ with_front output
      (answer_from cut log more)

-- the lines that were printed since the buffer was cleared
abbrev pub acts_text : ActList → List ℕ
acts_text list = string_bytes list.printer.text
