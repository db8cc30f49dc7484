-- What a printing post has after it is told something.
use Rattle.std.specs.Prelude.{◌≡◌, ◌++◌, false, string_bytes}
use Rattle.relay_model.specs.declared.said.Told.{Told}
use Rattle.program_run.specs.declared.printer.Printer.{Printer}
use Rattle.program_run.specs.Transcript.{told_text}

-- the post has one line more, unless it found no memory
pub record Prints (old : Printer) (told : Told) (new : Printer) : Type 0 where
  pub same : new.number ≡ old.number
  pub before : new.failed ≡ false → old.failed ≡ false
  pub gained : new.failed ≡ false →
      string_bytes new.text ≡ string_bytes old.text ++ told_text old.number told
