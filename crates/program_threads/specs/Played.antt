-- The drawn trial of a number, played in threads.
use Rattle.std.specs.Prelude.{ℕ}
use Rattle.broker_model.specs.declared.journal.Kept.{Kept}
use Rattle.program_run.specs.declared.status.Status.{Status}
use Rattle.program_run.specs.declared.status.Status.TheVariants as status
use Rattle.trial_gen.specs.Drawn.{drawn_script}
use Rattle.trial_run.specs.Trial.{typist_of}
use Rattle.trial_threads.specs.declared.trial.ThreadTrial.{ThreadTrial}
use Rattle.trial_threads.specs.Whole.{IsWhole, IsCut, users_of}

-- it was played to its end
abbrev pub IsPlayed : ℕ → ThreadTrial → Type 0
IsPlayed n t = IsWhole (typist_of (drawn_script n)) (users_of (drawn_script n)) t

-- it was cut off: the journal, which held so much, was full for a step
abbrev pub IsCutOff : ℕ → Kept → ThreadTrial → Type 0
IsCutOff n kept t = IsCut (typist_of (drawn_script n)) (users_of (drawn_script n)) kept t

-- the statuses of such a run
abbrev pub MayCome : Status → Type 0
MayCome status.Ok = Unit {0}
MayCome status.BadWords = Unit {0}
MayCome status.WriteFault = Unit {0}
MayCome status.NoMemory = Unit {0}
MayCome status.JournalFull = Unit {0}
MayCome _ = ⊥
