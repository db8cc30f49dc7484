-- What reading words tells of what they ask for
use Rattle.std.specs.Prelude.{◌≡◌, Option, Some, None, Result, Ok, Err}
use Rattle.serve_words.specs.declared.refusal.WordsRefusal.{WordsRefusal}
use Rattle.serve_words.specs.declared.refusal.WordsRefusal.TheVariants as refusals

-- what was read is what they ask for; they ask for nothing, where they are refused as bad; want of
-- memory tells nothing
abbrev pub Tells : {X Y : Type 0} → (X → Y) → Result X WordsRefusal → Option Y → Type 0
Tells read (Ok x) asked = asked ≡ Some (read x)
Tells read (Err refusals.BadWords) asked = asked ≡ None
Tells read (Err refusals.NoMemory) asked = Unit {0}
