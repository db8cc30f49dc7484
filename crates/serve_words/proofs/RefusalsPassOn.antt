-- A refusal of a part is one of the whole
use Rattle.std.proofs.Common.{Option, Err, ap}
use Rattle.session_text.specs.Words.{◌>>=◌}
use Rattle.serve_words.specs.declared.refusal.WordsRefusal.{WordsRefusal}
use Rattle.serve_words.specs.declared.refusal.WordsRefusal.TheVariants as refusals
use Rattle.serve_words.specs.Refusals.{Tells}

pub passes_on : {X Y Z W : Type 0} (read : X → Y) (other : Z → W) (why : WordsRefusal) (asked : Option Y)
    (rest : Y → Option W)
    → Tells read (Err why) asked → Tells other (Err why) (asked >>= rest)
passes_on read other refusals.BadWords asked rest is = ap (λ o. o >>= rest) is
passes_on read other refusals.NoMemory asked rest is = tt
