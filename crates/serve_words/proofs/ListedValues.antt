-- What an option has, where it is listed as none or one
use Rattle.std.proofs.Common.{◌≡◌, ℕ, List, Option, Some, None, refl}
use Rattle.serve_words.specs.Options.{listed}
use Rattle.serve_words.specs.Words.{once}

pub once_listed : (o : Option (List ℕ)) → once (listed o) ≡ o
once_listed None = refl
once_listed (Some value) = refl
