-- Edits as the program has them, in the words of the definitions.
use Rattle.std.specs.Prelude.{ℕ, List, [], Option, unwrap_or}
use Rattle.std.specs.Borrow.{Bor}
use Rattle.std.specs.Option.{option_copied}
use Rattle.relay_model.specs.Batch as model
use Rattle.relay_plain.specs.declared.batch.Deletion.{Deletion}
use Rattle.relay_plain.specs.declared.batch.Preedit.{Preedit}
use Rattle.relay_plain.specs.declared.batch.Edits.{Edits}

-- a text that may be there, and else the empty one
abbrev pub text_of : Option (Bor (List ℕ)) → List ℕ
text_of text = unwrap_or (option_copied text) []

abbrev pub deletion_of : Deletion → model.Deletion
deletion_of d = record { before = d.before; after = d.after }

abbrev pub preedit_of : Preedit → model.Preedit
preedit_of p = record { text = text_of p.text; begin = p.begin; end = p.end }

abbrev pub batch_of : Edits → model.Batch
batch_of b =
    record {
      deletion = deletion_of b.deletion;
      string = text_of b.string;
      preedit = preedit_of b.preedit;
    }
