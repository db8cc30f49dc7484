-- The text since the beginning is that of the whole journal.
use Rattle.std.proofs.Common.{◌≡◌, ℕ, List, [], ◌∷◌, ◌++◌, length, Bool, ap, refl, ◌∙◌, arith}
use Rattle.std.specs.Prelude.{if◌then◌else◌}
use Rattle.std.proofs.lemmas.Bool.{le-leb}
use Rattle.broker_model.specs.declared.journal.Entry.{Entry}
use Rattle.lines_transcript.specs.Transcribed.{entry_text, journal_text, text_since}

pub text_all : (capacity : ℕ) (journal : List Entry) → text_since capacity 0 journal ≡ journal_text capacity journal
text_all capacity [] = refl
text_all capacity (e ∷ older) =
    ap (λ (b : Bool). (if b then text_since capacity 0 older ++ entry_text capacity e older else []))
    (le-leb 0 (length older) (omega arith))
    ∙ ap (λ (text : List ℕ). text ++ entry_text capacity e older) (text_all capacity older)
