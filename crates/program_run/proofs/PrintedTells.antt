-- What a printing post has after several tells.
use Rattle.std.proofs.Common.{◌≡◌, List, [], ◌∷◌, ◌++◌, false, string_bytes, ap, sym, ◌∙◌}
use Rattle.std.proofs.lemmas.List.{append-nil, append_assoc}
use Rattle.relay_model.specs.declared.said.Told.{Told}
use Rattle.relay_core.specs.Reached.{Reached}
use Rattle.program_run.specs.declared.printer.Printer.{Printer}
use Rattle.program_run.specs.Printing.{Prints}
use Rattle.program_run.specs.Transcript.{told_text, act_text}

pub reached_before : (ts : List Told) (a b : Printer) → Reached Prints a ts b → b.failed ≡ false → a.failed ≡ false
reached_before [] a b h k = sym (ap (λ p. p.failed) h) ∙ k
reached_before (t ∷ ts) a b h k = h.1.before (reached_before ts h.0 b h.2 k)

-- the post has gained the lines of all that it was told
pub reached_text : (ts : List Told) (a b : Printer) → Reached Prints a ts b → b.failed ≡ false →
    string_bytes b.text ≡ string_bytes a.text ++ act_text a.number ts
reached_text [] a b h k = ap (λ p. string_bytes p.text) h ∙ sym (append-nil (string_bytes a.text))
reached_text (t ∷ ts) a b h k =
    let first : string_bytes h.0.text ≡ string_bytes a.text ++ told_text a.number t =
    h.1.gained (reached_before ts h.0 b h.2 k) in
    let rest : string_bytes b.text ≡ string_bytes h.0.text ++ act_text h.0.number ts = reached_text ts h.0 b h.2 k in
    let same : h.0.number ≡ a.number = h.1.same in
    let group : string_bytes a.text ++ told_text a.number t ++ act_text a.number ts
    ≡ string_bytes a.text ++ (told_text a.number t ++ act_text a.number ts) =
    append_assoc (string_bytes a.text) (told_text a.number t) (act_text a.number ts) in
    cc
