-- The lines that show fields, one after the other.
use Rattle.std.proofs.Common.{◌≡◌, ℕ, suc, ◌+◌, ◌<◌, List, [], ◌∷◌, ◌++◌, length, take, get_or, sym, ap, ◌∙◌, append_assoc, arith}
use Rattle.std.proofs.lemmas.List.{append-nil, take_more, length-take}
use Rattle.trial_run.specs.FieldLog.{text_of}
use Rattle.trial_client_logs.specs.declared.entry.FieldEntry.{FieldEntry}
use Rattle.trial_client_logs.specs.Logs.{field_log}
use Rattle.trial_run.specs.Lines.{show_line}
use Rattle.program_threads.specs.Output.{shown_from}

abbrev line_of : ℕ → List FieldEntry → List ℕ
line_of n log = show_line n (text_of (field_log log))

shown_push : (n : ℕ) (logs : List (List FieldEntry)) (log : List FieldEntry) →
    shown_from n (logs ++ log ∷ []) ≡ shown_from n logs ++ line_of (n + length logs) log
shown_push n [] log = let same : n + 0 ≡ n = omega arith in rw same (append-nil (line_of n log))
shown_push n (x ∷ xs) log =
    let same : n + 1 + length xs ≡ n + suc (length xs) = omega arith in
    ap (λ t. line_of n x ++ t) (shown_push (n + 1) xs log)
    ∙ sym (append_assoc (line_of n x) (shown_from (n + 1) xs) (line_of (n + 1 + length xs) log))
    ∙ ap (λ m. (line_of n x ++ shown_from (n + 1) xs) ++ line_of m log) same

-- one field more
pub field_shown : (before now after : List ℕ) (logs : List (List FieldEntry)) (i number : ℕ) (x : List FieldEntry)
    → i < length logs → number ≡ i → x ≡ get_or logs i x → now ≡ before ++ shown_from 1 (take i logs)
    → after ≡ now ++ show_line (number + 1) (text_of (field_log x))
    → after ≡ before ++ shown_from 1 (take (i + 1) logs)
field_shown before now after logs i number x lt number-is at is more =
    let longer : take (i + 1) logs ≡ take i logs ++ x ∷ [] =
    take_more logs i x lt ∙ ap (λ (y : List FieldEntry). take i logs ++ y ∷ []) (sym at) in
    let counted : number + 1 ≡ 1 + length (take i logs) =
    (let len = length-take i logs in omega (arith, len, lt, number-is)) in
    more
    ∙ ap (λ t. t ++ line_of (number + 1) x) is
    ∙ append_assoc before (shown_from 1 (take i logs)) (line_of (number + 1) x)
    ∙ ap (λ m. before ++ (shown_from 1 (take i logs) ++ line_of m x)) counted
    ∙ ap (λ t. before ++ t) (sym (shown_push 1 (take i logs) x))
    ∙ ap (λ l. before ++ shown_from 1 l) (sym longer)
