use Rattle.std.proofs.Common.{◌≡◌, ℕ, List, ◌++◌, Some, OnOk, string_bytes, ap, sym, subst, ◌∙◌, append_assoc}
use Rattle.std.specs.Prelude.{codes}
use Rattle.lines_explained.specs.declared.deed.Source.{Source}
use Rattle.lines_explained.specs.Deed.{message_words}
use Rattle.lines_explained.specs.Phrase.{phrase}
use Rattle.lines_explained.proofs.deed.add_message.Goals as goal

pub returns-in_ok-add_phrase-in-Head : goal.returns-in_ok-add_phrase-in-Head
returns-in_ok-add_phrase-in-Head c =
    let before : List ℕ = string_bytes c.args.line.now in
    let header : List ℕ =
    phrase (codes "message") (Some c.in-Head.opcode) (codes " of size") (Some c.in-Head.size) in
    subst (λ (s : Source). OnOk c.add_words.result (string_bytes c.add_words.new.line ≡ before ++ message_words s))
    (sym c.in-Head.is)
    (subst (λ (t : List ℕ). OnOk c.add_words.result (string_bytes c.add_words.new.line ≡ t))
    (ap (λ (t : List ℕ). t ++ codes " is refused: ") c.in_ok-add_phrase-in-Head.ensures
    ∙ append_assoc before header (codes " is refused: ")) c.add_words.ensures)

pub returns-in-Peer : goal.returns-in-Peer
returns-in-Peer c =
    subst (λ (s : Source). OnOk c.add_words-in-Peer.result
    (string_bytes c.add_words-in-Peer.new.line ≡ string_bytes c.args.line.now ++ message_words s)) (sym c.in-Peer.is)
    c.add_words-in-Peer.ensures

pub returns-in-Shell : goal.returns-in-Shell
returns-in-Shell c =
    subst (λ (s : Source). OnOk c.add_words-in-Shell.result
    (string_bytes c.add_words-in-Shell.new.line ≡ string_bytes c.args.line.now ++ message_words s)) (sym c.in-Shell.is)
    c.add_words-in-Shell.ensures
