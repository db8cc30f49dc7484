-- Messages are spelled one behind the other.
use Rattle.std.proofs.Common.{◌≡◌, ℕ, List, [], ◌∷◌, ◌++◌, refl, sym, ◌∙◌, ap}
use Rattle.std.proofs.lemmas.List.{append_assoc, append-nil}
use Rattle.wl_proto.specs.Spelling.{message_bytes}
use Rattle.client_side.specs.Messages.{Sent, spelled}

pub spelled-append : (a b : List Sent) → spelled (a ++ b) ≡ spelled a ++ spelled b
spelled-append [] b = refl
spelled-append (s ∷ a) b =
    ap (λ r. message_bytes s.object s.message ++ r) (spelled-append a b)
    ∙ sym (append_assoc (message_bytes s.object s.message) (spelled a) (spelled b))

one_more_spelled : (out : List ℕ) (a b : List Sent) → (out ++ spelled a) ++ spelled b ≡ out ++ spelled (a ++ b)
one_more_spelled out a b = append_assoc out (spelled a) (spelled b) ∙ ap (λ r. out ++ r) (sym (spelled-append a b))

-- three lists of messages, and then one message
pub batch_spelled : (before first second third after : List ℕ) (a b c : List Sent) (d : Sent)
    → first ≡ before ++ spelled a
    → second ≡ first ++ spelled b → third ≡ second ++ spelled c → after ≡ third ++ message_bytes d.object d.message
    → after ≡ before ++ spelled (a ++ (b ++ (c ++ (d ∷ []))))
batch_spelled before first second third after a b c d first-is second-is third-is after-is =
    let one : List Sent = d ∷ [] in
    after-is
    ∙ ap (λ r. third ++ r) (sym (append-nil (message_bytes d.object d.message)))
    ∙ ap (λ o. o ++ spelled one) third-is
    ∙ one_more_spelled second c one
    ∙ ap (λ o. o ++ spelled (c ++ one)) second-is
    ∙ one_more_spelled first b (c ++ one)
    ∙ ap (λ o. o ++ spelled (b ++ (c ++ one))) first-is
    ∙ one_more_spelled before a (b ++ (c ++ one))
