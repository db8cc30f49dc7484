-- The messages that bytes begin with, by the first of them.
use Rattle.std.proofs.Common.{◌≡◌, ℕ, List, [], ◌∷◌, ◌++◌, length, refl, sym, ap, subst, ◌∙◌, arith, append_assoc, length-append}
use Rattle.std.proofs.lemmas.List.{append_cancel_left, append-nil}
use Rattle.wl_wire.specs.Messages.{IsMessage, messages, joined, AreMessages}
use Rattle.wl_wire.proofs.MessagesHoweverCut.{longest}

joined-append : (xs ys : List (List ℕ)) → joined (xs ++ ys) ≡ joined xs ++ joined ys
joined-append [] ys = refl
joined-append (x ∷ xs) ys =
    ap (λ (r : List ℕ). x ++ r) (joined-append xs ys) ∙ sym (append_assoc x (joined xs) (joined ys))

are_messages-tail : (m : List ℕ) (ms : List (List ℕ)) → AreMessages (m ∷ ms) → AreMessages ms
are_messages-tail m ms each = each.1

-- a list that is itself with more behind it has no more behind it
none_more : {A : Type 0} (xs further more : List A) → xs ≡ (xs ++ further) ++ more → further ≡ []
none_more xs [] more e = refl
none_more xs (y ∷ further) more e =
    absurd (let len = ap length e in
    omega (arith, length-append (xs ++ y ∷ further) more, length-append xs (y ∷ further)))

-- a message at the front comes first
pub first_is : (m rest : List ℕ) → IsMessage m → messages (m ++ rest) ≡ m ∷ messages rest
first_is m rest is =
    let all = longest (m ++ rest) in
    let later = longest rest in
    let front : m ++ rest ≡ joined (m ∷ messages rest) ++ later.rest =
    ap (λ (r : List ℕ). m ++ r) later.front ∙ sym (append_assoc m (joined (messages rest)) later.rest) in
    let found = all.longest (m ∷ messages rest) later.rest (is, later.each) front in
    let further : List (List ℕ) = found.0 in
    let each : AreMessages (messages rest ++ further) =
    are_messages-tail m (messages rest ++ further) (subst (λ (ms : List (List ℕ)). AreMessages ms) found.1 all.each) in
    let parts : m ++ rest ≡ m ++ (joined (messages rest ++ further) ++ all.rest) =
    all.front ∙ ap (λ (ms : List (List ℕ)). joined ms ++ all.rest) found.1
    ∙ append_assoc m (joined (messages rest ++ further)) all.rest in
    let more = later.longest (messages rest ++ further) all.rest each (append_cancel_left m rest _ parts) in
    found.1 ∙ ap (λ (f : List (List ℕ)). m ∷ (messages rest ++ f)) (none_more (messages rest) further more.0 more.1)
    ∙ ap (λ (ms : List (List ℕ)). m ∷ ms) (append-nil (messages rest))

-- so do several
pub found_first : (ms : List (List ℕ)) (rest : List ℕ) → AreMessages ms →
    messages (joined ms ++ rest) ≡ ms ++ messages rest
found_first [] rest each = refl
found_first (m ∷ ms) rest each =
    ap messages (append_assoc m (joined ms) rest) ∙ first_is m (joined ms ++ rest) each.0
    ∙ ap (λ (r : List (List ℕ)). m ∷ r) (found_first ms rest each.1)

-- where no message is at the front, there is none
pub none_is : (bytes : List ℕ) → ((m rest : List ℕ) → bytes ≡ m ++ rest → IsMessage m → ⊥) → messages bytes ≡ []
none_is bytes none = by (messages bytes) refl (longest bytes).each (longest bytes).front
  where
    by : (ms : List (List ℕ)) → messages bytes ≡ ms → AreMessages ms → bytes ≡ joined ms ++ (longest bytes).rest →
        messages bytes ≡ []
    by [] e each front = e
    by (m ∷ ms) e each front =
        absurd (none m (joined ms ++ (longest bytes).rest)
        (front ∙ append_assoc m (joined ms) (longest bytes).rest) each.0)
