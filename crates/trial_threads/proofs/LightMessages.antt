-- A message of a peer weighs at most 4,104
use Rattle.std.proofs.Common.{◌≡◌, ◌≤◌, ℕ, List, [], ◌∷◌, ◌++◌, map, subst, arith}
use Rattle.std.proofs.lemmas.List.{length-drop}
use Rattle.wl_wire.specs.Messages.{IsMessage, AreMessages, messages}
use Rattle.wl_wire.proofs.MessagesHoweverCut.{longest}
use Rattle.broker_model.specs.declared.journal.Entry.{Entry}
use Rattle.broker_model.specs.Limits.{weight_of}
use Rattle.hub_calls.specs.Submitted.{message_entry, entries_in}

message_light : (q : ℕ) (m : List ℕ) → IsMessage m → weight_of (message_entry q m) ≤ 4104
message_light q m is =
    let body = length-drop 8 m in
    let most = is.0.1 in
    let size = is.1 in omega arith

light_among : (q : ℕ) (ms : List (List ℕ)) (made : List Entry) (next : Entry) (left : List Entry) → AreMessages ms →
    map (message_entry q) ms ≡ made ++ next ∷ left → weight_of next ≤ 4104
light_among q [] [] next left each is = absurd (cc)
light_among q [] (x ∷ made) next left each is = absurd (cc)
light_among q (m ∷ ms) [] next left each is =
    let same : message_entry q m ≡ next = cc in
    subst (λ (e : Entry). weight_of e ≤ 4104) same (message_light q m each.0)
light_among q (m ∷ ms) (x ∷ made) next left each is =
    let more : map (message_entry q) ms ≡ made ++ next ∷ left = cc in light_among q ms made next left each.1 more

-- so does each of those that bytes begin with
pub light_next : (q : ℕ) (bytes : List ℕ) (made : List Entry) (next : Entry) (left : List Entry) →
    entries_in q bytes ≡ made ++ next ∷ left → weight_of next ≤ 4104
light_next q bytes made next left is = light_among q (messages bytes) made next left (longest bytes).each is
