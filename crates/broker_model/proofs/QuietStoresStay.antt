-- What a store holds, and that an entry which tells a peer nothing leaves what is out for it.
use Rattle.std.proofs.Common.{◌≡◌, ℕ, ◌+◌, ◌-◌, ◌≤◌, List, [], ◌∷◌, ◌++◌, length, Bool, true, false, ap, ap₂, refl, ◌∙◌, arith, append-nil, length-append, length-drop}
use Rattle.std.proofs.lemmas.Bool.{leb-true, le-leb}
use Rattle.broker_model.specs.declared.journal.Entry.{Entry}
use Rattle.broker_model.specs.Groups.{Token, Piece, nothing, followed_by}
use Rattle.broker_model.specs.Out.{Outgoing, group_at, stored, fits, with_group, before_group, out_for}
use Rattle.broker_model.specs.Law.{StoresHold}

abbrev IsHeld : ℕ → Outgoing → Type 0
IsHeld capacity out = length out.put.bytes - out.taken ≤ capacity

held_by : (b : Bool) (capacity : ℕ) (group : Piece) (out : Outgoing) → fits capacity group out ≡ b →
    IsHeld capacity out →
    IsHeld capacity (with_group capacity group out)
held_by true capacity group out e h =
    let room : (length out.put.bytes - out.taken) + length group.bytes ≤ capacity = leb-true _ _ e in
    let more : length (out.put.bytes ++ group.bytes) ≡ length out.put.bytes + length group.bytes =
    length-append out.put.bytes group.bytes in
    let within : length (out.put.bytes ++ group.bytes) - out.taken ≤ capacity = omega arith in
    rw e within
held_by false capacity group out e h = rw e h

pub held : (capacity : ℕ) (journal : List Entry) (p : ℕ) →
    length (out_for capacity journal p).put.bytes - (out_for capacity journal p).taken ≤ capacity
held capacity [] p = omega arith
held capacity (e ∷ older) p =
    let before : length (out_for capacity older p).put.bytes - (out_for capacity older p).taken ≤ capacity =
    held capacity older p in
    held_by (fits capacity (group_at e older p) (before_group e older p (out_for capacity older p))) capacity
    (group_at e older p)
    (before_group e older p (out_for capacity older p)) refl (omega arith)

pub stores_hold : StoresHold
stores_hold capacity journal p =
    let d : length (stored (out_for capacity journal p))
    ≡ length (out_for capacity journal p).put.bytes - (out_for capacity journal p).taken =
    length-drop (out_for capacity journal p).taken (out_for capacity journal p).put.bytes in
    let h : length (out_for capacity journal p).put.bytes - (out_for capacity journal p).taken ≤ capacity =
    held capacity journal p in
    omega arith

-- nothing always fits, and changes nothing

with_nothing : (out : Piece) → followed_by out nothing ≡ out
with_nothing out =
    ap₂ (λ (bytes : List ℕ) (tokens : List Token). record { bytes = bytes; tokens = tokens }) (append-nil out.bytes)
    (append-nil out.tokens)

nothing_put : (capacity : ℕ) (out : Outgoing) → IsHeld capacity out → with_group capacity nothing out ≡ out
nothing_put capacity out h =
    let e : fits capacity nothing out ≡ true = le-leb _ _ (omega arith) in
    rw e (ap (λ (put : Piece). record out { put = put }) (with_nothing out.put))

pub quiet_out : (capacity : ℕ) (e : Entry) (older : List Entry) (p : ℕ) → group_at e older p ≡ nothing →
    out_for capacity (e ∷ older) p ≡ before_group e older p (out_for capacity older p)
quiet_out capacity e older p h =
    let before : length (out_for capacity older p).put.bytes - (out_for capacity older p).taken ≤ capacity =
    held capacity older p in
    ap (λ group. with_group capacity group (before_group e older p (out_for capacity older p))) h
    ∙ nothing_put capacity (before_group e older p (out_for capacity older p)) (omega arith)
