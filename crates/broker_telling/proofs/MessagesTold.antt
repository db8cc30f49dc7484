-- The messages of what an act tells a peer.
use Rattle.std.proofs.Common.{◌≡◌, ℕ, Bool, true, false, List, [], ◌∷◌, ◌++◌, Option, Some, None, refl, sym, ap, ◌∙◌}
use Rattle.std.specs.Prelude.{if◌then◌else◌, ◌==◌}
use Rattle.std.specs.List.{AllByRecursion}
use Rattle.std.proofs.lemmas.List.{append-nil, append_assoc}
use Rattle.std.proofs.lemmas.Bool.{eqb-true}
use Rattle.wl_wire.specs.Messages.{IsMessage, AreMessages, joined}
use Rattle.wl_proto.specs.Rows.{Message}
use Rattle.wl_proto.specs.Spelling.{message_bytes}
use Rattle.relay_model.specs.declared.said.Told.{Told}
use Rattle.relay_model.specs.declared.said.Said.{Said}
use Rattle.broker_model.specs.Ids.{Made, made_as}
use Rattle.broker_model.specs.Groups.{nothing, message_of, message_piece, event_piece, group_for}
use Rattle.broker_model.proofs.EachElement.{each_append}

abbrev pub said_messages : ℕ → Option Message → List (List ℕ)
said_messages id None = []
said_messages id (Some m) = message_bytes id m ∷ []

abbrev pub piece_messages : List Made → ℕ → Said → Option Made → List (List ℕ)
piece_messages made p event None = []
piece_messages made p event (Some m) = if m.peer == p then said_messages m.id (message_of made event) else []

abbrev pub told_messages : List Made → ℕ → List Told → List (List ℕ)
told_messages made p [] = []
told_messages made p (t ∷ ts) = piece_messages made p t.event (made_as made t.to) ++ told_messages made p ts

pub joined_both : (xs ys : List (List ℕ)) → joined (xs ++ ys) ≡ joined xs ++ joined ys
joined_both [] ys = refl
joined_both (x ∷ xs) ys = ap (λ (r : List ℕ). x ++ r) (joined_both xs ys) ∙ sym (append_assoc x (joined xs) (joined ys))

message_joined : (id : ℕ) (o : Option Message) → (message_piece id o).bytes ≡ joined (said_messages id o)
message_joined id None = refl
message_joined id (Some m) = sym (append-nil (message_bytes id m))

piece_joined : (made : List Made) (p : ℕ) (event : Said) (o : Option Made) →
    (event_piece made p event o).bytes ≡ joined (piece_messages made p event o)
piece_joined made p event None = refl
piece_joined made p event (Some m) = by (m.peer == p)
  where
    by : (b : Bool) → (if b then message_piece m.id (message_of made event) else nothing).bytes
        ≡ joined (if b then said_messages m.id (message_of made event) else [])
    by true = message_joined m.id (message_of made event)
    by false = refl

-- the bytes of a group are its messages, one behind the other
pub told_joined : (made : List Made) (p : ℕ) (ts : List Told) →
    (group_for made p ts).bytes ≡ joined (told_messages made p ts)
told_joined made p [] = refl
told_joined made p (t ∷ ts) =
    ap (λ (l : List ℕ). (event_piece made p t.event (made_as made t.to)).bytes ++ l) (told_joined made p ts)
    ∙ ap (λ (l : List ℕ). l ++ joined (told_messages made p ts)) (piece_joined made p t.event (made_as made t.to))
    ∙ sym (joined_both (piece_messages made p t.event (made_as made t.to)) (told_messages made p ts))

-- what holds of the message of each event that the peer is told
abbrev pub TellsSo : List Made → ℕ → (List ℕ → Type 0) → Told → Type 0
TellsSo made p P t =
    (m : Made) → made_as made t.to ≡ Some m → m.peer ≡ p → (x : Message) → message_of made t.event ≡ Some x →
    P (message_bytes m.id x)

piece_each : (made : List Made) (p : ℕ) (P : List ℕ → Type 0) (t : Told) (o : Option Made) → made_as made t.to ≡ o →
    TellsSo made p P t →
    AllByRecursion P (piece_messages made p t.event o)
piece_each made p P t None e h = tt
piece_each made p P t (Some m) e h = by (m.peer == p) refl
  where
    each : (o : Option Message) → message_of made t.event ≡ o → m.peer ≡ p → AllByRecursion P (said_messages m.id o)
    each None q s = tt
    each (Some x) q s = (h m e s x q, tt)

    by : (b : Bool) → (m.peer == p) ≡ b →
        AllByRecursion P (if b then said_messages m.id (message_of made t.event) else [])
    by true q = each (message_of made t.event) refl (eqb-true m.peer p q)
    by false q = tt

-- holds of each message
pub told_each : (made : List Made) (p : ℕ) (P : List ℕ → Type 0) (ts : List Told) →
    AllByRecursion (TellsSo made p P) ts →
    AllByRecursion P (told_messages made p ts)
told_each made p P [] h = tt
told_each made p P (t ∷ ts) h =
    each_append P (piece_messages made p t.event (made_as made t.to)) (told_messages made p ts)
    (piece_each made p P t (made_as made t.to) refl h.0) (told_each made p P ts h.1)

pub all_messages : (ms : List (List ℕ)) → AllByRecursion IsMessage ms → AreMessages ms
all_messages [] h = tt
all_messages (m ∷ ms) h = (h.0, all_messages ms h.1)

pub are_both : (xs ys : List (List ℕ)) → AreMessages xs → AreMessages ys → AreMessages (xs ++ ys)
are_both [] ys h k = k
are_both (x ∷ xs) ys h k = (h.0, are_both xs ys h.1 k)
