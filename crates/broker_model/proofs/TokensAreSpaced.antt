-- The tokens of a group are spaced as a store asks for it.
use Rattle.std.proofs.Common.{◌≡◌, ℕ, ◌+◌, ◌≤◌, ◌==◌, List, [], ◌∷◌, ◌++◌, length, map, Bool, true, false, Option, Some, None, refl, sym, ap, ◌∙◌, subst, arith, length-append, if◌then◌else◌}
use Rattle.std.proofs.lemmas.List.{map-append}
use Rattle.wl_proto.specs.declared.interface.Interface.TheVariants as interface
use Rattle.wl_proto.specs.Grammar.{word, token}
use Rattle.wl_proto.specs.Rows.{message}
use Rattle.wl_proto.specs.Spelling.{row_bytes, message_bytes}
use Rattle.out_store.specs.Spacing.{IsSpaced}
use Rattle.out_store.proofs.CellsMove.{raise, IsSpaced-append}
use Rattle.relay_model.specs.declared.said.Said.{Said}
use Rattle.relay_model.specs.declared.said.Said.TheVariants as said
use Rattle.broker_model.specs.Ids.{Made, made_as}
use Rattle.broker_model.specs.Groups.{Token, Piece, pair_of, nothing, later, followed_by, message_of, message_piece, event_piece, group_for}
use Rattle.broker_model.specs.Stored.{AreSpaced, GroupsAreSpaced}

-- tokens behind more bytes, as pairs
pub pairs_later : (n : ℕ) (tokens : List Token) → map pair_of (map (later n) tokens) ≡ raise n (map pair_of tokens)
pairs_later n [] = refl
pairs_later n (t ∷ rest) =
    ap (λ (k : ℕ). (k, t.token) ∷ map pair_of (map (later n) rest)) {x = n + t.offset} {y = t.offset + n} (omega arith)
    ∙ ap (λ (l : List (ℕ × ℕ)). (t.offset + n, t.token) ∷ l) (pairs_later n rest)

pub pairs_followed : (a b : Piece) →
    map pair_of (followed_by a b).tokens ≡ map pair_of a.tokens ++ raise (length a.bytes) (map pair_of b.tokens)
pairs_followed a b =
    map-append pair_of a.tokens (map (later (length a.bytes)) b.tokens)
    ∙ ap (λ (l : List (ℕ × ℕ)). map pair_of a.tokens ++ l) (pairs_later (length a.bytes) b.tokens)

pub spaced_followed : (a b : Piece) → AreSpaced a → AreSpaced b → AreSpaced (followed_by a b)
spaced_followed a b first second =
    let joined =
    IsSpaced-append 0 (length a.bytes) (length b.bytes) (map pair_of a.tokens)
    (map pair_of b.tokens) first second in
    let pairs = map pair_of a.tokens ++ raise (length a.bytes) (map pair_of b.tokens) in
    subst (λ (l : List (ℕ × ℕ)). IsSpaced 0 l (length (a.bytes ++ b.bytes))) (sym (pairs_followed a b))
    (subst (λ (n : ℕ). IsSpaced 0 pairs n) (sym (length-append a.bytes b.bytes)) joined)

-- a header and two words
keymap_long : (id format t size : ℕ) →
    16 ≤ length (message_bytes id (message interface.KeyboardGrab 0 (word format ∷ token t ∷ word size ∷ [])))
unfolding row_bytes
keymap_long id format t size = omega arith

-- only a keymap has a token
spaced_message : (made : List Made) (id : ℕ) (event : Said) → AreSpaced (message_piece id (message_of made event))
spaced_message made id (said.Enter surface) = omega arith
spaced_message made id (said.Leave surface) = omega arith
spaced_message made id (said.Preedit t begin end) = omega arith
spaced_message made id (said.CommitString t) = omega arith
spaced_message made id (said.Delete before after) = omega arith
spaced_message made id (said.FieldDone serial) = omega arith
spaced_message made id said.Activate = omega arith
spaced_message made id said.Deactivate = omega arith
spaced_message made id (said.Surrounding t cursor anchor) = omega arith
spaced_message made id (said.ChangeCause cause) = omega arith
spaced_message made id (said.ContentType hint purpose) = omega arith
spaced_message made id said.MethodDone = omega arith
spaced_message made id said.Unavailable = omega arith
spaced_message made id (said.PopupRect x y width height) = omega arith
spaced_message made id (said.Keymap keymap) = (omega arith, keymap_long id keymap.format keymap.token keymap.size)
spaced_message made id (said.Key serial time key state) = omega arith
spaced_message made id (said.Mods serial mods) = omega arith
spaced_message made id (said.Repeat repeat) = omega arith
spaced_message made id (said.Global name i version) = omega arith
spaced_message made id (said.CallbackDone value) = omega arith
spaced_message made id (said.DeleteId label) = omega arith
spaced_message made id (said.Capabilities value) = omega arith
spaced_message made id (said.Error object fault) = omega arith
spaced_message made id (said.Pass time key state) = omega arith
spaced_message made id (said.VMods mods) = omega arith
spaced_message made id (said.Placed popup x y) = omega arith

pub spaced_nothing : AreSpaced nothing
spaced_nothing = omega arith

spaced_event : (made : List Made) (p : ℕ) (event : Said) (m : Option Made) → AreSpaced (event_piece made p event m)
spaced_event made p event None = spaced_nothing
spaced_event made p event (Some m) = by (m.peer == p)
  where
    by : (b : Bool) → AreSpaced (if b then message_piece m.id (message_of made event) else nothing)
    by true = spaced_message made m.id event
    by false = spaced_nothing

pub spaced_group : GroupsAreSpaced
spaced_group made p [] = spaced_nothing
spaced_group made p (t ∷ rest) =
    spaced_followed (event_piece made p t.event (made_as made t.to)) (group_for made p rest)
    (spaced_event made p t.event (made_as made t.to)) (spaced_group made p rest)
