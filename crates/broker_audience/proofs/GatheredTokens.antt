-- Tokens as pairs, and how they lie in what is gathered.
use Rattle.std.proofs.Common.{◌≡◌, ℕ, ◌≤◌, List, [], ◌∷◌, ◌++◌, length, map, Some, None, refl, ap, arith}
use Rattle.wl_proto.specs.declared.event.Event.{Event}
use Rattle.wl_proto.specs.declared.event.Event.TheVariants as event
use Rattle.wl_proto.specs.Rows.{event_message}
use Rattle.wl_proto.specs.Spelling.{row_bytes, message_bytes}
use Rattle.broker_model.specs.Groups.{Piece, pair_of, token_of_pair, later, message_piece, tokens_in}
use Rattle.broker_model.specs.Stored.{AreSpaced}
use Rattle.broker_model.proofs.TokensAreSpaced.{spaced_followed}

pub pairs_stay : (pairs : List (ℕ × ℕ)) → map pair_of (map token_of_pair pairs) ≡ pairs
pairs_stay [] = refl
pairs_stay (pair ∷ rest) = ap (λ l. pair ∷ l) (pairs_stay rest)

-- a header and two words
keymap_long : (id format t size : ℕ) → 16 ≤ length (message_bytes id (event_message (event.Keymap format t size)))
unfolding row_bytes
keymap_long id format t size = omega arith

-- only a keymap has a token
spaced_event : (id : ℕ) (e : Event) → AreSpaced (message_piece id (Some (event_message e)))
spaced_event id (event.Error object code m) = omega arith
spaced_event id (event.DeleteId label) = omega arith
spaced_event id (event.Global name interface version) = omega arith
spaced_event id (event.GlobalRemove name) = omega arith
spaced_event id (event.CallbackDone value) = omega arith
spaced_event id (event.Capabilities value) = omega arith
spaced_event id (event.Enter surface) = omega arith
spaced_event id (event.Leave surface) = omega arith
spaced_event id (event.PreeditString None begin end) = omega arith
spaced_event id (event.PreeditString (Some t) begin end) = omega arith
spaced_event id (event.CommitString None) = omega arith
spaced_event id (event.CommitString (Some t)) = omega arith
spaced_event id (event.DeleteSurroundingText before after) = omega arith
spaced_event id (event.TextInputDone serial) = omega arith
spaced_event id event.Activate = omega arith
spaced_event id event.Deactivate = omega arith
spaced_event id (event.SurroundingText t cursor anchor) = omega arith
spaced_event id (event.TextChangeCause cause) = omega arith
spaced_event id (event.ContentType hint purpose) = omega arith
spaced_event id event.InputMethodDone = omega arith
spaced_event id event.Unavailable = omega arith
spaced_event id (event.TextInputRectangle x y width height) = omega arith
spaced_event id (event.Keymap format t size) = (omega arith, keymap_long id format t size)
spaced_event id (event.Key serial time key state) = omega arith
spaced_event id (event.Modifiers serial depressed latched locked group) = omega arith
spaced_event id (event.RepeatInfo rate delay) = omega arith

-- one more event behind what is gathered, whose length is n
pub spaced_put : (n id : ℕ) (e : Event) (before after : Piece) → length before.bytes ≡ n → AreSpaced before →
    after.bytes ≡ before.bytes ++ message_bytes id (event_message e) →
    after.tokens ≡ before.tokens ++ map (later n) (tokens_in (event_message e).values) →
    AreSpaced after
spaced_put n id e before after long spaced bytes tokens =
    rw (bytes, tokens, ← long)
    (spaced_followed before (message_piece id (Some (event_message e))) spaced (spaced_event id e))
