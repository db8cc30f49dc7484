-- A thing told as an event of the wire.
use Rattle.std.specs.Prelude.{◌≡◌, ℕ, List, [], ◌∷◌, Option, Some, None, option_map, IfSome}
use Rattle.relay_model.specs.declared.said.Said.{Said}
use Rattle.relay_model.specs.declared.said.Said.TheVariants as said
use Rattle.wl_proto.specs.declared.event.Event.{Event}
use Rattle.wl_proto.specs.Rows.{Message, event_message}
use Rattle.broker_model.specs.Ids.{Made, made_as}
use Rattle.broker_model.specs.Groups.{Token, id_of, message_of, tokens_in}

-- the label whose id the event names
abbrev pub named : Said → Option ℕ
named (said.Enter surface) = Some surface
named (said.Leave surface) = Some surface
named (said.DeleteId label) = Some label
named (said.Error object fault) = Some object
named _ = None

-- an event that says what is told, where the object that it names has the id; None for what the
-- shell is told
abbrev pub IsEventOf : Said → ℕ → Option Event → Type 0
IsEventOf said id event =
    (made : List Made) → IfSome (named said) (λ label. id_of (made_as made label) ≡ id) →
    option_map event_message event ≡ message_of made said

-- a token at a message's first byte, or none
abbrev pub first_token : Option ℕ → List Token
first_token None = []
first_token (Some token) = record { offset = 0; token = token } ∷ []

-- the tokens that go with a message, if there is one
abbrev pub tokens_with : Option Message → List Token
tokens_with None = []
tokens_with (Some m) = tokens_in m.values

-- the token that goes with the message of what is told, if one does
abbrev pub IsTokenOf : Said → Option ℕ → Type 0
IsTokenOf said token = (made : List Made) → tokens_with (message_of made said) ≡ first_token token
