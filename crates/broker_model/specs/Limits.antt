-- How much a journal holds: its counted entries and its weight.
use Rattle.std.specs.Prelude.{ℕ, ◌+◌, ◌*◌, List, [], ◌∷◌, length, Bool, true, false, not, ◌&&◌, ◌||◌, nat_le, nat_lt}
use Rattle.std.specs.List.{count_by, sum_by}
use Rattle.broker_steps.specs.declared.limits.Limits.{Limits}
use Rattle.broker_model.specs.declared.journal.Entry.{Entry}
use Rattle.broker_model.specs.declared.journal.Entry.TheVariants.{Message, Tokens, End}

-- the entry is the end of a peer
abbrev pub is_end : Entry → Bool
is_end (End peer cause) = true
is_end _ = false

-- the newest entry is the end of a peer
abbrev pub ends_in_end : List Entry → Bool
ends_in_end [] = false
ends_in_end (e ∷ older) = is_end e

abbrev pub is_counted : Entry → Bool
is_counted e = not (is_end e)

-- how many of the entries aren't ends of peers
abbrev pub number_counted : List Entry → ℕ
number_counted journal = count_by is_counted journal

-- an end weighs nothing, a message 16 and its body's length, tokens 16 and 4 each, and any other
-- entry 16
abbrev pub weight_of : Entry → ℕ
weight_of (End peer cause) = 0
weight_of (Message peer id opcode body) = 16 + length body
weight_of (Tokens peer tokens) = 16 + 4 * length tokens
weight_of _ = 16

-- what all the entries weigh
abbrev pub weight : List Entry → ℕ
weight journal = sum_by weight_of journal

-- the entry isn't an end, and the limit of counted entries is reached or the journal would weigh
-- more than the limit of weight with it
abbrev pub is_full : Limits → List Entry → Entry → Bool
is_full limits journal e =
    not (is_end e)
    && (nat_le limits.entries (number_counted journal)
    || nat_lt limits.weight (weight journal + weight_of e))
