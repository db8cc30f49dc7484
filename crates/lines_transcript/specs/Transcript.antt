-- The lines of a session's transcript, each without its line feed. Each begins with the number of
-- its entry.
use Rattle.std.specs.Prelude.{ℕ, ℤ, List, [], ◌∷◌, ◌++◌, map, codes}
use Rattle.std.specs.List.{join_with_byte}
use Rattle.std.specs.Fmt.{decimal, signed_decimal}
use Rattle.relay_model.specs.declared.act.EndCause.{EndCause}
use Rattle.relay_model.specs.declared.act.EndCause.TheVariants.{Gone, Bad, Full}
use Rattle.relay_model.specs.Keys.{Mods}
use Rattle.session_text.specs.Words.{hex_word}

abbrev pub cause_word : EndCause → List ℕ
cause_word Gone = codes "gone"
cause_word Bad = codes "bad"
cause_word Full = codes "full"

-- a peer ended
abbrev pub ended_line : ℕ → ℕ → EndCause → List ℕ
ended_line number peer cause =
    join_with_byte 32 (decimal number ∷ codes "ended" ∷ decimal peer ∷ cause_word cause ∷ [])

-- a peer took so many of its stored bytes
abbrev pub took_line : ℕ → ℕ → ℕ → List ℕ
took_line number peer count =
    join_with_byte 32 (decimal number ∷ codes "took" ∷ decimal peer ∷ decimal count ∷ [])

-- a token after the offset of the byte at which its message begins
abbrev pub token_word : ℕ × ℕ → List ℕ
token_word place = decimal place.0 ++ 58 ∷ decimal place.1

-- a group of events was put into a peer's store: its bytes, and its tokens
abbrev pub out_line : ℕ → ℕ → List ℕ → List (ℕ × ℕ) → List ℕ
out_line number peer group tokens =
    join_with_byte 32 (decimal number ∷ codes "out" ∷ decimal peer ∷ hex_word group ∷
    map token_word tokens)

-- a popup stands on the screen
abbrev pub placed_line : ℕ → ℕ → ℕ → ℤ → ℤ → List ℕ
placed_line number peer i x y =
    join_with_byte 32 (decimal number ∷ codes "placed" ∷ decimal peer ∷ decimal i ∷
    signed_decimal x ∷ signed_decimal y ∷ [])

-- a key that no grab has
abbrev pub pass_line : ℕ → ℕ → ℕ → ℕ → List ℕ
pass_line number time key state =
    join_with_byte 32 (decimal number ∷ codes "pass" ∷ decimal time ∷ decimal key ∷
    decimal state ∷ [])

-- modifiers of a board that no grab has
abbrev pub vmods_line : ℕ → Mods → List ℕ
vmods_line number mods =
    join_with_byte 32
    (decimal number ∷ codes "vmods" ∷ decimal mods.depressed ∷ decimal mods.latched ∷
    decimal mods.locked ∷ decimal mods.group ∷ [])
