-- What the functions that C calls owe where they give the seat an act, in the words of the safe
-- calls.
use Rattle.std.specs.Prelude.{◌≡◌, ◌⊎◌, ◌<◌, ◌≤◌, ℕ, ℤ, pos, negsuc, List, [], length, Bool, true, false, Option, Some, None, Result, Ok, Err}
use Rattle.broker_telling.specs.Texts.{is_text}
use Rattle.relay_model.specs.declared.act.Act.{Act}
use Rattle.relay_model.specs.declared.act.Act.TheVariants as acts
use Rattle.c_relay.specs.declared.census.SeatLimits.{SeatLimits}
use Rattle.c_relay.specs.declared.seat.Refusal.{Refusal}
use Rattle.c_relay.specs.declared.seat.Refusal.TheVariants.{NoMemory, Full, Long, Many}
use Rattle.c_relay.specs.Seated.{Seated, IsCounted}
use Rattle.c_relay.specs.Numbers.{Numbered, Numbers, Gives, GivesMade, SeatTook, SeatCounts}

-- the act's number, 0 where it does nothing, or why it was not taken
abbrev pub answer_of : Result (Option ℕ) Refusal → ℤ
answer_of (Ok (Some number)) = pos number
answer_of (Ok None) = pos 0
answer_of (Err NoMemory) = negsuc 0
answer_of (Err Full) = negsuc 1
answer_of (Err Long) = negsuc 2
answer_of (Err Many) = negsuc 6

-- An act was given to what C had: none, which answers that it is closed. Or a seat, which took it,
-- did nothing or refused it, as the answer says, and whose numbers changed so.
abbrev pub Acted : (Numbers → Numbers → Result (Option ℕ) Refusal → Type 0) → Option Numbered →
    Option Numbered → Act → ℤ → Type 0
Acted Changed None new act result = (new ≡ None) × (result ≡ negsuc 4)
Acted Changed (Some old) None act result = ⊥
Acted Changed (Some old) (Some new) act result =
    (answer : Result (Option ℕ) Refusal) × (result ≡ answer_of answer)
    × SeatTook old.seat new.seat act answer × SeatCounts old.seat new.seat act answer
    × Changed old.numbers new.numbers answer

-- an act was given that leaves all numbers as they were
abbrev pub Took : Option Numbered → Option Numbered → Act → ℤ → Type 0
Took = Acted (λ old new answer. new ≡ old)

-- an act was given that makes an object, which has the number then
abbrev pub Made : (number : ℕ) → Option Numbered → Option Numbered → Act → ℤ → Type 0
Made number = Acted (λ old new answer. GivesMade answer old new number)

-- the end of an object was given, whose number is forgotten
abbrev pub Ended : (label : ℕ) → Option Numbered → Option Numbered → ℤ → Type 0
Ended label old new result =
    Acted (λ before after answer. Gives before after label 0) old new (acts.Drop label) result

-- why bytes were not taken as a text: there are more than may be, there was no memory for a copy,
-- or they are none
abbrev pub NoText : (most : ℕ) → List ℕ → ℤ → Type 0
NoText most bytes answer =
    ((answer ≡ negsuc 2) × (most < length bytes)) ⊎ (answer ≡ negsuc 0)
    ⊎ ((answer ≡ negsuc 3) × (is_text bytes ≡ false))

-- the bytes are a text, of so many at most
abbrev pub IsTextOf : (most : ℕ) → List ℕ → Type 0
IsTextOf most bytes = (is_text bytes ≡ true) × (length bytes ≤ most)

-- the text is the bytes, which are one, or why they were not taken
abbrev pub TextRead : (most : ℕ) → List ℕ → Result (List ℕ) ℤ → Type 0
TextRead most bytes (Ok text) = IsTextOf most bytes × (text ≡ bytes)
TextRead most bytes (Err answer) = NoText most bytes answer

-- the bytes are a text, and an act with it was given to what C had, or they were not taken and all
-- is as before
abbrev pub TookText : Option Numbered → Option Numbered → (most : ℕ) → List ℕ → (List ℕ → Act) → ℤ →
    Type 0
TookText old new most bytes act result =
    (IsTextOf most bytes × Took old new (act bytes) result)
    ⊎ ((new ≡ old) × NoText most bytes result)

-- a seat that took no act, with these limits, where no label has a number, or none, as the answer
-- says
abbrev pub IsNewOr : SeatLimits → Bool → Option Numbered → Type 0
IsNewOr limits true (Some made) =
    Seated made.seat [] [] × IsCounted made.seat [] × (made.seat.limits ≡ limits)
    × (made.numbers ≡ [])
IsNewOr limits false None = Unit {0}
IsNewOr limits _ _ = ⊥
