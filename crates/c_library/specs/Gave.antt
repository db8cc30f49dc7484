-- What C is given of the events that wait.
use Rattle.std.specs.Prelude.{◌≡◌, ◌⊎◌, ◌+◌, ◌≤◌, ℕ, ℤ, pos, negsuc, ◌++◌, List, [], ◌∷◌, length, drop, Option, Some, None}
use Rattle.relay_model.specs.declared.act.Act.{Act}
use Rattle.relay_core.specs.Stands.{StandsFor}
use Rattle.c_relay.specs.Events.{Heard}
use Rattle.c_relay.specs.Seated.{Seat}
use Rattle.c_relay.specs.Numbers.{Numbered, number_at}
use Rattle.c_library.specs.declared.events.Given.{Given}

-- the text with a zero behind it stands at the front of the bytes after, which are else those before
abbrev pub IsZeroEnded : (text before after : List ℕ) → Type 0
IsZeroEnded text before after = after ≡ text ++ 0 ∷ drop (length text + 1) before

-- nothing waits, which is answered by 0, or the event that does has no room, by -6; nothing is
-- written
abbrev pub GaveNone : (old : Seat) → (before : List ℕ) → ℤ → Type 0
GaveNone old before result =
    ((result ≡ pos 0) × (old.heard ≡ []))
    ⊎ ((result ≡ negsuc 5) × (first : Heard) × (rest : List Heard) × (old.heard ≡ first ∷ rest)
    × (length before ≤ length first.text))

-- the seat stands for the same acts, the same events wait, and each label has the number that it
-- had
abbrev pub IsSame : (old new : Numbered) → Type 0
IsSame old new =
    ((log : List Act) → StandsFor old.seat.relay log → StandsFor new.seat.relay log)
    × (new.seat.heard ≡ old.seat.heard) × (new.seat.living ≡ old.seat.living)
    × (new.seat.popups ≡ old.seat.popups) × (new.seat.limits ≡ old.seat.limits)
    × (new.numbers ≡ old.numbers)

-- the event that waited longest was written, with its text and its object's number, and waits no
-- more; the seat stands for the same acts
pub record GaveFirst (old new : Numbered) (given : Given) (before after : List ℕ) : Type 0 where
  pub text : List ℕ
  pub first : old.seat.heard ≡ record { event = given.event; text = text } ∷ new.seat.heard
  pub number : given.number ≡ number_at old.numbers given.event.to
  pub written : IsZeroEnded text before after
  pub relay : (log : List Act) → StandsFor old.seat.relay log → StandsFor new.seat.relay log
  pub living : new.seat.living ≡ old.seat.living
  pub popups : new.seat.popups ≡ old.seat.popups
  pub limits : new.seat.limits ≡ old.seat.limits
  pub numbers : new.numbers ≡ old.numbers

-- what the seat did when it was asked for the event that waits longest
abbrev pub Gave : (old new : Numbered) → (was given : Given) → (before after : List ℕ) → ℤ → Type 0
Gave old new was given before after result =
    (GaveNone old.seat before result × IsSame old new × (given ≡ was) × (after ≡ before))
    ⊎ ((result ≡ pos 1) × GaveFirst old new given before after)

-- what C had was asked: none, which answers that it is closed and writes nothing, or a seat
abbrev pub GaveOf : (old new : Option Numbered) → (was given : Given) → (before after : List ℕ) →
    ℤ → Type 0
GaveOf None new was given before after result =
    (new ≡ None) × (result ≡ negsuc 4) × (given ≡ was) × (after ≡ before)
GaveOf (Some old) None was given before after result = ⊥
GaveOf (Some old) (Some new) was given before after result =
    Gave old new was given before after result
