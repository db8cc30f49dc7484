-- What C is shown of a seat.
use Rattle.std.specs.Prelude.{◌≡◌, ℕ, List, length, Bool, true, false, Option, Some, None}
use Rattle.relay_model.specs.declared.act.Act.{Act}
use Rattle.relay_model.specs.Focus.{focus}
use Rattle.relay_model.specs.Hold.{holder}
use Rattle.relay_model.specs.Activation.{serving}
use Rattle.relay_model.specs.Keys.{standing}
use Rattle.relay_model.specs.Idle.{history}
use Rattle.c_relay.specs.Events.{Heard}
use Rattle.c_relay.specs.Seated.{Seated}
use Rattle.c_relay.specs.Numbers.{Numbered, number_at}
use Rattle.c_library.specs.declared.readers.Shown.{Shown}

-- the label, or 0 where there is none
abbrev pub label_or_0 : Option ℕ → ℕ
label_or_0 None = 0
label_or_0 (Some label) = label

-- what is shown after the acts, the newest first
abbrev pub shown_of : List Act → Shown
shown_of log = record {
  acts = length log;
  focus = label_or_0 (focus (history log));
  holder = label_or_0 (holder (history log));
  serving = label_or_0 (serving (history log));
  standing = label_or_0 (standing (history log));
}

-- What C had was asked: none, which is answered by false, with nothing written. Or a seat, which
-- stays as it was, and what stands on it is shown.
abbrev pub IsShown : (old new : Option Numbered) → (before after : Shown) → Bool → Type 0
IsShown None new before after result = (new ≡ None) × (result ≡ false) × (after ≡ before)
IsShown (Some old) new before after result =
    (new ≡ Some old) × (result ≡ true)
    × ((log : List Act) → (waits : List Heard) → Seated old.seat log waits → after ≡ shown_of log)

-- the label's number was asked; 0 where it has none, or no seat is open
abbrev pub IsNumber : (old new : Option Numbered) → (label result : ℕ) → Type 0
IsNumber None new label result = (new ≡ None) × (result ≡ 0)
IsNumber (Some old) new label result = (new ≡ Some old) × (result ≡ number_at old.numbers label)
