-- What the function owes that C calls for what the shell is told.
use Rattle.std.specs.Prelude.{◌≡◌, ℤ, pos, Option}
use Rattle.c_broker.specs.declared.ears.ShellEvent.{ShellEvent}
use Rattle.c_broker.specs.declared.ears.ShellEvent.TheVariants as shell
use Rattle.c_broker.specs.declared.ears.Heard.{Heard}
use Rattle.c_broker.specs.declared.ears.Heard.TheVariants as hears
use Rattle.c_broker.specs.Ears.{Hands}
use Rattle.c_broker.specs.Seated.{Bytewise}
use Rattle.c_library.specs.declared.broker_told.Told.{Told}
use Rattle.c_library.specs.Called.{CalledOr}

-- the event as C has it
abbrev pub told_of : ShellEvent → Told
told_of (shell.Passed from time key state) = record {
  kind = 19;
  peer = from.peer;
  id = from.id;
  first = time;
  second = key;
  third = pos state;
  fourth = pos 0;
}
told_of (shell.Placed peer id x y) = record {
  kind = 20;
  peer = 0;
  id = 0;
  first = peer;
  second = id;
  third = x;
  fourth = y;
}
told_of (shell.Modified from mods) = record {
  kind = 21;
  peer = from.peer;
  id = from.id;
  first = mods.depressed;
  second = mods.latched;
  third = pos mods.locked;
  fourth = pos mods.group;
}

-- what the shell is handed is written, where it is an event, and answered
abbrev pub Writes : Heard → (was told : Told) → ℤ → Type 0
Writes (hears.Event event) was told result = (told ≡ told_of event) × (result ≡ pos 1)
Writes hears.Missed was told result = (told ≡ was) × (result ≡ pos 6)
Writes hears.Nothing was told result = (told ≡ was) × (result ≡ pos 0)

-- what waited longest is handed out, and all else stays
pub record Handed (old new : Bytewise) (was told : Told) (result : ℤ) : Type 0 where
  pub heard : Heard
  pub hands : Hands old.ears heard new.ears
  pub broker : new.broker ≡ old.broker
  pub held : new.held ≡ old.held
  pub writes : Writes heard was told result

-- the same of what C has
abbrev pub NextCalled : (was told : Told) → Option Bytewise → Option Bytewise → ℤ → Type 0
NextCalled was told = CalledOr (told ≡ was) (λ old new result. Handed old new was told result)
