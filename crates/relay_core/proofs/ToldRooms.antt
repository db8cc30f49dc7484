-- The room that is made for an act has what it tells.
use Rattle.std.proofs.Common.{◌≡◌, ℕ, ◌+◌, ◌≤◌, List, [], ◌++◌, append-nil, length, Bool, true, false, Option, Some, None, ap, refl, sym, subst, arith}
use Rattle.std.specs.Prelude.{IfSome}
use Rattle.std.proofs.lemmas.Bool.{true≢false}
use Rattle.relay_model.specs.declared.act.Act.{Act}
use Rattle.relay_model.specs.declared.act.Act.TheVariants as acts
use Rattle.relay_model.specs.Keys.{Mods}
use Rattle.relay_model.specs.Idle.{history}
use Rattle.relay_model.specs.Told.{told}
use Rattle.relay_model.proofs.ActsOrIdle.{history_is}
use Rattle.kbd_grab.specs.declared.keyboard.Route.{Route}
use Rattle.kbd_grab.specs.declared.keyboard.Route.TheVariants.{ToGrab, Pass, Nowhere, TooMany}
use Rattle.relay_objects.specs.declared.spare.Spare.{Spare}
use Rattle.relay_core.specs.Machine.{State, tells}
use Rattle.relay_core.specs.BoardKeys.{Boards, sent_by, sent_told}
use Rattle.relay_core.specs.Bounds.{text_bytes, most_told}
use Rattle.relay_core.specs.Kept.{Shown, HasSpare}
use Rattle.relay_core.specs.Stands.{StandsFor}
use Rattle.relay_core.proofs.ToldBounds.{Weighs, Bound, tells_weigh, some_spare}
use Rattle.relay_core.proofs.BoardsTold.{unsent_tells, all_told}
use Rattle.relay_core.proofs.EveryActStands.{is_sent}

pub if_some : (r : Option ℕ) (P Q : ℕ → Type 0) → ((n : ℕ) → P n → Q n) → IfSome r P → IfSome r Q
if_some None P Q f h = tt
if_some (Some n) P Q f h = f n h

-- a key of a board, or its modifiers

key_weighs : (n v time key state : ℕ) (m : ℕ) (r : Option Route) →
    Weighs (sent_told (acts.VKey v time key state) n r) (0 + 0 + 5) m
key_weighs n v time key state m None = record { events = omega arith; bytes = omega arith }
key_weighs n v time key state m (Some (ToGrab g)) = record { events = omega arith; bytes = omega arith }
key_weighs n v time key state m (Some Pass) = record { events = omega arith; bytes = omega arith }
key_weighs n v time key state m (Some Nowhere) = record { events = omega arith; bytes = omega arith }
key_weighs n v time key state m (Some TooMany) = record { events = omega arith; bytes = omega arith }

mods_weigh : (n v : ℕ) (mods : Mods) (m : ℕ) (r : Option Route) →
    Weighs (sent_told (acts.VMods v mods) n r) (0 + 0 + 5) m
mods_weigh n v mods m None = record { events = omega arith; bytes = omega arith }
mods_weigh n v mods m (Some (ToGrab g)) = record { events = omega arith; bytes = omega arith }
mods_weigh n v mods m (Some Pass) = record { events = omega arith; bytes = omega arith }
mods_weigh n v mods m (Some Nowhere) = record { events = omega arith; bytes = omega arith }
mods_weigh n v mods m (Some TooMany) = record { events = omega arith; bytes = omega arith }

-- what the relay and the boards tell of an act

all_weigh : (act : Act) (s : State) (b : Boards) (spare : Spare) (c : Bool) → is_sent act ≡ c → HasSpare s spare act →
    Weighs (tells act s ++ sent_told act (s.acts + 1) (sent_by act s b)) (most_told act s) (Bound spare)
all_weigh (acts.VKey v time key state) s b spare true e h =
    key_weighs (s.acts + 1) v time key state (Bound spare) (sent_by (acts.VKey v time key state) s b)
all_weigh (acts.VMods v mods) s b spare true e h =
    mods_weigh (s.acts + 1) v mods (Bound spare) (sent_by (acts.VMods v mods) s b)
all_weigh act s b spare true e h = absurd (true≢false (sym e))
all_weigh act s b spare false e h =
    subst (λ ts. Weighs (tells act s ++ ts) (most_told act s) (Bound spare)) (sym (unsent_tells s b [] act e))
    (subst (λ ts. Weighs ts (most_told act s) (Bound spare)) (sym (append-nil (tells act s)))
    (tells_weigh act s spare h))

all_few : (act : Act) (s : State) (b : Boards) →
    length (tells act s ++ sent_told act (s.acts + 1) (sent_by act s b)) ≤ most_told act s
all_few act s b = let h = some_spare act s in (all_weigh act s b h.0 (is_sent act) refl h.1).events

pub told_few : (shown : Shown) (log : List Act) (act : Act) (n : ℕ) → StandsFor shown log →
    n ≡ most_told act shown.state → length (told act log) ≤ n
told_few shown log act n h e =
    omega (
      arith,
      all_few act shown.state shown.boards,
      ap length (all_told shown.state shown.boards (history log) act (history_is log) h.state h.boards),
      e,
    )

pub told_short : (shown : Shown) (log : List Act) (act : Act) (n : ℕ) → StandsFor shown log →
    HasSpare shown.state shown.spare act →
    n ≡ length shown.spare.text + length shown.spare.preedit → text_bytes (told act log) ≤ n
told_short shown log act n h k e =
    omega (
      arith,
      (all_weigh act shown.state shown.boards shown.spare (is_sent act) refl k).bytes,
      ap text_bytes (all_told shown.state shown.boards (history log) act (history_is log) h.state h.boards),
      e,
    )
