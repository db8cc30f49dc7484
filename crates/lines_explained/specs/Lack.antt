-- Why an act does nothing on the seat, and its words.
use Rattle.std.specs.Prelude.{ℕ, List, [], Bool, true, false, not, ◌&&◌, codes, if◌then◌else◌, Option, Some, None, is_none}
use Rattle.relay_model.specs.declared.act.Act.{Act}
use Rattle.relay_model.specs.declared.act.Act.TheVariants as acts
use Rattle.relay_model.specs.Objects.{is_at}
use Rattle.relay_model.specs.Focus.{focus, entered}
use Rattle.relay_model.specs.Keys.{is_refused}
use Rattle.relay_model.specs.Boards.{sends, board_refused}
use Rattle.relay_model.specs.Idle.{history, is_live, is_place, is_sized}
use Rattle.broker_steps.specs.declared.step.ShellStep.TheVariants as shell
use Rattle.broker_model.specs.declared.journal.Entry.{Entry}
use Rattle.broker_model.specs.declared.journal.Entry.TheVariants as entries
use Rattle.lines_explained.specs.declared.lack.Lack.{Lack}
use Rattle.lines_explained.specs.declared.lack.Lack.TheVariants.{NoSurface, HasFocus, NoFocus, NotEntered, NoPlace, NegativeSide, ManyKeys, NoKeymap, NotLive}
use Rattle.lines_explained.specs.Phrase.{phrase}

-- why an act that isn't live does nothing after a history
abbrev pub reason : Act → List Act → Lack
reason (acts.Focus s) log = (if is_at (focus log) s then HasFocus else NotLive)
reason acts.Unfocus log = NoFocus
reason (acts.Enable f) log = NotEntered
reason (acts.Disable f) log = NotEntered
reason (acts.Surround f text cursor anchor) log =
    (if is_place text cursor && is_place text anchor then NotEntered else NoPlace)
reason (acts.Cause f cause) log = NotEntered
reason (acts.Content f hint purpose) log = NotEntered
reason (acts.Cursor f rect) log = (if is_sized rect then NotEntered else NegativeSide)
reason (acts.Key time key state) log = ManyKeys
reason (acts.VKey v time key state) log = (if sends log v then ManyKeys else NoKeymap)
reason (acts.VMods v mods) log = NoKeymap
reason _ log = NotLive

-- the step names a surface that its peer doesn't have: the only one of the shell that can name one
abbrev pub names_nothing : Entry → Option Lack
names_nothing (entries.Shell (shell.Focus q id)) = Some NoSurface
names_nothing (entries.Shell (shell.Area q id rect)) = Some NoSurface
names_nothing _ = None

-- the act asks something of the seat: taking bytes doesn't
abbrev pub is_of_seat : Act → Bool
is_of_seat (acts.Took p bytes) = false
is_of_seat acts.Idle = false
is_of_seat _ = true

-- of an entry that is no act of the seat
abbrev pub idle_lack : Entry → Act → Option Lack
idle_lack e acts.Idle = names_nothing e
idle_lack e _ = None

-- why the entry, whose act comes after these acts, does nothing on the seat, if it asks something
-- of it and does nothing
abbrev pub lack_of : Entry → Act → List Act → Option Lack
lack_of e act log =
    (if is_of_seat act && not (is_live act (history log)) then Some (reason act (history log))
    else idle_lack e act)

-- each reason in words
abbrev pub reason_words : Lack → List ℕ
reason_words NoSurface = codes "the peer has no such surface"
reason_words HasFocus = codes "the surface has the focus"
reason_words NoFocus = codes "no surface has the focus"
reason_words NotEntered = codes "the field is not entered"
reason_words NoPlace = codes "cursor or anchor is inside a character or outside the text"
reason_words NegativeSide = codes "a side is negative"
reason_words ManyKeys = codes "64 keys are down"
reason_words NoKeymap = codes "the board has had no keymap"
reason_words NotLive = codes "an object that it names is not live"

-- that it does nothing, and why, where it does
abbrev pub lack_words : Option Lack → List ℕ
lack_words None = []
lack_words (Some why) = phrase (codes ", without effect: ") None (reason_words why) None

-- the condition of each reason
abbrev pub lack_holds : Lack → Act → List Act → Bool
lack_holds HasFocus (acts.Focus s) log = is_at (focus log) s
lack_holds NoFocus act log = is_none (focus log)
lack_holds NotEntered (acts.Enable f) log = not (entered log f)
lack_holds NotEntered (acts.Disable f) log = not (entered log f)
lack_holds NotEntered (acts.Surround f text cursor anchor) log = not (entered log f)
lack_holds NotEntered (acts.Cause f cause) log = not (entered log f)
lack_holds NotEntered (acts.Content f hint purpose) log = not (entered log f)
lack_holds NotEntered (acts.Cursor f rect) log = not (entered log f)
lack_holds NoPlace (acts.Surround f text cursor anchor) log =
    not (is_place text cursor && is_place text anchor)
lack_holds NegativeSide (acts.Cursor f rect) log = not (is_sized rect)
lack_holds ManyKeys (acts.Key time key state) log = is_refused log key state
lack_holds ManyKeys (acts.VKey v time key state) log = board_refused log v key state
lack_holds NoKeymap (acts.VKey v time key state) log = not (sends log v)
lack_holds NoKeymap (acts.VMods v mods) log = not (sends log v)
lack_holds _ act log = true
