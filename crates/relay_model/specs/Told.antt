-- What an act tells.
use Rattle.std.specs.Prelude.{ℕ, List, [], ◌∷◌, ◌++◌, map, filter, if◌then◌else◌, Option, Some, None, is_some, nat_abs}
use Rattle.relay_model.specs.declared.act.Act.{Act}
use Rattle.relay_model.specs.declared.act.Act.TheVariants.{Field, Method, Popup, Grab, Drop, Focus, Unfocus, Area, Screen, Commit, MCommit, Key, Mods, Keymap, Repeat, Registry, Sync, Seat, Bad, VKey, VMods}
use Rattle.relay_model.specs.declared.said.Told.{Told}
use Rattle.relay_model.specs.declared.said.Said.{Said}
use Rattle.relay_model.specs.declared.said.Said.TheVariants as said
use Rattle.relay_model.specs.Objects.{next, is_at, fields, peer_of}
use Rattle.relay_model.specs.Focus.{focus, entered}
use Rattle.relay_model.specs.Hold.{holder}
use Rattle.relay_model.specs.Current.{State, Around, current}
use Rattle.relay_model.specs.Activation.{Notice, Activates, Updates, Deactivates, serving, notice, fresh}
use Rattle.relay_model.specs.Batch.{group_of}
use Rattle.relay_model.specs.Keys as keys
use Rattle.relay_model.specs.Keys.{Goes, ToGrab, ToShell, Nowhere, Refused, key_route, standing, last_keymap, last_repeat, last_mods}
use Rattle.relay_model.specs.Boards.{board_route, grab_for}
use Rattle.relay_model.specs.Popups.{popup_told, each_popup}
use Rattle.relay_model.specs.Globals.{globals_told}
use Rattle.relay_model.specs.Idle.{cleaned, history}
pub use Rattle.relay_model.specs.Events.{to}

abbrev pub leave : ℕ → ℕ → Told
leave surface field = to field (said.Leave surface)

abbrev pub enter : ℕ → ℕ → Told
enter surface field = to field (said.Enter surface)

-- each entered field is told this of the surface, by rising label, where a surface has the focus
abbrev pub each_entered : (ℕ → ℕ → Told) → List Act → Option ℕ → List Told
each_entered say log None = []
each_entered say log (Some s) = map (say s) (filter (entered log) (fields log))

-- the focus moves away from a surface that is alive
abbrev pub leaves : Act → List Act → List Told
leaves (Focus s) older = each_entered leave older (focus older)
leaves Unfocus older = each_entered leave older (focus older)
leaves _ older = []

-- the surrounding text and its cause, where one is set; its cursor and anchor, never negative, are
-- told as plain numbers
abbrev pub around_said : Option Around → ℕ → List Said
around_said None cause = []
around_said (Some around) cause =
    said.Surrounding around.text (nat_abs around.cursor) (nat_abs around.anchor)
    ∷ said.ChangeCause cause ∷ []

-- the state of the holder, and the done that ends it
abbrev pub state_said : State → List Said
state_said s =
    around_said s.surrounding s.cause
    ++ (said.ContentType s.content.hint s.content.purpose ∷ said.MethodDone ∷ [])

abbrev pub holders_state : List Act → Option ℕ → List Said
holders_state log None = []
holders_state log (Some h) = state_said (current log h)

-- what is said of the hold after the act
abbrev pub notice_said : List Act → Option Notice → List Said
notice_said log None = []
notice_said log (Some Activates) = said.Activate ∷ holders_state log (holder log)
notice_said log (Some Updates) = holders_state log (holder log)
notice_said log (Some Deactivates) = said.Deactivate ∷ said.MethodDone ∷ []

abbrev pub to_method : Act → List Act → Option ℕ → List Told
to_method act older None = []
to_method act older (Some m) = map (to m) (notice_said (act ∷ older) (notice act older))

-- the new field, where its peer has the focus
abbrev pub enters_new : List Act → ℕ → Option ℕ → List Told
enters_new log f None = []
enters_new log f (Some s) = (if entered log f then enter s f ∷ [] else [])

-- the fields that the act enters
abbrev pub enters : Act → List Act → List Told
enters (Focus s) older = each_entered enter (Focus s ∷ older) (focus (Focus s ∷ older))
enters (Field p) older = enters_new (Field p ∷ older) (next older) (focus (Field p ∷ older))
enters _ older = []

abbrev pub to_holder : Act → List Act → Option ℕ → List Told
to_holder act older None = []
to_holder act older (Some h) = map (to h) (group_of act older h)

abbrev pub deleted : ℕ → Option ℕ → List Told
deleted x None = []
deleted x (Some p) = to p (said.DeleteId x) ∷ []

-- a key is told with the number of its act as its serial
abbrev pub key_told : ℕ → ℕ → ℕ → ℕ → Goes → List Told
key_told n time key state (ToGrab g) = to g (said.Key n time key state) ∷ []
key_told n time key state ToShell = to 0 (said.Pass time key state) ∷ []
key_told n time key state Nowhere = []
key_told n time key state Refused = []

abbrev pub keymap_said : Option keys.Keymap → List Said
keymap_said None = []
keymap_said (Some keymap) = said.Keymap keymap ∷ []

abbrev pub repeat_said : Option keys.Repeat → List Said
repeat_said None = []
repeat_said (Some repeat) = said.Repeat repeat ∷ []

-- modifiers are told with the number of the act as their serial
abbrev pub mods_said : ℕ → Option keys.Mods → List Said
mods_said n None = []
mods_said n (Some mods) = said.Mods n mods ∷ []

-- what a grab is told that stands from the act n on: the last keymap, repeat and modifiers, as far
-- as there were any
abbrev pub keyboard_said : ℕ → List Act → List Said
keyboard_said n log =
    keymap_said (last_keymap log) ++ (repeat_said (last_repeat log) ++ mods_said n (last_mods log))

abbrev pub to_grab : Option ℕ → Said → List Told
to_grab None said = []
to_grab (Some g) said = to g said ∷ []

-- modifiers of a board are told with the number of the act as their serial, or to the shell
abbrev pub board_mods_told : ℕ → keys.Mods → Option ℕ → List Told
board_mods_told n mods None = to 0 (said.VMods mods) ∷ []
board_mods_told n mods (Some g) = to g (said.Mods n mods) ∷ []

-- the callback n of a sync is told its value, and its peer that the id is free again
abbrev pub synced : ℕ → ℕ → List Told
synced n p = to n (said.CallbackDone 0) ∷ to p (said.DeleteId n) ∷ []

-- The act's own events: a method beside the one that serves, what a grab is told that stands, the
-- id of a dropped object, a fresh batch, a key, what the shell says of the keyboard, a key and the
-- modifiers of a board, and of each popup where it is, after a commit of the holder and when the
-- shell places surfaces; the globals of a new registry, the answer to a sync, what a new seat has,
-- and the error of a refused message.
abbrev pub own : Act → List Act → List Told
own (Method p) older =
    (if is_some (serving older) then to (next older) said.Unavailable ∷ [] else [])
own (Popup m s) older = popup_told (Popup m s ∷ older) (next older)
own (Grab m) older =
    (if is_at (standing (Grab m ∷ older)) (next older)
    then map (to (next older)) (keyboard_said (next older) older) else [])
own (Drop x) older = deleted x (peer_of older x)
own (Area s rect) older = each_popup (Area s rect ∷ older)
own (Screen size) older = each_popup (Screen size ∷ older)
own (Commit f) older =
    (if is_at (holder (Commit f ∷ older)) f then each_popup (Commit f ∷ older) else [])
own (MCommit m serial) older =
    (if fresh (MCommit m serial) older then to_holder (MCommit m serial) older (holder older)
    else [])
own (Key time key state) older = key_told (next older) time key state (key_route older key state)
own (Mods mods) older = to_grab (standing older) (said.Mods (next older) mods)
own (Keymap keymap) older = to_grab (standing older) (said.Keymap keymap)
own (Repeat repeat) older = to_grab (standing older) (said.Repeat repeat)
own (VKey v time key state) older =
    key_told (next older) time key state (board_route older v key state)
own (VMods v mods) older = board_mods_told (next older) mods (grab_for older v)
own (Registry p role) older = globals_told (next older) role
own (Sync p) older = synced (next older) p
own (Seat p) older = to (next older) (said.Capabilities 0) ∷ []
own (Bad p fault x) older = to p (said.Error x fault) ∷ []
own _ older = []

-- all that an act tells after a history, in order
abbrev pub told_by : Act → List Act → List Told
told_by act older =
    leaves act older
    ++ (to_method act older (serving (act ∷ older)) ++ (enters act older ++ own act older))

-- what an act tells after the acts of a list, the newest first
abbrev pub told : Act → List Act → List Told
told act older = told_by (cleaned act (history older)) (history older)

-- what each act of a list, the oldest first, tells after the acts before it
abbrev pub told_each : List Act → List Act → List (List Told)
told_each older [] = []
told_each older (act ∷ acts) = told act older ∷ told_each (act ∷ older) acts
