-- The relay as a machine on what it keeps: what an act makes of it, and what it tells. It never
-- looks back.
use Rattle.std.specs.Prelude.{ℕ, ◌+◌, ◌%◌, ◌^◌, min, List, [], ◌∷◌, ◌++◌, map, filter, Bool, true, false, not, ◌&&◌, ◌||◌, nat_lt, if◌then◌else◌, Option, Some, None, is_some, is_none}
use Rattle.std.specs.FinMap as keyed_map
use Rattle.relay_model.specs.declared.act.Act.{Act}
use Rattle.relay_model.specs.declared.act.Act.TheVariants as acts
use Rattle.relay_model.specs.declared.said.Told.{Told}
use Rattle.relay_model.specs.declared.said.Said.TheVariants as said
use Rattle.relay_model.specs.Objects.{is_at}
use Rattle.relay_model.specs.Keys.{is_press}
use Rattle.relay_model.specs.Idle.{is_place, is_sized}
use Rattle.relay_model.specs.Batch.{Batch}
use Rattle.relay_model.specs.Globals.{globals_told}
use Rattle.relay_model.specs.Told.{to, to_grab, deleted, synced}
use Rattle.serial_count.specs.Serial.{is_recent}
use Rattle.edit_batch.specs.Calls.{LastEdits, last_edits}
use Rattle.field_state.specs.Stands.{Kept}
use Rattle.field_state.specs.Changes.{fresh, focused, taken_of}
use Rattle.field_state.specs.declared.commit.Taken.{Taken}
use Rattle.field_state.specs.declared.commit.Taken.TheVariants.{Begun, Updated, Ended, Nothing}
use Rattle.kbd_grab.specs.Keyboard.{Keyboard, turned, answer_at}
use Rattle.kbd_grab.specs.declared.keyboard.Route.{Route}
use Rattle.relay_objects.specs.declared.object.Kind.{Kind}
use Rattle.relay_objects.specs.declared.object.Kind.TheVariants.{Peer, Surface, Field, Method, Popup, Grab, Thing, Board}
use Rattle.relay_objects.specs.Objects.{find, is_peer_in, is_surface_in, is_field_in, is_method_in, owner_in, field_in, count_in, no_area, has_popup_in, not_label, not_peer, requested, refocused, committed, placed_at}
use Rattle.relay_objects.specs.Keyboard.{keyboard_told, key_told}
use Rattle.relay_core.specs.Popups.{popups_told, popups_where_holds, new_popup_told}
pub use Rattle.relay_core.specs.State.{State, owner_at, focused_in, entered_in, is_thing_in, current_of, state_of, holder_state}
pub use Rattle.relay_objects.specs.Saying.{said_to, text_around, around_told, state_told, activate_told, update_told, deactivate_told, group_told}

-- the act may do something here; a press of a key that is refused does nothing besides, and what
-- boards send does nothing here
abbrev pub is_live_in : Act → State → Bool
is_live_in acts.Peer s = true
is_live_in (acts.Gone p cause) s = is_peer_in (find s.objects p)
is_live_in (acts.Surface p) s = is_peer_in (find s.objects p)
is_live_in (acts.Field p) s = is_peer_in (find s.objects p)
is_live_in (acts.Method p) s = is_peer_in (find s.objects p)
is_live_in (acts.Drop x) s = is_thing_in (find s.objects x)
is_live_in (acts.Focus t) s = is_surface_in (find s.objects t) && not (is_at s.focus t)
is_live_in acts.Unfocus s = is_some s.focus
is_live_in (acts.Enable f) s = entered_in s f
is_live_in (acts.Disable f) s = entered_in s f
is_live_in (acts.Surround f text cursor anchor) s =
    entered_in s f && is_place text cursor && is_place text anchor
is_live_in (acts.Cause f cause) s = entered_in s f
is_live_in (acts.Content f hint purpose) s = entered_in s f
is_live_in (acts.Cursor f rect) s = entered_in s f && is_sized rect
is_live_in (acts.Commit f) s = is_field_in (find s.objects f)
is_live_in (acts.MString m text) s = is_method_in (find s.objects m)
is_live_in (acts.MPreedit m text begin end) s = is_method_in (find s.objects m)
is_live_in (acts.MDelete m before after) s = is_method_in (find s.objects m)
is_live_in (acts.MCommit m serial) s = is_method_in (find s.objects m)
is_live_in (acts.Popup m t) s =
    is_method_in (find s.objects m)
    && (is_surface_in (find s.objects t) && not (has_popup_in s.objects t))
is_live_in (acts.Grab m) s = is_method_in (find s.objects m)
is_live_in (acts.Area t rect) s = is_surface_in (find s.objects t)
is_live_in (acts.Screen size) s = true
is_live_in (acts.Key time key state) s = true
is_live_in (acts.Mods mods) s = true
is_live_in (acts.Keymap keymap) s = true
is_live_in (acts.Repeat repeat) s = true
is_live_in (acts.Registry p role) s = is_peer_in (find s.objects p)
is_live_in (acts.Sync p) s = is_peer_in (find s.objects p)
is_live_in (acts.Seat p) s = is_peer_in (find s.objects p)
is_live_in (acts.Thing p) s = is_peer_in (find s.objects p)
is_live_in (acts.Bad p fault x) s = is_peer_in (find s.objects p)
is_live_in (acts.VBoard p) s = is_peer_in (find s.objects p)
is_live_in (acts.VKeymap v keymap) s = false
is_live_in (acts.VKey v time key state) s = false
is_live_in (acts.VMods v mods) s = false
is_live_in (acts.Took p bytes) s = false
is_live_in acts.Idle s = false

-- no pending edit
abbrev pub no_edits : LastEdits
no_edits = last_edits []

-- one more act
abbrev pub counted : State → State
counted s = record s { acts = s.acts + 1 }

-- the act made an object
abbrev pub made : ℕ → Kind → State → State
made peer kind s =
    record s { objects = s.objects ++ record { label = s.acts; peer = peer; kind = kind } ∷ [] }

abbrev pub made_for : Option ℕ → Kind → State → State
made_for None kind s = s
made_for (Some peer) kind s = made peer kind s

-- a method made an object
abbrev pub made_by : ℕ → Kind → State → State
made_by m kind s = made_for (owner_in (find s.objects m)) kind s

-- the serving method was told of an activation
abbrev pub activated : State → State
activated s =
    (if is_some s.serving
    then record s { active = true; dones = (s.dones + 1) % 2 ^ 32; since = 1; edits = no_edits }
    else s)

-- the serving method was told of an update
abbrev pub updated : State → State
updated s = (if is_some s.serving
    then record s {
      dones = (s.dones + 1) % 2 ^ 32;
      since = (if s.active then min (s.since + 1) (2 ^ 32) else s.since);
    } else s)

-- the serving method was told of a deactivation
abbrev pub deactivated : State → State
deactivated s =
    (if is_some s.serving
    then record s { active = false; dones = (s.dones + 1) % 2 ^ 32; since = 0; edits = no_edits }
    else s)

-- a hold ended, where there was one
abbrev pub released : State → State
released s = (if is_some s.holder then deactivated (record s { holder = None }) else s)

-- the focus moved to the surface, or away
abbrev pub refocused_to : Option ℕ → State → State
refocused_to surface s =
    record s { objects = map (refocused (owner_at s.objects surface)) s.objects; focus = surface }

-- the focus ended
abbrev pub unfocused : State → State
unfocused s = refocused_to None (released s)

-- no method serves
abbrev pub unserved : State → State
unserved s = record s { serving = None; edits = no_edits; active = false; dones = 0; since = 0 }

-- the serving method may be gone
abbrev pub served_unless : Bool → State → State
served_unless true s = unserved s
served_unless false s = s

-- the method that the act made serves
abbrev pub serves : State → State
serves s = record
    s { serving = Some s.acts; edits = no_edits; active = false; dones = 0; since = 0 }

abbrev pub method_made : ℕ → State → State
method_made p s =
    (if is_some s.serving then made p Method s
    else made p Method (if is_some s.holder then activated (serves s) else serves s))

-- what a new field of the peer p keeps
abbrev pub new_field : ℕ → State → Kept
new_field p s = (if is_at (focused_in s) p then focused true fresh else fresh)

-- the focused surface went, or the holder
abbrev pub parted : Bool → Bool → State → State
parted true holder s = unfocused s
parted false true s = released s
parted false false s = s

-- the grab that stands, if one does, may stand no more
abbrev pub fallen_keys : Bool → Keyboard → Keyboard
fallen_keys gone keys =
    (if is_some keys.standing && gone then record keys { standing = None } else keys)

abbrev pub fallen : Bool → State → State
fallen gone s = record s { keys = fallen_keys gone s.keys }

-- a grab stands from its making on, where its method serves and no other stands
abbrev pub stands_now : ℕ → State → Bool
stands_now m s = is_none s.keys.standing && is_at s.serving m

-- the method m made a grab
abbrev pub grabbed : ℕ → State → State
grabbed m s =
    record (made_by m (Grab m) s) {
      keys =
          (if stands_now m s then record s.keys { standing = Some s.acts } else s.keys);
    }

-- a key was pressed or released
abbrev pub keyed : ℕ → ℕ → State → State
keyed key state s = record s { keys = record s.keys { down = turned s.keys key (is_press state) } }

-- where that goes
abbrev pub route_in : ℕ → ℕ → State → Route
route_in key state s =
    answer_at (keyed_map.get s.keys.down key) s.keys.standing (keyed_map.len s.keys.down)
    (is_press state)

-- the object x was dropped
abbrev pub dropped : ℕ → State → State
dropped x s =
    parted (is_at s.focus x) (is_at s.holder x)
    (served_unless (is_at s.serving x)
    (fallen (is_at s.keys.standing x || is_at s.serving x)
    (record s { objects = filter (not_label x) s.objects })))

-- the peer p ended
abbrev pub gone : ℕ → State → State
gone p s =
    parted (is_at (focused_in s) p) false
    (served_unless (is_at (owner_at s.objects s.serving) p)
    (fallen (is_at (owner_at s.objects s.keys.standing) p)
    (record s { objects = filter (not_peer p) s.objects })))

-- what a commit of the field does, where a field is there
abbrev pub taken_in : Option Kept → Taken
taken_in None = Nothing
taken_in (Some kept) = taken_of kept

-- what a commit of the field f does
abbrev pub taken_by : ℕ → State → Taken
taken_by f s = taken_in (field_in (find s.objects f))

-- the field that had the seat, where the commit begins a hold; it may be the field that commits
abbrev pub displaced_by : Taken → Option ℕ → Option ℕ
displaced_by Begun held = held
displaced_by Updated held = None
displaced_by Ended held = None
displaced_by Nothing held = None

-- a commit of f that does this
abbrev pub held : ℕ → Taken → State → State
held f Begun s = activated (record s { holder = Some f })
held f Updated s = updated s
held f Ended s = released s
held f Nothing s = s

-- the field f committed, and another is displaced where this begins a hold; what it does besides is
-- yet to come
abbrev pub committing : ℕ → Taken → State → State
committing f t s = record s { objects = map (committed f (displaced_by t s.holder)) s.objects }

abbrev pub field_committed : ℕ → State → State
field_committed f s = held f (taken_by f s) (committing f (taken_by f s) s)

-- the act is an edit of the serving method, and what it makes of the pending edits
abbrev pub edited : ℕ → LastEdits → State → State
edited m edits s = (if is_at s.serving m && s.active then record s { edits = edits } else s)

-- the act is a request of the field f, other than a commit
abbrev pub asking : ℕ → Act → State → State
asking f act s = record s { objects = map (requested f act) s.objects }

-- what a live act makes of the relay, the act counted
abbrev pub moved : Act → State → State
moved acts.Peer s = made s.acts Peer s
moved (acts.Popup m t) s = made_by m (Popup m t) s
moved (acts.Grab m) s = grabbed m s
moved (acts.Area t rect) s = record s { objects = map (placed_at t rect) s.objects }
moved (acts.Screen size) s = record s { screen = size }
moved (acts.Key time key state) s = keyed key state s
moved (acts.Mods mods) s = record s { keys = record s.keys { mods = Some mods } }
moved (acts.Keymap keymap) s = record s { keys = record s.keys { keymap = Some keymap } }
moved (acts.Repeat repeat) s = record s { keys = record s.keys { repeat = Some repeat } }
moved (acts.Gone p cause) s = gone p s
moved (acts.Surface p) s = made p (Surface no_area) s
moved (acts.Field p) s = made p (Field (new_field p s)) s
moved (acts.Method p) s = method_made p s
moved (acts.Drop x) s = dropped x s
moved (acts.Focus t) s = refocused_to (Some t) (released s)
moved acts.Unfocus s = unfocused s
moved (acts.Enable f) s = asking f (acts.Enable f) s
moved (acts.Disable f) s = asking f (acts.Disable f) s
moved (acts.Surround f text cursor anchor) s = asking f (acts.Surround f text cursor anchor) s
moved (acts.Cause f cause) s = asking f (acts.Cause f cause) s
moved (acts.Content f hint purpose) s = asking f (acts.Content f hint purpose) s
moved (acts.Cursor f rect) s = asking f (acts.Cursor f rect) s
moved (acts.Commit f) s = field_committed f s
moved (acts.MString m text) s = edited m (record s.edits { string = text }) s
moved (acts.MPreedit m text begin end) s =
    edited m (record s.edits { preedit = record { text = text; begin = begin; end = end } }) s
moved (acts.MDelete m before after) s = edited m (record s.edits { deletion = (before, after) }) s
moved (acts.MCommit m serial) s = (if is_at s.serving m then record s { edits = no_edits } else s)
moved (acts.Registry p role) s = made p Thing s
moved (acts.Sync p) s = s
moved (acts.Seat p) s = made p Thing s
moved (acts.Thing p) s = made p Thing s
moved (acts.Bad p fault x) s = s
moved (acts.VBoard p) s = made p Board s
moved (acts.VKeymap v keymap) s = s
moved (acts.VKey v time key state) s = s
moved (acts.VMods v mods) s = s
moved (acts.Took p bytes) s = s
moved acts.Idle s = s

-- what an act makes of the relay
abbrev pub after : Act → State → State
after act s = (if is_live_in act s then moved act (counted s) else counted s)

abbrev pub leaves_of : State → Option ℕ → List Told
leaves_of s None = []
leaves_of s (Some t) = said_to (said.Leave t) (focused_in s) s.objects

-- what is told where a hold ends, by the holder and the method that serves
abbrev pub release_told : Option ℕ → Option ℕ → List Told
release_told None serving = []
release_told (Some h) serving = deactivate_told serving

abbrev pub enter_told : State → ℕ → ℕ → Option ℕ → List Told
enter_told s p f None = []
enter_told s p f (Some t) = (if is_at (focused_in s) p then to f (said.Enter t) ∷ [] else [])

abbrev pub method_told : State → List Told
method_told s =
    (if is_some s.serving then to s.acts said.Unavailable ∷ []
    else (if is_some s.holder then activate_told (holder_state s) (Some s.acts) else []))

-- what is told where the focused surface went, or the holder
abbrev pub part_told : Bool → Bool → Option ℕ → Option ℕ → List Told
part_told true holder held serving = release_told held serving
part_told false true held serving = release_told held serving
part_told false false held serving = []

-- the method that serves, which may be gone
abbrev pub serving_unless : Bool → Option ℕ → Option ℕ
serving_unless true serving = None
serving_unless false serving = serving

abbrev pub drop_told : ℕ → State → List Told
drop_told x s =
    part_told (is_at s.focus x) (is_at s.holder x) s.holder
    (serving_unless (is_at s.serving x) s.serving)
    ++ deleted x (owner_in (find s.objects x))

abbrev pub gone_told : ℕ → State → List Told
gone_told p s =
    part_told (is_at (focused_in s) p) false s.holder
    (serving_unless (is_at (owner_at s.objects s.serving) p) s.serving)

-- what a commit of f that does this tells, the field committed
abbrev pub commit_told : ℕ → Taken → State → List Told
commit_told f Begun s = activate_told (state_of s f) s.serving
commit_told f Updated s = update_told (state_of s f) s.serving
commit_told f Ended s = release_told s.holder s.serving
commit_told f Nothing s = []

-- the serial, a number of 32 bits, names one of the last dones
abbrev pub is_fresh : ℕ → ℕ → ℕ → Bool
is_fresh dones since serial = nat_lt serial (2 ^ 32) && is_recent dones since serial

-- the pending edits as a batch
abbrev pub batch_of : LastEdits → Batch
batch_of e =
    record {
      deletion = record { before = e.deletion.0; after = e.deletion.1 };
      string = e.string;
      preedit = record { text = e.preedit.text; begin = e.preedit.begin; end = e.preedit.end };
    }

abbrev pub group_of_holder : State → Option ℕ → List Told
group_of_holder s None = []
group_of_holder s (Some h) = group_told (batch_of s.edits) (count_in (find s.objects h)) h

abbrev pub batch_told : ℕ → ℕ → State → List Told
batch_told m serial s =
    (if is_at s.serving m && is_fresh s.dones s.since serial then group_of_holder s s.holder
    else [])

-- what a live act tells, the act counted
abbrev pub says : Act → State → List Told
says (acts.Gone p cause) s = gone_told p s
says (acts.Field p) s = enter_told s p s.acts s.focus
says (acts.Method p) s = method_told s
says (acts.Drop x) s = drop_told x s
says (acts.Focus t) s =
    leaves_of s s.focus
    ++ (release_told s.holder s.serving
    ++ said_to (said.Enter t) (owner_in (find s.objects t)) s.objects)
says acts.Unfocus s = leaves_of s s.focus ++ release_told s.holder s.serving
says (acts.Popup m t) s = new_popup_told (made_by m (Popup m t) s)
says (acts.Grab m) s = (if stands_now m s then keyboard_told s.acts s.keys else [])
says (acts.Area t rect) s = popups_told (record s { objects = map (placed_at t rect) s.objects })
says (acts.Screen size) s = popups_told (record s { screen = size })
says (acts.Commit f) s =
    commit_told f (taken_by f s) (committing f (taken_by f s) s)
    ++ popups_where_holds f (field_committed f s)
says (acts.Key time key state) s = key_told s.acts time key state (route_in key state s)
says (acts.Mods mods) s = to_grab s.keys.standing (said.Mods s.acts mods)
says (acts.Keymap keymap) s = to_grab s.keys.standing (said.Keymap keymap)
says (acts.Repeat repeat) s = to_grab s.keys.standing (said.Repeat repeat)
says (acts.MCommit m serial) s = batch_told m serial s
says (acts.Registry p role) s = globals_told s.acts role
says (acts.Sync p) s = synced s.acts p
says (acts.Seat p) s = to s.acts (said.Capabilities 0) ∷ []
says (acts.Bad p fault x) s = to p (said.Error x fault) ∷ []
says acts.Peer s = []
says (acts.Surface p) s = []
says (acts.Enable f) s = []
says (acts.Disable f) s = []
says (acts.Surround f text cursor anchor) s = []
says (acts.Cause f cause) s = []
says (acts.Content f hint purpose) s = []
says (acts.Cursor f rect) s = []
says (acts.MString m text) s = []
says (acts.MPreedit m text begin end) s = []
says (acts.MDelete m before after) s = []
says (acts.Thing p) s = []
says (acts.VBoard p) s = []
says (acts.VKeymap v keymap) s = []
says (acts.VKey v time key state) s = []
says (acts.VMods v mods) s = []
says (acts.Took p bytes) s = []
says acts.Idle s = []

-- what an act tells
abbrev pub tells : Act → State → List Told
tells act s = (if is_live_in act s then says act (counted s) else [])

-- the route of a key act
abbrev pub route_of : Act → State → Option Route
route_of (acts.Key time key state) s = Some (route_in key state s)
route_of _ s = None
