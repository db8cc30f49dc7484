-- What an act tells goes to labels of the interfaces of its events.
use Rattle.std.proofs.Common.{◌≡◌, ℕ, ◌≤◌, List, [], ◌∷◌, length, map, Bool, true, false, not, ◌&&◌, Option, Some, None, refl, sym, ap, subst, ◌∙◌, arith}
use Rattle.std.specs.Prelude.{◌==◌, if◌then◌else◌, IfSome, is_some, is_none, filter, nat_lt}
use Rattle.std.specs.List.{AllByRecursion}
use Rattle.std.proofs.lemmas.Bool.{eqb-true}
use Rattle.std.proofs.lemmas.Option.{same_Some}
use Rattle.wl_proto.specs.declared.interface.Interface.{Interface}
use Rattle.wl_proto.specs.declared.interface.Interface.TheVariants as interface
use Rattle.wl_proto.specs.Rows.{Message}
use Rattle.relay_model.specs.declared.act.Act.{Act}
use Rattle.relay_model.specs.declared.act.Act.TheVariants as acts
use Rattle.relay_model.specs.declared.said.Told.{Told}
use Rattle.relay_model.specs.declared.said.Said.{Said}
use Rattle.relay_model.specs.declared.said.Said.TheVariants as said
use Rattle.relay_model.specs.Objects.{Kind, PeerKind, FieldKind, PopupKind, next, is_at, is_same, is_field_kind, is_peer_kind, is_popup_kind, is_field, is_peer, is_popup, object, alive, peer_of, method_of, labels, fields, popups}
use Rattle.relay_model.specs.Focus.{where_alive, focus, entered, peer_at}
use Rattle.relay_model.specs.Hold.{holder}
use Rattle.relay_model.specs.Current.{Around, current}
use Rattle.relay_model.specs.Activation.{Notice, Activates, Updates, Deactivates, serving, notice, fresh}
use Rattle.relay_model.specs.Batch.{Batch, deletion_said, string_said, is_no_preedit, preedit_said, group, batch, commit_count}
use Rattle.relay_model.specs.Keys as keys
use Rattle.relay_model.specs.Keys.{Goes, ToGrab, ToShell, Nowhere, Refused, key_route, standing, stands_on, as_first, to_standing, first_went, grab_stands, is_down, is_press, number_down, last_keymap, last_repeat, last_mods}
use Rattle.relay_model.specs.Boards.{board_route, board_down, board_number, board_went, grab_for}
use Rattle.relay_model.specs.Popups.{cursor, ready_surface, told_where, popup_told, each_popup}
use Rattle.relay_model.specs.Globals.{offered, global_told}
use Rattle.relay_model.specs.Idle.{cleaned, history}
use Rattle.relay_model.specs.Told.{to, leave, enter, each_entered, leaves, around_said, holders_state, notice_said, to_method, enters_new, enters, to_holder, deleted, key_told, keymap_said, repeat_said, mods_said, keyboard_said, to_grab, board_mods_told, own, told_by, told}
use Rattle.relay_model.proofs.ActsOrIdle.{IsHistory, live, history_is, cleaned_again}
use Rattle.relay_model.proofs.ObjectLaws.{kind_within}
use Rattle.relay_model.proofs.ActivationLaws.{serving_within}
use Rattle.relay_model.proofs.FocusLaws.{entered_field}
use Rattle.relay_model.proofs.HoldLaws.{holder_entered}
use Rattle.broker_model.specs.declared.journal.Entry.{Entry}
use Rattle.broker_model.specs.Ids.{Made, log_of}
use Rattle.broker_model.specs.Groups.{message_of}
use Rattle.broker_model.specs.Resolve.{past_of, resolve}
use Rattle.broker_model.specs.Out.{act_at}
use Rattle.broker_model.proofs.IdsAreNames.{IsWith, made_with}
use Rattle.broker_model.proofs.OwnersLive.{owner_lives}
use Rattle.broker_model.proofs.EachElement.{either_way, each_of, each_weaker, each_append, each_map, each_flat, each_kept}
use Rattle.broker_telling.specs.ToldRead.{IsForIts, ToldToItsKind}
use Rattle.broker_telling.proofs.LabelKinds.{kind_at, kind_new, kind_stays, kind_of, interface_of, made_as_acts}

-- ---- the interface of an event

-- none of what the shell is told
abbrev pub event_kind : Said → Option Interface
event_kind (said.Enter surface) = Some interface.TextInput
event_kind (said.Leave surface) = Some interface.TextInput
event_kind (said.Preedit t begin end) = Some interface.TextInput
event_kind (said.CommitString t) = Some interface.TextInput
event_kind (said.Delete before after) = Some interface.TextInput
event_kind (said.FieldDone serial) = Some interface.TextInput
event_kind said.Activate = Some interface.InputMethod
event_kind said.Deactivate = Some interface.InputMethod
event_kind (said.Surrounding t cursor anchor) = Some interface.InputMethod
event_kind (said.ChangeCause cause) = Some interface.InputMethod
event_kind (said.ContentType hint purpose) = Some interface.InputMethod
event_kind said.MethodDone = Some interface.InputMethod
event_kind said.Unavailable = Some interface.InputMethod
event_kind (said.PopupRect x y width height) = Some interface.InputPopupSurface
event_kind (said.Keymap keymap) = Some interface.KeyboardGrab
event_kind (said.Key serial time key state) = Some interface.KeyboardGrab
event_kind (said.Mods serial mods) = Some interface.KeyboardGrab
event_kind (said.Repeat repeat) = Some interface.KeyboardGrab
event_kind (said.Global name i version) = Some interface.Registry
event_kind (said.CallbackDone value) = Some interface.Callback
event_kind (said.DeleteId label) = Some interface.Display
event_kind (said.Capabilities value) = Some interface.Seat
event_kind (said.Error object fault) = Some interface.Display
event_kind (said.Pass time key state) = None
event_kind (said.VMods mods) = None
event_kind (said.Placed popup x y) = None

pub message_kind : (made : List Made) (event : Said) →
    IfSome (message_of made event) (λ m. event_kind event ≡ Some m.interface)
message_kind made (said.Pass time key state) = tt
message_kind made (said.VMods mods) = tt
message_kind made (said.Placed popup x y) = tt
message_kind made _ = refl

-- the event is one of this interface
abbrev IsOf : Interface → Said → Type 0
IsOf i event = event_kind event ≡ Some i

-- ---- of what an act tells

-- what is told is told to a label of the event's interface, or to the shell
abbrev pub GoesRight : List Act → Told → Type 0
GoesRight log t = IfSome (event_kind t.event) (λ i. kind_at log t.to ≡ Some i)

abbrev GoRight : List Act → List Told → Type 0
GoRight log ts = AllByRecursion (GoesRight log) ts

-- all events of one interface to one label
goes_to : (i : Interface) (log : List Act) (x : ℕ) (event : Said) → kind_at log x ≡ Some i → IsOf i event →
    GoesRight log (to x event)
goes_to i log x event k e = subst (λ (o : Option Interface). IfSome o (λ j. kind_at log x ≡ Some j)) (sym e) k

go_to : (i : Interface) (log : List Act) (x : ℕ) (events : List Said) → kind_at log x ≡ Some i →
    AllByRecursion (IsOf i) events →
    GoRight log (map (to x) events)
go_to i log x events k h =
    each_map (GoesRight log) (to x) events
    (each_weaker (IsOf i) (λ event. GoesRight log (to x event)) events (λ event e. goes_to i log x event k e) h)

only_field : (kind : Kind) → is_field_kind kind ≡ true → interface_of kind ≡ Some interface.TextInput
only_field FieldKind e = refl
only_field _ e = cc

only_peer : (kind : Kind) → is_peer_kind kind ≡ true → interface_of kind ≡ Some interface.Display
only_peer PeerKind e = refl
only_peer _ e = cc

only_popup : (kind : Kind) → is_popup_kind kind ≡ true → interface_of kind ≡ Some interface.InputPopupSurface
only_popup (PopupKind m s) e = refl
only_popup _ e = cc

field_kind : (log : List Act) (x : ℕ) → is_field log x ≡ true → kind_at log x ≡ Some interface.TextInput
field_kind log x h = kind_of is_field_kind interface.TextInput log x only_field h

peer_kind : (log : List Act) (x : ℕ) → is_peer log x ≡ true → kind_at log x ≡ Some interface.Display
peer_kind log x h = kind_of is_peer_kind interface.Display log x only_peer h

popup_kind : (log : List Act) (x : ℕ) → is_popup log x ≡ true → kind_at log x ≡ Some interface.InputPopupSurface
popup_kind log x h = kind_of is_popup_kind interface.InputPopupSurface log x only_popup h

-- ---- the method that serves, and the grab that stands

served : (act : Act) (older : List Act) (m : ℕ) →
    ((n : ℕ) → serving older ≡ Some n → kind_at older n ≡ Some interface.InputMethod) →
    where_alive (act ∷ older) (serving older) ≡ Some m → kind_at (act ∷ older) m ≡ Some interface.InputMethod
served act older m k e = by (serving older) refl e
  where
    by : (o : Option ℕ) → serving older ≡ o → where_alive (act ∷ older) o ≡ Some m →
        kind_at (act ∷ older) m ≡ Some interface.InputMethod
    by None f h = cc
    by (Some n) f h =
        subst (λ x. kind_at (act ∷ older) x ≡ Some interface.InputMethod) (alive_same (alive (act ∷ older) n) h)
        (kind_stays act older n (serving_within older n f) ∙ k n f)
      where
        alive_same : (b : Bool) → (if b then Some n else None) ≡ Some m → n ≡ m
        alive_same true h = same_Some n m h
        alive_same false h = cc

method_served : (p : ℕ) (older : List Act) (m : ℕ) (b : Bool) →
    ((n : ℕ) → serving older ≡ Some n → kind_at older n ≡ Some interface.InputMethod) →
    (if b then Some (next older) else serving older) ≡ Some m →
    kind_at (acts.Method p ∷ older) m ≡ Some interface.InputMethod
method_served p older m true k e =
    subst (λ x. kind_at (acts.Method p ∷ older) x ≡ Some interface.InputMethod) (same_Some (next older) m e)
    (kind_new (acts.Method p) older)
method_served p older m false k e = kind_stays (acts.Method p) older m (serving_within older m e) ∙ k m e

serving_kind : (log : List Act) (m : ℕ) → serving log ≡ Some m → kind_at log m ≡ Some interface.InputMethod
serving_kind [] m e = cc
serving_kind (acts.Method p ∷ older) m e = method_served p older m (is_none (serving older))
    (λ n. serving_kind older n) e
serving_kind (act ∷ older) m e = served act older m (λ n. serving_kind older n) e

record IsStanding (log : List Act) (g : ℕ) : Type 0 where
  within : g ≤ length log
  kind : kind_at log g ≡ Some interface.KeyboardGrab

stood_on : (act : Act) (older : List Act) (g : ℕ) → IsStanding older g → IsStanding (act ∷ older) g
stood_on act older g s =
    (let w = s.within in record { within = omega arith; kind = kind_stays act older g s.within ∙ s.kind })

stood : (act : Act) (older : List Act) (o : Option ℕ) (g : ℕ) → ((n : ℕ) → o ≡ Some n → IsStanding older n) →
    stands_on (act ∷ older) o ≡ Some g → IsStanding (act ∷ older) g
stood act older None g k e = cc
stood act older (Some n) g k e = by (is_same (method_of (act ∷ older) n) (serving (act ∷ older))) e
  where
    by : (b : Bool) → (if b then Some n else None) ≡ Some g → IsStanding (act ∷ older) g
    by true h = subst (λ x. IsStanding (act ∷ older) x) (same_Some n g h) (stood_on act older n (k n refl))
    by false h = cc

grab_stood : (m : ℕ) (older : List Act) (g : ℕ) (b : Bool) → ((n : ℕ) → standing older ≡ Some n → IsStanding older n) →
    (if b then Some (next older) else standing older) ≡ Some g → IsStanding (acts.Grab m ∷ older) g
grab_stood m older g true k e =
    subst (λ x. IsStanding (acts.Grab m ∷ older) x) (same_Some (next older) g e)
    (record { within = omega arith; kind = kind_new (acts.Grab m) older })
grab_stood m older g false k e = stood_on (acts.Grab m) older g (k g e)

grab_standing : (log : List Act) (g : ℕ) → standing log ≡ Some g → IsStanding log g
grab_standing [] g e = cc
grab_standing (acts.Grab m ∷ older) g e =
    grab_stood m older g (is_none (standing older) && is_at (serving older) m) (λ n. grab_standing older n) e
grab_standing (act ∷ older) g e = stood act older (standing older) g (λ n. grab_standing older n) e

-- ---- by part

entered_right : (log now : List Act) (say : ℕ → ℕ → Told) (o : Option ℕ) →
    ((s x : ℕ) → is_field now x ≡ true → GoesRight log (say s x)) → GoRight log (each_entered say now o)
entered_right log now say None h = tt
entered_right log now say (Some s) h =
    each_map (GoesRight log) (say s) (filter (entered now) (fields now))
    (each_weaker (λ x. entered now x ≡ true) (λ x. GoesRight log (say s x)) (filter (entered now) (fields now))
    (λ x k. h s x (entered_field now x k)) (each_kept (entered now) (fields now)))

module _ (act : Act) (older : List Act) where
  abbrev now : List Act
  now = act ∷ older

  old_kind : (x : ℕ) (i : Interface) → x ≤ length older → kind_at older x ≡ Some i → kind_at now x ≡ Some i
  old_kind x i w k = kind_stays act older x w ∙ k

  leaves_field : (s x : ℕ) → is_field older x ≡ true → GoesRight now (leave s x)
  leaves_field s x h = old_kind x interface.TextInput (kind_within is_field_kind older x h) (field_kind older x h)

  enters_field : (s x : ℕ) → is_field now x ≡ true → GoesRight now (enter s x)
  enters_field s x h = field_kind now x h

  -- the state of the holder
  around_of : (o : Option Around) (cause : ℕ) → AllByRecursion (IsOf interface.InputMethod) (around_said o cause)
  around_of None cause = tt
  around_of (Some around) cause = (refl, (refl, tt))

  holder_of : (log : List Act) (o : Option ℕ) → AllByRecursion (IsOf interface.InputMethod) (holders_state log o)
  holder_of log None = tt
  holder_of log (Some h) =
      each_append (IsOf interface.InputMethod) (around_said (current log h).surrounding (current log h).cause)
      (said.ContentType (current log h).content.hint (current log h).content.purpose ∷ said.MethodDone ∷ [])
      (around_of (current log h).surrounding (current log h).cause) (refl, (refl, tt))

  notice_of : (log : List Act) (o : Option Notice) → AllByRecursion (IsOf interface.InputMethod) (notice_said log o)
  notice_of log None = tt
  notice_of log (Some Activates) = (refl, holder_of log (holder log))
  notice_of log (Some Updates) = holder_of log (holder log)
  notice_of log (Some Deactivates) = (refl, (refl, tt))

  method_right : (o : Option ℕ) → serving now ≡ o → GoRight now (to_method act older o)
  method_right None e = tt
  method_right (Some m) e =
      go_to interface.InputMethod now m (notice_said now (notice act older)) (serving_kind now m e)
      (notice_of now (notice act older))

  where_right : (x : ℕ) (s : Option ℕ) → kind_at now x ≡ Some interface.InputPopupSurface →
      GoRight now (told_where now x s (cursor now))
  where_right x None k = tt
  where_right x (Some s) k =
      elim (cursor now) as (λ rect. GoRight now (told_where now x (Some s) rect)) [
        | None ↦ tt
        | Some rect ↦ (k, (tt, tt))
      ]

  popup_right : (x : ℕ) → kind_at now x ≡ Some interface.InputPopupSurface → GoRight now (popup_told now x)
  popup_right x k = where_right x (ready_surface now x) k

  popups_right : GoRight now (each_popup now)
  popups_right =
      each_flat (GoesRight now) (popup_told now) (popups now)
      (each_weaker (λ x. is_popup now x ≡ true) (λ x. GoRight now (popup_told now x)) (popups now)
      (λ x k. popup_right x (popup_kind now x k)) (each_kept (is_popup now) (labels now)))

  stands_right : (g : ℕ) → standing older ≡ Some g → kind_at now g ≡ Some interface.KeyboardGrab
  stands_right g e = (let s = grab_standing older g e in old_kind g interface.KeyboardGrab s.within s.kind)

  standing_right : (o : Option ℕ) (event : Said) → standing older ≡ o → IsOf interface.KeyboardGrab event →
      GoRight now (to_grab o event)
  standing_right None event e i = tt
  standing_right (Some g) event e i = (goes_to interface.KeyboardGrab now g event (stands_right g e) i, tt)

  abbrev GoesOn : Goes → Type 0
  GoesOn (ToGrab g) = kind_at now g ≡ Some interface.KeyboardGrab
  GoesOn _ = Unit {0}

  first_right : (o : Option ℕ) → GoesOn (as_first older o)
  first_right None = tt
  first_right (Some g) = by (grab_stands older g) refl
    where
      at_is : (o : Option ℕ) → is_at o g ≡ true → o ≡ Some g
      at_is None e = cc
      at_is (Some h) e = ap Some (eqb-true h g e)

      by : (b : Bool) → grab_stands older g ≡ b → GoesOn (if b then ToGrab g else Nowhere)
      by true e = stands_right g (at_is (standing older) e)
      by false e = tt

  to_standing_right : (o : Option ℕ) → standing older ≡ o → GoesOn (to_standing o)
  to_standing_right None e = tt
  to_standing_right (Some g) e = stands_right g e

  goes_right : (key state : ℕ) → GoesOn (key_route older key state)
  goes_right key state =
      either_way GoesOn (is_down older key) (as_first older (first_went older key)) _
      (first_right (first_went older key))
      (either_way GoesOn (not (is_press state)) ToShell _ tt
      (either_way GoesOn (nat_lt (number_down older) 64) (to_standing (standing older)) Refused
      (to_standing_right (standing older) refl) tt))

  -- the grab that a board's keys may go to stands
  for_right : (v : ℕ) (b : Bool) → GoesOn (to_standing (if b then None else standing older))
  for_right v true = tt
  for_right v false = to_standing_right (standing older) refl

  board_right : (v key state : ℕ) → GoesOn (board_route older v key state)
  board_right v key state =
      either_way GoesOn (board_down older v key) (as_first older (board_went older v key)) _
      (first_right (board_went older v key))
      (either_way GoesOn (not (is_press state)) ToShell _ tt
      (either_way GoesOn (nat_lt (board_number older v) 64) (to_standing (grab_for older v)) Refused
      (for_right v (is_same (peer_at older (standing older)) (peer_of older v))) tt))

  mods_right : (n : ℕ) (mods : keys.Mods) (o : Option ℕ) → GoesOn (to_standing o) →
      GoRight now (board_mods_told n mods o)
  mods_right n mods None h = (tt, tt)
  mods_right n mods (Some g) h = (h, tt)

  key_right : (n time key state : ℕ) (goes : Goes) → GoesOn goes → GoRight now (key_told n time key state goes)
  key_right n time key state (ToGrab g) h = (h, tt)
  key_right n time key state ToShell h = (tt, tt)
  key_right n time key state Nowhere h = tt
  key_right n time key state Refused h = tt

  peer_right : (x : ℕ) (event : Said) → is_peer older x ≡ true → IsOf interface.Display event →
      GoesRight now (to x event)
  peer_right x event h i =
      goes_to interface.Display now x event
      (old_kind x interface.Display (kind_within is_peer_kind older x h) (peer_kind older x h)) i

  deleted_right : (x : ℕ) (o : Option ℕ) → IsHistory older → peer_of older x ≡ o → GoRight now (deleted x o)
  deleted_right x None i e = tt
  deleted_right x (Some q) i e = (peer_right q (said.DeleteId x) (owner_lives older x q i e) refl, tt)

  new_right : (x : ℕ) (o : Option ℕ) → kind_at now x ≡ Some interface.TextInput → GoRight now (enters_new now x o)
  new_right x None k = tt
  new_right x (Some s) k = either_way (AllByRecursion (GoesRight now)) (entered now x) (enter s x ∷ []) [] (k, tt) tt

-- the events of a batch
group_kind : (b : Batch) (count : ℕ) → AllByRecursion (IsOf interface.TextInput) (group b count)
group_kind b count =
    each_append (IsOf interface.TextInput) (deletion_said b.deletion) _
    (either_way (AllByRecursion (IsOf interface.TextInput)) ((b.deletion.before == 0) && (b.deletion.after == 0)) []
    (said.Delete b.deletion.before b.deletion.after ∷ []) tt (refl, tt))
    (each_append (IsOf interface.TextInput) (string_said b.string) _
    (either_way (AllByRecursion (IsOf interface.TextInput)) (length b.string == 0) []
    (said.CommitString b.string ∷ []) tt (refl, tt))
    (each_append (IsOf interface.TextInput) (preedit_said b.preedit) (said.FieldDone count ∷ [])
    (either_way (AllByRecursion (IsOf interface.TextInput)) (is_no_preedit b.preedit) []
    (said.Preedit b.preedit.text b.preedit.begin b.preedit.end ∷ []) tt (refl, tt)) (refl, tt)))

batch_right : (m serial : ℕ) (older : List Act) (o : Option ℕ) → IsHistory older → holder older ≡ o →
    GoRight (acts.MCommit m serial ∷ older) (to_holder (acts.MCommit m serial) older o)
batch_right m serial older None i e = tt
batch_right m serial older (Some h) i e =
    let field : is_field older h ≡ true = entered_field older h (holder_entered older h i e) in
    go_to interface.TextInput (acts.MCommit m serial ∷ older) h (group (batch older m) (commit_count older h))
    (old_kind (acts.MCommit m serial) older h interface.TextInput (kind_within is_field_kind older h field)
    (field_kind older h field))
    (group_kind (batch older m) (commit_count older h))

keymap_kind : (o : Option keys.Keymap) → AllByRecursion (IsOf interface.KeyboardGrab) (keymap_said o)
keymap_kind None = tt
keymap_kind (Some k) = (refl, tt)

repeat_kind : (o : Option keys.Repeat) → AllByRecursion (IsOf interface.KeyboardGrab) (repeat_said o)
repeat_kind None = tt
repeat_kind (Some r) = (refl, tt)

mods_kind : (n : ℕ) (o : Option keys.Mods) → AllByRecursion (IsOf interface.KeyboardGrab) (mods_said n o)
mods_kind n None = tt
mods_kind n (Some m) = (refl, tt)

keyboard_kind : (n : ℕ) (log : List Act) → AllByRecursion (IsOf interface.KeyboardGrab) (keyboard_said n log)
keyboard_kind n log =
    each_append (IsOf interface.KeyboardGrab) (keymap_said (last_keymap log)) _ (keymap_kind (last_keymap log))
    (each_append (IsOf interface.KeyboardGrab) (repeat_said (last_repeat log)) (mods_said n (last_mods log))
    (repeat_kind (last_repeat log))
    (mods_kind n (last_mods log)))

leaves_right : (act : Act) (older : List Act) → GoRight (act ∷ older) (leaves act older)
leaves_right (acts.Focus s) older =
    entered_right (acts.Focus s ∷ older) older leave (focus older) (leaves_field (acts.Focus s) older)
leaves_right acts.Unfocus older = entered_right (acts.Unfocus ∷ older) older leave (focus older)
    (leaves_field acts.Unfocus older)
leaves_right _ older = tt

enters_right : (act : Act) (older : List Act) → GoRight (act ∷ older) (enters act older)
enters_right (acts.Focus s) older =
    entered_right (acts.Focus s ∷ older) (acts.Focus s ∷ older) enter (focus (acts.Focus s ∷ older))
    (enters_field (acts.Focus s) older)
enters_right (acts.Field p) older =
    new_right (acts.Field p) older (next older) (focus (acts.Field p ∷ older)) (kind_new (acts.Field p) older)
enters_right _ older = tt

own_right : (act : Act) (older : List Act) → IsHistory older → cleaned act older ≡ act →
    GoRight (act ∷ older) (own act older)
own_right (acts.Method p) older i c =
    either_way (AllByRecursion (GoesRight (acts.Method p ∷ older))) (is_some (serving older))
    (to (next older) said.Unavailable ∷ []) []
    (kind_new (acts.Method p) older, tt) tt
own_right (acts.Popup m s) older i c = popup_right (acts.Popup m s) older (next older) (kind_new (acts.Popup m s) older)
own_right (acts.Grab m) older i c =
    either_way (AllByRecursion (GoesRight (acts.Grab m ∷ older))) (is_at (standing (acts.Grab m ∷ older)) (next older))
    (map (to (next older)) (keyboard_said (next older) older)) []
    (go_to interface.KeyboardGrab (acts.Grab m ∷ older) (next older) (keyboard_said (next older) older)
    (kind_new (acts.Grab m) older)
    (keyboard_kind (next older) older)) tt
own_right (acts.Drop x) older i c = deleted_right (acts.Drop x) older x (peer_of older x) i refl
own_right (acts.Area s rect) older i c = popups_right (acts.Area s rect) older
own_right (acts.Screen size) older i c = popups_right (acts.Screen size) older
own_right (acts.Commit f) older i c =
    either_way (AllByRecursion (GoesRight (acts.Commit f ∷ older))) (is_at (holder (acts.Commit f ∷ older)) f)
    (each_popup (acts.Commit f ∷ older)) []
    (popups_right (acts.Commit f) older) tt
own_right (acts.MCommit m serial) older i c =
    either_way (AllByRecursion (GoesRight (acts.MCommit m serial ∷ older))) (fresh (acts.MCommit m serial) older)
    (to_holder (acts.MCommit m serial) older (holder older)) [] (batch_right m serial older (holder older) i refl) tt
own_right (acts.Key time key state) older i c =
    key_right (acts.Key time key state) older (next older) time key state (key_route older key state)
    (goes_right (acts.Key time key state) older key state)
own_right (acts.Mods mods) older i c = standing_right (acts.Mods mods) older (standing older)
    (said.Mods (next older) mods) refl refl
own_right (acts.Keymap keymap) older i c = standing_right (acts.Keymap keymap) older (standing older)
    (said.Keymap keymap) refl refl
own_right (acts.Repeat repeat) older i c = standing_right (acts.Repeat repeat) older (standing older)
    (said.Repeat repeat) refl refl
own_right (acts.VKey v time key state) older i c =
    key_right (acts.VKey v time key state) older (next older) time key state (board_route older v key state)
    (board_right (acts.VKey v time key state) older v key state)
own_right (acts.VMods v mods) older i c =
    mods_right (acts.VMods v mods) older (next older) mods (grab_for older v)
    (for_right (acts.VMods v mods) older v (is_same (peer_at older (standing older)) (peer_of older v)))
own_right (acts.Registry p role) older i c =
    each_map (GoesRight (acts.Registry p role ∷ older)) (global_told (next older)) (offered role)
    (each_of (λ offer. GoesRight (acts.Registry p role ∷ older) (global_told (next older) offer)) (offered role)
    (λ offer. kind_new (acts.Registry p role) older))
own_right (acts.Sync p) older i c = (
  kind_new (acts.Sync p) older,
  (peer_right (acts.Sync p) older p (said.DeleteId (next older)) (live (acts.Sync p) older c (λ d. cc)) refl, tt),
)
own_right (acts.Seat p) older i c = (kind_new (acts.Seat p) older, tt)
own_right (acts.Bad p fault x) older i c = (
  peer_right (acts.Bad p fault x) older p (said.Error x fault) (live (acts.Bad p fault x) older c (λ d. cc)) refl,
  tt,
)
own_right _ older i c = tt

by_right : (act : Act) (older : List Act) → IsHistory older → cleaned act older ≡ act →
    GoRight (act ∷ older) (told_by act older)
by_right act older i c =
    each_append (GoesRight (act ∷ older)) (leaves act older) _ (leaves_right act older)
    (each_append (GoesRight (act ∷ older)) (to_method act older (serving (act ∷ older))) _
    (method_right act older (serving (act ∷ older)) refl)
    (each_append (GoesRight (act ∷ older)) (enters act older) (own act older) (enters_right act older)
    (own_right act older i c)))

pub told_right : (act : Act) (acts : List Act) → AllByRecursion (GoesRight (history (act ∷ acts))) (told act acts)
told_right act acts = by_right (cleaned act (history acts)) (history acts) (history_is acts)
    (cleaned_again act (history acts))

-- ---- of what an entry tells

for_its : (journal : List Entry) (t : Told) → GoesRight (log_of (past_of journal)) t → IsForIts (past_of journal).made t
for_its journal t h object is = by (message_of (past_of journal).made t.event)
    (message_kind (past_of journal).made t.event)
  where
    with : IsWith (past_of journal).made t.to object
    with = made_with (past_of journal).made t.to object is

    by : (o : Option Message) → IfSome o (λ m. event_kind t.event ≡ Some m.interface) →
        IfSome o (λ m. m.interface ≡ object.interface)
    by None k = tt
    by (Some m) k =
        let at : kind_at (log_of (past_of journal)) t.to ≡ Some m.interface =
        subst (λ (o : Option Interface). IfSome o (λ i. kind_at (log_of (past_of journal)) t.to ≡ Some i)) k h in
        sym (subst (λ (o : Option Interface). IfSome o (λ i. object.interface ≡ i))
        (ap (kind_at (log_of (past_of journal))) with.named ∙ at)
        (made_as_acts journal object with.among))

pub told_to_its_kind : ToldToItsKind
told_to_its_kind e older =
    each_weaker (GoesRight (log_of (past_of (e ∷ older)))) (IsForIts (past_of (e ∷ older)).made)
    (told (act_at e older) (resolve older))
    (λ t h. for_its (e ∷ older) t h) (told_right (act_at e older) (resolve older))
