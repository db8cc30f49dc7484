-- To whom an act tells things: to the shell, to an object that is alive, and to what the act makes.
use Rattle.std.proofs.Common.{◌≡◌, ℕ, ◌≤◌, List, [], ◌∷◌, length, map, Bool, true, false, Option, Some, None, ap, refl, arith, inl, inr, ◌⊎◌}
use Rattle.std.specs.Prelude.{not, nat_lt, if◌then◌else◌, is_some, filter}
use Rattle.std.specs.List.{AllByRecursion}
use Rattle.std.proofs.lemmas.Bool.{eqb-true, cases_lt}
use Rattle.relay_model.specs.declared.act.Act.{Act}
use Rattle.relay_model.specs.declared.act.Act.TheVariants as acts
use Rattle.relay_model.specs.declared.said.Told.{Told}
use Rattle.relay_model.specs.declared.said.Said.{Said}
use Rattle.relay_model.specs.declared.said.Said.TheVariants as said
use Rattle.relay_model.specs.Objects.{next, is_at, is_peer_kind, is_field_kind, is_popup_kind, is_peer, is_popup, alive, peer_of, fields, labels, popups, is_same}
use Rattle.relay_model.specs.Focus.{focus, entered, peer_at}
use Rattle.relay_model.specs.Hold.{holder}
use Rattle.relay_model.specs.Activation.{serving, notice, fresh}
use Rattle.relay_model.specs.Batch.{group_of}
use Rattle.relay_model.specs.Keys.{Goes, ToGrab, ToShell, Nowhere, Refused, key_route, standing, as_first, to_standing, first_went, grab_stands, is_down, is_press, number_down, Mods}
use Rattle.relay_model.specs.Boards.{board_route, board_down, board_number, board_went, grab_for}
use Rattle.relay_model.specs.Popups.{cursor, ready_surface, told_where, popup_told, each_popup}
use Rattle.relay_model.specs.Globals.{offered, global_told}
use Rattle.relay_model.specs.Told.{to, leave, enter, each_entered, leaves, notice_said, to_method, enters_new, enters, to_holder, deleted, key_told, keyboard_said, to_grab, own, told_by, board_mods_told}
use Rattle.relay_model.proofs.ActsOrIdle.{IsHistory, live}
use Rattle.relay_model.proofs.ObjectLaws.{alive_within, kind_alive}
use Rattle.relay_model.proofs.FocusLaws.{entered_field}
use Rattle.relay_model.proofs.HoldLaws.{holder_entered}
use Rattle.relay_model.proofs.ActivationLaws.{serving_alive}
use Rattle.relay_core.proofs.GrabLaws.{standing_alive}
use Rattle.broker_model.proofs.OwnersLive.{owner_lives}
use Rattle.broker_model.proofs.MadeObjectsStand.{lived}
use Rattle.broker_model.proofs.EachElement.{either_way, each_of, each_weaker, each_append, each_map, each_flat, each_kept}

-- the label is the shell's, or that of an object that is alive after a history, or that of the next act
abbrev pub Hears : List Act → ℕ → Type 0
Hears log x = (x ≡ 0) ⊎ ((alive log x ≡ true) ⊎ (x ≡ next log))

abbrev pub IsHeard : List Act → Told → Type 0
IsHeard log t = Hears log t.to

abbrev AreHeard : List Act → List Told → Type 0
AreHeard log ts = AllByRecursion (IsHeard log) ts

hears_alive : (log : List Act) (x : ℕ) → alive log x ≡ true → Hears log x
hears_alive log x l = inr (inl l)

hears_next : (log : List Act) → Hears log (next log)
hears_next log = inr (inr refl)

-- what is alive after an act was so before it, or is the act's own
hears_later : (act : Act) (log : List Act) (x : ℕ) → alive (act ∷ log) x ≡ true → Hears log x
hears_later act log x l =
    elim (cases_lt (length log) x) [
      | inl beyond ↦ (let w : x ≤ length (act ∷ log) = alive_within (act ∷ log) x l in inr (inr (omega arith)))
      | inr within ↦ inr (inl (lived act log x within l))
    ]

hears_field : (log : List Act) (f : ℕ) → entered log f ≡ true → alive log f ≡ true
hears_field log f e = kind_alive is_field_kind log f (entered_field log f e)

-- all that is told to one object
heard_saids : (log : List Act) (x : ℕ) (saids : List Said) → Hears log x → AreHeard log (map (to x) saids)
heard_saids log x [] h = tt
heard_saids log x (s ∷ rest) h = (h, heard_saids log x rest h)

heard_entered : (say : ℕ → ℕ → Told) (log now : List Act) (o : Option ℕ) →
    ((s f : ℕ) → entered now f ≡ true → IsHeard log (say s f)) →
    AreHeard log (each_entered say now o)
heard_entered say log now None h = tt
heard_entered say log now (Some s) h =
    each_map (IsHeard log) (say s) (filter (entered now) (fields now))
    (each_weaker (λ f. entered now f ≡ true) (λ f. IsHeard log (say s f)) (filter (entered now) (fields now)) (h s)
    (each_kept (entered now) (fields now)))

heard_left : (log : List Act) → AreHeard log (each_entered leave log (focus log))
heard_left log = heard_entered leave log log (focus log) (λ s f e. hears_alive log f (hears_field log f e))

heard_leaves : (act : Act) (log : List Act) → AreHeard log (leaves act log)
heard_leaves (acts.Focus s) log = heard_left log
heard_leaves acts.Unfocus log = heard_left log
heard_leaves _ log = tt

heard_method : (act : Act) (log : List Act) (o : Option ℕ) → serving (act ∷ log) ≡ o →
    AreHeard log (to_method act log o)
heard_method act log None e = tt
heard_method act log (Some m) e =
    heard_saids log m (notice_said (act ∷ log) (notice act log)) (hears_later act log m (serving_alive (act ∷ log) m e))

heard_new : (log now : List Act) (f : ℕ) (o : Option ℕ) → Hears log f → AreHeard log (enters_new now f o)
heard_new log now f None h = tt
heard_new log now f (Some s) h =
    either_way (AllByRecursion (IsHeard log)) (entered now f) (enter s f ∷ []) [] (h, tt) tt

heard_enters : (act : Act) (log : List Act) → AreHeard log (enters act log)
heard_enters (acts.Focus s) log =
    heard_entered enter log (acts.Focus s ∷ log) (focus (acts.Focus s ∷ log))
    (λ t f e. hears_later (acts.Focus s) log f (hears_field (acts.Focus s ∷ log) f e))
heard_enters (acts.Field p) log =
    heard_new log (acts.Field p ∷ log) (next log) (focus (acts.Field p ∷ log)) (hears_next log)
heard_enters _ log = tt

-- popups

heard_where : (log now : List Act) (x : ℕ) (s : Option ℕ) → Hears log x → AreHeard log (told_where now x s (cursor now))
heard_where log now x None h = tt
heard_where log now x (Some s) h =
    elim (cursor now) as (λ rect. AreHeard log (told_where now x (Some s) rect)) [
      | None ↦ tt
      | Some rect ↦ (h, (inl refl, tt))
    ]

heard_popup : (log now : List Act) (x : ℕ) → Hears log x → AreHeard log (popup_told now x)
heard_popup log now x h = heard_where log now x (ready_surface now x) h

heard_popups : (act : Act) (log : List Act) → AreHeard log (each_popup (act ∷ log))
heard_popups act log =
    each_flat (IsHeard log) (popup_told (act ∷ log)) (popups (act ∷ log))
    (each_weaker (λ x. is_popup (act ∷ log) x ≡ true) (λ x. AreHeard log (popup_told (act ∷ log) x))
    (popups (act ∷ log))
    (λ x k. heard_popup log (act ∷ log) x (hears_later act log x (kind_alive is_popup_kind (act ∷ log) x k)))
    (each_kept (is_popup (act ∷ log)) (labels (act ∷ log))))

-- keys

at_is : (o : Option ℕ) (x : ℕ) → is_at o x ≡ true → o ≡ Some x
at_is None x e = cc
at_is (Some y) x e = ap Some (eqb-true y x e)

abbrev GoesHeard : List Act → Goes → Type 0
GoesHeard log (ToGrab g) = Hears log g
GoesHeard log _ = Unit {0}

goes_first : (log : List Act) (o : Option ℕ) → GoesHeard log (as_first log o)
goes_first log None = tt
goes_first log (Some g) = by (grab_stands log g) refl
  where
    by : (b : Bool) → grab_stands log g ≡ b → GoesHeard log (if b then ToGrab g else Nowhere)
    by true e = hears_alive log g (standing_alive log g (at_is (standing log) g e))
    by false e = tt

goes_standing : (log : List Act) (o : Option ℕ) → standing log ≡ o → GoesHeard log (to_standing o)
goes_standing log None e = tt
goes_standing log (Some g) e = hears_alive log g (standing_alive log g e)

goes_heard : (log : List Act) (key state : ℕ) → GoesHeard log (key_route log key state)
goes_heard log key state =
    either_way (GoesHeard log) (is_down log key) (as_first log (first_went log key)) _
    (goes_first log (first_went log key))
    (either_way (GoesHeard log) (not (is_press state)) ToShell _ tt
    (either_way (GoesHeard log) (nat_lt (number_down log) 64) (to_standing (standing log)) Refused
    (goes_standing log (standing log) refl) tt))

goes_for : (log : List Act) (v : ℕ) (b : Bool) → GoesHeard log (to_standing (if b then None else standing log))
goes_for log v true = tt
goes_for log v false = goes_standing log (standing log) refl

board_heard : (log : List Act) (v key state : ℕ) → GoesHeard log (board_route log v key state)
board_heard log v key state =
    either_way (GoesHeard log) (board_down log v key) (as_first log (board_went log v key)) _
    (goes_first log (board_went log v key))
    (either_way (GoesHeard log) (not (is_press state)) ToShell _ tt
    (either_way (GoesHeard log) (nat_lt (board_number log v) 64) (to_standing (grab_for log v)) Refused
    (goes_for log v (is_same (peer_at log (standing log)) (peer_of log v))) tt))

heard_mods : (log : List Act) (n : ℕ) (mods : Mods) (o : Option ℕ) → GoesHeard log (to_standing o) →
    AreHeard log (board_mods_told n mods o)
heard_mods log n mods None h = (inl refl, tt)
heard_mods log n mods (Some g) h = (h, tt)

heard_key : (log : List Act) (n time key state : ℕ) (goes : Goes) → GoesHeard log goes →
    AreHeard log (key_told n time key state goes)
heard_key log n time key state (ToGrab g) h = (h, tt)
heard_key log n time key state ToShell h = (inl refl, tt)
heard_key log n time key state Nowhere h = tt
heard_key log n time key state Refused h = tt

heard_grab : (log : List Act) (o : Option ℕ) (event : Said) → standing log ≡ o → AreHeard log (to_grab o event)
heard_grab log None event e = tt
heard_grab log (Some g) event e = (hears_alive log g (standing_alive log g e), tt)

-- the act's own events

hears_peer : (log : List Act) (p : ℕ) → is_peer log p ≡ true → Hears log p
hears_peer log p l = hears_alive log p (kind_alive is_peer_kind log p l)

heard_deleted : (log : List Act) (x : ℕ) (o : Option ℕ) → IsHistory log → peer_of log x ≡ o → AreHeard log (deleted x o)
heard_deleted log x None i e = tt
heard_deleted log x (Some p) i e = (hears_peer log p (owner_lives log x p i e), tt)

heard_holder : (act : Act) (log : List Act) (o : Option ℕ) → IsHistory log → holder log ≡ o →
    AreHeard log (to_holder act log o)
heard_holder act log None i e = tt
heard_holder act log (Some h) i e =
    heard_saids log h (group_of act log h) (hears_alive log h (hears_field log h (holder_entered log h i e)))

heard_if : (log : List Act) (b : Bool) (ts : List Told) → AreHeard log ts → AreHeard log (if b then ts else [])
heard_if log b ts h = either_way (AllByRecursion (IsHeard log)) b ts [] h tt

heard_own : (act : Act) (log : List Act) → IsHistory (act ∷ log) → AreHeard log (own act log)
heard_own (acts.Method p) log i = heard_if log (is_some (serving log)) _ (hears_next log, tt)
heard_own (acts.Popup m s) log i = heard_popup log (acts.Popup m s ∷ log) (next log) (hears_next log)
heard_own (acts.Grab m) log i =
    heard_if log (is_at (standing (acts.Grab m ∷ log)) (next log)) _
    (heard_saids log (next log) (keyboard_said (next log) log) (hears_next log))
heard_own (acts.Drop x) log i = heard_deleted log x (peer_of log x) i.1 refl
heard_own (acts.Area s rect) log i = heard_popups (acts.Area s rect) log
heard_own (acts.Screen size) log i = heard_popups (acts.Screen size) log
heard_own (acts.Commit f) log i =
    heard_if log (is_at (holder (acts.Commit f ∷ log)) f) _ (heard_popups (acts.Commit f) log)
heard_own (acts.MCommit m serial) log i =
    heard_if log (fresh (acts.MCommit m serial) log) _ (heard_holder (acts.MCommit m serial) log (holder log) i.1 refl)
heard_own (acts.Key time key state) log i =
    heard_key log (next log) time key state (key_route log key state) (goes_heard log key state)
heard_own (acts.Mods mods) log i = heard_grab log (standing log) (said.Mods (next log) mods) refl
heard_own (acts.Keymap keymap) log i = heard_grab log (standing log) (said.Keymap keymap) refl
heard_own (acts.Repeat repeat) log i = heard_grab log (standing log) (said.Repeat repeat) refl
heard_own (acts.VKey v time key state) log i =
    heard_key log (next log) time key state (board_route log v key state) (board_heard log v key state)
heard_own (acts.VMods v mods) log i =
    heard_mods log (next log) mods (grab_for log v)
    (goes_for log v (is_same (peer_at log (standing log)) (peer_of log v)))
heard_own (acts.Registry p role) log i =
    each_map (IsHeard log) (global_told (next log)) (offered role)
    (each_of (λ offer. IsHeard log (global_told (next log) offer)) (offered role) (λ offer. hears_next log))
heard_own (acts.Sync p) log i = (hears_next log, (hears_peer log p (live (acts.Sync p) log i.0 (λ d. cc)), tt))
heard_own (acts.Seat p) log i = (hears_next log, tt)
heard_own (acts.Bad p fault x) log i = (hears_peer log p (live (acts.Bad p fault x) log i.0 (λ d. cc)), tt)
heard_own _ log i = tt

-- all that an act of a history tells is for those
pub all_heard : (act : Act) (log : List Act) → IsHistory (act ∷ log) → AllByRecursion (IsHeard log) (told_by act log)
all_heard act log i =
    each_append (IsHeard log) (leaves act log) _ (heard_leaves act log)
    (each_append (IsHeard log) (to_method act log (serving (act ∷ log))) _
    (heard_method act log (serving (act ∷ log)) refl)
    (each_append (IsHeard log) (enters act log) (own act log) (heard_enters act log) (heard_own act log i)))
