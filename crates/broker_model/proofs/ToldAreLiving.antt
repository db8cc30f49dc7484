-- What an act tells goes to the shell, to a living object or to the new one, and names such objects alone.
use Rattle.std.proofs.Common.{◌≡◌, ℕ, ◌≤◌, List, [], ◌∷◌, length, map, Bool, true, false, Option, Some, None, ap, refl, sym, subst, ◌∙◌, arith, inl, inr, ◌⊎◌}
use Rattle.std.specs.Prelude.{not, ◌&&◌, nat_lt, if◌then◌else◌, is_some, is_none, filter}
use Rattle.std.specs.List.{AllByRecursion}
use Rattle.std.proofs.lemmas.Bool.{eqb-true, cases_lt}
use Rattle.std.proofs.lemmas.Option.{same_Some}
use Rattle.relay_model.specs.declared.act.Act.{Act}
use Rattle.relay_model.specs.declared.act.Act.TheVariants as acts
use Rattle.relay_model.specs.declared.said.Told.{Told}
use Rattle.relay_model.specs.declared.said.Said.{Said}
use Rattle.relay_model.specs.declared.said.Said.TheVariants as said
use Rattle.relay_model.specs.Objects.{Object, GrabKind, next, is_at, is_same, is_peer_kind, is_field_kind, is_popup_kind, method_in, owner, made_for, object, alive, peer_of, method_of, is_peer, is_popup, labels, fields, popups}
use Rattle.relay_model.specs.Focus.{focus, entered, peer_at}
use Rattle.relay_model.specs.Hold.{holder}
use Rattle.relay_model.specs.Activation.{serving, notice, fresh}
use Rattle.relay_model.specs.Batch.{group_of}
use Rattle.relay_model.specs.Keys.{Goes, ToGrab, ToShell, Nowhere, Refused, Mods, key_route, standing, stands_on, as_first, to_standing, first_went, grab_stands, is_down, is_press, number_down}
use Rattle.relay_model.specs.Boards.{board_route, board_down, board_number, board_went, grab_for}
use Rattle.relay_model.specs.Popups.{cursor, ready_surface, told_where, popup_told, each_popup}
use Rattle.relay_model.specs.Globals.{offered, global_told}
use Rattle.relay_model.specs.Idle.{is_live, cleaned, history}
use Rattle.relay_model.specs.Told.{to, leave, enter, each_entered, leaves, notice_said, to_method, enters_new, enters, to_holder, deleted, key_told, keyboard_said, to_grab, board_mods_told, own, told_by}
use Rattle.relay_model.proofs.ActsOrIdle.{IsHistory, live, history_is, cleaned_again}
use Rattle.relay_model.proofs.ObjectLaws.{object_step, object_new, alive_within, kind_alive}
use Rattle.relay_model.proofs.FocusLaws.{entered_field, focus_alive}
use Rattle.relay_model.proofs.HoldLaws.{holder_entered}
use Rattle.relay_model.proofs.ActivationLaws.{serving_alive}
use Rattle.broker_model.proofs.OwnersLive.{owner_lives}
use Rattle.broker_model.proofs.MadeObjectsStand.{lived}
use Rattle.broker_model.proofs.EachElement.{either_way, each_of, each_weaker, each_append, each_map, each_flat, each_kept}
use Rattle.broker_model.specs.Living.{IsLiving, IsOfLiving, ErrsOnLiving, ActsTellLiving}
use Rattle.broker_model.proofs.PlainEvents.{IsPlain, ArePlain, notice_plain, batch_plain, keyboard_plain}

abbrev AreOf : List Act → List Told → Type 0
AreOf log ts = AllByRecursion (IsOfLiving log) ts

-- ---- objects that live

-- what is alive after an act was so before it, or is the act's own
living_later : (act : Act) (log : List Act) (x : ℕ) → alive (act ∷ log) x ≡ true → IsLiving log x
living_later act log x l =
    elim (cases_lt (length log) x) [
      | inl beyond ↦ (let w : x ≤ length (act ∷ log) = alive_within (act ∷ log) x l in inr (omega arith))
      | inr within ↦ inl (lived act log x within l)
    ]

field_lives : (log : List Act) (f : ℕ) → entered log f ≡ true → alive log f ≡ true
field_lives log f e = kind_alive is_field_kind log f (entered_field log f e)

peer_lives : (log : List Act) (p : ℕ) → is_peer log p ≡ true → alive log p ≡ true
peer_lives log p l = kind_alive is_peer_kind log p l

owned_lives : (log : List Act) (x p : ℕ) → peer_of log x ≡ Some p → alive log x ≡ true
owned_lives log x p e = by (object log x) e
  where
    by : (o : Option Object) → owner o ≡ Some p → is_some o ≡ true
    by None k = cc
    by (Some u) k = refl

at_is : (o : Option ℕ) (x : ℕ) → is_at o x ≡ true → o ≡ Some x
at_is None x e = cc
at_is (Some y) x e = ap Some (eqb-true y x e)

-- the grab that stands

same_there : (o : Option Object) (s : Option ℕ) → is_same (method_in o) s ≡ true → is_some o ≡ true
same_there None s h = cc
same_there (Some u) s h = refl

stood : (log : List Act) (o : Option ℕ) (g : ℕ) → stands_on log o ≡ Some g → alive log g ≡ true
stood log None g e = cc
stood log (Some n) g e = by (is_same (method_of log n) (serving log)) refl e
  where
    by : (b : Bool) → is_same (method_of log n) (serving log) ≡ b → (if b then Some n else None) ≡ Some g →
        alive log g ≡ true
    by true k h = ap (alive log) (sym (same_Some n g h)) ∙ same_there (object log n) (serving log) k
    by false k h = cc

of_method_there : (m : ℕ) (o : Option Object) → is_some o ≡ true → is_some (made_for (GrabKind m) (owner o)) ≡ true
of_method_there m None h = cc
of_method_there m (Some u) h = refl

grabbed : (m : ℕ) (older : List Act) (g : ℕ) → (standing older ≡ Some g → alive older g ≡ true) →
    (if is_none (standing older) && is_at (serving older) m then Some (next older) else standing older) ≡ Some g →
    alive (acts.Grab m ∷ older) g ≡ true
grabbed m older g k e = by (is_none (standing older)) (is_at (serving older) m) refl e
  where
    new : is_at (serving older) m ≡ true → alive (acts.Grab m ∷ older) (next older) ≡ true
    new h =
        ap is_some (object_new (acts.Grab m) older)
        ∙ of_method_there m (object older m) (serving_alive older m (at_is (serving older) m h))

    old : standing older ≡ Some g → alive (acts.Grab m ∷ older) g ≡ true
    old h = ap is_some (object_step (acts.Grab m) older g (alive_within older g (k h))) ∙ k h

    by : (a b : Bool) → is_at (serving older) m ≡ b →
        (if a && b then Some (next older) else standing older) ≡ Some g → alive (acts.Grab m ∷ older) g ≡ true
    by true true q h = ap (alive (acts.Grab m ∷ older)) (sym (same_Some (next older) g h)) ∙ new q
    by true false q h = old h
    by false b q h = old h

-- the grab that stands is alive
grab_lives : (log : List Act) (g : ℕ) → standing log ≡ Some g → alive log g ≡ true
grab_lives [] g e = cc
grab_lives (acts.Grab m ∷ older) g e = grabbed m older g (grab_lives older g) e
grab_lives (act ∷ older) g e = stood (act ∷ older) (standing older) g e

-- ---- events of one object that name none

plain_to : (log : List Act) (x : ℕ) (event : Said) → IsPlain event → IsLiving log x → IsOfLiving log (to x event)
plain_to log x event e l = record {
  to = inr l;
  names = subst (λ (xs : List ℕ). AllByRecursion (IsLiving log) xs) (sym e) tt;
}

plain_all : (log : List Act) (x : ℕ) (events : List Said) → ArePlain events → IsLiving log x →
    AreOf log (map (to x) events)
plain_all log x [] h l = tt
plain_all log x (event ∷ rest) h l = (plain_to log x event h.0 l, plain_all log x rest h.1 l)

plain_grab : (log : List Act) (o : Option ℕ) (event : Said) → standing log ≡ o → IsPlain event →
    AreOf log (to_grab o event)
plain_grab log None event e h = tt
plain_grab log (Some g) event e h = (plain_to log g event h (inl (grab_lives log g e)), tt)

-- ---- fields that are left and entered

of_entered : (log now : List Act) (say : ℕ → ℕ → Told) (o : Option ℕ) →
    ((s f : ℕ) → o ≡ Some s → entered now f ≡ true → IsOfLiving log (say s f)) → AreOf log (each_entered say now o)
of_entered log now say None h = tt
of_entered log now say (Some s) h =
    each_map (IsOfLiving log) (say s) (filter (entered now) (fields now))
    (each_weaker (λ f. entered now f ≡ true) (λ f. IsOfLiving log (say s f)) (filter (entered now) (fields now))
    (λ f k. h s f refl k) (each_kept (entered now) (fields now)))

of_left : (log : List Act) → AreOf log (each_entered leave log (focus log))
of_left log =
    of_entered log log leave (focus log)
    (λ s f e k. record { to = inr (inl (field_lives log f k)); names = (inl (focus_alive log s e), tt) })

of_leaves : (act : Act) (log : List Act) → AreOf log (leaves act log)
of_leaves (acts.Focus s) log = of_left log
of_leaves acts.Unfocus log = of_left log
of_leaves _ log = tt

of_new : (log now : List Act) (f : ℕ) (o : Option ℕ) → IsLiving log f → ((s : ℕ) → o ≡ Some s → IsLiving log s) →
    AreOf log (enters_new now f o)
of_new log now f None l h = tt
of_new log now f (Some s) l h =
    either_way (AllByRecursion (IsOfLiving log)) (entered now f) (enter s f ∷ []) []
    (record { to = inr l; names = (h s refl, tt) }, tt) tt

of_enters : (act : Act) (log : List Act) → AreOf log (enters act log)
of_enters (acts.Focus s) log =
    of_entered log (acts.Focus s ∷ log) enter (focus (acts.Focus s ∷ log))
    (λ t f e k. record {
      to = inr (living_later (acts.Focus s) log f (field_lives (acts.Focus s ∷ log) f k));
      names = (living_later (acts.Focus s) log t (focus_alive (acts.Focus s ∷ log) t e), tt);
    })
of_enters (acts.Field p) log =
    of_new log (acts.Field p ∷ log) (next log) (focus (acts.Field p ∷ log)) (inr refl)
    (λ s e. living_later (acts.Field p) log s (focus_alive (acts.Field p ∷ log) s e))
of_enters _ log = tt

of_method : (act : Act) (log : List Act) (o : Option ℕ) → serving (act ∷ log) ≡ o → AreOf log (to_method act log o)
of_method act log None e = tt
of_method act log (Some m) e =
    plain_all log m (notice_said (act ∷ log) (notice act log)) (notice_plain (act ∷ log) (notice act log))
    (living_later act log m (serving_alive (act ∷ log) m e))

-- ---- popups

of_where : (log now : List Act) (x : ℕ) (s : Option ℕ) → IsLiving log x → AreOf log (told_where now x s (cursor now))
of_where log now x None l = tt
of_where log now x (Some s) l =
    elim (cursor now) as (λ rect. AreOf log (told_where now x (Some s) rect)) [
      | None ↦ tt
      | Some rect ↦ (record { to = inr l; names = tt }, (record { to = inl refl; names = (l, tt) }, tt))
    ]

of_popup : (log now : List Act) (x : ℕ) → IsLiving log x → AreOf log (popup_told now x)
of_popup log now x l = of_where log now x (ready_surface now x) l

of_popups : (act : Act) (log : List Act) → AreOf log (each_popup (act ∷ log))
of_popups act log =
    each_flat (IsOfLiving log) (popup_told (act ∷ log)) (popups (act ∷ log))
    (each_weaker (λ x. is_popup (act ∷ log) x ≡ true) (λ x. AreOf log (popup_told (act ∷ log) x)) (popups (act ∷ log))
    (λ x k. of_popup log (act ∷ log) x (living_later act log x (kind_alive is_popup_kind (act ∷ log) x k)))
    (each_kept (is_popup (act ∷ log)) (labels (act ∷ log))))

-- ---- keys

abbrev GoesToLiving : List Act → Goes → Type 0
GoesToLiving log (ToGrab g) = IsLiving log g
GoesToLiving log _ = Unit {0}

first_goes : (log : List Act) (o : Option ℕ) → GoesToLiving log (as_first log o)
first_goes log None = tt
first_goes log (Some g) = by (grab_stands log g) refl
  where
    by : (b : Bool) → grab_stands log g ≡ b → GoesToLiving log (if b then ToGrab g else Nowhere)
    by true e = inl (grab_lives log g (at_is (standing log) g e))
    by false e = tt

standing_goes : (log : List Act) (o : Option ℕ) → standing log ≡ o → GoesToLiving log (to_standing o)
standing_goes log None e = tt
standing_goes log (Some g) e = inl (grab_lives log g e)

key_goes : (log : List Act) (key state : ℕ) → GoesToLiving log (key_route log key state)
key_goes log key state =
    either_way (GoesToLiving log) (is_down log key) (as_first log (first_went log key)) _
    (first_goes log (first_went log key))
    (either_way (GoesToLiving log) (not (is_press state)) ToShell _ tt
    (either_way (GoesToLiving log) (nat_lt (number_down log) 64) (to_standing (standing log)) Refused
    (standing_goes log (standing log) refl) tt))

unless_own : (log : List Act) (b : Bool) → GoesToLiving log (to_standing (if b then None else standing log))
unless_own log true = tt
unless_own log false = standing_goes log (standing log) refl

board_goes : (log : List Act) (v key state : ℕ) → GoesToLiving log (board_route log v key state)
board_goes log v key state =
    either_way (GoesToLiving log) (board_down log v key) (as_first log (board_went log v key)) _
    (first_goes log (board_went log v key))
    (either_way (GoesToLiving log) (not (is_press state)) ToShell _ tt
    (either_way (GoesToLiving log) (nat_lt (board_number log v) 64) (to_standing (grab_for log v)) Refused
    (unless_own log (is_same (peer_at log (standing log)) (peer_of log v))) tt))

of_key : (log : List Act) (n time key state : ℕ) (goes : Goes) → GoesToLiving log goes →
    AreOf log (key_told n time key state goes)
of_key log n time key state (ToGrab g) h = (record { to = inr h; names = tt }, tt)
of_key log n time key state ToShell h = (record { to = inl refl; names = tt }, tt)
of_key log n time key state Nowhere h = tt
of_key log n time key state Refused h = tt

of_mods : (log : List Act) (n : ℕ) (mods : Mods) (o : Option ℕ) → GoesToLiving log (to_standing o) →
    AreOf log (board_mods_told n mods o)
of_mods log n mods None h = (record { to = inl refl; names = tt }, tt)
of_mods log n mods (Some g) h = (record { to = inr h; names = tt }, tt)

-- ---- the act's own events

of_deleted : (log : List Act) (x : ℕ) (o : Option ℕ) → IsHistory log → peer_of log x ≡ o → AreOf log (deleted x o)
of_deleted log x None i e = tt
of_deleted log x (Some p) i e = (
  record {
    to = inr (inl (peer_lives log p (owner_lives log x p i e)));
    names = (inl (owned_lives log x p e), tt);
  },
  tt,
)

of_holder : (act : Act) (log : List Act) (o : Option ℕ) → IsHistory log → holder log ≡ o →
    AreOf log (to_holder act log o)
of_holder act log None i e = tt
of_holder act log (Some h) i e =
    plain_all log h (group_of act log h) (batch_plain act log h) (inl (field_lives log h (holder_entered log h i e)))

of_error : (log : List Act) (p x : ℕ) → alive log p ≡ true → (x ≡ p) ⊎ (alive log x ≡ true) → IsLiving log x
of_error log p x l (inl e) = inl (ap (alive log) e ∙ l)
of_error log p x l (inr a) = inl a

of_if : (log : List Act) (b : Bool) (ts : List Told) → AreOf log ts → AreOf log (if b then ts else [])
of_if log b ts h = either_way (AllByRecursion (IsOfLiving log)) b ts [] h tt

of_own : (act : Act) (log : List Act) → IsHistory (act ∷ log) → ErrsOnLiving log act → AreOf log (own act log)
of_own (acts.Method p) log i h =
    of_if log (is_some (serving log)) (to (next log) said.Unavailable ∷ [])
    (plain_to log (next log) said.Unavailable refl (inr refl), tt)
of_own (acts.Popup m s) log i h = of_popup log (acts.Popup m s ∷ log) (next log) (inr refl)
of_own (acts.Grab m) log i h =
    of_if log (is_at (standing (acts.Grab m ∷ log)) (next log)) (map (to (next log)) (keyboard_said (next log) log))
    (plain_all log (next log) (keyboard_said (next log) log) (keyboard_plain (next log) log) (inr refl))
of_own (acts.Drop x) log i h = of_deleted log x (peer_of log x) i.1 refl
of_own (acts.Area s rect) log i h = of_popups (acts.Area s rect) log
of_own (acts.Screen size) log i h = of_popups (acts.Screen size) log
of_own (acts.Commit f) log i h =
    of_if log (is_at (holder (acts.Commit f ∷ log)) f) (each_popup (acts.Commit f ∷ log))
    (of_popups (acts.Commit f) log)
of_own (acts.MCommit m serial) log i h =
    of_if log (fresh (acts.MCommit m serial) log) (to_holder (acts.MCommit m serial) log (holder log))
    (of_holder (acts.MCommit m serial) log (holder log) i.1 refl)
of_own (acts.Key time key state) log i h =
    of_key log (next log) time key state (key_route log key state) (key_goes log key state)
of_own (acts.Mods mods) log i h = plain_grab log (standing log) (said.Mods (next log) mods) refl refl
of_own (acts.Keymap keymap) log i h = plain_grab log (standing log) (said.Keymap keymap) refl refl
of_own (acts.Repeat repeat) log i h = plain_grab log (standing log) (said.Repeat repeat) refl refl
of_own (acts.VKey v time key state) log i h =
    of_key log (next log) time key state (board_route log v key state) (board_goes log v key state)
of_own (acts.VMods v mods) log i h =
    of_mods log (next log) mods (grab_for log v)
    (unless_own log (is_same (peer_at log (standing log)) (peer_of log v)))
of_own (acts.Registry p role) log i h =
    each_map (IsOfLiving log) (global_told (next log)) (offered role)
    (each_of (λ offer. IsOfLiving log (global_told (next log) offer)) (offered role)
    (λ offer. record { to = inr (inr refl); names = tt }))
of_own (acts.Sync p) log i h = (
  record { to = inr (inr refl); names = tt },
  (
    record {
      to = inr (inl (peer_lives log p (live (acts.Sync p) log i.0 (λ d. cc))));
      names = (inr refl, tt);
    },
    tt,
  ),
)
of_own (acts.Seat p) log i h = (record { to = inr (inr refl); names = tt }, tt)
of_own (acts.Bad p fault x) log i h =
    let l : alive log p ≡ true = peer_lives log p (live (acts.Bad p fault x) log i.0 (λ d. cc)) in
    (record { to = inr (inl l); names = (of_error log p x l h, tt) }, tt)
of_own _ log i h = tt

-- all that an act of a history tells
of_all : (act : Act) (log : List Act) → IsHistory (act ∷ log) → ErrsOnLiving log act → AreOf log (told_by act log)
of_all act log i h =
    each_append (IsOfLiving log) (leaves act log) _ (of_leaves act log)
    (each_append (IsOfLiving log) (to_method act log (serving (act ∷ log))) _
    (of_method act log (serving (act ∷ log)) refl)
    (each_append (IsOfLiving log) (enters act log) (own act log) (of_enters act log) (of_own act log i h)))

pub told_living : ActsTellLiving
told_living act older h =
    of_all (cleaned act (history older)) (history older) (cleaned_again act (history older), history_is older)
    (either_way (ErrsOnLiving (history older)) (is_live act (history older)) act acts.Idle h tt)
