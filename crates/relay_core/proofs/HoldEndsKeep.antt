-- Where a hold ends: what the relay keeps of the serving method, and of the rest.
use Rattle.std.proofs.Common.{◌≡◌, ℕ, List, ◌∷◌, Bool, true, false, Option, Some, None, ap, refl, sym, ◌∙◌}
use Rattle.std.specs.Prelude.{if◌then◌else◌, is_some}
use Rattle.popup_place.specs.declared.geometry.Size.{Size}
use Rattle.relay_model.specs.declared.act.Act.{Act}
use Rattle.relay_model.specs.Hold.{holder}
use Rattle.relay_model.specs.Activation.{Deactivates, serving, notice}
use Rattle.kbd_grab.specs.Keyboard.{Keyboard}
use Rattle.relay_objects.specs.declared.object.Object.{Object as Kept}
use Rattle.relay_core.specs.Machine.{State, no_edits, deactivated, released, parted}
use Rattle.relay_core.proofs.ServiceIsKept.{ServedIn, LeavesEdits, served_notified, served_none}
use Rattle.relay_core.proofs.SteadyActs.{ended}

acts_if : (b : Bool) (x y : State) (n : ℕ) → x.acts ≡ n → y.acts ≡ n → (if b then x else y).acts ≡ n
acts_if true x y n p q = p
acts_if false x y n p q = q

objects_if : (b : Bool) (x y : State) (os : List Kept) → x.objects ≡ os → y.objects ≡ os →
    (if b then x else y).objects ≡ os
objects_if true x y os p q = p
objects_if false x y os p q = q

focus_if : (b : Bool) (x y : State) (o : Option ℕ) → x.focus ≡ o → y.focus ≡ o → (if b then x else y).focus ≡ o
focus_if true x y o p q = p
focus_if false x y o p q = q

holder_if : (b : Bool) (x y : State) (o : Option ℕ) → x.holder ≡ o → y.holder ≡ o → (if b then x else y).holder ≡ o
holder_if true x y o p q = p
holder_if false x y o p q = q

pub released_acts : (s : State) → (released s).acts ≡ s.acts
released_acts s =
    acts_if (is_some s.holder) (deactivated (record s { holder = None })) s s.acts
    (acts_if (is_some s.serving) _ _ s.acts refl refl) refl

pub released_objects : (s : State) → (released s).objects ≡ s.objects
released_objects s =
    objects_if (is_some s.holder) (deactivated (record s { holder = None })) s s.objects
    (objects_if (is_some s.serving) _ _ s.objects refl refl) refl

pub released_focus : (s : State) → (released s).focus ≡ s.focus
released_focus s =
    focus_if (is_some s.holder) (deactivated (record s { holder = None })) s s.focus
    (focus_if (is_some s.serving) _ _ s.focus refl refl) refl

screen_if : (b : Bool) (x y : State) (z : Size) → x.screen ≡ z → y.screen ≡ z → (if b then x else y).screen ≡ z
screen_if true x y z p q = p
screen_if false x y z p q = q

keys_if : (b : Bool) (x y : State) (k : Keyboard) → x.keys ≡ k → y.keys ≡ k → (if b then x else y).keys ≡ k
keys_if true x y k p q = p
keys_if false x y k p q = q

pub released_screen : (s : State) → (released s).screen ≡ s.screen
released_screen s =
    screen_if (is_some s.holder) (deactivated (record s { holder = None })) s s.screen
    (screen_if (is_some s.serving) _ _ s.screen refl refl) refl

pub released_keys : (s : State) → (released s).keys ≡ s.keys
released_keys s =
    keys_if (is_some s.holder) (deactivated (record s { holder = None })) s s.keys
    (keys_if (is_some s.serving) _ _ s.keys refl refl) refl

released_holder_by : (s : State) (o : Option ℕ) → s.holder ≡ o →
    (if is_some o then deactivated (record s { holder = None }) else s).holder ≡ None
released_holder_by s None e = e
released_holder_by s (Some h) e = holder_if (is_some s.serving) _ _ None refl refl

pub released_holder : (s : State) → (released s).holder ≡ None
released_holder s = released_holder_by s s.holder refl

served_released_by : (s : State) (act : Act) (log : List Act) (o : Option ℕ) → s.holder ≡ o → ServedIn s log →
    serving (act ∷ log) ≡ serving log →
    notice act log ≡ ended o → LeavesEdits act →
    ServedIn (if is_some o then deactivated (record s { holder = None }) else s) (act ∷ log)
served_released_by s act log None e h l q k = served_notified s act log None h l q k
served_released_by s act log (Some x) e h l q k =
    served_notified (record s { holder = None }) act log (Some Deactivates) h l q k

-- the hold ends, and the same method serves
pub served_released : (s : State) (act : Act) (log : List Act) → ServedIn s log → s.holder ≡ holder log →
    serving (act ∷ log) ≡ serving log →
    notice act log ≡ ended (holder log) → LeavesEdits act → ServedIn (released s) (act ∷ log)
served_released s act log h e l q k = served_released_by s act log s.holder refl h l (q ∙ ap ended (sym e)) k

-- nobody serves
abbrev pub IsUnserved : State → Type 0
IsUnserved s = (s.serving ≡ None) × (s.edits ≡ no_edits) × (s.active ≡ false) × (s.dones ≡ 0) × (s.since ≡ 0)

pub served_unserved : (s : State) (act : Act) (log : List Act) → IsUnserved s → serving (act ∷ log) ≡ None →
    ServedIn s (act ∷ log)
served_unserved s act log u l =
    let a : s.serving ≡ None = u.0 in
    let b : s.edits ≡ no_edits = u.1 in
    let c : s.active ≡ false = u.2 in
    let d : s.dones ≡ 0 = u.3 in
    let e : s.since ≡ 0 = u.4 in
    rw (a, b, c, d, e) (served_none act log l)

released_unserved_by : (s : State) (o : Option ℕ) → s.serving ≡ None → IsUnserved s →
    IsUnserved (if is_some o then deactivated (record s { holder = None }) else s)
released_unserved_by s None e u = u
released_unserved_by s (Some h) e u = rw e (refl, u.1, u.2, u.3, u.4)

pub released_unserved : (s : State) → IsUnserved s → IsUnserved (released s)
released_unserved s u = released_unserved_by s s.holder u.0 u

-- the focused surface went, or the holder

pub parted_acts : (a b : Bool) (s : State) → (parted a b s).acts ≡ s.acts
parted_acts true b s = released_acts s
parted_acts false true s = released_acts s
parted_acts false false s = refl

pub parted_unserved : (a b : Bool) (s : State) (act : Act) (log : List Act) → IsUnserved s →
    serving (act ∷ log) ≡ None → ServedIn (parted a b s) (act ∷ log)
parted_unserved true b s act log u l = served_unserved (released s) act log (released_unserved s u) l
parted_unserved false true s act log u l = served_unserved (released s) act log (released_unserved s u) l
parted_unserved false false s act log u l = served_unserved s act log u l
