-- How many events an act tells at most, and how many bytes their texts have.
use Rattle.std.proofs.Common.{◌≡◌, ℕ, ◌+◌, ◌≤◌, List, [], ◌∷◌, ◌++◌, length, map, Bool, true, false, Option, Some, None, refl, ap, sym, subst, ◌∙◌, arith, length-append}
use Rattle.std.specs.Prelude.{◌&&◌, ◌==◌, if◌then◌else◌, is_some}
use Rattle.std.specs.List.{flat_map}
use Rattle.std.proofs.lemmas.List.{length-map}
use Rattle.popup_place.specs.declared.geometry.Rect.{Rect}
use Rattle.relay_model.specs.declared.act.Act.{Act}
use Rattle.relay_model.specs.declared.act.Act.TheVariants as acts
use Rattle.relay_model.specs.declared.said.Told.{Told}
use Rattle.relay_model.specs.declared.said.Said.{Said}
use Rattle.relay_model.specs.declared.said.Said.TheVariants as said
use Rattle.relay_model.specs.declared.role.Role.{Role}
use Rattle.relay_model.specs.declared.role.Role.TheVariants as role
use Rattle.relay_model.specs.Objects.{is_at}
use Rattle.relay_model.specs.Batch.{Batch, is_no_preedit, deletion_said, string_said, preedit_said}
use Rattle.relay_model.specs.Globals.{globals_told}
use Rattle.relay_model.specs.Told.{to, to_grab, deleted}
use Rattle.field_state.specs.Calls as field
use Rattle.field_state.specs.Stands.{Kept}
use Rattle.field_state.specs.Changes as change
use Rattle.field_state.specs.declared.commit.Taken.{Taken}
use Rattle.field_state.specs.declared.commit.Taken.TheVariants.{Begun, Updated, Ended, Nothing}
use Rattle.kbd_grab.specs.Keyboard.{Keyboard}
use Rattle.kbd_grab.specs.declared.keyboard.Keymap.{Keymap}
use Rattle.kbd_grab.specs.declared.keyboard.Mods.{Mods}
use Rattle.kbd_grab.specs.declared.keyboard.Repeat.{Repeat}
use Rattle.kbd_grab.specs.declared.keyboard.Route.{Route}
use Rattle.kbd_grab.specs.declared.keyboard.Route.TheVariants.{ToGrab, Pass, Nowhere, TooMany}
use Rattle.relay_objects.specs.declared.object.Object.{Object}
use Rattle.relay_objects.specs.declared.object.Kind.{Kind}
use Rattle.relay_objects.specs.declared.object.Kind.TheVariants.{Peer, Surface, Field, Method, Popup, Grab, Thing, Board}
use Rattle.relay_objects.specs.declared.spare.Spare.{Spare}
use Rattle.relay_objects.specs.Objects.{find, is_field_kind, changed, committed, kind_placed, placed_at, field_in, count_in, owner_in}
use Rattle.relay_objects.specs.Listed.{fields_of, popup_of_kind, popup_of, popups_of}
use Rattle.relay_objects.specs.Keyboard.{keymap_told, repeat_told, mods_told, keyboard_told, key_told}
use Rattle.relay_objects.proofs.ToldFields.{told_are, none_told}
use Rattle.relay_core.specs.Machine.{State, counted, is_live_in, said_to, text_around, around_told, state_told, activate_told, update_told, deactivate_told, group_told, leaves_of, release_told, enter_told, method_told, part_told, serving_unless, drop_told, gone_told, commit_told, group_of_holder, batch_of, says, tells, deactivated, held, committing, taken_by, displaced_by, field_committed, made_by, focused_in, owner_at, state_of, holder_state, stands_now, is_fresh}
use Rattle.relay_core.specs.Popups.{shown_told, kind_told, popup_told, popups_beside, popups_told, popups_where_holds, popup_beside, cursor_in}
use Rattle.relay_core.specs.Kept.{HasSpare, text_pending}
use Rattle.relay_core.specs.Bounds.{text_of, text_bytes, fields_count, fields_at, popups_count, most_told}
use Rattle.relay_core.proofs.FoundAfterCommit.{IsHolding, text_committed}

-- at most n events, and at most m bytes of texts
pub record Weighs (ts : List Told) (n m : ℕ) : Type 0 where
  pub events : length ts ≤ n
  pub bytes : text_bytes ts ≤ m

pub text_append : (a b : List Told) → text_bytes (a ++ b) ≡ text_bytes a + text_bytes b
text_append [] b = omega arith
text_append (t ∷ ts) b = omega (arith, text_append ts b)

none : (n m : ℕ) → Weighs [] n m
none n m = record { events = omega arith; bytes = omega arith }

one : (t : Told) (n m : ℕ) → 1 ≤ n → length (text_of t.event) ≤ m → Weighs (t ∷ []) n m
one t n m p q = record { events = omega arith; bytes = omega arith }

both : (a b : List Told) (n m k l : ℕ) → Weighs a n m → Weighs b k l → Weighs (a ++ b) (n + k) (m + l)
both a b n m k l g h = record {
  events = omega (arith, length-append a b, g.events, h.events);
  bytes = omega (arith, text_append a b, g.bytes, h.bytes);
}

more : (ts : List Told) (n m k l : ℕ) → Weighs ts n m → n ≤ k → m ≤ l → Weighs ts k l
more ts n m k l h p q = record { events = omega (arith, h.events); bytes = omega (arith, h.bytes) }

either : (b : Bool) (ts us : List Told) (n m : ℕ) → Weighs ts n m → Weighs us n m → Weighs (if b then ts else us) n m
either true ts us n m g h = g
either false ts us n m g h = h

-- fields

silent_if : (b : Bool) (t : Told) (ts : List Told) → length (text_of t.event) ≡ 0 → text_bytes ts ≡ 0 →
    text_bytes (if b then t ∷ ts else ts) ≡ 0
silent_if true t ts p q = omega (arith, p, q)
silent_if false t ts p q = q

silent : (say : Said) (peer : Option ℕ) (os : List Object) → length (text_of say) ≡ 0 →
    text_bytes (said_to say peer os) ≡ 0
silent say peer [] p = refl
silent say peer (o ∷ os) p =
    silent_if (is_field_kind o.kind && is_at peer o.peer) (to o.label say) (said_to say peer os) p
    (silent say peer os p)

told_count : (say : Said) (peer : Option ℕ) (os : List Object) → length (said_to say peer os) ≡ fields_count peer os
told_count say None os = sym (ap length (none_told say os))
told_count say (Some p) os = sym (ap length (told_are say p os)) ∙ length-map (fields_of p os) (λ w. to w.label say)

said_weighs : (say : Said) (peer : Option ℕ) (os : List Object) → length (text_of say) ≡ 0 →
    Weighs (said_to say peer os) (fields_count peer os) 0
said_weighs say peer os p =
    record { events = omega (arith, told_count say peer os); bytes = omega (arith, silent say peer os p) }

leaves_by : (s : State) (surface : Option ℕ) → Weighs (leaves_of s surface) (fields_count (focused_in s) s.objects) 0
leaves_by s None = none _ _
leaves_by s (Some t) = said_weighs (said.Leave t) (focused_in s) s.objects refl

deactivate_weighs : (o : Option ℕ) → Weighs (deactivate_told o) 2 0
deactivate_weighs None = none _ _
deactivate_weighs (Some m) = record { events = omega arith; bytes = omega arith }

release_weighs : (h o : Option ℕ) → Weighs (release_told h o) 2 0
release_weighs None o = none _ _
release_weighs (Some h) o = deactivate_weighs o

-- the state of a field

around_weighs : (m : ℕ) (o : Option field.Surrounding) (cause : ℕ) →
    Weighs (around_told m o cause) 2 (length (text_around o))
around_weighs m None cause = none _ _
around_weighs m (Some around) cause = record { events = omega arith; bytes = omega arith }

state_weighs : (m : ℕ) (c : field.State) → Weighs (state_told m c) 4 (length (text_around c.surrounding))
state_weighs m c =
    more (state_told m c) _ _ _ _
    (both (around_told m c.surrounding c.cause) _ 2 (length (text_around c.surrounding)) 2 0
    (around_weighs m c.surrounding c.cause) (record { events = omega arith; bytes = omega arith }))
    (omega arith) (omega arith)

activate_weighs : (c : field.State) (o : Option ℕ) → Weighs (activate_told c o) 5 (length (text_around c.surrounding))
activate_weighs c None = none _ _
activate_weighs c (Some m) =
    let h = state_weighs m c in
    record { events = omega (arith, h.events); bytes = omega (arith, h.bytes) }

update_weighs : (c : field.State) (o : Option ℕ) → Weighs (update_told c o) 5 (length (text_around c.surrounding))
update_weighs c None = none _ _
update_weighs c (Some m) = more (state_told m c) _ _ _ _ (state_weighs m c) (omega arith) (omega arith)

-- popups

shown_weighs : (s : State) (rect : Rect) (x m t : ℕ) → Weighs (shown_told s rect x m t) 2 0
shown_weighs s rect x m t =
    either (is_at s.serving m && is_some (find s.objects t)) _ [] 2 0
    (record { events = omega arith; bytes = omega arith }) (none _ _)

kind_weighs : (s : State) (rect : Rect) (p x : ℕ) (k : Kind) →
    Weighs (kind_told s rect x k) (length (popup_of_kind p x k) + length (popup_of_kind p x k)) 0
kind_weighs s rect p x (Popup m t) =
    more (shown_told s rect x m t) _ _ _ _ (shown_weighs s rect x m t) (omega arith) (omega arith)
kind_weighs s rect p x Peer = none _ _
kind_weighs s rect p x (Surface area) = none _ _
kind_weighs s rect p x (Field kept) = none _ _
kind_weighs s rect p x Method = none _ _
kind_weighs s rect p x (Grab m) = none _ _
kind_weighs s rect p x Thing = none _ _
kind_weighs s rect p x Board = none _ _

popups_weigh : (s : State) (rect : Rect) (os : List Object) →
    Weighs (flat_map (popup_told s rect) os) (length (popups_of os) + length (popups_of os)) 0
popups_weigh s rect [] = none _ _
popups_weigh s rect (o ∷ os) =
    more (popup_told s rect o ++ flat_map (popup_told s rect) os) _ _ _ _
    (both (popup_told s rect o) (flat_map (popup_told s rect) os) _ _ _ _ (kind_weighs s rect o.peer o.label o.kind)
    (popups_weigh s rect os))
    (omega (arith, length-append (popup_of o) (popups_of os))) (omega arith)

beside_weighs : (s : State) (rect : Option Rect) → Weighs (popups_beside s rect) (popups_count s + popups_count s) 0
beside_weighs s None = none _ _
beside_weighs s (Some rect) = popups_weigh s rect s.objects

new_weighs : (s : State) (rect : Option Rect) (o : Option Object) → Weighs (popup_beside s rect o) 2 0
new_weighs s None o = none _ _
new_weighs s (Some rect) None = none _ _
new_weighs s (Some rect) (Some o) = of_kind o.kind
  where
    of_kind : (k : Kind) → Weighs (kind_told s rect o.label k) 2 0
    of_kind (Popup m t) = shown_weighs s rect o.label m t
    of_kind Peer = none _ _
    of_kind (Surface area) = none _ _
    of_kind (Field kept) = none _ _
    of_kind Method = none _ _
    of_kind (Grab m) = none _ _
    of_kind Thing = none _ _
    of_kind Board = none _ _

-- the popups that live stay, whatever fields and surfaces do

popups_kept : (g : Object → Object) → ((o : Object) → popup_of (g o) ≡ popup_of o) → (os : List Object) →
    popups_of (map g os) ≡ popups_of os
popups_kept g same [] = refl
popups_kept g same (o ∷ os) =
    ap (λ ws. ws ++ popups_of (map g os)) (same o) ∙ ap (λ ws. popup_of o ++ ws) (popups_kept g same os)

kind_changed : (f : Kept → Kept) (p x : ℕ) (k : Kind) → popup_of_kind p x (changed f k) ≡ popup_of_kind p x k
kind_changed f p x Peer = refl
kind_changed f p x (Surface area) = refl
kind_changed f p x (Field kept) = refl
kind_changed f p x Method = refl
kind_changed f p x (Popup m t) = refl
kind_changed f p x (Grab m) = refl
kind_changed f p x Thing = refl
kind_changed f p x Board = refl

kind_kept : (rect : Rect) (p x : ℕ) (k : Kind) → popup_of_kind p x (kind_placed rect k) ≡ popup_of_kind p x k
kind_kept rect p x Peer = refl
kind_kept rect p x (Surface area) = refl
kind_kept rect p x (Field kept) = refl
kind_kept rect p x Method = refl
kind_kept rect p x (Popup m t) = refl
kind_kept rect p x (Grab m) = refl
kind_kept rect p x Thing = refl
kind_kept rect p x Board = refl

popup_if : (b : Bool) (a c o : Object) → popup_of a ≡ popup_of o → popup_of c ≡ popup_of o →
    popup_of (if b then a else c) ≡ popup_of o
popup_if true a c o p q = p
popup_if false a c o p q = q

committed_kept : (f : ℕ) (d : Option ℕ) (o : Object) → popup_of (committed f d o) ≡ popup_of o
committed_kept f d o =
    popup_if (o.label == f) _ _ o (kind_changed change.committed o.peer o.label o.kind)
    (popup_if (is_at d o.label) _ o o (kind_changed change.displaced o.peer o.label o.kind) refl)

placed_kept : (t : ℕ) (rect : Rect) (o : Object) → popup_of (placed_at t rect o) ≡ popup_of o
placed_kept t rect o = popup_if (o.label == t) _ o o (kind_kept rect o.peer o.label o.kind) refl

objects_if : (b : Bool) (s t : State) → s.objects ≡ t.objects → (if b then s else t).objects ≡ t.objects
objects_if true s t p = p
objects_if false s t p = refl

held_objects : (f : ℕ) (t : Taken) (s : State) → (held f t s).objects ≡ s.objects
held_objects f Begun s = objects_if (is_some s.serving) _ (record s { holder = Some f }) refl
held_objects f Updated s = objects_if (is_some s.serving) _ s refl
held_objects f Ended s =
    objects_if (is_some s.holder) (deactivated (record s { holder = None })) s
    (objects_if (is_some s.serving) _ (record s { holder = None }) refl)
held_objects f Nothing s = refl

commit_count : (f : ℕ) (s : State) → popups_count (field_committed f s) ≡ popups_count s
commit_count f s =
    ap (λ os. length (popups_of os)) (held_objects f (taken_by f s) (committing f (taken_by f s) s)) ∙
    ap length (popups_kept (committed f (displaced_by (taken_by f s) s.holder))
    (committed_kept f (displaced_by (taken_by f s) s.holder)) s.objects)

where_weighs : (f : ℕ) (s : State) → Weighs (popups_where_holds f s) (popups_count s + popups_count s) 0
where_weighs f s = either (is_at s.holder f) (popups_told s) [] _ _ (beside_weighs s (cursor_in s)) (none _ _)

-- commits

taken_weighs : (f : ℕ) (t : Taken) (s : State) (m : ℕ) →
    (IsHolding t → length (text_around (state_of s f).surrounding) ≤ m) → Weighs (commit_told f t s) 5 m
taken_weighs f Begun s m h =
    more (activate_told (state_of s f) s.serving) _ _ _ _ (activate_weighs (state_of s f) s.serving) (omega arith)
    (h refl)
taken_weighs f Updated s m h =
    more (update_told (state_of s f) s.serving) _ _ _ _ (update_weighs (state_of s f) s.serving) (omega arith) (h refl)
taken_weighs f Ended s m h =
    more (release_told s.holder s.serving) _ _ _ _ (release_weighs s.holder s.serving) (omega arith) (omega arith)
taken_weighs f Nothing s m h = none _ _

commit_weighs : (f : ℕ) (s : State) (m : ℕ) → length (text_pending (field_in (find s.objects f))) ≤ m →
    Weighs (says (acts.Commit f) s) (popups_count s + popups_count s + 5) m
commit_weighs f s m p =
    let t : Taken = taken_by f s in
    let s' : State = committing f t s in
    more (says (acts.Commit f) s) _ _ _ _
    (both (commit_told f t s') (popups_where_holds f (field_committed f s)) 5 m _ 0
    (taken_weighs f t s' m
    (λ h. subst (λ (text : List ℕ). length text ≤ m) (text_committed f (displaced_by t s.holder) s.objects h) p))
    (where_weighs f (field_committed f s)))
    (omega (arith, commit_count f s)) (omega arith)

-- batches

map_if : (b : Bool) (h : ℕ) (say : Said) → Weighs (map (to h) (if b then [] else say ∷ [])) 1 (length (text_of say))
map_if true h say = none _ _
map_if false h say = record { events = omega arith; bytes = omega arith }

group_weighs : (b : Batch) (count h : ℕ) → Weighs (group_told b count h) 5 (length b.string + length b.preedit.text)
group_weighs b count h =
    let done : Told = to h (said.FieldDone count) in
    more (group_told b count h) _ _ _ _
    (both (map (to h) (deletion_said b.deletion)) _ 1 0 _ _
    (map_if (b.deletion.before == 0 && b.deletion.after == 0) h (said.Delete b.deletion.before b.deletion.after))
    (both (map (to h) (string_said b.string)) _ 1 (length b.string) _ _
    (map_if (length b.string == 0) h (said.CommitString b.string))
    (both (map (to h) (preedit_said b.preedit)) (done ∷ []) 1 (length b.preedit.text) 1 0
    (map_if (is_no_preedit b.preedit) h (said.Preedit b.preedit.text b.preedit.begin b.preedit.end))
    (one done 1 0 (omega arith) (omega arith)))))
    (omega arith) (omega arith)

holder_weighs : (s : State) (o : Option ℕ) →
    Weighs (group_of_holder s o) 5 (length s.edits.string + length s.edits.preedit.text)
holder_weighs s None = none _ _
holder_weighs s (Some h) = group_weighs (batch_of s.edits) (count_in (find s.objects h)) h

-- keys

keymap_weighs : (g : ℕ) (o : Option Keymap) → Weighs (keymap_told g o) 1 0
keymap_weighs g None = none _ _
keymap_weighs g (Some k) = one _ _ _ (omega arith) (omega arith)

repeat_weighs : (g : ℕ) (o : Option Repeat) → Weighs (repeat_told g o) 1 0
repeat_weighs g None = none _ _
repeat_weighs g (Some k) = one _ _ _ (omega arith) (omega arith)

mods_weighs : (g : ℕ) (o : Option Mods) → Weighs (mods_told g o) 1 0
mods_weighs g None = none _ _
mods_weighs g (Some k) = one _ _ _ (omega arith) (omega arith)

keyboard_weighs : (g : ℕ) (keys : Keyboard) → Weighs (keyboard_told g keys) 5 0
keyboard_weighs g keys =
    more (keyboard_told g keys) _ _ _ _
    (both (keymap_told g keys.keymap) _ 1 0 _ 0 (keymap_weighs g keys.keymap)
    (both (repeat_told g keys.repeat) (mods_told g keys.mods) 1 0 1 0 (repeat_weighs g keys.repeat)
    (mods_weighs g keys.mods)))
    (omega arith) (omega arith)

key_weighs : (n time key state : ℕ) (route : Route) (m : ℕ) → Weighs (key_told n time key state route) 5 m
key_weighs n time key state (ToGrab g) m = one _ _ _ (omega arith) (omega arith)
key_weighs n time key state Pass m = one _ _ _ (omega arith) (omega arith)
key_weighs n time key state Nowhere m = none _ _
key_weighs n time key state TooMany m = none _ _

grab_weighs : (o : Option ℕ) (say : Said) (m : ℕ) → length (text_of say) ≡ 0 → Weighs (to_grab o say) 5 m
grab_weighs None say m p = none _ _
grab_weighs (Some g) say m p = one _ _ _ (omega arith) (omega (arith, p))

-- ends

deleted_weighs : (x : ℕ) (o : Option ℕ) → Weighs (deleted x o) 1 0
deleted_weighs x None = none _ _
deleted_weighs x (Some p) = one _ _ _ (omega arith) (omega arith)

part_weighs : (a b : Bool) (h o : Option ℕ) → Weighs (part_told a b h o) 2 0
part_weighs true b h o = release_weighs h o
part_weighs false true h o = release_weighs h o
part_weighs false false h o = none _ _

drop_weighs : (x : ℕ) (s : State) (m : ℕ) → Weighs (drop_told x s) 5 m
drop_weighs x s m =
    more (drop_told x s) _ _ _ _
    (both (part_told (is_at s.focus x) (is_at s.holder x) s.holder (serving_unless (is_at s.serving x) s.serving))
    (deleted x (owner_in (find s.objects x))) 2 0 1 0
    (part_weighs (is_at s.focus x) (is_at s.holder x) s.holder (serving_unless (is_at s.serving x) s.serving))
    (deleted_weighs x (owner_in (find s.objects x))))
    (omega arith) (omega arith)

gone_weighs : (p : ℕ) (s : State) (m : ℕ) → Weighs (gone_told p s) 5 m
gone_weighs p s m =
    more (gone_told p s) _ _ _ _
    (part_weighs (is_at (focused_in s) p) false s.holder
    (serving_unless (is_at (owner_at s.objects s.serving) p) s.serving)) (omega arith) (omega arith)

enter_weighs : (s : State) (p f : ℕ) (o : Option ℕ) (m : ℕ) → Weighs (enter_told s p f o) 5 m
enter_weighs s p f None m = none _ _
enter_weighs s p f (Some t) m =
    either (is_at (focused_in s) p) (to f (said.Enter t) ∷ []) [] _ _ (one _ _ _ (omega arith) (omega arith)) (none _ _)

globals_weigh : (n : ℕ) (r : Role) (m : ℕ) → Weighs (globals_told n r) 5 m
globals_weigh n role.App m = record { events = omega arith; bytes = omega arith }
globals_weigh n role.Method m = record { events = omega arith; bytes = omega arith }
globals_weigh n role.Keyed m = record { events = omega arith; bytes = omega arith }

method_weighs : (s : State) (m : ℕ) → length (text_around (holder_state s).surrounding) ≤ m → Weighs (method_told s) 5 m
method_weighs s m p =
    either (is_some s.serving) _ _ _ _ (one _ _ _ (omega arith) (omega arith))
    (either (is_some s.holder) _ [] _ _
    (more (activate_told (holder_state s) (Some s.acts)) _ _ _ _ (activate_weighs (holder_state s) (Some s.acts))
    (omega arith) p) (none _ _))

focus_weighs : (t : ℕ) (s : State) (m : ℕ) →
    Weighs (says (acts.Focus t) s) (fields_at s s.focus + fields_at s (Some t) + 5) m
focus_weighs t s m =
    more (says (acts.Focus t) s) _ _ _ _
    (both (leaves_of s s.focus) _ _ 0 _ 0 (leaves_by s s.focus)
    (both (release_told s.holder s.serving) (said_to (said.Enter t) (owner_in (find s.objects t)) s.objects) 2 0 _ 0
    (release_weighs s.holder s.serving)
    (said_weighs (said.Enter t) (owner_in (find s.objects t)) s.objects refl)))
    (omega arith) (omega arith)

unfocus_weighs : (s : State) (m : ℕ) → Weighs (says acts.Unfocus s) (fields_at s s.focus + 0 + 5) m
unfocus_weighs s m =
    more (says acts.Unfocus s) _ _ _ _
    (both (leaves_of s s.focus) (release_told s.holder s.serving) _ 0 2 0 (leaves_by s s.focus)
    (release_weighs s.holder s.serving))
    (omega arith) (omega arith)

area_weighs : (t : ℕ) (rect : Rect) (s : State) (m : ℕ) →
    Weighs (says (acts.Area t rect) s) (popups_count s + popups_count s + 5) m
area_weighs t rect s m =
    let s' : State = record s { objects = map (placed_at t rect) s.objects } in
    more (popups_told s') _ _ _ _ (beside_weighs s' (cursor_in s'))
    (omega (arith, ap length (popups_kept (placed_at t rect) (placed_kept t rect) s.objects))) (omega arith)

-- what is reserved for an act bounds the texts that it tells
abbrev pub Bound : Spare → ℕ
Bound spare = length spare.text + length spare.preedit

says_weigh : (act : Act) (s : State) (spare : Spare) → HasSpare s spare act →
    Weighs (says act s) (most_told act s) (Bound spare)
says_weigh acts.Peer s spare h = none _ _
says_weigh (acts.Gone p cause) s spare h = gone_weighs p s _
says_weigh (acts.Surface p) s spare h = none _ _
says_weigh (acts.Field p) s spare h = enter_weighs s p s.acts s.focus _
says_weigh (acts.Method p) s spare h = method_weighs s _ (omega (arith, ap length h))
says_weigh (acts.Popup m t) s spare h =
    more (says (acts.Popup m t) s) _ _ _ _
    (new_weighs (made_by m (Popup m t) s) (cursor_in (made_by m (Popup m t) s)) _) (omega arith) (omega arith)
says_weigh (acts.Grab m) s spare h =
    either (stands_now m s) (keyboard_told s.acts s.keys) [] _ _
    (more (keyboard_told s.acts s.keys) _ _ _ _ (keyboard_weighs s.acts s.keys) (omega arith) (omega arith)) (none _ _)
says_weigh (acts.Drop x) s spare h = drop_weighs x s _
says_weigh (acts.Focus t) s spare h = focus_weighs t s _
says_weigh acts.Unfocus s spare h = unfocus_weighs s _
says_weigh (acts.Area t rect) s spare h = area_weighs t rect s _
says_weigh (acts.Screen size) s spare h =
    let s' : State = record s { screen = size } in
    more (popups_told s') _ _ _ _ (beside_weighs s' (cursor_in s')) (omega arith) (omega arith)
says_weigh (acts.Enable f) s spare h = none _ _
says_weigh (acts.Disable f) s spare h = none _ _
says_weigh (acts.Surround f text cursor anchor) s spare h = none _ _
says_weigh (acts.Cause f cause) s spare h = none _ _
says_weigh (acts.Content f hint purpose) s spare h = none _ _
says_weigh (acts.Cursor f rect) s spare h = none _ _
says_weigh (acts.Commit f) s spare h = commit_weighs f s _ (omega (arith, ap length h))
says_weigh (acts.MString m text) s spare h = none _ _
says_weigh (acts.MPreedit m text begin end) s spare h = none _ _
says_weigh (acts.MDelete m before after) s spare h = none _ _
says_weigh (acts.MCommit m serial) s spare h =
    either (is_at s.serving m && is_fresh s.dones s.since serial) (group_of_holder s s.holder) [] _ _
    (more (group_of_holder s s.holder) _ _ _ _ (holder_weighs s s.holder) (omega arith)
    (omega (arith, ap length h.0, ap length h.1))) (none _ _)
says_weigh (acts.Key time key state) s spare h = key_weighs s.acts time key state _ _
says_weigh (acts.Mods mods) s spare h = grab_weighs s.keys.standing (said.Mods s.acts mods) _ refl
says_weigh (acts.Keymap keymap) s spare h = grab_weighs s.keys.standing (said.Keymap keymap) _ refl
says_weigh (acts.Repeat repeat) s spare h = grab_weighs s.keys.standing (said.Repeat repeat) _ refl
says_weigh (acts.Registry p r) s spare h = globals_weigh s.acts r _
says_weigh (acts.Sync p) s spare h = record { events = omega arith; bytes = omega arith }
says_weigh (acts.Seat p) s spare h = one _ _ _ (omega arith) (omega arith)
says_weigh (acts.Thing p) s spare h = none _ _
says_weigh (acts.Bad p fault x) s spare h = one _ _ _ (omega arith) (omega arith)
says_weigh (acts.VBoard p) s spare h = none _ _
says_weigh (acts.VKeymap v keymap) s spare h = none _ _
says_weigh (acts.VKey v time key state) s spare h = none _ _
says_weigh (acts.VMods v mods) s spare h = none _ _
says_weigh (acts.Took p bytes) s spare h = none _ _
says_weigh acts.Idle s spare h = none _ _

-- the same of the act as it is counted
counted_weighs : (act : Act) (s : State) (spare : Spare) → HasSpare s spare act →
    Weighs (says act (counted s)) (most_told act s) (Bound spare)
counted_weighs acts.Peer s spare h = says_weigh acts.Peer (counted s) spare h
counted_weighs (acts.Gone p cause) s spare h = says_weigh (acts.Gone p cause) (counted s) spare h
counted_weighs (acts.Surface p) s spare h = says_weigh (acts.Surface p) (counted s) spare h
counted_weighs (acts.Field p) s spare h = says_weigh (acts.Field p) (counted s) spare h
counted_weighs (acts.Method p) s spare h = says_weigh (acts.Method p) (counted s) spare h
counted_weighs (acts.Popup m t) s spare h = says_weigh (acts.Popup m t) (counted s) spare h
counted_weighs (acts.Grab m) s spare h = says_weigh (acts.Grab m) (counted s) spare h
counted_weighs (acts.Drop x) s spare h = says_weigh (acts.Drop x) (counted s) spare h
counted_weighs (acts.Focus t) s spare h = says_weigh (acts.Focus t) (counted s) spare h
counted_weighs acts.Unfocus s spare h = says_weigh acts.Unfocus (counted s) spare h
counted_weighs (acts.Area t rect) s spare h = says_weigh (acts.Area t rect) (counted s) spare h
counted_weighs (acts.Screen size) s spare h = says_weigh (acts.Screen size) (counted s) spare h
counted_weighs (acts.Enable f) s spare h = says_weigh (acts.Enable f) (counted s) spare h
counted_weighs (acts.Disable f) s spare h = says_weigh (acts.Disable f) (counted s) spare h
counted_weighs (acts.Surround f text cursor anchor) s spare h =
    says_weigh (acts.Surround f text cursor anchor) (counted s) spare h
counted_weighs (acts.Cause f cause) s spare h = says_weigh (acts.Cause f cause) (counted s) spare h
counted_weighs (acts.Content f hint purpose) s spare h = says_weigh (acts.Content f hint purpose) (counted s) spare h
counted_weighs (acts.Cursor f rect) s spare h = says_weigh (acts.Cursor f rect) (counted s) spare h
counted_weighs (acts.Commit f) s spare h = says_weigh (acts.Commit f) (counted s) spare h
counted_weighs (acts.MString m text) s spare h = says_weigh (acts.MString m text) (counted s) spare h
counted_weighs (acts.MPreedit m text begin end) s spare h =
    says_weigh (acts.MPreedit m text begin end) (counted s) spare h
counted_weighs (acts.MDelete m before after) s spare h = says_weigh (acts.MDelete m before after) (counted s) spare h
counted_weighs (acts.MCommit m serial) s spare h = says_weigh (acts.MCommit m serial) (counted s) spare h
counted_weighs (acts.Key time key state) s spare h = says_weigh (acts.Key time key state) (counted s) spare h
counted_weighs (acts.Mods mods) s spare h = says_weigh (acts.Mods mods) (counted s) spare h
counted_weighs (acts.Keymap keymap) s spare h = says_weigh (acts.Keymap keymap) (counted s) spare h
counted_weighs (acts.Repeat repeat) s spare h = says_weigh (acts.Repeat repeat) (counted s) spare h
counted_weighs (acts.Registry p r) s spare h = says_weigh (acts.Registry p r) (counted s) spare h
counted_weighs (acts.Sync p) s spare h = says_weigh (acts.Sync p) (counted s) spare h
counted_weighs (acts.Seat p) s spare h = says_weigh (acts.Seat p) (counted s) spare h
counted_weighs (acts.Thing p) s spare h = says_weigh (acts.Thing p) (counted s) spare h
counted_weighs (acts.Bad p fault x) s spare h = says_weigh (acts.Bad p fault x) (counted s) spare h
counted_weighs (acts.VBoard p) s spare h = says_weigh (acts.VBoard p) (counted s) spare h
counted_weighs (acts.VKeymap v keymap) s spare h = says_weigh (acts.VKeymap v keymap) (counted s) spare h
counted_weighs (acts.VKey v time key state) s spare h = says_weigh (acts.VKey v time key state) (counted s) spare h
counted_weighs (acts.VMods v mods) s spare h = says_weigh (acts.VMods v mods) (counted s) spare h
counted_weighs (acts.Took p bytes) s spare h = says_weigh (acts.Took p bytes) (counted s) spare h
counted_weighs acts.Idle s spare h = says_weigh acts.Idle (counted s) spare h

-- what the act tells, where room was made for it
pub tells_weigh : (act : Act) (s : State) (spare : Spare) → HasSpare s spare act →
    Weighs (tells act s) (most_told act s) (Bound spare)
tells_weigh act s spare h =
    either (is_live_in act s) (says act (counted s)) [] _ _ (counted_weighs act s spare h) (none _ _)

-- some copies that would do
with_texts : List ℕ → List ℕ → Spare
with_texts text preedit = record { text = text; preedit = preedit; room = Some tt }

pub some_spare : (act : Act) (s : State) → (spare : Spare) × HasSpare s spare act
unfolding with_texts
some_spare acts.Peer s = (with_texts [] [], tt)
some_spare (acts.Gone p cause) s = (with_texts [] [], tt)
some_spare (acts.Surface p) s = (with_texts [] [], tt)
some_spare (acts.Field p) s = (with_texts [] [], tt)
some_spare (acts.Method p) s = (with_texts (text_around (holder_state s).surrounding) [], refl)
some_spare (acts.Popup m t) s = (with_texts [] [], tt)
some_spare (acts.Grab m) s = (with_texts [] [], tt)
some_spare (acts.Drop x) s = (with_texts [] [], tt)
some_spare (acts.Focus t) s = (with_texts [] [], tt)
some_spare acts.Unfocus s = (with_texts [] [], tt)
some_spare (acts.Area t rect) s = (with_texts [] [], tt)
some_spare (acts.Screen size) s = (with_texts [] [], tt)
some_spare (acts.Enable f) s = (with_texts [] [], tt)
some_spare (acts.Disable f) s = (with_texts [] [], tt)
some_spare (acts.Surround f text cursor anchor) s = (with_texts [] [], refl)
some_spare (acts.Cause f cause) s = (with_texts [] [], tt)
some_spare (acts.Content f hint purpose) s = (with_texts [] [], tt)
some_spare (acts.Cursor f rect) s = (with_texts [] [], tt)
some_spare (acts.Commit f) s = (with_texts (text_pending (field_in (find s.objects f))) [], refl)
some_spare (acts.MString m text) s = (with_texts [] [], tt)
some_spare (acts.MPreedit m text begin end) s = (with_texts [] [], tt)
some_spare (acts.MDelete m before after) s = (with_texts [] [], tt)
some_spare (acts.MCommit m serial) s = (with_texts s.edits.string s.edits.preedit.text, (refl, refl))
some_spare (acts.Key time key state) s = (with_texts [] [], tt)
some_spare (acts.Mods mods) s = (with_texts [] [], tt)
some_spare (acts.Keymap keymap) s = (with_texts [] [], tt)
some_spare (acts.Repeat repeat) s = (with_texts [] [], tt)
some_spare (acts.Registry p r) s = (with_texts [] [], tt)
some_spare (acts.Sync p) s = (with_texts [] [], tt)
some_spare (acts.Seat p) s = (with_texts [] [], tt)
some_spare (acts.Thing p) s = (with_texts [] [], tt)
some_spare (acts.Bad p fault x) s = (with_texts [] [], tt)
some_spare (acts.VBoard p) s = (with_texts [] [], tt)
some_spare (acts.VKeymap v keymap) s = (with_texts [] [], tt)
some_spare (acts.VKey v time key state) s = (with_texts [] [], tt)
some_spare (acts.VMods v mods) s = (with_texts [] [], tt)
some_spare (acts.Took p bytes) s = (with_texts [] [], tt)
some_spare acts.Idle s = (with_texts [] [], tt)

-- how many events, whatever room there is
pub tells_few : (act : Act) (s : State) → length (tells act s) ≤ most_told act s
tells_few act s = let h = some_spare act s in (tells_weigh act s h.0 h.1).events
