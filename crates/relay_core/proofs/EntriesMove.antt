-- How the entries move: what each kind of change does to one entry.
use Rattle.std.proofs.Common.{◌≡◌, ℕ, ◌+◌, ◌≤◌, List, [], ◌∷◌, ◌++◌, length, map, Bool, true, false, Option, Some, None, ap, refl, sym, ◌∙◌, subst}
use Rattle.std.specs.Prelude.{◌==◌, not, if◌then◌else◌, filter, is_some}
use Rattle.std.proofs.lemmas.List.{append-nil}
use Rattle.popup_place.specs.declared.geometry.Rect.{Rect}
use Rattle.relay_model.specs.declared.act.Act.{Act}
use Rattle.relay_model.specs.declared.act.Act.TheVariants as acts
use Rattle.relay_model.specs.Objects.{Object, Kind, PeerKind, SurfaceKind, FieldKind, MethodKind, ThingKind, BoardKind, PopupKind, GrabKind, is_at, owner, object, alive, made, maker}
use Rattle.relay_model.specs.Popups.{area}
use Rattle.relay_model.proofs.ObjectLaws.{object_step, object_new}
use Rattle.field_state.specs.Stands.{Kept as KeptField}
use Rattle.field_state.specs.Changes as change
use Rattle.relay_objects.specs.declared.object.Object.{Object as Kept}
use Rattle.relay_objects.specs.declared.object.Kind.TheVariants.{Surface, Field}
use Rattle.relay_objects.specs.Objects.{not_label, not_peer, changed, refocused, kind_placed, placed_at}
use Rattle.relay_core.specs.Stands.{field_kept, kind_of, entry_of, entry, entries}
use Rattle.relay_core.proofs.HistoryEntries.{Moves, AllMove, entry_new, entries_step, eqb_sym, filter_all, map_id}

-- the change does to an entry what the act does
abbrev pub Touches : (touch : Kept → Kept) (act : Act) (log : List Act) (x : ℕ) → Type 0
Touches touch act log x =
    (p : ℕ) (k : Kind) → object log x ≡ Some (record { kind = k; peer = p }) →
    touch (record { label = x; peer = p; kind = kind_of log x k })
    ≡ record { label = x; peer = p; kind = kind_of (act ∷ log) x k }

entry_touched : (touch : Kept → Kept) (act : Act) (log : List Act) (x : ℕ) (o : Option Object) → object log x ≡ o →
    Touches touch act log x → is_some o ≡ true →
    touch (entry_of log x o) ≡ entry_of (act ∷ log) x o
entry_touched touch act log x None d h e = cc
entry_touched touch act log x (Some thing) d h e = h thing.peer thing.kind d

stay_of : (touch : Kept → Kept) (act : Act) (log : List Act) (x : ℕ) (o : Option Object) → object log x ≡ o →
    Touches touch act log x →
    Moves (is_some o) (is_some o) (entry_of log x o) (entry_of (act ∷ log) x o) touch (λ _. true)
stay_of touch act log x o d h = record {
  dead = λ e. e;
  lives = λ e. e;
  touched = λ e k. entry_touched touch act log x o d h e;
}

-- an object that the act leaves
pub stays : (touch : Kept → Kept) (act : Act) (log : List Act) (x : ℕ) → object (act ∷ log) x ≡ object log x →
    Touches touch act log x →
    Moves (alive log x) (alive (act ∷ log) x) (entry log x) (entry (act ∷ log) x) touch (λ _. true)
stays touch act log x e h =
    let P : Option Object → Type 0 =
    λ o. Moves (alive log x) (is_some o) (entry log x) (entry_of (act ∷ log) x o) touch (λ _. true) in
    subst P (sym e) (stay_of touch act log x (object log x) refl h)

drop_of : (touch : Kept → Kept) (act : Act) (log : List Act) (x y : ℕ) (b : Bool) (o : Option Object) →
    object log x ≡ o → (y == x) ≡ b →
    (b ≡ false → Touches touch act log x) →
    Moves (is_some o) (is_some (if b then None else o)) (entry_of log x o)
    (entry_of (act ∷ log) x (if b then None else o)) touch (not_label y)
drop_of touch act log x y true None d e h = record { dead = λ k. refl; lives = λ k. cc; touched = λ k l. cc }
drop_of touch act log x y false None d e h = record { dead = λ k. refl; lives = λ k. cc; touched = λ k l. cc }
drop_of touch act log x y true (Some thing) d e h = record {
  dead = λ k. cc;
  lives = λ k. ap not (sym (eqb_sym x y ∙ e));
  touched = λ k l. cc;
}
drop_of touch act log x y false (Some thing) d e h = record {
  dead = λ k. cc;
  lives = λ k. ap not (sym (eqb_sym x y ∙ e));
  touched = λ k l. h refl thing.peer thing.kind d;
}

-- an object where the act drops y
pub drops : (touch : Kept → Kept) (log : List Act) (x y : ℕ) → x ≤ length log →
    ((y == x) ≡ false → Touches touch (acts.Drop y) log x) →
    Moves (alive log x) (alive (acts.Drop y ∷ log) x) (entry log x) (entry (acts.Drop y ∷ log) x) touch (not_label y)
drops touch log x y w h =
    let P : Option Object → Type 0 =
    λ o. Moves (alive log x) (is_some o) (entry log x) (entry_of (acts.Drop y ∷ log) x o) touch (not_label y) in
    subst P (sym (object_step (acts.Drop y) log x w))
    (drop_of touch (acts.Drop y) log x y (y == x) (object log x) refl refl h)

gone_of : (touch : Kept → Kept) (act : Act) (log : List Act) (x p : ℕ) (b : Bool) (o : Option Object) →
    object log x ≡ o → is_at (owner o) p ≡ b →
    (b ≡ false → Touches touch act log x) →
    Moves (is_some o) (is_some (if b then None else o)) (entry_of log x o)
    (entry_of (act ∷ log) x (if b then None else o)) touch (not_peer p)
gone_of touch act log x p true None d e h = record { dead = λ k. refl; lives = λ k. cc; touched = λ k l. cc }
gone_of touch act log x p false None d e h = record { dead = λ k. refl; lives = λ k. cc; touched = λ k l. cc }
gone_of touch act log x p true (Some thing) d e h = record {
  dead = λ k. cc;
  lives = λ k. ap not (sym e);
  touched = λ k l. cc;
}
gone_of touch act log x p false (Some thing) d e h = record {
  dead = λ k. cc;
  lives = λ k. ap not (sym e);
  touched = λ k l. h refl thing.peer thing.kind d;
}

-- an object where the act ends the peer p
pub goes : (touch : Kept → Kept) (log : List Act) (x p : ℕ) (cause : _) → x ≤ length log →
    (is_at (owner (object log x)) p ≡ false → Touches touch (acts.Gone p cause) log x) →
    Moves (alive log x) (alive (acts.Gone p cause ∷ log) x) (entry log x) (entry (acts.Gone p cause ∷ log) x) touch
    (not_peer p)
goes touch log x p cause w h =
    let P : Option Object → Type 0 =
    λ o. Moves (alive log x) (is_some o) (entry log x) (entry_of (acts.Gone p cause ∷ log) x o) touch
    (not_peer p) in
    subst P (sym (object_step (acts.Gone p cause) log x w))
    (gone_of touch (acts.Gone p cause) log x p (is_at (owner (object log x)) p) (object log x) refl refl h)

-- what the changes do to an entry, by what they do to a field

kinds_same : (log log' : List Act) (x : ℕ) (k : Kind) → area log' x ≡ area log x →
    field_kept log x ≡ field_kept log' x → kind_of log x k ≡ kind_of log' x k
kinds_same log log' x PeerKind a e = refl
kinds_same log log' x SurfaceKind a e = ap (λ r. Surface r) (sym a)
kinds_same log log' x FieldKind a e = ap (λ f. Field f) e
kinds_same log log' x MethodKind a e = refl
kinds_same log log' x ThingKind a e = refl
kinds_same log log' x BoardKind a e = refl
kinds_same log log' x (PopupKind m t) a e = refl
kinds_same log log' x (GrabKind m) a e = refl

pub touch_none : (act : Act) (log : List Act) (x : ℕ) → area (act ∷ log) x ≡ area log x →
    field_kept log x ≡ field_kept (act ∷ log) x →
    Touches (λ e. e) act log x
touch_none act log x a e =
    λ p k o. ap (λ t. record { label = x; peer = p; kind = t }) (kinds_same log (act ∷ log) x k a e)

kinds_changed : (change : KeptField → KeptField) (log log' : List Act) (x : ℕ) (k : Kind) → area log' x ≡ area log x →
    (k ≡ FieldKind → change (field_kept log x) ≡ field_kept log' x) →
    changed change (kind_of log x k) ≡ kind_of log' x k
kinds_changed change log log' x PeerKind a e = refl
kinds_changed change log log' x SurfaceKind a e = ap (λ r. Surface r) (sym a)
kinds_changed change log log' x FieldKind a e = ap (λ f. Field f) (e refl)
kinds_changed change log log' x MethodKind a e = refl
kinds_changed change log log' x ThingKind a e = refl
kinds_changed change log log' x BoardKind a e = refl
kinds_changed change log log' x (PopupKind m t) a e = refl
kinds_changed change log log' x (GrabKind m) a e = refl

-- the focus moved: a field is entered where the peer is its own
pub touch_refocused : (peer : Option ℕ) (act : Act) (log : List Act) (x : ℕ) → area (act ∷ log) x ≡ area log x →
    ((p : ℕ) → object log x ≡ Some (record { kind = FieldKind; peer = p }) →
    change.focused (is_at peer p) (field_kept log x) ≡ field_kept (act ∷ log) x) →
    Touches (refocused peer) act log x
touch_refocused peer act log x a e =
    λ p k o. ap (λ t. record { label = x; peer = p; kind = t })
    (kinds_changed (change.focused (is_at peer p)) log (act ∷ log) x k a
    (λ d. e p (o ∙ ap (λ t. Some (record { kind = t; peer = p })) d)))

-- a field is changed, and no other
only_by : (f : ℕ) (change : KeptField → KeptField) (act : Act) (log : List Act) (x : ℕ) (b : Bool) → (x == f) ≡ b →
    area (act ∷ log) x ≡ area log x →
    (b ≡ true → change (field_kept log x) ≡ field_kept (act ∷ log) x) →
    (b ≡ false → field_kept log x ≡ field_kept (act ∷ log) x) →
    Touches (λ o. if o.label == f then record o { kind = changed change o.kind } else o) act log x
only_by f change act log x true e a here other =
    λ p k o. rw e
    (ap (λ t. record { label = x; peer = p; kind = t })
    (kinds_changed change log (act ∷ log) x k a (λ d. here refl)))
only_by f change act log x false e a here other =
    λ p k o. rw e (ap (λ t. record { label = x; peer = p; kind = t }) (kinds_same log (act ∷ log) x k a (other refl)))

pub touch_only : (f : ℕ) (change : KeptField → KeptField) (act : Act) (log : List Act) (x : ℕ) →
    area (act ∷ log) x ≡ area log x →
    ((x == f) ≡ true → change (field_kept log x) ≡ field_kept (act ∷ log) x) →
    ((x == f) ≡ false → field_kept log x ≡ field_kept (act ∷ log) x) →
    Touches (λ o. if o.label == f then record o { kind = changed change o.kind } else o) act log x
touch_only f change act log x a here other = only_by f change act log x (x == f) refl a here other

-- a field is changed, and another that may be named
both_by : (f : ℕ) (d : Option ℕ) (here there : KeptField → KeptField) (act : Act) (log : List Act) (x : ℕ)
    (b c : Bool) →
    (x == f) ≡ b → is_at d x ≡ c → area (act ∷ log) x ≡ area log x →
    (b ≡ true → here (field_kept log x) ≡ field_kept (act ∷ log) x) →
    (b ≡ false → c ≡ true → there (field_kept log x) ≡ field_kept (act ∷ log) x) →
    (b ≡ false → c ≡ false → field_kept log x ≡ field_kept (act ∷ log) x) →
    Touches (λ o. if o.label == f then record o { kind = changed here o.kind }
    else (if is_at d o.label then record o { kind = changed there o.kind } else o)) act log x
both_by f d here there act log x true c e k a one other rest =
    λ p kind o. rw e
    (ap (λ t. record { label = x; peer = p; kind = t })
    (kinds_changed here log (act ∷ log) x kind a (λ d. one refl)))
both_by f d here there act log x false true e k a one other rest =
    λ p kind o. rw (e, k)
    (ap (λ t. record { label = x; peer = p; kind = t })
    (kinds_changed there log (act ∷ log) x kind a (λ d. other refl refl)))
both_by f d here there act log x false false e k a one other rest =
    λ p kind o. rw (e, k)
    (ap (λ t. record { label = x; peer = p; kind = t }) (kinds_same log (act ∷ log) x kind a (rest refl refl)))

pub touch_both : (f : ℕ) (d : Option ℕ) (here there : KeptField → KeptField) (act : Act) (log : List Act) (x : ℕ) →
    area (act ∷ log) x ≡ area log x →
    ((x == f) ≡ true → here (field_kept log x) ≡ field_kept (act ∷ log) x) →
    ((x == f) ≡ false → is_at d x ≡ true → there (field_kept log x) ≡ field_kept (act ∷ log) x) →
    ((x == f) ≡ false → is_at d x ≡ false → field_kept log x ≡ field_kept (act ∷ log) x) →
    Touches (λ o. if o.label == f then record o { kind = changed here o.kind }
    else (if is_at d o.label then record o { kind = changed there o.kind } else o)) act log x
touch_both f d here there act log x a one other rest =
    both_by f d here there act log x (x == f) (is_at d x) refl refl a one other rest

-- a surface is placed, and no other
placed_by : (t : ℕ) (rect : Rect) (act : Act) (log : List Act) (x : ℕ) (b : Bool) → (x == t) ≡ b →
    area (act ∷ log) x ≡ (if b then rect else area log x) →
    field_kept log x ≡ field_kept (act ∷ log) x → Touches (placed_at t rect) act log x
placed_by t rect act log x true e a f =
    λ p k o. rw e (ap (λ r. record { label = x; peer = p; kind = r }) (kinds_placed k))
  where
    kinds_placed : (k : Kind) → kind_placed rect (kind_of log x k) ≡ kind_of (act ∷ log) x k
    kinds_placed PeerKind = refl
    kinds_placed SurfaceKind = ap (λ r. Surface r) (sym a)
    kinds_placed FieldKind = ap (λ v. Field v) f
    kinds_placed MethodKind = refl
    kinds_placed ThingKind = refl
    kinds_placed BoardKind = refl
    kinds_placed (PopupKind m s) = refl
    kinds_placed (GrabKind m) = refl
placed_by t rect act log x false e a f =
    λ p k o. rw e (ap (λ r. record { label = x; peer = p; kind = r }) (kinds_same log (act ∷ log) x k a f))

pub touch_placed : (t : ℕ) (rect : Rect) (act : Act) (log : List Act) (x : ℕ) →
    area (act ∷ log) x ≡ (if x == t then rect else area log x) →
    field_kept log x ≡ field_kept (act ∷ log) x → Touches (placed_at t rect) act log x
touch_placed t rect act log x a f = placed_by t rect act log x (x == t) refl a f

-- the act makes nothing
pub nothing_new : (act : Act) (log : List Act) → made act (length log + 1) (owner (object log (maker act))) ≡ None →
    entry_new act log ≡ []
nothing_new act log e =
    let gone : object (act ∷ log) (length log + 1) ≡ None = object_new act log ∙ e in
    let Q : Option Object → Type 0 =
    λ o. (if is_some o then entry_of (act ∷ log) (length log + 1) o ∷ [] else []) ≡ [] in
    subst Q (sym gone) refl

-- the act makes this
pub something_new : (act : Act) (log : List Act) (thing : Object) →
    made act (length log + 1) (owner (object log (maker act))) ≡ Some thing →
    entry_new act log ≡ entry_of (act ∷ log) (length log + 1) (Some thing) ∷ []
something_new act log thing e =
    let there : object (act ∷ log) (length log + 1) ≡ Some thing = object_new act log ∙ e in
    let Q : Option Object → Type 0 =
    λ o. (if is_some o then entry_of (act ∷ log) (length log + 1) o ∷ [] else [])
    ≡ entry_of (act ∷ log) (length log + 1) (Some thing) ∷ [] in
    subst Q (sym there) refl

-- the entries after acts of each shape

pub entries_stay : (act : Act) (log : List Act) → AllMove act log (λ e. e) (λ _. true) →
    entries (act ∷ log) ≡ entries log ++ entry_new act log
entries_stay act log h =
    entries_step act log (λ e. e) (λ _. true) h
    ∙ ap (λ es. es ++ entry_new act log) (map_id (filter (λ _. true) (entries log)) ∙ filter_all (entries log))

pub entries_touched : (act : Act) (log : List Act) (touch : Kept → Kept) → AllMove act log touch (λ _. true) →
    made act (length log + 1) (owner (object log (maker act))) ≡ None →
    entries (act ∷ log) ≡ map touch (entries log)
entries_touched act log touch h e =
    entries_step act log touch (λ _. true) h
    ∙ ap (λ es. map touch (filter (λ _. true) (entries log)) ++ es) (nothing_new act log e) ∙
    append-nil (map touch (filter (λ _. true) (entries log))) ∙ ap (map touch) (filter_all (entries log))

pub entries_left : (act : Act) (log : List Act) (survives : Kept → Bool) → AllMove act log (λ e. e) survives →
    made act (length log + 1) (owner (object log (maker act))) ≡ None →
    entries (act ∷ log) ≡ filter survives (entries log)
entries_left act log survives h e =
    entries_step act log (λ e. e) survives h
    ∙ ap (λ es. map (λ e. e) (filter survives (entries log)) ++ es) (nothing_new act log e) ∙
    append-nil (map (λ e. e) (filter survives (entries log))) ∙ map_id (filter survives (entries log))

pub entries_left_touched : (act : Act) (log : List Act) (touch : Kept → Kept) (survives : Kept → Bool) →
    AllMove act log touch survives →
    made act (length log + 1) (owner (object log (maker act))) ≡ None →
    entries (act ∷ log) ≡ map touch (filter survives (entries log))
entries_left_touched act log touch survives h e =
    entries_step act log touch survives h
    ∙ ap (λ es. map touch (filter survives (entries log)) ++ es) (nothing_new act log e) ∙
    append-nil (map touch (filter survives (entries log)))

pub entries_same : (act : Act) (log : List Act) → AllMove act log (λ e. e) (λ _. true) →
    made act (length log + 1) (owner (object log (maker act))) ≡ None → entries (act ∷ log) ≡ entries log
entries_same act log h e =
    entries_stay act log h ∙ ap (λ es. entries log ++ es) (nothing_new act log e) ∙ append-nil (entries log)
