-- What the relay finds is what the definitions say of a label.
use Rattle.std.proofs.Common.{◌≡◌, ℕ, List, [], ◌∷◌, map, Bool, true, false, Option, Some, None, ap, refl, ◌∙◌}
use Rattle.std.proofs.lemmas.Bool.{eq-eqb, true≢false}
use Rattle.std.specs.Prelude.{◌&&◌, ◌||◌, not, if◌then◌else◌, filter, is_some, is_none, option_map}
use Rattle.std.specs.List.{list_any}
use Rattle.relay_model.specs.declared.act.Act.{Act}
use Rattle.relay_model.specs.declared.act.Act.TheVariants as acts
use Rattle.relay_model.specs.Objects as model
use Rattle.relay_model.specs.Objects.{Object, Kind, PeerKind, SurfaceKind, FieldKind, MethodKind, ThingKind, BoardKind, PopupKind, GrabKind, is_at, is_same, is_kind, owner, object, alive, is_peer, is_field, is_surface, is_method, peer_of, labels, surface_in, kind_surface, surface_of, has_popup}
use Rattle.relay_model.specs.Focus.{focus, peer_at, focused_peer, entered}
use Rattle.relay_model.specs.Hold.{holder}
use Rattle.relay_model.specs.Current.{current}
use Rattle.relay_model.specs.Batch.{commit_count}
use Rattle.relay_model.specs.Idle.{is_live, is_place, is_sized}
use Rattle.relay_model.proofs.ActsOrIdle.{IsHistory}
use Rattle.relay_model.proofs.FocusLaws.{entered_field}
use Rattle.relay_model.proofs.HoldLaws.{holder_entered}
use Rattle.relay_objects.specs.Objects.{find, is_peer_in, is_surface_in, is_field_in, is_method_in, is_peer_kind, is_surface_kind, is_field_kind, is_method_kind, owner_in, field_of_kind, field_in, field_at, count_of_field, count_in, surface_of_kind, has_popup_in}
use Rattle.relay_core.specs.Machine.{State, owner_at, focused_in, entered_in, is_thing_in, is_live_in, current_of, holder_state}
use Rattle.relay_objects.specs.declared.object.Object.{Object as Kept}
use Rattle.relay_core.specs.Stands.{Stands, state_kept, current_where, field_kept, kind_of, entry_of, entry}
use Rattle.relay_core.proofs.HistoryEntries.{map_if, found, found_of}

peer_found : (log : List Act) (x : ℕ) (o : Option Object) → is_peer_in (found_of log x o) ≡ is_kind model.is_peer_kind o
peer_found log x None = refl
peer_found log x (Some object) = at object.kind log x
  where
    at : (k : Kind) (log : List Act) (x : ℕ) → is_peer_kind (kind_of log x k) ≡ model.is_peer_kind k
    at PeerKind log x = refl
    at SurfaceKind log x = refl
    at FieldKind log x = refl
    at MethodKind log x = refl
    at ThingKind log x = refl
    at BoardKind log x = refl
    at (PopupKind m t) log x = refl
    at (GrabKind m) log x = refl

surface_found : (log : List Act) (x : ℕ) (o : Option Object) →
    is_surface_in (found_of log x o) ≡ is_kind model.is_surface_kind o
surface_found log x None = refl
surface_found log x (Some object) = at object.kind log x
  where
    at : (k : Kind) (log : List Act) (x : ℕ) → is_surface_kind (kind_of log x k) ≡ model.is_surface_kind k
    at PeerKind log x = refl
    at SurfaceKind log x = refl
    at FieldKind log x = refl
    at MethodKind log x = refl
    at ThingKind log x = refl
    at BoardKind log x = refl
    at (PopupKind m t) log x = refl
    at (GrabKind m) log x = refl

field_found : (log : List Act) (x : ℕ) (o : Option Object) →
    is_field_in (found_of log x o) ≡ is_kind model.is_field_kind o
field_found log x None = refl
field_found log x (Some object) = at object.kind log x
  where
    at : (k : Kind) (log : List Act) (x : ℕ) → is_field_kind (kind_of log x k) ≡ model.is_field_kind k
    at PeerKind log x = refl
    at SurfaceKind log x = refl
    at FieldKind log x = refl
    at MethodKind log x = refl
    at ThingKind log x = refl
    at BoardKind log x = refl
    at (PopupKind m t) log x = refl
    at (GrabKind m) log x = refl

method_found : (log : List Act) (x : ℕ) (o : Option Object) →
    is_method_in (found_of log x o) ≡ is_kind model.is_method_kind o
method_found log x None = refl
method_found log x (Some object) = at object.kind log x
  where
    at : (k : Kind) (log : List Act) (x : ℕ) → is_method_kind (kind_of log x k) ≡ model.is_method_kind k
    at PeerKind log x = refl
    at SurfaceKind log x = refl
    at FieldKind log x = refl
    at MethodKind log x = refl
    at ThingKind log x = refl
    at BoardKind log x = refl
    at (PopupKind m t) log x = refl
    at (GrabKind m) log x = refl

owner_found : (log : List Act) (x : ℕ) (o : Option Object) → owner_in (found_of log x o) ≡ owner o
owner_found log x None = refl
owner_found log x (Some object) = refl

-- what the relay finds under a label
pub finds : (s : State) (log : List Act) (x : ℕ) → Stands s log → find s.objects x ≡ found_of log x (object log x)
finds s log x h = ap (λ os. find os x) h.objects_now ∙ found log x

pub finds_peer : (s : State) (log : List Act) (x : ℕ) → Stands s log → is_peer_in (find s.objects x) ≡ is_peer log x
finds_peer s log x h = ap is_peer_in (finds s log x h) ∙ peer_found log x (object log x)

pub finds_surface : (s : State) (log : List Act) (x : ℕ) → Stands s log →
    is_surface_in (find s.objects x) ≡ is_surface log x
finds_surface s log x h = ap is_surface_in (finds s log x h) ∙ surface_found log x (object log x)

pub finds_field : (s : State) (log : List Act) (x : ℕ) → Stands s log → is_field_in (find s.objects x) ≡ is_field log x
finds_field s log x h = ap is_field_in (finds s log x h) ∙ field_found log x (object log x)

pub finds_method : (s : State) (log : List Act) (x : ℕ) → Stands s log →
    is_method_in (find s.objects x) ≡ is_method log x
finds_method s log x h = ap is_method_in (finds s log x h) ∙ method_found log x (object log x)

pub finds_owner : (s : State) (log : List Act) (x : ℕ) → Stands s log → owner_in (find s.objects x) ≡ peer_of log x
finds_owner s log x h = ap owner_in (finds s log x h) ∙ owner_found log x (object log x)

there_found : (log : List Act) (x : ℕ) (o : Option Object) → is_some (found_of log x o) ≡ is_some o
there_found log x None = refl
there_found log x (Some object) = refl

finds_thing : (s : State) (log : List Act) (x : ℕ) → Stands s log →
    is_thing_in (find s.objects x) ≡ (alive log x && not (is_peer log x))
finds_thing s log x h =
    let a : is_some (find s.objects x) ≡ alive log x =
    ap is_some (finds s log x h) ∙ there_found log x (object log x) in
    let b : is_peer_in (find s.objects x) ≡ is_peer log x = finds_peer s log x h in
    cc

pub owner_at_is : (s : State) (log : List Act) (o : Option ℕ) → Stands s log → owner_at s.objects o ≡ peer_at log o
owner_at_is s log None h = refl
owner_at_is s log (Some x) h = finds_owner s log x h

-- the relay knows which peer has the focus
pub focused_is : (s : State) (log : List Act) → Stands s log → focused_in s ≡ focused_peer log
focused_is s log h = ap (λ o. owner_at s.objects o) h.focus_now ∙ owner_at_is s log (focus log) h

-- and which fields are entered
pub entered_is : (s : State) (log : List Act) (f : ℕ) → Stands s log → entered_in s f ≡ entered log f
entered_is s log f h =
    let a : is_field_in (find s.objects f) ≡ is_field log f = finds_field s log f h in
    let b : owner_in (find s.objects f) ≡ peer_of log f = finds_owner s log f h in
    let c : focused_in s ≡ focused_peer log = focused_is s log h in
    cc

field_of_found : (log : List Act) (f : ℕ) (o : Option Object) → is_kind model.is_field_kind o ≡ true →
    field_in (found_of log f o) ≡ Some (field_kept log f)
field_of_found log f None e = cc
field_of_found log f (Some object) e = at object.kind log f e
  where
    at : (k : Kind) (log : List Act) (f : ℕ) → model.is_field_kind k ≡ true →
        field_of_kind (kind_of log f k) ≡ Some (field_kept log f)
    at PeerKind log f e = cc
    at SurfaceKind log f e = cc
    at FieldKind log f e = refl
    at MethodKind log f e = cc
    at ThingKind log f e = cc
    at BoardKind log f e = cc
    at (PopupKind m t) log f e = cc
    at (GrabKind m) log f e = cc

-- what the relay finds of a field
pub finds_kept : (s : State) (log : List Act) (f : ℕ) → Stands s log → is_field log f ≡ true →
    field_in (find s.objects f) ≡ Some (field_kept log f)
finds_kept s log f h e = ap field_in (finds s log f h) ∙ field_of_found log f (object log f) e

pub finds_count : (s : State) (log : List Act) (f : ℕ) → Stands s log → is_field log f ≡ true →
    count_in (find s.objects f) ≡ commit_count log f
finds_count s log f h e = ap count_of_field (finds_kept s log f h e)

-- the relay knows how often the holder committed
count_held : (s : State) (log : List Act) (o : Option ℕ) → Stands s log → IsHistory log → holder log ≡ o →
    option_map (λ f. count_in (find s.objects f)) o ≡ option_map (commit_count log) o
count_held s log None h i e = refl
count_held s log (Some f) h i e =
    ap (λ n. Some n) (finds_count s log f h (entered_field log f (holder_entered log f i e)))

pub holder_count_is : (s : State) (log : List Act) → Stands s log → IsHistory log →
    option_map (λ f. count_in (find s.objects f)) s.holder ≡ option_map (commit_count log) (holder log)
holder_count_is s log h i =
    ap (option_map (λ f. count_in (find s.objects f))) h.holder_now ∙ count_held s log (holder log) h i refl

-- the relay knows the current state of the holder
pub holder_state_is : (s : State) (log : List Act) (f : ℕ) → Stands s log → IsHistory log → holder log ≡ Some f →
    holder_state s ≡ state_kept (current log f)
holder_state_is s log f h i e =
    let field : is_field log f ≡ true = entered_field log f (holder_entered log f i e) in
    let held : is_at (holder log) f ≡ true = ap (λ o. is_at o f) e ∙ eq-eqb f f refl in
    ap (λ o. current_of (field_at s.objects o)) (h.holder_now ∙ e) ∙ ap current_of (finds_kept s log f h field) ∙
    ap (λ b. current_where b log f) held

there_unless : (o : Option ℕ) → is_some o ≡ not (is_none o)
there_unless None = refl
there_unless (Some x) = refl

-- a live popup has the surface

any_if : (test : Kept → Bool) (b : Bool) (o : Kept) (os : List Kept) →
    list_any test (if b then o ∷ os else os) ≡ ((b && test o) || list_any test os)
any_if test true o os = refl
any_if test false o os = refl

any_list : (test : Kept → Bool) (e : ℕ → Kept) (a test' : ℕ → Bool) (xs : List ℕ) →
    ((x : ℕ) → (a x && test (e x)) ≡ test' x) →
    list_any test (map e (filter a xs)) ≡ list_any test' xs
any_list test e a test' [] h = refl
any_list test e a test' (x ∷ xs) h =
    ap (list_any test) (map_if (a x) e x (filter a xs)) ∙ any_if test (a x) (e x) (map e (filter a xs)) ∙
    ap (λ b. b || list_any test (map e (filter a xs))) (h x) ∙ ap (λ b. test' x || b) (any_list test e a test' xs h)

popup_entry : (log : List Act) (t x : ℕ) (o : Option Object) →
    (is_some o && is_at (surface_of_kind (entry_of log x o).kind) t) ≡ is_at (surface_in o) t
popup_entry log t x None = refl
popup_entry log t x (Some thing) = at thing.kind log t x
  where
    at : (k : Kind) (log : List Act) (t x : ℕ) → is_at (surface_of_kind (kind_of log x k)) t ≡ is_at (kind_surface k) t
    at PeerKind log t x = refl
    at SurfaceKind log t x = refl
    at FieldKind log t x = refl
    at MethodKind log t x = refl
    at ThingKind log t x = refl
    at BoardKind log t x = refl
    at (PopupKind m s) log t x = refl
    at (GrabKind m) log t x = refl

pub finds_popup : (s : State) (log : List Act) (t : ℕ) → Stands s log → has_popup_in s.objects t ≡ has_popup log t
finds_popup s log t h =
    ap (λ os. has_popup_in os t) h.objects_now ∙
    any_list (λ o. is_at (surface_of_kind o.kind) t) (entry log) (alive log) (λ x. is_at (surface_of log x) t)
    (labels log)
    (λ x. popup_entry log t x (object log x))

-- the act is a press or a release of a key, or what a board says
abbrev pub is_key : Act → Bool
is_key (acts.Key time key state) = true
is_key (acts.VKeymap v keymap) = true
is_key (acts.VKey v time key state) = true
is_key (acts.VMods v mods) = true
is_key _ = false

-- the machine knows which acts do something, but for a press that is refused, and for what boards say
pub live_is : (s : State) (log : List Act) (act : Act) → Stands s log → is_key act ≡ false →
    is_live_in act s ≡ is_live act log
live_is s log acts.Peer h b = refl
live_is s log (acts.Gone p cause) h b = finds_peer s log p h
live_is s log (acts.Surface p) h b = finds_peer s log p h
live_is s log (acts.Field p) h b = finds_peer s log p h
live_is s log (acts.Method p) h b = finds_peer s log p h
live_is s log (acts.Drop x) h b = finds_thing s log x h
live_is s log (acts.Focus t) h b =
    let a : is_surface_in (find s.objects t) ≡ is_surface log t = finds_surface s log t h in
    let c : s.focus ≡ focus log = h.focus_now in
    cc
live_is s log acts.Unfocus h b = ap is_some h.focus_now ∙ there_unless (focus log)
live_is s log (acts.Enable f) h b = entered_is s log f h
live_is s log (acts.Disable f) h b = entered_is s log f h
live_is s log (acts.Surround f text cursor anchor) h b =
    ap (λ t. t && is_place text cursor && is_place text anchor) (entered_is s log f h)
live_is s log (acts.Cause f cause) h b = entered_is s log f h
live_is s log (acts.Content f hint purpose) h b = entered_is s log f h
live_is s log (acts.Cursor f rect) h b = ap (λ t. t && is_sized rect) (entered_is s log f h)
live_is s log (acts.Commit f) h b = finds_field s log f h
live_is s log (acts.MString m text) h b = finds_method s log m h
live_is s log (acts.MPreedit m text begin end) h b = finds_method s log m h
live_is s log (acts.MDelete m before after) h b = finds_method s log m h
live_is s log (acts.MCommit m serial) h b = finds_method s log m h
live_is s log (acts.Registry p role) h b = finds_peer s log p h
live_is s log (acts.Sync p) h b = finds_peer s log p h
live_is s log (acts.Seat p) h b = finds_peer s log p h
live_is s log (acts.Thing p) h b = finds_peer s log p h
live_is s log (acts.Bad p fault x) h b = finds_peer s log p h
live_is s log (acts.VBoard p) h b = finds_peer s log p h
live_is s log (acts.VKeymap v keymap) h b = absurd (true≢false b)
live_is s log (acts.VKey v time key state) h b = absurd (true≢false b)
live_is s log (acts.VMods v mods) h b = absurd (true≢false b)
live_is s log (acts.Took p bytes) h b = refl
live_is s log acts.Idle h b = refl
live_is s log (acts.Popup m t) h b =
    let a : is_method_in (find s.objects m) ≡ is_method log m = finds_method s log m h in
    let c : is_surface_in (find s.objects t) ≡ is_surface log t = finds_surface s log t h in
    let d : has_popup_in s.objects t ≡ has_popup log t = finds_popup s log t h in
    cc
live_is s log (acts.Grab m) h b = finds_method s log m h
live_is s log (acts.Area t rect) h b = finds_surface s log t h
live_is s log (acts.Screen size) h b = refl
live_is s log (acts.Key time key state) h b = absurd (true≢false b)
live_is s log (acts.Mods mods) h b = refl
live_is s log (acts.Keymap keymap) h b = refl
live_is s log (acts.Repeat repeat) h b = refl
