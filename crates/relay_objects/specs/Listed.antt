-- What is listed beside the live objects: the fields by peer, the popups, and whose fields may be
-- entered.
use Rattle.std.specs.Prelude.{◌≡◌, ℕ, ◌<◌, ◌≤◌, List, [], ◌∷◌, length, slice_index_or, map, filter, All, Bool, true, false, not, ◌&&◌, ◌==◌, if◌then◌else◌, Option, Some, None}
use Rattle.std.specs.List.{flat_map, list_any}
use Rattle.relay_model.specs.Objects.{is_at}
use Rattle.relay_objects.specs.declared.object.Object.{Object}
use Rattle.relay_objects.specs.declared.object.Kind.{Kind}
use Rattle.relay_objects.specs.declared.object.Kind.TheVariants.{Popup}
use Rattle.relay_objects.specs.declared.listed.LiveField.{LiveField}
use Rattle.relay_objects.specs.declared.listed.LivePopup.{LivePopup}
use Rattle.relay_objects.specs.declared.entered.Entered.{Entered}
use Rattle.relay_objects.specs.declared.entered.Entered.TheVariants.{Nobody, One, Anyone}
use Rattle.relay_objects.specs.Objects.{is_field_kind, refocused}
use Rattle.relay_objects.specs.Rising.{RisesBy}

-- the fields

abbrev pub of_peer : ℕ → LiveField → Bool
of_peer p w = w.peer == p

-- the entry of a field
abbrev pub live_field : Object → LiveField
live_field o = record { peer = o.peer; label = o.label }

-- it is a field of the peer
abbrev pub is_field_of : ℕ → Object → Bool
is_field_of p o = is_field_kind o.kind && (o.peer == p)

-- the peer's fields, by rising label
abbrev pub fields_of : ℕ → List Object → List LiveField
fields_of p os = map live_field (filter (is_field_of p) os)

-- the object's entry, if it is a field of the peer
abbrev pub field_entry : ℕ → Object → List LiveField
field_entry p o = (if is_field_of p o then live_field o ∷ [] else [])

-- the peers do not fall, from n on
abbrev pub PeersFrom : ℕ → List LiveField → Type 0
PeersFrom n [] = Unit {0}
PeersFrom n (w ∷ ws) = (n ≤ w.peer) × PeersFrom w.peer ws

abbrev pub PeersRise : List LiveField → Type 0
PeersRise ws = PeersFrom 0 ws

-- the labels rise
abbrev pub LabelsRise : List LiveField → Type 0
LabelsRise ws = RisesBy (λ (w : LiveField). w.label) 0 ws

-- the peer's part begins at start, and ends in front of stop
pub record IsPart (ws : List LiveField) (p start stop : ℕ) : Type 0 where
  pub ordered : start ≤ stop
  pub within : stop ≤ length ws
  pub before : (k : ℕ) (d : LiveField) → k < start → (slice_index_or ws k d).peer < p
  pub inside : (k : ℕ) (d : LiveField) → start ≤ k → k < stop → (slice_index_or ws k d).peer ≡ p
  pub behind : (k : ℕ) (d : LiveField) → stop ≤ k → k < length ws → p < (slice_index_or ws k d).peer

-- not that field
abbrev pub is_other : LiveField → LiveField → Bool
is_other v w = not ((w.peer == v.peer) && (w.label == v.label))

-- the list without the object, if it is a field
abbrev pub without_field : Object → List LiveField → List LiveField
without_field o ws = (if is_field_kind o.kind then filter (is_other (live_field o)) ws else ws)

-- the popups

abbrev pub is_popup_kind : Kind → Bool
is_popup_kind (Popup method surface) = true
is_popup_kind _ = false

abbrev pub popup_of_kind : ℕ → ℕ → Kind → List LivePopup
popup_of_kind p x (Popup method surface) =
    record { peer = p; label = x; method = method; surface = surface } ∷ []
popup_of_kind p x _ = []

-- the object's entry, if it is a popup
abbrev pub popup_of : Object → List LivePopup
popup_of o = popup_of_kind o.peer o.label o.kind

-- the popups, by rising label
abbrev pub popups_of : List Object → List LivePopup
popups_of os = flat_map popup_of os

-- the list without the object, if it is a popup
abbrev pub without_popup : Object → List LivePopup → List LivePopup
without_popup o ws =
    (if is_popup_kind o.kind then filter (λ w. not (w.label == o.label)) ws else ws)

-- whose fields may be entered

abbrev pub may_be : Entered → ℕ → Bool
may_be Nobody p = false
may_be (One q) p = q == p
may_be Anyone p = true

-- fields of this peer too
abbrev pub widened : Entered → ℕ → Entered
widened Nobody p = One p
widened (One q) p = (if q == p then One p else Anyone)
widened Anyone p = Anyone

-- only fields of the peer that may be named
abbrev pub entered_by : Option ℕ → Entered
entered_by None = Nobody
entered_by (Some p) = One p

-- whose fields are left where the focus comes to the peer, whose own are visited anyhow
abbrev pub left_for : Entered → Option ℕ → Entered
left_for Nobody peer = Nobody
left_for (One q) peer = (if is_at peer q then Nobody else One q)
left_for Anyone peer = Anyone

-- of these fields those that may be entered
abbrev pub visited : Entered → List LiveField → List LiveField
visited Nobody ws = []
visited (One p) ws = filter (of_peer p) ws
visited Anyone ws = ws

-- the object is among these
abbrev pub is_among : List LiveField → Object → Bool
is_among ws o = list_any (λ w. o.label == w.label) ws

-- the focus is the peer's now, for the objects that are among these
abbrev pub refocused_in : List LiveField → Option ℕ → Object → Object
refocused_in ws peer o = (if is_among ws o then refocused peer o else o)

-- leaving an object whose peer's fields may not be entered changes nothing
abbrev pub IsCalm : Entered → Object → Type 0
IsCalm entered o = may_be entered o.peer ≡ false → refocused None o ≡ o

-- the lists are of these objects
pub record Lists (os : List Object) (fields : List LiveField) (popups : List LivePopup)
    (entered : Entered) : Type 0 where
  pub peers_rise : PeersRise fields
  pub fields_are : (p : ℕ) → filter (of_peer p) fields ≡ fields_of p os
  pub popups_are : popups ≡ popups_of os
  pub calm : All (IsCalm entered) os
