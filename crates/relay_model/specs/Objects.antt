-- The objects of a history of acts, the newest act first: which are alive, of which kind, and
-- whose.
use Rattle.std.specs.Prelude.{ℕ, ◌+◌, List, [], ◌∷◌, ◌++◌, length, filter, Bool, true, false, ◌==◌, if◌then◌else◌, Option, Some, None, is_some}
use Rattle.std.specs.List.{list_any}
use Rattle.relay_model.specs.declared.act.Act.{Act}
use Rattle.relay_model.specs.declared.act.Act.TheVariants.{Peer, Gone, Surface, Field, Method, Popup, Grab, Drop, Registry, Seat, Thing, VBoard}

-- what an object is; a popup is made by a method on a surface, a grab by a method; a board is a
-- virtual keyboard; a registry, a seat or another bound global is a thing, of which nothing is
-- asked but whether it is alive
pub data Kind : Type 0 where
  PeerKind SurfaceKind FieldKind MethodKind ThingKind BoardKind : Kind
  PopupKind : (method surface : ℕ) → Kind
  GrabKind : (method : ℕ) → Kind

-- a live object: its kind, and the peer that it belongs to; a peer is its own, a popup's or grab's
-- is that of its method
pub record Object : Type 0 where
  pub kind : Kind
  pub peer : ℕ

-- the number of the act that comes next
abbrev pub next : List Act → ℕ
next older = length older + 1

-- the option is this number
abbrev pub is_at : Option ℕ → ℕ → Bool
is_at None x = false
is_at (Some y) x = y == x

-- both are there, and the same
abbrev pub is_same : Option ℕ → Option ℕ → Bool
is_same None y = false
is_same (Some x) y = is_at y x

abbrev pub is_field_kind : Kind → Bool
is_field_kind FieldKind = true
is_field_kind _ = false

abbrev pub is_surface_kind : Kind → Bool
is_surface_kind SurfaceKind = true
is_surface_kind _ = false

abbrev pub is_method_kind : Kind → Bool
is_method_kind MethodKind = true
is_method_kind _ = false

abbrev pub is_peer_kind : Kind → Bool
is_peer_kind PeerKind = true
is_peer_kind _ = false

abbrev pub is_popup_kind : Kind → Bool
is_popup_kind (PopupKind m s) = true
is_popup_kind _ = false

abbrev pub is_board_kind : Kind → Bool
is_board_kind BoardKind = true
is_board_kind _ = false

-- the method that made the popup or the grab
abbrev pub kind_method : Kind → Option ℕ
kind_method (PopupKind m s) = Some m
kind_method (GrabKind m) = Some m
kind_method _ = None

-- the surface that the popup was made on
abbrev pub kind_surface : Kind → Option ℕ
kind_surface (PopupKind m s) = Some s
kind_surface _ = None

-- there is an object, and its kind passes the test
abbrev pub is_kind : (Kind → Bool) → Option Object → Bool
is_kind test None = false
is_kind test (Some object) = test object.kind

-- the peer of an object that is there
abbrev pub owner : Option Object → Option ℕ
owner None = None
owner (Some object) = Some object.peer

-- the method of an object that is there and was made by one
abbrev pub method_in : Option Object → Option ℕ
method_in None = None
method_in (Some object) = kind_method object.kind

-- the surface of a popup that is there
abbrev pub surface_in : Option Object → Option ℕ
surface_in None = None
surface_in (Some object) = kind_surface object.kind

-- an object of this kind, where it has a peer
abbrev pub made_for : Kind → Option ℕ → Option Object
made_for kind None = None
made_for kind (Some p) = Some (record { kind = kind; peer = p })

-- what the act makes, where it has this number, and its maker this peer; the callback of a sync is
-- never alive
abbrev pub made : Act → ℕ → Option ℕ → Option Object
made Peer n whose = Some (record { kind = PeerKind; peer = n })
made (Surface p) n whose = Some (record { kind = SurfaceKind; peer = p })
made (Field p) n whose = Some (record { kind = FieldKind; peer = p })
made (Method p) n whose = Some (record { kind = MethodKind; peer = p })
made (Popup m s) n whose = made_for (PopupKind m s) whose
made (Grab m) n whose = made_for (GrabKind m) whose
made (Registry p role) n whose = Some (record { kind = ThingKind; peer = p })
made (Seat p) n whose = Some (record { kind = ThingKind; peer = p })
made (Thing p) n whose = Some (record { kind = ThingKind; peer = p })
made (VBoard p) n whose = Some (record { kind = BoardKind; peer = p })
made _ n whose = None

-- the method that makes the act's object
abbrev pub maker : Act → ℕ
maker (Popup m s) = m
maker (Grab m) = m
maker _ = 0

-- what the act leaves of the object x that was made before it
abbrev pub remains : Act → ℕ → Option Object → Option Object
remains (Drop y) x object = (if y == x then None else object)
remains (Gone p cause) x object = (if is_at (owner object) p then None else object)
remains _ x object = object

-- the live object x: its act made it, and no act since dropped it or ended its peer
abbrev pub object : List Act → ℕ → Option Object
object [] x = None
object (act ∷ older) x =
    (if x == next older then made act x (owner (object older (maker act)))
    else remains act x (object older x))

-- x is alive
abbrev pub alive : List Act → ℕ → Bool
alive log x = is_some (object log x)

-- the peer of the live object x
abbrev pub peer_of : List Act → ℕ → Option ℕ
peer_of log x = owner (object log x)

abbrev pub is_field : List Act → ℕ → Bool
is_field log x = is_kind is_field_kind (object log x)

abbrev pub is_surface : List Act → ℕ → Bool
is_surface log x = is_kind is_surface_kind (object log x)

abbrev pub is_method : List Act → ℕ → Bool
is_method log x = is_kind is_method_kind (object log x)

abbrev pub is_peer : List Act → ℕ → Bool
is_peer log x = is_kind is_peer_kind (object log x)

abbrev pub is_popup : List Act → ℕ → Bool
is_popup log x = is_kind is_popup_kind (object log x)

abbrev pub is_board : List Act → ℕ → Bool
is_board log x = is_kind is_board_kind (object log x)

-- the method of the live popup or grab x
abbrev pub method_of : List Act → ℕ → Option ℕ
method_of log x = method_in (object log x)

-- the surface of the live popup x
abbrev pub surface_of : List Act → ℕ → Option ℕ
surface_of log x = surface_in (object log x)

-- the labels of a history, rising
abbrev pub labels : List Act → List ℕ
labels [] = []
labels (act ∷ older) = labels older ++ next older ∷ []

-- the live fields, by rising label
abbrev pub fields : List Act → List ℕ
fields log = filter (is_field log) (labels log)

-- the live popups, by rising label
abbrev pub popups : List Act → List ℕ
popups log = filter (is_popup log) (labels log)

-- a live popup has the surface
abbrev pub has_popup : List Act → ℕ → Bool
has_popup log s = list_any (λ x. is_at (surface_of log x) s) (labels log)
