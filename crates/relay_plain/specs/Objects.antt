-- Objects as the program has them, in the words of the definitions.
use Rattle.std.specs.Prelude.{Option, option_map}
use Rattle.relay_model.specs.Objects as model
use Rattle.relay_plain.specs.declared.objects.Kind.{Kind}
use Rattle.relay_plain.specs.declared.objects.Kind.TheVariants as kinds
use Rattle.relay_plain.specs.declared.objects.LiveObject.{LiveObject}

abbrev pub kind_of : Kind → model.Kind
kind_of kinds.Peer = model.PeerKind
kind_of kinds.Surface = model.SurfaceKind
kind_of kinds.Field = model.FieldKind
kind_of kinds.Method = model.MethodKind
kind_of kinds.Thing = model.ThingKind
kind_of kinds.Board = model.BoardKind
kind_of (kinds.Popup method surface) = model.PopupKind method surface
kind_of (kinds.Grab method) = model.GrabKind method

abbrev pub object_of : LiveObject → model.Object
object_of o = record { kind = kind_of o.kind; peer = o.peer }

-- an object that may be there
abbrev pub option_of : Option LiveObject → Option model.Object
option_of o = option_map object_of o
