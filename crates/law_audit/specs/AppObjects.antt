-- Which objects an application can have.
use Rattle.wl_proto.specs.declared.interface.Interface.{Interface}
use Rattle.wl_proto.specs.declared.interface.Interface.TheVariants as interface

-- an application can have an object of the interface
abbrev pub IsAppKind : Interface → Type 0
IsAppKind interface.InputMethodManager = ⊥
IsAppKind interface.InputMethod = ⊥
IsAppKind interface.InputPopupSurface = ⊥
IsAppKind interface.KeyboardGrab = ⊥
IsAppKind interface.VirtualKeyboardManager = ⊥
IsAppKind interface.VirtualKeyboard = ⊥
IsAppKind _ = Unit {0}
