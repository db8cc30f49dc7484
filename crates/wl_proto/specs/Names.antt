-- The protocol's names of the interfaces.
use Rattle.std.specs.Prelude.{ℕ, List, codes}
use Rattle.wl_proto.specs.declared.interface.Interface.{Interface}
use Rattle.wl_proto.specs.declared.interface.Interface.TheVariants.{Display, Registry, Callback, Compositor, Surface, Seat, TextInputManager, TextInput, InputMethodManager, InputMethod, InputPopupSurface, KeyboardGrab, VirtualKeyboardManager, VirtualKeyboard}

abbrev pub name_of : Interface → List ℕ
name_of Display = codes "wl_display"
name_of Registry = codes "wl_registry"
name_of Callback = codes "wl_callback"
name_of Compositor = codes "wl_compositor"
name_of Surface = codes "wl_surface"
name_of Seat = codes "wl_seat"
name_of TextInputManager = codes "zwp_text_input_manager_v3"
name_of TextInput = codes "zwp_text_input_v3"
name_of InputMethodManager = codes "zwp_input_method_manager_v2"
name_of InputMethod = codes "zwp_input_method_v2"
name_of InputPopupSurface = codes "zwp_input_popup_surface_v2"
name_of KeyboardGrab = codes "zwp_input_method_keyboard_grab_v2"
name_of VirtualKeyboardManager = codes "zwp_virtual_keyboard_manager_v1"
name_of VirtualKeyboard = codes "zwp_virtual_keyboard_v1"
