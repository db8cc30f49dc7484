-- Each request and each event has a row, and the opcodes of each interface rise.
use Rattle.std.proofs.Common.{ℕ, List, Option, Some, None, refl}
use Rattle.std.specs.Option.{option_copied}
use Rattle.wl_proto.specs.declared.interface.Interface.TheVariants.{Display, Registry, Callback, Compositor, Surface, Seat, TextInputManager, TextInput, InputMethodManager, InputMethod, InputPopupSurface, KeyboardGrab, VirtualKeyboardManager, VirtualKeyboard}
use Rattle.wl_proto.specs.declared.table.Kind.TheVariants.{TextOrNull}
use Rattle.wl_proto.specs.declared.request.Request.{Request}
use Rattle.wl_proto.specs.declared.request.Request.TheVariants as request
use Rattle.wl_proto.specs.declared.event.Event.{Event}
use Rattle.wl_proto.specs.declared.event.Event.TheVariants as event
use Rattle.wl_proto.specs.Grammar.{string_value}
use Rattle.wl_proto.specs.Spelled.{HasKind}
use Rattle.wl_proto.specs.Tables.{opcodes}
use Rattle.wl_proto.specs.Rows.{request_rows, event_rows, request_kinds, event_kinds, request_message, event_message}
use Rattle.wl_proto.specs.Laws.{Rise, HasRow}
use Rattle.wl_proto.proofs.TableLemmas.{rises-increasing}

string_kind : (s : Option (List ℕ)) → HasKind TextOrNull (string_value s)
string_kind None = tt
string_kind (Some t) = tt

pub each_request : (request : Request) → HasRow request_kinds (request_message request)
each_request (request.Sync callback) = (_, refl, (tt, tt))
each_request (request.GetRegistry registry) = (_, refl, (tt, tt))
each_request (request.Bind name interface version id) = (_, refl, (tt, (tt, (tt, (tt, tt)))))
each_request (request.CreateSurface id) = (_, refl, (tt, tt))
each_request request.SurfaceDestroy = (_, refl, tt)
each_request (request.Damage x y width height) = (_, refl, (tt, (tt, (tt, (tt, tt)))))
each_request request.SurfaceCommit = (_, refl, tt)
each_request (request.GetPointer id) = (_, refl, (tt, tt))
each_request (request.GetKeyboard id) = (_, refl, (tt, tt))
each_request (request.GetTouch id) = (_, refl, (tt, tt))
each_request request.TextInputManagerDestroy = (_, refl, tt)
each_request (request.GetTextInput id seat) = (_, refl, (tt, (tt, tt)))
each_request request.TextInputDestroy = (_, refl, tt)
each_request request.Enable = (_, refl, tt)
each_request request.Disable = (_, refl, tt)
each_request (request.SetSurroundingText t cursor anchor) = (_, refl, (tt, (tt, (tt, tt))))
each_request (request.SetTextChangeCause cause) = (_, refl, (tt, tt))
each_request (request.SetContentType hint purpose) = (_, refl, (tt, (tt, tt)))
each_request (request.SetCursorRectangle x y width height) = (_, refl, (tt, (tt, (tt, (tt, tt)))))
each_request request.TextInputCommit = (_, refl, tt)
each_request (request.GetInputMethod seat method) = (_, refl, (tt, (tt, tt)))
each_request request.InputMethodManagerDestroy = (_, refl, tt)
each_request (request.CommitString t) = (_, refl, (tt, tt))
each_request (request.SetPreeditString t begin end) = (_, refl, (tt, (tt, (tt, tt))))
each_request (request.DeleteSurroundingText before after) = (_, refl, (tt, (tt, tt)))
each_request (request.InputMethodCommit serial) = (_, refl, (tt, tt))
each_request (request.GetInputPopupSurface id surface) = (_, refl, (tt, (tt, tt)))
each_request (request.GrabKeyboard keyboard) = (_, refl, (tt, tt))
each_request request.InputMethodDestroy = (_, refl, tt)
each_request request.InputPopupSurfaceDestroy = (_, refl, tt)
each_request request.KeyboardGrabRelease = (_, refl, tt)
each_request (request.CreateVirtualKeyboard seat id) = (_, refl, (tt, (tt, tt)))
each_request (request.Keymap format d size) = (_, refl, (tt, (tt, (tt, tt))))
each_request (request.Key time key state) = (_, refl, (tt, (tt, (tt, tt))))
each_request (request.Modifiers depressed latched locked group) = (_, refl, (tt, (tt, (tt, (tt, tt)))))
each_request request.VirtualKeyboardDestroy = (_, refl, tt)

pub each_event : (event : Event) → HasRow event_kinds (event_message event)
each_event (event.Error object code m) = (_, refl, (tt, (tt, (tt, tt))))
each_event (event.DeleteId id) = (_, refl, (tt, tt))
each_event (event.Global name interface version) = (_, refl, (tt, (tt, (tt, tt))))
each_event (event.GlobalRemove name) = (_, refl, (tt, tt))
each_event (event.CallbackDone value) = (_, refl, (tt, tt))
each_event (event.Capabilities value) = (_, refl, (tt, tt))
each_event (event.Enter surface) = (_, refl, (tt, tt))
each_event (event.Leave surface) = (_, refl, (tt, tt))
each_event (event.PreeditString t begin end) = (_, refl, (string_kind (option_copied t), (tt, (tt, tt))))
each_event (event.CommitString t) = (_, refl, (string_kind (option_copied t), tt))
each_event (event.DeleteSurroundingText before after) = (_, refl, (tt, (tt, tt)))
each_event (event.TextInputDone serial) = (_, refl, (tt, tt))
each_event event.Activate = (_, refl, tt)
each_event event.Deactivate = (_, refl, tt)
each_event (event.SurroundingText t cursor anchor) = (_, refl, (tt, (tt, (tt, tt))))
each_event (event.TextChangeCause cause) = (_, refl, (tt, tt))
each_event (event.ContentType hint purpose) = (_, refl, (tt, (tt, tt)))
each_event event.InputMethodDone = (_, refl, tt)
each_event event.Unavailable = (_, refl, tt)
each_event (event.TextInputRectangle x y width height) = (_, refl, (tt, (tt, (tt, (tt, tt)))))
each_event (event.Keymap format d size) = (_, refl, (tt, (tt, (tt, tt))))
each_event (event.Key serial time key state) = (_, refl, (tt, (tt, (tt, (tt, tt)))))
each_event (event.Modifiers serial depressed latched locked group) = (_, refl, (tt, (tt, (tt, (tt, (tt, tt))))))
each_event (event.RepeatInfo rate delay) = (_, refl, (tt, (tt, tt)))

pub requests_rise : Rise request_rows
requests_rise Display = rises-increasing (opcodes (request_rows Display)) refl
requests_rise Registry = rises-increasing (opcodes (request_rows Registry)) refl
requests_rise Callback = rises-increasing (opcodes (request_rows Callback)) refl
requests_rise Compositor = rises-increasing (opcodes (request_rows Compositor)) refl
requests_rise Surface = rises-increasing (opcodes (request_rows Surface)) refl
requests_rise Seat = rises-increasing (opcodes (request_rows Seat)) refl
requests_rise TextInputManager = rises-increasing (opcodes (request_rows TextInputManager)) refl
requests_rise TextInput = rises-increasing (opcodes (request_rows TextInput)) refl
requests_rise InputMethodManager = rises-increasing (opcodes (request_rows InputMethodManager)) refl
requests_rise InputMethod = rises-increasing (opcodes (request_rows InputMethod)) refl
requests_rise InputPopupSurface = rises-increasing (opcodes (request_rows InputPopupSurface)) refl
requests_rise KeyboardGrab = rises-increasing (opcodes (request_rows KeyboardGrab)) refl
requests_rise VirtualKeyboardManager = rises-increasing (opcodes (request_rows VirtualKeyboardManager)) refl
requests_rise VirtualKeyboard = rises-increasing (opcodes (request_rows VirtualKeyboard)) refl

pub events_rise : Rise event_rows
events_rise Display = rises-increasing (opcodes (event_rows Display)) refl
events_rise Registry = rises-increasing (opcodes (event_rows Registry)) refl
events_rise Callback = rises-increasing (opcodes (event_rows Callback)) refl
events_rise Compositor = rises-increasing (opcodes (event_rows Compositor)) refl
events_rise Surface = rises-increasing (opcodes (event_rows Surface)) refl
events_rise Seat = rises-increasing (opcodes (event_rows Seat)) refl
events_rise TextInputManager = rises-increasing (opcodes (event_rows TextInputManager)) refl
events_rise TextInput = rises-increasing (opcodes (event_rows TextInput)) refl
events_rise InputMethodManager = rises-increasing (opcodes (event_rows InputMethodManager)) refl
events_rise InputMethod = rises-increasing (opcodes (event_rows InputMethod)) refl
events_rise InputPopupSurface = rises-increasing (opcodes (event_rows InputPopupSurface)) refl
events_rise KeyboardGrab = rises-increasing (opcodes (event_rows KeyboardGrab)) refl
events_rise VirtualKeyboardManager = rises-increasing (opcodes (event_rows VirtualKeyboardManager)) refl
events_rise VirtualKeyboard = rises-increasing (opcodes (event_rows VirtualKeyboard)) refl
