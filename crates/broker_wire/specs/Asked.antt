-- What is said beside a request or a step of the shell: its surface's label, whether that has a
-- popup, its text.
use Rattle.std.specs.Prelude.{◌≡◌, ℕ, Bool, Option, IsTrue}
use Rattle.wl_wire.specs.Texts.{has_no_zero}
use Rattle.wl_proto.specs.declared.request.Request.{Request}
use Rattle.wl_proto.specs.declared.request.Request.TheVariants as request
use Rattle.relay_model.specs.Objects.{has_popup}
use Rattle.relay_model.specs.Boards.{sends}
use Rattle.broker_model.specs.ShellStep.{ShellStep}
use Rattle.broker_model.specs.ShellStep.TheVariants as shell
use Rattle.broker_wire.specs.declared.requests.Argument as declared
use Rattle.broker_model.specs.Ids.{Past, log_of, peer_at}
use Rattle.broker_model.specs.Requests.{Argument, argument}
use Rattle.broker_model.specs.Resolve.{surface_at}

-- the same argument
abbrev pub asked : declared.Argument → Argument
asked a = argument a.interface a.id

-- where a popup is asked for, it says whether a live popup has the surface
abbrev pub SaysPopup : Past → (ℕ → ℕ) → Request → Bool → Type 0
SaysPopup past at (request.GetInputPopupSurface id surface) taken =
    taken ≡ has_popup (log_of past) (at surface)
SaysPopup past at _ taken = Unit {0}

-- where a board sends a key or modifiers, it says whether the board x has had a keymap
abbrev pub SaysKeymap : Past → (x : ℕ) → Request → Bool → Type 0
SaysKeymap past x (request.Key time key state) has = has ≡ sends (log_of past) x
SaysKeymap past x (request.Modifiers depressed latched locked group) has =
    has ≡ sends (log_of past) x
SaysKeymap past x _ has = Unit {0}

-- where a popup is asked for, it is the label of the surface
abbrev pub IsSurface : (ℕ → ℕ) → Request → ℕ → Type 0
IsSurface at (request.GetInputPopupSurface id surface) label = at surface ≡ label
IsSurface at _ label = Unit {0}

-- the text of the request that an act copies has no zero byte
abbrev pub HasText : Request → Type 0
HasText (request.SetSurroundingText text cursor anchor) = IsTrue (has_no_zero text.now)
HasText (request.CommitString text) = IsTrue (has_no_zero text.now)
HasText (request.SetPreeditString text begin end) = IsTrue (has_no_zero text.now)
HasText _ = Unit {0}

-- where the step names a surface, it is the label of the surface if that is alive
abbrev pub IsNamed : Past → ShellStep → Option ℕ → Type 0
IsNamed past (shell.Focus q id) label = surface_at past (peer_at past q) id ≡ label
IsNamed past (shell.Area q id rect) label = surface_at past (peer_at past q) id ≡ label
IsNamed past _ label = Unit {0}
