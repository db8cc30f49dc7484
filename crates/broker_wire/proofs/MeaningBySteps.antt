-- Steps from a table's look-up to what a message means.
use Rattle.std.proofs.Common.{◌≡◌, ℕ, List, Bool, Option, Some, None, Result, Ok, refl, false, sym, ap, ◌∙◌}
use Rattle.std.specs.Prelude.{option_map}
use Rattle.wl_proto.specs.declared.interface.Interface.{Interface}
use Rattle.wl_proto.specs.declared.refuse.Refuse.{Refuse}
use Rattle.wl_proto.specs.declared.request.Request.{Request}
use Rattle.wl_proto.specs.declared.request.Request.TheVariants as request
use Rattle.wl_proto.specs.Rows.{Message}
use Rattle.broker_model.specs.Waiting.{takes_token}
use Rattle.wl_proto.specs.Reading.{request_reading}
use Rattle.relay_model.specs.Objects.{has_popup}
use Rattle.relay_model.specs.Boards.{sends}
use Rattle.broker_model.specs.Ids.{Made, Joined, Past, log_of}
use Rattle.broker_model.specs.Refusals.{request_fault}
use Rattle.broker_model.specs.Resolve.{label_at, of_request, of_reading, of_message}
use Rattle.broker_wire.specs.Asked.{SaysPopup, SaysKeymap, IsSurface}

abbrev pub entry : Made → Interface × ℕ
entry m = (m.interface, m.label)

pub says_popup : (past : Past) (at : ℕ → ℕ) (r : Request) (label : ℕ) (taken : Bool) → IsSurface at r label →
    taken ≡ has_popup (log_of past) label → SaysPopup past at r taken
says_popup past at (request.GetInputPopupSurface id surface) label taken s e = e ∙ ap (has_popup (log_of past)) (sym s)
says_popup past at _ label taken s e = tt

pub says_keymap : (past : Past) (x : ℕ) (r : Request) (has : Bool) → has ≡ sends (log_of past) x →
    SaysKeymap past x r has
says_keymap past x (request.Key time key state) has e = e
says_keymap past x (request.Modifiers depressed latched locked group) has e = e
says_keymap past x _ has e = tt

-- whether the message takes a token, by what the table has under the id
pub takes_none : (o : Option Made) (opcode : ℕ) → None ≡ option_map entry o → false ≡ takes_token o opcode
takes_none None opcode e = refl
takes_none (Some made) opcode e = absurd cc

pub message_read : (past : Past) (n : ℕ) (peer : Joined) (opcode : ℕ) (body : List ℕ) (o : Option Made) (i : Interface)
    (x : ℕ) (m : Message) →
    Some (i, x) ≡ option_map entry o → request_reading i opcode (past.waiting peer.label) body ≡ Ok m →
    of_message past n peer opcode body o
    ≡ of_request past n peer x m (request_fault past peer.label x peer.role (label_at past peer.label) m)
message_read past n peer opcode body None i x m e r = absurd cc
message_read past n peer opcode body (Some made) i x m e r =
    let same : (i, x) ≡ entry made = cc in
    let interface-is : made.interface ≡ i = ap (λ (u : Interface × ℕ). u.0) (sym same) in
    let label-is : made.label ≡ x = ap (λ (u : Interface × ℕ). u.1) (sym same) in
    ap (λ (j : Interface). of_reading past n peer made.label (request_reading j opcode (past.waiting peer.label) body))
    interface-is
    ∙ ap (λ (y : ℕ). of_reading past n peer y (request_reading i opcode (past.waiting peer.label) body)) label-is
    ∙ ap (λ (q : Result Message Refuse). of_reading past n peer x q) r
