-- The tokens that wait for each peer: a message whose row has a descriptor takes the first.
use Rattle.std.specs.Prelude.{ℕ, List, ◌++◌, take, drop, Bool, true, false, ◌==◌, if◌then◌else◌, Option, Some, None}
use Rattle.std.specs.List.{list_any}
use Rattle.wl_proto.specs.declared.interface.Interface.{Interface}
use Rattle.wl_proto.specs.declared.interface.Interface.TheVariants as interface
use Rattle.wl_proto.specs.declared.table.Kind.{Kind}
use Rattle.wl_proto.specs.declared.table.Kind.TheVariants.{Descriptor}
use Rattle.wl_proto.specs.Rows.{request_kinds}
use Rattle.broker_steps.specs.Ranges.{token_limit}
use Rattle.broker_model.specs.declared.journal.Entry.{Entry}
use Rattle.broker_model.specs.declared.journal.Entry.TheVariants as entries
use Rattle.broker_model.specs.Ids.{Made, Joined, Past, peer_at, object_at}

-- the argument is a descriptor
abbrev pub is_descriptor : Kind → Bool
is_descriptor Descriptor = true
is_descriptor _ = false

-- there is a row, and it has a descriptor
abbrev pub has_descriptor : Option (List Kind) → Bool
has_descriptor None = false
has_descriptor (Some kinds) = list_any is_descriptor kinds

-- a request of a board: its keymap
abbrev pub is_board_keymap : Interface → (opcode : ℕ) → Bool
is_board_keymap interface.VirtualKeyboard opcode = opcode == 0
is_board_keymap _ opcode = false

-- the message takes a token: it goes to an object, and its row has a descriptor
abbrev pub takes_token : Option Made → (opcode : ℕ) → Bool
takes_token None opcode = false
takes_token (Some x) opcode = has_descriptor (request_kinds x.interface opcode)

-- what waits without the first, where that is taken
abbrev pub without_taken : Bool → List ℕ → List ℕ
without_taken taken waiting = (if taken then drop 1 waiting else waiting)

-- what waits with more tokens behind; one that comes while 256 wait is dropped
abbrev pub with_tokens : List ℕ → List ℕ → List ℕ
with_tokens waiting tokens = take token_limit (waiting ++ tokens)

-- what waits for each peer, where that of one peer that joined is changed
abbrev pub changed_for : Option Joined → (Joined → List ℕ → List ℕ) → (ℕ → List ℕ) → ℕ → List ℕ
changed_for None change waiting p = waiting p
changed_for (Some peer) change waiting p =
    (if peer.label == p then change peer (waiting p) else waiting p)

-- what waits for each peer after one more entry
abbrev pub waiting_with : Entry → Past → ℕ → List ℕ
waiting_with (entries.Message q id opcode body) past p =
    changed_for (peer_at past q)
    (λ peer. without_taken (takes_token (object_at past peer.label id) opcode)) past.waiting p
waiting_with (entries.Tokens q tokens) past p =
    changed_for (peer_at past q) (λ peer waiting. with_tokens waiting tokens) past.waiting p
waiting_with _ past p = past.waiting p
