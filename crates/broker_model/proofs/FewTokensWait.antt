-- At most 256 tokens wait for a peer, and of all requests the keymap of a board alone takes one.
use Rattle.std.proofs.Common.{◌≡◌, ℕ, ◌≤◌, List, [], ◌∷◌, ◌++◌, length, Bool, true, false, Option, Some, None, refl, sym, ◌∙◌, arith, drop}
use Rattle.std.specs.Prelude.{◌==◌, if◌then◌else◌}
use Rattle.std.specs.List.{find, list_any}
use Rattle.std.proofs.lemmas.List.{length-take, length-drop}
use Rattle.std.specs.Option.{option_map}
use Rattle.wl_proto.specs.declared.interface.Interface.{Interface}
use Rattle.wl_proto.specs.declared.interface.Interface.TheVariants as interface
use Rattle.wl_proto.specs.declared.table.Sig.{Sig}
use Rattle.wl_proto.specs.declared.table.Kind.TheVariants as kind
use Rattle.wl_proto.specs.declared.table.TheConstants.{VIRTUAL_KEYBOARD_REQUESTS}
use Rattle.std.proofs.lemmas.Bool.{eqb-true, eqb-false, eq-eqb, ne_eqb}
use Rattle.wl_proto.specs.Tables.{row, kinds_in}
use Rattle.wl_proto.specs.Rows.{request_rows, request_kinds}
use Rattle.broker_model.specs.declared.journal.Entry.{Entry}
use Rattle.broker_model.specs.declared.journal.Entry.TheVariants as entries
use Rattle.broker_model.specs.Ids.{Joined, Past, peer_at, object_at}
use Rattle.broker_model.specs.Resolve.{past_of}
use Rattle.broker_model.specs.Waiting.{is_descriptor, has_descriptor, is_board_keymap, takes_token, without_taken, with_tokens, changed_for, waiting_with}

-- the rows have no descriptor
abbrev AreFree : List Sig → Type 0
AreFree [] = Unit {0}
AreFree (s ∷ rows) = (list_any is_descriptor (kinds_in s.kinds) ≡ false) × AreFree rows

free_by : (opcode : ℕ) (s : Sig) (o : Option Sig) (b : Bool) → list_any is_descriptor (kinds_in s.kinds) ≡ false →
    has_descriptor (option_map (λ (s : Sig). kinds_in s.kinds) o) ≡ false →
    has_descriptor (option_map (λ (s : Sig). kinds_in s.kinds) (if b then Some s else o)) ≡ false
free_by opcode s o true h k = h
free_by opcode s o false h k = k

free_row : (opcode : ℕ) (rows : List Sig) → AreFree rows → has_descriptor (row opcode rows) ≡ false
free_row opcode [] h = refl
free_row opcode (s ∷ rows) h =
    free_by opcode s (find (λ (s : Sig). s.opcode == opcode) rows) (s.opcode == opcode) h.0 (free_row opcode rows h.1)

-- of the keymap's row the rest has none
keymap_by : (opcode : ℕ) (first : Bool) (rest : Option Sig) →
    has_descriptor (option_map (λ (s : Sig). kinds_in s.kinds) rest) ≡ false →
    (0 == opcode) ≡ first →
    has_descriptor
    (option_map (λ (s : Sig). kinds_in s.kinds)
    (if first then Some
    (record { opcode = 0; kinds = Some kind.Uint ∷ Some kind.Descriptor ∷ Some kind.Uint ∷ None ∷ None ∷ [] })
    else rest))
    ≡ (opcode == 0)
keymap_by opcode true rest h e = sym (eq-eqb opcode 0 (sym (eqb-true 0 opcode e)))
keymap_by opcode false rest h e = h ∙ sym (ne_eqb opcode 0 (λ z. eqb-false 0 opcode e (sym z)))

-- the rows without a descriptor
abbrev board_rest : List Sig
board_rest = drop 1 VIRTUAL_KEYBOARD_REQUESTS.rows

-- of all requests a board's keymap alone has a descriptor
pub keymaps_take : (i : Interface) (opcode : ℕ) → has_descriptor (request_kinds i opcode) ≡ is_board_keymap i opcode
keymaps_take interface.VirtualKeyboard opcode =
    keymap_by opcode (0 == opcode) (find (λ (s : Sig). s.opcode == opcode) board_rest)
    (free_row opcode board_rest (refl, (refl, (refl, tt)))) refl
keymaps_take interface.Display opcode = free_row opcode (request_rows interface.Display) (refl, (refl, tt))
keymaps_take interface.Registry opcode = free_row opcode (request_rows interface.Registry) (refl, tt)
keymaps_take interface.Callback opcode = free_row opcode (request_rows interface.Callback) tt
keymaps_take interface.Compositor opcode = free_row opcode (request_rows interface.Compositor) (refl, tt)
keymaps_take interface.Surface opcode = free_row opcode (request_rows interface.Surface) (refl, (refl, (refl, tt)))
keymaps_take interface.Seat opcode = free_row opcode (request_rows interface.Seat) (refl, (refl, (refl, tt)))
keymaps_take interface.TextInputManager opcode =
    free_row opcode (request_rows interface.TextInputManager) (refl, (refl, tt))
keymaps_take interface.TextInput opcode =
    free_row opcode (request_rows interface.TextInput)
    (refl, (refl, (refl, (refl, (refl, (refl, (refl, (refl, tt))))))))
keymaps_take interface.InputMethodManager opcode =
    free_row opcode (request_rows interface.InputMethodManager) (refl, (refl, tt))
keymaps_take interface.InputMethod opcode =
    free_row opcode (request_rows interface.InputMethod) (refl, (refl, (refl, (refl, (refl, (refl, (refl, tt)))))))
keymaps_take interface.InputPopupSurface opcode = free_row opcode (request_rows interface.InputPopupSurface) (refl, tt)
keymaps_take interface.KeyboardGrab opcode = free_row opcode (request_rows interface.KeyboardGrab) (refl, tt)
keymaps_take interface.VirtualKeyboardManager opcode =
    free_row opcode (request_rows interface.VirtualKeyboardManager) (refl, tt)

-- no more wait after a change than 256

few_taken : (b : Bool) (waiting : List ℕ) → length waiting ≤ 256 → length (without_taken b waiting) ≤ 256
few_taken true waiting h = let d = length-drop 1 waiting in omega arith
few_taken false waiting h = h

few_tokens : (waiting tokens : List ℕ) → length (with_tokens waiting tokens) ≤ 256
few_tokens waiting tokens = let t = length-take 256 (waiting ++ tokens) in grind (arith, t)

few_changed : (o : Option Joined) (change : Joined → List ℕ → List ℕ) (waiting : ℕ → List ℕ) (p : ℕ) →
    ((peer : Joined) → length (change peer (waiting p)) ≤ 256) → length (waiting p) ≤ 256 →
    length (changed_for o change waiting p) ≤ 256
few_changed None change waiting p f h = h
few_changed (Some peer) change waiting p f h = by (peer.label == p)
  where
    by : (b : Bool) → length (if b then change peer (waiting p) else waiting p) ≤ 256
    by true = f peer
    by false = h

few_with : (e : Entry) (past : Past) (p : ℕ) → length (past.waiting p) ≤ 256 → length (waiting_with e past p) ≤ 256
few_with (entries.Message q id opcode body) past p h =
    few_changed (peer_at past q)
    (λ peer. without_taken (takes_token (object_at past peer.label id) opcode)) past.waiting p
    (λ peer. few_taken (takes_token (object_at past peer.label id) opcode) (past.waiting p) h) h
few_with (entries.Tokens q tokens) past p h =
    few_changed (peer_at past q) (λ peer waiting. with_tokens waiting tokens) past.waiting p
    (λ peer. few_tokens (past.waiting p) tokens) h
few_with (entries.Join role) past p h = h
few_with (entries.BadSize q head) past p h = h
few_with (entries.End q why) past p h = h
few_with (entries.Shell step) past p h = h
few_with (entries.Took q bytes) past p h = h

pub few_wait : (journal : List Entry) (p : ℕ) → length ((past_of journal).waiting p) ≤ 256
few_wait [] p = omega arith
few_wait (e ∷ older) p = few_with e (past_of older) p (few_wait older p)
