-- Every act: the relay stands for the history with it, and told what it tells.
use Rattle.std.proofs.Common.{◌≡◌, ℕ, ◌+◌, List, [], ◌∷◌, ◌++◌, length, Bool, true, false, None, ap, refl, sym, subst, ◌∙◌}
use Rattle.std.specs.Prelude.{not, if◌then◌else◌}
use Rattle.std.proofs.lemmas.Bool.{true≢false}
use Rattle.relay_model.specs.declared.act.Act.{Act}
use Rattle.relay_model.specs.declared.act.Act.TheVariants as acts
use Rattle.relay_model.specs.Idle.{is_live, cleaned}
use Rattle.relay_model.specs.Activation.{serving}
use Rattle.relay_model.specs.Objects as model
use Rattle.relay_model.specs.Objects.{is_board}
use Rattle.relay_model.specs.Keys.{Keymap, is_refused}
use Rattle.relay_model.specs.Boards.{sends}
use Rattle.relay_model.specs.Told.{to_method, told_by}
use Rattle.relay_model.proofs.ActsOrIdle.{IsHistory}
use Rattle.relay_model.proofs.FocusLaws.{and_left}
use Rattle.relay_core.specs.Machine.{State, counted, field_committed, keyed, route_in, moved, says, after, tells}
use Rattle.relay_objects.specs.Keyboard.{key_told}
use Rattle.relay_core.specs.Popups.{popups_where_holds}
use Rattle.relay_core.specs.Stands.{Stands}
use Rattle.relay_core.proofs.LookUpsFind.{is_key, live_is}
use Rattle.relay_core.proofs.SteadyActsStand.{stands_idle, stands_peer, stands_surface, stands_field, stands_method, stands_request}
use Rattle.relay_core.proofs.CommitsStand.{stands_commit}
use Rattle.relay_core.proofs.EditsStand.{stands_edit, stands_mcommit, string_edits, preedit_edits, delete_edits}
use Rattle.relay_core.proofs.FieldRequestsStand.{enable_asks, disable_asks, surround_asks, cause_asks, content_asks, cursor_asks, plain_enable, plain_disable, plain_surround, plain_cause, plain_content, plain_cursor}
use Rattle.relay_core.proofs.FocusActsStand.{stands_focus, stands_unfocus}
use Rattle.relay_core.proofs.KeyActsStand.{stands_popup, stands_grab, stands_area, stands_screen, stands_key, stands_refused, stands_mods, stands_keymap, stands_repeat, says_grab, says_key, says_refused, says_mods, says_keymap, says_repeat}
use Rattle.relay_core.proofs.SessionActsStand.{IsAside, stands_board_made, vboard_aside, vkeymap_aside, vkey_aside, vmods_aside, registry_aside, sync_aside, seat_aside, thing_aside, bad_aside, stands_thing, stands_aside, says_aside, says_registry, says_sync, says_seat}
use Rattle.relay_core.proofs.PopupsTold.{live_history, says_popup, says_area, says_screen, says_shown}
use Rattle.relay_core.proofs.EndsStand.{stands_drop, stands_gone, and_right}
use Rattle.relay_core.proofs.ActsTell.{says_peer, says_surface, says_field, says_method, says_request, says_edit, says_idle, says_commit, says_drop, says_gone}
use Rattle.relay_core.proofs.MovesAreTold.{says_focus, says_unfocus, says_batch}

stands_moved : (s : State) (log : List Act) (act : Act) → IsHistory log → is_live act log ≡ true → Stands s log →
    Stands (moved act (counted s)) (act ∷ log)
stands_moved s log acts.Peer i l h = stands_peer s log i h
stands_moved s log (acts.Gone p cause) i l h = stands_gone s log p cause i h
stands_moved s log (acts.Surface p) i l h = stands_surface s log p i h
stands_moved s log (acts.Field p) i l h = stands_field s log p i h
stands_moved s log (acts.Method p) i l h = stands_method s log p i h
stands_moved s log (acts.Drop x) i l h = stands_drop s log x i h
stands_moved s log (acts.Focus t) i l h = stands_focus s log t i (and_left _ _ l) h
stands_moved s log acts.Unfocus i l h = stands_unfocus s log i h
stands_moved s log (acts.Enable f) i l h =
    stands_request s log (acts.Enable f) f i (enable_asks f) l (plain_enable f log) h
stands_moved s log (acts.Disable f) i l h =
    stands_request s log (acts.Disable f) f i (disable_asks f) l (plain_disable f log) h
stands_moved s log (acts.Surround f text cursor anchor) i l h =
    stands_request s log (acts.Surround f text cursor anchor) f i
    (surround_asks f text cursor anchor (and_right _ _ (and_left _ _ l)) (and_right _ _ l))
    (and_left _ _ (and_left _ _ l)) (plain_surround f text cursor anchor log) h
stands_moved s log (acts.Cause f cause) i l h =
    stands_request s log (acts.Cause f cause) f i (cause_asks f cause) l (plain_cause f cause log) h
stands_moved s log (acts.Content f hint purpose) i l h =
    stands_request s log (acts.Content f hint purpose) f i (content_asks f hint purpose) l
    (plain_content f hint purpose log) h
stands_moved s log (acts.Cursor f rect) i l h =
    stands_request s log (acts.Cursor f rect) f i (cursor_asks f rect (and_right _ _ l)) (and_left _ _ l)
    (plain_cursor f rect log) h
stands_moved s log (acts.Commit f) i l h = stands_commit s log f i l h
stands_moved s log (acts.MString m text) i l h = stands_edit s log (acts.MString m text) m _ i (string_edits m text) h
stands_moved s log (acts.MPreedit m text begin end) i l h =
    stands_edit s log (acts.MPreedit m text begin end) m _ i (preedit_edits m text begin end) h
stands_moved s log (acts.MDelete m before after) i l h =
    stands_edit s log (acts.MDelete m before after) m _ i (delete_edits m before after) h
stands_moved s log (acts.MCommit m serial) i l h = stands_mcommit s log m serial i h
stands_moved s log (acts.Popup m t) i l h = stands_popup s log m t i h
stands_moved s log (acts.Grab m) i l h = stands_grab s log m i h
stands_moved s log (acts.Area t rect) i l h = stands_area s log t rect i h
stands_moved s log (acts.Screen size) i l h = stands_screen s log size i h
stands_moved s log (acts.Key time key state) i l h = stands_key s log time key state i h
stands_moved s log (acts.Mods mods) i l h = stands_mods s log mods i h
stands_moved s log (acts.Keymap keymap) i l h = stands_keymap s log keymap i h
stands_moved s log (acts.Repeat repeat) i l h = stands_repeat s log repeat i h
stands_moved s log (acts.Registry p role) i l h =
    stands_thing s log (acts.Registry p role) p i (registry_aside p role) refl h
stands_moved s log (acts.Sync p) i l h = stands_aside s log (acts.Sync p) i (sync_aside p) refl h
stands_moved s log (acts.Seat p) i l h = stands_thing s log (acts.Seat p) p i (seat_aside p) refl h
stands_moved s log (acts.Thing p) i l h = stands_thing s log (acts.Thing p) p i (thing_aside p) refl h
stands_moved s log (acts.Bad p fault x) i l h = stands_aside s log (acts.Bad p fault x) i (bad_aside p fault x) refl h
stands_moved s log (acts.VBoard p) i l h = stands_board_made s log p i h
stands_moved s log (acts.VKeymap v keymap) i l h =
    stands_aside s log (acts.VKeymap v keymap) i (vkeymap_aside v keymap) refl h
stands_moved s log (acts.VKey v time key state) i l h =
    stands_aside s log (acts.VKey v time key state) i (vkey_aside v time key state) refl h
stands_moved s log (acts.VMods v mods) i l h = stands_aside s log (acts.VMods v mods) i (vmods_aside v mods) refl h
stands_moved s log (acts.Took p bytes) i l h = absurd (true≢false (sym l))
stands_moved s log acts.Idle i l h = absurd (true≢false (sym l))

stands_by : (s : State) (log : List Act) (act : Act) (c : Bool) → IsHistory log → is_live act log ≡ c → Stands s log →
    Stands (if c then moved act (counted s) else counted s) ((if c then act else acts.Idle) ∷ log)
stands_by s log act true i l h = stands_moved s log act i l h
stands_by s log act false i l h = stands_idle s log i h

stands_other : (s : State) (log : List Act) (act : Act) → IsHistory log → is_key act ≡ false → Stands s log →
    Stands (after act s) (cleaned act log ∷ log)
stands_other s log act i k h =
    subst (λ c. Stands (if c then moved act (counted s) else counted s) (cleaned act log ∷ log))
    (sym (live_is s log act h k))
    (stands_by s log act (is_live act log) i refl h)

-- a key, which may be refused
key_by : (s : State) (log : List Act) (time key state : ℕ) (b : Bool) → IsHistory log → is_refused log key state ≡ b →
    Stands s log →
    Stands (keyed key state (counted s)) ((if not b then acts.Key time key state else acts.Idle) ∷ log)
key_by s log time key state true i r h = stands_refused s log time key state i r h
key_by s log time key state false i r h = stands_key s log time key state i h

-- what a board says, which may be idle and changes nothing here
stands_by_itself : (s : State) (log : List Act) (act : Act) (c : Bool) → IsHistory log → IsAside act →
    model.made act (length log + 1) (model.owner (model.object log (model.maker act))) ≡ None → Stands s log →
    Stands (counted s) ((if c then act else acts.Idle) ∷ log)
stands_by_itself s log act true i k n h = stands_aside s log act i k n h
stands_by_itself s log act false i k n h = stands_idle s log i h

-- the relay stands for the history with the act
pub stands_after : (s : State) (log : List Act) (act : Act) → IsHistory log → Stands s log →
    Stands (after act s) (cleaned act log ∷ log)
stands_after s log (acts.Key time key state) i h = key_by s log time key state (is_refused log key state) i refl h
stands_after s log acts.Peer i h = stands_other s log acts.Peer i refl h
stands_after s log (acts.Gone p cause) i h = stands_other s log (acts.Gone p cause) i refl h
stands_after s log (acts.Surface p) i h = stands_other s log (acts.Surface p) i refl h
stands_after s log (acts.Field p) i h = stands_other s log (acts.Field p) i refl h
stands_after s log (acts.Method p) i h = stands_other s log (acts.Method p) i refl h
stands_after s log (acts.Popup m t) i h = stands_other s log (acts.Popup m t) i refl h
stands_after s log (acts.Grab m) i h = stands_other s log (acts.Grab m) i refl h
stands_after s log (acts.Drop x) i h = stands_other s log (acts.Drop x) i refl h
stands_after s log (acts.Focus t) i h = stands_other s log (acts.Focus t) i refl h
stands_after s log acts.Unfocus i h = stands_other s log acts.Unfocus i refl h
stands_after s log (acts.Area t rect) i h = stands_other s log (acts.Area t rect) i refl h
stands_after s log (acts.Screen size) i h = stands_other s log (acts.Screen size) i refl h
stands_after s log (acts.Enable f) i h = stands_other s log (acts.Enable f) i refl h
stands_after s log (acts.Disable f) i h = stands_other s log (acts.Disable f) i refl h
stands_after s log (acts.Surround f text cursor anchor) i h =
    stands_other s log (acts.Surround f text cursor anchor) i refl h
stands_after s log (acts.Cause f cause) i h = stands_other s log (acts.Cause f cause) i refl h
stands_after s log (acts.Content f hint purpose) i h = stands_other s log (acts.Content f hint purpose) i refl h
stands_after s log (acts.Cursor f rect) i h = stands_other s log (acts.Cursor f rect) i refl h
stands_after s log (acts.Commit f) i h = stands_other s log (acts.Commit f) i refl h
stands_after s log (acts.MString m text) i h = stands_other s log (acts.MString m text) i refl h
stands_after s log (acts.MPreedit m text begin end) i h = stands_other s log (acts.MPreedit m text begin end) i refl h
stands_after s log (acts.MDelete m before after) i h = stands_other s log (acts.MDelete m before after) i refl h
stands_after s log (acts.MCommit m serial) i h = stands_other s log (acts.MCommit m serial) i refl h
stands_after s log (acts.Mods mods) i h = stands_other s log (acts.Mods mods) i refl h
stands_after s log (acts.Keymap keymap) i h = stands_other s log (acts.Keymap keymap) i refl h
stands_after s log (acts.Repeat repeat) i h = stands_other s log (acts.Repeat repeat) i refl h
stands_after s log (acts.Registry p role) i h = stands_other s log (acts.Registry p role) i refl h
stands_after s log (acts.Sync p) i h = stands_other s log (acts.Sync p) i refl h
stands_after s log (acts.Seat p) i h = stands_other s log (acts.Seat p) i refl h
stands_after s log (acts.Thing p) i h = stands_other s log (acts.Thing p) i refl h
stands_after s log (acts.Bad p fault x) i h = stands_other s log (acts.Bad p fault x) i refl h
stands_after s log (acts.VBoard p) i h = stands_other s log (acts.VBoard p) i refl h
stands_after s log (acts.VKeymap v keymap) i h =
    stands_by_itself s log (acts.VKeymap v keymap) (is_board log v) i (vkeymap_aside v keymap) refl h
stands_after s log (acts.VKey v time key state) i h =
    stands_by_itself s log (acts.VKey v time key state) (is_live (acts.VKey v time key state) log) i
    (vkey_aside v time key state) refl h
stands_after s log (acts.VMods v mods) i h =
    stands_by_itself s log (acts.VMods v mods) (sends log v) i (vmods_aside v mods) refl h
stands_after s log (acts.Took p bytes) i h = stands_other s log (acts.Took p bytes) i refl h
stands_after s log acts.Idle i h = stands_other s log acts.Idle i refl h

says_live : (s : State) (log : List Act) (act : Act) → IsHistory log → is_key act ≡ false → is_live act log ≡ true →
    Stands s log →
    says act (counted s) ≡ told_by act log
says_live s log acts.Peer i n l h = says_peer log i
says_live s log (acts.Gone p cause) i n l h = says_gone s log p cause i h
says_live s log (acts.Surface p) i n l h = says_surface log p i
says_live s log (acts.Field p) i n l h = says_field s log p i h
says_live s log (acts.Method p) i n l h = says_method s log p i h
says_live s log (acts.Drop x) i n l h = says_drop s log x i h
says_live s log (acts.Focus t) i n l h = says_focus s log t i (and_left _ _ l) h
says_live s log acts.Unfocus i n l h = says_unfocus s log i h
says_live s log (acts.Enable f) i n l h =
    says_request (acts.Enable f) log f i (enable_asks f) (plain_enable f log) refl refl refl
says_live s log (acts.Disable f) i n l h =
    says_request (acts.Disable f) log f i (disable_asks f) (plain_disable f log) refl refl refl
says_live s log (acts.Surround f text cursor anchor) i n l h =
    says_request (acts.Surround f text cursor anchor) log f i
    (surround_asks f text cursor anchor (and_right _ _ (and_left _ _ l)) (and_right _ _ l))
    (plain_surround f text cursor anchor log) refl refl refl
says_live s log (acts.Cause f cause) i n l h =
    says_request (acts.Cause f cause) log f i (cause_asks f cause) (plain_cause f cause log) refl refl refl
says_live s log (acts.Content f hint purpose) i n l h =
    says_request (acts.Content f hint purpose) log f i (content_asks f hint purpose)
    (plain_content f hint purpose log) refl refl refl
says_live s log (acts.Cursor f rect) i n l h =
    says_request (acts.Cursor f rect) log f i (cursor_asks f rect (and_right _ _ l))
    (plain_cursor f rect log) refl refl refl
says_live s log (acts.Commit f) i n l h =
    ap (λ ts. ts ++ popups_where_holds f (field_committed f (counted s))) (says_commit s log f i l h) ∙
    ap (λ ts. to_method (acts.Commit f) log (serving (acts.Commit f ∷ log)) ++ ts)
    (says_shown (field_committed f (counted s)) log f (live_history (acts.Commit f) log l i)
    (stands_commit s log f i l h))
says_live s log (acts.MString m text) i n l h =
    says_edit (acts.MString m text) log m _ i (string_edits m text) refl refl refl
says_live s log (acts.MPreedit m text begin end) i n l h =
    says_edit (acts.MPreedit m text begin end) log m _ i (preedit_edits m text begin end) refl refl refl
says_live s log (acts.MDelete m before after) i n l h =
    says_edit (acts.MDelete m before after) log m _ i (delete_edits m before after) refl refl refl
says_live s log (acts.MCommit m serial) i n l h = says_batch s log m serial i h
says_live s log (acts.Popup m t) i n l h = says_popup s log m t i l h
says_live s log (acts.Grab m) i n l h = says_grab s log m i h
says_live s log (acts.Area t rect) i n l h = says_area s log t rect i l h
says_live s log (acts.Screen size) i n l h = says_screen s log size i h
says_live s log (acts.Key time key state) i n l h = says_key s log time key state i h
says_live s log (acts.Mods mods) i n l h = says_mods s log mods i h
says_live s log (acts.Keymap keymap) i n l h = says_keymap s log keymap i h
says_live s log (acts.Repeat repeat) i n l h = says_repeat s log repeat i h
says_live s log (acts.Registry p role) i n l h = says_registry s log p role i h
says_live s log (acts.Sync p) i n l h = says_sync s log p i h
says_live s log (acts.Seat p) i n l h = says_seat s log p i h
says_live s log (acts.Thing p) i n l h = says_aside (acts.Thing p) log i (thing_aside p)
says_live s log (acts.Bad p fault x) i n l h = says_aside (acts.Bad p fault x) log i (bad_aside p fault x)
says_live s log (acts.VBoard p) i n l h = says_aside (acts.VBoard p) log i (vboard_aside p)
says_live s log (acts.VKeymap v keymap) i n l h = absurd (true≢false n)
says_live s log (acts.VKey v time key state) i n l h = absurd (true≢false n)
says_live s log (acts.VMods v mods) i n l h = absurd (true≢false n)
says_live s log (acts.Took p bytes) i n l h = absurd (true≢false (sym l))
says_live s log acts.Idle i n l h = absurd (true≢false (sym l))

says_by : (s : State) (log : List Act) (act : Act) (c : Bool) → IsHistory log → is_key act ≡ false →
    is_live act log ≡ c → Stands s log →
    (if c then says act (counted s) else []) ≡ told_by (if c then act else acts.Idle) log
says_by s log act true i n l h = says_live s log act i n l h
says_by s log act false i n l h = says_idle log i

says_other : (s : State) (log : List Act) (act : Act) → IsHistory log → is_key act ≡ false → Stands s log →
    tells act s ≡ told_by (cleaned act log) log
says_other s log act i k h =
    ap (λ c. if c then says act (counted s) else []) (live_is s log act h k)
    ∙ says_by s log act (is_live act log) i k refl h

key_says : (s : State) (log : List Act) (time key state : ℕ) (b : Bool) → IsHistory log → is_refused log key state ≡ b →
    Stands s log →
    key_told (s.acts + 1) time key state (route_in key state (counted s))
    ≡ told_by (if not b then acts.Key time key state else acts.Idle) log
key_says s log time key state true i r h = says_refused s log time key state i r h
key_says s log time key state false i r h = says_key s log time key state i h

-- a keymap of a board, which may be idle
keymap_says : (v : ℕ) (keymap : Keymap) (log : List Act) (c : Bool) → IsHistory log →
    [] ≡ told_by (if c then acts.VKeymap v keymap else acts.Idle) log
keymap_says v keymap log true i = says_aside (acts.VKeymap v keymap) log i (vkeymap_aside v keymap)
keymap_says v keymap log false i = says_idle log i

-- the act sends a board's keys or modifiers
abbrev pub is_sent : Act → Bool
is_sent (acts.VKey v time key state) = true
is_sent (acts.VMods v mods) = true
is_sent _ = false

-- what the relay tells is what the act tells, unless a board sends it
pub says_told : (s : State) (log : List Act) (act : Act) → IsHistory log → is_sent act ≡ false → Stands s log →
    tells act s ≡ told_by (cleaned act log) log
says_told s log (acts.Key time key state) i n h = key_says s log time key state (is_refused log key state) i refl h
says_told s log acts.Peer i n h = says_other s log acts.Peer i refl h
says_told s log (acts.Gone p cause) i n h = says_other s log (acts.Gone p cause) i refl h
says_told s log (acts.Surface p) i n h = says_other s log (acts.Surface p) i refl h
says_told s log (acts.Field p) i n h = says_other s log (acts.Field p) i refl h
says_told s log (acts.Method p) i n h = says_other s log (acts.Method p) i refl h
says_told s log (acts.Popup m t) i n h = says_other s log (acts.Popup m t) i refl h
says_told s log (acts.Grab m) i n h = says_other s log (acts.Grab m) i refl h
says_told s log (acts.Drop x) i n h = says_other s log (acts.Drop x) i refl h
says_told s log (acts.Focus t) i n h = says_other s log (acts.Focus t) i refl h
says_told s log acts.Unfocus i n h = says_other s log acts.Unfocus i refl h
says_told s log (acts.Area t rect) i n h = says_other s log (acts.Area t rect) i refl h
says_told s log (acts.Screen size) i n h = says_other s log (acts.Screen size) i refl h
says_told s log (acts.Enable f) i n h = says_other s log (acts.Enable f) i refl h
says_told s log (acts.Disable f) i n h = says_other s log (acts.Disable f) i refl h
says_told s log (acts.Surround f text cursor anchor) i n h =
    says_other s log (acts.Surround f text cursor anchor) i refl h
says_told s log (acts.Cause f cause) i n h = says_other s log (acts.Cause f cause) i refl h
says_told s log (acts.Content f hint purpose) i n h = says_other s log (acts.Content f hint purpose) i refl h
says_told s log (acts.Cursor f rect) i n h = says_other s log (acts.Cursor f rect) i refl h
says_told s log (acts.Commit f) i n h = says_other s log (acts.Commit f) i refl h
says_told s log (acts.MString m text) i n h = says_other s log (acts.MString m text) i refl h
says_told s log (acts.MPreedit m text begin end) i n h = says_other s log (acts.MPreedit m text begin end) i refl h
says_told s log (acts.MDelete m before after) i n h = says_other s log (acts.MDelete m before after) i refl h
says_told s log (acts.MCommit m serial) i n h = says_other s log (acts.MCommit m serial) i refl h
says_told s log (acts.Mods mods) i n h = says_other s log (acts.Mods mods) i refl h
says_told s log (acts.Keymap keymap) i n h = says_other s log (acts.Keymap keymap) i refl h
says_told s log (acts.Repeat repeat) i n h = says_other s log (acts.Repeat repeat) i refl h
says_told s log (acts.Registry p role) i n h = says_other s log (acts.Registry p role) i refl h
says_told s log (acts.Sync p) i n h = says_other s log (acts.Sync p) i refl h
says_told s log (acts.Seat p) i n h = says_other s log (acts.Seat p) i refl h
says_told s log (acts.Thing p) i n h = says_other s log (acts.Thing p) i refl h
says_told s log (acts.Bad p fault x) i n h = says_other s log (acts.Bad p fault x) i refl h
says_told s log (acts.VBoard p) i n h = says_other s log (acts.VBoard p) i refl h
says_told s log (acts.VKeymap v keymap) i n h = keymap_says v keymap log (is_board log v) i
says_told s log (acts.VKey v time key state) i n h = absurd (true≢false n)
says_told s log (acts.VMods v mods) i n h = absurd (true≢false n)
says_told s log (acts.Took p bytes) i n h = says_other s log (acts.Took p bytes) i refl h
says_told s log acts.Idle i n h = says_other s log acts.Idle i refl h
