-- What boards send is told where the definitions say.
use Rattle.std.proofs.Common.{◌≡◌, ℕ, ◌+◌, List, [], ◌++◌, append-nil, length, Bool, true, false, Option, Some, None, ap, refl, sym, ◌∙◌}
use Rattle.std.specs.Prelude.{◌&&◌, not, if◌then◌else◌}
use Rattle.std.specs.FinMap as map
use Rattle.std.specs.Option.{option_map}
use Rattle.std.proofs.lemmas.Bool.{true≢false}
use Rattle.relay_model.specs.declared.act.Act.{Act}
use Rattle.relay_model.specs.declared.act.Act.TheVariants as acts
use Rattle.relay_model.specs.Keys.{Mods, is_press}
use Rattle.relay_model.specs.Boards.{had_keymap, sends, grab_for, board_route, board_refused}
use Rattle.relay_model.specs.Idle.{cleaned}
use Rattle.relay_model.specs.Told.{board_mods_told as mods_said, told_by}
use Rattle.relay_model.proofs.ActsOrIdle.{IsHistory}
use Rattle.kbd_grab.specs.declared.keyboard.Route.{Route}
use Rattle.kbd_grab.specs.Keys as board
use Rattle.kbd_grab.specs.Keyboard.{routed_at}
use Rattle.virt_keys.specs.Boards.{Board, routed, mods_routed}
use Rattle.relay_objects.specs.Keyboard.{key_told, board_mods_told}
use Rattle.relay_core.specs.KeyCalls.{route_of}
use Rattle.relay_core.specs.Machine.{State, tells}
use Rattle.relay_core.specs.BoardKeys.{Boards, live_board, may_send, key_sent, mods_sent, grab_in, sent_by, sent_told}
use Rattle.relay_core.specs.BoardsStand.{IsKept, KeptAt, BoardsStand}
use Rattle.relay_core.specs.Stands.{Stands}
use Rattle.relay_core.proofs.SessionActsStand.{vkey_aside, vmods_aside, says_aside}
use Rattle.relay_core.proofs.BoardCalls.{route_on, refused_route}
use Rattle.relay_core.proofs.BoardsKept.{opens_is, first_is}
use Rattle.relay_core.proofs.KeyActsStand.{key_route_told}
use Rattle.relay_core.proofs.ActsTell.{says_idle}
use Rattle.relay_core.proofs.EveryActStands.{is_sent, says_told}

-- the relay knows which boards may send
pub sends_by : (log : List Act) (v : ℕ) (o : Option Board) → KeptAt log v o → may_send o ≡ sends log v
sends_by log v None k = sym (ap (λ b. b && had_keymap log v) k)
sends_by log v (Some o) k = k.keymap ∙ sym (ap (λ b. b && had_keymap log v) k.there)

-- where the relay lets a board's key go is where the definitions do
pub routed_is : (s : State) (log : List Act) (v key state : ℕ) (o : Board) → IsHistory log → Stands s log →
    IsKept log v o →
    routed o key (is_press state) (grab_in s) ≡ route_of (board_route log v key state)
routed_is s log v key state o i h k =
    ap (λ g. routed_at (map.get o.down key) g (option_map (λ g. g.0) (grab_in s)) (map.len o.down) (is_press state))
    (opens_is s log v o.peer h k.peer)
    ∙ ap (λ g. routed_at (map.get o.down key) (grab_for log v) g (map.len o.down) (is_press state)) (first_is s log h)
    ∙ route_on log i v key state o.down k.down

-- a key

key_tells : (n v time key state : ℕ) (log : List Act) (route : Route) (c : Bool) → IsHistory log → n ≡ length log + 1 →
    route ≡ route_of (board_route log v key state) →
    (sends log v && not (board_refused log v key state)) ≡ c → sends log v ≡ true →
    key_told n time key state route ≡ told_by (if c then acts.VKey v time key state else acts.Idle) log
key_tells n v time key state log route true i e r l q =
    ap (λ n. key_told n time key state route) e ∙ ap (key_told (length log + 1) time key state) r
    ∙ key_route_told (length log + 1) time key state (board_route log v key state)
    ∙ says_aside (acts.VKey v time key state) log i (vkey_aside v time key state)
key_tells n v time key state log route false i e r l q =
    ap (key_told n time key state)
    (r ∙ ap route_of
    (refused_route log v key state
    (refused (board_refused log v key state) (ap (λ b. b && not (board_refused log v key state)) (sym q) ∙ l))))
    ∙ says_idle log i
  where
    refused : (b : Bool) → (true && not b) ≡ false → b ≡ true
    refused true e = refl
    refused false e = cc

unsent : (log : List Act) (v time key state : ℕ) → IsHistory log → sends log v ≡ false →
    [] ≡ told_by
    (if sends log v && not (board_refused log v key state) then acts.VKey v time key state else acts.Idle) log
unsent log v time key state i e =
    says_idle log i
    ∙ sym (ap (λ b. told_by
    (if b && not (board_refused log v key state) then acts.VKey v time key state else acts.Idle) log) e)

key_at : (s : State) (log : List Act) (n v time key state : ℕ) (o : Option Board) (c : Bool) → IsHistory log →
    Stands s log → n ≡ length log + 1 → may_send o ≡ c → KeptAt log v o →
    sent_told (acts.VKey v time key state) n (key_sent key (is_press state) (grab_in s) o)
    ≡ told_by (if sends log v && not (board_refused log v key state) then acts.VKey v time key state else acts.Idle) log
key_at s log n v time key state None c i h e m k = unsent log v time key state i (sym (sends_by log v None k))
key_at s log n v time key state (Some o) true i h e m k =
    ap (λ b. sent_told (acts.VKey v time key state) n
    (if b then Some (routed o key (is_press state) (grab_in s)) else None)) m
    ∙ key_tells n v time key state log (routed o key (is_press state) (grab_in s))
    (sends log v && not (board_refused log v key state)) i e
    (routed_is s log v key state o i h k) refl (sym (sends_by log v (Some o) k) ∙ m)
key_at s log n v time key state (Some o) false i h e m k =
    ap (λ b. sent_told (acts.VKey v time key state) n
    (if b then Some (routed o key (is_press state) (grab_in s)) else None)) m
    ∙ unsent log v time key state i (sym (sends_by log v (Some o) k) ∙ m)

-- modifiers

mods_tell : (n : ℕ) (mods : Mods) (o : Option ℕ) → board_mods_told n mods (board.to_standing o) ≡ mods_said n mods o
mods_tell n mods None = refl
mods_tell n mods (Some g) = refl

mods_at : (s : State) (log : List Act) (n v : ℕ) (mods : Mods) (o : Option Board) (c : Bool) → IsHistory log →
    Stands s log → n ≡ length log + 1 → may_send o ≡ c → KeptAt log v o →
    sent_told (acts.VMods v mods) n (mods_sent (grab_in s) o)
    ≡ told_by (if sends log v then acts.VMods v mods else acts.Idle) log
mods_at s log n v mods None c i h e m k =
    says_idle log i
    ∙ sym (ap (λ b. told_by (if b then acts.VMods v mods else acts.Idle) log) (sym (sends_by log v None k)))
mods_at s log n v mods (Some o) true i h e m k =
    ap (λ b. sent_told (acts.VMods v mods) n (if b then Some (mods_routed o (grab_in s)) else None)) m
    ∙ ap (λ g. board_mods_told n mods (board.to_standing g)) (opens_is s log v o.peer h k.peer)
    ∙ mods_tell n mods (grab_for log v)
    ∙ ap (λ n. mods_said n mods (grab_for log v)) e
    ∙ says_aside (acts.VMods v mods) log i (vmods_aside v mods)
    ∙ sym (ap (λ b. told_by (if b then acts.VMods v mods else acts.Idle) log) (sym (sends_by log v (Some o) k) ∙ m))
mods_at s log n v mods (Some o) false i h e m k =
    ap (λ b. sent_told (acts.VMods v mods) n (if b then Some (mods_routed o (grab_in s)) else None)) m
    ∙ says_idle log i
    ∙ sym (ap (λ b. told_by (if b then acts.VMods v mods else acts.Idle) log) (sym (sends_by log v (Some o) k) ∙ m))

-- every act

pub unsent_tells : (s : State) (b : Boards) (log : List Act) (act : Act) → is_sent act ≡ false →
    sent_told act (s.acts + 1) (sent_by act s b) ≡ []
unsent_tells s b log (acts.VKey v time key state) n = absurd (true≢false n)
unsent_tells s b log (acts.VMods v mods) n = absurd (true≢false n)
unsent_tells s b log _ n = refl

other_tells : (s : State) (b : Boards) (log : List Act) (act : Act) → IsHistory log → is_sent act ≡ false →
    Stands s log →
    tells act s ++ sent_told act (s.acts + 1) (sent_by act s b) ≡ told_by (cleaned act log) log
other_tells s b log act i n h =
    ap (λ ts. tells act s ++ ts) (unsent_tells s b log act n) ∙ append-nil (tells act s) ∙ says_told s log act i n h

all_by : (s : State) (b : Boards) (log : List Act) (act : Act) (c : Bool) → is_sent act ≡ c → IsHistory log →
    Stands s log → BoardsStand b log →
    tells act s ++ sent_told act (s.acts + 1) (sent_by act s b) ≡ told_by (cleaned act log) log
all_by s b log (acts.VKey v time key state) true n i h k =
    key_at s log (s.acts + 1) v time key state (live_board b v) (may_send (live_board b v)) i h
    (ap (λ n. n + 1) h.acts_now) refl (k.each v)
all_by s b log (acts.VMods v mods) true n i h k =
    mods_at s log (s.acts + 1) v mods (live_board b v) (may_send (live_board b v)) i h (ap (λ n. n + 1) h.acts_now) refl
    (k.each v)
all_by s b log act true n i h k = absurd (true≢false (sym n))
all_by s b log act false n i h k = other_tells s b log act i n h

-- what the relay tells is what the act tells
pub all_told : (s : State) (b : Boards) (log : List Act) (act : Act) → IsHistory log → Stands s log →
    BoardsStand b log →
    tells act s ++ sent_told act (s.acts + 1) (sent_by act s b) ≡ told_by (cleaned act log) log
all_told s b log act i h k = all_by s b log act (is_sent act) refl i h k
