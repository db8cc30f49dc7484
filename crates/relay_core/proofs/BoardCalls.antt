-- That the calls on a board make of its keys what a history says, and where they go.
use Rattle.std.proofs.Common.{◌≡◌, ℕ, ◌≤◌, ◌<◌, List, [], ◌∷◌, length, Bool, true, false, Option, Some, None, ap, refl, sym, ◌∙◌, arith}
use Rattle.std.specs.Prelude.{◌==◌, ◌&&◌, ◌||◌, not, nat_lt, if◌then◌else◌}
use Rattle.std.specs.List.{count_by}
use Rattle.std.specs.FinMap as map
use Rattle.std.proofs.lemmas.Bool.{ne_eqb, eqb-true}
use Rattle.kbd_grab.specs.declared.keyboard.Route.TheVariants as routes
use Rattle.kbd_grab.specs.Keys as board
use Rattle.kbd_grab.specs.Keys.{Call}
use Rattle.kbd_grab.specs.Keys.Call.{Key}
use Rattle.kbd_grab.specs.Keyboard.{DownKeys, routed_at, turned_at}
use Rattle.kbd_grab.proofs.KeysCounted.{count_everywhere}
use Rattle.virt_keys.specs.Routes.{standing_call}
use Rattle.virt_keys.specs.Boards.{AreDown}
use Rattle.virt_keys.proofs.TurnedKeys.{route_down}
use Rattle.relay_model.specs.declared.act.Act.{Act}
use Rattle.relay_model.specs.declared.act.Act.TheVariants as acts
use Rattle.relay_model.specs.Objects.{is_board_kind, is_board}
use Rattle.relay_model.specs.Keys.{ToShell, Refused, standing, is_press, with_key, to_standing, as_first}
use Rattle.relay_model.specs.Boards.{had_keymap, sends, grab_for, board_pressed, board_down, board_number, first_on_board, board_went, board_route, board_refused}
use Rattle.relay_model.proofs.ActsOrIdle.{IsHistory, live}
use Rattle.relay_model.proofs.ObjectLaws.{kind_within}
use Rattle.relay_model.proofs.FocusLaws.{and_left, and_false}
use Rattle.relay_core.specs.KeyCalls.{route_of}
use Rattle.relay_core.specs.BoardsStand.{calls_on}
use Rattle.relay_core.proofs.EndsStand.{and_right}
use Rattle.relay_core.proofs.KeyCalls.{first_route}

-- a call that says which grab stands leaves the keys

down_under : (o : Option ℕ) (before : List Call) (key : ℕ) →
    board.is_down (standing_call o ∷ before) key ≡ board.is_down before key
down_under None before key = refl
down_under (Some g) before key = refl

pressed_under : (o : Option ℕ) (before : List Call) →
    board.pressed_keys (standing_call o ∷ before) ≡ board.pressed_keys before
pressed_under None before = refl
pressed_under (Some g) before = refl

went_under : (o : Option ℕ) (before : List Call) (key : ℕ) →
    board.first_went (standing_call o ∷ before) key ≡ board.first_went before key
went_under None before key = refl
went_under (Some g) before key = refl

stands_under : (o : Option ℕ) (before : List Call) → board.grab_standing (standing_call o ∷ before) ≡ o
stands_under None before = refl
stands_under (Some g) before = refl

number_under : (o : Option ℕ) (before : List Call) →
    board.number_down (standing_call o ∷ before) ≡ board.number_down before
number_under None before = refl
number_under (Some g) before = refl

-- the keys that were pressed

press_by : (b : Bool) (key : ℕ) (before : List Call) (keys : List ℕ) → board.pressed_keys before ≡ keys →
    board.pressed_keys (Key key b ∷ before) ≡ (if b then with_key key keys else keys)
press_by true key before keys e = rw e refl
press_by false key before keys e = e

pub pressed_on : (log : List Act) (v : ℕ) → board.pressed_keys (calls_on log v) ≡ board_pressed log v
pressed_on [] v = refl
pressed_on (acts.VKey x time key state ∷ older) v = at (x == v) (pressed_on older v)
  where
    at : (c : Bool) → board.pressed_keys (calls_on older v) ≡ board_pressed older v →
        board.pressed_keys
        (if c then Key key (is_press state) ∷ standing_call (grab_for older v) ∷ calls_on older v else calls_on older v)
        ≡ (if c && is_press state then with_key key (board_pressed older v) else board_pressed older v)
    at true h = press_by (is_press state) key (standing_call (grab_for older v) ∷ calls_on older v)
        (board_pressed older v)
        (pressed_under (grab_for older v) (calls_on older v) ∙ h)
    at false h = h
pressed_on (_ ∷ older) v = pressed_on older v

-- the keys that are down

number_same : (log : List Act) (v : ℕ) → ((key : ℕ) → board.is_down (calls_on log v) key ≡ board_down log v key) →
    board.number_down (calls_on log v) ≡ board_number log v
number_same log v same =
    ap (count_by (board.is_down (calls_on log v))) (pressed_on log v)
    ∙ count_everywhere (board_down log v) (board.is_down (calls_on log v)) same (board_pressed log v)

roomy : (down room : Bool) → not (not down && not room) ≡ true → (down || room) ≡ true
roomy true room h = refl
roomy false true h = refl
roomy false false h = cc

turned_by : (b : Bool) (k key : ℕ) (before : List Call) (older : List Act) (v : ℕ) →
    ((q : ℕ) → board.is_down before q ≡ board_down older v q) →
    board.number_down before ≡ board_number older v →
    not ((b && not (board_down older v k)) && not (nat_lt (board_number older v) 64)) ≡ true →
    board.is_down (Key k b ∷ before) key ≡ (if key == k then b else board_down older v key)
turned_by true k key before older v same number room = at (key == k) refl
  where
    at : (c : Bool) → (key == k) ≡ c →
        (if c then board.is_down before key || nat_lt (board.number_down before) 64 else board.is_down before key)
        ≡ (if c then true else board_down older v key)
    at true e = rw (eqb-true key k e, same k, number)
        (roomy (board_down older v k) (nat_lt (board_number older v) 64) room)
    at false e = same key
turned_by false k key before older v same number room = at (key == k)
  where
    at : (c : Bool) → (if c then false else board.is_down before key) ≡ (if c then false else board_down older v key)
    at true = refl
    at false = same key

-- a key of a history comes from a board that may send it, and is no press that is refused
key_live : (x time key state : ℕ) (older : List Act) → IsHistory (acts.VKey x time key state ∷ older) →
    (sends older x && not (board_refused older x key state)) ≡ true
key_live x time key state older h =
    live (acts.VKey x time key state) older h.0 (λ (d : acts.VKey x time key state ≡ acts.Idle). cc)

pub down_on : (log : List Act) → IsHistory log → (v key : ℕ) → board.is_down (calls_on log v) key ≡ board_down log v key
down_on [] h v key = refl
down_on (acts.VKey x time k state ∷ older) h v key = at (x == v) refl (down_on older h.1 v)
  where
    at : (c : Bool) → (x == v) ≡ c → ((q : ℕ) → board.is_down (calls_on older v) q ≡ board_down older v q) →
        board.is_down
        (if c then Key k (is_press state) ∷ standing_call (grab_for older v) ∷ calls_on older v else calls_on older v)
        key
        ≡ (if c && (key == k) then is_press state else board_down older v key)
    at true e d =
        let same : (q : ℕ) →
        board.is_down (standing_call (grab_for older v) ∷ calls_on older v) q ≡ board_down older v q =
        (λ q. down_under (grab_for older v) (calls_on older v) q ∙ d q) in
        turned_by (is_press state) k key (standing_call (grab_for older v) ∷ calls_on older v) older v same
        (number_under (grab_for older v) (calls_on older v) ∙ number_same older v d)
        (ap (λ w. not (board_refused older w k state)) (sym (eqb-true x v e))
        ∙ and_right _ _ (key_live x time k state older h))
    at false e d = d key
down_on (_ ∷ older) h v key = down_on older h.1 v key

pub number_on : (log : List Act) → IsHistory log → (v : ℕ) → board.number_down (calls_on log v) ≡ board_number log v
number_on log h v = number_same log v (down_on log h v)

-- where the first press went

went_by : (b : Bool) (k key : ℕ) (before : List Call) (o : Option ℕ) (older : List Act) (v : ℕ) →
    board.is_down before key ≡ board_down older v key →
    board.grab_standing before ≡ o → board.first_went before key ≡ board_went older v key →
    board.first_went (Key k b ∷ before) key
    ≡ (if (key == k) && (b && not (board_down older v key)) then o else board_went older v key)
went_by true k key before o older v down stands went = rw (down, stands, went) refl
went_by false k key before o older v down stands went = rw (went, and_false (key == k)) refl

pub went_on : (log : List Act) → IsHistory log → (v key : ℕ) →
    board.first_went (calls_on log v) key ≡ board_went log v key
went_on [] h v key = refl
went_on (acts.VKey x time k state ∷ older) h v key = at (x == v) (went_on older h.1 v key)
  where
    at : (c : Bool) → board.first_went (calls_on older v) key ≡ board_went older v key →
        board.first_went
        (if c then Key k (is_press state) ∷ standing_call (grab_for older v) ∷ calls_on older v else calls_on older v)
        key
        ≡ (if c && (key == k) && first_on_board older v key state then grab_for older v else board_went older v key)
    at true w =
        went_by (is_press state) k key (standing_call (grab_for older v) ∷ calls_on older v) (grab_for older v) older v
        (down_under (grab_for older v) (calls_on older v) key ∙ down_on older h.1 v key)
        (stands_under (grab_for older v) (calls_on older v))
        (went_under (grab_for older v) (calls_on older v) key ∙ w)
    at false w = w
went_on (_ ∷ older) h v key = went_on older h.1 v key

-- a label above the acts has no calls and no keymap

board_low : (older : List Act) (x : ℕ) → is_board older x ≡ true → x ≤ length older
board_low older x e = kind_within is_board_kind older x e

pub calls_beyond : (log : List Act) (v : ℕ) → IsHistory log → length log < v → calls_on log v ≡ []
calls_beyond [] v h l = refl
calls_beyond (acts.VKey x time key state ∷ older) v h l =
    let w : x ≤ length older = board_low older x (and_left _ _ (and_left _ _ (key_live x time key state older h))) in
    ap (λ c. if c then Key key (is_press state) ∷ standing_call (grab_for older v) ∷ calls_on older v
    else calls_on older v) (ne_eqb x v (λ e. omega arith))
    ∙ calls_beyond older v h.1 (omega arith)
calls_beyond (_ ∷ older) v h l = calls_beyond older v h.1 (omega arith)

pub keymap_beyond : (log : List Act) (v : ℕ) → IsHistory log → length log < v → had_keymap log v ≡ false
keymap_beyond [] v h l = refl
keymap_beyond (acts.VKeymap x keymap ∷ older) v h l =
    let w : x ≤ length older =
    board_low older x (live (acts.VKeymap x keymap) older h.0 (λ (d : acts.VKeymap x keymap ≡ acts.Idle). cc)) in
    ap (λ c. c || had_keymap older v) (ne_eqb x v (λ e. omega arith)) ∙ keymap_beyond older v h.1 (omega arith)
keymap_beyond (_ ∷ older) v h l = keymap_beyond older v h.1 (omega arith)

-- where a key goes

opens_route : (o : Option ℕ) → board.to_standing o ≡ route_of (to_standing o)
opens_route None = refl
opens_route (Some g) = refl

route_by : (down pressed room : Bool) (log : List Act) (went opens : Option ℕ) →
    (if down then board.as_first (standing log) went
    else (if not pressed then routes.Pass else (if room then board.to_standing opens else routes.TooMany)))
    ≡ route_of (if down then as_first log went
    else (if not pressed then ToShell else (if room then to_standing opens else Refused)))
route_by true pressed room log went opens = first_route log went
route_by false false room log went opens = refl
route_by false true true log went opens = opens_route opens
route_by false true false log went opens = refl

pub route_on : (log : List Act) → IsHistory log → (v key state : ℕ) (down : DownKeys) → AreDown (calls_on log v) down →
    routed_at (map.get down key) (grab_for log v) (standing log) (map.len down) (is_press state)
    ≡ route_of (board_route log v key state)
route_on log h v key state down a =
    route_down (calls_on log v) down (grab_for log v) (standing log) key (is_press state) a
    ∙ rw (down_on log h v key, went_on log h v key, number_on log h v)
    (route_by (board_down log v key) (is_press state) (nat_lt (board_number log v) 64) log (board_went log v key)
    (grab_for log v))

-- a press that is refused goes nowhere and turns nothing

refused_by : (p d r : Bool) → ((p && not d) && not r) ≡ true → (p ≡ true) × (d ≡ false) × (r ≡ false)
refused_by true false false h = (refl, refl, refl)
refused_by true false true h = cc
refused_by true true r h = cc
refused_by false d r h = cc

pub refused_route : (log : List Act) (v key state : ℕ) → board_refused log v key state ≡ true →
    board_route log v key state ≡ Refused
refused_route log v key state h =
    let k : (is_press state ≡ true) × (board_down log v key ≡ false) × (nat_lt (board_number log v) 64 ≡ false) =
    refused_by (is_press state) (board_down log v key) (nat_lt (board_number log v) 64) h in
    rw (k.1, k.0, k.2) refl

pub refused_down : (log : List Act) → IsHistory log → (v key state : ℕ) (opens : Option ℕ) (down : DownKeys) →
    AreDown (calls_on log v) down →
    board_refused log v key state ≡ true → turned_at (map.get down key) opens down key (is_press state) ≡ down
refused_down log i v key state opens down a h =
    let k : (is_press state ≡ true) × (board_down log v key ≡ false) × (nat_lt (board_number log v) 64 ≡ false) =
    refused_by (is_press state) (board_down log v key) (nat_lt (board_number log v) 64) h in
    let up : map.get down key ≡ None =
    a.keys key ∙ ap (λ b. if b then Some (board.first_went (calls_on log v) key) else None)
    (down_on log i v key ∙ k.1) in
    let full : nat_lt (map.len down) 64 ≡ false = ap (λ n. nat_lt n 64) (a.number ∙ number_on log i v) ∙ k.2 in
    ap (λ o. turned_at o opens down key (is_press state)) up ∙ ap (turned_at None opens down key) k.0 ∙
    ap (λ b. if b then map.insert down key opens else down) full
