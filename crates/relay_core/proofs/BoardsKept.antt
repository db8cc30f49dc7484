-- After each act the boards that the relay keeps are those of the history with it.
use Rattle.std.proofs.Common.{◌≡◌, ℕ, ◌+◌, ◌<◌, List, ◌∷◌, length, Bool, true, false, Option, Some, None, ap, refl, sym, subst, ◌∙◌, arith}
use Rattle.std.specs.Prelude.{◌==◌, ◌&&◌, ◌||◌, not, if◌then◌else◌, is_some}
use Rattle.std.specs.Ordering.{nat_cmp}
use Rattle.std.specs.FinMap as map
use Rattle.std.specs.Option.{option_map}
use Rattle.std.proofs.lemmas.Bool.{eqb-true, true≢false}
use Rattle.relay_model.specs.declared.act.Act.{Act}
use Rattle.relay_model.specs.declared.act.Act.TheVariants as acts
use Rattle.relay_model.specs.declared.act.EndCause.{EndCause}
use Rattle.relay_model.specs.Objects.{Object, Kind, PeerKind, SurfaceKind, FieldKind, MethodKind, ThingKind, BoardKind, PopupKind, GrabKind, is_at, is_same, is_kind, is_board_kind, is_peer_kind, owner, made, made_for, maker, remains, object, alive, peer_of, is_board, is_peer}
use Rattle.relay_model.specs.Focus.{peer_at}
use Rattle.relay_model.specs.Keys.{standing, is_press}
use Rattle.relay_model.specs.Boards.{had_keymap, sends, grab_for, board_refused}
use Rattle.relay_model.specs.Idle.{is_live, cleaned}
use Rattle.relay_model.proofs.ActsOrIdle.{IsHistory}
use Rattle.relay_model.proofs.ObjectLaws.{object_beyond, object_step, object_new, kind_within}
use Rattle.kbd_grab.specs.Keys.Call.{Key}
use Rattle.kbd_grab.specs.Keyboard.{turned_at}
use Rattle.virt_keys.specs.Routes.{of_another, standing_call}
use Rattle.virt_keys.specs.Boards.{Board, new_board, turned, AreDown}
use Rattle.virt_keys.specs.PeerBoards.{unless_of}
use Rattle.virt_keys.proofs.TurnedKeys.{turned_down}
use Rattle.relay_objects.specs.Objects.{find, is_peer_in}
use Rattle.relay_core.specs.State.{State, owner_at}
use Rattle.relay_core.specs.BoardKeys.{Boards, live_board, with_keymap, key_turned, grab_with, grab_in, board_after}
use Rattle.relay_core.specs.BoardsStand.{calls_on, IsKept, KeptAt, BoardsStand}
use Rattle.relay_core.specs.Stands.{Stands}
use Rattle.relay_core.proofs.KeyboardAfterActs.{standing_is}
use Rattle.relay_core.proofs.BoardCalls.{calls_beyond, keymap_beyond, refused_down}
use Rattle.relay_core.proofs.HistoryEntries.{eqb_sym}
use Rattle.relay_core.proofs.LookUpsFind.{finds_peer, owner_at_is}
use Rattle.relay_core.proofs.GrabLaws.{standing_alive}

-- acts that make no board and take no object

abbrev pub makes_board : Act → Bool
makes_board (acts.VBoard p) = true
makes_board _ = false

for_other : (kind : Kind) (whose : Option ℕ) → is_board_kind kind ≡ false →
    is_kind is_board_kind (made_for kind whose) ≡ false
for_other kind None e = refl
for_other kind (Some p) e = e

no_new : (act : Act) (n : ℕ) (whose : Option ℕ) → makes_board act ≡ false →
    is_kind is_board_kind (made act n whose) ≡ false
no_new (acts.VBoard p) n whose e = absurd (true≢false e)
no_new (acts.Popup m s) n whose e = for_other (PopupKind m s) whose refl
no_new (acts.Grab m) n whose e = for_other (GrabKind m) whose refl
no_new _ n whose e = refl

beyond_other : (log : List Act) (v : ℕ) → v ≡ length log + 1 → is_board log v ≡ false
beyond_other log v e = ap (is_kind is_board_kind) (object_beyond log v (omega arith))

none_dropped : (b : Bool) → is_kind is_board_kind (if b then None else None) ≡ false
none_dropped true = refl
none_dropped false = refl

none_left : (act : Act) (v : ℕ) → is_kind is_board_kind (remains act v None) ≡ false
none_left (acts.Drop y) v = none_dropped (y == v)
none_left (acts.Gone p cause) v = refl
none_left _ v = refl

-- what the act leaves of a label
left_at : (act : Act) (log : List Act) (v : ℕ) → makes_board act ≡ false →
    is_board (act ∷ log) v ≡ is_kind is_board_kind (remains act v (object log v))
left_at act log v n = at (v == length log + 1) refl
  where
    at : (c : Bool) → (v == length log + 1) ≡ c →
        is_kind is_board_kind (if c then made act v (owner (object log (maker act))) else remains act v (object log v))
        ≡ is_kind is_board_kind (remains act v (object log v))
    at true e =
        no_new act v (owner (object log (maker act))) n
        ∙ sym (ap (λ o. is_kind is_board_kind (remains act v o))
        (object_beyond log v (let q : v ≡ length log + 1 = eqb-true v (length log + 1) e in omega arith))
        ∙ none_left act v)
    at false e = refl

-- An act that leaves all boards as they are.
pub record LeavesBoards (act : Act) : Type 0 where
  pub keeps : (x : ℕ) (o : Option Object) → remains act x o ≡ o
  pub new : makes_board act ≡ false
  pub had : (log : List Act) (v : ℕ) → had_keymap (act ∷ log) v ≡ had_keymap log v
  pub calls : (log : List Act) (v : ℕ) → calls_on (act ∷ log) v ≡ calls_on log v

board_left : (act : Act) (log : List Act) (v : ℕ) → ((x : ℕ) (o : Option Object) → remains act x o ≡ o) →
    makes_board act ≡ false → is_board (act ∷ log) v ≡ is_board log v
board_left act log v k n = left_at act log v n ∙ ap (is_kind is_board_kind) (k v (object log v))

peer_left : (act : Act) (log : List Act) (v : ℕ) → ((x : ℕ) (o : Option Object) → remains act x o ≡ o) →
    is_board log v ≡ true → peer_of (act ∷ log) v ≡ peer_of log v
peer_left act log v k b = ap owner (object_step act log v (kind_within is_board_kind log v b) ∙ k v (object log v))

left_kept : (act : Act) (log : List Act) (v : ℕ) (o : Option Board) → LeavesBoards act → KeptAt log v o →
    KeptAt (act ∷ log) v o
left_kept act log v None l k = board_left act log v l.keeps l.new ∙ k
left_kept act log v (Some o) l k = record {
  there = board_left act log v l.keeps l.new ∙ k.there;
  peer = peer_left act log v l.keeps k.there ∙ k.peer;
  keymap = k.keymap ∙ sym (l.had log v);
  down = subst (λ cs. AreDown cs o.down) (sym (l.calls log v)) k.down;
}

idle_leaves : LeavesBoards acts.Idle
idle_leaves = record { keeps = λ x o. refl; new = refl; had = λ log v. refl; calls = λ log v. refl }

cleaned_kept : (act : Act) (log : List Act) (v : ℕ) (o : Option Board) (c : Bool) → LeavesBoards act → KeptAt log v o →
    KeptAt ((if c then act else acts.Idle) ∷ log) v o
cleaned_kept act log v o true l k = left_kept act log v o l k
cleaned_kept act log v o false l k = left_kept acts.Idle log v o idle_leaves k

idle_kept : (log : List Act) (v : ℕ) (o : Option Board) → KeptAt log v o → KeptAt (acts.Idle ∷ log) v o
idle_kept log v o k = left_kept acts.Idle log v o idle_leaves k

-- a board

no_keys : (v : ℕ) (log : List Act) → IsHistory log → length log < v → AreDown (calls_on log v) map.empty
no_keys v log i l =
    subst (λ cs. AreDown cs map.empty) (sym (calls_beyond log v i l))
    (record { keys = λ key. map.get-empty nat_cmp key; number = map.len-empty nat_cmp (Option ℕ) })

new_kept : (p v : ℕ) (log : List Act) → IsHistory log → v ≡ length log + 1 →
    IsKept (acts.VBoard p ∷ log) v (new_board p)
new_kept p v log i e =
    let here : object (acts.VBoard p ∷ log) v ≡ Some (record { kind = BoardKind; peer = p }) =
    ap (object (acts.VBoard p ∷ log)) e ∙ object_new (acts.VBoard p) log in
    record {
      there = ap (is_kind is_board_kind) here;
      peer = ap owner here;
      keymap = sym (keymap_beyond log v i (omega arith));
      down = no_keys v log i (omega arith);
    }

other_kept : (p v : ℕ) (log : List Act) (o : Option Board) → (v == length log + 1) ≡ false → KeptAt log v o →
    KeptAt (acts.VBoard p ∷ log) v o
other_kept p v log o e k =
    let same : object (acts.VBoard p ∷ log) v ≡ object log v = rw e refl in
    at o k same
  where
    at : (o : Option Board) → KeptAt log v o → object (acts.VBoard p ∷ log) v ≡ object log v →
        KeptAt (acts.VBoard p ∷ log) v o
    at None k same = ap (is_kind is_board_kind) same ∙ k
    at (Some o) k same = record {
      there = ap (is_kind is_board_kind) same ∙ k.there;
      peer = ap owner same ∙ k.peer;
      keymap = k.keymap;
      down = k.down;
    }

made_by : (p v : ℕ) (log : List Act) (o : Option Board) (live here : Bool) → IsHistory log →
    (length log + 1 == v) ≡ here → KeptAt log v o →
    KeptAt ((if live then acts.VBoard p else acts.Idle) ∷ log) v (if live && here then Some (new_board p) else o)
made_by p v log o true true i e k = new_kept p v log i (sym (eqb-true (length log + 1) v e))
made_by p v log o true false i e k = other_kept p v log o (eqb_sym v (length log + 1) ∙ e) k
made_by p v log o false here i e k = idle_kept log v o k

-- a keymap

keymap_there : (log : List Act) (x v : ℕ) (keymap : _) (c : Bool) → (x == v) ≡ c → (o : Option Board) →
    is_board log x ≡ true → KeptAt log v o →
    KeptAt (acts.VKeymap x keymap ∷ log) v (if c then with_keymap o else o)
keymap_there log x v keymap true e None b k = absurd (true≢false (sym b ∙ ap (is_board log) (eqb-true x v e) ∙ k))
keymap_there log x v keymap false e None b k = board_left (acts.VKeymap x keymap) log v (λ y o. refl) refl ∙ k
keymap_there log x v keymap true e (Some o) b k = record {
  there = board_left (acts.VKeymap x keymap) log v (λ y o. refl) refl ∙ k.there;
  peer = peer_left (acts.VKeymap x keymap) log v (λ y o. refl) k.there ∙ k.peer;
  keymap = sym (ap (λ c. c || had_keymap log v) e);
  down = k.down;
}
keymap_there log x v keymap false e (Some o) b k = record {
  there = board_left (acts.VKeymap x keymap) log v (λ y o. refl) refl ∙ k.there;
  peer = peer_left (acts.VKeymap x keymap) log v (λ y o. refl) k.there ∙ k.peer;
  keymap = k.keymap ∙ sym (ap (λ c. c || had_keymap log v) e);
  down = k.down;
}

keymap_lost : (log : List Act) (x v : ℕ) (c : Bool) → (x == v) ≡ c → (o : Option Board) → is_board log x ≡ false →
    KeptAt log v o →
    KeptAt (acts.Idle ∷ log) v (if c then with_keymap o else o)
keymap_lost log x v true e None b k = idle_kept log v None k
keymap_lost log x v true e (Some o) b k =
    absurd (true≢false (sym k.there ∙ ap (is_board log) (sym (eqb-true x v e)) ∙ b))
keymap_lost log x v false e o b k = idle_kept log v o k

keymap_by : (log : List Act) (x v : ℕ) (keymap : _) (o : Option Board) (live : Bool) → is_board log x ≡ live →
    KeptAt log v o →
    KeptAt ((if live then acts.VKeymap x keymap else acts.Idle) ∷ log) v (if x == v then with_keymap o else o)
keymap_by log x v keymap o true e k = keymap_there log x v keymap (x == v) refl o e k
keymap_by log x v keymap o false e k = keymap_lost log x v (x == v) refl o e k

-- the grab that a board's keys may go to

peer_there : (o : Option Object) → is_some o ≡ true → (p : ℕ) × (owner o ≡ Some p)
peer_there None e = cc
peer_there (Some o) e = (o.peer, refl)

opens_with : (q p : ℕ) (g : ℕ) →
    of_another (Some p) (Some (g, q)) ≡ (if is_same (Some q) (Some p) then None else Some g)
opens_with q p g = ap (λ c. if c then None else Some g) (eqb_sym q p)

opens_at : (log : List Act) (v p : ℕ) (o : Option ℕ) → standing log ≡ o → peer_of log v ≡ Some p →
    of_another (Some p) (grab_with o (peer_at log o)) ≡ (if is_same (peer_at log o) (peer_of log v) then None else o)
opens_at log v p None s e = refl
opens_at log v p (Some g) s e =
    let q : (p : ℕ) × (peer_of log g ≡ Some p) = peer_there (object log g) (standing_alive log g s) in
    ap (λ r. of_another (Some p) (grab_with (Some g) r)) q.1 ∙ opens_with q.0 p g
    ∙ sym (ap (λ r. if is_same r (peer_of log v) then None else Some g) q.1
    ∙ ap (λ r. if is_same (Some q.0) r then None else Some g) e)

grab_is : (s : State) (log : List Act) → Stands s log →
    grab_in s ≡ grab_with (standing log) (peer_at log (standing log))
grab_is s log h =
    ap (λ o. grab_with o (owner_at s.objects o)) (standing_is s log h)
    ∙ ap (grab_with (standing log)) (owner_at_is s log (standing log) h)

pub opens_is : (s : State) (log : List Act) (v p : ℕ) → Stands s log → peer_of log v ≡ Some p →
    of_another (Some p) (grab_in s) ≡ grab_for log v
opens_is s log v p h e = ap (of_another (Some p)) (grab_is s log h) ∙ opens_at log v p (standing log) refl e

first_of : (log : List Act) (o : Option ℕ) → standing log ≡ o → option_map (λ g. g.0) (grab_with o (peer_at log o)) ≡ o
first_of log None s = refl
first_of log (Some g) s =
    let q : (p : ℕ) × (peer_of log g ≡ Some p) = peer_there (object log g) (standing_alive log g s) in
    ap (λ r. option_map (λ g. g.0) (grab_with (Some g) r)) q.1

pub first_is : (s : State) (log : List Act) → Stands s log → option_map (λ g. g.0) (grab_in s) ≡ standing log
first_is s log h =
    ap (λ (o : Option (ℕ × ℕ)). option_map (λ g. g.0) o) (grab_is s log h) ∙ first_of log (standing log) refl

-- a key

and_both : (a b : Bool) → (a && b) ≡ true → (a ≡ true) × (b ≡ true)
and_both true b e = (refl, e)
and_both false b e = cc

key_there : (s : State) (log : List Act) (x v time key state : ℕ) (c : Bool) → (x == v) ≡ c → (o : Option Board) →
    Stands s log → sends log x ≡ true → KeptAt log v o →
    KeptAt (acts.VKey x time key state ∷ log) v (if c then key_turned key (is_press state) (grab_in s) o else o)
key_there s log x v time key state true e None h b k =
    absurd (true≢false (sym (and_both _ _ b).0 ∙ ap (is_board log) (eqb-true x v e) ∙ k))
key_there s log x v time key state false e None h b k =
    board_left (acts.VKey x time key state) log v (λ y o. refl) refl ∙ k
key_there s log x v time key state true e (Some o) h b k =
    let had : o.has_keymap ≡ true = k.keymap ∙ ap (had_keymap log) (sym (eqb-true x v e)) ∙ (and_both _ _ b).1 in
    let act : Act = acts.VKey x time key state in
    let down : AreDown (calls_on (act ∷ log) v)
    (turned_at (map.get o.down key) (of_another (Some o.peer) (grab_in s)) o.down key (is_press state)) =
    subst (λ cs. AreDown cs
    (turned_at (map.get o.down key) (of_another (Some o.peer) (grab_in s)) o.down key (is_press state)))
    (sym (ap (λ c. if c then Key key (is_press state) ∷ standing_call (grab_for log v) ∷ calls_on log v
    else calls_on log v) e))
    (subst (λ g. AreDown (Key key (is_press state) ∷ standing_call (grab_for log v) ∷ calls_on log v)
    (turned_at (map.get o.down key) g o.down key (is_press state)))
    (sym (opens_is s log v o.peer h k.peer))
    (turned_down (calls_on log v) (grab_for log v) o.down key (is_press state) k.down)) in
    let kept : IsKept (act ∷ log) v (turned o key (is_press state) (grab_in s)) = record {
      there = board_left act log v (λ y o. refl) refl ∙ k.there;
      peer = peer_left act log v (λ y o. refl) k.there ∙ k.peer;
      keymap = k.keymap;
      down = down;
    } in
    subst (λ c. IsKept (act ∷ log) v (if c then turned o key (is_press state) (grab_in s) else o)) (sym had) kept
key_there s log x v time key state false e (Some o) h b k = record {
  there = board_left (acts.VKey x time key state) log v (λ y o. refl) refl ∙ k.there;
  peer = peer_left (acts.VKey x time key state) log v (λ y o. refl) k.there ∙ k.peer;
  keymap = k.keymap;
  down = subst (λ cs. AreDown cs o.down)
      (sym (ap (λ c. if c then Key key (is_press state) ∷ standing_call (grab_for log v) ∷ calls_on log v
      else calls_on log v) e)) k.down;
}

-- one that isn't sent, or a press that is refused
same_board : (o : Board) → record o { down = o.down } ≡ o
same_board o = refl

unsent_by : (s : State) (log : List Act) (v key state : ℕ) (o : Board) → IsHistory log → IsKept log v o →
    (c : Bool) → o.has_keymap ≡ c → (c && not (board_refused log v key state)) ≡ false →
    IsKept log v (if c then turned o key (is_press state) (grab_in s) else o)
unsent_by s log v key state o i k false e n = k
unsent_by s log v key state o i k true e n =
    let same : turned_at (map.get o.down key) (of_another (Some o.peer) (grab_in s)) o.down key (is_press state)
    ≡ o.down =
    refused_down log i v key state (of_another (Some o.peer) (grab_in s)) o.down k.down
    (not_false (board_refused log v key state) n) in
    subst (λ d. IsKept log v (record o { down = d })) (sym same) k
  where
    not_false : (b : Bool) → not b ≡ false → b ≡ true
    not_false true e = refl
    not_false false e = cc

key_lost : (s : State) (log : List Act) (x v key state : ℕ) (c : Bool) → (x == v) ≡ c → (o : Option Board) →
    IsHistory log →
    (sends log x && not (board_refused log x key state)) ≡ false → KeptAt log v o →
    KeptAt (acts.Idle ∷ log) v (if c then key_turned key (is_press state) (grab_in s) o else o)
key_lost s log x v key state true e None i n k = idle_kept log v None k
key_lost s log x v key state true e (Some o) i n k =
    let same : v ≡ x = sym (eqb-true x v e) in
    let lost : (o.has_keymap && not (board_refused log v key state)) ≡ false =
    ap (λ c. c && not (board_refused log v key state)) (k.keymap ∙ ap (λ b. b && had_keymap log v) (sym k.there))
    ∙ ap (λ w. sends log w && not (board_refused log w key state)) same ∙ n in
    idle_kept log v (Some (if o.has_keymap then turned o key (is_press state) (grab_in s) else o))
    (unsent_by s log v key state o i k o.has_keymap refl lost)
key_lost s log x v key state false e o i n k = idle_kept log v o k

key_by : (s : State) (log : List Act) (x v time key state : ℕ) (o : Option Board) (live : Bool) → IsHistory log →
    Stands s log →
    (sends log x && not (board_refused log x key state)) ≡ live → KeptAt log v o →
    KeptAt ((if live then acts.VKey x time key state else acts.Idle) ∷ log) v
    (if x == v then key_turned key (is_press state) (grab_in s) o else o)
key_by s log x v time key state o true i h e k =
    key_there s log x v time key state (x == v) refl o h (and_both _ _ e).0 k
key_by s log x v time key state o false i h e k = key_lost s log x v key state (x == v) refl o i e k

-- a drop

drop_other : (log : List Act) (x v : ℕ) (o : Option Board) → (x == v) ≡ false → KeptAt log v o →
    KeptAt (acts.Drop x ∷ log) v o
drop_other log x v None e k =
    left_at (acts.Drop x) log v refl ∙ ap (λ c. is_kind is_board_kind (if c then None else object log v)) e ∙ k
drop_other log x v (Some o) e k = record {
  there = left_at (acts.Drop x) log v refl ∙ ap (λ c. is_kind is_board_kind (if c then None else object log v)) e
      ∙ k.there;
  peer = ap owner (object_step (acts.Drop x) log v (kind_within is_board_kind log v k.there))
      ∙ ap (λ c. owner (if c then None else object log v)) e ∙ k.peer;
  keymap = k.keymap;
  down = k.down;
}

drop_there : (log : List Act) (x v : ℕ) (o : Option Board) (c : Bool) → (x == v) ≡ c → KeptAt log v o →
    KeptAt (acts.Drop x ∷ log) v (if c then None else o)
drop_there log x v o true e k =
    left_at (acts.Drop x) log v refl ∙ ap (λ c. is_kind is_board_kind (if c then None else object log v)) e
drop_there log x v o false e k = drop_other log x v o e k

board_lives : (o : Option Object) → is_kind is_board_kind o ≡ true → (is_some o && not (is_kind is_peer_kind o)) ≡ true
board_lives None e = cc
board_lives (Some o) e = at o.kind e
  where
    at : (k : Kind) → is_board_kind k ≡ true → not (is_peer_kind k) ≡ true
    at BoardKind e = refl
    at PeerKind e = cc
    at SurfaceKind e = cc
    at FieldKind e = cc
    at MethodKind e = cc
    at ThingKind e = cc
    at (PopupKind m s) e = cc
    at (GrabKind m) e = cc

no_board : (o : Option Object) (c : Bool) → is_kind is_board_kind o ≡ c →
    (is_some o && not (is_kind is_peer_kind o)) ≡ false → c ≡ false
no_board o true e n = absurd (true≢false (sym (board_lives o e) ∙ n))
no_board o false e n = refl

drop_lost : (log : List Act) (x v : ℕ) (o : Option Board) (c : Bool) → (x == v) ≡ c →
    (alive log x && not (is_peer log x)) ≡ false → KeptAt log v o →
    KeptAt (acts.Idle ∷ log) v (if c then None else o)
drop_lost log x v o true e n k =
    idle_kept log v None (ap (is_board log) (sym (eqb-true x v e)) ∙ no_board (object log x) (is_board log x) refl n)
drop_lost log x v o false e n k = idle_kept log v o k

drop_by : (log : List Act) (x v : ℕ) (o : Option Board) (live : Bool) → (alive log x && not (is_peer log x)) ≡ live →
    KeptAt log v o →
    KeptAt ((if live then acts.Drop x else acts.Idle) ∷ log) v (if x == v then None else o)
drop_by log x v o true e k = drop_there log x v o (x == v) refl k
drop_by log x v o false e k = drop_lost log x v o (x == v) refl e k

-- the end of a peer

gone_none : (log : List Act) (p v : ℕ) (cause : EndCause) → is_board log v ≡ false →
    is_board (acts.Gone p cause ∷ log) v ≡ false
gone_none log p v cause k = left_at (acts.Gone p cause) log v refl ∙ by (is_at (owner (object log v)) p)
  where
    by : (c : Bool) → is_kind is_board_kind (if c then None else object log v) ≡ false
    by true = refl
    by false = k

gone_some : (log : List Act) (p v : ℕ) (cause : EndCause) (o : Board) (c : Bool) → (o.peer == p) ≡ c → IsKept log v o →
    KeptAt (acts.Gone p cause ∷ log) v (if c then None else Some o)
gone_some log p v cause o true e k =
    left_at (acts.Gone p cause) log v refl
    ∙ ap (λ q. is_kind is_board_kind (if is_at q p then None else object log v)) k.peer
    ∙ ap (λ c. is_kind is_board_kind (if c then None else object log v)) e
gone_some log p v cause o false e k = record {
  there = left_at (acts.Gone p cause) log v refl
      ∙ ap (λ q. is_kind is_board_kind (if is_at q p then None else object log v)) k.peer
      ∙ ap (λ c. is_kind is_board_kind (if c then None else object log v)) e ∙ k.there;
  peer = ap owner (object_step (acts.Gone p cause) log v (kind_within is_board_kind log v k.there))
      ∙ ap (λ q. owner (if is_at q p then None else object log v)) k.peer
      ∙ ap (λ c. owner (if c then None else object log v)) e ∙ k.peer;
  keymap = k.keymap;
  down = k.down;
}

gone_by : (log : List Act) (p v : ℕ) (cause : EndCause) (o : Option Board) (live : Bool) → KeptAt log v o →
    KeptAt ((if live then acts.Gone p cause else acts.Idle) ∷ log) v (if live then unless_of p o else o)
gone_by log p v cause None true k = gone_none log p v cause k
gone_by log p v cause (Some o) true k = gone_some log p v cause o (o.peer == p) refl k
gone_by log p v cause o false k = idle_kept log v o k

-- every act

kept_after : (s : State) (b : Boards) (log : List Act) (act : Act) (v : ℕ) → IsHistory log → Stands s log →
    KeptAt log v (live_board b v) →
    KeptAt (cleaned act log ∷ log) v (board_after act s b v)
kept_after s b log (acts.VBoard p) v i h k =
    subst (λ n. KeptAt (cleaned (acts.VBoard p) log ∷ log) v
    (if is_peer_in (find s.objects p) && (n + 1 == v) then Some (new_board p) else live_board b v)) (sym h.acts_now)
    (subst (λ c. KeptAt (cleaned (acts.VBoard p) log ∷ log) v
    (if c && (length log + 1 == v) then Some (new_board p) else live_board b v)) (sym (finds_peer s log p h))
    (made_by p v log (live_board b v) (is_peer log p) (length log + 1 == v) i refl k))
kept_after s b log (acts.VKeymap x keymap) v i h k = keymap_by log x v keymap (live_board b v) (is_board log x) refl k
kept_after s b log (acts.VKey x time key state) v i h k =
    key_by s log x v time key state (live_board b v) (sends log x && not (board_refused log x key state)) i h refl k
kept_after s b log (acts.Drop x) v i h k = drop_by log x v (live_board b v) (alive log x && not (is_peer log x)) refl k
kept_after s b log (acts.Gone p cause) v i h k =
    subst (λ c. KeptAt (cleaned (acts.Gone p cause) log ∷ log) v
    (if c then unless_of p (live_board b v) else live_board b v)) (sym (finds_peer s log p h))
    (gone_by log p v cause (live_board b v) (is_peer log p) k)
kept_after s b log act v i h k =
    cleaned_kept act log v (live_board b v) (is_live act log)
    (record { keeps = λ x o. refl; new = refl; had = λ log v. refl; calls = λ log v. refl }) k

-- the boards after the act are those of the history with it
pub boards_after : (s : State) (b new : Boards) (log : List Act) (act : Act) → IsHistory log → Stands s log →
    BoardsStand b log →
    ((v : ℕ) → live_board new v ≡ board_after act s b v) → BoardsStand new (cleaned act log ∷ log)
boards_after s b new log act i h k e = record {
  each = λ v. subst (KeptAt (cleaned act log ∷ log) v) (sym (e v)) (kept_after s b log act v i h (k.each v));
}

-- boards of which one more is made ahead are those that they were
pub boards_ahead : (b new : Boards) (log : List Act) (n : ℕ) → n ≡ length log + 1 → BoardsStand b log →
    ((v : ℕ) → live_board new v ≡ (if n == v then None else live_board b v)) → BoardsStand new log
boards_ahead b new log n l k e = record { each = λ v. subst (KeptAt log v) (sym (e v)) (by v (n == v) refl) }
  where
    by : (v : ℕ) (c : Bool) → (n == v) ≡ c → KeptAt log v (if c then None else live_board b v)
    by v true q = beyond_other log v (sym (eqb-true n v q) ∙ l)
    by v false q = k.each v
