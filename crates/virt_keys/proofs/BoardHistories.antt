-- the boards after one more call
use Rattle.std.proofs.Common.{◌≡◌, ℕ, List, [], ◌∷◌, Bool, true, false, cond, not, ◌||◌, Option, Some, None, refl, sym, ◌∙◌, ap, subst}
use Rattle.std.specs.Prelude.{◌==◌, ◌&&◌, if◌then◌else◌}
use Rattle.std.specs.Option.{option_map}
use Rattle.std.specs.Ordering.{nat_cmp}
use Rattle.std.specs.FinMap as map
use Rattle.std.proofs.lemmas.Bool.{eqb-true, cond-true, cond-false}
use Rattle.kbd_grab.specs.declared.keyboard.Route.{Route}
use Rattle.kbd_grab.specs.Keyboard.{routed_at, refused_at}
use Rattle.kbd_grab.specs.Keys as keyboard
use Rattle.kbd_grab.specs.Keys.{to_standing}
use Rattle.virt_keys.specs.Routes.{Call, peer_of, had_keymap, is_of, of_another, own_calls, key_route, mods_route, standing_call, is_refused}
use Rattle.virt_keys.specs.Routes.Call.{Make, Drop, Keymap, Key, Gone}
use Rattle.virt_keys.specs.Boards.{Board, Boards, StandsFor, IsAfter, IsMade, IsNone, AreDown, keymap_at, takes_at, new_board, routed, turned, mods_routed}
use Rattle.virt_keys.specs.PeerBoards.{unless_of}
use Rattle.virt_keys.proofs.BoardTree.{after_insert, after_remove}
use Rattle.virt_keys.proofs.TurnedKeys.{turned_down, route_down, refused_down}

-- of the board with this label both histories say the same
record SameAt (newer older : List Call) (label : ℕ) : Type 0 where
  peer : peer_of newer label ≡ peer_of older label
  keymap : had_keymap newer label ≡ had_keymap older label
  own : own_calls newer label ≡ own_calls older label

down_same : (newer older : List keyboard.Call) (board : Board) → newer ≡ older → AreDown older board.down
    → AreDown newer board.down
down_same newer older board e a = subst (λ (calls : List keyboard.Call). AreDown calls board.down) (sym e) a

kept : (newer older : List Call) (label : ℕ) → SameAt newer older label → (o : Option Board)
    → IsAfter older label o → IsAfter newer label o
kept newer older label same None s =
    record { peer = same.peer ∙ s.peer; keymap = same.keymap ∙ s.keymap; down = same.own ∙ s.down }
kept newer older label same (Some board) s = record {
  peer = same.peer ∙ s.peer;
  keymap = same.keymap ∙ s.keymap;
  down = down_same (own_calls newer label) (own_calls older label) board same.own s.down;
}

-- a call on a board says nothing of the others
other_made : (calls : List Call) (b peer x : ℕ) → (x == b) ≡ false → SameAt (Make b peer ∷ calls) calls x
other_made calls b peer x e = record { peer = cond-false (x == b) _ _ e; keymap = refl; own = refl }

other_dropped : (calls : List Call) (b x : ℕ) → (x == b) ≡ false → SameAt (Drop b ∷ calls) calls x
other_dropped calls b x e =
    record { peer = cond-false (x == b) _ _ e; keymap = cond-false (x == b) _ _ e; own = cond-false (x == b) _ _ e }

other_told : (calls : List Call) (b x : ℕ) → (x == b) ≡ false → SameAt (Keymap b ∷ calls) calls x
other_told calls b x e = record { peer = refl; keymap = ap (λ h. h || had_keymap calls x) e; own = refl }

other_turned : (calls : List Call) (b key : ℕ) (pressed : Bool) (grab : Option (ℕ × ℕ)) (x : ℕ) → (x == b) ≡ false
    → SameAt (Key b key pressed grab ∷ calls) calls x
other_turned calls b key pressed grab x e = record { peer = refl; keymap = refl; own = cond-false (x == b) _ _ e }

-- a board is put under a label
put_after : (call : Call) (calls : List Call) (m : Boards) (label : ℕ) (board : Board) → StandsFor calls m
    → ((x : ℕ) → (x == label) ≡ false → SameAt (call ∷ calls) calls x)
    → ((x : ℕ) → (x == label) ≡ true → IsMade (call ∷ calls) x board)
    → StandsFor (call ∷ calls) (map.insert m label board)
put_after call calls m label board s others here = record {
  each = λ x. subst (λ (o : Option Board). IsAfter (call ∷ calls) x o) (sym (after_insert m label board x))
      (at x (x == label) refl);
}
  where
    at : (x : ℕ) (b : Bool) → (x == label) ≡ b → IsAfter (call ∷ calls) x (cond b (Some board) (map.get m x))
    at x true e = here x e
    at x false e = kept (call ∷ calls) calls x (others x e) (map.get m x) (s.each x)

-- what is said of the board that is there
pub is_made : (calls : List Call) (m : Boards) (label : ℕ) (board : Board) → StandsFor calls m
    → map.get m label ≡ Some board → IsMade calls label board
is_made calls m label board s e = subst (λ (o : Option Board). IsAfter calls label o) e (s.each label)

is_none : (calls : List Call) (m : Boards) (label : ℕ) → StandsFor calls m → map.get m label ≡ None → IsNone calls label
is_none calls m label s e = subst (λ (o : Option Board). IsAfter calls label o) e (s.each label)

no_keys : AreDown [] map.empty
no_keys = record { keys = λ key. map.get-empty nat_cmp key; number = map.len-empty nat_cmp _ }

pub none_after : StandsFor [] map.empty
none_after = record {
  each = λ x. subst (λ (o : Option Board). IsAfter [] x o) (sym (map.get-empty nat_cmp x))
      (record { peer = refl; keymap = refl; down = refl });
}

pub made_after : (calls : List Call) (m : Boards) (label peer : ℕ) → StandsFor calls m → map.get m label ≡ None
    → StandsFor (Make label peer ∷ calls) (map.insert m label (new_board peer))
made_after calls m label peer s fresh =
    put_after (Make label peer) calls m label (new_board peer) s (λ x e. other_made calls label peer x e) here
  where
    here : (x : ℕ) → (x == label) ≡ true → IsMade (Make label peer ∷ calls) x (new_board peer)
    here x e =
        let none : IsNone calls x = is_none calls m x s (ap (map.get m) (eqb-true x label e) ∙ fresh) in
        record {
          peer = cond-true (x == label) _ _ e;
          keymap = none.keymap;
          down = down_same (own_calls calls x) [] (new_board peer) none.down no_keys;
        }

pub dropped_after : (calls : List Call) (m : Boards) (label : ℕ) → StandsFor calls m
    → StandsFor (Drop label ∷ calls) (map.remove m label)
dropped_after calls m label s = record {
  each = λ x. subst (λ (o : Option Board). IsAfter (Drop label ∷ calls) x o) (sym (after_remove m label x))
      (at x (x == label) refl);
}
  where
    at : (x : ℕ) (b : Bool) → (x == label) ≡ b → IsAfter (Drop label ∷ calls) x (cond b None (map.get m x))
    at x true e =
        record {
          peer = cond-true (x == label) _ _ e;
          keymap = cond-true (x == label) _ _ e;
          down = cond-true (x == label) _ _ e;
        }
    at x false e = kept (Drop label ∷ calls) calls x (other_dropped calls label x e) (map.get m x) (s.each x)

-- a peer ends

gone_none : (calls : List Call) (peer x : ℕ) → IsNone calls x → IsNone (Gone peer ∷ calls) x
gone_none calls peer x none = record {
  peer = ap (λ p. if is_of p peer then None else p) none.peer;
  keymap = ap (λ p. if is_of p peer then false else had_keymap calls x) none.peer ∙ none.keymap;
  down = ap (λ p. if is_of p peer then [] else own_calls calls x) none.peer ∙ none.down;
}

gone_made : (calls : List Call) (peer x : ℕ) (board : Board) (b : Bool) → (board.peer == peer) ≡ b →
    IsMade calls x board
    → IsAfter (Gone peer ∷ calls) x (if b then None else Some board)
gone_made calls peer x board b e made = at b (ap (λ p. is_of p peer) made.peer ∙ e)
  where
    at : (b : Bool) → is_of (peer_of calls x) peer ≡ b → IsAfter (Gone peer ∷ calls) x (if b then None else Some board)
    at true e = record { peer = cond-true _ _ _ e; keymap = cond-true _ _ _ e; down = cond-true _ _ _ e }
    at false e = record {
      peer = cond-false _ _ _ e ∙ made.peer;
      keymap = cond-false _ _ _ e ∙ made.keymap;
      down = down_same _ _ board (cond-false _ _ _ e) made.down;
    }

pub gone_after : (calls : List Call) (m after : Boards) (peer : ℕ) → StandsFor calls m
    → ((x : ℕ) → map.get after x ≡ unless_of peer (map.get m x)) → StandsFor (Gone peer ∷ calls) after
gone_after calls m after peer s left = record {
  each = λ x. subst (λ (o : Option Board). IsAfter (Gone peer ∷ calls) x o) (sym (left x))
      (at x (map.get m x) (s.each x));
}
  where
    at : (x : ℕ) (o : Option Board) → IsAfter calls x o → IsAfter (Gone peer ∷ calls) x (unless_of peer o)
    at x None none = gone_none calls peer x none
    at x (Some board) made = gone_made calls peer x board (board.peer == peer) refl made

pub told_after : (calls : List Call) (m : Boards) (label : ℕ) (board : Board) → StandsFor calls m
    → map.get m label ≡ Some board
    → StandsFor (Keymap label ∷ calls) (map.insert m label (record board { has_keymap = true }))
told_after calls m label board s there =
    put_after (Keymap label) calls m label (record board { has_keymap = true }) s
    (λ x e. other_told calls label x e) here
  where
    here : (x : ℕ) → (x == label) ≡ true → IsMade (Keymap label ∷ calls) x (record board { has_keymap = true })
    here x e =
        let made : IsMade calls x board = is_made calls m x board s (ap (map.get m) (eqb-true x label e) ∙ there) in
        record { peer = made.peer; keymap = ap (λ h. h || had_keymap calls x) e; down = made.down }

pub turned_after : (calls : List Call) (m : Boards) (label : ℕ) (board : Board) (key : ℕ) (pressed : Bool)
    (grab : Option (ℕ × ℕ)) → StandsFor calls m → map.get m label ≡ Some board
    → StandsFor (Key label key pressed grab ∷ calls) (map.insert m label (turned board key pressed grab))
turned_after calls m label board key pressed grab s there =
    put_after (Key label key pressed grab) calls m label (turned board key pressed grab) s
    (λ x e. other_turned calls label key pressed grab x e) here
  where
    here : (x : ℕ) → (x == label) ≡ true → IsMade (Key label key pressed grab ∷ calls) x (turned board key pressed grab)
    here x e =
        let made : IsMade calls x board = is_made calls m x board s (ap (map.get m) (eqb-true x label e) ∙ there) in
        let opened : own_calls (Key label key pressed grab ∷ calls) x
        ≡ keyboard.Call.Key key pressed ∷ standing_call (of_another (Some board.peer) grab) ∷ own_calls calls x =
        cond-true (x == label) _ _ e
        ∙ ap (λ (p : Option ℕ). keyboard.Call.Key key pressed ∷ standing_call (of_another p grab)
        ∷ own_calls calls x) made.peer in
        record {
          peer = made.peer;
          keymap = made.keymap;
          down = down_same _ _ (turned board key pressed grab) opened
              (turned_down (own_calls calls x) (of_another (Some board.peer) grab) board.down key pressed made.down);
        }

-- whether there is a board that was given a keymap
pub keymap_is : (calls : List Call) (m : Boards) (label : ℕ) → StandsFor calls m →
    keymap_at (map.get m label) ≡ had_keymap calls label
keymap_is calls m label s = at (map.get m label) (s.each label)
  where
    at : (o : Option Board) → IsAfter calls label o → keymap_at o ≡ had_keymap calls label
    at None is = sym is.keymap
    at (Some board) is = sym is.keymap

-- where a key and modifiers of a live board go
pub route_is : (calls : List Call) (m : Boards) (label : ℕ) (board : Board) (key : ℕ) (pressed : Bool)
    (grab : Option (ℕ × ℕ)) → StandsFor calls m → map.get m label ≡ Some board
    → routed board key pressed grab ≡ key_route calls label key pressed grab
route_is calls m label board key pressed grab s there =
    let made : IsMade calls label board = is_made calls m label board s there in
    ap (λ (p : Option ℕ). routed_by p) (sym made.peer)
    ∙ route_down (own_calls calls label) board.down (of_another (peer_of calls label) grab)
    (option_map (λ g. g.0) grab) key pressed made.down
  where
    routed_by : Option ℕ → Route
    routed_by p =
        routed_at (map.get board.down key) (of_another p grab) (option_map (λ g. g.0) grab) (map.len board.down) pressed

pub mods_is : (calls : List Call) (m : Boards) (label : ℕ) (board : Board) (grab : Option (ℕ × ℕ))
    → StandsFor calls m → map.get m label ≡ Some board
    → mods_routed board grab ≡ mods_route calls label grab
mods_is calls m label board grab s there =
    ap (λ (p : Option ℕ). to_standing (of_another p grab)) (sym (is_made calls m label board s there).peer)

-- whether a live board takes a press or a release
pub takes_is : (calls : List Call) (m : Boards) (label key : ℕ) (pressed : Bool) → StandsFor calls m
    → takes_at (map.get m label) key pressed ≡ (had_keymap calls label && not (is_refused calls label key pressed))
takes_is calls m label key pressed s = at (map.get m label) (s.each label)
  where
    at : (o : Option Board) → IsAfter calls label o →
        takes_at o key pressed ≡ (had_keymap calls label && not (is_refused calls label key pressed))
    at None is = sym (ap (λ b. b && not (is_refused calls label key pressed)) is.keymap)
    at (Some board) is =
        ap (λ b. b && not (refused_at (map.get board.down key) (map.len board.down) pressed)) (sym is.keymap)
        ∙ ap (λ r. had_keymap calls label && not r)
        (refused_down (own_calls calls label) board.down key pressed is.down)
