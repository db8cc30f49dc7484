-- What a change of the boards that are kept makes of those that live.
use Rattle.std.proofs.Common.{◌≡◌, ℕ, Bool, true, false, Option, Some, None, ap, refl, sym, ◌∙◌}
use Rattle.std.specs.Prelude.{◌==◌, ◌&&◌, if◌then◌else◌, is_some, cond}
use Rattle.std.specs.FinMap as map
use Rattle.std.proofs.lemmas.Bool.{eq-eqb, eqb-true, true≢false}
use Rattle.relay_model.specs.Objects.{is_at}
use Rattle.virt_keys.specs.Boards as virt
use Rattle.virt_keys.specs.Boards.{Board, new_board}
use Rattle.virt_keys.specs.PeerBoards.{unless_of}
use Rattle.virt_keys.proofs.BoardTree.{after_insert, after_remove}
use Rattle.relay_core.specs.BoardKeys.{Boards, live_board, may_send}
use Rattle.relay_core.proofs.HistoryEntries.{eqb_sym}

there_by : (b : Bool) (o : Option Board) → is_some (if b then None else o) ≡ true →
    (b ≡ false) × ((x : Board) × (o ≡ Some x))
there_by true o e = cc
there_by false None e = cc
there_by false (Some x) e = (refl, (x, refl))

-- a board that lives is kept, and wasn't made ahead
pub lives_there : (b : Boards) (x : ℕ) → is_some (live_board b x) ≡ true →
    (is_at b.ahead x ≡ false) × ((o : Board) × (map.get b.keys x ≡ Some o))
lives_there b x e = there_by (is_at b.ahead x) (map.get b.keys x) e

sends_by : (b : Bool) (o : Option Board) → may_send (if b then None else o) ≡ true →
    (b ≡ false) × ((x : Board) × (o ≡ Some x) × (x.has_keymap ≡ true))
sends_by true o e = cc
sends_by false None e = cc
sends_by false (Some x) e = (refl, (x, refl, e))

-- and so is one that may send
pub sends_there : (b : Boards) (x : ℕ) → may_send (live_board b x) ≡ true →
    (is_at b.ahead x ≡ false) × ((o : Board) × (map.get b.keys x ≡ Some o) × (o.has_keymap ≡ true))
sends_there b x e = sends_by (is_at b.ahead x) (map.get b.keys x) e

-- a change of the one board x
changed_by : (keys new : virt.Boards) (ahead : Option ℕ) (x v : ℕ) (change : Option Board → Option Board) (c d : Bool) →
    (x == v) ≡ c → is_at ahead v ≡ d →
    is_at ahead x ≡ false → map.get new v ≡ (if c then change (map.get keys v) else map.get keys v) →
    (if d then None else map.get new v)
    ≡ (if c then change (if d then None else map.get keys v) else (if d then None else map.get keys v))
changed_by keys new ahead x v change true true e k n h =
    absurd (true≢false (sym k ∙ ap (is_at ahead) (sym (eqb-true x v e)) ∙ n))
changed_by keys new ahead x v change true false e k n h = h
changed_by keys new ahead x v change false true e k n h = refl
changed_by keys new ahead x v change false false e k n h = h

changed_at : (b : Boards) (new : virt.Boards) (x v : ℕ) (change : Option Board → Option Board) →
    is_at b.ahead x ≡ false →
    map.get new v ≡ (if x == v then change (map.get b.keys v) else map.get b.keys v) →
    live_board (record { keys = new; ahead = b.ahead }) v ≡ (if x == v then change (live_board b v) else live_board b v)
changed_at b new x v change n h = changed_by b.keys new b.ahead x v change (x == v) (is_at b.ahead v) refl refl n h

put_by : (m : virt.Boards) (x v : ℕ) (o new : Board) (change : Option Board → Option Board) (c : Bool) → (x == v) ≡ c →
    map.get m x ≡ Some o →
    change (Some o) ≡ Some new → cond c (Some new) (map.get m v) ≡ (if c then change (map.get m v) else map.get m v)
put_by m x v o new change true e there h = sym (ap change (ap (map.get m) (sym (eqb-true x v e)) ∙ there) ∙ h)
put_by m x v o new change false e there h = refl

-- a live board is written over
pub put_at : (b : Boards) (after : virt.Boards) (x : ℕ) (o new : Board) (change : Option Board → Option Board) →
    is_at b.ahead x ≡ false →
    map.get b.keys x ≡ Some o → after ≡ map.insert b.keys x new → change (Some o) ≡ Some new → (v : ℕ) →
    live_board (record { keys = after; ahead = b.ahead }) v
    ≡ (if x == v then change (live_board b v) else live_board b v)
put_at b after x o new change n there put h v =
    changed_at b after x v change n
    (ap (λ m. map.get m v) put ∙ after_insert b.keys x new v
    ∙ ap (λ c. cond c (Some new) (map.get b.keys v)) (eqb_sym v x)
    ∙ put_by b.keys x v o new change (x == v) refl there h)

-- a live board is taken out
pub taken_at : (b : Boards) (after : virt.Boards) (x : ℕ) → is_at b.ahead x ≡ false → after ≡ map.remove b.keys x →
    (v : ℕ) →
    live_board (record { keys = after; ahead = b.ahead }) v ≡ (if x == v then None else live_board b v)
taken_at b after x n left v =
    changed_at b after x v (λ _. None) n
    (ap (λ m. map.get m v) left ∙ after_remove b.keys x v ∙ ap (λ c. cond c None (map.get b.keys v)) (eqb_sym v x))

-- whatever is kept under a label is taken out
pub forgotten : (m after : virt.Boards) (x : ℕ) → after ≡ map.remove m x → (v : ℕ) →
    map.get after v ≡ (if x == v then None else map.get m v)
forgotten m after x left v =
    ap (λ n. map.get n v) left ∙ after_remove m x v ∙ ap (λ c. cond c None (map.get m v)) (eqb_sym v x)

begun_by : (b : Boards) (p n v : ℕ) (c : Bool) → (n == v) ≡ c → b.ahead ≡ Some n →
    map.get b.keys n ≡ Some (new_board p) →
    map.get b.keys v ≡ (if c then Some (new_board p) else live_board b v)
begun_by b p n v true e a k = ap (map.get b.keys) (sym (eqb-true n v e)) ∙ k
begun_by b p n v false e a k = sym (ap (λ d. if d then None else map.get b.keys v) (ap (λ o. is_at o v) a ∙ e))

-- the board that was made ahead lives from now on
pub begun_at : (b : Boards) (p n : ℕ) (lives : Bool) → lives ≡ true → b.ahead ≡ Some n →
    map.get b.keys n ≡ Some (new_board p) → (v : ℕ) →
    map.get b.keys v ≡ (if lives && (n == v) then Some (new_board p) else live_board b v)
begun_at b p n lives l a k v =
    begun_by b p n v (n == v) refl a k ∙ ap (λ d. if d && (n == v) then Some (new_board p) else live_board b v) (sym l)

-- a board that isn't kept doesn't live
pub absent : (m : virt.Boards) (x v : ℕ) (c : Bool) → (x == v) ≡ c → is_some (map.get m x) ≡ false →
    map.get m v ≡ (if c then None else map.get m v)
absent m x v true e n = ap (map.get m) (sym (eqb-true x v e)) ∙ none (map.get m x) n
  where
    none : (o : Option Board) → is_some o ≡ false → o ≡ None
    none None e = refl
    none (Some o) e = cc
absent m x v false e n = refl

of_peer : (d : Bool) (p : ℕ) (o : Option Board) →
    (if d then None else unless_of p o) ≡ unless_of p (if d then None else o)
of_peer true p o = refl
of_peer false p o = refl

-- the boards of a peer are taken out
pub peer_taken : (b : Boards) (after : virt.Boards) (p : ℕ) →
    ((v : ℕ) → map.get after v ≡ unless_of p (map.get b.keys v)) → (v : ℕ) →
    live_board (record { keys = after; ahead = b.ahead }) v ≡ unless_of p (live_board b v)
peer_taken b after p h v =
    ap (λ o. if is_at b.ahead v then None else o) (h v) ∙ of_peer (is_at b.ahead v) p (map.get b.keys v)

ahead_by : (b : Boards) (mid after : virt.Boards) (x v : ℕ) (new : Board) (c : Bool) → (x == v) ≡ c →
    mid ≡ map.insert b.keys x new →
    map.get after v ≡ (if c then map.get mid v else live_board (record { keys = mid; ahead = b.ahead }) v) →
    (if c then None else map.get after v) ≡ (if c then None else live_board b v)
ahead_by b mid after x v new true e put h = refl
ahead_by b mid after x v new false e put h =
    h
    ∙ ap (λ o. if is_at b.ahead v then None else o)
    (ap (λ n. map.get n v) put ∙ after_insert b.keys x new v
    ∙ ap (λ d. cond d (Some new) (map.get b.keys v)) (eqb_sym v x ∙ e))

-- a board is made ahead, and others that were no more are
pub ahead_at : (b : Boards) (mid after : virt.Boards) (x : ℕ) (new : Board) → mid ≡ map.insert b.keys x new →
    ((v : ℕ) → map.get after v
    ≡ (if x == v then map.get mid v else live_board (record { keys = mid; ahead = b.ahead }) v)) → (v : ℕ) →
    live_board (record { keys = after; ahead = Some x }) v ≡ (if x == v then None else live_board b v)
ahead_at b mid after x new put h v = ahead_by b mid after x v new (x == v) refl put (h v)

pub made_at : (b : Boards) (mid after : virt.Boards) (x : ℕ) (new : Board) → mid ≡ map.insert b.keys x new →
    ((v : ℕ) → map.get after v
    ≡ (if x == v then map.get mid v else live_board (record { keys = mid; ahead = b.ahead }) v)) →
    map.get after x ≡ Some new
made_at b mid after x new put h =
    h x
    ∙ ap (λ d. if d then map.get mid x else live_board (record { keys = mid; ahead = b.ahead }) x) (eq-eqb x x refl)
    ∙ ap (λ n. map.get n x) put ∙ after_insert b.keys x new x
    ∙ ap (λ d. cond d (Some new) (map.get b.keys x)) (eq-eqb x x refl)

same_by : (c : Bool) (o : Option Board) → o ≡ (if c then o else o)
same_by true o = refl
same_by false o = refl

-- where none was made ahead, all stay
pub none_ahead : (keys : virt.Boards) (x v : ℕ) →
    map.get keys v ≡ (if x == v then map.get keys v else map.get keys v)
none_ahead keys x v = same_by (x == v) (map.get keys v)

own_by : (c : Bool) (o : Option Board) → o ≡ (if c then o else (if c then None else o))
own_by true o = refl
own_by false o = refl

-- what was made ahead under the label itself stays
pub own_ahead : (keys : virt.Boards) (x made v : ℕ) → made ≡ x →
    map.get keys v ≡ (if x == v then map.get keys v else (if made == v then None else map.get keys v))
own_ahead keys x made v e =
    own_by (x == v) (map.get keys v)
    ∙ ap (λ n. if x == v then map.get keys v else (if n == v then None else map.get keys v)) (sym e)

other_by : (x made v : ℕ) (o : Option Board) (c : Bool) → (x == v) ≡ c → (made == x) ≡ false →
    (if made == v then None else o) ≡ (if c then o else (if made == v then None else o))
other_by x made v o true e n =
    ap (λ d. if d then None else o) (ap (λ m. made == m) (sym (eqb-true x v e)) ∙ n)
other_by x made v o false e n = refl

-- and what was made ahead under another goes
pub other_ahead : (keys after : virt.Boards) (x made v : ℕ) → (made == x) ≡ false →
    map.get after v ≡ (if made == v then None else map.get keys v) →
    map.get after v ≡ (if x == v then map.get keys v else (if made == v then None else map.get keys v))
other_ahead keys after x made v n h = h ∙ other_by x made v (map.get keys v) (x == v) refl n
