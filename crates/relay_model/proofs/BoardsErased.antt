-- A history with Idle in the place of each act of boards: which objects it has, where its focus is, and which of its
-- fields are entered.
use Rattle.std.proofs.Common.{◌≡◌, ℕ, ◌≤◌, ◌+◌, max, List, [], ◌∷◌, length, Bool, true, false, Option, Some, None, ap, refl, sym, ◌∙◌, arith, ◌⊎◌, inl, inr}
use Rattle.std.specs.Prelude.{◌==◌, ◌&&◌, ◌||◌, not, if◌then◌else◌, is_some, ◌++◌}
use Rattle.std.specs.List.{list_any}
use Rattle.std.proofs.lemmas.Bool.{ne_eqb, eqb-true, true≢false}
use Rattle.relay_model.specs.declared.act.Act.{Act}
use Rattle.relay_model.specs.declared.act.Act.TheVariants as acts
use Rattle.relay_model.specs.Objects.{Kind, PeerKind, SurfaceKind, FieldKind, MethodKind, ThingKind, BoardKind, PopupKind, GrabKind, Object, next, is_at, is_same, is_kind, is_board_kind, is_field_kind, is_surface_kind, is_method_kind, is_peer_kind, kind_method, kind_surface, owner, method_in, surface_in, made_for, made, maker, remains, object, alive, peer_of, is_board, is_field, is_surface, is_method, is_peer, method_of, surface_of, labels, has_popup}
use Rattle.relay_model.specs.Focus.{last_focus, where_alive, focus, focus_since, peer_at, focused_peer, entered, entered_since}
use Rattle.relay_model.specs.WithoutBoards.{is_of_boards, erased}
use Rattle.relay_model.proofs.ActsOrIdle.{IsHistory, live}
use Rattle.relay_model.proofs.ObjectLaws.{object_step, object_new, kind_within}
use Rattle.relay_model.proofs.FocusLaws.{and_left, last_focus_within}

-- the history without its boards
abbrev pub erase : List Act → List Act
erase [] = []
erase (act ∷ older) = erased act older ∷ erase older

pub length_erased : (log : List Act) → length (erase log) ≡ length log
length_erased [] = refl
length_erased (act ∷ older) = let k : length (erase older) ≡ length older = length_erased older in omega arith

-- what a drop and Idle have in common stands also where the drop was of a board
pub erased_drop : {A : Type 0} (ask : Act → A) (older : List Act) (x : ℕ) → ask acts.Idle ≡ ask (acts.Drop x) →
    ask (erased (acts.Drop x) older) ≡ ask (acts.Drop x)
erased_drop ask older x e = at (is_board older x)
  where
    at : (b : Bool) → ask (if b then acts.Idle else acts.Drop x) ≡ ask (acts.Drop x)
    at true = e
    at false = refl

-- objects

-- the object, unless it is a board
abbrev pub unless_board : Option Object → Option Object
unless_board None = None
unless_board (Some o) = (if is_board_kind o.kind then None else Some o)

unless_if : (b : Bool) (o : Option Object) → unless_board (if b then None else o) ≡ (if b then None else unless_board o)
unless_if true o = refl
unless_if false o = refl

gone_unless : (p : ℕ) (o : Option Object) →
    (if is_at (owner (unless_board o)) p then None else unless_board o)
    ≡ unless_board (if is_at (owner o) p then None else o)
gone_unless p None = refl
gone_unless p (Some o) = by (is_board_kind o.kind) refl
  where
    by : (b : Bool) → is_board_kind o.kind ≡ b →
        (if is_at (owner (if b then None else Some o)) p then None else (if b then None else Some o))
        ≡ unless_board (if o.peer == p then None else Some o)
    by true e = at (o.peer == p)
      where
        at : (d : Bool) → ◌≡◌ {A = Option Object} None (unless_board (if d then None else Some o))
        at true = refl
        at false = rw e refl
    by false e = at (o.peer == p)
      where
        at : (d : Bool) → (if d then None else Some o) ≡ unless_board (if d then None else Some o)
        at true = refl
        at false = rw e refl

board_none : (o : Option Object) → is_kind is_board_kind o ≡ true → unless_board o ≡ None
board_none None e = cc
board_none (Some o) e = rw e refl

-- a thing that is no board is still there
pub unless_other : (o : Option Object) → is_kind is_board_kind o ≡ false → unless_board o ≡ o
unless_other None e = refl
unless_other (Some o) e = rw e refl

dropped_board : (log : List Act) (x y : ℕ) (c : Bool) → (y == x) ≡ c → is_board log y ≡ true →
    unless_board (object log x) ≡ unless_board (if c then None else object log x)
dropped_board log x y true e b = board_none (object log x) (ap (is_board log) (sym (eqb-true y x e)) ∙ b)
dropped_board log x y false e b = refl

drop_erased : (log : List Act) (x y : ℕ) (b : Bool) → is_board log y ≡ b →
    remains (if b then acts.Idle else acts.Drop y) x (unless_board (object log x))
    ≡ unless_board (remains (acts.Drop y) x (object log x))
drop_erased log x y true e = dropped_board log x y (y == x) refl e
drop_erased log x y false e = sym (unless_if (y == x) (object log x))

-- what the act leaves
remains_erased : (act : Act) (log : List Act) (x : ℕ) →
    remains (erased act log) x (unless_board (object log x)) ≡ unless_board (remains act x (object log x))
remains_erased (acts.Drop y) log x = drop_erased log x y (is_board log y) refl
remains_erased (acts.Gone p cause) log x = gone_unless p (object log x)
remains_erased _ log x = refl

method_other : (o : Option Object) → is_kind is_method_kind o ≡ true → is_kind is_board_kind o ≡ false
method_other None e = cc
method_other (Some o) e = at o.kind e
  where
    at : (k : Kind) → is_method_kind k ≡ true → is_board_kind k ≡ false
    at MethodKind e = refl
    at PeerKind e = cc
    at SurfaceKind e = cc
    at FieldKind e = cc
    at ThingKind e = cc
    at BoardKind e = cc
    at (PopupKind m s) e = cc
    at (GrabKind m) e = cc

surface_other : (o : Option Object) → is_kind is_surface_kind o ≡ true → is_kind is_board_kind o ≡ false
surface_other None e = cc
surface_other (Some o) e = at o.kind e
  where
    at : (k : Kind) → is_surface_kind k ≡ true → is_board_kind k ≡ false
    at SurfaceKind e = refl
    at PeerKind e = cc
    at MethodKind e = cc
    at FieldKind e = cc
    at ThingKind e = cc
    at BoardKind e = cc
    at (PopupKind m s) e = cc
    at (GrabKind m) e = cc

for_unless : (kind : Kind) (whose : Option ℕ) → is_board_kind kind ≡ false →
    made_for kind whose ≡ unless_board (made_for kind whose)
for_unless kind None e = refl
for_unless kind (Some p) e = rw e refl

method_there : (m : ℕ) (log : List Act) → is_method log m ≡ true → unless_board (object log m) ≡ object log m
method_there m log e = unless_other (object log m) (method_other (object log m) e)

-- what the act makes
made_erased : (act : Act) (log : List Act) (n : ℕ) → IsHistory (act ∷ log) →
    made (erased act log) n (owner (unless_board (object log (maker (erased act log)))))
    ≡ unless_board (made act n (owner (object log (maker act))))
made_erased (acts.Popup m s) log n h =
    let l : is_method log m ≡ true =
    and_left _ _ (live (acts.Popup m s) log h.0 (λ (d : acts.Popup m s ≡ acts.Idle). cc)) in
    ap (λ o. made_for (PopupKind m s) (owner o)) (method_there m log l)
    ∙ for_unless (PopupKind m s) (owner (object log m)) refl
made_erased (acts.Grab m) log n h =
    let l : is_method log m ≡ true = live (acts.Grab m) log h.0 (λ (d : acts.Grab m ≡ acts.Idle). cc) in
    ap (λ o. made_for (GrabKind m) (owner o)) (method_there m log l)
    ∙ for_unless (GrabKind m) (owner (object log m)) refl
made_erased (acts.Drop x) log n h = erased_drop (λ a. made a n (owner (unless_board (object log (maker a))))) log x refl
made_erased _ log n h = refl

-- without boards each other object is there as it was
pub object_erased : (log : List Act) (x : ℕ) → IsHistory log → object (erase log) x ≡ unless_board (object log x)
object_erased [] x h = refl
object_erased (act ∷ older) x h =
    ap (λ n. if x == n + 1 then made (erased act older) x (owner (object (erase older) (maker (erased act older))))
    else remains (erased act older) x (object (erase older) x)) (length_erased older) ∙
    ap (λ o. if x == next older then made (erased act older) x (owner o)
    else remains (erased act older) x (object (erase older) x))
    (object_erased older (maker (erased act older)) h.1) ∙
    ap (λ o. if x == next older
    then made (erased act older) x (owner (unless_board (object older (maker (erased act older)))))
    else remains (erased act older) x o) (object_erased older x h.1) ∙
    at (x == next older)
  where
    at : (b : Bool) →
        (if b then made (erased act older) x (owner (unless_board (object older (maker (erased act older)))))
        else remains (erased act older) x (unless_board (object older x)))
        ≡ unless_board (if b then made act x (owner (object older (maker act))) else remains act x (object older x))
    at true = made_erased act older x h
    at false = remains_erased act older x

-- a question that finds nothing in a board
asked_unless : {A : Type 0} (ask : Option Object → A) →
    ((o : Object) → is_board_kind o.kind ≡ true → ask None ≡ ask (Some o)) → (o : Option Object) →
    ask (unless_board o) ≡ ask o
asked_unless ask none None = refl
asked_unless ask none (Some o) = at (is_board_kind o.kind) refl
  where
    at : (b : Bool) → is_board_kind o.kind ≡ b → ask (if b then None else Some o) ≡ ask (Some o)
    at true e = none o e
    at false e = refl

kind_unless : (test : Kind → Bool) → test BoardKind ≡ false → (o : Object) → is_board_kind o.kind ≡ true →
    false ≡ test o.kind
kind_unless test t o e = at o.kind e
  where
    at : (k : Kind) → is_board_kind k ≡ true → false ≡ test k
    at BoardKind e = sym t
    at PeerKind e = cc
    at SurfaceKind e = cc
    at FieldKind e = cc
    at MethodKind e = cc
    at ThingKind e = cc
    at (PopupKind m s) e = cc
    at (GrabKind m) e = cc

method_unless : (o : Object) → is_board_kind o.kind ≡ true → None ≡ kind_method o.kind
method_unless o e = at o.kind e
  where
    at : (k : Kind) → is_board_kind k ≡ true → None ≡ kind_method k
    at BoardKind e = refl
    at PeerKind e = cc
    at SurfaceKind e = cc
    at FieldKind e = cc
    at MethodKind e = cc
    at ThingKind e = cc
    at (PopupKind m s) e = cc
    at (GrabKind m) e = cc

surface_unless : (o : Object) → is_board_kind o.kind ≡ true → None ≡ kind_surface o.kind
surface_unless o e = at o.kind e
  where
    at : (k : Kind) → is_board_kind k ≡ true → None ≡ kind_surface k
    at BoardKind e = refl
    at PeerKind e = cc
    at SurfaceKind e = cc
    at FieldKind e = cc
    at MethodKind e = cc
    at ThingKind e = cc
    at (PopupKind m s) e = cc
    at (GrabKind m) e = cc

pub kind_erased : (test : Kind → Bool) → test BoardKind ≡ false → (log : List Act) (x : ℕ) → IsHistory log →
    is_kind test (object (erase log) x) ≡ is_kind test (object log x)
kind_erased test t log x h =
    ap (is_kind test) (object_erased log x h) ∙ asked_unless (is_kind test) (kind_unless test t) (object log x)

pub method_erased : (log : List Act) (x : ℕ) → IsHistory log → method_of (erase log) x ≡ method_of log x
method_erased log x h = ap method_in (object_erased log x h) ∙ asked_unless method_in method_unless (object log x)

pub surface_erased : (log : List Act) (x : ℕ) → IsHistory log → surface_of (erase log) x ≡ surface_of log x
surface_erased log x h = ap surface_in (object_erased log x h) ∙ asked_unless surface_in surface_unless (object log x)

-- an object that is no board is there as it was
pub other_erased : (log : List Act) (x : ℕ) → IsHistory log → is_board log x ≡ false →
    object (erase log) x ≡ object log x
other_erased log x h e = object_erased log x h ∙ unless_other (object log x) e

pub labels_erased : (log : List Act) → labels (erase log) ≡ labels log
labels_erased [] = refl
labels_erased (act ∷ older) =
    ap (λ xs. xs ++ next (erase older) ∷ []) (labels_erased older)
    ∙ ap (λ n. labels older ++ (n + 1) ∷ []) (length_erased older)

any_same : (f g : ℕ → Bool) → ((x : ℕ) → f x ≡ g x) → (xs : List ℕ) → list_any f xs ≡ list_any g xs
any_same f g e [] = refl
any_same f g e (x ∷ xs) = ap (λ b. b || list_any f xs) (e x) ∙ ap (λ b. g x || b) (any_same f g e xs)

pub popup_erased : (log : List Act) (s : ℕ) → IsHistory log → has_popup (erase log) s ≡ has_popup log s
popup_erased log s h =
    ap (list_any (λ x. is_at (surface_of (erase log) x) s)) (labels_erased log) ∙
    any_same (λ x. is_at (surface_of (erase log) x) s) (λ x. is_at (surface_of log x) s)
    (λ x. ap (λ o. is_at o s) (surface_erased log x h)) (labels log)

-- a label that was there before an act, and named no board, names none after it

left_by : (o : Option Object) (b : Bool) → is_kind is_board_kind o ≡ false →
    is_kind is_board_kind (if b then None else o) ≡ false
left_by o true e = refl
left_by o false e = e

remains_other : (act : Act) (x : ℕ) (o : Option Object) → is_kind is_board_kind o ≡ false →
    is_kind is_board_kind (remains act x o) ≡ false
remains_other (acts.Drop y) x o e = left_by o (y == x) e
remains_other (acts.Gone p cause) x o e = left_by o (is_at (owner o) p) e
remains_other _ x o e = e

pub stays_other : (act : Act) (log : List Act) (x : ℕ) → x ≤ length log → is_board log x ≡ false →
    is_board (act ∷ log) x ≡ false
stays_other act log x w e = ap (is_kind is_board_kind) (object_step act log x w) ∙ remains_other act x (object log x) e

-- the focus

pub last_erased : (log : List Act) → last_focus (erase log) ≡ last_focus log
last_erased [] = refl
last_erased (acts.Focus s ∷ older) = refl
last_erased (acts.Unfocus ∷ older) = refl
last_erased (acts.Drop x ∷ older) = erased_drop (λ a. last_focus (a ∷ erase older)) older x refl ∙ last_erased older
last_erased (_ ∷ older) = last_erased older

pub since_erased : (log : List Act) → focus_since (erase log) ≡ focus_since log
since_erased [] = refl
since_erased (acts.Focus s ∷ older) = ap (λ n. n + 1) (length_erased older)
since_erased (acts.Drop x ∷ older) = erased_drop (λ a. focus_since (a ∷ erase older)) older x refl ∙ since_erased older
since_erased (_ ∷ older) = since_erased older

-- the surface that was focused last is no board
pub focus_other : (log : List Act) (s : ℕ) → IsHistory log → last_focus log ≡ Some s → is_board log s ≡ false
focus_other [] s h e = cc
focus_other (acts.Focus t ∷ older) s h e =
    let l : (is_surface older t && not (is_at (focus older) t)) ≡ true =
    live (acts.Focus t) older h.0 (λ (d : acts.Focus t ≡ acts.Idle). cc) in
    let there : is_surface older t ≡ true = and_left _ _ l in
    let d : t ≡ s = cc in
    ap (is_board (acts.Focus t ∷ older)) (sym d) ∙
    stays_other (acts.Focus t) older t (kind_within is_surface_kind older t there)
    (surface_other (object older t) there)
focus_other (acts.Unfocus ∷ older) s h e = cc
focus_other (act ∷ older) s h e = stays_other act older s (last_focus_within older s h.1 e) (focus_other older s h.1 e)

pub alive_erased : (log : List Act) (o : Option ℕ) → IsHistory log → ((x : ℕ) → o ≡ Some x → is_board log x ≡ false) →
    where_alive (erase log) o ≡ where_alive log o
alive_erased log None h e = refl
alive_erased log (Some x) h e = ap (λ o. if is_some o then Some x else None) (other_erased log x h (e x refl))

pub focus_erased : (log : List Act) → IsHistory log → focus (erase log) ≡ focus log
focus_erased log h =
    ap (where_alive (erase log)) (last_erased log) ∙ alive_erased log (last_focus log) h (λ s e. focus_other log s h e)

peer_erased : (log : List Act) (o : Option ℕ) → IsHistory log → ((x : ℕ) → o ≡ Some x → is_board log x ≡ false) →
    peer_at (erase log) o ≡ peer_at log o
peer_erased log None h e = refl
peer_erased log (Some x) h e = ap owner (other_erased log x h (e x refl))

alive_left : (log : List Act) (o : Option ℕ) (x : ℕ) → where_alive log o ≡ Some x → o ≡ Some x
alive_left log None x e = cc
alive_left log (Some y) x e = at (alive log y) e
  where
    at : (b : Bool) → (if b then Some y else None) ≡ Some x → Some y ≡ Some x
    at true e = e
    at false e = cc

pub focused_erased : (log : List Act) → IsHistory log → focused_peer (erase log) ≡ focused_peer log
focused_erased log h =
    ap (peer_at (erase log)) (focus_erased log h) ∙
    peer_erased log (focus log) h (λ s e. focus_other log s h (alive_left log (last_focus log) s e))

field_other : (o : Option Object) → is_kind is_field_kind o ≡ true → is_kind is_board_kind o ≡ false
field_other None e = cc
field_other (Some o) e = at o.kind e
  where
    at : (k : Kind) → is_field_kind k ≡ true → is_board_kind k ≡ false
    at FieldKind e = refl
    at PeerKind e = cc
    at SurfaceKind e = cc
    at MethodKind e = cc
    at ThingKind e = cc
    at BoardKind e = cc
    at (PopupKind m s) e = cc
    at (GrabKind m) e = cc

pub entered_erased : (log : List Act) (f : ℕ) → IsHistory log → entered (erase log) f ≡ entered log f
entered_erased log f h =
    ap (λ b. b && is_same (peer_of (erase log) f) (focused_peer (erase log))) (kind_erased is_field_kind refl log f h) ∙
    ap (λ p. is_field log f && is_same (peer_of (erase log) f) p) (focused_erased log h) ∙
    at (is_field log f) refl
  where
    at : (b : Bool) → is_field log f ≡ b →
        (b && is_same (peer_of (erase log) f) (focused_peer log)) ≡ (b && is_same (peer_of log f) (focused_peer log))
    at true e = ap (λ o. is_same (owner o) (focused_peer log)) (other_erased log f h (field_other (object log f) e))
    at false e = refl

pub entered_since_erased : (log : List Act) (f : ℕ) → entered_since (erase log) f ≡ entered_since log f
entered_since_erased log f = ap (λ n. max n f) (since_erased log)
