-- How the focus moves at one act.
use Rattle.std.proofs.Common.{◌≡◌, ℕ, ◌≤◌, max, List, [], ◌∷◌, length, Bool, true, false, Option, Some, None, ap, refl, ◌∙◌, arith}
use Rattle.std.specs.Prelude.{◌&&◌, not, if◌then◌else◌, is_some}
use Rattle.relay_model.specs.declared.act.Act.{Act}
use Rattle.relay_model.specs.declared.act.Act.TheVariants.{Focus, Unfocus}
use Rattle.relay_model.specs.Objects.{Object, is_at, is_same, is_surface_kind, is_field_kind, owner, remains, object, alive, peer_of, is_field, is_surface}
use Rattle.relay_model.specs.Focus.{last_focus, where_alive, focus, focus_since, peer_at, focused_peer, entered, entered_since}
use Rattle.relay_model.proofs.ActsOrIdle.{IsHistory, live}
use Rattle.relay_model.proofs.ObjectLaws.{none_of, remains_none, object_step, alive_within, kind_within}

pub and_left : (a b : Bool) → (a && b) ≡ true → a ≡ true
and_left true b h = refl
and_left false b h = cc

-- the last focus names a label that was there
pub last_focus_within : (log : List Act) (s : ℕ) → IsHistory log → last_focus log ≡ Some s → s ≤ length log
last_focus_within [] s h e = cc
last_focus_within (Focus t ∷ older) s h e =
    let l : (is_surface older t && not (is_at (focus older) t)) ≡ true =
    live (Focus t) older h.0 (λ (d : Focus t ≡ _). cc) in
    let w : t ≤ length older = kind_within is_surface_kind older t (and_left _ _ l) in
    let d : t ≡ s = cc in
    omega arith
last_focus_within (Unfocus ∷ older) s h e = cc
last_focus_within (_ ∷ older) s h e = let k : s ≤ length older = last_focus_within older s h.1 e in omega arith

-- what an act leaves of the focus
abbrev pub focus_left : Act → List Act → Option ℕ → Option ℕ
focus_left act log None = None
focus_left act log (Some s) = (if is_some (remains act s (object log s)) then Some s else None)

focus_step_by : (act : Act) (log : List Act) (s : ℕ) (b : Bool) → s ≤ length log → alive log s ≡ b →
    (if is_some (object (act ∷ log) s) then Some s else None) ≡ focus_left act log (if b then Some s else None)
focus_step_by act log s true w e = rw (object_step act log s w) refl
focus_step_by act log s false w e =
    let gone : object log s ≡ None = none_of (object log s) e in
    rw (object_step act log s w, gone, remains_none act s) refl

focus_step_of : (act : Act) (log : List Act) (o : Option ℕ) → IsHistory log → last_focus log ≡ o →
    where_alive (act ∷ log) o ≡ focus_left act log (where_alive log o)
focus_step_of act log None h e = refl
focus_step_of act log (Some s) h e = focus_step_by act log s (alive log s) (last_focus_within log s h e) refl

-- an act that is no focus and no unfocus leaves the focus to a surface that remains
pub focus_step : (act : Act) (log : List Act) → IsHistory log → last_focus (act ∷ log) ≡ last_focus log →
    focus (act ∷ log) ≡ focus_left act log (focus log)
focus_step act log h e = rw e (focus_step_of act log (last_focus log) h refl)

focus_alive_by : (log : List Act) (o : Option ℕ) (s : ℕ) → where_alive log o ≡ Some s → alive log s ≡ true
focus_alive_by log None s e = cc
focus_alive_by log (Some t) s e = at (alive log t) log t s refl e
  where
    at : (b : Bool) (log : List Act) (t s : ℕ) → alive log t ≡ b → (if b then Some t else None) ≡ Some s →
        alive log s ≡ true
    at true log t s k e = let d : t ≡ s = cc in rw (← d) k
    at false log t s k e = cc

pub focus_alive : (log : List Act) (s : ℕ) → focus log ≡ Some s → alive log s ≡ true
focus_alive log s e = focus_alive_by log (last_focus log) s e

pub focus_within : (log : List Act) (s : ℕ) → focus log ≡ Some s → s ≤ length log
focus_within log s e = alive_within log s (focus_alive log s e)

pub focus_since_within : (log : List Act) → focus_since log ≤ length log
focus_since_within [] = omega arith
focus_since_within (Focus s ∷ older) = omega arith
focus_since_within (_ ∷ older) = let h : focus_since older ≤ length older = focus_since_within older in omega arith

-- An act that moves no focus and takes no object.
pub record IsSteady (act : Act) : Type 0 where
  pub keeps : (x : ℕ) (o : Option Object) → remains act x o ≡ o
  pub last : (log : List Act) → last_focus (act ∷ log) ≡ last_focus log
  pub since : (log : List Act) → focus_since (act ∷ log) ≡ focus_since log

focus_left_steady : (act : Act) (log : List Act) (o : Option ℕ) → IsSteady act → focus log ≡ o →
    focus_left act log o ≡ o
focus_left_steady act log None k e = refl
focus_left_steady act log (Some s) k e =
    let there : is_some (object log s) ≡ true = focus_alive log s e in
    rw (k.keeps s (object log s), there) refl

pub focus_same : (act : Act) (log : List Act) → IsHistory log → IsSteady act → focus (act ∷ log) ≡ focus log
focus_same act log h k = focus_step act log h (k.last log) ∙ focus_left_steady act log (focus log) k refl

-- an object that was there before a steady act
pub object_same : (act : Act) (log : List Act) (x : ℕ) → IsSteady act → x ≤ length log →
    object (act ∷ log) x ≡ object log x
object_same act log x k w = object_step act log x w ∙ k.keeps x (object log x)

focused_peer_by : (act : Act) (log : List Act) (o : Option ℕ) → IsSteady act → focus log ≡ o →
    peer_at (act ∷ log) o ≡ peer_at log o
focused_peer_by act log None k e = refl
focused_peer_by act log (Some s) k e = ap owner (object_same act log s k (focus_within log s e))

pub focused_peer_same : (act : Act) (log : List Act) → IsHistory log → IsSteady act →
    focused_peer (act ∷ log) ≡ focused_peer log
focused_peer_same act log h k = rw (focus_same act log h k) (focused_peer_by act log (focus log) k refl)

pub entered_same : (act : Act) (log : List Act) (f : ℕ) → IsHistory log → IsSteady act → f ≤ length log →
    entered (act ∷ log) f ≡ entered log f
entered_same act log f h k w =
    rw (object_same act log f k w, focused_peer_same act log h k) refl

pub entered_since_same : (act : Act) (log : List Act) (f : ℕ) → IsSteady act →
    entered_since (act ∷ log) f ≡ entered_since log f
entered_since_same act log f k = ap (λ n. max n f) (k.since log)

pub entered_field : (log : List Act) (f : ℕ) → entered log f ≡ true → is_field log f ≡ true
entered_field log f h = and_left _ _ h

pub entered_within : (log : List Act) (f : ℕ) → entered log f ≡ true → f ≤ length log
entered_within log f h = kind_within is_field_kind log f (entered_field log f h)

pub entered_since_within : (log : List Act) (f : ℕ) → f ≤ length log → entered_since log f ≤ length log
entered_since_within log f h = omega (arith, focus_since_within log)

pub same_none : (o : Option ℕ) → is_same o None ≡ false
same_none None = refl
same_none (Some x) = refl

pub and_false : (b : Bool) → (b && false) ≡ false
and_false true = refl
and_false false = refl

-- nobody is entered while no surface has the focus
pub unfocused_entered : (log : List Act) (f : ℕ) → focus log ≡ None → entered log f ≡ false
unfocused_entered log f e = rw (e, same_none (peer_of log f), and_false (is_field log f)) refl
