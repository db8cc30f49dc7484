-- A history with Idle in the place of each act of boards: its holds, the method that serves, the current state and the
-- keys.
use Rattle.std.proofs.Common.{◌≡◌, ℕ, ◌≤◌, ◌+◌, List, [], ◌∷◌, ◌++◌, length, Bool, true, false, Option, Some, None, ap, refl, sym, ◌∙◌, arith}
use Rattle.std.specs.Prelude.{◌==◌, ◌&&◌, not, nat_le, nat_lt, if◌then◌else◌, is_some, is_none, max}
use Rattle.std.specs.List.{count_by}
use Rattle.std.proofs.lemmas.Bool.{eq-eqb}
use Rattle.kbd_grab.proofs.KeysCounted.{count_everywhere}
use Rattle.relay_model.specs.declared.act.Act.{Act}
use Rattle.relay_model.specs.declared.act.Act.TheVariants as acts
use Rattle.relay_model.specs.declared.act.Word.{Word}
use Rattle.relay_model.specs.Objects.{next, is_at, is_same, is_kind, is_board_kind, is_method_kind, object, alive, is_board, is_method, method_of}
use Rattle.relay_model.specs.Focus.{where_alive, entered, entered_since}
use Rattle.relay_model.specs.Hold.{word_by, word_past, word, is_enabled, is_disabled, begins_hold, ends, committed, kept, holder_after, holder, hold_begun}
use Rattle.relay_model.specs.Current.{State, ContentType, last_enable, last_commit, between, last_surrounding, last_cause, last_content, last_rect, current}
use Rattle.relay_model.specs.Activation.{serving}
use Rattle.relay_model.specs.Keys.{stands_on, standing, is_press, with_key, pressed_keys, is_down, number_down, is_first_press, is_refused}
use Rattle.relay_model.specs.WithoutBoards.{is_of_boards, erased}
use Rattle.relay_model.proofs.ActsOrIdle.{IsHistory}
use Rattle.relay_model.proofs.ObjectLaws.{object_new}
use Rattle.relay_model.proofs.ActivationLaws.{serving_within, serving_alive}
use Rattle.relay_model.proofs.BoardsErased.{erase, length_erased, erased_drop, method_erased, other_erased, stays_other, alive_erased, entered_erased, entered_since_erased}

-- holds

past_erased : (from : ℕ) (log : List Act) (f : ℕ) → word_past from (erase log) f ≡ word_past from log f
past_erased from [] f = refl
past_erased from (act ∷ older) f =
    ap (λ n. if nat_le (n + 1) from then None else word_by (erased act older) f (word_past from (erase older) f))
    (length_erased older) ∙
    ap (λ w. if nat_le (next older) from then None else word_by (erased act older) f w) (past_erased from older f) ∙
    ap (λ w. if nat_le (next older) from then None else w) (by act older (word_past from older f))
  where
    by : (act : Act) (older : List Act) (w : Option Word) → word_by (erased act older) f w ≡ word_by act f w
    by (acts.Drop x) older w = erased_drop (λ a. word_by a f w) older x refl
    by _ older w = refl

pub word_erased : (log : List Act) (f : ℕ) → IsHistory log → word (erase log) f ≡ word log f
word_erased log f h =
    ap (λ b. if b then word_past (entered_since (erase log) f) (erase log) f else None) (entered_erased log f h) ∙
    ap (λ n. if entered log f then word_past n (erase log) f else None) (entered_since_erased log f) ∙
    ap (λ w. if entered log f then w else None) (past_erased (entered_since log f) log f)

pub begins_erased : (act : Act) (older : List Act) → IsHistory older →
    begins_hold (erased act older) (erase older) ≡ begins_hold act older
begins_erased (acts.Commit f) older h =
    ap (λ b. b && is_enabled (word (erase older) f)) (entered_erased older f h)
    ∙ ap (λ w. entered older f && is_enabled w) (word_erased older f h)
begins_erased (acts.Drop x) older h = erased_drop (λ a. begins_hold a (erase older)) older x refl
begins_erased _ older h = refl

ends_erased : (act : Act) (older : List Act) (held : Option ℕ) → IsHistory older →
    ends (erased act older) (erase older) held ≡ ends act older held
ends_erased (acts.Commit f) older held h = ap (λ w. is_at held f && is_disabled w) (word_erased older f h)
ends_erased (acts.Drop x) older held h = erased_drop (λ a. ends a (erase older) held) older x refl
ends_erased _ older held h = refl

committed_erased : (act : Act) (older : List Act) → committed (erased act older) ≡ committed act
committed_erased (acts.Drop x) older = erased_drop committed older x refl
committed_erased _ older = refl

kept_erased : (act : Act) (older : List Act) (held : Option ℕ) → IsHistory (act ∷ older) →
    kept (erased act older) (erase older) held ≡ kept act older held
kept_erased act older None h = refl
kept_erased act older (Some f) h =
    ap (λ b. if b && (entered_since (erase (act ∷ older)) f == entered_since (erase older) f) then Some f else None)
    (entered_erased (act ∷ older) f h) ∙
    ap (λ n. if entered (act ∷ older) f && (n == entered_since (erase older) f) then Some f else None)
    (entered_since_erased (act ∷ older) f) ∙
    ap (λ n. if entered (act ∷ older) f && (entered_since (act ∷ older) f == n) then Some f else None)
    (entered_since_erased older f)

pub holder_erased : (log : List Act) → IsHistory log → holder (erase log) ≡ holder log
holder_erased [] h = refl
holder_erased (act ∷ older) h =
    ap (holder_after (erased act older) (erase older)) (holder_erased older h.1) ∙
    ap (λ b. if b then committed (erased act older)
    else (if ends (erased act older) (erase older) (holder older) then None
    else kept (erased act older) (erase older) (holder older))) (begins_erased act older h.1) ∙
    ap (λ o. if begins_hold act older then o
    else (if ends (erased act older) (erase older) (holder older) then None
    else kept (erased act older) (erase older) (holder older))) (committed_erased act older) ∙
    ap (λ b. if begins_hold act older then committed act
    else (if b then None else kept (erased act older) (erase older) (holder older)))
    (ends_erased act older (holder older) h.1) ∙
    ap (λ o. if begins_hold act older then committed act else (if ends act older (holder older) then None else o))
    (kept_erased act older (holder older) h)

pub begun_hold_erased : (log : List Act) → IsHistory log → hold_begun (erase log) ≡ hold_begun log
begun_hold_erased [] h = refl
begun_hold_erased (act ∷ older) h =
    ap (λ b. if b then next (erase older) else hold_begun (erase older)) (begins_erased act older h.1) ∙
    ap (λ n. if begins_hold act older then n + 1 else hold_begun (erase older)) (length_erased older) ∙
    ap (λ n. if begins_hold act older then next older else n) (begun_hold_erased older h.1)

-- the current state

enable_erased : (until : ℕ) (log : List Act) (f : ℕ) → last_enable until (erase log) f ≡ last_enable until log f
enable_erased until [] f = refl
enable_erased until (acts.Enable g ∷ older) f =
    ap (λ n. if nat_lt (n + 1) until && (g == f) then n + 1 else last_enable until (erase older) f)
    (length_erased older) ∙
    ap (λ n. if nat_lt (next older) until && (g == f) then next older else n) (enable_erased until older f)
enable_erased until (acts.Drop x ∷ older) f =
    erased_drop (λ a. last_enable until (a ∷ erase older) f) older x refl ∙ enable_erased until older f
enable_erased until (_ ∷ older) f = enable_erased until older f

commit_erased : (until : ℕ) (log : List Act) (f : ℕ) → last_commit until (erase log) f ≡ last_commit until log f
commit_erased until [] f = refl
commit_erased until (acts.Commit g ∷ older) f =
    ap (λ n. if nat_lt (n + 1) until && (g == f) then n + 1 else last_commit until (erase older) f)
    (length_erased older) ∙
    ap (λ n. if nat_lt (next older) until && (g == f) then next older else n) (commit_erased until older f)
commit_erased until (acts.Drop x ∷ older) f =
    erased_drop (λ a. last_commit until (a ∷ erase older) f) older x refl ∙ commit_erased until older f
commit_erased until (_ ∷ older) f = commit_erased until older f

between_erased : (from until : ℕ) (older : List Act) (g f : ℕ) →
    between from until (erase older) g f ≡ between from until older g f
between_erased from until older g f =
    ap (λ n. nat_lt from (n + 1) && nat_lt (n + 1) until && (g == f)) (length_erased older)

surrounding_erased : (from until : ℕ) (log : List Act) (f : ℕ) →
    last_surrounding from until (erase log) f ≡ last_surrounding from until log f
surrounding_erased from until [] f = refl
surrounding_erased from until (acts.Surround g text cursor anchor ∷ older) f =
    rw (between_erased from until older g f, surrounding_erased from until older f) refl
surrounding_erased from until (acts.Drop x ∷ older) f =
    erased_drop (λ a. last_surrounding from until (a ∷ erase older) f) older x refl
    ∙ surrounding_erased from until older f
surrounding_erased from until (_ ∷ older) f = surrounding_erased from until older f

cause_erased : (from until : ℕ) (log : List Act) (f : ℕ) →
    last_cause from until (erase log) f ≡ last_cause from until log f
cause_erased from until [] f = refl
cause_erased from until (acts.Cause g cause ∷ older) f =
    rw (between_erased from until older g f, cause_erased from until older f) refl
cause_erased from until (acts.Drop x ∷ older) f =
    erased_drop (λ a. last_cause from until (a ∷ erase older) f) older x refl ∙ cause_erased from until older f
cause_erased from until (_ ∷ older) f = cause_erased from until older f

content_erased : (from until : ℕ) (log : List Act) (f : ℕ) →
    last_content from until (erase log) f ≡ last_content from until log f
content_erased from until [] f = refl
content_erased from until (acts.Content g hint purpose ∷ older) f =
    rw (between_erased from until older g f, content_erased from until older f) refl
content_erased from until (acts.Drop x ∷ older) f =
    erased_drop (λ a. last_content from until (a ∷ erase older) f) older x refl ∙ content_erased from until older f
content_erased from until (_ ∷ older) f = content_erased from until older f

rect_erased : (from until : ℕ) (log : List Act) (f : ℕ) →
    last_rect from until (erase log) f ≡ last_rect from until log f
rect_erased from until [] f = refl
rect_erased from until (acts.Cursor g rect ∷ older) f =
    rw (between_erased from until older g f, rect_erased from until older f) refl
rect_erased from until (acts.Drop x ∷ older) f =
    erased_drop (λ a. last_rect from until (a ∷ erase older) f) older x refl ∙ rect_erased from until older f
rect_erased from until (_ ∷ older) f = rect_erased from until older f

-- what a method would be told of the field, by the bounds of what counts
abbrev state_between : (reset heard applied : ℕ) → List Act → ℕ → State
state_between reset heard applied log h = record {
  surrounding = last_surrounding reset applied log h;
  cause = last_cause heard applied log h;
  content = last_content reset applied log h;
  rect = last_rect reset applied log h;
}

between_same : (reset heard applied : ℕ) (log : List Act) (h : ℕ) →
    state_between reset heard applied (erase log) h ≡ state_between reset heard applied log h
between_same reset heard applied log h =
    rw (
      surrounding_erased reset applied log h,
      cause_erased heard applied log h,
      content_erased reset applied log h,
      rect_erased reset applied log h,
    ) refl

pub current_erased : (log : List Act) (f : ℕ) → IsHistory log → current (erase log) f ≡ current log f
current_erased log f h =
    let reset : last_enable (hold_begun (erase log)) (erase log) f ≡ last_enable (hold_begun log) log f =
    ap (λ n. last_enable n (erase log) f) (begun_hold_erased log h) ∙ enable_erased (hold_begun log) log f in
    let applied : last_commit (next (erase log)) (erase log) f ≡ last_commit (next log) log f =
    ap (λ n. last_commit (n + 1) (erase log) f) (length_erased log) ∙ commit_erased (next log) log f in
    let heard : last_commit (last_commit (next (erase log)) (erase log) f) (erase log) f
    ≡ last_commit (last_commit (next log) log f) log f =
    ap (λ n. last_commit n (erase log) f) applied ∙ commit_erased (last_commit (next log) log f) log f in
    rw (heard, reset, applied) (between_same _ _ _ log f)

-- the method that serves

made_method : (p : ℕ) (older : List Act) (o : Option ℕ) (m : ℕ) → serving older ≡ o →
    ((k : ℕ) → serving older ≡ Some k → is_board older k ≡ false) →
    (if is_none o then Some (next older) else o) ≡ Some m → is_board (acts.Method p ∷ older) m ≡ false
made_method p older None m d k e =
    let n : length older + 1 ≡ m = cc in
    ap (is_board (acts.Method p ∷ older)) (sym n) ∙ ap (is_kind is_board_kind) (object_new (acts.Method p) older)
made_method p older (Some s) m d k e =
    stays_other (acts.Method p) older m (serving_within older m (d ∙ e)) (k m (d ∙ e))

alive_there : (log : List Act) (o : Option ℕ) (x : ℕ) → where_alive log o ≡ Some x → o ≡ Some x
alive_there log None x e = cc
alive_there log (Some y) x e = at (alive log y) e
  where
    at : (b : Bool) → (if b then Some y else None) ≡ Some x → Some y ≡ Some x
    at true e = e
    at false e = cc

pub serving_other : (log : List Act) (m : ℕ) → serving log ≡ Some m → is_board log m ≡ false
serving_other [] m e = cc
serving_other (acts.Method p ∷ older) m e = made_method p older (serving older) m refl (serving_other older) e
serving_other (act ∷ older) m e =
    let d : serving older ≡ Some m = alive_there (act ∷ older) (serving older) m e in
    stays_other act older m (serving_within older m d) (serving_other older m d)

-- where a method was serving, and the act makes none
serving_left : (act : Act) (older : List Act) → IsHistory (act ∷ older) →
    where_alive (erase (act ∷ older)) (serving older) ≡ where_alive (act ∷ older) (serving older)
serving_left act older h =
    alive_erased (act ∷ older) (serving older) h
    (λ m e. stays_other act older m (serving_within older m e) (serving_other older m e))

pub serving_erased : (log : List Act) → IsHistory log → serving (erase log) ≡ serving log
serving_erased [] h = refl
serving_erased (acts.Method p ∷ older) h =
    ap (λ o. if is_none o then Some (next (erase older)) else o) (serving_erased older h.1) ∙
    ap (λ n. if is_none (serving older) then Some (n + 1) else serving older) (length_erased older)
serving_erased (acts.Drop x ∷ older) h =
    at (is_board older x) ∙ ap (where_alive (erase (acts.Drop x ∷ older))) (serving_erased older h.1)
    ∙ serving_left (acts.Drop x) older h
  where
    at : (b : Bool) →
        serving ((if b then acts.Idle else acts.Drop x) ∷ erase older)
        ≡ where_alive ((if b then acts.Idle else acts.Drop x) ∷ erase older) (serving (erase older))
    at true = refl
    at false = refl
serving_erased (act ∷ older) h =
    ap (where_alive (erase (act ∷ older))) (serving_erased older h.1) ∙ serving_left act older h

-- the keys

on_erased : (act : Act) (older : List Act) (o : Option ℕ) → IsHistory (act ∷ older) →
    stands_on (erase (act ∷ older)) o ≡ stands_on (act ∷ older) o
on_erased act older None h = refl
on_erased act older (Some g) h =
    ap (λ m. if is_same m (serving (erase (act ∷ older))) then Some g else None) (method_erased (act ∷ older) g h) ∙
    ap (λ s. if is_same (method_of (act ∷ older) g) s then Some g else None) (serving_erased (act ∷ older) h)

pub standing_erased : (log : List Act) → IsHistory log → standing (erase log) ≡ standing log
standing_erased [] h = refl
standing_erased (acts.Grab m ∷ older) h =
    ap (λ o. if is_none o && is_at (serving (erase older)) m then Some (next (erase older)) else o)
    (standing_erased older h.1) ∙
    ap (λ s. if is_none (standing older) && is_at s m then Some (next (erase older)) else standing older)
    (serving_erased older h.1) ∙
    ap (λ n. if is_none (standing older) && is_at (serving older) m then Some (n + 1) else standing older)
    (length_erased older)
standing_erased (acts.Drop x ∷ older) h =
    at (is_board older x) ∙ ap (stands_on (erase (acts.Drop x ∷ older))) (standing_erased older h.1)
    ∙ on_erased (acts.Drop x) older (standing older) h
  where
    at : (b : Bool) →
        standing ((if b then acts.Idle else acts.Drop x) ∷ erase older)
        ≡ stands_on ((if b then acts.Idle else acts.Drop x) ∷ erase older) (standing (erase older))
    at true = refl
    at false = refl
standing_erased (act ∷ older) h =
    ap (stands_on (erase (act ∷ older))) (standing_erased older h.1) ∙ on_erased act older (standing older) h

pub pressed_erased : (log : List Act) → pressed_keys (erase log) ≡ pressed_keys log
pressed_erased [] = refl
pressed_erased (acts.Key time key state ∷ older) =
    ap (λ ks. if is_press state then with_key key ks else ks) (pressed_erased older)
pressed_erased (acts.Drop x ∷ older) =
    erased_drop (λ a. pressed_keys (a ∷ erase older)) older x refl ∙ pressed_erased older
pressed_erased (_ ∷ older) = pressed_erased older

pub down_erased : (log : List Act) (key : ℕ) → is_down (erase log) key ≡ is_down log key
down_erased [] key = refl
down_erased (acts.Key time k state ∷ older) key =
    ap (λ b. if key == k then is_press state else b) (down_erased older key)
down_erased (acts.Drop x ∷ older) key =
    erased_drop (λ a. is_down (a ∷ erase older) key) older x refl ∙ down_erased older key
down_erased (_ ∷ older) key = down_erased older key

pub number_erased : (log : List Act) → number_down (erase log) ≡ number_down log
number_erased log =
    ap (count_by (is_down (erase log))) (pressed_erased log)
    ∙ count_everywhere (is_down log) (is_down (erase log)) (down_erased log) (pressed_keys log)

pub refused_erased : (log : List Act) (key state : ℕ) → is_refused (erase log) key state ≡ is_refused log key state
refused_erased log key state =
    ap (λ b. (is_press state && not b) && not (nat_lt (number_down (erase log)) 64)) (down_erased log key) ∙
    ap (λ n. is_first_press log key state && not (nat_lt n 64)) (number_erased log)
