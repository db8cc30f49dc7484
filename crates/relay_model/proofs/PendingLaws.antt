-- How the pending state of a field moves at one act.
use Rattle.std.proofs.Common.{◌≡◌, ℕ, ℤ, ◌+◌, ◌<◌, ◌≤◌, max, List, [], ◌∷◌, length, Bool, true, false, Option, Some, None, ap, refl, sym, ◌∙◌, arith, ◌⊎◌, inl, inr}
use Rattle.std.specs.Prelude.{◌==◌, ◌&&◌, if◌then◌else◌}
use Rattle.std.proofs.lemmas.Bool.{ne_eqb, eq-eqb, cases_lt, true≢false, lt-ltb}
use Rattle.popup_place.specs.declared.geometry.Rect.{Rect}
use Rattle.relay_model.specs.declared.act.Act.{Act}
use Rattle.relay_model.specs.declared.act.Act.TheVariants.{Drop, Gone, Focus, Unfocus, Enable, Surround, Cause, Content, Cursor, Commit}
use Rattle.relay_model.specs.Objects.{Object, is_at, is_same, is_kind, is_field_kind, owner, made, remains, object, maker}
use Rattle.relay_model.specs.Focus.{last_focus, focus, peer_at, entered, entered_since}
use Rattle.relay_model.specs.Current.{Around, ContentType, State, initial, last_enable, last_commit}
use Rattle.relay_model.specs.Pending.{pending_by, pending}
use Rattle.relay_model.proofs.ActsOrIdle.{IsHistory}
use Rattle.relay_model.proofs.ObjectLaws.{object_step, object_new}
use Rattle.relay_model.proofs.FocusLaws.{focus_left, focus_step, focus_alive, focus_within, entered_field, entered_within, entered_since_within, same_none, and_false, unfocused_entered}
use Rattle.relay_model.proofs.LookingBack.{set_between, between_now, cause_past, set_past, enable_within, commit_within}

-- what is pending

pending_if : (b : Bool) (x : State) → b ≡ false → (if b then x else initial) ≡ initial
pending_if true x e = cc
pending_if false x e = refl

and_left_false : (a b : Bool) → a ≡ false → (a && b) ≡ false
and_left_false true b e = cc
and_left_false false b e = refl

pending_kept : (act : Act) (log : List Act) (f : ℕ) → entered (act ∷ log) f ≡ true →
    entered_since (act ∷ log) f ≡ entered_since log f →
    pending (act ∷ log) f ≡ pending_by act f (pending log f)
pending_kept act log f e s = rw (e, eq-eqb _ _ s) refl

-- what is pending after an act that leaves a field entered, and since when
pub pending_step : (act : Act) (log : List Act) (f : ℕ) → entered (act ∷ log) f ≡ entered log f →
    entered_since (act ∷ log) f ≡ entered_since log f → entered log f ≡ true →
    pending (act ∷ log) f ≡ pending_by act f (pending log f)
pending_step act log f e s h = pending_kept act log f (e ∙ h) s

-- a field that is not entered has nothing pending
pub pending_out : (log : List Act) (f : ℕ) → entered log f ≡ false → pending log f ≡ initial
pending_out [] f e = refl
pending_out (act ∷ older) f e = pending_if _ _ (and_left_false (entered (act ∷ older) f) _ e)

-- nothing pending is older than the focus act
pub pending_refocused : (t : ℕ) (log : List Act) (f : ℕ) → f ≤ length log → pending (Focus t ∷ log) f ≡ initial
pending_refocused t log f w =
    let low : entered_since log f ≤ length log = entered_since_within log f w in
    rw (ne_eqb (max (length log + 1) f) (entered_since log f) (λ q. omega arith), and_false (entered (Focus t ∷ log) f))
    refl

-- an entered field was there before an act that makes no field
made_before : (act : Act) (log : List Act) (f : ℕ) →
    is_kind is_field_kind (made act (length log + 1) (owner (object log (maker act)))) ≡ false →
    entered (act ∷ log) f ≡ true → f ≤ length log
made_before act log f k e =
    let there : is_kind is_field_kind (object (act ∷ log) f) ≡ true = entered_field (act ∷ log) f e in
    let within : f ≤ length (act ∷ log) = entered_within (act ∷ log) f e in
    elim (cases_lt (length log) f) [
      | inl l ↦
          let new : f ≡ length log + 1 = omega arith in
          absurd (true≢false (sym (rw (new, object_new act log) at there) ∙ k))
      | inr w ↦ w
    ]

out_beyond_by : (b : Bool) (log : List Act) (f : ℕ) → entered log f ≡ b → length log < f → b ≡ false
out_beyond_by true log f e l = let w : f ≤ length log = entered_within log f e in absurd (omega arith)
out_beyond_by false log f e l = refl

-- a field that isn't made yet is not entered
pub out_beyond : (log : List Act) (f : ℕ) → length log < f → entered log f ≡ false
out_beyond log f l = out_beyond_by (entered log f) log f refl l

pending_new_by : (act : Act) (log : List Act) (b c : Bool) → entered (act ∷ log) (length log + 1) ≡ b →
    (if b && c then pending_by act (length log + 1) (pending log (length log + 1)) else initial) ≡ initial
pending_new_by act log true true e = at act log e
  where
    out : (act : Act) (log : List Act) (x : State) →
        is_kind is_field_kind (made act (length log + 1) (owner (object log (maker act)))) ≡ false →
        entered (act ∷ log) (length log + 1) ≡ true → x ≡ initial
    out act log x k e = let w : length log + 1 ≤ length log =
        made_before act log (length log + 1) k e in absurd (omega arith)

    at : (act : Act) (log : List Act) → entered (act ∷ log) (length log + 1) ≡ true →
        pending_by act (length log + 1) (pending log (length log + 1)) ≡ initial
    at (Enable g) log e = out (Enable g) log _ refl e
    at (Surround g text cursor anchor) log e = out (Surround g text cursor anchor) log _ refl e
    at (Cause g cause) log e = out (Cause g cause) log _ refl e
    at (Content g hint purpose) log e = out (Content g hint purpose) log _ refl e
    at (Cursor g rect) log e = out (Cursor g rect) log _ refl e
    at (Commit g) log e = out (Commit g) log _ refl e
    at _ log e = pending_out log (length log + 1) (out_beyond log (length log + 1) (omega arith))
pending_new_by act log true false e = refl
pending_new_by act log false c e = refl

-- the act's own object has nothing pending
pub pending_new : (act : Act) (log : List Act) → pending (act ∷ log) (length log + 1) ≡ initial
pending_new act log = pending_new_by act log (entered (act ∷ log) (length log + 1)) _ refl

-- a field that an act leaves entered by the same focus was entered

remains_if : (b : Bool) (o : Option Object) → ((if b then None else o) ≡ o) ⊎ ((if b then None else o) ≡ None)
remains_if true o = inr refl
remains_if false o = inl refl

remains_or : (act : Act) (x : ℕ) (o : Option Object) → (remains act x o ≡ o) ⊎ (remains act x o ≡ None)
remains_or (Drop y) x o = remains_if (y == x) o
remains_or (Gone p cause) x o = remains_if (is_at (owner o) p) o
remains_or _ x o = inl refl

peer_or_by : (act : Act) (log : List Act) (s : ℕ) → focus log ≡ Some s →
    (remains act s (object log s) ≡ object log s) ⊎ (remains act s (object log s) ≡ None) →
    (peer_at (act ∷ log) (focus_left act log (Some s)) ≡ peer_at log (Some s))
    ⊎ (peer_at (act ∷ log) (focus_left act log (Some s)) ≡ None)
peer_or_by act log s e (inl k) =
    inl (rw (k, focus_alive log s e) (ap owner (object_step act log s (focus_within log s e) ∙ k)))
peer_or_by act log s e (inr k) = inr (rw k refl)

peer_or : (act : Act) (log : List Act) (o : Option ℕ) → focus log ≡ o →
    (peer_at (act ∷ log) (focus_left act log o) ≡ peer_at log o) ⊎ (peer_at (act ∷ log) (focus_left act log o) ≡ None)
peer_or act log None e = inl refl
peer_or act log (Some s) e = peer_or_by act log s e (remains_or act s (object log s))

back_by : (later now : Option Object) (after before : Option ℕ) → (later ≡ now) ⊎ (later ≡ None) →
    (after ≡ before) ⊎ (after ≡ None) →
    (is_kind is_field_kind later && is_same (owner later) after) ≡ true →
    (is_kind is_field_kind now && is_same (owner now) before) ≡ true
back_by later now after before (inl j) (inl k) e = rw (j, k) at e
back_by later now after before (inl j) (inr k) e =
    let none : (is_kind is_field_kind later && false) ≡ true = rw (k, same_none (owner later)) at e in
    absurd (true≢false (sym none ∙ and_false (is_kind is_field_kind later)))
back_by later now after before (inr j) k e = let none : false ≡ true = rw j at e in cc

entered_back : (act : Act) (log : List Act) (f : ℕ) → IsHistory log → f ≤ length log →
    last_focus (act ∷ log) ≡ last_focus log →
    entered (act ∷ log) f ≡ true → entered log f ≡ true
entered_back act log f i w d e =
    let seen : (is_kind is_field_kind (remains act f (object log f))
    && is_same (owner (remains act f (object log f))) (peer_at (act ∷ log) (focus_left act log (focus log)))) ≡ true =
    rw (object_step act log f w, focus_step act log i d) at e in
    back_by _ _ _ _ (remains_or act f (object log f)) (peer_or act log (focus log) refl) seen

-- the act that f's pending state goes back to
abbrev pub applies_from : ℕ → List Act → ℕ → ℕ
applies_from until log f = max (last_enable until log f) (entered_since log f)

abbrev pub set_since : ℕ → List Act → ℕ → State
set_since until log f =
    set_between (applies_from until log f) (max (applies_from until log f) (last_commit until log f)) until log f

from_within : (until : ℕ) (log : List Act) (f : ℕ) → f ≤ length log → applies_from until log f ≤ length log
from_within until log f w = omega (arith, enable_within until log f, entered_since_within log f w)

heard_within : (until : ℕ) (log : List Act) (f : ℕ) → f ≤ length log →
    max (applies_from until log f) (last_commit until log f) ≤ length log
heard_within until log f w = omega (arith, from_within until log f w, commit_within until log f)

-- what a request makes of it

surrounding_if : (b : Bool) (around : Around) (x : State) → (if b then record x { surrounding = Some around } else x)
    ≡ record {
      surrounding = if b then Some around else x.surrounding;
      cause = x.cause;
      content = x.content;
      rect = x.rect;
    }
surrounding_if true around x = refl
surrounding_if false around x = refl

cause_if : (b : Bool) (cause : ℕ) (x : State) → (if b then record x { cause = cause } else x)
    ≡ record { surrounding = x.surrounding; cause = if b then cause else x.cause; content = x.content; rect = x.rect }
cause_if true cause x = refl
cause_if false cause x = refl

content_if : (b : Bool) (content : ContentType) (x : State) → (if b then record x { content = content } else x)
    ≡ record { surrounding = x.surrounding; cause = x.cause; content = if b then content else x.content; rect = x.rect }
content_if true content x = refl
content_if false content x = refl

rect_if : (b : Bool) (rect : Rect) (x : State) → (if b then record x { rect = Some rect } else x)
    ≡ record {
      surrounding = x.surrounding;
      cause = x.cause;
      content = x.content;
      rect = if b then Some rect
          else x.rect;
    }
rect_if true rect x = refl
rect_if false rect x = refl

enable_if : (b : Bool) (until : ℕ) (older : List Act) (f since commit : ℕ) →
    (if b then initial else
    set_between (max (last_enable until older f) since)
    (max (max (last_enable until older f) since) commit) until older f)
    ≡ set_between (max (if b then length older + 1 else last_enable until older f) since)
    (max (max (if b then length older + 1 else last_enable until older f) since) commit) until older f
enable_if true until older f since commit = sym (set_past _ _ until older f (omega arith) (omega arith))
enable_if false until older f since commit = refl

commit_if : (b : Bool) (until : ℕ) (older : List Act) (f from commit : ℕ) →
    (if b then record (set_between from (max from commit) until older f) { cause = 0 }
    else set_between from (max from commit) until older f)
    ≡ set_between from (max from (if b then length older + 1 else commit)) until older f
commit_if true until older f from commit =
    rw (cause_past (max from (length older + 1)) until older f (omega arith)) refl
commit_if false until older f from commit = refl

since_enabled : (g : ℕ) (older : List Act) (f until : ℕ) → length older + 1 < until →
    pending_by (Enable g) f (set_since until older f) ≡ set_since until (Enable g ∷ older) f
since_enabled g older f until u =
    let e : (if g == f then length older + 1 else last_enable until older f) ≡ last_enable until (Enable g ∷ older) f =
    rw (lt-ltb (length older + 1) until u) refl in
    let since = entered_since older f in
    let commit = last_commit until older f in
    enable_if (g == f) until older f since commit
    ∙ ap (λ n. set_between (max n since) (max (max n since) commit) until older f) e

since_committed : (g : ℕ) (older : List Act) (f until : ℕ) → length older + 1 < until →
    pending_by (Commit g) f (set_since until older f) ≡ set_since until (Commit g ∷ older) f
since_committed g older f until u =
    let e : (if g == f then length older + 1 else last_commit until older f) ≡ last_commit until (Commit g ∷ older) f =
    rw (lt-ltb (length older + 1) until u) refl in
    let from = applies_from until older f in
    commit_if (g == f) until older f from (last_commit until older f)
    ∙ ap (λ n. set_between from (max from n) until older f) e

since_surrounded : (g : ℕ) (text : List ℕ) (cursor anchor : ℤ) (older : List Act) (f until : ℕ) →
    length older + 1 < until →
    f ≤ length older → pending_by (Surround g text cursor anchor) f (set_since until older f)
    ≡ set_since until (Surround g text cursor anchor ∷ older) f
since_surrounded g text cursor anchor older f until u w =
    rw (between_now (applies_from until older f) until older g f (from_within until older f w) u)
    (surrounding_if (g == f) (record { text = text; cursor = cursor; anchor = anchor }) (set_since until older f))

since_caused : (g cause : ℕ) (older : List Act) (f until : ℕ) → length older + 1 < until → f ≤ length older →
    pending_by (Cause g cause) f (set_since until older f) ≡ set_since until (Cause g cause ∷ older) f
since_caused g cause older f until u w =
    rw (between_now (max (applies_from until older f) (last_commit until older f)) until older g f
    (heard_within until older f w) u)
    (cause_if (g == f) cause (set_since until older f))

since_content : (g hint purpose : ℕ) (older : List Act) (f until : ℕ) → length older + 1 < until → f ≤ length older →
    pending_by (Content g hint purpose) f (set_since until older f) ≡ set_since until (Content g hint purpose ∷ older) f
since_content g hint purpose older f until u w =
    rw (between_now (applies_from until older f) until older g f (from_within until older f w) u)
    (content_if (g == f) (record { hint = hint; purpose = purpose }) (set_since until older f))

since_cursor : (g : ℕ) (rect : Rect) (older : List Act) (f until : ℕ) → length older + 1 < until → f ≤ length older →
    pending_by (Cursor g rect) f (set_since until older f) ≡ set_since until (Cursor g rect ∷ older) f
since_cursor g rect older f until u w =
    rw (between_now (applies_from until older f) until older g f (from_within until older f w) u)
    (rect_if (g == f) rect (set_since until older f))

-- what an entered field has pending after an act, if before it was so too
pending_past : (act : Act) (older : List Act) (f until : ℕ) → IsHistory older → f ≤ length older →
    entered (act ∷ older) f ≡ true →
    last_focus (act ∷ older) ≡ last_focus older → entered_since (act ∷ older) f ≡ entered_since older f →
    (entered older f ≡ true → pending older f ≡ set_since until older f) →
    pending_by act f (set_since until older f) ≡ set_since until (act ∷ older) f →
    pending (act ∷ older) f ≡ set_since until (act ∷ older) f
pending_past act older f until i w e d s before step =
    pending_kept act older f e s ∙ ap (pending_by act f) (before (entered_back act older f i w d e)) ∙ step

since_new : (until : ℕ) (log : List Act) (f : ℕ) → length log < f → set_since until log f ≡ initial
since_new until log f l = set_past _ _ until log f (omega arith) (omega arith)

-- after an act that sets nothing the field may be one that is just made
pending_unset : (act : Act) (older : List Act) (f until : ℕ) → IsHistory older → entered (act ∷ older) f ≡ true →
    last_focus (act ∷ older) ≡ last_focus older → entered_since (act ∷ older) f ≡ entered_since older f →
    (entered older f ≡ true → pending older f ≡ set_since until older f) →
    ((rest : State) → pending_by act f rest ≡ rest) → set_since until (act ∷ older) f ≡ set_since until older f →
    pending (act ∷ older) f ≡ set_since until (act ∷ older) f
pending_unset act older f until i e d s before same after =
    elim (cases_lt (length older) f) [
      | inl l ↦
          pending_kept act older f e s ∙ same (pending older f) ∙ pending_out older f (out_beyond older f l)
          ∙ sym (after ∙ since_new until older f l)
      | inr w ↦ pending_past act older f until i w e d s before (same (set_since until older f) ∙ sym after)
    ]

-- What an entered field has pending is what it set since it was entered and since its last enable, and of the cause
-- since its last commit.
pub pending_is : (log : List Act) (f until : ℕ) → IsHistory log → length log < until → entered log f ≡ true →
    pending log f ≡ set_since until log f
pending_is [] f until i u e = cc
pending_is (Focus t ∷ older) f until i u e =
    pending_refocused t older f (made_before (Focus t) older f refl e)
    ∙ sym (set_past _ _ until (Focus t ∷ older) f (omega arith) (omega arith))
pending_is (Unfocus ∷ older) f until i u e = absurd (true≢false (sym e ∙ unfocused_entered (Unfocus ∷ older) f refl))
pending_is (Enable g ∷ older) f until i u e =
    let w : f ≤ length older = made_before (Enable g) older f refl e in
    let before = pending_is older f until i.1 (omega arith) in
    pending_past (Enable g) older f until i.1 w e refl refl before (since_enabled g older f until (omega arith))
pending_is (Commit g ∷ older) f until i u e =
    let w : f ≤ length older = made_before (Commit g) older f refl e in
    let before = pending_is older f until i.1 (omega arith) in
    pending_past (Commit g) older f until i.1 w e refl refl before (since_committed g older f until (omega arith))
pending_is (Surround g text cursor anchor ∷ older) f until i u e =
    let w : f ≤ length older = made_before (Surround g text cursor anchor) older f refl e in
    let before = pending_is older f until i.1 (omega arith) in
    pending_past (Surround g text cursor anchor) older f until i.1 w e refl refl before
    (since_surrounded g text cursor anchor older f until (omega arith) w)
pending_is (Cause g cause ∷ older) f until i u e =
    let w : f ≤ length older = made_before (Cause g cause) older f refl e in
    let before = pending_is older f until i.1 (omega arith) in
    pending_past (Cause g cause) older f until i.1 w e refl refl before
    (since_caused g cause older f until (omega arith) w)
pending_is (Content g hint purpose ∷ older) f until i u e =
    let w : f ≤ length older = made_before (Content g hint purpose) older f refl e in
    let before = pending_is older f until i.1 (omega arith) in
    pending_past (Content g hint purpose) older f until i.1 w e refl refl before
    (since_content g hint purpose older f until (omega arith) w)
pending_is (Cursor g rect ∷ older) f until i u e =
    let w : f ≤ length older = made_before (Cursor g rect) older f refl e in
    let before = pending_is older f until i.1 (omega arith) in
    pending_past (Cursor g rect) older f until i.1 w e refl refl before
    (since_cursor g rect older f until (omega arith) w)
pending_is (act ∷ older) f until i u e =
    pending_unset act older f until i.1 e refl refl (pending_is older f until i.1 (omega arith)) (λ rest. refl) refl
