-- How the words and the hold move at one act.
use Rattle.std.proofs.Common.{◌≡◌, ℕ, ◌+◌, ◌≤◌, max, List, [], ◌∷◌, length, Bool, true, false, Option, Some, None, refl, sym, ◌∙◌, arith}
use Rattle.std.specs.Prelude.{◌==◌, ◌&&◌, nat_le, if◌then◌else◌}
use Rattle.std.proofs.lemmas.Bool.{ne_eqb, eq-eqb, true≢false, lt-leb, le-leb}
use Rattle.relay_model.specs.declared.act.Act.{Act}
use Rattle.relay_model.specs.declared.act.Act.TheVariants.{Focus, Commit}
use Rattle.relay_model.specs.declared.act.Word.{Word}
use Rattle.relay_model.specs.declared.act.Word.TheVariants.{Enabled, Disabled}
use Rattle.relay_model.specs.Objects.{is_at}
use Rattle.relay_model.specs.Focus.{focus, entered, entered_since}
use Rattle.relay_model.specs.Hold.{word_by, word_past, word, kept, holder}
use Rattle.relay_model.proofs.ActsOrIdle.{IsHistory}
use Rattle.relay_model.proofs.ObjectLaws.{if_same}
use Rattle.relay_model.proofs.FocusLaws.{IsSteady, entered_same, entered_since_same, entered_within, entered_since_within, unfocused_entered, and_false}

word_step_by : (act : Act) (log : List Act) (f : ℕ) (b c : Bool) (n : ℕ) → entered log f ≡ b → c ≡ b →
    n ≡ entered_since log f → f ≤ length log →
    (if c then (if nat_le (length log + 1) n then None else word_by act f (word_past n log f)) else None)
    ≡ (if b then word_by act f (word_past (entered_since log f) log f) else None)
word_step_by act log f false c n e k l w = rw k refl
word_step_by act log f true c n e k l w =
    let low : entered_since log f ≤ length log = entered_since_within log f w in
    rw (k, lt-leb (length log + 1) n (omega arith), l) refl

-- the word after an act that leaves the field entered or not, and since when
pub word_step : (act : Act) (log : List Act) (f : ℕ) → f ≤ length log → entered (act ∷ log) f ≡ entered log f →
    entered_since (act ∷ log) f ≡ entered_since log f →
    word (act ∷ log) f ≡ (if entered log f then word_by act f (word_past (entered_since log f) log f) else None)
word_step act log f w e s =
    word_step_by act log f (entered log f) (entered (act ∷ log) f) (entered_since (act ∷ log) f) refl e s w

-- an act that says nothing of words
abbrev pub IsWordless : Act → Type 0
IsWordless act = (f : ℕ) (rest : Option Word) → word_by act f rest ≡ rest

pub word_kept : (act : Act) (log : List Act) (f : ℕ) → f ≤ length log → entered (act ∷ log) f ≡ entered log f →
    entered_since (act ∷ log) f ≡ entered_since log f → IsWordless act → word (act ∷ log) f ≡ word log f
word_kept act log f w e s k =
    let new : word (act ∷ log) f
    ≡ (if entered log f then word_by act f (word_past (entered_since log f) log f) else None) =
    word_step act log f w e s in
    let same : word_by act f (word_past (entered_since log f) log f) ≡ word_past (entered_since log f) log f = k f _ in
    rw same at new

-- no word is older than the focus act
pub word_refocused : (t : ℕ) (log : List Act) (f : ℕ) → word (Focus t ∷ log) f ≡ None
word_refocused t log f =
    rw (le-leb (length log + 1) (entered_since (Focus t ∷ log) f) (omega arith))
    (if_same (entered (Focus t ∷ log) f) None)

pub word_unfocused : (log : List Act) (f : ℕ) → focus log ≡ None → word log f ≡ None
word_unfocused log f e = rw (unfocused_entered log f e) refl

-- the act's own object has no word
pub word_new : (act : Act) (log : List Act) → word (act ∷ log) (length log + 1) ≡ None
word_new act log =
    rw (le-leb (length log + 1) (entered_since (act ∷ log) (length log + 1)) (omega arith))
    (if_same (entered (act ∷ log) (length log + 1)) None)

pub word_out : (log : List Act) (f : ℕ) → entered log f ≡ false → word log f ≡ None
word_out log f e = rw e refl

-- the hold

guard_some : (a b : Bool) (g h : ℕ) → (if a && b then Some g else None) ≡ Some h → (a ≡ true) × (g ≡ h)
guard_some true true g h e = (refl, cc)
guard_some true false g h e = cc
guard_some false b g h e = cc

kept_entered : (act : Act) (older : List Act) (held : Option ℕ) (h : ℕ) → kept act older held ≡ Some h →
    entered (act ∷ older) h ≡ true
kept_entered act older None h e = cc
kept_entered act older (Some g) h e =
    let p : (entered (act ∷ older) g ≡ true) × (g ≡ h) =
    guard_some (entered (act ∷ older) g) (entered_since (act ∷ older) g == entered_since older g) g h e in
    rw (← p.1) p.0

pub commit_steady : (f : ℕ) → IsSteady (Commit f)
commit_steady f = record { keeps = λ x o. refl; last = λ log. refl; since = λ log. refl }

commit_entered : (a b d : Bool) (older : List Act) (f h : ℕ) (held : Option ℕ) → IsHistory older → entered older f ≡ a →
    (kept (Commit f) older held ≡ Some h → entered (Commit f ∷ older) h ≡ true) →
    (if a && b then Some f else (if d then None else kept (Commit f) older held)) ≡ Some h →
    entered (Commit f ∷ older) h ≡ true
commit_entered true true d older f h held i a k e =
    let p : f ≡ h = cc in
    rw (← p) (entered_same (Commit f) older f i (commit_steady f) (entered_within older f a) ∙ a)
commit_entered true false true older f h held i a k e = cc
commit_entered true false false older f h held i a k e = k e
commit_entered false b true older f h held i a k e = cc
commit_entered false b false older f h held i a k e = k e

-- the holder is entered
pub holder_entered : (log : List Act) (h : ℕ) → IsHistory log → holder log ≡ Some h → entered log h ≡ true
holder_entered [] h i e = cc
holder_entered (Commit f ∷ older) h i e =
    commit_entered _ _ _ older f h (holder older) i.1 refl (kept_entered (Commit f) older (holder older) h) e
holder_entered (act ∷ older) h i e = kept_entered act older (holder older) h e

pub holder_within : (log : List Act) (h : ℕ) → IsHistory log → holder log ≡ Some h → h ≤ length log
holder_within log h i e = entered_within log h (holder_entered log h i e)

kept_same_by : (act : Act) (log : List Act) (o : Option ℕ) → IsHistory log → IsSteady act → holder log ≡ o →
    kept act log o ≡ o
kept_same_by act log None i k e = refl
kept_same_by act log (Some h) i k e =
    let now : entered log h ≡ true = holder_entered log h i e in
    let later : entered (act ∷ log) h ≡ true = entered_same act log h i k (entered_within log h now) ∙ now in
    let same : (entered_since (act ∷ log) h == entered_since log h) ≡ true =
    eq-eqb _ _ (entered_since_same act log h k) in
    rw (later, same) refl

-- a steady act keeps the holder, where no commit moves it
pub kept_same : (act : Act) (log : List Act) → IsHistory log → IsSteady act → kept act log (holder log) ≡ holder log
kept_same act log i k = kept_same_by act log (holder log) i k refl

guard_none : (a b : Bool) (g : ℕ) → b ≡ false → (if a && b then Some g else None) ≡ None
guard_none true true g e = cc
guard_none true false g e = refl
guard_none false b g e = refl

guard_none_left : (a b : Bool) (g : ℕ) → a ≡ false → (if a && b then Some g else None) ≡ None
guard_none_left true b g e = cc
guard_none_left false b g e = refl

holder_refocused_by : (t : ℕ) (log : List Act) (o : Option ℕ) → IsHistory log → holder log ≡ o →
    kept (Focus t) log o ≡ None
holder_refocused_by t log None i e = refl
holder_refocused_by t log (Some h) i e =
    let low : entered_since log h ≤ length log = entered_since_within log h (holder_within log h i e) in
    guard_none (entered (Focus t ∷ log) h) _ h
    (ne_eqb (max (length log + 1) h) (entered_since log h) (λ q. omega arith))

-- a hold ends when the focus moves
pub holder_refocused : (t : ℕ) (log : List Act) → IsHistory log → holder (Focus t ∷ log) ≡ None
holder_refocused t log i = holder_refocused_by t log (holder log) i refl

kept_unfocused_by : (act : Act) (log : List Act) (o : Option ℕ) → focus (act ∷ log) ≡ None → kept act log o ≡ None
kept_unfocused_by act log None e = refl
kept_unfocused_by act log (Some h) e =
    guard_none_left (entered (act ∷ log) h) (entered_since (act ∷ log) h == entered_since log h) h
    (unfocused_entered (act ∷ log) h e)

-- and when it ends
pub kept_unfocused : (act : Act) (log : List Act) → focus (act ∷ log) ≡ None → kept act log (holder log) ≡ None
kept_unfocused act log e = kept_unfocused_by act log (holder log) e

-- a hold goes on where its field and the focus are as before
pub kept_on : (act : Act) (log : List Act) (h : ℕ) → entered (act ∷ log) h ≡ true →
    entered_since (act ∷ log) h ≡ entered_since log h →
    kept act log (Some h) ≡ Some h
kept_on act log h e s = rw (e, eq-eqb _ _ s) refl

pub kept_out : (act : Act) (log : List Act) (h : ℕ) → entered (act ∷ log) h ≡ false → kept act log (Some h) ≡ None
kept_out act log h e = guard_none_left (entered (act ∷ log) h) (entered_since (act ∷ log) h == entered_since log h) h e

-- what a commit of f with this word makes of the holder
abbrev pub held_after : ℕ → Option Word → Option ℕ → Option ℕ
held_after f None held = held
held_after f (Some Enabled) held = Some f
held_after f (Some Disabled) held = (if is_at held f then None else held)

word_entered_by : (b : Bool) (x : Option Word) (w : Word) → (if b then x else None) ≡ Some w → b ≡ true
word_entered_by true x w e = refl
word_entered_by false x w e = cc

-- a field with a word is entered
pub word_entered : (log : List Act) (f : ℕ) (w : Word) → word log f ≡ Some w → entered log f ≡ true
word_entered log f w e = word_entered_by (entered log f) _ w e

pub and_true : (b : Bool) → (b && true) ≡ b
and_true true = refl
and_true false = refl

holder_committed_by : (log : List Act) (f : ℕ) (w : Option Word) → IsHistory log → word log f ≡ w →
    holder (Commit f ∷ log) ≡ held_after f w (holder log)
holder_committed_by log f None i e =
    let same : kept (Commit f) log (holder log) ≡ holder log = kept_same (Commit f) log i (commit_steady f) in
    rw (e, and_false (entered log f), and_false (is_at (holder log) f), same) refl
holder_committed_by log f (Some Enabled) i e =
    let here : entered log f ≡ true = word_entered log f Enabled e in
    rw (e, here) refl
holder_committed_by log f (Some Disabled) i e =
    let same : kept (Commit f) log (holder log) ≡ holder log = kept_same (Commit f) log i (commit_steady f) in
    rw (e, and_false (entered log f), and_true (is_at (holder log) f), same) refl

pub holder_committed : (log : List Act) (f : ℕ) → IsHistory log →
    holder (Commit f ∷ log) ≡ held_after f (word log f) (holder log)
holder_committed log f i = holder_committed_by log f (word log f) i refl

out_by : (log : List Act) (f : ℕ) (o : Option ℕ) → IsHistory log → holder log ≡ o → entered log f ≡ false →
    is_at o f ≡ false
out_by log f None i e out = refl
out_by log f (Some h) i e out =
    ne_eqb h f (λ k. true≢false (sym (rw k at (holder_entered log h i e)) ∙ out))

-- a field that is not entered does not hold
pub out_holds_not : (log : List Act) (f : ℕ) → IsHistory log → entered log f ≡ false → is_at (holder log) f ≡ false
out_holds_not log f i out = out_by log f (holder log) i refl out
