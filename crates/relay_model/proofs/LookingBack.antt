-- What looking back in a history finds: between which acts it matters to look.
use Rattle.std.proofs.Common.{◌≡◌, ℕ, ◌+◌, ◌<◌, ◌≤◌, List, [], ◌∷◌, length, Bool, true, false, Option, Some, None, refl, arith}
use Rattle.std.specs.Prelude.{◌==◌, ◌&&◌, nat_le, nat_lt, if◌then◌else◌}
use Rattle.std.proofs.lemmas.Bool.{lt-ltb, le-ltb}
use Rattle.std.proofs.lemmas.Bool.Decides.{nat_tests}
use Rattle.relay_model.specs.declared.act.Act.{Act}
use Rattle.relay_model.specs.declared.act.Act.TheVariants.{Enable, Disable, Surround, Cause, Content, Cursor, Commit}
use Rattle.relay_model.specs.declared.act.Word.{Word}
use Rattle.relay_model.specs.declared.act.Word.TheVariants.{Enabled, Disabled}
use Rattle.relay_model.specs.Hold.{word_by, word_past, hold_begun, begins_hold}
use Rattle.relay_model.specs.Current.{State, initial, last_enable, last_commit, between, last_surrounding, last_cause, last_content, last_rect}
use Rattle.relay_model.specs.Pending.{is_commit_of}
use Rattle.relay_model.proofs.FocusLaws.{and_false}

-- what f set between two acts, of the cause from another act on
abbrev pub set_between : ℕ → ℕ → ℕ → List Act → ℕ → State
set_between from heard until log f = record {
  surrounding = last_surrounding from until log f;
  cause = last_cause heard until log f;
  content = last_content from until log f;
  rect = last_rect from until log f;
}

-- the two tests of a look back

between_past : (from until : ℕ) (older : List Act) (g f : ℕ) → length older + 1 ≤ from →
    between from until older g f ≡ false
between_past from until older g f l = rw (le-ltb from (length older + 1) l) refl

pub and_middle : (a b : Bool) → (a && false && b) ≡ false
and_middle true b = refl
and_middle false b = refl

between_above : (from until : ℕ) (older : List Act) (g f : ℕ) → until ≤ length older + 1 →
    between from until older g f ≡ false
between_above from until older g f l =
    rw (le-ltb (length older + 1) until l) (and_middle (nat_lt from (length older + 1)) (g == f))

pub between_now : (from until : ℕ) (older : List Act) (g f : ℕ) → from ≤ length older → length older + 1 < until →
    between from until older g f ≡ (g == f)
between_now from until older g f l u =
    rw (lt-ltb from (length older + 1) (omega arith), lt-ltb (length older + 1) until u) refl

-- nothing is set past the last act

surrounding_past : (from until : ℕ) (log : List Act) (f : ℕ) → length log ≤ from →
    last_surrounding from until log f ≡ None
surrounding_past from until [] f l = refl
surrounding_past from until (Surround g text cursor anchor ∷ older) f l =
    rw (between_past from until older g f (omega arith)) (surrounding_past from until older f (omega arith))
surrounding_past from until (_ ∷ older) f l = surrounding_past from until older f (omega arith)

pub cause_past : (from until : ℕ) (log : List Act) (f : ℕ) → length log ≤ from → last_cause from until log f ≡ 0
cause_past from until [] f l = refl
cause_past from until (Cause g cause ∷ older) f l =
    rw (between_past from until older g f (omega arith)) (cause_past from until older f (omega arith))
cause_past from until (_ ∷ older) f l = cause_past from until older f (omega arith)

content_past : (from until : ℕ) (log : List Act) (f : ℕ) → length log ≤ from →
    last_content from until log f ≡ record { hint = 0; purpose = 0 }
content_past from until [] f l = refl
content_past from until (Content g hint purpose ∷ older) f l =
    rw (between_past from until older g f (omega arith)) (content_past from until older f (omega arith))
content_past from until (_ ∷ older) f l = content_past from until older f (omega arith)

rect_past : (from until : ℕ) (log : List Act) (f : ℕ) → length log ≤ from → last_rect from until log f ≡ None
rect_past from until [] f l = refl
rect_past from until (Cursor g rect ∷ older) f l =
    rw (between_past from until older g f (omega arith)) (rect_past from until older f (omega arith))
rect_past from until (_ ∷ older) f l = rect_past from until older f (omega arith)

pub set_past : (from heard until : ℕ) (log : List Act) (f : ℕ) → length log ≤ from → length log ≤ heard →
    set_between from heard until log f ≡ initial
set_past from heard until log f l k =
    rw (
      surrounding_past from until log f l,
      cause_past heard until log f k,
      content_past from until log f l,
      rect_past from until log f l,
    ) refl

-- an act at or above the upper bound changes nothing

pub enable_above : (until : ℕ) (act : Act) (older : List Act) (f : ℕ) → until ≤ length older + 1 →
    last_enable until (act ∷ older) f ≡ last_enable until older f
enable_above until (Enable g) older f l = rw (le-ltb (length older + 1) until l) refl
enable_above until _ older f l = refl

pub commit_above : (until : ℕ) (act : Act) (older : List Act) (f : ℕ) → until ≤ length older + 1 →
    last_commit until (act ∷ older) f ≡ last_commit until older f
commit_above until (Commit g) older f l = rw (le-ltb (length older + 1) until l) refl
commit_above until _ older f l = refl

surrounding_above : (from until : ℕ) (act : Act) (older : List Act) (f : ℕ) → until ≤ length older + 1 →
    last_surrounding from until (act ∷ older) f ≡ last_surrounding from until older f
surrounding_above from until (Surround g text cursor anchor) older f l = rw (between_above from until older g f l) refl
surrounding_above from until _ older f l = refl

cause_above : (from until : ℕ) (act : Act) (older : List Act) (f : ℕ) → until ≤ length older + 1 →
    last_cause from until (act ∷ older) f ≡ last_cause from until older f
cause_above from until (Cause g cause) older f l = rw (between_above from until older g f l) refl
cause_above from until _ older f l = refl

content_above : (from until : ℕ) (act : Act) (older : List Act) (f : ℕ) → until ≤ length older + 1 →
    last_content from until (act ∷ older) f ≡ last_content from until older f
content_above from until (Content g hint purpose) older f l = rw (between_above from until older g f l) refl
content_above from until _ older f l = refl

rect_above : (from until : ℕ) (act : Act) (older : List Act) (f : ℕ) → until ≤ length older + 1 →
    last_rect from until (act ∷ older) f ≡ last_rect from until older f
rect_above from until (Cursor g rect) older f l = rw (between_above from until older g f l) refl
rect_above from until _ older f l = refl

pub set_above : (from heard until : ℕ) (act : Act) (older : List Act) (f : ℕ) → until ≤ length older + 1 →
    set_between from heard until (act ∷ older) f ≡ set_between from heard until older f
set_above from heard until act older f l =
    rw (
      surrounding_above from until act older f l,
      cause_above heard until act older f l,
      content_above from until act older f l,
      rect_above from until act older f l,
    ) refl

-- the last enable and the last commit are acts of the list

number_within : (b : Bool) (n k : ℕ) → k ≤ n → (if b then n + 1 else k) ≤ n + 1
number_within true n k l = omega arith
number_within false n k l = omega arith

pub enable_within : (until : ℕ) (log : List Act) (f : ℕ) → last_enable until log f ≤ length log
enable_within until [] f = omega arith
enable_within until (Enable g ∷ older) f =
    let k : last_enable until (Enable g ∷ older) f ≤ length older + 1 =
    number_within (nat_lt (length older + 1) until && (g == f)) (length older) (last_enable until older f)
    (enable_within until older f) in
    omega arith
enable_within until (_ ∷ older) f = let k : last_enable until older f ≤ length older =
    enable_within until older f in omega arith

pub commit_within : (until : ℕ) (log : List Act) (f : ℕ) → last_commit until log f ≤ length log
commit_within until [] f = omega arith
commit_within until (Commit g ∷ older) f =
    let k : last_commit until (Commit g ∷ older) f ≤ length older + 1 =
    number_within (nat_lt (length older + 1) until && (g == f)) (length older) (last_commit until older f)
    (commit_within until older f) in
    omega arith
commit_within until (_ ∷ older) f = let k : last_commit until older f ≤ length older =
    commit_within until older f in omega arith

-- where the upper bound is above the list, it doesn't matter which it is

pub enable_any : (until other : ℕ) (log : List Act) (f : ℕ) → length log < until → length log < other →
    last_enable until log f ≡ last_enable other log f
enable_any until other [] f l k = refl
enable_any until other (Enable g ∷ older) f l k =
    rw (
      lt-ltb (length older + 1) until (omega arith),
      lt-ltb (length older + 1) other (omega arith),
      enable_any until other older f (omega arith) (omega arith),
    ) refl
enable_any until other (_ ∷ older) f l k = enable_any until other older f (omega arith) (omega arith)

pub commit_any : (until other : ℕ) (log : List Act) (f : ℕ) → length log < until → length log < other →
    last_commit until log f ≡ last_commit other log f
commit_any until other [] f l k = refl
commit_any until other (Commit g ∷ older) f l k =
    rw (
      lt-ltb (length older + 1) until (omega arith),
      lt-ltb (length older + 1) other (omega arith),
      commit_any until other older f (omega arith) (omega arith),
    ) refl
commit_any until other (_ ∷ older) f l k = commit_any until other older f (omega arith) (omega arith)

-- an act that is no commit of f
pub commit_other : (until : ℕ) (act : Act) (older : List Act) (f : ℕ) → is_commit_of act f ≡ false →
    last_commit until (act ∷ older) f ≡ last_commit until older f
commit_other until (Commit g) older f e = rw (e, and_false (nat_lt (length older + 1) until)) refl
commit_other until _ older f e = refl

-- words

past_if : (b : Bool) (x : Option Word) (w : Word) → (if b then None else x) ≡ Some w → (b ≡ false) × (x ≡ Some w)
past_if true x w e = cc
past_if false x w e = (refl, e)

enabled_by : (b c : Bool) (from n k : ℕ) (rest : Option Word) → nat_le (n + 1) from ≡ c →
    (rest ≡ Some Enabled → from < k) →
    (if c then None else (if b then Some Enabled else rest)) ≡ Some Enabled → from < (if b then n + 1 else k)
enabled_by b true from n k rest c h e = cc
enabled_by true false from n k rest c h e = grind (arith, nat_tests)
enabled_by false false from n k rest c h e = h e

unsaid_by : (b c : Bool) (other : Option Word) (rest : Option Word) → (other ≡ Some Enabled → ⊥) →
    (if c then None else (if b then other else rest)) ≡ Some Enabled → rest ≡ Some Enabled
unsaid_by b true other rest n e = cc
unsaid_by true false other rest n e = absurd (n e)
unsaid_by false false other rest n e = e

-- where the word is enable, the last enable is past the lower bound
pub enabled_past : (from until : ℕ) (log : List Act) (f : ℕ) → length log < until →
    word_past from log f ≡ Some Enabled →
    from < last_enable until log f
enabled_past from until [] f l e = cc
enabled_past from until (Enable g ∷ older) f l e =
    rw (lt-ltb (length older + 1) until (omega arith))
    (enabled_by (g == f) (nat_le (length older + 1) from) from (length older) (last_enable until older f)
    (word_past from older f) refl
    (enabled_past from until older f (omega arith)) e)
enabled_past from until (Disable g ∷ older) f l e =
    enabled_past from until older f (omega arith)
    (unsaid_by (g == f) (nat_le (length older + 1) from) (Some Disabled) (word_past from older f) (λ d. cc) e)
enabled_past from until (Commit g ∷ older) f l e =
    enabled_past from until older f (omega arith)
    (unsaid_by (g == f) (nat_le (length older + 1) from) None (word_past from older f) (λ d. cc) e)
enabled_past from until (_ ∷ older) f l e = enabled_past from until older f (omega arith) (past_if _ _ Enabled e).1

unsaid_if : (b : Bool) (w : Word) (rest : Option Word) → (if b then Some w else rest) ≡ None →
    (b ≡ false) × (rest ≡ None)
unsaid_if true w rest e = cc
unsaid_if false w rest e = (refl, e)

-- where an act that is no commit of f leaves f without a word, there was none
pub unsaid : (act : Act) (f : ℕ) (rest : Option Word) → is_commit_of act f ≡ false → word_by act f rest ≡ None →
    rest ≡ None
unsaid (Enable g) f rest c e = (unsaid_if (g == f) Enabled rest e).1
unsaid (Disable g) f rest c e = (unsaid_if (g == f) Disabled rest e).1
unsaid (Commit g) f rest c e = rw c at e
unsaid _ f rest c e = e

-- and the act is no enable of f
pub unsaid_enable : (act : Act) (older : List Act) (f until : ℕ) (rest : Option Word) → word_by act f rest ≡ None →
    last_enable until (act ∷ older) f ≡ last_enable until older f
unsaid_enable (Enable g) older f until rest e =
    rw ((unsaid_if (g == f) Enabled rest e).0, and_false (nat_lt (length older + 1) until)) refl
unsaid_enable _ older f until rest e = refl

pub hold_begun_within : (log : List Act) → hold_begun log ≤ length log
hold_begun_within [] = omega arith
hold_begun_within (act ∷ older) =
    let k : hold_begun (act ∷ older) ≤ length older + 1 =
    number_within (begins_hold act older) (length older) (hold_begun older) (hold_begun_within older) in
    omega arith
