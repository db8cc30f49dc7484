-- What the relay keeps of a field, and how it moves at one act.
use Rattle.std.proofs.Common.{◌≡◌, ℕ, ◌≤◌, List, ◌∷◌, length, Bool, true, false, Option, None, ap, refl, sym, ◌∙◌}
use Rattle.std.specs.Prelude.{◌==◌, if◌then◌else◌}
use Rattle.relay_model.specs.declared.act.Act.{Act}
use Rattle.relay_model.specs.declared.act.Word.{Word}
use Rattle.relay_model.specs.Objects.{is_at}
use Rattle.relay_model.specs.Focus.{entered, entered_since}
use Rattle.relay_model.specs.Hold.{word_by, word_past, word, kept, holder, begins_hold}
use Rattle.relay_model.specs.Current.{State as FieldState, initial}
use Rattle.relay_model.specs.Pending.{pending, pending_by, is_commit_of}
use Rattle.relay_model.specs.Batch.{commit_count}
use Rattle.relay_model.proofs.FocusLaws.{IsSteady}
use Rattle.relay_model.proofs.HoldLaws.{word_step, word_kept, IsWordless}
use Rattle.relay_model.proofs.PendingLaws.{pending_step, pending_out}
use Rattle.relay_model.proofs.StateLaws.{current_kept}
use Rattle.field_state.specs.Calls as field
use Rattle.field_state.specs.Stands.{Kept as KeptField}
use Rattle.field_state.specs.Changes as change
use Rattle.field_state.specs.declared.commit.Word.{Word as KeptWord}
use Rattle.relay_objects.specs.Objects.{asked}
use Rattle.relay_core.specs.Stands.{word_kept as kept_word, state_kept, current_where, field_kept}

-- a field of these parts
abbrev pub field_of : Bool → Option KeptWord → Bool → ℕ → field.State → field.State → KeptField
field_of e w h n p c = record { entered = e; word = w; holds = h; count = n; pending = p; current = c }

pub same_parts : {e e' : Bool} {w w' : Option KeptWord} {h h' : Bool} {n n' : ℕ} {p p' c c' : field.State} →
    e ≡ e' → w ≡ w' → h ≡ h' → n ≡ n' → p ≡ p' → c ≡ c' → field_of e w h n p c ≡ field_of e' w' h' n' p' c'
same_parts a b c d e f = cc

-- An act that says nothing of fields.
pub record IsSilent (act : Act) : Type 0 where
  pub words : IsWordless act
  pub sets : (f : ℕ) (rest : FieldState) → pending_by act f rest ≡ rest
  pub counts : (log : List Act) (f : ℕ) → commit_count (act ∷ log) f ≡ commit_count log f
  pub begins : (log : List Act) → begins_hold act log ≡ false
  pub commits : (f : ℕ) → is_commit_of act f ≡ false

pending_same_by : (act : Act) (log : List Act) (x : ℕ) (b : Bool) → entered log x ≡ b →
    entered (act ∷ log) x ≡ entered log x →
    entered_since (act ∷ log) x ≡ entered_since log x → ((rest : FieldState) → pending_by act x rest ≡ rest) →
    pending (act ∷ log) x ≡ pending log x
pending_same_by act log x true k e s p = pending_step act log x e s k ∙ p (pending log x)
pending_same_by act log x false k e s p = pending_out (act ∷ log) x (e ∙ k) ∙ sym (pending_out log x k)

pub pending_same : (act : Act) (log : List Act) (x : ℕ) → entered (act ∷ log) x ≡ entered log x →
    entered_since (act ∷ log) x ≡ entered_since log x → ((rest : FieldState) → pending_by act x rest ≡ rest) →
    pending (act ∷ log) x ≡ pending log x
pending_same act log x e s p = pending_same_by act log x (entered log x) refl e s p

pub current_same : (act : Act) (log : List Act) (x : ℕ) → is_at (holder (act ∷ log)) x ≡ is_at (holder log) x →
    is_commit_of act x ≡ false →
    begins_hold act log ≡ false →
    current_where (is_at (holder (act ∷ log)) x) (act ∷ log) x ≡ current_where (is_at (holder log) x) log x
current_same act log x h c b =
    ap (λ held. current_where held (act ∷ log) x) h
    ∙ ap (λ s. if is_at (holder log) x then state_kept s else field.initial) (current_kept act log x c b)

-- an act that says nothing of fields leaves a field, where it is entered and holds as before
pub field_left : (act : Act) (log : List Act) (x : ℕ) → IsSilent act → x ≤ length log →
    entered (act ∷ log) x ≡ entered log x →
    entered_since (act ∷ log) x ≡ entered_since log x → is_at (holder (act ∷ log)) x ≡ is_at (holder log) x →
    field_kept log x ≡ field_kept (act ∷ log) x
field_left act log x k l e s h =
    sym (same_parts e (ap kept_word (word_kept act log x l e s k.words)) h (k.counts log x)
    (ap state_kept (pending_same act log x e s (k.sets x))) (current_same act log x h (k.commits x) (k.begins log)))

-- the focus moved, or ended
pub field_refocused : (act : Act) (log : List Act) (x : ℕ) (b : Bool) → entered (act ∷ log) x ≡ b →
    word (act ∷ log) x ≡ None → holder (act ∷ log) ≡ None →
    commit_count (act ∷ log) x ≡ commit_count log x → pending (act ∷ log) x ≡ initial →
    change.focused b (field_kept log x) ≡ field_kept (act ∷ log) x
field_refocused act log x b e w h n p =
    sym (same_parts e (ap kept_word w) (ap (λ o. is_at o x) h) n (ap state_kept p)
    (ap (λ o. current_where (is_at o x) (act ∷ log) x) h))

-- a request

-- the word after an act of an entered field
pub word_next : (act : Act) (log : List Act) (f : ℕ) → f ≤ length log → entered (act ∷ log) f ≡ entered log f →
    entered_since (act ∷ log) f ≡ entered_since log f →
    entered log f ≡ true → word (act ∷ log) f ≡ word_by act f (word log f)
word_next act log f l e s k =
    let next : word (act ∷ log) f
    ≡ (if entered log f then word_by act f (word_past (entered_since log f) log f) else None) =
    word_step act log f l e s in
    let now : word log f ≡ word_past (entered_since log f) log f = rw k refl in
    next ∙ ap (λ b. if b then word_by act f (word_past (entered_since log f) log f) else None) k
    ∙ ap (word_by act f) (sym now)

-- An act that asks something of the field f, other than a commit.
pub record IsRequest (act : Act) (f : ℕ) : Type 0 where
  pub steady : IsSteady act
  pub words : (x : ℕ) (rest : Option Word) → (f == x) ≡ false → word_by act x rest ≡ rest
  pub sets : (x : ℕ) (rest : FieldState) → (f == x) ≡ false → pending_by act x rest ≡ rest
  pub counts : (log : List Act) (x : ℕ) → commit_count (act ∷ log) x ≡ commit_count log x
  pub holds : (log : List Act) → holder (act ∷ log) ≡ kept act log (holder log)
  pub begins : (log : List Act) → begins_hold act log ≡ false
  pub commits : (x : ℕ) → is_commit_of act x ≡ false
  -- what it makes of the field is what the definitions say of word and pending state
  pub asks : (w : Option Word) (h : Bool) (n : ℕ) (p : FieldState) (c : field.State) →
      asked act (field_of true (kept_word w) h n (state_kept p) c)
      ≡ field_of true (kept_word (word_by act f w)) h n (state_kept (pending_by act f p)) c

-- a request of another field
pub field_passed : (act : Act) (log : List Act) (f x : ℕ) → IsRequest act f → (f == x) ≡ false → x ≤ length log →
    entered (act ∷ log) x ≡ entered log x →
    entered_since (act ∷ log) x ≡ entered_since log x → is_at (holder (act ∷ log)) x ≡ is_at (holder log) x →
    field_kept log x ≡ field_kept (act ∷ log) x
field_passed act log f x k d l e s h =
    sym (same_parts e (ap kept_word (same_word act log x l e s (λ rest. k.words x rest d))) h (k.counts log x)
    (ap state_kept (pending_same act log x e s (λ rest. k.sets x rest d)))
    (current_same act log x h (k.commits x) (k.begins log)))
  where
    same_word : (act : Act) (log : List Act) (x : ℕ) → x ≤ length log → entered (act ∷ log) x ≡ entered log x →
        entered_since (act ∷ log) x ≡ entered_since log x →
        ((rest : Option Word) → word_by act x rest ≡ rest) → word (act ∷ log) x ≡ word log x
    same_word act log x l e s w =
        word_step act log x l e s
        ∙ ap (λ v. if entered log x then v else None) (w (word_past (entered_since log x) log x))

pub field_asked : (act : Act) (log : List Act) (f : ℕ) → IsRequest act f → f ≤ length log →
    entered (act ∷ log) f ≡ entered log f →
    entered_since (act ∷ log) f ≡ entered_since log f → is_at (holder (act ∷ log)) f ≡ is_at (holder log) f →
    entered log f ≡ true →
    asked act (field_kept log f) ≡ field_kept (act ∷ log) f
field_asked act log f k l e s h there =
    let here : field_kept log f
    ≡ field_of true (kept_word (word log f)) (is_at (holder log) f) (commit_count log f)
    (state_kept (pending log f)) (current_where (is_at (holder log) f) log f) =
    same_parts there refl refl refl refl refl in
    ap (asked act) here ∙
    k.asks (word log f) (is_at (holder log) f) (commit_count log f) (pending log f)
    (current_where (is_at (holder log) f) log f) ∙
    sym (same_parts (e ∙ there) (ap kept_word (word_next act log f l e s there)) h (k.counts log f)
    (ap state_kept (pending_step act log f e s there)) (current_same act log f h (k.commits f) (k.begins log)))
