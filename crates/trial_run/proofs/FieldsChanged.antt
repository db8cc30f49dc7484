-- One field of a list is another.
use Rattle.std.proofs.Common.{◌≡◌, ℕ, zero, suc, ◌<◌, List, [], ◌∷◌, length, get_or, set, Some, refl, sym, ap, ◌∙◌, subst, arith}
use Rattle.std.specs.List.{slice_get}
use Rattle.trial_run.specs.Play.{FieldPlay, TrialPlay, changed, with_field}

pub changed_length : (k : ℕ) (f : FieldPlay → FieldPlay) (xs : List FieldPlay) → length (changed k f xs) ≡ length xs
changed_length k f [] = refl
changed_length zero f (x ∷ xs) = refl
changed_length (suc k) f (x ∷ xs) = ap suc (changed_length k f xs)

pub changed_set : (k : ℕ) (f : FieldPlay → FieldPlay) (xs : List FieldPlay) (d : FieldPlay) → k < length xs →
    changed k f xs ≡ set xs k (f (get_or xs k d))
changed_set k f [] d h = absurd (omega arith)
changed_set zero f (x ∷ xs) d h = refl
changed_set (suc k) f (x ∷ xs) d h = ap (λ (r : List FieldPlay). x ∷ r) (changed_set k f xs d (omega arith))

pub there : (k : ℕ) (xs : List FieldPlay) (d : FieldPlay) → k < length xs → slice_get xs k ≡ Some (get_or xs k d)
there k [] d h = absurd (omega arith)
there zero (x ∷ xs) d h = refl
there (suc k) (x ∷ xs) d h = there k xs d (omega arith)

-- the trial in which one field was written
pub field_changed : (t s : TrialPlay) (k : ℕ) (f : FieldPlay → FieldPlay) (old now : FieldPlay) → t ≡ s →
    k < length s.fields → old ≡ get_or t.fields k old → now ≡ f old →
    record t { fields = set t.fields k now } ≡ with_field k f s
field_changed t s k f old now e h o n =
    let within : k < length t.fields = subst (λ (x : TrialPlay). k < length x.fields) (sym e) h in
    ap (λ (x : FieldPlay). let u : TrialPlay = record t { fields = set t.fields k x } in u) (n ∙ ap f o)
    ∙ ap (λ (xs : List FieldPlay). let u : TrialPlay = record t { fields = xs } in u)
    (sym (changed_set k f t.fields old within))
    ∙ ap (with_field k f) e

pub field_at : (k : ℕ) (xs : List FieldPlay) (x : FieldPlay) → k < length xs → x ≡ get_or xs k x →
    slice_get xs k ≡ Some x
field_at k xs x h e = there k xs x h ∙ ap Some (sym e)
