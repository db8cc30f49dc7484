-- Control keys stand in no word, so none makes a code longer.
use Rattle.std.proofs.Common.{◌≡◌, ℕ, suc, ◌-◌, ◌<◌, Bool, true, false, ◌&&◌, ◌||◌, ◌==◌, List, [], ◌∷◌, ◌++◌, length, get_or, Some, refl, sym, ◌∙◌, arith}
use Rattle.std.specs.Prelude.{nat_eq, is_some, All}
use Rattle.std.specs.List.{starts_with, list_any, slice_get}
use Rattle.std.proofs.lemmas.Bool.{and_parts, both_ways, false_from_ne_true, eqb-true, false≢true}
use Rattle.std.proofs.lemmas.List.Elements.{All-filter}
use Rattle.std.proofs.lemmas.List.Folds.{list_any_at, list_any-append}
use Rattle.std.proofs.lemmas.Option.{none-some, slice_get_within, get_or_from_slice_get}
use Rattle.compose_method.specs.Table.{IsKeyText}
use Rattle.dict_method.specs.Candidates.{candidate, candidates, has_candidate}
use Rattle.dict_method.specs.Dictionary.{Dictionary, IsDictionary, IsWord, control, control_of, is_control, has_key, is_spelling, with_control}
use Rattle.dict_method.specs.declared.control.Control.{Control}
use Rattle.dict_method.specs.declared.control.ControlKey.{ControlKey}
use Rattle.dict_method.specs.declared.word.Word.{Word}

-- what no element passes none at a place does
pub none_at : {X : Type 0} (p : X → Bool) (xs : List X) (i : ℕ) (d : X) → list_any p xs ≡ false → i < length xs →
    p (get_or xs i d) ≡ false
none_at p xs i d none within =
    false_from_ne_true (p (get_or xs i d))
    (λ yes. absurd (both_ways (list_any p xs) none (list_any_at p xs i d within yes)))

-- a key is a control key where it is one that does something
pub some_control : (controls : List ControlKey) (key : ℕ) → is_some (control_of controls key) ≡ is_control controls key
some_control [] key = refl
some_control (c ∷ cs) key = by (c.key == key) refl (some_control cs key)
  where
    by : (b : Bool) → (c.key == key) ≡ b → is_some (control_of cs key) ≡ is_control cs key →
        is_some (control_of (c ∷ cs) key) ≡ is_control (c ∷ cs) key
    by true is later = rw is refl
    by false is later = rw is later

or_second : (a b : Bool) → b ≡ true → a || b ≡ true
or_second true b h = refl
or_second false b h = h

or_none : (a b : Bool) → a || b ≡ false → (a ≡ false) × (b ≡ false)
or_none true b h = absurd (false≢true (sym h))
or_none false b h = (refl, h)

neither : (a b : Bool) → a ≡ false → b ≡ false → a || b ≡ false
neither a b h k = rw (h, k) refl

-- keys that begin with a code and one key more have that key
begins_has : (p : ℕ → Bool) (keys code : List ℕ) (key : ℕ) → starts_with nat_eq keys (code ++ key ∷ []) ≡ true →
    p key ≡ true → list_any p keys ≡ true
begins_has p [] [] key h passes = absurd (false≢true h)
begins_has p [] (c ∷ code) key h passes = absurd (false≢true h)
begins_has p (k ∷ ks) [] key h passes =
    let both : (nat_eq key k && starts_with nat_eq ks []) ≡ true = h in
    let same : key ≡ k = eqb-true key k (and_parts _ _ both).0 in
    let first : p k ≡ true = rw same at passes in
    rw first refl
begins_has p (k ∷ ks) (c ∷ code) key h passes =
    let both : (nat_eq c k && starts_with nat_eq ks (code ++ key ∷ [])) ≡ true = h in
    or_second (p k) (list_any p ks) (begins_has p ks code key (and_parts _ _ both).1 passes)

-- no word's keys begin with a code and a control key
pub no_longer : (d : Dictionary) (code : List ℕ) (key : ℕ) → IsDictionary d → is_control d.controls key ≡ true →
    has_candidate d.words (code ++ key ∷ []) ≡ false
no_longer d code key h is = none d.words h.words is
  where
    none : (words : List Word) → All (IsWord d.controls) words → is_control d.controls key ≡ true →
        has_candidate words (code ++ key ∷ []) ≡ false
    none [] all is = refl
    none (w ∷ ws) all is =
        let apart : list_any (is_control d.controls) w.keys ≡ false = (all 0 w (omega arith)).apart in
        let no : starts_with nat_eq w.keys (code ++ key ∷ []) ≡ false =
        false_from_ne_true (starts_with nat_eq w.keys (code ++ key ∷ []))
        (λ begins. absurd
        (both_ways (list_any (is_control d.controls) w.keys) apart
        (begins_has (is_control d.controls) w.keys code key begins is))) in
        neither _ _ no (none ws (λ k e within. all (suc k) e (omega arith)) is)

-- the keys of a word stay apart from the control keys where one comes that isn't among them
still_apart : (controls : List ControlKey) (key : ℕ) (what : Control) (keys : List ℕ) →
    list_any (is_control controls) keys ≡ false → list_any (λ k. key == k) keys ≡ false
    → list_any (is_control (controls ++ control key what ∷ [])) keys ≡ false
still_apart controls key what [] h other = refl
still_apart controls key what (k ∷ ks) h other =
    let old = or_none _ _ h in
    let new = or_none _ _ other in
    let first : is_control (controls ++ control key what ∷ []) k ≡ false =
    list_any-append (λ c. c.key == k) controls (control key what ∷ []) ∙ neither _ _ old.0 (neither _ _ new.0 refl) in
    neither _ _ first (still_apart controls key what ks old.1 new.1)

pub with_control-dictionary : (d : Dictionary) (key : ℕ) (what : Control) → IsDictionary d →
    is_spelling d.words key ≡ false → IsDictionary (with_control (control key what) d)
with_control-dictionary d key what h free = record {
  words = λ k e within.
      let word = h.words k e within in
      record {
        keys = word.keys;
        text = word.text;
        apart = still_apart d.controls key what _ word.apart (none_at (has_key key) d.words k e free within);
      };
  few = h.few;
}

-- a candidate is a word
candidate_fits-at : (d : Dictionary) (code : List ℕ) (place : ℕ) (w : Word) → IsDictionary d →
    slice_get (candidates d.words code) place ≡ Some w → IsKeyText w.text
candidate_fits-at d code place w h is =
    let all = All-filter (λ w. starts_with nat_eq w.keys code) (IsWord d.controls) d.words h.words in
    let at = all place w (slice_get_within (candidates d.words code) place w is) in
    let same : get_or (candidates d.words code) place w ≡ w =
    get_or_from_slice_get (candidates d.words code) place w w is in
    (rw same at at).text

pub candidate_fits : (d : Dictionary) (code : List ℕ) (number : ℕ) (w : Word) → IsDictionary d →
    candidate d.words code number ≡ Some w → IsKeyText w.text
candidate_fits d code number w h is = by (number == 0) refl is
  where
    by : (b : Bool) → (number == 0) ≡ b → candidate d.words code number ≡ Some w → IsKeyText w.text
    by true zeroth is = absurd (none-some w (rw zeroth at is))
    by false zeroth is = candidate_fits-at d code (number - 1) w h (rw zeroth at is)
