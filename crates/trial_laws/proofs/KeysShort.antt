-- What a press gives fits a batch, where the method's table and dictionary are such.
use Rattle.std.proofs.Common.{◌≡◌, ℕ, zero, suc, ◌-◌, ◌*◌, ◌≤◌, Bool, true, false, ◌&&◌, List, [], ◌∷◌, ◌++◌, length, take, Option, Some, None, refl, arith}
use Rattle.std.specs.Prelude.{if◌then◌else◌, not, nat_eq}
use Rattle.std.specs.List.{starts_with}
use Rattle.std.proofs.lemmas.List.{length-append, length-take}
use Rattle.std.proofs.lemmas.List.Folds.{Any-from_list_any}
use Rattle.wl_proto.specs.declared.event.Event.{Event}
use Rattle.wl_proto.specs.declared.event.Event.TheVariants as events
use Rattle.compose_method.specs.Table.{Table, IsTable, single_of, begun_by, going_on, own_text, own_texts, text_of_single}
use Rattle.compose_method.specs.Segments.{segments_from, typed, rest_of}
use Rattle.compose_method.specs.Typing.{Typing, pressed as typing_pressed}
use Rattle.compose_method.specs.Typists.{composed}
use Rattle.compose_method.specs.declared.entries.Entry.{Entry}
use Rattle.compose_method.specs.declared.singles.Single.{Single}
use Rattle.compose_method.proofs.ReadingFronts.{entry_fits, short_keys, single_fits}
use Rattle.compose_method.proofs.TypedKeysStay.{begins-length}
use Rattle.dict_method.specs.Candidates.{candidate, has_candidate}
use Rattle.dict_method.specs.Dictionary.{Dictionary, IsDictionary, AreWordKeys, IsWord, control_of, is_control}
use Rattle.dict_method.specs.Presses.{Made, made, first_of, is_empty, number_of, erases, made_of_word, chosen, erased, longer, own, press_made}
use Rattle.dict_method.specs.Spelling.{Spelling, makes, after_made, batch_of}
use Rattle.dict_method.specs.declared.word.Word.{Word}
use Rattle.dict_method.proofs.ControlKeys.{candidate_fits}
use Rattle.trial_run.specs.Typists.{gives, pressed, begun, after_event}
use Rattle.trial_run.specs.declared.typist.TrialTypist.{TrialTypist}
use Rattle.trial_run.specs.declared.typist.TrialTypist.TheVariants.{Compose, Dict}

-- ---- the table

own_short : (t : Table) (key : ℕ) → IsTable t → length (own_text t key) ≤ 64
own_short t key h = by (single_of t.singles key) refl
  where
    by : (o : Option Single) → single_of t.singles key ≡ o → length (text_of_single o) ≤ 64
    by None e = omega arith
    by (Some s) e = (single_fits t key s h e).few

own_all_short : (t : Table) (keys : List ℕ) → IsTable t → length (own_texts t keys) ≤ 64 * length keys
own_all_short t [] h = omega arith
own_all_short t (k ∷ ks) h =
    let one = own_short t k h in
    let more = own_all_short t ks h in
    omega (arith, length-append (own_text t k) (own_texts t ks))

typed_short : (t : Table) (keys : List ℕ) (passed : ℕ) → IsTable t →
    length (segments_from t keys passed).typed ≤ 64 * length keys
typed_short t [] passed h = omega arith
typed_short t (k ∷ ks) (suc passed) h = (let more = typed_short t ks passed h in omega arith)
typed_short t (k ∷ ks) zero h =
    by (begun_by t.entries (k ∷ ks)) (going_on t.entries (k ∷ ks)) refl refl (λ n. typed_short t ks n h)
  where
    by : (o : Option Entry) (g : Bool) → begun_by t.entries (k ∷ ks) ≡ o → going_on t.entries (k ∷ ks) ≡ g →
        ((n : ℕ) → length (segments_from t ks n).typed ≤ 64 * length ks) →
        length (segments_from t (k ∷ ks) 0).typed ≤ 64 * length (k ∷ ks)
    by (Some e) g is goes later =
        rw is
        (let few : length e.text ≤ 64 = (entry_fits t (k ∷ ks) e h is).1.few in
        let more = later (length e.keys - 1) in
        omega (arith, length-append e.text (segments_from t ks (length e.keys - 1)).typed))
    by None true is goes later = rw (is, goes) (omega arith)
    by None false is goes later =
        rw (is, goes)
        (let one = own_short t k h in
        let more = later 0 in
        omega (arith, length-append (own_text t k) (segments_from t ks 0).typed))

-- fewer keys wait than a sequence has
rest_short : (t : Table) (keys : List ℕ) (passed : ℕ) → IsTable t → length (segments_from t keys passed).rest ≤ 7
rest_short t [] passed h = omega arith
rest_short t (k ∷ ks) (suc passed) h = rest_short t ks passed h
rest_short t (k ∷ ks) zero h =
    by (begun_by t.entries (k ∷ ks)) (going_on t.entries (k ∷ ks)) refl refl (λ n. rest_short t ks n h)
  where
    by : (o : Option Entry) (g : Bool) → begun_by t.entries (k ∷ ks) ≡ o → going_on t.entries (k ∷ ks) ≡ g →
        ((n : ℕ) → length (segments_from t ks n).rest ≤ 7) → length (segments_from t (k ∷ ks) 0).rest ≤ 7
    by (Some e) g is goes later = rw is (later (length e.keys - 1))
    by None true is goes later = rw (is, goes) (let few = short_keys t (k ∷ ks) h goes in omega arith)
    by None false is goes later = rw (is, goes) (later 0)

-- ---- the method

-- its table and its dictionary are such as methods have, and as few keys wait as may
abbrev pub KeysWait : TrialTypist → Type 0
KeysWait (Compose m) = IsTable m.table × (length m.rest ≤ 7)
KeysWait (Dict m) = IsTable m.table × IsDictionary m.dict × (length m.code ≤ 16)

-- what a press gives is no longer than a batch, if it gives something
abbrev pub IsShortGiven : Option (List ℕ × List ℕ) → Type 0
IsShortGiven None = Unit {0}
IsShortGiven (Some batch) = (length batch.0 ≤ 4083) × (length batch.1 ≤ 4075)

-- ---- a press of a method that composes

abbrev then_is : ℕ → Typing → Typing
then_is key m = record
    m {
      rest = rest_of m.table (m.rest ++ key ∷ []);
      string = typed m.table (m.rest ++ key ∷ []);
      preedit = own_texts m.table (rest_of m.table (m.rest ++ key ∷ []));
    }

composed_short : (key : ℕ) (m : Typing) → KeysWait (Compose m) → IsShortGiven (composed key m)
composed_short key m h = by m.active
  where
    keys : List ℕ
    keys = m.rest ++ key ∷ []

    by : (b : Bool) → IsShortGiven (if b then Some (
      (if b then then_is key m else m).string,
      (if b then then_is key m else m).preedit,
    ) else None)
    by true =
        (let few = h.1 in
        let long = length-append m.rest (key ∷ []) in
        let string = typed_short m.table keys 0 h.0 in
        let waits = rest_short m.table keys 0 h.0 in
        let preedit = own_all_short m.table (rest_of m.table keys) h.0 in
        (omega arith, omega arith))
    by false = tt

composed_waits : (key : ℕ) (m : Typing) → KeysWait (Compose m) → KeysWait (Compose (typing_pressed key m))
composed_waits key m h = by m.active
  where
    by : (b : Bool) → KeysWait (Compose (if b then then_is key m else m))
    by true = (h.0, rest_short m.table (m.rest ++ key ∷ []) 0 h.0)
    by false = h

-- ---- a press of a method with a dictionary

abbrev IsShortMade : Option Made → Type 0
IsShortMade None = Unit {0}
IsShortMade (Some b) = (length b.string ≤ 64) × (length b.code ≤ 16)

first_short : (a b : Option Made) → IsShortMade a → IsShortMade b → IsShortMade (first_of a b)
first_short (Some m) b h k = h
first_short None b h k = k

chosen_short : (d : Dictionary) (code : List ℕ) (number : ℕ) → IsDictionary d →
    IsShortMade (chosen d.words code number)
chosen_short d code number h = by (is_empty code)
  where
    word : (o : Option Word) → candidate d.words code number ≡ o → IsShortMade (made_of_word o)
    word None e = tt
    word (Some w) e = ((candidate_fits d code number w h e).few, omega arith)

    by : (empty : Bool) → IsShortMade (if empty then None else made_of_word (candidate d.words code number))
    by true = tt
    by false = word (candidate d.words code number) refl

erased_short : (code : List ℕ) (b : Bool) → length code ≤ 16 → IsShortMade (erased code b)
erased_short code b h = by (b && not (is_empty code))
  where
    by : (c : Bool) → IsShortMade (if c then Some (made [] (take (length code - 1) code)) else None)
    by true = (omega arith, omega (arith, length-take (length code - 1) code))
    by false = tt

longer_short : (d : Dictionary) (code : List ℕ) → IsDictionary d → IsShortMade (longer d.words code)
longer_short d code h = by (has_candidate d.words code) refl
  where
    by : (b : Bool) → has_candidate d.words code ≡ b → IsShortMade (if b then Some (made [] code) else None)
    by true e =
        let there = Any-from_list_any (λ w. starts_with nat_eq w.keys code) d.words e in
        let w : Word = there.1 in
        let is : IsWord d.controls w = rw there.3 at (h.words there.0 w there.2) in
        let keys : AreWordKeys w.keys = is.keys in
        let few : length w.keys ≤ 16 = keys.few in
        let long : length code ≤ length w.keys = begins-length code w.keys there.4 in
        (omega arith, omega arith)
    by false e = tt

own_made : (t : Table) (key : ℕ) (b : Bool) (code : List ℕ) → IsTable t → IsShortMade (own (own_text t key) b code)
own_made t key b code h = by (not b && is_empty code)
  where
    by : (c : Bool) → IsShortMade (if c then Some (made (own_text t key) []) else None)
    by true = (own_short t key h, omega arith)
    by false = tt

makes_short : (key : ℕ) (m : Spelling) → KeysWait (Dict m) → IsShortMade (makes key m)
makes_short key m h = by m.active
  where
    by : (b : Bool) → IsShortMade (if b then press_made m.table m.dict m.code key else None)
    by true =
        first_short (chosen m.dict.words m.code (number_of (control_of m.dict.controls key))) _
        (chosen_short m.dict m.code (number_of (control_of m.dict.controls key)) h.1)
        (first_short (erased m.code (erases (control_of m.dict.controls key))) _
        (erased_short m.code (erases (control_of m.dict.controls key)) h.2)
        (first_short (longer m.dict.words (m.code ++ key ∷ [])) _
        (longer_short m.dict (m.code ++ key ∷ []) h.1)
        (own_made m.table key (is_control m.dict.controls key) m.code h.0)))
    by false = tt

batch_short : (t : Table) (o : Option Made) → IsTable t → IsShortMade o → IsShortGiven (batch_of t o)
batch_short t None h k = tt
batch_short t (Some b) h k =
    (let preedit = own_all_short t b.code h in
    let string = k.0 in
    let few = k.1 in
    (omega arith, omega arith))

after_waits : (o : Option Made) (m : Spelling) → KeysWait (Dict m) → IsShortMade o → KeysWait (Dict (after_made o m))
after_waits None m h k = h
after_waits (Some b) m h k = (h.0, h.1, k.1)

-- ---- the method of a trial

pub gives_short : (key : ℕ) (t : TrialTypist) → KeysWait t → IsShortGiven (gives key t)
gives_short key (Compose m) h = composed_short key m h
gives_short key (Dict m) h = batch_short m.table (makes key m) h.0 (makes_short key m h)

pub pressed_waits : (key : ℕ) (t : TrialTypist) → KeysWait t → KeysWait (pressed key t)
pressed_waits key (Compose m) h = composed_waits key m h
pressed_waits key (Dict m) h = after_waits (makes key m) m h (makes_short key m h)

begun_waits : (active : Bool) (t : TrialTypist) → KeysWait t → KeysWait (begun active t)
begun_waits active (Compose m) h = (h.0, omega arith)
begun_waits active (Dict m) h = (h.0, h.1, omega arith)

pub event_waits : (event : Event) (t : TrialTypist) → KeysWait t → KeysWait (after_event event t)
event_waits events.Activate t h = begun_waits true t h
event_waits events.Deactivate t h = begun_waits false t h
event_waits _ t h = h
