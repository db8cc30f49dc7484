-- What a method types is of bytes, where the texts of its keys are, and the words of its dictionary.
use Rattle.std.proofs.Common.{◌≡◌, ℕ, zero, suc, ◌-◌, Bool, true, false, ◌&&◌, List, [], ◌∷◌, ◌++◌, length, take, Option, Some, None, refl}
use Rattle.std.specs.Prelude.{◌==◌, if◌then◌else◌, All, not}
use Rattle.std.specs.List.{starts_with, slice_get, AllByRecursion}
use Rattle.std.specs.Prelude.{nat_eq}
use Rattle.std.proofs.lemmas.List.Elements.{All-filter, recursion_from_All}
use Rattle.wl_wire.specs.Texts.{IsBytes}
use Rattle.wl_proto.specs.declared.event.Event.{Event}
use Rattle.wl_proto.specs.declared.event.Event.TheVariants as events
use Rattle.compose_method.specs.Table.{Table, single_of, begun_by, going_on, own_text, own_texts, text_of_single}
use Rattle.compose_method.specs.Segments.{segments_from, typed, rest_of}
use Rattle.compose_method.specs.Typing.{Typing, pressed as typing_pressed}
use Rattle.compose_method.specs.Typists.{composed}
use Rattle.compose_method.specs.declared.entries.Entry.{Entry}
use Rattle.compose_method.specs.declared.singles.Single.{Single}
use Rattle.compose_method.proofs.TypedKeysStay.{found_at}
use Rattle.dict_method.specs.Candidates.{is_candidate, candidates, has_candidate}
use Rattle.dict_method.specs.Dictionary.{Dictionary, control_of, is_control}
use Rattle.dict_method.specs.Presses.{Made, made, first_of, is_empty, number_of, erases, made_of_word, chosen, erased, longer, own, press_made}
use Rattle.dict_method.specs.Spelling.{Spelling, makes, after_made, batch_of}
use Rattle.dict_method.specs.declared.word.Word.{Word}
use Rattle.trial_run.specs.Typists.{gives, pressed, begun, after_event}
use Rattle.trial_run.specs.declared.typist.TrialTypist.{TrialTypist}
use Rattle.trial_run.specs.declared.typist.TrialTypist.TheVariants.{Compose, Dict}
use Rattle.trial_laws.specs.RelayedAsBatches.{AreByteKeys, TypesBytes}
use Rattle.trial_laws.proofs.EachByte.{EachByte, each_byte, both_bytes}

-- ---- the table

own_bytes : (t : Table) (key : ℕ) → AreByteKeys t → EachByte (own_text t key)
own_bytes t key h = by (single_of t.singles key) refl
  where
    by : (o : Option Single) → single_of t.singles key ≡ o → EachByte (text_of_single o)
    by None e = tt
    by (Some s) e =
        (let there = found_at (λ x. x.key == key) t.singles s e in
        each_byte s.text (rw there.2 at (h.singles there.0 s there.1)))

entry_text : (t : Table) (keys : List ℕ) (e : Entry) → AreByteKeys t → begun_by t.entries keys ≡ Some e →
    EachByte e.text
entry_text t keys e h found =
    let there = found_at (λ d. starts_with nat_eq keys d.keys) t.entries e found in
    each_byte e.text (rw there.2 at (h.entries there.0 e there.1))

typed_bytes : (t : Table) (keys : List ℕ) (passed : ℕ) → AreByteKeys t → EachByte (segments_from t keys passed).typed
typed_bytes t [] passed h = tt
typed_bytes t (k ∷ ks) (suc passed) h = typed_bytes t ks passed h
typed_bytes t (k ∷ ks) zero h =
    by (begun_by t.entries (k ∷ ks)) (going_on t.entries (k ∷ ks)) refl refl (λ n. typed_bytes t ks n h)
  where
    by : (o : Option Entry) (g : Bool) → begun_by t.entries (k ∷ ks) ≡ o → going_on t.entries (k ∷ ks) ≡ g →
        ((n : ℕ) → EachByte (segments_from t ks n).typed) → EachByte (segments_from t (k ∷ ks) 0).typed
    by (Some e) g is goes later =
        rw is (both_bytes e.text (segments_from t ks (length e.keys - 1)).typed (entry_text t (k ∷ ks) e h is)
        (later (length e.keys - 1)))
    by None true is goes later = rw (is, goes) tt
    by None false is goes later = rw (is, goes)
        (both_bytes (own_text t k) (segments_from t ks 0).typed (own_bytes t k h) (later 0))

own_all_bytes : (t : Table) (keys : List ℕ) → AreByteKeys t → EachByte (own_texts t keys)
own_all_bytes t [] h = tt
own_all_bytes t (k ∷ ks) h = both_bytes (own_text t k) (own_texts t ks) (own_bytes t k h) (own_all_bytes t ks h)

-- ---- a press

-- what a press gives is of bytes, if it gives something
abbrev pub AreByteGiven : Option (List ℕ × List ℕ) → Type 0
AreByteGiven None = Unit {0}
AreByteGiven (Some batch) = EachByte batch.0 × EachByte batch.1

composed_bytes : (key : ℕ) (m : Typing) → AreByteKeys m.table → AreByteGiven (composed key m)
composed_bytes key m h = by m.active
  where
    keys : List ℕ
    keys = m.rest ++ key ∷ []

    then_is : Typing
    then_is = record
        m {
          rest = rest_of m.table keys;
          string = typed m.table keys;
          preedit = own_texts m.table (rest_of m.table keys);
        }

    by : (b : Bool) →
        AreByteGiven (if b then Some ((if b then then_is else m).string, (if b then then_is else m).preedit) else None)
    by true = (typed_bytes m.table keys 0 h, own_all_bytes m.table (rest_of m.table keys) h)
    by false = tt

composed_table : (key : ℕ) (m : Typing) → AreByteKeys m.table → AreByteKeys (typing_pressed key m).table
composed_table key m h = by m.active
  where
    by : (b : Bool) → AreByteKeys (if b then record m {
      rest = rest_of m.table (m.rest ++ key ∷ []);
      string = typed m.table (m.rest ++ key ∷ []);
      preedit = own_texts m.table (rest_of m.table (m.rest ++ key ∷ []));
    } else m).table
    by true = h
    by false = h

-- ---- a press of a method with a dictionary

abbrev AreByteWords : List Word → Type 0
AreByteWords words = All (λ w. IsBytes w.text) words

-- the string that is made is of bytes
abbrev IsByteMade : Option Made → Type 0
IsByteMade None = Unit {0}
IsByteMade (Some b) = EachByte b.string

first_bytes : (a b : Option Made) → IsByteMade a → IsByteMade b → IsByteMade (first_of a b)
first_bytes (Some m) b h k = h
first_bytes None b h k = k

word_bytes : (words : List Word) (n : ℕ) → AllByRecursion (λ w. IsBytes w.text) words →
    IsByteMade (made_of_word (slice_get words n))
word_bytes [] n h = tt
word_bytes (w ∷ words) zero h = each_byte w.text h.0
word_bytes (w ∷ words) (suc n) h = word_bytes words n h.1

chosen_bytes : (words : List Word) (code : List ℕ) (number : ℕ) → AreByteWords words →
    IsByteMade (chosen words code number)
chosen_bytes words code number h = by (is_empty code) (number == 0)
  where
    by : (empty none : Bool) → IsByteMade (if empty then None
        else made_of_word (if none then None else slice_get (candidates words code) (number - 1)))
    by true none = tt
    by false true = tt
    by false false = word_bytes (candidates words code) (number - 1)
        (recursion_from_All (λ (w : Word). IsBytes w.text) (candidates words code)
        (All-filter (is_candidate code) (λ (w : Word). IsBytes w.text) words h))

where_made : (b : Bool) (string code : List ℕ) → EachByte string →
    IsByteMade (if b then Some (made string code) else None)
where_made true string code h = h
where_made false string code h = tt

made_bytes : (t : Table) (d : Dictionary) (code : List ℕ) (key : ℕ) → AreByteKeys t → AreByteWords d.words →
    IsByteMade (press_made t d code key)
made_bytes t d code key h k =
    first_bytes (chosen d.words code (number_of (control_of d.controls key))) _
    (chosen_bytes d.words code (number_of (control_of d.controls key)) k)
    (first_bytes (erased code (erases (control_of d.controls key))) _
    (where_made (erases (control_of d.controls key) && not (is_empty code)) [] (take (length code - 1) code) tt)
    (first_bytes (longer d.words (code ++ key ∷ [])) (own (own_text t key) (is_control d.controls key) code)
    (where_made (has_candidate d.words (code ++ key ∷ [])) [] (code ++ key ∷ []) tt)
    (where_made (not (is_control d.controls key) && is_empty code) (own_text t key) [] (own_bytes t key h))))

makes_bytes : (key : ℕ) (m : Spelling) → AreByteKeys m.table → AreByteWords m.dict.words → IsByteMade (makes key m)
makes_bytes key m h k = by m.active
  where
    by : (b : Bool) → IsByteMade (if b then press_made m.table m.dict m.code key else None)
    by true = made_bytes m.table m.dict m.code key h k
    by false = tt

batch_bytes : (t : Table) (o : Option Made) → AreByteKeys t → IsByteMade o → AreByteGiven (batch_of t o)
batch_bytes t None h k = tt
batch_bytes t (Some b) h k = (k, own_all_bytes t b.code h)

after_types : (o : Option Made) (m : Spelling) → TypesBytes (Dict m) → TypesBytes (Dict (after_made o m))
after_types None m h = h
after_types (Some b) m h = h

-- ---- the method of a trial

pub gives_bytes : (key : ℕ) (t : TrialTypist) → TypesBytes t → AreByteGiven (gives key t)
gives_bytes key (Compose m) h = composed_bytes key m h
gives_bytes key (Dict m) h = batch_bytes m.table (makes key m) h.0 (makes_bytes key m h.0 h.1)

pub pressed_types : (key : ℕ) (t : TrialTypist) → TypesBytes t → TypesBytes (pressed key t)
pressed_types key (Compose m) h = composed_table key m h
pressed_types key (Dict m) h = after_types (makes key m) m h

begun_types : (active : Bool) (t : TrialTypist) → TypesBytes t → TypesBytes (begun active t)
begun_types active (Compose m) h = h
begun_types active (Dict m) h = h

pub event_types : (event : Event) (t : TrialTypist) → TypesBytes t → TypesBytes (after_event event t)
event_types events.Activate t h = begun_types true t h
event_types events.Deactivate t h = begun_types false t h
event_types _ t h = h
