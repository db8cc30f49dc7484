-- The words that only scripts have: each is read as what it spells, and as nothing else.
use Rattle.std.proofs.Common.{◌≡◌, ℕ, suc, ◌*◌, ◌+◌, ◌^◌, ◌<◌, ◌≤◌, leb, List, [], ◌∷◌, length, Option, Some, None, Err, refl, sym, ap, ◌++◌, append_assoc, subst, arith, get_or, Bor}
use Rattle.std.specs.Prelude.{map, drop, All}
use Rattle.std.specs.Fmt.{decimal}
use Rattle.std.proofs.lemmas.Bool.{leb-true, le-leb}
use Rattle.std.proofs.lemmas.List.{append-nil, drop_more, drop_all}
use Rattle.std.proofs.lemmas.List.Elements.{All-nil, All-cons, All-head, All-tail}
use Rattle.session_text.specs.Ranges.{IsWithin}
use Rattle.session_text.specs.Words.{◌>>=◌, number_of, count_of, text_of, hex_word}
use Rattle.session_text.specs.declared.line.BadLine.{BadLine}
use Rattle.session_text.specs.declared.line.BadLine.TheVariants as bad
use Rattle.session_text.specs.Reading.{Reads}
use Rattle.session_text.proofs.TestsLetThrough.{kept_some}
use Rattle.session_text.proofs.WordsByKind.{bound}
use Rattle.session_text.proofs.LinesSplit.{AllLack}
use Rattle.session_text.proofs.WordKinds.{Kind, numbers, texts, counts}
use Rattle.trial_script.specs.Words.{field_limit, choice_limit, key_text_limit, IsKeyWord, field_of, key_text_of, keys_of}

field_counts : Kind (count_of field_limit) decimal (IsWithin field_limit) 10
field_counts = counts field_limit (omega arith)

field_sound : (word : List ℕ) (n : ℕ) → field_of word ≡ Some n → IsWithin field_limit n × (word ≡ decimal n)
unfolding field_of
field_sound word n e = field_counts.sound word n e

field_complete : (n : ℕ) → IsWithin field_limit n → field_of (decimal n) ≡ Some n
unfolding field_of
field_complete n h = field_counts.complete n h

pub fields : Kind field_of decimal (IsWithin field_limit) 10
fields = record {
  sound = field_sound;
  complete = field_complete;
  spaceless = field_counts.spaceless;
  zeroless = field_counts.zeroless;
  short = field_counts.short;
}

-- the number that a key chooses
pub choices : Kind (count_of choice_limit) decimal (IsWithin choice_limit) 10
choices = counts choice_limit (omega arith)

text_sound : (word text : List ℕ) → key_text_of word ≡ Some text → IsKeyWord text × (word ≡ hex_word text)
unfolding key_text_of
text_sound word text e =
    let (is, some) = kept_some (λ t. leb 1 (length t)) (text_of key_text_limit word) text e in
    let known = (texts key_text_limit).sound word text is in
    ((known.0, leb-true 1 (length text) some), known.1)

text_complete : (text : List ℕ) → IsKeyWord text → key_text_of (hex_word text) ≡ Some text
unfolding key_text_of
text_complete text h = rw ((texts key_text_limit).complete text h.0) (rw (le-leb 1 (length text) h.1) refl)

pub key_texts : Kind key_text_of hex_word IsKeyWord (2 * key_text_limit + 1)
key_texts = record {
  sound = text_sound;
  complete = text_complete;
  spaceless = λ t h. (texts key_text_limit).spaceless t h.0;
  zeroless = λ t h. (texts key_text_limit).zeroless t h.0;
  short = λ t h. (texts key_text_limit).short t h.0;
}

-- ---- several keys

abbrev AreSmall : List ℕ → Type 0
AreSmall keys = All (λ key. key < 2 ^ 32) keys

pub keys_lack : (keys : List ℕ) → AreSmall keys → AllLack 32 (map decimal keys)
keys_lack [] h = tt
keys_lack (k ∷ keys) h = (
  numbers.spaceless k (All-head (λ key. key < 2 ^ 32) k keys h),
  keys_lack keys (All-tail (λ key. key < 2 ^ 32) k keys h),
)

pub keys_complete : (keys : List ℕ) → AreSmall keys → keys_of (map decimal keys) ≡ Some keys
unfolding keys_of
keys_complete [] h = refl
keys_complete (k ∷ keys) h =
    rw (numbers.complete k (All-head (λ key. key < 2 ^ 32) k keys h))
    (rw (keys_complete keys (All-tail (λ key. key < 2 ^ 32) k keys h)) refl)

-- as many keys are read as there are words
pub record AreRead (words : List (List ℕ)) (keys : List ℕ) : Type 0 where
  pub same : words ≡ map decimal keys
  pub small : AreSmall keys
  pub count : length keys ≡ length words

keys_after : (word : List ℕ) (words : List (List ℕ)) (keys : List ℕ) (k : ℕ) → k < 2 ^ 32 → word ≡ decimal k
    → (o : Option (List ℕ)) → ((ks : List ℕ) → o ≡ Some ks → AreRead words ks) →
    (o >>= (λ ks. Some (k ∷ ks))) ≡ Some keys
    → AreRead (word ∷ words) keys
keys_after word words keys k small is None later read = absurd (cc read)
keys_after word words keys k small is (Some ks) later read =
    let known = later ks refl in
    let all : k ∷ ks ≡ keys = cc in
    subst (AreRead (word ∷ words)) all (record {
      same = rw (is, known.same) refl;
      small = All-cons (λ key. key < 2 ^ 32) k ks small known.small;
      count = ap (λ n. suc n) known.count;
    })

pub keys_sound : (words : List (List ℕ)) (keys : List ℕ) → keys_of words ≡ Some keys → AreRead words keys
unfolding keys_of
keys_sound [] keys e = let is : [] ≡ keys =
    cc in subst (AreRead []) is (record { same = refl; small = All-nil (λ key. key < 2 ^ 32); count = refl })
keys_sound (word ∷ words) keys e =
    bound numbers word (λ k. keys_of words >>= (λ ks. Some (k ∷ ks))) keys e (λ k small is f.
    keys_after word words keys k small is (keys_of words) (λ ks. keys_sound words ks) f)

-- ---- keys that are read one after the other

-- keys that were read, before those that follow
abbrev pub behind : List ℕ → Option (List ℕ) → Option (List ℕ)
behind keys more = more >>= (λ ks. Some (keys ++ ks))

pub starts : (o : Option (List ℕ)) → behind [] o ≡ o
starts None = refl
starts (Some ks) = refl

behind_one : (keys : List ℕ) (k : ℕ) (o : Option (List ℕ)) →
    behind keys (o >>= (λ ks. Some (k ∷ ks))) ≡ behind (keys ++ k ∷ []) o
behind_one keys k None = refl
behind_one keys k (Some ks) = ap Some (sym (append_assoc keys (k ∷ []) ks))

-- one key more was read
pub one_more : (keys : List ℕ) (k : ℕ) (word : List ℕ) (words : List (List ℕ)) → number_of word ≡ Some k →
    behind keys (keys_of (word ∷ words)) ≡ behind (keys ++ k ∷ []) (keys_of words)
unfolding keys_of
one_more keys k word words is = rw is (behind_one keys k (keys_of words))

-- a word that is no key is refused, and so are all
pub refused : (keys : List ℕ) (word : List ℕ) (words : List (List ℕ)) (bad : BadLine) →
    Reads {X = ℕ} (Err bad) (number_of word)
    → Reads {X = List ℕ} (Err bad) (behind keys (keys_of (word ∷ words)))
unfolding keys_of
refused keys word words bad.Grammar read = rw read refl
refused keys word words bad.NoMemory read = tt

-- no word is left
pub all_read : (keys : List ℕ) → behind keys (keys_of []) ≡ Some keys
unfolding keys_of
all_read keys = ap Some (append-nil keys)

-- ---- the same, over the words of a line

-- the words from one on
abbrev pub words_from : List (Bor (List ℕ)) → ℕ → List (List ℕ)
words_from words i = map (λ w. w.now) (drop i words)

pub first_from : (words : List (Bor (List ℕ))) (i : ℕ) (d : Bor (List ℕ)) → i < length words →
    words_from words i ≡ (get_or words i d).now ∷ words_from words (i + 1)
first_from words i d lt = ap (λ (ws : List (Bor (List ℕ))). map (λ w. w.now) ws) (drop_more words i d lt)

pub none_from : (words : List (Bor (List ℕ))) (i : ℕ) → length words ≤ i → words_from words i ≡ []
none_from words i le = ap (λ (ws : List (Bor (List ℕ))). map (λ w. w.now) ws) (drop_all i words le)
