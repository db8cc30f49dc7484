-- The first and the last character are those of UTF-8.
use Rattle.std.proofs.Common.{◌≡◌, ℕ, ◌+◌, ◌-◌, ◌<◌, ◌≤◌, ◌/◌, true, false, List, [], ◌∷◌, ◌++◌, length, get_or, drop, refl, sym, ◌∙◌, ap, ⊎_elim, arith, IsUtf8}
use lib.Utf8.{encode, encodes, next}
use Rattle.std.specs.List.{list_all, prefix_len}
use Rattle.std.proofs.lemmas.Bool.{cases_lt, lt-ltb, le-ltb}
use Rattle.std.proofs.lemmas.Bool.Decides.{nat_tests}
use Rattle.std.proofs.lemmas.List.{length-append, take_at, get_or_append_left, get_or-append_right, get_or_at, drop_at}
use Rattle.std.proofs.lemmas.Grind.{get_or_tail}
use Rattle.std.proofs.lemmas.List.Elements.{All-get_or}
use Rattle.std.proofs.lemmas.List.Sums.{prefix_len_is, AllPass-from_list_all}
use Rattle.trial_field.specs.Characters.{goes_on, first_char, last_char}
use Rattle.trial_field.proofs.BoundariesAreChars.{last_char_is, last_char-ends}

-- a byte that begins a character, and bytes that go on with it
pub record IsCharacter (bytes : List ℕ) : Type 0 where
  pub lead : ℕ
  pub rest : List ℕ
  pub is : bytes ≡ lead ∷ rest
  pub leads : goes_on lead ≡ false
  pub follow : list_all goes_on rest ≡ true

next_goes_on : (n : ℕ) → goes_on (next n) ≡ true
next_goes_on n = grind (arith, nat_tests)

pub IsCharacter-encode : (c : ℕ) → IsCharacter (encode c)
unfolding encode
IsCharacter-encode c =
    ⊎_elim (λ (one : c < 128). rw
    (lt-ltb c 128 one) record { lead = c; rest = []; is = refl; leads = grind (arith, nat_tests); follow = refl })
    (λ (more : 128 ≤ c). rw (le-ltb c 128 more)
    (⊎_elim (λ (two : c < 2048). rw
    (lt-ltb c 2048 two)
    record {
      lead = 192 + c / 64;
      rest = next c ∷ [];
      is = refl;
      leads = grind (arith, nat_tests);
      follow = rw (next_goes_on c) refl;
    })
    (λ (most : 2048 ≤ c). rw (le-ltb c 2048 most)
    (⊎_elim (λ (three : c < 65536). rw (lt-ltb c 65536 three)
    record {
      lead = 224 + c / 4096;
      rest = next (c / 64) ∷ next c ∷ [];
      is = refl;
      leads = grind (arith, nat_tests);
      follow = rw (next_goes_on (c / 64), next_goes_on c) refl;
    })
    (λ (four : 65536 ≤ c). rw (le-ltb c 65536 four)
    record {
      lead = 240 + c / 262144;
      rest = next (c / 4096) ∷ next (c / 64) ∷ next c ∷ [];
      is = refl;
      leads = grind (arith, nat_tests);
      follow =
          rw (next_goes_on (c / 4096), next_goes_on (c / 64), next_goes_on c) refl;
    })
    (cases_lt c 65536)))
    (cases_lt c 2048)))
    (cases_lt c 128)

-- a byte from which others go on, and whatever is before it
last_character : (text bytes : List ℕ) → IsCharacter bytes → last_char (text ++ bytes) ≡ bytes
last_character text bytes h =
    let all : List ℕ = text ++ (h.lead ∷ h.rest) in
    let size : length all ≡ length text + (length h.rest + 1) = omega (arith, length-append text (h.lead ∷ h.rest)) in
    let wide : length (last_char all) + length text ≡ length all =
    last_char_is all (length text) (omega arith)
    (λ _. ap goes_on (get_or_at text h.lead h.rest 0 (length text) refl) ∙ h.leads)
    (λ i above within.
    let e : get_or all i 0 ≡ get_or h.rest (i - length text - 1) 0 =
    get_or-append_right text (h.lead ∷ h.rest) (length text) i 0 refl (omega arith)
    ∙ get_or_tail h.lead h.rest (i - length text) 0 (omega arith) in
    ap goes_on e
    ∙ All-get_or (λ b. goes_on b ≡ true) h.rest (i - length text - 1) 0 (omega arith)
    (AllPass-from_list_all goes_on h.rest h.follow)) in
    let front : List ℕ = (last_char-ends all).0 in
    let parts : all ≡ front ++ last_char all = (last_char-ends all).1 in
    let same : length front ≡ length text = omega (arith, ap length parts, length-append front (last_char all)) in
    let e : last_char all ≡ h.lead ∷ h.rest =
    sym (drop_at front (last_char all) (length text) same) ∙ ap (drop (length text)) (sym parts)
    ∙ drop_at text (h.lead ∷ h.rest) (length text) refl in
    rw h.is e

-- a text of whole characters begins with a byte that begins one
begins_anew : (text : List ℕ) → IsUtf8 text → 0 < length text → goes_on (get_or text 0 0) ≡ false
begins_anew text ([], h) some = absurd (omega (arith, ap length h.1))
begins_anew text (c ∷ cs, h) some =
    let k = IsCharacter-encode c in
    let e : text ≡ k.lead ∷ (k.rest ++ encodes cs) = sym h.1 ∙ ap (λ r. r ++ encodes cs) k.is in
    rw e k.leads

first_character : (bytes text : List ℕ) → IsCharacter bytes → IsUtf8 text → first_char (bytes ++ text) ≡ bytes
first_character bytes text h utf8 =
    let rest : List ℕ = h.rest ++ text in
    let n : prefix_len goes_on rest ≡ length h.rest =
    prefix_len_is goes_on rest (length h.rest) 0 (omega (arith, length-append h.rest text))
    (λ k below. ap goes_on (get_or_append_left h.rest text 0 k below)
    ∙ All-get_or (λ b. goes_on b ≡ true) h.rest k 0 below (AllPass-from_list_all goes_on h.rest h.follow))
    (λ inside. ap goes_on
    (get_or-append_right h.rest text (length h.rest) (length h.rest) 0 refl (omega arith)
    ∙ ap (λ i. get_or text i 0) (omega arith))
    ∙ begins_anew text utf8 (omega (arith, length-append h.rest text))) in
    rw (h.is, n, take_at h.rest text (length h.rest) refl) refl

pub last_of-encode : (text : List ℕ) (c : ℕ) → last_char (text ++ encode c) ≡ encode c
last_of-encode text c = last_character text (encode c) (IsCharacter-encode c)

pub first_of-encode : (c : ℕ) (text : List ℕ) → IsUtf8 text → first_char (encode c ++ text) ≡ encode c
first_of-encode c text utf8 = first_character (encode c) text (IsCharacter-encode c) utf8
