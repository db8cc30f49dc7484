-- An argument that is read is the one that is spelled, and what is spelled is read.
use Rattle.std.proofs.Common.{Bor, Result, Ok, Err, ◌≡◌, ℕ, ℤ, suc, ◌+◌, ◌-◌, ◌%◌, ◌^◌, ◌<◌, ◌≤◌, Bool, true, false, cond, ltb, eqb, ◌&&◌, List, ◌∷◌, ◌++◌, length, get_or, take, drop, Option, Some, None, refl, sym, ap, subst, ◌∙◌, append_assoc, arith, inl, inr, ◌⊎◌}
use Rattle.std.specs.Int.{w32, from_le_bytes, to_le_bytes, cast_signed, cast_unsigned}
use Rattle.std.specs.Prelude.{FitsSigned}
use Rattle.std.specs.Option.{option_copied}
use Rattle.std.proofs.lemmas.Int.{of_z-to_z, to_z-of_z}
use Rattle.std.proofs.Math.Facts.{sfits_to_z, Fits-of_z}
use mir.Val.{Fits}
use Rattle.std.proofs.lemmas.Bool.{cases_lt, ltb-false, le-ltb, and_parts, eqb-true, eqb-false, ne_eqb}
use Rattle.std.proofs.lemmas.List.{take_at, drop_at, take-append-drop, length-append, length-take, length-drop, get_or-drop, get_or-take, get_or_past, drop-drop, get_or_at}
use Rattle.std.proofs.Math.Seq.{drop-cons}
use Rattle.std.proofs.lemmas.Nat.{le_bytes_4, from_le_bytes-to_le_bytes_4}
use Rattle.std.proofs.lemmas.Option.{cond_some}
use Rattle.wl_wire.specs.declared.arg_reader.Malformed.{Malformed}
use Rattle.wl_wire.specs.Texts.{is_text, IsBytes}
use Rattle.wl_wire.specs.Reading.{Gives, word_at, int_at, text_at, string_behind, string_at, padded, ◌>>=◌}
use Rattle.wl_wire.specs.Spelling.{word_bytes, int_bytes}
use Rattle.wl_wire.specs.Spelled.{IsUint, IsInt, IsTextSpelled, IsString, GivesSpelled}

pub IsBytes-drop : (n : ℕ) (bytes : List ℕ) → IsBytes bytes → IsBytes (drop n bytes)
IsBytes-drop n bytes h i = rw get_or-drop (h (n + i))

pub IsBytes-take : (n : ℕ) (bytes : List ℕ) → IsBytes bytes → IsBytes (take n bytes)
IsBytes-take n bytes h i =
    elim (cases_lt i n) [
      | inl lt ↦ rw (get_or-take n bytes i 0 lt) (h i)
      | inr le ↦ rw (get_or_past (take n bytes) i 0 (omega (arith, length-take n bytes))) (omega arith)
    ]

-- a test that did not fail
pub guard : {A : Type 0} (b : Bool) (x : Option A) (y : A) → cond b None x ≡ Some y → (b ≡ false) × (x ≡ Some y)
guard true x y e = absurd cc
guard false x y e = (refl, e)

pub some_is : {A : Type 0} (x y : A) → Some x ≡ Some y → x ≡ y
some_is x y e = cc

pub record Takes (bytes front rest : List ℕ) : Type 0 where
  pub parts : bytes ≡ front ++ rest
  pub fits : IsBytes rest

pub word_sound : (bytes : List ℕ) (n : ℕ) (rest : List ℕ) → IsBytes bytes → word_at bytes ≡ Some (n, rest) →
    Takes bytes (word_bytes n) rest × (n < 2 ^ 32)
unfolding word_at
word_sound bytes n rest fits e =
    let g = guard (ltb (length bytes) 4) (Some (from_le_bytes w32 (take 4 bytes), drop 4 bytes)) (n, rest) e in
    let long : 4 ≤ length bytes = ltb-false _ _ g.0 in
    let pair = some_is (from_le_bytes w32 (take 4 bytes), drop 4 bytes) (n, rest) g.1 in
    let n-is : from_le_bytes w32 (take 4 bytes) ≡ n = ap (λ (p : ℕ × List ℕ). p.0) pair in
    let rest-is : drop 4 bytes ≡ rest = ap (λ (p : ℕ × List ℕ). p.1) pair in
    let few = IsBytes-take 4 bytes fits in
    let front : to_le_bytes w32 n ≡ take 4 bytes =
    le_bytes_4 (take 4 bytes) n (omega (arith, length-take 4 bytes)) few (sym n-is) in (
      record {
        parts = sym (take-append-drop 4 bytes) ∙ ap (λ (f : List ℕ). f ++ drop 4 bytes) (sym front)
            ∙ ap (λ (r : List ℕ). word_bytes n ++ r) rest-is;
        fits = rw (← rest-is) (IsBytes-drop 4 bytes fits);
      },
      rw (← n-is) (omega (arith, few 0, few 1, few 2, few 3)),
    )

pub word_complete : (n : ℕ) (rest : List ℕ) → n < 2 ^ 32 → word_at (word_bytes n ++ rest) ≡ Some (n, rest)
unfolding word_at
word_complete n rest lt =
    let long : ltb (length (to_le_bytes w32 n ++ rest)) 4 ≡ false =
    le-ltb _ _ (omega (arith, length-append (to_le_bytes w32 n) rest)) in
    rw (long, from_le_bytes-to_le_bytes_4 n lt) refl

-- ---- texts

no_more : (len k : ℕ) → len ≡ k + 1 → padded len ≡ k + 1 + (3 - k % 4)
no_more len k is = rw is (omega arith)

cut : (k j e : ℕ) (bytes : List ℕ) → k < length bytes → get_or bytes k 0 ≡ 0 → e ≡ suc k + j →
    bytes ≡ (take k bytes ++ (0 ∷ take j (drop (suc k) bytes))) ++ drop e bytes
cut k j e bytes lt z is =
    let rest = drop (suc k) bytes in
    let padding = take j rest in
    let tail : rest ≡ padding ++ drop e bytes =
    sym (take-append-drop j rest)
    ∙ ap (λ (r : List ℕ). padding ++ r) (drop-drop j (suc k) bytes ∙ ap (λ (n : ℕ). drop n bytes) (sym is)) in
    let back : drop k bytes ≡ 0 ∷ (padding ++ drop e bytes) =
    drop-cons bytes k 0 lt ∙ ap (λ (b : ℕ). b ∷ rest) z ∙ ap (λ (r : List ℕ). 0 ∷ r) tail in
    sym (take-append-drop k bytes) ∙ ap (λ (r : List ℕ). take k bytes ++ r) back
    ∙ sym (append_assoc (take k bytes) (0 ∷ padding) (drop e bytes))

-- a text behind its length, which counts the zero byte
pub record IsCut (len : ℕ) (bytes t rest : List ℕ) : Type 0 where
  pub padding : List ℕ
  pub counts : len ≡ length t + 1
  pub text : is_text t ≡ true
  pub len-is : length padding ≡ 3 - length t % 4
  pub takes : Takes bytes (t ++ (0 ∷ padding)) rest

pub text_sound : (len : ℕ) (bytes t rest : List ℕ) → IsBytes bytes → 0 < len → text_at len bytes ≡ Some (t, rest) →
    IsCut len bytes t rest
unfolding text_at
text_sound len bytes t rest fits some e =
    let k = len - 1 in
    let body = take k bytes in
    let test = eqb (get_or bytes k 0) 0 && is_text body in
    let g = guard (ltb (length bytes) (padded len)) (cond test (Some (body, drop (padded len) bytes)) None)
    (t, rest) e in
    let (passed, pair) = cond_some test (body, drop (padded len) bytes) (t, rest) g.1 in
    let (zero-is, text-is) = and_parts (eqb (get_or bytes k 0) 0) (is_text body) passed in
    let long : padded len ≤ length bytes = ltb-false _ _ g.0 in
    let one : len ≡ k + 1 = omega arith in
    let pad-is : padded len ≡ k + 1 + (3 - k % 4) = no_more len k one in
    let body-len : length body ≡ k = omega (arith, length-take k bytes) in
    let padding-len : length (take (3 - k % 4) (drop (suc k) bytes)) ≡ 3 - k % 4 =
    omega (arith, length-take (3 - k % 4) (drop (suc k) bytes), length-drop (suc k) bytes) in
    let parts = cut k (3 - k % 4) (padded len) bytes (omega arith) (eqb-true _ _ zero-is) (omega arith) in
    subst (λ (p : List ℕ × List ℕ). IsCut len bytes p.0 p.1) pair (record {
      padding = take (3 - k % 4) (drop (suc k) bytes);
      counts = omega arith;
      text = text-is;
      len-is = rw body-len padding-len;
      takes = record { parts = parts; fits = IsBytes-drop (padded len) bytes fits };
    })

text_from : (n : ℕ) (bytes t rest : List ℕ) → ltb (length bytes) (padded n) ≡ false → get_or bytes (n - 1) 0 ≡ 0 →
    take (n - 1) bytes ≡ t → is_text t ≡ true → drop (padded n) bytes ≡ rest → text_at n bytes ≡ Some (t, rest)
unfolding text_at
text_from n bytes t rest long z body ok behind = rw (long, z, body, ok, behind) refl

pub text_complete : (t padding rest : List ℕ) → is_text t ≡ true → length padding ≡ 3 - length t % 4 →
    text_at (length t + 1) ((t ++ (0 ∷ padding)) ++ rest) ≡ Some (t, rest)
text_complete t padding rest ok len =
    let bytes = (t ++ (0 ∷ padding)) ++ rest in
    let n = length t + 1 in
    let pad-is : padded n ≡ length t + 1 + (3 - length t % 4) = no_more n (length t) refl in
    let front-len : length (t ++ (0 ∷ padding)) ≡ length t + (1 + length padding) =
    omega (arith, length-append t (0 ∷ padding)) in
    let grouped : bytes ≡ t ++ (0 ∷ (padding ++ rest)) = append_assoc t (0 ∷ padding) rest in
    let back : length t ≡ n - 1 = omega arith in
    text_from n bytes t rest
    (le-ltb _ _ (omega (arith, length-append (t ++ (0 ∷ padding)) rest)))
    (rw (grouped, ← back) (get_or_at t 0 (padding ++ rest) 0 (length t) refl))
    (rw (grouped, ← back) (take_at t (0 ∷ (padding ++ rest)) (length t) refl))
    ok
    (drop_at (t ++ (0 ∷ padding)) rest (padded n) (omega arith))

-- ---- strings

pub bound : {A B : Type 0} (o : Option A) (f : A → Option B) (y : B) → (o >>= f) ≡ Some y →
    (x : A) × (o ≡ Some x) × (f x ≡ Some y)
bound None f y e = absurd cc
bound (Some x) f y e = (x, refl, e)

pub chosen : {A : Type 0} (b : Bool) (x y z : A) → cond b x y ≡ z → ((b ≡ true) × (x ≡ z)) ⊎ ((b ≡ false) × (y ≡ z))
chosen true x y z e = inl (refl, e)
chosen false x y z e = inr (refl, e)

-- what a string that was read is
abbrev pub StringIs : Option (List ℕ) → List ℕ → List ℕ → Type 0
StringIs None bytes rest = Takes bytes (word_bytes 0) rest
StringIs (Some t) bytes rest = (front : List ℕ) × IsTextSpelled t front × Takes bytes front rest

abbrev Read : Type 0
Read = Option (List ℕ) × List ℕ

abbrev kept : List ℕ × List ℕ → Option Read
kept t = Some (Some t.0, t.1)

text_case : (len : ℕ) (bytes rest : List ℕ) (s : Option (List ℕ)) (end : List ℕ) → Takes bytes (word_bytes len) rest →
    len < 2 ^ 32 → 0 < len → (text_at len rest >>= kept) ≡ Some (s, end) → StringIs s bytes end
text_case len bytes rest s end word lt some e =
    let (t, was, made) = bound (text_at len rest) kept (s, end) e in
    let cut = text_sound len rest t.0 t.1 word.fits some was in
    let front = (word_bytes len ++ t.0) ++ (0 ∷ cut.padding) in
    let takes : Takes bytes front t.1 = record {
      parts = word.parts ∙ ap (λ (r : List ℕ). word_bytes len ++ r) cut.takes.parts
          ∙ sym (append_assoc (word_bytes len) (t.0 ++ (0 ∷ cut.padding)) t.1)
          ∙ ap (λ (r : List ℕ). r ++ t.1) (sym (append_assoc (word_bytes len) t.0 (0 ∷ cut.padding)));
      fits = cut.takes.fits;
    } in
    let spelled : IsTextSpelled t.0 front =
    record {
      text = cut.text;
      short = omega (arith, cut.counts);
      padding = cut.padding;
      len = cut.len-is;
      is = ap (λ (n : ℕ). (word_bytes n ++ t.0) ++ (0 ∷ cut.padding)) cut.counts;
    } in
    subst (λ (p : Read). StringIs p.0 bytes p.1) (some_is (Some t.0, t.1) (s, end) made) (front, spelled, takes)

pos_of : (n : ℕ) → eqb n 0 ≡ false → 0 < n
pos_of n e = let no = eqb-false n 0 e in elim (cases_lt 0 n) [ inl lt ↦ lt | inr le ↦ absurd (no (omega arith)) ]

pub string_sound : (bytes : List ℕ) (s : Option (List ℕ)) (end : List ℕ) → IsBytes bytes →
    string_at bytes ≡ Some (s, end) → StringIs s bytes end
unfolding string_at string_behind
string_sound bytes s end fits e =
    let (w, was, then) = bound (word_at bytes) (λ w. string_behind w.0 w.1) (s, end) e in
    let word = word_sound bytes w.0 w.1 fits was in
    elim (chosen (eqb w.0 0) (Some (None, w.1)) (text_at w.0 w.1 >>= kept) (Some (s, end)) then) [
      | inl h ↦ subst (λ (p : Read). StringIs p.0 bytes p.1) (some_is (None, w.1) (s, end) h.1)
          (let is = eqb-true _ _ h.0 in subst (λ (n : ℕ). Takes bytes (word_bytes n) w.1) is word.0)
      | inr h ↦ text_case w.0 bytes w.1 s end word.0 word.1 (pos_of w.0 h.0) h.1
    ]

not_zero : (n : ℕ) → 0 < n → eqb n 0 ≡ false
not_zero n h = ne_eqb n 0 (λ is. absurd (omega arith))

string_text : (len : ℕ) (bytes : List ℕ) (t rest : List ℕ) → 0 < len → text_at len bytes ≡ Some (t, rest) →
    string_behind len bytes ≡ Some (Some t, rest)
unfolding string_behind
string_text len bytes t rest some e = rw (not_zero len some, e) refl

pub string_complete : (t front rest : List ℕ) → IsTextSpelled t front → string_at (front ++ rest) ≡ Some (Some t, rest)
unfolding string_at
string_complete t front rest h =
    let n = length t + 1 in
    let grouped : front ++ rest ≡ word_bytes n ++ ((t ++ (0 ∷ h.padding)) ++ rest) =
    ap (λ (f : List ℕ). f ++ rest) (h.is ∙ append_assoc (word_bytes n) t (0 ∷ h.padding))
    ∙ append_assoc (word_bytes n) (t ++ (0 ∷ h.padding)) rest in
    let word : word_at (front ++ rest) ≡ Some (n, (t ++ (0 ∷ h.padding)) ++ rest) =
    ap word_at grouped ∙ word_complete n ((t ++ (0 ∷ h.padding)) ++ rest) h.short in
    rw word (string_text n ((t ++ (0 ∷ h.padding)) ++ rest) t rest (omega arith)
    (text_complete t h.padding rest h.text h.len))

pub null_complete : (rest : List ℕ) → string_at (word_bytes 0 ++ rest) ≡ Some (None, rest)
unfolding string_at string_behind
null_complete rest = rw (word_complete 0 rest (omega arith)) refl

-- ---- what a reader took is spelled so, and where it took nothing nothing is

none_some : {A : Type 0} (x : Option A) (y : A) → x ≡ None → x ≡ Some y → ⊥
none_some x y none some = absurd cc

abbrev pair_of : {X : Type 0} → X × Bor (List ℕ) → X × List ℕ
pair_of x = (x.0, x.1.now)

pub uint_spelled : (r : Result (ℕ × Bor (List ℕ)) Malformed) (bytes : List ℕ) → IsBytes bytes →
    Gives pair_of r (word_at bytes) → GivesSpelled IsUint pair_of r bytes
uint_spelled (Ok x) bytes fits e =
    let word = word_sound bytes x.0 x.1.now fits e in
    (word_bytes x.0, (word.1, refl), word.0.parts)
uint_spelled (Err f) bytes fits e = λ n front rest is parts.
    none_some (word_at bytes) (n, rest) e
    (ap word_at (parts ∙ ap (λ (b : List ℕ). b ++ rest) is.1) ∙ word_complete n rest is.0)

abbrev as_int : ℕ × List ℕ → Option (ℤ × List ℕ)
as_int w = Some (cast_signed w32 w.0, w.1)

pub int_sound : (bytes : List ℕ) (z : ℤ) (rest : List ℕ) → IsBytes bytes → int_at bytes ≡ Some (z, rest) →
    (FitsSigned w32 z × Takes bytes (int_bytes z) rest)
unfolding int_at
int_sound bytes z rest fits e =
    let (w, was, made) = bound (word_at bytes) as_int (z, rest) e in
    let word = word_sound bytes w.0 w.1 fits was in
    subst (λ (p : ℤ × List ℕ). FitsSigned w32 p.0 × Takes bytes (int_bytes p.0) p.1)
    (some_is (cast_signed w32 w.0, w.1) (z, rest) made) (
      let in_range : Fits w32 w.0 = omega (arith, word.1) in
          sfits_to_z in_range,
      subst (λ (n : ℕ). Takes bytes (word_bytes n) w.1) (sym (of_z-to_z w32 w.0 word.1)) word.0,
    )

pub int_complete : (z : ℤ) (rest : List ℕ) → FitsSigned w32 z → int_at (int_bytes z ++ rest) ≡ Some (z, rest)
unfolding int_at
int_complete z rest h = let fits : Fits w32 (cast_unsigned w32 z) =
    Fits-of_z h in
    rw (word_complete (cast_unsigned w32 z) rest (omega (arith, fits)))
    (ap (λ (y : ℤ). Some (y, rest)) (to_z-of_z w32 z h))

pub int_spelled : (r : Result (ℤ × Bor (List ℕ)) Malformed) (bytes : List ℕ) → IsBytes bytes →
    Gives pair_of r (int_at bytes) → GivesSpelled IsInt pair_of r bytes
int_spelled (Ok x) bytes fits e =
    let int = int_sound bytes x.0 x.1.now fits e in
    (int_bytes x.0, (int.0, refl), int.1.parts)
int_spelled (Err f) bytes fits e = λ z front rest is parts.
    none_some (int_at bytes) (z, rest) e
    (ap int_at (parts ∙ ap (λ (b : List ℕ). b ++ rest) is.1) ∙ int_complete z rest is.0)

string_front : (s : Option (List ℕ)) (bytes rest : List ℕ) → StringIs s bytes rest →
    (front : List ℕ) × IsString s front × (bytes ≡ front ++ rest)
string_front None bytes rest h = (word_bytes 0, refl, h.parts)
string_front (Some t) bytes rest h = (h.0, h.1, h.2.parts)

string_back : (s : Option (List ℕ)) (front rest : List ℕ) → IsString s front →
    string_at (front ++ rest) ≡ Some (s, rest)
string_back None front rest is = ap (λ (b : List ℕ). string_at (b ++ rest)) is ∙ null_complete rest
string_back (Some t) front rest is = string_complete t front rest is

abbrev string_pair : Option (Bor (List ℕ)) × Bor (List ℕ) → Option (List ℕ) × List ℕ
string_pair x = (option_copied x.0, x.1.now)

pub string_spelled : (r : Result (Option (Bor (List ℕ)) × Bor (List ℕ)) Malformed) (bytes : List ℕ) → IsBytes bytes →
    Gives string_pair r (string_at bytes) → GivesSpelled IsString string_pair r bytes
string_spelled (Ok x) bytes fits e =
    string_front (option_copied x.0) bytes x.1.now (string_sound bytes (option_copied x.0) x.1.now fits e)
string_spelled (Err f) bytes fits e = λ s front rest is parts.
    none_some (string_at bytes) (s, rest) e (ap string_at parts ∙ string_back s front rest is)
