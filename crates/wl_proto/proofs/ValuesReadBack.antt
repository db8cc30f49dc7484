-- What is read is spelled so, and what is spelled so is read.
use Rattle.std.proofs.Common.{◌≡◌, ℕ, ℤ, suc, ◌+◌, ◌-◌, ◌%◌, ◌^◌, ◌<◌, ◌≤◌, true, eqb, List, [], ◌∷◌, ◌++◌, length, take, Option, Some, None, refl, sym, ap, subst, ◌∙◌, arith}
use Rattle.std.proofs.lemmas.Bool.{eqb-true}
use Rattle.std.proofs.lemmas.List.{nil_from_length, length-take}
use Rattle.std.proofs.lemmas.Option.{cond_some}
use Rattle.wl_wire.specs.Texts.{is_text, IsBytes}
use Rattle.wl_wire.specs.Reading.{◌>>=◌, word_at, int_at, string_at}
use Rattle.wl_wire.specs.Spelling.{word_bytes, int_bytes, text_bytes, zeros}
use Rattle.wl_wire.specs.Spelled.{IsTextSpelled}
use Rattle.wl_wire.proofs.ArgumentsReadBack.{Takes, StringIs, bound, some_is, word_sound, word_complete, int_sound, int_complete, string_sound, string_complete, null_complete}
use Rattle.wl_proto.specs.declared.table.Kind.{Kind}
use Rattle.wl_proto.specs.declared.table.Kind.TheVariants.{Uint, Int, Object, NewId, Text, TextOrNull, Descriptor}
use Rattle.wl_proto.specs.Grammar.{Value, word, signed, text, null, token, string_value}
use Rattle.wl_proto.specs.Reading.{first_of, text_at, value_at, values_at}
use Rattle.wl_proto.specs.Spelling.{value_bytes, value_len, values_len, spelling}
use Rattle.wl_proto.specs.Spelled.{IsSpelled, Spelled, IsToken, AreTokens, open_value, open_values, IsOfKind, AreOfKinds}

pub record Sound (tokens : List ℕ) (k : Kind) (bytes : List ℕ) (v : Value) (rest : List ℕ) : Type 0 where
  pub front : List ℕ
  pub spelled : IsSpelled k v front
  pub tokens-are : IsToken tokens v
  pub takes : Takes bytes front rest

abbrev At : Type 0
At = Value × List ℕ

-- ---- what is read is spelled so

abbrev as_word : ℕ × List ℕ → Option At
as_word w = Some (word w.0, w.1)

word_value : (tokens : List ℕ) (k : Kind) (bytes : List ℕ) (v : Value) (rest : List ℕ) →
    ((n : ℕ) → n < 2 ^ 32 → IsSpelled k (word n) (word_bytes n)) → IsBytes bytes →
    (word_at bytes >>= as_word) ≡ Some (v, rest) → Sound tokens k bytes v rest
word_value tokens k bytes v rest spell fits e =
    let (w, was, made) = bound (word_at bytes) as_word (v, rest) e in
    let is = word_sound bytes w.0 w.1 fits was in
    subst (λ (p : At). Sound tokens k bytes p.0 p.1) (some_is (word w.0, w.1) (v, rest) made)
    (record { front = word_bytes w.0; spelled = spell w.0 is.1; tokens-are = tt; takes = is.0 })

abbrev as_signed : ℤ × List ℕ → Option At
as_signed w = Some (signed w.0, w.1)

abbrev as_text : List ℕ × List ℕ → Option At
as_text t = Some (text t.0, t.1)

abbrev as_string : Option (List ℕ) × List ℕ → Option At
as_string s = Some (string_value s.0, s.1)

abbrev not_null : Option (List ℕ) × List ℕ → Option (List ℕ × List ℕ)
not_null s = s.0 >>= (λ t. Some (t, s.1))

inner : (o : Option (List ℕ)) (r t rest : List ℕ) → not_null (o, r) ≡ Some (t, rest) →
    (let A : Type 0 = Option (List ℕ) × List ℕ in let x : A = (o, r) in let y : A = (Some t, rest) in x ≡ y)
inner None r t rest e = absurd cc
inner (Some x) r t rest e = ap (λ (p : List ℕ × List ℕ). (Some p.0, p.1)) (some_is (x, r) (t, rest) e)

text_at_sound : (bytes t rest : List ℕ) → text_at bytes ≡ Some (t, rest) → string_at bytes ≡ Some (Some t, rest)
unfolding text_at
text_at_sound bytes t rest e =
    let (s, was, made) = bound (string_at bytes) not_null (t, rest) e in
    was ∙ ap (λ (p : Option (List ℕ) × List ℕ). Some p) (inner s.0 s.1 t rest made)

string_value_sound : (tokens bytes : List ℕ) (s : Option (List ℕ)) (rest : List ℕ) → StringIs s bytes rest →
    Sound tokens TextOrNull bytes (string_value s) rest
string_value_sound tokens bytes None rest h =
    record { front = word_bytes 0; spelled = refl; tokens-are = tt; takes = h }
string_value_sound tokens bytes (Some t) rest h = record { front = h.0; spelled = h.1; tokens-are = tt; takes = h.2 }

value_sound : (tokens : List ℕ) (k : Kind) (bytes : List ℕ) (v : Value) (rest : List ℕ) → IsBytes bytes →
    value_at tokens k bytes ≡ Some (v, rest) → Sound tokens k bytes v rest
value_sound tokens Uint bytes v rest fits e = word_value tokens Uint bytes v rest (λ n lt. (lt, refl)) fits e
value_sound tokens Object bytes v rest fits e = word_value tokens Object bytes v rest (λ n lt. (lt, refl)) fits e
value_sound tokens NewId bytes v rest fits e = word_value tokens NewId bytes v rest (λ n lt. (lt, refl)) fits e
value_sound tokens Int bytes v rest fits e =
    let (w, was, made) = bound (int_at bytes) as_signed (v, rest) e in
    let is = int_sound bytes w.0 w.1 fits was in
    subst (λ (p : At). Sound tokens Int bytes p.0 p.1) (some_is (signed w.0, w.1) (v, rest) made)
    (record { front = int_bytes w.0; spelled = (is.0, refl); tokens-are = tt; takes = is.1 })
value_sound tokens Text bytes v rest fits e =
    let (t, was, made) = bound (text_at bytes) as_text (v, rest) e in
    let is = string_sound bytes (Some t.0) t.1 fits (text_at_sound bytes t.0 t.1 was) in
    subst (λ (p : At). Sound tokens Text bytes p.0 p.1) (some_is (text t.0, t.1) (v, rest) made)
    (record { front = is.0; spelled = is.1; tokens-are = tt; takes = is.2 })
value_sound tokens TextOrNull bytes v rest fits e =
    let (s, was, made) = bound (string_at bytes) as_string (v, rest) e in
    subst (λ (p : At). Sound tokens TextOrNull bytes p.0 p.1) (some_is (string_value s.0, s.1) (v, rest) made)
    (string_value_sound tokens bytes s.0 s.1 (string_sound bytes s.0 s.1 fits was))
value_sound tokens Descriptor bytes v rest fits e =
    let f : ℕ → Option At = λ t. Some (token t, bytes) in
    let (t, was, made) = bound (first_of tokens) f (v, rest) e in
    subst (λ (p : At). Sound tokens Descriptor bytes p.0 p.1) (some_is (token t, bytes) (v, rest) made)
    (record { front = []; spelled = refl; tokens-are = was; takes = record { parts = refl; fits = fits } })

pub values_sound : (tokens : List ℕ) (ks : List Kind) (bytes : List ℕ) (vs : List Value) → IsBytes bytes →
    values_at tokens ks bytes ≡ Some vs → Spelled ks vs bytes × AreTokens tokens vs
values_sound tokens [] bytes vs fits e =
    let (none, is) = cond_some (eqb (length bytes) 0) [] vs e in
    subst (λ (ws : List Value). Spelled [] ws bytes × AreTokens tokens ws) is
    (nil_from_length bytes (eqb-true _ _ none), tt)
values_sound tokens (k ∷ ks) bytes vs fits e =
    let more : At → Option (List Value) = λ v. values_at tokens ks v.1 >>= (λ ws. Some (v.0 ∷ ws)) in
    let (v, was, then) = bound (value_at tokens k bytes) more vs e in
    let with : List Value → Option (List Value) = λ ws. Some (v.0 ∷ ws) in
    let (ws, were, made) = bound (values_at tokens ks v.1) with vs then in
    let first = value_sound tokens k bytes v.0 v.1 fits was in
    let others = values_sound tokens ks v.1 ws first.takes.fits were in
    subst (λ (xs : List Value). Spelled (k ∷ ks) xs bytes × AreTokens tokens xs) (some_is (v.0 ∷ ws) vs made)
    ((first.front, v.1, first.spelled, first.takes.parts, others.0), (first.tokens-are, others.1))

-- ---- what is spelled is read

text_complete : (t front rest : List ℕ) → IsTextSpelled t front → text_at (front ++ rest) ≡ Some (t, rest)
unfolding text_at
text_complete t front rest h = rw (string_complete t front rest h) refl

word_back : (front rest : List ℕ) (n : ℕ) → n < 2 ^ 32 → front ≡ word_bytes n →
    (word_at (front ++ rest) >>= as_word) ≡ Some (word n, rest)
word_back front rest n lt is =
    ap (λ (f : List ℕ). word_at (f ++ rest) >>= as_word) is
    ∙ ap (λ (o : Option (ℕ × List ℕ)). o >>= as_word) (word_complete n rest lt)

value_complete : (tokens : List ℕ) (k : Kind) (v : Value) (front rest : List ℕ) → IsSpelled k v front →
    IsToken tokens v → value_at tokens k (front ++ rest) ≡ Some (v, rest)
value_complete tokens Uint (word n) front rest h t = word_back front rest n h.0 h.1
value_complete tokens Object (word n) front rest h t = word_back front rest n h.0 h.1
value_complete tokens NewId (word n) front rest h t = word_back front rest n h.0 h.1
value_complete tokens Int (signed z) front rest h t =
    ap (λ (f : List ℕ). int_at (f ++ rest) >>= as_signed) h.1
    ∙ ap (λ (o : Option (ℤ × List ℕ)). o >>= as_signed) (int_complete z rest h.0)
value_complete tokens Text (text s) front rest h t =
    ap (λ (o : Option (List ℕ × List ℕ)). o >>= as_text) (text_complete s front rest h)
value_complete tokens TextOrNull (text s) front rest h t =
    ap (λ (o : Option (Option (List ℕ) × List ℕ)). o >>= as_string) (string_complete s front rest h)
value_complete tokens TextOrNull null front rest h t =
    ap (λ (f : List ℕ). string_at (f ++ rest) >>= as_string) h
    ∙ ap (λ (o : Option (Option (List ℕ) × List ℕ)). o >>= as_string) (null_complete rest)
value_complete tokens Descriptor (token n) front rest h t =
    let f : ℕ → Option At = λ t. Some (token t, front ++ rest) in
    ap (λ (o : Option ℕ). o >>= f) t ∙ ap (λ (b : List ℕ). Some (token n, b ++ rest)) h
value_complete tokens k v front rest h t = absurd h

pub values_complete : (tokens : List ℕ) (ks : List Kind) (vs : List Value) (bytes : List ℕ) → Spelled ks vs bytes →
    AreTokens tokens vs → values_at tokens ks bytes ≡ Some vs
values_complete tokens [] [] bytes h t = rw h refl
values_complete tokens (k ∷ ks) (v ∷ vs) bytes h t =
    let more : At → Option (List Value) = λ v. values_at tokens ks v.1 >>= (λ ws. Some (v.0 ∷ ws)) in
    let with : List Value → Option (List Value) = λ ws. Some (v ∷ ws) in
    ap (λ (b : List ℕ). value_at tokens k b >>= more) h.3
    ∙ ap (λ (o : Option At). o >>= more) (value_complete tokens k v h.0 h.1 h.2 t.0)
    ∙ ap (λ (o : Option (List Value)). o >>= with) (values_complete tokens ks vs h.1 h.4 t.1)
values_complete tokens _ _ bytes h t = absurd h

-- ---- two value lists of one body differ at most in a descriptor

open_spelled : (k : Kind) (v : Value) (front : List ℕ) → IsSpelled k v front → IsSpelled k (open_value v) front
open_spelled Descriptor (token n) front h = h
open_spelled k (word n) front h = h
open_spelled k (signed z) front h = h
open_spelled k (text s) front h = h
open_spelled k null front h = h
open_spelled k (token n) front h = absurd h

opened : (ks : List Kind) (vs : List Value) (bytes : List ℕ) → Spelled ks vs bytes → Spelled ks (open_values vs) bytes
opened [] [] bytes h = h
opened (k ∷ ks) (v ∷ vs) bytes h = (h.0, h.1, open_spelled k v h.0 h.2, h.3, opened ks vs h.1 h.4)
opened _ _ bytes h = absurd h

open_token : (v : Value) → IsToken (0 ∷ []) (open_value v)
open_token (word n) = tt
open_token (signed z) = tt
open_token (text s) = tt
open_token null = tt
open_token (token n) = refl

open_tokens : (vs : List Value) → AreTokens (0 ∷ []) (open_values vs)
open_tokens [] = tt
open_tokens (v ∷ vs) = (open_token v, open_tokens vs)

pub one_list : (ks : List Kind) (vs ws : List Value) (bytes : List ℕ) → Spelled ks vs bytes → Spelled ks ws bytes →
    open_values vs ≡ open_values ws
one_list ks vs ws bytes v w =
    let a = values_complete (0 ∷ []) ks (open_values vs) bytes (opened ks vs bytes v) (open_tokens vs) in
    let b = values_complete (0 ∷ []) ks (open_values ws) bytes (opened ks ws bytes w) (open_tokens ws) in
    some_is (open_values vs) (open_values ws) (sym a ∙ b)

-- ---- the spelling is one

zeros_are : (n : ℕ) → zeros n ≡ 0 ∷ take (3 - n % 4) (0 ∷ 0 ∷ 0 ∷ [])
zeros_are n =
    let e : 4 - n % 4 ≡ suc (3 - n % 4) = omega arith in
    ap (λ (m : ℕ). take m (0 ∷ 0 ∷ 0 ∷ 0 ∷ [])) e

text_spelled : (t : List ℕ) → is_text t ≡ true → length t < 4096 → IsTextSpelled t (text_bytes t)
unfolding text_bytes
text_spelled t is lt = record {
  text = is;
  short = omega arith;
  padding = take (3 - length t % 4) (0 ∷ 0 ∷ 0 ∷ []);
  len = let ceros : List ℕ = 0 ∷ 0 ∷ 0 ∷ [] in omega (arith, length-take (3 - length t % 4) ceros);
  is = ap (λ (z : List ℕ). (word_bytes (length t + 1) ++ t) ++ z) (zeros_are (length t));
}

value_spelled : (k : Kind) (v : Value) → IsOfKind k v → value_len v ≤ 4096 → IsSpelled k v (value_bytes v)
value_spelled Uint (word n) h le = (h, refl)
value_spelled Object (word n) h le = (h, refl)
value_spelled NewId (word n) h le = (h, refl)
value_spelled Int (signed z) h le = (h, refl)
value_spelled Text (text t) h le = text_spelled t h (omega arith)
value_spelled TextOrNull (text t) h le = text_spelled t h (omega arith)
value_spelled TextOrNull null h le = refl
value_spelled Descriptor (token n) h le = refl
value_spelled k v h le = absurd h

pub spelled_once : (ks : List Kind) (vs : List Value) → AreOfKinds ks vs → values_len vs ≤ 4096 →
    Spelled ks vs (spelling vs)
spelled_once [] [] h le = refl
spelled_once (k ∷ ks) (v ∷ vs) h le =
    (value_bytes v, spelling vs, value_spelled k v h.0 (omega arith), refl, spelled_once ks vs h.1 (omega arith))
spelled_once _ _ h le = absurd h
