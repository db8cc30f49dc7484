-- The values that a request is read as have the ranges of their kinds.
use Rattle.std.proofs.Common.{◌≡◌, ℕ, List, [], ◌∷◌, Option, Some, None, Ok, refl, subst}
use Rattle.wl_wire.specs.Texts.{IsBytes}
use Rattle.wl_wire.specs.Spelled.{IsTextSpelled}
use Rattle.wl_proto.specs.declared.interface.Interface.{Interface}
use Rattle.wl_proto.specs.declared.table.Kind.{Kind}
use Rattle.wl_proto.specs.declared.table.Kind.TheVariants.{Uint, Int, Object, NewId, Text, TextOrNull, Descriptor}
use Rattle.wl_proto.specs.Grammar.{Value, word, signed, text, null, token}
use Rattle.wl_proto.specs.Rows.{Message, message, request_kinds}
use Rattle.wl_proto.specs.Reading.{values_at, all_read, by_row, request_reading}
use Rattle.wl_proto.specs.Spelled.{IsSpelled, Spelled}
use Rattle.wl_proto.proofs.ValuesReadBack.{values_sound}
use Rattle.broker_telling.specs.Sayable.{IsWord, IsInt, IsText}

-- the number has 32 bits, the text is one of the protocol
abbrev pub IsSound : Value → Type 0
IsSound (word n) = IsWord n
IsSound (signed z) = IsInt z
IsSound (text t) = IsText t
IsSound null = Unit {0}
IsSound (token n) = Unit {0}

abbrev pub AreSound : List Value → Type 0
AreSound [] = Unit {0}
AreSound (v ∷ vs) = IsSound v × AreSound vs

value_sound : (k : Kind) (v : Value) (front : List ℕ) → IsSpelled k v front → IsSound v
value_sound Uint (word n) front h = h.0
value_sound Object (word n) front h = h.0
value_sound NewId (word n) front h = h.0
value_sound Int (signed z) front h = h.0
value_sound Text (text t) front h = (let s : IsTextSpelled t front = h in s.text)
value_sound TextOrNull (text t) front h = (let s : IsTextSpelled t front = h in s.text)
value_sound TextOrNull null front h = tt
value_sound Descriptor (token n) front h = tt
value_sound k v front h = absurd h

spelled_sound : (ks : List Kind) (vs : List Value) (bytes : List ℕ) → Spelled ks vs bytes → AreSound vs
spelled_sound [] [] bytes h = tt
spelled_sound (k ∷ ks) (v ∷ vs) bytes h = (value_sound k v h.0 h.2, spelled_sound ks vs h.1 h.4)
spelled_sound _ _ bytes h = absurd h

-- a message that is read out of a row has the values that are read
pub reads_values :
    (P : List Value → Type 0)
    (reads : Interface → ℕ → Option (List Kind)) (i : Interface) (n : ℕ) (tokens body : List ℕ) (m : Message) →
    ((ks : List Kind) (vs : List Value) → reads i n ≡ Some ks → values_at tokens ks body ≡ Some vs → P vs) →
    by_row i n tokens body (reads i n) ≡ Ok m → P m.values
reads_values P reads i n tokens body m h e = by (reads i n) refl e
  where
    read : (ks : List Kind) (o : Option (List Value)) → reads i n ≡ Some ks → values_at tokens ks body ≡ o →
        all_read i n o ≡ Ok m → P m.values
    read ks None r q k = cc
    read ks (Some vs) r q k =
        (let same : message i n vs ≡ m = cc in subst (λ (x : Message). P x.values) same (h ks vs r q))

    by : (o : Option (List Kind)) → reads i n ≡ o → by_row i n tokens body o ≡ Ok m → P m.values
    by None r k = cc
    by (Some ks) r k = read ks (values_at tokens ks body) r refl k

-- of a body of bytes they are
pub request_sound : (i : Interface) (n : ℕ) (tokens body : List ℕ) (m : Message) → IsBytes body →
    request_reading i n tokens body ≡ Ok m →
    AreSound m.values
unfolding request_reading
request_sound i n tokens body m fits e =
    reads_values AreSound request_kinds i n tokens body m
    (λ ks vs r q. spelled_sound ks vs body (values_sound tokens ks body vs fits q).0) e
