-- The text of a request that was read has no zero byte.
use Rattle.std.proofs.Common.{ℕ, List, [], ◌∷◌, Option, Result, Ok, Err}
use Rattle.std.proofs.lemmas.Bool.{and_parts}
use Rattle.std.specs.Prelude.{IsTrue, IfOk}
use Rattle.std.specs.Str.{is_utf8}
use Rattle.wl_wire.specs.Texts.{has_no_zero}
use Rattle.wl_wire.specs.Spelled.{IsTextSpelled}
use Rattle.wl_proto.specs.declared.interface.Interface.{Interface}
use Rattle.wl_proto.specs.declared.table.Kind.{Kind}
use Rattle.wl_proto.specs.declared.table.Kind.TheVariants as kinds
use Rattle.wl_proto.specs.declared.refuse.Refuse.{Refuse}
use Rattle.wl_proto.specs.declared.request.Request.{Request}
use Rattle.wl_proto.specs.declared.request.Request.TheVariants as request
use Rattle.wl_proto.specs.Grammar.{Value, word, signed, text, null, token}
use Rattle.wl_proto.specs.Rows.{request_message}
use Rattle.wl_proto.specs.Spelled.{IsSpelled, Spelled, Answers}
use Rattle.broker_wire.specs.Asked.{HasText}

-- a text has no zero byte
abbrev IsClean : Value → Type 0
IsClean (text t) = IsTrue (has_no_zero t)
IsClean _ = Unit {0}

abbrev AreClean : List Value → Type 0
AreClean [] = Unit {0}
AreClean (v ∷ vs) = IsClean v × AreClean vs

text_is_clean : (t bytes : List ℕ) → IsTextSpelled t bytes → IsClean (text t)
text_is_clean t bytes h = (and_parts (has_no_zero t) (is_utf8 t) h.text).0

spelled_clean : (k : Kind) (v : Value) (bytes : List ℕ) → IsSpelled k v bytes → IsClean v
spelled_clean k (word n) bytes h = tt
spelled_clean k (signed z) bytes h = tt
spelled_clean k null bytes h = tt
spelled_clean k (token n) bytes h = tt
spelled_clean kinds.Text (text t) bytes h = text_is_clean t bytes h
spelled_clean kinds.TextOrNull (text t) bytes h = text_is_clean t bytes h
spelled_clean kinds.Uint (text t) bytes h = absurd h
spelled_clean kinds.Int (text t) bytes h = absurd h
spelled_clean kinds.Object (text t) bytes h = absurd h
spelled_clean kinds.NewId (text t) bytes h = absurd h
spelled_clean kinds.Descriptor (text t) bytes h = absurd h

all_clean : (ks : List Kind) (vs : List Value) (bytes : List ℕ) → Spelled ks vs bytes → AreClean vs
all_clean [] [] bytes h = tt
all_clean (k ∷ ks) (v ∷ vs) bytes (front, rest, one, was, others) =
    (spelled_clean k v front one, all_clean ks vs rest others)
all_clean [] (v ∷ vs) bytes h = absurd h
all_clean (k ∷ ks) [] bytes h = absurd h

has_text : (r : Request) → AreClean (request_message r).values → HasText r
has_text (request.SetSurroundingText t cursor anchor) h = h.0
has_text (request.CommitString t) h = h.0
has_text (request.SetPreeditString t begin end) h = h.0
has_text _ h = tt

pub read_text : (ks : Option (List Kind)) (i : Interface) (n : ℕ) (tokens body : List ℕ) (r : Result Request Refuse) →
    Answers request_message ks i n tokens body r → IfOk r HasText
read_text ks i n tokens body (Ok r) h = has_text r (all_clean h.row (request_message r).values body h.spelled)
read_text ks i n tokens body (Err e) h = tt
