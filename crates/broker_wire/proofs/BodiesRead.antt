-- What a reader answers is what the body reads as.
use Rattle.std.proofs.Common.{◌≡◌, ℕ, List, Option, Some, None, Result, Ok, Err, refl, sym, ap, ◌∙◌, subst}
use Rattle.wl_wire.specs.Texts.{IsBytes}
use Rattle.wl_proto.specs.declared.table.Kind.{Kind}
use Rattle.wl_proto.specs.declared.interface.Interface.{Interface}
use Rattle.wl_proto.specs.declared.refuse.Refuse.{Refuse}
use Rattle.wl_proto.specs.declared.refuse.Refuse.TheVariants as refuse
use Rattle.wl_proto.specs.Grammar.{Value}
use Rattle.wl_proto.specs.Rows.{Message, message}
use Rattle.wl_proto.specs.Reading.{values_at, by_row, all_read, Gives}
use Rattle.wl_proto.specs.Spelled.{Spelled, AreTokens, IsRead, IsMalformed, Answers}
use Rattle.wl_proto.proofs.ValuesReadBack.{values_sound, values_complete}

abbrev fine : Message → Result Message Refuse
fine m = Ok m

message_is : (m : Message) (i : Interface) (n : ℕ) → m.interface ≡ i → m.opcode ≡ n → message i n m.values ≡ m
message_is m i n e f =
    ap (λ (j : Interface). message j n m.values) (sym e) ∙ ap (λ (k : ℕ). message m.interface k m.values) (sym f)

row_is : (ks row : List Kind) →
    (let a : Option (List Kind) = Some ks in let b : Option (List Kind) = Some row in a ≡ b) → ks ≡ row
row_is ks row e = cc

read_ok : (ks : List Kind) (i : Interface) (n : ℕ) (tokens body : List ℕ) (m : Message) →
    IsRead (Some ks) i n tokens body m →
    all_read i n (values_at tokens ks body) ≡ Ok m
read_ok ks i n tokens body m h =
    let full : values_at tokens h.row body ≡ Some m.values =
    values_complete tokens h.row m.values body h.spelled h.tokens-are in
    ap (λ (row : List Kind). all_read i n (values_at tokens row body)) (row_is ks h.row h.row-is)
    ∙ ap (λ (o : Option (List Value)). all_read i n o) full
    ∙ ap fine (message_is m i n h.interface-is h.opcode-is)

read_none : (ks : List Kind) (i : Interface) (n : ℕ) (tokens body : List ℕ) (vs : Option (List Value)) → IsBytes body →
    values_at tokens ks body ≡ vs → IsMalformed (Some ks) tokens body → all_read i n vs ≡ Err refuse.Malformed
read_none ks i n tokens body None fits was h = refl
read_none ks i n tokens body (Some vs) fits was h =
    let s : Spelled ks vs body × AreTokens tokens vs = values_sound tokens ks body vs fits was in
    absurd (h.none vs (subst (λ (row : List Kind). Spelled row vs body) (row_is ks h.row h.row-is) s.0) s.1)

pub gives : {X : Type 0} (view : X → Message) (kinds : Option (List Kind)) (i : Interface) (n : ℕ)
    (tokens body : List ℕ) (r : Result X Refuse) →
    IsBytes body → Answers view kinds i n tokens body r → Gives view r (by_row i n tokens body kinds)
gives view (Some ks) i n tokens body (Ok x) fits h = read_ok ks i n tokens body (view x) h
gives view None i n tokens body (Ok x) fits h = let e = h.row-is in absurd cc
gives view (Some ks) i n tokens body (Err refuse.Opcode) fits h = absurd cc
gives view None i n tokens body (Err refuse.Opcode) fits h = refl
gives view (Some ks) i n tokens body (Err refuse.Malformed) fits h =
    read_none ks i n tokens body (values_at tokens ks body) fits refl h
gives view None i n tokens body (Err refuse.Malformed) fits h = let e = h.row-is in absurd cc
