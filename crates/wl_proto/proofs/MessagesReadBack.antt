-- A message that is read is spelled so, and one that isn't read is no spelling.
use Rattle.std.proofs.Common.{◌≡◌, ℕ, List, Option, Some, None, Result, Ok, Err, refl, subst}
use Rattle.wl_wire.specs.Texts.{IsBytes}
use Rattle.wl_proto.specs.declared.table.Kind.{Kind}
use Rattle.wl_proto.specs.declared.interface.Interface.{Interface}
use Rattle.wl_proto.specs.declared.refuse.Refuse.{Refuse}
use Rattle.wl_proto.specs.declared.refuse.Refuse.TheVariants as refuse
use Rattle.wl_proto.specs.Grammar.{Value}
use Rattle.wl_proto.specs.Rows.{Message, message}
use Rattle.wl_proto.specs.Reading.{values_at, by_row, all_read, Gives}
use Rattle.wl_proto.specs.Spelled.{IsRead, Answers}
use Rattle.wl_proto.proofs.ValuesReadBack.{values_sound, values_complete}

ok_is : {A : Type 0} (x y : A) → (let R : Type 0 = Result A Refuse in let a : R = Ok x in let b : R = Ok y in a ≡ b) →
    x ≡ y
ok_is x y e = cc

in_row : {X : Type 0} (view : X → Message) (ks : List Kind) (i : Interface) (n : ℕ) (tokens body : List ℕ)
    (vs : Option (List Value)) (r : Result X Refuse) → IsBytes body → values_at tokens ks body ≡ vs →
    Gives view r (all_read i n vs) → Answers view (Some ks) i n tokens body r
in_row view ks i n tokens body (Some vs) (Ok x) fits was e =
    let (spelled, tokens-are) = values_sound tokens ks body vs fits was in
    subst (λ (m : Message). IsRead (Some ks) i n tokens body m) (ok_is (message i n vs) (view x) e)
    (record {
      interface-is = refl;
      opcode-is = refl;
      row = ks;
      row-is = refl;
      spelled = spelled;
      tokens-are = tokens-are;
    })
in_row view ks i n tokens body None (Ok x) fits was e = absurd cc
in_row view ks i n tokens body (Some vs) (Err f) fits was e = absurd cc
in_row view ks i n tokens body None (Err refuse.Opcode) fits was e = absurd cc
in_row view ks i n tokens body None (Err refuse.Malformed) fits was e =
    record {
      row = ks;
      row-is = refl;
      none = λ vs spelled tokens-are. let read = values_complete tokens ks vs body spelled tokens-are in absurd cc;
    }

pub answers : {X : Type 0} (view : X → Message) (kinds : Option (List Kind)) (i : Interface) (n : ℕ)
    (tokens body : List ℕ) (r : Result X Refuse) → IsBytes body → Gives view r (by_row i n tokens body kinds) →
    Answers view kinds i n tokens body r
answers view (Some ks) i n tokens body r fits e =
    in_row view ks i n tokens body (values_at tokens ks body) r fits refl e
answers view None i n tokens body (Ok x) fits e = absurd cc
answers view None i n tokens body (Err refuse.Opcode) fits e = refl
answers view None i n tokens body (Err refuse.Malformed) fits e = absurd cc
