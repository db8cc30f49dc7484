-- The text of a fault as a word.
use Rattle.std.proofs.Common.{◌≡◌, ℕ, zero, suc, true, List, [], ◌∷◌, refl, arith}
use Rattle.std.specs.Prelude.{nat_lt}
use Rattle.std.specs.List.{list_all}
use Rattle.std.proofs.lemmas.Bool.{and_parts, ltb-true}
use Rattle.hex.specs.Hex.{encode_lower, IsBytes}
use Rattle.wl_wire.specs.Texts.{has_no_zero}
use Rattle.relay_model.specs.declared.fault.Fault.{Fault}
use Rattle.relay_model.specs.declared.fault.Fault.TheVariants.{Size, Object, Opcode, Malformed, Argument, NewId, TooMany, Bind, Capability, Role, NoKeymap}
use Rattle.relay_model.specs.Faults.{text_of}
use Rattle.session_text.specs.Words.{hex_word}
use Rattle.session_text.proofs.LinesSplit.{zero as zero_outside, encoded_lacks}

pub fault_word : (fault : Fault) → encode_lower (text_of fault) ≡ hex_word (text_of fault)
fault_word Size = refl
fault_word Object = refl
fault_word Opcode = refl
fault_word Malformed = refl
fault_word Argument = refl
fault_word NewId = refl
fault_word TooMany = refl
fault_word Bind = refl
fault_word Capability = refl
fault_word Role = refl
fault_word NoKeymap = refl

below : (bs : List ℕ) → list_all (λ x. nat_lt x 256) bs ≡ true → IsBytes bs
below [] h i = omega arith
below (x ∷ xs) h zero = ltb-true x 256 (and_parts (nat_lt x 256) (list_all (λ x. nat_lt x 256) xs) h).0
below (x ∷ xs) h (suc i) = below xs (and_parts (nat_lt x 256) (list_all (λ x. nat_lt x 256) xs) h).1 i

fault_below : (fault : Fault) → list_all (λ x. nat_lt x 256) (text_of fault) ≡ true
fault_below Size = refl
fault_below Object = refl
fault_below Opcode = refl
fault_below Malformed = refl
fault_below Argument = refl
fault_below NewId = refl
fault_below TooMany = refl
fault_below Bind = refl
fault_below Capability = refl
fault_below Role = refl
fault_below NoKeymap = refl

pub fault_clean : (fault : Fault) → has_no_zero (encode_lower (text_of fault)) ≡ true
fault_clean fault = encoded_lacks 0 zero_outside (text_of fault) (below (text_of fault) (fault_below fault))
