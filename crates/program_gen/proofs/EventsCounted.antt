-- Events are counted message by message, and there are no more than bytes.
use Rattle.std.proofs.Common.{◌≡◌, ℕ, zero, suc, ◌+◌, ◌≤◌, List, [], ◌∷◌, length, take, drop, Bool, true, false, cond, refl, sym, ap, ◌∙◌, arith}
use Rattle.std.specs.Prelude.{if◌then◌else◌, ◌==◌, ◌&&◌}
use Rattle.std.specs.List.{count_by}
use Rattle.std.proofs.lemmas.List.{length-drop}
use Rattle.std.proofs.lemmas.List.Sums.{sum_by-cons, count_by-le-length}
use Rattle.wl_wire.specs.Messages.{size_of, is_whole, messages_within, messages}
use Rattle.wl_wire.specs.declared.raw.Raw.{Raw}
use Rattle.wl_wire.specs.declared.front.Front.{Front}
use Rattle.wl_wire.specs.declared.front.Front.TheVariants as front
use Rattle.wl_wire.specs.Fronts.{IsFrontMessage, HasMessages}
use Rattle.wl_wire.proofs.FirstMessages.{headed}
use Rattle.program_gen.specs.Events.{is_event, events_in}

next_events : (id opcode : ℕ) (bytes m rest : List ℕ) → messages bytes ≡ m ∷ messages rest →
    events_in id opcode bytes ≡ cond (is_event id opcode m) 1 0 + events_in id opcode rest
unfolding events_in
next_events id opcode bytes m rest e =
    ap (count_by (is_event id opcode)) e ∙ sum_by-cons (λ m. cond (is_event id opcode m) 1 0) m (messages rest)

no_events : (id opcode : ℕ) (bytes : List ℕ) → messages bytes ≡ [] → events_in id opcode bytes ≡ 0
unfolding events_in
no_events id opcode bytes e = ap (count_by (is_event id opcode)) e

-- there are no more than bytes

few_by : (n : ℕ) (bytes : List ℕ) (b : Bool) → is_whole bytes ≡ b →
    ((rest : List ℕ) → length (messages_within n rest) ≤ length rest) →
    length (if b then take (size_of bytes) bytes ∷ messages_within n (drop (size_of bytes) bytes) else [])
    ≤ length bytes
few_by n bytes false e k = omega arith
few_by n bytes true e k =
    let h = headed bytes e in
    let some : 8 ≤ size_of bytes = h.size in
    let there : size_of bytes ≤ length bytes = h.there in
    let rest = k (drop (size_of bytes) bytes) in
    omega (arith, length-drop (size_of bytes) bytes)

few_within : (n : ℕ) (bytes : List ℕ) → length (messages_within n bytes) ≤ length bytes
few_within zero bytes = omega arith
few_within (suc n) bytes = few_by n bytes (is_whole bytes) refl (few_within n)

few_messages : (bytes : List ℕ) → length (messages bytes) ≤ length bytes
unfolding messages
few_messages bytes = few_within (length bytes) bytes

pub few_events : (id opcode : ℕ) (bytes : List ℕ) → events_in id opcode bytes ≤ length bytes
unfolding events_in
few_events id opcode bytes =
    let some = count_by-le-length (is_event id opcode) (messages bytes) in
    let all = few_messages bytes in
    omega arith

-- what was counted, and what the rest still has
pub record IsCounting (id opcode : ℕ) (bytes : List ℕ) (count : ℕ) (rest : List ℕ) : Type 0 where
  pub sum : count + events_in id opcode rest ≡ events_in id opcode bytes
  pub few : events_in id opcode bytes ≤ length bytes

pub begins : (id opcode : ℕ) (bytes : List ℕ) → IsCounting id opcode bytes 0 bytes
begins id opcode bytes = record { sum = omega arith; few = few_events id opcode bytes }

-- one message more was looked at
pub goes_on : (id opcode : ℕ) (bytes : List ℕ) (count next : ℕ) (rest back : List ℕ) (its_id its_opcode : ℕ)
    (body : List ℕ) (used : ℕ) (b : Bool) → IsCounting id opcode bytes count rest →
    IsFrontMessage its_id its_opcode body rest used → messages rest ≡ take used rest ∷ messages (drop used rest) →
    back ≡ drop used rest → (its_id == id) && (its_opcode == opcode) ≡ b → next ≡ count + cond b 1 0 →
    IsCounting id opcode bytes next back
goes_on id opcode bytes count next rest back its_id its_opcode body used b h f first d e m =
    let is : is_event id opcode (take used rest) ≡ b = rw (sym f.same_id, sym f.same_opcode) e in
    let one : cond {A = ℕ} (is_event id opcode (take used rest)) 1 0 ≡ cond {A = ℕ} b 1 0 =
    ap (λ (t : Bool). cond {A = ℕ} t 1 0) is in
    let left : events_in id opcode (drop used rest) ≡ events_in id opcode back = ap (events_in id opcode) (sym d) in
    let sum = h.sum in
    let counted = next_events id opcode rest (take used rest) (drop used rest) first in
    record { sum = omega arith; few = h.few }

-- where no whole message is at the front, there is none
pub front_none : (bytes : List ℕ) (f : Front) → ((raw : Raw) (used : ℕ) → f ≡ front.Whole raw used → ⊥) →
    HasMessages bytes f → messages bytes ≡ []
front_none bytes (front.Whole raw used) other h = absurd (other raw used refl)
front_none bytes front.Part other h = h.0
front_none bytes front.BadSize other h = h.0

pub ended : (id opcode : ℕ) (bytes : List ℕ) (count : ℕ) (rest : List ℕ) →
    IsCounting id opcode bytes count rest → messages rest ≡ [] → count ≡ events_in id opcode bytes
ended id opcode bytes count rest h none =
    let no = no_events id opcode rest none in
    let sum = h.sum in
    omega arith
