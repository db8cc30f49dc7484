-- What stands before the first field message says nothing.
use Rattle.std.proofs.Common.{◌≡◌, ℕ, ◌+◌, ◌≤◌, Bool, true, false, List, [], ◌∷◌, ◌++◌, length, take, drop, refl, sym, ap, subst, ◌∙◌, append_assoc, arith, length-append, length-drop}
use Rattle.std.specs.Prelude.{if◌then◌else◌}
use Rattle.std.proofs.lemmas.List.{drop-drop, length-take-le}
use Rattle.std.proofs.Math.Seq.{drop-append-add}
use Rattle.wl_wire.specs.Messages.{id_of, opcode_of, body_of, IsMessage, messages, joined, AreMessages}
use Rattle.wl_wire.specs.Fronts.{IsFrontMessage}
use Rattle.wl_wire.proofs.MessagesHoweverCut.{longest}
use Rattle.wl_wire.proofs.FirstMessages.{part_tells}
use Rattle.audit_fields.specs.Heard.{Heard, is_field_opcode, heard_by}
use Rattle.audit_fields.specs.FromField.{before_field, from_field}
use Rattle.audit_fields.specs.Passing.{IsPassed, Tells}
use Rattle.audit_fields.proofs.MessagesPassed.{done_by, first_of, one_passed, none_passed, both_passed}

pub from_is : (bytes : List ℕ) → from_field bytes ≡ drop (before_field (messages bytes)) bytes
unfolding from_field
from_is bytes = refl

-- ---- by the first message

-- there is none
pub before_none : (bytes : List ℕ) → messages bytes ≡ [] → before_field (messages bytes) ≡ 0
before_none bytes none = ap before_field none

-- it is a field message
pub before_first : (bytes m : List ℕ) (ms : List (List ℕ)) → messages bytes ≡ m ∷ ms →
    is_field_opcode (opcode_of m) ≡ true → before_field (messages bytes) ≡ 0
before_first bytes m ms is field =
    ap before_field is ∙ ap (λ (b : Bool). (if b then 0 else length m + before_field ms)) field

-- or another
pub before_other : (bytes m : List ℕ) (ms : List (List ℕ)) → messages bytes ≡ m ∷ ms →
    is_field_opcode (opcode_of m) ≡ false → before_field (messages bytes) ≡ length m + before_field ms
before_other bytes m ms is other =
    ap before_field is ∙ ap (λ (b : Bool). (if b then 0 else length m + before_field ms)) other

-- all bytes are left
pub from_all : (bytes : List ℕ) → before_field (messages bytes) ≡ 0 → from_field bytes ≡ bytes
from_all bytes none = from_is bytes ∙ ap (λ n. drop n bytes) none

pub from_empty : (bytes : List ℕ) → bytes ≡ [] → from_field bytes ≡ bytes
from_empty bytes none =
    ap from_field none
    ∙ from_all [] (before_none [] (part_tells [] (λ long. absurd (omega (arith, long)))).0)
    ∙ sym none

-- ---- what leaves

-- the bytes begin with the message, and the others are those of the rest
record IsFirstOf (bytes m : List ℕ) (ms : List (List ℕ)) : Type 0 where
  whole : IsMessage m
  rest : List ℕ
  is : bytes ≡ m ++ rest
  later : messages rest ≡ ms

first_is : (bytes m : List ℕ) (ms : List (List ℕ)) → messages bytes ≡ m ∷ ms → IsFirstOf bytes m ms
first_is bytes m ms e =
    let all = longest bytes in
    let each : AreMessages (m ∷ ms) = subst AreMessages e all.each in
    let rest : List ℕ = joined ms ++ all.rest in
    let is : bytes ≡ m ++ rest =
    all.front ∙ ap (λ (l : List (List ℕ)). joined l ++ all.rest) e ∙ append_assoc m (joined ms) all.rest in
    let same : m ∷ ms ≡ m ∷ messages rest = sym e ∙ ap messages is ∙ (first_of m rest each.0).messages-are in
    record { whole = each.0; rest = rest; is = is; later = (let s = same in cc) }

-- what leaves are whole messages that say nothing, and from what is left nothing leaves
pub record IsLed (bytes : List ℕ) : Type 0 where
  pub front : List ℕ
  pub is : bytes ≡ front ++ from_field bytes
  pub long : length front ≡ before_field (messages bytes)
  pub count : ℕ
  pub passed : IsPassed front [] count
  pub settled : from_field (from_field bytes) ≡ from_field bytes

none_led : (bytes : List ℕ) → before_field (messages bytes) ≡ 0 → IsLed bytes
none_led bytes none =
    let all = from_all bytes none in
    record { front = []; is = sym all; long = sym none; count = 0; passed = none_passed; settled = ap from_field all }

more_led : (bytes m : List ℕ) (ms : List (List ℕ)) → messages bytes ≡ m ∷ ms → is_field_opcode (opcode_of m) ≡ false →
    (f : IsFirstOf bytes m ms) → IsLed f.rest → IsLed bytes
more_led bytes m ms e other f r =
    let counted : before_field (messages bytes) ≡ length m + before_field (messages f.rest) =
    before_other bytes m ms e other ∙ ap (λ (l : List (List ℕ)). length m + before_field l) (sym f.later) in
    let same : from_field bytes ≡ from_field f.rest =
    from_is bytes ∙ ap (λ n. drop n bytes) counted
    ∙ ap (drop (length m + before_field (messages f.rest))) f.is
    ∙ drop-append-add m f.rest (before_field (messages f.rest)) ∙ sym (from_is f.rest) in
    let nothing : heard_by (id_of m) (opcode_of m) (body_of m) ≡ [] = rw other refl in
    let both =
    both_passed m r.front (heard_by (id_of m) (opcode_of m) (body_of m)) [] (done_by (opcode_of m)) r.count
    (one_passed m f.whole) r.passed in
    record {
      front = m ++ r.front;
      is =
          f.is ∙ ap (λ (l : List ℕ). m ++ l) r.is ∙ sym (append_assoc m r.front (from_field f.rest))
          ∙ ap (λ (l : List ℕ). (m ++ r.front) ++ l) (sym same);
      long = length-append m r.front ∙ ap (λ n. length m + n) r.long ∙ sym counted;
      count = done_by (opcode_of m) + r.count;
      passed =
          subst (λ (l : List Heard). IsPassed (m ++ r.front) l (done_by (opcode_of m) + r.count))
          (ap (λ (l : List Heard). l ++ []) nothing) both;
      settled = ap from_field same ∙ r.settled ∙ sym same;
    }

led_by : (ms : List (List ℕ)) (bytes : List ℕ) → messages bytes ≡ ms → IsLed bytes
led_by [] bytes e = none_led bytes (before_none bytes e)
led_by (m ∷ ms) bytes e =
    let f = first_is bytes m ms e in
    by (is_field_opcode (opcode_of m)) refl f (led_by ms f.rest f.later)
  where
    by : (b : Bool) → is_field_opcode (opcode_of m) ≡ b → (f : IsFirstOf bytes m ms) → IsLed f.rest → IsLed bytes
    by true field f r = none_led bytes (before_first bytes m ms e field)
    by false other f r = more_led bytes m ms e other f r

pub led : (bytes : List ℕ) → IsLed bytes
led bytes = led_by (messages bytes) bytes refl

pub settled_by : (bytes left : List ℕ) → left ≡ from_field bytes → from_field left ≡ left
settled_by bytes left is = ap from_field is ∙ (led bytes).settled ∙ sym is

-- ---- as it is counted

-- so many of the bytes are messages before the first field message
pub record IsBefore (told : List ℕ) (at : ℕ) : Type 0 where
  pub within : at ≤ length told
  pub more : before_field (messages told) ≡ at + before_field (messages (drop at told))

pub before_next : (told rest body : List ℕ) (at id opcode size : ℕ) → IsBefore told at → rest ≡ drop at told →
    IsFrontMessage id opcode body rest size → messages rest ≡ take size rest ∷ messages (drop size rest) →
    is_field_opcode opcode ≡ false → IsBefore told (at + size)
before_next told rest body at id opcode size b there f is other =
    let behind : drop size rest ≡ drop (at + size) told = ap (drop size) there ∙ drop-drop size at told in
    let own : is_field_opcode (opcode_of (take size rest)) ≡ false = ap is_field_opcode (sym f.same_opcode) ∙ other in
    let counted = before_other rest (take size rest) (messages (drop size rest)) is own in
    let long = length-take-le size rest f.within in
    let later : before_field (messages (drop size rest)) ≡ before_field (messages (drop (at + size) told)) =
    ap (λ (l : List ℕ). before_field (messages l)) behind in
    let here : before_field (messages rest) ≡ before_field (messages (drop at told)) =
    ap (λ (l : List ℕ). before_field (messages l)) there in
    let first = b.more in
    let start = b.within in
    let size-within = f.within in
    record {
      within = omega (arith, ap (λ (l : List ℕ). length l) there, length-drop at told);
      more = omega arith;
    }

-- and no more
pub before_all : (told rest : List ℕ) (at : ℕ) → IsBefore told at → rest ≡ drop at told →
    before_field (messages rest) ≡ 0 → at ≡ before_field (messages told)
before_all told rest at b there none =
    let first = b.more in
    let last : before_field (messages (drop at told)) ≡ 0 =
    ap (λ (l : List ℕ). before_field (messages l)) (sym there) ∙ none in
    omega arith

-- at a field message
pub before_field_message : (told rest body : List ℕ) (at id opcode size : ℕ) → IsBefore told at → rest ≡ drop at told →
    IsFrontMessage id opcode body rest size → messages rest ≡ take size rest ∷ messages (drop size rest) →
    is_field_opcode opcode ≡ true → at ≡ before_field (messages told)
before_field_message told rest body at id opcode size b there f is field =
    before_all told rest at b there
    (before_first rest (take size rest) (messages (drop size rest)) is
    (ap is_field_opcode (sym f.same_opcode) ∙ field))

-- ---- the first field message

-- what stands before it says nothing
pub before_tells : (told : List ℕ) (at : ℕ) → at ≡ before_field (messages told) → Tells told at []
before_tells told at is =
    let l = led told in
    let long : length l.front ≡ at = l.long ∙ sym is in
    let left : from_field told ≡ drop at told = from_is told ∙ ap (λ n. drop n told) (sym is) in
    let whole : length told ≡ length l.front + length (from_field told) =
    ap (λ (x : List ℕ). length x) l.is ∙ length-append l.front (from_field told) in
    record {
      count = l.count;
      past = record {
        within = omega arith;
        front = l.front;
        is = l.is ∙ ap (λ (x : List ℕ). l.front ++ x) left;
        passed = l.passed;
      };
    }

-- the whole message behind that is one
pub first_is_field : (told rest body : List ℕ) (at id opcode size : ℕ) → at ≡ before_field (messages told) →
    rest ≡ drop at told → IsFrontMessage id opcode body rest size →
    messages rest ≡ take size rest ∷ messages (drop size rest) → is_field_opcode opcode ≡ true
first_is_field told rest body at id opcode size is there f next = by (is_field_opcode opcode) refl
  where
    left : from_field told ≡ rest
    left = from_is told ∙ ap (λ n. drop n told) (sym is) ∙ sym there

    settled : from_field rest ≡ rest
    settled = ap from_field (sym left) ∙ (led told).settled ∙ left

    by : (b : Bool) → is_field_opcode opcode ≡ b → is_field_opcode opcode ≡ true
    by true e = e
    by false e =
        let own : is_field_opcode (opcode_of (take size rest)) ≡ false = ap is_field_opcode (sym f.same_opcode) ∙ e in
        let counted = before_other rest (take size rest) (messages (drop size rest)) next own in
        let long = length-take-le size rest f.within in
        let some = f.good.0 in
        let within = f.within in
        let l = led rest in
        let front-long = l.long in
        let same : length rest ≡ length l.front + length rest =
        ap (λ (x : List ℕ). length x) l.is ∙ length-append l.front (from_field rest)
        ∙ ap (λ (x : List ℕ). length l.front + length x) settled in
        absurd (omega arith)
