-- What a body spells to a text input, it reads as.
use Rattle.std.proofs.Common.{◌≡◌, ℕ, List, [], Result, Ok, Err, sym, ap, ◌∙◌}
use Rattle.wl_wire.specs.Texts.{IsBytes}
use Rattle.wl_proto.specs.declared.interface.Interface.{Interface}
use Rattle.wl_proto.specs.declared.interface.Interface.TheVariants.{TextInput}
use Rattle.wl_proto.specs.declared.refuse.Refuse.{Refuse}
use Rattle.wl_proto.specs.declared.refuse.Refuse.TheVariants as refuse
use Rattle.wl_proto.specs.declared.event.Event.{Event}
use Rattle.wl_proto.specs.Rows.{Message, message, event_kinds, event_message}
use Rattle.wl_proto.specs.Reading.{by_row, all_read, event_reading}
use Rattle.wl_proto.specs.Spelled.{IsRead, Answers}
use Rattle.wl_proto.proofs.ValuesReadBack.{values_complete}
use Rattle.wl_proto.proofs.MessagesReadBack.{answers}

pub reading_is : (n : ℕ) (body : List ℕ) (m : Message) → IsRead (event_kinds TextInput n) TextInput n [] body m →
    event_reading TextInput n [] body ≡ Ok m
unfolding event_reading
reading_is n body m r =
    let same : message TextInput n m.values ≡ m =
    ap (λ (j : Interface). message j n m.values) (sym r.interface-is)
    ∙ ap (λ k. message m.interface k m.values) (sym r.opcode-is) in
    ap (by_row TextInput n [] body) r.row-is
    ∙ ap (all_read TextInput n) (values_complete [] r.row m.values body r.spelled r.tokens-are)
    ∙ ap (λ (x : Message). let o : Result Message Refuse = Ok x in o) same

pub read_is : (n : ℕ) (body : List ℕ) (m : Message) → IsBytes body → event_reading TextInput n [] body ≡ Ok m →
    IsRead (event_kinds TextInput n) TextInput n [] body m
unfolding event_reading
read_is n body m fits e = answers (λ (x : Message). x) (event_kinds TextInput n) TextInput n [] body (Ok m) fits e

-- where it is refused, it reads as nothing
pub none_read : (n : ℕ) (body : List ℕ) (why : Refuse) (m : Message) → IsBytes body →
    Answers {X = Event} event_message (event_kinds TextInput n) TextInput n [] body (Err why) →
    event_reading TextInput n [] body ≡ Ok m → ⊥
none_read n body refuse.Opcode m fits none e =
    let r = read_is n body m fits e in
    absurd (let row = r.row-is in cc)
none_read n body refuse.Malformed m fits none e =
    let r = read_is n body m fits e in
    let same : none.row ≡ r.row = (let a = none.row-is in let b = r.row-is in cc) in
    absurd (none.none m.values (rw same r.spelled) r.tokens-are)
