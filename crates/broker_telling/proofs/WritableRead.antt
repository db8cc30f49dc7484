-- A message that can be written is read as itself.
use Rattle.std.proofs.Common.{◌≡◌, ℕ, List, Option, Ok, sym, ap, ◌∙◌, arith}
use Rattle.wl_wire.specs.Messages.{opcode_of, body_of}
use Rattle.wl_proto.specs.declared.interface.Interface.{Interface}
use Rattle.wl_proto.specs.declared.table.Kind.{Kind}
use Rattle.wl_proto.specs.Grammar.{Value}
use Rattle.wl_proto.specs.Rows.{Message, event_kinds}
use Rattle.wl_proto.specs.Reading.{all_read, by_row, event_reading}
use Rattle.wl_proto.specs.Spelling.{spelling, message_bytes}
use Rattle.wl_proto.specs.Spelled.{AreTokens}
use Rattle.wl_proto.proofs.ValuesReadBack.{values_complete, spelled_once}
use Rattle.wl_proto.proofs.WrittenIsWhole.{written_whole}
use Rattle.broker_telling.specs.ToldRead.{IsWritable, WritableIsRead}

-- a message by its parts
read_parts : (i : Interface) (m : Message) (tokens body : List ℕ) (n : ℕ) → m.interface ≡ i → n ≡ m.opcode →
    body ≡ spelling m.values → IsWritable m →
    AreTokens tokens m.values → event_reading i n tokens body ≡ Ok m
unfolding event_reading
read_parts i m tokens body n e o b w t =
    ap (λ (k : Interface). by_row k n tokens body (event_kinds k n)) (sym e)
    ∙ ap (λ (k : ℕ). by_row m.interface k tokens body (event_kinds m.interface k)) o
    ∙ ap (λ (l : List ℕ). by_row m.interface m.opcode tokens l (event_kinds m.interface m.opcode)) b
    ∙ ap (λ (k : Option (List Kind)). by_row m.interface m.opcode tokens (spelling m.values) k) w.is
    ∙ ap (λ (vs : Option (List Value)). all_read m.interface m.opcode vs)
    (values_complete tokens w.row m.values (spelling m.values)
    (spelled_once w.row m.values w.kinds (let s = w.size in omega arith)) t)

pub writable_read : WritableIsRead
writable_read object m small w e =
    let whole = written_whole object.id m small w.opcode w.size in
    record {
      whole = whole.0;
      to = whole.1;
      opcode = whole.2;
      interface = e;
      reads = λ tokens t.
          read_parts object.interface m tokens (body_of (message_bytes object.id m))
          (opcode_of (message_bytes object.id m)) e whole.2 whole.3 w t;
    }
