use Rattle.std.proofs.Common.{arith}
use Rattle.wl_proto.proofs.ValuesReadBack.{one_list, spelled_once}
use Rattle.wl_proto.proofs.laws.row_laws.Goals as goal

pub returns : goal.returns
returns c = record {
  one_request = λ i n row vs ws body is a b. one_list row vs ws body a b;
  one_event = λ i n row vs ws body is a b. one_list row vs ws body a b;
  request_again = λ i n row vs is h le. spelled_once row vs h (omega arith);
  event_again = λ i n row vs is h le. spelled_once row vs h (omega arith);
}
