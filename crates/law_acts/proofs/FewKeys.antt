-- At most 64 keys are down on a board, as on the keyboard that its calls make.
use Rattle.std.proofs.Common.{◌≡◌, ℕ, ◌+◌, ◌<◌, ◌≤◌, List, [], ◌∷◌, Bool, true, false, refl, inl, inr, arith}
use Rattle.std.specs.Prelude.{nat_lt}
use Rattle.std.proofs.lemmas.Bool.{ltb-true}
use Rattle.relay_core.specs.Keys.{Call, is_down, number_down}
use Rattle.relay_core.specs.Keys.Call.{Key}
use Rattle.relay_core.proofs.KeysByCalls.{number_kept, number_released, number_taken, number_up}
use Rattle.relay_model.specs.Boards.{board_number}
use Rattle.relay_model.specs.Idle.{history}
use Rattle.relay_model.proofs.ActsOrIdle.{history_is}
use Rattle.relay_core.specs.BoardsStand.{calls_on}
use Rattle.relay_core.proofs.BoardCalls.{number_on}
use Rattle.broker_model.specs.Resolve.{resolve}
use Rattle.law_acts.specs.FewKeys.{BoardsHaveFewKeys, JournalsHaveFewKeys}

-- after one more press
pressed : (older : List Call) (key : ℕ) (down room : Bool) → is_down older key ≡ down →
    nat_lt (number_down older) 64 ≡ room → number_down older ≤ 64 → number_down (Key key true ∷ older) ≤ 64
pressed older key true room d r few =
    let same : number_down (Key key true ∷ older) ≡ number_down older = number_kept older key (inl d) in omega arith
pressed older key false true d r few =
    let more : number_down (Key key true ∷ older) ≡ number_down older + 1 = number_taken older key d r in
    let below : number_down older < 64 = ltb-true (number_down older) 64 r in
    omega arith
pressed older key false false d r few =
    let same : number_down (Key key true ∷ older) ≡ number_down older = number_kept older key (inr r) in omega arith

-- after one more release
released : (older : List Call) (key : ℕ) (down : Bool) → is_down older key ≡ down → number_down older ≤ 64 →
    number_down (Key key false ∷ older) ≤ 64
released older key true d few =
    let fewer : number_down older ≡ number_down (Key key false ∷ older) + 1 = number_released older key d in omega arith
released older key false d few =
    let same : number_down (Key key false ∷ older) ≡ number_down older = number_up older key d in omega arith

few_down : (calls : List Call) → number_down calls ≤ 64
few_down [] = omega arith
few_down (Key key true ∷ older) =
    pressed older key (is_down older key) (nat_lt (number_down older) 64) refl refl (few_down older)
few_down (Key key false ∷ older) = released older key (is_down older key) refl (few_down older)
few_down (_ ∷ older) = few_down older

pub boards_have_few_keys : BoardsHaveFewKeys
boards_have_few_keys acts v =
    let same : number_down (calls_on (history acts) v) ≡ board_number (history acts) v =
    number_on (history acts) (history_is acts) v in
    let few : number_down (calls_on (history acts) v) ≤ 64 = few_down (calls_on (history acts) v) in
    omega arith

pub journals_have_few_keys : JournalsHaveFewKeys
journals_have_few_keys journal v = boards_have_few_keys (resolve journal) v
