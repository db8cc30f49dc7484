-- The law of the bells: who waits to take is rung for as soon as a take finds something
use Rattle.std.specs.Prelude.{◌≡◌, ℕ, Some}
use Rattle.std.specs.Int.{bit_at}
use Rattle.broker_steps.specs.declared.limits.Limits.{Limits}
use Rattle.broker_core.specs.declared.answers.Took.TheVariants as took
use Rattle.broker_core.specs.Broker.{take_refusal}
use Rattle.turn_lock.specs.Pairs.{IsGrown}
use Rattle.hub_lock.specs.declared.call.Call.{Call}
use Rattle.hub_lock.specs.declared.call.Reply.{Reply}
use Rattle.hub_lock.specs.Histories.{History, broker_of}
use Rattle.hub_lock.specs.Bells.{bell}
use Rattle.hub_lock.specs.Plays.{Plays}

-- where the answer to a take for the peer q turns from `Empty` into another, the call by which it
-- does rings the bell of that peer
abbrev pub TakersAreRung : Type 0
TakersAreRung =
    (limits : Limits) (before : History) (call : Call) (after : History) (call' : Call)
    (reply : Reply)
    (q : ℕ) →
    Plays limits before call after call' reply → IsGrown call.number before after →
    take_refusal (broker_of limits before) q ≡ Some took.Empty →
    (take_refusal (broker_of limits after) q ≡ Some took.Empty → ⊥) →
    bit_at reply.rings (bell q) ≡ 1
