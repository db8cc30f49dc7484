-- Numbers of C in place of what the safe calls take and answer.
use Rattle.std.specs.Prelude.{ℕ, ℤ, pos, negsuc, ◌==◌, ◌^◌, ◌-◌, min, if◌then◌else◌, Option, Some, None, Result, Ok, Err}
use Rattle.relay_model.specs.Route.{Route}
use Rattle.relay_model.specs.Route.TheVariants as routes
use Rattle.relay_model.specs.declared.act.EndCause.TheVariants as causes
use Rattle.relay_model.specs.declared.role.Role.{Role}
use Rattle.relay_model.specs.declared.role.Role.TheVariants as roles
use Rattle.broker_steps.specs.declared.stamp.Stamp.{Stamp}
use Rattle.broker_core.specs.declared.answers.JoinRefusal.{JoinRefusal}
use Rattle.broker_core.specs.declared.answers.JoinRefusal.TheVariants as join
use Rattle.broker_core.specs.declared.answers.Refused.{Refused}
use Rattle.broker_core.specs.declared.answers.Refused.TheVariants as refused
use Rattle.broker_core.specs.declared.answers.Took.{Took}
use Rattle.broker_core.specs.declared.answers.Took.TheVariants as took
use Rattle.broker_core.specs.declared.taking.Standing.{Standing}
use Rattle.broker_core.specs.declared.taking.Standing.TheVariants as stands

-- the role with the number
abbrev pub role_of : ℕ → Option Role
role_of n =
    (if n == 1 then Some roles.App
    else (if n == 2 then Some roles.Method else (if n == 3 then Some roles.Keyed else None)))

-- the stamp of a call of C, which has no author
abbrev pub stamp_at : ℕ → Stamp
stamp_at moment = record { moment = moment; author = 0 }

-- the number of the peer that joined, or why none did
abbrev pub join_code : Result ℕ JoinRefusal → ℤ
join_code (Ok number) = pos number
join_code (Err (join.TooManyPeers most)) = negsuc 6
join_code (Err (join.JournalFull kept)) = negsuc 1
join_code (Err join.NoMemory) = negsuc 0

-- why a step wasn't taken
abbrev pub refusal_code : Refused → ℤ
refusal_code refused.NoPeer = negsuc 8
refusal_code (refused.Ended cause) = negsuc 9
refusal_code (refused.JournalFull kept) = negsuc 1
refusal_code refused.NoMemory = negsuc 0

-- it was done, or why not
abbrev pub done_code : Result (Unit {0}) Refused → ℤ
done_code (Ok done) = pos 1
done_code (Err why) = refusal_code why

-- where a key went
abbrev pub route_code : Route → ℤ
route_code (routes.ToGrab label) = pos 2
route_code routes.Pass = pos 3
route_code routes.Nowhere = pos 4
route_code routes.TooMany = pos 5

-- an order was taken, of a key where it went, or why not
abbrev pub order_code : Result (Option Route) Refused → ℤ
order_code (Ok None) = pos 1
order_code (Ok (Some route)) = route_code route
order_code (Err why) = refusal_code why

-- bytes were taken, or why none were
abbrev pub took_code : Took → ℤ
took_code (took.Bytes bytes tokens) = pos 1
took_code took.NoPeer = negsuc 8
took_code took.Closed = negsuc 9
took_code took.Empty = pos 0
took_code (took.JournalFull kept) = negsuc 1
took_code took.NoMemory = negsuc 0

-- how a peer stands
abbrev pub standing_code : Standing → ℤ
standing_code stands.Nobody = negsuc 8
standing_code stands.Alive = pos 1
standing_code (stands.Over causes.Gone) = pos 2
standing_code (stands.Over causes.Bad) = pos 3
standing_code (stands.Over causes.Full) = pos 4

-- how many bytes are stored, of which 4,294,967,295 are said at most, or that there is no peer
abbrev pub stored_code : Option ℕ → ℤ
stored_code None = negsuc 8
stored_code (Some count) = pos (min count (2 ^ 32 - 1))
