-- The answers to a shell's orders
use Rattle.std.specs.Prelude.{ℕ, ◌+◌, ◌==◌, if◌then◌else◌, List, [], ◌∷◌, ◌++◌, length, codes, Option, Some, None}
use Rattle.std.specs.Fmt.{decimal}
use Rattle.relay_model.specs.Route.{Route}
use Rattle.relay_model.specs.Route.TheVariants as routes
use Rattle.broker_steps.specs.declared.limits.Limits.{Limits}
use Rattle.hub_lock.specs.Stands.{route_told}
use Rattle.broker_model.specs.declared.journal.Entry.{Entry}
use Rattle.broker_model.specs.Out.{act_at}
use Rattle.broker_model.specs.Resolve.{resolve}
use Rattle.hub_lock.specs.Histories.{History}
use Rattle.hub_lock.specs.Passes.{PassSeat}
use Rattle.peer_link.specs.Made.{journal_of}

-- where a key went
abbrev pub route_word : Route → List ℕ
route_word (routes.ToGrab label) = codes "grab"
route_word routes.Pass = codes "pass"
route_word routes.Nowhere = codes "nowhere"
route_word routes.TooMany = codes "many"

-- what stands behind the number of an answer: of a key where it went, and a line feed
abbrev pub answer_end : Option Route → List ℕ
answer_end None = 10 ∷ []
answer_end (Some route) = 32 ∷ (route_word route ++ 10 ∷ [])

-- the answer: the number of the order's entry, and of a key where it went
abbrev pub answer : ℕ → Option Route → List ℕ
answer entry route = decimal entry ++ answer_end route

-- the answer to the step that follows a history
abbrev pub answer_after : Limits → History → Entry → List ℕ
answer_after limits before e =
    let journal = journal_of limits before in
    answer (length journal + 1) (route_told (act_at e journal) (resolve journal))

-- the answers to those of the later steps that have this number, in order
abbrev pub answers_from : Limits → ℕ → (before later : History) → List (List ℕ)
answers_from limits n before [] = []
answers_from limits n before (s ∷ later) =
    (if s.0 == n then answer_after limits before s.1.entry ∷ [] else [])
    ++ answers_from limits n (before ++ s ∷ []) later

-- the answers to all steps of the pass, each by the journal at its turn
abbrev pub answers_to : Limits → PassSeat → List (List ℕ)
answers_to limits s = answers_from limits s.number [] s.seen
