-- The rounds after an action: each client that isn't paused takes what is stored for it, and sends
-- what it is asked for, until nothing is stored for such a client.
use Rattle.std.specs.Prelude.{ℕ, zero, suc, ◌+◌, length, Bool, true, not, ◌&&◌, if◌then◌else◌}
use Rattle.wl_wire.specs.Messages.{messages}
use Rattle.broker_model.specs.declared.journal.Entry.TheVariants as entries
use Rattle.broker_core.specs.Broker.{Broker}
use Rattle.trial_run.specs.declared.whose.Whose.{Whose}
use Rattle.trial_run.specs.declared.whose.Whose.TheVariants as whose
use Rattle.trial_run.specs.Ran.{Ran, went, ◌>>=◌}
use Rattle.trial_run.specs.Steps.{stepped, messages_sent, has_stored, next_bytes}
use Rattle.trial_run.specs.Play.{TrialPlay, number_of, to_send, is_paused, hears, sent}

-- the trial with another shared state
abbrev pub with_broker : TrialPlay → Ran Broker → Ran TrialPlay
with_broker t r = record { now = record t { broker = r.now }; is_full = r.is_full }

-- what waits to be sent by the client goes out, one message a step
unfoldable pub sends_waiting : Whose → TrialPlay → Ran TrialPlay
sends_waiting who t =
    with_broker t (messages_sent (number_of who) (messages (to_send who t)) t.broker)

-- and then nothing waits
unfoldable pub sends : Whose → TrialPlay → Ran TrialPlay
sends who t = sends_waiting who t >>= (λ now. went (sent who now))

-- the next bytes that are stored for the client are taken
unfoldable pub took : Whose → TrialPlay → Ran TrialPlay
took who t =
    let q = number_of who in
    with_broker t (stepped (entries.Took q (length (next_bytes q t.broker))) t.broker)

-- it takes them, and then sends what they ask for
unfoldable pub one_take : Whose → TrialPlay → Ran TrialPlay
one_take who t =
    took who t >>= (λ now. sends who (hears who (next_bytes (number_of who) t.broker) now))

-- takes until nothing is stored for it
unfoldable pub takes : ℕ → Whose → TrialPlay → Ran TrialPlay
takes zero who t = went t
takes (suc n) who t =
    if has_stored (number_of who) t.broker then one_take who t >>= takes n who else went t

-- one client's part of a round
unfoldable pub turn : Whose → TrialPlay → Ran TrialPlay
turn who t = if is_paused who t then went t else takes t.most who t

-- the parts of n fields, from the one with the index k on
unfoldable pub field_turns : (n k : ℕ) → TrialPlay → Ran TrialPlay
field_turns zero k t = went t
field_turns (suc n) k t = turn (whose.Field k) t >>= field_turns n (k + 1)

-- the method first, then the fields in order
unfoldable pub round : TrialPlay → Ran TrialPlay
round t = turn whose.Method t >>= field_turns (length t.fields) 0

-- something is stored for a client that isn't paused
unfoldable pub is_due : Whose → TrialPlay → Bool
is_due who t = not (is_paused who t) && has_stored (number_of who) t.broker

unfoldable pub fields_quiet : (n k : ℕ) → TrialPlay → Bool
fields_quiet zero k t = true
fields_quiet (suc n) k t = not (is_due (whose.Field k) t) && fields_quiet n (k + 1) t

-- nothing is
unfoldable pub is_quiet : TrialPlay → Bool
is_quiet t = not (is_due whose.Method t) && fields_quiet (length t.fields) 0 t

-- rounds until nothing is
unfoldable pub rounds : ℕ → TrialPlay → Ran TrialPlay
rounds zero t = went t
rounds (suc n) t = if is_quiet t then went t else round t >>= rounds n
