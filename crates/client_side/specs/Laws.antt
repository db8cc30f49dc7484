-- What a client's log goes on to, whatever list of events comes.
use Rattle.std.specs.Prelude.{◌≡◌, ℕ, List, [], ◌++◌, map, reverse}
use Rattle.wl_proto.specs.declared.event.Event.{Event}
use Rattle.compose_method.specs.Typists.{Meanings}
use Rattle.client_side.specs.Client.{after_all}
use Rattle.client_side.specs.Happenings.{Happening}
use Rattle.client_side.specs.FieldState as field
use Rattle.client_side.specs.MethodLog as typist
use Rattle.client_side.specs.MethodState as method
use Rattle.client_side.specs.Heard.{telling, happened, came}

-- a field's client that a log made is, after any events, as the log makes it that goes on by them
abbrev pub FieldLogGoesOn : Type 0
FieldLogGoesOn =
    (old : field.State) (events : List Event) (log : List Happening) (sent : List ℕ) →
    field.HasLog log sent old →
    field.HasLog (field.log_after events old log) sent (after_all field.after_event events old)

-- and as the log makes it that goes on by what a hearer of these events is told, in order
abbrev pub FieldLogIsHeard : Type 0
FieldLogIsHeard =
    (old new : field.State) (events : List Event) (told log : List Happening) (sent : List ℕ) →
    (new, told) ≡ after_all (telling field.after_event happened) events (old, []) →
    field.HasLog log sent old → field.HasLog (reverse told ++ log) sent new

-- the same of the method's client, whatever its typist's first state was
abbrev pub MethodLogGoesOn : {S : Type 0} → Meanings S → Type 0
MethodLogGoesOn {S} means =
    (first : S) (old : method.State S) (events : List Event) (log : List typist.Happening)
    (sent : List ℕ) →
    method.HasLog means first log sent old →
    method.HasLog means first (method.log_after events log) sent
    (after_all (method.after_event means) events old)

-- and it goes on by what a hearer is told, in order
abbrev pub MethodLogIsHeard : {S : Type 0} → Meanings S → Type 0
MethodLogIsHeard {S} means =
    (first : S) (old new : method.State S) (events told : List Event) (log : List typist.Happening)
    (sent : List ℕ) →
    (new, told) ≡ after_all (telling (method.after_event means) came) events (old, []) →
    method.HasLog means first log sent old →
    method.HasLog means first (reverse (map typist.came told) ++ log) sent new
