-- What a step makes of live peers before its act is told.
use Rattle.std.specs.Prelude.{◌≡◌, ℕ, List, [], ◌∷◌, ◌++◌, Bool, false, Option, Some, None, if◌then◌else◌, IfSome, set}
use Rattle.std.specs.List.{slice_get}
use Rattle.im_objects.specs.Calls.{Call}
use Rattle.im_objects.specs.Calls.Call.{Make, Drop}
use Rattle.im_objects.specs.Objects as table
use Rattle.out_store.specs.Queue.{queue}
use Rattle.wl_proto.specs.declared.interface.Interface.TheVariants as interface
use Rattle.relay_model.specs.declared.act.Act.{Act}
use Rattle.relay_model.specs.declared.act.Act.TheVariants as acts
use Rattle.relay_model.specs.declared.act.EndCause.{EndCause}
use Rattle.relay_model.specs.declared.act.EndCause.TheVariants.{Bad, Full}
use Rattle.relay_model.specs.declared.role.Role.{Role}
use Rattle.broker_model.specs.Requests.{Argument}
use Rattle.broker_model.specs.Settle.{is_bad}
use Rattle.broker_model.specs.Waiting.{without_taken}
use Rattle.broker_audience.specs.declared.live.Live.{Live}
use Rattle.broker_audience.specs.Gathered.{empty}
use Rattle.broker_audience.specs.Lives.{who}

-- The calls on its sender's table that a message to the object with the id comes to: the drop of
-- that object, or what it makes with the label n. The callback of a sync is never alive.
abbrev pub own_calls : (id n : ℕ) → Act → Option Argument → List Call
own_calls id n (acts.Drop x) new = Drop id ∷ []
own_calls id n (acts.Sync p) new = []
own_calls id n _ None = []
own_calls id n _ (Some new) = Make new.id new.interface n ∷ []

-- what is asked for is made with the label n, if anything is
abbrev pub make_calls : (n : ℕ) → Option Argument → List Call
make_calls n None = []
make_calls n (Some new) = Make new.id new.interface n ∷ []

-- its objects are as after that message, whether the message was refused is kept, and the token
-- that it took is gone
pub record IsChanged (id n : ℕ) (takes : Bool) (act : Act) (new : Option Argument)
    (before after : Live) : Type 0 where
  pub same : after
      ≡ record before {
        table = after.table;
        is_refused = is_bad act;
        waiting = without_taken takes before.waiting;
      }
  pub table : (calls : List Call) → table.Stands calls before.table →
      table.Stands (own_calls id n act new ++ calls) after.table

-- so it is with the peer at the place, and all others are as before
pub record IsChangedAt (place id n : ℕ) (takes : Bool) (act : Act) (new : Option Argument)
    (old now : List Live) : Type 0 where
  -- that peer
  pub after : Live
  pub others : now ≡ set old place after
  pub changed : IfSome (slice_get old place) (λ before. IsChanged id n takes act new before after)

-- a peer that joins: its display alone, and nothing stored
pub record IsNewcomer (capacity number label : ℕ) (role : Role) (l : Live) : Type 0 where
  pub is : who l ≡ record { number = number; peer = record { label = label; role = role } }
  pub table : table.Stands (Make 1 interface.Display label ∷ []) l.table
  pub store : l.store ≡ queue [] capacity
  pub gathering : l.gathering ≡ empty capacity
  pub choked : l.is_choked ≡ false
  pub refused : l.is_refused ≡ false
  pub waiting : l.waiting ≡ []

-- the first that has to be ended, with the cause
abbrev pub first_due : List Live → Option (ℕ × EndCause)
first_due [] = None
first_due (l ∷ rest) =
    (if l.is_refused then Some (l.number, Bad)
    else (if l.is_choked then Some (l.number, Full) else first_due rest))
