-- The promise, over every list of outer steps.
use Rattle.std.specs.Prelude.{◌≡◌, ℕ, ◌≤◌, length, List, [], ◌∷◌, ◌++◌, ◌==◌, Bool, true, false, if◌then◌else◌, Option, Some, None, ◌⊎◌}
use Rattle.std.specs.List.{Contains, AllByRecursion}
use Rattle.relay_model.specs.declared.act.Act.{Act}
use Rattle.relay_model.specs.declared.act.Act.TheVariants.{Field, VKey, VMods}
use Rattle.relay_model.specs.declared.act.EndCause.TheVariants.{Full}
use Rattle.relay_model.specs.declared.said.Said.{Said}
use Rattle.relay_model.specs.declared.said.Said.TheVariants as said
use Rattle.relay_model.specs.Objects.{next, peer_of}
use Rattle.relay_model.specs.Boards.{sends}
use Rattle.relay_model.specs.Batch.{group_of, relayed}
use Rattle.relay_model.specs.Idle as idle
use Rattle.relay_model.specs.Told.{told}
use Rattle.broker_steps.specs.declared.stamp.Stamp.{Stamp}
use Rattle.broker_model.specs.declared.journal.Entry.{Entry}
use Rattle.broker_model.specs.declared.journal.Entry.TheVariants.{End}
use Rattle.broker_model.specs.Ids.{Made, Joined, log_of, peer_at, made_as}
use Rattle.broker_model.specs.Resolve.{past_of, resolve}
use Rattle.broker_model.specs.Groups.{said_piece}
use Rattle.broker_model.specs.Out.{act_at, act_now, group_at, stored, out_for}
use Rattle.broker_model.specs.Settle.{is_due, history}
use Rattle.wl_proto.specs.declared.interface.Interface.{Interface}
use Rattle.wl_proto.specs.Rows.{request_kinds}
use Rattle.broker_model.specs.Waiting.{has_descriptor, is_board_keymap}
use Rattle.broker_model.specs.Stamps.{latest, given_before, stamps, step_stamps}
use Rattle.broker_model.specs.Queued.{relays, queued}

-- the peer of the field that the act makes
abbrev pub field_peer : Act → Option ℕ
field_peer (Field p) = Some p
field_peer _ = None

-- the peer that made the field f, whether or not the two are alive
abbrev pub maker_of : List Act → ℕ → Option ℕ
maker_of [] f = None
maker_of (act ∷ older) f = (if f == next older then field_peer act else maker_of older f)

-- all whole batches that are relayed to the field f were queued for it, in order and once each
abbrev pub IsQueued : ℕ → List Entry → ℕ → Type 0
IsQueued capacity journal f = queued capacity journal f ≡ relayed (idle.history (resolve journal)) f

-- all but the last were, which didn't fit its peer's store, and that ended the peer
pub record IsLeftOut (capacity : ℕ) (journal : List Entry) (f : ℕ) : Type 0 where
  pub last : List Said
  pub all_but_last : queued capacity journal f ++ last ∷ []
      ≡ relayed (idle.history (resolve journal)) f
  pub number : ℕ
  pub peer : Joined
  pub joined : peer_at (past_of journal) number ≡ Some peer
  pub made : maker_of (idle.history (resolve journal)) f ≡ Some peer.label
  pub ended : Contains journal (End number Full)

-- after any steps, legal or not
abbrev pub RelayLaw : Type 0
RelayLaw = (capacity : ℕ) (steps : List Entry) (f : ℕ) →
    IsQueued capacity (history capacity steps) f ⊎ IsLeftOut capacity (history capacity steps) f

-- no live peer has a refused last message or is choked, for each such was ended
abbrev pub NobodyIsDue : Type 0
NobodyIsDue =
    (capacity : ℕ) (steps : List Entry) (q : ℕ) (peer : Joined) →
    peer_at (past_of (history capacity steps)) q ≡ Some peer →
    is_due capacity (history capacity steps) q peer ≡ false

-- What the entry of a batch tells the peer of the field f: the batch's group alone, under the id
-- under which the peer made the field. So the group is put whole, or none of it is.
pub record IsAlone (e : Entry) (older : List Entry) (f : ℕ) : Type 0 where
  pub peer : ℕ
  pub owner : peer_of (log_of (past_of older)) f ≡ Some peer
  pub field : Made
  pub made : made_as (past_of (e ∷ older)).made f ≡ Some field
  pub own : field.peer ≡ peer
  pub alone : group_at e older peer
      ≡ said_piece (past_of (e ∷ older)).made field.id
      (group_of (act_now e older) (log_of (past_of older)) f)

-- so it is with each entry that relays a batch
abbrev pub WholeGroups : Type 0
WholeGroups = (e : Entry) (older : List Entry) (f : ℕ) → relays e older f ≡ true → IsAlone e older f

-- the event says that a field is entered or left
abbrev pub is_entering : Said → Bool
is_entering (said.Enter surface) = true
is_entering (said.Leave surface) = true
is_entering _ = false

-- An entry that relays no batch to a field tells it that it is entered or left, and nothing else:
-- no done, and nothing that a done would apply.
abbrev pub NothingElse : Type 0
NothingElse =
    (e : Entry) (older : List Entry) (f p : ℕ) →
    maker_of (log_of (past_of (e ∷ older))) f ≡ Some p → relays e older f ≡ false →
    AllByRecursion (λ t. t.to ≡ f → is_entering t.event ≡ true)
    (told (act_at e older) (resolve older))

-- no more bytes are stored than the capacity
abbrev pub StoresHold : Type 0
StoresHold =
    (capacity : ℕ) (journal : List Entry) (p : ℕ) →
    length (stored (out_for capacity journal p)) ≤ capacity

-- at most 256 tokens wait for a peer
abbrev pub FewWait : Type 0
FewWait = (journal : List Entry) (p : ℕ) → length ((past_of journal).waiting p) ≤ 256

-- of all requests the keymap of a board alone has a descriptor, and takes a token
abbrev pub KeymapsTake : Type 0
KeymapsTake =
    (i : Interface) (opcode : ℕ) →
    has_descriptor (request_kinds i opcode) ≡ is_board_keymap i opcode

-- what a board says, it may say: it has had a keymap, and a key's state is 0, released, or 1,
-- pressed
abbrev pub MaySay : List Act → Act → Type 0
MaySay log (VKey v time key state) = (sends log v ≡ true) × (state ≤ 1)
MaySay log (VMods v mods) = sends log v ≡ true
MaySay log _ = Unit {0}

-- so it is with each entry, for what else a board says is refused
abbrev pub BoardsMaySay : Type 0
BoardsMaySay = (e : Entry) (older : List Entry) → MaySay (log_of (past_of older)) (act_at e older)

-- a journal has as many stamps as entries, whatever was given
abbrev pub StampEach : Type 0
StampEach = (journal : List Entry) (given : List Stamp) →
    length (stamps journal given) ≡ length journal

-- no moment is below that of the entry before
abbrev pub MomentsRise : Type 0
MomentsRise =
    (e : Entry) (older : List Entry) (given : List Stamp) →
    latest (stamps older (given_before e given)) ≤ latest (stamps (e ∷ older) given)

-- the stamps that the steps have give all the stamps again, as they do where a recorded session is
-- read
abbrev pub StampsAgain : Type 0
StampsAgain =
    (journal : List Entry) (given : List Stamp) →
    stamps journal (step_stamps journal (stamps journal given)) ≡ stamps journal given
