-- What an application is owed are whole groups, and those of one field are what was queued for it.
use Rattle.std.specs.Prelude.{◌≡◌, ℕ, ◌^◌, ◌<◌, List, length, Some}
use Rattle.std.specs.List.{AllByRecursion}
use Rattle.relay_model.specs.declared.role.Role.TheVariants.{App}
use Rattle.broker_model.specs.declared.journal.Entry.{Entry}
use Rattle.broker_model.specs.Ids.{Made, Joined, made_as, peer_at}
use Rattle.broker_model.specs.Out.{out_for}
use Rattle.broker_model.specs.Queued.{queued}
use Rattle.broker_model.specs.Resolve.{past_of}
use Rattle.audit_fields.specs.Heard.{heard}
use Rattle.broker_telling.specs.Sayable.{AreHeld}
use Rattle.law_audit.specs.FieldGroups.{groups_put, of_field, groups_heard, IsWhole}

-- The whole field messages that an application is owed are the groups that were put for its fields,
-- one behind the other, and nothing else.
abbrev pub OwedAreGroups : Type 0
OwedAreGroups =
    (capacity : ℕ) (journal : List Entry) (q : ℕ) (peer : Joined) → AreHeld journal →
    length journal < 2 ^ 32 → peer_at (past_of journal) q ≡ Some peer → peer.role ≡ App →
    heard (out_for capacity journal peer.label).put.bytes
    ≡ groups_heard (groups_put capacity journal peer.label)

-- each of them is whole, its one done at its end
abbrev pub GroupsAreWhole : Type 0
GroupsAreWhole =
    (capacity : ℕ) (journal : List Entry) (p : ℕ) →
    AllByRecursion IsWhole (groups_put capacity journal p)

-- the field f, if it was made, is one of the peer with the label p
abbrev pub IsFieldOf : List Entry → (p f : ℕ) → Type 0
IsFieldOf journal p f = (m : Made) → made_as (past_of journal).made f ≡ Some m → m.peer ≡ p

-- those of one field are what was queued for it, in order and once each
abbrev pub GroupsAreQueued : Type 0
GroupsAreQueued =
    (capacity : ℕ) (journal : List Entry) (p f : ℕ) → IsFieldOf journal p f →
    of_field f (groups_put capacity journal p) ≡ queued capacity journal f
