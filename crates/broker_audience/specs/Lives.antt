-- What telling makes of a live peer, and whose it is.
use Rattle.std.specs.Prelude.{ℕ, ◌+◌, ◌<◌, List, [], ◌∷◌, ◌++◌, length, Option, Some, None, map, Bool, true, not, ◌&&◌, ◌==◌, nat_le, if◌then◌else◌}
use Rattle.out_store.specs.Queue.{queue, cells_of}
use Rattle.wl_proto.specs.Rows.{Message}
use Rattle.relay_model.specs.declared.said.Told.{Told}
use Rattle.broker_model.specs.Ids.{Made, Joined}
use Rattle.broker_model.specs.Groups.{pair_of}
use Rattle.broker_audience.specs.declared.directory.Named.{Named}
use Rattle.broker_audience.specs.declared.live.Live.{Live}
use Rattle.broker_audience.specs.Gathered.{empty, with_message}
use Rattle.broker_audience.specs.Heard.{hears, heard}

-- a peer that joined, with its number
pub record Numbered : Type 0 where
  pub number : ℕ
  pub peer : Joined

-- whose state it is
abbrev pub who : Live → Numbered
who l = record { number = l.number; peer = record { label = l.label; role = l.role } }

-- nothing is gathered for it
abbrev pub cleared : Live → Live
cleared l = record l { gathering = empty l.gathering.capacity }

-- after one thing told
abbrev pub listens : List Made → Told → Live → Live
listens made t l = record l { gathering = hears made l.label t l.gathering }

-- after all that is told, in order
abbrev pub has_heard : List Made → List Told → Live → Live
has_heard made told l = record l { gathering = heard made l.label told l.gathering }

-- what is gathered is a whole group, and there is room for it
abbrev pub has_room : Live → Bool
has_room l =
    not l.gathering.is_over
    && nat_le (length l.store.cells + length l.gathering.group.bytes) l.store.capacity

-- what is gathered goes whole behind what is stored, or is left out
abbrev pub delivered : Live → Live
delivered l =
    (if has_room l
    then record l {
      store =
          queue (l.store.cells
          ++ cells_of l.gathering.group.bytes (map pair_of l.gathering.group.tokens))
          l.store.capacity;
    }
    else record l { is_choked = true })

-- what an act that tells all this makes of it
abbrev pub told_all : List Made → List Told → Live → Live
told_all made told l = delivered (has_heard made told (cleared l))

-- it has the number
abbrev pub is_number : ℕ → Live → Bool
is_number q l = l.number == q

-- the live peer with the number
abbrev pub number_of : ℕ → List Live → Option Live
number_of q [] = None
number_of q (l ∷ rest) = (if is_number q l then Some l else number_of q rest)

-- what is counted of each is above this number and those before
abbrev pub AreOver : {X : Type 0} → (X → ℕ) → ℕ → List X → Type 0
AreOver key q [] = Unit {0}
AreOver key q (l ∷ rest) = (q < key l) × AreOver key (key l) rest

-- each number is above this one and those before
abbrev pub AreAbove : ℕ → List Live → Type 0
AreAbove q live = AreOver (λ l. l.number) q live

-- by rising number, from 1
abbrev pub AreRising : List Live → Type 0
AreRising live = AreAbove 0 live

-- a message to that object, where it is one of the peer's
abbrev pub hears_message : Named → Message → Live → Live
hears_message to m l =
    (if l.label == to.peer then record l { gathering = with_message to.id m l.gathering } else l)
