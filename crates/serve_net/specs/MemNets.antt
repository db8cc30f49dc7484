-- What contracts see of a net in memory
use Rattle.std.specs.Prelude.{◌≡◌, ℕ, List, [], ◌∷◌, ◌++◌, Bool, true, false, take, Some, length}
use Rattle.wio_core.specs.Io.{raised}
use Rattle.std.specs.List.{All, slice_get, remove}
use Rattle.serve_net.specs.declared.door.Door.{Door}
use Rattle.serve_net.specs.declared.door.Door.TheVariants.{App, Method, Shell}
use Rattle.serve_net.specs.declared.mem_link.MemLink.{MemLink}
use Rattle.serve_net.specs.declared.mem_ways.MemIn.{MemIn}
use Rattle.serve_net.specs.declared.mem_ways.MemOut.{MemOut}

-- a net: which doors are open, when they were opened, the links that wait, the doors of those that
-- it gave, how many of these it hung up, the numbers of the accepts that fail, and how many accepts
-- and faults it had
pub record NetInMemory : Type 0 where
  pub app : Bool
  pub method : Bool
  pub shell : Bool
  pub listens : List (Door × ℕ)
  pub waiting : List MemLink
  pub links : List Door
  pub hung_up : ℕ
  pub fail : List ℕ
  pub calls : ℕ
  pub faults : ℕ

-- whether a door is open, where it is said of each
abbrev pub is_open : (app method shell : Bool) → Door → Bool
is_open app method shell App = app
is_open app method shell Method = method
is_open app method shell Shell = shell

-- the net with the door open
abbrev pub opening : Door → NetInMemory → NetInMemory
opening App n = record n { app = true; listens = (App, length n.links) ∷ n.listens }
opening Method n = record n { method = true; listens = (Method, length n.links) ∷ n.listens }
opening Shell n = record n { shell = true; listens = (Shell, length n.links) ∷ n.listens }

-- no link waits at the door
abbrev pub LacksLinkFor : Door → List MemLink → Type 0
LacksLinkFor d waiting = All (λ (l : MemLink). l.door ≡ d → ⊥) waiting

-- the first link that waits at the door stands there
pub record IsPlaceFor (d : Door) (waiting : List MemLink) (at : ℕ) (link : MemLink) : Type 0 where
  pub is : slice_get waiting at ≡ Some link
  pub door : link.door ≡ d
  pub first : LacksLinkFor d (take at waiting)

-- the first link that waits at the door, and those that wait without it
pub record IsFirstFor (d : Door) (waiting : List MemLink) (link : MemLink)
    (rest : List MemLink) : Type 0 where
  pub at : ℕ
  pub place : IsPlaceFor d waiting at link
  pub left : rest ≡ remove waiting at

-- an accept gave the first link that waits at the door, by its two ways, which have its number
pub record GivesLink (d : Door) (net net' : NetInMemory) (source : MemIn)
    (sink : MemOut) : Type 0 where
  pub link : MemLink
  pub first : IsFirstFor d net.waiting link net'.waiting
  pub way_in : source.source ≡ link.source
  pub way_out : sink.sink ≡ link.sink
  pub number_in : source.number ≡ length net'.links
  pub number_out : sink.number ≡ length net'.links
  pub live : sink.hung_up ≡ false
  pub rest : net'
      ≡ record net { waiting = net'.waiting; links = net.links ++ d ∷ []; calls = raised net.calls }
