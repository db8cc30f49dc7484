-- The first link that waits at a door, among all that wait
use Rattle.std.proofs.Common.{◌≡◌, ◌<◌, ◌∙◌, ℕ, List, length, take, slice_index_or, refl, ap}
use Rattle.std.proofs.lemmas.Option.{slice_get_read, slice_get_within, get_or_from_slice_get}
use Rattle.serve_net.specs.declared.door.Door.{Door}
use Rattle.serve_net.specs.declared.mem_link.MemLink.{MemLink}
use Rattle.serve_net.specs.MemNets.{LacksLinkFor, IsPlaceFor, IsFirstFor}

-- the link that was read there, where none before it waits at the door
pub place_is : (d : Door) (waiting : List MemLink) (at : ℕ) (link : MemLink) → at < length waiting
    → link ≡ slice_index_or waiting at link → link.door ≡ d → LacksLinkFor d (take at waiting)
    → IsPlaceFor d waiting at link
place_is d waiting at link within read door first = record {
  is = slice_get_read waiting (length waiting) at link refl within read;
  door = door;
  first = first;
}

-- where one was found, the door doesn't lack a link
pub place_is_there : (d : Door) (waiting : List MemLink) (at : ℕ) (link : MemLink) → IsPlaceFor d waiting at link
    → LacksLinkFor d waiting → ⊥
place_is_there d waiting at link place lacks =
    lacks at link (slice_get_within waiting at link place.is)
    (ap (λ l. l.door) (get_or_from_slice_get waiting at link link place.is) ∙ place.door)

pub first_is_there : (d : Door) (waiting rest : List MemLink) (link : MemLink) → IsFirstFor d waiting link rest
    → LacksLinkFor d waiting → ⊥
first_is_there d waiting rest link first = place_is_there d waiting first.at link first.place
