-- Live peers in order, and a change of one of them.
use Rattle.std.specs.Prelude.{refl, ◌≡◌, ℕ, zero, suc, ◌<◌, ◌≤◌, ◌∷◌, [], List, length, drop, true, false, get_or, Option, Some, None, if◌then◌else◌}
use Rattle.std.specs.List.{All, AllByRecursion}
use Rattle.out_store.specs.Queue.{queue}
use Rattle.relay_model.specs.declared.act.EndCause.{EndCause}
use Rattle.relay_model.specs.declared.act.EndCause.TheVariants.{Bad, Full}
use Rattle.std.specs.Coded.{Coded, code_by, coded×, coded_list, coded_ℕ}
use Rattle.broker_audience.specs.declared.live.Live.{Live}
use Rattle.broker_audience.specs.contracts.live.Live as live
use Rattle.broker_audience.specs.Gathered.{empty}
use Rattle.broker_audience.specs.Lives.{AreOver}
use Rattle.broker_audience.specs.Marks.{is_marked, AreWithin}

-- live peers, and for how many more there is room
pub record Peers : Type 0 where
  pub items : List Live
  pub room : ℕ

-- stored as the pair of the two
abbrev pub peers_code : Coded Peers
peers_code =
    code_by (List Live × ℕ) (coded× (coded_list live.the_row.coded) coded_ℕ)
    (λ p. (p.items, p.room)) (λ p. record { items = p.0; room = p.1 }) (λ _. refl)

-- the peer at the place is changed, and all others are as before
abbrev pub changed_at : ℕ → (Live → Live) → List Live → List Live
changed_at place f [] = []
changed_at zero f (l ∷ rest) = f l ∷ rest
changed_at (suc place) f (l ∷ rest) = l ∷ changed_at place f rest

-- each is changed, by its place, of which the first is k
abbrev pub map_at : (ℕ → Live → Live) → ℕ → List Live → List Live
map_at f k [] = []
map_at f k (l ∷ rest) = f k l ∷ map_at f (suc k) rest

-- those at marked places are changed
abbrev pub at_marked : List ℕ → (Live → Live) → ℕ → Live → Live
at_marked marked f k l = (if is_marked k marked then f l else l)

-- why it has to be ended, if so
abbrev pub cause_of : Live → Option (ℕ × EndCause)
cause_of l =
    (if l.is_refused then Some (l.number, Bad)
    else (if l.is_choked then Some (l.number, Full) else None))

-- one for which this is counted stands at the place
pub record IsAt {X : Type 0} (key : X → ℕ) (x : ℕ) (live : List X) (place : ℕ) : Type 0 where
  pub within : place < length live
  pub has : (d : X) → key (get_or live place d) ≡ x

-- it is counted for none
abbrev pub HasNone : {X : Type 0} → (X → ℕ) → ℕ → List X → Type 0
HasNone key x live = All (λ l. key l ≡ x → ⊥) live

-- its number and label are above those of all others
pub record IsAboveAll (l : Live) (live : List Live) : Type 0 where
  pub number : 0 < l.number
  pub label : 0 < l.label
  pub others : AllByRecursion (λ (m : Live). (m.number < l.number) × (m.label < l.label)) live

-- numbers and labels rise
pub record AreInOrder (live : List Live) : Type 0 where
  pub numbers : AreOver (λ l. l.number) 0 live
  pub labels : AreOver (λ l. l.label) 0 live

-- its last message was refused
abbrev pub refusing : Live → Live
refusing l = record l { is_refused = true }

-- these tokens wait for it
abbrev pub waits : List ℕ → Live → Live
waits tokens l = record l { waiting = tokens }

-- its objects are as that peer's, whether its last message was refused, and the tokens that wait
-- for it
abbrev pub rewritten : (after : Live) → Live → Live
rewritten after l =
    record l { table = after.table; is_refused = after.is_refused; waiting = after.waiting }

-- so many bytes were taken from its store
abbrev pub taken : ℕ → Live → Live
taken n l = record l { store = queue (drop n l.store.cells) l.store.capacity }

-- nothing is gathered for it, and nothing was left out
abbrev pub IsQuiet : Live → Type 0
IsQuiet l = l.gathering ≡ empty l.gathering.capacity

-- nothing is to be ended
pub record IsCalm (l : Live) : Type 0 where
  pub choked : l.is_choked ≡ false
  pub refused : l.is_refused ≡ false

-- no more is stored than there is room for
abbrev pub IsBounded : Live → Type 0
IsBounded l = length l.store.cells ≤ l.store.capacity

-- nothing is gathered, nothing is to be ended
pub record IsNew (l : Live) : Type 0 where
  pub quiet : IsQuiet l
  pub calm : IsCalm l
  pub bounded : IsBounded l

-- Who was told is marked, and who may have to be ended: all others are quiet and calm, so that no
-- pass over them is wanted.
pub record AreListening (live : List Live) (told due : List ℕ) : Type 0 where
  pub told_within : AreWithin 0 (length live) told
  pub due_within : AreWithin 0 (length live) due
  pub quiet : (k : ℕ) (d : Live) → k < length live → is_marked k told ≡ false →
      IsQuiet (get_or live k d)
  pub calm : (k : ℕ) (d : Live) → k < length live → is_marked k due ≡ false →
      IsCalm (get_or live k d)
  pub bounded : All IsBounded live
