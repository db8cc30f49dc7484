-- Peers in a row: the places that name them in a slab, and their numbers and labels.
use Rattle.std.specs.Prelude.{refl, ◌≡◌, ◌≢◌, ℕ, ◌<◌, List, [], ◌∷◌, length, get_or, set, map, Option, Some, None}
use Rattle.std.specs.Coded.{Coded, code_by, coded×, coded_list, coded_ℕ}
use Rattle.slab.specs.Slab.{Slab, get, slab_len, ContainsKey}
use Rattle.broker_audience.specs.declared.live.Live.{Live}
use Rattle.broker_audience.specs.declared.place.Place.{Place}
use Rattle.broker_audience.specs.contracts.live.Live as live
use Rattle.broker_audience.specs.Lives.{AreOver}

-- numbers, labels and peers, place by place, and for how many more there is room
pub record Roster : Type 0 where
  pub numbers : List ℕ
  pub labels : List ℕ
  pub items : List Live
  pub room : ℕ

-- stored as the tuple of the four
abbrev pub roster_code : Coded Roster
roster_code =
    code_by (List ℕ × (List ℕ × (List Live × ℕ)))
    (coded× (coded_list coded_ℕ)
    (coded× (coded_list coded_ℕ) (coded× (coded_list live.the_row.coded) coded_ℕ)))
    (λ r. (r.numbers, (r.labels, (r.items, r.room))))
    (λ p. record { numbers = p.0; labels = p.1.0; items = p.1.1.0; room = p.1.1.1 }) (λ _. refl)

-- another peer at the place
abbrev pub with_peer : Roster → ℕ → Live → Roster
with_peer r place l = record r { items = set r.items place l }

-- a peer that there may be, and others
abbrev pub and_others : Option Live → List Live → List Live
and_others None live = live
and_others (Some l) live = l ∷ live

-- the peers that the places name, in their order
abbrev pub seated : Slab Live → List Place → List Live
seated s [] = []
seated s (p ∷ places) = and_others (get s p.key) (seated s places)

-- each place names a peer
abbrev pub AreHeld : Slab Live → List Place → Type 0
AreHeld s places = (k : ℕ) (d : Place) → k < length places → ContainsKey s (get_or places k d).key

-- no two places name the same
abbrev pub AreApart : List Place → Type 0
AreApart places =
    (i j : ℕ) (d : Place) → i < length places → j < length places → i ≢ j →
    (get_or places i d).key ≢ (get_or places j d).key

-- the places name all that the slab holds, each another one
pub record AreSeated (s : Slab Live) (places : List Place) : Type 0 where
  pub held : AreHeld s places
  pub apart : AreApart places
  pub counted : slab_len s ≡ length places

-- each peer has the number and the label of its place, and both rise
pub record AreNamed (r : Roster) : Type 0 where
  pub numbers : r.numbers ≡ map (λ l. l.number) r.items
  pub labels : r.labels ≡ map (λ l. l.label) r.items
  pub numbers_rise : AreOver (λ n. n) 0 r.numbers
  pub labels_rise : AreOver (λ n. n) 0 r.labels
