-- A visit to marked places makes what a pass over all would.
use Rattle.std.proofs.Common.{◌≡◌, ℕ, zero, suc, ◌+◌, ◌<◌, ◌≤◌, Bool, true, false, ◌||◌, eqb, List, [], ◌∷◌, length, get_or, set, take, map, Some, slice_get, if◌then◌else◌, refl, sym, ap, ◌∙◌, arith}
use Rattle.std.proofs.lemmas.Bool.{eq-eqb, ne_eqb}
use Rattle.std.proofs.lemmas.List.{take_more}
use Rattle.std.proofs.lemmas.Option.{get_or_from_slice_get}
use Rattle.broker_audience.specs.declared.live.Live.{Live}
use Rattle.broker_audience.specs.Marks.{is_marked, AreWithin}
use Rattle.broker_audience.specs.Visits.{map_at, at_marked, changed_at}
use Rattle.broker_audience.proofs.MarkedPlaces.{marked_more, not_before}

-- one element that is written is changed at its place
pub changed_set : (f : Live → Live) (place : ℕ) (live : List Live) (l : Live) → place < length live →
    l ≡ get_or live place l →
    set live place (f l) ≡ changed_at place f live
changed_set f place [] l lt read = refl
changed_set f zero (x ∷ live) l lt read = rw read refl
changed_set f (suc place) (x ∷ live) l lt read = ap (λ ls. x ∷ ls) (changed_set f place live l (omega arith) read)

pub written_at : (f : Live → Live) (place : ℕ) (live : List Live) (l new : Live) → place < length live →
    slice_get live place ≡ Some l → new ≡ f l → set live place new ≡ changed_at place f live
written_at f place live l new lt there is =
    ap (set live place) is ∙ changed_set f place live l lt (sym (get_or_from_slice_get live place l l there))

pub changed_length : (f : Live → Live) (place : ℕ) (live : List Live) → length (changed_at place f live) ≡ length live
changed_length f place [] = refl
changed_length f zero (x ∷ live) = refl
changed_length f (suc place) (x ∷ live) = ap suc (changed_length f place live)

pub changed_here : (f : Live → Live) (place : ℕ) (live : List Live) (d : Live) → place < length live →
    get_or (changed_at place f live) place d ≡ f (get_or live place d)
changed_here f place [] d lt = absurd (omega arith)
changed_here f zero (x ∷ live) d lt = refl
changed_here f (suc place) (x ∷ live) d lt = changed_here f place live d (omega arith)

pub changed_others : (f : Live → Live) (place : ℕ) (live : List Live) (k : ℕ) (d : Live) → (place ≡ k → ⊥) →
    get_or (changed_at place f live) k d ≡ get_or live k d
changed_others f place [] k d other = refl
changed_others f zero (x ∷ live) zero d other = absurd (other refl)
changed_others f zero (x ∷ live) (suc k) d other = refl
changed_others f (suc place) (x ∷ live) zero d other = refl
changed_others f (suc place) (x ∷ live) (suc k) d other = changed_others f place live k d (λ e. other (omega arith))

pub map_at_length : (g : ℕ → Live → Live) (k : ℕ) (live : List Live) → length (map_at g k live) ≡ length live
map_at_length g k [] = refl
map_at_length g k (l ∷ live) = ap suc (map_at_length g (suc k) live)

alike : (g h : ℕ → Live → Live) (k : ℕ) (live : List Live) → ((j : ℕ) (l : Live) → k ≤ j → g j l ≡ h j l) →
    map_at g k live ≡ map_at h k live
alike g h k [] same = refl
alike g h k (l ∷ live) same =
    rw (same k l (omega arith), alike g h (suc k) live (λ j m le. same j m (omega arith))) refl

-- one more of all is changed
one_more : (g h : ℕ → Live → Live) (f : Live → Live) (k place at : ℕ) (live : List Live) → at ≡ k + place →
    ((l : Live) → f (g at l) ≡ h at l) →
    ((j : ℕ) (l : Live) → (at ≡ j → ⊥) → g j l ≡ h j l) → changed_at place f (map_at g k live) ≡ map_at h k live
one_more g h f k place at [] is here others = refl
one_more g h f k zero at (l ∷ live) is here others =
    let first : at ≡ k = omega arith in
    let head : f (g k l) ≡ h k l = rw first at (here l) in
    rw (head, alike g h (suc k) live (λ j m le. others j m (λ e. absurd (omega arith)))) refl
one_more g h f k (suc place) at (l ∷ live) is here others =
    rw (others k l (λ e. absurd (omega arith)), one_more g h f (suc k) place at live (omega arith) here others) refl

pub none_visited : (f : Live → Live) (k : ℕ) (live : List Live) → live ≡ map_at (at_marked [] f) k live
none_visited f k [] = refl
none_visited f k (l ∷ live) = ap (λ ls. l ∷ ls) (none_visited f (suc k) live)

-- the next marked place is visited
pub visited_more : (f : Live → Live) (told : List ℕ) (live : List Live) (i d : ℕ) → AreWithin 0 (length live) told →
    i < length told →
    changed_at (get_or told i d) f (map_at (at_marked (take i told) f) 0 live)
    ≡ map_at (at_marked (take (i + 1) told) f) 0 live
visited_more f told live i d within lt =
    let p = get_or told i d in
    let fresh : is_marked p (take i told) ≡ false = not_before told 0 (length live) i d within lt in
    let more : (k : ℕ) → is_marked k (take (i + 1) told) ≡ (is_marked k (take i told) || eqb p k) =
    λ k. ap (is_marked k) (take_more told i d lt) ∙ marked_more (take i told) p k in
    one_more (at_marked (take i told) f) (at_marked (take (i + 1) told) f) f 0 p p live (omega arith)
    (λ l. rw (more p, fresh, eq-eqb p p refl) refl)
    (λ j l other. rw (more j, ne_eqb p j other) (same (is_marked j (take i told)) l))
  where
    same : (b : Bool) (l : Live) → (if b then f l else l) ≡ (if b || false then f l else l)
    same true l = refl
    same false l = refl

-- where the change leaves all others as they are, it is a pass over all
all_from : (f : Live → Live) (told : List ℕ) (k : ℕ) (live : List Live) →
    ((j : ℕ) (d : Live) → j < length live → is_marked (k + j) told ≡ false → f (get_or live j d) ≡ get_or live j d) →
    map_at (at_marked told f) k live ≡ map f live
all_from f told k [] rest = refl
all_from f told k (l ∷ live) rest =
    let here : k + 0 ≡ k = omega arith in
    rw (
      step (is_marked k told) refl,
      all_from f told (suc k) live
          (λ j d lt off. let next : k + suc j ≡ suc k + j = omega arith in rest (suc j) d (omega arith) (rw next off)),
    ) refl
  where
    step : (b : Bool) → is_marked k told ≡ b → (if b then f l else l) ≡ f l
    step true is = refl
    step false is = let here : k + 0 ≡ k = omega arith in sym (rest 0 l (omega arith) (rw here is))

pub all_visited : (f : Live → Live) (told : List ℕ) (live : List Live) →
    ((j : ℕ) (d : Live) → j < length live → is_marked j told ≡ false → f (get_or live j d) ≡ get_or live j d) →
    map_at (at_marked told f) 0 live ≡ map f live
all_visited f told live rest =
    all_from f told 0 live (λ j d lt off. let here : 0 + j ≡ j = omega arith in rest j d lt (rw here at off))

-- one alone is changed where no other would be
pub one_changed : (f : Live → Live) (place : ℕ) (live : List Live) →
    ((j : ℕ) (d : Live) → j < length live → (place ≡ j → ⊥) → f (get_or live j d) ≡ get_or live j d) →
    changed_at place f live ≡ map f live
one_changed f place [] others = refl
one_changed f zero (l ∷ live) others =
    ap (λ ls. f l ∷ ls) (sym (stay live (λ j d lt. others (suc j) d (omega arith) (λ e. absurd (omega arith)))))
  where
    stay : (ls : List Live) → ((j : ℕ) (d : Live) → j < length ls → f (get_or ls j d) ≡ get_or ls j d) → map f ls ≡ ls
    stay [] h = refl
    stay (x ∷ ls) h = rw (h 0 x (omega arith), stay ls (λ j d lt. h (suc j) d (omega arith))) refl
one_changed f (suc place) (l ∷ live) others =
    rw (
      others 0 l (omega arith) (λ e. absurd (omega arith)),
      one_changed f place live (λ j d lt other. others (suc j) d (omega arith) (λ e. other (omega arith))),
    ) refl
