-- The groups that are told at marked places are all that are told.
use Rattle.std.proofs.Common.{◌≡◌, ℕ, zero, suc, ◌+◌, ◌<◌, ◌≤◌, Bool, true, false, ◌||◌, eqb, List, [], ◌∷◌, ◌++◌, length, get_or, take, slice_get, Some, if◌then◌else◌, refl, sym, ap, ◌∙◌, arith, inl, inr, append-nil}
use Rattle.std.specs.List.{flat_map}
use Rattle.std.proofs.lemmas.Bool.{cases_eq, eq-eqb, ne_eqb}
use Rattle.std.proofs.lemmas.List.{take_more, append_assoc}
use Rattle.broker_audience.specs.declared.live.Live.{Live}
use Rattle.broker_audience.specs.Lives.{has_room}
use Rattle.broker_audience.specs.Marks.{is_marked, AreWithin}
use Rattle.broker_audience.specs.Visits.{IsQuiet}
use Rattle.broker_audience.proofs.MarkedPlaces.{marked_more, not_before, at_least}
use Rattle.broker_core.specs.Watched.{Watched, gathered_put, group_put}

-- of each by its place, of which the first is k
abbrev pub flat_at : (ℕ → Live → List Watched) → ℕ → List Live → List Watched
flat_at f k [] = []
flat_at f k (l ∷ live) = f k l ++ flat_at f (suc k) live

-- of those at marked places
abbrev pub put_at : (Live → List Watched) → List ℕ → ℕ → List Live → List Watched
put_at f marked k live = flat_at (λ j l. if is_marked j marked then f l else []) k live

pub none_put : (f : Live → List Watched) (k : ℕ) (live : List Live) → put_at f [] k live ≡ []
none_put f k [] = refl
none_put f k (l ∷ live) = none_put f (suc k) live

no_more : (g : ℕ → Live → List Watched) (k : ℕ) (live : List Live) → ((j : ℕ) (l : Live) → k ≤ j → g j l ≡ []) →
    flat_at g k live ≡ []
no_more g k [] none = refl
no_more g k (l ∷ live) none =
    rw (none k l (omega arith), no_more g (suc k) live (λ j m le. none j m (omega arith))) refl

one_more : (g h : ℕ → Live → List Watched) (ws : List Watched) (k place at : ℕ) (live : List Live) (x : Live) →
    at ≡ k + place → slice_get live place ≡ Some x →
    ((j : ℕ) (l : Live) → j < at → h j l ≡ g j l) → (g at x ≡ []) → (h at x ≡ ws) →
    ((j : ℕ) (l : Live) → at < j → g j l ≡ []) →
    ((j : ℕ) (l : Live) → at < j → h j l ≡ []) → flat_at h k live ≡ flat_at g k live ++ ws
one_more g h ws k place at [] x is found below here there g_above h_above = absurd (cc)
one_more g h ws k zero at (l ∷ live) x is found below here there g_above h_above =
    let first : at ≡ k = omega arith in
    let same : l ≡ x = cc in
    let g_here : g k l ≡ [] = rw (← first, same) here in
    let h_here : h k l ≡ ws = rw (← first, same) there in
    let g_rest : flat_at g (suc k) live ≡ [] = no_more g (suc k) live (λ j m le. g_above j m (omega arith)) in
    let h_rest : flat_at h (suc k) live ≡ [] = no_more h (suc k) live (λ j m le. h_above j m (omega arith)) in
    rw (g_here, h_here, g_rest, h_rest) (append-nil ws)
one_more g h ws k (suc place) at (l ∷ live) x is found below here there g_above h_above =
    let rest : flat_at h (suc k) live ≡ flat_at g (suc k) live ++ ws =
    one_more g h ws (suc k) place at live x (omega arith) found below here there g_above h_above in
    rw (below k l (omega arith), rest) (sym (append_assoc (g k l) (flat_at g (suc k) live) ws))

-- what is marked in front of a place is below it
taken_below : (ms : List ℕ) (k n i d j : ℕ) → AreWithin k n ms → i < length ms → is_marked j (take i ms) ≡ true →
    j < get_or ms i d
taken_below [] k n i d j w lt on = absurd (omega arith)
taken_below (m ∷ ms) k n zero d j w lt on = absurd (cc)
taken_below (m ∷ ms) k n (suc i) d j w lt on = elim (cases_eq m j) [
  | inl same ↦ omega (arith, at_least ms (suc m) n i d w.2 (omega arith))
  | inr other ↦ taken_below ms (suc m) n i d j w.2 (omega arith) (rw (ne_eqb m j other) at on)
]

if_off : (b : Bool) (ws : List Watched) → b ≡ false → (if b then ws else []) ≡ []
if_off true ws off = absurd (cc)
if_off false ws off = refl

-- the group at the next marked place comes behind
pub put_more : (f : Live → List Watched) (ms : List ℕ) (live : List Live) (i : ℕ) (x : Live) →
    AreWithin 0 (length live) ms → i < length ms →
    slice_get live (get_or ms i 0) ≡ Some x → put_at f (take (i + 1) ms) 0 live ≡ put_at f (take i ms) 0 live ++ f x
put_more f ms live i x within lt found =
    one_more (λ j l. if is_marked j (take i ms) then f l else [])
    (λ j l. if is_marked j (take (i + 1) ms) then f l else []) (f x) 0 (get_or ms i 0) (get_or ms i 0) live x
    (omega arith) found
    (λ j l less. ap (λ (b : Bool). if b then f l else [])
    (more j ∙ either (is_marked j (take i ms)) (eqb (get_or ms i 0) j)
    (ne_eqb (get_or ms i 0) j (λ e. absurd (omega arith)))))
    (if_off (is_marked (get_or ms i 0) (take i ms)) (f x) (not_before ms 0 (length live) i 0 within lt))
    (rw (more (get_or ms i 0), not_before ms 0 (length live) i 0 within lt, eq-eqb (get_or ms i 0) (get_or ms i 0) refl)
    refl)
    (λ j l past. if_off (is_marked j (take i ms)) (f l) (beyond j past (is_marked j (take i ms)) refl))
    (λ j l past. if_off (is_marked j (take (i + 1) ms)) (f l)
    (more j ∙ rw
    (beyond j past (is_marked j (take i ms)) refl, ne_eqb (get_or ms i 0) j (λ e. absurd (omega arith))) refl))
  where
    more : (j : ℕ) → is_marked j (take (i + 1) ms) ≡ (is_marked j (take i ms) || eqb (get_or ms i 0) j)
    more j = ap (is_marked j) (take_more ms i 0 lt) ∙ marked_more (take i ms) (get_or ms i 0) j

    either : (a b : Bool) → b ≡ false → (a || b) ≡ a
    either true b off = refl
    either false b off = off

    beyond : (j : ℕ) → get_or ms i 0 < j → (b : Bool) → is_marked j (take i ms) ≡ b → is_marked j (take i ms) ≡ false
    beyond j past true on = absurd (omega (arith, taken_below ms 0 (length live) i 0 j within lt on))
    beyond j past false off = off

-- who is quiet is told nothing
pub quiet_put : (n : ℕ) (l : Live) → IsQuiet l → gathered_put n l ≡ []
quiet_put n l quiet =
    let bytes : l.gathering.group.bytes ≡ [] = ap (λ g. g.group.bytes) quiet in
    by (has_room l) (rw bytes refl)
  where
    by : (b : Bool) → group_put n l.number l.gathering.group ≡ [] →
        (if b then group_put n l.number l.gathering.group else []) ≡ []
    by true none = none
    by false none = refl

all_from : (f : Live → List Watched) (ms : List ℕ) (k : ℕ) (live : List Live) →
    ((j : ℕ) (d : Live) → j < length live → is_marked (k + j) ms ≡ false → f (get_or live j d) ≡ []) →
    put_at f ms k live ≡ flat_map f live
all_from f ms k [] rest = refl
all_from f ms k (l ∷ live) rest =
    rw (
      step (is_marked k ms) refl,
      all_from f ms (suc k) live
          (λ j d lt off. let next : k + suc j ≡ suc k + j = omega arith in rest (suc j) d (omega arith) (rw next off)),
    ) refl
  where
    step : (b : Bool) → is_marked k ms ≡ b → (if b then f l else []) ≡ f l
    step true is = refl
    step false is = let here : k + 0 ≡ k = omega arith in sym (rest 0 l (omega arith) (rw here is))

-- all who aren't marked are told nothing
pub all_put : (f : Live → List Watched) (ms : List ℕ) (live : List Live) →
    ((j : ℕ) (d : Live) → j < length live → is_marked j ms ≡ false → f (get_or live j d) ≡ []) →
    put_at f ms 0 live ≡ flat_map f live
all_put f ms live rest =
    all_from f ms 0 live (λ j d lt off. let here : 0 + j ≡ j = omega arith in rest j d lt (rw here at off))
