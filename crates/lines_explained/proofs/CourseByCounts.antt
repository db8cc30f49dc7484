-- The counts of dones say what became of an activation.
use Rattle.std.proofs.Common.{◌≡◌, ℕ, ◌+◌, ◌%◌, ◌^◌, ◌<◌, ◌≤◌, List, [], ◌∷◌, ◌++◌, length, Bool, true, false, not, Option, Some, None, ap, refl, sym, ◌∙◌, arith}
use Rattle.std.specs.Prelude.{if◌then◌else◌, ◌&&◌, ◌==◌, min, nat_le, is_some, is_none}
use Rattle.std.proofs.lemmas.List.{length_push}
use Rattle.std.proofs.lemmas.Bool.{ne_eqb, eq-eqb, le-leb, lt-leb}
use Rattle.relay_model.specs.declared.act.Act.{Act}
use Rattle.relay_model.specs.declared.act.Act.TheVariants.{Method}
use Rattle.relay_model.specs.Objects.{next}
use Rattle.relay_model.specs.Focus.{where_alive}
use Rattle.relay_model.specs.Activation.{Notice, Activates, Updates, Deactivates, serving, notice, notice_to, dones, begun_by, begun_for, begun_of, begun}
use Rattle.relay_model.specs.Idle.{cleaned, history}
use Rattle.relay_model.proofs.ActsOrIdle.{length_history}
use Rattle.relay_model.proofs.ActivationLaws.{Each, dones_under, dones_few, dones_by, dones_step, dones_beyond, begun_step, begun_beyond, begun_within}
use Rattle.relay_core.specs.Stands.{dones_told, count_from, count_since}
use Rattle.lines_explained.specs.declared.changes.Course.{Course}
use Rattle.lines_explained.specs.declared.changes.Course.TheVariants.{Begins, GoesOn, Ends}
use Rattle.lines_explained.specs.Laws.{became, CourseLaw}

-- how many dones aren't below b, with one more done

count_push : (b n : ℕ) (xs : List ℕ) → b ≤ n → count_from b (xs ++ n ∷ []) ≡ count_from b xs + 1
count_push b n [] l = rw (le-leb b n l) refl
count_push b n (x ∷ xs) l = by (nat_le b x) (count_push b n xs l)
  where
    by : (c : Bool) → count_from b (xs ++ n ∷ []) ≡ count_from b xs + 1 →
        (if c then count_from b (xs ++ n ∷ []) + 1 else count_from b (xs ++ n ∷ []))
        ≡ (if c then count_from b xs + 1 else count_from b xs) + 1
    by true e = omega (arith, e)
    by false e = e

count_later : (n k : ℕ) (xs : List ℕ) → k < n → Each (λ x. x ≤ k) xs → count_from n xs ≡ 0
count_later n k [] l e = refl
count_later n k (x ∷ xs) l e =
    let w : x ≤ k = e.0 in rw (lt-leb n x (omega arith)) (count_later n k xs l e.1)

-- an activation that stands has a done of its own

has_one_by : (o : Option Notice) (n b : ℕ) (before : Option ℕ) (ds : List ℕ) → b ≤ n →
    (before ≡ Some b → 1 ≤ count_from b ds) → begun_by n o before ≡ Some b →
    1 ≤ count_from b (if is_some o then ds ++ n ∷ [] else ds)
has_one_by None n b before ds l k e = k e
has_one_by (Some Activates) n b before ds l k e =
    let p : count_from b (ds ++ n ∷ []) ≡ count_from b ds + 1 = count_push b n ds l in omega (arith, p)
has_one_by (Some Updates) n b before ds l k e =
    let p : count_from b (ds ++ n ∷ []) ≡ count_from b ds + 1 = count_push b n ds l in omega (arith, p)
has_one_by (Some Deactivates) n b before ds l k e = cc

has_one : (log : List Act) (m b : ℕ) → begun_for log m ≡ Some b → 1 ≤ count_from b (dones log m)
has_one [] m b e = cc
has_one (act ∷ older) m b e =
    has_one_by (notice_to m act older) (next older) b (begun_for older m) (dones older m)
    (let w : b ≤ length (act ∷ older) = begun_within (act ∷ older) m b e in omega (arith, w)) (has_one older m b) e

-- what became of the activation, by counts alone
abbrev by_counts : (c d k l : ℕ) → Option Course
by_counts c d k l =
    (if d == 0 then (if c == 0 then None else Some Ends)
    else (if not (c == 0) && (k == l) then None else (if d == 1 then Some Begins else Some GoesOn)))

some_min : (n : ℕ) → 1 ≤ n → (min n (2 ^ 32) == 0) ≡ false
some_min n l = ne_eqb (min n (2 ^ 32)) 0 (λ e. omega (arith, e, l))

and_false : (b : Bool) → (b && false) ≡ false
and_false true = refl
and_false false = refl

-- one more done changes the count, as long as there are fewer than 2^32
grown : (ds : List ℕ) (n : ℕ) → length ds + 1 < 2 ^ 32 →
    (length ds % 2 ^ 32 == length (ds ++ n ∷ []) % 2 ^ 32) ≡ false
grown ds n l =
    let p : length (ds ++ n ∷ []) ≡ length ds + 1 = length_push ds n in
    ne_eqb (length ds % 2 ^ 32) (length (ds ++ n ∷ []) % 2 ^ 32) (λ e. omega (arith, e, p, l))

-- by what the act n says of the hold
abbrev counted : Option Notice → ℕ → Option ℕ → List ℕ → Option Course
counted q n begun ds =
    by_counts (min (count_since begun ds) (2 ^ 32))
    (min (count_since (begun_by n q begun) (dones_by q n ds)) (2 ^ 32)) (length ds % 2 ^ 32)
    (length (dones_by q n ds) % 2 ^ 32)

silent : (n : ℕ) (begun : Option ℕ) (ds : List ℕ) → ((b : ℕ) → begun ≡ Some b → b < n) →
    ((b : ℕ) → begun ≡ Some b → 1 ≤ count_from b ds) →
    counted None n begun ds ≡ became begun begun n false
silent n None ds w h = refl
silent n (Some b) ds w h =
    let early : b < n = w b refl in
    rw (
      some_min (count_from b ds) (h b refl),
      eq-eqb (length ds % 2 ^ 32) (length ds % 2 ^ 32) refl,
      ne_eqb b n (λ e. omega (arith, early, e)),
    ) refl

activated : (n k : ℕ) (begun : Option ℕ) (ds : List ℕ) → k < n → Each (λ x. x ≤ k) ds → length ds + 1 < 2 ^ 32 →
    counted (Some Activates) n begun ds ≡ became (Some n) begun n true
activated n k begun ds l u few =
    let one : count_from n (ds ++ n ∷ []) ≡ 1 =
    count_push n n ds (omega arith) ∙ ap (λ c. c + 1) (count_later n k ds l u) in
    rw (one, grown ds n few, and_false (not (min (count_since begun ds) (2 ^ 32) == 0)), eq-eqb n n refl) refl

updated : (n : ℕ) (begun : Option ℕ) (ds : List ℕ) → ((b : ℕ) → begun ≡ Some b → b < n) →
    ((b : ℕ) → begun ≡ Some b → 1 ≤ count_from b ds) → length ds + 1 < 2 ^ 32 →
    counted (Some Updates) n begun ds ≡ became begun begun n true
updated n None ds w h few = refl
updated n (Some b) ds w h few =
    let early : b < n = w b refl in
    let own : 1 ≤ count_from b ds = h b refl in
    let more : count_from b (ds ++ n ∷ []) ≡ count_from b ds + 1 = count_push b n ds (omega (arith, early)) in
    rw (
      more,
      some_min (count_from b ds + 1) (omega arith),
      grown ds n few,
      and_false (not (min (count_from b ds) (2 ^ 32) == 0)),
      ne_eqb (min (count_from b ds + 1) (2 ^ 32)) 1 (λ e. omega (arith, own, e)),
      ne_eqb b n (λ e. omega (arith, early, e)),
    )
    refl

deactivated : (n : ℕ) (begun : Option ℕ) (ds : List ℕ) →
    ((b : ℕ) → begun ≡ Some b → 1 ≤ count_from b ds) →
    counted (Some Deactivates) n begun ds ≡ became None begun n true
deactivated n None ds h = refl
deactivated n (Some b) ds h = rw (some_min (count_from b ds) (h b refl)) refl

-- of a method that serves after the act
said : (q : Option Notice) (log : List Act) (m : ℕ) → length log + 1 < 2 ^ 32 →
    counted q (length log + 1) (begun_for log m) (dones log m)
    ≡ became (begun_by (length log + 1) q (begun_for log m)) (begun_for log m) (length log + 1) (is_some q)
said None log m l =
    silent (length log + 1) (begun_for log m) (dones log m)
    (λ b e. let w : b ≤ length log = begun_within log m b e in omega (arith, w)) (has_one log m)
said (Some Activates) log m l =
    let few : length (dones log m) ≤ length log = dones_few log m in
    activated (length log + 1) (length log) (begun_for log m) (dones log m) (omega arith) (dones_under log m)
    (omega (arith, few, l))
said (Some Updates) log m l =
    let few : length (dones log m) ≤ length log = dones_few log m in
    updated (length log + 1) (begun_for log m) (dones log m)
    (λ b e. let w : b ≤ length log = begun_within log m b e in omega (arith, w)) (has_one log m)
    (omega (arith, few, l))
said (Some Deactivates) log m l = deactivated (length log + 1) (begun_for log m) (dones log m) (has_one log m)

-- what is kept before the act of a method that serves after it
record Known (log : List Act) (m : ℕ) : Type 0 where
  dones_are : dones_told log (serving log) ≡ dones log m
  begun_is : begun log ≡ begun_for log m

served : (log : List Act) (m : ℕ) → serving log ≡ Some m → Known log m
served log m e = record { dones_are = ap (dones_told log) e; begun_is = ap (begun_of log) e }

made : (log : List Act) (m : ℕ) → serving log ≡ None → length log < m → Known log m
made log m e l = record {
  dones_are = ap (dones_told log) e ∙ sym (dones_beyond log m l);
  begun_is = ap (begun_of log) e ∙ sym (begun_beyond log m l);
}

left_alive : (log : List Act) (o : Option ℕ) (m : ℕ) → where_alive log o ≡ Some m → o ≡ Some m
left_alive log None m e = cc
left_alive log (Some t) m e = at _ t m e
  where
    at : (b : Bool) (t m : ℕ) → (if b then Some t else None) ≡ Some m → Some t ≡ Some m
    at true t m e = e
    at false t m e = cc

known_method : (p : ℕ) (older : List Act) (m : ℕ) (o : Option ℕ) → serving older ≡ o →
    (if is_none o then Some (next older) else o) ≡ Some m → Known older m
known_method p older m None e k = let new : length older + 1 ≡ m = cc in made older m e (omega (arith, new))
known_method p older m (Some n) e k = served older m (e ∙ k)

known : (act : Act) (older : List Act) (m : ℕ) → serving (act ∷ older) ≡ Some m → Known older m
known (Method p) older m e = known_method p older m (serving older) refl e
known act older m e = served older m (left_alive (act ∷ older) (serving older) m e)

-- where none serves after the act, what stood has ended
unserved : (log : List Act) (o : Option ℕ) (n k l : ℕ) (told : Bool) → serving log ≡ o →
    by_counts (min (count_since (begun_of log o) (dones_told log o)) (2 ^ 32)) 0 k l
    ≡ became None (begun_of log o) n told
unserved log None n k l told e = refl
unserved log (Some m) n k l told e = at (begun_for log m) refl
  where
    at : (b : Option ℕ) → begun_for log m ≡ b →
        by_counts (min (count_since b (dones log m)) (2 ^ 32)) 0 k l ≡ became None b n told
    at None i = refl
    at (Some b) i = rw (some_min (count_from b (dones log m)) (has_one log m b i)) refl

by_serving : (act : Act) (log : List Act) (o : Option ℕ) → serving (act ∷ log) ≡ o → length log + 1 < 2 ^ 32 →
    by_counts (min (count_since (begun log) (dones_told log (serving log))) (2 ^ 32))
    (min (count_since (begun_of (act ∷ log) o) (dones_told (act ∷ log) o)) (2 ^ 32))
    (length (dones_told log (serving log)) % 2 ^ 32) (length (dones_told (act ∷ log) o) % 2 ^ 32)
    ≡ became (begun_of (act ∷ log) o) (begun log) (length log + 1) (is_some (notice act log))
by_serving act log None e l =
    unserved log (serving log) (length log + 1) (length (dones_told log (serving log)) % 2 ^ 32) 0
    (is_some (notice act log)) refl
by_serving act log (Some m) e l =
    let k : Known log m = known act log m e in
    rw (k.dones_are, k.begun_is, dones_step act log m e, begun_step act log m e) (said (notice act log) log m l)

pub course_law : CourseLaw
course_law act acts l =
    let log = history acts in
    let n : length log ≡ length acts = length_history acts in
    by_serving (cleaned act log) log (serving (cleaned act log ∷ log)) refl (omega (arith, n, l))
    ∙ ap (λ v. became (begun (cleaned act log ∷ log)) (begun log) (v + 1) (is_some (notice (cleaned act log) log))) n
