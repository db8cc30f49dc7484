-- the list of the keys that are down, and the map that it stands for
use Rattle.std.proofs.Common.{◌≡◌, ℕ, ◌+◌, ◌≤◌, List, [], ◌∷◌, ◌++◌, map, length, Bool, true, false, cond, not, Option, Some, None, is_some, refl, sym, ◌∙◌, ap, arith}
use Rattle.std.specs.Prelude.{◌==◌}
use Rattle.std.specs.List.{find, filter}
use Rattle.std.specs.Option.{option_map}
use Rattle.std.specs.Ordering.{nat_cmp}
use Rattle.std.specs.Cmp.{nat_cmp_total, unsigned_tied}
use Rattle.std.specs.FinMap as keyed
use Rattle.std.proofs.lemmas.Bool.{eqb-true, eqb-false, eq-eqb, ne_eqb, cond-true, cond-false, true≢false}
use Rattle.kbd_grab.specs.declared.down.Down.{Down}
use Rattle.kbd_grab.specs.DownList.{keys_of}

-- an entry of the map
abbrev pub entry : Down → ℕ × Option ℕ
entry d = (d.key, d.went)

turned_round : (a b : ℕ) → (a == b) ≡ (b == a)
turned_round a b = at (b == a) refl
  where
    at : (same : Bool) → (b == a) ≡ same → (a == b) ≡ same
    at true e = eq-eqb a b (sym (eqb-true b a e))
    at false e = ne_eqb a b (λ f. eqb-false b a e (sym f))

find_entry : (items : List Down) (key : ℕ) →
    keyed.find nat_cmp key (map entry items) ≡ option_map (λ d. d.went) (find (λ d. d.key == key) items)
find_entry [] key = refl
find_entry (d ∷ ds) key =
    ap (λ b. cond b (Some d.went) (keyed.find nat_cmp key (map entry ds)))
    (unsigned_tied key d.key ∙ turned_round key d.key)
    ∙ ap (λ o. cond (d.key == key) (Some d.went) o) (find_entry ds key)
    ∙ at (d.key == key)
  where
    at : (b : Bool) →
        cond b (Some d.went) (option_map (λ x. x.went) (find (λ x. x.key == key) ds))
        ≡ option_map (λ x. x.went) (cond b (Some d) (find (λ x. x.key == key) ds))
    at true = refl
    at false = refl

-- the map has at a key what the first item with the key says
pub get-keys_of : (items : List Down) (key : ℕ) →
    keyed.get (keys_of items) key ≡ option_map (λ d. d.went) (find (λ d. d.key == key) items)
get-keys_of items key = keyed.get-from_entries nat_cmp_total (map entry items) key ∙ find_entry items key

map-push : (items : List Down) (d : Down) → map entry (items ++ d ∷ []) ≡ map entry items ++ entry d ∷ []
map-push [] d = refl
map-push (x ∷ xs) d = ap (λ es. entry x ∷ es) (map-push xs d)

-- to push a key that is up is to insert it
pub keys_of-push : (items : List Down) (d : Down) → keyed.get (keys_of items) d.key ≡ None →
    keys_of (items ++ d ∷ []) ≡ keyed.insert (keys_of items) d.key d.went
keys_of-push items d up =
    ap (λ es. keyed.from_entries es) (map-push items d)
    ∙ keyed.from_entries_push nat_cmp_total keyed.nat_cmp-IsAntisymmetric (map entry items) d.key d.went
    (sym (keyed.get-from_entries nat_cmp_total (map entry items) d.key) ∙ up)

none_either : (b : Bool) → ◌≡◌ {A = Option Down} None (cond b None None)
none_either true = refl
none_either false = refl

find_filtered : (items : List Down) (key q : ℕ) →
    find (λ d. d.key == q) (filter (λ d. not (d.key == key)) items)
    ≡ cond (q == key) None (find (λ d. d.key == q) items)
find_filtered [] key q = none_either (q == key)
find_filtered (d ∷ ds) key q = at (d.key == key) refl (d.key == q) refl (find_filtered ds key q)
  where
    at : (out : Bool) → (d.key == key) ≡ out → (here : Bool) → (d.key == q) ≡ here
        → find (λ x. x.key == q) (filter (λ x. not (x.key == key)) ds)
        ≡ cond (q == key) None (find (λ x. x.key == q) ds)
        → find (λ x. x.key == q)
        (cond (not out) (d ∷ filter (λ x. not (x.key == key)) ds) (filter (λ x. not (x.key == key)) ds))
        ≡ cond (q == key) None (cond here (Some d) (find (λ x. x.key == q) ds))
    at true e true f rest =
        let same : (q == key) ≡ true = eq-eqb q key (sym (eqb-true d.key q f) ∙ eqb-true d.key key e) in
        rest ∙ cond-true (q == key) _ _ same ∙ sym (cond-true (q == key) _ _ same)
    at true e false f rest = rest
    at false e true f rest =
        let apart : (q == key) ≡ false = ap (λ x. x == key) (sym (eqb-true d.key q f)) ∙ e in
        cond-true (d.key == q) _ _ f ∙ sym (cond-false (q == key) _ _ apart)
    at false e false f rest = cond-false (d.key == q) _ _ f ∙ rest

map_cond : (b : Bool) (o : Option Down) →
    option_map (λ d. d.went) (cond b None o) ≡ cond b None (option_map (λ d. d.went) o)
map_cond true o = refl
map_cond false o = refl

-- to keep the other keys is to remove the key
pub keys_of-filter : (items : List Down) (key : ℕ) →
    keys_of (filter (λ d. not (d.key == key)) items) ≡ keyed.remove (keys_of items) key
keys_of-filter items key =
    keyed.same_map nat_cmp_total keyed.nat_cmp-IsAntisymmetric _ _ (λ q.
    get-keys_of (filter (λ d. not (d.key == key)) items) q
    ∙ ap (option_map (λ d. d.went)) (find_filtered items key q)
    ∙ map_cond (q == key) (find (λ d. d.key == q) items)
    ∙ sym (keyed.get-remove nat_cmp_total (keys_of items) key q
    ∙ ap (λ b. cond b None (keyed.get (keys_of items) q)) (unsigned_tied q key)
    ∙ ap (cond (q == key) None) (get-keys_of items q)))

len_cons : (d : Down) (ds : List Down) →
    keyed.len (keys_of (d ∷ ds))
    ≡ cond (is_some (keyed.get (keys_of ds) d.key)) (keyed.len (keys_of ds)) (keyed.len (keys_of ds) + 1)
len_cons d ds = keyed.len-insert nat_cmp_total (keys_of ds) d.key d.went

cond_at_most : (b : Bool) (n : ℕ) → cond b n (n + 1) ≤ n + 1
cond_at_most true n = omega arith
cond_at_most false n = omega arith

len_at_most : (items : List Down) → keyed.len (keys_of items) ≤ length items
len_at_most [] = omega (arith, keyed.len-empty nat_cmp (Option ℕ))
len_at_most (d ∷ ds) =
    omega (
      arith,
      len_cons d ds,
      cond_at_most (is_some (keyed.get (keys_of ds) d.key)) (keyed.len (keys_of ds)),
      len_at_most ds,
    )

-- where no key stands twice, none does behind the first, and the first's isn't there
behind : (d : Down) (ds : List Down) → keyed.len (keys_of (d ∷ ds)) ≡ length (d ∷ ds) →
    (is_some (keyed.get (keys_of ds) d.key) ≡ false) × (keyed.len (keys_of ds) ≡ length ds)
behind d ds once = at (is_some (keyed.get (keys_of ds) d.key)) refl (sym (len_cons d ds) ∙ once)
  where
    at : (b : Bool) → is_some (keyed.get (keys_of ds) d.key) ≡ b →
        cond b (keyed.len (keys_of ds)) (keyed.len (keys_of ds) + 1) ≡ length (d ∷ ds) →
        (is_some (keyed.get (keys_of ds) d.key) ≡ false) × (keyed.len (keys_of ds) ≡ length ds)
    at true e f = absurd (omega (arith, len_at_most ds))
    at false e f = (e, omega arith)

none_filtered : (items : List Down) (test p : Down → Bool) → is_some (find test items) ≡ false →
    is_some (find test (filter p items)) ≡ false
none_filtered [] test p none = refl
none_filtered (d ∷ ds) test p none = at (test d) refl (p d) none (λ h. none_filtered ds test p h)
  where
    at : (here : Bool) → test d ≡ here → (kept : Bool) → is_some (cond here (Some d) (find test ds)) ≡ false →
        (is_some (find test ds) ≡ false → is_some (find test (filter p ds)) ≡ false) →
        is_some (find test (cond kept (d ∷ filter p ds) (filter p ds))) ≡ false
    at true e kept none rest = absurd (true≢false none)
    at false e true none rest = ap is_some (cond-false (test d) _ _ e) ∙ rest none
    at false e false none rest = rest none

some_mapped : (o : Option Down) → is_some (option_map (λ d. d.went) o) ≡ is_some o
some_mapped None = refl
some_mapped (Some d) = refl

found : (items : List Down) (key : ℕ) →
    is_some (keyed.get (keys_of items) key) ≡ is_some (find (λ d. d.key == key) items)
found items key = ap is_some (get-keys_of items key) ∙ some_mapped (find (λ d. d.key == key) items)

-- fewer items keep it so
pub each_once-filter : (items : List Down) (p : Down → Bool) → keyed.len (keys_of items) ≡ length items →
    keyed.len (keys_of (filter p items)) ≡ length (filter p items)
each_once-filter [] p once = once
each_once-filter (d ∷ ds) p once =
    let tail : (is_some (keyed.get (keys_of ds) d.key) ≡ false) × (keyed.len (keys_of ds) ≡ length ds) =
    behind d ds once in
    at (p d) (each_once-filter ds p tail.1)
    (found (filter p ds) d.key ∙ none_filtered ds (λ x. x.key == d.key) p (sym (found ds d.key) ∙ tail.0))
  where
    at : (kept : Bool) → keyed.len (keys_of (filter p ds)) ≡ length (filter p ds) →
        is_some (keyed.get (keys_of (filter p ds)) d.key) ≡ false →
        keyed.len (keys_of (cond kept (d ∷ filter p ds) (filter p ds)))
        ≡ length (cond kept (d ∷ filter p ds) (filter p ds))
    at true rest none =
        len_cons d (filter p ds) ∙ cond-false (is_some (keyed.get (keys_of (filter p ds)) d.key)) _ _ none ∙ omega arith
    at false rest none = rest

-- and so does one more whose key is up
pub each_once-push : (items : List Down) (d : Down) → keyed.get (keys_of items) d.key ≡ None →
    keyed.len (keys_of items) ≡ length items → keyed.len (keys_of (items ++ d ∷ [])) ≡ length items + 1
each_once-push items d up once =
    ap keyed.len (keys_of-push items d up)
    ∙ keyed.len-insert nat_cmp_total (keys_of items) d.key d.went
    ∙ cond-false (is_some (keyed.get (keys_of items) d.key)) _ _ (ap is_some up)
    ∙ ap (λ n. n + 1) once
