-- `clap` takes pairs, each option of which stands at most once, and its matches hold what stands in them
use Rattle.std.proofs.Common.{◌≡◌, ◌+◌, ◌≤◌, ◌&&◌, ◌||◌, ◌++◌, ◌∷◌, [], ℕ, true, false, not, Bool, cond, if◌then◌else◌, List, Some, None, refl, sym, ap, ◌∙◌, subst, drop, length, map, codes, arith, append-nil, append_assoc, leb-true}
use Rattle.std.specs.Prelude.{slice_get, option_and_then}
use Rattle.std.specs.List.{find, fold, list_all}
use Rattle.std.specs.Option.{option_map_or}
use Rattle.std.specs.Str.{bytes_eq}
use Rattle.std.proofs.lemmas.List.Folds.{list_any-append}
use Rattle.clap.specs.Simple.{App, HasMatchesOf, built, is_simple, matches_of}
use Rattle.clap.specs.Matches.{found_of}
use Rattle.clap.specs.declared.parser.matches.ArgMatches.{ArgMatches}
use Rattle.clap.specs.Takes.{default_passes, is_valid, settle_passes, takes, turn_passes, use_passes, walk_passes}
use Rattle.clap.specs.Walk.{Held, Row, Rule, Walk, at_row, finished, first_of, has_row, more_values, nothing_held, reading_by, settled_rows, used, used_by_id, walk, walk_from, walked, with_default}
use Rattle.clap.specs.declared.parser.matches.ValueSource.TheVariants.{CommandLine}
use Rattle.clap.proofs.TakesLemmas.{leaf_takes}
use Rattle.clap.proofs.WalkLemmas.{both, first_value-rows}
use Rattle.serve_words.specs.Options.{HoldsValues, dashed, listed, serve_app}
use Rattle.serve_words.specs.Shape.{stand_once_at_most, stands_once_at_most, has_shape}
use Rattle.serve_words.specs.Words.{are_pairs, is_option, is_value, values_of}
use Rattle.serve_words.proofs.ClapWalks.{IsKnown, by_option, holding, known, option_taken, option_walked, ready, rules, top, value_taken, value_walked}

-- what `clap` has found with what is held
abbrev rows_in : Held → List Row
rows_in h = settled_rows rules h.pending h.rows

abbrev row_for : (name value : List ℕ) → Row
row_for name value = record {
  id = name;
  values = value ∷ [];
  count = None;
  source = Some CommandLine;
  reading = reading_by (ready name);
}

-- a row for each pair
abbrev rows_of_pairs : List (List ℕ) → List Row
rows_of_pairs [] = []
rows_of_pairs (word ∷ []) = []
rows_of_pairs (word ∷ value ∷ rest) = row_for (drop 2 word) value ∷ rows_of_pairs rest

-- ---- rows

at_missing : (name : List ℕ) (change : Row → List Row) (missing rows : List Row) → has_row name rows ≡ false
    → at_row name change missing rows ≡ rows ++ missing
at_missing name change missing [] none = refl
at_missing name change missing (r ∷ rows) none =
    go (bytes_eq r.id name) none (λ e. at_missing name change missing rows e)
  where
    go : (b : Bool) → (b || has_row name rows) ≡ false
        → (has_row name rows ≡ false → at_row name change missing rows ≡ rows ++ missing)
        → cond b (change r ++ rows) (r ∷ at_row name change missing rows) ≡ r ∷ (rows ++ missing)
    go true e more = absurd cc
    go false e more = ap (λ rs. r ∷ rs) (more e)

used_new : (name value : List ℕ) (rows : List Row) → has_row name rows ≡ false
    → used (ready name) (value ∷ []) rows ≡ rows ++ row_for name value ∷ []
used_new name value rows none =
    ap (at_row name (more_values CommandLine (value ∷ [])) (row_for name value ∷ []))
    (at_missing name (λ _. []) [] rows none ∙ append-nil rows)
    ∙ at_missing name (more_values CommandLine (value ∷ [])) (row_for name value ∷ []) rows none

-- ---- how often an option stands, found or still to come

abbrev uses : (name : List ℕ) → List (List ℕ) → ℕ
uses name words = length (values_of (dashed name) words)

abbrev IsFew : List (List ℕ) → List Row → Type 0
IsFew words rows =
    (name : List ℕ) → is_option (dashed name) ≡ true → uses name words + (if has_row name rows then 1 else 0) ≤ 1

uses_step : (word value name other : List ℕ) (rest : List (List ℕ)) → word ≡ dashed name
    → uses other (word ∷ value ∷ rest) ≡ (if bytes_eq name other then 1 else 0) + uses other rest
uses_step word value name other rest is =
    ap (λ w. uses other (w ∷ value ∷ rest)) is ∙ either (bytes_eq name other)
  where
    either : (b : Bool) → length (if b then value ∷ values_of (dashed other) rest else values_of (dashed other) rest)
        ≡ (if b then 1 else 0) + uses other rest
    either true = omega arith
    either false = omega arith

absent_of : (b has : Bool) (all rest : ℕ) → b ≡ true → all ≡ (if b then 1 else 0) + rest →
    all + (if has then 1 else 0) ≤ 1
    → has ≡ false
absent_of true true all rest e step few = absurd (omega arith)
absent_of false true all rest e step few = absurd cc
absent_of b false all rest e step few = refl

more_of : (b has : Bool) (all rest : ℕ) → all ≡ (if b then 1 else 0) + rest → all + (if has then 1 else 0) ≤ 1
    → rest + (if has || (b || false) then 1 else 0) ≤ 1
more_of true true all rest step few = omega arith
more_of true false all rest step few = omega arith
more_of false true all rest step few = omega arith
more_of false false all rest step few = omega arith

absent : (word name value : List ℕ) (rest : List (List ℕ)) (rows : List Row) → is_option word ≡ true → IsKnown word name
    → IsFew (word ∷ value ∷ rest) rows → has_row name rows ≡ false
absent word name value rest rows names is few =
    absent_of (bytes_eq name name) (has_row name rows) (uses name (word ∷ value ∷ rest)) (uses name rest) is.self
    (uses_step word value name name rest is.dashes)
    (few name (subst (λ w. is_option w ≡ true) is.dashes names))

few_after : (word name value : List ℕ) (rest : List (List ℕ)) (rows : List Row) → IsKnown word name
    → IsFew (word ∷ value ∷ rest) rows → IsFew rest (rows ++ row_for name value ∷ [])
few_after word name value rest rows is few other names =
    subst (λ b. uses other rest + (if b then 1 else 0) ≤ 1)
    (sym (list_any-append (λ (r : Row). bytes_eq r.id other) rows (row_for name value ∷ [])))
    (more_of (bytes_eq name other) (has_row other rows) (uses other (word ∷ value ∷ rest)) (uses other rest)
    (uses_step word value name other rest is.dashes) (few other names))

-- ---- the walk

walks_two : (w one two : Walk) (word value : List ℕ) (rest : List (List ℕ)) → walked rules [] w word ≡ one →
    walked rules [] one value ≡ two
    → fold (walked rules []) w (word ∷ value ∷ rest) ≡ fold (walked rules []) two rest
walks_two w one two word value rest first second =
    ap (λ (x : Walk). fold (walked rules []) (walked rules [] x value) rest) first
    ∙ ap (λ (x : Walk). fold (walked rules []) x rest) second

passes_two : (w one two : Walk) (word value : List ℕ) (rest : List (List ℕ)) → turn_passes top [] w word ≡ true
    → walked rules [] w word ≡ one → turn_passes top [] one value ≡ true → walked rules [] one value ≡ two
    → walk_passes top [] two rest ≡ true → walk_passes top [] w (word ∷ value ∷ rest) ≡ true
unfolding walk_passes
passes_two w one two word value rest passes first more second after =
    ap (λ b. b &&
    (turn_passes top [] (walked rules [] w word) value
    && walk_passes top [] (walked rules [] (walked rules [] w word) value) rest)) passes
    ∙ ap (λ (x : Walk). turn_passes top [] x value && walk_passes top [] (walked rules [] x value) rest) first
    ∙ ap (λ b. b && walk_passes top [] (walked rules [] one value) rest) more
    ∙ ap (λ (x : Walk). walk_passes top [] x rest) second ∙ after

none_passes : (w : Walk) → walk_passes top [] w [] ≡ true
unfolding walk_passes
none_passes w = refl

-- the walk over the words takes each, and ends with the rows of all
record IsTaken (words : List (List ℕ)) (h : Held) : Type 0 where
  passes : walk_passes top [] (walk_from h) words ≡ true
  last : Held
  ends : fold (walked rules []) (walk_from h) words ≡ walk_from last
  settles : settle_passes rules false last ≡ true
  found : rows_in last ≡ rows_in h ++ rows_of_pairs words

pair_taken : (word name value : List ℕ) (rest : List (List ℕ)) (h : Held) → is_option word ≡ true →
    is_value value ≡ true → IsKnown word name
    → IsFew (word ∷ value ∷ rest) (rows_in h) → settle_passes rules false h ≡ true
    → (IsFew rest (rows_in (holding name value h)) → settle_passes rules false (holding name value h) ≡ true →
    IsTaken rest (holding name value h))
    → drop 2 word ≡ name → IsTaken (word ∷ value ∷ rest) h
pair_taken word name value rest h names good is few settles more name_is =
    let gone = absent word name value rest (rows_in h) names is few in
    let now : rows_in (holding name value h) ≡ rows_in h ++ row_for name value ∷ [] =
    ap (λ a. used_by_id a (value ∷ []) (rows_in h)) is.by_id ∙ used_new name value (rows_in h) gone in
    let after = more (subst (IsFew rest) (sym now) (few_after word name value rest (rows_in h) is few))
    (ap (λ a. option_map_or (λ (r : Rule). use_passes false r (value ∷ []) (rows_in h)) a true) is.by_id
    ∙ ap (λ b. (not b || false) && true) gone) in
    record {
      passes = passes_two (walk_from h) _ _ word value rest (option_taken word name h is settles)
          (option_walked word name h is)
          (value_taken word name value h is good) (value_walked word name value h is good) after.passes;
      last = after.last;
      ends = walks_two (walk_from h) _ _ word value rest (option_walked word name h is)
          (value_walked word name value h is good) ∙ after.ends;
      settles = after.settles;
      found = after.found ∙ (ap (λ rs. rs ++ rows_of_pairs rest) now
          ∙ (append_assoc (rows_in h) (row_for name value ∷ []) (rows_of_pairs rest)
          ∙ ap (λ n. rows_in h ++ row_for n value ∷ rows_of_pairs rest) (sym name_is)));
    }

pairs_taken : (words : List (List ℕ)) (h : Held) → are_pairs words ≡ true → IsFew words (rows_in h) →
    settle_passes rules false h ≡ true
    → IsTaken words h
pairs_taken [] h pairs few settles =
    record {
      passes = none_passes (walk_from h);
      last = h;
      ends = refl;
      settles = settles;
      found = sym (append-nil (rows_in h));
    }
pairs_taken (word ∷ []) h pairs few settles = absurd cc
pairs_taken (word ∷ value ∷ rest) h pairs few settles =
    let one = both (is_option word && is_value value) _ pairs in
    let parts = both (is_option word) _ one.0 in
    pair_taken word (drop 2 word) value rest h parts.0 parts.1 (known word parts.0) few settles
    (λ fewer settled. pairs_taken rest (holding (drop 2 word) value h) one.1 fewer settled) refl

-- ---- words of the shape

stands_few : (word : List ℕ) (words : List (List ℕ)) → is_option word ≡ true → stand_once_at_most words ≡ true
    → length (values_of word words) ≤ 1
stands_few word words names few =
    let to_weight = both (stands_once_at_most (codes "--app") words &&
    stands_once_at_most (codes "--method") words &&
    stands_once_at_most (codes "--shell") words &&
    stands_once_at_most (codes "--order") words &&
    stands_once_at_most (codes "--entries") words &&
    stands_once_at_most (codes "--store") words &&
    stands_once_at_most (codes "--weight") words) _ few in
    let to_store = both (stands_once_at_most (codes "--app") words &&
    stands_once_at_most (codes "--method") words &&
    stands_once_at_most (codes "--shell") words &&
    stands_once_at_most (codes "--order") words &&
    stands_once_at_most (codes "--entries") words &&
    stands_once_at_most (codes "--store") words) _ to_weight.0 in
    let to_entries = both (stands_once_at_most (codes "--app") words &&
    stands_once_at_most (codes "--method") words &&
    stands_once_at_most (codes "--shell") words &&
    stands_once_at_most (codes "--order") words &&
    stands_once_at_most (codes "--entries") words) _ to_store.0 in
    let to_order = both (stands_once_at_most (codes "--app") words &&
    stands_once_at_most (codes "--method") words &&
    stands_once_at_most (codes "--shell") words &&
    stands_once_at_most (codes "--order") words) _ to_entries.0 in
    let to_shell = both (stands_once_at_most (codes "--app") words &&
    stands_once_at_most (codes "--method") words &&
    stands_once_at_most (codes "--shell") words) _ to_order.0 in
    let to_method = both (stands_once_at_most (codes "--app") words &&
    stands_once_at_most (codes "--method") words) _ to_shell.0 in
    let first = both (stands_once_at_most (codes "--app") words) _ to_method.0 in
    by_option (λ w. length (values_of w words) ≤ 1) (leb-true _ _ first.0) (leb-true _ _ first.1)
    (leb-true _ _ to_method.1)
    (leb-true _ _ to_shell.1) (leb-true _ _ to_order.1) (leb-true _ _ to_entries.1) (leb-true _ _ to_store.1)
    (leb-true _ _ to_weight.1) word names

-- the walk over words of the shape
words_taken : (words : List (List ℕ)) → has_shape words ≡ true → IsTaken words nothing_held
words_taken words shape =
    let parts = both (are_pairs words) _ shape in
    pairs_taken words nothing_held parts.0
    (λ name names. let few = stands_few (dashed name) words names parts.1 in omega arith) refl

-- `clap` takes them
pub shape_taken : (words : List (List ℕ)) → has_shape words ≡ true → takes serve_app words ≡ true
shape_taken words shape =
    let t = words_taken words shape in
    leaf_takes (built serve_app) nothing_held words refl
    (ap (λ b. b &&
    (settle_passes rules false (walk rules [] nothing_held words).held
    && (list_all default_passes rules && is_valid top (finished rules (walk rules [] nothing_held words).held) false)))
    t.passes
    ∙ ap (λ (w : Walk). settle_passes rules false w.held
    && (list_all default_passes rules && is_valid top (finished rules w.held) false)) t.ends
    ∙ ap (λ b. b && (list_all default_passes rules && is_valid top (finished rules t.last) false)) t.settles)

-- an option has no value of its own
plain_default : (name : List ℕ) (rows : List Row) → with_default rows (ready name) ≡ rows
plain_default name rows = go (has_row name rows)
  where
    go : (b : Bool) → cond b rows rows ≡ rows
    go true = refl
    go false = refl

no_defaults : (names : List (List ℕ)) (rows : List Row) → fold with_default rows (map ready names) ≡ rows
no_defaults [] rows = refl
no_defaults (name ∷ names) rows =
    ap (λ rs. fold with_default rs (map ready names)) (plain_default name rows) ∙ no_defaults names rows

abbrev names : List (List ℕ)
names =
    codes "app" ∷ codes "method" ∷ codes "shell" ∷ codes "order" ∷ codes "entries" ∷ codes "store" ∷ codes "weight"
    ∷ codes "wait" ∷ []

-- the first row of an option has the first of its values
first_pairs : (name : List ℕ) (words : List (List ℕ)) → are_pairs words ≡ true
    → first_of name (rows_of_pairs words) ≡ slice_get (values_of (dashed name) words) 0
first_pairs name [] pairs = refl
first_pairs name (word ∷ []) pairs = absurd cc
first_pairs name (word ∷ value ∷ rest) pairs =
    let one = both (is_option word && is_value value) _ pairs in
    let is = known word (both (is_option word) _ one.0).0 in
    go (bytes_eq (drop 2 word) name) (first_pairs name rest one.1)
    ∙ sym (ap (λ w. slice_get
    (if bytes_eq w (dashed name) then value ∷ values_of (dashed name) rest else values_of (dashed name) rest) 0)
    is.dashes)
  where
    go : (b : Bool) → first_of name (rows_of_pairs rest) ≡ slice_get (values_of (dashed name) rest) 0
        → option_and_then (λ (r : Row). slice_get r.values 0)
        (cond b (Some (row_for (drop 2 word) value)) (find (λ r. bytes_eq r.id name) (rows_of_pairs rest)))
        ≡ slice_get (if b then value ∷ values_of (dashed name) rest else values_of (dashed name) rest) 0
    go true more = refl
    go false more = more

few_listed : (values : List (List ℕ)) → length values ≤ 1 → values ≡ listed (slice_get values 0)
few_listed [] few = refl
few_listed (value ∷ []) few = refl
few_listed (value ∷ more ∷ rest) few = absurd (omega arith)

-- what `clap` finds of an option is what stands in the pairs
pub shape_found : (words : List (List ℕ)) (name : List ℕ) → has_shape words ≡ true → is_option (dashed name) ≡ true
    → values_of (dashed name) words ≡ listed (first_of name (matches_of serve_app words))
shape_found words name shape names_one =
    let t = words_taken words shape in
    let parts = both (are_pairs words) _ shape in
    let found : matches_of serve_app words ≡ rows_of_pairs words =
    ap (λ (w : Walk). finished rules w.held) t.ends ∙ (no_defaults names (rows_in t.last) ∙ t.found) in
    few_listed (values_of (dashed name) words) (stands_few (dashed name) words names_one parts.1)
    ∙ ap listed (sym (ap (first_of name) found ∙ first_pairs name words parts.0))

-- ---- a command that is as `serve`'s

pub takes_shape : (app : App) (words : List (List ℕ)) → app ≡ serve_app → has_shape words ≡ true →
    takes app words ≡ true
takes_shape app words is shape = ap (λ (a : App). takes a words) is ∙ shape_taken words shape

pub holds_shape : (app : App) (words : List (List ℕ)) (matches : ArgMatches) → app ≡ serve_app → has_shape words ≡ true
    → HasMatchesOf app words matches → HoldsValues matches words
holds_shape app words matches is shape has name one =
    shape_found words name shape one
    ∙ ap listed (sym (first_value-rows (found_of matches) name
    ∙ (ap (first_of name) (has (ap is_simple is)).0 ∙ ap (λ (a : App). first_of name (matches_of a words)) is)))
