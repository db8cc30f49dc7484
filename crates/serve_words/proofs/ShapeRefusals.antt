-- Words without the shape ask for nothing
use Rattle.std.proofs.Common.{◌≡◌, ◌≤◌, ◌&&◌, ◌∷◌, [], ℕ, true, false, nat_le, Bool, if◌then◌else◌, List, length, map, drop, get_or, Option, Some, None, refl, sym, ap, codes, ◌∙◌, arith}
use Rattle.std.specs.Str.{bytes_eq}
use Rattle.broker_steps.specs.declared.limits.Limits.{Limits}
use Rattle.broker_steps.specs.Ranges.{entry_limit, store_limit, weight_limit}
use Rattle.session_text.specs.Words.{◌>>=◌, kept}
use Rattle.serve_words.specs.Shape.{has_shape, stand_once_at_most, stands_once_at_most}
use Rattle.serve_words.specs.Words.{Needed, Serving, are_pairs, asked_by, is_order, limits_of, needed_by, number_or, once, order_of, serve_of, serving, values_of, wait_of}

once_many : (values : List (List ℕ)) → nat_le (length values) 1 ≡ false → once values ≡ None
once_many [] many = absurd cc
once_many (value ∷ []) many = absurd cc
once_many (value ∷ more ∷ rest) many = refl

number_many : (default most : ℕ) (values : List (List ℕ)) → nat_le (length values) 1 ≡ false →
    number_or default most values ≡ None
number_many default most [] many = absurd cc
number_many default most (value ∷ []) many = absurd cc
number_many default most (value ∷ more ∷ rest) many = refl

-- what has to be given, where a part is missing

abbrev needed_from : (app method shell order : Option (List ℕ)) → Option Needed
needed_from a m s o =
    a >>= (λ app. m >>=
    (λ method. s >>=
    (λ shell. o >>= (λ order. Some (record { app = app; method = method; shell = shell; order = order })))))

no_method : (a s o : Option (List ℕ)) → needed_from a None s o ≡ None
no_method None s o = refl
no_method (Some app) s o = refl

no_shell : (a m o : Option (List ℕ)) → needed_from a m None o ≡ None
no_shell None m o = refl
no_shell (Some app) None o = refl
no_shell (Some app) (Some method) o = refl

no_order : (a m s : Option (List ℕ)) → needed_from a m s None ≡ None
no_order None m s = refl
no_order (Some app) None s = refl
no_order (Some app) (Some method) None = refl
no_order (Some app) (Some method) (Some shell) = refl

-- the limits, where one is missing

abbrev limits_from : (entries store weight : Option ℕ) → Option Limits
limits_from e s w =
    e >>= (λ entries. s >>=
    (λ store. w >>= (λ weight. Some (record { entries = entries; store = store; weight = weight }))))

no_store : (e w : Option ℕ) → limits_from e None w ≡ None
no_store None w = refl
no_store (Some entries) w = refl

no_weight : (e s : Option ℕ) → limits_from e s None ≡ None
no_weight None s = refl
no_weight (Some entries) None = refl
no_weight (Some entries) (Some store) = refl

abbrev asked_from : Option Needed → Option Limits → Option ℕ → Option Serving
asked_from n l w = n >>= (λ needed. l >>= (λ limits. w >>= (λ wait. Some (serving needed limits wait))))

no_limits : (n : Option Needed) (w : Option ℕ) → asked_from n None w ≡ None
no_limits None w = refl
no_limits (Some needed) w = refl

no_wait : (n : Option Needed) (l : Option Limits) → asked_from n l None ≡ None
no_wait None l = refl
no_wait (Some needed) None = refl
no_wait (Some needed) (Some limits) = refl

abbrev one_of : (name : List ℕ) → List (List ℕ) → Option (List ℕ)
one_of name words = once (values_of name words)

abbrev entries_in : List (List ℕ) → Option ℕ
entries_in words = number_or 1000000 entry_limit (values_of (codes "--entries") words)

abbrev store_in : List (List ℕ) → Option ℕ
store_in words = number_or 65536 store_limit (values_of (codes "--store") words)

abbrev weight_in : List (List ℕ) → Option ℕ
weight_in words = number_or 134217728 weight_limit (values_of (codes "--weight") words)

unneeded : (words : List (List ℕ)) → needed_by words ≡ None → asked_by words ≡ None
unneeded words none = ap (λ n. asked_from n (limits_of words) (wait_of words)) none

unlimited : (words : List (List ℕ)) → limits_of words ≡ None → asked_by words ≡ None
unlimited words none =
    ap (λ l. asked_from (needed_by words) l (wait_of words)) none ∙ no_limits (needed_by words) (wait_of words)

unwaited : (words : List (List ℕ)) → wait_of words ≡ None → asked_by words ≡ None
unwaited words none =
    ap (asked_from (needed_by words) (limits_of words)) none ∙ no_wait (needed_by words) (limits_of words)

two_of : (name : List ℕ) (words : List (List ℕ)) → stands_once_at_most name words ≡ false → one_of name words ≡ None
two_of name words many = once_many (values_of name words) many

two_apps : (words : List (List ℕ)) → stands_once_at_most (codes "--app") words ≡ false → asked_by words ≡ None
two_apps words many =
    unneeded words (ap (λ o. needed_from o (one_of (codes "--method") words) (one_of (codes "--shell") words)
    (order_of words)) (two_of (codes "--app") words many))

two_methods : (words : List (List ℕ)) → stands_once_at_most (codes "--method") words ≡ false → asked_by words ≡ None
two_methods words many =
    unneeded words (ap (λ o. needed_from (one_of (codes "--app") words) o (one_of (codes "--shell") words)
    (order_of words)) (two_of (codes "--method") words many)
    ∙ no_method (one_of (codes "--app") words) (one_of (codes "--shell") words) (order_of words))

two_shells : (words : List (List ℕ)) → stands_once_at_most (codes "--shell") words ≡ false → asked_by words ≡ None
two_shells words many =
    unneeded words (ap (λ o. needed_from (one_of (codes "--app") words) (one_of (codes "--method") words) o
    (order_of words)) (two_of (codes "--shell") words many)
    ∙ no_shell (one_of (codes "--app") words) (one_of (codes "--method") words) (order_of words))

two_orders : (words : List (List ℕ)) → stands_once_at_most (codes "--order") words ≡ false → asked_by words ≡ None
two_orders words many =
    unneeded words (ap (λ o. needed_from (one_of (codes "--app") words) (one_of (codes "--method") words)
    (one_of (codes "--shell") words) (kept is_order o)) (two_of (codes "--order") words many)
    ∙ no_order (one_of (codes "--app") words) (one_of (codes "--method") words) (one_of (codes "--shell") words))

two_entries : (words : List (List ℕ)) → stands_once_at_most (codes "--entries") words ≡ false → asked_by words ≡ None
two_entries words many =
    unlimited words (ap (λ o. limits_from o (store_in words) (weight_in words))
    (number_many 1000000 entry_limit (values_of (codes "--entries") words) many))

two_stores : (words : List (List ℕ)) → stands_once_at_most (codes "--store") words ≡ false → asked_by words ≡ None
two_stores words many =
    unlimited words (ap (λ o. limits_from (entries_in words) o (weight_in words))
    (number_many 65536 store_limit (values_of (codes "--store") words) many)
    ∙ no_store (entries_in words) (weight_in words))

two_weights : (words : List (List ℕ)) → stands_once_at_most (codes "--weight") words ≡ false → asked_by words ≡ None
two_weights words many =
    unlimited words (ap (limits_from (entries_in words) (store_in words))
    (number_many 134217728 weight_limit (values_of (codes "--weight") words) many)
    ∙ no_weight (entries_in words) (store_in words))

two_waits : (words : List (List ℕ)) → stands_once_at_most (codes "--wait") words ≡ false → asked_by words ≡ None
two_waits words many = unwaited words (number_many 4294967295 4294967295 (values_of (codes "--wait") words) many)

-- an option that stands twice
repeated : (words : List (List ℕ)) → stand_once_at_most words ≡ false → asked_by words ≡ None
repeated words bad =
    go (stands_once_at_most (codes "--app") words)
    (stands_once_at_most (codes "--method") words)
    (stands_once_at_most (codes "--shell") words)
    (stands_once_at_most (codes "--order") words)
    (stands_once_at_most (codes "--entries") words)
    (stands_once_at_most (codes "--store") words)
    (stands_once_at_most (codes "--weight") words)
    (stands_once_at_most (codes "--wait") words)
    refl refl refl refl refl refl refl refl bad
  where
    go : (one two three four five six seven eight : Bool) → stands_once_at_most (codes "--app") words ≡ one
        → stands_once_at_most (codes "--method") words ≡ two
        → stands_once_at_most (codes "--shell") words ≡ three
        → stands_once_at_most (codes "--order") words ≡ four
        → stands_once_at_most (codes "--entries") words ≡ five
        → stands_once_at_most (codes "--store") words ≡ six
        → stands_once_at_most (codes "--weight") words ≡ seven
        → stands_once_at_most (codes "--wait") words ≡ eight
        → (one && two && three && four && five && six && seven && eight) ≡ false → asked_by words ≡ None
    go false c d e f g h i p q r u v x y z lacks = two_apps words p
    go true false d e f g h i p q r u v x y z lacks = two_methods words q
    go true true false e f g h i p q r u v x y z lacks = two_shells words r
    go true true true false f g h i p q r u v x y z lacks = two_orders words u
    go true true true true false g h i p q r u v x y z lacks = two_entries words v
    go true true true true true false h i p q r u v x y z lacks = two_stores words x
    go true true true true true true false i p q r u v x y z lacks = two_weights words y
    go true true true true true true true false p q r u v x y z lacks = two_waits words z
    go true true true true true true true true p q r u v x y z lacks = absurd cc

no_shape : (named : Bool) (words : List (List ℕ)) → has_shape words ≡ false
    → (if named && are_pairs words then asked_by words else None) ≡ None
no_shape false words bad = refl
no_shape true words bad = go (are_pairs words) bad
  where
    go : (b : Bool) → (b && stand_once_at_most words) ≡ false → (if b then asked_by words else None) ≡ None
    go true e = repeated words e
    go false e = refl

-- words that aren't `serve` and pairs of the shape are in no grammar
pub refused : {W : Type 0} (bytes : W → List ℕ) (words rest : List W) (first : W) → 1 ≤ length words →
    first ≡ get_or words 0 first
    → rest ≡ drop 1 words → (bytes_eq (bytes first) (codes "serve") && has_shape (map bytes rest)) ≡ false
    → serve_of (map bytes words) ≡ None
refused bytes [] rest first some is same bad = absurd (omega arith)
refused bytes (word ∷ words) rest first some is same bad =
    ap (λ w. if bytes_eq (bytes w) (codes "serve") && are_pairs (map bytes words) then asked_by (map bytes words)
    else None) (sym is)
    ∙ go (bytes_eq (bytes first) (codes "serve"))
    (ap (λ ws. bytes_eq (bytes first) (codes "serve") && has_shape (map bytes ws)) (sym same) ∙ bad)
  where
    go : (b : Bool) → (b && has_shape (map bytes words)) ≡ false
        → (if b && are_pairs (map bytes words) then asked_by (map bytes words) else None) ≡ None
    go true e = no_shape true (map bytes words) e
    go false e = refl

pub either_false : (a b : Bool) → b ≡ false → (a && b) ≡ false
either_false true b e = e
either_false false b e = refl
