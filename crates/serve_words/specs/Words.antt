-- The grammar of the words of `serve`: pairs of an option and a value, in any order, each option at
-- most once
use Rattle.std.specs.Prelude.{ℕ, ◌==◌, ◌||◌, ◌&&◌, not, nat_le, Bool, true, false, if◌then◌else◌, List, [], ◌∷◌, length, map, codes, Option, Some, None}
use Rattle.std.specs.Str.{bytes_eq}
use Rattle.broker_steps.specs.declared.limits.Limits.{Limits}
use Rattle.broker_steps.specs.Ranges.{entry_limit, store_limit, weight_limit}
use Rattle.session_text.specs.Words.{count_of, ◌>>=◌, kept}
use Rattle.serve_net.specs.declared.door.Door.{Door}
use Rattle.serve_net.specs.declared.door.Door.TheVariants.{App, Method, Shell}

-- what the words ask for: the doors' paths, the letters of the links to accept, in order, the hub's
-- limits, and how many seconds each link is waited for at most
pub record Serving : Type 0 where
  pub app : List ℕ
  pub method : List ℕ
  pub shell : List ℕ
  pub order : List ℕ
  pub limits : Limits
  pub wait : ℕ

-- a word that names an option
abbrev pub is_option : List ℕ → Bool
is_option w =
    bytes_eq w (codes "--app") || bytes_eq w (codes "--method") || bytes_eq w (codes "--shell")
    || bytes_eq w (codes "--order") || bytes_eq w (codes "--entries") ||
    bytes_eq w (codes "--store")
    || bytes_eq w (codes "--weight") || bytes_eq w (codes "--wait")

-- a value isn't empty and doesn't begin with a minus sign
abbrev pub is_value : List ℕ → Bool
is_value [] = false
is_value (c ∷ rest) = not (c == 45)

-- pairs of an option and a value
abbrev pub are_pairs : List (List ℕ) → Bool
are_pairs [] = true
are_pairs (option ∷ []) = false
are_pairs (option ∷ value ∷ rest) = is_option option && is_value value && are_pairs rest

-- the values of the option with this name, in order
abbrev pub values_of : (name : List ℕ) → List (List ℕ) → List (List ℕ)
values_of name [] = []
values_of name (option ∷ []) = []
values_of name (option ∷ value ∷ rest) =
    (if bytes_eq option name then value ∷ values_of name rest else values_of name rest)

-- the value of an option that stands once
abbrev pub once : List (List ℕ) → Option (List ℕ)
once (value ∷ []) = Some value
once _ = None

-- the number of an option that stands at most once, from 1 to the greatest
abbrev pub number_or : (default most : ℕ) → List (List ℕ) → Option ℕ
number_or default most [] = Some default
number_or default most (value ∷ []) = count_of most value
number_or default most _ = None

-- a letter lets in an application, a method, a method that has virtual keyboards, or a shell
abbrev pub is_letter : ℕ → Bool
is_letter c = (c == 97) || (c == 109) || (c == 107) || (c == 115)

-- each is such a letter
abbrev pub are_letters : List ℕ → Bool
are_letters [] = true
are_letters (c ∷ rest) = is_letter c && are_letters rest

-- 1 to 64 letters
abbrev pub is_order : List ℕ → Bool
is_order letters = nat_le 1 (length letters) && nat_le (length letters) 64 && are_letters letters

-- the door that a letter's link comes through: those of both kinds of methods share one
abbrev pub door_of : ℕ → Door
door_of c = if c == 97 then App else if (c == 109) || (c == 107) then Method else Shell

abbrev pub doors_of : List ℕ → List Door
doors_of letters = map door_of letters

-- the limits that the pairs set, or else those that stand without them
abbrev pub limits_of : List (List ℕ) → Option Limits
limits_of words =
    number_or 1000000 entry_limit (values_of (codes "--entries") words)
    >>= (λ entries. number_or 65536 store_limit (values_of (codes "--store") words)
    >>= (λ store. number_or 134217728 weight_limit (values_of (codes "--weight") words)
    >>= (λ weight. Some (record { entries = entries; store = store; weight = weight }))))

-- the seconds that the pairs set, or else some 136 years
abbrev pub wait_of : List (List ℕ) → Option ℕ
wait_of words = number_or 4294967295 4294967295 (values_of (codes "--wait") words)

-- the letters of the links to accept
abbrev pub order_of : List (List ℕ) → Option (List ℕ)
order_of words = kept is_order (once (values_of (codes "--order") words))

-- what has to be given: the doors' paths, and the letters
pub record Needed : Type 0 where
  pub app : List ℕ
  pub method : List ℕ
  pub shell : List ℕ
  pub order : List ℕ

abbrev pub needed_by : List (List ℕ) → Option Needed
needed_by words =
    once (values_of (codes "--app") words)
    >>= (λ app. once (values_of (codes "--method") words)
    >>= (λ method. once (values_of (codes "--shell") words)
    >>= (λ shell. order_of words
    >>= (λ order. Some (record { app = app; method = method; shell = shell; order = order })))))

-- what is asked for by what has to be given, these limits and this wait
abbrev pub serving : Needed → Limits → ℕ → Serving
serving n limits wait = record {
  app = n.app;
  method = n.method;
  shell = n.shell;
  order = n.order;
  limits = limits;
  wait = wait;
}

-- what pairs ask for
abbrev pub asked_by : List (List ℕ) → Option Serving
asked_by words =
    needed_by words >>= (λ needed. limits_of words
    >>= (λ limits. wait_of words >>= (λ wait. Some (serving needed limits wait))))

-- what the words ask for, which begin with `serve`; none, where they are in no grammar
abbrev pub serve_of : List (List ℕ) → Option Serving
serve_of [] = None
serve_of (word ∷ words) =
    if bytes_eq word (codes "serve") && are_pairs words then asked_by words else None
