-- The options of `serve` as `clap` knows them, and what its matches hold of pairs
use Rattle.std.specs.Prelude.{◌≡◌, ℕ, true, List, [], ◌∷◌, codes, Option, Some, None}
use Rattle.clap.specs.Words.{App, Rule, found_of, first_value, new_app, new_rule, with_rule}
use Rattle.clap.specs.Simple.{on_top}
use Rattle.clap.specs.declared.builder.action.ArgAction.TheVariants.{Set}
use Rattle.clap.specs.declared.parser.matches.ArgMatches.{ArgMatches}
use Rattle.serve_words.specs.Words.{is_option, values_of}

-- the word that names the option
abbrev pub dashed : (name : List ℕ) → List ℕ
dashed name = 45 ∷ 45 ∷ name

-- the option `--name VALUE`
abbrev pub option_rule : (name : List ℕ) → Rule
option_rule name = record (new_rule name) { long = Some name; action = Some Set }

-- the command without its options: its first word is an option, and it has no flag for help
abbrev pub bare_app : App
bare_app = on_top (λ s. record s { no_binary_name = true; disable_help_flag = true })
    (new_app (codes "serve"))

-- the command with the eight options
abbrev pub serve_app : App
serve_app =
    with_rule (with_rule (with_rule (with_rule (with_rule (with_rule (with_rule (with_rule bare_app
    (option_rule (codes "app"))) (option_rule (codes "method"))) (option_rule (codes "shell")))
    (option_rule (codes "order"))) (option_rule (codes "entries"))) (option_rule (codes "store")))
    (option_rule (codes "weight"))) (option_rule (codes "wait"))

-- none, or the one
abbrev pub listed : Option (List ℕ) → List (List ℕ)
listed None = []
listed (Some value) = value ∷ []

-- the matches hold of each option what stands in the pairs
abbrev pub HoldsValues : ArgMatches → List (List ℕ) → Type 0
HoldsValues matches words =
    (name : List ℕ) → is_option (dashed name) ≡ true →
    values_of (dashed name) words ≡ listed (first_value (found_of matches) name)
