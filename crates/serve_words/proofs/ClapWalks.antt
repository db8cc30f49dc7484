-- How `clap` goes over pairs: what it holds after each word, and that it takes each
use Rattle.std.proofs.Common.{◌≡◌, ◌==◌, ◌&&◌, ◌||◌, ◌∷◌, [], ℕ, true, false, not, Bool, if◌then◌else◌, List, Some, None, refl, sym, ap, ap₂, ◌∙◌, subst, drop, codes}
use Rattle.std.specs.Option.{option_map_or}
use Rattle.std.specs.List.{fold}
use Rattle.std.specs.Str.{bytes_eq}
use Rattle.std.proofs.lemmas.Slice.Eq.{bytes_eq-Decides}
use Rattle.clap.specs.Lexer.{long_of, short_of, strip_byte}
use Rattle.clap.specs.Simple.{Shape, built, filled}
use Rattle.clap.specs.Walk.{Held, Rule, Step, idle, option, next, after_flag, after_step, arg_by_id, arg_by_long, long_met, long_or_other, option_word, settled_rows, short_or_plain, trailing, walk_from, walked, word_met}
use Rattle.clap.specs.Takes.{flag_word_passes, settle_passes, step_passes, turn_passes, bundle_passes, long_passes}
use Rattle.serve_words.specs.Options.{dashed, option_rule, serve_app}
use Rattle.serve_words.specs.Words.{is_option, is_value}

-- the option as the built command has it
abbrev pub ready : (name : List ℕ) → Rule
ready name = filled (option_rule name)

abbrev pub rules : List Rule
rules =
    ready (codes "app") ∷ ready (codes "method") ∷ ready (codes "shell") ∷ ready (codes "order") ∷
    ready (codes "entries")
    ∷ ready (codes "store") ∷ ready (codes "weight") ∷ ready (codes "wait") ∷ []

abbrev pub top : Shape
top = (built serve_app).top

-- what `clap` finds of a word that names an option
pub record IsKnown (word name : List ℕ) : Type 0 where
  pub dashes : word ≡ dashed name
  pub long : long_of word ≡ Some (name, None)
  pub not_end : bytes_eq word (45 ∷ 45 ∷ []) ≡ false
  pub by_long : arg_by_long rules name ≡ Some (ready name)
  pub by_id : arg_by_id rules name ≡ Some (ready name)
  pub self : bytes_eq name name ≡ true

known_app : IsKnown (codes "--app") (codes "app")
known_app = record { dashes = refl; long = refl; not_end = refl; by_long = refl; by_id = refl; self = refl }

known_method : IsKnown (codes "--method") (codes "method")
known_method = record { dashes = refl; long = refl; not_end = refl; by_long = refl; by_id = refl; self = refl }

known_shell : IsKnown (codes "--shell") (codes "shell")
known_shell = record { dashes = refl; long = refl; not_end = refl; by_long = refl; by_id = refl; self = refl }

known_order : IsKnown (codes "--order") (codes "order")
known_order = record { dashes = refl; long = refl; not_end = refl; by_long = refl; by_id = refl; self = refl }

known_entries : IsKnown (codes "--entries") (codes "entries")
known_entries = record { dashes = refl; long = refl; not_end = refl; by_long = refl; by_id = refl; self = refl }

known_store : IsKnown (codes "--store") (codes "store")
known_store = record { dashes = refl; long = refl; not_end = refl; by_long = refl; by_id = refl; self = refl }

known_weight : IsKnown (codes "--weight") (codes "weight")
known_weight = record { dashes = refl; long = refl; not_end = refl; by_long = refl; by_id = refl; self = refl }

known_wait : IsKnown (codes "--wait") (codes "wait")
known_wait = record { dashes = refl; long = refl; not_end = refl; by_long = refl; by_id = refl; self = refl }

-- what holds of each option holds of a word that names one
pub by_option : (P : List ℕ → Type 0) → P (codes "--app") → P (codes "--method") → P (codes "--shell") →
    P (codes "--order")
    → P (codes "--entries") → P (codes "--store") → P (codes "--weight") → P (codes "--wait") → (word : List ℕ)
    → is_option word ≡ true → P word
by_option P app method shell order entries store weight wait word is =
    go (bytes_eq word (codes "--app")) (bytes_eq word (codes "--method")) (bytes_eq word (codes "--shell"))
    (bytes_eq word (codes "--order")) (bytes_eq word (codes "--entries")) (bytes_eq word (codes "--store"))
    (bytes_eq word (codes "--weight")) (bytes_eq word (codes "--wait")) refl refl refl refl refl refl refl refl is
  where
    here : (text : List ℕ) → P text → bytes_eq word text ≡ true → P word
    here text p same = subst P (sym ((bytes_eq-Decides word text).0 same)) p

    go : (a b c d e f g h : Bool) → bytes_eq word (codes "--app") ≡ a → bytes_eq word (codes "--method") ≡ b
        → bytes_eq word (codes "--shell") ≡ c → bytes_eq word (codes "--order") ≡ d →
        bytes_eq word (codes "--entries") ≡ e
        → bytes_eq word (codes "--store") ≡ f → bytes_eq word (codes "--weight") ≡ g
        → bytes_eq word (codes "--wait") ≡ h → (a || b || c || d || e || f || g || h) ≡ true → P word
    go true b c d e f g h p q r s t u v w any = here (codes "--app") app p
    go false true c d e f g h p q r s t u v w any = here (codes "--method") method q
    go false false true d e f g h p q r s t u v w any = here (codes "--shell") shell r
    go false false false true e f g h p q r s t u v w any = here (codes "--order") order s
    go false false false false true f g h p q r s t u v w any = here (codes "--entries") entries t
    go false false false false false true g h p q r s t u v w any = here (codes "--store") store u
    go false false false false false false true h p q r s t u v w any = here (codes "--weight") weight v
    go false false false false false false false true p q r s t u v w any = here (codes "--wait") wait w
    go false false false false false false false false p q r s t u v w any = absurd cc

pub known : (word : List ℕ) → is_option word ≡ true → IsKnown word (drop 2 word)
known =
    by_option (λ w. IsKnown w (drop 2 w)) known_app known_method known_shell known_order known_entries known_store
    known_weight known_wait

-- ---- a word that names an option

-- what is held while the option waits for its value
abbrev pub waiting_for : (name : List ℕ) → Held → Held
waiting_for name h = record { rows = settled_rows rules h.pending h.rows; pending = Some (name, []); skip = h.skip }

pub option_met_at : (word name : List ℕ) (h : Held) → IsKnown word name
    → word_met rules [] false idle 1 word h ≡ (waiting_for name h, next (option name))
option_met_at word name h is =
    ap (λ b. if b then (h, trailing 1) else long_or_other rules idle word (long_of word) h) is.not_end
    ∙ ap (λ o. long_or_other rules idle word o h) is.long
    ∙ ap (λ o. after_flag rules idle word (long_met rules o None h).0 (long_met rules o None h).1) is.by_long

pub option_walked : (word name : List ℕ) (h : Held) → IsKnown word name
    → walked rules [] (walk_from h) word ≡ record (walk_from (waiting_for name h)) { waiting = option name }
unfolding walked
option_walked word name h is =
    ap (λ (p : Held × Step). after_step rules word (walk_from h) p.0 p.1) (option_met_at word name h is)

-- `clap` takes it, where the option before it is taken
pub option_taken : (word name : List ℕ) (h : Held) → IsKnown word name → settle_passes rules false h ≡ true
    → turn_passes top [] (walk_from h) word ≡ true
option_taken word name h is settles =
    ap₂ (λ b (p : Held × Step). b && step_passes top 1 p.0 p.1)
    (ap (λ b. b || flag_word_passes rules false (long_of word) word h) is.not_end
    ∙ ap (λ o. flag_word_passes rules false o word h) is.long
    ∙ ap (λ o. long_passes rules false o None h) is.by_long ∙ settles)
    (option_met_at word name h is)

-- ---- a value

no_minus : (c : ℕ) → not (c == 45) ≡ true → (c == 45) ≡ false
no_minus c is = go (c == 45) is
  where
    go : (b : Bool) → not b ≡ true → b ≡ false
    go true e = absurd cc
    go false e = refl

strips : (value : List ℕ) → is_value value ≡ true → strip_byte 45 value ≡ None
strips [] is = refl
strips (c ∷ rest) is = ap (λ b. if b then Some rest else None) (no_minus c is)

not_end : (value : List ℕ) → is_value value ≡ true → bytes_eq value (45 ∷ 45 ∷ []) ≡ false
not_end [] is = refl
not_end (c ∷ rest) is = ap (λ b. b && bytes_eq rest (45 ∷ [])) (no_minus c is)

no_long : (value : List ℕ) → is_value value ≡ true → long_of value ≡ None
no_long value is =
    ap (λ o. Rattle.std.specs.Prelude.option_and_then Rattle.clap.specs.Lexer.long_of_rest
    (Rattle.std.specs.Prelude.option_and_then (strip_byte 45) o)) (strips value is)

no_short : (value : List ℕ) → is_value value ≡ true → short_of value ≡ None
no_short value is =
    ap (Rattle.std.specs.Prelude.option_and_then Rattle.clap.specs.Lexer.short_of_rest) (strips value is)

-- what is held of an option and its value
abbrev pub holding : (name value : List ℕ) → Held → Held
holding name value h =
    record { rows = settled_rows rules h.pending h.rows; pending = Some (name, value ∷ []); skip = h.skip }

pub value_met_at : (word name value : List ℕ) (h : Held) → IsKnown word name → is_value value ≡ true
    → word_met rules [] false (option name) 1 value (waiting_for name h) ≡ (holding name value h, next idle)
value_met_at word name value h is good =
    let w = waiting_for name h in
    ap (λ b. if b then (w, trailing 1) else long_or_other rules (option name) value (long_of value) w)
    (not_end value good)
    ∙ ap (λ o. long_or_other rules (option name) value o w) (no_long value good)
    ∙ ap (λ o. short_or_plain rules (option name) value o w) (no_short value good)
    ∙ ap (λ o. ((option_word o name value w).0, next (option_word o name value w).1)) is.by_id
    ∙ ap (λ b. (
      holding name value h,
      next (if Rattle.std.specs.Prelude.nat_lt (if b then 1 else 0) 1 then option name else idle),
    )) is.self

pub value_walked : (word name value : List ℕ) (h : Held) → IsKnown word name → is_value value ≡ true
    → walked rules [] (record (walk_from (waiting_for name h)) { waiting = option name }) value
    ≡ walk_from (holding name value h)
unfolding walked
value_walked word name value h is good =
    ap (λ (p : Held × Step). after_step rules value
    (record (walk_from (waiting_for name h)) { waiting = option name }) p.0 p.1)
    (value_met_at word name value h is good)

pub value_taken : (word name value : List ℕ) (h : Held) → IsKnown word name → is_value value ≡ true
    → turn_passes top [] (record (walk_from (waiting_for name h)) { waiting = option name }) value ≡ true
value_taken word name value h is good =
    let w = waiting_for name h in
    ap₂ (λ b (p : Held × Step). b && step_passes top 1 p.0 p.1)
    (ap (λ b. b || flag_word_passes rules false (long_of value) value w) (not_end value good)
    ∙ ap (λ o. flag_word_passes rules false o value w) (no_long value good)
    ∙ ap (λ o. option_map_or (λ flags. bundle_passes rules false flags w) o true) (no_short value good))
    (value_met_at word name value h is good)
