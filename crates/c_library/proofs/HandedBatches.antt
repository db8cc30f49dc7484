-- What a seat hands out of batches is what its acts tell of them, so it is what is relayed.
use Rattle.std.proofs.Common.{◌≡◌, ℕ, List, [], ◌∷◌, ◌++◌, map, Bool, true, false, ◌&&◌, ap, refl, sym, ◌∙◌, cond}
use Rattle.std.specs.Prelude.{◌==◌, filter}
use Rattle.std.specs.List.{flat_map}
use Rattle.std.proofs.lemmas.Bool.{eqb-true}
use Rattle.std.proofs.lemmas.List.{append-nil, map-append}
use Rattle.std.proofs.lemmas.Grind.{flat_map-append}
use Rattle.relay_model.specs.declared.act.Act.{Act}
use Rattle.relay_model.specs.declared.said.Told.{Told}
use Rattle.relay_model.specs.declared.said.Said.{Said}
use Rattle.relay_model.specs.declared.said.Said.TheVariants as said
use Rattle.relay_model.specs.Events.{to}
use Rattle.relay_model.specs.Told.{told}
use Rattle.c_relay.specs.Events.{Heard, heard_of, heard, hidden_heard}
use Rattle.c_relay.specs.Hidden.{hidden}
use Rattle.c_relay.specs.Served.{all_heard}
use Rattle.broker_model.proofs.BatchGroupsWhole.{both}
use Rattle.broker_telling.specs.BatchesTold.{is_of_batch, is_batch_for, batches_for, batches_told}
use Rattle.broker_telling.proofs.BatchesAreRelayed.{batches_relayed}
use Rattle.c_library.specs.HandedBatches.{is_for, HandedBatches}

-- the tests of a list of two parts
filter_append : {X : Type 0} (test : X → Bool) (xs ys : List X) →
    filter test (xs ++ ys) ≡ filter test xs ++ filter test ys
filter_append {X} test [] ys = refl
filter_append {X} test (x ∷ xs) ys = by (test x) (filter_append test xs ys)
  where
    by : (b : Bool) → filter test (xs ++ ys) ≡ filter test xs ++ filter test ys →
        cond b (x ∷ filter test (xs ++ ys)) (filter test (xs ++ ys))
        ≡ cond b (x ∷ filter test xs) (filter test xs) ++ filter test ys
    by true e = ap (λ (zs : List X). x ∷ zs) e
    by false e = e

-- events told to f as a seat hands them out
abbrev heard_for : ℕ → List Said → List Heard
heard_for f events = flat_map heard_of (map (to f) events)

heard_append : (f : ℕ) (xs ys : List Said) → heard_for f (xs ++ ys) ≡ heard_for f xs ++ heard_for f ys
heard_append f xs ys = ap (flat_map heard_of) (map-append (to f) xs ys)
    ∙ flat_map-append heard_of (map (to f) xs) (map (to f) ys)

-- ---- of one thing that is told

module _ (f x : ℕ) where
  -- it is picked by its kind and its object
  picked : (event : Said) → filter (is_for f) (heard_of (to x event))
      ≡ cond (is_of_batch event && (x == f)) (heard_of (to x event)) []
  picked (said.Enter surface) = refl
  picked (said.Leave surface) = refl
  picked (said.Preedit text begin end) = refl
  picked (said.CommitString text) = refl
  picked (said.Delete before after) = refl
  picked (said.FieldDone count) = refl
  picked said.Activate = refl
  picked said.Deactivate = refl
  picked (said.Surrounding text cursor anchor) = refl
  picked (said.ChangeCause cause) = refl
  picked (said.ContentType hint purpose) = refl
  picked said.MethodDone = refl
  picked said.Unavailable = refl
  picked (said.PopupRect x y width height) = refl
  picked (said.Keymap keymap) = refl
  picked (said.Key serial time key state) = refl
  picked (said.Mods serial mods) = refl
  picked (said.Repeat repeat) = refl
  picked (said.Pass time key state) = refl
  picked (said.Placed popup x y) = refl
  picked (said.VMods mods) = refl
  picked _ = refl

  one : (event : Said) → filter (is_for f) (heard_of (to x event)) ≡ heard_for f (batches_for f (to x event ∷ []))
  one event = picked event ∙ by (is_of_batch event && (x == f)) refl
    where
      by : (b : Bool) → (is_of_batch event && (x == f)) ≡ b → cond b (heard_of (to x event)) []
          ≡ heard_for f (map (λ (t : Told). t.event) (cond b (to x event ∷ []) []))
      by true e = ap (λ y. heard_of (to y event)) (eqb-true x f (both (is_of_batch event) (x == f) e).1)
          ∙ sym (append-nil (heard_of (to f event)))
      by false e = refl

-- ---- of a list, and of all acts

split_first : (f : ℕ) (t : Told) (ts : List Told) →
    batches_for f (t ∷ ts) ≡ batches_for f (t ∷ []) ++ batches_for f ts
split_first f t ts = by (is_batch_for f t)
  where
    by : (b : Bool) → map (λ (t : Told). t.event) (cond b (t ∷ filter (is_batch_for f) ts) (filter (is_batch_for f) ts))
        ≡ map (λ (t : Told). t.event) (cond b (t ∷ []) []) ++ batches_for f ts
    by true = refl
    by false = refl

all_of : (f : ℕ) (ts : List Told) → filter (is_for f) (flat_map heard_of ts) ≡ heard_for f (batches_for f ts)
all_of f [] = refl
all_of f (t ∷ ts) =
    filter_append (is_for f) (heard_of t) (flat_map heard_of ts)
    ∙ ap (λ (hs : List Heard). hs ++ filter (is_for f) (flat_map heard_of ts)) (one f t.to t.event)
    ∙ ap (λ (hs : List Heard). heard_for f (batches_for f (t ∷ [])) ++ hs) (all_of f ts)
    ∙ sym (heard_append f (batches_for f (t ∷ [])) (batches_for f ts))
    ∙ ap (heard_for f) (sym (split_first f t ts))

-- that a popup is hidden is the shell's
none_hidden : (f : ℕ) (popups : List ℕ) → filter (is_for f) (map hidden_heard popups) ≡ []
none_hidden f [] = refl
none_hidden f (x ∷ xs) = none_hidden f xs

of_act : (f : ℕ) (act : Act) (older : List Act) →
    filter (is_for f) (heard act older) ≡ heard_for f (batches_for f (told act older))
of_act f act older =
    filter_append (is_for f) (flat_map heard_of (told act older)) (map hidden_heard (hidden act older))
    ∙ ap (λ (hs : List Heard). filter (is_for f) (flat_map heard_of (told act older)) ++ hs)
    (none_hidden f (hidden act older))
    ∙ append-nil (filter (is_for f) (flat_map heard_of (told act older)))
    ∙ all_of f (told act older)

all_told : (f : ℕ) (log : List Act) → filter (is_for f) (all_heard log) ≡ heard_for f (batches_told log f)
all_told f [] = refl
all_told f (act ∷ older) =
    filter_append (is_for f) (all_heard older) (heard act older)
    ∙ ap (λ (hs : List Heard). hs ++ filter (is_for f) (heard act older)) (all_told f older)
    ∙ ap (λ (hs : List Heard). heard_for f (batches_told older f) ++ hs) (of_act f act older)
    ∙ sym (heard_append f (batches_told older f) (batches_for f (told act older)))

pub handed : HandedBatches
handed seat log given f s =
    ap (filter (is_for f)) (ap (λ (hs : List Heard). given ++ hs) s.seated.queue ∙ s.whole)
    ∙ all_told f log
    ∙ ap (heard_for f) (batches_relayed log f)
