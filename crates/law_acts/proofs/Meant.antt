-- An activation keeps the field that it began with, so a batch is relayed to the field that it was made for.
use Rattle.std.proofs.Common.{◌≡◌, ℕ, ◌+◌, ◌<◌, ◌≤◌, List, [], ◌∷◌, ◌++◌, length, Bool, true, false, Option, Some, None, ap, refl, sym, ◌∙◌, arith}
use Rattle.std.specs.Prelude.{if◌then◌else◌, is_none}
use Rattle.std.proofs.lemmas.Bool.{and_parts, leb-true, or_parts}
use Rattle.std.proofs.lemmas.List.{length-append}
use Rattle.relay_model.specs.declared.act.Act.{Act}
use Rattle.relay_model.specs.declared.act.Act.TheVariants.{Method}
use Rattle.relay_model.specs.Objects.{is_at, next}
use Rattle.relay_model.specs.Focus.{where_alive}
use Rattle.relay_model.specs.Hold.{begins_hold, committed, ends, holder, kept}
use Rattle.relay_model.specs.Activation.{Activates, Updates, Deactivates, activates, begun, begun_by, begun_for, begun_of, deactivates, is_from, named, serving, updates}
use Rattle.relay_model.specs.Idle.{cleaned, history}
use Rattle.relay_model.proofs.ActsOrIdle.{length_history}
use Rattle.relay_model.proofs.ActivationLaws.{begun_beyond, begun_step}
use Rattle.law_acts.specs.Meant.{ActivationsKeepTheirField, BatchesAreMeant}

-- what a test lets through
through : (c : Bool) (x y : ℕ) → (if c then Some x else None) ≡ Some y → Some x ≡ Some y
through true x y e = e
through false x y e = cc

-- the act that began the activation, and the holder, before an act that leaves the activation

untold : (a u d : Bool) (n b : ℕ) (before : Option ℕ) → b < n →
    begun_by n (if a then Some Activates else (if u then Some Updates else (if d then Some Deactivates else None)))
    before
    ≡ Some b →
    (a ≡ false) × (before ≡ Some b)
untold true u d n b before l e = let same : n ≡ b = cc in absurd (omega arith)
untold false true d n b before l e = (refl, e)
untold false false true n b before l e = cc
untold false false false n b before l e = (refl, e)

held_kept : (act : Act) (older : List Act) (o : Option ℕ) (f : ℕ) → kept act older o ≡ Some f → o ≡ Some f
held_kept act older None f e = cc
held_kept act older (Some h) f e = through _ h f e

held_by : (b c : Bool) (act : Act) (older : List Act) (o : Option ℕ) (f : ℕ) → b ≡ false →
    (if b then committed act else (if c then None else kept act older o)) ≡ Some f → o ≡ Some f
held_by true c act older o f k e = cc
held_by false true act older o f k e = cc
held_by false false act older o f k e = held_kept act older o f e

-- who holds after an act that begins no hold held before it
held_before : (act : Act) (older : List Act) (f : ℕ) → activates act older ≡ false →
    holder (act ∷ older) ≡ Some f → holder older ≡ Some f
held_before act older f k e =
    held_by (begins_hold act older) (ends act older (holder older)) act older (holder older) f
    (or_parts (begins_hold act older) _ k).0 e

-- the method that serves, before an act that didn't make it

served_alive : (log : List Act) (o : Option ℕ) (m : ℕ) → where_alive log o ≡ Some m → o ≡ Some m
served_alive log None m e = cc
served_alive log (Some t) m e = through _ t m e

made_or_served : (older : List Act) (o : Option ℕ) (m b : ℕ) → begun_for older m ≡ Some b →
    (if is_none o then Some (next older) else o) ≡ Some m → o ≡ Some m
made_or_served older None m b k e =
    let new : length older + 1 ≡ m = cc in
    let none : begun_for older m ≡ None = begun_beyond older m (omega arith) in
    cc
made_or_served older (Some n) m b k e = e

served_before : (act : Act) (older : List Act) (m b : ℕ) → begun_for older m ≡ Some b →
    serving (act ∷ older) ≡ Some m → serving older ≡ Some m
served_before (Method p) older m b k e = made_or_served older (serving older) m b k e
served_before act older m b k e = served_alive (act ∷ older) (serving older) m e

begun_before : (act : Act) (older : List Act) (m b : ℕ) → serving (act ∷ older) ≡ Some m → b ≤ length older →
    begun_for (act ∷ older) m ≡ Some b → (activates act older ≡ false) × (begun_for older m ≡ Some b)
begun_before act older m b s l e =
    untold (activates act older) (updates act older) (deactivates act older) (length older + 1) b (begun_for older m)
    (omega arith) (sym (begun_step act older m s) ∙ e)

longer : (newer older : List Act) → length older ≤ length (history (newer ++ older))
longer newer older =
    let same : length (history (newer ++ older)) ≡ length (newer ++ older) = length_history (newer ++ older) in
    let sum : length (newer ++ older) ≡ length newer + length older = length-append newer older in
    omega arith

-- back to each moment since the activation began
keeps : (newer older : List Act) (m b f : ℕ) → serving (history (newer ++ older)) ≡ Some m →
    begun_for (history (newer ++ older)) m ≡ Some b → b ≤ length older →
    holder (history (newer ++ older)) ≡ Some f → holder (history older) ≡ Some f
keeps [] older m b f s e l h = h
keeps (act ∷ newer) older m b f s e l h =
    let log = history (newer ++ older) in
    let long : length older ≤ length log = longer newer older in
    let was = begun_before (cleaned act log) log m b s (omega arith) e in
    keeps newer older m b f (served_before (cleaned act log) log m b was.1 s) was.1 l
    (held_before (cleaned act log) log f was.0 h)

keeps_by : (newer older : List Act) (o : Option ℕ) (b f : ℕ) → serving (history (newer ++ older)) ≡ o →
    begun_of (history (newer ++ older)) o ≡ Some b → b ≤ length older →
    holder (history (newer ++ older)) ≡ Some f → holder (history older) ≡ Some f
keeps_by newer older None b f s e l h = cc
keeps_by newer older (Some m) b f s e l h = keeps newer older m b f s e l h

pub activations_keep_their_field : ActivationsKeepTheirField
activations_keep_their_field newer older b f e l h =
    keeps_by newer older (serving (history (newer ++ older))) b f refl e l h

-- a batch whose serial names a done of the activation

meant_by : (newer older : List Act) (o : Option ℕ) (f : ℕ) → begun (history (newer ++ older)) ≡ o →
    is_from o (Some (length older)) ≡ true → holder (history (newer ++ older)) ≡ Some f →
    holder (history older) ≡ Some f
meant_by newer older None f k e h = cc
meant_by newer older (Some b) f k e h =
    activations_keep_their_field newer older b f k (leb-true b (length older) e) h

pub batches_are_meant : BatchesAreMeant
batches_are_meant newer older m serial f e n h =
    let log = history (newer ++ older) in
    let from : is_from (begun log) (named log m serial) ≡ true =
    (and_parts (is_at (serving log) m) (is_from (begun log) (named log m serial)) e).1 in
    meant_by newer older (begun log) f refl (ap (is_from (begun log)) (sym n) ∙ from) h
