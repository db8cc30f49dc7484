-- How the serving method, its dones and the present activation move at one act.
use Rattle.std.proofs.Common.{◌≡◌, ℕ, ◌+◌, ◌<◌, ◌≤◌, List, [], ◌∷◌, ◌++◌, length, Bool, true, false, Option, Some, None, ap, refl, ◌∙◌, arith}
use Rattle.std.specs.Prelude.{if◌then◌else◌, is_some, is_none}
use Rattle.std.proofs.lemmas.Bool.{ne_eqb, eq-eqb}
use Rattle.relay_model.specs.declared.act.Act.{Act}
use Rattle.relay_model.specs.declared.act.Act.TheVariants.{Method}
use Rattle.relay_model.specs.Objects.{is_at, next, object, alive}
use Rattle.relay_model.specs.Focus.{where_alive}
use Rattle.relay_model.specs.Activation.{Notice, Activates, Updates, Deactivates, serving, notice, notice_to, dones, begun_by, begun_for}
use Rattle.relay_model.proofs.ObjectLaws.{object_step, object_new, alive_within}
use Rattle.relay_model.proofs.FocusLaws.{IsSteady, focus_left}

pub where_alive_there : (log : List Act) (o : Option ℕ) (m : ℕ) → where_alive log o ≡ Some m → alive log m ≡ true
where_alive_there log None m e = cc
where_alive_there log (Some t) m e = at (alive log t) log t m refl e
  where
    at : (b : Bool) (log : List Act) (t m : ℕ) → alive log t ≡ b → (if b then Some t else None) ≡ Some m →
        alive log m ≡ true
    at true log t m k e = let d : t ≡ m = cc in rw (← d) k
    at false log t m k e = cc

serving_made : (p : ℕ) (older : List Act) (o : Option ℕ) (m : ℕ) → serving older ≡ o →
    (serving older ≡ Some m → alive older m ≡ true) →
    (if is_none o then Some (next older) else o) ≡ Some m → alive (Method p ∷ older) m ≡ true
serving_made p older None m d k e =
    let q : length older + 1 ≡ m = cc in rw (← q) (ap is_some (object_new (Method p) older))
serving_made p older (Some n) m d k e =
    let there : alive older m ≡ true = k (d ∙ e) in
    ap is_some (object_step (Method p) older m (alive_within older m there)) ∙ there

-- the method that serves is alive
pub serving_alive : (log : List Act) (m : ℕ) → serving log ≡ Some m → alive log m ≡ true
serving_alive [] m e = cc
serving_alive (Method p ∷ older) m e = serving_made p older (serving older) m refl (serving_alive older m) e
serving_alive (act ∷ older) m e = where_alive_there (act ∷ older) (serving older) m e

pub serving_within : (log : List Act) (m : ℕ) → serving log ≡ Some m → m ≤ length log
serving_within log m e = alive_within log m (serving_alive log m e)

serving_beyond_by : (log : List Act) (o : Option ℕ) (m : ℕ) → serving log ≡ o → length log < m → is_at o m ≡ false
serving_beyond_by log None m e h = refl
serving_beyond_by log (Some n) m e h = ne_eqb n m (λ d. let w : n ≤ length log = serving_within log n e in omega arith)

serving_beyond : (log : List Act) (m : ℕ) → length log < m → is_at (serving log) m ≡ false
serving_beyond log m h = serving_beyond_by log (serving log) m refl h

serving_step_by : (act : Act) (log : List Act) (o : Option ℕ) → serving log ≡ o →
    where_alive (act ∷ log) o ≡ focus_left act log o
serving_step_by act log None e = refl
serving_step_by act log (Some m) e = rw (object_step act log m (serving_within log m e)) refl

-- an act that makes no method leaves the seat to a method that remains
pub serving_step : (act : Act) (log : List Act) → serving (act ∷ log) ≡ where_alive (act ∷ log) (serving log) →
    serving (act ∷ log) ≡ focus_left act log (serving log)
serving_step act log e = e ∙ serving_step_by act log (serving log) refl

serving_left : (act : Act) (log : List Act) (o : Option ℕ) → IsSteady act → serving log ≡ o → focus_left act log o ≡ o
serving_left act log None k e = refl
serving_left act log (Some m) k e =
    let there : is_some (object log m) ≡ true = serving_alive log m e in
    rw (k.keeps m (object log m), there) refl

pub serving_same : (act : Act) (log : List Act) → serving (act ∷ log) ≡ where_alive (act ∷ log) (serving log) →
    IsSteady act →
    serving (act ∷ log) ≡ serving log
serving_same act log e k = serving_step act log e ∙ serving_left act log (serving log) k refl

-- the dones after what the act says of the hold
abbrev pub dones_by : Option Notice → ℕ → List ℕ → List ℕ
dones_by None n ds = ds
dones_by (Some said) n ds = ds ++ n ∷ []

dones_if : (o : Option Notice) (n : ℕ) (ds : List ℕ) → (if is_some o then ds ++ n ∷ [] else ds) ≡ dones_by o n ds
dones_if None n ds = refl
dones_if (Some said) n ds = refl

notice_served : (act : Act) (log : List Act) (m : ℕ) → serving (act ∷ log) ≡ Some m →
    notice_to m act log ≡ notice act log
notice_served act log m e = rw (e, eq-eqb m m refl) refl

pub dones_step : (act : Act) (log : List Act) (m : ℕ) → serving (act ∷ log) ≡ Some m →
    dones (act ∷ log) m ≡ dones_by (notice act log) (length log + 1) (dones log m)
dones_step act log m e = rw (notice_served act log m e) (dones_if (notice act log) (length log + 1) (dones log m))

pub begun_step : (act : Act) (log : List Act) (m : ℕ) → serving (act ∷ log) ≡ Some m →
    begun_for (act ∷ log) m ≡ begun_by (length log + 1) (notice act log) (begun_for log m)
begun_step act log m e = rw (notice_served act log m e) refl

unnoticed : (act : Act) (log : List Act) (m : ℕ) → length log + 1 < m → notice_to m act log ≡ None
unnoticed act log m h = rw (serving_beyond (act ∷ log) m (omega arith)) refl

-- a method that isn't made yet was told nothing
pub dones_beyond : (log : List Act) (m : ℕ) → length log < m → dones log m ≡ []
dones_beyond [] m h = refl
dones_beyond (act ∷ older) m h = rw (unnoticed act older m (omega arith)) (dones_beyond older m (omega arith))

pub begun_beyond : (log : List Act) (m : ℕ) → length log < m → begun_for log m ≡ None
begun_beyond [] m h = refl
begun_beyond (act ∷ older) m h = rw (unnoticed act older m (omega arith)) (begun_beyond older m (omega arith))

-- all of the list
abbrev pub Each : (ℕ → Type 0) → List ℕ → Type 0
Each P [] = Unit {0}
Each P (x ∷ xs) = P x × Each P xs

pub each_append : (P : ℕ → Type 0) (xs : List ℕ) (y : ℕ) → Each P xs → P y → Each P (xs ++ y ∷ [])
each_append P [] y h k = (k, tt)
each_append P (x ∷ xs) y h k = (h.0, each_append P xs y h.1 k)

pub each_map : (P Q : ℕ → Type 0) (xs : List ℕ) → Each P xs → ((x : ℕ) → P x → Q x) → Each Q xs
each_map P Q [] h k = tt
each_map P Q (x ∷ xs) h k = (k x h.0, each_map P Q xs h.1 k)

under_more : (n : ℕ) (xs : List ℕ) → Each (λ x. x ≤ n) xs → Each (λ x. x ≤ n + 1) xs
under_more n xs h = each_map (λ x. x ≤ n) (λ x. x ≤ n + 1) xs h (λ x k. omega arith)

dones_under_by : (o : Option Notice) (n : ℕ) (ds : List ℕ) → Each (λ x. x ≤ n) ds →
    Each (λ x. x ≤ n + 1) (if is_some o then ds ++ (n + 1) ∷ [] else ds)
dones_under_by None n ds h = under_more n ds h
dones_under_by (Some said) n ds h = each_append (λ x. x ≤ n + 1) ds (n + 1) (under_more n ds h) (omega arith)

-- dones are acts of the list
pub dones_under : (log : List Act) (m : ℕ) → Each (λ x. x ≤ length log) (dones log m)
dones_under [] m = tt
dones_under (act ∷ older) m =
    each_map (λ x. x ≤ length older + 1) (λ x. x ≤ length (act ∷ older)) (dones (act ∷ older) m)
    (dones_under_by (notice_to m act older) (length older) (dones older m) (dones_under older m)) (λ x k. omega arith)

begun_within_by : (o : Option Notice) (n : ℕ) (before : Option ℕ) (b : ℕ) → (before ≡ Some b → b ≤ n) →
    begun_by (n + 1) o before ≡ Some b → b ≤ n + 1
begun_within_by None n before b h e = let k : b ≤ n = h e in omega arith
begun_within_by (Some Activates) n before b h e = let k : n + 1 ≡ b = cc in omega arith
begun_within_by (Some Updates) n before b h e = let k : b ≤ n = h e in omega arith
begun_within_by (Some Deactivates) n before b h e = cc

pub begun_within : (log : List Act) (m b : ℕ) → begun_for log m ≡ Some b → b ≤ length log
begun_within [] m b e = cc
begun_within (act ∷ older) m b e =
    let k : b ≤ length older + 1 =
    begun_within_by (notice_to m act older) (length older) (begun_for older m) b (begun_within older m b) e in
    omega arith

length_push : (xs : List ℕ) (x : ℕ) → length (xs ++ x ∷ []) ≡ length xs + 1
length_push [] x = refl
length_push (y ∷ ys) x = let k : length (ys ++ x ∷ []) ≡ length ys + 1 = length_push ys x in omega arith

dones_few_by : (o : Option Notice) (n k : ℕ) (ds : List ℕ) → length ds ≤ k →
    length (if is_some o then ds ++ n ∷ [] else ds) ≤ k + 1
dones_few_by None n k ds h = omega arith
dones_few_by (Some said) n k ds h = let e : length (ds ++ n ∷ []) ≡ length ds + 1 = length_push ds n in omega arith

pub dones_few : (log : List Act) (m : ℕ) → length (dones log m) ≤ length log
dones_few [] m = omega arith
dones_few (act ∷ older) m =
    let k : length (dones (act ∷ older) m) ≤ length older + 1 =
    dones_few_by (notice_to m act older) (length older + 1) (length older) (dones older m) (dones_few older m) in
    omega arith
