-- How the grab that stands moves at one act.
use Rattle.std.proofs.Common.{◌≡◌, ℕ, ◌+◌, ◌≤◌, List, [], ◌∷◌, length, Bool, true, false, Option, Some, None, ap, refl, sym, ◌∙◌, arith, ◌⊎◌, inl, inr}
use Rattle.std.specs.Prelude.{◌==◌, ◌&&◌, ◌||◌, if◌then◌else◌, is_some, is_none}
use Rattle.std.proofs.lemmas.Bool.{ne_eqb, eq-eqb, eqb-true, eqb-false, true≢false}
use Rattle.relay_model.specs.declared.act.Act.{Act}
use Rattle.relay_model.specs.declared.act.EndCause.{EndCause}
use Rattle.relay_model.specs.declared.act.Act.TheVariants as acts
use Rattle.relay_model.specs.Objects.{Object, GrabKind, is_at, is_same, next, owner, method_in, made_for, remains, object, alive, peer_of, method_of}
use Rattle.relay_model.specs.Focus.{where_alive, peer_at}
use Rattle.relay_model.specs.Activation.{serving}
use Rattle.relay_model.specs.Keys.{stands_on, standing}
use Rattle.relay_model.proofs.ObjectLaws.{if_same, object_step, object_new, alive_within}
use Rattle.relay_model.proofs.ActivationLaws.{serving_alive, serving_within}

-- an act that takes no object
abbrev pub KeepsAll : Act → Type 0
KeepsAll act = (x : ℕ) (o : Option Object) → remains act x o ≡ o

kept_object : (act : Act) (log : List Act) (x : ℕ) → KeepsAll act → x ≤ length log → object (act ∷ log) x ≡ object log x
kept_object act log x k w = object_step act log x w ∙ k x (object log x)

serving_kept_by : (act : Act) (log : List Act) (o : Option ℕ) → KeepsAll act → serving log ≡ o →
    where_alive (act ∷ log) o ≡ o
serving_kept_by act log None k e = refl
serving_kept_by act log (Some m) k e =
    let there : is_some (object log m) ≡ true = serving_alive log m e in
    rw (kept_object act log m k (serving_within log m e), there) refl

-- an act that takes no object and makes no method leaves the serving method
pub serving_kept : (act : Act) (log : List Act) → serving (act ∷ log) ≡ where_alive (act ∷ log) (serving log) →
    KeepsAll act →
    serving (act ∷ log) ≡ serving log
serving_kept act log e k = e ∙ serving_kept_by act log (serving log) k refl

-- the grab that stands

made_method : (m : ℕ) (o : Option Object) → is_some o ≡ true → method_in (made_for (GrabKind m) (owner o)) ≡ Some m
made_method m None h = cc
made_method m (Some object) h = refl

grab_new : (m : ℕ) (log : List Act) → alive log m ≡ true → method_of (acts.Grab m ∷ log) (length log + 1) ≡ Some m
grab_new m log h = ap method_in (object_new (acts.Grab m) log) ∙ made_method m (object log m) h

method_there : (o : Option Object) (s : Option ℕ) → is_same (method_in o) s ≡ true → is_some o ≡ true
method_there None s h = cc
method_there (Some object) s h = refl

grab_keeps : (m : ℕ) → KeepsAll (acts.Grab m)
grab_keeps m x o = refl

grab_serving : (m : ℕ) (log : List Act) → serving (acts.Grab m ∷ log) ≡ serving log
grab_serving m log = serving_kept (acts.Grab m) log refl (grab_keeps m)

stands_there : (log : List Act) (o : Option ℕ) (g : ℕ) → stands_on log o ≡ Some g →
    is_same (method_of log g) (serving log) ≡ true
stands_there log None g e = cc
stands_there log (Some h) g e = at (is_same (method_of log h) (serving log)) h g refl e
  where
    at : (b : Bool) (h g : ℕ) → is_same (method_of log h) (serving log) ≡ b → (if b then Some h else None) ≡ Some g →
        is_same (method_of log g) (serving log) ≡ true
    at true h g k e = let d : h ≡ g = cc in rw (← d) k
    at false h g k e = cc

grab_served : (m : ℕ) (older : List Act) (g : ℕ) (o s : Option ℕ) → serving older ≡ s → standing older ≡ o →
    (standing older ≡ Some g → is_same (method_of older g) (serving older) ≡ true) →
    (if is_none o && is_at s m then Some (next older) else o) ≡ Some g →
    is_same (method_of (acts.Grab m ∷ older) g) (serving (acts.Grab m ∷ older)) ≡ true
grab_served m older g None None a d k e = cc
grab_served m older g None (Some n) a d k e = at (n == m) refl e
  where
    at : (b : Bool) → (n == m) ≡ b → (if b then Some (next older) else None) ≡ Some g →
        is_same (method_of (acts.Grab m ∷ older) g) (serving (acts.Grab m ∷ older)) ≡ true
    at true q e =
        let new : length older + 1 ≡ g = cc in
        let there : alive older m ≡ true = serving_alive older m (a ∙ ap Some (eqb-true n m q)) in
        let mine : method_of (acts.Grab m ∷ older) g ≡ Some m = rw (← new) (grab_new m older there) in
        rw (mine, grab_serving m older, a) q
    at false q e = cc
grab_served m older g (Some h) s a d k e =
    let old : is_same (method_of older g) (serving older) ≡ true = k (d ∙ e) in
    let w : g ≤ length older = alive_within older g (method_there (object older g) (serving older) old) in
    rw (kept_object (acts.Grab m) older g (grab_keeps m) w, grab_serving m older) old

-- the method of the grab that stands serves
pub standing_served : (log : List Act) (g : ℕ) → standing log ≡ Some g → is_same (method_of log g) (serving log) ≡ true
standing_served [] g e = cc
standing_served (acts.Grab m ∷ older) g e =
    grab_served m older g (standing older) (serving older) refl refl (standing_served older g) e
standing_served (act ∷ older) g e = stands_there (act ∷ older) (standing older) g e

-- the grab that stands is alive
pub standing_alive : (log : List Act) (g : ℕ) → standing log ≡ Some g → alive log g ≡ true
standing_alive log g e = method_there (object log g) (serving log) (standing_served log g e)

pub standing_within : (log : List Act) (g : ℕ) → standing log ≡ Some g → g ≤ length log
standing_within log g e = alive_within log g (standing_alive log g e)

stands_same : (act : Act) (log : List Act) (g : ℕ) → KeepsAll act → serving (act ∷ log) ≡ serving log →
    standing log ≡ Some g →
    stands_on (act ∷ log) (Some g) ≡ Some g
stands_same act log g k s e =
    let there : is_same (method_of log g) (serving log) ≡ true = standing_served log g e in
    rw (kept_object act log g k (standing_within log g e), s, there) refl

standing_kept_by : (act : Act) (log : List Act) (o : Option ℕ) → KeepsAll act → serving (act ∷ log) ≡ serving log →
    standing log ≡ o →
    stands_on (act ∷ log) o ≡ o
standing_kept_by act log None k s e = refl
standing_kept_by act log (Some g) k s e = stands_same act log g k s e

-- an act that takes no object and leaves the serving method leaves the grab that stands
pub standing_kept : (act : Act) (log : List Act) → standing (act ∷ log) ≡ stands_on (act ∷ log) (standing log) →
    KeepsAll act →
    serving (act ∷ log) ≡ serving log → standing (act ∷ log) ≡ standing log
standing_kept act log e k s = e ∙ standing_kept_by act log (standing log) k s refl

-- so one that makes no method either, and takes no object
pub standing_steady : (act : Act) (log : List Act) → standing (act ∷ log) ≡ stands_on (act ∷ log) (standing log) →
    serving (act ∷ log) ≡ where_alive (act ∷ log) (serving log) → KeepsAll act → standing (act ∷ log) ≡ standing log
standing_steady act log e s k = standing_kept act log e k (serving_kept act log s k)

same_none : (o : Option ℕ) → is_same o None ≡ false
same_none None = refl
same_none (Some x) = refl

served_by : (x s : Option ℕ) → is_same x s ≡ true → is_none s ≡ false
served_by None s h = cc
served_by (Some y) None h = cc
served_by (Some y) (Some z) h = refl

standing_method_by : (p : ℕ) (log : List Act) (o : Option ℕ) → standing log ≡ o → stands_on (acts.Method p ∷ log) o ≡ o
standing_method_by p log None e = refl
standing_method_by p log (Some g) e =
    let served : is_none (serving log) ≡ false = served_by (method_of log g) (serving log) (standing_served log g e) in
    stands_same (acts.Method p) log g (λ x o. refl) (rw served refl) e

-- so does a new method
pub standing_method : (p : ℕ) (log : List Act) → standing (acts.Method p ∷ log) ≡ standing log
standing_method p log = standing_method_by p log (standing log) refl

-- a new grab stands where none stood and its method serves
pub standing_made : (m : ℕ) (log : List Act) → standing log ≡ None → serving log ≡ Some m →
    standing (acts.Grab m ∷ log) ≡ Some (length log + 1)
standing_made m log e s = rw (e, s, eq-eqb m m refl) refl

-- beside the grab that stands it doesn't
pub standing_beside : (m : ℕ) (log : List Act) (g : ℕ) → standing log ≡ Some g → standing (acts.Grab m ∷ log) ≡ Some g
standing_beside m log g e = rw e refl

-- nor where its method doesn't serve
pub standing_unserved : (m : ℕ) (log : List Act) → is_at (serving log) m ≡ false →
    standing (acts.Grab m ∷ log) ≡ standing log
standing_unserved m log h = by (standing log) refl
  where
    by : (o : Option ℕ) → standing log ≡ o →
        (if is_none o && is_at (serving log) m then Some (length log + 1) else o) ≡ o
    by None e = rw h refl
    by (Some g) e = refl

turned_round : (a b : ℕ) → (a == b) ≡ (b == a)
turned_round a b = at (b == a) refl
  where
    at : (same : Bool) → (b == a) ≡ same → (a == b) ≡ same
    at true e = eq-eqb a b (sym (eqb-true b a e))
    at false e = ne_eqb a b (λ f. eqb-false b a e (sym f))

if_lost : (b : Bool) (g : ℕ) → b ≡ false → (if b then Some g else None) ≡ None
if_lost true g e = cc
if_lost false g e = refl

dropped_by : (x g m : ℕ) (there grab : Option Object) → is_some there ≡ true →
    is_same (method_in grab) (Some m) ≡ true →
    (c d : Bool) → (x == g) ≡ c → (x == m) ≡ d →
    (if is_same (method_in (if c then None else grab)) (if is_some (if d then None else there) then Some m else None)
    then Some g else None)
    ≡ (if c || d then None else Some g)
dropped_by x g m there grab a s true true q r = refl
dropped_by x g m there grab a s true false q r = refl
dropped_by x g m there grab a s false true q r = if_lost _ g (same_none (method_in grab))
dropped_by x g m there grab a s false false q r = rw (a, s) refl

standing_dropped_by : (x : ℕ) (log : List Act) (o s : Option ℕ) → standing log ≡ o → serving log ≡ s →
    stands_on (acts.Drop x ∷ log) o ≡ (if is_at o x || is_at s x then None else o)
standing_dropped_by x log None s e f = sym (if_same (is_at s x) None)
standing_dropped_by x log (Some g) None e f =
    let served : is_none (serving log) ≡ false = served_by (method_of log g) (serving log) (standing_served log g e) in
    absurd (true≢false (rw f at served))
standing_dropped_by x log (Some g) (Some m) e f =
    let served : is_same (method_of log g) (serving log) ≡ true = standing_served log g e in
    rw (
      object_step (acts.Drop x) log g (standing_within log g e),
      f,
      object_step (acts.Drop x) log m (serving_within log m f),
      turned_round g x,
      turned_round m x,
    )
    (dropped_by x g m (object log m) (object log g) (serving_alive log m f) (rw f at served) (x == g)
    (x == m) refl refl)

-- the grab that stands falls when it is dropped, or the method that serves
pub standing_dropped : (x : ℕ) (log : List Act) →
    standing (acts.Drop x ∷ log) ≡ (if is_at (standing log) x || is_at (serving log) x then None else standing log)
standing_dropped x log = standing_dropped_by x log (standing log) (serving log) refl refl

-- the grab that stands is of the peer of the method that serves

remains_owner : (act : Act) (x : ℕ) (o : Option Object) → is_some (remains act x o) ≡ true → remains act x o ≡ o
remains_owner (acts.Drop y) x o h = at (y == x) h
  where
    at : (b : Bool) → is_some (if b then None else o) ≡ true → (if b then None else o) ≡ o
    at true h = cc
    at false h = refl
remains_owner (acts.Gone p cause) x o h = at (is_at (owner o) p) h
  where
    at : (b : Bool) → is_some (if b then None else o) ≡ true → (if b then None else o) ≡ o
    at true h = cc
    at false h = refl
remains_owner act x o h = refl

-- an object that is alive after an act, and was made before it
object_stayed : (act : Act) (log : List Act) (x : ℕ) → x ≤ length log → alive (act ∷ log) x ≡ true →
    object (act ∷ log) x ≡ object log x
object_stayed act log x w h =
    let step : object (act ∷ log) x ≡ remains act x (object log x) = object_step act log x w in
    step ∙ remains_owner act x (object log x) (rw (← step) h)

made_owner : (m : ℕ) (o : Option ℕ) → owner (made_for (GrabKind m) o) ≡ o
made_owner m None = refl
made_owner m (Some p) = refl

peers_stayed : (act : Act) (log : List Act) (g m : ℕ) → standing (act ∷ log) ≡ Some g → serving (act ∷ log) ≡ Some m →
    standing log ≡ Some g → serving log ≡ Some m →
    peer_of log g ≡ peer_of log m → peer_of (act ∷ log) g ≡ peer_of (act ∷ log) m
peers_stayed act log g m e f d c same =
    rw (
      object_stayed act log g (standing_within log g d) (standing_alive (act ∷ log) g e),
      object_stayed act log m (serving_within log m c) (serving_alive (act ∷ log) m f),
    ) same

stands_left : (log : List Act) (o : Option ℕ) (g : ℕ) → stands_on log o ≡ Some g → o ≡ Some g
stands_left log None g e = cc
stands_left log (Some h) g e = at (is_same (method_of log h) (serving log)) e
  where
    at : (b : Bool) → (if b then Some h else None) ≡ Some g → Some h ≡ Some g
    at true e = e
    at false e = cc

alive_left : (log : List Act) (o : Option ℕ) (m : ℕ) → where_alive log o ≡ Some m → o ≡ Some m
alive_left log None m e = cc
alive_left log (Some n) m e = at (alive log n) e
  where
    at : (b : Bool) → (if b then Some n else None) ≡ Some m → Some n ≡ Some m
    at true e = e
    at false e = cc

beside_left : (s : Option ℕ) (n m : ℕ) → is_none s ≡ false → (if is_none s then Some n else s) ≡ Some m → s ≡ Some m
beside_left None n m h e = cc
beside_left (Some k) n m h e = e

grab_left : (o s : Option ℕ) (n m g : ℕ) → (if is_none o && is_at s m then Some n else o) ≡ Some g →
    (o ≡ Some g) ⊎ ((n ≡ g) × (s ≡ Some m))
grab_left None None n m g e = cc
grab_left None (Some k) n m g e = at (k == m) refl e
  where
    at : (b : Bool) → (k == m) ≡ b → (if b then Some n else None) ≡ Some g →
        (◌≡◌ {A = Option ℕ} None (Some g)) ⊎ ((n ≡ g) × (Some k ≡ Some m))
    at true q e = inr (cc, ap Some (eqb-true k m q))
    at false q e = cc
grab_left (Some h) s n m g e = inl e

grab_peers : (k : ℕ) (older : List Act) (g m : ℕ) →
    (standing older ≡ Some g → serving older ≡ Some m → peer_of older g ≡ peer_of older m) →
    standing (acts.Grab k ∷ older) ≡ Some g → serving (acts.Grab k ∷ older) ≡ Some m →
    (standing older ≡ Some g) ⊎ ((length older + 1 ≡ g) × (serving older ≡ Some k)) →
    peer_of (acts.Grab k ∷ older) g ≡ peer_of (acts.Grab k ∷ older) m
grab_peers k older g m same e f (inl d) =
    let c : serving older ≡ Some m = alive_left (acts.Grab k ∷ older) (serving older) m f in
    peers_stayed (acts.Grab k) older g m e f d c (same d c)
grab_peers k older g m same e f (inr d) =
    let c : serving older ≡ Some m = alive_left (acts.Grab k ∷ older) (serving older) m f in
    let q : k ≡ m = cc in
    let new : peer_of (acts.Grab k ∷ older) (length older + 1) ≡ owner (object older k) =
    ap owner (object_new (acts.Grab k) older) ∙ made_owner k (owner (object older k)) in
    let old : object (acts.Grab k ∷ older) m ≡ object older m =
    kept_object (acts.Grab k) older m (grab_keeps k) (serving_within older m c) in
    ap (peer_of (acts.Grab k ∷ older)) (sym d.0) ∙ new ∙ ap (peer_of older) q ∙ sym (ap owner old)

pub standing_peer : (log : List Act) (g m : ℕ) → standing log ≡ Some g → serving log ≡ Some m →
    peer_of log g ≡ peer_of log m
standing_peer [] g m e f = cc
standing_peer (acts.Grab k ∷ older) g m e f =
    grab_peers k older g m (standing_peer older g m) e f
    (grab_left (standing older) (serving older) (length older + 1) k g e)
standing_peer (acts.Method p ∷ older) g m e f =
    let d : standing older ≡ Some g = sym (standing_method p older) ∙ e in
    let served : is_none (serving older) ≡ false =
    served_by (method_of older g) (serving older) (standing_served older g d) in
    let c : serving older ≡ Some m = beside_left (serving older) (length older + 1) m served f in
    peers_stayed (acts.Method p) older g m e f d c (standing_peer older g m d c)
standing_peer (act ∷ older) g m e f =
    let d : standing older ≡ Some g = stands_left (act ∷ older) (standing older) g e in
    let c : serving older ≡ Some m = alive_left (act ∷ older) (serving older) m f in
    peers_stayed act older g m e f d c (standing_peer older g m d c)

gone_by : (p g m : ℕ) (there grab : Option Object) → is_some there ≡ true → is_same (method_in grab) (Some m) ≡ true →
    (c : Bool) →
    (if is_same (method_in (if c then None else grab)) (if is_some (if c then None else there) then Some m else None)
    then Some g else None)
    ≡ (if c then None else Some g)
gone_by p g m there grab a s true = refl
gone_by p g m there grab a s false = rw (a, s) refl

standing_gone_by : (p : ℕ) (cause : EndCause) (log : List Act) (o s : Option ℕ) → standing log ≡ o → serving log ≡ s →
    stands_on (acts.Gone p cause ∷ log) o ≡ (if is_at (peer_at log o) p then None else o)
standing_gone_by p cause log None s e f = refl
standing_gone_by p cause log (Some g) None e f =
    let served : is_none (serving log) ≡ false = served_by (method_of log g) (serving log) (standing_served log g e) in
    absurd (true≢false (rw f at served))
standing_gone_by p cause log (Some g) (Some m) e f =
    let served : is_same (method_of log g) (serving log) ≡ true = standing_served log g e in
    let peers : peer_of log g ≡ peer_of log m = standing_peer log g m e f in
    rw (
      object_step (acts.Gone p cause) log g (standing_within log g e),
      f,
      object_step (acts.Gone p cause) log m (serving_within log m f),
      ← peers,
    )
    (gone_by p g m (object log m) (object log g) (serving_alive log m f) (rw f at served) (is_at (peer_of log g) p))

-- and when its peer ends
pub standing_gone : (p : ℕ) (cause : EndCause) (log : List Act) →
    standing (acts.Gone p cause ∷ log) ≡ (if is_at (peer_at log (standing log)) p then None else standing log)
standing_gone p cause log = standing_gone_by p cause log (standing log) (serving log) refl refl

peers_by : (log : List Act) (o s : Option ℕ) → standing log ≡ o → serving log ≡ s → is_some o ≡ true →
    peer_at log o ≡ peer_at log s
peers_by log None s e f h = cc
peers_by log (Some g) None e f h =
    let served : is_none (serving log) ≡ false = served_by (method_of log g) (serving log) (standing_served log g e) in
    absurd (true≢false (rw f at served))
peers_by log (Some g) (Some m) e f h = standing_peer log g m e f

-- the peer of the grab that stands is that of the method that serves
pub standing_peers : (log : List Act) → is_some (standing log) ≡ true →
    peer_at log (standing log) ≡ peer_at log (serving log)
standing_peers log h = peers_by log (standing log) (serving log) refl refl h

-- a grab that stands when it is made is of the serving method, and none stood before
pub standing_new : (m : ℕ) (log : List Act) → is_at (standing (acts.Grab m ∷ log)) (length log + 1) ≡ true →
    (standing log ≡ None) × (serving log ≡ Some m)
standing_new m log h = at (standing log) (serving log) refl h
  where
    at : (o s : Option ℕ) → standing log ≡ o →
        is_at (if is_none o && is_at s m then Some (length log + 1) else o) (length log + 1) ≡ true →
        (o ≡ None) × (s ≡ Some m)
    at None None e h = cc
    at None (Some k) e h = taken (k == m) refl h
      where
        taken : (b : Bool) → (k == m) ≡ b → is_at (if b then Some (length log + 1) else None) (length log + 1) ≡ true →
            (◌≡◌ {A = Option ℕ} None None) × (Some k ≡ Some m)
        taken true q h = (refl, ap Some (eqb-true k m q))
        taken false q h = cc
    at (Some g) s e h =
        let w : g ≤ length log = standing_within log g e in
        absurd (true≢false (sym h ∙ ne_eqb g (length log + 1) (λ q. omega arith)))
