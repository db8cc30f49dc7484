-- Objects of a history belong to live peers.
use Rattle.std.proofs.Common.{◌≡◌, ℕ, ◌+◌, ◌≤◌, List, [], ◌∷◌, length, Bool, true, false, Option, Some, None, ap, refl, sym, ◌∙◌, subst, arith}
use Rattle.std.specs.Prelude.{◌==◌, ◌&&◌, not, if◌then◌else◌}
use Rattle.std.proofs.lemmas.Bool.{ne_eqb, eqb-true, true≢false}
use Rattle.std.proofs.lemmas.Option.{same_Some}
use Rattle.relay_model.specs.declared.act.Act.{Act}
use Rattle.relay_model.specs.declared.act.Act.TheVariants as acts
use Rattle.relay_model.specs.Objects.{Kind, PeerKind, SurfaceKind, FieldKind, MethodKind, ThingKind, BoardKind, PopupKind, GrabKind, Object, is_at, is_peer_kind, is_field_kind, is_kind, owner, made_for, made, maker, remains, object, alive, peer_of, is_peer}
use Rattle.relay_model.specs.Hold.{holder}
use Rattle.relay_model.proofs.ActsOrIdle.{IsHistory, live}
use Rattle.relay_model.proofs.ObjectLaws.{remains_none, object_step, object_new, kind_within}
use Rattle.relay_model.proofs.FocusLaws.{entered_field}
use Rattle.relay_model.proofs.HoldLaws.{holder_entered, out_holds_not}
use Rattle.broker_model.specs.Law.{field_peer, maker_of}

abbrev pub object_of : Kind → ℕ → Object
object_of kind p = record { kind = kind; peer = p }

-- an object of a kind that is there
pub record IsThere (test : Kind → Bool) (o : Option Object) : Type 0 where
  pub found : Object
  pub is : o ≡ Some found
  pub passes : test found.kind ≡ true

pub there : (test : Kind → Bool) (o : Option Object) → is_kind test o ≡ true → IsThere test o
there test None h = cc
there test (Some found) h = record { found = found; is = refl; passes = h }

-- a live object belongs to a live peer, and a peer to itself
pub record IsOwned (log : List Act) (x : ℕ) (o : Object) : Type 0 where
  pub lives : is_peer log o.peer ≡ true
  pub own : is_peer_kind o.kind ≡ true → o.peer ≡ x

-- a peer that was alive, and that the act doesn't take
stays : (act : Act) (log : List Act) (p : ℕ) → is_peer log p ≡ true → remains act p (object log p) ≡ object log p →
    is_peer (act ∷ log) p ≡ true
stays act log p h k =
    let w : p ≤ length log = kind_within is_peer_kind log p h in
    rw (object_step act log p w, k) h

owned_of : (log : List Act) (x p : ℕ) (kind : Kind) (o : Object) → is_peer_kind kind ≡ false → is_peer log p ≡ true →
    Some (object_of kind p) ≡ Some o → IsOwned log x o
owned_of log x p kind o k h e =
    let d : object_of kind p ≡ o = cc in
    subst (λ (u : Object). IsOwned log x u) d (record { lives = h; own = λ t. absurd (true≢false (sym t ∙ k)) })

owned_peer : (older : List Act) (o : Object) → Some (object_of PeerKind (length older + 1)) ≡ Some o →
    IsOwned (acts.Peer ∷ older) (length older + 1) o
owned_peer older o e =
    let d : object_of PeerKind (length older + 1) ≡ o = cc in
    subst (λ (u : Object). IsOwned (acts.Peer ∷ older) (length older + 1) u) d
    (record { lives = rw (object_new acts.Peer older) refl; own = λ t. refl })

owned_for : (act : Act) (older : List Act) (m : ℕ) (kind : Kind) (made_by : Option Object) (o : Object) →
    is_peer_kind kind ≡ false →
    object older m ≡ made_by → ((u : Object) → object older m ≡ Some u → IsOwned older m u) →
    ((x : ℕ) → remains act x (object older x) ≡ object older x) → made_for kind (owner made_by) ≡ Some o →
    IsOwned (act ∷ older) (length older + 1) o
owned_for act older m kind None o k q f s e = cc
owned_for act older m kind (Some u) o k q f s e =
    owned_of (act ∷ older) (length older + 1) u.peer kind o k (stays act older u.peer (f u q).lives (s u.peer)) e

owned_new : (act : Act) (older : List Act) (o : Object) → IsHistory (act ∷ older) →
    ((x : ℕ) (u : Object) → object older x ≡ Some u → IsOwned older x u) →
    made act (length older + 1) (owner (object older (maker act))) ≡ Some o → IsOwned (act ∷ older) (length older + 1) o
owned_new acts.Peer older o h f e = owned_peer older o e
owned_new (acts.Surface p) older o h f e =
    owned_of (acts.Surface p ∷ older) _ p SurfaceKind o refl
    (stays (acts.Surface p) older p (live (acts.Surface p) older h.0 (λ d. cc)) refl) e
owned_new (acts.Field p) older o h f e =
    owned_of (acts.Field p ∷ older) _ p FieldKind o refl
    (stays (acts.Field p) older p (live (acts.Field p) older h.0 (λ d. cc)) refl) e
owned_new (acts.Method p) older o h f e =
    owned_of (acts.Method p ∷ older) _ p MethodKind o refl
    (stays (acts.Method p) older p (live (acts.Method p) older h.0 (λ d. cc)) refl) e
owned_new (acts.Registry p role) older o h f e =
    owned_of (acts.Registry p role ∷ older) _ p ThingKind o refl
    (stays (acts.Registry p role) older p (live (acts.Registry p role) older h.0 (λ d. cc)) refl) e
owned_new (acts.Seat p) older o h f e =
    owned_of (acts.Seat p ∷ older) _ p ThingKind o refl
    (stays (acts.Seat p) older p (live (acts.Seat p) older h.0 (λ d. cc)) refl) e
owned_new (acts.Thing p) older o h f e =
    owned_of (acts.Thing p ∷ older) _ p ThingKind o refl
    (stays (acts.Thing p) older p (live (acts.Thing p) older h.0 (λ d. cc)) refl) e
owned_new (acts.VBoard p) older o h f e =
    owned_of (acts.VBoard p ∷ older) _ p BoardKind o refl
    (stays (acts.VBoard p) older p (live (acts.VBoard p) older h.0 (λ d. cc)) refl) e
owned_new (acts.Popup m s) older o h f e =
    owned_for (acts.Popup m s) older m (PopupKind m s) (object older m) o refl refl (f m) (λ x. refl) e
owned_new (acts.Grab m) older o h f e =
    owned_for (acts.Grab m) older m (GrabKind m) (object older m) o refl refl (f m) (λ x. refl) e
owned_new _ older o h f e = cc

-- what remains was there
unless_some : {A : Type 0} (b : Bool) (u : Option A) (o : A) → (if b then None else u) ≡ Some o →
    (b ≡ false) × (u ≡ Some o)
unless_some true u o e = cc
unless_some false u o e = (refl, e)

pub remains_some : (act : Act) (x : ℕ) (u : Option Object) (o : Object) → remains act x u ≡ Some o → u ≡ Some o
remains_some (acts.Drop y) x u o e = (unless_some (y == x) u o e).1
remains_some (acts.Gone p cause) x u o e = (unless_some (is_at (owner u) p) u o e).1
remains_some _ x u o e = e

and_right : (a b : Bool) → (a && b) ≡ true → b ≡ true
and_right true b h = h
and_right false b h = cc

not_true : (b : Bool) → not b ≡ true → b ≡ false
not_true true h = cc
not_true false h = refl

owned_kept : (act : Act) (older : List Act) (x : ℕ) (o : Object) → IsHistory (act ∷ older) →
    ((y : ℕ) (u : Object) → object older y ≡ Some u → IsOwned older y u) → remains act x (object older x) ≡ Some o →
    IsOwned (act ∷ older) x o
owned_kept (acts.Drop y) older x o h f e =
    let i : IsOwned older x o = f x o (remains_some (acts.Drop y) x (object older x) o e) in
    let l : (alive older y && not (is_peer older y)) ≡ true = live (acts.Drop y) older h.0 (λ d. cc) in
    let n : is_peer older y ≡ false = not_true (is_peer older y) (and_right _ _ l) in
    let d : (y == o.peer) ≡ false = ne_eqb y o.peer (λ q. true≢false (sym i.lives ∙ ap (is_peer older) (sym q) ∙ n)) in
    record { lives = stays (acts.Drop y) older o.peer i.lives (rw d refl); own = i.own }
owned_kept (acts.Gone p cause) older x o h f e =
    let k : (is_at (owner (object older x)) p ≡ false) × (object older x ≡ Some o) =
    unless_some (is_at (owner (object older x)) p) (object older x) o e in
    let i : IsOwned older x o = f x o k.1 in
    let t : IsThere is_peer_kind (object older o.peer) = there is_peer_kind (object older o.peer) i.lives in
    let own : t.found.peer ≡ o.peer = (f o.peer t.found t.is).own t.passes in
    let far : (o.peer == p) ≡ false = rw k.1 at k.0 in
    let d : is_at (owner (object older o.peer)) p ≡ false = rw (t.is, own) far in
    record { lives = stays (acts.Gone p cause) older o.peer i.lives (rw d refl); own = i.own }
owned_kept act older x o h f e =
    let i : IsOwned older x o = f x o (remains_some act x (object older x) o e) in
    record { lives = stays act older o.peer i.lives refl; own = i.own }

owned_by : (act : Act) (older : List Act) (x : ℕ) (o : Object) (b : Bool) → (x == length older + 1) ≡ b →
    IsHistory (act ∷ older) →
    ((y : ℕ) (u : Object) → object older y ≡ Some u → IsOwned older y u) →
    (if b then made act x (owner (object older (maker act))) else remains act x (object older x)) ≡ Some o →
    IsOwned (act ∷ older) x o
owned_by act older x o true q h f e =
    let s : x ≡ length older + 1 = eqb-true x (length older + 1) q in
    let n : made act (length older + 1) (owner (object older (maker act))) ≡ Some o = rw s at e in
    subst (λ (y : ℕ). IsOwned (act ∷ older) y o) (sym s) (owned_new act older o h f n)
owned_by act older x o false q h f e = owned_kept act older x o h f e

pub owned : (log : List Act) (x : ℕ) (o : Object) → IsHistory log → object log x ≡ Some o → IsOwned log x o
owned [] x o h e = cc
owned (act ∷ older) x o h e = owned_by act older x o (x == length older + 1) refl h (λ y u. owned older y u h.1) e

-- a live peer is its own
pub own_peer : (log : List Act) (p : ℕ) → IsHistory log → is_peer log p ≡ true → peer_of log p ≡ Some p
own_peer log p h l =
    let t : IsThere is_peer_kind (object log p) = there is_peer_kind (object log p) l in
    let own : t.found.peer ≡ p = (owned log p t.found h t.is).own t.passes in
    ap owner t.is ∙ ap Some own

-- what is dead stays dead, and holds nothing

pub dead_stays : (act : Act) (log : List Act) (x : ℕ) → x ≤ length log → object log x ≡ None →
    object (act ∷ log) x ≡ None
dead_stays act log x w e = rw (object_step act log x w, e) (remains_none act x)

pub dead_holds_not : (log : List Act) (f : ℕ) → IsHistory log → object log f ≡ None → is_at (holder log) f ≡ false
dead_holds_not log f h e = out_holds_not log f h (rw e refl)

holder_is : (o : Option ℕ) (f : ℕ) → is_at o f ≡ true → o ≡ Some f
holder_is None f e = cc
holder_is (Some g) f e = ap Some (eqb-true g f e)

-- the holder is a live field
pub holder_there : (log : List Act) (f : ℕ) → IsHistory log → is_at (holder log) f ≡ true →
    IsThere is_field_kind (object log f)
holder_there log f h e =
    there is_field_kind (object log f) (entered_field log f (holder_entered log f h (holder_is (holder log) f e)))

-- the peer of a live field made it

not_field : (kind : Kind) (p : ℕ) (o : Object) → is_field_kind kind ≡ false → Some (object_of kind p) ≡ Some o →
    is_field_kind o.kind ≡ true → ⊥
not_field kind p o k e t =
    let d : object_of kind p ≡ o = cc in
    true≢false (sym t ∙ ap (λ (u : Object). is_field_kind u.kind) (sym d) ∙ k)

not_field_for : (kind : Kind) (whose : Option ℕ) (o : Object) → is_field_kind kind ≡ false →
    made_for kind whose ≡ Some o → is_field_kind o.kind ≡ true → ⊥
not_field_for kind None o k e t = cc
not_field_for kind (Some p) o k e t = not_field kind p o k e t

pub field_made : (act : Act) (n : ℕ) (whose : Option ℕ) (o : Object) → made act n whose ≡ Some o →
    is_field_kind o.kind ≡ true → field_peer act ≡ Some o.peer
field_made (acts.Field p) n whose o e t = let d : object_of FieldKind p ≡ o = cc in ap (λ (u : Object). Some u.peer) d
field_made acts.Peer n whose o e t = absurd (not_field PeerKind n o refl e t)
field_made (acts.Surface p) n whose o e t = absurd (not_field SurfaceKind p o refl e t)
field_made (acts.Method p) n whose o e t = absurd (not_field MethodKind p o refl e t)
field_made (acts.Popup m s) n whose o e t = absurd (not_field_for (PopupKind m s) whose o refl e t)
field_made (acts.Grab m) n whose o e t = absurd (not_field_for (GrabKind m) whose o refl e t)
field_made (acts.Registry p role) n whose o e t = absurd (not_field ThingKind p o refl e t)
field_made (acts.Seat p) n whose o e t = absurd (not_field ThingKind p o refl e t)
field_made (acts.Thing p) n whose o e t = absurd (not_field ThingKind p o refl e t)
field_made (acts.VBoard p) n whose o e t = absurd (not_field BoardKind p o refl e t)
field_made _ n whose o e t = cc

maker_by : (act : Act) (older : List Act) (f : ℕ) (o : Object) (b : Bool) → is_field_kind o.kind ≡ true →
    (object older f ≡ Some o → maker_of older f ≡ Some o.peer) →
    (if b then made act f (owner (object older (maker act))) else remains act f (object older f)) ≡ Some o →
    (if b then field_peer act else maker_of older f) ≡ Some o.peer
maker_by act older f o true t k e = field_made act f _ o e t
maker_by act older f o false t k e = k (remains_some act f (object older f) o e)

pub maker_is : (log : List Act) (f : ℕ) (o : Object) → is_field_kind o.kind ≡ true → object log f ≡ Some o →
    maker_of log f ≡ Some o.peer
maker_is [] f o t e = cc
maker_is (act ∷ older) f o t e = maker_by act older f o (f == length older + 1) t (maker_is older f o t) e

-- an act made later leaves that
pub maker_stays : (act : Act) (log : List Act) (f : ℕ) → f ≤ length log → maker_of (act ∷ log) f ≡ maker_of log f
maker_stays act log f w = rw (ne_eqb f (length log + 1) (λ e. omega arith)) refl

-- the peer of what is alive is a live peer
pub owner_lives : (log : List Act) (x p : ℕ) → IsHistory log → peer_of log x ≡ Some p → is_peer log p ≡ true
owner_lives log x p i h = by (object log x) refl h
  where
    by : (o : Option Object) → object log x ≡ o → owner o ≡ Some p → is_peer log p ≡ true
    by None e k = cc
    by (Some o) e k = ap (is_peer log) (sym (same_Some o.peer p k)) ∙ (owned log x o i e).lives
