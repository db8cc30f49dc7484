-- The calls on a peer's table after one more entry: a new peer's, and those of a peer that didn't send it.
use Rattle.std.proofs.Common.{◌≡◌, ℕ, ◌+◌, ◌≤◌, List, [], ◌∷◌, ◌++◌, length, Bool, true, false, Option, Some, None, ap, refl, sym, ◌∙◌, subst, arith}
use Rattle.std.specs.Prelude.{◌==◌, ◌&&◌, if◌then◌else◌, is_some, Result, Ok, Err, not}
use Rattle.std.proofs.lemmas.Bool.{ne_eqb, eq-eqb}
use Rattle.wl_proto.specs.declared.interface.Interface.TheVariants as interface
use Rattle.wl_proto.specs.declared.refuse.Refuse.{Refuse}
use Rattle.wl_proto.specs.Reading.{request_reading}
use Rattle.wl_proto.specs.Rows.{Message}
use Rattle.im_objects.specs.Calls.{Call}
use Rattle.im_objects.specs.Calls.Call.{Make, Drop}
use Rattle.relay_model.specs.declared.act.Act.{Act}
use Rattle.relay_model.specs.declared.act.Act.TheVariants as acts
use Rattle.relay_model.specs.declared.fault.Fault.{Fault}
use Rattle.relay_model.specs.declared.fault.Fault.TheVariants as fault
use Rattle.relay_model.specs.declared.role.Role.{Role}
use Rattle.relay_model.specs.Objects.{alive, owner, made, maker, object, is_peer}
use Rattle.relay_model.specs.Idle.{is_live, cleaned}
use Rattle.relay_model.proofs.ObjectLaws.{object_new}
use Rattle.broker_steps.specs.declared.step.ShellStep.{ShellStep}
use Rattle.broker_steps.specs.declared.step.ShellStep.TheVariants as shell
use Rattle.broker_model.specs.declared.journal.Entry.{Entry}
use Rattle.broker_model.specs.declared.journal.Entry.TheVariants as entries
use Rattle.broker_model.specs.Ids.{Made, Joined, Past, log_of, peer_at, object_at, made_as}
use Rattle.broker_model.specs.Requests.{Argument, new_of, act_of}
use Rattle.broker_model.specs.Refusals.{request_fault, refuse_fault, is_of_addressed}
use Rattle.broker_model.specs.Resolve.{Meaning, only, label_at, refused_for, made_new, of_request, of_reading, of_message, of_peer, surface_at, on_surface, shell_act, means, past_of}
use Rattle.broker_model.specs.Out.{is_label}
use Rattle.broker_model.specs.Tables.{make_calls, drop_calls, calls_for}
use Rattle.broker_model.proofs.LivePeersJoined.{length_log}
use Rattle.broker_model.proofs.IdsAreNames.{IsFound, found}
use Rattle.broker_model.proofs.MadeAtMostOne.{AreSound}
use Rattle.broker_model.proofs.MadeObjectsStand.{sound}
use Rattle.broker_model.proofs.TablesNameObjects.{none_called}
use Rattle.broker_core.proofs.OwnObjectDropped.{DropsOnly, drops_only}
use Rattle.wl_proto.specs.declared.interface.Interface.{Interface}
use Rattle.broker_audience.specs.Changes.{own_calls}
use Rattle.broker_core.proofs.LiveObjectKinds.{AreFit}

-- a peer that joins

joined_alive : (role : Role) (older : List Entry) →
    alive (log_of (past_of (entries.Join role ∷ older))) (length older + 1) ≡ true
joined_alive role older =
    subst (λ (k : ℕ). alive (acts.Peer ∷ log_of (past_of older)) (k + 1) ≡ true) (length_log older)
    (ap is_some (object_new acts.Peer (log_of (past_of older))))

joined_by : (n : ℕ) (c a : Bool) (rest : List Call) → c ≡ true → a ≡ true → rest ≡ [] →
    (if c && a then Make 1 interface.Display n ∷ [] else []) ++ rest ≡ Make 1 interface.Display n ∷ []
joined_by n c a rest q r s = rw (q, r, s) refl

-- its display is the first that it makes
pub calls_joined : (role : Role) (older : List Entry) →
    calls_for (entries.Join role ∷ older) (length older + 1) ≡ Make 1 interface.Display (length older + 1) ∷ []
calls_joined role older =
    joined_by (length older + 1) (length older + 1 == length older + 1)
    (alive (log_of (past_of (entries.Join role ∷ older))) (length older + 1))
    (calls_for older (length older + 1)) (eq-eqb (length older + 1) (length older + 1) refl) (joined_alive role older)
    (none_called older (length older + 1) (omega arith))

-- what makes and drops nothing of the peer p

abbrev IsQuiet : Past → ℕ → Meaning → Type 0
IsQuiet past p m =
    (make_calls (cleaned m.act (log_of past) ∷ log_of past) p m.made ≡ [])
    × (drop_calls past.made p (cleaned m.act (log_of past)) ≡ [])

-- an idle act drops nothing
pub drops_cleaned : (b : Bool) (made : List Made) (p : ℕ) (act : Act) → drop_calls made p act ≡ [] →
    drop_calls made p (if b then act else acts.Idle) ≡ []
drops_cleaned true made p act h = h
drops_cleaned false made p act h = refl

quiet_only : (past : Past) (p : ℕ) (act : Act) → drop_calls past.made p act ≡ [] → IsQuiet past p (only act)
quiet_only past p act h = (refl, drops_cleaned (is_live act (log_of past)) past.made p act h)

quiet_refused : (past : Past) (p q y : ℕ) (f : Fault) → IsQuiet past p (refused_for q y f)
quiet_refused past p q y f = quiet_only past p (acts.Bad q f (if is_of_addressed f then y else q)) refl

quiet_surface : (past : Past) (p : ℕ) (o : Option ℕ) (f : ℕ → Act) → ((s : ℕ) → drop_calls past.made p (f s) ≡ []) →
    IsQuiet past p (only (on_surface o f))
quiet_surface past p None f h = quiet_only past p acts.Idle refl
quiet_surface past p (Some s) f h = quiet_only past p (f s) (h s)

quiet_shell : (past : Past) (p : ℕ) (step : ShellStep) → IsQuiet past p (only (shell_act past step))
quiet_shell past p (shell.Focus q id) =
    quiet_surface past p (surface_at past (peer_at past q) id) (λ s. acts.Focus s) (λ s. refl)
quiet_shell past p shell.Unfocus = quiet_only past p acts.Unfocus refl
quiet_shell past p (shell.Area q id rect) =
    quiet_surface past p (surface_at past (peer_at past q) id) (λ s. acts.Area s rect) (λ s. refl)
quiet_shell past p (shell.Screen size) = quiet_only past p (acts.Screen size) refl
quiet_shell past p (shell.Key time key state) = quiet_only past p (acts.Key time key state) refl
quiet_shell past p (shell.Mods mods) = quiet_only past p (acts.Mods mods) refl
quiet_shell past p (shell.Keymap keymap) = quiet_only past p (acts.Keymap keymap) refl
quiet_shell past p (shell.Repeat repeat) = quiet_only past p (acts.Repeat repeat) refl
quiet_shell past p (shell.At moment) = quiet_only past p acts.Idle refl

quiet_new : (log : List Act) (q p n : ℕ) (o : Option Argument) → (q == p) ≡ false →
    make_calls log p (made_new q n o) ≡ []
quiet_new log q p n None h = refl
quiet_new log q p n (Some new) h = rw h refl

quiet_drop : (made : List Made) (p : ℕ) (x : Made) (act : Act) → DropsOnly x.label act → made_as made x.label ≡ Some x →
    (x.peer == p) ≡ false →
    drop_calls made p act ≡ []
quiet_drop made p x (acts.Drop y) d k h = rw (d, k, h) refl
quiet_drop made p x _ d k h = refl

quiet_request : (past : Past) (n p : ℕ) (peer : Joined) (x : Made) (m : Message) (o : Option Fault) →
    made_as past.made x.label ≡ Some x → (x.peer == p) ≡ false →
    (peer.label == p) ≡ false → IsQuiet past p (of_request past n peer x.label m o)
quiet_request past n p peer x m (Some f) k h g = quiet_refused past p peer.label x.label f
quiet_request past n p peer x m None k h g =
    let act : Act = act_of peer.label x.label peer.role (label_at past peer.label) m.interface m.opcode m.values in (
      quiet_new (cleaned act (log_of past) ∷ log_of past) peer.label p n (new_of m.interface m.opcode m.values) g,
      drops_cleaned (is_live act (log_of past)) past.made p act
          (quiet_drop past.made p x act
          (drops_only peer.label x.label peer.role (label_at past peer.label) m.interface m.opcode m.values) k h),
    )

quiet_reading : (past : Past) (n p : ℕ) (peer : Joined) (x : Made) (r : Result Message Refuse) →
    made_as past.made x.label ≡ Some x → (x.peer == p) ≡ false →
    (peer.label == p) ≡ false → IsQuiet past p (of_reading past n peer x.label r)
quiet_reading past n p peer x (Err r) k h g = quiet_refused past p peer.label x.label (refuse_fault r)
quiet_reading past n p peer x (Ok m) k h g =
    quiet_request past n p peer x m (request_fault past peer.label x.label peer.role (label_at past peer.label) m) k h g

quiet_message : (past : Past) (n bound p : ℕ) (peer : Joined) (opcode : ℕ) (body : List ℕ) (id : ℕ) (o : Option Made) →
    AreSound (log_of past) past.made bound → object_at past peer.label id ≡ o → (peer.label == p) ≡ false →
    IsQuiet past p (of_message past n peer opcode body o)
quiet_message past n bound p peer opcode body id None s e g = quiet_refused past p peer.label peer.label fault.Object
quiet_message past n bound p peer opcode body id (Some x) s e g =
    let f : IsFound (log_of past) past.made peer.label id x = found (log_of past) past.made peer.label id x e in
    quiet_reading past n p peer x (request_reading x.interface opcode (past.waiting peer.label) body)
    (s x f.among).known (ap (λ (y : ℕ). y == p) f.peer ∙ g) g

quiet_peer : (past : Past) (p : ℕ) (o : Option Joined) (f : Joined → Meaning) →
    ((peer : Joined) → o ≡ Some peer → IsQuiet past p (f peer)) →
    IsQuiet past p (of_peer o f)
quiet_peer past p None f h = quiet_only past p acts.Idle refl
quiet_peer past p (Some peer) f h = h peer refl

-- the entry is no message of the peer with the label p
abbrev pub IsNotFrom : Entry → List Entry → ℕ → Type 0
IsNotFrom (entries.Message q id opcode body) older p = is_label (peer_at (past_of older) q) p ≡ false
IsNotFrom _ older p = Unit {0}

quiet_entry : (e : Entry) (older : List Entry) (p : ℕ) → p ≤ length older → IsNotFrom e older p →
    IsQuiet (past_of older) p (means e (length older + 1) (past_of older))
quiet_entry (entries.Join role) older p w h = (rw (ne_eqb (length older + 1) p (λ d. omega arith)) refl, refl)
quiet_entry (entries.Message q id opcode body) older p w h =
    quiet_peer (past_of older) p (peer_at (past_of older) q) _
    (λ peer e.
    quiet_message (past_of older) (length older + 1) (length older) p peer opcode body id
    (object_at (past_of older) peer.label id) (sound older) refl
    (sym (ap (λ (o : Option Joined). is_label o p) e) ∙ h))
quiet_entry (entries.Tokens q tokens) older p w h = quiet_only (past_of older) p acts.Idle refl
quiet_entry (entries.BadSize q head) older p w h =
    quiet_peer (past_of older) p (peer_at (past_of older) q) _
    (λ peer e. quiet_refused (past_of older) p peer.label peer.label fault.Size)
quiet_entry (entries.End q cause) older p w h =
    quiet_peer (past_of older) p (peer_at (past_of older) q) _
    (λ peer e. quiet_only (past_of older) p (acts.Gone peer.label cause) refl)
quiet_entry (entries.Shell step) older p w h = quiet_shell (past_of older) p step
quiet_entry (entries.Took q bytes) older p w h =
    quiet_peer (past_of older) p (peer_at (past_of older) q) _
    (λ peer e. quiet_only (past_of older) p (acts.Took peer.label bytes) refl)

with_none : (made dropped calls : List Call) → made ≡ [] → dropped ≡ [] → made ++ (dropped ++ calls) ≡ calls
with_none made dropped calls q r = rw (q, r) refl

-- what isn't from a peer leaves its calls
pub calls_other : (e : Entry) (older : List Entry) (p : ℕ) → p ≤ length older → IsNotFrom e older p →
    calls_for (e ∷ older) p ≡ calls_for older p
calls_other e older p w h = let q = quiet_entry e older p w h in with_none _ _ (calls_for older p) q.0 q.1

-- What an act, and what is new with it, come to on its sender's table.

-- the object x that a live peer's id names, before the entry n
pub record IsAddressed (past : Past) (p id n : ℕ) (x : Made) : Type 0 where
  pub next : length (log_of past) + 1 ≡ n
  pub peer : is_peer (log_of past) p ≡ true
  pub named : IsFound (log_of past) past.made p id x
  pub known : made_as past.made x.label ≡ Some x
  pub shown : is_peer (log_of past) x.label ≡ true → x.interface ≡ interface.Display
  pub fit : AreFit (log_of past) past.made

-- the act and what is new come to the calls of the peer p
abbrev pub Comes : Past → (p id n : ℕ) → Act → Option Argument → Type 0
Comes past p id n act new =
    make_calls (cleaned act (log_of past) ∷ log_of past) p (made_new p n new)
    ++ drop_calls past.made p (cleaned act (log_of past)) ≡ own_calls id n act new

-- what an act makes is alive after it

alive_new : (act : Act) (log : List Act) (n : ℕ) → length log + 1 ≡ n →
    alive (act ∷ log) n ≡ is_some (made act (length log + 1) (owner (object log (maker act))))
alive_new act log n e = ap (alive (act ∷ log)) (sym e) ∙ ap is_some (object_new act log)

-- the calls of what is new and alive
abbrev new_calls : ℕ → Option Argument → List Call
new_calls n None = []
new_calls n (Some new) = Make new.id new.interface n ∷ []

makes_by : (c a : Bool) (id n : ℕ) (i : Interface) → c ≡ true → a ≡ true →
    (if c && a then Make id i n ∷ [] else []) ≡ Make id i n ∷ []
makes_by c a id n i q r = rw (q, r) refl

makes : (act : Act) (log : List Act) (p n : ℕ) (new : Option Argument) → length log + 1 ≡ n →
    is_some (made act (length log + 1) (owner (object log (maker act)))) ≡ true →
    make_calls (act ∷ log) p (made_new p n new) ≡ new_calls n new
makes act log p n None e l = refl
makes act log p n (Some new) e l =
    makes_by (p == p) (alive (act ∷ log) n) new.id n new.interface (eq-eqb p p refl) (alive_new act log n e ∙ l)

-- where the act makes nothing alive, nothing is made under the id
makes_not_by : (c a : Bool) (id n : ℕ) (i : Interface) → a ≡ false → (if c && a then Make id i n ∷ [] else []) ≡ []
makes_not_by true true id n i q = cc
makes_not_by true false id n i q = refl
makes_not_by false a id n i q = refl

makes_not : (act : Act) (log : List Act) (p n : ℕ) (new : Option Argument) → length log + 1 ≡ n →
    is_some (made act (length log + 1) (owner (object log (maker act)))) ≡ false →
    make_calls (act ∷ log) p (made_new p n new) ≡ []
makes_not act log p n None e l = refl
makes_not act log p n (Some new) e l =
    makes_not_by (p == p) (alive (act ∷ log) n) new.id n new.interface (alive_new act log n e ∙ l)

-- the acts whose new objects live
abbrev creates : Act → Bool
creates (acts.Surface p) = true
creates (acts.Field p) = true
creates (acts.Method p) = true
creates (acts.Popup m s) = true
creates (acts.Grab m) = true
creates (acts.Registry p role) = true
creates (acts.Seat p) = true
creates (acts.Thing p) = true
creates (acts.VBoard p) = true
creates _ = false

own_created : (id n : ℕ) (act : Act) (new : Option Argument) → creates act ≡ true →
    own_calls id n act new ≡ new_calls n new
own_created id n (acts.Drop x) new h = cc
own_created id n (acts.Sync p) new h = cc
own_created id n _ None h = refl
own_created id n _ (Some new) h = refl

no_drop : (made : List Made) (p : ℕ) (act : Act) → creates act ≡ true → drop_calls made p act ≡ []
no_drop made p (acts.Drop x) h = cc
no_drop made p _ h = refl

joined_calls : (a b c d : List Call) → a ≡ c → b ≡ [] → d ≡ c ++ [] → a ++ b ≡ d
joined_calls a b c d q r s = rw (q, r) (sym s)

not_idle : (act : Act) (log : List Act) → is_live act log ≡ true → cleaned act log ≡ act
not_idle act log l = rw l refl

nothing_behind : (n : ℕ) (new : Option Argument) → new_calls n new ++ [] ≡ new_calls n new
nothing_behind n None = refl
nothing_behind n (Some new) = refl

-- an act that isn't idle and makes what lives
pub comes_created : (past : Past) (p id n : ℕ) (act : Act) (new : Option Argument) → length (log_of past) + 1 ≡ n →
    creates act ≡ true →
    is_live act (log_of past) ≡ true →
    is_some (made act (length (log_of past) + 1) (owner (object (log_of past) (maker act)))) ≡ true →
    Comes past p id n act new
comes_created past p id n act new e c l s =
    let log : List Act = log_of past in
    subst (λ (a : Act). make_calls (a ∷ log) p (made_new p n new) ++ drop_calls past.made p a ≡ own_calls id n act new)
    (sym (not_idle act log l))
    (joined_calls _ _ (new_calls n new) (own_calls id n act new) (makes act log p n new e s) (no_drop past.made p act c)
    (own_created id n act new c ∙ sym (nothing_behind n new)))

-- a sync's callback never lives
pub comes_sync : (past : Past) (p id n q : ℕ) (new : Option Argument) → length (log_of past) + 1 ≡ n →
    Comes past p id n (acts.Sync q) new
comes_sync past p id n q new e = by (is_live (acts.Sync q) (log_of past))
  where
    by : (b : Bool) →
        make_calls ((if b then acts.Sync q else acts.Idle) ∷ log_of past) p (made_new p n new)
        ++ drop_calls past.made p (if b then acts.Sync q else acts.Idle) ≡ []
    by true = joined_calls _ _ [] [] (makes_not (acts.Sync q) (log_of past) p n new e refl) refl refl
    by false = joined_calls _ _ [] [] (makes_not acts.Idle (log_of past) p n new e refl) refl refl

-- the object that the message goes to is dropped, whatever is new

lives_not_peer : (a b : Bool) → a ≡ true → b ≡ false → (a && not b) ≡ true
lives_not_peer a b q r = rw (q, r) refl

dropped_own : (made : List Made) (p id : ℕ) (x : Made) → made_as made x.label ≡ Some x → x.peer ≡ p → x.id ≡ id →
    drop_calls made p (acts.Drop x.label) ≡ Drop id ∷ []
dropped_own made p id x k o u = rw (k, eq-eqb x.peer p o) (ap (λ (y : ℕ). Drop y ∷ []) u)

dropped_calls : (a b : List Call) (id : ℕ) → a ≡ [] → b ≡ Drop id ∷ [] → a ++ b ≡ Drop id ∷ []
dropped_calls a b id q r = rw (q, r) refl

-- the drop isn't idle, since the object is alive and no peer
pub comes_drop : (past : Past) (p id n : ℕ) (x : Made) (y : ℕ) (new : Option Argument) → IsAddressed past p id n x →
    is_peer (log_of past) x.label ≡ false → y ≡ x.label →
    Comes past p id n (acts.Drop y) new
comes_drop past p id n x y new a h d =
    let log : List Act = log_of past in
    let live : is_live (acts.Drop x.label) log ≡ true =
    lives_not_peer (alive log x.label) (is_peer log x.label) a.named.lives h in
    let here : Comes past p id n (acts.Drop x.label) new =
    subst (λ (c : Act). make_calls (c ∷ log) p (made_new p n new) ++ drop_calls past.made p c ≡ Drop id ∷ [])
    (sym (not_idle (acts.Drop x.label) log live))
    (dropped_calls _ _ id (makes_not (acts.Drop x.label) log p n new a.next refl)
    (dropped_own past.made p id x a.known a.named.peer a.named.under)) in
    subst (λ (z : ℕ). Comes past p id n (acts.Drop z) new) (sym d) here

-- where nothing is new
pub comes_none : (past : Past) (p id n : ℕ) (x : Made) (act : Act) → IsAddressed past p id n x → DropsOnly x.label act →
    ((y : ℕ) → act ≡ acts.Drop y → is_peer (log_of past) x.label ≡ false) → Comes past p id n act None
comes_none past p id n x (acts.Drop y) a d h = comes_drop past p id n x y None a (h y refl) d
comes_none past p id n x act a d h = drops_cleaned (is_live act (log_of past)) past.made p act refl
