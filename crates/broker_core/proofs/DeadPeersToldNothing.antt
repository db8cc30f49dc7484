-- A peer that isn't alive is told nothing.
use Rattle.std.proofs.Common.{◌≡◌, ℕ, ◌+◌, ◌≤◌, List, [], ◌∷◌, ◌++◌, length, Bool, true, false, Option, Some, None, ap, refl, sym, ◌∙◌, subst, arith, inl, inr, map, not}
use Rattle.std.specs.Prelude.{◌==◌, if◌then◌else◌, Result, Ok, Err, ◌&&◌}
use Rattle.std.specs.List.{AllByRecursion}
use Rattle.std.proofs.lemmas.Bool.{ne_eqb, true≢false, eqb-true}
use Rattle.wl_proto.specs.declared.refuse.Refuse.{Refuse}
use Rattle.wl_proto.specs.Reading.{request_reading}
use Rattle.wl_proto.specs.Rows.{Message}
use Rattle.relay_model.specs.declared.fault.Fault.{Fault}
use Rattle.relay_model.specs.declared.said.Told.{Told}
use Rattle.relay_model.specs.declared.said.Said.{Said}
use Rattle.relay_model.specs.Objects.{is_peer, alive, peer_of, Object, owner, object, is_peer_kind, is_kind}
use Rattle.relay_model.specs.Told.{told, to, notice_said, to_method, told_by}
use Rattle.relay_model.proofs.ActsOrIdle.{history_is, IsHistory}
use Rattle.broker_model.specs.declared.journal.Entry.{Entry}
use Rattle.broker_model.specs.declared.journal.Entry.TheVariants as entries
use Rattle.broker_model.specs.Ids.{Made, Joined, Past, log_of, peer_at, object_at, made_as}
use Rattle.broker_model.specs.Requests.{Argument, new_of}
use Rattle.broker_model.specs.Refusals.{request_fault}
use Rattle.broker_model.specs.Resolve.{Meaning, label_at, made_new, of_request, of_reading, of_message, of_peer, means, past_of, resolve, only}
use Rattle.broker_model.specs.Groups.{nothing, event_piece, group_for, Piece, followed_by}
use Rattle.broker_model.specs.Out.{act_at, group_at, act_now}
use Rattle.broker_model.proofs.LivePeersJoined.{length_log}
use Rattle.broker_model.proofs.FieldsHaveIds.{other_entry}
use Rattle.broker_model.proofs.IdsAreNames.{IsFound, found, IsWith, made_with}
use Rattle.broker_model.proofs.MadeObjectsStand.{sound}
use Rattle.broker_model.proofs.EachElement.{each_weaker}
use Rattle.broker_core.proofs.WhoIsTold.{Hears, IsHeard, all_heard}
use Rattle.relay_model.specs.declared.act.Act.{Act}
use Rattle.relay_model.specs.declared.act.Act.TheVariants as acts
use Rattle.relay_model.specs.declared.act.EndCause.{EndCause}
use Rattle.relay_model.specs.Activation.{serving, notice}
use Rattle.relay_model.proofs.ActivationLaws.{serving_alive}
use Rattle.broker_model.proofs.OwnersLive.{owned, owner_lives}
use Rattle.broker_model.proofs.SettlingEnds.{end_cleaned, end_log}
use Rattle.broker_core.proofs.OnlyEndsTakePeers.{gone_now, peer_kept, peer_new, peer_ended}
use Rattle.broker_core.proofs.EndedPeersKept.{IsLast}
use Rattle.relay_model.specs.Idle.{cleaned}
use Rattle.relay_model.proofs.ObjectLaws.{alive_within, kind_alive, object_step}
use Rattle.broker_model.proofs.LabelsRiseByNumber.{label_within}

-- it isn't the peer p that made this
abbrev IsOther : ℕ → Made → Type 0
IsOther p m = m.peer ≡ p → ⊥

abbrev IsOthers : ℕ → Option Made → Type 0
IsOthers p None = Unit {0}
IsOthers p (Some m) = IsOther p m

-- what a peer hears of what others hear

deaf_event : (made : List Made) (p : ℕ) (event : Said) (o : Option Made) → IsOthers p o →
    event_piece made p event o ≡ nothing
deaf_event made p event None h = refl
deaf_event made p event (Some m) h = rw (ne_eqb m.peer p h) refl

deaf_group : (made : List Made) (p : ℕ) (ts : List Told) → AllByRecursion (λ t. IsOthers p (made_as made t.to)) ts →
    group_for made p ts ≡ nothing
deaf_group made p [] h = refl
deaf_group made p (t ∷ rest) h =
    rw (deaf_event made p t.event (made_as made t.to) h.0, deaf_group made p rest h.1) refl

-- nothing is made with the label of the shell
none_zero : (journal : List Entry) → made_as (past_of journal).made 0 ≡ None
none_zero [] = refl
none_zero (e ∷ older) =
    other_entry e (length older + 1) (past_of older) (past_of older).made 0
    (ne_eqb (length older + 1) 0 (λ d. omega arith)) ∙ none_zero older

-- the maker of a live object is a live peer
made_alive : (journal : List Entry) (p x : ℕ) → is_peer (log_of (past_of journal)) p ≡ false →
    alive (log_of (past_of journal)) x ≡ true →
    IsOthers p (made_as (past_of journal).made x)
made_alive journal p x dead l = by (made_as (past_of journal).made x) refl
  where
    by : (o : Option Made) → made_as (past_of journal).made x ≡ o → IsOthers p o
    by None e = tt
    by (Some m) e = λ d.
        let w : IsWith (past_of journal).made x m = made_with (past_of journal).made x m e in
        let here : alive (log_of (past_of journal)) m.label ≡ true =
        ap (alive (log_of (past_of journal))) w.named ∙ l in
        let own : peer_of (log_of (past_of journal)) m.label ≡ Some m.peer = (sound journal m w.among).own here in
        let lives : is_peer (log_of (past_of journal)) m.peer ≡ true =
        owner_lives (log_of (past_of journal)) m.label m.peer (history_is (resolve journal)) own in
        true≢false (sym lives ∙ ap (is_peer (log_of (past_of journal))) d ∙ dead)

-- what an entry makes is of a peer that is alive, or that joins by it

new_argument : (p q n : ℕ) (o : Option Argument) → (q ≡ p → ⊥) → AllByRecursion (IsOther p) (made_new q n o)
new_argument p q n None h = tt
new_argument p q n (Some new) h = (h, tt)

new_request : (past : Past) (p n : ℕ) (peer : Joined) (x : ℕ) (m : Message) (o : Option Fault) → (peer.label ≡ p → ⊥) →
    AllByRecursion (IsOther p) (of_request past n peer x m o).made
new_request past p n peer x m (Some f) h = tt
new_request past p n peer x m None h = new_argument p peer.label n (new_of m.interface m.opcode m.values) h

new_reading : (past : Past) (p n : ℕ) (peer : Joined) (x : ℕ) (r : Result Message Refuse) → (peer.label ≡ p → ⊥) →
    AllByRecursion (IsOther p) (of_reading past n peer x r).made
new_reading past p n peer x (Err r) h = tt
new_reading past p n peer x (Ok m) h =
    new_request past p n peer x m (request_fault past peer.label x peer.role (label_at past peer.label) m) h

new_message : (older : List Entry) (p n : ℕ) (peer : Joined) (id opcode : ℕ) (body : List ℕ) (o : Option Made) →
    is_peer (log_of (past_of older)) p ≡ false → object_at (past_of older) peer.label id ≡ o →
    AllByRecursion (IsOther p) (of_message (past_of older) n peer opcode body o).made
new_message older p n peer id opcode body None dead e = tt
new_message older p n peer id opcode body (Some x) dead e =
    new_reading (past_of older) p n peer x.label
    (request_reading x.interface opcode ((past_of older).waiting peer.label) body) other
  where
    other : peer.label ≡ p → ⊥
    other d =
        let f : IsFound (log_of (past_of older)) (past_of older).made peer.label id x =
        found (log_of (past_of older)) (past_of older).made peer.label id x e in
        let own : peer_of (log_of (past_of older)) x.label ≡ Some x.peer = (sound older x f.among).own f.lives in
        let lives : is_peer (log_of (past_of older)) x.peer ≡ true =
        owner_lives (log_of (past_of older)) x.label x.peer (history_is (resolve older)) own in
        true≢false (sym lives ∙ ap (is_peer (log_of (past_of older))) (f.peer ∙ d) ∙ dead)

new_peer : (p : ℕ) (o : Option Joined) (f : Joined → Meaning) →
    ((peer : Joined) → AllByRecursion (IsOther p) (f peer).made) →
    AllByRecursion (IsOther p) (of_peer o f).made
new_peer p None f h = tt
new_peer p (Some peer) f h = h peer

new_entry : (e : Entry) (older : List Entry) (p : ℕ) → is_peer (log_of (past_of older)) p ≡ false →
    (p ≡ length older + 1 → ⊥) →
    AllByRecursion (IsOther p) (means e (length older + 1) (past_of older)).made
new_entry (entries.Join role) older p dead new = ((λ d. new (sym d)), tt)
new_entry (entries.Message q id opcode body) older p dead new =
    new_peer p (peer_at (past_of older) q)
    (λ peer. of_message (past_of older) (length older + 1) peer opcode body (object_at (past_of older) peer.label id))
    (λ peer. new_message older p (length older + 1) peer id opcode body
    (object_at (past_of older) peer.label id) dead refl)
new_entry (entries.Tokens q tokens) older p dead new = tt
new_entry (entries.BadSize q head) older p dead new = new_peer p (peer_at (past_of older) q) _ (λ peer. tt)
new_entry (entries.End q why) older p dead new = new_peer p (peer_at (past_of older) q) _ (λ peer. tt)
new_entry (entries.Shell step) older p dead new = tt
new_entry (entries.Took q bytes) older p dead new = new_peer p (peer_at (past_of older) q) _ (λ peer. tt)

-- nor is what an entry puts before what was made
behind_new : (p : ℕ) (new made : List Made) (x : ℕ) → AllByRecursion (IsOther p) new → IsOthers p (made_as made x) →
    IsOthers p (made_as (new ++ made) x)
behind_new p [] made x h k = k
behind_new p (m ∷ new) made x h k = by (m.label == x) (behind_new p new made x h.1 k)
  where
    by : (b : Bool) → IsOthers p (made_as (new ++ made) x) → IsOthers p (if b then Some m else made_as (new ++ made) x)
    by true r = h.0
    by false r = r

-- nothing was made with a label that is yet to come
none_yet : (older : List Entry) (p : ℕ) → IsOthers p (made_as (past_of older).made (length older + 1))
none_yet older p = by (made_as (past_of older).made (length older + 1)) refl
  where
    by : (o : Option Made) → made_as (past_of older).made (length older + 1) ≡ o → IsOthers p o
    by None e = tt
    by (Some m) e = λ d.
        let w : IsWith (past_of older).made (length older + 1) m =
        made_with (past_of older).made (length older + 1) m e in
        let within : m.label ≤ length older = (sound older m w.among).within in
        let named : m.label ≡ length older + 1 = w.named in
        omega arith

-- nothing for which an act tells something is of such a peer
made_heard : (e : Entry) (older : List Entry) (p x : ℕ) → is_peer (log_of (past_of older)) p ≡ false →
    (p ≡ length older + 1 → ⊥) →
    Hears (log_of (past_of older)) x → IsOthers p (made_as (past_of (e ∷ older)).made x)
made_heard e older p x dead new (inl zero) =
    subst (λ (o : Option Made). IsOthers p o)
    (sym (ap (made_as (past_of (e ∷ older)).made) zero ∙ none_zero (e ∷ older))) tt
made_heard e older p x dead new (inr (inl l)) =
    behind_new p (means e (length older + 1) (past_of older)).made (past_of older).made x (new_entry e older p dead new)
    (made_alive older p x dead l)
made_heard e older p x dead new (inr (inr own)) =
    let s : x ≡ length older + 1 = own ∙ ap (λ n. n + 1) (length_log older) in
    behind_new p (means e (length older + 1) (past_of older)).made (past_of older).made x (new_entry e older p dead new)
    (subst (λ (y : ℕ). IsOthers p (made_as (past_of older).made y)) (sym s) (none_yet older p))

-- an entry tells nothing to a peer that isn't alive and doesn't join by it
pub quiet : (e : Entry) (older : List Entry) (p : ℕ) → is_peer (log_of (past_of older)) p ≡ false →
    (p ≡ length older + 1 → ⊥) →
    group_at e older p ≡ nothing
quiet e older p dead new =
    deaf_group (past_of (e ∷ older)).made p (told (act_at e older) (resolve older))
    (each_weaker (IsHeard (log_of (past_of older))) (λ t. IsOthers p (made_as (past_of (e ∷ older)).made t.to))
    (told (act_at e older) (resolve older))
    (λ t h. made_heard e older p t.to dead new h)
    (all_heard _ (log_of (past_of older)) (history_is (act_at e older ∷ resolve older))))

-- The end of a peer tells that peer nothing.

-- what is told another's object

abbrev IsNotTheirs : List Made → (p label : ℕ) → Type 0
IsNotTheirs made p label = (m : Made) → made_as made label ≡ Some m → (m.peer == p) ≡ false

not_heard : (made : List Made) (p : ℕ) (event : Said) (o : Option Made) →
    ((m : Made) → o ≡ Some m → (m.peer == p) ≡ false) →
    event_piece made p event o ≡ nothing
not_heard made p event None f = refl
not_heard made p event (Some m) f = rw (f m refl) refl

none_heard : (made : List Made) (p label : ℕ) (events : List Said) → IsNotTheirs made p label →
    group_for made p (map (to label) events ++ []) ≡ nothing
none_heard made p label [] f = refl
none_heard made p label (event ∷ rest) f =
    ap (λ (piece : Piece). followed_by piece (group_for made p (map (to label) rest ++ [])))
    (not_heard made p event (made_as made label) f)
    ∙ ap (λ (piece : Piece). followed_by nothing piece) (none_heard made p label rest f)

method_heard : (made : List Made) (p : ℕ) (act : Act) (log : List Act) (o : Option ℕ) →
    ((label : ℕ) → o ≡ Some label → IsNotTheirs made p label) →
    group_for made p (to_method act log o ++ []) ≡ nothing
method_heard made p act log None f = refl
method_heard made p act log (Some label) f =
    none_heard made p label (notice_said (act ∷ log) (notice act log)) (f label refl)

-- a live object's peer is alive

lives_by : (log : List Act) (x p : ℕ) (o : Option Object) → IsHistory log → object log x ≡ o → owner o ≡ Some p →
    is_peer log p ≡ true
lives_by log x p None h e w = cc
lives_by log x p (Some o) h e w =
    let same : o.peer ≡ p = cc in
    ap (is_peer log) (sym same) ∙ (owned log x o h e).lives

-- the method that serves after the end isn't the peer's

others_serve : (q : ℕ) (why : EndCause) (older : List Entry) (peer : Joined) → peer_at (past_of older) q ≡ Some peer →
    is_peer (log_of (past_of older)) peer.label ≡ true → (label : ℕ) →
    serving (acts.Gone peer.label why ∷ log_of (past_of older)) ≡ Some label →
    IsNotTheirs (past_of (entries.End q why ∷ older)).made peer.label label
others_serve q why older peer e l label s m a =
    let later : List Entry = entries.End q why ∷ older in
    let log : List Act = log_of (past_of later) in
    let w : IsWith (past_of later).made label m = made_with (past_of later).made label m a in
    let lives : alive log m.label ≡ true =
    ap (alive log) w.named ∙ serving_alive log label (ap serving (end_log older q why peer e l) ∙ s) in
    let own : peer_of log m.label ≡ Some m.peer = (sound later m w.among).own lives in
    let peer_lives : is_peer log m.peer ≡ true =
    lives_by log m.label m.peer (object log m.label) (history_is (resolve later)) refl own in
    ne_eqb m.peer peer.label
    (λ d. true≢false (sym peer_lives ∙ ap (is_peer log) d ∙ gone_now q why older peer e l))

pub last_told : IsLast
last_told q why older peer e l =
    let made : List Made = (past_of (entries.End q why ∷ older)).made in
    let log : List Act = log_of (past_of older) in
    ap (λ (act : Act). group_for made peer.label (told_by act log)) (end_cleaned older q why peer e l)
    ∙ method_heard made peer.label (acts.Gone peer.label why) log (serving (acts.Gone peer.label why ∷ log))
    (others_serve q why older peer e l)

-- A peer that isn't alive after an entry is told nothing by it.

-- who is alive was made
lives_within : (older : List Entry) (x : ℕ) → is_peer (log_of (past_of older)) x ≡ true → x ≤ length older
lives_within older x l =
    let within : x ≤ length (log_of (past_of older)) =
    alive_within (log_of (past_of older)) x (kind_alive is_peer_kind (log_of (past_of older)) x l) in
    let long : length (log_of (past_of older)) ≡ length older = length_log older in
    omega arith

-- an entry that does nothing ends nobody
idle_same : (e : Entry) (older : List Entry) (x : ℕ) → act_now e older ≡ acts.Idle → x ≤ length older →
    is_peer (log_of (past_of (e ∷ older))) x ≡ is_peer (log_of (past_of older)) x
idle_same e older x i w =
    let log : List Act = log_of (past_of older) in
    let long : length (log_of (past_of older)) ≡ length older = length_log older in
    ap (λ (act : Act). is_peer (act ∷ log) x) i ∙ ap (is_kind is_peer_kind) (object_step acts.Idle log x (omega arith))

-- whom an end that does something ends
record IsEnded (q : ℕ) (older : List Entry) (x : ℕ) : Type 0 where
  peer : Joined
  at : peer_at (past_of older) q ≡ Some peer
  lives : is_peer (log_of (past_of older)) peer.label ≡ true
  is : peer.label ≡ x

ended_by : (q : ℕ) (why : EndCause) (older : List Entry) (x : ℕ) → is_peer (log_of (past_of older)) x ≡ true →
    is_peer (log_of (past_of (entries.End q why ∷ older))) x ≡ false → IsEnded q older x
ended_by q why older x l d = by (peer_at (past_of older) q) refl
  where
    log : List Act
    log = log_of (past_of older)

    idle : act_now (entries.End q why) older ≡ acts.Idle → IsEnded q older x
    idle i = absurd (true≢false (sym l ∙ sym (idle_same (entries.End q why) older x i (lives_within older x l)) ∙ d))

    same : (b : Bool) → (true && not b) ≡ false → b ≡ true
    same true h = refl
    same false h = cc

    of_it : (peer : Joined) (b : Bool) → peer_at (past_of older) q ≡ Some peer → is_peer log peer.label ≡ b →
        IsEnded q older x
    of_it peer true e f =
        let ends : (is_peer log x && not (x == peer.label)) ≡ false =
        sym (peer_ended q why older peer x e f (lives_within older x l)) ∙ d in
        let here : (x == peer.label) ≡ true =
        same (x == peer.label) (ap (λ (b : Bool). b && not (x == peer.label)) (sym l) ∙ ends) in
        record { peer = peer; at = e; lives = f; is = sym (eqb-true x peer.label here) }
    of_it peer false e f =
        idle (ap (λ (o : Option Joined). cleaned (of_peer o (λ (p : Joined). only (acts.Gone p.label why))).act log) e
        ∙ ap (λ (b : Bool). (if b then acts.Gone peer.label why else acts.Idle)) f)

    by : (o : Option Joined) → peer_at (past_of older) q ≡ o → IsEnded q older x
    by None e = idle
        (ap (λ (o : Option Joined). cleaned (of_peer o (λ (p : Joined). only (acts.Gone p.label why))).act log) e)
    by (Some peer) e = of_it peer (is_peer log peer.label) e refl

-- who is alive before the entry, and not after it, ends by it
was_alive : (e : Entry) (older : List Entry) (x : ℕ) → is_peer (log_of (past_of older)) x ≡ true →
    is_peer (log_of (past_of (e ∷ older))) x ≡ false →
    group_at e older x ≡ nothing
was_alive (entries.End q why) older x l d =
    let it : IsEnded q older x = ended_by q why older x l d in
    ap (group_at (entries.End q why) older) (sym it.is) ∙ last_told q why older it.peer it.at it.lives
was_alive (entries.Join role) older x l d =
    absurd (true≢false (sym l ∙ sym (peer_kept (entries.Join role) older x refl (lives_within older x l)) ∙ d))
was_alive (entries.Message q id opcode body) older x l d =
    absurd (true≢false
    (sym l ∙ sym (peer_kept (entries.Message q id opcode body) older x refl (lives_within older x l)) ∙ d))
was_alive (entries.Tokens q tokens) older x l d =
    absurd (true≢false (sym l ∙ sym (peer_kept (entries.Tokens q tokens) older x refl (lives_within older x l)) ∙ d))
was_alive (entries.BadSize q head) older x l d =
    absurd (true≢false (sym l ∙ sym (peer_kept (entries.BadSize q head) older x refl (lives_within older x l)) ∙ d))
was_alive (entries.Shell step) older x l d =
    absurd (true≢false (sym l ∙ sym (peer_kept (entries.Shell step) older x refl (lives_within older x l)) ∙ d))
was_alive (entries.Took q bytes) older x l d =
    absurd (true≢false (sym l ∙ sym (peer_kept (entries.Took q bytes) older x refl (lives_within older x l)) ∙ d))

-- who has the entry's label joined by it
joins_alive : (e : Entry) (older : List Entry) (q : ℕ) (peer : Joined) → peer_at (past_of (e ∷ older)) q ≡ Some peer →
    peer.label ≡ length older + 1 →
    is_peer (log_of (past_of (e ∷ older))) peer.label ≡ true
joins_alive (entries.Join role) older q peer at n =
    ap (is_peer (log_of (past_of (entries.Join role ∷ older)))) n ∙ peer_new role older
joins_alive (entries.Message p id opcode body) older q peer at n = let w : peer.label ≤ length older =
    label_within older q peer at in absurd (omega arith)
joins_alive (entries.BadSize p head) older q peer at n = let w : peer.label ≤ length older =
    label_within older q peer at in absurd (omega arith)
joins_alive (entries.End p why) older q peer at n = let w : peer.label ≤ length older =
    label_within older q peer at in absurd (omega arith)
joins_alive (entries.Tokens p tokens) older q peer at n = let w : peer.label ≤ length older =
    label_within older q peer at in absurd (omega arith)
joins_alive (entries.Shell step) older q peer at n = let w : peer.label ≤ length older =
    label_within older q peer at in absurd (omega arith)
joins_alive (entries.Took p bytes) older q peer at n = let w : peer.label ≤ length older =
    label_within older q peer at in absurd (omega arith)

pub dead_told : (e : Entry) (older : List Entry) (q : ℕ) (peer : Joined) → peer_at (past_of (e ∷ older)) q ≡ Some peer →
    is_peer (log_of (past_of (e ∷ older))) peer.label ≡ false → group_at e older peer.label ≡ nothing
dead_told e older q peer at d = by (is_peer (log_of (past_of older)) peer.label) refl
  where
    by : (b : Bool) → is_peer (log_of (past_of older)) peer.label ≡ b → group_at e older peer.label ≡ nothing
    by true l = was_alive e older peer.label l d
    by false l = quiet e older peer.label l (λ n. true≢false (sym (joins_alive e older q peer at n) ∙ d))
