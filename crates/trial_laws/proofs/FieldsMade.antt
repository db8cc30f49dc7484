-- What a peer's set-up asks for is made, unless the peer ended.
use Rattle.std.proofs.Common.{◌≡◌, ℕ, zero, suc, ◌+◌, ◌≤◌, Bool, true, false, not, List, [], ◌∷◌, ◌++◌, length, Option, Some, None, Result, refl, sym, ap, subst, ◌∙◌, arith, inl, inr}
use Rattle.std.specs.Prelude.{◌&&◌, ◌||◌, ◌==◌, if◌then◌else◌}
use Rattle.std.proofs.lemmas.Bool.{eq-eqb, ne_eqb}
use Rattle.std.proofs.lemmas.Option.{same_Some}
use Rattle.wl_proto.specs.declared.interface.Interface.TheVariants as interface
use Rattle.wl_proto.specs.declared.refuse.Refuse.{Refuse}
use Rattle.wl_proto.specs.Rows.{Message}
use Rattle.wl_proto.specs.Spelling.{spelling}
use Rattle.relay_model.specs.declared.act.Act.{Act}
use Rattle.relay_model.specs.declared.act.Act.TheVariants as acts
use Rattle.relay_model.specs.declared.act.EndCause.{EndCause}
use Rattle.relay_model.specs.declared.fault.Fault.{Fault}
use Rattle.relay_model.specs.declared.role.Role.{Role}
use Rattle.relay_model.specs.Objects.{is_kind, is_peer_kind, is_peer}
use Rattle.relay_model.specs.Idle.{cleaned}
use Rattle.relay_model.proofs.ObjectLaws.{object_step}
use Rattle.broker_model.specs.declared.journal.Entry.{Entry}
use Rattle.broker_model.specs.declared.journal.Entry.TheVariants as entries
use Rattle.broker_model.specs.Ids.{Made, Joined, Past, log_of, peer_in, peer_at, object_at}
use Rattle.broker_model.specs.Limits.{is_full}
use Rattle.broker_model.specs.Out.{act_at, act_now, out_for}
use Rattle.broker_model.specs.Refusals.{request_fault}
use Rattle.broker_model.specs.Requests.{Argument}
use Rattle.broker_model.specs.Resolve.{label_at, made_new, only, of_request, of_reading, of_message, of_peer, means, with_joined, past_of}
use Rattle.broker_model.specs.Settle.{is_bad, refused, due, cause_of, with_end, settled, settle, number_alive}
use Rattle.broker_model.specs.Stamps.{no_stamp}
use Rattle.broker_model.proofs.IdsAreNames.{IsIn}
use Rattle.broker_model.proofs.LabelsRiseByNumber.{label_within, one_number}
use Rattle.broker_model.proofs.LivePeersJoined.{length_log, joined_stays}
use Rattle.broker_model.proofs.MadeObjectsStand.{sound}
use Rattle.broker_model.proofs.SettlingEnds.{IsSettled, end_act, settles}
use Rattle.broker_core.specs.Broker.{Broker, with_step}
use Rattle.broker_core.specs.Stands.{end_of}
use Rattle.broker_core.specs.Taking.{lives_in, lives}
use Rattle.broker_core.proofs.OnlyEndsTakePeers.{peer_kept, peer_new, peer_ended}
use Rattle.client_side.specs.Messages.{Sent, field_setup}
use Rattle.trial_run.specs.Ran.{Ran, went, halted, ◌>>=◌}
use Rattle.trial_run.specs.Steps.{stepped, message_entry, messages_sent}
use Rattle.trial_laws.specs.RelayedBatches.{IsFieldOf}
use Rattle.trial_laws.proofs.BytesTaken.{step_peer}
use Rattle.trial_laws.proofs.ClientIds.{AreOwn, of_is, step_made}
use Rattle.trial_laws.proofs.RequestsWait.{bytes_of, bytes_each}
use Rattle.trial_laws.proofs.SetupSent.{IsMaking, AreMaking, OwnTo, read_as, entry_is, makes_step, setup_makes}

-- ---- ends stay

pub ended_before : (e : Entry) (older : List Entry) (q : ℕ) → end_of (e ∷ older) q ≡ None → end_of older q ≡ None
ended_before (entries.End n cause) older q h = by (n == q) h
  where
    by : (b : Bool) → (if b then Some cause else end_of older q) ≡ None → end_of older q ≡ None
    by true k = (let no : Some cause ≡ None = k in cc)
    by false k = k
ended_before (entries.Join role) older q h = h
ended_before (entries.Message n id opcode body) older q h = h
ended_before (entries.Tokens n tokens) older q h = h
ended_before (entries.BadSize n head) older q h = h
ended_before (entries.Shell step) older q h = h
ended_before (entries.Took n bytes) older q h = h

end_before : (journal : List Entry) (o : Option ℕ) (q : ℕ) → end_of (with_end journal o) q ≡ None →
    end_of journal q ≡ None
end_before journal None q h = h
end_before journal (Some n) q h = ended_before (entries.End n (cause_of journal n)) journal q h

settled_before : (capacity fuel : ℕ) (journal : List Entry) (q : ℕ) →
    end_of (settled capacity fuel journal) q ≡ None → end_of journal q ≡ None
settled_before capacity zero journal q h = h
settled_before capacity (suc n) journal q h =
    end_before journal (due capacity journal) q
    (settled_before capacity n (with_end journal (due capacity journal)) q h)

-- who has no end after a step has none before it
pub step_before : (capacity : ℕ) (e : Entry) (journal : List Entry) (q : ℕ) →
    end_of (settle capacity (e ∷ journal)) q ≡ None → end_of journal q ≡ None
step_before capacity e journal q h =
    ended_before e journal q (settled_before capacity (number_alive (e ∷ journal)) (e ∷ journal) q h)

-- ---- who joined lives until its end

last_one : (joined : List Joined) (x peer : Joined) (q : ℕ) → peer_in joined q ≡ None →
    peer_in (joined ++ x ∷ []) q ≡ Some peer → x ≡ peer
last_one joined x peer zero a b = cc
last_one [] x peer (suc zero) a b = same_Some x peer b
last_one [] x peer (suc (suc k)) a b = cc
last_one (z ∷ zs) x peer (suc zero) a b = cc
last_one (z ∷ zs) x peer (suc (suc k)) a b = last_one zs x peer (suc k) a b

-- who is there by an entry joined by it
pub joined_by : (e : Entry) (n : ℕ) (joined : List Joined) (peer : Joined) (q : ℕ) → peer_in joined q ≡ None →
    peer_in (with_joined e n joined) q ≡ Some peer → (role : Role) × (e ≡ entries.Join role) × (peer.label ≡ n)
joined_by (entries.Join role) n joined peer q a b =
    (role, refl, ap (λ (x : Joined). x.label) (sym (last_one joined (record { label = n; role = role }) peer q a b)))
joined_by (entries.Message k id opcode body) n joined peer q a b = cc
joined_by (entries.Tokens k tokens) n joined peer q a b = cc
joined_by (entries.BadSize k head) n joined peer q a b = cc
joined_by (entries.End k why) n joined peer q a b = cc
joined_by (entries.Shell step) n joined peer q a b = cc
joined_by (entries.Took k bytes) n joined peer q a b = cc

-- an end that ends nobody
idle_end : (n : ℕ) (why : EndCause) (older : List Entry) (x : ℕ) → x ≤ length older →
    act_now (entries.End n why) older ≡ acts.Idle → is_peer (log_of (past_of older)) x ≡ true →
    is_peer (log_of (past_of (entries.End n why ∷ older))) x ≡ true
idle_end n why older x within idle lives =
    let long : length (log_of (past_of older)) ≡ length older = length_log older in
    ap (λ (a : Act). is_peer (a ∷ log_of (past_of older)) x) idle
    ∙ ap (is_kind is_peer_kind) (object_step acts.Idle (log_of (past_of older)) x (omega arith)) ∙ lives

other_end : (n : ℕ) (why : EndCause) (older : List Entry) (q : ℕ) (peer : Joined) →
    peer_at (past_of older) q ≡ Some peer → (n ≡ q → ⊥) → is_peer (log_of (past_of older)) peer.label ≡ true →
    is_peer (log_of (past_of (entries.End n why ∷ older))) peer.label ≡ true
other_end n why older q peer j other lives = by (peer_at (past_of older) n) refl
  where
    within : peer.label ≤ length older
    within = label_within older q peer j

    ends : (p : Joined) (b : Bool) → peer_at (past_of older) n ≡ Some p →
        is_peer (log_of (past_of older)) p.label ≡ b →
        is_peer (log_of (past_of (entries.End n why ∷ older))) peer.label ≡ true
    ends p true f a =
        peer_ended n why older p peer.label f a within
        ∙ ap (λ (b : Bool). b && not (peer.label == p.label)) lives
        ∙ ap (λ (b : Bool). not b)
        (ne_eqb peer.label p.label (λ same. other (one_number older n q p peer f j (sym same))))
    ends p false f a =
        idle_end n why older peer.label within
        (ap (λ (act : Act). cleaned act (log_of (past_of older))) (end_act older n why p f)
        ∙ ap (λ (b : Bool). if b then acts.Gone p.label why else acts.Idle) a) lives

    by : (o : Option Joined) → peer_at (past_of older) n ≡ o →
        is_peer (log_of (past_of (entries.End n why ∷ older))) peer.label ≡ true
    by None f =
        idle_end n why older peer.label within
        (ap (λ (o : Option Joined). cleaned (of_peer o (λ p. only (acts.Gone p.label why))).act
        (log_of (past_of older))) f) lives
    by (Some p) f = ends p (is_peer (log_of (past_of older)) p.label) f refl

still_lives : (e : Entry) (older : List Entry) (q : ℕ) (peer : Joined) → peer_at (past_of older) q ≡ Some peer →
    end_of (e ∷ older) q ≡ None → is_peer (log_of (past_of older)) peer.label ≡ true →
    is_peer (log_of (past_of (e ∷ older))) peer.label ≡ true
still_lives (entries.End n why) older q peer j none lives =
    other_end n why older q peer j (λ same.
    let no : Some why ≡ None =
    ap (λ (b : Bool). if b then Some why else end_of older q) (sym (eq-eqb n q same)) ∙ none in cc) lives
still_lives (entries.Join role) older q peer j none lives =
    peer_kept (entries.Join role) older peer.label refl (label_within older q peer j) ∙ lives
still_lives (entries.Message n id opcode body) older q peer j none lives =
    peer_kept (entries.Message n id opcode body) older peer.label refl (label_within older q peer j) ∙ lives
still_lives (entries.Tokens n tokens) older q peer j none lives =
    peer_kept (entries.Tokens n tokens) older peer.label refl (label_within older q peer j) ∙ lives
still_lives (entries.BadSize n head) older q peer j none lives =
    peer_kept (entries.BadSize n head) older peer.label refl (label_within older q peer j) ∙ lives
still_lives (entries.Shell step) older q peer j none lives =
    peer_kept (entries.Shell step) older peer.label refl (label_within older q peer j) ∙ lives
still_lives (entries.Took n bytes) older q peer j none lives =
    peer_kept (entries.Took n bytes) older peer.label refl (label_within older q peer j) ∙ lives

nobody_yet : (q : ℕ) (peer : Joined) → peer_in [] q ≡ Some peer → ⊥
nobody_yet zero peer e = cc
nobody_yet (suc k) peer e = cc

pub lives_unless_ended : (journal : List Entry) (q : ℕ) (peer : Joined) → peer_at (past_of journal) q ≡ Some peer →
    end_of journal q ≡ None → is_peer (log_of (past_of journal)) peer.label ≡ true
lives_unless_ended [] q peer j none = absurd (nobody_yet q peer j)
lives_unless_ended (e ∷ older) q peer j none =
    by (peer_at (past_of older) q) refl (λ p i. lives_unless_ended older q p i (ended_before e older q none))
  where
    by : (o : Option Joined) → peer_at (past_of older) q ≡ o →
        ((p : Joined) → peer_at (past_of older) q ≡ Some p → is_peer (log_of (past_of older)) p.label ≡ true) →
        is_peer (log_of (past_of (e ∷ older))) peer.label ≡ true
    by None i before =
        let d = joined_by e (length older + 1) (past_of older).joined peer q i j in
        subst (λ (x : Entry). is_peer (log_of (past_of (x ∷ older))) peer.label ≡ true) (sym d.1)
        (subst (λ n. is_peer (log_of (past_of (entries.Join d.0 ∷ older))) n ≡ true) (sym d.2) (peer_new d.0 older))
    by (Some p) i before =
        let same : p ≡ peer =
        same_Some p peer (sym (joined_stays e (length older + 1) (past_of older).joined q p i) ∙ j) in
        still_lives e older q peer (i ∙ ap (λ (x : Joined). Some x) same) none
        (ap (λ (x : Joined). is_peer (log_of (past_of older)) x.label) (sym same) ∙ before p i)

-- ---- and its messages are accepted

settled_refused : (capacity fuel : ℕ) (journal : List Entry) (q : ℕ) →
    refused (settled capacity fuel journal) q ≡ refused journal q
settled_refused capacity zero journal q = refl
settled_refused capacity (suc n) journal q =
    settled_refused capacity n (with_end journal (due capacity journal)) q ∙ by (due capacity journal)
  where
    by : (o : Option ℕ) → refused (with_end journal o) q ≡ refused journal q
    by None = refl
    by (Some k) = refl

not_left : (a b c : Bool) → a ≡ true → (a && (b || c)) ≡ false → b ≡ false
not_left true true c h k = cc
not_left true false c h k = refl
not_left false b c h k = cc

-- a message after which its peer has no end wasn't refused
accepted : (capacity q id opcode : ℕ) (body : List ℕ) (journal : List Entry) (peer : Joined) →
    peer_at (past_of journal) q ≡ Some peer →
    end_of (settle capacity (entries.Message q id opcode body ∷ journal)) q ≡ None →
    is_bad (act_at (entries.Message q id opcode body) journal) ≡ false
accepted capacity q id opcode body journal peer j none =
    let e : Entry = entries.Message q id opcode body in
    let after : List Entry = settle capacity (e ∷ journal) in
    let joined : peer_at (past_of after) q ≡ Some peer = step_peer capacity e journal q peer j in
    let s : IsSettled capacity after = settles capacity (number_alive (e ∷ journal)) (e ∷ journal) (omega arith) in
    ap (λ (b : Bool). if b then is_bad (act_at e journal) else refused journal q) (sym (eq-eqb q q refl))
    ∙ sym (settled_refused capacity (number_alive (e ∷ journal)) (e ∷ journal) q)
    ∙ not_left (is_peer (log_of (past_of after)) peer.label) (refused after q)
    (out_for capacity after peer.label).choked (lives_unless_ended after q peer joined none) (s.nobody q peer joined)

-- ---- so what they ask for is made

-- the peer with the label p made something under the id
abbrev pub HasId : List Made → (p id : ℕ) → Type 0
HasId made p id = (m : Made) × IsIn made m × (m.peer ≡ p) × (m.id ≡ id)

more_in : (new made : List Made) (m : Made) → IsIn made m → IsIn (new ++ made) m
more_in [] made m i = i
more_in (x ∷ new) made m i = inr (more_in new made m i)

front_in : (new made : List Made) (m : Made) → IsIn new m → IsIn (new ++ made) m
front_in [] made m i = absurd i
front_in (x ∷ new) made m (inl e) = inl e
front_in (x ∷ new) made m (inr i) = inr (front_in new made m i)

-- what was made stays
pub id_stays : (capacity : ℕ) (e : Entry) (journal : List Entry) (p id : ℕ) → HasId (past_of journal).made p id →
    HasId (past_of (settle capacity (e ∷ journal))).made p id
id_stays capacity e journal p id h =
    subst (λ (l : List Made). HasId l p id) (sym (step_made capacity e journal)) (
      h.0,
      more_in (means e (length journal + 1) (past_of journal)).made (past_of journal).made h.0 h.1,
      h.2,
      h.3,
    )

request_id : (past : Past) (k n : ℕ) (peer : Joined) (x : ℕ) (s : Sent) (o : Option Fault) → IsMaking n s →
    is_bad (of_request past k peer x s.message o).act ≡ false →
    HasId (of_request past k peer x s.message o).made peer.label (n + 1)
request_id past k n peer x s (Some f) h good = (let no : true ≡ false = good in cc)
request_id past k n peer x s None h good =
    subst (λ (a : Option Argument). HasId (made_new peer.label k a) peer.label (n + 1)) (sym h.new)
    (record { peer = peer.label; id = n + 1; label = k; interface = h.interface }, inl refl, refl, refl)

message_id : (past : Past) (k n bound : ℕ) (peer : Joined) (s : Sent) (o : Option Made) → IsMaking n s →
    AreOwn past.made peer.label bound → object_at past peer.label s.object ≡ o →
    is_bad (of_message past k peer s.message.opcode (spelling s.message.values) o).act ≡ false →
    HasId (of_message past k peer s.message.opcode (spelling s.message.values) o).made peer.label (n + 1)
message_id past k n bound peer s None h own e good = (let no : true ≡ false = good in cc)
message_id past k n bound peer s (Some x) h own e good =
    let reads = read_as past n bound peer s x h own e in
    subst (λ (r : Result Message Refuse). is_bad (of_reading past k peer x.label r).act ≡ false →
    HasId (of_reading past k peer x.label r).made peer.label (n + 1)) (sym reads)
    (λ fine. request_id past k n peer x.label s
    (request_fault past peer.label x.label peer.role (label_at past peer.label) s.message) h fine) good

-- the request of the set-up that the peer sends
abbrev pub entry_of : ℕ → Sent → Entry
entry_of q s = entries.Message q s.object s.message.opcode (spelling s.message.values)

pub made_id : (capacity q n bound : ℕ) (s : Sent) (journal : List Entry) (peer : Joined) →
    peer_at (past_of journal) q ≡ Some peer → IsMaking n s → AreOwn (past_of journal).made peer.label bound →
    end_of (settle capacity (entry_of q s ∷ journal)) q ≡ None →
    HasId (past_of (settle capacity (entry_of q s ∷ journal))).made peer.label (n + 1)
made_id capacity q n bound s journal peer j h own none =
    let past : Past = past_of journal in
    let k : ℕ = length journal + 1 in
    let body : List ℕ = spelling s.message.values in
    let e : Entry = entry_of q s in
    let is = of_is (peer_at past q)
    (λ other. of_message past k other s.message.opcode body (object_at past other.label s.object)) peer j in
    let good : is_bad (of_message past k peer s.message.opcode body (object_at past peer.label s.object)).act ≡ false =
    ap (λ m. is_bad m.act) (sym is) ∙ accepted capacity q s.object s.message.opcode body journal peer j none in
    let made = message_id past k n bound peer s (object_at past peer.label s.object) h own refl good in
    subst (λ (l : List Made). HasId l peer.label (n + 1)) (sym (step_made capacity e journal)) (
      made.0,
      front_in (means e k past).made past.made made.0
          (subst (λ m. IsIn m.made made.0) (sym is) made.1),
      made.2,
      made.3,
    )

-- the display of who just joined
pub join_id : (capacity : ℕ) (role : Role) (journal : List Entry) →
    HasId (past_of (settle capacity (entries.Join role ∷ journal))).made (length journal + 1) 1
join_id capacity role journal =
    let p : ℕ = length journal + 1 in
    subst (λ (l : List Made). HasId l p 1) (sym (step_made capacity (entries.Join role) journal))
    (record { peer = p; id = 1; label = p; interface = interface.Display }, inl refl, refl, refl)

-- it is its field
pub field_there : (journal : List Entry) (p : ℕ) → HasId (past_of journal).made p 7 →
    (f : ℕ) × IsFieldOf journal p f
field_there journal p h = (
  h.0.label,
  record { made = h.0; is = (sound journal h.0 h.1).known; own = h.2; input = h.3 },
)

-- ---- one set-up

-- unless the peer with the number q ended, it has this id
abbrev pub HasIdIn : ℕ → Joined → ℕ → Broker → Type 0
HasIdIn q peer id b = end_of b.journal q ≡ None → HasId (past_of b.journal).made peer.label id

abbrev Goes : (q : ℕ) (peer : Joined) (id : ℕ) → Ran Broker → Type 0
Goes q peer id r = r.is_full ≡ false → HasIdIn q peer id r.now

all_made : (q n : ℕ) (ss : List Sent) (b : Broker) (peer : Joined) → peer_at (past_of b.journal) q ≡ Some peer →
    AreMaking n ss → OwnTo peer n b → HasIdIn q peer n b →
    Goes q peer (n + length ss) (messages_sent q (bytes_each ss) b)
unfolding messages_sent stepped
all_made q n [] b peer j h own has = λ going none.
    subst (HasId (past_of b.journal).made peer.label) (let e : n ≡ n + 0 = omega arith in e) (has none)
all_made q n (s ∷ more) b peer j h own has =
    let entry : Entry = message_entry q (bytes_of s) in
    by (lives b.journal q) (is_full b.limits b.journal entry) refl
    (all_made q (n + 1) more (with_step entry no_stamp b) peer
    (step_peer b.limits.store entry b.journal q peer j) h.1 (makes_step b.limits.store q n s b.journal peer j h.0 own)
    (subst (λ (x : Entry). end_of (settle b.limits.store (x ∷ b.journal)) q ≡ None →
    HasId (past_of (settle b.limits.store (x ∷ b.journal))).made peer.label (n + 1)) (sym (entry_is q n s h.0))
    (λ none. made_id b.limits.store q n n s b.journal peer j h.0 own none)))
  where
    by : (live full : Bool) → lives b.journal q ≡ live →
        Goes q peer ((n + 1) + length more)
        (messages_sent q (bytes_each more) (with_step (message_entry q (bytes_of s)) no_stamp b)) →
        Goes q peer (n + length (s ∷ more))
        (if live then (if full then halted b else went (with_step (message_entry q (bytes_of s)) no_stamp b))
        >>= messages_sent q (bytes_each more) else went b)
    by false full dead k going none =
        let alive : lives b.journal q ≡ true =
        ap (lives_in b.journal) j ∙ lives_unless_ended b.journal q peer j none in
        absurd (let no : true ≡ false = sym alive ∙ dead in cc)
    by true true live k going none = absurd (let no : true ≡ false = going in cc)
    by true false live k going none =
        subst (HasId _ peer.label) (let e : (n + 1) + length more ≡ n + length (s ∷ more) = omega arith in e)
        (k going none)

-- unless the journal is full for it, or the peer ended
pub setup_made : (q : ℕ) (b : Broker) (peer : Joined) → peer_at (past_of b.journal) q ≡ Some peer → OwnTo peer 1 b →
    HasIdIn q peer 1 b → Goes q peer 7 (messages_sent q (bytes_each field_setup) b)
setup_made q b peer j own has = all_made q 1 field_setup b peer j setup_makes own has
