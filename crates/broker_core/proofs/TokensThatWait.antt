-- What waits for a peer after an entry: more for the peer of tokens, less for that of a message that takes one, and the
-- same for all others.
use Rattle.std.proofs.Common.{◌≡◌, ℕ, ◌<◌, ◌≤◌, List, [], ◌∷◌, length, Bool, false, Option, Some, None, ap, refl, ◌∙◌, arith}
use Rattle.std.specs.Prelude.{if◌then◌else◌, ◌==◌}
use Rattle.std.proofs.lemmas.Bool.{eq-eqb, ne_eqb}
use Rattle.broker_model.specs.declared.journal.Entry.{Entry}
use Rattle.broker_model.specs.declared.journal.Entry.TheVariants as entries
use Rattle.broker_model.specs.Ids.{Joined, Past, peer_at, object_at}
use Rattle.broker_model.specs.Resolve.{past_of}
use Rattle.broker_model.specs.Waiting.{without_taken, takes_token, with_tokens, changed_for, waiting_with}
use Rattle.broker_model.proofs.LabelsRiseByNumber.{label_within}

-- a message takes one from its peer, if it takes one
pub message_own : (q id opcode : ℕ) (body : List ℕ) (past : Past) (peer : Joined) → peer_at past q ≡ Some peer →
    waiting_with (entries.Message q id opcode body) past peer.label
    ≡ without_taken (takes_token (object_at past peer.label id) opcode) (past.waiting peer.label)
message_own q id opcode body past peer e =
    let taken : Joined → List ℕ → List ℕ = λ p. without_taken (takes_token (object_at past p.label id) opcode) in
    ap (λ (o : Option Joined). changed_for o taken past.waiting peer.label) e
    ∙ ap (λ (b : Bool). if b then taken peer (past.waiting peer.label) else past.waiting peer.label)
    (eq-eqb peer.label peer.label refl)

-- and nothing changes for any other
pub message_other : (q id opcode : ℕ) (body : List ℕ) (past : Past) (peer : Joined) (p : ℕ) →
    peer_at past q ≡ Some peer →
    (peer.label == p) ≡ false → waiting_with (entries.Message q id opcode body) past p ≡ past.waiting p
message_other q id opcode body past peer p e d =
    let taken : Joined → List ℕ → List ℕ = λ p. without_taken (takes_token (object_at past p.label id) opcode) in
    ap (λ (o : Option Joined). changed_for o taken past.waiting p) e
    ∙ ap (λ (b : Bool). if b then taken peer (past.waiting p) else past.waiting p) d

-- tokens wait behind those of their peer
pub tokens_own : (q : ℕ) (tokens : List ℕ) (past : Past) (peer : Joined) → peer_at past q ≡ Some peer →
    waiting_with (entries.Tokens q tokens) past peer.label ≡ with_tokens (past.waiting peer.label) tokens
tokens_own q tokens past peer e =
    ap (λ (o : Option Joined). changed_for o (λ peer waiting. with_tokens waiting tokens) past.waiting peer.label) e
    ∙ ap (λ (b : Bool). if b then with_tokens (past.waiting peer.label) tokens else past.waiting peer.label)
    (eq-eqb peer.label peer.label refl)

-- and nothing changes for any other
pub tokens_other : (q : ℕ) (tokens : List ℕ) (past : Past) (peer : Joined) (p : ℕ) → peer_at past q ≡ Some peer →
    (peer.label == p) ≡ false →
    waiting_with (entries.Tokens q tokens) past p ≡ past.waiting p
tokens_other q tokens past peer p e d =
    ap (λ (o : Option Joined). changed_for o (λ peer waiting. with_tokens waiting tokens) past.waiting p) e
    ∙ ap (λ (b : Bool). if b then with_tokens (past.waiting p) tokens else past.waiting p) d

-- none waits for a label that is yet to come

none_by : (older : List Entry) (q : ℕ) (change : Joined → List ℕ → List ℕ) (p : ℕ) (o : Option Joined) →
    peer_at (past_of older) q ≡ o → length older < p →
    changed_for o change (past_of older).waiting p ≡ (past_of older).waiting p
none_by older q change p None e h = refl
none_by older q change p (Some peer) e h =
    let within : peer.label ≤ length older = label_within older q peer e in
    ap (λ (b : Bool). if b then change peer ((past_of older).waiting p) else (past_of older).waiting p)
    (ne_eqb peer.label p (λ d. omega arith))

none_after : (e : Entry) (older : List Entry) (p : ℕ) → length older < p →
    waiting_with e (past_of older) p ≡ (past_of older).waiting p
none_after (entries.Message q id opcode body) older p h =
    none_by older q (λ peer. without_taken (takes_token (object_at (past_of older) peer.label id) opcode)) p
    (peer_at (past_of older) q) refl h
none_after (entries.Tokens q tokens) older p h =
    none_by older q (λ peer waiting. with_tokens waiting tokens) p (peer_at (past_of older) q) refl h
none_after (entries.Join role) older p h = refl
none_after (entries.BadSize q head) older p h = refl
none_after (entries.End q why) older p h = refl
none_after (entries.Shell step) older p h = refl
none_after (entries.Took q bytes) older p h = refl

pub none_waits : (journal : List Entry) (p : ℕ) → length journal < p → (past_of journal).waiting p ≡ []
none_waits [] p h = refl
none_waits (e ∷ older) p h = none_after e older p (omega arith) ∙ none_waits older p (omega arith)
