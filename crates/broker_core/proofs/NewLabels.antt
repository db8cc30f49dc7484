-- Nothing is out for a label beyond the journal.
use Rattle.std.proofs.Common.{if◌then◌else◌, ◌≡◌, ℕ, ◌+◌, ◌<◌, ◌≤◌, List, [], ◌∷◌, length, Bool, false, Option, Some, None, refl, ap, ◌∙◌, arith, true, inl}
use Rattle.std.proofs.lemmas.Bool.{ne_eqb}
use Rattle.relay_model.specs.Objects.{is_peer_kind, is_kind, is_peer}
use Rattle.relay_model.proofs.ObjectLaws.{object_beyond}
use Rattle.broker_model.specs.declared.journal.Entry.{Entry}
use Rattle.broker_model.specs.declared.journal.Entry.TheVariants as entries
use Rattle.broker_model.specs.Ids.{Joined, log_of, peer_at, Made}
use Rattle.broker_model.specs.Resolve.{past_of}
use Rattle.broker_model.specs.Groups.{nothing}
use Rattle.broker_model.specs.Out.{Outgoing, group_at, is_label, took_at, before_group, out_for}
use Rattle.broker_model.proofs.LivePeersJoined.{length_log}
use Rattle.broker_model.proofs.LabelsRiseByNumber.{label_within}
use Rattle.broker_model.proofs.QuietStoresStay.{quiet_out}
use Rattle.std.specs.FinMap as map
use Rattle.im_objects.specs.Objects.{Objects, Stands}
use Rattle.broker_model.specs.Tables.{calls_for, live_id}
use Rattle.broker_model.proofs.IdsAreNames.{IsIn}
use Rattle.broker_model.proofs.MadeObjectsStand.{sound}
use Rattle.broker_model.proofs.LabelsAreIds.{unmade, found_by_label}
use Rattle.broker_model.specs.Kept.{kept_of}
use Rattle.broker_model.proofs.KeptIsEnough.{kept_in}
use Rattle.broker_audience.specs.Directed.{IsNewest}

-- an entry tells nothing to who was no peer before it and does not join by it
abbrev pub TellsPeersAlone : Type 0
TellsPeersAlone =
    (e : Entry) (older : List Entry) (p : ℕ) → is_peer (log_of (past_of older)) p ≡ false → (p ≡ length older + 1 → ⊥) →
    group_at e older p ≡ nothing

beyond : (older : List Entry) (p : ℕ) → length older < p → is_peer (log_of (past_of older)) p ≡ false
beyond older p h =
    let long : length (log_of (past_of older)) ≡ length older = length_log older in
    ap (is_kind is_peer_kind) (object_beyond (log_of (past_of older)) p (omega arith))

-- no peer that joined has the label
no_label : (older : List Entry) (q p : ℕ) (o : Option Joined) → peer_at (past_of older) q ≡ o → length older < p →
    is_label o p ≡ false
no_label older q p None e h = refl
no_label older q p (Some peer) e h =
    let within : peer.label ≤ length older = label_within older q peer e in
    ne_eqb peer.label p (λ d. omega arith)

none_taken : (e : Entry) (older : List Entry) (p : ℕ) → length older < p → took_at e (past_of older) p ≡ 0
none_taken (entries.Took q bytes) older p h =
    ap (λ (b : Bool). if b then bytes else 0) (no_label older q p (peer_at (past_of older) q) refl h)
none_taken _ older p h = refl

-- nothing was put, and n bytes of it were taken
abbrev after_taking : ℕ → Outgoing
after_taking n = record { put = nothing; taken = n; choked = false }

-- so what is out for a peer that joins next is only what its own join tells it
pub unborn : TellsPeersAlone → (capacity : ℕ) (journal : List Entry) (p : ℕ) → length journal < p →
    out_for capacity journal p ≡ record { put = nothing; taken = 0; choked = false }
unborn quiet capacity [] p h = refl
unborn quiet capacity (e ∷ older) p h =
    let more : length older < p = omega arith in
    let none : took_at e (past_of older) p ≡ 0 = none_taken e older p more in
    quiet_out capacity e older p (quiet e older p (beyond older p more) (λ d. omega arith))
    ∙ ap (before_group e older p) (unborn quiet capacity older p more)
    ∙ ap (λ (n : ℕ). after_taking (0 + n)) none

-- The label of an entry to come is new.

-- no live peer's table has it
pub label_unused : (older : List Entry) (p : ℕ) (table : Objects) → is_peer (log_of (past_of older)) p ≡ true →
    Stands (calls_for older p) table →
    map.get table.ids (length older + 1) ≡ None
label_unused older p table l s =
    s.ids (length older + 1) ∙ found_by_label older p (length older + 1) l
    ∙ ap (live_id (log_of (past_of older)) p (length older + 1)) (unmade older (length older + 1) (omega arith))

newest_of : (n : ℕ) (made : List Made) → ((m : Made) → IsIn made m → m.label < n) → IsNewest n made
newest_of n [] h = tt
newest_of n (m ∷ made) h = h m (inl refl)

-- it is above all that are kept
pub newest : (older : List Entry) → IsNewest (length older + 1) (kept_of older)
newest older =
    newest_of (length older + 1) (kept_of older)
    (λ m i. (let w : m.label ≤ length older = (sound older m (kept_in older m i)).within in omega arith))
