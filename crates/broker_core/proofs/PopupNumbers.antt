-- A live popup's peer has the same number among all that joined as among those who are alive.
use Rattle.std.proofs.Common.{◌≡◌, ℕ, suc, ◌+◌, List, [], ◌∷◌, length, Bool, true, false, cond, Option, Some, None, ap, refl, sym, ◌∙◌, arith}
use Rattle.std.specs.Prelude.{◌==◌, filter, if◌then◌else◌}
use Rattle.std.specs.List.{AllByRecursion}
use Rattle.std.proofs.lemmas.Bool.{eqb-true, ne_eqb, true≢false}
use Rattle.relay_model.specs.Objects.{is_peer, alive, peer_of}
use Rattle.relay_model.proofs.ActsOrIdle.{history_is}
use Rattle.broker_model.specs.declared.journal.Entry.{Entry}
use Rattle.broker_model.specs.declared.journal.Entry.TheVariants as entries
use Rattle.broker_model.specs.Ids.{Made, Joined, log_of, made_as}
use Rattle.broker_model.specs.Resolve.{past_of, resolve}
use Rattle.broker_model.proofs.IdsAreNames.{IsWith, made_with}
use Rattle.broker_model.proofs.MadeObjectsStand.{sound}
use Rattle.broker_audience.specs.Lives.{Numbered}
use Rattle.broker_core.specs.Stands.{numbered, is_alive, roster}
use Rattle.broker_core.specs.Watched.{number_at, maker}
use Rattle.broker_model.proofs.EachElement.{each_of}
use Rattle.broker_model.proofs.OwnersLive.{owner_lives}
use Rattle.broker_core.proofs.LivePeersKept.{all_more}
use Rattle.relay_model.specs.declared.act.Act.{Act}

-- the peer of each live popup has the same number among these as among those
abbrev pub IsNumberKept : List Act → List Made → (peers live : List Numbered) → Type 0
IsNumberKept log made peers live =
    (x : ℕ) → alive log x ≡ true → number_at peers (maker (made_as made x)) ≡ number_at live (maker (made_as made x))

-- each with the label passes the test
abbrev Passes : (Numbered → Bool) → ℕ → Numbered → Type 0
Passes test label p = (p.peer.label == label) ≡ true → test p ≡ true

-- its number among those who pass
number_passed : (test : Numbered → Bool) (label : ℕ) (ps : List Numbered) → AllByRecursion (Passes test label) ps →
    number_at ps label ≡ number_at (filter test ps) label
number_passed test label [] h = refl
number_passed test label (p ∷ ps) h = by (p.peer.label == label) (test p) refl refl (number_passed test label ps h.1)
  where
    by : (b c : Bool) → (p.peer.label == label) ≡ b → test p ≡ c →
        number_at ps label ≡ number_at (filter test ps) label →
        (if b then p.number else number_at ps label) ≡ number_at (cond c (p ∷ filter test ps) (filter test ps)) label
    by true true e f k = rw e refl
    by true false e f k = absurd (true≢false (sym (h.0 e) ∙ f))
    by false true e f k = rw e k
    by false false e f k = k

-- no peer has the label of the shell

abbrev IsLabelled : Joined → Type 0
IsLabelled peer = (peer.label == 0) ≡ false

all_labelled : (journal : List Entry) → AllByRecursion IsLabelled (past_of journal).joined
all_labelled [] = tt
all_labelled (entries.Join role ∷ older) =
    all_more IsLabelled (past_of older).joined (record { label = length older + 1; role = role }) (all_labelled older)
    (ne_eqb (length older + 1) 0 (λ d. omega arith))
all_labelled (entries.Message q id opcode body ∷ older) = all_labelled older
all_labelled (entries.BadSize q head ∷ older) = all_labelled older
all_labelled (entries.End q why ∷ older) = all_labelled older
all_labelled (entries.Tokens q tokens ∷ older) = all_labelled older
all_labelled (entries.Shell step ∷ older) = all_labelled older
all_labelled (entries.Took q bytes ∷ older) = all_labelled older

none_passes : (test : Numbered → Bool) (k : ℕ) (joined : List Joined) → AllByRecursion IsLabelled joined →
    AllByRecursion (Passes test 0) (numbered k joined)
none_passes test k [] h = tt
none_passes test k (peer ∷ joined) h = ((λ e. absurd (true≢false (sym e ∙ h.0))), none_passes test (suc k) joined h.1)

-- a live peer passes
lives_passes : (journal : List Entry) (label : ℕ) (ps : List Numbered) →
    is_peer (log_of (past_of journal)) label ≡ true →
    AllByRecursion (Passes (is_alive (log_of (past_of journal))) label) ps
lives_passes journal label ps l =
    each_of (Passes (is_alive (log_of (past_of journal))) label) ps
    (λ p e. ap (is_peer (log_of (past_of journal))) (eqb-true p.peer.label label e) ∙ l)

pub number_kept : (journal : List Entry) →
    IsNumberKept (log_of (past_of journal)) (past_of journal).made (numbered 1 (past_of journal).joined)
    (roster journal)
number_kept journal x l =
    number_passed (is_alive (log_of (past_of journal))) (maker (made_as (past_of journal).made x))
    (numbered 1 (past_of journal).joined)
    (by (made_as (past_of journal).made x) refl)
  where
    by : (o : Option Made) → made_as (past_of journal).made x ≡ o →
        AllByRecursion (Passes (is_alive (log_of (past_of journal))) (maker o)) (numbered 1 (past_of journal).joined)
    by None e = none_passes (is_alive (log_of (past_of journal))) 1 (past_of journal).joined (all_labelled journal)
    by (Some m) e =
        let w : IsWith (past_of journal).made x m = made_with (past_of journal).made x m e in
        let here : alive (log_of (past_of journal)) m.label ≡ true =
        ap (alive (log_of (past_of journal))) w.named ∙ l in
        let own : peer_of (log_of (past_of journal)) m.label ≡ Some m.peer = (sound journal m w.among).own here in
        lives_passes journal m.peer (numbered 1 (past_of journal).joined)
        (owner_lives (log_of (past_of journal)) m.label m.peer (history_is (resolve journal)) own)
