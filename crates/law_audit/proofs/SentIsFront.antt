-- What was sent to an application says a front of the groups that were put for its fields, where each line is as it
-- should be.
use Rattle.std.proofs.Common.{◌≡◌, ℕ, ◌^◌, ◌<◌, Bool, true, false, List, [], ◌∷◌, ◌++◌, length, Option, Some, None, refl, sym, ap, subst, ◌∙◌, arith, append_assoc, length-append}
use Rattle.std.specs.Prelude.{◌==◌, if◌then◌else◌}
use Rattle.std.proofs.lemmas.Bool.{eqb-true}
use Rattle.std.proofs.lemmas.List.{append-nil}
use Rattle.std.proofs.lemmas.Option.{same_Some}
use Rattle.broker_steps.specs.Ranges.{store_limit}
use Rattle.relay_model.specs.declared.role.Role.TheVariants as roles
use Rattle.broker_model.specs.declared.journal.Entry.{Entry}
use Rattle.broker_model.specs.Ids.{Joined, peer_at}
use Rattle.broker_model.specs.Resolve.{past_of}
use Rattle.audit_fields.specs.Heard.{Heard, heard, IsLike}
use Rattle.audit_fields.proofs.MessagesPassed.{heard_none}
use Rattle.audit_fields.specs.Gathering.{is_app}
use Rattle.seat_set.specs.Playing.{IsMore}
use Rattle.broker_telling.specs.Sayable.{AreHeld}
use Rattle.audit_run.specs.declared.audit_line.AuditLine.{AuditLine}
use Rattle.audit_run.specs.declared.audit_line.AuditLine.TheVariants.{Step, Out}
use Rattle.audit_run.specs.Judged.{journal_of, owed, peer_of, sent, sent_more, IsGood, IsGoodFor}
use Rattle.audit_run.specs.Standing.{AreFair}
use Rattle.law_audit.specs.FieldGroups.{FieldGroup, groups_put, groups_heard}
use Rattle.law_audit.proofs.GroupsHeard.{no_messages, groups-append, owed_groups}
use Rattle.law_audit.proofs.LinesGrow.{HasBehind, step_adds, peer_stays, nobody_before, groups_grow}

-- the bytes say a front of the groups
pub record IsFront (groups : List FieldGroup) (all : List ℕ) : Type 0 where
  pub rest : List Heard
  pub is : groups_heard groups ≡ heard all ++ rest

none_front : (groups : List FieldGroup) → IsFront groups []
none_front groups = record {
  rest = groups_heard groups;
  is = ap (λ (l : List Heard). l ++ groups_heard groups) (sym (heard_none [] no_messages));
}

front_of_more : (groups front : List FieldGroup) (all : List ℕ) → HasBehind groups front → IsFront front all →
    IsFront groups all
front_of_more groups front all b f = record {
  rest = f.rest ++ groups_heard b.later;
  is =
      ap groups_heard b.is ∙ groups-append front b.later
      ∙ ap (λ (l : List Heard). l ++ groups_heard b.later) f.is
      ∙ append_assoc (heard all) f.rest (groups_heard b.later);
}

-- ---- who didn't join was sent nothing

unsent : (lines : List AuditLine) (q : ℕ) → peer_of lines q ≡ None → sent lines q ≡ []
unsent [] q none = refl
unsent (Step stamp line ∷ older) q none =
    unsent older q
    (nobody_before (journal_of older) (journal_of (Step stamp line ∷ older)) q (step_adds stamp line older) none)
unsent (Out p bytes ∷ older) q none =
    ap (λ (o : Option Joined). sent_more o (sent older q) (if p == q then bytes else [])) none

-- ---- a journal that grew

held_before : (more older : List Entry) → AreHeld (more ++ older) → AreHeld older
held_before [] older h = h
held_before (e ∷ more) older h = held_before more older h.1

few_before : (more older : List Entry) → length (more ++ older) < 2 ^ 32 → length older < 2 ^ 32
few_before more older few = (let long = length-append more older in omega (arith, few, long))

grown : (before after : List Entry) (q : ℕ) (peer : Joined) (all : List ℕ) → IsMore before after →
    (peer_at (past_of before) q ≡ None → all ≡ []) →
    (AreHeld before → length before < 2 ^ 32 → peer_at (past_of before) q ≡ Some peer →
    IsFront (groups_put store_limit before peer.label) all) →
    AreHeld after → length after < 2 ^ 32 → peer_at (past_of after) q ≡ Some peer →
    IsFront (groups_put store_limit after peer.label) all
grown before after q peer all m none front held few joined = by (peer_at (past_of before) q) refl
  where
    by : (o : Option Joined) → peer_at (past_of before) q ≡ o → IsFront (groups_put store_limit after peer.label) all
    by None e =
        subst (λ (l : List ℕ). IsFront (groups_put store_limit after peer.label) l) (sym (none e))
        (none_front (groups_put store_limit after peer.label))
    by (Some own) e =
        let same : own ≡ peer = same_Some own peer (sym (peer_stays before after q own m e) ∙ joined) in
        let held' = held_before m.more before (subst AreHeld m.is held) in
        let few' = few_before m.more before (subst (λ (j : List Entry). length j < 2 ^ 32) m.is few) in
        front_of_more (groups_put store_limit after peer.label) (groups_put store_limit before peer.label) all
        (groups_grow store_limit before after peer.label m)
        (front held' few' (e ∙ ap (λ (p : Joined). Some p) same))

-- ---- what is sent

-- what is sent to the peer itself is like what it is owed, all together
sent_front : (older : List AuditLine) (q : ℕ) (bytes : List ℕ) (peer : Joined) → IsGood q bytes older →
    AreHeld (journal_of older) → length (journal_of older) < 2 ^ 32 → peer_of older q ≡ Some peer →
    peer.role ≡ roles.App →
    IsFront (groups_put store_limit (journal_of older) peer.label) (sent older q ++ bytes)
sent_front older q bytes peer good held few joined app =
    let own : IsGoodFor (journal_of older) (Some peer) (sent older q ++ bytes) =
    subst (λ (o : Option Joined). IsGoodFor (journal_of older) o (sent older q ++ bytes)) joined good in
    let like : IsLike (owed (journal_of older) peer) (sent older q ++ bytes) = own (ap is_app app) in
    record {
      rest = like.rest;
      is = sym (owed_groups store_limit (journal_of older) q peer held few joined app) ∙ like.front;
    }

out_front : (older : List AuditLine) (p q : ℕ) (bytes : List ℕ) (peer : Joined) → IsGood p bytes older →
    AreHeld (journal_of older) → length (journal_of older) < 2 ^ 32 → peer_of older q ≡ Some peer →
    peer.role ≡ roles.App →
    IsFront (groups_put store_limit (journal_of older) peer.label) (sent older q) →
    IsFront (groups_put store_limit (journal_of older) peer.label) (sent (Out p bytes ∷ older) q)
out_front older p q bytes peer good held few joined app front = by (p == q) refl
  where
    groups : List FieldGroup
    groups = groups_put store_limit (journal_of older) peer.label

    by : (b : Bool) → (p == q) ≡ b →
        IsFront groups (sent_more (peer_of older q) (sent older q) (if b then bytes else []))
    by true e =
        subst (λ (o : Option Joined). IsFront groups (sent_more o (sent older q) bytes)) (sym joined)
        (sent_front older q bytes peer (subst (λ (n : ℕ). IsGood n bytes older) (eqb-true p q e) good) held few joined
        app)
    by false e =
        subst (λ (o : Option Joined). IsFront groups (sent_more o (sent older q) [])) (sym joined)
        (subst (λ (l : List ℕ). IsFront groups l) (sym (append-nil (sent older q))) front)

-- ---- all lines

pub sent_is_front : (lines : List AuditLine) (q : ℕ) (peer : Joined) → AreFair lines → AreHeld (journal_of lines) →
    length (journal_of lines) < 2 ^ 32 → peer_of lines q ≡ Some peer → peer.role ≡ roles.App →
    IsFront (groups_put store_limit (journal_of lines) peer.label) (sent lines q)
sent_is_front [] q peer fair held few joined app = none_front (groups_put store_limit (journal_of []) peer.label)
sent_is_front (Step stamp line ∷ older) q peer fair held few joined app =
    grown (journal_of older) (journal_of (Step stamp line ∷ older)) q peer (sent older q) (step_adds stamp line older)
    (unsent older q) (λ h f j. sent_is_front older q peer fair.1 h f j app) held few joined
sent_is_front (Out p bytes ∷ older) q peer fair held few joined app =
    out_front older p q bytes peer fair.0 held few joined app (sent_is_front older q peer fair.1 held few joined app)
