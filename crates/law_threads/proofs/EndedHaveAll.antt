-- What is put for a peer that has ended is all that is ever put for it
use Rattle.std.proofs.Common.{◌≡◌, ℕ, zero, suc, ◌+◌, Bool, true, false, not, List, [], ◌∷◌, ◌++◌, length, Option, Some, None, refl, sym, ap, ◌∙◌, subst, append-nil}
use Rattle.std.specs.Prelude.{if◌then◌else◌, ◌==◌, ◌&&◌}
use Rattle.std.proofs.lemmas.Bool.{eqb-true}
use Rattle.std.proofs.lemmas.Option.{same_Some}
use Rattle.trial_run.specs.EndCause.{EndCause}
use Rattle.trial_run.specs.Objects.{is_peer}
use Rattle.broker_steps.specs.declared.limits.Limits.{Limits}
use Rattle.broker_model.specs.declared.journal.Entry.{Entry}
use Rattle.broker_model.specs.declared.journal.Entry.TheVariants as entries
use Rattle.broker_model.specs.Groups.{Piece}
use Rattle.broker_model.specs.Ids.{Joined, log_of, peer_at}
use Rattle.broker_model.specs.Limits.{is_end}
use Rattle.broker_model.specs.Out.{Outgoing, out_for}
use Rattle.broker_model.specs.Resolve.{past_of}
use Rattle.broker_model.specs.Settle.{due, cause_of, with_end, settled, number_alive, history}
use Rattle.broker_model.proofs.LabelsRiseByNumber.{label_within}
use Rattle.broker_model.proofs.LivePeersJoined.{joined_stays}
use Rattle.broker_model.proofs.QuietStoresStay.{quiet_out}
use Rattle.broker_model.proofs.SettlingEnds.{due_is, due_lives}
use Rattle.broker_core.specs.Stands.{end_of}
use Rattle.broker_core.specs.Taking.{lives_in, lives}
use Rattle.broker_core.proofs.DeadPeersToldNothing.{dead_told}
use Rattle.broker_core.proofs.OnlyEndsTakePeers.{peer_kept, peer_ended, gone_now}
use Rattle.hub_lock.specs.Histories.{History, entries_of}
use Rattle.hub_lock.specs.Lawful.{IsLawful}
use Rattle.hub_lock.specs.Steps.{Finds, AreLegalEntries}
use Rattle.peer_link.specs.Made.{journal_of}
use Rattle.peer_link.proofs.OthersTakeNothing.{entries-append}

-- ---- what each entry keeps, where each end is that of a live peer

abbrev EndsLive : List Entry → Entry → Type 0
EndsLive older (entries.End n cause) = lives older n ≡ true
EndsLive older _ = Unit {0}

abbrev Keeps : (List Entry → Type 0) → Type 0
Keeps P = (e : Entry) (older : List Entry) → EndsLive older e → P older → P (e ∷ older)

ends_live : (limits : Limits) (older : List Entry) (e : Entry) → Finds limits older e → EndsLive older e
ends_live limits older (entries.Join role) f = tt
ends_live limits older (entries.Message n id opcode body) f = tt
ends_live limits older (entries.Tokens n tokens) f = tt
ends_live limits older (entries.BadSize n head) f = tt
ends_live limits older (entries.End n cause) f = f
ends_live limits older (entries.Shell step) f = tt
ends_live limits older (entries.Took n bytes) f = tt

due_live : (capacity : ℕ) (journal : List Entry) (q : ℕ) → due capacity journal ≡ Some q → lives journal q ≡ true
due_live capacity journal q e =
    let d = due_is capacity journal q e in
    ap (lives_in journal) d.joined ∙ due_lives capacity journal q d

kept_end : (P : List Entry → Type 0) → Keeps P → (capacity : ℕ) (journal : List Entry) (o : Option ℕ) →
    due capacity journal ≡ o → P journal → P (with_end journal o)
kept_end P keeps capacity journal None e p = p
kept_end P keeps capacity journal (Some q) e p =
    keeps (entries.End q (cause_of journal q)) journal (due_live capacity journal q e) p

kept_ends : (P : List Entry → Type 0) → Keeps P → (capacity fuel : ℕ) (journal : List Entry) → P journal →
    P (settled capacity fuel journal)
kept_ends P keeps capacity zero journal p = p
kept_ends P keeps capacity (suc fuel) journal p =
    kept_ends P keeps capacity fuel (with_end journal (due capacity journal))
    (kept_end P keeps capacity journal (due capacity journal) refl p)

kept_steps : (P : List Entry → Type 0) → Keeps P → (limits : Limits) (es base : List Entry) →
    AreLegalEntries limits (es ++ base) → P (history limits.store base) → P (history limits.store (es ++ base))
kept_steps P keeps limits [] base legal p = p
kept_steps P keeps limits (e ∷ es) base legal p =
    let older : List Entry = history limits.store (es ++ base) in
    kept_ends P keeps limits.store (number_alive (e ∷ older)) (e ∷ older)
    (keeps e older (ends_live limits older e legal.0.finds) (kept_steps P keeps limits es base legal.1 p))

legal_base : (limits : Limits) (es base : List Entry) → AreLegalEntries limits (es ++ base) →
    AreLegalEntries limits base
legal_base limits [] base legal = legal
legal_base limits (e ∷ es) base legal = legal_base limits es base legal.1

-- ---- who isn't alive stays so

record IsOver (journal : List Entry) (q : ℕ) (peer : Joined) : Type 0 where
  there : peer_at (past_of journal) q ≡ Some peer
  dead : is_peer (log_of (past_of journal)) peer.label ≡ false

over_kept : (e : Entry) (older : List Entry) (q : ℕ) (peer : Joined) → is_end e ≡ false → IsOver older q peer →
    IsOver (e ∷ older) q peer
over_kept e older q peer plain o = record {
  there = joined_stays e (length older + 1) (past_of older).joined q peer o.there;
  dead = peer_kept e older peer.label plain (label_within older q peer o.there) ∙ o.dead;
}

live_by : (journal : List Entry) (n : ℕ) (o : Option Joined) → peer_at (past_of journal) n ≡ o →
    lives_in journal o ≡ true →
    (x : Joined) × (peer_at (past_of journal) n ≡ Some x) × (is_peer (log_of (past_of journal)) x.label ≡ true)
live_by journal n None e l = absurd (cc)
live_by journal n (Some x) e l = (x, e, l)

over_ended : (n : ℕ) (cause : EndCause) (older : List Entry) (q : ℕ) (peer : Joined) → lives older n ≡ true →
    IsOver older q peer → IsOver (entries.End n cause ∷ older) q peer
over_ended n cause older q peer l o =
    let x = live_by older n (peer_at (past_of older) n) refl l in
    record {
      there = joined_stays (entries.End n cause) (length older + 1) (past_of older).joined q peer o.there;
      dead = peer_ended n cause older x.0 peer.label x.1 x.2 (label_within older q peer o.there)
          ∙ ap (λ (b : Bool). b && not (peer.label == x.0.label)) o.dead;
    }

over_more : (q : ℕ) (peer : Joined) → Keeps (λ journal. IsOver journal q peer)
over_more q peer (entries.Join role) older l o = over_kept (entries.Join role) older q peer refl o
over_more q peer (entries.Message n id opcode body) older l o =
    over_kept (entries.Message n id opcode body) older q peer refl o
over_more q peer (entries.Tokens n tokens) older l o = over_kept (entries.Tokens n tokens) older q peer refl o
over_more q peer (entries.BadSize n head) older l o = over_kept (entries.BadSize n head) older q peer refl o
over_more q peer (entries.End n cause) older l o = over_ended n cause older q peer l o
over_more q peer (entries.Shell step) older l o = over_kept (entries.Shell step) older q peer refl o
over_more q peer (entries.Took n bytes) older l o = over_kept (entries.Took n bytes) older q peer refl o

-- ---- nor is anybody who has an end

abbrev EndedAreOver : List Entry → Type 0
EndedAreOver journal =
    (q : ℕ) (cause : EndCause) → end_of journal q ≡ Some cause → (peer : Joined) × IsOver journal q peer

ended_now : (n : ℕ) (cause : EndCause) (older : List Entry) → lives older n ≡ true →
    (peer : Joined) × IsOver (entries.End n cause ∷ older) n peer
ended_now n cause older l =
    let x = live_by older n (peer_at (past_of older) n) refl l in (
      x.0,
      record {
        there = joined_stays (entries.End n cause) (length older + 1) (past_of older).joined n x.0 x.1;
        dead = gone_now n cause older x.0 x.1 x.2;
      },
    )

ended_by : (n : ℕ) (cause : EndCause) (older : List Entry) (q : ℕ) (c : EndCause) (b : Bool) → (n == q) ≡ b →
    lives older n ≡ true → EndedAreOver older → (if b then Some cause else end_of older q) ≡ Some c →
    (peer : Joined) × IsOver (entries.End n cause ∷ older) q peer
ended_by n cause older q c true e l all is =
    subst (λ k. (peer : Joined) × IsOver (entries.End n cause ∷ older) k peer) (eqb-true n q e)
    (ended_now n cause older l)
ended_by n cause older q c false e l all is =
    let p = all q c is in (p.0, over_ended n cause older q p.0 l p.1)

plain_over : (e : Entry) (older : List Entry) → is_end e ≡ false → EndedAreOver older → (q : ℕ) (cause : EndCause) →
    end_of older q ≡ Some cause → (peer : Joined) × IsOver (e ∷ older) q peer
plain_over e older plain all q cause is = let p = all q cause is in (p.0, over_kept e older q p.0 plain p.1)

ended_over : Keeps EndedAreOver
ended_over (entries.Join role) older l all q c is = plain_over (entries.Join role) older refl all q c is
ended_over (entries.Message n id opcode body) older l all q c is =
    plain_over (entries.Message n id opcode body) older refl all q c is
ended_over (entries.Tokens n tokens) older l all q c is = plain_over (entries.Tokens n tokens) older refl all q c is
ended_over (entries.BadSize n head) older l all q c is = plain_over (entries.BadSize n head) older refl all q c is
ended_over (entries.End n cause) older l all q c is = ended_by n cause older q c (n == q) refl l all is
ended_over (entries.Shell step) older l all q c is = plain_over (entries.Shell step) older refl all q c is
ended_over (entries.Took n bytes) older l all q c is = plain_over (entries.Took n bytes) older refl all q c is

nobody_ended : EndedAreOver []
nobody_ended q cause is = absurd (cc)

all_ended : (limits : Limits) (es : List Entry) → AreLegalEntries limits es → EndedAreOver (history limits.store es)
all_ended limits es legal =
    subst (λ (l : List Entry). EndedAreOver (history limits.store l)) (append-nil es)
    (kept_steps EndedAreOver ended_over limits es [] (subst (AreLegalEntries limits) (sym (append-nil es)) legal)
    nobody_ended)

-- ---- nothing is put for it

record HasAll (capacity : ℕ) (put : Piece) (q : ℕ) (peer : Joined) (journal : List Entry) : Type 0 where
  over : IsOver journal q peer
  is : (out_for capacity journal peer.label).put ≡ put

put_none : (capacity : ℕ) (put : Piece) (q : ℕ) (peer : Joined) → Keeps (HasAll capacity put q peer)
put_none capacity put q peer e older l a =
    let over = over_more q peer e older l a.over in
    record {
      over = over;
      is = ap (λ (o : Outgoing). o.put)
          (quiet_out capacity e older peer.label (dead_told e older q peer over.there over.dead))
          ∙ a.is;
    }

pub ended_have_all : (limits : Limits) (seen rest : History) (q : ℕ) (peer : Joined) (cause : EndCause) →
    IsLawful limits (seen ++ rest) → peer_at (past_of (journal_of limits seen)) q ≡ Some peer →
    end_of (journal_of limits seen) q ≡ Some cause →
    (out_for limits.store (journal_of limits (seen ++ rest)) peer.label).put
    ≡ (out_for limits.store (journal_of limits seen) peer.label).put
ended_have_all limits seen rest q peer cause lawful there ended =
    let es : List Entry = entries_of rest in
    let base : List Entry = entries_of seen in
    let journal : List Entry = history limits.store base in
    let put : Piece = (out_for limits.store journal peer.label).put in
    let legal : AreLegalEntries limits (es ++ base) =
    subst (AreLegalEntries limits) (entries-append seen rest) lawful.legal.entries in
    let p = all_ended limits base (legal_base limits es base legal) q cause ended in
    let over : IsOver journal q peer =
    subst (IsOver journal q) (same_Some p.0 peer (sym p.1.there ∙ there)) p.1 in
    let all = kept_steps (HasAll limits.store put q peer) (put_none limits.store put q peer) limits es base legal
    (record { over = over; is = refl }) in
    ap (λ (l : List Entry). (out_for limits.store (history limits.store l) peer.label).put) (entries-append seen rest)
    ∙ all.is
