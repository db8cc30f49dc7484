-- The value behind the lock keeps what it keeps, and its history is longer by the step
use Rattle.std.proofs.Common.{◌≡◌, ℕ, suc, ◌+◌, ◌<◌, ◌^◌, List, [], ◌∷◌, ◌++◌, length, false, Option, Some, refl, ap, sym, subst, ◌∙◌, arith, append-nil, length-append}
use Rattle.std.specs.List.{slice_get}
use Rattle.relay_model.specs.declared.role.Role.{Role}
use Rattle.broker_steps.specs.declared.limits.Limits.{Limits}
use Rattle.broker_steps.specs.Ranges.{IsLimits}
use Rattle.broker_model.specs.declared.journal.Entry.{Entry}
use Rattle.broker_model.specs.declared.journal.Entry.TheVariants as entries
use Rattle.broker_model.specs.Resolve.{past_of}
use Rattle.broker_model.specs.Settle.{number_alive}
use Rattle.broker_model.specs.Stamps.{follows, stamps, step_stamps}
use Rattle.broker_model.proofs.EachElement.{each_append}
use Rattle.broker_core.specs.Broker.{Broker, begun, with_step}
use Rattle.broker_core.proofs.AliveAfterEntry.{same_settled}
use Rattle.hub_lock.specs.declared.step.OuterStep.{OuterStep}
use Rattle.hub_lock.specs.Histories.{History, stamp_by, broker_of, readers_of, numbered_in, reader_of, only, joining, step_after}
use Rattle.hub_lock.specs.Steps.{IsLegalEntry, AreLegalEntries, HasLegalSteps}
use Rattle.hub_lock.specs.Lawful.{IsShared, IsMadeBy, AreMadeBy, IsLawful, IsKept, history_of, with_all}
use Rattle.hub_lock.proofs.HistoriesGrow.{entries-more, broker-more, history-more}
use Rattle.hub_lock.proofs.ReadersStay.{readers-append, made-more, steps-same, get-end}

-- the stamps give themselves again
abbrev pub IsStamped : Broker → Type 0
IsStamped b = stamps b.journal (step_stamps b.journal b.stamps) ≡ b.stamps

abbrev pub IsNoJoin : Entry → Type 0
IsNoJoin (entries.Join role) = ⊥
IsNoJoin _ = Unit {0}

step-plain : (readers : List ℕ) (older : List Entry) (e : Entry) → IsNoJoin e → step_after readers older e ≡ only e
step-plain readers older (entries.Join role) plain = absurd plain
step-plain readers older (entries.Message q id opcode body) plain = refl
step-plain readers older (entries.Tokens q tokens) plain = refl
step-plain readers older (entries.BadSize q head) plain = refl
step-plain readers older (entries.End q cause) plain = refl
step-plain readers older (entries.Shell step) plain = refl
step-plain readers older (entries.Took q bytes) plain = refl

joined-plain : (e : Entry) (older : List Entry) → IsNoJoin e → (past_of (e ∷ older)).joined ≡ (past_of older).joined
joined-plain (entries.Join role) older plain = absurd plain
joined-plain (entries.Message q id opcode body) older plain = refl
joined-plain (entries.Tokens q tokens) older plain = refl
joined-plain (entries.BadSize q head) older plain = refl
joined-plain (entries.End q cause) older plain = refl
joined-plain (entries.Shell step) older plain = refl
joined-plain (entries.Took q bytes) older plain = refl

-- steps stay legal with one more, which is legal behind the journal
pub record IsLegalStep (b : Broker) (n : ℕ) (e : Entry) : Type 0 where
  pub entry : IsLegalEntry b.limits b.journal e
  pub author : n < 2 ^ 64

legal-more : (b : Broker) (h : History) (n : ℕ) (s : OuterStep) → broker_of b.limits h ≡ with_all b
    → HasLegalSteps b.limits h → IsLegalStep b n s.entry → HasLegalSteps b.limits (h ++ (n, s) ∷ [])
legal-more b h n s is legal step = record {
  entries = subst (AreLegalEntries b.limits) (sym (entries-more h n s))
      (subst (λ (x : Broker). IsLegalEntry b.limits x.journal s.entry) (sym is) step.entry, legal.entries);
  authors = each_append (λ (x : ℕ × OuterStep). x.0 < 2 ^ 64) h ((n, s) ∷ []) legal.authors (step.author, tt);
}

module _ (b : Broker) (readers : List ℕ) (n : ℕ) (kept : IsKept b readers) (stamped : IsStamped b) where
  -- a step that isn't a join
  pub history-plain : (e : Entry) → follows e ≡ false → IsNoJoin e
      → history_of (with_step e (stamp_by n) b) readers ≡ history_of b readers ++ (n, only e) ∷ []
  history-plain e f plain =
      history-more readers e (stamp_by n) b f stamped
      ∙ ap (λ (s : OuterStep). history_of b readers ++ (n, s) ∷ []) (step-plain readers b.journal e plain)

  pub kept-plain : (e : Entry) → follows e ≡ false → IsNoJoin e → IsMadeBy (history_of b readers) n e
      → IsLegalStep b n e → IsKept (with_step e (stamp_by n) b) readers
  kept-plain e f plain mine legal =
      let h : History = history_of b readers in
      let now = history-plain e f plain in
      record {
        limited = kept.limited;
        is = ap (broker_of b.limits) now ∙ sym (broker-more b.limits h n (only e) f)
            ∙ ap (with_step e (stamp_by n)) kept.is;
        joined = kept.joined
            ∙ sym (ap length ((same_settled b.limits.store (e ∷ b.journal)).joined ∙ joined-plain e b.journal plain));
        stand = ap readers_of now ∙ readers-append h ((n, only e) ∷ []) ∙ append-nil (readers_of h) ∙ kept.stand;
        made_by = subst (λ x. AreMadeBy x x) (sym now) (made-more h n (only e) kept.made_by mine);
        legal = subst (HasLegalSteps b.limits) (sym now) (legal-more b h n (only e) kept.is kept.legal legal);
      }

  -- a join, of a peer whose reader's pass has the number r
  pub history-join : (role : Role) (r : ℕ)
      → history_of (with_step (entries.Join role) (stamp_by n) b) (readers ++ r ∷ [])
      ≡ history_of b readers ++ (n, joining (entries.Join role) r) ∷ []
  history-join role r =
      let all = readers ++ r ∷ [] in
      let found : slice_get all (length (past_of b.journal).joined) ≡ Some r =
      ap (slice_get all) (sym kept.joined) ∙ get-end readers r in
      history-more all (entries.Join role) (stamp_by n) b refl stamped
      ∙ ap (λ (h : History). h ++ (n, step_after all b.journal (entries.Join role)) ∷ [])
      (steps-same readers r b.journal b.stamps (let j = kept.joined in omega arith))
      ∙ ap (λ (x : Option ℕ). history_of b readers ++ (n, record { entry = entries.Join role; reader = x }) ∷ []) found

  pub readers-join : (role : Role) (r : ℕ) →
      readers_of (history_of b readers ++ (n, joining (entries.Join role) r) ∷ []) ≡ readers ++ r ∷ []
  readers-join role r =
      readers-append (history_of b readers) ((n, joining (entries.Join role) r) ∷ [])
      ∙ ap (λ rs. rs ++ r ∷ []) kept.stand

  pub joined-join : (role : Role) →
      length (past_of (with_step (entries.Join role) (stamp_by n) b).journal).joined ≡ suc (length readers)
  joined-join role =
      let one : length (past_of (entries.Join role ∷ b.journal)).joined ≡ length (past_of b.journal).joined + 1 =
      length-append (past_of b.journal).joined (record { label = length b.journal + 1; role = role } ∷ []) in
      let j = kept.joined in
      let s = ap length (same_settled b.limits.store (entries.Join role ∷ b.journal)).joined in omega arith

  pub is-join : (role : Role) (r : ℕ) →
      let after = with_step (entries.Join role) (stamp_by n) b in
      broker_of b.limits (history_of after (readers ++ r ∷ [])) ≡ with_all after
  is-join role r =
      ap (broker_of b.limits) (history-join role r)
      ∙ sym (broker-more b.limits (history_of b readers) n (joining (entries.Join role) r) refl)
      ∙ ap (with_step (entries.Join role) (stamp_by n)) kept.is

  pub kept-join : (role : Role) (r : ℕ) → n ≡ 0 → number_alive b.journal < 64 → n < 2 ^ 64
      → IsKept (with_step (entries.Join role) (stamp_by n) b) (readers ++ r ∷ [])
  kept-join role r root few author =
      let h : History = history_of b readers in
      let s : OuterStep = joining (entries.Join role) r in
      let now = history-join role r in
      let more = joined-join role in
      let one = length-append readers (r ∷ []) in
      let legal : IsLegalStep b n (entries.Join role) = record {
        entry = record { given = tt; finds = few };
        author = author;
      } in
      record {
        limited = kept.limited;
        is = is-join role r;
        joined = omega arith;
        stand = ap readers_of now ∙ readers-join role r;
        made_by = subst (λ x. AreMadeBy x x) (sym now) (made-more h n s kept.made_by root);
        legal = subst (HasLegalSteps b.limits) (sym now) (legal-more b h n s kept.is kept.legal legal);
      }

  -- the peer that joined has its reader
  pub reader-join : (role : Role) (r q : ℕ) →
      q ≡ length (past_of (with_step (entries.Join role) (stamp_by n) b).journal).joined
      → reader_of (history_of (with_step (entries.Join role) (stamp_by n) b) (readers ++ r ∷ [])) q ≡ Some r
  reader-join role r q e =
      ap (λ (h : History). reader_of h q) (history-join role r)
      ∙ ap (λ rs. numbered_in rs q) (readers-join role r)
      ∙ ap (numbered_in (readers ++ r ∷ [])) (e ∙ joined-join role) ∙ get-end readers r

-- a shared state is one with all its entries
pub shared-all : (b : Broker) → IsShared b → IsShared (with_all b)
shared-all b s = record {
  history = s.history;
  stamped = s.stamped;
  each = s.each;
  nobody_is_due = s.nobody_is_due;
  few_peers = s.few_peers;
  counted = s.counted;
  light = s.light;
  stores = s.stores;
  few_objects = s.few_objects;
  few_keys = s.few_keys;
  ends = s.ends;
  one_end = s.one_end;
}

-- what is kept stays so where entries are let go
pub kept-gone : (b : Broker) (readers : List ℕ) (from : ℕ) → IsKept b readers
    → IsKept (record b { kept_from = from }) readers
kept-gone b readers from kept = record {
  limited = kept.limited;
  is = kept.is;
  joined = kept.joined;
  stand = kept.stand;
  made_by = kept.made_by;
  legal = kept.legal;
}

-- what is behind the lock is lawful
pub lawful : (b : Broker) (readers : List ℕ) → IsKept b readers → IsShared b → IsLawful b.limits (history_of b readers)
lawful b readers kept shared = record {
  limited = kept.limited;
  shared = subst IsShared (sym kept.is) (shared-all b shared);
  readers = ap length kept.stand ∙ kept.joined ∙ ap (λ (x : Broker). length (past_of x.journal).joined) (sym kept.is);
  made_by = kept.made_by;
  legal = kept.legal;
}

-- so is the empty history
pub lawful-empty : (limits : Limits) (b : Broker) → IsLimits limits →
    b ≡ begun limits → IsShared b → IsLawful limits []
lawful-empty limits b limited is shared = record {
  limited = limited;
  shared = subst IsShared is shared;
  readers = refl;
  made_by = tt;
  legal = record { entries = tt; authors = tt };
}
