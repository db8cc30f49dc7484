-- The oldest entries of a journal stay its oldest while its history grows
use Rattle.std.proofs.Common.{◌≡◌, ℕ, zero, suc, ◌+◌, ◌≤◌, List, [], ◌∷◌, ◌++◌, length, Bool, true, false, nat_eq, if◌then◌else◌, Option, Some, None, refl, ap, sym, subst, ◌∙◌, arith, append_assoc, append-nil, length-append}
use Rattle.std.proofs.lemmas.Bool.{ne_eqb, eqb-true}
use Rattle.relay_model.specs.declared.act.EndCause.TheVariants.{Gone, Bad, Full}
use Rattle.broker_steps.specs.declared.limits.Limits.{Limits}
use Rattle.broker_steps.specs.declared.stamp.Stamp.{Stamp}
use Rattle.broker_model.specs.declared.journal.Entry.{Entry}
use Rattle.broker_model.specs.declared.journal.Entry.TheVariants as entries
use Rattle.broker_model.specs.Recorded.{entry_at}
use Rattle.broker_model.specs.Settle.{due, cause_of, with_end, settled, settle, history, number_alive}
use Rattle.broker_model.specs.Stamps.{follows, no_stamp, stamp_of, stamps}
use Rattle.broker_model.proofs.StampsAgain.{step_stamped, end_stamped}
use Rattle.broker_core.specs.Broker.{Broker}
use Rattle.broker_core.specs.declared.letting_go.LetGo.{LetGo}
use Rattle.hub_lock.specs.declared.step.OuterStep.{OuterStep}
use Rattle.hub_lock.specs.Histories.{History, stamp_by, entries_of, given_of, broker_of}
use Rattle.hub_lock.specs.Lawful.{IsMadeBy, AreMadeBy, IsLawful}
use Rattle.hub_lock.specs.Recording.{AreOldest}
use Rattle.hub_lock.proofs.HistoriesGrow.{entries-more, given-more, end_follows}

-- the second list is the first with newer items before it
abbrev pub IsOlder : {A : Type 0} → List A → List A → Type 0
IsOlder {A} xs ys = (newer : List A) × (ys ≡ newer ++ xs)

older-same : {A : Type 0} (xs : List A) → IsOlder xs xs
older-same xs = ([], refl)

older-still : {A : Type 0} (xs ys zs : List A) → IsOlder xs ys → IsOlder ys zs → IsOlder xs zs
older-still xs ys zs a b = (b.0 ++ a.0, b.1 ∙ ap (λ l. b.0 ++ l) a.1 ∙ sym (append_assoc b.0 a.0 xs))

older-by : {A : Type 0} (x : A) (xs ys : List A) → ys ≡ x ∷ xs → IsOlder xs ys
older-by x xs ys e = (x ∷ [], e)

-- an item keeps its number

pub within : {A : Type 0} (xs : List A) (n : ℕ) (x : A) → entry_at xs n ≡ Some x → n ≤ length xs
within [] n x e = absurd (cc)
within {A} (y ∷ older) n x e = by (nat_eq n (length older + 1)) refl (within older n x) e where
  by : (b : Bool) → nat_eq n (length older + 1) ≡ b → (entry_at older n ≡ Some x → n ≤ length older)
      → (if b then Some y else entry_at older n) ≡ Some x → n ≤ suc (length older)
  by true is rest e' = let s = eqb-true n (length older + 1) is in omega arith
  by false is rest e' = let w = rest e' in omega arith

not_newest : {A : Type 0} (y : A) (older : List A) (n : ℕ) → n ≤ length older
    → entry_at (y ∷ older) n ≡ entry_at older n
not_newest y older n few = rw (ne_eqb n (length older + 1) (λ e. absurd (omega arith))) refl

at-more : {A : Type 0} (newer xs : List A) (n : ℕ) (x : A) → entry_at xs n ≡ Some x → entry_at (newer ++ xs) n ≡ Some x
at-more [] xs n x e = e
at-more (y ∷ newer) xs n x e =
    let few = within xs n x e in
    let l = length-append newer xs in
    not_newest y (newer ++ xs) n (omega arith) ∙ at-more newer xs n x e

pub at-older : {A : Type 0} (xs ys : List A) (n : ℕ) (x : A) → IsOlder xs ys → entry_at xs n ≡ Some x
    → entry_at ys n ≡ Some x
at-older xs ys n x o e = ap (λ l. entry_at l n) o.1 ∙ at-more o.0 xs n x e

-- settling puts ends before a journal, and their stamps before its stamps

settled-older_by : (capacity fuel : ℕ) (journal : List Entry) (o : Option ℕ)
    → ((later : List Entry) → IsOlder later (settled capacity fuel later))
    → IsOlder journal (settled capacity fuel (with_end journal o))
settled-older_by capacity fuel journal None k = k journal
settled-older_by capacity fuel journal (Some q) k =
    let ended : List Entry = entries.End q (cause_of journal q) ∷ journal in
    older-still journal ended (settled capacity fuel ended) (older-by _ journal ended refl) (k ended)

settled-older : (capacity fuel : ℕ) (journal : List Entry) → IsOlder journal (settled capacity fuel journal)
settled-older capacity zero journal = older-same journal
settled-older capacity (suc fuel) journal =
    settled-older_by capacity fuel journal (due capacity journal) (settled-older capacity fuel)

stamps-older_by : (capacity fuel : ℕ) (journal : List Entry) (o : Option ℕ) (g : List Stamp)
    → ((later : List Entry) → IsOlder (stamps later g) (stamps (settled capacity fuel later) g))
    → IsOlder (stamps journal g) (stamps (settled capacity fuel (with_end journal o)) g)
stamps-older_by capacity fuel journal None g k = k journal
stamps-older_by capacity fuel journal (Some q) g k =
    let e : Entry = entries.End q (cause_of journal q) in
    older-still (stamps journal g) (stamps (e ∷ journal) g) (stamps (settled capacity fuel (e ∷ journal)) g)
    (older-by (stamp_of e no_stamp (stamps journal g)) (stamps journal g) (stamps (e ∷ journal) g)
    (end_stamped e journal no_stamp g (end_follows journal q))) (k (e ∷ journal))

stamps-older : (capacity fuel : ℕ) (journal : List Entry) (g : List Stamp)
    → IsOlder (stamps journal g) (stamps (settled capacity fuel journal) g)
stamps-older capacity zero journal g = older-same (stamps journal g)
stamps-older capacity (suc fuel) journal g =
    stamps-older_by capacity fuel journal (due capacity journal) g (λ later. stamps-older capacity fuel later g)

-- the second broker has all that the first has
pub record IsBefore (b b' : Broker) : Type 0 where
  pub journal : IsOlder b.journal b'.journal
  pub stamps : IsOlder b.stamps b'.stamps

same-before : (b : Broker) → IsBefore b b
same-before b = record { journal = older-same b.journal; stamps = older-same b.stamps }

before-still : (a b c : Broker) → IsBefore a b → IsBefore b c → IsBefore a c
before-still a b c x y = record {
  journal = older-still a.journal b.journal c.journal x.journal y.journal;
  stamps = older-still a.stamps b.stamps c.stamps x.stamps y.stamps;
}

-- one step more

before-more : (limits : Limits) (h : History) (n : ℕ) (s : OuterStep) → follows s.entry ≡ false
    → IsBefore (broker_of limits h) (broker_of limits (h ++ (n, s) ∷ []))
before-more limits h n s f =
    let J : List Entry = history limits.store (entries_of h) in
    let G : List Stamp = given_of h in
    let K : List Entry = s.entry ∷ J in
    let g : Stamp = stamp_by n in
    let after : List Entry = settle limits.store K in
    let j : (broker_of limits (h ++ (n, s) ∷ [])).journal ≡ after =
    ap (history limits.store) (entries-more h n s) in
    let t : (broker_of limits (h ++ (n, s) ∷ [])).stamps ≡ stamps after (g ∷ G) =
    ap (λ (x : List Entry). stamps x (given_of (h ++ (n, s) ∷ []))) j ∙ ap (stamps after) (given-more h n s) in
    record {
      journal = subst (IsOlder J) (sym j)
          (older-still J K after (older-by s.entry J K refl) (settled-older limits.store (number_alive K) K));
      stamps = subst (IsOlder (stamps J G)) (sym t)
          (older-still (stamps J G) (stamps K (g ∷ G)) (stamps after (g ∷ G))
          (older-by (stamp_of s.entry g (stamps J G)) (stamps J G) (stamps K (g ∷ G)) (step_stamped s.entry J g G f))
          (stamps-older limits.store (number_alive K) K (g ∷ G)));
    }

made-step : (h : History) (n : ℕ) (e : Entry) → IsMadeBy h n e → follows e ≡ false
made-step h n (entries.Join role) m = refl
made-step h n (entries.Message q id opcode body) m = refl
made-step h n (entries.Tokens q tokens) m = refl
made-step h n (entries.BadSize q head) m = refl
made-step h n (entries.End q Gone) m = refl
made-step h n (entries.End q Bad) m = absurd m
made-step h n (entries.End q Full) m = absurd m
made-step h n (entries.Shell step) m = refl
made-step h n (entries.Took q bytes) m = refl

made-rest : (all h more : History) → AreMadeBy all (h ++ more) → AreMadeBy all more
made-rest all [] more m = m
made-rest all (x ∷ h) more m = made-rest all h more m.1

before-all : (limits : Limits) (all h more : History) → AreMadeBy all more
    → IsBefore (broker_of limits h) (broker_of limits (h ++ more))
before-all limits all h [] m =
    subst (λ x. IsBefore (broker_of limits h) (broker_of limits x)) (sym (append-nil h))
    (same-before (broker_of limits h))
before-all limits all h (x ∷ more) m =
    let one : History = h ++ x ∷ [] in
    before-still (broker_of limits h) (broker_of limits one) (broker_of limits (h ++ x ∷ more))
    (before-more limits h x.0 x.1 (made-step all x.0 x.1.entry m.0))
    (subst (λ y. IsBefore (broker_of limits one) (broker_of limits y)) (append_assoc h (x ∷ []) more)
    (before-all limits all one more m.1))

pub before-lawful : (limits : Limits) (h more : History) → IsLawful limits (h ++ more)
    → IsBefore (broker_of limits h) (broker_of limits (h ++ more))
before-lawful limits h more l =
    before-all limits (h ++ more) h more (made-rest (h ++ more) h more l.made_by)

-- the oldest entries stay

pub oldest-before : (b b' : Broker) (handed : List LetGo) → IsBefore b b' → AreOldest b handed → AreOldest b' handed
oldest-before b b' [] before a = tt
oldest-before b b' (it ∷ older) before a = (
  record {
    number = a.0.number;
    entry = at-older b.journal b'.journal it.number it.entry before.journal a.0.entry;
    stamp = at-older b.stamps b'.stamps it.number it.stamp before.stamps a.0.stamp;
  },
  oldest-before b b' older before a.1,
)

pub oldest-stay : (limits : Limits) (h more : History) (handed : List LetGo) → IsLawful limits (h ++ more)
    → AreOldest (broker_of limits h) handed → AreOldest (broker_of limits (h ++ more)) handed
oldest-stay limits h more handed l a =
    oldest-before (broker_of limits h) (broker_of limits (h ++ more)) handed (before-lawful limits h more l) a
