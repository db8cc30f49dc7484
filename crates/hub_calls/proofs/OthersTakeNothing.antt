-- Steps of others take nothing for a peer
use Rattle.std.proofs.Common.{◌≡◌, ℕ, Bool, true, false, [], ◌∷◌, ◌++◌, map, reverse, Some, refl, sym, ap, ◌∙◌, arith}
use Rattle.std.specs.Prelude.{if◌then◌else◌, ◌==◌}
use Rattle.std.specs.List.{sum_by}
use Rattle.std.proofs.lemmas.Bool.{eq-eqb, eqb-true}
use Rattle.std.proofs.lemmas.List.{map-append, reverse-append}
use Rattle.std.proofs.lemmas.List.Sums.{sum_by-cons, sum_by-append}
use Rattle.broker_model.specs.declared.journal.Entry.{Entry}
use Rattle.broker_model.specs.declared.journal.Entry.TheVariants as entries
use Rattle.turn_lock.specs.Pairs.{own, NoneOf}
use Rattle.hub_lock.specs.declared.step.OuterStep.{OuterStep}
use Rattle.hub_lock.specs.Histories.{History, entries_of, writer_of}
use Rattle.hub_lock.specs.Lawful.{IsMadeBy, AreMadeBy}
use Rattle.hub_calls.proofs.FrontsGrow.{took_of}

-- a pass that made no step of a history took nothing in it, for the peer whose writer it is

entries-cons : (x : ℕ × OuterStep) (xs : History) → entries_of (x ∷ xs) ≡ entries_of xs ++ x.1.entry ∷ []
entries-cons x xs = reverse-append (x.1.entry ∷ []) (map (λ (s : ℕ × OuterStep). s.1.entry) xs)

pub entries-append : (a b : History) → entries_of (a ++ b) ≡ entries_of b ++ entries_of a
entries-append a b =
    ap reverse (map-append (λ (s : ℕ × OuterStep). s.1.entry) a b)
    ∙ reverse-append (map (λ (s : ℕ × OuterStep). s.1.entry) a) (map (λ (s : ℕ × OuterStep). s.1.entry) b)

pub made-back : (h a b : History) → AreMadeBy h (a ++ b) → AreMadeBy h b
made-back h [] b m = m
made-back h (x ∷ a) b m = made-back h a b m.1

made_else : (h : History) (q n m : ℕ) (e : Entry) → IsMadeBy h m e → writer_of h q ≡ Some n → (m == n) ≡ false →
    took_of q e ≡ 0
made_else h q n m (entries.Took k c) made w other = by (k == q) refl
  where
    by : (b : Bool) → (k == q) ≡ b → (if b then c else 0) ≡ 0
    by true same =
        let same : Some m ≡ Some n = sym made.0 ∙ ap (writer_of h) (eqb-true k q same) ∙ w in
        let number : m ≡ n = cc in
        let yes = eq-eqb m n number in cc
    by false same = refl
made_else h q n m (entries.Join role) made w other = refl
made_else h q n m (entries.Message k id opcode body) made w other = refl
made_else h q n m (entries.Tokens k tokens) made w other = refl
made_else h q n m (entries.BadSize k head) made w other = refl
made_else h q n m (entries.End k cause) made w other = refl
made_else h q n m (entries.Shell step) made w other = refl

pub took-none : (h rest : History) (q n : ℕ) → AreMadeBy h rest → writer_of h q ≡ Some n → NoneOf n rest →
    sum_by (took_of q) (entries_of rest) ≡ 0
took-none h [] q n made w free = refl
took-none h (x ∷ rest) q n made w free =
    let parts = ap (sum_by (took_of q)) (entries-cons x rest) in
    let both = sum_by-append (took_of q) (entries_of rest) (x.1.entry ∷ []) in
    let one = sum_by-cons (took_of q) x.1.entry [] in
    let zero_is : sum_by (took_of q) [] ≡ 0 = refl in
    let here = by (x.0 == n) refl free in
    let later = took-none h rest q n made.1 w here.1 in
    let none = here.0 in omega (arith, parts, both, one, zero_is, later, none)
  where
    by : (b : Bool) → (x.0 == n) ≡ b → (if b then x.1 ∷ own n rest else own n rest) ≡ [] →
        (took_of q x.1.entry ≡ 0) × NoneOf n rest
    by true e f = absurd (cc)
    by false e f = (made_else h q n x.0 x.1.entry made.0 w e, f)
