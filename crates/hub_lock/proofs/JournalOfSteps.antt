-- The journal of a history: its outer steps, what they count and take, and that it grows
use Rattle.std.proofs.Common.{◌≡◌, ℕ, zero, suc, ◌+◌, ◌*◌, ◌≤◌, List, [], ◌∷◌, ◌++◌, length, map, reverse, cond, eqb, Bool, true, false, Option, Some, None, refl, ap, sym, subst, ◌∙◌, arith, length-append}
use Rattle.std.specs.List.{sum_by}
use Rattle.std.proofs.lemmas.List.{map-append, reverse-append}
use Rattle.std.proofs.lemmas.List.Sums.{sum_by-cons, sum_by-append}
use Rattle.relay_model.specs.declared.act.EndCause.TheVariants.{Gone, Bad, Full}
use Rattle.broker_steps.specs.declared.limits.Limits.{Limits}
use Rattle.broker_model.specs.declared.journal.Entry.{Entry}
use Rattle.broker_model.specs.declared.journal.Entry.TheVariants as entries
use Rattle.broker_model.specs.Limits.{is_counted, number_counted}
use Rattle.broker_model.specs.Settle.{due, cause_of, with_end, settled, number_alive, history, step_of, outer}
use Rattle.broker_model.proofs.SettlingEnds.{outer_settled}
use Rattle.broker_core.proofs.AliveAfterEntry.{counted_cons, same_settled}
use Rattle.turn_lock.specs.Pairs.{own, total, IsDistinct}
use Rattle.turn_lock.specs.Rule.{bit}
use Rattle.turn_lock.proofs.TotalsOfPairs.{hits, hits-once, total-cons, total-few}
use Rattle.hub_lock.specs.declared.step.OuterStep.{OuterStep}
use Rattle.hub_lock.specs.Histories.{History, entries_of, broker_of, bytes_by, bytes_taken, taken_in, total_taken}
use Rattle.hub_lock.specs.Lawful.{IsMadeBy, AreMadeBy, IsLawful}

-- how many bytes all steps take
abbrev pub all_taken : History → ℕ
all_taken [] = 0
all_taken (x ∷ xs) = bytes_by x.1.entry + all_taken xs

-- entries of a history, by its first step

entries-cons : (x : ℕ × OuterStep) (xs : History) → entries_of (x ∷ xs) ≡ entries_of xs ++ x.1.entry ∷ []
entries-cons x xs = reverse-append (x.1.entry ∷ []) (map (λ (s : ℕ × OuterStep). s.1.entry) xs)

entries-append : (a b : History) → entries_of (a ++ b) ≡ entries_of b ++ entries_of a
entries-append a b =
    ap reverse (map-append (λ (s : ℕ × OuterStep). s.1.entry) a b)
    ∙ reverse-append (map (λ (s : ℕ × OuterStep). s.1.entry) a) (map (λ (s : ℕ × OuterStep). s.1.entry) b)

sum-entries : (f : Entry → ℕ) (x : ℕ × OuterStep) (xs : History) →
    sum_by f (entries_of (x ∷ xs)) ≡ f x.1.entry + sum_by f (entries_of xs)
sum-entries f x xs =
    let a = ap (sum_by f) (entries-cons x xs) in
    let b = sum_by-append f (entries_of xs) (x.1.entry ∷ []) in
    let c = sum_by-cons f x.1.entry [] in
    let d : sum_by f [] ≡ 0 = refl in omega arith

taken-entries : (h : History) → taken_in (entries_of h) ≡ all_taken h
taken-entries [] = refl
taken-entries (x ∷ xs) = let a = sum-entries bytes_by x xs in let r = taken-entries xs in omega arith

count-entries : (x : ℕ × OuterStep) (xs : History) →
    number_counted (entries_of (x ∷ xs)) ≡ cond (is_counted x.1.entry) 1 0 + number_counted (entries_of xs)
count-entries x xs = sum-entries (λ e. cond (is_counted e) 1 0) x xs

pub length-entries : (h : History) → length (entries_of h) ≡ length h
length-entries [] = refl
length-entries (x ∷ xs) =
    let a = ap length (entries-cons x xs) in
    let b = length-append (entries_of xs) (x.1.entry ∷ []) in
    let r = length-entries xs in omega arith

-- a take takes at most 4,096 bytes and is counted

few-bytes : (h : History) (n : ℕ) (e : Entry) → IsMadeBy h n e → bytes_by e ≤ 4096 * cond (is_counted e) 1 0
few-bytes h n (entries.Join role) m = omega arith
few-bytes h n (entries.Message q id opcode body) m = omega arith
few-bytes h n (entries.Tokens q tokens) m = omega arith
few-bytes h n (entries.BadSize q head) m = omega arith
few-bytes h n (entries.End q cause) m = omega arith
few-bytes h n (entries.Shell step) m = omega arith
few-bytes h n (entries.Took q bytes) m = let few = m.1 in omega arith

few-taken : (h xs : History) → AreMadeBy h xs → all_taken xs ≤ 4096 * number_counted (entries_of xs)
few-taken h [] m = omega arith
few-taken h (x ∷ xs) m =
    let one = few-bytes h x.0 x.1.entry m.0 in
    let rest = few-taken h xs m.1 in
    let c = count-entries x xs in omega arith

-- the ends that follow count nothing and take nothing

counted-history : (capacity : ℕ) (es : List Entry) → number_counted (history capacity es) ≡ number_counted es
counted-history capacity [] = refl
counted-history capacity (e ∷ es) =
    let s = (same_settled capacity (e ∷ history capacity es)).counted in
    let a = counted_cons e (history capacity es) in
    let b = counted_cons e es in
    let r = counted-history capacity es in omega arith

taken_settled_by : (capacity fuel : ℕ) (journal : List Entry) (o : Option ℕ)
    → ((later : List Entry) → taken_in (settled capacity fuel later) ≡ taken_in later) →
    taken_in (settled capacity fuel (with_end journal o)) ≡ taken_in journal
taken_settled_by capacity fuel journal None k = k journal
taken_settled_by capacity fuel journal (Some q) k =
    let later : List Entry = entries.End q (cause_of journal q) ∷ journal in
    let one : taken_in later ≡ taken_in journal =
    (let c = sum_by-cons bytes_by (entries.End q (cause_of journal q)) journal in omega arith) in
    k later ∙ one

taken_settled : (capacity fuel : ℕ) (journal : List Entry) → taken_in (settled capacity fuel journal) ≡ taken_in journal
taken_settled capacity zero journal = refl
taken_settled capacity (suc fuel) journal =
    taken_settled_by capacity fuel journal (due capacity journal) (taken_settled capacity fuel)

taken-history : (capacity : ℕ) (es : List Entry) → taken_in (history capacity es) ≡ taken_in es
taken-history capacity [] = refl
taken-history capacity (e ∷ es) =
    let J : List Entry = e ∷ history capacity es in
    let s = taken_settled capacity (number_alive J) J in
    let a = sum_by-cons bytes_by e (history capacity es) in
    let b = sum_by-cons bytes_by e es in
    let r = taken-history capacity es in omega arith

pub taken-journal : (limits : Limits) (h : History) → taken_in (broker_of limits h).journal ≡ all_taken h
taken-journal limits h = taken-history limits.store (entries_of h) ∙ taken-entries h

-- lawful histories take few bytes
pub few-lawful : (limits : Limits) (h : History) → IsLawful limits h → all_taken h ≤ 16384000000
few-lawful limits h l =
    let few = few-taken h h l.made_by in
    let same = counted-history limits.store (entries_of h) in
    let c = l.shared.counted in
    let most = l.limited.0.1 in omega arith

-- the outer steps of the journal are those of the history

abbrev AllOuter : List Entry → Type 0
AllOuter [] = Unit {0}
AllOuter (e ∷ es) = (step_of e ≡ e ∷ []) × AllOuter es

outer-and : (xs ys : List Entry) → AllOuter xs → AllOuter ys → AllOuter (xs ++ ys)
outer-and [] ys a b = b
outer-and (x ∷ xs) ys a b = (a.0, outer-and xs ys a.1 b)

outer-one : (h : History) (n : ℕ) (e : Entry) → IsMadeBy h n e → step_of e ≡ e ∷ []
outer-one h n (entries.Join role) m = refl
outer-one h n (entries.Message q id opcode body) m = refl
outer-one h n (entries.Tokens q tokens) m = refl
outer-one h n (entries.BadSize q head) m = refl
outer-one h n (entries.End q Gone) m = refl
outer-one h n (entries.End q Bad) m = absurd m
outer-one h n (entries.End q Full) m = absurd m
outer-one h n (entries.Shell step) m = refl
outer-one h n (entries.Took q bytes) m = refl

all-outer : (h xs : History) → AreMadeBy h xs → AllOuter (entries_of xs)
all-outer h [] m = tt
all-outer h (x ∷ xs) m =
    subst AllOuter (sym (entries-cons x xs))
    (outer-and (entries_of xs) (x.1.entry ∷ []) (all-outer h xs m.1) (outer-one h x.0 x.1.entry m.0, tt))

outer-history : (capacity : ℕ) (es : List Entry) → AllOuter es → outer (history capacity es) ≡ es
outer-history capacity [] a = refl
outer-history capacity (e ∷ es) a =
    let J : List Entry = e ∷ history capacity es in
    outer_settled capacity (number_alive J) J
    ∙ ap (λ s. s ++ outer (history capacity es)) a.0 ∙ ap (λ s. e ∷ s) (outer-history capacity es a.1)

pub outer-journal : (limits : Limits) (h : History) → IsLawful limits h →
    outer (broker_of limits h).journal ≡ entries_of h
outer-journal limits h l = outer-history limits.store (entries_of h) (all-outer h h l.made_by)

-- a longer history has no shorter journal

settled-longer_by : (capacity fuel : ℕ) (journal : List Entry) (o : Option ℕ)
    → ((later : List Entry) → length later ≤ length (settled capacity fuel later)) →
    length journal ≤ length (settled capacity fuel (with_end journal o))
settled-longer_by capacity fuel journal None k = k journal
settled-longer_by capacity fuel journal (Some q) k =
    let more = k (entries.End q (cause_of journal q) ∷ journal) in omega arith

settled-longer : (capacity fuel : ℕ) (journal : List Entry) → length journal ≤ length (settled capacity fuel journal)
settled-longer capacity zero journal = omega arith
settled-longer capacity (suc fuel) journal =
    settled-longer_by capacity fuel journal (due capacity journal) (settled-longer capacity fuel)

history-longer : (capacity : ℕ) (more es : List Entry) →
    length (history capacity es) ≤ length (history capacity (more ++ es))
history-longer capacity [] es = omega arith
history-longer capacity (e ∷ more) es =
    let J : List Entry = e ∷ history capacity (more ++ es) in
    let s = settled-longer capacity (number_alive J) J in
    let r = history-longer capacity more es in omega arith

pub journal-longer : (limits : Limits) (h more : History) →
    length (broker_of limits h).journal ≤ length (broker_of limits (h ++ more)).journal
journal-longer limits h more =
    subst (λ es. length (broker_of limits h).journal ≤ length (history limits.store es)) (sym (entries-append h more))
    (history-longer limits.store (entries_of more) (entries_of h))

-- bytes by the numbers

at-most : (k b : ℕ) → k ≤ 1 → k * b ≤ b
at-most zero b l = omega arith
at-most (suc zero) b l = omega arith
at-most (suc (suc k)) b l = absurd (omega arith)

just-one : (k b : ℕ) → k ≡ 1 → k * b ≡ b
just-one k b e = ap (λ (n : ℕ). n * b) e ∙ omega arith

suc-times : (k b : ℕ) → suc k * b ≡ b + k * b
suc-times k b = omega arith

taken-cond : (t : Bool) (s : OuterStep) (ss : List OuterStep) (k r all : ℕ) → all ≡ k * bytes_by s.entry + r
    → bytes_taken (cond t (s ∷ ss) ss) + all ≡ (bit t + k) * bytes_by s.entry + (bytes_taken ss + r)
taken-cond true s ss k r all e =
    let c = sum_by-cons (λ (s : OuterStep). bytes_by s.entry) s ss in
    let d : suc k * bytes_by s.entry ≡ bytes_by s.entry + k * bytes_by s.entry = suc-times k (bytes_by s.entry) in
    let n : 1 + k ≡ suc k = omega arith in
    let f : (1 + k) * bytes_by s.entry ≡ suc k * bytes_by s.entry =
    ap (λ (m : ℕ). m * bytes_by s.entry) n in omega arith
taken-cond false s ss k r all e =
    let z : 0 + k ≡ k = omega arith in
    let d : (0 + k) * bytes_by s.entry ≡ k * bytes_by s.entry = ap (λ (n : ℕ). n * bytes_by s.entry) z in omega arith

taken-cons : (ns : List ℕ) (x : ℕ × OuterStep) (xs : History) →
    total_taken ns (x ∷ xs) ≡ hits ns x.0 * bytes_by x.1.entry + total_taken ns xs
taken-cons [] x xs = omega arith
taken-cons (n ∷ ns) x xs =
    taken-cond (eqb x.0 n) x.1 (own n xs) (hits ns x.0) (total_taken ns xs) (total_taken ns (x ∷ xs))
    (taken-cons ns x xs)

taken-nil : (ns : List ℕ) → total_taken ns [] ≡ 0
taken-nil [] = refl
taken-nil (n ∷ ns) = let r = taken-nil ns in omega arith

pub taken-few : (ns : List ℕ) (h : History) → IsDistinct ns → total_taken ns h ≤ all_taken h
taken-few ns [] d = let z = taken-nil ns in omega arith
taken-few ns (x ∷ xs) d =
    let c = taken-cons ns x xs in
    let one = at-most (hits ns x.0) (bytes_by x.1.entry) (hits-once ns x.0 d) in
    let rest = taken-few ns xs d in omega arith

pub taken-all : (ns : List ℕ) (h : History) → IsDistinct ns → total ns h ≡ length h → total_taken ns h ≡ all_taken h
taken-all ns [] d e = taken-nil ns
taken-all ns (x ∷ xs) d e =
    let t = total-cons ns x xs in
    let few = total-few ns xs d in
    let once = hits-once ns x.0 d in
    let hit : hits ns x.0 ≡ 1 = omega arith in
    let whole : total ns xs ≡ length xs = omega arith in
    let one = just-one (hits ns x.0) (bytes_by x.1.entry) hit in
    let rest = taken-all ns xs d whole in
    let c = taken-cons ns x xs in omega arith

-- so are those of one pass
pub own-few-bytes : (limits : Limits) (n : ℕ) (h : History) → IsLawful limits h → bytes_taken (own n h) ≤ 16384000000
own-few-bytes limits n h l =
    let one = taken-few (n ∷ []) h (λ i. i, tt) in
    let all = few-lawful limits h l in omega arith
