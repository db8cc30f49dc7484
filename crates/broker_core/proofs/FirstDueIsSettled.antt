-- The first live peer that has to be ended is the one that settling ends.
use Rattle.std.proofs.Common.{◌≡◌, ℕ, suc, List, [], ◌∷◌, map, Bool, true, false, cond, Option, Some, ap, refl, sym, ◌∙◌, ◌+◌, ◌<◌, length, None, ap₂, arith}
use Rattle.std.specs.Prelude.{◌&&◌, ◌||◌, filter, if◌then◌else◌}
use Rattle.std.specs.List.{AllByRecursion}
use Rattle.std.specs.Option.{option_map}
use Rattle.std.proofs.lemmas.Bool.{eq-eqb}
use Rattle.std.proofs.lemmas.Option.{some_pair_parts}
use Rattle.relay_model.specs.declared.act.EndCause.{EndCause}
use Rattle.relay_model.specs.declared.act.EndCause.TheVariants.{Bad, Full}
use Rattle.relay_model.specs.Objects.{is_peer}
use Rattle.broker_steps.specs.declared.stamp.Stamp.{Stamp}
use Rattle.broker_model.specs.declared.journal.Entry.{Entry}
use Rattle.broker_model.specs.Ids.{Joined, log_of}
use Rattle.broker_model.specs.Resolve.{past_of}
use Rattle.broker_model.specs.Out.{out_for}
use Rattle.broker_model.specs.Settle.{refused, due_from, due, cause_of, number_alive, settle}
use Rattle.broker_audience.specs.declared.live.Live.{Live}
use Rattle.broker_audience.specs.Lives.{Numbered, who, is_number, number_of}
use Rattle.broker_core.specs.Stands.{numbered, is_alive, roster, IsLive, Stands}
use Rattle.broker_audience.specs.Changes.{first_due}
use Rattle.std.proofs.lemmas.List.{length-map}
use Rattle.broker_model.specs.declared.journal.Entry.TheVariants as entries
use Rattle.broker_model.specs.Stamps.{follows, stamp_of, stamps}
use Rattle.broker_model.proofs.StampsAgain.{end_stamped}
use Rattle.broker_model.proofs.SettlingEnds.{ends_fewer, settle_done, settle_next}
use Rattle.broker_core.specs.declared.state.State.{State}
use Rattle.broker_core.proofs.RosterAfterEntry.{roster_count}

-- its number

abbrev number_in : Option (ℕ × EndCause) → Option ℕ
number_in o = option_map (λ d. d.0) o

same_parts : (x y : Numbered) (xs ys : List Numbered) → x ∷ xs ≡ y ∷ ys → (x ≡ y) × (xs ≡ ys)
same_parts x y xs ys e = (cc, cc)

not_empty : (x : Numbered) (xs : List Numbered) → x ∷ xs ≡ [] → ⊥
not_empty x xs e = cc

-- its state says whether a live peer is due
own_due : (capacity : ℕ) (journal : List Entry) (q : ℕ) (peer : Joined) (l : Live) →
    who l ≡ record { number = q; peer = peer } → IsLive capacity journal l →
    (l.is_refused || l.is_choked) ≡ (refused journal q || (out_for capacity journal peer.label).choked)
own_due capacity journal q peer l e i =
    ap (λ (b : Bool). b || l.is_choked) i.refused
    ∙ ap (λ (b : Bool). refused journal l.number || b) i.choked
    ∙ ap (λ (n : Numbered). refused journal n.number || (out_for capacity journal n.peer.label).choked) e

head_due : (b c : Bool) (q : ℕ) (o : Option (ℕ × EndCause)) →
    number_in (if b then Some (q, Bad) else (if c then Some (q, Full) else o))
    ≡ (if b || c then Some q else number_in o)
head_due true c q o = refl
head_due false true q o = refl
head_due false false q o = refl

due_by : (capacity : ℕ) (journal : List Entry) (q : ℕ) (peer : Joined) (later : List Numbered) (o : Option ℕ) (b : Bool)
    (live : List Live) →
    ((rest : List Live) → map who rest ≡ later → AllByRecursion (IsLive capacity journal) rest →
    o ≡ number_in (first_due rest)) →
    map who live ≡ cond b (record { number = q; peer = peer } ∷ later) later →
    AllByRecursion (IsLive capacity journal) live →
    (if b && (refused journal q || (out_for capacity journal peer.label).choked) then Some q else o)
    ≡ number_in (first_due live)
due_by capacity journal q peer later o true [] f e h = cc
due_by capacity journal q peer later o true (l ∷ rest) f e h =
    let parts : (who l ≡ record { number = q; peer = peer }) × (map who rest ≡ later) =
    same_parts (who l) _ (map who rest) later e in
    let here : who l ≡ record { number = q; peer = peer } = parts.0 in
    ap (λ (o : Option ℕ). if refused journal q || (out_for capacity journal peer.label).choked then Some q else o)
    (f rest parts.1 h.1)
    ∙ ap (λ (b : Bool). if b then Some q else number_in (first_due rest))
    (sym (own_due capacity journal q peer l here h.0))
    ∙ ap (λ (n : Numbered). if l.is_refused || l.is_choked then Some n.number else number_in (first_due rest))
    (sym here)
    ∙ sym (head_due l.is_refused l.is_choked l.number (first_due rest))
due_by capacity journal q peer later o false live f e h = f live e h

due_among : (capacity : ℕ) (journal : List Entry) (q : ℕ) (joined : List Joined) (live : List Live) →
    map who live ≡ filter (is_alive (log_of (past_of journal))) (numbered q joined) →
    AllByRecursion (IsLive capacity journal) live →
    due_from capacity journal q joined ≡ number_in (first_due live)
due_among capacity journal q [] [] e h = refl
due_among capacity journal q [] (l ∷ live) e h = absurd (not_empty (who l) (map who live) e)
due_among capacity journal q (peer ∷ joined) live e h =
    due_by capacity journal q peer (filter (is_alive (log_of (past_of journal))) (numbered (suc q) joined))
    (due_from capacity journal (suc q) joined)
    (is_peer (log_of (past_of journal)) peer.label) live (due_among capacity journal (suc q) joined) e h

pub first_is_due : (capacity : ℕ) (journal : List Entry) (live : List Live) → map who live ≡ roster journal →
    AllByRecursion (IsLive capacity journal) live → due capacity journal ≡ option_map (λ d. d.0) (first_due live)
first_is_due capacity journal live e h = due_among capacity journal 1 (past_of journal).joined live e h

-- its cause

pub first_cause : (capacity : ℕ) (journal : List Entry) (live : List Live) →
    AllByRecursion (IsLive capacity journal) live →
    (q : ℕ) (cause : EndCause) → first_due live ≡ Some (q, cause) → cause ≡ cause_of journal q
first_cause capacity journal [] h q cause e = cc
first_cause capacity journal (l ∷ live) h q cause e =
    by l.is_refused l.is_choked (sym h.0.refused) (first_cause capacity journal live h.1 q cause) e
  where
    by : (b c : Bool) → refused journal l.number ≡ b → (first_due live ≡ Some (q, cause) → cause ≡ cause_of journal q) →
        (if b then Some (l.number, Bad) else (if c then Some (l.number, Full) else first_due live)) ≡ Some (q, cause) →
        cause ≡ cause_of journal q
    by true c r f d =
        let parts : (l.number ≡ q) × (Bad ≡ cause) = some_pair_parts l.number q Bad cause d in
        sym parts.1 ∙ sym (ap (λ (b : Bool). if b then Bad else Full) (ap (refused journal) (sym parts.0) ∙ r))
    by false true r f d =
        let parts : (l.number ≡ q) × (Full ≡ cause) = some_pair_parts l.number q Full cause d in
        sym parts.1 ∙ sym (ap (λ (b : Bool). if b then Bad else Full) (ap (refused journal) (sym parts.0) ∙ r))
    by false false r f d = f d

-- it is there

first_here : (q : ℕ) (l : Live) (live : List Live) → l.number ≡ q → number_of q (l ∷ live) ≡ Some l
first_here q l live e = ap (λ (b : Bool). if b then Some l else number_of q live) (eq-eqb l.number q e)

first_later : (q : ℕ) (l : Live) (live : List Live) (b : Bool) → ((x : Live) × (number_of q live ≡ Some x)) →
    (x : Live) × ((if b then Some l else number_of q live) ≡ Some x)
first_later q l live true f = (l, refl)
first_later q l live false f = f

pub first_there : (live : List Live) (q : ℕ) (cause : EndCause) → first_due live ≡ Some (q, cause) →
    (l : Live) × (number_of q live ≡ Some l)
first_there [] q cause e = cc
first_there (l ∷ live) q cause e = by l.is_refused l.is_choked (first_there live q cause) e
  where
    by : (b c : Bool) → (first_due live ≡ Some (q, cause) → (x : Live) × (number_of q live ≡ Some x)) →
        (if b then Some (l.number, Bad) else (if c then Some (l.number, Full) else first_due live)) ≡ Some (q, cause) →
        (x : Live) × (number_of q (l ∷ live) ≡ Some x)
    by true c f d = (l, first_here q l live (some_pair_parts l.number q Bad cause d).0)
    by false true f d = (l, first_here q l live (some_pair_parts l.number q Full cause d).0)
    by false false f d = first_later q l live (is_number q l) (f d)

-- The code ends one peer after the other, as settling says.

-- as many are kept as are alive
pub alive_count : (s : State) → Stands s → length s.audience.live.items ≡ number_alive s.journal.entries
alive_count s v = sym (length-map s.audience.live.items who) ∙ ap length v.who ∙ roster_count s.journal.entries

-- the first that is found has to be ended
pub found_due : (s : State) (q : ℕ) (why : EndCause) → Stands s → first_due s.audience.live.items ≡ Some (q, why) →
    due s.capacity s.journal.entries ≡ Some q
found_due s q why v e =
    first_is_due s.capacity s.journal.entries s.audience.live.items v.who v.live
    ∙ ap (option_map (λ (d : ℕ × EndCause). d.0)) e

-- its end follows from a step
pub cause_follows : (q : ℕ) (b : Bool) → follows (entries.End q (if b then Bad else Full)) ≡ true
cause_follows q true = refl
cause_follows q false = refl

-- after its end the same is left to settle, and fewer are alive
pub record IsNearer (q : ℕ) (why : EndCause) (s t : State) : Type 0 where
  pub rest : settle t.capacity t.journal.entries ≡ settle s.capacity s.journal.entries
  pub fewer : length t.audience.live.items < length s.audience.live.items
  pub more : length t.journal.entries ≡ length s.journal.entries + 1
  pub follows : follows (entries.End q why) ≡ true

pub next_end : (s t : State) (q : ℕ) (why : EndCause) → Stands s → Stands t → t.capacity ≡ s.capacity →
    t.journal.entries ≡ entries.End q why ∷ s.journal.entries → first_due s.audience.live.items ≡ Some (q, why) →
    IsNearer q why s t
next_end s t q why v w c j e =
    let is : due s.capacity s.journal.entries ≡ Some q = found_due s q why v e in
    let cause : why ≡ cause_of s.journal.entries q =
    first_cause s.capacity s.journal.entries s.audience.live.items v.live q why e in
    let less : number_alive (entries.End q why ∷ s.journal.entries) < number_alive s.journal.entries =
    ends_fewer s.capacity s.journal.entries q why is in
    let now : number_alive t.journal.entries ≡ number_alive (entries.End q why ∷ s.journal.entries) =
    ap number_alive j in
    let mine : length s.audience.live.items ≡ number_alive s.journal.entries = alive_count s v in
    let its : length t.audience.live.items ≡ number_alive t.journal.entries = alive_count t w in
    let long : length t.journal.entries ≡ length (entries.End q why ∷ s.journal.entries) = ap length j in
    record {
      rest = ap₂ settle c (j ∙ ap (λ (k : EndCause). entries.End q k ∷ s.journal.entries) cause)
          ∙ sym (settle_next s.capacity s.journal.entries q is);
      fewer = omega arith;
      more = omega arith;
      follows = ap (λ (k : EndCause). follows (entries.End q k)) cause ∙ cause_follows q (refused s.journal.entries q);
    }

-- the stamp of its end is not given
pub end_stamps : (s t : State) (q : ℕ) (why : EndCause) (none : Stamp) (gave : List Stamp) →
    follows (entries.End q why) ≡ true →
    t.journal.entries ≡ entries.End q why ∷ s.journal.entries →
    t.stamps.stamps ≡ stamp_of (entries.End q why) none s.stamps.stamps ∷ s.stamps.stamps →
    stamps s.journal.entries gave ≡ s.stamps.stamps → stamps t.journal.entries gave ≡ t.stamps.stamps
end_stamps s t q why none gave f j p h =
    ap (λ (journal : List Entry). stamps journal gave) j
    ∙ end_stamped (entries.End q why) s.journal.entries none gave f
    ∙ ap (λ (before : List Stamp). stamp_of (entries.End q why) none before ∷ before) h
    ∙ sym p

-- where none is found, nothing is left to settle
pub none_due : (s : State) → Stands s → first_due s.audience.live.items ≡ None →
    s.journal.entries ≡ settle s.capacity s.journal.entries
none_due s v e =
    sym (settle_done s.capacity s.journal.entries
    (first_is_due s.capacity s.journal.entries s.audience.live.items v.who v.live
    ∙ ap (option_map (λ (d : ℕ × EndCause). d.0)) e))
