-- What one more step makes of a history, and of the broker that it makes
use Rattle.std.proofs.Common.{◌≡◌, ℕ, zero, suc, ◌≤◌, List, [], ◌∷◌, ◌++◌, length, map, reverse, Bool, true, false, Option, Some, None, refl, ap, sym, ◌∙◌, arith, length-append}
use Rattle.std.specs.Prelude.{if◌then◌else◌}
use Rattle.std.proofs.lemmas.List.{map-append, reverse-append}
use Rattle.broker_steps.specs.declared.limits.Limits.{Limits}
use Rattle.broker_steps.specs.declared.stamp.Stamp.{Stamp}
use Rattle.relay_model.specs.declared.act.EndCause.TheVariants.{Bad, Full}
use Rattle.broker_model.specs.declared.journal.Entry.{Entry}
use Rattle.broker_model.specs.declared.journal.Entry.TheVariants as entries
use Rattle.broker_model.specs.Settle.{refused, due, cause_of, with_end, settled, settle, history, number_alive}
use Rattle.broker_model.specs.Stamps.{follows, no_stamp, stamp_of, stamps, step_stamps}
use Rattle.broker_model.proofs.StampsAgain.{step_stamped, end_stamped, again}
use Rattle.broker_core.specs.Broker.{Broker, with_step}
use Rattle.hub_lock.specs.declared.step.OuterStep.{OuterStep}
use Rattle.hub_lock.specs.Histories.{History, stamp_by, entries_of, given_of, broker_of, step_after, steps_in}
use Rattle.hub_lock.specs.Lawful.{history_of}

-- the newest entry stands first, and so does what was given with it

pub entries-more : (h : History) (n : ℕ) (s : OuterStep) → entries_of (h ++ (n, s) ∷ []) ≡ s.entry ∷ entries_of h
entries-more h n s =
    ap reverse (map-append (λ (x : ℕ × OuterStep). x.1.entry) h ((n, s) ∷ []))
    ∙ reverse-append (map (λ (x : ℕ × OuterStep). x.1.entry) h) (s.entry ∷ [])

pub given-more : (h : History) (n : ℕ) (s : OuterStep) → given_of (h ++ (n, s) ∷ []) ≡ stamp_by n ∷ given_of h
given-more h n s =
    ap reverse (map-append (λ (x : ℕ × OuterStep). stamp_by x.0) h ((n, s) ∷ []))
    ∙ reverse-append (map (λ (x : ℕ × OuterStep). stamp_by x.0) h) (stamp_by n ∷ [])

-- an end that settling appends follows from a step

end_by : (q : ℕ) (b : Bool) → follows (entries.End q (if b then Bad else Full)) ≡ true
end_by q true = refl
end_by q false = refl

pub end_follows : (journal : List Entry) (q : ℕ) → follows (entries.End q (cause_of journal q)) ≡ true
end_follows journal q = end_by q (refused journal q)

-- the stamps of a settled journal are those of the journal before, and of the ends

stamps_settled_by : (capacity fuel : ℕ) (journal : List Entry) (o : Option ℕ) (g1 g2 : List Stamp)
    → ((later : List Entry) → stamps later g1 ≡ stamps later g2 →
    stamps (settled capacity fuel later) g1 ≡ stamps (settled capacity fuel later) g2)
    → stamps journal g1 ≡ stamps journal g2
    → stamps (settled capacity fuel (with_end journal o)) g1 ≡ stamps (settled capacity fuel (with_end journal o)) g2
stamps_settled_by capacity fuel journal None g1 g2 k e = k journal e
stamps_settled_by capacity fuel journal (Some q) g1 g2 k e =
    let ended : Entry = entries.End q (cause_of journal q) in
    let f = end_follows journal q in
    k (ended ∷ journal) (end_stamped ended journal no_stamp g1 f
    ∙ ap (λ (ss : List Stamp). stamp_of ended no_stamp ss ∷ ss) e ∙ sym (end_stamped ended journal no_stamp g2 f))

stamps_settled : (capacity fuel : ℕ) (journal : List Entry) (g1 g2 : List Stamp) → stamps journal g1 ≡ stamps journal g2
    → stamps (settled capacity fuel journal) g1 ≡ stamps (settled capacity fuel journal) g2
stamps_settled capacity zero journal g1 g2 e = e
stamps_settled capacity (suc fuel) journal g1 g2 e =
    stamps_settled_by capacity fuel journal (due capacity journal) g1 g2
    (λ later. stamps_settled capacity fuel later g1 g2) e

-- the broker of a longer history is what the step makes of the broker before
pub broker-more : (limits : Limits) (h : History) (n : ℕ) (s : OuterStep) → follows s.entry ≡ false
    → with_step s.entry (stamp_by n) (broker_of limits h) ≡ broker_of limits (h ++ (n, s) ∷ [])
broker-more limits h n s f =
    let J : List Entry = history limits.store (entries_of h) in
    let G : List Stamp = given_of h in
    let K : List Entry = s.entry ∷ J in
    let g : Stamp = stamp_by n in
    let again' : stamps K (g ∷ step_stamps J (stamps J G)) ≡ stamps K (g ∷ G) =
    step_stamped s.entry J g (step_stamps J (stamps J G)) f
    ∙ ap (λ (ss : List Stamp). stamp_of s.entry g ss ∷ ss) (again J G) ∙ sym (step_stamped s.entry J g G f) in
    let made : List Entry → List Stamp → Broker = λ es gs.
    record {
      limits = limits;
      journal = history limits.store es;
      stamps = stamps (history limits.store es) gs;
      kept_from = 0;
    } in
    ap (λ (ss : List Stamp). record { limits = limits; journal = settle limits.store K; stamps = ss; kept_from = 0 })
    (stamps_settled limits.store (number_alive K) K (g ∷ step_stamps J (stamps J G)) (g ∷ G) again')
    ∙ ap (λ es. made es (g ∷ G)) (sym (entries-more h n s))
    ∙ ap (made (entries_of (h ++ (n, s) ∷ []))) (sym (given-more h n s))

-- the steps of a settled journal are those of the journal before

end_left_out : (readers : List ℕ) (journal : List Entry) (q : ℕ) (g : List Stamp)
    → steps_in readers (entries.End q (cause_of journal q) ∷ journal)
    (stamps (entries.End q (cause_of journal q) ∷ journal) g)
    ≡ steps_in readers journal (stamps journal g)
end_left_out readers journal q g =
    let ended : Entry = entries.End q (cause_of journal q) in
    let f = end_follows journal q in
    let last : Stamp = stamp_of ended no_stamp (stamps journal g) in
    let others : History = steps_in readers journal (stamps journal g) in
    ap (steps_in readers (ended ∷ journal)) (end_stamped ended journal no_stamp g f)
    ∙ ap (λ (b : Bool). if b then others else others ++ (last.author, step_after readers journal ended) ∷ []) f

steps_settled_by : (readers : List ℕ) (capacity fuel : ℕ) (journal : List Entry) (o : Option ℕ) (g : List Stamp)
    → ((later : List Entry) →
    steps_in readers (settled capacity fuel later) (stamps (settled capacity fuel later) g)
    ≡ steps_in readers later (stamps later g))
    → steps_in readers (settled capacity fuel (with_end journal o))
    (stamps (settled capacity fuel (with_end journal o)) g) ≡ steps_in readers journal (stamps journal g)
steps_settled_by readers capacity fuel journal None g k = k journal
steps_settled_by readers capacity fuel journal (Some q) g k =
    k (entries.End q (cause_of journal q) ∷ journal) ∙ end_left_out readers journal q g

steps_settled : (readers : List ℕ) (capacity fuel : ℕ) (journal : List Entry) (g : List Stamp)
    → steps_in readers (settled capacity fuel journal) (stamps (settled capacity fuel journal) g)
    ≡ steps_in readers journal (stamps journal g)
steps_settled readers capacity zero journal g = refl
steps_settled readers capacity (suc fuel) journal g =
    steps_settled_by readers capacity fuel journal (due capacity journal) g
    (λ later. steps_settled readers capacity fuel later g)

stamp-author : (e : Entry) (given : Stamp) (older : List Stamp) → follows e ≡ false →
    (stamp_of e given older).author ≡ given.author
stamp-author e given older f = rw f refl

-- after a step the history is longer by it
pub history-more : (readers : List ℕ) (e : Entry) (given : Stamp) (b : Broker) → follows e ≡ false
    → stamps b.journal (step_stamps b.journal b.stamps) ≡ b.stamps
    → history_of (with_step e given b) readers
    ≡ history_of b readers ++ (given.author, step_after readers b.journal e) ∷ []
history-more readers e given b f stamped =
    let K : List Entry = e ∷ b.journal in
    let G : List Stamp = given ∷ step_stamps b.journal b.stamps in
    let others : History = history_of b readers in
    let last : OuterStep = step_after readers b.journal e in
    let before : List Stamp = b.stamps in
    steps_settled readers b.limits.store (number_alive K) K G
    ∙ ap (steps_in readers K) (step_stamped e b.journal given (step_stamps b.journal b.stamps) f
    ∙ ap (λ (ss : List Stamp). stamp_of e given ss ∷ ss) stamped)
    ∙ ap (λ (t : Bool). if t then others else others ++ ((stamp_of e given before).author, last) ∷ []) f
    ∙ ap (λ (a : ℕ). others ++ (a, last) ∷ []) (stamp-author e given before f)

-- there are no more steps than entries
pub steps_few : (readers : List ℕ) (journal : List Entry) (ss : List Stamp) →
    length (steps_in readers journal ss) ≤ length journal
steps_few readers [] ss = omega arith
steps_few readers (e ∷ older) [] = omega arith
steps_few readers (e ∷ older) (s ∷ before) =
    few (follows e) (steps_in readers older before) (s.author, step_after readers older e) (length older)
    (steps_few readers older before) where
      few : (b : Bool) (h : History) (x : ℕ × OuterStep) (n : ℕ) → length h ≤ n →
          length (if b then h else h ++ x ∷ []) ≤ suc n
      few true h x n l = omega arith
      few false h x n l = omega (arith, length-append h (x ∷ []))
