-- A peer that sent a field's whole set-up made the field, unless it ended
use Rattle.std.proofs.Common.{◌≡◌, ℕ, ◌+◌, ◌≤◌, Bool, true, false, List, [], ◌∷◌, ◌++◌, length, Option, Some, None, refl, sym, ap, subst, ◌∙◌, arith, inl, inr}
use Rattle.std.specs.Prelude.{◌⊎◌, if◌then◌else◌}
use Rattle.std.proofs.lemmas.List.{append_assoc, append-nil}
use Rattle.std.proofs.lemmas.Option.{same_Some}
use Rattle.broker_steps.specs.declared.limits.Limits.{Limits}
use Rattle.broker_model.specs.declared.journal.Entry.{Entry}
use Rattle.broker_model.specs.Ids.{Joined, peer_at}
use Rattle.broker_model.specs.Resolve.{past_of}
use Rattle.broker_model.specs.Settle.{history}
use Rattle.broker_core.specs.Stands.{end_of}
use Rattle.broker_core.specs.Taking.{lives_in}
use Rattle.client_side.specs.FieldLog.{sends_of}
use Rattle.client_side.specs.Happenings.{Happening}
use Rattle.client_side.specs.Messages.{Sent, field_setup}
use Rattle.hub_lock.specs.Histories.{History, entries_of}
use Rattle.hub_lock.specs.Lawful.{IsLawful}
use Rattle.hub_lock.specs.Steps.{AreLegalEntries}
use Rattle.hub_calls.specs.Made.{journal_of}
use Rattle.hub_calls.proofs.FrontsGrow.{history_keeps}
use Rattle.trial_laws.specs.RelayedBatches.{HasMadeField}
use Rattle.trial_laws.proofs.ClientIds.{AreOwn}
use Rattle.trial_laws.proofs.FieldsMade.{HasId, step_before, id_stays, made_id, field_there}
use Rattle.trial_laws.proofs.SetupSent.{IsMaking, AreMaking, setup_makes}
use Rattle.trial_laws.specs.TypedLogs.{is_step_of, steps_by, step_of_request, steps_of}
use Rattle.trial_laws.proofs.MethodIds.{head_is}
use Rattle.trial_laws.proofs.StepsSent.{steps-append}
use Rattle.trial_job_laws.specs.Passes.{HasSentIn}
use Rattle.trial_job_laws.proofs.ObjectsMade.{field_own}
use Rattle.trial_job_laws.proofs.StepsOfPeers.{steps_outer}

-- ---- the last of some requests

record HasLast (n : ℕ) (ss : List Sent) : Type 0 where
  front : List Sent
  last : Sent
  is : ss ≡ front ++ last ∷ []
  id : ℕ
  number : id + 1 ≡ n + length ss
  makes : IsMaking id last

has_last : (n : ℕ) (s : Sent) (more : List Sent) → AreMaking n (s ∷ more) → HasLast n (s ∷ more)
has_last n s [] h = record { front = []; last = s; is = refl; id = n; number = omega arith; makes = h.0 }
has_last n s (t ∷ more) h =
    let r : HasLast (n + 1) (t ∷ more) = has_last (n + 1) t more h.1 in
    let same = r.number in
    record {
      front = s ∷ r.front;
      last = r.last;
      is = ap (λ (l : List Sent). s ∷ l) r.is;
      id = r.id;
      number = omega arith;
      makes = r.makes;
    }

last_of : (n : ℕ) (ss : List Sent) → 1 ≤ length ss → AreMaking n ss → HasLast n ss
last_of n [] some h = absurd (omega arith)
last_of n (s ∷ more) some h = has_last n s more h

-- ---- the entry of a step

not_empty : (pre post : List Entry) (x : Entry) → [] ≡ pre ++ x ∷ post → ⊥
not_empty [] post x h = cc
not_empty (y ∷ pre) post x h = cc

last_or : (a pre post : List Entry) (e x : Entry) → a ++ e ∷ [] ≡ pre ++ x ∷ post →
    ((e ≡ x) × (a ≡ pre)) ⊎ ((later : List Entry) × (a ≡ pre ++ x ∷ later))
last_or [] [] post e x h = inl (head_is e x [] post h, refl)
last_or [] (y ∷ pre) post e x h =
    absurd (not_empty pre post x (let rest : [] ≡ pre ++ x ∷ post = cc in rest))
last_or (z ∷ a) [] post e x h =
    inr (a, ap (λ (y : Entry). y ∷ a) (head_is z x (a ++ e ∷ []) post h))
last_or (z ∷ a) (y ∷ pre) post e x h =
    by (last_or a pre post e x (let rest : a ++ e ∷ [] ≡ pre ++ x ∷ post = cc in rest))
    (head_is z y (a ++ e ∷ []) (pre ++ x ∷ post) h)
  where
    by : ((e ≡ x) × (a ≡ pre)) ⊎ ((later : List Entry) × (a ≡ pre ++ x ∷ later)) → z ≡ y →
        ((e ≡ x) × (z ∷ a ≡ y ∷ pre)) ⊎ ((later : List Entry) × (z ∷ a ≡ y ∷ (pre ++ x ∷ later)))
    by (inl k) same = inl (k.0, ap (λ (l : List Entry). z ∷ l) k.1 ∙ ap (λ (w : Entry). w ∷ pre) same)
    by (inr k) same =
        inr (k.0, ap (λ (l : List Entry). z ∷ l) k.1 ∙ ap (λ (w : Entry). w ∷ (pre ++ x ∷ k.0)) same)

-- a step of the peer among these, where it made those steps before
record IsAt (q : ℕ) (es : List Entry) (x : Entry) (before : List Entry) : Type 0 where
  newer : List Entry
  older : List Entry
  is : es ≡ newer ++ x ∷ older
  steps : steps_by older q ≡ before

step_at : (q : ℕ) (es pre post : List Entry) (x : Entry) → steps_by es q ≡ pre ++ x ∷ post → IsAt q es x pre
step_at q [] pre post x h = absurd (not_empty pre post x h)
step_at q (e ∷ es) pre post x h = by (is_step_of q e) h (λ later k. step_at q es pre later x k)
  where
    later : IsAt q es x pre → IsAt q (e ∷ es) x pre
    later i =
        record {
          newer = e ∷ i.newer;
          older = i.older;
          is = ap (λ (l : List Entry). e ∷ l) i.is;
          steps = i.steps;
        }

    last : ((e ≡ x) × (steps_by es q ≡ pre)) ⊎ ((more : List Entry) × (steps_by es q ≡ pre ++ x ∷ more)) →
        ((more : List Entry) → steps_by es q ≡ pre ++ x ∷ more → IsAt q es x pre) → IsAt q (e ∷ es) x pre
    last (inl k) before =
        record { newer = []; older = es; is = ap (λ (y : Entry). y ∷ es) k.0; steps = k.1 }
    last (inr k) before = later (before k.0 k.1)

    by : (b : Bool) → steps_by es q ++ (if b then e ∷ [] else []) ≡ pre ++ x ∷ post →
        ((more : List Entry) → steps_by es q ≡ pre ++ x ∷ more → IsAt q es x pre) → IsAt q (e ∷ es) x pre
    by true k before = last (last_or (steps_by es q) pre post e x k) before
    by false k before = later (before post (sym (append-nil (steps_by es q)) ∙ k))

-- ---- what comes after it

legal_after : (limits : Limits) (newer base : List Entry) → AreLegalEntries limits (newer ++ base) →
    AreLegalEntries limits base
legal_after limits [] base h = h
legal_after limits (e ∷ newer) base h = legal_after limits newer base h.1

none_after : (capacity : ℕ) (newer base : List Entry) (q : ℕ) → end_of (history capacity (newer ++ base)) q ≡ None →
    end_of (history capacity base) q ≡ None
none_after capacity [] base q h = h
none_after capacity (e ∷ newer) base q h =
    none_after capacity newer base q (step_before capacity e (history capacity (newer ++ base)) q h)

id_after : (capacity : ℕ) (newer base : List Entry) (p id : ℕ) → HasId (past_of (history capacity base)).made p id →
    HasId (past_of (history capacity (newer ++ base))).made p id
id_after capacity [] base p id h = h
id_after capacity (e ∷ newer) base p id h =
    id_stays capacity e (history capacity (newer ++ base)) p id (id_after capacity newer base p id h)

who_lives : (journal : List Entry) (o : Option Joined) → lives_in journal o ≡ true → (p : Joined) × (o ≡ Some p)
who_lives journal None h = cc
who_lives journal (Some p) h = (p, refl)

-- ---- the field

made_in : (capacity q : ℕ) (log : List Happening) (l : HasLast 1 field_setup) (newer older : List Entry) (p : Joined) →
    peer_at (past_of (history capacity older)) q ≡ Some p → steps_by older q ≡ steps_of q l.front →
    end_of (history capacity (newer ++ step_of_request q l.last ∷ older)) q ≡ None →
    HasId (past_of (history capacity (newer ++ step_of_request q l.last ∷ older))).made p.label 7
made_in capacity q log l newer older p joined steps none =
    let step : Entry = step_of_request q l.last in
    let rest : List Entry = step ∷ steps_of q (sends_of log) in
    let front : steps_by older q ++ rest ≡ steps_of q (field_setup ++ sends_of log) =
    ap (λ (s : List Entry). s ++ rest) steps
    ∙ sym (steps-append q l.front (l.last ∷ sends_of log))
    ∙ ap (steps_of q) (sym (append_assoc l.front (l.last ∷ []) (sends_of log)))
    ∙ ap (λ (ss : List Sent). steps_of q (ss ++ sends_of log)) (sym l.is) in
    let own : AreOwn (past_of (history capacity older)).made p.label 7 =
    field_own capacity older q rest log p front joined in
    id_after capacity newer (step ∷ older) p.label 7
    (subst (HasId (past_of (history capacity (step ∷ older))).made p.label) l.number
    (made_id capacity q l.id 7 l.last (history capacity older) p joined l.makes own
    (none_after capacity newer (step ∷ older) q none)))

all_made : (limits : Limits) (h : History) (q : ℕ) (log : List Happening) (peer : Joined) → IsLawful limits h →
    peer_at (past_of (journal_of limits h)) q ≡ Some peer →
    steps_by (journal_of limits h) q ≡ steps_of q (field_setup ++ sends_of log) →
    HasMadeField (journal_of limits h) q peer.label
all_made limits h q log peer lawful joined steps none =
    let es : List Entry = entries_of h in
    let l : HasLast 1 field_setup = last_of 1 field_setup (omega arith) setup_makes in
    let step : Entry = step_of_request q l.last in
    let all : steps_by es q ≡ steps_of q l.front ++ step ∷ steps_of q (sends_of log) =
    sym (steps_outer limits.store es q) ∙ steps
    ∙ ap (λ (ss : List Sent). steps_of q (ss ++ sends_of log)) l.is
    ∙ ap (steps_of q) (append_assoc l.front (l.last ∷ []) (sends_of log))
    ∙ steps-append q l.front (l.last ∷ sends_of log) in
    let i : IsAt q es step (steps_of q l.front) =
    step_at q es (steps_of q l.front) (steps_of q (sends_of log)) step all in
    let legal : AreLegalEntries limits (step ∷ i.older) =
    legal_after limits i.newer (step ∷ i.older) (subst (AreLegalEntries limits) i.is lawful.legal.entries) in
    let journal : List Entry = history limits.store i.older in
    let who = who_lives journal (peer_at (past_of journal) q) legal.0.finds in
    let whole : journal_of limits h ≡ history limits.store (i.newer ++ step ∷ i.older) =
    ap (history limits.store) i.is in
    let made : HasId (past_of (journal_of limits h)).made who.0.label 7 =
    subst (λ (j : List Entry). HasId (past_of j).made who.0.label 7) (sym whole)
    (made_in limits.store q log l i.newer i.older who.0 who.1 i.steps
    (ap (λ (j : List Entry). end_of j q) (sym whole) ∙ none)) in
    let there : peer_at (past_of (journal_of limits h)) q ≡ Some who.0 =
    ap (λ (j : List Entry). peer_at (past_of j) q)
    (whole ∙ ap (history limits.store) (sym (append_assoc i.newer (step ∷ []) i.older)))
    ∙ history_keeps limits.store (i.newer ++ step ∷ []) i.older q who.0 who.1 in
    let same : who.0 ≡ peer = same_Some who.0 peer (sym there ∙ joined) in
    field_there (journal_of limits h) peer.label
    (subst (λ (x : Joined). HasId (past_of (journal_of limits h)).made x.label 7) same made)

pub field_made : (limits : Limits) (h : History) (q : ℕ) (log : List Happening) (peer : Joined) → IsLawful limits h →
    peer_at (past_of (journal_of limits h)) q ≡ Some peer →
    HasSentIn (journal_of limits h) q (field_setup ++ sends_of log) →
    HasMadeField (journal_of limits h) q peer.label
field_made limits h q log peer lawful joined (inl steps) none =
    all_made limits h q log peer lawful joined steps none
field_made limits h q log peer lawful joined (inr k) none =
    absurd (let no : Some k.1.0 ≡ None = sym k.1.1 ∙ none in cc)
