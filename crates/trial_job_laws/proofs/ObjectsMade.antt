-- A field's peer made the objects that its client knows, each once, whatever others did meanwhile
use Rattle.std.proofs.Common.{◌≡◌, ℕ, zero, suc, ◌+◌, ◌≤◌, Bool, true, false, List, [], ◌∷◌, ◌++◌, length, Option, Some, None, refl, sym, ap, subst, ◌∙◌, arith, inl, inr}
use Rattle.std.specs.Prelude.{◌⊎◌, if◌then◌else◌, ◌==◌}
use Rattle.std.proofs.lemmas.Bool.{eq-eqb}
use Rattle.std.proofs.lemmas.List.{append_assoc, append-nil, append_cancel_left}
use Rattle.std.proofs.lemmas.Option.{same_Some}
use Rattle.wl_proto.specs.Spelling.{spelling}
use Rattle.broker_model.specs.declared.journal.Entry.{Entry}
use Rattle.broker_model.specs.declared.journal.Entry.TheVariants as entries
use Rattle.broker_model.specs.Ids.{Made, Joined, Past, peer_in, peer_at, object_at}
use Rattle.broker_model.specs.Resolve.{of_message, of_peer, means, with_joined, past_of}
use Rattle.broker_model.specs.Settle.{settle, history}
use Rattle.client_side.specs.Messages.{Sent, field_setup}
use Rattle.client_side.specs.FieldLog.{sent_for, field_of, sends_of}
use Rattle.client_side.specs.Happenings.{Happening}
use Rattle.trial_laws.proofs.BytesTaken.{step_joined, step_peer}
use Rattle.trial_laws.proofs.FieldsMade.{joined_by}
use Rattle.trial_laws.proofs.ClientIds.{AreOwn, IsOfOther, step_made, others_step, input_step, join_step}
use Rattle.trial_laws.specs.TypedLogs.{is_step_of, steps_by, step_of_request, steps_of}
use Rattle.trial_laws.proofs.StepsSent.{steps-append, step_steps}
use Rattle.trial_laws.proofs.SetupSent.{IsMaking, AreMaking, more_ids, message_makes, setup_makes}
use Rattle.trial_laws.proofs.MethodIds.{head_is}
use Rattle.trial_laws.proofs.RequestsWait.{AreToInput, inputs-append, for_to}
use Rattle.trial_job_laws.proofs.StepsOfPeers.{steps_outer}

-- ---- requests that make an object each, and requests to the text input

abbrev Makes : ℕ → List Sent → Type 0
Makes n [] = n ≤ 7
Makes n (s ∷ more) = (IsMaking n s × Makes (n + 1) more) ⊎ ((s.object ≡ 7) × Makes n more)

most_made : (n : ℕ) (ss : List Sent) → Makes n ss → n ≤ 7
most_made n [] h = h
most_made n (s ∷ more) (inl h) = (let l = most_made (n + 1) more h.1 in omega arith)
most_made n (s ∷ more) (inr h) = most_made n more h.1

-- ---- one request that makes an object

makes_step : (capacity q n : ℕ) (s : Sent) (journal : List Entry) (peer : Joined) →
    peer_at (past_of journal) q ≡ Some peer → IsMaking n s → AreOwn (past_of journal).made peer.label n →
    AreOwn (past_of (settle capacity (step_of_request q s ∷ journal))).made peer.label (n + 1)
makes_step capacity q n s journal peer e h own =
    let past : Past = past_of journal in
    let k : ℕ = length journal + 1 in
    let entry : Entry = step_of_request q s in
    let made : AreOwn ((means entry k past).made ++ past.made) peer.label (n + 1) =
    subst (λ (o : Option Joined). AreOwn ((of_peer o
    (λ other. of_message past k other s.message.opcode (spelling s.message.values)
    (object_at past other.label s.object))).made ++ past.made)
    peer.label (n + 1)) (sym e)
    (message_makes past k n peer s (object_at past peer.label s.object) h own refl) in
    subst (λ (l : List Made). AreOwn l peer.label (n + 1)) (sym (step_made capacity entry journal)) made

-- ---- who joins

-- who joined by an entry has its display alone
new_own : (capacity : ℕ) (e : Entry) (journal : List Entry) (q n : ℕ) (peer : Joined) → 1 ≤ n →
    peer_at (past_of journal) q ≡ None → peer_at (past_of (settle capacity (e ∷ journal))) q ≡ Some peer →
    AreOwn (past_of (settle capacity (e ∷ journal))).made peer.label n
new_own capacity e journal q n peer some none is =
    let joined : List Joined = with_joined e (length journal + 1) (past_of journal).joined in
    let same : joined ≡ (past_of (settle capacity (e ∷ journal))).joined =
    step_joined (λ (js : List Joined). joined ≡ js) capacity e journal refl in
    let j = joined_by e (length journal + 1) (past_of journal).joined peer q none
    (ap (λ (js : List Joined). peer_in js q) same ∙ is) in
    subst (λ (x : Entry). AreOwn (past_of (settle capacity (x ∷ journal))).made peer.label n) (sym j.1)
    (subst (λ p. AreOwn (past_of (settle capacity (entries.Join j.0 ∷ journal))).made p n) (sym j.2)
    (more_ids _ (length journal + 1) 1 n some (join_step capacity j.0 journal)))

-- ---- steps in turn

-- whoever the peer q is, it has these ids
abbrev HasIds : List Entry → ℕ → ℕ → Type 0
HasIds journal q n =
    (peer : Joined) → peer_at (past_of journal) q ≡ Some peer → AreOwn (past_of journal).made peer.label n

-- one more entry, where it does this to a peer that joined before
ids_after : (capacity : ℕ) (e : Entry) (journal : List Entry) (q n : ℕ) → 1 ≤ n →
    ((peer : Joined) → peer_at (past_of journal) q ≡ Some peer →
    AreOwn (past_of (settle capacity (e ∷ journal))).made peer.label n) →
    HasIds (settle capacity (e ∷ journal)) q n
ids_after capacity e journal q n some old peer is = by (peer_at (past_of journal) q) refl
  where
    by : (o : Option Joined) → peer_at (past_of journal) q ≡ o →
        AreOwn (past_of (settle capacity (e ∷ journal))).made peer.label n
    by None j = new_own capacity e journal q n peer some j is
    by (Some p) j =
        subst (λ (x : Joined). AreOwn (past_of (settle capacity (e ∷ journal))).made x.label n)
        (same_Some p peer (sym (step_peer capacity e journal q p j) ∙ is)) (old p j)

record IsGoing (journal : List Entry) (q : ℕ) (ss : List Sent) : Type 0 where
  done : List Sent
  later : List Sent
  all : ss ≡ done ++ later
  steps : steps_by journal q ≡ steps_of q done
  n : ℕ
  some : 1 ≤ n
  makes : Makes n later
  ids : HasIds journal q n

of_other : (q : ℕ) (e : Entry) → is_step_of q e ≡ false → IsOfOther q e
of_other q (entries.Message n id opcode body) h = λ same. (let is : (n == q) ≡ true = eq-eqb n q same in cc)
of_other q (entries.Join role) h = tt
of_other q (entries.Tokens n tokens) h = tt
of_other q (entries.BadSize n head) h = tt
of_other q (entries.End n why) h = tt
of_other q (entries.Shell step) h = tt
of_other q (entries.Took n bytes) h = tt

other_going : (capacity : ℕ) (e : Entry) (journal : List Entry) (q : ℕ) (ss : List Sent) → is_step_of q e ≡ false →
    IsGoing journal q ss → IsGoing (settle capacity (e ∷ journal)) q ss
other_going capacity e journal q ss none g = record {
  done = g.done;
  later = g.later;
  all = g.all;
  steps = step_steps capacity e journal q
      ∙ ap (λ (b : Bool). steps_by journal q ++ (if b then e ∷ [] else [])) none
      ∙ append-nil (steps_by journal q) ∙ g.steps;
  n = g.n;
  some = g.some;
  makes = g.makes;
  ids = ids_after capacity e journal q g.n g.some
      (λ p j. others_step capacity e journal q g.n p j (of_other q e none) (g.ids p j));
}

-- one more request
next_going : (capacity : ℕ) (s : Sent) (more : List Sent) (journal : List Entry) (q : ℕ) (ss : List Sent)
    (g : IsGoing journal q ss) → g.later ≡ s ∷ more → IsGoing (settle capacity (step_of_request q s ∷ journal)) q ss
next_going capacity s more journal q ss g is = by (subst (Makes g.n) is g.makes)
  where
    e : Entry
    e = step_of_request q s

    all : ss ≡ (g.done ++ s ∷ []) ++ more
    all = g.all ∙ ap (λ (l : List Sent). g.done ++ l) is ∙ sym (append_assoc g.done (s ∷ []) more)

    steps : steps_by (settle capacity (e ∷ journal)) q ≡ steps_of q (g.done ++ s ∷ [])
    steps =
        step_steps capacity e journal q
        ∙ ap (λ (b : Bool). steps_by journal q ++ (if b then e ∷ [] else [])) (eq-eqb q q refl)
        ∙ ap (λ (l : List Entry). l ++ e ∷ []) g.steps ∙ sym (steps-append q g.done (s ∷ []))

    by : (IsMaking g.n s × Makes (g.n + 1) more) ⊎ ((s.object ≡ 7) × Makes g.n more) →
        IsGoing (settle capacity (e ∷ journal)) q ss
    by (inl h) = record {
      done = g.done ++ s ∷ [];
      later = more;
      all = all;
      steps = steps;
      n = g.n + 1;
      some = omega arith;
      makes = h.1;
      ids = ids_after capacity e journal q (g.n + 1) (omega arith)
          (λ p j. makes_step capacity q g.n s journal p j h.0 (g.ids p j));
    }
    by (inr h) = record {
      done = g.done ++ s ∷ [];
      later = more;
      all = all;
      steps = steps;
      n = g.n;
      some = g.some;
      makes = h.1;
      ids = ids_after capacity e journal q g.n g.some
          (λ p j. subst (λ id. AreOwn (past_of (settle capacity
          (entries.Message q id s.message.opcode (spelling s.message.values) ∷ journal))).made p.label g.n) (sym h.0)
          (input_step capacity q s.message.opcode g.n (spelling s.message.values) journal p j (g.ids p j)));
    }

own_going : (capacity : ℕ) (e : Entry) (rest : List Entry) (journal : List Entry) (q : ℕ) (ss : List Sent)
    (g : IsGoing journal q ss) (later : List Sent) → g.later ≡ later → e ∷ rest ≡ steps_of q later →
    IsGoing (settle capacity (e ∷ journal)) q ss
own_going capacity e rest journal q ss g [] is h = cc
own_going capacity e rest journal q ss g (s ∷ more) is h =
    subst (λ (x : Entry). IsGoing (settle capacity (x ∷ journal)) q ss)
    (sym (head_is e (step_of_request q s) rest (steps_of q more) h)) (next_going capacity s more journal q ss g is)

no_peer : (q : ℕ) (peer : Joined) → peer_in [] q ≡ Some peer → ⊥
no_peer zero peer e = cc
no_peer (suc k) peer e = cc

going : (capacity : ℕ) (es : List Entry) (q : ℕ) (rest : List Entry) (ss : List Sent) → Makes 1 ss →
    steps_by es q ++ rest ≡ steps_of q ss → IsGoing (history capacity es) q ss
going capacity [] q rest ss makes front = record {
  done = [];
  later = ss;
  all = refl;
  steps = refl;
  n = 1;
  some = omega arith;
  makes = makes;
  ids = λ p j. absurd (no_peer q p j);
}
going capacity (e ∷ es) q rest ss makes front = by (is_step_of q e) refl
    (going capacity es q ((if is_step_of q e then e ∷ [] else []) ++ rest) ss makes parts)
  where
    journal : List Entry
    journal = history capacity es

    parts : steps_by es q ++ ((if is_step_of q e then e ∷ [] else []) ++ rest) ≡ steps_of q ss
    parts = sym (append_assoc (steps_by es q) (if is_step_of q e then e ∷ [] else []) rest) ∙ front

    by : (b : Bool) → is_step_of q e ≡ b → IsGoing journal q ss → IsGoing (settle capacity (e ∷ journal)) q ss
    by false none g = other_going capacity e journal q ss none g
    by true mine g =
        let all : steps_of q g.done ++ e ∷ rest ≡ steps_of q g.done ++ steps_of q g.later =
        ap (λ (l : List Entry). l ++ e ∷ rest) (sym g.steps ∙ steps_outer capacity es q)
        ∙ ap (λ (b : Bool). steps_by es q ++ ((if b then e ∷ [] else []) ++ rest)) (sym mine)
        ∙ parts ∙ ap (steps_of q) g.all ∙ steps-append q g.done g.later in
        own_going capacity e rest journal q ss g g.later refl
        (append_cancel_left (steps_of q g.done) (e ∷ rest) (steps_of q g.later) all)

-- ---- what a field sends

makes_then : (n : ℕ) (ss more : List Sent) → AreMaking n ss → Makes (n + length ss) more → Makes n (ss ++ more)
makes_then n [] more h k = subst (λ m. Makes m more) (let m : n + 0 ≡ n = omega arith in m) k
makes_then n (s ∷ ss) more h k =
    inl (
      h.0,
      makes_then (n + 1) ss more h.1
          (subst (λ m. Makes m more) (let m : n + suc (length ss) ≡ (n + 1) + length ss = omega arith in m) k),
    )

inputs_make : (ss : List Sent) → AreToInput ss → Makes 7 ss
inputs_make [] h = omega arith
inputs_make (s ∷ more) h = inr (h.0.object, inputs_make more h.1)

sends_to : (log : List Happening) → AreToInput (sends_of log)
sends_to [] = tt
sends_to (h ∷ older) =
    inputs-append (sends_of older) (sent_for h (field_of older)) (sends_to older) (for_to h (field_of older))

-- so its peer has these objects, however much of it was sent
pub field_own : (capacity : ℕ) (es : List Entry) (q : ℕ) (rest : List Entry) (log : List Happening)
    (peer : Joined) → steps_by es q ++ rest ≡ steps_of q (field_setup ++ sends_of log) →
    peer_at (past_of (history capacity es)) q ≡ Some peer →
    AreOwn (past_of (history capacity es)).made peer.label 7
field_own capacity es q rest log peer front joined =
    let g = going capacity es q rest (field_setup ++ sends_of log)
    (makes_then 1 field_setup (sends_of log) setup_makes (inputs_make (sends_of log) (sends_to log))) front in
    more_ids _ peer.label g.n 7 (most_made g.n g.later g.makes) (g.ids peer joined)
