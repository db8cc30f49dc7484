-- A shared state stays one after a step that the limits allow, and becomes what the step says.
use Rattle.std.proofs.Common.{◌≡◌, ℕ, ◌+◌, ◌<◌, ◌≤◌, List, [], ◌∷◌, length, Bool, true, false, cond, Some, None, ap, refl, sym, ◌∙◌, subst, arith}
use Rattle.std.specs.Prelude.{not, ◌&&◌, ◌||◌, nat_le, nat_lt, if◌then◌else◌}
use Rattle.std.proofs.lemmas.Bool.{leb-false, ltb-false}
use Rattle.relay_model.specs.declared.act.EndCause.TheVariants.{Gone}
use Rattle.relay_model.specs.declared.role.Role.{Role}
use Rattle.broker_steps.specs.declared.limits.Limits.{Limits}
use Rattle.broker_steps.specs.declared.stamp.Stamp.{Stamp}
use Rattle.broker_model.specs.declared.journal.Entry.{Entry}
use Rattle.broker_model.specs.declared.journal.Entry.TheVariants as entries
use Rattle.broker_model.specs.declared.journal.Kept.{Kept}
use Rattle.broker_model.specs.Ids.{Joined, peer_at}
use Rattle.broker_model.specs.Resolve.{past_of}
use Rattle.broker_model.specs.Limits.{is_end, is_counted, number_counted, weight_of, weight, is_full}
use Rattle.broker_model.specs.Settle.{is_due, number_alive, settle, history, step_of, outer}
use Rattle.broker_model.specs.Stamps.{follows, stamp_of, stamps, step_stamps}
use Rattle.broker_model.proofs.StampsAgain.{step_stamped, again}
use Rattle.broker_model.proofs.SettlingEnds.{IsSettled, history_settled, history_stays}
use Rattle.broker_core.specs.declared.state.State.{State}
use Rattle.broker_core.specs.declared.taking.Standing.TheVariants.{Alive}
use Rattle.broker_core.specs.Stands.{Stands}
use Rattle.broker_core.specs.Taking.{standing_of}
use Rattle.broker_core.specs.Broker.{Broker, IsBroker, gone, with_step, full_for}
use Rattle.broker_core.proofs.AliveAfterEntry.{IsNoMore, counted_cons, weight_cons, same_settled, alive_settle, alive_plain, alive_join, alive_end}
use Rattle.broker_core.proofs.RosterAfterEntry.{IsPlain}
use Rattle.broker_core.proofs.WhoIsAlive.{IsAlive, alive_is}

-- what the callers see of a state
abbrev pub shown : Limits → State → Broker
shown limits s = record {
  limits = limits;
  journal = s.journal.entries;
  stamps = s.stamps.stamps;
  kept_from = s.journal.kept_from;
}

-- the entry is an outer step, and all is within the limits with it
pub record IsWithin (limits : Limits) (e : Entry) (older : List Entry) : Type 0 where
  pub step : step_of e ≡ e ∷ []
  pub counted : number_counted (e ∷ older) ≤ limits.entries
  pub light : weight (e ∷ older) ≤ limits.weight
  pub few : number_alive (e ∷ older) ≤ 64

-- the stamps that stand for what was given with the steps of the one do so of the other
abbrev pub StampsOn : State → State → Type 0
StampsOn s t =
    (given : List Stamp) → stamps s.journal.entries given ≡ s.stamps.stamps →
    stamps t.journal.entries given ≡ t.stamps.stamps

-- what the entry and the ends that follow make of the state
pub record IsStepped (e : Entry) (given : Stamp) (s t : State) : Type 0 where
  pub stands : Stands t
  pub capacity : t.capacity ≡ s.capacity
  pub entered : t.journal.entries ≡ settle s.capacity (e ∷ s.journal.entries)
  pub stamped : (gave : List Stamp) → stamps s.journal.entries gave ≡ s.stamps.stamps →
      stamps t.journal.entries (given ∷ gave) ≡ t.stamps.stamps
  pub kept : gone t ≡ gone s

pub stepped : (e : Entry) (given : Stamp) (s m t : State) → follows e ≡ false → m.capacity ≡ s.capacity →
    m.journal.entries ≡ e ∷ s.journal.entries →
    m.stamps.stamps ≡ stamp_of e given s.stamps.stamps ∷ s.stamps.stamps → Stands t → t.capacity ≡ m.capacity →
    t.journal.entries ≡ settle m.capacity m.journal.entries → StampsOn m t → gone m ≡ gone s → gone t ≡ gone m →
    IsStepped e given s t
stepped e given s m t f c j p v d k on now later = record {
  stands = v;
  capacity = d ∙ c;
  entered = k ∙ ap (λ n. settle n m.journal.entries) c ∙ ap (settle s.capacity) j;
  stamped = λ gave h.
      on (given ∷ gave)
      (ap (λ (journal : List Entry). stamps journal (given ∷ gave)) j
      ∙ step_stamped e s.journal.entries given gave f
      ∙ ap (λ (before : List Stamp). stamp_of e given before ∷ before) h
      ∙ sym p);
  kept = later ∙ now;
}

-- as many stamps are gone as entries, still
kept_as : (s t : State) → gone t ≡ gone s → s.stamps.kept_from ≡ s.journal.kept_from →
    t.stamps.kept_from ≡ t.journal.kept_from
kept_as s t g k = ap (λ (n : ℕ × ℕ). n.1) g ∙ k ∙ sym (ap (λ (n : ℕ × ℕ). n.0) g)

-- the stamps that the steps have give the same again
same_again : (journal : List Entry) (gave now : List Stamp) → stamps journal gave ≡ now →
    stamps journal (step_stamps journal now) ≡ now
same_again journal gave now h =
    ap (λ (ss : List Stamp). stamps journal (step_stamps journal ss)) (sym h) ∙ again journal gave ∙ h

pub stays : (limits : Limits) (e : Entry) (given : Stamp) (s t : State) → IsBroker limits s →
    IsWithin limits e s.journal.entries → IsStepped e given s t →
    IsBroker limits t
stays limits e given s t b w h =
    let J : List Entry = e ∷ s.journal.entries in
    let now : t.journal.entries ≡ settle limits.store J = h.entered ∙ ap (λ n. settle n J) b.capacity in
    let same : IsNoMore (settle limits.store J) J = same_settled limits.store J in
    let alive : number_alive (settle limits.store J) ≤ number_alive J = alive_settle limits.store J in
    let counted : number_counted t.journal.entries ≡ number_counted J = ap number_counted now ∙ same.counted in
    let weighs : weight t.journal.entries ≡ weight J = ap weight now ∙ same.weighs in
    let lives : number_alive t.journal.entries ≡ number_alive (settle limits.store J) = ap number_alive now in
    let wc = w.counted in
    let wl = w.light in
    let wf = w.few in
    record {
      stands = h.stands;
      capacity = h.capacity ∙ b.capacity;
      limited = b.limited;
      steps = ap (λ journal. history limits.store (outer journal)) now
          ∙ history_stays limits.store e s.journal.entries w.step b.steps ∙ sym now;
      counted = subst (λ n. n ≤ limits.entries) (sym counted) wc;
      light = subst (λ n. n ≤ limits.weight) (sym weighs) wl;
      few = subst (λ n. n ≤ 64) (sym lives) (omega arith);
      stamped = same_again t.journal.entries (given ∷ step_stamps s.journal.entries s.stamps.stamps) t.stamps.stamps
          (h.stamped (step_stamps s.journal.entries s.stamps.stamps) b.stamped);
      kept = kept_as s t h.kept b.kept;
    }

pub becomes : (limits : Limits) (e : Entry) (given : Stamp) (b : Broker) (s t : State) → shown limits s ≡ b →
    IsBroker limits s → IsStepped e given s t →
    shown limits t ≡ with_step e given b
becomes limits e given b s t v i h =
    let gave : List Stamp = step_stamps s.journal.entries s.stamps.stamps in
    let now : t.journal.entries ≡ settle limits.store (e ∷ s.journal.entries) =
    h.entered ∙ ap (λ n. settle n (e ∷ s.journal.entries)) i.capacity in
    ap (λ (ss : List Stamp). record (shown limits t) { stamps = ss }) (sym (h.stamped gave i.stamped))
    ∙ ap (λ (journal : List Entry). record (shown limits t) {
      journal = journal;
      stamps = stamps journal (given ∷ gave);
    }) now
    ∙ ap (λ (n : ℕ × ℕ). record (with_step e given (shown limits s)) { kept_from = n.0 }) h.kept
    ∙ ap (with_step e given) v

-- it stays one, and shows the same, where a call that took nothing left its journal and its stamps, and let none go
pub stays_as : (limits : Limits) (s t : State) → IsBroker limits s → Stands t → t.capacity ≡ s.capacity →
    t.journal.entries ≡ s.journal.entries →
    t.stamps.stamps ≡ s.stamps.stamps → gone t ≡ gone s → IsBroker limits t
stays_as limits s t b v c j p g = record {
  stands = v;
  capacity = c ∙ b.capacity;
  limited = b.limited;
  steps = subst (λ (J : List Entry). history limits.store (outer J) ≡ J) (sym j) b.steps;
  counted = subst (λ (J : List Entry). number_counted J ≤ limits.entries) (sym j) b.counted;
  light = subst (λ (J : List Entry). weight J ≤ limits.weight) (sym j) b.light;
  few = subst (λ (J : List Entry). number_alive J ≤ 64) (sym j) b.few;
  stamped = subst (λ (J : List Entry). stamps J (step_stamps J t.stamps.stamps) ≡ t.stamps.stamps) (sym j)
      (subst (λ (ss : List Stamp). stamps s.journal.entries (step_stamps s.journal.entries ss) ≡ ss) (sym p) b.stamped);
  kept = kept_as s t g b.kept;
}

pub shows_as : (limits : Limits) (b : Broker) (s t : State) → shown limits s ≡ b →
    t.journal.entries ≡ s.journal.entries →
    t.stamps.stamps ≡ s.stamps.stamps → gone t ≡ gone s → shown limits t ≡ b
shows_as limits b s t v j p g =
    ap (λ (J : List Entry). record (shown limits t) { journal = J }) j
    ∙ ap (λ (ss : List Stamp). record (shown limits s) { stamps = ss; kept_from = t.journal.kept_from }) p
    ∙ ap (λ (n : ℕ × ℕ). record (shown limits s) { kept_from = n.0 }) g
    ∙ v

-- how many peers joined, the ends that follow don't change
pub joined_stays : (e : Entry) (s m t : State) → m.journal.entries ≡ e ∷ s.journal.entries →
    t.journal.entries ≡ settle m.capacity m.journal.entries →
    length (past_of t.journal.entries).joined ≡ length (past_of m.journal.entries).joined
joined_stays e s m t j k =
    ap (λ journal. length (past_of journal).joined) k ∙ ap length (same_settled m.capacity m.journal.entries).joined

-- nobody is due

settled_journal : (limits : Limits) (s : State) → IsBroker limits s → IsSettled limits.store s.journal.entries
settled_journal limits s i =
    subst (IsSettled limits.store) i.steps (history_settled limits.store (outer s.journal.entries))

pub nobody_due : (limits : Limits) (b : Broker) (s : State) → shown limits s ≡ b → IsBroker limits s →
    (q : ℕ) (peer : Joined) →
    peer_at (past_of b.journal) q ≡ Some peer → is_due b.limits.store b.journal q peer ≡ false
nobody_due limits b s v i q peer e =
    let quiet : IsSettled b.limits.store b.journal =
    subst (λ (x : Broker). IsSettled x.limits.store x.journal) v (settled_journal limits s i) in
    quiet.nobody q peer e

-- an entry for which the journal isn't full

none_full : (t : Bool) (kept : Kept) → (if t then Some kept else None) ≡ None → t ≡ false
none_full true kept h = cc
none_full false kept h = refl

neither : (a b c : Bool) → a ≡ false → (not a && (b || c)) ≡ false → (b ≡ false) × (c ≡ false)
neither true b c e h = cc
neither false true c e h = cc
neither false false true e h = cc
neither false false false e h = (refl, refl)

-- there is place for it
pub record HasPlace (limits : Limits) (e : Entry) (journal : List Entry) : Type 0 where
  pub few : number_counted journal < limits.entries
  pub light : weight journal + weight_of e ≤ limits.weight

pub has_place : (limits : Limits) (e : Entry) (b : Broker) (s : State) → shown limits s ≡ b → is_end e ≡ false →
    full_for b e ≡ None →
    HasPlace limits e s.journal.entries
has_place limits e b s v n f =
    let J : List Entry = s.journal.entries in
    let full : is_full limits J e ≡ false = none_full (is_full limits J e) _ (ap (λ x. full_for x e) v ∙ f) in
    let two = neither (is_end e) (nat_le limits.entries (number_counted J))
    (nat_lt limits.weight (weight J + weight_of e)) n full in
    record { few = leb-false _ _ two.0; light = ltb-false _ _ two.1 }

at_most_one : (b : Bool) → cond b 1 0 ≤ 1
at_most_one true = omega arith
at_most_one false = omega arith

within : (limits : Limits) (e : Entry) (older : List Entry) → step_of e ≡ e ∷ [] → HasPlace limits e older →
    number_alive (e ∷ older) ≤ 64 →
    IsWithin limits e older
within limits e older t p f =
    let c = counted_cons e older in
    let one = at_most_one (is_counted e) in
    let w = weight_cons e older in
    let few = p.few in
    let light = p.light in
    record { step = t; counted = omega arith; light = omega arith; few = f }

-- by the kind of the entry

pub within_plain : (limits : Limits) (e : Entry) (s : State) → IsPlain e → step_of e ≡ e ∷ [] → IsBroker limits s →
    HasPlace limits e s.journal.entries →
    IsWithin limits e s.journal.entries
within_plain limits e s k t b p =
    within limits e s.journal.entries t p
    (let few = b.few in let same = alive_plain e s.journal.entries k in omega arith)

pub within_join : (limits : Limits) (role : Role) (s : State) → number_alive s.journal.entries < 64 →
    HasPlace limits (entries.Join role) s.journal.entries →
    IsWithin limits (entries.Join role) s.journal.entries
within_join limits role s f p =
    within limits (entries.Join role) s.journal.entries refl p
    (let one = alive_join role s.journal.entries in omega arith)

pub within_gone : (limits : Limits) (q : ℕ) (s : State) → IsBroker limits s → standing_of s.journal.entries q ≡ Alive →
    IsWithin limits (entries.End q Gone) s.journal.entries
within_gone limits q s b h =
    let J : List Entry = s.journal.entries in
    let a : IsAlive J q = alive_is s q b.stands h in
    let c = counted_cons (entries.End q Gone) J in
    let w = weight_cons (entries.End q Gone) J in
    let few = b.few in
    let counted = b.counted in
    let light = b.light in
    let fewer = alive_end q Gone J a.peer a.joined a.lives in
    record { step = refl; counted = omega arith; light = omega arith; few = omega arith }
