-- The edits and dones that acts tell an object are the groups that are relayed to it.
use Rattle.std.proofs.Common.{◌≡◌, ℕ, List, [], ◌∷◌, ◌++◌, length, map, Bool, true, false, ◌&&◌, Option, Some, ap, refl, sym, subst, ◌∙◌}
use Rattle.std.specs.Prelude.{if◌then◌else◌, ◌==◌, filter, IfSome}
use Rattle.std.specs.List.{AllByRecursion}
use Rattle.std.proofs.lemmas.Bool.{eqb-true, eq-eqb, true≢false}
use Rattle.std.proofs.lemmas.List.{append-nil}
use Rattle.std.proofs.lemmas.Grind.{flat_map-append}
use Rattle.wl_proto.specs.declared.interface.Interface.{Interface}
use Rattle.wl_proto.specs.declared.interface.Interface.TheVariants as interface
use Rattle.relay_model.specs.declared.act.Act.{Act}
use Rattle.relay_model.specs.declared.act.Act.TheVariants as acts
use Rattle.relay_model.specs.declared.said.Told.{Told}
use Rattle.relay_model.specs.declared.said.Said.{Said}
use Rattle.relay_model.specs.declared.said.Said.TheVariants as said
use Rattle.relay_model.specs.Objects.{next, is_at}
use Rattle.relay_model.specs.Hold.{holder}
use Rattle.relay_model.specs.Activation.{fresh}
use Rattle.relay_model.specs.Batch.{Deletion, Preedit, Batch, deletion_said, string_said, preedit_said, group, group_of, batch, commit_count, relayed}
use Rattle.relay_model.specs.Idle.{cleaned, history}
use Rattle.relay_model.specs.Told.{to, told}
use Rattle.relay_model.proofs.ActsOrIdle.{history_is}
use Rattle.broker_model.specs.Law.{field_peer, maker_of, is_entering}
use Rattle.broker_model.proofs.EachElement.{either_way, each_append}
use Rattle.broker_model.proofs.BatchGroupsWhole.{fresh_told, both, at_is}
use Rattle.broker_model.proofs.ToldToFields.{IsWell, Relays, told_entering}
use Rattle.broker_telling.specs.BatchesTold.{is_of_batch, is_batch_for, batches_for, batches_told, in_turn, BatchesAreRelayed}
use Rattle.broker_telling.proofs.LabelKinds.{made_by, kind_at}
use Rattle.broker_telling.proofs.ToldKinds.{GoesRight, event_kind, told_right}

-- ---- the events of a group

abbrev AreOfBatch : List Said → Type 0
AreOfBatch events = AllByRecursion (λ event. is_of_batch event ≡ true) events

deletion_of : (d : Deletion) → AreOfBatch (deletion_said d)
deletion_of d =
    either_way AreOfBatch (d.before == 0 && d.after == 0) [] (said.Delete d.before d.after ∷ []) tt (refl, tt)

string_of : (text : List ℕ) → AreOfBatch (string_said text)
string_of text = either_way AreOfBatch (length text == 0) [] (said.CommitString text ∷ []) tt (refl, tt)

preedit_of : (p : Preedit) → AreOfBatch (preedit_said p)
preedit_of p = either_way AreOfBatch _ [] (said.Preedit p.text p.begin p.end ∷ []) tt (refl, tt)

group_all : (b : Batch) (count : ℕ) → AreOfBatch (group b count)
group_all b count =
    each_append (λ event. is_of_batch event ≡ true) (deletion_said b.deletion) _ (deletion_of b.deletion)
    (each_append (λ event. is_of_batch event ≡ true) (string_said b.string) _ (string_of b.string)
    (each_append (λ event. is_of_batch event ≡ true) (preedit_said b.preedit) (said.FieldDone count ∷ [])
    (preedit_of b.preedit) (refl, tt)))

group_of_all : (act : Act) (log : List Act) (f : ℕ) → AreOfBatch (group_of act log f)
group_of_all (acts.MCommit m serial) log f = group_all (batch log m) (commit_count log f)
group_of_all _ log f = tt

-- events of a batch that are told to f are all for f
all_for : (f : ℕ) (events : List Said) → AreOfBatch events → batches_for f (map (to f) events) ≡ events
all_for f [] h = refl
all_for f (event ∷ rest) h = rw (h.0, eq-eqb f f refl) (ap (λ (es : List Said). event ∷ es) (all_for f rest h.1))

-- ---- what an act tells that relays nothing to f

-- a label to which an event of a text input goes is that of a field
has_maker : (log : List Act) (f : ℕ) → kind_at log f ≡ Some interface.TextInput → (p : ℕ) × (maker_of log f ≡ Some p)
has_maker [] f e = cc
has_maker (act ∷ older) f e = by (f == next older) e (has_maker older f)
  where
    new : (act : Act) → made_by act ≡ Some interface.TextInput → (p : ℕ) × (field_peer act ≡ Some p)
    new (acts.Field p) e = (p, refl)
    new _ e = cc

    by : (b : Bool) → (if b then made_by act else kind_at older f) ≡ Some interface.TextInput →
        (kind_at older f ≡ Some interface.TextInput → (p : ℕ) × (maker_of older f ≡ Some p)) →
        (p : ℕ) × ((if b then field_peer act else maker_of older f) ≡ Some p)
    by true e k = new act e
    by false e k = k e

batch_kind : (event : Said) → is_of_batch event ≡ true → event_kind event ≡ Some interface.TextInput
batch_kind (said.Delete before after) e = refl
batch_kind (said.CommitString text) e = refl
batch_kind (said.Preedit text begin end) e = refl
batch_kind (said.FieldDone count) e = refl
batch_kind _ e = cc

not_entering : (event : Said) → is_of_batch event ≡ true → is_entering event ≡ false
not_entering (said.Enter surface) e = cc
not_entering (said.Leave surface) e = cc
not_entering _ e = refl

-- none of these things is for f
abbrev NoneFor : ℕ → List Told → Type 0
NoneFor f ts = AllByRecursion (λ t. is_batch_for f t ≡ true → ⊥) ts

none_for : (f : ℕ) (ts : List Told) → NoneFor f ts → batches_for f ts ≡ []
none_for f [] h = refl
none_for f (t ∷ rest) h = by (is_batch_for f t) refl (none_for f rest h.1)
  where
    by : (b : Bool) → is_batch_for f t ≡ b → batches_for f rest ≡ [] →
        map (λ (t : Told). t.event) (if b then t ∷ filter (is_batch_for f) rest
        else filter (is_batch_for f) rest) ≡ []
    by true e k = absurd (h.0 e)
    by false e k = k

-- one that is, goes to a field, and says more than that it is entered or left
none_from : (log : List Act) (f : ℕ) (ts : List Told) → AllByRecursion (GoesRight log) ts →
    ((p : ℕ) → maker_of log f ≡ Some p → AllByRecursion (IsWell f) ts) → NoneFor f ts
none_from log f [] r w = tt
none_from log f (t ∷ rest) r w = (no, none_from log f rest r.1 (λ p e. (w p e).1))
  where
    no : is_batch_for f t ≡ true → ⊥
    no e =
        let h : (is_of_batch t.event ≡ true) × ((t.to == f) ≡ true) = both _ _ e in
        let same : t.to ≡ f = eqb-true t.to f h.1 in
        let kind : kind_at log t.to ≡ Some interface.TextInput =
        subst (λ (o : Option Interface). IfSome o (λ i. kind_at log t.to ≡ Some i)) (batch_kind t.event h.0) r.0 in
        let made : (p : ℕ) × (maker_of log f ≡ Some p) =
        has_maker log f (subst (λ x. kind_at log x ≡ Some interface.TextInput) same kind) in
        let enters : is_entering t.event ≡ true = (w made.0 made.1).0 same in
        true≢false (sym enters ∙ not_entering t.event h.0)

-- ---- by induction over the acts

last_group : (groups : List (List Said)) (g : List Said) → in_turn (groups ++ g ∷ []) ≡ in_turn groups ++ g
last_group groups g = flat_map-append (λ (x : List Said). x) groups (g ∷ [])
    ∙ ap (λ (es : List Said). in_turn groups ++ es) (append-nil g)

relayed_told : (act : Act) (older : List Act) (f : ℕ) →
    Relays (cleaned act (history older)) (history older) f ≡ true →
    batches_for f (told act older) ≡ group_of (cleaned act (history older)) (history older) f
relayed_told act older f r =
    let c : Act = cleaned act (history older) in
    let h : (fresh c (history older) ≡ true) × (is_at (holder (history older)) f ≡ true) = both _ _ r in
    ap (batches_for f) (fresh_told c (history older) f (history_is older) h.0 (at_is (holder (history older)) f h.1))
    ∙ all_for f (group_of c (history older) f) (group_of_all c (history older) f)

unrelayed_told : (act : Act) (older : List Act) (f : ℕ) →
    Relays (cleaned act (history older)) (history older) f ≡ false → batches_for f (told act older) ≡ []
unrelayed_told act older f r =
    none_for f (told act older)
    (none_from (history (act ∷ older)) f (told act older) (told_right act older)
    (λ p e. told_entering act older f p e r))

pub batches_relayed : BatchesAreRelayed
batches_relayed [] f = refl
batches_relayed (act ∷ older) f = by (Relays c (history older) f) refl (batches_relayed older f)
  where
    c : Act
    c = cleaned act (history older)

    groups : List (List Said)
    groups = relayed (history older) f

    by : (b : Bool) → Relays c (history older) f ≡ b → batches_told older f ≡ in_turn groups →
        batches_told older f ++ batches_for f (told act older)
        ≡ in_turn (if b then groups ++ group_of c (history older) f ∷ [] else groups)
    by true e k = ap (λ (es : List Said). batches_told older f ++ es) (relayed_told act older f e)
        ∙ ap (λ (es : List Said). es ++ group_of c (history older) f) k
        ∙ sym (last_group groups (group_of c (history older) f))
    by false e k = ap (λ (es : List Said). batches_told older f ++ es) (unrelayed_told act older f e)
        ∙ append-nil (batches_told older f) ∙ k
