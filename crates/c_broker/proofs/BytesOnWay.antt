-- The way through a piece of bytes, step by step.
use Rattle.std.proofs.Common.{◌≡◌, ℕ, List, [], ◌∷◌, ◌++◌, drop, refl, ap, sym, subst, ◌∙◌, append_assoc, inl, inr}
use Rattle.std.specs.Prelude.{Result}
use Rattle.wl_wire.specs.Messages.{id_of, opcode_of, body_of, behind}
use Rattle.wl_wire.specs.Streams.{Assembly, begun, bytes_of}
use Rattle.broker_steps.specs.declared.stamp.Stamp.{Stamp}
use Rattle.broker_model.specs.declared.journal.Entry.{Entry}
use Rattle.broker_model.specs.declared.journal.Entry.TheVariants as entries
use Rattle.broker_core.specs.declared.answers.Refused.{Refused}
use Rattle.broker_core.specs.Broker.{Broker}
use Rattle.broker_cutter.specs.Steps.{steps_in}
use Rattle.broker_cutter.specs.Cuts.{IsFirst, IsUnfinished, IsLast}
use Rattle.c_broker.specs.Steps.{all_done, not_done, led, Leads, Plays, Leaves, TookFirst}
use Rattle.c_broker.proofs.StepsLead.{led_on, plays_on, plays_stops}

-- what was taken so far, and that what is left gives the rest
pub record OnWay (q : ℕ) (given : Stamp) (first now : List ℕ) (a b : Broker) : Type 0 where
  pub taken : List Entry
  pub leads : Leads q given taken a b
  pub steps : steps_in q first ≡ taken ++ steps_in q now
  pub behind_same : behind first ≡ behind now

pub way_begins : (q : ℕ) (given : Stamp) (bytes : List ℕ) (a : Broker) → OnWay q given bytes bytes a a
way_begins q given bytes a = record { taken = []; leads = refl; steps = refl; behind_same = refl }

pub way_goes : (q : ℕ) (given : Stamp) (first bytes piece : List ℕ) (used : ℕ) (a b c : Broker) (left more : List ℕ) →
    OnWay q given first bytes a b → TookFirst q given bytes piece used b c left → more ≡ drop used piece →
    OnWay q given first (left ++ more) a c
way_goes q given first bytes piece used a b c left more w t is =
    let now : left ++ more ≡ drop used piece = ap (λ l. l ++ more) t.none_left ∙ is in record {
      taken = w.taken ++ t.e ∷ [];
      leads = led_on q given w.taken (t.e ∷ []) a b w.leads ∙ t.taken;
      steps = w.steps ∙ ap (λ es. w.taken ++ es) t.steps
          ∙ ap (λ l. w.taken ++ t.e ∷ steps_in q l) (sym now)
          ∙ sym (append_assoc w.taken (t.e ∷ []) (steps_in q (left ++ more)));
      behind_same = w.behind_same ∙ t.behind_same ∙ ap behind (sym now);
    }

pub way_plays : {T : Type 0} (q : ℕ) (given : Stamp) (first bytes : List ℕ) (a b c : Broker) (r : Result T Refused) →
    OnWay q given first bytes a b → Plays q given (steps_in q bytes) b r c → Plays q given (steps_in q first) a r c
way_plays q given first bytes a b c r w p =
    subst (λ es. Plays q given es a r c) (sym w.steps) (plays_on q given w.taken (steps_in q bytes) a b c r w.leads p)

pub way_leaves : (q : ℕ) (given : Stamp) (first bytes left : List ℕ) (a b : Broker) → OnWay q given first bytes a b →
    Leaves q bytes left → Leaves q first left
way_leaves q given first bytes left a b w (inl waits) = inl (waits ∙ sym w.behind_same)
way_leaves q given first bytes left a b w (inr bad) =
    inr (
      w.taken ++ bad.0,
      bad.1,
      w.steps ∙ ap (λ es. w.taken ++ es) bad.2 ∙ sym (append_assoc w.taken bad.0 (entries.BadSize q bad.1 ∷ [])),
    )

-- the first step of a piece

-- a message that was held is the first of the bytes by its parts
pub held_first : {id opcode used : ℕ} {body bytes piece : List ℕ} (new : Assembly) → id ≡ id_of (bytes_of new) →
    opcode ≡ opcode_of (bytes_of new) → body ≡ body_of (bytes_of new) →
    IsFirst (id_of (bytes_of new)) (opcode_of (bytes_of new)) (body_of (bytes_of new)) bytes piece used (begun new) →
    IsFirst id opcode body bytes piece used (begun new)
held_first new i o b f = rw (i, o, b) f

pub took_first : (q : ℕ) (given : Stamp) (id opcode : ℕ) (body bytes piece : List ℕ) (used : ℕ) (b after : Broker)
    (left : List ℕ) → IsFirst id opcode body bytes piece used left →
    Plays q given (entries.Message q id opcode body ∷ []) b all_done after →
    TookFirst q given bytes piece used b after left
took_first q given id opcode body bytes piece used b after left i p = record {
  e = entries.Message q id opcode body;
  some = i.some;
  within = i.within;
  steps = i.steps q;
  behind_same = i.behind_same;
  none_left = i.none_left;
  taken = p;
}

pub stops_first : (q : ℕ) (given : Stamp) (id opcode : ℕ) (body bytes piece : List ℕ) (used : ℕ)
    (b after : Broker) (left : List ℕ) (why : Refused) → IsFirst id opcode body bytes piece used left →
    Plays q given (entries.Message q id opcode body ∷ []) b (not_done why) after →
    Plays q given (steps_in q bytes) b (not_done why) after
stops_first q given id opcode body bytes piece used b after left why i p =
    subst (λ es. Plays q given es b (not_done why) after) (sym (i.steps q))
    (plays_stops q given (entries.Message q id opcode body) (steps_in q (drop used piece)) b after why p)

pub gives_none : (q : ℕ) (given : Stamp) (bytes left : List ℕ) (b : Broker) → IsUnfinished bytes left →
    Leads q given (steps_in q bytes) b b × Leaves q bytes left
gives_none q given bytes left b i =
    (ap (λ es. led q given es b) (i.steps q), inl (i.all_left ∙ sym i.all_behind))

pub gives_bad : {waits : List ℕ} (q : ℕ) (given : Stamp) (head bytes left : List ℕ) (b after : Broker) →
    IsLast head bytes waits →
    Leads q given (entries.BadSize q head ∷ []) b after → Leads q given (steps_in q bytes) b after × Leaves q bytes left
gives_bad q given head bytes left b after i p =
    (ap (λ es. led q given es b) (i.steps q) ∙ p, inr ([], head, i.steps q))
