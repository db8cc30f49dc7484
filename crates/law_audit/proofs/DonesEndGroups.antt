-- Of what says a front of whole groups, each done ends one of them.
use Rattle.std.proofs.Common.{◌≡◌, ℕ, suc, ◌+◌, ◌≤◌, cond, Bool, true, false, List, [], ◌∷◌, ◌++◌, length, take, drop, Option, Some, None, Result, Ok, Err, refl, sym, ap, ap₂, subst, ◌∙◌, arith, append_assoc, inl, inr, ◌⊎◌}
use Rattle.std.specs.Prelude.{◌==◌, if◌then◌else◌, IsOk}
use Rattle.std.specs.List.{AllByRecursion, count_by}
use Rattle.std.proofs.lemmas.Bool.{eqb-true}
use Rattle.std.proofs.lemmas.List.Sums.{sum_by-cons}
use Rattle.wl_wire.specs.Messages.{id_of, opcode_of, body_of, messages}
use Rattle.wl_proto.specs.declared.interface.Interface.TheVariants.{TextInput}
use Rattle.wl_proto.specs.declared.refuse.Refuse.{Refuse}
use Rattle.wl_proto.specs.declared.table.Kind.{Kind}
use Rattle.wl_proto.specs.Grammar.{Value}
use Rattle.wl_proto.specs.Rows.{Message, event_kinds}
use Rattle.wl_proto.specs.Reading.{by_row, all_read, event_reading, values_at}
use Rattle.relay_model.specs.declared.said.Said.{Said}
use Rattle.relay_model.specs.declared.said.Said.TheVariants as said
use Rattle.broker_model.specs.Groups.{message_of}
use Rattle.broker_model.proofs.EachElement.{each_append}
use Rattle.audit_fields.specs.Heard.{Heard, heard, heard_in, is_field_opcode, is_done, dones, IsWell}
use Rattle.audit_fields.proofs.MessagesPassed.{heard_is, dones_is}
use Rattle.law_audit.specs.FieldGroups.{FieldGroup, said_heard, group_heard, groups_heard, IsEdit, IsWhole}

-- ---- how many dones were heard

-- what is read is a done
abbrev is_end : Result Message Refuse → Bool
is_end (Ok m) = m.opcode == 5
is_end (Err why) = false

abbrev one_more : Bool → ℕ → ℕ
one_more b n = if b then suc n else n

-- how many are
abbrev ends : List Heard → ℕ
ends [] = 0
ends (h ∷ hs) = one_more (is_end h.reading) (ends hs)

one_is : (b : Bool) (n : ℕ) → cond b 1 0 + n ≡ one_more b n
one_is true n = omega arith
one_is false n = omega arith

-- what is read of an event has the event's opcode
ends_read : (n : ℕ) (o : Option (List Value)) → IsOk (all_read TextInput n o) →
    is_end (all_read TextInput n o) ≡ (n == 5)
ends_read n (Some vs) h = refl
ends_read n None h = cc

ends_row : (n : ℕ) (body : List ℕ) (o : Option (List Kind)) → IsOk (by_row TextInput n [] body o) →
    is_end (by_row TextInput n [] body o) ≡ (n == 5)
ends_row n body (Some ks) h = ends_read n (values_at [] ks body) h
ends_row n body None h = cc

ends_event : (n : ℕ) (body : List ℕ) → IsOk (event_reading TextInput n [] body) →
    is_end (event_reading TextInput n [] body) ≡ (n == 5)
unfolding event_reading
ends_event n body h = ends_row n body (event_kinds TextInput n) h

-- a done is a field message
no_done : (n : ℕ) → is_field_opcode n ≡ false → (n == 5) ≡ false
no_done n other = by (n == 5) refl
  where
    by : (b : Bool) → (n == 5) ≡ b → b ≡ false
    by true e = (let field = ap is_field_opcode (eqb-true n 5 e) in let no = sym field ∙ other in cc)
    by false e = refl

-- where no message that was heard is malformed, each done among the messages is one of those
ends_in : (ms : List (List ℕ)) → AllByRecursion IsWell (heard_in ms) → count_by is_done ms ≡ ends (heard_in ms)
ends_in [] w = refl
ends_in (m ∷ ms) w =
    sum_by-cons (λ x. cond (is_done x) 1 0) m ms ∙ one_is (opcode_of m == 5) (count_by is_done ms)
    ∙ by (is_field_opcode (opcode_of m)) refl w (ends_in ms)
  where
    one : Heard
    one = record { id = id_of m; reading = event_reading TextInput (opcode_of m) [] (body_of m) }

    by : (b : Bool) → is_field_opcode (opcode_of m) ≡ b →
        AllByRecursion IsWell ((if b then one ∷ [] else []) ++ heard_in ms) →
        (AllByRecursion IsWell (heard_in ms) → count_by is_done ms ≡ ends (heard_in ms)) →
        one_more (opcode_of m == 5) (count_by is_done ms) ≡ ends ((if b then one ∷ [] else []) ++ heard_in ms)
    by true e w k =
        ap₂ (λ (c : Bool) (n : ℕ). one_more c n) (sym (ends_event (opcode_of m) (body_of m) w.0)) (k w.1)
    by false e w k = ap₂ (λ (c : Bool) (n : ℕ). one_more c n) (no_done (opcode_of m) e) (k w)

dones_heard : (bytes : List ℕ) → AllByRecursion IsWell (heard bytes) → dones bytes ≡ ends (heard bytes)
dones_heard bytes w =
    dones_is bytes ∙ ends_in (messages bytes) (subst (λ (hs : List Heard). AllByRecursion IsWell hs) (heard_is bytes) w)
    ∙ ap ends (sym (heard_is bytes))

-- ---- what groups say is well

said_well : (id : ℕ) (o : Option Message) → AllByRecursion IsWell (said_heard id o)
said_well id None = tt
said_well id (Some m) = (refl, tt)

group_well : (id : ℕ) (group : List Said) → AllByRecursion IsWell (group_heard id group)
group_well id [] = tt
group_well id (event ∷ more) =
    each_append IsWell (said_heard id (message_of [] event)) (group_heard id more) (said_well id (message_of [] event))
    (group_well id more)

groups_well : (groups : List FieldGroup) → AllByRecursion IsWell (groups_heard groups)
groups_well [] = tt
groups_well (g ∷ more) =
    each_append IsWell (group_heard g.id g.group) (groups_heard more) (group_well g.id g.group) (groups_well more)

front_well : (hs rest : List Heard) → AllByRecursion IsWell (hs ++ rest) → AllByRecursion IsWell hs
front_well [] rest w = tt
front_well (h ∷ hs) rest w = (w.0, front_well hs rest w.1)

-- ---- one group

-- an edit is one message, and no done
record SaysOne (id : ℕ) (event : Said) : Type 0 where
  one : Heard
  is : said_heard id (message_of [] event) ≡ one ∷ []
  other : is_end one.reading ≡ false

edit_says : (id : ℕ) (event : Said) → IsEdit event → SaysOne id event
edit_says id (said.Preedit text begin end) h = record { one = _; is = refl; other = refl }
edit_says id (said.CommitString text) h = record { one = _; is = refl; other = refl }
edit_says id (said.Delete before after) h = record { one = _; is = refl; other = refl }
edit_says id _ h = absurd h

first_same : (x y : Heard) (xs ys : List Heard) → x ∷ xs ≡ y ∷ ys → (x ≡ y) × (xs ≡ ys)
first_same x y xs ys e = (cc, cc)

-- what was heard goes on behind the group, whose done is one
record Passes (id : ℕ) (group : List Said) (more hs rest : List Heard) : Type 0 where
  left : List Heard
  is : hs ≡ group_heard id group ++ left
  behind : more ≡ left ++ rest
  counted : ends hs ≡ suc (ends left)

-- or it has no done yet
passes : (id n : ℕ) (edits : List Said) (more hs rest : List Heard) → AllByRecursion IsEdit edits →
    group_heard id (edits ++ said.FieldDone n ∷ []) ++ more ≡ hs ++ rest →
    Passes id (edits ++ said.FieldDone n ∷ []) more hs rest ⊎ (ends hs ≡ 0)
passes id n edits more [] rest w e = inr refl
passes id n [] more (h ∷ hs) rest w e =
    let s = first_same _ h more (hs ++ rest) e in
    inl (record {
      left = hs;
      is = ap (λ (x : Heard). x ∷ hs) (sym s.0);
      behind = s.1;
      counted = ap (λ (x : Heard). one_more (is_end x.reading) (ends hs)) (sym s.0);
    })
passes id n (event ∷ edits) more (h ∷ hs) rest w e =
    let o : SaysOne id event = edit_says id event w.0 in
    let later : List Heard = group_heard id (edits ++ said.FieldDone n ∷ []) in
    let s = first_same o.one h (later ++ more) (hs ++ rest)
    (ap (λ (l : List Heard). (l ++ later) ++ more) (sym o.is) ∙ e) in
    let none : ends (h ∷ hs) ≡ ends hs =
    ap (λ (x : Heard). one_more (is_end x.reading) (ends hs)) (sym s.0)
    ∙ ap (λ (b : Bool). one_more b (ends hs)) o.other in
    let says : said_heard id (message_of [] event) ≡ h ∷ [] = o.is ∙ ap (λ (x : Heard). x ∷ []) s.0 in
    by none says (passes id n edits more hs rest w.1 s.1)
  where
    by : ends (h ∷ hs) ≡ ends hs → said_heard id (message_of [] event) ≡ h ∷ [] →
        Passes id (edits ++ said.FieldDone n ∷ []) more hs rest ⊎ (ends hs ≡ 0) →
        Passes id (event ∷ edits ++ said.FieldDone n ∷ []) more (h ∷ hs) rest ⊎ (ends (h ∷ hs) ≡ 0)
    by none says (inl p) =
        inl (record {
          left = p.left;
          is =
              ap (λ (l : List Heard). h ∷ l) p.is
              ∙ ap (λ (l : List Heard). (l ++ group_heard id (edits ++ said.FieldDone n ∷ [])) ++ p.left) (sym says);
          behind = p.behind;
          counted = none ∙ p.counted;
        })
    by none says (inr z) = inr (none ∙ z)

-- ---- all groups

-- so many groups are said whole, and then a part of those behind them
pub record EndsAt (k : ℕ) (hs : List Heard) (groups : List FieldGroup) : Type 0 where
  pub enough : k ≤ length groups
  pub part : List Heard
  pub whole : hs ≡ groups_heard (take k groups) ++ part
  pub rest : List Heard
  pub next : groups_heard (drop k groups) ≡ part ++ rest

one_group : (g : FieldGroup) (more : List FieldGroup) (hs rest : List Heard) (w : IsWhole g) →
    groups_heard (g ∷ more) ≡ hs ++ rest →
    ((left : List Heard) → groups_heard more ≡ left ++ rest → EndsAt (ends left) left more) →
    Passes g.id (w.edits ++ said.FieldDone w.count ∷ []) (groups_heard more) hs rest ⊎ (ends hs ≡ 0) →
    EndsAt (ends hs) hs (g ∷ more)
one_group g more hs rest w e next (inl p) =
    let at : EndsAt (ends p.left) p.left more = next p.left p.behind in
    subst (λ (k : ℕ). EndsAt k hs (g ∷ more)) (sym p.counted)
    (record {
      enough = (let enough = at.enough in omega arith);
      part = at.part;
      whole =
          p.is ∙ ap (λ (l : List Said). group_heard g.id l ++ p.left) (sym w.is)
          ∙ ap (λ (l : List Heard). group_heard g.id g.group ++ l) at.whole
          ∙ sym (append_assoc (group_heard g.id g.group) (groups_heard (take (ends p.left) more)) at.part);
      rest = at.rest;
      next = at.next;
    })
one_group g more hs rest w e next (inr z) =
    subst (λ (k : ℕ). EndsAt k hs (g ∷ more)) (sym z)
    (record { enough = omega arith; part = hs; whole = refl; rest = rest; next = e })

ends_at : (groups : List FieldGroup) (hs rest : List Heard) → AllByRecursion IsWhole groups →
    groups_heard groups ≡ hs ++ rest → EndsAt (ends hs) hs groups
ends_at [] [] rest w e = record { enough = omega arith; part = []; whole = refl; rest = []; next = refl }
ends_at [] (h ∷ hs) rest w e = cc
ends_at (g ∷ more) hs rest w e =
    one_group g more hs rest w.0 e (λ left f. ends_at more left rest w.1 f)
    (passes g.id w.0.count w.0.edits (groups_heard more) hs rest w.0.each
    (ap (λ (l : List Said). group_heard g.id l ++ groups_heard more) (sym w.0.is) ∙ e))

-- as many as the bytes have dones
pub dones_end : (groups : List FieldGroup) (bytes : List ℕ) (rest : List Heard) → AllByRecursion IsWhole groups →
    groups_heard groups ≡ heard bytes ++ rest → EndsAt (dones bytes) (heard bytes) groups
dones_end groups bytes rest w e =
    let well : AllByRecursion IsWell (heard bytes) =
    front_well (heard bytes) rest (subst (λ (hs : List Heard). AllByRecursion IsWell hs) e (groups_well groups)) in
    subst (λ (k : ℕ). EndsAt k (heard bytes) groups) (sym (dones_heard bytes well))
    (ends_at groups (heard bytes) rest w e)
