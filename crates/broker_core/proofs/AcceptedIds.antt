-- What a message makes is made under an id that its sender's table accepts.
use Rattle.std.proofs.Common.{◌≡◌, ℕ, List, Bool, true, false, ◌||◌, Option, Some, None, Result, Ok, Err, IfSome, is_some, refl, sym, ap, ◌∙◌, subst, arith}
use Rattle.std.specs.Prelude.{◌==◌, nat_lt, option_map}
use Rattle.std.specs.List.{AllByRecursion}
use Rattle.std.specs.Option.{option_or}
use Rattle.std.specs.FinMap as map
use Rattle.std.proofs.lemmas.Bool.{ltb-false, le-ltb}
use Rattle.im_objects.specs.Objects.{Objects, is_no_client_id, refusal_of}
use Rattle.wl_proto.specs.declared.interface.Interface.{Interface}
use Rattle.wl_proto.specs.Rows.{Message}
use Rattle.wl_proto.specs.declared.refuse.Refuse.{Refuse}
use Rattle.wl_proto.specs.Reading.{request_reading}
use Rattle.relay_model.specs.declared.fault.Fault.{Fault}
use Rattle.relay_model.specs.declared.fault.Fault.TheVariants as fault
use Rattle.broker_model.specs.Ids.{Made, Joined, Past, object_at, number_live}
use Rattle.broker_model.specs.Refusals.{is_bad_id, fault_if, argument_fault, new_fault, request_fault}
use Rattle.broker_model.specs.Requests.{Argument, arguments_of, new_of}
use Rattle.broker_model.specs.Resolve.{Meaning, made_new, label_at, of_request, of_reading, of_message}
use Rattle.broker_wire.specs.declared.meaning.Meaning as declared
use Rattle.broker_wire.specs.declared.requests.Argument as requests
use Rattle.broker_wire.specs.Asked.{asked}
use Rattle.broker_wire.specs.Meant.{IsTableOf, meant}

no_first : (a b : Option Fault) → option_or a b ≡ None → (a ≡ None) × (b ≡ None)
no_first None b h = (refl, h)
no_first (Some f) b h = absurd (cc)

no_fault : (b : Bool) (f : Fault) → fault_if b f ≡ None → b ≡ false
no_fault true f h = absurd (cc)
no_fault false f h = refl

neither : (a b c : Bool) → (a || b || c) ≡ false → ((a || b) ≡ false) × (c ≡ false)
neither true b c h = absurd (cc)
neither false true c h = absurd (cc)
neither false false c h = (refl, h)

nothing_there : {A B : Type 0} (f : A → B) (o : Option A) → is_some o ≡ false → is_some (option_map f o) ≡ false
nothing_there f None h = refl
nothing_there f (Some x) h = absurd (cc)

-- the table accepts the id of each
abbrev Accepts : Objects → List Made → Type 0
Accepts table made = AllByRecursion (λ (m : Made). refusal_of table m.id ≡ None) made

module _ (past : Past) (p : ℕ) (table : Objects) (its : IsTableOf past p table) where
  accepted_id : (id : ℕ) → is_bad_id past p id ≡ false → nat_lt 255 (number_live past p) ≡ false →
      refusal_of table id ≡ None
  accepted_id id good few =
      let both = neither (id == 0) (nat_lt 4278190079 id) (is_some (object_at past p id)) good in
      let client : is_no_client_id id ≡ false = both.0 in
      let shown : Made → Interface × ℕ = λ m. (m.interface, m.label) in
      let free : is_some (map.get table.under id) ≡ false =
      ap is_some (its.by_id id) ∙ nothing_there shown (object_at past p id) both.1 in
      let room : nat_lt 256 (map.len table.under) ≡ false =
      le-ltb 256 (map.len table.under) (omega (arith, its.count, ltb-false 255 (number_live past p) few)) in
      rw (client, free, room) refl

  accepted_new : (n : ℕ) (o : Option Argument) → new_fault past p o ≡ None → Accepts table (made_new p n o)
  accepted_new n None h = tt
  accepted_new n (Some new) h =
      let both = no_first (fault_if (is_bad_id past p new.id) fault.NewId)
      (fault_if (nat_lt 255 (number_live past p)) fault.TooMany) h in
      (accepted_id new.id (no_fault _ _ both.0) (no_fault _ _ both.1), tt)

  accepted_request : (n x : ℕ) (peer : Joined) (m : Message) (o : Option Fault) → peer.label ≡ p →
      request_fault past peer.label x peer.role (label_at past peer.label) m ≡ o →
      Accepts table (of_request past n peer x m o).made
  accepted_request n x peer m (Some f) is e = tt
  accepted_request n x peer m None is e =
      let new : Option Argument = new_of m.interface m.opcode m.values in
      let fine : new_fault past peer.label new ≡ None =
      (no_first (new_fault past peer.label new) _
      (no_first (argument_fault past peer.label (arguments_of m.interface m.opcode m.values)) _ e).1).0 in
      subst (λ q. Accepts table (made_new q n new)) (sym is)
      (accepted_new n new (subst (λ q. new_fault past q new ≡ None) is fine))

  accepted_reading : (n x : ℕ) (peer : Joined) (r : Result Message Refuse) → peer.label ≡ p →
      Accepts table (of_reading past n peer x r).made
  accepted_reading n x peer (Err r) is = tt
  accepted_reading n x peer (Ok m) is =
      accepted_request n x peer m (request_fault past peer.label x peer.role (label_at past peer.label) m) is refl

  accepted_message : (n opcode : ℕ) (body : List ℕ) (peer : Joined) (o : Option Made) → peer.label ≡ p →
      Accepts table (of_message past n peer opcode body o).made
  accepted_message n opcode body peer None is = tt
  accepted_message n opcode body peer (Some x) is =
      accepted_reading n x.label peer (request_reading x.interface opcode (past.waiting peer.label) body) is

asked_for : (table : Objects) (p n : ℕ) (o : Option requests.Argument) →
    Accepts table (made_new p n (option_map asked o)) → IfSome o (λ new. refusal_of table new.id ≡ None)
asked_for table p n None h = tt
asked_for table p n (Some new) h = h.0

-- so nothing but want of memory hinders it
pub accepted : (past : Past) (peer : Joined) (table : Objects) → IsTableOf past peer.label table →
    (n opcode id : ℕ) (body : List ℕ) (m : declared.Meaning) →
    meant peer.label n m ≡ of_message past n peer opcode body (object_at past peer.label id) →
    IfSome m.made (λ new. refusal_of table new.id ≡ None)
accepted past peer table its n opcode id body m is =
    asked_for table peer.label n m.made
    (subst (λ (meaning : Meaning). Accepts table meaning.made) (sym is)
    (accepted_message past peer.label table its n opcode body peer (object_at past peer.label id) refl))
