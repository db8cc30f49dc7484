-- What finds living and new objects as all that was made does tells each entry as that does.
use Rattle.std.proofs.Common.{◌≡◌, ℕ, List, [], ◌∷◌, Option, Some, None, ap, refl, sym, ◌∙◌, inl, inr, ◌⊎◌}
use Rattle.std.specs.Prelude.{◌==◌, if◌then◌else◌}
use Rattle.std.specs.List.{AllByRecursion}
use Rattle.wl_proto.specs.declared.interface.Interface.TheVariants as interface
use Rattle.wl_proto.specs.Grammar.{word, text}
use Rattle.wl_proto.specs.Rows.{Message, message}
use Rattle.relay_model.specs.declared.act.Act.{Act}
use Rattle.relay_model.specs.declared.said.Told.{Told}
use Rattle.relay_model.specs.declared.said.Said.{Said}
use Rattle.relay_model.specs.declared.said.Said.TheVariants as said
use Rattle.relay_model.specs.Faults.{code_of, text_of}
use Rattle.relay_model.specs.Told.{told}
use Rattle.broker_model.specs.Ids.{Made, log_of, made_as}
use Rattle.broker_model.specs.Groups.{Piece, nothing, followed_by, id_of, message_of, message_piece, event_piece, group_for}
use Rattle.broker_model.specs.Resolve.{past_of, resolve}
use Rattle.broker_model.specs.Out.{act_at}
use Rattle.broker_model.proofs.EachElement.{each_weaker}
use Rattle.broker_model.specs.Living.{IsLiving, named, IsOfLiving}
use Rattle.broker_model.specs.Enough.{IsEnough, IsAlike, EnoughTellsAll}
use Rattle.broker_model.proofs.EntriesTold.{entries_living}

-- the message of an event, where the objects that it names are found the same
same_message : (kept made : List Made) (event : Said) →
    AllByRecursion (λ x. made_as kept x ≡ made_as made x) (named event) → message_of kept event ≡ message_of made event
same_message kept made (said.Enter surface) h =
    ap (λ (o : Option Made). Some (message interface.TextInput 0 (word (id_of o) ∷ []))) h.0
same_message kept made (said.Leave surface) h =
    ap (λ (o : Option Made). Some (message interface.TextInput 1 (word (id_of o) ∷ []))) h.0
same_message kept made (said.DeleteId label) h =
    ap (λ (o : Option Made). Some (message interface.Display 1 (word (id_of o) ∷ []))) h.0
same_message kept made (said.Error object fault) h =
    ap (λ (o : Option Made). Some
    (message interface.Display 0 (word (id_of o) ∷ word (code_of fault) ∷ text (text_of fault) ∷ []))) h.0
same_message kept made _ h = refl

alike : (log : List Act) (made kept : List Made) (t : Told) → IsEnough log made kept → IsOfLiving log t →
    IsAlike made kept t
alike log made kept t k l =
    let names : AllByRecursion (λ x. made_as kept x ≡ made_as made x) (named t.event) =
    each_weaker (IsLiving log) (λ x. made_as kept x ≡ made_as made x) (named t.event) k.living l.names in
    record { to = to t.to l.to; message = same_message kept made t.event names; names = names }
  where
    to : (x : ℕ) → (x ≡ 0) ⊎ IsLiving log x → made_as kept x ≡ made_as made x
    to x (inl e) = ap (made_as kept) e ∙ k.shell ∙ ap (made_as made) (sym e)
    to x (inr h) = k.living x h

-- the group of a peer

piece_alike : (kept made : List Made) (p : ℕ) (event : Said) (o : Option Made) →
    message_of kept event ≡ message_of made event → event_piece kept p event o ≡ event_piece made p event o
piece_alike kept made p event None e = refl
piece_alike kept made p event (Some m) e =
    ap (λ (x : Option Message). if m.peer == p then message_piece m.id x else nothing) e

groups_alike : (made kept : List Made) (p : ℕ) (ts : List Told) → AllByRecursion (IsAlike made kept) ts →
    group_for kept p ts ≡ group_for made p ts
groups_alike made kept p [] h = refl
groups_alike made kept p (t ∷ rest) h =
    ap (λ (a : Piece). followed_by a (group_for kept p rest))
    (ap (event_piece kept p t.event) h.0.to ∙ piece_alike kept made p t.event (made_as made t.to) h.0.message)
    ∙ ap (followed_by (event_piece made p t.event (made_as made t.to))) (groups_alike made kept p rest h.1)

pub enough_told : EnoughTellsAll
enough_told e older kept k =
    let each : AllByRecursion (IsAlike (past_of (e ∷ older)).made kept) (told (act_at e older) (resolve older)) =
    each_weaker (IsOfLiving (log_of (past_of older))) (IsAlike (past_of (e ∷ older)).made kept)
    (told (act_at e older) (resolve older))
    (λ t l. alike (log_of (past_of older)) (past_of (e ∷ older)).made kept t k l) (entries_living e older) in
    record {
      each = each;
      groups = λ p. groups_alike (past_of (e ∷ older)).made kept p (told (act_at e older) (resolve older)) each;
    }
