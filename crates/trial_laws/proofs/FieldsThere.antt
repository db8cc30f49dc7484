-- Each field of a trial was made by its peer, unless the peer ended.
use Rattle.std.proofs.Common.{◌≡◌, ◌+◌, Bool, true, false, refl, sym, subst, ◌∙◌}
use Rattle.std.specs.Prelude.{◌==◌}
use Rattle.std.proofs.lemmas.Option.{same_Some}
use Rattle.broker_model.specs.Ids.{Joined}
use Rattle.broker_model.specs.Resolve.{past_of}
use Rattle.trial_laws.specs.RelayedBatches.{HasMadeField}
use Rattle.trial_laws.specs.TrialLaws.{FieldsAreMade}
use Rattle.trial_laws.proofs.ClientsKnown.{IsKnown}
use Rattle.trial_laws.proofs.FieldsMade.{HasId, field_there}
use Rattle.trial_laws.proofs.TextsFolded.{within_list, none_played}
use Rattle.trial_laws.proofs.TextsRelayed.{trial_known}

pub fields_are_made : FieldsAreMade
fields_are_made limits script t k field peer few e is joined = by (script.fields == 0) refl
  where
    by : (none : Bool) → (script.fields == 0) ≡ none → HasMadeField t.broker.journal (k + 2) peer.label
    by true n = absurd (none_played limits script t k field n e is)
    by false n = λ lives.
        let known : IsKnown k t = trial_known limits script t few n e k (within_list t.fields k field is) in
        let same : known.peer ≡ peer = same_Some known.peer peer (sym known.joined ∙ joined) in
        field_there t.broker.journal peer.label
        (subst (λ (x : Joined). HasId (past_of t.broker.journal).made x.label 7) same (known.made lives))
