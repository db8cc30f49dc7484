use Rattle.std.proofs.Common.{rules, Ok, Err}
use Rattle.std.proofs.lemmas.List.Sorted.{answers_always}
use Rattle.relay_objects.specs.Places.{no_place}
use Rattle.relay_objects.proofs.RisingNumbers.{searched}
use Rattle.relay_objects.proofs.SearchedPlaces.{label_of}
use Rattle.relay_objects.proofs.place.place_of.Goals as goal

pub returns-in-Ok-clause-found : goal.returns-in-Ok-clause-found
returns-in-Ok-clause-found c =
    let facts = c.in-Ok.ensures in
    let at = (searched label_of c.args.places.now no_place c.requires c.args.label (Ok c.in-Ok.at) facts.bound
    (facts.position (λ p. p.label) (answers_always _ _ _ (λ f a r g called. search rules)))).found in
    record { within = at.0; has_label = at.1 }

pub returns-in-Err-clause-absent : goal.returns-in-Err-clause-absent
returns-in-Err-clause-absent c =
    let facts = c.in-Err.ensures in
    (searched label_of c.args.places.now no_place c.requires c.args.label (Err c.in-Err.field-0) facts.bound
    (facts.position (λ p. p.label) (answers_always _ _ _ (λ f a r g called. search rules)))).absent
