use Rattle.relay_objects.proofs.SearchedPlaces.{key_at_place, key_absent}
use Rattle.relay_objects.proofs.place.key_of.Goals as goal

pub returns-in-Some : goal.returns-in-Some
returns-in-Some c = key_at_place c.args.places.now 0 c.args.label c.in-Some.at c.requires c.in-Some.ensures.found

pub returns-in-None : goal.returns-in-None
returns-in-None c = key_absent c.args.places.now c.args.label c.in-None.ensures.absent
