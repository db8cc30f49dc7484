use Rattle.std.proofs.Common.{refl}
use Rattle.relay_model.proofs.rows.session_rows.Goals as goal

pub returns-clause-globals_of_an_app : goal.returns-clause-globals_of_an_app
returns-clause-globals_of_an_app c = refl

pub returns-clause-globals_of_a_method : goal.returns-clause-globals_of_a_method
returns-clause-globals_of_a_method c = refl

pub returns-clause-globals_of_a_keyed : goal.returns-clause-globals_of_a_keyed
returns-clause-globals_of_a_keyed c = refl

pub returns-clause-answered_sync : goal.returns-clause-answered_sync
returns-clause-answered_sync c = refl

pub returns-clause-bound_seat : goal.returns-clause-bound_seat
returns-clause-bound_seat c = refl

pub returns-clause-refused_messages : goal.returns-clause-refused_messages
returns-clause-refused_messages c = refl

pub returns-clause-dropped_thing : goal.returns-clause-dropped_thing
returns-clause-dropped_thing c = refl

pub returns-clause-ended_peer : goal.returns-clause-ended_peer
returns-clause-ended_peer c = refl
