use Rattle.trial_field.proofs.FirstLastChars.{first_of-encode, last_of-encode}
use Rattle.trial_field.proofs.laws.character_laws.Goals as goal

pub returns-clause-first : goal.returns-clause-first
returns-clause-first c = first_of-encode

pub returns-clause-last : goal.returns-clause-last
returns-clause-last c = last_of-encode
