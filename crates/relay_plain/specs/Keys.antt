-- Where a key goes as the program has it, in the words of the definitions.
use Rattle.relay_model.specs.Keys as model
use Rattle.relay_plain.specs.declared.keys.Goes.{Goes}
use Rattle.relay_plain.specs.declared.keys.Goes.TheVariants as goes

abbrev pub goes_of : Goes → model.Goes
goes_of (goes.ToGrab grab) = model.ToGrab grab
goes_of goes.ToShell = model.ToShell
goes_of goes.Nowhere = model.Nowhere
goes_of goes.Refused = model.Refused
