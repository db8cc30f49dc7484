-- What a dictionary keeps.
use Rattle.dict_method.specs.Dictionary.{Dictionary, IsDictionary}
use Rattle.dict_method.specs.declared.dict.Dict.TheInside.{Inside}

abbrev pub seen : Inside → Dictionary
seen d = record { words = d.words.items; controls = d.controls.items }

abbrev pub IsKept : Inside → Type 0
IsKept d = IsDictionary (seen d)
