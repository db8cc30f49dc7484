-- The state of a field as the program has it, in the words of the definitions.
use Rattle.std.specs.Prelude.{option_map}
use Rattle.relay_model.specs.Current as model
use Rattle.relay_plain.specs.declared.current.Around.{Around}
use Rattle.relay_plain.specs.declared.current.ContentType.{ContentType}
use Rattle.relay_plain.specs.declared.current.State.{State}

abbrev pub around_of : Around → model.Around
around_of around = record { text = around.text.now; cursor = around.cursor; anchor = around.anchor }

abbrev pub content_of : ContentType → model.ContentType
content_of content = record { hint = content.hint; purpose = content.purpose }

abbrev pub state_of : State → model.State
state_of s =
    record {
      surrounding = option_map around_of s.surrounding;
      cause = s.cause;
      content = content_of s.content;
      rect = s.rect;
    }
