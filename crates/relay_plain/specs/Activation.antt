-- Notices as the program has them, in the words of the definitions.
use Rattle.relay_model.specs.Activation as model
use Rattle.relay_plain.specs.declared.activation.HoldNotice.{HoldNotice}
use Rattle.relay_plain.specs.declared.activation.HoldNotice.TheVariants as notices

abbrev pub notice_of : HoldNotice → model.Notice
notice_of notices.Activates = model.Activates
notice_of notices.Updates = model.Updates
notice_of notices.Deactivates = model.Deactivates
