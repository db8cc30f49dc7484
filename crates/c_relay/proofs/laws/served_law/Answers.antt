use Rattle.std.proofs.Common.{List, ◌++◌, Err, ap, sym, ◌∙◌}
use Rattle.std.proofs.lemmas.List.{append_assoc}
use Rattle.relay_model.specs.declared.act.Act.{Act}
use Rattle.c_relay.specs.declared.seat.Refusal.{Refusal}
use Rattle.c_relay.specs.declared.seat.Refusal.TheVariants.{NoMemory, Full, Long, Many}
use Rattle.c_relay.specs.Events.{Heard, heard}
use Rattle.c_relay.specs.Seated.{Seat, Seated, Takes}
use Rattle.c_relay.proofs.laws.served_law.Goals as goal

pub returns-clause-taken : goal.returns-clause-taken
returns-clause-taken c = λ old new log handed act number takes s. record {
  waits = s.waits ++ heard act log;
  seated = (takes s.waits s.seated).3;
  whole = sym (append_assoc handed s.waits (heard act log)) ∙ ap (λ w. w ++ heard act log) s.whole;
}

pub returns-clause-idle : goal.returns-clause-idle
returns-clause-idle c =
    λ old new log handed act takes s. record { waits = s.waits; seated = (takes s.waits s.seated).1; whole = s.whole }

seated_still : (new : Seat) (log : List Act) (waits : List Heard) (act : Act) (refusal : Refusal) →
    Takes new log waits act (Err refusal) → Seated new log waits
seated_still new log waits act NoMemory h = h
seated_still new log waits act Full h = h.2
seated_still new log waits act Long h = h.1
seated_still new log waits act Many h = h.1

pub returns-clause-refused : goal.returns-clause-refused
returns-clause-refused c = λ old new log handed act refusal takes s.
    record {
      waits = s.waits;
      seated = seated_still new log s.waits act refusal (takes s.waits s.seated);
      whole = s.whole;
    }
