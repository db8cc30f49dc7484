use Rattle.std.proofs.Common.{rules, ap}
use Rattle.wio_core.proofs.ReadersAnswer.{answered, never_settled}
use Rattle.wio_core.proofs.line_reader.LineReader.next.Goals as goal

pub returns-in-Err : goal.returns-in-Err
returns-in-Err g c =
    let told = c.turn.ensures in
    let given = c.settle.ensures in (
      (
        search rules,
        (λ _. tt),
        answered _ _ _ _ _ _ _ _ _ c.self.view_is c.in_default.not-Some told.took told.near
            (rw given.settled (given.tells _ _ c.in-Err.ensures.stop)),
      ),
      record {
        answer = tt;
        waits = search rules;
        reads_nothing = never_settled _ _ _ (ap (λ r. r.settled) c.self.view_is) c.in_default.not-Some;
        given_quiet = told.given_quiet;
        left_quiet = told.left_quiet;
        never_falls = told.never_falls;
        cause = search rules;
      },
    )
