use Rattle.std.proofs.Common.{◌≡◌, ◌+◌, Option, Some, refl, sym, subst, ◌∙◌, arith}
use Rattle.std.specs.Prelude.{IfSome}
use Rattle.session_text.specs.declared.seat_line.SeatsHeader.{SeatsHeader}
use Rattle.session_text.specs.SeatLines.{IsSeatsHeader}
use Rattle.program_run.proofs.SeatsPlayed.{line_told_if, header_told}
use Rattle.program_run.proofs.seats.SeatsPlayScript.line.Goals as goal

pub returns-in-Some : goal.returns-in-Some
returns-in-Some c = λ done output gathered few s held.
    let next : c.saturating_add-self.result ≡ c.args.self.now.before + 1 =
    omega (arith, few, s.count, c.saturating_add-self.ensures) in
    line_told_if c.args.self.now
    (record c.args.self.now {
      set = Some c.play_line.new.set;
      text = c.play_line.new.text;
      before = c.saturating_add-self.result;
    })
    c.in-Some.set c.play_line.new.set done c.args.raw.now output gathered c.play_line.result s c.in-Some.is
    (omega (arith, few, s.count)) c.play_line.ensures refl next held

pub returns-in_ok-new-in-Some-2 : goal.returns-in_ok-new-in-Some-2
returns-in_ok-new-in-Some-2 c = λ done output gathered few s held.
    let next : c.saturating_add-self.result ≡ c.args.self.now.before + 1 =
    omega (arith, few, s.count, c.saturating_add-self.ensures) in
    let valid : IsSeatsHeader c.in-Some-2.header =
    subst (λ (o : Option SeatsHeader). IfSome o IsSeatsHeader) c.in-Some-2.is c.in_ok-header-in-None.ensures.valid in
    header_told c.args.self.now
    (record c.args.self.now { set = Some c.in_ok-new-in-Some-2.field-0; before = c.saturating_add-self.result })
    c.in_ok-new-in-Some-2.field-0 done c.args.raw.now output gathered c.in-Some-2.header s c.in-None.is
    (sym c.in-Some-2.is ∙ c.in_ok-header-in-None.ensures.read) c.in_ok-new-in-Some-2.ensures.new valid.0.1 refl next
    refl held
