use Rattle.std.proofs.Common.{◌≡◌, Some, ◌∙◌, sym, subst, w64, to_z, of_z}
use Rattle.std.proofs.lemmas.Int.{to_z-of_z}
use Rattle.relay_model.specs.declared.act.Act.TheVariants.{Drop}
use Rattle.c_relay.specs.Numbers.{Numbered, SeatTook, SeatCounts, Gives}
use Rattle.c_library.specs.Took.{Ended, answer_of}
use Rattle.c_library.proofs.opened.end.Goals as goal

pub returns : goal.returns
returns c =
    let seat = c.in-Some.seat.value in
    let new = c.end-answer.new.self in
    let answer = c.end-answer.result in
    let word = to_z w64 (of_z w64 c.answer_of.result) in
    let said : word ≡ answer_of answer =
    to_z-of_z w64 c.answer_of.result (record { sfits = c.answer_of.type_inv }) ∙ c.answer_of.ensures in
    let took = subst
    (λ (s : Numbered). SeatTook s.seat new.seat (Drop c.args.label) answer) c.deref_mut.ensures.value
    c.end-answer.ensures.seat in
    let counts = subst
    (λ (s : Numbered). SeatCounts s.seat new.seat (Drop c.args.label) answer) c.deref_mut.ensures.value
    c.end-answer.ensures.counts in
    let numbers =
    subst (λ (s : Numbered). Gives s.numbers new.numbers c.args.label 0) c.deref_mut.ensures.value
    c.end-answer.ensures.numbers in
    subst (λ before. Ended c.args.label before c.put.new.w.held.seat word) c.in-Some.ensures.value
    (subst (λ after. Ended c.args.label (Some seat) after word) (sym c.put.ensures)
    (answer, said, took, counts, numbers))
