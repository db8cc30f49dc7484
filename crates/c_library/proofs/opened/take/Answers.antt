use Rattle.std.proofs.Common.{◌≡◌, Some, ◌∙◌, sym, subst, w64, to_z, of_z}
use Rattle.std.proofs.lemmas.Int.{to_z-of_z}
use Rattle.c_relay.specs.Numbers.{Numbered, SeatTook, SeatCounts}
use Rattle.c_library.specs.Took.{Took, answer_of}
use Rattle.c_library.proofs.opened.take.Goals as goal

pub returns : goal.returns
returns c =
    let seat = c.in-Some.seat.value in
    let new = c.take-answer.new.self in
    let answer = c.take-answer.result in
    let word = to_z w64 (of_z w64 c.answer_of.result) in
    let said : word ≡ answer_of answer =
    to_z-of_z w64 c.answer_of.result (record { sfits = c.answer_of.type_inv }) ∙ c.answer_of.ensures in
    let took = subst
    (λ (s : Numbered). SeatTook s.seat new.seat c.args.act answer) c.deref_mut.ensures.value
    c.take-answer.ensures.seat in
    let counts = subst
    (λ (s : Numbered). SeatCounts s.seat new.seat c.args.act answer) c.deref_mut.ensures.value
    c.take-answer.ensures.counts in
    let numbers =
    subst (λ (s : Numbered). new.numbers ≡ s.numbers) c.deref_mut.ensures.value c.take-answer.ensures.numbers in
    subst (λ before. Took before c.put.new.w.held.seat c.args.act word) c.in-Some.ensures.value
    (subst (λ after. Took (Some seat) after c.args.act word) (sym c.put.ensures) (answer, said, took, counts, numbers))
