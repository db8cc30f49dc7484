use Rattle.std.proofs.Common.{◌≡◌, ◌∙◌, Some, refl, sym, subst, pos, w64, to_z, of_z}
use Rattle.std.proofs.lemmas.Int.{to_z-of_z}
use Rattle.c_broker.specs.Seated.{Bytewise, IsReady}
use Rattle.c_library.specs.LooksCalled.{ReadyCalled, joined_in}
use Rattle.c_library.proofs.broker_looks.wlim_broker_ready.Goals as goal

pub returns : goal.returns
returns c =
    let old = c.in-Some.seat.value in
    let peer = c.ready.result in
    let word = to_z w64 (of_z w64 c.from-answer.result) in
    let said : word ≡ pos peer =
    to_z-of_z w64 c.from-answer.result (record { sfits = c.from-answer.type_inv }) ∙ c.from-answer.ensures in
    let ready : IsReady old.broker c.args.after (joined_in old) peer =
    subst (λ (b : Bytewise). IsReady b.broker c.args.after (joined_in b) peer) c.deref.ensures c.ready.ensures in
    subst (λ before. ReadyCalled c.args.after before c.put_in.new.broker.held.seat word) c.in-Some.ensures.value
    (subst (λ after. ReadyCalled c.args.after (Some old) after word) (sym c.put_in.ensures)
    (record { same = refl; peer = peer; ready = ready; is = said }))
