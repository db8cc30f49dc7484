use Rattle.std.proofs.Common.{◌≡◌, Some, refl, subst, sym, ap, ◌∙◌, w64, to_z, of_z}
use Rattle.std.proofs.lemmas.Int.{to_z-of_z}
use Rattle.relay_model.specs.Idle.{history}
use Rattle.relay_reasons.specs.Fate.{fate}
use Rattle.c_relay.specs.Seated.{Seat, Seated}
use Rattle.c_relay.specs.Numbers.{Numbered}
use Rattle.c_library.specs.Fates.{IsBatch, fate_code, batch_of}
use Rattle.c_library.proofs.batches.wlim_batch.Goals as goal

pub returns : goal.returns
returns c =
    let old = c.in-Some.boxed.value in
    let word = to_z w64 (of_z w64 c.fate_code.result) in
    let same : c.seat.result.now ≡ old.seat = c.seat.ensures ∙ ap (λ (s : Numbered). s.seat) c.deref.ensures in
    let said : word ≡ fate_code c.batch-fate.result =
    to_z-of_z w64 c.fate_code.result (record { sfits = c.fate_code.type_inv }) ∙ c.fate_code.ensures in
    subst (λ before. IsBatch before c.put.new.w.held.seat c.args.method c.args.serial c.args.batch.now
    c.batch_of.result word)
    c.in-Some.ensures.value
    (subst (λ after. IsBatch (Some old) after c.args.method c.args.serial c.args.batch.now c.batch_of.result word)
    (sym c.put.ensures) (
      refl,
      λ log waits s.
          (let is = c.batch-fate.ensures log waits (subst (λ (v : Seat). Seated v log waits) (sym same) s) in
          (said ∙ ap fate_code is, c.batch_of.ensures ∙ ap batch_of is)),
    ))
