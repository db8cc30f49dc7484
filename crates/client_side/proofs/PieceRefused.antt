-- A piece is refused by what its bytes, behind those that were held, go wrong at.
use Rattle.std.proofs.Common.{◌≡◌, true, false, ℕ, List, ◌++◌, subst, ◌∙◌}
use Rattle.wl_wire.specs.Texts.{IsBytes}
use Rattle.wl_proto.specs.declared.interface.Interface.{Interface}
use Rattle.client_side.specs.Client.{Client, Step, GoesWrong, Refuses}

pub piece_refused : {S : Type 0} (objects : List Interface) (step : Step S) (old new : Client S)
    (piece bytes : List ℕ) (was : S)
    → old.is_bad ≡ false → was ≡ old.state → bytes ≡ old.held ++ piece → new.held ≡ bytes → IsBytes new.held
    → GoesWrong objects step was new.state bytes → new.is_bad ≡ true → Refuses objects step old new piece
piece_refused {S} objects step old new piece bytes was good state held kept fits wrong bad = record {
  was_good = good;
  goes_wrong =
      subst (λ (b : List ℕ). GoesWrong objects step old.state new.state b) held
      (subst (λ (s : S). GoesWrong objects step s new.state bytes) state wrong);
  held = kept ∙ held;
  bytes = fits;
  bad = bad;
}
