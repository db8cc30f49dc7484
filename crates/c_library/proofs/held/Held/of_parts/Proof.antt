-- `of_parts`: the two fields are moved, and what they own goes along.
use mathlib.Core.Path.{refl, sym, subst}
use mathlib.Core.List.{List, [], ◌∷◌, ◌++◌}
use Rattle.std.specs.Prelude.{Some}
use Rattle.std.proofs.raw_atomic.Walks.{proved_at}
use mir.Val.{Val}
use base.Logic.{ent, emp, id⊢}
use base.Fml.{ftrue, fsep}
use prog.Wp.{WpFn}
use contract.Running.{tables}
use types.Kit.{‵, raw, ⋆, ◌⊛◌, ◌$◌, ◌∵◌, !, qed, by, keep, use1, join, split, fsplit, fjoin, suffices, done}
use types.Part.{whole, sub, agg}
use types.Run.{stop, fld, no_more, and_then, of_opd, returns, enter}
use types.ByLocal.{alloc_all, pass_all, free_all, look_at, get, get_in, sets}
use denote.Exit.{yes}
use denote.Signature.{plain}
use denote.Steps.{nothing}
use denote.Triple.Walked.{says, Stays, stay_dropped, walk_of, ends_at, Goes-dropped}
use Rattle.std_alloc.proofs.BoxSteps.Form.{D, B, word, box_typed}
use Rattle.std_alloc.proofs.BoxSteps.Steps.{box_out, box_in}
use Rattle.c_library.proofs.Boxes.{Boxed, Apart, Kept}
use Rattle.c_library.specs.contracts.held.Held.of_parts as f
use Rattle.c_library.proofs.held.Held.of_parts.Statement.{statement}
use Rattle.c_library.proofs.held.Held.of_parts.Code as code

abbrev stayed : Stays f.ended.signature.params f.ended.kept
stayed = (stay_dropped _ yes, tt)

pub of_parts_spec : {M : Type 1} → statement M
of_parts_spec 𝓤 𝓛 𝓜 𝓡 wired =
    let c = f.clauses 𝓛 𝓜.mem 𝓡.returns in let W = walk_of 𝓛 f.ended stayed c in let 𝓣 = tables 𝓤 𝓛.H 𝓜 𝓡 𝓡.env in
    proved_at 𝓛 f.ended stayed c 𝓜 𝓡 (Goes-dropped 𝓛 0 (plain (λ _. Apart)) yes (λ κs x w. refl), tt)
    f.Key.name code.function (code.unfolded 𝓤 𝓛.H 𝓜 𝓡 wired) (λ y are.
    let parts = y.0.3.0 in
    let whole' : D Boxed = record { ptr = parts.place; alloc = parts.alloc; value = parts.value } in
    let held : Kept.Denot = record { place = parts.place; alloc = parts.alloc; seat = Some parts.value } in
    qed 𝓛 ((‵ ftrue ⊛ ‵ (fsep ((B Boxed).own_val whole' y.0.4.0) ftrue)) ∷ raw (emp 𝓤) ∷ []) ∵ split ! $ keep !
    (1 ∷ []) $ fsplit ! $
    box_out Boxed ! whole' y.0.4.0 (λ b o handle at stored fits. box_in Boxed ! whole' b o parts.value at refl $
    let w = word Boxed handle b o in
    use1 𝓛 (‵ (Kept.own_val held (w ∷ []))) (id⊢ 𝓤 _) $ keep ! (0 ∷ []) $
    by ! (subst (λ (ws : List Val). ent 𝓤 (⋆ 𝓛 (‵ (Kept.own_val held (w ∷ [])) ∷ []))
    (WpFn 𝓤 𝓛.H 𝓣.C 𝓣.Λ code.function (ws ++ []) (W.post y))) (sym stored)
    (qed 𝓛 (‵ (Kept.own_val held (w ∷ [])) ∷ []) ∵ enter ! _ _ _ (w ∷ []) _ $ alloc_all !
    (λ l. pass_all ! refl (box_typed Boxed handle b o fits, tt) $
    sets ! (of_opd ! (get_in ! (fld ! refl (stop !)) (sub ! 0 refl (whole !)))) refl (tt, tt) $
    sets ! (of_opd ! (get_in ! (fld ! refl (stop !)) (sub ! 1 refl (whole !)))) refl fits $
    sets ! (of_opd ! (get ! refl)) refl (tt, tt) $
    sets ! (agg ! (and_then ! (get ! refl) (and_then ! (get ! refl) (no_more !)))) refl
    (box_typed Boxed handle b o fits) $
    returns ! (look_at ! 0 refl) $ free_all ! refl $
    suffices ! _ (ends_at 𝓛 f.ended stayed c y w held (tt, tt) (tt, tt)) $ says ! refl $
    nothing ! $ nothing ! $ fjoin ! $ join ! $ nothing ! $ join ! $ done !)))))
