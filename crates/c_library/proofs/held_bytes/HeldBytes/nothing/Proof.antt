-- `nothing`: a null pointer and the allocator, which own nothing.
use mathlib.Core.Path.{refl, sym, subst}
use mathlib.Core.List.{List, [], ◌∷◌, ◌++◌}
use Rattle.std.specs.Prelude.{None}
use Rattle.std.proofs.raw_atomic.Walks.{proved_at}
use lib.Dec.{lit<}
use mir.Val.{Val, vstruct, of_list, has_ty}
use base.Logic.{ent, emp, id⊢}
use base.Fml.{ftrue, fsep}
use prog.Wp.{WpFn}
use contract.Running.{tables}
use types.Kit.{‵, raw, ⋆, ◌⊛◌, ◌$◌, ◌∵◌, !, qed, by, move, keep, use1, join, split, fsplit, fjoin, fpack, feq_i, suffices, done}
use types.Part.{agg}
use types.Run.{no_more, and_then, lit, returns, enter}
use types.ByLocal.{alloc_all, pass_all, free_all, look_at, get, sets}
use denote.Exit.{yes}
use denote.RattleType.{Valss}
use denote.RawPtr.{RawPtr, null_ptr, ptr_val}
use denote.Signature.{plain}
use denote.Steps.{nothing}
use denote.Struct.Struct.{within}
use denote.Struct.Owning.{shape}
use denote.Triple.Walked.{says, Stays, stay_dropped, walk_of, ends_at, Goes-dropped}
use Rattle.core.proofs.alloc.Calls.{α, handle_tells}
use Rattle.std_alloc.proofs.ResultValues.{and_tt}
use Rattle.std_alloc.proofs.BoxSteps.Form.{P, owning}
use Rattle.c_library.proofs.ByteBoxes.{Boxed, Kept}
use Rattle.c_library.specs.contracts.held_bytes.HeldBytes.nothing as f
use Rattle.c_library.proofs.held_bytes.HeldBytes.nothing.Statement.{statement}
use Rattle.c_library.proofs.held_bytes.HeldBytes.nothing.Code as code

abbrev stayed : Stays f.ended.signature.params f.ended.kept
stayed = (stay_dropped _ yes, tt)

pub nothing_spec : {M : Type 1} → statement M
nothing_spec 𝓤 𝓛 𝓜 𝓡 wired =
    let c = f.clauses 𝓛 𝓜.mem 𝓡.returns in let W = walk_of 𝓛 f.ended stayed c in let 𝓣 = tables 𝓤 𝓛.H 𝓜 𝓡 𝓡.env in
    let Alloc = Boxed.al.row in
    proved_at 𝓛 f.ended stayed c 𝓜 𝓡 (Goes-dropped 𝓛 0 (plain (λ _. Alloc)) yes (λ κs x w. refl), tt)
    f.Key.name code.function (code.unfolded 𝓤 𝓛.H 𝓜 𝓡 wired) (λ y are.
    let alloc = y.0.3.0 in
    let held : Kept.Denot = record { place = null_ptr; alloc = alloc; seat = None } in
    qed 𝓛 ((‵ ftrue ⊛ ‵ (fsep (Alloc.own_val alloc y.0.4.0) ftrue)) ∷ raw (emp 𝓤) ∷ []) ∵ split ! $ keep !
    (1 ∷ []) $ fsplit ! $ keep ! (0 ∷ []) $
    handle_tells Boxed.al ! alloc y.0.4.0 (λ handle stored fits.
    let place = ptr_val null_ptr in let w = vstruct (of_list (place ∷ handle ∷ [])) in let Γ =
    ‵ (Alloc.own_val alloc (handle ∷ [])) ∷ [] in
    by ! (subst (λ (ws : List Val). ent 𝓤 (⋆ 𝓛 Γ) (WpFn 𝓤 𝓛.H 𝓣.C 𝓣.Λ code.function (ws ++ []) (W.post y))) (sym stored)
    (qed 𝓛 Γ ∵
    enter ! _ _ _ (handle ∷ []) _ $ alloc_all ! (λ l. pass_all ! refl (fits, tt) $
    sets ! (agg ! (and_then ! (lit ! tt) (and_then ! (get ! refl) (no_more !)))) refl
    (and_tt (has_ty (α Boxed.al) handle) fits.0, (record { fits = lit< tt }, (fits.1, tt))) $
    returns ! (look_at ! 0 refl) $ free_all ! refl $
    suffices ! _ (ends_at 𝓛 f.ended stayed c y w held (tt, tt) (tt, tt)) $ says ! refl $
    -- what the pointer and the allocator own, then what the struct does
    nothing ! $ nothing ! $ move ! (2 ∷ 0 ∷ []) $ fjoin ! $ feq_i ! (List Val) (place ∷ [])
    (place ∷ []) refl $ fjoin ! $
    feq_i ! (List Val) (w ∷ []) (w ∷ []) refl $ fjoin ! $
    fpack ! (Valss (RawPtr ∷ P Boxed ∷ [])) (within (shape (owning Boxed)) (null_ptr, (alloc, tt)) (w ∷ []))
    (place ∷ [], (handle ∷ [], tt)) $ fjoin ! $
    use1 𝓛 (‵ (Kept.own_val held (w ∷ []))) (id⊢ 𝓤 _) $
    nothing ! $ nothing ! $ fjoin ! $ join ! $ nothing ! $ join ! $ done !)))))
