-- `of_box`: the box is taken apart by a call, and the parts own what it owned.
use mathlib.Core.Path.{◌≡◌, refl, sym, subst, ap, ◌∙◌}
use mathlib.Core.List.{List, [], ◌∷◌, ◌++◌}
use Rattle.std.proofs.raw_atomic.Walks.{proved_at}
use mir.Syntax.{Fn, Args, Dict, a_type, dcons, dnil}
use mir.MapTy.{inst_fn}
use mir.Raw.{raw as bare}
use mir.Val.{Val, vstruct, of_list}
use base.Logic.{ent, id⊢, never, fst∗}
use base.Fml.{ftrue, fsep, flft}
use contract.BorrowLft.{◌⊑◌}
use contract.Monad.{fact}
use contract.Running.{tables}
use prog.Wp.{WpFn}
use types.Logic.{sem}
use types.Kit.{Item, ‵, raw, ⋆, ◌⊛◌, some, later, ◌$◌, ◌∵◌, !, qed, by, move, drop, use1, join, split, split3, pick, rewrite, fsplit, fjoin, fpick, feq_l, suffices, await, done}
use types.Part.{whole, sub, agg}
use types.Run.{stop, fld, no_more, and_then, of_opd, returns, enter}
use types.ByLocal.{alloc_all, pass_all, free_all, look_at, get, get_in, sets, lands_as}
use denote.Exit.{no}
use denote.Param.{bounded}
use denote.RattleType.{RattleType}
use denote.RawPtr.{Ptr, RawPtr, block_ptr, null_ptr, ptr_val, in_a_block}
use denote.Signature.{plain}
use denote.Steps.{heard, nothing, only}
use denote.Struct.Tuple.{Tuple}
use denote.Triple.Call.{calls_at}
use denote.Triple.Clauses.{Ended}
use denote.Triple.Spec.{triple_of}
use denote.Triple.Statement.{Contract}
use denote.Triple.Table.{framed}
use denote.Triple.Walked.{says, Stays, stay_dropped, walk_of, ends_at}
use Rattle.core.proofs.alloc.Calls.{token, handle_tells, Goes-blank}
use Rattle.std_alloc.specs.Box.Ownership.{box_owns}
use Rattle.std_alloc.proofs.BoxSteps.Form.{Bx, D, τ, R, P, B, word, box_typed}
use Rattle.std_alloc.proofs.BoxSteps.Steps.{box_out, box_in}
use Rattle.std_alloc.specs.contracts.boxed.Box.into_raw_with_allocator as g
use Rattle.std_alloc.proofs.boxed.Box.into_raw_with_allocator.Met.{met}
use Rattle.c_library.specs.contracts.parts.Parts as Parts
use Rattle.c_library.specs.contracts.parts.Parts.of_box as f
use Rattle.c_library.proofs.parts.Parts.of_box.Statement.{statement}
use Rattle.c_library.proofs.parts.Parts.of_box.Code as code

module _ (E : Bx) (drops : Dict) where
  abbrev args : Args
  args = bounded (a_type ∷ a_type ∷ []) (E.row, (E.al.row, tt)) (dcons E.al.d (dcons E.al.drops (dcons drops dnil)))

  abbrev ended : Ended
  ended = f.ended E.row E.al.row E.al.g E.al.d E.al.drops drops

  abbrev stayed : Stays ended.signature.params ended.kept
  stayed = (stay_dropped (plain (λ _. B E)) no, tt)

  abbrev Apart : RattleType
  Apart = Parts.the_row (R E) (P E) E.al.g

pub of_box_spec : {M : Type 1} → statement M
of_box_spec 𝓤 𝓛 𝓜 𝓡 wired X Z laws-X laws-Z gh dict dropped drops allocator frees glue =
    let E : Bx =
    record { row = X; laws = laws-X; al = record { row = Z; laws = laws-Z; g = gh; d = dict; drops = dropped } } in
    let T = ended E drops in let hs = stayed E drops in let c = f.clauses X Z gh dict dropped drops 𝓛 𝓜.mem 𝓡.returns in
    let W = walk_of 𝓛 T hs c in let 𝓣 = tables 𝓤 𝓛.H 𝓜 𝓡 𝓡.env in let fn : Fn = inst_fn (args E drops) code.function in
    let G : Contract 𝓤 =
    triple_of 𝓛 (g.signature X Z gh dict dropped drops) (g.spec X Z gh dict dropped drops 𝓛 𝓜.mem 𝓡.returns) in
    proved_at 𝓛 T hs c 𝓜 𝓡 (Goes-blank 𝓛 2 (plain (λ _. B E)) no (λ κs x w. tt), tt)
    (f.Key.name (args E drops)) fn (code.unfolded 𝓤 𝓛.H 𝓜 𝓡 wired (X, (Z, tt)) dict dropped drops) (λ y are.
    let κs = y.0.0 in let qs = y.0.1 in let box : D E = y.0.3.0 in let alloc = box.alloc in let value = box.value in
    let alive : Item 𝓤 = ‵ (flft κs.0 qs.0) ⊛ ‵ (flft κs.1.0 qs.1.0) ⊛ ‵ ftrue in
    let asked : Item 𝓤 = raw (fact 𝓤 (κs.0 ⊑ X.lives)) ⊛ raw (fact 𝓤 (κs.1.0 ⊑ Z.lives)) ⊛ ‵ ftrue in
    qed 𝓛 ((alive ⊛ ‵ (fsep ((B E).own_val box y.0.4.0) ftrue)) ∷ asked ∷ []) ∵ split ! $ move ! (1 ∷ []) $ fsplit ! $
    box_out E ! box y.0.4.0 (λ b o handle at stored fits. box_in E ! box b o value at refl $
    let w = word E handle b o in
    let z : G.Ghost = ((κs, qs, tt, (box, tt), (w ∷ [], tt)), tt) in
    let Γ : List (Item 𝓤) = ‵ ((B E).own_val box (w ∷ [])) ∷ ‵ ftrue ∷ alive ∷ asked ∷ [] in
    by ! (subst (λ (ws : List Val). ent 𝓤 (⋆ 𝓛 Γ) (WpFn 𝓤 𝓛.H 𝓣.C 𝓣.Λ fn (ws ++ []) (W.post y))) (sym stored) (qed 𝓛 Γ ∵
    enter ! 𝓣.C 𝓣.Λ fn (w ∷ []) _ $ alloc_all ! (λ l. pass_all ! refl (box_typed E handle b o fits, tt) $
    sets ! (of_opd ! (get ! refl)) refl (box_typed E handle b o fits) $
    -- the call, to which the box goes
    fjoin ! $ move ! (1 ∷ 0 ∷ []) $ join ! $ join ! $ use1 𝓛 (raw (G.pre z)) (id⊢ 𝓤 _) $
    calls_at ! (framed 𝓤 𝓛.H 𝓜 𝓣) G
    (met 𝓤 𝓛 𝓜 𝓡
    (code.calls-std_alloc::boxed::Box::into_raw_with_allocator 𝓡.env wired) X Z laws-X laws-Z gh dict dropped drops
    allocator frees glue) z
    (and_then ! (get ! refl) (no_more !)) (λ v.
    use1 𝓛 (later (some (λ (r : Ptr × Z.Denot). (alive ⊛ ‵ ((Tuple (RawPtr ∷ P E ∷ [])).own_val r (v ∷ [])))
    ⊛ some (λ (_ : (Unit {0} × (Unit {0} × Unit {0})) × Unit {0}). ‵ (fsep (fsep ftrue (fsep ftrue ftrue)) ftrue)
    ⊛ (raw (fact 𝓤 (r.1 ≡ alloc)) ⊛ ‵ (box_owns (token E.al alloc) (R E) r.0 value)))))) (id⊢ 𝓤 _) $
    await ! tt $ pick !
    (λ r. split ! $ move ! (1 ∷ []) $ pick ! (λ _. split3 ! $ drop ! $ heard ! (r.1 ≡ alloc) (λ same.
    in_a_block ! r.0 (λ p. box_owns (token E.al alloc) (R E) p value)
    (fst∗ 𝓤 (never 𝓤) (sem 𝓛 (token E.al alloc (bare (τ E)) null_ptr))) (λ b' o' at'.
    -- the pair that it answers, taken apart
    move ! (1 ∷ []) $ split ! $ move ! (1 ∷ []) $ fpick !
    (λ words. fsplit ! $ feq_l ! (λ pair. fsplit ! $ feq_l ! (λ first. fsplit ! $
    rewrite ! 0 (λ (a : Z.Denot). ‵ (Z.own_val a words.1.0)) same refl $ handle_tells E.al ! alloc words.1.0
    (λ handle' second fits'.
    let w' = word E handle' b' o' in let typed = box_typed E handle' b' o' fits' in
    let whole' : D E = record { ptr = block_ptr b' o'; alloc = alloc; value = value } in
    let parts : (Apart E drops).Denot = record { place = block_ptr b' o'; alloc = alloc; value = value } in
    lands_as ! (ap only
    (pair ∙ (λ i. vstruct (of_list ((first ∙ ap (λ (p : Ptr). ptr_val p ∷ []) at') i ++ (second i ++ []))) ∷ [])))
    refl typed $
    sets ! (of_opd ! (get_in ! (fld ! refl (stop !)) (sub ! 0 refl (whole !)))) refl (tt, tt) $
    sets ! (of_opd ! (get_in ! (fld ! refl (stop !)) (sub ! 1 refl (whole !)))) refl fits' $
    sets ! (of_opd ! (get ! refl)) refl fits' $
    sets ! (agg ! (and_then ! (get ! refl) (and_then ! (get ! refl) (no_more !)))) refl typed $
    returns ! (look_at ! 0 refl) $ free_all ! refl $
    -- [the handle; true; the tokens; the value and what lets its block go]
    move ! (3 ∷ []) $ fsplit ! $ box_in E ! whole' b' o' value refl refl $ use1 𝓛
    (‵ ((Apart E drops).own_val parts (w' ∷ []))) (id⊢ 𝓤 _) $ move ! (1 ∷ []) $ drop ! $
    suffices ! _ (ends_at 𝓛 T hs c y w' parts ((tt, (tt, tt)), tt) (tt, tt)) $ says ! refl $
    nothing ! $ nothing ! $ fjoin ! $ join ! $ move ! (1 ∷ 0 ∷ []) $ join ! $ done !))))))))))))))
