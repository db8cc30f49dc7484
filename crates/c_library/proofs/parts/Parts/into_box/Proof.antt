-- `into_box`: a call makes a box of the parts, which owns what they owned.
use mathlib.Core.Path.{◌≡◌, refl, sym, subst, ap}
use mathlib.Core.List.{List, [], ◌∷◌, ◌++◌}
use Rattle.std.proofs.raw_atomic.Walks.{proved_at}
use lib.Dec.{T as Holds}
use mir.Syntax.{Fn, Body, place, copy, assign, rv_opd, seq, return}
use mir.MapTy.{inst_fn}
use mir.Val.{Val, vptr, has_ty, WT}
use base.Logic.{ent, id⊢}
use base.Fml.{ftrue, fsep, flft}
use contract.BorrowLft.{◌⊑◌}
use contract.Monad.{fact}
use contract.Running.{tables}
use prog.Wp.{WpFn}
use types.Kit.{Item, at_ret, ‵, raw, ⋆, ◌⊛◌, some, later, ◌$◌, ◌∵◌, !, qed, by, move, drop, use1, join, split, split3, pick, rewrite, fsplit, fjoin, feq_i, suffices, await, done}
use types.Part.{whole, sub}
use types.Run.{stop, fld, no_more, and_then, of_opd, returns, enter, first, blocks, exec}
use types.ByLocal.{alloc_all, pass_all, free_all, look_at, get, get_in, sets, lands_last, env}
use denote.Exit.{no}
use denote.RattleType.{RattleType}
use denote.RawPtr.{block_ptr}
use denote.Signature.{plain}
use denote.Steps.{heard, nothing, only}
use denote.Triple.Call.{calls_at_last}
use denote.Triple.Clauses.{Ended}
use denote.Triple.Spec.{triple_of}
use denote.Triple.Statement.{Contract}
use denote.Triple.Table.{framed}
use denote.Triple.Walked.{says, Stays, stay_dropped, walk_of, ends_at}
use Rattle.core.proofs.alloc.Calls.{token, Goes-blank}
use Rattle.std_alloc.specs.Box.Ownership.{box_owns}
use Rattle.std_alloc.proofs.BoxSteps.Form.{Bx, D, R, P, B, args, box_ty, word, box_typed}
use Rattle.std_alloc.proofs.BoxSteps.Steps.{box_out, box_in}
use Rattle.std_alloc.specs.contracts.boxed.Box.from_raw as g
use Rattle.std_alloc.proofs.boxed.Box.from_raw.Met.{met}
use Rattle.c_library.specs.contracts.parts.Parts as Parts
use Rattle.c_library.specs.contracts.parts.Parts.into_box as f
use Rattle.c_library.proofs.parts.Parts.into_box.Statement.{statement}
use Rattle.c_library.proofs.parts.Parts.into_box.Code as code

-- what is left to run behind the call
abbrev left : Body
left = seq (assign (place 0 []) (rv_opd (copy (place 4 [])))) return

module _ (E : Bx) where
  abbrev ended : Ended
  ended = f.ended E.row E.al.row E.al.g E.al.d E.al.drops

  abbrev Apart : RattleType
  Apart = Parts.the_row (R E) (P E) E.al.g

  abbrev stayed : Stays ended.signature.params ended.kept
  stayed = (stay_dropped (plain (λ _. Apart)) no, tt)

pub into_box_spec : {M : Type 1} → statement M
into_box_spec 𝓤 𝓛 𝓜 𝓡 wired X Z laws-X laws-Z gh dict dropped allocator frees =
    let E : Bx =
    record { row = X; laws = laws-X; al = record { row = Z; laws = laws-Z; g = gh; d = dict; drops = dropped } } in
    let T = ended E in let hs = stayed E in let c = f.clauses X Z gh dict dropped 𝓛 𝓜.mem 𝓡.returns in
    let W = walk_of 𝓛 T hs c in let 𝓣 = tables 𝓤 𝓛.H 𝓜 𝓡 𝓡.env in let fn : Fn = inst_fn (args E) code.function in
    let G : Contract 𝓤 = triple_of 𝓛 (g.signature X Z gh dict dropped) (g.spec X Z gh dict dropped 𝓛 𝓜.mem 𝓡.returns) in
    proved_at 𝓛 T hs c 𝓜 𝓡 (Goes-blank 𝓛 2 (plain (λ _. Apart E)) no (λ κs x w. tt), tt)
    (f.Key.name (args E)) fn (code.unfolded 𝓤 𝓛.H 𝓜 𝓡 wired (X, (Z, tt)) dict dropped) (λ y are.
    let κs = y.0.0 in let qs = y.0.1 in let alloc = y.0.3.0.alloc in let value = y.0.3.0.value in
    let box : D E = record { ptr = y.0.3.0.place; alloc = alloc; value = value } in
    let alive : Item 𝓤 = ‵ (flft κs.0 qs.0) ⊛ ‵ (flft κs.1.0 qs.1.0) ⊛ ‵ ftrue in
    let in-X : Item 𝓤 = raw (fact 𝓤 (κs.0 ⊑ X.lives)) in let in-Z : Item 𝓤 = raw (fact 𝓤 (κs.1.0 ⊑ Z.lives)) in
    qed 𝓛 ((alive ⊛ ‵ (fsep ((B E).own_val box y.0.4.0) ftrue)) ∷ (in-X ⊛ in-Z ⊛ ‵ ftrue) ∷ []) ∵ split ! $ move !
    (1 ∷ []) $ fsplit ! $
    box_out E ! box y.0.4.0 (λ b o handle at stored fits. fjoin ! $
    let w = word E handle b o in let typed = box_typed E handle b o fits in
    let z : G.Ghost = ((κs, qs, tt, (alloc, (block_ptr b o, tt)), (handle ∷ [], (vptr b o ∷ [], tt))), value) in
    let Γ : List (Item 𝓤) =
    ‵ (box_owns (token E.al alloc) (R E) (block_ptr b o) value) ∷ ‵ ((P E).own_val alloc (handle ∷ [])) ∷ ‵ ftrue
    ∷ alive ∷ (in-X ⊛ in-Z ⊛ ‵ ftrue) ∷ [] in
    by ! (subst (λ (ws : List Val). ent 𝓤 (⋆ 𝓛 Γ) (WpFn 𝓤 𝓛.H 𝓣.C 𝓣.Λ fn (ws ++ []) (W.post y))) (sym stored) (qed 𝓛 Γ ∵
    enter ! 𝓣.C 𝓣.Λ fn (w ∷ []) _ $ alloc_all ! (λ l. pass_all ! refl (typed, tt) $
    sets ! (of_opd ! (get_in ! (fld ! refl (stop !)) (sub ! 0 refl (whole !)))) refl (tt, tt) $
    sets ! (of_opd ! (get_in ! (fld ! refl (stop !)) (sub ! 1 refl (whole !)))) refl fits $
    first ! $ blocks ! $ sets ! (of_opd ! (get ! refl)) refl fits $
    -- what the call asks for: the tokens, the allocator and the pointer, the facts, and what the box is to own
    move ! (4 ∷ []) $ split3 ! $ move ! (2 ∷ []) $ drop ! $ move ! (1 ∷ 2 ∷ []) $ join ! $ move !
    (1 ∷ 0 ∷ []) $ join ! $
    move ! (2 ∷ []) $ feq_i ! (List Val) (vptr b o ∷ []) (vptr b o ∷ []) refl $ fjoin ! $ move !
    (2 ∷ 0 ∷ []) $ fjoin ! $
    move ! (2 ∷ 0 ∷ []) $ join ! $ join ! $ use1 𝓛 (raw (G.pre z)) (id⊢ 𝓤 _) $
    calls_at_last ! (framed 𝓤 𝓛.H 𝓜 𝓣) G
    (met 𝓤 𝓛 𝓜 𝓡
    (code.calls-std_alloc::boxed::Box::from_raw 𝓡.env wired) X Z laws-X laws-Z gh dict dropped allocator frees) z
    (and_then ! (get ! refl) (and_then ! (get ! refl) (no_more !))) (λ v.
    use1 𝓛 (later
    (some (λ (r : D E). (alive ⊛ ‵ ((B E).own_val r (v ∷ []))) ⊛ some (λ (_ : Unit {0} × (Unit {0} × Unit {0})).
    ‵ (fsep ftrue (fsep ftrue ftrue)) ⊛ (raw (fact 𝓤 (r.value ≡ value)) ⊛ raw (fact 𝓤 (r.alloc ≡ alloc)))))))
    (id⊢ 𝓤 _) $
    await ! tt $ pick !
    (λ r. split ! $ move ! (1 ∷ []) $ pick !
    (λ _. split3 ! $ drop ! $ heard ! (r.value ≡ value) (λ same. drop ! $ split ! $ move ! (1 ∷ []) $
    box_out E ! r (v ∷ []) (λ b' o' handle' at' stored' fits'. box_in E ! r b' o' r.value at' refl $
    rewrite ! 0 (λ (ws : List Val). ‵ ((B E).own_val r ws)) (sym stored') refl $
    let typed' : Holds (has_ty (box_ty E) v) × WT v =
    subst (λ (u : Val). Holds (has_ty (box_ty E) u) × WT u) (sym (ap only stored'))
    (box_typed E handle' b' o' fits') in
    lands_last ! refl typed' $ exec ! 𝓣.C 𝓣.Λ (env fn.locals l) left (at_ret (env fn.locals l) (W.post y)) $
    sets ! (of_opd ! (get ! refl)) refl typed' $ returns ! (look_at ! 0 refl) $ free_all ! refl $
    suffices ! _ (ends_at 𝓛 T hs c y v r ((tt, (tt, tt)), tt) (tt, tt)) $ says ! same $
    nothing ! $ nothing ! $ fjoin ! $ join ! $ move ! (1 ∷ 0 ∷ []) $ join ! $ done !))))))))))
