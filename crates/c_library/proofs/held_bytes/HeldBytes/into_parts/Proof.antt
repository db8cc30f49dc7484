-- `into_parts`: the two fields of what isn't empty are moved, and what they own goes along.
use mathlib.Core.Path.{◌≡◌, refl, sym, subst}
use mathlib.Core.List.{List, [], ◌∷◌, ◌++◌}
use Rattle.std.proofs.Common.{true, true≢false}
use Rattle.std.specs.Prelude.{Option, Some, None, is_some}
use Rattle.std.proofs.raw_atomic.Walks.{proved_at}
use seplogic.Ra.Ura.{Ura}
use mir.Val.{Val}
use base.Logic.{SProp, ent, id⊢}
use base.Fml.{ftrue, fsep}
use prog.Model.{Model}
use prog.Wp.{WpFn}
use types.Logic.{Logic}
use contract.Monad.{fact}
use contract.Running.{Running, tables}
use types.Kit.{Sq, prop, ‵, raw, ⋆, ◌⊛◌, ◌$◌, ◌∵◌, !, qed, by, move, keep, use1, join, split, fsplit, fjoin, suffices, done}
use types.Part.{whole, sub, agg}
use types.Run.{stop, fld, no_more, and_then, of_opd, returns, enter}
use types.ByLocal.{alloc_all, pass_all, free_all, look_at, get, get_in, sets}
use denote.Exit.{yes}
use denote.Signature.{plain}
use denote.Steps.{nothing, heard}
use denote.Triple.Clauses.{Clauses}
use denote.Triple.Walked.{says, Stays, stay_dropped, walk_of, ends_at, Goes-dropped}
use Rattle.std_alloc.proofs.BoxSteps.Form.{D, R, B, word, box_typed}
use Rattle.std_alloc.proofs.BoxSteps.Steps.{box_out, box_in}
use Rattle.c_library.proofs.ByteBoxes.{Boxed, Apart, Kept}
use Rattle.c_library.specs.contracts.held_bytes.HeldBytes.into_parts as f
use Rattle.c_library.proofs.held_bytes.HeldBytes.into_parts.Statement.{statement}
use Rattle.c_library.proofs.held_bytes.HeldBytes.into_parts.Code as code

abbrev stayed : Stays f.ended.signature.params f.ended.kept
stayed = (stay_dropped _ yes, tt)

module _ {M : Type 1} {𝓤 : Ura M} (𝓛 : Logic 𝓤) (𝓜 : Model 𝓤 𝓛.H) (𝓡 : Running 𝓤 𝓛.H 𝓜) where
  abbrev c : Clauses 𝓤 f.ended
  c = f.clauses 𝓛 𝓜.mem 𝓡.returns

  abbrev runs : (y : (walk_of 𝓛 f.ended stayed c).Ghost) → List Val → SProp 𝓤
  runs y stored = let 𝓣 =
      tables 𝓤 𝓛.H 𝓜 𝓡 𝓡.env in WpFn 𝓤 𝓛.H 𝓣.C 𝓣.Λ code.function (stored ++ []) ((walk_of 𝓛 f.ended stayed c).post y)

  -- by whether there is something, as is required
  by_seat : (y : (walk_of 𝓛 f.ended stayed c).Ghost) → (seat : Option (R Boxed).Denot) → y.0.3.0.seat ≡ seat →
      is_some seat ≡ true
      → Sq 𝓛 (‵ (Kept.own_val (record y.0.3.0 { seat = seat }) y.0.4.0) ∷ []) (prop (runs y y.0.4.0))
  by_seat y None is some = absurd (true≢false (sym some))
  by_seat y (Some value) is some =
      let held = y.0.3.0 in
      let box : D Boxed = record { ptr = held.place; alloc = held.alloc; value = value } in
      let parts : Apart.Denot = record { place = held.place; alloc = held.alloc; value = value } in
      use1 𝓛 (‵ ((B Boxed).own_val box y.0.4.0)) (id⊢ 𝓤 _) $
      box_out Boxed ! box y.0.4.0 (λ b o handle at stored fits. box_in Boxed ! box b o value at refl $
      let w = word Boxed handle b o in let typed = box_typed Boxed handle b o fits in let Γ =
      ‵ (Apart.own_val parts (w ∷ [])) ∷ [] in
      use1 𝓛 (‵ (Apart.own_val parts (w ∷ []))) (id⊢ 𝓤 _) $
      by ! (subst (λ (ws : List Val). ent 𝓤 (⋆ 𝓛 Γ) (runs y ws)) (sym stored) (qed 𝓛 Γ ∵
      enter ! _ _ _ (w ∷ []) _ $ alloc_all ! (λ l. pass_all ! refl (typed, tt) $
      sets ! (of_opd ! (get_in ! (fld ! refl (stop !)) (sub ! 0 refl (whole !)))) refl (tt, tt) $
      sets ! (of_opd ! (get_in ! (fld ! refl (stop !)) (sub ! 1 refl (whole !)))) refl fits $
      sets ! (of_opd ! (get ! refl)) refl (tt, tt) $
      sets ! (agg ! (and_then ! (get ! refl) (and_then ! (get ! refl) (no_more !)))) refl typed $
      returns ! (look_at ! 0 refl) $ free_all ! refl $
      suffices ! _ (ends_at 𝓛 f.ended stayed c y w parts (tt, tt) (tt, tt)) $ says ! is $
      nothing ! $ nothing ! $ fjoin ! $ join ! $ nothing ! $ join ! $ done !))))

pub into_parts_spec : {M : Type 1} → statement M
into_parts_spec 𝓤 𝓛 𝓜 𝓡 wired =
    proved_at 𝓛 f.ended stayed (c 𝓛 𝓜 𝓡) 𝓜 𝓡 (Goes-dropped 𝓛 0 (plain (λ _. Kept)) yes (λ κs x w. refl), tt)
    f.Key.name code.function (code.unfolded 𝓤 𝓛.H 𝓜 𝓡 wired) (λ y are.
    let held = y.0.3.0 in
    qed 𝓛 ((‵ ftrue ⊛ ‵ (fsep (Kept.own_val held y.0.4.0) ftrue)) ∷ raw (fact 𝓤 (is_some held.seat ≡ true)) ∷ []) ∵
    move ! (1 ∷ []) $ heard ! (is_some held.seat ≡ true)
    (λ some. split ! $ keep ! (1 ∷ []) $ fsplit ! $ keep ! (0 ∷ []) $
    by_seat 𝓛 𝓜 𝓡 y held.seat refl some))
