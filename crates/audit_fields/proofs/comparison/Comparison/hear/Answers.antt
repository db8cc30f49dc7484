use Rattle.std.proofs.Common.{◌≡◌, ◌++◌, ℕ, List, Bool, not, drop, sym, ap, ◌∙◌, subst}
use Rattle.std.specs.Prelude.{if◌then◌else◌}
use Rattle.audit_fields.specs.Heard.{IsLike}
use Rattle.audit_fields.specs.Passing.{IsCompared}
use Rattle.audit_fields.specs.Comparing.{Comparing, Follows}
use Rattle.audit_fields.proofs.FieldMessageFirst.{settled_by}
use Rattle.audit_fields.proofs.PiecesHeard.{heard_more, unheard}
use Rattle.audit_fields.proofs.comparison.Comparison.hear.Goals as goal

pub returns-in_default-clause-unheard : goal.returns-in_default-clause-unheard
returns-in_default-clause-unheard c = λ told sent f.
    let begun : List ℕ = c.self.inside.begun.items in
    let before : Comparing = record { told = c.self.inside.told; begun = begun } in
    let ok = c.is_err.ensures.negation ∙ ap not c.if-is_err.false in
    let all : c.deref.result.now ≡ begun ++ c.args.piece.now =
    c.deref.ensures.value ∙ c.extend_from_slice.ensures.items
    ∙ ap (λ (b : Bool). (if b then begun ++ c.args.piece.now else begun)) ok in
    unheard told sent c.args.piece.now c.deref.result.now before
    (subst (Follows told sent) (sym c.self.view_is) f) all
    (subst (λ (l : List ℕ). IsLike l c.deref.result.now → ⊥) c.as_slice.ensures c.in_default.ensures.unlike)

pub invariant_of-self-2 : goal.invariant_of-self-2
invariant_of-self-2 c =
    settled_by (drop c.in-Some.compared.told c.self.inside.told) c.pass.new.told c.pass.ensures

pub returns-clause-heard : goal.returns-clause-heard
returns-clause-heard c = λ told sent f.
    let begun : List ℕ = c.self.inside.begun.items in
    let before : Comparing = record { told = c.self.inside.told; begun = begun } in
    let ok = c.is_err.ensures.negation ∙ ap not c.if-is_err.false in
    let all : c.deref.result.now ≡ begun ++ c.args.piece.now =
    c.deref.ensures.value ∙ c.extend_from_slice.ensures.items
    ∙ ap (λ (b : Bool). (if b then begun ++ c.args.piece.now else begun)) ok in
    heard_more told sent c.args.piece.now c.deref.result.now before _ c.in-Some.compared
    (subst (Follows told sent) (sym c.self.view_is) f) all
    (subst (λ (l : List ℕ). IsCompared l c.deref.result.now c.in-Some.compared) c.as_slice.ensures
    c.in-Some.ensures.like)
    c.pass.ensures
    (c.cut_front.ensures ∙ ap (drop c.in-Some.compared.sent) (sym c.deref.ensures.value))
