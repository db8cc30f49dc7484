use Rattle.std.proofs.Common.{◌≡◌, List, true, false, sym, ◌∙◌, ap, arith}
use Rattle.std.specs.List.{slice_get}
use Rattle.audit_fields.specs.declared.side.Side.{Side}
use Rattle.audit_fields.specs.Gathering.{Gathering, is_app_in}
use Rattle.std.specs.Vec.{with_items}
use Rattle.std.proofs.lemmas.List.{with_items_is}
use Rattle.audit_fields.proofs.SidesTold.{app_within}
use Rattle.audit_fields.proofs.SentHeard.{heard_zero, heard_nobody, heard_all, heard_as, unlike_all}
use Rattle.audit_fields.proofs.gatherer.Gatherer.hear.Goals as goal

pub hear_side-requires : goal.hear_side-requires
hear_side-requires c =
    let app : is_app_in (slice_get c.deref.result.now c.in-Some.place) ≡ true =
    sym c.is_app_at.ensures ∙ c.if-not-is_app_at.false in
    let within = app_within c.in-Some.place c.deref.result.now app in
    let long = c.as_mut_slice.ensures.len in
    let other = c.deref.ensures.len in
    omega arith

pub returns-in_default-clause-heard : goal.returns-in_default-clause-heard
returns-in_default-clause-heard c = λ capacity sent after journal f s.
    heard_zero capacity c.args.number c.args.bytes.now sent after journal c.args.self.now c.in_default.ensures f s

pub returns-then-not-is_app_at-clause-heard : goal.returns-then-not-is_app_at-clause-heard
returns-then-not-is_app_at-clause-heard c = λ capacity sent after journal f s.
    let place = c.in-Some.ensures in
    let none : is_app_in (slice_get c.args.self.now.sides c.in-Some.place) ≡ false =
    ap (λ (g : Gathering). is_app_in (slice_get g.sides c.in-Some.place)) (sym c.self.view_is)
    ∙ ap (λ (l : List Side). is_app_in (slice_get l c.in-Some.place)) (sym c.deref.ensures.value)
    ∙ sym c.is_app_at.ensures ∙ c.if-not-is_app_at.true in
    heard_nobody capacity c.args.number c.in-Some.place c.args.bytes.now sent after journal c.args.self.now
    (omega (arith, place.0, place.1)) none f s

pub returns-clause-heard : goal.returns-clause-heard
returns-clause-heard c =
    let place = c.in-Some.ensures in
    let app : is_app_in (slice_get c.self.inside.sides.items c.in-Some.place) ≡ true =
    ap (λ (l : List Side). is_app_in (slice_get l c.in-Some.place)) (sym c.deref.ensures.value)
    ∙ sym c.is_app_at.ensures ∙ c.if-not-is_app_at.false in
    let all : (with_items c.self.inside.sides c.hear_side.new.sides).items ≡ c.hear_side.new.sides =
    with_items_is c.self.inside.sides c.hear_side.new.sides (c.hear_side.auto.sides ∙ c.as_mut_slice.ensures.len) in
    heard_all c.args.number c.in-Some.place c.args.bytes.now c.self.inside.gained.items c.self.inside.is_short
    c.args.self.now c.self.inside.sides.items
    c.as_mut_slice.result.now (with_items c.self.inside.sides c.hear_side.new.sides).items c.hear_side.result
    (omega (arith, place.0, place.1)) (ap (λ (g : Gathering). g.sides) c.self.view_is) app c.as_mut_slice.ensures.value
    (ap (λ (g : Gathering). g.gained) c.self.view_is)
    (heard_as c.in-Some.place c.args.bytes.now c.as_mut_slice.result.now c.hear_side.new.sides _ c.hear_side.result
    (sym all) c.hear_side.ensures.heard)

pub returns-clause-unlike : goal.returns-clause-unlike
returns-clause-unlike c =
    let place = c.in-Some.ensures in
    let app : is_app_in (slice_get c.self.inside.sides.items c.in-Some.place) ≡ true =
    ap (λ (l : List Side). is_app_in (slice_get l c.in-Some.place)) (sym c.deref.ensures.value)
    ∙ sym c.is_app_at.ensures ∙ c.if-not-is_app_at.false in
    unlike_all c.args.number c.in-Some.place c.args.bytes.now c.args.self.now c.self.inside.sides.items
    c.as_mut_slice.result.now
    c.hear_side.result (omega (arith, place.0, place.1)) (ap (λ (g : Gathering). g.sides) c.self.view_is) app
    c.as_mut_slice.ensures.value c.hear_side.ensures.unheard
