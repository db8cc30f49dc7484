use Rattle.std.proofs.Common.{rules, ◌≡◌, ◌∙◌, ap, sym, ◌+ℤ◌, ◌-ℤ◌, FitsSigned, w64}
use Rattle.std.specs.Int.{w32}
use Rattle.popup_place.specs.Popup.{x_of, y_of, left, top, under, above}
use Rattle.popup_place.proofs.SumsFit.{made, made_is, wide, sum_is, seen_left_fits, seen_top_fits, three_sum_is, three_difference_is}
use Rattle.popup_place.proofs.PlacedByRule.{kept_is, seen_is, y_of_sums, placed_same, within_same, fitting_same}
use Rattle.popup_place.proofs.popup.place.Goals as goal

pub overflow_sub-left : goal.overflow_sub-left
overflow_sub-left c =
    seen_left_fits c.args.origin.0 c.args.rect.x c.left_edge-x.result (search rules) (search rules) (search rules)
    c.left_edge-x.ensures.from_zero c.left_edge-x.ensures.at_most

pub overflow_sub-top-2 : goal.overflow_sub-top-2
overflow_sub-top-2 c =
    seen_top_fits c.args.origin.1 c.args.rect.y c.args.rect.height c.args.size.height c.upper_edge-y.result
    (search rules) (search rules) (search rules) (search rules) (search rules) c.upper_edge-y.ensures.one_of_both

pub returns-clause-rule : goal.returns-clause-rule
returns-clause-rule c =
    let origin_x : FitsSigned w32 c.args.origin.0 = search rules in
    let origin_y : FitsSigned w32 c.args.origin.1 = search rules in
    let rect_x : FitsSigned w32 c.args.rect.x = search rules in
    let rect_y : FitsSigned w32 c.args.rect.y = search rules in
    let rect_width : FitsSigned w32 c.args.rect.width = search rules in
    let rect_height : FitsSigned w32 c.args.rect.height = search rules in
    let popup_height : FitsSigned w32 c.args.size.height = search rules in
    let x_fits : FitsSigned w64 c.left_edge-x.result = search rules in
    let y_fits : FitsSigned w64 c.upper_edge-y.result = search rules in
    let left_is : made (wide c.args.origin.0 +ℤ wide c.args.rect.x) ≡ left c.args.origin c.args.rect =
    sum_is c.args.origin.0 c.args.rect.x origin_x rect_x in
    let top_is : made (wide c.args.origin.1 +ℤ wide c.args.rect.y) ≡ top c.args.origin c.args.rect =
    sum_is c.args.origin.1 c.args.rect.y origin_y rect_y in
    let x_is : c.left_edge-x.result ≡ x_of c.args.screen c.args.size (left c.args.origin c.args.rect) =
    c.left_edge-x.ensures.rule ∙ ap (x_of c.args.screen c.args.size) left_is in
    let y_is : c.upper_edge-y.result
    ≡ y_of c.args.screen c.args.size (under c.args.origin c.args.rect)
    (above c.args.origin c.args.rect c.args.size) =
    y_of_sums c.args.screen c.args.size c.args.origin.1 c.args.rect.y c.args.rect.height c.args.size.height
    c.upper_edge-y.result
    origin_y rect_y rect_height popup_height c.upper_edge-y.ensures.rule in
    placed_same _ _ _ _ _ _ _ _ _ _ _ _
    (made_is c.left_edge-x.result x_fits ∙ x_is)
    (made_is c.upper_edge-y.result y_fits ∙ y_is)
    (seen_is _ _ _ _ c.cut.result left_is x_fits x_is
    (seen_left_fits c.args.origin.0 c.args.rect.x c.left_edge-x.result origin_x rect_x x_fits
    c.left_edge-x.ensures.from_zero c.left_edge-x.ensures.at_most)
    (search rules) c.cut.ensures)
    (seen_is _ _ _ _ c.cut-2.result top_is y_fits y_is
    (seen_top_fits c.args.origin.1 c.args.rect.y c.args.rect.height c.args.size.height c.upper_edge-y.result
    origin_y rect_y rect_height popup_height y_fits c.upper_edge-y.ensures.one_of_both)
    (search rules) c.cut-2.ensures)
    (kept_is c.args.rect.width rect_width)
    (kept_is c.args.rect.height rect_height)

pub returns-clause-inside_sideways : goal.returns-clause-inside_sideways
returns-clause-inside_sideways c narrow =
    within_same _ _ c.args.size.width c.args.screen.width (made_is c.left_edge-x.result (search rules))
    (c.left_edge-x.ensures.inside narrow)

pub returns-clause-inside_in_height : goal.returns-clause-inside_in_height
returns-clause-inside_in_height c fitting =
    let origin_y : FitsSigned w32 c.args.origin.1 = search rules in
    let rect_y : FitsSigned w32 c.args.rect.y = search rules in
    let under_is : made (made (wide c.args.origin.1 +ℤ wide c.args.rect.y) +ℤ wide c.args.rect.height)
    ≡ under c.args.origin c.args.rect =
    three_sum_is c.args.origin.1 c.args.rect.y c.args.rect.height origin_y rect_y (search rules) in
    let above_is : made (made (wide c.args.origin.1 +ℤ wide c.args.rect.y) -ℤ wide c.args.size.height)
    ≡ above c.args.origin c.args.rect c.args.size =
    three_difference_is c.args.origin.1 c.args.rect.y c.args.size.height origin_y rect_y (search rules) in
    within_same _ _ c.args.size.height c.args.screen.height (made_is c.upper_edge-y.result (search rules))
    (c.upper_edge-y.ensures.inside
    (fitting_same c.args.screen c.args.size _ _ _ _ (sym under_is) (sym above_is) fitting))
