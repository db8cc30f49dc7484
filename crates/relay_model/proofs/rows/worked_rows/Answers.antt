use Rattle.std.proofs.Common.{refl}
use Rattle.relay_model.proofs.rows.worked_rows.Goals as goal

pub returns-clause-ordinary_path : goal.returns-clause-ordinary_path
returns-clause-ordinary_path c = refl

pub returns-clause-serial_before_any_done : goal.returns-clause-serial_before_any_done
returns-clause-serial_before_any_done c = refl

pub returns-clause-earlier_done : goal.returns-clause-earlier_done
returns-clause-earlier_done c = refl

pub returns-clause-new_activation : goal.returns-clause-new_activation
returns-clause-new_activation c = refl

pub returns-clause-reset_at_activation : goal.returns-clause-reset_at_activation
returns-clause-reset_at_activation c = refl

pub returns-clause-empty_batch : goal.returns-clause-empty_batch
returns-clause-empty_batch c = refl

pub returns-clause-commits_before_the_focus : goal.returns-clause-commits_before_the_focus
returns-clause-commits_before_the_focus c = refl

pub returns-clause-second_field : goal.returns-clause-second_field
returns-clause-second_field c = refl

pub returns-clause-late_method : goal.returns-clause-late_method
returns-clause-late_method c = refl

pub returns-clause-cursor_inside_a_character : goal.returns-clause-cursor_inside_a_character
returns-clause-cursor_inside_a_character c = refl

pub returns-clause-dropped_surface : goal.returns-clause-dropped_surface
returns-clause-dropped_surface c = refl

pub returns-clause-focus_again : goal.returns-clause-focus_again
returns-clause-focus_again c = refl

pub returns-clause-cause_of_one_commit : goal.returns-clause-cause_of_one_commit
returns-clause-cause_of_one_commit c = refl

pub returns-clause-set_before_enable : goal.returns-clause-set_before_enable
returns-clause-set_before_enable c = refl

pub returns-clause-whole_batch : goal.returns-clause-whole_batch
returns-clause-whole_batch c = refl

pub returns-clause-routing : goal.returns-clause-routing
returns-clause-routing c = refl

pub returns-clause-released_after_the_grab : goal.returns-clause-released_after_the_grab
returns-clause-released_after_the_grab c = refl

pub returns-clause-grabs_in_turn : goal.returns-clause-grabs_in_turn
returns-clause-grabs_in_turn c = refl

pub returns-clause-placement : goal.returns-clause-placement
returns-clause-placement c = refl

pub returns-clause-two_popups : goal.returns-clause-two_popups
returns-clause-two_popups c = refl

pub returns-clause-popup_without_surface : goal.returns-clause-popup_without_surface
returns-clause-popup_without_surface c = refl

pub returns-clause-rectangle_reset : goal.returns-clause-rectangle_reset
returns-clause-rectangle_reset c = refl

pub returns-clause-popup_beside_popup : goal.returns-clause-popup_beside_popup
returns-clause-popup_beside_popup c = refl

pub returns-clause-too_many_keys : goal.returns-clause-too_many_keys
returns-clause-too_many_keys c = refl
