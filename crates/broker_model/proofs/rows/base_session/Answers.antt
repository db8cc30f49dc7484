use Rattle.std.proofs.Common.{refl}
use Rattle.std.specs.Str.{is_utf8, chars}
use lib.Utf8.{encode}
use Rattle.wl_wire.specs.Reading.{word_at, int_at, text_at as text_behind, string_behind, string_at}
use Rattle.wl_wire.specs.Spelling.{text_bytes}
use Rattle.wl_proto.specs.Reading.{text_at, request_reading}
use Rattle.wl_proto.specs.Spelling.{row_bytes}
use Rattle.broker_model.proofs.rows.base_session.Goals as goal

pub returns-clause-base_acts : goal.returns-clause-base_acts
unfolding request_reading word_at int_at text_at text_behind string_behind string_at is_utf8 chars encode row_bytes
    text_bytes
returns-clause-base_acts c = refl

pub returns-clause-batch_is_queued : goal.returns-clause-batch_is_queued
unfolding request_reading word_at int_at text_at text_behind string_behind string_at is_utf8 chars encode row_bytes
    text_bytes
returns-clause-batch_is_queued c = refl

pub returns-clause-batch_is_told : goal.returns-clause-batch_is_told
unfolding request_reading word_at int_at text_at text_behind string_behind string_at is_utf8 chars encode row_bytes
    text_bytes
returns-clause-batch_is_told c = refl

pub returns-clause-nobody_ends : goal.returns-clause-nobody_ends
unfolding request_reading word_at int_at text_at text_behind string_behind string_at is_utf8 chars encode row_bytes
    text_bytes
returns-clause-nobody_ends c = refl

pub returns-clause-all_is_out : goal.returns-clause-all_is_out
unfolding request_reading word_at int_at text_at text_behind string_behind string_at is_utf8 chars encode row_bytes
    text_bytes
returns-clause-all_is_out c = refl

pub returns-clause-method_is_told : goal.returns-clause-method_is_told
unfolding request_reading word_at int_at text_at text_behind string_behind string_at is_utf8 chars encode row_bytes
    text_bytes
returns-clause-method_is_told c = refl

pub returns-clause-last_byte_fits : goal.returns-clause-last_byte_fits
unfolding request_reading word_at int_at text_at text_behind string_behind string_at is_utf8 chars encode row_bytes
    text_bytes
returns-clause-last_byte_fits c = refl

pub returns-clause-one_byte_too_many : goal.returns-clause-one_byte_too_many
unfolding request_reading word_at int_at text_at text_behind string_behind string_at is_utf8 chars encode row_bytes
    text_bytes
returns-clause-one_byte_too_many c = refl

pub returns-clause-taken_makes_room : goal.returns-clause-taken_makes_room
unfolding request_reading word_at int_at text_at text_behind string_behind string_at is_utf8 chars encode row_bytes
    text_bytes
returns-clause-taken_makes_room c = refl

pub returns-clause-ends_follow : goal.returns-clause-ends_follow
unfolding request_reading word_at int_at text_at text_behind string_behind string_at is_utf8 chars encode row_bytes
    text_bytes
returns-clause-ends_follow c = refl

pub returns-clause-batch_is_left_out : goal.returns-clause-batch_is_left_out
unfolding request_reading word_at int_at text_at text_behind string_behind string_at is_utf8 chars encode row_bytes
    text_bytes
returns-clause-batch_is_left_out c = (refl, refl, refl)

pub returns-clause-token_is_placed : goal.returns-clause-token_is_placed
unfolding request_reading word_at int_at text_at text_behind string_behind string_at is_utf8 chars encode row_bytes
    text_bytes
returns-clause-token_is_placed c = refl

pub returns-clause-surface_has_a_role : goal.returns-clause-surface_has_a_role
unfolding request_reading word_at int_at text_at text_behind string_behind string_at is_utf8 chars encode row_bytes
    text_bytes
returns-clause-surface_has_a_role c = refl
