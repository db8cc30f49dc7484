use Rattle.std.proofs.Common.{refl}
use Rattle.std.specs.Str.{is_utf8, chars}
use lib.Utf8.{encode}
use Rattle.wl_wire.specs.Reading.{word_at, int_at, text_at as text_behind, string_behind, string_at}
use Rattle.wl_wire.specs.Spelling.{text_bytes}
use Rattle.wl_proto.specs.Reading.{text_at, request_reading}
use Rattle.wl_proto.specs.Spelling.{row_bytes}
use Rattle.broker_model.proofs.rows.board_sessions.Goals as goal

pub returns-clause-board_is_made : goal.returns-clause-board_is_made
unfolding request_reading word_at int_at text_at text_behind string_behind string_at is_utf8 chars encode row_bytes
    text_bytes
returns-clause-board_is_made c = refl

pub returns-clause-manager_is_not_offered : goal.returns-clause-manager_is_not_offered
unfolding request_reading word_at int_at text_at text_behind string_behind string_at is_utf8 chars encode row_bytes
    text_bytes
returns-clause-manager_is_not_offered c = refl

pub returns-clause-keymap_takes_token : goal.returns-clause-keymap_takes_token
unfolding request_reading word_at int_at text_at text_behind string_behind string_at is_utf8 chars encode row_bytes
    text_bytes
returns-clause-keymap_takes_token c = (refl, refl)

pub returns-clause-keymap_lacks_token : goal.returns-clause-keymap_lacks_token
unfolding request_reading word_at int_at text_at text_behind string_behind string_at is_utf8 chars encode row_bytes
    text_bytes
returns-clause-keymap_lacks_token c = refl

pub returns-clause-board_speaks : goal.returns-clause-board_speaks
unfolding request_reading word_at int_at text_at text_behind string_behind string_at is_utf8 chars encode row_bytes
    text_bytes
returns-clause-board_speaks c = (refl, refl)

pub returns-clause-keymap_is_missing : goal.returns-clause-keymap_is_missing
unfolding request_reading word_at int_at text_at text_behind string_behind string_at is_utf8 chars encode row_bytes
    text_bytes
returns-clause-keymap_is_missing c = (refl, refl)

pub returns-clause-state_is_bad : goal.returns-clause-state_is_bad
unfolding request_reading word_at int_at text_at text_behind string_behind string_at is_utf8 chars encode row_bytes
    text_bytes
returns-clause-state_is_bad c = refl

pub returns-clause-board_is_dropped : goal.returns-clause-board_is_dropped
unfolding request_reading word_at int_at text_at text_behind string_behind string_at is_utf8 chars encode row_bytes
    text_bytes
returns-clause-board_is_dropped c = refl
