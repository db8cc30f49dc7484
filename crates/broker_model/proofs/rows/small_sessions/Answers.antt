use Rattle.std.proofs.Common.{refl}
use Rattle.std.specs.Str.{is_utf8, chars}
use lib.Utf8.{encode}
use Rattle.wl_wire.specs.Reading.{word_at, int_at, text_at as text_behind, string_behind, string_at}
use Rattle.wl_wire.specs.Spelling.{text_bytes}
use Rattle.wl_proto.specs.Reading.{text_at, request_reading}
use Rattle.wl_proto.specs.Spelling.{row_bytes}
use Rattle.broker_model.proofs.rows.small_sessions.Goals as goal

pub returns-clause-registry_is_made : goal.returns-clause-registry_is_made
unfolding request_reading word_at int_at text_at text_behind string_behind string_at is_utf8 chars encode row_bytes
    text_bytes
returns-clause-registry_is_made c = refl

pub returns-clause-globals_are_told : goal.returns-clause-globals_are_told
unfolding request_reading word_at int_at text_at text_behind string_behind string_at is_utf8 chars encode row_bytes
    text_bytes
returns-clause-globals_are_told c = refl

pub returns-clause-nothing_named : goal.returns-clause-nothing_named
unfolding request_reading word_at int_at text_at text_behind string_behind string_at is_utf8 chars encode row_bytes
    text_bytes
returns-clause-nothing_named c = refl

pub returns-clause-size_is_bad : goal.returns-clause-size_is_bad
unfolding request_reading word_at int_at text_at text_behind string_behind string_at is_utf8 chars encode row_bytes
    text_bytes
returns-clause-size_is_bad c = refl

pub returns-clause-id_is_taken : goal.returns-clause-id_is_taken
unfolding request_reading word_at int_at text_at text_behind string_behind string_at is_utf8 chars encode row_bytes
    text_bytes
returns-clause-id_is_taken c = refl

pub returns-clause-id_is_used_again : goal.returns-clause-id_is_used_again
unfolding request_reading word_at int_at text_at text_behind string_behind string_at is_utf8 chars encode row_bytes
    text_bytes
returns-clause-id_is_used_again c = refl

pub returns-clause-pointer_is_missing : goal.returns-clause-pointer_is_missing
unfolding request_reading word_at int_at text_at text_behind string_behind string_at is_utf8 chars encode row_bytes
    text_bytes
returns-clause-pointer_is_missing c = refl

pub returns-clause-seat_is_wrong : goal.returns-clause-seat_is_wrong
unfolding request_reading word_at int_at text_at text_behind string_behind string_at is_utf8 chars encode row_bytes
    text_bytes
returns-clause-seat_is_wrong c = refl

pub returns-clause-opcode_is_unknown : goal.returns-clause-opcode_is_unknown
unfolding request_reading word_at int_at text_at text_behind string_behind string_at is_utf8 chars encode row_bytes
    text_bytes
returns-clause-opcode_is_unknown c = refl

pub returns-clause-body_is_malformed : goal.returns-clause-body_is_malformed
unfolding request_reading word_at int_at text_at text_behind string_behind string_at is_utf8 chars encode row_bytes
    text_bytes
returns-clause-body_is_malformed c = refl

pub returns-clause-id_is_the_servers : goal.returns-clause-id_is_the_servers
unfolding request_reading word_at int_at text_at text_behind string_behind string_at is_utf8 chars encode row_bytes
    text_bytes
returns-clause-id_is_the_servers c = refl

pub returns-clause-global_is_not_offered : goal.returns-clause-global_is_not_offered
unfolding request_reading word_at int_at text_at text_behind string_behind string_at is_utf8 chars encode row_bytes
    text_bytes
returns-clause-global_is_not_offered c = refl

pub returns-clause-sync_is_answered : goal.returns-clause-sync_is_answered
unfolding request_reading word_at int_at text_at text_behind string_behind string_at is_utf8 chars encode row_bytes
    text_bytes
returns-clause-sync_is_answered c = refl

pub returns-clause-store_is_full : goal.returns-clause-store_is_full
unfolding request_reading word_at int_at text_at text_behind string_behind string_at is_utf8 chars encode row_bytes
    text_bytes
returns-clause-store_is_full c = refl

pub returns-clause-refused_ends : goal.returns-clause-refused_ends
unfolding request_reading word_at int_at text_at text_behind string_behind string_at is_utf8 chars encode row_bytes
    text_bytes
returns-clause-refused_ends c = refl
