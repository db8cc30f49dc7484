use Rattle.std.proofs.Common.{refl}
use Rattle.std.specs.Str.{is_utf8, chars}
use lib.Utf8.{encode}
use Rattle.wl_wire.specs.Reading.{word_at, int_at, text_at as text_behind, string_behind, string_at}
use Rattle.wl_wire.specs.Spelling.{text_bytes}
use Rattle.wl_proto.specs.Reading.{text_at, request_reading}
use Rattle.wl_proto.specs.Spelling.{row_bytes}
use Rattle.broker_model.proofs.rows.tokens_and_stamps.Goals as goal

pub returns-clause-tokens_wait : goal.returns-clause-tokens_wait
returns-clause-tokens_wait c = (refl, refl)

pub returns-clause-tokens_weigh : goal.returns-clause-tokens_weigh
returns-clause-tokens_weigh c = (refl, refl)

pub returns-clause-last_token_is_dropped : goal.returns-clause-last_token_is_dropped
returns-clause-last_token_is_dropped c = refl

pub returns-clause-first_is_taken : goal.returns-clause-first_is_taken
returns-clause-first_is_taken c = (refl, refl, refl)

pub returns-clause-moments_are_said : goal.returns-clause-moments_are_said
returns-clause-moments_are_said c = refl

pub returns-clause-ends_have_no_author : goal.returns-clause-ends_have_no_author
unfolding request_reading word_at int_at text_at text_behind string_behind string_at is_utf8 chars encode row_bytes
    text_bytes
returns-clause-ends_have_no_author c = refl
