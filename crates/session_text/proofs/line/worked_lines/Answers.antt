use Rattle.std.proofs.Common.{refl}
use Rattle.std.specs.Fmt.{digits}
use Rattle.hex.specs.Hex.{encode_with, decode_pairs}
use Rattle.session_text.specs.Words.{number_of, numbers_of, long_number_of, signed_of, size_of, count_of, role_of, bytes_of}
use Rattle.session_text.specs.SessionReading.{one_shell_word, three_shell_words, four_shell_words, five_shell_words, seven_shell_words, one_session_word, two_session_words, three_session_words, four_session_words, header_of}
use Rattle.session_text.specs.StampedReading.{link_of, tokens_of, behind_stamp, long_header_of, session_2_of}
use Rattle.session_text.specs.Reading.{line_of}
use Rattle.session_text.proofs.line.worked_lines.Goals as goal

pub returns-clause-lines : goal.returns-clause-lines
unfolding digits encode_with decode_pairs line_of number_of long_number_of signed_of size_of count_of role_of bytes_of
    link_of one_shell_word three_shell_words seven_shell_words one_session_word two_session_words three_session_words
    four_session_words header_of
returns-clause-lines c =
    record {
      header = refl;
      join = refl;
      keyed = refl;
      enable = refl;
      gone = refl;
      take = refl;
      focus = refl;
      area = refl;
      moment_of_a_link = refl;
    }

pub returns-clause-stamps : goal.returns-clause-stamps
unfolding digits line_of number_of numbers_of long_number_of count_of role_of two_session_words tokens_of behind_stamp
    long_header_of session_2_of
returns-clause-stamps c = record { header = refl; join = refl; tokens = refl; at = refl; end = refl }

pub returns-clause-others : goal.returns-clause-others
unfolding digits line_of number_of numbers_of long_number_of count_of bytes_of role_of one_shell_word three_shell_words
    four_shell_words five_shell_words one_session_word two_session_words three_session_words four_session_words
    header_of link_of tokens_of behind_stamp long_header_of session_2_of
returns-clause-others c =
    record {
      wide_store = refl;
      no_bytes = refl;
      take_of_nothing = refl;
      end_of_a_link = refl;
      stamp_in_form_1 = refl;
      moment_in_form_1 = refl;
      tokens_in_form_1 = refl;
      header_2_in_form_1 = refl;
      bare_in_form_2 = refl;
      stamped_end =
          refl;
      no_token = refl;
      no_weight = refl;
      wide_moment = refl;
    }
