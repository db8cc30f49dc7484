-- Worked lines, which the definitions compute.
use Rattle.std.specs.Prelude.{◌≡◌, ℕ, List, [], ◌∷◌, codes, pos, negsuc, Some, None}
use Rattle.session_text.specs.declared.line.Form.{Form}
use Rattle.session_text.specs.declared.line.Form.TheVariants.{Session, Session2, Shell}
use Rattle.session_text.specs.declared.line.Line.{Line}
use Rattle.session_text.specs.declared.line.Line.TheVariants as lines
use Rattle.session_text.specs.declared.line.SessionLine.TheVariants as sessions
use Rattle.relay_model.specs.declared.role.Role.TheVariants.{App, Method, Keyed}
use Rattle.broker_steps.specs.declared.step.ShellStep.TheVariants as shells
use Rattle.session_text.specs.Words.{rect}
use Rattle.session_text.specs.Reading.{line_of}
pub use Rattle.broker_steps.specs.StampRows.{stamp}

abbrev pub Says : Form → List ℕ → Line → Type 0
Says form text line = line_of form text ≡ Some line

abbrev pub IsNoLine : Form → List ℕ → Type 0
IsNoLine form text = line_of form text ≡ None

-- lines of the worked session, and what they say
pub record WorkedLines : Type 0 where
  pub header :
      Says Session (codes "session 1 1000000 65536")
      (lines.Header (record { entries = 1000000; store = 65536; weight = 134217728 }))
  pub join : Says Session (codes "join method") (lines.Session (sessions.Join Method))
  pub keyed : Says Session (codes "join keyed") (lines.Session (sessions.Join Keyed))
  pub enable :
      Says Session (codes "bytes 1 0700000001000800")
      (lines.Session (sessions.Bytes 1 (7 ∷ 0 ∷ 0 ∷ 0 ∷ 1 ∷ 0 ∷ 8 ∷ 0 ∷ [])))
  pub gone : Says Session (codes "gone 2") (lines.Session (sessions.Gone 2))
  pub take : Says Session (codes "take 2 4096") (lines.Session (sessions.Take 2 4096))
  pub focus : Says Session (codes "focus 1 6") (lines.Session (sessions.Shell (shells.Focus 1 6)))
  pub area :
      Says Shell (codes "area 1 6 -2 200 30 0")
      (lines.Shell (shells.Area 1 6 (rect (negsuc 1) (pos 200) (pos 30) (pos 0))))
  pub moment_of_a_link : Says Shell (codes "at 18446744073709551615")
      (lines.Shell (shells.At 18446744073709551615))

-- lines of a session of form 2, and what they say
pub record WorkedStamps : Type 0 where
  pub header :
      Says Session2 (codes "session 2 4000000 65536 536870912")
      (lines.Header (record { entries = 4000000; store = 65536; weight = 536870912 }))
  pub join : Says Session2 (codes "5 0 join app") (lines.Stamped (stamp 5 0) (sessions.Join App))
  pub tokens : Says Session2 (codes "0 3 tokens 1 7 8")
      (lines.Stamped (stamp 0 3) (sessions.Tokens 1 (7 ∷ 8 ∷ [])))
  pub at :
      Says Session2 (codes "18446744073709551615 0 at 20")
      (lines.Stamped (stamp 18446744073709551615 0) (sessions.Shell (shells.At 20)))
  pub end : Says Session2 (codes "end") lines.End

-- lines that are none
pub record OtherLines : Type 0 where
  pub wide_store : IsNoLine Session (codes "session 1 1000000 1048577")
  pub no_bytes : IsNoLine Session (codes "bytes 1 -")
  pub take_of_nothing : IsNoLine Session (codes "take 2 0")
  pub end_of_a_link : IsNoLine Shell (codes "end")
  pub stamp_in_form_1 : IsNoLine Session (codes "0 0 join app")
  pub moment_in_form_1 : IsNoLine Session (codes "at 20")
  pub tokens_in_form_1 : IsNoLine Session (codes "tokens 1 7")
  pub header_2_in_form_1 : IsNoLine Session (codes "session 2 8 100 1000")
  pub bare_in_form_2 : IsNoLine Session2 (codes "join app")
  pub stamped_end : IsNoLine Session2 (codes "0 0 end")
  pub no_token : IsNoLine Session2 (codes "0 0 tokens 1")
  pub no_weight : IsNoLine Session2 (codes "session 2 8 100 0")
  pub wide_moment : IsNoLine Session2 (codes "18446744073709551616 0 join app")
