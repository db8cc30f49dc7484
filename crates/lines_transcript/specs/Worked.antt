-- Worked steps and events, whose lines the definitions compute.
use Rattle.std.specs.Prelude.{◌≡◌, ℕ, List, [], ◌∷◌, ◌++◌, codes, pos, negsuc}
use Rattle.session_text.specs.declared.line.Form.TheVariants.{Session}
use Rattle.session_text.specs.declared.line.Line.TheVariants as lines
use Rattle.wl_proto.specs.declared.interface.Interface.TheVariants.{Seat}
use Rattle.relay_model.specs.declared.fault.Fault.TheVariants.{Size}
use Rattle.relay_model.specs.declared.role.Role.TheVariants.{App}
use Rattle.relay_model.specs.declared.said.Said.{Said}
use Rattle.relay_model.specs.declared.said.Said.TheVariants as said
use Rattle.broker_steps.specs.declared.step.Step.{Step}
use Rattle.broker_steps.specs.declared.step.Step.TheVariants as steps
use Rattle.broker_steps.specs.declared.step.PeerStep.TheVariants as peers
use Rattle.broker_steps.specs.declared.step.ShellStep.TheVariants as shells
use Rattle.session_text.specs.Steps.{step_line}
use Rattle.session_text.specs.Grammar.{spelling}
use Rattle.lines_transcript.specs.Told.{told_line}

abbrev pub IsPrintedAs : Step → List ℕ → Type 0
IsPrintedAs step text = spelling Session (lines.Session (step_line step)) ≡ text

-- steps of the worked session, and their lines
pub record WorkedSteps : Type 0 where
  pub commit_string :
      IsPrintedAs (steps.Peer 2 (peers.Message 5 0 (2 ∷ 0 ∷ 0 ∷ 0 ∷ 97 ∷ 0 ∷ 0 ∷ 0 ∷ [])))
      (codes "bytes 2 05000000000010000200000061000000")
  pub commit : IsPrintedAs (steps.Peer 1 (peers.Message 7 7 [])) (codes "bytes 1 0700000007000800")
  pub bad_size :
      IsPrintedAs (steps.Peer 1 (peers.BadSize (1 ∷ 0 ∷ 0 ∷ 0 ∷ 0 ∷ 0 ∷ 6 ∷ 0 ∷ [])))
      (codes "bytes 1 0100000000000600")
  pub join : IsPrintedAs (steps.Join App) (codes "join app")
  pub tokens : IsPrintedAs (steps.Peer 1 (peers.Tokens (7 ∷ 8 ∷ []))) (codes "tokens 1 7 8")
  pub at : IsPrintedAs (steps.Shell (shells.At 20)) (codes "at 20")

-- what the act 6 tells of the object 3 is printed with this after the two numbers
abbrev pub IsToldAs : Said → List ℕ → Type 0
IsToldAs event text = told_line 6 (record { to = 3; event = event }) ≡ codes "6 3 " ++ text

-- each event, and its line
pub record WorkedEvents : Type 0 where
  pub enter : IsToldAs (said.Enter 2) (codes "enter 2")
  pub leave : IsToldAs (said.Leave 2) (codes "leave 2")
  pub preedit : IsToldAs (said.Preedit [] (negsuc 0) (pos 1)) (codes "preedit_string - -1 1")
  pub commit_string : IsToldAs (said.CommitString (codes "a")) (codes "commit_string 61")
  pub delete : IsToldAs (said.Delete 2 1) (codes "delete_surrounding_text 2 1")
  pub field_done : IsToldAs (said.FieldDone 1) (codes "done 1")
  pub activate : IsToldAs said.Activate (codes "activate")
  pub deactivate : IsToldAs said.Deactivate (codes "deactivate")
  pub surrounding : IsToldAs (said.Surrounding (195 ∷ 169 ∷ []) 2 0)
      (codes "surrounding_text c3a9 2 0")
  pub change_cause : IsToldAs (said.ChangeCause 0) (codes "text_change_cause 0")
  pub content_type : IsToldAs (said.ContentType 7 9) (codes "content_type 7 9")
  pub method_done : IsToldAs said.MethodDone (codes "done")
  pub unavailable : IsToldAs said.Unavailable (codes "unavailable")
  pub popup : IsToldAs (said.PopupRect (negsuc 14) (pos 10) (pos 2) (pos 20))
      (codes "text_input_rectangle -15 10 2 20")
  pub keymap : IsToldAs (said.Keymap (record { format = 1; token = 9; size = 4096 }))
      (codes "keymap 1 9 4096")
  pub key : IsToldAs (said.Key 6 7 31 1) (codes "key 6 7 31 1")
  pub modifiers : IsToldAs (said.Mods 8
      (record { depressed = 1; latched = 2; locked = 3; group = 4 })) (codes "modifiers 8 1 2 3 4")
  pub repeat : IsToldAs (said.Repeat (record { rate = pos 25; delay = pos 600 }))
      (codes "repeat_info 25 600")
  pub global : IsToldAs (said.Global 2 Seat 1) (codes "global 2 wl_seat 1")
  pub callback_done : IsToldAs (said.CallbackDone 0) (codes "done 0")
  pub delete_id : IsToldAs (said.DeleteId 3) (codes "delete_id 3")
  pub capabilities : IsToldAs (said.Capabilities 2) (codes "capabilities 2")
  pub error : IsToldAs (said.Error 7 Size) (codes "error 7 1 6261642073697a65")
  pub pass : IsToldAs (said.Pass 5 30 1) (codes "pass 5 30 1")
  pub vmods : IsToldAs (said.VMods (record { depressed = 1; latched = 2; locked = 3; group = 4 }))
      (codes "vmods 1 2 3 4")
  pub placed : IsToldAs (said.Placed 14 (negsuc 4294967295) (pos 0))
      (codes "placed 14 -4294967296 0")
