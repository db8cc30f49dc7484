-- The steps that the frames of a peer's link give
use Rattle.std.specs.Prelude.{◌≡◌, ℕ, List, [], ◌∷◌, ◌++◌, map, Option, Some, None}
use Rattle.desc_frame.specs.Frames.{Frame, IsFrame, spelling}
use Rattle.wl_wire.specs.Messages.{joined, bad_size_at, behind}
use Rattle.broker_model.specs.declared.journal.Entry.{Entry}
use Rattle.broker_model.specs.declared.journal.Entry.TheVariants as entries
use Rattle.broker_cutter.specs.Steps.{steps_in}

-- the tokens of a frame, where it has any
abbrev pub token_steps : ℕ → List ℕ → List Entry
token_steps q [] = []
token_steps q (token ∷ tokens) = entries.Tokens q (token ∷ tokens) ∷ []

-- the steps of these bytes; none, where a bad size stood before
abbrev pub steps_unless_bad : ℕ → Option ℕ → List ℕ → List Entry
steps_unless_bad q None bytes = steps_in q bytes
steps_unless_bad q (Some size) bytes = []

-- the messages, and the bad size, that the bytes of a frame complete, behind those that wait for
-- more
abbrev pub byte_steps : ℕ → (waiting bytes : List ℕ) → List Entry
byte_steps q waiting bytes = steps_unless_bad q (bad_size_at waiting) (waiting ++ bytes)

abbrev pub frame_steps : ℕ → (waiting : List ℕ) → Frame → List Entry
frame_steps q waiting f = token_steps q f.tokens ++ byte_steps q waiting f.bytes

-- the steps of frames, behind bytes that wait for more
abbrev pub steps_behind : ℕ → (waiting : List ℕ) → List Frame → List Entry
steps_behind q waiting [] = []
steps_behind q waiting (f ∷ fs) =
    frame_steps q waiting f ++ steps_behind q (behind (waiting ++ f.bytes)) fs

-- for each frame its tokens, where it has any, and then the messages, and the bad size, that its
-- bytes complete
abbrev pub link_steps : ℕ → List Frame → List Entry
link_steps q frames = steps_behind q [] frames

-- each is a frame
abbrev pub AreFrames : List Frame → Type 0
AreFrames [] = Unit {0}
AreFrames (f ∷ fs) = IsFrame f × AreFrames fs

-- their spellings, one behind the other
abbrev pub spelled : List Frame → List ℕ
spelled frames = joined (map spelling frames)

-- the bytes are these frames, and the rest
pub record HoldFrames (bytes : List ℕ) (frames : List Frame) (rest : List ℕ) : Type 0 where
  pub each : AreFrames frames
  pub is : bytes ≡ spelled frames ++ rest
