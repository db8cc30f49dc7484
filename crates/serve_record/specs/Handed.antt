-- The entries that a hub handed out, and their text
use Rattle.std.specs.Prelude.{◌≡◌, ◌≤◌, ℕ, List, [], ◌∷◌, ◌++◌, length, Option, Some, None, IfSome, Result, OnOk, OnErr}
use Rattle.broker_steps.specs.declared.limits.Limits.{Limits}
use Rattle.session_text.specs.declared.line.Line.TheVariants.{Header}
use Rattle.broker_core.specs.declared.letting_go.LetGo.{LetGo}
use Rattle.turn_lock.specs.Pairs.{HasSeen}
use Rattle.hub_lock.specs.Seats.{having_seen}
use Rattle.hub_lock.specs.Histories.{broker_of}
use Rattle.hub_lock.specs.Passes.{PassSeat, Recorder}
use Rattle.hub_lock.specs.Recording.{with_next}
use Rattle.hub_lock.specs.Steps.{FitsLine}
use Rattle.serve_record.specs.Recorded.{text_line}
use Rattle.serve_record.specs.declared.record.RecordStop.{RecordStop}
use Rattle.serve_record.specs.Lines.{lines_text, Holds, GainsFront}

-- the lines of the entries, of which the newest stands first
abbrev pub handed_lines : List LetGo → List ℕ
handed_lines [] = []
handed_lines (it ∷ older) = handed_lines older ++ lines_text (Some it.entry) (Some it.stamp)

-- the header before them
abbrev pub handed_text : Limits → List LetGo → List ℕ
handed_text limits handed = text_line (Header limits) ++ handed_lines handed

-- Whatever the output held before: where it has gained the text of what had been handed out, but for
-- what waits, it has then gained that of what is handed out; or a front of it, where it was cut.
abbrev pub WritesHanded : {T : Type 0} → Limits → (held held_after : Option (List ℕ)) →
    (waits waits_after : List ℕ) → (handed handed_after : List LetGo) → Result T RecordStop →
    Type 0
WritesHanded limits held held_after waits waits_after handed handed_after r =
    (first : Option (List ℕ)) → Holds first held waits (handed_text limits handed)
    → OnOk r (Holds first held_after waits_after (handed_text limits handed_after))
    × OnErr r (GainsFront first held_after (handed_text limits handed_after))

-- the pass has seen more, and made no step
pub record MadeNoStep (s s' : PassSeat) : Type 0 where
  pub seat : s' ≡ having_seen s s'.seen
  pub seen : HasSeen s'.seen s.number s.seen

-- one more entry was handed out to the pass, which has a line; or none, where all were
pub record HandsOut (limits : Limits) (p p' : Recorder) (r : Option LetGo) : Type 0 where
  pub handed : p'.handed ≡ with_next r p.handed
  pub fits : IfSome r (λ it. FitsLine it.entry)
  pub all : r ≡ None → length (broker_of limits p'.seat.seen).journal ≤ length p'.handed
