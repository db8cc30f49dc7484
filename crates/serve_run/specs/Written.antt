-- What a run has written of its recorded session
use Rattle.std.specs.Prelude.{◌≡◌, ◌≢◌, ◌⊎◌, ◌≤◌, ◌++◌, ℕ, List, length, Option, Result, Err, IfOk, OnOk, OnErr}
use Rattle.std.specs.Io.KnownBytes.{Appends}
use Rattle.wio_core.specs.Io.{Rose}
use Rattle.broker_steps.specs.declared.limits.Limits.{Limits}
use Rattle.broker_core.specs.declared.letting_go.LetGo.{LetGo}
use Rattle.session_text.specs.declared.line.Line.TheVariants.{End}
use Rattle.hub_lock.specs.Histories.{History, broker_of}
use Rattle.serve_record.specs.declared.record.RecordStop.{RecordStop}
use Rattle.serve_record.specs.declared.record.RecordStop.TheVariants as stops
use Rattle.serve_record.specs.Recorded.{recorded, text_line}
use Rattle.serve_record.specs.Lines.{Holds, GainsFront}
use Rattle.serve_record.specs.Handed.{handed_text}

-- the output gained the text of what was handed out, but for what waits; or a front of it
abbrev pub HoldsHanded : Limits → (held held_after : Option (List ℕ)) → List LetGo →
    Result (List ℕ) RecordStop → Type 0
HoldsHanded limits held held_after handed r =
    IfOk r (λ waits. Holds held held_after waits (handed_text limits handed))
    × OnErr r (GainsFront held held_after (handed_text limits handed))

-- all entries of both histories were handed out
abbrev pub AreAllHanded : Limits → (h g : History) → List LetGo → Type 0
AreAllHanded limits h g handed =
    (length (broker_of limits h).journal ≤ length handed)
    × (length (broker_of limits g).journal ≤ length handed)

-- the output gained all that, with the end behind it where both histories were handed out; or a
-- front of it
abbrev pub EndsHanded : Limits → (held held_after : Option (List ℕ)) → (h g : History) →
    List LetGo → Result (Unit {0}) RecordStop → Type 0
EndsHanded limits held held_after h g handed r =
    OnOk r (AreAllHanded limits h g handed
    × Appends held held_after (handed_text limits handed ++ text_line End))
    × OnErr r (GainsFront held held_after (handed_text limits handed)
    ⊎ (AreAllHanded limits h g handed
    × GainsFront held held_after (handed_text limits handed ++ text_line End)))

-- the output gained the recorded session of the history, or a front of it
abbrev pub IsRecorded : Limits → (held held_after : Option (List ℕ)) → History →
    Result (Unit {0}) RecordStop → Type 0
IsRecorded limits held held_after h r =
    let b = broker_of limits h in
    OnOk r (Appends held held_after (recorded limits b.journal b.stamps))
    × OnErr r (GainsFront held held_after (recorded limits b.journal b.stamps))

-- one write failed: at first, and then none was tried again; or since then, where none had before
abbrev pub FailsOnce : (first : Result (List ℕ) RecordStop) → (faults faults_after : ℕ) → Type 0
FailsOnce first faults faults_after =
    ((first ≡ Err stops.WriteFault) × (faults_after ≡ faults))
    ⊎ ((first ≢ Err stops.WriteFault) × Rose faults faults_after)
