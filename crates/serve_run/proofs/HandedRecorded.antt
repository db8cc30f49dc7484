-- What was handed out and written is the recorded session of the history, or a front of it
use Rattle.std.proofs.Common.{◌≡◌, ◌⊎◌, ⊎_elim, ◌≤◌, ◌++◌, ℕ, List, length, Option, Result, Ok, Err, sym, subst}
use Rattle.std.specs.Io.KnownBytes.{Appends}
use Rattle.broker_steps.specs.declared.limits.Limits.{Limits}
use Rattle.broker_core.specs.Broker.{Broker}
use Rattle.broker_core.specs.declared.letting_go.LetGo.{LetGo}
use Rattle.session_text.specs.declared.line.Line.TheVariants.{End}
use Rattle.hub_lock.specs.Histories.{History, broker_of}
use Rattle.hub_lock.specs.Lawful.{IsLawful}
use Rattle.hub_lock.specs.Recording.{AreOldest}
use Rattle.hub_lock.proofs.OldestStay.{oldest-stay}
use Rattle.serve_record.specs.declared.record.RecordStop.{RecordStop}
use Rattle.serve_record.specs.Recorded.{recorded, text_line}
use Rattle.serve_record.specs.Lines.{GainsFront}
use Rattle.serve_record.specs.Handed.{handed_text}
use Rattle.serve_record.proofs.RecordGrows.{front_of}
use Rattle.serve_record.proofs.HandedText.{handed-front, handed-whole}
use Rattle.serve_run.specs.Written.{EndsHanded, IsRecorded, AreAllHanded}

module _ (limits : Limits) (held after : Option (List ℕ)) (h g f : History) (handed : List LetGo)
    (front : AreOldest (broker_of limits h) handed) (more : History) (is : f ≡ h ++ more)
    (either : (f ≡ h) ⊎ (f ≡ g)) (lawful : IsLawful limits f) where
  abbrev b : Broker
  b = broker_of limits f

  oldest : AreOldest b handed
  oldest = subst (λ x. AreOldest (broker_of limits x) handed) (sym is)
      (oldest-stay limits h more handed (subst (IsLawful limits) is lawful) front)

  all-handed : AreAllHanded limits h g handed → length b.journal ≤ length handed
  all-handed all = ⊎_elim
      (λ (e : f ≡ h). subst (λ x. length (broker_of limits x).journal ≤ length handed) (sym e) all.0)
      (λ (e : f ≡ g). subst (λ x. length (broker_of limits x).journal ≤ length handed) (sym e) all.1) either

  whole-is : AreAllHanded limits h g handed
      → handed_text limits handed ++ text_line End ≡ recorded limits b.journal b.stamps
  whole-is all = handed-whole limits b lawful.shared.each handed oldest (all-handed all)

  pub recorded-by : (r : Result (Unit {0}) RecordStop) → EndsHanded limits held after h g handed r
      → IsRecorded limits held after f r
  recorded-by (Ok done) ends = (subst (Appends held after) (whole-is ends.0.0) ends.0.1, tt)
  recorded-by (Err stop) ends = (
    tt,
    ⊎_elim
        (λ (cut : GainsFront held after (handed_text limits handed)).
        let rest = handed-front limits b lawful.shared.each handed oldest in
        front_of held after (handed_text limits handed) rest.0 (recorded limits b.journal b.stamps) cut rest.1)
        (λ (cut : AreAllHanded limits h g handed × GainsFront held after (handed_text limits handed ++ text_line End)).
        subst (GainsFront held after) (whole-is cut.0) cut.1) ends.1,
  )
