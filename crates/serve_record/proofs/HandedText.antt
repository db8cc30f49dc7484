-- The text of the oldest entries of a journal begins its recorded session
use Rattle.std.proofs.Common.{◌≡◌, ◌+◌, ◌-◌, ◌<◌, ◌≤◌, ◌++◌, ◌∷◌, [], ℕ, List, length, Some, sym, ap, ◌∙◌, arith, append-nil}
use Rattle.std.proofs.lemmas.List.{append_assoc}
use Rattle.broker_steps.specs.declared.limits.Limits.{Limits}
use Rattle.session_text.specs.declared.line.Line.TheVariants.{Header, End}
use Rattle.broker_model.specs.Recorded.{entry_at}
use Rattle.broker_core.specs.Broker.{Broker}
use Rattle.broker_core.specs.declared.letting_go.LetGo.{LetGo}
use Rattle.hub_lock.specs.Plays.{IsNext}
use Rattle.hub_lock.specs.Recording.{AreOldest}
use Rattle.hub_lock.proofs.OldestStay.{within}
use Rattle.serve_record.specs.Recorded.{text_line, recorded}
use Rattle.serve_record.specs.Lines.{lines_text, text_at, text_without}
use Rattle.serve_record.specs.Handed.{handed_lines, handed_text}
use Rattle.serve_record.proofs.StepsText.{text_grows, text_begins, text_ends, text_is_front}

-- there are no more of them than entries
few : (b : Broker) (handed : List LetGo) → AreOldest b handed → length handed ≤ length b.journal
few b [] a = omega arith
few b (it ∷ older) a =
    let w = within b.journal it.number it.entry a.0.entry in let n = a.0.number in omega arith

line-of : (b : Broker) (given : ℕ) (it : LetGo) → IsNext b given it
    → lines_text (Some it.entry) (Some it.stamp) ≡ text_at b.journal b.stamps (given + 1)
line-of b given it next =
    ap (λ e. lines_text e (Some it.stamp)) (sym next.entry)
    ∙ (ap (λ s. lines_text (entry_at b.journal it.number) s) (sym next.stamp)
    ∙ ap (text_at b.journal b.stamps) next.number)

module _ (limits : Limits) (b : Broker) (each : length b.stamps ≡ length b.journal) where
  -- it is that of all but the newest entries
  pub handed-is : (handed : List LetGo) → AreOldest b handed
      → handed_text limits handed ≡ text_without limits (length b.journal - length handed) b.journal b.stamps
  handed-is [] a =
      let all : length b.journal ≡ length b.journal - 0 = omega arith in
      append-nil (text_line (Header limits)) ∙ sym (text_begins limits b.journal b.stamps each)
      ∙ ap (λ n. text_without limits n b.journal b.stamps) all
  handed-is (it ∷ older) a =
      let n = few b (it ∷ older) a in
      let within : length older < length b.journal = omega arith in
      let more : length b.journal - (length older + 1) ≡ length b.journal - length (it ∷ older) = omega arith in
      sym (append_assoc (text_line (Header limits)) (handed_lines older) (lines_text (Some it.entry) (Some it.stamp)))
      ∙ (ap (λ t. t ++ lines_text (Some it.entry) (Some it.stamp)) (handed-is older a.1)
      ∙ (ap (λ t. text_without limits (length b.journal - length older) b.journal b.stamps ++ t)
      (line-of b (length older) it a.0)
      ∙ (text_grows limits b.journal b.stamps (length older) within each
      ∙ ap (λ k. text_without limits k b.journal b.stamps) more)))

  pub handed-front : (handed : List LetGo) → AreOldest b handed
      → (more : List ℕ) × (handed_text limits handed ++ more ≡ recorded limits b.journal b.stamps)
  handed-front handed a =
      let is = text_is_front limits b.journal b.stamps (length b.journal - length handed) each in
      (is.0, ap (λ t. t ++ is.0) (handed-is handed a) ∙ is.1)

  -- with the end it is whole, where there are no more entries
  pub handed-whole : (handed : List LetGo) → AreOldest b handed → length b.journal ≤ length handed
      → handed_text limits handed ++ text_line End ≡ recorded limits b.journal b.stamps
  handed-whole handed a all =
      let none : length b.journal - length handed ≡ 0 = omega arith in
      ap (λ t. t ++ text_line End) (handed-is handed a)
      ∙ text_ends limits b.journal b.stamps (length b.journal - length handed) none
