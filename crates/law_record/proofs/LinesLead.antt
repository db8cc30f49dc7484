-- The lines of a recorded session lead to its journal again, and their stamps to its stamps.
use Rattle.std.proofs.Common.{◌≡◌, List, [], ◌∷◌, ◌++◌, drop, map, reverse, Bool, true, false, refl, sym, ap, subst, ◌∙◌}
use Rattle.std.specs.Prelude.{if◌then◌else◌}
use Rattle.std.proofs.lemmas.List.{map-append, reverse-append}
use Rattle.broker_steps.specs.declared.limits.Limits.{Limits}
use Rattle.broker_steps.specs.declared.stamp.Stamp.{Stamp}
use Rattle.broker_steps.specs.declared.step.Step.{Step}
use Rattle.session_text.specs.declared.line.SessionLine.{SessionLine}
use Rattle.session_text.specs.Steps.{step_line}
use Rattle.broker_model.specs.declared.journal.Entry.{Entry}
use Rattle.broker_model.specs.Stamps.{stamps, step_stamps}
use Rattle.broker_model.proofs.StampsAgain.{again}
use Rattle.seat_set.specs.Played.{Play, Played, went, line_played}
use Rattle.seat_set.specs.Laws.{lines_played, unplayed}
use Rattle.law_record.specs.Legal.{journal_of, AreLegal}
use Rattle.law_record.specs.RecordedLines.{StampedLine, played_lines}
use Rattle.law_record.specs.RecordLaws.{lines_of_steps, stamps_of, stamps_read, IsAt, RecordedLeadsBack}
use Rattle.law_record.proofs.QuietSteps.{next_at}
use Rattle.law_record.proofs.StepsRecorded.{stamp_at, one_more_step}

-- one more line

whole : (p : Played) → (if p.is_full then p else went p.play) ≡ p
whole p = by p.is_full refl
  where
    by : (b : Bool) → p.is_full ≡ b → (if b then p else went p.play) ≡ p
    by true e = refl
    by false e = ap (λ (b : Bool). record { play = p.play; is_full = b }) (sym e)

one_more : (limits : Limits) (xs : List SessionLine) (line : SessionLine) (play : Play) →
    (lines_played limits xs play).is_full ≡ false →
    lines_played limits (xs ++ line ∷ []) play ≡ line_played limits line (lines_played limits xs play).play
one_more limits [] line play f = whole (line_played limits line play)
one_more limits (x ∷ xs) line play f =
    by p.is_full refl f (one_more limits xs line p.play)
  where
    p : Played
    p = line_played limits x play

    by : (b : Bool) → p.is_full ≡ b → (if b then p else lines_played limits xs p.play).is_full ≡ false →
        ((lines_played limits xs p.play).is_full ≡ false →
        lines_played limits (xs ++ line ∷ []) p.play ≡ line_played limits line (lines_played limits xs p.play).play) →
        (if b then p else lines_played limits (xs ++ line ∷ []) p.play)
        ≡ line_played limits line (if b then p else lines_played limits xs p.play).play
    by true e g k = (let no = sym e ∙ g in cc)
    by false e g k = k g

-- all lines

last_played : (limits : Limits) (step : Step) (older : List Step) (given : List Stamp) →
    played_lines (lines_of_steps limits (step ∷ older) given)
    ≡ played_lines (lines_of_steps limits older (drop 1 given)) ++ step_line step ∷ []
last_played limits step older given =
    let before : List StampedLine = lines_of_steps limits older (drop 1 given) in
    ap played_lines (one_more_step step limits.store (journal_of limits older) given).lines
    ∙ map-append (λ (l : StampedLine). l.1) before
    ((stamp_at step (journal_of limits older) given, step_line step) ∷ [])

pub lead : (limits : Limits) (steps : List Step) (given : List Stamp) → AreLegal limits steps →
    IsAt (lines_played limits (played_lines (lines_of_steps limits steps given)) unplayed) (journal_of limits steps)
lead limits [] given legal = record { goes = refl; is = refl; read = tt }
lead limits (step ∷ older) given legal =
    let xs : List SessionLine = played_lines (lines_of_steps limits older (drop 1 given)) in
    let before = lead limits older (drop 1 given) legal.1 in
    let next = next_at limits step (lines_played limits xs unplayed) (journal_of limits older) before legal.0 in
    subst (λ (p : Played). IsAt p (journal_of limits (step ∷ older)))
    (sym (ap (λ (all : List SessionLine). lines_played limits all unplayed) (last_played limits step older given)
    ∙ one_more limits xs (step_line step) unplayed before.goes)) next

-- their stamps are those of the steps

read_last : (before : List StampedLine) (l : StampedLine) → stamps_read (before ++ l ∷ []) ≡ l.0 ∷ stamps_read before
read_last before l =
    ap reverse (map-append (λ (x : StampedLine). x.0) before (l ∷ []))
    ∙ reverse-append (map (λ (x : StampedLine). x.0) before) (l.0 ∷ [])

are_read : (limits : Limits) (steps : List Step) (given : List Stamp) →
    stamps_read (lines_of_steps limits steps given)
    ≡ step_stamps (journal_of limits steps) (stamps_of limits steps given)
are_read limits [] given = refl
are_read limits (step ∷ older) given =
    let journal : List Entry = journal_of limits older in
    let s : Stamp = stamp_at step journal given in
    let more = one_more_step step limits.store journal given in
    ap stamps_read more.lines
    ∙ read_last (lines_of_steps limits older (drop 1 given)) (s, step_line step)
    ∙ ap (λ (l : List Stamp). s ∷ l) (are_read limits older (drop 1 given))
    ∙ sym more.steps

pub recorded_leads_back : RecordedLeadsBack
recorded_leads_back limits steps given h = record {
  leads = lead limits steps given h.legal;
  stamped = ap (stamps (journal_of limits steps)) (are_read limits steps given)
      ∙ again (journal_of limits steps) given;
}
