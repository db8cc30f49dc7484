-- The line of a legal step plays that step alone, where no peer has unread bytes.
use Rattle.std.proofs.Common.{◌≡◌, ℕ, ◌+◌, List, [], ◌∷◌, ◌++◌, length, filter, Bool, true, false, refl, sym, ap, subst, ◌∙◌}
use Rattle.std.specs.Prelude.{if◌then◌else◌, ◌==◌}
use Rattle.std.specs.List.{AllByRecursion}
use Rattle.broker_steps.specs.declared.limits.Limits.{Limits}
use Rattle.broker_steps.specs.declared.step.Step.{Step}
use Rattle.broker_steps.specs.declared.step.Step.TheVariants as steps
use Rattle.session_text.specs.Steps.{step_line}
use Rattle.broker_model.specs.declared.journal.Entry.{Entry}
use Rattle.broker_model.specs.declared.journal.Entry.TheVariants as entries
use Rattle.broker_model.specs.Limits.{is_full}
use Rattle.broker_model.specs.Resolve.{past_of}
use Rattle.broker_model.specs.Settle.{settle}
use Rattle.broker_core.specs.Broker.{entry_of}
use Rattle.broker_core.specs.Taking.{lives}
use Rattle.seat_set.specs.Played.{Waiting, Play, Played, went, with_step, step_played, unread_by, with_peer, line_played}
use Rattle.seat_set.specs.Laws.{CanPlay, ready_for}
use Rattle.seat_set.proofs.PrintedStepsAlone.{printed_steps}
use Rattle.law_record.specs.Legal.{quiet, IsLegal}
use Rattle.law_record.specs.RecordLaws.{IsRead, IsAt}

abbrev pub AreRead : List Waiting → Type 0
AreRead unread = AllByRecursion IsRead unread

none_by : (unread : List Waiting) (q : ℕ) → AreRead unread → unread_by unread q ≡ []
none_by [] q h = refl
none_by (w ∷ rest) q h = by (w.number == q) (none_by rest q h.1)
  where
    by : (b : Bool) → unread_by rest q ≡ [] → (if b then w.bytes else unread_by rest q) ≡ []
    by true k = h.0
    by false k = k

left_read : (p : Waiting → Bool) (unread : List Waiting) → AreRead unread → AreRead (filter p unread)
left_read p [] h = tt
left_read p (w ∷ rest) h = by (p w) (left_read p rest h.1)
  where
    by : (b : Bool) → AreRead (filter p rest) → AreRead (if b then w ∷ filter p rest else filter p rest)
    by true k = (h.0, k)
    by false k = k

more_read : (unread : List Waiting) (w : Waiting) → AreRead unread → IsRead w → AreRead (unread ++ w ∷ [])
more_read [] w h k = (k, tt)
more_read (v ∷ rest) w h k = (h.0, more_read rest w h.1 k)

-- one entry

entry_at : (limits : Limits) (e : Entry) (play : Play) → is_full limits play.journal e ≡ false → AreRead play.unread →
    IsAt (step_played limits e play) (settle limits.store (e ∷ play.journal))
entry_at limits e play f r =
    subst (λ (p : Played). IsAt p (settle limits.store (e ∷ play.journal)))
    (sym (ap (λ (b : Bool). (if b then record { play = play; is_full = true } else went (with_step limits e play))) f))
    (record {
      goes = refl;
      is = refl;
      read = left_read (λ w. lives (settle limits.store (e ∷ play.journal)) w.number) play.unread r;
    })

-- the same, where a peer that joins has no unread bytes
ready_at : (limits : Limits) (step : Step) (play : Play) → is_full limits play.journal (entry_of step) ≡ false →
    AreRead play.unread →
    IsAt (step_played limits (entry_of step) (ready_for step play))
    (settle limits.store (entry_of step ∷ play.journal))
ready_at limits (steps.Join role) play f r =
    entry_at limits (entries.Join role) (with_peer play) f
    (more_read play.unread (record { number = length (past_of play.journal).joined + 1; bytes = [] }) r refl)
ready_at limits (steps.Peer q step) play f r = entry_at limits (entry_of (steps.Peer q step)) play f r
ready_at limits (steps.Shell step) play f r = entry_at limits (entries.Shell step) play f r
ready_at limits (steps.Take q n) play f r = entry_at limits (entries.Took q n) play f r

-- what can be played where nobody has unread bytes
can_play : (limits : Limits) (step : Step) (play : Play) → AreRead play.unread →
    CanPlay limits step (quiet play.journal) → CanPlay limits step play
can_play limits (steps.Join role) play r c = c
can_play limits (steps.Peer q step) play r c = (record { live = c.0.live; read = none_by play.unread q r }, c.1)
can_play limits (steps.Shell step) play r c = tt
can_play limits (steps.Take q n) play r c =
    record { peer = c.peer; joined = c.joined; some = c.some; enough = c.enough }

line_at : (limits : Limits) (step : Step) (play : Play) → AreRead play.unread → IsLegal limits play.journal step →
    IsAt (line_played limits (step_line step) play) (settle limits.store (entry_of step ∷ play.journal))
line_at limits step play r legal =
    let there = ready_at limits step play legal.fits r in
    let same = printed_steps limits step play (can_play limits step play r legal.can) in
    let play_is = same.play there.goes in
    record {
      goes = same.full ∙ there.goes;
      is = same.journal ∙ there.is;
      read = subst (λ (x : Play). AreRead x.unread) (sym play_is) there.read;
    }

-- the next line
pub next_at : (limits : Limits) (step : Step) (p : Played) (journal : List Entry) → IsAt p journal →
    IsLegal limits journal step →
    IsAt (line_played limits (step_line step) p.play) (settle limits.store (entry_of step ∷ journal))
next_at limits step p journal at legal =
    let here : IsLegal limits p.play.journal step =
    subst (λ (j : List Entry). IsLegal limits j step) (sym at.is) legal in
    subst (λ (j : List Entry). IsAt (line_played limits (step_line step) p.play)
    (settle limits.store (entry_of step ∷ j))) at.is
    (line_at limits step p.play at.read here)
