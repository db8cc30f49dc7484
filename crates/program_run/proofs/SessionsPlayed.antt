-- What one line more makes of a session.
use Rattle.std.proofs.Common.{◌≡◌, ℕ, ◌+◌, Bool, true, false, List, [], ◌∷◌, ◌++◌, length, Option, Some, None, Ok, Err, refl, sym, ap, subst, ◌∙◌, append_assoc, append-nil, length-append}
use Rattle.std.specs.Prelude.{if◌then◌else◌, Result, IfOk, OnOk}
use Rattle.std.specs.Option.{option_map}
use Rattle.broker_steps.specs.declared.limits.Limits.{Limits}
use Rattle.session_text.specs.declared.line.SessionLine.{SessionLine}
use Rattle.broker_model.specs.declared.journal.Entry.{Entry}
use Rattle.broker_model.specs.Limits.{number_counted}
use Rattle.lines_transcript.specs.Transcribed.{journal_text, text_since}
use Rattle.seat_set.specs.Played.{Play, Played as Step, line_played}
use Rattle.seat_set.specs.Playing.{Playing, IsMore, IsWatched}
use Rattle.seat_set.proofs.JournalGrows.{watched_none, watched_both}
use Rattle.std.proofs.lemmas.List.{append_cancel_left}
use Rattle.lines_transcript.specs.Printed.{Printing, MayPrint, blank}
use Rattle.program_run.specs.declared.last_line.LastLine.{LastLine}
use Rattle.program_run.specs.declared.last_line.LastLine.TheVariants as last
use Rattle.broker_steps.specs.declared.stamp.Stamp.{Stamp}
use Rattle.program_run.specs.declared.session_line.Meaning.{Meaning}
use Rattle.program_run.specs.declared.session_line.Meaning.TheVariants as meaning
use Rattle.program_run.specs.declared.session_line.Opening.{Opening}
use Rattle.program_run.specs.declared.session_line.Stage.{Stage}
use Rattle.program_run.specs.Endings.{Answer, with_front, ending, is_long}
use Rattle.program_run.specs.Scripts.{Follows, Settles, NamesNext, Played}
use Rattle.program_run.specs.Session.{closed, full_at, meaning_of, by_meaning, opening_of, by_opening, first_stage, next_stage, session_from, session_of_lines}
use Rattle.program_run.specs.PlayerScript.{fresh, Gathers, PlayerStands, PlayerHolds}
use Rattle.program_run.specs.SessionScript.{StandsBy, HoldsBy}
use Rattle.program_run.specs.WhereLinesLead.{IsLed, IsLedBy, stage_behind}
use Rattle.program_run.proofs.SessionLines.{begins, none_since, text_grows, long_is_bad, long_is_none}

-- by what the line means
step : (stage : Stage) (player : Playing) (before : ℕ) (done : List (List ℕ)) (output raw : List ℕ) (m : Meaning)
    → PlayerStands stage player before done output → m ≡ meaning_of stage raw
    → (cut : Bool) (more : List (List ℕ))
    → session_of_lines cut ((done ++ raw ∷ []) ++ more) ≡ by_meaning player.limits before player.play m
    (λ stamp next. session_from player.limits cut (before + 1) (next_stage stage stamp) next more)
unfolding session_from
step stage player before done output raw m s is cut more =
    ap (session_of_lines cut) (append_assoc done (raw ∷ []) more) ∙ s.goes_on cut (raw ∷ more)
    ∙ ap (λ w. by_meaning player.limits before player.play w
    (λ stamp next. session_from player.limits cut (before + 1) (next_stage stage stamp) next more)) (sym is)

-- a line that ends the session without a step
pub settles : (stage : Stage) (player : Playing) (before : ℕ) (done : List (List ℕ)) (output raw : List ℕ) (m : Meaning)
    (end : LastLine) → PlayerStands stage player before done output → m ≡ meaning_of stage raw
    → ((rest : Stamp → Play → Answer) →
    by_meaning player.limits before player.play m rest ≡ closed player.limits player.play
    (ending end)) → is_long (ending end).1 ≡ false
    → Settles session_of_lines (done ++ raw ∷ []) (with_front output (ending end))
settles stage player before done output raw m end s is ends other = record {
  same = λ cut more.
      step stage player before done output raw m s is cut more
      ∙ ends (λ stamp next. session_from player.limits cut (before + 1) (next_stage stage stamp) next more)
      ∙ ap (λ t. with_front t (ending end)) (sym s.said);
  decides = other;
}

full_by : (limits : Limits) (p : Step) (rest : Play → Answer) (entries : ℕ) (b : Bool)
    → Some entries ≡ (if b then Some (number_counted p.play.journal) else None)
    → (if b then closed limits p.play (ending (last.Full (number_counted p.play.journal))) else rest p.play)
    ≡ closed limits p.play (ending (last.Full entries))
full_by limits p rest entries true h = let same : number_counted p.play.journal ≡ entries = cc in
    ap (λ n. closed limits p.play (ending (last.Full n))) same
full_by limits p rest entries false h = absurd (cc h)

-- a line of which a step met a journal that was full for it
pub settles_full : (stage : Stage) (player : Playing) (before : ℕ) (done : List (List ℕ)) (output raw : List ℕ)
    (stamp : Stamp) (found : SessionLine)
    (entries : ℕ) → PlayerStands stage player before done output
    → meaning.Play stamp found ≡ meaning_of stage raw →
    Some entries ≡ full_at (line_played player.limits found player.play)
    → Settles session_of_lines (done ++ raw ∷ [])
    (with_front (journal_text player.limits.store (line_played player.limits found player.play).play.journal)
    (ending (last.Full entries)))
settles_full stage player before done output raw stamp found entries s is h = record {
  same = λ cut more.
      let p = line_played player.limits found player.play in
      step stage player before done output raw (meaning.Play stamp found) s is cut more
      ∙ full_by player.limits p
      (λ next. session_from player.limits cut (before + 1) (next_stage stage stamp) next more) entries p.is_full h;
  decides = refl;
}

played_by : (limits : Limits) (p : Step) (rest : Play → Answer) (b : Bool)
    → None ≡ (if b then Some (number_counted p.play.journal) else None) →
    (if b then closed limits p.play (ending (last.Full (number_counted p.play.journal))) else rest p.play) ≡ rest p.play
played_by limits p rest true h = absurd (cc h)
played_by limits p rest false h = refl

-- a line that was played
pub goes_further : (stage : Stage) (player : Playing) (before : ℕ) (done : List (List ℕ)) (output raw : List ℕ)
    (stamp : Stamp) (found : SessionLine)
    → PlayerStands stage player before done output
    → meaning.Play stamp found ≡ meaning_of stage raw → None ≡ full_at (line_played player.limits found player.play)
    → (cut : Bool) (more : List (List ℕ))
    → session_of_lines cut ((done ++ raw ∷ []) ++ more)
    ≡ session_from player.limits cut (before + 1) (next_stage stage stamp)
    (line_played player.limits found player.play).play more
goes_further stage player before done output raw stamp found s is h cut more =
    let p = line_played player.limits found player.play in
    step stage player before done output raw (meaning.Play stamp found) s is cut more
    ∙ played_by player.limits p
    (λ next. session_from player.limits cut (before + 1) (next_stage stage stamp) next more) p.is_full h

-- no line of these decided
pub follows : (stage : Stage) (player : Playing) (before : ℕ) (done : List (List ℕ)) (output : List ℕ)
    → PlayerStands stage player before done output → Follows session_of_lines done output
unfolding session_from
follows stage player before done output s = record {
  begins = λ cut more.
      let b = begins player.limits cut before stage player.play more in
      (b.0, s.goes_on cut more ∙ b.1 ∙ ap (λ t. with_front t b.0) (sym s.said));
  undecided = ap (session_of_lines true) (sym (append-nil done)) ∙ s.goes_on true []
      ∙ ap (λ t. with_front t (ending last.Long)) (sym s.said);
}

-- what the printer gathered grows as the transcript does
pub holds_more : (store : ℕ) (before after written : List Entry) (gathered : List ℕ) (m : List ℕ)
    → journal_text store after ≡ journal_text store before ++ m
    → journal_text store before ≡ journal_text store written ++ gathered
    → journal_text store after ≡ journal_text store written ++ (gathered ++ m)
holds_more store before after written gathered m grew held =
    grew ∙ ap (λ t. t ++ m) held ∙ append_assoc (journal_text store written) gathered m

-- the text of the line
gained : Playing → Playing → List ℕ
gained player after = text_since player.limits.store (length player.play.journal) after.play.journal

grows : (player after : Playing) → IsMore player.play.journal after.play.journal
    → journal_text player.limits.store after.play.journal
    ≡ journal_text player.limits.store player.play.journal ++ gained player after
unfolding gained
grows player after more = text_grows player.limits.store player.play.journal after.play.journal more

-- a line that isn't played has none
gains_none : (player after : Playing) → after ≡ player → gained player after ≡ []
unfolding gained
gains_none player after same =
    ap (λ (p : Playing). text_since player.limits.store (length player.play.journal) p.play.journal) same
    ∙ none_since player.limits.store player.play.journal

-- who watched the line
Watches : Playing → Playing → Printing → Printing → Type 0
Watches player after printer printer_after =
    IsWatched MayPrint player.limits.store player.play.journal printer after.play.journal printer_after

-- the printer holds it
holds_line : (player after : Playing) (printer printer_after : Printing) (gathered : List ℕ)
    → after.limits ≡ player.limits → Watches player after printer printer_after
    → PlayerHolds player printer gathered → PlayerHolds after printer_after (gathered ++ gained player after)
unfolding Watches
holds_line player after printer printer_after gathered limits w h =
    let store : player.limits.store ≡ after.limits.store = ap (λ (l : Limits). l.store) (sym limits) in
    record {
      written = h.written;
      watched = subst (λ (s : ℕ). Gathers s h.written after.play.journal printer_after) store
          (watched_both MayPrint player.limits.store h.written player.play.journal after.play.journal blank printer
          printer_after h.watched w);
      text = subst (λ (s : ℕ). journal_text s after.play.journal ≡ journal_text s h.written ++
          (gathered ++ gained player after)) store
          (holds_more player.limits.store player.play.journal after.play.journal h.written gathered
          (gained player after) (grows player after w.grew) h.text);
    }

-- the output so far, with it
said_line : (stage : Stage) (player after : Playing) (before : ℕ) (done : List (List ℕ)) (output : List ℕ)
    → PlayerStands stage player before done output → IsMore player.play.journal after.play.journal
    → output ++ gained player after ≡ journal_text player.limits.store after.play.journal
said_line stage player after before done output s more =
    ap (λ t. t ++ gained player after) s.said ∙ sym (grows player after more)

one_more : (done : List (List ℕ)) (raw : List ℕ) → length (done ++ raw ∷ []) ≡ length done + 1
one_more done raw = length-append done (raw ∷ [])

-- it goes on
stands_line : (stage : Stage) (player after : Playing) (stamp : Stamp) (found : SessionLine) (before : ℕ)
    (done : List (List ℕ)) (raw output : List ℕ) → PlayerStands stage player before done output
    → meaning.Play stamp found ≡ meaning_of stage raw → None ≡ full_at (line_played player.limits found player.play)
    → IsLed player after found None → IsMore player.play.journal after.play.journal
    → PlayerStands (next_stage stage stamp) after (before + 1) (done ++ raw ∷ []) (output ++ gained player after)
stands_line stage player after stamp found before done raw output s is room led more =
    let went = led.play refl in
    let store : player.limits.store ≡ after.limits.store = ap (λ (l : Limits). l.store) (sym led.limits) in
    record {
      unspent = ap (λ (p : Playing). p.is_spent) went ∙ s.unspent;
      count = ap (λ k. k + 1) s.count ∙ sym (one_more done raw);
      said = subst (λ (n : ℕ). output ++ gained player after ≡ journal_text n after.play.journal) store
          (said_line stage player after before done output s more);
      goes_on = λ cut more.
          goes_further stage player before done output raw stamp found s is room cut more
          ∙ ap (λ (p : Playing). session_from p.limits cut (before + 1) (next_stage stage stamp) p.play more)
          (sym went);
    }

-- a line before a printer: what it comes to
Comes : Stage → Playing → ℕ → Printing → List (List ℕ) → List ℕ → List ℕ → List ℕ → Option LastLine → Type 0
Comes stage player before printer done raw output gathered end =
    Played session_of_lines (PlayerStands stage player before) (PlayerHolds player printer) done raw output
    gathered end

-- by the entries that are counted where the journal was full
told_by : (stage : Stage) (player after : Playing) (printer printer_after : Printing) (stamp : Stamp)
    (found : SessionLine) (before : ℕ)
    (done : List (List ℕ)) (raw output gathered : List ℕ) (full : Option ℕ)
    → PlayerStands stage player before done output → PlayerHolds player printer gathered
    → meaning.Play stamp found ≡ meaning_of stage raw
    → full ≡ full_at (line_played player.limits found player.play)
    → IsLed player after found (option_map last.Full full) → Watches player after printer printer_after
    → Comes (next_stage stage stamp) after (before + 1) printer_after done raw output gathered
    (option_map last.Full full)
unfolding Comes Watches
told_by stage player after printer printer_after stamp found before done raw output gathered None s h is room led w =
    let next = stands_line stage player after stamp found before done raw output s is room led w.grew in (
      gained player after,
      next,
      holds_line player after printer printer_after gathered led.limits w h,
      follows (next_stage stage stamp) after
          (before + 1) (done ++ raw ∷ []) (output ++ gained player after) next,
    )
told_by stage player after printer printer_after stamp found before done raw output gathered
    (Some entries) s h is room led w =
    let text : journal_text player.limits.store (line_played player.limits found player.play).play.journal ≡ output ++
    gained player after =
    ap (journal_text player.limits.store) (sym led.journal)
    ∙ sym (said_line stage player after before done output s w.grew) in (
      gained player after,
      holds_line player after printer printer_after gathered led.limits w h,
      subst (λ t. Settles session_of_lines (done ++ raw ∷ []) (with_front t (ending (last.Full entries)))) text
          (settles_full stage player before done output raw stamp found entries s is room),
    )

-- a line that was played
played_line : (stage : Stage) (player after : Playing) (printer printer_after : Printing) (stamp : Stamp)
    (found : SessionLine) (before : ℕ)
    (done : List (List ℕ)) (raw output gathered : List ℕ) (end : Option LastLine)
    → PlayerStands stage player before done output → PlayerHolds player printer gathered
    → meaning.Play stamp found ≡ meaning_of stage raw → IsLed player after found end
    → Watches player after printer printer_after
    → Comes (next_stage stage stamp) after (before + 1) printer_after done raw output gathered end
played_line stage player after printer printer_after stamp found before done raw output gathered end s h is led w =
    let full : Option ℕ = full_at (line_played player.limits found player.play) in
    subst (Comes (next_stage stage stamp) after (before + 1) printer_after done raw output gathered) (sym led.full)
    (told_by stage player after printer printer_after stamp found before done raw output gathered full s h is refl
    (subst (IsLed player after found) led.full led) w)

-- a line that ends the session without a step tells nothing before the last line
ended : (stage : Stage) (player after : Playing) (printer printer_after : Printing) (before : ℕ)
    (done : List (List ℕ)) (raw output gathered : List ℕ) (end : LastLine)
    → PlayerHolds player printer gathered → after ≡ player → Watches player after printer printer_after
    → Settles session_of_lines (done ++ raw ∷ []) (with_front output (ending end))
    → Comes stage after before printer_after done raw output gathered (Some end)
unfolding Comes
ended stage player after printer printer_after before done raw output gathered end h same w s = (
  [],
  subst (λ t. PlayerHolds after printer_after (gathered ++ t)) (gains_none player after same)
      (holds_line player after printer printer_after gathered (ap (λ (p : Playing). p.limits) same) w h),
  subst (λ t. Settles session_of_lines (done ++ raw ∷ []) (with_front t (ending end))) (sym (append-nil output)) s,
)

-- any line, by what it means
line_told : (stage : Stage) (player after : Playing) (printer printer_after : Printing) (before : ℕ)
    (done : List (List ℕ)) (raw output gathered : List ℕ) (m : Meaning) (end : Option LastLine)
    → PlayerStands stage player before done output → PlayerHolds player printer gathered
    → m ≡ meaning_of stage raw → IsLedBy before player after m end → Watches player after printer printer_after
    → Comes (stage_behind stage m) after (before + 1) printer_after done raw output gathered end
line_told stage player after printer printer_after before done raw output gathered (meaning.Play stamp found) end s h
    is led w =
    played_line stage player after printer printer_after stamp found before done raw output gathered end s h is led w
line_told stage player after printer printer_after before done raw output gathered meaning.End end s h is led w =
    subst (Comes stage after (before + 1) printer_after done raw output gathered) (sym led.1)
    (ended stage player after printer printer_after (before + 1) done raw output gathered
    (last.End (length player.play.journal)) h led.0 w
    (settles stage player before done output raw meaning.End (last.End (length player.play.journal)) s is
    (λ rest. refl) refl))
line_told stage player after printer printer_after before done raw output gathered meaning.Bad end s h is led w =
    subst (Comes stage after (before + 1) printer_after done raw output gathered) (sym led.1)
    (ended stage player after printer printer_after (before + 1) done raw output gathered (last.Bad (before + 1)) h
    led.0 w (settles stage player before done output raw meaning.Bad (last.Bad (before + 1)) s is (λ rest. refl) refl))

-- the same of a call that may have found no memory
pub line_told_if : {E : Type 0} (stage next : Stage) (player after : Playing) (printer printer_after : Printing)
    (before : ℕ) (done : List (List ℕ)) (raw output gathered : List ℕ) (r : Result (Option LastLine) E)
    → PlayerStands stage player before done output → PlayerHolds player printer gathered
    → OnOk r (next ≡ stage_behind stage (meaning_of stage raw))
    → IfOk r (IsLedBy before player after (meaning_of stage raw))
    → IsWatched MayPrint player.limits.store player.play.journal printer after.play.journal printer_after
    → IfOk r (Played session_of_lines (PlayerStands next after (before + 1)) (PlayerHolds after printer_after) done
    raw output gathered)
unfolding Comes Watches
line_told_if stage next player after printer printer_after before done raw output gathered (Ok end) s h at led w =
    subst (λ (t : Stage). Comes t after (before + 1) printer_after done raw output gathered end) (sym at)
    (line_told stage player after printer printer_after before done raw output gathered (meaning_of stage raw) end s h
    refl led w)
line_told_if stage next player after printer printer_after before done raw output gathered (Err e) s h at led w = tt

-- the header
pub header_stands : (opening : Opening) (raw : List ℕ) → Some opening ≡ opening_of raw
    → PlayerStands (first_stage opening.form) (fresh opening.limits) 1 (raw ∷ []) []
header_stands opening raw is = record {
  unspent = refl;
  count = refl;
  said = refl;
  goes_on = λ cut more. ap (λ o. by_opening cut o more) (sym is);
}

pub header_holds : (limits : Limits) → PlayerHolds (fresh limits) blank []
header_holds limits = record { written = []; watched = watched_none MayPrint limits.store [] blank; text = refl }

pub no_header : (raw : List ℕ) → None ≡ opening_of raw → Settles session_of_lines (raw ∷ []) (ending (last.Bad 1))
no_header raw is = record { same = λ cut more. ap (λ o. by_opening cut o more) (sym is); decides = refl }

-- how the output ends behind these lines
pub names_next : (stage : Stage) (player : Playing) (before : ℕ) (done : List (List ℕ)) (output : List ℕ)
    → PlayerStands stage player before done output
    → NamesNext session_of_lines done output (last.Bad (before + 1))
unfolding session_from
names_next stage player before done output s = record {
  missing = ap (session_of_lines false) (sym (append-nil done)) ∙ s.goes_on false []
      ∙ ap (λ t. with_front t (ending (last.Bad (before + 1)))) (sym s.said);
  long = λ raw wide. settles stage player before done output raw meaning.Bad (last.Bad (before + 1)) s
      (sym (long_is_bad stage raw wide)) (λ rest. refl) refl;
}

pub names_first : NamesNext session_of_lines [] [] (last.Bad 1)
names_first = record { missing = refl; long = λ raw wide. no_header raw (sym (long_is_none raw wide)) }

-- what a printer holds once it is closed
pub holds_text : (player : Playing) (printer : Printing) (gathered text : List ℕ)
    → (h : PlayerHolds player printer gathered)
    → text ≡ text_since player.limits.store (length h.written) player.play.journal → text ≡ gathered
holds_text player printer gathered text h is =
    is ∙ append_cancel_left (journal_text player.limits.store h.written)
    (text_since player.limits.store (length h.written) player.play.journal) gathered
    (sym (text_grows player.limits.store h.written player.play.journal h.watched.grew) ∙ h.text)

-- nothing, once it is cleared
pub holds_none : (player : Playing) → PlayerHolds player blank []
holds_none player = record {
  written = player.play.journal;
  watched = watched_none MayPrint player.limits.store player.play.journal blank;
  text = sym (append-nil (journal_text player.limits.store player.play.journal));
}

pub holds_none_by : (o : Option Playing) (printer : Printing) → printer ≡ blank → HoldsBy o printer []
holds_none_by None printer e = (e, refl)
holds_none_by (Some player) printer e = subst (λ (p : Printing). PlayerHolds player p []) (sym e) (holds_none player)

-- the same where a header may have come or not

pub count_by : (stage : Stage) (o : Option Playing) (before : ℕ) (done : List (List ℕ)) (output : List ℕ)
    → StandsBy stage o before done output → before ≡ length done
count_by stage None before done output s = s.0 ∙ sym (ap length s.1)
count_by stage (Some player) before done output s = s.count

pub names_by : (stage : Stage) (o : Option Playing) (before next : ℕ) (done : List (List ℕ)) (output : List ℕ)
    → StandsBy stage o before done output → next ≡ before + 1
    → NamesNext session_of_lines done output (last.Bad next)
names_by stage None before next done output s e =
    subst (λ n. NamesNext session_of_lines done output (last.Bad n)) (sym (e ∙ ap (λ n. n + 1) s.0))
    (subst (λ d. NamesNext session_of_lines d output (last.Bad 1)) (sym s.1)
    (subst (λ t. NamesNext session_of_lines [] t (last.Bad 1)) (sym s.2) names_first))
names_by stage (Some player) before next done output s e =
    subst (λ n. NamesNext session_of_lines done output (last.Bad n)) (sym e)
    (names_next stage player before done output s)

-- a header came first

Begun : Stage → Playing → ℕ → Printing → List (List ℕ) → List ℕ → List ℕ → List ℕ → Type 0
Begun stage player before printer done raw output gathered =
    (x : List ℕ) × PlayerStands stage player before (done ++ raw ∷ []) (output ++ x) × PlayerHolds player printer
    (gathered ++ x) × Follows session_of_lines (done ++ raw ∷ []) (output ++ x)

begun_fresh : (opening : Opening) (raw : List ℕ) → Some opening ≡ opening_of raw
    → Begun (first_stage opening.form) (fresh opening.limits) 1 blank [] raw [] []
unfolding Begun
begun_fresh opening raw is =
    let s = header_stands opening raw is in
    ([], s, header_holds opening.limits, follows (first_stage opening.form) (fresh opening.limits) 1 (raw ∷ []) [] s)

pub begun : (stage : Stage) (player : Playing) (before : ℕ) (printer : Printing) (opening : Opening)
    (done : List (List ℕ))
    (raw output gathered : List ℕ) → Some opening ≡ opening_of raw → stage ≡ first_stage opening.form
    → player ≡ fresh opening.limits
    → (before ≡ 1) × (done ≡ []) × (output ≡ []) → (printer ≡ blank) × (gathered ≡ [])
    → (x : List ℕ) × PlayerStands stage player before (done ++ raw ∷ []) (output ++ x) × PlayerHolds player printer
    (gathered ++ x) × Follows session_of_lines (done ++ raw ∷ []) (output ++ x)
unfolding Begun
begun stage player before printer opening done raw output gathered is at made stood held =
    subst (λ n. Begun stage player n printer done raw output gathered) (sym stood.0)
    (subst (λ d. Begun stage player 1 printer d raw output gathered) (sym stood.1)
    (subst (λ t. Begun stage player 1 printer [] raw t gathered) (sym stood.2)
    (subst (λ (p : Printing). Begun stage player 1 p [] raw [] gathered) (sym held.0)
    (subst (λ t. Begun stage player 1 blank [] raw [] t) (sym held.1)
    (subst (λ (t : Stage). Begun t player 1 blank [] raw [] []) (sym at)
    (subst (λ (p : Playing). Begun (first_stage opening.form) p 1 blank [] raw [] []) (sym made)
    (begun_fresh opening raw is)))))))

-- before any line
pub session_begins : Follows session_of_lines [] []
session_begins = record { begins = λ cut more. (session_of_lines cut more, refl); undecided = refl }
