-- The answer for an act list, by its first line.
use Rattle.std.proofs.Common.{◌≡◌, ℕ, ◌+◌, ◌<◌, Bool, true, false, List, [], ◌∷◌, ◌++◌, length, refl, sym, ap, subst, append_assoc, Option, Some, None}
use Rattle.std.specs.Prelude.{nat_lt, if◌then◌else◌}
use Rattle.std.proofs.lemmas.Bool.{ltb-true}
use Rattle.relay_model.specs.declared.act.Act.{Act}
use Rattle.relay_model.specs.declared.act.Act.TheVariants as acts
use Rattle.relay_model.specs.Told.{told}
use Rattle.program_run.specs.declared.act_list.Verdict.{Verdict}
use Rattle.program_run.specs.declared.act_list.Verdict.TheVariants as verdict
use Rattle.program_run.specs.declared.act_list.TheConstants.{ACT_LIMIT}
use Rattle.relay_core.specs.Fits.{FitsMessage}
use Rattle.session_text.specs.declared.line.Form.TheVariants.{Acts}
use Rattle.session_text.specs.declared.line.Line.{Line}
use Rattle.session_text.specs.declared.line.Line.TheVariants as line
use Rattle.session_text.specs.Grammar.{HasLine}
use Rattle.session_text.specs.Reading.{line_of}
use Rattle.session_text.proofs.LinesReadBack.{reads_only}
use Rattle.program_run.specs.Endings.{Answer, with_front, without_end}
use Rattle.program_run.specs.Transcript.{verdict_of_line, answer_from, by_verdict, verdict_of, act_text}

pub front_of_front : (a b : List ℕ) (x : Answer) → with_front a (with_front b x) ≡ with_front (a ++ b) x
front_of_front a b x = ap (λ t. (t, x.1)) (sym (append_assoc a b x.0))

-- what a line makes of the answer after it
abbrev pub by_line : Bool → List Act → ℕ → Verdict → List (List ℕ) → Answer
by_line cut log n v more =
    by_verdict n v (λ act. act_text (length log + 1) (told act log)) (λ act. answer_from cut (act ∷ log) more)

pub answer_cons : (cut : Bool) (log : List Act) (raw : List ℕ) (lines : List (List ℕ)) →
    answer_from cut log (raw ∷ lines) ≡ by_line cut log (length log) (verdict_of (length log) raw) lines
unfolding answer_from
answer_cons cut log raw lines = refl

pub answer_nil : (cut : Bool) (log : List Act) → answer_from cut log [] ≡ without_end cut (length log)
unfolding answer_from
answer_nil cut log = refl

-- an act that a line can give fits a message
line_fits : (act : Act) → HasLine act → FitsMessage act
line_fits (acts.Surround f text cursor anchor) h = h.1.1
line_fits (acts.MString m text) h = h.1.1
line_fits (acts.MPreedit m text begin end) h = h.1.1
line_fits _ h = tt

play_act_by : (count : ℕ) (act found : Act) (b : Bool) → nat_lt count ACT_LIMIT ≡ b → FitsMessage found →
    verdict.Play act ≡ (if b then verdict.Play found else verdict.Full) → (count < ACT_LIMIT) × FitsMessage act
play_act_by count act found true e k h = (ltb-true count ACT_LIMIT e, let d : found ≡ act = cc in subst FitsMessage d k)
play_act_by count act found false e k h = cc

play_line_by : (count : ℕ) (act : Act) (raw : List ℕ) (o : Option Line) → line_of Acts raw ≡ o
    → verdict.Play act ≡ verdict_of_line count o →
    (count < ACT_LIMIT) × FitsMessage act
play_line_by count act raw None e h = cc
play_line_by count act raw (Some line.End) e h = cc
play_line_by count act raw (Some (line.Header limits)) e h = cc
play_line_by count act raw (Some (line.Session found)) e h = cc
play_line_by count act raw (Some (line.Stamped stamp found)) e h = cc
play_line_by count act raw (Some (line.Shell step)) e h = cc
play_line_by count act raw (Some (line.Act found)) e h =
    play_act_by count act found (nat_lt count ACT_LIMIT) refl
    (line_fits found (reads_only Acts raw (line.Act found) e).1) h

-- an act that is played is within the limit, and a message can carry it
pub played : (count : ℕ) (raw : List ℕ) (act : Act) → verdict.Play act ≡ verdict_of count raw
    → (count < ACT_LIMIT) × FitsMessage act
unfolding verdict_of
played count raw act h = play_line_by count act raw (line_of Acts raw) refl h
