-- Where a line led that a player played, by what the player says of it.
use Rattle.std.proofs.Common.{◌≡◌, Bool, true, false, Some, None, Ok, Err, sym, ap, ◌∙◌}
use Rattle.std.specs.Prelude.{if◌then◌else◌, Result, OnOk}
use Rattle.std.specs.Option.{option_map}
use Rattle.session_text.specs.declared.line.SessionLine.{SessionLine}
use Rattle.broker_model.specs.declared.journal.Kept.{Kept}
use Rattle.broker_model.specs.Limits.{number_counted}
use Rattle.seat_set.specs.declared.session.Stop.TheVariants as stops
use Rattle.seat_set.specs.Played.{Play, Played, line_played}
use Rattle.seat_set.specs.Playing.{Playing, IsPlayed}
use Rattle.program_run.specs.declared.last_line.LastLine.TheVariants as last
use Rattle.program_run.specs.Session.{full_at}
use Rattle.program_run.specs.WhereLinesLead.{IsLed}

full_of : (p : Played) (b : Bool) → p.is_full ≡ b
    → full_at p ≡ (if b then Some (number_counted p.play.journal) else None)
full_of p b e = ap (λ (f : Bool). (if f then Some (number_counted p.play.journal) else None)) e

pub led_on : (player after : Playing) (line : SessionLine)
    → IsPlayed (line_played player.limits line player.play) (Ok tt) after.play
    → after ≡ record player { play = after.play; stamps = after.stamps; kept_from = after.kept_from }
    → after.limits ≡ player.limits
    → IsLed player after line None
led_on player after line played same limits = record {
  full = ap (option_map last.Full) (sym (full_of (line_played player.limits line player.play) false played.0));
  play = λ e.
      same ∙ ap (λ (x : Play). record player { play = x; stamps = after.stamps; kept_from = after.kept_from }) played.1;
  journal = ap (λ (x : Play). x.journal) played.1;
  limits = limits;
}

pub led_full : (player after : Playing) (line : SessionLine) (kept : Kept)
    → IsPlayed (line_played player.limits line player.play) (Err (stops.Full kept)) after.play
    → after.limits ≡ player.limits → IsLed player after line (Some (last.Full kept.entries))
led_full player after line kept played limits =
    let p = line_played player.limits line player.play in
    let counted : kept.entries ≡ number_counted p.play.journal = ap (λ (k : Kept). k.entries) played.1 in
    record {
      full = ap (λ n. Some (last.Full n)) counted ∙ ap (option_map last.Full) (sym (full_of p true played.0));
      play = λ e. absurd (cc e);
      journal = played.2;
      limits = limits;
    }

-- what is so is so also of a call that may have failed
pub in_any_case : {A E P : Type 0} (r : Result A E) → P → OnOk r P
in_any_case (Ok x) h = h
in_any_case (Err e) h = tt
