-- What a printer holds, and what it makes of each thing that it watches.
use Rattle.std.specs.Prelude.{◌≡◌, ℕ, List, [], ◌++◌, Bool, true, false}
use Rattle.lines_transcript.specs.Transcript.{out_line, placed_line, pass_line, vmods_line}
use Rattle.broker_core.specs.Watched.{Watched}
use Rattle.broker_core.specs.Watched.Watched.{Entered, Placed, Passed, Modified, Put}
use Rattle.lines_transcript.specs.Transcribed.{with_feed, head_text}

-- the text, what the shell was told of the newest entry, and whether there was no memory for a line
pub record Printing : Type 0 where
  pub text : List ℕ
  pub shell : List ℕ
  pub is_short : Bool

-- nothing
abbrev pub blank : Printing
blank = record { text = []; shell = []; is_short = false }

-- what the shell was told stands behind the groups
abbrev pub closed : Printing → Printing
closed p = record p { text = p.text ++ p.shell; shell = [] }

-- with what is watched, where there is memory for it
abbrev pub printed : Watched → Printing → Printing
printed (Entered n e act log) p =
    record p { text = p.text ++ (p.shell ++ head_text n e); shell = [] }
printed (Placed n q id x y) p = record p { shell = p.shell ++ with_feed (placed_line n q id x y) }
printed (Passed n time key state) p =
    record p { shell = p.shell ++ with_feed (pass_line n time key state) }
printed (Modified n mods) p = record p { shell = p.shell ++ with_feed (vmods_line n mods) }
printed (Put n q bytes tokens) p =
    record p { text = p.text ++ with_feed (out_line n q bytes tokens) }

-- by whether it was short and is short: short, it stays so with the text that it has
abbrev pub IsPrinted : Bool → Bool → Printing → Watched → Printing → Type 0
IsPrinted true is before event after = after ≡ before
IsPrinted false true before event after = after.text ≡ before.text
IsPrinted false false before event after = after ≡ printed event before

-- which printers may follow one that is told something
abbrev pub MayPrint : Printing → Watched → Printing → Type 0
MayPrint before event after = IsPrinted before.is_short after.is_short before event after

-- the text begins with the front
abbrev pub IsFront : List ℕ → List ℕ → Type 0
IsFront front text = (rest : List ℕ) × front ++ rest ≡ text
