-- What an explainer holds, and what it makes of each thing that it watches.
use Rattle.std.specs.Prelude.{◌≡◌, ◌⊎◌, ℕ, ◌+◌, ◌%◌, ◌^◌, List, [], ◌∷◌, ◌++◌, Bool, true, false, Option, Some, None}
use Rattle.relay_model.specs.declared.act.Act.{Act}
use Rattle.relay_model.specs.declared.act.Act.TheVariants.{MCommit}
use Rattle.relay_model.specs.Idle.{history}
use Rattle.relay_reasons.specs.declared.seat.Seat.{Seat}
use Rattle.relay_reasons.specs.declared.fate.BatchFate.{BatchFate}
use Rattle.relay_reasons.specs.Seat.{seat}
use Rattle.relay_reasons.specs.Fate.{fate}
use Rattle.lines_explained.specs.declared.deed.Source.{Source}
use Rattle.lines_explained.specs.declared.deed.Source.TheVariants as sources
use Rattle.wl_wire.specs.Messages.{id_of, opcode_of, size_of}
use Rattle.lines_explained.specs.declared.key_way.KeySent.{KeySent}
use Rattle.lines_explained.specs.declared.outcome.Outcome.{Outcome}
use Rattle.lines_explained.specs.declared.outcome.Outcome.TheVariants.{Queued, ReachedNobody}
use Rattle.lines_explained.specs.Deed.{begun}
use Rattle.lines_explained.specs.Lack.{lack_of, lack_words}
use Rattle.lines_explained.specs.KeyWay.{key_before, key_end_words}
use Rattle.lines_explained.specs.Outcome.{outcome_of, outcome_words}
use Rattle.lines_explained.specs.Changes.{changes_words}
use Rattle.broker_model.specs.declared.journal.Entry.{Entry}
use Rattle.broker_model.specs.declared.journal.Entry.TheVariants as entries
use Rattle.broker_core.specs.Watched.{Watched}
use Rattle.broker_core.specs.Watched.Watched.{Entered, Passed, Put}
use Rattle.lines_explained.specs.declared.explainer.Lines.{Lines}
use Rattle.lines_explained.specs.declared.explainer.Lines.TheVariants.{All, BadOnly}
use Rattle.lines_explained.specs.declared.open.Open.{Open}

-- what the batch comes to that the act commits after these acts; no other act commits one
abbrev pub fate_before : Act → List Act → Option BatchFate
fate_before (MCommit m serial) log = Some (fate (history log) m serial)
fate_before _ log = None

-- what came of a batch, if there was one
abbrev pub batch_words : Option BatchFate → Bool → List ℕ
batch_words None was_put = []
batch_words (Some fate) was_put = outcome_words (outcome_of fate was_put)

-- it reached nobody
abbrev pub nobody : Outcome → Bool
nobody (Queued f count) = false
nobody (ReachedNobody why) = true

-- the batch, if there was one, reached nobody
abbrev pub is_nobody : Option BatchFate → Bool → Bool
is_nobody None was_put = false
is_nobody (Some fate) was_put = nobody (outcome_of fate was_put)

-- a line that was begun, the seat before its act, what its batch comes to, what is known of the key
-- that it sends, and whether the shell was told a key since, and a group was put
pub record Begun : Type 0 where
  pub line : List ℕ
  pub before : Seat
  pub fate : Option BatchFate
  pub sent : Option KeySent
  pub was_passed : Bool
  pub was_put : Bool

-- a line with what is kept of its entry
abbrev pub begun_with : List ℕ → Open → Begun
begun_with line opening =
    record {
      line = line;
      before = opening.before;
      fate = opening.fate;
      sent = opening.sent;
      was_passed = opening.was_passed;
      was_put = opening.was_put;
    }

-- the same, if there is an entry
abbrev pub begun_of : List ℕ → Option Open → Option Begun
begun_of line None = None
begun_of line (Some opening) = Some (begun_with line opening)

-- how a line ends: what came of a batch, where a key went, and what changed of the seat
abbrev pub end_words : Begun → Seat → List ℕ
end_words b after =
    batch_words b.fate b.was_put
    ++ (key_end_words b.sent b.was_passed b.was_put ++ (changes_words b.before after ++ 10 ∷ []))

-- the whole line
abbrev pub whole : Seat → Begun → List ℕ
whole after b = b.line ++ end_words b after

-- the line where it is wanted
abbrev pub wanted : Lines → Bool → List ℕ → List ℕ
wanted All bad line = line
wanted BadOnly true line = line
wanted BadOnly false line = []

-- the line of what was begun, if anything was
abbrev pub line_text : Lines → Seat → Option Begun → List ℕ
line_text lines after None = []
line_text lines after (Some b) = wanted lines (is_nobody b.fate b.was_put) (whole after b)

-- how many peers joined, modulo 2^32, after the entry
abbrev pub peers_after : Entry → ℕ → ℕ
peers_after (entries.Join role) peers = (peers + 1) % 2 ^ 32
peers_after _ peers = peers

-- whose a header is, and what it tells
abbrev pub head_source : ℕ → List ℕ → Source
head_source q head = sources.Head q (id_of head) (opcode_of head) (size_of head)

-- whose entry it is, after which so many peers joined
abbrev pub source_of : Entry → ℕ → Source
source_of (entries.Join role) peers = sources.Peer peers
source_of (entries.Message q id opcode body) peers = sources.Object q id opcode
source_of (entries.Tokens q tokens) peers = sources.Peer q
source_of (entries.BadSize q head) peers = head_source q head
source_of (entries.End q cause) peers = sources.Peer q
source_of (entries.Shell step) peers = sources.Shell
source_of (entries.Took q bytes) peers = sources.Peer q

-- what is said of an entry before its act is taken, which comes after these acts: its number,
-- whose it is, what it is, and why it has no effect, where it has none
abbrev pub first_words : ℕ → ℕ → Entry → Act → List Act → List ℕ
first_words n peers e act log = begun n (source_of e peers) act ++ lack_words (lack_of e act log)

-- which lines are wanted, the lines so far, the newest entry, how many peers joined, and whether
-- there was no memory for a line
pub record Explaining : Type 0 where
  pub lines : Lines
  pub text : List ℕ
  pub newest : Option Begun
  pub peers : ℕ
  pub is_short : Bool

-- nothing is explained yet
abbrev pub blank : Lines → Explaining
blank lines = record { lines = lines; text = []; newest = None; peers = 0; is_short = false }

-- the line of the newest entry is finished, which left the seat so
abbrev pub closed : Seat → Explaining → Explaining
closed after x = record x { text = x.text ++ line_text x.lines after x.newest; newest = None }

-- the shell was told a key
abbrev pub passed_since : Option Begun → Option Begun
passed_since None = None
passed_since (Some b) = Some (record b { was_passed = true })

-- a group was put
abbrev pub put_since : Option Begun → Option Begun
put_since None = None
put_since (Some b) = Some (record b { was_put = true })

-- the line of the entry with the number is begun, whose act comes after these acts
abbrev pub opened : ℕ → Entry → Act → List Act → Explaining → Explaining
opened n e act log x =
    let peers = peers_after e x.peers in
    record x {
      newest = Some (record {
        line = first_words n peers e act log;
        before = seat (history log);
        fate = fate_before act log;
        sent = key_before act log;
        was_passed = false;
        was_put = false;
      });
      peers = peers;
    }

-- with what is watched, where there is memory for it
abbrev pub explained : Watched → Explaining → Explaining
explained (Entered n e act log) x = opened n e act log (closed (seat (history log)) x)
explained (Passed n time key state) x = record x { newest = passed_since x.newest }
explained (Put n q bytes tokens) x = record x { newest = put_since x.newest }
explained _ x = x

-- the text is as it was, or as it would be: it ends before a line
abbrev pub IsEither : (text was would : List ℕ) → Type 0
IsEither text was would = (text ≡ was) ⊎ (text ≡ would)

-- by whether it was short and is short: short, it stays so with the text that it has, which ends
-- before a line
abbrev pub IsExplained : Bool → Bool → Explaining → Watched → Explaining → Type 0
IsExplained true is before event after = after ≡ before
IsExplained false true before event after =
    IsEither after.text before.text (explained event before).text
IsExplained false false before event after = after ≡ explained event before

-- which explainers may follow one that is told something
abbrev pub MayExplain : Explaining → Watched → Explaining → Type 0
MayExplain before event after = IsExplained before.is_short after.is_short before event after
