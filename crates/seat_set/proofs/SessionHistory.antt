-- What lines lead to is the history of its outer steps.
use Rattle.std.proofs.Common.{◌≡◌, ℕ, List, [], ◌∷◌, ◌++◌, map, Bool, true, false, Option, Some, None, refl}
use Rattle.std.specs.Prelude.{if◌then◌else◌, min, nat_le, length, ◌==◌}
use Rattle.std.specs.List.{AllByRecursion}
use Rattle.relay_model.specs.declared.act.EndCause.TheVariants.{Gone}
use Rattle.broker_steps.specs.declared.limits.Limits.{Limits}
use Rattle.session_text.specs.declared.line.SessionLine.{SessionLine}
use Rattle.session_text.specs.declared.line.SessionLine.TheVariants as lines
use Rattle.wl_wire.specs.Messages.{messages, bad_size, behind}
use Rattle.broker_model.specs.declared.journal.Entry.{Entry}
use Rattle.broker_model.specs.declared.journal.Entry.TheVariants as entries
use Rattle.broker_model.specs.Ids.{Joined, peer_at}
use Rattle.broker_model.specs.Limits.{is_full}
use Rattle.broker_model.specs.Out.{stored, out_for}
use Rattle.broker_model.specs.Resolve.{past_of}
use Rattle.broker_model.specs.Settle.{number_alive, settle, history, step_of, outer}
use Rattle.broker_model.proofs.SettlingEnds.{history_stays}
use Rattle.broker_core.specs.Taking.{lives}
use Rattle.broker_cutter.specs.Steps.{message_entry, bad_entries, steps_in}
use Rattle.seat_set.specs.Played.{Play, Played, went, with_step, step_played, steps_played, unread_of, with_unread, bytes_played, with_peer, take_played, line_played}
use Rattle.seat_set.specs.Laws.{lines_played, unplayed, SessionLaw}

-- a journal that is the history of its outer steps
abbrev IsHistory : Limits → List Entry → Type 0
IsHistory limits journal = history limits.store (outer journal) ≡ journal

-- an entry that no settling appends
abbrev IsOuter : Entry → Type 0
IsOuter e = step_of e ≡ e ∷ []

step_history : (limits : Limits) (e : Entry) (journal : List Entry) → IsOuter e → IsHistory limits journal →
    IsHistory limits (settle limits.store (e ∷ journal))
step_history limits e journal o h = history_stays limits.store e journal o h

step_is : (limits : Limits) (e : Entry) (play : Play) → IsOuter e → IsHistory limits play.journal →
    IsHistory limits (step_played limits e play).play.journal
step_is limits e play o h = by (is_full limits play.journal e)
  where
    by : (b : Bool) → IsHistory limits (if b then record { play = play; is_full = true } else went
        (with_step limits e play)).play.journal
    by true = h
    by false = step_history limits e play.journal o h

steps_are : (limits : Limits) (q : ℕ) (steps : List Entry) (play : Play) → AllByRecursion IsOuter steps →
    IsHistory limits play.journal →
    IsHistory limits (steps_played limits q steps play).play.journal
steps_are limits q [] play o h = h
steps_are limits q (e ∷ rest) play o h =
    by (lives play.journal q) (is_full limits play.journal e)
    (steps_are limits q rest (with_step limits e play) o.1 (step_history limits e play.journal o.0 h))
  where
    by : (b c : Bool) → IsHistory limits (steps_played limits q rest (with_step limits e play)).play.journal →
        IsHistory limits
        (if b then (if c then record { play = play; is_full = true } else steps_played limits q rest
        (with_step limits e play)) else went play).play.journal
    by true true k = h
    by true false k = k
    by false c k = h

-- all that bytes give are outer steps

bad_outer : (q : ℕ) (rest : List ℕ) (bad : Option ℕ) → AllByRecursion IsOuter (bad_entries q rest bad)
bad_outer q rest None = tt
bad_outer q rest (Some size) = (refl, tt)

all_outer : (q : ℕ) (ms : List (List ℕ)) (rest : List ℕ) (bad : Option ℕ) →
    AllByRecursion IsOuter (map (message_entry q) ms ++ bad_entries q rest bad)
all_outer q [] rest bad = bad_outer q rest bad
all_outer q (m ∷ ms) rest bad = (refl, all_outer q ms rest bad)

bytes_are : (limits : Limits) (q : ℕ) (piece : List ℕ) (play : Play) → IsHistory limits play.journal →
    IsHistory limits (bytes_played limits q piece play).play.journal
bytes_are limits q piece play h = by (lives play.journal q)
  where
    bytes : List ℕ
    bytes = unread_of play q ++ piece

    by : (b : Bool) → IsHistory limits
        (if b then steps_played limits q (steps_in q bytes) (record play
        { unread = with_unread q (behind bytes) play.unread }) else went play).play.journal
    by true =
        steps_are limits q (steps_in q bytes) (record play { unread = with_unread q (behind bytes) play.unread })
        (all_outer q (messages bytes) (behind bytes) (bad_size bytes)) h
    by false = h

take_is : (limits : Limits) (q n : ℕ) (play : Play) (o : Option Joined) → IsHistory limits play.journal →
    IsHistory limits (take_played limits q n play o).play.journal
take_is limits q n play None h = h
take_is limits q n play (Some peer) h = by (min n (length (stored (out_for limits.store play.journal peer.label))) == 0)
  where
    by : (b : Bool) → IsHistory limits
        (if b then went play else step_played limits (entries.Took q
        (min n (length (stored (out_for limits.store play.journal peer.label))))) play).play.journal
    by true = h
    by false = step_is limits (entries.Took q (min n (length (stored (out_for limits.store play.journal peer.label)))))
        play refl h

line_is : (limits : Limits) (line : SessionLine) (play : Play) → IsHistory limits play.journal →
    IsHistory limits (line_played limits line play).play.journal
line_is limits (lines.Join role) play h = by (nat_le 64 (number_alive play.journal))
  where
    by : (b : Bool) → IsHistory limits (if b then went play else step_played limits (entries.Join role)
        (with_peer play)).play.journal
    by true = h
    by false = step_is limits (entries.Join role) (with_peer play) refl h
line_is limits (lines.Bytes q piece) play h = bytes_are limits q piece play h
line_is limits (lines.Gone q) play h = by (lives play.journal q)
  where
    by : (b : Bool) → IsHistory limits (if b then step_played limits (entries.End q Gone) play else went
        play).play.journal
    by true = step_is limits (entries.End q Gone) play refl h
    by false = h
line_is limits (lines.Take q n) play h = take_is limits q n play (peer_at (past_of play.journal) q) h
line_is limits (lines.Tokens q tokens) play h = by (lives play.journal q)
  where
    by : (b : Bool) → IsHistory limits (if b then step_played limits (entries.Tokens q tokens) play else went
        play).play.journal
    by true = step_is limits (entries.Tokens q tokens) play refl h
    by false = h
line_is limits (lines.Shell step) play h = step_is limits (entries.Shell step) play refl h

lines_are : (limits : Limits) (all : List SessionLine) (play : Play) → IsHistory limits play.journal →
    IsHistory limits (lines_played limits all play).play.journal
lines_are limits [] play h = h
lines_are limits (line ∷ rest) play h =
    by (line_played limits line play).is_full (line_is limits line play h)
    (lines_are limits rest (line_played limits line play).play)
  where
    p : Played
    p = line_played limits line play

    by : (b : Bool) → IsHistory limits p.play.journal → (IsHistory limits p.play.journal →
        IsHistory limits (lines_played limits rest p.play).play.journal) →
        IsHistory limits (if b then p else lines_played limits rest p.play).play.journal
    by true k f = k
    by false k f = f k

pub session_law : SessionLaw
session_law limits all = lines_are limits all unplayed refl
