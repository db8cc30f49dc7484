-- The lines of a generated session lead to its journal.
use Rattle.std.proofs.Common.{◌≡◌, ℕ, zero, suc, ◌+◌, ◌<◌, ◌≤◌, List, [], ◌∷◌, ◌++◌, length, filter, Bool, true, false, Option, Some, None, refl, sym, ap, subst, ◌∙◌, arith}
use Rattle.std.specs.Prelude.{if◌then◌else◌, min, nat_le, ◌==◌}
use Rattle.std.specs.List.{AllByRecursion}
use Rattle.wl_wire.specs.Messages.{behind}
use Rattle.relay_model.specs.declared.role.Role.{Role}
use Rattle.broker_steps.specs.declared.step.Step.{Step}
use Rattle.broker_steps.specs.declared.step.Step.TheVariants as steps
use Rattle.broker_steps.specs.declared.step.PeerStep.TheVariants as peers
use Rattle.session_text.specs.declared.line.SessionLine.{SessionLine}
use Rattle.session_text.specs.Steps.{message_bytes, step_line}
use Rattle.broker_model.specs.declared.journal.Entry.{Entry}
use Rattle.broker_model.specs.declared.journal.Entry.TheVariants as entries
use Rattle.broker_model.specs.Ids.{Joined, peer_at}
use Rattle.broker_model.specs.Limits.{weight_of, is_full}
use Rattle.broker_model.specs.Out.{stored, out_for}
use Rattle.broker_model.specs.Resolve.{past_of}
use Rattle.broker_model.specs.Settle.{number_alive, settle}
use Rattle.broker_core.specs.Taking.{lives}
use Rattle.seat_set.specs.Played.{Waiting, Play, Played, went, with_step, step_played, steps_played, with_unread, unread_by, unread_of, bytes_played, with_peer, join_played, take_played, line_played}
use Rattle.seat_set.specs.Steps.{steps_in}
use Rattle.seat_set.specs.Laws.{lines_played, unplayed}
use Rattle.seat_set.proofs.PrintedStepsAlone.{printed_steps}
use Rattle.session_gen.specs.Generated.{step_count}
use Rattle.program_gen.specs.Steps.{after_join, after_take, after_step}
use Rattle.program_gen.specs.Room.{HasRoom}
use Rattle.program_gen.specs.Journals.{limits, put_sum, method_dones, journal_of, step_at}
use Rattle.program_gen.specs.Laws.{lines_up_to, LinesReplay}
use Rattle.program_gen.proofs.RoomLeft.{journal_next, has_room}
use Rattle.program_gen.proofs.StepsTaken.{not_full}
use Rattle.program_gen.proofs.GeneratedSteps.{IsGenerated, step_sent}

-- no peer has unread bytes

abbrev IsRead : Waiting → Type 0
IsRead w = w.bytes ≡ []

abbrev AreRead : List Waiting → Type 0
AreRead unread = AllByRecursion IsRead unread

none_by : (unread : List Waiting) (q : ℕ) → AreRead unread → unread_by unread q ≡ []
none_by [] q h = refl
none_by (w ∷ rest) q h = by (w.number == q) (none_by rest q h.1)
  where
    by : (b : Bool) → unread_by rest q ≡ [] → (if b then w.bytes else unread_by rest q) ≡ []
    by true k = h.0
    by false k = k

left_read : (p : Waiting → Bool) (unread : List Waiting) → AreRead unread → AreRead (filter p unread)
left_read p [] h = tt
left_read p (w ∷ rest) h = by (p w) (left_read p rest h.1)
  where
    by : (b : Bool) → AreRead (filter p rest) → AreRead (if b then w ∷ filter p rest else filter p rest)
    by true k = (h.0, k)
    by false k = k

more_read : (unread : List Waiting) (w : Waiting) → AreRead unread → IsRead w → AreRead (unread ++ w ∷ [])
more_read [] w h k = (k, tt)
more_read (v ∷ rest) w h k = (h.0, more_read rest w h.1 k)

-- the journal is this, it wasn't full, and nothing is unread
record IsAt (p : Played) (journal : List Entry) : Type 0 where
  goes : p.is_full ≡ false
  is : p.play.journal ≡ journal
  read : AreRead p.play.unread

-- one entry

entry_at : (e : Entry) (play : Play) → is_full limits play.journal e ≡ false → AreRead play.unread →
    IsAt (step_played limits e play) (settle limits.store (e ∷ play.journal))
entry_at e play f r =
    subst (λ (p : Played). IsAt p (settle limits.store (e ∷ play.journal)))
    (sym (ap (λ (b : Bool). (if b then record { play = play; is_full = true } else went (with_step limits e play))) f))
    (record {
      goes = refl;
      is = refl;
      read = left_read (λ w. lives (settle limits.store (e ∷ play.journal)) w.number) play.unread r;
    })

stays_at : (play : Play) → AreRead play.unread → IsAt (went play) play.journal
stays_at play r = record { goes = refl; is = refl; read = r }

-- each step

room_for : (play : Play) (e : Entry) → HasRoom limits play.journal →
    weight_of e ≤ 4104 → is_full limits play.journal e ≡ false
room_for play e room w = not_full limits play.journal e room w

join_at : (role : Role) (play : Play) → HasRoom limits play.journal →
    AreRead play.unread → IsAt (join_played limits (entries.Join role) play) (after_join limits.store role play.journal)
join_at role play room r = by (nat_le 64 (number_alive play.journal))
  where
    by : (b : Bool) → IsAt (if b then went play else step_played limits (entries.Join role) (with_peer play))
        (if b then play.journal else settle limits.store (entries.Join role ∷ play.journal))
    by true = stays_at play r
    by false =
        entry_at (entries.Join role) (with_peer play) (room_for play (entries.Join role) room (omega arith))
        (more_read play.unread (record { number = length (past_of play.journal).joined + 1; bytes = [] }) r refl)

message_at : (q id opcode : ℕ) (body : List ℕ) (play : Play) →
    IsGenerated (steps.Peer q (peers.Message id opcode body)) →
    HasRoom limits play.journal → AreRead play.unread → (b : Bool) →
    lives play.journal q ≡ b →
    IsAt (bytes_played limits q (message_bytes id opcode body) play)
    (if b then settle limits.store (entries.Message q id opcode body ∷ play.journal) else play.journal)
message_at q id opcode body play g room r true l =
    let e : Entry = entries.Message q id opcode body in
    let few = g.2.0 in
    let there = entry_at e play (room_for play e room (omega arith)) r in
    let same = printed_steps limits (steps.Peer q (peers.Message id opcode body)) play
    (record { live = l; read = none_by play.unread q r }, g) in
    let play_is = same.play there.goes in
    record {
      goes = same.full ∙ there.goes;
      is = same.journal ∙ there.is;
      read = subst (λ (x : Play). AreRead x.unread) (sym play_is) there.read;
    }
message_at q id opcode body play g room r false l =
    subst (λ (p : Played). IsAt p play.journal) (sym (ap by l)) (stays_at play r)
  where
    bytes : List ℕ
    bytes = unread_of play q ++ message_bytes id opcode body

    by : Bool → Played
    by b = (if b then steps_played limits q (steps_in q bytes) (record play
        { unread = with_unread q (behind bytes) play.unread }) else went play)

take_at : (q n : ℕ) (play : Play) (o : Option Joined) → HasRoom limits play.journal →
    AreRead play.unread → IsAt (take_played limits q n play o) (after_take limits.store q n play.journal o)
take_at q n play None room r = stays_at play r
take_at q n play (Some peer) room r = by (m == 0)
  where
    m : ℕ
    m = min n (length (stored (out_for limits.store play.journal peer.label)))

    by : (b : Bool) → IsAt (if b then went play else step_played limits (entries.Took q m) play)
        (if b then play.journal else settle limits.store (entries.Took q m ∷ play.journal))
    by true = stays_at play r
    by false = entry_at (entries.Took q m) play (room_for play (entries.Took q m) room (omega arith)) r

line_at : (step : Step) (play : Play) → IsGenerated step →
    HasRoom limits play.journal → AreRead play.unread →
    IsAt (line_played limits (step_line step) play) (after_step limits.store step play.journal)
line_at (steps.Join role) play g room r = join_at role play room r
line_at (steps.Peer q (peers.Message id opcode body)) play g room r =
    message_at q id opcode body play g room r (lives play.journal q) refl
line_at (steps.Peer q (peers.BadSize head)) play g room r = absurd g
line_at (steps.Peer q (peers.Tokens tokens)) play g room r = absurd g
line_at (steps.Peer q peers.Gone) play g room r = absurd g
line_at (steps.Shell step) play g room r =
    entry_at (entries.Shell step) play (room_for play (entries.Shell step) room (omega arith)) r
line_at (steps.Take q n) play g room r = take_at q n play (peer_at (past_of play.journal) q) room r

-- all of them

whole : (p : Played) → (if p.is_full then p else went p.play) ≡ p
whole p = by p.is_full refl
  where
    by : (b : Bool) → p.is_full ≡ b → (if b then p else went p.play) ≡ p
    by true e = refl
    by false e = ap (λ (b : Bool). record { play = p.play; is_full = b }) (sym e)

one_more : (xs : List SessionLine) (line : SessionLine) (play : Play) → (lines_played limits xs play).is_full ≡ false →
    lines_played limits (xs ++ line ∷ []) play ≡ line_played limits line (lines_played limits xs play).play
one_more [] line play f = whole (line_played limits line play)
one_more (x ∷ xs) line play f =
    by (line_played limits x play).is_full refl f (one_more xs line (line_played limits x play).play)
  where
    p : Played
    p = line_played limits x play

    by : (b : Bool) → p.is_full ≡ b → (if b then p else lines_played limits xs p.play).is_full ≡ false →
        ((lines_played limits xs p.play).is_full ≡ false →
        lines_played limits (xs ++ line ∷ []) p.play ≡ line_played limits line (lines_played limits xs p.play).play) →
        (if b then p else lines_played limits (xs ++ line ∷ []) p.play)
        ≡ line_played limits line (if b then p else lines_played limits xs p.play).play
    by true e g k = (let no = sym e ∙ g in cc)
    by false e g k = k g

lines_next : (n made : ℕ) → lines_up_to n (suc made) ≡ lines_up_to n made ++ step_line (step_at n made) ∷ []
unfolding lines_up_to
lines_next n made = refl

none_first : (n : ℕ) → (lines_up_to n 0 ≡ []) × (journal_of n 0 ≡ [])
unfolding lines_up_to journal_of
none_first n = (refl, refl)

generated : (n made : ℕ) → IsGenerated (step_at n made)
unfolding step_at
generated n made = step_sent n made (put_sum method_dones (journal_of n made))

next_at : (n made : ℕ) → made < step_count → (p : Played) → p ≡ lines_played limits (lines_up_to n made) unplayed →
    IsAt p (journal_of n made) → IsAt (line_played limits (step_line (step_at n made)) p.play) (journal_of n (suc made))
next_at n made few p e at =
    let room : HasRoom limits p.play.journal =
    subst (λ (journal : List Entry). HasRoom limits journal) (sym at.is) (has_room n made few) in
    let line = line_at (step_at n made) p.play (generated n made) room at.read in
    let journal : after_step limits.store (step_at n made) p.play.journal ≡ journal_of n (suc made) =
    ap (after_step limits.store (step_at n made)) at.is ∙ sym (journal_next n made) in
    subst (IsAt (line_played limits (step_line (step_at n made)) p.play)) journal line

lines_at : (n made : ℕ) → made ≤ step_count →
    IsAt (lines_played limits (lines_up_to n made) unplayed) (journal_of n made)
lines_at n zero few =
    let none = none_first n in
    subst (λ (xs : List SessionLine). IsAt (lines_played limits xs unplayed) (journal_of n 0)) (sym none.0)
    (record { goes = refl; is = sym none.1; read = tt })
lines_at n (suc made) few =
    let before = lines_at n made (omega arith) in
    let next = next_at n made (omega arith) (lines_played limits (lines_up_to n made) unplayed) refl before in
    subst (λ (xs : List SessionLine). IsAt (lines_played limits xs unplayed) (journal_of n (suc made)))
    (sym (lines_next n made))
    (subst (λ (p : Played). IsAt p (journal_of n (suc made)))
    (sym (one_more (lines_up_to n made) (step_line (step_at n made)) unplayed before.goes)) next)

pub lines_replay : LinesReplay
lines_replay n = (let all = lines_at n step_count (omega arith) in (all.goes, all.is))
