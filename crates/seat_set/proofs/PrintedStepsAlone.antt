-- The line of a printed step plays that step alone.
use Rattle.std.proofs.Common.{◌≡◌, ℕ, List, [], ◌∷◌, ◌++◌, length, take, Bool, true, false, Some, refl, sym, ap, subst, ◌∙◌, arith}
use Rattle.std.specs.Prelude.{if◌then◌else◌, min, ◌==◌}
use Rattle.std.proofs.lemmas.Bool.{lt-leb, ne_eqb}
use Rattle.std.proofs.lemmas.List.{append-nil, take_all}
use Rattle.relay_model.specs.declared.act.EndCause.TheVariants.{Gone}
use Rattle.wl_wire.specs.Messages.{IsBad, opcode_of, body_of, messages, bad_size, behind}
use Rattle.broker_steps.specs.declared.limits.Limits.{Limits}
use Rattle.broker_steps.specs.declared.step.Step.TheVariants as steps
use Rattle.broker_steps.specs.declared.step.PeerStep.TheVariants as peers
use Rattle.session_text.specs.Steps.{message_bytes}
use Rattle.lines_transcript.proofs.PrintedStepsHold.{message_whole}
use Rattle.broker_model.specs.declared.journal.Entry.{Entry}
use Rattle.broker_model.specs.declared.journal.Entry.TheVariants as entries
use Rattle.broker_model.specs.Limits.{is_full}
use Rattle.broker_model.specs.Out.{stored, out_for}
use Rattle.broker_model.specs.Settle.{number_alive, settle}
use Rattle.broker_core.specs.Taking.{lives}
use Rattle.broker_cutter.specs.Steps.{message_entry, steps_in}
use Rattle.seat_set.specs.Played.{Waiting, Play, Played, went, step_played, steps_played, unread_by, with_unread, bytes_played, with_peer, take_played}
use Rattle.seat_set.specs.Laws.{IsIdle, IsSent, AreStored, IsSame, PrintedSteps}
use Rattle.seat_set.proofs.BytesGoOn.{left_as, live_bytes, first_is}
use Rattle.seat_set.proofs.DeadAfterBadSize.{dead_after}
use Rattle.broker_cutter.proofs.FirstSteps.{first_message, bad_size_steps}
use Rattle.seat_set.proofs.StepAnswers.{by_full}
use Rattle.seat_set.proofs.UnreadLists.{dead_left}

same : (p other : Played) → p ≡ other → IsSame p other
same p other e = record {
  full = ap (λ (x : Played). x.is_full) e;
  journal = ap (λ (x : Played). x.play.journal) e;
  play = λ f. ap (λ (x : Played). x.play) e;
}

-- a peer whose unread bytes are none keeps none
none_stays : (q : ℕ) (unread : List Waiting) → unread_by unread q ≡ [] → with_unread q [] unread ≡ unread
none_stays q [] h = refl
none_stays q (w ∷ rest) h = by (w.number == q) h (none_stays q rest)
  where
    by : (b : Bool) → (if b then w.bytes else unread_by rest q) ≡ [] →
        (unread_by rest q ≡ [] → with_unread q [] rest ≡ rest) →
        (if b then record w { bytes = [] } ∷ rest else w ∷ with_unread q [] rest) ≡ w ∷ rest
    by true e f = ap (λ (bytes : List ℕ). record { number = w.number; bytes = bytes } ∷ rest) (sym e)
    by false e f = ap (λ (ws : List Waiting). w ∷ ws) (f e)

-- one step of a live peer is played as any step

one_by : (limits : Limits) (q : ℕ) (e : Entry) (play : Play) (full : Bool) → lives play.journal q ≡ true →
    is_full limits play.journal e ≡ full →
    steps_played limits q (e ∷ []) play ≡ step_played limits e play
one_by limits q e play true h f = first_is limits q e [] play true h f ∙ sym (ap (by_full limits e play) f)
one_by limits q e play false h f = first_is limits q e [] play false h f ∙ sym (ap (by_full limits e play) f)

one_step : (limits : Limits) (q : ℕ) (e : Entry) (play : Play) → lives play.journal q ≡ true →
    steps_played limits q (e ∷ []) play ≡ step_played limits e play
one_step limits q e play h = one_by limits q e play (is_full limits play.journal e) h refl

-- a piece that is one step
piece_is : (limits : Limits) (q : ℕ) (e : Entry) (piece : List ℕ) (play : Play) → IsIdle play q →
    steps_in q piece ≡ e ∷ [] →
    bytes_played limits q piece play ≡ step_played limits e (left_as q (behind piece) play)
piece_is limits q e piece play i s =
    live_bytes limits q piece play i.live
    ∙ ap (λ (l : List ℕ). steps_played limits q (steps_in q (l ++ piece)) (left_as q (behind (l ++ piece)) play)) i.read
    ∙ ap (λ (l : List Entry). steps_played limits q l (left_as q (behind piece) play)) s
    ∙ one_step limits q e (left_as q (behind piece) play) i.live

nothing_in : (q : ℕ) → (steps_in q [] ≡ []) × (behind [] ≡ [])
unfolding messages bad_size
nothing_in q = (refl, refl)

-- a message
message_alone : (limits : Limits) (q id opcode : ℕ) (body : List ℕ) (play : Play) → IsIdle play q →
    IsSent (peers.Message id opcode body) →
    bytes_played limits q (message_bytes id opcode body) play ≡ step_played limits (entries.Message q id opcode body)
    play
message_alone limits q id opcode body play i s =
    let m : List ℕ = message_bytes id opcode body in
    let e : Entry = entries.Message q id opcode body in
    let whole = message_whole id opcode body s.0 s.1 s.2 in
    let first = first_message q m [] whole.0 in
    let all : m ++ [] ≡ m = append-nil m in
    let entry : message_entry q m ≡ e =
    ap (λ n. entries.Message q n (opcode_of m) (body_of m)) whole.1
    ∙ ap (λ n. entries.Message q id n (body_of m)) whole.2 ∙ ap (entries.Message q id opcode) whole.3 in
    let one : steps_in q m ≡ e ∷ [] =
    ap (λ (l : List ℕ). steps_in q l) (sym all) ∙ first.0 ∙ ap (λ (x : Entry). x ∷ steps_in q []) entry
    ∙ ap (λ (l : List Entry). e ∷ l) (nothing_in q).0 in
    let none : behind m ≡ [] = ap (λ (l : List ℕ). behind l) (sym all) ∙ first.1 ∙ (nothing_in q).1 in
    piece_is limits q e m play i one
    ∙ ap (λ (l : List ℕ). step_played limits e (left_as q l play)) none
    ∙ ap (λ (unread : List Waiting). step_played limits e (record { journal = play.journal; unread = unread }))
    (none_stays q play.unread i.read)

-- a bad size, behind which nothing is read

bad_by : (limits : Limits) (q : ℕ) (head left : List ℕ) (play : Play) (full : Bool) → lives play.journal q ≡ true →
    is_full limits play.journal (entries.BadSize q head) ≡ full →
    IsSame (step_played limits (entries.BadSize q head) (left_as q left play))
    (step_played limits (entries.BadSize q head) play)
bad_by limits q head left play true h f =
    let e : Entry = entries.BadSize q head in
    subst (λ (p : Played). IsSame p (step_played limits e play)) (sym (ap (by_full limits e (left_as q left play)) f))
    (subst (λ (p : Played). IsSame (record { play = left_as q left play; is_full = true }) p)
    (sym (ap (by_full limits e play) f))
    (record { full = refl; journal = refl; play = λ n. cc }))
bad_by limits q head left play false h f =
    let e : Entry = entries.BadSize q head in
    let J : List Entry = settle limits.store (e ∷ play.journal) in
    same (step_played limits e (left_as q left play)) (step_played limits e play)
    (ap (by_full limits e (left_as q left play)) f
    ∙ ap (λ (unread : List Waiting). went (record { journal = J; unread = unread }))
    (dead_left J q left play.unread (dead_after limits.store q head play.journal h))
    ∙ sym (ap (by_full limits e play) f))

bad_alone : (limits : Limits) (q : ℕ) (head : List ℕ) (play : Play) → IsIdle play q → IsSent (peers.BadSize head) →
    IsSame (bytes_played limits q head play) (step_played limits (entries.BadSize q head) play)
bad_alone limits q head play i s =
    let whole : take 8 head ≡ head = (let eight = s.1 in take_all 8 head (omega arith)) in
    let one : steps_in q head ≡ entries.BadSize q head ∷ [] =
    bad_size_steps q head (subst IsBad (sym whole) s.0) ∙ ap (λ (h : List ℕ). entries.BadSize q h ∷ []) whole in
    subst (λ (p : Played). IsSame p (step_played limits (entries.BadSize q head) play))
    (sym (piece_is limits q (entries.BadSize q head) head play i one))
    (bad_by limits q head (behind head) play (is_full limits play.journal (entries.BadSize q head)) i.live refl)

-- a take of what is stored
take_alone : (limits : Limits) (q n : ℕ) (play : Play) (a : AreStored limits play q n) →
    take_played limits q n play (Some a.peer) ≡ step_played limits (entries.Took q n) play
take_alone limits q n play a =
    let all : ℕ = length (stored (out_for limits.store play.journal a.peer.label)) in
    let some = a.some in
    let enough = a.enough in
    let least : min n all ≡ n = omega arith in
    ap (λ (b : Bool). (if b then went play else step_played limits (entries.Took q (min n all)) play))
    (ne_eqb (min n all) 0 (λ z. omega arith))
    ∙ ap (λ m. step_played limits (entries.Took q m) play) least

pub printed_steps : PrintedSteps
printed_steps limits (steps.Join role) play c =
    same _ _ (ap (λ (b : Bool). (if b then went play else step_played limits (entries.Join role) (with_peer play)))
    (lt-leb 64 (number_alive play.journal) c))
printed_steps limits (steps.Peer q (peers.Message id opcode body)) play c = same _ _
    (message_alone limits q id opcode body play c.0 c.1)
printed_steps limits (steps.Peer q (peers.BadSize head)) play c = bad_alone limits q head play c.0 c.1
printed_steps limits (steps.Peer q (peers.Tokens tokens)) play c =
    same _ _ (ap (λ (b : Bool). (if b then step_played limits (entries.Tokens q tokens) play else went play)) c.0.live)
printed_steps limits (steps.Peer q peers.Gone) play c =
    same _ _ (ap (λ (b : Bool). (if b then step_played limits (entries.End q Gone) play else went play)) c.0.live)
printed_steps limits (steps.Shell step) play c = same _ _ refl
printed_steps limits (steps.Take q n) play c = same _ _ (ap (take_played limits q n play) c.joined
    ∙ take_alone limits q n play c)
