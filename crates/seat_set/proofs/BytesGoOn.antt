-- Bytes of a peer, one step after the other.
use Rattle.std.proofs.Common.{◌≡◌, ℕ, List, [], ◌∷◌, ◌++◌, drop, Bool, true, false, Result, Ok, Err, refl, sym, ap, ap₂, subst, ◌∙◌}
use Rattle.std.specs.Prelude.{if◌then◌else◌}
use Rattle.wl_wire.specs.Messages.{behind}
use Rattle.broker_steps.specs.declared.limits.Limits.{Limits}
use Rattle.broker_steps.specs.declared.step.PeerStep.{PeerStep}
use Rattle.broker_model.specs.declared.journal.Entry.{Entry}
use Rattle.broker_model.specs.declared.journal.Entry.TheVariants as entries
use Rattle.broker_model.specs.Limits.{is_full}
use Rattle.broker_model.specs.Settle.{settle}
use Rattle.broker_core.specs.Broker.{kept_in, peer_entry}
use Rattle.broker_core.specs.Taking.{lives}
use Rattle.seat_set.specs.declared.session.Stop.{Stop}
use Rattle.seat_set.specs.declared.session.Stop.TheVariants as stops
use Rattle.broker_cutter.specs.Steps.{steps_in}
use Rattle.seat_set.specs.Played.{Waiting, Play, Played, went, with_step, step_played, steps_played, unread_of, with_unread, bytes_played}
use Rattle.seat_set.specs.Playing.{IsMore, IsPlayed}
use Rattle.seat_set.specs.Unread.{IsFirst, IsLast}
use Rattle.seat_set.proofs.DeadAfterBadSize.{dead_after}
use Rattle.seat_set.proofs.JournalGrows.{more_both, steps_grow}
use Rattle.seat_set.proofs.StepAnswers.{by_full}
use Rattle.seat_set.proofs.UnreadLists.{dead_left, alive_left, none_left}

-- the unread bytes of the peer q are these
abbrev pub left_as : ℕ → List ℕ → Play → Play
left_as q bytes play = record play { unread = with_unread q bytes play.unread }

abbrev alive_by : Limits → ℕ → List ℕ → Play → Bool → Played
alive_by limits q bytes play t = (if t then steps_played limits q (steps_in q bytes) (left_as q (behind bytes) play)
    else went play)

-- of a live peer
pub live_bytes : (limits : Limits) (q : ℕ) (piece : List ℕ) (play : Play) → lives play.journal q ≡ true →
    bytes_played limits q piece play
    ≡ steps_played limits q (steps_in q (unread_of play q ++ piece))
    (left_as q (behind (unread_of play q ++ piece)) play)
live_bytes limits q piece play h = ap (alive_by limits q (unread_of play q ++ piece) play) h

pub dead_bytes : (limits : Limits) (q : ℕ) (piece : List ℕ) (play : Play) → lives play.journal q ≡ false →
    bytes_played limits q piece play ≡ went play
dead_bytes limits q piece play h = ap (alive_by limits q (unread_of play q ++ piece) play) h

-- the first step of several

abbrev pub first_by : Limits → ℕ → Entry → List Entry → Play → Bool → Bool → Played
first_by limits q e rest play alive full =
    (if alive then (if full then record { play = play; is_full = true } else steps_played limits q rest
    (with_step limits e play)) else went play)

pub first_is : (limits : Limits) (q : ℕ) (e : Entry) (rest : List Entry) (play : Play) (full : Bool) →
    lives play.journal q ≡ true →
    is_full limits play.journal e ≡ full → steps_played limits q (e ∷ rest) play ≡ first_by limits q e rest play
    true full
first_is limits q e rest play full h f =
    ap (λ t. first_by limits q e rest play t (is_full limits play.journal e)) h
    ∙ ap (first_by limits q e rest play true) f

steps_dead : (limits : Limits) (q : ℕ) (steps : List Entry) (play : Play) → lives play.journal q ≡ false →
    steps_played limits q steps play ≡ went play
steps_dead limits q [] play h = refl
steps_dead limits q (e ∷ rest) play h = ap (λ t. first_by limits q e rest play t
    (is_full limits play.journal e)) h

-- a step that isn't played to its end

err_by : (limits : Limits) (q : ℕ) (e : Entry) (rest : List Entry) (play now after : Play) (stop : Stop) (full : Bool) →
    lives play.journal q ≡ true →
    now.journal ≡ play.journal → is_full limits play.journal e ≡ full →
    IsPlayed (step_played limits e now) (Err stop) after →
    IsPlayed (steps_played limits q (e ∷ rest) play) (Err stop) after
err_by limits q e rest play now after (stops.Full kept) true h j f p =
    let full = ap (λ (l : List Entry). is_full limits l e) j ∙ f in
    let here = subst (λ (x : Played). IsPlayed x (Err (stops.Full kept)) after) (ap (by_full limits e now) full) p in
    subst (λ (x : Played). IsPlayed x (Err (stops.Full kept)) after) (sym (first_is limits q e rest play true h f))
    (refl, here.1 ∙ ap (λ l. kept_in l) j, here.2 ∙ j)
err_by limits q e rest play now after (stops.Full kept) false h j f p =
    let full = ap (λ (l : List Entry). is_full limits l e) j ∙ f in
    let no = sym (ap (λ (x : Played). x.is_full) (ap (by_full limits e now) full)) ∙ p.0 in cc
err_by limits q e rest play now after stops.NoMemory true h j f p =
    let full = ap (λ (l : List Entry). is_full limits l e) j ∙ f in
    let here = subst (λ (x : Played). IsMore after.journal x.play.journal) (ap (by_full limits e now) full) p in
    subst (λ (x : Played). IsMore after.journal x.play.journal) (sym (first_is limits q e rest play true h f))
    (subst (λ (l : List Entry). IsMore after.journal l) j here)
err_by limits q e rest play now after stops.NoMemory false h j f p =
    let full = ap (λ (l : List Entry). is_full limits l e) j ∙ f in
    let here = subst (λ (x : Played). IsMore after.journal x.play.journal) (ap (by_full limits e now) full) p in
    subst (λ (x : Played). IsMore after.journal x.play.journal) (sym (first_is limits q e rest play false h f))
    (more_both after.journal (settle limits.store (e ∷ play.journal))
    (steps_played limits q rest (with_step limits e play)).play.journal
    (subst (λ (l : List Entry). IsMore after.journal (settle limits.store (e ∷ l))) j here)
    (steps_grow limits q rest (with_step limits e play)))

-- a message that was found in a piece

pub message_err : (limits : Limits) (q : ℕ) (piece left : List ℕ) (play now after : Play) (step : PeerStep) (used : ℕ)
    (stop : Stop) →
    lives play.journal q ≡ true → IsFirst q (unread_of play q ++ piece) piece step used left →
    now.journal ≡ play.journal →
    IsPlayed (step_played limits (peer_entry q step) now) (Err stop) after →
    IsPlayed (bytes_played limits q piece play) (Err stop) after
message_err limits q piece left play now after step used stop h f j p =
    let bytes : List ℕ = unread_of play q ++ piece in
    subst (λ (x : Played). IsPlayed x (Err stop) after)
    (sym (live_bytes limits q piece play h ∙ ap (λ (l : List Entry). steps_played limits q l
    (left_as q (behind bytes) play)) f.steps))
    (err_by limits q (peer_entry q step) (steps_in q (drop used piece)) (left_as q (behind bytes) play) now after stop
    (is_full limits play.journal (peer_entry q step)) h j refl p)

goes_by : (limits : Limits) (q : ℕ) (e : Entry) (rest : List ℕ) (play : Play) (alive : Bool) →
    lives (settle limits.store (e ∷ play.journal)) q ≡ alive →
    steps_played limits q (steps_in q rest) (with_step limits e (left_as q (behind rest) play))
    ≡ bytes_played limits q rest (with_step limits e (left_as q [] play))
goes_by limits q e rest play false h =
    let J : List Entry = settle limits.store (e ∷ play.journal) in
    steps_dead limits q (steps_in q rest) (with_step limits e (left_as q (behind rest) play)) h
    ∙ ap (λ (unread : List Waiting). went (record { journal = J; unread = unread }))
    (dead_left J q (behind rest) play.unread h ∙ sym (dead_left J q [] play.unread h))
    ∙ sym (dead_bytes limits q rest (with_step limits e (left_as q [] play)) h)
goes_by limits q e rest play true h =
    let J : List Entry = settle limits.store (e ∷ play.journal) in
    let next : Play = with_step limits e (left_as q [] play) in
    let empty : unread_of next q ++ rest ≡ rest = ap (λ (l : List ℕ). l ++ rest) (none_left J q play.unread) in
    sym (live_bytes limits q rest next h
    ∙ ap (λ (bytes : List ℕ). steps_played limits q (steps_in q bytes) (left_as q (behind bytes) next)) empty
    ∙ ap (λ (unread : List Waiting). steps_played limits q (steps_in q rest) (record { journal = J; unread = unread }))
    (alive_left J q [] (behind rest) play.unread h))

ok_by : (limits : Limits) (q : ℕ) (e : Entry) (rest : List ℕ) (play after : Play) (full : Bool) →
    lives play.journal q ≡ true →
    is_full limits play.journal e ≡ full → IsPlayed (step_played limits e (left_as q [] play)) (Ok tt) after →
    steps_played limits q (e ∷ steps_in q rest) (left_as q (behind rest) play) ≡ bytes_played limits q rest after
ok_by limits q e rest play after true h f p =
    (let no = sym (ap (λ (x : Played). x.is_full) (ap (by_full limits e (left_as q [] play)) f)) ∙ p.0 in cc)
ok_by limits q e rest play after false h f p =
    first_is limits q e (steps_in q rest) (left_as q (behind rest) play) false h f
    ∙ goes_by limits q e rest play (lives (settle limits.store (e ∷ play.journal)) q) refl
    ∙ ap (bytes_played limits q rest) (sym (p.1 ∙ ap (λ (x : Played). x.play)
    (ap (by_full limits e (left_as q [] play)) f)))

pub message_ok : (limits : Limits) (q : ℕ) (piece left : List ℕ) (play now after : Play) (step : PeerStep) (used : ℕ) →
    lives play.journal q ≡ true → IsFirst q (unread_of play q ++ piece) piece step used left →
    now ≡ left_as q left play →
    IsPlayed (step_played limits (peer_entry q step) now) (Ok tt) after →
    bytes_played limits q piece play ≡ bytes_played limits q (drop used piece) after
message_ok limits q piece left play now after step used h f n p =
    let bytes : List ℕ = unread_of play q ++ piece in
    let was : now ≡ left_as q [] play = n ∙ ap (λ (l : List ℕ). left_as q l play) f.none_left in
    live_bytes limits q piece play h
    ∙ ap₂ (λ (l : List Entry) (b : List ℕ). steps_played limits q l (left_as q b play)) f.steps f.behind_same
    ∙ ok_by limits q (peer_entry q step) (drop used piece) play after
    (is_full limits play.journal (peer_entry q step)) h refl
    (subst (λ (x : Play). IsPlayed (step_played limits (peer_entry q step) x) (Ok tt) after) was p)

-- a bad size, behind which nothing is read

last_by : (limits : Limits) (q : ℕ) (head left bytes : List ℕ) (play after : Play) (full : Bool) →
    lives play.journal q ≡ true →
    is_full limits play.journal (entries.BadSize q head) ≡ full →
    IsPlayed (step_played limits (entries.BadSize q head) (left_as q left play)) (Ok tt) after →
    IsPlayed (steps_played limits q (entries.BadSize q head ∷ []) (left_as q bytes play)) (Ok tt) after
last_by limits q head left bytes play after true h f p =
    (let no = sym (ap (λ (x : Played). x.is_full) (ap (by_full limits (entries.BadSize q head) (left_as q left play))
    f)) ∙ p.0 in cc)
last_by limits q head left bytes play after false h f p =
    let e : Entry = entries.BadSize q head in
    let J : List Entry = settle limits.store (e ∷ play.journal) in
    let dead : lives J q ≡ false = dead_after limits.store q head play.journal h in
    subst (λ (x : Played). IsPlayed x (Ok tt) after) (sym (first_is limits q e [] (left_as q bytes play) false h f)) (
      refl,
      p.1 ∙ ap (λ (x : Played). x.play) (ap (by_full limits e (left_as q left play)) f)
          ∙ ap (λ (unread : List Waiting). record { journal = J; unread = unread })
          (dead_left J q left play.unread dead ∙ sym (dead_left J q bytes play.unread dead)),
    )

bad_by : (limits : Limits) (q : ℕ) (head left bytes : List ℕ) (play now after : Play) (r : Result (Unit {0}) Stop) →
    lives play.journal q ≡ true →
    now ≡ left_as q left play → IsPlayed (step_played limits (entries.BadSize q head) now) r after →
    IsPlayed (steps_played limits q (entries.BadSize q head ∷ []) (left_as q bytes play)) r after
bad_by limits q head left bytes play now after (Err stop) h n p =
    err_by limits q (entries.BadSize q head) [] (left_as q bytes play) now after stop
    (is_full limits play.journal (entries.BadSize q head)) h
    (ap (λ (x : Play). x.journal) n) refl p
bad_by limits q head left bytes play now after (Ok done) h n p =
    last_by limits q head left bytes play after (is_full limits play.journal (entries.BadSize q head)) h refl
    (subst (λ (x : Play). IsPlayed (step_played limits (entries.BadSize q head) x) (Ok tt) after) n p)

pub bad_size : (limits : Limits) (q : ℕ) (piece left : List ℕ) (play now after : Play) (step : PeerStep)
    (r : Result (Unit {0}) Stop) →
    lives play.journal q ≡ true → IsLast q (unread_of play q ++ piece) step → now ≡ left_as q left play →
    IsPlayed (step_played limits (peer_entry q step) now) r after → IsPlayed (bytes_played limits q piece play) r after
bad_size limits q piece left play now after step r h f n p =
    let bytes : List ℕ = unread_of play q ++ piece in
    let goes : bytes_played limits q piece play ≡ steps_played limits q (entries.BadSize q f.head ∷ [])
    (left_as q (behind bytes) play) =
    live_bytes limits q piece play h ∙ ap (λ (l : List Entry). steps_played limits q l (left_as q (behind bytes) play))
    f.steps in
    subst (λ (x : Played). IsPlayed x r after) (sym goes)
    (bad_by limits q f.head left (behind bytes) play now after r h n
    (subst (λ (s : PeerStep). IsPlayed (step_played limits (peer_entry q s) now) r after) f.is p))
