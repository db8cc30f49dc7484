-- A piece of bytes that is played step by step, from where it began.
use Rattle.std.proofs.Common.{◌≡◌, ℕ, List, [], ◌∷◌, ◌++◌, length, drop, Bool, true, false, Ok, Err, refl, sym, ap, ap₂, subst, ◌∙◌, arith}
use Rattle.std.specs.Prelude.{Result, ◌==◌, if◌then◌else◌}
use Rattle.std.proofs.lemmas.Bool.{eqb-true}
use Rattle.wl_wire.specs.Messages.{behind}
use Rattle.broker_steps.specs.declared.limits.Limits.{Limits}
use Rattle.broker_steps.specs.declared.step.PeerStep.{PeerStep}
use Rattle.broker_model.specs.declared.journal.Entry.{Entry}
use Rattle.broker_model.specs.Limits.{is_full}
use Rattle.broker_model.specs.Settle.{settle}
use Rattle.broker_core.specs.Broker.{peer_entry}
use Rattle.broker_core.specs.Taking.{lives}
use Rattle.broker_core.specs.Watched.{Watched}
use Rattle.seat_set.specs.declared.session.Stop.{Stop}
use Rattle.seat_set.specs.declared.unread.Found.TheVariants.{Message, BadSize}
use Rattle.broker_cutter.specs.Steps.{steps_in}
use Rattle.seat_set.specs.Unread.{IsUnfinished}
use Rattle.seat_set.specs.Played.{Waiting, Play, Played, went, of_live, unread_by, unread_of, with_unread, with_step, step_played, steps_played, bytes_played}
use Rattle.seat_set.specs.Playing.{Ongoing, IsMore, IsPlayed, IsWatched, IsRead}
use Rattle.broker_cutter.proofs.FirstSteps.{found_nothing}
use Rattle.seat_set.proofs.FirstSteps.{nothing_yet}
use Rattle.seat_set.proofs.UnreadLists.{none_left}
use Rattle.seat_set.proofs.BytesGoOn.{left_as, message_err, message_ok, bad_size}
use Rattle.seat_set.proofs.JournalGrows.{bytes_grow, watched_both}

-- what is left of a piece leads where the piece leads
abbrev pub IsOnWay : Ongoing → ℕ → List ℕ → Ongoing → List ℕ → Type 0
IsOnWay begin q piece at rest = bytes_played begin.limits q rest at.play ≡ bytes_played begin.limits q piece begin.play

left_is : (q : ℕ) (left : List ℕ) (play now : Play) → now.journal ≡ play.journal →
    now.unread ≡ (left_as q left play).unread → now ≡ left_as q left play
left_is q left play now j u = ap₂ (λ (journal : List Entry) (unread : List Waiting). record
    { journal = journal; unread = unread }) j u

pub read_short : (begin at : Ongoing) (q : ℕ) (piece rest : List ℕ) (after : Play) → IsOnWay begin q piece at rest →
    after.journal ≡ at.play.journal →
    IsMore after.journal (bytes_played begin.limits q piece begin.play).play.journal
read_short begin at q piece rest after w j =
    subst (λ (p : Played). IsMore after.journal p.play.journal) w
    (subst (λ (l : List Entry). IsMore l (bytes_played begin.limits q rest at.play).play.journal) (sym j)
    (bytes_grow begin.limits q rest at.play))

pub message_stops : (begin at read : Ongoing) (q : ℕ) (piece rest : List ℕ) (step : PeerStep) (used : ℕ) (stop : Stop)
    (after : Play) →
    at.limits ≡ begin.limits → read.limits ≡ at.limits → IsOnWay begin q piece at rest →
    lives at.play.journal q ≡ true →
    IsRead at q rest (Message step used) read → read.play.journal ≡ at.play.journal →
    IsPlayed (step_played read.limits (peer_entry q step) read.play) (Err stop) after →
    IsPlayed (bytes_played begin.limits q piece begin.play) (Err stop) after
message_stops begin at read q piece rest step used stop after l m w h r j p =
    subst (λ (x : Played). IsPlayed x (Err stop) after) w
    (message_err begin.limits q rest r.left at.play read.play after step used stop h r.finds j
    (subst (λ (x : Limits). IsPlayed (step_played x (peer_entry q step) read.play) (Err stop) after) (m ∙ l) p))

pub message_goes : (begin at read after : Ongoing) (q : ℕ) (piece rest more : List ℕ) (step : PeerStep) (used : ℕ) →
    at.limits ≡ begin.limits → read.limits ≡ at.limits → IsOnWay begin q piece at rest →
    lives at.play.journal q ≡ true →
    IsRead at q rest (Message step used) read → read.play.journal ≡ at.play.journal → more ≡ drop used rest →
    IsPlayed (step_played read.limits (peer_entry q step) read.play) (Ok tt) after.play →
    IsOnWay begin q piece after more
message_goes begin at read after q piece rest more step used l m w h r j d p =
    ap (λ (bytes : List ℕ). bytes_played begin.limits q bytes after.play) d
    ∙ sym (message_ok begin.limits q rest r.left at.play read.play after.play step used h r.finds
    (left_is q r.left at.play read.play j r.unread)
    (subst (λ (x : Limits). IsPlayed (step_played x (peer_entry q step) read.play) (Ok tt) after.play) (m ∙ l) p))
    ∙ w

-- behind the last whole message nothing is left

all_read : (limits : Limits) (e : Entry) (q : ℕ) (was : List Waiting) (play after : Play) →
    play.unread ≡ with_unread q [] was → IsPlayed (step_played limits e play) (Ok tt) after → unread_of after q ≡ []
all_read limits e q was play after u p = by (is_full limits play.journal e) p
  where
    by : (b : Bool) → IsPlayed (if b then record { play = play; is_full = true } else went (with_step limits e play))
        (Ok tt) after → unread_of after q ≡ []
    by true h = (let no = h.0 in cc)
    by false h =
        let journal : List Entry = settle limits.store (e ∷ play.journal) in
        ap (λ (x : Play). unread_of x q) h.1 ∙ ap (λ (us : List Waiting). unread_by (of_live journal us) q) u
        ∙ none_left journal q was

pub nothing_left : (q : ℕ) (unread : List Waiting) → unread_by unread q ≡ [] → with_unread q [] unread ≡ unread
nothing_left q [] h = refl
nothing_left q (w ∷ rest) h = by (w.number == q) h (nothing_left q rest)
  where
    by : (b : Bool) → (if b then w.bytes else unread_by rest q) ≡ [] →
        (unread_by rest q ≡ [] → with_unread q [] rest ≡ rest) →
        (if b then record w { bytes = [] } ∷ rest else w ∷ with_unread q [] rest) ≡ w ∷ rest
    by true e k = ap (λ (bytes : List ℕ). record w { bytes = bytes } ∷ rest) (sym e)
    by false e k = ap (λ (ws : List Waiting). w ∷ ws) (k e)

abbrev goes_on : Limits → ℕ → List ℕ → Play → Played
goes_on limits q bytes play =
    steps_played limits q (steps_in q bytes) (record play { unread = with_unread q (behind bytes) play.unread })

nothing_played : (limits : Limits) (q : ℕ) (play : Play) → unread_of play q ≡ [] →
    bytes_played limits q [] play ≡ went play
nothing_played limits q play h = by (lives play.journal q)
  where
    by : (b : Bool) → (if b then goes_on limits q (unread_of play q ++ []) play else went play) ≡ went play
    by true =
        let none : IsUnfinished q [] [] =
        nothing_yet q [] [] (found_nothing [] [] (λ long. absurd (omega arith)) refl) in
        ap (λ (bytes : List ℕ). goes_on limits q (bytes ++ []) play) h
        ∙ ap (λ (es : List Entry). steps_played limits q es
        (record play { unread = with_unread q (behind []) play.unread }))
        none.steps
        ∙ ap (λ (us : List Waiting). went (record play { unread = us }))
        (ap (λ (bytes : List ℕ). with_unread q bytes play.unread) none.all_behind ∙ nothing_left q play.unread h)
    by false = refl

pub none_of : (bytes : List ℕ) → (length bytes == 0) ≡ true → bytes ≡ []
none_of [] h = refl
none_of (b ∷ bytes) h = (let e = eqb-true (length (b ∷ bytes)) 0 h in absurd (omega arith))

pub message_last : (begin at read after : Ongoing) (q : ℕ) (piece rest more : List ℕ) (step : PeerStep) (used : ℕ) →
    IsOnWay begin q piece after more → more ≡ [] → IsRead at q rest (Message step used) read →
    IsPlayed (step_played read.limits (peer_entry q step) read.play) (Ok tt) after.play →
    IsPlayed (bytes_played begin.limits q piece begin.play) (Ok tt) after.play
message_last begin at read after q piece rest more step used w m r p =
    let none : read.play.unread ≡ with_unread q [] at.play.unread =
    r.unread ∙ ap (λ (bytes : List ℕ). with_unread q bytes at.play.unread) r.finds.none_left in
    let done = nothing_played begin.limits q after.play
    (all_read read.limits (peer_entry q step) q at.play.unread read.play after.play none p) in
    subst (λ (x : Played). IsPlayed x (Ok tt) after.play)
    (sym done ∙ ap (λ (bytes : List ℕ). bytes_played begin.limits q bytes after.play) (sym m) ∙ w) (refl, refl)

pub bad_size_ends : (begin at read : Ongoing) (q : ℕ) (piece rest : List ℕ) (step : PeerStep)
    (r : Result (Unit {0}) Stop) (after : Play) →
    at.limits ≡ begin.limits → read.limits ≡ at.limits → IsOnWay begin q piece at rest →
    lives at.play.journal q ≡ true →
    IsRead at q rest (BadSize step) read → read.play.journal ≡ at.play.journal →
    IsPlayed (step_played read.limits (peer_entry q step) read.play) r after →
    IsPlayed (bytes_played begin.limits q piece begin.play) r after
bad_size_ends begin at read q piece rest step r after l m w h f j p =
    subst (λ (x : Played). IsPlayed x r after) w
    (bad_size begin.limits q rest f.left at.play read.play after step r h f.finds
    (left_is q f.left at.play read.play j f.unread)
    (subst (λ (x : Limits). IsPlayed (step_played x (peer_entry q step) read.play) r after) (m ∙ l) p))

-- who watches is told of one step more
pub step_more_watched : {W : Type 0} (R : W → Watched → W → Type 0) (begin at read : Ongoing) (after : List Entry)
    (w u v : W) →
    at.limits ≡ begin.limits → read.limits ≡ at.limits → read.play.journal ≡ at.play.journal →
    IsWatched R begin.limits.store begin.play.journal w at.play.journal u →
    IsWatched R read.limits.store read.play.journal u after v →
    IsWatched R begin.limits.store begin.play.journal w after v
step_more_watched {W} R begin at read after w u v l m j h k =
    watched_both R begin.limits.store begin.play.journal at.play.journal after w u v h
    (subst (λ (x : Limits). IsWatched R x.store at.play.journal u after v) (m ∙ l)
    (subst (λ (x : List Entry). IsWatched R read.limits.store x u after v) j k))
