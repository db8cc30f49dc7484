-- What is left of seats where a line found no memory.
use Rattle.std.proofs.Common.{◌≡◌, ℕ, zero, suc, ◌+◌, ◌<◌, Bool, true, false, List, [], ◌∷◌, ◌++◌, length, get_or, drop, set, Some, Ok, Err, refl, sym, ap, subst, ◌∙◌, append_assoc, append-nil, inl, inr, ◌⊎◌, arith}
use Rattle.std.specs.Prelude.{if◌then◌else◌, is_some, Result, OnErr}
use Rattle.std.specs.List.{slice_get}
use Rattle.std.proofs.lemmas.List.{drop-drop, drop-set-lt}
use Rattle.std.proofs.lemmas.Option.{same_Some, slice_get-get_or}
use Rattle.broker_steps.specs.declared.limits.Limits.{Limits}
use Rattle.session_text.specs.declared.line.SessionLine.{SessionLine}
use Rattle.session_text.specs.declared.line.SessionLine.TheVariants as lines
use Rattle.session_text.specs.declared.seat_line.SeatLine.{SeatLine}
use Rattle.session_text.specs.declared.seat_line.SeatLine.TheVariants.{One}
use Rattle.relay_model.specs.declared.act.EndCause.TheVariants.{Gone}
use Rattle.broker_model.specs.declared.journal.Entry.TheVariants as entries
use Rattle.broker_model.specs.Ids.{peer_at}
use Rattle.broker_model.specs.Resolve.{past_of}
use Rattle.lines_transcript.specs.Printed.{IsFront}
use Rattle.seat_set.specs.Played.{Play, Played, went, step_played, line_played}
use Rattle.seat_set.specs.Playing.{IsMore}
use Rattle.seat_set.proofs.JournalGrows.{no_more, step_grows, bytes_grow, join_grows, take_grows, tokens_grow}
use Rattle.seat_set.specs.Seats.{Seat, seat_by, seat_after, is_for, line_in}
use Rattle.seat_set.specs.Begun.{IsBegun, IsBegunIf, AreBegun}
use Rattle.seat_set.proofs.SeatPlayed.{stays_full}
use Rattle.seat_set.proofs.SeatsInTurn.{one_test}

-- ---- a line only adds entries

pub line_grows : (limits : Limits) (line : SessionLine) (play : Play) →
    IsMore play.journal (line_played limits line play).play.journal
line_grows limits (lines.Join role) play = join_grows limits (entries.Join role) play
line_grows limits (lines.Bytes q piece) play = bytes_grow limits q piece play
line_grows limits (lines.Gone q) play = by _
  where
    by : (b : Bool) → IsMore play.journal
        (if b then step_played limits (entries.End q Gone) play else went play).play.journal
    by true = step_grows limits (entries.End q Gone) play
    by false = no_more play.journal
line_grows limits (lines.Take q n) play = take_grows limits q n play (peer_at (past_of play.journal) q)
line_grows limits (lines.Tokens q tokens) play = tokens_grow limits q tokens play
line_grows limits (lines.Shell step) play = step_grows limits (entries.Shell step) play

journal_by : (limits : Limits) (p : Played) (b : Bool) → p.is_full ≡ b →
    (seat_by limits p).play.journal ≡ p.play.journal
journal_by limits p true is = rw is refl
journal_by limits p false is = rw is refl

limits_by : (limits : Limits) (p : Played) (b : Bool) → p.is_full ≡ b → (seat_by limits p).limits ≡ limits
limits_by limits p true is = rw is refl
limits_by limits p false is = rw is refl

pub seat_grows : (line : SessionLine) (seat : Seat) → IsMore seat.play.journal (seat_after line seat).play.journal
seat_grows line seat = by (is_some seat.full)
  where
    p : Played
    p = line_played seat.limits line seat.play

    by : (b : Bool) → IsMore seat.play.journal (if b then seat else seat_by seat.limits p).play.journal
    by true = no_more seat.play.journal
    by false =
        subst (IsMore seat.play.journal) (sym (journal_by seat.limits p p.is_full refl))
        (line_grows seat.limits line seat.play)

pub same_limits : (line : SessionLine) (seat : Seat) → (seat_after line seat).limits ≡ seat.limits
same_limits line seat = by (is_some seat.full)
  where
    p : Played
    p = line_played seat.limits line seat.play

    by : (b : Bool) → (if b then seat else seat_by seat.limits p).limits ≡ seat.limits
    by true = refl
    by false = limits_by seat.limits p p.is_full refl

-- ---- one seat

-- it was not reached
pub untouched_begun : (line : SessionLine) (seat : Seat) → IsBegun line seat seat
untouched_begun line seat = record {
  limits = refl;
  grew = no_more seat.play.journal;
  front = seat_grows line seat;
  full = λ full. stays_full line seat full;
  stays = λ full. refl;
}

-- all of the line was played
pub played_begun : (line : SessionLine) (before after : Seat) → after ≡ seat_after line before →
    IsBegun line before after
played_begun line before after is =
    subst (IsBegun line before) (sym is) (record {
      limits = same_limits line before;
      grew = seat_grows line before;
      front = no_more (seat_after line before).play.journal;
      full = λ full. refl;
      stays = λ full. sym (stays_full line before full);
    })

-- ---- several

same_begun : (given : Bool) (line : SessionLine) (b a : Seat) → a ≡ b → IsBegunIf given line b a
same_begun true line b a is = subst (IsBegun line b) (sym is) (untouched_begun line b)
same_begun false line b a is = is

pub none_begun : (line : SeatLine) (seats : List Seat) → AreBegun line seats seats
none_begun line seats = λ k b a was now.
    same_begun (is_for line (k + 1)) (line_in line) b a (same_Some a b (sym now ∙ was))

given_begun : (given : Bool) (line : SessionLine) (b a : Seat) → given ≡ true → IsBegun line b a →
    IsBegunIf given line b a
given_begun true line b a is begun = begun
given_begun false line b a is begun = absurd (cc is)

get_set : (seats : List Seat) (i : ℕ) (y : Seat) (k : ℕ) (x : Seat) → slice_get (set seats i y) k ≡ Some x →
    ((k ≡ i) × (y ≡ x)) ⊎ (slice_get seats k ≡ Some x)
get_set [] i y k x e = inr e
get_set (z ∷ seats) zero y zero x e = inl (refl, same_Some y x e)
get_set (z ∷ seats) zero y (suc k) x e = inr e
get_set (z ∷ seats) (suc i) y zero x e = inr e
get_set (z ∷ seats) (suc i) y (suc k) x e =
    elim (get_set seats i y k x e) [
      | inl h ↦ inl (ap suc h.0, h.1)
      | inr h ↦ inr h
    ]

-- one of those that are given the line is begun, and was as it was
pub one_begun : (line : SeatLine) (before now : List Seat) (i : ℕ) (x y : Seat) → AreBegun line before now
    → is_for line (i + 1) ≡ true → slice_get before i ≡ Some x → IsBegun (line_in line) x y
    → AreBegun line before (set now i y)
one_begun line before now i x y others given at begun = λ k b a was is.
    elim (get_set now i y k a is) [
      | inl h ↦
          let same : x ≡ b = same_Some x b (sym at ∙ ap (slice_get before) (sym h.0) ∙ was) in
          given_begun (is_for line (k + 1)) (line_in line) b a
          (ap (λ (n : ℕ). is_for line (n + 1)) h.0 ∙ given)
          (subst (λ (s : Seat). IsBegun (line_in line) s a) same (subst (IsBegun (line_in line) x) h.1 begun))
      | inr h ↦ others k b a was h
    ]

-- the seats from a place on are as they were

get_dropped : (seats : List Seat) (i : ℕ) → slice_get seats i ≡ slice_get (drop i seats) 0
get_dropped [] zero = refl
get_dropped [] (suc i) = refl
get_dropped (seat ∷ seats) zero = refl
get_dropped (seat ∷ seats) (suc i) = get_dropped seats i

pub still_there : (i : ℕ) (before now : List Seat) (d : Seat) → drop i now ≡ drop i before → i < length now →
    slice_get before i ≡ Some (get_or now i d)
still_there i before now d same lt =
    get_dropped before i ∙ ap (λ (l : List Seat). slice_get l 0) (sym same) ∙ sym (get_dropped now i)
    ∙ slice_get-get_or now i d lt

pub later_there : (i : ℕ) (before now : List Seat) (y : Seat) → drop i now ≡ drop i before →
    drop (i + 1) (set now i y) ≡ drop (i + 1) before
later_there i before now y same =
    drop-set-lt (i + 1) now i y (omega arith) ∙ sym (drop-drop 1 i now) ∙ ap (λ (l : List Seat). drop 1 l) same
    ∙ drop-drop 1 i before

-- the one seat that a line is for
pub lone_begun : (s i : ℕ) (line : SessionLine) (seats : List Seat) (y d : Seat) → s ≡ i + 1 → i < length seats
    → IsBegun line (get_or seats i d) y → AreBegun (One s line) seats (set seats i y)
lone_begun s i line seats y d is lt begun =
    one_begun (One s line) seats seats i (get_or seats i d) y (none_begun (One s line) seats) (one_test s (i + 1) is)
    (slice_get-get_or seats i d lt) begun

-- ---- texts

pub on_err : {T E : Type 0} (r : Result T E) (A B : Type 0) → OnErr r A → (A → B) → OnErr r B
on_err (Ok x) A B a f = tt
on_err (Err e) A B a f = f a

pub err_any : {T E : Type 0} (r : Result T E) (A : Type 0) → A → OnErr r A
err_any (Ok x) A a = tt
err_any (Err e) A a = a

pub same_text : (text : List ℕ) → IsFront text text
same_text text = ([], append-nil text)

pub text_by : (text more now : List ℕ) → now ≡ text ++ more → IsFront text now
text_by text more now is = (more, sym is)

pub text_on : (first text added : List ℕ) → IsFront first text → IsFront text added → IsFront first added
text_on first text added h k =
    (h.0 ++ k.0, sym (append_assoc first h.0 k.0) ∙ ap (λ (t : List ℕ). t ++ k.0) h.1 ∙ k.1)
