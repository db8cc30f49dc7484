-- Lines keep a journal one that a program can hold: what they give can be held, no more entries are counted than the
-- limits allow, and each end takes a peer that joined.
use Rattle.std.proofs.Common.{◌≡◌, ℕ, zero, suc, ◌+◌, ◌<◌, ◌≤◌, List, [], ◌∷◌, ◌++◌, length, map, Bool, true, false, cond, not, ◌&&◌, ◌||◌, Option, Some, None, refl, sym, ap, subst, ◌∙◌, arith, length-append}
use Rattle.std.specs.Prelude.{if◌then◌else◌, min, nat_le, nat_lt, ◌==◌}
use Rattle.std.specs.List.{AllByRecursion}
use Rattle.std.proofs.lemmas.Bool.{leb-false}
use Rattle.std.proofs.lemmas.List.{length-drop}
use Rattle.wl_wire.specs.Messages.{IsMessage, AreMessages, body_of, messages, joined, behind, bad_size}
use Rattle.wl_wire.specs.Texts.{IsBytes}
use Rattle.wl_wire.proofs.ArgumentsReadBack.{IsBytes-drop}
use Rattle.wl_wire.proofs.MessagesHoweverCut.{longest}
use Rattle.relay_model.specs.declared.act.EndCause.{EndCause}
use Rattle.relay_model.specs.declared.act.EndCause.TheVariants.{Gone}
use Rattle.relay_model.specs.declared.role.Role.{Role}
use Rattle.broker_steps.specs.declared.limits.Limits.{Limits}
use Rattle.broker_steps.specs.Ranges.{IsLimits}
use Rattle.session_text.specs.declared.line.SessionLine.{SessionLine}
use Rattle.session_text.specs.declared.line.SessionLine.TheVariants as sessions
use Rattle.broker_model.specs.declared.journal.Entry.{Entry}
use Rattle.broker_model.specs.declared.journal.Entry.TheVariants as entries
use Rattle.broker_model.specs.Ids.{Joined, peer_at}
use Rattle.broker_model.specs.Limits.{is_end, number_counted, weight_of, weight, is_full}
use Rattle.broker_model.specs.Out.{stored, out_for}
use Rattle.broker_model.specs.Resolve.{past_of}
use Rattle.broker_model.specs.Settle.{due, cause_of, with_end, settled, number_alive, settle}
use Rattle.broker_model.proofs.EachElement.{each_weaker, each_append, all_filtered}
use Rattle.broker_core.specs.Taking.{lives}
use Rattle.broker_core.proofs.AliveAfterEntry.{counted_cons, same_settled, alive_plain, alive_join}
use Rattle.broker_core.proofs.RosterAfterEntry.{IsPlain}
use Rattle.seat_set.specs.Steps.{message_entry, bad_entries, steps_in}
use Rattle.broker_telling.specs.Sayable.{IsShellSayable, IsHeld, AreHeld}
use Rattle.seat_set.specs.Laws.{lines_played, unplayed}
use Rattle.seat_set.specs.Played.{Waiting, Play, Played, went, of_live, with_step, step_played, steps_played, unread_by, unread_of, with_unread, bytes_played, with_peer, take_played, line_played}
use Rattle.seat_set.proofs.LivesBefore.{is_alive}
use Rattle.law_held.proofs.EndsFewer.{end_fewer, long_settle, joined_stay, joined_few}
use Rattle.law_held.specs.Held.{IsHeldJournal}

-- what the line gives can be held
abbrev pub GivesHeld : SessionLine → Type 0
GivesHeld (sessions.Bytes q bytes) = IsBytes bytes
GivesHeld (sessions.Shell step) = IsShellSayable step
GivesHeld _ = Unit {0}

-- an invariant of what lines play
pub record HoldsPlay (limits : Limits) (play : Play) : Type 0 where
  pub held : AreHeld play.journal
  pub unread : AllByRecursion (λ (w : Waiting). IsBytes w.bytes) play.unread
  pub counted : number_counted play.journal ≤ limits.entries
  -- each end takes a peer
  pub ends : length play.journal + number_alive play.journal
      ≤ number_counted play.journal + length (past_of play.journal).joined

abbrev AreUnread : List Waiting → Type 0
AreUnread unread = AllByRecursion (λ (w : Waiting). IsBytes w.bytes) unread

pub nothing_holds : (limits : Limits) → HoldsPlay limits unplayed
nothing_holds limits = record { held = tt; unread = tt; counted = omega arith; ends = omega arith }

pub is_held : (limits : Limits) (play : Play) → IsLimits limits → HoldsPlay limits play → IsHeldJournal play.journal
is_held limits play limited h =
    let few = joined_few play.journal in
    let ends = h.ends in
    let counted = h.counted in
    let most : limits.entries ≤ 4000000 = limited.0.1 in
    record { held = h.held; few = omega arith }

-- ---- bytes

both_bytes : (xs ys : List ℕ) → IsBytes xs → IsBytes ys → IsBytes (xs ++ ys)
both_bytes [] ys h k i = k i
both_bytes (x ∷ xs) ys h k zero = h 0
both_bytes (x ∷ xs) ys h k (suc i) = both_bytes xs ys (λ j. h (suc j)) k i

first_bytes : (xs ys : List ℕ) → IsBytes (xs ++ ys) → IsBytes xs
first_bytes [] ys h i = omega arith
first_bytes (x ∷ xs) ys h zero = h 0
first_bytes (x ∷ xs) ys h (suc i) = first_bytes xs ys (λ j. h (suc j)) i

last_bytes : (xs ys : List ℕ) → IsBytes (xs ++ ys) → IsBytes ys
last_bytes [] ys h i = h i
last_bytes (x ∷ xs) ys h i = last_bytes xs ys (λ j. h (suc j)) i

no_bytes : IsBytes []
no_bytes i = omega arith

-- ---- the steps that bytes give

-- the entry can be held, and neither makes a peer nor ends one
abbrev IsCut : Entry → Type 0
IsCut e = IsHeld e × IsPlain e × (is_end e ≡ false)

body_short : (m : List ℕ) → IsMessage m → length (body_of m) ≤ 4088
body_short m is = omega (arith, length-drop 8 m, is.0, is.1)

bad_cut : (q : ℕ) (rest : List ℕ) (bad : Option ℕ) → AllByRecursion IsCut (bad_entries q rest bad)
bad_cut q rest None = tt
bad_cut q rest (Some size) = ((tt, tt, refl), tt)

all_cut : (q : ℕ) (ms : List (List ℕ)) (rest : List ℕ) (bad : Option ℕ) → AreMessages ms → IsBytes (joined ms) →
    AllByRecursion IsCut (map (message_entry q) ms ++ bad_entries q rest bad)
all_cut q [] rest bad each h = bad_cut q rest bad
all_cut q (m ∷ ms) rest bad each h = (
  ((IsBytes-drop 8 m (first_bytes m (joined ms) h), body_short m each.0), tt, refl),
  all_cut q ms rest bad each.1 (last_bytes m (joined ms) h),
)

steps_cut : (q : ℕ) (bytes : List ℕ) → IsBytes bytes → AllByRecursion IsCut (steps_in q bytes)
steps_cut q bytes h =
    let found = longest bytes in
    all_cut q (messages bytes) (behind bytes) (bad_size bytes) found.each
    (first_bytes (joined (messages bytes)) found.rest (subst IsBytes found.front h))

-- ---- unread bytes

unread_bytes : (unread : List Waiting) (q : ℕ) → AreUnread unread → IsBytes (unread_by unread q)
unread_bytes [] q h = no_bytes
unread_bytes (w ∷ rest) q h = by (w.number == q) (unread_bytes rest q h.1)
  where
    by : (b : Bool) → IsBytes (unread_by rest q) → IsBytes (if b then w.bytes else unread_by rest q)
    by true k = h.0
    by false k = k

unread_set : (q : ℕ) (bytes : List ℕ) (unread : List Waiting) → IsBytes bytes → AreUnread unread →
    AreUnread (with_unread q bytes unread)
unread_set q bytes [] b h = tt
unread_set q bytes (w ∷ rest) b h = by (w.number == q) (unread_set q bytes rest b h.1)
  where
    by : (c : Bool) → AreUnread (with_unread q bytes rest) →
        AreUnread (if c then record w { bytes = bytes } ∷ rest else w ∷ with_unread q bytes rest)
    by true k = (b, h.1)
    by false k = (h.0, k)

unread_live : (journal : List Entry) (unread : List Waiting) → AreUnread unread → AreUnread (of_live journal unread)
unread_live journal unread h =
    each_weaker (λ (w : Waiting). IsBytes w.bytes × (lives journal w.number ≡ true))
    (λ (w : Waiting). IsBytes w.bytes) (of_live journal unread) (λ w k. k.0)
    (all_filtered (λ (w : Waiting). IsBytes w.bytes) (λ (w : Waiting). lives journal w.number) unread h)

-- ---- one entry

-- no more are counted than may be, and as many as are added join, are counted or end
record Adds (limits : Limits) (e : Entry) (older : List Entry) : Type 0 where
  counted : number_counted (e ∷ older) ≤ limits.entries
  ends : 1 + number_alive (e ∷ older) + number_counted older + length (past_of older).joined
      ≤ number_alive older + number_counted (e ∷ older) + length (past_of (e ∷ older)).joined

-- a journal that isn't full has room for one more that is counted
room_for : (limits : Limits) (older : List Entry) (e : Entry) → is_end e ≡ false → is_full limits older e ≡ false →
    (number_counted (e ∷ older) ≡ 1 + number_counted older) × (number_counted older < limits.entries)
room_for limits older e n f =
    let many : Bool = nat_le limits.entries (number_counted older) in
    let heavy : Bool = nat_lt limits.weight (weight older + weight_of e) in
    let free : (many || heavy) ≡ false = sym (ap (λ (b : Bool). not b && (many || heavy)) n) ∙ f in (
      counted_cons e older ∙ ap (λ (b : Bool). cond (not b) 1 0 + number_counted older) n,
      leb-false limits.entries (number_counted older) (by many heavy free),
    )
  where
    by : (a b : Bool) → (a || b) ≡ false → a ≡ false
    by true b h = cc
    by false b h = refl

plain_adds : (limits : Limits) (e : Entry) (older : List Entry) → is_end e ≡ false → IsPlain e →
    is_full limits older e ≡ false → Adds limits e older
plain_adds limits e older n plain f =
    let (one, room) = room_for limits older e n f in
    let same = alive_plain e older plain in
    let stay = joined_stay e older in
    record { counted = omega (arith, one, room); ends = omega (arith, one, same, stay) }

join_adds : (limits : Limits) (role : Role) (older : List Entry) → is_full limits older (entries.Join role) ≡ false →
    Adds limits (entries.Join role) older
join_adds limits role older f =
    let (one, room) = room_for limits older (entries.Join role) refl f in
    let more = alive_join role older in
    let long = length-append (past_of older).joined (record { label = length older + 1; role = role } ∷ []) in
    record { counted = omega (arith, one, room); ends = omega (arith, one, more, long) }

end_adds : (limits : Limits) (q : ℕ) (why : EndCause) (older : List Entry) → lives older q ≡ true →
    number_counted older ≤ limits.entries → Adds limits (entries.End q why) older
end_adds limits q why older l counted =
    let a = is_alive older q l in
    let same = counted_cons (entries.End q why) older in
    let less = end_fewer q why older a.peer a.joined a.alive in
    record { counted = omega (arith, same, counted); ends = omega (arith, same, less) }

-- the ends that follow can be held
held_by : (capacity fuel : ℕ) (journal : List Entry) (o : Option ℕ) → AreHeld journal →
    ((later : List Entry) → AreHeld later → AreHeld (settled capacity fuel later)) →
    AreHeld (settled capacity fuel (with_end journal o))
held_by capacity fuel journal None all k = k journal all
held_by capacity fuel journal (Some q) all k = k (entries.End q (cause_of journal q) ∷ journal) (tt, all)

held_settled : (capacity fuel : ℕ) (journal : List Entry) → AreHeld journal → AreHeld (settled capacity fuel journal)
held_settled capacity zero journal all = all
held_settled capacity (suc fuel) journal all =
    held_by capacity fuel journal (due capacity journal) all (held_settled capacity fuel)

entered : (limits : Limits) (e : Entry) (play : Play) → IsHeld e → Adds limits e play.journal → HoldsPlay limits play →
    HoldsPlay limits (with_step limits e play)
entered limits e play is adds h =
    let journal : List Entry = e ∷ play.journal in
    let later : List Entry = settle limits.store journal in
    let same = same_settled limits.store journal in
    let counted_same = same.counted in
    let joined_same : length (past_of later).joined ≡ length (past_of journal).joined = ap length same.joined in
    let long = long_settle limits.store journal in
    let counted_now = adds.counted in
    let ends_now = adds.ends in
    let ends = h.ends in
    record {
      held = held_settled limits.store (number_alive journal) journal (is, h.held);
      unread = unread_live later play.unread h.unread;
      counted = omega (arith, counted_same, counted_now);
      ends = omega (arith, counted_same, joined_same, long, ends_now, ends);
    }

-- ---- steps

step_holds : (limits : Limits) (e : Entry) (play : Play) → IsHeld e →
    (is_full limits play.journal e ≡ false → Adds limits e play.journal) → HoldsPlay limits play →
    HoldsPlay limits (step_played limits e play).play
step_holds limits e play is adds h = by (is_full limits play.journal e) refl
  where
    by : (b : Bool) → is_full limits play.journal e ≡ b → HoldsPlay limits
        (if b then record { play = play; is_full = true } else went (with_step limits e play)).play
    by true f = h
    by false f = entered limits e play is (adds f) h

steps_hold : (limits : Limits) (q : ℕ) (steps : List Entry) (play : Play) → AllByRecursion IsCut steps →
    HoldsPlay limits play → HoldsPlay limits (steps_played limits q steps play).play
steps_hold limits q [] play all h = h
steps_hold limits q (e ∷ rest) play all h =
    by (lives play.journal q) (is_full limits play.journal e) refl
    (λ next. steps_hold limits q rest (with_step limits e play) all.1 next)
  where
    by : (b c : Bool) → is_full limits play.journal e ≡ c →
        (HoldsPlay limits (with_step limits e play) →
        HoldsPlay limits (steps_played limits q rest (with_step limits e play)).play) →
        HoldsPlay limits
        (if b then (if c then record { play = play; is_full = true } else steps_played limits q rest
        (with_step limits e play)) else went play).play
    by true true f k = h
    by true false f k =
        k (entered limits e play all.0.0 (plain_adds limits e play.journal all.0.2 all.0.1 f) h)
    by false c f k = h

-- ---- lines

bytes_hold : (limits : Limits) (q : ℕ) (piece : List ℕ) (play : Play) → IsBytes piece → HoldsPlay limits play →
    HoldsPlay limits (bytes_played limits q piece play).play
bytes_hold limits q piece play are h = by (lives play.journal q)
  where
    bytes : List ℕ
    bytes = unread_of play q ++ piece

    whole : IsBytes bytes
    whole = both_bytes (unread_of play q) piece (unread_bytes play.unread q h.unread) are

    left : Play
    left = record play { unread = with_unread q (behind bytes) play.unread }

    holds : HoldsPlay limits left
    holds = record {
      held = h.held;
      unread = unread_set q (behind bytes) play.unread
          (IsBytes-drop (length (joined (messages bytes))) bytes whole) h.unread;
      counted = h.counted;
      ends = h.ends;
    }

    by : (b : Bool) → HoldsPlay limits (if b then steps_played limits q (steps_in q bytes) left else went play).play
    by true = steps_hold limits q (steps_in q bytes) left (steps_cut q bytes whole) holds
    by false = h

take_holds : (limits : Limits) (q n : ℕ) (play : Play) (o : Option Joined) → HoldsPlay limits play →
    HoldsPlay limits (take_played limits q n play o).play
take_holds limits q n play None h = h
take_holds limits q n play (Some peer) h = by (m == 0)
  where
    m : ℕ
    m = min n (length (stored (out_for limits.store play.journal peer.label)))

    by : (b : Bool) → HoldsPlay limits (if b then went play else step_played limits (entries.Took q m) play).play
    by true = h
    by false =
        step_holds limits (entries.Took q m) play tt (plain_adds limits (entries.Took q m) play.journal refl tt) h

pub line_holds : (limits : Limits) (line : SessionLine) (play : Play) → GivesHeld line → HoldsPlay limits play →
    HoldsPlay limits (line_played limits line play).play
line_holds limits (sessions.Join role) play g h = by (nat_le 64 (number_alive play.journal))
  where
    with_one : HoldsPlay limits (with_peer play)
    with_one = record {
      held = h.held;
      unread = each_append (λ (w : Waiting). IsBytes w.bytes) play.unread
          (record { number = length (past_of play.journal).joined + 1; bytes = [] } ∷ []) h.unread (no_bytes, tt);
      counted = h.counted;
      ends = h.ends;
    }

    by : (b : Bool) → HoldsPlay limits
        (if b then went play else step_played limits (entries.Join role) (with_peer play)).play
    by true = h
    by false =
        step_holds limits (entries.Join role) (with_peer play) tt (join_adds limits role play.journal) with_one
line_holds limits (sessions.Bytes q piece) play g h = bytes_hold limits q piece play g h
line_holds limits (sessions.Gone q) play g h = by (lives play.journal q) refl
  where
    by : (b : Bool) → lives play.journal q ≡ b → HoldsPlay limits
        (if b then step_played limits (entries.End q Gone) play else went play).play
    by true l =
        step_holds limits (entries.End q Gone) play tt (λ f. end_adds limits q Gone play.journal l h.counted) h
    by false l = h
line_holds limits (sessions.Take q n) play g h = take_holds limits q n play (peer_at (past_of play.journal) q) h
line_holds limits (sessions.Tokens q tokens) play g h = by (lives play.journal q)
  where
    by : (b : Bool) → HoldsPlay limits
        (if b then step_played limits (entries.Tokens q tokens) play else went play).play
    by true =
        step_holds limits (entries.Tokens q tokens) play tt
        (plain_adds limits (entries.Tokens q tokens) play.journal refl tt) h
    by false = h
line_holds limits (sessions.Shell step) play g h =
    step_holds limits (entries.Shell step) play g (plain_adds limits (entries.Shell step) play.journal refl tt) h

pub lines_hold : (limits : Limits) (lines : List SessionLine) (play : Play) → AllByRecursion GivesHeld lines →
    HoldsPlay limits play → HoldsPlay limits (lines_played limits lines play).play
lines_hold limits [] play given h = h
lines_hold limits (line ∷ rest) play given h =
    by (line_played limits line play).is_full (line_holds limits line play given.0 h)
    (lines_hold limits rest (line_played limits line play).play given.1)
  where
    p : Played
    p = line_played limits line play

    by : (b : Bool) → HoldsPlay limits p.play → (HoldsPlay limits p.play →
        HoldsPlay limits (lines_played limits rest p.play).play) →
        HoldsPlay limits (if b then p else lines_played limits rest p.play).play
    by true k f = k
    by false k f = f k
