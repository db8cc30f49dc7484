-- A step of the shared state, as a session sees it.
use Rattle.std.proofs.Common.{◌≡◌, ℕ, ◌+◌, ◌≤◌, List, [], ◌∷◌, ◌++◌, length, map, cond, set, get_or, Bool, true, false, Some, None, Ok, Err, refl, sym, ap, ap₂, subst, ◌∙◌}
use Rattle.std.specs.Prelude.{Result, IfSome, IfNone, IsOkUnless, nat_le, filter, position, ◌==◌, IfOk}
use Rattle.std.proofs.lemmas.List.{map-append}
use Rattle.relay_model.specs.declared.role.Role.{Role}
use Rattle.broker_steps.specs.declared.stamp.Stamp.{Stamp}
use Rattle.broker_steps.specs.declared.step.Step.{Step}
use Rattle.broker_model.specs.declared.journal.Entry.{Entry}
use Rattle.broker_model.specs.declared.journal.Entry.TheVariants as entries
use Rattle.broker_model.specs.Ids.{peer_at}
use Rattle.broker_model.specs.Resolve.{past_of}
use Rattle.broker_model.specs.Settle.{number_alive, settle}
use Rattle.broker_core.specs.declared.answers.Took.TheVariants as took
use Rattle.broker_core.specs.declared.answers.JoinRefusal.{JoinRefusal}
use Rattle.broker_core.specs.declared.answers.JoinRefusal.TheVariants as join
use Rattle.broker_model.specs.declared.journal.Kept.{Kept}
use Rattle.broker_model.specs.Limits.{is_full}
use Rattle.broker_core.specs.declared.answers.Refused.{Refused}
use Rattle.broker_core.specs.Broker as broker
use Rattle.broker_core.specs.Broker.{Broker, kept_in, entry_of, refusal, join_refusal, take_refusal, IsSaid}
use Rattle.broker_core.specs.Taking.{out_at, IsTaken}
use Rattle.broker_core.specs.Taking.{lives}
use Rattle.broker_core.specs.Watched.{Watched}
use Rattle.seat_set.specs.declared.session.Stop.TheVariants as stops
use Rattle.seat_set.specs.declared.unread.Unread.{Unread}
use Rattle.seat_set.specs.Played.{Waiting, Play, unread_by, unread_of, with_unread, of_live, with_step, step_played, with_peer, join_played, take_played}
use Rattle.seat_set.specs.Playing.{Ongoing, is_waiting, AreWaiting, AreLive, IsThere, IsMore, IsPlayed, IsWatched, IsRead, IsEnough}
use Rattle.seat_set.specs.declared.unread.Found.{Found}
use Rattle.wl_wire.specs.Streams.{begun}
use Rattle.seat_set.specs.Unread.{waiting, Finds}
use Rattle.seat_set.proofs.JournalGrows.{step_more, step_grows, join_grows, take_grows, watched_none}
use Rattle.seat_set.proofs.JoinAnswers.{IsRefused, too_many, at_limit, short, join_refused, join_taken, many_joined, joined_ok, joined_full}
use Rattle.seat_set.proofs.StaysWaiting.{NoMoreLive, said_before, took_before, stays_waiting, joined_more, join_waiting}
use Rattle.seat_set.proofs.TakeAnswers.{bytes_taken}
use Rattle.seat_set.proofs.StepAnswers.{step_taken, played_ok}
use Rattle.seat_set.proofs.UnreadLists.{waiting_with}
use Rattle.seat_set.proofs.UnreadPlaces.{IsAt, found_at, not_found, number_at, bytes_at, set_at, given_back}

-- a session, by what it is made of
abbrev pub play_in : Broker → List Unread → Play
play_in b us = record { journal = b.journal; unread = map waiting us }

abbrev pub view_of : Broker → List Unread → Ongoing
view_of b us = record { limits = b.limits; play = play_in b us; stamps = b.stamps; kept_from = b.kept_from }

-- what is left of those that were there
abbrev pub AreLeft : Broker → List Unread → List Unread → Type 0
AreLeft b was now = now ≡ filter (λ u. lives b.journal u.number) was

-- a step that was taken

stepped : (given : Stamp) (e : Entry) (b after : Broker) (was now : List Unread) → after ≡ broker.with_step e given b →
    AreLeft after was now →
    play_in after now ≡ with_step b.limits e (play_in b was)
stepped given e b after was now a l =
    let j : after.journal ≡ settle b.limits.store (e ∷ b.journal) = ap (λ (x : Broker). x.journal) a in
    ap₂ (λ (journal : List Entry) (unread : List Waiting). record { journal = journal; unread = unread }) j
    (given_back after.journal was now l ∙ ap (λ (journal : List Entry). of_live journal (map waiting was)) j)

pub step_ok : {T : Type 0} (given : Stamp) (s : Ongoing) (b after : Broker) (was now : List Unread) (step : Step)
    (x : T) →
    view_of b was ≡ s → IsSaid step →
    IsThere step s.play.journal → IfSome (refusal b step) (λ (w : Refused). Ok x ≡ Err w) →
    after ≡ broker.with_step (entry_of step) given b → AreLeft after was now →
    IsPlayed (step_played s.limits (entry_of step) s.play) (Ok tt) (play_in after now)
step_ok given s b after was now step x v said there r a l =
    let at : IsThere step b.journal → IsPlayed (step_played b.limits (entry_of step) (play_in b was)) (Ok tt)
    (play_in after now) =
    λ t. played_ok b.limits (entry_of step) (play_in b was) (play_in after now)
    (step_taken b step (Ok x) x said t refl r) (stepped given (entry_of step) b after was now a l) in
    subst (λ (y : Ongoing). IsThere step y.play.journal → IsPlayed (step_played y.limits (entry_of step) y.play) (Ok tt)
    (play_in after now)) v at there

pub step_waits : (given : Stamp) (s : Ongoing) (b after : Broker) (was now : List Unread) (step : Step) →
    view_of b was ≡ s →
    IsSaid step → IsThere step s.play.journal →
    after ≡ broker.with_step (entry_of step) given b → AreLeft after was now → AreWaiting b.journal (map waiting was) →
    AreWaiting after.journal (map waiting now)
step_waits given s b after was now step v said there a l w =
    let t : IsThere step b.journal = subst (λ (y : Ongoing). IsThere step y.play.journal) (sym v) there in
    stays_waiting b.journal after.journal was now w
    (subst (λ (x : Broker). NoMoreLive b.journal x.journal) (sym a) (said_before b.limits.store step b.journal said t))
    l

pub step_watched : {W : Type 0} (given : Stamp) (R : W → Watched → W → Type 0) (s : Ongoing) (b after : Broker)
    (was : List Unread)
    (e : Entry) (w u : W) → view_of b was ≡ s →
    after ≡ broker.with_step e given b → broker.IsWatched R b w after u →
    IsWatched R s.limits.store s.play.journal w after.journal u
step_watched {W} given R s b after was e w u v a h =
    subst (λ (y : Ongoing). IsWatched R y.limits.store y.play.journal w after.journal u) v (record {
      grew = subst (λ (x : Broker). IsMore b.journal x.journal) (sym a) (step_more b.limits.store e b.journal);
      told = h;
    })

-- nothing was done

pub step_short : (s : Ongoing) (b after : Broker) (was : List Unread) (e : Entry) → view_of b was ≡ s → after ≡ b →
    IsMore after.journal (step_played s.limits e s.play).play.journal
step_short s b after was e v a =
    subst (λ (y : Ongoing). IsMore after.journal (step_played y.limits e y.play).play.journal) v
    (subst (λ (x : Broker). IsMore x.journal (step_played b.limits e (play_in b was)).play.journal) (sym a)
    (step_grows b.limits e (play_in b was)))

pub none_watched : {W : Type 0} (R : W → Watched → W → Type 0) (s : Ongoing) (b : Broker) (was : List Unread) (w : W) →
    view_of b was ≡ s →
    IsWatched R s.limits.store s.play.journal w b.journal w
none_watched {W} R s b was w v = subst (λ (y : Ongoing). IsWatched R y.limits.store y.play.journal w b.journal w) v
    (watched_none R b.limits.store b.journal w)

-- one more joined

pub join_ok : {T : Type 0} (given : Stamp) (s : Ongoing) (b after : Broker) (was now : List Unread) (u : Unread)
    (role : Role) (x : T) →
    view_of b was ≡ s →
    IfSome (join_refusal b role) (λ (w : JoinRefusal). Ok x ≡ Err w) →
    after ≡ broker.with_step (entries.Join role) given b →
    u.number ≡ length (past_of after.journal).joined →
    waiting u ≡ record { number = u.number; bytes = [] } → AreLeft after (was ++ u ∷ []) now →
    IsPlayed (join_played s.limits (entries.Join role) s.play) (Ok tt) (play_in after now)
join_ok given s b after was now u role x v r a n z l =
    let e : Entry = entries.Join role in
    let taken = join_taken b role (Ok x) x refl r in
    let number : u.number ≡ length (past_of b.journal).joined + 1 =
    n ∙ ap (λ (y : Broker). length (past_of y.journal).joined) a ∙ joined_more b.limits.store role b.journal in
    let more : map waiting (was ++ u ∷ []) ≡ (with_peer (play_in b was)).unread =
    map-append waiting was (u ∷ []) ∙ ap (λ (w : Waiting). map waiting was ++ w ∷ [])
    (z ∙ ap (λ k. record { number = k; bytes = [] }) number) in
    let next : play_in after now ≡ with_step b.limits e (with_peer (play_in b was)) =
    stepped given e b after (was ++ u ∷ []) now a l
    ∙ ap (λ (unread : List Waiting). with_step b.limits e (record { journal = b.journal; unread = unread })) more in
    subst (λ (y : Ongoing). IsPlayed (join_played y.limits e y.play) (Ok tt) (play_in after now)) v
    (joined_ok b.limits e (play_in b was) (play_in after now) taken.0 taken.1 next)

pub join_waits : (given : Stamp) (s : Ongoing) (b after : Broker) (was now : List Unread) (u : Unread) (role : Role) →
    after ≡ broker.with_step (entries.Join role) given b →
    u.number ≡ length (past_of after.journal).joined → AreLeft after (was ++ u ∷ []) now →
    AreWaiting b.journal (map waiting was) →
    AreWaiting after.journal (map waiting now)
join_waits given s b after was now u role a n l w =
    join_waiting b.limits.store role b.journal after.journal was now u w (ap (λ (x : Broker). x.journal) a) n l

-- room was made for it
pub pushed : (was made now : List Unread) (u : Unread) (t : Bool) → made ≡ was → t ≡ true →
    now ≡ cond t (made ++ u ∷ []) made → now ≡ was ++ u ∷ []
pushed was made now u true m t n = n ∙ ap (λ (us : List Unread). us ++ u ∷ []) m
pushed was made now u false m t n = cc

pub left_of : (b : Broker) (was made now : List Unread) → AreLeft b made now → made ≡ was → AreLeft b was now
left_of b was made now l m = subst (λ (us : List Unread). AreLeft b us now) m l

pub join_short : (s : Ongoing) (b after : Broker) (was : List Unread) (role : Role) → view_of b was ≡ s → after ≡ b →
    IsMore after.journal (join_played s.limits (entries.Join role) s.play).play.journal
join_short s b after was role v a =
    subst (λ (y : Ongoing). IsMore after.journal (join_played y.limits (entries.Join role) y.play).play.journal) v
    (subst (λ (x : Broker). IsMore x.journal (join_played b.limits (entries.Join role) (play_in b was)).play.journal)
    (sym a)
    (join_grows b.limits (entries.Join role) (play_in b was)))

many_by : (b : Broker) (was : List Unread) (role : Role) (many full : Bool) (kept : Kept) (n : ℕ) (why : JoinRefusal) →
    why ≡ join.TooManyPeers n →
    nat_le 64 (number_alive b.journal) ≡ many → IsRefused many full kept why →
    IsPlayed (join_played b.limits (entries.Join role) (play_in b was)) (Ok tt) (play_in b was)
many_by b was role many full kept n why w e (too_many m t) = many_joined b.limits (entries.Join role) (play_in b was)
    (play_in b was) (e ∙ m) refl
many_by b was role many full kept n why w e (at_limit m f t) = (let no = sym w ∙ t in cc)
many_by b was role many full kept n why w e (short t) = (let no = sym w ∙ t in cc)

pub join_many : {T : Type 0} (s : Ongoing) (b after : Broker) (was now : List Unread) (role : Role)
    (r : Result T JoinRefusal) (why : JoinRefusal) (n : ℕ) →
    view_of b was ≡ s → r ≡ Err why → why ≡ join.TooManyPeers n → IfSome (join_refusal b role) (λ w. r ≡ Err w) →
    IfNone (join_refusal b role) (IsOkUnless r join.NoMemory) → after ≡ b → now ≡ was →
    IsPlayed (join_played s.limits (entries.Join role) s.play) (Ok tt) (play_in after now)
join_many s b after was now role r why n v e w f o a u =
    let same : play_in b was ≡ play_in after now = ap₂ play_in (sym a) (sym u) in
    subst (λ (p : Play). IsPlayed (join_played s.limits (entries.Join role) s.play) (Ok tt) p) same
    (subst (λ (y : Ongoing). IsPlayed (join_played y.limits (entries.Join role) y.play) (Ok tt) (play_in b was)) v
    (many_by b was role (nat_le 64 (number_alive b.journal)) (is_full b.limits b.journal (entries.Join role))
    (kept_in b.journal) n why w refl
    (join_refused b role r why e f o)))

full_by : (b : Broker) (was : List Unread) (role : Role) (many full : Bool) (kept : Kept) (why : JoinRefusal) →
    why ≡ join.JournalFull kept →
    nat_le 64 (number_alive b.journal) ≡ many → is_full b.limits b.journal (entries.Join role) ≡ full →
    IsRefused many full (kept_in b.journal) why →
    IsPlayed (join_played b.limits (entries.Join role) (play_in b was)) (Err (stops.Full kept)) (play_in b was)
full_by b was role many full kept why w e g (too_many m t) = (let no = sym w ∙ t in cc)
full_by b was role many full kept why w e g (at_limit m f t) =
    joined_full b.limits (entries.Join role) (play_in b was) (play_in b was) kept (e ∙ m) (g ∙ f)
    (let same = sym w ∙ t in cc) refl
full_by b was role many full kept why w e g (short t) = (let no = sym w ∙ t in cc)

pub join_full : {T : Type 0} (s : Ongoing) (b after : Broker) (was now : List Unread) (role : Role)
    (r : Result T JoinRefusal) (why : JoinRefusal) (kept : Kept) →
    view_of b was ≡ s → r ≡ Err why → why ≡ join.JournalFull kept → IfSome (join_refusal b role) (λ w. r ≡ Err w) →
    IfNone (join_refusal b role) (IsOkUnless r join.NoMemory) → after ≡ b → now ≡ was →
    IsPlayed (join_played s.limits (entries.Join role) s.play) (Err (stops.Full kept)) (play_in after now)
join_full s b after was now role r why kept v e w f o a u =
    let same : play_in b was ≡ play_in after now = ap₂ play_in (sym a) (sym u) in
    subst (λ (p : Play). IsPlayed (join_played s.limits (entries.Join role) s.play) (Err (stops.Full kept)) p) same
    (subst (λ (y : Ongoing). IsPlayed (join_played y.limits (entries.Join role) y.play) (Err (stops.Full kept))
    (play_in b was)) v
    (full_by b was role (nat_le 64 (number_alive b.journal)) (is_full b.limits b.journal (entries.Join role))
    kept why w refl refl
    (join_refused b role r why e f o)))

-- bytes were taken

pub take_waits : (given : Stamp) (b after : Broker) (was now : List Unread) (q n : ℕ) →
    after ≡ broker.with_step (entries.Took q n) given b →
    AreLeft after was now →
    AreWaiting b.journal (map waiting was) → AreWaiting after.journal (map waiting now)
take_waits given b after was now q n a l w =
    stays_waiting b.journal after.journal was now w (subst (λ (x : Broker). NoMoreLive b.journal x.journal) (sym a)
    (took_before b.limits.store q n b.journal)) l

pub take_short : (s : Ongoing) (b after : Broker) (was : List Unread) (q n : ℕ) → view_of b was ≡ s → after ≡ b →
    IsMore after.journal (take_played s.limits q n s.play (peer_at (past_of s.play.journal) q)).play.journal
take_short s b after was q n v a =
    subst (λ (y : Ongoing). IsMore after.journal (take_played y.limits q n y.play
    (peer_at (past_of y.play.journal) q)).play.journal) v
    (subst (λ (x : Broker). IsMore x.journal (take_played b.limits q n (play_in b was)
    (peer_at (past_of b.journal) q)).play.journal) (sym a)
    (take_grows b.limits q n (play_in b was) (peer_at (past_of b.journal) q)))

pub take_ok : (given : Stamp) (s : Ongoing) (b after : Broker) (was now : List Unread) (q n k t : ℕ)
    (buf places buf_after places_after : List ℕ) → view_of b was ≡ s →
    1 ≤ n → IfSome (out_at s.limits.store s.play.journal q) (IsEnough (length buf) n) →
    IfSome (take_refusal b q) (λ why. took.Bytes k t ≡ why) →
    IfSome (out_at b.limits.store b.journal q) (λ out. IsTaken out b.journal q buf places (k, t) buf_after places_after
    (entries.Took q k ∷ b.journal)) →
    after ≡ broker.with_step (entries.Took q k) given b → AreLeft after was now →
    IsPlayed (take_played s.limits q n s.play (peer_at (past_of s.play.journal) q)) (Ok tt) (play_in after now)
take_ok given s b after was now q n k t buf places buf_after places_after v l enough r i a left =
    subst (λ (y : Ongoing). IsPlayed (take_played y.limits q n y.play (peer_at (past_of y.play.journal) q)) (Ok tt)
    (play_in after now)) v
    (bytes_taken b (map waiting was) q n k t buf places buf_after places_after (took.Bytes k t) (play_in after now) l
    (subst (λ (y : Ongoing). IfSome (out_at y.limits.store y.play.journal q) (IsEnough (length buf) n)) (sym v) enough)
    refl r i
    (stepped given (entries.Took q k) b after was now a left))

-- a piece was read

pub no_place : (s : Ongoing) (b : Broker) (was seen : List Unread) (q : ℕ) → view_of b was ≡ s →
    lives s.play.journal q ≡ true →
    AreWaiting b.journal (map waiting was) → seen ≡ was → None ≡ position (λ u. u.number == q) seen → ⊥
no_place s b was seen q v l w same n =
    let there = w q (ap (λ (y : Ongoing). lives y.play.journal q) v ∙ l) in
    let none = not_found q was (n ∙ ap (position (λ (u : Unread). u.number == q)) same) in
    (let no = sym there ∙ none in cc)

-- the place holds the unread bytes of the peer q
pub record IsHeld (was : List Unread) (q place : ℕ) (old : Unread) : Type 0 where
  pub at : IsAt q was place
  pub number : old.number ≡ q
  pub bytes : unread_by (map waiting was) q ≡ begun old.cutter

pub held : (was seen : List Unread) (q place : ℕ) (old : Unread) → seen ≡ was →
    Some place ≡ position (λ u. u.number == q) seen →
    old ≡ get_or was place old → IsHeld was q place old
held was seen q place old same found is =
    let at = found_at q was place (found ∙ ap (position (λ (u : Unread). u.number == q)) same) in
    record {
      at = at;
      number = ap (λ (u : Unread). u.number) is ∙ number_at q was place old at;
      bytes = bytes_at q was place old at ∙ ap (λ (u : Unread). begun u.cutter) (sym is);
    }

pub read_waits : (journal : List Entry) (was : List Unread) (q place : ℕ) (old new : Unread) → IsHeld was q place old →
    new.number ≡ old.number →
    AreWaiting journal (map waiting was) → AreWaiting journal (map waiting (set was place new))
read_waits journal was q place old new h n w k l =
    ap (is_waiting k) (set_at q was place new h.at (n ∙ h.number))
    ∙ waiting_with q (begun new.cutter) k (map waiting was) ∙ w k l

pub read_live : (journal : List Entry) (was : List Unread) (q place : ℕ) (old new : Unread) → IsHeld was q place old →
    new.number ≡ old.number →
    AreLive journal (map waiting was) → AreLive journal (map waiting (set was place new))
read_live journal was q place old new h n w k l =
    w k (sym (ap (is_waiting k) (set_at q was place new h.at (n ∙ h.number))
    ∙ waiting_with q (begun new.cutter) k (map waiting was)) ∙ l)

read_by : (s after : Ongoing) (b : Broker) (was : List Unread) (q place : ℕ) (old new : Unread) (piece : List ℕ)
    (found : Found) → view_of b was ≡ s →
    IsHeld was q place old → new.number ≡ old.number → after.play.unread ≡ map waiting (set was place new) →
    Finds old.number (begun old.cutter ++ piece) piece found (begun new.cutter) → IsRead s q piece found after
read_by s after b was q place old new piece found v h n u f = record {
  left = begun new.cutter;
  finds =
      let here = ap (λ (y : Ongoing). unread_of y.play q) (sym v) ∙ h.bytes in
      subst (λ (bytes : List ℕ). Finds q (bytes ++ piece) piece found (begun new.cutter)) (sym here)
      (subst (λ k. Finds k (begun old.cutter ++ piece) piece found (begun new.cutter)) h.number f);
  unread = u ∙ set_at q was place new h.at (n ∙ h.number) ∙ ap
      (λ (y : Ongoing). with_unread q (begun new.cutter) y.play.unread) v;
}

pub read_is : {E : Type 0} (s after : Ongoing) (b : Broker) (was : List Unread) (q place : ℕ) (old new : Unread)
    (piece : List ℕ) (r : Result Found E) →
    view_of b was ≡ s → IsHeld was q place old → new.number ≡ old.number →
    after.play.unread ≡ map waiting (set was place new) →
    IfOk r (λ found. Finds old.number (begun old.cutter ++ piece) piece found (begun new.cutter)) →
    IfOk r (λ found. IsRead s q piece found after)
read_is s after b was q place old new piece (Ok found) v h n u f = read_by s after b was q place old new piece found v h
    n u f
read_is s after b was q place old new piece (Err e) v h n u f = tt
