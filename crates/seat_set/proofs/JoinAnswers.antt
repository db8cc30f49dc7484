-- What a join that was taken, or refused, makes of what is played.
use Rattle.std.proofs.Common.{◌≡◌, Bool, true, false, Option, Some, None, Result, Ok, Err, refl, sym, ap, subst, ◌∙◌}
use Rattle.std.specs.Prelude.{if◌then◌else◌, option_map, nat_le, IfSome, IfNone, IsOkUnless}
use Rattle.relay_model.specs.declared.role.Role.{Role}
use Rattle.broker_model.specs.declared.journal.Entry.{Entry}
use Rattle.broker_model.specs.declared.journal.Entry.TheVariants as entries
use Rattle.broker_model.specs.declared.journal.Kept.{Kept}
use Rattle.broker_model.specs.Limits.{is_full}
use Rattle.broker_model.specs.Settle.{number_alive}
use Rattle.broker_core.specs.declared.answers.JoinRefusal.{JoinRefusal}
use Rattle.broker_core.specs.declared.answers.JoinRefusal.TheVariants as join
use Rattle.broker_core.specs.Broker.{Broker, kept_in, join_refusal}
use Rattle.broker_steps.specs.declared.limits.Limits.{Limits}
use Rattle.seat_set.specs.declared.session.Stop.TheVariants as stops
use Rattle.seat_set.specs.Played.{Play, Played, went, with_step, step_played, with_peer, join_played}
use Rattle.seat_set.specs.Playing.{IsPlayed}
use Rattle.seat_set.proofs.StepAnswers.{played_ok, played_full}

-- why nobody can join, by how many are alive and whether the journal is full
abbrev refusal_by : Bool → Bool → Kept → Option JoinRefusal
refusal_by many full kept = (if many then Some (join.TooManyPeers 64) else option_map (λ k. join.JournalFull k)
    (if full then Some kept else None))

-- too many are alive, or the journal was full, or memory was short
pub data IsRefused (many full : Bool) (kept : Kept) (why : JoinRefusal) : Type 0 where
  too_many : many ≡ true → why ≡ join.TooManyPeers 64 → IsRefused many full kept why
  at_limit : many ≡ false → full ≡ true → why ≡ join.JournalFull kept → IsRefused many full kept why
  short : why ≡ join.NoMemory → IsRefused many full kept why

unless_is : {T : Type 0} (r : Result T JoinRefusal) (why : JoinRefusal) → r ≡ Err why → IsOkUnless r join.NoMemory →
    why ≡ join.NoMemory
unless_is (Ok x) why e h = cc
unless_is (Err w) why e h = cc

refused_by : {T : Type 0} (many full : Bool) (kept : Kept) (r : Result T JoinRefusal) (why : JoinRefusal) →
    r ≡ Err why →
    IfSome (refusal_by many full kept) (λ w. r ≡ Err w) → IfNone (refusal_by many full kept)
    (IsOkUnless r join.NoMemory) → IsRefused many full kept why
refused_by true full kept r why e s n = too_many refl (let same = sym e ∙ s in cc)
refused_by false true kept r why e s n = at_limit refl refl (let same = sym e ∙ s in cc)
refused_by false false kept r why e s n = short (unless_is r why e n)

pub join_refused : {T : Type 0} (b : Broker) (role : Role) (r : Result T JoinRefusal) (why : JoinRefusal) →
    r ≡ Err why →
    IfSome (join_refusal b role) (λ w. r ≡ Err w) → IfNone (join_refusal b role) (IsOkUnless r join.NoMemory) →
    IsRefused (nat_le 64 (number_alive b.journal)) (is_full b.limits b.journal (entries.Join role))
    (kept_in b.journal) why
join_refused b role r why e s n =
    refused_by (nat_le 64 (number_alive b.journal)) (is_full b.limits b.journal (entries.Join role))
    (kept_in b.journal) r why e s n

taken_by : {T : Type 0} (many full : Bool) (kept : Kept) (r : Result T JoinRefusal) (x : T) → r ≡ Ok x →
    IfSome (refusal_by many full kept) (λ w. r ≡ Err w) →
    (many ≡ false) × (full ≡ false)
taken_by true full kept r x e s = (let no = sym e ∙ s in cc)
taken_by false true kept r x e s = (let no = sym e ∙ s in cc)
taken_by false false kept r x e s = (refl, refl)

pub join_taken : {T : Type 0} (b : Broker) (role : Role) (r : Result T JoinRefusal) (x : T) → r ≡ Ok x →
    IfSome (join_refusal b role) (λ w. r ≡ Err w) →
    (nat_le 64 (number_alive b.journal) ≡ false) × (is_full b.limits b.journal (entries.Join role) ≡ false)
join_taken b role r x e s = taken_by (nat_le 64 (number_alive b.journal))
    (is_full b.limits b.journal (entries.Join role)) (kept_in b.journal) r x e s

-- what is played

abbrev by_many : Limits → Entry → Play → Bool → Played
by_many limits e play t = (if t then went play else step_played limits e (with_peer play))

pub many_joined : (limits : Limits) (e : Entry) (play after : Play) → nat_le 64 (number_alive play.journal) ≡ true →
    after ≡ play →
    IsPlayed (join_played limits e play) (Ok tt) after
many_joined limits e play after m a = subst (λ (p : Played). IsPlayed p (Ok tt) after)
    (sym (ap (by_many limits e play) m)) (refl, a)

pub joined_ok : (limits : Limits) (e : Entry) (play after : Play) → nat_le 64 (number_alive play.journal) ≡ false →
    is_full limits play.journal e ≡ false → after ≡ with_step limits e (with_peer play) →
    IsPlayed (join_played limits e play) (Ok tt) after
joined_ok limits e play after m f a =
    subst (λ (p : Played). IsPlayed p (Ok tt) after) (sym (ap (by_many limits e play) m))
    (played_ok limits e (with_peer play) after f a)

pub joined_full : (limits : Limits) (e : Entry) (play after : Play) (kept : Kept) →
    nat_le 64 (number_alive play.journal) ≡ false →
    is_full limits play.journal e ≡ true → kept ≡ kept_in play.journal → after.journal ≡ play.journal →
    IsPlayed (join_played limits e play) (Err (stops.Full kept)) after
joined_full limits e play after kept m f k a =
    subst (λ (p : Played). IsPlayed p (Err (stops.Full kept)) after) (sym (ap (by_many limits e play) m))
    (played_full limits e (with_peer play) after kept f k a)
