-- A journal only grows, and who watches is told of what it has more.
use Rattle.std.proofs.Common.{◌≡◌, ℕ, ◌+◌, List, [], ◌∷◌, ◌++◌, length, Bool, true, false, Option, Some, None, refl, sym, ap, subst, ◌∙◌, arith, append_assoc, length-append}
use Rattle.std.specs.Prelude.{if◌then◌else◌, min, nat_le, ◌==◌}
use Rattle.wl_wire.specs.Messages.{behind}
use Rattle.broker_steps.specs.declared.limits.Limits.{Limits}
use Rattle.broker_model.specs.declared.journal.Entry.{Entry}
use Rattle.broker_model.specs.declared.journal.Entry.TheVariants as entries
use Rattle.broker_model.specs.Ids.{Joined}
use Rattle.broker_model.specs.Limits.{is_full}
use Rattle.broker_model.specs.Out.{stored, out_for}
use Rattle.broker_model.specs.Settle.{number_alive, settle}
use Rattle.broker_core.specs.Taking.{lives}
use Rattle.relay_objects.specs.Reached.{Reached}
use Rattle.broker_core.specs.Watched.{Watched, watched_since}
use Rattle.relay_objects.proofs.TellsAppend.{reached_append}
use Rattle.broker_core.proofs.WatchedSince.{since_none, since_append, settled_more}
use Rattle.broker_cutter.specs.Steps.{steps_in}
use Rattle.seat_set.specs.Played.{Play, went, with_step, step_played, steps_played, unread_of, with_unread, bytes_played, with_peer, join_played, tokens_played, take_played}
use Rattle.seat_set.specs.Playing.{IsMore, IsWatched}

pub no_more : (journal : List Entry) → IsMore journal journal
no_more journal = record { more = []; is = refl }

pub more_both : (a b c : List Entry) → IsMore a b → IsMore b c → IsMore a c
more_both a b c h k = record {
  more = k.more ++ h.more;
  is = k.is ∙ ap (λ (l : List Entry). k.more ++ l) h.is ∙ sym (append_assoc k.more h.more a);
}

one_more : (e : Entry) (journal : List Entry) → IsMore journal (e ∷ journal)
one_more e journal = record { more = e ∷ []; is = refl }

-- settling appends only

settle_more : (capacity : ℕ) (journal : List Entry) → IsMore journal (settle capacity journal)
settle_more capacity journal = (let m = settled_more capacity (number_alive journal) journal in
    record { more = m.more; is = m.is })

pub step_more : (capacity : ℕ) (e : Entry) (journal : List Entry) → IsMore journal (settle capacity (e ∷ journal))
step_more capacity e journal =
    more_both journal (e ∷ journal) (settle capacity (e ∷ journal)) (one_more e journal)
    (settle_more capacity (e ∷ journal))

-- and so does all that is played

pub step_grows : (limits : Limits) (e : Entry) (play : Play) →
    IsMore play.journal (step_played limits e play).play.journal
step_grows limits e play = by (is_full limits play.journal e)
  where
    by : (b : Bool) → IsMore play.journal (if b then record { play = play; is_full = true } else went
        (with_step limits e play)).play.journal
    by true = no_more play.journal
    by false = step_more limits.store e play.journal

pub steps_grow : (limits : Limits) (q : ℕ) (steps : List Entry) (play : Play) →
    IsMore play.journal (steps_played limits q steps play).play.journal
steps_grow limits q [] play = no_more play.journal
steps_grow limits q (e ∷ rest) play =
    by (lives play.journal q) (is_full limits play.journal e)
    (steps_grow limits q rest (with_step limits e play))
  where
    by : (b c : Bool) → IsMore (with_step limits e play).journal
        (steps_played limits q rest (with_step limits e play)).play.journal → IsMore play.journal
        (if b then (if c then record { play = play; is_full = true } else steps_played limits q rest
        (with_step limits e play)) else went play).play.journal
    by true true k = no_more play.journal
    by true false k =
        more_both play.journal (with_step limits e play).journal
        (steps_played limits q rest (with_step limits e play)).play.journal
        (step_more limits.store e play.journal) k
    by false c k = no_more play.journal

pub bytes_grow : (limits : Limits) (q : ℕ) (piece : List ℕ) (play : Play) →
    IsMore play.journal (bytes_played limits q piece play).play.journal
bytes_grow limits q piece play = by (lives play.journal q)
  where
    bytes : List ℕ
    bytes = unread_of play q ++ piece

    by : (b : Bool) → IsMore play.journal
        (if b then steps_played limits q (steps_in q bytes) (record play
        { unread = with_unread q (behind bytes) play.unread }) else went play).play.journal
    by true = steps_grow limits q (steps_in q bytes) (record play { unread = with_unread q (behind bytes) play.unread })
    by false = no_more play.journal

pub join_grows : (limits : Limits) (e : Entry) (play : Play) →
    IsMore play.journal (join_played limits e play).play.journal
join_grows limits e play = by (nat_le 64 (number_alive play.journal))
  where
    by : (b : Bool) → IsMore play.journal (if b then went play else step_played limits e (with_peer play)).play.journal
    by true = no_more play.journal
    by false = step_grows limits e (with_peer play)

pub take_grows : (limits : Limits) (q n : ℕ) (play : Play) (o : Option Joined) →
    IsMore play.journal (take_played limits q n play o).play.journal
take_grows limits q n play None = no_more play.journal
take_grows limits q n play (Some peer) = by (min n (length (stored (out_for limits.store play.journal peer.label))) ==
    0)
  where
    by : (b : Bool) → IsMore play.journal
        (if b then went play else step_played limits (entries.Took q
        (min n (length (stored (out_for limits.store play.journal peer.label))))) play).play.journal
    by true = no_more play.journal
    by false = step_grows limits (entries.Took q (min n (length
        (stored (out_for limits.store play.journal peer.label))))) play

pub tokens_grow : (limits : Limits) (q : ℕ) (tokens : List ℕ) (play : Play) →
    IsMore play.journal (tokens_played limits q tokens play).play.journal
tokens_grow limits q tokens play = by (lives play.journal q)
  where
    by : (b : Bool) → IsMore play.journal
        (if b then step_played limits (entries.Tokens q tokens) play else went play).play.journal
    by true = step_grows limits (entries.Tokens q tokens) play
    by false = no_more play.journal

-- who watches

pub watched_none : {W : Type 0} (R : W → Watched → W → Type 0) (capacity : ℕ) (journal : List Entry) (w : W) →
    IsWatched R capacity journal w journal w
watched_none R capacity journal w = record {
  grew = no_more journal;
  told = subst (λ (events : List Watched). Reached R w events w) (sym (since_none capacity journal)) refl;
}

pub watched_both : {W : Type 0} (R : W → Watched → W → Type 0) (capacity : ℕ) (a b c : List Entry) (u v w : W) →
    IsWatched R capacity a u b v → IsWatched R capacity b v c w → IsWatched R capacity a u c w
watched_both R capacity a b c u v w h k =
    let long : length b ≡ length h.grew.more + length a = ap length h.grew.is ∙ length-append h.grew.more a in
    let events : watched_since capacity (length a) c ≡ watched_since capacity (length a) b ++ watched_since capacity
    (length b) c =
    ap (watched_since capacity (length a)) k.grew.is ∙ since_append capacity (length a) k.grew.more b (omega arith)
    ∙ ap (λ (l : List Entry). watched_since capacity (length a) b ++ watched_since capacity (length b) l)
    (sym k.grew.is) in
    record {
      grew = more_both a b c h.grew k.grew;
      told = subst (λ (l : List Watched). Reached R u l w) (sym events)
          (reached_append R (watched_since capacity (length a) b) (watched_since capacity (length b) c) u v w h.told
          k.told);
    }
