-- The steps that a line plays have the stamp that was given with it.
use Rattle.std.proofs.Common.{◌≡◌, ℕ, suc, ◌+◌, List, [], ◌∷◌, ◌++◌, length, false, refl, sym, ap, subst, ◌∙◌, arith, append_assoc}
use Rattle.std.specs.Prelude.{replicate}
use Rattle.std.proofs.lemmas.List.{replicate-append-replicate}
use Rattle.broker_steps.specs.declared.stamp.Stamp.{Stamp}
use Rattle.broker_steps.specs.declared.step.Step.{Step}
use Rattle.broker_steps.specs.declared.step.Step.TheVariants as steps
use Rattle.broker_steps.specs.declared.step.PeerStep.TheVariants as peers
use Rattle.broker_model.specs.declared.journal.Entry.{Entry}
use Rattle.broker_model.specs.Settle.{number_alive, step_of, outer}
use Rattle.broker_model.specs.Stamps.{follows, stamps}
use Rattle.broker_model.proofs.SettlingEnds.{outer_settled}
use Rattle.broker_core.specs.Broker as broker
use Rattle.broker_core.proofs.StampsOfCalls.{step_given}
use Rattle.broker_core.specs.Broker.{Broker, entry_of, IsSaid}
use Rattle.seat_set.specs.declared.unread.Unread.{Unread}
use Rattle.seat_set.specs.Playing.{Ongoing, AreStamped}
use Rattle.seat_set.proofs.SharedSteps.{view_of}

-- nothing was played
pub none_stamped : (given : Stamp) (journal : List Entry) (ss : List Stamp) → AreStamped given journal ss journal ss
none_stamped given journal ss = record { number = 0; more = omega arith; stamped = λ gave h. h }

-- what was played, and more

replicated : (a b : ℕ) (x : Stamp) (rest : List Stamp) →
    replicate (b + a) x ++ rest ≡ replicate b x ++ (replicate a x ++ rest)
replicated a b x rest =
    ap (λ (ss : List Stamp). ss ++ rest) (sym (replicate-append-replicate b a x))
    ∙ append_assoc (replicate b x) (replicate a x) rest

pub both_stamped : (given : Stamp) (a b c : List Entry) (u v w : List Stamp) → AreStamped given a u b v →
    AreStamped given b v c w →
    AreStamped given a u c w
both_stamped given a b c u v w h k = record {
  number = k.number + h.number;
  more = (let i = h.more in let j = k.more in omega arith);
  stamped = λ gave e.
      ap (λ (ss : List Stamp). stamps c ss) (replicated h.number k.number given gave)
      ∙ k.stamped (replicate h.number given ++ gave) (h.stamped gave e);
}

-- an outer step
pub record IsOuter (e : Entry) : Type 0 where
  pub step : step_of e ≡ e ∷ []
  pub own : follows e ≡ false

said_outer : (step : Step) → IsSaid step → IsOuter (entry_of step)
said_outer (steps.Join role) s = absurd s
said_outer (steps.Peer q (peers.Message id opcode body)) s = record { step = refl; own = refl }
said_outer (steps.Peer q (peers.BadSize head)) s = record { step = refl; own = refl }
said_outer (steps.Peer q (peers.Tokens tokens)) s = record { step = refl; own = refl }
said_outer (steps.Peer q peers.Gone) s = record { step = refl; own = refl }
said_outer (steps.Shell step) s = record { step = refl; own = refl }
said_outer (steps.Take q n) s = absurd s

one_more : (n : ℕ) (es : List Entry) → n ≡ suc (length es) → n ≡ 1 + length es
one_more n es h = omega arith

stepped_given : (e : Entry) (given : Stamp) (b after : Broker) → IsOuter e → after ≡ broker.with_step e given b →
    AreStamped given b.journal b.stamps after.journal after.stamps
stepped_given e given b after o a =
    let J : List Entry = b.journal in
    subst (λ (x : Broker). AreStamped given J b.stamps x.journal x.stamps) (sym a) (record {
      number = 1;
      more =
          one_more _ (outer J)
          (ap length (outer_settled b.limits.store (number_alive (e ∷ J)) (e ∷ J))
          ∙ ap (λ (es : List Entry). length (es ++ outer J)) o.step);
      stamped = λ gave h. step_given b.limits.store e J given gave b.stamps o.own h;
    })

pub entry_given : (s : Ongoing) (b after : Broker) (was : List Unread) (e : Entry) (given : Stamp) → view_of b was ≡ s →
    IsOuter e →
    after ≡ broker.with_step e given b → AreStamped given s.play.journal s.stamps after.journal after.stamps
entry_given s b after was e given v o a =
    subst (λ (y : Ongoing). AreStamped given y.play.journal y.stamps after.journal after.stamps) v
    (stepped_given e given b after o a)

pub said_given : (s : Ongoing) (b after : Broker) (was : List Unread) (step : Step) (given : Stamp) →
    view_of b was ≡ s → IsSaid step →
    after ≡ broker.with_step (entry_of step) given b →
    AreStamped given s.play.journal s.stamps after.journal after.stamps
said_given s b after was step given v said a =
    entry_given s b after was (entry_of step) given v (said_outer step said) a

pub none_given : (s : Ongoing) (b after : Broker) (was : List Unread) (given : Stamp) → view_of b was ≡ s → after ≡ b →
    AreStamped given s.play.journal s.stamps after.journal after.stamps
none_given s b after was given v a =
    subst (λ (y : Ongoing). AreStamped given y.play.journal y.stamps after.journal after.stamps) v
    (subst (λ (x : Broker). AreStamped given b.journal b.stamps x.journal x.stamps) (sym a)
    (none_stamped given b.journal b.stamps))

-- bytes are read, which plays nothing

pub stamped_read : (given : Stamp) (begin at read : Ongoing) → read.play.journal ≡ at.play.journal →
    read.stamps ≡ at.stamps →
    AreStamped given begin.play.journal begin.stamps at.play.journal at.stamps →
    AreStamped given begin.play.journal begin.stamps read.play.journal read.stamps
stamped_read given begin at read j k h =
    subst (λ (es : List Entry). AreStamped given begin.play.journal begin.stamps es read.stamps) (sym j)
    (subst (λ (ss : List Stamp). AreStamped given begin.play.journal begin.stamps at.play.journal ss) (sym k) h)

-- and then a step is played
pub stamped_on : (given : Stamp) (begin at read after : Ongoing) → read.play.journal ≡ at.play.journal →
    read.stamps ≡ at.stamps →
    AreStamped given begin.play.journal begin.stamps at.play.journal at.stamps →
    AreStamped given read.play.journal read.stamps after.play.journal after.stamps →
    AreStamped given begin.play.journal begin.stamps after.play.journal after.stamps
stamped_on given begin at read after j k h m =
    both_stamped given begin.play.journal read.play.journal after.play.journal begin.stamps read.stamps after.stamps
    (stamped_read given begin at read j k h) m
