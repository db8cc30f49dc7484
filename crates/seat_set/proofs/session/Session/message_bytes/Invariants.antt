use Rattle.std.proofs.Common.{◌≡◌, length}
use Rattle.seat_set.specs.Played.{bytes_played}
use Rattle.seat_set.specs.Playing.{AreStamped, IsWatched}
use Rattle.seat_set.proofs.session.Session.message_bytes.Given as goal

-- what is left of the piece leads to the same
abbrev pub invariant-loop-rest : goal.invariant-loop-rest
invariant-loop-rest g l = record {
  limits : l.self.limits ≡ l.fn.self.limits;
  kept : l.self.kept_from ≡ l.fn.self.kept_from;
  left : bytes_played l.fn.self.limits l.number l.rest l.self.play
      ≡ bytes_played l.fn.self.limits l.number l.fn.piece l.fn.self.play;
  stamped : AreStamped l.stamp l.fn.self.play.journal l.fn.self.stamps l.self.play.journal l.self.stamps;
  watched : IsWatched g.W.Watch.may_follow l.fn.self.limits.store l.fn.self.play.journal l.fn.watch
      l.self.play.journal l.watch;
}

-- each message leaves fewer bytes
abbrev pub decreases-loop-rest : goal.decreases-loop-rest
decreases-loop-rest g l = length l.rest
