-- What the root's calls leave of the root
use Rattle.std.proofs.Common.{◌≡◌, ◌++◌, ◌∷◌, [], Err, ap, ◌∙◌, subst, arith, append-nil}
use Rattle.relay_model.specs.declared.role.Role.{Role}
use Rattle.broker_model.specs.declared.journal.Entry.TheVariants as entries
use Rattle.broker_core.specs.declared.answers.JoinRefusal.{JoinRefusal}
use Rattle.turn_lock.specs.Pairs.{own, NoneOf, HasSeen}
use Rattle.hub_lock.specs.Seats.{after_split, split_off, met_with, having_seen, IsMeeting}
use Rattle.turn_lock.proofs.PairsOfNumbers.{own-append}
use Rattle.hub_lock.specs.Histories.{History, joining}
use Rattle.hub_lock.specs.Passes.{HubId, PassSeat, PeerPass, IsOf}
use Rattle.hub_lock.specs.Calls.{IsJoined, LegalJoin}
use Rattle.serve_run.specs.Started.{IsRootOf, IsGivenBack, IsJoinedBy, IsNotJoined}

pub given_back : (hub : HubId) (root root' other : PassSeat) → IsRootOf hub root → root' ≡ met_with root other
    → IsMeeting root other root'.seen → IsGivenBack hub root root' other.number
given_back hub root root' other is met both = record {
  root_is = record {
    of = (ap (λ (s : PassSeat). s.turn) met ∙ is.of.0, ap (λ (s : PassSeat). s.constant) met ∙ is.of.1);
    zero = ap (λ (s : PassSeat). s.number) met ∙ is.zero;
  };
  next = ap (λ (s : PassSeat). s.next) met;
  mine = subst (λ n. HasSeen root'.seen n root.seen) is.zero both.mine;
  out = ap (λ (s : PassSeat). s.out) met;
  taken = ap (λ (s : PassSeat). s.taken) met;
  settled = both.taken;
}

-- a pass was split off
pub split_root : (hub : HubId) (root root' : PassSeat) → IsRootOf hub root → root' ≡ after_split root →
    IsRootOf hub root'
split_root hub root root' is same = record {
  of = (ap (λ (s : PassSeat). s.turn) same ∙ is.of.0, ap (λ (s : PassSeat). s.constant) same ∙ is.of.1);
  zero = ap (λ (s : PassSeat). s.number) same ∙ is.zero;
}

pub split_of : (hub : HubId) (root pass : PassSeat) → IsRootOf hub root → pass ≡ split_off root → IsOf hub pass
split_of hub root pass is same =
    (ap (λ (s : PassSeat). s.turn) same ∙ is.of.0, ap (λ (s : PassSeat). s.constant) same ∙ is.of.1)

-- the root's own steps, where others made some, and it made one
own_longer : (h rest : History) (x : _) → NoneOf 0 rest → own 0 ((h ++ rest) ++ (0, x) ∷ []) ≡ own 0 h ++ x ∷ []
own_longer h rest x none =
    own-append 0 (h ++ rest) ((0, x) ∷ [])
    ∙ ap (λ s. s ++ x ∷ []) (own-append 0 h rest ∙ (ap (λ s. own 0 h ++ s) none ∙ append-nil (own 0 h)))

own_same : (h rest : History) → NoneOf 0 rest → own 0 (h ++ rest) ≡ own 0 h
own_same h rest none = own-append 0 h rest ∙ (ap (λ s. own 0 h ++ s) none ∙ append-nil (own 0 h))

-- a peer joined
pub joined_by : (hub : HubId) (root root' : PassSeat) (role : Role) (reader writer : PeerPass) → IsRootOf hub root
    → IsJoined hub.limits root root' role reader writer → IsJoinedBy hub root root' role reader writer
joined_by hub root root' role reader writer is it = record {
  root_is = record {
    of = (ap (λ (s : PassSeat). s.turn) it.left ∙ is.of.0, ap (λ (s : PassSeat). s.constant) it.left ∙ is.of.1);
    zero = ap (λ (s : PassSeat). s.number) it.left ∙ is.zero;
  };
  next = ap (λ (s : PassSeat). s.next) it.left ∙ (omega arith);
  out = ap (λ (s : PassSeat). s.out) it.left ∙ (omega arith);
  joins = ap (λ (s : PassSeat). own 0 s.seen) it.left ∙ (ap (own 0) it.legal.answer.joined
      ∙ own_longer root.seen it.legal.rest (joining (entries.Join role) root.next)
      (subst (λ n. NoneOf n it.legal.rest) is.zero it.legal.apart));
  taken = ap (λ (s : PassSeat). s.taken) it.left;
  reads = (
    ap (λ (s : PassSeat). s.turn) it.for_reader ∙ is.of.0,
    ap (λ (s : PassSeat). s.constant) it.for_reader
        ∙ is.of.1,
  );
  writes = (
    ap (λ (s : PassSeat). s.turn) it.for_writer ∙ is.of.0,
    ap (λ (s : PassSeat). s.constant) it.for_writer
        ∙ is.of.1,
  );
  reader_number = ap (λ (s : PassSeat). s.number) it.for_reader;
  writer_number = ap (λ (s : PassSeat). s.number) it.for_writer;
}

-- a join was refused
pub not_joined : (hub : HubId) (root root' : PassSeat) (role : Role) (why : JoinRefusal) → IsRootOf hub root
    → root' ≡ having_seen root root'.seen → LegalJoin hub.limits root root'.seen role (Err why)
    → IsNotJoined hub root root'
not_joined hub root root' role why is same legal = record {
  root_is = record {
    of = (ap (λ (s : PassSeat). s.turn) same ∙ is.of.0, ap (λ (s : PassSeat). s.constant) same ∙ is.of.1);
    zero = ap (λ (s : PassSeat). s.number) same ∙ is.zero;
  };
  next = ap (λ (s : PassSeat). s.next) same;
  out = ap (λ (s : PassSeat). s.out) same;
  joins = ap (own 0) legal.answer.same
      ∙ own_same root.seen legal.rest (subst (λ n. NoneOf n legal.rest) is.zero legal.apart);
  taken = ap (λ (s : PassSeat). s.taken) same;
}
