-- A reader that submitted its set-up has made it, or the first of it where its peer ended
use Rattle.std.proofs.Common.{◌≡◌, ℕ, List, [], ◌∷◌, ◌++◌, map, Ok, sym, ap, subst, ◌∙◌, inl, inr}
use Rattle.relay_model.specs.declared.role.Role.{Role}
use Rattle.broker_steps.specs.declared.limits.Limits.{Limits}
use Rattle.broker_model.specs.declared.journal.Entry.{Entry}
use Rattle.client_side.specs.Messages as messages
use Rattle.turn_lock.specs.Pairs.{NoneOf}
use Rattle.hub_lock.specs.declared.step.OuterStep.{OuterStep}
use Rattle.hub_lock.specs.Passes.{HubId, PassSeat, PeerPass, IsOf}
use Rattle.hub_lock.specs.Calls.{IsJoined, pass_having_seen}
use Rattle.hub_calls.specs.declared.submit.Sent.{Sent}
use Rattle.hub_calls.specs.declared.submit.Sent.TheVariants as sent
use Rattle.hub_calls.specs.Made.{entries_by, SawMore}
use Rattle.hub_calls.specs.Submitted.{Submits, entries_in}
use Rattle.hub_calls.proofs.PassesGrow.{same_peer}
use Rattle.trial_typing.specs.Sending.{HasMade, IsBegun}
use Rattle.trial_threads.specs.Begun.{HasBegun}
use Rattle.trial_threads.proofs.PeersJoined.{IsThere, joined_there, stays_there}

abbrev entry_in : OuterStep → Entry
entry_in step = step.entry

module _ (limits : Limits) (before after : PeerPass) (setup : List ℕ) (sents : List messages.Sent)
    (fresh : NoneOf before.seat.number before.seat.seen) (peer : after.peer ≡ before.peer)
    (is : setup ≡ messages.spelled sents) where
  nothing : entries_by before.seat ≡ []
  nothing = ap (map entry_in) fresh

  all-is : entries_in before.peer setup ≡ entries_in after.peer (messages.spelled sents)
  all-is = ap (entries_in before.peer) is ∙ ap (λ q. entries_in q (messages.spelled sents)) (sym peer)

  pub made_by : (answer : Sent) → Submits limits before after (entries_in before.peer setup) (Ok answer) →
      HasMade limits after sents
  made_by sent.All k = inl (k ∙ ap (λ (l : List Entry). l ++ entries_in before.peer setup) nothing ∙ all-is)
  made_by (sent.Ended cause) k = inr (
    record {
      rest = k.next ∷ k.left;
      is = sym all-is ∙ k.all_are
          ∙ ap (λ (l : List Entry). l ++ k.next ∷ k.left)
          (sym (k.entries ∙ ap (λ (l : List Entry). l ++ k.made) nothing));
    },
    (cause, k.why),
  )

-- ---- the whole

pub of_seen : (hub : HubId) (before after : PeerPass) → after ≡ pass_having_seen before after.seat.seen →
    IsOf hub before.seat → IsOf hub after.seat
of_seen hub before after is own = subst (λ (p : PeerPass). IsOf hub p.seat) (sym is) own

pub reader_of_hub : (hub : HubId) (root root' : PassSeat) (role : Role) (reader writer : PeerPass) → IsOf hub root →
    IsJoined hub.limits root root' role reader writer → IsOf hub reader.seat
reader_of_hub hub root root' role reader writer own k =
    subst (λ (s : PassSeat). IsOf hub s) (sym k.for_reader) own

pub writer_of_hub : (hub : HubId) (root root' : PassSeat) (role : Role) (reader writer : PeerPass) → IsOf hub root →
    IsJoined hub.limits root root' role reader writer → IsOf hub writer.seat
writer_of_hub hub root root' role reader writer own k =
    subst (λ (s : PassSeat). IsOf hub s) (sym k.for_writer) own

pub root_of_hub : (hub : HubId) (root root' : PassSeat) (role : Role) (reader writer : PeerPass) → IsOf hub root →
    IsJoined hub.limits root root' role reader writer → IsOf hub root'
root_of_hub hub root root' role reader writer own k = subst (λ (s : PassSeat). IsOf hub s) (sym k.left) own

pub peer_begun : (limits : Limits) (root root' : PassSeat) (role : Role) (reader writer after : PeerPass) →
    IsJoined limits root root' role reader writer → after ≡ pass_having_seen reader after.seat.seen →
    SawMore limits reader.seat.seen after.seat.seen → HasBegun limits root root' role after writer
peer_begun limits root root' role reader writer after k is saw =
    record { first = reader; joined = k; same = is; saw = saw }

pub peer_ready : (hub : HubId) (root root' : PassSeat) (role : Role) (reader writer after : PeerPass)
    (sents : List messages.Sent) → IsOf hub root → IsJoined hub.limits root root' role reader writer →
    NoneOf writer.seat.number writer.seat.seen → after ≡ pass_having_seen reader after.seat.seen →
    SawMore hub.limits reader.seat.seen after.seat.seen → HasMade hub.limits after sents →
    IsBegun hub role after writer sents
peer_ready hub root root' role reader writer after sents own k fresh is saw made =
    let same = same_peer reader after is in
    let first : IsThere hub.limits reader.seat.seen reader.peer role =
    subst (λ (h : _). IsThere hub.limits h reader.peer role)
    (sym (ap (λ (s : PassSeat). s.seen) k.for_reader)) (joined_there hub.limits root k.seen role reader.peer k.legal) in
    let there : IsThere hub.limits after.seat.seen after.peer role =
    subst (λ q. IsThere hub.limits after.seat.seen q role) (sym same)
    (stays_there hub.limits reader.seat.seen after.seat.seen reader.peer role saw first) in record {
      reads = of_seen hub reader after is (reader_of_hub hub root root' role reader writer own k);
      writes = writer_of_hub hub root root' role reader writer own k;
      one_peer = k.peer ∙ sym same;
      peer = there.peer;
      joined = there.there;
      in_role = there.in_role;
      sent = made;
      fresh = fresh;
    }
