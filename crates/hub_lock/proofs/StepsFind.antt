-- What a step that isn't refused finds, and that it is legal
use Rattle.std.proofs.Common.{◌≡◌, ℕ, ◌<◌, ◌≤◌, List, length, min, Bool, true, false, Option, Some, None, Result, Ok, Err, IfSome, refl, sym, subst, ◌∙◌, arith}
use Rattle.std.specs.Prelude.{nat_le, ◌==◌, option_map, if◌then◌else◌}
use Rattle.std.proofs.lemmas.Bool.{leb-false, eqb-false}
use Rattle.relay_model.specs.declared.act.EndCause.{EndCause}
use Rattle.relay_model.specs.declared.role.Role.{Role}
use Rattle.broker_steps.specs.declared.limits.Limits.{Limits}
use Rattle.broker_steps.specs.declared.step.PeerStep.{PeerStep}
use Rattle.broker_steps.specs.declared.step.PeerStep.TheVariants as peers
use Rattle.broker_steps.specs.Ranges.{piece_limit, IsWithin}
use Rattle.broker_model.specs.declared.journal.Entry.{Entry}
use Rattle.broker_model.specs.declared.journal.Entry.TheVariants as entries
use Rattle.broker_model.specs.declared.journal.Kept.{Kept}
use Rattle.broker_model.specs.Out.{Outgoing, stored}
use Rattle.broker_model.specs.Settle.{number_alive}
use Rattle.broker_core.specs.declared.answers.JoinRefusal.{JoinRefusal}
use Rattle.broker_core.specs.declared.answers.JoinRefusal.TheVariants as join_refusals
use Rattle.broker_core.specs.declared.answers.Took.{Took}
use Rattle.broker_core.specs.declared.answers.Took.TheVariants as took
use Rattle.broker_core.specs.declared.taking.Standing.{Standing}
use Rattle.broker_core.specs.declared.taking.Standing.TheVariants.{Nobody, Alive, Over}
use Rattle.broker_core.specs.Broker.{Broker, join_refusal, full_for, peer_entry, peer_refusal, nothing_left, take_refusal_from, take_refusal, IfBytes}
use Rattle.broker_core.specs.Stands.{end_of}
use Rattle.broker_core.specs.Taking.{out_at, standing_of, lives}
use Rattle.hub_lock.specs.Plays.{IsTakenInto}
use Rattle.hub_lock.specs.Steps.{IsStored, Finds}

-- a step was taken, so it wasn't refused
pub not-refused : {T E : Type 0} (o : Option E) (r : Result T E) (t : T) → IfSome o (λ why. r ≡ Err why) → r ≡ Ok t
    → o ≡ None
not-refused None r t refused is = refl
not-refused (Some why) r t refused is = let never = sym is ∙ refused in cc

-- who joins finds fewer than 64 alive

few-by : (many : Bool) (o : Option JoinRefusal) → (if many then Some (join_refusals.TooManyPeers 64) else o) ≡ None
    → many ≡ false
few-by true o e = cc
few-by false o e = refl

pub few-alive : (b : Broker) (role : Role) → join_refusal b role ≡ None → number_alive b.journal < 64
few-alive b role e =
    leb-false 64 (number_alive b.journal)
    (few-by (nat_le 64 (number_alive b.journal))
    (option_map (λ kept. join_refusals.JournalFull kept) (full_for b (entries.Join role))) e)

-- a peer that says something is alive

alive-by : (b : Broker) (e : Entry) (s : Standing) → peer_refusal b e s ≡ None → s ≡ Alive
alive-by b e Nobody none = cc
alive-by b e (Over cause) none = cc
alive-by b e Alive none = refl

pub peer-finds : (b : Broker) (q : ℕ) (step : PeerStep) (s : Standing) → s ≡ standing_of b.journal q
    → (s ≡ Alive → lives b.journal q ≡ true) → peer_refusal b (peer_entry q step) (standing_of b.journal q) ≡ None
    → Finds b.limits b.journal (peer_entry q step)
peer-finds b q step s is alive none =
    by step (alive (is ∙ alive-by b (peer_entry q step) (standing_of b.journal q) none)) where
      by : (step : PeerStep) → lives b.journal q ≡ true → Finds b.limits b.journal (peer_entry q step)
      by (peers.Message id opcode body) l = l
      by (peers.Tokens tokens) l = l
      by (peers.BadSize head) l = l
      by peers.Gone l = l

-- a take took bytes, so it wasn't refused

took-by : (empty : Bool) (o : Option EndCause) (full : Option Kept) (r : Took) (count places : ℕ)
    → r ≡ took.Bytes count places
    → IfSome (if empty then Some (nothing_left o) else option_map (λ kept. took.JournalFull kept) full) (λ why. r ≡ why)
    → empty ≡ false
took-by true None full r count places is refused = let never = sym is ∙ refused in cc
took-by true (Some cause) full r count places is refused = let never = sym is ∙ refused in cc
took-by false o full r count places is refused = refl

-- so it took one byte at least, and as many were stored
pub record IsTaking (limits : Limits) (journal : List Entry) (q bytes : ℕ) : Type 0 where
  pub within : IsWithin piece_limit bytes
  pub stored : IsStored limits journal q bytes

taking-some : (b : Broker) (q most : ℕ) (bytes tokens : List ℕ) (out : Outgoing) (count places : ℕ)
    → out_at b.limits.store b.journal q ≡ Some out → (length (stored out) == 0) ≡ false → 1 ≤ most → most ≤ 4096
    → IsTakenInto out most bytes tokens (count, places) → IsTaking b.limits b.journal q count
taking-some b q most bytes tokens out count places is some least small t =
    let n : count ≡ min most (length (stored out)) = t.count in
    let more = eqb-false (length (stored out)) 0 some in
    let one : 1 ≤ length (stored out) = omega (arith, more) in
    let enough : count ≤ length (stored out) = grind (arith, n) in
    let first : 1 ≤ count = grind (arith, n, one, least) in
    let few : count ≤ 4096 = grind (arith, n, small) in
    record { within = (first, few); stored = record { out = out; is = is; enough = enough } }

taking-by : (b : Broker) (q most : ℕ) (bytes tokens : List ℕ) (r : Took) (count places : ℕ) (o : Option Outgoing)
    → out_at b.limits.store b.journal q ≡ o → r ≡ took.Bytes count places → 1 ≤ most → most ≤ 4096
    → IfSome (take_refusal_from b q o) (λ why. r ≡ why)
    → IfSome o (λ out. IfBytes r (λ counts. IsTakenInto out most bytes tokens counts))
    → IsTaking b.limits b.journal q count
taking-by b q most bytes tokens r count places None is told least small refused t =
    (let never = sym told ∙ refused in cc)
taking-by b q most bytes tokens r count places (Some out) is told least small refused t =
    taking-some b q most bytes tokens out count places is
    (took-by (length (stored out) == 0) (end_of b.journal q)
    (full_for b (entries.Took q 0)) r count places told refused)
    least small (subst (λ (x : Took). IfBytes x (λ counts. IsTakenInto out most bytes tokens counts)) told t)

pub taking : (b : Broker) (q most : ℕ) (bytes tokens : List ℕ) (r : Took) (count places : ℕ)
    → r ≡ took.Bytes count places → 1 ≤ most → most ≤ 4096
    → IfSome (take_refusal b q) (λ why. r ≡ why)
    → IfSome (out_at b.limits.store b.journal q) (λ out. IfBytes r (λ counts. IsTakenInto out most bytes tokens counts))
    → IsTaking b.limits b.journal q count
taking b q most bytes tokens r count places told least small refused t =
    taking-by b q most bytes tokens r count places (out_at b.limits.store b.journal q) refl told least small refused t
