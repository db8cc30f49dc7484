-- A journal of legal steps is within its limits, and of the steps there are at most twice as many as entries that are
-- counted: each link that ends was a peer that joined.
use Rattle.std.proofs.Common.{◌≡◌, ℕ, zero, suc, ◌+◌, ◌*◌, ◌<◌, ◌≤◌, List, [], ◌∷◌, length, filter, Bool, true, false, cond, not, ◌&&◌, ◌||◌, Some, refl, sym, ap, subst, ◌∙◌, arith}
use Rattle.std.specs.Prelude.{◌==◌, nat_le, nat_lt}
use Rattle.std.specs.List.{slice_get}
use Rattle.std.proofs.lemmas.Bool.{eq-eqb, leb-false, ltb-false}
use Rattle.std.proofs.lemmas.List.Sums.{length-filter, count_by-le-length}
use Rattle.std.proofs.lemmas.Option.{same_Some}
use Rattle.relay_model.specs.declared.act.Act.{Act}
use Rattle.relay_model.specs.declared.act.EndCause.{EndCause}
use Rattle.relay_model.specs.declared.act.EndCause.TheVariants.{Gone}
use Rattle.relay_model.specs.Objects.{is_peer}
use Rattle.broker_steps.specs.declared.limits.Limits.{Limits}
use Rattle.broker_steps.specs.declared.step.PeerStep.TheVariants as peers
use Rattle.broker_steps.specs.declared.step.Step.{Step}
use Rattle.broker_steps.specs.declared.step.Step.TheVariants as steps
use Rattle.broker_model.specs.declared.journal.Entry.{Entry}
use Rattle.broker_model.specs.declared.journal.Entry.TheVariants as entries
use Rattle.broker_model.specs.Ids.{Joined, log_of, peer_at}
use Rattle.broker_model.specs.Limits.{is_end, number_counted, weight_of, weight, is_full}
use Rattle.broker_model.specs.Resolve.{past_of}
use Rattle.broker_model.specs.Settle.{number_alive}
use Rattle.broker_core.specs.Lives.{Numbered}
use Rattle.broker_core.specs.Broker.{entry_of}
use Rattle.broker_core.specs.Stands.{numbered, is_alive}
use Rattle.broker_core.proofs.AliveAfterEntry.{counted_cons, weight_cons, same_settled, alive_settle, alive_plain, alive_join}
use Rattle.broker_core.proofs.RosterAfterEntry.{IsPlain, roster_end, roster_count}
use Rattle.seat_set.proofs.LivesBefore.{IsAlive}
use Rattle.seat_set.proofs.LivesBefore as before
use Rattle.law_record.specs.Legal.{journal_of, IsLegal, AreLegal}

-- ---- the end of a live peer

abbrev is_other : ℕ → Numbered → Bool
is_other q n = not (n.number == q)

fewer_at : (log : List Act) (k i q : ℕ) (joined : List Joined) (peer : Joined) → slice_get joined i ≡ Some peer →
    is_peer log peer.label ≡ true → q ≡ k + i →
    length (filter (is_other q) (filter (is_alive log) (numbered k joined)))
    < length (filter (is_alive log) (numbered k joined))
fewer_at log k i q [] peer h l e = cc
fewer_at log k zero q (p ∷ ps) peer h l e =
    let first : Numbered = record { number = k; peer = p } in
    let rest : List Numbered = filter (is_alive log) (numbered (suc k) ps) in
    let same : p ≡ peer = same_Some p peer h in
    let alive : is_peer log p.label ≡ true = ap (λ (x : Joined). is_peer log x.label) same ∙ l in
    let own : (k == q) ≡ true = eq-eqb k q (omega arith) in
    let is : filter (is_alive log) (numbered k (p ∷ ps)) ≡ first ∷ rest =
    ap (λ (b : Bool). cond b (first ∷ rest) rest) alive in
    let left : filter (is_other q) (first ∷ rest) ≡ filter (is_other q) rest =
    ap (λ (b : Bool). cond (not b) (first ∷ filter (is_other q) rest) (filter (is_other q) rest)) own in
    let few : length (filter (is_other q) (first ∷ rest)) ≤ length rest =
    subst (λ (n : ℕ). n ≤ length rest) (sym (ap length left ∙ length-filter (is_other q) rest))
    (count_by-le-length (is_other q) rest) in
    subst (λ (xs : List Numbered). length (filter (is_other q) xs) < length xs) (sym is) (omega (arith, few))
fewer_at log k (suc i) q (p ∷ ps) peer h l e =
    by (is_peer log p.label) (fewer_at log (suc k) i q ps peer h l (omega arith))
  where
    first : Numbered
    first = record { number = k; peer = p }

    rest : List Numbered
    rest = filter (is_alive log) (numbered (suc k) ps)

    more : (c : Bool) → length (filter (is_other q) rest) < length rest →
        length (cond (not c) (first ∷ filter (is_other q) rest) (filter (is_other q) rest)) < suc (length rest)
    more true f = omega arith
    more false f = omega arith

    by : (b : Bool) → length (filter (is_other q) rest) < length rest →
        length (filter (is_other q) (cond b (first ∷ rest) rest)) < length (cond b (first ∷ rest) rest)
    by true f = more (k == q) f
    by false f = f

end_fewer : (q : ℕ) (why : EndCause) (older : List Entry) (peer : Joined) → peer_at (past_of older) q ≡ Some peer →
    is_peer (log_of (past_of older)) peer.label ≡ true →
    number_alive (entries.End q why ∷ older) < number_alive older
end_fewer zero why older peer e l = cc
end_fewer (suc i) why older peer e l =
    let less = fewer_at (log_of (past_of older)) 1 i (suc i) (past_of older).joined peer e l (omega arith) in
    let after = sym (roster_count (entries.End (suc i) why ∷ older))
    ∙ ap length (roster_end (suc i) why older peer e l) in
    omega (arith, less, after, roster_count older)

-- ---- one entry

neither : (a b : Bool) → (a || b) ≡ false → (a ≡ false) × (b ≡ false)
neither true b h = cc
neither false b h = (refl, h)

room_for : (limits : Limits) (older : List Entry) (e : Entry) → is_end e ≡ false → is_full limits older e ≡ false →
    (number_counted older < limits.entries) × (weight older + weight_of e ≤ limits.weight)
room_for limits older e n f =
    let many : Bool = nat_le limits.entries (number_counted older) in
    let heavy : Bool = nat_lt limits.weight (weight older + weight_of e) in
    let free = neither many heavy (sym (ap (λ (b : Bool). not b && (many || heavy)) n) ∙ f) in (
      leb-false limits.entries (number_counted older) free.0,
      ltb-false limits.weight (weight older + weight_of e) free.1,
    )

record IsOne (limits : Limits) (e : Entry) (older : List Entry) : Type 0 where
  counted : number_counted (e ∷ older) ≤ limits.entries
  light : weight (e ∷ older) ≤ limits.weight
  few : 1 + number_alive (e ∷ older) + 2 * number_counted older ≤ number_alive older + 2 * number_counted (e ∷ older)

counted_one : (limits : Limits) (e : Entry) (older : List Entry) → is_end e ≡ false →
    number_alive (e ∷ older) ≤ number_alive older + 1 → is_full limits older e ≡ false → IsOne limits e older
counted_one limits e older n alive f =
    let room = room_for limits older e n f in
    let (counted, light) = room in
    let one : number_counted (e ∷ older) ≡ 1 + number_counted older =
    counted_cons e older ∙ ap (λ (b : Bool). cond (not b) 1 0 + number_counted older) n in
    let weighs = weight_cons e older in
    record {
      counted = omega (arith, one, counted);
      light = omega (arith, weighs, light);
      few = omega (arith, one, alive);
    }

plain_one : (limits : Limits) (e : Entry) (older : List Entry) → is_end e ≡ false → IsPlain e →
    is_full limits older e ≡ false → IsOne limits e older
plain_one limits e older n plain f =
    let same = alive_plain e older plain in counted_one limits e older n (omega (arith, same)) f

join_one : (limits : Limits) (role : _) (older : List Entry) → is_full limits older (entries.Join role) ≡ false →
    IsOne limits (entries.Join role) older
join_one limits role older f =
    let more = alive_join role older in counted_one limits (entries.Join role) older refl (omega (arith, more)) f

gone_one : (limits : Limits) (q : ℕ) (older : List Entry) → IsAlive older q → number_counted older ≤ limits.entries →
    weight older ≤ limits.weight → IsOne limits (entries.End q Gone) older
gone_one limits q older a counted light =
    let same = counted_cons (entries.End q Gone) older in
    let weighs = weight_cons (entries.End q Gone) older in
    let less = end_fewer q Gone older a.peer a.joined a.alive in
    record {
      counted = omega (arith, same, counted);
      light = omega (arith, weighs, light);
      few = omega (arith, same, less);
    }

one_step : (limits : Limits) (step : Step) (older : List Entry) → IsLegal limits older step →
    number_counted older ≤ limits.entries → weight older ≤ limits.weight → IsOne limits (entry_of step) older
one_step limits (steps.Join role) older h counted light = join_one limits role older h.fits
one_step limits (steps.Peer q (peers.Message id opcode body)) older h counted light =
    plain_one limits (entries.Message q id opcode body) older refl tt h.fits
one_step limits (steps.Peer q (peers.BadSize head)) older h counted light =
    plain_one limits (entries.BadSize q head) older refl tt h.fits
one_step limits (steps.Peer q (peers.Tokens tokens)) older h counted light =
    plain_one limits (entries.Tokens q tokens) older refl tt h.fits
one_step limits (steps.Peer q peers.Gone) older h counted light =
    gone_one limits q older (before.is_alive older q h.can.0.live) counted light
one_step limits (steps.Shell step) older h counted light = plain_one limits (entries.Shell step) older refl tt h.fits
one_step limits (steps.Take q n) older h counted light = plain_one limits (entries.Took q n) older refl tt h.fits

-- ---- all steps

pub record AreWithin (limits : Limits) (steps : List Step) : Type 0 where
  pub counted : number_counted (journal_of limits steps) ≤ limits.entries
  pub light : weight (journal_of limits steps) ≤ limits.weight
  pub few : length steps + number_alive (journal_of limits steps) ≤ 2 * number_counted (journal_of limits steps)

pub are_within : (limits : Limits) (steps : List Step) → AreLegal limits steps → AreWithin limits steps
are_within limits [] h = record { counted = omega arith; light = omega arith; few = omega arith }
are_within limits (step ∷ older) h =
    let journal : List Entry = entry_of step ∷ journal_of limits older in
    let before = are_within limits older h.1 in
    let counted = before.counted in
    let light = before.light in
    let few = before.few in
    let one = one_step limits step (journal_of limits older) h.0 counted light in
    let counted_now = one.counted in
    let light_now = one.light in
    let few_now = one.few in
    let same = same_settled limits.store journal in
    let counted_same = same.counted in
    let weighs_same = same.weighs in
    let alive = alive_settle limits.store journal in
    record {
      counted = omega (arith, counted_same, counted_now);
      light = omega (arith, weighs_same, light_now);
      few = omega (arith, counted_same, alive, few, few_now);
    }
