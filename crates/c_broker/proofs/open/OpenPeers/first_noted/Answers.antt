use Rattle.std.proofs.Common.{rules, arith, ◌≡◌, ℕ, ◌<◌, List, length, drop, false, sym, subst}
use Rattle.c_broker.specs.Open.{Rise, has}
use Rattle.c_broker.specs.Seated.{stored_for}
use Rattle.c_broker.proofs.OpenReady.{none_before, rise_next, none_next, ready_here, counted_for}
use Rattle.c_broker.proofs.open.OpenPeers.first_noted.Goals as goal

pub numbers-init : goal.numbers-init
numbers-init c =
    let place = c.first_above-place.result in
    let seen = c.args.self.now.seen in
    let items = c.args.self.now.numbers.items in
    let same : c.deref.result.now ≡ c.args.self.now.numbers.items = c.deref.ensures.value in
    let rise : Rise 0 c.deref.result.now c.args.self.now.seen =
    subst (λ (l : List ℕ). Rise 0 l c.args.self.now.seen) (sym same) c.requires.noted.rise in
    record {
      rise = subst (λ (l : List ℕ). Rise c.args.after (drop place l) seen) same
          (c.first_above-place.ensures.rise 0 seen rise);
      none = none_before c.args.shared.now items seen c.args.after place c.requires.noted
          (λ q above none. subst (λ (l : List ℕ). has q l ≡ false) same
          (c.first_above-place.ensures.passed 0 seen q rise above
          (subst (λ (l : List ℕ). has q (drop place l) ≡ false) (sym same) none)));
    }

pub returns-then-unwrap_or-gt0 : goal.returns-then-unwrap_or-gt0
returns-then-unwrap_or-gt0 c =
    let count : c.unwrap_or.result ≡ stored_for c.args.shared.now c.index-number.result.now =
    counted_for c.args.shared.now c.index-number.result.now _ _ c.stored.ensures c.unwrap_or.ensures in
    ready_here c.args.shared.now c.args.self.now.numbers.items c.numbers.place c.args.after c.args.self.now.seen
    c.index-number.result.now (search rules) (search rules) (omega (arith, c.if-unwrap_or-gt0.true))
    c.numbers.invariant.rise c.numbers.invariant.none

pub numbers-preserved : goal.numbers-preserved
numbers-preserved c =
    let count : c.unwrap_or.result ≡ stored_for c.args.shared.now c.index-number.result.now =
    counted_for c.args.shared.now c.index-number.result.now _ _ c.stored.ensures c.unwrap_or.ensures in
    let within : c.numbers.place < length c.args.self.now.numbers.items = search rules in
    record {
      rise = rise_next c.args.self.now.numbers.items c.numbers.place c.args.after c.args.self.now.seen within
          c.numbers.invariant.rise;
      none = none_next c.args.shared.now c.args.self.now.numbers.items c.numbers.place c.args.after
          c.args.self.now.seen c.index-number.result.now within (search rules)
          (omega (arith, c.if-unwrap_or-gt0.false)) c.numbers.invariant.none;
    }
