-- What a seat is between two calls, and what contracts see of it then
use Rattle.std.proofs.Common.{◌≡◌, ℕ, ◌+◌, [], sym, ap, ◌∙◌, subst, Option, arith}
use Rattle.atomic_table.specs.Table.{Me}
use Rattle.atomic_table.specs.Seated.{TableId}
use Rattle.turn_lock.specs.declared.view.View.{View}
use Rattle.turn_lock.specs.Pairs.{HasSeen, longer}
use Rattle.turn_lock.specs.Sights.{IsMeeting}
use Rattle.turn_lock.specs.Rule.{IsMet, sight_of}
use Rattle.turn_lock.specs.Steps.{view_after_split, view_met_with, Tallied, IsIdle}

module _ {S E C : Type 0} where
  pub idle-split : (m n : Me (Option S) (View E C)) (number made : ℕ) → IsIdle m number made
      → n ≡ (view_after_split m.0, m.1) → IsIdle n number (made + 1)
  idle-split m n number made k e = subst (λ n. IsIdle n number (made + 1)) (sym e) record {
    rest = record { empty = k.rest.empty; free = k.rest.free; live = k.rest.live };
    number_is = k.number_is;
    next_is = ap (λ (n : ℕ). n + 1) k.next_is;
    tallied = λ zero turn. let t = k.tallied zero turn in record {
      fresh = λ n big. t.fresh n (omega arith);
      apart = t.apart;
      once = t.once;
      few = t.few;
      all = λ none_out. absurd (omega arith);
    };
  }

  -- after a step that changed only what was seen, or what a meeting changes
  pub idle-met : (m w n : Me (Option S) (View E C)) (number made : ℕ) → IsIdle m number made
      → n.0 ≡ view_met_with m.0 w.0 → n.1 ≡ [] → Tallied n.0 → IsIdle n number made
  idle-met m w n number made k e empty t = record {
    rest = record {
      empty = empty;
      free = ap (λ v. v.holds) e ∙ k.rest.free;
      live =
          ap (λ v. v.is_live) e ∙ k.rest.live;
    };
    number_is = ap (λ v. v.number) e ∙ k.number_is;
    next_is = ap (λ v. v.next) e ∙ k.next_is;
    tallied = t;
  }

  pub meeting : (m w n : Me (Option S) (View E C)) (turn turn' : TableId) → m.0.number ≡ 0
      → n.0 ≡ view_met_with m.0 w.0 → IsMet n.0.met
      → IsMeeting (sight_of turn m.0) (sight_of turn' w.0) n.0.seen
  meeting m w n turn turn' zero e met =
      let k = subst (λ v. IsMet v.met) e met in
      subst (λ v. IsMeeting (sight_of turn m.0) (sight_of turn' w.0) v.seen) (sym e) record {
        mine = subst (λ k. HasSeen (longer m.0.seen w.0.seen) k m.0.seen) (sym zero) k.mine;
        taken = k.taken;
        theirs = k.theirs;
      }
