use Rattle.std.proofs.Common.{◌≡◌, [], ◌∷◌, ◌++◌, arith, rules, ◌∙◌, ap}
use Rattle.compose_method.specs.Table.{Table, own_texts}
use Rattle.compose_method.specs.Segments.{rest_of}
use Rattle.compose_method.proofs.ReadingFronts.{typed-clean, own_texts-clean, pressed_once}
use Rattle.compose_method.proofs.method.Method.take.Goals as goal

pub invariant_of-self : goal.invariant_of-self
invariant_of-self c =
    let table = c.type_keys.ensures.table in
    let kept = c.self.invariant in
    record {
      few = omega (arith, c.type_keys.ensures.few);
      room = omega (arith, c.type_keys.ensures.keys_room, c.push.ensures.capacity);
      string_room = omega (arith, c.type_keys.ensures.capacity);
      preedit_room = omega (arith, c.show_keys.ensures.capacity);
      string_fits = c.type_keys.ensures.len;
      preedit_fits = c.show_keys.ensures.len;
      string_clean = rw c.type_keys.ensures.text (typed-clean c.self.inside.table c.push.new.self.items 0 table);
      preedit_clean = rw c.show_keys.ensures.text (own_texts-clean c.self.inside.table c.deref.result.now table);
    }

pub returns-clause-after : goal.returns-clause-after
returns-clause-after c presses so_far =
    let t : Table = c.self.inside.table in
    let pushed : c.push.new.self.items ≡ c.self.inside.waiting.items ++ c.args.key ∷ [] = search rules in
    let waits : c.self.inside.waiting.items ≡ rest_of t presses = rw (← c.self.view_is) at so_far.rest in
    let law = pressed_once t presses c.self.inside.waiting.items c.args.key c.type_keys.ensures.table waits in
    record {
      active = rw (← c.self.view_is) at so_far.active;
      rest = c.type_keys.ensures.rest ∙ ap (rest_of t) pushed
          ∙ law.1;
    }

pub returns-clause-typed : goal.returns-clause-typed
returns-clause-typed c presses so_far =
    let t : Table = c.self.inside.table in
    let pushed : c.push.new.self.items ≡ c.self.inside.waiting.items ++ c.args.key ∷ [] = search rules in
    let waits : c.self.inside.waiting.items ≡ rest_of t presses = rw (← c.self.view_is) at so_far.rest in
    let law = pressed_once t presses c.self.inside.waiting.items c.args.key c.type_keys.ensures.table waits in
    rw (← c.self.view_is) record {
      goes_on = rw (c.type_keys.ensures.text, pushed) law.0;
      waits = c.show_keys.ensures.text
          ∙ ap (own_texts t) (c.deref.ensures.value ∙ c.type_keys.ensures.rest ∙ ap (rest_of t) pushed ∙ law.1);
    }

pub returns-then-not-self-clause-press : goal.returns-then-not-self-clause-press
returns-then-not-self-clause-press c = search rules
