use Rattle.std.proofs.Common.{◌≡◌, ◌==◌, not, rules, arith, ap, sym, ◌∙◌, length}
use Rattle.std.specs.List.{filter}
use Rattle.std.specs.Vec.{vec_len}
use Rattle.std.specs.FinMap as map
use Rattle.std.proofs.lemmas.Fn.{filter_same}
use Rattle.kbd_grab.specs.DownList.{keys_of}
use Rattle.kbd_grab.proofs.DownLists.{keys_of-filter, each_once-filter}
use Rattle.kbd_grab.proofs.down.release.Goals as goal

others : (c : goal.After-retain) →
    c.retain.new.self.items ≡ filter (λ d. not (d.key == c.args.key)) c.args.down.now.items
others c = filter_same _ _ _ (λ x b f' k. search rules) _ _ c.retain.ensures.filtered

pub returns-clause-keys : goal.returns-clause-keys
returns-clause-keys c = ap keys_of (others c) ∙ keys_of-filter c.args.down.now.items c.args.key

pub returns-clause-tidy : goal.returns-clause-tidy
returns-clause-tidy c =
    let before : vec_len c.args.down.now ≡ length c.args.down.now.items = search rules in
    let after : vec_len c.retain.new.self ≡ length c.retain.new.self.items = search rules in
    record {
      each_once = ap (λ items. map.len (keys_of items)) (others c)
          ∙ each_once-filter c.args.down.now.items (λ d. not (d.key == c.args.key)) c.requires.each_once
          ∙ sym (ap length (others c));
      few = omega arith;
      room = omega arith;
    }
