use Rattle.std.proofs.Common.{◌≡◌, ◌+◌, ◌<◌, ◌++◌, length-append, ◌∷◌, [], length, rules, arith, ap, sym, ◌∙◌, is_ok}
use Rattle.std.specs.Vec.{vec_len, vec_capacity}
use Rattle.std.specs.FinMap as map
use Rattle.std.proofs.lemmas.Bool.{lt-ltb, cond-true}
use Rattle.kbd_grab.specs.DownList.{keys_of}
use Rattle.kbd_grab.proofs.DownLists.{keys_of-push, each_once-push}
use Rattle.kbd_grab.proofs.down.press.Goals as goal

-- the push has room, so it pushes
pushed : (c : goal.After-to_standing) →
    c.push.new.self.items ≡ c.args.down.now.items ++ record { key = c.args.key; went = c.args.opens } ∷ []
pushed c =
    let room : vec_len c.args.down.now < vec_capacity c.args.down.now = omega arith in
    c.push.ensures.items ∙ cond-true (is_ok c.push.result) _ _ (c.push.ensures.succeeds room)

few : (c : goal.After-to_standing) → map.len (keys_of c.args.down.now.items) < 64
few c =
    let all : vec_len c.args.down.now ≡ length c.args.down.now.items = search rules in
    omega arith

pub returns-then-len-lt-KEYS_DOWN-clause-keys : goal.returns-then-len-lt-KEYS_DOWN-clause-keys
returns-then-len-lt-KEYS_DOWN-clause-keys c =
    ap keys_of (pushed c)
    ∙ keys_of-push c.args.down.now.items (record { key = c.args.key; went = c.args.opens }) c.requires.up
    ∙ sym (cond-true _ _ _ (lt-ltb _ 64 (few c)))

pub returns-then-len-lt-KEYS_DOWN-clause-tidy : goal.returns-then-len-lt-KEYS_DOWN-clause-tidy
returns-then-len-lt-KEYS_DOWN-clause-tidy c =
    let one_more : length c.push.new.self.items ≡ length c.args.down.now.items + 1 =
    ap length (pushed c) ∙ simp length-append (omega arith) in
    record {
      each_once = ap (λ items. map.len (keys_of items)) (pushed c)
          ∙ each_once-push c.args.down.now.items
          (record { key = c.args.key; went = c.args.opens }) c.requires.up c.requires.tidy.each_once
          ∙ sym one_more;
      few = omega (arith, few c);
      room = omega arith;
    }
