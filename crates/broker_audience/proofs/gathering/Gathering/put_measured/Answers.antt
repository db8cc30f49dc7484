use Rattle.std.proofs.Common.{arith, ◌≡◌, ◌+◌, ◌++◌, take, drop, map, length, sym, ap, ◌∙◌}
use Rattle.std.proofs.lemmas.Grind.{common_steps}
use Rattle.wl_proto.specs.Rows.{event_message}
use Rattle.wl_proto.specs.Spelling.{message_bytes}
use Rattle.broker_model.specs.Groups.{Piece, token_of_pair, later, tokens_in}
use Rattle.broker_audience.proofs.GatheredTokens.{spaced_put}
use Rattle.broker_audience.proofs.gathering.Gathering.put_measured.Goals as goal

pub invariant_of-self-2 : goal.invariant_of-self-2
invariant_of-self-2 c =
    let before : Piece =
    record {
      bytes = take c.self.inside.len c.self.inside.bytes.items;
      tokens = map token_of_pair c.self.inside.tokens.items;
    } in
    let after : Piece =
    record {
      bytes =
          take (c.self.inside.len + c.args.len)
          (take c.self.inside.bytes.len
          (c.write_behind.new.bytes ++ drop (length c.write_behind.new.bytes) c.self.inside.bytes.items));
      tokens = map token_of_pair c.add_token.new.tokens.items;
    } in
    let long : length before.bytes ≡ c.self.inside.len = grind (arith, common_steps) in
    let bytes : after.bytes ≡ before.bytes ++ message_bytes c.args.id (event_message c.args.event.now) =
    grind (arith, common_steps) in
    let tokens : after.tokens
    ≡ before.tokens ++ map (later c.self.inside.len) (tokens_in (event_message c.args.event.now).values) =
    c.add_token.ensures.added ∙ ap (λ l. before.tokens ++ map (later c.self.inside.len) l) (sym c.requires.token) in (
      omega arith,
      grind arith,
      omega arith,
      spaced_put c.self.inside.len c.args.id c.args.event.now before after long c.self.invariant.3 bytes tokens,
    )
