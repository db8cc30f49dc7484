use Rattle.std.proofs.Common.{◌≡◌, ◌+◌, ◌*◌, ◌++◌, arith, rules, length, refl, length-append, length-take}
use Rattle.std.proofs.lemmas.Result.{err_from_is_err_and}
use Rattle.desc_frame.specs.Frames.{header, spelled_tokens}
use Rattle.desc_frame.proofs.FrameParts.{Gave-trans}
use Rattle.desc_frame.proofs.PartsAsOne.{Stops-rest, IsFrameOf-front, length-spelled_tokens}
use Rattle.desc_frame.proofs.parts.read_frame.Goals as goal

pub returns-in_err-read_tokens-clause-ended : goal.returns-in_err-read_tokens-clause-ended
returns-in_err-read_tokens-clause-ended g c =
    let p = err_from_is_err_and c.from_residual-in_err-read_tokens.result c.from_residual-in_err-read_tokens.ensures.1
    in
    let a = c.in_err-read_tokens.ensures.ended in
    let n = c.in_ok-n.n in
    let t = c.in_ok-n.t in
    rw (p.1, p.2) (
      header n t ++ a.0,
      Gave-trans _ _ _ _ _ _ (header n t) a.0 c.in_ok-n.ensures.whole a.2,
      Stops-rest _ n t 4 a.0 a.0 _ c.in_ok-n.ensures.sizes
          (omega (arith, a.1, length-take t c.args.tokens.now)) refl a.3,
    )

pub returns-in_err-fill-clause-ended : goal.returns-in_err-fill-clause-ended
returns-in_err-fill-clause-ended g c =
    let p = err_from_is_err_and c.from_residual-in_err-fill.result c.from_residual-in_err-fill.ensures.1 in
    let a = c.in_err-fill.ensures.ended in
    let n = c.in_ok-n.n in
    let t = c.in_ok-n.t in
    let k = c.read_tokens.new.tokens in
    let room : length c.args.tokens.now ≡ 256 = search rules in
    let limits = c.in_ok-n.ensures.sizes.tokens in
    let lk = c.read_tokens.auto.tokens in
    let sum = length-append (spelled_tokens k) a.0 in
    rw (p.1, p.2) (
      header n t ++ (spelled_tokens k ++ a.0),
      Gave-trans _ _ _ _ _ _ (header n t) (spelled_tokens k ++ a.0) c.in_ok-n.ensures.whole
          (Gave-trans _ _ _ _ _ _ (spelled_tokens k) a.0 c.in_ok-read_tokens.ensures.whole a.2),
      Stops-rest _ n t (4 + 4 * t) (spelled_tokens k ++ a.0) a.0 _ c.in_ok-n.ensures.sizes
          (omega (
            arith,
            a.1,
            sum,
            lk,
            length-spelled_tokens k,
            length-take t c.args.tokens.now,
            length-take n c.args.bytes.now,
          ))
          (omega (arith, sum, lk, length-spelled_tokens k, length-take t c.args.tokens.now)) a.3,
    )

pub returns-clause-whole : goal.returns-clause-whole
returns-clause-whole g c =
    let n = c.in_ok-n.n in
    let t = c.in_ok-n.t in
    let b = c.fill.new.part in
    let k = c.read_tokens.new.tokens in
    let lb = c.fill.auto.part in
    let lk = c.read_tokens.auto.tokens in
    let room : length c.args.tokens.now ≡ 256 = search rules in
    let space : length c.args.bytes.now ≡ 4096 = search rules in
    let limits = c.in_ok-n.ensures.sizes in (
      header n t ++ (spelled_tokens k ++ b),
      Gave-trans _ _ _ _ _ _ (header n t) (spelled_tokens k ++ b) c.in_ok-n.ensures.whole
          (Gave-trans _ _ _ _ _ _ (spelled_tokens k) b c.in_ok-read_tokens.ensures.whole c.in_ok-fill.ensures.whole),
      IsFrameOf-front n t b k _ _ (omega (arith, lb, length-take n c.args.bytes.now))
          (omega (arith, lk, length-take t c.args.tokens.now)) c.in_ok-n.ensures.sizes c.in_ok-fill.ensures.bytes
          c.in_ok-read_tokens.ensures.tokens,
    )
