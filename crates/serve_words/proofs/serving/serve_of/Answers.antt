use Rattle.std.proofs.Common.{rules, ◌≡◌, ◌&&◌, ◌-◌, false, ap, sym, ◌∙◌, refl, length, map, drop, take, take_all, length-drop, codes, string_bytes, arith}
use Rattle.std.specs.Str.{bytes_eq}
use Rattle.serve_words.specs.Shape.{has_shape}
use Rattle.serve_words.proofs.ShapeRefusals.{refused, either_false}
use Rattle.serve_words.proofs.serving.serve_of.Goals.{then-ne-via-then-ne, then-ne-via-else-ne+then-not-has_shape}
use Rattle.serve_words.proofs.serving.serve_of.Goals as goal

pub returns-then-ne-clause-told : goal.returns-then-ne-clause-told
returns-then-ne-clause-told c = elim c.then-ne.branch [
  | then-ne-via-then-ne w ↦
      let differs : bytes_eq (string_bytes c.first-item.result) (codes "serve") ≡ false = search rules in
      refused string_bytes c.args.words.now
      (drop 1 c.args.words.now) c.first-item.result c.in-len1-up.len_at_least c.first-item.is refl
      (ap (λ b. b && has_shape (map string_bytes (drop 1 c.args.words.now))) differs)
  | then-ne-via-else-ne+then-not-has_shape w ↦
      let rest = take (length c.args.words.now - 1) (drop 1 c.args.words.now) in
      let long = length-drop 1 c.args.words.now in
      let bad : has_shape (map string_bytes rest) ≡ false = sym w.has_shape.ensures ∙ w.if-not-has_shape.true in
      refused string_bytes c.args.words.now rest c.first-item.result c.in-len1-up.len_at_least c.first-item.is
      (take_all (length c.args.words.now - 1) (drop 1 c.args.words.now) (omega arith))
      (either_false (bytes_eq (string_bytes c.first-item.result) (codes "serve"))
      (has_shape (map string_bytes rest)) bad)
]
