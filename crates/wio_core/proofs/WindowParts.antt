-- A part of a buffer that loses its first bytes, or gains those that a read put behind it.
use Rattle.std.proofs.Common.{◌≡◌, ℕ, ◌+◌, ◌-◌, ◌≤◌, List, ◌++◌, length, take, drop, slice_range, sym, ap, ◌∙◌, arith, drop-drop}
use Rattle.std.proofs.lemmas.List.{drop-take, drop-append-le, take-append-le, length-take-le, length-drop}
use Rattle.std.proofs.Math.Seq.{take-append-add}
use Rattle.std.proofs.lemmas.Grind.{common_steps}

-- the part without its first n bytes
pub part_without_front : (buffer : List ℕ) (start end n : ℕ) → start + n ≤ end
    → slice_range buffer (start + n) end ≡ drop n (slice_range buffer start end)
part_without_front buffer start end n le =
    let split : end - start ≡ n + (end - (start + n)) = omega arith in
    sym (ap (λ k. drop n (take k (drop start buffer))) split ∙ drop-take n (end - (start + n)) (drop start buffer)
    ∙ ap (λ l. take (end - (start + n)) l) (drop-drop n start buffer))

-- the part with what follows it
part_with_next : (buffer tail : List ℕ) (start end n : ℕ) → start ≤ end → end ≤ length buffer
    → slice_range (take end buffer ++ tail) start (end + n) ≡ slice_range buffer start end ++ take n tail
part_with_next buffer tail start end n order within =
    let part = take (end - start) (drop start buffer) in
    let long : length (take end buffer) ≡ end = length-take-le end buffer within in
    let fits : start ≤ length (take end buffer) = omega (arith, long) in
    let sum : start + (end - start) ≡ end = omega arith in
    let front : drop start (take end buffer) ≡ part = ap (λ k. drop start (take k buffer)) (sym sum)
    ∙ drop-take start (end - start) buffer in
    let rest : length (drop start buffer) ≡ length buffer - start = length-drop start buffer in
    let len : length part ≡ end - start = length-take-le (end - start) (drop start buffer) (omega (arith, rest)) in
    let count : end + n - start ≡ length part + n = omega (arith, len) in
    ap (λ l. take (end + n - start) l) (drop-append-le start (take end buffer) tail fits ∙ ap (λ l. l ++ tail) front)
    ∙ ap (λ k. take k (part ++ tail)) count ∙ take-append-add part tail n

-- the part with the first n bytes that were put behind it
pub part_with_read : (buffer filled rest : List ℕ) (start end n : ℕ) → start ≤ end → end ≤ length buffer
    → n ≤ length filled
    → slice_range (take end buffer ++ (filled ++ rest)) start (end + n) ≡ slice_range buffer start end ++ take n filled
part_with_read buffer filled rest start end n order within fits =
    part_with_next buffer (filled ++ rest) start end n order within
    ∙ ap (λ l. slice_range buffer start end ++ l) (take-append-le n filled rest fits)

-- the part after a read that put nothing behind it
pub part_as_before : (buffer tail : List ℕ) (start end : ℕ) → start ≤ end → end ≤ length buffer
    → slice_range (take end buffer ++ tail) start end ≡ slice_range buffer start end
part_as_before buffer tail start end order within = grind (
  arith,
  common_steps,
  part_with_next buffer tail start end 0
      order within,
)

-- the length of a part
pub length-part : (buffer : List ℕ) (start end : ℕ) → end ≤ length buffer
    → length (slice_range buffer start end) ≡ end - start
length-part buffer start end within =
    let rest : length (drop start buffer) ≡ length buffer - start = length-drop start buffer in
    length-take-le (end - start) (drop start buffer) (omega (arith, rest))

-- a write into a part leaves the buffer's length
pub length-with_read : (buffer filled : List ℕ) (end to : ℕ) → length filled ≡ to - end → end ≤ to → to ≤ length buffer
    → length (take end buffer ++ (filled ++ drop (to - end) (drop end buffer))) ≡ length buffer
length-with_read buffer filled end to len order within = grind (arith, common_steps)
