-- What was taken part by part, as one answer.
use Rattle.std.proofs.Common.{◌≡◌, ℕ, ◌+◌, ◌*◌, ◌<◌, inr, List, [], ◌∷◌, ◌++◌, length, Option, refl, arith, length-append}
use Rattle.std.proofs.lemmas.List.{take_at, get_or_default}
use Rattle.byteorder.specs.Endian.{little_bytes}
use Rattle.desc_frame.specs.declared.Got.{Got}
use Rattle.desc_frame.specs.declared.Got.TheVariants.{Bytes, End, Torn, BadFrame, ReadFault}
use Rattle.desc_frame.specs.Frames.{WithinLimits, header, spelled_tokens}
use Rattle.desc_frame.specs.Answers.{Stops, IsFrameOf}
use Rattle.desc_frame.specs.Fills.{AreBytes, AreTokens, EndsWithin}

pub length-spelled_tokens : (tokens : List ℕ) → length (spelled_tokens tokens) ≡ 4 * length tokens
length-spelled_tokens [] = refl
length-spelled_tokens (token ∷ rest) =
    omega (arith, length-append (little_bytes 4 token) (spelled_tokens rest), length-spelled_tokens rest)

-- a frame whose header is whole ends within what follows it
pub Stops-rest : (got : Got) (n t before : ℕ) (rest taken : List ℕ) (left : Option (List ℕ)) → WithinLimits n t →
    length rest < 4 * t + n → before + length taken ≡ 4 + length rest
    → EndsWithin got before taken left → Stops got (header n t ++ rest) left
Stops-rest (Bytes k j) n t before rest taken left limits short is within = within
Stops-rest End n t before rest taken left limits short is within = absurd (omega (arith, within.0))
Stops-rest (Torn k) n t before rest taken left limits short is within = (
  within.0,
  omega (arith, within.1, length-append (header n t) rest),
  inr (record { n = n; t = t; rest = rest; is = refl; limits = limits; short = short }),
  within.2,
)
Stops-rest (BadFrame k j) n t before rest taken left limits short is within = absurd within
Stops-rest ReadFault n t before rest taken left limits short is within =
    inr (record { n = n; t = t; rest = rest; is = refl; limits = limits; short = short })

-- the bytes and tokens that stand at the front of the buffers are a frame
pub IsFrameOf-front : (n t : ℕ) (bytes tokens old_bytes old_tokens : List ℕ) → length bytes ≡ n → length tokens ≡ t →
    WithinLimits n t → AreBytes bytes → AreTokens tokens
    → IsFrameOf n t (bytes ++ old_bytes) (tokens ++ old_tokens) (header n t ++ (spelled_tokens tokens ++ bytes))
IsFrameOf-front n t bytes tokens old_bytes old_tokens n_is t_is limits are_bytes are_tokens =
    let front = take_at bytes old_bytes n n_is in
    let front_tokens = take_at tokens old_tokens t t_is in
    record {
      n_bytes = rw front n_is;
      t_tokens = rw front_tokens t_is;
      is = rw (front, front_tokens) (record {
        limits = rw (n_is, t_is) limits;
        bytes = λ k d below. rw (get_or_default bytes k d 0 below) (are_bytes k);
        tokens = λ k d below. rw (get_or_default tokens k d 0 below) (are_tokens k);
      });
      spelled = rw (front, front_tokens, n_is, t_is) refl;
    }
