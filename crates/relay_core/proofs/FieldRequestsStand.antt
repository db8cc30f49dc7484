-- The requests of a field, other than its commit.
use Rattle.std.proofs.Common.{◌≡◌, ℕ, ℤ, pos, negsuc, List, length, true, ap, refl, ◌∙◌, arith}
use Rattle.std.specs.Prelude.{◌==◌, ◌&&◌, ◌||◌, not, nat_le, nat_lt, slice_index}
use Rattle.std.proofs.lemmas.Bool.{eq-eqb}
use Rattle.std.proofs.lemmas.Bool.Decides.{nat_tests}
use Rattle.popup_place.specs.declared.geometry.Rect.{Rect}
use Rattle.relay_model.specs.declared.act.Act.{Act}
use Rattle.relay_model.specs.declared.act.Act.TheVariants as acts
use Rattle.relay_model.specs.Idle as model
use Rattle.field_state.specs.Calls as field
use Rattle.relay_core.proofs.ActsLeaveScreen.{enable_calm, disable_calm, surround_calm, cause_calm, content_calm, cursor_calm}
use Rattle.relay_core.proofs.KeptFields.{IsRequest}
use Rattle.relay_core.proofs.SteadyActsStand.{IsPlain}

-- a field's own test of a place is that of the definitions
byte_same : (b : ℕ) → not (nat_le 128 b && nat_lt b 192) ≡ (nat_lt b 128 || nat_le 192 b)
byte_same b = grind (arith, nat_tests)

place_same : (text : List ℕ) (at : ℤ) → field.is_place text at ≡ model.is_place text at
place_same text (pos n) = ap (λ c. (n == length text) || (nat_lt n (length text) && c)) (byte_same (slice_index text n))
place_same text (negsuc n) = refl

size_same : (n : ℤ) → field.is_length n ≡ model.is_not_negative n
size_same (pos n) = refl
size_same (negsuc n) = refl

pub enable_asks : (f : ℕ) → IsRequest (acts.Enable f) f
enable_asks f = record {
  steady = record { keeps = λ x o. refl; last = λ log. refl; since = λ log. refl };
  words = λ x rest d. rw d refl;
  sets = λ x rest d. rw d refl;
  counts = λ log x. refl;
  holds = λ log. refl;
  begins = λ log. refl;
  commits = λ x. refl;
  asks = λ w h n p c. rw (eq-eqb f f refl) refl;
}

pub disable_asks : (f : ℕ) → IsRequest (acts.Disable f) f
disable_asks f = record {
  steady = record { keeps = λ x o. refl; last = λ log. refl; since = λ log. refl };
  words = λ x rest d. rw d refl;
  sets = λ x rest d. refl;
  counts = λ log x. refl;
  holds = λ log. refl;
  begins = λ log. refl;
  commits = λ x. refl;
  asks = λ w h n p c. rw (eq-eqb f f refl) refl;
}

pub surround_asks : (f : ℕ) (text : List ℕ) (cursor anchor : ℤ) → model.is_place text cursor ≡ true →
    model.is_place text anchor ≡ true →
    IsRequest (acts.Surround f text cursor anchor) f
surround_asks f text cursor anchor a b = record {
  steady = record { keeps = λ x o. refl; last = λ log. refl; since = λ log. refl };
  words = λ x rest d. refl;
  sets = λ x rest d. rw d refl;
  counts = λ log x. refl;
  holds = λ log. refl;
  begins = λ log. refl;
  commits = λ x. refl;
  asks = λ w h n p c. rw (eq-eqb f f refl, place_same text cursor ∙ a, place_same text anchor ∙ b) refl;
}

pub cause_asks : (f cause : ℕ) → IsRequest (acts.Cause f cause) f
cause_asks f cause = record {
  steady = record { keeps = λ x o. refl; last = λ log. refl; since = λ log. refl };
  words = λ x rest d. refl;
  sets = λ x rest d. rw d refl;
  counts = λ log x. refl;
  holds = λ log. refl;
  begins = λ log. refl;
  commits = λ x. refl;
  asks = λ w h n p c. rw (eq-eqb f f refl) refl;
}

pub content_asks : (f hint purpose : ℕ) → IsRequest (acts.Content f hint purpose) f
content_asks f hint purpose = record {
  steady = record { keeps = λ x o. refl; last = λ log. refl; since = λ log. refl };
  words = λ x rest d. refl;
  sets = λ x rest d. rw d refl;
  counts = λ log x. refl;
  holds = λ log. refl;
  begins = λ log. refl;
  commits = λ x. refl;
  asks = λ w h n p c. rw (eq-eqb f f refl) refl;
}

pub cursor_asks : (f : ℕ) (rect : Rect) → model.is_sized rect ≡ true → IsRequest (acts.Cursor f rect) f
cursor_asks f rect a = record {
  steady = record { keeps = λ x o. refl; last = λ log. refl; since = λ log. refl };
  words = λ x rest d. refl;
  sets = λ x rest d. rw d refl;
  counts = λ log x. refl;
  holds = λ log. refl;
  begins = λ log. refl;
  commits = λ x. refl;
  asks = λ w h n p c. rw (eq-eqb f f refl, size_same rect.width, size_same rect.height, a) refl;
}

-- none of them makes an object or says anything of the method

pub plain_enable : (f : ℕ) (log : List Act) → IsPlain (acts.Enable f) log
plain_enable f log =
    record {
      makes = refl;
      serves = refl;
      serving_new = refl;
      updating = refl;
      edits = λ m rest. refl;
      calm = enable_calm f;
    }

pub plain_disable : (f : ℕ) (log : List Act) → IsPlain (acts.Disable f) log
plain_disable f log =
    record {
      makes = refl;
      serves = refl;
      serving_new = refl;
      updating = refl;
      edits = λ m rest. refl;
      calm = disable_calm f;
    }

pub plain_surround : (f : ℕ) (text : List ℕ) (cursor anchor : ℤ) (log : List Act) →
    IsPlain (acts.Surround f text cursor anchor) log
plain_surround f text cursor anchor log =
    record {
      makes = refl;
      serves = refl;
      serving_new = refl;
      updating = refl;
      edits = λ m rest. refl;
      calm = surround_calm f text cursor anchor;
    }

pub plain_cause : (f cause : ℕ) (log : List Act) → IsPlain (acts.Cause f cause) log
plain_cause f cause log =
    record {
      makes = refl;
      serves = refl;
      serving_new = refl;
      updating = refl;
      edits = λ m rest. refl;
      calm = cause_calm f cause;
    }

pub plain_content : (f hint purpose : ℕ) (log : List Act) → IsPlain (acts.Content f hint purpose) log
plain_content f hint purpose log =
    record {
      makes = refl;
      serves = refl;
      serving_new = refl;
      updating = refl;
      edits = λ m rest. refl;
      calm = content_calm f hint purpose;
    }

pub plain_cursor : (f : ℕ) (rect : Rect) (log : List Act) → IsPlain (acts.Cursor f rect) log
plain_cursor f rect log =
    record {
      makes = refl;
      serves = refl;
      serving_new = refl;
      updating = refl;
      edits = λ m rest. refl;
      calm = cursor_calm f rect;
    }
