-- Sides are told more, one after the other.
use Rattle.std.proofs.Common.{◌≡◌, ℕ, zero, suc, ◌<◌, get_or, Bool, true, false, List, [], ◌∷◌, ◌++◌, length, Some, None, refl, sym, ap, subst, ◌∙◌, append_assoc, append-nil, arith}
use Rattle.std.specs.List.{slice_get}
use Rattle.std.proofs.Math.ListN.{set}
use Rattle.std.specs.Prelude.{IfOk, IfErr}
use Rattle.std.proofs.Common.{Result, Ok, Err}
use Rattle.std.proofs.lemmas.Option.{slice_get-get_or}
use Rattle.audit_fields.specs.declared.comparison.HearEnd.{HearEnd}
use Rattle.audit_fields.specs.Comparing.{Comparing, Follows, IsHeard, IsUnheard}
use Rattle.audit_fields.specs.FromField.{from_field}
use Rattle.audit_fields.proofs.PiecesHeard.{told_more}
use Rattle.audit_fields.specs.Hearing.{IsHeardAt, IsUnheardAt}
use Rattle.audit_fields.specs.declared.side.Side.{Side}
use Rattle.audit_fields.specs.Gathering.{told_side, told_at, is_app_in}

-- a side that was told these bytes, in however many pieces
pub record IsTold (bytes : List ℕ) (before after : Side) : Type 0 where
  pub role : after.is_app ≡ before.is_app
  pub follows : before.is_app ≡ true → (told sent : List ℕ) → Follows told sent before.streams →
      Follows (told ++ bytes) sent after.streams

pub told_none : (side : Side) → IsTold [] side side
told_none side = record {
  role = refl;
  follows = λ app told sent f.
      subst (λ (l : List ℕ). Follows l sent side.streams) (sym (append-nil told)) f;
}

pub told_once : (bytes : List ℕ) (side : Side) → IsTold bytes side (told_side bytes side)
told_once bytes side = by side.is_app side.streams
  where
    by : (is_app : Bool) (c : Comparing) →
        IsTold bytes (record { is_app = is_app; streams = c })
        (told_side bytes (record { is_app = is_app; streams = c }))
    by true c = record { role = refl; follows = λ app told sent f. told_more told sent bytes c _ f refl }
    by false c = record { role = refl; follows = λ app. absurd (let no = app in cc) }

pub told_then : (a b : List ℕ) (x y z : Side) → IsTold a x y → IsTold b y z → IsTold (a ++ b) x z
told_then a b x y z s t = record {
  role = t.role ∙ s.role;
  follows = λ app told sent f.
      subst (λ (l : List ℕ). Follows l sent z.streams) (append_assoc told a b)
      (t.follows (s.role ∙ app) (told ++ a) sent (s.follows app told sent f));
}

pub told_here : (k : ℕ) (bytes : List ℕ) (sides : List Side) (side : Side) → slice_get sides k ≡ Some side →
    slice_get (told_at k bytes sides) k ≡ Some (told_side bytes side)
told_here k bytes [] side e = cc
told_here zero bytes (x ∷ sides) side e = (let same : x ≡ side = cc in ap (λ (s : Side). Some (told_side bytes s)) same)
told_here (suc k) bytes (x ∷ sides) side e = told_here k bytes sides side e

pub told_other : (k j : ℕ) (bytes : List ℕ) (sides : List Side) → (k ≡ j → ⊥) →
    slice_get (told_at k bytes sides) j ≡ slice_get sides j
told_other k j bytes [] d = refl
told_other zero zero bytes (x ∷ sides) d = absurd (d refl)
told_other zero (suc j) bytes (x ∷ sides) d = refl
told_other (suc k) zero bytes (x ∷ sides) d = refl
told_other (suc k) (suc j) bytes (x ∷ sides) d = told_other k j bytes sides (λ e. d (ap suc e))

pub told_length : (k : ℕ) (bytes : List ℕ) (sides : List Side) → length (told_at k bytes sides) ≡ length sides
told_length k bytes [] = refl
told_length zero bytes (x ∷ sides) = refl
told_length (suc k) bytes (x ∷ sides) = ap suc (told_length k bytes sides)

pub told_past : (k : ℕ) (bytes : List ℕ) (sides : List Side) → slice_get sides k ≡ None → told_at k bytes sides ≡ sides
told_past k bytes [] e = refl
told_past zero bytes (x ∷ sides) e = cc
told_past (suc k) bytes (x ∷ sides) e = ap (λ (l : List Side). x ∷ l) (told_past k bytes sides e)

-- where no application is, nobody is told
pub told_nobody : (k : ℕ) (bytes : List ℕ) (sides : List Side) → is_app_in (slice_get sides k) ≡ false →
    sides ≡ told_at k bytes sides
told_nobody k bytes [] e = refl
told_nobody zero bytes (x ∷ sides) e = ap (λ (s : Side). s ∷ sides) (by x.is_app x.streams e)
  where
    by : (is_app : Bool) (c : Comparing) → is_app ≡ false →
        record { is_app = is_app; streams = c } ≡ told_side bytes (record { is_app = is_app; streams = c })
    by true c e = cc
    by false c e = refl
told_nobody (suc k) bytes (x ∷ sides) e = ap (λ (l : List Side). x ∷ l) (told_nobody k bytes sides e)

-- and where one is, it is
pub told_app : (k : ℕ) (bytes : List ℕ) (sides : List Side) (d : Side) (c : Comparing) →
    is_app_in (slice_get sides k) ≡ true →
    c ≡ record (get_or sides k d).streams { told = from_field ((get_or sides k d).streams.told ++ bytes) } →
    set sides k (record { is_app = (get_or sides k d).is_app; streams = c }) ≡ told_at k bytes sides
told_app k bytes [] d c e is = cc
told_app zero bytes (x ∷ sides) d c e is = ap (λ (s : Side). s ∷ sides) (by x.is_app x.streams c e is)
  where
    by : (is_app : Bool) (s c : Comparing) → is_app ≡ true → c ≡ record s { told = from_field (s.told ++ bytes) } →
        record { is_app = is_app; streams = c } ≡ told_side bytes (record { is_app = is_app; streams = s })
    by true s c e is = ap (λ (x : Comparing). record { is_app = true; streams = x }) is
    by false s c e is = cc
told_app (suc k) bytes (x ∷ sides) d c e is = ap (λ (l : List Side). x ∷ l) (told_app k bytes sides d c e is)

pub app_within : (k : ℕ) (sides : List Side) → is_app_in (slice_get sides k) ≡ true → k < length sides
app_within k [] e = cc
app_within zero (x ∷ sides) e = omega arith
app_within (suc k) (x ∷ sides) e = (let more = app_within k sides e in omega (arith, more))

-- one side becomes another
pub set_here : (k : ℕ) (sides : List Side) (side : Side) → k < length sides → slice_get (set sides k side) k ≡ Some side
set_here k [] side l = absurd (omega (arith, l))
set_here zero (x ∷ sides) side l = refl
set_here (suc k) (x ∷ sides) side l = set_here k sides side (omega (arith, l))

pub set_other : (k j : ℕ) (sides : List Side) (side : Side) → (k ≡ j → ⊥) →
    slice_get (set sides k side) j ≡ slice_get sides j
set_other k j [] side d = refl
set_other zero zero (x ∷ sides) side d = absurd (d refl)
set_other zero (suc j) (x ∷ sides) side d = refl
set_other (suc k) zero (x ∷ sides) side d = refl
set_other (suc k) (suc j) (x ∷ sides) side d = set_other k j sides side (λ e. d (ap suc e))

pub set_length : (k : ℕ) (sides : List Side) (side : Side) → length (set sides k side) ≡ length sides
set_length k [] side = refl
set_length zero (x ∷ sides) side = refl
set_length (suc k) (x ∷ sides) side = ap suc (set_length k sides side)

-- one side hears
pub heard_by : (k : ℕ) (bytes : List ℕ) (sides : List Side) (d : Side) (c : Comparing) (r : Result ℕ HearEnd) →
    k < length sides →
    IfOk r (λ n. (told sent : List ℕ) → Follows told sent (get_or sides k d).streams → IsHeard told sent bytes n c) →
    IfOk r (λ n. IsHeardAt k bytes n sides (set sides k (record { is_app = (get_or sides k d).is_app; streams = c })))
heard_by k bytes sides d c (Ok n) l h = record {
  side = get_or sides k d;
  at = slice_get-get_or sides k d l;
  streams = c;
  is = refl;
  heard = h;
}
heard_by k bytes sides d c (Err why) l h = tt

pub unheard_by : (k : ℕ) (bytes : List ℕ) (sides : List Side) (d : Side) (r : Result ℕ HearEnd) → k < length sides →
    IfErr r (λ why. (told sent : List ℕ) → Follows told sent (get_or sides k d).streams →
    IsUnheard told (sent ++ bytes) why) →
    IfErr r (IsUnheardAt k bytes sides)
unheard_by k bytes sides d (Ok n) l h = tt
unheard_by k bytes sides d (Err why) l h =
    record { side = get_or sides k d; at = slice_get-get_or sides k d l; unheard = h }
