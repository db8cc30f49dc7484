-- The text of a recorded session grows entry by entry, and a sink with it
use Rattle.std.proofs.Common.{◌≡◌, ◌≢◌, ◌<◌, ◌≤◌, ◌++◌, [], ℕ, List, length, drop, take, Option, Some, None, Result, Ok, Err, OnOk, OnErr, sym, ap, ◌∙◌, subst, append-nil, take-append-drop, arith, refl}
use Rattle.std.proofs.lemmas.List.{append_assoc}
use Rattle.std.specs.Io.KnownBytes.{Appends}
use Rattle.wio_core.specs.Io.{Rose}
use Rattle.serve_record.specs.Lines.{Holds, GainsFront, Gains}

-- bytes behind bytes
pub appends_more : (a b c : Option (List ℕ)) (xs ys : List ℕ) → Appends a b xs → Appends b c ys → Appends a c (xs ++ ys)
appends_more None b c xs ys one two = tt
appends_more (Some x) None c xs ys one two = absurd one
appends_more (Some x) (Some y) None xs ys one two = absurd two
appends_more (Some x) (Some y) (Some z) xs ys one two = two ∙ (ap (λ u. u ++ ys) one ∙ append_assoc x xs ys)

pub appends_none : (a : Option (List ℕ)) → Appends a a []
appends_none None = tt
appends_none (Some x) = sym (append-nil x)

-- what waits is written, and more waits
pub holds_more : (a b c : Option (List ℕ)) (waiting left more text : List ℕ) → Holds a b waiting text
    → Holds b c left (waiting ++ more) → Holds a c left (text ++ more)
holds_more a b c waiting left more text first then = (
  first.0 ++ then.0,
  appends_more a b c first.0 then.0 first.1 then.1,
  append_assoc first.0 then.0 left ∙ (ap (λ u. first.0 ++ u) then.2
      ∙ (sym (append_assoc first.0 waiting more) ∙ ap (λ u. u ++ more) first.2)),
)

pub holds_then_front : (a b c : Option (List ℕ)) (waiting more text : List ℕ) → Holds a b waiting text
    → GainsFront b c (waiting ++ more) → GainsFront a c (text ++ more)
holds_then_front a b c waiting more text first then = (
  first.0 ++ then.0,
  then.1,
  appends_more a b c first.0 then.0 first.1 then.2,
  append_assoc first.0 then.0 then.1 ∙ (ap (λ u. first.0 ++ u) then.3
      ∙ (sym (append_assoc first.0 waiting more) ∙ ap (λ u. u ++ more) first.2)),
)

pub holds_then_whole : (a b c : Option (List ℕ)) (waiting more text : List ℕ) → Holds a b waiting text
    → Appends b c (waiting ++ more) → Appends a c (text ++ more)
holds_then_whole a b c waiting more text first then =
    subst (Appends a c) (sym (append_assoc first.0 waiting more) ∙ ap (λ u. u ++ more) first.2)
    (appends_more a b c first.0 (waiting ++ more) first.1 then)

-- a front of the front is one of the whole
pub front_of : (a b : Option (List ℕ)) (text more whole : List ℕ) → GainsFront a b text → text ++ more ≡ whole
    → GainsFront a b whole
front_of a b text more whole front is = (
  front.0,
  front.1 ++ more,
  front.2,
  sym (append_assoc front.0 front.1 more) ∙ (ap (λ u. u ++ more) front.3 ∙ is),
)

-- of bytes that a fault cut, some went out
pub cut_is_front : (a b : Option (List ℕ)) (piece : List ℕ)
    → (n : ℕ) × (n < length piece) × Appends a b (take n piece) → GainsFront a b piece
cut_is_front a b piece cut = (take cut.0 piece, drop cut.0 piece, cut.2, take-append-drop cut.0 piece)

-- what holds, holds of an error
pub on_err : {T E : Type 0} (r : Result T E) (P : Type 0) → P → OnErr r P
on_err (Ok x) P p = tt
on_err (Err e) P p = p

-- what waits goes out behind what went out before
pub holds_through : (a b c : Option (List ℕ)) (waiting left text : List ℕ) → Holds a b waiting text →
    Holds b c left waiting
    → Holds a c left text
holds_through a b c waiting left text first then =
    subst (Holds a c left) (append-nil text)
    (holds_more a b c waiting left [] text first (subst (Holds b c left) (sym (append-nil waiting)) then))

pub front_through : (a b c : Option (List ℕ)) (waiting text : List ℕ) → Holds a b waiting text → GainsFront b c waiting
    → GainsFront a c text
front_through a b c waiting text first then =
    subst (GainsFront a c) (append-nil text)
    (holds_then_front a b c waiting [] text first (subst (GainsFront b c) (sym (append-nil waiting)) then))

-- what never is, is not of an answer
pub never_ok : {T E : Type 0} (r : Result T E) (P : Type 0) → OnOk r ⊥ → OnOk r P
never_ok (Ok x) P never = absurd never
never_ok (Err e) P never = tt

-- what a call makes of a sink
module _ {S T E : Type 0} (held : S → Option (List ℕ)) (faults : S → ℕ) (fault : E) where
  -- nothing, where all waits
  pub gains_none : (s : S) (waiting text : List ℕ) (x : T) → waiting ≡ text
      → Gains held faults s s waiting text fault (Ok x)
  gains_none s waiting text x is = record {
    whole = ([], appends_none (held s), is);
    front = tt;
    never_falls = omega arith;
    cause = λ e. absurd (cc);
    no_fault = λ not. refl;
  }

  -- nothing, where it failed and no fault was counted
  pub gains_lack : (s : S) (waiting text : List ℕ) (r : Result T E) → OnOk r ⊥ → (r ≡ Err fault → ⊥)
      → Gains held faults s s waiting text fault r
  gains_lack s waiting text r never not = record {
    whole = never_ok r _ never;
    front = on_err r _ ([], text, appends_none (held s), refl);
    never_falls = omega arith;
    cause = λ e. absurd (not e);
    no_fault = λ other. refl;
  }

  -- a front, where it failed
  pub gains_cut : (old new : S) (waiting text : List ℕ) (r : Result T E) → OnOk r ⊥
      → GainsFront (held old) (held new) text → faults old ≤ faults new
      → (r ≡ Err fault → Rose (faults old) (faults new)) → (r ≢ Err fault → faults new ≡ faults old)
      → Gains held faults old new waiting text fault r
  gains_cut old new waiting text r never front falls cause none_failed = record {
    whole = never_ok r _ never;
    front = on_err r _ front;
    never_falls = falls;
    cause = cause;
    no_fault = none_failed;
  }

  -- all that waited, or a front of it
  pub gains_out : (old new : S) (waited waiting text : List ℕ) (r : Result T E) → waited ≡ text
      → OnOk r (Appends (held old) (held new) waited) → OnOk r (waiting ≡ [])
      → OnErr r (GainsFront (held old) (held new) waited) → faults old ≤ faults new
      → (r ≡ Err fault → Rose (faults old) (faults new)) → (r ≢ Err fault → faults new ≡ faults old)
      → Gains held faults old new waiting text fault r
  gains_out old new waited waiting text (Ok x) is out none front falls cause none_failed = record {
    whole = (waited, out, ap (λ w. waited ++ w) none ∙ (append-nil waited ∙ is));
    front = tt;
    never_falls = falls;
    cause = cause;
    no_fault = none_failed;
  }
  gains_out old new waited waiting text (Err e) is out none front falls cause none_failed = record {
    whole = tt;
    front = subst (GainsFront (held old) (held new)) is front;
    never_falls = falls;
    cause = cause;
    no_fault = none_failed;
  }

-- what follows from what an answer tells, it tells too

pub ok_by : {T E : Type 0} (r : Result T E) (P Q : Type 0) → (P → Q) → OnOk r P → OnOk r Q
ok_by (Ok x) P Q f p = f p
ok_by (Err e) P Q f p = tt

pub err_by : {T E : Type 0} (r : Result T E) (P Q : Type 0) → (P → Q) → OnErr r P → OnErr r Q
err_by (Ok x) P Q f p = tt
err_by (Err e) P Q f p = f p
