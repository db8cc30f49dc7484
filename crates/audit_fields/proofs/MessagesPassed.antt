-- Whole messages say the same whatever follows them.
use Rattle.std.proofs.Common.{◌≡◌, ℕ, ◌+◌, ◌≤◌, cond, List, [], ◌∷◌, ◌++◌, length, take, drop, refl, sym, ap, ap₂, ◌∙◌, subst, append_assoc, add_assoc, arith, length-append, length-drop}
use Rattle.std.specs.Prelude.{◌==◌}
use Rattle.std.specs.List.{count_by}
use Rattle.std.proofs.lemmas.List.{take_at, drop_at, take-append-drop, drop-drop}
use Rattle.std.proofs.lemmas.List.Sums.{sum_by-cons}
use Rattle.wl_wire.specs.Messages.{size_of, id_of, opcode_of, body_of, IsMessage, messages, bad_size}
use Rattle.wl_wire.specs.Fronts.{IsFrontMessage}
use Rattle.wl_wire.proofs.SizeInHeader.{size_stays}
use Rattle.wl_wire.proofs.FirstMessages.{whole_tells}
use Rattle.audit_fields.specs.Heard.{Heard, heard_by, heard_in, heard, is_done, dones}
use Rattle.audit_fields.specs.Passing.{IsPassed, IsPast}

-- ---- one message, and what follows it

pub record IsFirst (m more : List ℕ) : Type 0 where
  pub messages-are : messages (m ++ more) ≡ m ∷ messages more
  pub bad : bad_size (m ++ more) ≡ bad_size more

pub first_of : (m more : List ℕ) → IsMessage m → IsFirst m more
first_of m more is =
    let long : 8 ≤ length m = omega (arith, is.0.0, is.1) in
    let same : size_of (m ++ more) ≡ size_of m = size_stays m more long in
    let tells =
    whole_tells (m ++ more) (size_of m) (sym same) is.0 (omega (arith, is.1, length-append m more)) in
    let behind : drop (size_of m) (m ++ more) ≡ more = drop_at m more (size_of m) is.1 in
    record {
      messages-are =
          tells.0
          ∙ ap₂ (λ (a b : List ℕ). a ∷ messages b) (take_at m more (size_of m) is.1) behind;
      bad = tells.1 ∙ ap bad_size behind;
    }

pub heard_is : (bytes : List ℕ) → heard bytes ≡ heard_in (messages bytes)
unfolding heard
heard_is bytes = refl

pub dones_is : (bytes : List ℕ) → dones bytes ≡ count_by is_done (messages bytes)
unfolding dones
dones_is bytes = refl

-- what one message counts
abbrev pub done_by : ℕ → ℕ
done_by opcode = cond (opcode == 5) 1 0

pub one_passed : (m : List ℕ) → IsMessage m →
    IsPassed m (heard_by (id_of m) (opcode_of m) (body_of m)) (done_by (opcode_of m))
one_passed m is = record {
  says = λ more.
      let hs : List Heard = heard_by (id_of m) (opcode_of m) (body_of m) in
      heard_is (m ++ more) ∙ ap heard_in (first_of m more is).messages-are
      ∙ ap (λ (r : List Heard). hs ++ r) (sym (heard_is more));
  sized = λ more. (first_of m more is).bad;
  counts = λ more.
      dones_is (m ++ more) ∙ ap (count_by is_done) (first_of m more is).messages-are
      ∙ sum_by-cons (λ x. cond (is_done x) 1 0) m (messages more)
      ∙ ap (λ n. done_by (opcode_of m) + n) (sym (dones_is more));
}

-- ---- several

pub none_passed : IsPassed [] [] 0
none_passed = record { says = λ more. refl; sized = λ more. refl; counts = λ more. omega arith }

pub both_passed : (a b : List ℕ) (xs ys : List Heard) (m n : ℕ) → IsPassed a xs m → IsPassed b ys n →
    IsPassed (a ++ b) (xs ++ ys) (m + n)
both_passed a b xs ys m n h k = record {
  says = λ more.
      ap heard (append_assoc a b more) ∙ h.says (b ++ more)
      ∙ ap (λ (r : List Heard). xs ++ r) (k.says more) ∙ sym (append_assoc xs ys (heard more));
  sized = λ more. ap bad_size (append_assoc a b more) ∙ h.sized (b ++ more) ∙ k.sized more;
  counts = λ more.
      ap dones (append_assoc a b more) ∙ h.counts (b ++ more) ∙ ap (λ i. m + i) (k.counts more)
      ∙ sym (add_assoc m n (dones more));
}

-- ---- at a place in the bytes

pub none_past : (bytes : List ℕ) → IsPast bytes 0 [] 0
none_past bytes = record { within = omega arith; front = []; is = refl; passed = none_passed }

pub one_past : (bytes rest body : List ℕ) (at id opcode size n count : ℕ) (hs said : List Heard) →
    IsPast bytes at hs n →
    rest ≡ drop at bytes → IsFrontMessage id opcode body rest size → hs ++ heard_by id opcode body ≡ said →
    n + done_by opcode ≡ count → IsPast bytes (at + size) said count
one_past bytes rest body at id opcode size n count hs said p there f says counts =
    let m : List ℕ = take size rest in
    let behind : drop size rest ≡ drop (at + size) bytes =
    ap (drop size) there ∙ drop-drop size at bytes in
    let own : heard_by (id_of m) (opcode_of m) (body_of m) ≡ heard_by id opcode body =
    rw (f.same_id, f.same_opcode, f.same_body) refl in
    let counted : done_by (opcode_of m) ≡ done_by opcode = ap done_by (sym f.same_opcode) in
    let long : length rest + at ≡ length bytes =
    (let within = p.within in omega (arith, ap (λ (l : List ℕ). length l) there, length-drop at bytes)) in
    let in_rest = f.within in
    let split : bytes ≡ (p.front ++ m) ++ drop (at + size) bytes =
    p.is ∙ ap (λ (r : List ℕ). p.front ++ r) (sym there ∙ sym (take-append-drop size rest))
    ∙ sym (append_assoc p.front m (drop size rest))
    ∙ ap (λ (r : List ℕ). (p.front ++ m) ++ r) behind in
    let passed =
    both_passed p.front m hs (heard_by (id_of m) (opcode_of m) (body_of m)) n (done_by (opcode_of m)) p.passed
    (one_passed m f.whole) in
    record {
      within = omega arith;
      front = p.front ++ m;
      is = split;
      passed =
          subst (λ (i : ℕ). IsPassed (p.front ++ m) said i) (ap (λ i. n + i) counted ∙ counts)
          (subst (λ (l : List Heard). IsPassed (p.front ++ m) l (n + done_by (opcode_of m)))
          (ap (λ (l : List Heard). hs ++ l) own ∙ says) passed);
    }

-- a place behind a place
pub past_both : (bytes rest : List ℕ) (at more m n : ℕ) (xs ys : List Heard) → IsPast bytes at xs m →
    rest ≡ drop at bytes →
    IsPast rest more ys n → IsPast bytes (at + more) (xs ++ ys) (m + n)
past_both bytes rest at more m n xs ys p there q =
    let behind : drop more rest ≡ drop (at + more) bytes =
    ap (drop more) there ∙ drop-drop more at bytes in
    let first = p.within in
    let second = q.within in
    record {
      within = omega (arith, ap (λ (l : List ℕ). length l) there, length-drop at bytes);
      front = p.front ++ q.front;
      is =
          p.is ∙ ap (λ (r : List ℕ). p.front ++ r) (sym there ∙ q.is)
          ∙ sym (append_assoc p.front q.front (drop more rest))
          ∙ ap (λ (r : List ℕ). (p.front ++ q.front) ++ r) behind;
      passed = both_passed p.front q.front xs ys m n p.passed q.passed;
    }

-- what all the bytes say, by what the rest says
pub heard_behind : (bytes : List ℕ) (at n : ℕ) (hs : List Heard) → IsPast bytes at hs n →
    heard bytes ≡ hs ++ heard (drop at bytes)
heard_behind bytes at n hs p = ap heard p.is ∙ p.passed.says (drop at bytes)

pub sized_behind : (bytes : List ℕ) (at n : ℕ) (hs : List Heard) → IsPast bytes at hs n →
    bad_size bytes ≡ bad_size (drop at bytes)
sized_behind bytes at n hs p = ap bad_size p.is ∙ p.passed.sized (drop at bytes)

pub heard_none : (bytes : List ℕ) → messages bytes ≡ [] → heard bytes ≡ []
heard_none bytes none = heard_is bytes ∙ ap heard_in none

pub dones_none : (bytes : List ℕ) → messages bytes ≡ [] → dones bytes ≡ 0
dones_none bytes none = dones_is bytes ∙ ap (count_by is_done) none

-- the first of what the bytes say
pub heard_first : (bytes body : List ℕ) (id opcode size : ℕ) → IsFrontMessage id opcode body bytes size →
    heard bytes ≡ heard_by id opcode body ++ heard (drop size bytes)
heard_first bytes body id opcode size f =
    heard_behind bytes (0 + size) (0 + done_by opcode) (heard_by id opcode body)
    (one_past bytes bytes body 0 id opcode size 0 (0 + done_by opcode) [] (heard_by id opcode body)
    (none_past bytes) refl f
    refl refl)
    ∙ ap (λ i. heard_by id opcode body ++ heard (drop i bytes)) (omega arith)
