-- However the bytes are cut, the messages are those of all of them.
use Rattle.std.proofs.Common.{◌≡◌, ℕ, zero, suc, ◌%◌, ◌≤◌, true, false, cond, leb, eqb, ◌&&◌, not, List, [], ◌∷◌, ◌++◌, length, take, drop, Option, Some, None, arith, refl, sym, ap, subst, ◌∙◌, append_assoc}
use Rattle.std.proofs.lemmas.List.{take-append-drop, take_at, drop_at, length-append, append-nil, take-append-le, length-take}
use Rattle.std.proofs.lemmas.Bool.{and_parts, leb-true, le-leb, eqb-true, eq-eqb}
use Rattle.wl_wire.specs.Messages.{size_of, IsGoodSize, IsMessage, IsPartial, IsBad, is_good, is_whole, messages_within, messages, joined, bad_size_at, bad_size, AreMessages, IsLongest}
use Rattle.wl_wire.specs.declared.assembler.Fed.{Fed}
use Rattle.wl_wire.specs.declared.assembler.Fed.TheVariants as fed
use Rattle.wl_wire.specs.Streams.{Assembly, Begun, Whole, Bad, begun, Feeds, Holds, HasFed, FedOn}
use Rattle.wl_wire.proofs.SizeInHeader.{size_stays}

-- ---- the messages of a split stream

pub good_is : (n : ℕ) → IsGoodSize n → is_good n ≡ true
good_is n h = rw (le-leb 8 n h.0, le-leb n 4096 h.1, eq-eqb (n % 4) 0 h.2) refl

is_good-good : (n : ℕ) → is_good n ≡ true → IsGoodSize n
is_good-good n e =
    let (front, four) = and_parts (leb 8 n && leb n 4096) (eqb (n % 4) 0) e in
    let (low, high) = and_parts (leb 8 n) (leb n 4096) front in
    (leb-true 8 n low, leb-true n 4096 high, eqb-true _ _ four)

pub not_good : (n : ℕ) → (IsGoodSize n → ⊥) → is_good n ≡ false
not_good n bad =
    elim (is_good n) as
    (λ b. is_good n ≡ b → b ≡ false) [ true ↦ λ e. absurd (bad (is_good-good n e)) | false ↦ λ e. refl ] refl

record WholeFront (bytes : List ℕ) : Type 0 where
  header : 8 ≤ length bytes
  good : IsGoodSize (size_of bytes)
  there : size_of bytes ≤ length bytes

whole_front : (bytes : List ℕ) → is_whole bytes ≡ true → WholeFront bytes
whole_front bytes e =
    let (front, there) =
    and_parts (leb 8 (length bytes) && is_good (size_of bytes)) (leb (size_of bytes) (length bytes)) e in
    let (header, good) = and_parts (leb 8 (length bytes)) (is_good (size_of bytes)) front in
    record { header = leb-true _ _ header; good = is_good-good _ good; there = leb-true _ _ there }

not_whole : (bytes : List ℕ) → (WholeFront bytes → ⊥) → is_whole bytes ≡ false
not_whole bytes none =
    elim (is_whole bytes) as
    (λ b. is_whole bytes ≡ b → b ≡ false) [ true ↦ λ e. absurd (none (whole_front bytes e)) | false ↦ λ e. refl ] refl

rest_not_whole : (a : Assembly) (rest : List ℕ) → Holds a rest → is_whole rest ≡ false
rest_not_whole (Whole m) rest h = rw h refl
rest_not_whole (Begun bytes) rest h =
    not_whole rest
    (λ w. let g = subst (λ (r : List ℕ). IsPartial r) (sym h.0) h.1 in absurd (omega (arith, (g w.header).1, w.there)))
rest_not_whole (Bad header) rest h = not_whole rest (λ w.
    let same : size_of rest ≡ size_of header = ap size_of h.1 ∙ size_stays header h.0 h.2.0 in
    h.2.1 (subst IsGoodSize same w.good))

-- one message at the front of the bytes
first_message : (n : ℕ) (m tail : List ℕ) → IsMessage m →
    messages_within (suc n) (m ++ tail) ≡ m ∷ messages_within n tail
first_message n m tail is =
    let long : 8 ≤ length m = omega (arith, is.0.0, is.1) in
    let same : size_of (m ++ tail) ≡ size_of m = size_stays m tail long in
    let len = length-append m tail in
    let whole : is_whole (m ++ tail) ≡ true =
    rw (
      same,
      le-leb 8 (length (m ++ tail)) (omega arith),
      good_is (size_of m) is.0,
      le-leb (size_of m) (length (m ++ tail)) (omega (arith, is.1)),
    ) refl in
    rw (whole, same, take_at m tail (size_of m) is.1, drop_at m tail (size_of m) is.1) refl

-- messages at the front are found first, whatever follows
found_first : (n : ℕ) (ms : List (List ℕ)) (rest : List ℕ) → AreMessages ms → length (joined ms ++ rest) ≤ n →
    (k : ℕ) × (length rest ≤ k) × (messages_within n (joined ms ++ rest) ≡ ms ++ messages_within k rest)
found_first n [] rest each le = (n, le, refl)
found_first zero (m ∷ ms) rest each le =
    absurd (omega (arith, length-append m (joined ms), length-append (m ++ joined ms) rest, each.0.0.0, each.0.1))
found_first (suc n) (m ∷ ms) rest each le =
    let is = each.0 in
    let tail = joined ms ++ rest in
    let grouped : (m ++ joined ms) ++ rest ≡ m ++ tail = append_assoc m (joined ms) rest in
    let shorter : length tail ≤ n = omega (arith, le, ap length grouped, length-append m tail, is.0.0, is.1) in
    let later = found_first n ms rest each.1 shorter in (
      later.0,
      later.1,
      ap (messages_within (suc n)) grouped ∙ first_message n m tail is
          ∙ ap (λ (r : List (List ℕ)). m ∷ r) later.2,
    )

-- with no whole message in front there is none
none_within : (n : ℕ) (rest : List ℕ) → is_whole rest ≡ false → messages_within n rest ≡ []
none_within zero rest none = refl
none_within (suc n) rest none = rw none refl

append_none : (ms : List (List ℕ)) → ms ++ [] ≡ ms
append_none [] = refl
append_none (m ∷ ms) = ap (λ (r : List (List ℕ)). m ∷ r) (append_none ms)

messages_of : (ms : List (List ℕ)) (rest : List ℕ) → AreMessages ms → is_whole rest ≡ false →
    messages (joined ms ++ rest) ≡ ms
unfolding messages
messages_of ms rest each none =
    let (k, _, found) = found_first (length (joined ms ++ rest)) ms rest each (omega arith) in
    found ∙ ap (λ (r : List (List ℕ)). ms ++ r) (none_within k rest none) ∙ append_none ms

bad_size_of : (ms : List (List ℕ)) (rest : List ℕ) → AreMessages ms → is_whole rest ≡ false →
    bad_size (joined ms ++ rest) ≡ bad_size_at rest
unfolding bad_size
bad_size_of ms rest each none =
    ap (λ (l : List (List ℕ)). bad_size_at (drop (length (joined l)) (joined ms ++ rest)))
    (messages_of ms rest each none)
    ∙ ap bad_size_at (drop_at (joined ms) rest (length (joined ms)) refl)

-- ---- the messages that are found are messages, and the bytes begin with them

record Found (n : ℕ) (bytes : List ℕ) : Type 0 where
  each : AreMessages (messages_within n bytes)
  rest : List ℕ
  front : bytes ≡ joined (messages_within n bytes) ++ rest

found_at : (n : ℕ) (bytes : List ℕ) → Found n bytes
found_at zero bytes = record { each = tt; rest = bytes; front = refl }
found_at (suc n) bytes =
    elim (is_whole bytes) as (λ b. is_whole bytes ≡ b → Found (suc n) bytes) [
      | true ↦ λ is.
          let w = whole_front bytes is in
          let size = size_of bytes in
          let m = take size bytes in
          let tail = drop size bytes in
          let later = found_at n tail in
          let split : bytes ≡ m ++ tail = sym (take-append-drop size bytes) in
          let len : length m ≡ size = omega (arith, length-take size bytes, w.there) in
          let same : size_of bytes ≡ size_of m = ap size_of split ∙ size_stays m tail (omega (arith, len, w.good.0)) in
          let message : IsMessage m = (subst IsGoodSize same w.good, len ∙ same) in
          let step : messages_within (suc n) bytes ≡ m ∷ messages_within n tail = rw is refl in
          record {
            each = subst (λ (l : List (List ℕ)). AreMessages l) (sym step) (message, later.each);
            rest = later.rest;
            front = split ∙ ap (λ (r : List ℕ). m ++ r) later.front
                ∙ sym (append_assoc m (joined (messages_within n tail)) later.rest)
                ∙ ap (λ (l : List (List ℕ)). joined l ++ later.rest) (sym step);
          }
      | false ↦ λ is.
          let step : messages_within (suc n) bytes ≡ [] = rw is refl in
          record {
            each = subst (λ (l : List (List ℕ)). AreMessages l) (sym step) tt;
            rest = bytes;
            front = ap (λ (l : List (List ℕ)). joined l ++ bytes) (sym step);
          }
    ] refl

each_message : (bytes : List ℕ) → AreMessages (messages bytes)
unfolding messages
each_message bytes = (found_at (length bytes) bytes).each

pub longest : (bytes : List ℕ) → IsLongest bytes (messages bytes)
unfolding messages
longest bytes =
    let found = found_at (length bytes) bytes in
    record {
      each = found.each;
      rest = found.rest;
      front = found.front;
      longest = λ others more are is.
          let le : length (joined others ++ more) ≤ length bytes = omega (arith, ap length is) in
          let (k, _, later) = found_first (length bytes) others more are le in
          (messages_within k more, ap (messages_within (length bytes)) is ∙ later);
    }

-- ---- one feed

joined-append : (ms : List (List ℕ)) (m : List ℕ) → joined (ms ++ (m ∷ [])) ≡ joined ms ++ m
joined-append [] m = append-nil m
joined-append (x ∷ ms) m = ap (λ (r : List ℕ). x ++ r) (joined-append ms m) ∙ sym (append_assoc x (joined ms) m)

are-append : (ms : List (List ℕ)) (m : List ℕ) → AreMessages ms → IsMessage m → AreMessages (ms ++ (m ∷ []))
are-append [] m each is = (is, tt)
are-append (x ∷ ms) m each is = (each.0, are-append ms m each.1 is)

-- the bad size that is held
abbrev bad_of : Assembly → Option ℕ
bad_of (Begun bytes) = None
bad_of (Whole m) = None
bad_of (Bad header) = Some (size_of header)

bad_begun : (rest : List ℕ) → IsPartial rest → bad_size_at rest ≡ None
bad_begun rest h =
    elim (leb 8 (length rest)) as
    (λ b. leb 8 (length rest) ≡ b → cond (b && not (is_good (size_of rest))) (Some (size_of rest)) None ≡ None) [
      | true ↦ λ long. rw (good_is (size_of rest) (h (leb-true _ _ long)).0) refl
      | false ↦ λ short. refl
    ] refl

bad_held : (a : Assembly) (rest : List ℕ) → Holds a rest → bad_size_at rest ≡ bad_of a
bad_held (Whole m) rest h = rw h refl
bad_held (Begun bytes) rest h = bad_begun rest (subst (λ (r : List ℕ). IsPartial r) (sym h.0) h.1)
bad_held (Bad header) rest h =
    let same : size_of rest ≡ size_of header = ap size_of h.1 ∙ size_stays header h.0 h.2.0 in
    let long : leb 8 (length rest) ≡ true =
    le-leb _ _ (omega (arith, ap length h.1, length-append header h.0, h.2.0)) in
    rw (long, same, not_good (size_of header) h.2.1) refl

record Told (stream : List ℕ) (ms : List (List ℕ)) (a : Assembly) : Type 0 where
  fed : HasFed stream a
  are : messages stream ≡ ms
  bad : bad_size stream ≡ bad_of a

told : (stream : List ℕ) (ms : List (List ℕ)) (rest : List ℕ) (a : Assembly) → stream ≡ joined ms ++ rest →
    AreMessages ms → Holds a rest → Told stream ms a
told stream ms rest a whole each holds =
    let none = rest_not_whole a rest holds in
    let are : messages stream ≡ ms = ap messages whole ∙ messages_of ms rest each none in
    record {
      fed = record {
        rest = rest;
        whole = whole ∙ ap (λ (l : List (List ℕ)). joined l ++ rest) (sym are);
        holds = holds;
      };
      are = are;
      bad = ap bad_size whole ∙ bad_size_of ms rest each none ∙ bad_held a rest holds;
    }

longer : (stream : List ℕ) (ms : List (List ℕ)) (start more : List ℕ) → stream ≡ joined ms ++ start →
    stream ++ more ≡ joined ms ++ (start ++ more)
longer stream ms start more whole = ap (λ (s : List ℕ). s ++ more) whole ∙ append_assoc (joined ms) start more

-- with nothing bad behind the messages, a piece goes on from what is begun
goes_on : (stream start : List ℕ) (old : Assembly) (piece : List ℕ) (f : Fed) (new : Assembly) →
    stream ≡ joined (messages stream) ++ start → begun old ≡ start → Feeds old piece f new → FedOn stream piece f new
goes_on stream start old piece (fed.Whole used) new whole from g =
    let ms = messages stream in
    let m = begun old ++ take used piece in
    let put : stream ++ take used piece ≡ joined (ms ++ (m ∷ [])) ++ [] =
    longer stream ms start (take used piece) whole ∙ ap (λ (s : List ℕ). joined ms ++ (s ++ take used piece)) (sym from)
    ∙ sym (joined-append ms m) ∙ sym (append-nil (joined (ms ++ (m ∷ [])))) in
    let t = told (stream ++ take used piece) (ms ++ (m ∷ [])) [] (Whole m) put
    (are-append ms m (each_message stream) g.2) refl in
    subst (λ (a : Assembly). FedOn stream piece (fed.Whole used) a) (sym g.3) (t.fed, t.are, t.bad)
goes_on stream start old piece fed.Need new whole from g =
    let ms = messages stream in
    let bytes = begun old ++ piece in
    let put : stream ++ piece ≡ joined ms ++ bytes =
    longer stream ms start piece whole ∙ ap (λ (s : List ℕ). joined ms ++ (s ++ piece)) (sym from) in
    let t = told (stream ++ piece) ms bytes (Begun bytes) put (each_message stream) (refl, g.0) in
    subst (λ (a : Assembly). FedOn stream piece fed.Need a) (sym g.1) (t.fed, t.are, t.bad)
goes_on stream start old piece (fed.BadSize n) new whole from g =
    let ms = messages stream in
    let bytes = begun old ++ piece in
    let header = take 8 bytes in
    let put : stream ++ piece ≡ joined ms ++ bytes =
    longer stream ms start piece whole ∙ ap (λ (s : List ℕ). joined ms ++ (s ++ piece)) (sym from) in
    let t = told (stream ++ piece) ms bytes (Bad header) put (each_message stream)
    (drop 8 bytes, sym (take-append-drop 8 bytes), g.0) in
    subst (λ (a : Assembly). FedOn stream piece (fed.BadSize n) a) (sym g.2)
    (t.fed, t.are, t.bad ∙ ap (λ (k : ℕ). Some k) (sym g.1))

-- a bad size stays
stays_bad : (stream header more piece : List ℕ) (f : Fed) (new : Assembly) →
    stream ≡ joined (messages stream) ++ (header ++ more) → IsBad header → Feeds (Bad header) piece f new →
    FedOn stream piece f new
stays_bad stream header more piece (fed.Whole used) new whole bad g =
    let same : size_of (header ++ take used piece) ≡ size_of header = size_stays header (take used piece) bad.0 in
    absurd (bad.1 (subst IsGoodSize same g.2.0))
stays_bad stream header more piece fed.Need new whole bad g =
    let same : size_of (header ++ piece) ≡ size_of header = size_stays header piece bad.0 in
    let long : 8 ≤ length (header ++ piece) = omega (arith, length-append header piece, bad.0) in
    absurd (bad.1 (subst IsGoodSize same (g.0 long).0))
stays_bad stream header more piece (fed.BadSize n) new whole bad g =
    let ms = messages stream in
    let rest = (header ++ more) ++ piece in
    let first = take 8 (header ++ piece) in
    let same : first ≡ take 8 rest =
    take-append-le 8 header piece bad.0
    ∙ sym (ap (λ (l : List ℕ). take 8 l) (append_assoc header more piece)
    ∙ take-append-le 8 header (more ++ piece) bad.0) in
    let split : rest ≡ first ++ drop 8 rest =
    sym (take-append-drop 8 rest) ∙ ap (λ (h : List ℕ). h ++ drop 8 rest) (sym same) in
    let t = told (stream ++ piece) ms rest (Bad first) (longer stream ms (header ++ more) piece whole)
    (each_message stream) (drop 8 rest, split, g.0) in
    subst (λ (a : Assembly). FedOn stream piece (fed.BadSize n) a) (sym g.2)
    (t.fed, t.are, t.bad ∙ ap (λ (k : ℕ). Some k) (sym g.1))

pub fed_on : (stream : List ℕ) (old : Assembly) (piece : List ℕ) (f : Fed) (new : Assembly) → HasFed stream old →
    Feeds old piece f new → FedOn stream piece f new
fed_on stream (Whole m) piece f new h g =
    goes_on stream [] (Whole m) piece f new
    (h.whole ∙ ap (λ (r : List ℕ). joined (messages stream) ++ r) h.holds) refl g
fed_on stream (Begun bytes) piece f new h g =
    goes_on stream bytes (Begun bytes) piece f new
    (h.whole ∙ ap (λ (r : List ℕ). joined (messages stream) ++ r) h.holds.0) refl g
fed_on stream (Bad header) piece f new h g =
    stays_bad stream header h.holds.0 piece f new
    (h.whole ∙ ap (λ (r : List ℕ). joined (messages stream) ++ r) h.holds.1) h.holds.2 g

-- nothing was fed to a new assembler
pub fed_nothing : HasFed [] (Begun [])
unfolding messages
fed_nothing = record { rest = []; whole = refl; holds = (refl, λ long. absurd (omega (arith, long))) }
