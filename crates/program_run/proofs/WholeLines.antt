-- The lines of a front of an input are lines of the whole of it.
use Rattle.std.proofs.Common.{◌≡◌, ◌≢◌, ℕ, ◌+◌, ◌-◌, ◌<◌, ◌≤◌, Bool, true, false, eqb, ltb, leb, List, [], ◌∷◌, ◌++◌, length, take, drop, refl, sym, ap, ◌∙◌, subst, arith, append_assoc, length-append, length-take}
use Rattle.std.specs.Prelude.{◌||◌, ◌&&◌, if◌then◌else◌}
use Rattle.std.specs.List.{slice_split, onto_first, join_with_byte}
use Rattle.std.proofs.lemmas.Bool.{ltb-true, ltb-false, le-leb}
use Rattle.std.proofs.lemmas.List.{take-append-drop}
use Rattle.std.proofs.lemmas.List.Elements.{All-nil, All-cons}
use Rattle.std.proofs.lemmas.List.Splits.{slice_split-cons_yes, slice_split-cons_no, join_with_byte-slice_split, length-slice_split}
use Rattle.program_run.specs.Lines.{is_no_line, lines_of_parts, lines_of, lines_read, is_cut, taken, bytes_of, size_of}
use Rattle.program_run.specs.Reading.{LackFeeds}
use Rattle.program_run.proofs.ReadLines.{input_lines, input_ended, input_cut}

-- ---- no line has a line feed

abbrev pub parts_of : List ℕ → List (List ℕ)
parts_of bytes = slice_split (λ b. eqb b 10) bytes

first_lacks : (x : ℕ) (parts : List (List ℕ)) → eqb x 10 ≡ false → LackFeeds parts → LackFeeds (onto_first x parts)
first_lacks x [] other lack =
    (All-cons (λ b. b ≢ 10) x [] (λ e. let same : eqb x 10 ≡ true = rw e refl in cc) (All-nil (λ b. b ≢ 10)), tt)
first_lacks x (part ∷ parts) other lack =
    (All-cons (λ b. b ≢ 10) x part (λ e. let same : eqb x 10 ≡ true = rw e refl in cc) lack.0, lack.1)

pub parts_lack : (bytes : List ℕ) → LackFeeds (parts_of bytes)
parts_lack [] = (All-nil (λ b. b ≢ 10), tt)
parts_lack (x ∷ bytes) =
    elim (eqb x 10) as (λ b. eqb x 10 ≡ b → LackFeeds (parts_of (x ∷ bytes))) [
      | true ↦ λ e. subst LackFeeds (sym (slice_split-cons_yes (λ b. eqb b 10) x bytes e))
          (All-nil (λ b. b ≢ 10), parts_lack bytes)
      | false ↦ λ e. subst LackFeeds (sym (slice_split-cons_no (λ b. eqb b 10) x bytes e))
          (first_lacks x (parts_of bytes) e (parts_lack bytes))
    ] refl

lines_lack : (cut : Bool) (parts : List (List ℕ)) → LackFeeds parts → LackFeeds (lines_of_parts cut parts)
lines_lack cut [] lack = tt
lines_lack cut (part ∷ []) lack =
    elim (is_no_line cut part) as (λ b. LackFeeds (if b then [] else part ∷ [])) [ true ↦ tt | false ↦ lack ]
lines_lack cut (part ∷ next ∷ parts) lack = (lack.0, lines_lack cut (next ∷ parts) lack.1)

pub read_lacks : (limit : ℕ) (bytes : List ℕ) → LackFeeds (lines_read limit bytes)
unfolding lines_read lines_of
read_lacks limit bytes = lines_lack (is_cut limit bytes) (parts_of (taken limit bytes)) (parts_lack (taken limit bytes))

-- ---- how many bytes the lines have

parts_size : (parts : List (List ℕ)) → 1 ≤ length parts → size_of parts ≡ length (join_with_byte 10 parts) + 1
parts_size [] some = absurd (omega (arith, some))
parts_size (part ∷ []) some = omega arith
parts_size (part ∷ next ∷ parts) some =
    let rest = parts_size (next ∷ parts) (omega arith) in
    omega (arith, rest, length-append part (10 ∷ join_with_byte 10 (next ∷ parts)))

lines_size : (cut : Bool) (parts : List (List ℕ)) → size_of (lines_of_parts cut parts) ≤ size_of parts
lines_size cut [] = omega arith
lines_size cut (part ∷ []) =
    elim (is_no_line cut part) as
    (λ b. size_of (if b then [] else part ∷ []) ≤ size_of (part ∷ [])) [ true ↦ omega arith | false ↦ omega arith ]
lines_size cut (part ∷ next ∷ parts) = let rest = lines_size cut (next ∷ parts) in omega (arith, rest)

pub read_size : (limit : ℕ) (bytes : List ℕ) → size_of (lines_read limit bytes) ≤ limit + 1
unfolding lines_read lines_of taken
read_size limit bytes =
    let front : List ℕ = take limit bytes in
    let parts : List (List ℕ) = parts_of front in
    let some : 1 ≤ length parts = let len = length-slice_split (λ b. eqb b 10) front in omega (arith, len) in
    let whole : length (join_with_byte 10 parts) ≡ length front = ap length (join_with_byte-slice_split 10 front) in
    omega (arith, lines_size (is_cut limit bytes) parts, parts_size parts some, whole, length-take limit bytes)

-- ---- lines of a front that ends inside of a line

-- parts that begin with these, and go on
record GoesOn (parts front : List (List ℕ)) : Type 0 where
  more : List (List ℕ)
  is : parts ≡ front ++ more
  some : 1 ≤ length more

long_part : (part line : List ℕ) → part ≡ line → length line ≤ 8400 → is_no_line true part ≡ false → ⊥
long_part part line same short e =
    let small : leb (length part) 8400 ≡ true = le-leb (length part) 8400 (omega (arith, short, ap length same)) in
    elim (eqb (length part) 0) as (λ b. (b || (true && leb (length part) 8400)) ≡ false → ⊥) [
      | true ↦ λ f. cc
      | false ↦ λ f. cc
    ] e

none_in : (front : List (List ℕ)) (line : List ℕ) (rest : List (List ℕ)) → [] ≡ front ++ line ∷ rest → ⊥
none_in [] line rest e = absurd (cc e)
none_in (f ∷ front) line rest e = absurd (cc e)

last_part : (part : List ℕ) (front : List (List ℕ)) (line : List ℕ) (rest : List (List ℕ)) (b : Bool) →
    is_no_line true part ≡ b
    → (if b then [] else part ∷ []) ≡ front ++ line ∷ rest → length line ≤ 8400 → ⊥
last_part part front line rest true is e short = none_in front line rest e
last_part part [] line rest false is e short = let same : part ≡ line = cc in long_part part line same short is
last_part part (f ∷ front) line rest false is e short = let left : [] ≡ front ++ line ∷ rest =
    cc in none_in front line rest left

whole_front : (parts front : List (List ℕ)) (line : List ℕ) (rest : List (List ℕ)) →
    lines_of_parts true parts ≡ front ++ line ∷ rest
    → length line ≤ 8400 → GoesOn parts (front ++ line ∷ [])
whole_front [] front line rest e short = absurd (none_in front line rest e)
whole_front (part ∷ []) front line rest e short =
    absurd (last_part part front line rest (is_no_line true part) refl e short)
whole_front (part ∷ next ∷ parts) [] line rest e short =
    let same : part ≡ line = cc in
    record { more = next ∷ parts; is = ap (λ l. l ∷ next ∷ parts) same; some = omega arith }
whole_front (part ∷ next ∷ parts) (f ∷ front) line rest e short =
    let same : part ≡ f = cc in
    let left : lines_of_parts true (next ∷ parts) ≡ front ++ line ∷ rest = cc in
    let later = whole_front (next ∷ parts) front line rest left short in
    record { more = later.more; is = ap (λ l. l ∷ next ∷ parts) same ∙ ap (λ l. f ∷ l) later.is; some = later.some }

join_first : (w : List ℕ) (ws : List (List ℕ)) → 1 ≤ length ws →
    join_with_byte 10 (w ∷ ws) ≡ w ++ 10 ∷ join_with_byte 10 ws
join_first w [] some = absurd (omega (arith, some))
join_first w (v ∷ ws) some = refl

pub join_front : (ws more : List (List ℕ)) → 1 ≤ length more →
    join_with_byte 10 (ws ++ more) ≡ bytes_of ws ++ join_with_byte 10 more
join_front [] more some = refl
join_front (w ∷ ws) more some =
    join_first w (ws ++ more) (omega (arith, some, length-append ws more))
    ∙ ap (λ l. w ++ 10 ∷ l) (join_front ws more some) ∙ sym (append_assoc w (10 ∷ bytes_of ws) (join_with_byte 10 more))

lack_front : (a b : List (List ℕ)) → LackFeeds (a ++ b) → LackFeeds a
lack_front [] b lack = tt
lack_front (line ∷ a) b lack = (lack.0, lack_front a b lack.1)

-- ---- the same lines where more bytes are read

-- the input's lines begin with these
pub record BeginsWith (limit : ℕ) (bytes : List ℕ) (front : List (List ℕ)) (line : List ℕ) : Type 0 where
  pub rest : List (List ℕ)
  pub is : lines_read limit bytes ≡ front ++ line ∷ rest

-- an input that ends before the lower limit
ended_before : (low high : ℕ) (bytes : List ℕ) → low ≤ high → length bytes < low →
    lines_read high bytes ≡ lines_read low bytes
ended_before low high bytes le short =
    (input_ended {limit = high} (lines_of false bytes) bytes bytes refl (omega (arith, le, short)) refl).1
    ∙ sym (input_ended {limit = low} (lines_of false bytes) bytes bytes refl short refl).1

cut_front : (front : List (List ℕ)) (line : List ℕ) (rest : List (List ℕ)) (read : List ℕ) →
    lines_of true read ≡ front ++ line ∷ rest
    → length line ≤ 8400 → GoesOn (parts_of read) (front ++ line ∷ [])
unfolding lines_of
cut_front front line rest read e short = whole_front (parts_of read) front line rest e short

-- an input that the lower limit cuts off
cut_off : (low high : ℕ) (bytes : List ℕ) (front : List (List ℕ)) (line : List ℕ) (rest : List (List ℕ)) → low ≤ high →
    low ≤ length bytes
    → lines_read low bytes ≡ front ++ line ∷ rest → length line ≤ 8400 → BeginsWith high bytes front line
cut_off low high bytes front line rest le long e short =
    let read : List ℕ = take low bytes in
    let behind : List ℕ = drop low bytes in
    let parts : bytes ≡ read ++ behind = sym (take-append-drop low bytes) in
    let full : length read ≡ low = omega (arith, long, length-take low bytes) in
    let cut = input_cut {limit = low} read behind bytes parts full in
    let on = cut_front front line rest read (sym cut.1 ∙ e) short in
    let done : List (List ℕ) = front ++ line ∷ [] in
    let split : read ≡ bytes_of done ++ join_with_byte 10 on.more =
    sym (join_with_byte-slice_split 10 read) ∙ ap (join_with_byte 10) on.is ∙ join_front done on.more on.some in
    let lack : LackFeeds done = lack_front done on.more (subst LackFeeds on.is (parts_lack read)) in
    let more : List (List ℕ) =
    lines_of (is_cut high bytes) (join_with_byte 10 on.more ++ take (high - length read) behind) in
    record {
      rest = more;
      is = input_lines {limit = high} done (join_with_byte 10 on.more) read behind bytes parts
          (omega (arith, le, full)) split lack
          ∙ append_assoc front (line ∷ []) more;
    }

pub same_lines : (low high : ℕ) (bytes : List ℕ) (front : List (List ℕ)) (line : List ℕ) (rest : List (List ℕ)) →
    low ≤ high
    → lines_read low bytes ≡ front ++ line ∷ rest → length line ≤ 8400 → BeginsWith high bytes front line
same_lines low high bytes front line rest le e short =
    elim (ltb (length bytes) low) as (λ b. ltb (length bytes) low ≡ b → BeginsWith high bytes front line) [
      | true ↦ λ is. record { rest = rest; is = ended_before low high bytes le (ltb-true (length bytes) low is) ∙ e }
      | false ↦ λ is. cut_off low high bytes front line rest le (ltb-false (length bytes) low is) e short
    ] refl
