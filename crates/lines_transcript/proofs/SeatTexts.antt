-- The mark of a seat stands before each line of a text.
use Rattle.std.proofs.Common.{◌≡◌, ◌≢◌, ℕ, suc, ◌+◌, ◌<◌, ◌≤◌, eqb, true, false, Bool, List, [], ◌∷◌, ◌++◌, length, get_or, take, drop, refl, sym, ap, ap₂, subst, ◌∙◌, append_assoc, append-nil, add-one, inl, inr, arith}
use Rattle.std.proofs.Math.Seq.{drop-cons}
use Rattle.std.proofs.lemmas.Bool.{eqb-true}
use Rattle.std.proofs.lemmas.Bool.Decides.{eqb_tells}
use Rattle.std.proofs.lemmas.Grind.{common_steps}
use Rattle.std.proofs.lemmas.List.{take_all, take-append-drop}
use Rattle.memchr.specs.Find.{Nowhere, NoneBefore, Passes, is_byte}
use Rattle.lines_transcript.specs.Seats.{marked, seat_lines, seat_mark}

-- no line feed is among the bytes
abbrev pub HasNoFeed : List ℕ → Type 0
HasNoFeed line = (i : ℕ) → i < length line → get_or line i 0 ≢ 10

first_no_feed : (b : ℕ) (line : List ℕ) → HasNoFeed (b ∷ line) → eqb b 10 ≡ false
first_no_feed b line h = elim (eqb_tells b 10) [ inl t ↦ absurd (h 0 (omega arith) t.1) | inr t ↦ t.0 ]

rest_no_feed : (b : ℕ) (line : List ℕ) → HasNoFeed (b ∷ line) → HasNoFeed line
rest_no_feed b line h = λ i below. h (suc i) (omega (arith, below))

-- behind the first byte of a line up to its line feed
pub line_goes_on : (seat : ℕ) (line rest : List ℕ) → HasNoFeed line →
    marked seat false (line ++ 10 ∷ rest) ≡ line ++ 10 ∷ marked seat true rest
line_goes_on seat [] rest h = refl
line_goes_on seat (b ∷ line) rest h =
    ap (λ (f : Bool). b ∷ marked seat f (line ++ 10 ∷ rest)) (first_no_feed b line h)
    ∙ ap (λ (t : List ℕ). b ∷ t) (line_goes_on seat line rest (rest_no_feed b line h))

-- one line and those behind it
pub line_marked : (seat : ℕ) (line rest : List ℕ) → HasNoFeed line →
    seat_lines seat (line ++ 10 ∷ rest) ≡ seat_mark seat ++ (line ++ 10 ∷ seat_lines seat rest)
line_marked seat [] rest h = refl
line_marked seat (b ∷ line) rest h =
    ap (λ (f : Bool). seat_mark seat ++ b ∷ marked seat f (line ++ 10 ∷ rest)) (first_no_feed b line h)
    ∙ ap (λ (t : List ℕ). seat_mark seat ++ b ∷ t) (line_goes_on seat line rest (rest_no_feed b line h))

-- a last line without a line feed
pub last_goes_on : (seat : ℕ) (line : List ℕ) → HasNoFeed line → marked seat false line ≡ line
last_goes_on seat [] h = refl
last_goes_on seat (b ∷ line) h =
    ap (λ (f : Bool). b ∷ marked seat f line) (first_no_feed b line h)
    ∙ ap (λ (t : List ℕ). b ∷ t) (last_goes_on seat line (rest_no_feed b line h))

pub last_marked : (seat : ℕ) (line : List ℕ) → HasNoFeed line → 0 < length line →
    seat_lines seat line ≡ seat_mark seat ++ line
last_marked seat [] h some = absurd (omega (arith, some))
last_marked seat (b ∷ line) h some =
    ap (λ (f : Bool). seat_mark seat ++ b ∷ marked seat f line) (first_no_feed b line h)
    ∙ ap (λ (t : List ℕ). seat_mark seat ++ b ∷ t) (last_goes_on seat line (rest_no_feed b line h))

-- a search that found no line feed among the first n bytes
lacks_searched : (text : List ℕ) (n : ℕ) → n ≤ length text → Nowhere (Passes (is_byte 10) text) 0 n
    → HasNoFeed (take n text)
lacks_searched text n le nowhere k lt e =
    let small : k < n = grind (arith, common_steps) in
    let here : get_or text k 0 ≡ get_or (take n text) k 0 = grind (arith, common_steps) in
    nowhere k (omega arith) small (elim (eqb_tells (get_or text k 0) 10) [
      | inl p ↦ p.0
      | inr p ↦ absurd (p.1 (here ∙ e))
    ])

-- where a search found the first line feed
pub feed_at : (text searched : List ℕ) (n : ℕ) → searched ≡ text
    → NoneBefore (Passes (is_byte 10) searched) 0 (length searched) n → Passes (is_byte 10) searched n
    → (n < length text) × (get_or text n 0 ≡ 10)
feed_at text searched n same none here =
    let high = none.high in (
      omega (arith, high, ap (λ (t : List ℕ). length t) same),
      ap (λ (t : List ℕ). get_or t n 0) (sym same) ∙ eqb-true (get_or searched n 0) 10 here,
    )

-- the line up to the first line feed, which was found at n, and those behind it
found_by : (seat n : ℕ) (text : List ℕ) → NoneBefore (Passes (is_byte 10) text) 0 (length text) n
    → Passes (is_byte 10) text n
    → seat_lines seat text ≡ seat_mark seat ++ (take (n + 1) text ++ seat_lines seat (drop (n + 1) text))
found_by seat n text none here =
    let high = none.high in
    let inside : n < length text = omega (arith, high) in
    let feed : get_or text n 0 ≡ 10 = eqb-true (get_or text n 0) 10 here in
    let rest : List ℕ = drop (n + 1) text in
    let behind : drop n text ≡ 10 ∷ rest =
    drop-cons text n 0 inside ∙ ap₂ (λ (b k : ℕ). b ∷ drop k text) feed (sym (add-one n)) in
    let whole : text ≡ take n text ++ 10 ∷ rest =
    sym (take-append-drop n text) ∙ ap (λ (t : List ℕ). take n text ++ t) behind in
    let front : take (n + 1) text ≡ take n text ++ 10 ∷ [] = grind (arith, common_steps) in
    ap (seat_lines seat) whole
    ∙ line_marked seat (take n text) rest (lacks_searched text n (omega (arith, high)) none.before)
    ∙ ap (λ (t : List ℕ). seat_mark seat ++ t)
    (sym (append_assoc (take n text) (10 ∷ []) (seat_lines seat rest))
    ∙ ap (λ (t : List ℕ). t ++ seat_lines seat rest) (sym front))

pub found_marked : (seat n : ℕ) (text searched : List ℕ) → searched ≡ text
    → NoneBefore (Passes (is_byte 10) searched) 0 (length searched) n → Passes (is_byte 10) searched n
    → seat_lines seat text ≡ seat_mark seat ++ (take (n + 1) text ++ seat_lines seat (drop (n + 1) text))
found_marked seat n text searched same none here =
    subst (λ (t : List ℕ). seat_lines seat t ≡ seat_mark seat ++ (take (n + 1) t ++ seat_lines seat (drop (n + 1) t)))
    same (found_by seat n searched none here)

-- all of them, where no line feed was found
pub lone_marked : (seat : ℕ) (text searched : List ℕ) → searched ≡ text → 0 < length text
    → Nowhere (Passes (is_byte 10) searched) 0 (length searched) → seat_lines seat text ≡ seat_mark seat ++ (text ++ [])
lone_marked seat text searched same some nowhere =
    let none : HasNoFeed searched =
    subst HasNoFeed (take_all (length searched) searched (omega arith))
    (lacks_searched searched (length searched) (omega arith) nowhere) in
    let lacks : HasNoFeed text = subst HasNoFeed same none in
    last_marked seat text lacks some ∙ ap (λ (t : List ℕ). seat_mark seat ++ t) (sym (append-nil text))

-- one line more behind the text
pub next_line : (seat : ℕ) (text added rest line more whole : List ℕ)
    → seat_lines seat rest ≡ seat_mark seat ++ (line ++ seat_lines seat more)
    → added ≡ text ++ (seat_mark seat ++ line) → text ++ seat_lines seat rest ≡ whole
    → added ++ seat_lines seat more ≡ whole
next_line seat text added rest line more whole parts grew is =
    let L : List ℕ = seat_lines seat more in
    ap (λ (t : List ℕ). t ++ L) grew
    ∙ append_assoc text (seat_mark seat ++ line) L
    ∙ ap (λ (t : List ℕ). text ++ t) (append_assoc (seat_mark seat) line L ∙ sym parts)
    ∙ is

-- ---- a text that began so goes on

pub same_front : (text : List ℕ) → (more : List ℕ) × (text ≡ text ++ more)
same_front text = ([], sym (append-nil text))

pub grown_on : (text added : List ℕ) (before : List ℕ) → (more : List ℕ) × (text ≡ before ++ more)
    → (more : List ℕ) × (added ≡ text ++ more) → (more : List ℕ) × (added ≡ before ++ more)
grown_on text added before h k =
    (h.0 ++ k.0, k.1 ∙ ap (λ (t : List ℕ). t ++ k.0) h.1 ∙ append_assoc before h.0 k.0)
