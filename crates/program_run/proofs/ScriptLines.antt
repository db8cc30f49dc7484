-- The lines of a script are those of the input that it is read from.
use Rattle.std.proofs.Common.{◌≡◌, ◌≢◌, ℕ, zero, suc, ◌+◌, ◌-◌, ◌<◌, ◌≤◌, Bool, true, false, eqb, leb, List, [], ◌∷◌, ◌++◌, length, take, drop, get_or, refl, sym, ap, ◌∙◌, subst, arith, append-nil, append_assoc}
use Rattle.std.specs.Prelude.{if◌then◌else◌, ◌||◌, ◌&&◌}
use Rattle.std.specs.List.{join_with_byte}
use Rattle.std.proofs.Math.Seq.{drop-cons}
use Rattle.std.proofs.lemmas.Bool.{ne_eqb, lt-leb}
use Rattle.std.proofs.lemmas.List.{take-append-drop, length-drop, take_more, drop_all}
use Rattle.std.proofs.lemmas.List.Elements.{All-nil, All-cons}
use Rattle.std.proofs.lemmas.List.Splits.{join_with_byte-slice_split, length-slice_split}
use Rattle.wio_core.specs.Lines.{LacksFeed}
use Rattle.trial_script.specs.Lines.{lines_of as script_lines, lines_of_parts as script_parts}
use Rattle.program_run.specs.Lines.{lines_of_parts, lines_of, bytes_of}
use Rattle.program_run.specs.Reading.{LackFeeds}
use Rattle.program_run.specs.Whole.{IsEndOfLines}
use Rattle.program_run.proofs.InputSplits.{lines_front, lines_one, lines_open, lines_nil, last_long}
use Rattle.program_run.proofs.WholeLines.{parts_of, parts_lack}

-- ---- an input that wasn't cut off

parts_same : (parts : List (List ℕ)) → script_parts parts ≡ lines_of_parts false parts
parts_same [] = refl
parts_same (part ∷ []) = by (eqb (length part) 0)
  where
    by : (b : Bool) → (if b then [] else part ∷ []) ≡ (if b || (false && leb (length part) 8400) then [] else part ∷ [])
    by true = refl
    by false = refl
parts_same (part ∷ next ∷ parts) = ap (λ l. part ∷ l) (parts_same (next ∷ parts))

pub script_whole : (input : List ℕ) → script_lines input ≡ lines_of false input
unfolding script_lines lines_of
script_whole input = parts_same (parts_of input)

-- ---- one that was cut off

-- the bytes up to the last line feed are whole lines
record IsDivided (input : List ℕ) (n : ℕ) : Type 0 where
  done : List (List ℕ)
  lack : LackFeeds done
  front : take n input ≡ bytes_of done

divided : (input : List ℕ) (n : ℕ) → IsEndOfLines input n → IsDivided input n
divided input zero h = record { done = []; lack = tt; front = refl }
divided input (suc k) h =
    let within = h.within in
    let w : List ℕ = take k input in
    let at : suc k - 1 ≡ k = omega arith in
    let feed : get_or input k 0 ≡ 10 = ap (λ j. get_or input j 0) (sym at) ∙ h.feed (omega arith) in
    let one : suc k ≡ k + 1 = omega arith in
    let front : take (suc k) input ≡ w ++ 10 ∷ [] =
    ap (λ j. take j input) one ∙ take_more input k 0 (omega arith) ∙ ap (λ b. w ++ b ∷ []) feed in
    record {
      done = parts_of w;
      lack = parts_lack w;
      front = front ∙ ap (λ l. l ++ 10 ∷ []) (sym (join_with_byte-slice_split 10 w)) ∙ joined (parts_of w)
          (let len = length-slice_split (λ b. eqb b 10) w in omega arith);
    }
  where
    joined : (parts : List (List ℕ)) → 1 ≤ length parts → join_with_byte 10 parts ++ 10 ∷ [] ≡ bytes_of parts
    joined [] some = absurd (omega arith)
    joined (part ∷ []) some = refl
    joined (part ∷ next ∷ parts) some =
        append_assoc part (10 ∷ join_with_byte 10 (next ∷ parts)) (10 ∷ [])
        ∙ ap (λ l. part ++ 10 ∷ l) (joined (next ∷ parts) (omega arith))

whole_is : (cut : Bool) (input : List ℕ) (n : ℕ) (d : IsDivided input n) →
    lines_of cut input ≡ d.done ++ lines_of cut (drop n input)
whole_is cut input n d =
    ap (lines_of cut) (sym (take-append-drop n input) ∙ ap (λ l. l ++ drop n input) d.front)
    ∙ lines_front cut d.done (drop n input) d.lack

front_is : (input : List ℕ) (n : ℕ) (d : IsDivided input n) → lines_of false (take n input) ≡ d.done ++ []
front_is input n d =
    ap (lines_of false) (d.front ∙ sym (append-nil (bytes_of d.done)))
    ∙ lines_front false d.done [] d.lack ∙ ap (λ l. d.done ++ l) (lines_nil false)

-- a line that the input was cut off in is none
pub cut_short : (input : List ℕ) (n : ℕ) → IsEndOfLines input n → length input - n ≤ 8400 →
    script_lines (take n input) ≡ lines_of true input
cut_short input n h short =
    let d = divided input n h in
    let few : length (drop n input) ≤ 8400 = omega (arith, length-drop n input) in
    script_whole (take n input) ∙ front_is input n d
    ∙ sym (whole_is true input n d
    ∙ ap (λ l. d.done ++ l) (lines_open (drop n input) (record { few = few; lacks = h.tail })))

-- one that is too long stays
pub cut_long : (input : List ℕ) (n : ℕ) → IsEndOfLines input n → 8400 < length input - n →
    script_lines input ≡ lines_of true input
cut_long input n h long =
    let d = divided input n h in
    let tail : List ℕ = drop n input in
    let many : 8400 < length tail = omega (arith, length-drop n input) in
    let some : eqb (length tail) 0 ≡ false = ne_eqb (length tail) 0 (λ z. omega arith) in
    let wide : leb (length tail) 8400 ≡ false = lt-leb (length tail) 8400 many in
    let last : (cut : Bool) → lines_of cut tail ≡ tail ∷ [] =
    λ cut. lines_one cut tail h.tail ∙ last_long cut tail some wide in
    script_whole input ∙ whole_is false input n d ∙ ap (λ l. d.done ++ l) (last false ∙ sym (last true))
    ∙ sym (whole_is true input n d)

-- ---- where the last line feed stands

pub at_end : (bytes : List ℕ) (n : ℕ) → n ≡ length bytes → LacksFeed (drop n bytes)
at_end bytes n e = subst LacksFeed (sym (drop_all n bytes (omega arith))) (All-nil (λ b. b ≢ 10))

-- one byte further back, which is no line feed
pub one_back : (bytes : List ℕ) (n : ℕ) → 0 < n → n ≤ length bytes → (get_or bytes (n - 1) 0 ≡ 10 → ⊥) →
    LacksFeed (drop n bytes) → LacksFeed (drop (n - 1) bytes)
one_back bytes n some within other lacks =
    let next : suc (n - 1) ≡ n = omega arith in
    subst LacksFeed (sym (drop-cons bytes (n - 1) 0 (omega arith)))
    (All-cons (λ b. b ≢ 10) (get_or bytes (n - 1) 0) (drop (suc (n - 1)) bytes) other
    (subst (λ k. LacksFeed (drop k bytes)) (sym next) lacks))
