-- Words, and an input that is read to its end.
use Rattle.std.proofs.Common.{◌≡◌, ℕ, ◌<◌, ◌≤◌, List, [], ◌∷◌, ◌++◌, length, take, map, get_or, Option, Some, None, String, Global, string_bytes, sym, ap, ap₂, ◌∙◌, ◌⊎◌, inl, inr, subst, append-nil, arith}
use Rattle.std.specs.Prelude.{IfSome, IfOk, Result, Ok, Err}
use Rattle.std.specs.Result.{IsErr}
use Rattle.std.proofs.lemmas.Bool.{false≢true}
use Rattle.std.specs.Io.KnownBytes.{Consumes, IsAtEnd}
use Rattle.std.proofs.Math.Seq.{take-append_seam}
use Rattle.std.proofs.lemmas.List.{take_all}
use Rattle.wio_core.specs.Lines.{TookFrom}
use Rattle.wio_core.proofs.ReadsTogether.{TookFrom-both}
use Rattle.program_run.specs.declared.reading.TheConstants.{INPUT_LIMIT}
use Rattle.program_run.specs.declared.status.Status.{Status}
use Rattle.program_run.specs.declared.status.Status.TheVariants as status
use Rattle.program_run.specs.Lines.{taken}
use Rattle.program_run.specs.Whole.{ReadsWhole}
use Rattle.program_run.specs.Run.{task_named, two_named, gen_text_named, task_of}

pub one_word : (ws : List (String Global)) (a : String Global) → 1 ≤ length ws → length ws < 2 → a ≡ get_or ws 0 a →
    task_of (map string_bytes ws) ≡ task_named (string_bytes a)
one_word [] a some few is = absurd (omega arith)
one_word (v ∷ []) a some few is = ap (λ x. task_named (string_bytes x)) (sym is)
one_word (v ∷ u ∷ ws) a some few is = absurd (omega arith)

pub two_words : (ws : List (String Global)) (a b : String Global) → 2 ≤ length ws → length ws < 3 →
    a ≡ get_or ws 0 a → b ≡ get_or ws 1 b →
    task_of (map string_bytes ws) ≡ two_named (string_bytes a) (string_bytes b)
two_words [] a b some few is also = absurd (omega arith)
two_words (v ∷ []) a b some few is also = absurd (omega arith)
two_words (v ∷ u ∷ []) a b some few is also =
    ap₂ (λ x y. two_named (string_bytes x) (string_bytes y)) (sym is) (sym also)
two_words (v ∷ u ∷ t ∷ ws) a b some few is also = absurd (omega arith)

pub three_words : (ws : List (String Global)) (a b d : String Global) → 3 ≤ length ws → length ws < 4 →
    a ≡ get_or ws 0 a → b ≡ get_or ws 1 b → d ≡ get_or ws 2 d →
    task_of (map string_bytes ws) ≡ gen_text_named (string_bytes a) (string_bytes b) (string_bytes d)
three_words [] a b d some few is also last = absurd (omega arith)
three_words (v ∷ []) a b d some few is also last = absurd (omega arith)
three_words (v ∷ u ∷ []) a b d some few is also last = absurd (omega arith)
three_words (v ∷ u ∷ t ∷ []) a b d some few is also last =
    ap₂ (λ x y. gen_text_named (string_bytes x) (string_bytes y) (string_bytes t)) (sym is) (sym also)
    ∙ ap (λ z. gen_text_named (string_bytes a) (string_bytes b) (string_bytes z)) (sym last)
three_words (v ∷ u ∷ t ∷ s ∷ ws) a b d some few is also last = absurd (omega arith)

-- a source that was read to its end, or to the limit

pub read_to_end : (a b : Option (List ℕ)) (bs : List ℕ) → Consumes a b bs → IsAtEnd b → length bs ≤ INPUT_LIMIT →
    IfSome a (λ bytes. bs ≡ taken INPUT_LIMIT bytes)
unfolding taken
read_to_end None b bs p e short = tt
read_to_end (Some x) None bs p e short = absurd p
read_to_end (Some x) (Some y) bs p e short =
    let whole : x ≡ bs = p ∙ ap (λ l. bs ++ l) e ∙ append-nil bs in
    sym (ap (take INPUT_LIMIT) whole ∙ take_all INPUT_LIMIT bs short)

pub read_to_limit : (a b : Option (List ℕ)) (bs : List ℕ) → Consumes a b bs → length bs ≡ INPUT_LIMIT →
    IfSome a (λ bytes. bs ≡ taken INPUT_LIMIT bytes)
unfolding taken
read_to_limit None b bs p full = tt
read_to_limit (Some x) None bs p full = absurd p
read_to_limit (Some x) (Some y) bs p full =
    sym (ap (λ n. take n x) (sym full) ∙ ap (take (length bs)) p ∙ take-append_seam bs y)

-- bytes that were read, and then more
pub read_more : (gf g g_after lf l l_after : Option (List ℕ)) (before after read : List ℕ)
    → TookFrom gf g lf l before → TookFrom g g_after l l_after read → after ≡ before ++ read
    → TookFrom gf g_after lf l_after after
read_more gf g g_after lf l l_after before after read first next is =
    subst (TookFrom gf g_after lf l_after) (sym is) (TookFrom-both gf g g_after lf l l_after before read first next)

-- an error holds no input
pub none_read : {T E : Type 0} (r : Result T E) (P : T → Type 0) → IsErr r → IfOk r P
none_read (Ok input) P is = absurd (false≢true is)
none_read (Err e) P is = tt

-- what the whole input is, whatever came of it
pub read_whole : {g g_after l l_after : Option (List ℕ)} (result : Status) (input : List ℕ)
    → ((read : List ℕ) × TookFrom g g_after l l_after read × (length read ≤ INPUT_LIMIT) × (input ≡ read))
    → IfSome l (λ bytes. input ≡ taken INPUT_LIMIT bytes)
    → (read : List ℕ) × TookFrom g g_after l l_after read × ReadsWhole l result read
read_whole {l} result input took all = (
  took.0,
  took.1,
  record {
    within = took.2;
    all = λ _ _. subst (λ t. IfSome l (λ bytes. t ≡ taken INPUT_LIMIT bytes)) took.3 all;
  },
)

-- what was read of it before a read failed or memory was wanting
pub read_cut : {g g_after l l_after : Option (List ℕ)} (result : Status)
    → (result ≡ status.ReadFault) ⊎ (result ≡ status.NoMemory)
    → ((read : List ℕ) × TookFrom g g_after l l_after read × (length read ≤ INPUT_LIMIT) × Unit {0})
    → (read : List ℕ) × TookFrom g g_after l l_after read × ReadsWhole l result read
read_cut result cut took = (
  took.0,
  took.1,
  record {
    within = took.2;
    all = λ read memory. absurd (elim cut [ inl e ↦ read e | inr e ↦ memory e ]);
  },
)
