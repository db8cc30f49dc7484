-- A line of a transcript has no zero byte.
use Rattle.std.proofs.Common.{◌≡◌, ℕ, ◌^◌, ◌<◌, true, List, [], ◌∷◌, refl}
use Rattle.std.specs.Prelude.{codes}
use Rattle.std.specs.List.{join_with_byte}
use Rattle.std.specs.Fmt.{decimal}
use Rattle.std.proofs.lemmas.List.Folds.{list_all-append}
use lib.IntN.{ℤ}
use mir.Syntax.{w64}
use mir.Val.{SFits}
use Rattle.relay_model.specs.declared.act.EndCause.{EndCause}
use Rattle.relay_model.specs.declared.act.EndCause.TheVariants.{Gone, Bad, Full}
use Rattle.wl_wire.specs.Texts.{has_no_zero, IsBytes}
use Rattle.relay_model.specs.Keys.{Mods}
use Rattle.session_text.specs.Words.{hex_word}
use Rattle.lines_transcript.specs.Transcript.{cause_word, ended_line, took_line, token_word, placed_line, pass_line, vmods_line}
use Rattle.session_text.proofs.LinesSplit.{lacks, zero, decimal_lacks, hex_lacks, join_lacks}
use Rattle.lines_transcript.proofs.PrintedLines.{number_clean, signed_clean}

cause_clean : (cause : EndCause) → lacks 0 (cause_word cause) ≡ true
cause_clean Gone = refl
cause_clean Bad = refl
cause_clean Full = refl

pub ended_clean : (n p : ℕ) (cause : EndCause) → n < 2 ^ 32 → p < 2 ^ 32 → has_no_zero (ended_line n p cause) ≡ true
ended_clean n p cause n-lt p-lt =
    join_lacks 0 (decimal n ∷ codes "ended" ∷ decimal p ∷ cause_word cause ∷ []) refl
    (number_clean n n-lt, (refl, (number_clean p p-lt, (cause_clean cause, tt))))

pub took_clean : (n p count : ℕ) → n < 2 ^ 32 → p < 2 ^ 32 → count < 2 ^ 32 → has_no_zero (took_line n p count) ≡ true
took_clean n p count n-lt p-lt count-lt =
    join_lacks 0 (decimal n ∷ codes "took" ∷ decimal p ∷ decimal count ∷ []) refl
    (number_clean n n-lt, (refl, (number_clean p p-lt, (number_clean count count-lt, tt))))

pub token_clean : (offset token : ℕ) → offset < 2 ^ 64 → token < 2 ^ 32 →
    has_no_zero (token_word (offset, token)) ≡ true
token_clean offset token offset-lt token-lt =
    rw (list_all-append, decimal_lacks 0 zero offset offset-lt, number_clean token token-lt) refl

pub group_clean : (n p : ℕ) (group : List ℕ) → n < 2 ^ 32 → p < 2 ^ 32 → IsBytes group
    → has_no_zero (join_with_byte 32 (decimal n ∷ codes "out" ∷ decimal p ∷ hex_word group ∷ [])) ≡ true
group_clean n p group n-lt p-lt bytes =
    join_lacks 0 (decimal n ∷ codes "out" ∷ decimal p ∷ hex_word group ∷ []) refl
    (number_clean n n-lt, (refl, (number_clean p p-lt, (hex_lacks 0 zero group bytes, tt))))

pub placed_clean : (n p i : ℕ) (x y : ℤ) → n < 2 ^ 32 → p < 2 ^ 32 → i < 2 ^ 32 → SFits w64 x → SFits w64 y →
    has_no_zero (placed_line n p i x y) ≡ true
placed_clean n p i x y n-lt p-lt i-lt x-fits y-fits =
    join_lacks 0 (decimal n ∷ codes "placed" ∷ decimal p ∷ decimal i ∷ _ ∷ _ ∷ []) refl (
      number_clean n n-lt,
      (refl, (number_clean p p-lt, (number_clean i i-lt, (signed_clean x x-fits, (signed_clean y y-fits, tt))))),
    )

pub pass_clean : (n time key state : ℕ) → n < 2 ^ 32 → time < 2 ^ 32 → key < 2 ^ 32 → state < 2 ^ 32 →
    has_no_zero (pass_line n time key state) ≡ true
pass_clean n time key state n-lt time-lt key-lt state-lt =
    join_lacks 0 (decimal n ∷ codes "pass" ∷ decimal time ∷ decimal key ∷ decimal state ∷ []) refl (
      number_clean n n-lt,
      (refl, (number_clean time time-lt, (number_clean key key-lt, (number_clean state state-lt, tt)))),
    )

pub vmods_clean : (n : ℕ) (mods : Mods) → n < 2 ^ 32 → mods.depressed < 2 ^ 32 → mods.latched < 2 ^ 32 →
    mods.locked < 2 ^ 32 → mods.group < 2 ^ 32 →
    has_no_zero (vmods_line n mods) ≡ true
vmods_clean n mods n-lt d-lt l-lt k-lt g-lt =
    join_lacks 0 (decimal n ∷ codes "vmods" ∷ decimal mods.depressed ∷ decimal mods.latched ∷ decimal mods.locked ∷
    decimal mods.group ∷ []) refl (
      number_clean n n-lt,
      (
        refl,
        (
          number_clean mods.depressed d-lt,
          (number_clean mods.latched l-lt, (number_clean mods.locked k-lt, (number_clean mods.group g-lt, tt))),
        ),
      ),
    )
