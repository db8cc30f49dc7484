-- A piece that is taken in two parts, and what is held afterwards.
use Rattle.std.proofs.Common.{◌≡◌, ℕ, zero, suc, zero-add, [], ◌∷◌, ◌+◌, ◌<◌, ◌≤◌, List, ◌++◌, length, take, drop, arith, refl, sym, ap, subst, ◌∙◌, append_assoc, inl, inr}
use Rattle.std.proofs.lemmas.List.{take-append-drop, take_at, length-drop, append-nil}
use Rattle.std.proofs.lemmas.Bool.{cases_lt}
use Rattle.wl_wire.specs.Messages.{size_of, IsMessage, IsPartial, IsBad}
use Rattle.wl_wire.specs.declared.assembler.Fed.{Fed}
use Rattle.wl_wire.specs.declared.assembler.Fed.TheVariants as fed
use Rattle.wl_wire.specs.declared.assembler.Phase.{Phase}
use Rattle.wl_wire.specs.declared.assembler.Phase.TheVariants as phase
use Rattle.wl_wire.specs.Gathering.{Gathers, told_behind, phase_of}
use Rattle.wl_wire.specs.Streams.{Assembly, Begun, Whole, Bad, assembly, begun, bytes_of, HasMessage, HasBadSize, HasTold, Feeds}

regroup : (old piece mid : List ℕ) (used : ℕ) → mid ≡ old ++ take used piece → mid ++ drop used piece ≡ old ++ piece
regroup old piece mid used is =
    ap (λ (m : List ℕ). m ++ drop used piece) is ∙ append_assoc old (take used piece) (drop used piece)
    ∙ ap (λ (r : List ℕ). old ++ r) (take-append-drop used piece)

pub head_is : (old piece mid : List ℕ) (used : ℕ) → mid ≡ old ++ take used piece → length mid ≡ 8 →
    mid ≡ take 8 (old ++ piece)
head_is old piece mid used is len =
    sym (take_at mid (drop used piece) 8 len) ∙ ap (λ (l : List ℕ). take 8 l) (regroup old piece mid used is)

two_takes : (m n : ℕ) (xs : List ℕ) → take m xs ++ take n (drop m xs) ≡ take (m + n) xs
two_takes zero n xs = rw zero-add refl
two_takes (suc m) n [] = let e : suc m + n ≡ suc (m + n) = omega arith in let nothing : List ℕ =
    [] in rw e (elim n as (λ k. take k nothing ≡ nothing) [ zero ↦ refl | suc k ↦ refl ])
two_takes (suc m) n (x ∷ xs) = let e : suc m + n ≡ suc (m + n) =
    omega arith in rw e (ap (λ (l : List ℕ). x ∷ l) (two_takes m n xs))

-- the header first, and then the body
pub gathered : (old piece mid rest new : List ℕ) (used : ℕ) (f : Fed) → mid ≡ old ++ take used piece →
    used ≤ length piece → rest ≡ drop used piece → Gathers mid rest f new → Gathers old piece (told_behind used f) new
gathered old piece mid rest new used f is le rest-is h =
    behind f (subst (λ (r : List ℕ). Gathers mid r f new) rest-is h)
  where
    behind : (f : Fed) → Gathers mid (drop used piece) f new → Gathers old piece (told_behind used f) new
    behind (fed.Whole more) h = (
      omega (arith, h.0, length-drop used piece),
      h.1 ∙ ap (λ (m : List ℕ). m ++ take more (drop used piece)) is
          ∙ append_assoc old (take used piece) (take more (drop used piece))
          ∙ ap (λ (r : List ℕ). old ++ r) (two_takes used more piece),
      h.2,
    )
    behind fed.Need h = (h.0 ∙ regroup old piece mid used is, h.1)
    behind (fed.BadSize n) h = (h.0, h.1 ∙ ap (λ (l : List ℕ). take 8 l) (regroup old piece mid used is), h.2)

-- a message that was not whole needs a byte more at least
some_taken : (old piece new : List ℕ) (used : ℕ) → IsPartial old → new ≡ old ++ take used piece → IsMessage new →
    0 < used
some_taken old piece new used partial is message =
    elim (cases_lt 0 used) [
      | inl lt ↦ lt
      | inr le ↦
          let none : used ≡ 0 = omega arith in
          let same : new ≡ old = is ∙ ap (λ (n : ℕ). old ++ take n piece) none ∙ append-nil old in
          let whole : IsMessage old = subst IsMessage same message in
          let more = partial (omega (arith, whole.0.0, whole.1)) in
          absurd (omega (arith, more.1, whole.1))
    ]

-- what was gathered is what a feed does
pub fed_from : (old : Assembly) (start piece : List ℕ) (f : Fed) (held : List ℕ) → begun old ≡ start → IsPartial start →
    Gathers start piece f held → Feeds old piece f (assembly (phase_of f) held)
fed_from old start piece (fed.Whole used) held from partial g =
    let put : held ≡ begun old ++ take used piece = g.1 ∙ ap (λ (s : List ℕ). s ++ take used piece) (sym from) in
    (some_taken start piece held used partial g.1 g.2, g.0, subst IsMessage put g.2, ap (λ (m : List ℕ). Whole m) put)
fed_from old start piece fed.Need held from partial g =
    let put : held ≡ begun old ++ piece = g.0 ∙ ap (λ (s : List ℕ). s ++ piece) (sym from) in
    (subst (λ (b : List ℕ). IsPartial b) put g.1, ap (λ (b : List ℕ). Begun b) put)
fed_from old start piece (fed.BadSize n) held from partial g =
    let put : held ≡ take 8 (begun old ++ piece) = g.1 ∙ ap (λ (s : List ℕ). take 8 (s ++ piece)) (sym from) in
    (subst (λ (b : List ℕ). IsBad b) put g.2, g.0 ∙ ap size_of put, ap (λ (b : List ℕ). Bad b) put)

-- a bad size stays
pub fed_bad : (header piece : List ℕ) (n : ℕ) → IsBad header → length header ≡ 8 → n ≡ size_of header →
    Feeds (Bad header) piece (fed.BadSize n) (Bad header)
fed_bad header piece n bad len is =
    let same : take 8 (header ++ piece) ≡ header = take_at header piece 8 len in
    rw same (bad, is, refl)

pub bytes_of-assembly : (p : Phase) (held : List ℕ) → bytes_of (assembly p held) ≡ held
bytes_of-assembly phase.Open held = refl
bytes_of-assembly phase.Whole held = refl
bytes_of-assembly phase.Bad held = refl

pub message_held : (p : Phase) (held : List ℕ) → HasMessage (assembly p held) → IsMessage held
message_held phase.Open held h = absurd h
message_held phase.Whole held h = h
message_held phase.Bad held h = absurd h

pub bad_held : (p : Phase) (held : List ℕ) → HasBadSize (assembly p held) → p ≡ phase.Bad
bad_held phase.Open held h = absurd h
bad_held phase.Whole held h = absurd h
bad_held phase.Bad held h = refl

-- what was told is there
pub told_is_there : (old : Assembly) (piece : List ℕ) (f : Fed) (new : Assembly) → Feeds old piece f new → HasTold f new
told_is_there old piece (fed.Whole used) new h = subst (λ (a : Assembly). HasMessage a) (sym h.3) h.2
told_is_there old piece fed.Need new h = tt
told_is_there old piece (fed.BadSize n) new h = subst (λ (a : Assembly). HasBadSize a) (sym h.2) h.0
