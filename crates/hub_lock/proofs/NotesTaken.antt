-- What the calls of the value behind the lock note of who records
use Rattle.std.proofs.Common.{◌≡◌, ℕ, ◌+◌, ◌<◌, ◌≤◌, length, max, min, Option, Some, None, IfNone, refl, ap, sym, ◌∙◌, arith}
use Rattle.std.specs.Prelude.{option_map, IsSome, ◌↔◌, if◌then◌else◌}
use Rattle.std.proofs.lemmas.Bool.{eq-eqb}
use Rattle.broker_core.specs.Broker.{Broker, letting_go}
use Rattle.broker_core.specs.declared.letting_go.LetGo.{LetGo}
use Rattle.hub_lock.specs.declared.call.Answer.{Answer}
use Rattle.hub_lock.specs.declared.call.Answer.TheVariants as answers
use Rattle.hub_lock.specs.Events.{Tally, tally_after, notes_in, count_of}
use Rattle.hub_lock.specs.Lawful.{Held}
use Rattle.hub_lock.specs.Noted.{IsNoted, note_of, tally_in}
use Rattle.hub_lock.proofs.TalliesStay.{handed-one}

abbrev pub tally-with : Option ℕ → ℕ → Tally
tally-with recorder kept = option_map (λ n. (n, kept)) recorder

-- nothing is noted, and nothing changes
pub noted-none : (n : ℕ) (a : Answer) (t t' : Tally) → note_of a ≡ None → t' ≡ t → IsNoted n a t t'
noted-none n a t t' none same = record {
  tally = same ∙ ap (λ o. tally_after n o t) (sym none);
  count = let k = ap notes_in same in let c : count_of (note_of a) ≡ 0 = ap count_of none in omega arith;
}

-- so it is where who records and how many entries went are the same
pub noted-same : (n : ℕ) (a : Answer) (h h' : Held) → note_of a ≡ None → h'.broker.kept_from ≡ h.broker.kept_from
    → h'.recorder ≡ h.recorder → IsNoted n a (tally_in h) (tally_in h')
noted-same n a h h' none kept recorder =
    noted-none n a (tally_in h) (tally_in h') none
    (ap (λ r. tally-with r h'.broker.kept_from) recorder ∙ ap (tally-with h.recorder) kept)

-- the root named who records
pub noted-named : (m kept : ℕ) (r : ℕ) → m ≡ 0 → kept ≡ 0
    → IsNoted m (answers.Named (Some r)) None (Some (r, kept))
noted-named m kept r zero none = record {
  tally = ap (λ k. Some (r, k)) none
      ∙ sym (ap (λ b. if b then Some (r, 0) else None) (eq-eqb m 0 zero));
  count = omega arith;
}

-- how many went

one-gone : (k len : ℕ) → k < len → max k (min (k + 1) len) ≡ k + 1
one-gone k len less = grind (arith, less)

none-gone : (k len : ℕ) → len ≤ k → max k (min (k + 1) len) ≡ k
none-gone k len few = grind (arith, few)

-- an entry was handed out, or there was none
pub noted-handed : (n : ℕ) (b b' : Broker) (r : Option LetGo) → b' ≡ letting_go (b.kept_from + 1) b
    → (IsSome r ↔ (b.kept_from < length b.journal))
    → IsNoted n (answers.HandedOut r) (Some (n, b.kept_from)) (Some (n, b'.kept_from))
noted-handed n b b' None gone some =
    let few : length b.journal ≤ b.kept_from =
    not-less b.kept_from (length b.journal) (λ less. some-none (some.1 less)) in
    let same : b'.kept_from ≡ b.kept_from =
    ap (λ (x : Broker). x.kept_from) gone ∙ none-gone b.kept_from (length b.journal) few in
    noted-none n (answers.HandedOut None) (Some (n, b.kept_from)) (Some (n, b'.kept_from)) refl
    (ap (λ k. Some (n, k)) same)
  where
    some-none : IsSome {T = LetGo} None → ⊥
    some-none e = cc

    not-less : (a c : ℕ) → (a < c → ⊥) → c ≤ a
    not-less a c f = omega arith
noted-handed n b b' (Some it) gone some =
    let more : b'.kept_from ≡ b.kept_from + 1 =
    ap (λ (x : Broker). x.kept_from) gone ∙ one-gone b.kept_from (length b.journal) (some.0 refl) in record {
      tally = ap (λ k. Some (n, k)) more ∙ sym (handed-one n b.kept_from);
      count = omega arith;
    }

-- there are no more
pub none-left : (b : Broker) (r : Option LetGo) → (IsSome r ↔ (b.kept_from < length b.journal))
    → IfNone r (length b.journal ≤ b.kept_from)
none-left b None some = not-less b.kept_from (length b.journal) (λ less. some-none (some.1 less)) where
  some-none : IsSome {T = LetGo} None → ⊥
  some-none e = cc

  not-less : (a c : ℕ) → (a < c → ⊥) → c ≤ a
  not-less a c f = omega arith
none-left b (Some it) some = tt
