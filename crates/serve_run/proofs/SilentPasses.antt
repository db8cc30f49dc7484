-- A peer whose reader's pass made no step hasn't ended.
use Rattle.std.proofs.Common.{◌≡◌, ℕ, List, [], ◌∷◌, map, reverse, Some, None, sym, ap, subst, ◌∙◌}
use Rattle.std.specs.List.{AllByRecursion}
use Rattle.std.proofs.lemmas.List.{reverse-append}
use Rattle.std.proofs.lemmas.Option.{same_Some}
use Rattle.relay_model.specs.declared.act.EndCause.TheVariants.{Bad, Full, Gone}
use Rattle.broker_steps.specs.declared.limits.Limits.{Limits}
use Rattle.broker_model.specs.declared.journal.Entry.{Entry}
use Rattle.broker_model.specs.declared.journal.Entry.TheVariants as entries
use Rattle.broker_model.proofs.EachElement.{each_append, each_map}
use Rattle.broker_core.specs.Stands.{end_of}
use Rattle.turn_lock.specs.Pairs.{NoneOf}
use Rattle.turn_lock.proofs.PairsOfNumbers.{own-here, none-front, none-back}
use Rattle.hub_lock.specs.declared.step.OuterStep.{OuterStep}
use Rattle.hub_lock.specs.Histories.{History, entries_of, reader_of}
use Rattle.hub_lock.specs.Lawful.{IsLawful, IsMadeBy, AreMadeBy}
use Rattle.peer_link.specs.Made.{journal_of}
use Rattle.serve_run.proofs.SilentPeersStay.{IsSilent, AreSilent, never_ended}

-- another's step says nothing of the peer q
other_reader : (h : History) (n m q k : ℕ) → (m ≡ n → ⊥) → reader_of h q ≡ Some n → reader_of h k ≡ Some m → k ≡ q → ⊥
other_reader h n m q k far reads made same =
    far (same_Some m n (sym made ∙ ap (reader_of h) same ∙ reads))

silent_entry : (h : History) (n m q : ℕ) (e : Entry) → (m ≡ n → ⊥) → reader_of h q ≡ Some n → IsMadeBy h m e →
    IsSilent q e
silent_entry h n m q (entries.Message k id opcode body) far reads made = other_reader h n m q k far reads made
silent_entry h n m q (entries.BadSize k head) far reads made = other_reader h n m q k far reads made
silent_entry h n m q (entries.End k Gone) far reads made = other_reader h n m q k far reads made
silent_entry h n m q (entries.End k Bad) far reads made = absurd made
silent_entry h n m q (entries.End k Full) far reads made = absurd made
silent_entry h n m q (entries.Join role) far reads made = tt
silent_entry h n m q (entries.Tokens k tokens) far reads made = tt
silent_entry h n m q (entries.Shell step) far reads made = tt
silent_entry h n m q (entries.Took k bytes) far reads made = tt

silent_steps : (all h : History) (n q : ℕ) → reader_of all q ≡ Some n → NoneOf n h → AreMadeBy all h →
    AllByRecursion (λ (s : ℕ × OuterStep). IsSilent q s.1.entry) h
silent_steps all [] n q reads none made = tt
silent_steps all (s ∷ rest) n q reads none made = (
  silent_entry all n s.0 q s.1.entry far reads made.0,
  silent_steps all rest n q reads (none-back n (s ∷ []) rest none) made.1,
)
  where
    far : s.0 ≡ n → ⊥
    far same =
        let here : s.1 ∷ [] ≡ [] = sym (own-here n s [] same) ∙ none-front n (s ∷ []) rest none in absurd (cc)

each_reversed : {A : Type 0} (P : A → Type 0) (xs : List A) → AllByRecursion P xs → AllByRecursion P (reverse xs)
each_reversed P [] h = tt
each_reversed P (x ∷ xs) h =
    subst (AllByRecursion P) (sym (reverse-append (x ∷ []) xs))
    (each_append P (reverse xs) (x ∷ []) (each_reversed P xs h.1) (h.0, tt))

silent_history : (h : History) (n q : ℕ) → reader_of h q ≡ Some n → NoneOf n h → AreMadeBy h h →
    AreSilent q (entries_of h)
silent_history h n q reads none made =
    each_reversed (IsSilent q) (map (λ (s : ℕ × OuterStep). s.1.entry) h)
    (each_map (IsSilent q) (λ (s : ℕ × OuterStep). s.1.entry) h (silent_steps h h n q reads none made))

-- whatever others did
pub not_ended : (limits : Limits) (h : History) (n q : ℕ) → IsLawful limits h → NoneOf n h → reader_of h q ≡ Some n
    → end_of (journal_of limits h) q ≡ None
not_ended limits h n q lawful none reads =
    never_ended limits.store (entries_of h) q (silent_history h n q reads none lawful.made_by)
