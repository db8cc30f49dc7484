-- A peer that has its end has it in whatever follows
use Rattle.std.proofs.Common.{◌≡◌, ℕ, Bool, true, false, List, [], ◌∷◌, ◌++◌, map, reverse, Some, refl, sym, ap, ◌∙◌, subst}
use Rattle.std.specs.Prelude.{if◌then◌else◌, ◌==◌}
use Rattle.std.proofs.lemmas.Bool.{eq-eqb}
use Rattle.std.proofs.lemmas.List.{map-append, reverse-append}
use Rattle.relay_model.specs.declared.act.EndCause.{EndCause}
use Rattle.broker_steps.specs.declared.limits.Limits.{Limits}
use Rattle.broker_model.specs.declared.journal.Entry.{Entry}
use Rattle.broker_model.specs.declared.journal.Entry.TheVariants as entries
use Rattle.broker_model.specs.Settle.{settle, number_alive, history}
use Rattle.broker_core.specs.Stands.{end_of}
use Rattle.broker_core.proofs.WatchedSince.{settled_more}
use Rattle.turn_lock.specs.Pairs.{HasSeen}
use Rattle.hub_lock.specs.declared.step.OuterStep.{OuterStep}
use Rattle.hub_lock.specs.Histories.{History, only, entries_of}
use Rattle.hub_lock.proofs.HistoriesGrow.{entries-more}
use Rattle.peer_link.specs.Made.{journal_of}
use Rattle.serve_run.specs.Unserved.{HasEnd}

end_more : (e : Entry) (older : List Entry) (q : ℕ) → HasEnd older q → HasEnd (e ∷ older) q
end_more (entries.End n cause) older q h = by (n == q)
  where
    by : (b : Bool) → (c : EndCause) × ((if b then Some cause else end_of older q) ≡ Some c)
    by true = (cause, refl)
    by false = h
end_more (entries.Join role) older q h = h
end_more (entries.Message k id opcode body) older q h = h
end_more (entries.Tokens k tokens) older q h = h
end_more (entries.BadSize k head) older q h = h
end_more (entries.Shell step) older q h = h
end_more (entries.Took k n) older q h = h

end_behind : (more older : List Entry) (q : ℕ) → HasEnd older q → HasEnd (more ++ older) q
end_behind [] older q h = h
end_behind (e ∷ more) older q h = end_more e (more ++ older) q (end_behind more older q h)

end_settled : (capacity : ℕ) (journal : List Entry) (q : ℕ) → HasEnd journal q → HasEnd (settle capacity journal) q
end_settled capacity journal q h =
    let m = settled_more capacity (number_alive journal) journal in
    subst (λ (j : List Entry). HasEnd j q) (sym m.is) (end_behind m.more journal q h)

end_later : (capacity : ℕ) (es base : List Entry) (q : ℕ) → HasEnd (history capacity base) q
    → HasEnd (history capacity (es ++ base)) q
end_later capacity [] base q h = h
end_later capacity (e ∷ es) base q h =
    let older : List Entry = history capacity (es ++ base) in
    end_settled capacity (e ∷ older) q (end_more e older q (end_later capacity es base q h))

entries-both : (a b : History) → entries_of (a ++ b) ≡ entries_of b ++ entries_of a
entries-both a b =
    ap reverse (map-append (λ (s : ℕ × OuterStep). s.1.entry) a b)
    ∙ reverse-append (map (λ (s : ℕ × OuterStep). s.1.entry) a) (map (λ (s : ℕ × OuterStep). s.1.entry) b)

-- what was seen of the end is so in the whole history
pub end-seen : (limits : Limits) (h seen : History) (n q : ℕ) → HasSeen h n seen → HasEnd (journal_of limits seen) q
    → HasEnd (journal_of limits h) q
end-seen limits h seen n q grows is =
    subst (λ (g : History). HasEnd (journal_of limits g) q) (sym grows.1)
    (subst (λ (es : List Entry). HasEnd (history limits.store es) q) (sym (entries-both seen grows.0))
    (end_later limits.store (entries_of grows.0) (entries_of seen) q is))

-- a step that is the end of a peer is its end
pub end-here : (limits : Limits) (h : History) (n q : ℕ) (cause : EndCause)
    → HasEnd (journal_of limits (h ++ (n, only (entries.End q cause)) ∷ [])) q
end-here limits h n q cause =
    let e : Entry = entries.End q cause in
    let older : List Entry = journal_of limits h in
    subst (λ (es : List Entry). HasEnd (history limits.store es) q) (sym (entries-more h n (only e)))
    (end_settled limits.store (e ∷ older) q
    (cause, ap (λ (b : Bool). (if b then Some cause else end_of older q)) (eq-eqb q q refl)))
