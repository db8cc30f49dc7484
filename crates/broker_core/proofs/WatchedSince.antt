-- What is watched since an entry of a journal, and over two calls.
use Rattle.std.proofs.Common.{◌≡◌, ℕ, zero, suc, ◌≤◌, List, [], ◌∷◌, ◌++◌, length, Bool, false, Option, Some, None, ap, refl, sym, subst, ◌∙◌, append_assoc, length-append, arith}
use Rattle.std.specs.Prelude.{if◌then◌else◌, nat_le}
use Rattle.std.proofs.lemmas.Bool.{le-leb, lt-leb}
use Rattle.std.proofs.lemmas.List.{append-nil}
use Rattle.relay_objects.specs.Reached.{Reached}
use Rattle.relay_objects.proofs.TellsAppend.{reached_append}
use Rattle.broker_model.specs.declared.journal.Entry.{Entry}
use Rattle.broker_model.specs.declared.journal.Entry.TheVariants as entries
use Rattle.broker_model.specs.Settle.{due, cause_of, with_end, settled}
use Rattle.broker_core.specs.Watched.{Watched, watched, watched_since}

-- nothing is, since the whole journal
pub since_none : (capacity : ℕ) (journal : List Entry) → watched_since capacity (length journal) journal ≡ []
since_none capacity [] = refl
since_none capacity (e ∷ older) =
    let past : nat_le (suc (length older)) (length older) ≡ false =
    lt-leb (suc (length older)) (length older) (omega arith) in
    ap (λ (b : Bool). (if b then watched_since capacity (suc (length older)) older ++ watched capacity e older else []))
    past

-- one entry more
pub since_more : (capacity k : ℕ) (e : Entry) (older : List Entry) → k ≤ length older →
    watched_since capacity k (e ∷ older) ≡ watched_since capacity k older ++ watched capacity e older
since_more capacity k e older h =
    ap (λ (b : Bool). (if b then watched_since capacity k older ++ watched capacity e older else []))
    (le-leb k (length older) h)

pub reached_more : {W : Type 0} (R : W → Watched → W → Type 0) (capacity k : ℕ) (e : Entry) (older : List Entry)
    (from mid after : W) →
    k ≤ length older → Reached R from (watched_since capacity k older) mid →
    Reached R mid (watched capacity e older) after →
    Reached R from (watched_since capacity k (e ∷ older)) after
reached_more R capacity k e older from mid after h a b =
    subst (λ (events : List Watched). Reached R from events after) (sym (since_more capacity k e older h))
    (reached_append R (watched_since capacity k older) (watched capacity e older) from mid after a b)

-- what is watched over two calls is what is watched in each
pub since_append : (capacity k : ℕ) (more journal : List Entry) → k ≤ length journal →
    watched_since capacity k (more ++ journal)
    ≡ watched_since capacity k journal ++ watched_since capacity (length journal) (more ++ journal)
since_append capacity k [] journal h =
    sym (append-nil (watched_since capacity k journal))
    ∙ ap (λ (events : List Watched). watched_since capacity k journal ++ events) (sym (since_none capacity journal))
since_append capacity k (e ∷ more) journal h =
    let long = length-append more journal in
    let before = watched_since capacity k journal in
    let here = watched capacity e (more ++ journal) in
    since_more capacity k e (more ++ journal) (omega arith)
    ∙ ap (λ (events : List Watched). events ++ here) (since_append capacity k more journal h)
    ∙ append_assoc before (watched_since capacity (length journal) (more ++ journal)) here
    ∙ ap (λ (events : List Watched). before ++ events)
    (sym (since_more capacity (length journal) e (more ++ journal) (omega arith)))

-- what is settled is the journal with more entries
pub record IsMore (journal after : List Entry) : Type 0 where
  pub more : List Entry
  pub is : after ≡ more ++ journal

more_with_end : (capacity fuel : ℕ) (journal : List Entry) (first : Option ℕ) →
    ((later : List Entry) → IsMore later (settled capacity fuel later)) →
    IsMore journal (settled capacity fuel (with_end journal first))
more_with_end capacity fuel journal None settles = settles journal
more_with_end capacity fuel journal (Some q) settles =
    let end : Entry = entries.End q (cause_of journal q) in
    let later = settles (end ∷ journal) in
    record { more = later.more ++ end ∷ []; is = later.is ∙ sym (append_assoc later.more (end ∷ []) journal) }

pub settled_more : (capacity fuel : ℕ) (journal : List Entry) → IsMore journal (settled capacity fuel journal)
settled_more capacity zero journal = record { more = []; is = refl }
settled_more capacity (suc fuel) journal =
    more_with_end capacity fuel journal (due capacity journal) (settled_more capacity fuel)
