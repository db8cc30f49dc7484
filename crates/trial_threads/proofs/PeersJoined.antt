-- A peer that joins is the last that joined, and stays so for its reader
use Rattle.std.proofs.Common.{◌≡◌, ℕ, zero, suc, ◌+◌, List, [], ◌∷◌, ◌++◌, length, Option, Some, None, Ok, refl, ap, ◌∙◌, arith, length-append}
use Rattle.std.specs.List.{slice_get}
use Rattle.relay_model.specs.declared.role.Role.{Role}
use Rattle.broker_steps.specs.declared.limits.Limits.{Limits}
use Rattle.broker_model.specs.declared.journal.Entry.{Entry}
use Rattle.broker_model.specs.declared.journal.Entry.TheVariants as entries
use Rattle.broker_model.specs.Ids.{Joined, peer_in, peer_at}
use Rattle.broker_model.specs.Resolve.{past_of}
use Rattle.broker_model.specs.Settle.{due, cause_of, with_end, settled, settle, number_alive, history}
use Rattle.hub_lock.specs.Histories.{History, entries_of, joining}
use Rattle.hub_lock.specs.Passes.{PassSeat}
use Rattle.hub_lock.specs.Calls.{LegalJoin}
use Rattle.hub_calls.specs.Made.{journal_of, SawMore}
use Rattle.hub_calls.proofs.OthersTakeNothing.{entries-append}
use Rattle.hub_calls.proofs.FrontsGrow.{history_keeps}

-- nobody joins by the ends that follow

ended_same : (capacity fuel : ℕ) (journal : List Entry) (o : Option ℕ)
    → ((later : List Entry) → (past_of (settled capacity fuel later)).joined ≡ (past_of later).joined)
    → (past_of (settled capacity fuel (with_end journal o))).joined ≡ (past_of journal).joined
ended_same capacity fuel journal None k = k journal
ended_same capacity fuel journal (Some q) k = k (entries.End q (cause_of journal q) ∷ journal)

settled_same : (capacity fuel : ℕ) (journal : List Entry) →
    (past_of (settled capacity fuel journal)).joined ≡ (past_of journal).joined
settled_same capacity zero journal = refl
settled_same capacity (suc fuel) journal =
    ended_same capacity fuel journal (due capacity journal) (settled_same capacity fuel)

at_end : (xs : List Joined) (x : Joined) → slice_get (xs ++ x ∷ []) (length xs) ≡ Some x
at_end [] x = refl
at_end (y ∷ ys) x = at_end ys x

-- it joined in this role

pub record IsThere (limits : Limits) (h : History) (q : ℕ) (role : Role) : Type 0 where
  pub peer : Joined
  pub there : peer_at (past_of (journal_of limits h)) q ≡ Some peer
  pub in_role : peer.role ≡ role

pub joined_there : (limits : Limits) (root : PassSeat) (seen : History) (role : Role) (q : ℕ) →
    LegalJoin limits root seen role (Ok q) → IsThere limits seen q role
joined_there limits root seen role q k =
    let turn : History = root.seen ++ k.rest in
    let J : List Entry = journal_of limits turn in
    let joins : Entry = entries.Join role in
    let step : ℕ × _ = (0, joining joins root.next) in
    let old : List Joined = (past_of J).joined in
    let new : Joined = record { label = length J + 1; role = role } in
    let journal : journal_of limits seen ≡ settle limits.store (joins ∷ J) =
    ap (journal_of limits) k.answer.joined ∙ ap (history limits.store) (entries-append turn (step ∷ [])) in
    let joined : (past_of (journal_of limits seen)).joined ≡ old ++ new ∷ [] =
    ap (λ (j : List Entry). (past_of j).joined) journal
    ∙ settled_same limits.store (number_alive (joins ∷ J)) (joins ∷ J) in
    let number : q ≡ length (old ++ new ∷ []) = k.answer.number ∙ ap length joined in
    let more = length-append old (new ∷ []) in
    let last : q ≡ suc (length old) = omega (arith, number, more) in record {
      peer = new;
      there = ap (λ (l : List Joined). peer_in l q) joined ∙ ap (peer_in (old ++ new ∷ [])) last ∙ at_end old new;
      in_role = refl;
    }

pub stays_there : (limits : Limits) (seen after : History) (q : ℕ) (role : Role) → SawMore limits seen after →
    IsThere limits seen q role → IsThere limits after q role
stays_there limits seen after q role saw is =
    let journal : journal_of limits after ≡ history limits.store (entries_of saw.more ++ entries_of seen) =
    ap (journal_of limits) saw.grew ∙ ap (history limits.store) (entries-append seen saw.more) in record {
      peer = is.peer;
      there = ap (λ (j : List Entry). peer_at (past_of j) q) journal
          ∙ history_keeps limits.store (entries_of saw.more) (entries_of seen) q is.peer is.there;
      in_role = is.in_role;
    }
