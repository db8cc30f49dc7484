-- What the ends that follow from a step leave as it was, and how many are alive after an entry.
use Rattle.std.proofs.Common.{◌≡◌, ℕ, zero, suc, ◌+◌, ◌<◌, ◌≤◌, List, [], ◌∷◌, length, Bool, true, cond, Option, Some, None, ap, refl, sym, ◌∙◌, arith, length-append}
use Rattle.std.specs.Prelude.{not, ◌==◌}
use Rattle.std.proofs.lemmas.List.Sums.{sum_by-cons, length-filter, count_by-le-length}
use Rattle.relay_model.specs.declared.act.EndCause.{EndCause}
use Rattle.relay_model.specs.declared.role.Role.{Role}
use Rattle.relay_model.specs.Objects.{is_peer}
use Rattle.broker_model.specs.declared.journal.Entry.{Entry}
use Rattle.broker_model.specs.declared.journal.Entry.TheVariants as entries
use Rattle.broker_model.specs.Ids.{Joined, log_of, peer_at}
use Rattle.broker_model.specs.Resolve.{past_of}
use Rattle.broker_model.specs.Limits.{is_counted, number_counted, weight_of, weight}
use Rattle.broker_model.specs.Settle.{due, cause_of, with_end, settled, number_alive, settle}
use Rattle.broker_model.proofs.SettlingEnds.{ends_fewer}
use Rattle.broker_audience.specs.Lives.{Numbered}
use Rattle.broker_core.specs.Stands.{roster}
use Rattle.broker_core.proofs.RosterAfterEntry.{IsPlain, roster_plain, roster_join, roster_end, roster_count}

-- an end counts and weighs nothing, and joins nobody

pub counted_cons : (e : Entry) (older : List Entry) →
    number_counted (e ∷ older) ≡ cond (is_counted e) 1 0 + number_counted older
counted_cons e older = sum_by-cons (λ x. cond (is_counted x) 1 0) e older

pub weight_cons : (e : Entry) (older : List Entry) → weight (e ∷ older) ≡ weight_of e + weight older
weight_cons e older = sum_by-cons weight_of e older

-- what is the same of the journal with an end
pub record IsNoMore (after before : List Entry) : Type 0 where
  pub counted : number_counted after ≡ number_counted before
  pub weighs : weight after ≡ weight before
  pub joined : (past_of after).joined ≡ (past_of before).joined

no_more_end : (q : ℕ) (why : EndCause) (older : List Entry) → IsNoMore (entries.End q why ∷ older) older
no_more_end q why older = record {
  counted = (let e = counted_cons (entries.End q why) older in omega arith);
  weighs = (let e = weight_cons (entries.End q why) older in omega arith);
  joined = refl;
}

no_more_by : (capacity fuel : ℕ) (journal : List Entry) (o : Option ℕ) →
    ((later : List Entry) → IsNoMore (settled capacity fuel later) later) →
    IsNoMore (settled capacity fuel (with_end journal o)) journal
no_more_by capacity fuel journal None k = k journal
no_more_by capacity fuel journal (Some q) k =
    let later : List Entry = entries.End q (cause_of journal q) ∷ journal in
    let rest : IsNoMore (settled capacity fuel later) later = k later in
    let one : IsNoMore later journal = no_more_end q (cause_of journal q) journal in
    record {
      counted = rest.counted ∙ one.counted;
      weighs = rest.weighs ∙ one.weighs;
      joined = rest.joined
          ∙ one.joined;
    }

no_more : (capacity fuel : ℕ) (journal : List Entry) → IsNoMore (settled capacity fuel journal) journal
no_more capacity zero journal = record { counted = refl; weighs = refl; joined = refl }
no_more capacity (suc fuel) journal = no_more_by capacity fuel journal (due capacity journal) (no_more capacity fuel)

pub same_settled : (capacity : ℕ) (journal : List Entry) → IsNoMore (settle capacity journal) journal
same_settled capacity journal = no_more capacity (number_alive journal) journal

-- no more are alive

alive_by : (capacity fuel : ℕ) (journal : List Entry) (o : Option ℕ) → due capacity journal ≡ o →
    ((later : List Entry) → number_alive (settled capacity fuel later) ≤ number_alive later) →
    number_alive (settled capacity fuel (with_end journal o)) ≤ number_alive journal
alive_by capacity fuel journal None e k = k journal
alive_by capacity fuel journal (Some q) e k =
    let rest = k (entries.End q (cause_of journal q) ∷ journal) in
    let less : number_alive (entries.End q (cause_of journal q) ∷ journal) < number_alive journal =
    ends_fewer capacity journal q (cause_of journal q) e in
    omega arith

alive_settled : (capacity fuel : ℕ) (journal : List Entry) →
    number_alive (settled capacity fuel journal) ≤ number_alive journal
alive_settled capacity zero journal = omega arith
alive_settled capacity (suc fuel) journal =
    alive_by capacity fuel journal (due capacity journal) refl (alive_settled capacity fuel)

pub alive_settle : (capacity : ℕ) (journal : List Entry) → number_alive (settle capacity journal) ≤ number_alive journal
alive_settle capacity journal = alive_settled capacity (number_alive journal) journal

-- how many are alive after an entry

pub alive_plain : (e : Entry) (older : List Entry) → IsPlain e → number_alive (e ∷ older) ≡ number_alive older
alive_plain e older p = sym (roster_count (e ∷ older)) ∙ ap length (roster_plain e older p) ∙ roster_count older

pub alive_join : (role : Role) (older : List Entry) → number_alive (entries.Join role ∷ older) ≡ number_alive older + 1
alive_join role older =
    let one : Numbered =
    record { number = length (past_of older).joined + 1; peer = record { label = length older + 1; role = role } }
    in
    sym (roster_count (entries.Join role ∷ older)) ∙ ap length (roster_join role older)
    ∙ length-append (roster older) (one ∷ [])
    ∙ ap (λ n. n + 1) (roster_count older)

pub alive_end : (q : ℕ) (why : EndCause) (older : List Entry) (peer : Joined) → peer_at (past_of older) q ≡ Some peer →
    is_peer (log_of (past_of older)) peer.label ≡ true → number_alive (entries.End q why ∷ older) ≤ number_alive older
alive_end q why older peer e l =
    let test : Numbered → Bool = λ n. not (n.number == q) in
    let after = sym (roster_count (entries.End q why ∷ older)) ∙ ap length (roster_end q why older peer e l)
    ∙ length-filter test (roster older) in
    let before = roster_count older in
    let fewer = count_by-le-length test (roster older) in
    omega arith
