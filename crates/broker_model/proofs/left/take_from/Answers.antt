use Rattle.std.proofs.Common.{◌≡◌, ◌++◌, ℕ, List, [], length, min, take, drop, set, true, false, get_or, ap, sym, subst, ◌∙◌}
use Rattle.out_store.specs.Queue.{Cell, Queue, bytes_of, tokens_of}
use Rattle.broker_model.specs.declared.left.Left.{Left}
use Rattle.broker_model.specs.Ends.{cells_in, store_at, IsLast}
use Rattle.broker_model.proofs.StoresLeft.{IsFound, is_found, found_set, others_set, forgotten, others_found, kept_none, kept_some, rest_kept}
use Rattle.broker_model.proofs.left.take_from.Goals as goal

-- the one that is taken from
found : (n place : ℕ) (left seen : List Left) (one : Left) → IsLast n place seen → seen ≡ left →
    one ≡ get_or left place one → IsFound n place left one
found n place left seen one last same read = is_found n place left one (subst (IsLast n place) same last) read

cells : (n place : ℕ) (left : List Left) (one : Left) → IsFound n place left one →
    one.store.cells ≡ cells_in (store_at n left)
cells n place left one it = sym (ap cells_in it.found)

-- what is stored for others, where what is stored for one is set
same_set : (n place : ℕ) (left : List Left) (one : Left) (store : Queue) → IsFound n place left one → (other : ℕ) →
    (other ≡ n → ⊥) →
    store_at other (set left place (record { number = one.number; store = store })) ≡ store_at other left
same_set n place left one store it other d =
    others_set other place left one (record { number = one.number; store = store }) it.there
    (λ f. d (sym f ∙ it.own)) (λ f. d (sym f ∙ it.own))

pub returns-then-is_empty-clause-count : goal.returns-then-is_empty-clause-count
returns-then-is_empty-clause-count c =
    let it : IsFound c.args.number c.in-Some.place c.args.left.now.items c.index_mut.result.now =
    found c.args.number c.in-Some.place c.args.left.now.items c.deref.result.now c.index_mut.result.now
    c.in-Some.ensures.there c.deref.ensures.value c.index_mut.ensures.value in
    let same : c.index_mut.result.now.store.cells ≡ cells_in (store_at c.args.number c.args.left.now.items) =
    cells c.args.number c.in-Some.place c.args.left.now.items c.index_mut.result.now it in
    c.take-counts.ensures.count ∙ ap (λ (cs : List Cell). min (length c.args.buf.now) (length cs)) same

pub returns-then-is_empty-clause-bytes : goal.returns-then-is_empty-clause-bytes
returns-then-is_empty-clause-bytes c =
    let it : IsFound c.args.number c.in-Some.place c.args.left.now.items c.index_mut.result.now =
    found c.args.number c.in-Some.place c.args.left.now.items c.deref.result.now c.index_mut.result.now
    c.in-Some.ensures.there c.deref.ensures.value c.index_mut.ensures.value in
    let same : c.index_mut.result.now.store.cells ≡ cells_in (store_at c.args.number c.args.left.now.items) =
    cells c.args.number c.in-Some.place c.args.left.now.items c.index_mut.result.now it in
    let n = c.take-counts.result.0 in
    c.take-counts.ensures.bytes
    ∙ ap (λ (cs : List Cell). bytes_of (take n cs) ++ drop n c.args.buf.now) same

pub returns-then-is_empty-clause-token_count : goal.returns-then-is_empty-clause-token_count
returns-then-is_empty-clause-token_count c =
    let it : IsFound c.args.number c.in-Some.place c.args.left.now.items c.index_mut.result.now =
    found c.args.number c.in-Some.place c.args.left.now.items c.deref.result.now c.index_mut.result.now
    c.in-Some.ensures.there c.deref.ensures.value c.index_mut.ensures.value in
    let same : c.index_mut.result.now.store.cells ≡ cells_in (store_at c.args.number c.args.left.now.items) =
    cells c.args.number c.in-Some.place c.args.left.now.items c.index_mut.result.now it in
    c.take-counts.ensures.token_count
    ∙ ap (λ (cs : List Cell). length (tokens_of (take c.take-counts.result.0 cs))) same

pub returns-then-is_empty-clause-tokens : goal.returns-then-is_empty-clause-tokens
returns-then-is_empty-clause-tokens c =
    let it : IsFound c.args.number c.in-Some.place c.args.left.now.items c.index_mut.result.now =
    found c.args.number c.in-Some.place c.args.left.now.items c.deref.result.now c.index_mut.result.now
    c.in-Some.ensures.there c.deref.ensures.value c.index_mut.ensures.value in
    let same : c.index_mut.result.now.store.cells ≡ cells_in (store_at c.args.number c.args.left.now.items) =
    cells c.args.number c.in-Some.place c.args.left.now.items c.index_mut.result.now it in
    c.take-counts.ensures.tokens
    ∙ ap (λ (cs : List Cell). tokens_of (take c.take-counts.result.0 cs) ++
    drop c.take-counts.result.1 c.args.tokens.now)
    same

pub returns-then-is_empty-clause-rest : goal.returns-then-is_empty-clause-rest
returns-then-is_empty-clause-rest c =
    let it : IsFound c.args.number c.in-Some.place c.args.left.now.items c.index_mut.result.now =
    found c.args.number c.in-Some.place c.args.left.now.items c.deref.result.now c.index_mut.result.now
    c.in-Some.ensures.there c.deref.ensures.value c.index_mut.ensures.value in
    let there : List Left =
    set c.args.left.now.items c.in-Some.place
    (record { number = c.index_mut.result.now.number; store = c.take-counts.new.self }) in
    let empty : c.take-counts.new.self.cells ≡ [] = c.is_empty.ensures.0 c.if-is_empty.true in
    ap (store_at c.args.number) c.forget.ensures.left
    ∙ forgotten c.args.number there
    ∙ sym (kept_none c.take-counts.new.self empty)
    ∙ rest_kept c.take-counts.result.0 (store_at c.args.number c.args.left.now.items) c.index_mut.result.now.store
    c.take-counts.new.self it.found c.take-counts.ensures.rest

pub returns-then-is_empty-clause-others : goal.returns-then-is_empty-clause-others
returns-then-is_empty-clause-others c =
    let it : IsFound c.args.number c.in-Some.place c.args.left.now.items c.index_mut.result.now =
    found c.args.number c.in-Some.place c.args.left.now.items c.deref.result.now c.index_mut.result.now
    c.in-Some.ensures.there c.deref.ensures.value c.index_mut.ensures.value in
    let there : List Left =
    set c.args.left.now.items c.in-Some.place
    (record { number = c.index_mut.result.now.number; store = c.take-counts.new.self }) in
    λ other d.
    ap (store_at other) c.forget.ensures.left
    ∙ others_found c.args.number other there d
    ∙ same_set c.args.number c.in-Some.place c.args.left.now.items c.index_mut.result.now
    c.take-counts.new.self it other
    d

pub returns-else-is_empty-clause-count : goal.returns-else-is_empty-clause-count
returns-else-is_empty-clause-count c =
    let it : IsFound c.args.number c.in-Some.place c.args.left.now.items c.index_mut.result.now =
    found c.args.number c.in-Some.place c.args.left.now.items c.deref.result.now c.index_mut.result.now
    c.in-Some.ensures.there c.deref.ensures.value c.index_mut.ensures.value in
    let same : c.index_mut.result.now.store.cells ≡ cells_in (store_at c.args.number c.args.left.now.items) =
    cells c.args.number c.in-Some.place c.args.left.now.items c.index_mut.result.now it in
    c.take-counts.ensures.count ∙ ap (λ (cs : List Cell). min (length c.args.buf.now) (length cs)) same

pub returns-else-is_empty-clause-bytes : goal.returns-else-is_empty-clause-bytes
returns-else-is_empty-clause-bytes c =
    let it : IsFound c.args.number c.in-Some.place c.args.left.now.items c.index_mut.result.now =
    found c.args.number c.in-Some.place c.args.left.now.items c.deref.result.now c.index_mut.result.now
    c.in-Some.ensures.there c.deref.ensures.value c.index_mut.ensures.value in
    let same : c.index_mut.result.now.store.cells ≡ cells_in (store_at c.args.number c.args.left.now.items) =
    cells c.args.number c.in-Some.place c.args.left.now.items c.index_mut.result.now it in
    let n = c.take-counts.result.0 in
    c.take-counts.ensures.bytes
    ∙ ap (λ (cs : List Cell). bytes_of (take n cs) ++ drop n c.args.buf.now) same

pub returns-else-is_empty-clause-token_count : goal.returns-else-is_empty-clause-token_count
returns-else-is_empty-clause-token_count c =
    let it : IsFound c.args.number c.in-Some.place c.args.left.now.items c.index_mut.result.now =
    found c.args.number c.in-Some.place c.args.left.now.items c.deref.result.now c.index_mut.result.now
    c.in-Some.ensures.there c.deref.ensures.value c.index_mut.ensures.value in
    let same : c.index_mut.result.now.store.cells ≡ cells_in (store_at c.args.number c.args.left.now.items) =
    cells c.args.number c.in-Some.place c.args.left.now.items c.index_mut.result.now it in
    c.take-counts.ensures.token_count
    ∙ ap (λ (cs : List Cell). length (tokens_of (take c.take-counts.result.0 cs))) same

pub returns-else-is_empty-clause-tokens : goal.returns-else-is_empty-clause-tokens
returns-else-is_empty-clause-tokens c =
    let it : IsFound c.args.number c.in-Some.place c.args.left.now.items c.index_mut.result.now =
    found c.args.number c.in-Some.place c.args.left.now.items c.deref.result.now c.index_mut.result.now
    c.in-Some.ensures.there c.deref.ensures.value c.index_mut.ensures.value in
    let same : c.index_mut.result.now.store.cells ≡ cells_in (store_at c.args.number c.args.left.now.items) =
    cells c.args.number c.in-Some.place c.args.left.now.items c.index_mut.result.now it in
    c.take-counts.ensures.tokens
    ∙ ap (λ (cs : List Cell). tokens_of (take c.take-counts.result.0 cs) ++
    drop c.take-counts.result.1 c.args.tokens.now)
    same

pub returns-else-is_empty-clause-rest : goal.returns-else-is_empty-clause-rest
returns-else-is_empty-clause-rest c =
    let it : IsFound c.args.number c.in-Some.place c.args.left.now.items c.index_mut.result.now =
    found c.args.number c.in-Some.place c.args.left.now.items c.deref.result.now c.index_mut.result.now
    c.in-Some.ensures.there c.deref.ensures.value c.index_mut.ensures.value in
    let some : c.take-counts.new.self.cells ≡ [] → ⊥ = λ e.
    let yes : c.is_empty.result ≡ true = c.is_empty.ensures.1 e in
    let no : c.is_empty.result ≡ false = c.if-is_empty.false in
    cc in
    found_set c.args.number c.in-Some.place c.args.left.now.items c.index_mut.result.now
    (record { number = c.index_mut.result.now.number; store = c.take-counts.new.self }) it.there it.own it.later
    ∙ sym (kept_some c.take-counts.new.self some)
    ∙ rest_kept c.take-counts.result.0 (store_at c.args.number c.args.left.now.items) c.index_mut.result.now.store
    c.take-counts.new.self it.found c.take-counts.ensures.rest

pub returns-else-is_empty-clause-others : goal.returns-else-is_empty-clause-others
returns-else-is_empty-clause-others c =
    let it : IsFound c.args.number c.in-Some.place c.args.left.now.items c.index_mut.result.now =
    found c.args.number c.in-Some.place c.args.left.now.items c.deref.result.now c.index_mut.result.now
    c.in-Some.ensures.there c.deref.ensures.value c.index_mut.ensures.value in
    same_set c.args.number c.in-Some.place c.args.left.now.items c.index_mut.result.now c.take-counts.new.self it
