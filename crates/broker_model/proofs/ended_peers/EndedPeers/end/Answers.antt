use Rattle.std.proofs.Common.{◌≡◌, ◌+◌, ◌-◌, ◌<◌, ◌≤◌, ◌++◌, ◌∷◌, ℕ, [], List, Option, Some, None, true, false, length, set, rules, ap, refl, sym, ◌∙◌, arith}
use Rattle.std.specs.List.{slice_get}
use Rattle.std.specs.Vec.{vec_len, vec_capacity}
use Rattle.std.proofs.lemmas.Option.{slice_get_within}
use Rattle.out_store.specs.Queue.{Queue}
use Rattle.relay_model.specs.declared.act.EndCause.{EndCause}
use Rattle.broker_model.specs.declared.left.Left.{Left}
use Rattle.broker_model.specs.Ends.{Ended, Ends, kept, store_at, ended_from, number_alive, cause_in}
use Rattle.broker_model.proofs.StoresLeft.{found_last, found_behind, kept_none, kept_some}
use Rattle.broker_model.proofs.PeersLeft.{alive_only, alive_less, one_ended, tidy_ended}
use Rattle.broker_model.proofs.ended_peers.EndedPeers.end.Goals as goal

-- it is alive
alive_in : (causes : List (Option EndCause)) (left : List Left) (n : ℕ) (e : Ends) → 0 < n →
    ended_from 1 causes left ≡ e.items → slice_get e.items (n - 1) ≡ Some None → slice_get causes (n - 1) ≡ Some None
alive_in causes left n e w is at =
    alive_only causes left n w (ap (λ (items : List (Option Ended)). slice_get items (n - 1)) is ∙ at)

counted_in : (alive : ℕ) (causes : List (Option EndCause)) (n : ℕ) (cause : EndCause) → alive ≡ number_alive causes →
    slice_get causes (n - 1) ≡ Some None → 1 ≤ alive
counted_in alive causes n cause number at =
    let less : number_alive (set causes (n - 1) (Some cause)) + 1 ≡ number_alive causes =
    alive_less causes (n - 1) cause at in
    omega arith

-- others than one that is put behind
others : (left later : List Left) (n : ℕ) (store : Queue) → later ≡ left ++
    (record { number = n; store = store }) ∷ [] →
    (r : ℕ) → (r ≡ n → ⊥) → store_at r later ≡ store_at r left
others left later n store put r d =
    ap (store_at r) put ∙ found_behind r left (record { number = n; store = store }) (λ f. d (sym f))

pub index_mut-requires : goal.index_mut-requires
index_mut-requires c =
    let causes = c.self.inside.causes.items in
    let many : vec_len c.self.inside.causes ≡ length causes = search rules in
    let alive : slice_get c.self.inside.causes.items (c.args.number - 1) ≡ Some None =
    alive_in c.self.inside.causes.items c.self.inside.left.items c.args.number c.args.self.now c.requires.number
    (ap (λ (e : Ends). e.items) c.self.view_is) c.requires.alive in
    let place : c.args.number - 1 < length causes = slice_get_within causes (c.args.number - 1) None alive in
    omega arith

pub overflow_sub-self : goal.overflow_sub-self
overflow_sub-self c =
    let alive : slice_get c.self.inside.causes.items (c.args.number - 1) ≡ Some None =
    alive_in c.self.inside.causes.items c.self.inside.left.items c.args.number c.args.self.now c.requires.number
    (ap (λ (e : Ends). e.items) c.self.view_is) c.requires.alive in
    let counted : 1 ≤ c.self.inside.alive =
    counted_in c.self.inside.alive c.self.inside.causes.items c.args.number c.args.cause
    c.self.invariant.number alive in
    counted

pub push_reserved-requires : goal.push_reserved-requires
push_reserved-requires c =
    let alive : slice_get c.self.inside.causes.items (c.args.number - 1) ≡ Some None =
    alive_in c.self.inside.causes.items c.self.inside.left.items c.args.number c.args.self.now c.requires.number
    (ap (λ (e : Ends). e.items) c.self.view_is) c.requires.alive in
    let counted : 1 ≤ c.self.inside.alive =
    counted_in c.self.inside.alive c.self.inside.causes.items c.args.number c.args.cause
    c.self.invariant.number alive in
    omega (arith, c.self.invariant.enough)

pub invariant_of-self : goal.invariant_of-self
invariant_of-self c =
    let alive : slice_get c.self.inside.causes.items (c.args.number - 1) ≡ Some None =
    alive_in c.self.inside.causes.items c.self.inside.left.items c.args.number c.args.self.now c.requires.number
    (ap (λ (e : Ends). e.items) c.self.view_is) c.requires.alive in
    tidy_ended c.self.inside.alive (vec_capacity c.self.inside.left - vec_len c.self.inside.left)
    (vec_capacity c.push_reserved.new.self - vec_len c.push_reserved.new.self) c.self.inside.causes.items
    c.self.inside.left.items c.push_reserved.new.self.items c.args.number c.args.cause c.self.invariant alive
    (omega (arith, c.push_reserved.ensures.len, c.push_reserved.ensures.capacity))
    (others c.self.inside.left.items c.push_reserved.new.self.items c.args.number c.args.store
    c.push_reserved.ensures.items)

pub returns-then-not-is_empty-clause-ended : goal.returns-then-not-is_empty-clause-ended
returns-then-not-is_empty-clause-ended c =
    let q = c.args.number in
    let left = c.self.inside.left.items in
    let items : List (Option Ended) = ended_from 1 c.self.inside.causes.items left in
    let some : c.args.store.cells ≡ [] → ⊥ = λ e.
    let yes : c.is_empty.result ≡ true = c.is_empty.ensures.1 e in
    let no : c.is_empty.result ≡ false = c.if-not-is_empty.true in
    cc in
    let stays : store_at q c.push_reserved.new.self.items ≡ kept c.args.store =
    ap (store_at q) c.push_reserved.ensures.items
    ∙ found_last q left (record { number = q; store = c.args.store }) refl
    ∙ sym (kept_some c.args.store some) in
    one_ended 1 c.self.inside.causes.items left c.push_reserved.new.self.items (q - 1) q c.args.cause
    (omega (arith, c.requires.number))
    (others left c.push_reserved.new.self.items q c.args.store c.push_reserved.ensures.items)
    ∙ ap (λ (store : Option Queue). set items (q - 1) (Some (record { cause = c.args.cause; store = store }))) stays
    ∙ ap (λ (e : Ends). set e.items (q - 1) (Some (record { cause = c.args.cause; store = kept c.args.store })))
    c.self.view_is

pub returns-then-not-is_empty-clause-room : goal.returns-then-not-is_empty-clause-room
returns-then-not-is_empty-clause-room c =
    let alive : slice_get c.self.inside.causes.items (c.args.number - 1) ≡ Some None =
    alive_in c.self.inside.causes.items c.self.inside.left.items c.args.number c.args.self.now c.requires.number
    (ap (λ (e : Ends). e.items) c.self.view_is) c.requires.alive in
    let counted : 1 ≤ c.self.inside.alive =
    counted_in c.self.inside.alive c.self.inside.causes.items c.args.number c.args.cause
    c.self.invariant.number alive in
    let room = ap (λ (e : Ends). e.room) c.self.view_is in
    omega (arith, room, c.push_reserved.ensures.len, c.push_reserved.ensures.capacity)

-- where nothing is in it

pub invariant_of-self-else-not-is_empty : goal.invariant_of-self-else-not-is_empty
invariant_of-self-else-not-is_empty c =
    let alive : slice_get c.self.inside.causes.items (c.args.number - 1) ≡ Some None =
    alive_in c.self.inside.causes.items c.self.inside.left.items c.args.number c.args.self.now c.requires.number
    (ap (λ (e : Ends). e.items) c.self.view_is) c.requires.alive in
    tidy_ended c.self.inside.alive (vec_capacity c.self.inside.left - vec_len c.self.inside.left)
    (vec_capacity c.self.inside.left - vec_len c.self.inside.left) c.self.inside.causes.items
    c.self.inside.left.items c.self.inside.left.items c.args.number c.args.cause c.self.invariant alive
    (omega arith) (λ r d. refl)

pub returns-else-not-is_empty-clause-ended : goal.returns-else-not-is_empty-clause-ended
returns-else-not-is_empty-clause-ended c =
    let alive : slice_get c.self.inside.causes.items (c.args.number - 1) ≡ Some None =
    alive_in c.self.inside.causes.items c.self.inside.left.items c.args.number c.args.self.now c.requires.number
    (ap (λ (e : Ends). e.items) c.self.view_is) c.requires.alive in
    let q = c.args.number in
    let left = c.self.inside.left.items in
    let items : List (Option Ended) = ended_from 1 c.self.inside.causes.items left in
    let none : c.args.store.cells ≡ [] =
    c.is_empty.ensures.0 c.if-not-is_empty.false in
    let stays : store_at q left ≡ kept c.args.store =
    c.self.invariant.none q (ap cause_in alive) ∙ sym (kept_none c.args.store none) in
    one_ended 1 c.self.inside.causes.items left left (q - 1) q c.args.cause
    (omega (arith, c.requires.number)) (λ r d. refl)
    ∙ ap (λ (store : Option Queue). set items (q - 1) (Some (record { cause = c.args.cause; store = store }))) stays
    ∙ ap (λ (e : Ends). set e.items (q - 1) (Some (record { cause = c.args.cause; store = kept c.args.store })))
    c.self.view_is
