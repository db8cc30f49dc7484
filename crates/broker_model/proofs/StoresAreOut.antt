-- What is out for a peer is what a store holds that had each group put and each piece taken.
use Rattle.std.proofs.Common.{◌≡◌, ℕ, zero, suc, ◌+◌, ◌-◌, ◌≤◌, List, [], ◌∷◌, ◌++◌, length, map, drop, Bool, true, false, nat_le, refl, sym, ap, ◌∙◌, arith, length-drop, drop-drop}
use Rattle.out_store.specs.Queue.{Cell, cells_of}
use Rattle.out_store.proofs.CellsMove.{length-cells_from, cells_of-append}
use Rattle.relay_model.specs.Told.{told}
use Rattle.broker_model.specs.declared.journal.Entry.{Entry}
use Rattle.broker_model.specs.Resolve.{past_of, resolve}
use Rattle.broker_model.specs.Groups.{Piece, pair_of, followed_by}
use Rattle.broker_model.specs.Out.{Outgoing, act_at, group_at, took_at, fits, with_group, before_group, out_for}
use Rattle.broker_model.specs.Stored.{cells_out, cells_with, AreSpaced, CellsArePut, CellsAreTaken}
use Rattle.broker_model.proofs.TokensAreSpaced.{pairs_followed, spaced_nothing, spaced_followed, spaced_group}

-- the tokens of all that was put are spaced

spaced_with : (capacity : ℕ) (group : Piece) (out : Outgoing) (b : Bool) → fits capacity group out ≡ b →
    AreSpaced out.put → AreSpaced group →
    AreSpaced (with_group capacity group out).put
spaced_with capacity group out true is before more = rw is (spaced_followed out.put group before more)
spaced_with capacity group out false is before more = rw is before

pub spaced_group_at : (e : Entry) (older : List Entry) (p : ℕ) → AreSpaced (group_at e older p)
spaced_group_at e older p = spaced_group (past_of (e ∷ older)).made p (told (act_at e older) (resolve older))

pub spaced_out : (capacity : ℕ) (journal : List Entry) (p : ℕ) → AreSpaced (out_for capacity journal p).put
spaced_out capacity [] p = spaced_nothing
spaced_out capacity (e ∷ older) p =
    let before = before_group e older p (out_for capacity older p) in
    spaced_with capacity (group_at e older p) before (fits capacity (group_at e older p) before) refl
    (spaced_out capacity older p) (spaced_group_at e older p)

-- as many cells as bytes are stored

pub length_out : (out : Outgoing) → length (cells_out out) ≡ length out.put.bytes - out.taken
length_out out =
    length-drop out.taken (cells_of out.put.bytes (map pair_of out.put.tokens))
    ∙ ap (λ (n : ℕ). n - out.taken) (length-cells_from 0 out.put.bytes (map pair_of out.put.tokens))

-- so a store's own test says what fits
pub fits_stored : (capacity : ℕ) (group : Piece) (out : Outgoing) →
    nat_le (length (cells_out out) + length group.bytes) capacity ≡ fits capacity group out
fits_stored capacity group out = ap (λ (n : ℕ). nat_le (n + length group.bytes) capacity) (length_out out)

-- a group behind what was put

drop_both : (n : ℕ) (a b : List Cell) → drop n (a ++ b) ≡ drop n a ++ drop (n - length a) b
drop_both zero a b = ap (λ (k : ℕ). a ++ drop k b) {x = 0} {y = 0 - length a} (omega arith)
drop_both (suc n) [] b = ap (λ (k : ℕ). drop k b) {x = suc n} {y = suc n - 0} (omega arith)
drop_both (suc n) (cell ∷ a) b =
    drop_both n a b ∙ ap (λ (k : ℕ). drop n a ++ drop k b) {x = n - length a} {y = suc n - suc (length a)} (omega arith)

cells_followed : (a b : Piece) → AreSpaced a →
    cells_of (followed_by a b).bytes (map pair_of (followed_by a b).tokens)
    ≡ cells_of a.bytes (map pair_of a.tokens) ++ cells_of b.bytes (map pair_of b.tokens)
cells_followed a b spaced =
    ap (λ (l : List (ℕ × ℕ)). cells_of (a.bytes ++ b.bytes) l) (pairs_followed a b)
    ∙ cells_of-append a.bytes b.bytes (map pair_of a.tokens) (map pair_of b.tokens) spaced

pub put_cells_any : (capacity : ℕ) (group : Piece) (out : Outgoing) → AreSpaced out.put →
    fits capacity group out ≡ true →
    cells_out (with_group capacity group out)
    ≡ cells_out out ++ drop (out.taken - length out.put.bytes) (cells_of group.bytes (map pair_of group.tokens))
put_cells_any capacity group out spaced is =
    let stored = cells_of out.put.bytes (map pair_of out.put.tokens) in
    let new = cells_of group.bytes (map pair_of group.tokens) in
    rw is
    (ap (λ (l : List Cell). drop out.taken l) (cells_followed out.put group spaced)
    ∙ drop_both out.taken stored new
    ∙ ap (λ (n : ℕ). drop out.taken stored ++ drop (out.taken - n) new)
    (length-cells_from 0 out.put.bytes (map pair_of out.put.tokens)))

pub put_cells : (capacity : ℕ) (group : Piece) (out : Outgoing) → AreSpaced out.put → out.taken ≤ length out.put.bytes →
    fits capacity group out ≡ true →
    cells_out (with_group capacity group out) ≡ cells_out out ++ cells_of group.bytes (map pair_of group.tokens)
put_cells capacity group out spaced within is =
    put_cells_any capacity group out spaced is
    ∙ ap (λ (n : ℕ). cells_out out ++ drop n (cells_of group.bytes (map pair_of group.tokens))) {x =
    out.taken - length out.put.bytes} {y = 0} (omega (arith, within))

pub left_out_cells : (capacity : ℕ) (group : Piece) (out : Outgoing) → fits capacity group out ≡ false →
    cells_out (with_group capacity group out) ≡ cells_out out
left_out_cells capacity group out is = rw is refl

-- bytes that are taken

pub take_cells : (n : ℕ) (out : Outgoing) → cells_out (record out { taken = out.taken + n }) ≡ drop n (cells_out out)
take_cells n out = sym (drop-drop n out.taken (cells_of out.put.bytes (map pair_of out.put.tokens)))

-- over every journal

cells_by : (capacity : ℕ) (group : Piece) (out : Outgoing) (b : Bool) → fits capacity group out ≡ b →
    AreSpaced out.put →
    cells_out (with_group capacity group out) ≡ cells_with capacity group out
cells_by capacity group out true is spaced =
    rw (fits_stored capacity group out ∙ is) (put_cells_any capacity group out spaced is)
cells_by capacity group out false is spaced =
    rw (fits_stored capacity group out ∙ is) (left_out_cells capacity group out is)

pub cells_are_put : CellsArePut
cells_are_put capacity e older p =
    let before = before_group e older p (out_for capacity older p) in
    cells_by capacity (group_at e older p) before (fits capacity (group_at e older p) before) refl
    (spaced_out capacity older p)

pub cells_are_taken : CellsAreTaken
cells_are_taken capacity e older p = take_cells (took_at e (past_of older) p) (out_for capacity older p)
