-- The first step that bytes give, by what they begin with.
use Rattle.std.proofs.Common.{◌≡◌, ℕ, ◌<◌, ◌≤◌, true, false, List, [], ◌∷◌, ◌++◌, length, map, take, drop, Option, Some, None, refl, sym, ap, subst, ◌∙◌, arith, append_assoc, length-append, length-drop}
use Rattle.std.proofs.lemmas.List.{length-take, take-append-drop, take_at, drop_at}
use Rattle.wl_wire.specs.Messages.{id_of, opcode_of, body_of, size_of, is_whole, messages, behind, bad_size_at, bad_size, IsGoodSize, IsMessage, IsPartial, IsBad}
use Rattle.wl_wire.specs.Fronts.{IsFrontMessage}
use Rattle.wl_wire.specs.declared.assembler.Fed.TheVariants as fed
use Rattle.wl_wire.specs.Streams.{Assembly, begun, bytes_of, HasTold, Feeds}
use Rattle.wl_wire.proofs.SizeInHeader.{size_stays}
use Rattle.wl_wire.proofs.FirstMessages.{messages_next, messages_none, behind_next, behind_none, bad_size_next, bad_size_none, whole_is, part_none, bad_none}
use Rattle.broker_model.specs.Ranges.{IsBody}
use Rattle.broker_model.specs.declared.journal.Entry.{Entry}
use Rattle.broker_model.specs.declared.journal.Entry.TheVariants as entries
use Rattle.broker_cutter.specs.Steps.{message_entry, bad_entries, steps_in}
use Rattle.broker_cutter.specs.Cuts.{IsFirst, IsUnfinished, IsLast, IsHeld}

-- the steps that the bytes give

abbrev steps_of : ℕ → List (List ℕ) → List ℕ → Option ℕ → List Entry
steps_of q ms rest bad = map (message_entry q) ms ++ bad_entries q rest bad

same_steps : (q : ℕ) (ms ms′ : List (List ℕ)) (rest rest′ : List ℕ) (bad bad′ : Option ℕ) → ms ≡ ms′ → rest ≡ rest′ →
    bad ≡ bad′ →
    steps_of q ms rest bad ≡ steps_of q ms′ rest′ bad′
same_steps q ms ms′ rest rest′ bad bad′ a b c =
    ap (λ (x : List (List ℕ)). steps_of q x rest bad) a ∙ ap (λ (x : List ℕ). steps_of q ms′ x bad) b
    ∙ ap (steps_of q ms′ rest′) c

steps_next : (q : ℕ) (bytes : List ℕ) → is_whole bytes ≡ true →
    steps_in q bytes ≡ message_entry q (take (size_of bytes) bytes) ∷ steps_in q (drop (size_of bytes) bytes)
steps_next q bytes e =
    same_steps q (messages bytes) (take (size_of bytes) bytes ∷ messages (drop (size_of bytes) bytes)) (behind bytes)
    (behind (drop (size_of bytes) bytes))
    (bad_size bytes) (bad_size (drop (size_of bytes) bytes)) (messages_next bytes e) (behind_next bytes e)
    (bad_size_next bytes e)

steps_none : (q : ℕ) (bytes : List ℕ) → is_whole bytes ≡ false → bad_size_at bytes ≡ None → steps_in q bytes ≡ []
steps_none q bytes e n =
    same_steps q (messages bytes) [] (behind bytes) bytes (bad_size bytes) None (messages_none bytes e)
    (behind_none bytes e) (bad_size_none bytes e ∙ n)

steps_bad : (q size : ℕ) (bytes : List ℕ) → is_whole bytes ≡ false → bad_size_at bytes ≡ Some size →
    steps_in q bytes ≡ entries.BadSize q (take 8 bytes) ∷ []
steps_bad q size bytes e b =
    same_steps q (messages bytes) [] (behind bytes) bytes (bad_size bytes) (Some size) (messages_none bytes e)
    (behind_none bytes e) (bad_size_none bytes e ∙ b)

-- bytes that begin with a message

pub first_message : (q : ℕ) (m tail : List ℕ) → IsMessage m →
    (steps_in q (m ++ tail) ≡ message_entry q m ∷ steps_in q tail) × (behind (m ++ tail) ≡ behind tail)
first_message q m tail is =
    let long : 8 ≤ length m = omega (arith, is.0.0, is.1) in
    let same : size_of (m ++ tail) ≡ size_of m = size_stays m tail long in
    let len = length-append m tail in
    let whole : is_whole (m ++ tail) ≡ true =
    whole_is (m ++ tail) (rw same is.0) (omega (arith, same, is.1)) in
    let front : take (size_of (m ++ tail)) (m ++ tail) ≡ m = ap (λ n. take n (m ++ tail)) same
    ∙ take_at m tail (size_of m) is.1 in
    let rest : drop (size_of (m ++ tail)) (m ++ tail) ≡ tail = ap (λ n. drop n (m ++ tail)) same
    ∙ drop_at m tail (size_of m) is.1 in (
      steps_next q (m ++ tail) whole ∙ ap (λ (x : List ℕ). message_entry q x ∷ steps_in q
          (drop (size_of (m ++ tail)) (m ++ tail))) front
          ∙ ap (λ (x : List ℕ). message_entry q m ∷ steps_in q x) rest,
      behind_next (m ++ tail) whole ∙ ap (λ (x : List ℕ). behind x) rest,
    )

body_is : (m : List ℕ) → IsMessage m → IsBody (drop 8 m)
body_is m is = (let len = length-drop 8 m in let a = is.0.0 in let b = is.0.1 in let c = is.0.2 in let d = is.1 in
    (omega arith, omega arith))

-- as a piece completes it
pub found_message : (id opcode used : ℕ) (held piece m body left : List ℕ) → 0 < used → used ≤ length piece →
    m ≡ held ++ take used piece → IsMessage m →
    id ≡ id_of m → opcode ≡ opcode_of m → body ≡ body_of m → left ≡ [] →
    IsFirst id opcode body (held ++ piece) piece used left
found_message id opcode used held piece m body left some within is whole i o b none =
    let split : held ++ piece ≡ m ++ drop used piece =
    sym (ap (λ (x : List ℕ). x ++ drop used piece) is ∙ append_assoc held (take used piece) (drop used piece)
    ∙ ap (λ (r : List ℕ). held ++ r) (take-append-drop used piece)) in
    record {
      some = some;
      within = within;
      valid = subst IsBody (sym b) (body_is m whole);
      steps = λ q.
          ap (λ (x : List ℕ). steps_in q x) split ∙ (first_message q m (drop used piece) whole).0
          ∙ ap (λ (e : Entry). e ∷ steps_in q (drop used piece)) (sym (ap (λ n. entries.Message q n opcode body) i
          ∙ ap (λ n. entries.Message q (id_of m) n body) o ∙ ap (entries.Message q (id_of m) (opcode_of m)) b));
      behind_same = ap (λ (x : List ℕ). behind x) split ∙ (first_message 0 m (drop used piece) whole).1;
      none_left = none;
    }

-- as a piece begins with it, behind no others
pub front_message : (id opcode used : ℕ) (held piece body : List ℕ) → held ≡ [] →
    IsFrontMessage id opcode body piece used → IsFirst id opcode body (held ++ piece) piece used held
front_message id opcode used held piece body h f =
    subst (λ (x : List ℕ). IsFirst id opcode body (x ++ piece) piece used x) (sym h)
    (found_message id opcode used [] piece (take used piece) body [] (let least = f.good.0 in omega arith) f.within refl
    f.whole f.same_id f.same_opcode f.same_body refl)

-- bytes that begin with no message and no bad size
pub found_nothing : (bytes left : List ℕ) → IsPartial bytes → left ≡ bytes → IsUnfinished bytes left
found_nothing bytes left h l =
    let p = part_none bytes h in
    record { steps = λ q. steps_none q bytes p.0 p.1; all_behind = behind_none bytes p.0; all_left = l; good = p.1 }

-- bytes that begin with a bad size

pub bad_size_steps : (q : ℕ) (bytes : List ℕ) → IsBad (take 8 bytes) →
    steps_in q bytes ≡ entries.BadSize q (take 8 bytes) ∷ []
bad_size_steps q bytes bad =
    let long : 8 ≤ length bytes = (let len = length-take 8 bytes in let eight = bad.0 in omega arith) in
    let same : size_of bytes ≡ size_of (take 8 bytes) = ap size_of (sym (take-append-drop 8 bytes))
    ∙ size_stays (take 8 bytes) (drop 8 bytes) bad.0 in
    let none = bad_none bytes (long, λ good. bad.1 (subst IsGoodSize same good)) in
    steps_bad q (size_of bytes) bytes none.0 none.1

pub found_bad_size : (bytes head left : List ℕ) → IsBad (take 8 bytes) → head ≡ take 8 bytes → left ≡ head →
    IsLast head bytes left
found_bad_size bytes head left bad is same = record {
  valid = subst IsBad (sym is) bad;
  steps = λ q. bad_size_steps q bytes bad ∙ ap (λ (h : List ℕ). entries.BadSize q h ∷ []) (sym is);
  stays = same;
}

-- as an assembler finds it

pub fed_message : (old new : Assembly) (piece : List ℕ) (used : ℕ) → Feeds old piece (fed.Whole used) new →
    HasTold (fed.Whole used) new → IsHeld new (begun old ++ piece) piece used
fed_message old new piece used f told =
    let m : List ℕ = begun old ++ take used piece in
    let held : bytes_of new ≡ m = ap bytes_of f.3 in (
      told,
      found_message (id_of (bytes_of new)) (opcode_of (bytes_of new)) used (begun old) piece m (body_of (bytes_of new))
          (begun new) f.0 f.1 refl f.2 (ap (λ (l : List ℕ). id_of l) held) (ap (λ (l : List ℕ). opcode_of l) held)
          (ap (λ (l : List ℕ). body_of l) held) (ap begun f.3),
    )

pub fed_nothing : (old new : Assembly) (piece : List ℕ) → Feeds old piece fed.Need new →
    IsUnfinished (begun old ++ piece) (begun new)
fed_nothing old new piece f = found_nothing (begun old ++ piece) (begun new) f.0 (ap begun f.1)

pub fed_bad_size : (n : ℕ) (old new : Assembly) (piece head : List ℕ) → Feeds old piece (fed.BadSize n) new →
    head ≡ bytes_of new → IsLast head (begun old ++ piece) (begun new)
fed_bad_size n old new piece head f h =
    let is : head ≡ take 8 (begun old ++ piece) = h ∙ ap bytes_of f.2 in
    found_bad_size (begun old ++ piece) head (begun new) f.0 is (ap begun f.2 ∙ sym is)
