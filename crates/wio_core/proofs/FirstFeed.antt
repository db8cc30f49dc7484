-- The front of some bytes, by the place of the first line feed behind those that have none.
use Rattle.std.proofs.Common.{◌≡◌, ◌≢◌, ℕ, ◌+◌, ◌-◌, ◌<◌, ◌≤◌, List, ◌∷◌, ◌++◌, length, take, drop, get_or, suc, inl, inr, sym, ap, ◌∙◌, subst, arith, add-one, length-drop}
use Rattle.std.proofs.lemmas.List.{take_all, take-take, take-append-drop, get_or-drop}
use Rattle.std.proofs.lemmas.List.Elements.{All-append, All-take}
use Rattle.std.proofs.lemmas.Bool.{eqb-true}
use Rattle.std.proofs.lemmas.Bool.Decides.{eqb_tells}
use Rattle.std.proofs.Math.Seq.{take-add, drop-cons}
use Rattle.std.proofs.lemmas.Grind.{common_steps}
use Rattle.memchr.specs.Find.{Nowhere, NoneBefore, Passes, is_byte}
use Rattle.wio_core.specs.Lines.{LacksFeed, HasLine, IsTooLong}

-- a search that found no line feed among the first n bytes
lacks_searched : (tail : List ℕ) (n : ℕ) → n ≤ length tail → Nowhere (Passes (is_byte 10) tail) 0 n
    → LacksFeed (take n tail)
lacks_searched tail n le nowhere k d lt e =
    let small : k < n = grind (arith, common_steps) in
    let here : get_or tail k 0 ≡ get_or (take n tail) k d = grind (arith, common_steps) in
    nowhere k (omega arith) small (elim (eqb_tells (get_or tail k 0) 10) [
      | inl p ↦ p.0
      | inr p ↦ absurd (p.1 (here
          ∙ e))
    ])

-- and none before them
pub lacks_further : (bytes : List ℕ) (seen n : ℕ) → n ≤ length (drop seen bytes) → LacksFeed (take seen bytes)
    → Nowhere (Passes (is_byte 10) (drop seen bytes)) 0 n
    → LacksFeed (take (seen + n) bytes)
lacks_further bytes seen n le lacks nowhere =
    subst LacksFeed (sym (take-add seen n bytes)) (All-append (λ b. b ≢ 10) (take seen bytes) (take n (drop seen
    bytes)) lacks (lacks_searched (drop seen bytes) n le nowhere))

-- a line feed after at most 8,400 bytes
pub found_line : (bytes : List ℕ) (seen n : ℕ) → seen ≤ length bytes → LacksFeed (take seen bytes)
    → NoneBefore (Passes (is_byte 10) (drop seen bytes)) 0 (length (drop seen bytes)) n
    → Passes (is_byte 10) (drop seen bytes) n → seen + n ≤ 8400 → HasLine bytes (seen + n)
found_line bytes seen n within lacks none here few =
    let rest : length (drop seen bytes) ≡ length bytes - seen = length-drop seen bytes in
    let high = none.high in
    let inside : seen + n < length bytes = omega (arith, rest, high) in
    let feed : get_or bytes (seen + n) 0 ≡ 10 = sym (get_or-drop seen bytes n 0)
    ∙ eqb-true (get_or (drop seen bytes) n 0) 10 here in
    record {
      within = inside;
      line = record {
        split = sym (take-append-drop (seen + n) bytes)
            ∙ ap (λ l. take (seen + n) bytes ++ l) (rw add-one (drop-cons bytes (seen + n) 0 inside
            ∙ ap (λ b. b ∷ drop (suc (seen + n)) bytes) feed));
        lacks = lacks_further bytes seen n (omega (arith, high)) lacks none.before;
        short = grind (arith, common_steps);
      };
    }

-- the first k of more bytes that have none
lacks_fewer : (bytes : List ℕ) (k m : ℕ) → k ≤ m → LacksFeed (take m bytes) → LacksFeed (take k bytes)
lacks_fewer bytes k m le lacks = subst LacksFeed (take-take k m bytes le) (All-take (λ b. b ≢ 10) k (take m bytes)
    lacks)

-- a line feed after more
pub found_late : (bytes : List ℕ) (seen n : ℕ) → seen ≤ length bytes → LacksFeed (take seen bytes)
    → NoneBefore (Passes (is_byte 10) (drop seen bytes)) 0 (length (drop seen bytes)) n
    → 8400 < seen + n → IsTooLong bytes
found_late bytes seen n within lacks none many =
    let rest : length (drop seen bytes) ≡ length bytes - seen = length-drop seen bytes in
    let high = none.high in
    let further : LacksFeed (take (seen + n) bytes) = lacks_further bytes seen n (omega (arith, high)) lacks
    none.before in
    record { many = omega (arith, rest, high); lacks = lacks_fewer bytes 8401 (seen + n) (omega arith) further }

-- none at all
pub lacks_all : (bytes : List ℕ) (seen : ℕ) → seen ≤ length bytes → LacksFeed (take seen bytes)
    → Nowhere (Passes (is_byte 10) (drop seen bytes)) 0 (length (drop seen bytes))
    → LacksFeed bytes
lacks_all bytes seen within lacks nowhere =
    let rest : length (drop seen bytes) ≡ length bytes - seen = length-drop seen bytes in
    let all : take (seen + length (drop seen bytes)) bytes
    ≡ bytes = take_all (seen + length (drop seen bytes)) bytes (omega (arith, rest)) in
    subst LacksFeed all (lacks_further bytes seen (length (drop seen bytes)) (omega arith) lacks nowhere)

-- none at all among more than a line may have
pub found_none : (bytes : List ℕ) (seen : ℕ) → seen ≤ length bytes → LacksFeed (take seen bytes)
    → Nowhere (Passes (is_byte 10) (drop seen bytes)) 0 (length (drop seen bytes))
    → 8400 < length bytes → IsTooLong bytes
found_none bytes seen within lacks nowhere many =
    record { many = many; lacks = All-take (λ b. b ≢ 10) 8401 bytes (lacks_all bytes seen within lacks nowhere) }
