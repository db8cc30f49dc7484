-- The unread bytes of live peers, as one of them sends more and others end.
use Rattle.std.proofs.Common.{◌≡◌, ℕ, List, [], ◌∷◌, ◌++◌, Bool, true, false, cond, refl, sym, ap, ◌∙◌}
use Rattle.std.specs.Prelude.{◌==◌, ◌||◌, if◌then◌else◌}
use Rattle.std.proofs.lemmas.Bool.{eqb-true}
use Rattle.broker_model.specs.declared.journal.Entry.{Entry}
use Rattle.broker_core.specs.Taking.{lives}
use Rattle.seat_set.specs.Played.{Waiting, of_live, unread_by, with_unread}
use Rattle.seat_set.specs.Playing.{is_waiting}

-- by whether the first is that of the peer q
abbrev first_by : ℕ → List ℕ → Waiting → List Waiting → Bool → List Waiting
first_by q bytes w rest b = (if b then record w { bytes = bytes } ∷ rest else w ∷ with_unread q bytes rest)

-- and by whether it is alive
abbrev kept_by : List Entry → Waiting → List Waiting → Bool → List Waiting
kept_by journal w rest b = cond b (w ∷ of_live journal rest) (of_live journal rest)

is_number : (journal : List Entry) (w : Waiting) (q : ℕ) (b : Bool) → (w.number == q) ≡ true → lives journal q ≡ b →
    lives journal w.number ≡ b
is_number journal w q b e h = ap (lives journal) (eqb-true w.number q e) ∙ h

-- those of a peer that isn't alive are gone
pub dead_left : (journal : List Entry) (q : ℕ) (bytes : List ℕ) (unread : List Waiting) → lives journal q ≡ false →
    of_live journal (with_unread q bytes unread) ≡ of_live journal unread
dead_left journal q bytes [] h = refl
dead_left journal q bytes (w ∷ rest) h = by (w.number == q) refl (dead_left journal q bytes rest h)
  where
    by : (b : Bool) → (w.number == q) ≡ b → of_live journal (with_unread q bytes rest) ≡ of_live journal rest →
        of_live journal (first_by q bytes w rest b) ≡ of_live journal (w ∷ rest)
    by true e k =
        let dead = is_number journal w q false e h in
        ap (kept_by journal (record w { bytes = bytes }) rest) dead ∙ sym (ap (kept_by journal w rest) dead)
    by false e k = ap (λ (ws : List Waiting). cond (lives journal w.number) (w ∷ ws) ws) k

-- those of a live one can be set before the others are gone, or behind that
pub alive_left : (journal : List Entry) (q : ℕ) (first bytes : List ℕ) (unread : List Waiting) →
    lives journal q ≡ true →
    with_unread q bytes (of_live journal (with_unread q first unread)) ≡ of_live journal (with_unread q bytes unread)
alive_left journal q first bytes [] h = refl
alive_left journal q first bytes (w ∷ rest) h = by (w.number == q) refl (alive_left journal q first bytes rest h)
  where
    other : (b : Bool) → (w.number == q) ≡ false → with_unread q bytes (of_live journal (with_unread q first rest)) ≡
        of_live journal (with_unread q bytes rest) →
        with_unread q bytes (cond b (w ∷ of_live journal (with_unread q first rest))
        (of_live journal (with_unread q first rest)))
        ≡ cond b (w ∷ of_live journal (with_unread q bytes rest)) (of_live journal (with_unread q bytes rest))
    other true e k = ap (first_by q bytes w (of_live journal (with_unread q first rest))) e
        ∙ ap (λ (ws : List Waiting). w ∷ ws) k
    other false e k = k

    by : (b : Bool) → (w.number == q) ≡ b → with_unread q bytes (of_live journal (with_unread q first rest)) ≡ of_live
        journal (with_unread q bytes rest) →
        with_unread q bytes (of_live journal (first_by q first w rest b)) ≡ of_live journal (first_by q bytes w rest b)
    by true e k =
        let live = is_number journal w q true e h in
        let was : Waiting = record w { bytes = first } in
        let now : Waiting = record w { bytes = bytes } in
        ap (λ (b : Bool). with_unread q bytes (kept_by journal was rest b)) live
        ∙ ap (first_by q bytes was (of_live journal rest)) e
        ∙ sym (ap (kept_by journal now rest) live)
    by false e k = other (lives journal w.number) e k

-- where there are none, there are none later
pub none_left : (journal : List Entry) (q : ℕ) (unread : List Waiting) →
    unread_by (of_live journal (with_unread q [] unread)) q ≡ []
none_left journal q [] = refl
none_left journal q (w ∷ rest) = by (w.number == q) refl (none_left journal q rest)
  where
    gone : (b : Bool) → (w.number == q) ≡ true → lives journal w.number ≡ b →
        (lives journal q ≡ false → unread_by (of_live journal rest) q ≡ []) →
        unread_by (cond b (record w { bytes = [] } ∷ of_live journal rest) (of_live journal rest)) q ≡ []
    gone true e l f = ap (λ (b : Bool). (if b then [] else unread_by (of_live journal rest) q)) e
    gone false e l f = f (ap (lives journal) (sym (eqb-true w.number q e)) ∙ l)

    other : (b : Bool) → (w.number == q) ≡ false → unread_by (of_live journal (with_unread q [] rest)) q ≡ [] →
        unread_by (cond b (w ∷ of_live journal (with_unread q [] rest)) (of_live journal (with_unread q [] rest))) q ≡
        []
    other true e k = ap (λ (b : Bool). (if b then w.bytes else unread_by (of_live journal (with_unread q [] rest)) q)) e
        ∙ k
    other false e k = k

    by : (b : Bool) → (w.number == q) ≡ b → unread_by (of_live journal (with_unread q [] rest)) q ≡ [] →
        unread_by (of_live journal (first_by q [] w rest b)) q ≡ []
    by true e k =
        gone (lives journal w.number) e refl
        (λ d. ap (λ (ws : List Waiting). unread_by ws q) (sym (dead_left journal q [] rest d)) ∙ k)
    by false e k = other (lives journal w.number) e k

-- who is alive keeps its place

or_right : (c d : Bool) → d ≡ true → (c || d) ≡ true
or_right true d k = refl
or_right false d k = k

pub waiting_kept : (journal : List Entry) (q : ℕ) (unread : List Waiting) → lives journal q ≡ true →
    is_waiting q unread ≡ true →
    is_waiting q (of_live journal unread) ≡ true
waiting_kept journal q [] l h = cc
waiting_kept journal q (w ∷ rest) l h = by (w.number == q) refl h (waiting_kept journal q rest l)
  where
    more : (b : Bool) → is_waiting q (of_live journal rest) ≡ true →
        is_waiting q (cond b (w ∷ of_live journal rest) (of_live journal rest)) ≡ true
    more true k = or_right (w.number == q) (is_waiting q (of_live journal rest)) k
    more false k = k

    by : (b : Bool) → (w.number == q) ≡ b → (b || is_waiting q rest) ≡ true →
        (is_waiting q rest ≡ true → is_waiting q (of_live journal rest) ≡ true) →
        is_waiting q (of_live journal (w ∷ rest)) ≡ true
    by true e k f =
        ap (λ (b : Bool). is_waiting q (kept_by journal w rest b)) (is_number journal w q true e l)
        ∙ ap (λ (b : Bool). b || is_waiting q (of_live journal rest)) e
    by false e k f = more (lives journal w.number) (f k)

-- and whatever its bytes are
pub waiting_with : (q : ℕ) (bytes : List ℕ) (k : ℕ) (unread : List Waiting) →
    is_waiting k (with_unread q bytes unread) ≡ is_waiting k unread
waiting_with q bytes k [] = refl
waiting_with q bytes k (w ∷ rest) = by (w.number == q) (waiting_with q bytes k rest)
  where
    by : (b : Bool) → is_waiting k (with_unread q bytes rest) ≡ is_waiting k rest →
        is_waiting k (first_by q bytes w rest b) ≡ is_waiting k (w ∷ rest)
    by true h = refl
    by false h = ap (λ (b : Bool). (w.number == k) || b) h

-- one more at the end
pub waiting_more : (q : ℕ) (unread more : List Waiting) → is_waiting q unread ≡ true →
    is_waiting q (unread ++ more) ≡ true
waiting_more q [] more h = cc
waiting_more q (w ∷ rest) more h = by (w.number == q) h (waiting_more q rest more)
  where
    by : (b : Bool) → (b || is_waiting q rest) ≡ true → (is_waiting q rest ≡ true → is_waiting q (rest ++ more) ≡ true)
        →
        (b || is_waiting q (rest ++ more)) ≡ true
    by true k f = refl
    by false k f = f k

pub waiting_last : (w : Waiting) (q : ℕ) (unread : List Waiting) → (w.number == q) ≡ true →
    is_waiting q (unread ++ w ∷ []) ≡ true
waiting_last w q [] e = ap (λ (b : Bool). b || false) e
waiting_last w q (x ∷ rest) e = by (x.number == q) (waiting_last w q rest e)
  where
    by : (b : Bool) → is_waiting q (rest ++ w ∷ []) ≡ true → (b || is_waiting q (rest ++ w ∷ [])) ≡ true
    by true k = refl
    by false k = k
