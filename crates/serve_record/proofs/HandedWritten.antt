-- What one more hand-out makes of the pass, and of the output
use Rattle.std.proofs.Common.{◌≡◌, ◌≤◌, ◌++◌, ◌∷◌, [], ℕ, List, length, Option, Some, None, Result, Ok, Err, OnOk, OnErr, ap, sym, subst, ◌∙◌, append-nil, refl, arith}
use Rattle.std.proofs.lemmas.List.{append_assoc}
use Rattle.broker_steps.specs.declared.limits.Limits.{Limits}
use Rattle.session_text.specs.declared.line.Line.TheVariants.{Header}
use Rattle.broker_core.specs.declared.letting_go.LetGo.{LetGo}
use Rattle.turn_lock.specs.Pairs.{HasSeen, NoneOf}
use Rattle.hub_lock.specs.Seats.{having_seen}
use Rattle.turn_lock.proofs.PairsOfNumbers.{none-append}
use Rattle.hub_lock.specs.Histories.{History, broker_of}
use Rattle.hub_lock.specs.Passes.{PassSeat, Recorder}
use Rattle.hub_lock.specs.Recording.{after_handing, with_next, LegalHandOut}
use Rattle.hub_lock.proofs.LinesOfEntries.{handed-fits}
use Rattle.serve_record.specs.Recorded.{text_line}
use Rattle.serve_record.specs.Lines.{lines_text, Holds, GainsFront, Gains}
use Rattle.serve_record.specs.Handed.{handed_lines, handed_text, MadeNoStep, HandsOut}
use Rattle.serve_record.proofs.RecordGrows.{holds_more, holds_then_front, holds_through}

-- the pass has seen more

pub seat_on : (first seat seat' : PassSeat) → seat ≡ having_seen first seat.seen → seat' ≡ having_seen seat seat'.seen
    → seat' ≡ having_seen first seat'.seen
seat_on first seat seat' e e' = e' ∙ ap (λ (s : PassSeat). having_seen s seat'.seen) e

pub seen_on : (first seat : PassSeat) (h : History) → seat ≡ having_seen first seat.seen
    → HasSeen seat.seen first.number first.seen → HasSeen h seat.number seat.seen → HasSeen h first.number first.seen
seen_on first seat h e s t =
    let free : NoneOf first.number t.0 =
    subst (λ n. NoneOf n t.0) (ap (λ (q : PassSeat). q.number) e) t.2 in (
      s.0 ++ t.0,
      t.1 ∙ (ap (λ x. x ++ t.0) s.1 ∙ append_assoc first.seen s.0 t.0),
      none-append first.number s.0 t.0 s.2 free,
    )

pub seat_after : (p p' : Recorder) (r : Option LetGo) → p' ≡ after_handing p p'.seat.seen r
    → p'.seat ≡ having_seen p.seat p'.seat.seen
seat_after p p' r e = ap (λ (x : Recorder). x.seat) e

pub handed_after : (p p' : Recorder) (r : Option LetGo) → p' ≡ after_handing p p'.seat.seen r
    → p'.handed ≡ with_next r p.handed
handed_after p p' r e = ap (λ (x : Recorder). x.handed) e

pub seen_after : (limits : Limits) (p : Recorder) (after : History) (r : Option LetGo) → LegalHandOut limits p after r
    → HasSeen after p.seat.number p.seat.seen
seen_after limits p after r k = (k.rest, k.answer.same, k.apart)

pub no_step_on : (a b c : PassSeat) → MadeNoStep a b → MadeNoStep b c → MadeNoStep a c
no_step_on a b c one two = record {
  seat = seat_on a b c one.seat two.seat;
  seen = seen_on a b c.seen one.seat one.seen two.seen;
}

-- what a hand-out makes of the pass

pub no_step_of : (limits : Limits) (p p' : Recorder) (r : Option LetGo) → p' ≡ after_handing p p'.seat.seen r
    → LegalHandOut limits p p'.seat.seen r → MadeNoStep p.seat p'.seat
no_step_of limits p p' r e k = record {
  seat = seat_after p p' r e;
  seen = seen_after limits p p'.seat.seen r k;
}

-- where none was handed out, all were
pub all_out : (limits : Limits) (p p' : Recorder) → p' ≡ after_handing p p'.seat.seen None
    → LegalHandOut limits p p'.seat.seen None → length (broker_of limits p'.seat.seen).journal ≤ length p'.handed
all_out limits p p' e k =
    let before : History = p.seat.seen ++ k.rest in
    let few : length (broker_of limits before).journal ≤ length p.handed = k.answer.out.none in
    subst (λ (l : List LetGo). length (broker_of limits p'.seat.seen).journal ≤ length l)
    (sym (handed_after p p' None e))
    (subst (λ (h : History). length (broker_of limits h).journal ≤ length p.handed) (sym k.answer.same) few)

pub hands_out : (limits : Limits) (p p' : Recorder) (r : Option LetGo) → p' ≡ after_handing p p'.seat.seen r
    → LegalHandOut limits p p'.seat.seen r → HandsOut limits p p' r
hands_out limits p p' None e k = record {
  handed = handed_after p p' None e;
  fits = tt;
  all = λ none. all_out limits p p' e k;
}
hands_out limits p p' (Some it) e k = record {
  handed = handed_after p p' (Some it) e;
  fits = handed-fits limits p p'.seat.seen it k;
  all = λ none. absurd (cc);
}

-- the same after none was
pub hands_on : (limits : Limits) (p q p' : Recorder) (r : Option LetGo) → q.handed ≡ p.handed → HandsOut limits q p' r
    → HandsOut limits p p' r
hands_on limits p q p' r same hands = record {
  handed = hands.handed ∙ ap (with_next r) same;
  fits = hands.fits;
  all = hands.all;
}

-- the text of one more
more_text : (limits : Limits) (handed : List LetGo) (it : LetGo)
    → handed_text limits handed ++ lines_text (Some it.entry) (Some it.stamp) ≡ handed_text limits (it ∷ handed)
more_text limits handed it =
    append_assoc (text_line (Header limits)) (handed_lines handed) (lines_text (Some it.entry) (Some it.stamp))

pub holds_on : (limits : Limits) (a b c : Option (List ℕ)) (waits waits' : List ℕ) (handed handed' : List LetGo)
    (it : LetGo) → handed' ≡ it ∷ handed → Holds a b waits (handed_text limits handed)
    → Holds b c waits' (waits ++ lines_text (Some it.entry) (Some it.stamp))
    → Holds a c waits' (handed_text limits handed')
holds_on limits a b c waits waits' handed handed' it e first then =
    subst (λ l. Holds a c waits' (handed_text limits l)) (sym e)
    (subst (Holds a c waits') (more_text limits handed it)
    (holds_more a b c waits waits' (lines_text (Some it.entry) (Some it.stamp)) (handed_text limits handed) first then))

pub front_on : (limits : Limits) (a b c : Option (List ℕ)) (waits : List ℕ) (handed handed' : List LetGo)
    (it : LetGo) → handed' ≡ it ∷ handed → Holds a b waits (handed_text limits handed)
    → GainsFront b c (waits ++ lines_text (Some it.entry) (Some it.stamp))
    → GainsFront a c (handed_text limits handed')
front_on limits a b c waits handed handed' it e first then =
    subst (λ l. GainsFront a c (handed_text limits l)) (sym e)
    (subst (GainsFront a c) (more_text limits handed it)
    (holds_then_front a b c waits (lines_text (Some it.entry) (Some it.stamp)) (handed_text limits handed) first then))

-- none was handed out

pub holds_same : (limits : Limits) (a b : Option (List ℕ)) (waits : List ℕ) (handed handed' : List LetGo)
    → handed' ≡ handed → Holds a b waits (handed_text limits handed) → Holds a b waits (handed_text limits handed')
holds_same limits a b waits handed handed' e holds =
    subst (λ l. Holds a b waits (handed_text limits l)) (sym e) holds

pub front_same : (limits : Limits) (a b : Option (List ℕ)) (handed handed' : List LetGo) → handed' ≡ handed
    → GainsFront a b (handed_text limits handed) → GainsFront a b (handed_text limits handed')
front_same limits a b handed handed' e front = subst (λ l. GainsFront a b (handed_text limits l)) (sym e) front

-- what a call tells that failed
pub on_fault : {T E : Type 0} (r : Result T E) (P Q : Type 0) → OnOk r ⊥ → Q → OnOk r P × OnErr r Q
on_fault (Ok x) P Q never q = absurd never
on_fault (Err e) P Q never q = (tt, q)

-- the pass has seen more, and the output has the text of what was handed out, but for what waits
pub record IsRecording {S : Type 0} (held : S → Option (List ℕ)) (faults : S → ℕ) (limits : Limits) (p p' : Recorder)
    (old new : S) (waits waits' : List ℕ) : Type 0 where
  pub none_made : MadeNoStep p.seat p'.seat
  pub written : (first : Option (List ℕ)) → Holds first (held old) waits (handed_text limits p.handed)
      → Holds first (held new) waits' (handed_text limits p'.handed)
  pub never_falls : faults old ≤ faults new
  pub none_failed : faults new ≡ faults old

module _ {S : Type 0} {held : S → Option (List ℕ)} {faults : S → ℕ} {limits : Limits} where
  pub recording_begins : (p : Recorder) (s : S) (waits : List ℕ) → IsRecording held faults limits p p s s waits waits
  recording_begins p s waits = record {
    none_made = record { seat = refl; seen = ([], sym (append-nil p.seat.seen), refl) };
    written = λ first holds. holds;
    never_falls = omega arith;
    none_failed = refl;
  }

  -- one more was handed out and written
  pub recording_more : {T U E : Type 0} {p q r : Recorder} {a b c d : S} {waits waits' waits'' left : List ℕ}
      {it : LetGo}
      {x : T} {y : U} {e f : E} → IsRecording held faults limits p q a b waits waits' → MadeNoStep q.seat r.seat
      → HandsOut limits q r (Some it) → Gains held faults b c waits'' waits' e (Ok x)
      → Gains held faults c d left (waits'' ++ lines_text (Some it.entry) (Some it.stamp)) f (Ok y)
      → IsRecording held faults limits p r a d waits left
  recording_more {T} {U} {E} {p} {q} {r} {a} {b} {c} {d} {waits} {waits'} {waits''} {left} {it} so_far
      none_made hands out
      put = record {
        none_made = no_step_on p.seat q.seat r.seat so_far.none_made none_made;
        written = λ first holds. holds_on limits first (held c) (held d) waits'' left q.handed r.handed it hands.handed
            (holds_through first (held b) (held c) waits' waits'' (handed_text limits q.handed)
            (so_far.written first holds)
            out.whole) put.whole;
        never_falls =
            let one = so_far.never_falls in
            let two = out.never_falls in
            let three = put.never_falls in omega arith;
        none_failed = put.no_fault (λ is. cc) ∙ (out.no_fault (λ is. cc) ∙ so_far.none_failed);
      }
