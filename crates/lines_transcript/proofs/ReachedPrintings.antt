-- What a printer that watched comes to: all that it watched printed, or where memory was short a front of that text.
use Rattle.std.proofs.Common.{◌≡◌, ℕ, List, [], ◌∷◌, ◌++◌, Bool, true, false, ap, refl, sym, subst, ◌∙◌, append_assoc}
use Rattle.std.specs.Prelude.{Result, Ok, Err, is_err, OnOk, OnErr}
use Rattle.std.proofs.lemmas.List.{append-nil}
use Rattle.std.proofs.lemmas.Bool.{true≢false}
use Rattle.broker_core.specs.Reached.{Reached}
use Rattle.lines_transcript.specs.Transcript.{out_line}
use Rattle.broker_model.specs.declared.journal.Entry.{Entry}
use Rattle.broker_core.specs.Watched.{Watched, watched_since}
use Rattle.broker_core.specs.Watched.Watched.{Entered, Placed, Passed, Modified, Put}
use Rattle.lines_transcript.specs.Transcribed.{with_feed, head_text, text_since}
use Rattle.lines_transcript.specs.Printed.{Printing, blank, printed, IsPrinted, MayPrint, IsFront}
use Rattle.lines_transcript.proofs.PrintedEntries.{all_printed, full, since_printed}

-- fronts

front_self : (text : List ℕ) → IsFront text text
front_self text = ([], append-nil text)

front_more : (a b more : List ℕ) → IsFront a b → IsFront a (b ++ more)
front_more a b more h = (h.0 ++ more, sym (append_assoc a h.0 more) ∙ ap (λ (l : List ℕ). l ++ more) h.1)

front_front : (a b c : List ℕ) → IsFront a b → IsFront b c → IsFront a c
front_front a b c h k = (h.0 ++ k.0, sym (append_assoc a h.0 k.0) ∙ ap (λ (l : List ℕ). l ++ k.0) h.1 ∙ k.1)

one_grows : (event : Watched) (p : Printing) → IsFront p.text (printed event p).text
one_grows (Entered n e act log) p = (p.shell ++ head_text n e, refl)
one_grows (Placed n q id x y) p = front_self p.text
one_grows (Passed n time key state) p = front_self p.text
one_grows (Modified n mods) p = front_self p.text
one_grows (Put n q bytes tokens) p = (with_feed (out_line n q bytes tokens), refl)

all_grow : (events : List Watched) (p : Printing) → IsFront p.text (all_printed events p).text
all_grow [] p = front_self p.text
all_grow (event ∷ rest) p =
    front_front p.text (printed event p).text (all_printed rest (printed event p)).text (one_grows event p)
    (all_grow rest (printed event p))

stays_unshort : (event : Watched) (p : Printing) → (printed event p).is_short ≡ p.is_short
stays_unshort (Entered n e act log) p = refl
stays_unshort (Placed n q id x y) p = refl
stays_unshort (Passed n time key state) p = refl
stays_unshort (Modified n mods) p = refl
stays_unshort (Put n q bytes tokens) p = refl

-- short once, short for ever
stays_short : (events : List Watched) (p q : Printing) → p.is_short ≡ true → Reached MayPrint p events q → q ≡ p
stays_short [] p q s h = h
stays_short (event ∷ rest) p q s h =
    let same : h.0 ≡ p = subst (λ (b : Bool). IsPrinted b h.0.is_short p event h.0) s h.1 in
    stays_short rest h.0 q (ap (λ (x : Printing). x.is_short) same ∙ s) h.2 ∙ same

-- what it comes to
pub record ComesTo (all q : Printing) : Type 0 where
  pub whole : q.is_short ≡ false → q ≡ all
  pub front : IsFront q.text all.text

pub comes_to : (events : List Watched) (p q : Printing) → p.is_short ≡ false → Reached MayPrint p events q →
    ComesTo (all_printed events p) q
comes_to [] p q s h =
    record { whole = λ _. h; front = subst (λ (x : Printing). IsFront x.text p.text) (sym h) (front_self p.text) }
comes_to (event ∷ rest) p q s h =
    by_memory h.0.is_short refl (subst (λ (b : Bool). IsPrinted b h.0.is_short p event h.0) s h.1) (comes_to rest)
  where
    by_memory : (b : Bool) → h.0.is_short ≡ b → IsPrinted false b p event h.0 →
        ((x y : Printing) → x.is_short ≡ false → Reached MayPrint x rest y → ComesTo (all_printed rest x) y) →
        ComesTo (all_printed rest (printed event p)) q
    by_memory true short stays later =
        let still : q ≡ h.0 = stays_short rest h.0 q short h.2 in
        record {
          whole = λ f. absurd (true≢false (sym (ap (λ (x : Printing). x.is_short) still ∙ short) ∙ f));
          front = subst (λ (text : List ℕ). IsFront text (all_printed rest (printed event p)).text)
              (sym (ap (λ (x : Printing). x.text) still ∙ stays)) (all_grow (event ∷ rest) p);
        }
    by_memory false found is later = subst (λ (x : Printing). ComesTo (all_printed rest x) q) is (later h.0 q found h.2)

-- once it is closed

-- an answer that is no error
found_ok : {T E : Type 0} (P : Type 0) (r : Result T E) → is_err r ≡ false → OnOk r P → P
found_ok P (Ok x) f h = h
found_ok P (Err x) f h = absurd (true≢false f)

-- from nothing, its text with what the shell was told is that of the entries since
full_whole : (capacity k : ℕ) (journal : List Entry) (p : Printing) →
    Reached MayPrint blank (watched_since capacity k journal) p →
    p.is_short ≡ false → full p ≡ text_since capacity k journal
full_whole capacity k journal p h s =
    ap full ((comes_to (watched_since capacity k journal) blank p refl h).whole s)
    ∙ since_printed capacity k journal blank

pub closed_whole : {T E : Type 0} (capacity k : ℕ) (journal : List Entry) (p : Printing) (text : List ℕ)
    (r : Result T E) →
    Reached MayPrint blank (watched_since capacity k journal) p → p.is_short ≡ false → is_err r ≡ false →
    OnOk r (text ≡ full p) →
    text ≡ text_since capacity k journal
closed_whole capacity k journal p text r h s f ok =
    found_ok (text ≡ full p) r f ok ∙ full_whole capacity k journal p h s

-- or a front of it
pub open_front : (capacity k : ℕ) (journal : List Entry) (p : Printing) →
    Reached MayPrint blank (watched_since capacity k journal) p →
    IsFront p.text (text_since capacity k journal)
open_front capacity k journal p h =
    let all = all_printed (watched_since capacity k journal) blank in
    subst (λ (text : List ℕ). IsFront p.text text) (since_printed capacity k journal blank)
    (front_more p.text all.text all.shell (comes_to (watched_since capacity k journal) blank p refl h).front)

pub closed_front : {T E : Type 0} (capacity k : ℕ) (journal : List Entry) (p : Printing) (text : List ℕ)
    (r : Result T E) →
    Reached MayPrint blank (watched_since capacity k journal) p → p.is_short ≡ false → OnOk r (text ≡ full p) →
    OnErr r (text ≡ p.text) →
    IsFront text (text_since capacity k journal)
closed_front capacity k journal p text (Ok x) h s ok err =
    subst (λ (t : List ℕ). IsFront t (text_since capacity k journal)) (sym (ok ∙ full_whole capacity k journal p h s))
    (front_self (text_since capacity k journal))
closed_front capacity k journal p text (Err x) h s ok err =
    subst (λ (t : List ℕ). IsFront t (text_since capacity k journal)) (sym err) (open_front capacity k journal p h)
