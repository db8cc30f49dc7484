-- The text of what a journal has more stands behind the text of what it had.
use Rattle.std.proofs.Common.{◌≡◌, ℕ, suc, List, [], ◌∷◌, ◌++◌, length, Bool, Option, Some, None, refl, sym, ap, ◌∙◌, arith, append_assoc, length-append}
use Rattle.std.specs.Prelude.{if◌then◌else◌, IfSome, string_bytes, String, Result, Ok, Err}
use Rattle.std.specs.Global.{Global}
use Rattle.std.proofs.lemmas.Bool.{le-leb, lt-leb}
use Rattle.std.proofs.lemmas.List.{append-nil}
use Rattle.broker_model.specs.declared.journal.Entry.{Entry}
use Rattle.lines_transcript.specs.Transcribed.{entry_text, journal_text}
use Rattle.lines_transcript.specs.Transcribed.{text_since}
use Rattle.seat_set.specs.declared.session.Stop.{Stop}
use Rattle.seat_set.specs.declared.session.Stop.TheVariants as stops
use Rattle.seat_set.specs.Played.{Play, Played}
use Rattle.seat_set.specs.Playing.{IsMore, IsPlayed, IsWritten, IsFront}

none_since : (capacity : ℕ) (journal : List Entry) → text_since capacity (length journal) journal ≡ []
none_since capacity [] = refl
none_since capacity (e ∷ older) =
    ap (λ (b : Bool). (if b then text_since capacity (suc (length older)) older ++ entry_text capacity e older else []))
    (lt-leb (suc (length older)) (length older) (omega arith))

more_since : (capacity : ℕ) (more t : List Entry) →
    journal_text capacity (more ++ t) ≡ journal_text capacity t ++ text_since capacity (length t) (more ++ t)
more_since capacity [] t = sym (append-nil (journal_text capacity t))
    ∙ ap (λ (l : List ℕ). journal_text capacity t ++ l) (sym (none_since capacity t))
more_since capacity (e ∷ more) t =
    let long = length-append more t in
    let older : List Entry = more ++ t in
    ap (λ (l : List ℕ). l ++ entry_text capacity e older) (more_since capacity more t)
    ∙ append_assoc (journal_text capacity t) (text_since capacity (length t) older) (entry_text capacity e older)
    ∙ ap (λ (l : List ℕ). journal_text capacity t ++ l)
    (sym (ap (λ (b : Bool). (if b then text_since capacity (length t) older ++ entry_text capacity e older else []))
    (le-leb (length t) (length older) (omega arith))))

pub written : (capacity : ℕ) (before after : Play) (o : Option (String Global)) → IsMore before.journal after.journal →
    IfSome o (λ text. string_bytes text ≡ text_since capacity (length before.journal) after.journal) →
    IfSome o (IsWritten capacity before after)
written capacity before after None m h = tt
written capacity before after (Some text) m h =
    ap (journal_text capacity) m.is ∙ more_since capacity m.more before.journal
    ∙ ap (λ (l : List ℕ). journal_text capacity before.journal ++ l)
    (ap (text_since capacity (length before.journal)) (sym m.is) ∙ sym h)

-- what was played is a front of where the line leads, and no text is a front of what was written
played_more : (p : Played) (r : Result (Unit {0}) Stop) (after : Play) → IsPlayed p r after →
    IsMore after.journal p.play.journal
played_more p (Ok done) after h = record { more = []; is = sym (ap (λ (x : Play). x.journal) h.1) }
played_more p (Err (stops.Full kept)) after h = record { more = []; is = sym h.2 }
played_more p (Err stops.NoMemory) after h = h

pub short_line : (capacity : ℕ) (p : Played) (r : Result (Unit {0}) Stop) (before after : Play) (text : String Global) →
    IsPlayed p r after →
    IsMore before.journal after.journal → string_bytes text ≡ [] →
    IsMore after.journal p.play.journal × IsFront capacity before after text
short_line capacity p r before after text h m e = (
  played_more p r after h,
  record {
    rest = text_since capacity (length before.journal) (m.more ++ before.journal);
    is = ap (journal_text capacity) m.is ∙ more_since capacity m.more before.journal
        ∙ ap (λ (l : List ℕ). journal_text capacity before.journal ++
        (l ++ text_since capacity (length before.journal) (m.more ++ before.journal))) (sym e);
  },
)
