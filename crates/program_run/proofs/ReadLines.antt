-- What one answer of the reader makes of the bytes and the lines that were read.
use Rattle.std.proofs.Common.{◌≡◌, ◌≢◌, ℕ, ◌+◌, ◌-◌, ◌<◌, ◌≤◌, Bool, true, false, eqb, List, [], ◌∷◌, ◌++◌, length, take, Option, Some, None, refl, sym, ap, ◌∙◌, subst, arith, append_assoc, append-nil, length-append}
use Rattle.std.specs.Prelude.{IfSome}
use Rattle.std.specs.Option.{option_map}
use Rattle.std.specs.Io.KnownBytes.{Consumes}
use Rattle.std.proofs.KnownBytes.{Appends-nil}
use Rattle.std.proofs.lemmas.Bool.Decides.{nat_tests}
use Rattle.std.proofs.lemmas.List.{take_all}
use Rattle.std.proofs.Math.Seq.{take-append-add, take-append_seam}
use Rattle.wio_core.specs.Lines.{LacksFeed, TookFrom}
use Rattle.wio_core.specs.LineAnswers.{LinesAhead, WholeLine, LastLine, GoesOn}
use Rattle.wio_core.specs.declared.line_reader.LineStop.{LineStop}
use Rattle.wio_core.specs.declared.line_reader.LineStop.TheVariants as stop
use Rattle.wio_core.specs.declared.line_reader.NextLine.{NextLine}
use Rattle.wio_core.proofs.ReadsTogether.{TookFrom-both}
use Rattle.program_run.specs.Lines.{lines_of, lines_read, taken, is_cut, bytes_of, size_of}
use Rattle.program_run.specs.Reading.{LackFeeds, IsDivided, IsReadTo, LeadsOff}
use Rattle.program_run.proofs.InputSplits.{lines_front, lines_last, length_of, size_both, bytes_both, lack_both, few_lines}

-- the bytes read by now, where the reader goes on: the lines before, and those at which it looks
pub record ReadBytes (limit : ℕ) (given_first left_first given left : Option (List ℕ)) (after : LinesAhead)
    (done : List (List ℕ))
    (bytes read : List ℕ) : Type 0 where
  pub took : TookFrom given_first given left_first left read
  pub room : after.room ≡ Some (limit - length read)
  pub within : length read ≤ limit
  pub small : limit ≤ 4294967296
  pub split : read ≡ bytes_of done ++ bytes
  pub lack : LackFeeds done
  pub near : length read ≤ size_of done + 16384

room_left : {limit : ℕ} (room room_after : Option ℕ) (read more : List ℕ) → room ≡ Some (limit - length read)
    → length read ≤ limit
    → room_after ≡ option_map (λ n. n - length more) room → IfSome room (λ n. length more ≤ n)
    → (room_after ≡ Some (limit - length (read ++ more))) × (length (read ++ more) ≤ limit)
room_left {limit} None room_after read more e within after fits = cc
room_left {limit} (Some n) room_after read more e within after fits =
    let is : n ≡ limit - length read = cc in
    let len = length-append read more in
    let count : n - length more ≡ limit - length (read ++ more) = omega (arith, len) in
    (after ∙ ap (λ k. Some k) count, omega (arith, len))

divided_open : (limit : ℕ) (settled : Option LineStop) (held : List ℕ) (left : Option (List ℕ)) (done : List (List ℕ))
    (read : List ℕ) → settled ≡ None
    → IsDivided limit settled held left done read → (read ≡ bytes_of done ++ held) × LackFeeds done
divided_open limit settled held left done read e h = subst (λ o. IsDivided limit o held left done read) e h

pub went_on : {limit : ℕ} (gf lf g0 l0 g1 l1 : Option (List ℕ)) (before after : LinesAhead) (result : NextLine)
    (done : List (List ℕ)) (read more : List ℕ)
    → IsReadTo limit gf lf g0 l0 before done read → before.settled ≡ None → GoesOn before after g0 g1 l0 l1 result more
    → ReadBytes limit gf lf g1 l1 after done (before.held ++ more) (read ++ more)
went_on {limit} gf lf g0 l0 g1 l1 before after result done read more r e goes =
    let room = room_left before.room after.room read more r.room r.within goes.gathers.room goes.gathers.within in
    let d = divided_open limit before.settled before.held l0 done read e r.divided in
    let split : read ++ more ≡ bytes_of done ++ (before.held ++ more) = ap (λ l. l ++ more) d.0
    ∙ append_assoc (bytes_of done) before.held more in
    let near = goes.near in
    record {
      took = TookFrom-both gf g0 g1 lf l0 l1 read more r.took goes.took;
      room = room.0;
      within = room.1;
      small = r.small;
      split = split;
      lack = d.1;
      near = omega (
        arith,
        ap length split,
        length-append (bytes_of done)
            (before.held ++ more),
        length-append before.held more,
        length_of done,
        near,
      );
    }

-- what the lines of the whole input begin with

taken_split : {limit : ℕ} (read rest : List ℕ) → length read ≤ limit
    → taken limit (read ++ rest) ≡ read ++ take (limit - length read) rest
unfolding taken
taken_split {limit} read rest within =
    let n : limit ≡ length read + (limit - length read) = omega arith in
    ap (λ k. take k (read ++ rest)) n ∙ take-append-add read rest (limit - length read)

lines_split : (cut : Bool) (done : List (List ℕ)) (bytes read rest : List ℕ) → read ≡ bytes_of done ++ bytes
    → LackFeeds done
    → lines_of cut (read ++ rest) ≡ done ++ lines_of cut (bytes ++ rest)
lines_split cut done bytes read rest split lack =
    ap (λ l. lines_of cut (l ++ rest)) split ∙ ap (lines_of cut) (append_assoc (bytes_of done) bytes rest)
    ∙ lines_front cut done (bytes ++ rest) lack

pub input_lines : {limit : ℕ} (done : List (List ℕ)) (bytes read rest all : List ℕ) → all ≡ read ++ rest
    → length read ≤ limit → read ≡ bytes_of done ++ bytes → LackFeeds done
    → lines_read limit all ≡ done ++ lines_of (is_cut limit all) (bytes ++ take (limit - length read) rest)
unfolding lines_read
input_lines {limit} done bytes read rest all e within split lack =
    ap (λ l. lines_of (is_cut limit all) (taken limit l)) e
    ∙ ap (lines_of (is_cut limit all)) (taken_split read rest within)
    ∙ lines_split (is_cut limit all) done bytes read (take (limit - length read) rest) split lack

-- the whole input was read
pub input_ended : {limit : ℕ} (done : List (List ℕ)) (read all : List ℕ) → all ≡ read → length read < limit
    → lines_of false read ≡ done
    → (is_cut limit all ≡ false) × (lines_read limit all ≡ done)
unfolding lines_read is_cut taken
input_ended {limit} done read all e short lines =
    let whole : take limit all ≡ read = ap (take limit) e ∙ take_all limit read (omega arith) in
    let open_end : eqb (length (take limit all)) limit ≡ false =
    rw whole (let ne : length read ≢ limit = omega arith in grind (arith, nat_tests)) in
    (open_end, rw (open_end, whole) lines)

-- the limit was read
pub input_cut : {limit : ℕ} (read rest all : List ℕ) → all ≡ read ++ rest → length read ≡ limit
    → (is_cut limit all ≡ true) × (lines_read limit all ≡ lines_of true read)
unfolding lines_read is_cut taken
input_cut {limit} read rest all e full =
    let whole : take limit all ≡ read = ap (take limit) e ∙ ap (λ n. take n (read ++ rest)) (sym full)
    ∙ take-append_seam read rest in
    let cut : eqb (length (take limit all)) limit ≡ true =
    rw whole (let same : length read ≡ limit = full in grind (arith, nat_tests)) in
    (cut, rw (cut, whole) refl)

-- the lines that were given, at the front of those of the whole input
pub leads : {limit : ℕ} (gf lf g l : Option (List ℕ)) (reader : LinesAhead) (done : List (List ℕ)) (read : List ℕ)
    → IsReadTo limit gf lf g l reader done read → LeadsOff limit lf done
leads {limit} gf None g l reader done read r = tt
leads {limit} gf (Some all) g None reader done read r = absurd r.took.left
leads {limit} gf (Some all) g (Some rest) reader done read r = by reader.settled r.divided
  where
    by : (o : Option LineStop) → IsDivided limit o reader.held (Some rest) done read → (more : List (List ℕ))
        × (lines_read limit all ≡ done ++ more)
    by None d = (
      lines_of (is_cut limit all) (reader.held ++ take (limit - length read) rest),
      input_lines done reader.held read rest all r.took.left r.within d.0 d.1,
    )
    by (Some stop.End) d = (
      [],
      (input_ended done read all (r.took.left ∙ ap (λ l. read ++ l) d.0 ∙ append-nil read) d.1 d.2).1
          ∙ sym (append-nil done),
    )
    by (Some stop.Long) d = absurd d
    by (Some stop.Limit) d = absurd d
    by (Some stop.ReadFault) d = absurd d

-- nothing came where the source is as before
pub none_came : (lf l0 l1 : Option (List ℕ)) (read more : List ℕ) → Consumes lf l0 read → Consumes l0 l1 more → l1 ≡ l0
    → IfSome lf (λ all. read ++ more ≡ read)
none_came None l0 l1 read more first next same = tt
none_came (Some all) None l1 read more first next same = absurd first
none_came (Some all) (Some rest) l1 read more first next same =
    let again : rest ≡ more ++ rest = subst (λ o. Consumes (Some rest) o more) same next in
    let none : length more ≡ 0 = omega (arith, ap length again, length-append more rest) in
    empty_behind read more none
  where
    empty_behind : (read more : List ℕ) → length more ≡ 0 → read ++ more ≡ read
    empty_behind read [] e = append-nil read
    empty_behind read (x ∷ more) e = absurd (omega arith)

-- a line with its line feed
pub whole_line : {limit : ℕ} (gf lf g l : Option (List ℕ)) (after : LinesAhead) (done : List (List ℕ))
    (raw bytes read : List ℕ)
    → ReadBytes limit gf lf g l after done bytes read → WholeLine bytes raw after
    → IsReadTo limit gf lf g l after (done ++ raw ∷ []) read
whole_line {limit} gf lf g l after done raw bytes read b w =
    let more : bytes_of (done ++ raw ∷ []) ≡ bytes_of done ++ (raw ++ 10 ∷ []) = bytes_both done (raw ∷ []) in
    let split : read ≡ bytes_of (done ++ raw ∷ []) ++ after.held =
    b.split ∙ ap (λ t. bytes_of done ++ t) (w.begins.split ∙ sym (append_assoc raw (10 ∷ []) after.held))
    ∙ sym (append_assoc (bytes_of done) (raw ++ 10 ∷ []) after.held) ∙ ap (λ t. t ++ after.held) (sym more) in
    record {
      took = b.took;
      room = b.room;
      within = b.within;
      small = b.small;
      divided = subst (λ o. IsDivided limit o after.held l (done ++ raw ∷ []) read) (sym w.goes_on)
          (split, lack_both done (raw ∷ []) b.lack (w.begins.lacks, tt));
    }

-- the last line, without one
pub last_line_read : {limit : ℕ} (gf lf g l : Option (List ℕ)) (after : LinesAhead) (done : List (List ℕ))
    (raw bytes read : List ℕ)
    → ReadBytes limit gf lf g l after done bytes read → LastLine bytes raw after l
    → IsReadTo limit gf lf g l after (done ++ raw ∷ []) read
last_line_read {limit} gf lf g l after done raw bytes read b w =
    let lacks : LacksFeed raw = subst LacksFeed w.all w.cause.0.lacks in
    let split : read ≡ bytes_of done ++ raw = b.split ∙ ap (λ t. bytes_of done ++ t) w.all in
    let lines : lines_of false read ≡ done ++ raw ∷ [] =
    ap (lines_of false) split ∙ lines_front false done raw b.lack ∙ ap (λ t. done ++ t) (lines_last raw lacks w.some) in
    let other : length read ≢ limit = λ full. w.cause.2 (b.room ∙ ap (λ n. Some n) (omega arith)) in
    let within = b.within in
    let some = w.some in
    let long : length read ≡ size_of done + length raw =
    omega (arith, ap length split, length-append (bytes_of done) raw, length_of done) in
    let few = few_lines done in
    let lines_more : length (done ++ raw ∷ []) ≡ length done + 1 = length-append done (raw ∷ []) in
    record {
      took = b.took;
      room = b.room;
      within = b.within;
      small = b.small;
      divided = subst (λ o. IsDivided limit o after.held l (done ++ raw ∷ []) read) (sym w.settled)
          (w.cause.1, omega arith, lines, omega (arith, size_both done (raw ∷ [])), omega arith);
    }

-- nothing was read yet
pub first_read : {limit : ℕ} (given left : Option (List ℕ)) (reader : LinesAhead)
    → limit ≤ 4294967296 → reader ≡ record { held = []; room = Some limit; settled = None }
    → IsReadTo limit given left given left reader [] []
first_read {limit} given left reader small e =
    subst (λ r. IsReadTo limit given left given left r [] []) (sym e) (record {
      took = record { given = Appends-nil given; left = consumes_none left };
      room = ap (λ n. Some n) (omega arith);
      within = omega arith;
      small = small;
      divided = (refl, tt);
    })
  where
    consumes_none : (o : Option (List ℕ)) → Consumes o o []
    consumes_none None = tt
    consumes_none (Some xs) = refl
