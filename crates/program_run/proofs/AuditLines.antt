-- What one line more makes of an audit.
use Rattle.std.proofs.Common.{◌≡◌, ℕ, suc, ◌+◌, ◌^◌, ◌<◌, Bool, true, false, leb, List, [], ◌∷◌, ◌++◌, codes, length, Option, Some, None, Result, Ok, Err, refl, sym, ap, subst, ◌∙◌, arith, append_assoc, append-nil, length-append}
use Rattle.std.specs.Prelude.{◌==◌, ◌&&◌, if◌then◌else◌, IfOk}
use Rattle.std.specs.Str.{bytes_eq}
use Rattle.std.proofs.lemmas.Bool.{lt-leb}
use Rattle.std.proofs.lemmas.Slice.Eq.{bytes_eq-Decides}
use Rattle.session_text.specs.declared.line.Form.{Form}
use Rattle.session_text.specs.declared.line.Form.TheVariants.{Session, Session2}
use Rattle.session_text.specs.Reading.{line_of, line_limit}
use Rattle.broker_model.specs.Limits.{number_counted}
use Rattle.seat_set.specs.Played.{Played as Led}
use Rattle.audit_run.specs.declared.audit_line.AuditLine.{AuditLine}
use Rattle.audit_run.specs.declared.audit_line.AuditLine.TheVariants.{Step, Out}
use Rattle.audit_run.specs.declared.audit_line.AuditText.{AuditText}
use Rattle.audit_run.specs.declared.audit_line.AuditText.TheVariants as texts
use Rattle.audit_run.specs.Reading.{audit_line_of, behind_out, is_header, line_found, sent_by, step_by}
use Rattle.audit_run.specs.Judged.{judged}
use Rattle.audit_run.specs.Verdict.{is_good}
use Rattle.audit_run.specs.Standing.{Auditing, Stands}
use Rattle.program_run.specs.declared.audit.AuditPlay.{AuditPlay}
use Rattle.program_run.specs.declared.last_line.LastLine.{LastLine}
use Rattle.program_run.specs.declared.last_line.LastLine.TheVariants as last
use Rattle.program_run.specs.Endings.{Answer, with_front, ending, is_long}
use Rattle.program_run.specs.Scripts.{Follows, Settles, NamesNext, Played}
use Rattle.program_run.specs.Audit.{audit_from, audit_of_lines, by_audit_header, by_audit_line, by_end, counted, end_if_full, end_with, moment_of, text_after, timed}
use Rattle.program_run.specs.AuditPlayed.{IsAuditLinePlayed}
use Rattle.program_run.specs.AuditScript.{AuditStands, IsAuditOf, StandsBy}

-- any answer for the lines that came is one for what is left behind the header and these
abbrev GoesOn : List AuditLine → List (List ℕ) → Type 0
GoesOn log done = (cut : Bool) (more : List (List ℕ)) → audit_of_lines cut (done ++ more) ≡ audit_from cut log more

step : (log : List AuditLine) (done : List (List ℕ)) (raw : List ℕ) (o : Option AuditText) → GoesOn log done →
    o ≡ text_after (moment_of log) raw → (cut : Bool) (more : List (List ℕ)) →
    audit_of_lines cut ((done ++ raw ∷ []) ++ more)
    ≡ by_audit_line log o (λ line. audit_from cut (line ∷ log) more)
unfolding audit_from
step log done raw o goes is cut more =
    ap (audit_of_lines cut) (append_assoc done (raw ∷ []) more) ∙ goes cut (raw ∷ more)
    ∙ ap (λ (t : Option AuditText). by_audit_line log t (λ line. audit_from cut (line ∷ log) more)) (sym is)

-- a line that ends the output
settles : (log : List AuditLine) (done : List (List ℕ)) (raw : List ℕ) (o : Option AuditText) (end : LastLine) →
    GoesOn log done → o ≡ text_after (moment_of log) raw →
    ((rest : AuditLine → Answer) → by_audit_line log o rest ≡ ending end) → is_long (ending end).1 ≡ false →
    Settles audit_of_lines (done ++ raw ∷ []) (with_front [] (ending end))
settles log done raw o end goes is ends other = record {
  same = λ cut more. step log done raw o goes is cut more ∙ ends (λ line. audit_from cut (line ∷ log) more);
  decides = other;
}

follows : (log : List AuditLine) (done : List (List ℕ)) → GoesOn log done → Follows audit_of_lines done []
unfolding audit_from
follows log done goes = record {
  begins = λ cut more. (audit_from cut log more, goes cut more);
  undecided = ap (audit_of_lines true) (sym (append-nil done)) ∙ goes true [];
}

full_decides : (p : Led) (end : LastLine) → end_if_full p ≡ Some end → is_long (ending end).1 ≡ false
full_decides p end e = by p.is_full e
  where
    by : (b : Bool) → (if b then Some (last.Full (number_counted p.play.journal)) else None) ≡ Some end →
        is_long (ending end).1 ≡ false
    by true e = (let same : last.Full (number_counted p.play.journal) ≡ end = cc in
        subst (λ (l : LastLine). is_long (ending l).1 ≡ false) same refl)
    by false e = cc

end_decides : (log : List AuditLine) (line : AuditLine) (end : LastLine) → end_with log line ≡ Some end →
    is_long (ending end).1 ≡ false
end_decides log (Step stamp said) end e = full_decides (judged (Step stamp said ∷ log)) end e
end_decides log (Out q bytes) end e = by (is_good q bytes log) e
  where
    by : (b : Bool) → (if b then None else Some (last.No (length log + 2))) ≡ Some end → is_long (ending end).1 ≡ false
    by true e = cc
    by false e = (let same : last.No (length log + 2) ≡ end = cc in
        subst (λ (l : LastLine). is_long (ending l).1 ≡ false) same refl)

one_more : (done : List (List ℕ)) (raw : List ℕ) → length (done ++ raw ∷ []) ≡ length done + 1
one_more done raw = length-append done (raw ∷ [])

-- ---- a line after the header

goes_further : (log : List AuditLine) (line : AuditLine) (done : List (List ℕ)) (raw : List ℕ) → GoesOn log done →
    Some (texts.Line line) ≡ text_after (moment_of log) raw → end_with log line ≡ None →
    GoesOn (line ∷ log) (done ++ raw ∷ [])
goes_further log line done raw goes is none = λ cut more.
    step log done raw (Some (texts.Line line)) goes is cut more
    ∙ ap (λ (e : Option LastLine). by_end e (audit_from cut (line ∷ log) more)) none

stands_on : (log : List AuditLine) (line : AuditLine) (after : AuditPlay) (audit : Auditing) (before : ℕ)
    (done : List (List ℕ)) (raw : List ℕ) → GoesOn (line ∷ log) (done ++ raw ∷ []) → Stands (line ∷ log) audit →
    after.moment ≡ moment_of (line ∷ log) → before ≡ length log + 1 → before ≡ length done →
    after.audit ≡ Some audit → after.before ≡ before + 1 → AuditStands after (done ++ raw ∷ []) []
stands_on log line after audit before done raw goes stands moment count done-is still next = record {
  count = next ∙ ap (λ k. k + 1) done-is ∙ sym (one_more done raw);
  none = refl;
  stands = subst (λ (o : Option Auditing). StandsBy o after.moment after.before (done ++ raw ∷ [])) (sym still)
      (record {
        log = line ∷ log;
        stands = stands;
        at = moment;
        count = omega (arith, next, count);
        goes_on = goes;
      });
}

told_at : (after : AuditPlay) (audit : Auditing) (log : List AuditLine) (before : ℕ) (done : List (List ℕ))
    (raw : List ℕ) (o : Option AuditText) (end : Option LastLine) → GoesOn log done → before ≡ length log + 1 →
    before ≡ length done → o ≡ text_after (moment_of log) raw → IsAuditLinePlayed log o audit after.moment end →
    after.audit ≡ Some audit → after.before ≡ before + 1 →
    Played audit_of_lines (AuditStands after) (λ g. g ≡ []) done raw [] [] end
told_at after audit log before done raw None end goes count done-is is played still next =
    subst (Played audit_of_lines (AuditStands after) (λ g. g ≡ []) done raw [] []) (sym played)
    ([], refl, settles log done raw None (last.Bad (length log + 2)) goes is (λ rest. refl) refl)
told_at after audit log before done raw (Some texts.End) end goes count done-is is played still next =
    subst (Played audit_of_lines (AuditStands after) (λ g. g ≡ []) done raw [] []) (sym played)
    ([], refl, settles log done raw (Some texts.End) (last.Yes (counted log)) goes is (λ rest. refl) refl)
told_at after audit log before done raw (Some (texts.Line line)) None goes count done-is is played still next =
    let on = goes_further log line done raw goes is (sym played.0.ends) in (
      [],
      stands_on log line after audit before done raw on (played.0.stands refl) played.1 count done-is still next,
      refl,
      follows (line ∷ log) (done ++ raw ∷ []) on,
    )
told_at after audit log before done raw (Some (texts.Line line)) (Some end) goes count done-is is played still next =
    let ends : end_with log line ≡ Some end = sym played.0.ends in (
      [],
      refl,
      settles log done raw (Some (texts.Line line)) end goes is
          (λ rest. ap (λ (e : Option LastLine). by_end e (rest line)) ends) (end_decides log line end ends),
    )

-- the same beside what was gathered, which is nothing
told_by : (after : AuditPlay) (done : List (List ℕ)) (raw output gathered : List ℕ) (end : Option LastLine) →
    output ≡ [] → gathered ≡ [] → Played audit_of_lines (AuditStands after) (λ g. g ≡ []) done raw [] [] end →
    Played audit_of_lines (AuditStands after) (λ g. g ≡ []) done raw output gathered end
told_by after done raw output gathered end none nothing p =
    subst (λ (o : List ℕ). Played audit_of_lines (AuditStands after) (λ g. g ≡ []) done raw o gathered end) (sym none)
    (subst (λ (g : List ℕ). Played audit_of_lines (AuditStands after) (λ l. l ≡ []) done raw [] g end) (sym nothing) p)

opened : (play : AuditPlay) (audit : Auditing) (done : List (List ℕ)) (output : List ℕ) →
    AuditStands play done output → play.audit ≡ Some audit → IsAuditOf audit play.moment play.before done
opened play audit done output s begun =
    subst (λ (o : Option Auditing). StandsBy o play.moment play.before done) begun s.stands

-- of a call that may have found no memory
pub line_told : {E : Type 0} (play after : AuditPlay) (audit audit' : Auditing) (done : List (List ℕ))
    (raw output gathered : List ℕ) (r : Result (Option LastLine) E) → AuditStands play done output →
    play.audit ≡ Some audit → play.before < 2 ^ 63 →
    ((log : List AuditLine) → Stands log audit → play.moment ≡ moment_of log → play.before ≡ length log + 1 →
    play.before < 2 ^ 63 → IfOk r (IsAuditLinePlayed log (text_after play.moment raw) audit' after.moment)) →
    after.audit ≡ Some audit' → after.before ≡ play.before + 1 → gathered ≡ [] →
    IfOk r (Played audit_of_lines (AuditStands after) (λ g. g ≡ []) done raw output gathered)
line_told play after audit audit' done raw output gathered (Ok end) s begun few played still next nothing =
    let t = opened play audit done output s begun in
    told_by after done raw output gathered end s.none nothing
    (told_at after audit' t.log play.before done raw (text_after play.moment raw) end t.goes_on t.count s.count
    (ap (λ (m : ℕ). text_after m raw) t.at) (played t.log t.stands t.at t.count few) still next)
line_told play after audit audit' done raw output gathered (Err e) s begun few played still next nothing = tt

-- ---- the first line

unopened : (play : AuditPlay) (done : List (List ℕ)) (output : List ℕ) → AuditStands play done output →
    play.audit ≡ None → (play.moment ≡ 0) × (play.before ≡ 0) × (done ≡ [])
unopened play done output s none =
    subst (λ (o : Option Auditing). StandsBy o play.moment play.before done) none s.stands

first_goes : (done : List (List ℕ)) (raw : List ℕ) (b : Bool) → done ≡ [] → is_header raw ≡ b → (cut : Bool)
    (more : List (List ℕ)) → audit_of_lines cut ((done ++ raw ∷ []) ++ more) ≡ by_audit_header cut b more
first_goes done raw b none is cut more =
    ap (λ (d : List (List ℕ)). audit_of_lines cut ((d ++ raw ∷ []) ++ more)) none
    ∙ ap (λ (t : Bool). by_audit_header cut t more) is

pub header_told : (play after : AuditPlay) (audit : Auditing) (done : List (List ℕ)) (raw output gathered : List ℕ) →
    AuditStands play done output → play.audit ≡ None → is_header raw ≡ true → Stands [] audit →
    after.audit ≡ Some audit → after.moment ≡ play.moment → after.before ≡ play.before + 1 → gathered ≡ [] →
    Played audit_of_lines (AuditStands after) (λ g. g ≡ []) done raw output gathered None
header_told play after audit done raw output gathered s none is stands still moment next nothing =
    let first = unopened play done output s none in
    let on : GoesOn [] (done ++ raw ∷ []) = first_goes done raw true first.2 is in
    told_by after done raw output gathered None s.none nothing (
      [],
      record {
        count = next ∙ ap (λ k. k + 1) s.count ∙ sym (one_more done raw);
        none = refl;
        stands = subst (λ (o : Option Auditing). StandsBy o after.moment after.before (done ++ raw ∷ [])) (sym still)
            (record {
              log = [];
              stands = stands;
              at = moment ∙ first.0;
              count = next ∙ ap (λ k. k + 1) first.1;
              goes_on = on;
            });
      },
      refl,
      follows [] (done ++ raw ∷ []) on,
    )

no_header : (done : List (List ℕ)) (raw : List ℕ) → done ≡ [] → is_header raw ≡ false →
    Settles audit_of_lines (done ++ raw ∷ []) (with_front [] (ending (last.Bad 1)))
no_header done raw none is =
    record { same = λ cut more. first_goes done raw false none is cut more; decides = refl }

pub bad_header : (play after : AuditPlay) (done : List (List ℕ)) (raw output gathered : List ℕ) →
    AuditStands play done output → play.audit ≡ None → is_header raw ≡ false → gathered ≡ [] →
    Played audit_of_lines (AuditStands after) (λ g. g ≡ []) done raw output gathered (Some (last.Bad 1))
bad_header play after done raw output gathered s none is nothing =
    told_by after done raw output gathered (Some (last.Bad 1)) s.none nothing
    ([], refl, no_header done raw (unopened play done output s none).2 is)

-- ---- lines of more bytes than a line may have are none

none_read : (form : Form) (raw : List ℕ) → line_limit < length raw → line_of form raw ≡ None
unfolding line_of
none_read form raw long = let test : leb (length raw) 8400 ≡ false = lt-leb (length raw) 8400 long in rw test refl

behind_long : (raw rest : List ℕ) → behind_out raw ≡ Some rest → length raw ≡ 4 + length rest
behind_long (a ∷ b ∷ c ∷ d ∷ rest) found e = by (a == 111 && b == 117 && c == 116 && d == 32) e
  where
    by : (t : Bool) → (if t then Some rest else None) ≡ Some found →
        suc (suc (suc (suc (length rest)))) ≡ 4 + length found
    by true e = (let same : rest ≡ found = cc in let long = ap (λ (l : List ℕ). length l) same in omega (arith, long))
    by false e = cc
behind_long (a ∷ b ∷ c ∷ []) found e = cc
behind_long (a ∷ b ∷ []) found e = cc
behind_long (a ∷ []) found e = cc
behind_long [] found e = cc

none_found : (raw : List ℕ) (o : Option (List ℕ)) → behind_out raw ≡ o → line_limit < length raw →
    line_found raw o ≡ None
none_found raw None e long = ap step_by (none_read Session2 raw long)
none_found raw (Some rest) e long =
    let more = behind_long raw rest e in
    let all = length-append (codes "bytes ") rest in
    ap sent_by (none_read Session (codes "bytes " ++ rest)
    (longer (length raw) (length rest) (length (codes "bytes " ++ rest)) long more all))
  where
    longer : (n m k : ℕ) → 8400 < n → n ≡ 4 + m → k ≡ 6 + m → 8400 < k
    longer n m k a b c = omega (arith, a, b, c)

long_is_none : (moment : ℕ) (raw : List ℕ) → line_limit < length raw → None ≡ text_after moment raw
unfolding audit_line_of
long_is_none moment raw long = ap (timed moment) (sym (none_found raw (behind_out raw) refl long))

long_is_no_header : (raw : List ℕ) → line_limit < length raw → is_header raw ≡ false
long_is_no_header raw long = by (bytes_eq raw (codes "audit 1")) refl
  where
    by : (b : Bool) → bytes_eq raw (codes "audit 1") ≡ b → b ≡ false
    by true e =
        (let same = ap (λ (l : List ℕ). length l) ((bytes_eq-Decides raw (codes "audit 1")).0 e) in
        absurd (omega (arith, same, long)))
    by false e = refl

-- how the output ends behind these lines
names_at : (log : List AuditLine) (done : List (List ℕ)) (next : ℕ) → GoesOn log done → next ≡ length log + 2 →
    NamesNext audit_of_lines done [] (last.Bad next)
unfolding audit_from
names_at log done next goes is = record {
  missing = ap (audit_of_lines false) (sym (append-nil done)) ∙ goes false []
      ∙ ap (λ n. ending (last.Bad n)) (two (length log) next is);
  long = λ raw wide.
      subst (λ (n : ℕ). Settles audit_of_lines (done ++ raw ∷ []) (with_front [] (ending (last.Bad n)))) (sym is)
      (settles log done raw None (last.Bad (length log + 2)) goes (long_is_none (moment_of log) raw wide)
      (λ rest. refl) refl);
}
  where
    two : (n m : ℕ) → m ≡ n + 2 → n + 1 + 1 ≡ m
    two n m e = omega (arith, e)

names_first : (done : List (List ℕ)) (next : ℕ) → done ≡ [] → next ≡ 1 →
    NamesNext audit_of_lines done [] (last.Bad next)
names_first done next none is = record {
  missing = ap (audit_of_lines false) none ∙ ap (λ n. ending (last.Bad n)) (sym is);
  long = λ raw wide.
      subst (λ (n : ℕ). Settles audit_of_lines (done ++ raw ∷ []) (with_front [] (ending (last.Bad n)))) (sym is)
      (no_header done raw none (long_is_no_header raw wide));
}

names_by : (play : AuditPlay) (o : Option Auditing) (done : List (List ℕ)) (output : List ℕ) (next : ℕ) →
    play.audit ≡ o → AuditStands play done output → next ≡ play.before + 1 →
    NamesNext audit_of_lines done [] (last.Bad next)
names_by play (Some audit) done output next begun s is =
    let t = opened play audit done output s begun in
    names_at t.log done next t.goes_on (omega (arith, is, t.count))
names_by play None done output next none s is =
    let first = unopened play done output s none in
    names_first done next first.2 (is ∙ ap (λ n. n + 1) first.1)

pub names_next : (play : AuditPlay) (done : List (List ℕ)) (output : List ℕ) (next : ℕ) → AuditStands play done output →
    next ≡ play.before + 1 → NamesNext audit_of_lines done output (last.Bad next)
names_next play done output next s is =
    subst (λ (o : List ℕ). NamesNext audit_of_lines done o (last.Bad next)) (sym s.none)
    (names_by play play.audit done output next refl s is)

-- before any line
pub audit_begins : Follows audit_of_lines [] []
audit_begins = record { begins = λ cut more. (audit_of_lines cut more, refl); undecided = refl }
