-- A take of nothing plays nothing, and one that makes no entry took nothing.
use Rattle.std.proofs.Common.{◌≡◌, ◌≢◌, ℕ, zero, suc, ◌+◌, ◌<◌, ◌≤◌, Bool, true, false, List, [], ◌∷◌, ◌++◌, length, Option, Some, None, Ok, refl, sym, ap, ap₂, ◌∙◌, arith, length-append}
use Rattle.std.specs.Prelude.{◌==◌, if◌then◌else◌, min, replicate}
use Rattle.std.specs.List.{slice_get}
use Rattle.std.proofs.lemmas.Bool.{eqb-true, eq-eqb}
use Rattle.broker_steps.specs.Ranges.{store_limit}
use Rattle.session_text.specs.declared.line.SessionLine.{SessionLine}
use Rattle.session_text.specs.declared.line.SessionLine.TheVariants.{Take}
use Rattle.broker_model.specs.declared.journal.Entry.{Entry}
use Rattle.broker_model.specs.declared.journal.Entry.TheVariants as entries
use Rattle.broker_model.specs.Ids.{Joined, peer_at}
use Rattle.broker_model.specs.Limits.{is_full}
use Rattle.broker_model.specs.Out.{stored, out_for}
use Rattle.broker_model.specs.Resolve.{past_of}
use Rattle.broker_model.specs.Settle.{number_alive}
use Rattle.broker_core.proofs.WatchedSince.{settled_more}
use Rattle.seat_set.specs.Played.{Play, Played, went, with_step, step_played, take_played, line_played}
use Rattle.seat_set.specs.Playing.{Playing}
use Rattle.seat_set.specs.Laws.{lines_played}
use Rattle.audit_fields.specs.Gathering.{Gathering, is_gained}
use Rattle.audit_run.specs.Taking.{audit_limits, takes_of, takes_from}
use Rattle.audit_run.specs.Standing.{GoesOn, Leads, IsDry}

-- a take of what is stored
abbrev taking : ℕ → Play → List ℕ → Played
taking q play l =
    (if min 4096 (length l) == 0 then went play
    else step_played audit_limits (entries.Took q (min 4096 (length l))) play)

dry_take : (q : ℕ) (play : Play) → IsDry q play.journal → line_played audit_limits (Take q 4096) play ≡ went play
dry_take q play dry = by (peer_at (past_of play.journal) q) refl
  where
    by : (o : Option Joined) → peer_at (past_of play.journal) q ≡ o → take_played audit_limits q 4096 play o ≡ went play
    by None e = refl
    by (Some peer) e = ap (taking q play) (dry peer e)

-- so many of them
pub dry_takes : (n q : ℕ) (left : List SessionLine) (play : Play) → IsDry q play.journal →
    lines_played audit_limits (replicate n (Take q 4096) ++ left) play ≡ lines_played audit_limits left play
dry_takes zero q left play dry = refl
dry_takes (suc n) q left play dry =
    ap (λ (p : Played). (if p.is_full then p
    else lines_played audit_limits (replicate n (Take q 4096) ++ left) p.play)) (dry_take q play dry)
    ∙ dry_takes n q left play dry

pub dry_all : (n q : ℕ) (play : Play) → IsDry q play.journal →
    lines_played audit_limits (replicate n (Take q 4096)) play ≡ lines_played audit_limits [] play
dry_all zero q play dry = refl
dry_all (suc n) q play dry =
    ap (λ (p : Played). (if p.is_full then p else lines_played audit_limits (replicate n (Take q 4096)) p.play))
    (dry_take q play dry)
    ∙ dry_all n q play dry

-- those of peers from q on, for whom nothing is stored
pub dry_peers : (d n q r k : ℕ) (play : Play) → n ≡ d + k → r ≡ q + d →
    ((j : ℕ) → q ≤ j → j < r → IsDry j play.journal) →
    lines_played audit_limits (takes_from q n) play ≡ lines_played audit_limits (takes_from r k) play
unfolding takes_of
dry_peers zero n q r k play long next dry =
    let n-is : n ≡ k = omega (arith, long) in
    let r-is : q ≡ r = omega (arith, next) in
    ap₂ (λ (a b : ℕ). lines_played audit_limits (takes_from a b) play) r-is n-is
dry_peers (suc d) n q r k play long next dry =
    let n-is : n ≡ suc (d + k) = omega (arith, long) in
    ap (λ (m : ℕ). lines_played audit_limits (takes_from q m) play) n-is
    ∙ dry_takes 256 q (takes_from (q + 1) (d + k)) play (dry q (omega arith) (omega (arith, next)))
    ∙ dry_peers d (d + k) (q + 1) r k play refl (omega (arith, next)) (λ j l m. dry j (omega (arith, l)) m)

-- ---- a take that makes no entry

nothing_in : (l : List ℕ) → (min 4096 (length l) == 0) ≡ true → l ≡ []
nothing_in [] e = refl
nothing_in (x ∷ xs) e = (let no = eqb-true (min 4096 (suc (length xs))) 0 e in absurd (omega (arith, no)))

-- a step that was taken is one entry more
longer : (e : Entry) (play : Play) → (step_played audit_limits e play).is_full ≡ false →
    length play.journal < length (step_played audit_limits e play).play.journal
longer e play h = by (is_full audit_limits play.journal e) h
  where
    by : (b : Bool) →
        (if b then record { play = play; is_full = true }
        else went (with_step audit_limits e play)).is_full ≡ false →
        length play.journal
        < length (if b then record { play = play; is_full = true }
        else went (with_step audit_limits e play)).play.journal
    by true h = cc
    by false h =
        (let more = settled_more store_limit (number_alive (e ∷ play.journal)) (e ∷ play.journal) in
        let long = ap (λ (l : List Entry). length l) more.is ∙ length-append more.more (e ∷ play.journal) in
        omega (arith, long))

once_by : (q : ℕ) (before : Play) (after : Play) (o : Option Joined) → peer_at (past_of before.journal) q ≡ o →
    (take_played audit_limits q 4096 before o).is_full ≡ false →
    after ≡ (take_played audit_limits q 4096 before o).play → length after.journal ≡ length before.journal →
    IsDry q after.journal
once_by q before after None e full is same = λ peer at. (let a = ap (λ (p : Play). p.journal) is in
    let none = ap (λ (j : List Entry). peer_at (past_of j) q) a ∙ e in let no = sym none ∙ at in cc)
once_by q before after (Some own) e full is same =
    by (min 4096 (length l) == 0) refl full is
  where
    l : List ℕ
    l = stored (out_for store_limit before.journal own.label)

    by : (b : Bool) → (min 4096 (length l) == 0) ≡ b →
        (if b then went before
        else step_played audit_limits (entries.Took q (min 4096 (length l))) before).is_full ≡ false →
        after ≡ (if b then went before
        else step_played audit_limits (entries.Took q (min 4096 (length l))) before).play →
        IsDry q after.journal
    by true n full is = λ peer at.
        let a : after.journal ≡ before.journal = ap (λ (p : Play). p.journal) is in
        let here : Some own ≡ Some peer = sym e ∙ sym (ap (λ (j : List Entry). peer_at (past_of j) q) a) ∙ at in
        let one : own ≡ peer = cc in
        ap (λ (j : List Entry). stored (out_for store_limit j peer.label)) a
        ∙ ap (λ (p : Joined). stored (out_for store_limit before.journal p.label)) (sym one)
        ∙ nothing_in l n
    by false n full is =
        let more = longer (entries.Took q (min 4096 (length l))) before full in
        let long = ap (λ (p : Play). length p.journal) is in
        absurd (omega (arith, more, long, same))

pub took_nothing : (all : ℕ → List ℕ) (q n m : ℕ) (before after : Playing) (h : Gathering) →
    n ≡ length before.play.journal → m ≡ length after.play.journal →
    Leads (line_played audit_limits (Take q 4096) before.play) all (Ok tt) after h → (m == n) ≡ true →
    IsDry q after.play.journal
took_nothing all q n m before after h was is l same =
    once_by q before.play after.play (peer_at (past_of before.play.journal) q) refl l.0 l.1
    (sym is ∙ eqb-true m n same ∙ was)

-- ---- who gained nothing

pub gained_not : (all : ℕ → List ℕ) (q : ℕ) (player : Playing) (g : Gathering) → GoesOn all player g →
    is_gained q g.gained ≡ false → IsDry q player.play.journal
gained_not all q player g o none = λ peer at. o.gathered.dry q peer at none

-- the peer with the number is none of those any more
pub one_emptied : (all : ℕ → List ℕ) (q : ℕ) (player : Playing) (g h : Gathering) → GoesOn all player g →
    IsDry q player.play.journal → h ≡ record g { gained = h.gained } →
    ((other : ℕ) → other ≢ q → is_gained other h.gained ≡ is_gained other g.gained) → GoesOn all player h
one_emptied all q player g h o dry same others = record {
  unspent = o.unspent;
  limits = o.limits;
  whole = ap (λ (x : Gathering). x.is_short) same ∙ o.whole;
  gathered = record {
    number = ap (λ (x : Gathering). length x.sides) same ∙ o.gathered.number;
    each = λ k side peer at there. o.gathered.each k side peer
        (sym (ap (λ (x : Gathering). slice_get x.sides k) same) ∙ at) there;
    dry = λ r peer at none. dry_by r peer at none (r == q) refl;
    silent = o.gathered.silent;
  };
}
  where
    dry_by : (r : ℕ) (peer : Joined) → peer_at (past_of player.play.journal) r ≡ Some peer →
        is_gained r h.gained ≡ false → (b : Bool) → (r == q) ≡ b →
        stored (out_for store_limit player.play.journal peer.label) ≡ []
    dry_by r peer at none true e =
        dry peer (ap (λ (x : ℕ). peer_at (past_of player.play.journal) x) (sym (eqb-true r q e)) ∙ at)
    dry_by r peer at none false e =
        o.gathered.dry r peer at (sym (others r (λ i. (let no = sym (eq-eqb r q i) ∙ e in cc))) ∙ none)
