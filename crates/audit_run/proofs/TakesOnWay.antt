-- The takes after a step, one after the other and peer by peer.
use Rattle.std.proofs.Common.{◌≡◌, ℕ, suc, ◌+◌, ◌-◌, ◌<◌, ◌≤◌, Bool, List, length, Result, Ok, Err, refl, sym, ap, subst, ◌∙◌, arith}
use Rattle.std.specs.Prelude.{replicate, if◌then◌else◌}
use Rattle.session_text.specs.declared.line.SessionLine.{SessionLine}
use Rattle.session_text.specs.declared.line.SessionLine.TheVariants.{Take}
use Rattle.seat_set.specs.declared.session.Stop.{Stop}
use Rattle.broker_model.specs.Resolve.{past_of}
use Rattle.seat_set.specs.Played.{Play, Played, line_played}
use Rattle.seat_set.specs.Playing.{Playing}
use Rattle.seat_set.specs.Laws.{lines_played}
use Rattle.audit_fields.specs.Gathering.{Gathering, NoneBetween}
use Rattle.audit_run.specs.Taking.{audit_limits, takes_of, takes_from, emptied}
use Rattle.audit_run.specs.Standing.{GoesOn, Leads, IsOnWay, IsDry}
use Rattle.audit_run.proofs.LinesOnWay.{onward, lines_append, part_played, part_stopped, all_played}
use Rattle.audit_run.proofs.TakesDry.{dry_all, dry_peers, gained_not}

-- ---- one peer

pub takes_begin : (all : ℕ → List ℕ) (q : ℕ) (player : Playing) (g : Gathering) → GoesOn all player g →
    IsOnWay (lines_played audit_limits (takes_of q) player.play) all (replicate 256 (Take q 4096)) player g
unfolding takes_of
takes_begin all q player g o = record { goes = o; leads = refl }

next_is : (whole : Played) (all : ℕ → List ℕ) (q left m : ℕ) (player : Playing) (g : Gathering) → 0 < left →
    m ≡ left - 1 → IsOnWay whole all (replicate left (Take q 4096)) player g →
    onward (replicate m (Take q 4096)) (line_played audit_limits (Take q 4096) player.play) ≡ whole
next_is whole all q left m player g some less w =
    let one : left ≡ suc m = omega (arith, some, less) in
    (subst (λ (n : ℕ). IsOnWay whole all (replicate n (Take q 4096)) player g) one w).leads

pub one_take : (whole : Played) (all : ℕ → List ℕ) (q left m : ℕ) (player after : Playing) (g h : Gathering) →
    0 < left → m ≡ left - 1 → IsOnWay whole all (replicate left (Take q 4096)) player g →
    Leads (line_played audit_limits (Take q 4096) player.play) all (Ok tt) after h →
    IsOnWay whole all (replicate m (Take q 4096)) after h
one_take whole all q left m player after g h some less w l =
    part_played whole (line_played audit_limits (Take q 4096) player.play) all (replicate m (Take q 4096)) after h
    (next_is whole all q left m player g some less w) l

pub take_stopped : (whole : Played) (all : ℕ → List ℕ) (q left : ℕ) (why : Stop) (player after : Playing)
    (g h : Gathering) → 0 < left → IsOnWay whole all (replicate left (Take q 4096)) player g →
    Leads (line_played audit_limits (Take q 4096) player.play) all (Err why) after h →
    Leads whole all (Err why) after h
take_stopped whole all q left why player after g h some w l =
    part_stopped whole (line_played audit_limits (Take q 4096) player.play) all (replicate (left - 1) (Take q 4096)) why
    after h (next_is whole all q left (left - 1) player g some refl w) l

-- where nothing was stored the takes that are left play nothing
pub last_take : (whole : Played) (all : ℕ → List ℕ) (q left : ℕ) (player after : Playing) (g h emptied : Gathering) →
    0 < left → IsOnWay whole all (replicate left (Take q 4096)) player g →
    Leads (line_played audit_limits (Take q 4096) player.play) all (Ok tt) after h → IsDry q after.play.journal →
    GoesOn all after emptied → Leads whole all (Ok tt) after emptied
last_take whole all q left player after g h emptied some w l dry o =
    let on = one_take whole all q left (left - 1) player after g h some refl w l in
    all_played whole all after emptied
    (record { goes = o; leads = sym (dry_all (left - 1) q after.play dry) ∙ on.leads })

pub takes_over : (whole : Played) (all : ℕ → List ℕ) (q left : ℕ) (player : Playing) (g : Gathering) → left ≤ 0 →
    IsOnWay whole all (replicate left (Take q 4096)) player g → Leads whole all (Ok tt) player g
takes_over whole all q left player g none w =
    let zero-is : left ≡ 0 = omega (arith, none) in
    all_played whole all player g
    (subst (λ (n : ℕ). IsOnWay whole all (replicate n (Take q 4096)) player g) zero-is w)

-- ---- peer by peer

no_less : (n : ℕ) → n - 0 ≡ n
no_less n = omega arith

pub peers_begin : (all : ℕ → List ℕ) (most : ℕ) (player : Playing) (g : Gathering) → GoesOn all player g →
    IsOnWay (lines_played audit_limits (takes_from 1 most) player.play) all (takes_from (0 + 1) (most - 0)) player g
peers_begin all most player g o = record {
  goes = o;
  leads = ap (λ (n : ℕ). lines_played audit_limits (takes_from 1 n) player.play) (no_less most);
}

pub peer_ahead : (whole : Played) (all : ℕ → List ℕ) (above most q : ℕ) (player : Playing) (g : Gathering) →
    IsOnWay whole all (takes_from (above + 1) (most - above)) player g → above < q → q ≤ most →
    NoneBetween g.gained above (q - 1) →
    onward (takes_from (q + 1) (most - q)) (lines_played audit_limits (takes_of q) player.play) ≡ whole
peer_ahead whole all above most q player g w past within none =
    sym (lines_append (takes_of q) (takes_from (q + 1) (most - q)) player.play)
    ∙ sym (dry_peers (q - 1 - above) (most - above) (above + 1) q (suc (most - q)) player.play
    (omega (arith, past, within)) (omega (arith, past))
    (λ j l m. gained_not all j player g w.goes (none j (omega (arith, l)) (omega (arith, m)))))
    ∙ w.leads

pub one_peer : (whole : Played) (all : ℕ → List ℕ) (above most q : ℕ) (player after : Playing) (g h : Gathering) →
    IsOnWay whole all (takes_from (above + 1) (most - above)) player g → above < q → q ≤ most →
    NoneBetween g.gained above (q - 1) →
    Leads (lines_played audit_limits (takes_of q) player.play) all (Ok tt) after h →
    IsOnWay whole all (takes_from (q + 1) (most - q)) after h
one_peer whole all above most q player after g h w past within none l =
    part_played whole (lines_played audit_limits (takes_of q) player.play) all (takes_from (q + 1) (most - q)) after h
    (peer_ahead whole all above most q player g w past within none) l

pub peer_stopped : (whole : Played) (all : ℕ → List ℕ) (above most q : ℕ) (why : Stop) (player after : Playing)
    (g h : Gathering) → IsOnWay whole all (takes_from (above + 1) (most - above)) player g → above < q → q ≤ most →
    NoneBetween g.gained above (q - 1) →
    Leads (lines_played audit_limits (takes_of q) player.play) all (Err why) after h →
    Leads whole all (Err why) after h
peer_stopped whole all above most q why player after g h w past within none l =
    part_stopped whole (lines_played audit_limits (takes_of q) player.play) all (takes_from (q + 1) (most - q)) why
    after h (peer_ahead whole all above most q player g w past within none) l

pub peers_over : (whole : Played) (all : ℕ → List ℕ) (above most : ℕ) (player : Playing) (g : Gathering) →
    IsOnWay whole all (takes_from (above + 1) (most - above)) player g → above ≤ most →
    NoneBetween g.gained above most → Leads whole all (Ok tt) player g
peers_over whole all above most player g w within none =
    all_played whole all player g (record {
      goes = w.goes;
      leads = sym (dry_peers (most - above) (most - above) (above + 1) (most + 1) 0 player.play (omega arith)
          (omega (arith, within))
          (λ j l m. gained_not all j player g w.goes (none j (omega (arith, l)) (omega (arith, m)))))
          ∙ w.leads;
    })

-- a step was played, and what follows is left
pub step_emptied : (p : Played) (all : ℕ → List ℕ) (most : ℕ) (left : List SessionLine) (player after : Playing)
    (g h : Gathering) (r : Result (Unit {0}) Stop) → Leads p all (Ok tt) player g →
    Leads (lines_played audit_limits left player.play) all r after h → Leads (onward left p) all r after h
step_emptied p all most left player after g h r l k =
    let there : onward left p ≡ lines_played audit_limits left player.play =
    ap (λ (b : Bool). (if b then p else lines_played audit_limits left p.play)) l.0
    ∙ sym (ap (lines_played audit_limits left) l.1) in
    subst (λ (x : Played). Leads x all r after h) (sym there) k

pub step_over : (p : Played) (all : ℕ → List ℕ) (most : ℕ) (player after : Playing) (g h : Gathering)
    (r : Result (Unit {0}) Stop) → Leads p all (Ok tt) player g → most ≡ length g.sides →
    Leads (lines_played audit_limits (takes_from 1 most) player.play) all r after h → Leads (emptied p) all r after h
step_over p all most player after g h r l is k =
    let joined : most ≡ length (past_of p.play.journal).joined =
    is ∙ l.2.gathered.number ∙ ap (λ (x : Play). length (past_of x.journal).joined) l.1 in
    step_emptied p all most (takes_from 1 (length (past_of p.play.journal).joined)) player after g h r l
    (subst (λ (n : ℕ). Leads (lines_played audit_limits (takes_from 1 n) player.play) all r after h) joined k)

pub step_stopped : (p : Played) (all : ℕ → List ℕ) (why : Stop) (player : Playing) (g : Gathering) →
    Leads p all (Err why) player g → Leads (emptied p) all (Err why) player g
step_stopped p all why player g l =
    part_stopped (emptied p) p all (takes_from 1 (length (past_of p.play.journal).joined)) why player g refl l
