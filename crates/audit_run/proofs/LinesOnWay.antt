-- Lines that are still to be played, one part of them after the other.
use Rattle.std.proofs.Common.{◌≡◌, ℕ, Bool, true, false, List, [], ◌∷◌, ◌++◌, Ok, Err, refl, sym, ap, subst, ◌∙◌}
use Rattle.std.specs.Prelude.{if◌then◌else◌}
use Rattle.session_text.specs.declared.line.SessionLine.{SessionLine}
use Rattle.seat_set.specs.declared.session.Stop.{Stop}
use Rattle.seat_set.specs.declared.session.Stop.TheVariants as stops
use Rattle.seat_set.specs.Played.{Play, Played, line_played}
use Rattle.seat_set.specs.Playing.{Playing}
use Rattle.seat_set.specs.Laws.{lines_played}
use Rattle.audit_fields.specs.Gathering.{Gathering}
use Rattle.audit_run.specs.Taking.{audit_limits}
use Rattle.audit_run.specs.Standing.{Leads, IsOnWay}

-- where the rest of lines leads from a place
abbrev pub onward : List SessionLine → Played → Played
onward left p = (if p.is_full then p else lines_played audit_limits left p.play)

pub lines_append : (xs ys : List SessionLine) (play : Play) →
    lines_played audit_limits (xs ++ ys) play ≡ onward ys (lines_played audit_limits xs play)
lines_append [] ys play = refl
lines_append (x ∷ xs) ys play =
    by (line_played audit_limits x play).is_full refl (lines_append xs ys (line_played audit_limits x play).play)
  where
    p : Played
    p = line_played audit_limits x play

    by : (b : Bool) → p.is_full ≡ b →
        lines_played audit_limits (xs ++ ys) p.play ≡ onward ys (lines_played audit_limits xs p.play) →
        (if b then p else lines_played audit_limits (xs ++ ys) p.play)
        ≡ onward ys (if b then p else lines_played audit_limits xs p.play)
    by true e more = sym (ap (λ (b : Bool). (if b then p else lines_played audit_limits ys p.play)) e)
    by false e more = more

-- a part of them was played
pub part_played : (whole p : Played) (all : ℕ → List ℕ) (left : List SessionLine) (player : Playing) (g : Gathering) →
    onward left p ≡ whole → Leads p all (Ok tt) player g → IsOnWay whole all left player g
part_played whole p all left player g w l = record {
  goes = l.2;
  leads = ap (lines_played audit_limits left) l.1
      ∙ sym (ap (λ (b : Bool). (if b then p else lines_played audit_limits left p.play)) l.0) ∙ w;
}

-- or it was stopped
pub part_stopped : (whole p : Played) (all : ℕ → List ℕ) (left : List SessionLine) (why : Stop) (player : Playing)
    (g : Gathering) → onward left p ≡ whole → Leads p all (Err why) player g → Leads whole all (Err why) player g
part_stopped whole p all left (stops.Full kept) player g w l =
    let same : p ≡ whole = sym (ap (λ (b : Bool). (if b then p else lines_played audit_limits left p.play)) l.0) ∙ w in
    subst (λ (x : Played). Leads x all (Err (stops.Full kept)) player g) same l
part_stopped whole p all left stops.NoMemory player g w l = tt

pub all_played : (whole : Played) (all : ℕ → List ℕ) (player : Playing) (g : Gathering) →
    IsOnWay whole all [] player g → Leads whole all (Ok tt) player g
all_played whole all player g w =
    (sym (ap (λ (p : Played). p.is_full) w.leads), ap (λ (p : Played). p.play) w.leads, w.goes)

-- the lines that are left may be others that lead there too
pub on_way_as : (whole : Played) (all : ℕ → List ℕ) (left other : List SessionLine) (player : Playing)
    (g : Gathering) → lines_played audit_limits left player.play ≡ lines_played audit_limits other player.play →
    IsOnWay whole all left player g → IsOnWay whole all other player g
on_way_as whole all left other player g same w = record { goes = w.goes; leads = sym same ∙ w.leads }
