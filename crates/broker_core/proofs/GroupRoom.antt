-- There is room for what a live peer heard exactly if the definitions have room for its group, and then that group is
-- what it heard.
use Rattle.std.proofs.Common.{◌≡◌, ℕ, List, Bool, true, false, refl, sym, ◌∙◌}
use Rattle.std.proofs.lemmas.Bool.{true≢false}
use Rattle.relay_model.specs.declared.said.Told.{Told}
use Rattle.broker_model.specs.Ids.{Made}
use Rattle.broker_model.specs.Groups.{Piece, group_for}
use Rattle.broker_model.specs.Out.{Outgoing, fits, with_group}
use Rattle.broker_model.specs.Stored.{AreSpaced}
use Rattle.broker_audience.specs.declared.live.Live.{Live}
use Rattle.broker_audience.specs.Lives.{cleared, has_heard, has_room, told_all}
use Rattle.broker_core.specs.Stands.{Holds}
use Rattle.broker_core.proofs.GatheredGroup.{IsGathered}
use Rattle.broker_core.proofs.PutGroups.{IsPut, put_all}

-- there is room for what it heard if its group fits
pub room_fits : (capacity : ℕ) (made : List Made) (told : List Told) (out : Outgoing) (l : Live) → AreSpaced out.put →
    Holds capacity out l.store →
    l.gathering.capacity ≡ capacity →
    has_room (has_heard made told (cleared l)) ≡ fits capacity (group_for made l.label told) out
room_fits capacity made told out l spaced holds room =
    by (has_room (has_heard made told (cleared l)))
    (fits capacity (group_for made l.label told) out) refl refl put.choked
  where
    -- as if no group had been left out before
    put : IsPut capacity (with_group capacity (group_for made l.label told) (record out { choked = false }))
        (record l { is_choked = false })
        (told_all made told (record l { is_choked = false }))
    put = put_all capacity made told (record out { choked = false }) (record l { is_choked = false }) spaced
        (record { cells = holds.cells; within = holds.within }) refl room

    by : (b c : Bool) → has_room (has_heard made told (cleared l)) ≡ b →
        fits capacity (group_for made l.label told) out ≡ c →
        (told_all made told (record l { is_choked = false })).is_choked
        ≡ (with_group capacity (group_for made l.label told) (record out { choked = false })).choked → b ≡ c
    by true true e f k = refl
    by true false e f k = sym (rw (e, f) at k)
    by false true e f k = sym (rw (e, f) at k)
    by false false e f k = refl

-- and then that group is what it heard
pub whole : (capacity : ℕ) (group : Piece) (l : Live) → IsGathered capacity group l.gathering → has_room l ≡ true →
    l.gathering.group ≡ group
whole capacity group l h r = by l.gathering.is_over refl
  where
    by : (b : Bool) → l.gathering.is_over ≡ b → l.gathering.group ≡ group
    by true e = absurd (true≢false (sym r ∙ rw e refl))
    by false e = h.whole e
