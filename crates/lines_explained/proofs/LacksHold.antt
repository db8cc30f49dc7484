-- The reason that is given of an act without effect holds.
use Rattle.std.proofs.Common.{◌≡◌, ℕ, ℤ, List, Bool, true, false, not, ap, refl, sym, ◌∙◌}
use Rattle.std.specs.Prelude.{◌&&◌, if◌then◌else◌, is_none}
use Rattle.std.proofs.lemmas.Bool.{true≢false}
use Rattle.popup_place.specs.declared.geometry.Rect.{Rect}
use Rattle.relay_model.specs.declared.act.Act.{Act}
use Rattle.relay_model.specs.declared.act.Act.TheVariants as acts
use Rattle.relay_model.specs.Objects.{is_at}
use Rattle.relay_model.specs.Focus.{focus, entered}
use Rattle.relay_model.specs.Keys.{is_refused}
use Rattle.relay_model.specs.Boards.{sends, board_refused}
use Rattle.relay_model.specs.Idle.{is_place, is_sized}
use Rattle.lines_explained.specs.declared.lack.Lack.TheVariants.{HasFocus, NotEntered, NoPlace, NegativeSide, ManyKeys, NoKeymap, NotLive}
use Rattle.lines_explained.specs.Lack.{lack_holds}
use Rattle.lines_explained.specs.KeyLaws.{LacksHold}

not_false : (b : Bool) → not b ≡ false → b ≡ true
not_false true l = refl
not_false false l = absurd (true≢false l)

-- the first of several fails, where the others don't

first_fails : (e b : Bool) → (e && b) ≡ false → b ≡ true → e ≡ false
first_fails false b l k = refl
first_fails true b l k = absurd (true≢false (sym k ∙ l))

first_of_three : (e c a : Bool) → (e && c && a) ≡ false → (c && a) ≡ true → e ≡ false
first_of_three false c a l k = refl
first_of_three true c a l k = absurd (true≢false (sym k ∙ l))

focused : (s : ℕ) (log : List Act) (b : Bool) → is_at (focus log) s ≡ b →
    lack_holds (if b then HasFocus else NotLive) (acts.Focus s) log ≡ true
focused s log true k = k
focused s log false k = refl

surrounded : (f : ℕ) (text : List ℕ) (cursor anchor : ℤ) (log : List Act) (b : Bool) →
    (is_place text cursor && is_place text anchor) ≡ b →
    (entered log f && is_place text cursor && is_place text anchor) ≡ false →
    lack_holds (if b then NotEntered else NoPlace) (acts.Surround f text cursor anchor) log ≡ true
surrounded f text cursor anchor log true k l =
    ap not (first_of_three (entered log f) (is_place text cursor) (is_place text anchor) l k)
surrounded f text cursor anchor log false k l = ap not k

placed : (f : ℕ) (rect : Rect) (log : List Act) (b : Bool) → is_sized rect ≡ b →
    (entered log f && is_sized rect) ≡ false →
    lack_holds (if b then NotEntered else NegativeSide) (acts.Cursor f rect) log ≡ true
placed f rect log true k l = ap not (first_fails (entered log f) (is_sized rect) l k)
placed f rect log false k l = ap not k

second_fails : (a b : Bool) → a ≡ true → (a && not b) ≡ false → b ≡ true
second_fails true b k l = not_false b l
second_fails false b k l = absurd (true≢false (sym k))

sent : (v time key state : ℕ) (log : List Act) (b : Bool) → sends log v ≡ b →
    (sends log v && not (board_refused log v key state)) ≡ false →
    lack_holds (if b then ManyKeys else NoKeymap) (acts.VKey v time key state) log ≡ true
sent v time key state log true k l = second_fails (sends log v) (board_refused log v key state) k l
sent v time key state log false k l = ap not k

pub lacks_hold : LacksHold
lacks_hold (acts.Focus s) log l = focused s log (is_at (focus log) s) refl
lacks_hold acts.Unfocus log l = not_false (is_none (focus log)) l
lacks_hold (acts.Enable f) log l = ap not l
lacks_hold (acts.Disable f) log l = ap not l
lacks_hold (acts.Surround f text cursor anchor) log l =
    surrounded f text cursor anchor log (is_place text cursor && is_place text anchor) refl l
lacks_hold (acts.Cause f cause) log l = ap not l
lacks_hold (acts.Content f hint purpose) log l = ap not l
lacks_hold (acts.Cursor f rect) log l = placed f rect log (is_sized rect) refl l
lacks_hold (acts.Key time key state) log l = not_false (is_refused log key state) l
lacks_hold (acts.VKey v time key state) log l = sent v time key state log (sends log v) refl l
lacks_hold (acts.VMods v mods) log l = ap not l
lacks_hold _ log l = refl
