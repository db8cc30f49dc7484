-- Where a key is said to go is where its route leads.
use Rattle.std.proofs.Common.{◌≡◌, ◌⊎◌, ℕ, List, [], ◌∷◌, length, Bool, true, false, not, Option, Some, None, ap, refl, sym, ◌∙◌, inl, inr}
use Rattle.std.specs.Prelude.{◌&&◌, ◌||◌, ◌==◌, nat_lt, if◌then◌else◌}
use Rattle.std.specs.Option.{option_map}
use Rattle.std.proofs.lemmas.Bool.{eqb-true}
use Rattle.relay_model.specs.declared.act.Act.{Act}
use Rattle.relay_model.specs.declared.act.Act.TheVariants as acts
use Rattle.relay_model.specs.declared.said.Told.{Told}
use Rattle.relay_model.specs.Objects.{next, is_at, is_same, peer_of}
use Rattle.relay_model.specs.Focus.{peer_at}
use Rattle.relay_model.specs.Keys.{Goes, ToGrab, ToShell, Nowhere, Refused, standing, grab_stands, is_press, is_down, first_went, number_down, to_standing, as_first, key_route}
use Rattle.relay_model.specs.Boards.{grab_for, board_down, board_went, board_number, board_route}
use Rattle.relay_model.specs.Idle.{history, is_live}
use Rattle.relay_model.specs.Told.{told, told_by, own, key_told}
use Rattle.relay_model.proofs.ActsOrIdle.{history_is}
use Rattle.relay_model.proofs.HoldLaws.{kept_same}
use Rattle.relay_core.proofs.SteadyActs.{key_steady, notice_quiet}
use Rattle.relay_core.proofs.KeyActsStand.{says_own}
use Rattle.relay_core.proofs.SessionActsStand.{vkey_aside, says_aside}
use Rattle.broker_model.specs.declared.journal.Entry.{Entry}
use Rattle.broker_model.specs.Resolve.{past_of, resolve}
use Rattle.broker_model.specs.Groups.{group_for}
use Rattle.broker_model.specs.Out.{act_at, group_at, fits, before_group, out_for}
use Rattle.broker_core.specs.Lives.{Numbered}
use Rattle.broker_core.specs.Stands.{numbered}
use Rattle.lines_explained.specs.declared.key_way.KeySent.{KeySent}
use Rattle.lines_explained.specs.declared.key_way.KeyWay.{KeyWay}
use Rattle.lines_explained.specs.declared.key_way.KeyWay.TheVariants as ways
use Rattle.lines_explained.specs.KeyWay.{sent_where, key_before, way_in, way_of}
use Rattle.lines_explained.specs.Journals.{is_put_for, is_put_among, was_put, has_pass, was_passed}
use Rattle.lines_explained.specs.KeyLaws.{way_by, KeysRouted, BoardKeysRouted, PastHasNoPress, NowhereHasFallen}

-- where nothing is told no group is put

none_put : (b : Bool) (bytes : List ℕ) → bytes ≡ [] → (b && not (length bytes == 0)) ≡ false
none_put true bytes h = rw h refl
none_put false bytes h = refl

quiet_for : (capacity : ℕ) (e : Entry) (older : List Entry) (p : Numbered) →
    told (act_at e older) (resolve older) ≡ [] → is_put_for capacity e older p ≡ false
quiet_for capacity e older p t =
    let x = p.peer.label in
    none_put (fits capacity (group_at e older x) (before_group e older x (out_for capacity older x)))
    (group_at e older x).bytes
    (ap (λ (ts : List Told). (group_for (past_of (e ∷ older)).made x ts).bytes) t)

quiet_among : (capacity : ℕ) (e : Entry) (older : List Entry) (ps : List Numbered) →
    told (act_at e older) (resolve older) ≡ [] → is_put_among capacity e older ps ≡ false
quiet_among capacity e older [] t = refl
quiet_among capacity e older (p ∷ ps) t =
    ap (λ (b : Bool). b || is_put_among capacity e older ps) (quiet_for capacity e older p t)
    ∙ quiet_among capacity e older ps t

quiet : (capacity : ℕ) (e : Entry) (older : List Entry) → told (act_at e older) (resolve older) ≡ [] →
    was_put capacity e older ≡ false
quiet capacity e older t = quiet_among capacity e older (numbered 1 (past_of (e ∷ older)).joined) t

-- what is said, by what a key tells

in_none : (grab : Option ℕ) → way_in grab false ≡ ways.Nowhere grab
in_none None = refl
in_none (Some g) = refl

in_grab : (g : ℕ) (of_board put : Bool) → way_in (Some g) put ≡ way_by (ToGrab g) of_board put (Some g)
in_grab g of_board true = refl
in_grab g of_board false = refl

sent_by : (capacity : ℕ) (e : Entry) (older : List Entry) (n time key state : ℕ) (of_board : Bool) (r : Goes)
    (grab : Option ℕ) → told (act_at e older) (resolve older) ≡ key_told n time key state r →
    ((g : ℕ) → r ≡ ToGrab g → grab ≡ Some g) →
    way_of (record { of_board = of_board; standing = grab }) (was_passed e older) (was_put capacity e older)
    ≡ way_by r of_board (was_put capacity e older) grab
sent_by capacity e older n time key state of_board (ToGrab g) grab t stands =
    let put = was_put capacity e older in
    ap (λ (p : Bool). way_of (record { of_board = of_board; standing = grab }) p put) (ap has_pass t)
    ∙ ap (λ (o : Option ℕ). way_in o put) (stands g refl)
    ∙ in_grab g of_board put
    ∙ ap (λ (o : Option ℕ). way_by (ToGrab g) of_board put o) (sym (stands g refl))
sent_by capacity e older n time key state of_board ToShell grab t stands =
    ap (λ (p : Bool). way_of (record { of_board = of_board; standing = grab }) p (was_put capacity e older))
    (ap has_pass t)
sent_by capacity e older n time key state of_board Nowhere grab t stands =
    ap (λ (p : Bool). way_of (record { of_board = of_board; standing = grab }) p (was_put capacity e older))
    (ap has_pass t)
    ∙ ap (way_in grab) (quiet capacity e older t) ∙ in_none grab
sent_by capacity e older n time key state of_board Refused grab t stands =
    ap (λ (p : Bool). way_of (record { of_board = of_board; standing = grab }) p (was_put capacity e older))
    (ap has_pass t)
    ∙ ap (way_in grab) (quiet capacity e older t) ∙ in_none grab

-- a key that goes to a grab goes to the one that stands

at_some : (o : Option ℕ) (x : ℕ) → is_at o x ≡ true → o ≡ Some x
at_some None x h = cc
at_some (Some y) x h = ap Some (eqb-true y x h)

first_grab : (log : List Act) (went : Option ℕ) (g : ℕ) → as_first log went ≡ ToGrab g → standing log ≡ Some g
first_grab log None g e = cc
first_grab log (Some x) g e = by (grab_stands log x) refl e
  where
    by : (b : Bool) → grab_stands log x ≡ b → (if b then ToGrab x else Nowhere) ≡ ToGrab g →
        standing log ≡ Some g
    by true s e = let same : x ≡ g = cc in at_some (standing log) x s ∙ ap Some same
    by false s e = cc

opened_grab : (o : Option ℕ) (g : ℕ) → to_standing o ≡ ToGrab g → o ≡ Some g
opened_grab None g e = cc
opened_grab (Some x) g e = let same : x ≡ g = cc in ap Some same

routed_grab : (log : List Act) (d p f : Bool) (went opens : Option ℕ) (g : ℕ) →
    (opens ≡ Some g → standing log ≡ Some g) →
    (if d then as_first log went
    else (if not p then ToShell else (if f then to_standing opens else Refused))) ≡ ToGrab g →
    standing log ≡ Some g
routed_grab log true p f went opens g same e = first_grab log went g e
routed_grab log false false f went opens g same e = cc
routed_grab log false true true went opens g same e = same (opened_grab opens g e)
routed_grab log false true false went opens g same e = cc

unless_own : (b : Bool) (o : Option ℕ) (g : ℕ) → (if b then None else o) ≡ Some g → o ≡ Some g
unless_own true o g e = cc
unless_own false o g e = e

key_grab : (log : List Act) (key state g : ℕ) → key_route log key state ≡ ToGrab g → standing log ≡ Some g
key_grab log key state g e =
    routed_grab log (is_down log key) (is_press state) (nat_lt (number_down log) 64) (first_went log key)
    (standing log) g (λ s. s) e

board_grab : (log : List Act) (v key state g : ℕ) → board_route log v key state ≡ ToGrab g → standing log ≡ Some g
board_grab log v key state g e =
    routed_grab log (board_down log v key) (is_press state) (nat_lt (board_number log v) 64) (board_went log v key)
    (grab_for log v) g
    (unless_own (is_same (peer_at log (standing log)) (peer_of log v)) (standing log) g) e

-- a live act tells its own

tells : (act : Act) (log : List Act) → is_live act (history log) ≡ true →
    own act (history log) ≡ told_by act (history log) → told act log ≡ own act (history log)
tells act log l o = ap (λ (b : Bool). told_by (if b then act else acts.Idle) (history log)) l ∙ sym o

key_own : (time key state : ℕ) (log : List Act) →
    own (acts.Key time key state) (history log) ≡ told_by (acts.Key time key state) (history log)
key_own time key state log =
    says_own (acts.Key time key state) (history log)
    (notice_quiet (acts.Key time key state) (history log) refl refl refl
    (kept_same (acts.Key time key state) (history log) (history_is log) (key_steady time key state))) refl refl

board_own : (v time key state : ℕ) (log : List Act) →
    own (acts.VKey v time key state) (history log) ≡ told_by (acts.VKey v time key state) (history log)
board_own v time key state log =
    says_aside (acts.VKey v time key state) (history log) (history_is log) (vkey_aside v time key state)

-- what is known of a key before it is sent

known : (capacity : ℕ) (e : Entry) (older : List Entry) (act : Act) (b of_board : Bool) (w : KeyWay) →
    act_at e older ≡ act →
    key_before act (resolve older) ≡ sent_where b of_board (standing (history (resolve older))) → b ≡ true →
    way_of (record { of_board = of_board; standing = standing (history (resolve older)) }) (was_passed e older)
    (was_put capacity e older) ≡ w →
    option_map (λ sent. way_of sent (was_passed e older) (was_put capacity e older))
    (key_before (act_at e older) (resolve older)) ≡ Some w
known capacity e older act b of_board w c k l is =
    let say : Option KeySent → Option KeyWay =
    option_map (λ (sent : KeySent). way_of sent (was_passed e older) (was_put capacity e older)) in
    ap (λ (a : Act). say (key_before a (resolve older))) c ∙ ap say k
    ∙ ap (λ (b : Bool). say (sent_where b of_board (standing (history (resolve older))))) l ∙ ap Some is

pub keys_routed : KeysRouted
keys_routed capacity e older time key state c l =
    let log = history (resolve older) in
    let act = acts.Key time key state in
    known capacity e older act (is_live act log) false
    (way_by (key_route log key state) false (was_put capacity e older) (standing log)) c refl l
    (sent_by capacity e older (next log) time key state false (key_route log key state) (standing log)
    (ap (λ (a : Act). told a (resolve older)) c
    ∙ tells act (resolve older) l (key_own time key state (resolve older)))
    (key_grab log key state))

pub board_keys_routed : BoardKeysRouted
board_keys_routed capacity e older v time key state c l =
    let log = history (resolve older) in
    let act = acts.VKey v time key state in
    known capacity e older act (is_live act log) true
    (way_by (board_route log v key state) true (was_put capacity e older) (standing log)) c refl l
    (sent_by capacity e older (next log) time key state true (board_route log v key state) (standing log)
    (ap (λ (a : Act). told a (resolve older)) c
    ∙ tells act (resolve older) l (board_own v time key state (resolve older)))
    (board_grab log v key state))

-- why a key passes by the grab that stands

no_first : (log : List Act) (went : Option ℕ) → as_first log went ≡ ToShell → went ≡ None
no_first log None e = refl
no_first log (Some x) e = by (grab_stands log x) e
  where
    by : (b : Bool) → (if b then ToGrab x else Nowhere) ≡ ToShell → Some x ≡ None
    by true e = cc
    by false e = cc

past_by : (log : List Act) (d p f : Bool) (went opens : Option ℕ) (g : ℕ) → opens ≡ Some g →
    (if d then as_first log went
    else (if not p then ToShell else (if f then to_standing opens else Refused))) ≡ ToShell →
    ((d ≡ true) × (went ≡ None)) ⊎ ((d ≡ false) × (p ≡ false))
past_by log true p f went opens g s e = inl (refl, no_first log went e)
past_by log false false f went opens g s e = inr (refl, refl)
past_by log false true true went opens g s e =
    let two : ToGrab g ≡ ToShell = ap to_standing (sym s) ∙ e in cc
past_by log false true false went opens g s e = cc

pub past_has_no_press : PastHasNoPress
past_has_no_press log key state g s e =
    past_by log (is_down log key) (is_press state) (nat_lt (number_down log) 64) (first_went log key) (standing log)
    g s e

-- why a key goes nowhere

fallen : (log : List Act) (went : Option ℕ) → as_first log went ≡ Nowhere →
    (g : ℕ) × (went ≡ Some g) × (grab_stands log g ≡ false)
fallen log None e = cc
fallen log (Some x) e = by (grab_stands log x) refl e
  where
    by : (b : Bool) → grab_stands log x ≡ b → (if b then ToGrab x else Nowhere) ≡ Nowhere →
        (g : ℕ) × (Some x ≡ Some g) × (grab_stands log g ≡ false)
    by true s e = cc
    by false s e = (x, refl, s)

opens_somewhere : (o : Option ℕ) → to_standing o ≡ Nowhere → ⊥
opens_somewhere None e = cc
opens_somewhere (Some g) e = cc

nowhere_by : (log : List Act) (d p f : Bool) (went opens : Option ℕ) →
    (if d then as_first log went
    else (if not p then ToShell else (if f then to_standing opens else Refused))) ≡ Nowhere →
    (g : ℕ) × (went ≡ Some g) × (grab_stands log g ≡ false)
nowhere_by log true p f went opens e = fallen log went e
nowhere_by log false false f went opens e = cc
nowhere_by log false true true went opens e = absurd (opens_somewhere opens e)
nowhere_by log false true false went opens e = cc

pub nowhere_has_fallen : NowhereHasFallen
nowhere_has_fallen log key state e =
    nowhere_by log (is_down log key) (is_press state) (nat_lt (number_down log) 64) (first_went log key)
    (standing log) e
