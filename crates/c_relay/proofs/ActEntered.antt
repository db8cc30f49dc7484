-- What is kept of popups, and which are hidden, after an act that was taken.
use Rattle.std.proofs.Common.{◌≡◌, ℕ, ◌+◌, List, [], ◌∷◌, ◌++◌, length, map, filter, Bool, false, ap, sym, ◌∙◌}
use Rattle.std.specs.Prelude.{if◌then◌else◌, is_some}
use Rattle.std.specs.List.{flat_map, list_any}
use Rattle.relay_model.specs.declared.act.Act.{Act}
use Rattle.relay_model.specs.declared.act.Act.TheVariants as acts
use Rattle.relay_model.specs.Hold.{holder}
use Rattle.relay_model.specs.Told.{told_by}
use Rattle.relay_model.specs.Idle.{history}
use Rattle.relay_model.proofs.ActsOrIdle.{history_is}
use Rattle.relay_core.specs.Kept.{Shown}
use Rattle.c_relay.specs.declared.popups.KeptPopup.{KeptPopup}
use Rattle.c_relay.specs.declared.popups.Turn.{Turn}
use Rattle.c_relay.specs.Hidden.{hidden, hidden_by}
use Rattle.c_relay.specs.KeptPopups.{kept_popups, is_holders, made_popup, moves, tells_place, turn_of, turn_by, turned, hides, Taken}
use Rattle.c_relay.proofs.LiveHistory.{history_live}
use Rattle.c_relay.proofs.KeptAfterAct.{kept_after, hidden_after}
use Rattle.c_relay.proofs.QuietActs.{kept_quiet, hidden_quiet}

module _ (kept : List KeptPopup) (act : Act) (number : ℕ) (told : Bool) (relay : Shown) (log : List Act)
    (t : Taken kept act number told relay log) where
  -- an act that leaves all popups

  pub kept_still : moves act ≡ false → kept ≡ kept_popups (history (act ∷ log))
  kept_still n =
      t.before ∙ sym (kept_quiet act (history log) (history_is log) t.live n)
      ∙ ap kept_popups (sym (history_live act log t.live))

  pub hidden_none : moves act ≡ false → hidden act log ≡ []
  hidden_none n =
      ap (λ b. hidden_by (if b then act else acts.Idle) (history log)) t.live
      ∙ hidden_quiet act (history log) (history_is log) n

  -- any act

  abbrev TurnIs : Turn → Type 0
  TurnIs turn =
      turn
      ≡ turn_of (is_holders act (holder (history (act ∷ log)))) told (is_some (holder (history (act ∷ log))))

  told_is : told ≡ list_any tells_place (told_by act (history log))
  told_is = t.told ∙ ap (λ b. list_any tells_place (told_by (if b then act else acts.Idle) (history log))) t.live

  turn_is : (turn : Turn) → TurnIs turn → turn ≡ turn_by act (history log)
  turn_is turn e =
      e
      ∙ ap (λ (l : List Act). turn_of (is_holders act (holder l)) told (is_some (holder l)))
      (history_live act log t.live)
      ∙ ap (λ v. turn_of (is_holders act (holder (act ∷ history log))) v (is_some (holder (act ∷ history log)))) told_is

  abbrev after : List Act → Turn → List KeptPopup → ℕ → Bool → List KeptPopup
  after l turn ps n v = filter (λ (w : KeptPopup). w.is_alive) (map (turned l turn) ps) ++ made_popup act n v

  pub kept_moved : (turn : Turn) → TurnIs turn →
      after (history (act ∷ log)) turn kept number told ≡ kept_popups (history (act ∷ log))
  kept_moved turn e =
      let now : List Act = act ∷ history log in
      let by : Turn = turn_by act (history log) in
      ap (λ (l : List Act). after l turn kept number told) (history_live act log t.live)
      ∙ ap (λ (u : Turn). after now u kept number told) (turn_is turn e)
      ∙ ap (λ (ps : List KeptPopup). after now by ps number told) t.before
      ∙ ap (λ n. after now by (kept_popups (history log)) n told) t.numbered
      ∙ ap (λ v. after now by (kept_popups (history log)) (length (history log) + 1) v) told_is
      ∙ sym (kept_after act (history log) (history_is log) t.live)
      ∙ ap kept_popups (sym (history_live act log t.live))

  pub hidden_moved : (turn : Turn) → TurnIs turn →
      flat_map (hides (history (act ∷ log)) turn) kept ≡ hidden act log
  hidden_moved turn e =
      let now : List Act = act ∷ history log in
      ap (λ (l : List Act). flat_map (hides l turn) kept) (history_live act log t.live)
      ∙ ap (λ (u : Turn). flat_map (hides now u) kept) (turn_is turn e)
      ∙ ap (λ (ps : List KeptPopup). flat_map (hides now (turn_by act (history log))) ps) t.before
      ∙ hidden_after act (history log) (history_is log)
      ∙ sym (ap (λ b. hidden_by (if b then act else acts.Idle) (history log)) t.live)
