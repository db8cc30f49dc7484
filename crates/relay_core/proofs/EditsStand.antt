-- A method's requests keep that the relay stands for the history.
use Rattle.std.proofs.Common.{◌≡◌, ℕ, ℤ, ◌+◌, ◌≤◌, List, [], ◌∷◌, length, Bool, true, false, Option, Some, None, ap, refl, sym, subst, ◌∙◌}
use Rattle.std.specs.Prelude.{◌==◌, ◌&&◌, if◌then◌else◌, is_some}
use Rattle.relay_model.specs.declared.act.Act.{Act}
use Rattle.relay_model.specs.declared.act.Act.TheVariants as acts
use Rattle.relay_model.specs.Objects as model
use Rattle.relay_model.specs.Objects.{is_at}
use Rattle.relay_model.specs.Focus.{where_alive}
use Rattle.relay_model.specs.Hold.{kept, holder}
use Rattle.relay_model.specs.Activation.{serving, makes_serving, updates, notice, begun, begun_of, begun_by, begun_for, dones}
use Rattle.relay_model.specs.Batch.{Batch, no_deletion, no_preedit, edits_by, edits_past}
use Rattle.relay_model.proofs.ActsOrIdle.{IsHistory}
use Rattle.relay_model.proofs.FocusLaws.{IsSteady, focus_same, and_false}
use Rattle.relay_model.proofs.HoldLaws.{kept_same, and_true}
use Rattle.relay_model.proofs.ActivationLaws.{serving_same, begun_step, dones_step, dones_by, begun_within}
use Rattle.relay_model.proofs.BatchLaws.{edits_step}
use Rattle.edit_batch.specs.Calls.{LastEdits}
use Rattle.relay_core.specs.Machine.{State, no_edits, counted, edited}
use Rattle.relay_core.specs.Stands.{Stands, StandsServed, edits_of, edits_since}
use Rattle.relay_core.proofs.ActsLeaveScreen.{IsCalm, keys_same, string_calm, preedit_calm, delete_calm, mcommit_calm}
use Rattle.relay_core.proofs.HistoryEntries.{eqb_sym}
use Rattle.relay_core.proofs.KeptFields.{IsSilent}
use Rattle.relay_core.proofs.EntriesMove.{entries_same}
use Rattle.relay_core.proofs.ServiceIsKept.{ServedIn, served_none}
use Rattle.relay_core.proofs.SteadyActs.{string_steady, preedit_steady, delete_steady, mcommit_steady, string_silent, preedit_silent, delete_silent, mcommit_silent, all_stay, notice_quiet}
use Rattle.relay_core.proofs.SteadyActsStand.{one_more}

-- the pending edits are what the act makes of them
edited_by : (s : State) (act : Act) (log : List Act) (edits : LastEdits) (o : Option ℕ) → serving log ≡ o →
    ServedIn s log → serving (act ∷ log) ≡ o →
    notice act log ≡ None → edits ≡ edits_since (act ∷ log) o (begun_of log o) →
    StandsServed s.serving edits s.active s.dones s.since (act ∷ log)
edited_by s act log edits None e h l q t =
    let a : s.serving ≡ None = h.serving_now ∙ e in
    let c : s.active ≡ false = rw e at h.active_now in
    let d : s.dones ≡ 0 = rw e at h.dones_now in
    let f : s.since ≡ 0 = rw e at h.since_now in
    rw (a, t, c, d, f) (served_none act log l)
edited_by s act log edits (Some m) e h l q t =
    let begins : begun_for (act ∷ log) m ≡ begun_for log m =
    begun_step act log m l ∙ ap (λ o. begun_by (length log + 1) o (begun_for log m)) q in
    let told : dones (act ∷ log) m ≡ dones log m =
    dones_step act log m l ∙ ap (λ o. dones_by o (length log + 1) (dones log m)) q in
    record {
      serving_now = h.serving_now ∙ e ∙ sym l;
      edits_now = rw (l, begins) t;
      active_now = rw (l, begins) (rw e at h.active_now);
      dones_now = rw (l, told) (rw e at h.dones_now);
      since_now = rw (l, begins, told) (rw e at h.since_now);
    }

served_edited : (s : State) (act : Act) (log : List Act) (edits : LastEdits) → ServedIn s log →
    serving (act ∷ log) ≡ serving log →
    notice act log ≡ None → edits ≡ edits_since (act ∷ log) (serving log) (begun log) →
    StandsServed s.serving edits s.active s.dones s.since (act ∷ log)
served_edited s act log edits h l q t = edited_by s act log edits (serving log) refl h l q t

-- An act of the method m, which makes this of its pending edits, and of no other's.
pub record IsEdit (act : Act) (m : ℕ) (makes : LastEdits → LastEdits) : Type 0 where
  pub steady : IsSteady act
  pub silent : IsSilent act
  pub calm : IsCalm act
  pub new : (log : List Act) → model.made act (length log + 1) (model.owner (model.object log (model.maker act))) ≡ None
  pub holds : (log : List Act) → holder (act ∷ log) ≡ kept act log (holder log)
  pub serves : (log : List Act) → serving (act ∷ log) ≡ where_alive (act ∷ log) (serving log)
  pub serving_new : (log : List Act) → makes_serving act log ≡ false
  pub updating : (log : List Act) → updates act log ≡ false
  pub edits : (k : ℕ) (rest : Batch) →
      edits_of (edits_by act k rest) ≡ (if m == k then makes (edits_of rest) else edits_of rest)

edit_at : (act : Act) (log : List Act) (m : ℕ) (makes : LastEdits → LastEdits) (o b : Option ℕ) (old : LastEdits) →
    IsEdit act m makes →
    ((n : ℕ) → b ≡ Some n → n ≤ length log) → old ≡ edits_since log o b →
    (if is_at o m && is_some b then makes old else old) ≡ edits_since (act ∷ log) o b
edit_at act log m makes None b old k w e = e
edit_at act log m makes (Some j) None old k w e = rw (and_false (j == m)) e
edit_at act log m makes (Some j) (Some n) old k w e =
    rw (and_true (j == m)) (ap (λ r. if j == m then makes r else r) e ∙
    ap (λ c. if c then makes (edits_of (edits_past n log j)) else edits_of (edits_past n log j)) (eqb_sym j m) ∙
    sym (ap edits_of (edits_step act log n j (w n refl)) ∙ k.edits j (edits_past n log j)))

begun_low : (log : List Act) (o : Option ℕ) (n : ℕ) → begun_of log o ≡ Some n → n ≤ length log
begun_low log None n e = cc
begun_low log (Some m) n e = begun_within log m n e

-- a choice of edits in a record
chosen : (b : Bool) (edits : LastEdits) (s : State) →
    (if b then record s { edits = edits } else s) ≡ record s { edits = (if b then edits else s.edits) }
chosen true edits s = refl
chosen false edits s = refl

edit_of : (s : State) (log : List Act) (act : Act) (m : ℕ) (makes : LastEdits → LastEdits) (new : LastEdits) →
    IsHistory log → IsEdit act m makes → Stands s log →
    new ≡ edits_since (act ∷ log) (serving log) (begun log) → Stands (record (counted s) { edits = new }) (act ∷ log)
edit_of s log act m makes new i k h t =
    let held : holder (act ∷ log) ≡ holder log = k.holds log ∙ kept_same act log i k.steady in
    record {
      acts_now = one_more s act log h;
      objects_now =
          h.objects_now
          ∙ sym (entries_same act log (all_stay act log i k.steady k.silent (k.calm.areas log) (k.holds log))
          (k.new log));
      focus_now = h.focus_now ∙ sym (focus_same act log i k.steady);
      holder_now = h.holder_now ∙ sym held;
      served_now = served_edited s act log new h.served_now (serving_same act log (k.serves log) k.steady)
          (notice_quiet act log (k.silent.begins log) (k.serving_new log) (k.updating log) held) t;
      screen_now = h.screen_now ∙ sym (k.calm.screens log);
      keys_now = keys_same act log s.keys k.calm (k.serves log) k.steady.keeps h.keys_now;
    }

pub stands_edit : (s : State) (log : List Act) (act : Act) (m : ℕ) (makes : LastEdits → LastEdits) → IsHistory log →
    IsEdit act m makes → Stands s log →
    Stands (edited m (makes s.edits) (counted s)) (act ∷ log)
stands_edit s log act m makes i k h =
    let a : s.serving ≡ serving log = h.served_now.serving_now in
    let c : s.active ≡ is_some (begun log) = h.served_now.active_now in
    let d : (is_at s.serving m && s.active) ≡ (is_at (serving log) m && is_some (begun log)) = cc in
    let new : (if is_at s.serving m && s.active then makes s.edits else s.edits)
    ≡ edits_since (act ∷ log) (serving log) (begun log) =
    ap (λ b. if b then makes s.edits else s.edits) d
    ∙ edit_at act log m makes (serving log) (begun log) s.edits k
    (begun_low log (serving log)) h.served_now.edits_now in
    let P : State → Type 0 = λ r. Stands r (act ∷ log) in
    subst P (sym (chosen (is_at s.serving m && s.active) (makes s.edits) (counted s)))
    (edit_of s log act m makes _ i k h new)

pub string_edits : (m : ℕ) (text : List ℕ) → IsEdit (acts.MString m text) m (λ e. record e { string = text })
string_edits m text = record {
  steady = string_steady m text;
  silent = string_silent m text;
  calm = string_calm m text;
  new = λ log. refl;
  holds = λ log. refl;
  serves = λ log. refl;
  serving_new = λ log. refl;
  updating = λ log. refl;
  edits = λ k rest. at (m == k) text rest;
}
  where
    at : (b : Bool) (text : List ℕ) (rest : Batch) →
        edits_of (record {
          deletion = rest.deletion;
          string = (if b then text else rest.string);
          preedit = rest.preedit;
        })
        ≡ (if b then record (edits_of rest) { string = text } else edits_of rest)
    at true text rest = refl
    at false text rest = refl

pub preedit_edits : (m : ℕ) (text : List ℕ) (begin end : ℤ) →
    IsEdit (acts.MPreedit m text begin end) m
    (λ e. record e { preedit = record { text = text; begin = begin; end = end } })
preedit_edits m text begin end = record {
  steady = preedit_steady m text begin end;
  silent = preedit_silent m text begin end;
  calm = preedit_calm m text begin end;
  new = λ log. refl;
  holds = λ log. refl;
  serves = λ log. refl;
  serving_new = λ log. refl;
  updating = λ log. refl;
  edits = λ k rest. at (m == k) text begin end rest;
}
  where
    at : (b : Bool) (text : List ℕ) (begin end : ℤ) (rest : Batch) →
        edits_of (record {
          deletion = rest.deletion;
          string = rest.string;
          preedit = (if b then record { text = text; begin = begin; end = end } else rest.preedit);
        })
        ≡ (if b then record (edits_of rest) { preedit = record { text = text; begin = begin; end = end } }
        else edits_of rest)
    at true text begin end rest = refl
    at false text begin end rest = refl

pub delete_edits : (m before after : ℕ) →
    IsEdit (acts.MDelete m before after) m (λ e. record e { deletion = (before, after) })
delete_edits m before after = record {
  steady = delete_steady m before after;
  silent = delete_silent m before after;
  calm = delete_calm m before after;
  new = λ log. refl;
  holds = λ log. refl;
  serves = λ log. refl;
  serving_new = λ log. refl;
  updating = λ log. refl;
  edits = λ k rest. at (m == k) before after rest;
}
  where
    at : (b : Bool) (before after : ℕ) (rest : Batch) →
        edits_of (record {
          deletion = (if b then record { before = before; after = after } else rest.deletion);
          string = rest.string;
          preedit = rest.preedit;
        })
        ≡ (if b then record (edits_of rest) { deletion = (before, after) } else edits_of rest)
    at true before after rest = refl
    at false before after rest = refl

mcommit_edits : (m serial : ℕ) → IsEdit (acts.MCommit m serial) m (λ e. no_edits)
mcommit_edits m serial = record {
  steady = mcommit_steady m serial;
  silent = mcommit_silent m serial;
  calm = mcommit_calm m serial;
  new = λ log. refl;
  holds = λ log. refl;
  serves = λ log. refl;
  serving_new = λ log. refl;
  updating = λ log. refl;
  edits = λ k rest. at (m == k) rest;
}
  where
    at : (b : Bool) (rest : Batch) →
        edits_of (record {
          deletion = (if b then no_deletion else rest.deletion);
          string = (if b then [] else rest.string);
          preedit = (if b then no_preedit else rest.preedit);
        })
        ≡ (if b then no_edits else edits_of rest)
    at true rest = refl
    at false rest = refl

-- without an activation nothing is pending
unbegun : (log : List Act) (o b : Option ℕ) (m : ℕ) (old : LastEdits) → old ≡ edits_since log o b →
    (if is_at o m then no_edits else old) ≡ (if is_at o m && is_some b then no_edits else old)
unbegun log None b m old e = refl
unbegun log (Some k) None m old e = rw (and_false (k == m)) (at (k == m) old e)
  where
    at : (c : Bool) (old : LastEdits) → old ≡ no_edits → (if c then no_edits else old) ≡ old
    at true old e = sym e
    at false old e = refl
unbegun log (Some k) (Some n) m old e = rw (and_true (k == m)) refl

pub stands_mcommit : (s : State) (log : List Act) (m serial : ℕ) → IsHistory log → Stands s log →
    Stands (if is_at s.serving m then record (counted s) { edits = no_edits } else counted s)
    (acts.MCommit m serial ∷ log)
stands_mcommit s log m serial i h =
    let d : is_at s.serving m ≡ is_at (serving log) m = ap (λ o. is_at o m) h.served_now.serving_now in
    let new : (if is_at s.serving m then no_edits else s.edits)
    ≡ edits_since (acts.MCommit m serial ∷ log) (serving log) (begun log) =
    ap (λ b. if b then no_edits else s.edits) d
    ∙ unbegun log (serving log) (begun log) m s.edits h.served_now.edits_now ∙
    edit_at (acts.MCommit m serial) log m (λ e. no_edits) (serving log) (begun log) s.edits (mcommit_edits m serial)
    (begun_low log (serving log)) h.served_now.edits_now in
    let P : State → Type 0 = λ r. Stands r (acts.MCommit m serial ∷ log) in
    subst P (sym (chosen (is_at s.serving m) no_edits (counted s)))
    (edit_of s log (acts.MCommit m serial) m (λ e. no_edits) _ i (mcommit_edits m serial) h new)
