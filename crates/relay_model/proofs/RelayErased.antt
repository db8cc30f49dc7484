-- What is relayed is the same with Idle in the place of each act of boards.
use Rattle.std.proofs.Common.{◌≡◌, ℕ, ◌≤◌, ◌+◌, List, [], ◌∷◌, ◌++◌, length, Bool, true, false, Option, Some, None, ap, refl, sym, ◌∙◌, arith}
use Rattle.std.specs.Prelude.{◌==◌, ◌&&◌, ◌||◌, ◌^◌, ◌%◌, not, nat_le, if◌then◌else◌, is_some, is_none, unwrap_or}
use Rattle.serial_count.specs.Serial.{named as position_named}
use Rattle.relay_model.specs.declared.act.Act.{Act}
use Rattle.relay_model.specs.declared.act.Act.TheVariants as acts
use Rattle.relay_model.specs.declared.said.Said.{Said}
use Rattle.relay_model.specs.Objects.{next, is_at, is_kind, is_board_kind, is_field_kind, is_surface_kind, is_method_kind, is_peer_kind, object, alive, is_board, is_field, is_surface, is_method, is_peer, has_popup}
use Rattle.relay_model.specs.Focus.{focus, entered}
use Rattle.relay_model.specs.Hold.{word, holder, begins_hold}
use Rattle.relay_model.specs.Activation.{serving, Notice, Activates, Updates, Deactivates, makes_serving, activates, updates, deactivates, notice, notice_to, dones, begun_by, begun_for, begun_of, begun, at_position, named, is_from, fresh}
use Rattle.relay_model.specs.Batch.{Deletion, Preedit, Batch, no_deletion, no_preedit, deletion_by, last_deletion, string_by, last_string, preedit_by, last_preedit, edits_past, batch, commits, commit_count, group, group_of, relayed}
use Rattle.relay_model.specs.Idle.{is_live, is_place, is_sized, cleaned, history}
use Rattle.relay_model.specs.WithoutBoards.{is_of_boards, erased, without_boards}
use Rattle.relay_model.proofs.ActsOrIdle.{IsHistory, history_is}
use Rattle.relay_model.proofs.BoardsErased.{erase, length_erased, erased_drop, kind_erased, other_erased, popup_erased, focus_erased, entered_erased}
use Rattle.relay_model.proofs.HoldErased.{word_erased, begins_erased, holder_erased, serving_erased, refused_erased}

-- activations

makes_erased : (act : Act) (older : List Act) → IsHistory older →
    makes_serving (erased act older) (erase older) ≡ makes_serving act older
makes_erased (acts.Method p) older h = ap is_none (serving_erased older h)
makes_erased (acts.Drop x) older h = erased_drop (λ a. makes_serving a (erase older)) older x refl
makes_erased _ older h = refl

updates_erased : (act : Act) (older : List Act) → IsHistory older →
    updates (erased act older) (erase older) ≡ updates act older
updates_erased (acts.Commit f) older h =
    ap (λ o. is_at o f && is_none (word (erase older) f)) (holder_erased older h)
    ∙ ap (λ w. is_at (holder older) f && is_none w) (word_erased older f h)
updates_erased (acts.Drop x) older h = erased_drop (λ a. updates a (erase older)) older x refl
updates_erased _ older h = refl

activates_erased : (act : Act) (older : List Act) → IsHistory (act ∷ older) →
    activates (erased act older) (erase older) ≡ activates act older
activates_erased act older h =
    ap (λ b. b || (makes_serving (erased act older) (erase older) && is_some (holder (erase (act ∷ older)))))
    (begins_erased act older h.1) ∙
    ap (λ b. begins_hold act older || (b && is_some (holder (erase (act ∷ older))))) (makes_erased act older h.1) ∙
    ap (λ o. begins_hold act older || (makes_serving act older && is_some o)) (holder_erased (act ∷ older) h)

deactivates_erased : (act : Act) (older : List Act) → IsHistory (act ∷ older) →
    deactivates (erased act older) (erase older) ≡ deactivates act older
deactivates_erased act older h =
    ap (λ o. is_some o && is_none (holder (erase (act ∷ older)))) (holder_erased older h.1) ∙
    ap (λ o. is_some (holder older) && is_none o) (holder_erased (act ∷ older) h)

pub notice_erased : (act : Act) (older : List Act) → IsHistory (act ∷ older) →
    notice (erased act older) (erase older) ≡ notice act older
notice_erased act older h =
    rw (activates_erased act older h, updates_erased act older h.1, deactivates_erased act older h) refl

told_erased : (m : ℕ) (act : Act) (older : List Act) → IsHistory (act ∷ older) →
    notice_to m (erased act older) (erase older) ≡ notice_to m act older
told_erased m act older h =
    ap (λ s. if is_at s m then notice (erased act older) (erase older) else None) (serving_erased (act ∷ older) h) ∙
    ap (λ n. if is_at (serving (act ∷ older)) m then n else None) (notice_erased act older h)

pub dones_erased : (log : List Act) (m : ℕ) → IsHistory log → dones (erase log) m ≡ dones log m
dones_erased [] m h = refl
dones_erased (act ∷ older) m h =
    ap (λ o. if is_some o then dones (erase older) m ++ next (erase older) ∷ [] else dones (erase older) m)
    (told_erased m act older h) ∙
    ap (λ n. if is_some (notice_to m act older) then dones (erase older) m ++ (n + 1) ∷ [] else dones (erase older) m)
    (length_erased older) ∙
    ap (λ ds. if is_some (notice_to m act older) then ds ++ next older ∷ [] else ds) (dones_erased older m h.1)

begun_for_erased : (log : List Act) (m : ℕ) → IsHistory log → begun_for (erase log) m ≡ begun_for log m
begun_for_erased [] m h = refl
begun_for_erased (act ∷ older) m h =
    ap (λ n. begun_by (n + 1) (notice_to m (erased act older) (erase older)) (begun_for (erase older) m))
    (length_erased older) ∙
    ap (λ o. begun_by (next older) o (begun_for (erase older) m)) (told_erased m act older h) ∙
    ap (begun_by (next older) (notice_to m act older)) (begun_for_erased older m h.1)

begun_of_erased : (log : List Act) (o : Option ℕ) → IsHistory log → begun_of (erase log) o ≡ begun_of log o
begun_of_erased log None h = refl
begun_of_erased log (Some m) h = begun_for_erased log m h

pub begun_erased : (log : List Act) → IsHistory log → begun (erase log) ≡ begun log
begun_erased log h = ap (begun_of (erase log)) (serving_erased log h) ∙ begun_of_erased log (serving log) h

named_erased : (log : List Act) (m serial : ℕ) → IsHistory log → named (erase log) m serial ≡ named log m serial
named_erased log m serial h = ap (λ ds. at_position ds (position_named (length ds) serial)) (dones_erased log m h)

pub fresh_erased : (act : Act) (older : List Act) → IsHistory older →
    fresh (erased act older) (erase older) ≡ fresh act older
fresh_erased (acts.MCommit m serial) older h =
    ap (λ o. is_at o m && is_from (begun (erase older)) (named (erase older) m serial)) (serving_erased older h) ∙
    ap (λ b. is_at (serving older) m && is_from b (named (erase older) m serial)) (begun_erased older h) ∙
    ap (λ n. is_at (serving older) m && is_from (begun older) n) (named_erased older m serial h)
fresh_erased (acts.Drop x) older h = erased_drop (λ a. fresh a (erase older)) older x refl
fresh_erased _ older h = refl

-- batches

deletion_erased : (from : ℕ) (log : List Act) (m : ℕ) → last_deletion from (erase log) m ≡ last_deletion from log m
deletion_erased from [] m = refl
deletion_erased from (act ∷ older) m =
    ap (λ n. if nat_le (n + 1) from then no_deletion
    else deletion_by (erased act older) m (last_deletion from (erase older) m)) (length_erased older) ∙
    ap (λ d. if nat_le (next older) from then no_deletion else deletion_by (erased act older) m d)
    (deletion_erased from older m) ∙
    ap (λ d. if nat_le (next older) from then no_deletion else d) (by act older (last_deletion from older m))
  where
    by : (act : Act) (older : List Act) (d : Deletion) → deletion_by (erased act older) m d ≡ deletion_by act m d
    by (acts.Drop x) older d = erased_drop (λ a. deletion_by a m d) older x refl
    by _ older d = refl

string_erased : (from : ℕ) (log : List Act) (m : ℕ) → last_string from (erase log) m ≡ last_string from log m
string_erased from [] m = refl
string_erased from (act ∷ older) m =
    ap (λ n. if nat_le (n + 1) from then [] else string_by (erased act older) m (last_string from (erase older) m))
    (length_erased older) ∙
    ap (λ t. if nat_le (next older) from then [] else string_by (erased act older) m t) (string_erased from older m) ∙
    ap (λ t. if nat_le (next older) from then [] else t) (by act older (last_string from older m))
  where
    by : (act : Act) (older : List Act) (t : List ℕ) → string_by (erased act older) m t ≡ string_by act m t
    by (acts.Drop x) older t = erased_drop (λ a. string_by a m t) older x refl
    by _ older t = refl

preedit_erased : (from : ℕ) (log : List Act) (m : ℕ) → last_preedit from (erase log) m ≡ last_preedit from log m
preedit_erased from [] m = refl
preedit_erased from (act ∷ older) m =
    ap (λ n. if nat_le (n + 1) from then no_preedit
    else preedit_by (erased act older) m (last_preedit from (erase older) m)) (length_erased older) ∙
    ap (λ p. if nat_le (next older) from then no_preedit else preedit_by (erased act older) m p)
    (preedit_erased from older m) ∙
    ap (λ p. if nat_le (next older) from then no_preedit else p) (by act older (last_preedit from older m))
  where
    by : (act : Act) (older : List Act) (p : Preedit) → preedit_by (erased act older) m p ≡ preedit_by act m p
    by (acts.Drop x) older p = erased_drop (λ a. preedit_by a m p) older x refl
    by _ older p = refl

edits_erased : (from : ℕ) (log : List Act) (m : ℕ) → edits_past from (erase log) m ≡ edits_past from log m
edits_erased from log m = rw (deletion_erased from log m, string_erased from log m, preedit_erased from log m) refl

pub batch_erased : (log : List Act) (m : ℕ) → IsHistory log → batch (erase log) m ≡ batch log m
batch_erased log m h =
    ap (λ b. edits_past (unwrap_or b 0) (erase log) m) (begun_erased log h)
    ∙ edits_erased (unwrap_or (begun log) 0) log m

commits_erased : (log : List Act) (f : ℕ) → commits (erase log) f ≡ commits log f
commits_erased [] f = refl
commits_erased (acts.Commit g ∷ older) f = ap (λ n. if g == f then n + 1 else n) (commits_erased older f)
commits_erased (acts.Drop x ∷ older) f =
    erased_drop (λ a. commits (a ∷ erase older) f) older x refl ∙ commits_erased older f
commits_erased (_ ∷ older) f = commits_erased older f

pub count_erased : (log : List Act) (f : ℕ) → commit_count (erase log) f ≡ commit_count log f
count_erased log f = ap (λ n. n % 2 ^ 32) (commits_erased log f)

pub group_erased : (act : Act) (older : List Act) (f : ℕ) → IsHistory older →
    group_of (erased act older) (erase older) f ≡ group_of act older f
group_erased (acts.MCommit m serial) older f h =
    ap (λ b. group b (commit_count (erase older) f)) (batch_erased older m h)
    ∙ ap (group (batch older m)) (count_erased older f)
group_erased (acts.Drop x) older f h = erased_drop (λ a. group_of a (erase older) f) older x refl
group_erased _ older f h = refl

-- what is relayed

relayed_erased : (log : List Act) (f : ℕ) → IsHistory log → relayed (erase log) f ≡ relayed log f
relayed_erased [] f h = refl
relayed_erased (act ∷ older) f h =
    ap (λ b. if b && is_at (holder (erase older)) f
    then relayed (erase older) f ++ group_of (erased act older) (erase older) f ∷ [] else relayed (erase older) f)
    (fresh_erased act older h.1) ∙
    ap (λ o. if fresh act older && is_at o f
    then relayed (erase older) f ++ group_of (erased act older) (erase older) f ∷ [] else relayed (erase older) f)
    (holder_erased older h.1) ∙
    ap (λ g. if fresh act older && is_at (holder older) f then relayed (erase older) f ++ g ∷ []
    else relayed (erase older) f) (group_erased act older f h.1) ∙
    ap (λ gs. if fresh act older && is_at (holder older) f then gs ++ group_of act older f ∷ [] else gs)
    (relayed_erased older f h.1)

-- the history of the acts without boards is the history without them

drop_lives : (older : List Act) (x : ℕ) → IsHistory older → is_board older x ≡ false →
    is_live (acts.Drop x) (erase older) ≡ is_live (acts.Drop x) older
drop_lives older x h e =
    ap (λ o. is_some o && not (is_kind is_peer_kind o)) (other_erased older x h e)

live_erased : (act : Act) (older : List Act) → IsHistory older → is_of_boards act older ≡ false →
    is_live act (erase older) ≡ is_live act older
live_erased acts.Peer older h e = refl
live_erased (acts.Gone p cause) older h e = kind_erased is_peer_kind refl older p h
live_erased (acts.Surface p) older h e = kind_erased is_peer_kind refl older p h
live_erased (acts.Field p) older h e = kind_erased is_peer_kind refl older p h
live_erased (acts.Method p) older h e = kind_erased is_peer_kind refl older p h
live_erased (acts.Popup m s) older h e =
    ap (λ b. b && (is_surface (erase older) s && not (has_popup (erase older) s)))
    (kind_erased is_method_kind refl older m h) ∙
    ap (λ b. is_method older m && (b && not (has_popup (erase older) s))) (kind_erased is_surface_kind refl older s h) ∙
    ap (λ b. is_method older m && (is_surface older s && not b)) (popup_erased older s h)
live_erased (acts.Grab m) older h e = kind_erased is_method_kind refl older m h
live_erased (acts.Drop x) older h e = drop_lives older x h e
live_erased (acts.Focus s) older h e =
    ap (λ b. b && not (is_at (focus (erase older)) s)) (kind_erased is_surface_kind refl older s h) ∙
    ap (λ o. is_surface older s && not (is_at o s)) (focus_erased older h)
live_erased acts.Unfocus older h e = ap (λ o. not (is_none o)) (focus_erased older h)
live_erased (acts.Area s rect) older h e = kind_erased is_surface_kind refl older s h
live_erased (acts.Screen size) older h e = refl
live_erased (acts.Enable f) older h e = entered_erased older f h
live_erased (acts.Disable f) older h e = entered_erased older f h
live_erased (acts.Surround f text cursor anchor) older h e =
    ap (λ b. b && is_place text cursor && is_place text anchor) (entered_erased older f h)
live_erased (acts.Cause f cause) older h e = entered_erased older f h
live_erased (acts.Content f hint purpose) older h e = entered_erased older f h
live_erased (acts.Cursor f rect) older h e = ap (λ b. b && is_sized rect) (entered_erased older f h)
live_erased (acts.Commit f) older h e = kind_erased is_field_kind refl older f h
live_erased (acts.MString m text) older h e = kind_erased is_method_kind refl older m h
live_erased (acts.MPreedit m text begin end) older h e = kind_erased is_method_kind refl older m h
live_erased (acts.MDelete m before after) older h e = kind_erased is_method_kind refl older m h
live_erased (acts.MCommit m serial) older h e = kind_erased is_method_kind refl older m h
live_erased (acts.Key time key state) older h e = ap not (refused_erased older key state)
live_erased (acts.Mods mods) older h e = refl
live_erased (acts.Keymap keymap) older h e = refl
live_erased (acts.Repeat repeat) older h e = refl
live_erased (acts.Registry p role) older h e = kind_erased is_peer_kind refl older p h
live_erased (acts.Sync p) older h e = kind_erased is_peer_kind refl older p h
live_erased (acts.Seat p) older h e = kind_erased is_peer_kind refl older p h
live_erased (acts.Thing p) older h e = kind_erased is_peer_kind refl older p h
live_erased (acts.Bad p fault x) older h e = kind_erased is_peer_kind refl older p h
live_erased (acts.VBoard p) older h e = cc
live_erased (acts.VKeymap v keymap) older h e = cc
live_erased (acts.VKey v time key state) older h e = cc
live_erased (acts.VMods v mods) older h e = cc
live_erased (acts.Took p bytes) older h e = refl
live_erased acts.Idle older h e = refl

idle_if : (b : Bool) (act : Act) (older : List Act) → is_of_boards act older ≡ true →
    acts.Idle ≡ erased (if b then act else acts.Idle) older
idle_if true act older e = rw e refl
idle_if false act older e = refl

act_if : (b : Bool) (act : Act) (older : List Act) → is_of_boards act older ≡ false →
    (if b then act else acts.Idle) ≡ erased (if b then act else acts.Idle) older
act_if true act older e = rw e refl
act_if false act older e = refl

cleaned_erased : (act : Act) (older : List Act) (b : Bool) → IsHistory older → is_of_boards act older ≡ b →
    cleaned (if b then acts.Idle else act) (erase older) ≡ erased (cleaned act older) older
cleaned_erased act older true h e = idle_if (is_live act older) act older e
cleaned_erased act older false h e =
    ap (λ b. if b then act else acts.Idle) (live_erased act older h e) ∙ act_if (is_live act older) act older e

history_erased : (acts : List Act) → history (without_boards acts) ≡ erase (history acts)
history_erased [] = refl
history_erased (act ∷ older) =
    ap (λ h. cleaned (erased act (history older)) h ∷ h) (history_erased older) ∙
    ap (λ a. a ∷ erase (history older))
    (cleaned_erased act (history older) (is_of_boards act (history older)) (history_is older) refl)

-- boards change nothing of what is relayed
pub relayed_without_boards : (acts : List Act) (f : ℕ) →
    relayed (history (without_boards acts)) f ≡ relayed (history acts) f
relayed_without_boards acts f =
    ap (λ h. relayed h f) (history_erased acts) ∙ relayed_erased (history acts) f (history_is acts)
